use Rattle.h5_clean.specs.Pass.{cleaned, first_place}
use Rattle.h5_clean.specs.Places.{around}
use Rattle.h5_clean.proofs.BoxLaws.{text_behind}
use Rattle.h5_clean.proofs.PassLaws.{cleaned_around}
use Rattle.h5_clean.proofs.laws.what_is_left_stays_in_its_box.Goals as goal

pub returns : goal.returns
returns c = λ choices r html out h foreign place view box rest here fitting ended failed some.
    let nodes = cleaned r h.source in (
      text_behind nodes out rest h.text.written,
      c.texts_stay_in_their_box.ensures choices foreign place view (around (first_place r)) box nodes rest here fitting ended failed (cleaned_around r h.source) h.text.readable some,
    )
