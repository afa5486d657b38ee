use Rattle.h5_clean.specs.Pass.{cleaned, first_place}
use Rattle.h5_clean.specs.Places.{around}
use Rattle.h5_clean.proofs.BoxLaws.{text_behind}
use Rattle.h5_clean.proofs.PassLaws.{cleaned_around}
use Rattle.h5_clean.proofs.laws.what_is_left_stays_in_a_page.Goals as goal

pub returns : goal.returns
returns g c = λ r html out h chunks first now box rest took was unfailed_then is unfailed none here some.
    let nodes = cleaned r h.source in (
      text_behind nodes out rest h.text.written,
      c.pages_keep_boxes.ensures chunks first now (around (first_place r)) box nodes rest took was unfailed_then is unfailed none here (cleaned_around r h.source) h.text.readable some,
    )
