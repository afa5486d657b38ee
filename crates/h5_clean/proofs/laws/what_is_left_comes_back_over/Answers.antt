use Rattle.h5_clean.specs.Pass.{cleaned}
use Rattle.h5_clean.proofs.laws.what_is_left_comes_back_over.Goals as goal

pub returns : goal.returns
returns g c = λ r html out h seen told name attrs scripting allows_scripting holds body parses.
    c.fragments_come_back_over.ensures seen told name attrs scripting allows_scripting (cleaned r h.source) out holds body h.text parses
