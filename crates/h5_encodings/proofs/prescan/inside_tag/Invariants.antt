use Rattle.std.proofs.Common.{◌≡◌, ◌-◌, length}
use Rattle.h5_encodings.specs.Prescan.{attributes}
use Rattle.h5_encodings.specs.Said.{nothing_said}
use Rattle.h5_encodings.proofs.prescan.inside_tag.Given as goal

-- the remaining bytes have the result of all bytes
abbrev pub invariant-loop-attribute : goal.invariant-loop-attribute
invariant-loop-attribute l = attributes (length l.text - l._attribute) l.said l.rest ≡ attributes (length l.text) nothing_said l.text
