use Rattle.std.proofs.Common.{◌≡◌, length}
use denote.Text.{Utf8}
use denote.Shadow.{shadow}
use Rattle.h5_tables.specs.MetaEncoding.{after_charset}
use Rattle.h5_tables.proofs.meta_encoding.after_charset.Given as goal

-- the unread text gives the result of the whole
abbrev pub invariant-loop-n : goal.invariant-loop-n
invariant-loop-n l = shadow (Utf8 l.unread) × (after_charset l.text ≡ after_charset l.unread)

abbrev pub decreases-loop-n : goal.decreases-loop-n
decreases-loop-n l = length l.unread
