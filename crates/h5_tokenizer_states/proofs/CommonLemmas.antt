-- The common names by their numbers, and the bytes by which they are found. `write_table.py` writes this file.
use Rattle.std.proofs.Common.{◌≡◌, ℕ, ◌≤◌, true, refl, ap, ◌∙◌, List, length, get_or, codes}
use Rattle.h5_tokenizer_spec.specs.ReferenceTable.{references}
use Rattle.h5_tokenizer_spec.specs.Words.{begins, same}
use Rattle.h5_tokenizer_states.specs.Numbered.{name_of}
use Rattle.h5_tokenizer_states.proofs.HasBytes.{has_begins}

pub amp_stands : name_of 657 ≡ codes "amp;"
unfolding references
amp_stands = refl

pub amp_in_front : (text : List ℕ) → 4 ≤ length text → get_or text 0 0 ≡ 97 → get_or text 1 0 ≡ 109 → get_or text 2 0 ≡ 112 → get_or text 3 0 ≡ 59 → begins same (name_of 657) text ≡ true
amp_in_front text le at0 at1 at2 at3 = ap (λ name. begins same name text) amp_stands ∙ has_begins (codes "amp;") text (at0, (at1, (at2, (at3, le))))

pub lt_stands : name_of 1390 ≡ codes "lt;"
unfolding references
lt_stands = refl

pub lt_in_front : (text : List ℕ) → 3 ≤ length text → get_or text 0 0 ≡ 108 → get_or text 1 0 ≡ 116 → get_or text 2 0 ≡ 59 → begins same (name_of 1390) text ≡ true
lt_in_front text le at0 at1 at2 = ap (λ name. begins same name text) lt_stands ∙ has_begins (codes "lt;") text (at0, (at1, (at2, le)))

pub gt_stands : name_of 1135 ≡ codes "gt;"
unfolding references
gt_stands = refl

pub gt_in_front : (text : List ℕ) → 3 ≤ length text → get_or text 0 0 ≡ 103 → get_or text 1 0 ≡ 116 → get_or text 2 0 ≡ 59 → begins same (name_of 1135) text ≡ true
gt_in_front text le at0 at1 at2 = ap (λ name. begins same name text) gt_stands ∙ has_begins (codes "gt;") text (at0, (at1, (at2, le)))

pub quot_stands : name_of 1754 ≡ codes "quot;"
unfolding references
quot_stands = refl

pub quot_in_front : (text : List ℕ) → 5 ≤ length text → get_or text 0 0 ≡ 113 → get_or text 1 0 ≡ 117 → get_or text 2 0 ≡ 111 → get_or text 3 0 ≡ 116 → get_or text 4 0 ≡ 59 → begins same (name_of 1754) text ≡ true
quot_in_front text le at0 at1 at2 at3 at4 = ap (λ name. begins same name text) quot_stands ∙ has_begins (codes "quot;") text (at0, (at1, (at2, (at3, (at4, le)))))

pub nbsp_stands : name_of 1469 ≡ codes "nbsp;"
unfolding references
nbsp_stands = refl

pub nbsp_in_front : (text : List ℕ) → 5 ≤ length text → get_or text 0 0 ≡ 110 → get_or text 1 0 ≡ 98 → get_or text 2 0 ≡ 115 → get_or text 3 0 ≡ 112 → get_or text 4 0 ≡ 59 → begins same (name_of 1469) text ≡ true
nbsp_in_front text le at0 at1 at2 at3 at4 = ap (λ name. begins same name text) nbsp_stands ∙ has_begins (codes "nbsp;") text (at0, (at1, (at2, (at3, (at4, le)))))

-- by which each arm of the match is proved
pub ruleset common_names = (amp_stands, lt_stands, gt_stands, quot_stands, nbsp_stands, amp_in_front, lt_in_front, gt_in_front, quot_in_front, nbsp_in_front)
