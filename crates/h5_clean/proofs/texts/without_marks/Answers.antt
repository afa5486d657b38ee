use Rattle.std.proofs.Common.{◌≡◌, ℕ, Bool, true, false, cond, List, [], ◌∷◌, ◌++◌, Option, None, Some, IfSome, drop, refl, sym, ap, ◌∙◌, arith, encode_utf8}
use Rattle.std.proofs.lemmas.Str.{len_utf8_bounds}
use Rattle.std.specs.Str.Pattern.{CutsPrefixes, FindsCharPrefix}
use Rattle.h5_clean.specs.Texts.{without_marks}
use Rattle.h5_clean.proofs.TextLaws.{is_mark, mark_is}
use Rattle.h5_clean.proofs.texts.without_marks.Goals as goal

mark : (t : List ℕ) → encode_utf8 0xfeff ++ t ≡ 0xef ∷ 0xbb ∷ 0xbf ∷ t
mark t = sym (mark_is 0xef 0xbb 0xbf t refl)

cut : (s ns r : List ℕ) → CutsPrefixes (FindsCharPrefix 0xfeff) s ns r → without_marks r ≡ without_marks s
cut s [] r e = ap without_marks e
cut s (n ∷ ns) r c =
    ap without_marks c.3 ∙ sym (ap without_marks (c.2.split ∙ mark (drop n c.0))) ∙ cut s ns c.0 c.1

no_more : (r : List ℕ) (o : Option ℕ) → FindsCharPrefix 0xfeff r o → IfSome o (λ n. n ≡ 0) → without_marks r ≡ r
no_more [] None h z = refl
no_more (a ∷ []) None h z = refl
no_more (a ∷ b ∷ []) None h z = refl
no_more (a ∷ b ∷ c ∷ t) None h z = by (is_mark a b c) refl
  where
    by : (m : Bool) → is_mark a b c ≡ m → cond m (without_marks t) (a ∷ b ∷ c ∷ t) ≡ a ∷ b ∷ c ∷ t
    by true e = absurd (h t (mark_is a b c t e))
    by false e = refl
no_more r (Some n) h z = absurd (omega (arith, h.ends, len_utf8_bounds 0xfeff))

pub returns : goal.returns
returns c =
    let trimmed = c.trim_start_matches.ensures.matches in
    sym (no_more c.trim_start_matches.result.now trimmed.1.0 trimmed.1.1 trimmed.1.2) ∙ cut c.args.text.now trimmed.0.0 c.trim_start_matches.result.now trimmed.0.1
