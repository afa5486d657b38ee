use Rattle.std.proofs.Common.{◌≡◌, ◌==◌, ◌&&◌, ◌⊎◌, ◌∙◌, ℕ, List, [], ◌∷◌, true, false, length, ap, inl, inr, refl, rules, sym, if◌then◌else◌}
use Rattle.h5_clean.specs.Calls.{State, behind_front, is_nothing, place_of, text_handed, without_front}
use Rattle.h5_clean.specs.Texts.{may_stand, readable}
use Rattle.h5_clean.specs.declared.cleaner.Front.{Front}
use Rattle.h5_clean.specs.declared.cleaner.Front.TheVariants as front
use Rattle.h5_clean.proofs.HandedLaws.{text_cleaned, text_told}
use Rattle.h5_clean.proofs.cleaner.Cleaner.write_readable.Goals as goal

-- if no newline is written twice, a text loses its start
loses : (f : Front) (t : List ℕ) → (f ≡ front.Nothing) ⊎ (f ≡ front.Marks) → without_front f t ≡ behind_front f t
loses f t (inl e) = ap (λ x. without_front x t) e ∙ sym (ap (λ x. behind_front x t) e)
loses f t (inr e) = ap (λ x. without_front x t) e ∙ sym (ap (λ x. behind_front x t) e)

is_some : (t : List ℕ) → (length t == 0) ≡ false → is_nothing t ≡ false
is_some [] e = absurd (cc)
is_some (b ∷ t) e = refl

pub returns-in-Nothing : goal.returns-in-Nothing
returns-in-Nothing g c = λ whole utf8 same.
    let old = c.args.self.now in
    let text = c.args.text.now in
    let left = c.without_front-left.result.now in
    let new = c.write_text.new.self in
    let s : State = record { rules = g.P.Policy.rules old.policy.now; elements = old.elements; front = old.front; standing = old.html.standing } in
    let may : may_stand (place_of s).spot text ≡ true = search rules in
    let stands : (if true && may_stand (place_of s).spot (readable whole) then readable whole else []) ≡ text =
    ap (λ t. if may_stand (place_of s).spot t then t else []) same ∙ ap (λ b. if b then text else []) may in
    let handed : text_handed s whole ≡ left =
    ap (λ b. behind_front old.front (if b && may_stand (place_of s).spot (readable whole) then readable whole else [])) utf8
    ∙ ap (behind_front old.front) stands
    ∙ sym (c.without_front-left.ensures ∙ loses old.front text c.in-Nothing.is) in
    text_cleaned s whole left new.standing old.html.contents new.contents c.write_text.result handed (is_some left (sym c.is_empty.ensures ∙ c.if-is_empty.false))
    (text_told left old.html.standing new.standing old.html.contents new.contents c.write_text.result c.write_text.ensures)
