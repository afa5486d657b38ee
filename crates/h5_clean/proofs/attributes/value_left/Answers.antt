use Rattle.std.proofs.Common.{◌≡◌, ◌==◌, ◌∷◌, [], List, Option, arith, codes, false, length, rules, sym, true, ℕ, ◌∙◌}
use Rattle.std.proofs.lemmas.Bool.{eqb-true}
use Rattle.h5_names.specs.AttributeText.{is_same_text}
use Rattle.h5_clean.specs.Policies.{named_behind}
use Rattle.h5_clean.specs.Texts.{readable}
use Rattle.h5_clean.proofs.PrefixLaws.{named_alone}
use Rattle.h5_clean.proofs.attributes.value_left.Goals as goal

-- without a prefix a value is as it was, unless it has classes
alone : (p : List ℕ) (o : Option (List (List ℕ))) (local t : List ℕ) → (length p == 0) ≡ true → is_same_text local (codes "class") ≡ false → named_behind p o local t ≡ t
alone [] o local t e h = named_alone o local t h
alone (b ∷ p) o local t e h = absurd (let none = eqb-true (length (b ∷ p)) 0 e in omega (arith, none))

pub returns-then-ne : goal.returns-then-ne
returns-then-ne g c =
    let r = g.P.Policy.rules c.args.policy.now in
    let other : is_same_text c.args.local.now (codes "class") ≡ false = search rules in
    c.in_ok-text.ensures ∙ sym (alone c.args.prefix.now r.classes c.args.local.now (readable c.args.value.now) (sym c.is_empty.ensures ∙ c.if-is_empty.true) other)
