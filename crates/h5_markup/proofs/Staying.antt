-- Bytes that don't change the state.
use Rattle.std.proofs.Common.{◌≡◌, ℕ, zero, suc, ◌<◌, Bool, true, false, not, List, [], ◌∷◌, ◌||◌, cond, eqb, refl, sym, Some, take, get_or, arith}
use Rattle.std.proofs.lemmas.Bool.{false≢true}
use Rattle.std.proofs.lemmas.Bool.Decides.{nat_tests}
use Rattle.std.specs.Char.{is_ascii_whitespace}
use Rattle.h5_markup.specs.Cuts.{is_in}
use Rattle.h5_markup.specs.Ending.{ends, next, walk}
use Rattle.h5_markup.specs.declared.cut.Class.TheVariants.{BetweenAttributes, NameEnd, AttributeNameEnd, ValueEnd}
use Rattle.h5_markup.specs.declared.ending.Inside.{Inside}
use Rattle.h5_markup.specs.declared.ending.Inside.TheVariants.{Comment, Doctype, TagName, BeforeAttributeName, AttributeName, AttributeValueDoubleQuoted, AttributeValueSingleQuoted, AttributeValueUnquoted}

-- every byte that isn't a stop leaves the state unchanged
pub record Stays (place : Inside) (stop : ℕ → Bool) : Type 0 where
  pub goes_on : (x : ℕ) → stop x ≡ false → ends place x ≡ false
  pub same : (x : ℕ) → stop x ≡ false → next place x ≡ place

pub walk_stays : (place : Inside) (stop : ℕ → Bool) (xs : List ℕ) (n : ℕ) → Stays place stop → ((k : ℕ) → k < n → stop (get_or xs k 0) ≡ false) → walk place (take n xs) ≡ Some place
walk_stays place stop xs zero h none = refl
walk_stays place stop [] (suc n) h none = refl
walk_stays place stop (x ∷ xs) (suc n) h none =
    let here = none 0 (omega arith) in
    rw (h.goes_on x here, h.same x here) (walk_stays place stop xs n h (λ k lt. none (suc k) (omega arith)))

neither : (a b : Bool) → (a || b) ≡ false → (a ≡ false) × (b ≡ false)
neither true b h = absurd (false≢true (sym h))
neither false b h = (refl, h)

not_left : (a b : Bool) → (a || b) ≡ false → a ≡ false
not_left a b h = (neither a b h).0

not_right : (a b : Bool) → (a || b) ≡ false → b ≡ false
not_right a b h = (neither a b h).1

pub never : (b : Bool) → cond b false false ≡ false
never true = refl
never false = refl

pub in_comment : Stays Comment (λ x. eqb x 45)
in_comment = record {
  goes_on = λ x h. never (eqb x 62);
  same = λ x h. rw h;
}

pub in_doctype : Stays Doctype (λ x. eqb x 62)
in_doctype = record {
  goes_on = λ x h. rw h;
  same = λ x h. refl;
}

pub in_tag_name : Stays TagName (is_in NameEnd)
in_tag_name = record {
  goes_on = λ x h. rw (not_left (eqb x 62) _ h);
  same = λ x h. let others = not_right (eqb x 62) (eqb x 47 || is_ascii_whitespace x) h in
      rw (not_right (eqb x 47) (is_ascii_whitespace x) others, not_left (eqb x 47) (is_ascii_whitespace x) others);
}

slash_or_blank : (slash blank : Bool) → not (slash || blank) ≡ false → (blank || slash) ≡ true
slash_or_blank true true h = refl
slash_or_blank true false h = refl
slash_or_blank false true h = refl
slash_or_blank false false h = sym h

between_low : (x : ℕ) → not (is_in BetweenAttributes x) ≡ false → eqb x 62 ≡ false
between_low x h = grind (arith, nat_tests)

pub in_between : Stays BeforeAttributeName (λ x. not (is_in BetweenAttributes x))
in_between = record {
  goes_on = λ x h. rw (between_low x h);
  same = λ x h. rw (slash_or_blank (eqb x 47) (is_ascii_whitespace x) h);
}

-- a name begins
pub name_begins : (x : ℕ) → is_in AttributeNameEnd x ≡ false → (ends BeforeAttributeName x ≡ false) × (next BeforeAttributeName x ≡ AttributeName)
name_begins x h =
    let behind = not_right (eqb x 61) (eqb x 62 || (eqb x 47 || is_ascii_whitespace x)) h in
    let others = not_right (eqb x 62) (eqb x 47 || is_ascii_whitespace x) behind in (
      rw (not_left (eqb x 62) (eqb x 47 || is_ascii_whitespace x) behind),
      rw (not_right (eqb x 47) (is_ascii_whitespace x) others, not_left (eqb x 47) (is_ascii_whitespace x) others),
    )

pub in_attribute_name : Stays AttributeName (is_in AttributeNameEnd)
in_attribute_name = record {
  goes_on = λ x h. rw (not_left (eqb x 62) (eqb x 47 || is_ascii_whitespace x) (not_right (eqb x 61) (eqb x 62 || (eqb x 47 || is_ascii_whitespace x)) h));
  same = λ x h.
      let behind = not_right (eqb x 61) (eqb x 62 || (eqb x 47 || is_ascii_whitespace x)) h in
      let others = not_right (eqb x 62) (eqb x 47 || is_ascii_whitespace x) behind in
      rw (not_right (eqb x 47) (is_ascii_whitespace x) others, not_left (eqb x 47) (is_ascii_whitespace x) others, not_left (eqb x 61) (eqb x 62 || (eqb x 47 || is_ascii_whitespace x)) h);
}

pub in_double_quotes : Stays AttributeValueDoubleQuoted (λ x. eqb x 34)
in_double_quotes = record {
  goes_on = λ x h. never (eqb x 62);
  same = λ x h. rw h;
}

pub in_single_quotes : Stays AttributeValueSingleQuoted (λ x. eqb x 39)
in_single_quotes = record {
  goes_on = λ x h. never (eqb x 62);
  same = λ x h. rw h;
}

pub in_unquoted : Stays AttributeValueUnquoted (is_in ValueEnd)
in_unquoted = record {
  goes_on = λ x h. rw (not_left (eqb x 62) (is_ascii_whitespace x) h);
  same = λ x h. rw (not_right (eqb x 62) (is_ascii_whitespace x) h);
}
