-- What holds for each name that has a kind.
use Rattle.std.proofs.Common.{◌≡◌, ◌⊎◌, ◌∙◌, ◌&&◌, ◌||◌, ◌++◌, ◌∷◌, not, Bool, true, false, List, [], ℕ, ap, refl, subst, sym, inl, inr, codes, if◌then◌else◌}
use Rattle.std.specs.List.{list_all}
use Rattle.std.proofs.lemmas.Bool.{false≢true}
use Rattle.std.proofs.lemmas.Slice.Eq.{bytes_eq-Decides}
use Rattle.h5_names.specs.AttributeText.{is_same_text}
use Rattle.h5_tables.specs.TagSets.{cell_names, heading_names, is_one_of, raw_names, void_names}
use Rattle.h5_builder_laws.specs.Plain.{barrier_names, inline_names, mark_names, open_block_names, part_names, phrase_names, ruby_text_names, term_names}
use Rattle.h5_clean.specs.Kinds.{Row, kind_in, kind_of, lone_rows, set_rows}
use Rattle.h5_clean.specs.declared.kind.Kind.{Kind}
use Rattle.h5_clean.specs.declared.kind.Kind.TheVariants as kind

pub both_of : (a b : Bool) → (a && b) ≡ true → (a ≡ true) × (b ≡ true)
both_of true b h = (refl, h)
both_of false b h = absurd (false≢true h)

-- a test that each name of a list passes
abbrev AllPass : (List ℕ → Kind → Bool) → List Row → Type 0
AllPass test [] = Unit {0}
AllPass test (r ∷ rs) = (list_all (λ n. test n r.kind) r.names ≡ true) × AllPass test rs

passes : (p : List ℕ → Bool) (names : List (List ℕ)) (name : List ℕ) → list_all p names ≡ true → is_one_of names name ≡ true → p name ≡ true
passes p [] name all among = absurd (false≢true among)
passes p (n ∷ names) name all among = at (passes p names name (both_of (p n) (list_all p names) all).1) (is_same_text n name) refl
  where
    at : (is_one_of names name ≡ true → p name ≡ true) → (b : Bool) → is_same_text n name ≡ b → p name ≡ true
    at later true e = subst (λ m. p m ≡ true) ((bytes_eq-Decides n name).0 e) (both_of (p n) (list_all p names) all).0
    at later false e = later (ap (λ b. b || is_one_of names name) (sym e) ∙ among)

in_rows : (test : List ℕ → Kind → Bool) (rs : List Row) (name : List ℕ) → AllPass test rs → (kind_in rs name ≡ kind.Unknown) ⊎ (test name (kind_in rs name) ≡ true)
in_rows test [] name all = inl refl
in_rows test (r ∷ rs) name all = at (in_rows test rs name all.1) (is_one_of r.names name) refl
  where
    at : (kind_in rs name ≡ kind.Unknown) ⊎ (test name (kind_in rs name) ≡ true) → (b : Bool) → is_one_of r.names name ≡ b
        → ((if b then r.kind else kind_in rs name) ≡ kind.Unknown) ⊎ (test name (if b then r.kind else kind_in rs name) ≡ true)
    at later true e = inr (passes (λ n. test n r.kind) r.names name all.0 e)
    at later false e = later

-- the elements without an end tag
abbrev pub is_void_kind : Kind → Bool
is_void_kind kind.Ruled = true
is_void_kind kind.Break = true
is_void_kind kind.Column = true
is_void_kind _ = false

abbrev same : Bool → Bool → Bool
same true b = b
same false b = not b

same_is : (a b : Bool) → same a b ≡ true → b ≡ a
same_is true b h = h
same_is false true h = absurd (false≢true h)
same_is false false h = refl

from_not : (b : Bool) → not b ≡ true → b ≡ false
from_not true h = absurd (false≢true h)
from_not false h = refl

-- how an element of this name is written
abbrev is_written_so : List ℕ → Kind → Bool
is_written_so name k = same (is_void_kind k) (is_one_of void_names name) && (not (is_one_of raw_names name) && not (is_same_text name (codes "noscript")))

pub record IsWritten (name : List ℕ) (k : Kind) : Type 0 where
  pub void : is_one_of void_names name ≡ is_void_kind k
  pub raw : is_one_of raw_names name ≡ false
  pub noscript : is_same_text name (codes "noscript") ≡ false

pub written_so : (name : List ℕ) → (kind_of name ≡ kind.Unknown) ⊎ IsWritten name (kind_of name)
unfolding set_rows lone_rows phrase_names inline_names open_block_names barrier_names mark_names cell_names heading_names term_names part_names ruby_text_names void_names raw_names
written_so name = at (in_rows is_written_so (set_rows ++ lone_rows) name (refl, (refl, (refl, (refl, (refl, (refl, (refl, (refl, (refl, (refl, (refl, (refl, (refl, (refl, (refl, (refl, (refl, (refl, (refl, (refl, (refl, tt))))))))))))))))))))))
  where
    at : (kind_of name ≡ kind.Unknown) ⊎ (is_written_so name (kind_of name) ≡ true) → (kind_of name ≡ kind.Unknown) ⊎ IsWritten name (kind_of name)
    at (inl e) = inl e
    at (inr h) =
        let v = both_of _ _ h in
        let w = both_of _ _ v.1 in
        inr (record { void = same_is _ _ v.0; raw = from_not _ w.0; noscript = from_not _ w.1 })
