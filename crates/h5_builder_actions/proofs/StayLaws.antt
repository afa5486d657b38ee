-- The entries that stay when formatting elements are reconstructed, found from the newest entry on.
use Rattle.std.proofs.Common.{◌≡◌, ◌-◌, ◌<◌, ℕ, true, false, cond, List, [], ◌∷◌, ◌++◌, length, length-append, append_assoc, refl, ap, sym, ◌∙◌, arith}
use Rattle.h5_builder_spec.specs.formatting.FormattingList.{ElementEntry, Entry, MarkerEntry, open_rest}
use Rattle.h5_builder_actions.specs.EntryPlaces.{entry_at, is_staying}
use Rattle.h5_builder_actions.proofs.ListLaws.{entry_at_cut}

rest_by : (s : List ℕ) (e : Entry) (l : List Entry) → open_rest s (e ∷ l) ≡ cond (is_staying s e) (e ∷ l) (open_rest s l)
rest_by s MarkerEntry l = refl
rest_by s (ElementEntry n t) l = refl

-- the entries below a place, above which none stays
pub record RestBelow (s : List ℕ) (l : List Entry) (place : ℕ) : Type 0 where
  pub newer : List Entry
  pub older : List Entry
  pub cut : l ≡ newer ++ older
  pub here : place ≡ length older
  pub rest : open_rest s older ≡ open_rest s l

pub rest_all : (s : List ℕ) (l : List Entry) (place : ℕ) → place ≡ length l → RestBelow s l place
rest_all s l place h = record { newer = []; older = l; cut = refl; here = h; rest = refl }

pub rest_within : (s : List ℕ) (l : List Entry) (place : ℕ) → RestBelow s l place → 0 < place → place - 1 < length l
rest_within s l place k some = omega (arith, some, k.here, ap length k.cut, length-append k.newer k.older)

-- the newest of them doesn't stay either
pub rest_passed : (s : List ℕ) (l : List Entry) (place : ℕ) → RestBelow s l place → 0 < place → is_staying s (entry_at (place - 1) l) ≡ false → RestBelow s l (place - 1)
rest_passed s l place k some out = at k.older k.here k.cut k.rest
  where
    at : (older : List Entry) → place ≡ length older → l ≡ k.newer ++ older → open_rest s older ≡ open_rest s l → RestBelow s l (place - 1)
    at [] h cut rest = absurd (omega (arith, h, some))
    at (e ∷ older) h cut rest =
        let here : length older ≡ place - 1 = omega (arith, h) in
        let there : entry_at (place - 1) l ≡ e = ap (entry_at (place - 1)) cut ∙ entry_at_cut (place - 1) k.newer e older here in
        record {
          newer = k.newer ++ e ∷ [];
          older = older;
          cut = cut ∙ sym (append_assoc k.newer (e ∷ []) older);
          here = sym here;
          rest = sym (rest_by s e older ∙ ap (λ b. cond b (e ∷ older) (open_rest s older)) (ap (is_staying s) (sym there) ∙ out)) ∙ rest;
        }

-- it stays, with all below it
pub rest_found : (s : List ℕ) (l : List Entry) (place : ℕ) → RestBelow s l place → 0 < place → is_staying s (entry_at (place - 1) l) ≡ true → place ≡ length (open_rest s l)
rest_found s l place k some stays = at k.older k.here k.cut k.rest
  where
    at : (older : List Entry) → place ≡ length older → l ≡ k.newer ++ older → open_rest s older ≡ open_rest s l → place ≡ length (open_rest s l)
    at [] h cut rest = absurd (omega (arith, h, some))
    at (e ∷ older) h cut rest =
        let here : length older ≡ place - 1 = omega (arith, h) in
        let there : entry_at (place - 1) l ≡ e = ap (entry_at (place - 1)) cut ∙ entry_at_cut (place - 1) k.newer e older here in
        h ∙ sym (ap length (rest_by s e older ∙ ap (λ b. cond b (e ∷ older) (open_rest s older)) (ap (is_staying s) (sym there) ∙ stays))) ∙ ap length rest

-- none is left
pub rest_none : (s : List ℕ) (l : List Entry) (place : ℕ) → RestBelow s l place → place ≡ 0 → 0 ≡ length (open_rest s l)
rest_none s l place k none = at k.older k.here k.rest
  where
    at : (older : List Entry) → place ≡ length older → open_rest s older ≡ open_rest s l → 0 ≡ length (open_rest s l)
    at [] h rest = ap length rest
    at (e ∷ older) h rest = absurd (omega (arith, h, none))
