-- Several selectors, one after the other.
use Rattle.std.proofs.Common.{◌≡◌, ◌∙◌, ◌++◌, ◌+◌, ◌<◌, ◌≤◌, ℕ, List, [], ◌∷◌, Result, Ok, Err, Some, ap, get_or, inl, inr, length, map, refl, subst, sym, take}
use Rattle.std.specs.Prelude.{IfOk, MatchResult}
use Rattle.std.specs.Int.{w32, to_le_bytes}
use Rattle.std.specs.List.{flat_map}
use Rattle.std.proofs.lemmas.List.{flat_map_more, get_or-map, length-map, map-append, take_all, take_more}
use Rattle.std.proofs.lemmas.List.Concat.{flat_map-append}
use Rattle.std.proofs.lemmas.Option.{slice_get-get_or}
use Rattle.html_tree_builder.specs.Asking.{Asked, asked}
use Rattle.html_tree_builder.specs.Fault.{Outcome, Found, Tells}
use Rattle.h5_selectors.specs.declared.fault.SelectorError.{SelectorError}
use Rattle.h5_selectors.specs.declared.fault.SelectorError.TheVariants.{Invalid, Memory}
use Rattle.h5_selectors.specs.declared.formula.Formula.{Formula}
use Rattle.h5_tree_block.specs.Packed.{bytes_of_words}
use Rattle.h5_c.specs.Selecting.{AnswersNumber, AreAllAsked, IsFaultOfOne, IsPut, asked_in, counted_in}

-- no texts, and one text more
pub none_yet : (block : List ℕ) (number : ℕ) (outcomes : List (Outcome (List Asked))) → AreAllAsked block number (take 0 outcomes) []
none_yet block number outcomes = record { lists = []; ask = refl; are_selected = refl }

pub one_more : (block : List ℕ) (number : ℕ) (outcomes : List (Outcome (List Asked))) (k : ℕ) (outcome : Outcome (List Asked)) (before after : List ℕ)
    → k < length outcomes → outcome ≡ get_or outcomes k outcome
    → AreAllAsked block number (take k outcomes) before → IsPut block number outcome before after → AreAllAsked block number (take (k + 1) outcomes) after
one_more block number outcomes k outcome before after lt is all one =
    let found = λ (list : List Formula). Found (map asked list) in
    record {
      lists = all.lists ++ one.list ∷ [];
      ask = take_more outcomes k outcome lt
          ∙ ap (λ o. take k outcomes ++ o ∷ []) (sym is ∙ one.asks)
          ∙ ap (λ l. l ++ found one.list ∷ []) all.ask
          ∙ sym (map-append found all.lists (one.list ∷ []));
      are_selected = one.put
          ∙ ap (λ l. l ++ bytes_of_words (counted_in block number one.list)) all.are_selected
          ∙ sym (flat_map-append (to_le_bytes w32) (flat_map (counted_in block number) all.lists) (counted_in block number one.list))
          ∙ ap bytes_of_words (flat_map_more (counted_in block number) [] all.lists one.list);
    }

pub all_put : (block : List ℕ) (number : ℕ) (outcomes : List (Outcome (List Asked))) (k : ℕ) (bytes : List ℕ) → length outcomes ≤ k
    → AreAllAsked block number (take k outcomes) bytes → AreAllAsked block number outcomes bytes
all_put block number outcomes k bytes le all = subst (λ (o : List (Outcome (List Asked))). AreAllAsked block number o bytes) (take_all k outcomes le) all

-- the selectors of a text among others
pub asked_at : (texts : List (List ℕ)) (k : ℕ) (text : List ℕ) → k < length texts → text ≡ get_or texts k text
    → (k < length (map asked_in texts)) × (asked_in text ≡ get_or (map asked_in texts) k (asked_in text))
asked_at texts k text lt is =
    let P : ℕ → Type 0 = λ n. k < n in
    (subst P (sym (length-map texts asked_in)) lt, ap asked_in is ∙ sym (get_or-map asked_in texts k text (asked_in text) lt))

-- the error of one of the texts
pub one_is_wrong : (outcomes : List (Outcome (List Asked))) (k : ℕ) (outcome : Outcome (List Asked)) (fault : SelectorError) (characters : ℕ)
    → k < length outcomes → outcome ≡ get_or outcomes k outcome → Tells characters fault outcome → IsFaultOfOne outcomes fault
one_is_wrong outcomes k outcome (Invalid at problem) characters lt is tells = record {
  index = k;
  outcome = outcome;
  is = slice_get-get_or outcomes k outcome lt ∙ ap Some (sym is);
  is_wrong = record { problem = problem; left = tells.0; is = tells.1.0 };
}
one_is_wrong outcomes k outcome Memory characters lt is tells = tt

-- a number that was found in a block, and put into a word
pub number_answered : {E : Type 0} (number_in : (block : List ℕ) → List Formula → ℕ) (block same : List ℕ) (outcome : Outcome (List Asked)) (list : List Formula) (found : Result ℕ E) (status word old : ℕ)
    → same ≡ block → outcome ≡ Found (map asked list) → IfOk found (λ n. n ≡ number_in same list)
    → MatchResult found (λ n. (status ≡ 0) × (word ≡ n)) (λ _. (status ≡ 1) × (word ≡ old))
    → AnswersNumber (number_in block) outcome status word
number_answered number_in block same outcome list (Ok n) status word old e asks is put =
    inl (put.0, record { list = list; asks = asks; is = put.1 ∙ is ∙ ap (λ b. number_in b list) e })
number_answered number_in block same outcome list (Err e) status word old _ asks is put = inr (inl put.0)
