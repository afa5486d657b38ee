-- Repetitions, step by step.
use Rattle.std.proofs.Common.{◌≡◌, ◌∙◌, ℕ, suc, ◌+◌, ◌-◌, ◌<◌, ◌≤◌, true, false, if◌then◌else◌, List, [], ◌∷◌, ◌++◌, ap, arith, drop, map, subst, sym}
use Rattle.std.proofs.lemmas.List.{map-append}
use Rattle.std.specs.Prelude.{None, Some}
use Rattle.h5_selectors.specs.Asking.{Asked, asked, combinator_at}
use Rattle.h5_selectors.specs.Counting.{Taken, taken}
use Rattle.h5_selectors.specs.Fault.{◌>>=◌, Found, Outcome}
use Rattle.h5_selectors.specs.Grammar.{ArgumentsReader, Ends, Goes, Linked, NextReader, Reader, alone, comma_next, compound_at, going_on, link_asked, link_joined, link_next, linked, repeated, simple_at, simple_joined, simple_next}
use Rattle.h5_selectors.specs.Reads.{Fails}
use Rattle.h5_selectors.specs.Tokens.{begins_with, behind_blanks, behind_comments, reading}
use Rattle.h5_selectors.specs.declared.fault.Refusal.{Refusal}
use Rattle.h5_selectors.specs.declared.fault.Refusal.TheVariants.{Invalid, Memory}
use Rattle.h5_selectors.specs.declared.formula.Formula.{Formula}
use Rattle.h5_selectors.specs.declared.combinators.Combinator.{Combinator}
use Rattle.h5_selectors.specs.declared.combinators.Link.{Link}

-- an error of the first of two steps is one of both
pub lacks_first : {A B : Type 0} (refusal : Refusal) (read : Outcome A) (behind : A → Outcome B) → Fails refusal read → Fails refusal (read >>= behind)
lacks_first Memory read behind h = tt
lacks_first (Invalid left problem) read behind h = ap (λ o. o >>= behind) h

-- one item as a list
module _ {A : Type 0} (item : Reader A) (parts : ℕ) (text : List ℕ) where
  pub alone_lacks : (refusal : Refusal) → Fails refusal (item parts text) → Fails refusal (alone item parts text)
  alone_lacks refusal h = lacks_first refusal (item parts text) (λ one. Found (taken (one.value ∷ []) one.parts one.rest)) h

  pub alone_found : {value : A} {fewer : ℕ} {rest : List ℕ} → item parts text ≡ Found (taken value fewer rest) → alone item parts text ≡ Found (taken (value ∷ []) fewer rest)
  alone_found h = ap (λ o. o >>= (λ one. Found (taken (one.value ∷ []) one.parts one.rest))) h

module _ {A : Type 0} (next : NextReader A) (end step : ℕ) (all : A) (parts : ℕ) (text : List ℕ) {whole : Outcome (Taken A)} (left : repeated next (end - step) all parts text ≡ whole) where
  -- while more is allowed
  one_more : step < end → (next all parts text >>= going_on (repeated next (end - (step + 1))) all) ≡ whole
  unfolding repeated
  one_more lt = let e : end - step ≡ suc (end - (step + 1)) = omega arith in sym (ap (λ n. repeated next n all parts text) e) ∙ left

  -- if there is no more
  pub repeated_ends : {fewer : ℕ} {rest : List ℕ} → step < end → next all parts text ≡ Found (Ends fewer rest) → whole ≡ Found (taken all fewer rest)
  repeated_ends lt h = sym (one_more lt) ∙ ap (λ o. o >>= going_on (repeated next (end - (step + 1))) all) h

  -- if there is one more
  pub repeated_goes : {more : A} {fewer : ℕ} {rest : List ℕ} → step < end → next all parts text ≡ Found (Goes more fewer rest) → repeated next (end - (step + 1)) more fewer rest ≡ whole
  repeated_goes lt h = sym (ap (λ o. o >>= going_on (repeated next (end - (step + 1))) all) h) ∙ one_more lt

  -- if one more is missing
  pub repeated_lacks : (refusal : Refusal) → step < end → Fails refusal (next all parts text) → Fails refusal whole
  repeated_lacks refusal lt h = subst (Fails refusal) (one_more lt) (lacks_first refusal (next all parts text) (going_on (repeated next (end - (step + 1))) all) h)

  -- if the limit is reached
  pub repeated_done : end ≤ step → whole ≡ Found (taken all parts text)
  unfolding repeated
  repeated_done le = let e : end - step ≡ 0 = omega arith in sym left ∙ ap (λ n. repeated next n all parts text) e

-- the step after a comma
module _ {A : Type 0} (item : Reader (List A)) (all : List A) (parts : ℕ) (text : List ℕ) {rest : List ℕ} (stepped : rest ≡ (if begins_with 44 text then drop 1 text else text)) where
  pub comma_ends : begins_with 44 text ≡ false → comma_next item all parts text ≡ Found (Ends parts rest)
  comma_ends none = ap (λ b. if b then item parts (drop 1 text) >>= (λ one. Found (Goes (all ++ one.value) one.parts one.rest)) else Found (Ends parts text)) none
      ∙ ap (λ t. Found (Ends parts t)) (sym (stepped ∙ ap (λ b. if b then drop 1 text else text) none))

  behind : begins_with 44 text ≡ true → comma_next item all parts text ≡ (item parts rest >>= (λ one. Found (Goes (all ++ one.value) one.parts one.rest)))
  behind comma = ap (λ b. if b then item parts (drop 1 text) >>= (λ one. Found (Goes (all ++ one.value) one.parts one.rest)) else Found (Ends parts text)) comma
      ∙ ap (λ t. item parts t >>= (λ one. Found (Goes (all ++ one.value) one.parts one.rest))) (sym (stepped ∙ ap (λ b. if b then drop 1 text else text) comma))

  pub comma_lacks : (refusal : Refusal) → begins_with 44 text ≡ true → Fails refusal (item parts rest) → Fails refusal (comma_next item all parts text)
  comma_lacks refusal comma h = subst (Fails refusal) (sym (behind comma)) (lacks_first refusal (item parts rest) (λ one. Found (Goes (all ++ one.value) one.parts one.rest)) h)

  pub comma_goes : (one : Taken (List A)) → begins_with 44 text ≡ true → item parts rest ≡ Found one → comma_next item all parts text ≡ Found (Goes (all ++ one.value) one.parts one.rest)
  comma_goes one comma h = behind comma ∙ ap (λ o. o >>= (λ it. Found (Goes (all ++ it.value) it.parts it.rest))) h

-- the steps after a combinator, and in a compound selector
module _ (arguments : ArgumentsReader) (parts : ℕ) where
  pub link_ends : (links : List Linked) (text : List ℕ) {rest : List ℕ} → combinator_at text ≡ None → rest ≡ behind_blanks text → link_next arguments links parts text ≡ Found (Ends parts rest)
  link_ends links text none left = ap (link_joined arguments links parts (behind_blanks text)) none ∙ ap (λ t. Found (Ends parts t)) (sym left)

  pub link_lacks : (links : List Linked) (text : List ℕ) (refusal : Refusal) {c : Combinator} {rest : List ℕ} → combinator_at text ≡ Some (reading c rest) → Fails refusal (compound_at arguments parts rest)
      → Fails refusal (link_next arguments links parts text)
  link_lacks links text refusal {c} {rest} sign h =
      subst (Fails refusal) (sym (ap (link_joined arguments links parts (behind_blanks text)) sign))
      (lacks_first refusal (compound_at arguments parts rest) (λ one. Found (Goes (links ++ linked c one.value ∷ []) one.parts one.rest)) h)

  pub link_goes : (links : List Link) (text : List ℕ) (link : Link) {fewer : ℕ} {rest end : List ℕ} → combinator_at text ≡ Some (reading link.combinator rest) → compound_at arguments parts rest ≡ Found (taken (asked link.compound) fewer end)
      → link_next arguments (map link_asked links) parts text ≡ Found (Goes (map link_asked (links ++ link ∷ [])) fewer end)
  link_goes links text link {fewer} {rest} {end} sign h =
      ap (link_joined arguments (map link_asked links) parts (behind_blanks text)) sign ∙ ap (λ o. o >>= (λ one. Found (Goes (map link_asked links ++ linked link.combinator one.value ∷ []) one.parts one.rest))) h
      ∙ ap (λ all. Found (Goes all fewer end)) (sym (map-append link_asked links (link ∷ [])))

  pub simple_ends : (all : List Asked) (text : List ℕ) {fewer : ℕ} {rest : List ℕ} → simple_at arguments parts (behind_comments text) ≡ Found (taken None fewer rest) → simple_next arguments all parts text ≡ Found (Ends fewer rest)
  simple_ends all text h = ap (λ o. o >>= simple_joined arguments all) h

  pub simple_lacks : (all : List Asked) (text : List ℕ) (refusal : Refusal) → Fails refusal (simple_at arguments parts (behind_comments text)) → Fails refusal (simple_next arguments all parts text)
  simple_lacks all text refusal h = lacks_first refusal (simple_at arguments parts (behind_comments text)) (simple_joined arguments all) h

  pub simple_goes : (all : List Formula) (text : List ℕ) (one : Formula) {fewer : ℕ} {rest : List ℕ} → simple_at arguments parts (behind_comments text) ≡ Found (taken (Some (asked one)) fewer rest)
      → simple_next arguments (map asked all) parts text ≡ Found (Goes (map asked (all ++ one ∷ [])) fewer rest)
  simple_goes all text one {fewer} {rest} h =
      ap (λ o. o >>= simple_joined arguments (map asked all)) h ∙ ap (λ it. Found (Goes it fewer rest)) (sym (map-append asked all (one ∷ [])))
