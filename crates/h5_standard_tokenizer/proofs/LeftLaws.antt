-- What is left of an input is a suffix of it.
use Rattle.std.proofs.Common.{◌≡◌, ◌-◌, ◌≤◌, ℕ, Bool, true, false, List, [], ◌∷◌, ◌++◌, length, drop, refl, sym, subst, ap, ◌∙◌, arith, append_assoc, IsUtf8}
use Rattle.std.proofs.lemmas.Grind.{common_steps}
use Rattle.std.proofs.lemmas.Str.{IsCharBoundary-at_seam}
use Rattle.std.specs.Str.{IsCharBoundary}
use Rattle.h5_token.specs.TokenText.{TokenText}
use Rattle.h5_token.specs.Reply.{Reply}
use Rattle.h5_markup.specs.Matching.{Match, Open, No, Found}
use Rattle.h5_markup.proofs.Finds.{literal_gives}
use Rattle.h5_tokenizer_spec.specs.ReferenceTable.{references}
use Rattle.h5_tokenizer_spec.specs.Reading.{ReaderPlace, Passes, passed, drops, goes, again, Step, quiet_step, text_step, token_step, ask_step, Read, nothing_read, read_on}
use Rattle.h5_standard_tokenizer.specs.Mark.{mark, behind, behind_mark}
use Rattle.h5_standard_tokenizer.specs.Steps.{Stopped}

-- an input is a prefix and what is left of it
pub record Leaves (xs ys : List ℕ) : Type 0 where
  pub front : List ℕ
  pub split : xs ≡ front ++ ys

leaves_all : (xs : List ℕ) → Leaves xs xs
leaves_all xs = record { front = []; split = refl }

leaves_behind : (x : ℕ) {xs ys : List ℕ} → Leaves xs ys → Leaves (x ∷ xs) ys
leaves_behind x h = record { front = x ∷ h.front; split = ap (λ l. x ∷ l) h.split }

pub leaves_more : {xs ys zs : List ℕ} → Leaves xs ys → Leaves ys zs → Leaves xs zs
leaves_more {zs} h k = record { front = h.front ++ k.front; split = h.split ∙ ap (λ l. h.front ++ l) k.split ∙ sym (append_assoc h.front k.front zs) }

passes_leaves : {p q : ReaderPlace} {xs text ys : List ℕ} → Passes references p xs text q ys → Leaves xs ys
passes_leaves {xs} passed = leaves_all xs
passes_leaves (drops {x} d h) = leaves_behind x (passes_leaves h)
passes_leaves (goes {x} text state d e h) = leaves_behind x (passes_leaves h)
passes_leaves (again text state d e h) = passes_leaves h

module _ {M : Type 0} (reply_to : M → TokenText → Reply) (after : M → TokenText → ℕ → M) (foreign : M → Bool) where
  step_leaves : {p : ReaderPlace} {m : M} {xs : List ℕ} {ts : List TokenText} {reply : Reply} {q : ReaderPlace} {n : M} {ys : List ℕ} → Step references reply_to after foreign p m xs ts reply q n ys → Leaves xs ys
  step_leaves (quiet_step h) = passes_leaves h
  step_leaves (text_step h) = passes_leaves h
  step_leaves (token_step {x} {xs} token state d e) = leaves_behind x (leaves_all xs)
  step_leaves (ask_step {x} {xs} there error elsewhere d e) = leaves_behind x (leaves_all xs)

  read_leaves : {p : ReaderPlace} {m : M} {xs : List ℕ} {ts : List TokenText} {reply : Reply} {q : ReaderPlace} {n : M} {ys : List ℕ} → Read references reply_to after foreign p m xs ts reply q n ys → Leaves xs ys
  read_leaves {xs} nothing_read = leaves_all xs
  read_leaves (read_on read on step) = leaves_more (read_leaves read) (step_leaves step)

  pub stopped_leaves : {p q : ReaderPlace} {m n : M} {xs ys : List ℕ} {reply : Reply} → Stopped reply_to after foreign p m xs reply q n ys → Leaves xs ys
  stopped_leaves h = read_leaves h.read

behind_leaves : (xs : List ℕ) (found : Match (Unit {0})) → mark xs ≡ found → Leaves xs (behind xs found)
behind_leaves xs Open e = leaves_all xs
behind_leaves xs No e = leaves_all xs
behind_leaves xs (Found tt rest) e = record { front = 0xef ∷ 0xbb ∷ 0xbf ∷ []; split = literal_gives (0xef ∷ 0xbb ∷ 0xbf ∷ []) xs rest e }

pub behind_mark_leaves : (at_start : Bool) (xs : List ℕ) → Leaves xs (behind_mark at_start xs)
behind_mark_leaves true xs = behind_leaves xs (mark xs) refl
behind_mark_leaves false xs = leaves_all xs

fits_by : (front ys : List ℕ) → length ys ≤ length (front ++ ys)
fits_by front ys = grind (arith, common_steps)

kept_by : (front ys : List ℕ) → drop (length (front ++ ys) - length ys) (front ++ ys) ≡ ys
kept_by front ys = grind (arith, common_steps)

seam_by : (front ys : List ℕ) → length (front ++ ys) - length ys ≡ length front
seam_by front ys = grind (arith, common_steps)

pub left_fits : {xs ys : List ℕ} → Leaves xs ys → length ys ≤ length xs
left_fits {ys} h = rw h.split (fits_by h.front ys)

pub left_is_kept : {xs ys : List ℕ} → Leaves xs ys → drop (length xs - length ys) xs ≡ ys
left_is_kept {ys} h = rw h.split (kept_by h.front ys)

pub left_boundary : {xs ys : List ℕ} → Leaves xs ys → IsUtf8 ys → IsCharBoundary xs (length xs - length ys)
left_boundary {xs} {ys} h utf8 =
    let same : length xs - length ys ≡ length h.front = rw h.split (seam_by h.front ys) in
    subst (IsCharBoundary xs) (sym same) (IsCharBoundary-at_seam xs h.front ys h.split utf8)
