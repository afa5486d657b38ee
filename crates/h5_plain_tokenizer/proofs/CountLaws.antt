-- The line at the end of a reading.
use Rattle.std.proofs.Common.{◌≡◌, ℕ, ◌+◌, ◌-◌, ◌^◌, ◌≤◌, Bool, false, List, [], ◌∷◌, ◌++◌, refl, sym, ap, ◌∙◌, subst, arith, append_assoc, append-nil}
use Rattle.h5_token.specs.TokenText.{TokenText, DoctypeIs, TagIs, CommentIs, Characters, NullCharacter, EndOfFile, ParseErrorIs}
use Rattle.h5_token.specs.Reply.{Reply}
use Rattle.h5_token.specs.declared.tag.TagKind.{TagKind}
use Rattle.h5_token.specs.declared.tag.TagKind.TheVariants.{StartTag, EndTag}
use Rattle.h5_markup.proofs.Finds.{literal_gives}
use Rattle.h5_tokenizer_input.specs.Lines.{line_behind, newlines, newlines_passed, passed, ends_in_cr}
use Rattle.h5_tokenizer_input.proofs.LineLaws.{line_fits, line_more, line_none, newlines_append, passed_is}
use Rattle.h5_plain_tokenizer.specs.Front.{ReaderPlace}
use Rattle.h5_plain_tokenizer.specs.Read.{Step, marked, unmarked, token_step, switch_step, text_step, Read, nothing_read, read_on, after_tag, next_place}
use Rattle.h5_plain_tokenizer.specs.Steps.{TakesBits, TakesMany}
use Rattle.h5_plain_tokenizer.specs.declared.front.Mode.{Mode}
use Rattle.h5_plain_tokenizer.specs.Whole.{Readings, no_reading, more_reading}
use Rattle.h5_plain_tokenizer.proofs.PartLaws.{Part, part_none, part_twice}
use Rattle.h5_plain_tokenizer.proofs.FrontKeeps.{bits_part, step_part, read_part}

-- a CR before some bytes that changes nothing for these and what follows changes nothing for these alone
apart_alone : (c : Bool) (front rest : List ℕ) → newlines c (front ++ rest) ≡ newlines false (front ++ rest) → newlines c front ≡ newlines false front
apart_alone c [] rest h = refl
apart_alone c (x ∷ front) rest h = omega (arith, h, newlines_append c (x ∷ front) rest, newlines_append false (x ∷ front) rest)

-- one part, and then another
pub passed_twice : {xs ys zs : List ℕ} → Part xs ys → Part ys zs → newlines_passed xs zs ≡ newlines_passed xs ys + newlines_passed ys zs
passed_twice {xs} {ys} {zs} c d =
    let alone : newlines (ends_in_cr false c.front) d.front ≡ newlines false d.front =
    apart_alone (ends_in_cr false c.front) d.front zs (subst (λ (l : List ℕ). newlines (ends_in_cr false c.front) l ≡ newlines false l) d.split c.apart) in
    let first : newlines false (passed xs ys) ≡ newlines false c.front = ap (newlines false) (passed_is xs ys c.front c.split) in
    let second : newlines false (passed ys zs) ≡ newlines false d.front = ap (newlines false) (passed_is ys zs d.front d.split) in
    let split : xs ≡ (c.front ++ d.front) ++ zs = c.split ∙ ap (λ l. c.front ++ l) d.split ∙ sym (append_assoc c.front d.front zs) in
    let both : newlines false (passed xs zs) ≡ newlines false (c.front ++ d.front) = ap (newlines false) (passed_is xs zs (c.front ++ d.front) split) in
    omega (arith, alone, first, second, both, newlines_append false c.front d.front)

-- a text that was begun, and what goes on with it
pub text_lines : {mode : Mode} {last : List ℕ} {foreign : Bool} (xs mid ys old begun out : List ℕ) → TakesBits mode last foreign xs mid old begun → TakesMany mode last mid ys begun out → newlines_passed xs ys ≡ newlines_passed xs mid + newlines_passed mid ys
text_lines xs mid ys old begun out first second = passed_twice (bits_part first.bits) (bits_part second.bits)

line_twice : (line : ℕ) (xs ys zs : List ℕ) → Part xs ys → Part ys zs → line_behind (line_behind line xs ys) ys zs ≡ line_behind line xs zs
line_twice line xs ys zs c d = line_more line (newlines_passed xs ys) (newlines_passed ys zs) (newlines_passed xs zs) (passed_twice c d)

line_stays : (line : ℕ) (xs ys front : List ℕ) → line ≤ 2 ^ 64 - 1 → xs ≡ front ++ ys → newlines false front ≡ 0 → line ≡ line_behind line xs ys
line_stays line xs ys front le split none = line_none line (newlines false (passed xs ys)) le (ap (newlines false) (passed_is xs ys front split) ∙ none)

tag_line : (p : ReaderPlace) (kind : TagKind) (name : List ℕ) (reply : Reply) → (after_tag p kind name reply).line ≡ p.line
tag_line p StartTag name reply = refl
tag_line p EndTag name reply = refl

next_line : (p : ReaderPlace) (t : TokenText) (reply : Reply) → (next_place p t reply).line ≡ p.line
next_line p (DoctypeIs doctype) reply = refl
next_line p (TagIs tag) reply = tag_line p tag.kind tag.name reply
next_line p (CommentIs text) reply = refl
next_line p (Characters text) reply = refl
next_line p NullCharacter reply = refl
next_line p EndOfFile reply = refl
next_line p (ParseErrorIs message) reply = refl

module _ {M : Type 0} (reply_to : M → TokenText → Reply) (after : M → TokenText → ℕ → M) (foreign : M → Bool) where
  step_line : {p : ReaderPlace} {m : M} {xs : List ℕ} {ts : List TokenText} {reply : Reply} {q : ReaderPlace} {n : M} {ys : List ℕ} → p.line ≤ 2 ^ 64 - 1 → Step reply_to after foreign p m xs ts reply q n ys → q.line ≡ line_behind p.line xs ys
  step_line le (marked {p} {xs} {rest} s h) = line_stays p.line xs rest (0xef ∷ 0xbb ∷ 0xbf ∷ []) le (literal_gives (0xef ∷ 0xbb ∷ 0xbf ∷ []) xs rest h) refl
  step_line le (unmarked {p} {xs} s h) = line_stays p.line xs xs [] le refl refl
  step_line le (token_step {p} {m} {xs} {rest} t s h) = ap (λ l. line_behind l xs rest) (next_line p t (reply_to m t))
  step_line le (switch_step mode s h) = refl
  step_line le (text_step text s less bits) = refl

  pub read_line : {p : ReaderPlace} {m : M} {xs : List ℕ} {ts : List TokenText} {reply : Reply} {q : ReaderPlace} {n : M} {ys : List ℕ} → p.line ≤ 2 ^ 64 - 1 → Read reply_to after foreign p m xs ts reply q n ys → q.line ≡ line_behind p.line xs ys
  read_line le (nothing_read {p} {xs}) = line_stays p.line xs xs [] le refl refl
  read_line le (read_on {p} {q} {xs} {ys} {zs} read goes step) =
      let before : q.line ≡ line_behind p.line xs ys = read_line le read in
      let fits : q.line ≤ 2 ^ 64 - 1 = omega (arith, before, line_fits p.line false (passed xs ys)) in
      step_line fits step ∙ ap (λ l. line_behind l ys zs) before ∙ line_twice p.line xs ys zs (read_part reply_to after foreign read) (step_part reply_to after foreign step)

  readings_part : {p : ReaderPlace} {m : M} {xs : List ℕ} {ts : List TokenText} {q : ReaderPlace} {n : M} {ys : List ℕ} → Readings reply_to after foreign p m xs ts q n ys → Part xs ys
  readings_part {xs} no_reading = part_none xs
  readings_part (more_reading readings read goes) = part_twice (readings_part readings) (read_part reply_to after foreign read)

  pub readings_line : {p : ReaderPlace} {m : M} {xs : List ℕ} {ts : List TokenText} {q : ReaderPlace} {n : M} {ys : List ℕ} → p.line ≤ 2 ^ 64 - 1 → Readings reply_to after foreign p m xs ts q n ys → q.line ≡ line_behind p.line xs ys
  readings_line le (no_reading {p} {xs}) = line_stays p.line xs xs [] le refl refl
  readings_line le (more_reading {p} {q} {xs} {ys} {zs} readings read goes) =
      let before : q.line ≡ line_behind p.line xs ys = readings_line le readings in
      let fits : q.line ≤ 2 ^ 64 - 1 = omega (arith, before, line_fits p.line false (passed xs ys)) in
      read_line fits read ∙ ap (λ l. line_behind l ys zs) before ∙ line_twice p.line xs ys zs (readings_part readings) (read_part reply_to after foreign read)

  all_part : (xs : List ℕ) → Part xs []
  all_part xs = record { front = xs; split = sym (append-nil xs); apart = refl }

  -- the line after all that is left, and after all of the input
  pub last_line : {p : ReaderPlace} {m : M} {xs : List ℕ} {ts : List TokenText} {q : ReaderPlace} {n : M} {ys : List ℕ} → p.line ≤ 2 ^ 64 - 1 → Readings reply_to after foreign p m xs ts q n ys → line_behind q.line ys [] ≡ line_behind p.line xs []
  last_line {p} {xs} {ys} le readings = ap (λ l. line_behind l ys []) (readings_line le readings) ∙ line_twice p.line xs ys [] (readings_part readings) (all_part ys)
