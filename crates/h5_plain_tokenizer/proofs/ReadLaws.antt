-- Laws of Read.
use Rattle.std.proofs.Common.{◌≡◌, ℕ, Bool, true, false, List, [], ◌∷◌, ◌++◌, length, refl, arith, append_assoc, append-nil, length-append, le_refl, subst}
use Rattle.h5_token.specs.TokenText.{TokenText, DoctypeIs, TagIs, CommentIs, Characters, NullCharacter, EndOfFile, ParseErrorIs}
use Rattle.h5_token.specs.Reply.{Reply, Continues}
use Rattle.h5_token.specs.declared.tag.TagKind.{TagKind}
use Rattle.h5_token.specs.declared.tag.TagKind.TheVariants.{StartTag, EndTag}
use Rattle.h5_markup.proofs.Growth.{literal_stable}
use Rattle.h5_tokenizer_input.specs.Answers.{goes_on}
use Rattle.h5_plain_tokenizer.specs.Front.{Bit, Whole, Switch, ReaderPlace}
use Rattle.h5_plain_tokenizer.specs.Read.{Bits, no_bit, more_bits, Step, marked, unmarked, token_step, switch_step, text_step, Read, nothing_read, read_on, Reads, behind, in_mode, next_place, after_tag}
use Rattle.h5_plain_tokenizer.specs.declared.front.Mode.{Mode}
use Rattle.h5_plain_tokenizer.specs.Steps.{Moves}
use Rattle.h5_plain_tokenizer.proofs.FrontStays.{front_stable, found_stays, no_stays}
use Rattle.h5_plain_tokenizer.proofs.LineLaws.{behind_on}

bits_go_on : {mode : Mode} {last : List ℕ} {foreign : Bool} {xs text ys : List ℕ} (rest : List ℕ) → Bits mode last foreign xs text ys → Bits mode last foreign (xs ++ rest) text (ys ++ rest)
bits_go_on rest no_bit = no_bit
bits_go_on rest (more_bits {mode} {last} {foreign} {xs} {rest = r} bit h bits) = more_bits bit (found_stays (Bit bit) xs r rest (front_stable mode last foreign) h) (bits_go_on rest bits)

tag_started : (p : ReaderPlace) (kind : TagKind) (name : List ℕ) (reply : Reply) → p.at_start ≡ false → (after_tag p kind name reply).at_start ≡ false
tag_started p StartTag name reply h = h
tag_started p EndTag name reply h = h

next_started : (p : ReaderPlace) (t : TokenText) (reply : Reply) → p.at_start ≡ false → (next_place p t reply).at_start ≡ false
next_started p (DoctypeIs doctype) reply h = h
next_started p (TagIs tag) reply h = tag_started p tag.kind tag.name reply h
next_started p (CommentIs text) reply h = h
next_started p (Characters text) reply h = h
next_started p NullCharacter reply h = h
next_started p EndOfFile reply h = h
next_started p (ParseErrorIs message) reply h = h

module _ {M : Type 0} (reply_to : M → TokenText → Reply) (after : M → TokenText → ℕ → M) (foreign : M → Bool) where
  -- the line doesn't depend on what follows
  same_line : (p : ReaderPlace) (m : M) (xs : List ℕ) (ts : List TokenText) (reply : Reply) (q : ReaderPlace) (n : M) (ys more : List ℕ)
      → Step reply_to after foreign p m (xs ++ more) ts reply (behind q (xs ++ more) (ys ++ more)) n (ys ++ more) → Step reply_to after foreign p m (xs ++ more) ts reply (behind q xs ys) n (ys ++ more)
  same_line p m xs ts reply q n ys more step = subst (λ (r : ReaderPlace). Step reply_to after foreign p m (xs ++ more) ts reply r n (ys ++ more)) (behind_on q xs ys more) step

  -- a step after which more follows
  step_goes_on : {p : ReaderPlace} {m : M} {xs : List ℕ} {ts : List TokenText} {reply : Reply} {q : ReaderPlace} {n : M} {ys : List ℕ} (rest : List ℕ) → Step reply_to after foreign p m xs ts reply q n ys → Step reply_to after foreign p m (xs ++ rest) ts reply q n (ys ++ rest)
  step_goes_on rest (marked {xs} {rest = r} s h) = marked s (found_stays tt xs r rest (literal_stable (0xef ∷ 0xbb ∷ 0xbf ∷ [])) h)
  step_goes_on rest (unmarked {xs} s h) = unmarked s (no_stays xs rest (literal_stable (0xef ∷ 0xbb ∷ 0xbf ∷ [])) h)
  step_goes_on rest (token_step {p} {m} {xs} {rest = r} t s h) =
      same_line p m xs (t ∷ []) (reply_to m t) (next_place p t (reply_to m t)) (after m t p.line) r rest
      (token_step t s (found_stays (Whole t) xs r rest (front_stable p.mode p.last (foreign m)) h))
  step_goes_on rest (switch_step {p} {m} {xs} {rest = r} mode s h) =
      same_line p m xs [] Continues (in_mode mode p) m r rest
      (switch_step mode s (found_stays (Switch mode) xs r rest (front_stable p.mode p.last (foreign m)) h))
  step_goes_on rest (text_step {p} {m} {xs} {ys} text s less bits) =
      same_line p m xs (Characters text ∷ []) (reply_to m (Characters text)) p (after m (Characters text) p.line) ys rest
      (text_step text s (omega (arith, length-append xs rest, length-append ys rest)) (bits_go_on rest bits))

  -- what was read is read in the same way, whatever follows
  pub read_goes_on : {p : ReaderPlace} {m : M} {xs : List ℕ} {ts : List TokenText} {reply : Reply} {q : ReaderPlace} {n : M} {ys : List ℕ} (rest : List ℕ) → Read reply_to after foreign p m xs ts reply q n ys → Read reply_to after foreign p m (xs ++ rest) ts reply q n (ys ++ rest)
  read_goes_on rest nothing_read = nothing_read
  read_goes_on rest (read_on read goes step) = read_on (read_goes_on rest read) goes (step_goes_on rest step)

  step_started : {p : ReaderPlace} {m : M} {xs : List ℕ} {ts : List TokenText} {reply : Reply} {q : ReaderPlace} {n : M} {ys : List ℕ} → Step reply_to after foreign p m xs ts reply q n ys → p.at_start ≡ false → q.at_start ≡ false
  step_started (marked s h) e = refl
  step_started (unmarked s h) e = refl
  step_started (token_step {p} {m} t s h) e = next_started p t (reply_to m t) e
  step_started (switch_step mode s h) e = e
  step_started (text_step text s less bits) e = e

  pub moves_started : (p : ReaderPlace) (m : M) (xs : List ℕ) (reply : Reply) (q : ReaderPlace) (n : M) (ys : List ℕ) → p.at_start ≡ false → Moves reply_to after foreign p m xs reply q n ys → q.at_start ≡ false
  moves_started p m xs reply q n ys e moves = step_started moves.step e

  pub reads_none : (p : ReaderPlace) (m : M) (xs : List ℕ) → Reads reply_to after foreign p m xs Continues p m xs
  reads_none p m xs = record { tokens = []; read = nothing_read; no_longer = le_refl (length xs) }

  pub reads_more : (p : ReaderPlace) (m : M) (xs : List ℕ) (reply : Reply) (q : ReaderPlace) (n : M) (ys : List ℕ) (next : Reply) (r : ReaderPlace) (o : M) (zs : List ℕ) → Reads reply_to after foreign p m xs reply q n ys → goes_on reply ≡ true → Moves reply_to after foreign q n ys next r o zs → Reads reply_to after foreign p m xs next r o zs
  reads_more p m xs reply q n ys next r o zs before goes now = record {
    tokens = before.tokens ++ now.tokens;
    read = read_on before.read goes now.step;
    no_longer = omega (arith, before.no_longer, now.shorter);
  }

  -- a step that emits nothing, and then a reading
  pub read_after : {p : ReaderPlace} {m : M} {xs : List ℕ} {q : ReaderPlace} {ys : List ℕ} {us : List TokenText} {reply : Reply} {r : ReaderPlace} {o : M} {zs : List ℕ} → Step reply_to after foreign p m xs [] Continues q m ys → Read reply_to after foreign q m ys us reply r o zs → Read reply_to after foreign p m xs us reply r o zs
  read_after first nothing_read = read_on nothing_read refl first
  read_after first (read_on read goes step) = read_on (read_after first read) goes step

  -- one reading, and then another; if tokenization goes on after the second, it goes on after both
  pub read_joins : {p : ReaderPlace} {m : M} {xs : List ℕ} {ts : List TokenText} {reply : Reply} {q : ReaderPlace} {n : M} {ys : List ℕ} {us : List TokenText} {next : Reply} {r : ReaderPlace} {o : M} {zs : List ℕ} → Read reply_to after foreign p m xs ts reply q n ys → goes_on reply ≡ true → Read reply_to after foreign q n ys us next r o zs → (last : Reply) × ((goes_on next ≡ true → goes_on last ≡ true) × Read reply_to after foreign p m xs (ts ++ us) last r o zs)
  read_joins {ts} {reply} first goes nothing_read = (reply, ((λ _. goes), rw append-nil first))
  read_joins {ts} first goes (read_on {ts = vs} {us = ws} {next} read on step) =
      let before = read_joins first goes read in
      (next, ((λ h. h), rw (← append_assoc) (read_on before.1.1 (before.1.0 on) step)))
