-- The line at the end of a reading.
use Rattle.std.proofs.Common.{◌≡◌, ℕ, ◌+◌, ◌-◌, ◌^◌, ◌≤◌, Bool, true, false, true≢false, not, ◌&&◌, ◌==◌, List, [], ◌∷◌, ◌++◌, refl, sym, ap, ◌∙◌, subst, arith, append_assoc, if◌then◌else◌}
use Rattle.std.proofs.lemmas.Bool.{eqb-true, false≢true}
use Rattle.std.specs.Io.Iter.{u64_saturate}
use Rattle.h5_token.specs.TokenText.{TokenText, DoctypeIs, TagIs, CommentIs, Characters, NullCharacter, EndOfFile, ParseErrorIs}
use Rattle.h5_token.specs.Reply.{Reply}
use Rattle.h5_token.specs.declared.tag.TagKind.{TagKind}
use Rattle.h5_token.specs.declared.tag.TagKind.TheVariants.{StartTag, EndTag}
use Rattle.h5_tokenizer_input.specs.Lines.{newlines, line_past, ends_in_cr}
use Rattle.h5_tokenizer_input.proofs.LineLaws.{ends_append, line_fits, line_more, line_none, newlines_append}
use Rattle.h5_tokenizer_spec.specs.States.{State}
use Rattle.h5_tokenizer_spec.specs.References.{Reference}
use Rattle.h5_tokenizer_spec.specs.Reading.{ReaderPlace, behind, behind_newline, in_state, is_dropped, after_tag, after_token, Passes, passed, drops, goes, again, Step, quiet_step, text_step, token_step, ask_step, Read, nothing_read, read_on}
use Rattle.h5_tokenizer_spec.specs.Whole.{IsCounted, Readings, no_reading, more_reading}

-- one part, and then another
counted_twice : (p : ReaderPlace) (xs : List ℕ) (q : ReaderPlace) (ys : List ℕ) (r : ReaderPlace) (zs : List ℕ) → IsCounted p xs q ys → IsCounted q ys r zs → IsCounted p xs r zs
counted_twice p xs q ys r zs a b = record {
  passed = a.passed ++ b.passed;
  split = a.split ∙ ap (λ l. a.passed ++ l) b.split ∙ sym (append_assoc a.passed b.passed zs);
  line =
      b.line ∙ (λ i. line_past (a.line i) (a.after_return i) b.passed)
      ∙ line_more p.line (newlines p.after_return a.passed) (newlines (ends_in_cr p.after_return a.passed) b.passed) (newlines p.after_return (a.passed ++ b.passed)) (newlines_append p.after_return a.passed b.passed);
  after_return = b.after_return ∙ ap (λ c. ends_in_cr c b.passed) a.after_return ∙ sym (ends_append p.after_return a.passed b.passed);
}

-- a place in the same line
counted_none : (p q : ReaderPlace) (xs : List ℕ) → p.line ≤ 2 ^ 64 - 1 → q.line ≡ p.line → q.after_return ≡ p.after_return → IsCounted p xs q xs
counted_none p q xs le line after_return = record { passed = []; split = refl; line = line ∙ line_none p.line 0 le refl; after_return = after_return }

-- the same place except for its state
counted_behind : (p : ReaderPlace) (xs : List ℕ) (q : ReaderPlace) (ys : List ℕ) (r : ReaderPlace) → IsCounted p xs q ys → r.line ≡ q.line → r.after_return ≡ q.after_return → IsCounted p xs r ys
counted_behind p xs q ys r c line after_return = record { passed = c.passed; split = c.split; line = line ∙ c.line; after_return = after_return ∙ c.after_return }

newline_by : (a : Bool) (x : ℕ) → ((if a then 10 else x) == 10) ≡ (if a then true else x == 10)
newline_by true x = refl
newline_by false x = refl

byte_by : (a b r : Bool) (l : ℕ) → (r && b) ≡ false → l ≤ 2 ^ 64 - 1
    → (if (if a then true else b) then u64_saturate (l + 1) else l) ≡ u64_saturate (l + (if a then 1 + 0 else (if b && not r then 1 + 0 else 0)))
byte_by true b r l h le = omega arith
byte_by false true true l h le = absurd (true≢false h)
byte_by false true false l h le = omega arith
byte_by false false r l h le = omega (arith, le)

counted_byte : (p : ReaderPlace) (x : ℕ) (xs : List ℕ) (state : State) → p.line ≤ 2 ^ 64 - 1 → is_dropped p x ≡ false → IsCounted p (x ∷ xs) (behind x state p) xs
counted_byte p x xs state le kept = record {
  passed = x ∷ [];
  split = refl;
  line = ap (λ b. if b then u64_saturate (p.line + 1) else p.line) (newline_by (x == 13) x) ∙ byte_by (x == 13) (x == 10) p.after_return p.line kept le;
  after_return = refl;
}

drop_by : (a b r : Bool) (l : ℕ) → a ≡ false → (r && b) ≡ true → l ≤ 2 ^ 64 - 1 → l ≡ u64_saturate (l + (if a then 1 + 0 else (if b && not r then 1 + 0 else 0)))
drop_by true b r l e h le = absurd (true≢false e)
drop_by false b false l e h le = absurd (false≢true h)
drop_by false true true l e h le = omega (arith, le)
drop_by false false true l e h le = absurd (false≢true h)

is_newline : (r : Bool) (x : ℕ) → (r && x == 10) ≡ true → x ≡ 10
is_newline true x h = eqb-true x 10 h
is_newline false x h = absurd (false≢true h)

counted_drop : (p : ReaderPlace) (x : ℕ) (xs : List ℕ) → p.line ≤ 2 ^ 64 - 1 → is_dropped p x ≡ true → IsCounted p (x ∷ xs) (behind_newline p) xs
counted_drop p x xs le drop =
    let no_return : (x == 13) ≡ false = ap (λ y. y == 13) (is_newline p.after_return x drop) in
    record {
      passed = x ∷ [];
      split = refl;
      line = drop_by (x == 13) (x == 10) p.after_return p.line no_return drop le;
      after_return = sym no_return;
    }

-- the line after what was passed is also small enough
counted_fits : (p : ReaderPlace) (xs : List ℕ) (q : ReaderPlace) (ys : List ℕ) → IsCounted p xs q ys → q.line ≤ 2 ^ 64 - 1
counted_fits p xs q ys c = subst (λ n. n ≤ 2 ^ 64 - 1) (sym c.line) (line_fits p.line p.after_return c.passed)

counted_then : (p : ReaderPlace) (xs : List ℕ) (q : ReaderPlace) (ys : List ℕ) (r : ReaderPlace) (zs : List ℕ) → IsCounted p xs q ys → (q.line ≤ 2 ^ 64 - 1 → IsCounted q ys r zs) → IsCounted p xs r zs
counted_then p xs q ys r zs first second = counted_twice p xs q ys r zs first (second (counted_fits p xs q ys first))

passes_counted : (table : List Reference) {p q : ReaderPlace} {xs text ys : List ℕ} → p.line ≤ 2 ^ 64 - 1 → Passes table p xs text q ys → IsCounted p xs q ys
passes_counted table {p} {xs = xs} le passed = counted_none p p xs le refl refl
passes_counted table {p} {q} {ys = ys} le (drops {x = x} {xs = xs} d rest) =
    counted_then p (x ∷ xs) (behind_newline p) xs q ys (counted_drop p x xs le d) (λ fits. passes_counted table fits rest)
passes_counted table {p} {q} {ys = ys} le (goes {x = x} {xs = xs} text state d e rest) =
    counted_then p (x ∷ xs) (behind x state p) xs q ys (counted_byte p x xs state le d) (λ fits. passes_counted table fits rest)
passes_counted table {p} {q} {ys = ys} le (again {x = x} {xs = xs} text state d e rest) =
    counted_then p (x ∷ xs) (in_state state p) (x ∷ xs) q ys (counted_none p (in_state state p) (x ∷ xs) le refl refl) (λ fits. passes_counted table fits rest)

tag_line : (kind : TagKind) (name : List ℕ) (reply : Reply) (p : ReaderPlace) → ((after_tag kind name reply p).line ≡ p.line) × ((after_tag kind name reply p).after_return ≡ p.after_return)
tag_line StartTag name reply p = (refl, refl)
tag_line EndTag name reply p = (refl, refl)

token_line : (t : TokenText) (reply : Reply) (p : ReaderPlace) → ((after_token t reply p).line ≡ p.line) × ((after_token t reply p).after_return ≡ p.after_return)
token_line (DoctypeIs doctype) reply p = (refl, refl)
token_line (TagIs tag) reply p = tag_line tag.kind tag.name reply p
token_line (CommentIs text) reply p = (refl, refl)
token_line (Characters text) reply p = (refl, refl)
token_line NullCharacter reply p = (refl, refl)
token_line EndOfFile reply p = (refl, refl)
token_line (ParseErrorIs message) reply p = (refl, refl)

module _ (table : List Reference) {M : Type 0} (reply_to : M → TokenText → Reply) (after : M → TokenText → ℕ → M) (foreign : M → Bool) where
  step_counted : {p : ReaderPlace} {m : M} {xs : List ℕ} {ts : List TokenText} {reply : Reply} {q : ReaderPlace} {n : M} {ys : List ℕ} → p.line ≤ 2 ^ 64 - 1
      → Step table reply_to after foreign p m xs ts reply q n ys → IsCounted p xs q ys
  step_counted le (quiet_step h) = passes_counted table le h
  step_counted le (text_step h) = passes_counted table le h
  step_counted {p} {m} le (token_step {x = x} {xs = xs} token state d e) =
      let same = token_line token (reply_to m token) (behind x state p) in
      counted_behind p (x ∷ xs) (behind x state p) xs (after_token token (reply_to m token) (behind x state p)) (counted_byte p x xs state le d) same.0 same.1
  step_counted {p} {m} le (ask_step {x = x} {xs = xs} there error elsewhere d e) = counted_byte p x xs (if foreign m then there else elsewhere) le d

  pub read_counted : {p : ReaderPlace} {m : M} {xs : List ℕ} {ts : List TokenText} {reply : Reply} {q : ReaderPlace} {n : M} {ys : List ℕ} → p.line ≤ 2 ^ 64 - 1
      → Read table reply_to after foreign p m xs ts reply q n ys → IsCounted p xs q ys
  read_counted {p} {xs = xs} le nothing_read = counted_none p p xs le refl refl
  read_counted le (read_on {p} {q} {r} {xs = xs} {ys = ys} {zs = zs} read on step) = counted_then p xs q ys r zs (read_counted le read) (λ fits. step_counted fits step)

  pub readings_counted : {p : ReaderPlace} {m : M} {xs : List ℕ} {ts : List TokenText} {q : ReaderPlace} {n : M} {ys : List ℕ} → p.line ≤ 2 ^ 64 - 1
      → Readings table reply_to after foreign p m xs ts q n ys → IsCounted p xs q ys
  readings_counted {p} {xs = xs} le no_reading = counted_none p p xs le refl refl
  readings_counted le (more_reading {p} {q} {r} {xs = xs} {ys = ys} {zs = zs} readings read taken) =
      counted_then p xs q ys r zs (readings_counted le readings) (λ fits. read_counted fits read)
