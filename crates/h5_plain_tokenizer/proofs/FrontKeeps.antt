-- What is left after a part is a suffix of the input, and no CR LF is split there.
use Rattle.std.proofs.Common.{◌≡◌, ℕ, Bool, true, false, List, [], ◌∷◌, cond, eqb, refl, sym, ap, subst}
use Rattle.std.proofs.lemmas.Bool.{eqb-true}
use Rattle.std.specs.Prelude.{codes}
use Rattle.std.specs.Char.{is_ascii_alphabetic}
use Rattle.h5_token.specs.TokenText.{TokenText, NullCharacter}
use Rattle.h5_token.specs.Reply.{Reply}
use Rattle.h5_token.specs.declared.states.RawKind.TheVariants.{Rcdata, Rawtext, ScriptData}
use Rattle.h5_tokenizer_input.specs.Lines.{newlines, ends_in_cr}
use Rattle.h5_plain_tokenizer.specs.Read.{Bits, no_bit, more_bits, Step, marked, unmarked, token_step, switch_step, text_step, Read, nothing_read, read_on}
use Rattle.h5_markup.specs.Matching.{Match, Open, No, Found, literal, word, peek, and_then, or_else}
use Rattle.h5_markup.specs.Cuts.{is_in}
use Rattle.h5_markup.specs.declared.cut.Class.TheVariants.{NameEnd}
use Rattle.h5_plain_tokenizer.specs.declared.front.Mode.{Mode}
use Rattle.h5_plain_tokenizer.specs.declared.front.Mode.TheVariants.{Data, RawData, Plaintext, Cdata}
use Rattle.h5_plain_tokenizer.specs.declared.front.Construct.TheVariants.{Comment, Doctype, StartTag, EndTag, RawEndTag}
use Rattle.h5_markup.specs.Text.{gives, reference, newline, cleaned, escape}
use Rattle.h5_plain_tokenizer.specs.Tokens.{start_of, token_of}
use Rattle.h5_plain_tokenizer.specs.Front.{Opening, Begins, Gives, Null, Turns, says, stands_for, cdata, in_data, raw_end_tag, reads_references, opening, Bit, Whole, Switch, finished, other, front, ReaderPlace}
use Rattle.h5_plain_tokenizer.proofs.PartLaws.{Part, Parts, Keeps, part_none, part_twice, and_then_parts, or_else_parts, literal_keeps, word_keeps, peek_keeps, ahead_keeps, up_to_end_keeps, found_keeps, no_keeps, and_then_keeps, or_else_keeps}

gives_keeps : (bytes needle : List ℕ) → ends_in_cr false needle ≡ false → Keeps (λ xs. gives bytes (literal needle xs))
gives_keeps bytes needle e = and_then_keeps (literal_keeps needle e) (λ _. found_keeps bytes)

says_keeps : {p : List ℕ → Match (Unit {0})} (o : Opening) → Keeps p → Keeps (λ xs. says o (p xs))
says_keeps o h = and_then_keeps h (λ _. found_keeps o)

stands_keeps : {p : List ℕ → Match (List ℕ)} → Keeps p → Keeps (λ xs. stands_for (p xs))
stands_keeps h = and_then_keeps h (λ text. found_keeps (Gives text))

reference_keeps : Keeps reference
reference_keeps =
    or_else_keeps (gives_keeps (38 ∷ []) (codes "&amp;") refl)
    (or_else_keeps (gives_keeps (60 ∷ []) (codes "&lt;") refl)
    (or_else_keeps (gives_keeps (62 ∷ []) (codes "&gt;") refl)
    (or_else_keeps (gives_keeps (34 ∷ []) (codes "&quot;") refl)
    (gives_keeps (0xc2 ∷ 0xa0 ∷ []) (codes "&nbsp;") refl))))

-- a CR and what follows it, by whether that is an LF
newline_by : (x y : ℕ) (ys : List ℕ) (cr lf : Bool) → eqb y 10 ≡ lf
    → Parts (x ∷ y ∷ ys) (or_else (gives (10 ∷ []) (cond cr (cond lf (Found tt ys) No) No)) (gives (10 ∷ []) (cond cr (Found tt (y ∷ ys)) No)))
newline_by x y ys false lf e = tt
newline_by x y ys true true e = record { front = x ∷ y ∷ []; split = refl; apart = ap (λ z. newlines (eqb z 13) ys) (eqb-true y 10 e) }
newline_by x y ys true false e = record { front = x ∷ []; split = refl; apart = rw e refl }

one_byte : (x : ℕ) (cr : Bool) → Parts (x ∷ []) (or_else (gives (10 ∷ []) (cond cr Open No)) (gives (10 ∷ []) (cond cr (Found tt []) No)))
one_byte x true = tt
one_byte x false = tt

newline_parts : (xs : List ℕ) → Parts xs (newline xs)
newline_parts [] = tt
newline_parts (x ∷ []) = one_byte x (eqb x 13)
newline_parts (x ∷ y ∷ ys) = newline_by x y ys (eqb x 13) (eqb y 10) refl

newline_keeps : Keeps newline
newline_keeps = record { parts = newline_parts }

cleaned_keeps : Keeps cleaned
cleaned_keeps = or_else_keeps newline_keeps (gives_keeps (0xef ∷ 0xbf ∷ 0xbd ∷ []) (0 ∷ []) refl)

escape_keeps : (references : Bool) → Keeps (escape references)
escape_keeps true = or_else_keeps reference_keeps cleaned_keeps
escape_keeps false = or_else_keeps no_keeps cleaned_keeps

cdata_keeps : (foreign : Bool) → Keeps (cdata foreign)
cdata_keeps true = says_keeps (Turns Cdata) (literal_keeps (codes "<![CDATA[") refl)
cdata_keeps false = no_keeps

data_keeps : (foreign : Bool) → Keeps (in_data foreign)
data_keeps foreign =
    or_else_keeps (says_keeps (Begins Comment) (literal_keeps (codes "<!--") refl))
    (or_else_keeps (says_keeps (Begins Doctype) (word_keeps (codes "<!DOCTYPE") refl))
    (or_else_keeps (cdata_keeps foreign)
    (or_else_keeps (and_then_keeps (literal_keeps (codes "</") refl) (λ _. says_keeps (Begins EndTag) (peek_keeps is_ascii_alphabetic)))
    (or_else_keeps (and_then_keeps (literal_keeps (codes "<") refl) (λ _. says_keeps (Begins StartTag) (peek_keeps is_ascii_alphabetic)))
    (or_else_keeps (stands_keeps reference_keeps)
    (or_else_keeps (stands_keeps newline_keeps) (says_keeps Null (literal_keeps (0 ∷ []) refl))))))))

raw_end_keeps : (last : List ℕ) → Keeps (raw_end_tag last)
raw_end_keeps [] = no_keeps
raw_end_keeps (c ∷ cs) = and_then_keeps (literal_keeps (codes "</") refl) (λ _.
    says_keeps (Begins RawEndTag) (ahead_keeps (λ rest. and_then (word (c ∷ cs) rest) (λ _ behind. peek (is_in NameEnd) behind))))

opening_keeps : (mode : Mode) (last : List ℕ) (foreign : Bool) → Keeps (opening mode last foreign)
opening_keeps Data last foreign = data_keeps foreign
opening_keeps (RawData kind) last foreign = or_else_keeps (raw_end_keeps last) (stands_keeps (escape_keeps (reads_references kind)))
opening_keeps Plaintext last foreign = stands_keeps cleaned_keeps
opening_keeps Cdata last foreign = or_else_keeps (says_keeps (Turns Data) (literal_keeps (codes "]]>") refl)) (stands_keeps cleaned_keeps)

finished_keeps : (o : Opening) → Keeps (finished o)
finished_keeps (Begins construct) = and_then_keeps (up_to_end_keeps (start_of construct)) (λ text. found_keeps (Whole (token_of construct text)))
finished_keeps (Gives text) = found_keeps (Bit text)
finished_keeps Null = found_keeps (Whole NullCharacter)
finished_keeps (Turns mode) = found_keeps (Switch mode)

or_no : {A : Type 0} (m : Match A) → or_else m No ≡ m
or_no Open = refl
or_no No = refl
or_no (Found a rest) = refl

-- in each state a CR is a newline
raw_cr : (last xs : List ℕ) → raw_end_tag last (13 ∷ xs) ≡ No
raw_cr [] xs = refl
raw_cr (c ∷ cs) xs = refl

data_cr : (foreign : Bool) (xs : List ℕ) → in_data foreign (13 ∷ xs) ≡ stands_for (newline (13 ∷ xs))
data_cr true xs = or_no (stands_for (newline (13 ∷ xs)))
data_cr false xs = or_no (stands_for (newline (13 ∷ xs)))

opening_cr : (mode : Mode) (last : List ℕ) (foreign : Bool) (xs : List ℕ) → opening mode last foreign (13 ∷ xs) ≡ stands_for (newline (13 ∷ xs))
opening_cr Data last foreign xs = data_cr foreign xs
opening_cr (RawData Rcdata) last foreign xs = rw (raw_cr last xs) (ap stands_for (or_no (newline (13 ∷ xs))))
opening_cr (RawData Rawtext) last foreign xs = rw (raw_cr last xs) (ap stands_for (or_no (newline (13 ∷ xs))))
opening_cr (RawData ScriptData) last foreign xs = rw (raw_cr last xs) (ap stands_for (or_no (newline (13 ∷ xs))))
opening_cr Plaintext last foreign xs = ap stands_for (or_no (newline (13 ∷ xs)))
opening_cr Cdata last foreign xs = ap stands_for (or_no (newline (13 ∷ xs)))

cr_by : (y : ℕ) (ys : List ℕ) (lf : Bool) → eqb y 10 ≡ lf
    → Parts (13 ∷ y ∷ ys) (or_else (and_then (stands_for (or_else (gives (10 ∷ []) (cond lf (Found tt ys) No)) (Found (10 ∷ []) (y ∷ ys)))) finished) (Found (Bit (13 ∷ [])) (y ∷ ys)))
cr_by y ys true e = newline_by 13 y ys true true e
cr_by y ys false e = newline_by 13 y ys true false e

cr_parts : (xs : List ℕ) → Parts (13 ∷ xs) (or_else (and_then (stands_for (newline (13 ∷ xs))) finished) (other (13 ∷ xs)))
cr_parts [] = tt
cr_parts (y ∷ ys) = cr_by y ys (eqb y 10) refl

front_by : (mode : Mode) (last : List ℕ) (foreign : Bool) (x : ℕ) (xs : List ℕ) (cr : Bool) → eqb x 13 ≡ cr → Parts (x ∷ xs) (front mode last foreign (x ∷ xs))
front_by mode last foreign x xs true e =
    subst (λ y. Parts (y ∷ xs) (front mode last foreign (y ∷ xs))) (sym (eqb-true x 13 e))
    (subst (λ (m : Match Opening). Parts (13 ∷ xs) (or_else (and_then m finished) (other (13 ∷ xs)))) (sym (opening_cr mode last foreign xs)) (cr_parts xs))
front_by mode last foreign x xs false e =
    or_else_parts (x ∷ xs) (and_then (opening mode last foreign (x ∷ xs)) finished) (other (x ∷ xs))
    (and_then_parts (x ∷ xs) (opening mode last foreign (x ∷ xs)) finished ((opening_keeps mode last foreign).parts (x ∷ xs)) (λ o r. (finished_keeps o).parts r))
    (record { front = x ∷ []; split = refl; apart = ap (λ c. newlines c xs) e })

front_parts : (mode : Mode) (last : List ℕ) (foreign : Bool) (xs : List ℕ) → Parts xs (front mode last foreign xs)
front_parts mode last foreign [] =
    or_else_parts [] (and_then (opening mode last foreign []) finished) Open
    (and_then_parts [] (opening mode last foreign []) finished ((opening_keeps mode last foreign).parts []) (λ o r. (finished_keeps o).parts r)) tt
front_parts mode last foreign (x ∷ xs) = front_by mode last foreign x xs (eqb x 13) refl

front_keeps : (mode : Mode) (last : List ℕ) (foreign : Bool) → Keeps (front mode last foreign)
front_keeps mode last foreign = record { parts = front_parts mode last foreign }

found_part : {A : Type 0} {p : List ℕ → Match A} (a : A) (xs rest : List ℕ) → Keeps p → p xs ≡ Found a rest → Part xs rest
found_part a xs rest h e = subst (Parts xs) e (h.parts xs)

pub bits_part : {mode : Mode} {last : List ℕ} {foreign : Bool} {xs text ys : List ℕ} → Bits mode last foreign xs text ys → Part xs ys
bits_part {xs} no_bit = part_none xs
bits_part (more_bits {mode} {last} {foreign} {xs} {rest} bit h bits) = part_twice (found_part (Bit bit) xs rest (front_keeps mode last foreign) h) (bits_part bits)

module _ {M : Type 0} (reply_to : M → TokenText → Reply) (after : M → TokenText → ℕ → M) (foreign : M → Bool) where
  pub step_part : {p : ReaderPlace} {m : M} {xs : List ℕ} {ts : List TokenText} {reply : Reply} {q : ReaderPlace} {n : M} {ys : List ℕ} → Step reply_to after foreign p m xs ts reply q n ys → Part xs ys
  step_part (marked {xs} {rest} s h) = found_part tt xs rest (literal_keeps (0xef ∷ 0xbb ∷ 0xbf ∷ []) refl) h
  step_part (unmarked {xs} s h) = part_none xs
  step_part (token_step {p} {m} {xs} {rest} t s h) = found_part (Whole t) xs rest (front_keeps p.mode p.last (foreign m)) h
  step_part (switch_step {p} {m} {xs} {rest} mode s h) = found_part (Switch mode) xs rest (front_keeps p.mode p.last (foreign m)) h
  step_part (text_step text s less bits) = bits_part bits

  -- what is left unread is a suffix of the input
  pub read_part : {p : ReaderPlace} {m : M} {xs : List ℕ} {ts : List TokenText} {reply : Reply} {q : ReaderPlace} {n : M} {ys : List ℕ} → Read reply_to after foreign p m xs ts reply q n ys → Part xs ys
  read_part {xs} nothing_read = part_none xs
  read_part (read_on read goes step) = part_twice (read_part read) (step_part step)
