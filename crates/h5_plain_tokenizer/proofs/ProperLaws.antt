-- Bits of text aren't empty, and the tokens of parts are proper.
use Rattle.std.proofs.Common.{◌≡◌, ℕ, ◌<◌, Bool, true, false, List, [], ◌∷◌, ◌++◌, length, subst, arith}
use Rattle.std.specs.Prelude.{codes}
use Rattle.std.specs.Char.{is_ascii_alphabetic}
use Rattle.h5_token.specs.TokenText.{TokenText, Characters}
use Rattle.h5_token.specs.Reply.{Reply}
use Rattle.h5_markup.specs.Matching.{Match, Open, No, Found, and_then, or_else, literal, word, peek, ahead}
use Rattle.h5_markup.specs.Cuts.{is_in}
use Rattle.h5_markup.specs.Ending.{up_to_end}
use Rattle.h5_markup.specs.declared.cut.Class.TheVariants.{NameEnd}
use Rattle.h5_tokenizer_input.specs.Proper.{IsProper, AreProper}
use Rattle.h5_tokenizer_input.proofs.ProperLaws.{proper_append}
use Rattle.h5_plain_tokenizer.specs.declared.front.Mode.{Mode}
use Rattle.h5_plain_tokenizer.specs.declared.front.Mode.TheVariants.{Data, RawData, Plaintext, Cdata}
use Rattle.h5_plain_tokenizer.specs.declared.front.Construct.{Construct}
use Rattle.h5_plain_tokenizer.specs.declared.front.Construct.TheVariants.{Comment, Doctype, StartTag, EndTag, RawEndTag}
use Rattle.h5_markup.specs.Text.{gives, reference, newline, cleaned, escape}
use Rattle.h5_plain_tokenizer.specs.Tokens.{start_of, token_of}
use Rattle.h5_plain_tokenizer.specs.Front.{Opening, Begins, Gives, Null, Turns, says, stands_for, cdata, in_data, raw_end_tag, reads_references, opening, Piece, Bit, Whole, Switch, finished, other, front, ReaderPlace}
use Rattle.h5_plain_tokenizer.specs.Read.{Bits, no_bit, more_bits, Step, marked, unmarked, token_step, switch_step, text_step, Read, nothing_read, read_on}

-- a text that is not empty
abbrev pub IsFull : List ℕ → Type 0
IsFull [] = ⊥
IsFull (x ∷ xs) = Unit {0}

abbrev Opens : Opening → Type 0
Opens (Begins construct) = Unit {0}
Opens (Gives text) = IsFull text
Opens Null = Unit {0}
Opens (Turns mode) = Unit {0}

abbrev Fits : Piece → Type 0
Fits (Bit text) = IsFull text
Fits (Whole token) = IsProper token
Fits (Switch mode) = Unit {0}

abbrev Holds : {A : Type 0} → (A → Type 0) → Match A → Type 0
Holds P Open = Unit {0}
Holds P No = Unit {0}
Holds P (Found a rest) = P a

or_holds : {A : Type 0} (P : A → Type 0) (m o : Match A) → Holds P m → Holds P o → Holds P (or_else m o)
or_holds P Open o h g = tt
or_holds P No o h g = g
or_holds P (Found a r) o h g = h

then_holds : {A B : Type 0} (P : A → Type 0) (Q : B → Type 0) (m : Match A) (f : A → List ℕ → Match B) → Holds P m → ((a : A) (r : List ℕ) → P a → Holds Q (f a r)) → Holds Q (and_then m f)
then_holds P Q Open f h g = tt
then_holds P Q No f h g = tt
then_holds P Q (Found a r) f h g = g a r h

gives_full : (x : ℕ) (bytes : List ℕ) (m : Match (Unit {0})) → Holds IsFull (gives (x ∷ bytes) m)
gives_full x bytes Open = tt
gives_full x bytes No = tt
gives_full x bytes (Found a r) = tt

says_opens : (o : Opening) (m : Match (Unit {0})) → Opens o → Holds Opens (says o m)
says_opens o Open h = tt
says_opens o No h = tt
says_opens o (Found a r) h = h

stands_opens : (m : Match (List ℕ)) → Holds IsFull m → Holds Opens (stands_for m)
stands_opens Open h = tt
stands_opens No h = tt
stands_opens (Found a r) h = h

reference_full : (xs : List ℕ) → Holds IsFull (reference xs)
reference_full xs =
    or_holds IsFull _ _ (gives_full 38 [] (literal (codes "&amp;") xs))
    (or_holds IsFull _ _ (gives_full 60 [] (literal (codes "&lt;") xs))
    (or_holds IsFull _ _ (gives_full 62 [] (literal (codes "&gt;") xs))
    (or_holds IsFull _ _ (gives_full 34 [] (literal (codes "&quot;") xs))
    (gives_full 0xc2 (0xa0 ∷ []) (literal (codes "&nbsp;") xs)))))

newline_full : (xs : List ℕ) → Holds IsFull (newline xs)
newline_full xs = or_holds IsFull _ _ (gives_full 10 [] (literal (13 ∷ 10 ∷ []) xs)) (gives_full 10 [] (literal (13 ∷ []) xs))

cleaned_full : (xs : List ℕ) → Holds IsFull (cleaned xs)
cleaned_full xs = or_holds IsFull _ _ (newline_full xs) (gives_full 0xef (0xbf ∷ 0xbd ∷ []) (literal (0 ∷ []) xs))

escape_full : (references : Bool) (xs : List ℕ) → Holds IsFull (escape references xs)
escape_full true xs = or_holds IsFull _ _ (reference_full xs) (cleaned_full xs)
escape_full false xs = cleaned_full xs

cdata_opens : (foreign : Bool) (xs : List ℕ) → Holds Opens (cdata foreign xs)
cdata_opens true xs = says_opens (Turns Cdata) (literal (codes "<![CDATA[") xs) tt
cdata_opens false xs = tt

lead_opens : (construct : Construct) (test : ℕ → Bool) (m : Match (Unit {0})) → Holds Opens (and_then m (λ _ rest. says (Begins construct) (peek test rest)))
lead_opens construct test Open = tt
lead_opens construct test No = tt
lead_opens construct test (Found a r) = says_opens (Begins construct) (peek test r) tt

data_opens : (foreign : Bool) (xs : List ℕ) → Holds Opens (in_data foreign xs)
data_opens foreign xs =
    or_holds Opens _ _ (says_opens (Begins Comment) (literal (codes "<!--") xs) tt)
    (or_holds Opens _ _ (says_opens (Begins Doctype) (word (codes "<!DOCTYPE") xs) tt)
    (or_holds Opens _ _ (cdata_opens foreign xs)
    (or_holds Opens _ _ (lead_opens EndTag is_ascii_alphabetic (literal (codes "</") xs))
    (or_holds Opens _ _ (lead_opens StartTag is_ascii_alphabetic (literal (codes "<") xs))
    (or_holds Opens _ _ (stands_opens (reference xs) (reference_full xs))
    (or_holds Opens _ _ (stands_opens (newline xs) (newline_full xs)) (says_opens Null (literal (0 ∷ []) xs) tt)))))))

raw_opens_by : (c : ℕ) (cs : List ℕ) (m : Match (Unit {0})) → Holds Opens (and_then m (λ _ rest. says (Begins RawEndTag) (ahead (and_then (word (c ∷ cs) rest) (λ _ behind. peek (is_in NameEnd) behind)) rest)))
raw_opens_by c cs Open = tt
raw_opens_by c cs No = tt
raw_opens_by c cs (Found a r) = says_opens (Begins RawEndTag) (ahead (and_then (word (c ∷ cs) r) (λ _ behind. peek (is_in NameEnd) behind)) r) tt

raw_opens : (last xs : List ℕ) → Holds Opens (raw_end_tag last xs)
raw_opens [] xs = tt
raw_opens (c ∷ cs) xs = raw_opens_by c cs (literal (codes "</") xs)

opening_opens : (mode : Mode) (last : List ℕ) (foreign : Bool) (xs : List ℕ) → Holds Opens (opening mode last foreign xs)
opening_opens Data last foreign xs = data_opens foreign xs
opening_opens (RawData kind) last foreign xs = or_holds Opens _ _ (raw_opens last xs) (stands_opens (escape (reads_references kind) xs) (escape_full (reads_references kind) xs))
opening_opens Plaintext last foreign xs = stands_opens (cleaned xs) (cleaned_full xs)
opening_opens Cdata last foreign xs = or_holds Opens _ _ (says_opens (Turns Data) (literal (codes "]]>") xs) tt) (stands_opens (cleaned xs) (cleaned_full xs))

token_proper : (construct : Construct) (text : List ℕ) → IsProper (token_of construct text)
token_proper Comment text = tt
token_proper Doctype text = tt
token_proper StartTag text = tt
token_proper EndTag text = tt
token_proper RawEndTag text = tt

concluded_fits : (construct : Construct) (m : Match (List ℕ)) → Holds Fits (and_then m (λ text rest. Found (Whole (token_of construct text)) rest))
concluded_fits construct Open = tt
concluded_fits construct No = tt
concluded_fits construct (Found text r) = token_proper construct text

finished_fits : (o : Opening) (rest : List ℕ) → Opens o → Holds Fits (finished o rest)
finished_fits (Begins construct) rest h = concluded_fits construct (up_to_end (start_of construct) rest)
finished_fits (Gives text) rest h = h
finished_fits Null rest h = tt
finished_fits (Turns mode) rest h = tt

other_fits : (xs : List ℕ) → Holds Fits (other xs)
other_fits [] = tt
other_fits (x ∷ xs) = tt

front_fits : (mode : Mode) (last : List ℕ) (foreign : Bool) (xs : List ℕ) → Holds Fits (front mode last foreign xs)
front_fits mode last foreign xs = or_holds Fits _ _ (then_holds Opens Fits (opening mode last foreign xs) finished (opening_opens mode last foreign xs) finished_fits) (other_fits xs)

-- a bit that the input begins with isn't empty
pub bit_full : (mode : Mode) (last : List ℕ) (foreign : Bool) (xs bit rest : List ℕ) → front mode last foreign xs ≡ Found (Bit bit) rest → IsFull bit
bit_full mode last foreign xs bit rest h = subst (Holds Fits) h (front_fits mode last foreign xs)

full_more : (xs ys : List ℕ) → IsFull xs → IsFull (xs ++ ys)
full_more [] ys h = absurd h
full_more (x ∷ xs) ys h = tt

pub bits_full : {mode : Mode} {last : List ℕ} {foreign : Bool} {xs text ys : List ℕ} → length ys < length xs → Bits mode last foreign xs text ys → IsFull text
bits_full less no_bit = absurd (omega arith)
bits_full less (more_bits {mode} {last} {foreign} {xs} {rest} {text} bit h bits) = full_more bit text (subst (Holds Fits) h (front_fits mode last foreign xs))

full_proper : (text : List ℕ) → IsFull text → IsProper (Characters text)
full_proper [] h = h
full_proper (x ∷ xs) h = tt

module _ {M : Type 0} (reply_to : M → TokenText → Reply) (after : M → TokenText → ℕ → M) (foreign : M → Bool) where
  step_proper : {p : ReaderPlace} {m : M} {xs : List ℕ} {ts : List TokenText} {reply : Reply} {q : ReaderPlace} {n : M} {ys : List ℕ} → Step reply_to after foreign p m xs ts reply q n ys → AreProper ts
  step_proper (marked s h) = tt
  step_proper (unmarked s h) = tt
  step_proper (token_step {p} {m} {xs} t s h) = (subst (Holds Fits) h (front_fits p.mode p.last (foreign m) xs), tt)
  step_proper (switch_step mode s h) = tt
  step_proper (text_step text s less bits) = (full_proper text (bits_full less bits), tt)

  pub read_proper : {p : ReaderPlace} {m : M} {xs : List ℕ} {ts : List TokenText} {reply : Reply} {q : ReaderPlace} {n : M} {ys : List ℕ} → Read reply_to after foreign p m xs ts reply q n ys → AreProper ts
  read_proper nothing_read = tt
  read_proper (read_on {ts} {us} read goes step) = proper_append ts us (read_proper read) (step_proper step)
