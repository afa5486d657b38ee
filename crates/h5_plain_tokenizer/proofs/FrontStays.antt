-- What the input begins with stays the same, whatever follows.
use Rattle.std.proofs.Common.{◌≡◌, ℕ, Bool, true, false, List, [], ◌∷◌, ◌++◌, refl, subst}
use Rattle.std.specs.Prelude.{codes}
use Rattle.std.specs.Char.{is_ascii_alphabetic}
use Rattle.h5_token.specs.TokenText.{NullCharacter}
use Rattle.h5_markup.specs.Matching.{Match, No, Found, literal, Grows}
use Rattle.h5_markup.specs.Cuts.{is_in}
use Rattle.h5_markup.specs.declared.cut.Class.TheVariants.{NameEnd}
use Rattle.h5_markup.proofs.Growth.{Stable, literal_stable, word_stable, peek_stable, ahead_stable, up_to_end_stable, found_stable, no_stable, and_then_stable, or_else_stable}
use Rattle.h5_plain_tokenizer.specs.declared.front.Mode.{Mode}
use Rattle.h5_plain_tokenizer.specs.declared.front.Mode.TheVariants.{Data, RawData, Plaintext, Cdata}
use Rattle.h5_plain_tokenizer.specs.declared.front.Construct.TheVariants.{Comment, Doctype, StartTag, EndTag, RawEndTag}
use Rattle.h5_markup.specs.Text.{gives, reference, newline, cleaned, escape}
use Rattle.h5_plain_tokenizer.specs.Tokens.{start_of, token_of}
use Rattle.h5_plain_tokenizer.specs.Front.{Opening, Begins, Gives, Null, Turns, says, stands_for, cdata, in_data, raw_end_tag, reads_references, opening, Bit, Whole, Switch, finished, other, front}

gives_stable : (bytes needle : List ℕ) → Stable (λ xs. gives bytes (literal needle xs))
gives_stable bytes needle = and_then_stable (literal_stable needle) (λ _. found_stable bytes)

says_stable : {p : List ℕ → Match (Unit {0})} (o : Opening) → Stable p → Stable (λ xs. says o (p xs))
says_stable o h = and_then_stable h (λ _. found_stable o)

stands_stable : {p : List ℕ → Match (List ℕ)} → Stable p → Stable (λ xs. stands_for (p xs))
stands_stable h = and_then_stable h (λ text. found_stable (Gives text))

reference_stable : Stable reference
reference_stable =
    or_else_stable (gives_stable (38 ∷ []) (codes "&amp;"))
    (or_else_stable (gives_stable (60 ∷ []) (codes "&lt;"))
    (or_else_stable (gives_stable (62 ∷ []) (codes "&gt;"))
    (or_else_stable (gives_stable (34 ∷ []) (codes "&quot;"))
    (gives_stable (0xc2 ∷ 0xa0 ∷ []) (codes "&nbsp;")))))

newline_stable : Stable newline
newline_stable = or_else_stable (gives_stable (10 ∷ []) (13 ∷ 10 ∷ [])) (gives_stable (10 ∷ []) (13 ∷ []))

cleaned_stable : Stable cleaned
cleaned_stable = or_else_stable newline_stable (gives_stable (0xef ∷ 0xbf ∷ 0xbd ∷ []) (0 ∷ []))

escape_stable : (references : Bool) → Stable (escape references)
escape_stable true = or_else_stable reference_stable cleaned_stable
escape_stable false = or_else_stable no_stable cleaned_stable

cdata_stable : (foreign : Bool) → Stable (cdata foreign)
cdata_stable true = says_stable (Turns Cdata) (literal_stable (codes "<![CDATA["))
cdata_stable false = no_stable

data_stable : (foreign : Bool) → Stable (in_data foreign)
data_stable foreign =
    or_else_stable (says_stable (Begins Comment) (literal_stable (codes "<!--")))
    (or_else_stable (says_stable (Begins Doctype) (word_stable (codes "<!DOCTYPE")))
    (or_else_stable (cdata_stable foreign)
    (or_else_stable (and_then_stable (literal_stable (codes "</")) (λ _. says_stable (Begins EndTag) (peek_stable is_ascii_alphabetic)))
    (or_else_stable (and_then_stable (literal_stable (codes "<")) (λ _. says_stable (Begins StartTag) (peek_stable is_ascii_alphabetic)))
    (or_else_stable (stands_stable reference_stable)
    (or_else_stable (stands_stable newline_stable) (says_stable Null (literal_stable (0 ∷ [])))))))))

raw_end_stable : (last : List ℕ) → Stable (raw_end_tag last)
raw_end_stable [] = no_stable
raw_end_stable (c ∷ cs) = and_then_stable (literal_stable (codes "</")) (λ _.
    says_stable (Begins RawEndTag) (ahead_stable (and_then_stable (word_stable (c ∷ cs)) (λ _. peek_stable (is_in NameEnd)))))

pub opening_stable : (mode : Mode) (last : List ℕ) (foreign : Bool) → Stable (opening mode last foreign)
opening_stable Data last foreign = data_stable foreign
opening_stable (RawData kind) last foreign = or_else_stable (raw_end_stable last) (stands_stable (escape_stable (reads_references kind)))
opening_stable Plaintext last foreign = stands_stable cleaned_stable
opening_stable Cdata last foreign = or_else_stable (says_stable (Turns Data) (literal_stable (codes "]]>"))) (stands_stable cleaned_stable)

finished_stable : (o : Opening) → Stable (finished o)
finished_stable (Begins construct) = and_then_stable (up_to_end_stable (start_of construct)) (λ text. found_stable (Whole (token_of construct text)))
finished_stable (Gives text) = found_stable (Bit text)
finished_stable Null = found_stable (Whole NullCharacter)
finished_stable (Turns mode) = found_stable (Switch mode)

other_grows : (xs more : List ℕ) → Grows (other xs) more (other (xs ++ more))
other_grows [] more = tt
other_grows (x ∷ xs) more = refl

other_stable : Stable other
other_stable = record { grows = other_grows }

pub front_stable : (mode : Mode) (last : List ℕ) (foreign : Bool) → Stable (front mode last foreign)
front_stable mode last foreign = or_else_stable (and_then_stable (opening_stable mode last foreign) finished_stable) other_stable

-- what is found is found again
pub found_stays : {A : Type 0} {p : List ℕ → Match A} (a : A) (xs rest more : List ℕ) → Stable p → p xs ≡ Found a rest → p (xs ++ more) ≡ Found a (rest ++ more)
found_stays {A} {p} a xs rest more h e = let P : Match A → Type 0 = λ m. Grows m more (p (xs ++ more)) in subst P e (h.grows xs more)

pub no_stays : {A : Type 0} {p : List ℕ → Match A} (xs more : List ℕ) → Stable p → p xs ≡ No → p (xs ++ more) ≡ No
no_stays {A} {p} xs more h e = let P : Match A → Type 0 = λ m. Grows m more (p (xs ++ more)) in subst P e (h.grows xs more)
