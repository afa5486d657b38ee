-- The length of the part that the input begins with.
use Rattle.std.proofs.Common.{ℕ, ◌≤◌, Bool, true, false, List, [], ◌∷◌, length, arith}
use Rattle.std.specs.Prelude.{codes}
use Rattle.std.specs.Char.{is_ascii_alphabetic}
use Rattle.h5_token.specs.TokenText.{NullCharacter}
use Rattle.h5_markup.specs.Matching.{Match, and_then, word, peek}
use Rattle.h5_markup.specs.Cuts.{is_in}
use Rattle.h5_markup.specs.declared.cut.Class.TheVariants.{NameEnd}
use Rattle.h5_markup.proofs.Eating.{Takes, Eats, literal_eats, word_eats, peek_eats, ahead_eats, up_to_end_eats, found_eats, no_eats, and_then_eats, or_else_eats, eats_less}
use Rattle.h5_plain_tokenizer.specs.declared.front.Mode.{Mode}
use Rattle.h5_plain_tokenizer.specs.declared.front.Mode.TheVariants.{Data, RawData, Plaintext, Cdata}
use Rattle.h5_plain_tokenizer.specs.declared.front.Construct.TheVariants.{Comment, Doctype, StartTag, EndTag, RawEndTag}
use Rattle.h5_markup.proofs.TextTakes.{reference_eats, newline_eats, cleaned_eats, escape_eats}
use Rattle.h5_plain_tokenizer.specs.Tokens.{start_of, token_of}
use Rattle.h5_plain_tokenizer.specs.Front.{Opening, Begins, Gives, Null, Turns, says, stands_for, cdata, in_data, raw_end_tag, reads_references, opening, Bit, Whole, Switch, finished, other, front}

says_eats : {p : List ℕ → Match (Unit {0})} {k : ℕ} (o : Opening) → Eats k p → 1 ≤ k → Eats 1 (λ xs. says o (p xs))
says_eats o h le = eats_less 1 (omega arith) (and_then_eats h (λ _. found_eats o))

says_keeps : {p : List ℕ → Match (Unit {0})} (o : Opening) → Eats 0 p → Eats 0 (λ xs. says o (p xs))
says_keeps o h = eats_less 0 (omega arith) (and_then_eats h (λ _. found_eats o))

stands_eats : {p : List ℕ → Match (List ℕ)} → Eats 1 p → Eats 1 (λ xs. stands_for (p xs))
stands_eats h = eats_less 1 (omega arith) (and_then_eats h (λ text. found_eats (Gives text)))

cdata_eats : (foreign : Bool) → Eats 1 (cdata foreign)
cdata_eats true = says_eats (Turns Cdata) (literal_eats (codes "<![CDATA[")) (omega arith)
cdata_eats false = no_eats 1

data_eats : (foreign : Bool) → Eats 1 (in_data foreign)
data_eats foreign =
    or_else_eats (says_eats (Begins Comment) (literal_eats (codes "<!--")) (omega arith))
    (or_else_eats (says_eats (Begins Doctype) (word_eats (codes "<!DOCTYPE")) (omega arith))
    (or_else_eats (cdata_eats foreign)
    (or_else_eats (eats_less 1 (omega arith) (and_then_eats (literal_eats (codes "</")) (λ _. says_keeps (Begins EndTag) (peek_eats is_ascii_alphabetic))))
    (or_else_eats (eats_less 1 (omega arith) (and_then_eats (literal_eats (codes "<")) (λ _. says_keeps (Begins StartTag) (peek_eats is_ascii_alphabetic))))
    (or_else_eats (stands_eats reference_eats)
    (or_else_eats (stands_eats newline_eats) (says_eats Null (literal_eats (0 ∷ [])) (omega arith))))))))

raw_end_eats : (last : List ℕ) → Eats 1 (raw_end_tag last)
raw_end_eats [] = no_eats 1
raw_end_eats (c ∷ cs) = eats_less 1 (omega arith) (and_then_eats (literal_eats (codes "</")) (λ _.
    says_keeps (Begins RawEndTag) (ahead_eats (λ rest. and_then (word (c ∷ cs) rest) (λ _ behind. peek (is_in NameEnd) behind)))))

pub opening_eats : (mode : Mode) (last : List ℕ) (foreign : Bool) → Eats 1 (opening mode last foreign)
opening_eats Data last foreign = data_eats foreign
opening_eats (RawData kind) last foreign = or_else_eats (raw_end_eats last) (stands_eats (escape_eats (reads_references kind)))
opening_eats Plaintext last foreign = stands_eats cleaned_eats
opening_eats Cdata last foreign = or_else_eats (says_eats (Turns Data) (literal_eats (codes "]]>")) (omega arith)) (stands_eats cleaned_eats)

finished_eats : (o : Opening) → Eats 0 (finished o)
finished_eats (Begins construct) = eats_less 0 (omega arith) (and_then_eats (up_to_end_eats (start_of construct)) (λ text. found_eats (Whole (token_of construct text))))
finished_eats (Gives text) = found_eats (Bit text)
finished_eats Null = found_eats (Whole NullCharacter)
finished_eats (Turns mode) = found_eats (Switch mode)

other_takes : (xs : List ℕ) → Takes 1 (length xs) (other xs)
other_takes [] = tt
other_takes (x ∷ xs) = omega arith

pub front_eats : (mode : Mode) (last : List ℕ) (foreign : Bool) → Eats 1 (front mode last foreign)
front_eats mode last foreign = or_else_eats (eats_less 1 (omega arith) (and_then_eats (opening_eats mode last foreign) finished_eats)) (record { takes = other_takes })
