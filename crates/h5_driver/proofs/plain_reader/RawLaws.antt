-- What a tokenizer emits of raw text: nothing that the mode "text" refuses, and it doesn't change the state itself.
use Rattle.std.proofs.Common.{◌≡◌, ℕ, Bool, false, List, [], ◌∷◌, Option, Some, None, codes, refl, subst}
use Rattle.h5_token.specs.TokenText.{TokenText}
use Rattle.h5_token.specs.declared.states.RawKind.{RawKind}
use Rattle.h5_builder_spec.specs.Run.{is_refused_in_text}
use Rattle.h5_markup.specs.Cuts.{is_in}
use Rattle.h5_markup.specs.Ending.{up_to_end}
use Rattle.h5_markup.specs.Matching.{Found, Match, No, Open, ahead, and_then, literal, or_else, peek, word}
use Rattle.h5_markup.specs.declared.cut.Class.TheVariants.{NameEnd}
use Rattle.h5_markup.specs.Text.{escape, text_of}
use Rattle.h5_plain_tokenizer.specs.End.{settle, settled, text_token}
use Rattle.h5_plain_tokenizer.specs.Front.{Begins, Gives, Null, Opening, Piece, Switch, Turns, Whole, concluded, finished, front, opening, other, raw_end_tag, reads_references, says, stands_for}
use Rattle.h5_plain_tokenizer.specs.Tokens.{start_of}
use Rattle.h5_plain_tokenizer.specs.declared.front.Construct.TheVariants.{RawEndTag}
use Rattle.h5_plain_tokenizer.specs.declared.front.Mode.{Mode}
use Rattle.h5_plain_tokenizer.specs.declared.front.Mode.TheVariants.{RawData}
use Rattle.h5_driver.specs.PlainReader.{IsRawMode}

-- nothing begins except an end tag, or something that a text replaces
abbrev IsRawOpening : Match Opening → Type 0
IsRawOpening (Found (Begins RawEndTag) rest) = Unit {0}
IsRawOpening (Found (Begins construct) rest) = ⊥
IsRawOpening (Found Null rest) = ⊥
IsRawOpening (Found (Turns mode) rest) = ⊥
IsRawOpening _ = Unit {0}

says_raw : (m : Match (Unit {0})) → IsRawOpening (says (Begins RawEndTag) m)
says_raw Open = tt
says_raw No = tt
says_raw (Found u rest) = tt

stands_raw : (m : Match (List ℕ)) → IsRawOpening (stands_for m)
stands_raw Open = tt
stands_raw No = tt
stands_raw (Found text rest) = tt

or_raw : (m n : Match Opening) → IsRawOpening m → IsRawOpening n → IsRawOpening (or_else m n)
or_raw Open n h k = tt
or_raw No n h k = k
or_raw (Found o rest) n h k = h

then_raw : (m : Match (Unit {0})) (f : Unit {0} → List ℕ → Match Opening) → ((u : Unit {0}) (rest : List ℕ) → IsRawOpening (f u rest)) → IsRawOpening (and_then m f)
then_raw Open f h = tt
then_raw No f h = tt
then_raw (Found u rest) f h = h u rest

end_tag_raw : (last xs : List ℕ) → IsRawOpening (raw_end_tag last xs)
end_tag_raw [] xs = tt
end_tag_raw (c ∷ cs) xs = then_raw (literal (codes "</") xs) _ (λ u rest. says_raw (ahead (and_then (word (c ∷ cs) rest) (λ _ behind. peek (is_in NameEnd) behind)) rest))

opening_raw : (kind : RawKind) (last : List ℕ) (foreign : Bool) (xs : List ℕ) → IsRawOpening (opening (RawData kind) last foreign xs)
opening_raw kind last foreign xs = or_raw (raw_end_tag last xs) _ (end_tag_raw last xs) (stands_raw (escape (reads_references kind) xs))

-- so a whole token at the start isn't a start tag, comment or null
abbrev IsRawPiece : Match Piece → Type 0
IsRawPiece (Found (Whole token) rest) = is_refused_in_text token ≡ false
IsRawPiece (Found (Switch mode) rest) = ⊥
IsRawPiece _ = Unit {0}

concluded_raw : (m : Match (List ℕ)) → IsRawPiece (concluded RawEndTag m)
concluded_raw Open = tt
concluded_raw No = tt
concluded_raw (Found text rest) = refl

other_raw : (xs : List ℕ) → IsRawPiece (other xs)
other_raw [] = tt
other_raw (x ∷ xs) = tt

piece_raw : (m : Match Opening) (n : Match Piece) → IsRawOpening m → IsRawPiece n → IsRawPiece (or_else (and_then m finished) n)
piece_raw Open n h k = tt
piece_raw No n h k = k
piece_raw (Found (Begins RawEndTag) rest) n h k = at (concluded RawEndTag (up_to_end (start_of RawEndTag) rest)) (concluded_raw (up_to_end (start_of RawEndTag) rest))
  where
    at : (p : Match Piece) → IsRawPiece p → IsRawPiece (or_else p n)
    at Open i = tt
    at No i = k
    at (Found p ys) i = i
piece_raw (Found (Begins _) rest) n h k = absurd h
piece_raw (Found (Gives text) rest) n h k = tt
piece_raw (Found Null rest) n h k = absurd h
piece_raw (Found (Turns mode) rest) n h k = absurd h

front_raw : (kind : RawKind) (last : List ℕ) (foreign : Bool) (xs : List ℕ) → IsRawPiece (front (RawData kind) last foreign xs)
front_raw kind last foreign xs = piece_raw (opening (RawData kind) last foreign xs) (other xs) (opening_raw kind last foreign xs) (other_raw xs)

pub raw_token : (mode : Mode) (last : List ℕ) (foreign : Bool) (xs rest : List ℕ) (token : TokenText) → front mode last foreign xs ≡ Found (Whole token) rest → IsRawMode mode → is_refused_in_text token ≡ false
raw_token (RawData kind) last foreign xs rest token e r = subst IsRawPiece e (front_raw kind last foreign xs)
raw_token _ last foreign xs rest token e r = absurd r

pub raw_stays : (mode : Mode) (last : List ℕ) (foreign : Bool) (xs rest : List ℕ) (next : Mode) → front mode last foreign xs ≡ Found (Switch next) rest → IsRawMode mode → ⊥
raw_stays (RawData kind) last foreign xs rest next e r = subst IsRawPiece e (front_raw kind last foreign xs)
raw_stays _ last foreign xs rest next e r = r

-- and at the end an undecided suffix is a text, or nothing
abbrev IsRawRest : Option TokenText → Type 0
IsRawRest None = Unit {0}
IsRawRest (Some token) = is_refused_in_text token ≡ false

text_raw : (text : List ℕ) → IsRawRest (text_token text)
text_raw [] = tt
text_raw (x ∷ xs) = refl

settled_raw : (xs : List ℕ) (m : Match Opening) → IsRawOpening m → IsRawRest (settled xs m)
settled_raw xs Open h = text_raw (text_of false xs)
settled_raw xs No h = text_raw (text_of false xs)
settled_raw xs (Found (Begins RawEndTag) rest) h = tt
settled_raw xs (Found (Begins _) rest) h = absurd h
settled_raw xs (Found (Gives text) rest) h = text_raw (text_of false xs)
settled_raw xs (Found Null rest) h = absurd h
settled_raw xs (Found (Turns mode) rest) h = absurd h

pub raw_rest : (mode : Mode) (last : List ℕ) (foreign : Bool) (xs : List ℕ) (token : TokenText) → settle mode last foreign xs ≡ Some token → IsRawMode mode → is_refused_in_text token ≡ false
raw_rest (RawData kind) last foreign xs token e r = subst IsRawRest e (settled_raw xs (opening (RawData kind) last foreign xs) (opening_raw kind last foreign xs))
raw_rest _ last foreign xs token e r = absurd r
