-- Joining the text of bytes from parts.
use Rattle.std.proofs.Common.{◌≡◌, ℕ, ◌+◌, ◌-◌, ◌<◌, ◌≤◌, None, Some, List, [], ◌++◌, length, drop, sym, ap, subst, ◌∙◌, arith, ⊎_elim, append_assoc, length-append, length-drop, take, take_all}
use Rattle.std.specs.Char.{encode_utf8}
use Rattle.std.specs.Str.{IsUtf8, IsValidUpTo, StartsWithNoChar}
use Rattle.std.specs.Str.Lossy.{replacement_bytes, utf8_error_len, utf8_lossy, utf8_valid_len}
use Rattle.std.proofs.lemmas.Bool.{cases_lt}
use Rattle.std.proofs.lemmas.List.{drop-drop}
use Rattle.std.proofs.lemmas.Str.{length-encode, len_utf8_bounds, utf8_valid_len-IsUtf8, utf8_valid_len-IsValidUpTo}
use Rattle.std.proofs.Math.ListN.{drop_of_length-le}
use Rattle.std.proofs.Math.Seq.{drop-append_seam, drop-length}
use Rattle.std.proofs.str.Lossy.{utf8_error_len-nil}
use Rattle.h5_tokenizer_input.proofs.Errors.{error_at_front}
use Rattle.h5_tokenizer_input.proofs.Fronts.{no_char_behind, stops_at_once, text_at_front, utf8_valid_len-cases}
use Rattle.h5_tokenizer_input.specs.Decoding.{Appends, IsUnfinished, Decodes}

no_char_in_nothing : StartsWithNoChar []
no_char_in_nothing c rest s is = absurd (omega (arith, ap length is, length-append (encode_utf8 c) rest, length-encode c, (len_utf8_bounds c).0))

pub nothing_unfinished : IsUnfinished []
nothing_unfinished = record { no_char = no_char_in_nothing; no_error = utf8_error_len-nil; few = omega arith }

-- no character begins after the longest prefix that is UTF-8
pub no_char_behind_text : (bs : List ℕ) (n : ℕ) → n ≡ utf8_valid_len bs → StartsWithNoChar (drop n bs)
no_char_behind_text bs n is = ⊎_elim
    (λ whole. subst StartsWithNoChar (sym (ap (λ k. drop k bs) (is ∙ utf8_valid_len-IsUtf8 bs whole) ∙ drop-length bs)) no_char_in_nothing)
    (λ stop. subst (λ k. StartsWithNoChar (drop k bs)) (sym is) (no_char_behind bs (utf8_valid_len bs) stop))
    (utf8_valid_len-cases bs)

-- a text that no character begins has no error
pub no_error_in_text : (bs : List ℕ) → StartsWithNoChar bs → IsUtf8 bs → utf8_error_len bs ≡ None
no_error_in_text bs none text = ⊎_elim
    (λ (some : 0 < length bs).
    absurd ((stops_at_once bs some none).longest (length bs) some (subst IsUtf8 (sym (take_all (length bs) bs (omega arith))) text)))
    (λ (empty : length bs ≤ 0). ap utf8_error_len (drop_of_length-le bs {i = 0} empty) ∙ utf8_error_len-nil)
    (cases_lt 0 (length bs))

pub decodes_then : (bs text left more_text rest : List ℕ) → Decodes bs text left → Decodes left more_text rest → Decodes bs (text ++ more_text) rest
decodes_then bs text left more_text rest first second more =
    first more ∙ ap (λ t. text ++ t) (second more) ∙ sym (append_assoc text more_text (utf8_lossy (rest ++ more)))

pub decodes_before : (bs text left more : List ℕ) → Decodes bs text left → Decodes (bs ++ more) text (left ++ more)
decodes_before bs text left more decodes others =
    ap utf8_lossy (append_assoc bs more others) ∙ decodes (more ++ others) ∙ ap (λ t. text ++ utf8_lossy t) (sym (append_assoc left more others))

-- a text, and an error after it
pub text_decodes : (bs text rest : List ℕ) → IsUtf8 text → text ++ rest ≡ bs → Decodes bs text rest
text_decodes bs text rest utf8 parts more =
    ap (λ t. utf8_lossy (t ++ more)) (sym parts) ∙ ap utf8_lossy (append_assoc text rest more) ∙ text_at_front text (rest ++ more) utf8

pub error_decodes : (bs : List ℕ) (k : ℕ) → StartsWithNoChar bs → utf8_error_len bs ≡ Some k → k ≤ length bs → Decodes bs replacement_bytes (drop k bs)
error_decodes bs k none error within more = error_at_front bs more k none error within

-- more is appended
pub appends_then : (bs left old new text rest : List ℕ) → Appends bs left old new → Decodes left text rest → Appends bs rest old (new ++ text)
appends_then bs left old new text rest appends decodes = record {
  text = appends.text ++ text;
  appended = ap (λ t. t ++ text) appends.appended ∙ append_assoc old appends.text text;
  decodes = decodes_then bs appends.text left text rest appends.decodes decodes;
}

-- what follows a part of what is left
pub behind_part : (bs part rest : List ℕ) (n : ℕ) → part ++ rest ≡ drop n bs → rest ≡ drop (n + length part) bs
behind_part bs part rest n parts = sym (drop-append_seam part rest) ∙ ap (drop (length part)) parts ∙ drop-drop (length part) n bs

-- bytes that no character begins are UTF-8 up to index 0
pub stops_at_front : (bs : List ℕ) (n : ℕ) → StartsWithNoChar bs → IsValidUpTo bs n → n ≡ 0
stops_at_front bs n none stop =
    let at_front = stops_at_once bs (omega (arith, stop.short)) none in
    sym (utf8_valid_len-IsValidUpTo bs n stop) ∙ utf8_valid_len-IsValidUpTo bs 0 at_front

pub no_char_in_none : (bs : List ℕ) → length bs ≡ 0 → StartsWithNoChar bs
no_char_in_none bs empty = subst StartsWithNoChar (sym (drop_of_length-le bs {i = 0} (omega arith))) no_char_in_nothing

-- what follows an index, as a range
pub all_that_follows : (bs : List ℕ) (n : ℕ) → take (length bs - n) (drop n bs) ≡ drop n bs
all_that_follows bs n = take_all (length bs - n) (drop n bs) (omega (arith, length-drop n bs))
