-- Tags with only a name.
use Rattle.std.proofs.Common.{◌≡◌, ℕ, zero, suc, ◌<◌, ◌≤◌, ◌+◌, ◌-◌, ◌&&◌, Bool, true, false, List, [], ◌∷◌, eqb, length, take, drop, get_or, refl, sym, ap, ◌∙◌, subst, arith, zero-le}
use Rattle.std.proofs.lemmas.Bool.Decides.{nat_tests}
use Rattle.std.proofs.lemmas.List.{length-drop}
use Rattle.std.specs.Char.{is_ascii_alphabetic, to_ascii_lowercase}
use Rattle.h5_token.specs.TokenText.{TokenText, TagIs}
use Rattle.h5_token.specs.declared.tag.TagKind.{TagKind}
use Rattle.h5_token.specs.declared.tag.TagKind.TheVariants as kind
use Rattle.h5_markup.specs.Bare.{bare_tag, IsBare, IsBareTag}
use Rattle.h5_markup.specs.Matching.{Found}
use Rattle.h5_markup.specs.Cuts.{is_in, before, from}
use Rattle.h5_markup.specs.Ending.{ends, up_to_end, place_after}
use Rattle.h5_markup.specs.declared.cut.Class.TheVariants.{NameEnd}
use Rattle.h5_markup.specs.declared.ending.Inside.TheVariants.{TagName}
use Rattle.h5_markup.proofs.Endings.{sought_end}
use Rattle.h5_markup.proofs.Staying.{walk_stays, in_tag_name}
use Rattle.h5_markup.specs.Text.{name_of}
use Rattle.h5_markup.specs.Attributes.{attributes_of, distinct, has_duplicates}
use Rattle.h5_tokenizer_input.specs.Lines.{newlines_passed}
use Rattle.h5_tokenizer_input.proofs.LineLaws.{in_line_more, in_line_through}
use Rattle.h5_plain_tokenizer.specs.Bare.{BeginsBare}
use Rattle.h5_plain_tokenizer.specs.Tokens.{is_between, is_self_closing, last_is, start_tag, end_tag}
use Rattle.h5_plain_tokenizer.specs.Front.{Begins, Whole, in_data}
use Rattle.h5_plain_tokenizer.specs.declared.front.Mode.TheVariants.{Data}
use Rattle.h5_plain_tokenizer.specs.declared.front.Construct.TheVariants.{StartTag, EndTag}
use Rattle.h5_plain_tokenizer.proofs.StepLaws.{front_concluded}

all_before : (stop : ℕ → Bool) (xs : List ℕ) (n : ℕ) → ((k : ℕ) → k < n → stop (get_or xs k 0) ≡ false) → before stop (take n xs) ≡ take n xs
all_before stop xs zero h = refl
all_before stop [] (suc n) h = refl
all_before stop (x ∷ xs) (suc n) h = rw (h 0 (omega arith)) (ap (λ l. x ∷ l) (all_before stop xs n (λ k lt. h (suc k) (omega arith))))

none_from : (stop : ℕ → Bool) (xs : List ℕ) (n : ℕ) → ((k : ℕ) → k < n → stop (get_or xs k 0) ≡ false) → from stop (take n xs) ≡ []
none_from stop xs zero h = refl
none_from stop [] (suc n) h = refl
none_from stop (x ∷ xs) (suc n) h = rw (h 0 (omega arith)) (none_from stop xs n (λ k lt. h (suc k) (omega arith)))

-- what is read of such a tag, from after its opening on
record ReadsBare (xs name rest : List ℕ) : Type 0 where
  some : 0 < length xs
  letter : is_ascii_alphabetic (get_or xs 0 0) ≡ true
  end : up_to_end TagName xs ≡ Found name rest
  place : place_after TagName name ≡ TagName
  all : before (is_in NameEnd) name ≡ name
  no_more : from (is_in NameEnd) name ≡ []
  line : newlines_passed xs rest ≡ 0
  shorter : length rest ≤ length xs

reads_bare : (xs name rest : List ℕ) → IsBare xs name rest → ReadsBare xs name rest
reads_bare xs name rest h =
    let n = h.size in
    let at = h.is_name in
    let same : 0 + n ≡ n = omega arith in
    let Ends : ℕ → Type 0 = λ k. (up_to_end TagName xs ≡ Found (take k xs) (drop 1 (drop k xs))) × (place_after TagName (take k xs) ≡ TagName) in
    let found : Ends n = subst Ends same
    (sought_end TagName TagName TagName xs 0 n zero-le at.within refl (walk_stays TagName (is_in NameEnd) xs n in_tag_name at.passed) (ap (ends TagName) at.ends)) in
    let left : length rest ≡ length xs - suc n = omega (arith, ap length h.back, length-drop 1 (drop n xs), length-drop n xs) in
    record {
      some = omega (arith, at.within);
      letter = at.starts;
      end = found.0 ∙ (λ i. Found (sym h.front i) (sym h.back i));
      place = ap (place_after TagName) h.front ∙ found.1;
      all = ap (before (is_in NameEnd)) h.front ∙ all_before (is_in NameEnd) xs n at.passed ∙ sym h.front;
      no_more = ap (from (is_in NameEnd)) h.front ∙ none_from (is_in NameEnd) xs n at.passed;
      line = in_line_through xs rest n at.within left at.high (omega (arith, at.ends));
      shorter = omega (arith, left);
    }

never : (b : Bool) → (b && false) ≡ false
never true = refl
never false = refl

no_attributes : attributes_of [] ≡ []
unfolding attributes_of
no_attributes = refl

abbrev made : List ℕ → List ℕ → Bool → TokenText
made front behind closing = TagIs (record {
  kind = kind.StartTag;
  name = name_of front;
  self_closing = closing;
  attrs = distinct [] (attributes_of behind);
  had_duplicate_attributes = has_duplicates (attributes_of behind);
})

start_is : (xs name rest : List ℕ) → ReadsBare xs name rest → start_tag name ≡ bare_tag kind.StartTag name
start_is xs name rest h =
    let open_tag : is_self_closing name ≡ false = ap (λ place. last_is 47 name && is_between place) h.place ∙ never (last_is 47 name) in
    (λ i. made (h.all i) (h.no_more i) (open_tag i)) ∙ ap (λ l. TagIs (record {
      kind = kind.StartTag;
      name = name_of name;
      self_closing = false;
      attrs = distinct [] l;
      had_duplicate_attributes = has_duplicates l;
    })) no_attributes

end_is : (xs name rest : List ℕ) → ReadsBare xs name rest → end_tag name ≡ bare_tag kind.EndTag name
end_is xs name rest h = ap (bare_tag kind.EndTag) h.all

-- a byte other than '!' and '/'
record Letter (x : ℕ) : Type 0 where
  bang : eqb x 33 ≡ false
  low : eqb (to_ascii_lowercase x) 33 ≡ false
  slash : eqb x 47 ≡ false

letter_not : (x n : ℕ) → n < 65 → is_ascii_alphabetic x ≡ true → eqb x n ≡ false
letter_not x n lt h = grind (arith, nat_tests)

low_not : (x : ℕ) → is_ascii_alphabetic x ≡ true → eqb (to_ascii_lowercase x) 33 ≡ false
low_not x h = grind (arith, nat_tests)

letter : (x : ℕ) → is_ascii_alphabetic x ≡ true → Letter x
letter x h = record { bang = letter_not x 33 (omega arith) h; low = low_not x h; slash = letter_not x 47 (omega arith) h }

pub start_begins : (foreign : Bool) (xs inner : List ℕ) → 0 < length xs → get_or xs 0 0 ≡ 60 → inner ≡ drop 1 xs → 0 < length inner → is_ascii_alphabetic (get_or inner 0 0) ≡ true → in_data foreign xs ≡ Found (Begins StartTag) inner
start_begins foreign [] inner some e f more h = absurd (omega arith)
start_begins foreign (y ∷ []) inner some e f more h = absurd (omega (arith, ap length f))
start_begins true (y ∷ x ∷ xs) inner some e f more h =
    let a : is_ascii_alphabetic x ≡ true = ap (λ l. is_ascii_alphabetic (get_or l 0 0)) (sym f) ∙ h in
    let p = letter x a in
    rw (e, f) (simp (p.bang, p.low, p.slash, a))
start_begins false (y ∷ x ∷ xs) inner some e f more h =
    let a : is_ascii_alphabetic x ≡ true = ap (λ l. is_ascii_alphabetic (get_or l 0 0)) (sym f) ∙ h in
    let p = letter x a in
    rw (e, f) (simp (p.bang, p.low, p.slash, a))

pub end_begins : (foreign : Bool) (xs inner : List ℕ) → 1 < length xs → get_or xs 0 0 ≡ 60 → get_or xs 1 0 ≡ 47 → inner ≡ drop 2 xs → 0 < length inner → is_ascii_alphabetic (get_or inner 0 0) ≡ true → in_data foreign xs ≡ Found (Begins EndTag) inner
end_begins foreign [] inner some e g f more h = absurd (omega arith)
end_begins foreign (y ∷ []) inner some e g f more h = absurd (omega arith)
end_begins foreign (y ∷ z ∷ []) inner some e g f more h = absurd (omega (arith, ap length f))
end_begins true (y ∷ z ∷ x ∷ xs) inner some e g f more h =
    let a : is_ascii_alphabetic x ≡ true = ap (λ l. is_ascii_alphabetic (get_or l 0 0)) (sym f) ∙ h in
    rw (e, g, f) (simp a)
end_begins false (y ∷ z ∷ x ∷ xs) inner some e g f more h =
    let a : is_ascii_alphabetic x ≡ true = ap (λ l. is_ascii_alphabetic (get_or l 0 0)) (sym f) ∙ h in
    rw (e, g, f) (simp a)

-- such a tag has no newline
start_in_line : (xs inner name rest : List ℕ) → 0 < length xs → get_or xs 0 0 ≡ 60 → inner ≡ drop 1 xs → ReadsBare inner name rest → newlines_passed xs rest ≡ 0
start_in_line xs inner name rest some e f h = in_line_more xs inner rest some (omega (arith, e)) f h.shorter h.line

end_in_line : (xs inner name rest : List ℕ) → 1 < length xs → get_or xs 0 0 ≡ 60 → get_or xs 1 0 ≡ 47 → inner ≡ drop 2 xs → ReadsBare inner name rest → newlines_passed xs rest ≡ 0
end_in_line [] inner name rest some e g f h = absurd (omega arith)
end_in_line (y ∷ xs) inner name rest some e g f h =
    let below : newlines_passed xs rest ≡ 0 = in_line_more xs inner rest (omega arith) (omega (arith, g)) f h.shorter h.line in
    in_line_more (y ∷ xs) xs rest (omega arith) (omega (arith, e)) refl (omega (arith, ap length f, length-drop 1 xs, h.shorter)) below

-- the input begins with such a tag
begins_start : (xs inner name rest : List ℕ) → 0 < length xs → get_or xs 0 0 ≡ 60 → inner ≡ drop 1 xs → ReadsBare inner name rest → BeginsBare Data xs kind.StartTag name rest
begins_start xs inner name rest some e f h = λ last foreign.
    front_concluded Data last foreign xs inner name rest StartTag (start_begins foreign xs inner some e f h.some h.letter) h.end
    ∙ ap (λ t. Found (Whole t) rest) (start_is inner name rest h)

begins_end : (xs inner name rest : List ℕ) → 1 < length xs → get_or xs 0 0 ≡ 60 → get_or xs 1 0 ≡ 47 → inner ≡ drop 2 xs → ReadsBare inner name rest → BeginsBare Data xs kind.EndTag name rest
begins_end xs inner name rest some e g f h = λ last foreign.
    front_concluded Data last foreign xs inner name rest EndTag (end_begins foreign xs inner some e g f h.some h.letter) h.end
    ∙ ap (λ t. Found (Whole t) rest) (end_is inner name rest h)

-- the tag that the input begins with, and the line that it ends in
pub begins_bare : (xs : List ℕ) (k : TagKind) (name rest : List ℕ) → IsBareTag xs k name rest → BeginsBare Data xs k name rest
begins_bare xs kind.StartTag name rest h = begins_start xs h.inner name rest h.opens.0 h.opens.1 h.opens.2 (reads_bare h.inner name rest h.bare)
begins_bare xs kind.EndTag name rest h = begins_end xs h.inner name rest h.opens.0 h.opens.1 h.opens.2 h.opens.3 (reads_bare h.inner name rest h.bare)

pub bare_in_line : (xs : List ℕ) (k : TagKind) (name rest : List ℕ) → IsBareTag xs k name rest → newlines_passed xs rest ≡ 0
bare_in_line xs kind.StartTag name rest h = start_in_line xs h.inner name rest h.opens.0 h.opens.1 h.opens.2 (reads_bare h.inner name rest h.bare)
bare_in_line xs kind.EndTag name rest h = end_in_line xs h.inner name rest h.opens.0 h.opens.1 h.opens.2 h.opens.3 (reads_bare h.inner name rest h.bare)
