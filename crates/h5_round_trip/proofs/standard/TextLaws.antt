-- A text that was escaped is read back, row by row.
use Rattle.std.proofs.Common.{◌≡◌, ◌≢◌, ℕ, Bool, true, false, List, [], ◌∷◌, ◌++◌, ◌<◌, Option, Some, None as Nothing, eqb, codes, refl, ap, sym, subst, ◌∙◌, append_assoc, append-nil, arith}
use Rattle.std.proofs.lemmas.Str.{encode_ascii, encodes-chars}
use Rattle.std.specs.Char.{encode_utf8}
use Rattle.std.specs.List.{flat_map}
use Rattle.std.specs.Str.{chars, encode_utf8_all}
use Rattle.h5_serialize.specs.Escape.{escape, escape_char}
use Rattle.h5_serialize.proofs.EscapeLaws.{by_cases}
use Rattle.h5_tokenizer_spec.specs.Construction.{Attribute, Tag, value_further}
use Rattle.h5_tokenizer_spec.specs.Machine.{turn}
use Rattle.h5_tokenizer_spec.specs.Reading.{Passes, ReaderPlace}
use Rattle.h5_tokenizer_spec.specs.AtEnd.{at_end}
use Rattle.h5_tokenizer_spec.specs.End.{last_tokens}
use Rattle.h5_tokenizer_spec.specs.States.{NamedCharacterReference, ToData}
use Rattle.h5_tokenizer_input.specs.Told.{handed, told}
use Rattle.h5_tokenizer_spec.specs.ReferenceTable.{references}
use Rattle.h5_tokenizer_spec.specs.Turn.{Consumed}
use Rattle.h5_tokenizer_spec.proofs.ReadLaws.{passes_join}
use Rattle.h5_round_trip.specs.Readable.{IsReadable}
use Rattle.h5_round_trip.proofs.CharLaws.{AreFree, AreKept, IsFree, None, byte_some, free_encode, kept, no_quote}
use Rattle.h5_round_trip.proofs.standard.QuietLaws.{passes_of, quiet}
use Rattle.h5_round_trip.proofs.standard.ReferenceLaws.{InData, InTitle, InValue, IsNamed, Where, amp_is_named, emitted, further, greater_is_named, less_is_named, nbsp_is_named, quote_is_named, reference_moves, state_of}
use Rattle.h5_round_trip.proofs.standard.RunLaws.{IsIn, Moves, goes_by, moves_then, rows_move, stays}

-- ---- a value that grows

value_twice : (a b : List ℕ) (o : Option Attribute) (tag : Tag) → tag.current ≡ o → value_further b (value_further a tag) ≡ value_further (a ++ b) tag
value_twice a b Nothing tag e = rw e refl
value_twice a b (Some attribute) tag e = rw e (ap (λ v. record tag { current = Some (record attribute { value = v }) }) (append_assoc attribute.value a b))

value_same : (o : Option Attribute) (tag : Tag) → tag.current ≡ o → value_further [] tag ≡ tag
value_same Nothing tag e = ap (λ c. record tag { current = c }) (rw e refl)
value_same (Some attribute) tag e = ap (λ c. record tag { current = c }) (rw e (ap (λ v. Some (record attribute { value = v })) (append-nil attribute.value)))

further_twice : (w : Where) (a b : List ℕ) → further (further w a) b ≡ further w (a ++ b)
further_twice InData a b = refl
further_twice InTitle a b = refl
further_twice (InValue tag) a b = ap InValue (value_twice a b tag.current tag refl)

further_same : (w : Where) → further w [] ≡ w
further_same InData = refl
further_same InTitle = refl
further_same (InValue tag) = ap InValue (value_same tag.current tag refl)

emitted_twice : (w : Where) (a b : List ℕ) → emitted w a ++ emitted (further w a) b ≡ emitted w (a ++ b)
emitted_twice InData a b = refl
emitted_twice InTitle a b = refl
emitted_twice (InValue tag) a b = refl

emitted_none : (w : Where) → emitted w [] ≡ []
emitted_none InData = refl
emitted_none InTitle = refl
emitted_none (InValue tag) = refl

-- a text there is read: these bytes, before others
abbrev Reads : ReaderPlace → Where → List ℕ → List ℕ → List ℕ → Type 0
Reads p w xs text ys = Moves p xs (emitted w text) (state_of (further w text)) ys

reads_then : (p : ReaderPlace) (w : Where) (xs a b ys zs : List ℕ) → Reads p w xs a ys → ((q : ReaderPlace) → IsIn q (state_of (further w a)) → Reads q (further w a) ys b zs) → Reads p w xs (a ++ b) zs
reads_then p w xs a b ys zs first more =
    subst (λ v. Moves p xs (emitted w (a ++ b)) (state_of v) zs) (further_twice w a b)
    (subst (λ t. Moves p xs t (state_of (further (further w a) b)) zs) (emitted_twice w a b)
    (moves_then first (λ q i l. more q i)))

reads_none : (p : ReaderPlace) (w : Where) (ys : List ℕ) → IsIn p (state_of w) → Reads p w ys [] ys
reads_none p w ys h =
    subst (λ v. Moves p ys (emitted w []) (state_of v) ys) (sym (further_same w))
    (subst (λ t. Moves p ys t (state_of w) ys) (sym (emitted_none w)) (stays p (state_of w) ys h))

-- ---- free bytes

-- no quote ends a value
abbrev pub NoQuote : Where → List ℕ → Type 0
NoQuote (InValue tag) xs = None (λ x. eqb x 34) xs
NoQuote w xs = Unit {0}

none_front : (xs ys : List ℕ) → None (λ x. eqb x 34) (xs ++ ys) → None (λ x. eqb x 34) xs × None (λ x. eqb x 34) ys
none_front [] ys h = (tt, h)
none_front (x ∷ xs) ys h = let k = none_front xs ys h.1 in ((h.0, k.0), k.1)

no_quote_front : (w : Where) (xs ys : List ℕ) → NoQuote w (xs ++ ys) → NoQuote w xs × NoQuote w ys
no_quote_front InData xs ys h = (tt, tt)
no_quote_front InTitle xs ys h = (tt, tt)
no_quote_front (InValue tag) xs ys h = none_front xs ys h

no_quote_further : (w : Where) (text xs : List ℕ) → NoQuote w xs → NoQuote (further w text) xs
no_quote_further InData text xs h = tt
no_quote_further InTitle text xs h = tt
no_quote_further (InValue tag) text xs h = h

free_row : (last : List ℕ) (w : Where) (x : ℕ) → IsFree x → NoQuote w (x ∷ []) → turn references last (state_of w) x ≡ quiet (Consumed (emitted w (x ∷ [])) (state_of (further w (x ∷ []))))
free_row last InData x free quiet = rw (free.amp, free.lt, free.nul) refl
free_row last InTitle x free quiet = rw (free.amp, free.lt, free.nul) refl
free_row last (InValue tag) x free quiet = rw (quiet.0, free.amp, free.nul) refl

free_reads : (p : ReaderPlace) (w : Where) (bs ys : List ℕ) → AreFree bs → NoQuote w bs → IsIn p (state_of w) → Reads p w (bs ++ ys) bs ys
free_reads p w [] ys free quiet h = reads_none p w ys h
free_reads p w (x ∷ bs) ys free quiet h =
    let front = no_quote_front w (x ∷ []) bs quiet in
    let one : Reads p w (x ∷ (bs ++ ys)) (x ∷ []) (bs ++ ys) =
    subst (λ t. Moves p (x ∷ (bs ++ ys)) t (state_of (further w (x ∷ []))) (bs ++ ys)) (append-nil (emitted w (x ∷ [])))
    (goes_by p (state_of w) (state_of (further w (x ∷ []))) x (emitted w (x ∷ [])) (bs ++ ys) h free.0.cr (free_row p.last w x free.0 front.0)) in
    reads_then p w (x ∷ (bs ++ ys)) (x ∷ []) bs (bs ++ ys) ys one (λ q i. free_reads q (further w (x ∷ [])) bs ys free.1 (no_quote_further w (x ∷ []) bs front.1) i)

-- ---- characters

abbrev pub in_value : Where → Bool
in_value (InValue tag) = true
in_value w = false

of_ascii : (n : ℕ) → n < 128 → (c : ℕ) → c ≡ n → n ∷ [] ≡ encode_utf8 c
of_ascii n lt c e = sym (encode_ascii n lt) ∙ ap encode_utf8 (sym e)

hard_space : 0xc2 ∷ 0xa0 ∷ [] ≡ encode_utf8 160
unfolding encode_utf8
hard_space = refl

-- if something follows it
char_reads : (p : ReaderPlace) (w : Where) (c y : ℕ) (ys : List ℕ) → c ≢ 0 → c ≢ 13 → NoQuote w (escape_char (in_value w) c) → IsIn p (state_of w) → Reads p w (escape_char (in_value w) c ++ y ∷ ys) (encode_utf8 c) (y ∷ ys)
char_reads p w c y ys nul cr quiet h =
    by_cases (in_value w) c (λ l. NoQuote w l → Reads p w (l ++ y ∷ ys) (encode_utf8 c) (y ∷ ys))
    (λ e q. given (codes "amp;") (38 ∷ []) amp_is_named (of_ascii 38 (omega arith) c e))
    (λ e q. given (codes "nbsp;") (0xc2 ∷ 0xa0 ∷ []) nbsp_is_named (hard_space ∙ ap encode_utf8 (sym e)))
    (λ e q. given (codes "lt;") (60 ∷ []) less_is_named (of_ascii 60 (omega arith) c e))
    (λ e q. given (codes "gt;") (62 ∷ []) greater_is_named (of_ascii 62 (omega arith) c e))
    (λ e q. given (codes "quot;") (34 ∷ []) quote_is_named (of_ascii 34 (omega arith) c e))
    (λ amp less greater _ q. free_reads p w (encode_utf8 c) (y ∷ ys) (free_encode c nul cr amp less) q h)
    quiet
  where
    given : (name text : List ℕ) → IsNamed name text → text ≡ encode_utf8 c → Reads p w (38 ∷ (name ++ y ∷ ys)) (encode_utf8 c) (y ∷ ys)
    given name text named e = subst (λ t. Reads p w (38 ∷ (name ++ y ∷ ys)) t (y ∷ ys)) e (reference_moves p w name text y ys named h)

record Follows (xs : List ℕ) (y : ℕ) (ys : List ℕ) : Type 0 where
  first : ℕ
  more : List ℕ
  split : xs ++ y ∷ ys ≡ first ∷ more

follows : (xs : List ℕ) (y : ℕ) (ys : List ℕ) → Follows xs y ys
follows [] y ys = record { first = y; more = ys; split = refl }
follows (x ∷ xs) y ys = record { first = x; more = xs ++ y ∷ ys; split = refl }

escape_further : (w : Where) (text : List ℕ) → in_value (further w text) ≡ in_value w
escape_further InData text = refl
escape_further InTitle text = refl
escape_further (InValue tag) text = refl

chars_read : (p : ReaderPlace) (w : Where) (cs : List ℕ) (y : ℕ) (ys : List ℕ) → AreKept cs → NoQuote w (flat_map (escape_char (in_value w)) cs) → IsIn p (state_of w) → Reads p w (flat_map (escape_char (in_value w)) cs ++ y ∷ ys) (encode_utf8_all cs) (y ∷ ys)
chars_read p w [] y ys k quiet h = reads_none p w (y ∷ ys) h
chars_read p w (c ∷ cs) y ys k quiet h =
    let one = escape_char (in_value w) c in
    let others = flat_map (escape_char (in_value w)) cs in
    let front = no_quote_front w one others quiet in
    let next = further w (encode_utf8 c) in
    let f = follows others y ys in
    let same : in_value next ≡ in_value w = escape_further w (encode_utf8 c) in
    let first : Reads p w (one ++ (others ++ y ∷ ys)) (encode_utf8 c) (others ++ y ∷ ys) =
    subst (λ zs. Reads p w (one ++ zs) (encode_utf8 c) zs) (sym f.split) (char_reads p w c f.first f.more k.0 k.1.0 front.0 h) in
    rw (append_assoc one others (y ∷ ys))
    (reads_then p w (one ++ (others ++ y ∷ ys)) (encode_utf8 c) (encode_utf8_all cs) (others ++ y ∷ ys) (y ∷ ys) first
    (λ q i. subst (λ b. NoQuote next (flat_map (escape_char b) cs) → Reads q next (flat_map (escape_char b) cs ++ y ∷ ys) (encode_utf8_all cs) (y ∷ ys)) same
    (λ quiet_so. chars_read q next cs y ys k.1.1 quiet_so i) (no_quote_further w (encode_utf8 c) others front.1)))

no_quote_written : (w : Where) (text : List ℕ) → NoQuote w (escape (in_value w) text)
no_quote_written InData text = tt
no_quote_written InTitle text = tt
no_quote_written (InValue tag) text = no_quote text

-- what was escaped is read back, if something follows it
pub text_reads : (p : ReaderPlace) (w : Where) (text : List ℕ) (y : ℕ) (ys : List ℕ) → IsReadable text → IsIn p (state_of w) → Moves p (escape (in_value w) text ++ y ∷ ys) (emitted w text) (state_of (further w text)) (y ∷ ys)
text_reads p w text y ys r h =
    subst (λ t. Reads p w (escape (in_value w) text ++ y ∷ ys) t (y ∷ ys)) (encodes-chars text r.utf8)
    (chars_read p w (chars text) y ys (kept text r) (no_quote_written w text) h)

-- ---- a text at the end of the input

-- what was passed of it was emitted; the remainder, a reference that nothing follows, is emitted at the end
pub record Ends (p : ReaderPlace) (xs text : List ℕ) : Type 0 where
  pub front : List ℕ
  pub back : List ℕ
  pub place : ReaderPlace
  pub passes : Passes references p xs front place []
  pub held : last_tokens references place ≡ told back
  pub whole : front ++ back ≡ text

-- a reference is held there
abbrev Holds : List ℕ → List ℕ → Type 0
Holds name text = (q : ReaderPlace) → q.state ≡ NamedCharacterReference ToData name → last_tokens references q ≡ told text

holds_amp : Holds (codes "amp;") (38 ∷ [])
unfolding references
holds_amp q e = ap (λ s. told (at_end references s).text ++ handed (at_end references s).token) e

holds_nbsp : Holds (codes "nbsp;") (0xc2 ∷ 0xa0 ∷ [])
unfolding references
holds_nbsp q e = ap (λ s. told (at_end references s).text ++ handed (at_end references s).token) e

holds_less : Holds (codes "lt;") (60 ∷ [])
unfolding references
holds_less q e = ap (λ s. told (at_end references s).text ++ handed (at_end references s).token) e

holds_greater : Holds (codes "gt;") (62 ∷ [])
unfolding references
holds_greater q e = ap (λ s. told (at_end references s).text ++ handed (at_end references s).token) e

holds_quote : Holds (codes "quot;") (34 ∷ [])
unfolding references
holds_quote q e = ap (λ s. told (at_end references s).text ++ handed (at_end references s).token) e

none_held : (q : ReaderPlace) → IsIn q (state_of InData) → last_tokens references q ≡ []
none_held q i = ap (λ s. told (at_end references s).text ++ handed (at_end references s).token) i.at

-- the last character
char_ends : (p : ReaderPlace) (c : ℕ) → c ≢ 0 → c ≢ 13 → IsIn p (state_of InData) → Ends p (escape_char false c) (encode_utf8 c)
char_ends p c nul cr h =
    by_cases false c (λ l. Ends p l (encode_utf8 c))
    (λ e. given (codes "amp;") (38 ∷ []) amp_is_named holds_amp (of_ascii 38 (omega arith) c e))
    (λ e. given (codes "nbsp;") (0xc2 ∷ 0xa0 ∷ []) nbsp_is_named holds_nbsp (hard_space ∙ ap encode_utf8 (sym e)))
    (λ e. given (codes "lt;") (60 ∷ []) less_is_named holds_less (of_ascii 60 (omega arith) c e))
    (λ e. given (codes "gt;") (62 ∷ []) greater_is_named holds_greater (of_ascii 62 (omega arith) c e))
    (λ e. given (codes "quot;") (34 ∷ []) quote_is_named holds_quote (of_ascii 34 (omega arith) c e))
    (λ amp less greater _.
    let m = free_reads p InData (encode_utf8 c) [] (free_encode c nul cr amp less) tt h in
    record {
      front = encode_utf8 c;
      back = [];
      place = m.place;
      passes = subst (λ l. Passes references p l (encode_utf8 c) m.place []) (append-nil (encode_utf8 c)) (passes_of m.passes);
      held = none_held m.place m.is_in;
      whole = append-nil (encode_utf8 c);
    })
  where
    given : (name text : List ℕ) → IsNamed name text → Holds name text → text ≡ encode_utf8 c → Ends p (38 ∷ name) (encode_utf8 c)
    given name text named holds e =
        let m = rows_move p (state_of InData) (NamedCharacterReference ToData name) (38 ∷ name) [] h (named.begins p.last InData) in
        record {
          front = [];
          back = text;
          place = m.place;
          passes = subst (λ l. Passes references p l [] m.place []) (append-nil (38 ∷ name)) (passes_of m.passes);
          held = holds m.place m.is_in.at;
          whole = e;
        }

-- something is written of a character
record IsWritten (xs : List ℕ) : Type 0 where
  first : ℕ
  more : List ℕ
  split : xs ≡ first ∷ more

byte_written : (xs : List ℕ) → (xs ≡ [] → ⊥) → IsWritten xs
byte_written [] h = absurd (h refl)
byte_written (x ∷ xs) h = record { first = x; more = xs; split = refl }

char_written : (c : ℕ) → IsWritten (escape_char false c)
char_written c =
    by_cases false c IsWritten
    (λ e. record { first = 38; more = codes "amp;"; split = refl })
    (λ e. record { first = 38; more = codes "nbsp;"; split = refl })
    (λ e. record { first = 38; more = codes "lt;"; split = refl })
    (λ e. record { first = 38; more = codes "gt;"; split = refl })
    (λ e. record { first = 38; more = codes "quot;"; split = refl })
    (λ amp less greater _. byte_written (encode_utf8 c) (byte_some c))

-- characters
chars_end : (p : ReaderPlace) (c : ℕ) (cs : List ℕ) → AreKept (c ∷ cs) → IsIn p (state_of InData) → Ends p (flat_map (escape_char false) (c ∷ cs)) (encode_utf8_all (c ∷ cs))
chars_end p c [] k h =
    subst (λ l. Ends p l (encode_utf8_all (c ∷ []))) (sym (append-nil (escape_char false c)))
    (subst (λ l. Ends p (escape_char false c) l) (sym (append-nil (encode_utf8 c))) (char_ends p c k.0 k.1.0 h))
chars_end p c (d ∷ cs) k h =
    let one = escape_char false c in
    let others = flat_map (escape_char false) (d ∷ cs) in
    let w = char_written d in
    let split : others ≡ w.first ∷ (w.more ++ flat_map (escape_char false) cs) = ap (λ l. l ++ flat_map (escape_char false) cs) w.split in
    let m : Reads p InData (one ++ others) (encode_utf8 c) others =
    subst (λ zs. Reads p InData (one ++ zs) (encode_utf8 c) zs) (sym split) (char_reads p InData c w.first (w.more ++ flat_map (escape_char false) cs) k.0 k.1.0 tt h) in
    let r = chars_end m.place d cs k.1.1 m.is_in in
    record {
      front = encode_utf8 c ++ r.front;
      back = r.back;
      place = r.place;
      passes = passes_join references (passes_of m.passes) r.passes;
      held = r.held;
      whole = append_assoc (encode_utf8 c) r.front r.back ∙ ap (λ l. encode_utf8 c ++ l) r.whole;
    }

pub text_ends : (p : ReaderPlace) (x : ℕ) (words : List ℕ) → IsReadable (x ∷ words) → IsIn p (state_of InData) → Ends p (escape false (x ∷ words)) (x ∷ words)
text_ends p x words r h = at (chars (x ∷ words)) refl (kept (x ∷ words) r)
  where
    at : (cs : List ℕ) → chars (x ∷ words) ≡ cs → AreKept (chars (x ∷ words)) → Ends p (escape false (x ∷ words)) (x ∷ words)
    at [] e k = absurd (let none : [] ≡ x ∷ words = sym (ap encode_utf8_all e) ∙ encodes-chars (x ∷ words) r.utf8 in cc)
    at (c ∷ cs) e k =
        subst (λ l. Ends p (flat_map (escape_char false) l) (x ∷ words)) (sym e)
        (subst (λ t. Ends p (flat_map (escape_char false) (c ∷ cs)) t) (ap encode_utf8_all (sym e) ∙ encodes-chars (x ∷ words) r.utf8)
        (chars_end p c cs (subst AreKept e k) h))
