-- Text, bit by bit.
use Rattle.std.proofs.Common.{◌≡◌, ℕ, zero, suc, ◌<◌, ◌≤◌, Bool, true, false, List, [], ◌∷◌, ◌++◌, length, take, drop, get_or, refl, sym, ap, ◌∙◌, arith, append_assoc, append-nil, length-drop, max, le_refl}
use Rattle.h5_token.specs.declared.states.RawKind.TheVariants.{Rcdata, Rawtext, ScriptData}
use Rattle.h5_markup.specs.Matching.{No, Found, or_else, and_then}
use Rattle.h5_plain_tokenizer.specs.declared.front.Mode.{Mode}
use Rattle.h5_plain_tokenizer.specs.declared.front.Mode.TheVariants.{Data, RawData, Plaintext, Cdata}
use Rattle.h5_plain_tokenizer.specs.Front.{Opening, Gives, Bit, in_data, raw_end_tag, opening, finished, other, front}
use Rattle.h5_plain_tokenizer.specs.Read.{Bits, no_bit, more_bits}
use Rattle.h5_plain_tokenizer.specs.Steps.{TakesBits, TakesMany}
use Rattle.h5_plain_tokenizer.proofs.FrontTakes.{front_eats}
use Rattle.h5_markup.specs.Plain.{is_plain}
use Rattle.h5_markup.proofs.PlainBytes.{Plain, plain}
use Rattle.h5_markup.proofs.TextTakes.{found_shorter}

-- if nothing else begins here, and if a text replaces what begins here
pub front_no : (mode : Mode) (last : List ℕ) (foreign : Bool) (xs : List ℕ) → opening mode last foreign xs ≡ No → front mode last foreign xs ≡ other xs
front_no mode last foreign xs h = ap (λ m. or_else (and_then m finished) (other xs)) h

pub front_found : {o : Opening} {rest : List ℕ} (mode : Mode) (last : List ℕ) (foreign : Bool) (xs : List ℕ) → opening mode last foreign xs ≡ Found o rest → front mode last foreign xs ≡ or_else (finished o rest) (other xs)
front_found mode last foreign xs h = ap (λ m. or_else (and_then m finished) (other xs)) h

plain_raw : (last : List ℕ) (x : ℕ) (xs : List ℕ) → Plain x → raw_end_tag last (x ∷ xs) ≡ No
plain_raw [] x xs p = refl
plain_raw (c ∷ cs) x xs p = simp (p.lt)

plain_data : (foreign : Bool) (x : ℕ) (xs : List ℕ) → Plain x → in_data foreign (x ∷ xs) ≡ No
plain_data true x xs p = simp (p.lt, p.amp, p.cr, p.nul, p.low)
plain_data false x xs p = simp (p.lt, p.amp, p.cr, p.nul, p.low)

plain_opening : (mode : Mode) (last : List ℕ) (foreign : Bool) (x : ℕ) (xs : List ℕ) → Plain x → opening mode last foreign (x ∷ xs) ≡ No
plain_opening Data last foreign x xs p = plain_data foreign x xs p
plain_opening (RawData Rcdata) last foreign x xs p = simp (plain_raw last x xs p, p.amp, p.cr, p.nul)
plain_opening (RawData Rawtext) last foreign x xs p = simp (plain_raw last x xs p, p.cr, p.nul)
plain_opening (RawData ScriptData) last foreign x xs p = simp (plain_raw last x xs p, p.cr, p.nul)
plain_opening Plaintext last foreign x xs p = simp (p.cr, p.nul)
plain_opening Cdata last foreign x xs p = simp (p.bracket, p.cr, p.nul)

-- a byte where nothing else begins
one_bit : {mode : Mode} {last : List ℕ} {foreign : Bool} (x : ℕ) (xs : List ℕ) → opening mode last foreign (x ∷ xs) ≡ No → Bits mode last foreign (x ∷ xs) (x ∷ []) xs
one_bit {mode} {last} {foreign} x xs h = more_bits (x ∷ []) (front_no mode last foreign (x ∷ xs) h) no_bit

join_behind : {mode : Mode} {last : List ℕ} {xs t ys u zs : List ℕ} → Bits mode last true xs t ys → Bits mode last true ys u zs → Bits mode last true xs (t ++ u) zs
join_behind no_bit second = second
join_behind {u} (more_bits {text} bit h bits) second = rw append_assoc (more_bits bit h (join_behind bits second))

pub bits_join : {mode : Mode} {last : List ℕ} {foreign : Bool} {xs t ys u zs : List ℕ} → length ys < length xs → Bits mode last foreign xs t ys → Bits mode last true ys u zs → Bits mode last foreign xs (t ++ u) zs
bits_join some no_bit second = absurd (omega arith)
bits_join some (more_bits bit h bits) second = rw append_assoc (more_bits bit h (join_behind bits second))

plain_bits : {mode : Mode} {last : List ℕ} (foreign : Bool) (xs : List ℕ) (n : ℕ) → n ≤ length xs → ((k : ℕ) → k < n → is_plain (get_or xs k 0) ≡ true) → Bits mode last foreign xs (take n xs) (drop n xs)
plain_bits foreign xs zero le h = no_bit
plain_bits foreign [] (suc n) le h = absurd (omega arith)
plain_bits {mode} {last} foreign (x ∷ xs) (suc n) le h =
    more_bits (x ∷ []) (front_no mode last foreign (x ∷ xs) (plain_opening mode last foreign x xs (plain x (h 0 (omega arith)))))
    (plain_bits true xs n (omega arith) (λ k lt. h (suc k) (omega arith)))

pub some_plain : {mode : Mode} {last : List ℕ} (foreign : Bool) (xs rest old new : List ℕ) (n : ℕ) → 0 < n → n ≤ length xs → ((k : ℕ) → k < n → is_plain (get_or xs k 0) ≡ true) → new ≡ old ++ take n xs → rest ≡ drop n xs → TakesBits mode last foreign xs rest old new
some_plain foreign xs rest old new n some le h e f = record {
  text = take n xs;
  bits = rw f (plain_bits foreign xs n le h);
  put = e;
  shorter = omega (arith, ap length f, length-drop n xs);
}

pub takes_plain : {mode : Mode} {last : List ℕ} (foreign : Bool) (xs rest old new : List ℕ) (c n : ℕ) → 0 < length xs → c ≤ length xs → ((k : ℕ) → k < c → is_plain (get_or xs k 0) ≡ true) → n ≡ max c 1 → opening mode last foreign xs ≡ No → new ≡ old ++ take n xs → rest ≡ drop n xs → TakesBits mode last foreign xs rest old new
takes_plain foreign [] rest old new c n some le h m s e f = absurd (omega arith)
takes_plain foreign (x ∷ xs) rest old new zero n some le h m s e f = record {
  text = x ∷ [];
  bits = rw (f, m) (one_bit x xs s);
  put = rw m at e;
  shorter = omega (arith, ap length f, length-drop n (x ∷ xs));
}
takes_plain foreign (x ∷ xs) rest old new (suc c) n some le h m s e f =
    let same : n ≡ suc c = omega arith in
    some_plain foreign (x ∷ xs) rest old new n (omega arith) (omega arith) (λ k lt. h k (omega arith)) e f

pub takes_bit : {mode : Mode} {last : List ℕ} (foreign : Bool) (xs rest bit old new : List ℕ) → opening mode last foreign xs ≡ Found (Gives bit) rest → new ≡ old ++ bit → TakesBits mode last foreign xs rest old new
takes_bit {mode} {last} foreign xs rest bit old new h e =
    let here = front_found mode last foreign xs h in
    record {
      text = bit ++ [];
      bits = more_bits bit here no_bit;
      put = rw append-nil e;
      shorter = found_shorter (Bit bit) xs rest (front_eats mode last foreign) here;
    }

pub many_more : {mode : Mode} {last : List ℕ} (xs ys zs old mid new : List ℕ) → TakesMany mode last xs ys old mid → TakesBits mode last true ys zs mid new → TakesMany mode last xs zs old new
many_more xs ys zs old mid new first second =
    let before = first.bits in
    let behind = second.bits in
    record {
      text = first.text ++ second.text;
      bits = join_behind before behind;
      put = second.put ∙ ap (λ l. l ++ second.text) first.put ∙ append_assoc old first.text second.text;
      no_longer = omega (arith, first.no_longer, second.shorter);
    }

pub many_none : {mode : Mode} {last : List ℕ} (xs old : List ℕ) → TakesMany mode last xs xs old old
many_none xs old = record { text = []; bits = no_bit; put = sym (append-nil old); no_longer = le_refl (length xs) }
