-- Prefixes of a text that are written before an error.
use Rattle.std.proofs.Common.{◌≡◌, ◌∙◌, ◌-◌, ℕ, false, true, List, [], ◌∷◌, ◌++◌, Option, Result, Ok, Err, OnOk, OnErr, ap, map, append_assoc, append-nil, drop, length, refl, subst, sym, take, take-append-drop}
use Rattle.std.proofs.KnownBytes.{Appends-kept, Appends-nil, Appends-trans}
use Rattle.std.specs.Io.KnownBytes.{Appends, Keeps}
use Rattle.std.specs.Result.{IsErr, IsErrAnd}
use Rattle.std.specs.List.{flat_map}
use Rattle.h5_serialize.specs.Fronts.{AppendsFront, Writes}
use Rattle.h5_serialize.proofs.Escapes.{Wrote, rest_same, wrote_more}

-- a prefix of the first part is a prefix of the whole
pub front_first : {a b : Option (List ℕ)} (x y all : List ℕ) → all ≡ x ++ y → AppendsFront a b x → AppendsFront a b all
front_first x y all e h = record {
  front = h.front;
  rest = h.rest ++ y;
  splits = e ∙ ap (λ l. l ++ y) h.splits ∙ append_assoc h.front h.rest y;
  appends = h.appends;
}

-- so is the first part with a prefix of the second
pub front_later : {a b c : Option (List ℕ)} (x y all : List ℕ) → all ≡ x ++ y → Appends a b x → AppendsFront b c y → AppendsFront a c all
front_later {a} {b} {c} x y all e first h = record {
  front = x ++ h.front;
  rest = h.rest;
  splits = e ∙ ap (λ l. x ++ l) h.splits ∙ sym (append_assoc x h.front h.rest);
  appends = Appends-trans a b c x h.front first h.appends;
}

-- the whole text is a prefix of itself, and so is the empty text
pub front_whole : (a b : Option (List ℕ)) (text : List ℕ) → Appends a b text → AppendsFront a b text
front_whole a b text h = record { front = text; rest = []; splits = sym (append-nil text); appends = h }

pub front_none : (a b : Option (List ℕ)) (text : List ℕ) → b ≡ a → AppendsFront a b text
front_none a b text e = subst (λ c. AppendsFront a c text) (sym e) (record { front = []; rest = text; splits = refl; appends = Appends-nil a })

-- a prefix of the text that was left
pub front_left : (a b c : Option (List ℕ)) (all left : List ℕ) → Wrote a b all left → AppendsFront b c left → AppendsFront a c all
front_left a b c all left w h = front_later w.part left all w.splits w.appends h

-- the text that was written before the writer failed
pub front_kept : (a b c : Option (List ℕ)) (all left : List ℕ) → Wrote a b all left → Keeps b c → AppendsFront a c all
front_kept a b c all left w h = record {
  front = w.part;
  rest = left;
  splits = w.splits;
  appends = Appends-kept a b c w.part w.appends h;
}

pub front_written : (a b : Option (List ℕ)) (all left : List ℕ) → Wrote a b all left → AppendsFront a b all
front_written a b all left w = record { front = w.part; rest = left; splits = w.splits; appends = w.appends }

-- nothing of it is written yet
pub wrote_none : (a : Option (List ℕ)) (all : List ℕ) → Wrote a a all all
wrote_none a all = record { part = []; appends = Appends-nil a; splits = refl }

-- the writer took the first n bytes of the text that was left
pub wrote_taken : (a b c : Option (List ℕ)) (all left : List ℕ) (n : ℕ) → Wrote a b all left → Appends b c (take n left) → Wrote a c all (take (length left - n) (drop n left))
wrote_taken a b c all left n w h = wrote_more a b c all left _ (take n left) w h (sym (take-append-drop n left) ∙ ap (λ l. take n left ++ l) (sym (rest_same left n)))

-- the writer took nothing of it
pub wrote_kept : (a b c : Option (List ℕ)) (all left : List ℕ) → Wrote a b all left → Keeps b c → Wrote a c all left
wrote_kept a b c all left w h = record { part = w.part; appends = Appends-kept a b c w.part w.appends h; splits = w.splits }

-- nothing is left
pub wrote_all : (a b : Option (List ℕ)) (all left : List ℕ) → length left ≡ 0 → Wrote a b all left → Appends a b all
wrote_all a b all [] none w = subst (Appends a b) (sym (w.splits ∙ append-nil w.part)) w.appends
wrote_all a b all (x ∷ left) none w = cc

-- ---- the result of a call

pub on_err : {T E P : Type 0} (r : Result T E) → P → OnErr r P
on_err (Ok x) h = tt
on_err (Err e) h = h

-- an error
pub stops : {T E : Type 0} (P : E → Type 0) {a b : Option (List ℕ)} {text : List ℕ} (r : Result T E) → IsErrAnd r P → AppendsFront a b text → Writes r a b text
stops P (Ok x) is h = absurd is
stops P (Err e) is h = h

-- the second of two parts
pub goes_on : {T E : Type 0} (a b c : Option (List ℕ)) (r : Result T E) (x y all : List ℕ) → all ≡ x ++ y → Appends a b x → Writes r b c y → Writes r a c all
goes_on a b c (Ok done) x y all e first h = subst (Appends a c) (sym e) (Appends-trans a b c x y first h)
goes_on a b c (Err fault) x y all e first h = front_later x y all e first h

-- after a call that wrote nothing
pub goes_after : {T E : Type 0} (a b c : Option (List ℕ)) (r : Result T E) (text : List ℕ) → Keeps a b → Writes r b c text → Writes r a c text
goes_after a b c r text kept h = goes_on a b c r [] text text refl (Appends-kept a a b [] (Appends-nil a) kept) h

-- the second of two parts, if an error in the first stops the writing
pub goes_further : {T E : Type 0} (a b c : Option (List ℕ)) (begun r : Result T E) (x y all : List ℕ) → all ≡ x ++ y
    → Writes begun a b x → OnOk begun (Writes r b c y) → OnErr begun (Keeps b c) → OnErr begun (IsErr r) → Writes r a c all
goes_further a b c (Ok done) r x y all e first h kept stays = goes_on a b c r x y all e first h
goes_further a b c (Err fault) (Ok done) x y all e first h kept stays = let never : false ≡ true = stays in cc
goes_further a b c (Err fault) (Err again) x y all e first h kept stays =
    front_first x y all e (record { front = first.front; rest = first.rest; splits = first.splits; appends = Appends-kept a b c first.front first.appends kept })

-- ---- the texts of items

pub text_of_more : {X Y : Type 0} (f : Y → List ℕ) (g : X → Y) (xs : List X) (x : X) → flat_map f (map g (xs ++ x ∷ [])) ≡ flat_map f (map g xs) ++ f (g x)
text_of_more f g [] x = append-nil (f (g x))
text_of_more f g (y ∷ xs) x = ap (λ l. f (g y) ++ l) (text_of_more f g xs x) ∙ sym (append_assoc (f (g y)) (flat_map f (map g xs)) (f (g x)))

-- the first item, after the text so far
pub writes_item : {T E X Y : Type 0} (f : Y → List ℕ) (g : X → Y) (a b c : Option (List ℕ)) (begun r : Result T E) (start : List ℕ) (x : X)
    → Writes begun a b start → OnOk begun (Writes r b c (f (g x))) → OnErr begun (Keeps b c) → OnErr begun (IsErr r) → Writes r a c (start ++ flat_map f (map g (x ∷ [])))
writes_item f g a b c begun r start x first h kept stays =
    goes_further a b c begun r start (f (g x)) (start ++ (f (g x) ++ [])) (ap (λ l. start ++ l) (append-nil (f (g x)))) first h kept stays

-- one more item
pub writes_more : {T E X Y : Type 0} (f : Y → List ℕ) (g : X → Y) (a b c : Option (List ℕ)) (begun r : Result T E) (start : List ℕ) (xs : List X) (x : X)
    → Writes begun a b (start ++ flat_map f (map g xs)) → OnOk begun (Writes r b c (f (g x))) → OnErr begun (Keeps b c) → OnErr begun (IsErr r) → Writes r a c (start ++ flat_map f (map g (xs ++ x ∷ [])))
writes_more f g a b c begun r start xs x first h kept stays =
    goes_further a b c begun r (start ++ flat_map f (map g xs)) (f (g x)) (start ++ flat_map f (map g (xs ++ x ∷ [])))
    (ap (λ l. start ++ l) (text_of_more f g xs x) ∙ sym (append_assoc start (flat_map f (map g xs)) (f (g x)))) first h kept stays
