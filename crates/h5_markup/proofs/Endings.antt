-- The end of a comment, a doctype or a tag, found in steps.
use Rattle.std.proofs.Common.{◌≡◌, ℕ, suc, ◌+◌, ◌<◌, ◌≤◌, Bool, true, false, List, [], ◌∷◌, ◌++◌, cond, eqb, refl, sym, ap, ◌∙◌, Option, Some, None, length, take, drop, get_or, arith, length-drop, take-append-drop, subst, IsUtf8, add-zero}
use Rattle.std.specs.Str.{IsCharBoundary}
use Rattle.std.proofs.lemmas.Str.{IsCharBoundary-before_ascii, IsCharBoundary-after_ascii, IsUtf8-drop}
use Rattle.std.proofs.Math.Seq.{take-add, drop-cons}
use Rattle.std.proofs.lemmas.Bool.{eqb-true}
use Rattle.std.proofs.lemmas.List.{take_more, take_all, get_or-drop}
use Rattle.h5_markup.specs.Matching.{Open, Found, prefixed}
use Rattle.h5_markup.specs.Ending.{ends, may_end, next, up_to_end, place_after, walk}
use Rattle.h5_markup.specs.declared.ending.Inside.{Inside}

if_some : {A : Type 0} (b : Bool) (m : Option A) (a : A) → cond b None m ≡ Some a → (b ≡ false) × (m ≡ Some a)
if_some true m a h = cc
if_some false m a h = (refl, h)

-- a byte after the walk
pub walk_more : (place now : Inside) (xs : List ℕ) (x : ℕ) → walk place xs ≡ Some now → ends now x ≡ false → walk place (xs ++ x ∷ []) ≡ Some (next now x)
walk_more place now [] x h e = let same : place ≡ now = cc in rw (same, e)
walk_more place now (y ∷ xs) x h e = let t = if_some (ends place y) (walk (next place y) xs) now h in rw t.0 (walk_more (next place y) now xs x t.1 e)

pub walk_append : (place now : Inside) (xs ys : List ℕ) → walk place xs ≡ Some now → walk place (xs ++ ys) ≡ walk now ys
walk_append place now [] ys h = let same : place ≡ now = cc in rw same
walk_append place now (x ∷ xs) ys h = let t = if_some (ends place x) (walk (next place x) xs) now h in rw t.0 (walk_append (next place x) now xs ys t.1)

pub walk_place : (place now : Inside) (xs : List ℕ) → walk place xs ≡ Some now → place_after place xs ≡ now
walk_place place now [] h = cc
walk_place place now (x ∷ xs) h = let t = if_some (ends place x) (walk (next place x) xs) now h in walk_place (next place x) now xs t.1

-- one that hasn't ended
pub end_open : (place now : Inside) (xs : List ℕ) → walk place xs ≡ Some now → up_to_end place xs ≡ Open
end_open place now [] h = refl
end_open place now (x ∷ xs) h = let t = if_some (ends place x) (walk (next place x) xs) now h in rw t.0 (ap (prefixed x) (end_open (next place x) now xs t.1))

-- one that ends there
pub end_found : (place now : Inside) (xs : List ℕ) (x : ℕ) (rest : List ℕ) → walk place xs ≡ Some now → ends now x ≡ true → up_to_end place (xs ++ x ∷ rest) ≡ Found xs rest
end_found place now [] x rest h e = let same : place ≡ now = cc in rw (same, e)
end_found place now (y ∷ xs) x rest h e = let t = if_some (ends place y) (walk (next place y) xs) now h in rw t.0 (ap (prefixed y) (end_found (next place y) now xs x rest t.1 e))

pub walk_turn : (place now : Inside) (xs : List ℕ) (i : ℕ) → i < length xs → walk place (take i xs) ≡ Some now → ends now (get_or xs i 0) ≡ false → walk place (take (i + 1) xs) ≡ Some (next now (get_or xs i 0))
walk_turn place now xs i lt h e = ap (walk place) (take_more xs i 0 lt) ∙ walk_more place now (take i xs) (get_or xs i 0) h e

pub walk_along : (place middle now : Inside) (xs : List ℕ) (from n : ℕ) → walk place (take from xs) ≡ Some middle → walk middle (take n (drop from xs)) ≡ Some now → walk place (take (from + n) xs) ≡ Some now
walk_along place middle now xs from n h k = ap (walk place) (take-add from n xs) ∙ walk_append place middle (take from xs) (take n (drop from xs)) h ∙ k

-- an end that was sought in two parts isn't there yet
pub sought_open : (place middle now : Inside) (xs : List ℕ) (from n : ℕ) → n ≡ length (drop from xs) → walk place (take from xs) ≡ Some middle → walk middle (take n (drop from xs)) ≡ Some now → (up_to_end place xs ≡ Open) × (walk place xs ≡ Some now)
sought_open place middle now xs from n e h k =
    let whole : walk place xs ≡ Some now = ap (walk place) (sym (take_all (from + n) xs (omega (arith, length-drop from xs)))) ∙ walk_along place middle now xs from n h k in
    (end_open place now xs whole, whole)

-- an end that was sought in two parts is there
pub sought_end : (place middle now : Inside) (xs : List ℕ) (from n : ℕ) → from ≤ length xs → n < length (drop from xs) → walk place (take from xs) ≡ Some middle → walk middle (take n (drop from xs)) ≡ Some now → ends now (get_or (drop from xs) n 0) ≡ true → (up_to_end place xs ≡ Found (take (from + n) xs) (drop 1 (drop (from + n) xs))) × (place_after place (take (from + n) xs) ≡ now)
sought_end place middle now xs from n le lt h k e =
    let whole = walk_along place middle now xs from n h k in
    let inside : from + n < length xs = omega (arith, length-drop from xs) in
    let byte : ends now (get_or xs (from + n) 0) ≡ true = ap (ends now) (sym (get_or-drop from xs n 0)) ∙ e in
    let split : xs ≡ take (from + n) xs ++ get_or xs (from + n) 0 ∷ drop (suc (from + n)) xs = sym (take-append-drop (from + n) xs) ∙ ap (λ l. take (from + n) xs ++ l) (drop-cons xs (from + n) 0 inside) in
    let rest : drop 1 (drop (from + n) xs) ≡ drop (suc (from + n)) xs = ap (drop 1) (drop-cons xs (from + n) 0 inside) in
    (ap (up_to_end place) split ∙ end_found place now (take (from + n) xs) (get_or xs (from + n) 0) (drop (suc (from + n)) xs) whole byte ∙ ap (Found (take (from + n) xs)) (sym rest), walk_place place now (take (from + n) xs) whole)

pub ends_ascii : (now : Inside) (x : ℕ) → ends now x ≡ true → x < 128
ends_ascii now x h = by (eqb x 62) refl h
  where
    by : (b : Bool) → eqb x 62 ≡ b → cond b (may_end now) false ≡ true → x < 128
    by true e h = let same : x ≡ 62 = eqb-true x 62 e in omega arith
    by false e h = cc

byte_there : (now : Inside) (xs : List ℕ) (from n : ℕ) → ends now (get_or (drop from xs) n 0) ≡ true → get_or xs (from + n) 0 < 128
byte_there now xs from n e = ends_ascii now (get_or xs (from + n) 0) (ap (ends now) (sym (get_or-drop from xs n 0)) ∙ e)

pub boundary_at_end : (now : Inside) (xs : List ℕ) (from n : ℕ) → n < length (drop from xs) → ends now (get_or (drop from xs) n 0) ≡ true → IsCharBoundary xs (from + n)
boundary_at_end now xs from n lt e = IsCharBoundary-before_ascii xs (from + n) (omega (arith, length-drop from xs)) (byte_there now xs from n e)

pub boundary_behind : (now : Inside) (xs behind : List ℕ) (from n : ℕ) → IsUtf8 xs → behind ≡ drop (from + n) xs → n < length (drop from xs) → ends now (get_or (drop from xs) n 0) ≡ true → IsCharBoundary behind 1
boundary_behind now xs behind from n utf8 is lt e =
    let some : from + n < length xs = omega (arith, length-drop from xs) in
    let first : get_or (drop (from + n) xs) 0 0 < 128 = rw (get_or-drop, add-zero) (byte_there now xs from n e) in
    subst (λ (l : List ℕ). IsCharBoundary l 1) (sym is) (IsCharBoundary-after_ascii (drop (from + n) xs) 0 (IsUtf8-drop xs (from + n) utf8 (boundary_at_end now xs from n lt e)) (omega (arith, length-drop (from + n) xs)) first)
