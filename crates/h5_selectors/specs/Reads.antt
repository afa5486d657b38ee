-- The results of parsing functions.
use Rattle.std.specs.Prelude.{◌≡◌, List, ℕ, Result, Ok, Err}
use Rattle.h5_selectors.specs.Counting.{Taken, taken}
use Rattle.h5_selectors.specs.Fault.{Found, Outcome, Wrong}
use Rattle.h5_selectors.specs.Tokens.{Reading, reading}
use Rattle.h5_selectors.specs.declared.fault.Refusal.{Refusal}
use Rattle.h5_selectors.specs.declared.fault.Refusal.TheVariants.{Invalid, Memory}

-- a refusal has the problem of the outcome, and its place; after a failed allocation, nothing is known
abbrev pub Fails : {Y : Type 0} → Refusal → Outcome Y → Type 0
Fails Memory read = Unit {0}
Fails (Invalid left problem) read = read ≡ Wrong problem left

-- the result, in the terms of the definitions, and the remaining text
abbrev pub Reads : {X Y : Type 0} → (X → Y) → Result X Refusal → (rest : List ℕ) → Outcome (Reading Y) → Type 0
Reads view (Ok x) rest read = read ≡ Found (reading (view x) rest)
Reads view (Err refusal) rest read = Fails refusal read

-- as above, with the number of parts left
abbrev pub Takes : {X Y : Type 0} → (X → Y) → Result X Refusal → (parts : ℕ) → (rest : List ℕ) → Outcome (Taken Y) → Type 0
Takes view (Ok x) parts rest read = read ≡ Found (taken (view x) parts rest)
Takes view (Err refusal) parts rest read = Fails refusal read
