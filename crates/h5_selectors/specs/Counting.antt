-- Parsing with a limit on the number of parts.
use Rattle.std.specs.Prelude.{ℕ, ◌-◌, ◌==◌, if◌then◌else◌, List}
use Rattle.h5_selectors.specs.Fault.{◌>>=◌, Found, Outcome, wrong_at}
use Rattle.h5_selectors.specs.Tokens.{Reading}
use Rattle.h5_selectors.specs.declared.fault.SelectorProblem.TheVariants.{TooLong}

-- the result, the number of parts left after it, and the remaining text
pub record Taken (A : Type 0) : Type 0 where
  pub value : A
  pub parts : ℕ
  pub rest : List ℕ

abbrev pub taken : {A : Type 0} → A → ℕ → List ℕ → Taken A
taken value parts rest = record { value = value; parts = parts; rest = rest }

-- a result without parts, in another form
abbrev pub partless : {A B : Type 0} → (A → B) → ℕ → Outcome (Reading A) → Outcome (Taken B)
partless view parts read = read >>= (λ one. Found (taken (view one.value) parts one.rest))

-- a result in another form
abbrev pub seen_as : {A B : Type 0} → (A → B) → Outcome (Taken A) → Outcome (Taken B)
seen_as view read = read >>= (λ one. Found (taken (view one.value) one.parts one.rest))

-- a part at the start of a text, if any is left
abbrev pub part : {A : Type 0} → (ℕ → Outcome A) → ℕ → List ℕ → Outcome A
part behind parts text = if parts == 0 then wrong_at TooLong text else behind (parts - 1)
