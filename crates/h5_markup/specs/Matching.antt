-- The start of an input that may continue.
use Rattle.std.specs.Prelude.{◌≡◌, ℕ, Bool, List, [], ◌∷◌, ◌++◌, ◌==◌, if◌then◌else◌}
use Rattle.std.specs.Char.{to_ascii_lowercase}

-- undecided; not found; found, with the remainder
pub data Match (A : Type 0) : Type 0 where
  Open : Match A
  No : Match A
  Found : A → List ℕ → Match A

-- one search after another
abbrev pub and_then : {A B : Type 0} → Match A → (A → List ℕ → Match B) → Match B
and_then Open f = Open
and_then No f = No
and_then (Found a rest) f = f a rest

-- the second search if the first finds nothing
abbrev pub or_else : {A : Type 0} → Match A → Match A → Match A
or_else Open other = Open
or_else No other = other
or_else (Found a rest) other = Found a rest

-- these bytes
abbrev pub literal : List ℕ → List ℕ → Match (Unit {0})
literal [] xs = Found tt xs
literal (p ∷ ps) [] = Open
literal (p ∷ ps) (x ∷ xs) = if x == p then literal ps xs else No

-- these bytes, ASCII case-insensitively
abbrev pub word : List ℕ → List ℕ → Match (Unit {0})
word [] xs = Found tt xs
word (p ∷ ps) [] = Open
word (p ∷ ps) (x ∷ xs) = if to_ascii_lowercase x == to_ascii_lowercase p then word ps xs else No

-- a byte that passes the test; it isn't consumed
abbrev pub peek : (ℕ → Bool) → List ℕ → Match (Unit {0})
peek test [] = Open
peek test (x ∷ xs) = if test x then Found tt (x ∷ xs) else No

-- a search whose match isn't consumed
abbrev pub ahead : {A : Type 0} → Match A → List ℕ → Match (Unit {0})
ahead Open xs = Open
ahead No xs = No
ahead (Found a rest) xs = Found tt xs

-- a result with one more byte before it
abbrev pub prefixed : ℕ → Match (List ℕ) → Match (List ℕ)
prefixed x Open = Open
prefixed x No = No
prefixed x (Found front rest) = Found (x ∷ front) rest

-- the result after the input has continued with `more`
abbrev pub Grows : {A : Type 0} → Match A → List ℕ → Match A → Type 0
Grows Open more m = Unit {0}
Grows No more m = m ≡ No
Grows (Found a rest) more m = m ≡ Found a (rest ++ more)
