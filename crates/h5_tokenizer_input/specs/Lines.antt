-- Lines of the input.
use Rattle.std.specs.Prelude.{ℕ, ◌+◌, ◌-◌, Bool, true, false, not, ◌&&◌, List, [], ◌∷◌, ◌==◌, length, take, if◌then◌else◌}
use Rattle.std.specs.Io.Iter.{u64_saturate}

-- the number of newlines, after a CR or not: CR LF, CR and LF are one each
abbrev pub newlines : Bool → List ℕ → ℕ
newlines after_cr [] = 0
newlines after_cr (x ∷ xs) =
    if x == 13 then 1 + newlines true xs
    else (if x == 10 && not after_cr then 1 + newlines false xs else newlines false xs)

-- true if the last byte is a CR; of no bytes, if a CR is before them
abbrev pub ends_in_cr : Bool → List ℕ → Bool
ends_in_cr after_cr [] = after_cr
ends_in_cr after_cr (x ∷ xs) = ends_in_cr (x == 13) xs

-- The line after some bytes that begin in this line, after a CR or not. The count stops at the maximum of a u64.
abbrev pub line_past : ℕ → Bool → List ℕ → ℕ
line_past line after_cr xs = u64_saturate (line + newlines after_cr xs)

-- the bytes that were passed of an input whose suffix `rest` is left
abbrev pub passed : List ℕ → List ℕ → List ℕ
passed xs rest = take (length xs - length rest) xs

-- the number of newlines that were passed
abbrev pub newlines_passed : List ℕ → List ℕ → ℕ
newlines_passed xs rest = newlines false (passed xs rest)

-- the line after what was passed of an input that begins in this line
abbrev pub line_behind : ℕ → List ℕ → List ℕ → ℕ
line_behind line xs rest = line_past line false (passed xs rest)
