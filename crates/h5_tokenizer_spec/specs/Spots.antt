-- The column and the offset of a byte.
use Rattle.std.specs.Prelude.{ℕ, ◌+◌, ◌-◌, Bool, true, false, List, [], ◌∷◌, ◌==◌, ◌&&◌, nat_le, if◌then◌else◌}
use Rattle.std.specs.Io.Iter.{u64_saturate}
use Rattle.h5_tokenizer_spec.specs.declared.position.Position.{Position}
use Rattle.h5_tokenizer_spec.specs.declared.position.Spot.{Spot}
use Rattle.h5_tokenizer_spec.specs.Lines.{normal}

-- with the line
abbrev pub position : ℕ → Spot → Position
position line s = record { line = line; column = s.column; offset = s.offset }

-- n characters before a position, which are ASCII and in its line
abbrev pub position_before : ℕ → Position → Position
position_before n at = record { line = at.line; column = at.column - n; offset = at.offset - n }

-- a byte of UTF-8 inside a character
abbrev pub is_inside : ℕ → Bool
is_inside x = nat_le 0x80 x && nat_le x 0xbf

-- the column after a byte
abbrev pub column_after : ℕ → ℕ → ℕ
column_after column x =
    if normal x == 10 then 1
    else if is_inside x then column
    else u64_saturate (column + 1)

-- after a consumed byte, and after consumed bytes
abbrev pub spot_behind : ℕ → Spot → Spot
spot_behind x s = record { column = column_after s.column x; offset = u64_saturate (s.offset + 1); is_new = true }

abbrev pub spot_behind_all : List ℕ → Spot → Spot
spot_behind_all [] s = s
spot_behind_all (x ∷ xs) s = spot_behind_all xs (spot_behind x s)

-- after a LINE FEED that is dropped, which has no column
abbrev pub spot_past : Spot → Spot
spot_past s = record { column = s.column; offset = u64_saturate (s.offset + 1); is_new = true }

-- before a byte that a row has handled
abbrev pub spot_again : Spot → Spot
spot_again s = record s { is_new = false }
