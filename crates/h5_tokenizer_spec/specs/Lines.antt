-- Newlines normalized to one byte (HTML standard, section 13.2.3.5).
use Rattle.std.specs.Prelude.{ℕ, ◌==◌, if◌then◌else◌}

-- CARRIAGE RETURN becomes LINE FEED, and so does CARRIAGE RETURN LINE FEED
abbrev pub normal : ℕ → ℕ
normal x = if x == 13 then 10 else x
