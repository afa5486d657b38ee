-- A text that is written in parts.
use Rattle.std.specs.Prelude.{◌≡◌, ℕ, List, ◌++◌, Option}
use Rattle.std.specs.Io.KnownBytes.{Appends}
use Rattle.h5_arena.specs.ArenaModel.{ArenaView}
use Rattle.h5_print.specs.Printed.{IsTreeText}

-- a prefix of the buffered text was written, and the remainder is still buffered
pub record PassesOn (was is : List ℕ) (old new : Option (List ℕ)) : Type 0 where
  pub front : List ℕ
  pub splits : was ≡ front ++ is
  pub appends : Appends old new front

-- the text of a tree was appended to a writer
pub record WritesTree (a : ArenaView) (old new : Option (List ℕ)) : Type 0 where
  pub text : List ℕ
  pub is_text : IsTreeText a text
  pub appends : Appends old new text
