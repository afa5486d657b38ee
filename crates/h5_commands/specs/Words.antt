-- The arguments of a command.
use Rattle.std.specs.Prelude.{ℕ, if◌then◌else◌, List, [], ◌∷◌, Option, Some, None, String, string_bytes, bytes_eq, codes}
use Rattle.std.specs.declared.alloc.Global.{Global}
use Rattle.h5_commands.specs.declared.words.Command.{Command}
use Rattle.h5_commands.specs.declared.words.Command.TheVariants as command

-- a command, independent of where its arguments are in memory
pub data CommandText : Type 0 where
  Tokens : CommandText
  Tree : CommandText
  Fragment : (context : List ℕ) → CommandText
  Html : CommandText

abbrev pub command_text : Command → CommandText
command_text command.Tokens = Tokens
command_text command.Tree = Tree
command_text (command.Fragment context) = Fragment context.now
command_text command.Html = Html

abbrev pub command_named : List ℕ → Option CommandText
command_named word =
    if bytes_eq word (codes "tokens") then Some Tokens
    else (if bytes_eq word (codes "tree") then Some Tree
    else (if bytes_eq word (codes "html") then Some Html else None))

-- one argument is the name of a command, or "tree" is followed by the name of a context element
abbrev pub command_of : List (String Global) → Option CommandText
command_of [] = None
command_of (w ∷ []) = command_named (string_bytes w)
command_of (w ∷ v ∷ []) = if bytes_eq (string_bytes w) (codes "tree") then Some (Fragment (string_bytes v)) else None
command_of (w ∷ v ∷ u ∷ ws) = None
