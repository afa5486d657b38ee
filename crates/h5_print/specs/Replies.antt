-- The lines of a quirks mode, and of replies to tokens.
use Rattle.std.specs.Prelude.{ℕ, List, [], ◌∷◌, ◌++◌, codes}
use Rattle.std.specs.Fmt.{decimal}
use Rattle.h5_interface.specs.declared.marks.QuirksMode.{QuirksMode}
use Rattle.h5_interface.specs.declared.marks.QuirksMode.TheVariants as mode
use Rattle.h5_token.specs.declared.fault.BuildFault.{BuildFault}
use Rattle.h5_token.specs.declared.fault.BuildFault.TheVariants as fault
use Rattle.h5_token.specs.declared.states.RawKind.{RawKind}
use Rattle.h5_token.specs.declared.states.RawKind.TheVariants as raw
use Rattle.h5_token.specs.Reply.{Reply, Continues, RunsScript, TurnsPlain, TurnsRaw, Indicates, Refuses}
use Rattle.h5_print.specs.Escapes.{escape}

abbrev pub mode_name : QuirksMode → List ℕ
mode_name mode.Quirks = codes "Quirks"
mode_name mode.LimitedQuirks = codes "LimitedQuirks"
mode_name mode.NoQuirks = codes "NoQuirks"

abbrev pub quirks_line : QuirksMode → List ℕ
quirks_line m = codes "quirks: " ++ mode_name m ++ 10 ∷ []

abbrev pub raw_name : RawKind → List ℕ
raw_name raw.Rcdata = codes "Rcdata"
raw_name raw.Rawtext = codes "Rawtext"
raw_name raw.ScriptData = codes "ScriptData"

-- a line that begins with the number of a token
abbrev pub numbered : ℕ → List ℕ → List ℕ
numbered n text = decimal n ++ 32 ∷ text ++ 10 ∷ []

abbrev pub fault_line : ℕ → BuildFault → List ℕ
fault_line n fault.AfterEnd = numbered n (codes "AfterEnd")
fault_line n fault.NotInText = numbered n (codes "NotInText")
fault_line n fault.Memory = []
fault_line n fault.Failed = []

-- the line of the reply to the token with this number, or none
abbrev pub reply_line : ℕ → Reply → List ℕ
reply_line n Continues = []
reply_line n (RunsScript node) = numbered n (codes "Script")
reply_line n TurnsPlain = numbered n (codes "Plaintext")
reply_line n (TurnsRaw kind) = numbered n (codes "RawData(" ++ raw_name kind ++ codes ")")
reply_line n (Indicates encoding) = numbered n (codes "EncodingIndicator \"" ++ escape encoding ++ codes "\"")
reply_line n (Refuses fault) = fault_line n fault
