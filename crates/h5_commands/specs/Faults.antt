-- The message of an error, and its exit status.
use Rattle.std.specs.Prelude.{◌≡◌, ◌⊎◌, ℕ, List, [], ◌∷◌, ◌++◌, codes, string_bytes}
use Rattle.std.specs.Fmt.{decimal}
use Rattle.std.specs.declared.io.ErrorKind.{ErrorKind}
use Rattle.std.specs.declared.io.ErrorKind.TheVariants.{OutOfMemory}
use Rattle.h5_commands.specs.declared.fault.Fault.{Fault}
use Rattle.h5_commands.specs.declared.fault.Fault.TheVariants.{Usage, Unreadable, NotUtf8, BadLine, Unwritable, Memory}

abbrev pub message_of : Fault → List ℕ
message_of Usage = codes "h5: usage: h5 tokens | h5 tree [context] | h5 html\n"
message_of Unreadable = codes "h5: cannot read\n"
message_of NotUtf8 = codes "h5: input is not UTF-8\n"
message_of (BadLine message) = string_bytes message
message_of Unwritable = codes "h5: cannot write\n"
message_of Memory = codes "h5: out of memory\n"

abbrev pub status_of : Fault → ℕ
status_of Usage = 2
status_of Unreadable = 1
status_of NotUtf8 = 1
status_of (BadLine message) = 2
status_of Unwritable = 1
status_of Memory = 1

-- the line with this number is bad, and the message says so
abbrev pub IsBadLine : ℕ → Fault → Type 0
IsBadLine n Usage = ⊥
IsBadLine n Unreadable = ⊥
IsBadLine n NotUtf8 = ⊥
IsBadLine n (BadLine message) = string_bytes message ≡ codes "h5: bad line " ++ decimal n ++ 10 ∷ []
IsBadLine n Unwritable = ⊥
IsBadLine n Memory = ⊥

-- the error of a failed read, by the kind of its error: out of memory exactly if that is the kind
abbrev pub read_fault : ErrorKind → Fault
read_fault OutOfMemory = Memory
read_fault _ = Unreadable

-- the error of arguments that can't be read: arguments that aren't text aren't a command
abbrev pub words_fault : ErrorKind → Fault
words_fault OutOfMemory = Memory
words_fault _ = Usage

-- the errors of a failed read, of any kind
abbrev pub IsReadFault : Fault → Type 0
IsReadFault fault = (fault ≡ Unreadable) ⊎ (fault ≡ Memory)
