-- The outcome of a run, and what it shows.
use Rattle.std.specs.Prelude.{◌≡◌, ◌⊎◌, ℕ, List, take, Option, Some, None, Result, Ok, Err, String, Vec, IfSome, IsUtf8, string_bytes}
use Rattle.std.specs.Io.KnownBytes.{Appends, Keeps}
use Rattle.std.specs.declared.alloc.Global.{Global}
use Rattle.std.specs.declared.io.ErrorKind.{ErrorKind}
use Rattle.h5_print.specs.Items.{ItemText, item_texts, items_of}
use Rattle.h5_print.specs.declared.items.Item.{Item}
use Rattle.h5_commands.specs.Faults.{IsBadLine, IsReadFault, message_of, status_of, words_fault}
use Rattle.h5_commands.specs.Printed.{FragmentPrints, HtmlPrints, ItemsPrint, TreePrints}
use Rattle.h5_commands.specs.Words.{CommandText, Fragment, Html, Tokens, Tree, command_of}
use Rattle.h5_commands.specs.declared.fault.Fault.{Fault}
use Rattle.h5_commands.specs.declared.fault.Fault.TheVariants.{Usage, NotUtf8, Unwritable, Memory}

-- a prefix of a text, maybe all of it, was appended to the known contents of a writer
abbrev pub AppendsFront : Option (List ℕ) → Option (List ℕ) → List ℕ → Type 0
AppendsFront old new text = (n : ℕ) × Appends old new (take n text)

-- the known input is read as this text, or reading fails with this error
abbrev pub IsRead : Option (List ℕ) → Result (String Global) Fault → Type 0
IsRead known (Ok text) = IfSome known (λ bytes. string_bytes text ≡ bytes)
IsRead known (Err fault) = IsReadFault fault ⊎ ((fault ≡ NotUtf8) × IfSome known (λ bytes. ¬ (IsUtf8 bytes)))

-- the lines of a text are read as these items, or reading fails with this error
abbrev pub AreRead : List ℕ → Result (Vec Item Global) Fault → Type 0
AreRead text (Ok items) = items_of text ≡ Ok (item_texts items.items)
AreRead text (Err fault) = (fault ≡ Memory) ⊎ ((n : ℕ) × IsBadLine n fault × (items_of text ≡ Err n))

-- the input is text, its lines are tokens and calls of `end`, and this is their output
abbrev pub ArePrinted : List ℕ → List ℕ → Type 0
ArePrinted bytes output = IsUtf8 bytes × ((items : List ItemText) × (items_of bytes ≡ Ok items) × ItemsPrint items output)

-- the input is text, and the line with this number is its first bad one
abbrev pub IsBadAt : ℕ → List ℕ → Type 0
IsBadAt n bytes = IsUtf8 bytes × (items_of bytes ≡ Err n)

-- the output of a command for its input: for lines of tokens, or for a text
abbrev pub Prints : CommandText → List ℕ → List ℕ → Type 0
Prints Tokens bytes output = ArePrinted bytes output
Prints Tree bytes output = IsUtf8 bytes × TreePrints bytes output
Prints (Fragment context) bytes output = IsUtf8 bytes × FragmentPrints context bytes output
Prints Html bytes output = IsUtf8 bytes × HtmlPrints bytes output

-- a line is bad, if the command reads lines
abbrev pub IsBadFor : CommandText → Option (List ℕ) → Fault → Type 0
IsBadFor Tokens known fault = (n : ℕ) × IsBadLine n fault × IfSome known (IsBadAt n)
IsBadFor _ known fault = ⊥

-- the output of a command for the known input, or its error
abbrev pub ComesBy : Option CommandText → Option (List ℕ) → Result (Vec ℕ Global) Fault → Type 0
ComesBy None known (Ok output) = ⊥
ComesBy None known (Err fault) = fault ≡ Usage
ComesBy (Some command) known (Ok output) = IfSome known (λ bytes. Prints command bytes output.items)
ComesBy (Some command) known (Err fault) =
    IsReadFault fault
    ⊎ ((fault ≡ NotUtf8) × IfSome known (λ bytes. ¬ (IsUtf8 bytes)))
    ⊎ IsBadFor command known fault

-- the output of arguments for the known input, or their error
abbrev pub Comes : List (String Global) → Option (List ℕ) → Result (Vec ℕ Global) Fault → Type 0
Comes words known outcome = ComesBy (command_of words) known outcome

-- the output of the lines of a text, or their error
abbrev pub LinesCome : List ℕ → Result (Vec ℕ Global) Fault → Type 0
LinesCome text (Ok output) = (items : List ItemText) × (items_of text ≡ Ok items) × ItemsPrint items output.items
LinesCome text (Err fault) = (fault ≡ Memory) ⊎ ((n : ℕ) × IsBadLine n fault × (items_of text ≡ Err n))

-- an output was written, or a prefix of it and then the message of that error
abbrev pub Puts : List ℕ → (out out_new faults faults_new : Option (List ℕ)) → ℕ → Type 0
Puts text out out_new faults faults_new status =
    ((status ≡ 0) × Appends out out_new text × Keeps faults faults_new)
    ⊎ ((status ≡ 1) × AppendsFront out out_new text × AppendsFront faults faults_new (message_of Unwritable))

-- an outcome is shown by what is written, and by the exit status
abbrev pub Shows : Result (Vec ℕ Global) Fault → (out out_new faults faults_new : Option (List ℕ)) → ℕ → Type 0
Shows (Ok output) out out_new faults faults_new status = Puts output.items out out_new faults faults_new status
Shows (Err fault) out out_new faults faults_new status =
    (status ≡ status_of fault) × Keeps out out_new × AppendsFront faults faults_new (message_of fault)

-- a run with these arguments and this known input shows its outcome
abbrev pub Ends : List (String Global) → (input out out_new faults faults_new : Option (List ℕ)) → ℕ → Type 0
Ends words input out out_new faults faults_new status =
    (outcome : Result (Vec ℕ Global) Fault) × Comes words input outcome × Shows outcome out out_new faults faults_new status

-- a run whose arguments can't be read, with an error of this kind: its message and its status
abbrev pub EndsUnread : ErrorKind → (faults faults_new : Option (List ℕ)) → ℕ → Type 0
EndsUnread kind faults faults_new status =
    (status ≡ status_of (words_fault kind)) × AppendsFront faults faults_new (message_of (words_fault kind))
