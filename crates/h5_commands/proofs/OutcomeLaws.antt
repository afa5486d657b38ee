-- The outcome of a run after its items are read.
use Rattle.std.proofs.Common.{◌≡◌, ℕ, List, Option, Some, None, Result, Ok, Err, String, Vec, IsUtf8, string_bytes, subst, inl, inr}
use Rattle.std.specs.Option.{IfSome}
use Rattle.std.specs.Result.{IfErr, IfOk}
use Rattle.std.specs.declared.alloc.Global.{Global}
use Rattle.std.proofs.lemmas.Str.{IsUtf8-string_bytes}
use Rattle.h5_commands.specs.Outcome.{ComesBy}
use Rattle.h5_commands.specs.Printed.{FragmentPrints, HtmlPrints, TreePrints}
use Rattle.h5_commands.specs.Words.{Fragment, Html, Tree}
use Rattle.h5_commands.specs.declared.fault.Fault.{Fault}
use Rattle.h5_commands.specs.declared.fault.Fault.TheVariants.{Memory}

-- an input that was read is text, and facts about the text are facts about the input
is_text : (P : List ℕ → Type 0) (known : Option (List ℕ)) (text : String Global) → IfSome known (λ bytes. string_bytes text ≡ bytes) → P (string_bytes text) → IfSome known (λ bytes. IsUtf8 bytes × P bytes)
is_text P None text h p = tt
is_text P (Some bytes) text h p = subst (λ b. IsUtf8 b × P b) h (IsUtf8-string_bytes text, p)

-- building from a text has only one error
pub tree_comes : (known : Option (List ℕ)) (text : String Global) (built : Result (Vec ℕ Global) Fault) → IfSome known (λ bytes. string_bytes text ≡ bytes) → IfOk built (λ output. TreePrints (string_bytes text) output.items) → IfErr built (λ fault. fault ≡ Memory) → ComesBy (Some Tree) known built
tree_comes known text (Ok output) h p e = is_text (λ b. TreePrints b output.items) known text h p
tree_comes known text (Err fault) h p e = inl (inr e)

pub html_comes : (known : Option (List ℕ)) (text : String Global) (built : Result (Vec ℕ Global) Fault) → IfSome known (λ bytes. string_bytes text ≡ bytes) → IfOk built (λ output. HtmlPrints (string_bytes text) output.items) → IfErr built (λ fault. fault ≡ Memory) → ComesBy (Some Html) known built
html_comes known text (Ok output) h p e = is_text (λ b. HtmlPrints b output.items) known text h p
html_comes known text (Err fault) h p e = inl (inr e)

pub fragment_comes : (context : List ℕ) (known : Option (List ℕ)) (text : String Global) (built : Result (Vec ℕ Global) Fault) → IfSome known (λ bytes. string_bytes text ≡ bytes) → IfOk built (λ output. FragmentPrints context (string_bytes text) output.items) → IfErr built (λ fault. fault ≡ Memory) → ComesBy (Some (Fragment context)) known built
fragment_comes context known text (Ok output) h p e = is_text (λ b. FragmentPrints context b output.items) known text h p
fragment_comes context known text (Err fault) h p e = inl (inr e)
