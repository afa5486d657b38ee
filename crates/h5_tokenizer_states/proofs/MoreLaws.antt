-- A machine takes bytes, and then more.
use Rattle.std.proofs.Common.{ℕ, List, ◌++◌, ap, ◌∙◌, append_assoc}
use Rattle.h5_tokenizer_spec.specs.ReferenceTable.{references}
use Rattle.h5_tokenizer_spec.proofs.ReadLaws.{passes_join}
use Rattle.h5_tokenizer_states.specs.MachineText.{MachineText, PassesRun}

pub took_more : {m n o : MachineText} {xs ys zs old mid new : List ℕ} → PassesRun m xs old mid n ys → PassesRun n ys mid new o zs → PassesRun m xs old new o zs
took_more {old} a b = record {
  text = a.text ++ b.text;
  passes = passes_join references a.passes b.passes;
  put = b.put ∙ ap (λ l. l ++ b.text) a.put ∙ append_assoc old a.text b.text;
}
