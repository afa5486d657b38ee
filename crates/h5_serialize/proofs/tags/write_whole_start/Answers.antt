use Rattle.std.proofs.Common.{◌++◌, ◌∷◌, ℕ, List, [], ap, subst, ◌∙◌}
use Rattle.h5_names.proofs.KnownNameLemmas.{text_of_name}
use Rattle.h5_serialize.specs.Fronts.{Writes}
use Rattle.h5_serialize.proofs.tags.write_whole_start.Goals as goal

pub returns-in_default : goal.returns-in_default
returns-in_default g c =
    let same = text_of_name c.args.name.now c.known.result c.known.ensures c.in_default.not-Other in
    let contents = g.Wr.Write.contents in
    record {
      text = subst (λ bytes. Writes c.write_bytes.result (contents c.args.writer.now) (contents c.write_bytes.new.writer) bytes)
          (c.whole_start_of.ensures ∙ ap (λ (text : List ℕ). 60 ∷ (text ++ 62 ∷ [])) same) c.write_bytes.ensures.bytes;
      fault = c.write_bytes.ensures.fault;
    }
