use Rattle.std.proofs.Common.{◌≡◌, [], ◌++◌, map, ap, sym, ◌∙◌}
use Rattle.std.specs.Char.{to_ascii_lowercase}
use Rattle.h5_tokenizer_states.proofs.NameLaws.{name_is_lowered}
use Rattle.h5_tokenizer_states.proofs.open_name.OpenName.push_run.Goals as goal

pub returns : goal.returns
returns c =
    let none : c.args.self.now ≡ [] = c.is_empty.ensures c.if-not-is_empty.false in
    c.in_ok-name.ensures ∙ name_is_lowered c.args.run.now c.requires ∙ ap (λ l. l ++ map to_ascii_lowercase c.args.run.now) (sym none)
