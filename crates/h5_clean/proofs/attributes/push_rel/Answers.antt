use Rattle.std.proofs.Common.{[], ◌++◌, None, codes, ap, ap₂, sym, ◌∙◌}
use Rattle.std.proofs.lemmas.Bool.{cond-true}
use Rattle.std.proofs.lemmas.Str.{is_utf8-from_IsUtf8}
use Rattle.std.specs.Str.{is_utf8}
use Rattle.h5_names.specs.AttributeText.{attribute_texts}
use Rattle.h5_clean.specs.Policies.{bare}
use Rattle.h5_clean.specs.Texts.{readable}
use Rattle.h5_clean.proofs.AttributeLaws.{put_last}
use Rattle.h5_clean.proofs.attributes.push_rel.Goals as goal

pub returns : goal.returns
returns c =
    let value = c.args.value.now in
    let name = c.new-3.ensures ∙ ap₂ (λ n l. record { prefix = None; ns = n; local = l }) c.none.ensures c.in_ok-new.ensures.value in
    put_last c.args.left.now.items c.push.new.self.items _ (bare (codes "rel")) (readable value) c.in_ok-push.ensures.items name c.in_ok-readable.ensures
    ∙ ap (λ end. attribute_texts c.args.left.now.items ++ end) (sym (cond-true (is_utf8 value) _ [] (is_utf8-from_IsUtf8 value c.utf8.value)))
