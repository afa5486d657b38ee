use Rattle.std.proofs.Common.{[], ◌∷◌}
use Rattle.h5_names.specs.declared.known_name.KnownName.TheVariants.{Iframe, Noembed, Noframes, Noscript, Plaintext, Script, Style, Textarea, Title, Xmp}
use Rattle.h5_names.specs.KnownNames.{name_text}
use Rattle.h5_modes_head.proofs.DefaultLaws.{any_apart, only_apart}
use Rattle.h5_tree_builder.specs.Fragment.{rawtext_context_names, rcdata_context_names}
use Rattle.h5_tree_builder.proofs.FragmentLaws.{state_of_no_name}
use Rattle.h5_tree_builder.proofs.fragment.state_of_known.Goals as goal

pub returns-in_default : goal.returns-in_default
unfolding rcdata_context_names rawtext_context_names
returns-in_default c =
    let known = c.args.known in
    let no = c.in_default in
    state_of_no_name c.args.scripting (name_text known)
    (any_apart known (Title ∷ Textarea ∷ []) (no.not-Title, (no.not-Textarea, tt)))
    (any_apart known (Style ∷ Xmp ∷ Iframe ∷ Noembed ∷ Noframes ∷ []) (no.not-Style, (no.not-Xmp, (no.not-Iframe, (no.not-Noembed, (no.not-Noframes, tt))))))
    (only_apart known Script no.not-Script)
    (only_apart known Noscript no.not-Noscript)
    (only_apart known Plaintext no.not-Plaintext)
