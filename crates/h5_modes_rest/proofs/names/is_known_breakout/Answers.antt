use Rattle.std.proofs.Common.{[], ◌∷◌, refl, sym}
use Rattle.h5_names.specs.declared.known_name.KnownName.TheVariants.{B, Big, Blockquote, Body, Br, Center, Code, Dd, Div, Dl, Dt, Em, Embed, H1, H2, H3, H4, H5, H6, Head, Hr, I, Img, Li, Listing, Menu, Meta, Nobr, Ol, P, Pre, Ruby, S, Small, Span, Strike, Strong, Sub, Sup, Table, Tt, U, Ul, Var}
use Rattle.h5_builder_spec.specs.modes.ForeignContent.{foreign_breakout_names}
use Rattle.h5_modes_head.proofs.DefaultLaws.{any_apart}
use Rattle.h5_modes_head.proofs.ArmLaws.{among_of}
use Rattle.h5_modes_rest.proofs.names.is_known_breakout.Goals as goal

pub returns-in_default : goal.returns-in_default
unfolding foreign_breakout_names
returns-in_default c =
    let no = c.in_default in
    sym (any_apart c.args.known (B ∷ Big ∷ Blockquote ∷ Body ∷ Br ∷ Center ∷ Code ∷ Dd ∷ Div ∷ Dl ∷ Dt ∷ Em ∷ Embed ∷ H1 ∷ H2 ∷ H3 ∷ H4 ∷ H5 ∷ H6 ∷ Head ∷ Hr ∷ I ∷ Img ∷ Li ∷ Listing ∷ Menu ∷ Meta ∷ Nobr ∷ Ol ∷ P ∷ Pre ∷ Ruby ∷ S ∷ Small ∷ Span ∷ Strong ∷ Strike ∷ Sub ∷ Sup ∷ Table ∷ Tt ∷ U ∷ Ul ∷ Var ∷ []) (no.not-B, (no.not-Big, (no.not-Blockquote, (no.not-Body, (no.not-Br, (no.not-Center, (no.not-Code, (no.not-Dd, (no.not-Div, (no.not-Dl, (no.not-Dt, (no.not-Em, (no.not-Embed, (no.not-H1, (no.not-H2, (no.not-H3, (no.not-H4, (no.not-H5, (no.not-H6, (no.not-Head, (no.not-Hr, (no.not-I, (no.not-Img, (no.not-Li, (no.not-Listing, (no.not-Menu, (no.not-Meta, (no.not-Nobr, (no.not-Ol, (no.not-P, (no.not-Pre, (no.not-Ruby, (no.not-S, (no.not-Small, (no.not-Span, (no.not-Strong, (no.not-Strike, (no.not-Sub, (no.not-Sup, (no.not-Table, (no.not-Tt, (no.not-U, (no.not-Ul, (no.not-Var, tt)))))))))))))))))))))))))))))))))))))))))))))

pub returns-in-B : goal.returns-in-B
unfolding foreign_breakout_names
returns-in-B c = sym (among_of foreign_breakout_names c.args.known B (Big ∷ Blockquote ∷ Body ∷ Br ∷ Center ∷ Code ∷ Dd ∷ Div ∷ Dl ∷ Dt ∷ Em ∷ Embed ∷ H1 ∷ H2 ∷ H3 ∷ H4 ∷ H5 ∷ H6 ∷ Head ∷ Hr ∷ I ∷ []) c.in-B.is (refl, (refl, (refl, (refl, (refl, (refl, (refl, (refl, (refl, (refl, (refl, (refl, (refl, (refl, (refl, (refl, (refl, (refl, (refl, (refl, (refl, (refl, tt)))))))))))))))))))))))

pub returns-in-Img : goal.returns-in-Img
unfolding foreign_breakout_names
returns-in-Img c = sym (among_of foreign_breakout_names c.args.known Img (Li ∷ Listing ∷ Menu ∷ Meta ∷ Nobr ∷ Ol ∷ P ∷ Pre ∷ Ruby ∷ S ∷ Small ∷ Span ∷ Strong ∷ Strike ∷ Sub ∷ Sup ∷ Table ∷ Tt ∷ U ∷ Ul ∷ Var ∷ []) c.in-Img.is (refl, (refl, (refl, (refl, (refl, (refl, (refl, (refl, (refl, (refl, (refl, (refl, (refl, (refl, (refl, (refl, (refl, (refl, (refl, (refl, (refl, (refl, tt)))))))))))))))))))))))
