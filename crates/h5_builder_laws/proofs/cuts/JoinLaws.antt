-- One list of tokens after another, and lists whose joins agree.
use Rattle.std.proofs.Common.{◌≡◌, List, [], ◌∷◌, ◌++◌, refl, ap, sym, ◌∙◌}
use Rattle.h5_token.specs.Joins.{join}
use Rattle.h5_token.specs.TokenText.{TokenText}
use Rattle.h5_interface.specs.SinkChoices.{SinkChoices}
use Rattle.h5_builder_spec.specs.inner.Kept.{IsFitting}
use Rattle.h5_builder_spec.specs.Run.{Told, View, after_all, after_token, replies, replies_in, run, told_all, told_of}
use Rattle.h5_builder_laws.proofs.cuts.RunLaws.{cuts_agree}

pub view_joins : (choices : SinkChoices) (ts us : List TokenText) (v : View) → after_all choices (ts ++ us) v ≡ after_all choices us (after_all choices ts v)
unfolding run
view_joins choices [] us v = refl
view_joins choices (t ∷ ts) us v = view_joins choices ts us (after_token choices t v)

pub told_joins : (choices : SinkChoices) (ts us : List TokenText) (v : View) → told_all choices (ts ++ us) v ≡ told_all choices ts v ++ told_all choices us (after_all choices ts v)
unfolding run
told_joins choices [] us v = refl
told_joins choices (t ∷ ts) us v = ap (λ xs. told_of choices t v ∷ xs) (told_joins choices ts us (after_token choices t v))

replies_append : (xs ys : List Told) → replies_in (xs ++ ys) ≡ replies_in xs ++ replies_in ys
replies_append [] ys = refl
replies_append (x ∷ xs) ys = ap (λ rs. x.reply ∷ rs) (replies_append xs ys)

pub replies_join : (choices : SinkChoices) (ts us : List TokenText) (v : View) → replies choices (ts ++ us) v ≡ replies choices ts v ++ replies choices us (after_all choices ts v)
replies_join choices ts us v = ap replies_in (told_joins choices ts us v) ∙ replies_append (told_all choices ts v) (told_all choices us (after_all choices ts v))

pub equal_joins : (choices : SinkChoices) (ts us : List TokenText) (v : View) → IsFitting v → join ts ≡ join us → after_all choices ts v ≡ after_all choices us v
equal_joins choices ts us v k e = (cuts_agree choices ts v k).views ∙ ap (λ xs. after_all choices xs v) e ∙ sym (cuts_agree choices us v k).views
