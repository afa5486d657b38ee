use Rattle.std.proofs.Common.{◌∙◌, ap, reverse, slice_index, subst, sym}
use Rattle.h5_names.specs.declared.known_slots.TheConstants.{SHORT_NUMBERS}
use Rattle.h5_names.specs.KnownNames.{nth_name}
use Rattle.h5_names.specs.ShortNames.{AreBytes, key_of, short_slot}
use Rattle.h5_names.proofs.ShortNameLemmas.{by_key, no_key}
use Rattle.h5_names.proofs.known_slots.short_name.Goals as goal

pub returns-then-key_of_name-key : goal.returns-then-key_of_name-key
returns-then-key_of_name-key c =
    by_key c.name_of_number-known.result c.args.text.now
    (subst (λ l. AreBytes (reverse l)) c.as_bytes.ensures.value c.key_of-key.ensures.bytes)
    (sym c.key_of_name.ensures ∙ c.if-key_of_name-key.true ∙ c.key_of-key.ensures.value ∙ ap key_of c.as_bytes.ensures.value)

pub returns-else-key_of_name-key : goal.returns-else-key_of_name-key
returns-else-key_of_name-key c =
    let key = c.key_of-key.ensures.value ∙ ap key_of c.as_bytes.ensures.value in
    no_key c.args.text.now c.name_of_number-known.result c.requires
    (c.name_of_number-known.ensures ∙ ap (λ n. nth_name (slice_index SHORT_NUMBERS n)) (c.short_slot.ensures.value ∙ ap short_slot key))
    (λ h. c.if-key_of_name-key.false (c.key_of_name.ensures ∙ h ∙ sym key))
