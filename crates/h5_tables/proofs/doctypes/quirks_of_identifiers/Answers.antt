use Rattle.std.proofs.Common.{◌≡◌, ◌∙◌, true, false, ap, refl, sym}
use Rattle.h5_tables.specs.Doctypes.{begins_with_one, is_missing, lowered}
use Rattle.h5_tables.specs.Tables.{part_text}
use Rattle.h5_tables.proofs.DoctypeLaws.{judged, same_html4, same_limited}
use Rattle.h5_tables.proofs.doctypes.quirks_of_identifiers.Goals as goal

pub returns-then-begins_with_one : goal.returns-then-begins_with_one
returns-then-begins_with_one c =
    let p = part_text c.args.public_id in
    let quirky = sym c.are_quirky.ensures ∙ c.if-are_quirky.false in
    let limited = sym (c.begins_with_one.ensures ∙ ap (λ l. lowered (begins_with_one l) p) same_limited) ∙ c.if-begins_with_one.true in
    judged p (part_text c.args.system_id) _ (rw (quirky, limited) refl)

pub returns-in-None : goal.returns-in-None
returns-in-None c =
    let p = part_text c.args.public_id in
    let quirky = sym c.are_quirky.ensures ∙ c.if-are_quirky.false in
    let limited = sym (c.begins_with_one.ensures ∙ ap (λ l. lowered (begins_with_one l) p) same_limited) ∙ c.if-begins_with_one.false in
    let html4 = sym (c.begins_with_one-else-begins_with_one.ensures ∙ ap (λ l. lowered (begins_with_one l) p) same_html4) ∙ c.if-begins_with_one-2.true in
    let missing : is_missing (part_text c.args.system_id) ≡ true = ap (λ part. is_missing (part_text part)) c.in-None.is in
    judged p (part_text c.args.system_id) _ (rw (quirky, limited, html4, missing) refl)

pub returns-in-Some : goal.returns-in-Some
returns-in-Some c =
    let p = part_text c.args.public_id in
    let quirky = sym c.are_quirky.ensures ∙ c.if-are_quirky.false in
    let limited = sym (c.begins_with_one.ensures ∙ ap (λ l. lowered (begins_with_one l) p) same_limited) ∙ c.if-begins_with_one.false in
    let html4 = sym (c.begins_with_one-else-begins_with_one.ensures ∙ ap (λ l. lowered (begins_with_one l) p) same_html4) ∙ c.if-begins_with_one-2.true in
    let missing : is_missing (part_text c.args.system_id) ≡ false = ap (λ part. is_missing (part_text part)) c.in-Some.is in
    judged p (part_text c.args.system_id) _ (rw (quirky, limited, html4, missing) refl)

pub returns-else-begins_with_one-2 : goal.returns-else-begins_with_one-2
returns-else-begins_with_one-2 c =
    let p = part_text c.args.public_id in
    let quirky = sym c.are_quirky.ensures ∙ c.if-are_quirky.false in
    let limited = sym (c.begins_with_one.ensures ∙ ap (λ l. lowered (begins_with_one l) p) same_limited) ∙ c.if-begins_with_one.false in
    let html4 = sym (c.begins_with_one-else-begins_with_one.ensures ∙ ap (λ l. lowered (begins_with_one l) p) same_html4) ∙ c.if-begins_with_one-2.false in
    judged p (part_text c.args.system_id) _ (rw (quirky, limited, html4) refl)
