use Rattle.std.proofs.Common.{◌∙◌, ap, sym}
use Rattle.h5_tables.specs.Doctypes.{begins_with_one, is_one_text, lowered, quirky_public_ids, quirky_public_prefixes, quirky_system_ids}
use Rattle.h5_tables.specs.Tables.{part_text}
use Rattle.h5_tables.proofs.DoctypeLaws.{first_of_three, second_of_three, third_of_three, same_prefixes, same_public_ids, same_system_ids}
use Rattle.h5_tables.proofs.doctypes.are_quirky.Goals as goal

pub returns-then-is_one_of : goal.returns-then-is_one_of
returns-then-is_one_of c =
    let public = c.is_one_of.ensures ∙ ap (λ ids. lowered (is_one_text ids) (part_text c.args.public_id)) same_public_ids in
    c.if-is_one_of.true ∙ first_of_three (lowered (is_one_text quirky_public_ids) (part_text c.args.public_id)) (lowered (is_one_text quirky_system_ids) (part_text c.args.system_id)) (lowered (begins_with_one quirky_public_prefixes) (part_text c.args.public_id)) (sym public ∙ c.if-is_one_of.true)

pub returns-then-is_one_of-2 : goal.returns-then-is_one_of-2
returns-then-is_one_of-2 c =
    let public = c.is_one_of.ensures ∙ ap (λ ids. lowered (is_one_text ids) (part_text c.args.public_id)) same_public_ids in
    let system = c.is_one_of-else-is_one_of.ensures ∙ ap (λ ids. lowered (is_one_text ids) (part_text c.args.system_id)) same_system_ids in
    c.if-is_one_of-2.true ∙ second_of_three (lowered (is_one_text quirky_public_ids) (part_text c.args.public_id)) (lowered (is_one_text quirky_system_ids) (part_text c.args.system_id)) (lowered (begins_with_one quirky_public_prefixes) (part_text c.args.public_id)) (sym public ∙ c.if-is_one_of.false) (sym system ∙ c.if-is_one_of-2.true)

pub returns-else-is_one_of-2 : goal.returns-else-is_one_of-2
returns-else-is_one_of-2 c =
    let public = c.is_one_of.ensures ∙ ap (λ ids. lowered (is_one_text ids) (part_text c.args.public_id)) same_public_ids in
    let system = c.is_one_of-else-is_one_of.ensures ∙ ap (λ ids. lowered (is_one_text ids) (part_text c.args.system_id)) same_system_ids in
    let begun = c.begins_with_one.ensures ∙ ap (λ prefixes. lowered (begins_with_one prefixes) (part_text c.args.public_id)) same_prefixes in
    third_of_three _ (lowered (is_one_text quirky_public_ids) (part_text c.args.public_id)) (lowered (is_one_text quirky_system_ids) (part_text c.args.system_id)) (lowered (begins_with_one quirky_public_prefixes) (part_text c.args.public_id)) (sym public ∙ c.if-is_one_of.false) (sym system ∙ c.if-is_one_of-2.false) begun
