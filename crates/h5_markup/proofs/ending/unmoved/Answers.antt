use Rattle.std.proofs.Common.{eqb}
use Rattle.h5_markup.specs.Cuts.{is_in}
use Rattle.h5_markup.specs.declared.cut.Class.TheVariants.{NameEnd, AttributeNameEnd, ValueEnd}
use Rattle.h5_markup.specs.declared.ending.Inside.TheVariants.{Comment, Doctype, TagName, AttributeName, AttributeValueDoubleQuoted, AttributeValueSingleQuoted, AttributeValueUnquoted}
use Rattle.h5_markup.proofs.Staying.{walk_stays, in_comment, in_doctype, in_tag_name, in_attribute_name, in_double_quotes, in_single_quotes, in_unquoted}
use Rattle.h5_markup.proofs.ending.unmoved.Goals as goal

pub returns-in-Comment-clause-walked : goal.returns-in-Comment-clause-walked
returns-in-Comment-clause-walked c = rw c.in-Comment.is (walk_stays Comment (λ x. eqb x 45) c.args.bytes.now c.first_byte.result in_comment c.first_byte.ensures.passed)

pub returns-in-Doctype-clause-walked : goal.returns-in-Doctype-clause-walked
returns-in-Doctype-clause-walked c = rw c.in-Doctype.is (walk_stays Doctype (λ x. eqb x 62) c.args.bytes.now c.first_byte-in-Doctype.result in_doctype c.first_byte-in-Doctype.ensures.passed)

pub returns-in-TagName-clause-walked : goal.returns-in-TagName-clause-walked
returns-in-TagName-clause-walked c = rw c.in-TagName.is (walk_stays TagName (is_in NameEnd) c.args.bytes.now c.first_index.result in_tag_name c.first_index.ensures.passed)

pub returns-in-AttributeName-clause-walked : goal.returns-in-AttributeName-clause-walked
returns-in-AttributeName-clause-walked c = rw c.in-AttributeName.is (walk_stays AttributeName (is_in AttributeNameEnd) c.args.bytes.now c.first_index-in-AttributeName.result in_attribute_name c.first_index-in-AttributeName.ensures.passed)

pub returns-in-AttributeValueDoubleQuoted-clause-walked : goal.returns-in-AttributeValueDoubleQuoted-clause-walked
returns-in-AttributeValueDoubleQuoted-clause-walked c = rw c.in-AttributeValueDoubleQuoted.is (walk_stays AttributeValueDoubleQuoted (λ x. eqb x 34) c.args.bytes.now c.first_byte-in-AttributeValueDoubleQuoted.result in_double_quotes c.first_byte-in-AttributeValueDoubleQuoted.ensures.passed)

pub returns-in-AttributeValueSingleQuoted-clause-walked : goal.returns-in-AttributeValueSingleQuoted-clause-walked
returns-in-AttributeValueSingleQuoted-clause-walked c = rw c.in-AttributeValueSingleQuoted.is (walk_stays AttributeValueSingleQuoted (λ x. eqb x 39) c.args.bytes.now c.first_byte-in-AttributeValueSingleQuoted.result in_single_quotes c.first_byte-in-AttributeValueSingleQuoted.ensures.passed)

pub returns-in-AttributeValueUnquoted-clause-walked : goal.returns-in-AttributeValueUnquoted-clause-walked
returns-in-AttributeValueUnquoted-clause-walked c = rw c.in-AttributeValueUnquoted.is (walk_stays AttributeValueUnquoted (is_in ValueEnd) c.args.bytes.now c.first_index-in-AttributeValueUnquoted.result in_unquoted c.first_index-in-AttributeValueUnquoted.ensures.passed)
