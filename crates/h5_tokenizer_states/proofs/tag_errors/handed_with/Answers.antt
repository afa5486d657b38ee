use Rattle.h5_tokenizer_states.proofs.TagErrorLaws.{handed_as}
use Rattle.h5_tokenizer_states.proofs.tag_errors.handed_with.Goals as goal

pub returns : goal.returns
returns c =
    handed_as c.args.first c.only_both-second.result c.only_both-third.result c.args.tag.now c.args.closes_itself c.is_end-is_end.result c.has_attributes-has_attributes.result
    c.is_end-is_end.ensures c.has_attributes-has_attributes.ensures c.only_both-second.ensures c.only_both-third.ensures
