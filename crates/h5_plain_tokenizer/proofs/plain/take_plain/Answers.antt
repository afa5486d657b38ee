use Rattle.std.proofs.Common.{◌++◌, string_bytes, ap, ◌∙◌}
use Rattle.h5_markup.proofs.PlainBytes.{cut_plain}
use Rattle.h5_plain_tokenizer.proofs.PlainLaws.{takes_plain}
use Rattle.h5_plain_tokenizer.proofs.plain.take_plain.Goals as goal

pub split_at-requires : goal.split_at-requires
split_at-requires c = cut_plain _ c.plain_len.result _ c.utf8.text c.requires c.plain_len.ensures.within c.plain_len.ensures.stops c.max-n.ensures

pub returns : goal.returns
returns c = λ mode last foreign is_no. takes_plain {mode = mode} {last = last} foreign _ _ _ _ c.plain_len.result c.max-n.result c.requires c.plain_len.ensures.within c.plain_len.ensures.plain c.max-n.ensures is_no (c.in_ok-push_str.ensures.bytes ∙ ap (λ l. string_bytes c.args.out.now ++ l) c.split_at.ensures.front) c.split_at.ensures.back
