use Rattle.std.proofs.Common.{◌≡◌, ◌<◌, ◌∙◌, ap, length, drop, get_or, arith, true}
use Rattle.h5_markup.specs.Ending.{ends}
use Rattle.h5_markup.proofs.Endings.{sought_open, sought_end, boundary_at_end, boundary_behind}
use Rattle.h5_markup.proofs.ending.seek_end.Goals as goal
use Rattle.h5_markup.proofs.ending.seek_end.Goals.{Else-n-unread}

unread : (c : Else-n-unread) → c.split_at.result.1.now ≡ drop c.args.from c.args.text.now
unread c = c.split_at.ensures.back ∙ ap (drop c.args.from) c.as_bytes-bytes.ensures.value

inside : (c : Else-n-unread) → c.find_end-n.result.0 < length c.split_at.result.1.now
inside c = omega (arith, c.find_end-n.ensures.within, c.if-n-unread.false)

ended : (c : Else-n-unread) → ends c.find_end-n.result.1 (get_or (drop c.args.from c.args.text.now) c.find_end-n.result.0 0) ≡ true
ended c = rw (unread c) at (c.find_end-n.ensures.ended (inside c))

pub split_at-requires-2 : goal.split_at-requires-2
split_at-requires-2 c =
    boundary_at_end c.find_end-n.result.1 c.args.text.now c.args.from c.find_end-n.result.0 (omega (arith, inside c, ap length (unread c))) (ended c)

pub split_at-requires-3 : goal.split_at-requires-3
split_at-requires-3 c =
    let b = (goal.at.split_at-requires-3 c).Else-n-unread in
    boundary_behind c.find_end-n.result.1 c.args.text.now c.split_at-2.result.1.now c.args.from c.find_end-n.result.0 c.utf8.text c.split_at-2.ensures.back (omega (arith, inside b, ap length (unread b))) (ended b)

pub returns-then-n-unread : goal.returns-then-n-unread
returns-then-n-unread c = λ start h.
    let same : c.split_at.result.1.now ≡ drop c.args.from c.args.text.now = c.split_at.ensures.back ∙ ap (drop c.args.from) c.as_bytes-bytes.ensures.value in
    sought_open start c.args.place c.find_end-n.result.1 c.args.text.now c.args.from c.find_end-n.result.0 (c.if-n-unread.true ∙ ap length same) h (rw same at c.find_end-n.ensures.walked)

pub returns : goal.returns
returns c = λ start h.
    let b = (goal.at.returns c).Else-n-unread in
    let found = sought_end start c.args.place c.find_end-n.result.1 c.args.text.now c.args.from c.find_end-n.result.0 c.requires (omega (arith, inside b, ap length (unread b))) h (rw (unread b) at c.find_end-n.ensures.walked) (ended b) in
    rw (c.split_at-2.ensures.front, c.split_at-3.ensures.back, c.split_at-2.ensures.back) found
