use Rattle.std.proofs.Common.{◌≡◌, ◌≤◌, length, get_or, sym, ap, ◌∙◌, arith}
use Rattle.std.proofs.lemmas.Option.{IfSome_then}
use Rattle.std.proofs.lemmas.Str.{IsCharBoundary-after_ascii}
use Rattle.h5_markup.proofs.bare.find_bare.Goals as goal

pub split_at-requires : goal.split_at-requires
split_at-requires c =
    let slash : get_or c.args.text.now 1 0 ≡ 47 = ap (λ l. get_or l 1 0) (sym c.as_bytes-bytes.ensures.value) ∙ c.if-bytes-eq47.true in
    let two : 2 ≤ length c.args.text.now = omega (arith, c.as_bytes-bytes.ensures.len) in
    IsCharBoundary-after_ascii c.args.text.now 1 c.utf8.text two (omega arith)

pub split_at-requires-2 : goal.split_at-requires-2
split_at-requires-2 c =
    let angle : get_or c.args.text.now 0 0 ≡ 60 = ap (λ l. get_or l 0 0) (sym c.as_bytes-bytes.ensures.value) ∙ c.if-bytes-ne60.false in
    let two : 2 ≤ length c.args.text.now = omega (arith, c.as_bytes-bytes.ensures.len) in
    IsCharBoundary-after_ascii c.args.text.now 0 c.utf8.text (omega arith) (omega arith)

pub returns-then-bytes-eq47 : goal.returns-then-bytes-eq47
returns-then-bytes-eq47 c =
    let angle : get_or c.args.text.now 0 0 ≡ 60 = ap (λ l. get_or l 0 0) (sym c.as_bytes-bytes.ensures.value) ∙ c.if-bytes-ne60.false in
    let slash : get_or c.args.text.now 1 0 ≡ 47 = ap (λ l. get_or l 1 0) (sym c.as_bytes-bytes.ensures.value) ∙ c.if-bytes-eq47.true in
    let two : 2 ≤ length c.args.text.now = omega (arith, c.as_bytes-bytes.ensures.len) in
    IfSome_then c.cut_bare.result c.cut_bare.ensures (λ tag h. rw h.0 (record { inner = c.split_at.result.1.now; opens = (omega arith, angle, slash, c.split_at.ensures.back); bare = h.1 }))

pub returns : goal.returns
returns c =
    let angle : get_or c.args.text.now 0 0 ≡ 60 = ap (λ l. get_or l 0 0) (sym c.as_bytes-bytes.ensures.value) ∙ c.if-bytes-ne60.false in
    let two : 2 ≤ length c.args.text.now = omega (arith, c.as_bytes-bytes.ensures.len) in
    IfSome_then c.cut_bare-2.result c.cut_bare-2.ensures (λ tag h. rw h.0 (record { inner = c.split_at-2.result.1.now; opens = (omega arith, angle, c.split_at-2.ensures.back); bare = h.1 }))
