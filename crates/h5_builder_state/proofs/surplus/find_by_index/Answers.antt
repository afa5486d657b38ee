use Rattle.std.proofs.Common.{arith}
use Rattle.h5_token.specs.TokenText.{tag_text}
use Rattle.h5_builder_state.proofs.KeyLaws.{are_others}
use Rattle.h5_builder_state.proofs.NumberedLaws.{as_many}
use Rattle.h5_builder_state.proofs.ListWalkLaws.{is_after_markers}
use Rattle.h5_builder_state.proofs.surplus.find_by_index.Goals as goal

pub find_by_key-requires-clause-after : goal.find_by_key-requires-clause-after
find_by_key-requires-clause-after g c =
    let names = c.requires.have_names in
    is_after_markers c.args.index.now.numbers c.args.entries.now.items names c.newest-end.result c.newest-end.ensures.newest (omega (arith, c.newest-end.ensures.within, as_many c.args.index.now.numbers c.args.entries.now.items names))

pub find_by_key-requires-clause-others : goal.find_by_key-requires-clause-others
find_by_key-requires-clause-others g c =
    are_others c.args.index.now.key_numbers c.args.index.now.keys c.args.entries.now.items c.requires.have_keys (tag_text c.args.tag.now) c.in-Ok.number c.in-Ok.ensures

pub find_among_all-requires : goal.find_among_all-requires
find_among_all-requires g c =
    let names = c.requires.have_names in
    is_after_markers c.args.index.now.numbers c.args.entries.now.items names c.newest-end.result c.newest-end.ensures.newest (omega (arith, c.newest-end.ensures.within, as_many c.args.index.now.numbers c.args.entries.now.items names))
