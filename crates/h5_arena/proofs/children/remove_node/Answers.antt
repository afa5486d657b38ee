use Rattle.std.proofs.Common.{◌∙◌, ap, sym}
use Rattle.h5_interface.specs.Changes.{joined}
use Rattle.h5_arena.specs.ArenaModel.{child_views}
use Rattle.h5_arena.proofs.ChildTexts.{apart_removed, without-remove}
use Rattle.h5_arena.proofs.ChildViews.{remove_view}
use Rattle.h5_arena.proofs.children.remove_node.Goals as goal

pub returns-then-has_texts_around-clause-ok : goal.returns-then-has_texts_around-clause-ok
returns-then-has_texts_around-clause-ok c =
    c.in_ok-remove_between.ensures.ok ∙ ap joined (sym (without-remove c.args.id.index (child_views c.args.children.now.items) c.place_of-at.result (rw c.as_slice.ensures.value at c.place_of-at.ensures.found) c.requires.once))

pub returns-clause-ok : goal.returns-clause-ok
returns-clause-ok c =
    ap child_views c.remove.ensures.items ∙ remove_view c.args.children.now.items c.place_of-at.result
    ∙ sym (apart_removed (child_views c.args.children.now.items) c.place_of-at.result c.args.id.index c.requires.parted (rw c.as_slice.ensures.value at c.place_of-at.ensures.found) c.requires.once
    (rw c.as_slice-2.ensures.value at (sym c.has_texts_around.ensures ∙ c.if-has_texts_around.false)))
