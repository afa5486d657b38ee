use Rattle.std.proofs.Common.{All, ◌≡◌, ◌∙◌, ◌++◌, ap, length, subst, sym}
use Rattle.std.proofs.lemmas.List.{map-append}
use Rattle.std.proofs.lemmas.List.Elements.{All-append}
use Rattle.h5_interface.specs.Forest.{children_of}
use Rattle.h5_interface.specs.Seen.{child_of}
use Rattle.h5_arena.specs.ArenaModel.{forest_seen, place, seen_of}
use Rattle.h5_edit.specs.Editing.{with_children}
use Rattle.h5_edit.specs.Moving.{IsWithin, passed}
use Rattle.h5_edit.proofs.edit.prepend.Goals as goal

pub set_children-requires-clause-children : goal.set_children-requires-clause-children
set_children-requires-clause-children c =
    let count = length c.args.arena.now.nodes in
    let first = c.in_ok-children.children.items in
    let last = c.in_ok-last.last.items in
    let items : c.append.new.self.items ≡ first ++ last = c.in_ok-append.ensures.items in
    subst (λ xs. All (IsWithin count) xs) (sym (ap passed items ∙ map-append (child_of place) first last))
    (All-append (IsWithin count) (passed first) (passed last) c.in_ok-children.ensures.within c.in_ok-last.ensures.within)

pub returns-clause-ok : goal.returns-clause-ok
returns-clause-ok c =
    let n = c.args.id.index in
    let s = seen_of c.args.arena.now in
    let first = c.in_ok-children.children.items in
    let last = c.in_ok-last.last.items in
    let items : c.append.new.self.items ≡ first ++ last = c.in_ok-append.ensures.items in
    c.in_ok-set_children.ensures.ok
    ∙ ap (λ xs. with_children n (passed xs) s) items
    ∙ ap (λ xs. with_children n xs s) (map-append (child_of place) first last)
    ∙ ap (λ xs. with_children n (xs ++ passed last) s) c.in_ok-children.ensures.children
    ∙ ap (λ xs. with_children n (children_of (forest_seen c.args.arena.now) c.args.from.index ++ xs) s) c.in_ok-last.ensures.children
