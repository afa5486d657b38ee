use Rattle.std.proofs.Common.{◌+◌, ap, arith, get_or, set, subst, sym, ◌∙◌}
use Rattle.std.proofs.lemmas.List.{set-get_or}
use Rattle.h5_builder_state.specs.Items.{links_of, numbers_of}
use Rattle.h5_builder_state.specs.Numbered.{numbers}
use Rattle.h5_builder_state.specs.Replacing.{IsNextNewer, links_with, table_with}
use Rattle.h5_builder_state.proofs.ItemLaws.{length-links, length-numbers_of, link_at, links_of-set, number_at, numbers_of-set, reached_at, stack_of-set_over}
use Rattle.h5_builder_state.proofs.ReplaceLaws.{placed_replaced}
use Rattle.h5_builder_state.proofs.places.renumber.Goals as goal

pub next_newer-above_former-requires-clause-reached : goal.next_newer-above_former-requires-clause-reached
next_newer-above_former-requires-clause-reached g c = reached_at c.args.items.now.items c.args.table.now.items c.args.place c.index.result.now c.requires.place c.index.ensures c.requires.placed.reached

pub set_older-requires-clause-reached : goal.set_older-requires-clause-reached
set_older-requires-clause-reached g c = reached_at c.args.items.now.items c.args.table.now.items c.args.place c.index.result.now c.requires.place c.index.ensures c.requires.placed.reached

pub returns-then-number-former-clause-others : goal.returns-then-number-former-clause-others
returns-then-number-former-clause-others g c = λ one.
    stack_of-set_over c.args.items.now.items c.set_older-then-number-former.new.items.items c.args.place _ one (c.set_older-then-number-former.ensures.same ∙ c.set_older.ensures.same)

pub returns-then-number-former-clause-numbers : goal.returns-then-number-former-clause-numbers
returns-then-number-former-clause-numbers g c =
    numbers_of-set c.set_older-then-number-former.new.items.items c.args.place _ ∙ ap (λ s. set (numbers s) c.args.place c.args.number) (c.set_older-then-number-former.ensures.same ∙ c.set_older.ensures.same)

pub returns-then-number-former-clause-placed : goal.returns-then-number-former-clause-placed
returns-then-number-former-clause-placed g c =
    let items = c.args.items.now.items in
    let table = c.args.table.now.items in
    let place = c.args.place in
    let above_former = c.next_newer-above_former.result in
    let above = c.next_newer-above.result in
    let former = number_at items place c.index.result.now c.requires.place c.index.ensures in
    let older = link_at items place c.index-2.result.now c.requires.place c.index-2.ensures in
    placed_replaced (numbers_of items) (links_of items) table place c.args.number above_former above (omega (arith, c.requires.place, length-numbers_of items))
    (length-links items ∙ sym (length-numbers_of items)) (λ e. c.if-number-former.true (e ∙ sym former)) c.requires.reached c.requires.placed
    (subst (λ n. IsNextNewer n place (numbers_of items) above_former) former c.next_newer-above_former.ensures) c.next_newer-above.ensures _ _ _
    (numbers_of-set c.set_older-then-number-former.new.items.items place _ ∙ ap (λ s. set (numbers s) place c.args.number) (c.set_older-then-number-former.ensures.same ∙ c.set_older.ensures.same))
    (links_of-set c.set_older-then-number-former.new.items.items place _ ∙ ap (λ l. set l place c.older_of-below.result) (c.set_older-then-number-former.ensures.links ∙ ap (links_with above (place + 1)) (c.set_older.ensures.links ∙ ap (λ v. links_with above_former v (links_of items)) older))
    ∙ ap (set (links_with above (place + 1) (links_with above_former (get_or (links_of items) place 0) (links_of items))) place) c.older_of-below.ensures)
    (c.set_older-then-number-former.ensures.table ∙ ap (table_with above c.args.number (place + 1)) (c.set_older.ensures.table ∙ ap (λ n. table_with above_former n c.index-2.result.now.older table) former ∙ ap (λ v. table_with above_former (get_or (numbers_of items) place 0) v table) older))

pub returns-else-number-former-clause-numbers : goal.returns-else-number-former-clause-numbers
returns-else-number-former-clause-numbers g c =
    sym (ap (set (numbers_of c.args.items.now.items) c.args.place) (c.if-number-former.false ∙ number_at c.args.items.now.items c.args.place c.index.result.now c.requires.place c.index.ensures)
    ∙ set-get_or (numbers_of c.args.items.now.items) c.args.place 0)
