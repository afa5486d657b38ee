use Rattle.std.proofs.Common.{◌≡◌, ◌++◌, true, [], refl, rules}
use Rattle.h5_arena.specs.ArenaModel.{arena_choices, new_arena, place, seen_of}
use Rattle.h5_tree_builder.specs.Held.{building}
use Rattle.h5_driver.specs.Options.{default_options}
use Rattle.h5_driver.specs.Parsing.{Parses, view_of}
use Rattle.h5_driver.proofs.OneTree.{fragment_parsed}
use Rattle.h5_commands.specs.Printed.{html_name}
use Rattle.h5_commands.proofs.build.parse_in.Goals as goal

pub returns-clause-parsed : goal.returns-clause-parsed
returns-clause-parsed c =
    let parser = c.in_ok-parser.parser in
    let told = seen_of c.in_ok-tree.tree in
    let text = c.args.text.now in
    let xs = (parser.reader.held ++ parser.waiting) ++ text in
    let same : xs ≡ text = rw (c.in_ok-parser.ensures.held, c.in_ok-parser.ensures.waiting) refl in
    let parsed : Parses arena_choices parser.reader.place (view_of seen_of place parser) xs told = search rules in
    fragment_parsed arena_choices (seen_of new_arena) default_options (html_name c.args.context.now) [] true (building seen_of place parser.builder) parser.reader.place xs text told c.in_ok-parser.ensures.builder c.in_ok-parser.ensures.begins same parsed
