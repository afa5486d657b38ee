use Rattle.std.proofs.Common.{◌++◌, true, [], rules}
use Rattle.h5_arena.specs.ArenaModel.{arena_choices, new_arena, place, seen_of}
use Rattle.h5_tree_builder.specs.Held.{building}
use Rattle.h5_driver.specs.Options.{default_options}
use Rattle.h5_driver.specs.Reading.{Parses}
use Rattle.h5_driver.specs.StandardReader.{Reads, first}
use Rattle.h5_driver.proofs.OneTree.{fragment_parsed}
use Rattle.h5_clean.specs.Cleaned.{div}
use Rattle.h5_clean.proofs.cleaning.tree_of.Goals as goal

pub returns-in-Ok : goal.returns-in-Ok
returns-in-Ok c =
    let parser = c.in_ok-parser.parser in
    let told = seen_of c.in-Ok.arena in
    let text = c.args.html.now in
    let building = building seen_of place parser.tokenizer.sink in
    let parsed : Parses (Reads arena_choices) arena_choices parser.tokenizer.reader building.view (parser.waiting ++ text) told = search rules in
    fragment_parsed (Reads arena_choices) first arena_choices (seen_of new_arena) default_options div [] true parser.tokenizer.reader building parser.waiting text told c.in_ok-parser.ensures.builder c.in_ok-parser.ensures.reader c.in_ok-parser.ensures.waiting parsed
