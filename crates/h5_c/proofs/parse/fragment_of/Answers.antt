use Rattle.std.proofs.Common.{◌++◌, [], rules}
use Rattle.std.specs.Str.Lossy.{utf8_lossy}
use Rattle.html_tree_builder.specs.ArenaModel.{arena_choices, new_arena, place, seen_of}
use Rattle.html_tree_builder.specs.Held.{building}
use Rattle.html_tree_builder.specs.Reading.{Parses}
use Rattle.html_tree_builder.specs.StandardReader.{Reads, first}
use Rattle.h5_driver.proofs.OneTree.{fragment_parsed}
use Rattle.h5_c.specs.Pages.{is_scripting, options_of}
use Rattle.h5_c.proofs.parse.fragment_of.Goals as goal

pub returns-in-Ok : goal.returns-in-Ok
returns-in-Ok c =
    let parser = c.in_ok-parser.parser in
    let told = seen_of c.in-Ok.arena in
    let text = utf8_lossy c.args.page.now in
    let options = c.args.options in
    let building = building seen_of place parser.tokenizer.sink in
    let parsed : Parses (Reads arena_choices) arena_choices parser.tokenizer.reader building.view (parser.waiting ++ text) told = search rules in
    fragment_parsed (Reads arena_choices) first arena_choices (seen_of new_arena) (options_of options) c.args.context [] (is_scripting options) parser.tokenizer.reader building parser.waiting text told
    c.in_ok-parser.ensures.builder c.in_ok-parser.ensures.reader c.in_ok-parser.ensures.waiting parsed
