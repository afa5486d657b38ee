-- The default options.
use Rattle.std.specs.Prelude.{Bool}
use Rattle.h5_tables.specs.Options.{default_options as of_builder}
use Rattle.h5_tokenizer_input.specs.Options.{default_options as of_reader}
use Rattle.h5_builder_laws.specs.Rebuilding.{with_scripting}
use Rattle.h5_driver.specs.declared.options.ParseOpts.{ParseOpts}

abbrev pub default_options : ParseOpts
default_options = record { tokenizer = of_reader; tree_builder = of_builder }

-- the default options, with or without scripting
abbrev pub options_with : (scripting_enabled : Bool) → ParseOpts
options_with scripting_enabled = record default_options { tree_builder = with_scripting scripting_enabled }
