-- The default options.
use Rattle.std.specs.Prelude.{true, false}
use Rattle.h5_interface.specs.declared.marks.QuirksMode.TheVariants.{NoQuirks}
use Rattle.h5_tables.specs.declared.options.TreeBuilderOpts.{TreeBuilderOpts}

abbrev pub default_options : TreeBuilderOpts
default_options = record {
  exact_errors = false;
  scripting_enabled = true;
  iframe_srcdoc = false;
  drop_doctype = false;
  quirks_mode = NoQuirks;
}
