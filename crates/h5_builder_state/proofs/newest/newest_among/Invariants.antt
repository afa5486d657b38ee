use Rattle.std.proofs.Common.{◌≡◌, map, take}
use Rattle.h5_names.specs.KnownNames.{name_text}
use Rattle.h5_builder_spec.specs.World.{names_of}
use Rattle.h5_builder_spec.specs.stack.Closing.{is_html_among}
use Rattle.h5_builder_state.specs.Newest.{newest_where}
use Rattle.h5_builder_state.specs.View.{world}
use Rattle.h5_builder_state.proofs.newest.newest_among.Given as goal

-- the newest of the names so far
abbrev pub invariant-loop-known : goal.invariant-loop-known
invariant-loop-known g l =
    l.newest ≡ newest_where (is_html_among (map name_text (take l.known-index l.names))) (names_of (world g.S.TreeSink.sees g.S.TreeSink.node l.sink l.state))
