use Rattle.std.proofs.Common.{[], ap, map, sym, take, ◌++◌, ◌+◌, ◌∙◌, ◌∷◌, ◌≡◌}
use Rattle.std.proofs.lemmas.List.{map-append, take_more}
use Rattle.h5_names.specs.KnownNames.{name_text}
use Rattle.h5_builder_spec.specs.World.{names_of}
use Rattle.h5_builder_spec.specs.stack.Closing.{is_html_among}
use Rattle.h5_builder_state.specs.Newest.{newer_of, newest_where}
use Rattle.h5_builder_state.specs.View.{world}
use Rattle.h5_builder_state.proofs.NewestLaws.{newest_among_more, newest_among_none}
use Rattle.h5_builder_state.proofs.newest.newest_among.Goals as goal

pub loop-known-init : goal.loop-known-init
loop-known-init g c = sym (newest_among_none (names_of (world g.S.TreeSink.sees g.S.TreeSink.node c.args.sink.now c.args.state.now)))

pub loop-known-preserved : goal.loop-known-preserved
loop-known-preserved g c =
    let all = names_of (world g.S.TreeSink.sees g.S.TreeSink.node c.args.sink.now c.args.state.now) in
    let known = c.args.names.now in
    let index = c.loop-known.known-index in
    let before = map name_text (take index known) in
    let more : map name_text (take (index + 1) known) ≡ before ++ c.from_known.result ∷ [] =
    ap (map name_text) (take_more known index _ c.loop-known-test.true) ∙ map-append name_text (take index known) (_ ∷ []) ∙ ap (λ l. before ++ l ∷ []) (sym c.from_known.ensures) in
    c.newer-newest.ensures
    ∙ ap (λ z. newer_of z c.newest_named-named.result) c.loop-known.invariant
    ∙ ap (newer_of (newest_where (is_html_among before) all)) c.newest_named-named.ensures
    ∙ sym (newest_among_more before (map name_text (take (index + 1) known)) c.from_known.result all more)
