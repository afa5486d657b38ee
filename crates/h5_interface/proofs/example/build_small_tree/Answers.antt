use Rattle.std.proofs.Common.{string_bytes}
use Rattle.h5_names.specs.AttributeText.{attribute_texts}
use Rattle.h5_interface.proofs.SmallTreeLaws.{shows_free, shows_root, shows_tree}
use Rattle.h5_interface.proofs.example.build_small_tree.Goals as goal

pub append-requires-2 : goal.append-requires-2
append-requires-2 g c =
    shows_root g.S.TreeSink.choices c.args.name (attribute_texts c.args.attrs.items) (string_bytes c.args.text) (string_bytes c.args.comment)
    _ _ _ _ _ _ c.in_ok-root.ensures.handle c.in_ok-root.ensures.ok c.in_ok-append.ensures.ok c.in_ok-note.ensures.handle c.in_ok-note.ensures.ok
    c.get_document-document.ensures.is_forest c.requires

pub append-requires-3 : goal.append-requires-3
append-requires-3 g c =
    shows_free g.S.TreeSink.choices c.args.name (attribute_texts c.args.attrs.items) (string_bytes c.args.text) (string_bytes c.args.comment)
    _ _ _ _ _ _ _ _ _ c.in_ok-root.ensures.handle c.in_ok-root.ensures.ok c.in_ok-append.ensures.ok c.in_ok-note.ensures.handle c.in_ok-note.ensures.ok
    c.in_ok-append-2.ensures.ok c.get_document-document.ensures.document c.clone_handle-same_root.ensures c.get_document-document.ensures.is_forest c.requires

pub returns : goal.returns
returns g c =
    shows_tree g.S.TreeSink.choices c.args.name (attribute_texts c.args.attrs.items) (string_bytes c.args.text) (string_bytes c.args.comment)
    _ _ _ _ _ _ _ _ _ _ c.in_ok-root.ensures.handle c.in_ok-root.ensures.ok c.in_ok-append.ensures.ok c.in_ok-note.ensures.handle c.in_ok-note.ensures.ok
    c.in_ok-append-2.ensures.ok c.get_document-document.ensures.document c.clone_handle-same_root.ensures c.in_ok-append-3.ensures.ok
    c.get_document-document.ensures.is_forest c.requires
