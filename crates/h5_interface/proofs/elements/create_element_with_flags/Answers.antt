use Rattle.h5_names.specs.AttributeText.{attribute_texts}
use Rattle.h5_interface.proofs.MakingLaws.{gives_element}
use Rattle.h5_interface.proofs.elements.create_element_with_flags.Goals as goal

pub returns-clause-element : goal.returns-clause-element
returns-clause-element g c =
    gives_element g.S.TreeSink.node g.S.TreeSink.choices c.args.name (attribute_texts c.args.attrs.items) _ _ _ c.create_element.result
    c.get_document-document.ensures.is_forest c.create_element.ensures.handle c.create_element.ensures.ok
