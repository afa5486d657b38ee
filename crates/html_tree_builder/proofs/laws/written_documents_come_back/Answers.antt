use Rattle.std.proofs.Common.{sym, ◌∙◌}
use Rattle.h5_driver.specs.PlainDocuments.{ComesBack}
use Rattle.html_tree_builder.proofs.laws.written_documents_come_back.Goals as goal

pub returns : goal.returns
returns g c = λ f d opts pieces first last seen told forest stands keeps readable scope create text new holds processed parses.
    let same = c.documents_are_written.ensures.as_their_text f d opts forest stands keeps scope create in
    let back : ComesBack told d = c.documents_come_back.ensures pieces first last told processed parses d seen new holds readable (text ∙ same) in
    (back, c.documents_are_written.ensures.as_their_text told.forest d opts back.is_forest back.stands keeps scope create ∙ sym same ∙ sym text)
