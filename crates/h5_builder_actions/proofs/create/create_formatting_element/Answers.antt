use Rattle.std.proofs.Common.{◌≡◌, ℕ, ap, refl, subst, sym, ◌∙◌}
use Rattle.h5_token.specs.TokenText.{TagText, tag_text}
use Rattle.h5_builder_spec.specs.formatting.FormattingList.{push_formatting}
use Rattle.h5_builder_spec.specs.formatting.Formatting.{create_formatting_element, insert_for}
use Rattle.h5_builder_spec.specs.Sound.{Sound}
use Rattle.h5_builder_spec.specs.World.{World, current, names_of}
use Rattle.h5_builder_spec.proofs.changes.FormattingLaws.{sound_format}
use Rattle.h5_builder_state.specs.View.{listed_node, world}
use Rattle.h5_builder_state.specs.Listed.{entries_of}
use Rattle.h5_builder_actions.proofs.RenewLaws.{both_ok, ok_or_err, ok_then, sound_with_list, with_list}
use Rattle.h5_tables.specs.declared.entry.FormatEntry.TheVariants.{Element}
use Rattle.h5_builder_state.specs.Stamps.{AreStamped}
use Rattle.h5_builder_actions.specs.Restacks.{IsPushed}
use Rattle.h5_builder_actions.proofs.EntryStampLaws.{stamped_entry_listed}
use Rattle.h5_builder_actions.proofs.create.create_formatting_element.Goals as goal

abbrev with_pushed : TagText → World → World
with_pushed t v = with_list (push_formatting (current v) t v.formatting) v

pub returns : goal.returns
unfolding world names_of create_formatting_element
returns g c =
    let node = g.S.TreeSink.node in
    let choices = g.S.TreeSink.choices in
    let t = tag_text c.args.tag in
    let w = world g.S.TreeSink.sees node c.args.sink.now c.args.state.now in
    let v = world g.S.TreeSink.sees node c.insert_element.new.sink c.insert_element.new.state in
    let new = with_list (entries_of (listed_node node) c.push_formatting.new.entries) v in
    let made : v ≡ insert_for choices t w = c.in_ok-insert_element.ensures.world ∙ ap (λ u. insert_for choices u w) c.in_ok-copy.ensures in
    let open_elems = c.insert_element.new.state.open_elems in
    let items = c.insert_element.new.state.active_formatting in
    let current = c.current_listed-current.result in
    let entry = Element current c.args.tag in
    let stamped_new = λ (p : IsPushed entry items c.push_formatting.new.entries). stamped_entry_listed node open_elems items c.push_formatting.new.entries entry (c.current_listed-current.ensures.given, c.current_listed-current.ensures.above) p c.insert_element.ensures.sound.stamped in
    let pushed : ((m : _ → ℕ) → _) → new ≡ create_formatting_element choices t w = λ e.
    ap (λ l. with_list l v) (e (listed_node node) ∙ ap (λ n. push_formatting n t v.formatting) c.current_listed-current.ensures.current) ∙ ap (with_pushed t) made in
    record {
      world = ok_then c.push_formatting.result pushed c.push_formatting.ensures.ok;
      quiet = c.insert_element.ensures.quiet;
      sound = ok_or_err c.push_formatting.result (both_ok _ _ c.push_formatting.result c.push_formatting.ensures.ok c.push_formatting.ensures.pushed) c.push_formatting.ensures.err
          (λ both. let e = both.0 in record {
            sound = subst Sound (sym (pushed e)) (sound_format choices t w c.requires.name c.requires.sound.sound);
            kept = c.insert_element.ensures.sound.kept;
            stamped = stamped_new both.1;
          })
          (λ e. sound_with_list g.S.TreeSink c.insert_element.new.sink c.insert_element.new.state _ v.formatting (ap (λ xs. with_list (entries_of (listed_node node) xs) v) e) refl
          c.insert_element.ensures.sound.sound.listed c.insert_element.ensures.sound.sound.formatting
          (subst (AreStamped node open_elems) (sym e) c.insert_element.ensures.sound.stamped) c.insert_element.ensures.sound);
    }
