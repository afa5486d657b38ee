use Rattle.std.proofs.Common.{◌∙◌, sym}
use Rattle.std.proofs.lemmas.Str.{is_utf8-from_IsUtf8}
use Rattle.h5_clean.proofs.cleaner.CleanerSerializer.write_text.Goals as goal

pub returns-then-is_readable : goal.returns-then-is_readable
returns-then-is_readable g c = c.write_readable.ensures c.args.text.now (is_utf8-from_IsUtf8 _ c.utf8.text) (c.is_readable.ensures.left c.if-is_readable.true)

pub returns : goal.returns
returns g c = c.write_readable-2.ensures c.args.text.now (is_utf8-from_IsUtf8 _ c.utf8.text) (sym c.in_ok-text.ensures ∙ sym c.as_str.ensures.value)
