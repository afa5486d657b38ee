use Rattle.std.proofs.Common.{◌∙◌, ap, sym}
use Rattle.std.specs.Prelude.{Some}
use Rattle.h5_tables.proofs.MetaParts.{closed, not_closed}
use Rattle.h5_tables.proofs.meta_encoding.up_to_quote.Goals as goal

pub returns-in_err-front : goal.returns-in_err-front
returns-in_err-front c =
    let none = c.in_err-front.ensures.byte c.requires (λ w o h. h) in
    rw c.from_residual.ensures (sym (not_closed c.args.quote c.args.text.now none))

pub returns : goal.returns
returns c =
    let found = c.in_ok-front.ensures.byte c.requires (λ w o h. h) in
    ap (λ l. Some l) found.0 ∙ sym (closed c.args.quote c.args.text.now found.2)
