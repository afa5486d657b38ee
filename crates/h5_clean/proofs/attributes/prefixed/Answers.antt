use Rattle.std.proofs.Common.{◌≡◌, ◌++◌, None, Bool, IfOk, List, ℕ, cond, ap, string_bytes, subst, sym, ◌∙◌}
use Rattle.std.proofs.lemmas.Str.Pattern.{starts_text}
use Rattle.std.specs.Bool.{MatchBool}
use Rattle.std.specs.Str.Pattern.{FindsTextPrefix, HasPrefixMatch}
use Rattle.h5_clean.specs.Policies.{prefixed}
use Rattle.h5_clean.proofs.attributes.prefixed.Goals as goal

-- whether a text begins with the prefix decides
decided : (begins : Bool) (p t : List ℕ) → MatchBool begins (HasPrefixMatch (FindsTextPrefix p) t) (FindsTextPrefix p t None) → prefixed p t ≡ cond begins t (p ++ t)
decided begins p t h = ap (λ b. cond b t (p ++ t)) (sym (starts_text begins p t h))

pub returns-then-starts_with : goal.returns-then-starts_with
returns-then-starts_with c =
    let p = c.args.prefix.now in
    let t = c.args.text.now in
    let same = decided c.starts_with.result p t c.starts_with.ensures.cases ∙ ap (λ b. cond b t (p ++ t)) c.if-starts_with.true in
    subst (λ x. IfOk c.from_str.result (λ made. string_bytes made ≡ x)) (sym same) c.from_str.ensures.ok

pub returns : goal.returns
returns c =
    let p = c.args.prefix.now in
    let t = c.args.text.now in
    c.in_ok-push_str.ensures.bytes ∙ ap (λ l. l ++ t) c.in_ok-made.ensures.ok
    ∙ sym (decided c.starts_with.result p t c.starts_with.ensures.cases ∙ ap (λ b. cond b t (p ++ t)) c.if-starts_with.false)
