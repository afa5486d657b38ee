use Rattle.std.proofs.Common.{◌≡◌, ◌∙◌, ℕ, ◌==◌, ◌||◌, true, false, if◌then◌else◌, List, [], ◌∷◌, Option, None, Some, ap, drop, reverse, rules, slice_get, sym}
use Rattle.h5_selectors.specs.Tokens.{Reading, behind_string, character_at, comment_at, component_at, escape_at, is_component_end, is_escape, missing_behind, reading}
use Rattle.h5_selectors.proofs.scan.Scan.skip_component.Goals as goal

-- a string
module _ (missing : List ℕ) (c : ℕ) (rest : List ℕ) (quote : (c == 34 || c == 39) ≡ true) where
  at_quote : (text : List ℕ) → slice_get text 0 ≡ Some c → rest ≡ behind_string c (drop 1 text) → character_at missing text ≡ Some (reading missing rest)
  at_quote [] first after = cc
  at_quote (x ∷ text) first after =
      let same : x ≡ c = cc in
      ap (λ (v : ℕ). character_at missing (v ∷ text)) same
      ∙ ap (λ b. if b then Some (reading missing (behind_string c text)) else (if is_component_end c missing then None else Some (reading (missing_behind c missing) text))) quote
      ∙ ap (λ t. Some (reading missing t)) (sym after)

  string_there : (text : List ℕ) → comment_at text ≡ None → is_escape text ≡ false → slice_get text 0 ≡ Some c → rest ≡ behind_string c (drop 1 text) → component_at missing text ≡ Some (reading missing rest)
  string_there text no_comment no_escape first after =
      let by : Option (Reading (List ℕ)) → Option (Reading (List ℕ)) =
      λ o. elim o as (λ _. Option (Reading (List ℕ))) [
        | Some comment ↦ Some (reading missing comment.rest)
        | None ↦ if is_escape text then Some (reading missing (escape_at (drop 1 text)).rest) else character_at missing text
      ] in
      ap by no_comment
      ∙ ap (λ b. if b then Some (reading missing (escape_at (drop 1 text)).rest) else character_at missing text) no_escape
      ∙ at_quote text first after

pub returns-then-is_quote-clause-found : goal.returns-then-is_quote-clause-found
returns-then-is_quote-clause-found c =
    string_there (reverse c.args.missing.now.items) c.in-Some.c c.skip_string.new.self.rest.now (search rules) c.args.self.now.rest.now (search rules) (search rules) (search rules) (search rules)
