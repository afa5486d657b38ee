-- Doctypes: the text between '<!DOCTYPE' and '>' (HTML standard, sections 13.2.5.53 to 13.2.5.68).
use Rattle.std.specs.Prelude.{ℕ, true, false, List, [], ◌∷◌, ◌==◌, if◌then◌else◌, Option, Some, None, codes}
use Rattle.std.specs.Option.{option_map}
use Rattle.h5_markup.specs.Cuts.{is_in, before, from, past}
use Rattle.h5_markup.specs.Matching.{Match, Open, No, Found, word}
use Rattle.h5_markup.specs.declared.cut.Class.TheVariants.{Blank, DoubleQuote, SingleQuote}
use Rattle.h5_token.specs.TokenText.{DoctypeText}
use Rattle.h5_markup.specs.Text.{text_of, name_of}

-- a quoted identifier, and the text after it and after whitespace
pub record Quoted : Type 0 where
  pub identifier : List ℕ
  pub rest : List ℕ

abbrev pub closed_by : List ℕ → List ℕ → Option Quoted
closed_by identifier [] = None
closed_by identifier (quote ∷ xs) = Some (record { identifier = identifier; rest = past Blank xs })

abbrev pub quoted : List ℕ → Option Quoted
quoted [] = None
quoted (x ∷ xs) =
    if x == 34 then closed_by (before (is_in DoubleQuote) xs) (from (is_in DoubleQuote) xs)
    else (if x == 39 then closed_by (before (is_in SingleQuote) xs) (from (is_in SingleQuote) xs) else None)

-- the identifiers as they are written, if they are valid
pub record Identifiers : Type 0 where
  pub public_id : Option (List ℕ)
  pub system_id : Option (List ℕ)

abbrev pub ends : List ℕ → List ℕ → Option (List ℕ)
ends id [] = Some id
ends id (x ∷ rest) = None

-- an identifier that ends the doctype
abbrev pub last : Option Quoted → Option (List ℕ)
last None = None
last (Some q) = ends q.identifier q.rest

abbrev pub with_system : Option (List ℕ) → Option (List ℕ) → Option Identifiers
with_system public_id None = None
with_system public_id (Some id) = Some (record { public_id = public_id; system_id = Some id })

-- the identifiers after PUBLIC: one or two
abbrev pub public_and : List ℕ → List ℕ → Option Identifiers
public_and id [] = Some (record { public_id = Some id; system_id = None })
public_and id (x ∷ xs) = with_system (Some id) (last (quoted (x ∷ xs)))

abbrev pub public_ids : Option Quoted → Option Identifiers
public_ids None = None
public_ids (Some q) = public_and q.identifier q.rest

-- the identifier after SYSTEM
abbrev pub system_at : Match (Unit {0}) → Option Identifiers
system_at Open = None
system_at No = None
system_at (Found t rest) = with_system None (last (quoted (past Blank rest)))

abbrev pub ids_at : List ℕ → Match (Unit {0}) → Option Identifiers
ids_at xs Open = None
ids_at xs No = system_at (word (codes "SYSTEM") xs)
ids_at xs (Found t rest) = public_ids (quoted (past Blank rest))

-- the identifiers after the name and whitespace
abbrev pub identifiers : List ℕ → Option Identifiers
identifiers [] = Some (record { public_id = None; system_id = None })
identifiers (x ∷ xs) = ids_at (x ∷ xs) (word (codes "PUBLIC") (x ∷ xs))

abbrev pub made : Option (List ℕ) → Option (List ℕ)
made = option_map (text_of false)

-- if the identifiers are invalid, there are none, and quirks are forced
abbrev pub identified : List ℕ → Option Identifiers → DoctypeText
identified name None = record { name = Some name; public_id = None; system_id = None; force_quirks = true }
identified name (Some ids) = record { name = Some name; public_id = made ids.public_id; system_id = made ids.system_id; force_quirks = false }

abbrev pub doctype_at : List ℕ → List ℕ → DoctypeText
doctype_at [] rest = record { name = None; public_id = None; system_id = None; force_quirks = true }
doctype_at (x ∷ name) rest = identified (name_of (x ∷ name)) (identifiers (past Blank rest))

abbrev pub doctype_of : List ℕ → DoctypeText
doctype_of xs = doctype_at (before (is_in Blank) (past Blank xs)) (from (is_in Blank) (past Blank xs))
