-- The error after "<!".
use Rattle.std.proofs.Common.{◌≡◌, ℕ, Bool, true, false, List, [], ◌∷◌, ◌++◌, refl, sym, ap, ◌∙◌, codes, if◌then◌else◌}
use Rattle.std.specs.Prelude.{◌&&◌, ◌||◌, not}
use Rattle.std.specs.Char.{to_ascii_lowercase}
use Rattle.h5_tokenizer_spec.specs.declared.errors.ParseError.{ParseError}
use Rattle.h5_tokenizer_spec.specs.declared.errors.ParseError.TheVariants.{CdataInHtmlContent, IncorrectlyOpenedComment}
use Rattle.h5_tokenizer_spec.specs.declared.kinds.TextKind.TheVariants.{CdataSection}
use Rattle.h5_tokenizer_spec.specs.Comments.{begins_opening, markup_declaration_open_state}
use Rattle.h5_tokenizer_spec.specs.States.{State, Text, BeginDoctype, BogusComment, CommentStart, MarkupDeclarationOpen}
use Rattle.h5_tokenizer_spec.specs.Turn.{again, ask, to, wrong}
use Rattle.h5_tokenizer_spec.specs.Words.{begins, same}

opening_by : (a a2 b b2 c c2 : Bool) (p q r s t u : State)
    → (if a && a2 then to p else if b && b2 then to q else if c && c2 then ask r CdataInHtmlContent s else if a || (b || c) then to t else wrong IncorrectlyOpenedComment (again u)).errors
    ≡ (if not (a || (b || c)) then IncorrectlyOpenedComment ∷ [] else [])
opening_by true true b b2 c c2 p q r s t u = refl
opening_by true false true true c c2 p q r s t u = refl
opening_by true false true false true true p q r s t u = refl
opening_by true false true false true false p q r s t u = refl
opening_by true false true false false c2 p q r s t u = refl
opening_by true false false b2 true true p q r s t u = refl
opening_by true false false b2 true false p q r s t u = refl
opening_by true false false b2 false c2 p q r s t u = refl
opening_by false a2 true true c c2 p q r s t u = refl
opening_by false a2 true false true true p q r s t u = refl
opening_by false a2 true false true false p q r s t u = refl
opening_by false a2 true false false c2 p q r s t u = refl
opening_by false a2 false b2 true true p q r s t u = refl
opening_by false a2 false b2 true false p q r s t u = refl
opening_by false a2 false b2 false c2 p q r s t u = refl

opening_errors : (seen : List ℕ) (x : ℕ) → (markup_declaration_open_state seen x).errors ≡ (if not (begins_opening (seen ++ x ∷ [])) then IncorrectlyOpenedComment ∷ [] else [])
opening_errors seen x =
    let now = seen ++ x ∷ [] in
    opening_by (begins same now (codes "--")) (begins same (codes "--") now) (begins to_ascii_lowercase now (codes "doctype")) (begins to_ascii_lowercase (codes "doctype") now)
    (begins same now (codes "[CDATA[")) (begins same (codes "[CDATA[") now) CommentStart BeginDoctype (Text CdataSection) (BogusComment now) (MarkupDeclarationOpen now) (BogusComment seen)

pub opened_or_not : (seen : List ℕ) (x : ℕ) (b : Bool) (errors : List ParseError) → b ≡ begins_opening (seen ++ x ∷ []) → errors ≡ (if not b then IncorrectlyOpenedComment ∷ [] else [])
    → errors ≡ (markup_declaration_open_state seen x).errors
opened_or_not seen x b errors e are = are ∙ ap (λ c. if not c then IncorrectlyOpenedComment ∷ [] else []) e ∙ sym (opening_errors seen x)
