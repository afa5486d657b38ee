use Rattle.std.proofs.Common.{◌≡◌, String, Option, refl, ap, string_bytes}
use Rattle.std.specs.Bool.{Decides}
use Rattle.std.specs.Cmp.{booleans_Decides}
use Rattle.std.specs.Option.{option_eq}
use Rattle.std.specs.String.{string_eq}
use Rattle.std.specs.declared.alloc.Global.{Global}
use Rattle.std.proofs.lemmas.Bool.Decides.{Decides-and, Decides-like}
use Rattle.std.proofs.lemmas.Slice.Eq.{bytes_eq-Decides}
use denote.Enum.Bare.{sameb}
use Rattle.h5_names.specs.AttributeText.{attribute_text, is_same_attribute}
use Rattle.h5_names.proofs.AttributeLemmas.{same_attribute}
use Rattle.h5_token.specs.contracts.tag.TagKind.{the_type}
use Rattle.h5_token.specs.contracts.doctype.DoctypePartialEq.TheImpl as doctype_eq
use Rattle.h5_token.specs.contracts.tag.TagPartialEq.TheImpl as tag_eq
use Rattle.h5_token.specs.contracts.tokens.TokenPartialEq.TheImpl as token_eq
use Rattle.h5_token.specs.declared.doctype.Doctype.{Doctype}
use Rattle.h5_token.specs.declared.tag.Tag.{Tag}
use Rattle.h5_token.specs.declared.tag.TagKind.{TagKind}
use Rattle.h5_token.specs.declared.tag.TagKind.TheVariants.{StartTag, EndTag}
use Rattle.h5_token.specs.declared.tokens.Token.{Token}
use Rattle.h5_token.specs.declared.tokens.Token.TheVariants.{DoctypeToken, TagToken, CommentToken, CharacterTokens, NullCharacterToken, EOFToken, ParseError}
use Rattle.h5_token.specs.OptionalText.{optional_text}
use Rattle.h5_token.specs.TokenText.{doctype_text, tag_text, token_text, DoctypeIs, TagIs, CommentIs, Characters, ParseErrorIs}
use Rattle.h5_token.proofs.TextEquality.{lists_decide, options_decide}
use Rattle.h5_token.proofs.laws.tokens_are_equal_as_their_texts.Goals as goal

strings : (x y : String Global) → Decides (string_eq x y) (string_bytes x ≡ string_bytes y)
strings x y = bytes_eq-Decides (string_bytes x) (string_bytes y)

optional : (x y : Option (String Global)) → Decides (option_eq string_eq x y) (optional_text x ≡ optional_text y)
optional = options_decide string_bytes strings

kinds : (x y : TagKind) → Decides (sameb the_type x y) (x ≡ y)
kinds StartTag StartTag = (λ h. refl, λ e. refl)
kinds StartTag EndTag = (λ h. cc, λ e. cc)
kinds EndTag StartTag = (λ h. cc, λ e. cc)
kinds EndTag EndTag = (λ h. refl, λ e. refl)

doctypes : (x y : Doctype) → Decides ((doctype_eq.eq-value).it x y) (doctype_text x ≡ doctype_text y)
doctypes x y =
    Decides-like _
    (λ p i. record { name = p.0 i; public_id = p.1.0 i; system_id = p.1.1.0 i; force_quirks = p.1.1.1 i })
    (λ e. (ap (λ d. d.name) e, (ap (λ d. d.public_id) e, (ap (λ d. d.system_id) e, ap (λ d. d.force_quirks) e))))
    (Decides-and _ _ (optional x.name y.name)
    (Decides-and _ _ (optional x.public_id y.public_id)
    (Decides-and _ _ (optional x.system_id y.system_id) (booleans_Decides x.force_quirks y.force_quirks))))

tags : (x y : Tag) → Decides ((tag_eq.eq-value).it x y) (tag_text x ≡ tag_text y)
tags x y =
    Decides-like _
    (λ p i. record { kind = p.0 i; self_closing = p.1.0 i; had_duplicate_attributes = p.1.1.0 i; name = p.1.1.1.0 i; attrs = p.1.1.1.1 i })
    (λ e. (ap (λ t. t.kind) e, (ap (λ t. t.self_closing) e, (ap (λ t. t.had_duplicate_attributes) e, (ap (λ t. t.name) e, ap (λ t. t.attrs) e)))))
    (Decides-and _ _ (kinds x.kind y.kind)
    (Decides-and _ _ (booleans_Decides x.self_closing y.self_closing)
    (Decides-and _ _ (booleans_Decides x.had_duplicate_attributes y.had_duplicate_attributes)
    (Decides-and _ _ (bytes_eq-Decides x.name y.name)
    (lists_decide {eq = λ a b. is_same_attribute (attribute_text a) (attribute_text b)} attribute_text (λ a b. same_attribute (attribute_text a) (attribute_text b)) x.attrs.items y.attrs.items)))))

tokens : (x y : Token) → Decides ((token_eq.eq-value).it x y) (token_text x ≡ token_text y)
tokens (DoctypeToken x) (DoctypeToken y) = Decides-like _ (λ e. ap DoctypeIs e) (λ e. cc) (doctypes x y)
tokens (TagToken x) (TagToken y) = Decides-like _ (λ e. ap TagIs e) (λ e. cc) (tags x y)
tokens (CommentToken x) (CommentToken y) = Decides-like _ (λ e. ap CommentIs e) (λ e. cc) (strings x y)
tokens (CharacterTokens x) (CharacterTokens y) = Decides-like _ (λ e. ap Characters e) (λ e. cc) (strings x y)
tokens (ParseError x) (ParseError y) = Decides-like _ (λ e. ap ParseErrorIs e) (λ e. cc) (strings x y)
tokens NullCharacterToken NullCharacterToken = (λ h. refl, λ e. refl)
tokens EOFToken EOFToken = (λ h. refl, λ e. refl)
tokens _ _ = (λ h. cc, λ e. cc)

pub returns-clause-tags : goal.returns-clause-tags
returns-clause-tags c = tags

pub returns-clause-doctypes : goal.returns-clause-doctypes
returns-clause-doctypes c = doctypes

pub returns-clause-tokens : goal.returns-clause-tokens
returns-clause-tokens c = tokens
