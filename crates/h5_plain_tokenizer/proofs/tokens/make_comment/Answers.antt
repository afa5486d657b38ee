use Rattle.std.proofs.Common.{◌≡◌, ◌++◌, ◌∷◌, [], ap, sym, ◌∙◌, false}
use Rattle.h5_token.specs.TokenText.{CommentIs}
use Rattle.h5_markup.specs.Text.{text_of}
use Rattle.h5_plain_tokenizer.specs.Tokens.{without_dashes}
use Rattle.h5_plain_tokenizer.proofs.TokenLaws.{without_them, nothing_gone}
use Rattle.h5_plain_tokenizer.proofs.tokens.make_comment.Goals as goal

pub returns-in_ok-text_of-in-Some : goal.returns-in_ok-text_of-in-Some
returns-in_ok-text_of-in-Some c =
    let h = c.in-Some.ensures.cases in
    let whole : c.args.text.now ≡ c.in-Some.comment.now ++ 45 ∷ 45 ∷ [] = h.1.1 ∙ ap (λ l. l ++ 45 ∷ 45 ∷ []) (sym h.2) in
    let comment : without_dashes c.args.text.now ≡ c.in-Some.comment.now = ap without_dashes whole ∙ without_them c.in-Some.comment.now in
    ap CommentIs (c.in_ok-text_of-in-Some.ensures ∙ ap (text_of false) (sym comment))

pub returns-in_ok-text_of-in-None : goal.returns-in_ok-text_of-in-None
returns-in_ok-text_of-in-None c =
    let same = nothing_gone c.args.text.now c.in-None.ensures.cases in
    ap CommentIs (c.in_ok-text_of-in-None.ensures ∙ ap (text_of false) (sym same))
