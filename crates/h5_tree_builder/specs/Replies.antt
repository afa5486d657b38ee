-- Replies to a list of tokens, wherever they are in memory.
use Rattle.std.specs.Prelude.{ℕ, List, map}
use Rattle.h5_token.specs.Reply.{Reply as ReplyText, Refuses, reply}
use Rattle.h5_token.specs.TokenText.{TokenText, token_text}
use Rattle.h5_token.specs.declared.tokens.Token.{Token}
use Rattle.h5_tree_builder.specs.declared.replies.Reply.{Reply}
use Rattle.h5_tree_builder.specs.declared.replies.Reply.TheVariants.{Answer, Refused}

abbrev pub reply_text : {H : Type 0} → (H → ℕ) → Reply H → ReplyText
reply_text node (Answer answer) = reply node answer
reply_text node (Refused fault) = Refuses fault

abbrev pub reply_texts : {H : Type 0} → (H → ℕ) → List (Reply H) → List ReplyText
reply_texts node = map (reply_text node)

-- the tokens of a list of tokens and lines
abbrev pub token_of : Token × ℕ → TokenText
token_of pair = token_text pair.0

abbrev pub token_texts : List (Token × ℕ) → List TokenText
token_texts = map token_of
