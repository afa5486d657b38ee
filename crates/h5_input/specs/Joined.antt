-- A token sink below one that joins adjacent texts: the replies of both, and their meanings.
use Rattle.std.specs.Prelude.{◌++◌, ℕ, Bool, if◌then◌else◌, List, [], ◌∷◌, Option, None, Some}
use Rattle.html_tree_builder.specs.Reply.{Continues, Reply}
use Rattle.html_tree_builder.specs.TokenText.{Characters, TokenText}
use Rattle.html_tree_builder.specs.Answers.{refuses}

-- the meaning of the sink below, and the text that it hasn't got yet, with the line on which it began
pub record Joined (M : Type 0) : Type 0 where
  pub below : M
  pub held : List ℕ
  pub line : ℕ

-- the reply to a text that is passed on, if there is any, and the meaning after it
abbrev pub reply_to_text : {M : Type 0} → (reply_to : M → TokenText → Reply) → (text : List ℕ) → M → Reply
reply_to_text reply_to [] m = Continues
reply_to_text reply_to (c ∷ text) m = reply_to m (Characters (c ∷ text))

abbrev pub after_text : {M : Type 0} → (after : M → TokenText → ℕ → M) → (text : List ℕ) → (line : ℕ) → M → M
after_text after [] line m = m
after_text after (c ∷ text) line m = after m (Characters (c ∷ text)) line

-- a text is held, after one that is held already
abbrev pub line_held : (held : List ℕ) → (old line : ℕ) → ℕ
line_held [] old line = line
line_held (c ∷ held) old line = old

abbrev pub holding : {M : Type 0} → (text : List ℕ) → (line : ℕ) → Joined M → Joined M
holding text line j = record { below = j.below; held = j.held ++ text; line = line_held j.held j.line line }

-- the text of a text token
abbrev pub text_of : TokenText → Option (List ℕ)
text_of (Characters text) = Some text
text_of token = None

module _ {M : Type 0} (reply_to : M → TokenText → Reply) (after : M → TokenText → ℕ → M) where
  -- before any other token the text is passed on; if it is refused, the token isn't passed on
  abbrev pub reply_behind : (first : Reply) → Joined M → TokenText → Reply
  reply_behind first j token = if refuses first then first else reply_to (after_text after j.held j.line j.below) token

  abbrev pub passed_below : (refused : Bool) → TokenText → (line : ℕ) → M → M
  passed_below refused token line m = if refused then m else after m token line

  abbrev pub passed : (refused : Bool) → TokenText → (line : ℕ) → Joined M → Joined M
  passed refused token line j = record { below = passed_below refused token line (after_text after j.held j.line j.below); held = []; line = j.line }

  abbrev pub reply_by : (text : Option (List ℕ)) → Joined M → TokenText → Reply
  reply_by None j token = reply_behind (reply_to_text reply_to j.held j.below) j token
  reply_by (Some text) j token = Continues

  abbrev pub after_by : (text : Option (List ℕ)) → Joined M → TokenText → (line : ℕ) → Joined M
  after_by None j token line = passed (refuses (reply_to_text reply_to j.held j.below)) token line j
  after_by (Some text) j token line = holding text line j

  abbrev pub reply_joined : Joined M → TokenText → Reply
  reply_joined j token = reply_by (text_of token) j token

  abbrev pub after_joined : Joined M → TokenText → ℕ → Joined M
  after_joined j token line = after_by (text_of token) j token line
