-- A builder as the token sink of a tokenizer.
use Rattle.std.specs.Prelude.{ℕ, Bool}
use Rattle.h5_token.specs.Reply.{Reply}
use Rattle.h5_token.specs.TokenText.{TokenText}
use Rattle.h5_interface.specs.SinkChoices.{SinkChoices}
use Rattle.h5_builder_spec.specs.Run.{View, after_token, reply_to}
use Rattle.h5_tree_builder.specs.Builder.{ended_view, is_foreign_in}

-- its reply, its meaning after a token, on any line, and after the end, and whether its current node isn't HTML
abbrev pub replies : SinkChoices → View → TokenText → Reply
replies choices v t = reply_to choices t v

abbrev pub after : SinkChoices → View → TokenText → ℕ → View
after choices v t line = after_token choices t v

abbrev pub ended : SinkChoices → View → View
ended choices v = ended_view choices v

abbrev pub foreign : View → Bool
foreign v = is_foreign_in v.world
