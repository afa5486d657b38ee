-- The replies of token sinks.
use Rattle.std.specs.Prelude.{Bool, true, false, if◌then◌else◌}
use Rattle.h5_token.specs.TokenText.{TokenText, DoctypeIs, TagIs, CommentIs, Characters, NullCharacter, EndOfFile, ParseErrorIs}
use Rattle.h5_token.specs.Reply.{Reply, Continues, RunsScript, TurnsRaw}
use Rattle.h5_token.specs.declared.tag.TagKind.{TagKind}
use Rattle.h5_token.specs.declared.tag.TagKind.TheVariants.{StartTag, EndTag}
use Rattle.h5_tests_sinks.specs.declared.answer.Answer.{Answer}
use Rattle.h5_tests_sinks.specs.declared.answer.Answer.TheVariants as answer

abbrev pub starts : TagKind → Bool
starts StartTag = true
starts EndTag = false

abbrev pub is_start : TokenText → Bool
is_start (DoctypeIs doctype) = false
is_start (TagIs tag) = starts tag.kind
is_start (CommentIs text) = false
is_start (Characters text) = false
is_start NullCharacter = false
is_start EndOfFile = false
is_start (ParseErrorIs message) = false

abbrev pub reply_of : Answer → Reply
reply_of answer.ReadsOn = Continues
reply_of answer.Stops = RunsScript 7
reply_of (answer.TurnsRaw kind) = TurnsRaw kind

-- the given reply to a start tag, and "continue" to all other tokens
abbrev pub reply_to : Answer → TokenText → Reply
reply_to told token = if is_start token then reply_of told else Continues

-- the reply to start tags, and whether the adjusted current node is foreign
pub record Wishes : Type 0 where
  pub foreign : Bool
  pub answer : Answer
