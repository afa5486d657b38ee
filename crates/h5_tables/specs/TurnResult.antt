-- How a turn ends, with the token that takes another turn, or with the reply.
use Rattle.h5_token.specs.declared.sink.TokenSinkResult.{TokenSinkResult}
use Rattle.h5_tables.specs.declared.modes.InsertionMode.{InsertionMode}
use Rattle.h5_tables.specs.declared.turns.Token.{Token}

pub data TurnResult (H : Type 0) : Type 0 where
  Done : TurnResult H
  DoneAckSelfClosing : TurnResult H
  Reprocess : (mode : InsertionMode) → (token : Token) → TurnResult H
  Answer : (answer : TokenSinkResult H) → TurnResult H
