use Rattle.std.proofs.Common.{ap, ◌∙◌, arith}
use Rattle.h5_tokenizer_states.specs.MachineText.{MachineText, asks_in, hands_null}
use Rattle.h5_tokenizer_states.specs.StateOf.{state_of}
use Rattle.h5_tokenizer_states.proofs.QuietLaws.{quiet_bracket, quiet_byte, quiet_null}
use Rattle.h5_tokenizer_states.proofs.machine.Machine.may_hand.Goals as goal

pub returns-in-91 : goal.returns-in-91
returns-in-91 c =
    let m = c.args.self.now in
    λ h _. quiet_bracket m c.args.b c.asks_in.result c.in-91.is
    (c.asks_in.ensures m.parts ∙ ap (λ (n : MachineText). asks_in (state_of n.at m.parts)) c.self.view_is) h

pub returns-in-0 : goal.returns-in-0
returns-in-0 c =
    let m = c.args.self.now in
    λ h _. quiet_null m c.args.b c.hands_null.result c.in-0.is
    (c.hands_null.ensures m.parts ∙ ap (λ (n : MachineText). hands_null (state_of n.at m.parts)) c.self.view_is) h

pub returns-in_default : goal.returns-in_default
returns-in_default c = λ _ _. quiet_byte c.args.self.now c.args.b (omega arith) (omega arith) (omega arith)
