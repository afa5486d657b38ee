use Rattle.h5_page.proofs.page_text.take_calls.Goals as goal

pub returns : goal.returns
returns c = c.calls_are_taken_in_turn.ensures _ _ _ _ _ c.in_ok-serialize.ensures
