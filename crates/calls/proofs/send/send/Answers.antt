use Rattle.calls.proofs.send.send.Goals as goal

pub returns-in_default : goal.returns-in_default
returns-in_default g c = record { step = rw (c.in-Bay.is, c.answered-answer.ensures.answer) c.change.ensures.step }

pub returns-in_default-call : goal.returns-in_default-call
returns-in_default-call g c = record { step = rw (c.in-Road.is, c.answered-answer-in_default-call.ensures.answer) c.ask.ensures.step }
