use Rattle.std.proofs.Common.{◌∙◌, sym, ap, cond, Bool, None}
use Rattle.requester_core.specs.OwnRecords.{session_awaited}
use Rattle.requester_machine.specs.History.{outstanding}
use Rattle.check_requester.proofs.answer_effect.awaited_anew.Goals as goal

pub returns : goal.returns
returns c = λ q h stands. c.session_awaited.ensures q h stands ∙ sym (ap (λ (b : Bool). cond b None (session_awaited (outstanding h))) c.if-before.false)
