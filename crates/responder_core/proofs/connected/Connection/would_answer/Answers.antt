-- What would be answered is what the clear part answers.
use Rattle.std.proofs.Common.{◌∙◌, ap, sym, subst, is_some}
use Rattle.std.proofs.lemmas.Bool.{false≢true}
use Rattle.responder_core.specs.ClearPart as clear_parts
use Rattle.responder_core.proofs.connected.Connection.would_answer.Goals as goal
use Rattle.responder_machine.specs.History.{clear_turns}
use Rattle.responder_machine.specs.Place.{held_of}
use Rattle.responder_machine.specs.Place.Where.{InClear}
use Rattle.responder_machine.specs.Responder.{after, on_clear}

pub returns-in_err-clear-clause-idle : goal.returns-in_err-clear-clause-idle
returns-in_err-clear-clause-idle c = λ r h stands none. absurd (false≢true (sym (ap is_some c.in_err-clear.was) ∙ c.idle_copy.ensures.idle r h stands.clear none))

pub returns-clause-tried : goal.returns-clause-tried
returns-clause-tried c = λ r h f d setup free allowed stands.
    let same = subst (λ (x : clear_parts.Seen). clear_parts.StandsFor x r h) (sym c.in_ok-clear.ensures.same) stands.clear in
    let told = c.answer-heard.ensures r h f d setup free allowed same (c.held-held.ensures.value r h stands.sessions) in
    let g = after h (on_clear r h c.args.tag c.args.message.now f d) in
    record { told = told.told; body = told.body; pending = c.is_pending-pending.ensures InClear (clear_turns g) (held_of g) (c.standing.ensures.stands r g told.stands) }
