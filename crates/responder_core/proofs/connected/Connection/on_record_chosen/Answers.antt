use Rattle.std.proofs.Common.{◌∙◌, ap, sym, refl, List, ℕ}
use Rattle.responder_core.proofs.Draws.{record_tells}
use Rattle.responder_core.proofs.Harmless.{record_harmless}
use Rattle.responder_core.proofs.RecordDone.{record_are, record_done}
use Rattle.responder_core.proofs.connected.Connection.on_record_chosen.Goals as goal
use Rattle.responder_core.specs.Sessions.{body_by}
use Rattle.responder_core.specs.Connected.{tells_measured}
use Rattle.responder_machine.specs.Answer.{Free}
use Rattle.responder_machine.specs.Does.{first_queued, record_chosen}
use Rattle.responder_machine.specs.History.{clear_turns}
use Rattle.responder_machine.specs.LargeMessages.{next_handle}
use Rattle.responder_machine.specs.Session.{session_of, turns_of}
use Rattle.spdm_basis.specs.declared.values.session_id.SessionId.{SessionId}
use Rattle.spdm_grammar.specs.declared.told.heard.Heard.{Heard}

pub returns-clause-done : goal.returns-clause-done
returns-clause-done c = λ r h tag d setup nonce few stands.
    let sealed : List ℕ = c.args.sealed.now in
    let f : Free = record_chosen r h sealed d in
    let phase = c.phase-phase.ensures (clear_turns h) (c.standing.ensures.stands r h stands.clear) in
    let handle = c.next_handle.ensures r h stands.sessions ∙ ap (λ (id : SessionId). next_handle (turns_of (session_of id.rsp h))) c.record_id.ensures in
    let free = record_are r h sealed d _ (sym nonce) refl handle (c.first.ensures.value ∙ ap first_queued stands.queue) refl in
    let done = c.on_record-heard.ensures r h tag f d free few setup.inventory phase stands.sessions in
    record_done r h tag sealed f d c.args.self.now c.on_record-heard.result c.on_record-heard.new.self c.use_up.new.queue c.tells_measured-self.result c.on_record-heard.new.out stands done c.use_up.ensures

pub returns-clause-harmless : goal.returns-clause-harmless
returns-clause-harmless c = λ r h tag d setup nonce few stands.
    let done = returns-clause-done c r h tag d setup nonce few stands in
    let sealed : List ℕ = c.args.sealed.now in
    let out : List ℕ = c.on_record-heard.new.out in
    record_harmless r h tag sealed (record_chosen r h sealed d) d c.on_record-heard.result (body_by c.on_record-heard.result out) out done.told done.body (λ code is. ap (λ (x : Heard). body_by x out) is)

pub returns-clause-drawn : goal.returns-clause-drawn
returns-clause-drawn c = λ r h tag d setup nonce few stands.
    let done = returns-clause-done c r h tag d setup nonce few stands in
    let sealed : List ℕ = c.args.sealed.now in
    c.tells_measured-self.ensures ∙ ap tells_measured done.told ∙ record_tells r h tag sealed (record_chosen r h sealed d) d
