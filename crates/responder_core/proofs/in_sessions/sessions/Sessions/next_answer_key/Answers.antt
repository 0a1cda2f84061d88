use Rattle.std.proofs.Common.{ap}
use Rattle.responder_core.proofs.AnswerKeys.{next_key, no_next, none_named, slot_named}
use Rattle.responder_core.proofs.in_sessions.sessions.Sessions.next_answer_key.Goals as goal
use Rattle.responder_machine.specs.Session.{id_in_record, session_of}
use Rattle.spdm_basis.specs.declared.values.session_id.SessionId.{SessionId}

pub returns-in-Some : goal.returns-in-Some
returns-in-Some c = λ r h stands.
    let sealed = c.args.sealed.now in
    let s = session_of (id_in_record sealed) h in
    let id = ap (λ (x : SessionId). x.rsp) c.record_id.ensures in
    let live = slot_named c.args.self.now r h sealed c.record_id.result.rsp c.in-Some.live.now stands id c.in-Some.ensures in
    next_key r s c.next_answer_key.result live.session.keeps.live (c.next_answer_key.ensures.live r.psk s live.session)

pub returns-in-None : goal.returns-in-None
returns-in-None c = λ r h stands.
    let sealed = c.args.sealed.now in
    let id = ap (λ (x : SessionId). x.rsp) c.record_id.ensures in
    no_next r (session_of (id_in_record sealed) h) (none_named c.args.self.now r h sealed c.record_id.result.rsp stands id c.in-None.ensures)
