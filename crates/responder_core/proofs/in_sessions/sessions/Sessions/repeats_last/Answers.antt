use Rattle.std.proofs.Common.{ap, sym}
use Rattle.responder_core.proofs.AnswerKeys.{none_named, slot_named}
use Rattle.responder_core.proofs.in_sessions.sessions.Sessions.repeats_last.Goals as goal
use Rattle.responder_machine.specs.Responder.{repeats}
use Rattle.responder_machine.specs.Session.{Events, id_in_record, last_of, session_of}
use Rattle.spdm_basis.specs.declared.values.session_id.SessionId.{SessionId}

pub returns-in-Some : goal.returns-in-Some
returns-in-Some c = λ r h stands.
    let sealed = c.args.sealed.now in
    let id = ap (λ (x : SessionId). x.rsp) c.record_id.ensures in
    let live = slot_named c.args.self.now r h sealed c.record_id.result.rsp c.in-Some.live.now stands id c.in-Some.ensures in
    c.repeats_last.ensures.live r.psk (session_of (id_in_record sealed) h) live.session

pub returns-in-None : goal.returns-in-None
returns-in-None c = λ r h stands.
    let sealed = c.args.sealed.now in
    let id = ap (λ (x : SessionId). x.rsp) c.record_id.ensures in
    sym (ap (λ (e : Events). repeats (last_of e) sealed) (none_named c.args.self.now r h sealed c.record_id.result.rsp stands id c.in-None.ensures))
