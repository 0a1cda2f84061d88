use Rattle.std.proofs.Common.{ap}
use Rattle.responder_core.proofs.AnswerKeys.{no_reply, none_named, reply_key, slot_named}
use Rattle.responder_core.proofs.Recorded.{epochs}
use Rattle.responder_core.proofs.in_sessions.sessions.Sessions.answer_key.Goals as goal
use Rattle.responder_machine.specs.Session.{id_in_record, session_of}
use Rattle.spdm_basis.specs.declared.values.session_id.SessionId.{SessionId}

pub returns-in-Some : goal.returns-in-Some
returns-in-Some c = λ r h f few stands.
    let request = c.args.request.now in
    let s = session_of (id_in_record request) h in
    let id = ap (λ (x : SessionId). x.rsp) c.record_id.ensures in
    let live = slot_named c.args.self.now r h request c.record_id.result.rsp c.in-Some.live.now stands id c.in-Some.ensures in
    reply_key r s f request c.answer_key.new.inner c.answer_key.result live.session.keeps.live (c.answer_key.ensures.live r s f live.sizes (epochs h (id_in_record request) few) live.session)

pub returns-in-None : goal.returns-in-None
returns-in-None c = λ r h f few stands.
    let request = c.args.request.now in
    let id = ap (λ (x : SessionId). x.rsp) c.record_id.ensures in
    no_reply r (session_of (id_in_record request) h) f request c.args.inner.now (none_named c.args.self.now r h request c.record_id.result.rsp stands id c.in-None.ensures)
