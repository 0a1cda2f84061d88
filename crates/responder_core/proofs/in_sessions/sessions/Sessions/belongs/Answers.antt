use Rattle.std.proofs.Common.{◌∙◌, ap, sym}
use Rattle.responder_core.proofs.AnswerKeys.{none_named, slot_named, with_live}
use Rattle.responder_core.proofs.in_sessions.sessions.Sessions.belongs.Goals as goal
use Rattle.responder_core.specs.OwnAnswers.{belongs_in}
use Rattle.responder_machine.specs.Session.{Events, id_in_record, session_of}
use Rattle.responder_session.specs.OwnAnswers.{belongs_to}
use Rattle.spdm_basis.specs.declared.values.session_id.SessionId.{SessionId}

pub returns-in-Some : goal.returns-in-Some
returns-in-Some c = λ r h stands.
    let sealed = c.args.sealed.now in
    let s = session_of (id_in_record sealed) h in
    let id = ap (λ (x : SessionId). x.rsp) c.record_id.ensures in
    let live = slot_named c.args.self.now r h sealed c.record_id.result.rsp c.in-Some.live.now stands id c.in-Some.ensures in
    c.belongs.ensures.live r.psk s live.session ∙ with_live s (belongs_to r.psk s sealed) live.session.keeps.live

pub returns-in-None : goal.returns-in-None
returns-in-None c = λ r h stands.
    let sealed = c.args.sealed.now in
    let id = ap (λ (x : SessionId). x.rsp) c.record_id.ensures in
    sym (ap (λ (e : Events). belongs_in r e sealed) (none_named c.args.self.now r h sealed c.record_id.result.rsp stands id c.in-None.ensures))
