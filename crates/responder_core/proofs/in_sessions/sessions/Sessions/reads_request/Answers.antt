use Rattle.std.proofs.Common.{◌∙◌, ap, sym}
use Rattle.responder_core.proofs.AnswerKeys.{none_named, of_ok, slot_named, with_live}
use Rattle.responder_core.proofs.in_sessions.sessions.Sessions.reads_request.Goals as goal
use Rattle.responder_core.specs.OwnAnswers.{opens_in}
use Rattle.responder_machine.specs.Records.{opening_fault}
use Rattle.responder_machine.specs.Session.{Events, id_in_record, session_of}
use Rattle.responder_session.proofs.AnswerKeys.{opens_is}
use Rattle.spdm_basis.specs.declared.values.session_id.SessionId.{SessionId}
use Rattle.std.specs.Prelude.{is_none}

pub returns-in-Some-clause-opens : goal.returns-in-Some-clause-opens
returns-in-Some-clause-opens c = λ r h stands.
    let sealed = c.args.sealed.now in
    let s = session_of (id_in_record sealed) h in
    let id = ap (λ (x : SessionId). x.rsp) c.record_id.ensures in
    let live = slot_named c.args.self.now r h sealed c.record_id.result.rsp c.in-Some.live.now stands id c.in-Some.ensures in
    c.is_ok.ensures.value ∙ opens_is c.read_request.result (opening_fault r.psk s sealed) (c.read_request.ensures.fault r.psk s live.session)
    ∙ with_live s (is_none (opening_fault r.psk s sealed)) live.session.keeps.live

pub returns-in-Some-clause-inner : goal.returns-in-Some-clause-inner
returns-in-Some-clause-inner c = λ r h stands opens.
    let sealed = c.args.sealed.now in
    let s = session_of (id_in_record sealed) h in
    let id = ap (λ (x : SessionId). x.rsp) c.record_id.ensures in
    let live = slot_named c.args.self.now r h sealed c.record_id.result.rsp c.in-Some.live.now stands id c.in-Some.ensures in
    of_ok c.read_request.result _ (sym c.is_ok.ensures.value ∙ opens) (c.read_request.ensures.inner r.psk s live.session)

pub returns-in-None-clause-opens : goal.returns-in-None-clause-opens
returns-in-None-clause-opens c = λ r h stands.
    let sealed = c.args.sealed.now in
    let id = ap (λ (x : SessionId). x.rsp) c.record_id.ensures in
    sym (ap (λ (e : Events). opens_in r e sealed) (none_named c.args.self.now r h sealed c.record_id.result.rsp stands id c.in-None.ensures))
