use Rattle.std.proofs.Common.{ap, sym}
use Rattle.responder_core.proofs.AnswerKeys.{none_named, slot_named}
use Rattle.responder_core.proofs.in_sessions.sessions.Sessions.read_last.Goals as goal
use Rattle.responder_machine.specs.Session.{Events, id_in_record, session_of}
use Rattle.responder_session.specs.LastRead.{reads_last}
use Rattle.spdm_basis.specs.declared.values.session_id.SessionId.{SessionId}

pub returns-in-Some-clause-told : goal.returns-in-Some-clause-told
returns-in-Some-clause-told c = λ r h stands.
    let sealed = c.args.sealed.now in
    let id = ap (λ (x : SessionId). x.rsp) c.record_id.ensures in
    let live = slot_named c.args.self.now r h sealed c.record_id.result.rsp c.in-Some.live.now stands id c.in-Some.ensures in
    c.read_last.ensures.live r.psk (session_of (id_in_record sealed) h) live.session

pub returns-in-Some-clause-inner : goal.returns-in-Some-clause-inner
returns-in-Some-clause-inner c = λ r h stands opens.
    let sealed = c.args.sealed.now in
    let id = ap (λ (x : SessionId). x.rsp) c.record_id.ensures in
    let live = slot_named c.args.self.now r h sealed c.record_id.result.rsp c.in-Some.live.now stands id c.in-Some.ensures in
    c.read_last.ensures.inner r.psk (session_of (id_in_record sealed) h) live.session opens

pub returns-in-Some-clause-reply : goal.returns-in-Some-clause-reply
returns-in-Some-clause-reply c = λ r h stands opens.
    let sealed = c.args.sealed.now in
    let id = ap (λ (x : SessionId). x.rsp) c.record_id.ensures in
    let live = slot_named c.args.self.now r h sealed c.record_id.result.rsp c.in-Some.live.now stands id c.in-Some.ensures in
    c.read_last.ensures.reply r.psk (session_of (id_in_record sealed) h) live.session opens

pub returns-in-None-clause-told : goal.returns-in-None-clause-told
returns-in-None-clause-told c = λ r h stands.
    let sealed = c.args.sealed.now in
    let id = ap (λ (x : SessionId). x.rsp) c.record_id.ensures in
    sym (ap (λ (e : Events). reads_last r.psk e sealed c.args.answer.now) (none_named c.args.self.now r h sealed c.record_id.result.rsp stands id c.in-None.ensures))
