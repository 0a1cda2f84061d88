use Rattle.std.proofs.Common.{◌∙◌, sym}
use Rattle.responder_machine.specs.Records.{response_purpose}
use Rattle.responder_machine.specs.Session.{session_terms}
use Rattle.responder_session.proofs.LastRead.{reply_inner, reply_told}
use Rattle.responder_session.proofs.kept.Kept.open_reply.Goals as goal

pub returns-clause-told : goal.returns-clause-told
returns-clause-told c = λ psk s keeps.
    c.is_ok.ensures.value
    ∙ reply_told c.args.self.now psk s keeps c.args.answer.now c.open_record.result c.in-Some.number c.in-Some.ensures
    (c.open_record.ensures.fault (session_terms s).choice (response_purpose psk s) keeps.response)

pub returns-clause-inner : goal.returns-clause-inner
returns-clause-inner c = λ psk s keeps opens.
    reply_inner c.args.self.now psk s keeps c.args.answer.now c.open_record.result c.in-Some.number c.open_record.new.out c.in-Some.ensures (sym c.is_ok.ensures.value ∙ opens)
    (c.open_record.ensures.inner (session_terms s).choice (response_purpose psk s) keeps.response)
