use Rattle.std.proofs.Common.{sym, subst, ℕ, List}
use Rattle.std.proofs.lemmas.Bool.{false≢true}
use Rattle.responder_core.specs.OwnAnswers.{IsReplyKey}
use Rattle.responder_machine.specs.Records.{reply_number, reply_purpose}
use Rattle.responder_machine.specs.Session.{Events, id_bytes, id_in_record, session_of, session_terms}
use Rattle.responder_machine.specs.Turn.{Turn}
use Rattle.check_fetched_laws.proofs.answer_texts.read_answer.Goals as goal
use Rattle.check_fetched_laws.specs.AnswerTexts.{history_for}
use Rattle.capture_machine.specs.Opening.{any_free, turn_in}

pub returns-in_default : goal.returns-in_default
returns-in_default c = λ r h whole few judges.
    let request : List ℕ = c.args.request.now in
    let s : Events = session_of (id_in_record request) (history_for h request whole) in
    let closed = subst (IsReplyKey r s any_free request c.answer_key.new.inner) c.in_default.is (c.answer_key.ensures r (history_for h request whole) any_free few judges) in
    (sym closed, λ is. absurd (false≢true is))

pub returns : goal.returns
returns c = λ r h whole few judges.
    let request : List ℕ = c.args.request.now in
    let s : Events = session_of (id_in_record request) (history_for h request whole) in
    let key = subst (IsReplyKey r s any_free request c.answer_key.new.inner) c.in-Some.is (c.answer_key.ensures r (history_for h request whole) any_free few judges) in
    let t : Turn = turn_in r s request in
    (sym key.0, λ is. c.text.ensures (session_terms s).choice (reply_purpose r.psk s t) (reply_number s t) (id_bytes s) key.2)
