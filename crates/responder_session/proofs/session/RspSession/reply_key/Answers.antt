use Rattle.std.proofs.Common.{◌≡◌, ◌∙◌, ◌+◌, ◌-◌, ◌<◌, ◌^◌, sym, subst, ℕ}
use Rattle.responder_machine.specs.Records.{response_purpose}
use Rattle.responder_machine.specs.Responder.{session_turn}
use Rattle.responder_machine.specs.Session.{id_bytes, response_epoch, response_next, session_terms}
use Rattle.responder_session.proofs.AnswerKeys.{reply_follows}
use Rattle.responder_session.proofs.session.RspSession.reply_key.Goals as goal
use Rattle.responder_session.specs.OwnAnswers.{IsAnswerKey}

pub returns-then-is_update_of_all : goal.returns-then-is_update_of_all
returns-then-is_update_of_all c = λ r s f sizes epochs stands at.
    let choice = (session_terms s).choice in
    let key = c.present_key-key.ensures r.psk s stands in
    let same : (response_purpose r.psk s).epoch ≡ response_epoch s = sym stands.keeps.response.secret.epoch ∙ stands.keeps.response_epoch in
    let few = subst (λ (n : ℕ). n < 2 ^ 64 - 1) (sym (key.key.secret.epoch ∙ same)) epochs.response in
    reply_follows c.next.result r.psk s (session_turn r s c.args.inner.now f) (sym (c.is_update_of_all.ensures r s f sizes stands at) ∙ c.if-is_update_of_all.true)
    (subst (λ (n : ℕ). IsAnswerKey c.next.result choice (record (response_purpose r.psk s) { epoch = n + 1 }) 0 (id_bytes s)) same
    (c.next.ensures few choice (response_purpose r.psk s) (response_next s) (id_bytes s) key))
