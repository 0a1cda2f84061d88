use Rattle.std.proofs.Common.{◌∙◌, ap, ℕ, List}
use Rattle.key_schedule.specs.Purpose as purpose
use Rattle.secured_record.specs.Faults.{opened_text}
use Rattle.secured_record.specs.Format as format
use Rattle.session_keys.proofs.Purposes.{iv_at, key_at}
use Rattle.responder_session.proofs.answer_key.AnswerKey.text.Goals as goal

pub returns : goal.returns
returns c = λ choice p number id is.
    let key = c.args.self.now.key in
    c.text.ensures
    ∙ ap (λ (k : List ℕ). opened_text k (format.iv_of key) c.args.self.now.number c.args.sealed.now) (key_at key choice p is.key)
    ∙ ap (λ (v : List ℕ). opened_text (purpose.key_of choice.hash choice.aead p) v c.args.self.now.number c.args.sealed.now) (iv_at key choice p is.key)
    ∙ ap (λ (n : ℕ). opened_text (purpose.key_of choice.hash choice.aead p) (purpose.iv_of choice.hash p) n c.args.sealed.now) is.number
