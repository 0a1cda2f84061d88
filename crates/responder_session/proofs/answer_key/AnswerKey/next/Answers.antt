use Rattle.std.proofs.Common.{refl}
use Rattle.responder_session.proofs.answer_key.AnswerKey.next.Goals as goal

pub returns : goal.returns
returns c = λ few choice p number id is. record { key = c.update.ensures few choice p is.key; number = refl; id = is.id }
