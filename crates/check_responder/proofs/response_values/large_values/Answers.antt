use Rattle.std.proofs.Common.{◌-◌, subst, length, ℕ}
use Rattle.responder_core.specs.Free.{IsFree}
use Rattle.responder_machine.specs.Answer.{Free, answer_bytes, request_at}
use Rattle.check_responder.proofs.ResponseRead.{handle_long}
use Rattle.check_responder.specs.JudgedResponder.{AreTooLong}
use Rattle.check_laws.specs.AnswersShown.{least_large, lengthened}
use Rattle.check_responder.proofs.response_values.large_values.Goals as goal

pub returns-in-Some : goal.returns-in-Some
returns-in-Some c = λ r p f set at free short.
    let m = c.args.message.now in
    let g : ℕ → Free = λ n. lengthened f (request_at p m) (n - length (answer_bytes r p m f)) in
    c.with_handle.ensures (g (least_large p)) (subst (λ (n : ℕ). IsFree c.in-Some.long (g n)) (c.least_large.ensures p at) (c.in-Some.ensures r p f set at free short))

pub returns-in-None : goal.returns-in-None
returns-in-None c = λ r p f set at free short.
    let m = c.args.message.now in
    let g : ℕ → Free = λ n. lengthened f (request_at p m) (n - length (answer_bytes r p m f)) in
    handle_long r p m (g (least_large p)) c.args.handle (subst (λ (n : ℕ). AreTooLong r p m (g n)) (c.least_large.ensures p at) (c.in-None.ensures r p f set at free short))
