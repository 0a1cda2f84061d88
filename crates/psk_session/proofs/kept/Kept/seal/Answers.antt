use Rattle.std.proofs.Common.{◌∙◌, ◌<◌, refl, arith}
use Rattle.key_schedule.specs.Purpose.{application_record}
use Rattle.key_schedule.specs.declared.direction.Direction.TheVariants.{Request}
use Rattle.requester_machine.specs.Session.{session_terms, t2_of, request_epoch}
use Rattle.psk_session.specs.Waiting.{awaited_by}
use Rattle.psk_session.proofs.Past.{keeps_asked, sealed_kept}
use Rattle.psk_session.proofs.kept.Kept.seal.Goals as goal

pub returns-clause-record : goal.returns-clause-record
returns-clause-record c = λ psk s epoch keeps few.
    let small : c.args.self.now.request_next < 65536 = omega (arith, keeps.request_next, few) in
    sealed_kept c.args.self.now psk s epoch c.record_number-number.result c.args.inner.now c.args.pad.now c.seal_record.new.out keeps
    (c.record_number-number.ensures small ∙ keeps.request_next)
    (c.seal_record.ensures.value (session_terms s).choice (application_record psk (t2_of s) Request (request_epoch s)) keeps.request)

pub returns-clause-keeps : goal.returns-clause-keeps
returns-clause-keeps c = λ psk s epoch awaited before sealed keeps few.
    keeps_asked (awaited_by awaited before) awaited before c.args.inner.now sealed c.args.self.now _ psk s epoch refl
    (λ i. record c.args.self.now { request_next = c.saturating_add-self.ensures i }) few keeps
