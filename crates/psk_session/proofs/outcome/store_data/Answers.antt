use Rattle.std.proofs.Common.{◌≡◌, ◌∙◌, ap, sym, subst}
use Rattle.psk_session.specs.Held.{verdict_of}
use Rattle.psk_session.specs.Verdict as verdicts
use Rattle.psk_session.specs.Verdict.{Fits}
use Rattle.psk_session.proofs.Replies.{extended}
use Rattle.psk_session.proofs.outcome.store_data.Goals as goal

pub returns-in-Answered : goal.returns-in-Answered
returns-in-Answered c = λ s a answer fits.
    let e : verdict_of c.args.verdict ≡ verdicts.Verdict.Answered c.in-Answered.reply c.in-Answered.bytes.now = ap verdict_of c.in-Answered.is in
    let f = subst (λ (v : verdicts.Verdict). Fits s a answer v) e fits in
    ap (verdicts.Verdict.Answered c.in-Answered.reply)
    (extended c.extend.result c.clear.new.self c.extend.new.self c.in-Answered.bytes.now c.clear.ensures c.extend.ensures.ok c.extend.ensures.full f.3)
    ∙ sym e
