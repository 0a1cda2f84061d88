use Rattle.std.proofs.Common.{refl, subst, sym, List, ℕ}
use Rattle.responder_session.proofs.Answered.{answered}
use Rattle.responder_session.specs.Exchange.{begun}
use Rattle.responder_session.specs.Session as sessions
use Rattle.responder_session.proofs.handshake.RspHandshake.start.Goals as goal

pub returns-clause-answer : goal.returns-clause-answer
returns-clause-answer c = λ n vca terms.
    c.start.ensures.answer n vca terms (answered c.args.terms c.args.parts.now c.requires.parts c.requires.context)

pub returns-clause-stands : goal.returns-clause-stands
returns-clause-stands c = λ r n psk sizes vca terms.
    let stands = c.start.ensures.stands n vca terms (answered c.args.terms c.args.parts.now c.requires.parts c.requires.context) in
    record {
      session = subst (λ (k : List ℕ). sessions.StandsFor c.start.result k (begun n c.args.exchange.now c.start.new.out)) (sym psk) stands;
      stage = refl;
      sizes = sizes;
    }
