use Rattle.std.proofs.Common.{◌≡◌, subst, sym}
use Rattle.responder_core.proofs.Reached.{negotiated}
use Rattle.responder_core.specs.Negotiating.{Seen, StandsFor}
use Rattle.spdm_grammar.specs.declared.told.phase.Phase.TheVariants.{Capable}
use Rattle.responder_core.proofs.clear.negotiating.Negotiating.take_algorithms.Goals as goal

pub returns : goal.returns
returns c = λ r p f offer turns t large stands phase long is chosen answered effect.
    let before : Seen = record { phase = c.self.inside.phase; messages = c.self.inside.messages; common = c.self.inside.common; choice = c.self.inside.choice } in
    let same : c.args.self.now ≡ before = sym c.self.view_is in
    let stood = subst (λ (s : Seen). StandsFor s turns) same stands in
    let capable = subst (λ (s : Seen). s.phase ≡ Capable) same phase in
    negotiated r p f offer c.args.choice c.args.request.now c.args.answer.now c.keep.new.messages large before turns t c.keep.ensures stood capable long is chosen answered effect
