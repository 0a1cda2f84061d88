use Rattle.std.proofs.Common.{◌≡◌, subst, sym}
use Rattle.responder_core.proofs.Reached.{capable}
use Rattle.responder_core.specs.Negotiating.{Seen, StandsFor}
use Rattle.spdm_grammar.specs.declared.told.phase.Phase.TheVariants.{Versioned}
use Rattle.responder_core.proofs.clear.negotiating.Negotiating.take_capabilities.Goals as goal

pub returns : goal.returns
returns c = λ r p f caps turns t large stands phase fits is agreed answered effect.
    let before : Seen = record { phase = c.self.inside.phase; messages = c.self.inside.messages; common = c.self.inside.common; choice = c.self.inside.choice } in
    let same : c.args.self.now ≡ before = sym c.self.view_is in
    let stood = subst (λ (s : Seen). StandsFor s turns) same stands in
    let versioned = subst (λ (s : Seen). s.phase ≡ Versioned) same phase in
    capable r p f caps c.args.common c.args.request.now c.args.answer.now c.keep.new.messages large before turns t c.keep.ensures stood versioned fits is agreed answered effect
