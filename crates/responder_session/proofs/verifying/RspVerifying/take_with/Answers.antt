use Rattle.std.proofs.Common.{◌∙◌, sym, refl}
use Rattle.spdm_grammar.specs.declared.told.phase.Stage.TheVariants.{Verifying}
use Rattle.responder_session.proofs.Stands.{closed_not_open}
use Rattle.responder_session.proofs.verifying.RspVerifying.take_with.Goals as goal

pub returns : goal.returns
returns c = λ r s f padded stands.
    c.of.ensures.live r s f c.args.sealed.now stands.sizes
    (c.take_with-told.ensures.live r s f stands.sizes (padded ∙ sym c.padding-free.ensures.pad)
    (λ at. absurd (closed_not_open s Verifying refl stands.stage at)) (λ at. absurd (closed_not_open s Verifying refl stands.stage at)) stands.session)
