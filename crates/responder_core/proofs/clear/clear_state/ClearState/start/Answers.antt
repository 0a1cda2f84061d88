use Rattle.std.proofs.Common.{refl, ◌≡◌, ◌∙◌, sym, subst, ap, List, ℕ}
use Rattle.std.specs.Prelude.{◌==◌, ◌||◌, slice_index}
use Rattle.responder_core.proofs.Exchanged.{asked_kind, started}
use Rattle.responder_core.proofs.Lengths.{exchange_kind}
use Rattle.responder_core.proofs.clear.clear_state.ClearState.start.Goals as goal
use Rattle.responder_core.specs.ClearState.{Seen, StandsFor, place_at}
use Rattle.responder_machine.specs.Answer.{summary_answer}
use Rattle.responder_machine.specs.History.{negotiation_of}
use Rattle.responder_machine.specs.Place.{Place}
use Rattle.responder_session.specs.ExchangeLaws.{ArePartsOf}
use Rattle.responder_session.specs.declared.parts.ExchangeParts.{ExchangeParts}

pub returns : goal.returns
returns c = λ r at turns held f asked setup free stands is fits.
    let p : Place = place_at at turns held in
    let exchange : List ℕ = c.args.exchange.now in
    let before : Seen = record { negotiating = c.self.inside.negotiating; large = c.self.inside.large } in
    let same : c.args.self.now ≡ before = sym c.self.view_is in
    let stood = subst (λ (s : Seen). StandsFor s turns) same stands in
    let kind = exchange_kind p exchange asked is in
    let parts : ExchangeParts = record { heartbeat = c.heartbeat.result; rsp_id = c.args.free.now.id; summary = c.summary_bytes.result; context = c.args.free.now.context; opaque = c.args.free.now.exchange_opaque } in
    let are : ArePartsOf r p f asked parts = record {
      heartbeat = c.heartbeat.ensures r at turns held setup stands;
      id = sym free.id;
      summary = c.summary_bytes.ensures ∙ c.summary-summary.ensures.value r at turns held setup stands ∙ ap (λ (k : ℕ). summary_answer r p k) (c.byte_at.ensures ∙ kind.0);
      context = sym free.context;
      opaque = sym free.exchange_opaque;
    } in
    let asks = c.is_some.ensures ∙ c.summary-summary.ensures.asked ∙ ap (λ (k : ℕ). k == 1 || k == 255) c.byte_at.ensures ∙ asked_kind (slice_index exchange 2) kind.1 in
    let terms = c.terms-terms.ensures.value turns stands asks in
    started r p turns exchange f asked c.terms-terms.result parts c.start.result c.args.setup.now.psk.now c.start.new.out refl is are terms setup.psk fits
    (c.start.ensures.answer (negotiation_of turns) (c.vca.ensures ∙ stood.negotiating.messages) terms) (c.start.ensures.stands (negotiation_of turns) (c.vca.ensures ∙ stood.negotiating.messages) terms)
