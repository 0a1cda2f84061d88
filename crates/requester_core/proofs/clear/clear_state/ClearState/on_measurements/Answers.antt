use Rattle.std.proofs.Common.{refl, ◌∙◌, ap, subst, sym, ℕ, arith}
use Rattle.requester_core.proofs.Leading.{extended, measured_brings, rest_follows}
use Rattle.requester_machine.proofs.ResponseLengths.{measured_short}
use Rattle.requester_core.specs.ClearState.{Seen, Shows}
use Rattle.requester_machine.specs.Answers.{measured_led}
use Rattle.requester_machine.specs.History.{connection_terms}
use Rattle.requester_machine.specs.History.Effect.{Answers}
use Rattle.spdm_grammar.specs.Message.{MeasuredMessage, measured_message}
use Rattle.spdm_grammar.specs.Message.RequestMessage.{GetMeasurements}
use Rattle.spdm_grammar.specs.declared.told.event.Event.TheVariants as event
use Rattle.spdm_grammar.specs.declared.told.event.Finished.TheVariants as finished
use Rattle.spdm_machine.specs.Terms.{hash_len}
use Rattle.requester_core.proofs.clear.clear_state.ClearState.on_measurements.Goals as goal

pub returns : goal.returns
returns c = λ h answer out shows short reads.
    let before : Seen = record { negotiating = c.self.inside.negotiating; outgoing = c.self.inside.outgoing; brought = c.self.inside.brought } in
    let shown = subst (λ (s : Seen). Shows s h) (sym c.self.view_is) shows in
    let op : ℕ = c.args.op in
    let measured : MeasuredMessage = measured_message c.args.measured.now in
    let fits = measured_short (hash_len (connection_terms h)) answer measured reads in
    let brings = extended c.extend.result c.clear.new.self c.extend.new.self measured.block_bytes c.clear.ensures c.extend.ensures.ok c.extend.ensures.full (omega (arith, fits, short)) in (
      measured_led op measured (Answers (GetMeasurements op) answer),
      refl,
      record {
        event = ap (λ (n : ℕ). event.Done (finished.Measured n)) (sym c.measured_number.ensures);
        next = refl;
        follows = rest_follows h (Answers (GetMeasurements op) answer) (measured_led op measured (Answers (GetMeasurements op) answer)).event before before.negotiating c.clear_outstanding.new.self c.extend.new.self shown shown.negotiating c.clear_outstanding.ensures
            (brings ∙ measured_brings h op answer measured reads);
      },
    )
