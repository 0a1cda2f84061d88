use Rattle.std.proofs.Common.{refl, ◌≡◌, ◌∙◌, ◌≤◌, ap, subst, sym, arith, ℕ, None, false}
use Rattle.requester_core.proofs.Started.{failed, has_room, told_done}
use Rattle.requester_core.specs.Outgoing as outgoing
use Rattle.requester_core.specs.ClearState.{Seen, StandsFor}
use Rattle.negotiate.specs.declared.shared.Common.{Common}
use Rattle.requester_machine.specs.Commands.{command_fault}
use Rattle.requester_machine.specs.History.{connection_terms}
use Rattle.requester_machine.specs.Message.Command.{Measure}
use Rattle.spdm_grammar.specs.Message.RequestMessage.{GetMeasurements}
use Rattle.spdm_grammar.specs.declared.names.TheConstants.{MAX_MESSAGE_SIZE, MIN_DATA_TRANSFER_SIZE}
use Rattle.requester_core.proofs.clear.clear_state.ClearState.measure.Goals as goal

pub returns-in-Some : goal.returns-in-Some
returns-in-Some c = λ q h f d sizes stands. failed q h (Measure None c.args.op) f d c.in-Some.fault c.args.self.now (c.in-Some.ensures q h f c.args.op stands.shows)

pub returns : goal.returns
returns c = λ q h f d sizes stands.
    let before : Seen = record { negotiating = c.self.inside.negotiating; outgoing = c.self.inside.outgoing; brought = c.self.inside.brought } in
    let stood = subst (λ (s : Seen). StandsFor s q h) (sym c.self.view_is) stands in
    let none : command_fault false q h (Measure None c.args.op) f ≡ None = sym (c.in_default.ensures q h f c.args.op stands.shows) in
    let room = has_room q h (Measure None c.args.op) f sizes none refl stands.holds in
    let transfer : (connection_terms h).common.to_responder.transfer ≡ c.common.result.now.to_responder.transfer =
    ap (λ (x : Common). x.to_responder.transfer) (stood.shows.negotiating.common ∙ sym c.common.ensures) in
    let kept = c.keep.ensures tt (omega arith) in
    let sends = c.send_request.ensures h (GetMeasurements c.args.op) (connection_terms h).common (ap (λ (s : outgoing.Seen). s.tag) kept ∙ stood.shows.outgoing.tag) (ap (λ (s : outgoing.Seen). s.handle) kept ∙ stood.shows.outgoing.handle)
    (ap (λ (s : outgoing.Seen). s.request) kept) refl transfer (subst (λ (n : ℕ). MIN_DATA_TRANSFER_SIZE ≤ n) transfer room.least) (subst (λ (n : ℕ). n ≤ MAX_MESSAGE_SIZE) transfer room.most) in
    told_done q h (Measure None c.args.op) f d (connection_terms h).common (GetMeasurements c.args.op) before c.keep.new.self c.send_request.new.self c.send_request.result c.send_request.new.out
    refl refl (λ n. tt) none refl stood (ap (λ (s : outgoing.Seen). s.tag) kept) (ap (λ (s : outgoing.Seen). s.handle) kept) (ap (λ (s : outgoing.Seen). s.request) kept) sends
