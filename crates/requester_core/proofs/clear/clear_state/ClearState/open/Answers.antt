use Rattle.std.proofs.Common.{refl, ◌≡◌, ◌∙◌, ◌≤◌, ap, subst, sym, ℕ, None, false, length}
use Rattle.requester_core.proofs.Started.{exchange_is, exchange_long, exchange_sound, failed, has_room, kind_known, told_done}
use Rattle.requester_core.specs.Outgoing as outgoing
use Rattle.requester_core.specs.ClearState.{Seen, StandsFor}
use Rattle.requester_core.specs.declared.clear.outstanding.PendingRequest.TheVariants as asks
use Rattle.negotiate.specs.declared.shared.Common.{Common}
use Rattle.requester_machine.specs.Commands.{command_fault, exchange_for}
use Rattle.requester_machine.specs.History.{connection_terms}
use Rattle.requester_machine.specs.Message.Command.{Open}
use Rattle.spdm_basis.specs.Sizes.{hash_size}
use Rattle.spdm_grammar.specs.Message.{RequestMessage}
use Rattle.spdm_grammar.specs.Message.RequestMessage.{PskExchange}
use Rattle.spdm_grammar.specs.Requests.{IsSoundRequest, canonical_request}
use Rattle.spdm_grammar.specs.declared.messages.choice.Choice.{Choice}
use Rattle.spdm_grammar.specs.declared.names.TheConstants.{MAX_MESSAGE_SIZE, MIN_DATA_TRANSFER_SIZE}
use Rattle.spdm_machine.specs.Terms.{hash_len}
use Rattle.requester_core.proofs.clear.clear_state.ClearState.open.Goals as goal

pub returns-in-Some : goal.returns-in-Some
returns-in-Some c = λ q h f d setup free allowed live stands.
    failed q h (Open c.args.summary) f d c.in-Some.fault c.args.self.now
    (c.in-Some.ensures q h f stands.shows live (sym (c.is_exchange_long.ensures q h f c.args.summary setup free allowed stands.shows)))

pub returns : goal.returns
returns c = λ q h f d setup free allowed live stands.
    let before : Seen = record { negotiating = c.self.inside.negotiating; outgoing = c.self.inside.outgoing; brought = c.self.inside.brought } in
    let stood = subst (λ (s : Seen). StandsFor s q h) (sym c.self.view_is) stands in
    let summary : ℕ = c.args.summary in
    let none : command_fault false q h (Open summary) f ≡ None = sym (c.in_default.ensures q h f stands.shows live (sym (c.is_exchange_long.ensures q h f summary setup free allowed stands.shows))) in
    let room = has_room q h (Open summary) f setup.sizes none refl stands.holds in
    let transfer : (connection_terms h).common.to_responder.transfer ≡ c.common.result.now.to_responder.transfer =
    ap (λ (x : Common). x.to_responder.transfer) (stood.shows.negotiating.common ∙ sym c.common.ensures) in
    let asked : RequestMessage =
    PskExchange (record { summary = summary; req_id = c.args.free.now.id; hint = c.args.setup.now.hint.now; context = c.args.free.now.context.now; opaque = c.args.free.now.opaque.now }) in
    let is : exchange_for q f summary ≡ asked = exchange_is q f summary c.args.setup.now c.args.free.now setup free in
    let long = exchange_long q f summary c.args.setup.now c.args.free.now setup free allowed.exchange in
    let size : hash_len (connection_terms h) ≡ c.size-hash_len.result =
    ap (λ (x : Choice). hash_size x.hash) (stood.shows.negotiating.choice ∙ sym c.choice.ensures) ∙ sym c.size-hash_len.ensures in
    let sound = subst (λ (n : ℕ). IsSoundRequest n asked) size (subst (λ (r : RequestMessage). IsSoundRequest (hash_len (connection_terms h)) r) is (exchange_sound q h f summary allowed (kind_known q h f summary none))) in
    let short = subst (λ (r : RequestMessage). length (canonical_request r) ≤ MAX_MESSAGE_SIZE) is (subst (λ (n : ℕ). n ≤ MAX_MESSAGE_SIZE) (sym long.1) long.0) in
    let kept = c.keep.ensures sound short in
    let request : c.keep.new.self.request ≡ canonical_request (exchange_for q f summary) = ap (λ (s : outgoing.Seen). s.request) kept ∙ ap canonical_request (sym is) in
    let sends = c.send_request.ensures h (exchange_for q f summary) (connection_terms h).common (ap (λ (s : outgoing.Seen). s.tag) kept ∙ stood.shows.outgoing.tag) (ap (λ (s : outgoing.Seen). s.handle) kept ∙ stood.shows.outgoing.handle)
    request (ap (λ (n : ℕ). asks.Exchange n summary) free.id) transfer (subst (λ (n : ℕ). MIN_DATA_TRANSFER_SIZE ≤ n) transfer room.least) (subst (λ (n : ℕ). n ≤ MAX_MESSAGE_SIZE) transfer room.most) in
    told_done q h (Open summary) f d (connection_terms h).common (exchange_for q f summary) before c.keep.new.self c.send_request.new.self c.send_request.result c.send_request.new.out
    refl refl (λ n. tt) none refl stood (ap (λ (s : outgoing.Seen). s.tag) kept) (ap (λ (s : outgoing.Seen). s.handle) kept) request sends
