use Rattle.std.proofs.Common.{◌≡◌, ◌≢◌, ℕ, subst, sym}
use Rattle.std.specs.Prelude.{Err, Ok}
use Rattle.requester_core.proofs.SessionsBegun.{begins_by, begun_named, begun_slot, refuses_by}
use Rattle.requester_core.specs.SlotSteps.{IsAcceptedBy}
use Rattle.requester_core.specs.Slot.{IsSlotOf}
use Rattle.requester_core.specs.Sessions.{slot_of}
use Rattle.psk_session.specs.Opening.{started}
use Rattle.requester_machine.specs.History.{negotiation_of}
use Rattle.spdm_grammar.specs.Message.RequestMessage.{PskExchange}
use Rattle.spdm_grammar.specs.Requests.{canonical_request}
use Rattle.requester_core.proofs.in_sessions.sessions.Sessions.begin.Goals as goal

pub returns-in-Ok : goal.returns-in-Ok
returns-in-Ok c = λ q h f tag d sent m exchange padded brings stands.
    let old = c.args.self.now in
    let new = c.accept_at.new.self in
    let n = negotiation_of h in
    let x = canonical_request (PskExchange exchange) in
    let its : old.id ≡ exchange.req_id = begun_named q h f tag d sent m c.args.answer.now exchange brings old stands in
    let slot = begun_slot q h f tag d sent m c.args.answer.now exchange brings old stands in
    let own = subst (λ (i : ℕ). IsAcceptedBy q.psk n x c.args.answer.now c.args.pad.now (slot_of new i) (Ok tt)) its
    (c.in-Ok.ensures.own q.psk n x (subst (λ (i : ℕ). IsSlotOf (slot_of old i) q.psk (started n x)) (sym its) slot)) in
    let others = subst (λ (k : ℕ). (i : ℕ) → i ≢ k → slot_of new i ≡ slot_of old i) its c.in-Ok.ensures.others in
    begins_by q h f tag d sent m c.args.answer.now exchange brings old new c.args.pad.now padded stands own others c.in-Ok.ensures.id

pub returns-in-Err : goal.returns-in-Err
returns-in-Err c = λ q h f tag d sent m exchange padded brings stands.
    let old = c.args.self.now in
    let new = c.accept_at.new.self in
    let n = negotiation_of h in
    let x = canonical_request (PskExchange exchange) in
    let its : old.id ≡ exchange.req_id = begun_named q h f tag d sent m c.args.answer.now exchange brings old stands in
    let slot = begun_slot q h f tag d sent m c.args.answer.now exchange brings old stands in
    let own = subst (λ (i : ℕ). IsAcceptedBy q.psk n x c.args.answer.now c.args.pad.now (slot_of new i) (Err c.in-Err.field-0)) its
    (c.in-Err.ensures.own q.psk n x (subst (λ (i : ℕ). IsSlotOf (slot_of old i) q.psk (started n x)) (sym its) slot)) in
    let others = subst (λ (k : ℕ). (i : ℕ) → i ≢ k → slot_of new i ≡ slot_of old i) its c.in-Err.ensures.others in
    refuses_by q h f tag d sent m c.args.answer.now exchange brings old new c.args.pad.now c.in-Err.field-0 stands own others c.in-Err.ensures.id
