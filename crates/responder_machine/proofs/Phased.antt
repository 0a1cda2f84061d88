-- Live sessions of a made history stand in phase Negotiated, under the connection's negotiation.
use Rattle.std.proofs.Common.{refl, ◌∙◌, ◌≡◌, ℕ, List, [], ◌∷◌, true, false, Bool, Option, Some, None, ap, sym, subst}
use Rattle.std.proofs.lemmas.Bool.{false≢true}
use Rattle.std.specs.Prelude.{if◌then◌else◌, not}
use Rattle.spdm_grammar.specs.Message.{RequestMessage, ChunkMessage}
use Rattle.spdm_grammar.specs.Message.RequestMessage.{GetCapabilities, NegotiateAlgorithms, PskExchange}
use Rattle.spdm_grammar.specs.declared.messages.error_code.ErrorCode.{ErrorCode}
use Rattle.spdm_grammar.specs.declared.told.phase.Phase.{Phase}
use Rattle.spdm_grammar.specs.declared.told.phase.Phase.TheVariants.{Fresh, Versioned, Capable, Negotiated}
use Rattle.responder_machine.proofs.Codes.{asked-code}
use Rattle.responder_machine.proofs.Made.{made_clear}
use Rattle.responder_machine.proofs.Tests.{form_shown}
use Rattle.responder_machine.specs.Answer.{Free, answer_bytes, request_at}
use Rattle.responder_machine.specs.Does.{IsMade, clear_chosen}
use Rattle.responder_machine.specs.Handling.{turn_of, turn_by, effect_of, carried_turn, last_chunk_turn, taken_chunk, chunk_in}
use Rattle.responder_machine.specs.History.{History, phase_of, clear_turns}
use Rattle.responder_machine.specs.History.Entry.{Clear}
use Rattle.spdm_machine.specs.Keys.{Draw}
use Rattle.responder_machine.specs.Laws.{completed_at}
use Rattle.responder_machine.specs.Place.{Place, clear_place, inside}
use Rattle.responder_machine.specs.Refusal.{refusal, phase_allows, has_pending, code_of, is_allowed}
use Rattle.responder_machine.specs.Setup.{RspSetup}
use Rattle.responder_machine.specs.Turn.{Turn, Effect}
use Rattle.responder_machine.specs.Turn.Effect.{NoEffect, Took, TookData}
use Rattle.spdm_grammar.specs.declared.names.request_code.TheConstants.{GET_CAPABILITIES, NEGOTIATE_ALGORITHMS, PSK_EXCHANGE}

abbrev pub IsPhasedRequest : Phase → RequestMessage → Type 0
IsPhasedRequest phase (GetCapabilities caps) = phase ≡ Versioned
IsPhasedRequest phase (NegotiateAlgorithms offer) = phase ≡ Capable
IsPhasedRequest phase (PskExchange exchange) = phase ≡ Negotiated
IsPhasedRequest phase _ = Unit {0}

-- An effect comes in a phase that allows it.
abbrev pub IsPhased : Phase → Effect → Type 0
IsPhased phase NoEffect = Unit {0}
IsPhased phase (Took asked request answer large) = IsPhasedRequest phase asked
IsPhased phase (TookData bytes answer) = Unit {0}

capabilities_phase : (phase : Phase) (pending : Bool) → not (phase_allows phase pending GET_CAPABILITIES) ≡ false → phase ≡ Versioned
capabilities_phase Fresh pending h = absurd (false≢true (sym h))
capabilities_phase Versioned pending h = refl
capabilities_phase Capable pending h = absurd (false≢true (sym h))
capabilities_phase Negotiated pending h = absurd (false≢true (sym h))

algorithms_phase : (phase : Phase) (pending : Bool) → not (phase_allows phase pending NEGOTIATE_ALGORITHMS) ≡ false → phase ≡ Capable
algorithms_phase Fresh pending h = absurd (false≢true (sym h))
algorithms_phase Versioned pending h = absurd (false≢true (sym h))
algorithms_phase Capable pending h = refl
algorithms_phase Negotiated pending h = absurd (false≢true (sym h))

exchange_phase : (phase : Phase) (pending : Bool) → not (phase_allows phase pending PSK_EXCHANGE) ≡ false → phase ≡ Negotiated
exchange_phase Fresh pending h = absurd (false≢true (sym h))
exchange_phase Versioned pending h = absurd (false≢true (sym h))
exchange_phase Capable pending h = absurd (false≢true (sym h))
exchange_phase Negotiated pending h = refl

-- A place outside sessions: what it allows is by its phase.
abbrev IsOutside : Place → Type 0
IsOutside p = (code : ℕ) → is_allowed p.at p code ≡ phase_allows p.phase (has_pending p) code

allowed_code : (r : RspSetup) (p : Place) (m : List ℕ) (f : Free) (code : ℕ) → IsOutside p → refusal r p m f ≡ None → code ≡ code_of m → not (phase_allows p.phase (has_pending p) code) ≡ false
allowed_code r p m f code outside taken is =
    ap not (sym (outside code)) ∙ subst (λ c. not (is_allowed p.at p c) ≡ false) (sym is) (form_shown r p m f taken 6)

phased_request : (r : RspSetup) (p : Place) (m : List ℕ) (f : Free) (answer : List ℕ) (large : Option ℕ) (q : Option RequestMessage) → IsOutside p → refusal r p m f ≡ None → request_at p m ≡ q
    → IsPhased p.phase (effect_of q m answer large)
phased_request r p m f answer large None outside taken is = tt
phased_request r p m f answer large (Some (GetCapabilities caps)) outside taken is =
    capabilities_phase p.phase (has_pending p) (allowed_code r p m f GET_CAPABILITIES outside taken (asked-code p m (GetCapabilities caps) is))
phased_request r p m f answer large (Some (NegotiateAlgorithms offer)) outside taken is =
    algorithms_phase p.phase (has_pending p) (allowed_code r p m f NEGOTIATE_ALGORITHMS outside taken (asked-code p m (NegotiateAlgorithms offer) is))
phased_request r p m f answer large (Some (PskExchange exchange)) outside taken is =
    exchange_phase p.phase (has_pending p) (allowed_code r p m f PSK_EXCHANGE outside taken (asked-code p m (PskExchange exchange) is))
phased_request r p m f answer large (Some _) outside taken is = tt

carried-phased : (r : RspSetup) (p : Place) (m : List ℕ) (f : Free) (c : ChunkMessage) (whole : List ℕ) (x : Option ErrorCode) → IsOutside p → refusal r p whole f ≡ x → IsPhased p.phase (carried_turn r p m f c whole x).effect
carried-phased r p m f c whole (Some e) outside h = tt
carried-phased r p m f c whole None outside h = phased_request r p whole f (answer_bytes r p whole f) _ (request_at p whole) outside h refl

either-phased : (phase : Phase) (b : Bool) (t u : Turn) → IsPhased phase t.effect → IsPhased phase u.effect → IsPhased phase (if b then t else u).effect
either-phased phase true t u x y = x
either-phased phase false t u x y = y

turn_by-phased : (r : RspSetup) (h : History) (m : List ℕ) (f : Free) (x : Option ErrorCode) (c : Option ChunkMessage) → refusal r (clear_place h) m f ≡ x → IsPhased (phase_of (clear_turns h)) (turn_by r (clear_place h) m f x c).effect
turn_by-phased r h m f (Some e) c refused = tt
turn_by-phased r h m f None None taken = phased_request r (clear_place h) m f (answer_bytes r (clear_place h) m f) _ (request_at (clear_place h) m) (λ code. refl) taken refl
turn_by-phased r h m f None (Some c) taken =
    either-phased (phase_of (clear_turns h)) c.last (last_chunk_turn r (inside (clear_place h)) m f c (completed_at (clear_place h) c)) (taken_chunk m c NoEffect [])
    (carried-phased r (inside (clear_place h)) m f c (completed_at (clear_place h) c) (refusal r (inside (clear_place h)) (completed_at (clear_place h) c) f) (λ code. refl) refl) tt

turn_of-phased : (r : RspSetup) (h : History) (m : List ℕ) (f : Free) → IsPhased (phase_of (clear_turns h)) (turn_of r (clear_place h) m f).effect
unfolding turn_of
turn_of-phased r h m f = turn_by-phased r h m f (refusal r (clear_place h) m f) (chunk_in (request_at (clear_place h) m)) refl

pub made_phased : (r : RspSetup) (h : History) (tag : ℕ) (t : Turn) (d : Draw) → IsMade r (Clear tag t d ∷ h) → IsPhased (phase_of (clear_turns h)) t.effect
made_phased r h tag t d made = subst (λ (u : Turn). IsPhased (phase_of (clear_turns h)) u.effect) (made_clear r h tag t d made) (turn_of-phased r h t.message (clear_chosen r h d))
