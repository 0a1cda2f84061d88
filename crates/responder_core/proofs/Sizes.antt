-- The sizes that both ends settled, turn by turn.
use Rattle.std.proofs.Common.{refl, ◌∙◌, ◌≡◌, ◌≤◌, ℕ, List, [], ◌∷◌, true, false, Bool, Option, Some, None, ap, sym, subst, arith}
use Rattle.std.proofs.lemmas.Bool.{false≢true}
use Rattle.std.specs.Prelude.{if◌then◌else◌, is_none}
use Rattle.std.specs.Result.{result_ok}
use Rattle.spdm_machine.proofs.Settling.{algorithms_keep}
use Rattle.responder_core.proofs.Table.{phase_allowed}
use Rattle.responder_core.proofs.Outcomes.{by_clear}
use Rattle.responder_core.specs.Connected.{HasSizesAt}
use Rattle.responder_core.specs.Refused.{IsClear}
use Rattle.negotiate.specs.Capabilities.{common_of}
use Rattle.negotiate.specs.declared.shared.Common.{Common}
use Rattle.responder_machine.proofs.Settled.{common_settled}
use Rattle.responder_machine.proofs.Sizes.{caps_fit, common_has_sizes}
use Rattle.responder_machine.proofs.Tests.{contents_shown, form_passed}
use Rattle.responder_machine.specs.Answer.{Free, answer_bytes, request_at}
use Rattle.responder_machine.specs.Handling.{carried_turn, chunk_in, effect_of, handle_for, last_chunk_turn, taken_chunk, turn_by, turn_of}
use Rattle.responder_machine.specs.History.{History, clear_turns, negotiation_of, phase_of}
use Rattle.responder_machine.specs.Laws.{completed_at}
use Rattle.responder_machine.specs.Place.{Place, clear_place, inside}
use Rattle.responder_machine.specs.Refusal.{are_caps_refused, has_pending, phase_allows, refusal, sizes_are_known}
use Rattle.responder_machine.specs.Responder.{Outcome, after, on_clear}
use Rattle.responder_machine.specs.Setup.{RspSetup, responder_caps}
use Rattle.responder_machine.specs.SizeLaws.{HasSizes}
use Rattle.responder_machine.specs.Turn.{Effect, Turn}
use Rattle.responder_machine.specs.Turn.Effect.{NoEffect}
use Rattle.spdm_grammar.specs.Message.{ChunkMessage, RequestMessage}
use Rattle.spdm_grammar.specs.Message.RequestMessage.{GetCapabilities, GetVersion, NegotiateAlgorithms}
use Rattle.spdm_grammar.specs.declared.messages.capabilities.Caps.{Caps}
use Rattle.spdm_grammar.specs.declared.messages.error_code.ErrorCode.{ErrorCode}
use Rattle.spdm_grammar.specs.declared.names.TheConstants.{MAX_MESSAGE_SIZE}
use Rattle.spdm_grammar.specs.declared.names.request_code.TheConstants.{NEGOTIATE_ALGORITHMS}
use Rattle.spdm_grammar.specs.declared.told.phase.Phase.{Phase}
use Rattle.spdm_grammar.specs.declared.told.phase.Phase.TheVariants.{Capable, Fresh, Negotiated, Versioned}
use Rattle.spdm_machine.specs.Keys.{Draw}
use Rattle.spdm_machine.specs.Terms.{terms_of}

-- ---- What capabilities settle.

caps_sizes : (r : RspSetup) (p : Place) (m : List ℕ) (f : Free) (caps : Caps) (turns : List Turn) (x : Option Common) → r.transfer ≤ r.max → r.max ≤ MAX_MESSAGE_SIZE
    → request_at p m ≡ Some (GetCapabilities caps) → result_ok (common_of caps (responder_caps r)) ≡ x → is_none x ≡ false
    → HasSizes r (terms_of (record (negotiation_of turns) { get_capabilities = m; capabilities = answer_bytes r p m f })).common
caps_sizes r p m f caps turns None ordered most is agreed some = absurd (false≢true (sym some))
caps_sizes r p m f caps turns (Some common) ordered most is agreed some =
    subst (HasSizes r) (sym (common_settled r p m f caps common (negotiation_of turns) (caps_fit r (omega (arith, ordered, most)) (omega (arith, most))) is agreed)) (common_has_sizes r caps common (omega (arith, ordered, most)) most agreed)

-- ---- What a request leaves of them.

offer_knows : (phase : Phase) (pending : Bool) → phase_allows phase pending NEGOTIATE_ALGORITHMS ≡ true → sizes_are_known phase ≡ true
offer_knows Fresh pending h = absurd (false≢true h)
offer_knows Versioned pending h = absurd (false≢true h)
offer_knows Capable pending h = refl
offer_knows Negotiated pending h = refl

-- A turn of this effect.
abbrev turn_with : Turn → Effect → Turn
turn_with t e = record t { effect = e }

request_sizes : (r : RspSetup) (p : Place) (m : List ℕ) (f : Free) (large : Option ℕ) (turns : List Turn) (t : Turn) (q : Option RequestMessage) → r.transfer ≤ r.max → r.max ≤ MAX_MESSAGE_SIZE
    → IsClear p.at → p.phase ≡ phase_of turns → refusal r p m f ≡ None → request_at p m ≡ q → HasSizesAt r turns
    → HasSizesAt r (turn_with t (effect_of q m (answer_bytes r p m f) large) ∷ turns)
request_sizes r p m f large turns t None ordered most clear phase taken is older = older
request_sizes r p m f large turns t (Some GetVersion) ordered most clear phase taken is older = λ known. absurd (false≢true known)
request_sizes r p m f large turns t (Some (GetCapabilities caps)) ordered most clear phase taken is older = λ known.
    caps_sizes r p m f caps turns (result_ok (common_of caps (responder_caps r))) ordered most is refl (sym (ap (are_caps_refused r) is) ∙ contents_shown r p m f taken 1)
request_sizes r p m f large turns t (Some (NegotiateAlgorithms offer)) ordered most clear phase taken is older = λ known.
    subst (HasSizes r) (sym (algorithms_keep (negotiation_of turns) m (answer_bytes r p m f)))
    (older (ap sizes_are_known (sym phase) ∙ offer_knows p.phase (has_pending p) (phase_allowed r p m (NegotiateAlgorithms offer) clear (form_passed r p m f taken) is)))
request_sizes r p m f large turns t (Some _) ordered most clear phase taken is older = older

carried_sizes : (r : RspSetup) (p : Place) (m : List ℕ) (f : Free) (c : ChunkMessage) (whole : List ℕ) (turns : List Turn) (x : Option ErrorCode) → r.transfer ≤ r.max → r.max ≤ MAX_MESSAGE_SIZE
    → IsClear p.at → p.phase ≡ phase_of turns → refusal r p whole f ≡ x → HasSizesAt r turns → HasSizesAt r (carried_turn r p m f c whole x ∷ turns)
carried_sizes r p m f c whole turns (Some e) ordered most clear phase is older = older
carried_sizes r p m f c whole turns None ordered most clear phase is older =
    request_sizes r p whole f (handle_for p f (answer_bytes r p whole f)) turns (carried_turn r p m f c whole None) (request_at p whole) ordered most clear phase is refl older

either_sizes : (r : RspSetup) (turns : List Turn) (b : Bool) (t u : Turn) → HasSizesAt r (t ∷ turns) → HasSizesAt r (u ∷ turns) → HasSizesAt r ((if b then t else u) ∷ turns)
either_sizes r turns true t u x y = x
either_sizes r turns false t u x y = y

by_sizes : (r : RspSetup) (h : History) (m : List ℕ) (f : Free) (x : Option ErrorCode) (c : Option ChunkMessage) → r.transfer ≤ r.max → r.max ≤ MAX_MESSAGE_SIZE → refusal r (clear_place h) m f ≡ x
    → HasSizesAt r (clear_turns h) → HasSizesAt r (turn_by r (clear_place h) m f x c ∷ clear_turns h)
by_sizes r h m f (Some e) c ordered most is older = older
by_sizes r h m f None None ordered most is older =
    let p : Place = clear_place h in
    request_sizes r p m f (handle_for p f (answer_bytes r p m f)) (clear_turns h) (turn_by r p m f None None) (request_at p m) ordered most tt refl is refl older
by_sizes r h m f None (Some c) ordered most is older =
    let p : Place = clear_place h in
    either_sizes r (clear_turns h) c.last (last_chunk_turn r (inside p) m f c (completed_at p c)) (taken_chunk m c NoEffect [])
    (carried_sizes r (inside p) m f c (completed_at p c) (clear_turns h) (refusal r (inside p) (completed_at p c) f) ordered most tt refl refl older) older

turn_sizes : (r : RspSetup) (h : History) (m : List ℕ) (f : Free) → r.transfer ≤ r.max → r.max ≤ MAX_MESSAGE_SIZE → HasSizesAt r (clear_turns h)
    → HasSizesAt r (turn_of r (clear_place h) m f ∷ clear_turns h)
unfolding turn_of
turn_sizes r h m f ordered most older = by_sizes r h m f (refusal r (clear_place h) m f) (chunk_in (request_at (clear_place h) m)) ordered most refl older

pub sizes_after : (r : RspSetup) (h : History) (tag : ℕ) (m : List ℕ) (f : Free) (d : Draw) → r.transfer ≤ r.max → r.max ≤ MAX_MESSAGE_SIZE → HasSizesAt r (clear_turns h)
    → HasSizesAt r (clear_turns (after h (on_clear r h tag m f d)))
sizes_after r h tag m f d ordered most older = by_clear r h tag m f d (λ (o : Outcome). HasSizesAt r (clear_turns (after h o))) (λ body. older) (turn_sizes r h m f ordered most older)

pub no_sizes_yet : (r : RspSetup) → HasSizesAt r []
no_sizes_yet r = λ known. absurd (false≢true known)
