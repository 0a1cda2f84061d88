-- What both ends can do in a made history, from phase Capable on.
use Rattle.std.proofs.Common.{refl, ◌∙◌, ◌≡◌, ℕ, List, [], ◌∷◌, true, false, Bool, Option, Some, None, ap, sym, subst}
use Rattle.std.proofs.lemmas.Bool.{false≢true}
use Rattle.std.specs.Prelude.{if◌then◌else◌, is_none}
use Rattle.std.specs.Result.{result_ok}
use Rattle.negotiate.specs.Capabilities.{common_of}
use Rattle.negotiate.specs.declared.shared.Common.{Common}
use Rattle.spdm_grammar.specs.Fields.{FitsCaps}
use Rattle.spdm_grammar.specs.Message.{RequestMessage, ChunkMessage}
use Rattle.spdm_grammar.specs.Message.RequestMessage.{GetVersion, GetCapabilities, NegotiateAlgorithms}
use Rattle.spdm_grammar.specs.declared.messages.capabilities.Caps.{Caps}
use Rattle.spdm_grammar.specs.declared.messages.error_code.ErrorCode.{ErrorCode}
use Rattle.spdm_grammar.specs.declared.told.phase.Phase.{Phase}
use Rattle.spdm_grammar.specs.declared.told.phase.Phase.TheVariants.{Capable}
use Rattle.responder_machine.proofs.Made.{made_clear}
use Rattle.responder_machine.proofs.Phased.{IsPhased, made_phased}
use Rattle.responder_machine.proofs.Settled.{common_settled}
use Rattle.responder_machine.proofs.Tests.{contents_shown}
use Rattle.responder_machine.specs.Answer.{Free, answer_bytes, request_at}
use Rattle.responder_machine.specs.Does.{IsMade, clear_chosen}
use Rattle.responder_machine.specs.Handling.{turn_of, turn_by, effect_of, carried_turn, last_chunk_turn, taken_chunk, chunk_in}
use Rattle.responder_machine.specs.History.{History, clear_turns, phase_of, negotiation_of}
use Rattle.responder_machine.specs.History.Entry.{Clear, Sealed, Queued, Ticked, Dropped}
use Rattle.spdm_machine.specs.Keys.{Draw}
use Rattle.responder_machine.specs.Laws.{completed_at}
use Rattle.responder_machine.specs.Place.{Place, clear_place, inside}
use Rattle.responder_machine.specs.Refusal.{refusal, are_caps_refused, sizes_are_known}
use Rattle.responder_machine.specs.Setup.{RspSetup, responder_caps}
use Rattle.responder_machine.specs.SizeLaws.{CommonIsNegotiated}
use Rattle.spdm_machine.specs.Terms.{terms_of}
use Rattle.responder_machine.specs.Turn.{Turn, Effect}
use Rattle.responder_machine.specs.Turn.Effect.{NoEffect, Took, TookData}
use Rattle.transcript.specs.Transcripts.{Negotiation}

-- Capabilities that a requester told and the responder's own can do this together.
abbrev pub IsCommon : RspSetup → Common → Type 0
IsCommon r common = (caps : Caps) × (result_ok (common_of caps (responder_caps r)) ≡ Some common)

-- The negotiation that a request of capabilities leads to has such common capabilities.
abbrev IsCommonRequest : RspSetup → RequestMessage → List ℕ → List ℕ → Type 0
IsCommonRequest r (GetCapabilities caps) request answer = (n : Negotiation) → IsCommon r (terms_of (record n { get_capabilities = request; capabilities = answer })).common
IsCommonRequest r _ request answer = Unit {0}

abbrev IsCommonEffect : RspSetup → Effect → Type 0
IsCommonEffect r NoEffect = Unit {0}
IsCommonEffect r (Took asked request answer large) = IsCommonRequest r asked request answer
IsCommonEffect r (TookData bytes answer) = Unit {0}

by_common : (r : RspSetup) (p : Place) (m : List ℕ) (f : Free) (caps : Caps) (x : Option Common) → FitsCaps (responder_caps r) → request_at p m ≡ Some (GetCapabilities caps) → result_ok (common_of caps (responder_caps r)) ≡ x → is_none x ≡ false
    → (n : Negotiation) → IsCommon r (terms_of (record n { get_capabilities = m; capabilities = answer_bytes r p m f })).common
by_common r p m f caps None fits is agreed some = absurd (false≢true (sym some))
by_common r p m f caps (Some common) fits is agreed some = λ n. subst (IsCommon r) (sym (common_settled r p m f caps common n fits is agreed)) (caps, agreed)

common_request : (r : RspSetup) (p : Place) (m : List ℕ) (f : Free) (large : Option ℕ) (q : Option RequestMessage) → FitsCaps (responder_caps r) → refusal r p m f ≡ None → request_at p m ≡ q
    → IsCommonEffect r (effect_of q m (answer_bytes r p m f) large)
common_request r p m f large None fits taken is = tt
common_request r p m f large (Some (GetCapabilities caps)) fits taken is =
    by_common r p m f caps (result_ok (common_of caps (responder_caps r))) fits is refl (sym (ap (are_caps_refused r) is) ∙ contents_shown r p m f taken 1)
common_request r p m f large (Some _) fits taken is = tt

carried-common : (r : RspSetup) (p : Place) (m : List ℕ) (f : Free) (c : ChunkMessage) (whole : List ℕ) (x : Option ErrorCode) → FitsCaps (responder_caps r) → refusal r p whole f ≡ x → IsCommonEffect r (carried_turn r p m f c whole x).effect
carried-common r p m f c whole (Some e) fits h = tt
carried-common r p m f c whole None fits h = common_request r p whole f _ (request_at p whole) fits h refl

either-common : (r : RspSetup) (b : Bool) (t u : Turn) → IsCommonEffect r t.effect → IsCommonEffect r u.effect → IsCommonEffect r (if b then t else u).effect
either-common r true t u x y = x
either-common r false t u x y = y

turn_by-common : (r : RspSetup) (p : Place) (m : List ℕ) (f : Free) (x : Option ErrorCode) (c : Option ChunkMessage) → FitsCaps (responder_caps r) → refusal r p m f ≡ x → IsCommonEffect r (turn_by r p m f x c).effect
turn_by-common r p m f (Some e) c fits h = tt
turn_by-common r p m f None None fits h = common_request r p m f _ (request_at p m) fits h refl
turn_by-common r p m f None (Some c) fits h =
    either-common r c.last (last_chunk_turn r (inside p) m f c (completed_at p c)) (taken_chunk m c NoEffect []) (carried-common r (inside p) m f c (completed_at p c) (refusal r (inside p) (completed_at p c) f) fits refl) tt

turn_of-common : (r : RspSetup) (p : Place) (m : List ℕ) (f : Free) → FitsCaps (responder_caps r) → IsCommonEffect r (turn_of r p m f).effect
unfolding turn_of
turn_of-common r p m f fits = turn_by-common r p m f (refusal r p m f) (chunk_in (request_at p m)) fits refl

made_common : (r : RspSetup) (h : History) (tag : ℕ) (t : Turn) (d : Draw) → FitsCaps (responder_caps r) → IsMade r (Clear tag t d ∷ h) → IsCommonEffect r t.effect
made_common r h tag t d fits made = subst (λ (u : Turn). IsCommonEffect r u.effect) (made_clear r h tag t d made) (turn_of-common r (clear_place h) t.message (clear_chosen r h d) fits)

-- ---- Turn by turn.

abbrev AreCommon : RspSetup → List Turn → Type 0
AreCommon r ts = sizes_are_known (phase_of ts) ≡ true → IsCommon r (terms_of (negotiation_of ts)).common

after_algorithms : (n : Negotiation) (request answer : List ℕ) → (terms_of n).common ≡ (terms_of (record n { negotiate_algorithms = request; algorithms = answer })).common
unfolding terms_of
after_algorithms n request answer = refl

capable_is_known : (phase : Phase) → phase ≡ Capable → sizes_are_known phase ≡ true
capable_is_known phase is = rw is refl

turn_common : (r : RspSetup) (ts : List Turn) (message : List ℕ) (refused : Option ErrorCode) (chunk : Option ChunkMessage) (e : Effect) (reply : List ℕ) → IsPhased (phase_of ts) e → IsCommonEffect r e → AreCommon r ts
    → AreCommon r (record { message = message; refused = refused; chunk = chunk; effect = e; reply = reply } ∷ ts)
turn_common r ts message refused chunk NoEffect reply phased common older known = older known
turn_common r ts message refused chunk (TookData bytes answer) reply phased common older known = older known
turn_common r ts message refused chunk (Took GetVersion request answer large) reply phased common older known = absurd (false≢true known)
turn_common r ts message refused chunk (Took (GetCapabilities caps) request answer large) reply phased common older known = common (negotiation_of ts)
turn_common r ts message refused chunk (Took (NegotiateAlgorithms offer) request answer large) reply phased common older known =
    subst (IsCommon r) (after_algorithms (negotiation_of ts) request answer) (older (capable_is_known (phase_of ts) phased))
turn_common r ts message refused chunk (Took _ request answer large) reply phased common older known = older known

pub common_negotiated : CommonIsNegotiated
common_negotiated r [] made fits known = absurd (false≢true known)
common_negotiated r (Clear tag t d ∷ older) made fits known =
    turn_common r (clear_turns older) t.message t.refused t.chunk t.effect t.reply (made_phased r older tag t d made) (made_common r older tag t d fits made) (common_negotiated r older made.1 fits) known
common_negotiated r (Sealed tag m t reply d ∷ older) made fits known = common_negotiated r older made.1 fits known
common_negotiated r (Queued bytes ∷ older) made fits known = common_negotiated r older made.2 fits known
common_negotiated r (Ticked seconds ∷ older) made fits known = common_negotiated r older made fits known
common_negotiated r (Dropped which ∷ older) made fits known = absurd made
