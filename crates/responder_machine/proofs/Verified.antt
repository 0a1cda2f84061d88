-- The verify data of PSK_FINISH are compared.
use Rattle.std.proofs.Common.{refl, ◌∙◌, ◌≡◌, ℕ, List, [], true, false, Bool, Option, Some, None, ap, sym, subst}
use Rattle.std.proofs.lemmas.Bool.{not-false}
use Rattle.std.proofs.lemmas.Slice.Eq.{bytes_eq-Decides}
use Rattle.std.specs.Prelude.{if◌then◌else◌, ◌==◌, not, slice_index, drop, bytes_eq}
use Rattle.spdm_grammar.specs.Message.{RequestMessage, ChunkMessage}
use Rattle.spdm_grammar.specs.Message.RequestMessage.{PskFinish}
use Rattle.spdm_grammar.specs.declared.messages.error_code.ErrorCode.{ErrorCode}
use Rattle.responder_machine.proofs.Opened.{taken_record_opened}
use Rattle.responder_machine.proofs.Tests.{contents_shown}
use Rattle.responder_machine.specs.Answer.{Free, answer_bytes, request_at}
use Rattle.responder_machine.specs.Handling.{turn_of, turn_by, effect_of, carried_turn, last_chunk_turn, taken_chunk, chunk_in}
use Rattle.responder_machine.specs.Laws.{FinishIsVerified, finish_verify, completed_at}
use Rattle.responder_machine.specs.Place.{Place, session_place, inside}
use Rattle.responder_machine.specs.Records.{opened}
use Rattle.responder_machine.specs.Refusal.{refusal, is_verify_wrong}
use Rattle.responder_machine.specs.Responder.{session_turn, session_turn_by, inner_refusal, data_turn}
use Rattle.responder_machine.specs.Session.{Events, session_of, stage_of, id_in_record}
use Rattle.responder_machine.specs.Setup.{RspSetup}
use Rattle.responder_machine.specs.Turn.{Turn, Effect}
use Rattle.responder_machine.specs.Turn.Effect.{NoEffect, Took, TookData}

-- What took effect is no PSK_FINISH, or has the right verify data.
abbrev IsRight : RspSetup → Events → RequestMessage → List ℕ → Type 0
IsRight r s (PskFinish verify) request = verify ≡ finish_verify r.psk s request
IsRight r s _ request = Unit {0}

abbrev IsVerified : RspSetup → Events → Effect → Type 0
IsVerified r s NoEffect = Unit {0}
IsVerified r s (Took asked request answer large) = IsRight r s asked request
IsVerified r s (TookData bytes answer) = Unit {0}

-- A place of this session, inside of chunks or not.
abbrev IsOf : Place → Events → Type 0
IsOf p s = (m : List ℕ) (r : RspSetup) (verify : List ℕ) → is_verify_wrong r p m (Some (PskFinish verify)) ≡ not (bytes_eq verify (finish_verify r.psk s m))

right : (r : RspSetup) (p : Place) (s : Events) (m : List ℕ) (f : Free) (large : Option ℕ) (q : Option RequestMessage) → IsOf p s → refusal r p m f ≡ None → request_at p m ≡ q
    → IsVerified r s (effect_of q m (answer_bytes r p m f) large)
right r p s m f large None of taken is = tt
right r p s m f large (Some (PskFinish verify)) of taken is =
    (bytes_eq-Decides verify (finish_verify r.psk s m)).0
    (not-false (bytes_eq verify (finish_verify r.psk s m)) (sym (of m r verify) ∙ ap (is_verify_wrong r p m) (sym is) ∙ contents_shown r p m f taken 5))
right r p s m f large (Some _) of taken is = tt

carried : (r : RspSetup) (p : Place) (s : Events) (m : List ℕ) (f : Free) (c : ChunkMessage) (whole : List ℕ) (x : Option ErrorCode) → IsOf p s → refusal r p whole f ≡ x → IsVerified r s (carried_turn r p m f c whole x).effect
carried r p s m f c whole (Some e) of h = tt
carried r p s m f c whole None of h = right r p s whole f _ (request_at p whole) of h refl

either : (r : RspSetup) (s : Events) (b : Bool) (t u : Turn) → IsVerified r s t.effect → IsVerified r s u.effect → IsVerified r s (if b then t else u).effect
either r s true t u x y = x
either r s false t u x y = y

by_refusal : (r : RspSetup) (s : Events) (m : List ℕ) (f : Free) (x : Option ErrorCode) (c : Option ChunkMessage) → refusal r (session_place s) m f ≡ x → IsVerified r s (turn_by r (session_place s) m f x c).effect
by_refusal r s m f (Some e) c h = tt
by_refusal r s m f None None h = right r (session_place s) s m f _ (request_at (session_place s) m) (λ n q v. refl) h refl
by_refusal r s m f None (Some c) h =
    either r s c.last (last_chunk_turn r (inside (session_place s)) m f c (completed_at (session_place s) c)) (taken_chunk m c NoEffect [])
    (carried r (inside (session_place s)) s m f c (completed_at (session_place s) c) (refusal r (inside (session_place s)) (completed_at (session_place s) c) f) (λ n q v. refl) refl) tt

verified : (r : RspSetup) (s : Events) (m : List ℕ) (f : Free) → IsVerified r s (turn_of r (session_place s) m f).effect
unfolding turn_of
verified r s m f = by_refusal r s m f (refusal r (session_place s) m f) (chunk_in (request_at (session_place s) m)) refl

by_inner : (r : RspSetup) (s : Events) (inner : List ℕ) (f : Free) (x : Option ErrorCode) → IsVerified r s (session_turn_by r s inner f x).effect
by_inner r s inner f (Some e) = tt
by_inner r s inner f None = either r s (slice_index inner 0 == 5) (turn_of r (session_place s) (drop 1 inner) f) (data_turn f (drop 1 inner)) (verified r s (drop 1 inner) f) tt

session_verified : (r : RspSetup) (s : Events) (inner : List ℕ) (f : Free) → IsVerified r s (session_turn r s inner f).effect
unfolding session_turn
session_verified r s inner f = by_inner r s inner f (inner_refusal (stage_of s) inner)

pub finish_verified : FinishIsVerified
finish_verified r h tag m f d t reply verify request answer large is took =
    let s = session_of (id_in_record m) h in
    let turn = (taken_record_opened r h tag m f d t reply is).4 in
    subst (λ (e : Effect). IsVerified r s e) (ap (λ (u : Turn). u.effect) turn ∙ took) (session_verified r s (opened r.psk s m) f)
