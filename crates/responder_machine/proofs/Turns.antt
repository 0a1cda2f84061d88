-- The turns of messages: a refused one has no effect.
use Rattle.std.proofs.Common.{refl, ◌∙◌, ◌≡◌, ℕ, List, [], true, false, Bool, Option, Some, None, ap, sym}
use Rattle.std.proofs.lemmas.Option.{none-some}
use Rattle.std.specs.Prelude.{if◌then◌else◌, ◌==◌, slice_index, drop}
use Rattle.spdm_grammar.specs.Message.{RequestMessage, ChunkMessage}
use Rattle.spdm_grammar.specs.Message.RequestMessage.{ChunkSend}
use Rattle.spdm_grammar.specs.declared.messages.error_code.ErrorCode.{ErrorCode}
use Rattle.responder_machine.specs.Answer.{Free, answer_bytes, request_at}
use Rattle.responder_machine.specs.Handling.{turn_of, turn_by, refused_turn, carried_turn, chunk_turn, last_chunk_turn, taken_chunk, plain_turn, handle_for, request_reply, effect_of, chunk_in}
use Rattle.responder_machine.specs.Laws.{completed_at}
use Rattle.responder_machine.specs.Place.{Place, session_place, inside}
use Rattle.responder_machine.specs.Refusal.{refusal}
use Rattle.responder_machine.specs.Responder.{session_turn, session_turn_by, inner_refusal, data_turn}
use Rattle.responder_machine.specs.Session.{Events, stage_of}
use Rattle.responder_machine.specs.Setup.{RspSetup}
use Rattle.responder_machine.specs.Turn.{Turn}
use Rattle.responder_machine.specs.Turn.Effect.{NoEffect, Took}

pub turn_of-refused : (r : RspSetup) (p : Place) (m : List ℕ) (f : Free) (e : ErrorCode) → refusal r p m f ≡ Some e → turn_of r p m f ≡ refused_turn r p m f e
unfolding turn_of
turn_of-refused r p m f e h = ap (λ (x : Option ErrorCode). turn_by r p m f x (chunk_in (request_at p m))) h

-- A request that is not refused, and is no chunk.
pub turn_of-plain : (r : RspSetup) (p : Place) (m : List ℕ) (f : Free) (asked : RequestMessage) → refusal r p m f ≡ None → request_at p m ≡ Some asked → chunk_in (Some asked) ≡ None → turn_of r p m f ≡ plain_turn r p m f
unfolding turn_of
turn_of-plain r p m f asked taken is plain =
    ap (λ (x : Option ErrorCode). turn_by r p m f x (chunk_in (request_at p m))) taken
    ∙ ap (λ (q : Option RequestMessage). turn_by r p m f None (chunk_in q)) is
    ∙ ap (λ (c : Option ChunkMessage). turn_by r p m f None c) plain

pub plain_turn-asked : (r : RspSetup) (p : Place) (m : List ℕ) (f : Free) (asked : RequestMessage) → request_at p m ≡ Some asked
    → plain_turn r p m f ≡ record { message = m; refused = None; chunk = None; effect = Took asked m (answer_bytes r p m f) (handle_for p f (answer_bytes r p m f)); reply = request_reply r p m f }
plain_turn-asked r p m f asked is =
    ap (λ (q : Option RequestMessage). record { message = m; refused = None; chunk = None; effect = effect_of q m (answer_bytes r p m f) (handle_for p f (answer_bytes r p m f)); reply = request_reply r p m f }) is

-- A chunk that is not refused.
pub turn_of-chunk : (r : RspSetup) (p : Place) (m : List ℕ) (f : Free) (c : ChunkMessage) → refusal r p m f ≡ None → request_at p m ≡ Some (ChunkSend c) → turn_of r p m f ≡ chunk_turn r p m f c
unfolding turn_of
turn_of-chunk r p m f c taken is =
    ap (λ (x : Option ErrorCode). turn_by r p m f x (chunk_in (request_at p m))) taken
    ∙ ap (λ (q : Option RequestMessage). turn_by r p m f None (chunk_in q)) is

-- A taken chunk is not refused, whatever it carries.
pub carried-refused : (r : RspSetup) (p : Place) (m : List ℕ) (f : Free) (c : ChunkMessage) (whole : List ℕ) (x : Option ErrorCode) → (carried_turn r p m f c whole x).refused ≡ None
carried-refused r p m f c whole (Some e) = refl
carried-refused r p m f c whole None = refl

pub either-refused : (b : Bool) (t u : Turn) → t.refused ≡ None → u.refused ≡ None → (if b then t else u).refused ≡ None
either-refused true t u x y = x
either-refused false t u x y = y

chunk-refused : (r : RspSetup) (p : Place) (m : List ℕ) (f : Free) (c : ChunkMessage) → (chunk_turn r p m f c).refused ≡ None
chunk-refused r p m f c =
    either-refused c.last (last_chunk_turn r (inside p) m f c (completed_at p c)) (taken_chunk m c NoEffect []) (carried-refused r (inside p) m f c (completed_at p c) (refusal r (inside p) (completed_at p c) f)) refl

-- A message that was refused had no effect.
turn_by-effect : (r : RspSetup) (p : Place) (m : List ℕ) (f : Free) (x : Option ErrorCode) (c : Option ChunkMessage) (e : ErrorCode) → (turn_by r p m f x c).refused ≡ Some e → (turn_by r p m f x c).effect ≡ NoEffect
turn_by-effect r p m f (Some g) c e h = refl
turn_by-effect r p m f None None e h = absurd (none-some e h)
turn_by-effect r p m f None (Some c) e h = absurd (none-some e (sym (chunk-refused r p m f c) ∙ h))

pub turn_of-effect : (r : RspSetup) (p : Place) (m : List ℕ) (f : Free) (e : ErrorCode) → (turn_of r p m f).refused ≡ Some e → (turn_of r p m f).effect ≡ NoEffect
unfolding turn_of
turn_of-effect r p m f e h = turn_by-effect r p m f (refusal r p m f) (chunk_in (request_at p m)) e h

either-effect : (b : Bool) (t u : Turn) (e : ErrorCode) → (t.refused ≡ Some e → t.effect ≡ NoEffect) → (u.refused ≡ Some e → u.effect ≡ NoEffect) → (if b then t else u).refused ≡ Some e → (if b then t else u).effect ≡ NoEffect
either-effect true t u e x y = x
either-effect false t u e x y = y

session_turn_by-effect : (r : RspSetup) (s : Events) (inner : List ℕ) (f : Free) (x : Option ErrorCode) (e : ErrorCode) → (session_turn_by r s inner f x).refused ≡ Some e → (session_turn_by r s inner f x).effect ≡ NoEffect
session_turn_by-effect r s inner f (Some g) e h = refl
session_turn_by-effect r s inner f None e h =
    either-effect (slice_index inner 0 == 5) (turn_of r (session_place s) (drop 1 inner) f) (data_turn f (drop 1 inner)) e (turn_of-effect r (session_place s) (drop 1 inner) f e) (λ w. absurd (none-some e w)) h

pub session_turn-effect : (r : RspSetup) (s : Events) (inner : List ℕ) (f : Free) (e : ErrorCode) → (session_turn r s inner f).refused ≡ Some e → (session_turn r s inner f).effect ≡ NoEffect
unfolding session_turn
session_turn-effect r s inner f e h = session_turn_by-effect r s inner f (inner_refusal (stage_of s) inner) e h

-- A chunk has no effect where the request that it completes is refused.
carried-effect : (r : RspSetup) (p : Place) (m : List ℕ) (f : Free) (c : ChunkMessage) (whole : List ℕ) (x : Option ErrorCode) (e : ErrorCode) → x ≡ Some e → (carried_turn r p m f c whole x).effect ≡ NoEffect
carried-effect r p m f c whole (Some g) e is = refl
carried-effect r p m f c whole None e is = absurd (none-some e is)

none-either : (b : Bool) (t u : Turn) → t.effect ≡ NoEffect → u.effect ≡ NoEffect → (if b then t else u).effect ≡ NoEffect
none-either true t u x y = x
none-either false t u x y = y

chunk-effect : (r : RspSetup) (p : Place) (m : List ℕ) (f : Free) (c : ChunkMessage) (e : ErrorCode) → refusal r (inside p) (completed_at p c) f ≡ Some e → (chunk_turn r p m f c).effect ≡ NoEffect
chunk-effect r p m f c e refused =
    none-either c.last (last_chunk_turn r (inside p) m f c (completed_at p c)) (taken_chunk m c NoEffect []) (carried-effect r (inside p) m f c (completed_at p c) (refusal r (inside p) (completed_at p c) f) e refused) refl

by_refusal : (r : RspSetup) (p : Place) (m : List ℕ) (f : Free) (c : ChunkMessage) (e : ErrorCode) (x : Option ErrorCode) → refusal r (inside p) (completed_at p c) f ≡ Some e → (turn_by r p m f x (Some c)).effect ≡ NoEffect
by_refusal r p m f c e (Some g) refused = refl
by_refusal r p m f c e None refused = chunk-effect r p m f c e refused

pub turn_of-carried : (r : RspSetup) (p : Place) (m : List ℕ) (f : Free) (c : ChunkMessage) (e : ErrorCode) → request_at p m ≡ Some (ChunkSend c) → refusal r (inside p) (completed_at p c) f ≡ Some e → (turn_of r p m f).effect ≡ NoEffect
unfolding turn_of
turn_of-carried r p m f c e is refused =
    ap (λ (q : Option RequestMessage). (turn_by r p m f (refusal r p m f) (chunk_in q)).effect) is ∙ by_refusal r p m f c e (refusal r p m f) refused
