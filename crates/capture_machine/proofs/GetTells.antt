-- A turn of CHUNK_GET: which chunk it gives of the large response that is pending, and whether more are left.
use Rattle.std.proofs.Common.{◌≡◌, ◌<◌, ◌+◌, ◌==◌, ◌||◌, ℕ, List, [], ◌∷◌, refl, sym, ap, ◌∙◌, drop, Bool, true, false, Option, Some, None, is_some, is_none, cond, arith, eqb-true}
use Rattle.std.specs.Prelude.{not, nat_lt, slice_index, unwrap_or}
use Rattle.std.proofs.lemmas.Bool.{false≢true, not-false}
use Rattle.std.proofs.lemmas.Bool.Decides.{nat_tests}
use Rattle.std.proofs.lemmas.Option.{none-some, same_Some}
use Rattle.chunking.specs.Collecting.{under_way, joined_with}
use Rattle.chunking.specs.Cutting.{chunk_count, nth_chunk}
use Rattle.spdm_grammar.specs.Codes.{code_for}
use Rattle.spdm_grammar.specs.Message.{RequestMessage, ChunkMessage}
use Rattle.spdm_grammar.specs.Message.RequestMessage.{ChunkGet}
use Rattle.spdm_grammar.specs.Message.ResponseMessage.{ChunkResponse}
use Rattle.spdm_grammar.specs.Responses.{canonical_response}
use Rattle.spdm_grammar.specs.declared.messages.error_code.ErrorCode.{ErrorCode}
use Rattle.spdm_grammar.specs.declared.told.phase.Phase.{Phase}
use Rattle.spdm_grammar.specs.declared.told.phase.Phase.TheVariants.{Fresh, Versioned, Capable, Negotiated}
use Rattle.spdm_grammar.specs.declared.told.phase.Stage.{Stage}
use Rattle.spdm_grammar.specs.declared.told.phase.Stage.TheVariants.{Handshake, Open, Verifying}
use Rattle.spdm_grammar.specs.declared.names.request_code.TheConstants.{CHUNK_GET}
use Rattle.responder_machine.specs.Answer.{Free, answer_bytes, answer_to, request_at}
use Rattle.responder_machine.specs.Handling.{turn_of, turn_by, plain_turn, carried_turn, last_chunk_turn, taken_chunk, chunk_in, effect_of, handle_for}
use Rattle.responder_machine.specs.LargeMessages.{chunks_of, large_of, given_of, still_pending, pending_of}
use Rattle.responder_machine.specs.Place.{Place, Where, place_terms, session_place, inside}
use Rattle.responder_machine.specs.Place.Where.{InClear, InChunks, InSession}
use Rattle.responder_machine.specs.Refusal.{refusal, code_of, phase_allows, stage_allows, is_allowed, has_pending, is_get_refused}
use Rattle.responder_machine.specs.Responder.{session_turn, session_turn_by, inner_refusal, data_turn}
use Rattle.responder_machine.specs.Session.{Events, stage_of}
use Rattle.responder_machine.specs.Setup.{RspSetup}
use Rattle.responder_machine.specs.Turn.{Turn, is_taken, takes, code_in, answer_in, large_in}
use Rattle.responder_machine.specs.Turn.Effect.{NoEffect}
use Rattle.responder_machine.proofs.Codes.{asked-code}
use Rattle.responder_machine.proofs.Tests.{form_shown, contents_shown}
use Rattle.responder_machine.proofs.Turns.{turn_of-effect}
use Rattle.capture_machine.proofs.SmallGets.{get_chunks, not_carried, chunk_sized}

abbrev pub transfer_of : Place → ℕ
transfer_of p = (place_terms p).common.to_requester.transfer

-- It was taken, and answered by the chunk of the next number of the large response that is pending.
pub record IsGet (p : Place) (m : List ℕ) (t : Turn) : Type 0 where
  pub handle : ℕ
  pub whole : List ℕ
  pub asked : request_at p m ≡ Some (ChunkGet handle (given_of p.turns))
  pub large : large_of p.turns ≡ Some whole
  pub more : nat_lt (given_of p.turns) (chunk_count (transfer_of p) whole) ≡ true
  pub wide : 12 < transfer_of p
  pub taken : is_taken t ≡ true
  pub gives : answer_in t.effect ≡ canonical_response (ChunkResponse (nth_chunk (transfer_of p) handle whole (given_of p.turns)))

-- ---- It comes only while a large answer is pending.

phase_pending : (phase : Phase) (b : Bool) → phase_allows phase b CHUNK_GET ≡ true → b ≡ true
phase_pending Fresh b is = is
phase_pending Versioned b is = is
phase_pending Capable b is = is
phase_pending Negotiated b is = is

stage_pending : (stage : Stage) (b : Bool) → stage_allows stage b CHUNK_GET ≡ true → b ≡ true
stage_pending Handshake b is = absurd (false≢true is)
stage_pending Open b is = is
stage_pending Verifying b is = absurd (false≢true is)

allowed_pending : (at : Where) (p : Place) → is_allowed at p CHUNK_GET ≡ true → has_pending p ≡ true
allowed_pending InClear p is = phase_pending p.phase (has_pending p) is
allowed_pending InChunks p is = phase_pending p.phase (has_pending p) is
allowed_pending InSession p is = stage_pending (stage_of p.events) (has_pending p) is

is_there : (o : Option (List ℕ)) → is_some o ≡ true → (x : List ℕ) × (o ≡ Some x)
is_there None is = absurd (false≢true is)
is_there (Some x) is = (x, refl)

either_way : (b : Bool) (answer x : List ℕ) → cond b (Some answer) None ≡ Some x → (b ≡ true) × (answer ≡ x)
either_way true answer x is = (refl, same_Some answer x is)
either_way false answer x is = absurd (none-some x is)

pending_parts : (transfer n : ℕ) (o : Option (List ℕ)) (x : List ℕ) → still_pending transfer n o ≡ Some x → (o ≡ Some x) × (nat_lt n (chunk_count transfer x) ≡ true)
pending_parts transfer n None x is = absurd (none-some x is)
pending_parts transfer n (Some answer) x is =
    let both = either_way (nat_lt n (chunk_count transfer answer)) answer x is in
    (ap Some both.1, ap (λ (l : List ℕ). nat_lt n (chunk_count transfer l)) (sym both.1) ∙ both.0)

second_same : (a b : Bool) → (not a || not b) ≡ false → b ≡ true
second_same true b is = not-false b is
second_same false b is = absurd (false≢true (sym is))

-- ---- The turn.

module _ (r : RspSetup) (p : Place) (m : List ℕ) (f : Free) where
  plain_get : (handle number : ℕ) → refusal r p m f ≡ None → request_at p m ≡ Some (ChunkGet handle number) → IsGet p m (plain_turn r p m f)
  unfolding answer_bytes
  plain_get handle number none is =
      let code : CHUNK_GET ≡ code_of m = asked-code p m (ChunkGet handle number) is in
      let allows : is_allowed p.at p CHUNK_GET ≡ true = ap (is_allowed p.at p) code ∙ not-false (is_allowed p.at p (code_of m)) (form_shown r p m f none 6) in
      let some = is_there (pending_of (transfer_of p) p.turns) (allowed_pending p.at p allows) in
      let parts = pending_parts (transfer_of p) (given_of p.turns) (large_of p.turns) some.0 some.1 in
      let right : is_get_refused p (Some (ChunkGet handle number)) ≡ false = ap (is_get_refused p) (sym is) ∙ contents_shown r p m f none 9 in
      let next : number ≡ given_of p.turns = eqb-true number (given_of p.turns) (second_same _ _ right) in
      let low = chunk_sized p.negotiation (get_chunks r p m f handle number none is) in
      record {
        handle = handle;
        whole = some.0;
        asked = is ∙ ap (λ (n : ℕ). Some (ChunkGet handle n)) next;
        large = parts.0;
        more = parts.1;
        wide = omega (arith, low);
        taken = refl;
        gives =
            ap (λ (o : Option RequestMessage). answer_in (effect_of o m (answer_to r p m f o) (handle_for p f (answer_to r p m f (request_at p m))))) is
            ∙ ap (λ (o : Option (List ℕ)). canonical_response (ChunkResponse (nth_chunk (transfer_of p) handle (unwrap_or o []) number))) some.1
            ∙ ap (λ (n : ℕ). canonical_response (ChunkResponse (nth_chunk (transfer_of p) handle some.0 n))) next;
      }

  asked_get : (q : RequestMessage) → refusal r p m f ≡ None → request_at p m ≡ Some q → (code_for q == CHUNK_GET) ≡ true → IsGet p m (plain_turn r p m f)
  asked_get (ChunkGet handle number) none is code = plain_get handle number none is
  asked_get _ none is code = absurd (false≢true code)

  plain_takes : (q : Option RequestMessage) → refusal r p m f ≡ None → request_at p m ≡ q → takes CHUNK_GET (plain_turn r p m f) ≡ true → IsGet p m (plain_turn r p m f)
  plain_takes None none is gets =
      absurd (false≢true (sym (ap (λ (o : Option RequestMessage). code_in (effect_of o m (answer_bytes r p m f) (handle_for p f (answer_bytes r p m f))) == CHUNK_GET) is) ∙ gets))
  plain_takes (Some q) none is gets =
      asked_get q none is (sym (ap (λ (o : Option RequestMessage). code_in (effect_of o m (answer_bytes r p m f) (handle_for p f (answer_bytes r p m f))) == CHUNK_GET) is) ∙ gets)

  inside_takes : (text : List ℕ) (q : Option RequestMessage) → refusal r (inside p) text f ≡ None → request_at (inside p) text ≡ q
      → (code_in (effect_of q text (answer_bytes r (inside p) text f) (handle_for (inside p) f (answer_bytes r (inside p) text f))) == CHUNK_GET) ≡ true → ⊥
  inside_takes text None none is gets = false≢true gets
  inside_takes text (Some q) none is gets = not_carried r p text f q none is gets

  carried_takes : (c : ChunkMessage) (text : List ℕ) (x : Option ErrorCode) → refusal r (inside p) text f ≡ x → takes CHUNK_GET (carried_turn r (inside p) m f c text x) ≡ true → ⊥
  carried_takes c text (Some e) is gets = false≢true gets
  carried_takes c text None is gets = inside_takes text (request_at (inside p) text) is refl gets

  chunk_takes : (c : ChunkMessage) (b : Bool) (text : List ℕ) → takes CHUNK_GET (cond b (last_chunk_turn r (inside p) m f c text) (taken_chunk m c NoEffect [])) ≡ true → ⊥
  chunk_takes c true text gets = carried_takes c text (refusal r (inside p) text f) refl gets
  chunk_takes c false text gets = false≢true gets

  turn_takes : (x : Option ErrorCode) (c : Option ChunkMessage) → refusal r p m f ≡ x → takes CHUNK_GET (turn_by r p m f x c) ≡ true → IsGet p m (turn_by r p m f x c)
  turn_takes (Some e) c is gets = absurd (false≢true gets)
  turn_takes None None is gets = plain_takes (request_at p m) is refl gets
  turn_takes None (Some c) is gets = absurd (chunk_takes c c.last (joined_with (under_way (chunks_of p.turns)) c) gets)

  pub turn_get : takes CHUNK_GET (turn_of r p m f) ≡ true → IsGet p m (turn_of r p m f)
  unfolding turn_of
  turn_get gets = turn_takes (refusal r p m f) (chunk_in (request_at p m)) refl gets

session_get_by : (r : RspSetup) (s : Events) (inner : List ℕ) (f : Free) (x : Option ErrorCode) → takes CHUNK_GET (session_turn_by r s inner f x) ≡ true → IsGet (session_place s) (drop 1 inner) (session_turn_by r s inner f x)
session_get_by r s inner f (Some e) gets = absurd (false≢true gets)
session_get_by r s inner f None gets = by_type (slice_index inner 0 == 5) gets
  where
    by_type : (b : Bool) → takes CHUNK_GET (cond b (turn_of r (session_place s) (drop 1 inner) f) (data_turn f (drop 1 inner))) ≡ true
        → IsGet (session_place s) (drop 1 inner) (cond b (turn_of r (session_place s) (drop 1 inner) f) (data_turn f (drop 1 inner)))
    by_type true gets = turn_get r (session_place s) (drop 1 inner) f gets
    by_type false gets = absurd (false≢true gets)

pub session_get : (r : RspSetup) (s : Events) (inner : List ℕ) (f : Free) → takes CHUNK_GET (session_turn r s inner f) ≡ true → IsGet (session_place s) (drop 1 inner) (session_turn r s inner f)
unfolding session_turn
session_get r s inner f gets = session_get_by r s inner f (inner_refusal (stage_of s) inner) gets

-- ---- What is refused takes no effect.

abbrev pub IsIdle : Turn → Type 0
IsIdle t = is_taken t ≡ false → t.effect ≡ NoEffect

refused_by : (t : Turn) (x : Option ErrorCode) → t.refused ≡ x → is_none x ≡ false → ((e : ErrorCode) → t.refused ≡ Some e → t.effect ≡ NoEffect) → t.effect ≡ NoEffect
refused_by t (Some e) is not idle = idle e is
refused_by t None is not idle = absurd (false≢true (sym not))

pub turn_idle : (r : RspSetup) (p : Place) (m : List ℕ) (f : Free) → IsIdle (turn_of r p m f)
turn_idle r p m f not = refused_by (turn_of r p m f) (turn_of r p m f).refused refl not (λ e is. turn_of-effect r p m f e is)

session_idle_by : (r : RspSetup) (s : Events) (inner : List ℕ) (f : Free) (x : Option ErrorCode) → IsIdle (session_turn_by r s inner f x)
session_idle_by r s inner f (Some e) = λ not. refl
session_idle_by r s inner f None = by_type (slice_index inner 0 == 5)
  where
    by_type : (b : Bool) → IsIdle (cond b (turn_of r (session_place s) (drop 1 inner) f) (data_turn f (drop 1 inner)))
    by_type true = turn_idle r (session_place s) (drop 1 inner) f
    by_type false = λ not. absurd (false≢true (sym not))

pub session_idle : (r : RspSetup) (s : Events) (inner : List ℕ) (f : Free) → IsIdle (session_turn r s inner f)
unfolding session_turn
session_idle r s inner f = session_idle_by r s inner f (inner_refusal (stage_of s) inner)

-- ---- What is pending behind it.

-- The place with the turn.
pub record IsBehind (p o : Place) (t : Turn) : Type 0 where
  pub turns : o.turns ≡ t ∷ p.turns
  pub transfer : transfer_of o ≡ transfer_of p

pub large_behind : (t : Turn) (ts : List Turn) → is_taken t ≡ true → takes CHUNK_GET t ≡ true → large_of (t ∷ ts) ≡ large_of ts
large_behind t ts taken gets =
    ap (λ (b : Bool). cond (not b || takes CHUNK_GET t) (large_of ts) (large_in t.effect)) taken ∙ ap (λ (b : Bool). cond b (large_of ts) (large_in t.effect)) gets

pub given_behind : (t : Turn) (ts : List Turn) → is_taken t ≡ true → takes CHUNK_GET t ≡ true → given_of (t ∷ ts) ≡ given_of ts + 1
given_behind t ts taken gets =
    ap (λ (b : Bool). cond (not b) (given_of ts) (cond (takes CHUNK_GET t) (given_of ts + 1) 0)) taken ∙ ap (λ (b : Bool). cond b (given_of ts + 1) 0) gets

some_by : (b : Bool) (x : List ℕ) → is_some (cond b (Some x) None) ≡ b
some_by true x = refl
some_by false x = refl

pub one_by : (b : Bool) → (cond b 1 0 == 1) ≡ b
one_by true = refl
one_by false = refl

last_by : (n count : ℕ) → nat_lt n count ≡ true → not (nat_lt (n + 1) count) ≡ (n + 1 == count)
last_by n count more = grind (arith, nat_tests)

-- The answer tells by its mark whether it is the last chunk.
pub get_last : (p o : Place) (m : List ℕ) (t : Turn) → IsGet p m t → takes CHUNK_GET t ≡ true → IsBehind p o t → not (has_pending o) ≡ (slice_index (answer_in t.effect) 2 == 1)
get_last p o m t get gets behind =
    let n : ℕ = given_of p.turns in
    let count : ℕ = chunk_count (transfer_of p) get.whole in
    let given : given_of o.turns ≡ n + 1 = ap given_of behind.turns ∙ given_behind t p.turns get.taken gets in
    let large : large_of o.turns ≡ Some get.whole = ap large_of behind.turns ∙ large_behind t p.turns get.taken gets ∙ get.large in
    let pending : has_pending o ≡ nat_lt (n + 1) count =
    ap (λ (x : Option (List ℕ)). is_some (still_pending (transfer_of o) (given_of o.turns) x)) large
    ∙ ap (λ (x : ℕ). is_some (cond (nat_lt (given_of o.turns) (chunk_count x get.whole)) (Some get.whole) None)) behind.transfer
    ∙ ap (λ (x : ℕ). is_some (cond (nat_lt x count) (Some get.whole) None)) given
    ∙ some_by (nat_lt (n + 1) count) get.whole in
    ap not pending ∙ last_by n count get.more ∙ sym (ap (λ (l : List ℕ). slice_index l 2 == 1) get.gives ∙ one_by (n + 1 == count))
