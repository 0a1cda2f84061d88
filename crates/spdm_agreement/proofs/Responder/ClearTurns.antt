-- What a responder does with a clear message: nothing takes effect, or a request does that the message is, or that its
-- chunks bring.
use Rattle.std.proofs.Common.{◌≡◌, ◌⊎◌, ℕ, List, [], ◌∷◌, Bool, true, false, cond, Option, Some, None, refl, sym, ap, ◌∙◌, inl, inr}
use Rattle.chunking.specs.Collecting.{under_way, joined_with}
use Rattle.spdm_grammar.specs.Message.{RequestMessage, ChunkMessage}
use Rattle.spdm_grammar.specs.declared.messages.error_code.ErrorCode.{ErrorCode}
use Rattle.spdm_grammar.specs.declared.told.phase.Phase.{Phase}
use Rattle.responder_machine.specs.Answer.{Free, request_at, answer_bytes}
use Rattle.responder_machine.specs.Handling.{turn_of, turn_by, chunk_in, request_effect, effect_of, handle_for, last_chunk_turn, carried_turn, taken_chunk}
use Rattle.responder_machine.specs.History.{History, clear_turns, phase_of, negotiation_of}
use Rattle.responder_machine.specs.LargeMessages.{chunks_of}
use Rattle.responder_machine.specs.Place.{Place, clear_place, inside, place_terms}
use Rattle.responder_machine.specs.Refusal.{tests_of_form, tests_of_contents, refused_form, refused_contents, refusal, code_of, phase_allows, has_pending, is_allowed, are_caps_refused, is_exchange_refused}
use Rattle.spdm_basis.specs.Tests.{first_of_tests}
use Rattle.responder_machine.specs.Setup.{RspSetup}
use Rattle.spdm_machine.specs.Terms.{hash_len}
use Rattle.responder_machine.specs.Turn.{Effect}
use Rattle.spdm_grammar.specs.Codes.{code_for}
use Rattle.responder_machine.specs.Turn.Effect.{NoEffect, Took}
use Rattle.transcript.specs.Transcripts.{Negotiation}
use Rattle.spdm_agreement.proofs.Messages.RequestCodes.{code_read}
use Rattle.std.proofs.lemmas.Bool.{not-false}
use Rattle.responder_machine.proofs.Tests.{none_of_both}

-- A request that took effect, at a place of this negotiation and phase, or inside a large request there.
pub record TakesClear (r : RspSetup) (n : Negotiation) (phase : Phase) (f : Free) (e : Effect) : Type 0 where
  pub place : Place
  pub request : List ℕ
  pub value : RequestMessage
  pub negotiation : place.negotiation ≡ n
  pub spelled : request_at place request ≡ Some value
  pub allowed : phase_allows phase (has_pending place) (code_for value) ≡ true
  pub contents : refused_contents r place request f ≡ None
  pub is : e ≡ Took value request (answer_bytes r place request f) (handle_for place f (answer_bytes r place request f))

-- ---- The tests.

abbrev pub AreFalse : List (Bool × ErrorCode) → Type 0
AreFalse [] = Unit {0}
AreFalse (t ∷ ts) = (t.0 ≡ false) × AreFalse ts

test_fails : (b : Bool) (e : ErrorCode) (o : Option ErrorCode) → cond b (Some e) o ≡ None → (b ≡ false) × (o ≡ None)
test_fails true e o is = absurd (cc)
test_fails false e o is = (refl, is)

pub all_fail : (ts : List (Bool × ErrorCode)) → first_of_tests ts ≡ None → AreFalse ts
all_fail [] e = tt
all_fail (t ∷ ts) e = let l = test_fails t.0 t.1 (first_of_tests ts) e in (l.0, all_fail ts l.1)

both_of : (r : RspSetup) (p : Place) (m : List ℕ) (f : Free) → refusal r p m f ≡ None → (refused_form r p m ≡ None) × (refused_contents r p m f ≡ None)
unfolding refusal
both_of r p m f e = none_of_both (refused_form r p m) (refused_contents r p m f) e

form_allows : (r : RspSetup) (p : Place) (m : List ℕ) → refused_form r p m ≡ None → is_allowed p.at p (code_of m) ≡ true
unfolding refused_form
form_allows r p m e = let l = all_fail (tests_of_form r p m) e in not-false (is_allowed p.at p (code_of m)) l.1.1.1.1.1.1.0

-- ---- By places.

takes_at : (r : RspSetup) (p : Place) (m : List ℕ) (f : Free) (w : Option RequestMessage) → request_at p m ≡ w → refusal r p m f ≡ None → ((c : ℕ) → is_allowed p.at p c ≡ phase_allows p.phase (has_pending p) c)
    → (request_effect r p m f ≡ NoEffect) ⊎ TakesClear r p.negotiation p.phase f (request_effect r p m f)
takes_at r p m f None is none clear = inl (ap (λ (o : Option RequestMessage). effect_of o m (answer_bytes r p m f) (handle_for p f (answer_bytes r p m f))) is)
takes_at r p m f (Some v) is none clear =
    let l = both_of r p m f none in
    let code : code_for v ≡ code_of m = code_read (hash_len (place_terms p)) m v is in
    inr (record {
      place = p;
      request = m;
      value = v;
      negotiation = refl;
      spelled = is;
      allowed = sym (clear (code_for v)) ∙ ap (is_allowed p.at p) code ∙ form_allows r p m l.0;
      contents = l.1;
      is = ap (λ (o : Option RequestMessage). effect_of o m (answer_bytes r p m f) (handle_for p f (answer_bytes r p m f))) is;
    })

carried : (r : RspSetup) (h : History) (m : List ℕ) (f : Free) (c : ChunkMessage) (whole : List ℕ) (o : Option ErrorCode) → refusal r (inside (clear_place h)) whole f ≡ o
    → ((carried_turn r (inside (clear_place h)) m f c whole o).effect ≡ NoEffect) ⊎ TakesClear r (negotiation_of (clear_turns h)) (phase_of (clear_turns h)) f (carried_turn r (inside (clear_place h)) m f c whole o).effect
carried r h m f c whole (Some e) is = inl refl
carried r h m f c whole None is = takes_at r (inside (clear_place h)) whole f (request_at (inside (clear_place h)) whole) refl is (λ c. refl)

chunked : (r : RspSetup) (h : History) (m : List ℕ) (f : Free) (c : ChunkMessage) (whole : List ℕ) (b : Bool)
    → ((cond b (last_chunk_turn r (inside (clear_place h)) m f c whole) (taken_chunk m c NoEffect [])).effect ≡ NoEffect)
    ⊎ TakesClear r (negotiation_of (clear_turns h)) (phase_of (clear_turns h)) f (cond b (last_chunk_turn r (inside (clear_place h)) m f c whole) (taken_chunk m c NoEffect [])).effect
chunked r h m f c whole true = carried r h m f c whole (refusal r (inside (clear_place h)) whole f) refl
chunked r h m f c whole false = inl refl

taken_by : (r : RspSetup) (h : History) (m : List ℕ) (f : Free) (w : Option ChunkMessage) → refusal r (clear_place h) m f ≡ None
    → ((turn_by r (clear_place h) m f None w).effect ≡ NoEffect) ⊎ TakesClear r (negotiation_of (clear_turns h)) (phase_of (clear_turns h)) f (turn_by r (clear_place h) m f None w).effect
taken_by r h m f None is = takes_at r (clear_place h) m f (request_at (clear_place h) m) refl is (λ c. refl)
taken_by r h m f (Some c) is = chunked r h m f c (joined_with (under_way (chunks_of (clear_turns h))) c) c.last

turned_by : (r : RspSetup) (h : History) (m : List ℕ) (f : Free) (o : Option ErrorCode) (w : Option ChunkMessage) → refusal r (clear_place h) m f ≡ o
    → ((turn_by r (clear_place h) m f o w).effect ≡ NoEffect) ⊎ TakesClear r (negotiation_of (clear_turns h)) (phase_of (clear_turns h)) f (turn_by r (clear_place h) m f o w).effect
turned_by r h m f (Some e) w is = inl refl
turned_by r h m f None w is = taken_by r h m f w is

pub clear_case : (r : RspSetup) (h : History) (m : List ℕ) (f : Free)
    → ((turn_of r (clear_place h) m f).effect ≡ NoEffect) ⊎ TakesClear r (negotiation_of (clear_turns h)) (phase_of (clear_turns h)) f (turn_of r (clear_place h) m f).effect
unfolding turn_of
clear_case r h m f = turned_by r h m f (refusal r (clear_place h) m f) (chunk_in (request_at (clear_place h) m)) refl

-- ---- What the tests of contents say.

pub contents_fit : (r : RspSetup) (p : Place) (m : List ℕ) (f : Free) → refused_contents r p m f ≡ None → (are_caps_refused r (request_at p m) ≡ false) × (is_exchange_refused r p (request_at p m) ≡ false)
unfolding refused_contents
contents_fit r p m f e = let l = all_fail (tests_of_contents r p m f) e in (l.1.0, l.1.1.1.1.0)
