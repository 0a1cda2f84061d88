-- GET_MEASUREMENTS in a session, whose answer goes by LargeResponse: its turn, at some values.
use Rattle.std.proofs.Common.{◌≡◌, ◌==◌, ℕ, List, refl, sym, ap, ◌∙◌, drop, Bool, true, false, Option, Some, None, is_some, cond}
use Rattle.std.specs.Prelude.{slice_index}
use Rattle.std.proofs.lemmas.Bool.{false≢true}
use Rattle.check_late_laws.proofs.TurnsMoved.{Near, refusal_moved}
use Rattle.responder_machine.specs.Answer.{Free, answer_bytes, answer_to, measurements_answer, request_at}
use Rattle.responder_machine.specs.Handling.{chunk_in, effect_of, goes_large, handle_for, large_response, turn_by, turn_of}
use Rattle.responder_machine.specs.Place.{Place, session_place}
use Rattle.responder_machine.specs.Refusal.{is_answer_too_long, refusal}
use Rattle.responder_machine.specs.Responder.{data_turn, inner_refusal, session_turn, session_turn_by}
use Rattle.responder_machine.specs.Session.{Events, stage_of}
use Rattle.responder_machine.specs.Setup.{RspSetup}
use Rattle.responder_machine.specs.Turn.{Turn, handle_in}
use Rattle.responder_machine.specs.Turn.Effect.{Took}
use Rattle.spdm_grammar.specs.Message.{RequestMessage}
use Rattle.spdm_grammar.specs.Message.RequestMessage.{GetMeasurements}
use Rattle.spdm_grammar.specs.Responses.{canonical_response}
use Rattle.spdm_grammar.specs.declared.messages.error_code.ErrorCode.{ErrorCode}

module _ (r : RspSetup) (s : Events) (inner : List ℕ) (op : ℕ) (asks : request_at (session_place s) (drop 1 inner) ≡ Some (GetMeasurements op)) where
  abbrev p : Place
  p = session_place s

  abbrev msg : List ℕ
  msg = drop 1 inner

  -- The whole answer.
  abbrev pub answer_at : Free → List ℕ
  answer_at f = canonical_response (measurements_answer r f op)

  pub bytes_are : (f : Free) → answer_bytes r p msg f ≡ answer_at f
  unfolding answer_bytes
  bytes_are f = ap (answer_to r p msg f) asks

  -- The turn.
  abbrev pub large_turn : Free → Turn
  large_turn f = record { message = msg; refused = None; chunk = None; effect = Took (GetMeasurements op) msg (answer_at f) (Some f.handle); reply = large_response f.handle }

  -- What holds where it is that.
  pub record GoesLarge (f : Free) : Type 0 where
    pub inner_none : inner_refusal (stage_of s) inner ≡ None
    pub spdm : (slice_index inner 0 == 5) ≡ true
    pub none : refusal r p msg f ≡ None
    pub large : goes_large p (answer_at f) ≡ true

  plain_is : (f : Free) → refusal r p msg f ≡ None → goes_large p (answer_at f) ≡ true → turn_of r p msg f ≡ large_turn f
  unfolding turn_of
  plain_is f none large =
      let turn : Option RequestMessage → List ℕ → Bool → Turn = λ q l b. record {
        message = msg;
        refused = None;
        chunk = None;
        effect = effect_of q msg l (cond b (Some f.handle) None);
        reply = cond b (large_response f.handle) l;
      } in
      ap (λ (x : Option ErrorCode). turn_by r p msg f x (chunk_in (request_at p msg))) none
      ∙ ap (λ (q : Option RequestMessage). turn_by r p msg f None (chunk_in q)) asks
      ∙ ap (λ (q : Option RequestMessage). turn q (answer_bytes r p msg f) (goes_large p (answer_bytes r p msg f))) asks
      ∙ ap (λ (l : List ℕ). turn (Some (GetMeasurements op)) l (goes_large p l)) (bytes_are f)
      ∙ ap (turn (Some (GetMeasurements op)) (answer_at f)) large

  pub goes_turn : (f : Free) → GoesLarge f → session_turn r s inner f ≡ large_turn f
  unfolding session_turn
  goes_turn f goes =
      ap (session_turn_by r s inner f) goes.inner_none ∙ ap (λ (b : Bool). cond b (turn_of r p msg f) (data_turn f msg)) goes.spdm ∙ plain_is f goes.none goes.large

  -- A turn with a handle is that.
  large_by : (f : Free) (x : Option ErrorCode) → refusal r p msg f ≡ x → is_some (handle_in (turn_by r p msg f x (chunk_in (request_at p msg))).effect) ≡ true → (refusal r p msg f ≡ None) × (goes_large p (answer_at f) ≡ true)
  large_by f (Some e) is large = absurd (false≢true large)
  large_by f None is large =
      let one : is_some (handle_in (turn_by r p msg f None (chunk_in (Some (GetMeasurements op)))).effect) ≡ true = sym (ap (λ (q : Option RequestMessage). is_some (handle_in (turn_by r p msg f None (chunk_in q)).effect)) asks) ∙ large in
      let two : is_some (handle_in (effect_of (Some (GetMeasurements op)) msg (answer_bytes r p msg f) (handle_for p f (answer_bytes r p msg f)))) ≡ true =
      sym (ap (λ (q : Option RequestMessage). is_some (handle_in (effect_of q msg (answer_bytes r p msg f) (handle_for p f (answer_bytes r p msg f))))) asks) ∙ one in
      let three : is_some (cond (goes_large p (answer_at f)) (Some f.handle) None) ≡ true = sym (ap (λ (l : List ℕ). is_some (handle_for p f l)) (bytes_are f)) ∙ two in
      (is, by_large (goes_large p (answer_at f)) three)
    where
      by_large : (b : Bool) → is_some (cond b (Some f.handle) None) ≡ true → b ≡ true
      by_large true some = refl
      by_large false some = absurd (false≢true some)

  turn_large : (f : Free) → is_some (handle_in (turn_of r p msg f).effect) ≡ true → (refusal r p msg f ≡ None) × (goes_large p (answer_at f) ≡ true)
  unfolding turn_of
  turn_large f large = large_by f (refusal r p msg f) refl large

  inner_large : (f : Free) (x : Option ErrorCode) → inner_refusal (stage_of s) inner ≡ x → is_some (handle_in (session_turn_by r s inner f x).effect) ≡ true → GoesLarge f
  inner_large f (Some e) is large = absurd (false≢true large)
  inner_large f None is large = by_type (slice_index inner 0 == 5) refl large
    where
      by_type : (b : Bool) → (slice_index inner 0 == 5) ≡ b → is_some (handle_in (cond b (turn_of r p msg f) (data_turn f msg)).effect) ≡ true → GoesLarge f
      by_type true type some = (let it = turn_large f some in record { inner_none = is; spdm = type; none = it.0; large = it.1 })
      by_type false type some = absurd (false≢true some)

  pub turn_goes : (f : Free) → is_some (handle_in (session_turn r s inner f).effect) ≡ true → GoesLarge f
  unfolding session_turn
  turn_goes f large = inner_large f (inner_refusal (stage_of s) inner) refl large

  -- At other values, whose answer is as little too long.
  near : Near r p p msg
  near = record {
    at = refl;
    phase = refl;
    asked = refl;
    common = refl;
    allowed = refl;
    lacks = refl;
    exchange = refl;
    verify = refl;
    update = refl;
    fault = refl;
    get = refl;
    full = refl;
  }

  pub goes_at : (f k : Free) → GoesLarge f → is_answer_too_long p (answer_at f) ≡ is_answer_too_long p (answer_at k) → goes_large p (answer_at k) ≡ true → GoesLarge k
  goes_at f k goes same large = record {
    inner_none = goes.inner_none;
    spdm = goes.spdm;
    none = sym (refusal_moved r p p msg f k near (ap (is_answer_too_long p) (bytes_are f) ∙ same ∙ sym (ap (is_answer_too_long p) (bytes_are k)))) ∙ goes.none;
    large = large;
  }
