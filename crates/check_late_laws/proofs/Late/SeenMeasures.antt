-- GET_MEASUREMENTS in a session: where its answer goes by LargeResponse, it goes so too where a large response before
-- it was not seen.
use Rattle.std.proofs.Common.{◌≡◌, ℕ, List, refl, sym, ap, ◌∙◌, subst, drop, Bool, Some}
use Rattle.check_late_laws.proofs.TurnsMoved.{Near, refusal_moved}
use Rattle.responder_machine.proofs.Codes.{asked-code}
use Rattle.responder_machine.specs.Answer.{Free, answer_bytes, request_at}
use Rattle.responder_machine.specs.Handling.{goes_large}
use Rattle.responder_machine.specs.Place.{Place, session_place}
use Rattle.responder_machine.specs.Records.{opened, reply_record}
use Rattle.responder_machine.specs.Refusal.{chunk_fault, code_of, has_pending, is_answer_too_long, is_exchange_refused, is_get_refused, is_update_misplaced, is_verify_wrong, lacks_flag, stage_allows}
use Rattle.responder_machine.specs.Responder.{inner_refusal, session_turn}
use Rattle.responder_machine.specs.Session.{Events, stage_of}
use Rattle.responder_machine.specs.Setup.{RspSetup}
use Rattle.responder_machine.specs.Turn.{Turn}
use Rattle.spdm_grammar.specs.Message.RequestMessage.{GetMeasurements}
use Rattle.spdm_grammar.specs.declared.names.request_code.TheConstants.{GET_MEASUREMENTS}
use Rattle.spdm_grammar.specs.declared.told.phase.Stage.{Stage}
use Rattle.spdm_grammar.specs.declared.told.phase.Stage.TheVariants.{Handshake, Open, Verifying}
use Rattle.spdm_machine.specs.Terms.{terms_of}
use Rattle.transcript.specs.Transcripts.{Negotiation}
use Rattle.capture_machine.specs.LargeAnswers.{IsLargeAnswer}
use Rattle.check_late_laws.proofs.Late.MeasuredTurns.{GoesLarge, answer_at, bytes_are, goes_turn, large_turn}
use Rattle.check_late_laws.proofs.Late.SeenAlike.{SeenAlike, answer_alike, exchange_alike, finish_alike, finish_answer_alike, negotiation_alike, opened_alike, response_epoch_alike, response_number_alike, stage_alike}

-- Whether a stage allows it depends on nothing that is pending.
stage_by : (stage : Stage) (a b : Bool) → stage_allows stage a GET_MEASUREMENTS ≡ stage_allows stage b GET_MEASUREMENTS
stage_by Handshake a b = refl
stage_by Open a b = refl
stage_by Verifying a b = refl

-- Under one turn both sessions answer with one record.
pub reply_alike : (psk : List ℕ) (s u : Events) (t : Turn) (text pad : List ℕ) → SeenAlike s u → reply_record psk s t text pad ≡ reply_record psk u t text pad
unfolding reply_record
reply_alike psk s u t text pad a =
    let negotiation = negotiation_alike s u a in
    let exchange = exchange_alike s u a in
    let answer = answer_alike s u a in
    let stage = stage_alike s u a in
    let epoch = response_epoch_alike s u a in
    let number = response_number_alike s u a in
    let finish = finish_alike s u a in
    let finished = finish_answer_alike s u a in
    cc

-- The same bytes are sent in chunks.
pub large_alike : (s u : Events) (whole : List ℕ) → SeenAlike s u → IsLargeAnswer (session_place s) whole → IsLargeAnswer (session_place u) whole
large_alike s u whole a large = subst (λ (n : Negotiation). IsLargeAnswer (record (session_place u) { negotiation = n }) whole) (negotiation_alike s u a) large

module _ (r : RspSetup) (s u : Events) (alike : SeenAlike s u) (inner : List ℕ) (op : ℕ) (asks : request_at (session_place s) (drop 1 inner) ≡ Some (GetMeasurements op)) where
  abbrev msg : List ℕ
  msg = drop 1 inner

  -- The place of the other session, with a negotiation.
  abbrev place_with : Negotiation → Place
  place_with n = record (session_place u) { negotiation = n }

  pub asks_alike : request_at (session_place u) (drop 1 inner) ≡ Some (GetMeasurements op)
  asks_alike = sym (ap (λ (n : Negotiation). request_at (place_with n) msg) (negotiation_alike s u alike)) ∙ asks

  code_is : GET_MEASUREMENTS ≡ code_of msg
  code_is = asked-code (session_place s) msg (GetMeasurements op) asks

  allowed_by : (n : ℕ) → GET_MEASUREMENTS ≡ n → stage_allows (stage_of s) (has_pending (session_place s)) n ≡ stage_allows (stage_of u) (has_pending (session_place u)) n
  allowed_by n is =
      subst (λ (c : ℕ). stage_allows (stage_of s) (has_pending (session_place s)) c ≡ stage_allows (stage_of u) (has_pending (session_place u)) c) is
      (ap (λ (x : Stage). stage_allows x (has_pending (session_place s)) GET_MEASUREMENTS) (stage_alike s u alike) ∙ stage_by (stage_of u) (has_pending (session_place s)) (has_pending (session_place u)))

  near : Near r (session_place s) (session_place u) msg
  near = record {
    at = refl;
    phase = refl;
    asked = asks ∙ sym asks_alike;
    common = ap (λ (n : Negotiation). (terms_of n).common) (negotiation_alike s u alike);
    allowed = allowed_by (code_of msg) code_is;
    lacks = ap (λ (n : Negotiation). lacks_flag (terms_of n) (code_of msg)) (negotiation_alike s u alike);
    exchange = ap (is_exchange_refused r (session_place s)) asks ∙ sym (ap (is_exchange_refused r (session_place u)) asks_alike);
    verify = ap (is_verify_wrong r (session_place s) msg) asks ∙ sym (ap (is_verify_wrong r (session_place u) msg) asks_alike);
    update = ap (is_update_misplaced (session_place s)) asks ∙ sym (ap (is_update_misplaced (session_place u)) asks_alike);
    fault = ap (chunk_fault r (session_place s)) asks ∙ sym (ap (chunk_fault r (session_place u)) asks_alike);
    get = ap (is_get_refused (session_place s)) asks ∙ sym (ap (is_get_refused (session_place u)) asks_alike);
    full = refl;
  }

  pub goes_alike : (f : Free) → GoesLarge r s inner op asks f → GoesLarge r u inner op asks_alike f
  goes_alike f goes =
      let long : is_answer_too_long (session_place s) (answer_bytes r (session_place s) msg f) ≡ is_answer_too_long (session_place u) (answer_bytes r (session_place u) msg f) =
      ap (is_answer_too_long (session_place s)) (bytes_are r s inner op asks f)
      ∙ ap (λ (n : Negotiation). is_answer_too_long (place_with n) (answer_at r s inner op asks f)) (negotiation_alike s u alike)
      ∙ sym (ap (is_answer_too_long (session_place u)) (bytes_are r u inner op asks_alike f)) in record {
        inner_none = sym (ap (λ (x : Stage). inner_refusal x inner) (stage_alike s u alike)) ∙ goes.inner_none;
        spdm = goes.spdm;
        none = sym (refusal_moved r (session_place s) (session_place u) msg f f near long) ∙ goes.none;
        large = sym (ap (λ (n : Negotiation). goes_large (place_with n) (answer_at r s inner op asks f)) (negotiation_alike s u alike)) ∙ goes.large;
      }

  -- So the turn is the same, by what the record opens to there.
  pub turn_alike : (sealed : List ℕ) (f : Free) → opened r.psk s sealed ≡ inner → GoesLarge r s inner op asks f → session_turn r u (opened r.psk u sealed) f ≡ large_turn r s inner op asks f
  turn_alike sealed f opens goes =
      ap (λ (l : List ℕ). session_turn r u l f) (sym (opened_alike r.psk s u sealed alike) ∙ opens) ∙ goes_turn r u inner op asks_alike f (goes_alike f goes)
