-- What requests do in a session.
use Rattle.std.proofs.Common.{◌≡◌, ◌≤◌, ◌<◌, ◌∙◌, ap, sym, subst, refl, ℕ, ◌+◌, List, Bool, true, false, length, arith}
use Rattle.std.proofs.lemmas.Bool.Decides.{nat_tests}
use Rattle.std.specs.Prelude.{◌==◌, ◌&&◌, ◌||◌, not, nat_lt, if◌then◌else◌, Some, None, bytes_eq}
use Rattle.measurements.specs.Records.{is_missing}
use Rattle.responder_machine.specs.Answer.{Free, answer_bytes, measurements_answer, request_at}
use Rattle.responder_machine.specs.Handling.{error_bytes, goes_large, refused_turn, turn_of}
use Rattle.responder_machine.specs.Place.{session_place}
use Rattle.responder_machine.specs.Refusal.{refused_form, lacks_flag, fits_stage, code_of, is_answer_too_long}
use Rattle.responder_machine.specs.Session.{Events, stage_of, session_terms}
use Rattle.responder_machine.specs.Setup.{RspSetup, inventory_of}
use Rattle.responder_machine.specs.SizeLaws.{HasSizes}
use Rattle.spdm_grammar.specs.Codes.{code_for}
use Rattle.spdm_grammar.specs.Message.{RequestMessage, request_message}
use Rattle.spdm_grammar.specs.Message.RequestMessage.{GetMeasurements, Heartbeat, KeyUpdate, EndSession, PskFinish}
use Rattle.spdm_grammar.specs.Message.ResponseMessage.{HeartbeatAck, EndSessionAck, KeyUpdateAck, PskFinishRsp}
use Rattle.spdm_grammar.specs.Responses.{canonical_response}
use Rattle.spdm_grammar.specs.declared.messages.request.Request.{Request}
use Rattle.spdm_grammar.specs.declared.messages.error_code.ErrorCode.{ErrorCode}
use Rattle.spdm_grammar.specs.declared.messages.error_code.ErrorCode.TheVariants.{DecryptError, InvalidRequest, UnexpectedRequest, UnsupportedRequest, ResponseTooLarge}
use Rattle.spdm_grammar.specs.declared.names.TheConstants.{MAX_MESSAGE_SIZE}
use Rattle.responder_session.proofs.Allowed.{has_flag, verify_in_verifying, update_in_open}
use Rattle.responder_session.proofs.Contents.{turn-refused, turn-answered, turn-large, short_fits, short_is_small}
use Rattle.responder_session.proofs.Finish.{finish-refused, finish-answered}
use Rattle.responder_session.proofs.Updating.{lacking, update-misplaced, update-answered}
use Rattle.responder_session.specs.RequestEffects.{IsAllowed, IsDeed, large_turn}
use Rattle.responder_session.specs.Judged.{right_verify}
use Rattle.responder_session.specs.Turns.{answered_turn}
use Rattle.responder_session.specs.Updates.{HasEpochs, update_turn}
use Rattle.responder_session.specs.declared.request_effect.RequestEffect.{RequestEffect}
use Rattle.responder_session.specs.declared.request_effect.RequestEffect.TheVariants as deed
use Rattle.responder_machine.proofs.Settled.{answer_is}

-- ---- What is known of a request that was read.

pub allowed : (r : RspSetup) (s : Events) (m : List ℕ) (request : Request) (asks : RequestMessage) (b : Bool) (code : ℕ) → b ≡ false → HasSizes r (session_terms s).common
    → refused_form r (session_place s) m ≡ None → request_at (session_place s) m ≡ Some (request_message request) → request_message request ≡ asks
    → code ≡ code_of m → b ≡ lacks_flag (session_terms s) code → IsAllowed r s m asks
allowed r s m request asks b code no_lack sizes form is same told flag =
    record { sizes = sizes; form = form; asks = is ∙ ap (λ (x : RequestMessage). Some x) same; flag = ap (lacks_flag (session_terms s)) (sym told) ∙ sym flag ∙ no_lack }

answered_by : (lacks long : Bool) → lacks ≡ false → long ≡ false → (if lacks then Some UnsupportedRequest else (if long then Some ResponseTooLarge else None)) ≡ None
answered_by lacks long h k = λ i. if h i then Some UnsupportedRequest else (if k i then Some ResponseTooLarge else None)

-- ---- Refusals, each with its ERROR.

pub refused_deed : (r : RspSetup) (s : Events) (f : Free) (m out : List ℕ) (code : ErrorCode) (does : RequestEffect) → does ≡ deed.Refused code → out ≡ error_bytes r (session_place s) m f code
    → turn_of r (session_place s) m f ≡ refused_turn r (session_place s) m f code → IsDeed r s f m out does
refused_deed r s f m out code does is written turn = subst (λ (d : RequestEffect). IsDeed r s f m out d) (sym is) (record { turn = turn; fit = written })

pub lacking_turn : (r : RspSetup) (s : Events) (f : Free) (m : List ℕ) (asks : RequestMessage) → refused_form r (session_place s) m ≡ None → request_at (session_place s) m ≡ Some asks
    → lacks_flag (session_terms s) (code_of m) ≡ true → turn_of r (session_place s) m f ≡ refused_turn r (session_place s) m f UnsupportedRequest
lacking_turn r s f m asks form is h = lacking r s m f asks form is h

-- ---- HEARTBEAT and END_SESSION.

pub alive_deed : (r : RspSetup) (s : Events) (f : Free) (m out : List ℕ) → IsAllowed r s m Heartbeat → out ≡ canonical_response HeartbeatAck → IsDeed r s f m out deed.Alive
alive_deed r s f m out a is =
    let answer = canonical_response HeartbeatAck in
    record {
      turn = turn-answered r (session_place s) m f Heartbeat a.form a.asks refl
          (answered_by _ (is_answer_too_long (session_place s) answer) (has_flag r s m Heartbeat a) (short_fits r s answer a.sizes (omega arith)))
          (short_is_small r s answer a.sizes (omega arith))
          ∙ ap (answered_turn m Heartbeat) (sym is);
      fit = tt;
    }

pub ended_deed : (r : RspSetup) (s : Events) (f : Free) (m out : List ℕ) → IsAllowed r s m EndSession → out ≡ canonical_response EndSessionAck → IsDeed r s f m out deed.Ended
ended_deed r s f m out a is =
    let answer = canonical_response EndSessionAck in
    record {
      turn = turn-answered r (session_place s) m f EndSession a.form a.asks refl
          (answered_by (lacks_flag (session_terms s) (code_for EndSession)) (is_answer_too_long (session_place s) answer) (has_flag r s m EndSession a) (short_fits r s answer a.sizes (omega arith)))
          (short_is_small r s answer a.sizes (omega arith))
          ∙ ap (answered_turn m EndSession) (sym is);
      fit = tt;
    }

-- ---- PSK_FINISH.

pub finished_turn : (r : RspSetup) (s : Events) (f : Free) (m verify : List ℕ) → IsAllowed r s m (PskFinish verify)
    → bytes_eq verify (right_verify r.psk s m) ≡ true → turn_of r (session_place s) m f ≡ answered_turn m (PskFinish verify) (canonical_response PskFinishRsp)
finished_turn r s f m verify a right = finish-answered r s m f verify a.sizes a.form a.asks right

pub unverified_turn : (r : RspSetup) (s : Events) (f : Free) (m verify : List ℕ) → IsAllowed r s m (PskFinish verify) → bytes_eq verify (right_verify r.psk s m) ≡ false
    → turn_of r (session_place s) m f ≡ refused_turn r (session_place s) m f DecryptError
unverified_turn r s f m verify a wrong = finish-refused r s m f verify a.form a.asks wrong

-- ---- KEY_UPDATE.

pub misplaced_turn : (r : RspSetup) (s : Events) (f : Free) (m : List ℕ) (op tag : ℕ) → IsAllowed r s m (KeyUpdate op tag) → fits_stage (stage_of s) op ≡ false
    → turn_of r (session_place s) m f ≡ refused_turn r (session_place s) m f UnexpectedRequest
misplaced_turn r s f m op tag a other = update-misplaced r s m f op tag a.form a.asks a.flag other

pub verified_deed : (r : RspSetup) (s : Events) (f : Free) (m out : List ℕ) (op tag : ℕ) → IsAllowed r s m (KeyUpdate op tag) → fits_stage (stage_of s) op ≡ true → op ≡ 3
    → out ≡ canonical_response (KeyUpdateAck op tag) → IsDeed r s f m out (deed.Verified tag)
verified_deed r s f m out op tag a fits three is = record {
  turn = update-answered r s m f op tag a.sizes a.form a.asks a.flag fits ∙ ap (λ (n : ℕ). update_turn m n tag) three;
  fit = (verify_in_verifying r s m op tag a fits three, is ∙ ap (λ (n : ℕ). canonical_response (KeyUpdateAck n tag)) three);
}

operation : (op : ℕ) → 1 ≤ op → op ≤ 3 → (op ≡ 3 → ⊥) → op ≡ (if op == 2 then 2 else 1)
operation op low high other = grind (arith, nat_tests)

pub update_deed : (r : RspSetup) (s : Events) (f : Free) (m out : List ℕ) (op tag : ℕ) → IsAllowed r s m (KeyUpdate op tag) → fits_stage (stage_of s) op ≡ true → 1 ≤ op → op ≤ 3 → (op ≡ 3 → ⊥)
    → HasEpochs s → out ≡ canonical_response (KeyUpdateAck op tag) → IsDeed r s f m out (deed.Update (op == 2) tag)
update_deed r s f m out op tag a fits low high other epochs is = record {
  turn = update-answered r s m f op tag a.sizes a.form a.asks a.flag fits ∙ ap (λ (n : ℕ). update_turn m n tag) (operation op low high other);
  fit = (update_in_open r s m op tag a fits other, epochs, is ∙ ap (λ (n : ℕ). canonical_response (KeyUpdateAck n tag)) (operation op low high other));
}

-- ---- GET_MEASUREMENTS.

pub measured_by : (lacks missing long : Bool) (x y z : Bool) → lacks ≡ x → missing ≡ y → long ≡ z
    → (if lacks then Some UnsupportedRequest else (if missing then Some InvalidRequest else (if long then Some ResponseTooLarge else None)))
    ≡ (if x then Some UnsupportedRequest else (if y then Some InvalidRequest else (if z then Some ResponseTooLarge else None)))
measured_by lacks missing long x y z h k l = λ i. if h i then Some UnsupportedRequest else (if k i then Some InvalidRequest else (if l i then Some ResponseTooLarge else None))

-- The whole answer.
abbrev pub measured_answer : RspSetup → Free → ℕ → List ℕ
measured_answer r f op = canonical_response (measurements_answer r f op)

pub missing_turn : (r : RspSetup) (s : Events) (f : Free) (m : List ℕ) (op : ℕ) → IsAllowed r s m (GetMeasurements op) → is_missing op (inventory_of r) ≡ true
    → turn_of r (session_place s) m f ≡ refused_turn r (session_place s) m f InvalidRequest
missing_turn r s f m op a missing =
    turn-refused r (session_place s) m f (GetMeasurements op) InvalidRequest a.form a.asks
    (measured_by _ (is_missing op (inventory_of r)) (is_answer_too_long (session_place s) (measured_answer r f op)) false true _ (has_flag r s m (GetMeasurements op) a) missing refl)

pub too_long_turn : (r : RspSetup) (s : Events) (f : Free) (m : List ℕ) (op : ℕ) → IsAllowed r s m (GetMeasurements op) → is_missing op (inventory_of r) ≡ false
    → is_answer_too_long (session_place s) (measured_answer r f op) ≡ true → turn_of r (session_place s) m f ≡ refused_turn r (session_place s) m f ResponseTooLarge
too_long_turn r s f m op a found is =
    turn-refused r (session_place s) m f (GetMeasurements op) ResponseTooLarge a.form a.asks
    (measured_by _ (is_missing op (inventory_of r)) (is_answer_too_long (session_place s) (measured_answer r f op)) false false true (has_flag r s m (GetMeasurements op) a) found is)

-- How long the answer is that is too long.
pub told_length : (r : RspSetup) (s : Events) (f : Free) (m : List ℕ) (op long : ℕ) → IsAllowed r s m (GetMeasurements op) → long ≡ length (measured_answer r f op)
    → long ≡ length (answer_bytes r (session_place s) m f)
told_length r s f m op long a size = size ∙ ap (λ (x : List ℕ). length x) (sym (answer_is r (session_place s) m f (GetMeasurements op) a.asks))

pub measured_deed : (r : RspSetup) (s : Events) (f : Free) (m out : List ℕ) (op : ℕ) → IsAllowed r s m (GetMeasurements op) → is_missing op (inventory_of r) ≡ false
    → is_answer_too_long (session_place s) (measured_answer r f op) ≡ false → goes_large (session_place s) (measured_answer r f op) ≡ false → out ≡ measured_answer r f op
    → IsDeed r s f m out (deed.Measured op)
measured_deed r s f m out op a found fits small is =
    record {
      turn = turn-answered r (session_place s) m f (GetMeasurements op) a.form a.asks refl
          (measured_by _ (is_missing op (inventory_of r)) (is_answer_too_long (session_place s) (measured_answer r f op)) false false false (has_flag r s m (GetMeasurements op) a) found fits) small
          ∙ ap (answered_turn m (GetMeasurements op)) (sym is);
      fit = tt;
    }

is_less : (a b : ℕ) → nat_lt a (0 + b) ≡ true → a < b
is_less a b h = grind (arith, nat_tests)

pub large_deed : (r : RspSetup) (s : Events) (f : Free) (m out : List ℕ) (op : ℕ) → IsAllowed r s m (GetMeasurements op) → is_missing op (inventory_of r) ≡ false
    → is_answer_too_long (session_place s) (measured_answer r f op) ≡ false → goes_large (session_place s) (measured_answer r f op) ≡ true → out ≡ measured_answer r f op
    → (handle : ℕ) → f.handle ≡ handle → IsDeed r s f m out (deed.Large op handle)
large_deed r s f m out op a found fits large is handle given =
    record {
      turn = turn-large r (session_place s) m f (GetMeasurements op) a.form a.asks refl
          (measured_by _ (is_missing op (inventory_of r)) (is_answer_too_long (session_place s) (measured_answer r f op)) false false false (has_flag r s m (GetMeasurements op) a) found fits) large
          ∙ (λ i. large_turn m (GetMeasurements op) (sym is i) (given i));
      fit = subst (λ (x : List ℕ). (session_terms s).common.to_requester.transfer < length x) (sym is) (is_less (session_terms s).common.to_requester.transfer (length (measured_answer r f op)) large);
    }

-- An answer that is not too long has at most 4,096 bytes.
first_false : (a b : Bool) → (a || b) ≡ false → a ≡ false
first_false true b h = absurd (cc)
first_false false b h = refl

pub fits_frame : (r : RspSetup) (s : Events) (answer : List ℕ) → HasSizes r (session_terms s).common → is_answer_too_long (session_place s) answer ≡ false → length answer ≤ MAX_MESSAGE_SIZE
fits_frame r s answer sizes h =
    let common = (session_terms s).common in
    let short = first_false (nat_lt common.to_requester.max (length answer)) (not common.chunk && nat_lt common.to_requester.transfer (0 + length answer)) h in
    let most = sizes.most in
    let le : length answer ≤ common.to_requester.max = grind (arith, nat_tests) in
    omega arith
