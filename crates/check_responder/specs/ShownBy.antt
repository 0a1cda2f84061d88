-- What the program goes by where it reads the values that an answer shows. This project's own.
use Rattle.std.specs.Prelude.{◌≡◌, if◌then◌else◌, [], ◌∷◌, ◌≤◌, ◌==◌, ◌&&◌, ◌||◌, Bool, true, false, is_none, slice_index, ℕ, List, length, Option, Some, None}
use Rattle.responder_core.specs.Free.{IsFree}
use Rattle.responder_core.specs.declared.free_values.FreeValues.{FreeValues}
use Rattle.measurements.specs.Blocks.{record_of}
use Rattle.measurements.specs.Records.{asked}
use Rattle.responder_machine.specs.Answer.{Free}
use Rattle.responder_machine.specs.Handling.{turn_of}
use Rattle.responder_machine.specs.History.{History, ended_of}
use Rattle.responder_machine.specs.May.{IsAllowed}
use Rattle.responder_machine.specs.Place.{Place, clear_place, place_terms, session_place}
use Rattle.responder_machine.specs.Records.{opening_fault}
use Rattle.responder_machine.specs.Refusal.{bytes_round}
use Rattle.responder_machine.specs.Responder.{body_of, on_record, repeats}
use Rattle.responder_machine.specs.Session.{Events, id_in_record, is_live, last_of, session_of}
use Rattle.responder_machine.specs.Setup.{RspSetup, inventory_of}
use Rattle.spdm_grammar.specs.declared.names.TheConstants.{MAX_MESSAGE_SIZE}
use Rattle.spdm_grammar.specs.declared.names.response_code.TheConstants.{CHUNK_RESPONSE}
use Rattle.check_laws.specs.AnswersShown.{least_values, values_in_text}
use Rattle.check_laws.specs.DropsShown.{may_be_dropped}
use Rattle.check_responder.specs.declared.response_values.AnswerPlace.{AnswerPlace}
use Rattle.capture_machine.specs.CapturedAnswers.{belongs_to, clear_answer, is_plain, record_answer}
use Rattle.capture_machine.specs.Rounds.{no_draw}

-- The program goes by what was settled at this place: the hash, the transfer size of the requester, and how many bytes
-- stand round an answer.
pub record IsPlaceOf (seen : AnswerPlace) (p : Place) : Type 0 where
  pub hash : (place_terms p).choice.hash ≡ seen.hash
  pub transfer : (place_terms p).common.to_requester.transfer ≡ seen.transfer
  pub round : bytes_round p.at ≡ seen.round

-- At these values, which are allowed, a clear message that is no repeat gets an answer with the code of this one.
pub record AnswersSo (r : RspSetup) (h : History) (m reply : List ℕ) (f : Free) : Type 0 where
  pub allowed : IsAllowed h (clear_place h) f
  pub short : length (clear_answer r (clear_place h) m f) ≤ MAX_MESSAGE_SIZE
  pub answered : slice_index (turn_of r (clear_place h) m f).reply 1 ≡ slice_index reply 1

-- These values are shown in the clear; or ones at which there is no such answer.
abbrev pub AreReadClear : RspSetup → History → (m reply : List ℕ) → Free → Option FreeValues → Type 0
AreReadClear r h m reply f None = AnswersSo r h m reply f → ⊥
AreReadClear r h m reply f (Some values) = IsFree values f

-- No operation asks for more than 4,054 bytes of measurements.
abbrev pub HasFewBlocks : RspSetup → Type 0
HasFewBlocks r = (op : ℕ) → length (record_of (asked op (inventory_of r))) ≤ 4054

-- The response is CHUNK_RESPONSE with the last chunk.
abbrev pub shows_last : (response : List ℕ) → Bool
shows_last response = slice_index response 1 == CHUNK_RESPONSE && slice_index response 2 == 1

-- At these values, which are allowed, a record is answered so, by no part of a large response that is judged otherwise.
pub record IsRecordAnswered (r : RspSetup) (h : History) (tag : ℕ) (request : List ℕ) (f : Free) (answer : List ℕ) : Type 0 where
  pub allowed : IsAllowed h (session_place (session_of (id_in_record request) h)) f
  pub short : length (record_answer r (session_of (id_in_record request) h) request f) ≤ MAX_MESSAGE_SIZE
  pub plain : is_plain h (on_record r h tag request f no_draw) ≡ true
  pub body : body_of (on_record r h tag request f no_draw) ≡ answer

-- At these values, which are allowed, a record is answered so, by whatever part of a large response.
pub record IsRecordGiven (r : RspSetup) (h : History) (tag : ℕ) (request : List ℕ) (f : Free) (answer : List ℕ) : Type 0 where
  pub allowed : IsAllowed h (session_place (session_of (id_in_record request) h)) f
  pub short : length (record_answer r (session_of (id_in_record request) h) request f) ≤ MAX_MESSAGE_SIZE
  pub body : body_of (on_record r h tag request f no_draw) ≡ answer

-- The values that a text shows which answers this inner message of a record.
abbrev pub text_shown : RspSetup → History → (request inner text : List ℕ) → Free
text_shown r h request inner text =
    let s = session_of (id_in_record request) h in values_in_text r s inner (least_values h (session_place s)) text

-- The record opens in a live session.
abbrev pub opens_at : RspSetup → Events → (request : List ℕ) → Bool
opens_at r s request = is_live s && is_none (opening_fault r.psk s request)

-- The record is no repeat, and its session takes it.
pub record IsTaken (r : RspSetup) (h : History) (request : List ℕ) : Type 0 where
  pub ended : repeats (ended_of h) request ≡ false
  pub last : repeats (last_of (session_of (id_in_record request) h)) request ≡ false
  pub opens : opens_at r (session_of (id_in_record request) h) request ≡ true

-- The record is the last one of the ended session, or of the session that it names.
abbrev pub IsRepeated : History → (request : List ℕ) → Type 0
IsRepeated h request = (repeats (ended_of h) request || repeats (last_of (session_of (id_in_record request) h)) request) ≡ true

-- The session that is dropped where a record is answered in the clear.
abbrev pub closed_drops : RspSetup → History → (request : List ℕ) → List ℕ
closed_drops r h request =
    let id = id_in_record request in if belongs_to r (session_of id h) request && may_be_dropped h id then id ∷ [] else []
