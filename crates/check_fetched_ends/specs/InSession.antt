-- A large response that is fetched in a session, as the program represents it: the connection judges with some bytes in
-- its place. This project's own.
use Rattle.std.specs.Prelude.{◌≡◌, ◌≤◌, ◌<◌, ◌-◌, ◌==◌, ◌++◌, ◌↔◌, ℕ, List, drop, length, slice_index, Bool, true, false, if◌then◌else◌, Option, Some, None, unwrap_or}
use Rattle.check_responder.specs.AnswerKeys.{will_take}
use Rattle.check_ends.specs.Party.{IsBeside}
use Rattle.check_ends.specs.declared.party.Party.{Party}
use Rattle.check_laws.specs.AnswersShown.{answered_text}
use Rattle.check_laws.specs.RepliesShown.{responder_for}
use Rattle.check_fetched_laws.specs.AnswerTexts.{Holds}
use Rattle.check_fetched_laws.specs.JudgedFor.{JudgesFor, session_with}
use Rattle.check_fetched_laws.specs.LastShown.{IsShownWhole}
use Rattle.check_fetched_ends.specs.declared.session_fetch.in_session.InSession.{InSession}
use Rattle.measurements.specs.Records.{is_missing}
use Rattle.check_late_laws.specs.Fetching.{Fetching, MayStand, bytes_in, size_in}
use Rattle.check_late_laws.specs.LargeAnswers.{StandsFor}
use Rattle.requester_machine.specs.Setup.{ReqSetup}
use Rattle.responder_machine.specs.Answer.{Free, measurements_answer}
use Rattle.responder_machine.specs.History.{History, kept_of}
use Rattle.responder_machine.specs.Place.{Place, place_terms, session_place}
use Rattle.responder_machine.specs.Refusal.{has_pending}
use Rattle.responder_machine.specs.Responder.{is_repeat}
use Rattle.responder_machine.specs.Session.{id_in_record, is_live, session_of, session_terms}
use Rattle.responder_machine.specs.Setup.{RspSetup, inventory_of}
use Rattle.responder_session.specs.Pending.{IsUncounted}
use Rattle.spdm_grammar.specs.Fields.{zeros}
use Rattle.spdm_grammar.specs.Message.RequestMessage.{GetVersion}
use Rattle.spdm_grammar.specs.Requests.{canonical_request}
use Rattle.spdm_grammar.specs.Responses.{canonical_response}
use Rattle.spdm_grammar.specs.declared.names.TheConstants.{MAX_MESSAGE_SIZE, MAX_OPAQUE_LEN}
use Rattle.spdm_grammar.specs.declared.names.response_code.TheConstants.{CHUNK_RESPONSE}
use Rattle.capture_machine.specs.LargeAnswers.{IsLargeAnswer, with_large}
use Rattle.capture_machine.specs.Opening.{turn_in}
use Rattle.capture_machine.specs.SessionTable.{Row}
use Rattle.world_machine.specs.Setup.{Configuration}
use Rattle.spdm_grammar.specs.declared.names.message_type.TheConstants.{SPDM}

-- ---- The texts of answers.

-- The message is CHUNK_RESPONSE.
abbrev pub is_chunk : (message : List ℕ) → Bool
is_chunk message = slice_index message 1 == CHUNK_RESPONSE

-- A record that the session takes, and this is what an answer to it holds.
pub record IsTextOf (r : RspSetup) (h : History) (body answer text : List ℕ) : Type 0 where
  pub taken : will_take r h body ≡ true
  pub holds : text ≡ (let s = session_of (id_in_record (drop 1 body)) h in answered_text r s (turn_in r s (drop 1 body)) (drop 1 answer))
  pub brief : length text < 65536

-- ---- The bytes.

-- The lengths that are sent in chunks at a place are those from the least to the most.
abbrev pub AreLengths : Place → (least most : ℕ) → Type 0
AreLengths p least most = (whole : List ℕ) → IsLargeAnswer p whole ↔ ((least ≤ length whole) × (length whole ≤ most))

-- The announced length with one more CHUNK_RESPONSE: the first one tells it.
abbrev pub size_with : (number : ℕ) → Option ℕ → (message : List ℕ) → ℕ
size_with number told message = if number == 0 then size_in message else unwrap_or told 0

-- The bytes so far, and those of the next chunk.
abbrev pub bytes_with : (number : ℕ) → (bytes message : List ℕ) → List ℕ
bytes_with number bytes message = bytes ++ bytes_in number message

-- These, and zeros up to the announced length.
abbrev pub filled : (number : ℕ) → Option ℕ → (bytes message : List ℕ) → List ℕ
filled number told bytes message =
    bytes_with number bytes message ++ zeros (size_with number told message - length (bytes_with number bytes message))

-- They are of a told length that is sent in chunks, and are no longer.
pub record AreFitting (fetched : InSession) (message : List ℕ) : Type 0 where
  pub least : fetched.least ≤ size_with fetched.answer.number fetched.answer.size message
  pub most : size_with fetched.answer.number fetched.answer.size message ≤ fetched.most
  pub few : size_with fetched.answer.number fetched.answer.size message ≤ MAX_MESSAGE_SIZE
  pub within : length (bytes_with fetched.answer.number fetched.answer.bytes message) ≤ size_with fetched.answer.number fetched.answer.size message

-- With a chunk these bytes stand for the answer; or it has none that do.
abbrev pub IsFilled : InSession → (message : List ℕ) → (whole : Option (List ℕ)) → Type 0
IsFilled fetched message None = AreFitting fetched message → ⊥
IsFilled fetched message (Some whole) =
    AreFitting fetched message × (whole ≡ filled fetched.answer.number fetched.answer.size fetched.answer.bytes message)

-- ---- What the whole answer is.

-- MEASUREMENTS for an operation, with some nonce and some opaque data.
abbrev pub IsMeasuredBy : RspSetup → (op : ℕ) → (whole : List ℕ) → Type 0
IsMeasuredBy r op whole =
    (f : Free) × (length f.nonce ≡ 32) × (length f.measured_opaque ≤ MAX_OPAQUE_LEN) × (whole ≡ canonical_response (measurements_answer r f op))

-- The request of the large response of a session may lead to all MEASUREMENTS for this operation that are sent in
-- chunks, and to nothing else.
abbrev pub AsksFor : RspSetup → (id : ℕ) → Place → (op : ℕ) → History → Type 0
AsksFor r id place op h = (whole : List ℕ) → IsLargeAnswer place whole → IsShownWhole r (Some id) whole h ↔ IsMeasuredBy r op whole

-- ---- What is kept.

-- The connection judges with some bytes that may stand; what is kept of the chunks, the lengths that are sent in
-- chunks, the RspSessionID, the operation that the request asks for, which has its blocks, and whether a chunk is left
-- to be given. Where none is, the session counts the answer, and is else as if it was not seen. The responder takes
-- messages of four bytes, and GET_VERSION would be no repeat.
pub record IsFetchedIn (party : Party) (fetched : InSession) (w : Configuration) (q : ReqSetup) (f : Fetching) (rows : List Row) : Type 0 where
  pub beside : IsBeside party w q f.kept rows
  pub at : f.at ≡ Some fetched.id
  pub answer : StandsFor fetched.answer f
  pub lengths : AreLengths f.place fetched.least fetched.most
  pub asks : AsksFor (responder_for w f.kept) fetched.id f.place fetched.op f.kept.responder
  pub found : is_missing fetched.op (inventory_of (responder_for w f.kept)) ≡ false
  pub whole : List ℕ
  pub stands : MayStand f whole
  pub judges : JudgesFor party.answerer.connection (responder_for w f.kept) f.kept.responder (Some fetched.id) whole
  pub pending : has_pending (session_place (session_with fetched.id f.kept.responder whole)) ≡ fetched.left
  pub uncounted : fetched.left ≡ false → is_live (session_with fetched.id f.kept.responder whole) ≡ true → IsUncounted (session_with fetched.id f.kept.responder whole) (session_of fetched.id f.kept.responder)
  pub sizes : fetched.left ≡ true → (session_terms (session_with fetched.id f.kept.responder whole)).common ≡ (place_terms f.place).common
  pub room : 4 ≤ (responder_for w f.kept).transfer
  pub anew : (tag : ℕ) → is_repeat (kept_of f.kept.responder) tag (canonical_request GetVersion) ≡ false

-- ---- An answer.

-- The answer to a record of the session holds a chunk, and one is left to be given: these bytes stand for the large
-- response with it, and the connection judges with them.
pub record IsReadIn (party : Party) (fetched : InSession) (w : Configuration) (q : ReqSetup) (f : Fetching) (rows : List Row) (body answer message whole : List ℕ) : Type 0 where
  pub kept : IsFetchedIn party fetched w q f rows
  pub same : kept.whole ≡ whole
  pub left : fetched.left ≡ true
  pub record_is : (slice_index body 0 == SPDM) ≡ false
  pub sealed : (slice_index answer 0 == SPDM) ≡ false
  pub text : List ℕ
  pub read : IsTextOf (responder_for w f.kept) (with_large (Some fetched.id) whole f.kept.responder) body answer text
  pub holds : Holds text message
  pub chunk : is_chunk message ≡ true
  pub fits : AreFitting fetched message
  pub fills : whole ≡ filled fetched.answer.number fetched.answer.size fetched.answer.bytes message
