-- What an inner message does in a session.
use Rattle.std.specs.Prelude.{◌≡◌, ◌<◌, ◌≤◌, ℕ, List, if◌then◌else◌, length, Bool, true, false, Some, None}
use Rattle.responder_machine.specs.Answer.{Free, request_at}
use Rattle.responder_machine.specs.Handling.{error_bytes, refused_turn, turn_of, large_response}
use Rattle.responder_machine.specs.Place.{session_place}
use Rattle.responder_machine.specs.Refusal.{refused_form, lacks_flag, code_of}
use Rattle.responder_machine.specs.Responder.{data_turn, session_turn}
use Rattle.responder_machine.specs.Session.{Events, stage_of, session_terms}
use Rattle.responder_machine.specs.Setup.{RspSetup}
use Rattle.responder_machine.specs.SizeLaws.{HasSizes}
use Rattle.responder_machine.specs.Turn.{Turn}
use Rattle.responder_machine.specs.Turn.Effect.{Took}
use Rattle.spdm_grammar.specs.Message.{RequestMessage}
use Rattle.spdm_grammar.specs.Message.RequestMessage.{GetMeasurements, Heartbeat, EndSession, ChunkGet, PskFinish}
use Rattle.spdm_grammar.specs.Message.ResponseMessage.{KeyUpdateAck, PskFinishRsp}
use Rattle.spdm_grammar.specs.Responses.{canonical_response}
use Rattle.spdm_grammar.specs.declared.told.phase.Stage.TheVariants as stage
use Rattle.responder_session.specs.Turns.{answered_turn}
use Rattle.responder_session.specs.Updates.{HasEpochs, update_turn}
use Rattle.responder_session.specs.declared.request_effect.RequestEffect.{RequestEffect}
use Rattle.responder_session.specs.declared.request_effect.RequestEffect.TheVariants as deed
use Rattle.responder_session.specs.declared.request_effect.ResponseValues.{ResponseValues}
use Rattle.spdm_grammar.specs.declared.names.TheConstants.{MAX_APP_DATA_LEN}

-- The values that are handed in for a record are these free values.
pub record AreFree (given : ResponseValues) (f : Free) : Type 0 where
  pub nonce : f.nonce ≡ given.nonce.now
  pub opaque : f.measured_opaque ≡ given.opaque.now
  pub handle : f.handle ≡ given.handle
  pub reply : f.reply ≡ given.reply.now
  pub pad : f.pad ≡ given.pad.now

-- What an open session needs of them: they are these free values, and its keys can be updated.
pub record AreGiven (given : ResponseValues) (f : Free) (s : Events) : Type 0 where
  pub free : AreFree given f
  pub epochs : HasEpochs s

-- A request that took effect, and whose answer went by LargeResponse.
abbrev pub large_turn : (message : List ℕ) → RequestMessage → (answer : List ℕ) → (handle : ℕ)
    → Turn
large_turn message asked answer handle =
    record {
      message = message;
      refused = None;
      chunk = None;
      effect = Took asked message answer (Some handle);
      reply = large_response handle;
    }

-- The turn of a message, by what it does and by the whole answer to it.
abbrev pub turn_for : RspSetup → Events → Free → (message answer : List ℕ) → RequestEffect → Turn
turn_for r s f message answer (deed.Refused code) = refused_turn r (session_place s) message f code
turn_for r s f message answer deed.Data = data_turn f message
turn_for r s f message answer (deed.Finished verify) =
    answered_turn message (PskFinish verify.now) (canonical_response PskFinishRsp)
turn_for r s f message answer deed.Alive = answered_turn message Heartbeat answer
turn_for r s f message answer (deed.Measured op) = answered_turn message (GetMeasurements op) answer
turn_for r s f message answer (deed.Large op handle) =
    large_turn message (GetMeasurements op) answer handle
turn_for r s f message answer (deed.Update all tag) = update_turn message (if all then 2 else 1) tag
turn_for r s f message answer (deed.Verified tag) = update_turn message 3 tag
turn_for r s f message answer deed.Ended = answered_turn message EndSession answer
turn_for r s f message answer (deed.Chunk handle number) =
    answered_turn message (ChunkGet handle number) answer

-- What else is known of it: which answer is sent, that application data has at most 1,024 bytes, that a large response
-- is longer than the requester's transfer size, and in which stage the keys change.
abbrev pub IsFit : RspSetup → Events → Free → (message answer : List ℕ) → RequestEffect → Type 0
IsFit r s f message answer (deed.Refused code) =
    answer ≡ error_bytes r (session_place s) message f code
IsFit r s f message answer deed.Data =
    (stage_of s ≡ stage.Open) × (length message ≤ MAX_APP_DATA_LEN) × (answer ≡ f.reply)
IsFit r s f message answer (deed.Finished verify) =
    (stage_of s ≡ stage.Handshake) × (answer ≡ canonical_response PskFinishRsp)
IsFit r s f message answer (deed.Large op handle) =
    (session_terms s).common.to_requester.transfer < length answer
IsFit r s f message answer (deed.Update all tag) =
    (stage_of s ≡ stage.Open) × HasEpochs s
    × (answer ≡ canonical_response (KeyUpdateAck (if all then 2 else 1) tag))
IsFit r s f message answer (deed.Verified tag) =
    (stage_of s ≡ stage.Verifying) × (answer ≡ canonical_response (KeyUpdateAck 3 tag))
IsFit r s f message answer _ = Unit {0}

-- What a message that is read as a request does.
pub record IsDeed (r : RspSetup) (s : Events) (f : Free) (message answer : List ℕ) (does : RequestEffect) : Type 0 where
  pub turn : turn_of r (session_place s) message f ≡ turn_for r s f message answer does
  pub fit : IsFit r s f message answer does

-- What an inner message with this message after its type does.
pub record IsInnerDeed (r : RspSetup) (s : Events) (f : Free) (inner message answer : List ℕ) (does : RequestEffect) : Type 0 where
  pub turn : session_turn r s inner f ≡ turn_for r s f message answer does
  pub fit : IsFit r s f message answer does

-- A request came to a session, at a responder with its sizes: neither its form nor its code is refused.
pub record IsAllowed (r : RspSetup) (s : Events) (m : List ℕ) (asked : RequestMessage) : Type 0 where
  pub sizes : HasSizes r (session_terms s).common
  pub form : refused_form r (session_place s) m ≡ None
  pub asks : request_at (session_place s) m ≡ Some asked
  pub flag : lacks_flag (session_terms s) (code_of m) ≡ false

-- A request that leaves the keys and asks for no chunk.
abbrev pub is_quiet : RequestMessage → Bool
is_quiet Heartbeat = true
is_quiet (GetMeasurements op) = true
is_quiet _ = false

-- Its whole answer is sent, and no LargeResponse in its place.
abbrev pub is_whole : RequestEffect → Bool
is_whole (deed.Large op handle) = false
is_whole _ = true
