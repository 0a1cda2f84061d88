-- What a clear message leads to that came to a clear request: it is the answer itself, or carries it in chunks
-- (DSP0274, "CHUNK_SEND_ACK", "CHUNK_RESPONSE"; which one is ignored, and at which place it is malformed, is this
-- project's own).
use Rattle.std.specs.Prelude.{◌+◌, ◌==◌, ◌&&◌, not, ℕ, List, [], ◌∷◌, length, if◌then◌else◌, Bool, false, Option, Some, None, is_none, unwrap_or, Result, Ok, Err}
use Rattle.chunking.specs.Collecting.{broken_rule, joined_with}
use Rattle.negotiate.specs.declared.shared.Common.{Common}
use Rattle.spdm_grammar.specs.Message.{RequestMessage, ResponseMessage, ChunkMessage}
use Rattle.spdm_grammar.specs.Message.RequestMessage.{PskExchange}
use Rattle.spdm_grammar.specs.Message.ResponseMessage.{Error, ChunkSendAck, ChunkResponse}
use Rattle.spdm_grammar.specs.Responses.{response_reading}
use Rattle.spdm_grammar.specs.declared.told.event.ReqIgnored.{ReqIgnored}
use Rattle.spdm_grammar.specs.declared.told.event.ReqIgnored.TheVariants as ignored
use Rattle.spdm_grammar.specs.declared.messages.malformed.Malformed.{Malformed}
use Rattle.spdm_grammar.specs.declared.messages.part_faults.ChunkFault.{ChunkFault}
use Rattle.spdm_grammar.specs.declared.messages.part_faults.ChunkFault.TheVariants as chunk
use Rattle.requester_machine.specs.Setup.{ReqSetup}
use Rattle.spdm_machine.specs.Terms.{hash_len}
use Rattle.requester_machine.specs.Answers.{answer_led, goes_on, is_refused}
use Rattle.requester_machine.specs.Bodies.{first_cause, error_in}
use Rattle.requester_machine.specs.Commands.{Free}
use Rattle.requester_machine.specs.History.{History, Led, connection_terms}
use Rattle.requester_machine.specs.History.Effect.{Nothing, Refuses}
use Rattle.requester_machine.specs.Message.{Aim, Sent}
use Rattle.requester_machine.specs.Message.Aim.{Plain, ByChunks, ForChunk, InSession}
use Rattle.requester_machine.specs.Sending.{piece_of, piece_sent, get_sent}

-- What a message is to a clear request: it is ignored; an ERROR with this code refuses the request; it calls for this
-- next message; or it carries the whole answer, which begins at this place in it.
pub data Carried : Type 0 where
  Ignored : (cause : ReqIgnored) → Carried
  Refused : (code : ℕ) → Carried
  Further : (next : Sent) → Carried
  Whole : (answer : List ℕ) → (place : ℕ) → Carried

-- ---- Reading.

-- A summary is in the answer where one was asked for.
abbrev pub has_summary : RequestMessage → Bool
has_summary (PskExchange exchange) = not (exchange.summary == 0)
has_summary _ = false

-- The response that bytes encode, or their first fault, as an answer to a clear request.
abbrev pub reading_of : History → RequestMessage → List ℕ → Result ResponseMessage Malformed
reading_of h asked bytes = response_reading (hash_len (connection_terms h)) (has_summary asked) bytes

-- ---- An acknowledgement of a chunk that was sent.

-- CHUNK_SEND_ACK with another handle or another number is malformed there; with the early mark and a response that
-- encodes no ERROR, or without it to a chunk that is not the last and with a response, at the response.
abbrev pub ack_tests : ChunkMessage → (early : Bool) → (handle number : ℕ) → List ℕ → List (Bool × ReqIgnored)
ack_tests piece early handle number response =
    (not (handle == piece.handle), ignored.Malformed 3)
    ∷ (not (number == piece.number), ignored.Malformed 4)
    ∷ (early && is_none (error_in response), ignored.Malformed 6)
    ∷ (not early && not piece.last && not (length response == 0), ignored.Malformed 6)
    ∷ []

-- One that is no fault: the early mark stands with an ERROR, which refuses the request; the last chunk is acknowledged
-- with the answer; any other calls for the next chunk.
abbrev pub acknowledged : History → Common → RequestMessage → ChunkMessage → (early : Bool) → List ℕ → Option ReqIgnored → Carried
acknowledged h common asked piece early response (Some cause) = Ignored cause
acknowledged h common asked piece early response None =
    if early then Refused (unwrap_or (error_in response) 0)
    else (if piece.last then Whole response 6
    else Further (piece_sent common h asked piece.handle (piece.number + 1)))

-- A message that answers a chunk: one that does not read is malformed at its first fault; an ERROR refuses the request;
-- CHUNK_SEND_ACK is tested; any other is malformed at its code, byte 1.
abbrev pub ack_carries : History → Common → RequestMessage → ChunkMessage → Result ResponseMessage Malformed → Carried
ack_carries h common asked piece (Err fault) = Ignored (ignored.Malformed fault.at)
ack_carries h common asked piece (Ok (Error version code detail extended)) = Refused code
ack_carries h common asked piece (Ok (ChunkSendAck early handle number response)) =
    acknowledged h common asked piece early response (first_cause (ack_tests piece early handle number response))
ack_carries h common asked piece (Ok _) = Ignored (ignored.Malformed 1)

-- ---- A chunk of a large answer.

-- The rule that a chunk breaks as the one that was asked for, after the chunks before it: it has another handle, or
-- another number; or a rule of collecting, with the own max size as the greatest length.
abbrev pub get_fault : (max handle number : ℕ) → List ChunkMessage → ChunkMessage → Option ChunkFault
get_fault max handle number before c =
    if not (c.handle == handle) then Some chunk.WrongHandle
    else (if not (c.number == number) then Some chunk.WrongNumber
    else broken_rule max before c)

-- The last chunk completes the answer; any other calls for the next one.
abbrev pub collected : History → RequestMessage → List ChunkMessage → ChunkMessage → Option ChunkFault → Carried
collected h asked before c (Some fault) = Ignored (ignored.Chunk fault)
collected h asked before c None =
    if c.last then Whole (joined_with before c) 0
    else Further (get_sent h asked c.handle (c.number + 1) (c ∷ before))

-- A message that answers CHUNK_GET: one that does not read is malformed at its first fault; an ERROR refuses the
-- request; the chunk of CHUNK_RESPONSE is collected; any other is malformed at its code, byte 1.
abbrev pub chunk_carries : ReqSetup → History → RequestMessage → (handle number : ℕ) → List ChunkMessage → Result ResponseMessage Malformed → Carried
chunk_carries q h asked handle number before (Err fault) = Ignored (ignored.Malformed fault.at)
chunk_carries q h asked handle number before (Ok (Error version code detail extended)) = Refused code
chunk_carries q h asked handle number before (Ok (ChunkResponse c)) = collected h asked before c (get_fault q.max handle number before c)
chunk_carries q h asked handle number before (Ok _) = Ignored (ignored.Malformed 1)

-- ---- All together.

-- What a message is to what was asked for in the clear.
unfoldable pub carried_by : ReqSetup → History → List ℕ → Aim → Carried
carried_by q h m (Plain asked) = Whole m 0
carried_by q h m (ByChunks asked handle number) =
    ack_carries h (connection_terms h).common asked (piece_of (connection_terms h).common asked handle number) (reading_of h asked m)
carried_by q h m (ForChunk asked handle number before) = chunk_carries q h asked handle number before (reading_of h asked m)
carried_by q h m (InSession id ask) = Ignored ignored.WrongPlace

-- A whole answer that does not read is malformed at its first fault, to which the place is added where the answer
-- begins.
abbrev pub read_led : ReqSetup → History → Free → (place : ℕ) → RequestMessage → List ℕ → Result ResponseMessage Malformed → Result Led ReqIgnored
read_led q h f place asked answer (Err fault) = Err (ignored.Malformed (place + fault.at))
read_led q h f place asked answer (Ok value) = answer_led q h f place asked answer value

-- What a message leads to by what it is: it is ignored; the request is refused; the next message is sent; or the whole
-- answer is read.
abbrev pub carried_led : ReqSetup → History → Free → RequestMessage → Carried → Result Led ReqIgnored
carried_led q h f asked (Ignored cause) = Err cause
carried_led q h f asked (Refused code) = Ok (is_refused code (Refuses asked))
carried_led q h f asked (Further next) = Ok (goes_on Nothing next)
carried_led q h f asked (Whole answer place) = read_led q h f place asked answer (reading_of h asked answer)

-- What a clear message leads to that came to a clear request, or why it is ignored.
unfoldable pub clear_led : ReqSetup → History → Free → Aim → RequestMessage → List ℕ → Result Led ReqIgnored
clear_led q h f aim asked m = carried_led q h f asked (carried_by q h m aim)
