-- Which messages ask for chunks of measurements, and which records tell measurements: what answers GET_MEASUREMENTS, or
-- a CHUNK_GET for its answer.
use Rattle.std.proofs.Common.{◌≡◌, ◌==◌, ◌&&◌, not, ℕ, List, Bool, true, false, Option, Some, None, Result, Ok, Err, refl}
use Rattle.std.specs.Prelude.{slice_index}
use Rattle.chunking.specs.Collecting.{joined_with}
use Rattle.requester_machine.specs.Answers.{is_refused}
use Rattle.requester_machine.specs.ClearAnswers.{get_fault}
use Rattle.requester_machine.specs.Commands.{Free, has_reached}
use Rattle.requester_machine.specs.History.{History, Led}
use Rattle.requester_machine.specs.History.Effect.{Nothing}
use Rattle.requester_machine.specs.InnerMessages.{Came, chunk_led, data_led, echoes, error_led, first_get, follows, inner_fault, inner_led, inner_led_by, message_in, message_led, or_lost, read_led, reading_of, update_led, verified_led, whole_led}
use Rattle.requester_machine.specs.Message.{Aim, Ask, Content, Sent}
use Rattle.requester_machine.specs.Message.Aim.{InSession}
use Rattle.requester_machine.specs.Message.Ask.{AskFinish, AskData, AskBeat, AskUpdate, AskVerify, AskMeasure, AskChunk, AskEnd}
use Rattle.requester_machine.specs.Sending.{inner_request, operation_of}
use Rattle.requester_machine.specs.Setup.{ReqSetup}
use Rattle.secured_record.specs.Format.{plain_text}
use Rattle.spdm_agreement.proofs.Requester.ClearLeads.{either}
use Rattle.spdm_agreement.specs.Marks.{Text}
use Rattle.spdm_agreement.specs.Story.{sent_text}
use Rattle.spdm_grammar.specs.Message.{ChunkMessage, ResponseMessage}
use Rattle.spdm_grammar.specs.Message.RequestMessage.{ChunkGet}
use Rattle.spdm_grammar.specs.Message.ResponseMessage.{Measurements, PskFinishRsp, HeartbeatAck, KeyUpdateAck, EndSessionAck, ChunkResponse, Error}
use Rattle.spdm_grammar.specs.declared.messages.malformed.Malformed.{Malformed}
use Rattle.spdm_grammar.specs.declared.messages.part_faults.ChunkFault.{ChunkFault}
use Rattle.spdm_grammar.specs.declared.names.error_number.TheConstants.{LARGE_RESPONSE}
use Rattle.spdm_grammar.specs.declared.told.event.BadReply.{BadReply}
use Rattle.spdm_grammar.specs.declared.told.event.Event.TheVariants as event
use Rattle.spdm_grammar.specs.declared.told.event.Finished.TheVariants as finished

-- The operation of the measurements that are asked for, in chunks too; any other ask has none.
abbrev pub op_asked : Ask → Option ℕ
op_asked (AskMeasure op) = Some op
op_asked (AskChunk op handle number before) = Some op
op_asked _ = None

-- A message that goes out with the answer to an ask in a session: a CHUNK_GET asks for a chunk of the same measurements
-- in the same session; GET_MEASUREMENTS does not go out so.
abbrev pub AskShape : (of : ℕ) → (op : Option ℕ) → (id : ℕ) → Text → Ask → Type 0
AskShape of op id text (AskMeasure asked) = ⊥
AskShape of op id text (AskChunk asked handle number before) = (id ≡ of) × (op ≡ Some asked) × ((pad : List ℕ) × (text ≡ plain_text (inner_request (ChunkGet handle number)) pad))
AskShape of op id text _ = Unit {0}

abbrev pub AimShape : (of : ℕ) → (op : Option ℕ) → Content → Aim → Type 0
AimShape of op c (InSession id ask) = AskShape of op id (sent_text c) ask
AimShape of op c _ = Unit {0}

abbrev pub NextShape : (of : ℕ) → (op : Option ℕ) → Option Sent → Type 0
NextShape of op None = Unit {0}
NextShape of op (Some x) = AimShape of op x.content x.aim

-- What a record leads to that answers an ask. Where no measurements are asked for, none are told, and no chunk of them
-- is asked for.
pub record LedShape (of : ℕ) (ask : Ask) (led : Led) : Type 0 where
  pub told : (number : ℕ) → led.event ≡ event.Done (finished.Measured number) → (op : ℕ) × (op_asked ask ≡ Some op)
  pub next : NextShape of (op_asked ask) led.next

abbrev ResultShape : (of : ℕ) → Ask → Result Led BadReply → Type 0
ResultShape of ask (Ok led) = LedShape of ask led
ResultShape of ask (Err fault) = Unit {0}

refused : (of : ℕ) (ask : Ask) (code : ℕ) → LedShape of ask (is_refused code Nothing)
refused of ask code = record { told = λ number e. absurd (cc); next = tt }

-- CHUNK_GET upon LargeResponse.
gets : (q : ReqSetup) (h : History) (f : Free) (came : Came) (ask : Ask) (op : ℕ) (extended : List ℕ) → op_asked ask ≡ Some op → LedShape came.id ask (first_get q h f came op extended)
gets q h f came ask op extended is = record { told = λ number e. absurd (cc); next = (refl, is, (f.pad, refl)) }

error : (q : ReqSetup) (h : History) (f : Free) (came : Came) (ask : Ask) (code : ℕ) (extended : List ℕ) → ResultShape came.id ask (error_led q h f came ask code extended)
error q h f came AskFinish code extended = tt
error q h f came AskData code extended = refused came.id AskData code
error q h f came AskBeat code extended = refused came.id AskBeat code
error q h f came (AskUpdate all) code extended = tt
error q h f came AskVerify code extended = tt
error q h f came (AskMeasure op) code extended =
    either (ResultShape came.id (AskMeasure op)) (follows came (AskMeasure op) code) (Ok (first_get q h f came op extended)) (Ok (is_refused code Nothing)) (gets q h f came (AskMeasure op) op extended refl) (refused came.id (AskMeasure op) code)
error q h f came (AskChunk op handle number before) code extended = refused came.id (AskChunk op handle number before) code
error q h f came AskEnd code extended = tt

updated : (q : ReqSetup) (h : History) (f : Free) (came : Came) (all echo : Bool) → ResultShape came.id (AskUpdate all) (update_led q h f came all echo)
updated q h f came all true = record { told = λ number e. absurd (cc); next = tt }
updated q h f came all false = tt

verified : (came : Came) (echo : Bool) → ResultShape came.id AskVerify (verified_led came echo)
verified came true = record { told = λ number e. absurd (cc); next = tt }
verified came false = tt

whole : (q : ReqSetup) (h : History) (f : Free) (came : Came) (op handle number : ℕ) (before : List ChunkMessage) (bytes : List ℕ) (reading : Result ResponseMessage Malformed)
    → ResultShape came.id (AskChunk op handle number before) (whole_led q h f came op bytes reading)
whole q h f came op handle number before bytes (Err fault) = tt
whole q h f came op handle number before bytes (Ok (Error version code detail extended)) =
    either (LedShape came.id (AskChunk op handle number before)) (code == LARGE_RESPONSE && not (has_reached 65300 came.steps)) (first_get q h f came op extended) (is_refused code Nothing)
    (gets q h f came (AskChunk op handle number before) op extended refl) (refused came.id (AskChunk op handle number before) code)
whole q h f came op handle number before bytes (Ok (Measurements measured)) = record { told = λ n e. (op, refl); next = tt }
whole q h f came op handle number before bytes (Ok _) = tt

chunk : (q : ReqSetup) (h : History) (f : Free) (came : Came) (op handle number : ℕ) (before : List ChunkMessage) (c : ChunkMessage) (fault : Option ChunkFault)
    → ResultShape came.id (AskChunk op handle number before) (chunk_led q h f came op before c fault)
chunk q h f came op handle number before c (Some fault) = tt
chunk q h f came op handle number before c None =
    either (ResultShape came.id (AskChunk op handle number before)) c.last (whole_led q h f came op (joined_with before c) (reading_of came (joined_with before c))) _
    (whole q h f came op handle number before (joined_with before c) (reading_of came (joined_with before c)))
    (record { told = λ n e. absurd (cc); next = (refl, refl, (f.pad, refl)) })

message : (q : ReqSetup) (h : History) (f : Free) (came : Came) (ask : Ask) (value : ResponseMessage) → ResultShape came.id ask (message_led q h f came ask value)
message q h f came ask (Error version code detail extended) = error q h f came ask code extended
message q h f came AskFinish PskFinishRsp = record { told = λ number e. absurd (cc); next = tt }
message q h f came AskBeat HeartbeatAck = record { told = λ number e. absurd (cc); next = tt }
message q h f came (AskUpdate all) (KeyUpdateAck op tag) = updated q h f came all (echoes came (operation_of all) op tag)
message q h f came AskVerify (KeyUpdateAck op tag) = verified came (echoes came 3 op tag)
message q h f came (AskMeasure op) (Measurements measured) = record { told = λ number e. (op, refl); next = tt }
message q h f came AskEnd EndSessionAck = record { told = λ number e. absurd (cc); next = tt }
message q h f came (AskChunk op handle number before) (ChunkResponse c) = chunk q h f came op handle number before c (get_fault q.max handle number before c)
message q h f came ask value = tt

read : (q : ReqSetup) (h : History) (f : Free) (came : Came) (ask : Ask) (reading : Result ResponseMessage Malformed) → ResultShape came.id ask (read_led q h f came ask reading)
read q h f came ask (Err fault) = tt
read q h f came ask (Ok value) = message q h f came ask value

data_answer : (came : Came) (ask : Ask) → ResultShape came.id ask (data_led came ask)
data_answer came AskData = record { told = λ number e. absurd (cc); next = tt }
data_answer came _ = tt

inner_by : (q : ReqSetup) (h : History) (f : Free) (came : Came) (ask : Ask) (fault : Option BadReply) → ResultShape came.id ask (inner_led_by q h f came ask fault)
inner_by q h f came ask (Some fault) = tt
inner_by q h f came ask None = either (ResultShape came.id ask) (slice_index came.inner 0 == 5) (read_led q h f came ask (reading_of came (message_in came))) (data_led came ask) (read q h f came ask (reading_of came (message_in came))) (data_answer came ask)

or_gone : (came : Came) (ask : Ask) (result : Result Led BadReply) → ResultShape came.id ask result → LedShape came.id ask (or_lost came result)
or_gone came ask (Ok led) is = is
or_gone came ask (Err fault) is = record { told = λ number e. absurd (cc); next = tt }

pub led_shape : (q : ReqSetup) (h : History) (f : Free) (came : Came) (ask : Ask) → LedShape came.id ask (or_lost came (inner_led q h f came ask))
unfolding inner_led
led_shape q h f came ask = or_gone came ask (inner_led_by q h f came ask (inner_fault q came.inner)) (inner_by q h f came ask (inner_fault q came.inner))
