-- What a record leads to at a requester, once it opened: the session ends; or the record answers what was asked, and a
-- further request may go out with it.
use Rattle.std.proofs.Common.{◌≡◌, ◌⊎◌, ℕ, ◌+◌, List, [], ◌∷◌, drop, Bool, true, false, cond, Option, Some, None, refl, inl, inr, eq-eqb, eqb-true}
use Rattle.std.specs.Prelude.{Result, Ok, Err, ◌==◌, ◌&&◌, not, slice_index}
use Rattle.chunking.specs.Collecting.{joined_with}
use Rattle.requester_machine.specs.Answers.{is_refused}
use Rattle.requester_machine.specs.ClearAnswers.{get_fault}
use Rattle.requester_machine.specs.Commands.{Free, has_reached}
use Rattle.requester_machine.specs.History.{History, Effect, Led}
use Rattle.requester_machine.specs.History.Effect.{Nothing, Grants}
use Rattle.requester_machine.specs.InnerMessages.{Came, with_record, message_in, inner_fault, reading_of, error_led, first_get, follows, op_in, outlives_error, echoes, update_led, verified_led, whole_led, chunk_led, message_led, read_led, data_led, inner_led_by, inner_led, or_lost}
use Rattle.requester_machine.specs.Message.{Ask, Sent}
use Rattle.requester_machine.specs.Message.Ask.{AskFinish, AskData, AskBeat, AskUpdate, AskVerify, AskMeasure, AskChunk, AskEnd}
use Rattle.requester_machine.specs.Order.{may_bring, stage_for}
use Rattle.requester_machine.specs.Sending.{record_sent, inner_request, key_update, operation_of}
use Rattle.requester_machine.specs.Session.{ends, finishes}
use Rattle.requester_machine.proofs.Steps.{stage_behind}
use Rattle.spdm_grammar.specs.Message.{ResponseMessage, ChunkMessage}
use Rattle.spdm_grammar.specs.Message.RequestMessage.{ChunkGet}
use Rattle.spdm_grammar.specs.Message.ResponseMessage.{Measurements, PskFinishRsp, HeartbeatAck, KeyUpdateAck, EndSessionAck, ChunkResponse, Error}
use Rattle.spdm_grammar.specs.declared.told.event.BadReply.{BadReply}
use Rattle.spdm_grammar.specs.declared.messages.malformed.Malformed.{Malformed}
use Rattle.spdm_grammar.specs.declared.messages.part_faults.ChunkFault.{ChunkFault}
use Rattle.spdm_grammar.specs.declared.told.phase.Stage.TheVariants as stage
use Rattle.requester_machine.specs.Setup.{ReqSetup}
use Rattle.spdm_agreement.proofs.Messages.ResponseCodes.{answer_code}
use Rattle.spdm_agreement.proofs.Requester.ClearLeads.{either}
use Rattle.spdm_grammar.specs.declared.names.error_number.TheConstants.{LARGE_RESPONSE}
use Rattle.spdm_grammar.specs.declared.names.response_code.TheConstants.{PSK_FINISH_RSP, KEY_UPDATE_ACK}
use Rattle.requester_machine.proofs.RecordOrder.{is_same-refl, outlives-open}

-- The inner message is PSK_FINISH_RSP, or KEY_UPDATE_ACK, where the effect says so.
abbrev pub InnerTells : Effect → List ℕ → Type 0
InnerTells (Grants AskFinish answer) inner = (slice_index inner 0 ≡ 5) × (slice_index (drop 1 inner) 1 ≡ PSK_FINISH_RSP) × (answer ≡ drop 1 inner)
InnerTells (Grants (AskUpdate all) answer) inner = (slice_index inner 0 ≡ 5) × (slice_index (drop 1 inner) 1 ≡ KEY_UPDATE_ACK)
InnerTells (Grants AskVerify answer) inner = (slice_index inner 0 ≡ 5) × (slice_index (drop 1 inner) 1 ≡ KEY_UPDATE_ACK)
InnerTells _ inner = Unit {0}

-- The request that goes out with an answer: VerifyNewKey after an update; CHUNK_GET.
pub record IsNext (q : ReqSetup) (h : History) (f : Free) (came : Came) (effect : Effect) (ask : Ask) (next : Sent) : Type 0 where
  pub asks : Ask
  pub inner : List ℕ
  pub is : next ≡ record_sent q h came.id (with_record came effect) asks inner f.pad
  pub fits : stage_behind effect (stage_for ask) ≡ stage_for asks
  pub other : finishes effect ≡ false
  pub kind : ((asks ≡ AskVerify) × (inner ≡ inner_request (key_update (with_record came effect) 3)))
      ⊎ ((op handle number : ℕ) × (before : List ChunkMessage) × (asks ≡ AskChunk op handle number before) × (inner ≡ inner_request (ChunkGet handle number)))

abbrev pub NextRecord : ReqSetup → History → Free → Came → Effect → Ask → Option Sent → Type 0
NextRecord q h f came effect ask None = stage_behind effect (stage_for ask) ≡ stage.Open
NextRecord q h f came effect ask (Some next) = IsNext q h f came effect ask next

pub record IsAnswered (q : ReqSetup) (h : History) (f : Free) (came : Came) (ask : Ask) (led : Led) : Type 0 where
  pub brings : may_bring led.effect ask ≡ true
  pub stays : ends led.effect ≡ false
  pub tells : InnerTells led.effect came.inner
  pub next : NextRecord q h f came led.effect ask led.next

pub record IsEnded (led : Led) : Type 0 where
  pub ends_it : ends led.effect ≡ true
  pub opens : finishes led.effect ≡ false
  pub next : led.next ≡ None

abbrev pub RecordLed : ReqSetup → History → Free → Came → Ask → Led → Type 0
RecordLed q h f came ask led = IsAnswered q h f came ask led ⊎ IsEnded led

abbrev RecordResult : ReqSetup → History → Free → Came → Ask → Result Led BadReply → Type 0
RecordResult q h f came ask (Ok led) = RecordLed q h f came ask led
RecordResult q h f came ask (Err fault) = Unit {0}

-- ---- ERROR.

refused : (q : ReqSetup) (h : History) (f : Free) (came : Came) (ask : Ask) (code : ℕ) → outlives_error ask ≡ true → RecordLed q h f came ask (is_refused code Nothing)
refused q h f came ask code outlives = inl (record { brings = outlives; stays = refl; tells = tt; next = outlives-open ask outlives })

gets : (q : ReqSetup) (h : History) (f : Free) (came : Came) (ask : Ask) (op : ℕ) (extended : List ℕ) → outlives_error ask ≡ true → RecordLed q h f came ask (first_get q h f came op extended)
gets q h f came ask op extended outlives = inl (record {
  brings = outlives;
  stays = refl;
  tells = tt;
  next = record {
    asks = AskChunk op (slice_index extended 0) 0 [];
    inner = inner_request (ChunkGet (slice_index extended 0) 0);
    is = refl;
    fits = outlives-open ask outlives;
    other = refl;
    kind = inr (op, slice_index extended 0, 0, [], refl, refl);
  };
})

open_error : (q : ReqSetup) (h : History) (f : Free) (came : Came) (ask : Ask) (code : ℕ) (extended : List ℕ) → outlives_error ask ≡ true
    → RecordResult q h f came ask (cond (follows came ask code) (Ok (first_get q h f came (op_in ask) extended)) (Ok (is_refused code Nothing)))
open_error q h f came ask code extended outlives =
    either (RecordResult q h f came ask) (follows came ask code) (Ok (first_get q h f came (op_in ask) extended)) (Ok (is_refused code Nothing))
    (gets q h f came ask (op_in ask) extended outlives) (refused q h f came ask code outlives)

error : (q : ReqSetup) (h : History) (f : Free) (came : Came) (ask : Ask) (code : ℕ) (extended : List ℕ) → RecordResult q h f came ask (error_led q h f came ask code extended)
error q h f came AskFinish code extended = tt
error q h f came AskData code extended = open_error q h f came AskData code extended refl
error q h f came AskBeat code extended = open_error q h f came AskBeat code extended refl
error q h f came (AskUpdate all) code extended = tt
error q h f came AskVerify code extended = tt
error q h f came (AskMeasure op) code extended = open_error q h f came (AskMeasure op) code extended refl
error q h f came (AskChunk op handle number before) code extended = open_error q h f came (AskChunk op handle number before) code extended refl
error q h f came AskEnd code extended = tt

-- ---- KEY_UPDATE_ACK.

updated : (q : ReqSetup) (h : History) (f : Free) (came : Came) (all echo : Bool) → slice_index came.inner 0 ≡ 5 → slice_index (message_in came) 1 ≡ KEY_UPDATE_ACK → RecordResult q h f came (AskUpdate all) (update_led q h f came all echo)
updated q h f came all true five code = inl (record {
  brings = is_same-refl all;
  stays = refl;
  tells = (five, code);
  next = record {
    asks = AskVerify;
    inner = inner_request (key_update (with_record came (Grants (AskUpdate all) (message_in came))) 3);
    is = refl;
    fits = refl;
    other = refl;
    kind = inl (refl, refl);
  };
})
updated q h f came all false five code = tt

verified : (q : ReqSetup) (h : History) (f : Free) (came : Came) (echo : Bool) → slice_index came.inner 0 ≡ 5 → slice_index (message_in came) 1 ≡ KEY_UPDATE_ACK → RecordResult q h f came AskVerify (verified_led came echo)
verified q h f came true five code = inl (record { brings = refl; stays = refl; tells = (five, code); next = refl })
verified q h f came false five code = tt

-- ---- A large answer.

whole : (q : ReqSetup) (h : History) (f : Free) (came : Came) (op handle number : ℕ) (before : List ChunkMessage) (whole : List ℕ) (reading : Result ResponseMessage Malformed)
    → RecordResult q h f came (AskChunk op handle number before) (whole_led q h f came op whole reading)
whole q h f came op handle number before bytes (Err fault) = tt
whole q h f came op handle number before bytes (Ok (Error version code detail extended)) =
    either (RecordLed q h f came (AskChunk op handle number before)) (code == LARGE_RESPONSE && not (has_reached 65300 came.steps)) (first_get q h f came op extended) (is_refused code Nothing)
    (gets q h f came (AskChunk op handle number before) op extended refl) (refused q h f came (AskChunk op handle number before) code refl)
whole q h f came op handle number before bytes (Ok (Measurements measured)) = inl (record { brings = eq-eqb op op refl; stays = refl; tells = tt; next = refl })
whole q h f came op handle number before bytes (Ok _) = tt

chunk : (q : ReqSetup) (h : History) (f : Free) (came : Came) (op handle number : ℕ) (before : List ChunkMessage) (c : ChunkMessage) (fault : Option ChunkFault)
    → RecordResult q h f came (AskChunk op handle number before) (chunk_led q h f came op before c fault)
chunk q h f came op handle number before c (Some fault) = tt
chunk q h f came op handle number before c None =
    either (RecordResult q h f came (AskChunk op handle number before)) c.last (whole_led q h f came op (joined_with before c) (reading_of came (joined_with before c))) _
    (whole q h f came op handle number before (joined_with before c) (reading_of came (joined_with before c)))
    (inl (record {
      brings = refl;
      stays = refl;
      tells = tt;
      next = record {
        asks = AskChunk op c.handle (c.number + 1) (c ∷ before);
        inner = inner_request (ChunkGet c.handle (c.number + 1));
        is = refl;
        fits = refl;
        other = refl;
        kind = inr (op, c.handle, c.number + 1, c ∷ before, refl, refl);
      };
    }))

-- ---- All answers.

message : (q : ReqSetup) (h : History) (f : Free) (came : Came) (ask : Ask) (value : ResponseMessage) → slice_index came.inner 0 ≡ 5 → reading_of came (message_in came) ≡ Ok value → RecordResult q h f came ask (message_led q h f came ask value)
message q h f came ask (Error version code detail extended) five r = error q h f came ask code extended
message q h f came AskFinish PskFinishRsp five r = inl (record { brings = refl; stays = refl; tells = (five, answer_code _ false (message_in came) PskFinishRsp r, refl); next = refl })
message q h f came AskBeat HeartbeatAck five r = inl (record { brings = refl; stays = refl; tells = tt; next = refl })
message q h f came (AskUpdate all) (KeyUpdateAck op tag) five r = updated q h f came all (echoes came (operation_of all) op tag) five (answer_code _ false (message_in came) (KeyUpdateAck op tag) r)
message q h f came AskVerify (KeyUpdateAck op tag) five r = verified q h f came (echoes came 3 op tag) five (answer_code _ false (message_in came) (KeyUpdateAck op tag) r)
message q h f came (AskMeasure op) (Measurements measured) five r = inl (record { brings = eq-eqb op op refl; stays = refl; tells = tt; next = refl })
message q h f came AskEnd EndSessionAck five r = inr (record { ends_it = refl; opens = refl; next = refl })
message q h f came (AskChunk op handle number before) (ChunkResponse c) five r = chunk q h f came op handle number before c (get_fault q.max handle number before c)
message q h f came ask value five r = tt

read : (q : ReqSetup) (h : History) (f : Free) (came : Came) (ask : Ask) (reading : Result ResponseMessage Malformed) → slice_index came.inner 0 ≡ 5 → reading_of came (message_in came) ≡ reading → RecordResult q h f came ask (read_led q h f came ask reading)
read q h f came ask (Err fault) five r = tt
read q h f came ask (Ok value) five r = message q h f came ask value five r

data_answer : (q : ReqSetup) (h : History) (f : Free) (came : Came) (ask : Ask) → RecordResult q h f came ask (data_led came ask)
data_answer q h f came AskData = inl (record { brings = refl; stays = refl; tells = tt; next = refl })
data_answer q h f came _ = tt

typed : (q : ReqSetup) (h : History) (f : Free) (came : Came) (ask : Ask) (b : Bool) → (slice_index came.inner 0 == 5) ≡ b
    → RecordResult q h f came ask (cond b (read_led q h f came ask (reading_of came (message_in came))) (data_led came ask))
typed q h f came ask true is = read q h f came ask (reading_of came (message_in came)) (eqb-true _ _ is) refl
typed q h f came ask false is = data_answer q h f came ask

inner_by : (q : ReqSetup) (h : History) (f : Free) (came : Came) (ask : Ask) (fault : Option BadReply) → RecordResult q h f came ask (inner_led_by q h f came ask fault)
inner_by q h f came ask (Some fault) = tt
inner_by q h f came ask None = typed q h f came ask (slice_index came.inner 0 == 5) refl

lost : (q : ReqSetup) (h : History) (f : Free) (came : Came) (ask : Ask) (result : Result Led BadReply) → RecordResult q h f came ask result → RecordLed q h f came ask (or_lost came result)
lost q h f came ask (Ok led) is = is
lost q h f came ask (Err fault) is = inr (record { ends_it = refl; opens = refl; next = refl })

pub record_shape : (q : ReqSetup) (h : History) (f : Free) (came : Came) (ask : Ask) → RecordLed q h f came ask (or_lost came (inner_led q h f came ask))
unfolding inner_led
record_shape q h f came ask = lost q h f came ask (inner_led_by q h f came ask (inner_fault q came.inner)) (inner_by q h f came ask (inner_fault q came.inner))
