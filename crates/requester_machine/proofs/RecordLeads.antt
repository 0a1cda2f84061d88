-- What a record leads to that opened, kind by kind.
use Rattle.std.proofs.Common.{refl, ◌≡◌, ◌+◌, ℕ, List, [], ◌∷◌, true, false, Bool, Option, Some, None, eq-eqb}
use Rattle.std.specs.Prelude.{⊤, ◌==◌, ◌&&◌, not, if◌then◌else◌, Result, Ok, Err, slice_index}
use Rattle.chunking.specs.Collecting.{joined_with}
use Rattle.spdm_grammar.specs.Message.{ResponseMessage, ChunkMessage}
use Rattle.spdm_grammar.specs.Message.ResponseMessage.{Measurements, PskFinishRsp, HeartbeatAck, KeyUpdateAck, EndSessionAck, ChunkResponse, Error}
use Rattle.spdm_grammar.specs.declared.told.event.BadReply.{BadReply}
use Rattle.spdm_grammar.specs.declared.messages.malformed.Malformed.{Malformed}
use Rattle.spdm_grammar.specs.declared.messages.part_faults.ChunkFault.{ChunkFault}
use Rattle.spdm_grammar.specs.declared.names.error_number.TheConstants.{LARGE_RESPONSE}
use Rattle.requester_machine.specs.Setup.{ReqSetup}
use Rattle.requester_machine.specs.Answers.{goes_on, is_refused}
use Rattle.requester_machine.specs.ClearAnswers.{get_fault}
use Rattle.requester_machine.specs.Commands.{Free, has_reached}
use Rattle.requester_machine.specs.History.{History, Led}
use Rattle.requester_machine.specs.History.Effect.{Nothing, Grants}
use Rattle.requester_machine.specs.InnerMessages.{Came, with_record, message_in, inner_fault, reading_of, error_led, first_get, follows, outlives_error, echoes, update_led, verified_led, whole_led, chunk_led, message_led, read_led, data_led, inner_led_by, inner_led, or_lost}
use Rattle.requester_machine.specs.Message.{Ask}
use Rattle.requester_machine.specs.Message.Ask.{AskFinish, AskData, AskBeat, AskUpdate, AskVerify, AskMeasure, AskChunk, AskEnd}
use Rattle.requester_machine.specs.Order.{may_bring}
use Rattle.requester_machine.specs.Sending.{operation_of, verify_sent, chunk_sent}
use Rattle.requester_machine.specs.Session.{ends, updates}
use Rattle.requester_machine.proofs.ClearLeads.{either, tested}

-- A LargeResponse is followed: as the answer to GET_MEASUREMENTS; or inside a whole large response, while the next
-- numbers are below 65,300.
pub data Follows (came : Came) (ask : Ask) (op : ℕ) : Type 0 where
  ToAsk : ask ≡ AskMeasure op → Follows came ask op
  ToWhole : (handle number : ℕ) (before : List ChunkMessage) → ask ≡ AskChunk op handle number before → has_reached 65300 came.steps ≡ false → Follows came ask op

-- The session ends; or what was asked has its answer, or was refused; or an update has its answer, and VerifyNewKey is
-- sent; or a LargeResponse or a chunk of a large response calls for a further chunk.
pub data RecordLeads (q : ReqSetup) (h : History) (f : Free) (came : Came) (ask : Ask) (led : Led) : Type 0 where
  ByEnd : ends led.effect ≡ true → led.next ≡ None → RecordLeads q h f came ask led
  ByAnswer : ends led.effect ≡ false → updates led.effect ≡ false → may_bring led.effect ask ≡ true → led.next ≡ None → RecordLeads q h f came ask led
  ByUpdate : (all : Bool) → ask ≡ AskUpdate all
      → led ≡ goes_on (Grants (AskUpdate all) (message_in came)) (verify_sent q h came.id (with_record came (Grants (AskUpdate all) (message_in came))) f.pad) → RecordLeads q h f came ask led
  ByFirst : (op handle : ℕ) → Follows came ask op → led ≡ goes_on Nothing (chunk_sent q h came.id (with_record came Nothing) op handle 0 [] f.pad) → RecordLeads q h f came ask led
  ByChunk : (op handle number : ℕ) (before : List ChunkMessage) (c : ChunkMessage) → ask ≡ AskChunk op handle number before → get_fault q.max handle number before c ≡ None → c.last ≡ false
      → led ≡ goes_on Nothing (chunk_sent q h came.id (with_record came Nothing) op c.handle (c.number + 1) (c ∷ before) f.pad) → RecordLeads q h f came ask led

below_limit : (a b : Bool) → (a && not b) ≡ true → b ≡ false
below_limit true false is = refl
below_limit true true is = absurd (cc)
below_limit false b is = absurd (cc)

module _ (q : ReqSetup) (h : History) (f : Free) (came : Came) where
  abbrev Leads : Ask → Led → Type 0
  Leads ask led = RecordLeads q h f came ask led

  abbrev LeadsIn : Ask → Result Led BadReply → Type 0
  LeadsIn ask (Ok led) = Leads ask led
  LeadsIn ask (Err fault) = ⊤

  refused_leads : (ask : Ask) (code : ℕ) → outlives_error ask ≡ true → Leads ask (is_refused code Nothing)
  refused_leads ask code outlives = ByAnswer refl refl outlives refl

  -- ---- ERROR.

  measured_error : (op : ℕ) (b : Bool) (code : ℕ) (extended : List ℕ) → LeadsIn (AskMeasure op) (if b then Ok (first_get q h f came op extended) else Ok (is_refused code Nothing))
  measured_error op true code extended = ByFirst op (slice_index extended 0) (ToAsk refl) refl
  measured_error op false code extended = refused_leads (AskMeasure op) code refl

  error_leads : (ask : Ask) (code : ℕ) (extended : List ℕ) → LeadsIn ask (error_led q h f came ask code extended)
  error_leads AskFinish code extended = tt
  error_leads AskData code extended = refused_leads AskData code refl
  error_leads AskBeat code extended = refused_leads AskBeat code refl
  error_leads (AskUpdate all) code extended = tt
  error_leads AskVerify code extended = tt
  error_leads (AskMeasure op) code extended = measured_error op (follows came (AskMeasure op) code) code extended
  error_leads (AskChunk op handle number before) code extended = refused_leads (AskChunk op handle number before) code refl
  error_leads AskEnd code extended = tt

  -- ---- KEY_UPDATE_ACK.

  update_leads : (all echo : Bool) → LeadsIn (AskUpdate all) (update_led q h f came all echo)
  update_leads all true = ByUpdate all refl refl
  update_leads all false = tt

  verified_leads : (echo : Bool) → LeadsIn AskVerify (verified_led came echo)
  verified_leads true = ByAnswer refl refl refl refl
  verified_leads false = tt

  -- ---- A large answer.

  whole_leads : (op handle number : ℕ) (before : List ChunkMessage) (whole : List ℕ) (reading : Result ResponseMessage Malformed) → LeadsIn (AskChunk op handle number before) (whole_led q h f came op whole reading)
  whole_leads op handle number before whole (Err fault) = tt
  whole_leads op handle number before whole (Ok (Error version code detail extended)) =
      tested (Leads (AskChunk op handle number before)) (code == LARGE_RESPONSE && not (has_reached 65300 came.steps)) (first_get q h f came op extended) (is_refused code Nothing)
      (λ is. ByFirst op (slice_index extended 0) (ToWhole handle number before refl (below_limit (code == LARGE_RESPONSE) (has_reached 65300 came.steps) is)) refl)
      (λ is. refused_leads (AskChunk op handle number before) code refl)
  whole_leads op handle number before whole (Ok (Measurements measured)) = ByAnswer refl refl (eq-eqb op op refl) refl
  whole_leads op handle number before whole (Ok _) = tt

  chunk_leads : (op handle number : ℕ) (before : List ChunkMessage) (c : ChunkMessage) (fault : Option ChunkFault) → get_fault q.max handle number before c ≡ fault
      → LeadsIn (AskChunk op handle number before) (chunk_led q h f came op before c fault)
  chunk_leads op handle number before c (Some fault) is = tt
  chunk_leads op handle number before c None is =
      tested (LeadsIn (AskChunk op handle number before)) c.last (whole_led q h f came op (joined_with before c) (reading_of came (joined_with before c)))
      (Ok (goes_on Nothing (chunk_sent q h came.id (with_record came Nothing) op c.handle (c.number + 1) (c ∷ before) f.pad)))
      (λ last. whole_leads op handle number before (joined_with before c) (reading_of came (joined_with before c)))
      (λ more. ByChunk op handle number before c refl is more refl)

  -- ---- All answers.

  message_leads : (ask : Ask) (value : ResponseMessage) → LeadsIn ask (message_led q h f came ask value)
  message_leads ask (Error version code detail extended) = error_leads ask code extended
  message_leads AskFinish PskFinishRsp = ByAnswer refl refl refl refl
  message_leads AskBeat HeartbeatAck = ByAnswer refl refl refl refl
  message_leads (AskUpdate all) (KeyUpdateAck op tag) = update_leads all (echoes came (operation_of all) op tag)
  message_leads AskVerify (KeyUpdateAck op tag) = verified_leads (echoes came 3 op tag)
  message_leads (AskMeasure op) (Measurements measured) = ByAnswer refl refl (eq-eqb op op refl) refl
  message_leads AskEnd EndSessionAck = ByEnd refl refl
  message_leads (AskChunk op handle number before) (ChunkResponse c) = chunk_leads op handle number before c (get_fault q.max handle number before c) refl
  message_leads ask value = tt

  read_leads : (ask : Ask) (reading : Result ResponseMessage Malformed) → LeadsIn ask (read_led q h f came ask reading)
  read_leads ask (Err fault) = tt
  read_leads ask (Ok value) = message_leads ask value

  data_leads : (ask : Ask) → LeadsIn ask (data_led came ask)
  data_leads AskData = ByAnswer refl refl refl refl
  data_leads _ = tt

  inner_leads : (ask : Ask) (fault : Option BadReply) → LeadsIn ask (inner_led_by q h f came ask fault)
  inner_leads ask (Some fault) = tt
  inner_leads ask None = either (LeadsIn ask) (slice_index came.inner 0 == 5) (read_led q h f came ask (reading_of came (message_in came))) (data_led came ask) (read_leads ask (reading_of came (message_in came))) (data_leads ask)

  lost_leads : (ask : Ask) (result : Result Led BadReply) → LeadsIn ask result → Leads ask (or_lost came result)
  lost_leads ask (Ok led) leads = leads
  lost_leads ask (Err fault) leads = ByEnd refl refl

pub record_leads : (q : ReqSetup) (h : History) (f : Free) (came : Came) (ask : Ask) → RecordLeads q h f came ask (or_lost came (inner_led q h f came ask))
unfolding inner_led
record_leads q h f came ask = lost_leads q h f came ask (inner_led_by q h f came ask (inner_fault q came.inner)) (inner_leads q h f came ask (inner_fault q came.inner))
