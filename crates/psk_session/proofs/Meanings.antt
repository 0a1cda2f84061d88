-- What an inner message is goes with what was asked.
use Rattle.std.proofs.Common.{◌≡◌, ◌≤◌, ap, sym, refl, ℕ, List, [], Bool, true, false, not, length, arith, eq-eqb}
use Rattle.std.specs.Prelude.{⊤, ◌==◌, ◌&&◌, slice_index, if◌then◌else◌, Option, Some, None, unwrap_or, Result, Ok, Err}
use Rattle.std.specs.Option.{option_or}
use Rattle.requester_machine.proofs.Few.{unreached}
use Rattle.requester_machine.specs.SpentLaws.{FewFor}
use Rattle.requester_machine.specs.Commands.{has_reached}
use Rattle.requester_machine.specs.Message.{Ask}
use Rattle.requester_machine.specs.Message.Ask.{AskFinish, AskData, AskBeat, AskUpdate, AskVerify, AskMeasure, AskChunk, AskEnd}
use Rattle.requester_machine.specs.Sending.{operation_of}
use Rattle.requester_machine.specs.Session.{Steps, request_next, response_next}
use Rattle.requester_machine.specs.Shown.{blocks_of}
use Rattle.spdm_grammar.specs.Message.{ResponseMessage, MeasuredMessage, ChunkMessage}
use Rattle.spdm_grammar.specs.Message.ResponseMessage.{Measurements, HeartbeatAck, KeyUpdateAck, EndSessionAck, ChunkResponse, Error}
use Rattle.spdm_grammar.specs.Responses.{response_reading}
use Rattle.spdm_grammar.specs.declared.told.event.BadReply.{BadReply}
use Rattle.spdm_grammar.specs.declared.told.event.BadReply.TheVariants as bad
use Rattle.spdm_grammar.specs.declared.messages.malformed.Malformed.{Malformed}
use Rattle.spdm_grammar.specs.declared.names.error_number.TheConstants.{LARGE_RESPONSE}
use Rattle.spdm_grammar.specs.declared.messages.part_faults.ChunkFault.TheVariants as chunk
use Rattle.spdm_machine.specs.Terms.{response_value}
use Rattle.psk_session.specs.Inner.{Contents, contents_by}
use Rattle.psk_session.specs.Inner.Contents.{Spoken, AppData}
use Rattle.psk_session.specs.Verdict.{Meaning, Fits, wrong_kind, error_verdict, ack_verdict, beat_verdict, end_verdict, data_verdict, measured_verdict, chunk_meaning, message_meaning, meaning_of, whole_verdict}
use Rattle.psk_session.specs.Verdict.Meaning.{Done, Piece}
use Rattle.psk_session.specs.Verdict.Verdict.{Bad, Answered, Updated, Large}
use Rattle.psk_session.specs.declared.reply.Reply.TheVariants as reply
use Rattle.requester_machine.proofs.ResponseLengths.{measured_value, measured_short}

-- The chunk is the one that was asked for.
pub record IsAskedFor (a : Ask) (op : ℕ) (c : ChunkMessage) : Type 0 where
  pub handle : ℕ
  pub number : ℕ
  pub before : List ChunkMessage
  pub is : a ≡ AskChunk op handle number before
  pub same_handle : (c.handle == handle) ≡ true
  pub same_number : (c.number == number) ≡ true

abbrev pub FitsMeaning : Steps → Ask → (answer : List ℕ) → Meaning → Type 0
FitsMeaning s a answer (Done verdict) = Fits s a answer verdict
FitsMeaning s a answer (Piece op c) = IsAskedFor a op c

-- ---- The contents.

-- What was read follows the type.
abbrev AreContents : (h : ℕ) → List ℕ → Result Contents BadReply → Type 0
AreContents h bytes (Err fault) = ⊤
AreContents h bytes (Ok (AppData held)) = held ≡ bytes
AreContents h bytes (Ok (Spoken message)) = response_reading h false bytes ≡ Ok message

contents_are : (h : ℕ) (bytes : List ℕ) (fault : Option BadReply) (b : Bool) (r : Result ResponseMessage Malformed) → response_reading h false bytes ≡ r → AreContents h bytes (contents_by fault b r bytes)
contents_are h bytes (Some fault) b r e = tt
contents_are h bytes None true (Err fault) e = tt
contents_are h bytes None true (Ok message) e = e
contents_are h bytes None false r e = refl

-- ---- Verdicts.

none_long : length {A = ℕ} [] ≤ 4160
none_long = omega arith

large_fits : (s : Steps) (op handle code : ℕ) (answer : List ℕ) (b : Bool) → (request_next s ≤ 65300) × (response_next s ≤ 65299)
    → Fits s (AskMeasure op) answer (if b then Large op handle else Answered (reply.Refused code) [])
large_fits s op handle code answer true few = (refl, refl, few.0, few.1)
large_fits s op handle code answer false few = (refl, refl, refl, none_long)

error_fits : (s : Steps) (a : Ask) (answer : List ℕ) (chunks : Bool) (code : ℕ) (extended : List ℕ) → FewFor a (request_next s) (response_next s) → Fits s a answer (error_verdict chunks a code extended)
error_fits s (AskMeasure op) answer chunks code extended few = large_fits s op (slice_index extended 0) code answer (code == LARGE_RESPONSE && chunks) few
error_fits s AskData answer chunks code extended few = (refl, refl, refl, none_long)
error_fits s AskBeat answer chunks code extended few = (refl, refl, refl, none_long)
error_fits s (AskChunk op handle number before) answer chunks code extended few = (refl, refl, refl, none_long)
error_fits s AskFinish answer chunks code extended few = tt
error_fits s (AskUpdate all) answer chunks code extended few = tt
error_fits s AskVerify answer chunks code extended few = tt
error_fits s AskEnd answer chunks code extended few = tt

updated_fits : (s : Steps) (all b : Bool) (answer : List ℕ) → Fits s (AskUpdate all) answer (if b then Updated all else wrong_kind)
updated_fits s all true answer = refl
updated_fits s all false answer = tt

verified_fits : (s : Steps) (b : Bool) (answer : List ℕ) → Fits s AskVerify answer (if b then Answered reply.Updated [] else wrong_kind)
verified_fits s true answer = (refl, refl, refl, none_long)
verified_fits s false answer = tt

ack_fits : (s : Steps) (a : Ask) (answer : List ℕ) (tag op told : ℕ) → Fits s a answer (ack_verdict tag a op told)
ack_fits s (AskUpdate all) answer tag op told = updated_fits s all (op == operation_of all && told == tag) answer
ack_fits s AskVerify answer tag op told = verified_fits s (op == 3 && told == tag) answer
ack_fits s _ answer tag op told = tt

beat_fits : (s : Steps) (a : Ask) (answer : List ℕ) → Fits s a answer (beat_verdict a)
beat_fits s AskBeat answer = (refl, refl, refl, none_long)
beat_fits s _ answer = tt

end_fits : (s : Steps) (a : Ask) (answer : List ℕ) → Fits s a answer (end_verdict a)
end_fits s AskEnd answer = tt
end_fits s _ answer = tt

data_fits : (s : Steps) (a : Ask) (answer held : List ℕ) → held ≡ answer → length answer ≤ 4160 → Fits s a answer (data_verdict a held)
data_fits s AskData answer held is short = (refl, refl, sym is, omega (arith, ap length is))
data_fits s _ answer held is short = tt

blocks_are : (h : ℕ) (answer : List ℕ) (measured : MeasuredMessage) → response_reading h false answer ≡ Ok (Measurements measured) → unwrap_or (option_or None (blocks_of (response_value answer))) [] ≡ measured.block_bytes
blocks_are h answer measured e = ap (λ (v : Option ResponseMessage). unwrap_or (option_or None (blocks_of v)) []) (measured_value h answer measured e)

measured_fits : (s : Steps) (a : Ask) (h : ℕ) (answer : List ℕ) (measured : MeasuredMessage) → response_reading h false answer ≡ Ok (Measurements measured) → length answer ≤ 4160 → Fits s a answer (measured_verdict a measured)
measured_fits s (AskMeasure op) h answer measured e short = (eq-eqb op op refl, refl, blocks_are h answer measured e, (let fits = measured_short h answer measured e in omega (arith, fits, short)))
measured_fits s _ h answer measured e short = tt

chunk_tests : (s : Steps) (op handle number : ℕ) (before : List ChunkMessage) (answer : List ℕ) (c : ChunkMessage) (b d : Bool) → (c.handle == handle) ≡ b → (c.number == number) ≡ d
    → FitsMeaning s (AskChunk op handle number before) answer
    (if not b then Done (Bad (bad.Chunk chunk.WrongHandle)) else (if not d then Done (Bad (bad.Chunk chunk.WrongNumber)) else Piece op c))
chunk_tests s op handle number before answer c false d e f = tt
chunk_tests s op handle number before answer c true false e f = tt
chunk_tests s op handle number before answer c true true e f = record { handle = handle; number = number; before = before; is = refl; same_handle = e; same_number = f }

chunk_fits : (s : Steps) (a : Ask) (answer : List ℕ) (c : ChunkMessage) → FitsMeaning s a answer (chunk_meaning a c)
chunk_fits s (AskChunk op handle number before) answer c = chunk_tests s op handle number before answer c (c.handle == handle) (c.number == number) refl refl
chunk_fits s _ answer c = tt

message_fits : (s : Steps) (a : Ask) (h : ℕ) (answer : List ℕ) (chunks : Bool) (tag : ℕ) (message : ResponseMessage) → response_reading h false answer ≡ Ok message → length answer ≤ 4160
    → FewFor a (request_next s) (response_next s) → FitsMeaning s a answer (message_meaning chunks tag a message)
message_fits s a h answer chunks tag (Error version code detail extended) e short few = error_fits s a answer chunks code extended few
message_fits s a h answer chunks tag HeartbeatAck e short few = beat_fits s a answer
message_fits s a h answer chunks tag (KeyUpdateAck op told) e short few = ack_fits s a answer tag op told
message_fits s a h answer chunks tag (Measurements measured) e short few = measured_fits s a h answer measured e short
message_fits s a h answer chunks tag EndSessionAck e short few = end_fits s a answer
message_fits s a h answer chunks tag (ChunkResponse c) e short few = chunk_fits s a answer c
message_fits s a h answer chunks tag _ e short few = tt

meaning_fits : (s : Steps) (a : Ask) (h : ℕ) (answer : List ℕ) (chunks : Bool) (tag : ℕ) (contents : Result Contents BadReply) → AreContents h answer contents → length answer ≤ 4160
    → FewFor a (request_next s) (response_next s) → FitsMeaning s a answer (meaning_of chunks tag a contents)
meaning_fits s a h answer chunks tag (Err fault) are short few = tt
meaning_fits s a h answer chunks tag (Ok (AppData held)) are short few = data_fits s a answer held are short
meaning_fits s a h answer chunks tag (Ok (Spoken message)) are short few = message_fits s a h answer chunks tag message are short few

pub contents_fit : (s : Steps) (a : Ask) (h : ℕ) (answer : List ℕ) (chunks : Bool) (tag : ℕ) (fault : Option BadReply) (b : Bool) → length answer ≤ 4160 → FewFor a (request_next s) (response_next s)
    → FitsMeaning s a answer (meaning_of chunks tag a (contents_by fault b (response_reading h false answer) answer))
contents_fit s a h answer chunks tag fault b short few =
    meaning_fits s a h answer chunks tag (contents_by fault b (response_reading h false answer) answer) (contents_are h answer fault b (response_reading h false answer) refl) short few

-- ---- A whole large answer.

again_fits : (s : Steps) (op handle number its code : ℕ) (before : List ChunkMessage) (answer : List ℕ) (large reached : Bool) → has_reached 65300 s ≡ reached
    → Fits s (AskChunk op handle number before) answer (if large && not reached then Large op its else Answered (reply.Refused code) [])
again_fits s op handle number its code before answer false reached e = (refl, refl, refl, none_long)
again_fits s op handle number its code before answer true true e = (refl, refl, refl, none_long)
again_fits s op handle number its code before answer true false e =
    (let u = unreached 65300 s e in let r = u.0 in let p = u.1 in (refl, refl, omega (arith, r), omega (arith, p)))

whole_by : (s : Steps) (op handle number h : ℕ) (before : List ChunkMessage) (answer : List ℕ) (r : Result ResponseMessage Malformed) → response_reading h false answer ≡ r → length answer ≤ 4160
    → Fits s (AskChunk op handle number before) answer (whole_verdict (has_reached 65300 s) op r)
whole_by s op handle number h before answer (Err fault) e short = tt
whole_by s op handle number h before answer (Ok (Error version code detail extended)) e short =
    again_fits s op handle number (slice_index extended 0) code before answer (code == LARGE_RESPONSE) (has_reached 65300 s) refl
whole_by s op handle number h before answer (Ok (Measurements measured)) e short =
    (eq-eqb op op refl, refl, blocks_are h answer measured e, (let fits = measured_short h answer measured e in omega (arith, fits, short)))
whole_by s op handle number h before answer (Ok _) e short = tt

pub whole_fits : (s : Steps) (op handle number h : ℕ) (before : List ChunkMessage) (answer : List ℕ) → length answer ≤ 4160
    → Fits s (AskChunk op handle number before) answer (whole_verdict (has_reached 65300 s) op (response_reading h false answer))
whole_fits s op handle number h before answer short = whole_by s op handle number h before answer (response_reading h false answer) refl short
