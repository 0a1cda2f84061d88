-- What a record leads to keeps the sessions in order.
use Rattle.std.proofs.Common.{refl, ◌≡◌, ◌+◌, ℕ, List, [], ◌∷◌, true, false, Bool, Option, Some, None, eq-eqb}
use Rattle.std.specs.Prelude.{⊤, ◌==◌, ◌&&◌, not, if◌then◌else◌, Result, Ok, Err, slice_index}
use Rattle.std.proofs.lemmas.Bool.{false≢true}
use Rattle.chunking.specs.Collecting.{joined_with}
use Rattle.spdm_grammar.specs.Message.{ResponseMessage, ChunkMessage}
use Rattle.spdm_grammar.specs.Message.ResponseMessage.{Measurements, PskFinishRsp, HeartbeatAck, KeyUpdateAck, EndSessionAck, ChunkResponse, Error}
use Rattle.spdm_grammar.specs.declared.told.event.BadReply.{BadReply}
use Rattle.spdm_grammar.specs.declared.messages.malformed.Malformed.{Malformed}
use Rattle.spdm_grammar.specs.declared.messages.part_faults.ChunkFault.{ChunkFault}
use Rattle.spdm_grammar.specs.declared.told.phase.Stage.TheVariants as stage
use Rattle.requester_machine.specs.Setup.{ReqSetup}
use Rattle.requester_machine.specs.Answers.{is_refused}
use Rattle.requester_machine.specs.ClearAnswers.{get_fault}
use Rattle.requester_machine.specs.Commands.{Free, has_reached}
use Rattle.requester_machine.specs.History.{History, Led}
use Rattle.requester_machine.specs.History.Effect.{Nothing, Grants, Loses}
use Rattle.requester_machine.specs.InnerMessages.{Came, message_in, inner_fault, reading_of, error_led, first_get, follows, op_in, outlives_error, echoes, update_led, verified_led, whole_led, chunk_led, message_led, read_led, data_led, inner_led_by, inner_led, or_lost}
use Rattle.requester_machine.specs.Message.{Ask}
use Rattle.requester_machine.specs.Message.Ask.{AskFinish, AskData, AskBeat, AskUpdate, AskVerify, AskMeasure, AskChunk, AskEnd}
use Rattle.requester_machine.specs.Order.{waits_for, stage_for, is_same}
use Rattle.requester_machine.specs.Order.Waits.{Rests, ForRecord}
use Rattle.requester_machine.specs.Sending.{operation_of}
use Rattle.requester_machine.specs.Session.{Steps, with_sent, after_record}
use Rattle.requester_machine.proofs.Steps.{Good, end_good, done_good, next_good}
use Rattle.spdm_grammar.specs.declared.names.error_number.TheConstants.{LARGE_RESPONSE}

-- The session with an id, after a record that came and what it leads to.
abbrev pub steps_behind : ℕ → Steps → Came → Led → Steps
steps_behind id s came led = if came.id == id then with_sent id led.next (after_record came.sealed came.inner led.effect s) else s

-- It stays good.
abbrev pub GoodRecord : ℕ → Steps → Came → Led → Type 0
GoodRecord id s came led = Good (waits_for id led.next) (steps_behind id s came led)

abbrev pub GoodInner : ℕ → Steps → Came → Result Led BadReply → Type 0
GoodInner id s came (Ok led) = GoodRecord id s came led
GoodInner id s came (Err fault) = ⊤

-- What it waits for when the record comes.
abbrev pub Waiting : ℕ → Steps → Came → Ask → Type 0
Waiting id s came ask = Good (if came.id == id then ForRecord ask else Rests) s

either_inner : (id : ℕ) (s : Steps) (came : Came) (b : Bool) (x y : Result Led BadReply) → GoodInner id s came x → GoodInner id s came y → GoodInner id s came (if b then x else y)
either_inner id s came true x y a c = a
either_inner id s came false x y a c = c

either_record : (id : ℕ) (s : Steps) (came : Came) (b : Bool) (x y : Led) → GoodRecord id s came x → GoodRecord id s came y → GoodRecord id s came (if b then x else y)
either_record id s came true x y a c = a
either_record id s came false x y a c = c

pub is_same-refl : (b : Bool) → is_same b b ≡ true
is_same-refl true = refl
is_same-refl false = refl

-- ---- ERROR.

-- What an ERROR leaves open was asked in an open session.
pub outlives-open : (ask : Ask) → outlives_error ask ≡ true → stage_for ask ≡ stage.Open
outlives-open AskFinish is = absurd (false≢true is)
outlives-open AskData is = refl
outlives-open AskBeat is = refl
outlives-open (AskUpdate all) is = absurd (false≢true is)
outlives-open AskVerify is = absurd (false≢true is)
outlives-open (AskMeasure op) is = refl
outlives-open (AskChunk op handle number before) is = refl
outlives-open AskEnd is = absurd (false≢true is)

refused-good : (id : ℕ) (s : Steps) (came : Came) (ask : Ask) (code : ℕ) → outlives_error ask ≡ true → Waiting id s came ask → GoodRecord id s came (is_refused code Nothing)
refused-good id s came ask code outlives good = done_good (came.id == id) came.sealed came.inner Nothing ask s refl outlives (outlives-open ask outlives) good

first_get-good : (id : ℕ) (s : Steps) (q : ReqSetup) (h : History) (f : Free) (came : Came) (ask : Ask) (op : ℕ) (extended : List ℕ) → outlives_error ask ≡ true
    → Waiting id s came ask → GoodRecord id s came (first_get q h f came op extended)
first_get-good id s q h f came ask op extended outlives good =
    next_good (came.id == id) came.sealed came.inner Nothing ask (AskChunk op (slice_index extended 0) 0 []) _ _ s refl outlives (outlives-open ask outlives) good

-- An ERROR that leaves the session open.
open_error : (id : ℕ) (s : Steps) (q : ReqSetup) (h : History) (f : Free) (came : Came) (ask : Ask) (code : ℕ) (extended : List ℕ) → outlives_error ask ≡ true
    → Waiting id s came ask → GoodInner id s came (if follows came ask code then Ok (first_get q h f came (op_in ask) extended) else Ok (is_refused code Nothing))
open_error id s q h f came ask code extended outlives good =
    either_inner id s came (follows came ask code) (Ok (first_get q h f came (op_in ask) extended)) (Ok (is_refused code Nothing))
    (first_get-good id s q h f came ask (op_in ask) extended outlives good) (refused-good id s came ask code outlives good)

error_led-good : (id : ℕ) (s : Steps) (q : ReqSetup) (h : History) (f : Free) (came : Came) (ask : Ask) (code : ℕ) (extended : List ℕ)
    → Waiting id s came ask → GoodInner id s came (error_led q h f came ask code extended)
error_led-good id s q h f came AskFinish code extended good = tt
error_led-good id s q h f came AskData code extended good = open_error id s q h f came AskData code extended refl good
error_led-good id s q h f came AskBeat code extended good = open_error id s q h f came AskBeat code extended refl good
error_led-good id s q h f came (AskUpdate all) code extended good = tt
error_led-good id s q h f came AskVerify code extended good = tt
error_led-good id s q h f came (AskMeasure op) code extended good = open_error id s q h f came (AskMeasure op) code extended refl good
error_led-good id s q h f came (AskChunk op handle number before) code extended good = open_error id s q h f came (AskChunk op handle number before) code extended refl good
error_led-good id s q h f came AskEnd code extended good = tt

-- ---- KEY_UPDATE_ACK.

update_led-good : (id : ℕ) (s : Steps) (q : ReqSetup) (h : History) (f : Free) (came : Came) (all echo : Bool) → Waiting id s came (AskUpdate all) → GoodInner id s came (update_led q h f came all echo)
update_led-good id s q h f came all true good =
    next_good (came.id == id) came.sealed came.inner (Grants (AskUpdate all) (message_in came)) (AskUpdate all) AskVerify _ _ s refl (is_same-refl all) refl good
update_led-good id s q h f came all false good = tt

verified_led-good : (id : ℕ) (s : Steps) (came : Came) (echo : Bool) → Waiting id s came AskVerify → GoodInner id s came (verified_led came echo)
verified_led-good id s came true good = done_good (came.id == id) came.sealed came.inner (Grants AskVerify (message_in came)) AskVerify s refl refl refl good
verified_led-good id s came false good = tt

-- ---- A large answer.

whole_led-good : (id : ℕ) (s : Steps) (q : ReqSetup) (h : History) (f : Free) (came : Came) (op handle number : ℕ) (before : List ChunkMessage) (whole : List ℕ) (reading : Result ResponseMessage Malformed)
    → Waiting id s came (AskChunk op handle number before) → GoodInner id s came (whole_led q h f came op whole reading)
whole_led-good id s q h f came op handle number before whole (Err fault) good = tt
whole_led-good id s q h f came op handle number before whole (Ok (Error version code detail extended)) good =
    either_record id s came (code == LARGE_RESPONSE && not (has_reached 65300 came.steps)) (first_get q h f came op extended) (is_refused code Nothing)
    (first_get-good id s q h f came (AskChunk op handle number before) op extended refl good) (refused-good id s came (AskChunk op handle number before) code refl good)
whole_led-good id s q h f came op handle number before whole (Ok (Measurements measured)) good =
    done_good (came.id == id) came.sealed came.inner (Grants (AskMeasure op) whole) (AskChunk op handle number before) s refl (eq-eqb op op refl) refl good
whole_led-good id s q h f came op handle number before whole (Ok _) good = tt

chunk_led-good : (id : ℕ) (s : Steps) (q : ReqSetup) (h : History) (f : Free) (came : Came) (op handle number : ℕ) (before : List ChunkMessage) (c : ChunkMessage) (fault : Option ChunkFault)
    → Waiting id s came (AskChunk op handle number before) → GoodInner id s came (chunk_led q h f came op before c fault)
chunk_led-good id s q h f came op handle number before c (Some fault) good = tt
chunk_led-good id s q h f came op handle number before c None good =
    either_inner id s came c.last (whole_led q h f came op (joined_with before c) (reading_of came (joined_with before c))) _
    (whole_led-good id s q h f came op handle number before (joined_with before c) (reading_of came (joined_with before c)) good)
    (next_good (came.id == id) came.sealed came.inner Nothing (AskChunk op handle number before) (AskChunk op c.handle (c.number + 1) (c ∷ before)) _ _ s refl refl refl good)

-- ---- All answers.

message_led-good : (id : ℕ) (s : Steps) (q : ReqSetup) (h : History) (f : Free) (came : Came) (ask : Ask) (value : ResponseMessage)
    → Waiting id s came ask → GoodInner id s came (message_led q h f came ask value)
message_led-good id s q h f came ask (Error version code detail extended) good = error_led-good id s q h f came ask code extended good
message_led-good id s q h f came AskFinish PskFinishRsp good = done_good (came.id == id) came.sealed came.inner (Grants AskFinish (message_in came)) AskFinish s refl refl refl good
message_led-good id s q h f came AskBeat HeartbeatAck good = done_good (came.id == id) came.sealed came.inner (Grants AskBeat (message_in came)) AskBeat s refl refl refl good
message_led-good id s q h f came (AskUpdate all) (KeyUpdateAck op tag) good = update_led-good id s q h f came all (echoes came (operation_of all) op tag) good
message_led-good id s q h f came AskVerify (KeyUpdateAck op tag) good = verified_led-good id s came (echoes came 3 op tag) good
message_led-good id s q h f came (AskMeasure op) (Measurements measured) good = done_good (came.id == id) came.sealed came.inner (Grants (AskMeasure op) (message_in came)) (AskMeasure op) s refl (eq-eqb op op refl) refl good
message_led-good id s q h f came AskEnd EndSessionAck good = end_good (came.id == id) came.sealed came.inner (Grants AskEnd (message_in came)) AskEnd s refl good
message_led-good id s q h f came (AskChunk op handle number before) (ChunkResponse c) good = chunk_led-good id s q h f came op handle number before c (get_fault q.max handle number before c) good
message_led-good id s q h f came ask value good = tt

read_led-good : (id : ℕ) (s : Steps) (q : ReqSetup) (h : History) (f : Free) (came : Came) (ask : Ask) (reading : Result ResponseMessage Malformed)
    → Waiting id s came ask → GoodInner id s came (read_led q h f came ask reading)
read_led-good id s q h f came ask (Err fault) good = tt
read_led-good id s q h f came ask (Ok value) good = message_led-good id s q h f came ask value good

data_led-good : (id : ℕ) (s : Steps) (came : Came) (ask : Ask) → Waiting id s came ask → GoodInner id s came (data_led came ask)
data_led-good id s came AskData good = done_good (came.id == id) came.sealed came.inner (Grants AskData (message_in came)) AskData s refl refl refl good
data_led-good id s came _ good = tt

inner_by-good : (id : ℕ) (s : Steps) (q : ReqSetup) (h : History) (f : Free) (came : Came) (ask : Ask) (fault : Option BadReply)
    → Waiting id s came ask → GoodInner id s came (inner_led_by q h f came ask fault)
inner_by-good id s q h f came ask (Some fault) good = tt
inner_by-good id s q h f came ask None good =
    either_inner id s came (slice_index came.inner 0 == 5) (read_led q h f came ask (reading_of came (message_in came))) (data_led came ask)
    (read_led-good id s q h f came ask (reading_of came (message_in came)) good) (data_led-good id s came ask good)

or_lost-good : (id : ℕ) (s : Steps) (came : Came) (ask : Ask) (result : Result Led BadReply) → Waiting id s came ask → GoodInner id s came result → GoodRecord id s came (or_lost came result)
or_lost-good id s came ask (Ok led) good is = is
or_lost-good id s came ask (Err fault) good is = end_good (came.id == id) came.sealed came.inner Loses ask s refl good

-- ---- All together.

pub record-good : (id : ℕ) (s : Steps) (q : ReqSetup) (h : History) (f : Free) (came : Came) (ask : Ask)
    → Waiting id s came ask → GoodRecord id s came (or_lost came (inner_led q h f came ask))
unfolding inner_led
record-good id s q h f came ask good = or_lost-good id s came ask (inner_led_by q h f came ask (inner_fault q came.inner)) good (inner_by-good id s q h f came ask (inner_fault q came.inner) good)
