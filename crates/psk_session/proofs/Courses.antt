-- The course of a record is that of the definitions.
use Rattle.std.proofs.Common.{◌≡◌, ◌∙◌, ap, sym, subst, refl, ℕ, List, [], ◌∷◌, Bool, true, false, not, drop}
use Rattle.std.specs.Prelude.{◌==◌, ◌&&◌, if◌then◌else◌, slice_index, Option, Some, None, Result, Ok, Err}
use Rattle.std.proofs.lemmas.Bool.{false≢true}
use Rattle.std.proofs.lemmas.Option.{none-some}
use Rattle.chunking.specs.Collecting.{answer_from, broken_rule, collected, joined_with, under_way}
use Rattle.requester_machine.specs.Commands.{Free, has_reached}
use Rattle.requester_machine.specs.History.{History, Led}
use Rattle.requester_machine.specs.History.Effect.{Nothing}
use Rattle.requester_machine.specs.InnerMessages.{inner_led, message_in, message_led, error_led, update_led, verified_led, data_led, chunk_led, whole_led, first_get}
use Rattle.requester_machine.specs.Answers.{is_refused}
use Rattle.requester_machine.specs.Message.{Ask}
use Rattle.requester_machine.specs.Message.Ask.{AskFinish, AskData, AskBeat, AskUpdate, AskVerify, AskMeasure, AskChunk, AskEnd}
use Rattle.requester_machine.specs.Order.{stage_for, waiting_ask}
use Rattle.requester_machine.specs.Records.{answer_fault, answer_inner}
use Rattle.requester_machine.specs.Sending.{operation_of, update_tag}
use Rattle.requester_machine.specs.Session.{Steps, Step, session_terms}
use Rattle.requester_machine.specs.Setup.{ReqSetup}
use Rattle.spdm_grammar.specs.Message.{ResponseMessage, ChunkMessage}
use Rattle.spdm_grammar.specs.Message.ResponseMessage.{Measurements, KeyUpdateAck, ChunkResponse, Error}
use Rattle.spdm_grammar.specs.Responses.{response_reading}
use Rattle.spdm_grammar.specs.declared.told.event.BadReply.{BadReply}
use Rattle.spdm_grammar.specs.declared.told.event.BadReply.TheVariants as bad
use Rattle.spdm_grammar.specs.declared.messages.malformed.Malformed.{Malformed}
use Rattle.spdm_grammar.specs.declared.names.error_number.TheConstants.{LARGE_RESPONSE}
use Rattle.spdm_grammar.specs.declared.messages.part_faults.ChunkFault.{ChunkFault}
use Rattle.spdm_grammar.specs.declared.messages.part_faults.ChunkFault.TheVariants as chunk
use Rattle.spdm_machine.specs.Sessions.{is_past_handshake}
use Rattle.spdm_machine.specs.Terms.{hash_len}
use Rattle.psk_session.specs.Course.{Course, TakesCourse, came_to, led_of}
use Rattle.psk_session.specs.Inner.{Contents, contents_of}
use Rattle.psk_session.specs.Inner.Contents.{Spoken, AppData}
use Rattle.psk_session.specs.Verdict.{Verdict, Meaning, wrong_kind, error_verdict, data_verdict, chunk_course, course_of, meaning_of, message_meaning, whole_verdict}
use Rattle.psk_session.specs.Verdict.Meaning.{Done, Piece}
use Rattle.psk_session.specs.Verdict.Verdict.{Bad, Answered, Updated, Large}
use Rattle.psk_session.specs.declared.reply.Reply.TheVariants as reply
use Rattle.psk_session.proofs.Judged.{led_by, inner_led_is}

-- What a requester is led to by a course of a record that came to a session, and what the verdict on it leads to.
abbrev led_at : ReqSetup → History → Free → (psk : List ℕ) → (id : ℕ) → Steps → Ask → (sealed : List ℕ) → Course → Result Led BadReply
led_at q h f psk id s a sealed course = led_of q h f (came_to psk id s a sealed) course

abbrev verdict_led : ReqSetup → History → Free → (psk : List ℕ) → (id : ℕ) → Steps → Ask → (sealed answer : List ℕ) → Verdict → Result Led BadReply
verdict_led q h f psk id s a sealed answer verdict = led_at q h f psk id s a sealed (course_of psk s a sealed answer verdict)

-- ---- By what is asked.

abbrev Leads : ReqSetup → History → Free → (psk : List ℕ) → (id : ℕ) → Steps → Ask → (sealed : List ℕ) → Meaning → Result Led BadReply → Type 0
Leads q h f psk id s a sealed (Done verdict) r = r ≡ verdict_led q h f psk id s a sealed (message_in (came_to psk id s a sealed)) verdict
Leads q h f psk id s a sealed (Piece op c) r =
    (handle number : ℕ) (before : List ChunkMessage) → a ≡ AskChunk op handle number before → r ≡ chunk_led q h f (came_to psk id s a sealed) op before c (broken_rule q.max before c)

large_is : (q : ReqSetup) (h : History) (f : Free) (psk : List ℕ) (id : ℕ) (y : Step) (older : Steps) (sealed : List ℕ) (op code : ℕ) (extended : List ℕ) (b : Bool)
    → (if b then Ok (first_get q h f (came_to psk id (y ∷ older) (AskMeasure op) sealed) op extended) else (if true then Ok (is_refused code Nothing) else Err (bad.Refused code)))
    ≡ verdict_led q h f psk id (y ∷ older) (AskMeasure op) sealed (message_in (came_to psk id (y ∷ older) (AskMeasure op) sealed)) (if b then Large op (slice_index extended 0) else Answered (reply.Refused code) [])
large_is q h f psk id y older sealed op code extended true = refl
large_is q h f psk id y older sealed op code extended false = refl

error_is : (q : ReqSetup) (h : History) (f : Free) (psk : List ℕ) (id : ℕ) (y : Step) (older : Steps) (sealed : List ℕ) (a : Ask) (code : ℕ) (extended : List ℕ)
    → error_led q h f (came_to psk id (y ∷ older) a sealed) a code extended
    ≡ verdict_led q h f psk id (y ∷ older) a sealed (message_in (came_to psk id (y ∷ older) a sealed)) (error_verdict (session_terms (y ∷ older)).common.chunk a code extended)
error_is q h f psk id y older sealed (AskMeasure op) code extended = large_is q h f psk id y older sealed op code extended (code == LARGE_RESPONSE && (session_terms (y ∷ older)).common.chunk)
error_is q h f psk id y older sealed AskFinish code extended = refl
error_is q h f psk id y older sealed AskData code extended = refl
error_is q h f psk id y older sealed AskBeat code extended = refl
error_is q h f psk id y older sealed (AskUpdate all) code extended = refl
error_is q h f psk id y older sealed AskVerify code extended = refl
error_is q h f psk id y older sealed (AskChunk op handle number before) code extended = refl
error_is q h f psk id y older sealed AskEnd code extended = refl

updated_is : (q : ReqSetup) (h : History) (f : Free) (psk : List ℕ) (id : ℕ) (y : Step) (older : Steps) (sealed : List ℕ) (all b : Bool)
    → update_led q h f (came_to psk id (y ∷ older) (AskUpdate all) sealed) all b
    ≡ verdict_led q h f psk id (y ∷ older) (AskUpdate all) sealed (message_in (came_to psk id (y ∷ older) (AskUpdate all) sealed)) (if b then Updated all else wrong_kind)
updated_is q h f psk id y older sealed all true = refl
updated_is q h f psk id y older sealed all false = refl

verified_is : (q : ReqSetup) (h : History) (f : Free) (psk : List ℕ) (id : ℕ) (y : Step) (older : Steps) (sealed : List ℕ) (b : Bool)
    → verified_led (came_to psk id (y ∷ older) AskVerify sealed) b
    ≡ verdict_led q h f psk id (y ∷ older) AskVerify sealed (message_in (came_to psk id (y ∷ older) AskVerify sealed)) (if b then Answered reply.Updated [] else wrong_kind)
verified_is q h f psk id y older sealed true = refl
verified_is q h f psk id y older sealed false = refl

chunk_is : (q : ReqSetup) (h : History) (f : Free) (psk : List ℕ) (id : ℕ) (s : Steps) (sealed : List ℕ) (op handle number : ℕ) (before : List ChunkMessage) (c : ChunkMessage) (b d : Bool)
    → Leads q h f psk id s (AskChunk op handle number before) sealed
    (if not b then Done (Bad (bad.Chunk chunk.WrongHandle)) else (if not d then Done (Bad (bad.Chunk chunk.WrongNumber)) else Piece op c))
    (chunk_led q h f (came_to psk id s (AskChunk op handle number before) sealed) op before c (if not b then Some chunk.WrongHandle else (if not d then Some chunk.WrongNumber else broken_rule q.max before c)))
chunk_is q h f psk id s sealed op handle number before c false d = refl
chunk_is q h f psk id s sealed op handle number before c true false = refl
chunk_is q h f psk id s sealed op handle number before c true true = λ its_handle its_number others same.
    let e : before ≡ others = cc same in
    ap (λ (x : List ChunkMessage). chunk_led q h f (came_to psk id s (AskChunk op handle number before) sealed) op x c (broken_rule q.max x c)) e

message_is : (q : ReqSetup) (h : History) (f : Free) (psk : List ℕ) (id : ℕ) (y : Step) (older : Steps) (sealed : List ℕ) (a : Ask) (message : ResponseMessage) → is_past_handshake (stage_for a) ≡ true
    → Leads q h f psk id (y ∷ older) a sealed (message_meaning (session_terms (y ∷ older)).common.chunk (update_tag (y ∷ older)) a message) (message_led q h f (came_to psk id (y ∷ older) a sealed) a message)
message_is q h f psk id y older sealed a (Error version code detail extended) past = error_is q h f psk id y older sealed a code extended
message_is q h f psk id y older sealed AskFinish message past = absurd (false≢true past)
message_is q h f psk id y older sealed (AskUpdate all) (KeyUpdateAck op tag) past = updated_is q h f psk id y older sealed all (op == operation_of all && tag == update_tag (y ∷ older))
message_is q h f psk id y older sealed AskVerify (KeyUpdateAck op tag) past = verified_is q h f psk id y older sealed (op == 3 && tag == update_tag (y ∷ older))
message_is q h f psk id y older sealed (AskChunk op handle number before) (ChunkResponse c) past = chunk_is q h f psk id (y ∷ older) sealed op handle number before c (c.handle == handle) (c.number == number)
message_is q h f psk id y older sealed _ _ past = refl

data_is : (q : ReqSetup) (h : History) (f : Free) (psk : List ℕ) (id : ℕ) (s : Steps) (sealed : List ℕ) (a : Ask) (bytes : List ℕ)
    → data_led (came_to psk id s a sealed) a ≡ verdict_led q h f psk id s a sealed (message_in (came_to psk id s a sealed)) (data_verdict a bytes)
data_is q h f psk id s sealed AskData bytes = refl
data_is q h f psk id s sealed _ bytes = refl

contents_lead : (q : ReqSetup) (h : History) (f : Free) (psk : List ℕ) (id : ℕ) (y : Step) (older : Steps) (sealed : List ℕ) (a : Ask) (contents : Result Contents BadReply) → is_past_handshake (stage_for a) ≡ true
    → Leads q h f psk id (y ∷ older) a sealed (meaning_of (session_terms (y ∷ older)).common.chunk (update_tag (y ∷ older)) a contents) (led_by q h f (came_to psk id (y ∷ older) a sealed) a contents)
contents_lead q h f psk id y older sealed a (Err fault) past = refl
contents_lead q h f psk id y older sealed a (Ok (AppData bytes)) past = data_is q h f psk id (y ∷ older) sealed a bytes
contents_lead q h f psk id y older sealed a (Ok (Spoken message)) past = message_is q h f psk id y older sealed a message past

leads : (q : ReqSetup) (h : History) (f : Free) (psk : List ℕ) (id : ℕ) (s : Steps) (sealed : List ℕ) (a : Ask) → waiting_ask s ≡ Some a → is_past_handshake (stage_for a) ≡ true
    → Leads q h f psk id s a sealed (meaning_of (session_terms s).common.chunk (update_tag s) a (contents_of q (hash_len (session_terms s)) (answer_inner psk s a sealed))) (inner_led q h f (came_to psk id s a sealed) a)
leads q h f psk id [] sealed a waits past = absurd (none-some a waits)
leads q h f psk id (y ∷ older) sealed a waits past =
    subst (λ (r : Result Led BadReply). Leads q h f psk id (y ∷ older) a sealed (meaning_of (session_terms (y ∷ older)).common.chunk (update_tag (y ∷ older)) a (contents_of q (hash_len (session_terms (y ∷ older))) (answer_inner psk (y ∷ older) a sealed))) r)
    (sym (inner_led_is q h f (came_to psk id (y ∷ older) a sealed) a))
    (contents_lead q h f psk id y older sealed a (contents_of q (hash_len (session_terms (y ∷ older))) (answer_inner psk (y ∷ older) a sealed)) past)

-- ---- The course of a meaning.

-- A chunk leads each requester to what the rule makes of it that it breaks.
abbrev pub TakesChunk : (psk : List ℕ) → Steps → Ask → (sealed : List ℕ) → (op : ℕ) → ChunkMessage → Type 0
TakesChunk psk s a sealed op c =
    (answer_fault psk s a sealed ≡ None)
    × ((q : ReqSetup) (h : History) (f : Free) (id : ℕ)
    → q.transfer ≡ (session_terms s).common.to_requester.transfer → q.max ≡ (session_terms s).common.to_requester.max
    → (handle number : ℕ) (before : List ChunkMessage) → a ≡ AskChunk op handle number before
    → inner_led q h f (came_to psk id s a sealed) a ≡ chunk_led q h f (came_to psk id s a sealed) op before c (broken_rule q.max before c))

abbrev pub Takes : (psk : List ℕ) → Steps → Ask → (sealed : List ℕ) → Meaning → Type 0
Takes psk s a sealed (Done verdict) = TakesCourse psk s a sealed (course_of psk s a sealed (drop 1 (answer_inner psk s a sealed)) verdict)
Takes psk s a sealed (Piece op c) = TakesChunk psk s a sealed op c

-- What an inner message of these bytes is, at each requester of this transfer size.
abbrev pub IsMeaning : Steps → Ask → (inner : List ℕ) → Meaning → Type 0
IsMeaning s a inner meaning = (q : ReqSetup) → q.transfer ≡ (session_terms s).common.to_requester.transfer
    → meaning ≡ meaning_of (session_terms s).common.chunk (update_tag s) a (contents_of q (hash_len (session_terms s)) inner)

leads_as : (psk : List ℕ) (s : Steps) (a : Ask) (sealed inner : List ℕ) (meaning : Meaning) (q : ReqSetup) (h : History) (f : Free) (id : ℕ) → waiting_ask s ≡ Some a → is_past_handshake (stage_for a) ≡ true
    → inner ≡ answer_inner psk s a sealed → IsMeaning s a inner meaning → q.transfer ≡ (session_terms s).common.to_requester.transfer
    → Leads q h f psk id s a sealed meaning (inner_led q h f (came_to psk id s a sealed) a)
leads_as psk s a sealed inner meaning q h f id waits past same is transfer =
    let m = meaning_of (session_terms s).common.chunk (update_tag s) a in
    subst (λ (x : Meaning). Leads q h f psk id s a sealed x (inner_led q h f (came_to psk id s a sealed) a))
    (sym (is q transfer ∙ ap (λ (x : List ℕ). m (contents_of q (hash_len (session_terms s)) x)) same))
    (leads q h f psk id s sealed a waits past)

pub takes : (psk : List ℕ) (s : Steps) (a : Ask) (sealed inner : List ℕ) (meaning : Meaning) → waiting_ask s ≡ Some a → is_past_handshake (stage_for a) ≡ true → answer_fault psk s a sealed ≡ None
    → inner ≡ answer_inner psk s a sealed → IsMeaning s a inner meaning → Takes psk s a sealed meaning
takes psk s a sealed inner (Done verdict) waits past sound same is =
    (sound, λ q h f id transfer max. leads_as psk s a sealed inner (Done verdict) q h f id waits past same is transfer)
takes psk s a sealed inner (Piece op c) waits past sound same is =
    (sound, λ q h f id transfer max. leads_as psk s a sealed inner (Piece op c) q h f id waits past same is transfer)

-- ---- Chunks.

again_is : (q : ReqSetup) (h : History) (f : Free) (psk : List ℕ) (id : ℕ) (y : Step) (older : Steps) (sealed : List ℕ) (op handle number code : ℕ) (before : List ChunkMessage) (extended answer : List ℕ) (b : Bool)
    → Ok (if b then first_get q h f (came_to psk id (y ∷ older) (AskChunk op handle number before) sealed) op extended else is_refused code Nothing)
    ≡ verdict_led q h f psk id (y ∷ older) (AskChunk op handle number before) sealed answer (if b then Large op (slice_index extended 0) else Answered (reply.Refused code) [])
again_is q h f psk id y older sealed op handle number code before extended answer true = refl
again_is q h f psk id y older sealed op handle number code before extended answer false = refl

whole_is : (q : ReqSetup) (h : History) (f : Free) (psk : List ℕ) (id : ℕ) (y : Step) (older : Steps) (sealed : List ℕ) (op handle number : ℕ) (before : List ChunkMessage) (answer : List ℕ) (r : Result ResponseMessage Malformed)
    → whole_led q h f (came_to psk id (y ∷ older) (AskChunk op handle number before) sealed) op answer r
    ≡ verdict_led q h f psk id (y ∷ older) (AskChunk op handle number before) sealed answer (whole_verdict (has_reached 65300 (y ∷ older)) op r)
whole_is q h f psk id y older sealed op handle number before answer (Err fault) = refl
whole_is q h f psk id y older sealed op handle number before answer (Ok (Error version code detail extended)) =
    again_is q h f psk id y older sealed op handle number code before extended answer (code == LARGE_RESPONSE && not (has_reached 65300 (y ∷ older)))
whole_is q h f psk id y older sealed op handle number before answer (Ok (Measurements measured)) = refl
whole_is q h f psk id y older sealed op handle number before answer (Ok _) = refl

piece_is : (q : ReqSetup) (h : History) (f : Free) (psk : List ℕ) (id : ℕ) (y : Step) (older : Steps) (sealed : List ℕ) (op handle number : ℕ) (before : List ChunkMessage) (c : ChunkMessage) (rule : Option ChunkFault) (last : Bool)
    → c.last ≡ last
    → chunk_led q h f (came_to psk id (y ∷ older) (AskChunk op handle number before) sealed) op before c rule
    ≡ led_at q h f psk id (y ∷ older) (AskChunk op handle number before) sealed (chunk_course psk (y ∷ older) op handle number before sealed c (answer_from rule c (joined_with before c)))
piece_is q h f psk id y older sealed op handle number before c (Some fault) last e = refl
piece_is q h f psk id y older sealed op handle number before c None last e =
    let came = came_to psk id (y ∷ older) (AskChunk op handle number before) sealed in
    last_is last e
  where
    last_is : (b : Bool) → c.last ≡ b
        → chunk_led q h f (came_to psk id (y ∷ older) (AskChunk op handle number before) sealed) op before c None
        ≡ led_at q h f psk id (y ∷ older) (AskChunk op handle number before) sealed (chunk_course psk (y ∷ older) op handle number before sealed c (answer_from None c (joined_with before c)))
    last_is true e = rw e (whole_is q h f psk id y older sealed op handle number before (joined_with before c) (response_reading (hash_len (session_terms (y ∷ older))) false (joined_with before c)))
    last_is false e = rw e refl

pub piece_takes : (psk : List ℕ) (s : Steps) (sealed : List ℕ) (op handle number : ℕ) (before : List ChunkMessage) (c : ChunkMessage) → waiting_ask s ≡ Some (AskChunk op handle number before)
    → under_way before ≡ before → TakesChunk psk s (AskChunk op handle number before) sealed op c
    → TakesCourse psk s (AskChunk op handle number before) sealed (chunk_course psk s op handle number before sealed c (collected (session_terms s).common.to_requester.max before c))
piece_takes psk [] sealed op handle number before c waits whole takes = absurd (none-some (AskChunk op handle number before) waits)
piece_takes psk (y ∷ older) sealed op handle number before c waits whole takes =
    let s = y ∷ older in
    let most = (session_terms s).common.to_requester.max in (
      takes.0,
      λ q h f id transfer max.
          takes.1 q h f id transfer max handle number before refl
          ∙ ap (λ (n : ℕ). chunk_led q h f (came_to psk id s (AskChunk op handle number before) sealed) op before c (broken_rule n before c)) max
          ∙ piece_is q h f psk id y older sealed op handle number before c (broken_rule most before c) c.last refl
          ∙ ap (λ (x : List ChunkMessage). led_at q h f psk id s (AskChunk op handle number before) sealed (chunk_course psk s op handle number before sealed c (answer_from (broken_rule most x c) c (joined_with x c)))) (sym whole),
    )
