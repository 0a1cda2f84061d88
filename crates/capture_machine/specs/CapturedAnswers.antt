-- Which bodies answer a request in a capture: what any responder of this profile may answer, and what that leads to at
-- both ends. This project's own.
use Rattle.std.specs.Prelude.{⊤, ◌≡◌, ◌≤◌, ◌==◌, ◌&&◌, ◌||◌, ◌⊎◌, not, ℕ, List, [], ◌∷◌, length, slice_index, drop, if◌then◌else◌, Bool, true, false, Option, Some, None, is_none, MatchBool}
use Rattle.chunking.specs.Collecting.{under_way, joined_with}
use Rattle.requester_machine.specs.Asking as asking
use Rattle.requester_machine.specs.History as requester_history
use Rattle.requester_machine.specs.May.{MayHear}
use Rattle.requester_machine.specs.Shown as shown
use Rattle.spdm_grammar.specs.Message.{ChunkMessage}
use Rattle.responder_machine.specs.Answer.{Free, answer_bytes, request_at}
use Rattle.responder_machine.specs.Handling.{chunk_in}
use Rattle.responder_machine.specs.History.{History, Entry}
use Rattle.responder_machine.specs.History.Entry.{Clear, Sealed}
use Rattle.responder_machine.specs.LargeMessages.{chunks_of}
use Rattle.responder_machine.specs.May.{IsAllowed, MayDrop, with_dropped, place_for, on_body}
use Rattle.responder_machine.specs.Place.{Place, clear_place, session_place, inside}
use Rattle.responder_machine.specs.Records.{opening_fault, opened}
use Rattle.responder_machine.specs.Responder.{Outcome, after, body_of, sent_by, repeats}
use Rattle.spdm_machine.specs.Bodies.{clear_body, record_body}
use Rattle.responder_machine.specs.Responder.Outcome.{Same, Unopened, Adds}
use Rattle.responder_machine.specs.Session.{Events, session_of, id_in_record, last_of}
use Rattle.spdm_machine.specs.Sessions.{id_in_exchange}
use Rattle.responder_machine.specs.Setup.{RspSetup}
use Rattle.responder_machine.specs.Turn.{takes, answer_in}
use Rattle.capture_machine.specs.LargeAnswers.{IsLargeAnswer, is_large, unseen, is_unseen_in, seen, place_named, with_large, dropped_before_large, begun_with, is_untouched, repeats_large, place_of, place_again, judging, gives_last}
use Rattle.capture_machine.specs.LargeRequests.{with_ack}
use Rattle.capture_machine.specs.Rounds.{Dialogue, Round, no_draw}
use Rattle.spdm_grammar.specs.declared.names.request_code.TheConstants.{PSK_EXCHANGE}
use Rattle.spdm_grammar.specs.declared.names.TheConstants.{MAX_MESSAGE_SIZE}
use Rattle.spdm_grammar.specs.declared.names.message_type.TheConstants.{SPDM}

-- ---- No SPDM message has more than 4,096 bytes.

-- The whole answer, under some values, to a message at a place: a chunk is answered by what the request leads to,
-- once it is complete.
abbrev pub answer_at : RspSetup → Place → List ℕ → Free → Option ChunkMessage → List ℕ
answer_at r p m f None = answer_bytes r p m f
answer_at r p m f (Some c) = answer_bytes r (inside p) (joined_with (under_way (chunks_of p.turns)) c) f

-- The whole answer to a clear message, which may be a chunk.
abbrev pub clear_answer : RspSetup → Place → List ℕ → Free → List ℕ
clear_answer r p m f = answer_at r p m f (chunk_in (request_at p m))

-- The whole answer to a record, by its inner message.
abbrev pub record_answer : RspSetup → Events → List ℕ → Free → List ℕ
record_answer r s sealed f = answer_bytes r (session_place s) (drop 1 (opened r.psk s sealed)) f

-- The whole answer to a body of type 5, or else of type 6.
abbrev pub answer_to : RspSetup → History → List ℕ → Free → List ℕ
answer_to r h body f =
    if slice_index body 0 == SPDM then clear_answer r (clear_place h) (drop 1 body) f
    else record_answer r (session_of (id_in_record (drop 1 body)) h) (drop 1 body) f

-- ---- What a request may lead to.

-- A request, with its tag, may lead to an outcome, under some allowed values whose answer is no longer than that,
-- also where it was too long to be given.
unfoldable pub MayLeadTo : RspSetup → History → ℕ → List ℕ → Outcome → Type 0
MayLeadTo r h tag body outcome =
    (f : Free) × IsAllowed h (place_for h body) f
    × (length (answer_to r h body f) ≤ MAX_MESSAGE_SIZE)
    × (on_body r h tag body f no_draw ≡ outcome)

-- The same, after sessions were dropped without a trace.
abbrev pub MayLeadAfter : RspSetup → History → (dropped : List ℕ) → ℕ → List ℕ → Outcome → Type 0
MayLeadAfter r h dropped tag body outcome = MayDrop h dropped × MayLeadTo r (with_dropped h dropped) tag body outcome

-- ---- Drops.

-- The record opens in a session, or equals the last one that the session took.
abbrev pub belongs_to : RspSetup → Events → List ℕ → Bool
belongs_to r s sealed = repeats (last_of s) sealed || is_none (opening_fault r.psk s sealed)

-- An answer shows that a session was dropped before its request in two cases. It is DecryptError in the clear to a
-- record that belongs to the session; or it is PSK_EXCHANGE_RSP, no repeat, and has the session's id. The history is
-- that before the drop.
abbrev pub shows : RspSetup → History → List ℕ → (id : ℕ) → Outcome → Bool
shows r h body id (Same reply) = false
shows r h body id (Unopened reply) = id_in_record (drop 1 body) == id && belongs_to r (session_of id h) (drop 1 body)
shows r h body id (Adds (Clear tag t d)) = takes PSK_EXCHANGE t && id_in_exchange (answer_in t.effect) == id
shows r h body id (Adds _) = false

-- A session counts as dropped only where the answer shows it, and no answer shows more than one.
abbrev pub AreShown : RspSetup → History → List ℕ → Outcome → (dropped : List ℕ) → Type 0
AreShown r h body outcome [] = ⊤
AreShown r h body outcome (id ∷ []) = shows r h body id outcome ≡ true
AreShown r h body outcome (id ∷ other ∷ others) = ⊥

-- ---- The responder's side of an answer.

-- The outcome brings no new LargeResponse and no last chunk of a large response.
abbrev pub is_plain : History → Outcome → Bool
is_plain h (Same reply) = true
is_plain h (Unopened reply) = true
is_plain h (Adds entry) = not (is_large entry) && not (gives_last h entry)

-- An answer that goes whole; a repeat; a chunk of a large response, but for the last one.
abbrev pub AnswersPlainly : RspSetup → Dialogue → Round → List ℕ → History → Type 0
AnswersPlainly r d round answer next =
    (dropped : List ℕ) × (outcome : Outcome)
    × MayLeadAfter r (judging d.fetching round.body d.responder) dropped round.tag round.body outcome
    × AreShown r (judging d.fetching round.body d.responder) round.body outcome dropped
    × (is_plain (judging d.fetching round.body d.responder) outcome ≡ true)
    × (body_of outcome ≡ answer)
    × (next ≡ after (with_dropped d.responder dropped) outcome)

-- LargeResponse, plain or in an acknowledgement: some allowed answer is long enough for it. A PSK_EXCHANGE beside four
-- sessions shows by it that one was dropped, but not which, so none counts as dropped.
abbrev pub AnswersLarge : RspSetup → Dialogue → Round → List ℕ → History → List ℕ → Type 0
AnswersLarge r d round answer next whole =
    (dropped : List ℕ) × (entry : Entry)
    × MayLeadAfter r (judging d.fetching round.body d.responder) dropped round.tag round.body (Adds entry)
    × (is_large entry ≡ true)
    × IsLargeAnswer (place_of (judging d.fetching round.body d.responder) entry) whole
    × (sent_by entry ≡ answer)
    × (next ≡ unseen entry ∷ d.responder)

-- LargeResponse again, to a repeat of a request whose large response was not seen, while none is fetched. It is the
-- same answer as then, so any bytes of a length that is sent in chunks may stand for it.
abbrev pub AnswersAgain : RspSetup → Dialogue → Round → List ℕ → History → List ℕ → Type 0
AnswersAgain r d round answer next whole =
    (d.fetching ≡ None)
    × MayLeadTo r d.responder round.tag round.body (Same answer)
    × (repeats_large (place_named round.body) d.responder ≡ true)
    × IsLargeAnswer (place_again (place_named round.body) d.responder d.responder) whole
    × (next ≡ d.responder)

-- The tag of the request of an entry; 0 where it is no message.
abbrev pub tag_in : Entry → ℕ
tag_in (Clear tag t d) = tag
tag_in (Sealed tag sealed t reply d) = tag
tag_in _ = 0

-- The body of the request of an entry; empty where it is no message.
abbrev pub request_in : Entry → List ℕ
request_in (Clear tag t d) = clear_body t.message
request_in (Sealed tag sealed t reply d) = record_body sealed
request_in _ = []

-- The request of an entry may lead to it, after sessions were dropped that it shows.
abbrev pub MayLeadToEntry : RspSetup → (dropped : List ℕ) → History → Entry → Type 0
MayLeadToEntry r dropped older entry =
    MayLeadAfter r older dropped (tag_in entry) (request_in entry) (Adds entry) × AreShown r older (request_in entry) (Adds entry) dropped

-- The request of the newest large response of a place that was not seen may lead to these bytes as that answer.
abbrev pub MayHaveLed : RspSetup → Option ℕ → List ℕ → (dropped : List ℕ) → History → Type 0
MayHaveLed r place whole dropped [] = ⊥
MayHaveLed r place whole dropped (entry ∷ older) =
    MatchBool (is_unseen_in place entry) (MayLeadToEntry r dropped older (seen whole entry)) (MayHaveLed r place whole dropped older)

-- The last chunk of the large response that is fetched, which is judged with it.
abbrev pub Completes : RspSetup → Dialogue → Round → List ℕ → History → Type 0
Completes r d round answer next =
    (whole : List ℕ) × (dropped : List ℕ) × (entry : Entry)
    × (d.fetching ≡ Some whole)
    × MayLeadTo r (judging d.fetching round.body d.responder) round.tag round.body (Adds entry)
    × (gives_last (judging d.fetching round.body d.responder) entry ≡ true)
    × MayHaveLed r (place_named round.body) whole dropped d.responder
    × (sent_by entry ≡ answer)
    × (next ≡ entry ∷ with_large (place_named round.body) whole (dropped_before_large (place_named round.body) dropped d.responder))
    × (is_untouched (place_named round.body) (begun_with (place_named round.body) whole d.responder) d.responder ≡ true)

-- What an answer may lead to: the responder's history after it, and the bytes that stand for the large response in
-- progress. Of LargeResponse again it is the requester that tells whether it begins a fetch.
unfoldable pub Answers : RspSetup → Dialogue → Round → List ℕ → History → Option (List ℕ) → Type 0
Answers r d round answer next fetching =
    (AnswersPlainly r d round answer next × (fetching ≡ d.fetching))
    ⊎ (((whole : List ℕ) × AnswersLarge r d round answer next whole × (fetching ≡ Some whole))
    ⊎ (((whole : List ℕ) × AnswersAgain r d round answer next whole × (fetching ≡ Some whole))
    ⊎ (Completes r d round answer next × (fetching ≡ None))))

-- ---- The requester's side of an answer.

-- It takes an answer while its request is outstanding, under some allowed values; else nothing changes for it. A chunk
-- of a large request, but for the last one, was acknowledged.
abbrev pub HearsWhile : Option (List ℕ) → Dialogue → ℕ → List ℕ → requester_history.History → Type 0
HearsWhile None d tag answer next =
    (outcome : asking.Outcome) × MayHear d.setup d.requester false tag answer no_draw outcome × (next ≡ shown.after d.requester outcome)
HearsWhile (Some whole) d tag answer next = next ≡ with_ack whole tag (drop 1 answer) d.requester

-- What an answer leads to: the requester's history after it.
unfoldable pub Hears : Dialogue → ℕ → List ℕ → requester_history.History → Type 0
Hears d tag answer next = HearsWhile d.sending d tag answer next
