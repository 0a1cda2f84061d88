-- A large response that is fetched in the clear, as the program represents it: the connection stands as before its
-- request, and what came since is held beside it. This project's own.
use Rattle.std.specs.Prelude.{◌≡◌, ◌≢◌, ◌≤◌, ◌<◌, ◌+◌, ◌++◌, ◌∷◌, ℕ, List, Option, Some, None, drop, length, slice_index, Bool, true, false, if◌then◌else◌, nat_lt}
use Rattle.check_responder.specs.AnswerKeys as answer_keys
use Rattle.check_requester.specs.JudgedRequester.{IsAsker}
use Rattle.check_ends.specs.Party.{IsBeside}
use Rattle.check_responder.specs.declared.answer_keys.AnswerKeys.{AnswerKeys}
use Rattle.check_responder.specs.declared.judged_responder.JudgedResponder.{JudgedResponder}
use Rattle.check_ends.specs.declared.party.Party.{Party}
use Rattle.check_laws.specs.Changes.{answered_in, views_in}
use Rattle.check_laws.specs.Keeping.{restored}
use Rattle.check_laws.specs.RepliesShown.{responder_for}
use Rattle.check_laws.specs.Rows.{StandFor, StandsForRows}
use Rattle.check_laws.specs.declared.verdict.Seen.{Seen}
use Rattle.chunking.specs.Cutting.{chunk_count, nth_chunk}
use Rattle.responder_core.specs.Connected as connected
use Rattle.check_fetched_laws.specs.ClearSessions.{AreGets, IsLeftBy, IsUnseenRequest}
use Rattle.check_fetched_ends.specs.Fetched.{rows_upon}
use Rattle.check_fetched_ends.specs.GetsHeld.{GiveAll}
use Rattle.check_fetched_ends.specs.InSession.{AreLengths, bytes_with, filled, size_with}
use Rattle.check_fetched_ends.specs.declared.clear_fetch.held.Held.{Held}
use Rattle.check_fetched_ends.specs.declared.clear_fetch.shown.Shown.{Shown}
use Rattle.check_fetched_ends.specs.declared.clear_fetch.shown.Shown.TheVariants as shown
use Rattle.check_late_laws.specs.Fetching.{Fetching}
use Rattle.check_late_laws.specs.LargeAnswers as large_answers
use Rattle.check_late_laws.specs.Late.Marking as marking
use Rattle.check_late_laws.specs.Late.Passed.{StandsBack}
use Rattle.check_late_laws.specs.Late.PassedLast.{IsFree, WasAnew}
use Rattle.check_late_laws.specs.declared.late_fetch.marks.Marks.{Marks}
use Rattle.requester_machine.specs.Setup.{ReqSetup}
use Rattle.responder_machine.specs.History.{Entry, History, clear_turns, kept_of, phase_of}
use Rattle.responder_machine.specs.History.Entry.{Clear}
use Rattle.responder_machine.specs.May.{with_dropped}
use Rattle.responder_machine.specs.Place.{clear_place, place_terms}
use Rattle.responder_machine.specs.Refusal.{sizes_are_known}
use Rattle.responder_machine.specs.Responder.Outcome.{Adds}
use Rattle.responder_machine.specs.Responder.{is_repeat, kept_reply}
use Rattle.responder_machine.specs.Setup.{RspSetup}
use Rattle.responder_machine.specs.Turn.{Turn}
use Rattle.spdm_grammar.specs.Message.{ChunkMessage}
use Rattle.spdm_grammar.specs.Message.ResponseMessage.{ChunkResponse}
use Rattle.spdm_grammar.specs.Responses.{canonical_response}
use Rattle.spdm_grammar.specs.declared.names.TheConstants.{MAX_MESSAGE_SIZE, MIN_DATA_TRANSFER_SIZE}
use Rattle.spdm_machine.specs.Bodies.{clear_body}
use Rattle.capture_machine.specs.CapturedAnswers.{MayLeadTo, request_in, tag_in}
use Rattle.capture_machine.specs.LargeAnswers.{is_large, unseen}
use Rattle.capture_machine.specs.Rounds.{no_draw}
use Rattle.capture_machine.specs.SessionTable.{Row, begun_count}
use Rattle.world_machine.specs.Setup.{Configuration}

-- ---- What is kept.

-- An entry is what its request led to with some bytes as its large response, after sessions were dropped, but for that
-- answer.
abbrev pub IsLedTo : RspSetup → (before : History) → Entry → Type 0
IsLedTo r before entry =
    (dropped : List ℕ) × (led : Entry) × MayLeadTo r (with_dropped before dropped) (tag_in entry) (request_in entry) (Adds led)
    × (is_large led ≡ true) × (unseen led ≡ entry)

-- A request passed before in this history, and its fetch begins late, by a repeat that comes after it: it stands
-- further back there, under another tag, and these are the marks of the sessions that were touched since.
pub record IsLate (marks : Marks) (tag : ℕ) (turn : Turn) (h : History) : Type 0 where
  pub back : StandsBack h
  pub same : back.turn ≡ turn
  pub free : IsFree back.turn
  pub anew : WasAnew h back
  pub other : tag ≢ back.tag
  pub stand : marking.StandsFor marks h

-- The responder's history is the one before a request, that request with its answer not seen, and the CHUNK_GETs that
-- came since; or, where the fetch began late, the CHUNK_GETs after the history at the repeat.
abbrev pub HasGets : Option Marks → (tag : ℕ) → Turn → (gets : List Entry) → (before h : History) → Type 0
HasGets None tag turn gets before h = h ≡ gets ++ Clear tag turn no_draw ∷ before
HasGets (Some marks) tag turn gets before h = IsLate marks tag turn before × (h ≡ gets ++ before)

-- The history is that. Where the fetch began late, the request is as if it came last, under the tag that is held. The
-- connection and the keys stand for what the request left of the sessions before it.
pub record StandsBefore (seen : JudgedResponder) (seen_keys : AnswerKeys) (held : Held) (r : RspSetup) (h : History) : Type 0 where
  pub gets : List Entry
  pub turn : Turn
  pub before : History
  pub left : History
  pub behind : HasGets held.late held.tag turn gets before h
  pub are : AreGets gets
  pub unseen : IsUnseenRequest (Clear held.tag turn no_draw)
  pub left_is : IsLeftBy (Clear held.tag turn no_draw) before left
  pub led : IsLedTo r before (Clear held.tag turn no_draw)
  pub sized : sizes_are_known (phase_of (clear_turns before)) ≡ true
  pub stands : connected.StandsFor seen.connection r left
  pub keys : answer_keys.StandFor seen_keys r left
  pub request : turn.message ≡ held.request
  pub reply : turn.reply ≡ held.reply
  pub newest : held.newest ≡ kept_of h

-- It is kept of what is fetched in the clear: what came of it, the lengths that are sent in chunks, and the requester's
-- transfer size, for which it is cut; and the CHUNK_GETs gave it from the first chunk on.
pub record IsHeldIn (party : Party) (held : Held) (w : Configuration) (q : ReqSetup) (f : Fetching) (rows : List Row) : Type 0 where
  pub beside : IsBeside party w q f.kept rows
  pub at : f.at ≡ None
  pub before : StandsBefore party.answerer party.keys held (responder_for w f.kept) f.kept.responder
  pub answer : large_answers.StandsFor held.answer f
  pub lengths : AreLengths f.place held.least held.most
  pub transfer : (place_terms (clear_place f.kept.responder)).common.to_requester.transfer ≡ held.transfer
  pub gave : GiveAll held.transfer f

-- ---- The bytes.

-- With those of a chunk they are of a told length that is sent in chunks, and are no longer.
pub record AreHeldFitting (held : Held) (message : List ℕ) : Type 0 where
  pub least : held.least ≤ size_with held.answer.number held.answer.size message
  pub most : size_with held.answer.number held.answer.size message ≤ held.most
  pub few : size_with held.answer.number held.answer.size message ≤ MAX_MESSAGE_SIZE
  pub within : length (bytes_with held.answer.number held.answer.bytes message) ≤ size_with held.answer.number held.answer.size message

-- The bytes so far, those of the chunk in an answer, and zeros up to the announced length.
abbrev pub filled_with : Held → (answer : List ℕ) → List ℕ
filled_with held answer = filled held.answer.number held.answer.size held.answer.bytes (drop 1 answer)

-- ---- An answer.

-- The chunk of these bytes that comes next, under the handle that CHUNK_GET in the clear asks for.
abbrev pub chunk_held : Held → (body whole : List ℕ) → ChunkMessage
chunk_held held body whole = nth_chunk held.transfer (slice_index body 4) whole held.answer.number

-- These bytes have that chunk, and it can be cut.
pub record CanBeCut (held : Held) (whole : List ℕ) : Type 0 where
  pub low : MIN_DATA_TRANSFER_SIZE ≤ held.transfer
  pub high : held.transfer ≤ MAX_MESSAGE_SIZE
  pub more : held.answer.number < chunk_count held.transfer whole

-- An answer is CHUNK_RESPONSE in the clear with this chunk.
abbrev pub IsResponse : ChunkMessage → (answer : List ℕ) → Type 0
IsResponse chunk answer = clear_body (canonical_response (ChunkResponse chunk)) ≡ answer

-- It is the next chunk of the bytes that it fills, and the last one or not.
pub record IsChunkHeld (held : Held) (body answer : List ℕ) (ends : Bool) : Type 0 where
  pub fits : AreHeldFitting held (drop 1 answer)
  pub chunk : IsResponse (chunk_held held body (filled_with held answer)) answer
  pub last : (chunk_held held body (filled_with held answer)).last ≡ ends

-- What an answer to CHUNK_GET is that is no repeat.
abbrev pub IsShownChunk : Held → (body answer : List ℕ) → Shown → Type 0
IsShownChunk held body answer shown.Same = ⊥
IsShownChunk held body answer shown.Between = IsChunkHeld held body answer false
IsShownChunk held body answer shown.Last = IsChunkHeld held body answer true
IsShownChunk held body answer shown.Other = AreHeldFitting held (drop 1 answer) → IsResponse (chunk_held held body (filled_with held answer)) answer → ⊥

-- The request is the newest one again.
abbrev pub repeats_held : Held → ℕ → (body : List ℕ) → Bool
repeats_held held tag body = is_repeat held.newest tag (drop 1 body)

-- What an answer is: to a repeat, the same answer again; to another request, a chunk.
abbrev pub IsShownHeld : Held → ℕ → (body answer : List ℕ) → Shown → Type 0
IsShownHeld held tag body answer shown.Same =
    (repeats_held held tag body ≡ true) × (clear_body (kept_reply held.newest) ≡ answer)
IsShownHeld held tag body answer shown.Other =
    (repeats_held held tag body ≡ true → clear_body (kept_reply held.newest) ≡ answer → ⊥)
    × (repeats_held held tag body ≡ false → IsShownChunk held body answer shown.Other)
IsShownHeld held tag body answer told = (repeats_held held tag body ≡ false) × IsShownChunk held body answer told

-- ---- An answer with which it is fetched on.

-- The responder's history after it: no session begins by it, none takes a record, and the same are shown.
pub record IsQuiet (h behind : History) : Type 0 where
  pub begun : begun_count behind ≡ begun_count h
  pub taken : (if nat_lt (length h) (length behind) then answered_in behind else None) ≡ None
  pub views : views_in behind ≡ views_in h

-- What it leaves of the party: the connection and the keys stay, and the rest stands for what is kept after it, and so
-- does the table.
pub record IsHeardHeld (old new : Party) (table : List Seen) (w : Configuration) (q : ReqSetup) (older : List (List ℕ)) (rows : List Row) (f next : Fetching) : Type 0 where
  pub asker : IsAsker new.asker q next.kept
  pub answerer : new.answerer ≡ old.answerer
  pub keys : new.keys ≡ old.keys
  pub number : new.number ≡ old.number
  pub places : StandFor new.places (restored next.kept) (rows_upon f.kept next.kept rows)
  pub stands : StandsForRows table w (length older + 1) (rows_upon f.kept next.kept rows)
