-- Which requests and answers go on while a large request is sent in chunks. This project's own.
use Rattle.std.specs.Prelude.{◌≡◌, ◌<◌, ◌+◌, ◌-◌, ◌⊎◌, ◌↔◌, ℕ, List, [], ◌∷◌, drop, length, take, true, false, Option, Some, None, Ok}
use Rattle.chunking.specs.Cutting.{chunk_end, nth_chunk}
use Rattle.mctp_framing.specs.Gathering.{Gathered}
use Rattle.mctp_framing.specs.Gathering.Gathered.{Whole, More, Dropped}
use Rattle.mctp_framing.specs.Packet.{PacketFields, parsed}
use Rattle.requester_machine.specs.History.{History, begins_large, next_handle}
use Rattle.requester_machine.specs.May.{IsSetUp}
use Rattle.requester_machine.specs.Message.{Sent, asked_in}
use Rattle.requester_machine.specs.Message.Command.{Connect}
use Rattle.requester_machine.specs.Owed.{with_next}
use Rattle.requester_machine.specs.Setup.{ReqSetup}
use Rattle.responder_machine.specs.History as responder_history
use Rattle.responder_machine.specs.Setup.{towards}
use Rattle.spdm_grammar.specs.Message.{RequestMessage}
use Rattle.spdm_grammar.specs.Message.RequestMessage.{ChunkSend, GetVersion}
use Rattle.spdm_grammar.specs.Requests.{canonical_request}
use Rattle.spdm_machine.specs.Bodies.{clear_body}
use Rattle.spdm_machine.specs.Packets.{gathered_from}
use Rattle.check_laws.specs.Keeping.{Keeps, Kept}
use Rattle.check_laws.specs.Order.{is_answer, is_request}
use Rattle.check_laws.specs.Walks.{Walks}
use Rattle.capture_machine.specs.Capture.{IsBody, may_begin}
use Rattle.capture_machine.specs.CapturedAnswers.{Answers}
use Rattle.capture_machine.specs.CapturedRequests.{Tells}
use Rattle.capture_machine.specs.Difference.{ComesApart, GoesApart, comes_why, goes_why}
use Rattle.capture_machine.specs.LargeRequests.{IsLargeRequest, common_of}
use Rattle.capture_machine.specs.Rounds.{Dialogue, following_tag, new_round}
use Rattle.world_machine.specs.Setup.{Configuration, known_of}
use Rattle.check_laws.specs.Large.Sending.{Ack, Beginning, IsSendingOf, MayBegin, MaySend, MayStand, Sending, asked_of, chunk_body, is_last, number_of, requester_of, transfer_of}
use Rattle.check_laws.specs.Large.Sending.Beginning.{ByItself}

-- ---- The first chunk.

-- The body of CHUNK_SEND with the first chunk of these bytes.
abbrev pub first_body : Kept → (whole : List ℕ) → List ℕ
first_body k whole = clear_body (canonical_request (ChunkSend (nth_chunk (common_of k.requester).to_responder.transfer (next_handle k.requester) whole 0)))

-- What is kept after it.
abbrev pub begun_sending : Kept → ℕ → (body whole : List ℕ) → Sending
begun_sending k tag body whole = record {
  before = k;
  size = length whole;
  bytes = take (chunk_end (common_of k.requester).to_responder.transfer 0) whole;
  acks = [];
  due = None;
  responder = k.responder;
  round = new_round tag body;
}

-- It begins a round where a large request may be begun, and is cut from bytes of a length that is sent in chunks.
abbrev pub BeginsSending : Kept → Gathered → Sending → Type 0
BeginsSending k (Whole route body) next =
    IsBody body × (route.owner ≡ true) × (may_begin k.round body ≡ true) × (route.tag ≡ following_tag k.round)
    × ((b : Beginning) × (whole : List ℕ) × MayBegin k b × IsLargeRequest (common_of k.requester) whole
    × (first_body k whole ≡ body) × (next ≡ begun_sending k route.tag body whole))
BeginsSending k _ next = ⊥

-- It is kept after it.
abbrev pub SendingBegins : Type 0
SendingBegins = (w : Configuration) (q : ReqSetup) (older : List (List ℕ)) (packet : List ℕ) (p : PacketFields) (k : Kept) (next : Sending)
    → parsed packet ≡ Ok p → is_request w.responder.eid q.eid p ≡ true
    → Keeps w q older k → BeginsSending k (gathered_from w.responder.eid q.eid older p) next → IsSendingOf w q (packet ∷ older) next

-- Where some walk goes on with a packet and a large request is in progress after it, it begins one from what is kept.
abbrev pub BegunIsSending : Type 0
BegunIsSending = (w : Configuration) (q : ReqSetup) (older : List (List ℕ)) (packet : List ℕ) (p : PacketFields) (k : Kept) (d : Dialogue) (whole : List ℕ)
    → parsed packet ≡ Ok p → is_request w.responder.eid q.eid p ≡ true
    → Keeps w q older k → Walks w q (packet ∷ older) d → d.sending ≡ Some whole
    → (next : Sending) × BeginsSending k (gathered_from w.responder.eid q.eid older p) next

-- A message that is owed and is a first chunk may begin one.
abbrev pub OwedMayBegin : Type 0
OwedMayBegin = (w : Configuration) (q : ReqSetup) (older : List (List ℕ)) (k : Kept) (sent : Sent) (asked : RequestMessage)
    → Keeps w q older k → k.owed ≡ Some sent → begins_large sent.aim ≡ true → asked_in sent.aim ≡ Some asked → MayBegin k (ByItself asked)

-- After no packets both a large request is in progress and none is.
abbrev pub SendingIsAlone : Type 0
SendingIsAlone = (w : Configuration) (q : ReqSetup) (older : List (List ℕ)) (s : Sending) (k : Kept) → IsSendingOf w q older s → Keeps w q older k → ⊥

-- ---- A request.

-- A copy of the last round's request.
abbrev pub CopiesSending : Sending → ℕ → List ℕ → Sending → Type 0
CopiesSending s tag body next =
    (s.round.tag ≡ tag) × (s.round.body ≡ body) × (next ≡ record s { round = record s.round { waiting = s.round.waiting + 1 } })

-- The next chunk, where it is owed, but for the last one.
abbrev pub NextSending : Sending → ℕ → List ℕ → Sending → Type 0
NextSending s tag body next =
    (may_begin (Some s.round) body ≡ true) × (tag ≡ following_tag (Some s.round))
    × ((ack : Ack) × (whole : List ℕ) × (s.due ≡ Some ack) × MayStand s whole
    × (chunk_body s whole (number_of s + 1) ≡ body)
    × (is_last s (number_of s + 1) ≡ false)
    × (next ≡ record s {
      bytes = take (chunk_end (transfer_of s) (number_of s + 1)) whole;
      acks = ack ∷ s.acks;
      due = None;
      round = new_round tag body;
    }))

-- What a packet from the requester makes of what is kept, where the large request stays in progress.
abbrev pub AsksSending : Sending → Gathered → Sending → Type 0
AsksSending s (Whole route body) next = IsBody body × (route.owner ≡ true) × (CopiesSending s route.tag body next ⊎ NextSending s route.tag body next)
AsksSending s More next = next ≡ s
AsksSending s (Dropped cause) next = ⊥

-- After the last chunk, and after GET_VERSION, nothing large is in progress.
abbrev pub whole_kept : Sending → History → ℕ → List ℕ → Kept
whole_kept s h tag body = record { setup = s.before.setup; requester = h; owed = None; responder = s.responder; round = Some (new_round tag body) }

-- The last chunk, with which all bytes encode the request that is asked, and that may be sent.
abbrev pub LastSending : Sending → ℕ → List ℕ → Kept → Type 0
LastSending s tag body next =
    (may_begin (Some s.round) body ≡ true) × (tag ≡ following_tag (Some s.round))
    × ((ack : Ack) × (b : Beginning) × (whole : List ℕ) × (s.due ≡ Some ack) × MayBegin s.before b × MayStand s whole
    × (chunk_body s whole (number_of s + 1) ≡ body)
    × (is_last s (number_of s + 1) ≡ true)
    × (whole ≡ canonical_request (asked_of b))
    × MaySend s.before b whole
    × (next ≡ whole_kept s (requester_of s b whole) tag body))

-- The history without a chunk that is owed.
abbrev pub without_due : Sending → Beginning → (whole : List ℕ) → History
without_due s b whole = with_last s.due (requester_of s b whole)
  where
    with_last : Option Ack → History → History
    with_last None h = h
    with_last (Some ack) h = with_next None h

-- GET_VERSION, at any place. The large request stays in the history as far as it was sent.
abbrev pub ConnectsSending : Sending → ℕ → List ℕ → Kept → Type 0
ConnectsSending s tag body next =
    (may_begin (Some s.round) body ≡ true) × (tag ≡ following_tag (Some s.round))
    × ((b : Beginning) × (whole : List ℕ) × (after : History) × MayBegin s.before b × MayStand s whole
    × Tells s.before.setup (without_due s b whole) Connect body after
    × (next ≡ whole_kept s after tag body))

-- What a packet from the requester makes of what is kept, where the large request ends.
abbrev pub AsksEnding : Sending → Gathered → Kept → Type 0
AsksEnding s (Whole route body) next = IsBody body × (route.owner ≡ true) × (LastSending s route.tag body next ⊎ ConnectsSending s route.tag body next)
AsksEnding s _ next = ⊥

-- It is kept after it, in the first case and in the second.
abbrev pub SendingAsks : Type 0
SendingAsks = (w : Configuration) (q : ReqSetup) (older : List (List ℕ)) (packet : List ℕ) (p : PacketFields) (s next : Sending)
    → parsed packet ≡ Ok p → is_request w.responder.eid q.eid p ≡ true
    → IsSendingOf w q older s → AsksSending s (gathered_from w.responder.eid q.eid older p) next → IsSendingOf w q (packet ∷ older) next

abbrev pub SendingEnds : Type 0
SendingEnds = (w : Configuration) (q : ReqSetup) (older : List (List ℕ)) (packet : List ℕ) (p : PacketFields) (s : Sending) (next : Kept)
    → parsed packet ≡ Ok p → is_request w.responder.eid q.eid p ≡ true
    → IsSendingOf w q older s → AsksEnding s (gathered_from w.responder.eid q.eid older p) next → Keeps w q (packet ∷ older) next

-- Where some walk goes on with a packet from the requester, it makes something of what is kept. The setup is within its
-- limits.
abbrev pub SendingIsAsked : Type 0
SendingIsAsked = (w : Configuration) (q : ReqSetup) (older : List (List ℕ)) (packet : List ℕ) (p : PacketFields) (s : Sending) (d : Dialogue)
    → IsSetUp q → parsed packet ≡ Ok p → is_request w.responder.eid q.eid p ≡ true
    → IsSendingOf w q older s → Walks w q (packet ∷ older) d
    → ((next : Sending) × AsksSending s (gathered_from w.responder.eid q.eid older p) next)
    ⊎ ((next : Kept) × AsksEnding s (gathered_from w.responder.eid q.eid older p) next)

-- GET_VERSION ends it at any place, and nothing else does so in its place. The setup is within its limits.
abbrev pub SendingConnects : Type 0
SendingConnects = (w : Configuration) (q : ReqSetup) (older : List (List ℕ)) (s : Sending) (tag : ℕ) (body : List ℕ) → IsSetUp q → IsSendingOf w q older s
    → ((next : Kept) × ConnectsSending s tag body next)
    ↔ ((may_begin (Some s.round) body ≡ true) × (tag ≡ following_tag (Some s.round)) × (body ≡ clear_body (canonical_request GetVersion)))

-- ---- An answer.

-- What is between the two ends but for the large request.
abbrev pub aside : Sending → Dialogue
aside s = record {
  setup = s.before.setup;
  requester = s.before.requester;
  responder = s.responder;
  round = Some s.round;
  sending = None;
  fetching = None;
}

-- A message that comes while no chunk is owed is taken for the acknowledgement of the last one.
abbrev pub with_ack_due : Option Ack → ℕ → (answer : List ℕ) → Option Ack
with_ack_due None tag answer = Some (record { tag = tag; message = drop 1 answer })
with_ack_due (Some ack) tag answer = Some ack

-- What a packet for the requester makes of what is kept: the responder may answer so, whatever the bytes of the large
-- request are.
abbrev pub RepliesSending : Configuration → Sending → Gathered → Sending → Type 0
RepliesSending w s (Whole route body) next =
    IsBody body × (route.owner ≡ false) × (s.round.tag ≡ route.tag) × (0 < s.round.waiting)
    × ((h : responder_history.History) × (fetching : Option (List ℕ))
    × Answers (towards w.responder (known_of s.before.setup)) (aside s) s.round body h fetching
    × (next ≡ record s {
      due = with_ack_due s.due route.tag body;
      responder = h;
      round = record s.round { waiting = s.round.waiting - 1; answered = true };
    }))
RepliesSending w s More next = next ≡ s
RepliesSending w s (Dropped cause) next = ⊥

-- It is kept after it.
abbrev pub SendingReplies : Type 0
SendingReplies = (w : Configuration) (q : ReqSetup) (older : List (List ℕ)) (packet : List ℕ) (p : PacketFields) (s next : Sending)
    → parsed packet ≡ Ok p → is_request w.responder.eid q.eid p ≡ false → is_answer w.responder.eid q.eid p ≡ true
    → IsSendingOf w q older s → RepliesSending w s (gathered_from q.eid w.responder.eid older p) next → IsSendingOf w q (packet ∷ older) next

-- Where some walk goes on with a packet for the requester, it makes something of what is kept.
abbrev pub SendingIsReplied : Type 0
SendingIsReplied = (w : Configuration) (q : ReqSetup) (older : List (List ℕ)) (packet : List ℕ) (p : PacketFields) (s : Sending) (d : Dialogue)
    → parsed packet ≡ Ok p → is_request w.responder.eid q.eid p ≡ false → is_answer w.responder.eid q.eid p ≡ true
    → IsSendingOf w q older s → Walks w q (packet ∷ older) d
    → (next : Sending) × RepliesSending w s (gathered_from q.eid w.responder.eid older p) next

-- A packet between two other ends leaves it.
abbrev pub SendingStays : Type 0
SendingStays = (w : Configuration) (q : ReqSetup) (older : List (List ℕ)) (packet : List ℕ) (p : PacketFields) (s : Sending)
    → parsed packet ≡ Ok p → is_request w.responder.eid q.eid p ≡ false → is_answer w.responder.eid q.eid p ≡ false
    → IsSendingOf w q older s → IsSendingOf w q (packet ∷ older) s

-- ---- Reasons.

-- Each walk gives a refused request, and a refused answer, the reason that it has with the bytes so far.
abbrev pub SendingTellsWhy : Type 0
SendingTellsWhy = (w : Configuration) (q : ReqSetup) (older : List (List ℕ)) (s : Sending) (d : Dialogue) (g : Gathered)
    → IsSendingOf w q older s → Walks w q older d
    → (comes_why d g ≡ comes_why (aside s) g)
    × (goes_why (towards w.responder (known_of q)) d g ≡ goes_why (towards w.responder (known_of q)) (aside s) g)

-- The verify data of a request are not alone wrong, and those of an answer are where they are without the large request.
abbrev pub SendingTellsApart : Type 0
SendingTellsApart = (w : Configuration) (q : ReqSetup) (older : List (List ℕ)) (s : Sending) (d : Dialogue) (g : Gathered)
    → IsSendingOf w q older s → Walks w q older d
    → (ComesApart d g → ⊥)
    × (GoesApart (towards w.responder (known_of q)) d g ↔ GoesApart (towards w.responder (known_of q)) (aside s) g)
