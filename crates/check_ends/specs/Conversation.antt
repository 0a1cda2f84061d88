-- What is kept of a requester and the responder at any place but while a large response is fetched, and what is
-- reported of a request and of an answer there, in words of packets and of walks over them. This project's own.
use Rattle.std.specs.Prelude.{◌≡◌, ◌≢◌, ◌<◌, ◌+◌, ◌⊎◌, ℕ, List, ◌∷◌, length, false, true, Option, Some, None, Result, Ok, Err}
use Rattle.mctp_framing.specs.Cutting.{RouteFields}
use Rattle.mctp_framing.specs.Gathering.{Gathered}
use Rattle.mctp_framing.specs.Gathering.Gathered.{Whole, More}
use Rattle.mctp_framing.specs.Packet.{PacketFields, parsed}
use Rattle.requester_machine.specs.Setup.{ReqSetup}
use Rattle.spdm_grammar.specs.declared.told.why.Why as declared
use Rattle.check_ends.specs.Party.{IsParty}
use Rattle.check_ends.specs.PartyReplies.{IsAskedUpon, IsPartOfLarge}
use Rattle.check_laws.specs.Judged.{AreApart, why_of}
use Rattle.check_laws.specs.Keeping.{Keeps, Kept}
use Rattle.check_laws.specs.KeptRows.{Show}
use Rattle.check_laws.specs.Order.{is_answer, is_request}
use Rattle.check_laws.specs.ReasonsEach.{IsAnsweredReason, IsAskedReason, IsOneOf}
use Rattle.check_laws.specs.Rows.{StandsForRows}
use Rattle.check_laws.specs.Walks.{Walks}
use Rattle.check_laws.specs.declared.verdict.Seen.{Seen}
use Rattle.check_ends.specs.declared.conversation.Conversation.{Conversation}
use Rattle.check_ends.specs.declared.continuation.Continuation.{Continuation}
use Rattle.check_ends.specs.declared.continuation.Continuation.TheVariants as onward
use Rattle.check_ends.specs.declared.party.Party.{Party}
use Rattle.check_laws.specs.Large.LargeRequests as large_requests
use Rattle.check_laws.specs.Large.Sending.{IsSendingOf, Sending}
use Rattle.check_laws.specs.Large.SendingLaws.{BeginsSending}
use Rattle.check_laws.specs.declared.sending_large.large_request.LargeRequest.{LargeRequest}
use Rattle.spdm_machine.specs.Packets.{gathered_from}
use Rattle.capture_machine.specs.Rounds.{Dialogue}
use Rattle.capture_machine.specs.SessionTable.{Row, rows_between}
use Rattle.world_machine.specs.Setup.{Configuration}

-- ---- What is kept.

-- While a large request is sent the two ends are kept as they were before its first chunk, but for what the responder
-- took since, and the last round.
abbrev pub meanwhile : Sending → Kept
meanwhile s = record s.before { responder = s.responder; round = Some s.round }

-- A large request is in progress after the packets, and this is kept of it, and of the two ends. What was kept before
-- its first chunk was so of fewer packets.
pub record IsUnderWay (seen : Party) (large : LargeRequest) (w : Configuration) (q : ReqSetup) (older : List (List ℕ)) (rows : List Row) (s : Sending) : Type 0 where
  pub sending : IsSendingOf w q older s
  pub chunks : large_requests.StandsFor large s
  pub kept : IsParty seen w q (meanwhile s) rows
  pub earlier : List (List ℕ)
  pub before : Keeps w q earlier s.before
  pub fewer : length earlier < length older

-- It is kept of the packets, among the rows that they show: no large request is in progress after them, or this one is.
abbrev pub StandsAs : Party → Option LargeRequest → Configuration → ReqSetup → (older : List (List ℕ)) → List Row → Type 0
StandsAs party None w q older rows = (k : Kept) × Keeps w q older k × IsParty party w q k rows
StandsAs party (Some large) w q older rows = (s : Sending) × IsUnderWay party large w q older rows s

abbrev pub StandsFor : Conversation → Configuration → ReqSetup → (older : List (List ℕ)) → List Row → Type 0
StandsFor seen w q older rows = StandsAs seen.party seen.large w q older rows

-- ---- A packet that goes on.

-- The packet goes on in a walk, and it is kept of the packets with this one in front, among the rows that the packet makes
-- there; so is the table.
pub record StandsBehind (party : Party) (large : Option LargeRequest) (table : List Seen) (w : Configuration) (q : ReqSetup) (older : List (List ℕ)) (rows : List Row) (packet : List ℕ) : Type 0 where
  pub before : Dialogue
  pub came : Walks w q older before
  pub after : Dialogue
  pub goes : Walks w q (packet ∷ older) after
  pub stands : StandsAs party large w q (packet ∷ older) (rows_between before after rows)
  pub entries : StandsForRows table w (length older + 1) (rows_between before after rows)

-- These are the rows that the packets then show: those that the packet makes in any walk.
abbrev pub WalksShow : Type 0
WalksShow = (w : Configuration) (q : ReqSetup) (older : List (List ℕ)) (packet : List ℕ) (p : PacketFields) (before after : Dialogue) (rows : List Row)
    → AreApart w.responder.eid w.requesters → IsOneOf w q → parsed packet ≡ Ok p
    → (is_request w.responder.eid q.eid p ≡ true) ⊎ (is_answer w.responder.eid q.eid p ≡ true)
    → Walks w q older before → Walks w q (packet ∷ older) after
    → Show w older rows → Show w (packet ∷ older) (rows_between before after rows)

-- A packet between the responder and another requester leaves it, among the rows that it makes.
abbrev pub OtherConversationsStay : Type 0
OtherConversationsStay = (seen : Conversation) (w : Configuration) (q : ReqSetup) (older : List (List ℕ)) (packet : List ℕ) (p : PacketFields) (before after : Dialogue) (rows : List Row)
    → q.eid ≢ after.setup.eid → parsed packet ≡ Ok p
    → is_request w.responder.eid q.eid p ≡ false → is_answer w.responder.eid q.eid p ≡ false
    → StandsFor seen w q older rows → StandsFor seen w q (packet ∷ older) (rows_between before after rows)

-- A packet of this requester, or for it, after which more of a body is awaited, leaves it, and the rows too. The
-- heartbeat period is a byte.
abbrev pub AwaitingConversationsStay : Type 0
AwaitingConversationsStay = (seen : Conversation) (w : Configuration) (q : ReqSetup) (older : List (List ℕ)) (packet : List ℕ) (p : PacketFields) (rows : List Row)
    → w.responder.beat < 256 → parsed packet ≡ Ok p
    → ((is_request w.responder.eid q.eid p ≡ true) × (gathered_from w.responder.eid q.eid older p ≡ More))
    ⊎ ((is_request w.responder.eid q.eid p ≡ false) × (is_answer w.responder.eid q.eid p ≡ true) × (gathered_from q.eid w.responder.eid older p ≡ More))
    → StandsFor seen w q older rows → StandsFor seen w q (packet ∷ older) rows

-- ---- A packet that does not.

abbrev pub NoneGoesOn : Configuration → ReqSetup → List (List ℕ) → (packet : List ℕ) → Type 0
NoneGoesOn w q older packet = (d : Dialogue) → Walks w q (packet ∷ older) d → ⊥

-- ---- What is told.

-- The packet comes from the requester and completes this request, in order.
pub record IsRequest (w : Configuration) (q : ReqSetup) (older : List (List ℕ)) (packet : List ℕ) (route : RouteFields) (body : List ℕ) : Type 0 where
  pub fields : PacketFields
  pub parses : parsed packet ≡ Ok fields
  pub comes : is_request w.responder.eid q.eid fields ≡ true
  pub whole : gathered_from w.responder.eid q.eid older fields ≡ Whole route body

-- The packet goes to the requester and completes this answer, in order.
pub record IsAnswer (w : Configuration) (q : ReqSetup) (older : List (List ℕ)) (packet : List ℕ) (route : RouteFields) (answer : List ℕ) : Type 0 where
  pub fields : PacketFields
  pub parses : parsed packet ≡ Ok fields
  pub other : is_request w.responder.eid q.eid fields ≡ false
  pub goes : is_answer w.responder.eid q.eid fields ≡ true
  pub whole : gathered_from q.eid w.responder.eid older fields ≡ Whole route answer

-- A request begins this large one, or none.
abbrev pub IsBeginning : Kept → RouteFields → (body : List ℕ) → Option LargeRequest → Type 0
IsBeginning k route body (Some large) = (next : Sending) × BeginsSending k (Whole route body) next × large_requests.StandsFor large next
IsBeginning k route body None = (next : Sending) → BeginsSending k (Whole route body) next → ⊥

-- Of a request: it goes on, or no walk goes on with it, and then why.
abbrev pub IsJudgedRequest : Configuration → ReqSetup → List (List ℕ) → List Row → (packet : List ℕ) → Gathered
    → Result (Option LargeRequest) declared.Why → (party : Party) → (table : List Seen) → Type 0
IsJudgedRequest w q older rows packet g (Ok large) party table = StandsBehind party large table w q older rows packet
IsJudgedRequest w q older rows packet g (Err why) party table = NoneGoesOn w q older packet × IsAskedReason w q older g (why_of why)

-- The same of the whole.
abbrev pub IsAskedOf : Configuration → ReqSetup → List (List ℕ) → List Row → (packet : List ℕ) → Gathered
    → Result Unit declared.Why → (new : Conversation) → (table : List Seen) → Type 0
IsAskedOf w q older rows packet g (Ok u) new table = StandsBehind new.party new.large table w q older rows packet
IsAskedOf w q older rows packet g (Err why) new table = NoneGoesOn w q older packet × IsAskedReason w q older g (why_of why)

-- An answer is a part of a large one, by what is kept of the packets, while no large request is sent.
abbrev pub IsPart : Configuration → ReqSetup → List (List ℕ) → ℕ → (answer : List ℕ) → Type 0
IsPart w q older tag answer = (k : Kept) × Keeps w q older k × IsPartOfLarge w k tag answer

-- The requester asks for a chunk on an answer that goes whole, by what is kept of the packets.
abbrev pub IsAsked : Configuration → ReqSetup → List (List ℕ) → ℕ → (answer : List ℕ) → Type 0
IsAsked w q older tag answer = (k : Kept) × Keeps w q older k × IsAskedUpon w k tag answer

-- Of an answer: it goes on, or it is a part of a large one, of which nothing more is said; or the requester asks for a
-- chunk in response to it, and why it is refused where no walk goes on with it; or no walk does, and then why.
abbrev pub IsJudgedAnswer : Configuration → ReqSetup → List (List ℕ) → List Row → (packet : List ℕ) → RouteFields → (answer : List ℕ)
    → Result Continuation declared.Why → (party : Party) → (large : Option LargeRequest) → (table : List Seen) → Type 0
IsJudgedAnswer w q older rows packet route answer (Ok onward.Kept) party large table = StandsBehind party large table w q older rows packet
IsJudgedAnswer w q older rows packet route answer (Ok onward.Large) party large table = IsPart w q older route.tag answer
IsJudgedAnswer w q older rows packet route answer (Ok (onward.Asked why)) party large table =
    IsAsked w q older route.tag answer × IsAnsweredReason w q older (Whole route answer) (why_of why)
IsJudgedAnswer w q older rows packet route answer (Err why) party large table =
    NoneGoesOn w q older packet × IsAnsweredReason w q older (Whole route answer) (why_of why)
