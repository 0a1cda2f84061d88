-- What is kept of a requester and the responder at any place, also while a large response is fetched, and what is
-- reported of a request and of an answer there, in words of packets and of walks over them. This project's own.
use Rattle.std.specs.Prelude.{◌≡◌, ◌≢◌, ◌<◌, ◌+◌, ◌⊎◌, ℕ, List, ◌∷◌, drop, length, false, true, Option, Some, None, IsSome, Result, Ok, Err}
use Rattle.mctp_framing.specs.Cutting.{RouteFields}
use Rattle.mctp_framing.specs.Gathering.{Gathered}
use Rattle.mctp_framing.specs.Gathering.Gathered.{Whole, More}
use Rattle.mctp_framing.specs.Packet.{PacketFields, parsed}
use Rattle.requester_machine.specs.Setup.{ReqSetup}
use Rattle.spdm_grammar.specs.declared.told.why.Why as declared
use Rattle.check_ends.specs.Conversation as conversations
use Rattle.check_ends.specs.Conversation.{NoneGoesOn}
use Rattle.check_requester.specs.HeardKept.{asks_upon}
use Rattle.check_ends.specs.declared.conversation.Conversation.{Conversation}
use Rattle.check_ends.specs.declared.party.Party.{Party}
use Rattle.check_ends.specs.declared.continuation.Continuation.{Continuation}
use Rattle.check_ends.specs.declared.continuation.Continuation.TheVariants as onward
use Rattle.check_laws.specs.DropsShown.{IsShownAnswer, id_begun, response_of}
use Rattle.check_laws.specs.Judged.{why_of}
use Rattle.check_laws.specs.Keeping.{Keeps, Kept}
use Rattle.check_laws.specs.Order.{is_answer, is_request}
use Rattle.check_laws.specs.ReasonsEach.{IsAnsweredReason, IsAskedReason}
use Rattle.check_laws.specs.RepliesShown.{AnswersRound, responder_for}
use Rattle.check_laws.specs.Rows.{StandsForRows}
use Rattle.check_laws.specs.Walks.{Walks}
use Rattle.check_laws.specs.declared.verdict.Seen.{Seen}
use Rattle.check_fetched_ends.specs.Held.{IsHeldIn}
use Rattle.check_fetched_ends.specs.InSession.{IsFetchedIn}
use Rattle.check_fetched_ends.specs.declared.fetch.Fetch.{Fetch}
use Rattle.check_fetched_ends.specs.declared.fetch.Fetch.TheVariants as fetch
use Rattle.check_fetched_ends.specs.declared.judged_ends.JudgedEnds.{JudgedEnds}
use Rattle.check_late_laws.specs.Fetching.{Fetching, IsFetchingOf}
use Rattle.spdm_machine.specs.Packets.{gathered_from}
use Rattle.capture_machine.specs.Rounds.{Dialogue, Round}
use Rattle.capture_machine.specs.SessionTable.{Row, rows_between}
use Rattle.world_machine.specs.Setup.{Configuration}

-- ---- What is kept.

-- This is kept of a large response that is fetched, in a session or in the clear.
abbrev pub IsFetched : Party → Fetch → Configuration → ReqSetup → Fetching → List Row → Type 0
IsFetched party (fetch.InSession fetched) w q f rows = IsFetchedIn party fetched w q f rows
IsFetched party (fetch.InClear held) w q f rows = IsHeldIn party held w q f rows

-- It is kept of the packets, among the rows that they show: no large response is fetched after them, or this one is.
abbrev pub StandsAs : Conversation → Option Fetch → Configuration → ReqSetup → (older : List (List ℕ)) → List Row → Type 0
StandsAs talk None w q older rows = conversations.StandsFor talk w q older rows
StandsAs talk (Some fetched) w q older rows =
    (talk.large ≡ None) × ((f : Fetching) × IsFetchingOf w q older f × IsFetched talk.party fetched w q f rows)

abbrev pub StandsFor : JudgedEnds → Configuration → ReqSetup → (older : List (List ℕ)) → List Row → Type 0
StandsFor seen w q older rows = StandsAs seen.talk seen.fetched w q older rows

-- ---- A packet that goes on.

-- The packet goes on in a walk, and it is kept of the packets with this one in front, among the rows that the packet makes
-- there; so is the table.
pub record StandsBehind (new : JudgedEnds) (table : List Seen) (w : Configuration) (q : ReqSetup) (older : List (List ℕ)) (rows : List Row) (packet : List ℕ) : Type 0 where
  pub before : Dialogue
  pub came : Walks w q older before
  pub after : Dialogue
  pub goes : Walks w q (packet ∷ older) after
  pub stands : StandsFor new w q (packet ∷ older) (rows_between before after rows)
  pub entries : StandsForRows table w (length older + 1) (rows_between before after rows)

-- A packet between the responder and another requester leaves it, among the rows that it makes.
abbrev pub OtherEndsStay : Type 0
OtherEndsStay = (seen : JudgedEnds) (w : Configuration) (q : ReqSetup) (older : List (List ℕ)) (packet : List ℕ) (p : PacketFields) (before after : Dialogue) (rows : List Row)
    → q.eid ≢ after.setup.eid → parsed packet ≡ Ok p
    → is_request w.responder.eid q.eid p ≡ false → is_answer w.responder.eid q.eid p ≡ false
    → StandsFor seen w q older rows → StandsFor seen w q (packet ∷ older) (rows_between before after rows)

-- A packet of this requester, or for it, after which more of a body is awaited, leaves it, and the rows too. The
-- heartbeat period is a byte.
abbrev pub AwaitingEndsStay : Type 0
AwaitingEndsStay = (seen : JudgedEnds) (w : Configuration) (q : ReqSetup) (older : List (List ℕ)) (packet : List ℕ) (p : PacketFields) (rows : List Row)
    → w.responder.beat < 256 → parsed packet ≡ Ok p
    → ((is_request w.responder.eid q.eid p ≡ true) × (gathered_from w.responder.eid q.eid older p ≡ More))
    ⊎ ((is_request w.responder.eid q.eid p ≡ false) × (is_answer w.responder.eid q.eid p ≡ true) × (gathered_from q.eid w.responder.eid older p ≡ More))
    → StandsFor seen w q older rows → StandsFor seen w q (packet ∷ older) rows

-- ---- What is told.

-- Of a request: it goes on, or no walk goes on with it, and then why.
abbrev pub IsAskedOf : Configuration → ReqSetup → List (List ℕ) → List Row → (packet : List ℕ) → Gathered
    → Result Unit declared.Why → (new : JudgedEnds) → (table : List Seen) → Type 0
IsAskedOf w q older rows packet g (Ok u) new table = StandsBehind new table w q older rows packet
IsAskedOf w q older rows packet g (Err why) new table = NoneGoesOn w q older packet × IsAskedReason w q older g (why_of why)

-- While nothing is fetched, what is left unjudged: an answer that goes whole by what it shows, in response to which the
-- requester asks for a chunk. A fetch begins by it where it is LargeResponse again.
abbrev pub IsLeft : Configuration → Kept → ℕ → (answer : List ℕ) → Type 0
IsLeft w k tag answer =
    (round : Round) × AnswersRound k tag round
    × IsShownAnswer (responder_for w k) k.responder round.tag round.body answer
    × (asks_upon k tag answer ≡ true)

-- An answer is left unjudged so, by what is kept of the packets while nothing is fetched and no large request is sent.
abbrev pub IsPart : Configuration → ReqSetup → List (List ℕ) → ℕ → (answer : List ℕ) → Type 0
IsPart w q older tag answer = (k : Kept) × Keeps w q older k × IsLeft w k tag answer

-- Of an answer: it goes on, or it is left unjudged so, and why it is refused where no walk goes on with it; or no walk
-- does, and then why. None is a part of a large response that is left.
abbrev pub IsJudgedAnswer : Configuration → ReqSetup → List (List ℕ) → List Row → (packet : List ℕ) → RouteFields → (answer : List ℕ)
    → Result Continuation declared.Why → (new : JudgedEnds) → (table : List Seen) → Type 0
IsJudgedAnswer w q older rows packet route answer (Ok onward.Kept) new table = StandsBehind new table w q older rows packet
IsJudgedAnswer w q older rows packet route answer (Ok onward.Large) new table = ⊥
IsJudgedAnswer w q older rows packet route answer (Ok (onward.Asked why)) new table =
    IsPart w q older route.tag answer × IsAnsweredReason w q older (Whole route answer) (why_of why)
IsJudgedAnswer w q older rows packet route answer (Err why) new table =
    NoneGoesOn w q older packet × IsAnsweredReason w q older (Whole route answer) (why_of why)

-- An answer may begin a session, by what it shows; or it may be the last chunk of one that is fetched in the clear.
abbrev pub MayBegin : Option Fetch → (answer : List ℕ) → Type 0
MayBegin (Some (fetch.InClear held)) answer = Unit {0}
MayBegin _ answer = IsSome (id_begun (response_of (drop 1 answer)))
