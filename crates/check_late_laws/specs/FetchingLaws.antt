-- Which requests and answers go on while a large response is fetched in chunks. This project's own.
use Rattle.std.specs.Prelude.{◌≡◌, ◌⊎◌, ◌↔◌, ℕ, List, [], ◌∷◌, true, false, Some, None, Ok}
use Rattle.mctp_framing.specs.Gathering.{Gathered}
use Rattle.mctp_framing.specs.Gathering.Gathered.{Whole, More, Dropped}
use Rattle.mctp_framing.specs.Packet.{PacketFields, parsed}
use Rattle.requester_machine.specs.History as requester_history
use Rattle.requester_machine.specs.Setup.{ReqSetup}
use Rattle.responder_machine.specs.History.{History}
use Rattle.responder_machine.specs.Place.{Place, clear_place}
use Rattle.responder_machine.specs.Setup.{RspSetup, towards}
use Rattle.spdm_machine.specs.Packets.{gathered_from}
use Rattle.check_laws.specs.Keeping.{AsksKept, Keeps, Kept, kept_of, restored}
use Rattle.check_laws.specs.Order.{is_answer, is_request}
use Rattle.check_laws.specs.RepliesShown.{AnswersRound, answered, responder_for}
use Rattle.check_laws.specs.Walks.{Walks}
use Rattle.capture_machine.specs.Capture.{IsBody, RepliesBy}
use Rattle.capture_machine.specs.CapturedAnswers.{AnswersAgain, AnswersLarge, AnswersPlainly, Hears}
use Rattle.capture_machine.specs.Difference.{ComesApart, GoesApart, comes_why, goes_why}
use Rattle.capture_machine.specs.LargeAnswers.{is_fetching, judging, place_again, place_named, place_of}
use Rattle.capture_machine.specs.Rounds.{Dialogue, Round}
use Rattle.world_machine.specs.Setup.{Configuration, known_of}
use Rattle.check_late_laws.specs.Fetching.{Fetching, IsFetchingOf, MayStand, dialogue_of, number_of}

-- ---- How one begins.

-- The place of the newest request, by whose sizes it was answered in this history.
abbrev pub place_in : History → History → Place
place_in judged [] = clear_place judged
place_in judged (entry ∷ older) = place_of judged entry

-- LargeResponse leads to this history of the responder, by the sizes of this place: it is a new one, or the same again.
abbrev pub AnswersFrom : RspSetup → Dialogue → Round → (answer : List ℕ) → History → Place → Type 0
AnswersFrom r d round answer h place =
    (((whole : List ℕ) × AnswersLarge r d round answer h whole) × (place ≡ place_in (judging d.fetching round.body d.responder) h))
    ⊎ (((whole : List ℕ) × AnswersAgain r d round answer h whole) × (place ≡ place_again (place_named round.body) h h))

-- What is kept of the two ends after an answer, with these histories.
abbrev pub kept_behind : Kept → Round → requester_history.History → History → Kept
kept_behind k round g h = kept_of (record (restored k) { requester = g; responder = h; round = Some (answered round) })

-- LargeResponse in response to which the requester asks for a chunk.
abbrev pub BeginsFetching : Configuration → Kept → Gathered → Fetching → Type 0
BeginsFetching w k (Whole route answer) next =
    IsBody answer × (route.owner ≡ false)
    × ((round : Round) × AnswersRound k route.tag round
    × ((h : History) × (place : Place) × AnswersFrom (responder_for w k) (restored k) round answer h place
    × ((g : requester_history.History) × Hears (restored k) route.tag answer g
    × (is_fetching (requester_history.outstanding g) ≡ true)
    × (next ≡ record { kept = kept_behind k round g h; at = place_named round.body; place = place }))))
BeginsFetching w k _ next = ⊥

-- It is kept after it, and no chunk came yet.
abbrev pub FetchingBegins : Type 0
FetchingBegins = (w : Configuration) (q : ReqSetup) (older : List (List ℕ)) (packet : List ℕ) (p : PacketFields) (k : Kept) (next : Fetching)
    → parsed packet ≡ Ok p → is_request w.responder.eid q.eid p ≡ false → is_answer w.responder.eid q.eid p ≡ true
    → Keeps w q older k → BeginsFetching w k (gathered_from q.eid w.responder.eid older p) next → IsFetchingOf w q (packet ∷ older) next × (number_of next ≡ 0)

-- Where some walk goes on with a packet and a large response is fetched after it, it begins one from what is kept.
abbrev pub BegunIsFetching : Type 0
BegunIsFetching = (w : Configuration) (q : ReqSetup) (older : List (List ℕ)) (packet : List ℕ) (p : PacketFields) (k : Kept) (d : Dialogue) (whole : List ℕ)
    → parsed packet ≡ Ok p → is_request w.responder.eid q.eid p ≡ false → is_answer w.responder.eid q.eid p ≡ true
    → Keeps w q older k → Walks w q (packet ∷ older) d → d.fetching ≡ Some whole
    → (next : Fetching) × BeginsFetching w k (gathered_from q.eid w.responder.eid older p) next

-- After no packets both a large response is fetched and none is. Nor is a large request in progress meanwhile.
abbrev pub FetchingIsAlone : Type 0
FetchingIsAlone = (w : Configuration) (q : ReqSetup) (older : List (List ℕ)) (f : Fetching) → IsFetchingOf w q older f
    → ((k : Kept) → Keeps w q older k → ⊥) × ((d : Dialogue) → Walks w q older d → d.sending ≡ None)

-- ---- A request.

-- What a packet from the requester makes of what is kept: a copy, the message that is owed, which asks for the next chunk,
-- and GET_VERSION. The answer is fetched until a further answer comes.
abbrev pub AsksFetching : Fetching → Gathered → Fetching → Type 0
AsksFetching f g next = (k : Kept) × AsksKept f.kept g k × (next ≡ record f { kept = k })

-- It is kept after it.
abbrev pub FetchingAsks : Type 0
FetchingAsks = (w : Configuration) (q : ReqSetup) (older : List (List ℕ)) (packet : List ℕ) (p : PacketFields) (f next : Fetching)
    → parsed packet ≡ Ok p → is_request w.responder.eid q.eid p ≡ true
    → IsFetchingOf w q older f → AsksFetching f (gathered_from w.responder.eid q.eid older p) next → IsFetchingOf w q (packet ∷ older) next

-- Where some walk goes on with a packet from the requester, it makes something of what is kept.
abbrev pub FetchingIsAsked : Type 0
FetchingIsAsked = (w : Configuration) (q : ReqSetup) (older : List (List ℕ)) (packet : List ℕ) (p : PacketFields) (f : Fetching) (d : Dialogue)
    → parsed packet ≡ Ok p → is_request w.responder.eid q.eid p ≡ true
    → IsFetchingOf w q older f → Walks w q (packet ∷ older) d
    → (next : Fetching) × AsksFetching f (gathered_from w.responder.eid q.eid older p) next

-- ---- An answer.

-- What an answer makes of what is kept, after which the same large response is fetched: a chunk, but for the last one,
-- or an answer that is none, in response to which the requester awaits the chunk still. It may be given with some bytes
-- that may stand.
abbrev pub GoesFetching : Configuration → Fetching → Gathered → Fetching → Type 0
GoesFetching w f (Whole route answer) next =
    IsBody answer × (route.owner ≡ false)
    × ((round : Round) × AnswersRound f.kept route.tag round
    × ((whole : List ℕ) × (h : History) × MayStand f whole × AnswersPlainly (responder_for w f.kept) (dialogue_of f whole) round answer h
    × ((g : requester_history.History) × Hears (dialogue_of f whole) route.tag answer g
    × (is_fetching (requester_history.outstanding g) ≡ true)
    × (next ≡ record f { kept = kept_behind f.kept round g h }))))
GoesFetching w f More next = next ≡ f
GoesFetching w f (Dropped cause) next = ⊥

-- Another LargeResponse in response to which the requester asks for a chunk: what was fetched is not fetched any more.
abbrev pub TurnsFetching : Configuration → Fetching → Gathered → Fetching → Type 0
TurnsFetching w f (Whole route answer) next =
    IsBody answer × (route.owner ≡ false)
    × ((round : Round) × AnswersRound f.kept route.tag round
    × ((whole : List ℕ) × (h : History) × (place : Place) × MayStand f whole × AnswersFrom (responder_for w f.kept) (dialogue_of f whole) round answer h place
    × ((g : requester_history.History) × Hears (dialogue_of f whole) route.tag answer g
    × (is_fetching (requester_history.outstanding g) ≡ true)
    × (next ≡ record { kept = kept_behind f.kept round g h; at = place_named round.body; place = place }))))
TurnsFetching w f _ next = ⊥

-- An answer that goes whole may be given with each bytes that may follow it, where it may be given with some, whatever
-- the requester does in response to it: so it is determined by any of them. They stood before it too.
abbrev pub PlainIsOfAll : Type 0
PlainIsOfAll = (w : Configuration) (q : ReqSetup) (older : List (List ℕ)) (f : Fetching) (round : Round) (answer whole other : List ℕ) (h : History)
    → IsFetchingOf w q older f → f.kept.round ≡ Some round
    → MayStand f whole → AnswersPlainly (responder_for w f.kept) (dialogue_of f whole) round answer h
    → MayStand (record f { kept = record f.kept { responder = h } }) other
    → MayStand f other × AnswersPlainly (responder_for w f.kept) (dialogue_of f other) round answer h

-- So may another LargeResponse, with the same bytes for the answer that it begins.
abbrev pub LargeIsOfAll : Type 0
LargeIsOfAll = (w : Configuration) (q : ReqSetup) (older : List (List ℕ)) (f : Fetching) (round : Round) (answer whole other begun : List ℕ) (h : History)
    → IsFetchingOf w q older f → f.kept.round ≡ Some round
    → MayStand f whole → MayStand f other
    → AnswersLarge (responder_for w f.kept) (dialogue_of f whole) round answer h begun
    → AnswersLarge (responder_for w f.kept) (dialogue_of f other) round answer h begun

-- An answer after which nothing is fetched: the last chunk, with which all bytes are judged; or another one, after
-- which the answer stays unseen.
abbrev pub EndsFetching : Configuration → Fetching → Gathered → Kept → Type 0
EndsFetching w f g next =
    (whole : List ℕ) × (d : Dialogue) × MayStand f whole × RepliesBy w (dialogue_of f whole) g d × (d.fetching ≡ None) × (next ≡ kept_of d)

-- It is kept after it, in each of these cases. After another LargeResponse no chunk came yet.
abbrev pub FetchingGoes : Type 0
FetchingGoes = (w : Configuration) (q : ReqSetup) (older : List (List ℕ)) (packet : List ℕ) (p : PacketFields) (f next : Fetching)
    → parsed packet ≡ Ok p → is_request w.responder.eid q.eid p ≡ false → is_answer w.responder.eid q.eid p ≡ true
    → IsFetchingOf w q older f → GoesFetching w f (gathered_from q.eid w.responder.eid older p) next → IsFetchingOf w q (packet ∷ older) next

abbrev pub FetchingTurns : Type 0
FetchingTurns = (w : Configuration) (q : ReqSetup) (older : List (List ℕ)) (packet : List ℕ) (p : PacketFields) (f next : Fetching)
    → parsed packet ≡ Ok p → is_request w.responder.eid q.eid p ≡ false → is_answer w.responder.eid q.eid p ≡ true
    → IsFetchingOf w q older f → TurnsFetching w f (gathered_from q.eid w.responder.eid older p) next → IsFetchingOf w q (packet ∷ older) next × (number_of next ≡ 0)

abbrev pub FetchingEnds : Type 0
FetchingEnds = (w : Configuration) (q : ReqSetup) (older : List (List ℕ)) (packet : List ℕ) (p : PacketFields) (f : Fetching) (next : Kept)
    → parsed packet ≡ Ok p → is_request w.responder.eid q.eid p ≡ false → is_answer w.responder.eid q.eid p ≡ true
    → IsFetchingOf w q older f → EndsFetching w f (gathered_from q.eid w.responder.eid older p) next → Keeps w q (packet ∷ older) next

-- Where some walk goes on with a packet for the requester, it makes something of what is kept in one of these ways.
abbrev pub FetchingIsReplied : Type 0
FetchingIsReplied = (w : Configuration) (q : ReqSetup) (older : List (List ℕ)) (packet : List ℕ) (p : PacketFields) (f : Fetching) (d : Dialogue)
    → parsed packet ≡ Ok p → is_request w.responder.eid q.eid p ≡ false → is_answer w.responder.eid q.eid p ≡ true
    → IsFetchingOf w q older f → Walks w q (packet ∷ older) d
    → let g = gathered_from q.eid w.responder.eid older p in
    ((next : Fetching) × GoesFetching w f g next) ⊎ (((next : Fetching) × TurnsFetching w f g next) ⊎ ((next : Kept) × EndsFetching w f g next))

-- A packet between two other ends leaves it.
abbrev pub FetchingStays : Type 0
FetchingStays = (w : Configuration) (q : ReqSetup) (older : List (List ℕ)) (packet : List ℕ) (p : PacketFields) (f : Fetching)
    → parsed packet ≡ Ok p → is_request w.responder.eid q.eid p ≡ false → is_answer w.responder.eid q.eid p ≡ false
    → IsFetchingOf w q older f → IsFetchingOf w q (packet ∷ older) f

-- ---- Reasons.

-- Each walk gives a refused request, and a refused answer, the reason that it has without the large response.
abbrev pub FetchingTellsWhy : Type 0
FetchingTellsWhy = (w : Configuration) (q : ReqSetup) (older : List (List ℕ)) (f : Fetching) (d : Dialogue) (g : Gathered)
    → IsFetchingOf w q older f → Walks w q older d
    → (comes_why d g ≡ comes_why (restored f.kept) g)
    × (goes_why (towards w.responder (known_of q)) d g ≡ goes_why (towards w.responder (known_of q)) (restored f.kept) g)

-- The verify data of a request are alone wrong in each walk where they are without it, and in no other. Those of an
-- answer are in a walk where they are by what is kept, with the bytes that stand for the large response there.
abbrev pub FetchingTellsApart : Type 0
FetchingTellsApart = (w : Configuration) (q : ReqSetup) (older : List (List ℕ)) (f : Fetching) (d : Dialogue) (g : Gathered)
    → IsFetchingOf w q older f → Walks w q older d
    → (ComesApart d g ↔ ComesApart (restored f.kept) g)
    × ((whole : List ℕ) → d.fetching ≡ Some whole → GoesApart (towards w.responder (known_of q)) d g ↔ GoesApart (towards w.responder (known_of q)) (dialogue_of f whole) g)
