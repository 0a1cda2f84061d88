-- On which answers the requester asks for a chunk while a large response is fetched. This project's own.
use Rattle.std.specs.Prelude.{◌≡◌, ◌≢◌, ◌==◌, ℕ, List, slice_index, true, false, Some, None}
use Rattle.check_requester.specs.HeardKept.{asks_upon, heard_kept}
use Rattle.check_laws.specs.KeptChanges.{accepted_from}
use Rattle.check_laws.specs.Keeping.{Kept}
use Rattle.check_laws.specs.RepliesShown.{AnswersRound, responder_for}
use Rattle.check_late_laws.specs.Fetching.{Fetching, IsFetchingOf, MayStand, dialogue_of}
use Rattle.check_late_laws.specs.FetchingLaws.{EndsFetching, GoesFetching, TurnsFetching}
use Rattle.mctp_framing.specs.Cutting.{RouteFields}
use Rattle.mctp_framing.specs.Gathering.Gathered.{Whole}
use Rattle.requester_machine.specs.May.{IsSetUp}
use Rattle.requester_machine.specs.Setup.{ReqSetup}
use Rattle.responder_machine.specs.History.{History, kept_of}
use Rattle.responder_machine.specs.Responder.{is_repeat}
use Rattle.spdm_grammar.specs.Message.RequestMessage.{GetVersion}
use Rattle.spdm_grammar.specs.Requests.{canonical_request}
use Rattle.spdm_machine.specs.Bodies.{clear_body}
use Rattle.capture_machine.specs.Capture.{IsBody}
use Rattle.capture_machine.specs.CapturedAnswers.{AnswersPlainly}
use Rattle.capture_machine.specs.Rounds.{Round}
use Rattle.world_machine.specs.Setup.{Configuration}
use Rattle.spdm_grammar.specs.declared.names.message_type.TheConstants.{SPDM}

-- ---- In the clear.

-- While one is fetched in the clear, an answer that goes whole is a chunk but for the last one, or the same again to a
-- repeat; but for the answer to GET_VERSION. On each of them the requester asks for a chunk, whether it takes it or
-- not, and it is no PSK_EXCHANGE_RSP.
abbrev pub ClearAsksOn : Type 0
ClearAsksOn = (w : Configuration) (q : ReqSetup) (older : List (List ℕ)) (f : Fetching) (round : Round) (answer whole : List ℕ) (h : History)
    → IsFetchingOf w q older f → f.at ≡ None → f.kept.round ≡ Some round → round.body ≢ clear_body (canonical_request GetVersion)
    → MayStand f whole → AnswersPlainly (responder_for w f.kept) (dialogue_of f whole) round answer h
    → (asks_upon f.kept round.tag answer ≡ true) × (accepted_from f.kept round.tag answer ≡ None)

-- GET_VERSION in place of a chunk: the requester asks for none on what comes, and it is no PSK_EXCHANGE_RSP. In the
-- clear it is no repeat.
abbrev pub VersionAsksNone : Type 0
VersionAsksNone = (w : Configuration) (q : ReqSetup) (older : List (List ℕ)) (f : Fetching) (round : Round) (answer : List ℕ)
    → IsSetUp f.kept.setup → IsFetchingOf w q older f → f.kept.round ≡ Some round → round.body ≡ clear_body (canonical_request GetVersion)
    → (f.at ≡ None → is_repeat (kept_of f.kept.responder) round.tag (canonical_request GetVersion) ≡ false)
    → (asks_upon f.kept round.tag answer ≡ false) × (accepted_from f.kept round.tag answer ≡ None)

-- ---- In a session.

-- While one is fetched in a session, the requester takes nothing that comes in the clear, and asks for a chunk in
-- response to it.
abbrev pub SessionAsksOn : Type 0
SessionAsksOn = (w : Configuration) (q : ReqSetup) (older : List (List ℕ)) (f : Fetching) (round : Round) (answer : List ℕ) (id : ℕ)
    → IsFetchingOf w q older f → f.at ≡ Some id → f.kept.round ≡ Some round → round.body ≢ clear_body (canonical_request GetVersion)
    → (slice_index answer 0 == SPDM) ≡ true
    → (asks_upon f.kept round.tag answer ≡ true) × (accepted_from f.kept round.tag answer ≡ None)

-- ---- Wherever it is fetched.

-- On an answer with which it is fetched on, or another one begins, the requester asks for a chunk; on an answer after
-- which nothing is fetched it asks for none. So no answer ends it in response to which the requester asks for a chunk,
-- and with none does it go on in response to which it asks for none.
pub record IsAskedUpon (w : Configuration) (f : Fetching) (route : RouteFields) (answer : List ℕ) : Type 0 where
  pub goes : (next : Fetching) → GoesFetching w f (Whole route answer) next → asks_upon f.kept route.tag answer ≡ true
  pub turns : (next : Fetching) → TurnsFetching w f (Whole route answer) next → asks_upon f.kept route.tag answer ≡ true
  pub ends : (next : Kept) → EndsFetching w f (Whole route answer) next → asks_upon f.kept route.tag answer ≡ false

abbrev pub AnswersTellAsking : Type 0
AnswersTellAsking = (w : Configuration) (q : ReqSetup) (older : List (List ℕ)) (f : Fetching) (route : RouteFields) (answer : List ℕ)
    → IsSetUp f.kept.setup → IsFetchingOf w q older f → IsAskedUpon w f route answer

-- On an answer that goes whole, and in response to which the requester asks for no chunk, nothing is fetched any more:
-- the answer stays unseen in what is kept then.
abbrev pub PlainEndsFetching : Type 0
PlainEndsFetching = (w : Configuration) (q : ReqSetup) (older : List (List ℕ)) (f : Fetching) (route : RouteFields) (answer : List ℕ) (round : Round) (whole : List ℕ) (h : History)
    → IsSetUp f.kept.setup → IsFetchingOf w q older f → IsBody answer → route.owner ≡ false → AnswersRound f.kept route.tag round
    → MayStand f whole → AnswersPlainly (responder_for w f.kept) (dialogue_of f whole) round answer h
    → asks_upon f.kept route.tag answer ≡ false
    → EndsFetching w f (Whole route answer) (heard_kept f.kept h route.tag round answer)
