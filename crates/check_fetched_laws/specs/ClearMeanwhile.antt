-- Which answers may be given in the clear while a large one is fetched there, by the request that is answered. This project's
-- own.
use Rattle.std.specs.Prelude.{◌≡◌, ◌≢◌, ◌≤◌, ◌+◌, ◌==◌, ◌↔◌, nat_lt, slice_index, ℕ, List, ◌∷◌, true, false, Some, None}
use Rattle.chunking.specs.Cutting.{chunk_count}
use Rattle.responder_machine.specs.History.{History, kept_of}
use Rattle.responder_machine.specs.Place.{clear_place, place_terms}
use Rattle.responder_machine.specs.Responder.{is_repeat, kept_reply}
use Rattle.responder_machine.specs.Setup.{RspSetup}
use Rattle.spdm_machine.specs.Bodies.{clear_body}
use Rattle.check_responder.specs.ShownBy.{HasFewBlocks}
use Rattle.check_fetched_laws.specs.StandsAlike.{IsAnew, version_entry}
use Rattle.responder_machine.specs.Answer.{version_answer}
use Rattle.spdm_grammar.specs.Message.RequestMessage.{GetVersion}
use Rattle.spdm_grammar.specs.Requests.{canonical_request}
use Rattle.spdm_grammar.specs.Responses.{canonical_response}
use Rattle.check_fetched_laws.specs.ClearChunks.{IsNextGet, clear_with, get_entry, get_message, get_response}
use Rattle.capture_machine.specs.CapturedAnswers.{AnswersLarge, AnswersPlainly, Completes, MayHaveLed}
use Rattle.capture_machine.specs.LargeAnswers.{begun_with, dropped_before_large, is_untouched, with_large}
use Rattle.capture_machine.specs.Rounds.{Dialogue, Round}
use Rattle.world_machine.specs.Setup.{Configuration}
use Rattle.requester_machine.specs.Setup.{ReqSetup}
use Rattle.mctp_framing.specs.Cutting.{RouteFields}
use Rattle.mctp_framing.specs.Gathering.Gathered.{Whole}
use Rattle.check_laws.specs.RepliesShown.{responder_for}
use Rattle.check_laws.specs.Walks.{Walks}
use Rattle.responder_machine.specs.Refusal.{has_pending}
use Rattle.check_late_laws.specs.Fetching.{Fetching, IsFetchingOf}
use Rattle.check_late_laws.specs.FetchingLaws.{TurnsFetching}
use Rattle.spdm_grammar.specs.declared.names.message_type.TheConstants.{SPDM}

-- A repeat is answered with the stored reply, and nothing changes.
abbrev pub RepeatGoesSame : Type 0
RepeatGoesSame = (r : RspSetup) (d : Dialogue) (whole : List ℕ) (round : Round) (m answer : List ℕ) (next : History)
    → d.fetching ≡ Some whole → round.body ≡ clear_body m → is_repeat (kept_of d.responder) round.tag m ≡ true
    → AnswersPlainly r d round answer next → (answer ≡ clear_body (kept_reply (kept_of d.responder))) × (next ≡ d.responder)

-- CHUNK_GET for the next chunk of these bytes is answered with that, and it is not the last one.
abbrev pub GetGoesOn : Type 0
GetGoesOn = (r : RspSetup) (d : Dialogue) (whole : List ℕ) (round : Round) (handle number : ℕ) (answer : List ℕ) (next : History)
    → d.fetching ≡ Some whole → round.body ≡ clear_body (get_message handle number) → IsNextGet r d.responder whole round.tag handle number
    → AnswersPlainly r d round answer next
    ↔ ((answer ≡ clear_body (get_response d.responder whole handle number))
    × (nat_lt (number + 1) (chunk_count (place_terms (clear_with d.responder whole)).common.to_requester.transfer whole) ≡ true)
    × (next ≡ get_entry round.tag handle number (get_response d.responder whole handle number) ∷ d.responder))

-- That is always possible. No measurements have more than 4,054 bytes.
abbrev pub RepeatMayGo : Type 0
RepeatMayGo = (r : RspSetup) (d : Dialogue) (whole : List ℕ) (round : Round) (m : List ℕ) → HasFewBlocks r
    → d.fetching ≡ Some whole → round.body ≡ clear_body m → is_repeat (kept_of d.responder) round.tag m ≡ true
    → AnswersPlainly r d round (clear_body (kept_reply (kept_of d.responder))) d.responder

-- A repeat begins no other large response, and is no last chunk.
abbrev pub RepeatBeginsNone : Type 0
RepeatBeginsNone = (r : RspSetup) (d : Dialogue) (whole : List ℕ) (round : Round) (m answer : List ℕ) (next : History) (other : List ℕ)
    → d.fetching ≡ Some whole → round.body ≡ clear_body m → is_repeat (kept_of d.responder) round.tag m ≡ true
    → (AnswersLarge r d round answer next other → ⊥) × (Completes r d round answer next → ⊥)

-- Nor does CHUNK_GET begin one.
abbrev pub GetBeginsNone : Type 0
GetBeginsNone = (r : RspSetup) (d : Dialogue) (whole : List ℕ) (round : Round) (handle number : ℕ) (answer : List ℕ) (next : History) (other : List ℕ)
    → d.fetching ≡ Some whole → round.body ≡ clear_body (get_message handle number) → IsNextGet r d.responder whole round.tag handle number
    → AnswersLarge r d round answer next other → ⊥

-- CHUNK_GET for the last chunk of these bytes is answered with that, where the request of the large response may have
-- led to them.
abbrev pub GetCompletes : Type 0
GetCompletes = (r : RspSetup) (d : Dialogue) (whole : List ℕ) (round : Round) (handle number : ℕ) (answer : List ℕ) (next : History)
    → d.fetching ≡ Some whole → round.body ≡ clear_body (get_message handle number) → IsNextGet r d.responder whole round.tag handle number
    → Completes r d round answer next
    ↔ ((dropped : List ℕ)
    × (answer ≡ clear_body (get_response d.responder whole handle number))
    × (nat_lt (number + 1) (chunk_count (place_terms (clear_with d.responder whole)).common.to_requester.transfer whole) ≡ false)
    × MayHaveLed r None whole dropped d.responder
    × (is_untouched None (begun_with None whole d.responder) d.responder ≡ true)
    × (next ≡ get_entry round.tag handle number (get_response d.responder whole handle number) ∷ with_large None whole (dropped_before_large None dropped d.responder)))

-- GET_VERSION is answered with VERSION.
abbrev pub VersionGoes : Type 0
VersionGoes = (r : RspSetup) (d : Dialogue) (whole : List ℕ) (round : Round) (answer : List ℕ) (next : History)
    → d.fetching ≡ Some whole → round.body ≡ clear_body (canonical_request GetVersion) → IsAnew r (with_large None whole d.responder) round.tag
    → AnswersPlainly r d round answer next
    ↔ ((answer ≡ clear_body (canonical_response version_answer)) × (next ≡ version_entry round.tag ∷ d.responder))

-- It begins no other large response, and is no last chunk.
abbrev pub VersionBeginsNone : Type 0
VersionBeginsNone = (r : RspSetup) (d : Dialogue) (whole : List ℕ) (round : Round) (answer : List ℕ) (next : History) (other : List ℕ)
    → d.fetching ≡ Some whole → round.body ≡ clear_body (canonical_request GetVersion) → IsAnew r (with_large None whole d.responder) round.tag
    → (AnswersLarge r d round answer next other → ⊥) × (Completes r d round answer next → ⊥)

-- So, while a large response is fetched in the clear, no answer to another request than GET_VERSION begins another one.
-- The responder takes messages of six bytes.
abbrev pub NoneTurnsInClear : Type 0
NoneTurnsInClear = (w : Configuration) (q : ReqSetup) (older : List (List ℕ)) (f next : Fetching) (round : Round) (route : RouteFields) (answer : List ℕ)
    → 6 ≤ (responder_for w f.kept).transfer → IsFetchingOf w q older f → f.kept.round ≡ Some round
    → (slice_index round.body 0 == SPDM) ≡ true → round.body ≢ clear_body (canonical_request GetVersion)
    → TurnsFetching w f (Whole route answer) next → ⊥

-- In a walk no large response is pending in the clear, as what is kept of the responder says it: while one is fetched
-- there, its request has no bytes as its answer.
abbrev pub NonePendsInClear : Type 0
NonePendsInClear = (w : Configuration) (q : ReqSetup) (older : List (List ℕ)) (d : Dialogue) → Walks w q older d → has_pending (clear_place d.responder) ≡ false
