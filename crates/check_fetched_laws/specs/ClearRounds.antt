-- Which rounds are possible while a large response is fetched. This project's own.
use Rattle.std.specs.Prelude.{◌≡◌, ◌==◌, ◌⊎◌, ℕ, List, drop, slice_index, true, Some}
use Rattle.requester_machine.specs.Setup.{ReqSetup}
use Rattle.responder_machine.specs.History.{History, kept_of}
use Rattle.responder_machine.specs.Responder.{is_repeat}
use Rattle.responder_machine.specs.Setup.{RspSetup, towards}
use Rattle.spdm_grammar.specs.Message.RequestMessage.{GetVersion}
use Rattle.spdm_grammar.specs.Requests.{canonical_request}
use Rattle.spdm_machine.specs.Bodies.{clear_body}
use Rattle.check_laws.specs.Walks.{Walks}
use Rattle.check_fetched_laws.specs.ClearChunks.{IsNextGet, get_message}
use Rattle.check_late_laws.specs.Fetching.{Fetching, IsFetchingOf}
use Rattle.capture_machine.specs.LargeAnswers.{place_named}
use Rattle.capture_machine.specs.Rounds.{Dialogue, Round}
use Rattle.world_machine.specs.Setup.{Configuration, known_of}
use Rattle.spdm_grammar.specs.declared.names.message_type.TheConstants.{SPDM}

-- A round in the clear is GET_VERSION; or a repeat; or CHUNK_GET for the next chunk of these bytes.
abbrev pub IsClearRound : RspSetup → History → (whole : List ℕ) → Round → Type 0
IsClearRound r h whole round =
    (round.body ≡ clear_body (canonical_request GetVersion))
    ⊎ ((is_repeat (kept_of h) round.tag (drop 1 round.body) ≡ true)
    ⊎ ((handle : ℕ) × (number : ℕ) × (round.body ≡ clear_body (get_message handle number)) × IsNextGet r h whole round.tag handle number))

-- In a walk in which some bytes are fetched, a round in the clear is one of these three.
abbrev pub GetIsNext : Type 0
GetIsNext = (c : Configuration) (q : ReqSetup) (older : List (List ℕ)) (d : Dialogue) (whole : List ℕ) (round : Round)
    → Walks c q older d → d.fetching ≡ Some whole → d.round ≡ Some round → (slice_index round.body 0 == SPDM) ≡ true
    → IsClearRound (towards c.responder (known_of d.setup)) d.responder whole round

-- While a large response is fetched there is a round, which is GET_VERSION, or went to the place where the answer is
-- fetched.
abbrev pub RoundIsThere : Type 0
RoundIsThere = (w : Configuration) (q : ReqSetup) (older : List (List ℕ)) (f : Fetching) → IsFetchingOf w q older f
    → (round : Round) × (f.kept.round ≡ Some round)
    × ((round.body ≡ clear_body (canonical_request GetVersion)) ⊎ (place_named round.body ≡ f.at))
