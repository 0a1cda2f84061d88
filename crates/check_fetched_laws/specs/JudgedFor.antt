-- A connection that judges while a large response is fetched: it stands for the responder's history with some bytes as
-- that answer. This project's own.
use Rattle.std.specs.Prelude.{◌≡◌, ◌≢◌, ◌<◌, ◌+◌, ◌==◌, ◌∷◌, drop, slice_index, ℕ, List, true, false, Option, Some}
use Rattle.responder_core.specs.Connected as connected
use Rattle.responder_core.specs.declared.connected.Connection.{Connection}
use Rattle.responder_rules.specs.LargeAnswer.{last_takes}
use Rattle.requester_machine.specs.Setup.{ReqSetup}
use Rattle.responder_machine.specs.History.{Entry, History}
use Rattle.responder_machine.specs.LargeMessages.{large_of}
use Rattle.responder_machine.specs.Place.{session_place}
use Rattle.responder_machine.specs.Refusal.{has_pending}
use Rattle.responder_machine.specs.Responder.Outcome.{Adds}
use Rattle.responder_machine.specs.Session.{Events, id_in_record, session_of, session_terms, turns_of}
use Rattle.responder_machine.specs.Setup.{RspSetup}
use Rattle.spdm_grammar.specs.Message.RequestMessage.{GetVersion}
use Rattle.spdm_grammar.specs.Requests.{canonical_request}
use Rattle.spdm_grammar.specs.declared.names.request_code.TheConstants.{GET_MEASUREMENTS}
use Rattle.spdm_machine.specs.Bodies.{clear_body}
use Rattle.check_laws.specs.LargeShown.{whole_of}
use Rattle.check_laws.specs.Walks.{Walks}
use Rattle.check_fetched_laws.specs.AlikeAnswers.{place_with}
use Rattle.capture_machine.specs.CapturedAnswers.{MayLeadTo}
use Rattle.capture_machine.specs.LargeAnswers.{is_large, place_named, unseen, with_large}
use Rattle.capture_machine.specs.Rounds.{Dialogue, Round}
use Rattle.world_machine.specs.Setup.{Configuration}
use Rattle.spdm_grammar.specs.declared.names.message_type.TheConstants.{SPDM}

-- It stands for this history, in which a large response of the place was not seen, with these bytes as that answer.
abbrev pub JudgesFor : Connection → RspSetup → History → (place : Option ℕ) → (whole : List ℕ) → Type 0
JudgesFor seen r h place whole = connected.StandsFor seen r (with_large place whole h)

-- The session of an id, with these bytes as its large response.
abbrev pub session_with : (id : ℕ) → History → (whole : List ℕ) → Events
session_with id h whole = session_of id (with_large (Some id) whole h)

-- These bytes are the MEASUREMENTS that went by LargeResponse in the session of this id, and a chunk of them is left to be
-- given.
pub record IsMeasured (id : ℕ) (h : History) (whole : List ℕ) : Type 0 where
  pub large : large_of (turns_of (session_with id h whole)) ≡ Some whole
  pub more : has_pending (session_place (session_with id h whole)) ≡ true
  pub measured : last_takes GET_MEASUREMENTS (turns_of (session_with id h whole)) ≡ true

-- So many bytes do not come in one message of the session: with what stands round a chunk they are longer than what the
-- requester takes at once.
abbrev pub IsLong : (id : ℕ) → History → (whole : List ℕ) → (size : ℕ) → Type 0
IsLong id h whole size = (session_terms (session_with id h whole)).common.to_requester.transfer < size + 16

-- In a walk in which some bytes are fetched and a chunk is left to be given at the place of the last request, these are what
-- is pending there; but for GET_VERSION, which ends it.
abbrev pub PendingIsFetched : Type 0
PendingIsFetched = (c : Configuration) (q : ReqSetup) (older : List (List ℕ)) (d : Dialogue) (whole : List ℕ) (round : Round)
    → Walks c q older d → d.fetching ≡ Some whole → d.round ≡ Some round → has_pending (place_with d.responder round.body whole) ≡ true
    → round.body ≢ clear_body (canonical_request GetVersion)
    → large_of (place_with d.responder round.body whole).turns ≡ Some whole

-- In a session they are MEASUREMENTS.
abbrev pub PendingIsMeasured : Type 0
PendingIsMeasured = (c : Configuration) (q : ReqSetup) (older : List (List ℕ)) (d : Dialogue) (whole : List ℕ) (round : Round)
    → Walks c q older d → d.fetching ≡ Some whole → d.round ≡ Some round → has_pending (place_with d.responder round.body whole) ≡ true
    → (slice_index round.body 0 == SPDM) ≡ false → IsMeasured (id_in_record (drop 1 round.body)) d.responder whole

-- ---- How it begins.

-- The history after LargeResponse, with its whole answer: so what stands for the history that LargeResponse led to
-- judges for the one in which that answer was not seen.
abbrev pub BeginsJudging : Type 0
BeginsJudging = (r : RspSetup) (g h : History) (tag : ℕ) (body : List ℕ) (entry : Entry) → MayLeadTo r g tag body (Adds entry) → is_large entry ≡ true
    → with_large (place_named body) (whole_of entry) (unseen entry ∷ h) ≡ entry ∷ h
