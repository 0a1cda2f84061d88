-- The rows that a request makes by which no record is sent.
use Rattle.std.proofs.Common.{◌≡◌, ◌∙◌, ◌+◌, ℕ, List, ◌∷◌, refl, sym, ap, subst, length, Option, Some, None, inl, inr}
use Rattle.mctp_framing.specs.Cutting.{RouteFields}
use Rattle.mctp_framing.specs.Gathering.{Gathered}
use Rattle.mctp_framing.specs.Gathering.Gathered.{Whole}
use Rattle.requester_machine.specs.History.{outstanding}
use Rattle.requester_machine.specs.Message.{Aim, Sent}
use Rattle.requester_machine.specs.Message.Aim.{ByChunks}
use Rattle.requester_machine.specs.Setup.{ReqSetup}
use Rattle.check_laws.proofs.OneWalk.{walks_alike}
use Rattle.check_laws.proofs.PairWalks.{walks_setup}
use Rattle.check_laws.specs.ChangeLaws.{CopyIsRequest, IsRequestStep, RoundIsRequest}
use Rattle.check_laws.specs.Changes.{session_in}
use Rattle.check_laws.specs.Rows.{StandFor, StandsForRows}
use Rattle.check_laws.specs.Walks.{Walks}
use Rattle.check_laws.specs.declared.places.Places.{Places}
use Rattle.check_laws.specs.declared.verdict.Seen.{Seen}
use Rattle.check_ends.proofs.WalkRows.{places_for}
use Rattle.check_ends.specs.Conversation.{IsRequest}
use Rattle.check_laws.proofs.Large.Histories.{shown_waits}
use Rattle.check_laws.proofs.Large.Onward.{asked, came}
use Rattle.check_laws.specs.Large.Sending.{Ack, Beginning, MayBegin, Sending, asked_of, handle_of, number_of, requester_of}
use Rattle.spdm_grammar.specs.Message.{RequestMessage}
use Rattle.capture_machine.specs.Capture.{AsksBy}
use Rattle.capture_machine.specs.Rounds.{Dialogue}
use Rattle.capture_machine.specs.SessionTable.{Row, rows_between}
use Rattle.world_machine.specs.Setup.{Configuration}

-- ---- No record is a chunk.

chunk_sent : (x : Sent) (a : RequestMessage) (handle number : ℕ) → x.aim ≡ ByChunks a handle number → session_in (Some x) ≡ None
chunk_sent x a handle number aim =
    let P : Aim → Type 0 = λ y. session_in (Some (record x { aim = y })) ≡ None in
    subst P (sym aim) refl

chunk_by : (s : Sending) (o : Option Ack) (b : Beginning) (whole : List ℕ) → MayBegin s.before b → session_in (outstanding (requester_of (record s { due = o }) b whole)) ≡ None
chunk_by s None b whole may =
    let one = shown_waits s b whole may in
    ap session_in one.waits ∙ chunk_sent one.sent (asked_of b) (handle_of s) (number_of s) one.aim
chunk_by s (Some ack) b whole may = refl

pub chunk_session : (s : Sending) (b : Beginning) (whole : List ℕ) → MayBegin s.before b → session_in (outstanding (requester_of s b whole)) ≡ None
chunk_session s b whole may = chunk_by s s.due b whole may

-- ---- The table was told of it.

pub record IsToldNothing (w : Configuration) (older : List (List ℕ)) (rows : List Row) (places : Places) (table : List Seen) : Type 0 where
  pub stands : (before after : Dialogue) → IsRequestStep None before after → StandFor places before rows → StandsForRows table w (length older + 1) (rows_between before after rows)
  pub stay : (before after : Dialogue) → IsRequestStep None before after → StandFor places before rows → StandFor places after (rows_between before after rows)

module _ (copies : CopyIsRequest) (rounds : RoundIsRequest) (w : Configuration) (q : ReqSetup) (older : List (List ℕ)) (rows : List Row) (packet : List ℕ) (route : RouteFields) (body : List ℕ) (at : IsRequest w q older packet route body) (places : Places)
    (table : List Seen) (told : IsToldNothing w older rows places table) (from : Dialogue) (over : Walks w q older from) (are : StandFor places from rows) (n : Dialogue) (walk : Walks w q (packet ∷ older) n) (none : session_in (outstanding n.requester) ≡ None) where
  abbrev came_from : (b : Dialogue) × Walks w q older b × AsksBy b (Whole route body) n
  came_from =
      let it = came w q older packet at.fields at.parses n walk in
      (it.0, it.1, subst (λ (g : Gathered). AsksBy it.0 g n) at.whole (asked w q older packet at.fields at.parses at.comes it.0 n it.2))

  abbrev pub before : Dialogue
  before = came_from.0

  pub over_before : Walks w q older before
  over_before = came_from.1

  step_by : AsksBy before (Whole route body) n → IsRequestStep None before n
  step_by (is, owner, inl c) = copies before n route.tag body c
  step_by (is, owner, inr c) = subst (λ (o : Option ℕ). IsRequestStep o before n) none (rounds before n route.tag body c)

  step : IsRequestStep None before n
  step = step_by came_from.2

  are_before : StandFor places before rows
  are_before =
      places_for places from before rows (walks_setup w q older from over ∙ sym (walks_setup w q older before over_before))
      (walks_alike w q older from before over over_before).alike.responder are

  pub places_behind : StandFor places n (rows_between before n rows)
  places_behind = told.stay before n step are_before

  pub table_behind : StandsForRows table w (length older + 1) (rows_between before n rows)
  table_behind = told.stands before n step are_before
