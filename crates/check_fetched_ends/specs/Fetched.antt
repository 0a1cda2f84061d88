-- What is reported of an answer to a requester while a large one is fetched. This project's own.
use Rattle.std.specs.Prelude.{◌≡◌, ◌+◌, ◌⊎◌, ℕ, List, drop, length, slice_index, Some, None, Result, Ok, Err}
use Rattle.mctp_framing.specs.Cutting.{RouteFields}
use Rattle.mctp_framing.specs.Gathering.{Gathered}
use Rattle.mctp_framing.specs.Gathering.Gathered.{Whole}
use Rattle.requester_machine.specs.Setup.{ReqSetup}
use Rattle.spdm_grammar.specs.declared.told.why.Why as declared
use Rattle.check_ends.specs.Party.{IsParty}
use Rattle.check_ends.specs.declared.party.Party.{Party}
use Rattle.check_laws.specs.Judged.{why_of}
use Rattle.check_laws.specs.Keeping.{Kept, restored}
use Rattle.check_laws.specs.RepliesShown.{responder_for}
use Rattle.check_laws.specs.Rows.{StandsForRows}
use Rattle.check_laws.specs.declared.verdict.Seen.{Seen}
use Rattle.check_late_laws.specs.Fetching.{Fetching, MayStand, dialogue_of}
use Rattle.check_late_laws.specs.FetchingLaws.{EndsFetching, GoesFetching, TurnsFetching}
use Rattle.check_fetched_ends.specs.declared.upon.Upon.{Upon}
use Rattle.check_fetched_ends.specs.declared.upon.Upon.TheVariants as upon
use Rattle.capture_machine.specs.Difference.{GoesApart, Why, goes_why}
use Rattle.capture_machine.specs.Difference.Why.{BadVerify}
use Rattle.capture_machine.specs.SessionTable.{Row, rows_between}
use Rattle.world_machine.specs.Setup.{Configuration}

-- The rows that a packet makes.
abbrev pub rows_upon : Kept → Kept → List Row → List Row
rows_upon k next rows = rows_between (restored k) (restored next) rows

-- ---- What is told of an answer.

-- Why it is refused. Its verify data are alone wrong with some bytes that may stand for the large response, or with
-- none.
abbrev pub IsFetchedWhy : Configuration → Fetching → Gathered → Why → Type 0
IsFetchedWhy w f g BadVerify = (whole : List ℕ) × MayStand f whole × GoesApart (responder_for w f.kept) (dialogue_of f whole) g
IsFetchedWhy w f g why =
    ((whole : List ℕ) → MayStand f whole → GoesApart (responder_for w f.kept) (dialogue_of f whole) g → ⊥)
    × (goes_why (responder_for w f.kept) (restored f.kept) g ≡ Some why)

-- It goes on, and then this stands for what is kept after it, and so does the table: the large response is fetched on,
-- or another one from then on, or none; or it is refused, and then why.
abbrev pub IsRepliedTo : Configuration → ReqSetup → List (List ℕ) → List Row → Fetching → RouteFields → (answer : List ℕ)
    → Result Upon declared.Why → (new : Party) → (stands : Fetching → List Row → Type 0) → (table : List Seen) → Type 0
IsRepliedTo w q older rows f route answer (Ok upon.Fetched) new stands table =
    (next : Fetching) × GoesFetching w f (Whole route answer) next
    × stands next (rows_upon f.kept next.kept rows)
    × StandsForRows table w (length older + 1) (rows_upon f.kept next.kept rows)
IsRepliedTo w q older rows f route answer (Ok upon.Turned) new stands table =
    (next : Fetching) × TurnsFetching w f (Whole route answer) next
    × stands next (rows_upon f.kept next.kept rows)
    × StandsForRows table w (length older + 1) (rows_upon f.kept next.kept rows)
IsRepliedTo w q older rows f route answer (Ok upon.Ended) new stands table =
    (next : Kept) × EndsFetching w f (Whole route answer) next
    × IsParty new w q next (rows_upon f.kept next rows)
    × StandsForRows table w (length older + 1) (rows_upon f.kept next rows)
IsRepliedTo w q older rows f route answer (Err why) new stands table =
    ((next : Fetching) → GoesFetching w f (Whole route answer) next → ⊥)
    × ((next : Fetching) → TurnsFetching w f (Whole route answer) next → ⊥)
    × ((next : Kept) → EndsFetching w f (Whole route answer) next → ⊥)
    × IsFetchedWhy w f (Whole route answer) (why_of why)
