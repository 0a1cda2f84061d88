-- One requester of a capture and the responder, as the program keeps and judges them while no large message is in
-- progress. This project's own.
use Rattle.std.specs.Prelude.{◌≡◌, ◌≢◌, ◌+◌, ℕ, List, length, Some, Result, Ok, Err, false, true}
use Rattle.mctp_framing.specs.Cutting.{RouteFields}
use Rattle.mctp_framing.specs.Gathering.{Gathered}
use Rattle.mctp_framing.specs.Gathering.Gathered.{Whole}
use Rattle.requester_machine.specs.Setup.{ReqSetup}
use Rattle.spdm_grammar.specs.declared.told.why.Why as declared
use Rattle.check_responder.specs.AnswerKeys as answer_keys
use Rattle.check_responder.specs.JudgedResponder.{IsAnswerer}
use Rattle.check_requester.specs.JudgedRequester.{IsAsker, is_first_chunk}
use Rattle.check_laws.specs.Judged.{why_of}
use Rattle.check_laws.specs.Keeping.{AsksKept, Kept, restored}
use Rattle.check_laws.specs.RepliesShown.{responder_for}
use Rattle.check_laws.specs.Rows.{StandFor, StandsForRows}
use Rattle.check_laws.specs.declared.verdict.Seen.{Seen}
use Rattle.check_ends.specs.declared.continuation.Continuation.{Continuation}
use Rattle.check_ends.specs.declared.continuation.Continuation.TheVariants as onward
use Rattle.check_ends.specs.declared.party.Party.{Party}
use Rattle.capture_machine.specs.Difference.{ComesApart, Why, comes_why}
use Rattle.capture_machine.specs.Difference.Why.{BadVerify}
use Rattle.capture_machine.specs.Rounds.{Dialogue}
use Rattle.capture_machine.specs.SessionTable.{Row, number_from, rows_between}
use Rattle.world_machine.specs.Setup.{Configuration}

-- ---- What is kept.

-- The requester, the responder towards it, and the keys of its answers; the requester's number, and where its entries
-- stand in the table of sessions among the rows that the packets show.
pub record IsParty (seen : Party) (w : Configuration) (q : ReqSetup) (k : Kept) (rows : List Row) : Type 0 where
  pub asker : IsAsker seen.asker q k
  pub answerer : IsAnswerer seen.answerer (responder_for w k) k.responder
  pub keys : answer_keys.StandFor seen.keys (responder_for w k) k.responder
  pub number : seen.number ≡ number_from 1 q.eid w.requesters
  pub places : StandFor seen.places (restored k) rows

-- The same but for the responder's connection: while a large response is fetched that is kept otherwise.
pub record IsBeside (seen : Party) (w : Configuration) (q : ReqSetup) (k : Kept) (rows : List Row) : Type 0 where
  pub asker : IsAsker seen.asker q k
  pub keys : answer_keys.StandFor seen.keys (responder_for w k) k.responder
  pub number : seen.number ≡ number_from 1 q.eid w.requesters
  pub places : StandFor seen.places (restored k) rows

-- After a packet that makes this of what was kept: the rows are those that it makes, and the table stands for them
-- after one packet more.
pub record StandBehind (new : Party) (table : List Seen) (w : Configuration) (q : ReqSetup) (older : List (List ℕ)) (rows : List Row) (k next : Kept) : Type 0 where
  pub party : IsParty new w q next (rows_between (restored k) (restored next) rows)
  pub stands : StandsForRows table w (length older + 1) (rows_between (restored k) (restored next) rows)

-- The same but for the responder's connection.
pub record StandBeside (new : Party) (table : List Seen) (w : Configuration) (q : ReqSetup) (older : List (List ℕ)) (rows : List Row) (k next : Kept) : Type 0 where
  pub beside : IsBeside new w q next (rows_between (restored k) (restored next) rows)
  pub stands : StandsForRows table w (length older + 1) (rows_between (restored k) (restored next) rows)

-- A packet between the responder and another requester leaves it, among the rows that it makes.
abbrev pub OtherPartiesStay : Type 0
OtherPartiesStay = (seen : Party) (w : Configuration) (q : ReqSetup) (k : Kept) (rows : List Row) (before after : Dialogue) → q.eid ≢ after.setup.eid
    → IsParty seen w q k rows → IsParty seen w q k (rows_between before after rows)

-- ---- Reasons.

-- Why a request is refused, by what is kept.
abbrev pub IsComingWhy : Kept → Gathered → Why → Type 0
IsComingWhy k g BadVerify = ComesApart (restored k) g
IsComingWhy k g why = (ComesApart (restored k) g → ⊥) × (comes_why (restored k) g ≡ Some why)

-- ---- What is told.

-- Of a request that goes on: what is kept is that after it, and so is the table. Nothing is said of what is kept where
-- it may begin a large one: it is a first chunk. None goes on as answers do in response to which a chunk is asked for.
abbrev pub AsksOnward : Configuration → ReqSetup → List (List ℕ) → List Row → Kept → RouteFields → (body : List ℕ) → Continuation
    → (new : Party) → (table : List Seen) → Type 0
AsksOnward w q older rows k route body onward.Kept new table =
    (next : Kept) × AsksKept k (Whole route body) next × StandBehind new table w q older rows k next
AsksOnward w q older rows k route body onward.Large new table =
    (is_first_chunk body ≡ true) × ((next : Kept) → AsksKept k (Whole route body) next → ⊥)
AsksOnward w q older rows k route body (onward.Asked why) new table = ⊥

-- Of a request that goes whole: it goes on, or it is refused, and then why.
abbrev pub IsAskedWhole : Configuration → ReqSetup → List (List ℕ) → List Row → Kept → RouteFields → (body : List ℕ)
    → Result Unit declared.Why → (new : Party) → (table : List Seen) → Type 0
IsAskedWhole w q older rows k route body (Ok u) new table =
    (next : Kept) × AsksKept k (Whole route body) next × StandBehind new table w q older rows k next
IsAskedWhole w q older rows k route body (Err why) new table =
    ((next : Kept) → AsksKept k (Whole route body) next → ⊥) × IsComingWhy k (Whole route body) (why_of why)

-- The same but for the responder's connection.
abbrev pub IsAskedBeside : Configuration → ReqSetup → List (List ℕ) → List Row → Kept → RouteFields → (body : List ℕ)
    → Result Unit declared.Why → (new : Party) → (table : List Seen) → Type 0
IsAskedBeside w q older rows k route body (Ok u) new table =
    (next : Kept) × AsksKept k (Whole route body) next × StandBeside new table w q older rows k next
IsAskedBeside w q older rows k route body (Err why) new table =
    ((next : Kept) → AsksKept k (Whole route body) next → ⊥) × IsComingWhy k (Whole route body) (why_of why)

-- Of a request: it goes on, or it is refused, and then why: it is no first chunk either.
abbrev pub IsAsked : Configuration → ReqSetup → List (List ℕ) → List Row → Kept → RouteFields → (body : List ℕ)
    → Result Continuation declared.Why → (new : Party) → (table : List Seen) → Type 0
IsAsked w q older rows k route body (Ok on) new table = AsksOnward w q older rows k route body on new table
IsAsked w q older rows k route body (Err why) new table =
    (is_first_chunk body ≡ false) × ((next : Kept) → AsksKept k (Whole route body) next → ⊥) × IsComingWhy k (Whole route body) (why_of why)
