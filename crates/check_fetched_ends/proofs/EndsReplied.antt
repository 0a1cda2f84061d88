-- What is kept after an answer, while a large one is fetched, or none is.
use Rattle.std.proofs.Common.{◌≡◌, ◌+◌, ℕ, List, ◌∷◌, refl, sym, subst, length, Option, Some, None, is_some, true, false, Result, Ok, Err}
use Rattle.std.proofs.lemmas.Bool.{false≢true}
use Rattle.std.specs.Prelude.{IfOk}
use Rattle.mctp_framing.specs.Cutting.{RouteFields}
use Rattle.mctp_framing.specs.Gathering.{Gathered}
use Rattle.mctp_framing.specs.Gathering.Gathered.{Whole}
use Rattle.requester_machine.specs.Setup.{ReqSetup}
use Rattle.spdm_grammar.specs.declared.told.why.Why as declared
use Rattle.spdm_basis.specs.declared.OutOfMemory.{OutOfMemory}
use Rattle.check_ends.specs.Conversation as conversations
use Rattle.check_ends.specs.Conversation.{IsAnswer}
use Rattle.check_ends.specs.declared.conversation.Conversation.{Conversation}
use Rattle.check_ends.specs.declared.continuation.Continuation.{Continuation}
use Rattle.check_ends.specs.declared.continuation.Continuation.TheVariants as onward
use Rattle.check_laws.proofs.KeptAnswers.{kept_is_restored}
use Rattle.check_laws.specs.Judged.{why_of}
use Rattle.check_laws.specs.Keeping.{Keeps, Kept, restored}
use Rattle.check_laws.specs.Rows.{StandsForRows}
use Rattle.check_laws.specs.declared.verdict.Seen.{Seen}
use Rattle.check_fetched_ends.proofs.FetchedReplied.{answered_reason, ended_behind, fetched_behind, none_on, turned_behind, walk_before}
use Rattle.check_fetched_ends.specs.Fetched.{IsRepliedTo, rows_upon}
use Rattle.check_fetched_ends.specs.JudgedEnds.{IsAskedOf, IsFetched, IsJudgedAnswer, StandsBehind}
use Rattle.check_fetched_ends.specs.declared.fetch.Fetch.{Fetch}
use Rattle.check_fetched_ends.specs.declared.upon.Upon.TheVariants as upon
use Rattle.check_laws.specs.declared.sending_large.large_request.LargeRequest.{LargeRequest}
use Rattle.check_late_laws.proofs.BegunLaws.{fetching_begins}
use Rattle.check_late_laws.specs.Fetching.{Fetching, IsFetchingOf, dialogue_of}
use Rattle.check_late_laws.specs.FetchingLaws.{BeginsFetching}
use Rattle.capture_machine.specs.SessionTable.{Row}
use Rattle.world_machine.specs.Setup.{Configuration}

-- ---- What is fetched, or nothing.

pub some_of : (o : Option Fetch) → is_some o ≡ true → (x : Fetch) × (o ≡ Some x)
some_of None is = absurd (false≢true is)
some_of (Some x) is = (x, refl)

pub none_of : (o : Option Fetch) → is_some o ≡ false → o ≡ None
none_of None is = refl
none_of (Some x) is = absurd (false≢true (sym is))

pub none_sent : (o : Option LargeRequest) → is_some o ≡ false → o ≡ None
none_sent None is = refl
none_sent (Some x) is = absurd (false≢true (sym is))

-- ---- No large answer is fetched.

rest_behind : (w : Configuration) (q : ReqSetup) (older : List (List ℕ)) (rows : List Row) (packet : List ℕ) (new : Conversation) (table : List Seen) → conversations.StandsBehind new.party new.large table w q older rows packet
    → StandsBehind (record { talk = new; fetched = None }) table w q older rows packet
rest_behind w q older rows packet new table c = record { before = c.before; came = c.came; after = c.after; goes = c.goes; stands = c.stands; entries = c.entries }

-- A request, where none was.
pub asked_rest : (w : Configuration) (q : ReqSetup) (older : List (List ℕ)) (rows : List Row) (packet : List ℕ) (g : Gathered) (result : Result Unit declared.Why) (new : Conversation) (o : Option Fetch) (table : List Seen) → o ≡ None
    → conversations.IsAskedOf w q older rows packet g result new table → IsAskedOf w q older rows packet g result (record { talk = new; fetched = o }) table
asked_rest w q older rows packet g (Ok u) new o table none told =
    subst (λ (x : Option Fetch). StandsBehind (record { talk = new; fetched = x }) table w q older rows packet) (sym none) (rest_behind w q older rows packet new table told)
asked_rest w q older rows packet g (Err why) new o table none told = told

-- ---- One begins.

pub begun_on : (w : Configuration) (q : ReqSetup) (older : List (List ℕ)) (rows : List Row) (packet : List ℕ) (route : RouteFields) (answer : List ℕ) → IsAnswer w q older packet route answer → (k : Kept) (next : Fetching) (new : Conversation) (fetched : Fetch) (table : List Seen)
    → Keeps w q older k → BeginsFetching w k (Whole route answer) next → new.large ≡ None → IsFetched new.party fetched w q next (rows_upon k next.kept rows) → StandsForRows table w (length older + 1) (rows_upon k next.kept rows)
    → StandsBehind (record { talk = new; fetched = Some fetched }) table w q older rows packet
begun_on w q older rows packet route answer at k next new fetched table keeps begins none is entries =
    let over : IsFetchingOf w q (packet ∷ older) next = (fetching_begins w q older packet at.fields k next at.parses at.other at.goes keeps (subst (λ (g : Gathered). BeginsFetching w k g next) (sym at.whole) begins)).0 in record {
      before = restored k;
      came = (kept_is_restored w q older k keeps).0;
      after = dialogue_of next over.stands.0;
      goes = over.all over.stands.0 over.stands.1;
      stands = (none, (next, over, is));
      entries = entries;
    }

-- ---- One is fetched.

module _ (w : Configuration) (q : ReqSetup) (older : List (List ℕ)) (rows : List Row) (packet : List ℕ) (route : RouteFields) (answer : List ℕ) (at : IsAnswer w q older packet route answer) (f : Fetching) (own : IsFetchingOf w q older f)
    (new : Conversation) (fetched : Fetch) (none : new.large ≡ None) (table : List Seen) where
  abbrev Stands : Fetching → List Row → Type 0
  Stands = λ next rows. IsFetched new.party fetched w q next rows

  -- It is fetched on,
  pub goes_on : IsRepliedTo w q older rows f route answer (Ok upon.Fetched) new.party Stands table → IsJudgedAnswer w q older rows packet route answer (Ok onward.Kept) (record { talk = new; fetched = Some fetched }) table
  goes_on told =
      let next : Fetching = told.0 in
      let over : IsFetchingOf w q (packet ∷ older) next = fetched_behind w q older packet route answer at f own next told.1 in record {
        before = dialogue_of f own.stands.0;
        came = walk_before w q older packet route answer at f own;
        after = dialogue_of next over.stands.0;
        goes = over.all over.stands.0 over.stands.1;
        stands = (none, (next, over, told.2));
        entries = told.3;
      }

  -- or another one,
  pub turns_on : IsRepliedTo w q older rows f route answer (Ok upon.Turned) new.party Stands table → IsJudgedAnswer w q older rows packet route answer (Ok onward.Kept) (record { talk = new; fetched = Some fetched }) table
  turns_on told =
      let next : Fetching = told.0 in
      let over : IsFetchingOf w q (packet ∷ older) next = turned_behind w q older packet route answer at f own next told.1 in record {
        before = dialogue_of f own.stands.0;
        came = walk_before w q older packet route answer at f own;
        after = dialogue_of next over.stands.0;
        goes = over.all over.stands.0 over.stands.1;
        stands = (none, (next, over, told.2));
        entries = told.3;
      }

  -- or none any more.
  pub ended_on : IsRepliedTo w q older rows f route answer (Ok upon.Ended) new.party Stands table → IsJudgedAnswer w q older rows packet route answer (Ok onward.Kept) (record { talk = new; fetched = None }) table
  ended_on told =
      let next : Kept = told.0 in
      let over : Keeps w q (packet ∷ older) next = ended_behind w q older packet route answer at f own next told.1 in
      let rests = subst (λ (o : Option LargeRequest). conversations.StandsAs new.party o w q (packet ∷ older) (rows_upon f.kept next rows)) (sym none) (next, over, told.2) in record {
        before = dialogue_of f own.stands.0;
        came = walk_before w q older packet route answer at f own;
        after = restored next;
        goes = (kept_is_restored w q (packet ∷ older) next over).0;
        stands = rests;
        entries = told.3;
      }

  -- It is refused.
  pub refused_on : (o : Option Fetch) (why : declared.Why) → IsRepliedTo w q older rows f route answer (Err why) new.party Stands table → IsJudgedAnswer w q older rows packet route answer (Err why) (record { talk = new; fetched = o }) table
  refused_on o why told = (none_on w q older packet route answer at f own told.0 told.1 told.2, answered_reason w q older packet route answer at f own (why_of why) told.3)
