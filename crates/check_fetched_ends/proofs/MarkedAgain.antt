-- What is reported of an answer with the marks, where it may be LargeResponse again.
use Rattle.std.proofs.Common.{◌≡◌, ◌+◌, ◌∙◌, ℕ, List, ◌∷◌, sym, ap, subst, length, true, Option, Some, None, is_some}
use Rattle.std.proofs.lemmas.Bool.{false≢true}
use Rattle.std.proofs.lemmas.Option.{same_Some}
use Rattle.check_ends.proofs.InTurn.{AnswersInTurn}
use Rattle.check_ends.specs.Conversation as conversations
use Rattle.check_ends.specs.Conversation.{IsAnswer}
use Rattle.check_ends.specs.Party.{IsParty, StandBehind}
use Rattle.check_ends.specs.declared.conversation.Conversation.{Conversation}
use Rattle.check_ends.specs.declared.party.Party.{Party}
use Rattle.check_laws.proofs.KeptAnswers.{kept_is_restored, kept_replies}
use Rattle.check_laws.proofs.OneWalk.{walks_alike}
use Rattle.check_laws.specs.Keeping.{Keeps, Kept, RepliesKept, restored}
use Rattle.check_laws.specs.Rows.{StandsForRows}
use Rattle.check_laws.specs.declared.verdict.Seen.{Seen}
use Rattle.check_fetched_ends.proofs.EndsLeft.{kept_rest}
use Rattle.check_fetched_ends.proofs.EndsReplied.{begun_on}
use Rattle.check_fetched_ends.proofs.LateTold.{AreTested, left_tested}
use Rattle.check_fetched_ends.proofs.LeftSame.{left_same}
use Rattle.check_fetched_ends.proofs.MarksWalk.{one_walk_marks}
use Rattle.check_fetched_ends.specs.Fetched.{rows_upon}
use Rattle.check_fetched_ends.specs.Held.{IsHeldIn}
use Rattle.check_fetched_ends.specs.InSession.{IsFetchedIn}
use Rattle.check_fetched_ends.specs.JudgedEnds as judged
use Rattle.check_fetched_ends.specs.LateBegins.{IsLeftFree, is_free_body}
use Rattle.check_fetched_ends.specs.Marked.{MarksStand}
use Rattle.check_fetched_ends.specs.MarkedEnds.{StandsBehind}
use Rattle.check_fetched_ends.specs.declared.fetch.Fetch.{Fetch}
use Rattle.check_fetched_ends.specs.declared.fetch.Fetch.TheVariants as fetch
use Rattle.check_fetched_ends.specs.declared.clear_fetch.held.Held.{Held}
use Rattle.check_fetched_ends.specs.declared.session_fetch.in_session.InSession.{InSession}
use Rattle.check_late_laws.proofs.BegunLaws.{fetching_begins, fetching_is_alone}
use Rattle.check_late_laws.specs.Fetching.{Fetching, IsFetchingOf, dialogue_of}
use Rattle.check_late_laws.specs.FetchingLaws.{BeginsFetching}
use Rattle.check_laws.proofs.Large.Meanwhile.{sending_is_alone}
use Rattle.check_laws.specs.declared.sending_large.large_request.LargeRequest.{LargeRequest}
use Rattle.check_late_laws.specs.Late.Marking as marking
use Rattle.check_late_laws.specs.declared.late_fetch.marks.Marks.{Marks}
use Rattle.mctp_framing.specs.Cutting.{RouteFields}
use Rattle.mctp_framing.specs.Gathering.{Gathered}
use Rattle.mctp_framing.specs.Gathering.Gathered.{Whole}
use Rattle.requester_machine.specs.Holds.{Holds}
use Rattle.requester_machine.specs.Setup.{ReqSetup}
use Rattle.requester_machine.specs.UnderWay.{HasSizes}
use Rattle.capture_machine.specs.Rounds.{Round}
use Rattle.capture_machine.specs.SessionTable.{Row}
use Rattle.world_machine.specs.Setup.{Configuration}

-- ---- What is left is left where nothing is fetched, and no large request is sent.

-- What is kept then.
pub record AtRest (w : Configuration) (q : ReqSetup) (older : List (List ℕ)) (party : Party) (rows : List Row) : Type 0 where
  pub kept : Kept
  pub keeps : Keeps w q older kept
  pub party_is : IsParty party w q kept rows

sent_not : (w : Configuration) (q : ReqSetup) (older : List (List ℕ)) (rows : List Row) (party : Party) (large : Option LargeRequest) (k : Kept) → Keeps w q older k → conversations.StandsAs party large w q older rows → AtRest w q older party rows
sent_not w q older rows party None k keeps stands = record { kept = stands.0; keeps = stands.1; party_is = stands.2 }
sent_not w q older rows party (Some large) k keeps stands = absurd (sending_is_alone w q older stands.0 k stands.1.sending keeps)

pub at_rest : (w : Configuration) (q : ReqSetup) (older : List (List ℕ)) (rows : List Row) (talk : Conversation) (o : Option Fetch) (k : Kept) → Keeps w q older k → judged.StandsAs talk o w q older rows → AtRest w q older talk.party rows
at_rest w q older rows talk None k keeps stands = sent_not w q older rows talk.party talk.large k keeps stands
at_rest w q older rows talk (Some large) k keeps stands = absurd ((fetching_is_alone w q older stands.1.0 stands.1.1).0 k keeps)

pub none_fetched : (w : Configuration) (q : ReqSetup) (older : List (List ℕ)) (rows : List Row) (talk : Conversation) (o : Option Fetch) (k : Kept) → Keeps w q older k → judged.StandsAs talk o w q older rows → is_some o ≡ true → ⊥
none_fetched w q older rows talk None k keeps stands is = false≢true is
none_fetched w q older rows talk (Some large) k keeps stands is = (fetching_is_alone w q older stands.1.0 stands.1.1).0 k keeps

none_sent_in : (w : Configuration) (q : ReqSetup) (older : List (List ℕ)) (rows : List Row) (party : Party) (large : Option LargeRequest) (k : Kept) → Keeps w q older k → conversations.StandsAs party large w q older rows → is_some large ≡ true → ⊥
none_sent_in w q older rows party None k keeps stands is = false≢true is
none_sent_in w q older rows party (Some large) k keeps stands is = sending_is_alone w q older stands.0 k stands.1.sending keeps

pub none_sent : (w : Configuration) (q : ReqSetup) (older : List (List ℕ)) (rows : List Row) (talk : Conversation) (o : Option Fetch) (k : Kept) → Keeps w q older k → judged.StandsAs talk o w q older rows → is_some talk.large ≡ true → ⊥
none_sent w q older rows talk None k keeps stands is = none_sent_in w q older rows talk.party talk.large k keeps stands is
none_sent w q older rows talk (Some large) k keeps stands is = false≢true (sym (ap (λ (x : Option LargeRequest). is_some x) stands.0) ∙ is)

-- ---- Of an answer.

-- The round is the same in each form of what is kept.
pub one_round : (w : Configuration) (q : ReqSetup) (older : List (List ℕ)) (k other : Kept) → Keeps w q older k → Keeps w q older other → (round its : Round) → k.round ≡ Some round → other.round ≡ Some its → its ≡ round
one_round w q older k other keeps keeps_other round its is theirs =
    let alike = (walks_alike w q older (restored other) (restored k) (kept_is_restored w q older other keeps_other).0 (kept_is_restored w q older k keeps).0).alike in
    same_Some its round (sym theirs ∙ alike.round ∙ is)

module _ (w : Configuration) (q : ReqSetup) (older : List (List ℕ)) (rows : List Row) (packet : List ℕ) (route : RouteFields) (answer : List ℕ) where
  -- Where no such answer to GET_MEASUREMENTS or PSK_EXCHANGE in the clear is left.
  abbrev pub NoneFree : Type 0
  NoneFree = (k : Kept) → Keeps w q older k → IsLeftFree w k route.tag answer → ⊥

  -- By one walk of all.
  pub none_of_each : (k : Kept) → Keeps w q older k → (IsLeftFree w k route.tag answer → ⊥) → NoneFree
  none_of_each k keeps none other keeps_other left =
      let own = left_same w q older other k route.tag answer keeps_other keeps (left.0, left.1, left.3, left.4) in
      let same : left.0 ≡ own.0 = one_round w q older k other keeps keeps_other own.0 left.0 own.1.0 left.1.0 in
      none (own.0, own.1, subst (λ (x : Round). is_free_body x.body ≡ true) same left.2, own.2, own.3)

  -- Where the tests fail.
  pub none_tested : (k : Kept) → Keeps w q older k → (turn : AnswersInTurn k route answer) → Holds k.setup (restored k).requester → HasSizes k.setup → (AreTested w q older k route answer turn → ⊥) → NoneFree
  none_tested k keeps turn holds sizes none = none_of_each k keeps (λ left. none (left_tested w q older k route answer turn keeps holds sizes left))

  module _ (at : IsAnswer w q older packet route answer) (k : Kept) (keeps : Keeps w q older k) (talk : Conversation) (none : talk.large ≡ None) (o : Option Fetch) (rest : o ≡ None) (marks : Marks) (marked : MarksStand marks w q older) (new : Party) (table : List Seen) where
    -- It goes on, and nothing is fetched.
    pub passed_on : (next : Kept) → RepliesKept w k (Whole route answer) next → StandBehind new table w q older rows k next → next.responder ≡ k.responder → StandsBehind (record { ends = record { talk = record talk { party = new }; fetched = o }; marks = marks }) table w q older rows packet
    passed_on next replies stands same =
        let over : Keeps w q (packet ∷ older) next =
        kept_replies w q older packet at.fields k next at.parses at.other at.goes keeps (subst (λ (g : Gathered). RepliesKept w k g next) (sym at.whole) replies) in
        let behind = kept_rest w q older k keeps route answer rows packet at talk none o rest new table (next, replies, stands) in
        let before = marked (restored k) (kept_is_restored w q older k keeps).0 in
        (behind, one_walk_marks marks w q (packet ∷ older) (restored next) (kept_is_restored w q (packet ∷ older) next over).0 (subst (marking.StandsFor marks) (sym same) before))

    -- A fetch begins.
    pub fetched_on : (held : Held) (next : Fetching) → BeginsFetching w k (Whole route answer) next → IsHeldIn new held w q next (rows_upon k next.kept rows) → StandsForRows table w (length older + 1) (rows_upon k next.kept rows) → next.kept.responder ≡ k.responder
        → StandsBehind (record { ends = record { talk = record talk { party = new }; fetched = Some (fetch.InClear held) }; marks = marks }) table w q older rows packet
    fetched_on held next begins is entries same =
        let over : IsFetchingOf w q (packet ∷ older) next =
        (fetching_begins w q older packet at.fields k next at.parses at.other at.goes keeps (subst (λ (g : Gathered). BeginsFetching w k g next) (sym at.whole) begins)).0 in
        let behind = begun_on w q older rows packet route answer at k next (record talk { party = new }) (fetch.InClear held) table keeps begins none is entries in
        let before = marked (restored k) (kept_is_restored w q older k keeps).0 in
        (behind, one_walk_marks marks w q (packet ∷ older) (dialogue_of next over.stands.0) (over.all over.stands.0 over.stands.1) (subst (marking.StandsFor marks) (sym same) before))

    -- So in a session.
    pub fetched_in : (fetched : InSession) (next : Fetching) → BeginsFetching w k (Whole route answer) next → IsFetchedIn new fetched w q next (rows_upon k next.kept rows) → StandsForRows table w (length older + 1) (rows_upon k next.kept rows) → next.kept.responder ≡ k.responder
        → StandsBehind (record { ends = record { talk = record talk { party = new }; fetched = Some (fetch.InSession fetched) }; marks = marks }) table w q older rows packet
    fetched_in fetched next begins is entries same =
        let over : IsFetchingOf w q (packet ∷ older) next =
        (fetching_begins w q older packet at.fields k next at.parses at.other at.goes keeps (subst (λ (g : Gathered). BeginsFetching w k g next) (sym at.whole) begins)).0 in
        let behind = begun_on w q older rows packet route answer at k next (record talk { party = new }) (fetch.InSession fetched) table keeps begins none is entries in
        let before = marked (restored k) (kept_is_restored w q older k keeps).0 in
        (behind, one_walk_marks marks w q (packet ∷ older) (dialogue_of next over.stands.0) (over.all over.stands.0 over.stands.1) (subst (marking.StandsFor marks) (sym same) before))
