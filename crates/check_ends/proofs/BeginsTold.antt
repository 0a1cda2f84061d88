-- What is kept after a request where no large one is in progress, in terms of walks.
use Rattle.std.proofs.Common.{◌≡◌, ◌∙◌, ◌+◌, ℕ, List, ◌∷◌, refl, sym, subst, length, true, false, Option, Some, None, Ok, Err, arith}
use Rattle.std.proofs.lemmas.Bool.{false≢true}
use Rattle.mctp_framing.specs.Cutting.{RouteFields}
use Rattle.mctp_framing.specs.Gathering.{Gathered}
use Rattle.mctp_framing.specs.Gathering.Gathered.{Whole}
use Rattle.requester_machine.specs.Setup.{ReqSetup}
use Rattle.spdm_grammar.specs.declared.told.why.Why as declared
use Rattle.check_ends.proofs.AskedWalks.{asked_reason, kept_behind, none_on, walk_before, walk_behind}
use Rattle.check_ends.proofs.InTurn.{AsksInTurn}
use Rattle.check_ends.proofs.RequestRows.{IsToldNothing, before, chunk_session, over_before, places_behind, table_behind}
use Rattle.check_ends.proofs.SendingTold.{in_round}
use Rattle.check_ends.proofs.SendingWalks.{form, walk_form}
use Rattle.check_ends.proofs.WalkRows.{places_for}
use Rattle.check_requester.specs.JudgedRequester.{IsAsker}
use Rattle.check_ends.specs.Conversation.{IsBeginning, IsJudgedRequest, IsRequest, StandsBehind, meanwhile}
use Rattle.check_requester.specs.LargeAsked.{IsBegun}
use Rattle.check_ends.specs.Party.{IsAskedWhole, IsParty}
use Rattle.check_requester.specs.declared.judged_requester.JudgedRequester.{JudgedRequester}
use Rattle.check_ends.specs.declared.party.Party.{Party}
use Rattle.check_laws.proofs.Rounded.{no_copy}
use Rattle.check_laws.specs.ChangeLaws.{CopyIsRequest, RoundIsRequest}
use Rattle.check_laws.specs.Judged.{why_of}
use Rattle.check_laws.specs.Keeping.{Keeps, Kept, restored}
use Rattle.check_laws.specs.declared.verdict.Seen.{Seen}
use Rattle.check_laws.proofs.Large.Begun.{sending_begins}
use Rattle.check_laws.specs.Large.LargeRequests as large_requests
use Rattle.check_laws.specs.Large.Sending.{IsSendingOf, Sending}
use Rattle.check_laws.specs.Large.SendingLaws.{BeginsSending, begun_sending}
use Rattle.check_laws.specs.declared.sending_large.large_request.LargeRequest.{LargeRequest}
use Rattle.capture_machine.specs.Capture.{may_begin}
use Rattle.capture_machine.specs.Difference.{is_copy}
use Rattle.capture_machine.specs.Rounds.{Dialogue, new_round}
use Rattle.capture_machine.specs.SessionTable.{Row, rows_between}
use Rattle.world_machine.specs.Setup.{Configuration}

pub party_with : (party : Party) (w : Configuration) (q : ReqSetup) (k : Kept) (rows : List Row) (seen : JudgedRequester) → IsParty party w q k rows → IsAsker seen q k → IsParty (record party { asker = seen }) w q k rows
party_with party w q k rows seen is asker = record { asker = asker; answerer = is.answerer; keys = is.keys; number = is.number; places = is.places }

-- ---- Whether it begins a large request.

pub not_begun : (k : Kept) (route : RouteFields) (body : List ℕ) → is_copy k.round route.tag body ≡ true → IsBeginning k route body None
not_begun k route body copy = λ next begins. false≢true (sym (no_copy k.round route.tag body begins.3) ∙ copy)

pub begun_by : (k : Kept) (route : RouteFields) (body : List ℕ) → AsksInTurn k route body → is_copy k.round route.tag body ≡ false → may_begin k.round body ≡ true → (o : Option LargeRequest) → IsBegun k body o → IsBeginning k route body o
begun_by k route body turn other may (Some large) c =
    (begun_sending k route.tag body c.1.0, (turn.body, turn.owner, may, turn.tag other, (c.0.0, c.1.0, c.0.1, c.1.1, c.1.2, refl)), c.1.3 route.tag)
begun_by k route body turn other may None c = λ next begins. c begins.4.0 begins.4.1 begins.4.2 begins.4.3 begins.4.4

-- ---- What is kept behind it.

module _ (w : Configuration) (q : ReqSetup) (older : List (List ℕ)) (rows : List Row) (packet : List ℕ) (route : RouteFields) (body : List ℕ) (at : IsRequest w q older packet route body) (k : Kept) (keeps : Keeps w q older k) where
  -- It begins a large one.
  module _ (copies : CopyIsRequest) (rounds : RoundIsRequest) (party : Party) (is : IsParty party w q k rows) (table : List Seen) (told : IsToldNothing w older rows party.places table) where
    pub begins_on : (large : LargeRequest) (whole : List ℕ) → BeginsSending k (Whole route body) (begun_sending k route.tag body whole) → large_requests.StandsFor large (begun_sending k route.tag body whole) → StandsBehind party (Some large) table w q older rows packet
    begins_on large whole begins chunks =
        let next : Sending = begun_sending k route.tag body whole in
        let behind : IsSendingOf w q (packet ∷ older) next = sending_begins w q older packet at.fields k next at.parses at.comes keeps (subst (λ (g : Gathered). BeginsSending k g next) (sym at.whole) begins) in
        let n : Dialogue = form w q (packet ∷ older) next behind in
        let walk = walk_form w q (packet ∷ older) next behind in
        let none = chunk_session next behind.begins.0 behind.stands.0 behind.begins.1 in
        let from = walk_before w q older packet route body at k keeps in
        let b : Dialogue = before copies rounds w q older rows packet route body at party.places table told (restored k) from is.places n walk none in
        let rows_now : List Row = rows_between b n rows in record {
          before = b;
          came = over_before copies rounds w q older rows packet route body at party.places table told (restored k) from is.places n walk none;
          after = n;
          goes = walk;
          stands = (
            next,
            record {
              sending = behind;
              chunks = chunks;
              kept = in_round party w q k (Some (new_round route.tag body)) rows rows_now is
                  (places_for party.places n (restored (meanwhile next)) rows_now refl refl (places_behind copies rounds w q older rows packet route body at party.places table told (restored k) from is.places n walk none));
              earlier = older;
              before = keeps;
              fewer = (let l : length (packet ∷ older) ≡ length older + 1 = omega arith in omega (arith, l));
            },
          );
          entries = table_behind copies rounds w q older rows packet route body at party.places table told (restored k) from is.places n walk none;
        }

    pub beginning_on : (large : LargeRequest) (next : Sending) → BeginsSending k (Whole route body) next → large_requests.StandsFor large next → StandsBehind party (Some large) table w q older rows packet
    beginning_on large next begins chunks =
        let same : next ≡ begun_sending k route.tag body begins.4.1 = begins.4.5 in
        begins_on large begins.4.1 (subst (BeginsSending k (Whole route body)) same begins) (subst (large_requests.StandsFor large) same chunks)

  -- It goes whole.
  pub whole_on : (party : Party) (table : List Seen) → IsAskedWhole w q older rows k route body (Ok tt) party table → StandsBehind party None table w q older rows packet
  whole_on party table c = record {
    before = restored k;
    came = walk_before w q older packet route body at k keeps;
    after = restored c.0;
    goes = walk_behind w q older packet route body at k keeps c.0 c.1;
    stands = (c.0, kept_behind w q older packet route body at k keeps c.0 c.1, c.2.party);
    entries = c.2.stands;
  }

  -- It is refused.
  pub refused_on : (party : Party) (table : List Seen) (why : declared.Why) → IsBeginning k route body None → IsAskedWhole w q older rows k route body (Err why) party table → IsJudgedRequest w q older rows packet (Whole route body) (Err why) party table
  refused_on party table why none c = (none_on w q older packet route body at k keeps c.0 none, asked_reason w q older packet route body at k keeps (why_of why) c.1)
