-- What a packet of a requester comes to: it goes on, or it is refused.
use Rattle.std.specs.Prelude.{OnOk}
use Rattle.std.proofs.Common.{◌≡◌, ◌≢◌, ◌+◌, ◌∙◌, ℕ, List, ◌∷◌, length, refl, sym, ap, subst, true, Option, Some, None, Result, Ok, Err, inl, inr, arith}
use Rattle.mctp_framing.specs.Cutting.{RouteFields}
use Rattle.mctp_framing.specs.Gathering.{Gathered, gathered}
use Rattle.mctp_framing.specs.Gathering.Gathered.{Dropped, More, Whole}
use Rattle.mctp_framing.specs.Lending.{TakesPacket}
use Rattle.mctp_framing.specs.Packet.{PacketFields, parsed}
use Rattle.requester_machine.specs.Setup.{ReqSetup}
use Rattle.spdm_grammar.specs.declared.told.why.Why as declared
use Rattle.spdm_grammar.specs.declared.told.why.Why.TheVariants as why
use Rattle.spdm_basis.specs.declared.DropCause.{DropCause}
use Rattle.spdm_basis.specs.declared.PacketFault.{PacketFault}
use Rattle.spdm_machine.specs.Packets.{fields_in, gathered_from}
use Rattle.check_ends.proofs.WalkRows.{places_for}
use Rattle.check_ends.specs.Conversation as conversations
use Rattle.check_ends.specs.Conversation.{IsRequest, WalksShow, meanwhile}
use Rattle.check_ends.specs.declared.conversation.Conversation.{Conversation}
use Rattle.check_ends.specs.declared.party.Party.{Party}
use Rattle.check_laws.proofs.IdleRows.{idle_rows_stay}
use Rattle.check_laws.proofs.Kept.{asked_gathers, asked_kept, stays_pair}
use Rattle.check_laws.proofs.KeptAnswers.{kept_is_restored}
use Rattle.check_laws.proofs.KeptSteps.{comes_from}
use Rattle.check_laws.proofs.OrderedRows.{other_places_stay}
use Rattle.check_laws.proofs.PairWalks.{IsFor, of_it, walks_setup}
use Rattle.check_laws.proofs.RowsKept.{more_packets}
use Rattle.check_laws.proofs.Telling.{IsOfOne, coming_told, request_of_one}
use Rattle.check_laws.specs.Judged.{IsPair, why_of}
use Rattle.check_laws.specs.Keeping.{restored}
use Rattle.check_laws.specs.Order.{asked_why, is_known, is_request, order_why, ordered_why, round_by_request, round_of}
use Rattle.check_laws.specs.Rows.{StandsForRows}
use Rattle.check_laws.specs.Walks.{StepsBy, StepsTo, Walks}
use Rattle.check_laws.specs.declared.verdict.Seen.{Seen}
use Rattle.check_fetched_ends.proofs.EndsKept.{beside_of}
use Rattle.check_fetched_ends.proofs.EndsStay.{awaiting_ends, other_ends}
use Rattle.check_fetched_ends.proofs.MarksStay.{awaiting_marked, other_marked}
use Rattle.check_fetched_ends.specs.JudgedEnds.{StandsAs}
use Rattle.check_fetched_ends.specs.JudgedEnds as judged_ends
use Rattle.check_fetched_ends.specs.MarkedEnds as marked_ends
use Rattle.check_fetched_ends.specs.MarkedEnds.{StandsBehind}
use Rattle.check_fetched_ends.specs.declared.marked.MarkedEnds.{MarkedEnds}
use Rattle.check_fetched_ends.specs.declared.fetch.Fetch.{Fetch}
use Rattle.check_late_laws.specs.Fetching as fetching
use Rattle.check_laws.specs.Large.Sending.{dialogue_of}
use Rattle.check_laws.specs.declared.sending_large.large_request.LargeRequest.{LargeRequest}
use Rattle.trace_check.proofs.Refusals.{order_refused, request_refused}
use Rattle.trace_check.proofs.Walked.{apart_is, known_is}
use Rattle.trace_check.specs.Bodies.{IsRequestJudged}
use Rattle.trace_check.specs.JudgedPair.{ComesBehind, GoesOn, IsRefused, IsTaken, StandsFor, pair_of}
use Rattle.trace_check.specs.declared.judged_pair.JudgedPair.{JudgedPair}
use Rattle.capture_machine.specs.Capture.{AsksBy}
use Rattle.capture_machine.specs.Rounds.{Dialogue}
use Rattle.capture_machine.specs.SessionTable.{Row, rows_between}
use Rattle.world_machine.specs.Setup.{Configuration}

-- ---- Other requesters.

module _ (w : Configuration) (q : ReqSetup) (older : List (List ℕ)) (rows : List Row) (packet : List ℕ) (p : PacketFields) (before : ComesBehind w q older rows packet p) (of : IsOfOne w.responder.eid p q.eid) where
  -- What is kept of them is kept after it, among the rows that it makes.
  pub others_stand : (d next : Dialogue) → next.setup ≡ q → (seen : JudgedPair) (other : ReqSetup) → other.eid ≢ q.eid → other.eid ≢ w.responder.eid → StandsFor seen w other older rows → StandsFor seen w other (packet ∷ older) (rows_between d next rows)
  others_stand d next its seen other apart away s =
      let none = of other.eid apart in
      let far : other.eid ≢ next.setup.eid = λ same. apart (same ∙ ap (λ (x : ReqSetup). x.eid) its) in record {
        order = stays_pair (pair_of seen) w.responder.eid other.eid older packet p before.parses away none.0 none.1 s.order;
        talk = other_marked (other_ends other_places_stay) seen.ends w other older packet p d next rows far before.parses none.0 none.1 s.talk;
        hint = s.hint;
        psk = s.psk;
      }

-- ---- Nothing changes.

-- A walk after packets, of which the rows are those that a packet makes that changes nothing.
pub record RestsAt (w : Configuration) (q : ReqSetup) (older : List (List ℕ)) (rows : List Row) (d : Dialogue) : Type 0 where
  pub walk : Walks w q older d
  pub same : rows_between d d rows ≡ rows

rests_as : (party : Party) (large : Option LargeRequest) (w : Configuration) (q : ReqSetup) (older : List (List ℕ)) (rows : List Row) → conversations.StandsAs party large w q older rows → (d : Dialogue) × RestsAt w q older rows d
rests_as party None w q older rows stands = (
  restored stands.0,
  record {
    walk = (kept_is_restored w q older stands.0 stands.1).0;
    same = idle_rows_stay party.places (restored stands.0) rows stands.2.places;
  },
)
rests_as party (Some large) w q older rows stands =
    let s = stands.0 in
    let way = stands.1 in
    let b = way.sending.begins in
    let whole = way.sending.stands in
    let d = dialogue_of s b.0 whole.0 in (
      d,
      record {
        walk = (way.sending.all b.0 whole.0 b.1 whole.1).0;
        same = idle_rows_stay party.places d rows (places_for party.places (restored (meanwhile s)) d rows refl refl way.kept.places);
      },
    )

rests_by : (talk : Conversation) (fetched : Option Fetch) (w : Configuration) (q : ReqSetup) (older : List (List ℕ)) (rows : List Row) → StandsAs talk fetched w q older rows → (d : Dialogue) × RestsAt w q older rows d
rests_by talk None w q older rows stands = rests_as talk.party talk.large w q older rows stands
rests_by talk (Some fetched) w q older rows stands =
    let f = stands.1.0 in
    let own = stands.1.1 in
    let d = fetching.dialogue_of f own.stands.0 in (
      d,
      record {
        walk = own.all own.stands.0 own.stands.1;
        same = idle_rows_stay talk.party.places d rows
            (places_for talk.party.places (restored f.kept) d rows refl refl (beside_of talk.party fetched w q f rows stands.1.2).places);
      },
    )

pub rests : (seen : MarkedEnds) (w : Configuration) (q : ReqSetup) (older : List (List ℕ)) (rows : List Row) → marked_ends.StandsFor seen w q older rows → (d : Dialogue) × RestsAt w q older rows d
rests seen w q older rows stands = rests_by seen.ends.talk seen.ends.fetched w q older rows stands.0

-- ---- A packet of this requester.

module _ (w : Configuration) (q : ReqSetup) (older : List (List ℕ)) (rows : List Row) (packet : List ℕ) (p : PacketFields) (before : ComesBehind w q older rows packet p)
    (is : is_request w.responder.eid q.eid p ≡ true) (seen : JudgedPair) (stands : StandsFor seen w q older rows) (shown : WalksShow) where
  abbrev own : ℕ
  own = w.responder.eid

  abbrev g : Gathered
  g = gathered_from own q.eid older p

  ends : IsFor w true q.eid p
  ends = comes_from w q.eid p is

  of_one : IsOfOne own p q.eid
  of_one = subst (IsOfOne own p) ends.end (request_of_one own p ends.to_is)

  -- It goes on.
  pub request_goes : (new : JudgedPair) (table : List Seen) → StandsBehind new.ends table w q older rows packet → IsPair (pair_of new) own q.eid (packet ∷ older)
      → new.hint ≡ seen.hint → new.psk ≡ seen.psk → GoesOn new table w q older packet rows
  request_goes new table there order hint psk = record {
    behind = rows_between there.0.before there.0.after rows;
    shows = shown w q older packet p there.0.before there.0.after rows before.sound.apart before.known before.parses (inl is) there.0.came there.0.goes before.shows;
    stands = record {
      order = order;
      talk = (there.0.stands, there.1);
      hint = hint ∙ stands.hint;
      psk = psk ∙ stands.psk;
    };
    others = others_stand w q older rows packet p before of_one there.0.before there.0.after (walks_setup w q (packet ∷ older) there.0.after there.0.goes);
    entries = there.0.entries;
  }

  -- It is out of order.
  pub request_wrong : (why : declared.Why) → asked_why (round_of own q.eid older) g ≡ Some (why_of why) → IsRefused w older packet (why_of why)
  unfolding order_why
  request_wrong why wrong =
      let known : is_known p.from w.requesters ≡ true = ap (λ (n : ℕ). is_known n w.requesters) ends.end ∙ known_is w.requesters q.eid q before.known in
      let its : asked_why (round_of own p.from older) (gathered_from own p.from older p) ≡ Some (why_of why) = subst (λ (n : ℕ). asked_why (round_of own n older) (gathered_from own n older p) ≡ Some (why_of why)) (sym ends.end) wrong in
      let told : ordered_why own w.requesters older (Ok p) ≡ Some (why_of why) = coming_told own w.requesters older p ends.to_is known ∙ its in
      order_refused w older rows packet (why_of why) before.shows.0 before.shows.1 (ap (ordered_why own w.requesters older) before.parses ∙ told)

  apart : q.eid ≢ own
  apart = apart_is own w.requesters q.eid q before.sound.apart before.known

  -- The packet was given to the assembler of requests.
  module _ (new : JudgedPair) (table : List Seen) (takes : TakesPacket p seen.requests new.requests) (at : new.eid.number ≡ seen.eid.number) (others : new.answers ≡ seen.answers) (hint : new.hint ≡ seen.hint) (psk : new.psk ≡ seen.psk) where
    pair_behind : (x : Gathered) → x ≡ gathered seen.requests.receiver (fields_in older) p → new.round ≡ round_by_request seen.round x → IsPair (pair_of new) own q.eid (packet ∷ older)
    pair_behind x gives round = asked_kept (pair_of seen) (pair_of new) own q.eid older packet p x stands.order before.parses is apart takes at others gives round

    -- More of a body is awaited.
    pub request_waits : More ≡ gathered seen.requests.receiver (fields_in older) p → new.round ≡ seen.round → new.ends ≡ seen.ends → StandsForRows table w (length older) rows → GoesOn new table w q older packet rows
    unfolding StepsTo
    request_waits gives round same entries =
        let more : g ≡ More = sym (asked_gathers (pair_of seen) own q.eid older p More stands.order gives) in
        let talk : marked_ends.StandsFor new.ends w q older rows = subst (λ (x : MarkedEnds). marked_ends.StandsFor x w q older rows) (sym same) stands.talk in
        let at = rests new.ends w q older rows talk in
        let d = at.0 in
        let asks : AsksBy d g d = subst (λ (x : Gathered). AsksBy d x d) (sym more) refl in
        let step : StepsBy w q.eid older d d (parsed packet) = subst (λ (x : Result PacketFields PacketFault). StepsBy w q.eid older d d x) (sym before.parses) (of_it w older q.eid p d d true ends asks) in
        let waits = awaiting_marked awaiting_ends new.ends w q older packet p rows before.sound.responder.beat before.parses (inl (is, more)) talk in
        request_goes new table ((
          record {
            before = d;
            came = at.1.walk;
            after = d;
            goes = (d, at.1.walk, step);
            stands = subst (λ (x : List Row). judged_ends.StandsFor new.ends.ends w q (packet ∷ older) x) (sym at.1.same) waits.0;
            entries = subst (StandsForRows table w (length older + 1)) (sym at.1.same) (more_packets table w (length older) (length older + 1) rows (omega arith) entries);
          },
          waits.1,
        )) (pair_behind More gives round) hint psk

    -- It completes a request.
    pub request_told : (route : RouteFields) (body : List ℕ) (result : Result Unit declared.Why) → Whole route body ≡ gathered seen.requests.receiver (fields_in older) p
        → OnOk result (new.round ≡ round_by_request seen.round (Whole route body)) → IsRequestJudged w q older rows packet route body result new.ends table → IsTaken w q older packet rows result new table
    request_told route body result gives round judged = by_result result round judged
      where
        whole : Whole route body ≡ g
        whole = asked_gathers (pair_of seen) own q.eid older p (Whole route body) stands.order gives

        by_result : (x : Result Unit declared.Why) → OnOk x (new.round ≡ round_by_request seen.round (Whole route body)) → IsRequestJudged w q older rows packet route body x new.ends table
            → IsTaken w q older packet rows x new table
        by_result (Ok u) turn (inl c) = request_goes new table c (pair_behind (Whole route body) gives turn) hint psk
        by_result (Err why) turn (inl c) = request_refused w q older rows packet p before (why_of why) c.0 is (Whole route body) whole c.1
        by_result (Ok u) turn (inr c) = absurd c
        by_result (Err why) turn (inr c) = request_wrong why (subst (λ (x : Gathered). asked_why (round_of own q.eid older) x ≡ Some (why_of why)) whole c)

  -- The request, as it was gathered.
  pub request_is : (route : RouteFields) (body : List ℕ) → Whole route body ≡ gathered seen.requests.receiver (fields_in older) p → IsRequest w q older packet route body
  request_is route body gives = record {
    fields = p;
    parses = before.parses;
    comes = is;
    whole = sym (asked_gathers (pair_of seen) own q.eid older p (Whole route body) stands.order gives);
  }

  -- It is dropped.
  pub request_dropped : (cause : DropCause) → Dropped cause ≡ gathered seen.requests.receiver (fields_in older) p → IsRefused w older packet (why_of why.BadPacket)
  request_dropped cause gives =
      let dropped : Dropped cause ≡ g = asked_gathers (pair_of seen) own q.eid older p (Dropped cause) stands.order gives in
      request_wrong why.BadPacket (subst (λ (x : Gathered). asked_why (round_of own q.eid older) x ≡ Some (why_of why.BadPacket)) dropped refl)
