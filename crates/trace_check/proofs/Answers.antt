-- What a packet for a requester comes to: it goes on, it is a part of a large response, or it is refused.
use Rattle.std.proofs.Common.{◌≡◌, ◌==◌, ◌&&◌, ◌+◌, ◌∙◌, ℕ, List, ◌∷◌, length, refl, sym, ap, subst, Bool, true, false, Some, Result, Ok, Err, inl, inr, arith}
use Rattle.std.specs.Prelude.{IfOk, OnOk}
use Rattle.mctp_framing.specs.Cutting.{RouteFields}
use Rattle.mctp_framing.specs.Gathering.{Gathered, gathered}
use Rattle.mctp_framing.specs.Gathering.Gathered.{Dropped, More, Whole}
use Rattle.mctp_framing.specs.Lending.{TakesPacket}
use Rattle.mctp_framing.specs.Packet.{PacketFields, parsed}
use Rattle.requester_machine.specs.Setup.{ReqSetup}
use Rattle.spdm_grammar.specs.declared.told.why.Why as declared
use Rattle.spdm_grammar.specs.declared.told.why.Why.TheVariants as why
use Rattle.spdm_basis.specs.declared.DropCause.{DropCause}
use Rattle.spdm_basis.specs.declared.OutOfMemory.{OutOfMemory}
use Rattle.spdm_basis.specs.declared.PacketFault.{PacketFault}
use Rattle.spdm_machine.specs.Packets.{fields_in, gathered_from}
use Rattle.check_ends.specs.Conversation.{IsAnswer, WalksShow}
use Rattle.check_laws.proofs.Kept.{answered_gathers, answered_kept}
use Rattle.check_laws.proofs.KeptAnswers.{goes_to}
use Rattle.check_laws.proofs.PairWalks.{IsFor, of_it, walks_setup}
use Rattle.check_laws.proofs.RowsKept.{more_packets}
use Rattle.check_laws.proofs.Telling.{IsOfOne, answer_of_one, going_told}
use Rattle.check_laws.specs.Judged.{IsPair, why_of}
use Rattle.check_laws.specs.Order.{answered_why, is_answer, is_known, is_request, order_why, ordered_why, round_answered, round_by_answer, round_of}
use Rattle.check_laws.specs.Rows.{StandsForRows}
use Rattle.check_laws.specs.Walks.{StepsBy, StepsTo}
use Rattle.check_laws.specs.declared.verdict.Seen.{Seen}
use Rattle.check_fetched_ends.proofs.EndsStay.{awaiting_ends}
use Rattle.check_fetched_ends.proofs.MarksStay.{awaiting_marked}
use Rattle.check_fetched_ends.specs.JudgedEnds as judged_ends
use Rattle.check_fetched_ends.specs.MarkedEnds as marked_ends
use Rattle.check_fetched_ends.specs.MarkedEnds.{StandsBehind}
use Rattle.check_fetched_ends.specs.declared.marked.MarkedEnds.{MarkedEnds}
use Rattle.trace_check.proofs.Refusals.{answer_refused, order_refused}
use Rattle.trace_check.proofs.Requests.{others_stand, rests}
use Rattle.trace_check.proofs.Walked.{known_is}
use Rattle.trace_check.specs.Bodies.{IsAnswerJudged}
use Rattle.trace_check.specs.JudgedPair.{ComesBehind, GoesOn, IsRefused, IsTaken, StandsFor, pair_of}
use Rattle.trace_check.specs.declared.judged_pair.JudgedPair.{JudgedPair}
use Rattle.capture_machine.specs.Capture.{RepliesBy}
use Rattle.capture_machine.specs.SessionTable.{Row, rows_between}
use Rattle.world_machine.specs.Setup.{Configuration}

module _ (w : Configuration) (q : ReqSetup) (older : List (List ℕ)) (rows : List Row) (packet : List ℕ) (p : PacketFields) (before : ComesBehind w q older rows packet p)
    (is : is_answer w.responder.eid q.eid p ≡ true) (seen : JudgedPair) (stands : StandsFor seen w q older rows) (shown : WalksShow) where
  abbrev own : ℕ
  own = w.responder.eid

  abbrev g : Gathered
  g = gathered_from q.eid own older p

  ends : IsFor w false q.eid p
  ends = goes_to w q.eid p is

  of_one : IsOfOne own p q.eid
  of_one = subst (IsOfOne own p) ends.end (answer_of_one own p ends.to_is)

  no_request : is_request own q.eid p ≡ false
  no_request = ap (λ (b : Bool). b && p.from == q.eid) ends.to_is

  -- It goes on.
  pub answer_goes : (new : JudgedPair) (table : List Seen) → StandsBehind new.ends table w q older rows packet → IsPair (pair_of new) own q.eid (packet ∷ older)
      → new.hint ≡ seen.hint → new.psk ≡ seen.psk → GoesOn new table w q older packet rows
  answer_goes new table there order hint psk = record {
    behind = rows_between there.0.before there.0.after rows;
    shows = shown w q older packet p there.0.before there.0.after rows before.sound.apart before.known before.parses (inr is) there.0.came there.0.goes before.shows;
    stands = record {
      order = order;
      talk = (there.0.stands, there.1);
      hint = hint ∙ stands.hint;
      psk = psk ∙ stands.psk;
    };
    others = others_stand w q older rows packet p before of_one there.0.before there.0.after (walks_setup w q (packet ∷ older) there.0.after there.0.goes);
    entries = there.0.entries;
  }

  -- It is out of order.
  pub answer_wrong : (why : declared.Why) → answered_why (round_of own q.eid older) g ≡ Some (why_of why) → IsRefused w older packet (why_of why)
  unfolding order_why
  answer_wrong why wrong =
      let known : is_known p.to w.requesters ≡ true = ap (λ (n : ℕ). is_known n w.requesters) ends.end ∙ known_is w.requesters q.eid q before.known in
      let its : answered_why (round_of own p.to older) (gathered_from p.to own older p) ≡ Some (why_of why) = subst (λ (n : ℕ). answered_why (round_of own n older) (gathered_from n own older p) ≡ Some (why_of why)) (sym ends.end) wrong in
      let told : ordered_why own w.requesters older (Ok p) ≡ Some (why_of why) = going_told own w.requesters older p ends.to_is (ends.from_is refl) known ∙ its in
      order_refused w older rows packet (why_of why) before.shows.0 before.shows.1 (ap (ordered_why own w.requesters older) before.parses ∙ told)

  -- The packet was given to the assembler of answers.
  module _ (new : JudgedPair) (table : List Seen) (takes : TakesPacket p seen.answers new.answers) (at : new.eid.number ≡ seen.eid.number) (others : new.requests ≡ seen.requests) (hint : new.hint ≡ seen.hint) (psk : new.psk ≡ seen.psk) where
    pair_behind : (x : Gathered) → x ≡ gathered seen.answers.receiver (fields_in older) p → new.round ≡ round_by_answer seen.round x → IsPair (pair_of new) own q.eid (packet ∷ older)
    pair_behind x gives round = answered_kept (pair_of seen) (pair_of new) own q.eid older packet p x stands.order before.parses is takes at others gives round

    -- More of a body is awaited.
    pub answer_waits : More ≡ gathered seen.answers.receiver (fields_in older) p → new.round ≡ seen.round → new.ends ≡ seen.ends → StandsForRows table w (length older) rows → GoesOn new table w q older packet rows
    unfolding StepsTo
    answer_waits gives round same entries =
        let more : g ≡ More = sym (answered_gathers (pair_of seen) own q.eid older p More stands.order gives) in
        let talk : marked_ends.StandsFor new.ends w q older rows = subst (λ (x : MarkedEnds). marked_ends.StandsFor x w q older rows) (sym same) stands.talk in
        let at = rests new.ends w q older rows talk in
        let d = at.0 in
        let replies : RepliesBy w d g d = subst (λ (x : Gathered). RepliesBy w d x d) (sym more) refl in
        let step : StepsBy w q.eid older d d (parsed packet) = subst (λ (x : Result PacketFields PacketFault). StepsBy w q.eid older d d x) (sym before.parses) (of_it w older q.eid p d d false ends replies) in
        let waits = awaiting_marked awaiting_ends new.ends w q older packet p rows before.sound.responder.beat before.parses (inr (no_request, is, more)) talk in
        answer_goes new table ((
          record {
            before = d;
            came = at.1.walk;
            after = d;
            goes = (d, at.1.walk, step);
            stands = subst (λ (x : List Row). judged_ends.StandsFor new.ends.ends w q (packet ∷ older) x) (sym at.1.same) waits.0;
            entries = subst (StandsForRows table w (length older + 1)) (sym at.1.same) (more_packets table w (length older) (length older + 1) rows (omega arith) entries);
          },
          waits.1,
        )) (pair_behind More gives round) hint psk

    -- It completes an answer.
    pub answer_told : (route : RouteFields) (answer : List ℕ) (result : Result Unit declared.Why) → Whole route answer ≡ gathered seen.answers.receiver (fields_in older) p
        → OnOk result (new.round ≡ round_answered seen.round) → IsAnswerJudged w q older rows packet route answer result new.ends table → IsTaken w q older packet rows result new table
    answer_told route answer result gives round judged = by_result result round judged
      where
        whole : Whole route answer ≡ g
        whole = answered_gathers (pair_of seen) own q.eid older p (Whole route answer) stands.order gives

        by_result : (x : Result Unit declared.Why) → OnOk x (new.round ≡ round_answered seen.round) → IsAnswerJudged w q older rows packet route answer x new.ends table
            → IsTaken w q older packet rows x new table
        by_result (Ok u) turn (inl c) = answer_goes new table c (pair_behind (Whole route answer) gives turn) hint psk
        by_result (Err why) turn (inl c) = answer_refused w q older rows packet p before (why_of why) c.0 is (Whole route answer) whole c.1
        by_result (Ok u) turn (inr c) = absurd c
        by_result (Err why) turn (inr c) = answer_wrong why (subst (λ (x : Gathered). answered_why (round_of own q.eid older) x ≡ Some (why_of why)) whole c)

    -- The same, where memory may be wanted.
    pub answer_given : (route : RouteFields) (answer : List ℕ) (result : Result (Result Unit declared.Why) OutOfMemory) → Whole route answer ≡ gathered seen.answers.receiver (fields_in older) p
        → IfOk result (λ told. OnOk told (new.round ≡ round_answered seen.round)) → IfOk result (λ told. IsAnswerJudged w q older rows packet route answer told new.ends table)
        → IfOk result (λ told. IsTaken w q older packet rows told new table)
    answer_given route answer (Ok told) gives round judged = answer_told route answer told gives round judged
    answer_given route answer (Err fault) gives round judged = tt

  -- The answer, as it was gathered.
  pub answer_is : (route : RouteFields) (answer : List ℕ) → Whole route answer ≡ gathered seen.answers.receiver (fields_in older) p → IsAnswer w q older packet route answer
  answer_is route answer gives = record {
    fields = p;
    parses = before.parses;
    other = no_request;
    goes = is;
    whole = sym (answered_gathers (pair_of seen) own q.eid older p (Whole route answer) stands.order gives);
  }

  -- It is dropped.
  pub answer_dropped : (cause : DropCause) → Dropped cause ≡ gathered seen.answers.receiver (fields_in older) p → IsRefused w older packet (why_of why.BadPacket)
  answer_dropped cause gives =
      let dropped : Dropped cause ≡ g = answered_gathers (pair_of seen) own q.eid older p (Dropped cause) stands.order gives in
      answer_wrong why.BadPacket (subst (λ (x : Gathered). answered_why (round_of own q.eid older) x ≡ Some (why_of why.BadPacket)) dropped refl)
