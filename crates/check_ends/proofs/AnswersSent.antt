-- What is reported of an answer while a large request is sent, in terms of walks.
use Rattle.std.proofs.Common.{◌≡◌, ◌∙◌, ◌≤◌, ◌<◌, ◌+◌, ◌-◌, ◌^◌, ◌==◌, ◌||◌, ℕ, List, [], ◌∷◌, refl, sym, ap, subst, drop, length, Bool, true, false, cond, Option, Some, None, Err, Result, inl, inr, arith}
use Rattle.std.proofs.lemmas.Option.{none-some, same_Some}
use Rattle.mctp_framing.specs.Cutting.{RouteFields}
use Rattle.mctp_framing.specs.Gathering.{Gathered}
use Rattle.mctp_framing.specs.Gathering.Gathered.{Whole}
use Rattle.mctp_framing.specs.Packet.{PacketFields}
use Rattle.requester_machine.specs.Setup.{ReqSetup}
use Rattle.responder_machine.specs.BoundLaws.{messages_of}
use Rattle.responder_machine.specs.History.{History}
use Rattle.responder_machine.specs.Answer.{Free}
use Rattle.responder_machine.specs.May.{on_body, with_dropped}
use Rattle.responder_machine.specs.Responder.{after as behind_by}
use Rattle.responder_machine.specs.Responder.Outcome.{Same}
use Rattle.responder_machine.specs.Setup.{RspSetup, towards}
use Rattle.spdm_grammar.specs.declared.told.why.Why as declared
use Rattle.spdm_grammar.specs.declared.told.why.Why.TheVariants as late
use Rattle.spdm_basis.specs.declared.PacketFault.{PacketFault}
use Rattle.spdm_machine.specs.Packets.{body_type}
use Rattle.check_laws.proofs.AnswerChanges.{kept_answer_changes}
use Rattle.check_laws.proofs.ApartShown.{apart_is_shown}
use Rattle.check_laws.proofs.LargeShown.{large_is_shown}
use Rattle.check_laws.proofs.PlainShown.{plain_is_shown}
use Rattle.check_laws.specs.AnswersShown.{values_shown_by}
use Rattle.check_laws.specs.ApartShown.{IsApartShown}
use Rattle.check_laws.specs.ChangeLaws.{AckAcceptsNone, AnswerAsksNone}
use Rattle.check_laws.specs.Changes.{IsChange, IsStep, WalksStep, answered_between, asked_between, begun_between, views_in}
use Rattle.check_laws.specs.DropsShown.{IsShownAnswer, drops_shown_by, outcome_shown}
use Rattle.check_laws.specs.Judged.{why_of}
use Rattle.check_laws.specs.KeptChanges.{IsAnswerStep, begun_shown, taken_shown}
use Rattle.check_laws.specs.Keeping.{restored}
use Rattle.check_laws.specs.Order.{replies_wrong}
use Rattle.check_laws.specs.ReasonsEach.{IsAnsweredReason}
use Rattle.check_laws.specs.RepliesShown.{answered_from, replied as replied_kept, responder_for}
use Rattle.check_laws.specs.Rows.{StandFor, StandsForRows}
use Rattle.check_laws.specs.Walks.{StepsBy, StepsTo, Walks}
use Rattle.check_laws.specs.declared.change.Change.{Change}
use Rattle.check_laws.specs.declared.places.Places.{Places}
use Rattle.check_laws.specs.declared.verdict.Seen.{Seen}
use Rattle.check_requester.proofs.FewMessages.{after_more, dropped_same, walks_few}
use Rattle.check_ends.proofs.InTurn.{AnswersInTurn}
use Rattle.check_ends.proofs.KeptTyped.{walk_apart, walk_body}
use Rattle.check_ends.proofs.SendingTold.{asker_before, asker_meanwhile}
use Rattle.check_ends.proofs.SendingWalks.{form, own_setup, walk_form}
use Rattle.check_ends.proofs.WalkRows.{places_for}
use Rattle.check_responder.specs.AnswerKeys as answer_keys
use Rattle.check_responder.specs.JudgedResponder.{IsAnswerer, history_shown}
use Rattle.check_requester.specs.JudgedRequester.{IsAsker}
use Rattle.check_ends.specs.Conversation.{IsAnswer, IsJudgedAnswer, IsUnderWay, NoneGoesOn, StandsBehind, meanwhile}
use Rattle.check_responder.specs.Given.{IsApartInClear, IsGivenNever}
use Rattle.check_responder.specs.declared.answer_keys.AnswerKeys.{AnswerKeys}
use Rattle.check_responder.specs.declared.judged_responder.JudgedResponder.{JudgedResponder}
use Rattle.check_requester.specs.declared.judged_requester.JudgedRequester.{JudgedRequester}
use Rattle.check_ends.specs.declared.party.Party.{Party}
use Rattle.check_laws.proofs.Large.Onward.{replies as steps_replying}
use Rattle.check_laws.proofs.Large.Replied.{behind_next, replies_all, sending_is_replied, sending_replies}
use Rattle.check_laws.proofs.Large.SendingReasons.{sending_tells_apart, sending_tells_why}
use Rattle.check_laws.specs.Large.LargeRequests as large_requests
use Rattle.check_laws.specs.Large.Sending.{IsSendingOf, Sending, dialogue_of}
use Rattle.check_laws.specs.Large.SendingLaws.{RepliesSending, aside}
use Rattle.check_laws.specs.declared.sending_large.large_request.LargeRequest.{LargeRequest}
use Rattle.capture_machine.specs.Capture.{IsBody, Replies, RepliesBy}
use Rattle.capture_machine.specs.CapturedAnswers.{Answers, AnswersAgain, AnswersPlainly, Hears}
use Rattle.capture_machine.specs.Difference.{AreRepliesApart, GoesApart, Why, goes_why, reply_why}
use Rattle.capture_machine.specs.Difference.Why.{BadPacket, UnknownEnd, WrongTurn, BadRequest, BadReply, BadVerify, BadRecord}
use Rattle.capture_machine.specs.Opening.{opens_answering}
use Rattle.capture_machine.specs.Rounds.{Dialogue, Round, no_draw}
use Rattle.capture_machine.specs.SessionTable.{Row, accepted_between, rows_between}
use Rattle.world_machine.specs.Setup.{Configuration, known_of}

module _ (w : Configuration) (q : ReqSetup) (older : List (List ℕ)) (rows : List Row) (packet : List ℕ) (route : RouteFields) (answer : List ℕ) (at : IsAnswer w q older packet route answer) (byte : w.responder.beat < 256) (s : Sending)
    (own : IsSendingOf w q older s) (turn : AnswersInTurn (meanwhile s) route answer) where
  abbrev r : RspSetup
  r = responder_for w s.before

  abbrev before : Dialogue
  before = form w q older s own

  over : Walks w q older before
  over = walk_form w q older s own

  -- ---- What is asked of the calls.

  same_round : s.round ≡ turn.round
  same_round = same_Some s.round turn.round turn.answers.0

  tagged : s.round.tag ≡ route.tag
  tagged = ap (λ (x : Round). x.tag) same_round ∙ turn.answers.1

  waiting : 0 < s.round.waiting
  waiting = subst (λ (x : Round). 0 < x.waiting) (sym same_round) turn.answers.2

  pub sent_body : IsBody s.round.body
  sent_body = walk_body w q older before s.round over refl

  pub sent_apart : IsApartInClear r (aside s) s.round answer
  sent_apart = walk_apart w q older before (aside s) r s.round answer over refl

  pub sent_messages : length older < 2 ^ 64 - 1 → messages_of s.responder < 2 ^ 64 - 1
  sent_messages few = (let m : messages_of s.responder ≤ length older = walks_few w q older before over in omega (arith, m, few))

  -- ---- It is refused.

  none_replies : ((next : Sending) → RepliesSending w s (Whole route answer) next → ⊥) → NoneGoesOn w q older packet
  none_replies never d walk =
      let it = sending_is_replied w q older packet at.fields s d at.parses at.other at.goes own walk in
      never it.0 (subst (λ (g : Gathered). RepliesSending w s g it.0) at.whole it.1)

  -- LargeResponse again is a repeat.
  is_again : (next : History) (whole : List ℕ) → AnswersAgain r (aside s) s.round answer next whole → AnswersPlainly r (aside s) s.round answer next
  is_again next whole c = ([], Same answer, (tt, c.1), tt, refl, refl, c.4)

  answers_never : IsGivenNever r (aside s) s.round answer → (next : History) (fetching : Option (List ℕ)) → Answers r (aside s) s.round answer next fetching → ⊥
  unfolding Answers
  answers_never never next fetching (inl plain) = never.whole ((plain_is_shown r (aside s) s.round answer next byte).0 plain.0).0
  answers_never never next fetching (inr (inl large)) = never.large ((large_is_shown r (aside s) s.round answer next byte).0 (large.0, large.1)).0
  answers_never never next fetching (inr (inr (inl again))) = never.whole ((plain_is_shown r (aside s) s.round answer next byte).0 (is_again next again.0 again.1)).0
  answers_never never next fetching (inr (inr (inr last))) = none-some last.0.0 last.0.3

  goes_nowhere : IsGivenNever r (aside s) s.round answer → NoneGoesOn w q older packet
  goes_nowhere never = none_replies (λ next c. answers_never never c.4.0 c.4.1 c.4.2)

  abbrev g : Gathered
  g = Whole route answer

  -- Towards the requester, as it is set up.
  abbrev toward : ReqSetup → RspSetup
  toward a = towards w.responder (known_of a)

  reason_is : goes_why r (aside s) g ≡ Some (reply_why r (aside s) answer (Some s.round))
  reason_is =
      ap (λ (b : Bool). Some (cond b BadPacket (cond (replies_wrong (Some s.round) route.owner route.tag) WrongTurn (reply_why r (aside s) answer (Some s.round))))) turn.other
      ∙ ap (λ (b : Bool). Some (cond b WrongTurn (reply_why r (aside s) answer (Some s.round)))) turn.right

  Other : Why → ReqSetup → Type 0
  Other why a = (GoesApart (toward a) (aside s) g → ⊥) × (goes_why (toward a) (aside s) g ≡ Some why)

  other_reason : (why : Why) → (AreRepliesApart r (aside s) (Some s.round) answer → ⊥) → why ≡ reply_why r (aside s) answer (Some s.round)
      → (((d : Dialogue) × Walks w q older d × GoesApart (toward q) d g) → ⊥) × ((d : Dialogue) × Walks w q older d × (goes_why (toward q) d g ≡ Some why))
  unfolding Other
  other_reason why none is =
      let own_way : Other why s.before.setup = (λ c. none c.1, reason_is ∙ ap Some (sym is)) in
      let way : Other why q = subst (Other why) (own_setup w q older s own) own_way in (
        λ c. way.0 ((sending_tells_apart w q older s c.0 g own c.1).1.0 c.2),
        (before, over, (sending_tells_why w q older s before g own over).1 ∙ way.1),
      )

  -- It is one of two reasons, and none of the others.
  two_reasons : (b : Bool) → BadVerify ≡ cond b BadReply BadRecord → ⊥
  two_reasons true is = absurd (cc)
  two_reasons false is = absurd (cc)

  reason_in : (why : Why) → (AreRepliesApart r (aside s) (Some s.round) answer → ⊥) → why ≡ reply_why r (aside s) answer (Some s.round) → IsAnsweredReason w q older g why
  reason_in BadVerify none is = absurd (two_reasons (body_type answer == 5 || opens_answering r s.responder (body_type s.round.body == 5) (drop 1 s.round.body) (drop 1 answer)) is)
  reason_in BadPacket none is = other_reason BadPacket none is
  reason_in UnknownEnd none is = other_reason UnknownEnd none is
  reason_in WrongTurn none is = other_reason WrongTurn none is
  reason_in BadRequest none is = other_reason BadRequest none is
  reason_in BadReply none is = other_reason BadReply none is
  reason_in BadRecord none is = other_reason BadRecord none is

  module _ (party : Party) (large : Option LargeRequest) (table : List Seen) where
    pub refused_by : (why : declared.Why) → IsGivenNever r (aside s) s.round answer → (IsApartShown r (aside s) s.round answer → ⊥) → why_of why ≡ reply_why r (aside s) answer (Some s.round)
        → IsJudgedAnswer w q older rows packet route answer (Err why) party large table
    refused_by why never apart is = (goes_nowhere never, reason_in (why_of why) (λ c. apart ((apart_is_shown r (aside s) s.round answer byte refl).0 c)) is)

    pub apart_by : IsGivenNever r (aside s) s.round answer → IsApartShown r (aside s) s.round answer → IsJudgedAnswer w q older rows packet route answer (Err late.BadVerify) party large table
    apart_by never apart =
        let mine : GoesApart r (aside s) g = (turn.right, (apart_is_shown r (aside s) s.round answer byte refl).1 apart) in
        let there : GoesApart (toward q) (aside s) g = subst (λ (a : ReqSetup). GoesApart (toward a) (aside s) g) (own_setup w q older s own) mine in
        (goes_nowhere never, (before, over, (sending_tells_apart w q older s before g own over).1.1 there))

  -- ---- It goes whole.

  module _ (shown : IsShownAnswer r s.responder s.round.tag s.round.body answer) where
    abbrev h : History
    h = history_shown r s.responder s.round.tag s.round.body answer

    abbrev pub next : Sending
    next = behind_next s h route.tag answer

    answers : Answers r (aside s) s.round answer h None
    unfolding Answers
    answers = inl ((plain_is_shown r (aside s) s.round answer h byte).1 (shown, refl), refl)

    behind : IsSendingOf w q (packet ∷ older) next
    behind =
        sending_replies w q older packet at.fields s next at.parses at.other at.goes own
        (subst (λ (x : Gathered). RepliesSending w s x next) (sym at.whole) (turn.body, turn.owner, tagged, waiting, (h, None, answers, refl)))

    abbrev pub after : Dialogue
    after = dialogue_of next own.begins.0 own.stands.0

    goes : Walks w q (packet ∷ older) after
    goes = (behind.all own.begins.0 own.stands.0 own.begins.1 own.stands.1).0

    one : Replies w before route.tag answer after
    one = (replies_all w q older s own route.tag answer h None tagged waiting answers own.begins.0 own.stands.0 own.begins.1 own.stands.1).0

    steps : StepsTo w q.eid older before packet after
    unfolding StepsTo
    steps =
        subst (λ (x : Result PacketFields PacketFault). StepsBy w q.eid older before after x) (sym at.parses)
        (steps_replying w q older packet at.fields at.parses at.other at.goes before after (subst (λ (x : Gathered). RepliesBy w before x after) (sym at.whole) (turn.body, turn.owner, one)))

    pub is_step : WalksStep → IsStep before after
    is_step law = law w q older packet before after over steps

    accepts_none : AckAcceptsNone → accepted_between before after ≡ None
    unfolding Hears
    accepts_none law = law before after own.stands.0 route.tag (drop 1 answer) (ap (λ (d : Dialogue). d.requester) one.4.3.2 ∙ one.4.3.1)

    asks_none : AnswerAsksNone → asked_between before after ≡ None
    asks_none law = law w before after route.tag answer one

    changes : IsAnswerStep (meanwhile s) s.round answer (replied_kept w (meanwhile s) route.tag s.round answer)
    changes = kept_answer_changes w (meanwhile s) route.tag s.round answer (refl, tagged, waiting) shown

    begins_shown : begun_between before after ≡ begun_shown s.responder s.round.tag s.round.body answer
    unfolding answered_from
    begins_shown = changes.begun

    takes_shown : answered_between before after ≡ taken_shown s.responder s.round.body answer
    unfolding answered_from
    takes_shown = changes.answered

    pub is_change : AckAcceptsNone → AnswerAsksNone → (change : Change) → change.begun ≡ begun_shown s.responder s.round.tag s.round.body answer → change.accepted ≡ None → change.answered ≡ taken_shown s.responder s.round.body answer → change.asked ≡ None
        → change.views ≡ views_in h → IsChange change before after
    is_change acks asks change begun accepted answered asked views = record {
      begun = begun ∙ sym begins_shown;
      accepted = accepted ∙ sym (accepts_none acks);
      answered = answered ∙ sym takes_shown;
      asked = asked ∙ sym (asks_none asks);
      views = views;
    }

    -- No more than one message came.
    pub few_behind : length older < 2 ^ 64 - 1 → messages_of h < 2 ^ 64
    few_behind few =
        let ids : List ℕ = drops_shown_by r s.responder s.round.tag s.round.body answer in
        let was = sent_messages few in
        let same = dropped_same ids s.responder in
        let more = after_more (with_dropped s.responder ids) (outcome_shown r s.responder s.round.tag s.round.body answer) in
        omega (arith, was, same, more)

    pub places_before : (places : Places) → StandFor places (restored (meanwhile s)) rows → StandFor places before rows
    places_before places are = places_for places (restored (meanwhile s)) before rows refl refl are

    -- The keys of the answers, by what holds of any values.
    pub keys_behind : (keys : AnswerKeys) (seen : JudgedResponder) → IsAnswerer seen r h
        → ((ids : List ℕ) (f : Free) → IsAnswerer seen r (behind_by (with_dropped s.responder ids) (on_body r (with_dropped s.responder ids) s.round.tag s.round.body f no_draw))
        → answer_keys.StandFor keys r (behind_by (with_dropped s.responder ids) (on_body r (with_dropped s.responder ids) s.round.tag s.round.body f no_draw)))
        → answer_keys.StandFor keys r h
    unfolding outcome_shown
    keys_behind keys seen answerer follow =
        let ids : List ℕ = drops_shown_by r s.responder s.round.tag s.round.body answer in
        follow ids (values_shown_by r (with_dropped s.responder ids) s.round.tag s.round.body answer) answerer

    -- What is kept after it.
    pub whole_on : (old new : Party) (large behind_large : LargeRequest) (table : List Seen) → IsUnderWay old large w q older rows s → new.asker ≡ old.asker → new.number ≡ old.number → IsAnswerer new.answerer r h → answer_keys.StandFor new.keys r h
        → StandFor new.places after (rows_between before after rows) → large_requests.StandsFor behind_large next → StandsForRows table w (length older + 1) (rows_between before after rows)
        → StandsBehind new (Some behind_large) table w q older rows packet
    whole_on old new large behind_large table way asker number answerer keys places chunks entries = record {
      before = before;
      came = over;
      after = after;
      goes = goes;
      stands = (
        next,
        record {
          sending = behind;
          chunks = chunks;
          kept = record {
            asker = subst (λ (x : JudgedRequester). IsAsker x q (meanwhile next)) (sym asker) (asker_meanwhile old.asker q next (asker_before old.asker q s way.kept.asker));
            answerer = answerer;
            keys = keys;
            number = number ∙ way.kept.number;
            places = places_for new.places after (restored (meanwhile next)) (rows_between before after rows) refl refl places;
          };
          earlier = way.earlier;
          before = way.before;
          fewer = (let f = way.fewer in let l : length (packet ∷ older) ≡ length older + 1 = omega arith in omega (arith, f, l));
        },
      );
      entries = entries;
    }
