-- What is kept of a requester and the responder after an answer, or why it is refused.
use Rattle.std.proofs.Common.{◌≡◌, ◌+◌, ◌==◌, ◌||◌, ◌&&◌, ◌-◌, ◌^◌, ◌<◌, ◌⊎◌, ◌∙◌, ℕ, List, [], refl, sym, ap, subst, Bool, true, false, Option, Some, cond, drop, length, arith, inl, inr, Ok, Err}
use Rattle.std.proofs.lemmas.Bool.{false≢true}
use Rattle.std.proofs.lemmas.Option.{none-some, same_Some}
use Rattle.std.specs.Prelude.{bytes_eq, not, take}
use Rattle.mctp_framing.specs.Cutting.{RouteFields}
use Rattle.mctp_framing.specs.Gathering.Gathered.{Whole}
use Rattle.requester_machine.specs.May.{IsSetUp}
use Rattle.requester_machine.specs.Setup.{ReqSetup}
use Rattle.responder_machine.specs.Answer.{Free}
use Rattle.responder_machine.specs.BoundLaws.{messages_of}
use Rattle.responder_machine.specs.History.{History}
use Rattle.responder_machine.specs.May.{on_body, with_dropped}
use Rattle.responder_machine.specs.Responder.{after}
use Rattle.responder_machine.specs.Responder.Outcome.{Same}
use Rattle.responder_machine.specs.Setup.{RspSetup}
use Rattle.spdm_grammar.specs.declared.told.why.Why as declared_why
use Rattle.spdm_grammar.specs.declared.told.why.Why.TheVariants as declared
use Rattle.spdm_basis.proofs.Bools.{and_first, and_second}
use Rattle.spdm_machine.specs.Packets.{body_type}
use Rattle.check_laws.proofs.ApartShown.{apart_is_shown}
use Rattle.check_requester.proofs.FewMessages.{kept_messages}
use Rattle.check_ends.proofs.InTurn.{AnswersInTurn}
use Rattle.check_responder.proofs.KeysKept.{same_bytes}
use Rattle.check_laws.proofs.LargeShown.{large_is_shown}
use Rattle.check_laws.proofs.PlainShown.{plain_is_shown}
use Rattle.check_laws.proofs.RepliesTold.{replies_are_told}
use Rattle.check_responder.specs.AnswerKeys.{StandFor}
use Rattle.check_responder.specs.JudgedResponder.{IsAnswerer, history_shown}
use Rattle.check_laws.specs.ApartShown.{IsApartShown}
use Rattle.check_requester.specs.JudgedRequester.{Carries, IsAsker}
use Rattle.check_laws.specs.AnswersShown.{values_shown_by}
use Rattle.check_laws.specs.DropsShown.{IsShownAnswer, drops_shown_by, outcome_shown}
use Rattle.check_requester.specs.HeardKept.{asks_upon, heard_kept}
use Rattle.check_laws.specs.Keeping.{Keeps, Kept, RepliesKept, restored}
use Rattle.check_laws.specs.LargeShown.{IsShownLarge}
use Rattle.check_laws.specs.Order.{replies_wrong}
use Rattle.check_laws.specs.Judged.{why_of}
use Rattle.check_laws.specs.Order.{body_in, tag_in}
use Rattle.check_responder.specs.ClearAnswers.{EndsLarge}
use Rattle.check_responder.specs.Given.{IsGivenNever}
use Rattle.check_ends.specs.PartyReplies.{IsGoingWhy, IsReplied}
use Rattle.check_laws.specs.RepliesShown.{AnswersRound, PlainlyKept, answered_from, responder_for}
use Rattle.check_laws.specs.RepliesTold.{UnfetchedKept}
use Rattle.check_laws.specs.Rows as rows_of
use Rattle.check_laws.specs.Rows.{StandsForRows}
use Rattle.check_laws.specs.declared.places.Places.{Places}
use Rattle.check_laws.specs.declared.verdict.Seen.{Seen}
use Rattle.check_requester.specs.declared.judged_requester.JudgedRequester.{JudgedRequester}
use Rattle.check_ends.specs.declared.continuation.Continuation.TheVariants as onward
use Rattle.check_ends.specs.declared.party.Party.{Party}
use Rattle.capture_machine.specs.Capture.{RepliesBy}
use Rattle.capture_machine.specs.CapturedAnswers.{Answers, AnswersAgain, AnswersPlainly}
use Rattle.capture_machine.specs.Difference.{AreRepliesApart, GoesApart, Why, goes_why, is_apart, reply_why, verify_size}
use Rattle.capture_machine.specs.Difference.Why.{BadPacket, UnknownEnd, WrongTurn, BadRequest, BadReply, BadVerify, BadRecord}
use Rattle.capture_machine.specs.Opening.{opens_answering}
use Rattle.capture_machine.specs.Rounds.{Dialogue, Round, no_draw}
use Rattle.capture_machine.specs.SessionTable.{Row, number_from, rows_between}
use Rattle.world_machine.specs.Setup.{Configuration}

-- Nothing is apart from itself.
never_apart : (size : ℕ) (l : List ℕ) → is_apart size l l ≡ true → ⊥
never_apart size l apart = false≢true (sym (ap not (same_bytes l)) ∙ and_second (length l == length l) (not (bytes_eq l l)) (and_first (length l == length l && not (bytes_eq l l)) (bytes_eq (take (length l - size) l) (take (length l - size) l)) apart))

module _ (w : Configuration) (q : ReqSetup) (older : List (List ℕ)) (k : Kept) (route : RouteFields) (answer : List ℕ) (byte : w.responder.beat < 256) (limits : IsSetUp k.setup) (keeps : Keeps w q older k) (turn : AnswersInTurn k route answer) (rows : List Row) where
  abbrev r : RspSetup
  r = responder_for w k

  abbrev h : History
  h = k.responder

  abbrev round : Round
  round = turn.round

  -- What is kept of both ends after it, and of the keys.
  pub record AreBehind (new : Party) (behind : History) : Type 0 where
    pub asker : IsAsker new.asker q (heard_kept k behind route.tag round answer)
    pub answerer : IsAnswerer new.answerer r behind
    pub keys : StandFor new.keys r behind

  -- What is kept after it, where it goes whole.
  abbrev pub whole_kept : Kept
  whole_kept = heard_kept k (history_shown r h round.tag round.body answer) route.tag round answer

  -- What the places and the table became then.
  pub record AreTold (places : Places) (table : List Seen) : Type 0 where
    pub stand : rows_of.StandFor places (restored whole_kept) (rows_between (restored k) (restored whole_kept) rows)
    pub stands : StandsForRows table w (length older + 1) (rows_between (restored k) (restored whole_kept) rows)

  kept_by : (next : Kept) → PlainlyKept w k (Whole route answer) next ⊎ UnfetchedKept w k (Whole route answer) next → RepliesKept w k (Whole route answer) next
  kept_by next c = (replies_are_told w q older k next (Whole route answer) byte limits keeps).1 c

  -- Whole.
  pub whole_replies : IsShownAnswer r h round.tag round.body answer → asks_upon k route.tag answer ≡ false → RepliesKept w k (Whole route answer) whole_kept
  unfolding answered_from
  whole_replies shown idle = kept_by whole_kept (inl (turn.body, turn.owner, (round, turn.answers, shown, idle, refl)))

  pub goes_whole : (new : Party) (table : List Seen) → IsShownAnswer r h round.tag round.body answer → asks_upon k route.tag answer ≡ false → AreBehind new (history_shown r h round.tag round.body answer)
      → new.number ≡ number_from 1 q.eid w.requesters → AreTold new.places table → IsReplied w q older rows k route answer (Ok onward.Kept) new table
  goes_whole new table shown idle are number told = (
    whole_kept,
    whole_replies shown idle,
    record {
      party = record { asker = are.asker; answerer = are.answerer; keys = are.keys; number = number; places = told.stand };
      stands = told.stands;
    },
  )

  -- A part of a large response.
  pub is_part : (new : Party) (table : List Seen) → IsShownLarge r h round.tag round.body answer ⊎ EndsLarge r h round.tag round.body answer
      → IsReplied w q older rows k route answer (Ok onward.Large) new table
  is_part new table part = (round, turn.answers, part)

  -- ---- None of them.

  one_round : (other : Round) → k.round ≡ Some other → other ≡ round
  one_round other is = same_Some other round (sym is ∙ turn.answers.0)

  -- LargeResponse again is a repeat.
  is_again : (next : History) (whole : List ℕ) → AnswersAgain r (restored k) round answer next whole → AnswersPlainly r (restored k) round answer next
  is_again next whole c = ([], Same answer, (tt, c.1), tt, refl, refl, c.4)

  answers_never : IsGivenNever r (restored k) round answer → (next : History) (fetching : Option (List ℕ)) → Answers r (restored k) round answer next fetching → ⊥
  unfolding Answers
  answers_never never next fetching (inl plain) = never.whole ((plain_is_shown r (restored k) round answer next byte).0 plain.0).0
  answers_never never next fetching (inr (inl large)) = never.large ((large_is_shown r (restored k) round answer next byte).0 (large.0, large.1)).0
  answers_never never next fetching (inr (inr (inl again))) = never.whole ((plain_is_shown r (restored k) round answer next byte).0 (is_again next again.0 again.1)).0
  answers_never never next fetching (inr (inr (inr last))) = none-some last.0.0 last.0.3

  pub goes_nowhere : IsGivenNever r (restored k) round answer → (next : Dialogue) → RepliesBy w (restored k) (Whole route answer) next → ⊥
  goes_nowhere never next c =
      let its : Answers r (restored k) round answer c.2.4.0 c.2.4.1 = subst (λ (x : Round). Answers r (restored k) x answer c.2.4.0 c.2.4.1) (one_round c.2.0 c.2.1) c.2.4.2 in
      answers_never never c.2.4.0 c.2.4.1 its

  -- And why: the order gives no reason.
  reason_is : goes_why r (restored k) (Whole route answer) ≡ Some (reply_why r (restored k) answer (Some round))
  reason_is =
      ap (λ (b : Bool). Some (cond b BadPacket (cond (replies_wrong k.round route.owner route.tag) WrongTurn (reply_why r (restored k) answer k.round)))) turn.other
      ∙ ap (λ (b : Bool). Some (cond b WrongTurn (reply_why r (restored k) answer k.round))) turn.right
      ∙ ap (λ (o : Option Round). Some (reply_why r (restored k) answer o)) turn.answers.0

  apart_in : GoesApart r (restored k) (Whole route answer) → AreRepliesApart r (restored k) (Some round) answer
  apart_in c = subst (λ (o : Option Round). AreRepliesApart r (restored k) o answer) turn.answers.0 c.1

  -- Any other reason.
  other_reason : (why : Why) → (AreRepliesApart r (restored k) (Some round) answer → ⊥) × (reply_why r (restored k) answer (Some round) ≡ why)
      → (GoesApart r (restored k) (Whole route answer) → ⊥) × (goes_why r (restored k) (Whole route answer) ≡ Some why)
  other_reason why is = (λ c. is.0 (apart_in c), reason_is ∙ ap Some is.1)

  pub apart_for : IsGivenNever r (restored k) round answer → IsApartShown r (restored k) round answer → (new : Party) (table : List Seen) → IsReplied w q older rows k route answer (Err declared.BadVerify) new table
  apart_for never apart new table = (
    goes_nowhere never,
    (turn.right, subst (λ (o : Option Round). AreRepliesApart r (restored k) o answer) (sym turn.answers.0) ((apart_is_shown r (restored k) round answer byte refl).1 apart)),
  )

  -- It is one of two reasons, and none of the others.
  two_reasons : (b : Bool) → BadVerify ≡ cond b BadReply BadRecord → ⊥
  two_reasons true is = absurd (cc)
  two_reasons false is = absurd (cc)

  reason_for : (why : declared_why.Why) → (IsApartShown r (restored k) round answer → ⊥) → why_of why ≡ reply_why r (restored k) answer (Some round) → IsGoingWhy r k (Whole route answer) (why_of why)
  reason_for why apart is = by_why (why_of why) is
    where
      none : AreRepliesApart r (restored k) (Some round) answer → ⊥
      none c = apart ((apart_is_shown r (restored k) round answer byte refl).0 c)

      by_why : (x : Why) → x ≡ reply_why r (restored k) answer (Some round) → IsGoingWhy r k (Whole route answer) x
      by_why BadVerify same = absurd (two_reasons (body_type answer == 5 || opens_answering r h (body_type round.body == 5) (drop 1 round.body) (drop 1 answer)) same)
      by_why BadPacket same = other_reason BadPacket (none, sym same)
      by_why UnknownEnd same = other_reason UnknownEnd (none, sym same)
      by_why WrongTurn same = other_reason WrongTurn (none, sym same)
      by_why BadRequest same = other_reason BadRequest (none, sym same)
      by_why BadReply same = other_reason BadReply (none, sym same)
      by_why BadRecord same = other_reason BadRecord (none, sym same)

  pub refused_for : (why : declared_why.Why) → IsGivenNever r (restored k) round answer → (IsApartShown r (restored k) round answer → ⊥) → why_of why ≡ reply_why r (restored k) answer (Some round) → (new : Party) (table : List Seen) → IsReplied w q older rows k route answer (Err why) new table
  refused_for why never apart is new table = (goes_nowhere never, reason_for why apart is)

  -- ---- The requester asks for a chunk upon it.

  -- An answer that goes whole is the one that it shows, so it is not apart from that.
  whole_alone : IsShownAnswer r h round.tag round.body answer → IsApartShown r (restored k) round answer → ⊥
  whole_alone shown apart = never_apart (verify_size (restored k)) answer (ap (λ (l : List ℕ). is_apart (verify_size (restored k)) l answer) (sym shown.2) ∙ apart.3)

  pub asked_upon : (why : declared_why.Why) → IsShownAnswer r h round.tag round.body answer → asks_upon k route.tag answer ≡ true → why_of why ≡ reply_why r (restored k) answer (Some round) → (new : Party) (table : List Seen)
      → IsReplied w q older rows k route answer (Ok (onward.Asked why)) new table
  asked_upon why shown asks is new table = ((round, turn.answers, shown, asks), reason_for why (whole_alone shown) is)

  -- ---- What is asked of the calls.

  module _ (seen : Option Round) (now : seen ≡ k.round) where
    pub round_is : seen ≡ Some round
    round_is = now ∙ turn.answers.0

    pub body_is : body_in seen ≡ round.body
    body_is = ap body_in round_is

    pub tag_is : tag_in seen ≡ round.tag
    tag_is = ap tag_in round_is

    -- The round that is answered, under its tag.
    pub answers_round : (tag : ℕ) → tag ≡ tag_in seen → AnswersRound k tag round
    answers_round tag is = (turn.answers.0, sym (is ∙ tag_is), turn.answers.2)

    -- What is kept after an answer that goes whole.
    pub behind_whole : (new : Party) → IsAnswerer new.answerer r (history_shown r h round.tag round.body answer) → ((behind : History) → IsAsker new.asker q (heard_kept k behind round.tag round answer))
        → ((ids : List ℕ) (f : Free) → IsAnswerer new.answerer r (after (with_dropped h ids) (on_body r (with_dropped h ids) (tag_in seen) (body_in seen) f no_draw))
        → StandFor new.keys r (after (with_dropped h ids) (on_body r (with_dropped h ids) (tag_in seen) (body_in seen) f no_draw)))
        → AreBehind new (history_shown r h round.tag round.body answer)
    unfolding outcome_shown
    behind_whole new answerer asker keys =
        let ids : List ℕ = drops_shown_by r h round.tag round.body answer in
        let f : Free = values_shown_by r (with_dropped h ids) round.tag round.body answer in
        let K : ℕ → List ℕ → Type 0 = λ n b. IsAnswerer new.answerer r (after (with_dropped h ids) (on_body r (with_dropped h ids) n b f no_draw)) → StandFor new.keys r (after (with_dropped h ids) (on_body r (with_dropped h ids) n b f no_draw)) in
        record {
          asker = subst (λ (n : ℕ). IsAsker new.asker q (heard_kept k (history_shown r h round.tag round.body answer) n round answer)) turn.answers.1 (asker (history_shown r h round.tag round.body answer));
          answerer = answerer;
          keys = subst (λ (n : ℕ). K n round.body) tag_is (subst (K (tag_in seen)) body_is (keys ids f)) answerer;
        }

-- ---- Bounds.

pub kept_limits : (q : ReqSetup) (k : Kept) (seen : JudgedRequester) → IsAsker seen q k → IsSetUp k.setup
kept_limits q k seen asker = subst IsSetUp (sym asker.setup) asker.kept.limits

pub few_messages : (w : Configuration) (q : ReqSetup) (older : List (List ℕ)) (k : Kept) → Carries w q older k → length older < 2 ^ 64 - 1 → messages_of k.responder < 2 ^ 64 - 1
few_messages w q older k keeps few = (let m = kept_messages w q older k keeps in omega (arith, m, few))
