-- An answer with which no walk goes on while a large one is fetched: it is refused, and why.
use Rattle.std.proofs.Common.{◌≡◌, ◌==◌, ◌||◌, ℕ, List, sym, ap, ◌∙◌, subst, drop, Bool, true, false, Option, Some, cond, inl, inr, Err}
use Rattle.std.proofs.lemmas.Bool.{false≢true}
use Rattle.std.proofs.lemmas.Option.{none-some, same_Some}
use Rattle.mctp_framing.specs.Cutting.{RouteFields}
use Rattle.mctp_framing.specs.Gathering.Gathered.{Whole}
use Rattle.check_ends.proofs.InTurn.{AnswersInTurn}
use Rattle.check_requester.specs.HeardKept.{asks_upon}
use Rattle.check_ends.specs.declared.party.Party.{Party}
use Rattle.check_laws.specs.Judged.{why_of}
use Rattle.check_laws.specs.Keeping.{Kept, restored}
use Rattle.check_laws.specs.Order.{replies_wrong}
use Rattle.check_laws.specs.RepliesShown.{responder_for}
use Rattle.check_laws.specs.declared.verdict.Seen.{Seen}
use Rattle.check_late_laws.specs.Fetching.{Fetching, IsFetchingOf, MayStand, dialogue_of}
use Rattle.check_late_laws.specs.FetchingLaws.{EndsFetching, GoesFetching, TurnsFetching}
use Rattle.responder_machine.specs.History.{History}
use Rattle.responder_machine.specs.Setup.{RspSetup}
use Rattle.spdm_grammar.specs.declared.told.why.Why as declared
use Rattle.spdm_machine.specs.Packets.{body_type}
use Rattle.capture_machine.proofs.UnseenStands.{UnseenStand}
use Rattle.capture_machine.specs.CapturedAnswers.{Answers, AnswersLarge, AnswersPlainly, Completes}
use Rattle.capture_machine.specs.Difference.{GoesApart, Why, goes_why, reply_why}
use Rattle.capture_machine.specs.Difference.Why.{BadPacket, UnknownEnd, WrongTurn, BadRequest, BadReply, BadVerify, BadRecord}
use Rattle.capture_machine.specs.LargeAnswers.{with_large}
use Rattle.capture_machine.specs.Opening.{opens_answering}
use Rattle.capture_machine.specs.Rounds.{Round}
use Rattle.capture_machine.specs.SessionTable.{Row}
use Rattle.world_machine.specs.Setup.{Configuration}
use Rattle.requester_machine.specs.May.{IsSetUp}
use Rattle.requester_machine.specs.Setup.{ReqSetup}
use Rattle.check_fetched_ends.proofs.AsksTold.{ends_asks}
use Rattle.check_late_laws.proofs.Late.SeenOpens.{answering_alike}
use Rattle.check_fetched_ends.specs.Fetched.{IsFetchedWhy, IsRepliedTo}

module _ (w : Configuration) (q : ReqSetup) (older : List (List ℕ)) (rows : List Row) (f : Fetching) (route : RouteFields) (answer : List ℕ) (turn : AnswersInTurn f.kept route answer) where
  abbrev k : Kept
  k = f.kept

  abbrev r : RspSetup
  r = responder_for w f.kept

  abbrev h : History
  h = f.kept.responder

  abbrev round : Round
  round = turn.round

  one_round : (other : Round) → f.kept.round ≡ Some other → other ≡ round
  one_round other is = same_Some other round (sym is ∙ turn.answers.0)

  -- ---- No walk goes on.

  -- With none of the bytes that may stand it is an answer, but for a last chunk in response to which the requester asks
  -- for another.
  pub record IsNone : Type 0 where
    pub plain : (v : List ℕ) → MayStand f v → (next : History) → AnswersPlainly (responder_for w f.kept) (dialogue_of f v) turn.round answer next → ⊥
    pub large : (v : List ℕ) → MayStand f v → (next : History) (whole : List ℕ) → AnswersLarge (responder_for w f.kept) (dialogue_of f v) turn.round answer next whole → ⊥
    pub last : (v : List ℕ) → MayStand f v → (next : History) → Completes (responder_for w f.kept) (dialogue_of f v) turn.round answer next → asks_upon f.kept turn.round.tag answer ≡ true

  module _ (never : IsNone) where
    answers_ask : (v : List ℕ) → MayStand f v → (next : History) (fetching : Option (List ℕ)) → Answers r (dialogue_of f v) round answer next fetching → asks_upon f.kept turn.round.tag answer ≡ true
    unfolding Answers
    answers_ask v stand next fetching (inl a) = absurd (never.plain v stand next a.0)
    answers_ask v stand next fetching (inr (inl a)) = absurd (never.large v stand next a.0 a.1)
    answers_ask v stand next fetching (inr (inr (inl a))) = absurd (none-some v (sym a.1.0))
    answers_ask v stand next fetching (inr (inr (inr a))) = never.last v stand next a.0

    pub goes_none : (next : Fetching) → GoesFetching w f (Whole route answer) next → ⊥
    goes_none next c =
        let it = c.2.2 in
        never.plain it.0 it.2 it.1 (subst (λ (x : Round). AnswersPlainly r (dialogue_of f it.0) x answer it.1) (one_round c.2.0 c.2.1.0) it.3)

    pub turns_none : (next : Fetching) → TurnsFetching w f (Whole route answer) next → ⊥
    turns_none next c =
        let it = c.2.2 in
        elim it.4 [
          | inl large ↦ never.large it.0 it.3 it.1 large.0.0 (subst (λ (x : Round). AnswersLarge r (dialogue_of f it.0) x answer it.1 large.0.0) (one_round c.2.0 c.2.1.0) large.0.1)
          | inr again ↦ none-some it.0 (sym again.0.1.0)
        ]

    -- On an answer after which nothing is fetched it asks for no chunk.
    pub ends_none : IsSetUp f.kept.setup → IsFetchingOf w q older f → (next : Kept) → EndsFetching w f (Whole route answer) next → ⊥
    ends_none limits own next c =
        let it = c.3.2 in
        let asks = answers_ask c.0 c.2 it.4.0 it.4.1 (subst (λ (x : Round). Answers r (dialogue_of f c.0) x answer it.4.0 it.4.1) (one_round it.0 it.1) it.4.2) in
        false≢true (sym (ends_asks w q older f route answer limits own next c) ∙ ap (λ (n : ℕ). asks_upon f.kept n answer) (sym turn.answers.1) ∙ asks)

  -- ---- Why. Its verify data are never alone wrong.

  abbrev pub NeverApart : Type 0
  NeverApart = (v : List ℕ) → MayStand f v → GoesApart (responder_for w f.kept) (dialogue_of f v) (Whole route answer) → ⊥

  module _ (never_apart : NeverApart) (none : UnseenStand f.kept.responder) (id : ℕ) (x : List ℕ) (why : declared.Why)
      (is : why_of why ≡ reply_why (responder_for w f.kept) (record (restored f.kept) { responder = with_large (Some id) x f.kept.responder }) answer (Some turn.round)) where
    why_is : why_of why ≡ reply_why r (restored k) answer (Some round)
    why_is = is ∙ ap (λ (b : Bool). cond (body_type answer == 5 || b) BadReply BadRecord) (answering_alike r id x (drop 1 answer) h none (body_type round.body == 5) (drop 1 round.body))

    reason_is : goes_why r (restored k) (Whole route answer) ≡ Some (reply_why r (restored k) answer (Some round))
    reason_is =
        ap (λ (b : Bool). Some (cond b BadPacket (cond (replies_wrong k.round route.owner route.tag) WrongTurn (reply_why r (restored k) answer k.round)))) turn.other
        ∙ ap (λ (b : Bool). Some (cond b WrongTurn (reply_why r (restored k) answer k.round))) turn.right
        ∙ ap (λ (o : Option Round). Some (reply_why r (restored k) answer o)) turn.answers.0

    two_reasons : (b : Bool) → BadVerify ≡ cond b BadReply BadRecord → ⊥
    two_reasons true same = absurd (cc)
    two_reasons false same = absurd (cc)

    by_why : (y : Why) → y ≡ reply_why r (restored k) answer (Some round) → IsFetchedWhy w f (Whole route answer) y
    by_why BadVerify same = absurd (two_reasons (body_type answer == 5 || opens_answering r h (body_type round.body == 5) (drop 1 round.body) (drop 1 answer)) same)
    by_why BadPacket same = (never_apart, reason_is ∙ ap Some (sym same))
    by_why UnknownEnd same = (never_apart, reason_is ∙ ap Some (sym same))
    by_why WrongTurn same = (never_apart, reason_is ∙ ap Some (sym same))
    by_why BadRequest same = (never_apart, reason_is ∙ ap Some (sym same))
    by_why BadReply same = (never_apart, reason_is ∙ ap Some (sym same))
    by_why BadRecord same = (never_apart, reason_is ∙ ap Some (sym same))

    pub refused_by : IsSetUp f.kept.setup → IsFetchingOf w q older f → IsNone → (new : Party) (stands : Fetching → List Row → Type 0) (table : List Seen) → IsRepliedTo w q older rows f route answer (Err why) new stands table
    refused_by limits own never new stands table = (goes_none never, turns_none never, ends_none never limits own, by_why (why_of why) why_is)
