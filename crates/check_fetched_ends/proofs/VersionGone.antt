-- While a large response is fetched in the clear, another answer to GET_VERSION than VERSION goes on from no walk, and
-- its verify data are not alone wrong.
use Rattle.std.proofs.Common.{◌≡◌, ◌≢◌, ◌==◌, ◌||◌, ◌⊎◌, ◌∙◌, ℕ, List, ◌∷◌, refl, sym, ap, subst, drop, Bool, true, false, Option, Some, None, cond, inl, inr, Err}
use Rattle.std.specs.Prelude.{slice_index}
use Rattle.std.proofs.lemmas.Bool.{false≢true}
use Rattle.std.proofs.lemmas.Option.{none-some, same_Some}
use Rattle.mctp_framing.specs.Cutting.{RouteFields}
use Rattle.mctp_framing.specs.Gathering.Gathered.{Whole}
use Rattle.spdm_grammar.specs.declared.told.why.Why as declared_why
use Rattle.check_ends.proofs.InTurn.{AnswersInTurn}
use Rattle.check_ends.specs.declared.party.Party.{Party}
use Rattle.check_laws.specs.Judged.{why_of}
use Rattle.check_laws.specs.Keeping.{Kept, restored}
use Rattle.check_laws.specs.RepliesShown.{responder_for}
use Rattle.check_laws.specs.declared.verdict.Seen.{Seen}
use Rattle.check_fetched_laws.proofs.MeanwhileClear.{version_begins_none, version_goes}
use Rattle.check_fetched_laws.proofs.NotApart.{replies_are_not_apart}
use Rattle.check_fetched_laws.proofs.VersionGiven.{version_is_given}
use Rattle.check_fetched_ends.proofs.HeldWhy.{reason_is, why_left}
use Rattle.check_fetched_ends.proofs.VersionRound.{anew_with, type}
use Rattle.check_fetched_ends.specs.Fetched.{IsFetchedWhy, IsRepliedTo}
use Rattle.check_fetched_ends.specs.Held.{IsHeldIn}
use Rattle.check_fetched_ends.specs.declared.clear_fetch.held.Held.{Held}
use Rattle.check_late_laws.specs.Fetching.{Fetching, IsFetchingOf, MayStand, dialogue_of}
use Rattle.check_late_laws.specs.FetchingLaws.{AnswersFrom, EndsFetching, GoesFetching, TurnsFetching}
use Rattle.requester_machine.specs.Setup.{ReqSetup}
use Rattle.responder_machine.specs.Answer.{version_answer}
use Rattle.responder_machine.specs.History.{Entry, History}
use Rattle.responder_machine.specs.Responder.{Outcome, body_of}
use Rattle.responder_machine.specs.Responder.Outcome.{Adds}
use Rattle.responder_machine.specs.Setup.{RspSetup}
use Rattle.spdm_grammar.specs.Message.RequestMessage.{GetVersion}
use Rattle.spdm_grammar.specs.Requests.{canonical_request}
use Rattle.spdm_grammar.specs.Responses.{canonical_response}
use Rattle.spdm_machine.specs.Bodies.{clear_body}
use Rattle.spdm_machine.specs.Packets.{body_type}
use Rattle.capture_machine.proofs.PlacesServed.{named_clear}
use Rattle.capture_machine.specs.CapturedAnswers.{Answers, AnswersPlainly, Completes, MayLeadTo}
use Rattle.capture_machine.specs.Difference.{AreRepliesApart, CompletesApart, GoesApart, Why, goes_why, reply_why}
use Rattle.capture_machine.specs.Difference.Why.{BadPacket, UnknownEnd, WrongTurn, BadRequest, BadReply, BadVerify, BadRecord}
use Rattle.capture_machine.specs.LargeAnswers.{place_named, with_large}
use Rattle.capture_machine.specs.Opening.{opens_answering}
use Rattle.capture_machine.specs.Rounds.{Dialogue, Round}
use Rattle.capture_machine.specs.SessionTable.{Row}
use Rattle.world_machine.specs.Setup.{Configuration}

two_reasons : (b : Bool) → BadVerify ≡ cond b BadReply BadRecord → ⊥
two_reasons true is = absurd (cc)
two_reasons false is = absurd (cc)

module _ (w : Configuration) (q : ReqSetup) (older : List (List ℕ)) (rows : List Row) (f : Fetching) (own : IsFetchingOf w q older f) (party : Party) (held : Held) (kept : IsHeldIn party held w q f rows) (route : RouteFields) (answer : List ℕ) (turn : AnswersInTurn f.kept route answer) (version : turn.round.body ≡ clear_body (canonical_request GetVersion))
    (other : answer ≢ clear_body (canonical_response version_answer)) where
  abbrev r : RspSetup
  r = responder_for w f.kept

  abbrev h : History
  h = f.kept.responder

  abbrev round : Round
  round = turn.round

  answers_never : (v : List ℕ) (next : History) (fetching : Option (List ℕ)) → Answers r (dialogue_of f v) round answer next fetching → ⊥
  unfolding Answers
  answers_never v next fetching (inl plain) =
      other ((version_goes version_is_given r (dialogue_of f v) v round answer next refl version (anew_with w q older rows f own party held kept round turn.answers.0 version v)).0 plain.0).0
  answers_never v next fetching (inr (inl large)) =
      (version_begins_none version_is_given r (dialogue_of f v) v round answer next large.0 refl version (anew_with w q older rows f own party held kept round turn.answers.0 version v)).0 large.1
  answers_never v next fetching (inr (inr (inl again))) = none-some v (sym again.1.0)
  answers_never v next fetching (inr (inr (inr last))) =
      (version_begins_none version_is_given r (dialogue_of f v) v round answer next v refl version (anew_with w q older rows f own party held kept round turn.answers.0 version v)).1 last.0

  one_round : (rd : Round) → f.kept.round ≡ Some rd → rd ≡ round
  one_round rd at = same_Some rd round (sym at ∙ turn.answers.0)

  goes_never : (next : Fetching) → GoesFetching w f (Whole route answer) next → ⊥
  unfolding Answers
  goes_never next c =
      let its : AnswersPlainly r (dialogue_of f c.2.2.0) round answer c.2.2.1 = subst (λ (x : Round). AnswersPlainly r (dialogue_of f c.2.2.0) x answer c.2.2.1) (one_round c.2.0 c.2.1.0) c.2.2.3 in
      answers_never c.2.2.0 c.2.2.1 (Some c.2.2.0) (inl (its, refl))

  ends_never : (next : Kept) → EndsFetching w f (Whole route answer) next → ⊥
  ends_never next c =
      let replies = c.3.2 in
      answers_never c.0 replies.4.0 replies.4.1 (subst (λ (x : Round). Answers r (dialogue_of f c.0) x answer replies.4.0 replies.4.1) (one_round replies.0 replies.1) replies.4.2)

  turns_never : (next : Fetching) → TurnsFetching w f (Whole route answer) next → ⊥
  unfolding Answers
  turns_never next c = by_from (subst (λ (x : Round). AnswersFrom r (dialogue_of f c.2.2.0) x answer c.2.2.1 c.2.2.2) (one_round c.2.0 c.2.1.0) c.2.2.4)
    where
      by_from : AnswersFrom r (dialogue_of f c.2.2.0) round answer c.2.2.1 c.2.2.2 → ⊥
      by_from (inl large) = answers_never c.2.2.0 c.2.2.1 (Some large.0.0) (inr (inl (large.0.0, large.0.1, refl)))
      by_from (inr again) = answers_never c.2.2.0 c.2.2.1 (Some again.0.0) (inr (inr (inl (again.0.0, again.0.1, refl))))

  -- ---- Nor are its verify data alone wrong.

  here : (slice_index turn.round.body 0 == 5) ≡ true
  here = type w q older rows f own party held kept round turn.answers.0 version

  completes_never : (v : List ℕ) → CompletesApart r (dialogue_of f v) round answer → ⊥
  completes_never v c =
      let leads : MayLeadTo r (with_large None v h) round.tag (clear_body (canonical_request GetVersion)) (Adds c.3) =
      subst (λ (l : List ℕ). MayLeadTo r (with_large None v h) round.tag l (Adds c.3)) version (subst (λ (o : Option ℕ). MayLeadTo r (with_large o v h) round.tag round.body (Adds c.3)) (named_clear round.body here) c.5) in
      other (sym c.7 ∙ ap body_of ((version_is_given r (with_large None v h) round.tag (Adds c.3) (anew_with w q older rows f own party held kept round turn.answers.0 version v)).0 leads))

  apart_never : (v : List ℕ) → MayStand f v → GoesApart r (dialogue_of f v) (Whole route answer) → ⊥
  apart_never v stand c = by_apart (subst (λ (o : Option Round). AreRepliesApart r (dialogue_of f v) o answer) turn.answers.0 c.1)
    where
      by_apart : AreRepliesApart r (dialogue_of f v) (Some round) answer → ⊥
      by_apart (inl replies) = replies_are_not_apart w q older (dialogue_of f v) v round answer (own.all v stand) refl turn.answers.0 here replies
      by_apart (inr last) = completes_never v last

  -- ---- It is refused.

  pub refused_version : (new : Party) (stands : Fetching → List Row → Type 0) (table : List Seen) → (d : Dialogue) (why : declared_why.Why) → d.responder ≡ kept.before.left
      → why_of why ≡ reply_why (responder_for w f.kept) d answer (Some turn.round) → IsRepliedTo w q older rows f route answer (Err why) new stands table
  refused_version new stands table d why left is = (
    goes_never,
    turns_never,
    ends_never,
    by_why (why_of why) (is ∙ why_left party.answerer party.keys held r f.kept.responder kept.before d answer turn.round left here (restored f.kept) refl),
  )
    where
      told : (x : Why) → x ≡ reply_why r (restored f.kept) answer (Some turn.round) → goes_why r (restored f.kept) (Whole route answer) ≡ Some x
      told x same = reason_is r f.kept route answer turn ∙ ap Some (sym same)

      by_why : (x : Why) → x ≡ reply_why r (restored f.kept) answer (Some turn.round) → IsFetchedWhy w f (Whole route answer) x
      by_why BadVerify same = absurd (two_reasons (body_type answer == 5 || opens_answering r f.kept.responder (body_type turn.round.body == 5) (drop 1 turn.round.body) (drop 1 answer)) same)
      by_why BadPacket same = (apart_never, told BadPacket same)
      by_why UnknownEnd same = (apart_never, told UnknownEnd same)
      by_why WrongTurn same = (apart_never, told WrongTurn same)
      by_why BadRequest same = (apart_never, told BadRequest same)
      by_why BadReply same = (apart_never, told BadReply same)
      by_why BadRecord same = (apart_never, told BadRecord same)
