-- An answer that is neither the same again nor the next chunk goes on from no walk, while a large one is fetched in the clear,
-- and its verify data are not alone wrong.
use Rattle.std.proofs.Common.{◌≡◌, ◌≢◌, ◌==◌, ◌⊎◌, ℕ, List, [], ◌∷◌, refl, sym, ap, ◌∙◌, subst, drop, Bool, true, false, Option, Some, None, inl, inr, eqb-true}
use Rattle.std.specs.Prelude.{slice_index}
use Rattle.std.proofs.lemmas.Bool.{false≢true}
use Rattle.std.proofs.lemmas.Option.{none-some, same_Some}
use Rattle.mctp_framing.specs.Cutting.{RouteFields}
use Rattle.mctp_framing.specs.Gathering.Gathered.{Whole}
use Rattle.check_ends.specs.declared.party.Party.{Party}
use Rattle.check_laws.specs.Keeping.{Kept}
use Rattle.check_laws.specs.RepliesShown.{responder_for}
use Rattle.check_fetched_laws.proofs.ClearChunks.{next_is_given, repeat_is_same}
use Rattle.check_fetched_laws.proofs.MeanwhileClear.{get_begins_none, get_completes, get_goes_on, repeat_begins_none, repeat_goes_same}
use Rattle.check_fetched_laws.proofs.NotApart.{replies_are_not_apart}
use Rattle.check_fetched_laws.specs.ClearChunks.{get_message, get_response}
use Rattle.check_fetched_ends.proofs.HeldGave.{fits, is_response}
use Rattle.check_fetched_ends.proofs.HeldRounds.{IsAsked, again_is, asked, place, type}
use Rattle.check_fetched_ends.specs.Held.{IsHeldIn, IsShownHeld, repeats_held}
use Rattle.check_fetched_ends.specs.declared.clear_fetch.held.Held.{Held}
use Rattle.check_fetched_ends.specs.declared.clear_fetch.shown.Shown.TheVariants as shown
use Rattle.check_late_laws.specs.Fetching.{Fetching, IsFetchingOf, MayStand, dialogue_of, number_of}
use Rattle.check_late_laws.specs.FetchingLaws.{AnswersFrom, EndsFetching, GoesFetching, TurnsFetching}
use Rattle.requester_machine.specs.Setup.{ReqSetup}
use Rattle.responder_machine.specs.History.{Entry, History, kept_of}
use Rattle.responder_machine.specs.Responder.{Outcome, body_of, is_repeat, kept_reply}
use Rattle.responder_machine.specs.Responder.Outcome.{Adds}
use Rattle.responder_machine.specs.Setup.{RspSetup}
use Rattle.spdm_grammar.specs.Message.RequestMessage.{GetVersion}
use Rattle.spdm_grammar.specs.Requests.{canonical_request}
use Rattle.spdm_machine.specs.Bodies.{clear_body}
use Rattle.capture_machine.specs.CapturedAnswers.{Answers, AnswersPlainly, Completes, MayLeadTo}
use Rattle.capture_machine.specs.Difference.{AreRepliesApart, CompletesApart, GoesApart}
use Rattle.capture_machine.specs.LargeAnswers.{judging, with_large}
use Rattle.capture_machine.specs.Rounds.{Dialogue, Round}
use Rattle.capture_machine.specs.SessionTable.{Row}
use Rattle.world_machine.specs.Setup.{Configuration}

-- A body of type 5.
pub clear_shape : (l : List ℕ) → (slice_index l 0 == 5) ≡ true → l ≡ clear_body (drop 1 l)
clear_shape [] is = absurd (false≢true is)
clear_shape (x ∷ l) is = ap (λ (n : ℕ). n ∷ l) (eqb-true x 5 is)

module _ (w : Configuration) (q : ReqSetup) (older : List (List ℕ)) (rows : List Row) (f : Fetching) (own : IsFetchingOf w q older f) (party : Party) (held : Held) (kept : IsHeldIn party held w q f rows) (round : Round) (is : f.kept.round ≡ Some round) (other : round.body ≢ clear_body (canonical_request GetVersion))
    (answer : List ℕ) (never : IsShownHeld held round.tag round.body answer shown.Other) where
  abbrev r : RspSetup
  r = responder_for w f.kept

  abbrev h : History
  h = f.kept.responder

  abbrev m : List ℕ
  m = drop 1 round.body

  body_is : round.body ≡ clear_body m
  body_is = clear_shape round.body (type w q older rows f own party held kept round is other)

  -- To a repeat.
  module _ (again : repeats_held held round.tag round.body ≡ true) where
    again_here : is_repeat (kept_of h) round.tag m ≡ true
    again_here = sym (again_is w q older rows f own party held kept round is other) ∙ again

    not_same : answer ≡ clear_body (kept_reply (kept_of h)) → ⊥
    not_same same = never.0 again (ap (λ o. clear_body (kept_reply o)) kept.before.newest ∙ sym same)

    repeat_never : (v : List ℕ) (next : History) (fetching : Option (List ℕ)) → Answers r (dialogue_of f v) round answer next fetching → ⊥
    unfolding Answers
    repeat_never v next fetching (inl plain) = not_same (repeat_goes_same repeat_is_same r (dialogue_of f v) v round m answer next refl body_is again_here plain.0).0
    repeat_never v next fetching (inr (inl large)) = (repeat_begins_none repeat_is_same r (dialogue_of f v) v round m answer next large.0 refl body_is again_here).0 large.1
    repeat_never v next fetching (inr (inr (inl anew))) = none-some v (sym anew.1.0)
    repeat_never v next fetching (inr (inr (inr last))) = (repeat_begins_none repeat_is_same r (dialogue_of f v) v round m answer next v refl body_is again_here).1 last.0

  -- To CHUNK_GET.
  module _ (anew : repeats_held held round.tag round.body ≡ false) where
    module _ (v : List ℕ) (stand : MayStand f v) where
      abbrev get : IsAsked r f round v
      get = asked w q older rows f own party held kept round is other anew v stand

      no_chunk : answer ≡ clear_body (get_response f.kept.responder v (asked w q older rows f own party held kept round is other anew v stand).handle (number_of f)) → ⊥
      no_chunk given =
          never.1 anew (fits w q older rows f own party held kept round is other anew v stand answer given)
          (is_response w q older rows f own party held kept round is other anew v stand answer given)

      get_never : (next : History) (fetching : Option (List ℕ)) → Answers r (dialogue_of f v) round answer next fetching → ⊥
      unfolding Answers
      get_never next fetching (inl plain) = no_chunk ((get_goes_on next_is_given r (dialogue_of f v) v round get.handle (number_of f) answer next refl get.body get.next).0 plain.0).0
      get_never next fetching (inr (inl large)) = get_begins_none next_is_given r (dialogue_of f v) v round get.handle (number_of f) answer next large.0 refl get.body get.next large.1
      get_never next fetching (inr (inr (inl again))) = none-some v (sym again.1.0)
      get_never next fetching (inr (inr (inr last))) = no_chunk ((get_completes next_is_given r (dialogue_of f v) v round get.handle (number_of f) answer next refl get.body get.next).0 last.0).1

  pub answers_never : (v : List ℕ) → MayStand f v → (next : History) (fetching : Option (List ℕ)) → Answers r (dialogue_of f v) round answer next fetching → ⊥
  answers_never v stand next fetching c = by_repeat (repeats_held held round.tag round.body) refl
    where
      by_repeat : (b : Bool) → repeats_held held round.tag round.body ≡ b → ⊥
      by_repeat true again = repeat_never again v next fetching c
      by_repeat false anew = get_never anew v stand next fetching c

  -- ---- It goes on from no walk.

  one_round : (rd : Round) → f.kept.round ≡ Some rd → rd ≡ round
  one_round rd at = same_Some rd round (sym at ∙ is)

  module _ (route : RouteFields) where
    pub goes_never : (next : Fetching) → GoesFetching w f (Whole route answer) next → ⊥
    unfolding Answers
    goes_never next c =
        let its : AnswersPlainly r (dialogue_of f c.2.2.0) round answer c.2.2.1 = subst (λ (x : Round). AnswersPlainly r (dialogue_of f c.2.2.0) x answer c.2.2.1) (one_round c.2.0 c.2.1.0) c.2.2.3 in
        answers_never c.2.2.0 c.2.2.2 c.2.2.1 (Some c.2.2.0) (inl (its, refl))

    pub ends_never : (next : Kept) → EndsFetching w f (Whole route answer) next → ⊥
    ends_never next c =
        let replies = c.3.2 in
        answers_never c.0 c.2 replies.4.0 replies.4.1 (subst (λ (x : Round). Answers r (dialogue_of f c.0) x answer replies.4.0 replies.4.1) (one_round replies.0 replies.1) replies.4.2)

    pub turns_never : (next : Fetching) → TurnsFetching w f (Whole route answer) next → ⊥
    unfolding Answers
    turns_never next c = by_from (subst (λ (x : Round). AnswersFrom r (dialogue_of f c.2.2.0) x answer c.2.2.1 c.2.2.2) (one_round c.2.0 c.2.1.0) c.2.2.4)
      where
        by_from : AnswersFrom r (dialogue_of f c.2.2.0) round answer c.2.2.1 c.2.2.2 → ⊥
        by_from (inl large) = answers_never c.2.2.0 c.2.2.3 c.2.2.1 (Some large.0.0) (inr (inl (large.0.0, large.0.1, refl)))
        by_from (inr again) = answers_never c.2.2.0 c.2.2.3 c.2.2.1 (Some again.0.0) (inr (inr (inl (again.0.0, again.0.1, refl))))

    -- ---- Nor are its verify data alone wrong.

    completes_never : (v : List ℕ) → MayStand f v → CompletesApart r (dialogue_of f v) round answer → ⊥
    completes_never v stand c = by_repeat (repeats_held held round.tag round.body) refl
      where
        leads : MayLeadTo r (with_large None v h) round.tag (clear_body m) (Adds c.3)
        leads =
            subst (λ (b : List ℕ). MayLeadTo r (with_large None v h) round.tag b (Adds c.3)) body_is
            (subst (λ (o : Option ℕ). MayLeadTo r (with_large o v h) round.tag round.body (Adds c.3)) (place w q older rows f own party held kept round is other) c.5)

        by_repeat : (b : Bool) → repeats_held held round.tag round.body ≡ b → ⊥
        by_repeat true again = let same = repeat_is_same r h v round.tag m (Adds c.3) (again_here again) leads in absurd (cc)
        by_repeat false anew =
            let asks = get anew v stand in
            let at : MayLeadTo r (with_large None v h) round.tag (clear_body (get_message asks.handle (number_of f))) (Adds c.3) =
            subst (λ (b : List ℕ). MayLeadTo r (with_large None v h) round.tag b (Adds c.3)) (sym body_is ∙ asks.body) leads in
            no_chunk anew v stand (sym c.7 ∙ ap body_of ((next_is_given r h v round.tag asks.handle (number_of f) (Adds c.3) asks.next).0 at))

    pub apart_never : (v : List ℕ) → MayStand f v → GoesApart r (dialogue_of f v) (Whole route answer) → ⊥
    apart_never v stand c = by_apart (subst (λ (o : Option Round). AreRepliesApart r (dialogue_of f v) o answer) is c.1)
      where
        by_apart : AreRepliesApart r (dialogue_of f v) (Some round) answer → ⊥
        by_apart (inl replies) = replies_are_not_apart w q older (dialogue_of f v) v round answer (own.all v stand) refl is (type w q older rows f own party held kept round is other) replies
        by_apart (inr last) = completes_never v stand last
