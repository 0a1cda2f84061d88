-- An answer to a record of the session in which a large response is fetched: what it leads to, with some bytes that may
-- stand.
use Rattle.std.proofs.Common.{◌≡◌, ◌<◌, ◌==◌, ℕ, List, ◌∷◌, refl, sym, ap, ◌∙◌, subst, drop, take, length, arith, Bool, true, false, Option, Some, cond}
use Rattle.std.specs.Prelude.{slice_index}
use Rattle.std.proofs.lemmas.Bool.{false≢true}
use Rattle.std.proofs.lemmas.Option.{same_Some}
use Rattle.mctp_framing.specs.Cutting.{RouteFields}
use Rattle.mctp_framing.specs.Gathering.Gathered.{Whole}
use Rattle.check_ends.proofs.InTurn.{AnswersInTurn}
use Rattle.check_responder.specs.AnswerKeys.{will_take}
use Rattle.check_requester.specs.JudgedRequester.{Carries}
use Rattle.check_requester.specs.HeardKept.{asks_upon, heard_kept}
use Rattle.check_laws.proofs.OneWalk.{walks_alike}
use Rattle.check_laws.proofs.PlainShown.{plain_is_shown}
use Rattle.check_laws.specs.AnswersShown.{LeadsAt, answered_text, values_shown_by}
use Rattle.check_laws.specs.DropsShown.{IsShownAnswer, drops_shown_by, outcome_shown}
use Rattle.check_laws.specs.Keeping.{Kept}
use Rattle.check_laws.specs.Order.{body_in}
use Rattle.check_laws.specs.RepliesShown.{responder_for}
use Rattle.chunking.specs.Cutting.{unit_of}
use Rattle.check_late_laws.proofs.Gave.{Gave, bytes_begin, bytes_next, number_next, size_next}
use Rattle.check_late_laws.proofs.GoesWith.{told_whole}
use Rattle.check_late_laws.proofs.PlainLaws.{Now, now}
use Rattle.check_late_laws.proofs.PlainLaws.Now.{Version, Chunk}
use Rattle.check_late_laws.proofs.Stood.{Came, came}
use Rattle.check_late_laws.proofs.Stood.Came.{Other, Chunk as Gives}
use Rattle.check_late_laws.specs.Fetching.{Fetching, IsFetchingOf, MayStand, answer_by, dialogue_of, number_given}
use Rattle.check_late_laws.specs.FetchingLaws.{GoesFetching}
use Rattle.check_late_laws.specs.FetchingShown.{ShowsChunk}
use Rattle.requester_machine.specs.May.{IsSetUp}
use Rattle.requester_machine.specs.Setup.{ReqSetup}
use Rattle.responder_machine.specs.History.{Entry, History}
use Rattle.responder_machine.specs.May.{on_body, place_for, with_dropped}
use Rattle.responder_machine.specs.Place.{Place}
use Rattle.responder_machine.specs.Responder.{after, body_of, sent_by}
use Rattle.responder_machine.specs.Responder.Outcome.{Adds}
use Rattle.responder_machine.specs.Session.{id_in_record, session_of}
use Rattle.responder_machine.specs.Setup.{RspSetup}
use Rattle.secured_record.specs.Format.{plain_text}
use Rattle.spdm_basis.proofs.Bools.{suc_units}
use Rattle.capture_machine.proofs.FetchStates.{Fetch}
use Rattle.capture_machine.proofs.GetTells.{transfer_of}
use Rattle.capture_machine.proofs.PlacesServed.{named_session}
use Rattle.capture_machine.proofs.SeenAnswers.{led_seen}
use Rattle.capture_machine.proofs.UnseenStands.{UnseenStand, old_in}
use Rattle.capture_machine.specs.CapturedAnswers.{AnswersPlainly, MayLeadTo, is_plain}
use Rattle.capture_machine.specs.LargeAnswers.{is_unseen_in, judging, place_named, seen, takes_get, with_large}
use Rattle.capture_machine.specs.Opening.{turn_in}
use Rattle.capture_machine.specs.Rounds.{Dialogue, Round, no_draw}
use Rattle.world_machine.specs.Setup.{Configuration}
use Rattle.check_fetched_ends.proofs.HeardOn.{heard_on}
use Rattle.check_fetched_ends.proofs.HeldMessages.{IsHeld, held_in}
use Rattle.check_late_laws.proofs.Late.PlainTexts.{one_inner}
use Rattle.check_fetched_ends.specs.InSession.{is_chunk}
use Rattle.check_fetched_laws.proofs.RecordTaken.{entry, may_lead, no_drops, shown_adds}

module _ (w : Configuration) (q : ReqSetup) (older : List (List ℕ)) (f : Fetching) (route : RouteFields) (answer : List ℕ) (byte : w.responder.beat < 256) (limits : IsSetUp f.kept.setup) (own : IsFetchingOf w q older f) (turn : AnswersInTurn f.kept route answer)
    (id : ℕ) (at : f.at ≡ Some id) (type : (slice_index turn.round.body 0 == 5) ≡ false) where
  abbrev pub k : Kept
  k = f.kept

  abbrev pub r : RspSetup
  r = responder_for w f.kept

  abbrev pub h : History
  h = f.kept.responder

  abbrev pub round : Round
  round = turn.round

  pub place_is : (v : List ℕ) → MayStand f v → place_named round.body ≡ Some id
  place_is v stand = by_now (now w q older f own round turn.answers.0 v stand)
    where
      by_now : Now f round v → place_named round.body ≡ Some id
      by_now (Version is) = absurd (false≢true (sym type ∙ ap (λ (l : List ℕ). slice_index l 0 == 5) is))
      by_now (Chunk gets fetch) = ap (λ (o : Option Round). place_named (body_in o)) (sym turn.answers.0) ∙ own.there gets ∙ at

  pub id_is : (v : List ℕ) → MayStand f v → id_in_record (drop 1 round.body) ≡ id
  id_is v stand = same_Some _ _ (sym (named_session round.body type) ∙ place_is v stand)

  pub fetch_is : (v : List ℕ) → MayStand f v → Fetch h v round.tag round.body
  fetch_is v stand = by_now (now w q older f own round turn.answers.0 v stand)
    where
      by_now : Now f round v → Fetch h v round.tag round.body
      by_now (Version is) = absurd (false≢true (sym type ∙ ap (λ (l : List ℕ). slice_index l 0 == 5) is))
      by_now (Chunk gets fetch) = fetch

  pub unseen_stand : (v : List ℕ) → MayStand f v → UnseenStand h
  unseen_stand v stand = (walks_alike w q older (dialogue_of f v) (dialogue_of f v) (own.all v stand) (own.all v stand)).one.unseen

  -- With these bytes.
  module _ (v : List ℕ) (stand : MayStand f v) where
    abbrev pub g : History
    g = with_large (Some id) v h

    abbrev pub d : Dialogue
    d = dialogue_of f v

    judged : judging (Some v) round.body h ≡ g
    judged = ap (λ (o : Option ℕ). with_large o v h) (place_is v stand)

    carries : Carries w q older k
    carries = (Some v, own.all v stand, own.kept)

    -- A record that the session takes, and a record that answers it.
    module _ (will : will_take r g round.body ≡ true) (sealed : (slice_index answer 0 == 5) ≡ false) (shown : IsShownAnswer r g round.tag round.body answer) where
      abbrev pub e : Entry
      e = entry r g round.tag round.body answer type will

      abbrev adds : outcome_shown r g round.tag round.body answer ≡ Adds e
      adds = shown_adds r g round.tag round.body answer type will sealed

      pub leads : MayLeadTo r g round.tag round.body (Adds e)
      unfolding outcome_shown
      leads =
          may_lead r g round.tag round.body answer type will
          (subst (λ (l : List ℕ). LeadsAt r (with_dropped g l) round.tag round.body (on_body r (with_dropped g l) round.tag round.body (values_shown_by r (with_dropped g l) round.tag round.body answer) no_draw) (values_shown_by r (with_dropped g l) round.tag round.body answer))
          (no_drops r g round.tag round.body answer type will sealed) shown.0)

      pub sent : sent_by e ≡ answer
      sent = ap body_of (sym adds) ∙ shown.2

      pub still_plain : is_plain g (Adds e) ≡ true
      still_plain = ap (is_plain g) (sym adds) ∙ shown.1

      pub unseen_none : is_unseen_in (Some id) e ≡ false
      unseen_none = old_in (Some id) e (led_seen r g round.tag round.body e leads)

      pub behind_is : with_large (Some id) v (e ∷ h) ≡ e ∷ g
      behind_is = ap (λ (b : Bool). cond b (seen v e ∷ h) (e ∷ with_large (Some id) v h)) unseen_none

      -- It may be given.
      pub plainly : AnswersPlainly r d round answer (e ∷ h)
      plainly =
          (plain_is_shown r d round answer (e ∷ h) byte).1
          (subst (λ (l : History). IsShownAnswer r l round.tag round.body answer × (e ∷ h ≡ after (with_dropped h (drops_shown_by r l round.tag round.body answer)) (outcome_shown r l round.tag round.body answer))) (sym judged)
          (shown, sym (ap (λ (l : List ℕ). after (with_dropped h l) (outcome_shown r g round.tag round.body answer)) (no_drops r g round.tag round.body answer type will sealed) ∙ ap (after h) adds)))

      -- What is kept after it, while the requester awaits a chunk still.
      abbrev pub next : Fetching
      next = record f { kept = heard_kept k (e ∷ h) route.tag round answer }

      pub goes : asks_upon k route.tag answer ≡ true → GoesFetching w f (Whole route answer) next
      goes asks =
          let heard = heard_on w q older k limits carries route.tag round answer turn.answers.0 turn.answers.1 (Some v) (e ∷ h) in
          (turn.body, turn.owner, (round, turn.answers, (v, e ∷ h, stand, plainly, (heard.history, heard.hears, heard.asks ∙ asks, ap (λ (x : Kept). record f { kept = x }) (sym heard.kept)))))

      -- ---- The chunk.

      -- Its text holds this message, which is CHUNK_RESPONSE.
      module _ (text m pad : List ℕ) (brief : length text < 65536) (is : text ≡ answered_text r (session_of (id_in_record (drop 1 round.body)) g) (turn_in r (session_of (id_in_record (drop 1 round.body)) g) (drop 1 round.body)) (drop 1 answer)) (holds : text ≡ plain_text (5 ∷ m) pad)
          (chunk : is_chunk m ≡ true) where
        held : IsHeld r g round.body e
        held = held_in r g round.tag round.body e type leads

        inner_is : held.inner ≡ 5 ∷ m
        inner_is =
            let there : text ≡ plain_text held.inner held.pad = is ∙ ap (λ (l : List ℕ). answered_text r (session_of (id_in_record (drop 1 round.body)) g) (turn_in r (session_of (id_in_record (drop 1 round.body)) g) (drop 1 round.body)) (drop 1 l)) (sym sent) ∙ held.text in
            one_inner text held.inner (5 ∷ m) held.pad pad brief there holds

        pub gets : takes_get e ≡ true
        gets = by_gets (takes_get e) refl
          where
            by_gets : (b : Bool) → takes_get e ≡ b → b ≡ true
            by_gets true is = refl
            by_gets false is = absurd (false≢true (sym (held.other is m inner_is) ∙ chunk))

        pub message_is : answer_by e ≡ m
        message_is = ap (drop 1) (sym (held.gives gets) ∙ inner_is)

        gave : Gave (place_named round.body) h v (place_for (with_large (place_named round.body) v h) round.body) e
        gave = by_came (came r h v round.tag round.body e (fetch_is v stand) (subst (λ (l : History). MayLeadTo r l round.tag round.body (Adds e)) (sym judged) leads))
          where
            by_came : Came r h v round.tag round.body e → Gave (place_named round.body) h v (place_for (with_large (place_named round.body) v h) round.body) e
            by_came (Other none stays) = absurd (false≢true (sym none ∙ gets))
            by_came (Gives takes g) = g

        abbrev p : Place
        p = place_for (with_large (place_named round.body) v h) round.body

        gave_there : Gave f.at h v p e
        gave_there = subst (λ (o : Option ℕ). Gave o h v p e) (place_is v stand ∙ sym at) gave

        pub shows_chunk : ShowsChunk f next answer
        shows_chunk =
            let n : ℕ = number_given f.at h in record {
              entry = e;
              behind = refl;
              sent = sent;
              gives = gave_there.here;
              whole = v;
              stands = stand;
              transfer = transfer_of p;
              handle = gave_there.handle;
              chunk = gave_there.gives;
              more = gave_there.more;
              wide = gave_there.wide;
              number = number_next f.at h v p e gave_there;
              bytes = bytes_next f.at h v p e gave_there;
              begins = bytes_begin f.at h v p e gave_there ∙ ap (λ (x : ℕ). take x v) (let x = suc_units n (unit_of (transfer_of p)) in omega (arith, x));
              size = told_whole f.at h v p e gave_there f.place stand;
              told = size_next f.at h v p e gave_there;
            }
