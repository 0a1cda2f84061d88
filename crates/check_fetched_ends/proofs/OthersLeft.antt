-- Whether a chunk is left to be given after an answer in a session that gives none.
use Rattle.std.proofs.Common.{◌≡◌, ◌<◌, ◌==◌, ◌&&◌, ◌||◌, ◌⊎◌, ℕ, List, [], ◌∷◌, refl, sym, ap, ◌∙◌, subst, drop, Bool, true, false, Option, Some, None, is_none, is_some, cond, inl, inr}
use Rattle.std.specs.Prelude.{not}
use Rattle.std.proofs.Math.Bool.{and-false}
use Rattle.std.proofs.lemmas.Bool.{false≢true, not-false}
use Rattle.mctp_framing.specs.Cutting.{RouteFields}
use Rattle.spdm_basis.proofs.Bools.{and_first, and_second}
use Rattle.check_ends.proofs.InTurn.{AnswersInTurn}
use Rattle.check_responder.proofs.KeysKept.{dropped_session}
use Rattle.check_responder.specs.JudgedResponder.{history_shown}
use Rattle.check_ends.specs.declared.party.Party.{Party}
use Rattle.check_laws.proofs.PlainShown.{shown_back}
use Rattle.check_laws.specs.ChangeLaws.{answered_by}
use Rattle.check_laws.specs.DropsShown.{IsShownAnswer}
use Rattle.check_laws.specs.RepliesShown.{responder_for}
use Rattle.responder_core.specs.Sessions.{IsViewOf}
use Rattle.check_fetched_laws.specs.JudgedFor.{session_with}
use Rattle.check_late_laws.specs.Fetching.{Fetching, IsFetchingOf}
use Rattle.negotiate.specs.declared.shared.Common.{Common}
use Rattle.requester_machine.specs.May.{IsSetUp}
use Rattle.requester_machine.specs.Setup.{ReqSetup}
use Rattle.responder_machine.specs.History.{Entry, History}
use Rattle.responder_machine.specs.History.Entry.{Sealed}
use Rattle.responder_machine.specs.May.{with_dropped}
use Rattle.responder_machine.specs.Place.{place_terms, session_place}
use Rattle.responder_machine.specs.Refusal.{has_pending}
use Rattle.responder_machine.specs.Responder.Outcome.{Same, Unopened, Adds}
use Rattle.responder_machine.specs.Responder.{Outcome, after, body_of, sent_by}
use Rattle.responder_machine.specs.Session.{Events, id_in_record, is_live, session_of, session_terms}
use Rattle.responder_machine.specs.Session.Event.{Heard}
use Rattle.responder_machine.specs.Setup.{RspSetup}
use Rattle.responder_machine.specs.Turn.{Turn, handle_in, takes}
use Rattle.spdm_grammar.specs.declared.names.request_code.TheConstants.{CHUNK_GET}
use Rattle.spdm_grammar.specs.declared.told.session_view.SessionView.{SessionView}
use Rattle.capture_machine.proofs.SeenAnswers.{led_seen}
use Rattle.capture_machine.proofs.UnseenStands.{old_in}
use Rattle.capture_machine.specs.CapturedAnswers.{AreShown, MayLeadAfter, MayLeadTo, is_plain}
use Rattle.capture_machine.specs.LargeAnswers.{is_large, is_unseen_in, judging, seen, takes_get, with_large}
use Rattle.capture_machine.specs.Rounds.{Round, no_draw}
use Rattle.capture_machine.specs.SessionTable.{Row}
use Rattle.world_machine.specs.Setup.{Configuration}
use Rattle.check_fetched_ends.proofs.InSessionRecord.{id_is}
use Rattle.check_fetched_laws.proofs.MeasuredStays.{StaysIn}
use Rattle.check_fetched_laws.proofs.MeasuredStays.StaysIn.{Same as Stays, More}
use Rattle.check_fetched_ends.proofs.OthersKept.{behind, dropped_large, ids, large_then, leads, outcome}
use Rattle.check_fetched_laws.proofs.OthersLed.{IsSealed, live_before, live_behind, pending_behind, sealed_in}
use Rattle.check_fetched_ends.proofs.OthersSame.{judged_at, none_dropped}
use Rattle.check_fetched_ends.specs.InSession.{IsFetchedIn}
use Rattle.check_fetched_ends.specs.SessionOthers.{IsOtherAnswer, is_refused, left_then}
use Rattle.check_fetched_ends.specs.declared.session_fetch.in_session.InSession.{InSession}

not_so : (b : Bool) → not b ≡ true → b ≡ false
not_so true is = absurd (false≢true is)
not_so false is = refl

-- ---- Where there is no session, nothing is pending.

pub live_view : (o : Option SessionView) (s : Events) → IsViewOf o s → is_some o ≡ true → is_live s ≡ true
live_view None s is some = absurd (false≢true some)
live_view (Some view) s is some = is.0

pub none_view : (o : Option SessionView) (s : Events) → IsViewOf o s → is_some o ≡ false → s ≡ []
none_view None s is none = is
none_view (Some view) s is none = absurd (false≢true (sym none))

live_same : (x s : Events) → (x ≡ s) ⊎ (x ≡ []) → is_live x ≡ true → x ≡ s
live_same x s (inl same) live = same
live_same x s (inr none) live = absurd (false≢true (sym (ap is_live none) ∙ live))

-- By what is kept from then on.
left_gone : (left idle refuses : Bool) → left_then left false idle refuses ≡ false
left_gone true idle refuses = refl
left_gone false idle refuses = refl

left_same : (left refuses : Bool) → left_then left true true refuses ≡ left
left_same true refuses = refl
left_same false refuses = refl

left_taken : (left refused refuses : Bool) → (left ≡ true → refused ≡ refuses) → (refused && left) ≡ left_then left true false refuses
left_taken true true refuses is = is refl
left_taken true false refuses is = is refl
left_taken false refused refuses is = and-false refused

module _ (w : Configuration) (q : ReqSetup) (older : List (List ℕ)) (rows : List Row) (f : Fetching) (route : RouteFields) (answer : List ℕ) (byte : w.responder.beat < 256) (limits : IsSetUp f.kept.setup) (own : IsFetchingOf w q older f) (turn : AnswersInTurn f.kept route answer)
    (party : Party) (fetched : InSession) (kept : IsFetchedIn party fetched w q f rows) (refuses : Bool) (other : IsOtherAnswer (responder_for w f.kept) fetched f turn.round answer refuses)
    (shown : IsShownAnswer (responder_for w f.kept) (with_large (Some fetched.id) kept.whole f.kept.responder) turn.round.tag turn.round.body answer) where
  abbrev r : RspSetup
  r = responder_for w f.kept

  abbrev h : History
  h = f.kept.responder

  abbrev round : Round
  round = turn.round

  abbrev id : ℕ
  id = fetched.id

  abbrev x : List ℕ
  x = kept.whole

  abbrev g : History
  g = with_large (Some fetched.id) kept.whole f.kept.responder

  abbrev dropped : List ℕ
  dropped = ids w q older rows f route answer byte limits own turn party fetched kept refuses other shown

  abbrev leads_to : Outcome
  leads_to = outcome w q older rows f route answer byte limits own turn party fetched kept refuses other shown

  abbrev then : History
  then = behind w q older rows f route answer byte limits own turn party fetched kept refuses other shown

  -- The session, before and after it.
  abbrev s : Events
  s = session_of id g

  judged : judging (Some x) round.body h ≡ g
  judged = judged_at w q older rows f route answer byte limits own turn party fetched kept refuses other x kept.stands

  -- An entry has a turn that gives no chunk, and was refused or not.
  module _ (e : Entry) (is : leads_to ≡ Adds e) where
    may_after : MayLeadAfter r g dropped round.tag round.body (Adds e)
    may_after = subst (MayLeadAfter r g dropped round.tag round.body) is (shown_back r g round.tag round.body byte answer shown).0

    are : AreShown r g round.body (Adds e) dropped
    are = subst (λ (o : Outcome). AreShown r g round.body o dropped) is (shown_back r g round.tag round.body byte answer shown).1

    none : dropped ≡ []
    none =
        none_dropped w q older rows f route answer byte limits own turn party fetched kept refuses other x kept.stands dropped e
        (subst (λ (l : History). MayLeadAfter r l dropped round.tag round.body (Adds e)) (sym judged) may_after)
        (subst (λ (l : History). AreShown r l round.body (Adds e) dropped) (sym judged) are)

    may : MayLeadTo r g round.tag round.body (Adds e)
    may = subst (λ (l : List ℕ). MayLeadTo r (with_dropped g l) round.tag round.body (Adds e)) none may_after.1

    sends : sent_by e ≡ answer
    sends = sym (ap body_of is) ∙ shown.2

    plain : is_plain g (Adds e) ≡ true
    plain = sym (ap (is_plain g) is) ∙ shown.1

    small : is_large e ≡ false
    small = not_so (is_large e) (and_first (not (is_large e)) _ plain)

    no_get : takes_get e ≡ false
    no_get = other.none x e (record { stands = kept.stands; leads = may; sends = sends })

    pub sealed : IsSealed r g round.tag round.body e
    sealed = sealed_in r g round.tag round.body e other.record_is may

    -- The session after it has that record.
    then_is : with_large (Some id) x then ≡ Sealed round.tag (drop 1 round.body) sealed.turn sealed.reply no_draw ∷ g
    then_is =
        large_then w q older rows f route answer byte limits own turn party fetched kept refuses other shown
        ∙ ap (λ (l : List ℕ). after (with_dropped g l) leads_to) none ∙ ap (after g) is ∙ ap (λ (y : Entry). y ∷ g) sealed.is

    pub session_then : is_live (session_with id then x) ≡ true → session_with id then x ≡ Heard (drop 1 round.body) sealed.turn sealed.reply ∷ s
    session_then live =
        ap (session_of id) then_is
        ∙ live_behind round.tag id (drop 1 round.body) sealed.turn sealed.reply g (id_is w q older f route answer byte limits own turn id kept.at other.record_is x kept.stands) (sym (ap (λ (l : History). is_live (session_of id l)) then_is) ∙ live)

    pending_then : is_live (session_with id then x) ≡ true → has_pending (session_place (session_with id then x)) ≡ left_then fetched.left true (is_none (answered_by (Adds e))) refuses
    pending_then live =
        ap (λ (y : Events). has_pending (session_place y)) (session_then live)
        ∙ pending_behind s (drop 1 round.body) sealed.turn sealed.reply (sym (ap takes_get sealed.is) ∙ no_get) (sym (ap is_large sealed.is) ∙ small)
        ∙ ap (λ (b : Bool). is_some sealed.turn.refused && b) kept.pending
        ∙ left_taken fetched.left (is_some sealed.turn.refused) refuses (λ left. sym (ap is_refused sealed.is) ∙ other.refused left x e (record { stands = kept.stands; leads = may; sends = sends }) small)
        ∙ sym (ap (λ (y : Entry). left_then fetched.left true (is_none (answered_by (Adds y))) refuses) sealed.is)

    pub turn_gets : takes CHUNK_GET sealed.turn ≡ false
    turn_gets = sym (ap takes_get sealed.is) ∙ no_get

    pub turn_small : is_some (handle_in sealed.turn.effect) ≡ false
    turn_small = sym (ap is_large sealed.is) ∙ small

    -- So it has in the history in which the answer was not seen.
    own_then : then ≡ Sealed round.tag (drop 1 round.body) sealed.turn sealed.reply no_draw ∷ h
    own_then = ap (λ (l : List ℕ). after (with_dropped h l) leads_to) none ∙ ap (after h) is ∙ ap (λ (y : Entry). y ∷ h) sealed.is

    pub unseen_session : is_live (session_of id then) ≡ true → session_of id then ≡ Heard (drop 1 round.body) sealed.turn sealed.reply ∷ session_of id h
    unseen_session live =
        ap (session_of id) own_then
        ∙ live_behind round.tag id (drop 1 round.body) sealed.turn sealed.reply h (id_is w q older f route answer byte limits own turn id kept.at other.record_is x kept.stands) (sym (ap (λ (l : History). is_live (session_of id l)) own_then) ∙ live)

    pub was_live : is_live (session_with id then x) ≡ true → is_live s ≡ true
    was_live live =
        live_before round.tag id (drop 1 round.body) sealed.turn sealed.reply g (id_is w q older f route answer byte limits own turn id kept.at other.record_is x kept.stands) (sym (ap (λ (l : History). is_live (session_of id l)) then_is) ∙ live)

    terms_then : is_live (session_with id then x) ≡ true → session_terms (session_with id then x) ≡ session_terms s
    terms_then live = ap session_terms (session_then live)

    -- With any bytes the session has that record after it. Where a chunk is left, its request was refused.
    with_bytes : (v : List ℕ) → with_large (Some id) v then ≡ Sealed round.tag (drop 1 round.body) sealed.turn sealed.reply no_draw ∷ with_large (Some id) v h
    with_bytes v =
        let old : is_unseen_in (Some id) e ≡ false = old_in (Some id) e (led_seen r g round.tag round.body e may) in
        ap (λ (l : List ℕ). with_large (Some id) v (after (with_dropped h l) leads_to)) none
        ∙ ap (λ (o : Outcome). with_large (Some id) v (after h o)) is
        ∙ ap (λ (b : Bool). cond b (seen v e ∷ h) (e ∷ with_large (Some id) v h)) old ∙ ap (λ (y : Entry). y ∷ with_large (Some id) v h) sealed.is

    refused_then : has_pending (session_place (session_with id then x)) ≡ true → is_live (session_with id then x) ≡ true → is_some sealed.turn.refused ≡ true
    refused_then more live =
        and_first (is_some sealed.turn.refused) _
        (sym (pending_behind s (drop 1 round.body) sealed.turn sealed.reply (sym (ap takes_get sealed.is) ∙ no_get) (sym (ap is_large sealed.is) ∙ small)) ∙ sym (ap (λ (y : Events). has_pending (session_place y)) (session_then live)) ∙ more)

    stays_entry : has_pending (session_place (session_with id then x)) ≡ true → is_live (session_with id then x) ≡ true → (v : List ℕ) → is_live (session_with id then v) ≡ true → StaysIn (session_with id h v) (session_with id then v)
    stays_entry more live v other_live =
        More (drop 1 round.body) sealed.turn sealed.reply (refused_then more live)
        (ap (session_of id) (with_bytes v)
        ∙ live_behind round.tag id (drop 1 round.body) sealed.turn sealed.reply (with_large (Some id) v h) (id_is w q older f route answer byte limits own turn id kept.at other.record_is x kept.stands)
        (sym (ap (λ (l : History). is_live (session_of id l)) (with_bytes v)) ∙ other_live))

  -- Where nothing is added, the session stays, or is gone.
  pub session_stays : after (with_dropped g dropped) leads_to ≡ with_dropped g dropped → is_live (session_with id then x) ≡ true → session_with id then x ≡ s
  session_stays none live =
      let same = ap (session_of id) (large_then w q older rows f route answer byte limits own turn party fetched kept refuses other shown ∙ none) in
      same ∙ live_same (session_of id (with_dropped g dropped)) s (dropped_session id g dropped) (sym (ap is_live same) ∙ live)

  -- So it does in the history in which the answer was not seen.
  pub unseen_stays : then ≡ with_dropped h dropped → is_live (session_of id then) ≡ true → session_of id then ≡ session_of id h
  unseen_stays none live =
      let same = ap (session_of id) none in
      same ∙ live_same (session_of id (with_dropped h dropped)) (session_of id h) (dropped_session id h dropped) (sym (ap is_live same) ∙ live)

  idle_then : after (with_dropped g dropped) leads_to ≡ with_dropped g dropped → is_live (session_with id then x) ≡ true → has_pending (session_place (session_with id then x)) ≡ left_then fetched.left true true refuses
  idle_then none live = ap (λ (y : Events). has_pending (session_place y)) (session_stays none live) ∙ kept.pending ∙ sym (left_same fetched.left refuses)

  by_outcome : (o : Outcome) → leads_to ≡ o → is_live (session_with id then x) ≡ true → has_pending (session_place (session_with id then x)) ≡ left_then fetched.left true (is_none (answered_by o)) refuses
  by_outcome (Same b) is live = idle_then (ap (after (with_dropped g dropped)) is) live
  by_outcome (Unopened b) is live = idle_then (ap (after (with_dropped g dropped)) is) live
  by_outcome (Adds e) is live = pending_then e is live

  terms_by : (o : Outcome) → leads_to ≡ o → is_live (session_with id then x) ≡ true → session_terms (session_with id then x) ≡ session_terms s
  terms_by (Same b) is live = ap session_terms (session_stays (ap (after (with_dropped g dropped)) is) live)
  terms_by (Unopened b) is live = ap session_terms (session_stays (ap (after (with_dropped g dropped)) is) live)
  terms_by (Adds e) is live = terms_then e is live

  -- Where a chunk is left after it, the session stays with any bytes, but for a request that was refused.
  stays_idle : then ≡ with_dropped h dropped → (v : List ℕ) → is_live (session_with id then v) ≡ true → StaysIn (session_with id h v) (session_with id then v)
  stays_idle is v live =
      let same : session_with id then v ≡ session_of id (with_dropped (with_large (Some id) v h) dropped) = ap (λ (l : History). session_of id (with_large (Some id) v l)) is ∙ ap (session_of id) (dropped_large id v dropped h) in
      Stays (same ∙ live_same _ (session_with id h v) (dropped_session id (with_large (Some id) v h) dropped) (sym (ap is_live same) ∙ live))

  stays_by : (o : Outcome) → leads_to ≡ o → has_pending (session_place (session_with id then x)) ≡ true → is_live (session_with id then x) ≡ true → (v : List ℕ) → is_live (session_with id then v) ≡ true → StaysIn (session_with id h v) (session_with id then v)
  stays_by (Same b) is more live v other_live = stays_idle (ap (after (with_dropped h dropped)) is) v other_live
  stays_by (Unopened b) is more live v other_live = stays_idle (ap (after (with_dropped h dropped)) is) v other_live
  stays_by (Adds e) is more live v other_live = stays_entry e is more live v other_live

  pub stays_then : has_pending (session_place (session_with fetched.id then kept.whole)) ≡ true → is_live (session_with fetched.id then kept.whole) ≡ true → (v : List ℕ) → is_live (session_with fetched.id then v) ≡ true
      → StaysIn (session_with fetched.id f.kept.responder v) (session_with fetched.id then v)
  stays_then = stays_by leads_to refl

  -- By the session as it is seen after it, and by whether a record was taken.
  module _ (view : Option SessionView) (viewed : IsViewOf view (session_of fetched.id (history_shown (responder_for w f.kept) (with_large (Some fetched.id) kept.whole f.kept.responder) turn.round.tag turn.round.body answer))) (taken : Option ℕ) (takes_it : taken ≡ answered_by leads_to) where
    view_then : IsViewOf view (session_with id then x)
    view_then = subst (λ (l : History). IsViewOf view (session_of id l)) (sym (large_then w q older rows f route answer byte limits own turn party fetched kept refuses other shown)) viewed

    by_view : (b : Bool) → is_some view ≡ b → has_pending (session_place (session_with id then x)) ≡ left_then fetched.left b (is_none taken) refuses
    by_view false is = ap (λ (y : Events). has_pending (session_place y)) (none_view view _ view_then is) ∙ sym (left_gone fetched.left (is_none taken) refuses)
    by_view true is =
        by_outcome leads_to refl (live_view view _ view_then is) ∙ ap (λ (o : Option ℕ). left_then fetched.left true (is_none o) refuses) (sym takes_it)

    pub left_is : has_pending (session_place (session_with fetched.id then kept.whole)) ≡ left_then fetched.left (is_some view) (is_none taken) refuses
    left_is = by_view (is_some view) refl

    pub sizes_then : left_then fetched.left (is_some view) (is_none taken) refuses ≡ true → (session_terms (session_with fetched.id then kept.whole)).common ≡ (place_terms f.place).common
    sizes_then left =
        let both = and_first (fetched.left && is_some view) _ left in
        ap (λ t. t.common) (terms_by leads_to refl (live_view view _ view_then (and_second fetched.left _ both))) ∙ kept.sizes (and_first fetched.left _ both)
