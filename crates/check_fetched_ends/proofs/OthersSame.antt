-- An answer in a session that gives no chunk of the large one leaves what came of that; it may be given with each bytes that
-- may stand where it may be given with some.
use Rattle.std.proofs.Common.{◌≡◌, ◌<◌, ◌==◌, ◌&&◌, ℕ, List, [], ◌∷◌, sym, ap, ◌∙◌, subst, Bool, true, false, Option, Some}
use Rattle.std.proofs.Math.Bool.{and-false}
use Rattle.std.proofs.lemmas.Bool.{false≢true}
use Rattle.mctp_framing.specs.Cutting.{RouteFields}
use Rattle.spdm_basis.proofs.Bools.{and_first}
use Rattle.check_ends.proofs.InTurn.{AnswersInTurn}
use Rattle.check_ends.specs.declared.party.Party.{Party}
use Rattle.check_laws.proofs.LargeShown.{large_is_shown}
use Rattle.check_laws.proofs.PlainShown.{plain_is_shown}
use Rattle.check_laws.specs.DropsShown.{IsShownAnswer}
use Rattle.check_laws.specs.LargeShown.{IsShownLarge}
use Rattle.check_laws.specs.RepliesShown.{responder_for}
use Rattle.check_late_laws.proofs.Fresh.{StaysBy}
use Rattle.check_late_laws.proofs.LargeLaws.{large_is_of_all}
use Rattle.check_late_laws.proofs.PlainLaws.{plain_is_of_all}
use Rattle.check_late_laws.proofs.Stood.{IsSame, adds_none, back_same, dropped_same, entry_same, same_stands}
use Rattle.check_late_laws.specs.Fetching.{Fetching, IsFetchingOf, MayStand, dialogue_of}
use Rattle.requester_machine.specs.May.{IsSetUp}
use Rattle.requester_machine.specs.Setup.{ReqSetup}
use Rattle.responder_machine.specs.History.{Entry, History}
use Rattle.responder_machine.specs.May.{with_dropped}
use Rattle.responder_machine.specs.Responder.Outcome.{Same, Unopened, Adds}
use Rattle.responder_machine.specs.Responder.{Outcome, after, body_of, sent_by}
use Rattle.responder_machine.specs.Setup.{RspSetup}
use Rattle.capture_machine.proofs.FetchStates.{Fetch}
use Rattle.capture_machine.proofs.SeenAnswers.{led_seen}
use Rattle.capture_machine.proofs.UnseenStands.{old_in}
use Rattle.capture_machine.specs.CapturedAnswers.{AnswersLarge, AnswersPlainly, AreShown, Completes, MayLeadAfter, MayLeadTo}
use Rattle.capture_machine.specs.LargeAnswers.{is_kept_in, judging, place_named, takes_get, with_large}
use Rattle.capture_machine.specs.Rounds.{Round}
use Rattle.capture_machine.specs.SessionTable.{Row}
use Rattle.world_machine.specs.Setup.{Configuration}
use Rattle.check_fetched_ends.proofs.InSessionRecord.{fetch_is, place_is}
use Rattle.check_fetched_ends.proofs.NoneGoesOn.{IsNone}
use Rattle.check_fetched_ends.specs.InSession.{IsFetchedIn}
use Rattle.check_fetched_ends.specs.SessionOthers.{IsOtherAnswer}
use Rattle.check_fetched_ends.specs.declared.session_fetch.in_session.InSession.{InSession}

module _ (w : Configuration) (q : ReqSetup) (older : List (List ℕ)) (rows : List Row) (f : Fetching) (route : RouteFields) (answer : List ℕ) (byte : w.responder.beat < 256) (limits : IsSetUp f.kept.setup) (own : IsFetchingOf w q older f) (turn : AnswersInTurn f.kept route answer)
    (party : Party) (fetched : InSession) (kept : IsFetchedIn party fetched w q f rows) (refuses : Bool) (other : IsOtherAnswer (responder_for w f.kept) fetched f turn.round answer refuses) where
  abbrev r : RspSetup
  r = responder_for w f.kept

  abbrev h : History
  h = f.kept.responder

  abbrev round : Round
  round = turn.round

  abbrev id : ℕ
  id = fetched.id

  pub place_at : (v : List ℕ) → MayStand f v → place_named turn.round.body ≡ Some fetched.id
  place_at v stand = place_is w q older f route answer byte limits own turn id kept.at other.record_is v stand

  pub judged_at : (v : List ℕ) → MayStand f v → judging (Some v) turn.round.body f.kept.responder ≡ with_large (Some fetched.id) v f.kept.responder
  judged_at v stand = ap (λ (o : Option ℕ). with_large o v h) (place_at v stand)

  fetch_at : (v : List ℕ) → MayStand f v → Fetch h v round.tag round.body
  fetch_at v stand = fetch_is w q older f route answer byte limits own turn id kept.at other.record_is v stand

  -- ---- An entry gives no chunk.

  module _ (v : List ℕ) (stand : MayStand f v) where
    gives_none : (e : Entry) → MayLeadTo r (judging (Some v) round.body h) round.tag round.body (Adds e) → sent_by e ≡ answer → takes_get e ≡ false
    gives_none e may sends = other.none v e (record {
      stands = stand;
      leads = subst (λ (l : History). MayLeadTo r l round.tag round.body (Adds e)) (judged_at v stand) may;
      sends = sends;
    })

    stays : (e : Entry) → MayLeadTo r (judging (Some v) round.body h) round.tag round.body (Adds e) → sent_by e ≡ answer → StaysBy f.at e
    stays e may sends = record {
      seen = old_in f.at e (led_seen r (judging (Some v) round.body h) round.tag round.body e may);
      none = ap (λ (b : Bool). is_kept_in f.at e && b) (gives_none e may sends) ∙ and-false (is_kept_in f.at e);
    }

    -- Nothing is dropped before an entry.
    pub none_dropped : (ids : List ℕ) (e : Entry) → MayLeadAfter (responder_for w f.kept) (judging (Some v) turn.round.body f.kept.responder) ids turn.round.tag turn.round.body (Adds e)
        → AreShown (responder_for w f.kept) (judging (Some v) turn.round.body f.kept.responder) turn.round.body (Adds e) ids → ids ≡ []
    none_dropped ids e may shown = adds_none r h v round.tag round.body ids e (fetch_at v stand) may shown

    same_by : (ids : List ℕ) (o : Outcome) → MayLeadAfter r (judging (Some v) round.body h) ids round.tag round.body o → AreShown r (judging (Some v) round.body h) round.body o ids → body_of o ≡ answer → IsSame f.at (after (with_dropped h ids) o) h
    same_by ids (Same b) may shown sends = dropped_same f.at ids h
    same_by ids (Unopened b) may shown sends = dropped_same f.at ids h
    same_by ids (Adds e) may shown sends =
        let none = none_dropped ids e may shown in
        let leads = subst (λ (l : List ℕ). MayLeadTo r (with_dropped (judging (Some v) round.body h) l) round.tag round.body (Adds e)) none may.1 in
        subst (λ (l : List ℕ). IsSame f.at (e ∷ with_dropped h l) h) (sym none) (entry_same f.at e h (stays e leads sends))

    -- So it leaves what came.
    pub same_on : (next : History) → AnswersPlainly (responder_for w f.kept) (dialogue_of f v) turn.round answer next → IsSame f.at next f.kept.responder
    same_on next a = subst (λ (l : History). IsSame f.at l h) (sym a.6) (same_by a.0 a.1 a.2 a.3 a.5)

    stands_on : (next : History) → AnswersPlainly r (dialogue_of f v) round answer next → (u : List ℕ) → MayStand f u → MayStand (record f { kept = record f.kept { responder = next } }) u
    stands_on next a u may = same_stands f.place f.at h next u (back_same f.at next h (same_on next a)) may

    -- It may be given with the bytes by which the connection judges.
    pub shown_with : (next : History) → AnswersPlainly (responder_for w f.kept) (dialogue_of f v) turn.round answer next → IsShownAnswer (responder_for w f.kept) (with_large (Some fetched.id) kept.whole f.kept.responder) turn.round.tag turn.round.body answer
    shown_with next a =
        let x : List ℕ = kept.whole in
        let there = plain_is_of_all w q older f round answer v x next own turn.answers.0 stand a (stands_on next a x kept.stands) in
        subst (λ (l : History). IsShownAnswer r l round.tag round.body answer) (judged_at x kept.stands) ((plain_is_shown r (dialogue_of f x) round answer next byte).0 there.1).0

    large_with : (next : History) (whole : List ℕ) → AnswersLarge r (dialogue_of f v) round answer next whole → IsShownLarge r (with_large (Some id) kept.whole h) round.tag round.body answer
    large_with next whole a =
        let x : List ℕ = kept.whole in
        let there = large_is_of_all w q older f round answer v x whole next own turn.answers.0 stand kept.stands a in
        subst (λ (l : History). IsShownLarge r l round.tag round.body answer) (judged_at x kept.stands) ((large_is_shown r (dialogue_of f x) round answer next byte).0 (whole, there)).0

    -- It is no last chunk.
    pub completes_none : (next : History) → Completes (responder_for w f.kept) (dialogue_of f v) turn.round answer next → ⊥
    completes_none next c = false≢true (sym (gives_none c.2 c.4 c.7) ∙ and_first (takes_get c.2) _ c.5)

  -- ---- It is none.

  pub is_none_with : (IsShownAnswer (responder_for w f.kept) (with_large (Some fetched.id) kept.whole f.kept.responder) turn.round.tag turn.round.body answer → ⊥)
      → (IsShownLarge (responder_for w f.kept) (with_large (Some fetched.id) kept.whole f.kept.responder) turn.round.tag turn.round.body answer → ⊥) → IsNone w q older rows f route answer turn
  is_none_with plain large = record {
    plain = λ v may next a. plain (shown_with v may next a);
    large = λ v may next whole a. large (large_with v may next whole a);
    last = λ v may next c. absurd (completes_none v may next c);
  }
