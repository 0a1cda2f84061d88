-- With which bytes an answer that goes whole may be given, whatever the requester does in response to it.
use Rattle.std.proofs.Common.{◌≡◌, ◌&&◌, ℕ, List, refl, sym, ap, ◌∙◌, subst, Bool, true, false, Option, Some, inl, inr}
use Rattle.std.proofs.Math.Bool.{and-false}
use Rattle.std.proofs.lemmas.Option.{same_Some}
use Rattle.requester_machine.specs.History.{outstanding}
use Rattle.requester_machine.specs.Setup.{ReqSetup}
use Rattle.responder_machine.specs.History.{History}
use Rattle.responder_machine.specs.May.{place_for, with_dropped}
use Rattle.responder_machine.specs.Responder.{Outcome, after}
use Rattle.responder_machine.specs.Responder.Outcome.{Same, Unopened, Adds}
use Rattle.responder_machine.specs.Setup.{RspSetup, towards}
use Rattle.spdm_grammar.specs.Message.RequestMessage.{GetVersion}
use Rattle.spdm_grammar.specs.Requests.{canonical_request}
use Rattle.spdm_machine.specs.Bodies.{clear_body}
use Rattle.check_laws.proofs.OneWalk.{walks_alike}
use Rattle.check_laws.specs.Order.{body_in}
use Rattle.capture_machine.proofs.FetchStates.{Fetch}
use Rattle.capture_machine.proofs.FetchedTold.{version_apart}
use Rattle.capture_machine.proofs.Fetching.{IsSound}
use Rattle.capture_machine.proofs.SeenAnswers.{led_seen}
use Rattle.capture_machine.proofs.UnseenStands.{old_in}
use Rattle.capture_machine.specs.CapturedAnswers.{AnswersPlainly, MayLeadTo}
use Rattle.capture_machine.specs.LargeAnswers.{is_fetching, is_kept_in, judging, place_named, takes_get, with_large}
use Rattle.capture_machine.specs.Rounds.{Round}
use Rattle.world_machine.specs.Setup.{Configuration, known_of}
use Rattle.check_late_laws.specs.Fetching.{Fetching, IsFetchingOf, MayStand, dialogue_of}
use Rattle.check_late_laws.specs.FetchingLaws.{PlainIsOfAll}
use Rattle.check_late_laws.proofs.Fresh.{StaysBy}
use Rattle.check_late_laws.proofs.GoesWith.{Stood, stood}
use Rattle.check_late_laws.proofs.NoCaps.{walks_caps}
use Rattle.check_late_laws.proofs.PlainMoved.{plain_moved}
use Rattle.check_late_laws.proofs.PlainWithin.{Moved}
use Rattle.check_late_laws.proofs.Stood.{IsSame, StandsAt, dropped_same, entry_same, same_stands}
use Rattle.check_late_laws.proofs.VersionMoved.{version_moved}

-- ---- GET_VERSION was asked for.

-- Its answer gives no chunk.
version_same : (r : RspSetup) (g h : History) (at : Option ℕ) (tag : ℕ) (body : List ℕ) (ids : List ℕ) (o : Outcome) → body ≡ clear_body (canonical_request GetVersion) → MayLeadTo r (with_dropped g ids) tag body o → IsSame at (after (with_dropped h ids) o) h
version_same r g h at tag body ids (Same b) is may = dropped_same at ids h
version_same r g h at tag body ids (Unopened b) is may = dropped_same at ids h
version_same r g h at tag body ids (Adds e) is may =
    let stays : StaysBy at e = record { seen = old_in at e (led_seen r (with_dropped g ids) tag body e may); none = none_given (takes_get e) refl } in
    let one = entry_same at e (with_dropped h ids) stays in
    let rest = dropped_same at ids h in
    record { number = one.number ∙ rest.number; bytes = one.bytes ∙ rest.bytes; size = one.size ∙ rest.size }
  where
    none_given : (b : Bool) → takes_get e ≡ b → (is_kept_in at e && takes_get e) ≡ false
    none_given true gets = absurd (version_apart r (with_dropped g ids) tag body e is may gets)
    none_given false none = ap (λ (b : Bool). is_kept_in at e && b) none ∙ and-false (is_kept_in at e)

-- ---- Each answer that goes whole.

-- GET_VERSION was asked for, or the answer is fetched.
pub data Now (f : Fetching) (round : Round) (u : List ℕ) : Type 0 where
  Version : round.body ≡ clear_body (canonical_request GetVersion) → Now f round u
  Chunk : is_fetching (outstanding (dialogue_of f u).requester) ≡ true → Fetch f.kept.responder u round.tag round.body → Now f round u

module _ (w : Configuration) (q : ReqSetup) (older : List (List ℕ)) (f : Fetching) (own : IsFetchingOf w q older f) (round : Round) (at : f.kept.round ≡ Some round) where
  abbrev r : RspSetup
  r = towards w.responder (known_of f.kept.setup)

  abbrev k : History
  k = f.kept.responder

  sound_of : (u : List ℕ) → MayStand f u → IsSound (dialogue_of f u)
  sound_of u may = (walks_alike w q older (dialogue_of f u) (dialogue_of f u) (own.all u may) (own.all u may)).one

  pub now : (u : List ℕ) → MayStand f u → Now f round u
  now u may =
      let old = (sound_of u may).fetched u refl in
      let same : old.0 ≡ round = same_Some old.0 round (sym old.1 ∙ at) in
      elim old.2.stands [
        | inl version ↦ Version (ap (λ (x : Round). x.body) (sym same) ∙ version.1)
        | inr fetch ↦ Chunk (ap is_fetching old.2.waits ∙ fetch.0) (subst (λ (x : Round). Fetch f.kept.responder u x.tag x.body) same fetch.1)
      ]

  module _ (answer : List ℕ) (v : List ℕ) (h : History) (stand : MayStand f v) (plain : AnswersPlainly (towards w.responder (known_of f.kept.setup)) (dialogue_of f v) round answer h) where
    -- What follows it.
    abbrev Behind : List ℕ → Type 0
    Behind u = StandsAt f.place f.at h u

    moved_plain : (u : List ℕ) → Moved r k u round.tag round.body plain.0 plain.1 → AnswersPlainly r (dialogue_of f u) round answer h
    moved_plain u moved = (plain.0, plain.1, moved.may, moved.shown, moved.plain, plain.5, plain.6)

    of_all : (u : List ℕ) → Behind u → Now f round v → MayStand f u × AnswersPlainly r (dialogue_of f u) round answer h
    of_all u behind (Version is) =
        let same = version_same r (with_large (place_named round.body) v k) k f.at round.tag round.body plain.0 plain.1 is plain.2.1 in
        let may : MayStand f u = same_stands f.place f.at (after (with_dropped k plain.0) plain.1) k u same (subst (λ (x : History). StandsAt f.place f.at x u) plain.6 behind) in
        (may, moved_plain u (version_moved r k v u round.tag round.body is (walks_caps w q older (dialogue_of f v) (own.all v stand)) plain.0 plain.1 plain.2 plain.3 plain.4))
    of_all u behind (Chunk gets fetch) =
        let place : place_named round.body ≡ f.at = ap (λ (o : Option Round). place_named (body_in o)) (sym at) ∙ own.there gets in
        let here : StandsAt f.place (place_named round.body) k v = subst (λ (o : Option ℕ). StandsAt f.place o k v) (sym place) stand in
        let b = stood r k v u round.tag round.body f.place here plain.0 plain.1 fetch plain.2 plain.3 (subst (λ (x : History). StandsAt f.place (place_named round.body) x u) plain.6 (subst (λ (o : Option ℕ). StandsAt f.place o h u) (sym place) behind)) in
        let may : MayStand f u = subst (λ (x : Option ℕ). StandsAt f.place x k u) place b.stood in
        (may, moved_plain u (by_now may (now u may) b))
      where
        by_now : MayStand f u → Now f round u → Stood f.place plain.1 (place_for (judging (Some v) round.body k) round.body) (place_named round.body) k v u → Moved r k u round.tag round.body plain.0 plain.1
        by_now may (Version is) b = version_moved r k v u round.tag round.body is (walks_caps w q older (dialogue_of f v) (own.all v stand)) plain.0 plain.1 plain.2 plain.3 plain.4
        by_now may (Chunk also other) b =
            plain_moved r k v u round.tag round.body (sound_of v stand).unseen (walks_caps w q older (dialogue_of f v) (own.all v stand)) fetch other plain.0 plain.1 b.goes plain.2 plain.3 plain.4

    pub all_plain : (u : List ℕ) → StandsAt f.place f.at h u → MayStand f u × AnswersPlainly r (dialogue_of f u) round answer h
    all_plain u behind = of_all u behind (now v stand)

pub plain_is_of_all : PlainIsOfAll
plain_is_of_all w q older f round answer v u h own at stand plain behind = all_plain w q older f own round at answer v h stand plain u behind
