-- Where GET_VERSION was asked for in place of a chunk, the requester asks for none on what comes.
use Rattle.std.proofs.Common.{◌≡◌, ◌∙◌, ◌==◌, ℕ, List, [], ◌∷◌, refl, sym, ap, drop, true, false, Option, Some, None, arith, inl, inr}
use Rattle.std.specs.Prelude.{slice_index}
use Rattle.std.proofs.lemmas.Bool.{false≢true, false_from_ne_true}
use Rattle.std.proofs.lemmas.Option.{same_Some}
use Rattle.check_requester.specs.JudgedRequester.{Carries}
use Rattle.check_requester.specs.HeardKept.{asks_upon}
use Rattle.check_laws.specs.ChangeLaws.{accepted_by}
use Rattle.check_laws.specs.KeptChanges.{accepted_from}
use Rattle.check_laws.specs.Keeping.{restored}
use Rattle.check_laws.specs.Order.{body_in}
use Rattle.check_laws.specs.RepliesShown.{no_values}
use Rattle.check_fetched_laws.proofs.ClearRound.{walks_in_step}
use Rattle.check_fetched_laws.proofs.GetSteps.{Fetches}
use Rattle.check_fetched_laws.proofs.GetSteps.Fetches.{Owes, Asks, Has}
use Rattle.check_fetched_laws.proofs.WalksSound.{walks_sound}
use Rattle.check_fetched_laws.specs.ClearChunks.{get_message}
use Rattle.check_fetched_ends.proofs.HeardOn.{IsHeardOn, heard_on}
use Rattle.check_fetched_ends.specs.AsksUpon.{VersionAsksNone}
use Rattle.check_late_laws.specs.Fetching.{Fetching, IsFetchingOf, dialogue_of}
use Rattle.requester_machine.proofs.Heard.{accepted}
use Rattle.requester_machine.specs.Asking.{Outcome}
use Rattle.requester_machine.specs.Asking.Outcome.{Fails, Ignores, Warns, Resends, Adds}
use Rattle.requester_machine.specs.Hearing.{hears}
use Rattle.requester_machine.specs.History as requester_history
use Rattle.requester_machine.specs.History.{Effect, Entry, Led, outstanding}
use Rattle.requester_machine.specs.History.Effect.{Answers}
use Rattle.requester_machine.specs.History.Entry.{Told, TookClear, TookRecord}
use Rattle.requester_machine.specs.May.{IsSetUp}
use Rattle.requester_machine.specs.Message.{Sent, asked_in}
use Rattle.requester_machine.specs.Message.Aim.{Plain}
use Rattle.requester_machine.specs.Setup.{ReqSetup}
use Rattle.requester_machine.specs.Shown.{effect_in}
use Rattle.responder_machine.specs.History.{History, kept_of}
use Rattle.responder_machine.specs.Responder.{is_repeat}
use Rattle.spdm_grammar.specs.Message.{ExchangeMessage}
use Rattle.spdm_grammar.specs.Message.RequestMessage.{GetVersion, PskExchange}
use Rattle.spdm_grammar.specs.Requests.{canonical_request}
use Rattle.spdm_machine.specs.Bodies.{clear_body}
use Rattle.spdm_machine.specs.Keys.{Draw}
use Rattle.capture_machine.proofs.AimsHeard.{hears_version}
use Rattle.capture_machine.proofs.Fetching.{Fetched, IsSound}
use Rattle.capture_machine.specs.LargeAnswers.{is_fetching, place_named}
use Rattle.capture_machine.specs.Rounds.{Dialogue, Round, no_draw}
use Rattle.capture_machine.specs.SessionTable.{accepted_in}
use Rattle.world_machine.specs.Setup.{Configuration}

-- ---- No PSK_EXCHANGE_RSP is taken where GET_VERSION is asked for.

effect_none : (tag : ℕ) (m : List ℕ) (led : Led) (d : Draw) (x : Effect) → ((e : ExchangeMessage) (a : List ℕ) → x ≡ Answers (PskExchange e) a → ⊥) → accepted_in (TookClear tag m (record led { effect = x }) d ∷ []) ≡ None
effect_none tag m led d (Answers (PskExchange e) a) never = absurd (never e a refl)
effect_none tag m led d (Answers _ a) never = refl
effect_none tag m led d _ never = refl

module _ (q : ReqSetup) (h : requester_history.History) (tag : ℕ) (answer : List ℕ) (s : Sent) (waits : outstanding h ≡ Some s) (aims : s.aim ≡ Plain GetVersion) where
  never_asked : (entry : Entry) (effect : Effect) → hears q h false tag answer no_values no_draw ≡ Adds entry → ((e : ExchangeMessage) (a : List ℕ) → effect ≡ Answers (PskExchange e) a → effect_in entry ≡ Answers (PskExchange e) a) → (e : ExchangeMessage) (a : List ℕ) → effect ≡ Answers (PskExchange e) a → ⊥
  never_asked entry effect is at e a brings =
      let v = accepted q h false tag answer no_values no_draw entry e a is (at e a brings) in
      let same : v.sent ≡ s = same_Some v.sent s (sym v.waits ∙ waits) in
      let asks : Some GetVersion ≡ Some (PskExchange e) = sym (ap (λ (x : Sent). asked_in x.aim) same ∙ ap asked_in aims) ∙ v.asks in
      absurd (cc asks)

  none_by : (o : Outcome) → hears q h false tag answer no_values no_draw ≡ o → accepted_by o ≡ None
  none_by (Adds (TookClear n m led d)) is = effect_none n m led d led.effect (never_asked (TookClear n m led d) led.effect is (λ e a same. same))
  none_by (Adds (Told command sent d)) is = refl
  none_by (Adds (TookRecord n id sealed inner led d)) is = refl
  none_by (Fails fault) is = refl
  none_by (Ignores cause) is = refl
  none_by (Warns code) is = refl
  none_by (Resends sent) is = refl

-- ---- In a walk.

module _ (w : Configuration) (q : ReqSetup) (older : List (List ℕ)) (f : Fetching) (round : Round) (answer : List ℕ) (limits : IsSetUp f.kept.setup) (own : IsFetchingOf w q older f) (at : f.kept.round ≡ Some round) (body : round.body ≡ clear_body (canonical_request GetVersion))
    (anew : f.at ≡ None → is_repeat (kept_of f.kept.responder) round.tag (canonical_request GetVersion) ≡ false) where
  abbrev whole : List ℕ
  whole = own.stands.0

  abbrev d : Dialogue
  d = dialogue_of f own.stands.0

  abbrev asker : requester_history.History
  asker = (restored f.kept).requester

  abbrev k : History
  k = f.kept.responder

  sound : IsSound d
  sound = walks_sound w q older d (own.all whole own.stands.1)

  clear : (slice_index round.body 0 == 5) ≡ true
  clear = ap (λ (l : List ℕ). slice_index l 0 == 5) body

  no_get : (handle number : ℕ) → round.body ≡ clear_body (get_message handle number) → ⊥
  no_get handle number is = absurd (let code = ap (λ (l : List ℕ). slice_index l 2) (sym body ∙ is) in omega (arith, code))

  by_fetches : f.at ≡ None → Fetches asker k whole round → ⊥
  by_fetches there (Owes handle number m later again ready) = false≢true (sym (anew there) ∙ ap (λ (l : List ℕ). is_repeat (kept_of k) round.tag (drop 1 l)) (sym body) ∙ again)
  by_fetches there (Asks handle number m own_tag is fresh ready) = no_get handle number is
  by_fetches there (Has handle number m own_tag is again reply ready) = no_get handle number is

  -- No chunk is asked for.
  gets_none : is_fetching (outstanding asker) ≡ true → ⊥
  gets_none gets =
      let named : place_named round.body ≡ f.at = ap (λ (o : Option Round). place_named (body_in o)) (sym at) ∙ own.there gets in
      let none : place_named round.body ≡ None = ap place_named body in
      by_fetches (sym named ∙ none) ((walks_in_step w q older d (own.all whole own.stands.1)).so whole round refl at clear gets)

  pub record IsAsked : Type 0 where
    pub sent : Sent
    pub waits : outstanding asker ≡ Some sent
    pub aims : sent.aim ≡ Plain GetVersion

  asked : IsAsked
  asked =
      let old : Fetched asker k whole _ _ = (sound.fetched whole refl).2 in
      elim old.stands [
        | inl version ↦ record { sent = old.sent; waits = old.waits; aims = version.0 }
        | inr fetch ↦ absurd (gets_none (ap is_fetching old.waits ∙ fetch.0))
      ]

  pub asks_none : asks_upon f.kept round.tag answer ≡ false
  asks_none =
      let carries : Carries w q older f.kept = (Some whole, own.all whole own.stands.1, own.kept) in
      let heard : IsHeardOn f.kept d round.tag round answer k = heard_on w q older f.kept limits carries round.tag round answer at refl (Some whole) k in
      false_from_ne_true _ (λ asks. hears_version d round.tag answer round.body heard.history asked.sent (sound.asker round at) asked.waits asked.aims heard.hears (heard.asks ∙ asks))

  pub accepts_none : accepted_from f.kept round.tag answer ≡ None
  unfolding accepted_from
  accepts_none = none_by f.kept.setup asker round.tag answer asked.sent asked.waits asked.aims (hears f.kept.setup asker false round.tag answer no_values no_draw) refl

pub version_asks_none : VersionAsksNone
version_asks_none w q older f round answer limits own at body anew = (asks_none w q older f round answer limits own at body anew, accepts_none w q older f round answer limits own at body anew)
