-- A new LargeResponse depends on no byte of the large response that is fetched.
use Rattle.std.proofs.Common.{◌≡◌, ◌≤◌, ◌==◌, ℕ, List, [], ◌∷◌, refl, sym, ap, ◌∙◌, subst, drop, length, Bool, true, false, Option, Some, None, cond}
use Rattle.std.specs.Prelude.{slice_index}
use Rattle.std.proofs.lemmas.Bool.{false≢true}
use Rattle.responder_machine.specs.Answer.{answer_bytes}
use Rattle.responder_machine.specs.History.{Entry, History}
use Rattle.responder_machine.specs.May.{place_for, with_dropped}
use Rattle.responder_machine.specs.Place.{Place, clear_place, held_of, session_place}
use Rattle.responder_machine.specs.Refusal.{has_pending}
use Rattle.responder_machine.specs.Responder.{sent_by}
use Rattle.responder_machine.specs.Responder.Outcome.{Adds}
use Rattle.responder_machine.specs.Session.{Events, id_in_record, session_of}
use Rattle.responder_machine.specs.Setup.{RspSetup, towards}
use Rattle.spdm_grammar.specs.declared.names.TheConstants.{MAX_MESSAGE_SIZE}
use Rattle.transcript.specs.Transcripts.{Negotiation}
use Rattle.check_laws.proofs.LargeDrops.{drops_chosen}
use Rattle.check_laws.proofs.LargeLed.{Leads, large_leads}
use Rattle.check_laws.specs.AnswersShown.{least_values}
use Rattle.check_laws.specs.LargeShown.{first_dropped}
use Rattle.check_fetched_laws.proofs.ClearAlike.{clear_fits, large_clear}
use Rattle.check_fetched_laws.proofs.FewBytes.{answers_few}
use Rattle.check_fetched_laws.proofs.SealedAlike.{sealed_leads, session_within}
use Rattle.check_fetched_laws.proofs.SettledCaps.{walks_settle}
use Rattle.check_fetched_laws.proofs.TurnsBoth.{Settles}
use Rattle.check_fetched_laws.proofs.WalksSound.{walk_stands}
use Rattle.check_fetched_laws.specs.AlikeAnswers.{ArePending, LargeIsAlike}
use Rattle.capture_machine.proofs.EventsAlike.{EventsAlike, negotiation_alike}
use Rattle.capture_machine.proofs.FetchedSessions.{sessions_fetched}
use Rattle.capture_machine.proofs.FetchedTold.{Stands}
use Rattle.capture_machine.proofs.LargeTells.{adds_here, large_next}
use Rattle.capture_machine.proofs.PlacesServed.{named_clear, place_type}
use Rattle.capture_machine.proofs.PlainTells.{led_record}
use Rattle.capture_machine.proofs.RecordAdds.{record_added}
use Rattle.capture_machine.proofs.SmallGets.{gets_are_small}
use Rattle.capture_machine.specs.CapturedAnswers.{MayLeadAfter, MayLeadTo}
use Rattle.capture_machine.specs.LargeAnswers.{IsLargeAnswer, is_large, judging, place_named, place_of, unseen, with_large}
use Rattle.world_machine.specs.Setup.{known_of}

-- The place by whose sizes the entry of a record was answered.
place_is : (r : RspSetup) (g : History) (ids : List ℕ) (tag : ℕ) (body : List ℕ) (e : Entry) → (slice_index body 0 == 5) ≡ false → MayLeadTo r (with_dropped g ids) tag body (Adds e) → place_of g e ≡ session_place (session_of (id_in_record (drop 1 body)) g)
place_is r g ids tag body e type may =
    let led = adds_here r g ids tag body e (led_record r (with_dropped g ids) tag body (Adds e) type may) in
    ap (place_of g) (sym (record_added r led.free tag (drop 1 body) e g led.leads))

-- It is sent in chunks in each session with these terms.
large_by : (s u : Events) (whole : List ℕ) → EventsAlike s u → IsLargeAnswer (session_place s) whole → IsLargeAnswer (session_place u) whole
large_by s u whole e large = subst (λ (n : Negotiation). IsLargeAnswer (record (session_place u) { negotiation = n }) whole) (negotiation_alike s u e) large

module _ (r : RspSetup) (few : (h : History) (p : Place) (m : List ℕ) → length (answer_bytes r p m (least_values h p)) ≤ MAX_MESSAGE_SIZE) (h : History) (w v : List ℕ) (tag : ℕ) (body : List ℕ) (type : (slice_index body 0 == 5) ≡ false) (one : Stands h w tag body) (other : Stands h v tag body)
    (waits : ArePending h body w v) where
  abbrev large : List ℕ → History
  large x = with_large (place_named body) x h

  abbrev events : List ℕ → Events
  events x = session_of (id_in_record (drop 1 body)) (with_large (place_named body) x h)

  -- The same LargeResponse, with the other bytes.
  pub record LargeToo (e : Entry) (whole : List ℕ) : Type 0 where
    pub same : Entry
    pub may : MayLeadAfter r (with_large (place_named body) v h) [] tag body (Adds same)
    pub goes : is_large same ≡ true
    pub fits : IsLargeAnswer (place_of (with_large (place_named body) v h) same) whole
    pub sent : sent_by same ≡ sent_by e
    pub erased : (older : History) → unseen e ∷ older ≡ unseen same ∷ older

  pub large_too : (ids : List ℕ) (e : Entry) (whole : List ℕ) → MayLeadAfter r (large w) ids tag body (Adds e) → is_large e ≡ true → IsLargeAnswer (place_of (large w) e) whole → LargeToo e whole
  large_too ids e whole may goes fits =
      let chosen : List ℕ = cond (held_of (large w) == 4) (first_dropped (large w) (1 ∷ 2 ∷ 3 ∷ 4 ∷ [])) [] in
      let there : Leads r (large w) tag body e =
      subst (λ (b : Bool). Leads r (with_dropped (large w) (cond b chosen [])) tag body e) type (large_leads r (large w) ids chosen tag body e (drops_chosen (large w) ids may.0) may.1 goes) in
      let here : (y : List ℕ) → place_for (large y) body ≡ session_place (events y) = λ y. place_type (large y) body false type in
      let pending : has_pending (session_place (events w)) ≡ has_pending (session_place (events v)) = sym (ap has_pending (here w)) ∙ waits ∙ ap has_pending (here v) in
      let led = sealed_leads r few h w v tag body type one other pending [] (Adds there.other)
      (λ gives. absurd (false≢true (sym (gets_are_small r (large w) tag body there.other there.may gives) ∙ there.large))) (tt, there.may) tt in
      let size : IsLargeAnswer (session_place (events w)) whole = subst (λ (p : Place). IsLargeAnswer p whole) (place_is r (large w) ids tag body e type may.1) fits in
      record {
        same = there.other;
        may = led.0;
        goes = there.large;
        fits = subst (λ (p : Place). IsLargeAnswer p whole) (sym (place_is r (large v) [] tag body there.other type led.0.1))
            (large_by (events w) (events v) whole (sessions_fetched (id_in_record (drop 1 body)) (place_named body) w v h (session_within h w tag body type one)) size);
        sent = there.sent;
        erased = λ older. ap (λ (x : Entry). x ∷ older) (cc (large_next r (large w) ids [] tag body e there.other may (tt, there.may) (sym there.sent)));
      }

module _ (r : RspSetup) (few : (h : History) (p : Place) (m : List ℕ) → length (answer_bytes r p m (least_values h p)) ≤ MAX_MESSAGE_SIZE) (h : History) (w v : List ℕ) (tag : ℕ) (body : List ℕ) (settles : Settles h) (one : Stands h w tag body) (other : Stands h v tag body)
    (waits : ArePending h body w v) (ids : List ℕ) (e : Entry) (whole : List ℕ) where
  -- It may be given, some way.
  abbrev Too : Type 0
  Too =
      (x : Entry) × MayLeadTo r (with_large (place_named body) v h) tag body (Adds x) × (is_large x ≡ true) × IsLargeAnswer (place_of (with_large (place_named body) v h) x) whole × (sent_by x ≡ sent_by e)
      × ((older : History) → unseen e ∷ older ≡ unseen x ∷ older)

  either : MayLeadAfter r (with_large (place_named body) w h) ids tag body (Adds e) → is_large e ≡ true → IsLargeAnswer (place_of (with_large (place_named body) w h) e) whole → Too
  either may goes fits = by_type (slice_index body 0 == 5) refl
    where
      by_type : (b : Bool) → (slice_index body 0 == 5) ≡ b → Too
      by_type false type =
          let too = large_too r few h w v tag body type one other waits ids e whole may goes fits in
          (too.same, too.may.1, too.goes, too.fits, too.sent, too.erased)
      by_type true type =
          let large : List ℕ → History = λ x. with_large (place_named body) x h in
          let here : (y : List ℕ) → place_for (with_large (place_named body) y h) body ≡ clear_place (with_large None y h) =
          λ y. ap (λ (n : Option ℕ). place_for (with_large n y h) body) (named_clear body type) ∙ place_type (with_large None y h) body true type in
          let pending : has_pending (clear_place (with_large None w h)) ≡ has_pending (clear_place (with_large None v h)) = sym (ap has_pending (here w)) ∙ waits ∙ ap has_pending (here v) in
          let led = large_clear r few h w v tag body type settles one other ids e pending may.1 goes in
          (e, led, goes, clear_fits r few h w v tag body type settles one other e whole pending led fits, refl, λ older. refl)

pub large_is_alike : LargeIsAlike
large_is_alike c q older d w v round answer next whole blocks walk fetch fetching at waits a =
    let r : RspSetup = towards c.responder (known_of d.setup) in
    let judged : judging d.fetching round.body d.responder ≡ with_large (place_named round.body) w d.responder = ap (λ (o : Option (List ℕ)). judging o round.body d.responder) fetching in
    let one = walk_stands c q older d w round walk fetching at in
    let other = walk_stands c q older (record d { fetching = Some v }) v round fetch refl at in
    let too = either r (answers_few r blocks) d.responder w v round.tag round.body (walks_settle c q older d walk) one other waits a.0 a.1 whole
    (subst (λ (l : History). MayLeadAfter r l a.0 round.tag round.body (Adds a.1)) judged a.2) a.3
    (subst (λ (l : History). IsLargeAnswer (place_of l a.1) whole) judged a.4) in
    ([], too.0, (tt, too.1), too.2, too.3, too.4 ∙ a.5, a.6 ∙ too.5 d.responder)
