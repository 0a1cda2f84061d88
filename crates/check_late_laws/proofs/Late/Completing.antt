-- The last chunk of a large response whose fetch began late completes it exactly when its request may lead to the bytes
-- in front.
use Rattle.std.proofs.Common.{◌≡◌, ◌≢◌, ◌++◌, ◌∙◌, ℕ, List, ◌∷◌, refl, sym, ap, subst, Option, Some, None}
use Rattle.std.proofs.lemmas.Option.{same_Some}
use Rattle.check_late_laws.proofs.Late.BehindClear.{last_stays_back}
use Rattle.check_late_laws.proofs.Late.InFront.{last_is_in_front}
use Rattle.check_late_laws.specs.Late.Passed.{StandsBack}
use Rattle.check_late_laws.specs.Late.PassedCompletes.{IsLateLast, LateCompletes}
use Rattle.check_late_laws.specs.Late.PassedLast.{AreSince, IsFree, WasAnew}
use Rattle.responder_machine.specs.History.{Entry, History}
use Rattle.responder_machine.specs.Setup.{RspSetup}
use Rattle.capture_machine.specs.CapturedAnswers.{Completes, MayHaveLed}
use Rattle.capture_machine.specs.LargeAnswers.{begun_with, dropped_before_large, is_untouched, place_named, with_large}
use Rattle.capture_machine.specs.Rounds.{Dialogue, Round}

module _ (r : RspSetup) (d : Dialogue) (round : Round) (answer : List ℕ) (next : History) (since : List Entry) (h : History) (s : StandsBack h) (whole : List ℕ) (other : ℕ)
    (at : d.responder ≡ since ++ h) (fetching : d.fetching ≡ Some whole) (named : place_named round.body ≡ None) (are : AreSince since) (free : IsFree s.turn) (anew : WasAnew h s) (apart : other ≢ s.tag) where
  abbrev g : History
  g = since ++ h

  -- The history after it, by the place, the bytes, the drops and the history before it.
  abbrev then_by : Option ℕ → (w ids : List ℕ) → History → History
  then_by o w ids l = with_large o w (dropped_before_large o ids l)

  there : (w ids : List ℕ) → w ≡ whole → then_by (place_named round.body) w ids d.responder ≡ then_by None whole ids g
  there w ids same =
      ap (λ (o : Option ℕ). then_by o w ids d.responder) named ∙ ap (λ (x : List ℕ). then_by None x ids d.responder) same ∙ ap (then_by None whole ids) at

  untouched_by : (w : List ℕ) → w ≡ whole
      → is_untouched (place_named round.body) (begun_with (place_named round.body) w d.responder) d.responder ≡ is_untouched None (begun_with None whole g) g
  untouched_by w same =
      ap (λ (o : Option ℕ). is_untouched o (begun_with o w d.responder) d.responder) named ∙ ap (λ (x : List ℕ). is_untouched None (begun_with None x d.responder) d.responder) same
      ∙ ap (λ (l : History). is_untouched None (begun_with None whole l) l) at

  led_by : (w ids : List ℕ) → w ≡ whole → MayHaveLed r (place_named round.body) w ids d.responder → MayHaveLed r None whole ids g
  led_by w ids same led =
      subst (MayHaveLed r None whole ids) at
      (subst (λ (x : List ℕ). MayHaveLed r None x ids d.responder) same (subst (λ (o : Option ℕ). MayHaveLed r o w ids d.responder) named led))

  led_back : (ids : List ℕ) → MayHaveLed r None whole ids g → MayHaveLed r (place_named round.body) whole ids d.responder
  led_back ids led = subst (λ (o : Option ℕ). MayHaveLed r o whole ids d.responder) (sym named) (subst (MayHaveLed r None whole ids) (sym at) led)

  pub to_front : Completes r d round answer next → IsLateLast r d round answer next since h s whole other
  to_front c =
      let same : c.0 ≡ whole = same_Some c.0 whole (sym c.3 ∙ fetching) in
      let front = (last_is_in_front r since h s whole c.1 other are free anew apart).0 (led_by c.0 c.1 same c.6, sym (untouched_by c.0 same) ∙ c.9) in
      record {
        dropped = c.1;
        entry = c.2;
        chunk = c.4;
        last = c.5;
        led = front.0;
        untouched = front.1;
        sent = c.7;
        behind = c.8 ∙ ap (λ (l : History). c.2 ∷ l) (there c.0 c.1 same ∙ last_stays_back since h s whole c.1 are);
      }

  pub from_front : IsLateLast r d round answer next since h s whole other → Completes r d round answer next
  from_front l =
      let both = (last_is_in_front r since h s whole l.dropped other are free anew apart).1 (l.led, l.untouched) in (
        whole,
        l.dropped,
        l.entry,
        fetching,
        l.chunk,
        l.last,
        led_back l.dropped both.0,
        l.sent,
        l.behind ∙ ap (λ (x : History). l.entry ∷ x) (sym (there whole l.dropped refl ∙ last_stays_back since h s whole l.dropped are)),
        untouched_by whole refl ∙ both.1,
      )

pub late_completes : LateCompletes
late_completes r d round answer next since h s whole other at fetching named are free anew apart =
    (to_front r d round answer next since h s whole other at fetching named are free anew apart, from_front r d round answer next since h s whole other at fetching named are free anew apart)
