-- The verify data of the last chunk of a large response whose fetch began late are alone wrong exactly when its request
-- may lead, in front, to bytes that are apart from those of the chunks.
use Rattle.std.proofs.Common.{◌≡◌, ◌≢◌, ◌++◌, ◌∙◌, ℕ, List, refl, sym, ap, subst, true, Option, Some, None}
use Rattle.std.proofs.lemmas.Option.{same_Some}
use Rattle.check_fetched_ends.specs.LateApart.{IsLateApart, LateApart}
use Rattle.check_late_laws.proofs.Late.InFront.{last_is_in_front}
use Rattle.check_late_laws.specs.Late.Passed.{StandsBack}
use Rattle.check_late_laws.specs.Late.PassedLast.{AreSince, IsFree, WasAnew}
use Rattle.responder_machine.specs.History.{Entry, History}
use Rattle.responder_machine.specs.Setup.{RspSetup}
use Rattle.capture_machine.specs.CapturedAnswers.{MayHaveLed}
use Rattle.capture_machine.specs.Difference.{CompletesApart, is_apart, verify_size}
use Rattle.capture_machine.specs.LargeAnswers.{begun_with, is_untouched, place_named}
use Rattle.capture_machine.specs.Rounds.{Dialogue, Round}

module _ (r : RspSetup) (d : Dialogue) (round : Round) (answer : List ℕ) (since : List Entry) (h : History) (s : StandsBack h) (whole : List ℕ) (tag : ℕ)
    (at : d.responder ≡ since ++ h) (fetching : d.fetching ≡ Some whole) (named : place_named round.body ≡ None) (are : AreSince since) (free : IsFree s.turn) (anew : WasAnew h s) (apart : tag ≢ s.tag) where
  abbrev g : History
  g = since ++ h

  untouched_by : (w : List ℕ) → is_untouched (place_named round.body) (begun_with (place_named round.body) w d.responder) d.responder ≡ is_untouched None (begun_with None w g) g
  untouched_by w = ap (λ (o : Option ℕ). is_untouched o (begun_with o w d.responder) d.responder) named ∙ ap (λ (l : History). is_untouched None (begun_with None w l) l) at

  led_by : (w ids : List ℕ) → MayHaveLed r (place_named round.body) w ids d.responder → MayHaveLed r None w ids g
  led_by w ids led = subst (MayHaveLed r None w ids) at (subst (λ (o : Option ℕ). MayHaveLed r o w ids d.responder) named led)

  led_back : (w ids : List ℕ) → MayHaveLed r None w ids g → MayHaveLed r (place_named round.body) w ids d.responder
  led_back w ids led = subst (λ (o : Option ℕ). MayHaveLed r o w ids d.responder) (sym named) (subst (MayHaveLed r None w ids) (sym at) led)

  to_front : CompletesApart r d round answer → IsLateApart r d round answer h s whole tag
  to_front c =
      let same : c.0 ≡ whole = same_Some c.0 whole (sym c.4 ∙ fetching) in
      let front = (last_is_in_front r since h s c.1 c.2 tag are free anew apart).0 (led_by c.1 c.2 c.8, sym (untouched_by c.1) ∙ c.11) in
      record {
        bytes = c.1;
        dropped = c.2;
        entry = c.3;
        chunk = c.5;
        last = c.6;
        sent = c.7;
        led = front.0;
        code = c.9;
        apart = subst (λ (l : List ℕ). is_apart (verify_size d) c.1 l ≡ true) same c.10;
        untouched = front.1;
      }

  from_front : IsLateApart r d round answer h s whole tag → CompletesApart r d round answer
  from_front l =
      let both = (last_is_in_front r since h s l.bytes l.dropped tag are free anew apart).1 (l.led, l.untouched) in (
        whole,
        l.bytes,
        l.dropped,
        l.entry,
        fetching,
        l.chunk,
        l.last,
        l.sent,
        led_back l.bytes l.dropped both.0,
        l.code,
        l.apart,
        untouched_by l.bytes ∙ both.1,
      )

pub late_apart : LateApart
late_apart r d round answer since h s whole tag at fetching named are free anew apart =
    (to_front r d round answer since h s whole tag at fetching named are free anew apart, from_front r d round answer since h s whole tag at fetching named are free anew apart)
