-- A record that gets LargeResponse is taken by its session.
use Rattle.std.proofs.Common.{◌≡◌, ◌==◌, ◌&&◌, ℕ, List, [], ◌∷◌, sym, ap, ◌∙◌, drop, length, arith, Bool, true, false, cond, inl, inr}
use Rattle.std.specs.Prelude.{not, slice_index}
use Rattle.std.proofs.lemmas.Bool.{false≢true}
use Rattle.check_responder.proofs.KeysKept.{LeadsBy, record_leads}
use Rattle.check_responder.specs.AnswerKeys.{is_taken_in, will_take}
use Rattle.check_laws.specs.AnswersShown.{is_whole, values_shown_by}
use Rattle.check_laws.specs.LargeShown.{IsShownLarge, drops_before, first_dropped, large_shown}
use Rattle.responder_machine.specs.Answer.{Free}
use Rattle.responder_machine.specs.History.{History, ended_of}
use Rattle.responder_machine.specs.May.{on_body, with_dropped}
use Rattle.responder_machine.specs.Place.{held_of}
use Rattle.responder_machine.specs.Responder.{Outcome, after, on_clear, on_record, repeats}
use Rattle.responder_machine.specs.Responder.Outcome.{Same, Unopened, Adds}
use Rattle.responder_machine.specs.Session.{id_in_record, session_of}
use Rattle.responder_machine.specs.Setup.{RspSetup}
use Rattle.capture_machine.specs.Rounds.{no_draw}

-- What leaves the history is no LargeResponse.
stays_whole : (g : History) (o : Outcome) → after g o ≡ g → is_whole o ≡ false → ⊥
stays_whole g (Same b) stays is = false≢true (sym is)
stays_whole g (Unopened b) stays is = false≢true (sym is)
stays_whole g (Adds e) stays is = (let same : length (e ∷ g) ≡ length g = ap (λ (l : History). length l) stays in omega (arith, same))

module _ (r : RspSetup) (g : History) (tag : ℕ) (body answer : List ℕ) (type : (slice_index body 0 == 5) ≡ false) (large : IsShownLarge r g tag body answer) where
  abbrev m : List ℕ
  m = drop 1 body

  abbrev f : Free
  f = values_shown_by r g tag body answer

  no_drops : drops_before g body ≡ []
  no_drops = ap (λ (b : Bool). cond (b && held_of g == 4) (first_dropped g (1 ∷ 2 ∷ 3 ∷ 4 ∷ [])) []) type

  shown_is : large_shown r g tag body answer ≡ on_record r g tag m f no_draw
  unfolding large_shown
  shown_is =
      ap (λ (l : List ℕ). on_body r (with_dropped g l) tag body (values_shown_by r (with_dropped g l) tag body answer) no_draw) no_drops
      ∙ ap (λ (b : Bool). cond b (on_clear r g tag m f no_draw) (on_record r g tag m f no_draw)) type

  taken : is_taken_in r (session_of (id_in_record m) g) (repeats (ended_of g) m) m ≡ true
  taken = by_leads (record_leads r g tag m f no_draw)
    where
      by_leads : LeadsBy r g tag m f no_draw (session_of (id_in_record m) g) (is_taken_in r (session_of (id_in_record m) g) (repeats (ended_of g) m) m) (on_record r g tag m f no_draw) → is_taken_in r (session_of (id_in_record m) g) (repeats (ended_of g) m) m ≡ true
      by_leads (inl stays) = absurd (stays_whole g (on_record r g tag m f no_draw) stays.0 (sym (ap is_whole shown_is) ∙ large.1))
      by_leads (inr adds) = adds.1

  pub large_taken : will_take r g body ≡ true
  large_taken = ap (λ (b : Bool). not b && is_taken_in r (session_of (id_in_record m) g) (repeats (ended_of g) m) m) type ∙ taken
