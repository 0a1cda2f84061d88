-- What a fetch that begins late has to keep of its request: it precedes what came since, under another tag, as the
-- request of a new LargeResponse does.
use Rattle.std.proofs.Common.{◌≡◌, ◌≢◌, ◌==◌, ◌&&◌, ◌⊎◌, ◌∙◌, ℕ, List, refl, sym, ap, subst, Bool, true, false, Some, inl, inr}
use Rattle.std.specs.Prelude.{MatchBool, not}
use Rattle.check_fetched_laws.proofs.LargeSized.{large_is_sized}
use Rattle.check_fetched_laws.specs.ClearSessions.{IsLeftBy, IsUnseenRequest, IsWithoutHandshake, is_in_handshake}
use Rattle.check_fetched_ends.specs.Held.{IsLedTo}
use Rattle.check_fetched_ends.specs.LateBefore.{LateBefore}
use Rattle.check_late_laws.proofs.Late.BehindSessions.{all_are_past}
use Rattle.check_late_laws.proofs.Late.LargeFront.{large_is_in_front}
use Rattle.check_late_laws.specs.Late.Passed.{StandsBack}
use Rattle.check_late_laws.specs.Late.PassedLarge.{IsLedLargely}
use Rattle.check_late_laws.specs.Late.PassedLast.{IsFree}
use Rattle.responder_machine.specs.Handling.{turn_of}
use Rattle.responder_machine.specs.History.{Entry, History, clear_turns, phase_of}
use Rattle.responder_machine.specs.History.Entry.{Clear, Sealed, Queued, Ticked, Dropped}
use Rattle.responder_machine.specs.May.{with_dropped}
use Rattle.responder_machine.specs.Place.{clear_place}
use Rattle.responder_machine.specs.Refusal.{sizes_are_known}
use Rattle.responder_machine.specs.Responder.Outcome.{Adds}
use Rattle.responder_machine.specs.Session.{is_live, session_of, stage_of}
use Rattle.responder_machine.specs.Setup.{RspSetup}
use Rattle.responder_machine.specs.Turn.{Turn, code_in, takes}
use Rattle.spdm_grammar.specs.declared.names.request_code.TheConstants.{GET_MEASUREMENTS, GET_VERSION, PSK_EXCHANGE}
use Rattle.spdm_machine.specs.Bodies.{clear_body}
use Rattle.spdm_machine.specs.Keys.{Draw}
use Rattle.spdm_machine.specs.Sessions.{is_past_handshake}
use Rattle.capture_machine.proofs.DropsTell.{clear_form, turns_stay}
use Rattle.capture_machine.proofs.PlainTells.{led_clear}
use Rattle.capture_machine.specs.LargeAnswers.{unseen}
use Rattle.capture_machine.specs.Rounds.{no_draw}

draw_of : Entry → Draw
draw_of (Clear tag t d) = d
draw_of (Sealed tag m t reply d) = d
draw_of (Queued bytes) = no_draw
draw_of (Ticked seconds) = no_draw
draw_of (Dropped id) = no_draw

none_in : (live past : Bool) → (live ≡ true → past ≡ true) → (live && not past) ≡ false
none_in true past is = ap not (is refl)
none_in false past is = refl

module _ (r : RspSetup) (h : History) (s : StandsBack h) (tag : ℕ) (free : IsFree s.turn) (apart : tag ≢ s.tag) (led : IsLedLargely r s.before (Clear s.tag s.turn s.draw)) where
  draw_is : no_draw ≡ s.draw
  unfolding draw_of
  draw_is =
      let g : History = with_dropped s.before led.0 in
      let m : List ℕ = s.turn.message in
      let one = led_clear r g s.tag (clear_body m) (Adds led.1) refl led.2 in
      elim (clear_form r g s.tag m one.free (Adds led.1) one.leads) [
        | inl same ↦ absurd (let x = same.1 in cc)
        | inr adds ↦
            let is : led.1 ≡ Clear s.tag (turn_of r (clear_place g) m one.free) no_draw = (let x = adds in cc) in
            ap draw_of (ap unseen (sym is) ∙ led.4)
      ]

  late_front : IsLedLargely r h (Clear tag s.turn no_draw)
  late_front = subst (λ (d : Draw). IsLedLargely r h (Clear tag s.turn d)) (sym draw_is) (large_is_in_front r h s tag free apart led)

  -- It may lead to its LargeResponse there.
  late_led : IsLedTo r h (Clear tag s.turn no_draw)
  late_led = late_front

  late_sized : sizes_are_known (phase_of (clear_turns h)) ≡ true
  late_sized =
      ap (λ (l : List Turn). sizes_are_known (phase_of l)) (sym (turns_stay late_front.0 h))
      ∙ large_is_sized r (with_dropped h late_front.0) tag (clear_body s.turn.message) late_front.1 refl late_front.2 late_front.3

  -- Its answer was not seen, and it is not GET_VERSION.
  other_code : (code_in s.turn.effect ≡ GET_MEASUREMENTS) ⊎ (code_in s.turn.effect ≡ PSK_EXCHANGE) → takes GET_VERSION s.turn ≡ false
  other_code (inl is) = ap (λ (n : ℕ). n == GET_VERSION) is
  other_code (inr is) = ap (λ (n : ℕ). n == GET_VERSION) is

  late_unseen : IsUnseenRequest (Clear tag s.turn no_draw)
  late_unseen = (s.passed.unseen, other_code free.code)

  -- It leaves the sessions as they are: after PSK_EXCHANGE none is in its handshake.
  left_by : (b : Bool) → takes PSK_EXCHANGE s.turn ≡ b → MatchBool b (IsWithoutHandshake h h) (h ≡ h)
  left_by true exchange = inl ((λ id other. none_in (is_live (session_of id h)) (is_past_handshake (stage_of (session_of id h))) (all_are_past h s id exchange)), refl)
  left_by false exchange = refl

  late_left : IsLeftBy (Clear tag s.turn no_draw) h h
  late_left = left_by (takes PSK_EXCHANGE s.turn) refl

pub late_before : LateBefore
late_before r h s tag free apart led = record {
  unseen = late_unseen r h s tag free apart led;
  left = late_left r h s tag free apart led;
  led = late_led r h s tag free apart led;
  sized = late_sized r h s tag free apart led;
}
