-- The last record of the ended session is none that was passed.
use Rattle.std.proofs.Common.{◌≡◌, ◌==◌, ◌||◌, ◌∙◌, ℕ, List, [], ◌∷◌, refl, sym, ap, Bool, true, false, Option, Some, None, cond, eq-eqb, eqb-true, inl, inr}
use Rattle.std.specs.Prelude.{MatchBool}
use Rattle.std.proofs.lemmas.Bool.{false≢true}
use Rattle.std.proofs.lemmas.Slice.Eq.{bytes_eq-Decides}
use Rattle.check_fetched_ends.proofs.LargeTurns.{is_large_turn}
use Rattle.check_late_laws.proofs.Late.MeasuredTurns.{goes_turn, turn_goes}
use Rattle.check_fetched_laws.proofs.NewestLed.{LedHere, NewestLed}
use Rattle.check_late_laws.proofs.Late.SeenAlike.{live_alike}
use Rattle.responder_machine.specs.History.{History, KeptRecord, clear_turns, ended_of, negotiation_of}
use Rattle.responder_machine.specs.History.Entry.{Clear, Sealed, Queued, Ticked, Dropped}
use Rattle.responder_machine.specs.Records.{opened}
use Rattle.responder_machine.specs.Responder.{repeats}
use Rattle.responder_machine.specs.Session.{Event, Events, after_clear, after_record, after_tick, id_in_record, is_live, session_of, when_live}
use Rattle.responder_machine.specs.Session.Event.{Heard}
use Rattle.responder_machine.specs.Setup.{RspSetup}
use Rattle.responder_machine.specs.Turn.{Turn, takes}
use Rattle.spdm_grammar.specs.declared.names.request_code.TheConstants.{END_SESSION, GET_VERSION, PSK_EXCHANGE}
use Rattle.spdm_machine.specs.Keys.{Draw}
use Rattle.transcript.specs.Transcripts.{Negotiation}
use Rattle.capture_machine.proofs.SeenAnswers.{session_seen}
use Rattle.capture_machine.specs.LargeAnswers.{is_unseen_effect, repeats_large, turn_with}

-- ---- Its session is gone.

live_recorded : (s : Events) (e : Event) → is_live (when_live s e) ≡ is_live s
live_recorded [] e = refl
live_recorded (x ∷ s) e = refl

clear_gone : (id : ℕ) (t : Turn) (s : Events) (n : Negotiation) (older : Option KeptRecord) (m : List ℕ) → repeats (cond (takes GET_VERSION t || takes PSK_EXCHANGE t) None older) m ≡ true → (repeats older m ≡ true → is_live s ≡ false)
    → is_live (after_clear id s t n) ≡ false
clear_gone id t s n older m is rest = by_codes (takes GET_VERSION t) (takes PSK_EXCHANGE t) _ is
  where
    by_codes : (a b : Bool) (x : Events) → repeats (cond (a || b) None older) m ≡ true → is_live (cond a [] (cond b x s)) ≡ false
    by_codes true b x again = refl
    by_codes false true x again = absurd (false≢true again)
    by_codes false false x again = rest again

record_gone : (m n reply : List ℕ) (t : Turn) (s : Events) (older : Option KeptRecord) → repeats (cond (takes END_SESSION t) (Some (record { sealed = n; reply = reply })) older) m ≡ true → (repeats older m ≡ true → is_live s ≡ false)
    → is_live (cond (id_in_record n == id_in_record m) (after_record s n t reply) s) ≡ false
record_gone m n reply t s older is rest = by_parts (takes END_SESSION t) (id_in_record n == id_in_record m) refl is
  where
    by_parts : (ends here : Bool) → (id_in_record n == id_in_record m) ≡ here → repeats (cond ends (Some (record { sealed = n; reply = reply })) older) m ≡ true → is_live (cond here (cond ends [] (when_live s (Heard n t reply))) s) ≡ false
    by_parts true true at again = refl
    by_parts true false at again = absurd (false≢true (sym at ∙ eq-eqb (id_in_record n) (id_in_record m) (ap id_in_record ((bytes_eq-Decides n m).0 again))))
    by_parts false true at again = live_recorded s (Heard n t reply) ∙ rest again
    by_parts false false at again = rest again

tick_gone : (s : Events) (seconds : ℕ) → is_live s ≡ false → is_live (after_tick s seconds) ≡ false
tick_gone [] seconds gone = refl
tick_gone (e ∷ s) seconds gone = absurd (false≢true (sym gone))

dropped_gone : (b : Bool) (s : Events) → is_live s ≡ false → is_live (cond b [] s) ≡ false
dropped_gone true s gone = refl
dropped_gone false s gone = gone

ended_gone : (m : List ℕ) (h : History) → repeats (ended_of h) m ≡ true → is_live (session_of (id_in_record m) h) ≡ false
unfolding session_of
ended_gone m [] is = refl
ended_gone m (Clear tag t d ∷ h) is = clear_gone (id_in_record m) t (session_of (id_in_record m) h) (negotiation_of (clear_turns h)) (ended_of h) m is (ended_gone m h)
ended_gone m (Sealed tag n t reply d ∷ h) is = record_gone m n reply t (session_of (id_in_record m) h) (ended_of h) is (ended_gone m h)
ended_gone m (Queued bytes ∷ h) is = ended_gone m h is
ended_gone m (Ticked seconds ∷ h) is = tick_gone (session_of (id_in_record m) h) seconds (ended_gone m h is)
ended_gone m (Dropped which ∷ h) is = dropped_gone (which == id_in_record m) (session_of (id_in_record m) h) (ended_gone m h is)

-- ---- What was not seen is no END_SESSION.

not_end : (r : RspSetup) (h : History) (m : List ℕ) (t : Turn) (reply : List ℕ) (d : Draw) → LedHere r h m t reply d → takes END_SESSION t ≡ true → is_unseen_effect t.effect ≡ false
not_end r h m t reply d led ends = elim led.turn [
  | inl whole ↦ ap (λ (x : Turn). is_unseen_effect x.effect) whole.0 ∙ session_seen r led.free led.s (opened r.psk led.s m)
  | inr large ↦
      let inner : List ℕ = opened r.psk led.s m in
      let asks = is_large_turn r led.s inner led.free large.1 in
      let same = goes_turn r led.s inner asks.op asks.asks led.free (turn_goes r led.s inner asks.op asks.asks led.free large.1) in
      absurd (false≢true (ap (λ (x : Turn). takes END_SESSION x) (sym (large.0 ∙ ap (turn_with [] None) same)) ∙ ends))
]

either_version : (a b : Bool) (o : Option KeptRecord) (m : List ℕ) → repeats (cond (a || b) None o) m ≡ true → repeats o m ≡ true
either_version true b o m is = absurd (false≢true is)
either_version false true o m is = absurd (false≢true is)
either_version false false o m is = is

pub ended_apart : (r : RspSetup) (m : List ℕ) (h : History) → NewestLed r (id_in_record m) h → repeats (ended_of h) m ≡ true → repeats_large (Some (id_in_record m)) h ≡ false
ended_apart r m [] led is = refl
ended_apart r m (Clear tag t d ∷ h) led is = ended_apart r m h led (either_version (takes GET_VERSION t) (takes PSK_EXCHANGE t) (ended_of h) m is)
ended_apart r m (Queued bytes ∷ h) led is = ended_apart r m h led is
ended_apart r m (Ticked seconds ∷ h) led is = ended_apart r m h led is
ended_apart r m (Dropped which ∷ h) led is = ended_apart r m h led is
ended_apart r m (Sealed tag n t reply d ∷ h) led is = by_parts (takes END_SESSION t) (id_in_record n == id_in_record m) refl refl led is (λ other again. ended_apart r m h other again)
  where
    by_parts : (ends here : Bool) → takes END_SESSION t ≡ ends → (id_in_record n == id_in_record m) ≡ here → MatchBool here (LedHere r h n t reply d) (NewestLed r (id_in_record m) h)
        → repeats (cond ends (Some (record { sealed = n; reply = reply })) (ended_of h)) m ≡ true → (NewestLed r (id_in_record m) h → repeats (ended_of h) m ≡ true → repeats_large (Some (id_in_record m)) h ≡ false) → cond here (is_unseen_effect t.effect) (repeats_large (Some (id_in_record m)) h) ≡ false
    by_parts true true ended at one again rest = not_end r h n t reply d one ended
    by_parts true false ended at other again rest = absurd (false≢true (sym at ∙ eq-eqb (id_in_record n) (id_in_record m) (ap id_in_record ((bytes_eq-Decides n m).0 again))))
    by_parts false true ended at one again rest =
        let gone = ended_gone m h again in
        absurd (false≢true (sym (ap (λ (k : ℕ). is_live (session_of k h)) (eqb-true (id_in_record n) (id_in_record m) at) ∙ gone) ∙ sym (live_alike one.s (session_of (id_in_record n) h) one.alike) ∙ one.live))
    by_parts false false ended at other again rest = rest other again
