-- What the last chunk shows of a request that stands back is told before what came since.
use Rattle.std.proofs.Common.{◌≡◌, ◌≢◌, ◌<◌, ◌==◌, ◌⊎◌, ◌++◌, ◌∙◌, ℕ, List, [], ◌∷◌, sym, ap, subst, Bool, true, false, None, inl, inr}
use Rattle.std.specs.Prelude.{MatchBool}
use Rattle.std.proofs.lemmas.Bool.{false≢true}
use Rattle.check_fetched_laws.proofs.WholeDrops.{whole_has_led}
use Rattle.check_fetched_laws.specs.ClearSessions.{AreGets, IsUnseenRequest}
use Rattle.check_fetched_laws.specs.LastShown.{IsShownEntry, drops_with}
use Rattle.check_fetched_laws.proofs.LastLed.{drops_are, entry_shown, get_seen, shown_entry}
use Rattle.check_fetched_ends.specs.LateLed.{LateIsLed}
use Rattle.check_late_laws.proofs.Late.InFront.{last_is_in_front}
use Rattle.check_late_laws.specs.Late.Passed.{StandsBack}
use Rattle.check_late_laws.specs.Late.PassedLast.{AreSince, IsFree, WasAnew, in_front, touched_by}
use Rattle.responder_machine.specs.History.{Entry, History}
use Rattle.responder_machine.specs.History.Entry.{Clear, Sealed, Queued, Ticked, Dropped}
use Rattle.responder_machine.specs.Setup.{RspSetup}
use Rattle.responder_machine.specs.Turn.{code_in, takes}
use Rattle.spdm_grammar.specs.declared.names.request_code.TheConstants.{GET_MEASUREMENTS, GET_VERSION, PSK_EXCHANGE}
use Rattle.capture_machine.specs.CapturedAnswers.{MayHaveLed, MayLeadToEntry}
use Rattle.capture_machine.specs.LargeAnswers.{begun_with, id_begun, is_untouched, seen}

-- CHUNK_GETs are messages whose answers were seen.
pub gets_since : (gets : List Entry) → AreGets gets → AreSince gets
gets_since [] are = tt
gets_since (Clear tag t d ∷ gets) are = (get_seen t are.0, gets_since gets are.1)
gets_since (Sealed tag m t reply d ∷ gets) are = absurd (false≢true are.0)
gets_since (Queued bytes ∷ gets) are = absurd (false≢true are.0)
gets_since (Ticked seconds ∷ gets) are = absurd (false≢true are.0)
gets_since (Dropped id ∷ gets) are = absurd (false≢true are.0)

module _ (r : RspSetup) (gets : List Entry) (h : History) (s : StandsBack h) (whole ids : List ℕ) (tag : ℕ) (byte : r.beat < 256) (are : AreGets gets) (free : IsFree s.turn) (anew : WasAnew h s) (apart : tag ≢ s.tag) where
  abbrev e : Entry
  e = Clear tag s.turn s.draw

  no_version : (code_in s.turn.effect ≡ GET_MEASUREMENTS) ⊎ (code_in s.turn.effect ≡ PSK_EXCHANGE) → takes GET_VERSION s.turn ≡ false
  no_version (inl is) = ap (λ (n : ℕ). n == GET_VERSION) is
  no_version (inr is) = ap (λ (n : ℕ). n == GET_VERSION) is

  unseen : IsUnseenRequest (Clear tag s.turn s.draw)
  unseen = (s.passed.unseen, no_version free.code)

  to_shown : MayHaveLed r None whole ids (gets ++ h) × (is_untouched None (begun_with None whole (gets ++ h)) (gets ++ h) ≡ true)
      → (ids ≡ drops_with h (in_front h s tag whole)) × IsShownEntry r h (in_front h s tag whole) × (touched_by (id_begun (in_front h s tag whole)) h ≡ false)
  to_shown both =
      let front = (last_is_in_front r gets h s whole ids tag (gets_since gets are) free anew apart).0 both in
      let have : MayHaveLed r None whole ids (e ∷ h) = subst (λ (b : Bool). MatchBool b (MayLeadToEntry r ids h (seen whole e)) (MayHaveLed r None whole ids h)) (sym s.passed.unseen) front.0 in
      let shown = (whole_has_led r None whole ids (e ∷ h) byte).0 have in
      (shown.0 ∙ drops_are whole e h unseen [] tt, shown_entry whole e h unseen r [] tt shown.1, front.1)

  to_led : (ids ≡ drops_with h (in_front h s tag whole)) × IsShownEntry r h (in_front h s tag whole) × (touched_by (id_begun (in_front h s tag whole)) h ≡ false)
      → MayHaveLed r None whole ids (gets ++ h) × (is_untouched None (begun_with None whole (gets ++ h)) (gets ++ h) ≡ true)
  to_led is =
      let have : MayHaveLed r None whole ids (e ∷ h) = (whole_has_led r None whole ids (e ∷ h) byte).1 (is.0 ∙ sym (drops_are whole e h unseen [] tt), entry_shown whole e h unseen r [] tt is.1) in
      let front : MayLeadToEntry r ids h (seen whole e) = subst (λ (b : Bool). MatchBool b (MayLeadToEntry r ids h (seen whole e)) (MayHaveLed r None whole ids h)) s.passed.unseen have in
      (last_is_in_front r gets h s whole ids tag (gets_since gets are) free anew apart).1 (front, is.2)

pub late_is_led : LateIsLed
late_is_led r gets h s whole ids tag byte are free anew apart = (to_shown r gets h s whole ids tag byte are free anew apart, to_led r gets h s whole ids tag byte are free anew apart)
