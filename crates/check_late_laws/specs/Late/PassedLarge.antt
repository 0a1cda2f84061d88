-- The request whose large response passed unseen may still get LargeResponse, as the newest one. This project's own.
use Rattle.std.specs.Prelude.{◌≡◌, ◌≢◌, ◌∷◌, ℕ, List, true, false}
use Rattle.check_laws.specs.Walks.{Walks}
use Rattle.check_late_laws.specs.Late.Passed.{IsBehind, IsPassed, StandsBack}
use Rattle.check_late_laws.specs.Late.PassedLast.{IsFree}
use Rattle.requester_machine.specs.Setup.{ReqSetup}
use Rattle.responder_machine.specs.History.{Entry, History, clear_turns, kept_of, negotiation_of, phase_of}
use Rattle.responder_machine.specs.History.Entry.{Clear}
use Rattle.responder_machine.specs.May.{with_dropped}
use Rattle.responder_machine.specs.Responder.Outcome.{Adds}
use Rattle.responder_machine.specs.Responder.{is_repeat}
use Rattle.responder_machine.specs.Setup.{RspSetup, towards}
use Rattle.responder_machine.specs.Turn.{Turn, is_taken}
use Rattle.spdm_machine.specs.Keys.{Draw}
use Rattle.capture_machine.specs.CapturedAnswers.{MayLeadTo, request_in, tag_in}
use Rattle.capture_machine.specs.LargeAnswers.{is_large, unseen}
use Rattle.capture_machine.specs.Rounds.{Dialogue}
use Rattle.world_machine.specs.Setup.{Configuration, known_of}

-- An entry is what its request led to with some bytes as its large response, after some drops, but for that answer.
abbrev pub IsLedLargely : RspSetup → (before : History) → Entry → Type 0
IsLedLargely r before entry =
    (dropped : List ℕ) × (led : Entry) × MayLeadTo r (with_dropped before dropped) (tag_in entry) (request_in entry) (Adds led)
    × (is_large led ≡ true) × (unseen led ≡ entry)

-- That depends on the negotiation alone, where the request is no repeat.
abbrev pub LedElsewhere : Type 0
LedElsewhere = (r : RspSetup) (g k : History) (tag other : ℕ) (t : Turn) (d : Draw) → IsFree t → is_taken t ≡ true
    → phase_of (clear_turns g) ≡ phase_of (clear_turns k) → negotiation_of (clear_turns g) ≡ negotiation_of (clear_turns k) → is_repeat (kept_of k) other t.message ≡ false
    → IsLedLargely r g (Clear tag t d) → IsLedLargely r k (Clear other t d)

-- It holds of the newest request in the clear that was taken, if its answer passed unseen and has a free length.
abbrev pub WasLed : RspSetup → History → Type 0
WasLed r h = (s : StandsBack h) → IsFree s.turn → IsLedLargely r s.before (Clear s.tag s.turn s.draw)

-- So it is after one more entry: this is such a request, and then it has to hold of it; or it came after one, or is
-- another.
abbrev pub LedGoesOn : Type 0
LedGoesOn = (r : RspSetup) (h : History) (e : Entry) → ((tag : ℕ) (t : Turn) (d : Draw) → e ≡ Clear tag t d → IsPassed t → IsFree t → IsLedLargely r h e) → (IsBehind e → WasLed r h)
    → WasLed r (e ∷ h)

-- In a walk it holds.
abbrev pub RequestWasLed : Type 0
RequestWasLed = (w : Configuration) (q : ReqSetup) (older : List (List ℕ)) (d : Dialogue) → Walks w q older d → WasLed (towards w.responder (known_of d.setup)) d.responder

-- Where that holds of the request at its place, it holds of it as the newest one, under another tag.
abbrev pub LargeIsInFront : Type 0
LargeIsInFront = (r : RspSetup) (h : History) (s : StandsBack h) (other : ℕ) → IsFree s.turn → other ≢ s.tag
    → IsLedLargely r s.before (Clear s.tag s.turn s.draw) → IsLedLargely r h (Clear other s.turn s.draw)
