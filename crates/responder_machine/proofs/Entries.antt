-- A session's own history when one more entry stands.
use Rattle.std.proofs.Common.{refl, ◌∙◌, ◌≡◌, ◌≢◌, ℕ, List, ◌∷◌, false, Bool, arith}
use Rattle.std.proofs.lemmas.Bool.Decides.{nat_tests}
use Rattle.std.specs.Prelude.{if◌then◌else◌, ◌==◌}
use Rattle.responder_machine.specs.History.{History, clear_turns, negotiation_of}
use Rattle.responder_machine.specs.History.Entry.{Clear, Sealed, Ticked}
use Rattle.spdm_machine.specs.Keys.{Draw}
use Rattle.responder_machine.specs.Laws.{RecordKeepsOthers}
use Rattle.responder_machine.specs.Session.{Events, session_of, after_clear, after_record, after_tick, id_in_record}
use Rattle.responder_machine.specs.Turn.{Turn}
use Rattle.responder_machine.specs.Turn.Effect.{NoEffect}
use Rattle.transcript.specs.Transcripts.{Negotiation}

pub session_of-Clear : (id : ℕ) (tag : ℕ) (t : Turn) (d : Draw) (h : History) → session_of id (Clear tag t d ∷ h) ≡ after_clear id (session_of id h) t (negotiation_of (clear_turns h))
unfolding session_of
session_of-Clear id tag t d h = refl

pub session_of-Sealed : (id : ℕ) (tag : ℕ) (m : List ℕ) (t : Turn) (reply : List ℕ) (d : Draw) (h : History) → session_of id (Sealed tag m t reply d ∷ h) ≡ (if id_in_record m == id then after_record (session_of id h) m t reply else session_of id h)
unfolding session_of
session_of-Sealed id tag m t reply d h = refl

pub session_of-Ticked : (id : ℕ) (seconds : ℕ) (h : History) → session_of id (Ticked seconds ∷ h) ≡ after_tick (session_of id h) seconds
unfolding session_of
session_of-Ticked id seconds h = refl

-- A clear turn without effect changes no session.
pub after_clear-no_effect : (id : ℕ) (s : Events) (t : Turn) (n : Negotiation) → t.effect ≡ NoEffect → after_clear id s t n ≡ s
after_clear-no_effect id s t n e = rw e refl

pub session_of-no_effect : (id : ℕ) (tag : ℕ) (t : Turn) (d : Draw) (h : History) → t.effect ≡ NoEffect → session_of id (Clear tag t d ∷ h) ≡ session_of id h
session_of-no_effect id tag t d h e = session_of-Clear id tag t d h ∙ after_clear-no_effect id (session_of id h) t (negotiation_of (clear_turns h)) e

pub other_id : (n id : ℕ) → n ≢ id → (n == id) ≡ false
other_id n id ne = grind (arith, nat_tests)

either : (b : Bool) (s n : Events) → b ≡ false → (if b then n else s) ≡ s
either b s n e = rw e refl

pub others_kept : RecordKeepsOthers
others_kept h tag m t reply d id ne =
    session_of-Sealed id tag m t reply d h ∙ either (id_in_record m == id) (session_of id h) (after_record (session_of id h) m t reply) (other_id (id_in_record m) id ne)
