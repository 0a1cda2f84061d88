-- A refused clear request changes nothing that is counted for the connection.
use Rattle.std.proofs.Common.{refl, ℕ, List, ◌∷◌, true, false, Bool, sym, subst}
use Rattle.std.specs.Prelude.{if◌then◌else◌}
use Rattle.spdm_grammar.specs.declared.messages.error_code.ErrorCode.{ErrorCode}
use Rattle.responder_machine.proofs.Turns.{turn_of-refused}
use Rattle.responder_machine.specs.Answer.{Free}
use Rattle.responder_machine.specs.Handling.{turn_of, refused_turn}
use Rattle.responder_machine.specs.History.{History, kept_of}
use Rattle.responder_machine.specs.History.Entry.{Clear}
use Rattle.spdm_machine.specs.Keys.{Draw}
use Rattle.responder_machine.specs.Laws.{RefusedClearKeepsConnection}
use Rattle.responder_machine.specs.Place.{clear_place}
use Rattle.responder_machine.specs.Responder.{Outcome, on_clear, after, is_repeat, kept_reply}
use Rattle.spdm_machine.specs.Bodies.{clear_body}
use Rattle.responder_machine.specs.Responder.Outcome.{Same, Adds}
use Rattle.responder_machine.specs.SameSession.{IsSameConnection}
use Rattle.responder_machine.specs.Setup.{RspSetup}
use Rattle.responder_machine.specs.Turn.{Turn}

unchanged : (h : History) → IsSameConnection h h
unchanged h = record { phase = refl; negotiation = refl; kept = refl; ended = refl; queue = refl; draws = refl; taken = refl; pending = λ transfer. refl; handle = refl; given = refl; larges = refl; chunks = refl }

refused_entry : (r : RspSetup) (h : History) (tag : ℕ) (m : List ℕ) (f : Free) (d : Draw) (e : ErrorCode) → IsSameConnection h (Clear tag (refused_turn r (clear_place h) m f e) d ∷ h)
refused_entry r h tag m f d e = record { phase = refl; negotiation = refl; kept = refl; ended = refl; queue = refl; draws = refl; taken = refl; pending = λ transfer. refl; handle = refl; given = refl; larges = refl; chunks = refl }

either-same : (h : History) (b : Bool) (o u : Outcome) → IsSameConnection h (after h o) → IsSameConnection h (after h u) → IsSameConnection h (after h (if b then o else u))
either-same h true o u x y = x
either-same h false o u x y = y

pub refused_connection : RefusedClearKeepsConnection
unfolding on_clear
refused_connection r h tag m f d e is =
    either-same h (is_repeat (kept_of h) tag m) (Same (clear_body (kept_reply (kept_of h)))) (Adds (Clear tag (turn_of r (clear_place h) m f) d)) (unchanged h)
    (subst (λ (t : Turn). IsSameConnection h (Clear tag t d ∷ h)) (sym (turn_of-refused r (clear_place h) m f e is)) (refused_entry r h tag m f d e))
