-- A request in the clear that was refused, and comes again. Its copy is refused again, but for GET_MEASUREMENTS and
-- PSK_EXCHANGE: how long their answers are is free, and the second has room as soon as a session was dropped. So nothing
-- else gets LargeResponse where it was refused before. This project's own.
use Rattle.std.specs.Prelude.{◌≡◌, ◌≢◌, ◌∷◌, ℕ, List, true, Some}
use Rattle.responder_machine.specs.Answer.{Free}
use Rattle.responder_machine.specs.Handling.{turn_of}
use Rattle.responder_machine.specs.History.{History}
use Rattle.responder_machine.specs.History.Entry.{Clear}
use Rattle.responder_machine.specs.May.{on_body, with_dropped}
use Rattle.responder_machine.specs.Place.{clear_place}
use Rattle.responder_machine.specs.Refusal.{code_of, refusal}
use Rattle.responder_machine.specs.Setup.{RspSetup}
use Rattle.spdm_grammar.specs.declared.messages.error_code.ErrorCode.{ErrorCode}
use Rattle.spdm_grammar.specs.declared.names.request_code.TheConstants.{GET_MEASUREMENTS, PSK_EXCHANGE}
use Rattle.spdm_machine.specs.Bodies.{clear_body}
use Rattle.spdm_machine.specs.Keys.{Draw}
use Rattle.check_laws.specs.AnswersShown.{is_whole}
use Rattle.capture_machine.specs.Rounds.{no_draw}

-- The history after a message that was refused, and after sessions that were dropped then.
abbrev pub behind_refused : RspSetup → History → (tag : ℕ) → (m : List ℕ) → Free → Draw → (dropped : List ℕ) → History
behind_refused r h tag m f d ids = with_dropped (Clear tag (turn_of r (clear_place h) m f) d ∷ h) ids

-- There it is refused with the same code, whatever is chosen then.
abbrev pub RefusedAgain : Type 0
RefusedAgain = (r : RspSetup) (h : History) (tag : ℕ) (m : List ℕ) (f k : Free) (d : Draw) (ids : List ℕ) (e : ErrorCode)
    → code_of m ≢ GET_MEASUREMENTS → code_of m ≢ PSK_EXCHANGE → refusal r (clear_place h) m f ≡ Some e
    → refusal r (clear_place (behind_refused r h tag m f d ids)) m k ≡ Some e

-- So it brings no LargeResponse.
abbrev pub NoneLargeAgain : Type 0
NoneLargeAgain = (r : RspSetup) (h : History) (tag : ℕ) (m : List ℕ) (f k : Free) (d : Draw) (ids : List ℕ) (e : ErrorCode)
    → code_of m ≢ GET_MEASUREMENTS → code_of m ≢ PSK_EXCHANGE → refusal r (clear_place h) m f ≡ Some e
    → is_whole (on_body r (behind_refused r h tag m f d ids) tag (clear_body m) k no_draw) ≡ true
