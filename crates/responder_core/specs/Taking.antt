-- A request of the clear part that is taken.
use Rattle.std.specs.Prelude.{◌≡◌, ◌≤◌, ℕ, List, length, true, None, Some}
use Rattle.responder_core.specs.Refused.{IsClear}
use Rattle.responder_machine.specs.Answer.{Free, answer_bytes, request_at}
use Rattle.responder_machine.specs.Handling.{handle_for}
use Rattle.responder_machine.specs.Place.{Place}
use Rattle.responder_machine.specs.Refusal.{refusal, refused_form}
use Rattle.responder_machine.specs.Setup.{RspSetup}
use Rattle.responder_machine.specs.Turn.{Turn, is_taken}
use Rattle.responder_machine.specs.Turn.Effect.{Took}
use Rattle.spdm_grammar.specs.Message.{RequestMessage}
use Rattle.spdm_grammar.specs.declared.names.TheConstants.{MAX_MESSAGE_SIZE}

-- A message at a place is this request and is not refused; a turn of it took effect with this answer.
pub record IsTaking (r : RspSetup) (p : Place) (m : List ℕ) (f : Free) (asked : RequestMessage) (answer : List ℕ) (t : Turn) : Type 0 where
  pub clear : IsClear p.at
  pub form : refused_form r p m ≡ None
  pub asked_is : request_at p m ≡ Some asked
  pub refused : refusal r p m f ≡ None
  pub short : length m ≤ MAX_MESSAGE_SIZE
  pub answer_is : answer ≡ answer_bytes r p m f
  pub taken : is_taken t ≡ true
  pub effect : t.effect ≡ Took asked m answer (handle_for p f answer)
