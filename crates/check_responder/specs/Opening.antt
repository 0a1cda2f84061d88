-- Whether an answer opens, as far as it is told before that is judged. This project's own.
use Rattle.std.specs.Prelude.{◌≡◌, ◌==◌, ◌||◌, ℕ, List, Bool, Option, Some, None, is_none, drop, slice_index}
use Rattle.key_schedule.specs.Purpose.{Purpose}
use Rattle.responder_session.specs.OwnAnswers.{IsAnswerKey}
use Rattle.responder_session.specs.declared.answer_key.AnswerKey.{AnswerKey}
use Rattle.spdm_grammar.specs.declared.messages.choice.Choice.{Choice}
use Rattle.spdm_machine.specs.Keys.{record_fault}
use Rattle.check_responder.specs.declared.prepared_request.PreparedRequest.{PreparedRequest}
use Rattle.check_responder.specs.declared.opening.Opening.{Opening}
use Rattle.check_responder.specs.declared.opening.Opening.TheVariants as opening
use Rattle.responder_machine.specs.Setup.{RspSetup}
use Rattle.capture_machine.specs.Opening.{opens_answering}
use Rattle.capture_machine.specs.Rounds.{Dialogue, Round}
use Rattle.spdm_grammar.specs.declared.names.message_type.TheConstants.{SPDM}

-- There is a key, and this says whether a record opens under it.
abbrev pub IsByKey : Option AnswerKey → (sealed : List ℕ) → (is : Bool) → Type 0
IsByKey None sealed is = ⊥
IsByKey (Some key) sealed is =
    (choice : Choice) × (p : Purpose) × (number : ℕ) × (id : List ℕ) × IsAnswerKey key choice p number id
    × (is ≡ is_none (record_fault choice p number id sealed))

-- This is told of a record whose opening is so, with what is had of its request.
abbrev pub IsOpening : PreparedRequest → (sealed : List ℕ) → Opening → (is : Bool) → Type 0
IsOpening coming sealed (opening.Told told) is = told ≡ is
IsOpening coming sealed opening.ByKey is = IsByKey coming.key sealed is

-- The answer to a round is in the clear, or it opens: for the one reason or the other it is refused where it is wrong.
abbrev pub is_readable : RspSetup → Dialogue → Round → (answer : List ℕ) → Bool
is_readable r d round answer =
    slice_index answer 0 == SPDM
    || opens_answering r d.responder (slice_index round.body 0 == SPDM) (drop 1 round.body) (drop 1 answer)

-- This is told of it.
abbrev pub IsReason : RspSetup → Dialogue → Round → PreparedRequest → (answer : List ℕ) → Opening → Type 0
IsReason r d round coming answer told = IsOpening coming (drop 1 answer) told (is_readable r d round answer)
