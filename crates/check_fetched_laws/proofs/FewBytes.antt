-- At the least values no answer has more than 4,096 bytes.
use Rattle.std.proofs.Common.{◌≡◌, ◌≤◌, ◌+◌, ◌-◌, ◌*◌, ◌==◌, ℕ, List, cond, drop, length-drop, [], refl, ap, length, Bool, true, false, Option, Some, None, Ok, Err, arith, eqb-true}
use Rattle.std.proofs.lemmas.List.{length-take}
use Rattle.std.proofs.Math.Nat.{min-le_right}
use Rattle.std.specs.Prelude.{slice_range, unwrap_or}
use Rattle.std.specs.Result.{result_ok}
use Rattle.chunking.specs.Cutting.{chunk_count, chunk_end, chunk_start, nth_chunk, unit_of}
use Rattle.negotiate.specs.Capabilities.{shared}
use Rattle.responder_machine.specs.Answer.{answer_bytes}
use Rattle.responder_machine.specs.History.{History}
use Rattle.responder_machine.specs.LargeMessages.{pending_of}
use Rattle.responder_machine.specs.Place.{Place, place_terms}
use Rattle.responder_machine.specs.Setup.{RspSetup}
use Rattle.spdm_grammar.specs.Message.ResponseMessage.{ChunkResponse}
use Rattle.spdm_grammar.specs.Responses.{canonical_response}
use Rattle.spdm_grammar.specs.declared.messages.capabilities.Caps.{Caps}
use Rattle.spdm_grammar.specs.declared.messages.part_faults.CapsFault.TheVariants.{SizeTooSmall, SizesCrossed, NoPsk, NoProtection}
use Rattle.spdm_grammar.specs.declared.names.TheConstants.{MAX_MESSAGE_SIZE}
use Rattle.spdm_machine.specs.Terms.{asked_caps, common_from, no_common, request_value, response_value, terms_of, told_caps}
use Rattle.check_responder.proofs.AnyAnswers.{least_few}
use Rattle.check_responder.specs.ShownBy.{HasFewBlocks}
use Rattle.check_laws.specs.AnswersShown.{least_values}
use Rattle.check_late_laws.proofs.Sized.{chunk_few, transfer_few}

-- ---- Any answer.

pub answers_few : (r : RspSetup) → HasFewBlocks r → (h : History) (p : Place) (m : List ℕ) → length (answer_bytes r p m (least_values h p)) ≤ MAX_MESSAGE_SIZE
answers_few r blocks h p m =
    least_few r p blocks (λ handle number. chunk_few (place_terms p).common.to_requester.transfer handle (unwrap_or (pending_of (place_terms p).common.to_requester.transfer p.turns) []) number (transfer_few p)) h m
