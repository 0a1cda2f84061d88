-- Which answers may pass the longest message.
use Rattle.std.proofs.Common.{◌≡◌, ◌≤◌, ◌+◌, ◌-◌, ◌*◌, ◌==◌, ◌∙◌, ℕ, List, cond, drop, length-drop, [], refl, ap, length, Bool, true, false, Option, Some, None, Ok, Err, arith, eqb-true}
use Rattle.std.proofs.lemmas.Bool.Decides.{nat_tests}
use Rattle.std.proofs.lemmas.List.{length-take}
use Rattle.std.proofs.Math.Nat.{min-le_right}
use Rattle.std.specs.Prelude.{nat_lt, slice_range, unwrap_or}
use Rattle.std.specs.Result.{result_ok}
use Rattle.chunking.specs.Cutting.{chunk_count, chunk_end, chunk_start, nth_chunk, unit_of}
use Rattle.responder_core.proofs.Lengths.{algorithms_long}
use Rattle.negotiate.specs.Capabilities.{shared}
use Rattle.negotiate.specs.Choosing.{selected}
use Rattle.responder_machine.specs.Answer.{Free, answer_bytes, answer_to, request_at}
use Rattle.responder_machine.specs.LargeMessages.{pending_of}
use Rattle.responder_machine.specs.Place.{Place, place_terms}
use Rattle.responder_machine.specs.Setup.{RspSetup, policy_of}
use Rattle.spdm_grammar.specs.Message.{RequestMessage}
use Rattle.spdm_grammar.specs.Message.RequestMessage.{GetVersion, GetCapabilities, NegotiateAlgorithms, GetMeasurements, PskExchange, PskFinish, Heartbeat, KeyUpdate, EndSession, ChunkSend, ChunkGet}
use Rattle.spdm_grammar.specs.Message.ResponseMessage.{ChunkResponse}
use Rattle.spdm_grammar.specs.Responses.{canonical_response}
use Rattle.spdm_grammar.specs.declared.messages.capabilities.Caps.{Caps}
use Rattle.spdm_grammar.specs.declared.messages.part_faults.CapsFault.TheVariants.{SizeTooSmall, SizesCrossed, NoPsk, NoProtection}
use Rattle.spdm_grammar.specs.declared.names.TheConstants.{MAX_MESSAGE_SIZE}
use Rattle.spdm_machine.specs.Terms.{asked_caps, common_from, no_choice, no_common, request_value, response_value, terms_of, told_caps}
use Rattle.check_responder.specs.JudgedResponder.{free_length}

pub not_longer : (n : ℕ) → n ≤ 4096 → nat_lt 4096 n ≡ false
not_longer n few = grind (arith, nat_tests)

-- ---- What stands in a chunk.

-- No requester takes more than 4,096 bytes at once.
settled_by : (a b : Caps) (small crossed keyless bare : Bool)
    → (unwrap_or (result_ok (cond small (Err SizeTooSmall) (cond crossed (Err SizesCrossed) (cond keyless (Err NoPsk) (cond bare (Err NoProtection) (Ok (shared a b))))))) no_common).to_requester.transfer ≤ MAX_MESSAGE_SIZE
settled_by a b true crossed keyless bare = omega arith
settled_by a b false true keyless bare = omega arith
settled_by a b false false true bare = omega arith
settled_by a b false false false true = omega arith
settled_by a b false false false false = min-le_right a.transfer MAX_MESSAGE_SIZE

settled_few : (a b : Option Caps) → (common_from a b).to_requester.transfer ≤ MAX_MESSAGE_SIZE
settled_few None b = omega arith
settled_few (Some a) None = omega arith
settled_few (Some a) (Some b) = settled_by a b _ _ _ _

transfer_few : (p : Place) → (place_terms p).common.to_requester.transfer ≤ MAX_MESSAGE_SIZE
unfolding terms_of
transfer_few p = settled_few (asked_caps (request_value p.negotiation.get_capabilities)) (told_caps (response_value p.negotiation.capabilities))

cut_few : (message : List ℕ) (start end : ℕ) → length (slice_range message start end) ≤ end - start
cut_few message start end =
    let rest = length-drop start message in
    let few = length-take (end - start) (drop start message) in
    omega (arith, rest, few)

chunk_by : (first last : Bool) (handle number size start end : ℕ) (message : List ℕ)
    → length (canonical_response (ChunkResponse (record { last = last; handle = handle; number = number; large = cond first (Some size) None; chunk = slice_range message start end }))) ≤ cond first 16 12 + (end - start)
chunk_by true last handle number size start end message = (let few = cut_few message start end in omega (arith, few))
chunk_by false last handle number size start end message = (let few = cut_few message start end in omega (arith, few))

framed_few : (first : Bool) (x unit transfer n : ℕ) → unit ≡ transfer - 12 → transfer ≤ 4096 → (first ≡ true → x ≡ 0) → n ≤ cond first 16 12 + ((x + unit - 4) - (x - 4)) → n ≤ 4096
framed_few true x unit transfer n is few none most = (let zero = none refl in omega (arith, is, few, zero, most))
framed_few false x unit transfer n is few none most = omega (arith, is, few, most)

-- A chunk of whatever bytes, with what stands round it.
chunk_few : (transfer handle : ℕ) (message : List ℕ) (number : ℕ) → transfer ≤ 4096 → length (canonical_response (ChunkResponse (nth_chunk transfer handle message number))) ≤ 4096
chunk_few transfer handle message number few =
    framed_few (number == 0) (number * unit_of transfer) (unit_of transfer) transfer _ refl few (λ first. (let none = ap (λ (n : ℕ). n * unit_of transfer) (eqb-true number 0 first) in omega (arith, none)))
    (chunk_by (number == 0) (number + 1 == chunk_count transfer message) handle number (length message) (chunk_start transfer number) (chunk_end transfer number) message)

module _ (r : RspSetup) (p : Place) (m : List ℕ) (f : Free) where
  abbrev size : RequestMessage → ℕ
  size asked = length (answer_to r p m f (Some asked))

  abbrev long : RequestMessage → Bool
  long asked = nat_lt MAX_MESSAGE_SIZE (size asked)

  long_by : (asked : RequestMessage) → long asked ≡ nat_lt MAX_MESSAGE_SIZE (free_length r p m f asked)
  long_by (PskExchange x) = refl
  long_by (GetMeasurements op) = refl
  long_by GetVersion = refl
  long_by (GetCapabilities caps) = not_longer (size (GetCapabilities caps)) (omega arith)
  long_by (NegotiateAlgorithms offer) = not_longer (size (NegotiateAlgorithms offer)) (let few = algorithms_long offer (unwrap_or (selected offer (policy_of r)) no_choice) in omega (arith, few))
  long_by (PskFinish verify) = refl
  long_by Heartbeat = refl
  long_by (KeyUpdate op tag) = refl
  long_by EndSession = refl
  long_by (ChunkSend chunk) = not_longer (size (ChunkSend chunk)) (omega arith)
  long_by (ChunkGet handle number) =
      let transfer : ℕ = (place_terms p).common.to_requester.transfer in
      not_longer (size (ChunkGet handle number)) (chunk_few transfer handle (unwrap_or (pending_of transfer p.turns) []) number (transfer_few p))

  -- By the request that a message is.
  pub long_read : (asked : RequestMessage) → request_at p m ≡ Some asked → nat_lt MAX_MESSAGE_SIZE (length (answer_bytes r p m f)) ≡ nat_lt MAX_MESSAGE_SIZE (free_length r p m f asked)
  unfolding answer_bytes
  long_read asked is = ap (λ (o : Option RequestMessage). nat_lt MAX_MESSAGE_SIZE (length (answer_to r p m f o))) is ∙ long_by asked

  pub long_none : request_at p m ≡ None → nat_lt MAX_MESSAGE_SIZE (length (answer_bytes r p m f)) ≡ false
  unfolding answer_bytes
  long_none is = ap (λ (o : Option RequestMessage). nat_lt MAX_MESSAGE_SIZE (length (answer_to r p m f o))) is
