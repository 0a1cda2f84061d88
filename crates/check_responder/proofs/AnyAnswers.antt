-- How long answers are at the least values.
use Rattle.std.proofs.Common.{◌≡◌, ◌≤◌, ◌+◌, ◌⊎◌, ◌-◌, ◌==◌, ◌||◌, ℕ, List, [], refl, sym, subst, inl, inr, length, Bool, true, false, Option, Some, None, arith, cond, drop, length-append, length-drop}
use Rattle.std.proofs.lemmas.List.{length-replicate, length-take}
use Rattle.std.specs.Prelude.{if◌then◌else◌, slice_range, unwrap_or}
use Rattle.chunking.proofs.ChunkLengths.{chunk_framed}
use Rattle.chunking.specs.Cutting.{chunk_count, chunk_end, chunk_start, nth_chunk}
use Rattle.responder_core.proofs.Lengths.{algorithms_long}
use Rattle.negotiate.specs.Choosing.{selected}
use Rattle.responder_machine.specs.Answer.{Free, answer_bytes, answer_to, request_at}
use Rattle.responder_machine.specs.History.{History}
use Rattle.responder_machine.specs.LargeMessages.{pending_of}
use Rattle.responder_machine.specs.Place.{Place, place_terms, session_place}
use Rattle.responder_machine.specs.Session.{Events, session_terms}
use Rattle.responder_machine.specs.Setup.{RspSetup, policy_of}
use Rattle.responder_machine.specs.SizeLaws.{HasSizes}
use Rattle.spdm_basis.specs.Sizes.{hash_size}
use Rattle.spdm_basis.specs.declared.values.hash_alg.HashAlg.{HashAlg}
use Rattle.spdm_basis.specs.declared.values.hash_alg.HashAlg.TheVariants.{Sha256, Sha384}
use Rattle.spdm_grammar.specs.Fields.{large_bytes}
use Rattle.spdm_grammar.specs.Message.{ChunkMessage, RequestMessage}
use Rattle.spdm_grammar.specs.Message.RequestMessage.{GetVersion, GetCapabilities, NegotiateAlgorithms, GetMeasurements, PskExchange, PskFinish, Heartbeat, KeyUpdate, EndSession, ChunkSend, ChunkGet}
use Rattle.spdm_grammar.specs.Message.ResponseMessage.{ChunkResponse}
use Rattle.spdm_grammar.specs.Responses.{canonical_response}
use Rattle.spdm_grammar.specs.declared.names.TheConstants.{MAX_MESSAGE_SIZE}
use Rattle.spdm_machine.specs.Terms.{no_choice}
use Rattle.check_responder.proofs.ReadLengths.{exchange_read_length, measured_read_length}
use Rattle.check_laws.specs.AnswersShown.{least_values}
use Rattle.check_responder.specs.ShownBy.{HasFewBlocks}

-- ---- A chunk.

chunk_long : (c : ChunkMessage) → length (canonical_response (ChunkResponse c)) ≡ 12 + length (large_bytes c.large) + length c.chunk
chunk_long c = (let both = length-append (large_bytes c.large) c.chunk in omega (arith, both))

-- A chunk fits the transfer size that it was cut by.
pub chunk_fits : (transfer handle : ℕ) (message : List ℕ) (k : ℕ) → 16 ≤ transfer → length (canonical_response (ChunkResponse (nth_chunk transfer handle message k))) ≤ transfer
chunk_fits transfer handle message k least =
    let framed = chunk_framed transfer handle message k least in
    let long = chunk_long (nth_chunk transfer handle message k) in
    omega (arith, framed, long)

-- A chunk of no bytes.
no_bytes : (start end : ℕ) → length (slice_range {X = ℕ} [] start end) ≡ 0
no_bytes start end =
    let none : List ℕ = [] in
    let rest = length-drop start none in
    let few = length-take (end - start) (drop start none) in
    omega (arith, rest, few)

empty_by : (first last : Bool) (handle number start end : ℕ)
    → length (canonical_response (ChunkResponse (record { last = last; handle = handle; number = number; large = cond first (Some 0) None; chunk = slice_range [] start end }))) ≤ 16
empty_by true last handle number start end = (let none = no_bytes start end in omega (arith, none))
empty_by false last handle number start end = (let none = no_bytes start end in omega (arith, none))

empty_chunk : (transfer handle number : ℕ) → length (canonical_response (ChunkResponse (nth_chunk transfer handle [] number))) ≤ 16
empty_chunk transfer handle number = empty_by (number == 0) (number + 1 == chunk_count transfer []) handle number (chunk_start transfer number) (chunk_end transfer number)

-- ---- Any answer.

hash_few : (hash : HashAlg) → hash_size hash ≤ 48
hash_few Sha256 = omega arith
hash_few Sha384 = omega arith

summary_few : (b : Bool) (hash : HashAlg) → (if b then hash_size hash else 0) ≤ 48
summary_few true hash = hash_few hash
summary_few false hash = omega arith

module _ (r : RspSetup) (p : Place) (blocks : HasFewBlocks r) (chunks : (handle number : ℕ) → length (canonical_response (ChunkResponse (nth_chunk (place_terms p).common.to_requester.transfer handle (unwrap_or (pending_of (place_terms p).common.to_requester.transfer p.turns) []) number))) ≤ MAX_MESSAGE_SIZE) (h : History) (m : List ℕ) where
  abbrev k : Free
  k = least_values h p

  few_by : (o : Option RequestMessage) → length (answer_to r p m k o) ≤ MAX_MESSAGE_SIZE
  few_by None = omega arith
  few_by (Some (PskExchange x)) =
      let all = exchange_read_length r p m k x in
      let one = summary_few (x.summary == 1 || x.summary == 255) (place_terms p).choice.hash in
      let two = hash_few (place_terms p).choice.hash in
      let three = length-replicate {A = ℕ} (hash_size (place_terms p).choice.hash) 0 in
      omega (arith, all, one, two, three)
  few_by (Some (GetMeasurements op)) = (let all = measured_read_length r k op refl in let few = blocks op in omega (arith, all, few))
  few_by (Some GetVersion) = omega arith
  few_by (Some (GetCapabilities caps)) = omega arith
  few_by (Some (NegotiateAlgorithms offer)) = (let few = algorithms_long offer (unwrap_or (selected offer (policy_of r)) no_choice) in omega (arith, few))
  few_by (Some (PskFinish verify)) = omega arith
  few_by (Some Heartbeat) = omega arith
  few_by (Some (KeyUpdate op tag)) = omega arith
  few_by (Some EndSession) = omega arith
  few_by (Some (ChunkSend chunk)) = omega arith
  few_by (Some (ChunkGet handle number)) = chunks handle number

  pub least_few : length (answer_bytes r p m k) ≤ MAX_MESSAGE_SIZE
  unfolding answer_bytes
  least_few = few_by (request_at p m)

-- ---- In a session.

-- A session of a responder with its sizes, or none.
abbrev pub IsSized : RspSetup → Events → Type 0
IsSized r s = (s ≡ []) ⊎ HasSizes r (session_terms s).common

chunks_few : (r : RspSetup) (s : Events) → IsSized r s → let p = session_place s in let transfer = (place_terms p).common.to_requester.transfer in
    (handle number : ℕ) → length (canonical_response (ChunkResponse (nth_chunk transfer handle (unwrap_or (pending_of transfer p.turns) []) number))) ≤ MAX_MESSAGE_SIZE
chunks_few r s (inl none) handle number =
    let p : Events → Place = session_place in
    let transfer : Events → ℕ = λ x. (place_terms (p x)).common.to_requester.transfer in
    subst (λ (x : Events). length (canonical_response (ChunkResponse (nth_chunk (transfer x) handle (unwrap_or (pending_of (transfer x) (p x).turns) []) number))) ≤ MAX_MESSAGE_SIZE) (sym none)
    (let few = empty_chunk (transfer []) handle number in omega (arith, few))
chunks_few r s (inr sizes) handle number =
    let transfer : ℕ = (session_terms s).common.to_requester.transfer in
    let fits = chunk_fits transfer handle (unwrap_or (pending_of transfer (session_place s).turns) []) number (let least = sizes.least in omega (arith, least)) in
    let crossed = sizes.crossed in
    let most = sizes.most in
    omega (arith, fits, crossed, most)

pub session_few : (r : RspSetup) (h : History) (s : Events) (m : List ℕ) → HasFewBlocks r → IsSized r s → length (answer_bytes r (session_place s) m (least_values h (session_place s))) ≤ MAX_MESSAGE_SIZE
session_few r h s m blocks sized = least_few r (session_place s) blocks (chunks_few r s sized) h m
