-- No chunk passes the longest message, and whether one is pending depends on a length.
use Rattle.std.proofs.Common.{◌≡◌, ◌≤◌, ◌+◌, ◌-◌, ◌*◌, ◌==◌, ◌∙◌, ◌<◌, ℕ, zero, suc, sym, List, cond, drop, length-drop, refl, ap, length, Bool, true, false, Option, Some, None, Ok, Err, arith, eqb-true}
use Rattle.std.proofs.lemmas.Bool.Decides.{nat_tests}
use Rattle.std.proofs.lemmas.List.{length-take}
use Rattle.std.proofs.Math.Nat.{min-le_right}
use Rattle.std.specs.Prelude.{nat_lt, slice_range, unwrap_or}
use Rattle.std.specs.Int.{div_ceil}
use Rattle.std.proofs.lemmas.Grind.{div_ceil_times}
use Rattle.std.specs.Result.{result_ok}
use Rattle.chunking.specs.Cutting.{chunk_count, chunk_end, chunk_start, nth_chunk, unit_of}
use Rattle.negotiate.specs.Capabilities.{shared}
use Rattle.responder_machine.specs.Place.{Place, place_terms}
use Rattle.spdm_grammar.specs.Message.ResponseMessage.{ChunkResponse}
use Rattle.spdm_grammar.specs.Responses.{canonical_response}
use Rattle.spdm_grammar.specs.declared.messages.capabilities.Caps.{Caps}
use Rattle.spdm_grammar.specs.declared.messages.part_faults.CapsFault.TheVariants.{SizeTooSmall, SizesCrossed, NoPsk, NoProtection}
use Rattle.spdm_grammar.specs.declared.names.TheConstants.{MAX_MESSAGE_SIZE}
use Rattle.spdm_machine.specs.Terms.{asked_caps, common_from, no_common, request_value, response_value, terms_of, told_caps}

-- ---- What stands in a chunk.

-- No requester takes more than 4,096 bytes at once.
pub settled_by : (a b : Caps) (small crossed keyless bare : Bool)
    → (unwrap_or (result_ok (cond small (Err SizeTooSmall) (cond crossed (Err SizesCrossed) (cond keyless (Err NoPsk) (cond bare (Err NoProtection) (Ok (shared a b))))))) no_common).to_requester.transfer ≤ MAX_MESSAGE_SIZE
settled_by a b true crossed keyless bare = omega arith
settled_by a b false true keyless bare = omega arith
settled_by a b false false true bare = omega arith
settled_by a b false false false true = omega arith
settled_by a b false false false false = min-le_right a.transfer MAX_MESSAGE_SIZE

pub settled_few : (a b : Option Caps) → (common_from a b).to_requester.transfer ≤ MAX_MESSAGE_SIZE
settled_few None b = omega arith
settled_few (Some a) None = omega arith
settled_few (Some a) (Some b) = settled_by a b _ _ _ _

pub transfer_few : (p : Place) → (place_terms p).common.to_requester.transfer ≤ MAX_MESSAGE_SIZE
unfolding terms_of
transfer_few p = settled_few (asked_caps (request_value p.negotiation.get_capabilities)) (told_caps (response_value p.negotiation.capabilities))

pub cut_few : (message : List ℕ) (start end : ℕ) → length (slice_range message start end) ≤ end - start
cut_few message start end =
    let rest = length-drop start message in
    let few = length-take (end - start) (drop start message) in
    omega (arith, rest, few)

pub chunk_by : (first last : Bool) (handle number size start end : ℕ) (message : List ℕ)
    → length (canonical_response (ChunkResponse (record { last = last; handle = handle; number = number; large = cond first (Some size) None; chunk = slice_range message start end }))) ≤ cond first 16 12 + (end - start)
chunk_by true last handle number size start end message = (let few = cut_few message start end in omega (arith, few))
chunk_by false last handle number size start end message = (let few = cut_few message start end in omega (arith, few))

pub framed_few : (first : Bool) (x unit transfer n : ℕ) → unit ≡ transfer - 12 → transfer ≤ 4096 → (first ≡ true → x ≡ 0) → n ≤ cond first 16 12 + ((x + unit - 4) - (x - 4)) → n ≤ 4096
framed_few true x unit transfer n is few none most = (let zero = none refl in omega (arith, is, few, zero, most))
framed_few false x unit transfer n is few none most = omega (arith, is, few, most)

-- A chunk of whatever bytes, with what stands round it.
pub chunk_few : (transfer handle : ℕ) (message : List ℕ) (number : ℕ) → transfer ≤ 4096 → length (canonical_response (ChunkResponse (nth_chunk transfer handle message number))) ≤ 4096
chunk_few transfer handle message number few =
    framed_few (number == 0) (number * unit_of transfer) (unit_of transfer) transfer _ refl few (λ first. (let none = ap (λ (n : ℕ). n * unit_of transfer) (eqb-true number 0 first) in omega (arith, none)))
    (chunk_by (number == 0) (number + 1 == chunk_count transfer message) handle number (length message) (chunk_start transfer number) (chunk_end transfer number) message)

-- ---- What is pending.

none_more : (n x unit : ℕ) → 0 < x → x ≤ n * unit → nat_lt 0 n ≡ true
none_more zero x unit some most = absurd (omega (arith, some, most))
none_more (suc n) x unit some most = grind (arith, nat_tests)

ceil_some : (x unit : ℕ) → 0 < unit → nat_lt 0 (div_ceil (x + 4) unit) ≡ true
ceil_some x unit some = let around = div_ceil_times (x + 4) unit some in none_more (div_ceil (x + 4) unit) (x + 4) unit (omega arith) around.0

-- Before the first chunk something is, whatever the length.
pub some_more : (x y : ℕ) (unit : ℕ) → nat_lt 0 (div_ceil (x + 4) unit) ≡ nat_lt 0 (div_ceil (y + 4) unit)
some_more x y zero = grind (arith, nat_tests)
some_more x y (suc unit) = ceil_some x (suc unit) (omega arith) ∙ sym (ceil_some y (suc unit) (omega arith))
