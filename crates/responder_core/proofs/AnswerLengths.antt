-- How long answers are, told without their bytes.
use Rattle.std.proofs.Common.{refl, ◌≡◌, ◌≤◌, ◌+◌, ℕ, List, [], true, false, Bool, Some, None, length, arith}
use Rattle.std.proofs.lemmas.Bool.Decides.{nat_tests}
use Rattle.std.proofs.lemmas.List.{length-append}
use Rattle.std.specs.Prelude.{if◌then◌else◌, ◌==◌, ◌||◌, unwrap_or}
use Rattle.chunking.proofs.ChunkLengths.{chunk_framed}
use Rattle.chunking.specs.Cutting.{nth_chunk}
use Rattle.key_schedule.specs.declared.direction.Direction.TheVariants as direction
use Rattle.measurements.specs.Summaries.{hash_of_blocks, summarized}
use Rattle.responder_machine.proofs.VerifyLength.{length_blocks, length_verify}
use Rattle.responder_machine.specs.Answer.{Free, exchange_answer, summary_answer, t1_with}
use Rattle.responder_machine.specs.Place.{Place, place_terms}
use Rattle.responder_machine.specs.Setup.{RspSetup, inventory_of}
use Rattle.running_hash.specs.Hash.{hash_of}
use Rattle.spdm_basis.specs.Sizes.{hash_size}
use Rattle.spdm_basis.specs.declared.values.hash_alg.HashAlg.{HashAlg}
use Rattle.spdm_grammar.specs.Message.{ExchangeMessage}
use Rattle.spdm_grammar.specs.Message.ResponseMessage.{ChunkResponse}
use Rattle.spdm_grammar.specs.Responses.{canonical_response}

summary_answer_long : (r : RspSetup) (p : Place) (kind : ℕ)
    → length (summary_answer r p kind) ≡ (if kind == 1 || kind == 255 then hash_size (place_terms p).choice.hash else 0)
summary_answer_long r p kind = by_kind (kind == 0) (kind == 1 || kind == 255) (λ none. not_zero kind none)
  where
    hash : HashAlg
    hash = (place_terms p).choice.hash

    not_zero : (kind : ℕ) → (kind == 0) ≡ true → (kind == 1 || kind == 255) ≡ false
    not_zero kind none = grind (arith, nat_tests)

    by_kind : (zero some : Bool) → (zero ≡ true → some ≡ false)
        → length (if zero then [] else unwrap_or (if some then Some (hash_of_blocks (hash_of hash) (summarized kind (inventory_of r))) else None) []) ≡ (if some then hash_size hash else 0)
    by_kind true true none = absurd (let h = none refl in cc)
    by_kind true false none = refl
    by_kind false true none = length_blocks hash (summarized kind (inventory_of r))
    by_kind false false none = refl

pub exchange_long : (r : RspSetup) (p : Place) (m : List ℕ) (f : Free) (exchange : ExchangeMessage)
    → length (canonical_response (exchange_answer r p m f exchange))
    ≡ 12 + (if exchange.summary == 1 || exchange.summary == 255 then hash_size (place_terms p).choice.hash else 0) + length f.context + length f.exchange_opaque + hash_size (place_terms p).choice.hash
exchange_long r p m f exchange =
    let summary = summary_answer_long r p exchange.summary in
    let verify = length_verify (place_terms p).choice r.psk (t1_with r p m f exchange) direction.Response (t1_with r p m f exchange) in
    simp length-append (omega arith)

-- A chunk of a large response, with what stands round it, fits the transfer size.
pub chunk_fits : (transfer handle : ℕ) (message : List ℕ) (k : ℕ) → 16 ≤ transfer → length (canonical_response (ChunkResponse (nth_chunk transfer handle message k))) ≤ transfer
chunk_fits transfer handle message k least =
    let framed = chunk_framed transfer handle message k least in
    simp length-append (omega (arith, framed))
