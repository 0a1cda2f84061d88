-- A request that is sent in chunks, chunk by chunk.
use Rattle.std.proofs.Common.{refl, ◌≡◌, ◌≤◌, ◌<◌, ◌+◌, ◌-◌, ◌*◌, ℕ, true, false, Bool, zero, suc, length, arith, nat_lt}
use Rattle.std.specs.Prelude.{◌==◌, ◌||◌, ◌&&◌, not, min, ◌/◌, ◌%◌}
use Rattle.std.proofs.lemmas.Bool.Decides.{nat_tests}
use Rattle.std.proofs.lemmas.Bool.{ltb-false, ltb-true}
use Rattle.std.proofs.lemmas.Grind.{div_ceil_times}
use Rattle.chunking.specs.Cutting.{chunk_count}
use Rattle.negotiate.specs.declared.shared.Common.{Common}
use Rattle.spdm_grammar.specs.Message.{RequestMessage}
use Rattle.spdm_grammar.specs.Message.RequestMessage.{ChunkSend}
use Rattle.spdm_grammar.specs.Requests.{canonical_request}
use Rattle.spdm_grammar.specs.declared.names.TheConstants.{MIN_DATA_TRANSFER_SIZE}
use Rattle.requester_machine.specs.Message.{Content}
use Rattle.requester_machine.specs.Message.Content.{Clear}
use Rattle.requester_machine.specs.Sending.{piece_of, is_too_long}
use Rattle.requester_machine.specs.UnderWay.{IsPiece}

positive : (k u a : ℕ) → a + 4 ≤ k * u → 0 < k
positive zero u a h = grind arith
positive (suc k) u a h = omega arith

has_chunk : (a u : ℕ) → 0 < u → 0 < (a + 4) / u + min 1 ((a + 4) % u)
has_chunk a u has_unit = positive ((a + 4) / u + min 1 ((a + 4) % u)) u a (div_ceil_times (a + 4) u has_unit).0

within_sizes : (a c b : Bool) → (a || (not c && b)) ≡ false → b ≡ true → (a ≡ false) × (c ≡ true)
within_sizes true c b is large = absurd (cc)
within_sizes false true b is large = (refl, refl)
within_sizes false false true is large = absurd (cc)
within_sizes false false false is large = absurd (cc)

pub first_piece : (common : Common) (asked : RequestMessage) (handle : ℕ) → handle < 256 → MIN_DATA_TRANSFER_SIZE ≤ common.to_responder.transfer → is_too_long common (canonical_request asked) ≡ false
    → nat_lt common.to_responder.transfer (length (canonical_request asked)) ≡ true → IsPiece common asked handle 0 (Clear (canonical_request (ChunkSend (piece_of common asked handle 0))))
first_piece common asked handle small least short large =
    let sizes = within_sizes (nat_lt common.to_responder.max (length (canonical_request asked))) common.chunk (nat_lt common.to_responder.transfer (length (canonical_request asked))) short large in
    record {
      is = refl;
      chunks = sizes.1;
      one_byte = small;
      large = ltb-true common.to_responder.transfer (length (canonical_request asked)) large;
      short = ltb-false common.to_responder.max (length (canonical_request asked)) sizes.0;
      within = has_chunk (length (canonical_request asked)) (common.to_responder.transfer - 12) (omega arith);
    }

pub not_last : (a b : ℕ) → (a == b) ≡ false → a ≤ b → a < b
not_last a b is le = grind (arith, nat_tests)

pub next_piece : (common : Common) (asked : RequestMessage) (handle number : ℕ) (content : Content) → (piece_of common asked handle number).last ≡ false → IsPiece common asked handle number content
    → IsPiece common asked handle (number + 1) (Clear (canonical_request (ChunkSend (piece_of common asked handle (number + 1)))))
next_piece common asked handle number content more p =
    record {
      is = refl;
      chunks = p.chunks;
      one_byte = p.one_byte;
      large = p.large;
      short = p.short;
      within = not_last (number + 1) (chunk_count common.to_responder.transfer (canonical_request asked)) more (let w = p.within in omega (arith, w));
    }
