-- Draws, contexts, verify data and records, each by the choice of algorithms that it stands under.
use Rattle.std.specs.Prelude.{ℕ, List, ◌++◌, take, Option, replicate}
use Rattle.byteorder.specs.Endian.{little_bytes}
use Rattle.hmac_hkdf.specs.Draw.{draw}
use Rattle.hmac_hkdf.specs.Hmac.{hmac}
use Rattle.key_schedule.specs.Purpose.{Purpose, key_of, iv_of, verify}
use Rattle.key_schedule.specs.declared.direction.Direction.{Direction}
use Rattle.running_hash.specs.Hash.{hash_of}
use Rattle.secured_record.specs.Faults.{fault_of, inner_of}
use Rattle.secured_record.specs.Format.{record_of}
use Rattle.spdm_basis.specs.declared.values.hash_alg.HashAlg.{HashAlg}
use Rattle.spdm_basis.specs.declared.values.hash_alg.HashAlg.TheVariants.{Sha256, Sha384}
use Rattle.spdm_basis.specs.declared.causes.record_fault.RecordFault.{RecordFault}
use Rattle.spdm_grammar.specs.declared.messages.choice.Choice.{Choice}

-- A draw of an end: its number, and 32 bytes that its seed and the number fix.
pub record Draw : Type 0 where
  pub number : ℕ
  pub bytes : List ℕ

-- The draw of this number from a seed.
abbrev pub draw_of : List ℕ → ℕ → Draw
draw_of seed number = record { number = number; bytes = draw seed number }

-- A context is as long as the hash and holds the number of its draw, so that no two are equal: the first 24 bytes of
-- the draw and the number as eight bytes, little-endian, with SHA-256; the draw, the number and eight zero bytes with
-- SHA-384. This project's own.
abbrev pub context_of : HashAlg → Draw → List ℕ
context_of Sha256 d = take 24 d.bytes ++ little_bytes 8 d.number
context_of Sha384 d = d.bytes ++ little_bytes 8 d.number ++ replicate 8 0

-- Verify data of a direction: HMAC of the hash of a transcript under the finished key that belongs to T1 (DSP0274,
-- "PSK_EXCHANGE_RSP" and "PSK_FINISH"). The transcript is T1 itself for the responder's, and Tv for the requester's.
unfoldable pub verify_data : Choice → List ℕ → List ℕ → Direction → List ℕ → List ℕ
verify_data choice psk t1 direction transcript =
    hmac (hash_of choice.hash) (key_of choice.hash choice.aead (verify psk t1 direction)) ((hash_of choice.hash).digest transcript)

-- The record of an inner message and padding under a purpose and number (DSP0277, "Secured Message format").
unfoldable pub sealed_of : Choice → Purpose → ℕ → List ℕ → List ℕ → List ℕ → List ℕ
sealed_of choice p number id inner pad = record_of (key_of choice.hash choice.aead p) (iv_of choice.hash p) id number inner pad

-- Why bytes are no record of a session under a purpose and number.
unfoldable pub record_fault : Choice → Purpose → ℕ → List ℕ → List ℕ → Option RecordFault
record_fault choice p number id sealed = fault_of (key_of choice.hash choice.aead p) (iv_of choice.hash p) id number sealed

-- The inner message of a record.
unfoldable pub inner_message : Choice → Purpose → ℕ → List ℕ → List ℕ
inner_message choice p number sealed = inner_of (key_of choice.hash choice.aead p) (iv_of choice.hash p) number sealed
