-- Fields and parts that requests and responses share (DSP0274, section 10).
use Rattle.std.specs.Prelude.{◌≡◌, ◌<◌, ◌^◌, ◌%◌, ◌==◌, ◌&&◌, ◌||◌, ℕ, Bool, true, nat_le, if◌then◌else◌, is_some, List, [], ◌∷◌, ◌++◌, length, replicate, Option, Some, None, IfSome}
use Rattle.byteorder.specs.Endian.{little_bytes}
use Rattle.spdm_grammar.specs.declared.messages.capabilities.Caps.{Caps}
use Rattle.spdm_grammar.specs.Layout.{Layout, reserved}
use Rattle.spdm_grammar.specs.Layout.Layout.{Whole, Number, Optional, Bytes}
use Rattle.spdm_grammar.specs.Message.{ChunkMessage}

-- Any value is allowed.
abbrev pub any : ℕ → Bool
any n = true

-- Bit 0 is not set.
abbrev pub is_even : ℕ → Bool
is_even n = n % 2 == 0

-- A kind of measurement summary: none, the trusted computing base, or all.
abbrev pub is_summary : ℕ → Bool
is_summary n = n == 0 || n == 1 || n == 255

-- An operation of a key update: UpdateKey, UpdateAllKeys or VerifyNewKey.
abbrev pub is_key_operation : ℕ → Bool
is_key_operation n = nat_le 1 n && nat_le n 3

-- Opaque data has at most 1,024 bytes.
abbrev pub is_opaque_length : ℕ → Bool
is_opaque_length n = nat_le n 1024

-- So many bytes of zero.
abbrev pub zeros : ℕ → List ℕ
zeros n = replicate n 0

-- Capabilities after the code: Param1 and Param2, CTExponent between reserved bytes, Flags, DataTransferSize and
-- MaxSPDMmsgSize.
abbrev pub caps_layout : {A : Type 0} → (Caps → A) → Layout A
caps_layout value =
    reserved 3 (
    Number 1 any (λ ct.
    reserved 2 (
    Number 4 any (λ flags.
    Number 4 any (λ transfer.
    Number 4 any (λ max.
    Whole (value (record { ct = ct; flags = flags; transfer = transfer; max = max }))))))))

-- Capabilities whose numbers fit their fields.
pub record FitsCaps (caps : Caps) : Type 0 where
  pub ct : caps.ct < 256
  pub flags : caps.flags < 2 ^ 32
  pub transfer : caps.transfer < 2 ^ 32
  pub max : caps.max < 2 ^ 32

-- Capabilities after the code, as they are written.
abbrev pub caps_bytes : Caps → List ℕ
caps_bytes caps = (0 ∷ 0 ∷ 0 ∷ caps.ct ∷ 0 ∷ 0 ∷ []) ++ little_bytes 4 caps.flags ++ little_bytes 4 caps.transfer ++ little_bytes 4 caps.max

-- A chunk after the code: bit 0 of Param1 marks the last one, Param2 is the handle, and then come ChunkSeqNo,
-- ChunkSize, LargeMessageSize where ChunkSeqNo is 0, and the bytes.
abbrev pub chunk_layout : {A : Type 0} → (ChunkMessage → A) → Layout A
chunk_layout value =
    Number 1 any (λ attributes.
    Number 1 any (λ handle.
    Number 2 any (λ number.
    reserved 2 (
    Number 4 any (λ size.
    Optional (number == 0) 4 (λ large.
    Bytes size (λ chunk.
    Whole (value (record { last = attributes % 2 == 1; handle = handle; number = number; large = large; chunk = chunk })))))))))

-- A chunk whose numbers fit their fields.
pub record FitsChunk (chunk : ChunkMessage) : Type 0 where
  pub handle : chunk.handle < 256
  pub number : chunk.number < 2 ^ 16
  pub large : IfSome chunk.large (λ n. n < 2 ^ 32)

-- A chunk that has an encoding: the one of number 0, and no other, tells the size of the whole.
pub record IsSoundChunk (chunk : ChunkMessage) : Type 0 where
  pub first : is_some chunk.large ≡ (chunk.number == 0)
  pub size : length chunk.chunk < 2 ^ 32

-- The size of the whole, where it is told.
abbrev pub large_bytes : Option ℕ → List ℕ
large_bytes None = []
large_bytes (Some n) = little_bytes 4 n

-- A chunk after the code, as it is written.
abbrev pub chunk_bytes : ChunkMessage → List ℕ
chunk_bytes chunk =
    ((if chunk.last then 1 else 0) ∷ chunk.handle ∷ []) ++ little_bytes 2 chunk.number ++ zeros 2 ++ little_bytes 4 (length chunk.chunk)
    ++ large_bytes chunk.large ++ chunk.chunk
