-- What both ends read alike off a session: its ids, its stage, the transcript and the purposes that belong to the
-- stage.
use Rattle.std.specs.Prelude.{ℕ, List, drop, if◌then◌else◌, Bool, true, false}
use Rattle.byteorder.specs.Endian.{little_number}
use Rattle.key_schedule.specs.Purpose.{Purpose, handshake_record, application_record}
use Rattle.key_schedule.specs.declared.direction.Direction.{Direction}
use Rattle.spdm_grammar.specs.declared.told.phase.Stage.{Stage}
use Rattle.spdm_grammar.specs.declared.told.phase.Stage.TheVariants.{Handshake, Open, Verifying}

-- ReqSessionID and RspSessionID are the two bytes after the header of PSK_EXCHANGE and of PSK_EXCHANGE_RSP (DSP0274,
-- "PSK_EXCHANGE").
abbrev pub id_in_exchange : List ℕ → ℕ
id_in_exchange message = little_number 2 (drop 4 message)

-- The stage is past the handshake: Open or Verifying.
abbrev pub is_past_handshake : Stage → Bool
is_past_handshake Handshake = false
is_past_handshake Open = true
is_past_handshake Verifying = true

-- The transcript that is shown in a stage: T1 in the handshake, and T2 after it.
abbrev pub transcript_in : Stage → (t1 t2 : List ℕ) → List ℕ
transcript_in Handshake t1 t2 = t1
transcript_in Open t1 t2 = t2
transcript_in Verifying t1 t2 = t2

-- The records of a stage: those of the handshake under T1, those after it under T2 (DSP0277).
abbrev pub purpose_in : Stage → List ℕ → (t1 t2 : List ℕ) → Direction → ℕ → Purpose
purpose_in Handshake psk t1 t2 direction epoch = handshake_record psk t1 direction
purpose_in Open psk t1 t2 direction epoch = application_record psk t2 direction epoch
purpose_in Verifying psk t1 t2 direction epoch = application_record psk t2 direction epoch

-- 1 where a test holds, and 0 where it does not.
abbrev pub one_if : Bool → ℕ
one_if b = if b then 1 else 0
