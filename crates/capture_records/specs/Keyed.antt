-- What packets show of a session, and the purposes of the keys of its records. This project's own.
use Rattle.std.specs.Prelude.{ℕ, List, Bool, length, drop, slice_index, ◌==◌, ◌&&◌, if◌then◌else◌}
use Rattle.capture_records.specs.declared.opening.RecordKeys.{RecordKeys}
use Rattle.capture_records.specs.declared.opening.RecordKeys.TheVariants as keys
use Rattle.key_schedule.specs.Purpose.{Purpose, application_record, handshake_record}
use Rattle.key_schedule.specs.declared.direction.Direction.{Direction}
use Rattle.key_schedule.specs.declared.direction.Direction.TheVariants.{Request, Response}
use Rattle.running_hash.specs.Hash.{hash_of}
use Rattle.spdm_basis.specs.declared.SessionId.{SessionId}
use Rattle.spdm_grammar.specs.declared.messages.choice.Choice.{Choice}
use Rattle.spdm_grammar.specs.declared.names.message_type.TheConstants.{SPDM}
use Rattle.spdm_grammar.specs.declared.names.request_code.TheConstants.{PSK_FINISH}
use Rattle.spdm_grammar.specs.declared.names.response_code.TheConstants.{PSK_FINISH_RSP}
use Rattle.transcript.specs.Transcripts.{t1_of, t2_of}

-- The messages of its transcript, each as it was sent. PSK_FINISH and PSK_FINISH_RSP come in records, and are empty before
-- these were opened.
pub record Keyed : Type 0 where
  pub choice : Choice
  pub id : SessionId
  pub vca : List ℕ
  pub exchange : List ℕ
  pub answer : List ℕ
  pub finish : List ℕ
  pub finished : List ℕ
  pub request_epoch : ℕ
  pub response_epoch : ℕ

abbrev pub t1_in : Keyed → List ℕ
t1_in s = t1_of (hash_of s.choice.hash) s.vca s.exchange s.answer

abbrev pub t2_in : Keyed → List ℕ
t2_in s = t2_of s.vca s.exchange s.answer s.finish s.finished

-- The records of a direction in the handshake, and after it and so many key updates.
abbrev pub handshake_purpose : Keyed → (psk : List ℕ) → Direction → Purpose
handshake_purpose s psk direction = handshake_record psk (t1_in s) direction

abbrev pub data_purpose : Keyed → (psk : List ℕ) → Direction → (epoch : ℕ) → Purpose
data_purpose s psk direction epoch = application_record psk (t2_in s) direction epoch

abbrev pub purpose_by : Keyed → (psk : List ℕ) → Direction → RecordKeys → Purpose
purpose_by s psk direction keys.Handshake = handshake_purpose s psk direction
purpose_by s psk direction (keys.Data epoch) = data_purpose s psk direction epoch

-- ---- What is in use.

abbrev pub epoch_of : Keyed → Direction → ℕ
epoch_of s Request = s.request_epoch
epoch_of s Response = s.response_epoch

-- PSK_FINISH_RSP has not come.
abbrev pub is_early : Keyed → Bool
is_early s = length s.finished == 0

-- ---- What a record that opens adds.

abbrev pub with_epoch : Keyed → Direction → (epoch : ℕ) → Keyed
with_epoch s Request epoch = record s { request_epoch = epoch }
with_epoch s Response epoch = record s { response_epoch = epoch }

-- An inner message is an SPDM message with this code, behind its type.
abbrev pub has_code : (inner : List ℕ) → (code : ℕ) → Bool
has_code inner code = (slice_index inner 0 == SPDM) && (slice_index inner 2 == code)

-- A record of the handshake. T2 has the PSK_FINISH that PSK_FINISH_RSP answered: the last one before it, since a PSK_FINISH
-- that was refused is answered by ERROR, which adds nothing.
abbrev pub shown_by : Keyed → Direction → (inner : List ℕ) → Keyed
shown_by s Request inner = if has_code inner PSK_FINISH then record s { finish = drop 1 inner } else s
shown_by s Response inner = if has_code inner PSK_FINISH_RSP then record s { finished = drop 1 inner } else s

-- After PSK_FINISH_RSP no record of the handshake adds anything.
abbrev pub noted : Keyed → Direction → RecordKeys → (inner : List ℕ) → Keyed
noted s direction keys.Handshake inner = if is_early s then shown_by s direction inner else s
noted s direction (keys.Data epoch) inner = with_epoch s direction epoch
