-- What a session at the requester keeps once it is open, also while an answer is awaited.
use Rattle.std.specs.Prelude.{◌≡◌, ◌<◌, ◌^◌, ℕ, List, Some, true}
use Rattle.key_schedule.specs.Purpose.{application_record}
use Rattle.key_schedule.specs.declared.direction.Direction.TheVariants.{Request, Response}
use Rattle.requester_machine.specs.Session.{Steps, stage_of, session_id, session_hash, session_terms, t2_of, request_epoch, request_next, response_next, taken_of}
use Rattle.spdm_machine.specs.Sessions.{is_past_handshake}
use Rattle.session_keys.specs.Keys.{IsKeyOf}
use Rattle.psk_session.specs.Told.{told_of}
use Rattle.psk_session.specs.declared.kept.Kept.{Kept}

-- It is kept of a session of these steps, past its handshake, with this pre-shared key. The key of responses is that of
-- this epoch. The count of application messages is kept as far as it goes into 64 bits.
pub record Keeps (kept : Kept) (psk : List ℕ) (s : Steps) (epoch : ℕ) : Type 0 where
  pub past : is_past_handshake (stage_of s) ≡ true
  pub choice : kept.terms.choice ≡ (session_terms s).choice
  pub common : kept.terms.common ≡ (session_terms s).common
  pub id : kept.id ≡ session_id s
  pub request : IsKeyOf kept.request (session_terms s).choice
      (application_record psk (t2_of s) Request (request_epoch s))
  pub response : IsKeyOf kept.response (session_terms s).choice
      (application_record psk (t2_of s) Response epoch)
  pub request_next : kept.request_next ≡ request_next s
  pub response_next : kept.response_next ≡ response_next s
  pub taken : taken_of s < 2 ^ 64 → kept.taken ≡ taken_of s
  pub th2 : kept.th2 ≡ (session_hash s).digest (t2_of s)
  pub told : told_of s ≡ Some kept.told
