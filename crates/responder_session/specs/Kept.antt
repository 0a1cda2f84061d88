-- What a session at the responder keeps in every stage.
use Rattle.std.specs.Prelude.{◌≡◌, ◌%◌, ◌^◌, if◌then◌else◌, ℕ, List, true, Option, Some, None}
use Rattle.responder_machine.specs.Heard.{session_id}
use Rattle.responder_machine.specs.History.{KeptRecord}
use Rattle.responder_machine.specs.Records.{request_purpose, response_purpose}
use Rattle.responder_machine.specs.Session.{Events, is_live, stage_of, session_hash, session_negotiation, session_terms, exchange_of, t1_of, t2_of, request_epoch, response_epoch, request_next, response_next, taken_of, last_of}
use Rattle.session_keys.specs.Keys.{IsKeyOf}
use Rattle.session_keys.specs.Terms.{AreTermsOf}
use Rattle.spdm_machine.specs.Sessions.{transcript_in}
use Rattle.responder_session.specs.declared.kept.Kept.{Kept}
use Rattle.responder_session.specs.declared.last.LastRecord.{LastRecord}

-- The last record taken, with its reply; none before the first.
abbrev pub kept_record : LastRecord → Option KeptRecord
kept_record last =
    if last.is_taken then Some (record { sealed = last.sealed; reply = last.reply }) else None

-- It is kept of a live session of these events, with this pre-shared key. Application messages are counted modulo 2 ^
-- 64.
pub record Keeps (kept : Kept) (psk : List ℕ) (s : Events) : Type 0 where
  pub live : is_live s ≡ true
  pub terms : AreTermsOf kept.terms (session_negotiation s) (exchange_of s)
  pub id : kept.id ≡ session_id s
  pub request : IsKeyOf kept.request (session_terms s).choice (request_purpose psk s)
  pub response : IsKeyOf kept.response (session_terms s).choice (response_purpose psk s)
  pub request_epoch : kept.request.epoch ≡ request_epoch s
  pub response_epoch : kept.response.epoch ≡ response_epoch s
  pub request_next : kept.request_next ≡ request_next s
  pub response_next : kept.response_next ≡ response_next s
  pub taken : kept.taken ≡ taken_of s % 2 ^ 64
  pub hash : kept.hash ≡ (session_hash s).digest (transcript_in (stage_of s) (t1_of s) (t2_of s))
  pub last : kept_record kept.last ≡ last_of s
