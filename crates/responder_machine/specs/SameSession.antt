-- When a session, and a connection, is what it was. This project's own.
use Rattle.std.specs.Prelude.{◌≡◌, ℕ, List}
use Rattle.responder_machine.specs.History.{History, clear_turns, phase_of, negotiation_of, kept_of, ended_of, queue_of, draws_of, all_taken}
use Rattle.responder_machine.specs.LargeMessages.{pending_of, handle_of, given_of, larges_of, chunks_of}
use Rattle.responder_machine.specs.Records.{request_purpose, response_purpose}
use Rattle.responder_machine.specs.Session.{Events, is_live, stage_of, id_bytes, period_of, t1_of, t2_of, session_negotiation, session_terms, request_epoch, response_epoch, taken_of, turns_of}

-- Liveness, stage, id, heartbeat period, transcripts, the purposes of records in both directions, epochs, negotiation,
-- choice and common capabilities, application data taken, the pending large response, the count of large responses and
-- the chunks taken are as they were. The counts of records, the stored reply and the clock may have moved.
pub record IsSameSession (old new : Events) : Type 0 where
  pub live : is_live new ≡ is_live old
  pub stage : stage_of new ≡ stage_of old
  pub id : id_bytes new ≡ id_bytes old
  pub period : period_of new ≡ period_of old
  pub handshake : t1_of new ≡ t1_of old
  pub transcript : t2_of new ≡ t2_of old
  pub requests : (psk : List ℕ) → request_purpose psk new ≡ request_purpose psk old
  pub responses : (psk : List ℕ) → response_purpose psk new ≡ response_purpose psk old
  pub request_updates : request_epoch new ≡ request_epoch old
  pub response_updates : response_epoch new ≡ response_epoch old
  pub negotiation : session_negotiation new ≡ session_negotiation old
  pub terms : session_terms new ≡ session_terms old
  pub taken : taken_of new ≡ taken_of old
  pub pending : (transfer : ℕ) → pending_of transfer (turns_of new) ≡ pending_of transfer (turns_of old)
  pub handle : handle_of (turns_of new) ≡ handle_of (turns_of old)
  pub given : given_of (turns_of new) ≡ given_of (turns_of old)
  pub larges : larges_of (turns_of new) ≡ larges_of (turns_of old)
  pub chunks : chunks_of (turns_of new) ≡ chunks_of (turns_of old)

-- What is counted for the whole connection and for its clear part is as it was.
pub record IsSameConnection (old new : History) : Type 0 where
  pub phase : phase_of (clear_turns new) ≡ phase_of (clear_turns old)
  pub negotiation : negotiation_of (clear_turns new) ≡ negotiation_of (clear_turns old)
  pub kept : kept_of new ≡ kept_of old
  pub ended : ended_of new ≡ ended_of old
  pub queue : queue_of new ≡ queue_of old
  pub draws : draws_of new ≡ draws_of old
  pub taken : all_taken new ≡ all_taken old
  pub pending : (transfer : ℕ) → pending_of transfer (clear_turns new) ≡ pending_of transfer (clear_turns old)
  pub handle : handle_of (clear_turns new) ≡ handle_of (clear_turns old)
  pub given : given_of (clear_turns new) ≡ given_of (clear_turns old)
  pub larges : larges_of (clear_turns new) ≡ larges_of (clear_turns old)
  pub chunks : chunks_of (clear_turns new) ≡ chunks_of (clear_turns old)
