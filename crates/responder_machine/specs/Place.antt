-- A place of a responder, and what a test may look at there. This project's own.
use Rattle.std.specs.Prelude.{◌+◌, ◌&&◌, not, ℕ, List, [], if◌then◌else◌, Bool}
use Rattle.spdm_grammar.specs.declared.told.phase.Phase.{Phase}
use Rattle.spdm_grammar.specs.declared.told.phase.Phase.TheVariants.{Negotiated}
use Rattle.responder_machine.specs.History.{History, clear_turns, phase_of, negotiation_of}
use Rattle.responder_machine.specs.Session.{Events, session_of, is_live, stage_of, turns_of, session_negotiation}
use Rattle.spdm_machine.specs.Sessions.{is_past_handshake, one_if}
use Rattle.spdm_machine.specs.Terms.{Terms, terms_of}
use Rattle.responder_machine.specs.Turn.{Turn}
use Rattle.transcript.specs.Transcripts.{Negotiation}

-- The clear part of a connection, the inside of a large request that came there in chunks, or one session.
pub data Where : Type 0 where
  InClear : Where
  InChunks : Where
  InSession : Where

-- Where it is, the phase, the turns there, the negotiation, the session's own history (none in the clear), and how many
-- sessions of the connection are live past their handshake (0 in a session, which no rule there asks).
pub record Place : Type 0 where
  pub at : Where
  pub phase : Phase
  pub turns : List Turn
  pub negotiation : Negotiation
  pub events : Events
  pub past_handshake : ℕ

-- The terms of a place are those of its negotiation.
abbrev pub place_terms : Place → Terms
place_terms p = terms_of p.negotiation

-- The session of this id is live past its handshake.
abbrev pub is_held : History → ℕ → Bool
is_held h id = is_live (session_of id h) && is_past_handshake (stage_of (session_of id h))

-- How many sessions are live past their handshake.
abbrev pub held_of : History → ℕ
held_of h = one_if (is_held h 1) + one_if (is_held h 2) + one_if (is_held h 3) + one_if (is_held h 4)

-- The least id from 1 to 4 that PSK_EXCHANGE may give. A session in its handshake is replaced, so its id is free.
-- Beside four that are held no exchange is answered; the length of its answer is then that with id 4.
abbrev pub free_id : History → ℕ
free_id h =
    if not (is_held h 1) then 1
    else (if not (is_held h 2) then 2
    else (if not (is_held h 3) then 3
    else 4))

-- The clear part of a connection, as a place in no session.
abbrev pub clear_place : History → Place
clear_place h = record {
  at = InClear;
  phase = phase_of (clear_turns h);
  turns = clear_turns h;
  negotiation = negotiation_of (clear_turns h);
  events = [];
  past_handshake = held_of h;
}

-- The inside of a large request that arrived in chunks: all else is as at the place of its chunks.
abbrev pub inside : Place → Place
inside p = record p { at = InChunks }

-- A session is live in phase Negotiated alone.
abbrev pub session_place : Events → Place
session_place s = record {
  at = InSession;
  phase = Negotiated;
  turns = turns_of s;
  negotiation = session_negotiation s;
  events = s;
  past_handshake = 0;
}
