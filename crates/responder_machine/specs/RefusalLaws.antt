-- What a refused request leaves of the connection, where it came in a record or in chunks: each law is the contract of
-- a function of this crate. This project's own.
use Rattle.std.specs.Prelude.{◌≡◌, ℕ, List, [], ◌∷◌, true, false, Some, None}
use Rattle.chunking.specs.Collecting.{under_way}
use Rattle.spdm_grammar.specs.Message.{ChunkMessage}
use Rattle.spdm_grammar.specs.Message.RequestMessage.{ChunkSend}
use Rattle.spdm_grammar.specs.declared.messages.error_code.ErrorCode.{ErrorCode}
use Rattle.spdm_machine.specs.Keys.{Draw}
use Rattle.responder_machine.specs.Answer.{Free, request_at}
use Rattle.responder_machine.specs.Handling.{acknowledged, error_bytes}
use Rattle.responder_machine.specs.History.{History, clear_turns, phase_of, negotiation_of, kept_of, ended_of, queue_of, draws_of, all_taken}
use Rattle.responder_machine.specs.History.Entry.{Sealed}
use Rattle.responder_machine.specs.LargeMessages.{pending_of, handle_of, given_of, larges_of, chunks_of}
use Rattle.responder_machine.specs.Laws.{completed_at}
use Rattle.responder_machine.specs.Place.{clear_place, inside}
use Rattle.responder_machine.specs.Refusal.{refusal}
use Rattle.responder_machine.specs.Responder.{after, on_clear, on_record, is_repeat}
use Rattle.responder_machine.specs.Responder.Outcome.{Adds}
use Rattle.responder_machine.specs.SameSession.{IsSameConnection}
use Rattle.responder_machine.specs.Setup.{RspSetup}
use Rattle.responder_machine.specs.Turn.{Turn}

-- A record whose inner message is refused leaves what is counted for the connection as it was.
abbrev pub RefusedRecordKeepsConnection : Type 0
RefusedRecordKeepsConnection = (r : RspSetup) (h : History) (tag : ℕ) (m : List ℕ) (f : Free) (d : Draw) (t : Turn) (reply : List ℕ) (e : ErrorCode)
    → on_record r h tag m f d ≡ Adds (Sealed tag m t reply d) → t.refused ≡ Some e → IsSameConnection h (Sealed tag m t reply d ∷ h)

-- Phase, negotiation, ended session, queue, draws, application data taken, and the count and the last of the handles
-- given are as they were. The stored reply, the pending large response and the chunks may have changed.
pub record IsSameBesideChunks (old new : History) : Type 0 where
  pub phase : phase_of (clear_turns new) ≡ phase_of (clear_turns old)
  pub negotiation : negotiation_of (clear_turns new) ≡ negotiation_of (clear_turns old)
  pub ended : ended_of new ≡ ended_of old
  pub queue : queue_of new ≡ queue_of old
  pub draws : draws_of new ≡ draws_of old
  pub taken : all_taken new ≡ all_taken old
  pub handle : handle_of (clear_turns new) ≡ handle_of (clear_turns old)
  pub larges : larges_of (clear_turns new) ≡ larges_of (clear_turns old)

-- A chunk is no request by itself. Where the one that it completes is refused, no more than these three of the
-- connection changes, be the chunk a repeat, itself refused, or taken.
abbrev pub RefusedInChunksKeepsConnection : Type 0
RefusedInChunksKeepsConnection = (r : RspSetup) (h : History) (tag : ℕ) (m : List ℕ) (f : Free) (d : Draw) (c : ChunkMessage) (e : ErrorCode)
    → request_at (clear_place h) m ≡ Some (ChunkSend c)
    → refusal r (inside (clear_place h)) (completed_at (clear_place h) c) f ≡ Some e
    → IsSameBesideChunks h (after h (on_clear r h tag m f d))

-- What a last chunk changes that is taken and carries a refused request: with its acknowledgement, in which the ERROR
-- stands, it is the kept clear request; no large response is pending; and no chunk is in progress.
pub record IsKeptChunk (r : RspSetup) (old : History) (tag : ℕ) (m : List ℕ) (f : Free) (c : ChunkMessage) (e : ErrorCode) (new : History) : Type 0 where
  pub kept : kept_of new ≡ Some (record { tag = tag; message = m; reply = acknowledged c (error_bytes r (inside (clear_place old)) (completed_at (clear_place old) c) f e) })
  pub pending : (transfer : ℕ) → pending_of transfer (clear_turns new) ≡ None
  pub given : given_of (clear_turns new) ≡ 0
  pub chunks : chunks_of (clear_turns new) ≡ c ∷ chunks_of (clear_turns old)
  pub under_way : under_way (chunks_of (clear_turns new)) ≡ []

-- The chunk is the last one, is no repeat and is not refused itself; the request that it completes is.
abbrev pub RefusedInChunksIsKept : Type 0
RefusedInChunksIsKept = (r : RspSetup) (h : History) (tag : ℕ) (m : List ℕ) (f : Free) (d : Draw) (c : ChunkMessage) (e : ErrorCode)
    → is_repeat (kept_of h) tag m ≡ false → refusal r (clear_place h) m f ≡ None
    → request_at (clear_place h) m ≡ Some (ChunkSend c) → c.last ≡ true
    → refusal r (inside (clear_place h)) (completed_at (clear_place h) c) f ≡ Some e
    → IsKeptChunk r h tag m f c e (after h (on_clear r h tag m f d))
