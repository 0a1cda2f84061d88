-- How far the counts of a history go: each is at most the number of messages that came. Each law is the contract of a
-- function of this crate. This project's own.
use Rattle.std.specs.Prelude.{◌+◌, ◌≤◌, ℕ, [], ◌∷◌, length}
use Rattle.std.specs.List.{AllByRecursion}
use Rattle.responder_machine.specs.Does.{IsMade}
use Rattle.responder_machine.specs.History.{History, clear_turns, draws_of, all_taken, queue_of}
use Rattle.responder_machine.specs.History.Entry.{Clear, Sealed}
use Rattle.responder_machine.specs.LargeMessages.{larges_of}
use Rattle.responder_machine.specs.Session.{Events, session_of, turns_of, request_epoch, response_epoch, taken_of}
use Rattle.responder_machine.specs.Setup.{RspSetup}
use Rattle.spdm_grammar.specs.declared.names.TheConstants.{MAX_APP_DATA_LEN}

-- How many messages came: clear ones, and records that opened.
abbrev pub messages_of : History → ℕ
messages_of [] = 0
messages_of (Clear tag t d ∷ older) = messages_of older + 1
messages_of (Sealed tag m t reply d ∷ older) = messages_of older + 1
messages_of (_ ∷ older) = messages_of older

-- What is counted for a connection is at most a number: draws, application messages taken, and large responses of its
-- clear part.
pub record IsConnectionWithin (h : History) (most : ℕ) : Type 0 where
  pub draws : draws_of h ≤ most
  pub taken : all_taken h ≤ most
  pub larges : larges_of (clear_turns h) ≤ most

-- What is counted in a session is at most a number: records, updates of the keys of both directions, application
-- messages taken, and large responses.
pub record IsSessionWithin (s : Events) (most : ℕ) : Type 0 where
  pub records : length (turns_of s) ≤ most
  pub request_updates : request_epoch s ≤ most
  pub response_updates : response_epoch s ≤ most
  pub taken : taken_of s ≤ most
  pub larges : larges_of (turns_of s) ≤ most

-- The counts of a connection are at most its messages.
abbrev pub ConnectionIsBounded : Type 0
ConnectionIsBounded = (h : History) → IsConnectionWithin h (messages_of h)

-- The counts of each session are at most the messages of the connection.
abbrev pub SessionIsBounded : Type 0
SessionIsBounded = (h : History) (id : ℕ) → IsSessionWithin (session_of id h) (messages_of h)

-- In a made history at most 16 application messages wait, each of at most 1,024 bytes.
abbrev pub QueueIsBounded : Type 0
QueueIsBounded = (r : RspSetup) (h : History) → IsMade r h
    → (length (queue_of h) ≤ 16) × AllByRecursion (λ bytes. length bytes ≤ MAX_APP_DATA_LEN) (queue_of h)
