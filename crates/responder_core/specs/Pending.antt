-- A connection in which the pending answer of a session gets other bytes, or was never seen, for the checker answers
-- whose bytes come chunk by chunk. This project's own.
use Rattle.std.specs.Prelude.{◌==◌, ◌≡◌, ◌≢◌, ◌&&◌, ◌||◌, not, if◌then◌else◌, ℕ, List, [], ◌∷◌, Bool}
use Rattle.responder_rules.specs.LargeAnswer.{turn_unseen, turn_with}
use Rattle.responder_machine.specs.History.{History, clear_turns, ended_of, kept_of, queue_of}
use Rattle.responder_machine.specs.History.Entry.{Sealed}
use Rattle.responder_machine.specs.Session.{id_in_record, session_of}
use Rattle.responder_machine.specs.Turn.{Turn, is_taken, takes}
use Rattle.responder_session.specs.Pending as sessions
use Rattle.spdm_grammar.specs.declared.names.request_code.TheConstants.{CHUNK_GET}

-- A message that was not taken, or CHUNK_GET: after it a large response is as pending as before.
abbrev pub passes : Turn → Bool
passes t = not (is_taken t) || takes CHUNK_GET t

-- The history in which the turn changes so of the last record of the session of this id that was taken and is no
-- CHUNK_GET: a large response that is pending there is its answer.
abbrev pub history_changed : (Turn → Turn) → (id : ℕ) → History → History
history_changed change id [] = []
history_changed change id (Sealed tag m t reply d ∷ older) =
    if id_in_record m == id && not (passes t) then Sealed tag m (change t) reply d ∷ older
    else Sealed tag m t reply d ∷ history_changed change id older
history_changed change id (entry ∷ older) = entry ∷ history_changed change id older

-- It gets these bytes as its whole answer.
abbrev pub history_with : (id : ℕ) → List ℕ → History → History
history_with id answer = history_changed (turn_with answer) id

-- Its answer was never seen.
abbrev pub history_unseen : (id : ℕ) → History → History
history_unseen id = history_changed turn_unseen id

-- One answer less went by LargeResponse in the session of this id in the other history; all else that is kept is the same.
pub record IsUncounted (id : ℕ) (h k : History) : Type 0 where
  pub own : sessions.IsUncounted (session_of id h) (session_of id k)
  pub others : (i : ℕ) → i ≢ id → session_of i h ≡ session_of i k
  pub turns : clear_turns h ≡ clear_turns k
  pub kept : kept_of h ≡ kept_of k
  pub ended : ended_of h ≡ ended_of k
  pub queue : queue_of h ≡ queue_of k
