-- A session whose pending answer gets other bytes, or was never seen, for the checker answers whose bytes come chunk by
-- chunk. This project's own.
use Rattle.std.specs.Prelude.{◌≡◌, ◌||◌, not, if◌then◌else◌, ℕ, List, [], ◌∷◌}
use Rattle.responder_rules.specs.LargeAnswer as large_answers
use Rattle.responder_rules.specs.LargeAnswer.{turn_unseen, turn_with}
use Rattle.responder_machine.specs.Session.{Events, exchange_answer, exchange_of, finish_answer, finish_of, idle_of, is_live, last_of, request_epoch, request_next, response_epoch, response_next, session_negotiation, session_terms, stage_of, taken_of, turns_of}
use Rattle.responder_machine.specs.Session.Event.{Heard}
use Rattle.responder_machine.specs.Turn.{Turn, is_taken, takes}
use Rattle.responder_session.specs.Data.{data_of}
use Rattle.spdm_grammar.specs.declared.names.request_code.TheConstants.{CHUNK_GET}

-- The session in which the turn changes so of the last record that was taken and is no CHUNK_GET: a large response that
-- is pending is its answer.
abbrev pub events_changed : (Turn → Turn) → Events → Events
events_changed change [] = []
events_changed change (Heard m t reply ∷ older) =
    if not (is_taken t) || takes CHUNK_GET t then Heard m t reply ∷ events_changed change older
    else Heard m (change t) reply ∷ older
events_changed change (event ∷ older) = event ∷ events_changed change older

-- It gets these bytes as its whole answer.
abbrev pub events_with : List ℕ → Events → Events
events_with answer = events_changed (turn_with answer)

-- Its answer was never seen.
abbrev pub events_unseen : Events → Events
events_unseen = events_changed turn_unseen

-- ---- An answer that was never seen, and that others came after.

-- All that is read off the events of a session, but its large responses, is the same.
pub record IsAlike (s e : Events) : Type 0 where
  pub live : is_live s ≡ is_live e
  pub negotiation : session_negotiation s ≡ session_negotiation e
  pub exchange : exchange_of s ≡ exchange_of e
  pub answer : exchange_answer s ≡ exchange_answer e
  pub stage : stage_of s ≡ stage_of e
  pub finish : finish_of s ≡ finish_of e
  pub finished : finish_answer s ≡ finish_answer e
  pub request_epoch : request_epoch s ≡ request_epoch e
  pub response_epoch : response_epoch s ≡ response_epoch e
  pub request_next : request_next s ≡ request_next e
  pub response_next : response_next s ≡ response_next e
  pub taken : taken_of s ≡ taken_of e
  pub last : last_of s ≡ last_of e
  pub held : data_of s ≡ data_of e
  pub idle : idle_of s ≡ idle_of e

-- And one answer less went by LargeResponse in the other one, while the same chunks are left to be given.
pub record IsUncounted (s e : Events) : Type 0 where
  pub alike : IsAlike s e
  pub large : large_answers.IsUncounted (session_terms s).common.to_requester.transfer (turns_of s) (turns_of e)
