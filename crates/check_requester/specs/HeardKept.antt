-- What is kept after an answer that a requester hears. This project's own.
use Rattle.std.specs.Prelude.{◌≡◌, ◌==◌, ℕ, List, Bool, true, false, Some, is_some, slice_index}
use Rattle.requester_core.specs.Joined.{StandsFor}
use Rattle.requester_core.specs.declared.joined.RequesterCore.{RequesterCore}
use Rattle.requester_machine.specs.Hearing.{hears}
use Rattle.requester_machine.specs.History as requester_history
use Rattle.requester_machine.specs.History.{outstanding}
use Rattle.requester_machine.specs.Message.{Aim, Sent, body_of}
use Rattle.requester_machine.specs.Message.Aim.{InSession}
use Rattle.requester_machine.specs.Order.{stage_for}
use Rattle.requester_machine.specs.Setup.{ReqSetup}
use Rattle.requester_machine.specs.Shown.{after, event_of, sent_by}
use Rattle.responder_machine.specs.History.{History}
use Rattle.responder_machine.specs.Responder.{is_open}
use Rattle.spdm_grammar.specs.declared.names.request_code.TheConstants.{CHUNK_GET}
use Rattle.check_laws.specs.Keeping.{Kept, kept_of, restored}
use Rattle.check_laws.specs.RepliesShown.{answered, heard_from, no_values}
use Rattle.capture_machine.specs.LargeAnswers.{asks_chunk, is_fetching, is_for_chunk}
use Rattle.capture_machine.specs.Rounds.{Round, no_draw}

-- An answer in this round, after which the responder has this history: the requester heard it.
abbrev pub heard_kept : Kept → History → ℕ → Round → (answer : List ℕ) → Kept
heard_kept k behind tag round answer = kept_of (record (restored k) {
  requester = heard_from k tag answer;
  responder = behind;
  round = Some (answered round);
})

-- A requester with this history heard a body under a tag, and whether a message is sent in response to it, which has
-- this body.
pub record IsHeardAs (q : ReqSetup) (h : requester_history.History) (tag : ℕ) (body : List ℕ) (sends : Bool) (new : RequesterCore) (out : List ℕ) : Type 0 where
  pub stands : StandsFor new q (after h (hears q h false tag body no_values no_draw))
  pub told : is_some (event_of (hears q h false tag body no_values no_draw)) ≡ true
  pub sent : sends ≡ is_some (sent_by (hears q h false tag body no_values no_draw))
  pub room : (sent : Sent) → sent_by (hears q h false tag body no_values no_draw) ≡ Some sent → out ≡ body_of sent.content

-- A message that is sent on an answer shows whether it asks for a chunk: in the clear by its code, and in a session by
-- the stage of that.
abbrev pub ShowsChunk : Aim → (body : List ℕ) → Type 0
ShowsChunk (InSession id ask) body = is_open (stage_for ask) ≡ asks_chunk ask
ShowsChunk aim body = (slice_index body 2 == CHUNK_GET) ≡ is_for_chunk aim

-- On an answer the requester asks for a chunk.
abbrev pub asks_upon : Kept → ℕ → (answer : List ℕ) → Bool
asks_upon k tag answer = is_fetching (outstanding (heard_from k tag answer))
