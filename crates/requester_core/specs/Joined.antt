-- A requester as the program represents it, with every free value handed in, and what comes of a command and of a body.
use Rattle.std.specs.Prelude.{◌≡◌, ◌∷◌, ℕ, List, Bool, true, false, Option, Some, None, Result, Ok, Err}
use Rattle.requester_core.specs.Gathering.{Gathers}
use Rattle.requester_core.specs.Sessions as sessions
use Rattle.requester_core.specs.ClearState as clear_state
use Rattle.requester_core.specs.declared.command.Command as declared
use Rattle.requester_core.specs.declared.command.Command.TheVariants as tell
use Rattle.requester_core.specs.declared.joined.RequesterCore.{RequesterCore}
use Rattle.requester_core.specs.declared.reaction.Reaction.{Reaction}
use Rattle.requester_machine.specs.Asking.{Outcome}
use Rattle.requester_machine.specs.Asking.Outcome.{Fails}
use Rattle.requester_machine.specs.History.{Entry, History, outstanding}
use Rattle.requester_machine.specs.Message.{Ask, Command, Sent, body_of}
use Rattle.requester_machine.specs.Message.Aim.{InSession}
use Rattle.requester_machine.specs.Message.Command.{Beat, Connect, End, Measure, Open, Retry, Send, Update}
use Rattle.requester_machine.specs.Setup.{ReqSetup}
use Rattle.requester_machine.specs.Shown.{after, event_of, fault_of, sent_by}
use Rattle.spdm_grammar.specs.declared.told.command_fault.CommandFault.{CommandFault}
use Rattle.spdm_grammar.specs.declared.told.event.Event.{Event}
use Rattle.spdm_grammar.specs.declared.told.event.Event.TheVariants as event
use Rattle.spdm_grammar.specs.declared.told.event.Finished.TheVariants as finished

-- ---- What is kept.

-- It is kept of this history, which a requester with this set-up made under some free values: the clear part, the
-- sessions, and what is gathered of a large response.
pub record StandsFor (seen : RequesterCore) (q : ReqSetup) (h : History) : Type 0 where
  pub clear_state : clear_state.StandsFor seen.clear_state q h
  pub sessions : sessions.StandsFor seen.sessions q h
  pub gathers : Gathers q (outstanding h) seen.gathered

-- ---- Commands.

-- A command as the program is told it.
abbrev pub command_of : declared.Command → Command
command_of tell.Connect = Connect
command_of (tell.Open summary) = Open summary
command_of (tell.Send session bytes) = Send session bytes.now
command_of (tell.Beat session) = Beat session
command_of (tell.Update session all) = Update session all
command_of (tell.Measure session op) = Measure session op
command_of (tell.End session) = End session
command_of tell.Retry = Retry

-- It is done: the message that the outcome sends has this tag and this body, and what is kept is that of the history
-- after it.
pub record IsDone (q : ReqSetup) (h : History) (outcome : Outcome) (tag : ℕ) (body : List ℕ)
    (new : RequesterCore) : Type 0 where
  pub sent : Sent
  pub fault : fault_of outcome ≡ None
  pub sends : sent_by outcome ≡ Some sent
  pub tag_is : sent.tag ≡ tag
  pub body_is : body ≡ body_of sent.content
  pub stands : StandsFor new q (after h outcome)

-- Or it fails, and what is kept is that of the same history.
abbrev pub IsCommanded : ReqSetup → History → Outcome → Result ℕ CommandFault → (body : List ℕ)
    → (new : RequesterCore) → Type 0
IsCommanded q h outcome (Ok tag) body new = IsDone q h outcome tag body new
IsCommanded q h outcome (Err fault) body new = (outcome ≡ Fails fault) × StandsFor new q h

-- ---- Bodies.

-- What is sent next, if anything is, has this tag and this body.
abbrev pub IsSentAs : Option Sent → Option ℕ → (body : List ℕ) → Type 0
IsSentAs None None body = Unit {0}
IsSentAs (Some sent) (Some tag) body = (sent.tag ≡ tag) × (body ≡ body_of sent.content)
IsSentAs _ _ body = ⊥

-- This is reported, and nothing is sent.
abbrev pub told : Event → Reaction
told event = record { event = event; tag = None }

-- A message with this tag is sent.
abbrev pub sent : ℕ → Reaction
sent tag = record { event = event.Progress; tag = Some tag }

-- What is reported and sent of a body is what the outcome tells and sends, and what is kept is that of the history
-- after it.
pub record IsAnswered (q : ReqSetup) (h : History) (outcome : Outcome) (reaction : Reaction)
    (body : List ℕ) (new : RequesterCore) : Type 0 where
  pub event : event_of outcome ≡ Some reaction.event
  pub sends : IsSentAs (sent_by outcome) reaction.tag body
  pub stands : StandsFor new q (after h outcome)

-- The sessions are those of the history with an entry, and the clear part is that of the history without it.
pub record IsBeside (seen : RequesterCore) (q : ReqSetup) (h : History) (entry : Entry) : Type 0 where
  pub clear_state : clear_state.StandsFor seen.clear_state q h
  pub sessions : sessions.StandsFor seen.sessions q (entry ∷ h)
  pub max : seen.gathered.max ≡ q.max

-- The outstanding message asks this of the session with this ReqSessionID.
pub record IsAsked (h : History) (waits : Sent) (id : ℕ) (ask : Ask) : Type 0 where
  pub outstanding : outstanding h ≡ Some waits
  pub aims : waits.aim ≡ InSession id ask

-- Application data or a measurement record came with what is told.
abbrev pub is_bringing : Event → Bool
is_bringing (event.Done (finished.Answered id)) = true
is_bringing (event.Done (finished.Measured number)) = true
is_bringing _ = false
