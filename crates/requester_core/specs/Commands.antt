-- What comes of a command.
use Rattle.std.specs.Prelude.{◌≡◌, ◌∷◌, ℕ, List, false, Option, None, Some, Result, Ok, Err}
use Rattle.requester_core.specs.Gathering.{Gathers}
use Rattle.requester_core.specs.ClearState as clear_state
use Rattle.requester_core.specs.declared.clear.resend.Resend.{Resend}
use Rattle.requester_core.specs.declared.clear.resend.Resend.TheVariants as again
use Rattle.chunking.specs.Keeping as keeping
use Rattle.requester_machine.specs.Asking.{asks}
use Rattle.requester_machine.specs.Asking.Outcome.{Adds, Fails, Resends}
use Rattle.requester_machine.specs.Commands.{Free, exchange_for}
use Rattle.requester_machine.specs.History.{History}
use Rattle.requester_machine.specs.History.Entry.{Told}
use Rattle.requester_machine.specs.Message.{Ask, Command, Sent, asked_in}
use Rattle.requester_machine.specs.Message.Aim.{InSession}
use Rattle.requester_machine.specs.Message.Command.{Connect, Measure, Open, Retry}
use Rattle.requester_machine.specs.Message.Content.{Clear}
use Rattle.requester_machine.specs.Setup.{ReqSetup}
use Rattle.spdm_grammar.specs.Message.{RequestMessage}
use Rattle.spdm_grammar.specs.Message.RequestMessage.{GetMeasurements, GetVersion}
use Rattle.spdm_grammar.specs.declared.told.command_fault.CommandFault.{CommandFault}
use Rattle.spdm_machine.specs.Keys.{Draw}

-- The request in the clear that a command asks, if it asks one.
abbrev pub request_for : ReqSetup → Command → Free → Option RequestMessage
request_for q Connect f = Some GetVersion
request_for q (Open summary) f = Some (exchange_for q f summary)
request_for q (Measure None op) f = Some (GetMeasurements op)
request_for q _ f = None

-- The command is done: a message in the clear is sent with this tag and written, which asks for no chunk, and what is
-- kept is that of the history after it.
pub record IsDone (q : ReqSetup) (h : History) (command : Command) (f : Free) (d : Draw) (tag : ℕ)
    (new : clear_state.Seen) (out : List ℕ) : Type 0 where
  pub sent : Sent
  pub outcome : asks false q h command f d ≡ Adds (Told command sent d)
  pub tag_is : sent.tag ≡ tag
  pub content : sent.content ≡ Clear out
  pub asks : asked_in sent.aim ≡ request_for q command f
  pub stands : clear_state.StandsFor new q (Told command sent d ∷ h)
  pub gathers : (gathered : keeping.Kept) → gathered.max ≡ q.max → Gathers q (Some sent) gathered

-- The command fails, and nothing changes.
pub record IsFailed (q : ReqSetup) (h : History) (command : Command) (f : Free) (d : Draw) (fault
    : CommandFault) (old new : clear_state.Seen) : Type 0 where
  pub outcome : asks false q h command f d ≡ Fails fault
  pub same : new ≡ old

-- The one or the other. What makes an end worn is tested before it.
abbrev pub IsTold : ReqSetup → History → Command → Free → Draw → Result ℕ CommandFault
    → (old new : clear_state.Seen) → (out : List ℕ) → Type 0
IsTold q h command f d (Ok tag) old new out = IsDone q h command f d tag new out
IsTold q h command f d (Err fault) old new out = IsFailed q h command f d fault old new

-- The outstanding message is resent, with this tag.
pub record IsResent (q : ReqSetup) (h : History) (f : Free) (d : Draw) (tag : ℕ) : Type 0 where
  pub sent : Sent
  pub outcome : asks false q h Retry f d ≡ Resends sent
  pub tag_is : sent.tag ≡ tag

-- It is a record of the session with this ReqSessionID.
abbrev pub IsOfSession : (id : ℕ) → Sent → Type 0
IsOfSession id sent = (ask : Ask) × (sent.aim ≡ InSession id ask)

-- It is a message in the clear, which is written; or a record of a session; or there is none.
abbrev pub IsRetried : ReqSetup → History → Free → Draw → Result Resend CommandFault
    → (out : List ℕ) → Type 0
IsRetried q h f d (Ok (again.InClear tag)) out = (r : IsResent q h f d tag)
    × (r.sent.content ≡ Clear out)
IsRetried q h f d (Ok (again.InSession tag id)) out = (r : IsResent q h f d tag)
    × IsOfSession id r.sent
IsRetried q h f d (Err fault) out = asks false q h Retry f d ≡ Fails fault
