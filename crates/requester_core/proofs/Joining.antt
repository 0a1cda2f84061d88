-- What comes of a command and of a body at a requester of both parts.
use Rattle.std.proofs.Common.{refl, ◌≡◌, ◌∙◌, ◌∷◌, ℕ, List, true, false, Option, Some, None, ap, sym, subst}
use Rattle.requester_machine.proofs.Entries as entries
use Rattle.psk_session.specs.AskLaws.{command_at}
use Rattle.psk_session.specs.declared.session_request.SessionRequest as declared
use Rattle.psk_session.specs.declared.session_request.SessionRequest.TheVariants as ask
use Rattle.requester_machine.proofs.HoldsTold.{told_sent}
use Rattle.requester_machine.specs.Asking.{Outcome, asks, asks_by, done}
use Rattle.requester_machine.specs.Asking.Outcome.{Adds, Fails, Resends}
use Rattle.requester_machine.specs.Commands.{Free, command_fault}
use Rattle.requester_machine.specs.History.{History, asks_session, outstanding}
use Rattle.requester_machine.specs.History.Entry.{Told}
use Rattle.requester_machine.specs.Message.{Ask, Command, Content, Sent, body_of}
use Rattle.requester_machine.specs.Message.Aim.{InSession}
use Rattle.requester_machine.specs.Message.Ask.{AskBeat, AskData, AskEnd, AskMeasure, AskUpdate}
use Rattle.requester_machine.specs.Message.Command.{Retry}
use Rattle.requester_machine.specs.Message.Content.{Clear}
use Rattle.requester_machine.specs.Setup.{ReqSetup}
use Rattle.requester_machine.specs.Shown.{after, fault_of, sent_by}
use Rattle.spdm_grammar.specs.declared.told.command_fault.CommandFault.{CommandFault}
use Rattle.spdm_machine.specs.Bodies.{clear_body, record_body}
use Rattle.spdm_machine.specs.Keys.{Draw}
use Rattle.requester_core.specs.Commands as commands
use Rattle.requester_core.specs.InSession.{SendsRecord}
use Rattle.requester_core.specs.Joined.{IsDone, StandsFor}
use Rattle.requester_core.specs.SessionSteps.{IsRecordOf}
use Rattle.requester_core.specs.Sessions as sessions
use Rattle.requester_core.specs.ClearState as clear_state
use Rattle.requester_core.specs.declared.joined.RequesterCore.{RequesterCore}
use Rattle.requester_machine.proofs.Telling.{resent_is}

-- ---- What goes out.

-- The body of a record.
pub record_out : (content : Content) (bytes out : List ℕ) → IsRecordOf bytes content → out ≡ record_body bytes → out ≡ body_of content
record_out content bytes out is outs = outs ∙ sym (ap body_of is.2)

-- The body of a message in the clear.
pub clear_out : (content : Content) (message out : List ℕ) → content ≡ Clear message → out ≡ clear_body message → out ≡ body_of content
clear_out content message out is outs = outs ∙ sym (ap body_of is)

-- ---- Commands.

module _ (q : ReqSetup) (h : History) (command : Command) (f : Free) (d : Draw) (tag : ℕ) (out : List ℕ) (after_it : RequesterCore) where
  -- It sends this.
  done_with : (sent : Sent) → asks false q h command f d ≡ Adds (Told command sent d) → sent.tag ≡ tag → out ≡ body_of sent.content → StandsFor after_it q (Told command sent d ∷ h) → IsDone q h (asks false q h command f d) tag out after_it
  done_with sent outcome tags body stands = record {
    sent = sent;
    fault = ap fault_of outcome;
    sends = ap sent_by outcome;
    tag_is = tags;
    body_is = body;
    stands = subst (λ (o : Outcome). StandsFor after_it q (after h o)) (sym outcome) stands;
  }

  -- In the clear.
  pub clear_done : (message : List ℕ) → commands.IsDone q h command f d tag after_it.clear_state message → out ≡ clear_body message
      → ((sent : Sent) → asks false q h command f d ≡ Adds (Told command sent d) → clear_state.StandsFor after_it.clear_state q (Told command sent d ∷ h) → sessions.StandsFor after_it.sessions q (Told command sent d ∷ h)) → after_it.gathered.max ≡ q.max
      → IsDone q h (asks false q h command f d) tag out after_it
  clear_done message done outs behind max =
      done_with done.sent done.outcome done.tag_is (clear_out done.sent.content message out done.content outs)
      (record { clear_state = done.stands; sessions = behind done.sent done.outcome done.stands; gathers = done.gathers after_it.gathered max })

  -- In a session.
  pub record_done : (sent : Sent) (bytes : List ℕ) → asks false q h command f d ≡ Adds (Told command sent d) → SendsRecord q (Told command sent d ∷ h) sent tag after_it.clear_state → IsRecordOf bytes sent.content → out ≡ record_body bytes
      → sessions.StandsFor after_it.sessions q (Told command sent d ∷ h) → after_it.gathered.max ≡ q.max → IsDone q h (asks false q h command f d) tag out after_it
  record_done sent bytes outcome sends is outs behind max =
      done_with sent outcome sends.tag_is (record_out sent.content bytes out is outs)
      (record { clear_state = sends.stands; sessions = behind; gathers = sends.gathers after_it.gathered max })

-- The outstanding message is resent.
pub resent_done : (q : ReqSetup) (h : History) (outcome : Outcome) (tag : ℕ) (out : List ℕ) (x : RequesterCore) (sent : Sent) → outcome ≡ Resends sent → sent.tag ≡ tag → out ≡ body_of sent.content → StandsFor x q h → IsDone q h outcome tag out x
resent_done q h outcome tag out x sent is tags body stands = record {
  sent = sent;
  fault = ap fault_of is;
  sends = ap sent_by is;
  tag_is = tags;
  body_is = body;
  stands = subst (λ (o : Outcome). StandsFor x q (after h o)) (sym is) stands;
}

-- ---- Faults.

asks_is : (q : ReqSetup) (h : History) (command : Command) (f : Free) (d : Draw) → asks false q h command f d ≡ asks_by q h command f d (command_fault false q h command f)
unfolding asks
asks_is q h command f d = refl

pub asks_it : (id : ℕ) (a : declared.SessionRequest) → asks_session (command_at id a) ≡ true
asks_it id (ask.Data bytes) = refl
asks_it id ask.Beat = refl
asks_it id ask.UpdateKey = refl
asks_it id ask.UpdateAll = refl
asks_it id (ask.Measure op) = refl
asks_it id ask.End = refl

-- ---- What is asked of a session.

-- The command asks it in a record of the session.
pub ask_aims : (q : ReqSetup) (h : History) (f : Free) (d : Draw) (id : ℕ) (a : declared.SessionRequest) (sent : Sent) → asks false q h (command_at id a) f d ≡ Adds (Told (command_at id a) sent d) → (x : Ask) × (sent.aim ≡ InSession id x)
ask_aims q h f d id a sent adds = aims_by a (entries.asked false q h (command_at id a) f d (Told (command_at id a) sent d) adds).1
  where
    of : (command : Command) (y : Sent) (x : Ask) → y.aim ≡ InSession id x → Adds (Told command y d) ≡ Adds (Told command sent d) → (x : Ask) × (sent.aim ≡ InSession id x)
    of command y x aims is = (x, ap (λ (s : Sent). s.aim) (sym (told_sent command y sent d is)) ∙ aims)

    aims_by : (b : declared.SessionRequest) → done q h (command_at id b) f d ≡ Adds (Told (command_at id b) sent d) → (x : Ask) × (sent.aim ≡ InSession id x)
    aims_by (ask.Data bytes) is = of _ _ AskData refl is
    aims_by ask.Beat is = of _ _ AskBeat refl is
    aims_by ask.UpdateKey is = of _ _ (AskUpdate false) refl is
    aims_by ask.UpdateAll is = of _ _ (AskUpdate true) refl is
    aims_by (ask.Measure op) is = of _ _ (AskMeasure op) refl is
    aims_by ask.End is = of _ _ AskEnd refl is

-- What is resent is outstanding.
pub resent_waits : (q : ReqSetup) (h : History) (f : Free) (d : Draw) (sent : Sent) → asks false q h Retry f d ≡ Resends sent → outstanding h ≡ Some sent
resent_waits q h f d sent is = by_fault (command_fault false q h Retry f) (sym (asks_is q h Retry f d) ∙ is)
  where
    by_fault : (fault : Option CommandFault) → asks_by q h Retry f d fault ≡ Resends sent → outstanding h ≡ Some sent
    by_fault (Some fault) other = absurd (cc other)
    by_fault None same = resent_is sent (outstanding h) same

-- A command in the clear that fails leaves the clear part as it was.
pub clear_fails : (q : ReqSetup) (h : History) (command : Command) (f : Free) (d : Draw) (fault : CommandFault) (old : RequesterCore) (seen : clear_state.Seen) (message : List ℕ) → commands.IsFailed q h command f d fault old.clear_state seen → StandsFor old q h
    → (asks false q h command f d ≡ Fails fault) × StandsFor (record { clear_state = seen; gathered = old.gathered; sessions = old.sessions; message = message }) q h
clear_fails q h command f d fault old seen message failed stands =
    (failed.outcome, record { clear_state = subst (λ (s : clear_state.Seen). clear_state.StandsFor s q h) (sym failed.same) stands.clear_state; sessions = stands.sessions; gathers = stands.gathers })
