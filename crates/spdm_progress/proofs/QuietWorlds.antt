-- Quiet worlds: what an honest script says between commands leaves them so, and so does a command that is refused.
use Rattle.std.proofs.Common.{◌≡◌, ◌≢◌, ◌∙◌, ℕ, ◌+◌, ◌==◌, ◌≤◌, List, [], ◌∷◌, ◌++◌, map, find, length, Bool, true, false, cond, Option, Some, None, refl, sym, ap, subst, inl, inr, eq-eqb, eqb-true, arith}
use Rattle.std.proofs.lemmas.Bool.{false≢true}
use Rattle.spdm_grammar.specs.declared.told.command_fault.CommandFault.{CommandFault}
use Rattle.spdm_grammar.specs.declared.told.heard.ReplyFault.{ReplyFault}
use Rattle.spdm_machine.specs.TagLog.{Log}
use Rattle.spdm_machine.proofs.Members.{none_some, some_same}
use Rattle.requester_machine.specs.Asking.{Outcome}
use Rattle.requester_machine.specs.Asking.Outcome.{Adds, Fails, Ignores, Resends, Warns}
use Rattle.requester_machine.specs.Does.{requester_asks}
use Rattle.requester_machine.specs.History.Entry.{Told as WasTold, TookClear, TookRecord}
use Rattle.requester_machine.specs.Message.{Command}
use Rattle.requester_machine.specs.Requesting as asking
use Rattle.requester_machine.specs.Requesting.{Requesting, CommandStep, commanded_by, requester_told, worn_command}
use Rattle.responder_machine.specs.Responding.{Connection, Responding, connection_of, queues, reply_fault_of, ticks}
use Rattle.spdm_agreement.specs.Configured.{IsConfigured, setups_of}
use Rattle.world_machine.specs.Happenings.{Entry, Happening}
use Rattle.world_machine.specs.Happenings.Happening.{Told, Reply, Deliver, Lose, Inject, Pump, Tick, Show}
use Rattle.world_machine.specs.Setup.{WorldSetup}
use Rattle.world_machine.specs.Trace.{world_after, world_from}
use Rattle.world_machine.specs.World.{World, entry_step, first_waiting, happens, is_at, replied, requester_of, told_by, with_requester}
use Rattle.spdm_progress.specs.Honest.{AreHonest, HaveNoCommand, IsHonest, NothingWaits, is_command}
use Rattle.spdm_progress.specs.InStep.{AreQuiet}
use Rattle.spdm_progress.specs.Scripts.{HaveTaken, IsQuietWorld}
use Rattle.spdm_progress.proofs.Aside.{IsAside, OthersAreQuiet, quiet_between, same_requester, was_requester}
use Rattle.spdm_progress.proofs.Between.{IsStill, pumps_done}
use Rattle.spdm_progress.proofs.PacketSteps.{Pair}
use Rattle.spdm_progress.proofs.Placed.{always_placed}
use Rattle.spdm_progress.proofs.Places.{AllDiffer, first_is, of_new}
use Rattle.spdm_progress.proofs.Told.{differ_all}
use Rattle.spdm_progress.proofs.Waiting.{none_more}

-- ---- Runs of entries, one behind another.

pub from_both : (world : World) (first second : List Entry) → world_from world (first ++ second) ≡ world_from (world_from world first) second
from_both world [] second = refl
from_both world (entry ∷ first) second = from_both (entry_step world entry).after first second

-- ---- Between commands.

still_quiet : (world : World) (r : Responding) → IsStill world r → IsQuietWorld world → IsQuietWorld (record world { responder = r })
still_quiet world r still k = record {
  idle = k.idle;
  quiet = λ n a c is connected.
      quiet_between world r still a c connected (λ d was. k.quiet n a d (same_requester n world (record world { responder = r }) a refl is) was) (connection_of a.setup.eid world.responder.connections) refl;
}

-- What queued data and time keep, where no packet waits.
module _ (Kept : World → Type 0) (idle : (world : World) → Kept world → NothingWaits world) (still : (world : World) (r : Responding) → IsStill world r → Kept world → Kept (record world { responder = r })) where
  replied_kept : (world : World) (bytes : List ℕ) (o : Option Requesting) → Kept world → Kept (replied world bytes o).after
  replied_kept world bytes None k = k
  replied_kept world bytes (Some b) k = still world _ (inl (b.setup.eid, bytes, refl)) k

  event_kept : (world : World) (event : Happening) → is_command event ≡ false → IsHonest world event → Kept world → Kept (happens world event).after
  unfolding happens
  event_kept world (Told n command) other honest k = absurd (false≢true (sym other))
  event_kept world (Reply n bytes) other honest k = replied_kept world bytes (requester_of n world) k
  event_kept world (Deliver number) other honest k = absurd honest
  event_kept world (Lose number) other honest k = absurd honest
  event_kept world (Inject bytes) other honest k = absurd honest
  event_kept world (Pump count) other honest k = pumps_done Kept idle count world k
  event_kept world (Tick seconds) other honest k = still world (ticks world.responder seconds) (inr (seconds, honest, refl)) k
  event_kept world Show other honest k = k

  behind_kept : (world : World) (entries : List Entry) → HaveNoCommand entries → AreHonest world entries → Kept world → Kept (world_from world entries)
  behind_kept world [] none honest k = k
  behind_kept world (entry ∷ entries) none honest k = behind_kept (entry_step world entry).after entries none.1 honest.1 (event_kept world entry.happening none.0 honest.0 k)

-- ---- How much each end has taken.

pub more_taken : (most more : ℕ) (world : World) → most ≤ more → HaveTaken most world → HaveTaken more world
more_taken most more world up t = record {
  requesters = λ n a is. (let k = t.requesters n a is in omega (arith, k, up));
  responder = (let k = t.responder in omega (arith, k, up));
}

queued_given : (r : Responding) (eid : ℕ) (bytes : List ℕ) (fault : Option ReplyFault) → (queues fault r eid bytes).given ≡ r.given
queued_given r eid bytes (Some fault) = refl
queued_given r eid bytes None = refl

given_still : (world : World) (r : Responding) → IsStill world r → r.given ≡ world.responder.given
given_still world r (inl x) = ap (λ (s : Responding). s.given) x.2 ∙ queued_given world.responder x.0 x.1 (reply_fault_of (connection_of x.0 world.responder.connections) x.1)
given_still world r (inr x) = ap (λ (s : Responding). s.given) x.2

-- A quiet world in which each end has taken so much at most.
abbrev pub IsReady : ℕ → World → Type 0
IsReady most world = IsQuietWorld world × HaveTaken most world

still_ready : (most : ℕ) (world : World) (r : Responding) → IsStill world r → IsReady most world → IsReady most (record world { responder = r })
still_ready most world r still k = (
  still_quiet world r still k.0,
  record {
    requesters = λ n a is. k.1.requesters n a (same_requester n world (record world { responder = r }) a refl is);
    responder = subst (λ (given : List (List ℕ)). length given ≤ most) (sym (given_still world r still)) k.1.responder;
  },
)

pub behind_ready : (most : ℕ) (world : World) (entries : List Entry) → HaveNoCommand entries → AreHonest world entries → IsReady most world → IsReady most (world_from world entries)
behind_ready most world entries none honest k = behind_kept (IsReady most) (λ z k. k.0.idle) (still_ready most) world entries none honest k

-- The requesters at other endpoints have taken so much at most.
pub record OthersTook (eid most : ℕ) (world : World) : Type 0 where
  pub took : (n : ℕ) (a : Requesting) → a.setup.eid ≢ eid → requester_of n world ≡ Some a → length a.given + a.commands ≤ most

pub others_took : (p : Pair) (most : ℕ) → IsAside p (OthersTook p.requester.eid most)
others_took p most = record {
  requester = λ world new sent acts same k. record {
    took = λ n a other is. k.took n a other (was_requester n new world (record { requesters = with_requester new world.requesters; responder = world.responder; sent = sent; log = acts ++ world.log }) a refl (λ e. other (e ∙ same)) is);
  };
  responder = λ world r sent acts change is_change k. record {
    took = λ n a other is. k.took n a other (same_requester n world (record { requesters = world.requesters; responder = r; sent = sent; log = acts ++ world.log }) a refl is);
  };
  packets = λ world r sent same k. record {
    took = λ n a other is. k.took n a other (same_requester n world (record { requesters = world.requesters; responder = r; sent = sent; log = world.log }) a refl is);
  };
  still = λ world r s k. record { took = λ n a other is. k.took n a other (same_requester n world (record world { responder = r }) a refl is) };
}

-- Where one has taken so much at most, and all others, each end has.
one_took : (world : World) (n m : ℕ) (a b : Requesting) (most : ℕ) → AllDiffer (map (λ (x : Requesting). x.setup.eid) world.requesters) → requester_of n world ≡ Some a → length a.given + a.commands ≤ most → OthersTook a.setup.eid most world → requester_of m world ≡ Some b
    → (same : Bool) → (b.setup.eid == a.setup.eid) ≡ same → length b.given + b.commands ≤ most
one_took world n m a b most differ is own others is_b true same =
    let e = eqb-true b.setup.eid a.setup.eid same in
    let one : a ≡ b = some_same a b (sym (first_is n world a is differ) ∙ ap (λ (eid : ℕ). find (is_at eid) world.requesters) (sym e) ∙ first_is m world b is_b differ) in
    subst (λ (x : Requesting). length x.given + x.commands ≤ most) one own
one_took world n m a b most differ is own others is_b false other = others.took m b (λ e. false≢true (sym other ∙ eq-eqb b.setup.eid a.setup.eid e)) is_b

pub taken_with : (world : World) (n : ℕ) (a : Requesting) (most : ℕ) → AllDiffer (map (λ (x : Requesting). x.setup.eid) world.requesters) → requester_of n world ≡ Some a → length a.given + a.commands ≤ most → OthersTook a.setup.eid most world → length world.responder.given ≤ most
    → HaveTaken most world
taken_with world n a most differ is own others responder = record {
  requesters = λ m b is_b. one_took world n m a b most differ is own others is_b (b.setup.eid == a.setup.eid) refl;
  responder = responder;
}

-- ---- One requester apart from the others.

-- Where all others are quiet, and this one too, the world is.
one_of_all : (world : World) (n m : ℕ) (a b : Requesting) (c d : Connection) → AllDiffer (map (λ (x : Requesting). x.setup.eid) world.requesters) → requester_of n world ≡ Some a → connection_of a.setup.eid world.responder.connections ≡ Some c
    → AreQuiet a.setup c.setup a.first world.log a.history c.history → OthersAreQuiet a.setup.eid world → requester_of m world ≡ Some b → connection_of b.setup.eid world.responder.connections ≡ Some d → (same : Bool) → (b.setup.eid == a.setup.eid) ≡ same
    → AreQuiet b.setup d.setup b.first world.log b.history d.history
one_of_all world n m a b c d differ is connected quiet others is_b connected_b true same =
    let e = eqb-true b.setup.eid a.setup.eid same in
    let one : a ≡ b = some_same a b (sym (first_is n world a is differ) ∙ ap (λ (eid : ℕ). find (is_at eid) world.requesters) (sym e) ∙ first_is m world b is_b differ) in
    let connection : c ≡ d = some_same c d (sym connected ∙ ap (λ (eid : ℕ). connection_of eid world.responder.connections) (sym e) ∙ connected_b) in
    subst (λ (x : Connection). AreQuiet b.setup x.setup b.first world.log b.history x.history) connection (subst (λ (x : Requesting). AreQuiet x.setup c.setup x.first world.log x.history c.history) one quiet)
one_of_all world n m a b c d differ is connected quiet others is_b connected_b false other = others.quiet m b d (λ e. false≢true (sym other ∙ eq-eqb b.setup.eid a.setup.eid e)) is_b connected_b

pub quiet_with : (world : World) (n : ℕ) (a : Requesting) (c : Connection) → AllDiffer (map (λ (x : Requesting). x.setup.eid) world.requesters) → NothingWaits world → requester_of n world ≡ Some a → connection_of a.setup.eid world.responder.connections ≡ Some c
    → AreQuiet a.setup c.setup a.first world.log a.history c.history → OthersAreQuiet a.setup.eid world → IsQuietWorld world
quiet_with world n a c differ idle is connected quiet others = record {
  idle = idle;
  quiet = λ m b d is_b connected_b. one_of_all world n m a b c d differ is connected quiet others is_b connected_b (b.setup.eid == a.setup.eid) refl;
}

pub others_of : (eid : ℕ) (world : World) → IsQuietWorld world → OthersAreQuiet eid world
others_of eid world k = record { quiet = λ n a c other is connected. k.quiet n a c is connected }

-- In every world of a set-up the endpoints differ.
pub always_differ : (w : WorldSetup) → IsConfigured w → (before : List Entry) → AllDiffer (map (λ (x : Requesting). x.setup.eid) (world_after w before).requesters)
always_differ w configured before = subst AllDiffer (sym (always_placed w configured before).eids_are) (differ_all (setups_of w.requesters) configured.apart)

-- ---- A command that is refused.

-- It changes the count of commands at most.
pub record IsRefusedStep (a : Requesting) (step : CommandStep) : Type 0 where
  pub count : ℕ
  pub few : count ≤ a.commands + 1
  pub after : step.after ≡ record a { commands = count }
  pub sent : step.sent ≡ []
  pub acts : step.acts ≡ []

refused_by : (a : Requesting) (f : CommandFault) (o : Outcome) → (commanded_by a o).fault ≡ Some f → IsRefusedStep a (commanded_by a o)
refused_by a f (Fails fault) is = record { count = a.commands + 1; few = omega arith; after = refl; sent = refl; acts = refl }
refused_by a f (Ignores cause) is = absurd (none_some f is)
refused_by a f (Warns code) is = absurd (none_some f is)
refused_by a f (Resends sent) is = absurd (none_some f is)
refused_by a f (Adds (WasTold command sent d)) is = absurd (none_some f is)
refused_by a f (Adds (TookClear tag m led d)) is = absurd (none_some f is)
refused_by a f (Adds (TookRecord tag id sealed inner led d)) is = absurd (none_some f is)

refused_worn : (a : Requesting) (command : Command) (f : CommandFault) (b : Bool) → asking.is_worn a ≡ b → (requester_told a command).fault ≡ Some f → IsRefusedStep a (requester_told a command)
unfolding requester_told
refused_worn a command f true worn is =
    subst (IsRefusedStep a) (ap (λ (b : Bool). cond b (worn_command a (requester_asks true a.setup a.history command (asking.next_draw a))) (commanded_by a (requester_asks false a.setup a.history command (asking.next_draw a)))) (sym worn))
    (record { count = a.commands; few = omega arith; after = refl; sent = refl; acts = refl })
refused_worn a command f false fresh is =
    let o = requester_asks false a.setup a.history command (asking.next_draw a) in
    let step = ap (λ (b : Bool). cond b (worn_command a (requester_asks true a.setup a.history command (asking.next_draw a))) (commanded_by a o)) fresh in
    subst (IsRefusedStep a) (sym step) (refused_by a f o (sym (ap (λ (s : CommandStep). s.fault) step) ∙ is))

pub refused_step : (a : Requesting) (command : Command) (f : CommandFault) → (requester_told a command).fault ≡ Some f → IsRefusedStep a (requester_told a command)
refused_step a command f is = refused_worn a command f (asking.is_worn a) refl is

-- The requester as it was, for all but the count.
abbrev recounted : Requesting → ℕ → Requesting
recounted a count = record a { commands = count }

abbrev refused_world : World → ℕ → Requesting → ℕ → Option CommandFault → World
refused_world world n a count fault = (told_by world n (record { fault = fault; sent = []; acts = []; after = recounted a count })).after

-- A quiet world stays quiet, and no more is taken than a command.
told_refused : (world : World) (n : ℕ) (a : Requesting) (c : Connection) (count most : ℕ) (fault : Option CommandFault) → count ≤ a.commands + 1 → AllDiffer (map (λ (x : Requesting). x.setup.eid) (refused_world world n a count fault).requesters) → IsReady most world
    → requester_of n world ≡ Some a → connection_of a.setup.eid world.responder.connections ≡ Some c → IsReady (most + 1) (refused_world world n a count fault)
told_refused world n a c count most fault few differ k is connected =
    let later = refused_world world n a count fault in
    let now = of_new n (recounted a count) world later a refl is refl in
    let own = k.1.requesters n a is in
    let other = k.1.responder in (
      quiet_with later n (recounted a count) c differ (ap first_waiting (none_more world.sent) ∙ k.0.idle) now connected (k.0.quiet n a c is connected)
          (record { quiet = λ m b d other is_b connected_b. k.0.quiet m b d (was_requester m (recounted a count) world later b refl other is_b) connected_b }),
      taken_with later n (recounted a count) (most + 1) differ now (omega (arith, own, few))
          (record { took = λ m b other is_b. (let least = k.1.requesters m b (was_requester m (recounted a count) world later b refl other is_b) in omega (arith, least)) }) (omega (arith, other)),
    )

pub refused_ready : (world : World) (n : ℕ) (a : Requesting) (c : Connection) (most : ℕ) (step : CommandStep) → IsRefusedStep a step → AllDiffer (map (λ (x : Requesting). x.setup.eid) (told_by world n step).after.requesters) → IsReady most world → requester_of n world ≡ Some a
    → connection_of a.setup.eid world.responder.connections ≡ Some c → IsReady (most + 1) (told_by world n step).after
refused_ready world n a c most step is_refused differ k is connected =
    let same : step ≡ record { fault = step.fault; sent = []; acts = []; after = recounted a is_refused.count } =
    ap (λ (packets : List (List ℕ)). record step { sent = packets }) is_refused.sent
    ∙ ap (λ (acts : Log). record step { sent = []; acts = acts }) is_refused.acts
    ∙ ap (λ (b : Requesting). record step { sent = []; acts = []; after = b }) is_refused.after in
    subst (λ (s : CommandStep). IsReady (most + 1) (told_by world n s).after) (sym same)
    (told_refused world n a c is_refused.count most step.fault is_refused.few (subst (λ (s : CommandStep). AllDiffer (map (λ (x : Requesting). x.setup.eid) (told_by world n s).after.requesters)) same differ) k is connected)
