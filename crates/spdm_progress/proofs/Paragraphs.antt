-- A paragraph: a command that is told in a quiet world, and what follows it up to the next one.
use Rattle.std.proofs.Common.{◌≡◌, ◌∙◌, ◌==◌, ◌≤◌, ◌+◌, ℕ, List, [], ◌∷◌, ◌++◌, map, length, Option, Some, None, refl, sym, ap, subst, arith}
use Rattle.std.proofs.lemmas.Bool.{false≢true}
use Rattle.spdm_grammar.specs.declared.told.command_fault.CommandFault.{CommandFault}
use Rattle.spdm_grammar.specs.Lines.{Line}
use Rattle.spdm_machine.proofs.Members.{found_in, in_map, none_some}
use Rattle.requester_machine.specs.Message.{Command}
use Rattle.requester_machine.specs.Requesting.{Requesting, new_requesting, requester_told}
use Rattle.requester_machine.specs.Session as asked_session
use Rattle.requester_machine.specs.Setup.{ReqSetup}
use Rattle.responder_machine.specs.Setup.{RspSetup}
use Rattle.responder_machine.specs.Responding.{Connection, connection_of, new_connection}
use Rattle.spdm_agreement.specs.Configured.{IsConfigured}
use Rattle.spdm_machine.specs.Packets.{wear_limit}
use Rattle.world_machine.specs.Chance.{NoChance}
use Rattle.world_machine.specs.Happenings.{Entry}
use Rattle.world_machine.specs.Happenings.Happening.{Told}
use Rattle.world_machine.specs.Setup.{WorldSetup}
use Rattle.world_machine.specs.Trace.{lines_from, world_after, world_from}
use Rattle.world_machine.specs.World.{World, happens, new_world, requester_of, told}
use Rattle.spdm_progress.specs.Honest.{AreHonest, HaveNoCommand, NothingWaits}
use Rattle.spdm_progress.proofs.SomethingWaits.{something_waits}
use Rattle.spdm_progress.proofs.PacketSteps.{not_worn}
use Rattle.spdm_progress.specs.InStep.{AreQuiet}
use Rattle.spdm_progress.specs.Scripts.{CanDo, HaveTaken, IsDone, IsQuietWorld, Means, result_for}
use Rattle.spdm_progress.specs.SessionCommands.{LivesToAnswer, commanding, most_asked}
use Rattle.spdm_progress.proofs.Aside.{IsAside, OthersAreQuiet, both_aside, others_aside}
use Rattle.spdm_progress.proofs.Connected.{each_is_connected}
use Rattle.spdm_agreement.proofs.Worlds.AllEvents.{requester_in}
use Rattle.spdm_progress.proofs.Places.{AllDiffer}
use Rattle.spdm_progress.proofs.QuietCommands as commands
use Rattle.spdm_progress.proofs.QuietWorlds.{IsReady, OthersTook, always_differ, behind_ready, from_both, more_taken, others_of, others_took, quiet_with, refused_ready, refused_step, taken_with}
use Rattle.spdm_progress.proofs.SessionCompletes.{Idle, Rests, no_chance_from}
use Rattle.spdm_progress.proofs.Told.{are_placed, pair_of}

-- A command for requester n, with the number of its line, and what follows it up to the next command.
pub record Paragraph : Type 0 where
  pub line : ℕ
  pub n : ℕ
  pub command : Command
  pub behind : List Entry

abbrev pub entries_of : Paragraph → List Entry
entries_of p = record { line = p.line; happening = Told p.n p.command } ∷ p.behind

-- The world in which the command was told, the world after the paragraph, and the lines between.
abbrev pub told_in : World → Paragraph → World
told_in world p = commanding world p.line p.n p.command

abbrev pub world_behind : World → Paragraph → World
world_behind world p = world_from (told_in world p) p.behind

abbrev pub lines_behind : World → Paragraph → List Line
lines_behind world p = lines_from (told_in world p) p.behind

module _ (w : WorldSetup) (configured : IsConfigured w) (before : List Entry) (p : Paragraph) (most : ℕ) (ready : IsReady most (world_after w before)) where
  abbrev first_world : World
  first_world = world_after w before

  told_so : (o : Option Requesting) → requester_of p.n first_world ≡ o → told_in first_world p ≡ (told first_world p.n p.command o).after
  unfolding happens
  told_so o is = ap (λ (o : Option Requesting). (told first_world p.n p.command o).after) is

  differ_now : AllDiffer (map (λ (x : Requesting). x.setup.eid) (told_in first_world p).requesters)
  differ_now =
      subst (λ (z : World). AllDiffer (map (λ (x : Requesting). x.setup.eid) z.requesters)) (from_both (new_world w) before (record { line = p.line; happening = Told p.n p.command } ∷ []))
      (always_differ w configured (before ++ record { line = p.line; happening = Told p.n p.command } ∷ []))

  refused_now : (a : Requesting) (c : Connection) (f : CommandFault) → requester_of p.n first_world ≡ Some a → connection_of a.setup.eid first_world.responder.connections ≡ Some c → (requester_told a p.command).fault ≡ Some f → IsReady (most + 1) (told_in first_world p)
  refused_now a c f is connected fault =
      let now = told_so (Some a) is in
      subst (IsReady (most + 1)) (sym now)
      (refused_ready first_world p.n a c most (requester_told a p.command) (refused_step a p.command f fault) (subst (λ (z : World). AllDiffer (map (λ (x : Requesting). x.setup.eid) z.requesters)) now differ_now) ready is connected)

  nobody_now : requester_of p.n first_world ≡ None → IsReady most (told_in first_world p)
  nobody_now is = subst (IsReady most) (sym (told_so None is)) ready

  -- ---- Where no packet waits behind it, it was not answered `ok`.

  module _ (room : most + 1 ≤ wear_limit) (chance : NoChance first_world.log) (idle : NothingWaits (told_in first_world p)) where
    pub never_ok : (a : Requesting) (c : Connection) → requester_of p.n first_world ≡ Some a → connection_of a.setup.eid first_world.responder.connections ≡ Some c → (requester_told a p.command).fault ≡ None → ⊥
    never_ok a c is connected ok =
        let placed = are_placed w before p.n a c configured chance is connected in
        let unit = placed.ends.requester_unit in
        let own = ready.1.requesters p.n a is in
        something_waits first_world p.line p.n a p.command is (omega (arith, unit)) (not_worn (length a.given + a.commands) wear_limit (omega (arith, own, room))) (ready.0.quiet p.n a c is connected).none ok idle

    alone_by_fault : (a : Requesting) (c : Connection) → requester_of p.n first_world ≡ Some a → connection_of a.setup.eid first_world.responder.connections ≡ Some c → (o : Option CommandFault) → (requester_told a p.command).fault ≡ o → IsReady (most + 1) (told_in first_world p)
    alone_by_fault a c is connected (Some f) fault = refused_now a c f is connected fault
    alone_by_fault a c is connected None ok = absurd (never_ok a c is connected ok)

    alone_by : (o : Option Requesting) → requester_of p.n first_world ≡ o → IsReady (most + 1) (told_in first_world p)
    alone_by None is = (let k = nobody_now is in (k.0, more_taken most (most + 1) (told_in first_world p) (omega arith) k.1))
    alone_by (Some a) is = (let c = each_is_connected w configured before chance p.n a is in alone_by_fault a c.0 is c.1 (requester_told a p.command).fault refl)

    pub alone_ready : IsReady (most + 1) (told_in first_world p)
    alone_ready = alone_by (requester_of p.n first_world) refl

module _ (w : WorldSetup) (configured : IsConfigured w) (before : List Entry) (p : Paragraph) (most : ℕ) (room : most + most_asked ≤ wear_limit) (ready : IsReady most (world_after w before)) (none : HaveNoCommand p.behind)
    (honest : AreHonest (told_in (world_after w before) p) p.behind) (still : Rests p.n (told_in (world_after w before) p) p.behind) (chance : NoChance (world_behind (world_after w before) p).log) where
  abbrev world : World
  world = world_after w before

  -- The world after the paragraph is one that events lead to.
  reached : world_after w (before ++ entries_of p) ≡ world_behind world p
  reached = from_both (new_world w) before (entries_of p)

  differ_then : AllDiffer (map (λ (x : Requesting). x.setup.eid) (world_behind world p).requesters)
  differ_then = subst (λ (z : World). AllDiffer (map (λ (x : Requesting). x.setup.eid) z.requesters)) reached (always_differ w configured (before ++ entries_of p))

  abbrev Done : Requesting → Connection → Type 0
  Done a c = IsDone p.n a.setup c.setup (result_for a c p.command) (world_behind world p) (lines_behind world p)

  -- The others are quiet, and have taken no more than before.
  abbrev Others : ℕ → World → Type 0
  Others eid z = OthersAreQuiet eid z × OthersTook eid most z

  others_now : (eid : ℕ) → Others eid world
  others_now eid = (others_of eid world ready.0, record { took = λ n a other is. ready.1.requesters n a is })

  lives : (a : Requesting) → requester_of p.n world ≡ Some a → LivesToAnswer a world.responder
  lives a is =
      let own = ready.1.requesters p.n a is in
      let other = ready.1.responder in
      record { requester = omega (arith, own, room); responder = omega (arith, other, room) }

  abbrev Ended : Requesting → Connection → Type 0
  Ended a c = Done a c × Idle world p.n a (Others a.setup.eid) (world_behind world p)

  beside_of : (a : Requesting) (c : Connection) → requester_of p.n world ≡ Some a → connection_of a.setup.eid world.responder.connections ≡ Some c → IsAside (pair_of p.n a c) (Others a.setup.eid)
  beside_of a c is connected =
      let placed = are_placed w before p.n a c configured (no_chance_from world (entries_of p) chance) is connected in
      let pair = pair_of p.n a c in
      both_aside pair (OthersAreQuiet a.setup.eid) (OthersTook a.setup.eid most) (others_aside pair placed.ends.peer) (others_took pair most)

  over : (a : Requesting) (c : Connection) (is : requester_of p.n world ≡ Some a) (connected : connection_of a.setup.eid world.responder.connections ≡ Some c) → (requester_told a p.command).fault ≡ None
      → commands.IsOver w before p.n a c p.line p.behind none (Others a.setup.eid) (beside_of a c is connected) (others_now a.setup.eid) p.command
  over a c is connected ok = record {
    told = record {
      now = record { configured = configured; idle = ready.0.idle; is_requester = is; is_connection = connected; life = lives a is };
      quiet = ready.0.quiet p.n a c is connected;
      accepted = ok;
    };
    honest = honest;
    still = still;
    chance = chance;
  }

  accepted : (a : Requesting) (c : Connection) → requester_of p.n world ≡ Some a → connection_of a.setup.eid world.responder.connections ≡ Some c → (requester_told a p.command).fault ≡ None → CanDo a c p.command → Ended a c
  accepted a c is connected ok can =
      commands.each w before p.n a c p.line p.behind none (Others a.setup.eid) (beside_of a c is connected) (others_now a.setup.eid) p.command can (over a c is connected ok)

  done_quiet : (a : Requesting) (c : Connection) → Ended a c → IsQuietWorld (world_behind world p)
  done_quiet a c x =
      let d = x.0 in
      let b = d.requester in
      let e = d.connection in
      let eid = ap (λ (q : ReqSetup). q.eid) d.requester_setup in
      quiet_with (world_behind world p) p.n b e differ_then x.1.idle d.is_requester
      (ap (λ (k : ℕ). connection_of k (world_behind world p).responder.connections) eid ∙ d.is_connection)
      (subst (λ (r : RspSetup). AreQuiet b.setup r b.first (world_behind world p).log b.history e.history) (sym d.responder_setup)
      (subst (λ (q : ReqSetup). AreQuiet q c.setup b.first (world_behind world p).log b.history e.history) (sym d.requester_setup) d.quiet))
      (subst (λ (k : ℕ). OthersAreQuiet k (world_behind world p)) (sym eid) x.1.aside.0)

  done_taken : (a : Requesting) (c : Connection) → requester_of p.n world ≡ Some a → Ended a c → HaveTaken (most + most_asked) (world_behind world p)
  done_taken a c is x =
      let d = x.0 in
      let own = ready.1.requesters p.n a is in
      let other = ready.1.responder in
      let took = x.1.takes (most + most_asked) room (omega (arith, own)) (omega (arith, other)) in
      taken_with (world_behind world p) p.n d.requester (most + most_asked) differ_then d.is_requester (took.0 d.requester d.is_requester)
      (subst (λ (k : ℕ). OthersTook k (most + most_asked) (world_behind world p)) (sym (ap (λ (q : ReqSetup). q.eid) d.requester_setup))
      (record { took = λ m b other is_b. (let least = x.1.aside.1.took m b other is_b in omega (arith, least)) })) took.1

  -- ---- Where it is refused, or is for nobody.

  with_more : (k : ℕ) → k ≤ most + most_asked → IsReady k (world_behind world p) → IsReady (most + most_asked) (world_behind world p)
  with_more k up r = (r.0, more_taken k (most + most_asked) (world_behind world p) up r.1)

  refused : (a : Requesting) (c : Connection) (f : CommandFault) → requester_of p.n world ≡ Some a → connection_of a.setup.eid world.responder.connections ≡ Some c → (requester_told a p.command).fault ≡ Some f → IsReady (most + most_asked) (world_behind world p)
  refused a c f is connected fault = with_more (most + 1) (omega arith) (behind_ready (most + 1) (told_in world p) p.behind none honest (refused_now w configured before p most ready a c f is connected fault))

  nobody : requester_of p.n world ≡ None → IsReady (most + most_asked) (world_behind world p)
  nobody is = with_more most (omega arith) (behind_ready most (told_in world p) p.behind none honest (nobody_now w configured before p most ready is))

  -- ---- One paragraph.

  abbrev Can : Type 0
  Can = (a : Requesting) (c : Connection) → requester_of p.n world ≡ Some a → connection_of a.setup.eid world.responder.connections ≡ Some c → (requester_told a p.command).fault ≡ None → CanDo a c p.command

  by_fault : Can → (a : Requesting) (c : Connection) → requester_of p.n world ≡ Some a → connection_of a.setup.eid world.responder.connections ≡ Some c → (o : Option CommandFault) → (requester_told a p.command).fault ≡ o → IsReady (most + most_asked) (world_behind world p)
  by_fault can a c is connected None ok = (let x = accepted a c is connected ok (can a c is connected ok) in (done_quiet a c x, done_taken a c is x))
  by_fault can a c is connected (Some f) fault = refused a c f is connected fault

  by_requester : Can → (o : Option Requesting) → requester_of p.n world ≡ o → IsReady (most + most_asked) (world_behind world p)
  by_requester can None is = nobody is
  by_requester can (Some a) is =
      let c = each_is_connected w configured before (no_chance_from world (entries_of p) chance) p.n a is in
      by_fault can a c.0 is c.1 (requester_told a p.command).fault refl

  pub paragraph_ready : Can → IsReady (most + most_asked) (world_behind world p)
  paragraph_ready can = by_requester can (requester_of p.n world) refl

  pub paragraph_done : Can → (a : Requesting) (c : Connection) → requester_of p.n world ≡ Some a → connection_of a.setup.eid world.responder.connections ≡ Some c → (requester_told a p.command).fault ≡ None
      → Done a c × Means p.n a c p.command (world_behind world p) (lines_behind world p)
  paragraph_done can a c is connected ok = (
    (accepted a c is connected ok (can a c is connected ok)).0,
    commands.means w before p.n a c p.line p.behind none (Others a.setup.eid) (beside_of a c is connected) (others_now a.setup.eid) p.command (can a c is connected ok) (over a c is connected ok),
  )

-- ---- The beginning.

new_quiet : (q : ReqSetup) (r : RspSetup) (first : ℕ) → AreQuiet q r first [] [] []
unfolding asked_session.session_of
new_quiet q r first = record {
  made = tt;
  made_there = tt;
  none = refl;
  phase = refl;
  negotiation = refl;
  earlier = record { kept = λ k is x d fits sound context whole above below. absurd (none_some k is) };
  sessions = λ id live. absurd (false≢true live);
  apart = λ i j differ live_i live_j. absurd (false≢true live_i);
}

starts_quiet : (w : WorldSetup) → IsQuietWorld (new_world w)
starts_quiet w = record {
  idle = refl;
  quiet = λ n a c is connected.
      let o = in_map new_requesting w.requesters a (requester_in n (new_world w) a is) in
      let m = in_map (new_connection w.responder.part) w.responder.known c (found_in (λ (d : Connection). d.setup.peer == a.setup.eid) (new_world w).responder.connections c connected).0 in
      subst (λ (x : Connection). AreQuiet a.setup x.setup a.first [] a.history x.history) (sym m.2)
      (subst (λ (x : Requesting). AreQuiet x.setup (new_connection w.responder.part m.0).setup x.first [] x.history []) (sym o.2) (new_quiet (new_requesting o.0).setup (new_connection w.responder.part m.0).setup (new_requesting o.0).first));
}

starts_taken : (w : WorldSetup) → HaveTaken 0 (new_world w)
starts_taken w = record {
  requesters = λ n a is.
      let o = in_map new_requesting w.requesters a (requester_in n (new_world w) a is) in
      subst (λ (x : Requesting). length x.given + x.commands ≤ 0) (sym o.2) (omega arith);
  responder = omega arith;
}

-- A new world is quiet, and nothing was taken in it.
pub starts_ready : (w : WorldSetup) → IsReady 0 (new_world w)
starts_ready w = (starts_quiet w, starts_taken w)
