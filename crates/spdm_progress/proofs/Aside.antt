-- What stands aside while one pair of ends talks: the other requesters and their connections.
use Rattle.std.proofs.Common.{◌≡◌, ◌≢◌, ◌∙◌, ℕ, zero, suc, ◌==◌, List, [], ◌∷◌, ◌++◌, map, Bool, true, false, cond, Option, Some, None, refl, sym, ap, subst, inl, inr}
use Rattle.std.specs.Prelude.{if◌then◌else◌}
use Rattle.requester_machine.specs.Requesting.{Requesting}
use Rattle.responder_machine.proofs.Connected.{KeepsSetup, changed_keeps}
use Rattle.responder_machine.proofs.Others.{found, kept}
use Rattle.responder_machine.specs.History as served
use Rattle.responder_machine.specs.History.Entry.{Queued, Ticked}
use Rattle.responder_machine.specs.Responding.{Connection, Responding, changed, changed_if, connection_of, queues, reply_fault_of, with_history}
use Rattle.responder_machine.specs.Setup.{RspSetup}
use Rattle.spdm_grammar.specs.declared.told.heard.ReplyFault.{ReplyFault}
use Rattle.spdm_machine.specs.TagLog.{Log}
use Rattle.spdm_machine.proofs.Members.{none_some, some_same}
use Rattle.world_machine.specs.World.{World, SentPacket, requester_at, requester_of, with_requester}
use Rattle.spdm_progress.specs.InStep.{AreQuiet}
use Rattle.spdm_progress.proofs.Between.{IsStill}
use Rattle.spdm_progress.proofs.PacketSteps.{Pair, server}
use Rattle.spdm_progress.proofs.RecordRounds.{quiet_longer, quiet_still}
use Rattle.spdm_progress.proofs.StillKept.{KeepsAlike, still_alike}

-- What no step of a pair takes away: the requester or the connection of the pair changes, packets are sent or given, tags
-- are computed; or queued data and time come between.
pub record IsAside (p : Pair) (Aside : World → Type 0) : Type 0 where
  pub requester : (world : World) (new : Requesting) (sent : List SentPacket) (acts : Log) → new.setup.eid ≡ p.requester.eid → Aside world
      → Aside (record { requesters = with_requester new world.requesters; responder = world.responder; sent = sent; log = acts ++ world.log })
  pub responder : (world : World) (r : Responding) (sent : List SentPacket) (acts : Log) (change : served.History → served.History) → r.connections ≡ with_history p.responder.peer change world.responder.connections → Aside world
      → Aside (record { requesters = world.requesters; responder = r; sent = sent; log = acts ++ world.log })
  pub packets : (world : World) (r : Responding) (sent : List SentPacket) → r.connections ≡ world.responder.connections → Aside world → Aside (record { requesters = world.requesters; responder = r; sent = sent; log = world.log })
  pub still : (world : World) (r : Responding) → IsStill world r → Aside world → Aside (record world { responder = r })

-- Nothing is asked of the others.
pub nothing_aside : (p : Pair) → IsAside p (λ world. Unit {0})
nothing_aside p = record { requester = λ world new sent acts same k. tt; responder = λ world r sent acts change same k. tt; packets = λ world r sent same k. tt; still = λ world r s k. tt }

-- ---- All others are quiet.

pub record OthersAreQuiet (eid : ℕ) (world : World) : Type 0 where
  pub quiet : (n : ℕ) (a : Requesting) (c : Connection) → a.setup.eid ≢ eid → requester_of n world ≡ Some a → connection_of a.setup.eid world.responder.connections ≡ Some c → AreQuiet a.setup c.setup a.first world.log a.history c.history

-- A requester that is not the new one was there before.
was_first : (new old a : Requesting) (b : Bool) → (old.setup.eid == new.setup.eid) ≡ b → a.setup.eid ≢ new.setup.eid → Some (cond b new old) ≡ Some a → Some old ≡ Some a
was_first new old a true e other is = absurd (other (ap (λ (x : Requesting). x.setup.eid) (sym (some_same new a is))))
was_first new old a false e other is = is

was_at : (place : ℕ) (new : Requesting) (rs : List Requesting) (a : Requesting) → a.setup.eid ≢ new.setup.eid → requester_at place (with_requester new rs) ≡ Some a → requester_at place rs ≡ Some a
was_at place new [] a other is = is
was_at zero new (old ∷ others) a other is = was_first new old a (old.setup.eid == new.setup.eid) refl other is
was_at (suc place) new (old ∷ others) a other is = was_at place new others a other is

pub was_requester : (n : ℕ) (new : Requesting) (world later : World) (a : Requesting) → later.requesters ≡ with_requester new world.requesters → a.setup.eid ≢ new.setup.eid → requester_of n later ≡ Some a → requester_of n world ≡ Some a
was_requester zero new world later a moved other is = is
was_requester (suc place) new world later a moved other is = was_at place new world.requesters a other (sym (ap (requester_at place) moved) ∙ is)

pub same_requester : (n : ℕ) (world later : World) (a : Requesting) → later.requesters ≡ world.requesters → requester_of n later ≡ Some a → requester_of n world ≡ Some a
same_requester zero world later a same is = is
same_requester (suc place) world later a same is = sym (ap (requester_at place) same) ∙ is

-- Queued data and time make no connection.
none_by : (eid : ℕ) (f : Connection → Connection) → KeepsSetup f → (d : Connection) (others : List Connection) (b : Bool) → (if b then Some d else connection_of eid others) ≡ None → (connection_of eid others ≡ None → connection_of eid (map f others) ≡ None)
    → (if b then Some (f d) else connection_of eid (map f others)) ≡ None
none_by eid f keeps d others true is next = absurd (none_some d (sym is))
none_by eid f keeps d others false is next = next is

none_mapped : (eid : ℕ) (f : Connection → Connection) → KeepsSetup f → (cs : List Connection) → connection_of eid cs ≡ None → connection_of eid (map f cs) ≡ None
none_mapped eid f keeps [] is = refl
none_mapped eid f keeps (d ∷ others) is =
    ap (λ (s : RspSetup). if s.peer == eid then Some (f d) else connection_of eid (map f others)) (keeps d)
    ∙ none_by eid f keeps d others (d.setup.peer == eid) is (none_mapped eid f keeps others)

none_queued : (eid other : ℕ) (bytes : List ℕ) (r : Responding) (fault : Option ReplyFault) → connection_of eid r.connections ≡ None → connection_of eid (queues fault r other bytes).connections ≡ None
none_queued eid other bytes r (Some fault) is = is
none_queued eid other bytes r None is = none_mapped eid (changed_if other (λ h. Queued bytes ∷ h)) (changed_keeps other (λ h. Queued bytes ∷ h)) r.connections is

none_between : (world : World) (r : Responding) → IsStill world r → (eid : ℕ) → connection_of eid world.responder.connections ≡ None → connection_of eid r.connections ≡ None
none_between world r (inl x) eid is = subst (λ (s : Responding). connection_of eid s.connections ≡ None) (sym x.2) (none_queued eid x.0 x.1 world.responder (reply_fault_of (connection_of x.0 world.responder.connections) x.1) is)
none_between world r (inr x) eid is = subst (λ (s : Responding). connection_of eid s.connections ≡ None) (sym x.2) (none_mapped eid (changed (λ h. Ticked x.0 ∷ h)) (λ c. refl) world.responder.connections is)

-- A connection after queued data and time was there before, alike.
pub quiet_between : (world : World) (r : Responding) → IsStill world r → (a : Requesting) (c : Connection) → connection_of a.setup.eid r.connections ≡ Some c
    → ((d : Connection) → connection_of a.setup.eid world.responder.connections ≡ Some d → AreQuiet a.setup d.setup a.first world.log a.history d.history) → (o : Option Connection) → connection_of a.setup.eid world.responder.connections ≡ o → AreQuiet a.setup c.setup a.first world.log a.history c.history
quiet_between world r still a c is quiet None was = absurd (none_some c (sym (none_between world r still a.setup.eid was) ∙ is))
quiet_between world r still a c is quiet (Some d) was =
    let p : Pair = record { number = 0; requester = a.setup; responder = d.setup; seed = a.seed; first = a.first } in
    let keeps : KeepsAlike p world.responder r = still_alike p (found a.setup.eid world.responder.connections d was) world r still in
    let x = keeps.connection d.history was in
    let same : c ≡ server p x.0 = some_same c (server p x.0) (sym is ∙ x.2) in
    subst (λ (y : Connection). AreQuiet a.setup y.setup a.first world.log a.history y.history) (sym same) (quiet_still a.setup d.setup a.first world.log a.history d.history x.0 x.1 (quiet d was))

pub others_aside : (p : Pair) → p.responder.peer ≡ p.requester.eid → IsAside p (OthersAreQuiet p.requester.eid)
others_aside p peer = record {
  requester = λ world new sent acts same k. record {
    quiet = λ n a c other is connected.
        quiet_longer a.setup c.setup a.first acts world.log a.history c.history
        (k.quiet n a c other (was_requester n new world (record { requesters = with_requester new world.requesters; responder = world.responder; sent = sent; log = acts ++ world.log }) a refl (λ e. other (e ∙ same)) is) connected);
  };
  responder = λ world r sent acts change is_change k. record {
    quiet = λ n a c other is connected.
        quiet_longer a.setup c.setup a.first acts world.log a.history c.history
        (k.quiet n a c other (same_requester n world (record { requesters = world.requesters; responder = r; sent = sent; log = acts ++ world.log }) a refl is)
        (sym (ap (connection_of a.setup.eid) is_change ∙ kept a.setup.eid p.responder.peer change world.responder.connections (λ e. other (sym e ∙ peer))) ∙ connected));
  };
  packets = λ world r sent same k. record {
    quiet = λ n a c other is connected.
        k.quiet n a c other (same_requester n world (record { requesters = world.requesters; responder = r; sent = sent; log = world.log }) a refl is) (sym (ap (connection_of a.setup.eid) same) ∙ connected);
  };
  still = λ world r still k. record {
    quiet = λ n a c other is connected.
        quiet_between world r still a c connected (λ d was. k.quiet n a d other (same_requester n world (record world { responder = r }) a refl is) was) (connection_of a.setup.eid world.responder.connections) refl;
  };
}

-- Two of these at once.
pub both_aside : (p : Pair) (First Second : World → Type 0) → IsAside p First → IsAside p Second → IsAside p (λ world. First world × Second world)
both_aside p First Second a b = record {
  requester = λ world new sent acts same k. (a.requester world new sent acts same k.0, b.requester world new sent acts same k.1);
  responder = λ world r sent acts change is k. (a.responder world r sent acts change is k.0, b.responder world r sent acts change is k.1);
  packets = λ world r sent same k. (a.packets world r sent same k.0, b.packets world r sent same k.1);
  still = λ world r s k. (a.still world r s k.0, b.still world r s k.1);
}
