-- Queued data and time change nothing in the clear, so a pair of ends is as it was.
use Rattle.std.proofs.Common.{◌≡◌, ◌∙◌, ℕ, ◌≤◌, ◌+◌, ◌==◌, List, [], ◌∷◌, length, map, Bool, true, false, cond, Option, Some, None, refl, sym, ap, subst, inl, inr}
use Rattle.std.specs.Prelude.{if◌then◌else◌}
use Rattle.spdm_grammar.specs.declared.told.heard.ReplyFault.{ReplyFault}
use Rattle.spdm_machine.specs.Packets.{wear_limit}
use Rattle.spdm_machine.proofs.Members.{none_some, some_same}
use Rattle.requester_machine.specs.History as asked
use Rattle.responder_machine.proofs.Connected.{KeepsSetup, changed_keeps}
use Rattle.responder_machine.specs.History as served
use Rattle.responder_machine.specs.History.Entry.{Queued, Ticked}
use Rattle.responder_machine.specs.Responding.{Connection, Responding, connection_of, changed, changed_if, queues, reply_fault_of, ticks}
use Rattle.responder_machine.specs.Setup.{RspSetup, RspPart}
use Rattle.world_machine.specs.World.{World}
use Rattle.spdm_progress.proofs.Between.{IsStill}
use Rattle.spdm_progress.proofs.PacketSteps.{Pair, At, server}
use Rattle.spdm_progress.proofs.Places.{of_same}
use Rattle.spdm_progress.proofs.ResponderBegins.{SameClear, queued_same, ticked_same}

-- ---- A responder that changes nothing in the clear.

pub record KeepsClear (p : Pair) (old new : Responding) : Type 0 where
  pub part : new.part ≡ old.part
  pub given : new.given ≡ old.given
  pub connection : (h : served.History) → connection_of p.requester.eid old.connections ≡ Some (server p h) → (g : served.History) × SameClear h g × (connection_of p.requester.eid new.connections ≡ Some (server p g))

pub same_clear : (h : served.History) → SameClear h h
same_clear h = record { phase = refl; negotiation = refl; kept = refl }

found_by : (eid : ℕ) (f : Connection → Connection) → KeepsSetup f → (d : Connection) (others : List Connection) (c : Connection) (b : Bool) → (d.setup.peer == eid) ≡ b → (if b then Some d else connection_of eid others) ≡ Some c
    → (connection_of eid others ≡ Some c → connection_of eid (map f others) ≡ Some (f c)) → (if b then Some (f d) else connection_of eid (map f others)) ≡ Some (f c)
found_by eid f keeps d others c true e is next = ap (λ (x : Connection). let o : Option Connection = Some (f x) in o) (some_same d c is)
found_by eid f keeps d others c false e is next = next is

pub found_mapped : (eid : ℕ) (f : Connection → Connection) → KeepsSetup f → (cs : List Connection) (c : Connection) → connection_of eid cs ≡ Some c → connection_of eid (map f cs) ≡ Some (f c)
found_mapped eid f keeps [] c is = absurd (none_some c is)
found_mapped eid f keeps (d ∷ others) c is =
    ap (λ (s : RspSetup). if s.peer == eid then Some (f d) else connection_of eid (map f others)) (keeps d)
    ∙ found_by eid f keeps d others c (d.setup.peer == eid) refl is (found_mapped eid f keeps others c)

-- A change of the history of one connection.
changed_where : (p : Pair) (bytes : List ℕ) (h : served.History) (b : Bool) → (g : served.History) × SameClear h g × (cond b (changed (λ x. Queued bytes ∷ x) (server p h)) (server p h) ≡ server p g)
changed_where p bytes h true = (Queued bytes ∷ h, queued_same h bytes, refl)
changed_where p bytes h false = (h, same_clear h, refl)

queues_clear : (p : Pair) (r : Responding) (eid : ℕ) (bytes : List ℕ) (fault : Option ReplyFault) → KeepsClear p r (queues fault r eid bytes)
queues_clear p r eid bytes (Some fault) = record { part = refl; given = refl; connection = λ h is. (h, same_clear h, is) }
queues_clear p r eid bytes None = record {
  part = refl;
  given = refl;
  connection = λ h is. (let x = changed_where p bytes h (p.responder.peer == eid) in (
    x.0,
    x.1,
    found_mapped p.requester.eid (changed_if eid (λ g. Queued bytes ∷ g)) (changed_keeps eid (λ g. Queued bytes ∷ g)) r.connections (server p h) is ∙ ap (λ (c : Connection). let o : Option Connection = Some c in o) x.2,
  ));
}

ticks_clear : (p : Pair) (r : Responding) (seconds : ℕ) → KeepsClear p r (ticks r seconds)
ticks_clear p r seconds = record {
  part = refl;
  given = refl;
  connection = λ h is. (Ticked seconds ∷ h, ticked_same h seconds, found_mapped p.requester.eid (changed (λ g. Ticked seconds ∷ g)) (λ c. refl) r.connections (server p h) is);
}

-- What holds of a history holds of one that is alike in the clear.
abbrev pub IsStable : (served.History → Type 0) → Type 0
IsStable P = (old new : served.History) → SameClear old new → P old → P new

abbrev pub at_moved : (p : Pair) (k l : ℕ) (Asked : asked.History → Type 0) (Served : served.History → Type 0) (world : World) (r : Responding) → KeepsClear p world.responder r → IsStable Served → At p k l Asked Served world → At p k l Asked Served (record world { responder = r })
at_moved p k l Asked Served world r keeps stable at =
    let x = keeps.connection at.served at.is_connection in record {
      given = at.given;
      commands = at.commands;
      asked = at.asked;
      served = x.0;
      is_requester = of_same p.number world _ _ refl at.is_requester;
      found = at.found;
      number_is = at.number_is;
      is_connection = x.2;
      own = ap (λ (part : RspPart). part.eid) keeps.part ∙ at.own;
      asks = at.asks;
      serves = stable at.served x.0 x.1 at.serves;
      life = at.life;
      responder_life = subst (λ (given : List (List ℕ)). length given + l ≤ wear_limit) (sym keeps.given) at.responder_life;
    }

-- What an honest script makes of a responder between two commands is clear so.
pub still_clear : (p : Pair) (world : World) (r : Responding) → IsStill world r → KeepsClear p world.responder r
still_clear p world r (inl x) = subst (KeepsClear p world.responder) (sym x.2) (queues_clear p world.responder x.0 x.1 (reply_fault_of (connection_of x.0 world.responder.connections) x.1))
still_clear p world r (inr x) = subst (KeepsClear p world.responder) (sym x.2) (ticks_clear p world.responder x.0)
