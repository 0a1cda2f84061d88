-- A responder of a world goes on with one requester: what its run keeps of the whole world.
use Rattle.std.proofs.Common.{◌≡◌, ◌≢◌, ℕ, ◌≤◌, ◌+◌, List, ◌++◌, length, map, sym, ap, ◌∙◌, subst, inl, inr, arith}
use Rattle.key_schedule.specs.Purpose.{Purpose}
use Rattle.requester_machine.specs.History as asked
use Rattle.responder_machine.specs.History as served
use Rattle.responder_machine.specs.History.{History, draws_of}
use Rattle.responder_machine.specs.Setup.{RspSetup}
use Rattle.requester_machine.specs.Setup.{ReqSetup}
use Rattle.spdm_machine.specs.TagLog.{Act}
use Rattle.world_machine.specs.Agreement.{IsMade}
use Rattle.world_machine.specs.Chance.{NoChance}
use Rattle.requester_machine.specs.Requesting.{Requesting}
use Rattle.responder_machine.specs.Responding.{Connection, changed, changed_if, with_history, all_draws}
use Rattle.world_machine.specs.World.{World, SentPacket}
use Rattle.spdm_agreement.specs.Claims.{IsReached}
use Rattle.spdm_agreement.proofs.Worlds.Fits.{Apart, IsPair, IsServing, Fits, same_key, own_reach, others_reach}
use Rattle.responder_machine.proofs.Connected.{KeepsSetup, peers_stay, changed_keeps, origin, same_connection}
use Rattle.spdm_machine.proofs.Members.{IsIn, in_map, map_in}
use Rattle.spdm_agreement.proofs.Worlds.EndSteps.{OwnLeads}
use Rattle.spdm_agreement.proofs.Worlds.Owners.{own_made}
use Rattle.spdm_agreement.proofs.Worlds.Pairs.{state_of}
use Rattle.spdm_agreement.proofs.Messages.Beginnings.{reading_of}
use Rattle.spdm_agreement.specs.Story.{Past}

pub still_apart : (rs : List Requesting) (cs : List Connection) (f : Connection → Connection) → KeepsSetup f → Apart rs cs → Apart rs (map f cs)
still_apart rs cs f keeps apart = record {
  eids = apart.eids;
  keys = apart.keys;
  peers = peers_stay f cs keeps apart.peers;
  paired = λ c m. (let o = in_map f cs c m in
      let setup : c.setup ≡ o.0.setup = ap (λ (x : Connection). x.setup) o.2 ∙ keeps o.0 in
      let a = apart.paired o.0 o.1 in
      (a.0, a.1, ap (λ (s : RspSetup). s.peer) setup ∙ a.2, ap (λ (s : RspSetup). s.psk) setup ∙ a.3));
  served = λ a m. (let c = apart.served a m in (f c.0, map_in f cs c.0 c.1, ap (λ (s : RspSetup). s.peer) (keeps c.0) ∙ c.2));
}

-- ---- One connection goes on.

module _ (prior : Past) (KeptAsked : ReqSetup → asked.History → Type 0) (KeptServed : RspSetup → served.History → Type 0) (world : World) (k : Fits prior KeptAsked KeptServed world)
    (c : Connection) (is : IsIn world.responder.connections c) (given taken : List (List ℕ)) (change : History → History) (acts : List Act) (n : NoChance (acts ++ world.log)) where
  abbrev cs : List Connection
  cs = world.responder.connections

  abbrev next : List Connection
  next = with_history c.setup.peer change cs

  abbrev later : List SentPacket → World
  later sent = record { requesters = world.requesters; responder = record world.responder { given = given; taken = taken; connections = next }; sent = sent; log = acts ++ world.log }

  -- The run of this connection and its requester.
  abbrev Runs : Type 0
  Runs = (a : Requesting) → IsPair world.requesters cs a c → OwnLeads (reading_of c.setup.psk) (state_of prior a c world.log) (state_of prior a (changed change c) (acts ++ world.log))

  own_reached : (a : Requesting) → IsPair world.requesters cs a c → IsReached (reading_of c.setup.psk) (state_of prior a c world.log)
  own_reached a pair = subst (λ (psk : List ℕ). IsReached (reading_of psk) (state_of prior a c world.log)) (sym (same_key world.requesters cs k.apart a c pair)) (k.pairs a c pair)

  pub now_reached : Runs → (a : Requesting) → IsPair world.requesters cs a c → IsReached (reading_of c.setup.psk) (state_of prior a (changed change c) (acts ++ world.log))
  now_reached runs a pair = own_reach (reading_of c.setup.psk) (state_of prior a c world.log) (state_of prior a (changed change c) (acts ++ world.log)) (own_reached a pair) (runs a pair) n

  all_serve : all_draws cs ≤ all_draws next → IsServing prior KeptAsked KeptServed (world.responder.first + all_draws next) (changed change c) → (x : Connection) → IsIn next x → IsServing prior KeptAsked KeptServed (world.responder.first + all_draws next) x
  all_serve more well x m =
      let o = origin c.setup.peer change cs x m in
      elim o.same [
        | inl s ↦ subst (IsServing prior KeptAsked KeptServed (world.responder.first + all_draws next)) (sym (s.1 ∙ ap (changed change) (same_connection cs k.apart.peers o.old c o.is is s.0))) well
        | inr s ↦ (let old = k.serves o.old o.is in
            let fresh = old.fresh in
            subst (IsServing prior KeptAsked KeptServed (world.responder.first + all_draws next)) (sym s.1) (record { setup = old.setup; made = old.made; kept = old.kept; fresh = omega arith }))
      ]

  other_pair : Runs → (a : Requesting) (o : Connection) → IsPair world.requesters cs a o → o.setup.peer ≢ c.setup.peer → IsReached (reading_of a.setup.psk) (state_of prior a o (acts ++ world.log))
  other_pair runs a o pair differ =
      let b = k.apart.paired c is in
      let own : IsPair world.requesters cs b.0 c = record { requester = b.1; connection = is; peer = b.2 } in
      others_reach (reading_of c.setup.psk) (reading_of a.setup.psk) (state_of prior b.0 c world.log) (state_of prior b.0 (changed change c) (acts ++ world.log)) (state_of prior a o world.log).asked (state_of prior a o world.log).served
      (λ e. differ (pair.peer ∙ sym (b.2 ∙ ap (λ (y : Requesting). y.setup.eid) (k.apart.eids b.0 a b.1 pair.requester (k.apart.keys b.0 a b.1 pair.requester (sym b.3 ∙ e))))))
      (runs b.0 own)
      (k.pairs a o pair) n

  all_reached : Runs → (a : Requesting) (x : Connection) → IsPair world.requesters next a x → IsReached (reading_of a.setup.psk) (state_of prior a x (acts ++ world.log))
  all_reached runs a x pair =
      let o = origin c.setup.peer change cs x pair.connection in
      elim o.same [
        | inl s ↦ (let own = same_connection cs k.apart.peers o.old c o.is is s.0 in
            let new : x ≡ changed change c = s.1 ∙ ap (changed change) own in
            let its : IsPair world.requesters cs a c = record { requester = pair.requester; connection = is; peer = sym (ap (λ (y : Connection). y.setup.peer) new) ∙ pair.peer } in
            subst (λ (y : Connection). IsReached (reading_of a.setup.psk) (state_of prior a y (acts ++ world.log))) (sym new)
            (subst (λ (psk : List ℕ). IsReached (reading_of psk) (state_of prior a (changed change c) (acts ++ world.log))) (same_key world.requesters cs k.apart a c its) (now_reached runs a its)))
        | inr s ↦ subst (λ (y : Connection). IsReached (reading_of a.setup.psk) (state_of prior a y (acts ++ world.log))) (sym s.1)
            (other_pair runs a o.old (record { requester = pair.requester; connection = o.is; peer = sym (ap (λ (y : Connection). y.setup.peer) s.1) ∙ pair.peer }) s.0)
      ]

  all_owned : Runs → (p : Purpose) (i : List ℕ) → IsMade p i (acts ++ world.log) → (a : Requesting) × IsIn world.requesters a × (p.psk ≡ a.setup.psk)
  all_owned runs p i made =
      let b = k.apart.paired c is in
      let own : IsPair world.requesters cs b.0 c = record { requester = b.1; connection = is; peer = b.2 } in
      elim (own_made (reading_of c.setup.psk) (state_of prior b.0 c world.log) (state_of prior b.0 (changed change c) (acts ++ world.log)) p i (runs b.0 own) made) [
        | inl e ↦ (b.0, b.1, e ∙ b.3)
        | inr l ↦ k.owned p i l
      ]

  pub responder_goes : (sent : List SentPacket) → all_draws cs ≤ all_draws next → all_draws next ≤ length given → IsServing prior KeptAsked KeptServed (world.responder.first + all_draws next) (changed change c) → Runs → Fits prior KeptAsked KeptServed (later sent)
  responder_goes sent more wear well runs = record {
    apart = still_apart world.requesters cs (changed_if c.setup.peer change) (changed_keeps c.setup.peer change) k.apart;
    asks = k.asks;
    serves = all_serve more well;
    wear = wear;
    draws = k.draws;
    owned = all_owned runs;
    pairs = all_reached runs;
  }
