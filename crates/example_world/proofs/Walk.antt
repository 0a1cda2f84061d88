-- The packets that wait are given one after the other.
use Rattle.std.proofs.Common.{◌≡◌, ◌==◌, ◌∙◌, ◌++◌, ℕ, suc, List, [], ◌∷◌, ap, cond, find, length, nat_lt, Bool, true, false, Option, Some, None, slice_index}
use Rattle.requester_machine.specs.Requesting.{PacketStep, Requesting, requester_given}
use Rattle.responder_machine.specs.Responding.{Responding, RspStep, responder_hears}
use Rattle.spdm_machine.specs.TagLog.{Log}
use Rattle.world_machine.specs.World.{SentPacket, World, behind, delivers, first_waiting, given_to, given_to_requester, given_to_responder, is_at, number_at, packet_of, pumps, stopped_of, turn, with_sent, without_waiting}

-- A world of one requester.
abbrev pub at : Requesting → Responding → List SentPacket → Log → World
at a r sent log = record { requesters = a ∷ []; responder = r; sent = sent; log = log }

-- The packet of this number is the first that waits, and it is for the responder.
pub record Comes (r : Responding) (sent : List SentPacket) (k : ℕ) (p : List ℕ) : Type 0 where
  pub first : first_waiting sent ≡ Some k
  pub packet : packet_of k sent ≡ Some p
  pub long : nat_lt (length p) 2 ≡ false
  pub mine : (slice_index p 1 == r.part.eid) ≡ true

-- Or it is for the requester, which stays at its endpoint.
pub record Goes (a : Requesting) (r : Responding) (sent : List SentPacket) (k : ℕ) (p : List ℕ) (st : PacketStep) : Type 0 where
  pub first : first_waiting sent ≡ Some k
  pub packet : packet_of k sent ≡ Some p
  pub long : nat_lt (length p) 2 ≡ false
  pub other : (slice_index p 1 == r.part.eid) ≡ false
  pub named : (a.setup.eid == slice_index p 1) ≡ true
  pub same : (a.setup.eid == st.after.setup.eid) ≡ true

module _ (n : ℕ) (a : Requesting) (r : Responding) (sent : List SentPacket) (log : Log) (k : ℕ) (p : List ℕ) where
  abbrev now : World
  now = without_waiting k (at a r sent log)

  abbrev by_length : Bool → Bool → World
  by_length short mine =
      (behind (cond short (given_to now p None) (cond mine (given_to_responder now p (responder_hears r p)) (given_to now p (find (is_at (slice_index p 1)) (a ∷ []))))) (pumps n)).after

  turned : first_waiting sent ≡ Some k → packet_of k sent ≡ Some p → nat_lt (length p) 2 ≡ false → (pumps (suc n) (at a r sent log)).after ≡ by_length false (slice_index p 1 == r.part.eid)
  unfolding pumps
  turned first packet long =
      ap (λ (o : Option ℕ). (turn (at a r sent log) (pumps n) o).after) first
      ∙ ap (λ (o : Option (List ℕ)). (behind (delivers (at a r sent log) k o) (pumps n)).after) packet
      ∙ ap (λ (b : Bool). by_length b (slice_index p 1 == r.part.eid)) long

  -- To the responder.
  pub to_responder : Comes r sent k p → (st : RspStep) → responder_hears r p ≡ st
      → (pumps (suc n) (at a r sent log)).after ≡ (pumps n (at a st.after (with_sent (stopped_of k sent) st.sent) (st.acts ++ log))).after
  to_responder c st is = turned c.first c.packet c.long ∙ ap (by_length false) c.mine ∙ ap (λ (x : RspStep). (behind (given_to_responder now p x) (pumps n)).after) is

  -- To the requester.
  pub to_requester : (st : PacketStep) → Goes a r sent k p st → requester_given a p ≡ st
      → (pumps (suc n) (at a r sent log)).after ≡ (pumps n (at st.after r (with_sent (stopped_of k sent) st.sent) (st.acts ++ log))).after
  to_requester st g is =
      turned g.first g.packet g.long ∙ ap (by_length false) g.other
      ∙ ap (λ (b : Bool). (behind (given_to now p (cond b (Some a) None)) (pumps n)).after) g.named
      ∙ ap (λ (x : PacketStep). (behind (given_to_requester now (number_at a.setup.eid now) x) (pumps n)).after) is
      ∙ ap (λ (b : Bool). (pumps n (at (cond b st.after a) r (with_sent (stopped_of k sent) st.sent) (st.acts ++ log))).after) g.same

-- None waits.
pub rests : (n : ℕ) (world : World) → first_waiting world.sent ≡ None → (pumps (suc n) world).after ≡ world
unfolding pumps
rests n world none = ap (λ (o : Option ℕ). (turn world (pumps n) o).after) none
