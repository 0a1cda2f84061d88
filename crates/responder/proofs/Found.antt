-- Which of the requesters a packet comes from, and what becomes of the others.
use Rattle.std.proofs.Common.{refl, ◌≡◌, ◌≢◌, ◌∙◌, ◌+◌, ◌<◌, ℕ, suc, List, [], ◌∷◌, length, Bool, true, false, cond, Some, None, ap, sym, subst, arith, filter, slice_set, get_or, eq-eqb, eqb-true, ne_eqb}
use Rattle.std.proofs.lemmas.Bool.{and_right, eqb-false}
use Rattle.std.proofs.lemmas.Option.{none-some, same_Some}
use Rattle.std.specs.List.{AllByRecursion, position_from}
use Rattle.std.specs.Prelude.{◌==◌, ◌&&◌}
use Rattle.mctp_framing.specs.Assembling.{StandsForGroup}
use Rattle.mctp_framing.specs.Gathering.{Receiver, group_of, is_ours}
use Rattle.mctp_framing.specs.Packet.{PacketFields}
use Rattle.responder.specs.Peers as peers
use Rattle.responder.specs.Standing.{AreApart, ArePeers, has_eid}
use Rattle.responder.specs.declared.peer.Peer.{Peer}
use Rattle.responder_machine.specs.EndLaws.{receiver_of}
use Rattle.responder_machine.specs.History.{History}
use Rattle.responder_machine.specs.Responding.{Connection, changed, connection_of, with_history}
use Rattle.responder_machine.specs.Setup.{RspPart, RspSetup}

-- The endpoint of a connection is that of its requester.
pub peer_of : (x : Peer) (p : RspPart) (given : List PacketFields) (c : Connection) → peers.StandsFor x p given c → c.setup.peer ≡ x.known.eid.number
peer_of x p given c s = ap (λ (r : RspSetup). r.peer) s.setup

-- ---- A packet that is another's.

pub not_ours : (own eid : ℕ) (packet : PacketFields) → packet.from ≢ eid → is_ours (receiver_of own eid) packet ≡ false
not_ours own eid packet n = and_right (packet.to == own) (packet.from == eid) (ne_eqb _ _ n)

pub other_stands : (x : Peer) (p : RspPart) (given : List PacketFields) (c : Connection) (packet : PacketFields) → peers.StandsFor x p given c → is_ours (receiver_of p.eid x.known.eid.number) packet ≡ false → peers.StandsFor x p (packet ∷ given) c
other_stands x p given c packet s other =
    let a = x.assembler in
    let none : is_ours a.receiver packet ≡ false = ap (λ (r : Receiver). is_ours r packet) s.receiver ∙ other in
    record {
      setup = s.setup;
      receiver = s.receiver;
      assembler = subst (λ (b : Bool). StandsForGroup a.receiver.limit a.unfinished a.body (group_of (cond b (packet ∷ filter (is_ours a.receiver) given) (filter (is_ours a.receiver) given)))) (sym none) s.assembler;
      connection = s.connection;
    }

-- It is ours at none of them.
abbrev pub IsNoneOurs : RspPart → PacketFields → List Peer → Type 0
IsNoneOurs p packet xs = AllByRecursion (λ (x : Peer). is_ours (receiver_of p.eid x.known.eid.number) packet ≡ false) xs

pub others_stand : (p : RspPart) (given : List PacketFields) (packet : PacketFields) (xs : List Peer) (cs : List Connection) → ArePeers xs p given cs → IsNoneOurs p packet xs → ArePeers xs p (packet ∷ given) cs
others_stand p given packet [] [] are none = tt
others_stand p given packet [] (c ∷ cs) are none = are
others_stand p given packet (x ∷ xs) [] are none = are
others_stand p given packet (x ∷ xs) (c ∷ cs) are none = (other_stands x p given c packet are.0 none.0, others_stand p given packet xs cs are.1 none.1)

-- A packet for another endpoint.
pub none_here : (p : RspPart) (packet : PacketFields) (xs : List Peer) → (packet.to == p.eid) ≡ false → IsNoneOurs p packet xs
none_here p packet [] other = tt
none_here p packet (x ∷ xs) other = (ap (λ (b : Bool). b && packet.from == x.known.eid.number) other, none_here p packet xs other)

-- A packet of no requester.
none_by : (eid n : ℕ) (x : Peer) (xs : List Peer) (b : Bool) → has_eid eid x ≡ b → cond b (Some n) (position_from (has_eid eid) (n + 1) xs) ≡ None → (has_eid eid x ≡ false) × (position_from (has_eid eid) (n + 1) xs ≡ None)
none_by eid n x xs true e none = absurd (none-some n (sym none))
none_by eid n x xs false e none = (e, none)

pub none_known : (p : RspPart) (given : List PacketFields) (packet : PacketFields) (n : ℕ) (xs : List Peer) (cs : List Connection) → ArePeers xs p given cs → position_from (has_eid packet.from) n xs ≡ None
    → IsNoneOurs p packet xs × (connection_of packet.from cs ≡ None)
none_known p given packet n [] [] are none = (tt, refl)
none_known p given packet n [] (c ∷ cs) are none = absurd are
none_known p given packet n (x ∷ xs) [] are none = absurd are
none_known p given packet n (x ∷ xs) (c ∷ cs) are none =
    let first = none_by packet.from n x xs (has_eid packet.from x) refl none in
    let rest = none_known p given packet (n + 1) xs cs are.1 first.1 in (
      (not_ours p.eid x.known.eid.number packet (λ same. eqb-false _ _ first.0 (sym same)), rest.0),
      ap (λ (b : Bool). cond b (Some c) (connection_of packet.from cs)) (ap (λ (m : ℕ). m == packet.from) (peer_of x p given c are.0) ∙ first.0) ∙ rest.1,
    )

pub none_found : (p : RspPart) (given : List PacketFields) (eid n : ℕ) (xs : List Peer) (cs : List Connection) → ArePeers xs p given cs → position_from (has_eid eid) n xs ≡ None → connection_of eid cs ≡ None
none_found p given eid n [] [] are none = refl
none_found p given eid n [] (c ∷ cs) are none = absurd are
none_found p given eid n (x ∷ xs) [] are none = absurd are
none_found p given eid n (x ∷ xs) (c ∷ cs) are none =
    let first = none_by eid n x xs (has_eid eid x) refl none in
    ap (λ (b : Bool). cond b (Some c) (connection_of eid cs)) (ap (λ (m : ℕ). m == eid) (peer_of x p given c are.0) ∙ first.0) ∙ none_found p given eid (n + 1) xs cs are.1 first.1

-- ---- A packet of one.

-- The program's representation of the other requesters is that of these packets too.
abbrev pub OthersStand : RspPart → (given after : List PacketFields) → (eid : ℕ) → Type 0
OthersStand p given after eid = (x : Peer) (d : Connection) → peers.StandsFor x p given d → d.setup.peer ≢ eid → peers.StandsFor x p after d

pub others_without : (p : RspPart) (given : List PacketFields) (packet : PacketFields) → OthersStand p given (packet ∷ given) packet.from
others_without p given packet x d s other = other_stands x p given d packet s (not_ours p.eid x.known.eid.number packet (λ same. other (peer_of x p given d s ∙ sym same)))

-- Connections with other endpoints keep their histories.
changed_others : (p : RspPart) (given after : List PacketFields) (eid : ℕ) (change : History → History) (xs : List Peer) (cs : List Connection) → OthersStand p given after eid → ArePeers xs p given cs
    → AllByRecursion (λ (d : Connection). d.setup.peer ≢ eid) cs → ArePeers xs p after (with_history eid change cs)
changed_others p given after eid change [] [] stand are apart = tt
changed_others p given after eid change [] (c ∷ cs) stand are apart = absurd are
changed_others p given after eid change (x ∷ xs) [] stand are apart = absurd are
changed_others p given after eid change (x ∷ xs) (c ∷ cs) stand are apart = (
  subst (λ (b : Bool). peers.StandsFor x p after (cond b (changed change c) c)) (sym (ne_eqb _ _ apart.0)) (stand x c are.0 apart.0),
  changed_others p given after eid change xs cs stand are.1 apart.1,
)

-- The requester at a place, counted from a number on: its connection, and what becomes of all where it has changed.
pub record Hit (p : RspPart) (given : List PacketFields) (eid n i : ℕ) (xs : List Peer) (cs : List Connection) : Type 0 where
  pub k : ℕ
  pub at : i ≡ n + k
  pub inside : k < length xs
  pub seen : Peer
  pub there : (e : Peer) → get_or xs k e ≡ seen
  pub c : Connection
  pub found : connection_of eid cs ≡ Some c
  pub peer : c.setup.peer ≡ eid
  pub stands : peers.StandsFor seen p given c
  pub change : (after : List PacketFields) → OthersStand p given after eid → (new : Peer) (f : History → History) → peers.StandsFor new p after (changed f c) → ArePeers (slice_set xs k new) p after (with_history c.setup.peer f cs)

module _ (p : RspPart) (given : List PacketFields) (eid : ℕ) where
  first_hit : (n i : ℕ) (x : Peer) (xs : List Peer) (c : Connection) (cs : List Connection) → peers.StandsFor x p given c → ArePeers xs p given cs → AreApart (c ∷ cs) → has_eid eid x ≡ true → Some n ≡ Some i
      → Hit p given eid n i (x ∷ xs) (c ∷ cs)
  first_hit n i x xs c cs s are apart e is =
      let same : c.setup.peer ≡ eid = peer_of x p given c s ∙ eqb-true _ _ e in
      let place : i ≡ n = sym (same_Some n i is) in record {
        k = 0;
        at = omega (arith, place);
        inside = omega arith;
        seen = x;
        there = λ e'. refl;
        c = c;
        found = ap (λ (b : Bool). cond b (Some c) (connection_of eid cs)) (eq-eqb _ _ same);
        peer = same;
        stands = s;
        change = λ after stand new f stands. (
          subst (λ (b : Bool). peers.StandsFor new p after (cond b (changed f c) c)) (sym (eq-eqb c.setup.peer c.setup.peer refl)) stands,
          changed_others p given after c.setup.peer f xs cs (λ y d own other. stand y d own (λ its. other (its ∙ sym same))) are apart.0,
        );
      }

  later_hit : (n i : ℕ) (x : Peer) (xs : List Peer) (c : Connection) (cs : List Connection) → peers.StandsFor x p given c → has_eid eid x ≡ false → Hit p given eid (n + 1) i xs cs → Hit p given eid n i (x ∷ xs) (c ∷ cs)
  later_hit n i x xs c cs s e hit =
      let other : c.setup.peer ≢ eid = λ same. eqb-false _ _ e (sym (peer_of x p given c s) ∙ same) in
      let at = hit.at in
      let inside = hit.inside in record {
        k = suc hit.k;
        at = omega (arith, at);
        inside = omega (arith, inside);
        seen = hit.seen;
        there = hit.there;
        c = hit.c;
        found = ap (λ (b : Bool). cond b (Some c) (connection_of eid cs)) (ne_eqb _ _ other) ∙ hit.found;
        peer = hit.peer;
        stands = hit.stands;
        change = λ after stand new f stands. (
          subst (λ (b : Bool). peers.StandsFor x p after (cond b (changed f c) c)) (sym (ne_eqb _ _ (λ same. other (same ∙ hit.peer)))) (stand x c s other),
          hit.change after stand new f stands,
        );
      }

  pub hit : (n i : ℕ) (xs : List Peer) (cs : List Connection) → ArePeers xs p given cs → AreApart cs → position_from (has_eid eid) n xs ≡ Some i → Hit p given eid n i xs cs
  hit n i [] cs are apart is = absurd (none-some i is)
  hit n i (x ∷ xs) [] are apart is = absurd are
  hit n i (x ∷ xs) (c ∷ cs) are apart is = go (has_eid eid x) refl is (hit (n + 1) i xs cs are.1 apart.1)
    where
      go : (b : Bool) → has_eid eid x ≡ b → cond b (Some n) (position_from (has_eid eid) (n + 1) xs) ≡ Some i → (position_from (has_eid eid) (n + 1) xs ≡ Some i → Hit p given eid (n + 1) i xs cs) → Hit p given eid n i (x ∷ xs) (c ∷ cs)
      go true e it next = first_hit n i x xs c cs are.0 are.1 apart e it
      go false e it next = later_hit n i x xs c cs are.0 e (next it)
