-- Application data that are queued, and seconds that pass.
use Rattle.std.proofs.Common.{refl, ◌≡◌, ◌<◌, ◌∙◌, ◌+◌, ℕ, zero, suc, List, [], ◌∷◌, length, Bool, true, false, cond, map, Option, Some, None, Result, Ok, Err, nat_le, nat_lt, ap, sym, subst, arith, slice_set, get_or}
use Rattle.std.specs.Prelude.{◌==◌, MatchResult}
use Rattle.mctp_framing.specs.Packet.{PacketFields}
use Rattle.responder.proofs.Found.{Hit}
use Rattle.responder.proofs.Reached.{after_reached, apart_stays, differ}
use Rattle.responder.specs.Peers as peers
use Rattle.responder.specs.Peers.{IsNotQueued, IsQueued}
use Rattle.responder.proofs.Steps.{unchanged}
use Rattle.responder.specs.SetUp.{IsPart}
use Rattle.responder.specs.Standing.{ArePeers, IsReached, StandsFor}
use Rattle.responder.specs.declared.part.Part.{Part}
use Rattle.responder.specs.declared.peer.Peer.{Peer}
use Rattle.responder.specs.declared.serving.Responder.{Responder}
use Rattle.responder.specs.declared.shared.Shared.{Shared}
use Rattle.responder_machine.proofs.Connected.{changed_keeps, count_changed}
use Rattle.responder_machine.specs.History.{History, draws_of, queue_of}
use Rattle.responder_machine.specs.History.Entry.{Queued, Ticked}
use Rattle.responder_machine.specs.Independence.{after_reply}
use Rattle.responder_machine.specs.Independence.Given.{Reply, Seconds}
use Rattle.responder_machine.specs.Responding.{Connection, Responding, all_draws, changed, changed_if, connection_of, queues, reply_fault_of, ticks, with_history}
use Rattle.responder_machine.specs.Setup.{RspPart}
use Rattle.responder_session.specs.Queue.{queue_fault}
use Rattle.responder_session.specs.declared.queue.QueueFault.{QueueFault}
use Rattle.responder_session.specs.declared.queue.QueueFault.TheVariants as queue
use Rattle.spdm_grammar.specs.declared.told.heard.ReplyFault.{ReplyFault}
use Rattle.spdm_grammar.specs.declared.told.heard.ReplyFault.TheVariants as reply
use Rattle.spdm_machine.proofs.Members.{found_in}
use Rattle.spdm_machine.specs.Packets.{fields_in}
use Rattle.responder_machine.proofs.Runs.{ticked_draws}

-- The faults of a connection's queue, as those of the responder.
abbrev pub as_reply : Option QueueFault → Option ReplyFault
as_reply None = None
as_reply (Some queue.TooLong) = Some reply.TooLong
as_reply (Some queue.Full) = Some reply.Full

by_tests : (a b : Bool) → cond a (Some reply.TooLong) (cond b (Some reply.Full) None) ≡ as_reply (cond a (Some queue.TooLong) (cond b (Some queue.Full) None))
by_tests true b = refl
by_tests false true = refl
by_tests false false = refl

pub reply_is : (c : Connection) (bytes : List ℕ) → reply_fault_of (Some c) bytes ≡ as_reply (queue_fault (queue_of c.history) bytes)
reply_is c bytes = by_tests (nat_lt 1024 (length bytes)) (nat_le 16 (length (queue_of c.history)))

-- ---- At the responder.

fault_at : (r : Responding) (eid : ℕ) (c : Connection) (bytes : List ℕ) → connection_of eid r.connections ≡ Some c → reply_fault_of (Some c) bytes ≡ reply_fault_of (connection_of eid r.connections) bytes
fault_at r eid c bytes found = ap (λ (o : Option Connection). reply_fault_of o bytes) (sym found)

pub queue_told : {A : Type 0} (r : Responding) (eid : ℕ) (c : Connection) (bytes : List ℕ) (x : Result A ReplyFault) (new : Peer) → connection_of eid r.connections ≡ Some c
    → MatchResult x (λ _. IsQueued r.part (fields_in r.given) c bytes new) (λ fault. IsNotQueued r.part (fields_in r.given) c bytes fault new)
    → MatchResult x (λ _. reply_fault_of (connection_of eid r.connections) bytes ≡ None) (λ fault. reply_fault_of (connection_of eid r.connections) bytes ≡ Some fault)
queue_told r eid c bytes (Ok a) new found queued = sym (fault_at r eid c bytes found) ∙ queued.sound
queue_told r eid c bytes (Err fault) new found queued = sym (fault_at r eid c bytes found) ∙ queued.cause

-- What the program keeps at a place that was found.
pub seen_stands : (r : Responding) (eid : ℕ) (xs : List Peer) (place : ℕ) (hit : Hit r.part (fields_in r.given) eid 0 place xs r.connections) (peer : Peer) → peer ≡ get_or xs place peer → peers.StandsFor peer r.part (fields_in r.given) hit.c
seen_stands r eid xs place hit peer is =
    let at = hit.at in
    let there : place ≡ hit.k = omega (arith, at) in
    subst (λ (x : Peer). peers.StandsFor x r.part (fields_in r.given) hit.c) (sym (is ∙ ap (λ (n : ℕ). get_or xs n peer) there ∙ hit.there peer)) hit.stands

-- The responder but for its requesters is what it was.
pub record IsBeside (old new : Responder) : Type 0 where
  pub part : new.part ≡ old.part
  pub given : new.given ≡ old.given
  pub shared : new.shared ≡ old.shared

module _ (r : Responding) (eid : ℕ) (bytes : List ℕ) (old new : Responder) (place : ℕ) (hit : Hit r.part (fields_in r.given) eid 0 place old.peers.items r.connections) (peer : Peer) where
  -- The requesters, where one has another history.
  peers_now : (f : History → History) → peers.StandsFor peer r.part (fields_in r.given) (changed f hit.c) → new.peers.items ≡ slice_set old.peers.items place peer → ArePeers new.peers.items r.part (fields_in r.given) (with_history eid f r.connections)
  peers_now f stands items =
      let at = hit.at in
      let there : hit.k ≡ place = omega (arith, at) in
      subst (λ (n : ℕ). ArePeers new.peers.items r.part (fields_in r.given) (with_history n f r.connections)) hit.peer
      (subst (λ (xs : List Peer). ArePeers xs r.part (fields_in r.given) (with_history hit.c.setup.peer f r.connections)) (ap (λ (n : ℕ). slice_set old.peers.items n peer) there ∙ sym items)
      (hit.change (fields_in r.given) (λ x d s other. s) peer f stands))

  queued_stands : StandsFor old r → IsBeside old new → new.peers.items ≡ slice_set old.peers.items place peer → IsQueued r.part (fields_in r.given) hit.c bytes peer → StandsFor new (after_reply eid bytes r)
  queued_stands stands beside items queued =
      let change : History → History = λ h. Queued bytes ∷ h in
      let is : after_reply eid bytes r ≡ record r { connections = with_history eid change r.connections } = ap (λ (o : Option ReplyFault). queues o r eid bytes) (sym (fault_at r eid hit.c bytes hit.found) ∙ queued.sound) in
      let m = (found_in (λ (y : Connection). y.setup.peer == eid) r.connections hit.c hit.found).0 in
      let counted = count_changed draws_of change r.connections hit.c (differ r.connections stands.apart) m in
      let same = ap (λ (n : ℕ). all_draws (with_history n change r.connections)) hit.peer in
      let number = ap (λ (s : Shared). s.draws.number) beside.shared ∙ stands.number in
      subst (StandsFor new) (sym is) (record {
        part = subst (λ (part : Part). IsPart part r.part) (sym beside.part) stands.part;
        seed = ap (λ (s : Shared). s.draws.seed) beside.shared ∙ stands.seed;
        number = omega (arith, number, counted, same);
        last = ap (λ (s : Shared). s.last) beside.shared ∙ stands.last;
        given = beside.given ∙ stands.given;
        peers = peers_now change queued.stands items;
        apart = apart_stays (changed_if eid change) r.connections (changed_keeps eid change) stands.apart;
        reached = subst IsReached is (after_reached r (Reply eid bytes) stands.reached);
        first = stands.first;
      })

  refused_stands : (fault : ReplyFault) → StandsFor old r → IsBeside old new → new.peers.items ≡ slice_set old.peers.items place peer → IsNotQueued r.part (fields_in r.given) hit.c bytes fault peer → StandsFor new (after_reply eid bytes r)
  refused_stands fault stands beside items refused =
      let is : after_reply eid bytes r ≡ r = ap (λ (o : Option ReplyFault). queues o r eid bytes) (sym (fault_at r eid hit.c bytes hit.found) ∙ refused.cause) in
      subst (StandsFor new) (sym is) (record {
        part = subst (λ (part : Part). IsPart part r.part) (sym beside.part) stands.part;
        seed = ap (λ (s : Shared). s.draws.seed) beside.shared ∙ stands.seed;
        number = ap (λ (s : Shared). s.draws.number) beside.shared ∙ stands.number;
        last = ap (λ (s : Shared). s.last) beside.shared ∙ stands.last;
        given = beside.given ∙ stands.given;
        peers = subst (λ (cs : List Connection). ArePeers new.peers.items r.part (fields_in r.given) cs) (unchanged eid r.connections) (peers_now (λ h. h) refused.stands items);
        apart = stands.apart;
        reached = stands.reached;
        first = stands.first;
      })

  pub queue_stands : {A : Type 0} (x : Result A ReplyFault) → StandsFor old r → IsBeside old new → new.peers.items ≡ slice_set old.peers.items place peer
      → MatchResult x (λ _. IsQueued r.part (fields_in r.given) hit.c bytes peer) (λ fault. IsNotQueued r.part (fields_in r.given) hit.c bytes fault peer) → StandsFor new (after_reply eid bytes r)
  queue_stands (Ok a) stands beside items queued = queued_stands stands beside items queued
  queue_stands (Err fault) stands beside items refused = refused_stands fault stands beside items refused

-- Without a requester nothing changes.
pub unknown_stands : (r : Responding) (eid : ℕ) (bytes : List ℕ) (old : Responder) → StandsFor old r → connection_of eid r.connections ≡ None → StandsFor old (after_reply eid bytes r)
unknown_stands r eid bytes old stands none = subst (StandsFor old) (sym (ap (λ (o : Option Connection). queues (reply_fault_of o bytes) r eid bytes) none)) stands

-- ---- Seconds.

-- Seconds have passed for so many connections.
unfoldable pub ticked : (seconds : ℕ) → ℕ → List Connection → List Connection
ticked seconds zero cs = cs
ticked seconds (suc i) [] = []
ticked seconds (suc i) (c ∷ cs) = changed (λ h. Ticked seconds ∷ h) c ∷ ticked seconds i cs

pub ticked_none : (seconds : ℕ) (cs : List Connection) → ticked seconds 0 cs ≡ cs
unfolding ticked
ticked_none seconds cs = refl

abbrev pub Ticks : RspPart → List PacketFields → (seconds : ℕ) → (old new : Peer) → Type 0
Ticks p given seconds old new = (c : Connection) → peers.StandsFor old p given c → peers.StandsFor new p given (changed (λ h. Ticked seconds ∷ h) c)

pub tick_more : (p : RspPart) (given : List PacketFields) (seconds i : ℕ) (xs : List Peer) (cs : List Connection) (d new : Peer) → i < length xs → ArePeers xs p given (ticked seconds i cs) → Ticks p given seconds (get_or xs i d) new
    → ArePeers (slice_set xs i new) p given (ticked seconds (suc i) cs)
unfolding ticked
tick_more p given seconds i [] cs d new few are ticks = absurd (omega (arith, few))
tick_more p given seconds zero (x ∷ xs) [] d new few are ticks = absurd are
tick_more p given seconds zero (x ∷ xs) (c ∷ cs) d new few are ticks = (ticks c are.0, are.1)
tick_more p given seconds (suc i) (x ∷ xs) [] d new few are ticks = absurd are
tick_more p given seconds (suc i) (x ∷ xs) (c ∷ cs) d new few are ticks = (are.0, tick_more p given seconds i xs cs d new (omega (arith, few)) are.1 ticks)

pub tick_all : (p : RspPart) (given : List PacketFields) (seconds : ℕ) (xs : List Peer) (cs : List Connection) → ArePeers xs p given (ticked seconds (length xs) cs) → ArePeers xs p given (map (changed (λ h. Ticked seconds ∷ h)) cs)
unfolding ticked
tick_all p given seconds [] [] are = are
tick_all p given seconds [] (c ∷ cs) are = absurd are
tick_all p given seconds (x ∷ xs) [] are = are
tick_all p given seconds (x ∷ xs) (c ∷ cs) are = (are.0, tick_all p given seconds xs cs are.1)

pub ticks_stand : (r : Responding) (seconds : ℕ) (old new : Responder) → StandsFor old r → IsBeside old new → ArePeers new.peers.items r.part (fields_in r.given) (map (changed (λ h. Ticked seconds ∷ h)) r.connections) → StandsFor new (ticks r seconds)
ticks_stand r seconds old new stands beside peers = record {
  part = subst (λ (part : Part). IsPart part r.part) (sym beside.part) stands.part;
  seed = ap (λ (s : Shared). s.draws.seed) beside.shared ∙ stands.seed;
  number = ap (λ (s : Shared). s.draws.number) beside.shared ∙ stands.number ∙ ap (λ (n : ℕ). r.first + n) (sym (ticked_draws seconds r.connections));
  last = ap (λ (s : Shared). s.last) beside.shared ∙ stands.last;
  given = beside.given ∙ stands.given;
  peers = peers;
  apart = apart_stays (changed (λ h. Ticked seconds ∷ h)) r.connections (λ c. refl) stands.apart;
  reached = after_reached r (Seconds seconds) stands.reached;
  first = stands.first;
}
