-- What every run of a responder keeps.
use Rattle.std.proofs.Common.{◌≡◌, ◌≢◌, ℕ, ◌≤◌, ◌<◌, ◌+◌, ◌==◌, ◌||◌, not, List, [], ◌∷◌, length, Bool, true, false, cond, nat_le, nat_lt, Option, Some, None, Result, Ok, Err, map, refl, sym, ap, ◌∙◌, subst, inl, inr, arith, eqb-true}
use Rattle.std.proofs.lemmas.Bool.{leb-false}
use Rattle.std.specs.List.{AllByRecursion}
use Rattle.mctp_framing.specs.Cutting.{RouteFields}
use Rattle.mctp_framing.specs.Gathering.{Gathered}
use Rattle.mctp_framing.specs.Gathering.Gathered.{Whole, More, Dropped}
use Rattle.mctp_framing.specs.Packet.{PacketFields, parsed}
use Rattle.responder_machine.proofs.Connected.{PeersDiffer, changed_keeps, count_changed, origin, peers_stay, same_connection}
use Rattle.responder_machine.proofs.Making.{does_made}
use Rattle.responder_machine.specs.BoundLaws.{messages_of}
use Rattle.responder_machine.specs.Does.{IsMade, responder_does}
use Rattle.responder_machine.specs.History.{History, draws_of, queue_of}
use Rattle.responder_machine.specs.History.Entry.{Clear, Sealed, Queued, Ticked, Dropped}
use Rattle.responder_machine.specs.Independence.{AreKnownApart, Given, IsRun, RunsAreBounded, run_of}
use Rattle.responder_machine.specs.Independence.Given.{Packet, Reply, Seconds}
use Rattle.responder_machine.specs.Responder.{Outcome, after}
use Rattle.responder_machine.specs.Responder.Outcome.{Same, Unopened, Adds}
use Rattle.responder_machine.specs.Responding.{Connection, Responding, RspStep, all_draws, answers, changed, changed_if, connection_of, data_of, hears_from, hears_gathered, hears_packet, ignores, is_worn, new_connection, next_draw, over_all, queues, reply_fault_of, responder_hears, ticks, with_history, with_taken, worn_step}
use Rattle.responder_machine.specs.Setup.{Known, RspEnd, RspPart}
use Rattle.spdm_basis.specs.declared.DropCause.TheVariants.{NotOurs}
use Rattle.spdm_basis.specs.declared.PacketFault.{PacketFault}
use Rattle.spdm_grammar.specs.declared.told.heard.Heard.{Heard}
use Rattle.spdm_grammar.specs.declared.told.heard.Heard.TheVariants as heard
use Rattle.spdm_grammar.specs.declared.told.heard.ReplyFault.{ReplyFault}
use Rattle.spdm_grammar.specs.declared.told.heard.ReplyFault.TheVariants as reply_fault
use Rattle.spdm_grammar.specs.declared.told.heard.RspIgnored.TheVariants as ignored
use Rattle.spdm_machine.proofs.Members.{IsIn, found_in, in_map}
use Rattle.spdm_machine.specs.Packets.{body_type, gathered_from, wear_limit}

-- Each connection's history is made.
abbrev AreMade : List Connection → Type 0
AreMade cs = AllByRecursion (λ (c : Connection). IsMade c.setup c.history) cs

pub made_in : (cs : List Connection) → AreMade cs → (c : Connection) → IsIn cs c → IsMade c.setup c.history
made_in [] all c m = absurd m
made_in (d ∷ others) all c m = elim m [ inl e ↦ subst (λ (x : Connection). IsMade x.setup x.history) (sym e) all.0 | inr l ↦ made_in others all.1 c l ]

all_made : (cs : List Connection) → ((c : Connection) → IsIn cs c → IsMade c.setup c.history) → AreMade cs
all_made [] f = tt
all_made (d ∷ others) f = (f d (inl refl), all_made others (λ c m. f c (inr m)))

-- An outcome adds one message at most.
entry_more : (h : History) (o : Outcome) → messages_of (after h o) ≤ messages_of h + 1
entry_more h (Same body) = omega arith
entry_more h (Unopened body) = omega arith
entry_more h (Adds (Clear tag t d)) = omega arith
entry_more h (Adds (Sealed tag m t reply d)) = omega arith
entry_more h (Adds (Queued bytes)) = omega arith
entry_more h (Adds (Ticked seconds)) = omega arith
entry_more h (Adds (Dropped id)) = omega arith

module _ (e : RspEnd) where
  -- What a run keeps, with the endpoints that differ.
  record Keeps (r : Responding) : Type 0 where
    run : IsRun e r
    peers : PeersDiffer r.connections

  -- One connection got another history that is made.
  changed_made : (cs : List Connection) → PeersDiffer cs → AreMade cs → (c : Connection) → IsIn cs c → (change : History → History) → IsMade c.setup (change c.history) → AreMade (with_history c.setup.peer change cs)
  changed_made cs apart all c is change made = all_made _ (λ x m.
      (let o = origin c.setup.peer change cs x m in
      elim o.same [
        | inl s ↦ subst (λ (y : Connection). IsMade y.setup y.history) (sym (s.1 ∙ ap (changed change) (same_connection cs apart o.old c o.is is s.0))) made
        | inr s ↦ subst (λ (y : Connection). IsMade y.setup y.history) (sym s.1) (made_in cs all o.old o.is)
      ]))

  -- It took one more packet, with this history of one connection.
  goes_on : (r : Responding) → Keeps r → (c : Connection) → IsIn r.connections c → (given taken : List (List ℕ)) (change : History → History) → IsMade c.setup (change c.history)
      → messages_of (change c.history) + length r.given ≤ messages_of c.history + length given → length given ≤ wear_limit
      → Keeps (record r { given = given; taken = taken; connections = with_history c.setup.peer change r.connections })
  goes_on r k c is given taken change made more limit =
      let count = count_changed messages_of change r.connections c k.peers is in
      let messages = k.run.messages in record {
        run = record { part = k.run.part; seed = k.run.seed; first = k.run.first; made = changed_made r.connections k.peers k.run.made c is change made; messages = omega arith; limit = limit };
        peers = peers_stay (changed_if c.setup.peer change) r.connections (changed_keeps c.setup.peer change) k.peers;
      }

  fresh_limit : (r : Responding) → is_worn r ≡ false → length r.given + 1 ≤ wear_limit
  fresh_limit r is = (let less : length r.given < wear_limit = leb-false wear_limit (length r.given) is in omega arith)

  rests : (r : Responding) (packet : List ℕ) (told : Heard) → Keeps r → is_worn r ≡ false → Keeps (ignores r packet told).after
  rests r packet told k is =
      let limit = fresh_limit r is in
      let messages = k.run.messages in record {
        run = record { part = k.run.part; seed = k.run.seed; first = k.run.first; made = k.run.made; messages = omega arith; limit = omega arith };
        peers = k.peers;
      }

  answers_keeps : (r : Responding) (c : Connection) → IsIn r.connections c → (packet : List ℕ) (route : RouteFields) (body : List ℕ) (o : Outcome) → Keeps r → is_worn r ≡ false → IsMade c.setup (after c.history o) → Keeps (answers r c packet route body o).after
  answers_keeps r c m packet route body o k is made =
      let limit = fresh_limit r is in
      let more = entry_more c.history o in
      goes_on r k c m (packet ∷ r.given) (with_taken (data_of o) r.taken) (λ h. after h o) made (omega arith) (omega arith)

  either : (b : Bool) (x y : RspStep) → Keeps x.after → Keeps y.after → Keeps (cond b x y).after
  either true x y p q = p
  either false x y p q = q

  module _ (r : Responding) (packet : List ℕ) (k : Keeps r) (is : is_worn r ≡ false) where
    gathered_keeps : (c : Connection) → IsIn r.connections c → (g : Gathered) → Keeps (hears_gathered r (next_draw r) c packet g).after
    gathered_keeps c m (Whole route body) =
        either (not route.owner) _ _ (rests r packet (heard.Ignored ignored.NotRequest) k is)
        (either (not (body_type body == 5 || body_type body == 6)) _ _ (rests r packet (heard.Ignored ignored.OtherType) k is)
        (answers_keeps r c m packet route body (responder_does c.setup c.history route.tag body (next_draw r)) k is
        (does_made c.setup c.history route.tag body (next_draw r) (made_in r.connections k.run.made c m)).made))
    gathered_keeps c m More = rests r packet heard.More k is
    gathered_keeps c m (Dropped cause) = rests r packet (heard.Ignored (ignored.Dropped cause)) k is

    from_keeps : (fields : PacketFields) (o : Option Connection) → connection_of fields.from r.connections ≡ o → Keeps (hears_from r (next_draw r) packet fields o).after
    from_keeps fields None e' = rests r packet (heard.Ignored ignored.UnknownPeer) k is
    from_keeps fields (Some c) e' = gathered_keeps c (found_in (λ (y : Connection). y.setup.peer == fields.from) r.connections c e').0 (gathered_from c.setup.eid c.setup.peer r.given fields)

    packet_keeps : (p : Result PacketFields PacketFault) → Keeps (hears_packet r (next_draw r) packet p).after
    packet_keeps (Err fault) = rests r packet (heard.Ignored (ignored.Packet fault)) k is
    packet_keeps (Ok fields) =
        either (not (fields.to == r.part.eid)) _ _ (rests r packet (heard.Ignored (ignored.Dropped NotOurs)) k is)
        (from_keeps fields (connection_of fields.from r.connections) refl)

  hears_by : (r : Responding) (packet : List ℕ) → Keeps r → (worn : Bool) → is_worn r ≡ worn → Keeps (cond worn (worn_step r) (hears_packet r (next_draw r) packet (parsed packet))).after
  hears_by r packet k true is = k
  hears_by r packet k false is = packet_keeps r packet k is (parsed packet)

  hears_keeps : (r : Responding) (packet : List ℕ) → Keeps r → Keeps (responder_hears r packet).after
  unfolding responder_hears
  hears_keeps r packet k = hears_by r packet k (is_worn r) refl

  -- ---- Queued data and time.

  roomy : (c : Connection) (bytes : List ℕ) (a b : Bool) → nat_lt 1024 (length bytes) ≡ a → nat_le 16 (length (queue_of c.history)) ≡ b
      → cond a (Some reply_fault.TooLong) (cond b (Some reply_fault.Full) None) ≡ None → (length bytes ≤ 1024) × (length (queue_of c.history) < 16)
  roomy c bytes true b p q n = absurd (cc)
  roomy c bytes false true p q n = absurd (cc)
  roomy c bytes false false p q n = (let short : length bytes < 1025 = leb-false 1025 (length bytes) p in (omega arith, leb-false 16 (length (queue_of c.history)) q))

  queued_keeps : (r : Responding) (c : Connection) → IsIn r.connections c → (bytes : List ℕ) → Keeps r → (fault : Option ReplyFault) → reply_fault_of (Some c) bytes ≡ fault → Keeps (queues fault r c.setup.peer bytes)
  queued_keeps r c m bytes k (Some fault) is = k
  queued_keeps r c m bytes k None is =
      let room = roomy c bytes (nat_lt 1024 (length bytes)) (nat_le 16 (length (queue_of c.history))) refl refl is in
      goes_on r k c m r.given r.taken (λ h. Queued bytes ∷ h) (room.0, room.1, made_in r.connections k.run.made c m) (omega arith) k.run.limit

  replied_keeps : (r : Responding) (eid : ℕ) (bytes : List ℕ) → Keeps r → (o : Option Connection) → connection_of eid r.connections ≡ o → Keeps (queues (reply_fault_of o bytes) r eid bytes)
  replied_keeps r eid bytes k None is = k
  replied_keeps r eid bytes k (Some c) is =
      let there = found_in (λ (y : Connection). y.setup.peer == eid) r.connections c is in
      subst (λ (x : ℕ). Keeps (queues (reply_fault_of (Some c) bytes) r x bytes)) (eqb-true _ _ there.1) (queued_keeps r c there.0 bytes k (reply_fault_of (Some c) bytes) refl)

  ticked_made : (seconds : ℕ) (cs : List Connection) → AreMade cs → AreMade (map (changed (λ h. Ticked seconds ∷ h)) cs)
  ticked_made seconds [] all = tt
  ticked_made seconds (c ∷ others) all = (all.0, ticked_made seconds others all.1)

  ticked_count : (seconds : ℕ) (cs : List Connection) → over_all messages_of (map (changed (λ h. Ticked seconds ∷ h)) cs) ≡ over_all messages_of cs
  ticked_count seconds [] = refl
  ticked_count seconds (c ∷ others) = ap (λ (n : ℕ). messages_of c.history + n) (ticked_count seconds others)

  ticks_keeps : (r : Responding) (seconds : ℕ) → Keeps r → Keeps (ticks r seconds)
  ticks_keeps r seconds k = record {
    run = record {
      part = k.run.part;
      seed = k.run.seed;
      first = k.run.first;
      made = ticked_made seconds r.connections k.run.made;
      messages = subst (λ (n : ℕ). n ≤ length r.given) (sym (ticked_count seconds r.connections)) k.run.messages;
      limit = k.run.limit;
    };
    peers = peers_stay (changed (λ h. Ticked seconds ∷ h)) r.connections (λ c. refl) k.peers;
  }

  -- ---- Runs.

  new_peers : (part : RspPart) (known : List Known) → AreKnownApart known → PeersDiffer (map (new_connection part) known)
  new_peers part [] apart = tt
  new_peers part (q ∷ others) apart = (
    λ d m same. (let o = in_map (new_connection part) others d m in differ others apart.0 o.0 o.1 (sym (ap (λ (x : Connection). x.setup.peer) o.2) ∙ same)),
    new_peers part others apart.1,
  )
    where
      differ : (xs : List Known) → AllByRecursion (λ (other : Known). other.eid ≢ q.eid) xs → (x : Known) → IsIn xs x → x.eid ≢ q.eid
      differ [] all x m = absurd m
      differ (y ∷ ys) all x m = elim m [ inl same ↦ subst (λ (z : Known). z.eid ≢ q.eid) (sym same) all.0 | inr l ↦ differ ys all.1 x l ]

  new_made : (part : RspPart) (known : List Known) → AreMade (map (new_connection part) known)
  new_made part [] = tt
  new_made part (q ∷ others) = (tt, new_made part others)

  no_messages : (part : RspPart) (known : List Known) → over_all messages_of (map (new_connection part) known) ≡ 0
  no_messages part [] = refl
  no_messages part (q ∷ others) = (let none = no_messages part others in omega arith)

  runs : AreKnownApart e.known → (given : List Given) → Keeps (run_of e given)
  runs apart [] = record {
    run = record { part = refl; seed = refl; first = refl; made = new_made e.part e.known; messages = (let none = no_messages e.part e.known in omega arith); limit = omega arith };
    peers = new_peers e.part e.known apart;
  }
  runs apart (Packet bytes ∷ older) = hears_keeps (run_of e older) bytes (runs apart older)
  runs apart (Reply eid bytes ∷ older) = replied_keeps (run_of e older) eid bytes (runs apart older) (connection_of eid (run_of e older).connections) refl
  runs apart (Seconds seconds ∷ older) = ticks_keeps (run_of e older) seconds (runs apart older)

pub runs_bounded : RunsAreBounded
runs_bounded e given apart = (runs e apart given).run

-- Seconds for every connection take no draw.
pub ticked_draws : (seconds : ℕ) (cs : List Connection) → all_draws (map (changed (λ h. Ticked seconds ∷ h)) cs) ≡ all_draws cs
ticked_draws seconds [] = refl
ticked_draws seconds (c ∷ others) = ap (λ (n : ℕ). draws_of c.history + n) (ticked_draws seconds others)
