-- Application data that is queued changes nothing of what a packet brings, and is what answers it where nothing else
-- waits.
use Rattle.std.proofs.Common.{refl, ◌∙◌, ◌≡◌, ℕ, List, [], ◌∷◌, ◌++◌, true, false, Bool, Option, Some, None, ap, sym, subst, cond, eq-eqb}
use Rattle.std.proofs.lemmas.Option.{same_Some}
use Rattle.std.specs.Option.{option_map}
use Rattle.std.specs.Prelude.{◌==◌, Result, Ok, Err}
use Rattle.mctp_framing.specs.Gathering.{Gathered}
use Rattle.mctp_framing.specs.Gathering.Gathered.{Dropped, More, Whole}
use Rattle.mctp_framing.specs.Packet.{PacketFields, fields_of, parsed}
use Rattle.spdm_basis.specs.declared.PacketFault.{PacketFault}
use Rattle.spdm_grammar.specs.declared.told.heard.ReplyFault.{ReplyFault}
use Rattle.responder_machine.proofs.Brought.{brought_answered}
use Rattle.responder_machine.proofs.Connected.{changed_keeps}
use Rattle.responder_machine.proofs.Others.{found}
use Rattle.responder_machine.specs.Does.{first_queued}
use Rattle.responder_machine.specs.EndLaws.{source_of}
use Rattle.responder_machine.specs.History.{History, queue_of}
use Rattle.responder_machine.specs.History.Entry.{Queued}
use Rattle.responder_machine.specs.Independence.{after_reply}
use Rattle.responder_machine.specs.NewData.{Message, brings, brings_from, brings_packet, gathered_brings}
use Rattle.responder_machine.specs.NewDataLaws.{IsAnsweredWith, data_record, QueuedBringsAlike, QueuedIsSent}
use Rattle.responder_machine.specs.Responding.{Connection, Responding, RspStep, changed, changed_if, connection_of, is_worn, queues, reply_fault_of, responder_hears, with_history}
use Rattle.responder_machine.specs.Session.{session_of}
use Rattle.responder_machine.specs.Setup.{RspSetup}
use Rattle.spdm_machine.specs.Bodies.{record_body}
use Rattle.spdm_machine.specs.Packets.{gathered_from, packets_to}

-- The connection of an endpoint, where one has another history.
first_changed : (g : Connection → Connection) (c : Connection) (changed_rest rest : Option Connection) (b : Bool) → changed_rest ≡ option_map g rest → cond b (Some (g c)) changed_rest ≡ option_map g (cond b (Some c) rest)
first_changed g c changed_rest rest true e = refl
first_changed g c changed_rest rest false e = e

found_changed : (eid other : ℕ) (change : History → History) (cs : List Connection) → connection_of eid (with_history other change cs) ≡ option_map (changed_if other change) (connection_of eid cs)
found_changed eid other change [] = refl
found_changed eid other change (c ∷ others) =
    let g : Connection → Connection = changed_if other change in
    ap (λ (s : RspSetup). cond (s.peer == eid) (Some (g c)) (connection_of eid (with_history other change others))) (changed_keeps other change c)
    ∙ first_changed g c (connection_of eid (with_history other change others)) (connection_of eid others) (c.setup.peer == eid) (found_changed eid other change others)

-- What a packet brings.
module _ (r : Responding) (eid : ℕ) (reply : List ℕ) where
  abbrev queue_it : History → History
  queue_it h = Queued reply ∷ h

  abbrev queued : Responding
  queued = record r { connections = with_history eid queue_it r.connections }

  gathered_alike : (c : Connection) (g : Gathered) → gathered_brings (changed queue_it c) g ≡ gathered_brings c g
  unfolding session_of
  gathered_alike c (Whole route body) = refl
  gathered_alike c More = refl
  gathered_alike c (Dropped cause) = refl

  from_alike : (fields : PacketFields) (o : Option Connection) → brings_from queued fields (option_map (changed_if eid queue_it) o) ≡ brings_from r fields o
  from_alike fields None = refl
  from_alike fields (Some c) = go (c.setup.peer == eid)
    where
      go : (b : Bool) → brings_from queued fields (Some (cond b (changed queue_it c) c)) ≡ brings_from r fields (Some c)
      go true = gathered_alike c (gathered_from c.setup.eid c.setup.peer r.given fields)
      go false = refl

  packet_alike : (p : Result PacketFields PacketFault) → brings_packet queued p ≡ brings_packet r p
  packet_alike (Err fault) = refl
  packet_alike (Ok fields) =
      ap (λ (o : Option Message). cond (fields.to == r.part.eid) o None)
      (ap (brings_from queued fields) (found_changed fields.from eid queue_it r.connections) ∙ from_alike fields (connection_of fields.from r.connections))

  pub by_fault : (packet : List ℕ) (x : Option ReplyFault) → brings (queues x r eid reply) packet ≡ brings r packet
  unfolding brings
  by_fault packet (Some fault) = refl
  by_fault packet None = ap (λ (o : Option Message). cond (is_worn r) None o) (packet_alike (parsed packet))

pub queued_alike : QueuedBringsAlike
queued_alike r eid reply packet = by_fault r eid reply packet (reply_fault_of (connection_of eid r.connections) reply)

-- ---- What answers it.

answered_by : (c : Connection) (reply : List ℕ) (step : RspStep) (packet : List ℕ) (m : Message) → queue_of c.history ≡ []
    → IsAnsweredWith step packet m (changed (λ h. Queued reply ∷ h) c) (first_queued (queue_of c.history ++ reply ∷ [])) → IsAnsweredWith step packet m c reply
unfolding session_of
answered_by c reply step packet m none is = record {
  told = is.told;
  taken = is.taken;
  sent =
      is.sent
      ∙ ap (λ (waiting : List (List ℕ)). packets_to c.setup.peer c.setup.eid false (fields_of packet).tag c.setup.unit (record_body (data_record c.setup.psk (session_of m.0.rsp c.history) (first_queued (waiting ++ reply ∷ []))))) none;
}

-- The connection of the source, where a reply was queued for it.
source_changed : (r : Responding) (eid : ℕ) (reply : List ℕ) (c : Connection) → connection_of eid r.connections ≡ Some c
    → connection_of eid (with_history eid (λ h. Queued reply ∷ h) r.connections) ≡ Some (changed (λ h. Queued reply ∷ h) c)
source_changed r eid reply c at =
    let change : History → History = λ h. Queued reply ∷ h in
    found_changed eid eid change r.connections ∙ ap (option_map (changed_if eid change)) at
    ∙ ap (λ (b : Bool). Some (cond b (changed change c) c)) (eq-eqb c.setup.peer eid (found eid r.connections c at))

pub queued_sent : QueuedIsSent
queued_sent r packet reply m c is at none sound =
    let eid : ℕ = source_of packet in
    let after : Responding = record r { connections = with_history eid (λ h. Queued reply ∷ h) r.connections } in
    let queued_is : after_reply eid reply r ≡ after = ap (λ (o : Option Connection). queues (reply_fault_of o reply) r eid reply) at ∙ ap (λ (x : Option ReplyFault). queues x r eid reply) sound in
    let answered = brought_answered after packet m (sym (ap (λ (x : Responding). brings x packet) queued_is) ∙ queued_alike r eid reply packet ∙ is) in
    let same = same_Some _ _ (sym answered.1 ∙ source_changed r eid reply c at) in
    let by_same = subst (λ (x : Connection). IsAnsweredWith (responder_hears after packet) packet m x (first_queued (queue_of x.history))) same answered.2 in
    subst (λ (x : Responding). IsAnsweredWith (responder_hears x packet) packet m c reply) (sym queued_is)
    (answered_by c reply (responder_hears after packet) packet m none by_same)
