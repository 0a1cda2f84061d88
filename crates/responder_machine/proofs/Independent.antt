-- A whole responder is towards each endpoint what a responder is that knows it alone.
use Rattle.std.proofs.Common.{◌≡◌, ◌≢◌, ℕ, List, [], ◌∷◌, ◌++◌, Bool, true, false, Option, Some, None, cond, map, not, ◌&&◌, ◌==◌, refl, sym, ap, ◌∙◌, subst, eqb-true, eq-eqb}
use Rattle.std.proofs.lemmas.List.{append-nil}
use Rattle.std.specs.Option.{option_map, option_to_list}
use Rattle.mctp_framing.specs.Packet.{parsed}
use Rattle.spdm_grammar.specs.declared.told.heard.ReplyFault.{ReplyFault}
use Rattle.responder_machine.proofs.Alike.{lead}
use Rattle.responder_machine.proofs.Others.{found, kept, others}
use Rattle.responder_machine.specs.EndLaws.{AreAlike, LeadAlike, source_of}
use Rattle.responder_machine.specs.History.{History}
use Rattle.responder_machine.specs.History.Entry.{Queued, Ticked}
use Rattle.responder_machine.specs.Independence.{Given, Own, ConnectionsAreIndependent, GivenStandsAlike, after_given, after_reply, alone, alone_sends, answer_to, concerns, own_of, run_of, sent_to}
use Rattle.responder_machine.specs.Independence.Given.{Packet, Reply, Seconds}
use Rattle.responder_machine.specs.Independence.Own.{Came, Waits}
use Rattle.responder_machine.specs.Responding.{Connection, Responding, RspStep, changed, connection_of, hears_packet, is_worn, new_responding, next_draw, queues, reply_fault_of, responder_hears, ticks, with_history, worn_step}
use Rattle.responder_machine.specs.Setup.{RspEnd}
use Rattle.std.proofs.lemmas.Bool.{eqb-false}

-- ---- Connections.

some_is : (eid : ℕ) (c : Connection) → c.setup.peer ≡ eid → connection_of eid (c ∷ []) ≡ Some c
some_is eid c e = ap (λ (b : Bool). cond b (Some c) None) (eq-eqb c.setup.peer eid e)

-- The one connection that was found is found again.
found_again : (eid : ℕ) (cs : List Connection) (o : Option Connection) → connection_of eid cs ≡ o → connection_of eid (option_to_list o) ≡ o
found_again eid cs None is = refl
found_again eid cs (Some c) is = some_is eid c (found eid cs c is)

mapped_by : (eid : ℕ) (change : History → History) (d : Connection) (others : List Connection) (b : Bool) → (d.setup.peer == eid) ≡ b
    → connection_of eid (map (changed change) others) ≡ option_map (changed change) (connection_of eid others)
    → connection_of eid (map (changed change) (d ∷ others)) ≡ option_map (changed change) (connection_of eid (d ∷ others))
mapped_by eid change d others true e next = rw e refl
mapped_by eid change d others false e next = rw e next

-- A change of all histories changes that of this endpoint.
mapped : (eid : ℕ) (change : History → History) (cs : List Connection) → connection_of eid (map (changed change) cs) ≡ option_map (changed change) (connection_of eid cs)
mapped eid change [] = refl
mapped eid change (d ∷ others) = mapped_by eid change d others (d.setup.peer == eid) refl (mapped eid change others)

one_by : (eid : ℕ) (change : History → History) (d : Connection) (others : List Connection) (b : Bool) → (d.setup.peer == eid) ≡ b
    → connection_of eid (with_history eid change others) ≡ option_map (changed change) (connection_of eid others)
    → connection_of eid (cond b (changed change d) d ∷ with_history eid change others) ≡ option_map (changed change) (connection_of eid (d ∷ others))
one_by eid change d others true e next = rw e refl
one_by eid change d others false e next = rw e next

-- So does a change of its history alone.
one : (eid : ℕ) (change : History → History) (cs : List Connection) → connection_of eid (with_history eid change cs) ≡ option_map (changed change) (connection_of eid cs)
one eid change [] = refl
one eid change (d ∷ others) = one_by eid change d others (d.setup.peer == eid) refl (one eid change others)

-- ---- Queued data and time.

queued_alike : (eid : ℕ) (bytes : List ℕ) (r s : Responding) (fault : Option ReplyFault) → AreAlike eid r s → AreAlike eid (queues fault r eid bytes) (queues fault s eid bytes)
queued_alike eid bytes r s (Some fault) alike = alike
queued_alike eid bytes r s None alike = record {
  part = alike.part;
  connection = one eid (λ h. Queued bytes ∷ h) r.connections ∙ ap (option_map (changed (λ h. Queued bytes ∷ h))) alike.connection ∙ sym (one eid (λ h. Queued bytes ∷ h) s.connections);
  packets = alike.packets;
}

pub replied_alike : (eid : ℕ) (bytes : List ℕ) (r s : Responding) → AreAlike eid r s → AreAlike eid (after_reply eid bytes r) (after_reply eid bytes s)
replied_alike eid bytes r s alike =
    subst (λ (o : Option Connection). AreAlike eid (after_reply eid bytes r) (queues (reply_fault_of o bytes) s eid bytes)) alike.connection
    (queued_alike eid bytes r s (reply_fault_of (connection_of eid r.connections) bytes) alike)

pub ticked_alike : (eid seconds : ℕ) (r s : Responding) → AreAlike eid r s → AreAlike eid (ticks r seconds) (ticks s seconds)
ticked_alike eid seconds r s alike = record {
  part = alike.part;
  connection = mapped eid (λ h. Ticked seconds ∷ h) r.connections ∙ ap (option_map (changed (λ h. Ticked seconds ∷ h))) alike.connection ∙ sym (mapped eid (λ h. Ticked seconds ∷ h) s.connections);
  packets = alike.packets;
}

other_queued : (eid other : ℕ) (bytes : List ℕ) (r : Responding) (fault : Option ReplyFault) → other ≢ eid → AreAlike eid (queues fault r other bytes) r
other_queued eid other bytes r (Some fault) n = record { part = refl; connection = refl; packets = λ own. refl }
other_queued eid other bytes r None n = record { part = refl; connection = kept eid other (λ h. Queued bytes ∷ h) r.connections n; packets = λ own. refl }

pub given_alike : GivenStandsAlike
given_alike eid r s = (
  λ alike bytes. replied_alike eid bytes r s alike,
  λ alike seconds. ticked_alike eid seconds r s alike,
  λ other bytes n. other_queued eid other bytes r (reply_fault_of (connection_of other r.connections) bytes) n,
)

-- ---- Whole runs.

alike_through : (eid : ℕ) (r s t : Responding) → AreAlike eid r s → AreAlike eid s t → AreAlike eid r t
alike_through eid r s t a b = record { part = a.part ∙ b.part; connection = a.connection ∙ b.connection; packets = λ own. a.packets own ∙ b.packets own }

alike_self : (eid : ℕ) (r : Responding) → AreAlike eid r r
alike_self eid r = record { part = refl; connection = refl; packets = λ own. refl }

module _ (e : RspEnd) (eid : ℕ) where
  -- What a run has sent and come to.
  record Follows (given : List Given) : Type 0 where
    sent : sent_to e eid given ≡ alone_sends e eid (own_of e eid given)
    alike : AreAlike eid (run_of e given) (alone e eid (own_of e eid given))

  -- What something given adds.
  record Adds (g : Given) (older : List Given) (own : List Own) : Type 0 where
    sent : sent_to e eid older ++ answer_to eid g (run_of e older) ≡ alone_sends e eid (own ++ own_of e eid older)
    alike : AreAlike eid (after_given g (run_of e older)) (alone e eid (own ++ own_of e eid older))

  worn_packet : (older : List Given) (bytes : List ℕ) → Follows older → is_worn (run_of e older) ≡ true → source_of bytes ≡ eid → Adds (Packet bytes) older []
  unfolding responder_hears
  worn_packet older bytes k worn same =
      let step : responder_hears (run_of e older) bytes ≡ worn_step (run_of e older) = ap (λ (b : Bool). cond b (worn_step (run_of e older)) (hears_packet (run_of e older) (next_draw (run_of e older)) bytes (parsed bytes))) worn in record {
        sent = ap (λ (b : Bool). sent_to e eid older ++ cond b (responder_hears (run_of e older) bytes).sent []) (eq-eqb _ _ same)
            ∙ ap (λ (s : RspStep). sent_to e eid older ++ s.sent) step ∙ append-nil (sent_to e eid older) ∙ k.sent;
        alike = subst (λ (s : RspStep). AreAlike eid s.after (alone e eid (own_of e eid older))) (sym step) k.alike;
      }

  own_packet : (older : List Given) (bytes : List ℕ) → Follows older → is_worn (run_of e older) ≡ false → source_of bytes ≡ eid → Adds (Packet bytes) older (Came bytes (next_draw (run_of e older)) ∷ [])
  unfolding responder_hears
  own_packet older bytes k fresh same =
      let r = run_of e older in
      let s = alone e eid (own_of e eid older) in
      let d = next_draw r in
      let step : responder_hears r bytes ≡ hears_packet r d bytes (parsed bytes) = ap (λ (b : Bool). cond b (worn_step r) (hears_packet r d bytes (parsed bytes))) fresh in
      let there : LeadAlike eid (hears_packet r d bytes (parsed bytes)) (hears_packet s d bytes (parsed bytes)) =
      subst (λ (x : ℕ). LeadAlike x (hears_packet r d bytes (parsed bytes)) (hears_packet s d bytes (parsed bytes))) same (lead r s bytes d (subst (λ (x : ℕ). AreAlike x r s) (sym same) k.alike)) in record {
        sent = ap (λ (b : Bool). sent_to e eid older ++ cond b (responder_hears r bytes).sent []) (eq-eqb _ _ same)
            ∙ ap (λ (x : RspStep). sent_to e eid older ++ x.sent) step ∙ ap (λ (x : List (List ℕ)). x ++ (hears_packet r d bytes (parsed bytes)).sent) k.sent
            ∙ ap (λ (x : List (List ℕ)). alone_sends e eid (own_of e eid older) ++ x) there.sent;
        alike = subst (λ (x : RspStep). AreAlike eid x.after (hears_packet s d bytes (parsed bytes)).after) (sym step) there.after;
      }

  other_packet : (older : List Given) (bytes : List ℕ) → Follows older → (source_of bytes == eid) ≡ false → Adds (Packet bytes) older []
  other_packet older bytes k apart = record {
    sent = ap (λ (b : Bool). sent_to e eid older ++ cond b (responder_hears (run_of e older) bytes).sent []) apart ∙ append-nil (sent_to e eid older) ∙ k.sent;
    alike = alike_through eid _ _ _ (others (run_of e older) bytes eid (eqb-false _ _ apart)) k.alike;
  }

  abbrev came_by : List ℕ → List Given → Bool → Bool → List Own
  came_by bytes older a b = cond (a && not b) (Came bytes (next_draw (run_of e older)) ∷ []) []

  packet_adds : (older : List Given) (bytes : List ℕ) → Follows older → Adds (Packet bytes) older (concerns eid (Packet bytes) (run_of e older))
  packet_adds older bytes k = go (source_of bytes == eid) (is_worn (run_of e older)) refl refl
    where
      go : (a b : Bool) → (source_of bytes == eid) ≡ a → is_worn (run_of e older) ≡ b → Adds (Packet bytes) older (came_by bytes older (source_of bytes == eid) (is_worn (run_of e older)))
      go true true x y = subst (λ (c : List Own). Adds (Packet bytes) older c) (sym (ap (λ (a : Bool). came_by bytes older a (is_worn (run_of e older))) x ∙ ap (came_by bytes older true) y)) (worn_packet older bytes k y (eqb-true _ _ x))
      go true false x y = subst (λ (c : List Own). Adds (Packet bytes) older c) (sym (ap (λ (a : Bool). came_by bytes older a (is_worn (run_of e older))) x ∙ ap (came_by bytes older true) y)) (own_packet older bytes k y (eqb-true _ _ x))
      go false b x y = subst (λ (c : List Own). Adds (Packet bytes) older c) (sym (ap (λ (a : Bool). came_by bytes older a (is_worn (run_of e older))) x)) (other_packet older bytes k x)

  reply_adds : (older : List Given) (other : ℕ) (bytes : List ℕ) → Follows older → Adds (Reply other bytes) older (concerns eid (Reply other bytes) (run_of e older))
  reply_adds older other bytes k = go (other == eid) refl
    where
      go : (b : Bool) → (other == eid) ≡ b → Adds (Reply other bytes) older (cond (other == eid) (Waits bytes ∷ []) [])
      go true x = subst (λ (b : Bool). Adds (Reply other bytes) older (cond b (Waits bytes ∷ []) [])) (sym x) (record {
        sent = append-nil (sent_to e eid older) ∙ k.sent ∙ sym (append-nil _);
        alike = subst (λ (y : ℕ). AreAlike eid (after_reply y bytes (run_of e older)) (after_reply eid bytes (alone e eid (own_of e eid older)))) (sym (eqb-true _ _ x)) (replied_alike eid bytes _ _ k.alike);
      })
      go false x = subst (λ (b : Bool). Adds (Reply other bytes) older (cond b (Waits bytes ∷ []) [])) (sym x) (record {
        sent = append-nil (sent_to e eid older) ∙ k.sent;
        alike = alike_through eid _ _ _ (other_queued eid other bytes (run_of e older) _ (eqb-false _ _ x)) k.alike;
      })

  adds : (g : Given) (older : List Given) → Follows older → Adds g older (concerns eid g (run_of e older))
  adds (Packet bytes) older k = packet_adds older bytes k
  adds (Reply other bytes) older k = reply_adds older other bytes k
  adds (Seconds seconds) older k = record {
    sent = append-nil (sent_to e eid older) ∙ k.sent ∙ sym (append-nil _);
    alike = ticked_alike eid seconds _ _ k.alike;
  }

  follows : (given : List Given) → Follows given
  follows [] = record {
    sent = refl;
    alike = record { part = refl; connection = sym (found_again eid (new_responding e).connections (connection_of eid (new_responding e).connections) refl); packets = λ own. refl };
  }
  follows (g ∷ older) = (let a = adds g older (follows older) in record { sent = a.sent; alike = a.alike })

pub independent : ConnectionsAreIndependent
independent e eid given = (let k = follows e eid given in (k.sent, k.alike))
