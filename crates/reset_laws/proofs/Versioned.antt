-- GET_VERSION of an endpoint is taken in every state, and leaves no session.
use Rattle.std.proofs.Common.{inl, inr, refl, ◌≡◌, ◌∙◌, ℕ, List, [], ◌∷◌, Bool, true, false, Option, Some, None, ap, sym, subst, arith, eq-eqb, eqb-true}
use Rattle.std.proofs.lemmas.Bool.{false≢true}
use Rattle.std.proofs.lemmas.Option.{none-some}
use Rattle.std.specs.Prelude.{◌==◌}
use Rattle.mctp_framing.specs.Cutting.{only_packet}
use Rattle.mctp_framing.specs.Gathering.Gathered.{Whole}
use Rattle.mctp_framing.specs.Packet.{PacketFields}
use Rattle.reset_laws.specs.GivenUp.{IsGivenUp, IsGivenUpAt, IsSetUpAt, ResetGivesUp}
use Rattle.responder.proofs.GivenUp.{fresh_fault, worn_fault}
use Rattle.responder.proofs.Reached.{after_reached, run_is}
use Rattle.responder.proofs.Steps.{for_us, fresh_step}
use Rattle.responder.specs.Resetting.{after_reset, request_route, reset_fault, resets, version_packet}
use Rattle.responder.specs.Standing.{ArePeers, IsReached, StandsFor}
use Rattle.responder.specs.declared.peer.Peer.{Peer}
use Rattle.responder.specs.declared.resetting.ResetFault.{ResetFault}
use Rattle.responder.specs.declared.serving.Responder.{Responder}
use Rattle.responder_machine.proofs.Alike.{changed_at}
use Rattle.responder_machine.proofs.Runs.{made_in}
use Rattle.responder_machine.proofs.Under.{live_under}
use Rattle.responder_machine.specs.Does.{IsMade, responder_does}
use Rattle.responder_machine.specs.History.{History, clear_turns, phase_of}
use Rattle.responder_machine.specs.Independence.Given.{Packet}
use Rattle.responder_machine.specs.Responder.{Outcome, after}
use Rattle.responder_machine.specs.Responding.{Connection, Responding, RspStep, answers, changed, connection_of, hears_gathered, is_worn, next_draw, responder_hears}
use Rattle.responder_machine.specs.Session.{Events, is_live, session_of}
use Rattle.responder_machine.specs.Setup.{RspPart, RspSetup}
use Rattle.spdm_agreement.specs.Configured.{IsResponder}
use Rattle.spdm_grammar.specs.declared.told.phase.Phase.{Phase}
use Rattle.spdm_grammar.specs.declared.told.phase.Phase.TheVariants.{Negotiated, Versioned}
use Rattle.spdm_machine.proofs.Members.{IsIn, found_in}
use Rattle.spdm_machine.specs.Bodies.{clear_body}
use Rattle.spdm_machine.specs.Packets.{fields_in, gathered_from}
use Rattle.spdm_progress.proofs.OnePacket.{packet_gathered, packet_read}
use Rattle.spdm_progress.proofs.ResponderBegins.{awaits_version}
use Rattle.spdm_progress.proofs.ResponderStages.{get_version, version_answered}

-- ---- No session is live before the negotiation.

none_live : (s : Events) (b : Bool) → is_live s ≡ b → b ≡ false → s ≡ []
none_live [] b is dead = refl
none_live (e ∷ s) b is dead = absurd (false≢true (sym dead ∙ sym is))

not_negotiated : (phase : Phase) → phase ≡ Versioned → phase ≡ Negotiated → ⊥
not_negotiated phase e f = cc

given_up : (r : RspSetup) (h : History) → IsMade r h → phase_of (clear_turns h) ≡ Versioned → IsGivenUp h
given_up r h made versioned = record { phase = versioned; sessions = λ id. by_live id (is_live (session_of id h)) refl }
  where
    by_live : (id : ℕ) (b : Bool) → is_live (session_of id h) ≡ b → session_of id h ≡ []
    by_live id true live = absurd (not_negotiated (phase_of (clear_turns h)) versioned (live_under r h id made live).0)
    by_live id false dead = none_live (session_of id h) false dead refl

-- ---- The connection of an endpoint.

own_in : (p : RspPart) (given : List PacketFields) (xs : List Peer) (cs : List Connection) → ArePeers xs p given cs → (c : Connection) → IsIn cs c → c.setup.eid ≡ p.eid
own_in p given [] [] are c m = absurd m
own_in p given [] (d ∷ cs) are c m = absurd are
own_in p given (x ∷ xs) [] are c m = absurd are
own_in p given (x ∷ xs) (d ∷ cs) are c m = elim m [
  | inl e ↦ ap (λ (y : Connection). y.setup.eid) e ∙ ap (λ (s : RspSetup). s.eid) are.0.setup
  | inr l ↦ own_in p given xs cs are.1 c l
]

-- ---- GET_VERSION is taken.

module _ (r : Responding) (eid : ℕ) (c : Connection) (found : connection_of eid r.connections ≡ Some c) (fresh : is_worn r ≡ false) (own : c.setup.eid ≡ r.part.eid) (reached : IsReached r) (set_up : IsResponder c.setup) where
  abbrev packet : List ℕ
  packet = version_packet r.part.eid eid

  abbrev fields : PacketFields
  fields = only_packet (request_route r.part.eid eid) (clear_body get_version)

  abbrev outcome : Outcome
  outcome = responder_does c.setup c.history 0 (clear_body get_version) (next_draw r)

  here : IsIn r.connections c × ((c.setup.peer == eid) ≡ true)
  here = found_in (λ (y : Connection). y.setup.peer == eid) r.connections c found

  peer_is : c.setup.peer ≡ eid
  peer_is = eqb-true c.setup.peer eid here.1

  made : IsMade c.setup c.history
  made = made_in r.connections (run_is r reached).made c here.0

  gathered : gathered_from c.setup.eid c.setup.peer r.given fields ≡ Whole (request_route r.part.eid eid) (clear_body get_version)
  gathered =
      ap (λ (n : ℕ). gathered_from n c.setup.peer r.given fields) own
      ∙ ap (λ (n : ℕ). gathered_from r.part.eid n r.given fields) peer_is
      ∙ packet_gathered r.part.eid eid true 0 r.given get_version (omega arith)

  hears : responder_hears r packet ≡ answers r c packet (request_route r.part.eid eid) (clear_body get_version) outcome
  hears =
      fresh_step r packet fresh
      ∙ for_us r (next_draw r) packet fields (Some c) (packet_read r.part.eid eid true 0 get_version (omega arith)) (eq-eqb r.part.eid r.part.eid refl) found
      ∙ ap (hears_gathered r (next_draw r) c packet) gathered

  later : connection_of eid (responder_hears r packet).after.connections ≡ Some (changed (λ h. after h outcome) c)
  later = ap (λ (s : RspStep). connection_of eid s.after.connections) hears ∙ changed_at eid c.setup.peer (λ h. after h outcome) r.connections c peer_is found

  made_later : IsMade c.setup (after c.history outcome)
  made_later =
      let r' = (responder_hears r packet).after in
      let m = found_in (λ (y : Connection). y.setup.peer == eid) r'.connections (changed (λ h. after h outcome) c) later in
      made_in r'.connections (run_is r' (after_reached r (Packet packet) reached)).made (changed (λ h. after h outcome) c) m.0

  pub gives_up : IsGivenUpAt (connection_of eid (responder_hears r packet).after.connections)
  gives_up =
      let least = set_up.sizes.least in
      let answered = version_answered c.setup c.history 0 (next_draw r) least (awaits_version c.setup c.history set_up made) in
      subst (λ (o : Option Connection). IsGivenUpAt o) (sym later) (given_up c.setup (after c.history outcome) made_later answered.leaves.phase_is)

-- ---- The law.

by_connection : (seen : Responder) (r : Responding) (eid : ℕ) → StandsFor seen r → is_worn r ≡ false → (o : Option Connection) → connection_of eid r.connections ≡ o → IsSetUpAt o → reset_fault eid r ≡ None
    → IsGivenUpAt (connection_of eid (after_reset eid r).connections)
by_connection seen r eid stands fresh None is set_up none = absurd (none-some _ (sym none ∙ fresh_fault eid r None fresh is))
by_connection seen r eid stands fresh (Some c) is set_up none =
    let m = (found_in (λ (y : Connection). y.setup.peer == eid) r.connections c is).0 in
    let own = own_in r.part (fields_in r.given) seen.peers.items r.connections stands.peers c m in
    subst (λ (o : Option ResetFault). IsGivenUpAt (connection_of eid (resets o r eid).connections)) (sym none) (gives_up r eid c is fresh own stands.reached set_up)

by_wear : (seen : Responder) (r : Responding) (eid : ℕ) → StandsFor seen r → IsSetUpAt (connection_of eid r.connections) → reset_fault eid r ≡ None → (b : Bool) → is_worn r ≡ b
    → IsGivenUpAt (connection_of eid (after_reset eid r).connections)
by_wear seen r eid stands set_up none true worn = absurd (none-some _ (sym none ∙ worn_fault eid r worn))
by_wear seen r eid stands set_up none false fresh = by_connection seen r eid stands fresh (connection_of eid r.connections) refl set_up none

pub resets_give_up : ResetGivesUp
resets_give_up seen r eid stands set_up none = by_wear seen r eid stands set_up none (is_worn r) refl
