-- A packet whose request is refused is harmless, and one of which nothing is taken changes no connection.
use Rattle.std.proofs.Common.{refl, ◌≡◌, ◌∙◌, ℕ, List, [], ◌∷◌, drop, Bool, true, false, cond, not, Option, Some, None, ap, sym, subst}
use Rattle.std.specs.Prelude.{◌==◌, ◌||◌, slice_index}
use Rattle.responder_core.proofs.Harmless.{clear_harmless, record_harmless}
use Rattle.responder_core.proofs.Outcomes.{by_clear, by_record}
use Rattle.mctp_framing.specs.Gathering.{Gathered}
use Rattle.mctp_framing.specs.Gathering.Gathered.{Dropped, More, Whole}
use Rattle.mctp_framing.specs.Packet.{PacketFields, fields_of, packet_fault, fault_or, parsed}
use Rattle.responder.specs.Unharmed.{IsHarmless, IsHarmlessBy, IsRefusedAt}
use Rattle.responder_machine.specs.Answer.{Free}
use Rattle.responder_machine.specs.Does.{clear_chosen, clear_does, record_chosen, record_does, responder_does}
use Rattle.responder_machine.specs.EndLaws.{source_of}
use Rattle.responder_machine.specs.Heard.{heard_in, heard_of, no_id, record_id}
use Rattle.responder_machine.specs.Refusal.{code_of}
use Rattle.responder_machine.specs.Turn.{Turn, is_data}
use Rattle.spdm_basis.specs.declared.values.session_id.SessionId.{SessionId}
use Rattle.spdm_grammar.specs.declared.messages.error_code.ErrorCode.{ErrorCode}
use Rattle.std.proofs.lemmas.Bool.{true≢false}
use Rattle.responder_machine.specs.History.{History, kept_of}
use Rattle.responder_machine.specs.Place.{clear_place}
use Rattle.responder_machine.specs.Handling.{turn_of}
use Rattle.responder_machine.specs.Responder.{Outcome, after, body_of, is_repeat, kept_reply, on_clear, on_record, session_turn}
use Rattle.responder_machine.specs.Responder.Outcome.{Adds, Same}
use Rattle.responder_machine.specs.History.Entry.{Clear}
use Rattle.responder_machine.specs.Responding.{Connection, Responding, RspStep, answers, changed, connection_of, hears_from, hears_gathered, hears_packet, ignores, is_worn, next_draw, responder_hears, with_history, worn_step}
use Rattle.responder_machine.specs.SameSession.{IsSameSession}
use Rattle.responder_machine.specs.Session.{Events, session_of}
use Rattle.responder_machine.specs.Setup.{RspSetup}
use Rattle.spdm_basis.specs.declared.DropCause.TheVariants.{NotOurs}
use Rattle.spdm_basis.specs.declared.PacketFault.{PacketFault}
use Rattle.spdm_grammar.specs.declared.told.heard.Heard.{Heard}
use Rattle.spdm_grammar.specs.declared.told.heard.Heard.TheVariants as heard
use Rattle.spdm_grammar.specs.declared.told.heard.RspIgnored.TheVariants as ignored
use Rattle.spdm_machine.specs.Bodies.{clear_body, record_body}
use Rattle.spdm_machine.specs.Keys.{Draw}
use Rattle.spdm_machine.specs.Packets.{body_type, gathered_from}

same_session : (old new : Events) → new ≡ old → IsSameSession old new
same_session old new is = subst (IsSameSession old) (sym is) (record {
  live = refl;
  stage = refl;
  id = refl;
  period = refl;
  handshake = refl;
  transcript = refl;
  requests = λ psk. refl;
  responses = λ psk. refl;
  request_updates = refl;
  response_updates = refl;
  negotiation = refl;
  terms = refl;
  taken = refl;
  pending = λ transfer. refl;
  handle = refl;
  given = refl;
  larges = refl;
  chunks = refl;
})

-- ---- Outcomes.

clear_sent : (b : Bool) (x : List ℕ) (tag : ℕ) (t : Turn) (d : Draw) → clear_body (drop 1 (body_of (cond b (Same (clear_body x)) (Adds (Clear tag t d))))) ≡ body_of (cond b (Same (clear_body x)) (Adds (Clear tag t d)))
clear_sent true x tag t d = refl
clear_sent false x tag t d = refl

clear_bytes : (r : RspSetup) (h : History) (tag : ℕ) (m : List ℕ) (f : Free) (d : Draw) → clear_body (drop 1 (body_of (on_clear r h tag m f d))) ≡ body_of (on_clear r h tag m f d)
unfolding on_clear
clear_bytes r h tag m f d = clear_sent (is_repeat (kept_of h) tag m) (kept_reply (kept_of h)) tag (turn_of r (clear_place h) m f) d

-- Nothing is taken of what is reported so.
tells_nothing : Heard → Bool
tells_nothing heard.Same = true
tells_nothing heard.Unopened = true
tells_nothing heard.More = true
tells_nothing (heard.Ignored cause) = true
tells_nothing _ = false

tells_refused : Heard → Bool
tells_refused (heard.Refused code) = true
tells_refused _ = false

taken_or : (b : Bool) (id : SessionId) (code : ℕ) → tells_nothing (cond b (heard.Taken id) (heard.Answered code)) ≡ false
unfolding tells_nothing
taken_or true id code = refl
taken_or false id code = refl

entry_told : (t : Turn) (id : SessionId) (x : Option ErrorCode) → tells_nothing (heard_in t id x) ≡ false
unfolding tells_nothing
entry_told t id (Some e) = refl
entry_told t id None = taken_or (is_data t.effect) id (code_of t.message)

-- What is said of the outcome of a body.
record Facts (h : History) (o : Outcome) : Type 0 where
  refused : (code : ℕ) → heard.Refused code ≡ heard_of o → IsRefusedAt h o code
  still : tells_nothing (heard_of o) ≡ true → (other : History) → after other o ≡ other

clear_facts : (r : RspSetup) (h : History) (tag : ℕ) (m : List ℕ) (f : Free) (d : Draw) → Facts h (on_clear r h tag m f d)
clear_facts r h tag m f d = record {
  refused = λ code is. (let harmless = clear_harmless r h tag m f d (heard.Refused code) (drop 1 (body_of (on_clear r h tag m f d))) is (clear_bytes r h tag m f d) in
      record { error = harmless.error; told = harmless.told; sessions = λ id. same_session (session_of id h) _ (harmless.sessions id); connection = harmless.connection });
  still = by_clear r h tag m f d (λ (o : Outcome). tells_nothing (heard_of o) ≡ true → (other : History) → after other o ≡ other) (λ body is other. refl)
      (λ is other. absurd (true≢false (sym is ∙ entry_told (turn_of r (clear_place h) m f) no_id (turn_of r (clear_place h) m f).refused)));
}

record_bytes : (r : RspSetup) (h : History) (tag : ℕ) (sealed : List ℕ) (f : Free) (d : Draw) (code : ℕ) → heard.Refused code ≡ heard_of (on_record r h tag sealed f d) → body_of (on_record r h tag sealed f d) ≡ record_body (drop 1 (body_of (on_record r h tag sealed f d)))
unfolding tells_refused
record_bytes r h tag sealed f d code =
    by_record r h tag sealed f d (λ (o : Outcome). heard.Refused code ≡ heard_of o → body_of o ≡ record_body (drop 1 (body_of o))) (λ body is. absurd (true≢false (ap tells_refused is))) (λ body is. absurd (true≢false (ap tells_refused is)))
    (λ s inner reply is. refl)

record_facts : (r : RspSetup) (h : History) (tag : ℕ) (sealed : List ℕ) (f : Free) (d : Draw) → Facts h (on_record r h tag sealed f d)
record_facts r h tag sealed f d = record {
  refused = λ code is. (let harmless = record_harmless r h tag sealed f d (heard.Refused code) (body_of (on_record r h tag sealed f d)) (drop 1 (body_of (on_record r h tag sealed f d))) is refl (λ other told. record_bytes r h tag sealed f d code is) in
      record { error = harmless.error; told = harmless.told; sessions = harmless.sessions; connection = harmless.connection });
  still = by_record r h tag sealed f d (λ (o : Outcome). tells_nothing (heard_of o) ≡ true → (other : History) → after other o ≡ other) (λ body is other. refl) (λ body is other. refl)
      (λ s inner reply is other. absurd (true≢false (sym is ∙ entry_told (session_turn r s inner f) (record_id sealed) (session_turn r s inner f).refused)));
}

either_facts : (h : History) (b : Bool) (x y : Outcome) → Facts h x → Facts h y → Facts h (cond b x y)
either_facts h true x y p q = p
either_facts h false x y p q = q

body_facts : (r : RspSetup) (h : History) (tag : ℕ) (body : List ℕ) (d : Draw) → Facts h (responder_does r h tag body d)
body_facts r h tag body d =
    either_facts h (slice_index body 0 == 5) (clear_does r h tag (drop 1 body) d) (record_does r h tag (drop 1 body) d)
    (clear_facts r h tag (drop 1 body) (clear_chosen r h d) d) (record_facts r h tag (drop 1 body) (record_chosen r h (drop 1 body) d) d)

-- ---- Steps.

unchanged_by : (eid : ℕ) (f : History → History) (cs : List Connection) → ((h : History) → f h ≡ h) → with_history eid f cs ≡ cs
unchanged_by eid f [] still = refl
unchanged_by eid f (c ∷ others) still = ap (λ (d : Connection). d ∷ with_history eid f others) (same (c.setup.peer == eid)) ∙ ap (λ (ds : List Connection). c ∷ ds) (unchanged_by eid f others still)
  where
    same : (b : Bool) → cond b (changed f c) c ≡ c
    same true = ap (λ (h : History). record c { history = h }) (still c.history)
    same false = refl

abbrev IsHarmlessStep : Responding → List ℕ → RspStep → Type 0
IsHarmlessStep r packet s = IsHarmlessBy r packet s.after.connections s.heard

either_step : (r : Responding) (packet : List ℕ) (b : Bool) (x y : RspStep) → IsHarmlessStep r packet x → IsHarmlessStep r packet y → IsHarmlessStep r packet (cond b x y)
either_step r packet true x y p q = p
either_step r packet false x y p q = q

by_told : (r : Responding) (packet : List ℕ) (c : Connection) (o : Outcome) → connection_of (source_of packet) r.connections ≡ Some c → Facts c.history o → (told : Heard) → told ≡ heard_of o
    → IsHarmlessBy r packet (with_history c.setup.peer (λ h. after h o) r.connections) told
unfolding tells_nothing
by_told r packet c o found facts (heard.Refused code) is = record { c = c; outcome = o; found = found; refused = facts.refused code is; others = refl }
by_told r packet c o found facts heard.Same is = unchanged_by c.setup.peer (λ h. after h o) r.connections (facts.still (ap tells_nothing (sym is)))
by_told r packet c o found facts heard.Unopened is = unchanged_by c.setup.peer (λ h. after h o) r.connections (facts.still (ap tells_nothing (sym is)))
by_told r packet c o found facts heard.More is = unchanged_by c.setup.peer (λ h. after h o) r.connections (facts.still (ap tells_nothing (sym is)))
by_told r packet c o found facts (heard.Ignored cause) is = unchanged_by c.setup.peer (λ h. after h o) r.connections (facts.still (ap tells_nothing (sym is)))
by_told r packet c o found facts (heard.Answered code) is = tt
by_told r packet c o found facts (heard.Taken id) is = tt

module _ (r : Responding) (d : Draw) (packet : List ℕ) where
  by_gathered : (c : Connection) (g : Gathered) → connection_of (source_of packet) r.connections ≡ Some c → IsHarmlessStep r packet (hears_gathered r d c packet g)
  by_gathered c (Whole route body) found =
      let o : Outcome = responder_does c.setup c.history route.tag body d in
      either_step r packet (not route.owner) (ignores r packet (heard.Ignored ignored.NotRequest)) _ refl
      (either_step r packet (not (body_type body == 5 || body_type body == 6)) (ignores r packet (heard.Ignored ignored.OtherType)) (answers r c packet route body o) refl
      (by_told r packet c o found (body_facts c.setup c.history route.tag body d) (heard_of o) refl))
  by_gathered c More found = refl
  by_gathered c (Dropped cause) found = refl

  by_connection : (fields : PacketFields) (o : Option Connection) → connection_of (source_of packet) r.connections ≡ o → IsHarmlessStep r packet (hears_from r d packet fields o)
  by_connection fields None found = refl
  by_connection fields (Some c) found = by_gathered c (gathered_from c.setup.eid c.setup.peer r.given fields) found

  by_fault : (fault : Option PacketFault) → IsHarmlessStep r packet (hears_packet r d packet (fault_or fault (fields_of packet)))
  by_fault (Some fault) = refl
  by_fault None =
      either_step r packet (not ((fields_of packet).to == r.part.eid)) (ignores r packet (heard.Ignored (ignored.Dropped NotOurs))) _ refl
      (by_connection (fields_of packet) (connection_of (source_of packet) r.connections) refl)

pub harmless : (r : Responding) (packet : List ℕ) → IsHarmless r packet (responder_hears r packet).heard
unfolding responder_hears
harmless r packet = either_step r packet (is_worn r) (worn_step r) (hears_packet r (next_draw r) packet (parsed packet)) refl (by_fault r (next_draw r) packet (packet_fault packet))
