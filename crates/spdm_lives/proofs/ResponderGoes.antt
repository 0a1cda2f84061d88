-- Whatever a responder of a life does, and queued data and time, keep what is kept of the life.
use Rattle.std.proofs.Common.{◌≡◌, ℕ, ◌≤◌, ◌<◌, ◌+◌, ◌==◌, ◌||◌, List, [], ◌∷◌, ◌++◌, length, drop, Bool, true, false, cond, not, map, nat_le, nat_lt, slice_index, Option, Some, None, Result, Ok, Err, refl, sym, ap, ◌∙◌, subst, inl, inr, arith, eqb-true}
use Rattle.std.proofs.lemmas.Bool.{leb-false}
use Rattle.mctp_framing.specs.Cutting.{RouteFields}
use Rattle.mctp_framing.specs.Gathering.{Gathered}
use Rattle.mctp_framing.specs.Gathering.Gathered.{Whole, More, Dropped}
use Rattle.mctp_framing.specs.Packet.{PacketFields, parsed}
use Rattle.responder_machine.proofs.Connected.{count_changed}
use Rattle.responder_machine.proofs.Making.{does_made}
use Rattle.responder_machine.proofs.Runs.{ticked_draws}
use Rattle.responder_machine.specs.Does.{responder_does, clear_chosen, record_chosen}
use Rattle.responder_machine.specs.History as served
use Rattle.responder_machine.specs.History.{draws_of, queue_of}
use Rattle.responder_machine.specs.History.Entry.{Clear, Sealed, Queued, Ticked, Dropped as WasDropped}
use Rattle.responder_machine.specs.Answer.{Free}
use Rattle.responder_machine.specs.Records.{opening_fault}
use Rattle.responder_machine.specs.Responder.{Outcome, after, on_clear, on_record, to_session, in_session, in_session_by, is_repeat, repeats}
use Rattle.responder_machine.specs.Responder.Outcome.{Same, Unopened, Adds}
use Rattle.responder_machine.specs.Session.{Events, session_of, id_in_record, last_of}
use Rattle.spdm_basis.specs.declared.DropCause.TheVariants.{NotOurs}
use Rattle.spdm_basis.specs.declared.causes.record_fault.RecordFault.{RecordFault}
use Rattle.spdm_grammar.specs.declared.told.heard.Heard.{Heard}
use Rattle.spdm_grammar.specs.declared.told.heard.Heard.TheVariants as heard
use Rattle.spdm_grammar.specs.declared.told.heard.ReplyFault.{ReplyFault}
use Rattle.spdm_grammar.specs.declared.told.heard.ReplyFault.TheVariants as reply_fault
use Rattle.spdm_grammar.specs.declared.told.heard.RspIgnored.TheVariants as ignored
use Rattle.spdm_grammar.specs.declared.told.phase.Phase.{Phase}
use Rattle.responder_machine.specs.ResponderLog as served_log
use Rattle.responder_machine.specs.Responding as responding
use Rattle.responder_machine.specs.Responding.{Connection, Responding, RspStep, connection_of, changed, with_history, all_draws, new_connection, responder_hears, ignores, answers, with_taken, reply_fault_of, queues, ticks}
use Rattle.responder_machine.specs.Setup.{RspSetup}
use Rattle.spdm_agreement.proofs.Worlds.Happens.{good_draw}
use Rattle.spdm_agreement.specs.Story.{served_marks}
use Rattle.spdm_basis.specs.declared.PacketFault.{PacketFault}
use Rattle.key_schedule.specs.Purpose.{Purpose}
use Rattle.spdm_agreement.specs.Marks.{Served}
use Rattle.spdm_lives.proofs.Checks.{AllFor, IsServed, served_later, served_checks}
use Rattle.spdm_lives.proofs.LifeKept.{IsHere, IsLife, IsServing, served_grow, responder_life}
use Rattle.spdm_lives.proofs.RequesterDraws.{IsOfLife}
use Rattle.spdm_lives.proofs.ResponderDraws as responder_draws
use Rattle.spdm_machine.proofs.Members.{IsIn, found_in, in_map, map_in}
use Rattle.spdm_machine.specs.Keys.{Draw}
use Rattle.spdm_machine.specs.Packets.{gathered_from, body_type, wear_limit}
use Rattle.spdm_machine.specs.TagLog.{Log}
use Rattle.world_machine.specs.Setup.{WorldSetup}
use Rattle.world_machine.specs.World.{World, SentPacket, told, given}
use Rattle.spdm_agreement.proofs.Worlds.ResponderChanges.{still_apart}

none_compared : (Here : Purpose → Type 0) → AllFor Here []
none_compared Here = record { all = λ p i x. absurd x }

later_compared : (r : RspSetup) (new old all : List Served) (acts : Log) → all ≡ new ++ old → AllFor (IsServed r old) acts → AllFor (IsServed r all) acts
later_compared r new old all acts is f = record { all = λ p i x. subst (λ (m : List Served). IsServed r m p) (sym is) (served_later r new old p (f.all p i x)) }

-- An outcome that adds no clear message with another draw than one of the life.
abbrev IsNew : (first : ℕ) → Outcome → Type 0
IsNew first (Adds (Clear tag t d)) = IsOfLife first d
IsNew first _ = Unit {0}

heard_life : (first : ℕ) (h : served.History) (o : Outcome) → IsNew first o → responder_draws.AreOfLife first h → responder_draws.AreOfLife first (after h o)
heard_life first h (Same body) n k = k
heard_life first h (Unopened body) n k = k
heard_life first h (Adds (Clear tag t d)) n k = (n, k)
heard_life first h (Adds (Sealed tag sealed t reply d)) n k = k
heard_life first h (Adds (Queued bytes)) n k = k
heard_life first h (Adds (Ticked seconds)) n k = k
heard_life first h (Adds (WasDropped id)) n k = k

new_if : (first : ℕ) (b : Bool) (x y : Outcome) → IsNew first x → IsNew first y → IsNew first (cond b x y)
new_if first true x y m n = m
new_if first false x y m n = n

clear_new : (first : ℕ) (r : RspSetup) (h : served.History) (tag : ℕ) (m : List ℕ) (f : Free) (d : Draw) → IsOfLife first d → IsNew first (on_clear r h tag m f d)
unfolding on_clear
clear_new first r h tag m f d of = new_if first (is_repeat (served.kept_of h) tag m) _ _ tt of

by_new : (first : ℕ) (r : RspSetup) (phase : Phase) (s : Events) (f : Free) (tag : ℕ) (m : List ℕ) (d : Draw) (o : Option RecordFault) → IsNew first (in_session_by r phase s f tag m d o)
by_new first r phase s f tag m d (Some fault) = tt
by_new first r phase s f tag m d None = tt

in_new : (first : ℕ) (r : RspSetup) (phase : Phase) (s : Events) (f : Free) (tag : ℕ) (m : List ℕ) (d : Draw) → IsNew first (in_session r phase s f tag m d)
unfolding in_session
in_new first r phase s f tag m d = by_new first r phase s f tag m d (opening_fault r.psk s m)

to_new : (first : ℕ) (r : RspSetup) (phase : Phase) (s : Events) (f : Free) (tag : ℕ) (m : List ℕ) (d : Draw) → IsNew first (to_session r phase s f tag m d)
to_new first r phase [] f tag m d = tt
to_new first r phase (e ∷ s) f tag m d = new_if first (repeats (last_of (e ∷ s)) m) _ (in_session r phase (e ∷ s) f tag m d) tt (in_new first r phase (e ∷ s) f tag m d)

record_new : (first : ℕ) (r : RspSetup) (h : served.History) (tag : ℕ) (m : List ℕ) (f : Free) (d : Draw) → IsNew first (on_record r h tag m f d)
unfolding on_record
record_new first r h tag m f d = new_if first (repeats (served.ended_of h) m) _ _ tt (to_new first r (served.phase_of (served.clear_turns h)) (session_of (id_in_record m) h) f tag m d)

does_new : (first : ℕ) (r : RspSetup) (h : served.History) (tag : ℕ) (body : List ℕ) (d : Draw) → IsOfLife first d → IsNew first (responder_does r h tag body d)
does_new first r h tag body d of = new_if first (slice_index body 0 == 5) _ _ (clear_new first r h tag (drop 1 body) (clear_chosen r h d) d of) (record_new first r h tag (drop 1 body) (record_chosen r h (drop 1 body) d) d)

module _ (w : WorldSetup) (world : World) (k : IsLife w world) where
  abbrev connections : List Connection
  connections = world.responder.connections

  -- The responder may go on like this.
  abbrev Leads : Log → Responding → Type 0
  Leads acts later = (sent : List SentPacket) → IsLife w (record { requesters = world.requesters; responder = later; sent = sent; log = acts ++ world.log })

  -- Nothing but the count of packets changes.
  rests_there : (given : List (List ℕ)) → length world.responder.given ≤ length given → length given ≤ wear_limit → Leads [] (record world.responder { given = given })
  rests_there given more few sent =
      record { apart = k.apart; asks = k.asks; serves = k.serves; wear = (let wear = k.wear in omega arith); few = few; draws = k.draws; first = k.first; requester_of = k.requester_of; end_of = k.end_of; connection_of = k.connection_of; known_of = k.known_of; checks = k.checks }

  few_packets : (packet : List ℕ) → responding.is_worn world.responder ≡ false → length (packet ∷ world.responder.given) ≤ wear_limit
  few_packets packet fresh = (let all : length world.responder.given < wear_limit = leb-false wear_limit (length world.responder.given) fresh in omega arith)

  draw_of_life : responding.is_worn world.responder ≡ false → IsOfLife world.responder.first (responding.next_draw world.responder)
  unfolding responding.next_draw
  draw_of_life fresh =
      let wear = k.wear in
      let draws = k.draws in
      let used = all_draws connections in
      let all : length world.responder.given < wear_limit = leb-false wear_limit (length world.responder.given) fresh in
      let less : used < wear_limit = omega arith in
      record {
        draw = good_draw world.responder.seed (world.responder.first + used) (omega arith);
        low = omega arith;
        high = omega arith;
      }

  ignores_leads : (packet : List ℕ) (told : Heard) → responding.is_worn world.responder ≡ false → Leads (ignores world.responder packet told).acts (ignores world.responder packet told).after
  ignores_leads packet told fresh = rests_there (packet ∷ world.responder.given) (omega arith) (few_packets packet fresh)

  abbrev LeadsOn : RspStep → Type 0
  LeadsOn s = Leads s.acts s.after

  either_leads : (b : Bool) (x y : RspStep) → LeadsOn x → LeadsOn y → LeadsOn (cond b x y)
  either_leads true x y p q = p
  either_leads false x y p q = q

  answers_leads : (c : Connection) → IsIn connections c → (packet : List ℕ) (route : RouteFields) (body : List ℕ) → responding.is_worn world.responder ≡ false
      → LeadsOn (answers world.responder c packet route body (responder_does c.setup c.history route.tag body (responding.next_draw world.responder)))
  answers_leads c is packet route body fresh =
      let d = responding.next_draw world.responder in
      let o = responder_does c.setup c.history route.tag body d in
      let old = k.serves c is in
      let made = does_made c.setup c.history route.tag body d old.made in
      let most = made.most in
      let wear = k.wear in
      let count = count_changed draws_of (λ h. after h o) connections c k.apart.peers is in
      let grown = served_grow c.setup c.history o in
      responder_life w world k c is (served_log.acts_of c.setup c.history body o) (packet ∷ world.responder.given) (with_taken (responding.data_of o) world.responder.taken) (λ h. after h o)
      (record {
        well = record { setup = old.setup; made = made.made; life = heard_life world.responder.first c.history o (does_new world.responder.first c.setup c.history route.tag body d (draw_of_life fresh)) old.life };
        later = grown;
        checks = later_compared c.setup grown.0 (served_marks c.setup c.history) (served_marks c.setup (after c.history o)) _ grown.1 (served_checks c.setup c.history old.made route.tag body d);
        wear = omega arith;
        few = few_packets packet fresh;
      })

  whole_leads : (c : Connection) → IsIn connections c → (packet : List ℕ) (g : Gathered) → responding.is_worn world.responder ≡ false → LeadsOn (responding.hears_gathered world.responder (responding.next_draw world.responder) c packet g)
  whole_leads c is packet (Whole route body) fresh =
      either_leads (not route.owner) (ignores world.responder packet (heard.Ignored ignored.NotRequest)) _ (ignores_leads packet (heard.Ignored ignored.NotRequest) fresh)
      (either_leads (not (body_type body == 5 || body_type body == 6)) (ignores world.responder packet (heard.Ignored ignored.OtherType)) _ (ignores_leads packet (heard.Ignored ignored.OtherType) fresh) (answers_leads c is packet route body fresh))
  whole_leads c is packet More fresh = ignores_leads packet heard.More fresh
  whole_leads c is packet (Dropped cause) fresh = ignores_leads packet (heard.Ignored (ignored.Dropped cause)) fresh

  from_leads : (packet : List ℕ) (fields : PacketFields) (o : Option Connection) → connection_of fields.from connections ≡ o → responding.is_worn world.responder ≡ false → LeadsOn (responding.hears_from world.responder (responding.next_draw world.responder) packet fields o)
  from_leads packet fields None is fresh = ignores_leads packet (heard.Ignored ignored.UnknownPeer) fresh
  from_leads packet fields (Some c) is fresh = whole_leads c (found_in (λ (y : Connection). y.setup.peer == fields.from) connections c is).0 packet (gathered_from c.setup.eid c.setup.peer world.responder.given fields) fresh

  packet_leads : (packet : List ℕ) (p : Result PacketFields PacketFault) → responding.is_worn world.responder ≡ false → LeadsOn (responding.hears_packet world.responder (responding.next_draw world.responder) packet p)
  packet_leads packet (Err fault) fresh = ignores_leads packet (heard.Ignored (ignored.Packet fault)) fresh
  packet_leads packet (Ok fields) fresh =
      either_leads (not (fields.to == world.responder.part.eid)) (ignores world.responder packet (heard.Ignored (ignored.Dropped NotOurs))) _ (ignores_leads packet (heard.Ignored (ignored.Dropped NotOurs)) fresh)
      (from_leads packet fields (connection_of fields.from connections) refl fresh)

  worn_leads : (packet : List ℕ) (worn : Bool) → responding.is_worn world.responder ≡ worn → LeadsOn (cond worn (responding.worn_step world.responder) (responding.hears_packet world.responder (responding.next_draw world.responder) packet (parsed packet)))
  worn_leads packet true e = rests_there world.responder.given (omega arith) k.few
  worn_leads packet false e = packet_leads packet (parsed packet) e

  pub hears_leads : (packet : List ℕ) → LeadsOn (responder_hears world.responder packet)
  unfolding responder_hears
  hears_leads packet = worn_leads packet (responding.is_worn world.responder) refl

  -- ---- Queued data and time.

  pub sent_stays : (sent : List SentPacket) → IsLife w (record world { sent = sent })
  sent_stays sent = record { apart = k.apart; asks = k.asks; serves = k.serves; wear = k.wear; few = k.few; draws = k.draws; first = k.first; requester_of = k.requester_of; end_of = k.end_of; connection_of = k.connection_of; known_of = k.known_of; checks = k.checks }

  roomy : (c : Connection) (bytes : List ℕ) (a b : Bool) → nat_lt 1024 (length bytes) ≡ a → nat_le 16 (length (queue_of c.history)) ≡ b
      → cond a (Some reply_fault.TooLong) (cond b (Some reply_fault.Full) None) ≡ None → (length bytes ≤ 1024) × (length (queue_of c.history) < 16)
  roomy c bytes true b p q e = absurd (cc)
  roomy c bytes false true p q e = absurd (cc)
  roomy c bytes false false p q e =
      let short : length bytes < 1025 = leb-false 1025 (length bytes) p in
      (omega arith, leb-false 16 (length (queue_of c.history)) q)

  queued_at : (c : Connection) → IsIn connections c → (bytes : List ℕ) → length bytes ≤ 1024 → length (queue_of c.history) < 16 → IsLife w (record world { responder = record world.responder { connections = with_history c.setup.peer (λ h. Queued bytes ∷ h) connections } })
  queued_at c is bytes short room =
      let old = k.serves c is in
      let wear = k.wear in
      let count = count_changed draws_of (λ h. Queued bytes ∷ h) connections c k.apart.peers is in
      responder_life w world k c is [] world.responder.given world.responder.taken (λ h. Queued bytes ∷ h)
      (record {
        well = record { setup = old.setup; made = (short, room, old.made); life = old.life };
        later = ([], refl);
        checks = none_compared _;
        wear = omega arith;
        few = k.few;
      }) world.sent

  queues_by : (eid : ℕ) (bytes : List ℕ) (c : Connection) → IsIn connections c → c.setup.peer ≡ eid → (fault : Option ReplyFault) → reply_fault_of (Some c) bytes ≡ fault → IsLife w (record world { responder = queues fault world.responder eid bytes })
  queues_by eid bytes c is peer (Some fault) e = sent_stays world.sent
  queues_by eid bytes c is peer None e =
      let room = roomy c bytes (nat_lt 1024 (length bytes)) (nat_le 16 (length (queue_of c.history))) refl refl e in
      subst (λ (p : ℕ). IsLife w (record world { responder = record world.responder { connections = with_history p (λ h. Queued bytes ∷ h) connections } })) peer (queued_at c is bytes room.0 room.1)

  pub queues_leads : (eid : ℕ) (bytes : List ℕ) (o : Option Connection) → connection_of eid connections ≡ o → IsLife w (record world { responder = queues (reply_fault_of o bytes) world.responder eid bytes })
  queues_leads eid bytes None is = sent_stays world.sent
  queues_leads eid bytes (Some c) is =
      let there = found_in (λ (y : Connection). y.setup.peer == eid) connections c is in
      queues_by eid bytes c there.0 (eqb-true _ _ there.1) (reply_fault_of (Some c) bytes) refl

  abbrev waited : ℕ → Connection → Connection
  waited seconds = changed (λ h. Ticked seconds ∷ h)

  waited_there : (seconds : ℕ) (p : Purpose) → IsHere world.requesters connections p → IsHere world.requesters (map (waited seconds) connections) p
  waited_there seconds p h = elim h [ inl x ↦ inl x | inr x ↦ inr (waited seconds x.0, map_in (waited seconds) connections x.0 x.1, x.2) ]

  pub ticks_leads : (seconds : ℕ) → IsLife w (record world { responder = ticks world.responder seconds })
  ticks_leads seconds = record {
    apart = still_apart world.requesters connections (waited seconds) (λ c. refl) k.apart;
    asks = k.asks;
    serves = λ c m. (let o = in_map (waited seconds) connections c m in let old = k.serves o.0 o.1 in
        subst (IsServing world.responder.first) (sym o.2) (record { setup = old.setup; made = old.made; life = old.life }));
    wear = (let wear = k.wear in let count = ticked_draws seconds connections in omega arith);
    few = k.few;
    draws = k.draws;
    first = k.first;
    requester_of = k.requester_of;
    end_of = k.end_of;
    connection_of = λ q m. (let c = k.connection_of q m in (waited seconds c.0, map_in (waited seconds) connections c.0 c.1, c.2));
    known_of = λ c m. (let o = in_map (waited seconds) connections c m in let q = k.known_of o.0 o.1 in (q.0, q.1, ap (λ (y : Connection). y.setup) o.2 ∙ q.2));
    checks = record { all = λ p i x. waited_there seconds p (k.checks.all p i x) };
  }
