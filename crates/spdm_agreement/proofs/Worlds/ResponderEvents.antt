-- What a responder is given, what is queued for it, and time, keep what holds of a world where nothing agrees by chance.
use Rattle.std.proofs.Common.{◌≡◌, ℕ, ◌<◌, ◌≤◌, ◌+◌, ◌==◌, List, [], ◌∷◌, ◌++◌, length, Bool, true, false, cond, not, ◌||◌, nat_le, nat_lt, Option, Some, None, Result, Ok, Err, map, refl, sym, ap, ◌∙◌, subst, arith, eqb-true}
use Rattle.std.proofs.lemmas.Bool.{leb-false}
use Rattle.mctp_framing.specs.Cutting.{RouteFields}
use Rattle.mctp_framing.specs.Gathering.{Gathered}
use Rattle.mctp_framing.specs.Gathering.Gathered.{Whole, More, Dropped}
use Rattle.mctp_framing.specs.Packet.{PacketFields, parsed}
use Rattle.requester_machine.specs.History as asked
use Rattle.spdm_basis.specs.declared.DropCause.TheVariants.{NotOurs}
use Rattle.spdm_basis.specs.declared.PacketFault.{PacketFault}
use Rattle.spdm_grammar.specs.declared.told.heard.Heard.{Heard}
use Rattle.spdm_grammar.specs.declared.told.heard.Heard.TheVariants as heard
use Rattle.spdm_grammar.specs.declared.told.heard.ReplyFault.{ReplyFault}
use Rattle.spdm_grammar.specs.declared.told.heard.ReplyFault.TheVariants as reply_fault
use Rattle.spdm_grammar.specs.declared.told.heard.RspIgnored.TheVariants as ignored
use Rattle.responder_machine.specs.Does.{responder_does}
use Rattle.responder_machine.specs.Does as serving_made
use Rattle.responder_machine.specs.History as served
use Rattle.responder_machine.specs.History.{History, queue_of, draws_of}
use Rattle.responder_machine.specs.History.Entry.{Queued, Ticked}
use Rattle.responder_machine.specs.Responder.{Outcome, after}
use Rattle.responder_machine.specs.ResponderLog.{acts_of}
use Rattle.responder_machine.specs.Setup.{RspSetup}
use Rattle.requester_machine.specs.Setup.{ReqSetup}
use Rattle.spdm_machine.specs.TagLog.{Act}
use Rattle.world_machine.specs.Chance.{NoChance}
use Rattle.spdm_machine.specs.Packets.{gathered_from, body_type, wear_limit}
use Rattle.requester_machine.specs.Requesting.{Requesting}
use Rattle.responder_machine.specs.Responding as responding
use Rattle.responder_machine.specs.Responding.{Connection, Responding, RspStep, connection_of, changed, with_history, all_draws, responder_hears, ignores, answers, with_taken, reply_fault_of, queues, ticks}
use Rattle.world_machine.specs.World.{World, SentPacket}
use Rattle.spdm_agreement.specs.Claims.{IsReached}
use Rattle.spdm_agreement.proofs.Worlds.Fits.{IsPair, IsServing, Fits, same_key}
use Rattle.spdm_agreement.proofs.Worlds.Happens.{good_draw, below}
use Rattle.spdm_machine.proofs.Members.{IsIn, found_in, in_map}
use Rattle.spdm_agreement.proofs.Worlds.EndSteps.{ServedReady, ServedStep, DoesWell, Waits}
use Rattle.spdm_agreement.proofs.Worlds.Pairs.{state_of}
use Rattle.spdm_agreement.proofs.Worlds.ResponderChanges as changes
use Rattle.responder_machine.proofs.Connected.{count_changed}
use Rattle.spdm_agreement.proofs.Worlds.ResponderChanges.{responder_goes, still_apart}
use Rattle.responder_machine.proofs.Making.{does_made}
use Rattle.spdm_agreement.proofs.Messages.Beginnings.{reading_of}
use Rattle.responder_machine.proofs.Runs.{ticked_draws}
use Rattle.spdm_agreement.specs.Story.{Past}

module _ (prior : Past) (KeptAsked : ReqSetup → asked.History → Type 0) (KeptServed : RspSetup → served.History → Type 0) (world : World) (k : Fits prior KeptAsked KeptServed world) (does_well : DoesWell prior KeptServed) (waits : Waits KeptServed) where
  abbrev connections : List Connection
  connections = world.responder.connections

  -- The responder may go on like this.
  abbrev Goes : List Act → Responding → Type 0
  Goes acts after = (sent : List SentPacket) → NoChance (acts ++ world.log)
      → Fits prior KeptAsked KeptServed (record { requesters = world.requesters; responder = after; sent = sent; log = acts ++ world.log })

  -- Nothing but the count of packets changes.
  rests : (given : List (List ℕ)) → length world.responder.given ≤ length given → Goes [] (record world.responder { given = given })
  rests given more sent n =
      let wear = k.wear in
      record { apart = k.apart; asks = k.asks; serves = k.serves; wear = omega arith; draws = k.draws; owned = k.owned; pairs = k.pairs }

  ready : (x : Connection) (a : Requesting) → IsPair world.requesters connections a x → responding.is_worn world.responder ≡ false
      → ServedReady prior KeptServed x.setup x.history (state_of prior a x world.log).asked world.log (responding.next_draw world.responder)
  unfolding responding.next_draw
  ready x a pair fresh =
      let old = k.serves x pair.connection in
      record {
        setup = old.setup;
        made = old.made;
        kept = old.kept;
        reached = subst (λ (psk : List ℕ). IsReached (reading_of psk) (state_of prior a x world.log)) (sym (same_key world.requesters connections k.apart a x pair)) (k.pairs a x pair);
        fresh = old.fresh;
        draw = good_draw world.responder.seed (world.responder.first + all_draws connections)
            (below world.responder.first wear_limit (all_draws connections) (length world.responder.given) k.draws k.wear fresh);
      }

  draw_number : (responding.next_draw world.responder).number ≡ world.responder.first + all_draws connections
  unfolding responding.next_draw
  draw_number = refl

  -- It goes on by an outcome that is a run of moves.
  goes_by : (x : Connection) → IsIn connections x → (packet body : List ℕ) (o : Outcome) → serving_made.IsMade x.setup (after x.history o)
      → draws_of x.history ≤ draws_of (after x.history o) → draws_of (after x.history o) ≤ draws_of x.history + 1
      → ((a : Requesting) → IsPair world.requesters connections a x → ServedStep prior KeptServed x.setup x.history (state_of prior a x world.log).asked world.log body (responding.next_draw world.responder) o)
      → Goes (acts_of x.setup x.history body o) (record world.responder { given = packet ∷ world.responder.given; taken = with_taken (responding.data_of o) world.responder.taken; connections = with_history x.setup.peer (λ h. after h o) connections })
  goes_by x is packet body o made more most steps sent n =
      let old = k.serves x is in
      let a = k.apart.paired x is in
      let pair : IsPair world.requesters connections a.0 x = record { requester = a.1; connection = is; peer = a.2 } in
      let step = steps a.0 pair in
      let runs = λ (b : Requesting) (its : IsPair world.requesters connections b x). (steps b its).leads in
      let draws = step.draws in
      let number = draw_number in
      let count = count_changed draws_of (λ h. after h o) connections x k.apart.peers is in
      let wear = k.wear in
      responder_goes prior KeptAsked KeptServed world k x is (packet ∷ world.responder.given) (with_taken (responding.data_of o) world.responder.taken) (λ h. after h o) (acts_of x.setup x.history body o) n sent
      (omega arith)
      (omega arith)
      (record {
        setup = old.setup;
        made = made;
        kept = step.keeps (changes.now_reached prior KeptAsked KeptServed world k x is (packet ∷ world.responder.given) (with_taken (responding.data_of o) world.responder.taken) (λ h. after h o) (acts_of x.setup x.history body o) n runs a.0 pair);
        fresh = omega arith;
      })
      runs

  abbrev GoesOn : RspStep → Type 0
  GoesOn s = Goes s.acts s.after

  ignores_goes : (packet : List ℕ) (told : Heard) → GoesOn (ignores world.responder packet told)
  ignores_goes packet told = rests (packet ∷ world.responder.given) (omega arith)

  either : (b : Bool) (x y : RspStep) → GoesOn x → GoesOn y → GoesOn (cond b x y)
  either true x y p q = p
  either false x y p q = q

  answers_goes : (x : Connection) → IsIn connections x → (packet : List ℕ) (route : RouteFields) (body : List ℕ) → responding.is_worn world.responder ≡ false
      → GoesOn (answers world.responder x packet route body (responder_does x.setup x.history route.tag body (responding.next_draw world.responder)))
  answers_goes x is packet route body fresh =
      let made = does_made x.setup x.history route.tag body (responding.next_draw world.responder) (k.serves x is).made in
      goes_by x is packet body (responder_does x.setup x.history route.tag body (responding.next_draw world.responder)) made.made made.more made.most
      (λ a pair. does_well x.setup x.history (state_of prior a x world.log).asked world.log route.tag body (responding.next_draw world.responder) (ready x a pair fresh))

  gathered_goes : (x : Connection) → IsIn connections x → (packet : List ℕ) (g : Gathered) → responding.is_worn world.responder ≡ false → GoesOn (responding.hears_gathered world.responder (responding.next_draw world.responder) x packet g)
  gathered_goes x is packet (Whole route body) fresh =
      either (not route.owner) (ignores world.responder packet (heard.Ignored ignored.NotRequest)) _ (ignores_goes packet (heard.Ignored ignored.NotRequest))
      (either (not (body_type body == 5 || body_type body == 6)) (ignores world.responder packet (heard.Ignored ignored.OtherType)) _ (ignores_goes packet (heard.Ignored ignored.OtherType)) (answers_goes x is packet route body fresh))
  gathered_goes x is packet More fresh = ignores_goes packet heard.More
  gathered_goes x is packet (Dropped cause) fresh = ignores_goes packet (heard.Ignored (ignored.Dropped cause))

  from_goes : (packet : List ℕ) (fields : PacketFields) (o : Option Connection) → connection_of fields.from connections ≡ o → responding.is_worn world.responder ≡ false → GoesOn (responding.hears_from world.responder (responding.next_draw world.responder) packet fields o)
  from_goes packet fields None is fresh = ignores_goes packet (heard.Ignored ignored.UnknownPeer)
  from_goes packet fields (Some x) is fresh = gathered_goes x (found_in (λ (y : Connection). y.setup.peer == fields.from) connections x is).0 packet (gathered_from x.setup.eid x.setup.peer world.responder.given fields) fresh

  parsed_goes : (packet : List ℕ) (p : Result PacketFields PacketFault) → responding.is_worn world.responder ≡ false → GoesOn (responding.hears_packet world.responder (responding.next_draw world.responder) packet p)
  parsed_goes packet (Err fault) fresh = ignores_goes packet (heard.Ignored (ignored.Packet fault))
  parsed_goes packet (Ok fields) fresh = either (not (fields.to == world.responder.part.eid)) (ignores world.responder packet (heard.Ignored (ignored.Dropped NotOurs))) _ (ignores_goes packet (heard.Ignored (ignored.Dropped NotOurs))) (from_goes packet fields (connection_of fields.from connections) refl fresh)

  given_by : (packet : List ℕ) (worn : Bool) → responding.is_worn world.responder ≡ worn → GoesOn (cond worn (responding.worn_step world.responder) (responding.hears_packet world.responder (responding.next_draw world.responder) packet (parsed packet)))
  given_by packet true e = rests world.responder.given (omega arith)
  given_by packet false e = parsed_goes packet (parsed packet) e

  pub given_goes : (packet : List ℕ) → GoesOn (responder_hears world.responder packet)
  unfolding responder_hears
  given_goes packet = given_by packet (responding.is_worn world.responder) refl

  -- ---- Queued data and time.

  -- Data that are queued for one connection.
  queued_at : (x : Connection) → IsIn connections x → (bytes : List ℕ) → length bytes ≤ 1024 → length (queue_of x.history) < 16
      → (n : NoChance world.log) → (sent : List SentPacket)
      → Fits prior KeptAsked KeptServed (record { requesters = world.requesters; responder = record world.responder { connections = with_history x.setup.peer (λ h. Queued bytes ∷ h) connections }; sent = sent; log = world.log })
  queued_at x is bytes short room n sent =
      let old = k.serves x is in
      let count = count_changed draws_of (λ h. Queued bytes ∷ h) connections x k.apart.peers is in
      let wear = k.wear in
      let fresh = old.fresh in
      responder_goes prior KeptAsked KeptServed world k x is world.responder.given world.responder.taken (λ h. Queued bytes ∷ h) [] n sent
      (omega arith)
      (omega arith)
      (record { setup = old.setup; made = (short, room, old.made); kept = (waits x.setup x.history old.made old.kept).0 bytes; fresh = omega arith })
      (λ a pair. ([], tt, refl))

  stays : (sent : List SentPacket) → Fits prior KeptAsked KeptServed (record world { sent = sent })
  stays sent = record { apart = k.apart; asks = k.asks; serves = k.serves; wear = k.wear; draws = k.draws; owned = k.owned; pairs = k.pairs }

  -- The tests of queued data.
  roomy : (x : Connection) (bytes : List ℕ) (a b : Bool) → nat_lt 1024 (length bytes) ≡ a → nat_le 16 (length (queue_of x.history)) ≡ b
      → cond a (Some reply_fault.TooLong) (cond b (Some reply_fault.Full) None) ≡ None → (length bytes ≤ 1024) × (length (queue_of x.history) < 16)
  roomy x bytes true b p q e = absurd (cc)
  roomy x bytes false true p q e = absurd (cc)
  roomy x bytes false false p q e =
      let short : length bytes < 1025 = leb-false 1025 (length bytes) p in
      (omega arith, leb-false 16 (length (queue_of x.history)) q)

  queues_by : (eid : ℕ) (bytes : List ℕ) (x : Connection) → IsIn connections x → x.setup.peer ≡ eid → (fault : Option ReplyFault) → reply_fault_of (Some x) bytes ≡ fault
      → NoChance world.log → Fits prior KeptAsked KeptServed (record world { responder = queues fault world.responder eid bytes })
  queues_by eid bytes x is peer (Some fault) e n = stays world.sent
  queues_by eid bytes x is peer None e n =
      let room = roomy x bytes (nat_lt 1024 (length bytes)) (nat_le 16 (length (queue_of x.history))) refl refl e in
      subst (λ (p : ℕ). Fits prior KeptAsked KeptServed (record world { responder = record world.responder { connections = with_history p (λ h. Queued bytes ∷ h) connections } })) peer
      (queued_at x is bytes room.0 room.1 n world.sent)

  pub queues_goes : (eid : ℕ) (bytes : List ℕ) (o : Option Connection) → connection_of eid connections ≡ o → NoChance world.log
      → Fits prior KeptAsked KeptServed (record world { responder = queues (reply_fault_of o bytes) world.responder eid bytes })
  queues_goes eid bytes None is n = stays world.sent
  queues_goes eid bytes (Some x) is n =
      let there = found_in (λ (y : Connection). y.setup.peer == eid) connections x is in
      queues_by eid bytes x there.0 (eqb-true _ _ there.1) (reply_fault_of (Some x) bytes) refl n

  pub sent_stays : (sent : List SentPacket) → Fits prior KeptAsked KeptServed (record world { sent = sent })
  sent_stays sent = stays sent

module _ (prior : Past) (KeptAsked : ReqSetup → asked.History → Type 0) (KeptServed : RspSetup → served.History → Type 0) (world : World) (k : Fits prior KeptAsked KeptServed world) (waits : Waits KeptServed) (seconds : ℕ) where
  abbrev cs : List Connection
  cs = world.responder.connections

  abbrev later : Connection → Connection
  later = changed (λ h. Ticked seconds ∷ h)

  serves_later : (x : Connection) → IsIn (map later cs) x → IsServing prior KeptAsked KeptServed (world.responder.first + all_draws (map later cs)) x
  serves_later x m =
      let o = in_map later cs x m in
      let old = k.serves o.0 o.1 in
      subst (IsServing prior KeptAsked KeptServed (world.responder.first + all_draws (map later cs))) (sym o.2)
      (record {
        setup = old.setup;
        made = old.made;
        kept = (waits o.0.setup o.0.history old.made old.kept).1 seconds;
        fresh = (let fresh = old.fresh in let count = ticked_draws seconds cs in omega arith);
      })

  pairs_later : (a : Requesting) (x : Connection) → IsPair world.requesters (map later cs) a x → IsReached (reading_of a.setup.psk) (state_of prior a x world.log)
  pairs_later a x pair =
      let o = in_map later cs x pair.connection in
      subst (λ (y : Connection). IsReached (reading_of a.setup.psk) (state_of prior a y world.log)) (sym o.2)
      (k.pairs a o.0 (record { requester = pair.requester; connection = o.1; peer = sym (ap (λ (y : Connection). y.setup.peer) o.2) ∙ pair.peer }))

  pub ticks_goes : Fits prior KeptAsked KeptServed (record world { responder = ticks world.responder seconds })
  ticks_goes = record {
    apart = still_apart world.requesters cs later (λ x. refl) k.apart;
    asks = k.asks;
    serves = serves_later;
    wear = (let wear = k.wear in let count = ticked_draws seconds cs in omega arith);
    draws = k.draws;
    owned = k.owned;
    pairs = pairs_later;
  }
