-- A pair of ends as a world shows it, and what one packet of a body of any length makes of it.
use Rattle.std.proofs.Common.{◌≡◌, ◌∙◌, ℕ, suc, ◌<◌, ◌+◌, ◌==◌, ◌||◌, List, [], ◌∷◌, ◌++◌, length, drop, find, Bool, true, false, Option, Some, Result, Ok, unwrap_or, refl, sym, ap, subst, inl, arith, eq-eqb}
use Rattle.spdm_basis.proofs.Bools.{lt_false}
use Rattle.std.specs.Prelude.{if◌then◌else◌}
use Rattle.mctp_framing.proofs.Packets.{packets_from, no_packets_from}
use Rattle.mctp_framing.specs.Cutting.{RouteFields, packet_count}
use Rattle.mctp_framing.specs.Gathering.{Gathered}
use Rattle.mctp_framing.specs.Gathering.Gathered.{Whole, More}
use Rattle.mctp_framing.specs.Packet.{PacketFields, spelled_packet, parsed}
use Rattle.spdm_basis.specs.declared.PacketFault.{PacketFault}
use Rattle.spdm_basis.specs.declared.DropCause.TheVariants.{NotOurs}
use Rattle.spdm_grammar.specs.Lines.{Line}
use Rattle.spdm_grammar.specs.declared.told.event.Event.TheVariants as event
use Rattle.spdm_grammar.specs.declared.told.heard.Heard.TheVariants as heard
use Rattle.spdm_grammar.specs.declared.told.heard.RspIgnored.TheVariants as ignored
use Rattle.spdm_machine.specs.Keys.{Draw}
use Rattle.spdm_machine.specs.Packets.{body_type, gathered_from, packets_to, wear_limit}
use Rattle.spdm_machine.specs.TagLog.{Log}
use Rattle.spdm_machine.proofs.Members.{IsIn}
use Rattle.requester_machine.specs.Does.{requester_hears}
use Rattle.requester_machine.specs.History as asked
use Rattle.requester_machine.specs.RequesterLog as asked_log
use Rattle.requester_machine.specs.Requesting as asking
use Rattle.requester_machine.specs.Requesting.{Requesting, packets_of_sent}
use Rattle.requester_machine.specs.Shown as shown
use Rattle.responder_machine.proofs.Alike.{changed_at}
use Rattle.responder_machine.specs.Does.{responder_does}
use Rattle.responder_machine.specs.History as served
use Rattle.responder_machine.specs.Responder.{after, body_of}
use Rattle.responder_machine.specs.ResponderLog as served_log
use Rattle.responder_machine.specs.Responding as serving
use Rattle.responder_machine.specs.Responding.{Connection, Responding, RspStep, answers, connection_of, responder_hears}
use Rattle.responder_machine.specs.Setup.{RspPart}
use Rattle.world_machine.specs.World.{World, WorldStep, is_at, number_at, packet_of, requester_of, given, given_to_requester, given_to_responder, with_sent, without_waiting, delivers}
use Rattle.spdm_progress.proofs.AtResponder.{ours}
use Rattle.spdm_progress.proofs.Aside.{IsAside}
use Rattle.spdm_progress.proofs.Between.{IsStill}
use Rattle.spdm_progress.proofs.ComingSteps.{gathers_as, to_requester}
use Rattle.spdm_progress.proofs.Drawn.{draws_whole}
use Rattle.spdm_progress.proofs.ManyPackets.{Came, FirstWaits, IsBody, first_waits, last_gathers, more_gathers, nth, nth_read, one_came, sent_waits, waiting_in}
use Rattle.spdm_progress.proofs.OnePacket.{route_to}
use Rattle.spdm_progress.proofs.PacketSteps.{Pair, AreEnds, asker, either_first, not_worn, server}
use Rattle.spdm_progress.proofs.Places.{found_new, number_new, of_new, of_same}
use Rattle.spdm_progress.proofs.Waiting.{none_more}

-- What two ends were given and hold, and the tags that all ends computed and compared.
pub record View : Type 0 where
  pub given : List (List ℕ)
  pub commands : ℕ
  pub asked : asked.History
  pub served : served.History
  pub received : List (List ℕ)
  pub log : Log

-- A world shows it, these packets wait, in order, and this holds of what stands aside.
pub record Shows (p : Pair) (Aside : World → Type 0) (v : View) (waiting : List (List ℕ)) (world : World) : Type 0 where
  pub is_requester : requester_of p.number world ≡ Some (asker p v.given v.commands v.asked)
  pub found : find (is_at p.requester.eid) world.requesters ≡ Some (asker p v.given v.commands v.asked)
  pub number_is : number_at p.requester.eid world ≡ p.number
  pub is_connection : connection_of p.requester.eid world.responder.connections ≡ Some (server p v.served)
  pub own : world.responder.part.eid ≡ p.responder.eid
  pub received : world.responder.given ≡ v.received
  pub log : world.log ≡ v.log
  pub waits : waiting_in world.sent ≡ waiting
  pub aside : Aside world

-- What the responder took besides is as before, where the connection is alike.
pub shows_still : (p : Pair) (Aside : World → Type 0) → IsAside p Aside → (v : View) (waiting : List (List ℕ)) (world : World) (r : Responding) → IsStill world r → (h : served.History) → r.part ≡ world.responder.part → r.given ≡ world.responder.given → connection_of p.requester.eid r.connections ≡ Some (server p h)
    → Shows p Aside v waiting world → Shows p Aside (record v { served = h }) waiting (record world { responder = r })
shows_still p Aside aside v waiting world r still h part given is s = record {
  is_requester = of_same p.number world _ _ refl s.is_requester;
  found = s.found;
  number_is = s.number_is;
  is_connection = is;
  own = ap (λ (part : RspPart). part.eid) part ∙ s.own;
  received = given ∙ s.received;
  log = s.log;
  waits = s.waits;
  aside = aside.still world r still s.aside;
}

-- The world in which a packet waits no longer.
stopped : (p : Pair) (Aside : World → Type 0) → IsAside p Aside → (v : View) (waiting rest : List (List ℕ)) (place : ℕ) (world : World) → waiting_in (without_waiting (suc place) world).sent ≡ rest → Shows p Aside v waiting world → Shows p Aside v rest (without_waiting (suc place) world)
stopped p Aside aside v waiting rest place world behind s = record {
  is_requester = of_same p.number world _ _ refl s.is_requester;
  found = s.found;
  number_is = s.number_is;
  is_connection = s.is_connection;
  own = s.own;
  received = s.received;
  log = s.log;
  waits = behind;
  aside = aside.packets world world.responder (without_waiting (suc place) world).sent refl s.aside;
}

-- ---- A packet to the responder.

-- A responder that gathers a packet does what that leads to.
gathers_there : (r : Responding) (c : Connection) (f : PacketFields) (g : Gathered) → serving.is_worn r ≡ false → parsed (spelled_packet f) ≡ Ok f → f.to ≡ r.part.eid → connection_of f.from r.connections ≡ Some c → gathered_from c.setup.eid c.setup.peer r.given f ≡ g
    → responder_hears r (spelled_packet f) ≡ serving.hears_gathered r (serving.next_draw r) c (spelled_packet f) g
unfolding responder_hears
gathers_there r c f g fresh read own is gathered =
    let packet = spelled_packet f in
    ap (λ (b : Bool). if b then serving.worn_step r else serving.hears_packet r (serving.next_draw r) packet (parsed packet)) fresh
    ∙ ap (λ (x : Result PacketFields PacketFault). serving.hears_packet r (serving.next_draw r) packet x) read
    ∙ ours (f.to == r.part.eid) (serving.ignores r packet (heard.Ignored (ignored.Dropped NotOurs))) (serving.hears_from r (serving.next_draw r) packet f (connection_of f.from r.connections)) (eq-eqb f.to r.part.eid own)
    ∙ ap (λ (o : Option Connection). serving.hears_from r (serving.next_draw r) packet f o) is
    ∙ ap (λ (x : Gathered). serving.hears_gathered r (serving.next_draw r) c packet x) gathered

-- A whole request of a known type is answered.
typed_answers : (r : Responding) (c : Connection) (packet : List ℕ) (route : RouteFields) (body : List ℕ) → route.owner ≡ true → (body_type body == 5 || body_type body == 6) ≡ true
    → serving.hears_whole r (serving.next_draw r) c packet route body ≡ answers r c packet route body (responder_does c.setup c.history route.tag body (serving.next_draw r))
typed_answers r c packet route body owner typed = rw (owner, typed) refl

to_responder : (world : World) (f : PacketFields) → f.to ≡ world.responder.part.eid → given world (spelled_packet f) ≡ given_to_responder world (spelled_packet f) (responder_hears world.responder (spelled_packet f))
to_responder world f own =
    either_first _ (f.to == world.responder.part.eid) _ _ _ (lt_false (length (spelled_packet f)) 2 (omega arith)) (eq-eqb f.to world.responder.part.eid own)

next_done : (done : ℕ) → done + 1 ≡ suc done
next_done done = omega arith

module _ (p : Pair) (ends : AreEnds p) (Aside : World → Type 0) (aside : IsAside p Aside) (tag : ℕ) (body : List ℕ) (small : tag < 8) (whole : IsBody body) where
  -- ---- The packets of a request.

  pub requester_some : 0 < p.requester.unit
  requester_some = (let unit = ends.requester_unit in omega arith)

  abbrev pub request_packets : List (List ℕ)
  request_packets = packets_to p.responder.eid p.requester.eid true tag p.requester.unit body

  abbrev request_nth : ℕ → PacketFields
  request_nth k = nth p.responder.eid p.requester.eid true tag p.requester.unit body small requester_some whole k

  abbrev pub RequestCame : ℕ → List (List ℕ) → Type 0
  RequestCame k given = Came p.responder.eid p.requester.eid true tag p.requester.unit body small requester_some whole k given

  -- So many packets of a request were given; this one and so many more wait.
  pub record RequestComes (done left : ℕ) (v : View) (world : World) : Type 0 where
    pub sum : done + suc left ≡ packet_count p.requester.unit body
    pub shows : Shows p Aside v (drop done request_packets) world
    pub came : RequestCame done v.received

  pub first_request : (done left : ℕ) (v : View) (world : World) → RequestComes done left v world → FirstWaits (spelled_packet (request_nth done)) (drop (done + 1) request_packets) world.sent
  first_request done left v world x =
      let sum = x.sum in
      first_waits world.sent (spelled_packet (request_nth done)) (drop (done + 1) request_packets)
      (x.shows.waits ∙ packets_from (route_to p.responder.eid p.requester.eid true tag) p.requester.unit body done (omega arith))

  reaches_responder : (done : ℕ) (v : View) (waiting : List (List ℕ)) (world : World) (g : Gathered) → length v.received < wear_limit → Shows p Aside v waiting world → gathered_from p.responder.eid p.requester.eid v.received (request_nth done) ≡ g
      → given world (spelled_packet (request_nth done)) ≡ given_to_responder world (spelled_packet (request_nth done)) (serving.hears_gathered world.responder (serving.next_draw world.responder) (server p v.served) (spelled_packet (request_nth done)) g)
  reaches_responder done v waiting world g life s is =
      to_responder world (request_nth done) (sym s.own)
      ∙ ap (given_to_responder world (spelled_packet (request_nth done)))
      (gathers_there world.responder (server p v.served) (request_nth done) g
      (ap (λ (given : List (List ℕ)). serving.is_worn (record world.responder { given = given })) s.received ∙ not_worn (length v.received) wear_limit life)
      (nth_read p.responder.eid p.requester.eid true tag p.requester.unit body small requester_some whole done) (sym s.own) s.is_connection
      (ap (λ (peer : ℕ). gathered_from p.responder.eid peer world.responder.given (request_nth done)) ends.peer
      ∙ ap (λ (given : List (List ℕ)). gathered_from p.responder.eid p.requester.eid given (request_nth done)) s.received ∙ is))

  abbrev request_given : ℕ → View → View
  request_given done v = record v { received = spelled_packet (request_nth done) ∷ v.received }

  more_at : (done : ℕ) (v : View) (rest : List (List ℕ)) (world : World) → Shows p Aside v rest world
      → Shows p Aside (request_given done v) rest (given_to_responder world (spelled_packet (request_nth done)) (serving.ignores world.responder (spelled_packet (request_nth done)) heard.More)).after
  more_at done v rest world s = record {
    is_requester = of_same p.number world _ _ refl s.is_requester;
    found = s.found;
    number_is = s.number_is;
    is_connection = s.is_connection;
    own = s.own;
    received = ap (λ (given : List (List ℕ)). spelled_packet (request_nth done) ∷ given) s.received;
    log = s.log;
    waits = ap waiting_in (none_more world.sent) ∙ s.waits;
    aside = aside.packets world (serving.ignores world.responder (spelled_packet (request_nth done)) heard.More).after (with_sent world.sent []) refl s.aside;
  }

  more_given : (done left : ℕ) (v : View) (world : World) → done + suc (suc left) ≡ packet_count p.requester.unit body → length v.received < wear_limit → Shows p Aside v (drop (done + 1) request_packets) world → RequestCame done v.received
      → RequestComes (suc done) left (request_given done v) (given world (spelled_packet (request_nth done))).after
  more_given done left v world sum life s came =
      subst (λ (x : WorldStep). RequestComes (suc done) left (request_given done v) x.after)
      (sym (reaches_responder done v _ world More life s (more_gathers p.responder.eid p.requester.eid true tag p.requester.unit body small requester_some whole done left v.received came sum)))
      (record {
        sum = omega (arith, sum);
        shows = more_at done v (drop (suc done) request_packets) world (subst (λ (n : ℕ). Shows p Aside v (drop n request_packets) world) (next_done done) s);
        came = one_came p.responder.eid p.requester.eid true tag p.requester.unit body small requester_some whole done v.received came;
      })

  -- A packet that is not the last.
  pub request_goes_on : (done left : ℕ) (v : View) (world : World) → length v.received < wear_limit → (x : RequestComes done (suc left) v world) (w : FirstWaits (spelled_packet (request_nth done)) (drop (done + 1) request_packets) world.sent)
      → RequestComes (suc done) left (request_given done v) (delivers world (suc w.place) (packet_of (suc w.place) world.sent)).after
  request_goes_on done left v world life x w =
      subst (λ (o : Option (List ℕ)). RequestComes (suc done) left (request_given done v) (delivers world (suc w.place) o).after) (sym w.is)
      (more_given done left v (without_waiting (suc w.place) world) x.sum life (stopped p Aside aside v _ _ w.place world w.behind x.shows) x.came)

  -- The pair after a request that was taken whole, by the draw that stood next.
  abbrev pub served_view : ℕ → View → Draw → View
  served_view done v d = record v {
    served = after v.served (responder_does p.responder v.served tag body d);
    received = spelled_packet (request_nth done) ∷ v.received;
    log = served_log.acts_of p.responder v.served body (responder_does p.responder v.served tag body d) ++ v.log;
  }

  pub record IsServed (done : ℕ) (v : View) (world : World) : Type 0 where
    pub drawn : Draw
    pub draws : length drawn.bytes ≡ 32
    pub shows : Shows p Aside (served_view done v drawn) (packets_to p.requester.eid p.responder.eid false tag p.responder.unit (body_of (responder_does p.responder v.served tag body drawn))) world

  answered_at : (done : ℕ) (v : View) (world : World) → Shows p Aside v [] world
      → IsServed done v (given_to_responder world (spelled_packet (request_nth done)) (answers world.responder (server p v.served) (spelled_packet (request_nth done)) (route_to p.responder.eid p.requester.eid true tag) body
      (responder_does p.responder v.served tag body (serving.next_draw world.responder)))).after
  answered_at done v world s =
      let d = serving.next_draw world.responder in
      let o = responder_does p.responder v.served tag body d in
      let packets : ℕ → List (List ℕ) = λ peer. packets_to peer p.responder.eid false tag p.responder.unit (body_of o) in record {
        drawn = d;
        draws = draws_whole world.responder;
        shows = record {
          is_requester = of_same p.number world _ _ refl s.is_requester;
          found = s.found;
          number_is = s.number_is;
          is_connection = changed_at p.requester.eid p.responder.peer (λ h. after h o) world.responder.connections (server p v.served) ends.peer s.is_connection;
          own = s.own;
          received = ap (λ (given : List (List ℕ)). spelled_packet (request_nth done) ∷ given) s.received;
          log = ap (λ (log : Log). served_log.acts_of p.responder v.served body o ++ log) s.log;
          waits = sent_waits world.sent (packets p.responder.peer) ∙ ap (λ (w : List (List ℕ)). w ++ packets p.responder.peer) s.waits ∙ ap packets ends.peer;
          aside = aside.responder world (answers world.responder (server p v.served) (spelled_packet (request_nth done)) (route_to p.responder.eid p.requester.eid true tag) body o).after (with_sent world.sent (packets p.responder.peer)) (served_log.acts_of p.responder v.served body o) (λ h. after h o) refl s.aside;
        };
      }

  last_given : (done : ℕ) (v : View) (world : World) → done + 1 ≡ packet_count p.requester.unit body → (body_type body == 5 || body_type body == 6) ≡ true → length v.received < wear_limit → Shows p Aside v (drop (done + 1) request_packets) world → RequestCame done v.received
      → IsServed done v (given world (spelled_packet (request_nth done))).after
  last_given done v world sum typed life s came =
      let route = route_to p.responder.eid p.requester.eid true tag in
      let s' = subst (λ (rest : List (List ℕ)). Shows p Aside v rest world) (no_packets_from route p.requester.unit body (done + 1) sum) s in
      subst (λ (x : WorldStep). IsServed done v x.after)
      (sym (reaches_responder done v _ world (Whole route body) life s (last_gathers p.responder.eid p.requester.eid true tag p.requester.unit body small requester_some whole done v.received came sum)
      ∙ ap (given_to_responder world (spelled_packet (request_nth done))) (typed_answers world.responder (server p v.served) (spelled_packet (request_nth done)) route body refl typed)))
      (answered_at done v world s')

  -- The last packet of a request.
  pub request_ends : (done : ℕ) (v : View) (world : World) → (body_type body == 5 || body_type body == 6) ≡ true → length v.received < wear_limit → (x : RequestComes done 0 v world) (w : FirstWaits (spelled_packet (request_nth done)) (drop (done + 1) request_packets) world.sent)
      → IsServed done v (delivers world (suc w.place) (packet_of (suc w.place) world.sent)).after
  request_ends done v world typed life x w =
      subst (λ (o : Option (List ℕ)). IsServed done v (delivers world (suc w.place) o).after) (sym w.is)
      (last_given done v (without_waiting (suc w.place) world) x.sum typed life (stopped p Aside aside v _ _ w.place world w.behind x.shows) x.came)

  -- ---- The packets of an answer.

  pub responder_some : 0 < p.responder.unit
  responder_some = (let unit = ends.responder_unit in omega arith)

  abbrev pub answer_packets : List (List ℕ)
  answer_packets = packets_to p.requester.eid p.responder.eid false tag p.responder.unit body

  abbrev answer_nth : ℕ → PacketFields
  answer_nth k = nth p.requester.eid p.responder.eid false tag p.responder.unit body small responder_some whole k

  abbrev pub AnswerCame : ℕ → List (List ℕ) → Type 0
  AnswerCame k given = Came p.requester.eid p.responder.eid false tag p.responder.unit body small responder_some whole k given

  -- So many packets of an answer were given; this one and so many more wait.
  pub record AnswerComes (done left : ℕ) (v : View) (world : World) : Type 0 where
    pub sum : done + suc left ≡ packet_count p.responder.unit body
    pub shows : Shows p Aside v (drop done answer_packets) world
    pub came : AnswerCame done v.given

  pub first_answer : (done left : ℕ) (v : View) (world : World) → AnswerComes done left v world → FirstWaits (spelled_packet (answer_nth done)) (drop (done + 1) answer_packets) world.sent
  first_answer done left v world x =
      let sum = x.sum in
      first_waits world.sent (spelled_packet (answer_nth done)) (drop (done + 1) answer_packets)
      (x.shows.waits ∙ packets_from (route_to p.requester.eid p.responder.eid false tag) p.responder.unit body done (omega arith))

  reaches_requester : (done : ℕ) (v : View) (waiting : List (List ℕ)) (world : World) (g : Gathered) → length v.given + v.commands < wear_limit → Shows p Aside v waiting world → gathered_from p.requester.eid p.responder.eid v.given (answer_nth done) ≡ g
      → given world (spelled_packet (answer_nth done)) ≡ given_to_requester world p.number (asking.hears_gathered (asker p v.given v.commands v.asked) (spelled_packet (answer_nth done)) g)
  reaches_requester done v waiting world g life s is =
      let a = asker p v.given v.commands v.asked in
      to_requester world (answer_nth done) a (λ e. ends.apart (e ∙ s.own)) s.found
      ∙ ap (λ (n : ℕ). given_to_requester world n (asking.requester_given a (spelled_packet (answer_nth done)))) s.number_is
      ∙ ap (given_to_requester world p.number)
      (gathers_as a (answer_nth done) p.responder.eid g (not_worn (length v.given + v.commands) wear_limit life) (nth_read p.requester.eid p.responder.eid false tag p.responder.unit body small responder_some whole done) ends.to is)

  abbrev answer_given : ℕ → View → View
  answer_given done v = record v { given = spelled_packet (answer_nth done) ∷ v.given }

  awaits_at : (done : ℕ) (v : View) (rest : List (List ℕ)) (world : World) → Shows p Aside v rest world
      → Shows p Aside (answer_given done v) rest (given_to_requester world p.number (asking.ignores (asker p v.given v.commands v.asked) (spelled_packet (answer_nth done)) event.More)).after
  awaits_at done v rest world s =
      let a = asker p v.given v.commands v.asked in
      let new = asker p (spelled_packet (answer_nth done) ∷ v.given) v.commands v.asked in
      let later = (given_to_requester world p.number (asking.ignores a (spelled_packet (answer_nth done)) event.More)).after in record {
        is_requester = of_new p.number new world later a refl s.is_requester refl;
        found = found_new new world.requesters a s.found;
        number_is = number_new 1 p.requester.eid new world.requesters ∙ s.number_is;
        is_connection = s.is_connection;
        own = s.own;
        received = s.received;
        log = s.log;
        waits = ap waiting_in (none_more world.sent) ∙ s.waits;
        aside = aside.requester world new (with_sent world.sent []) [] refl s.aside;
      }

  awaits_given : (done left : ℕ) (v : View) (world : World) → done + suc (suc left) ≡ packet_count p.responder.unit body → length v.given + v.commands < wear_limit → Shows p Aside v (drop (done + 1) answer_packets) world → AnswerCame done v.given
      → AnswerComes (suc done) left (answer_given done v) (given world (spelled_packet (answer_nth done))).after
  awaits_given done left v world sum life s came =
      subst (λ (x : WorldStep). AnswerComes (suc done) left (answer_given done v) x.after)
      (sym (reaches_requester done v _ world More life s (more_gathers p.requester.eid p.responder.eid false tag p.responder.unit body small responder_some whole done left v.given came sum)))
      (record {
        sum = omega (arith, sum);
        shows = awaits_at done v (drop (suc done) answer_packets) world (subst (λ (n : ℕ). Shows p Aside v (drop n answer_packets) world) (next_done done) s);
        came = one_came p.requester.eid p.responder.eid false tag p.responder.unit body small responder_some whole done v.given came;
      })

  pub answer_goes_on : (done left : ℕ) (v : View) (world : World) → length v.given + v.commands < wear_limit → (x : AnswerComes done (suc left) v world) (w : FirstWaits (spelled_packet (answer_nth done)) (drop (done + 1) answer_packets) world.sent)
      → AnswerComes (suc done) left (answer_given done v) (delivers world (suc w.place) (packet_of (suc w.place) world.sent)).after
  answer_goes_on done left v world life x w =
      subst (λ (o : Option (List ℕ)). AnswerComes (suc done) left (answer_given done v) (delivers world (suc w.place) o).after) (sym w.is)
      (awaits_given done left v (without_waiting (suc w.place) world) x.sum life (stopped p Aside aside v _ _ w.place world w.behind x.shows) x.came)

  -- The pair after an answer that was heard whole, by the draw that stood next.
  abbrev pub heard_view : ℕ → View → Draw → View
  heard_view done v d = record v {
    given = spelled_packet (answer_nth done) ∷ v.given;
    asked = shown.after v.asked (requester_hears p.requester v.asked false tag body d);
    log = asked_log.acts_of p.requester v.asked body (requester_hears p.requester v.asked false tag body d) ++ v.log;
  }

  pub record IsHeard (done : ℕ) (v : View) (s : WorldStep) : Type 0 where
    pub drawn : Draw
    pub shows : Shows p Aside (heard_view done v drawn) (packets_of_sent p.requester (shown.sent_by (requester_hears p.requester v.asked false tag body drawn))) s.after
    pub writes : IsIn s.lines (Line.ToRequester p.number (unwrap_or (shown.event_of (requester_hears p.requester v.asked false tag body drawn)) event.More))

  heard_at : (done : ℕ) (v : View) (world : World) → Shows p Aside v [] world
      → IsHeard done v (given_to_requester world p.number (asking.heard_by (asker p v.given v.commands v.asked) (spelled_packet (answer_nth done)) body (requester_hears p.requester v.asked false tag body (asking.next_draw (asker p v.given v.commands v.asked)))))
  heard_at done v world s =
      let a = asker p v.given v.commands v.asked in
      let d = asking.next_draw a in
      let o = requester_hears p.requester v.asked false tag body d in
      let new = asker p (spelled_packet (answer_nth done) ∷ v.given) v.commands (shown.after v.asked o) in
      let packets = packets_of_sent p.requester (shown.sent_by o) in
      let later = (given_to_requester world p.number (asking.heard_by a (spelled_packet (answer_nth done)) body o)).after in record {
        drawn = d;
        shows = record {
          is_requester = of_new p.number new world later a refl s.is_requester refl;
          found = found_new new world.requesters a s.found;
          number_is = number_new 1 p.requester.eid new world.requesters ∙ s.number_is;
          is_connection = s.is_connection;
          own = s.own;
          received = s.received;
          log = ap (λ (log : Log). asked_log.acts_of p.requester v.asked body o ++ log) s.log;
          waits = sent_waits world.sent packets ∙ ap (λ (w : List (List ℕ)). w ++ packets) s.waits;
          aside = aside.requester world new (with_sent world.sent packets) (asked_log.acts_of p.requester v.asked body o) refl s.aside;
        };
        writes = inl refl;
      }

  last_heard : (done : ℕ) (v : View) (world : World) → done + 1 ≡ packet_count p.responder.unit body → length v.given + v.commands < wear_limit → Shows p Aside v (drop (done + 1) answer_packets) world → AnswerCame done v.given
      → IsHeard done v (given world (spelled_packet (answer_nth done)))
  last_heard done v world sum life s came =
      let route = route_to p.requester.eid p.responder.eid false tag in
      let s' = subst (λ (rest : List (List ℕ)). Shows p Aside v rest world) (no_packets_from route p.responder.unit body (done + 1) sum) s in
      subst (IsHeard done v)
      (sym (reaches_requester done v _ world (Whole route body) life s (last_gathers p.requester.eid p.responder.eid false tag p.responder.unit body small responder_some whole done v.given came sum)))
      (heard_at done v world s')

  -- The last packet of an answer.
  pub answer_ends : (done : ℕ) (v : View) (world : World) → length v.given + v.commands < wear_limit → (x : AnswerComes done 0 v world) (w : FirstWaits (spelled_packet (answer_nth done)) (drop (done + 1) answer_packets) world.sent)
      → IsHeard done v (delivers world (suc w.place) (packet_of (suc w.place) world.sent))
  answer_ends done v world life x w =
      subst (λ (o : Option (List ℕ)). IsHeard done v (delivers world (suc w.place) o)) (sym w.is)
      (last_heard done v (without_waiting (suc w.place) world) x.sum life (stopped p Aside aside v _ _ w.place world w.behind x.shows) x.came)
