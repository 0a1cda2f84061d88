-- The packets of a clear answer of any length are given to the requester, one after the other.
use Rattle.std.proofs.Common.{◌≡◌, ◌≢◌, ◌∙◌, ℕ, suc, ◌<◌, ◌+◌, ◌==◌, List, ◌∷◌, length, drop, find, Bool, false, Option, Some, Result, Ok, refl, sym, ap, subst, arith}
use Rattle.spdm_basis.proofs.Bools.{lt_false}
use Rattle.std.specs.Prelude.{if◌then◌else◌}
use Rattle.std.proofs.lemmas.Bool.{ne_eqb}
use Rattle.mctp_framing.proofs.Packets.{packets_from, no_packets_from}
use Rattle.mctp_framing.specs.Gathering.{Gathered}
use Rattle.mctp_framing.specs.Gathering.Gathered.{Whole, More}
use Rattle.mctp_framing.specs.Packet.{PacketFields, spelled_packet, parsed}
use Rattle.spdm_basis.specs.declared.PacketFault.{PacketFault}
use Rattle.spdm_grammar.specs.Message.{RequestMessage}
use Rattle.spdm_grammar.specs.declared.told.event.Event.{Event}
use Rattle.spdm_grammar.specs.declared.told.event.Event.TheVariants as event
use Rattle.spdm_machine.specs.Bodies.{clear_body}
use Rattle.spdm_machine.specs.Keys.{Draw}
use Rattle.spdm_machine.specs.Packets.{gathered_from, wear_limit}
use Rattle.requester_machine.specs.History as asked
use Rattle.requester_machine.specs.Requesting as asking
use Rattle.requester_machine.specs.Requesting.{Requesting, PacketStep, requester_given, hears_packet, hears_gathered, heard_by, ignores, worn_step}
use Rattle.responder_machine.specs.History as served
use Rattle.world_machine.specs.World.{World, WorldStep, packet_of, is_at, number_at, given, given_to, given_to_requester, without_waiting, delivers}
use Rattle.spdm_progress.proofs.ManyPackets.{Came, FirstWaits, clear_is_body, first_waits, waits_idle, waiting_in, one_came, last_gathers, more_gathers, nth, nth_read, number}
use Rattle.spdm_progress.proofs.OnePacket.{route_to}
use Rattle.spdm_progress.proofs.PacketSteps.{Pair, AreEnds, At, AtNext, IsShort, asker, answer_packets, either_last, heard_at, next_of, not_worn}
use Rattle.spdm_progress.proofs.Places.{found_new, number_new, of_new, of_same}
use Rattle.spdm_progress.proofs.RequesterStages.{Hears}
use Rattle.spdm_progress.proofs.Waiting.{none_more}

-- A requester that gathers a packet does what that leads to.
pub gathers_as : (a : Requesting) (f : PacketFields) (peer : ℕ) (g : Gathered) → asking.is_worn a ≡ false → parsed (spelled_packet f) ≡ Ok f → a.setup.responder ≡ peer → gathered_from a.setup.eid peer a.given f ≡ g
    → requester_given a (spelled_packet f) ≡ hears_gathered a (spelled_packet f) g
unfolding requester_given
gathers_as a f peer g fresh read from is =
    ap (λ (b : Bool). if b then worn_step a else hears_packet a (spelled_packet f) (parsed (spelled_packet f))) fresh
    ∙ ap (λ (r : Result PacketFields PacketFault). hears_packet a (spelled_packet f) r) read
    ∙ ap (λ (eid : ℕ). hears_gathered a (spelled_packet f) (gathered_from a.setup.eid eid a.given f)) from
    ∙ ap (hears_gathered a (spelled_packet f)) is

-- A packet for a requester is given to it.
pub to_requester : (world : World) (f : PacketFields) (a : Requesting) → f.to ≢ world.responder.part.eid → find (is_at f.to) world.requesters ≡ Some a
    → given world (spelled_packet f) ≡ given_to_requester world (number_at a.setup.eid world) (requester_given a (spelled_packet f))
to_requester world f a other found =
    either_last _ (f.to == world.responder.part.eid) _ _ _ (lt_false (length (spelled_packet f)) 2 (omega arith)) (ne_eqb f.to world.responder.part.eid other)
    ∙ ap (given_to world (spelled_packet f)) found

module _ (p : Pair) (ends : AreEnds p) (k l : ℕ) (Asked : asked.History → Type 0) (Then : asked.History → asked.History → Type 0) (Served : served.History → Type 0) (tag : ℕ) (m : List ℕ) (told : Event) (next : asked.History → Option (ℕ × List ℕ × RequestMessage))
    (small : tag < 8) (fits : length m < 4161) (some : 0 < p.responder.unit) (next_short : (h : asked.History) → IsShort p ends (next h))
    (hears_it : (h : asked.History) (d : Draw) → Asked h → Hears p.requester h tag m d told (next_of p ends (next h)) (Then h)) where
  abbrev nth_of : ℕ → PacketFields
  nth_of j = nth p.requester.eid p.responder.eid false tag p.responder.unit (clear_body m) small some (clear_is_body m fits) j

  abbrev pub count : ℕ
  count = number p.requester.eid p.responder.eid false tag p.responder.unit (clear_body m) small some (clear_is_body m fits)

  abbrev CameTo : ℕ → List (List ℕ) → Type 0
  CameTo j given = Came p.requester.eid p.responder.eid false tag p.responder.unit (clear_body m) small some (clear_is_body m fits) j given

  -- So many packets of the answer were given; this one and so many more wait.
  pub record Coming (done left : ℕ) (world : World) : Type 0 where
    pub sum : done + suc left ≡ count
    pub waits : waiting_in world.sent ≡ drop done (answer_packets p ends tag m)
    pub pair : At p (k + suc left) l Asked Served world
    pub came : CameTo done pair.given

  -- The next of them.
  pub first_coming : (done left : ℕ) (world : World) → Coming done left world → FirstWaits (spelled_packet (nth_of done)) (drop (done + 1) (answer_packets p ends tag m)) world.sent
  first_coming done left world x =
      let sum = x.sum in
      first_waits world.sent (spelled_packet (nth_of done)) (drop (done + 1) (answer_packets p ends tag m))
      (x.waits ∙ packets_from (route_to p.requester.eid p.responder.eid false tag) p.responder.unit (clear_body m) done (omega arith))

  reached : (done left : ℕ) (world : World) (at : At p (k + suc left) l Asked Served world) (g : Gathered) → gathered_from p.requester.eid p.responder.eid at.given (nth_of done) ≡ g
      → given world (spelled_packet (nth_of done)) ≡ given_to_requester world p.number (hears_gathered (asker p at.given at.commands at.asked) (spelled_packet (nth_of done)) g)
  reached done left world at g is =
      let a = asker p at.given at.commands at.asked in
      let life = at.life in
      to_requester world (nth_of done) a (λ e. ends.apart (e ∙ at.own)) at.found
      ∙ ap (λ (n : ℕ). given_to_requester world n (requester_given a (spelled_packet (nth_of done)))) at.number_is
      ∙ ap (given_to_requester world p.number)
      (gathers_as a (nth_of done) p.responder.eid g (not_worn (length at.given + at.commands) wear_limit (omega arith)) (nth_read p.requester.eid p.responder.eid false tag p.responder.unit (clear_body m) small some (clear_is_body m fits) done) ends.to is)

  next_done : (done : ℕ) → done + 1 ≡ suc done
  next_done done = omega arith

  -- ---- A packet that is not the last.

  more_at : (done left : ℕ) (world : World) → done + suc (suc left) ≡ count → waiting_in world.sent ≡ drop (done + 1) (answer_packets p ends tag m) → (at : At p (k + suc (suc left)) l Asked Served world) → CameTo done at.given
      → Coming (suc done) left (given_to_requester world p.number (ignores (asker p at.given at.commands at.asked) (spelled_packet (nth_of done)) event.More)).after
  more_at done left world sum waits at came =
      let a = asker p at.given at.commands at.asked in
      let new = asker p (spelled_packet (nth_of done) ∷ at.given) at.commands at.asked in
      let later = (given_to_requester world p.number (ignores a (spelled_packet (nth_of done)) event.More)).after in
      let life = at.life in record {
        sum = omega (arith, sum);
        waits = ap waiting_in (none_more world.sent) ∙ waits ∙ ap (λ (n : ℕ). drop n (answer_packets p ends tag m)) (next_done done);
        pair = record {
          given = spelled_packet (nth_of done) ∷ at.given;
          commands = at.commands;
          asked = at.asked;
          served = at.served;
          is_requester = of_new p.number new world later a refl at.is_requester refl;
          found = found_new new world.requesters a at.found;
          number_is = number_new 1 p.requester.eid new world.requesters ∙ at.number_is;
          is_connection = at.is_connection;
          own = at.own;
          asks = at.asks;
          serves = at.serves;
          life = omega arith;
          responder_life = at.responder_life;
        };
        came = one_came p.requester.eid p.responder.eid false tag p.responder.unit (clear_body m) small some (clear_is_body m fits) done at.given came;
      }

  more_given : (done left : ℕ) (world : World) → done + suc (suc left) ≡ count → waiting_in world.sent ≡ drop (done + 1) (answer_packets p ends tag m) → (at : At p (k + suc (suc left)) l Asked Served world) → CameTo done at.given
      → Coming (suc done) left (given world (spelled_packet (nth_of done))).after
  more_given done left world sum waits at came =
      subst (λ (s : WorldStep). Coming (suc done) left s.after)
      (sym (reached done (suc left) world at More (more_gathers p.requester.eid p.responder.eid false tag p.responder.unit (clear_body m) small some (clear_is_body m fits) done left at.given came sum)))
      (more_at done left world sum waits at came)

  -- The world in which a packet waits no longer.
  abbrev stopped : (left place : ℕ) (world : World) → At p (k + left) l Asked Served world → At p (k + left) l Asked Served (without_waiting (suc place) world)
  stopped left place world at = record {
    given = at.given;
    commands = at.commands;
    asked = at.asked;
    served = at.served;
    is_requester = of_same p.number world _ _ refl at.is_requester;
    found = at.found;
    number_is = at.number_is;
    is_connection = at.is_connection;
    own = at.own;
    asks = at.asks;
    serves = at.serves;
    life = at.life;
    responder_life = at.responder_life;
  }

  pub more_comes : (done left : ℕ) (world : World) (x : Coming done (suc left) world) (w : FirstWaits (spelled_packet (nth_of done)) (drop (done + 1) (answer_packets p ends tag m)) world.sent)
      → Coming (suc done) left (delivers world (suc w.place) (packet_of (suc w.place) world.sent)).after
  more_comes done left world x w =
      subst (λ (o : Option (List ℕ)). Coming (suc done) left (delivers world (suc w.place) o).after) (sym w.is)
      (more_given done left (without_waiting (suc w.place) world) x.sum w.behind (stopped (suc (suc left)) w.place world x.pair) x.came)

  -- ---- The last packet.

  last_given : (done : ℕ) (world : World) → done + 1 ≡ count → waiting_in world.sent ≡ drop (done + 1) (answer_packets p ends tag m) → (at : At p (k + 1) l Asked Served world) → CameTo done at.given
      → AtNext p ends k l Asked Then Served tag m told next small next_short hears_it at.asked (given world (spelled_packet (nth_of done)))
  last_given done world sum waits at came =
      subst (AtNext p ends k l Asked Then Served tag m told next small next_short hears_it at.asked)
      (sym (reached done 0 world at (Whole (route_to p.requester.eid p.responder.eid false tag) (clear_body m)) (last_gathers p.requester.eid p.responder.eid false tag p.responder.unit (clear_body m) small some (clear_is_body m fits) done at.given came sum)))
      (heard_at p ends k l Asked Then Served tag m told next small next_short hears_it (spelled_packet (nth_of done)) world
      (waits_idle world.sent (waits ∙ no_packets_from (route_to p.requester.eid p.responder.eid false tag) p.responder.unit (clear_body m) (done + 1) sum)) at)

  pub last_comes : (done : ℕ) (world : World) (x : Coming done 0 world) (w : FirstWaits (spelled_packet (nth_of done)) (drop (done + 1) (answer_packets p ends tag m)) world.sent)
      → AtNext p ends k l Asked Then Served tag m told next small next_short hears_it x.pair.asked (delivers world (suc w.place) (packet_of (suc w.place) world.sent))
  last_comes done world x w =
      subst (λ (o : Option (List ℕ)). AtNext p ends k l Asked Then Served tag m told next small next_short hears_it x.pair.asked (delivers world (suc w.place) o)) (sym w.is)
      (last_given done (without_waiting (suc w.place) world) x.sum w.behind (stopped 1 w.place world x.pair) x.came)
