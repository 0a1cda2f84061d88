-- One packet of a clear exchange is given to its end, which answers it with one packet or with none.
use Rattle.std.proofs.Common.{◌≡◌, ◌≢◌, ◌∙◌, ℕ, suc, ◌<◌, ◌≤◌, ◌+◌, ◌==◌, List, [], ◌∷◌, length, find, Bool, true, false, nat_lt, nat_le, Option, Some, None, unwrap_or, refl, sym, ap, subst, inl, arith, eq-eqb}
use Rattle.spdm_basis.proofs.Bools.{lt_false}
use Rattle.std.specs.Prelude.{if◌then◌else◌}
use Rattle.std.proofs.lemmas.Bool.{ne_eqb}
use Rattle.std.proofs.lemmas.Bool.Decides.{nat_tests}
use Rattle.spdm_grammar.specs.Lines.{Line}
use Rattle.spdm_grammar.specs.declared.told.event.Event.{Event}
use Rattle.spdm_grammar.specs.declared.told.event.Event.TheVariants as event
use Rattle.spdm_grammar.specs.Message.{RequestMessage}
use Rattle.spdm_machine.specs.Bodies.{clear_body}
use Rattle.spdm_machine.specs.Keys.{Draw}
use Rattle.spdm_machine.specs.Packets.{packets_to, wear_limit}
use Rattle.spdm_machine.proofs.Members.{IsIn}
use Rattle.requester_machine.specs.Does.{requester_hears}
use Rattle.requester_machine.specs.History as asked
use Rattle.requester_machine.specs.Message.{Sent}
use Rattle.requester_machine.specs.Message.Content.{Clear}
use Rattle.requester_machine.specs.Requesting as asking
use Rattle.requester_machine.specs.Requesting.{Requesting, PacketStep, requester_given, heard_by, packets_of_sent}
use Rattle.requester_machine.specs.Setup.{ReqSetup}
use Rattle.requester_machine.specs.Shown as shown
use Rattle.responder_machine.proofs.Alike.{changed_at}
use Rattle.responder_machine.specs.Does.{clear_does}
use Rattle.responder_machine.specs.History as served
use Rattle.responder_machine.specs.Responder.{after}
use Rattle.responder_machine.specs.Responding as serving
use Rattle.responder_machine.specs.Responding.{Connection, Responding, RspStep, connection_of, changed, answers, responder_hears}
use Rattle.responder_machine.specs.Setup.{RspSetup}
use Rattle.world_machine.specs.World.{World, WorldStep, SentPacket, first_waiting, packet_of, with_sent, requester_of, is_at, number_at, given, given_to, given_to_requester, given_to_responder, without_waiting, delivers}
use Rattle.spdm_progress.proofs.Drawn.{draws_whole}
use Rattle.spdm_progress.proofs.AtRequester.{asking, given_whole}
use Rattle.spdm_progress.proofs.AtResponder.{hears_request}
use Rattle.spdm_progress.proofs.OnePacket.{route_to, packet_to, one_packet}
use Rattle.spdm_progress.proofs.Places.{found_new, of_new, of_same, number_new}
use Rattle.spdm_progress.proofs.RequesterStages.{Hears}
use Rattle.spdm_progress.proofs.ResponderStages.{Answered}
use Rattle.spdm_progress.proofs.Waiting.{OneWaits, one_waits, none_more}

-- ---- A pair of ends in a world.

-- What is the same throughout a connect: how both are set up, and the requester's draws.
pub record Pair : Type 0 where
  pub number : ℕ
  pub requester : ReqSetup
  pub responder : RspSetup
  pub seed : List ℕ
  pub first : ℕ

abbrev pub asker : Pair → List (List ℕ) → ℕ → asked.History → Requesting
asker p given commands h = record { setup = p.requester; seed = p.seed; first = p.first; given = given; commands = commands; history = h }

abbrev pub server : Pair → served.History → Connection
server p h = record { setup = p.responder; history = h }

-- The two belong together, and are configured.
pub record AreEnds (p : Pair) : Type 0 where
  pub peer : p.responder.peer ≡ p.requester.eid
  pub to : p.requester.responder ≡ p.responder.eid
  pub apart : p.requester.eid ≢ p.responder.eid
  pub requester_unit : 64 ≤ p.requester.unit
  pub responder_unit : 64 ≤ p.responder.unit

-- The pair in a world. Both ends still take so many packets, and this holds of their histories.
pub record At (p : Pair) (more_asked more_served : ℕ) (Asked : asked.History → Type 0) (Served : served.History → Type 0) (world : World) : Type 0 where
  pub given : List (List ℕ)
  pub commands : ℕ
  pub asked : asked.History
  pub served : served.History
  pub is_requester : requester_of p.number world ≡ Some (asker p given commands asked)
  pub found : find (is_at p.requester.eid) world.requesters ≡ Some (asker p given commands asked)
  pub number_is : number_at p.requester.eid world ≡ p.number
  pub is_connection : connection_of p.requester.eid world.responder.connections ≡ Some (server p served)
  pub own : world.responder.part.eid ≡ p.responder.eid
  pub asks : Asked asked
  pub serves : Served served
  pub life : length given + commands + more_asked ≤ wear_limit
  pub responder_life : length world.responder.given + more_served ≤ wear_limit

-- ---- A packet to the responder.

pub not_worn : (n limit : ℕ) → n < limit → nat_le limit n ≡ false
not_worn n limit h = grind (arith, nat_tests)

-- The responder's answer to a packet of a clear request.
hears_as : (r : Responding) (c : Connection) (to from tag : ℕ) (m : List ℕ) → serving.is_worn r ≡ false → tag < 8 → length m < 4161 → c.setup.eid ≡ r.part.eid → connection_of c.setup.peer r.connections ≡ Some c → r.part.eid ≡ to → c.setup.peer ≡ from
    → responder_hears r (packet_to to from true tag m) ≡ answers r c (packet_to to from true tag m) (route_to to from true tag) (clear_body m) (clear_does c.setup c.history tag m (serving.next_draw r))
hears_as r c to from tag m fresh small short own is e f =
    subst (λ (to : ℕ). responder_hears r (packet_to to from true tag m) ≡ answers r c (packet_to to from true tag m) (route_to to from true tag) (clear_body m) (clear_does c.setup c.history tag m (serving.next_draw r))) e
    (subst (λ (from : ℕ). responder_hears r (packet_to r.part.eid from true tag m) ≡ answers r c (packet_to r.part.eid from true tag m) (route_to r.part.eid from true tag) (clear_body m) (clear_does c.setup c.history tag m (serving.next_draw r))) f
    (hears_request r c tag m fresh small short own is))

pub either_first : (b c : Bool) (x y z : WorldStep) → b ≡ false → c ≡ true → (if b then x else (if c then y else z)) ≡ y
either_first b c x y z e f = rw (e, f) refl

pub either_last : (b c : Bool) (x y z : WorldStep) → b ≡ false → c ≡ false → (if b then x else (if c then y else z)) ≡ z
either_last b c x y z e f = rw (e, f) refl

four_bytes : (to from : ℕ) (owner : Bool) (tag : ℕ) (m : List ℕ) → nat_lt (length (packet_to to from owner tag m)) 2 ≡ false
four_bytes to from owner tag m = lt_false (length (packet_to to from owner tag m)) 2 (omega arith)

to_responder : (world : World) (to from tag : ℕ) (m : List ℕ) → world.responder.part.eid ≡ to
    → given world (packet_to to from true tag m) ≡ given_to_responder world (packet_to to from true tag m) (responder_hears world.responder (packet_to to from true tag m))
to_responder world to from tag m own =
    either_first _ (to == world.responder.part.eid) _ _ _ (four_bytes to from true tag m) (eq-eqb to world.responder.part.eid (sym own))

-- The step of a responder that answers a clear request.
abbrev answer_step : Responding → Connection → (to from tag : ℕ) → List ℕ → RspStep
answer_step r c to from tag m = answers r c (packet_to to from true tag m) (route_to to from true tag) (clear_body m) (clear_does c.setup c.history tag m (serving.next_draw r))

module _ (p : Pair) (ends : AreEnds p) where
  abbrev pub RequestWaits : ℕ → List ℕ → World → Type 0
  RequestWaits tag m world = OneWaits (packet_to p.responder.eid p.requester.eid true tag m) world.sent

  abbrev pub AnswerWaits : ℕ → List ℕ → World → Type 0
  AnswerWaits tag m world = OneWaits (packet_to p.requester.eid p.responder.eid false tag m) world.sent

  -- The packets of an answer.
  abbrev pub answer_packets : ℕ → List ℕ → List (List ℕ)
  answer_packets tag m = packets_to p.requester.eid p.responder.eid false tag p.responder.unit (clear_body m)

  -- What the world is after the step of a responder.
  abbrev after_answer : World → List ℕ → RspStep → World
  after_answer world packet step = (given_to_responder world packet step).after

  module _ (k l : ℕ) (Asked : asked.History → Type 0) (Served Then : served.History → Type 0) (tag : ℕ) (m : List ℕ) (Good : List ℕ → Type 0) (reply : List ℕ → List ℕ) (small : tag < 8) (short : length m < 64)
      (answers_it : (h : served.History) (d : Draw) → length d.bytes ≡ 32 → Served h → (value : List ℕ) × Good value × Answered p.responder h tag m d (reply value) Then) where
    -- The pair, and the packets of the answer after those that no longer wait.
    pub record AtAnswer (world : World) : Type 0 where
      pub before : List SentPacket
      pub idle : first_waiting before ≡ None
      pub value : List ℕ
      pub good : Good value
      pub sends : world.sent ≡ with_sent before (answer_packets tag (reply value))
      pub pair : At p k l Asked Then world

    answered_at : (world : World) → first_waiting world.sent ≡ None → (at : At p k (l + 1) Asked Served world)
        → AtAnswer (after_answer world (packet_to p.responder.eid p.requester.eid true tag m) (answer_step world.responder (server p at.served) p.responder.eid p.requester.eid tag m))
    answered_at world idle at =
        let x = answers_it at.served (serving.next_draw world.responder) (draws_whole world.responder) at.serves in
        let o = x.2 in
        let life = at.responder_life in record {
          before = world.sent;
          idle = idle;
          value = x.0;
          good = x.1;
          sends = ap (λ (body : List ℕ). with_sent world.sent (packets_to p.responder.peer p.responder.eid false tag p.responder.unit body)) o.body
              ∙ ap (λ (to : ℕ). with_sent world.sent (packets_to to p.responder.eid false tag p.responder.unit (clear_body (reply x.0)))) ends.peer;
          pair = record {
            given = at.given;
            commands = at.commands;
            asked = at.asked;
            served = after at.served (clear_does p.responder at.served tag m (serving.next_draw world.responder));
            is_requester = of_same p.number world _ _ refl at.is_requester;
            found = at.found;
            number_is = at.number_is;
            is_connection = changed_at p.requester.eid p.responder.peer (λ h. after h (clear_does p.responder at.served tag m (serving.next_draw world.responder))) world.responder.connections (server p at.served) ends.peer at.is_connection;
            own = at.own;
            asks = at.asks;
            serves = o.leaves;
            life = at.life;
            responder_life = omega arith;
          };
        }

    given_answered : (world : World) → first_waiting world.sent ≡ None → At p k (l + 1) Asked Served world → AtAnswer (given world (packet_to p.responder.eid p.requester.eid true tag m)).after
    given_answered world idle at =
        let life = at.responder_life in
        let heard = hears_as world.responder (server p at.served) p.responder.eid p.requester.eid tag m (not_worn (length world.responder.given) wear_limit (omega arith)) small (omega arith) (sym at.own)
        (ap (λ (eid : ℕ). connection_of eid world.responder.connections) ends.peer ∙ at.is_connection) at.own ends.peer in
        subst (λ (s : WorldStep). AtAnswer s.after)
        (sym (to_responder world p.responder.eid p.requester.eid tag m at.own ∙ ap (given_to_responder world (packet_to p.responder.eid p.requester.eid true tag m)) heard)) (answered_at world idle at)

    -- The waiting request is given, and its answer waits.
    pub request_given : (world : World) (w : RequestWaits tag m world) → At p k (l + 1) Asked Served world → AtAnswer (delivers world (suc w.place) (packet_of (suc w.place) world.sent)).after
    request_given world w at =
        subst (λ (o : Option (List ℕ)). AtAnswer (delivers world (suc w.place) o).after) (sym w.is)
        (given_answered (without_waiting (suc w.place) world) w.none_after
        (record {
          given = at.given;
          commands = at.commands;
          asked = at.asked;
          served = at.served;
          is_requester = of_same p.number world _ _ refl at.is_requester;
          found = at.found;
          number_is = at.number_is;
          is_connection = at.is_connection;
          own = at.own;
          asks = at.asks;
          serves = at.serves;
          life = at.life;
          responder_life = at.responder_life;
        }))

  -- A short answer is one packet.
  pub answer_waits : (tag : ℕ) (reply : List ℕ) (before sent : List SentPacket) → length reply < 64 → first_waiting before ≡ None → sent ≡ with_sent before (answer_packets tag reply)
      → OneWaits (packet_to p.requester.eid p.responder.eid false tag reply) sent
  answer_waits tag reply before sent short idle sends =
      let unit = ends.responder_unit in
      subst (OneWaits (packet_to p.requester.eid p.responder.eid false tag reply))
      (sym (sends ∙ ap (with_sent before) (one_packet p.requester.eid p.responder.eid false tag p.responder.unit reply (omega arith))))
      (one_waits before (packet_to p.requester.eid p.responder.eid false tag reply) idle)

  -- ---- A packet to the requester.

  -- The packet of an answer goes to the requester.
  pub to_requester : (world : World) (a : Requesting) (tag : ℕ) (m : List ℕ) → world.responder.part.eid ≡ p.responder.eid → find (is_at p.requester.eid) world.requesters ≡ Some a
      → given world (packet_to p.requester.eid p.responder.eid false tag m) ≡ given_to_requester world (number_at a.setup.eid world) (requester_given a (packet_to p.requester.eid p.responder.eid false tag m))
  to_requester world a tag m own found =
      either_last _ (p.requester.eid == world.responder.part.eid) _ _ _ (four_bytes p.requester.eid p.responder.eid false tag m) (ne_eqb p.requester.eid world.responder.part.eid (λ e. ends.apart (e ∙ own)))
      ∙ ap (given_to world (packet_to p.requester.eid p.responder.eid false tag m)) found

  -- A requester is given the packet of an answer.
  given_as : (a : Requesting) (tag : ℕ) (m : List ℕ) → a.setup ≡ p.requester → asking.is_worn a ≡ false → tag < 8 → length m < 4161
      → requester_given a (packet_to p.requester.eid p.responder.eid false tag m)
      ≡ heard_by a (packet_to p.requester.eid p.responder.eid false tag m) (clear_body m) (requester_hears a.setup a.history false tag (clear_body m) (asking.next_draw a))
  given_as a tag m same fresh small short =
      subst (λ (from : ℕ). requester_given a (packet_to p.requester.eid from false tag m) ≡ heard_by a (packet_to p.requester.eid from false tag m) (clear_body m) (requester_hears a.setup a.history false tag (clear_body m) (asking.next_draw a)))
      (ap (λ (q : ReqSetup). q.responder) same ∙ ends.to)
      (subst (λ (to : ℕ). requester_given a (packet_to to a.setup.responder false tag m) ≡ heard_by a (packet_to to a.setup.responder false tag m) (clear_body m) (requester_hears a.setup a.history false tag (clear_body m) (asking.next_draw a)))
      (ap (λ (q : ReqSetup). q.eid) same) (given_whole a tag m fresh small short))

  -- What a requester sends next: a request of these bytes, or nothing.
  abbrev pub next_of : Option (ℕ × List ℕ × RequestMessage) → Option Sent
  next_of None = None
  next_of (Some x) = Some (asking x.0 (Clear x.1) x.2)

  abbrev pub IsShort : Option (ℕ × List ℕ × RequestMessage) → Type 0
  IsShort None = Unit {0}
  IsShort (Some x) = length x.1 < 64

  abbrev pub NextWaits : Option (ℕ × List ℕ × RequestMessage) → World → Type 0
  NextWaits None world = first_waiting world.sent ≡ None
  NextWaits (Some x) world = RequestWaits x.0 x.1 world

  next_waits : (next : Option (ℕ × List ℕ × RequestMessage)) (world later : World) (sent : Option Sent) → IsShort next → sent ≡ next_of next → first_waiting world.sent ≡ None → later.sent ≡ with_sent world.sent (packets_of_sent p.requester sent) → NextWaits next later
  next_waits None world later sent short is idle behind =
      ap first_waiting (behind ∙ ap (λ (s : Option Sent). with_sent world.sent (packets_of_sent p.requester s)) is ∙ none_more world.sent) ∙ idle
  next_waits (Some x) world later sent short is idle behind =
      let unit = ends.requester_unit in
      subst (OneWaits (packet_to p.responder.eid p.requester.eid true x.0 x.1))
      (sym (behind ∙ ap (λ (s : Option Sent). with_sent world.sent (packets_of_sent p.requester s)) is
      ∙ ap (with_sent world.sent) (one_packet p.requester.responder p.requester.eid true x.0 p.requester.unit x.1 (omega arith) ∙ ap (λ (to : ℕ). packet_to to p.requester.eid true x.0 x.1 ∷ []) ends.to)))
      (one_waits world.sent (packet_to p.responder.eid p.requester.eid true x.0 x.1) idle)

  module _ (k l : ℕ) (Asked : asked.History → Type 0) (Then : asked.History → asked.History → Type 0) (Served : served.History → Type 0) (tag : ℕ) (m : List ℕ) (told : Event) (next : asked.History → Option (ℕ × List ℕ × RequestMessage)) (small : tag < 8)
      (next_short : (h : asked.History) → IsShort (next h)) (hears_it : (h : asked.History) (d : Draw) → Asked h → Hears p.requester h tag m d told (next_of (next h)) (Then h)) where
    -- The pair, what waits after it, and the line that was written.
    pub record AtNext (before : asked.History) (s : WorldStep) : Type 0 where
      pub waits : NextWaits (next before) s.after
      pub pair : At p k l (Then before) Served s.after
      pub writes : IsIn s.lines (Line.ToRequester p.number told)

    pub heard_at : (packet : List ℕ) (world : World) → first_waiting world.sent ≡ None → (at : At p (k + 1) l Asked Served world)
        → AtNext at.asked (given_to_requester world p.number (heard_by (asker p at.given at.commands at.asked) packet (clear_body m)
        (requester_hears p.requester at.asked false tag (clear_body m) (asking.next_draw (asker p at.given at.commands at.asked)))))
    heard_at packet world idle at =
        let a = asker p at.given at.commands at.asked in
        let d = asking.next_draw a in
        let o = hears_it at.asked d at.asks in
        let life = at.life in
        let new = asker p (packet ∷ at.given) at.commands (shown.after at.asked (requester_hears p.requester at.asked false tag (clear_body m) d)) in
        let later = (given_to_requester world p.number (heard_by a packet (clear_body m) (requester_hears p.requester at.asked false tag (clear_body m) d))).after in record {
          waits = next_waits (next at.asked) world later (shown.sent_by (requester_hears p.requester at.asked false tag (clear_body m) d)) (next_short at.asked) o.sends idle refl;
          pair = record {
            given = packet ∷ at.given;
            commands = at.commands;
            asked = shown.after at.asked (requester_hears p.requester at.asked false tag (clear_body m) d);
            served = at.served;
            is_requester = of_new p.number new world later a refl at.is_requester refl;
            found = found_new new world.requesters a at.found;
            number_is = number_new 1 p.requester.eid new world.requesters ∙ at.number_is;
            is_connection = at.is_connection;
            own = at.own;
            asks = o.leaves;
            serves = at.serves;
            life = omega arith;
            responder_life = at.responder_life;
          };
          writes = inl (ap (λ (e : Option Event). Line.ToRequester p.number (unwrap_or e event.More)) (sym o.event));
        }

    given_heard : length m < 64 → (world : World) → first_waiting world.sent ≡ None → (at : At p (k + 1) l Asked Served world) → AtNext at.asked (given world (packet_to p.requester.eid p.responder.eid false tag m))
    given_heard short world idle at =
        let a = asker p at.given at.commands at.asked in
        let life = at.life in
        let heard = given_as a tag m refl (not_worn (length at.given + at.commands) wear_limit (omega arith)) small (omega arith) in
        subst (AtNext at.asked)
        (sym (to_requester world a tag m at.own at.found
        ∙ ap (λ (n : ℕ). given_to_requester world n (requester_given a (packet_to p.requester.eid p.responder.eid false tag m))) at.number_is
        ∙ ap (given_to_requester world p.number) heard))
        (heard_at (packet_to p.requester.eid p.responder.eid false tag m) world idle at)

    -- The waiting answer is given.
    pub answer_given : length m < 64 → (world : World) (w : AnswerWaits tag m world) (at : At p (k + 1) l Asked Served world) → AtNext at.asked (delivers world (suc w.place) (packet_of (suc w.place) world.sent))
    answer_given short world w at =
        subst (λ (o : Option (List ℕ)). AtNext at.asked (delivers world (suc w.place) o)) (sym w.is)
        (given_heard short (without_waiting (suc w.place) world) w.none_after
        (record {
          given = at.given;
          commands = at.commands;
          asked = at.asked;
          served = at.served;
          is_requester = of_same p.number world _ _ refl at.is_requester;
          found = at.found;
          number_is = at.number_is;
          is_connection = at.is_connection;
          own = at.own;
          asks = at.asks;
          serves = at.serves;
          life = at.life;
          responder_life = at.responder_life;
        }))
