-- Two ends talk in rounds: a request and its answer, each in packets that wait in order, until an answer after which
-- nothing is sent. Honest delivery brings every such talk to its end.
use Rattle.std.proofs.Common.{◌≡◌, ◌⊎◌, ℕ, zero, suc, ◌<◌, ◌≤◌, ◌+◌, ◌*◌, ◌==◌, ◌||◌, List, [], ◌++◌, length, true, false, Option, Some, None, unwrap_or, refl, sym, ap, subst, inl, inr, arith}
use Rattle.mctp_framing.specs.Cutting.{packet_count}
use Rattle.spdm_grammar.specs.Lines.{Line}
use Rattle.spdm_grammar.specs.declared.told.event.Event.{Event}
use Rattle.spdm_grammar.specs.declared.told.event.Event.TheVariants as event
use Rattle.spdm_machine.specs.Keys.{Draw}
use Rattle.spdm_machine.specs.Packets.{body_type, packets_to, wear_limit}
use Rattle.spdm_machine.specs.TagLog.{Log}
use Rattle.spdm_machine.proofs.Members.{IsIn}
use Rattle.requester_machine.specs.Asking.{Outcome}
use Rattle.requester_machine.specs.Does.{requester_hears}
use Rattle.requester_machine.specs.History as asked
use Rattle.requester_machine.specs.Message.{Sent, body_of}
use Rattle.requester_machine.specs.RequesterLog as asked_log
use Rattle.requester_machine.specs.Requesting.{packets_of_sent}
use Rattle.requester_machine.specs.Shown as shown
use Rattle.responder_machine.specs.Does.{responder_does}
use Rattle.responder_machine.specs.History as served
use Rattle.responder_machine.specs.Responder as answering
use Rattle.responder_machine.specs.ResponderLog as served_log
use Rattle.responder_machine.specs.Responding.{Responding}
use Rattle.world_machine.proofs.Logs.{happens_extends, no_chance_before}
use Rattle.world_machine.specs.Chance.{NoChance}
use Rattle.world_machine.specs.Happenings.{Entry}
use Rattle.world_machine.specs.Happenings.Happening.{Pump}
use Rattle.world_machine.specs.Trace.{world_from, lines_from}
use Rattle.world_machine.specs.World.{World, WorldStep, first_waiting, packet_of, delivers, happens, pumps, turn}
use Rattle.spdm_progress.specs.Honest.{NothingWaits, AreHonest, HaveNoCommand}
use Rattle.spdm_progress.proofs.Aside.{IsAside}
use Rattle.spdm_progress.proofs.Between.{Goes, GoesOn, Ends, IsGiven, IsOfEarlier, IsStill, all_go, ended, pumps_done}
use Rattle.spdm_progress.proofs.ManyPackets.{IsBody, before_it, none_came, packets_within, waits_idle}
use Rattle.spdm_progress.proofs.PacketSteps.{Pair, AreEnds}
use Rattle.spdm_progress.proofs.StillKept.{AreAlike, still_alike}
use Rattle.spdm_progress.proofs.Views.{View, Shows, heard_view, shows_still, RequestComes, AnswerComes, IsServed, IsHeard, first_request, request_goes_on, request_ends, first_answer, answer_goes_on, answer_ends}

-- A body that goes under a tag.
pub record IsSendable (tag : ℕ) (body : List ℕ) : Type 0 where
  pub small : tag < 8
  pub whole : IsBody body
  pub typed : (body_type body == 5 || body_type body == 6) ≡ true

-- Nothing agreed by chance in an earlier world.
pub no_chance_earlier : IsOfEarlier (λ world. NoChance world.log)
no_chance_earlier world event chance = (let e = happens_extends world event in no_chance_before e.0 world.log (subst NoChance e.1 chance))

-- What holds of the two ends while a body is on its way: how many rounds follow, the tag and the body, the tags so far
-- and both histories.
abbrev pub Stage : Type 1
Stage = ℕ → ℕ → List ℕ → Log → asked.History → served.History → Type 0

module _ (p : Pair) (Asks : Stage) (Done : Log → asked.History → served.History → Type 0) (told : Event) where
  -- What an answer leads to at the requester: a further request, with one round fewer to follow, or the end.
  pub data Leads (more : ℕ) (o : Outcome) (log : Log) (h : asked.History) (g : served.History) : Type 0 where
    Further : (next : Sent) → (fewer : ℕ) → more ≡ suc fewer → shown.sent_by o ≡ Some next → Asks fewer next.tag (body_of next.content) log (shown.after h o) g → Leads more o log h g
    Over : shown.sent_by o ≡ None → shown.event_of o ≡ Some told → Done log (shown.after h o) g → Leads more o log h g

-- Each request of these stages is short enough for so many packets, and each answer for so many, by how many rounds follow.
pub record AreShort (there round : ℕ → ℕ) (Asks Answers : Stage) : Type 0 where
  pub asks : (more tag : ℕ) (body : List ℕ) (log : Log) (h : asked.History) (g : served.History) → Asks more tag body log h g → length body ≤ 64 * there more
  pub answers : (more tag : ℕ) (body : List ℕ) (log : Log) (h : asked.History) (g : served.History) → Answers more tag body log h g → length body ≤ 64 * round more

-- So many packets in all of the last rounds.
abbrev pub sum_to : (ℕ → ℕ) → ℕ → ℕ
sum_to each zero = 0
sum_to each (suc more) = sum_to each more + each more

-- What makes such a talk of these stages.
pub record IsTalk (p : Pair) (Asks Answers : Stage) (Done : Log → asked.History → served.History → Type 0) (told : Event) : Type 0 where
  pub asks_sent : (more tag : ℕ) (body : List ℕ) (log : Log) (h : asked.History) (g : served.History) → Asks more tag body log h g → IsSendable tag body
  pub answers_sent : (more tag : ℕ) (body : List ℕ) (log : Log) (h : asked.History) (g : served.History) → Answers more tag body log h g → IsSendable tag body
  pub serves : (more tag : ℕ) (body : List ℕ) (log : Log) (h : asked.History) (g : served.History) (d : Draw) → length d.bytes ≡ 32 → NoChance log → Asks more tag body log h g
      → Answers more tag (answering.body_of (responder_does p.responder g tag body d)) (served_log.acts_of p.responder g body (responder_does p.responder g tag body d) ++ log) h (answering.after g (responder_does p.responder g tag body d))
  pub hears : (more tag : ℕ) (body : List ℕ) (log : Log) (h : asked.History) (g : served.History) (d : Draw) → NoChance log → Answers more tag body log h g
      → Leads p Asks Done told more (requester_hears p.requester h false tag body d) (asked_log.acts_of p.requester h body (requester_hears p.requester h false tag body d) ++ log) h g
  pub asks_still : (more tag : ℕ) (body : List ℕ) (log : Log) (h : asked.History) (g later : served.History) → AreAlike p.responder g later → Asks more tag body log h g → Asks more tag body log h later
  pub answers_still : (more tag : ℕ) (body : List ℕ) (log : Log) (h : asked.History) (g later : served.History) → AreAlike p.responder g later → Answers more tag body log h g → Answers more tag body log h later
  pub done_still : (log : Log) (h : asked.History) (g later : served.History) → AreAlike p.responder g later → Done log h g → Done log h later

-- No body has more than 66 packets.
pub all_short : (p : Pair) (Asks Answers : Stage) (Done : Log → asked.History → served.History → Type 0) (told : Event) → IsTalk p Asks Answers Done told → AreShort (λ more. 66) (λ more. 66) Asks Answers
all_short p Asks Answers Done told talk = record {
  asks = λ more tag body log h g asks. (let fits = (talk.asks_sent more tag body log h g asks).whole.fits in omega (arith, fits));
  answers = λ more tag body log h g answers. (let fits = (talk.answers_sent more tag body log h g answers).whole.fits in omega (arith, fits));
}

module _ (limit : ℕ) (within : limit ≤ wear_limit) (p : Pair) (ends : AreEnds p) (Aside : World → Type 0) (aside : IsAside p Aside) (Asks Answers : Stage) (Done : Log → asked.History → served.History → Type 0) (told : Event) (talk : IsTalk p Asks Answers Done told)
    (there round : ℕ → ℕ) (short : AreShort there round Asks Answers) where
  -- So many packets of a request, or of an answer, were given.
  pub record Asking (world : World) : Type 0 where
    pub more : ℕ
    pub tag : ℕ
    pub body : List ℕ
    pub sent : IsSendable tag body
    pub view : View
    pub asks : Asks more tag body view.log view.asked view.served
    pub done : ℕ
    pub left : ℕ
    pub few : suc left ≤ there more
    pub comes : RequestComes p ends Aside aside tag body sent.small sent.whole done left view world
    pub life : length view.given + view.commands + sum_to round (suc more) ≤ limit
    pub responder_life : length view.received + suc left + sum_to there more ≤ limit

  pub record Answering (world : World) : Type 0 where
    pub more : ℕ
    pub tag : ℕ
    pub body : List ℕ
    pub sent : IsSendable tag body
    pub view : View
    pub answers : Answers more tag body view.log view.asked view.served
    pub done : ℕ
    pub left : ℕ
    pub few : suc left ≤ round more
    pub comes : AnswerComes p ends Aside aside tag body sent.small sent.whole done left view world
    pub life : length view.given + view.commands + suc left + sum_to round more ≤ limit
    pub responder_life : length view.received + sum_to there more ≤ limit

  abbrev pub IsUnderWay : World → Type 0
  IsUnderWay world = Asking world ⊎ Answering world

  pub record IsDone (world : World) : Type 0 where
    pub view : View
    pub shows : Shows p Aside view [] world
    pub done : Done view.log view.asked view.served
    pub life : length view.given + view.commands ≤ limit
    pub responder_life : length view.received ≤ limit

  abbrev pub done_line : Line
  done_line = Line.ToRequester p.number told

  -- ---- A body was just sent.

  left_of : (each unit : ℕ) (body : List ℕ) → 64 ≤ unit → IsBody body → length body ≤ 64 * each → (left : ℕ) × (suc left ≡ packet_count unit body) × (packet_count unit body ≤ each)
  left_of each unit body wide whole fits =
      let count = packets_within unit each body wide whole.filled fits in
      let left = before_it (packet_count unit body) count.0 in
      (left.0, left.1, count.1)

  pub begins : (more : ℕ) (next : Sent) (v : View) (world : World) → Shows p Aside v (packets_of_sent p.requester (Some next)) world → Asks more next.tag (body_of next.content) v.log v.asked v.served
      → length v.given + v.commands + sum_to round (suc more) ≤ limit → length v.received + sum_to there (suc more) ≤ limit → Asking world
  begins more next v world s asks life responder_life =
      let body = body_of next.content in
      let sendable = talk.asks_sent more next.tag body v.log v.asked v.served asks in
      let left = left_of (there more) p.requester.unit body ends.requester_unit sendable.whole (short.asks more next.tag body v.log v.asked v.served asks) in record {
        more = more;
        tag = next.tag;
        body = body;
        sent = sendable;
        view = v;
        asks = asks;
        done = 0;
        left = left.0;
        few = omega (arith, left.1, left.2);
        comes = record {
          sum = omega (arith, left.1);
          shows = subst (λ (to : ℕ). Shows p Aside v (packets_to to p.requester.eid true next.tag p.requester.unit body) world) ends.to s;
          came = none_came p.responder.eid p.requester.eid true next.tag p.requester.unit body sendable.small _ sendable.whole v.received;
        };
        life = life;
        responder_life = omega (arith, left.1, left.2);
      }

  pub begins_with : (more : ℕ) (next : Sent) (v : View) (world : World) (shows : Shows p Aside v (packets_of_sent p.requester (Some next)) world) (asks : Asks more next.tag (body_of next.content) v.log v.asked v.served)
      (life : length v.given + v.commands + sum_to round (suc more) ≤ limit) (responder_life : length v.received + sum_to there (suc more) ≤ limit) → (begins more next v world shows asks life responder_life).more ≡ more
  unfolding begins
  begins_with more next v world shows asks life responder_life = refl

  answered : (world : World) (more tag : ℕ) (body : List ℕ) (sent : IsSendable tag body) (v : View) (done : ℕ) → NoChance v.log → Asks more tag body v.log v.asked v.served → length v.given + v.commands + sum_to round (suc more) ≤ limit
      → length v.received + 1 + sum_to there more ≤ limit → IsServed p ends Aside aside tag body sent.small sent.whole done v world → Answering world
  answered world more tag body sent v done chance asks life responder_life x =
      let o = responder_does p.responder v.served tag body x.drawn in
      let reply = answering.body_of o in
      let answers = talk.serves more tag body v.log v.asked v.served x.drawn x.draws chance asks in
      let sendable = talk.answers_sent more tag reply _ _ _ answers in
      let left = left_of (round more) p.responder.unit reply ends.responder_unit sendable.whole (short.answers more tag reply _ _ _ answers) in record {
        more = more;
        tag = tag;
        body = reply;
        sent = sendable;
        view = _;
        answers = answers;
        done = 0;
        left = left.0;
        few = omega (arith, left.1, left.2);
        comes = record {
          sum = omega (arith, left.1);
          shows = x.shows;
          came = none_came p.requester.eid p.responder.eid false tag p.responder.unit reply sendable.small _ sendable.whole v.given;
        };
        life = omega (arith, left.1, left.2);
        responder_life = omega arith;
      }

  -- The world goes on, or all is done and its line is written.
  abbrev pub TalkGoes : WorldStep → Type 0
  TalkGoes s = Goes IsUnderWay IsDone done_line s

  -- A further request is on its way after an answer.
  further : (s : WorldStep) (more tag : ℕ) (body : List ℕ) (sent : IsSendable tag body) (v : View) (done : ℕ) → length v.given + v.commands + 1 + sum_to round more ≤ limit → length v.received + sum_to there more ≤ limit
      → (x : IsHeard p ends Aside aside tag body sent.small sent.whole done v s) (next : Sent) (fewer : ℕ) → more ≡ suc fewer → shown.sent_by (requester_hears p.requester v.asked false tag body x.drawn) ≡ Some next
      → Asks fewer next.tag (body_of next.content) (heard_view p ends Aside aside tag body sent.small sent.whole done v x.drawn).log (heard_view p ends Aside aside tag body sent.small sent.whole done v x.drawn).asked v.served → Asking s.after
  further s more tag body sent v done life responder_life x next fewer one_less sends asks =
      let these : sum_to round more ≡ sum_to round fewer + round fewer = ap (sum_to round) one_less in
      let those : sum_to there more ≡ sum_to there fewer + there fewer = ap (sum_to there) one_less in
      begins fewer next (heard_view p ends Aside aside tag body sent.small sent.whole done v x.drawn) s.after (subst (λ (o : Option Sent). Shows p Aside (heard_view p ends Aside aside tag body sent.small sent.whole done v x.drawn) (packets_of_sent p.requester o) s.after) sends x.shows) asks (omega (arith, these)) (omega (arith, those))

  heard : (s : WorldStep) (more tag : ℕ) (body : List ℕ) (sent : IsSendable tag body) (v : View) (done : ℕ) → length v.given + v.commands + 1 + sum_to round more ≤ limit → length v.received + sum_to there more ≤ limit
      → (x : IsHeard p ends Aside aside tag body sent.small sent.whole done v s)
      → Leads p Asks Done told more (requester_hears p.requester v.asked false tag body x.drawn) (asked_log.acts_of p.requester v.asked body (requester_hears p.requester v.asked false tag body x.drawn) ++ v.log) v.asked v.served
      → TalkGoes s
  heard s more tag body sent v done life responder_life x (Further next fewer one_less sends asks) = GoesOn (inl (further s more tag body sent v done life responder_life x next fewer one_less sends asks))
  heard s more tag body sent v done life responder_life x (Over sends tells finished) =
      Ends (record { view = (heard_view p ends Aside aside tag body sent.small sent.whole done v x.drawn); shows = subst (λ (o : Option Sent). Shows p Aside (heard_view p ends Aside aside tag body sent.small sent.whole done v x.drawn) (packets_of_sent p.requester o) s.after) sends x.shows; done = finished; life = omega arith; responder_life = omega arith })
      (subst (λ (o : Option Event). IsIn s.lines (Line.ToRequester p.number (unwrap_or o event.More))) tells x.writes)

  -- ---- One packet is given.

  asked_given : (world : World) (more tag : ℕ) (body : List ℕ) (sent : IsSendable tag body) (v : View) (done left : ℕ) → suc left ≤ there more → NoChance v.log → Asks more tag body v.log v.asked v.served → length v.given + v.commands + sum_to round (suc more) ≤ limit
      → length v.received + suc left + sum_to there more ≤ limit → RequestComes p ends Aside aside tag body sent.small sent.whole done left v world → IsGiven IsUnderWay IsDone done_line world
  asked_given world more tag body sent v done zero few chance asks life responder_life x =
      let w = first_request p ends Aside aside tag body sent.small sent.whole done 0 v world x in record {
        place = w.place;
        first = w.first;
        goes = GoesOn (inr (answered _ more tag body sent v done chance asks life responder_life (request_ends p ends Aside aside tag body sent.small sent.whole done v world sent.typed (omega (arith, within)) x w)));
      }
  asked_given world more tag body sent v done (suc left) few chance asks life responder_life x =
      let w = first_request p ends Aside aside tag body sent.small sent.whole done (suc left) v world x in record {
        place = w.place;
        first = w.first;
        goes = GoesOn (inl (record {
          more = more;
          tag = tag;
          body = body;
          sent = sent;
          view = _;
          asks = asks;
          done = suc done;
          left = left;
          few = omega arith;
          comes = request_goes_on p ends Aside aside tag body sent.small sent.whole done left v world (omega (arith, within)) x w;
          life = life;
          responder_life = omega arith;
        }));
      }

  answer_given : (world : World) (more tag : ℕ) (body : List ℕ) (sent : IsSendable tag body) (v : View) (done left : ℕ) → suc left ≤ round more → NoChance v.log → Answers more tag body v.log v.asked v.served → length v.given + v.commands + suc left + sum_to round more ≤ limit
      → length v.received + sum_to there more ≤ limit → AnswerComes p ends Aside aside tag body sent.small sent.whole done left v world → IsGiven IsUnderWay IsDone done_line world
  answer_given world more tag body sent v done zero few chance answers life responder_life x =
      let w = first_answer p ends Aside aside tag body sent.small sent.whole done 0 v world x in
      let e = answer_ends p ends Aside aside tag body sent.small sent.whole done v world (omega (arith, within)) x w in record {
        place = w.place;
        first = w.first;
        goes = heard _ more tag body sent v done life responder_life e (talk.hears more tag body v.log v.asked v.served e.drawn chance answers);
      }
  answer_given world more tag body sent v done (suc left) few chance answers life responder_life x =
      let w = first_answer p ends Aside aside tag body sent.small sent.whole done (suc left) v world x in record {
        place = w.place;
        first = w.first;
        goes = GoesOn (inr (record {
          more = more;
          tag = tag;
          body = body;
          sent = sent;
          view = _;
          answers = answers;
          done = suc done;
          left = left;
          few = omega arith;
          comes = answer_goes_on p ends Aside aside tag body sent.small sent.whole done left v world (omega (arith, within)) x w;
          life = omega arith;
          responder_life = responder_life;
        }));
      }

  one_given : (world : World) → NoChance world.log → IsUnderWay world → IsGiven IsUnderWay IsDone done_line world
  one_given world chance (inl x) = asked_given world x.more x.tag x.body x.sent x.view x.done x.left x.few (subst NoChance x.comes.shows.log chance) x.asks x.life x.responder_life x.comes
  one_given world chance (inr x) = answer_given world x.more x.tag x.body x.sent x.view x.done x.left x.few (subst NoChance x.comes.shows.log chance) x.answers x.life x.responder_life x.comes

  -- ---- Between packets.

  under_way_still : (world : World) (r : Responding) → IsStill world r → IsUnderWay world → IsUnderWay (record world { responder = r })
  under_way_still world r still (inl x) =
      let keeps = still_alike p ends.peer world r still in
      let s = x.comes.shows in
      let moved = keeps.connection x.view.served s.is_connection in inl (record {
        more = x.more;
        tag = x.tag;
        body = x.body;
        sent = x.sent;
        view = record x.view { served = moved.0 };
        asks = talk.asks_still x.more x.tag x.body x.view.log x.view.asked x.view.served moved.0 moved.1 x.asks;
        done = x.done;
        left = x.left;
        few = x.few;
        comes = record { sum = x.comes.sum; shows = shows_still p Aside aside x.view _ world r still moved.0 keeps.part keeps.given moved.2 s; came = x.comes.came };
        life = x.life;
        responder_life = x.responder_life;
      })
  under_way_still world r still (inr x) =
      let keeps = still_alike p ends.peer world r still in
      let s = x.comes.shows in
      let moved = keeps.connection x.view.served s.is_connection in inr (record {
        more = x.more;
        tag = x.tag;
        body = x.body;
        sent = x.sent;
        view = record x.view { served = moved.0 };
        answers = talk.answers_still x.more x.tag x.body x.view.log x.view.asked x.view.served moved.0 moved.1 x.answers;
        done = x.done;
        left = x.left;
        few = x.few;
        comes = record { sum = x.comes.sum; shows = shows_still p Aside aside x.view _ world r still moved.0 keeps.part keeps.given moved.2 s; came = x.comes.came };
        life = x.life;
        responder_life = x.responder_life;
      })

  done_still : (world : World) (r : Responding) → IsStill world r → IsDone world → IsDone (record world { responder = r })
  done_still world r still x =
      let keeps = still_alike p ends.peer world r still in
      let moved = keeps.connection x.view.served x.shows.is_connection in record {
        view = record x.view { served = moved.0 };
        shows = shows_still p Aside aside x.view _ world r still moved.0 keeps.part keeps.given moved.2 x.shows;
        done = talk.done_still x.view.log x.view.asked x.view.served moved.0 moved.1 x.done;
        life = x.life;
        responder_life = x.responder_life;
      }

  done_idle : (world : World) → IsDone world → first_waiting world.sent ≡ None
  done_idle world x = waits_idle world.sent x.shows.waits

  -- ---- All of it.

  -- Once no packet waits any more, it is done.
  pub talk_ends : (world : World) (behind : List Entry) → HaveNoCommand behind → AreHonest world behind → NoChance (world_from world behind).log → Asking world → NothingWaits (world_from world behind)
      → IsDone (world_from world behind) × IsIn (lines_from world behind) done_line
  talk_ends world behind none honest chance asking still =
      let e = ended IsUnderWay IsDone (λ w. NoChance w.log) done_line no_chance_earlier one_given done_idle under_way_still done_still world behind none honest chance (inl asking) still in
      (e.done, e.line_is)

  -- Until then it goes on, or is done.
  pub talk_goes : (world : World) (behind : List Entry) → HaveNoCommand behind → AreHonest world behind → NoChance (world_from world behind).log → Asking world → TalkGoes (record { lines = lines_from world behind; after = world_from world behind })
  talk_goes world behind none honest chance asking = all_go IsUnderWay IsDone (λ w. NoChance w.log) done_line no_chance_earlier one_given done_idle under_way_still done_still world behind none honest chance (inl asking)

  -- ---- How many packets are enough.

  -- What is left of this body, and of the answer and the rounds that follow, each way.
  abbrev cost : (world : World) → IsUnderWay world → ℕ
  cost world (inl x) = suc x.left + round x.more + sum_to round x.more + sum_to there x.more
  cost world (inr x) = suc x.left + sum_to round x.more + sum_to there x.more

  -- Less is left than before.
  abbrev Falls : ℕ → (s : WorldStep) → TalkGoes s → Type 0
  Falls before s (GoesOn u) = suc (cost s.after u) ≤ before
  Falls before s (Ends d m) = Unit {0}

  abbrev FallsGiven : ℕ → (world : World) → IsGiven IsUnderWay IsDone done_line world → Type 0
  FallsGiven before world g = Falls before (delivers world (suc g.place) (packet_of (suc g.place) world.sent)) g.goes

  heard_falls : (s : WorldStep) (more tag : ℕ) (body : List ℕ) (sent : IsSendable tag body) (v : View) (done : ℕ) (life : length v.given + v.commands + 1 + sum_to round more ≤ limit) (responder_life : length v.received + sum_to there more ≤ limit)
      (x : IsHeard p ends Aside aside tag body sent.small sent.whole done v s)
      (l : Leads p Asks Done told more (requester_hears p.requester v.asked false tag body x.drawn) (asked_log.acts_of p.requester v.asked body (requester_hears p.requester v.asked false tag body x.drawn) ++ v.log) v.asked v.served)
      → Falls (1 + sum_to round more + sum_to there more) s (heard s more tag body sent v done life responder_life x l)
  unfolding heard further begins
  heard_falls s more tag body sent v done life responder_life x (Further next fewer one_less sends asks) =
      let few = (further s more tag body sent v done life responder_life x next fewer one_less sends asks).few in
      let these : sum_to round more ≡ sum_to round fewer + round fewer = ap (sum_to round) one_less in
      let those : sum_to there more ≡ sum_to there fewer + there fewer = ap (sum_to there) one_less in
      omega (arith, few, these, those)
  heard_falls s more tag body sent v done life responder_life x (Over sends tells finished) = tt

  asked_falls : (world : World) (more tag : ℕ) (body : List ℕ) (sent : IsSendable tag body) (v : View) (done left : ℕ) (few : suc left ≤ there more) (chance : NoChance v.log) (asks : Asks more tag body v.log v.asked v.served) (life : length v.given + v.commands + sum_to round (suc more) ≤ limit)
      (responder_life : length v.received + suc left + sum_to there more ≤ limit) (x : RequestComes p ends Aside aside tag body sent.small sent.whole done left v world)
      → FallsGiven (suc left + round more + sum_to round more + sum_to there more) world (asked_given world more tag body sent v done left few chance asks life responder_life x)
  unfolding asked_given answered
  asked_falls world more tag body sent v done zero few chance asks life responder_life x =
      let w = first_request p ends Aside aside tag body sent.small sent.whole done 0 v world x in
      let later = (answered _ more tag body sent v done chance asks life responder_life (request_ends p ends Aside aside tag body sent.small sent.whole done v world sent.typed (omega (arith, within)) x w)).few in
      omega (arith, later)
  asked_falls world more tag body sent v done (suc left) few chance asks life responder_life x = omega arith

  answer_falls : (world : World) (more tag : ℕ) (body : List ℕ) (sent : IsSendable tag body) (v : View) (done left : ℕ) (few : suc left ≤ round more) (chance : NoChance v.log) (answers : Answers more tag body v.log v.asked v.served) (life : length v.given + v.commands + suc left + sum_to round more ≤ limit)
      (responder_life : length v.received + sum_to there more ≤ limit) (x : AnswerComes p ends Aside aside tag body sent.small sent.whole done left v world)
      → FallsGiven (suc left + sum_to round more + sum_to there more) world (answer_given world more tag body sent v done left few chance answers life responder_life x)
  unfolding answer_given
  answer_falls world more tag body sent v done zero few chance answers life responder_life x =
      let w = first_answer p ends Aside aside tag body sent.small sent.whole done 0 v world x in
      let e = answer_ends p ends Aside aside tag body sent.small sent.whole done v world (omega (arith, within)) x w in
      heard_falls _ more tag body sent v done life responder_life e (talk.hears more tag body v.log v.asked v.served e.drawn chance answers)
  answer_falls world more tag body sent v done (suc left) few chance answers life responder_life x = omega arith

  one_falls : (world : World) (chance : NoChance world.log) (u : IsUnderWay world) → FallsGiven (cost world u) world (one_given world chance u)
  unfolding one_given
  one_falls world chance (inl x) = asked_falls world x.more x.tag x.body x.sent x.view x.done x.left x.few (subst NoChance x.comes.shows.log chance) x.asks x.life x.responder_life x.comes
  one_falls world chance (inr x) = answer_falls world x.more x.tag x.body x.sent x.view x.done x.left x.few (subst NoChance x.comes.shows.log chance) x.answers x.life x.responder_life x.comes

  costs_one : (world : World) (u : IsUnderWay world) → 1 ≤ cost world u
  costs_one world (inl x) = omega arith
  costs_one world (inr x) = omega arith

  abbrev Enough : ℕ → World → Type 0
  Enough count world = (u : IsUnderWay world) → cost world u ≤ count → NoChance (pumps count world).after.log → first_waiting (pumps count world).after.sent ≡ None

  enough_behind : (count before : ℕ) (s : WorldStep) (goes : TalkGoes s) → Falls before s goes → before ≤ suc count → Enough count s.after → NoChance (pumps count s.after).after.log → first_waiting (pumps count s.after).after.sent ≡ None
  enough_behind count before s (GoesOn u) falls most others chance = others u (omega (arith, falls, most)) chance
  enough_behind count before s (Ends d m) falls most others chance = done_idle (pumps count s.after).after (pumps_done IsDone done_idle count s.after d)

  abbrev EnoughSo : World → (World → WorldStep) → Option ℕ → Type 0
  EnoughSo world next o = NoChance (turn world next o).after.log → first_waiting (turn world next o).after.sent ≡ None

  before_these : (count : ℕ) (world : World) → NoChance (pumps count world).after.log → NoChance world.log
  unfolding happens
  before_these count world chance = no_chance_earlier world (Pump count) chance

  pumps_enough : (count : ℕ) (world : World) → Enough count world
  unfolding pumps
  pumps_enough zero world u most chance = (let one = costs_one world u in absurd (omega (arith, most)))
  pumps_enough (suc count) world u most chance =
      let now = before_these (suc count) world chance in
      let g = one_given world now u in
      subst (EnoughSo world (pumps count)) (sym g.first)
      (λ last. enough_behind count (cost world u) (delivers world (suc g.place) (packet_of (suc g.place) world.sent)) g.goes (one_falls world now u) most (pumps_enough count (delivers world (suc g.place) (packet_of (suc g.place) world.sent)).after) last) chance

  -- Such a talk takes no more packets than these.
  pub enough : (count : ℕ) (world : World) (x : Asking world) → sum_to there (suc x.more) + sum_to round (suc x.more) ≤ count → NoChance (pumps count world).after.log → NothingWaits (pumps count world).after
  enough count world x most chance = (let these = x.few in pumps_enough count world (inl x) (omega (arith, these, most)) chance)
