-- A command that is told to a quiet requester: what it sends is on its way.
use Rattle.std.proofs.Common.{◌≡◌, ◌≢◌, ◌∙◌, ℕ, ◌≤◌, ◌+◌, List, [], ◌∷◌, ◌++◌, length, Bool, true, false, Some, None, refl, sym, ap, inl, arith, eq-eqb}
use Rattle.std.specs.Prelude.{if◌then◌else◌}
use Rattle.std.proofs.lemmas.Bool.{ne_eqb}
use Rattle.spdm_machine.specs.Bodies.{record_body}
use Rattle.spdm_machine.specs.Keys.{Draw}
use Rattle.spdm_machine.specs.TagLog.{Log}
use Rattle.requester_machine.specs.Asking.Outcome.{Adds}
use Rattle.requester_machine.specs.Does.{requester_asks}
use Rattle.requester_machine.specs.History as asked
use Rattle.requester_machine.specs.History.Entry.{Told as WasTold}
use Rattle.requester_machine.specs.Message.{Command, Sent}
use Rattle.requester_machine.specs.RequesterLog as asked_log
use Rattle.requester_machine.specs.Requesting as asking
use Rattle.requester_machine.specs.Requesting.{Requesting, CommandStep, packets_of_sent, requester_told, commanded_by}
use Rattle.requester_machine.specs.Sending.{record_sent}
use Rattle.requester_machine.specs.Session as steps
use Rattle.requester_machine.specs.Session.{Steps}
use Rattle.requester_machine.specs.Session.Step.{Asked}
use Rattle.requester_machine.specs.Setup.{ReqSetup}
use Rattle.requester_machine.proofs.Few.{live_first}
use Rattle.requester_machine.specs.Order.{stage_for}
use Rattle.responder_machine.specs.History as served
use Rattle.responder_machine.specs.Responding.{Connection, connection_of}
use Rattle.responder_machine.specs.Session as events
use Rattle.responder_machine.specs.Turn.{Turn}
use Rattle.responder_machine.specs.Setup.{RspSetup}
use Rattle.spdm_grammar.specs.declared.told.phase.Stage.TheVariants as stage
use Rattle.transcript.specs.Transcripts.{Negotiation}
use Rattle.world_machine.specs.Happenings.Happening.{Told}
use Rattle.world_machine.specs.World.{World, first_waiting, happens, requester_of, told, told_by, with_sent}
use Rattle.spdm_progress.specs.InStep.{AreQuiet, rsp_id}
use Rattle.spdm_progress.proofs.Aside.{IsAside}
use Rattle.spdm_progress.proofs.ManyPackets.{idle_waits, sent_waits}
use Rattle.spdm_progress.proofs.PacketSteps.{asker}
use Rattle.spdm_progress.proofs.Places.{found_new, number_new, of_new}
use Rattle.spdm_progress.proofs.RecordRounds.{beside_on, beside_quiet, earlier_on}
use Rattle.spdm_progress.proofs.RequesterStages.{next_small}
use Rattle.spdm_progress.proofs.SessionRounds.{Asking, IsAsked, asked_steps, made_for, sealed_for}
use Rattle.spdm_progress.proofs.Told.{ArePlaced, pair_of}
use Rattle.spdm_progress.proofs.Views.{View, Shows}

-- ---- The world.

-- A pair as it stands in a world where no packet waits.
abbrev pub view_of : World → Requesting → Connection → View
view_of world a c = record { given = a.given; commands = a.commands; asked = a.history; served = c.history; received = world.responder.given; log = world.log }

pub shows_at : (Aside : World → Type 0) (world : World) (n : ℕ) (a : Requesting) (c : Connection) → ArePlaced world n a c → requester_of n world ≡ Some a → connection_of a.setup.eid world.responder.connections ≡ Some c → first_waiting world.sent ≡ None → Aside world
    → Shows (pair_of n a c) Aside (view_of world a c) [] world
shows_at Aside world n a c placed is connected idle beside = record {
  is_requester = is;
  found = placed.found;
  number_is = placed.number_is;
  is_connection = connected;
  own = placed.own;
  received = refl;
  log = refl;
  waits = idle_waits world.sent idle;
  aside = beside;
}

-- A command that sends a message.
abbrev pub sends : Requesting → Command → Sent → CommandStep
sends a command sent = commanded_by a (Adds (WasTold command sent (asking.next_draw a)))

-- The pair after it.
abbrev pub told_view : World → Requesting → Connection → Command → Sent → View
told_view world a c command sent = record {
  given = a.given;
  commands = a.commands + 1;
  asked = WasTold command sent (asking.next_draw a) ∷ a.history;
  served = c.history;
  received = world.responder.given;
  log = asked_log.acts_of a.setup a.history [] (Adds (WasTold command sent (asking.next_draw a))) ++ world.log;
}

pub shows_told : (Aside : World → Type 0) (world : World) (n : ℕ) (a : Requesting) (c : Connection) → IsAside (pair_of n a c) Aside → (command : Command) (sent : Sent) → Shows (pair_of n a c) Aside (view_of world a c) [] world
    → Shows (pair_of n a c) Aside (told_view world a c command sent) (packets_of_sent a.setup (Some sent)) (told_by world n (sends a command sent)).after
shows_told Aside world n a c aside command sent s =
    let new = asker (pair_of n a c) a.given (a.commands + 1) (WasTold command sent (asking.next_draw a) ∷ a.history) in
    let packets = packets_of_sent a.setup (Some sent) in record {
      is_requester = of_new n new world (told_by world n (sends a command sent)).after a refl s.is_requester refl;
      found = found_new new world.requesters a s.found;
      number_is = number_new 1 a.setup.eid new world.requesters ∙ s.number_is;
      is_connection = s.is_connection;
      own = s.own;
      received = refl;
      log = refl;
      waits = sent_waits world.sent packets ∙ ap (λ (w : List (List ℕ)). w ++ packets) s.waits;
      aside = aside.requester world new (with_sent world.sent packets) (asked_log.acts_of a.setup a.history [] (Adds (WasTold command sent (asking.next_draw a)))) refl s.aside;
    }

pub told_is : (world : World) (n : ℕ) (a : Requesting) (command : Command) (sent : Sent) → requester_of n world ≡ Some a → requester_told a command ≡ sends a command sent → happens world (Told n command) ≡ told_by world n (sends a command sent)
unfolding happens
told_is world n a command sent is step = ap (told world n command) is ∙ ap (told_by world n) step

-- ---- What is asked of a session.

-- What a command sends that asks this of a session.
abbrev pub sent_for : ReqSetup → asked.History → ℕ → Asking → List ℕ → Sent
sent_for q h id x pad = record_sent q h id (steps.session_of id h) x.ask (x.inner (steps.session_of id h)) pad

pub draws_on : (b : Bool) (n : ℕ) → n ≤ (if b then n + 1 else n)
draws_on true n = omega arith
draws_on false n = omega arith

-- A command that asks something of a session, for all that its message says: no Connect and no Open.
pub record AsksOfSession (command : Command) : Type 0 where
  pub steps_by : (j : ℕ) (n : Negotiation) (sent : Sent) (s : Steps) → steps.after_command j n command sent s ≡ steps.with_sent j (Some sent) s
  pub no_connect : asked.is_connect command ≡ false

module _ (q : ReqSetup) (r : RspSetup) (first id : ℕ) (x : Asking) (Fit : Steps → Type 0) (command : Command) (one : AsksOfSession command) (log : Log) (h : asked.History) (g : served.History) (d : Draw) (pad : List ℕ)
    (quiet : AreQuiet q r first log h g) (live : steps.is_live (steps.session_of id h) ≡ true) (plain : stage_for x.ask ≡ stage.Open) (fit : Fit (steps.session_of id h)) (short : length (x.inner (steps.session_of id h)) + length pad ≤ 4134)
    (asks : requester_asks false q h command d ≡ Adds (WasTold command (sent_for q h id x pad) d)) (known : (turns : List Turn) → x.before turns) (queued : x.there g) where
  abbrev s : Steps
  s = steps.session_of id h

  abbrev sent : Sent
  sent = sent_for q h id x pad

  abbrev new : asked.History
  new = WasTold command sent d ∷ h

  session_new : steps.session_of id new ≡ asked_steps q r first id x s pad
  unfolding steps.session_of
  session_new =
      one.steps_by id (asked.negotiation_of h) sent (steps.session_of id h)
      ∙ ap (λ (b : Bool). if b then steps.when_live (steps.session_of id h) (Asked x.ask (x.inner (steps.session_of id h)) (sealed_for q r first id x (steps.session_of id h) pad)) else steps.session_of id h) (eq-eqb id id refl)
      ∙ live_first (steps.session_of id h) (Asked x.ask (x.inner (steps.session_of id h)) (sealed_for q r first id x (steps.session_of id h) pad)) live

  elsewhere : (j : ℕ) → j ≢ id → steps.session_of j new ≡ steps.session_of j h
  unfolding steps.session_of
  elsewhere j other =
      one.steps_by j (asked.negotiation_of h) sent (steps.session_of j h)
      ∙ ap (λ (b : Bool). if b then steps.when_live (steps.session_of j h) (Asked x.ask (x.inner (steps.session_of id h)) (sealed_for q r first id x (steps.session_of id h) pad)) else steps.session_of j h) (ne_eqb id j (λ same. other (sym same)))

  unconnected : (asked.phase_of new ≡ asked.phase_of h) × (asked.negotiation_of new ≡ asked.negotiation_of h)
  unconnected = (rw one.no_connect refl, rw one.no_connect refl)

  pub asked_now : IsAsked q r first id x Fit (asked.next_tag h) (record_body (sealed_for q r first id x s pad)) (made_for q r first id x s pad log) new g
  asked_now =
      let resting = quiet.sessions id live in
      let same = unconnected in record {
        s = s;
        pad = pad;
        fit = fit;
        short = short;
        small = next_small h;
        body_is = refl;
        waits = refl;
        steps_are = session_new;
        at = resting.stage ∙ sym plain;
        in_step = resting.in_step;
        two_bytes = resting.two_bytes;
        older = log;
        log_is = refl;
        last = resting.last;
        known = known (events.turns_of (events.session_of (rsp_id s) g));
        queued = queued;
        beside = beside_on q r first id (rsp_id s) (made_for q r first id x s pad []) log h new g g (record {
          made = (asks, quiet.made);
          made_there = quiet.made_there;
          phase = same.0;
          phase_there = refl;
          negotiation = same.1;
          negotiation_there = refl;
          earlier = earlier_on q first h new g g refl same.1 (draws_on (asked.takes_draw q command) (asked.draws_of q h));
          same = elsewhere;
          same_there = λ j other past. inl refl;
        }) (beside_quiet q r first id log h g quiet live);
      }
