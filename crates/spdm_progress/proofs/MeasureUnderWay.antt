-- A clear measure in progress: its request waits, or so many packets of its answer were given.
use Rattle.std.proofs.Common.{◌≡◌, ◌⊎◌, ◌∙◌, ℕ, zero, suc, ◌<◌, ◌≤◌, ◌+◌, List, ◌++◌, length, false, None, ap, inl, inr, arith}
use Rattle.mctp_framing.specs.Cutting.{packet_count}
use Rattle.spdm_grammar.specs.Lines.{Line}
use Rattle.spdm_grammar.specs.Message.RequestMessage.{GetMeasurements}
use Rattle.spdm_grammar.specs.declared.told.event.Event.{Event}
use Rattle.spdm_grammar.specs.declared.told.event.Event.TheVariants as event
use Rattle.spdm_grammar.specs.declared.told.event.Finished.TheVariants as finished
use Rattle.spdm_machine.specs.Bodies.{clear_body}
use Rattle.spdm_machine.specs.Keys.{Draw}
use Rattle.requester_machine.specs.History as asked
use Rattle.responder_machine.specs.History as served
use Rattle.responder_machine.specs.Responding.{Responding}
use Rattle.transcript.specs.Transcripts.{Negotiation}
use Rattle.world_machine.specs.World.{World, SentPacket, first_waiting, with_sent}
use Rattle.spdm_progress.specs.Measuring.{number_for}
use Rattle.spdm_progress.proofs.Between.{GoesOn, Ends, IsGiven, IsStill}
use Rattle.spdm_progress.proofs.ClearKept.{at_moved, still_clear}
use Rattle.spdm_progress.proofs.ComingSteps.{Coming, first_coming, last_comes, more_comes}
use Rattle.spdm_progress.proofs.ManyPackets.{before_it, clear_is_body, few_packets, idle_waits, none_came, sent_waits, waiting_in}
use Rattle.spdm_progress.proofs.MeasureStages.{CanServe, IsMeasuredBy, Served, Serves, get_measurements, measure_answered, measure_heard, measurements, measurements_are, served_on, serves_on}
use Rattle.spdm_progress.proofs.PacketSteps.{Pair, AreEnds, At, RequestWaits, answer_packets, request_given}
use Rattle.spdm_progress.proofs.RequesterStages.{Asks, Hears}

-- An end that takes so many packets takes fewer.
at_less : (p : Pair) (more less l : ℕ) (Asked : asked.History → Type 0) (Served : served.History → Type 0) (world : World) → less ≤ more → At p more l Asked Served world → At p less l Asked Served world
at_less p more less l Asked Served world fewer at = record {
  given = at.given;
  commands = at.commands;
  asked = at.asked;
  served = at.served;
  is_requester = at.is_requester;
  found = at.found;
  number_is = at.number_is;
  is_connection = at.is_connection;
  own = at.own;
  asks = at.asks;
  serves = at.serves;
  life = (let life = at.life in omega arith);
  responder_life = at.responder_life;
}

module _ (p : Pair) (ends : AreEnds p) (op : ℕ) (n : Negotiation) (can : CanServe p.requester p.responder op n) where
  abbrev pub AsksIt : ℕ → asked.History → Type 0
  AsksIt tag h = Asks p.requester tag (GetMeasurements op) (get_measurements op) n h

  abbrev pub told : Event
  told = event.Done (finished.Measured (number_for p.responder op))

  pub some : 0 < p.responder.unit
  some = (let unit = ends.responder_unit in omega arith)

  pub fits : (nonce : List ℕ) → length nonce ≡ 32 → length (measurements p.responder op nonce) < 4161
  fits nonce whole = (let size = measurements_are p.responder op nonce whole in let own = can.fits_own in let most = can.most in omega (arith, size, own, most))

  pub hears_it : (tag : ℕ) (nonce : List ℕ) → length nonce ≡ 32 → (h : asked.History) (d : Draw) → AsksIt tag h → Hears p.requester h tag (measurements p.responder op nonce) d told None (IsMeasuredBy p.responder op)
  hears_it tag nonce whole h d asks = measure_heard p.requester p.responder h tag op n nonce d whole can asks

  -- The request waits.
  pub record Requested (world : World) : Type 0 where
    pub tag : ℕ
    pub small : tag < 8
    pub waits : RequestWaits p ends tag (get_measurements op) world
    pub pair : At p 66 1 (AsksIt tag) (Serves p.responder n tag op) world

  -- So many packets of an answer are given.
  pub record Answering (world : World) : Type 0 where
    pub tag : ℕ
    pub small : tag < 8
    pub nonce : List ℕ
    pub whole : length nonce ≡ 32
    pub done : ℕ
    pub left : ℕ
    pub coming : Coming p ends 0 0 (AsksIt tag) (λ h. IsMeasuredBy p.responder op) (Served n) tag (measurements p.responder op nonce) told (λ h. None) small (fits nonce whole) some (λ h. tt) (hears_it tag nonce whole) done left world

  abbrev pub IsUnderWay : World → Type 0
  IsUnderWay world = Requested world ⊎ Answering world

  pub record IsDone (world : World) : Type 0 where
    pub idle : first_waiting world.sent ≡ None
    pub pair : At p 0 0 (IsMeasuredBy p.responder op) (Served n) world

  abbrev pub done_line : Line
  done_line = Line.ToRequester p.number told

  -- Of an answer that was just sent no packet was given.
  answering : (world : World) (tag : ℕ) (nonce : List ℕ) (before : List SentPacket) → tag < 8 → length nonce ≡ 32 → first_waiting before ≡ None → world.sent ≡ with_sent before (answer_packets p ends tag (measurements p.responder op nonce))
      → At p 66 0 (AsksIt tag) (Served n) world → Answering world
  answering world tag nonce before small whole idle sends at =
      let answer = measurements p.responder op nonce in
      let size = fits nonce whole in
      let count = few_packets p.responder.unit (clear_body answer) ends.responder_unit (omega arith) (omega arith) in
      let left = before_it (packet_count p.responder.unit (clear_body answer)) count.0 in
      let fewer = at_less p 66 (0 + suc left.0) 0 (AsksIt tag) (Served n) world (omega (arith, left.1, count.1)) at in record {
        tag = tag;
        small = small;
        nonce = nonce;
        whole = whole;
        done = 0;
        left = left.0;
        coming = record {
          sum = omega (arith, left.1);
          waits = ap waiting_in sends ∙ sent_waits before (answer_packets p ends tag answer) ∙ ap (λ (w : List (List ℕ)). w ++ answer_packets p ends tag answer) (idle_waits before idle);
          pair = fewer;
          came = none_came p.requester.eid p.responder.eid false tag p.responder.unit (clear_body answer) small some (clear_is_body answer (fits nonce whole)) fewer.given;
        };
      }

  asked_given : (world : World) → Requested world → IsGiven IsUnderWay IsDone done_line world
  asked_given world x =
      let s = request_given p ends 66 0 (AsksIt x.tag) (Serves p.responder n x.tag op) (Served n) x.tag (get_measurements op) (λ nonce. length nonce ≡ 32) (measurements p.responder op) x.small (omega arith)
      (λ h d drawn has. measure_answered p.requester p.responder h d x.tag op n drawn can has) world x.waits x.pair in
      record { place = x.waits.place; first = x.waits.first; goes = GoesOn (inr (answering _ x.tag s.value s.before x.small s.good s.idle s.sends s.pair)) }

  -- What an answer in progress leads to, by how many packets of it are left.
  answer_given : (world : World) (tag : ℕ) (small : tag < 8) (nonce : List ℕ) (whole : length nonce ≡ 32) (done left : ℕ)
      → Coming p ends 0 0 (AsksIt tag) (λ h. IsMeasuredBy p.responder op) (Served n) tag (measurements p.responder op nonce) told (λ h. None) small (fits nonce whole) some (λ h. tt) (hears_it tag nonce whole) done left world → IsGiven IsUnderWay IsDone done_line world
  answer_given world tag small nonce whole done zero x =
      let w = first_coming p ends 0 0 (AsksIt tag) (λ h. IsMeasuredBy p.responder op) (Served n) tag (measurements p.responder op nonce) told (λ h. None) small (fits nonce whole) some (λ h. tt) (hears_it tag nonce whole) done 0 world x in
      let s = last_comes p ends 0 0 (AsksIt tag) (λ h. IsMeasuredBy p.responder op) (Served n) tag (measurements p.responder op nonce) told (λ h. None) small (fits nonce whole) some (λ h. tt) (hears_it tag nonce whole) done world x w in
      record { place = w.place; first = w.first; goes = Ends (record { idle = s.waits; pair = s.pair }) s.writes }
  answer_given world tag small nonce whole done (suc left) x =
      let w = first_coming p ends 0 0 (AsksIt tag) (λ h. IsMeasuredBy p.responder op) (Served n) tag (measurements p.responder op nonce) told (λ h. None) small (fits nonce whole) some (λ h. tt) (hears_it tag nonce whole) done (suc left) world x in
      let s = more_comes p ends 0 0 (AsksIt tag) (λ h. IsMeasuredBy p.responder op) (Served n) tag (measurements p.responder op nonce) told (λ h. None) small (fits nonce whole) some (λ h. tt) (hears_it tag nonce whole) done left world x w in
      record { place = w.place; first = w.first; goes = GoesOn (inr (record { tag = tag; small = small; nonce = nonce; whole = whole; done = suc done; left = left; coming = s })) }

  pub one_given : (world : World) → IsUnderWay world → IsGiven IsUnderWay IsDone done_line world
  one_given world (inl x) = asked_given world x
  one_given world (inr x) = answer_given world x.tag x.small x.nonce x.whole x.done x.left x.coming

  pub done_idle : (world : World) → IsDone world → first_waiting world.sent ≡ None
  done_idle world d = d.idle

  pub under_way_kept : (world : World) (r : Responding) → IsStill world r → IsUnderWay world → IsUnderWay (record world { responder = r })
  under_way_kept world r still (inl x) = inl (record { tag = x.tag; small = x.small; waits = x.waits; pair = at_moved p 66 1 _ _ world r (still_clear p world r still) (serves_on p.responder n x.tag op) x.pair })
  under_way_kept world r still (inr x) = inr (record {
    tag = x.tag;
    small = x.small;
    nonce = x.nonce;
    whole = x.whole;
    done = x.done;
    left = x.left;
    coming = record { sum = x.coming.sum; waits = x.coming.waits; pair = at_moved p (0 + suc x.left) 0 _ _ world r (still_clear p world r still) (served_on n) x.coming.pair; came = x.coming.came };
  })

  pub done_kept : (world : World) (r : Responding) → IsStill world r → IsDone world → IsDone (record world { responder = r })
  done_kept world r still d = record { idle = d.idle; pair = at_moved p 0 0 _ _ world r (still_clear p world r still) (served_on n) d.pair }
