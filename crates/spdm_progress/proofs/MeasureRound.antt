-- A clear measure takes one round, and leaves quiet ends quiet.
use Rattle.std.proofs.Common.{◌≡◌, ◌⊎◌, ◌∙◌, ℕ, List, ◌∷◌, ◌++◌, length, Bool, true, false, None, refl, sym, ap, subst, inl, inr, arith}
use Rattle.std.specs.Prelude.{slice_index}
use Rattle.spdm_grammar.specs.Message.{ExchangeMessage}
use Rattle.spdm_grammar.specs.Message.RequestMessage.{GetMeasurements, PskExchange}
use Rattle.spdm_grammar.specs.Requests.{canonical_request}
use Rattle.spdm_grammar.specs.declared.told.event.Event.{Event}
use Rattle.spdm_grammar.specs.declared.told.event.Event.TheVariants as event
use Rattle.spdm_grammar.specs.declared.told.event.Finished.TheVariants as finished
use Rattle.spdm_grammar.specs.declared.told.phase.Phase.TheVariants.{Negotiated}
use Rattle.spdm_machine.specs.Bodies.{clear_body}
use Rattle.spdm_machine.specs.Keys.{Draw}
use Rattle.spdm_machine.specs.TagLog.{Log}
use Rattle.spdm_machine.proofs.Members.{some_same}
use Rattle.requester_machine.specs.Asking.{Outcome}
use Rattle.requester_machine.specs.Asking.Outcome.{Adds}
use Rattle.requester_machine.specs.Does.{requester_asks, requester_hears}
use Rattle.requester_machine.specs.History as asked
use Rattle.requester_machine.specs.History.Entry.{Told, TookClear}
use Rattle.requester_machine.specs.Message.Command.{Measure}
use Rattle.requester_machine.specs.RequesterLog as asked_log
use Rattle.requester_machine.specs.Sending.{plain_sent}
use Rattle.requester_machine.specs.Session as steps
use Rattle.requester_machine.specs.Setup.{ReqSetup}
use Rattle.requester_machine.specs.Shown.{last_data}
use Rattle.responder_machine.specs.Does.{clear_chosen, clear_does, responder_does}
use Rattle.responder_machine.specs.Handling.{turn_of}
use Rattle.responder_machine.specs.History as served
use Rattle.responder_machine.specs.History.Entry.{Clear}
use Rattle.responder_machine.specs.Place.{clear_place}
use Rattle.responder_machine.specs.Responder as answering
use Rattle.responder_machine.specs.Responder.{is_repeat, kept_reply, on_clear}
use Rattle.responder_machine.specs.Responder.Outcome.{Adds as AddsThere, Same}
use Rattle.responder_machine.specs.ResponderLog as served_log
use Rattle.responder_machine.specs.Session as events
use Rattle.responder_machine.specs.Setup.{RspSetup}
use Rattle.responder_machine.specs.Turn.{Turn}
use Rattle.transcript.specs.Transcripts.{Negotiation}
use Rattle.world_machine.specs.Chance.{NoChance}
use Rattle.spdm_progress.specs.InStep.{AreQuiet, TookEarlier}
use Rattle.spdm_progress.specs.Measuring.{number_for, record_for}
use Rattle.spdm_progress.proofs.ManyPackets.{clear_is_body}
use Rattle.spdm_progress.proofs.MeasureStages.{Again, CanServe, asks_measure, get_measurements, measure_answered, measure_outcome, measure_turn, measured_led, measurements, measurements_are, record_taken}
use Rattle.spdm_progress.proofs.PacketSteps.{Pair}
use Rattle.spdm_progress.proofs.RecordRounds.{quiet_longer, quiet_moved, quiet_still, quiet_there}
use Rattle.spdm_progress.proofs.RequesterStages.{Asks as AsksRequest, next_small}
use Rattle.spdm_progress.proofs.ResponderTurns.{taken_turn}
use Rattle.spdm_progress.proofs.StillKept.{AreAlike}
use Rattle.spdm_progress.proofs.Talk.{IsSendable, IsTalk, Leads, Over}

module _ (p : Pair) (op : ℕ) (h0 : asked.History) (d0 : Draw) (can : CanServe p.requester p.responder op (asked.negotiation_of h0)) (phase : asked.phase_of h0 ≡ Negotiated)
    (asks : requester_asks false p.requester h0 (Measure None op) d0 ≡ Adds (Told (Measure None op) (plain_sent h0 (GetMeasurements op)) d0)) where
  abbrev q : ReqSetup
  q = p.requester

  abbrev r : RspSetup
  r = p.responder

  abbrev m : List ℕ
  m = get_measurements op

  abbrev n : Negotiation
  n = asked.negotiation_of h0

  abbrev h1 : asked.History
  h1 = Told (Measure None op) (plain_sent h0 (GetMeasurements op)) d0 ∷ h0

  abbrev told : Event
  told = event.Done (finished.Measured (number_for r op))

  -- GET_MEASUREMENTS is on its way.
  pub record MeasureAsked (more tag : ℕ) (body : List ℕ) (log : Log) (h : asked.History) (g : served.History) : Type 0 where
    pub h_is : h ≡ h1
    pub tag_is : tag ≡ asked.next_tag h0
    pub body_is : body ≡ clear_body m
    pub quiet : AreQuiet q r p.first log h0 g
    pub again : Again r op g

  -- MEASUREMENTS is on its way back.
  pub record MeasureAnswered (more tag : ℕ) (body : List ℕ) (log : Log) (h : asked.History) (g : served.History) : Type 0 where
    pub h_is : h ≡ h1
    pub tag_is : tag ≡ asked.next_tag h0
    pub nonce : List ℕ
    pub whole : length nonce ≡ 32
    pub body_is : body ≡ clear_body (measurements r op nonce)
    pub quiet : AreQuiet q r p.first log h0 g

  -- It is over: the two are quiet, and the record was taken.
  abbrev pub Quiet : Log → asked.History → served.History → Type 0
  Quiet log h g = AreQuiet q r p.first log h g × (last_data h ≡ record_for r op)

  asked_sent : (more tag : ℕ) (body : List ℕ) (log : Log) (h : asked.History) (g : served.History) → MeasureAsked more tag body log h g → IsSendable tag body
  asked_sent more tag body log h g y =
      subst (λ (t : ℕ). IsSendable t body) (sym y.tag_is) (subst (IsSendable (asked.next_tag h0)) (sym y.body_is) (record { small = next_small h0; whole = clear_is_body m (omega arith); typed = refl }))

  answered_sent : (more tag : ℕ) (body : List ℕ) (log : Log) (h : asked.History) (g : served.History) → MeasureAnswered more tag body log h g → IsSendable tag body
  answered_sent more tag body log h g y =
      let size = measurements_are r op y.nonce y.whole in
      let own = can.fits_own in
      let most = can.most in
      subst (λ (t : ℕ). IsSendable t body) (sym y.tag_is) (subst (IsSendable (asked.next_tag h0)) (sym y.body_is) (record { small = next_small h0; whole = clear_is_body (measurements r op y.nonce) (omega (arith, size)); typed = refl }))

  -- ---- The responder.

  other_codes : (x : ExchangeMessage) → m ≡ canonical_request (PskExchange x) → ⊥
  other_codes x e = (let code : slice_index m 1 ≡ slice_index (canonical_request (PskExchange x)) 1 = ap (λ (l : List ℕ). slice_index l 1) e in omega arith)

  module _ (tag : ℕ) (log : Log) (g : served.History) (d : Draw) (drawn : length d.bytes ≡ 32) (quiet : AreQuiet q r p.first log h0 g) (again : Again r op g) where
    abbrev t : Turn
    t = taken_turn r (clear_place g) m (clear_chosen r g d) (GetMeasurements op)

    there : served.negotiation_of (served.clear_turns g) ≡ n
    there = sym quiet.negotiation

    turned : turn_of r (clear_place g) m (clear_chosen r g d) ≡ t
    turned = measure_turn q r g d tag op n drawn can (record { phase_is = sym quiet.phase ∙ phase; negotiation = there; again = again })

    -- The outcome, from memory or anew.
    outcome : (b : Bool) → is_repeat (served.kept_of g) tag m ≡ b → (clear_does r g tag m d ≡ Same (clear_body (kept_reply (served.kept_of g)))) ⊎ (clear_does r g tag m d ≡ AddsThere (Clear tag t d))
    unfolding on_clear
    outcome true is = inl (rw is refl)
    outcome false is = inr (rw (is, turned) refl)

    taken_earlier : TookEarlier q p.first h0 (Clear tag t d ∷ g)
    taken_earlier = record {
      kept = λ k is x e fits sound context whole above below same. other_codes x (ap (λ (z : served.Kept). z.message) (some_same _ k is) ∙ same);
    }

    quiet_by : (acts : Log) (o : answering.Outcome) → clear_does r g tag m d ≡ o → (o ≡ Same (clear_body (kept_reply (served.kept_of g)))) ⊎ (o ≡ AddsThere (Clear tag t d)) → AreQuiet q r p.first (acts ++ log) h0 (answering.after g o)
    unfolding events.session_of
    quiet_by acts o is (inl same) = subst (λ (z : answering.Outcome). AreQuiet q r p.first (acts ++ log) h0 (answering.after g z)) (sym same) (quiet_longer q r p.first acts log h0 g quiet)
    quiet_by acts o is (inr adds) =
        subst (λ (z : answering.Outcome). AreQuiet q r p.first (acts ++ log) h0 (answering.after g z)) (sym adds)
        (quiet_there q r p.first acts log h0 g (Clear tag t d ∷ g) (is ∙ adds, quiet.made_there) refl refl taken_earlier (λ j. refl) quiet)

    served_now : (more : ℕ) → tag ≡ asked.next_tag h0 → MeasureAnswered more tag (answering.body_of (clear_does r g tag m d)) (served_log.acts_of r g (clear_body m) (clear_does r g tag m d) ++ log) h1 (answering.after g (clear_does r g tag m d))
    served_now more tag_is =
        let o = measure_answered q r g d tag op n drawn can (record { phase_is = sym quiet.phase ∙ phase; negotiation = there; again = again }) in record {
          h_is = refl;
          tag_is = tag_is;
          nonce = o.0;
          whole = o.1;
          body_is = o.2.body;
          quiet = quiet_by (served_log.acts_of r g (clear_body m) (clear_does r g tag m d)) (clear_does r g tag m d) refl (outcome (is_repeat (served.kept_of g) tag m) refl);
        }

  serves : (more tag : ℕ) (body : List ℕ) (log : Log) (h : asked.History) (g : served.History) (d : Draw) → length d.bytes ≡ 32 → NoChance log → MeasureAsked more tag body log h g
      → MeasureAnswered more tag (answering.body_of (responder_does r g tag body d)) (served_log.acts_of r g body (responder_does r g tag body d) ++ log) h (answering.after g (responder_does r g tag body d))
  serves more tag body log h g d drawn chance y =
      subst (λ (k : asked.History). MeasureAnswered more tag (answering.body_of (responder_does r g tag body d)) (served_log.acts_of r g body (responder_does r g tag body d) ++ log) k (answering.after g (responder_does r g tag body d))) (sym y.h_is)
      (subst (λ (b : List ℕ). MeasureAnswered more tag (answering.body_of (responder_does r g tag b d)) (served_log.acts_of r g b (responder_does r g tag b d) ++ log) h1 (answering.after g (responder_does r g tag b d))) (sym y.body_is)
      (served_now tag log g d drawn y.quiet y.again more y.tag_is))

  -- ---- The requester.

  heard_now : (more tag : ℕ) (log : Log) (g : served.History) (d : Draw) (nonce : List ℕ) → length nonce ≡ 32 → tag ≡ asked.next_tag h0 → AreQuiet q r p.first log h0 g
      → Leads p MeasureAsked Quiet told more (requester_hears q h1 false tag (clear_body (measurements r op nonce)) d) (asked_log.acts_of q h1 (clear_body (measurements r op nonce)) (requester_hears q h1 false tag (clear_body (measurements r op nonce)) d) ++ log) h1 g
  unfolding steps.session_of
  heard_now more tag log g d nonce whole tag_is quiet =
      let entry = TookClear tag (measurements r op nonce) (measured_led r op nonce) d in
      let asks_it = subst (λ (z : ℕ). AsksRequest q z (GetMeasurements op) m n h1) (sym tag_is) (asks_measure q h0 d0 op n refl) in
      let is = measure_outcome q r h1 tag op n nonce d whole can asks_it in
      let acts = asked_log.acts_of q h1 (clear_body (measurements r op nonce)) (Adds entry) in
      subst (λ (o : Outcome). Leads p MeasureAsked Quiet told more o (asked_log.acts_of q h1 (clear_body (measurements r op nonce)) o ++ log) h1 g) (sym is)
      (Over refl refl (
        quiet_moved q r p.first acts log h0 (entry ∷ h1) g (is, (asks, quiet.made)) refl refl refl (omega arith) (λ j. refl) quiet,
        record_taken r h1 tag op (measurements r op nonce) nonce d whole (let fits = can.fits_own in let most = can.most in omega (arith, fits, most)),
      ))

  hears : (more tag : ℕ) (body : List ℕ) (log : Log) (h : asked.History) (g : served.History) (d : Draw) → NoChance log → MeasureAnswered more tag body log h g
      → Leads p MeasureAsked Quiet told more (requester_hears q h false tag body d) (asked_log.acts_of q h body (requester_hears q h false tag body d) ++ log) h g
  hears more tag body log h g d chance y =
      subst (λ (k : asked.History). Leads p MeasureAsked Quiet told more (requester_hears q k false tag body d) (asked_log.acts_of q k body (requester_hears q k false tag body d) ++ log) k g) (sym y.h_is)
      (subst (λ (b : List ℕ). Leads p MeasureAsked Quiet told more (requester_hears q h1 false tag b d) (asked_log.acts_of q h1 b (requester_hears q h1 false tag b d) ++ log) h1 g) (sym y.body_is)
      (heard_now more tag log g d y.nonce y.whole y.tag_is y.quiet))

  again_still : (g later : served.History) → AreAlike r g later → Again r op g → Again r op later
  again_still g later alike again k is message = again k (sym alike.clear.kept ∙ is) message

  pub measure_talk : IsTalk p MeasureAsked MeasureAnswered Quiet told
  measure_talk = record {
    asks_sent = asked_sent;
    answers_sent = answered_sent;
    serves = serves;
    hears = hears;
    asks_still = λ more tag body log h g later alike y. record { h_is = y.h_is; tag_is = y.tag_is; body_is = y.body_is; quiet = quiet_still q r p.first log h0 g later alike y.quiet; again = again_still g later alike y.again };
    answers_still = λ more tag body log h g later alike y. record { h_is = y.h_is; tag_is = y.tag_is; nonce = y.nonce; whole = y.whole; body_is = y.body_is; quiet = quiet_still q r p.first log h0 g later alike y.quiet };
    done_still = λ log h g later alike y. (quiet_still q r p.first log h g later alike y.0, y.1);
  }
