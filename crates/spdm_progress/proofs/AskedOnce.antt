-- What takes one round in a session: application data, HEARTBEAT, GET_MEASUREMENTS and END_SESSION.
use Rattle.std.proofs.Common.{◌≡◌, ◌∙◌, ℕ, ◌<◌, ◌≤◌, ◌==◌, List, ◌∷◌, length, true, false, Result, Ok, refl, sym, ap, subst, inr, arith}
use Rattle.std.proofs.lemmas.Bool.{false≢true}
use Rattle.measurements.specs.Records.{asked as blocks_asked, is_missing}
use Rattle.requester_machine.specs.Does.{body_chosen}
use Rattle.requester_machine.specs.History.{Led}
use Rattle.requester_machine.specs.History.Effect.{Grants}
use Rattle.requester_machine.specs.Answers.{is_done}
use Rattle.requester_machine.specs.Message.Ask.{AskBeat, AskData, AskEnd, AskMeasure}
use Rattle.requester_machine.specs.Sending.{inner_data, inner_request}
use Rattle.requester_machine.specs.Session as steps
use Rattle.requester_machine.specs.Session.{Steps}
use Rattle.responder_machine.specs.Answer.{Free, answer_of}
use Rattle.responder_machine.specs.Does as serving_does
use Rattle.responder_machine.specs.Does.{chosen, first_queued, record_chosen}
use Rattle.responder_machine.specs.History as served
use Rattle.responder_machine.specs.Place.{session_place}
use Rattle.responder_machine.specs.Responder.{inner_reply}
use Rattle.responder_machine.specs.Session as events
use Rattle.responder_machine.specs.Session.{Events, id_in_record}
use Rattle.responder_machine.specs.Setup.{RspSetup, inventory_of}
use Rattle.responder_machine.specs.Turn.{Turn}
use Rattle.responder_machine.specs.SizeLaws.{HasSizes}
use Rattle.responder_machine.proofs.Sizes.{session_sizes_set_up}
use Rattle.spdm_agreement.specs.Configured.{IsRequester, IsResponder}
use Rattle.spdm_agreement.proofs.Delivery.AtResponder.{chosen_short}
use Rattle.spdm_basis.specs.declared.values.session_id.SessionId.{SessionId}
use Rattle.spdm_grammar.specs.declared.names.TheConstants.{MIN_DATA_TRANSFER_SIZE}
use Rattle.spdm_grammar.specs.Message.RequestMessage.{EndSession, GetMeasurements, Heartbeat}
use Rattle.spdm_grammar.specs.Message.ResponseMessage.{EndSessionAck, HeartbeatAck, Measurements}
use Rattle.spdm_grammar.specs.Requests.{canonical_request}
use Rattle.spdm_grammar.specs.Responses.{canonical_response}
use Rattle.spdm_grammar.specs.declared.told.event.BadReply.{BadReply}
use Rattle.spdm_grammar.specs.declared.told.event.Event.TheVariants as event
use Rattle.spdm_grammar.specs.declared.told.event.Finished.TheVariants as finished
use Rattle.spdm_machine.specs.Keys.{Draw}
use Rattle.spdm_machine.specs.Terms.{Terms, hash_len}
use Rattle.responder_machine.specs.Turn.Effect.{TookData}
use Rattle.spdm_progress.specs.Measuring.{measurements_size, number_for}
use Rattle.spdm_progress.specs.SessionCommands.{OnlyWaited}
use Rattle.spdm_progress.proofs.StillKept.{only_further}
use Rattle.spdm_progress.proofs.AlikeSessions.{IsAnswerTo, same_terms}
use Rattle.spdm_progress.proofs.MeasureStages.{measured, measured_fits, measured_sound, measurements, measurements_are, told_number}
use Rattle.spdm_progress.proofs.PacketSteps.{Pair}
use Rattle.spdm_progress.proofs.RecordHeard.{came_as}
use Rattle.spdm_progress.proofs.RequesterStages.{reads}
use Rattle.spdm_progress.proofs.SessionRounds.{AreAnswered, Asking, answer_for}
use Rattle.spdm_progress.proofs.SessionTurns.{TakesInSession, answer_read, beat_turn, data_read, data_turn_in, end_turn, measure_turn_in, measured_in, turn_in}
use Rattle.spdm_progress.proofs.SingleRound.{IsLast}

-- What is asked.
abbrev pub data_asking : (begun : served.History) → List ℕ → Asking
data_asking begun bytes = record {
  ask = AskData;
  inner = λ s. inner_data bytes;
  brings = λ t. Grants AskData t.reply;
  may = λ t. refl;
  before = λ turns. Unit {0};
  there = λ g. OnlyWaited begun g;
  there_on = λ r g later alike z. only_further begun g later alike.between z;
  knows = λ g t. (t.effect ≡ TookData bytes (first_queued (served.queue_of g))) × (t.reply ≡ first_queued (served.queue_of g));
}

chosen_first : (r : RspSetup) (g : served.History) (sealed : List ℕ) (d : Draw) → (record_chosen r g sealed d).reply ≡ first_queued (served.queue_of g)
unfolding chosen
chosen_first r g sealed d = refl

abbrev pub beat_asking : Asking
beat_asking = record { ask = AskBeat; inner = λ s. inner_request Heartbeat; brings = λ t. Grants AskBeat t.reply; may = λ t. refl; before = λ turns. Unit {0}; there = λ g. Unit {0}; there_on = λ r g later alike z. tt; knows = λ g t. Unit {0} }

abbrev pub measure_asking : ℕ → Asking
measure_asking op = record {
  ask = AskMeasure op;
  inner = λ s. inner_request (GetMeasurements op);
  brings = λ t. Grants (AskMeasure op) t.reply;
  may = λ t. inr (op, t.reply, refl);
  before = λ turns. Unit {0};
  there = λ g. Unit {0};
  there_on = λ r g later alike z. tt;
  knows = λ g t. Unit {0};
}

abbrev pub end_asking : Asking
end_asking = record { ask = AskEnd; inner = λ s. inner_request EndSession; brings = λ t. Grants AskEnd t.reply; may = λ t. refl; before = λ turns. Unit {0}; there = λ g. Unit {0}; there_on = λ r g later alike z. tt; knows = λ g t. Unit {0} }

module _ (p : Pair) (same_key : p.requester.psk ≡ p.responder.psk) (id : ℕ) (sid : SessionId) (asker : IsRequester p.requester) (server : IsResponder p.responder) where
  abbrev r : RspSetup
  r = p.responder

  -- ---- What holds of the session.

  pub record IsNamed (s : Steps) : Type 0 where
    pub named : steps.session_id s ≡ sid

  pub record CanBeat (s : Steps) : Type 0 where
    pub named : steps.session_id s ≡ sid
    pub flag : (steps.session_terms s).common.heartbeat ≡ true

  pub record CanMeasure (op : ℕ) (s : Steps) : Type 0 where
    pub byte : op < 256
    pub block : is_missing op (inventory_of r) ≡ false
    pub chosen : (steps.session_terms s).choice.measure ≡ true
    pub fits : measurements_size r op ≤ (steps.session_terms s).common.to_requester.transfer
    pub fits_own : measurements_size r op ≤ p.requester.transfer

  -- ---- What is known of the turn.

  pub record IsSpdm (answer : List ℕ) (s : Steps) (t : Turn) : Type 0 where
    pub inner : inner_reply t ≡ 5 ∷ answer

  pub record IsData (s : Steps) (t : Turn) : Type 0 where
    pub inner : inner_reply t ≡ 1 ∷ t.reply
    pub short : length t.reply ≤ 1024

  pub record IsMeasured (op : ℕ) (s : Steps) (t : Turn) : Type 0 where
    pub nonce : List ℕ
    pub whole : length nonce ≡ 32
    pub inner : inner_reply t ≡ 5 ∷ measurements r op nonce

  takes : (g : served.History) (e : Events) (n : ℕ) (rid : ℕ) → events.session_of rid g ≡ e → serving_does.IsMade r g → events.is_live e ≡ true → n ≤ (events.session_terms e).common.to_requester.transfer → TakesInSession e n
  takes g e n rid here made live fits =
      let sizes = subst (λ (z : Events). HasSizes r (events.session_terms z).common) here (session_sizes_set_up r g rid made server.sizes.ordered server.sizes.most (ap events.is_live here ∙ live)) in
      let crossed = sizes.crossed in
      record { max = omega arith; transfer = fits }

  pub small_takes : (g : served.History) (e : Events) (rid : ℕ) → events.session_of rid g ≡ e → serving_does.IsMade r g → events.is_live e ≡ true → TakesInSession e 4
  small_takes g e rid here made live =
      let sizes = subst (λ (z : Events). HasSizes r (events.session_terms z).common) here (session_sizes_set_up r g rid made server.sizes.ordered server.sizes.most (ap events.is_live here ∙ live)) in
      let least = sizes.least in
      takes g e 4 rid here made live (omega arith)

  pub room : MIN_DATA_TRANSFER_SIZE ≤ r.transfer
  room = server.sizes.least

  abbrev pub IsGood : Asking → (Steps → Turn → Type 0) → Steps → Turn → Type 0
  IsGood x Good s t = IsAnswerTo x.ask (x.inner s) t × Good s t × (length t.reply ≤ 4133)

  -- ---- HEARTBEAT.

  beat_answered : AreAnswered p.requester r p.first id beat_asking CanBeat (IsSpdm (canonical_response HeartbeatAck))
  beat_answered = record {
    there = λ g s e f sealed d fit at k is. tt;
    turns = λ g s e f sealed d fit at k made drawn here is known queued.
        subst (IsGood beat_asking (IsSpdm (canonical_response HeartbeatAck)) s)
        (sym (beat_turn r e f room (sym k.stage ∙ at) (ap (λ (t : Terms). t.common.heartbeat) (sym (same_terms s e k)) ∙ fit.flag) (small_takes g e (id_in_record sealed) here made k.live)))
        (refl, record { inner = refl }, (omega arith));
  }

  pub beat_last : IsLast p same_key id beat_asking CanBeat (IsSpdm (canonical_response HeartbeatAck)) (event.Done (finished.Alive sid))
  beat_last = record {
    answers = beat_answered;
    leads = λ h d s pad t fit good is.
        let own = asker.sizes.least in
        answer_read p.requester h (body_chosen p.requester h d) (came_as h id (answer_for p.requester r p.first id beat_asking s t) (inner_reply t)) AskBeat (canonical_response HeartbeatAck) HeartbeatAck good.inner (omega arith) (reads h HeartbeatAck (hash_len (steps.session_terms (steps.session_of id h))) tt tt)
        ∙ ap (λ (n : SessionId). let l : Result Led BadReply = Ok (is_done (finished.Alive n) (Grants AskBeat t.reply)) in l) (ap steps.session_id is ∙ fit.named);
    at_end = λ s pad t at kept. at;
  }

  -- ---- END_SESSION.

  end_answered : AreAnswered p.requester r p.first id end_asking IsNamed (IsSpdm (canonical_response EndSessionAck))
  end_answered = record {
    there = λ g s e f sealed d fit at k is. tt;
    turns = λ g s e f sealed d fit at k made drawn here is known queued.
        subst (IsGood end_asking (IsSpdm (canonical_response EndSessionAck)) s) (sym (end_turn r e f room (sym k.stage ∙ at) (small_takes g e (id_in_record sealed) here made k.live))) (refl, record { inner = refl }, (omega arith));
  }

  pub end_last : IsLast p same_key id end_asking IsNamed (IsSpdm (canonical_response EndSessionAck)) (event.Done (finished.Ended sid))
  end_last = record {
    answers = end_answered;
    leads = λ h d s pad t fit good is.
        let own = asker.sizes.least in
        answer_read p.requester h (body_chosen p.requester h d) (came_as h id (answer_for p.requester r p.first id end_asking s t) (inner_reply t)) AskEnd (canonical_response EndSessionAck) EndSessionAck good.inner (omega arith) (reads h EndSessionAck (hash_len (steps.session_terms (steps.session_of id h))) tt tt)
        ∙ ap (λ (n : SessionId). let l : Result Led BadReply = Ok (is_done (finished.Ended n) (Grants AskEnd t.reply)) in l) (ap steps.session_id is ∙ fit.named);
    at_end = λ s pad t at kept. absurd (false≢true kept);
  }

  -- ---- Application data.

  pub record CanSend (bytes : List ℕ) (s : Steps) : Type 0 where
    pub named : steps.session_id s ≡ sid
    pub short : length bytes ≤ 1024

  data_answered : (begun : served.History) (bytes : List ℕ) → AreAnswered p.requester r p.first id (data_asking begun bytes) (CanSend bytes) IsData
  data_answered begun bytes = record {
    there = λ g s e f sealed d fit at k is.
        let first : f.reply ≡ first_queued (served.queue_of g) = ap (λ (z : Free). z.reply) is ∙ chosen_first r g sealed d in
        subst (λ (t : Turn). (t.effect ≡ TookData bytes (first_queued (served.queue_of g))) × (t.reply ≡ first_queued (served.queue_of g))) (sym (data_turn_in r e bytes f (sym k.stage ∙ at) fit.short)) (ap (TookData bytes) first, first);
    turns = λ g s e f sealed d fit at k made drawn here is known queued.
        let short : length f.reply ≤ 1024 = subst (λ (z : Free). length z.reply ≤ 1024) (sym is) (chosen_short r g sealed d made) in
        subst (IsGood (data_asking begun bytes) IsData s) (sym (data_turn_in r e bytes f (sym k.stage ∙ at) fit.short)) (refl, record { inner = refl; short = short }, (omega arith));
  }

  pub data_last : (begun : served.History) (bytes : List ℕ) → IsLast p same_key id (data_asking begun bytes) (CanSend bytes) IsData (event.Done (finished.Answered sid))
  data_last begun bytes = record {
    answers = data_answered begun bytes;
    leads = λ h d s pad t fit good is.
        data_read p.requester h (body_chosen p.requester h d) (came_as h id (answer_for p.requester r p.first id (data_asking begun bytes) s t) (inner_reply t)) AskData t.reply good.inner good.short
        ∙ ap (λ (n : SessionId). let l : Result Led BadReply = Ok (is_done (finished.Answered n) (Grants AskData t.reply)) in l) (ap steps.session_id is ∙ fit.named);
    at_end = λ s pad t at kept. at;
  }

  -- ---- GET_MEASUREMENTS.

  measured_so : (g : served.History) (s : Steps) (e : Events) (f : Free) (sealed : List ℕ) (d : Draw) (op : ℕ) → CanMeasure op s → length d.bytes ≡ 32 → f ≡ record_chosen r g sealed d → IsGood (measure_asking op) (IsMeasured op) s (turn_in r e f (GetMeasurements op))
  measured_so g s e f sealed d op fit drawn is =
      let answer = ap (λ (z : Free). canonical_response (answer_of r (session_place e) (canonical_request (GetMeasurements op)) z (GetMeasurements op))) is ∙ measured_in r g e sealed d op in
      let size = ap length answer ∙ measurements_are r op d.bytes drawn in
      let own = fit.fits_own in
      let most = asker.sizes.most in
      let ordered = asker.sizes.ordered in
      ((_, _, refl), record { nonce = d.bytes; whole = drawn; inner = ap (λ (m : List ℕ). 5 ∷ m) answer }, (omega (arith, size)))

  measure_answered : (op : ℕ) → AreAnswered p.requester r p.first id (measure_asking op) (CanMeasure op) (IsMeasured op)
  measure_answered op = record {
    there = λ g s e f sealed d fit at k is. tt;
    turns = λ g s e f sealed d fit at k made drawn here is known queued.
        let answer = ap (λ (z : Free). canonical_response (answer_of r (session_place e) (canonical_request (GetMeasurements op)) z (GetMeasurements op))) is ∙ measured_in r g e sealed d op in
        let size = ap length answer ∙ measurements_are r op d.bytes drawn in
        let fits : measurements_size r op ≤ (events.session_terms e).common.to_requester.transfer = subst (λ (t : Terms). measurements_size r op ≤ t.common.to_requester.transfer) (same_terms s e k) fit.fits in
        subst (IsGood (measure_asking op) (IsMeasured op) s)
        (sym (measure_turn_in r e f op room fit.byte (sym k.stage ∙ at) (ap (λ (t : Terms). t.choice.measure) (sym (same_terms s e k)) ∙ fit.chosen) fit.block
        (takes g e _ (id_in_record sealed) here made k.live (subst (λ (n : ℕ). n ≤ (events.session_terms e).common.to_requester.transfer) (sym size) fits))))
        (measured_so g s e f sealed d op fit drawn is);
  }

  pub measure_last : (op : ℕ) → IsLast p same_key id (measure_asking op) (CanMeasure op) (IsMeasured op) (event.Done (finished.Measured (number_for r op)))
  measure_last op = record {
    answers = measure_answered op;
    leads = λ h d s pad t fit good is.
        let own = fit.fits_own in
        let most = asker.sizes.most in
        let ordered = asker.sizes.ordered in
        let size = measurements_are r op good.nonce good.whole in
        answer_read p.requester h (body_chosen p.requester h d) (came_as h id (answer_for p.requester r p.first id (measure_asking op) s t) (inner_reply t)) (AskMeasure op) (measurements r op good.nonce) (Measurements (measured r op good.nonce)) good.inner (omega (arith, size))
        (reads h (Measurements (measured r op good.nonce)) (hash_len (steps.session_terms (steps.session_of id h))) (measured_fits r op good.nonce) (measured_sound r op (hash_len (steps.session_terms (steps.session_of id h))) good.nonce good.whole (omega arith)))
        ∙ ap (λ (n : ℕ). let l : Result Led BadReply = Ok (is_done (finished.Measured n) (Grants (AskMeasure op) t.reply)) in l) (told_number (op == 0) (length (inventory_of r)) (length (blocks_asked op (inventory_of r))));
    at_end = λ s pad t at kept. at;
  }
