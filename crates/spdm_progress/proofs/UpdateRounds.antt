-- An update of keys takes two rounds: KEY_UPDATE with the update, and then with VerifyNewKey.
use Rattle.std.proofs.Common.{◌≡◌, ◌≢◌, ◌∙◌, ℕ, ◌<◌, ◌≤◌, ◌==◌, ◌&&◌, List, [], ◌∷◌, Bool, true, false, Result, Ok, refl, sym, ap, subst, arith, eq-eqb}
use Rattle.requester_machine.specs.Does.{body_chosen, chosen}
use Rattle.requester_machine.specs.Answers.{goes_on, is_done}
use Rattle.requester_machine.specs.History as asked
use Rattle.requester_machine.specs.History.{Led}
use Rattle.requester_machine.specs.History.Effect.{Grants}
use Rattle.requester_machine.specs.InnerMessages.{inner_led, update_led, verified_led}
use Rattle.requester_machine.specs.Message.Ask.{AskUpdate, AskVerify}
use Rattle.requester_machine.specs.Sending.{inner_request, key_update, operation_of, update_tag, verify_sent}
use Rattle.requester_machine.specs.Session as steps
use Rattle.requester_machine.specs.Session.{Steps}
use Rattle.requester_machine.specs.Session.Step.{Took as TookAnswer}
use Rattle.responder_machine.specs.History as served
use Rattle.responder_machine.specs.Refusal.{fits_stage}
use Rattle.responder_machine.specs.Responder.{inner_reply}
use Rattle.responder_machine.specs.Session as events
use Rattle.responder_machine.specs.Session.{Events, id_in_record}
use Rattle.responder_machine.specs.Setup.{RspSetup}
use Rattle.responder_machine.specs.Turn.{Turn}
use Rattle.spdm_agreement.specs.Configured.{IsRequester, IsResponder}
use Rattle.spdm_basis.specs.declared.values.session_id.SessionId.{SessionId}
use Rattle.spdm_grammar.specs.Message.ResponseMessage.{KeyUpdateAck}
use Rattle.spdm_grammar.specs.Responses.{canonical_response}
use Rattle.spdm_grammar.specs.declared.told.event.BadReply.{BadReply}
use Rattle.spdm_grammar.specs.declared.told.event.Event.{Event}
use Rattle.spdm_grammar.specs.declared.told.event.Event.TheVariants as event
use Rattle.spdm_grammar.specs.declared.told.event.Finished.TheVariants as finished
use Rattle.spdm_grammar.specs.declared.told.phase.Stage.{Stage}
use Rattle.spdm_grammar.specs.declared.told.phase.Stage.TheVariants as stage
use Rattle.spdm_machine.specs.Keys.{Draw}
use Rattle.spdm_machine.specs.TagLog.{Log}
use Rattle.spdm_machine.specs.Terms.{Terms, hash_len}
use Rattle.spdm_progress.specs.InStep.{AreInStep}
use Rattle.spdm_progress.proofs.AlikeSessions.{same_terms}
use Rattle.spdm_progress.proofs.AskedOnce.{IsGood, room, small_takes}
use Rattle.spdm_progress.proofs.FurtherRound.{follows}
use Rattle.spdm_progress.proofs.PacketSteps.{Pair}
use Rattle.spdm_progress.proofs.RecordHeard.{came_as}
use Rattle.spdm_progress.proofs.RequesterStages.{reads}
use Rattle.spdm_progress.proofs.SessionRounds.{AreAnswered, Asking, IsAnswered, IsAsked, answer_for, answered_sent, answered_still, asked_sent, asked_steps, asked_still, serves_so, took_steps}
use Rattle.spdm_progress.proofs.SessionTurns.{answer_read, update_turn}
use Rattle.spdm_progress.proofs.SingleRound.{AnswersOnce, AsksOnce, IsLast, Quiet, once_talk}
use Rattle.spdm_progress.proofs.Talk.{IsTalk}
use Rattle.spdm_progress.proofs.TwoRounds.{Answers, Asks, IsFirst, OneStage, two_talk}

abbrev pub update_asking : Bool → Asking
update_asking all = record { ask = AskUpdate all; inner = λ s. inner_request (key_update s (operation_of all)); brings = λ t. Grants (AskUpdate all) t.reply; may = λ t. refl; before = λ turns. Unit {0}; there = λ g. Unit {0}; there_on = λ r g later alike z. tt; knows = λ g t. Unit {0} }

abbrev pub verify_asking : Asking
verify_asking = record { ask = AskVerify; inner = λ s. inner_request (key_update s 3); brings = λ t. Grants AskVerify t.reply; may = λ t. refl; before = λ turns. Unit {0}; there = λ g. Unit {0}; there_on = λ r g later alike z. tt; knows = λ g t. Unit {0} }

operations : (all : Bool) → (1 ≤ operation_of all) × (operation_of all ≤ 3) × (fits_stage stage.Open (operation_of all) ≡ true)
operations true = ((omega arith), (omega arith), refl)
operations false = ((omega arith), (omega arith), refl)

operation_small : (all : Bool) → operation_of all < 256
operation_small true = omega arith
operation_small false = omega arith

past : (g : Stage) → g ≡ stage.Open → g ≢ stage.Handshake
past g is = λ e. cc

past_verifying : (g : Stage) → g ≡ stage.Verifying → g ≢ stage.Handshake
past_verifying g is = λ e. cc

both_same : (a b : ℕ) → (a == a && b == b) ≡ true
both_same a b = rw (eq-eqb a a refl, eq-eqb b b refl) refl

module _ (p : Pair) (same_key : p.requester.psk ≡ p.responder.psk) (id : ℕ) (sid : SessionId) (asker : IsRequester p.requester) (server : IsResponder p.responder) (all : Bool) where
  abbrev r : RspSetup
  r = p.responder

  pub record CanUpdate (s : Steps) : Type 0 where
    pub named : steps.session_id s ≡ sid
    pub flag : (steps.session_terms s).common.key_update ≡ true

  -- It was acknowledged with this operation and the session's tag.
  pub record IsAcknowledged (op : ℕ) (s : Steps) (t : Turn) : Type 0 where
    pub inner : inner_reply t ≡ 5 ∷ canonical_response (KeyUpdateAck op (update_tag s))

  flag_there : (s : Steps) (e : Events) → AreInStep s e → CanUpdate s → (events.session_terms e).common.key_update ≡ true
  flag_there s e k fit = ap (λ (t : Terms). t.common.key_update) (sym (same_terms s e k)) ∙ fit.flag

  abbrev IsGoodHere : Asking → (Steps → Turn → Type 0) → Steps → Turn → Type 0
  IsGoodHere x Good s t = IsGood p same_key id sid asker server x Good s t

  -- ---- The update.

  update_answered : AreAnswered p.requester r p.first id (update_asking all) CanUpdate (IsAcknowledged (operation_of all))
  update_answered = record {
    there = λ g s e f sealed d fit at k is. tt;
    turns = λ g s e f sealed d fit at k made drawn here is known queued.
        let ops = operations all in
        let there = sym k.stage ∙ at in
        subst (IsGoodHere (update_asking all) (IsAcknowledged (operation_of all)) s)
        (sym (update_turn r e f (operation_of all) (update_tag s) (room p same_key id sid asker server) ops.0 ops.1 (omega arith) (past (events.stage_of e) there) (ap (λ (g : Stage). fits_stage g (operation_of all)) there ∙ ops.2) (flag_there s e k fit)
        (small_takes p same_key id sid asker server g e (id_in_record sealed) here made k.live)))
        ((update_tag s, refl), record { inner = refl }, (omega arith));
  }

  no_pad : (h : asked.History) (d : Draw) → (body_chosen p.requester h d).pad ≡ []
  unfolding chosen
  no_pad h d = refl

  abbrev next_led : asked.History → Turn → Steps → List ℕ → Result Led BadReply
  next_led h t s pad = Ok (goes_on (Grants (AskUpdate all) t.reply) (verify_sent p.requester h id s pad))

  echoed : (s : Steps) (op : ℕ) → (op == op && update_tag s == update_tag s) ≡ true
  echoed s op = both_same op (update_tag s)

  update_leads : (h : asked.History) (d : Draw) (s : Steps) (pad : List ℕ) (t : Turn) → IsAcknowledged (operation_of all) s t → steps.session_of id h ≡ asked_steps p.requester r p.first id (update_asking all) s pad
      → inner_led p.requester h (body_chosen p.requester h d) (came_as h id (answer_for p.requester r p.first id (update_asking all) s t) (inner_reply t)) (AskUpdate all) ≡ next_led h t (took_steps p.requester r p.first id (update_asking all) s pad t) []
  update_leads h d s pad t good is =
      let own = asker.sizes.least in
      let f = body_chosen p.requester h d in
      let reply = answer_for p.requester r p.first id (update_asking all) s t in
      let op = operation_of all in
      answer_read p.requester h f (came_as h id reply (inner_reply t)) (AskUpdate all) (canonical_response (KeyUpdateAck op (update_tag s))) (KeyUpdateAck op (update_tag s)) good.inner (omega arith)
      (reads h (KeyUpdateAck op (update_tag s)) (hash_len (steps.session_terms (steps.session_of id h))) ((operation_small all), (omega arith)) ((operations all).0, (operations all).1))
      ∙ ap (update_led p.requester h f (came_as h id reply (inner_reply t)) all) (ap (λ (z : Steps). op == op && update_tag s == update_tag z) is ∙ echoed s op)
      ∙ ap (λ (z : Steps). next_led h t (steps.when_live z (TookAnswer reply (inner_reply t) (Grants (AskUpdate all) t.reply))) f.pad) is
      ∙ ap (next_led h t (took_steps p.requester r p.first id (update_asking all) s pad t)) (no_pad h d)

  -- ---- VerifyNewKey.

  verify_answered : AreAnswered p.requester r p.first id verify_asking CanUpdate (IsAcknowledged 3)
  verify_answered = record {
    there = λ g s e f sealed d fit at k is. tt;
    turns = λ g s e f sealed d fit at k made drawn here is known queued.
        let there = sym k.stage ∙ at in
        subst (IsGoodHere verify_asking (IsAcknowledged 3) s)
        (sym (update_turn r e f 3 (update_tag s) (room p same_key id sid asker server) (omega arith) (omega arith) (omega arith) (past_verifying (events.stage_of e) there) (ap (λ (g : Stage). fits_stage g 3) there) (flag_there s e k fit)
        (small_takes p same_key id sid asker server g e (id_in_record sealed) here made k.live)))
        ((update_tag s, refl), record { inner = refl }, (omega arith));
  }

  verify_last : IsLast p same_key id verify_asking CanUpdate (IsAcknowledged 3) (event.Done (finished.Updated sid))
  verify_last = record {
    answers = verify_answered;
    leads = λ h d s pad t fit good is.
        let own = asker.sizes.least in
        let f = body_chosen p.requester h d in
        let reply = answer_for p.requester r p.first id verify_asking s t in
        answer_read p.requester h f (came_as h id reply (inner_reply t)) AskVerify (canonical_response (KeyUpdateAck 3 (update_tag s))) (KeyUpdateAck 3 (update_tag s)) good.inner (omega arith)
        (reads h (KeyUpdateAck 3 (update_tag s)) (hash_len (steps.session_terms (steps.session_of id h))) ((omega arith), (omega arith)) ((omega arith), (omega arith)))
        ∙ ap (verified_led (came_as h id reply (inner_reply t))) (ap (λ (z : Steps). 3 == 3 && update_tag s == update_tag z) is ∙ echoed s 3)
        ∙ ap (λ (n : SessionId). let l : Result Led BadReply = Ok (is_done (finished.Updated n) (Grants AskVerify t.reply)) in l) (ap steps.session_id is ∙ fit.named);
    at_end = λ s pad t at kept. refl;
  }

  -- ---- Both.

  abbrev pub UpdateAsks : OneStage
  UpdateAsks tag body log h g = IsAsked p.requester r p.first id (update_asking all) CanUpdate tag body log h g

  abbrev UpdateAnswers : OneStage
  UpdateAnswers tag body log h g = IsAnswered p.requester r p.first id (update_asking all) CanUpdate (IsAcknowledged (operation_of all)) tag body log h g

  abbrev told : Event
  told = event.Done (finished.Updated sid)

  update_first : IsFirst p UpdateAsks UpdateAnswers (AsksOnce p same_key id verify_asking CanUpdate (IsAcknowledged 3) told 0)
  update_first = record {
    asks_sent = λ tag body log h g z. asked_sent p.requester r p.first id (update_asking all) CanUpdate tag body log h g z;
    answers_sent = λ tag body log h g z. answered_sent p.requester r p.first id (update_asking all) CanUpdate (IsAcknowledged (operation_of all)) tag body log h g z;
    serves = λ tag body log h g d drawn chance z. serves_so p.requester r p.first id (update_asking all) same_key CanUpdate (IsAcknowledged (operation_of all)) update_answered tag log h g d drawn body z chance;
    hears = λ tag body log h g d chance z.
        let on = follows p.requester r p.first id (update_asking all) verify_asking CanUpdate CanUpdate (IsAcknowledged (operation_of all)) tag log h g d body z event.Progress (update_leads h d z.s z.pad z.t z.good z.steps_are) refl
        (record { named = z.fit.named; flag = z.fit.flag }) refl (omega arith) tt tt in
        record { next = on.next; sends = on.sends; asks = record { is = on.asks } };
    asks_still = λ tag body log h g later alike z. asked_still p.requester r p.first id (update_asking all) CanUpdate tag body log h g later alike z;
    answers_still = λ tag body log h g later alike z. answered_still p.requester r p.first id (update_asking all) CanUpdate (IsAcknowledged (operation_of all)) tag body log h g later alike z;
  }

  abbrev pub UpdateTalkAsks : ℕ → ℕ → List ℕ → Log → asked.History → served.History → Type 0
  UpdateTalkAsks = Asks p 0 UpdateAsks UpdateAnswers (AsksOnce p same_key id verify_asking CanUpdate (IsAcknowledged 3) told) (AnswersOnce p same_key id verify_asking CanUpdate (IsAcknowledged 3) told) (Quiet p same_key id verify_asking CanUpdate (IsAcknowledged 3) told) told

  abbrev pub UpdateTalkAnswers : ℕ → ℕ → List ℕ → Log → asked.History → served.History → Type 0
  UpdateTalkAnswers = Answers p 0 UpdateAsks UpdateAnswers (AsksOnce p same_key id verify_asking CanUpdate (IsAcknowledged 3) told) (AnswersOnce p same_key id verify_asking CanUpdate (IsAcknowledged 3) told) (Quiet p same_key id verify_asking CanUpdate (IsAcknowledged 3) told) told

  abbrev pub UpdateDone : Log → asked.History → served.History → Type 0
  UpdateDone = Quiet p same_key id verify_asking CanUpdate (IsAcknowledged 3) told

  pub update_talk : IsTalk p UpdateTalkAsks UpdateTalkAnswers UpdateDone told
  update_talk = two_talk p 0 UpdateAsks UpdateAnswers (AsksOnce p same_key id verify_asking CanUpdate (IsAcknowledged 3) told) (AnswersOnce p same_key id verify_asking CanUpdate (IsAcknowledged 3) told) (Quiet p same_key id verify_asking CanUpdate (IsAcknowledged 3) told) told
      update_first (once_talk p same_key id verify_asking CanUpdate (IsAcknowledged 3) told verify_last)
