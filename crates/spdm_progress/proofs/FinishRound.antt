-- PSK_FINISH and its answer, the first round in a session, which opens it.
use Rattle.std.proofs.Common.{◌≡◌, ◌∙◌, ℕ, suc, ◌≤◌, ◌+◌, List, [], ◌∷◌, ◌++◌, length, not, None, Result, Ok, refl, sym, ap, ap₂, subst, arith}
use Rattle.spdm_basis.proofs.Bools.{lt_false}
use Rattle.std.proofs.lemmas.Slice.Eq.{bytes_eq-Decides}
use Rattle.key_schedule.specs.declared.direction.Direction.TheVariants as direction
use Rattle.requester_machine.specs.Answers.{is_done}
use Rattle.requester_machine.specs.Does.{body_chosen}
use Rattle.requester_machine.specs.History.{Led}
use Rattle.requester_machine.specs.History.Effect.{Grants}
use Rattle.requester_machine.specs.Message.Ask.{AskFinish}
use Rattle.requester_machine.specs.Sending.{finish_input, finish_verify, inner_request}
use Rattle.requester_machine.specs.Session as steps
use Rattle.requester_machine.specs.Session.{Steps}
use Rattle.responder_machine.proofs.VerifyLength.{length_verify}
use Rattle.responder_machine.specs.Answer.{Free}
use Rattle.responder_machine.specs.Place.{session_place}
use Rattle.responder_machine.specs.Refusal.{has_pending, stage_allows}
use Rattle.responder_machine.specs.Responder.{inner_refusal, inner_reply, session_turn}
use Rattle.responder_machine.specs.Session as events
use Rattle.responder_machine.specs.Session.{Events, id_in_record}
use Rattle.responder_machine.specs.Setup.{RspSetup}
use Rattle.running_hash.specs.Hash.{hash_of}
use Rattle.spdm_agreement.specs.Configured.{IsRequester, IsResponder}
use Rattle.spdm_agreement.proofs.Responder.Exchange.{before_verify}
use Rattle.spdm_basis.specs.Sizes.{hash_size}
use Rattle.spdm_basis.specs.declared.values.session_id.SessionId.{SessionId}
use Rattle.spdm_grammar.specs.Message.RequestMessage.{PskFinish}
use Rattle.spdm_grammar.specs.Message.ResponseMessage.{PskFinishRsp}
use Rattle.spdm_grammar.specs.Requests.{canonical_request}
use Rattle.spdm_grammar.specs.Responses.{canonical_response}
use Rattle.spdm_grammar.specs.declared.told.event.BadReply.{BadReply}
use Rattle.spdm_grammar.specs.declared.told.event.Event.TheVariants as event
use Rattle.spdm_grammar.specs.declared.told.event.Finished.TheVariants as finished
use Rattle.spdm_grammar.specs.declared.names.request_code.TheConstants.{PSK_FINISH}
use Rattle.spdm_grammar.specs.declared.told.phase.Stage.{Stage}
use Rattle.spdm_grammar.specs.declared.told.phase.Stage.TheVariants as stage
use Rattle.spdm_machine.specs.Keys.{verify_data}
use Rattle.spdm_machine.specs.Terms.{Terms, hash_len}
use Rattle.transcript.specs.Transcripts.{without_verify}
use Rattle.spdm_progress.specs.InStep.{AreInStep}
use Rattle.spdm_progress.proofs.AlikeSessions.{same_t1, same_terms, same_vca}
use Rattle.spdm_progress.proofs.AskedOnce.{IsGood, IsSpdm, small_takes}
use Rattle.spdm_progress.proofs.OnePacket.{positive}
use Rattle.spdm_progress.proofs.PacketSteps.{Pair}
use Rattle.spdm_progress.proofs.RecordHeard.{came_as}
use Rattle.spdm_progress.proofs.RequesterStages.{reads}
use Rattle.spdm_progress.proofs.ResponderTurns.{read_at, taken_at}
use Rattle.spdm_progress.proofs.SessionRounds.{AreAnswered, Asking, answer_for}
use Rattle.spdm_progress.proofs.SessionTurns.{TakesInSession, answer_read, not_large_in, not_too_long_in, read_inside, turn_in}
use Rattle.spdm_progress.proofs.SingleRound.{IsLast}

abbrev pub finish_asking : List ℕ → Asking
finish_asking psk = record { ask = AskFinish; inner = λ s. inner_request (PskFinish (finish_verify psk s)); brings = λ t. Grants AskFinish t.reply; may = λ t. refl; before = λ turns. Unit {0}; there = λ g. Unit {0}; there_on = λ r g later alike z. tt; knows = λ g t. Unit {0} }

-- ---- The responder.

shakes_hand : (verify : List ℕ) → inner_refusal stage.Handshake (5 ∷ canonical_request (PskFinish verify)) ≡ None
shakes_hand verify = rw (positive (suc (length (canonical_request (PskFinish verify)))) (omega arith)) refl

finish_long : (verify : List ℕ) → length (canonical_request (PskFinish verify)) ≡ 4 + length verify
finish_long verify = omega arith

finish_turn : (r : RspSetup) (e : Events) (f : Free) (verify : List ℕ) → 4 + length verify ≤ r.transfer → length verify ≡ hash_len (events.session_terms e) → events.stage_of e ≡ stage.Handshake
    → verify ≡ verify_data (events.session_terms e).choice r.psk (events.t1_of e) direction.Request (events.tv_of e (canonical_request (PskFinish verify))) → TakesInSession e 4
    → session_turn r e (inner_request (PskFinish verify)) f ≡ turn_in r e f (PskFinish verify)
finish_turn r e f verify fits whole at right takes =
    let m = canonical_request (PskFinish verify) in
    read_inside r e m f (ap (λ (g : Stage). inner_refusal g (5 ∷ m)) at ∙ shakes_hand verify)
    ∙ taken_at r (session_place e) m f (PskFinish verify) (read_at (session_place e) (PskFinish verify) tt whole) refl
    (record {
      long = lt_false (length m) 4 (omega (arith, finish_long verify));
      short = lt_false r.transfer (length m) (omega (arith, finish_long verify));
      known = refl;
      outside = refl;
      whole = refl;
      placed = refl;
      allowed = ap (λ (g : Stage). stage_allows g (has_pending (session_place e)) PSK_FINISH) at;
      version = refl;
    })
    (record {
      flags = refl;
      caps = refl;
      offer = refl;
      block = refl;
      exchange = refl;
      verify = ap not ((bytes_eq-Decides verify (verify_data (events.session_terms e).choice r.psk (events.t1_of e) direction.Request (events.tv_of e m))).1 right);
      update = refl;
      chunk = refl;
      get = refl;
      fits = not_too_long_in e (canonical_response PskFinishRsp) takes;
      limit = refl;
    })
    (not_large_in e (canonical_response PskFinishRsp) takes)

-- Both ends make the verify data of PSK_FINISH alike.
same_verify : (psk : List ℕ) (s : Steps) (e : Events) → AreInStep s e
    → finish_verify psk s ≡ verify_data (events.session_terms e).choice psk (events.t1_of e) direction.Request (events.tv_of e (canonical_request (PskFinish (finish_verify psk s))))
same_verify psk s e k =
    let verify = finish_verify psk s in
    let hash = (events.session_terms e).choice.hash in
    let long : length verify ≡ hash_size hash = length_verify (steps.session_terms s).choice psk (steps.t1_of s) direction.Request (finish_input s) ∙ ap (λ (t : Terms). hash_size t.choice.hash) (same_terms s e k) in
    let front : without_verify (hash_of hash) (canonical_request (PskFinish verify)) ≡ canonical_request (PskFinish []) = before_verify hash (canonical_request (PskFinish [])) verify long in
    let input : finish_input s ≡ events.tv_of e (canonical_request (PskFinish verify)) =
    ap (λ (vca : List ℕ). vca ++ steps.exchange_of s ++ steps.exchange_answer s ++ canonical_request (PskFinish [])) (same_vca s e k)
    ∙ ap₂ (λ (x y : List ℕ). events.session_vca e ++ x ++ y ++ canonical_request (PskFinish [])) k.exchange k.answer
    ∙ ap (λ (x : List ℕ). events.session_vca e ++ events.exchange_of e ++ events.exchange_answer e ++ x) (sym front) in
    ap (λ (t : Terms). verify_data t.choice psk (steps.t1_of s) direction.Request (finish_input s)) (same_terms s e k)
    ∙ ap₂ (λ (t1 x : List ℕ). verify_data (events.session_terms e).choice psk t1 direction.Request x) (same_t1 s e k) input

module _ (p : Pair) (same_key : p.requester.psk ≡ p.responder.psk) (id : ℕ) (sid : SessionId) (asker : IsRequester p.requester) (server : IsResponder p.responder) where
  -- PSK_FINISH fits, and the session has this id.
  pub record CanFinish (s : Steps) : Type 0 where
    pub named : steps.session_id s ≡ sid
    pub fits : 4 + hash_size (steps.session_terms s).choice.hash ≤ p.responder.transfer

  abbrev x : Asking
  x = finish_asking p.requester.psk

  finish_answered : AreAnswered p.requester p.responder p.first id x CanFinish (IsSpdm p same_key id sid asker server (canonical_response PskFinishRsp))
  finish_answered = record {
    there = λ g s e f sealed d fit at k is. tt;
    turns = λ g s e f sealed d fit at k made drawn here is known queued.
        let verify = finish_verify p.requester.psk s in
        let own = length_verify (steps.session_terms s).choice p.requester.psk (steps.t1_of s) direction.Request (finish_input s) in
        let fits = fit.fits in
        subst (IsGood p same_key id sid asker server x (IsSpdm p same_key id sid asker server (canonical_response PskFinishRsp)) s)
        (sym (finish_turn p.responder e f verify (omega (arith, own)) (own ∙ ap (λ (t : Terms). hash_len t) (same_terms s e k)) (sym k.stage ∙ at)
        (subst (λ (psk : List ℕ). verify ≡ verify_data (events.session_terms e).choice psk (events.t1_of e) direction.Request (events.tv_of e (canonical_request (PskFinish verify)))) same_key (same_verify p.requester.psk s e k))
        (small_takes p same_key id sid asker server g e (id_in_record sealed) here made k.live)))
        ((verify, refl), record { inner = refl }, (omega arith));
  }

  pub finish_last : IsLast p same_key id x CanFinish (IsSpdm p same_key id sid asker server (canonical_response PskFinishRsp)) (event.Done (finished.Opened sid))
  finish_last = record {
    answers = finish_answered;
    leads = λ h d s pad t fit good is.
        let own = asker.sizes.least in
        answer_read p.requester h (body_chosen p.requester h d) (came_as h id (answer_for p.requester p.responder p.first id x s t) (inner_reply t)) AskFinish (canonical_response PskFinishRsp) PskFinishRsp good.inner (omega arith) (reads h PskFinishRsp (hash_len (steps.session_terms (steps.session_of id h))) tt tt)
        ∙ ap (λ (n : SessionId). let l : Result Led BadReply = Ok (is_done (finished.Opened n) (Grants AskFinish t.reply)) in l) (ap steps.session_id is ∙ fit.named);
    at_end = λ s pad t at kept. refl;
  }
