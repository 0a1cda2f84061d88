-- PSK_FINISH in a handshake.
use Rattle.std.proofs.Common.{◌≡◌, ◌∙◌, ap, sym, subst, refl, ℕ, ◌+◌, List, ◌∷◌, ◌++◌, Bool, true, false, arith}
use Rattle.std.specs.Prelude.{not, if◌then◌else◌, Option, Some, None, bytes_eq}
use Rattle.key_schedule.specs.Keys.{DirectionSecret}
use Rattle.key_schedule.specs.Purpose.{application_record}
use Rattle.key_schedule.specs.declared.direction.Direction.TheVariants.{Request, Response}
use Rattle.responder_machine.proofs.Codes.{asked-code}
use Rattle.responder_machine.proofs.Tests.{tests_are_false}
use Rattle.responder_machine.specs.Answer.{Free, request_at}
use Rattle.responder_machine.specs.Handling.{turn_of, refused_turn}
use Rattle.responder_machine.specs.Place.{session_place}
use Rattle.responder_machine.specs.Refusal.{refused_form, tests_of_form, stage_allows, has_pending, is_answer_too_long}
use Rattle.responder_machine.specs.Session.{Events, stage_of, session_negotiation, session_terms, session_vca, exchange_of, exchange_answer, request_epoch, response_epoch}
use Rattle.responder_machine.specs.Session.Event.{Heard}
use Rattle.running_hash.specs.Hash.{hash_of}
use Rattle.session_keys.specs.Keys.{IsKeyOf}
use Rattle.session_keys.specs.Terms.{AreTermsOf}
use Rattle.session_keys.specs.declared.terms.SessionTerms.{SessionTerms}
use Rattle.responder_machine.specs.Setup.{RspSetup}
use Rattle.responder_machine.specs.SizeLaws.{HasSizes}
use Rattle.spdm_grammar.specs.Codes.{code_for}
use Rattle.spdm_grammar.specs.Message.{RequestMessage}
use Rattle.spdm_grammar.specs.Message.RequestMessage.{PskFinish}
use Rattle.spdm_grammar.specs.Message.ResponseMessage.{PskFinishRsp}
use Rattle.spdm_grammar.specs.Responses.{canonical_response}
use Rattle.spdm_grammar.specs.declared.messages.error_code.ErrorCode.{ErrorCode}
use Rattle.spdm_grammar.specs.declared.messages.error_code.ErrorCode.TheVariants.{DecryptError, ResponseTooLarge}
use Rattle.spdm_grammar.specs.declared.told.phase.Stage.{Stage}
use Rattle.responder_session.proofs.Contents.{turn-refused, turn-answered, short_fits, short_is_small}
use Rattle.responder_session.specs.Kept.{Keeps, kept_record}
use Rattle.responder_session.specs.declared.kept.Kept.{Kept}
use Rattle.responder_session.specs.Judged.{right_verify}
use Rattle.responder_session.specs.Turns.{answered_turn}

after_verify : (wrong long : Bool) → wrong ≡ false → long ≡ false → (if wrong then Some DecryptError else (if long then Some ResponseTooLarge else None)) ≡ None
after_verify wrong long h k = λ i. if h i then Some DecryptError else (if k i then Some ResponseTooLarge else None)

wrong_first : (wrong : Bool) (rest : Option ErrorCode) → wrong ≡ true → (if wrong then Some DecryptError else rest) ≡ Some DecryptError
wrong_first wrong rest h = ap (λ (b : Bool). if b then Some DecryptError else rest) h

pub finish-refused : (r : RspSetup) (s : Events) (m : List ℕ) (f : Free) (verify : List ℕ) → refused_form r (session_place s) m ≡ None → request_at (session_place s) m ≡ Some (PskFinish verify)
    → bytes_eq verify (right_verify r.psk s m) ≡ false → turn_of r (session_place s) m f ≡ refused_turn r (session_place s) m f DecryptError
finish-refused r s m f verify form is h =
    turn-refused r (session_place s) m f (PskFinish verify) DecryptError form is
    (wrong_first (not (bytes_eq verify (right_verify r.psk s m))) _ (ap not h))

pub finish-answered : (r : RspSetup) (s : Events) (m : List ℕ) (f : Free) (verify : List ℕ) → HasSizes r (session_terms s).common
    → refused_form r (session_place s) m ≡ None → request_at (session_place s) m ≡ Some (PskFinish verify)
    → bytes_eq verify (right_verify r.psk s m) ≡ true → turn_of r (session_place s) m f ≡ answered_turn m (PskFinish verify) (canonical_response PskFinishRsp)
finish-answered r s m f verify sizes form is h =
    let answer = canonical_response PskFinishRsp in
    turn-answered r (session_place s) m f (PskFinish verify) form is refl
    (after_verify (not (bytes_eq verify (right_verify r.psk s m))) (is_answer_too_long (session_place s) answer) (ap not h) (short_fits r s answer sizes (omega arith)))
    (short_is_small r s answer sizes (omega arith))

-- ---- Which requests a stage allows.

pub allowed_code : (r : RspSetup) (s : Events) (m : List ℕ) (asked : RequestMessage) (stage : Stage) → refused_form r (session_place s) m ≡ None → request_at (session_place s) m ≡ Some asked → stage_of s ≡ stage
    → not (stage_allows stage (has_pending (session_place s)) (code_for asked)) ≡ false
unfolding refused_form
allowed_code r s m asked stage form is at =
    (λ i. not (stage_allows (sym at i) (has_pending (session_place s)) (asked-code (session_place s) m asked is i)))
    ∙ tests_are_false (tests_of_form r (session_place s) m) form 6

-- ---- The open session.

-- What is kept once PSK_FINISH was answered: the number of each direction starts over under the keys after the
-- handshake.
pub kept_finished : (old mid new : Kept) (request_key response_key : DirectionSecret) (psk : List ℕ) (s : Events) (sealed message verify reply hash : List ℕ)
    → mid ≡ record old { request_next = old.request_next + 1; response_next = old.response_next + 1; last = mid.last }
    → new ≡ record mid { request = request_key; response = response_key; request_next = 0; response_next = 0; hash = hash }
    → kept_record mid.last ≡ Some (record { sealed = sealed; reply = reply })
    → IsKeyOf request_key (session_terms s).choice (application_record psk (session_vca s ++ exchange_of s ++ exchange_answer s ++ message ++ canonical_response PskFinishRsp) Request 0)
    → IsKeyOf response_key (session_terms s).choice (application_record psk (session_vca s ++ exchange_of s ++ exchange_answer s ++ message ++ canonical_response PskFinishRsp) Response 0)
    → hash ≡ (hash_of (session_terms s).choice.hash).digest (session_vca s ++ exchange_of s ++ exchange_answer s ++ message ++ canonical_response PskFinishRsp)
    → request_epoch s ≡ 0 → response_epoch s ≡ 0 → Keeps old psk s
    → Keeps new psk (Heard sealed (answered_turn message (PskFinish verify) (canonical_response PskFinishRsp)) reply ∷ s)
kept_finished old mid new request_key response_key psk s sealed message verify reply hash first second last request response is no_request no_response keeps =
    let t2 = session_vca s ++ exchange_of s ++ exchange_answer s ++ message ++ canonical_response PskFinishRsp in
    let choice = (session_terms s).choice in
    record {
      live = refl;
      terms = subst (λ (x : SessionTerms). AreTermsOf x (session_negotiation s) (exchange_of s)) (sym (ap (λ (x : Kept). x.terms) second ∙ ap (λ (x : Kept). x.terms) first)) keeps.terms;
      id = ap (λ (x : Kept). x.id) second ∙ ap (λ (x : Kept). x.id) first ∙ keeps.id;
      request = subst (λ (k : DirectionSecret). IsKeyOf k choice (application_record psk t2 Request (request_epoch s))) (sym (ap (λ (x : Kept). x.request) second))
          (subst (λ (n : ℕ). IsKeyOf request_key choice (application_record psk t2 Request n)) (sym no_request) request);
      response = subst (λ (k : DirectionSecret). IsKeyOf k choice (application_record psk t2 Response (response_epoch s))) (sym (ap (λ (x : Kept). x.response) second))
          (subst (λ (n : ℕ). IsKeyOf response_key choice (application_record psk t2 Response n)) (sym no_response) response);
      request_epoch = ap (λ (x : Kept). x.request.epoch) second ∙ request.secret.epoch ∙ sym no_request;
      response_epoch = ap (λ (x : Kept). x.response.epoch) second ∙ response.secret.epoch ∙ sym no_response;
      request_next = ap (λ (x : Kept). x.request_next) second;
      response_next = ap (λ (x : Kept). x.response_next) second;
      taken = ap (λ (x : Kept). x.taken) second ∙ ap (λ (x : Kept). x.taken) first ∙ keeps.taken;
      hash = ap (λ (x : Kept). x.hash) second ∙ is;
      last = ap (λ (x : Kept). kept_record x.last) second ∙ last;
    }
