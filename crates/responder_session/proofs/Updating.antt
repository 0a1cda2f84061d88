-- KEY_UPDATE: its turn, and what is kept after it.
use Rattle.std.proofs.Common.{◌≡◌, ◌∙◌, ap, sym, subst, refl, ℕ, ◌+◌, List, ◌∷◌, Bool, true, false, arith}
use Rattle.std.specs.Prelude.{not, if◌then◌else◌, Option, Some, None}
use Rattle.key_schedule.specs.Purpose.{Purpose, application_record}
use Rattle.key_schedule.specs.declared.direction.Direction.{Direction}
use Rattle.key_schedule.specs.declared.direction.Direction.TheVariants.{Request, Response}
use Rattle.responder_machine.proofs.Codes.{asked-code}
use Rattle.responder_machine.specs.Answer.{Free, request_at}
use Rattle.responder_machine.specs.Handling.{turn_of, refused_turn}
use Rattle.responder_machine.specs.Place.{session_place}
use Rattle.responder_machine.specs.Refusal.{refused_form, lacks_flag, fits_stage, code_of, is_answer_too_long}
use Rattle.responder_machine.specs.Session.{Events, stage_of, session_hash, session_terms, t1_of, t2_of, request_epoch, response_epoch}
use Rattle.responder_machine.specs.Session.Event.{Heard}
use Rattle.responder_machine.specs.Setup.{RspSetup}
use Rattle.responder_machine.specs.SizeLaws.{HasSizes}
use Rattle.session_keys.specs.Keys.{IsKeyOf}
use Rattle.spdm_grammar.specs.Codes.{code_for}
use Rattle.spdm_grammar.specs.Message.{RequestMessage}
use Rattle.spdm_grammar.specs.Message.RequestMessage.{KeyUpdate}
use Rattle.spdm_grammar.specs.Message.ResponseMessage.{KeyUpdateAck}
use Rattle.spdm_grammar.specs.Responses.{canonical_response}
use Rattle.spdm_grammar.specs.declared.messages.error_code.ErrorCode.{ErrorCode}
use Rattle.spdm_grammar.specs.declared.messages.error_code.ErrorCode.TheVariants.{UnexpectedRequest, UnsupportedRequest, ResponseTooLarge}
use Rattle.spdm_grammar.specs.declared.names.request_code.TheConstants.{KEY_UPDATE}
use Rattle.spdm_grammar.specs.declared.told.phase.Stage.{Stage}
use Rattle.spdm_grammar.specs.declared.told.phase.Stage.TheVariants.{Handshake, Open, Verifying}
use Rattle.spdm_machine.specs.Sessions.{is_past_handshake, purpose_in, transcript_in}
use Rattle.responder_session.proofs.Contents.{turn-refused, turn-answered, short_fits, short_is_small}
use Rattle.responder_session.specs.Kept.{Keeps, kept_record}
use Rattle.responder_session.specs.Updates.{update_turn}
use Rattle.responder_session.specs.declared.kept.Kept.{Kept}

-- ---- The turn.

lacked : (b : Bool) (rest : Option ErrorCode) → b ≡ true → (if b then Some UnsupportedRequest else rest) ≡ Some UnsupportedRequest
lacked b rest h = ap (λ (x : Bool). if x then Some UnsupportedRequest else rest) h

-- A request that needs what was not negotiated is refused for that.
pub lacking : (r : RspSetup) (s : Events) (m : List ℕ) (f : Free) (asked : RequestMessage) → refused_form r (session_place s) m ≡ None → request_at (session_place s) m ≡ Some asked
    → lacks_flag (session_terms s) (code_of m) ≡ true → turn_of r (session_place s) m f ≡ refused_turn r (session_place s) m f UnsupportedRequest
lacking r s m f asked form is h =
    turn-refused r (session_place s) m f asked UnsupportedRequest form is
    (lacked (lacks_flag (session_terms s) (code_for asked)) _ (ap (lacks_flag (session_terms s)) (asked-code (session_place s) m asked is) ∙ h))

-- The tests of KEY_UPDATE: it was not negotiated, or its operation does not fit the stage.
misplaced_by : (lacks wrong : Bool) (rest : Option ErrorCode) → lacks ≡ false → wrong ≡ true
    → (if lacks then Some UnsupportedRequest else (if wrong then Some UnexpectedRequest else rest)) ≡ Some UnexpectedRequest
misplaced_by lacks wrong rest h k = λ i. if h i then Some UnsupportedRequest else (if k i then Some UnexpectedRequest else rest)

fitting_by : (lacks wrong long : Bool) → lacks ≡ false → wrong ≡ false → long ≡ false
    → (if lacks then Some UnsupportedRequest else (if wrong then Some UnexpectedRequest else (if long then Some ResponseTooLarge else None))) ≡ None
fitting_by lacks wrong long h k l = λ i. if h i then Some UnsupportedRequest else (if k i then Some UnexpectedRequest else (if l i then Some ResponseTooLarge else None))

pub update-misplaced : (r : RspSetup) (s : Events) (m : List ℕ) (f : Free) (op tag : ℕ) → refused_form r (session_place s) m ≡ None → request_at (session_place s) m ≡ Some (KeyUpdate op tag)
    → lacks_flag (session_terms s) (code_of m) ≡ false → fits_stage (stage_of s) op ≡ false → turn_of r (session_place s) m f ≡ refused_turn r (session_place s) m f UnexpectedRequest
update-misplaced r s m f op tag form is h other =
    turn-refused r (session_place s) m f (KeyUpdate op tag) UnexpectedRequest form is
    (misplaced_by (lacks_flag (session_terms s) KEY_UPDATE) (not (fits_stage (stage_of s) op)) _ (ap (lacks_flag (session_terms s)) (asked-code (session_place s) m (KeyUpdate op tag) is) ∙ h) (ap not other))

pub update-answered : (r : RspSetup) (s : Events) (m : List ℕ) (f : Free) (op tag : ℕ) → HasSizes r (session_terms s).common
    → refused_form r (session_place s) m ≡ None → request_at (session_place s) m ≡ Some (KeyUpdate op tag)
    → lacks_flag (session_terms s) (code_of m) ≡ false → fits_stage (stage_of s) op ≡ true → turn_of r (session_place s) m f ≡ update_turn m op tag
update-answered r s m f op tag sizes form is h fits =
    let answer = canonical_response (KeyUpdateAck op tag) in
    turn-answered r (session_place s) m f (KeyUpdate op tag) form is refl
    (fitting_by (lacks_flag (session_terms s) KEY_UPDATE) (not (fits_stage (stage_of s) op)) (is_answer_too_long (session_place s) answer)
    (ap (lacks_flag (session_terms s)) (asked-code (session_place s) m (KeyUpdate op tag) is) ∙ h) (ap not fits) (short_fits r s answer sizes (omega arith)))
    (short_is_small r s answer sizes (omega arith))

-- ---- What is kept.

-- After its handshake a session goes under its application keys.
pub past_purpose : (s : Events) (stage : Stage) (psk : List ℕ) (direction : Direction) (epoch : ℕ) → stage_of s ≡ stage → is_past_handshake stage ≡ true
    → purpose_in (stage_of s) psk (t1_of s) (t2_of s) direction epoch ≡ application_record psk (t2_of s) direction epoch
past_purpose s stage psk direction epoch at past = ap (λ (x : Stage). purpose_in x psk (t1_of s) (t2_of s) direction epoch) at ∙ by_stage stage psk (t1_of s) (t2_of s) direction epoch past
  where
    by_stage : (stage : Stage) (psk t1 t2 : List ℕ) (direction : Direction) (epoch : ℕ) → is_past_handshake stage ≡ true → purpose_in stage psk t1 t2 direction epoch ≡ application_record psk t2 direction epoch
    by_stage Handshake psk t1 t2 direction epoch h = absurd (cc)
    by_stage Open psk t1 t2 direction epoch h = refl
    by_stage Verifying psk t1 t2 direction epoch h = refl

pub past_hash : (s : Events) (stage : Stage) → stage_of s ≡ stage → is_past_handshake stage ≡ true → transcript_in (stage_of s) (t1_of s) (t2_of s) ≡ t2_of s
past_hash s stage at past = ap (λ (x : Stage). transcript_in x (t1_of s) (t2_of s)) at ∙ by_stage stage (t1_of s) (t2_of s) past
  where
    by_stage : (stage : Stage) (t1 t2 : List ℕ) → is_past_handshake stage ≡ true → transcript_in stage t1 t2 ≡ t2
    by_stage Handshake t1 t2 h = absurd (cc)
    by_stage Open t1 t2 h = refl
    by_stage Verifying t1 t2 h = refl

-- After VerifyNewKey the keys are as before.
pub kept_verified : (old new : Kept) (psk : List ℕ) (s : Events) (sealed message reply : List ℕ) (tag : ℕ) → stage_of s ≡ Verifying
    → new ≡ record old { request_next = old.request_next + 1; response_next = old.response_next + 1; last = new.last }
    → kept_record new.last ≡ Some (record { sealed = sealed; reply = reply }) → Keeps old psk s → Keeps new psk (Heard sealed (update_turn message 3 tag) reply ∷ s)
kept_verified old new psk s sealed message reply tag at is last keeps =
    let choice = (session_terms s).choice in
    subst (λ (x : Kept). Keeps x psk (Heard sealed (update_turn message 3 tag) reply ∷ s)) (sym is) (record {
      live = refl;
      terms = keeps.terms;
      id = keeps.id;
      request = subst (λ (p : Purpose). IsKeyOf old.request choice p) (past_purpose s Verifying psk Request (request_epoch s) at refl) keeps.request;
      response = subst (λ (p : Purpose). IsKeyOf old.response choice p) (past_purpose s Verifying psk Response (response_epoch s) at refl) keeps.response;
      request_epoch = keeps.request_epoch;
      response_epoch = keeps.response_epoch;
      request_next = ap (λ (n : ℕ). n + 1) keeps.request_next;
      response_next = ap (λ (n : ℕ). n + 1) keeps.response_next;
      taken = keeps.taken;
      hash = keeps.hash ∙ ap (λ (x : List ℕ). (session_hash s).digest x) (past_hash s Verifying at refl);
      last = last;
    })
