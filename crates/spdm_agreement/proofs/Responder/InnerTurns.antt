-- What a responder does with the inner message of a record: it refuses it, takes application data, or takes a request.
use Rattle.std.proofs.Common.{◌≡◌, ◌⊎◌, ℕ, List, [], ◌∷◌, length, drop, Bool, true, false, cond, not, Option, Some, None, is_none, ◌==◌, ◌&&◌, ◌||◌, refl, sym, ap, ◌∙◌, inl, inr, true≢false}
use Rattle.std.specs.Prelude.{slice_index, nat_lt}
use Rattle.spdm_grammar.specs.Message.{RequestMessage}
use Rattle.spdm_grammar.specs.Message.RequestMessage.{ChunkSend}
use Rattle.spdm_grammar.specs.declared.messages.error_code.ErrorCode.{ErrorCode}
use Rattle.spdm_grammar.specs.declared.messages.error_code.ErrorCode.TheVariants.{InvalidRequest, RequestTooLarge, UnsupportedRequest, SessionRequired, UnexpectedRequest, VersionMismatch}
use Rattle.responder_machine.specs.Answer.{Free, request_at, answer_bytes}
use Rattle.responder_machine.specs.Handling.{turn_of, turn_by, chunk_in, refused_turn, plain_turn, effect_of, handle_for}
use Rattle.responder_machine.specs.Place.{session_place, place_terms}
use Rattle.responder_machine.specs.Refusal.{refused_form, refusal, code_of, is_known, version_for, stage_allows, has_pending}
use Rattle.spdm_basis.specs.Tests.{first_of_tests}
use Rattle.spdm_grammar.specs.Codes.{is_one_of}
use Rattle.responder_machine.specs.Responder.{inner_refusal, data_turn, session_turn, session_turn_by, is_open}
use Rattle.responder_machine.specs.Session.{Events, stage_of}
use Rattle.responder_machine.specs.Setup.{RspSetup}
use Rattle.spdm_machine.specs.Terms.{hash_len}
use Rattle.responder_machine.specs.Turn.{Turn}
use Rattle.spdm_grammar.specs.Codes.{code_for}
use Rattle.responder_machine.specs.Turn.Effect.{Took}
use Rattle.spdm_agreement.proofs.Messages.RequestCodes.{code_read}
use Rattle.spdm_agreement.proofs.Responder.FinishPlace.{sound_form}
use Rattle.spdm_grammar.specs.declared.names.request_code.TheConstants.{GET_VERSION, CHUNK_SEND, GET_CAPABILITIES, NEGOTIATE_ALGORITHMS, PSK_EXCHANGE}
use Rattle.responder_machine.proofs.Tests.{form_passed}

-- Application data is taken.
pub record TakesData (s : Events) (inner : List ℕ) (f : Free) (t : Turn) : Type 0 where
  pub past : is_open (stage_of s) ≡ true
  pub is : t ≡ data_turn f (drop 1 inner)

-- A request is taken.
pub record TakesRequest (r : RspSetup) (s : Events) (inner : List ℕ) (f : Free) (t : Turn) : Type 0 where
  pub value : RequestMessage
  pub typed : (slice_index inner 0 == 5) ≡ true
  pub spelled : request_at (session_place s) (drop 1 inner) ≡ Some value
  pub allowed : stage_allows (stage_of s) (has_pending (session_place s)) (code_for value) ≡ true
  pub is : t ≡ plain_turn r (session_place s) (drop 1 inner) f

pub record RefusesTurn (r : RspSetup) (s : Events) (inner : List ℕ) (f : Free) (t : Turn) : Type 0 where
  pub error : ErrorCode
  pub is : t ≡ refused_turn r (session_place s) (drop 1 inner) f error

abbrev pub TurnIs : RspSetup → Events → List ℕ → Free → Turn → Type 0
TurnIs r s inner f t = RefusesTurn r s inner f t ⊎ (TakesData s inner f t ⊎ TakesRequest r s inner f t)

four : (a b c d : Bool) → first_of_tests ((a, InvalidRequest) ∷ (b, InvalidRequest) ∷ (c, UnexpectedRequest) ∷ (d, RequestTooLarge) ∷ []) ≡ None → (b ≡ false) × (c ≡ false)
four true b c d n = absurd (cc)
four false true c d n = absurd (cc)
four false false true d n = absurd (cc)
four false false false d n = (refl, refl)

past_of : (a b c : Bool) → a ≡ false → not (a || b) ≡ false → (b && not c) ≡ false → c ≡ true
past_of true b c x y z = absurd (cc)
past_of false false c x y z = absurd (cc)
past_of false true false x y z = absurd (cc)
past_of false true true x y z = refl

nine : (a b c d e f g h : Bool) → first_of_tests ((a, InvalidRequest) ∷ (b, RequestTooLarge) ∷ (c, UnsupportedRequest) ∷ (d, SessionRequired) ∷ (e, UnsupportedRequest) ∷ (f, UnexpectedRequest) ∷ (g, UnexpectedRequest) ∷ (h, VersionMismatch) ∷ (true, InvalidRequest) ∷ []) ≡ None → ⊥
nine true b c d e f g h n = cc
nine false true c d e f g h n = cc
nine false false true d e f g h n = cc
nine false false false true e f g h n = cc
nine false false false false true f g h n = cc
nine false false false false false true g h n = cc
nine false false false false false false true h n = cc
nine false false false false false false false true n = cc
nine false false false false false false false false n = cc

spelled_form : (r : RspSetup) (s : Events) (m : List ℕ) → refused_form r (session_place s) m ≡ None → request_at (session_place s) m ≡ None → ⊥
unfolding refused_form
spelled_form r s m form is =
    let c = code_of m in
    let to = λ (b : Bool). first_of_tests ((nat_lt (length m) 4, InvalidRequest) ∷ (nat_lt r.transfer (length m), RequestTooLarge) ∷ (not (is_known c), UnsupportedRequest) ∷ (false, SessionRequired) ∷ (c == CHUNK_SEND, UnsupportedRequest)
    ∷ (is_one_of (GET_VERSION ∷ GET_CAPABILITIES ∷ NEGOTIATE_ALGORITHMS ∷ PSK_EXCHANGE ∷ []) c, UnexpectedRequest) ∷ (not (stage_allows (stage_of s) (has_pending (session_place s)) c), UnexpectedRequest) ∷ (not (slice_index m 0 == version_for c), VersionMismatch) ∷ (b, InvalidRequest) ∷ []) in
    nine (nat_lt (length m) 4) (nat_lt r.transfer (length m)) (not (is_known c)) false (c == CHUNK_SEND) (is_one_of (GET_VERSION ∷ GET_CAPABILITIES ∷ NEGOTIATE_ALGORITHMS ∷ PSK_EXCHANGE ∷ []) c)
    (not (stage_allows (stage_of s) (has_pending (session_place s)) c)) (not (slice_index m 0 == version_for c)) (ap to (ap is_none (sym is)) ∙ form)

spelled_by : (r : RspSetup) (s : Events) (inner : List ℕ) (f : Free) (v : Option RequestMessage) → (slice_index inner 0 == 5) ≡ true → request_at (session_place s) (drop 1 inner) ≡ v → refused_form r (session_place s) (drop 1 inner) ≡ None
    → TurnIs r s inner f (turn_by r (session_place s) (drop 1 inner) f None (chunk_in v))
spelled_by r s inner f None typed is form = absurd (spelled_form r s (drop 1 inner) form is)
spelled_by r s inner f (Some v) typed is form =
    let m = drop 1 inner in
    let code : code_of m ≡ code_for v = sym (code_read (hash_len (place_terms (session_place s))) m v is) in
    let l = sound_form r s m form in
    plain v (ap (λ (n : ℕ). n == CHUNK_SEND) (sym code) ∙ l.0) (record { value = v; typed = typed; spelled = is; allowed = ap (λ (n : ℕ). stage_allows (stage_of s) (has_pending (session_place s)) n) (sym code) ∙ l.1; is = refl })
  where
    plain : (v : RequestMessage) → (code_for v == CHUNK_SEND) ≡ false → TakesRequest r s inner f (plain_turn r (session_place s) (drop 1 inner) f) → TurnIs r s inner f (turn_by r (session_place s) (drop 1 inner) f None (chunk_in (Some v)))
    plain (ChunkSend c) e x = absurd (true≢false e)
    plain v e x = inr (inr x)

refused_by : (r : RspSetup) (s : Events) (inner : List ℕ) (f : Free) (o : Option ErrorCode) → (slice_index inner 0 == 5) ≡ true → refusal r (session_place s) (drop 1 inner) f ≡ o
    → TurnIs r s inner f (turn_by r (session_place s) (drop 1 inner) f o (chunk_in (request_at (session_place s) (drop 1 inner))))
refused_by r s inner f (Some e) typed is = inl (record { error = e; is = refl })
refused_by r s inner f None typed is = spelled_by r s inner f (request_at (session_place s) (drop 1 inner)) typed refl (form_passed r (session_place s) (drop 1 inner) f is)

typed_by : (r : RspSetup) (s : Events) (inner : List ℕ) (f : Free) (b : Bool) → (slice_index inner 0 == 5) ≡ b → inner_refusal (stage_of s) inner ≡ None
    → TurnIs r s inner f (cond b (turn_of r (session_place s) (drop 1 inner) f) (data_turn f (drop 1 inner)))
unfolding turn_of
typed_by r s inner f true is none = refused_by r s inner f (refusal r (session_place s) (drop 1 inner) f) is refl
typed_by r s inner f false is none =
    let l = four (length inner == 0) _ _ _ none in
    inr (inl (record { past = past_of (slice_index inner 0 == 5) (slice_index inner 0 == 1) (is_open (stage_of s)) is l.0 l.1; is = refl }))

case_by : (r : RspSetup) (s : Events) (inner : List ℕ) (f : Free) (o : Option ErrorCode) → inner_refusal (stage_of s) inner ≡ o → TurnIs r s inner f (session_turn_by r s inner f o)
case_by r s inner f (Some e) is = inl (record { error = e; is = refl })
case_by r s inner f None is = typed_by r s inner f (slice_index inner 0 == 5) refl is

pub turn_case : (r : RspSetup) (s : Events) (inner : List ℕ) (f : Free) → TurnIs r s inner f (session_turn r s inner f)
unfolding session_turn
turn_case r s inner f = case_by r s inner f (inner_refusal (stage_of s) inner) refl

-- ---- A request that is taken.

pub took : (r : RspSetup) (s : Events) (inner : List ℕ) (f : Free) (t : Turn) (x : TakesRequest r s inner f t)
    → t.effect ≡ Took x.value (drop 1 inner) (answer_bytes r (session_place s) (drop 1 inner) f) (handle_for (session_place s) f (answer_bytes r (session_place s) (drop 1 inner) f))
took r s inner f t x =
    let m = drop 1 inner in
    let a = answer_bytes r (session_place s) m f in
    ap (λ (t : Turn). t.effect) x.is ∙ ap (λ (o : Option RequestMessage). effect_of o m a (handle_for (session_place s) f a)) x.spelled
