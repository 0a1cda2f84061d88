-- GET_VERSION in the clear is answered by VERSION.
use Rattle.std.proofs.Common.{◌≡◌, ◌≤◌, ◌&&◌, ◌||◌, ℕ, List, refl, ap, ◌∙◌, length, Bool, true, false, Option, Some, None, is_none, is_some, cond, arith}
use Rattle.std.specs.Prelude.{not, nat_lt}
use Rattle.std.specs.Option.{option_or}
use Rattle.std.proofs.Math.Bool.{and-false}
use Rattle.std.proofs.lemmas.Bool.{le-ltb}
use Rattle.spdm_grammar.specs.Message.{RequestMessage}
use Rattle.spdm_grammar.specs.Message.RequestMessage.{GetVersion}
use Rattle.spdm_grammar.specs.Reading.{field_at, number_at}
use Rattle.spdm_grammar.specs.Requests.{canonical_request, get_version_layout, request_body}
use Rattle.spdm_grammar.specs.Responses.{canonical_response}
use Rattle.spdm_grammar.specs.declared.messages.error_code.ErrorCode.{ErrorCode}
use Rattle.spdm_grammar.specs.declared.messages.error_code.ErrorCode.TheVariants.{DecryptError, InvalidRequest, RequestTooLarge, ResponseTooLarge, UnexpectedRequest}
use Rattle.spdm_grammar.specs.declared.names.request_code.TheConstants.{GET_VERSION}
use Rattle.spdm_grammar.specs.declared.told.phase.Phase.{Phase}
use Rattle.spdm_grammar.specs.declared.told.phase.Phase.TheVariants.{Fresh, Versioned, Capable, Negotiated}
use Rattle.spdm_machine.specs.Bodies.{clear_body}
use Rattle.responder_machine.specs.Answer.{Free, answer_bytes, answer_to, request_at, version_answer}
use Rattle.responder_machine.specs.Handling.{chunk_in, effect_of, goes_large, large_response, plain_turn, turn_by, turn_of}
use Rattle.responder_machine.specs.History.{History, kept_of}
use Rattle.responder_machine.specs.History.Entry.{Clear}
use Rattle.responder_machine.specs.Place.{Place, clear_place, place_terms}
use Rattle.responder_machine.specs.Refusal.{are_caps_refused, chunk_fault, has_no_block, has_pending, is_answer_too_long, is_exchange_refused, is_get_refused, is_offer_refused, is_too_large, is_update_misplaced, is_verify_wrong, phase_allows, refusal, refused_contents, refused_form, sizes_are_known}
use Rattle.responder_machine.specs.Responder.{kept_reply, on_clear}
use Rattle.responder_machine.specs.Responder.Outcome.{Same, Adds}
use Rattle.responder_machine.specs.Setup.{RspSetup}
use Rattle.responder_machine.specs.Turn.{Turn}
use Rattle.check_fetched_laws.specs.StandsAlike.{IsAnew, version_entry}
use Rattle.capture_machine.specs.Rounds.{no_draw}

allows_version : (phase : Phase) (pending : Bool) → phase_allows phase pending GET_VERSION ≡ true
allows_version Fresh pending = refl
allows_version Versioned pending = refl
allows_version Capable pending = refl
allows_version Negotiated pending = refl

fits_by : (known chunk : Bool) (max transfer size : ℕ) → size ≤ 42 → (known ≡ true → (42 ≤ transfer) × (transfer ≤ max)) → (known && (nat_lt max size || (not chunk && nat_lt transfer size))) ≡ false
fits_by false chunk max transfer size few sized = refl
fits_by true chunk max transfer size few sized =
    let both = sized refl in
    let low = both.0 in
    let most = both.1 in
    ap (λ (b : Bool). b || (not chunk && nat_lt transfer size)) (le-ltb max size (omega (arith, low, most, few))) ∙ ap (λ (b : Bool). not chunk && b) (le-ltb transfer size (omega (arith, low, few))) ∙ and-false (not chunk)

small_by : (known : Bool) (transfer size : ℕ) → size ≤ 42 → (known ≡ true → 42 ≤ transfer) → (known && nat_lt transfer size) ≡ false
small_by false transfer size few sized = refl
small_by true transfer size few sized = (let low = sized refl in le-ltb transfer size (omega (arith, low, few)))

module _ (r : RspSetup) (h : History) (tag : ℕ) (is : IsAnew r h tag) where
  abbrev p : Place
  p = clear_place h

  abbrev m : List ℕ
  m = canonical_request GetVersion

  abbrev reply : List ℕ
  reply = canonical_response version_answer

  pub asked : request_at p m ≡ Some GetVersion
  unfolding field_at number_at request_body get_version_layout
  asked = refl

  long : nat_lt r.transfer 4 ≡ false
  long = le-ltb r.transfer 4 is.room

  form_none : refused_form r p m ≡ None
  unfolding refused_form
  form_none =
      ap (λ (b : Bool). cond b (Some RequestTooLarge) (cond (not (phase_allows p.phase (has_pending p) GET_VERSION)) (Some UnexpectedRequest) (cond (is_none (request_at p m)) (Some InvalidRequest) None))) long
      ∙ ap (λ (b : Bool). cond (not b) (Some UnexpectedRequest) (cond (is_none (request_at p m)) (Some InvalidRequest) None)) (allows_version p.phase (has_pending p))
      ∙ ap (λ (q : Option RequestMessage). cond (is_none q) (Some InvalidRequest) None) asked

  module _ (f : Free) where
    pub answer : answer_bytes r p m f ≡ reply
    unfolding answer_bytes
    answer = ap (answer_to r p m f) asked

    contents_none : refused_contents r p m f ≡ None
    unfolding refused_contents
    contents_none =
        let at : Option RequestMessage → Option ErrorCode = λ q.
        cond (are_caps_refused r q) (Some InvalidRequest) (cond (is_offer_refused r q) (Some InvalidRequest) (cond (has_no_block r q) (Some InvalidRequest) (cond (is_exchange_refused r p q) (Some InvalidRequest)
        (cond (is_verify_wrong r p m q) (Some DecryptError) (cond (is_update_misplaced p q) (Some UnexpectedRequest) (cond (is_too_large (chunk_fault r p q)) (Some RequestTooLarge) (cond (is_some (chunk_fault r p q)) (Some InvalidRequest)
        (cond (is_get_refused p q) (Some InvalidRequest) (cond (is_answer_too_long p (answer_bytes r p m f)) (Some ResponseTooLarge) None))))))))) in
        ap at asked ∙ ap (λ (b : Bool). cond b (Some ResponseTooLarge) None) short
      where
        short : is_answer_too_long p (answer_bytes r p m f) ≡ false
        short =
            ap (is_answer_too_long p) answer
            ∙ fits_by (sizes_are_known p.phase) (place_terms p).common.chunk (place_terms p).common.to_requester.max (place_terms p).common.to_requester.transfer (length reply) (omega arith) (λ known. ((is.sized known).least, (is.sized known).crossed))

    none : refusal r p m f ≡ None
    unfolding refusal
    none = ap (λ (x : Option ErrorCode). option_or x (refused_contents r p m f)) form_none ∙ contents_none

    small : goes_large p (answer_bytes r p m f) ≡ false
    small = ap (goes_large p) answer ∙ small_by (sizes_are_known p.phase) (place_terms p).common.to_requester.transfer (length reply) (omega arith) (λ known. (is.sized known).least)

    turn_is : Clear tag (turn_of r p m f) no_draw ≡ version_entry tag
    unfolding turn_of
    turn_is =
        let at : Option RequestMessage → List ℕ → Bool → Turn =
        λ q l b. record { message = m; refused = None; chunk = None; effect = effect_of q m l (cond b (Some f.handle) None); reply = cond b (large_response f.handle) l } in
        let turn : turn_by r p m f (refusal r p m f) (chunk_in (request_at p m)) ≡ plain_turn r p m f =
        ap (λ (x : Option ErrorCode). turn_by r p m f x (chunk_in (request_at p m))) none ∙ ap (λ (q : Option RequestMessage). turn_by r p m f None (chunk_in q)) asked in
        ap (λ (t : Turn). Clear tag t no_draw) (
        turn
        ∙ ap (λ (q : Option RequestMessage). at q (answer_bytes r p m f) (goes_large p (answer_bytes r p m f))) asked
        ∙ ap (at (Some GetVersion) (answer_bytes r p m f)) small
        ∙ ap (λ (l : List ℕ). at (Some GetVersion) l false) answer)

    pub version_gives : on_clear r h tag m f no_draw ≡ Adds (version_entry tag)
    unfolding on_clear
    version_gives =
        ap (λ (b : Bool). cond b (Same (clear_body (kept_reply (kept_of h)))) (Adds (Clear tag (turn_of r p m f) no_draw))) is.anew ∙ ap Adds turn_is
