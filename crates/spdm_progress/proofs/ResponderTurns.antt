-- What a responder makes of a request in the clear that passes all its tests.
use Rattle.std.proofs.Common.{◌≡◌, ◌∙◌, ℕ, List, [], ◌∷◌, length, Bool, true, false, nat_lt, Option, Some, None, ◌==◌, ◌&&◌, not, is_none, is_some, refl, ap}
use Rattle.std.specs.Prelude.{slice_index, if◌then◌else◌}
use Rattle.std.specs.Option.{option_or}
use Rattle.spdm_basis.specs.Tests.{first_of_tests}
use Rattle.spdm_grammar.proofs.CanonicalRequests.{request_spelled}
use Rattle.spdm_grammar.proofs.Spellings.{read_iff}
use Rattle.spdm_grammar.specs.Message.{RequestMessage, ChunkMessage}
use Rattle.spdm_grammar.specs.Requests.{request_layout, canonical_request, FitsRequest, IsSoundRequest}
use Rattle.spdm_grammar.specs.Responses.{canonical_response}
use Rattle.spdm_grammar.specs.declared.messages.error_code.ErrorCode.{ErrorCode}
use Rattle.spdm_machine.specs.Terms.{hash_len}
use Rattle.responder_machine.specs.Answer.{Free, answer_of, answer_bytes, request_at}
use Rattle.responder_machine.specs.Handling.{chunk_in, effect_of, goes_large, handle_for, large_response, request_effect, request_reply, sent_for, turn_by, turn_of}
use Rattle.responder_machine.specs.Place.{Place, place_terms}
use Rattle.responder_machine.specs.Refusal.{refusal, refused_form, refused_contents, tests_of_form, tests_of_contents, lacks_flag, are_caps_refused, is_offer_refused, has_no_block, is_exchange_refused, is_verify_wrong, is_update_misplaced, is_too_large, chunk_fault, is_get_refused, is_answer_too_long, code_of, limit_of, is_known, needs_session, is_chunk_in_session, is_misplaced, is_allowed, version_for}
use Rattle.responder_machine.specs.Setup.{RspSetup}
use Rattle.responder_machine.specs.Turn.{Turn}
use Rattle.responder_machine.specs.Turn.Effect.{Took}
use Rattle.spdm_grammar.specs.declared.names.request_code.TheConstants.{PSK_EXCHANGE}
use Rattle.spdm_agreement.proofs.Responder.Negotiation.{answered}

-- The turn of a request that is taken and answered at once.
abbrev pub taken_turn : RspSetup → Place → List ℕ → Free → RequestMessage → Turn
taken_turn r p m f v = record { message = m; refused = None; chunk = None; effect = Took v m (canonical_response (answer_of r p m f v)) None; reply = canonical_response (answer_of r p m f v) }

-- A turn by the request, its answer and whether that is too large for one message.
abbrev pub turn_with : List ℕ → Free → Option RequestMessage → List ℕ → Bool → Turn
turn_with m f asked answer large = record {
  message = m;
  refused = None;
  chunk = None;
  effect = effect_of asked m answer (if large then Some f.handle else None);
  reply = if large then large_response f.handle else answer;
}

pub taken_somehow : (r : RspSetup) (p : Place) (m : List ℕ) (f : Free) (v : RequestMessage) → request_at p m ≡ Some v → chunk_in (Some v) ≡ None → refusal r p m f ≡ None
    → turn_of r p m f ≡ turn_with m f (Some v) (canonical_response (answer_of r p m f v)) (goes_large p (canonical_response (answer_of r p m f v)))
unfolding turn_of
taken_somehow r p m f v is single taken =
    ap (λ (o : Option ErrorCode). turn_by r p m f o (chunk_in (request_at p m))) taken
    ∙ ap (λ (o : Option RequestMessage). turn_by r p m f None (chunk_in o)) is
    ∙ ap (λ (o : Option ChunkMessage). turn_by r p m f None o) single
    ∙ ap (λ (o : Option RequestMessage). turn_with m f o (answer_bytes r p m f) (goes_large p (answer_bytes r p m f))) is
    ∙ ap (λ (answer : List ℕ). turn_with m f (Some v) answer (goes_large p answer)) (answered r p m f v is)

pub plainly_taken : (r : RspSetup) (p : Place) (m : List ℕ) (f : Free) (v : RequestMessage) → request_at p m ≡ Some v → chunk_in (Some v) ≡ None → refusal r p m f ≡ None
    → goes_large p (canonical_response (answer_of r p m f v)) ≡ false → turn_of r p m f ≡ taken_turn r p m f v
plainly_taken r p m f v is single taken small =
    taken_somehow r p m f v is single taken ∙ ap (λ (large : Bool). turn_with m f (Some v) (canonical_response (answer_of r p m f v)) large) small

-- What a request has for its effect and its reply, wherever it stood.
pub effect_so : (r : RspSetup) (p : Place) (m : List ℕ) (f : Free) (v : RequestMessage) (large : Bool) → request_at p m ≡ Some v → goes_large p (canonical_response (answer_of r p m f v)) ≡ large
    → request_effect r p m f ≡ Took v m (canonical_response (answer_of r p m f v)) (if large then Some f.handle else None)
effect_so r p m f v large is goes =
    ap (λ (o : Option RequestMessage). effect_of o m (answer_bytes r p m f) (handle_for p f (answer_bytes r p m f))) is
    ∙ ap (λ (answer : List ℕ). Took v m answer (handle_for p f answer)) (answered r p m f v is)
    ∙ ap (λ (b : Bool). Took v m (canonical_response (answer_of r p m f v)) (if b then Some f.handle else None)) goes

pub reply_so : (r : RspSetup) (p : Place) (m : List ℕ) (f : Free) (v : RequestMessage) (large : Bool) → request_at p m ≡ Some v → goes_large p (canonical_response (answer_of r p m f v)) ≡ large
    → request_reply r p m f ≡ (if large then large_response f.handle else canonical_response (answer_of r p m f v))
reply_so r p m f v large is goes =
    ap (λ (answer : List ℕ). sent_for p f answer) (answered r p m f v is)
    ∙ ap (λ (b : Bool). if b then large_response f.handle else canonical_response (answer_of r p m f v)) goes

-- ---- No test holds.

abbrev pub AreFalse : List (Bool × ErrorCode) → Type 0
AreFalse [] = Unit {0}
AreFalse (t ∷ ts) = (t.0 ≡ false) × AreFalse ts

skips : (b : Bool) (e : ErrorCode) (rest : Option ErrorCode) → b ≡ false → rest ≡ None → (if b then Some e else rest) ≡ None
skips b e rest is none = rw is none

none_of : (ts : List (Bool × ErrorCode)) → AreFalse ts → first_of_tests ts ≡ None
none_of [] k = refl
none_of (t ∷ ts) k = skips t.0 t.1 (first_of_tests ts) k.0 (none_of ts k.1)

pub not_refused : (r : RspSetup) (p : Place) (m : List ℕ) (f : Free) → AreFalse (tests_of_form r p m) → AreFalse (tests_of_contents r p m f) → refusal r p m f ≡ None
unfolding refusal refused_form refused_contents
not_refused r p m f form contents =
    ap (λ (o : Option ErrorCode). option_or o (first_of_tests (tests_of_contents r p m f))) (none_of (tests_of_form r p m) form)
    ∙ none_of (tests_of_contents r p m f) contents

-- What a message passes as the request that it is.
pub record PassesForm (r : RspSetup) (p : Place) (m : List ℕ) : Type 0 where
  pub long : nat_lt (length m) 4 ≡ false
  pub short : nat_lt (limit_of r p.at) (length m) ≡ false
  pub known : is_known (code_of m) ≡ true
  pub outside : needs_session p.at (code_of m) ≡ false
  pub whole : is_chunk_in_session p.at (code_of m) ≡ false
  pub placed : is_misplaced p.at (code_of m) ≡ false
  pub allowed : is_allowed p.at p (code_of m) ≡ true
  pub version : (slice_index m 0 == version_for (code_of m)) ≡ true

pub form_passed : (r : RspSetup) (p : Place) (m : List ℕ) (v : RequestMessage) → request_at p m ≡ Some v → PassesForm r p m → AreFalse (tests_of_form r p m)
form_passed r p m v is k = (k.long, (k.short, (ap not k.known, (k.outside, (k.whole, (k.placed, (ap not k.allowed, (ap not k.version, (ap is_none is, tt)))))))))

pub record PassesContents (r : RspSetup) (p : Place) (m : List ℕ) (f : Free) (v : RequestMessage) : Type 0 where
  pub flags : lacks_flag (place_terms p) (code_of m) ≡ false
  pub caps : are_caps_refused r (Some v) ≡ false
  pub offer : is_offer_refused r (Some v) ≡ false
  pub block : has_no_block r (Some v) ≡ false
  pub exchange : is_exchange_refused r p (Some v) ≡ false
  pub verify : is_verify_wrong r p m (Some v) ≡ false
  pub update : is_update_misplaced p (Some v) ≡ false
  pub chunk : chunk_fault r p (Some v) ≡ None
  pub get : is_get_refused p (Some v) ≡ false
  pub fits : is_answer_too_long p (canonical_response (answer_of r p m f v)) ≡ false
  pub limit : (code_of m == PSK_EXCHANGE && p.past_handshake == 4) ≡ false

pub contents_passed : (r : RspSetup) (p : Place) (m : List ℕ) (f : Free) (v : RequestMessage) → request_at p m ≡ Some v → PassesContents r p m f v → AreFalse (tests_of_contents r p m f)
contents_passed r p m f v is k = (
  k.flags,
  (
    ap (are_caps_refused r) is ∙ k.caps,
    (
      ap (is_offer_refused r) is ∙ k.offer,
      (
        ap (has_no_block r) is ∙ k.block,
        (
          ap (is_exchange_refused r p) is ∙ k.exchange,
          (
            ap (is_verify_wrong r p m) is ∙ k.verify,
            (
              ap (is_update_misplaced p) is ∙ k.update,
              (
                ap (λ (o : Option RequestMessage). is_too_large (chunk_fault r p o)) is ∙ ap is_too_large k.chunk,
                (
                  ap (λ (o : Option RequestMessage). is_some (chunk_fault r p o)) is ∙ ap is_some k.chunk,
                  (
                    ap (is_get_refused p) is ∙ k.get,
                    (
                      ap (is_answer_too_long p) (answered r p m f v is) ∙ k.fits,
                      (k.limit, tt),
                    ),
                  ),
                ),
              ),
            ),
          ),
        ),
      ),
    ),
  ),
)

-- ---- An own request is read at every place.

pub read_at : (p : Place) (v : RequestMessage) → FitsRequest v → IsSoundRequest (hash_len (place_terms p)) v → request_at p (canonical_request v) ≡ Some v
read_at p v fits sound = (read_iff (request_layout (hash_len (place_terms p))) v (canonical_request v)).1 (request_spelled (hash_len (place_terms p)) v fits sound).is

-- A request that passes all tests is taken.
pub taken_at : (r : RspSetup) (p : Place) (m : List ℕ) (f : Free) (v : RequestMessage) → request_at p m ≡ Some v → chunk_in (Some v) ≡ None → PassesForm r p m → PassesContents r p m f v
    → goes_large p (canonical_response (answer_of r p m f v)) ≡ false → turn_of r p m f ≡ taken_turn r p m f v
taken_at r p m f v is single form contents small = plainly_taken r p m f v is single (not_refused r p m f (form_passed r p m v is form) (contents_passed r p m f v is contents)) small
