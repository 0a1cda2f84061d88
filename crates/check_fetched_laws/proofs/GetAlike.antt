-- CHUNK_GET at two places that differ in the bytes of the large response that is pending there: it is refused alike,
-- and answered alike where the chunk is the same.
use Rattle.std.proofs.Common.{◌≡◌, ◌≢◌, ◌≤◌, ◌+◌, ◌==◌, ◌&&◌, ◌||◌, ℕ, List, [], ◌∷◌, refl, sym, ap, ◌∙◌, subst, length, Bool, true, false, Option, Some, None, is_some, is_none, cond, arith}
use Rattle.std.specs.Prelude.{not, nat_lt, slice_index, unwrap_or}
use Rattle.std.specs.Int.{div_ceil}
use Rattle.std.specs.Option.{option_or}
use Rattle.std.specs.Result.{result_ok}
use Rattle.std.proofs.Math.Bool.{and-false}
use Rattle.std.proofs.lemmas.Bool.{false≢true, le-ltb}
use Rattle.std.proofs.lemmas.Option.{none-some, same_Some}
use Rattle.chunking.specs.Cutting.{chunk_count, nth_chunk, unit_of}
use Rattle.negotiate.specs.Capabilities.{common_of}
use Rattle.negotiate.specs.declared.shared.Common.{Common}
use Rattle.spdm_basis.specs.Tests.{first_of_tests}
use Rattle.spdm_grammar.specs.ErrorNumber.{error_number}
use Rattle.spdm_grammar.specs.Message.{ChunkMessage, RequestMessage}
use Rattle.spdm_grammar.specs.Message.RequestMessage.{ChunkGet}
use Rattle.spdm_grammar.specs.Message.ResponseMessage.{ChunkResponse, Error}
use Rattle.spdm_grammar.specs.Responses.{canonical_response}
use Rattle.spdm_grammar.specs.declared.messages.capabilities.Caps.{Caps}
use Rattle.spdm_grammar.specs.declared.messages.error_code.ErrorCode.{ErrorCode}
use Rattle.spdm_grammar.specs.declared.messages.error_code.ErrorCode.TheVariants.{InvalidRequest, UnexpectedRequest, Unspecified, DecryptError, UnsupportedRequest, SessionLimitExceeded, SessionRequired, ResponseTooLarge, RequestTooLarge, LargeResponse, VersionMismatch}
use Rattle.spdm_grammar.specs.declared.names.request_code.TheConstants.{CHUNK_GET, PSK_EXCHANGE}
use Rattle.spdm_grammar.specs.declared.told.phase.Phase.{Phase}
use Rattle.spdm_machine.specs.Terms.{asked_caps, common_from, no_common, request_value, response_value, terms_of, told_caps}
use Rattle.transcript.specs.Transcripts.{Negotiation}
use Rattle.responder_machine.specs.Answer.{Free, answer_bytes, answer_to, request_at}
use Rattle.responder_machine.specs.Handling.{chunk_in, detail_of, effect_of, error_bytes, extended_of, goes_large, large_response, plain_turn, refused_turn, turn_by, turn_of, version_in}
use Rattle.responder_machine.specs.LargeMessages.{given_of, handle_of, large_of, pending_of, still_pending}
use Rattle.responder_machine.specs.Place.{Place, Where, place_terms}
use Rattle.responder_machine.specs.Place.Where.{InClear, InChunks, InSession}
use Rattle.responder_machine.specs.Refusal.{are_caps_refused, bytes_round, chunk_fault, code_of, has_no_block, has_pending, is_allowed, is_answer_too_long, is_chunk_in_session, is_exchange_refused, is_get_refused, is_known, is_misplaced, is_offer_refused, is_too_large, is_update_misplaced, is_verify_wrong, lacks_flag, limit_of, needs_session, phase_allows, refusal, refused_contents, refused_form, sizes_are_known, stage_allows, tests_of_form, version_for}
use Rattle.responder_machine.specs.Session.{stage_of}
use Rattle.responder_machine.specs.Setup.{RspSetup}
use Rattle.responder_machine.specs.Turn.{Turn, takes}
use Rattle.responder_machine.proofs.Codes.{asked-code}
use Rattle.responder_machine.proofs.Sizes.{IsSized, common_sized}
use Rattle.capture_machine.proofs.GetTells.{IsGet, transfer_of}
use Rattle.capture_machine.proofs.SmallGets.{get_fits}

-- All that CHUNK_GET goes by, but for the bytes.
pub record PlacesAlike (p o : Place) : Type 0 where
  pub at : p.at ≡ o.at
  pub phase : p.phase ≡ o.phase
  pub stage : stage_of p.events ≡ stage_of o.events
  pub common : (place_terms p).common ≡ (place_terms o).common
  pub pending : has_pending p ≡ has_pending o
  pub handle : handle_of p.turns ≡ handle_of o.turns
  pub given : given_of p.turns ≡ given_of o.turns

-- ---- Sizes.

settled_sized : (o : Option Common) → ((common : Common) → o ≡ Some common → IsSized common) → (unwrap_or o no_common).chunk ≡ true → IsSized (unwrap_or o no_common)
settled_sized None all is = absurd (false≢true is)
settled_sized (Some common) all is = all common refl

from_sized : (a b : Option Caps) → (common_from a b).chunk ≡ true → IsSized (common_from a b)
from_sized (Some caps) (Some told) is = settled_sized (result_ok (common_of caps told)) (common_sized caps told) is
from_sized (Some caps) None is = absurd (false≢true is)
from_sized None b is = absurd (false≢true is)

-- Where chunks are in common, the sizes are large enough.
sized : (n : Negotiation) → (terms_of n).common.chunk ≡ true → IsSized (terms_of n).common
unfolding terms_of
sized n is = from_sized (asked_caps (request_value n.get_capabilities)) (told_caps (response_value n.capabilities)) is

-- ---- The form.

allowed_same : (x : Where) (p o : Place) (c : ℕ) → PlacesAlike p o → is_allowed x p c ≡ is_allowed x o c
allowed_same InClear p o c a = ap (λ (y : Phase). phase_allows y (has_pending p) c) a.phase ∙ ap (λ (b : Bool). phase_allows o.phase b c) a.pending
allowed_same InChunks p o c a = ap (λ (y : Phase). phase_allows y (has_pending p) c) a.phase ∙ ap (λ (b : Bool). phase_allows o.phase b c) a.pending
allowed_same InSession p o c a = ap (λ y. stage_allows y (has_pending p) c) a.stage ∙ ap (λ (b : Bool). stage_allows (stage_of o.events) b c) a.pending

abbrev form_with : RspSetup → List ℕ → Where → Bool → Option RequestMessage → List (Bool × ErrorCode)
form_with r m at allows q =
    (nat_lt (length m) 4, InvalidRequest)
    ∷ (nat_lt (limit_of r at) (length m), RequestTooLarge)
    ∷ (not (is_known (code_of m)), UnsupportedRequest)
    ∷ (needs_session at (code_of m), SessionRequired)
    ∷ (is_chunk_in_session at (code_of m), UnsupportedRequest)
    ∷ (is_misplaced at (code_of m), UnexpectedRequest)
    ∷ (not allows, UnexpectedRequest)
    ∷ (not (slice_index m 0 == version_for (code_of m)), VersionMismatch)
    ∷ (is_none q, InvalidRequest)
    ∷ []

pub form_same : (r : RspSetup) (p o : Place) (m : List ℕ) → PlacesAlike p o → request_at p m ≡ request_at o m → refused_form r p m ≡ refused_form r o m
unfolding refused_form
form_same r p o m a asked =
    ap (λ (x : Where). first_of_tests (form_with r m x (is_allowed x p (code_of m)) (request_at p m))) a.at
    ∙ ap (λ (b : Bool). first_of_tests (form_with r m o.at b (request_at p m))) (allowed_same o.at p o (code_of m) a)
    ∙ ap (λ (q : Option RequestMessage). first_of_tests (form_with r m o.at (is_allowed o.at o (code_of m)) q)) asked

-- None of its codes is ResponseTooLarge.
abbrev pub AreOther : List (Bool × ErrorCode) → Type 0
AreOther [] = Unit {0}
AreOther (t ∷ ts) = (t.1 ≢ ResponseTooLarge) × AreOther ts

other_by : (b : Bool) (x e : ErrorCode) (rest : Option ErrorCode) → x ≢ ResponseTooLarge → (rest ≡ Some e → e ≢ ResponseTooLarge) → cond b (Some x) rest ≡ Some e → e ≢ ResponseTooLarge
other_by true x e rest here later is = λ same. here (same_Some x e is ∙ same)
other_by false x e rest here later is = later is

pub other_code : (ts : List (Bool × ErrorCode)) (e : ErrorCode) → AreOther ts → first_of_tests ts ≡ Some e → e ≢ ResponseTooLarge
other_code [] e all is = absurd (none-some e is)
other_code (t ∷ ts) e all is = other_by t.0 t.1 e (first_of_tests ts) all.0 (other_code ts e all.1) is

pub form_other : (r : RspSetup) (p : Place) (m : List ℕ) (e : ErrorCode) → refused_form r p m ≡ Some e → e ≢ ResponseTooLarge
unfolding refused_form
form_other r p m e is =
    other_code (tests_of_form r p m) e
    (λ s. absurd (cc), (λ s. absurd (cc), (λ s. absurd (cc), (λ s. absurd (cc), (λ s. absurd (cc), (λ s. absurd (cc), (λ s. absurd (cc), (λ s. absurd (cc), (λ s. absurd (cc), tt))))))))) is

-- ---- What is sent at both.

-- ERROR tells the answer with one code alone.
extended_same : (e : ErrorCode) (one other : List ℕ) → e ≢ ResponseTooLarge → extended_of e one ≡ extended_of e other
extended_same InvalidRequest one other not = refl
extended_same UnexpectedRequest one other not = refl
extended_same Unspecified one other not = refl
extended_same DecryptError one other not = refl
extended_same UnsupportedRequest one other not = refl
extended_same SessionLimitExceeded one other not = refl
extended_same SessionRequired one other not = refl
extended_same ResponseTooLarge one other not = absurd (not refl)
extended_same RequestTooLarge one other not = refl
extended_same LargeResponse one other not = refl
extended_same VersionMismatch one other not = refl

module _ (r : RspSetup) (m : List ℕ) (p o : Place) (f k : Free) (a : PlacesAlike p o) where
  error_by : (e : ErrorCode) → extended_of e (answer_bytes r p m f) ≡ extended_of e (answer_bytes r o m k) → error_bytes r p m f e ≡ error_bytes r o m k e
  error_by e same =
      ap (λ (x : Phase). canonical_response (Error (version_in x) (error_number e) (detail_of e (code_of m)) (extended_of e (answer_bytes r p m f)))) a.phase
      ∙ ap (λ (l : List ℕ). canonical_response (Error (version_in o.phase) (error_number e) (detail_of e (code_of m)) l)) same

  refused_by : (e : ErrorCode) → extended_of e (answer_bytes r p m f) ≡ extended_of e (answer_bytes r o m k) → refused_turn r p m f e ≡ refused_turn r o m k e
  refused_by e same = ap (λ (l : List ℕ). record { message = m; refused = Some e; chunk = None; effect = (refused_turn r p m f e).effect; reply = l }) (error_by e same)

  pub refused_alike : (e : ErrorCode) → e ≢ ResponseTooLarge → refused_turn r p m f e ≡ refused_turn r o m k e
  refused_alike e not = refused_by e (extended_same e (answer_bytes r p m f) (answer_bytes r o m k) not)

  pub refused_same : (e : ErrorCode) → answer_bytes r p m f ≡ answer_bytes r o m k → refused_turn r p m f e ≡ refused_turn r o m k e
  refused_same e bytes = refused_by e (ap (extended_of e) bytes)

  pub large_same : (answer : List ℕ) → goes_large p answer ≡ goes_large o answer
  large_same answer =
      ap (λ (x : Phase). sizes_are_known x && nat_lt (place_terms p).common.to_requester.transfer (bytes_round p.at + length answer)) a.phase
      ∙ ap (λ (c : Common). sizes_are_known o.phase && nat_lt c.to_requester.transfer (bytes_round p.at + length answer)) a.common
      ∙ ap (λ (x : Where). sizes_are_known o.phase && nat_lt (place_terms o).common.to_requester.transfer (bytes_round x + length answer)) a.at

  pub long_same : (answer : List ℕ) → is_answer_too_long p answer ≡ is_answer_too_long o answer
  long_same answer =
      ap (λ (x : Phase). sizes_are_known x && (nat_lt (place_terms p).common.to_requester.max (length answer) || (not (place_terms p).common.chunk && nat_lt (place_terms p).common.to_requester.transfer (bytes_round p.at + length answer)))) a.phase
      ∙ ap (λ (c : Common). sizes_are_known o.phase && (nat_lt c.to_requester.max (length answer) || (not c.chunk && nat_lt c.to_requester.transfer (bytes_round p.at + length answer)))) a.common
      ∙ ap (λ (x : Where). sizes_are_known o.phase && (nat_lt (place_terms o).common.to_requester.max (length answer) || (not (place_terms o).common.chunk && nat_lt (place_terms o).common.to_requester.transfer (bytes_round x + length answer)))) a.at

  pub plain_same : request_at p m ≡ request_at o m → answer_bytes r p m f ≡ answer_bytes r o m k → f.handle ≡ k.handle → plain_turn r p m f ≡ plain_turn r o m k
  plain_same reads bytes handles =
      let at : Option RequestMessage → List ℕ → Bool → ℕ → Turn =
      λ q l b n. record { message = m; refused = None; chunk = None; effect = effect_of q m l (cond b (Some n) None); reply = cond b (large_response n) l } in
      ap (λ (q : Option RequestMessage). at q (answer_bytes r p m f) (goes_large p (answer_bytes r p m f)) f.handle) reads
      ∙ ap (λ (l : List ℕ). at (request_at o m) l (goes_large p l) f.handle) bytes
      ∙ ap (λ (b : Bool). at (request_at o m) (answer_bytes r o m k) b f.handle) (large_same (answer_bytes r o m k))
      ∙ ap (at (request_at o m) (answer_bytes r o m k) (goes_large o (answer_bytes r o m k))) handles

-- ---- The contents.

abbrev pub get_tests : (lacks refused long last : Bool) → List (Bool × ErrorCode)
get_tests lacks refused long last =
    (lacks, UnsupportedRequest)
    ∷ (false, InvalidRequest)
    ∷ (false, InvalidRequest)
    ∷ (false, InvalidRequest)
    ∷ (false, InvalidRequest)
    ∷ (false, DecryptError)
    ∷ (false, UnexpectedRequest)
    ∷ (false, RequestTooLarge)
    ∷ (false, InvalidRequest)
    ∷ (refused, InvalidRequest)
    ∷ (long, ResponseTooLarge)
    ∷ (last, SessionLimitExceeded)
    ∷ []

-- With which code it is refused, by whether chunks are in common and whether it asks for the next one.
abbrev pub get_code : (chunk refused : Bool) → Option ErrorCode
get_code true refused = cond refused (Some InvalidRequest) None
get_code false refused = Some UnsupportedRequest

module _ (r : RspSetup) (m : List ℕ) (handle number : ℕ) where
  module _ (p : Place) (f : Free) (is : request_at p m ≡ Some (ChunkGet handle number)) where
    abbrev whole : List ℕ
    whole = unwrap_or (pending_of (place_terms p).common.to_requester.transfer p.turns) []

    pub answer_is : answer_bytes r p m f ≡ canonical_response (ChunkResponse (nth_chunk (place_terms p).common.to_requester.transfer handle whole number))
    unfolding answer_bytes
    answer_is = ap (answer_to r p m f) is

    pub fits : (place_terms p).common.chunk ≡ true → length (answer_bytes r p m f) ≤ (place_terms p).common.to_requester.transfer
    fits chunk =
        subst (λ (l : List ℕ). length l ≤ (place_terms p).common.to_requester.transfer) (sym answer_is) (get_fits (place_terms p).common.to_requester.transfer handle number whole (sized p.negotiation chunk).0)

    not_long : (place_terms p).common.chunk ≡ true → is_answer_too_long p (answer_bytes r p m f) ≡ false
    not_long chunk =
        let n : ℕ = length (answer_bytes r p m f) in
        let size = fits chunk in
        let most : nat_lt (place_terms p).common.to_requester.max n ≡ false = le-ltb _ n (let e = sized p.negotiation chunk in omega (arith, e, size)) in
        let less : Bool = nat_lt (place_terms p).common.to_requester.transfer (bytes_round p.at + n) in
        ap (λ (b : Bool). sizes_are_known p.phase && (b || (not (place_terms p).common.chunk && less))) most
        ∙ ap (λ (b : Bool). sizes_are_known p.phase && (not b && less)) chunk ∙ and-false (sizes_are_known p.phase)

    code : code_of m ≡ CHUNK_GET
    code = sym (asked-code p m (ChunkGet handle number) is)

    contents_are : refused_contents r p m f ≡ first_of_tests (get_tests ((not (place_terms p).common.chunk || false) || false) (is_get_refused p (Some (ChunkGet handle number))) (is_answer_too_long p (answer_bytes r p m f)) false)
    unfolding refused_contents
    contents_are =
        ap (λ (q : Option RequestMessage). first_of_tests (
        (lacks_flag (place_terms p) (code_of m), UnsupportedRequest)
        ∷ (are_caps_refused r q, InvalidRequest)
        ∷ (is_offer_refused r q, InvalidRequest)
        ∷ (has_no_block r q, InvalidRequest)
        ∷ (is_exchange_refused r p q, InvalidRequest)
        ∷ (is_verify_wrong r p m q, DecryptError)
        ∷ (is_update_misplaced p q, UnexpectedRequest)
        ∷ (is_too_large (chunk_fault r p q), RequestTooLarge)
        ∷ (is_some (chunk_fault r p q), InvalidRequest)
        ∷ (is_get_refused p q, InvalidRequest)
        ∷ (is_answer_too_long p (answer_bytes r p m f), ResponseTooLarge)
        ∷ (code_of m == PSK_EXCHANGE && p.past_handshake == 4, SessionLimitExceeded)
        ∷ [])) is
        ∙ ap (λ (n : ℕ). first_of_tests (get_tests (lacks_flag (place_terms p) n) (is_get_refused p (Some (ChunkGet handle number))) (is_answer_too_long p (answer_bytes r p m f)) (n == PSK_EXCHANGE && p.past_handshake == 4))) code

    pub contents_is : refused_contents r p m f ≡ get_code (place_terms p).common.chunk (is_get_refused p (Some (ChunkGet handle number)))
    contents_is = contents_are ∙ by_chunk (place_terms p).common.chunk refl
      where
        by_chunk : (b : Bool) → (place_terms p).common.chunk ≡ b
            → first_of_tests (get_tests ((not (place_terms p).common.chunk || false) || false) (is_get_refused p (Some (ChunkGet handle number))) (is_answer_too_long p (answer_bytes r p m f)) false)
            ≡ get_code (place_terms p).common.chunk (is_get_refused p (Some (ChunkGet handle number)))
        by_chunk true chunk =
            let refused : Bool = is_get_refused p (Some (ChunkGet handle number)) in
            ap (λ (b : Bool). first_of_tests (get_tests ((not b || false) || false) refused (is_answer_too_long p (answer_bytes r p m f)) false)) chunk
            ∙ ap (λ (b : Bool). first_of_tests (get_tests false refused b false)) (not_long chunk)
            ∙ sym (ap (λ (b : Bool). get_code b refused) chunk)
        by_chunk false chunk =
            let refused : Bool = is_get_refused p (Some (ChunkGet handle number)) in
            ap (λ (b : Bool). first_of_tests (get_tests ((not b || false) || false) refused (is_answer_too_long p (answer_bytes r p m f)) false)) chunk
            ∙ sym (ap (λ (b : Bool). get_code b refused) chunk)

    contents_other : (e : ErrorCode) → refused_contents r p m f ≡ Some e → e ≢ ResponseTooLarge
    contents_other e refused = by_code (place_terms p).common.chunk (is_get_refused p (Some (ChunkGet handle number))) (sym contents_is ∙ refused)
      where
        by_code : (b c : Bool) → get_code b c ≡ Some e → e ≢ ResponseTooLarge
        by_code true true same = λ x. absurd (let one : InvalidRequest ≡ e = same_Some InvalidRequest e same in cc)
        by_code true false same = absurd (none-some e same)
        by_code false c same = λ x. absurd (let one : UnsupportedRequest ≡ e = same_Some UnsupportedRequest e same in cc)

    refusal_other : (e : ErrorCode) → refusal r p m f ≡ Some e → e ≢ ResponseTooLarge
    unfolding refusal
    refusal_other e refused = by_form (refused_form r p m) refl refused
      where
        by_form : (x : Option ErrorCode) → refused_form r p m ≡ x → option_or x (refused_contents r p m f) ≡ Some e → e ≢ ResponseTooLarge
        by_form (Some c) form same = form_other r p m e (form ∙ same)
        by_form None form same = contents_other e same

  -- ---- Both places.

  module _ (p o : Place) (f k : Free) (a : PlacesAlike p o) (asked : request_at p m ≡ Some (ChunkGet handle number)) (asks : request_at o m ≡ Some (ChunkGet handle number)) where
    get_refused_same : is_get_refused p (Some (ChunkGet handle number)) ≡ is_get_refused o (Some (ChunkGet handle number))
    get_refused_same =
        ap (λ (n : ℕ). not (handle == n) || not (number == given_of p.turns)) a.handle ∙ ap (λ (n : ℕ). not (handle == handle_of o.turns) || not (number == n)) a.given

    refusal_same : refusal r p m f ≡ refusal r o m k
    unfolding refusal
    refusal_same =
        ap (λ (x : Option ErrorCode). option_or x (refused_contents r p m f)) (form_same r p o m a (asked ∙ sym asks))
        ∙ ap (option_or (refused_form r o m)) (
        contents_is p f asked ∙ ap (λ (c : Common). get_code c.chunk (is_get_refused p (Some (ChunkGet handle number)))) a.common
        ∙ ap (get_code (place_terms o).common.chunk) get_refused_same ∙ sym (contents_is o k asks))

    turn_is : (q : Place) (v : Free) (x : Option ErrorCode) → request_at q m ≡ Some (ChunkGet handle number) → refusal r q m v ≡ x → turn_of r q m v ≡ turn_by r q m v x None
    unfolding turn_of
    turn_is q v x reads none = ap (λ (y : Option ErrorCode). turn_by r q m v y (chunk_in (request_at q m))) none ∙ ap (λ (y : Option RequestMessage). turn_by r q m v x (chunk_in y)) reads

    takes_plain : takes CHUNK_GET (plain_turn r p m f) ≡ true
    takes_plain = ap (λ (q : Option RequestMessage). takes CHUNK_GET (record (plain_turn r p m f) { effect = effect_of q m (answer_bytes r p m f) (cond (goes_large p (answer_bytes r p m f)) (Some f.handle) None) })) asked

    -- It leads to the same, unless it gives a chunk that differs.
    pub turns_same : (takes CHUNK_GET (turn_of r p m f) ≡ true → answer_bytes r p m f ≡ answer_bytes r o m k) → f.handle ≡ k.handle → turn_of r p m f ≡ turn_of r o m k
    turns_same bytes handles = by_refusal (refusal r p m f) refl
      where
        by_refusal : (x : Option ErrorCode) → refusal r p m f ≡ x → turn_of r p m f ≡ turn_of r o m k
        by_refusal (Some e) is =
            turn_is p f (Some e) asked is ∙ refused_alike r m p o f k a e (refusal_other p f asked e is) ∙ sym (turn_is o k (Some e) asks (sym refusal_same ∙ is))
        by_refusal None is =
            let here = turn_is p f None asked is in
            here ∙ plain_same r m p o f k a (asked ∙ sym asks) (bytes (ap (takes CHUNK_GET) here ∙ takes_plain)) handles ∙ sym (turn_is o k None asks (sym refusal_same ∙ is))

-- ---- The chunk.

-- Bytes of one length give the same chunk where its bytes are the same.
pub chunks_same : (transfer handle number : ℕ) (w v : List ℕ) → length w ≡ length v → (nth_chunk transfer 0 w number).chunk ≡ (nth_chunk transfer 0 v number).chunk → nth_chunk transfer handle w number ≡ nth_chunk transfer handle v number
chunks_same transfer handle number w v size chunk =
    let at : ℕ → List ℕ → ChunkMessage = λ n l. record {
      last = number + 1 == div_ceil (n + 4) (unit_of transfer);
      handle = handle;
      number = number;
      large = cond (number == 0) (Some n) None;
      chunk = l;
    } in
    ap (λ (n : ℕ). at n (nth_chunk transfer 0 w number).chunk) size ∙ ap (at (length v)) chunk

pub pending_is : (p : Place) (w : List ℕ) → large_of p.turns ≡ Some w → nat_lt (given_of p.turns) (chunk_count (transfer_of p) w) ≡ true → pending_of (transfer_of p) p.turns ≡ Some w
pending_is p w large more = ap (still_pending (transfer_of p) (given_of p.turns)) large ∙ ap (λ (b : Bool). cond b (Some w) None) more

module _ (r : RspSetup) (m : List ℕ) (p o : Place) (f k : Free) (t : Turn) (w v : List ℕ) (a : PlacesAlike p o) (get : IsGet p m t) (large : large_of p.turns ≡ Some w) (other : large_of o.turns ≡ Some v) (size : length w ≡ length v)
    (chunk : (nth_chunk (transfer_of p) 0 w (given_of p.turns)).chunk ≡ (nth_chunk (transfer_of o) 0 v (given_of o.turns)).chunk) (reads : request_at p m ≡ request_at o m) where
  transfers : transfer_of p ≡ transfer_of o
  transfers = ap (λ (c : Common). c.to_requester.transfer) a.common

  more : nat_lt (given_of p.turns) (chunk_count (transfer_of p) w) ≡ true
  more = ap (λ (l : List ℕ). nat_lt (given_of p.turns) (chunk_count (transfer_of p) l)) (same_Some w get.whole (sym large ∙ get.large)) ∙ get.more

  more_other : nat_lt (given_of o.turns) (chunk_count (transfer_of o) v) ≡ true
  more_other =
      ap (λ (n : ℕ). nat_lt n (chunk_count (transfer_of o) v)) (sym a.given)
      ∙ ap (λ (n : ℕ). nat_lt (given_of p.turns) (div_ceil (length v + 4) (unit_of n))) (sym transfers)
      ∙ ap (λ (n : ℕ). nat_lt (given_of p.turns) (div_ceil (n + 4) (unit_of (transfer_of p)))) (sym size) ∙ more

  one : answer_bytes r p m f ≡ canonical_response (ChunkResponse (nth_chunk (transfer_of p) get.handle w (given_of p.turns)))
  one = answer_is r m get.handle (given_of p.turns) p f get.asked
      ∙ ap (λ (x : Option (List ℕ)). canonical_response (ChunkResponse (nth_chunk (transfer_of p) get.handle (unwrap_or x []) (given_of p.turns)))) (pending_is p w large more)

  two : answer_bytes r o m k ≡ canonical_response (ChunkResponse (nth_chunk (transfer_of o) get.handle v (given_of p.turns)))
  two = answer_is r m get.handle (given_of p.turns) o k (sym reads ∙ get.asked)
      ∙ ap (λ (x : Option (List ℕ)). canonical_response (ChunkResponse (nth_chunk (transfer_of o) get.handle (unwrap_or x []) (given_of p.turns)))) (pending_is o v other more_other)

  -- The answers are the same.
  pub bytes_same : answer_bytes r p m f ≡ answer_bytes r o m k
  bytes_same =
      let here : (nth_chunk (transfer_of o) 0 w (given_of p.turns)).chunk ≡ (nth_chunk (transfer_of o) 0 v (given_of p.turns)).chunk =
      ap (λ (n : ℕ). (nth_chunk n 0 w (given_of p.turns)).chunk) (sym transfers) ∙ chunk ∙ ap (λ (n : ℕ). (nth_chunk (transfer_of o) 0 v n).chunk) (sym a.given) in
      one ∙ ap (λ (n : ℕ). canonical_response (ChunkResponse (nth_chunk n get.handle w (given_of p.turns)))) transfers
      ∙ ap (λ (c : ChunkMessage). canonical_response (ChunkResponse c)) (chunks_same (transfer_of o) get.handle (given_of p.turns) w v size here) ∙ sym two
