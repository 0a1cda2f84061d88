-- The turn of a message at two places that differ only in the bytes of the large response that is pending.
use Rattle.std.proofs.Common.{◌≡◌, ◌≢◌, ◌+◌, ◌≤◌, ◌&&◌, ◌||◌, ℕ, List, [], refl, sym, ap, ◌∙◌, length, arith, Bool, true, false, Option, Some, None, cond, le-ltb}
use Rattle.std.specs.Prelude.{not, nat_lt, unwrap_or}
use Rattle.std.specs.Result.{result_ok}
use Rattle.std.proofs.Math.Bool.{and-false}
use Rattle.std.proofs.lemmas.Bool.{false≢true}
use Rattle.negotiate.specs.Capabilities.{common_of}
use Rattle.negotiate.specs.declared.shared.Common.{Common}
use Rattle.responder_machine.proofs.Codes.{asked-code}
use Rattle.responder_machine.proofs.Sizes.{IsSized, common_sized}
use Rattle.responder_machine.proofs.Tests.{contents_shown}
use Rattle.responder_machine.specs.Answer.{Free, answer_bytes, answer_to, chunk_answer, request_at}
use Rattle.responder_machine.specs.Handling.{chunk_in, effect_of, error_bytes, extended_of, goes_large, handle_for, large_response, plain_turn, refused_turn, turn_by, turn_of}
use Rattle.responder_machine.specs.LargeMessages.{pending_of}
use Rattle.responder_machine.specs.Place.{Place, Where, place_terms}
use Rattle.responder_machine.specs.Refusal.{bytes_round, code_of, is_answer_too_long, lacks_flag, refusal, sizes_are_known}
use Rattle.responder_machine.specs.Setup.{RspSetup}
use Rattle.responder_machine.specs.Turn.{Turn}
use Rattle.spdm_grammar.specs.Message.{ChunkMessage, RequestMessage}
use Rattle.spdm_grammar.specs.Message.RequestMessage.{ChunkGet}
use Rattle.spdm_grammar.specs.Responses.{canonical_response}
use Rattle.spdm_grammar.specs.declared.messages.capabilities.Caps.{Caps}
use Rattle.spdm_grammar.specs.declared.messages.error_code.ErrorCode.{ErrorCode}
use Rattle.spdm_grammar.specs.declared.messages.error_code.ErrorCode.TheVariants.{InvalidRequest, UnexpectedRequest, Unspecified, DecryptError, UnsupportedRequest, SessionLimitExceeded, SessionRequired, ResponseTooLarge, RequestTooLarge, LargeResponse, VersionMismatch}
use Rattle.spdm_grammar.specs.declared.names.request_code.TheConstants.{CHUNK_GET}
use Rattle.spdm_grammar.specs.declared.told.phase.Phase.{Phase}
use Rattle.spdm_machine.specs.Terms.{asked_caps, common_from, no_common, request_value, response_value, terms_of, told_caps}
use Rattle.capture_machine.proofs.SmallGets.{get_fits}
use Rattle.check_late_laws.proofs.TurnsMoved.{Near, lacked_error, refusal_lacked, refusal_moved, short_error}

-- ---- Sizes.

settled_sized : (o : Option Common) → ((common : Common) → o ≡ Some common → IsSized common) → (unwrap_or o no_common).chunk ≡ true → IsSized (unwrap_or o no_common)
settled_sized None all is = absurd (false≢true is)
settled_sized (Some common) all is = all common refl

from_sized : (a b : Option Caps) → (common_from a b).chunk ≡ true → IsSized (common_from a b)
from_sized (Some caps) (Some told) is = settled_sized (result_ok (common_of caps told)) (common_sized caps told) is
from_sized (Some caps) None is = absurd (false≢true is)
from_sized None b is = absurd (false≢true is)

-- Chunks are in common only where the sizes are large enough.
pub place_sized : (p : Place) → (place_terms p).common.chunk ≡ true → IsSized (place_terms p).common
unfolding terms_of
place_sized p is = from_sized (asked_caps (request_value p.negotiation.get_capabilities)) (told_caps (response_value p.negotiation.capabilities)) is

-- ---- An ERROR.

pub error_moved : (r : RspSetup) (p o : Place) (m : List ℕ) (f k : Free) (e : ErrorCode) → p.phase ≡ o.phase → extended_of e (answer_bytes r p m f) ≡ extended_of e (answer_bytes r o m k) → error_bytes r p m f e ≡ error_bytes r o m k e
error_moved r p o m f k e phase same = cc

pub extended_none : (e : ErrorCode) (a b : List ℕ) → e ≢ ResponseTooLarge → extended_of e a ≡ extended_of e b
extended_none InvalidRequest a b other = refl
extended_none UnexpectedRequest a b other = refl
extended_none Unspecified a b other = refl
extended_none DecryptError a b other = refl
extended_none UnsupportedRequest a b other = refl
extended_none SessionLimitExceeded a b other = refl
extended_none SessionRequired a b other = refl
extended_none ResponseTooLarge a b other = absurd (other refl)
extended_none RequestTooLarge a b other = refl
extended_none LargeResponse a b other = refl
extended_none VersionMismatch a b other = refl

pub refused_same : (r : RspSetup) (p o : Place) (m : List ℕ) (f k : Free) (e : ErrorCode) → error_bytes r p m f e ≡ error_bytes r o m k e → refused_turn r p m f e ≡ refused_turn r o m k e
refused_same r p o m f k e same = ap (λ (l : List ℕ). record (refused_turn r p m f e) { reply = l }) same

-- ---- CHUNK_GET.

not_or : (b : Bool) → ((not b || false) || false) ≡ false → b ≡ true
not_or true e = refl
not_or false e = sym e

module _ (r : RspSetup) (p : Place) (m : List ℕ) (f : Free) (handle number : ℕ) (is : request_at p m ≡ Some (ChunkGet handle number)) where
  answer_is : answer_bytes r p m f ≡ canonical_response (chunk_answer p handle number)
  unfolding answer_bytes
  answer_is = ap (answer_to r p m f) is

  code_is : code_of m ≡ CHUNK_GET
  code_is = sym (asked-code p m (ChunkGet handle number) is)

  chunks_common : lacks_flag (place_terms p) (code_of m) ≡ false → (place_terms p).common.chunk ≡ true
  chunks_common lacks = not_or (place_terms p).common.chunk (ap (lacks_flag (place_terms p)) (sym code_is) ∙ lacks)

  module _ (chunk : (place_terms p).common.chunk ≡ true) where
    abbrev transfer : ℕ
    transfer = (place_terms p).common.to_requester.transfer

    fits : length (answer_bytes r p m f) ≤ transfer
    fits =
        let low = place_sized p chunk in
        let few = get_fits transfer handle number (unwrap_or (pending_of transfer p.turns) []) low.0 in
        let same : length (answer_bytes r p m f) ≡ length (canonical_response (chunk_answer p handle number)) = ap length answer_is in
        omega (arith, few, same)

    brief : is_answer_too_long p (answer_bytes r p m f) ≡ false
    brief =
        let low = place_sized p chunk in
        let most : nat_lt (place_terms p).common.to_requester.max (length (answer_bytes r p m f)) ≡ false = le-ltb (place_terms p).common.to_requester.max (length (answer_bytes r p m f)) (omega (arith, fits, low.1)) in
        ap (λ (b : Bool). sizes_are_known p.phase && (b || (not (place_terms p).common.chunk && nat_lt transfer (bytes_round p.at + length (answer_bytes r p m f))))) most
        ∙ ap (λ (b : Bool). sizes_are_known p.phase && (not b && nat_lt transfer (bytes_round p.at + length (answer_bytes r p m f)))) chunk ∙ and-false (sizes_are_known p.phase)

    small : bytes_round p.at ≡ 0 → goes_large p (answer_bytes r p m f) ≡ false
    small round =
        let less : nat_lt transfer (bytes_round p.at + length (answer_bytes r p m f)) ≡ false = le-ltb transfer (bytes_round p.at + length (answer_bytes r p m f)) (omega (arith, fits, round)) in
        ap (λ (b : Bool). sizes_are_known p.phase && b) less ∙ and-false (sizes_are_known p.phase)

abbrev got : List ℕ → RequestMessage → (answer : List ℕ) → Turn
got m asked answer = record { message = m; refused = None; chunk = None; effect = effect_of (Some asked) m answer None; reply = answer }

plain_got : (r : RspSetup) (p : Place) (m : List ℕ) (f : Free) (asked : RequestMessage) → request_at p m ≡ Some asked → goes_large p (answer_bytes r p m f) ≡ false → plain_turn r p m f ≡ got m asked (answer_bytes r p m f)
plain_got r p m f asked is small =
    let ans : List ℕ = answer_bytes r p m f in
    ap (λ (q : Option RequestMessage). record (plain_turn r p m f) { effect = effect_of q m ans (handle_for p f ans) }) is
    ∙ ap (λ (b : Bool). record { message = m; refused = None; chunk = None; effect = effect_of (Some asked) m ans (cond b (Some f.handle) None); reply = cond b (large_response f.handle) ans }) small

module _ (r : RspSetup) (p o : Place) (m : List ℕ) (f k : Free) (near : Near r p o m) where
  -- The chunk that is asked for is the same, where it is given.
  module _ (handle number : ℕ) (is : request_at p m ≡ Some (ChunkGet handle number)) (round : bytes_round p.at ≡ 0) (same : refusal r p m f ≡ None → chunk_answer p handle number ≡ chunk_answer o handle number) where
    are : request_at o m ≡ Some (ChunkGet handle number)
    are = sym near.asked ∙ is

    refusals : (b : Bool) → lacks_flag (place_terms p) (code_of m) ≡ b → refusal r p m f ≡ refusal r o m k
    refusals true lacks = refusal_lacked r p o m f k near lacks
    refusals false lacks =
        let here = brief r p m f handle number is (chunks_common r p m f handle number is lacks) in
        let there = brief r o m k handle number are (chunks_common r o m k handle number are (sym near.lacks ∙ lacks)) in
        refusal_moved r p o m f k near (here ∙ sym there)

    short : (e : ErrorCode) → refusal r p m f ≡ Some e → (b : Bool) → lacks_flag (place_terms p) (code_of m) ≡ b → e ≢ ResponseTooLarge
    short e refused true lacks = lacked_error r p m f e lacks refused
    short e refused false lacks = short_error r p m f e (brief r p m f handle number is (chunks_common r p m f handle number is lacks)) refused

    taken_same : (b : Bool) → lacks_flag (place_terms p) (code_of m) ≡ b → refusal r p m f ≡ None → plain_turn r p m f ≡ plain_turn r o m k
    taken_same true lacks none = absurd (false≢true (sym (contents_shown r p m f none 0) ∙ lacks))
    taken_same false lacks none =
        let here = chunks_common r p m f handle number is lacks in
        let there = chunks_common r o m k handle number are (sym near.lacks ∙ lacks) in
        plain_got r p m f (ChunkGet handle number) is (small r p m f handle number is here round)
        ∙ ap (got m (ChunkGet handle number)) (answer_is r p m f handle number is ∙ ap canonical_response (same none) ∙ sym (answer_is r o m k handle number are))
        ∙ sym (plain_got r o m k (ChunkGet handle number) are (small r o m k handle number are there (ap bytes_round (sym near.at) ∙ round)))

    by_refusal : (x : Option ErrorCode) → refusal r p m f ≡ x → turn_by r p m f x None ≡ turn_by r o m k x None
    by_refusal (Some e) refused =
        refused_same r p o m f k e (error_moved r p o m f k e near.phase (extended_none e (answer_bytes r p m f) (answer_bytes r o m k) (short e refused (lacks_flag (place_terms p) (code_of m)) refl)))
    by_refusal None none = taken_same (lacks_flag (place_terms p) (code_of m)) refl none

    pub got_moved : turn_of r p m f ≡ turn_of r o m k
    unfolding turn_of
    got_moved =
        ap (λ (q : Option RequestMessage). turn_by r p m f (refusal r p m f) (chunk_in q)) is ∙ by_refusal (refusal r p m f) refl
        ∙ ap (λ (x : Option ErrorCode). turn_by r o m k x None) (refusals (lacks_flag (place_terms p) (code_of m)) refl)
        ∙ sym (ap (λ (q : Option RequestMessage). turn_by r o m k (refusal r o m k) (chunk_in q)) are)

  -- The answer is the same, and it is no chunk that is sent.
  module _ (same : answer_bytes r p m f ≡ answer_bytes r o m k) (free : f.handle ≡ k.handle) where
    abbrev long_by : Bool → Common → ℕ → ℕ → Bool
    long_by known common round n = known && (nat_lt common.to_requester.max n || (not common.chunk && nat_lt common.to_requester.transfer (round + n)))

    long_same : is_answer_too_long p (answer_bytes r p m f) ≡ is_answer_too_long o (answer_bytes r o m k)
    long_same =
        ap (λ (x : Phase). long_by (sizes_are_known x) (place_terms p).common (bytes_round p.at) (length (answer_bytes r p m f))) near.phase
        ∙ ap (λ (c : Common). long_by (sizes_are_known o.phase) c (bytes_round p.at) (length (answer_bytes r p m f))) near.common
        ∙ ap (λ (a : Where). long_by (sizes_are_known o.phase) (place_terms o).common (bytes_round a) (length (answer_bytes r p m f))) near.at
        ∙ ap (λ (l : List ℕ). long_by (sizes_are_known o.phase) (place_terms o).common (bytes_round o.at) (length l)) same

    large_same : goes_large p (answer_bytes r p m f) ≡ goes_large o (answer_bytes r o m k)
    large_same =
        ap (λ (x : Phase). sizes_are_known x && nat_lt (place_terms p).common.to_requester.transfer (bytes_round p.at + length (answer_bytes r p m f))) near.phase
        ∙ ap (λ (c : Common). sizes_are_known o.phase && nat_lt c.to_requester.transfer (bytes_round p.at + length (answer_bytes r p m f))) near.common
        ∙ ap (λ (a : Where). sizes_are_known o.phase && nat_lt (place_terms o).common.to_requester.transfer (bytes_round a + length (answer_bytes r p m f))) near.at
        ∙ ap (λ (l : List ℕ). sizes_are_known o.phase && nat_lt (place_terms o).common.to_requester.transfer (bytes_round o.at + length l)) same

    abbrev taken_with : Option RequestMessage → List ℕ → Bool → ℕ → Turn
    taken_with q answer large handle = record { message = m; refused = None; chunk = None; effect = effect_of q m answer (cond large (Some handle) None); reply = cond large (large_response handle) answer }

    plain_same : plain_turn r p m f ≡ plain_turn r o m k
    plain_same =
        ap (λ (q : Option RequestMessage). taken_with q (answer_bytes r p m f) (goes_large p (answer_bytes r p m f)) f.handle) near.asked
        ∙ ap (λ (b : Bool). taken_with (request_at o m) (answer_bytes r p m f) b f.handle) large_same
        ∙ ap (λ (l : List ℕ). taken_with (request_at o m) l (goes_large o (answer_bytes r o m k)) f.handle) same
        ∙ ap (taken_with (request_at o m) (answer_bytes r o m k) (goes_large o (answer_bytes r o m k))) free

    turn_by_same : (x : Option ErrorCode) (c : Option ChunkMessage) → refusal r p m f ≡ x → chunk_in (request_at p m) ≡ c → ((d : ChunkMessage) → refusal r p m f ≡ None → chunk_in (request_at p m) ≡ Some d → ⊥) → turn_by r p m f x c ≡ turn_by r o m k x c
    turn_by_same (Some e) c refused chunk none = refused_same r p o m f k e (error_moved r p o m f k e near.phase (ap (extended_of e) same))
    turn_by_same None None refused chunk none = plain_same
    turn_by_same None (Some d) refused chunk none = absurd (none d refused chunk)

    pub turn_moved : ((d : ChunkMessage) → refusal r p m f ≡ None → chunk_in (request_at p m) ≡ Some d → ⊥) → turn_of r p m f ≡ turn_of r o m k
    unfolding turn_of
    turn_moved none =
        turn_by_same (refusal r p m f) (chunk_in (request_at p m)) refl refl none ∙ ap (λ (x : Option ErrorCode). turn_by r o m k x (chunk_in (request_at p m))) (refusal_moved r p o m f k near long_same)
        ∙ ap (λ (q : Option RequestMessage). turn_by r o m k (refusal r o m k) (chunk_in q)) near.asked
