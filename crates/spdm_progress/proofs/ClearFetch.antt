-- An answer is sent in chunks in the clear: what the two ends make of ERROR LargeResponse and of each CHUNK_GET with
-- its answer.
use Rattle.std.proofs.Common.{◌≡◌, ◌∙◌, ℕ, suc, ◌<◌, ◌≤◌, ◌+◌, ◌==◌, ◌&&◌, ◌||◌, not, nat_lt, List, [], ◌∷◌, length, Bool, true, false, Option, Some, None, Result, Ok, refl, sym, ap, subst, inr, arith, eq-eqb}
use Rattle.std.specs.Prelude.{bytes_eq, if◌then◌else◌, is_some, slice_index, unwrap_or, ◌^◌}
use Rattle.std.proofs.lemmas.Bool.{false≢true, lt-ltb}
use Rattle.std.proofs.lemmas.Slice.Eq.{bytes_eq-Decides}
use Rattle.chunking.specs.Cutting.{IsCollectable, chunk_count, chunks_before, nth_chunk}
use Rattle.requester_machine.specs.Answers.{answer_led, goes_on, is_refused, may_be_large}
use Rattle.requester_machine.specs.Asking.Outcome.{Adds as AddsHere}
use Rattle.requester_machine.specs.Bodies.{body_fault}
use Rattle.requester_machine.specs.ClearAnswers.{carried_by, carried_led, chunk_carries, clear_led, collected, get_fault, has_summary, read_led, reading_of}
use Rattle.requester_machine.specs.ClearAnswers.Carried.{Further, Whole}
use Rattle.chunking.specs.Collecting.{joined_with}
use Rattle.requester_machine.specs.Commands.{Free as FreeHere}
use Rattle.requester_machine.specs.Does.{body_chosen, requester_hears}
use Rattle.requester_machine.specs.Hearing.{clear_outcome, hears, hears_by}
use Rattle.requester_machine.specs.History as asked
use Rattle.requester_machine.specs.History.{Led, outstanding}
use Rattle.requester_machine.specs.History.Effect.{Answers, Nothing, Refuses}
use Rattle.requester_machine.specs.History.Entry.{TookClear}
use Rattle.requester_machine.specs.Message.{Sent}
use Rattle.requester_machine.specs.Message.Aim.{ForChunk}
use Rattle.requester_machine.specs.Message.Content.{Clear as ClearContent}
use Rattle.requester_machine.specs.Sending.{get_sent}
use Rattle.requester_machine.specs.Setup.{ReqSetup}
use Rattle.responder_machine.specs.Answer.{Free, answer_of}
use Rattle.responder_machine.specs.Does.{clear_chosen, clear_does}
use Rattle.responder_machine.specs.Handling.{goes_large, large_response, turn_of}
use Rattle.responder_machine.specs.History as served
use Rattle.responder_machine.specs.History.Entry.{Clear, Sealed, Queued, Ticked, Dropped}
use Rattle.responder_machine.specs.LargeMessages.{given_of, handle_of, large_of, pending_of, still_pending}
use Rattle.responder_machine.specs.Place.{Place, clear_place, place_terms}
use Rattle.responder_machine.specs.Refusal.{bytes_round, has_pending, is_answer_too_long, is_get_refused, lacks_flag, phase_allows, sizes_are_known}
use Rattle.responder_machine.specs.Responder.Outcome.{Adds}
use Rattle.responder_machine.specs.Setup.{RspSetup}
use Rattle.responder_machine.specs.Turn.{Turn}
use Rattle.spdm_agreement.proofs.Responder.Exchange.{both_hold}
use Rattle.spdm_basis.proofs.Bools.{lt_false}
use Rattle.spdm_grammar.specs.ErrorNumber.{error_number}
use Rattle.spdm_grammar.specs.Message.{ChunkMessage, RequestMessage, ResponseMessage}
use Rattle.spdm_grammar.specs.Message.RequestMessage.{ChunkGet}
use Rattle.spdm_grammar.specs.Message.ResponseMessage.{ChunkResponse, Error}
use Rattle.spdm_grammar.specs.Requests.{canonical_request}
use Rattle.spdm_grammar.specs.Responses.{FitsResponse, IsSoundResponse, canonical_response, response_layout, response_reading}
use Rattle.spdm_grammar.specs.declared.ChunkFault.{ChunkFault}
use Rattle.spdm_grammar.specs.declared.ChunkFault.TheVariants.{WrongHandle, WrongNumber}
use Rattle.spdm_grammar.specs.declared.messages.error_code.ErrorCode.TheVariants.{LargeResponse}
use Rattle.spdm_grammar.specs.declared.told.event.ReqIgnored.{ReqIgnored}
use Rattle.spdm_grammar.specs.declared.messages.malformed.Malformed.{Malformed}
use Rattle.spdm_grammar.specs.declared.names.TheConstants.{MAX_MESSAGE_SIZE, MIN_DATA_TRANSFER_SIZE}
use Rattle.spdm_grammar.specs.declared.names.request_code.TheConstants.{CHUNK_GET}
use Rattle.spdm_grammar.specs.declared.names.spdm_version.TheConstants.{V1_2}
use Rattle.spdm_grammar.specs.declared.told.phase.Phase.{Phase}
use Rattle.spdm_grammar.specs.declared.told.phase.Phase.TheVariants.{Negotiated}
use Rattle.spdm_machine.specs.Bodies.{clear_body}
use Rattle.spdm_machine.specs.Keys.{Draw}
use Rattle.spdm_machine.specs.Terms.{Terms, hash_len, terms_of}
use Rattle.transcript.specs.Transcripts.{Negotiation}
use Rattle.capture_machine.proofs.SmallGets.{get_fits}
use Rattle.spdm_progress.proofs.AtRequester.{led_whole}
use Rattle.spdm_progress.proofs.ChunkRules.{breaks_none, fits_chunk, last_whole, sound_chunk}
use Rattle.spdm_progress.proofs.RequesterStages.{Asks, hears_as, reads}
use Rattle.spdm_progress.proofs.ResponderStages.{LastTook, Takes, adds, not_large, not_too_long, other_message}
use Rattle.spdm_progress.proofs.ResponderTurns.{read_at, taken_at, taken_turn}
use Rattle.spdm_grammar.proofs.CanonicalResponses.{response_spelled}
use Rattle.spdm_grammar.proofs.Spellings.{spelling_read}

-- ---- The messages.

abbrev pub get_chunk : (handle k : ℕ) → List ℕ
get_chunk handle k = canonical_request (ChunkGet handle k)

abbrev pub chunk_response : (transfer handle : ℕ) → List ℕ → (k : ℕ) → List ℕ
chunk_response transfer handle w k = canonical_response (ChunkResponse (nth_chunk transfer handle w k))

pub differ : (m n : List ℕ) (b : Bool) → bytes_eq m n ≡ b → (m ≡ n → ⊥) → b ≡ false
differ m n true is other = absurd (other ((bytes_eq-Decides m n).0 is))
differ m n false is other = refl

-- Each CHUNK_GET differs from the one before.
pub gets_differ : (handle k : ℕ) → bytes_eq (get_chunk handle k) (get_chunk handle (suc k)) ≡ false
gets_differ handle k = differ (get_chunk handle k) (get_chunk handle (suc k)) (bytes_eq (get_chunk handle k) (get_chunk handle (suc k))) refl
    (λ e. (let number : slice_index (get_chunk handle k) 4 ≡ slice_index (get_chunk handle (suc k)) 4 = ap (λ (l : List ℕ). slice_index l 4) e in omega (arith, number)))

-- The transfer size of the requester, as it was negotiated.
abbrev pub transfer_in : Negotiation → ℕ
transfer_in n = (terms_of n).common.to_requester.transfer

-- What the set-ups and the negotiation are where an answer of this size, with so many bytes round it, is sent in chunks
-- in the clear.
pub record CanFetchIn (round : ℕ) (q : ReqSetup) (r : RspSetup) (size : ℕ) (n : Negotiation) : Type 0 where
  pub room : MIN_DATA_TRANSFER_SIZE ≤ r.transfer
  pub chunk : (terms_of n).common.chunk ≡ true
  pub large : transfer_in n < round + size
  pub few : round ≤ 6
  pub fits_max : size ≤ (terms_of n).common.to_requester.max
  pub transfer : transfer_in n ≡ q.transfer
  pub max : (terms_of n).common.to_requester.max ≡ q.max
  pub least : MIN_DATA_TRANSFER_SIZE ≤ q.transfer
  pub ordered : q.transfer ≤ q.max
  pub most : q.max ≤ MAX_MESSAGE_SIZE

abbrev pub CanFetch : ReqSetup → RspSetup → (size : ℕ) → Negotiation → Type 0
CanFetch q r size n = CanFetchIn 0 q r size n

-- This answer is pending at a responder, with this handle, and so many chunks of it were given.
pub record IsPending (w : List ℕ) (handle k : ℕ) (turns : List Turn) : Type 0 where
  pub large : large_of turns ≡ Some w
  pub given : given_of turns ≡ k
  pub handle_is : handle_of turns ≡ handle

pub chunked_fits : (known over chunk other : Bool) → over ≡ false → chunk ≡ true → (known && (over || (not chunk && other))) ≡ false
chunked_fits true over chunk other o c = rw (o, c) refl
chunked_fits false over chunk other o c = refl

pub chunk_flag : (terms : Terms) → terms.common.chunk ≡ true → lacks_flag terms CHUNK_GET ≡ false
chunk_flag terms e = rw e refl

pub right_get : (a b : Bool) → a ≡ true → b ≡ true → (not a || not b) ≡ false
right_get a b x y = rw (x, y) refl

pub some_if : (b : Bool) (w : List ℕ) → b ≡ true → (if b then Some w else None) ≡ Some w
some_if true w is = refl
some_if false w is = absurd (false≢true is)

-- CHUNK_GET for the chunk of this number is outstanding.
abbrev pub fetching : (v : RequestMessage) → (tag handle k : ℕ) → List ChunkMessage → Sent
fetching v tag handle k before = record { tag = tag; content = ClearContent (get_chunk handle k); aim = ForChunk v handle k before }

no_body_fault : (q : ReqSetup) (v : RequestMessage) (tag handle k : ℕ) (before : List ChunkMessage) (m : List ℕ) → length m ≤ q.transfer → body_fault q (Some (fetching v tag handle k before)) false tag (clear_body m) ≡ None
unfolding body_fault
no_body_fault q v tag handle k before m fits = rw (eq-eqb tag tag refl, lt_false q.transfer (length m) fits) refl

heard_chunk : (q : ReqSetup) (h : asked.History) (f : FreeHere) (v : RequestMessage) (tag handle k : ℕ) (before : List ChunkMessage) (m : List ℕ) (d : Draw) → outstanding h ≡ Some (fetching v tag handle k before) → length m ≤ q.transfer
    → hears q h false tag (clear_body m) f d ≡ clear_outcome tag m d (clear_led q h f (ForChunk v handle k before) v m)
unfolding hears
heard_chunk q h f v tag handle k before m d is fits =
    ap (λ (o : Option Sent). hears_by q h f tag (clear_body m) d o (body_fault q o false tag (clear_body m))) is
    ∙ ap (λ (o : Option ReqIgnored). hears_by q h f tag (clear_body m) d (Some (fetching v tag handle k before)) o) (no_body_fault q v tag handle k before m fits)

led_chunk : (q : ReqSetup) (h : asked.History) (f : FreeHere) (v : RequestMessage) (handle k : ℕ) (before : List ChunkMessage) (m : List ℕ) (c : ChunkMessage) → reading_of h v m ≡ Ok (ChunkResponse c)
    → clear_led q h f (ForChunk v handle k before) v m ≡ carried_led q h f v (collected h v before c (get_fault q.max handle k before c))
unfolding clear_led carried_by
led_chunk q h f v handle k before m c reads = ap (λ (x : Result ResponseMessage Malformed). carried_led q h f v (chunk_carries q h v handle k before x)) reads

abbrev pub is_led : Led → Result Led ReqIgnored
is_led x = Ok x

pub goes_by : (b : Bool) (x y : Led) → b ≡ true → is_led (if b then x else y) ≡ is_led x
goes_by true x y is = refl
goes_by false x y is = absurd (false≢true is)

pub right_chunk : (a b : Bool) (rule : Option ChunkFault) → a ≡ true → b ≡ true → rule ≡ None → (if not a then Some WrongHandle else (if not b then Some WrongNumber else rule)) ≡ None
right_chunk a b rule x y z = rw (x, y, z) refl

-- A response is read, with a summary or without.
pub reads_so : (v : ResponseMessage) (len : ℕ) (summary : Bool) → FitsResponse v → IsSoundResponse len summary v → response_reading len summary (canonical_response v) ≡ Ok v
reads_so v len summary fits sound = spelling_read (response_layout len summary) 0 v (canonical_response v) (response_spelled len summary v fits sound).is

pub reads_large : (len handle : ℕ) (summary : Bool) → response_reading len summary (large_response handle) ≡ Ok (Error V1_2 (error_number LargeResponse) 0 (handle ∷ []))
reads_large len handle summary = reads_so (Error V1_2 (error_number LargeResponse) 0 (handle ∷ [])) len summary (omega arith, omega arith) (inr refl, (λ e. absurd (omega (arith, e)), λ e. refl, omega arith))

-- What LargeResponse leads to.
error_answer : (q : ReqSetup) (h : asked.History) (f : FreeHere) (at : ℕ) (v : RequestMessage) (handle : ℕ)
    → answer_led q h f at v (large_response handle) (Error V1_2 (error_number LargeResponse) 0 (handle ∷ []))
    ≡ is_led (if may_be_large v && (asked.connection_terms h).common.chunk then goes_on Nothing (get_sent h v handle 0 []) else is_refused (error_number LargeResponse) (Refuses v))
error_answer q h f at v handle = refl

-- Where chunks are in common, it calls for the first chunk, wherever it stood.
pub large_read : (q : ReqSetup) (h : asked.History) (f : FreeHere) (at : ℕ) (v : RequestMessage) (handle : ℕ) → may_be_large v ≡ true → (asked.connection_terms h).common.chunk ≡ true
    → read_led q h f at v (large_response handle) (reading_of h v (large_response handle)) ≡ Ok (goes_on Nothing (get_sent h v handle 0 []))
large_read q h f at v handle large chunks =
    ap (λ (x : Result ResponseMessage Malformed). read_led q h f at v (large_response handle) x) (reads_large (hash_len (asked.connection_terms h)) handle (has_summary v))
    ∙ error_answer q h f at v handle
    ∙ goes_by (may_be_large v && (asked.connection_terms h).common.chunk) (goes_on Nothing (get_sent h v handle 0 [])) (is_refused (error_number LargeResponse) (Refuses v))
    (both_hold (may_be_large v) (asked.connection_terms h).common.chunk large chunks)

module _ {round : ℕ} (q : ReqSetup) (r : RspSetup) (size : ℕ) (n : Negotiation) (can : CanFetchIn round q r size n) where
  pub collectable : (w : List ℕ) → length w ≡ size → IsCollectable q.max (transfer_in n) w
  collectable w is =
      let transfer = can.transfer in
      let least = can.least in
      let large = can.large in
      let few = can.few in
      let fits = can.fits_max in
      let max = can.max in
      let most = can.most in record {
        low = omega (arith, transfer, least);
        large = omega (arith, is, large, few);
        fits = omega (arith, is, fits, max);
        short = omega (arith, is, fits, max, most);
      }

  -- ---- An answer of this size at a place of the responder.

  module _ (place : Place) (answer : List ℕ) (is : length answer ≡ size) (under : place.negotiation ≡ n) where
    pub large_goes : sizes_are_known place.phase ≡ true → bytes_round place.at ≡ round → goes_large place answer ≡ true
    large_goes known there =
        let large = can.large in
        both_hold (sizes_are_known place.phase) _ known
        (ap (λ (k : ℕ). nat_lt (transfer_in place.negotiation) (k + length answer)) there
        ∙ lt-ltb _ _ (subst (λ (x : Negotiation). transfer_in x < round + length answer) (sym under) (omega (arith, is, large))))

    pub large_fits : is_answer_too_long place answer ≡ false
    large_fits =
        let most = can.fits_max in
        chunked_fits (sizes_are_known place.phase) _ _ _
        (lt_false (place_terms place).common.to_requester.max (length answer) (subst (λ (x : Negotiation). length answer ≤ (terms_of x).common.to_requester.max) (sym under) (omega (arith, is, most))))
        (ap (λ (x : Negotiation). (terms_of x).common.chunk) under ∙ can.chunk)

  -- ---- The responder, of CHUNK_GET.

  module _ (w : List ℕ) (long : length w ≡ size) (handle k : ℕ) (small : handle < 256) (within : k < chunk_count (transfer_in n) w) where
    abbrev c : ChunkMessage
    c = nth_chunk (transfer_in n) handle w k

    abbrev reply : List ℕ
    reply = chunk_response (transfer_in n) handle w k

    pub chunk_is_few : length reply ≤ transfer_in n
    chunk_is_few = (let transfer = can.transfer in let least = can.least in get_fits (transfer_in n) handle k w (omega (arith, transfer, least)))

    pub number_small : k < 2 ^ 16
    number_small = (fits_chunk q.max (transfer_in n) handle w (collectable w long) k small within).number

    abbrev pub before : List ChunkMessage
    before = chunks_before (transfer_in n) handle w k

    pub no_fault : get_fault q.max handle k before c ≡ None
    no_fault = right_chunk (handle == handle) (k == k) _ (eq-eqb handle handle refl) (eq-eqb k k refl) (breaks_none q.max (transfer_in n) handle w (collectable w long) k within)

    pub reads_chunk : (h : asked.History) (len : ℕ) (summary : Bool) → response_reading len summary reply ≡ Ok (ChunkResponse c)
    reads_chunk h len summary = reads_so (ChunkResponse c) len summary (fits_chunk q.max (transfer_in n) handle w (collectable w long) k small within) (sound_chunk q.max (transfer_in n) handle w (collectable w long) k)

    pub joins_whole : (k + 1 == chunk_count (transfer_in n) w) ≡ true → joined_with before c ≡ w
    joins_whole last = last_whole q.max (transfer_in n) handle w (collectable w long) k within last

    -- At any place.
    module _ (place : Place) (f : Free) (under : place.negotiation ≡ n) (pending : IsPending w handle k place.turns) where
      abbrev pub given_answer : List ℕ
      given_answer = canonical_response (answer_of r place (get_chunk handle k) f (ChunkGet handle k))

      pub is_pending : pending_of (transfer_in place.negotiation) place.turns ≡ Some w
      is_pending =
          ap (λ (z : ℕ). still_pending (transfer_in place.negotiation) z (large_of place.turns)) pending.given
          ∙ ap (still_pending (transfer_in place.negotiation) k) pending.large
          ∙ some_if (nat_lt k (chunk_count (transfer_in place.negotiation) w)) w (lt-ltb _ _ (subst (λ (x : Negotiation). k < chunk_count (transfer_in x) w) (sym under) within))

      pub gives_chunk : given_answer ≡ reply
      gives_chunk =
          ap (λ (o : Option (List ℕ)). canonical_response (ChunkResponse (nth_chunk (transfer_in place.negotiation) handle (unwrap_or o []) k))) is_pending
          ∙ ap (λ (x : Negotiation). chunk_response (transfer_in x) handle w k) under

      pub given_fits : (length given_answer ≤ (place_terms place).common.to_requester.max) × (length given_answer ≤ (place_terms place).common.to_requester.transfer)
      given_fits =
          let few : length given_answer ≤ transfer_in n = subst (λ (l : List ℕ). length l ≤ transfer_in n) (sym gives_chunk) chunk_is_few in
          let ordered = can.ordered in
          let transfer = can.transfer in
          let max = can.max in
          subst (λ (x : Negotiation). (length given_answer ≤ (terms_of x).common.to_requester.max) × (length given_answer ≤ (terms_of x).common.to_requester.transfer)) (sym under) (omega (arith, few, ordered, transfer, max), few)

      pub given_chunks : lacks_flag (place_terms place) CHUNK_GET ≡ false
      given_chunks = chunk_flag (place_terms place) (ap (λ (x : Negotiation). (terms_of x).common.chunk) under ∙ can.chunk)

      pub is_right : is_get_refused place (Some (ChunkGet handle k)) ≡ false
      is_right = right_get (handle == handle_of place.turns) (k == given_of place.turns) (eq-eqb handle _ (sym pending.handle_is)) (eq-eqb k _ (sym pending.given))

    -- In the clear.
    module _ (g : served.History) (d : Draw) (under : served.negotiation_of (served.clear_turns g) ≡ n) (phase : served.phase_of (served.clear_turns g) ≡ Negotiated) (pending : IsPending w handle k (served.clear_turns g)) where
      abbrev place : Place
      place = clear_place g

      abbrev f : Free
      f = clear_chosen r g d

      abbrev clear_answer : List ℕ
      clear_answer = given_answer place f under pending

      takes_it : Takes place (length clear_answer)
      takes_it = record { both = λ known. given_fits place f under pending }

      pub chunk_turn : turn_of r place (get_chunk handle k) f ≡ taken_turn r place (get_chunk handle k) f (ChunkGet handle k)
      chunk_turn =
          let room = can.room in
          taken_at r place (get_chunk handle k) f (ChunkGet handle k) (read_at place (ChunkGet handle k) (small, number_small) tt) refl
          (record {
            long = refl;
            short = lt_false r.transfer 6 (omega (arith, room));
            known = refl;
            outside = refl;
            whole = refl;
            placed = refl;
            allowed = ap (λ (x : Phase). phase_allows x (has_pending place) CHUNK_GET) phase ∙ ap is_some (is_pending place f under pending);
            version = refl;
          })
          (record {
            flags = given_chunks place f under pending;
            caps = refl;
            offer = refl;
            block = refl;
            exchange = refl;
            verify = refl;
            update = refl;
            chunk = refl;
            get = is_right place f under pending;
            fits = not_too_long g clear_answer takes_it;
            limit = refl;
          })
          (not_large g clear_answer takes_it)

      pub pending_next : IsPending w handle (k + 1) (taken_turn r place (get_chunk handle k) f (ChunkGet handle k) ∷ place.turns)
      pending_next = record { large = pending.large; given = ap (λ (z : ℕ). z + 1) pending.given; handle_is = pending.handle_is }

      -- It is no repeat, since another request was taken last.
      pub served_chunk : (tag : ℕ) (m : List ℕ) → bytes_eq m (get_chunk handle k) ≡ false → LastTook m g → clear_does r g tag (get_chunk handle k) d ≡ Adds (Clear tag (taken_turn r place (get_chunk handle k) f (ChunkGet handle k)) d)
      served_chunk tag m other last = adds r g tag (get_chunk handle k) d (taken_turn r place (get_chunk handle k) f (ChunkGet handle k)) (other_message g tag m (get_chunk handle k) last other) chunk_turn

    -- ---- The requester, of CHUNK_RESPONSE.

    module _ (v : RequestMessage) (h : asked.History) (tag : ℕ) (d : Draw) (waits : outstanding h ≡ Some (fetching v tag handle k before)) where
      hears_it : requester_hears q h false tag (clear_body reply) d ≡ clear_outcome tag reply d (clear_led q h (body_chosen q h d) (ForChunk v handle k before) v reply)
      hears_it = (let transfer = can.transfer in heard_chunk q h (body_chosen q h d) v tag handle k before reply d waits (omega (arith, chunk_is_few, transfer)))

      led : clear_led q h (body_chosen q h d) (ForChunk v handle k before) v reply ≡ carried_led q h (body_chosen q h d) v (collected h v before c None)
      led =
          led_chunk q h (body_chosen q h d) v handle k before reply c (reads_chunk h (hash_len (asked.connection_terms h)) (has_summary v))
          ∙ ap (λ (o : Option ChunkFault). carried_led q h (body_chosen q h d) v (collected h v before c o)) no_fault

      -- One that is not the last calls for the next.
      pub heard_more : (k + 1 == chunk_count (transfer_in n) w) ≡ false → requester_hears q h false tag (clear_body reply) d ≡ AddsHere (TookClear tag reply (goes_on Nothing (get_sent h v handle (k + 1) (c ∷ before))) d)
      heard_more more =
          hears_it ∙ ap (clear_outcome tag reply d) (led ∙ further (k + 1 == chunk_count (transfer_in n) w) more)
        where
          further : (b : Bool) → b ≡ false → carried_led q h (body_chosen q h d) v (if b then Whole (joined_with before c) 0 else Further (get_sent h v handle (k + 1) (c ∷ before))) ≡ Ok (goes_on Nothing (get_sent h v handle (k + 1) (c ∷ before)))
          further true is = absurd (false≢true (sym is))
          further false is = refl

      -- The last one completes the answer.
      pub heard_whole : (k + 1 == chunk_count (transfer_in n) w) ≡ true → requester_hears q h false tag (clear_body reply) d ≡ clear_outcome tag reply d (read_led q h (body_chosen q h d) 0 v w (reading_of h v w))
      heard_whole last =
          hears_it
          ∙ ap (clear_outcome tag reply d) (led ∙ completes (k + 1 == chunk_count (transfer_in n) w) last
          ∙ ap (λ (l : List ℕ). read_led q h (body_chosen q h d) 0 v l (reading_of h v l)) (joins_whole last))
        where
          completes : (b : Bool) → b ≡ true → carried_led q h (body_chosen q h d) v (if b then Whole (joined_with before c) 0 else Further (get_sent h v handle (k + 1) (c ∷ before))) ≡ read_led q h (body_chosen q h d) 0 v (joined_with before c) (reading_of h v (joined_with before c))
          completes true is = refl
          completes false is = absurd (false≢true is)

  -- ---- The requester, of LargeResponse.

  pub heard_large : (v : RequestMessage) (m : List ℕ) (h : asked.History) (tag handle : ℕ) (d : Draw) → may_be_large v ≡ true → Asks q tag v m n h
      → requester_hears q h false tag (clear_body (large_response handle)) d ≡ AddsHere (TookClear tag (large_response handle) (goes_on Nothing (get_sent h v handle 0 [])) d)
  heard_large v m h tag handle d large asks =
      let least = can.least in
      hears_as q h tag v m n (large_response handle) d (goes_on Nothing (get_sent h v handle 0 [])) asks (omega (arith, least))
      (led_whole q h (body_chosen q h d) v (large_response handle)
      ∙ large_read q h (body_chosen q h d) 0 v handle large (ap (λ (x : Negotiation). (terms_of x).common.chunk) asks.negotiation ∙ can.chunk))
