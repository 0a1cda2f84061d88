-- One response shows the values that were chosen for it.
use Rattle.std.proofs.Common.{◌≡◌, ◌≢◌, ◌<◌, ◌≤◌, ◌-◌, ◌==◌, ◌⊎◌, ℕ, List, refl, sym, ap, ◌∙◌, subst, length, drop, Bool, true, false, Option, Some, None, cond, inl, inr, arith}
use Rattle.std.specs.Prelude.{slice_index}
use Rattle.byteorder.specs.Endian.{little_bytes, little_number}
use Rattle.responder_machine.specs.Answer.{Free, answer_bytes, answer_of, answer_to, request_at}
use Rattle.responder_machine.specs.Handling.{error_bytes, goes_large, large_response, request_reply}
use Rattle.responder_machine.specs.History.{History}
use Rattle.responder_machine.specs.May.{IsAllowed}
use Rattle.responder_machine.specs.Place.{Place, place_terms}
use Rattle.responder_machine.specs.Refusal.{refusal}
use Rattle.responder_machine.specs.Setup.{RspSetup}
use Rattle.spdm_grammar.specs.ErrorNumber.{error_number}
use Rattle.spdm_grammar.specs.Message.{ExchangeMessage, RequestMessage, ResponseMessage}
use Rattle.spdm_grammar.specs.Message.RequestMessage.{GetVersion, GetCapabilities, NegotiateAlgorithms, GetMeasurements, PskExchange, PskFinish, Heartbeat, KeyUpdate, EndSession, ChunkSend, ChunkGet}
use Rattle.spdm_grammar.specs.Responses.{canonical_response, response_in}
use Rattle.spdm_grammar.specs.declared.messages.error_code.ErrorCode.{ErrorCode}
use Rattle.spdm_grammar.specs.declared.messages.error_code.ErrorCode.TheVariants.{InvalidRequest, UnexpectedRequest, Unspecified, DecryptError, UnsupportedRequest, SessionLimitExceeded, SessionRequired, ResponseTooLarge, RequestTooLarge, LargeResponse, VersionMismatch}
use Rattle.spdm_grammar.specs.declared.names.TheConstants.{MAX_MESSAGE_SIZE}
use Rattle.spdm_grammar.specs.declared.names.error_number.TheConstants.{LARGE_RESPONSE, RESPONSE_TOO_LARGE}
use Rattle.spdm_grammar.specs.declared.names.response_code.TheConstants.{ERROR}
use Rattle.spdm_machine.specs.Terms.{hash_len}
use Rattle.check_laws.proofs.AnswerLengths.{exchange_read, measured_read}
use Rattle.check_laws.specs.AnswersShown.{asks_summary, least_large, lengthened, values_in, values_in_error, with_fields}
use Rattle.check_laws.proofs.LeastValues.{AreLeast, as_long, handle_free, longer_allowed, longer_pad, more, no_longer, shortest, size_of, sized}
use Rattle.check_laws.proofs.ShorterAnswers.{error_by_length, large_least, large_too, refusal_by_length, refused_shorter, taken_shorter}

-- ---- ERROR.

-- A code other than the two that show something.
abbrev IsSilent : ErrorCode → Type 0
IsSilent e = (e ≢ ResponseTooLarge) × ((error_number e == RESPONSE_TOO_LARGE) ≡ false) × ((error_number e == LARGE_RESPONSE) ≡ false)

which_error : (e : ErrorCode) → e ≢ LargeResponse → (e ≡ ResponseTooLarge) ⊎ IsSilent e
which_error InvalidRequest other = inr (λ same. absurd (cc), refl, refl)
which_error UnexpectedRequest other = inr (λ same. absurd (cc), refl, refl)
which_error Unspecified other = inr (λ same. absurd (cc), refl, refl)
which_error DecryptError other = inr (λ same. absurd (cc), refl, refl)
which_error UnsupportedRequest other = inr (λ same. absurd (cc), refl, refl)
which_error SessionLimitExceeded other = inr (λ same. absurd (cc), refl, refl)
which_error SessionRequired other = inr (λ same. absurd (cc), refl, refl)
which_error ResponseTooLarge other = inl refl
which_error RequestTooLarge other = inr (λ same. absurd (cc), refl, refl)
which_error LargeResponse other = absurd (other refl)
which_error VersionMismatch other = inr (λ same. absurd (cc), refl, refl)

-- The reply to a message, by whether it is refused.
abbrev pub reply_by : RspSetup → Place → List ℕ → Free → Option ErrorCode → List ℕ
reply_by r p m f (Some e) = error_bytes r p m f e
reply_by r p m f None = request_reply r p m f

-- These values lead to the same reply, where the message is refused so, with the padding of the least ones.
pub record GiveReply (r : RspSetup) (h : History) (p : Place) (m : List ℕ) (f k v : Free) (o : Option ErrorCode) : Type 0 where
  pub refusal : refusal r p m f ≡ o → refusal r p m v ≡ o
  pub reply : reply_by r p m v o ≡ reply_by r p m f o
  pub allowed : IsAllowed h p v
  pub short : length (answer_bytes r p m v) ≤ MAX_MESSAGE_SIZE
  pub pad : v.pad ≡ k.pad

module _ (r : RspSetup) (h : History) (p : Place) (m : List ℕ) (f k : Free) (fits : IsAllowed h p f) (may : IsAllowed h p k) (least : AreLeast p k) (short : length (answer_bytes r p m f) ≤ MAX_MESSAGE_SIZE) where
  told : (n : ℕ) → n ≤ MAX_MESSAGE_SIZE → little_number 4 (little_bytes 4 n) ≡ n
  told n few = omega (arith, few)

  abbrev long_value : (n : ℕ) → Free
  long_value n = lengthened k (request_at p m) (n - length (answer_bytes r p m k))

  long_same : length (answer_bytes r p m (long_value (length (answer_bytes r p m f)))) ≡ length (answer_bytes r p m f)
  unfolding answer_bytes
  long_same = as_long r h p m f k fits may least (request_at p m)

  long_allowed : IsAllowed h p (long_value (length (answer_bytes r p m f)))
  unfolding answer_bytes
  long_allowed = longer_allowed r h p m f k fits may least (request_at p m) (more r h p m f k fits may least (request_at p m)) (omega arith)

  long_gives : GiveReply r h p m f k (long_value (length (answer_bytes r p m f))) (Some ResponseTooLarge)
  long_gives =
      let v : Free = long_value (length (answer_bytes r p m f)) in record {
        refusal = λ is. refusal_by_length r p m v f long_same ∙ is;
        reply = error_by_length r p m v f ResponseTooLarge (λ same. long_same);
        allowed = long_allowed;
        short = subst (λ (n : ℕ). n ≤ MAX_MESSAGE_SIZE) (sym long_same) short;
        pad = longer_pad k (request_at p m) _;
      }

  least_gives : (e : ErrorCode) → e ≢ ResponseTooLarge → GiveReply r h p m f k k (Some e)
  least_gives e other = (let less = no_longer r h p m f k fits may least in record {
    refusal = refused_shorter r p m f k e other less;
    reply = error_by_length r p m k f e (λ same. absurd (other same));
    allowed = may;
    short = omega (arith, short);
    pad = refl;
  })

  -- The values that an ERROR shows with which a message is refused.
  pub error_gives : (e : ErrorCode) → e ≢ LargeResponse → GiveReply r h p m f k (values_in r p m k (error_bytes r p m f e)) (Some e)
  error_gives e whole = elim (which_error e whole) [
    | inl same ↦ (let P : ErrorCode → Type 0 = λ x. GiveReply r h p m f k (values_in r p m k (error_bytes r p m f x)) (Some x) in
        subst P (sym same) (subst (λ (n : ℕ). GiveReply r h p m f k (long_value n) (Some ResponseTooLarge)) (sym (told (length (answer_bytes r p m f)) short)) long_gives))
    | inr silent ↦ (let long : Free = lengthened k (request_at p m) (little_number 4 (drop 4 (error_bytes r p m f e)) - length (answer_bytes r p m k)) in
        let large : Free = record (lengthened k (request_at p m) (least_large p - length (answer_bytes r p m k))) { handle = slice_index (error_bytes r p m f e) 4 } in
        let Q : Bool → Type 0 = λ b. GiveReply r h p m f k (cond b long (cond (error_number e == LARGE_RESPONSE) large k)) (Some e) in
        let R : Bool → Type 0 = λ b. GiveReply r h p m f k (cond b large k) (Some e) in
        subst Q (sym silent.1) (subst R (sym silent.2) (least_gives e silent.0)))
  ]

  -- ---- LargeResponse.

  abbrev large_value : Free
  large_value = record (lengthened k (request_at p m) (least_large p - length (answer_bytes r p m k))) { handle = f.handle }

  -- The answer is large, and no longer than the other one.
  large_sized : least_large p ≤ length (answer_bytes r p m f) → (least_large p ≤ length (answer_bytes r p m large_value)) × (length (answer_bytes r p m large_value) ≤ length (answer_bytes r p m f))
  unfolding answer_bytes
  large_sized long =
      let o : Option RequestMessage = request_at p m in
      let n : ℕ = least_large p - size_of r p m o k in
      let less = shortest r h p m f k fits may least o in
      let free : size_of r p m o large_value ≡ size_of r p m o (lengthened k o n) = handle_free r p m (lengthened k o n) f.handle o in
      elim (sized r h p m f k fits may least o n) [
        | inl grown ↦ (omega (arith, grown, free, less, long), omega (arith, grown, free, less, long))
        | inr same ↦ (omega (arith, same, free, long), omega (arith, same, free))
      ]

  large_allowed : least_large p ≤ length (answer_bytes r p m f) → IsAllowed h p large_value
  unfolding answer_bytes
  large_allowed long =
      let o : Option RequestMessage = request_at p m in
      let n : ℕ = least_large p - size_of r p m o k in
      let a = longer_allowed r h p m f k fits may least o n (omega (arith, long)) in record {
        least = a.least;
        most = a.most;
        unused = a.unused;
        context = a.context;
        exchange_opaque = a.exchange_opaque;
        nonce = a.nonce;
        measured_opaque = a.measured_opaque;
        handle = fits.handle;
        reply = a.reply;
        pad = a.pad;
      }

  large_gives : goes_large p (answer_bytes r p m f) ≡ true → GiveReply r h p m f k large_value None
  large_gives large =
      let long : least_large p ≤ length (answer_bytes r p m f) = large_least p (answer_bytes r p m f) large in
      let known = large_sized long in record {
        refusal = taken_shorter r p m f large_value known.1;
        reply = ap (λ (b : Bool). cond b (large_response f.handle) (answer_bytes r p m large_value)) (large_too p (answer_bytes r p m f) (answer_bytes r p m large_value) large known.0)
            ∙ sym (ap (λ (b : Bool). cond b (large_response f.handle) (answer_bytes r p m f)) large);
        allowed = large_allowed long;
        short = omega (arith, short);
        pad = longer_pad k (request_at p m) _;
      }

  -- ---- A response.

  -- It gives the same answer.
  abbrev GivesAnswer : RequestMessage → Free → Type 0
  GivesAnswer asked v = (answer_to r p m v (Some asked) ≡ answer_to r p m f (Some asked)) × IsAllowed h p v × (v.pad ≡ k.pad)

  exchange_given : (x : ExchangeMessage) → GivesAnswer (PskExchange x) (record k { id = f.id; context = f.context; exchange_opaque = f.exchange_opaque })
  exchange_given x = (
    refl,
    record {
      least = fits.least;
      most = fits.most;
      unused = fits.unused;
      context = fits.context;
      exchange_opaque = fits.exchange_opaque;
      nonce = may.nonce;
      measured_opaque = may.measured_opaque;
      handle = may.handle;
      reply = may.reply;
      pad = may.pad;
    },
    refl,
  )

  measured_given : (op : ℕ) → GivesAnswer (GetMeasurements op) (record k { nonce = f.nonce; measured_opaque = f.measured_opaque })
  measured_given op = (
    refl,
    record {
      least = may.least;
      most = may.most;
      unused = may.unused;
      context = may.context;
      exchange_opaque = may.exchange_opaque;
      nonce = fits.nonce;
      measured_opaque = fits.measured_opaque;
      handle = may.handle;
      reply = may.reply;
      pad = may.pad;
    },
    refl,
  )

  -- The values in the fields of a response.
  abbrev read_values : RequestMessage → Free
  read_values asked = with_fields k (Some asked) (response_in (hash_len (place_terms p)) (asks_summary (Some asked)) (canonical_response (answer_of r p m f asked)))

  fields_given : (asked : RequestMessage) → r.beat < 256 → length (canonical_response (answer_of r p m f asked)) ≤ MAX_MESSAGE_SIZE → GivesAnswer asked (read_values asked)
  fields_given (PskExchange x) byte brief =
      subst (λ (o : Option ResponseMessage). GivesAnswer (PskExchange x) (with_fields k (Some (PskExchange x)) o)) (sym (exchange_read r h p m f x byte fits brief)) (exchange_given x)
  fields_given (GetMeasurements op) byte brief =
      subst (λ (o : Option ResponseMessage). GivesAnswer (GetMeasurements op) (with_fields k (Some (GetMeasurements op)) o)) (sym (measured_read r h p f op fits brief)) (measured_given op)
  fields_given GetVersion byte brief = (refl, may, refl)
  fields_given (GetCapabilities caps) byte brief = (refl, may, refl)
  fields_given (NegotiateAlgorithms offer) byte brief = (refl, may, refl)
  fields_given (PskFinish verify) byte brief = (refl, may, refl)
  fields_given Heartbeat byte brief = (refl, may, refl)
  fields_given (KeyUpdate op tag) byte brief = (refl, may, refl)
  fields_given EndSession byte brief = (refl, may, refl)
  fields_given (ChunkSend chunk) byte brief = (refl, may, refl)
  fields_given (ChunkGet handle number) byte brief = (refl, may, refl)

  other_code : (asked : RequestMessage) → (slice_index (canonical_response (answer_of r p m f asked)) 1 == ERROR) ≡ false
  other_code GetVersion = refl
  other_code (GetCapabilities caps) = refl
  other_code (NegotiateAlgorithms offer) = refl
  other_code (GetMeasurements op) = refl
  other_code (PskExchange x) = refl
  other_code (PskFinish verify) = refl
  other_code Heartbeat = refl
  other_code (KeyUpdate op tag) = refl
  other_code EndSession = refl
  other_code (ChunkSend chunk) = refl
  other_code (ChunkGet handle number) = refl

  module _ (asked : RequestMessage) (is : request_at p m ≡ Some asked) where
    answer_is : (v : Free) → answer_bytes r p m v ≡ canonical_response (answer_of r p m v asked)
    unfolding answer_bytes
    answer_is v = ap (answer_to r p m v) is

    values_read : values_in r p m k (canonical_response (answer_of r p m f asked)) ≡ read_values asked
    values_read =
        let text : List ℕ = canonical_response (answer_of r p m f asked) in
        ap (λ (b : Bool). cond b (values_in_error r p m k text) (with_fields k (request_at p m) (response_in (hash_len (place_terms p)) (asks_summary (request_at p m)) text))) (other_code asked)
        ∙ ap (λ (o : Option RequestMessage). with_fields k o (response_in (hash_len (place_terms p)) (asks_summary o) text)) is

    answer_given : r.beat < 256 → GivesAnswer asked (values_in r p m k (answer_bytes r p m f))
    answer_given byte =
        subst (GivesAnswer asked) (sym (ap (values_in r p m k) (answer_is f) ∙ values_read))
        (fields_given asked byte (subst (λ (l : List ℕ). length l ≤ MAX_MESSAGE_SIZE) (answer_is f) short))

    whole_given : (v : Free) → GivesAnswer asked v → goes_large p (answer_bytes r p m f) ≡ false → GiveReply r h p m f k v None
    whole_given v gives whole =
        let same : answer_bytes r p m v ≡ answer_bytes r p m f = answer_is v ∙ gives.0 ∙ sym (answer_is f) in record {
          refusal = λ none. refusal_by_length r p m v f (ap (λ (l : List ℕ). length l) same) ∙ none;
          reply = ap (λ (l : List ℕ). cond (goes_large p l) (large_response v.handle) l) same
              ∙ ap (λ (b : Bool). cond b (large_response v.handle) (answer_bytes r p m f)) whole
              ∙ sym (ap (λ (b : Bool). cond b (large_response f.handle) (answer_bytes r p m f)) whole);
          allowed = gives.1;
          short = subst (λ (l : List ℕ). length l ≤ MAX_MESSAGE_SIZE) (sym same) short;
          pad = gives.2;
        }

    -- The values that an answer shows.
    pub answer_gives : r.beat < 256 → GiveReply r h p m f k (values_in r p m k (request_reply r p m f)) None
    answer_gives byte = by_size (goes_large p (answer_bytes r p m f)) refl
      where
        by_size : (b : Bool) → goes_large p (answer_bytes r p m f) ≡ b → GiveReply r h p m f k (values_in r p m k (request_reply r p m f)) None
        by_size true large =
            let here : request_reply r p m f ≡ large_response f.handle = ap (λ (b : Bool). cond b (large_response f.handle) (answer_bytes r p m f)) large in
            subst (λ (l : List ℕ). GiveReply r h p m f k (values_in r p m k l) None) (sym here) (large_gives large)
        by_size false whole =
            let here : request_reply r p m f ≡ answer_bytes r p m f = ap (λ (b : Bool). cond b (large_response f.handle) (answer_bytes r p m f)) whole in
            subst (λ (l : List ℕ). GiveReply r h p m f k (values_in r p m k l) None) (sym here) (whole_given (values_in r p m k (answer_bytes r p m f)) (answer_given byte) whole)
