-- The record that answers a record shows the values that it was answered at.
use Rattle.std.proofs.Common.{◌≡◌, ◌≢◌, ◌<◌, ◌≤◌, ◌+◌, ◌==◌, ◌&&◌, ◌||◌, ℕ, List, [], ◌∷◌, ◌++◌, refl, sym, ap, ◌∙◌, subst, length, drop, take, Bool, true, false, Option, Some, None, cond, arith}
use Rattle.std.proofs.Math.Seq.{take-append_seam, drop-append_seam}
use Rattle.std.proofs.lemmas.Option.{none-some, same_Some}
use Rattle.std.specs.Prelude.{nat_lt, not, slice_index}
use Rattle.byteorder.specs.Endian.{little_number}
use Rattle.key_schedule.specs.Purpose.{Purpose, iv_of, key_of}
use Rattle.responder_machine.specs.Answer.{Free, answer_bytes, request_at}
use Rattle.responder_machine.specs.Handling.{chunk_in, effect_of, turn_by, turn_of}
use Rattle.responder_machine.specs.History.{History}
use Rattle.responder_machine.specs.May.{IsAllowed}
use Rattle.responder_machine.specs.Place.{Place, session_place}
use Rattle.responder_machine.specs.Records.{reply_record, response_purpose}
use Rattle.responder_machine.specs.Refusal.{refusal}
use Rattle.responder_machine.specs.Responder.{data_turn, inner_refusal, inner_reply, is_open, session_turn, session_turn_by}
use Rattle.responder_machine.specs.Session.{Events, exchange_answer, exchange_of, id_bytes, response_epoch, response_next, session_terms, stage_of}
use Rattle.responder_machine.specs.Setup.{RspSetup}
use Rattle.responder_machine.specs.Turn.{Turn, is_data, updates}
use Rattle.secured_record.proofs.Records.{inner_length, opened_text-record}
use Rattle.secured_record.specs.Faults.{opened_text}
use Rattle.secured_record.specs.Format.{plain_text}
use Rattle.spdm_basis.specs.Tests.{first_of_tests}
use Rattle.spdm_grammar.specs.Message.{ChunkMessage, RequestMessage}
use Rattle.spdm_grammar.specs.declared.messages.error_code.ErrorCode.{ErrorCode}
use Rattle.spdm_grammar.specs.declared.messages.error_code.ErrorCode.TheVariants.{InvalidRequest, LargeResponse, RequestTooLarge, UnexpectedRequest}
use Rattle.spdm_grammar.specs.declared.told.phase.Stage.{Stage}
use Rattle.spdm_grammar.specs.declared.names.TheConstants.{MAX_MESSAGE_SIZE}
use Rattle.spdm_machine.specs.Keys.{sealed_of}
use Rattle.spdm_machine.specs.Sessions.{id_in_exchange}
use Rattle.check_laws.proofs.LeastValues.{AreLeast, least_allowed, least_are, no_longer, padded}
use Rattle.check_laws.proofs.PartShown.{GiveReply, answer_gives, error_gives, reply_by}
use Rattle.check_laws.specs.AnswersShown.{answered_text, least_values, values_in, values_in_inner, values_in_text}
use Rattle.capture_machine.proofs.RecordsTell.{session_short}
use Rattle.capture_machine.proofs.RepliesTell.{no_chunk, updates_same}
use Rattle.capture_machine.proofs.TurnsAlike.{chunk_is, is_request, refusal_other}

-- ---- A turn in a session.

-- No inner message is refused with LargeResponse.
inner_by : (a b c d : Bool) (e : ErrorCode) → first_of_tests ((a, InvalidRequest) ∷ (b, InvalidRequest) ∷ (c, UnexpectedRequest) ∷ (d, RequestTooLarge) ∷ []) ≡ Some e → e ≢ LargeResponse
inner_by true b c d e is same = absurd (let one : InvalidRequest ≡ e = same_Some InvalidRequest e is in cc)
inner_by false true c d e is same = absurd (let one : InvalidRequest ≡ e = same_Some InvalidRequest e is in cc)
inner_by false false true d e is same = absurd (let one : UnexpectedRequest ≡ e = same_Some UnexpectedRequest e is in cc)
inner_by false false false true e is same = absurd (let one : RequestTooLarge ≡ e = same_Some RequestTooLarge e is in cc)
inner_by false false false false e is same = absurd (none-some e is)

inner_other : (stage : Stage) (inner : List ℕ) (e : ErrorCode) → inner_refusal stage inner ≡ Some e → e ≢ LargeResponse
inner_other stage inner e is =
    inner_by (length inner == 0) (not (slice_index inner 0 == 5 || slice_index inner 0 == 1)) (slice_index inner 0 == 1 && not (is_open stage)) (slice_index inner 0 == 1 && nat_lt 1025 (length inner)) e is

-- No SPDM message is application data.
effect_no_data : (o : Option RequestMessage) (text answer : List ℕ) (large : Option ℕ) → is_data (effect_of o text answer large) ≡ false
effect_no_data None text answer large = refl
effect_no_data (Some asked) text answer large = refl

-- These values lead to the same inner message.
pub record GiveInner (r : RspSetup) (h : History) (s : Events) (request : List ℕ) (f k v : Free) : Type 0 where
  pub inner : inner_reply (session_turn r s request v) ≡ inner_reply (session_turn r s request f)
  pub allowed : IsAllowed h (session_place s) v
  pub short : length (answer_bytes r (session_place s) (drop 1 request) v) ≤ MAX_MESSAGE_SIZE
  pub pad : v.pad ≡ k.pad

module _ (r : RspSetup) (h : History) (s : Events) (f k : Free) (byte : r.beat < 256) (fits : IsAllowed h (session_place s) f) (may : IsAllowed h (session_place s) k) (least : AreLeast (session_place s) k) where
  abbrev p : Place
  p = session_place s

  module _ (m : List ℕ) (short : length (answer_bytes r p m f) ≤ MAX_MESSAGE_SIZE) where
    message_gives : (o : Option ErrorCode) (c : Option ChunkMessage) → refusal r p m f ≡ o → chunk_in (request_at p m) ≡ c
        → GiveReply r h p m f k (values_in r p m k (turn_by r p m f o c).reply) o
    message_gives (Some e) c is asks = error_gives r h p m f k fits may least short e (refusal_other r p m f e is)
    message_gives None None is asks =
        let one = is_request r p m f is in
        answer_gives r h p m f k fits may least short one.0 one.1 byte
    message_gives None (Some c) is asks = absurd (no_chunk r s m f c (chunk_is (request_at p m) c asks) is)

    as_reply : (v : Free) (o : Option ErrorCode) (c : Option ChunkMessage) → chunk_in (request_at p m) ≡ c → refusal r p m v ≡ o
        → (is_data (turn_by r p m v o c).effect ≡ false) × ((turn_by r p m v o c).reply ≡ reply_by r p m v o)
    as_reply v (Some e) c asks is = (refl, refl)
    as_reply v None None asks is = (effect_no_data (request_at p m) m _ _, refl)
    as_reply v None (Some c) asks is = absurd (no_chunk r s m v c (chunk_is (request_at p m) c asks) is)

    -- Any values: the inner message has type 5.
    typed : (v : Free) → inner_reply (turn_of r p m v) ≡ 5 ∷ reply_by r p m v (refusal r p m v)
    unfolding turn_of
    typed v =
        let known = as_reply v (refusal r p m v) (chunk_in (request_at p m)) refl refl in
        ap (λ (b : Bool). cond b 1 5 ∷ (turn_of r p m v).reply) known.0 ∙ ap (λ (l : List ℕ). 5 ∷ l) known.1

    values_of_turn : GiveReply r h p m f k (values_in r p m k (reply_by r p m f (refusal r p m f))) (refusal r p m f)
    unfolding turn_of
    values_of_turn =
        let gives = message_gives (refusal r p m f) (chunk_in (request_at p m)) refl refl in
        let known = as_reply f (refusal r p m f) (chunk_in (request_at p m)) refl refl in
        subst (λ (l : List ℕ). GiveReply r h p m f k (values_in r p m k l) (refusal r p m f)) known.1 gives

  module _ (request : List ℕ) (short : length (answer_bytes r p (drop 1 request) f) ≤ MAX_MESSAGE_SIZE) where
    abbrev m : List ℕ
    m = drop 1 request

    abbrev value : List ℕ → Free
    value inner = values_in_inner r s request k inner

    abbrev Gives : Option ErrorCode → Free → Type 0
    Gives x v =
        (inner_reply (session_turn_by r s request v x) ≡ inner_reply (session_turn_by r s request f x))
        × IsAllowed h p v × (length (answer_bytes r p m v) ≤ MAX_MESSAGE_SIZE) × (v.pad ≡ k.pad)

    -- An SPDM message.
    spdm_gives : let v = value (inner_reply (turn_of r p m f)) in
        (inner_reply (turn_of r p m v) ≡ inner_reply (turn_of r p m f)) × IsAllowed h p v × (length (answer_bytes r p m v) ≤ MAX_MESSAGE_SIZE) × (v.pad ≡ k.pad)
    spdm_gives =
        let o : Option ErrorCode = refusal r p m f in
        let v : Free = values_in r p m k (reply_by r p m f o) in
        let gives = values_of_turn m short in
        let text = typed m short f in
        let there : inner_reply (turn_of r p m v) ≡ inner_reply (turn_of r p m f) =
        typed m short v ∙ ap (λ (x : Option ErrorCode). 5 ∷ reply_by r p m v x) (gives.refusal refl) ∙ ap (λ (l : List ℕ). 5 ∷ l) gives.reply ∙ sym text in
        let P : List ℕ → Type 0 = λ l. (inner_reply (turn_of r p m (value l)) ≡ inner_reply (turn_of r p m f)) × IsAllowed h p (value l) × (length (answer_bytes r p m (value l)) ≤ MAX_MESSAGE_SIZE) × ((value l).pad ≡ k.pad) in
        subst P (sym text) (there, gives.allowed, gives.short, gives.pad)

    -- Application data depend on no length of an answer.
    data_allowed : IsAllowed h p (record k { reply = f.reply })
    data_allowed = record {
      least = may.least;
      most = may.most;
      unused = may.unused;
      context = may.context;
      exchange_opaque = may.exchange_opaque;
      nonce = may.nonce;
      measured_opaque = may.measured_opaque;
      handle = may.handle;
      reply = fits.reply;
      pad = may.pad;
    }

    data_least : AreLeast p (record k { reply = f.reply })
    data_least = record { context = least.context; exchange_opaque = least.exchange_opaque; nonce = least.nonce; measured_opaque = least.measured_opaque }

    by_type : (b : Bool) → let v = value (inner_reply (cond b (turn_of r p m f) (data_turn f m))) in
        (inner_reply (cond b (turn_of r p m v) (data_turn v m)) ≡ inner_reply (cond b (turn_of r p m f) (data_turn f m)))
        × IsAllowed h p v × (length (answer_bytes r p m v) ≤ MAX_MESSAGE_SIZE) × (v.pad ≡ k.pad)
    by_type true = spdm_gives
    by_type false =
        let less = no_longer r h p m f (record k { reply = f.reply }) fits data_allowed data_least in
        (refl, data_allowed, omega (arith, short), refl)

    by_refusal : (x : Option ErrorCode) → ((e : ErrorCode) → x ≡ Some e → e ≢ LargeResponse) → Gives x (value (inner_reply (session_turn_by r s request f x)))
    by_refusal (Some e) other =
        let gives = error_gives r h p m f k fits may least short e (other e refl) in
        (ap (λ (l : List ℕ). 5 ∷ l) gives.reply, gives.allowed, gives.short, gives.pad)
    by_refusal None other = by_type (slice_index request 0 == 5)

    -- The values that an inner message shows give it.
    pub inner_gives : GiveInner r h s request f k (value (inner_reply (session_turn r s request f)))
    unfolding session_turn
    inner_gives =
        let known = by_refusal (inner_refusal (stage_of s) request) (inner_other (stage_of s) request) in
        record { inner = known.0; allowed = known.1; short = known.2; pad = known.3 }

-- ---- The record.

updates_by : (r : RspSetup) (s : Events) (request : List ℕ) (f k : Free) (x : Option ErrorCode) → updates 2 (session_turn_by r s request f x) ≡ updates 2 (session_turn_by r s request k x)
updates_by r s request f k (Some e) = refl
updates_by r s request f k None = by_type (slice_index request 0 == 5)
  where
    by_type : (b : Bool) → updates 2 (cond b (turn_of r (session_place s) (drop 1 request) f) (data_turn f (drop 1 request))) ≡ updates 2 (cond b (turn_of r (session_place s) (drop 1 request) k) (data_turn k (drop 1 request)))
    by_type true = updates_same r s (drop 1 request) f k
    by_type false = refl

-- Under which key and number a record is answered depends on no value.
pub updates_alike : (r : RspSetup) (s : Events) (request : List ℕ) (f k : Free) → updates 2 (session_turn r s request f) ≡ updates 2 (session_turn r s request k)
unfolding session_turn
updates_alike r s request f k = updates_by r s request f k (inner_refusal (stage_of s) request)

abbrev purpose_at : List ℕ → Events → Bool → Purpose
purpose_at psk s b = cond b (record (response_purpose psk s) { epoch = response_epoch s + 1 }) (response_purpose psk s)

-- The record that answers, by whether all keys are updated.
abbrev record_at : List ℕ → Events → Bool → (inner pad : List ℕ) → List ℕ
record_at psk s b inner pad = sealed_of (session_terms s).choice (purpose_at psk s b) (cond b 0 (response_next s)) (id_bytes s) inner pad

pub record_is : (psk : List ℕ) (s : Events) (t u : Turn) (inner other pad padding : List ℕ) → updates 2 t ≡ updates 2 u → inner ≡ other → pad ≡ padding → reply_record psk s t inner pad ≡ reply_record psk s u other padding
unfolding reply_record
record_is psk s t u inner other pad padding same texts pads =
    ap (λ (b : Bool). record_at psk s b inner pad) same ∙ ap (λ (l : List ℕ). record_at psk s (updates 2 u) l pad) texts ∙ ap (record_at psk s (updates 2 u) other) pads

-- The text of the record that answers a turn, read under the key and number of another one.
pub text_is : (r : RspSetup) (s : Events) (t u : Turn) (inner pad : List ℕ) → updates 2 u ≡ updates 2 t → answered_text r s u (reply_record r.psk s t inner pad) ≡ plain_text inner pad
unfolding reply_record sealed_of
text_is r s t u inner pad same =
    let choice = (session_terms s).choice in
    let at : Bool → List ℕ → List ℕ = λ b sealed. opened_text (key_of choice.hash choice.aead (purpose_at r.psk s b)) (iv_of choice.hash (purpose_at r.psk s b)) (cond b 0 (response_next s)) sealed in
    ap (λ (b : Bool). at b (reply_record r.psk s t inner pad)) same
    ∙ opened_text-record (key_of choice.hash choice.aead (purpose_at r.psk s (updates 2 t))) (iv_of choice.hash (purpose_at r.psk s (updates 2 t))) (id_in_exchange (exchange_of s)) (id_in_exchange (exchange_answer s))
    (cond (updates 2 t) 0 (response_next s)) inner pad

-- A text shows its inner message and its padding.
pub text_shows : (r : RspSetup) (s : Events) (request : List ℕ) (f : Free) (inner pad : List ℕ) → length inner < 65536 → values_in_text r s request f (plain_text inner pad) ≡ values_in_inner r s request (record f { pad = pad }) inner
text_shows r s request f inner pad short =
    let size : little_number 2 (plain_text inner pad) ≡ length inner = inner_length (length inner) (inner ++ pad) short in
    let at : ℕ → Free = λ n. values_in_inner r s request (record f { pad = drop n (inner ++ pad) }) (take n (inner ++ pad)) in
    ap at size ∙ ap (λ (l : List ℕ). values_in_inner r s request (record f { pad = l }) (take (length inner) (inner ++ pad))) (drop-append_seam inner pad)
    ∙ ap (λ (l : List ℕ). values_in_inner r s request (record f { pad = pad }) l) (take-append_seam inner pad)

-- The values that a record shows give it.
pub record GiveRecord (r : RspSetup) (h : History) (s : Events) (request : List ℕ) (f v : Free) : Type 0 where
  pub reply : reply_record r.psk s (session_turn r s request v) (inner_reply (session_turn r s request v)) v.pad ≡ reply_record r.psk s (session_turn r s request f) (inner_reply (session_turn r s request f)) f.pad
  pub allowed : IsAllowed h (session_place s) v
  pub short : length (answer_bytes r (session_place s) (drop 1 request) v) ≤ MAX_MESSAGE_SIZE

pub record_gives : (r : RspSetup) (h : History) (s : Events) (request : List ℕ) (f : Free) (u : Turn) → r.beat < 256 → IsAllowed h (session_place s) f → length (answer_bytes r (session_place s) (drop 1 request) f) ≤ MAX_MESSAGE_SIZE
    → updates 2 u ≡ updates 2 (session_turn r s request f)
    → GiveRecord r h s request f (values_in_text r s request (least_values h (session_place s)) (answered_text r s u (reply_record r.psk s (session_turn r s request f) (inner_reply (session_turn r s request f)) f.pad)))
record_gives r h s request f u byte fits short same =
    let t : Turn = session_turn r s request f in
    let k : Free = padded h (session_place s) f.pad in
    let gives = inner_gives r h s f k byte fits (least_allowed h (session_place s) f.pad fits.pad) (least_are h (session_place s) f.pad) request short in
    let v : Free = values_in_inner r s request k (inner_reply t) in
    let brief : length (inner_reply t) < 65536 = (let e = session_short r s request f short fits.reply in omega arith) in
    let there : values_in_text r s request (least_values h (session_place s)) (answered_text r s u (reply_record r.psk s t (inner_reply t) f.pad)) ≡ v =
    ap (values_in_text r s request (least_values h (session_place s))) (text_is r s t u (inner_reply t) f.pad same) ∙ text_shows r s request (least_values h (session_place s)) (inner_reply t) f.pad brief in
    subst (GiveRecord r h s request f) (sym there) (record {
      reply = record_is r.psk s (session_turn r s request v) t (inner_reply (session_turn r s request v)) (inner_reply t) v.pad f.pad (updates_alike r s request v f) gives.inner gives.pad;
      allowed = gives.allowed;
      short = gives.short;
    })
