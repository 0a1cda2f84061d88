-- No answer to CHUNK_GET goes by LargeResponse.
use Rattle.std.proofs.Math.Bool.{and-false}
use Rattle.capture_machine.proofs.DropsTell.{clear_form}
use Rattle.capture_machine.proofs.PlainTells.{ClearLed, led_clear, led_record}
use Rattle.capture_machine.proofs.RecordAdds.{record_added}
use Rattle.capture_machine.specs.Rounds.{no_draw}
use Rattle.capture_machine.specs.LargeAnswers.{is_large, takes_get}
use Rattle.capture_machine.specs.CapturedAnswers.{MayLeadTo}
use Rattle.responder_machine.specs.Responder.Outcome.{Adds}
use Rattle.responder_machine.specs.Records.{opened}
use Rattle.responder_machine.specs.History.Entry.{Clear}
use Rattle.responder_machine.specs.History.{History, Entry}
use Rattle.responder_machine.proofs.Tests.{form_shown, contents_shown}
use Rattle.responder_machine.proofs.Codes.{asked-code}
use Rattle.responder_machine.proofs.Sizes.{IsSized, common_sized}
use Rattle.responder_machine.specs.Turn.Effect.{NoEffect}
use Rattle.responder_machine.specs.Turn.{Effect, code_in, handle_in}
use Rattle.responder_machine.specs.Setup.{RspSetup}
use Rattle.responder_machine.specs.Session.{Events, stage_of, session_of, id_in_record}
use Rattle.responder_machine.specs.Responder.{session_turn, session_turn_by, inner_refusal, data_turn}
use Rattle.responder_machine.specs.Refusal.{refusal, code_of, lacks_flag, bytes_round, sizes_are_known, is_misplaced}
use Rattle.responder_machine.specs.Place.Where.{InChunks}
use Rattle.responder_machine.specs.Place.{Place, place_terms, session_place, inside, clear_place}
use Rattle.responder_machine.specs.LargeMessages.{chunks_of, pending_of}
use Rattle.responder_machine.specs.Handling.{turn_of, turn_by, chunk_in, carried_turn, last_chunk_turn, taken_chunk, effect_of, handle_for, goes_large}
use Rattle.responder_machine.specs.Answer.{Free, answer_bytes, answer_to, request_at}
use Rattle.chunking.specs.Collecting.{under_way, joined_with}
use Rattle.spdm_grammar.specs.declared.messages.error_code.ErrorCode.{ErrorCode}
use Rattle.spdm_grammar.specs.Codes.{code_for}
use Rattle.spdm_grammar.specs.Fields.{zeros, large_bytes}
use Rattle.byteorder.specs.Endian.{little_bytes}
use Rattle.std.proofs.Common.{◌≡◌, ◌≤◌, ◌+◌, ◌-◌, ◌==◌, ◌&&◌, ◌||◌, ℕ, List, [], ◌∷◌, ◌++◌, refl, sym, ap, ◌∙◌, subst, length, drop, Bool, true, false, Option, Some, None, is_some, cond, arith, eqb-true, inl, inr}
use Rattle.std.specs.Prelude.{not, nat_lt, slice_index, unwrap_or}
use Rattle.std.specs.Result.{result_ok}
use Rattle.std.proofs.lemmas.Bool.{false≢true, le-ltb}
use Rattle.chunking.specs.Cutting.{nth_chunk}
use Rattle.chunking.proofs.ChunkSteps.{size_is}
use Rattle.negotiate.specs.Capabilities.{common_of}
use Rattle.negotiate.specs.declared.shared.Common.{Common}
use Rattle.spdm_grammar.specs.Message.{RequestMessage, ChunkMessage}
use Rattle.spdm_grammar.specs.Message.RequestMessage.{ChunkGet}
use Rattle.spdm_grammar.specs.Message.ResponseMessage.{ChunkResponse}
use Rattle.spdm_grammar.specs.Responses.{canonical_response}
use Rattle.spdm_grammar.specs.declared.messages.capabilities.Caps.{Caps}
use Rattle.spdm_grammar.specs.declared.names.TheConstants.{MIN_DATA_TRANSFER_SIZE}
use Rattle.spdm_grammar.specs.declared.names.request_code.TheConstants.{CHUNK_GET}
use Rattle.spdm_machine.specs.Terms.{terms_of, common_from, no_common, asked_caps, told_caps, request_value, response_value}
use Rattle.transcript.specs.Transcripts.{Negotiation}

-- ---- Chunks are in common only where the sizes are large enough.

settled_sized : (o : Option Common) → ((common : Common) → o ≡ Some common → IsSized common) → (unwrap_or o no_common).chunk ≡ true → IsSized (unwrap_or o no_common)
settled_sized None all is = absurd (false≢true is)
settled_sized (Some common) all is = all common refl

from_sized : (a b : Option Caps) → (common_from a b).chunk ≡ true → IsSized (common_from a b)
from_sized (Some caps) (Some told) is = settled_sized (result_ok (common_of caps told)) (common_sized caps told) is
from_sized (Some caps) None is = absurd (false≢true is)
from_sized None b is = absurd (false≢true is)

pub chunk_sized : (n : Negotiation) → (terms_of n).common.chunk ≡ true → MIN_DATA_TRANSFER_SIZE ≤ (terms_of n).common.to_requester.transfer
unfolding terms_of
chunk_sized n is = (from_sized (asked_caps (request_value n.get_capabilities)) (told_caps (response_value n.capabilities)) is).0

-- ---- A chunk of a large answer fits the transfer size.

chunk_fits : (b : Bool) (last handle number size count unit : ℕ) (chunk : List ℕ) (told : ℕ) → length chunk ≤ cond b (unit - 4) unit → 4 ≤ unit
    → length ((last ∷ handle ∷ []) ++ little_bytes 2 number ++ zeros 2 ++ little_bytes 4 size ++ large_bytes (cond b (Some told) None) ++ chunk) ≤ unit + 10
chunk_fits true last handle number size count unit chunk told less four = omega (arith, less)
chunk_fits false last handle number size count unit chunk told less four = omega (arith, less)

piece_fits : (b : Bool) (transfer handle number : ℕ) (whole : List ℕ) → MIN_DATA_TRANSFER_SIZE ≤ transfer → (number == 0) ≡ b → length (nth_chunk transfer handle whole number).chunk ≤ cond b (transfer - 12 - 4) (transfer - 12)
piece_fits true transfer handle number whole low is =
    let zero_is : number ≡ 0 = eqb-true number 0 is in
    let P : ℕ → Type 0 = λ n. length (nth_chunk transfer handle whole n).chunk ≤ transfer - 12 - 4 in
    subst P (sym zero_is) (omega (arith, size_is transfer handle whole (omega arith) 0))
piece_fits false transfer handle number whole low is = omega (arith, size_is transfer handle whole (omega arith) number)

pub get_fits : (transfer handle number : ℕ) (whole : List ℕ) → MIN_DATA_TRANSFER_SIZE ≤ transfer → length (canonical_response (ChunkResponse (nth_chunk transfer handle whole number))) ≤ transfer
get_fits transfer handle number whole low =
    let c : ChunkMessage = nth_chunk transfer handle whole number in
    let fits = chunk_fits (number == 0) (cond c.last 1 0) handle number (length c.chunk) 0 (transfer - 12) c.chunk (length whole) (piece_fits (number == 0) transfer handle number whole low refl) (omega arith) in
    omega (arith, fits)

-- ---- A turn of CHUNK_GET.

not_or : (b : Bool) → ((not b || false) || false) ≡ false → b ≡ true
not_or true e = refl
not_or false e = sym e

-- Chunks are in common where CHUNK_GET is not refused.
pub get_chunks : (r : RspSetup) (p : Place) (m : List ℕ) (f : Free) (handle number : ℕ) → refusal r p m f ≡ None → request_at p m ≡ Some (ChunkGet handle number) → (place_terms p).common.chunk ≡ true
get_chunks r p m f handle number none is =
    let code : CHUNK_GET ≡ code_of m = asked-code p m (ChunkGet handle number) is in
    let lacks : lacks_flag (place_terms p) CHUNK_GET ≡ false = ap (lacks_flag (place_terms p)) code ∙ contents_shown r p m f none 0 in
    not_or (place_terms p).common.chunk lacks

get_small : (r : RspSetup) (p : Place) (m : List ℕ) (f : Free) (handle number : ℕ) → refusal r p m f ≡ None → request_at p m ≡ Some (ChunkGet handle number) → bytes_round p.at ≡ 0 → is_some (handle_for p f (answer_bytes r p m f)) ≡ false
unfolding answer_bytes
get_small r p m f handle number none is round =
    let transfer : ℕ = (place_terms p).common.to_requester.transfer in
    let low = chunk_sized p.negotiation (get_chunks r p m f handle number none is) in
    let whole : List ℕ = unwrap_or (pending_of transfer p.turns) [] in
    let fits = get_fits transfer handle number whole low in
    let answer : List ℕ = canonical_response (ChunkResponse (nth_chunk transfer handle whole number)) in
    let small : nat_lt transfer (bytes_round p.at + length answer) ≡ false = le-ltb transfer (bytes_round p.at + length answer) (omega (arith, fits)) in
    let large : goes_large p answer ≡ false = ap (λ (b : Bool). sizes_are_known p.phase && b) small ∙ and-false (sizes_are_known p.phase) in
    ap (λ (o : Option RequestMessage). is_some (handle_for p f (answer_to r p m f o))) is ∙ ap (λ (b : Bool). is_some (cond b (Some f.handle) None)) large

-- CHUNK_GET does not arrive in chunks.
pub not_carried : (r : RspSetup) (p : Place) (text : List ℕ) (f : Free) (q : RequestMessage) → refusal r (inside p) text f ≡ None → request_at (inside p) text ≡ Some q → (code_for q == CHUNK_GET) ≡ true → ⊥
not_carried r p text f q none is code =
    let at : CHUNK_GET ≡ code_of text = sym (eqb-true (code_for q) CHUNK_GET code) ∙ asked-code (inside p) text q is in
    false≢true (sym (form_shown r (inside p) text f none 5) ∙ ap (is_misplaced InChunks) (sym at))

-- What takes effect as CHUNK_GET is answered whole.
abbrev IsWhole : Effect → Type 0
IsWhole e = (code_in e == CHUNK_GET) ≡ true → is_some (handle_in e) ≡ false

asked_whole : (q : RequestMessage) (m answer : List ℕ) (large : Option ℕ) → ((handle number : ℕ) → q ≡ ChunkGet handle number → is_some large ≡ false) → IsWhole (effect_of (Some q) m answer large)
asked_whole (ChunkGet handle number) m answer large small is = small handle number refl
asked_whole _ m answer large small is = absurd (false≢true is)

plain_whole : (r : RspSetup) (p : Place) (m : List ℕ) (f : Free) (q : Option RequestMessage) → refusal r p m f ≡ None → bytes_round p.at ≡ 0 → request_at p m ≡ q → IsWhole (effect_of q m (answer_bytes r p m f) (handle_for p f (answer_bytes r p m f)))
plain_whole r p m f None none round is code = absurd (false≢true code)
plain_whole r p m f (Some q) none round is code =
    asked_whole q m (answer_bytes r p m f) (handle_for p f (answer_bytes r p m f)) (λ handle number same. get_small r p m f handle number none (is ∙ ap Some same) round) code

carried_whole : (r : RspSetup) (p : Place) (text : List ℕ) (f : Free) (q : Option RequestMessage) → refusal r (inside p) text f ≡ None → request_at (inside p) text ≡ q → IsWhole (effect_of q text (answer_bytes r (inside p) text f) (handle_for (inside p) f (answer_bytes r (inside p) text f)))
carried_whole r p text f None none is code = absurd (false≢true code)
carried_whole r p text f (Some q) none is code = absurd (not_carried r p text f q none is code)

last_whole : (r : RspSetup) (p : Place) (m : List ℕ) (f : Free) (c : ChunkMessage) (text : List ℕ) (x : Option ErrorCode) → refusal r (inside p) text f ≡ x → IsWhole (carried_turn r (inside p) m f c text x).effect
last_whole r p m f c text (Some e) is = λ code. absurd (false≢true code)
last_whole r p m f c text None is = carried_whole r p text f (request_at (inside p) text) is refl

chunk_whole : (r : RspSetup) (p : Place) (m : List ℕ) (f : Free) (c : ChunkMessage) (b : Bool) (text : List ℕ) → IsWhole (cond b (last_chunk_turn r (inside p) m f c text) (taken_chunk m c NoEffect [])).effect
chunk_whole r p m f c true text = last_whole r p m f c text (refusal r (inside p) text f) refl
chunk_whole r p m f c false text = λ code. absurd (false≢true code)

turn_whole : (r : RspSetup) (p : Place) (m : List ℕ) (f : Free) (x : Option ErrorCode) (c : Option ChunkMessage) → refusal r p m f ≡ x → bytes_round p.at ≡ 0 → IsWhole (turn_by r p m f x c).effect
turn_whole r p m f (Some e) c is round = λ code. absurd (false≢true code)
turn_whole r p m f None None is round = plain_whole r p m f (request_at p m) is round refl
turn_whole r p m f None (Some c) is round = chunk_whole r p m f c c.last (joined_with (under_way (chunks_of p.turns)) c)

pub turn_of_whole : (r : RspSetup) (p : Place) (m : List ℕ) (f : Free) → bytes_round p.at ≡ 0 → IsWhole (turn_of r p m f).effect
unfolding turn_of
turn_of_whole r p m f round = turn_whole r p m f (refusal r p m f) (chunk_in (request_at p m)) refl round

session_whole_by : (r : RspSetup) (s : Events) (inner : List ℕ) (f : Free) (x : Option ErrorCode) → IsWhole (session_turn_by r s inner f x).effect
session_whole_by r s inner f (Some e) = λ code. absurd (false≢true code)
session_whole_by r s inner f None = by_type (slice_index inner 0 == 5)
  where
    by_type : (b : Bool) → IsWhole (cond b (turn_of r (session_place s) (drop 1 inner) f) (data_turn f (drop 1 inner))).effect
    by_type true = turn_of_whole r (session_place s) (drop 1 inner) f refl
    by_type false = λ code. absurd (false≢true code)

pub session_whole : (r : RspSetup) (s : Events) (inner : List ℕ) (f : Free) → IsWhole (session_turn r s inner f).effect
unfolding session_turn
session_whole r s inner f = session_whole_by r s inner f (inner_refusal (stage_of s) inner)

-- ---- An entry.

-- What CHUNK_GET leads to goes whole.
pub gets_are_small : (r : RspSetup) (h : History) (tag : ℕ) (body : List ℕ) (e : Entry) → MayLeadTo r h tag body (Adds e) → takes_get e ≡ true → is_large e ≡ false
gets_are_small r h tag body e may gets = by_type (slice_index body 0 == 5) refl
  where
    clear : (led : ClearLed r h tag body (Adds e)) → is_large e ≡ false
    clear led = elim (clear_form r h tag (drop 1 body) led.free (Adds e) led.leads) [
      | inl same ↦ absurd (let x = same.1 in cc)
      | inr adds ↦
          let same : Clear tag (turn_of r (clear_place h) (drop 1 body) led.free) no_draw ≡ e = cc (sym adds) in
          ap is_large (sym same) ∙ turn_of_whole r (clear_place h) (drop 1 body) led.free refl (ap takes_get same ∙ gets)
    ]

    by_type : (b : Bool) → (slice_index body 0 == 5) ≡ b → is_large e ≡ false
    by_type true is = clear (led_clear r h tag body (Adds e) is may)
    by_type false is =
        let led = led_record r h tag body (Adds e) is may in
        let s : Events = session_of (id_in_record (drop 1 body)) h in
        let same = record_added r led.free tag (drop 1 body) e h led.leads in
        ap is_large (sym same) ∙ session_whole r s (opened r.psk s (drop 1 body)) led.free (ap takes_get same ∙ gets)
