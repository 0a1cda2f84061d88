-- What the two ends make of the two messages of a clear measure.
use Rattle.std.proofs.Common.{◌≡◌, ◌∙◌, ℕ, ◌<◌, ◌≤◌, ◌+◌, ◌==◌, List, [], ◌∷◌, ◌++◌, length, Bool, true, false, Option, Some, None, Result, Ok, refl, sym, ap, subst, arith, length-append}
use Rattle.std.specs.Prelude.{if◌then◌else◌}
use Rattle.measurements.proofs.Lengths.{few}
use Rattle.measurements.specs.Blocks.{block_of, at_most_one}
use Rattle.measurements.specs.Records.{asked as blocks_asked, is_missing}
use Rattle.spdm_basis.proofs.Bools.{and_second, lt_false}
use Rattle.spdm_grammar.specs.declared.names.TheConstants.{MAX_MESSAGE_SIZE, MIN_DATA_TRANSFER_SIZE}
use Rattle.spdm_grammar.specs.declared.told.block_spec.BlockSpec.{BlockSpec}
use Rattle.spdm_grammar.specs.Message.{MeasuredMessage, ResponseMessage}
use Rattle.spdm_grammar.specs.Message.RequestMessage.{GetMeasurements}
use Rattle.spdm_grammar.specs.Message.ResponseMessage.{Measurements}
use Rattle.spdm_grammar.specs.Requests.{canonical_request}
use Rattle.spdm_grammar.specs.Responses.{canonical_response, FitsResponse, IsSoundResponse}
use Rattle.spdm_grammar.specs.declared.told.event.Event.TheVariants as event
use Rattle.spdm_grammar.specs.declared.told.event.Finished.TheVariants as finished
use Rattle.spdm_grammar.specs.declared.told.phase.Phase.{Phase}
use Rattle.spdm_grammar.specs.declared.told.phase.Phase.TheVariants.{Negotiated}
use Rattle.spdm_grammar.specs.declared.names.request_code.TheConstants.{GET_MEASUREMENTS}
use Rattle.spdm_machine.specs.Keys.{Draw}
use Rattle.spdm_machine.specs.Terms.{Terms, hash_len, terms_of}
use Rattle.requester_machine.specs.Answers.{is_done}
use Rattle.requester_machine.specs.Does.{body_chosen, requester_hears}
use Rattle.requester_machine.specs.History as asked
use Rattle.requester_machine.specs.History.{Led, outstanding, negotiation_of}
use Rattle.requester_machine.specs.History.Effect.{Answers, Grants, Nothing}
use Rattle.requester_machine.specs.Setup.{ReqSetup}
use Rattle.requester_machine.specs.Message.Ask.{AskData, AskMeasure}
use Rattle.requester_machine.specs.Shown.{blocks_in, blocks_of, bytes_in, effect_in, last_data}
use Rattle.responder_machine.specs.Answer.{answer_of}
use Rattle.responder_machine.specs.Does.{chosen, clear_chosen}
use Rattle.responder_machine.specs.Handling.{turn_of}
use Rattle.responder_machine.specs.History as served
use Rattle.responder_machine.specs.Place.{clear_place, place_terms}
use Rattle.responder_machine.specs.Refusal.{lacks_flag, phase_allows, has_pending}
use Rattle.responder_machine.specs.Responder.{is_repeat}
use Rattle.responder_machine.specs.Setup.{RspSetup, inventory_of}
use Rattle.std.specs.Prelude.{unwrap_or}
use Rattle.std.specs.Option.{option_or}
use Rattle.std.specs.Result.{result_ok}
use Rattle.negotiate.specs.declared.shared.Common.{Common}
use Rattle.spdm_grammar.specs.declared.told.event.ReqIgnored.{ReqIgnored}
use Rattle.spdm_machine.proofs.Members.{none_some}
use Rattle.requester_machine.specs.Asking.{asks}
use Rattle.requester_machine.specs.Asking.Outcome.{Adds}
use Rattle.requester_machine.specs.History.{connection_terms, next_tag}
use Rattle.requester_machine.specs.History.Entry.{Told, TookClear}
use Rattle.requester_machine.specs.Message.{Sent}
use Rattle.requester_machine.specs.Message.Command.{Measure}
use Rattle.requester_machine.specs.Requesting.{Requesting, CommandStep, requester_told, commanded_by, is_worn, next_draw}
use Rattle.requester_machine.specs.Sending.{plain_sent, request_sent}
use Rattle.spdm_progress.proofs.RequesterStages.{next_small}
use Rattle.std.specs.Prelude.{bytes_eq}
use Rattle.std.proofs.lemmas.Bool.{false≢true}
use Rattle.std.proofs.lemmas.Slice.Eq.{bytes_eq-Decides}
use Rattle.spdm_grammar.specs.declared.messages.error_code.ErrorCode.{ErrorCode}
use Rattle.spdm_machine.specs.Bodies.{clear_body}
use Rattle.spdm_machine.proofs.Members.{some_same}
use Rattle.responder_machine.proofs.Repeats.{kept_of-taken}
use Rattle.responder_machine.proofs.Turns.{turn_of-effect, turn_of-refused}
use Rattle.responder_machine.specs.Does.{IsMade}
use Rattle.responder_machine.specs.Handling.{goes_large}
use Rattle.responder_machine.specs.History.Entry.{Clear, Sealed, Queued, Ticked, Dropped}
use Rattle.responder_machine.specs.Refusal.{refusal}
use Rattle.responder_machine.specs.Responder.{Outcome, after, body_of}
use Rattle.responder_machine.specs.Responding.{data_of}
use Rattle.responder_machine.specs.Turn.{Turn, is_taken}
use Rattle.responder_machine.specs.Turn.Effect.{NoEffect}
use Rattle.spdm_agreement.proofs.Responder.Negotiation.{entry_turn}
use Rattle.spdm_progress.proofs.Drawn.{AreDrawn}
use Rattle.spdm_progress.proofs.ResponderTurns.{taken_somehow, turn_with}
use Rattle.transcript.specs.Transcripts.{Negotiation}
use Rattle.spdm_progress.specs.Measuring.{record_for, number_for, measurements_size}
use Rattle.spdm_progress.proofs.Accepted.{told_done}
use Rattle.spdm_progress.proofs.AtRequester.{led_plain}
use Rattle.spdm_progress.proofs.RequesterStages.{Asks, Hears, hears_as, hears_by, reads}
use Rattle.spdm_progress.proofs.ResponderBegins.{SameClear, is_none_none, refused_with}
use Rattle.spdm_progress.proofs.ResponderStages.{Answered, Takes, adds, answers_by, not_large, not_too_long, same_by}
use Rattle.spdm_progress.proofs.ResponderTurns.{read_at, taken_at, taken_turn}
use Rattle.requester_machine.proofs.Telling.{fresh_told}

-- ---- The two messages.

abbrev pub get_measurements : ℕ → List ℕ
get_measurements op = canonical_request (GetMeasurements op)

abbrev pub measured : RspSetup → ℕ → List ℕ → MeasuredMessage
measured r op nonce = record {
  total = if op == 0 then length (inventory_of r) else 0;
  blocks = length (blocks_asked op (inventory_of r));
  block_bytes = record_for r op;
  nonce = nonce;
  opaque = [];
}

abbrev pub measurements : RspSetup → ℕ → List ℕ → List ℕ
measurements r op nonce = canonical_response (Measurements (measured r op nonce))

size_of : (total blocks : ℕ) (bytes nonce : List ℕ) → length nonce ≡ 32 → length (canonical_response (Measurements (record { total = total; blocks = blocks; block_bytes = bytes; nonce = nonce; opaque = [] }))) ≡ 42 + length bytes
size_of total blocks bytes nonce whole =
    let all = length-append ((bytes ++ nonce) ++ 0 ∷ 0 ∷ []) [] in
    let outer = length-append (bytes ++ nonce) (0 ∷ 0 ∷ []) in
    let inner = length-append bytes nonce in
    omega (arith, all, outer, inner, whole)

pub measurements_are : (r : RspSetup) (op : ℕ) (nonce : List ℕ) → length nonce ≡ 32 → length (measurements r op nonce) ≡ measurements_size r op
measurements_are r op nonce whole = size_of (if op == 0 then length (inventory_of r) else 0) (length (blocks_asked op (inventory_of r))) (record_for r op) nonce whole

-- ---- The responder.

-- What the two set-ups and the negotiation are.
pub record CanServe (q : ReqSetup) (r : RspSetup) (op : ℕ) (n : Negotiation) : Type 0 where
  pub room : MIN_DATA_TRANSFER_SIZE ≤ r.transfer
  pub byte : op < 256
  pub block : is_missing op (inventory_of r) ≡ false
  pub chosen : (terms_of n).choice.measure ≡ true
  pub fits : measurements_size r op ≤ (terms_of n).common.to_requester.transfer
  pub fits_max : measurements_size r op ≤ (terms_of n).common.to_requester.max
  pub fits_own : measurements_size r op ≤ q.transfer
  pub most : q.transfer ≤ MAX_MESSAGE_SIZE

-- ---- The same request again.

-- Where GET_MEASUREMENTS is the last clear request that was taken, it was answered by a MEASUREMENTS of the same blocks.
abbrev pub Again : RspSetup → ℕ → served.History → Type 0
Again r op h = (k : served.Kept) → served.kept_of h ≡ Some k → k.message ≡ get_measurements op → (nonce : List ℕ) × (length nonce ≡ 32) × (k.reply ≡ measurements r op nonce)

again_on : (r : RspSetup) (op : ℕ) (old new : served.History) → served.kept_of new ≡ served.kept_of old → Again r op old → Again r op new
again_on r op old new same again k is message = again k (sym same ∙ is) message

pub record Serves (r : RspSetup) (n : Negotiation) (tag op : ℕ) (h : served.History) : Type 0 where
  pub phase_is : served.phase_of (served.clear_turns h) ≡ Negotiated
  pub negotiation : served.negotiation_of (served.clear_turns h) ≡ n
  pub again : Again r op h

pub record Served (n : Negotiation) (h : served.History) : Type 0 where
  pub phase_is : served.phase_of (served.clear_turns h) ≡ Negotiated
  pub negotiation : served.negotiation_of (served.clear_turns h) ≡ n

pub serves_on : (r : RspSetup) (n : Negotiation) (tag op : ℕ) (old new : served.History) → SameClear old new → Serves r n tag op old → Serves r n tag op new
serves_on r n tag op old new same s = record { phase_is = same.phase ∙ s.phase_is; negotiation = same.negotiation ∙ s.negotiation; again = again_on r op old new same.kept s.again }

pub served_on : (n : Negotiation) (old new : served.History) → SameClear old new → Served n old → Served n new
served_on n old new same s = record { phase_is = same.phase ∙ s.phase_is; negotiation = same.negotiation ∙ s.negotiation }

pub measures_flag : (terms : Terms) → terms.choice.measure ≡ true → lacks_flag terms GET_MEASUREMENTS ≡ false
measures_flag terms e = rw e refl

-- The answer as the responder makes it.
abbrev pub answer_at : RspSetup → served.History → Draw → ℕ → List ℕ
answer_at r h d op = canonical_response (answer_of r (clear_place h) (get_measurements op) (clear_chosen r h d) (GetMeasurements op))

pub answer_is : (r : RspSetup) (h : served.History) (d : Draw) (op : ℕ) → answer_at r h d op ≡ measurements r op d.bytes
unfolding chosen
answer_is r h d op = refl

takes_under : (q : ReqSetup) (r : RspSetup) (h : served.History) (d : Draw) (op : ℕ) (n : Negotiation) → length d.bytes ≡ 32 → CanServe q r op n → served.negotiation_of (served.clear_turns h) ≡ n → Takes (clear_place h) (length (answer_at r h d op))
takes_under q r h d op n drawn can under =
    let size : length (answer_at r h d op) ≡ measurements_size r op = ap length (answer_is r h d op) ∙ measurements_are r op d.bytes drawn in record {
      both = λ known. subst (λ (x : Negotiation). (length (answer_at r h d op) ≤ (terms_of x).common.to_requester.max) × (length (answer_at r h d op) ≤ (terms_of x).common.to_requester.transfer)) (sym under)
          (subst (λ (k : ℕ). k ≤ (terms_of n).common.to_requester.max) (sym size) can.fits_max, subst (λ (k : ℕ). k ≤ (terms_of n).common.to_requester.transfer) (sym size) can.fits);
    }

pub measure_turn : (q : ReqSetup) (r : RspSetup) (h : served.History) (d : Draw) (tag op : ℕ) (n : Negotiation) → length d.bytes ≡ 32 → CanServe q r op n → Serves r n tag op h
    → turn_of r (clear_place h) (get_measurements op) (clear_chosen r h d) ≡ taken_turn r (clear_place h) (get_measurements op) (clear_chosen r h d) (GetMeasurements op)
measure_turn q r h d tag op n drawn can has =
    let takes = takes_under q r h d op n drawn can has.negotiation in
    let room = can.room in
    taken_at r (clear_place h) (get_measurements op) (clear_chosen r h d) (GetMeasurements op) (read_at (clear_place h) (GetMeasurements op) can.byte tt) refl
    (record {
      long = refl;
      short = lt_false r.transfer 4 (omega arith);
      known = refl;
      outside = refl;
      whole = refl;
      placed = refl;
      allowed = ap (λ (x : Phase). phase_allows x (has_pending (clear_place h)) GET_MEASUREMENTS) has.phase_is;
      version = refl;
    })
    (record {
      flags = measures_flag (place_terms (clear_place h)) (ap (λ (x : Negotiation). (terms_of x).choice.measure) has.negotiation ∙ can.chosen);
      caps = refl;
      offer = refl;
      block = can.block;
      exchange = refl;
      verify = refl;
      update = refl;
      chunk = refl;
      get = refl;
      fits = not_too_long h (answer_at r h d op) takes;
      limit = refl;
    })
    (not_large h (answer_at r h d op) takes)

-- The answer, from memory or anew.
abbrev IsAnswered : RspSetup → served.History → ℕ → ℕ → Negotiation → Draw → Type 0
IsAnswered r h tag op n d = (nonce : List ℕ) × (length nonce ≡ 32) × Answered r h tag (get_measurements op) d (measurements r op nonce) (Served n)

from_memory : (q : ReqSetup) (r : RspSetup) (h : served.History) (d : Draw) (tag op : ℕ) (n : Negotiation) → Serves r n tag op h → (o : Option served.Kept) → served.kept_of h ≡ o → is_repeat o tag (get_measurements op) ≡ true → IsAnswered r h tag op n d
from_memory q r h d tag op n has None is repeats = absurd (false≢true repeats)
from_memory q r h d tag op n has (Some k) is repeats =
    let found = has.again k is ((bytes_eq-Decides k.message (get_measurements op)).0 (and_second (k.tag == tag) (bytes_eq k.message (get_measurements op)) repeats)) in
    let same = same_by r h tag (get_measurements op) d k is (ap (λ (o : Option served.Kept). is_repeat o tag (get_measurements op)) is ∙ repeats) in (
      found.0,
      found.1,
      record {
        body = ap body_of same ∙ ap clear_body found.2;
        leaves = subst (λ (o : Outcome). Served n (after h o)) (sym same) (record { phase_is = has.phase_is; negotiation = has.negotiation });
        nothing = ap data_of same;
      },
    )

anew : (q : ReqSetup) (r : RspSetup) (h : served.History) (d : Draw) (tag op : ℕ) (n : Negotiation) → length d.bytes ≡ 32 → CanServe q r op n → Serves r n tag op h → is_repeat (served.kept_of h) tag (get_measurements op) ≡ false → IsAnswered r h tag op n d
anew q r h d tag op n drawn can has new =
    let t = taken_turn r (clear_place h) (get_measurements op) (clear_chosen r h d) (GetMeasurements op) in (
      d.bytes,
      drawn,
      subst (λ (reply : List ℕ). Answered r h tag (get_measurements op) d reply (Served n)) (answer_is r h d op)
          (answers_by r h tag (get_measurements op) d t (Served n) (adds r h tag (get_measurements op) d t new (measure_turn q r h d tag op n drawn can has))
          (record { phase_is = has.phase_is; negotiation = has.negotiation })),
    )

answered_by : (q : ReqSetup) (r : RspSetup) (h : served.History) (d : Draw) (tag op : ℕ) (n : Negotiation) → length d.bytes ≡ 32 → CanServe q r op n → Serves r n tag op h → (b : Bool) → is_repeat (served.kept_of h) tag (get_measurements op) ≡ b → IsAnswered r h tag op n d
answered_by q r h d tag op n drawn can has true repeats = from_memory q r h d tag op n has (served.kept_of h) refl repeats
answered_by q r h d tag op n drawn can has false new = anew q r h d tag op n drawn can has new

pub measure_answered : (q : ReqSetup) (r : RspSetup) (h : served.History) (d : Draw) (tag op : ℕ) (n : Negotiation) → length d.bytes ≡ 32 → CanServe q r op n → Serves r n tag op h
    → (nonce : List ℕ) × (length nonce ≡ 32) × Answered r h tag (get_measurements op) d (measurements r op nonce) (Served n)
measure_answered q r h d tag op n drawn can has = answered_by q r h d tag op n drawn can has (is_repeat (served.kept_of h) tag (get_measurements op)) refl

-- ---- Where it comes from.

pub unchanged : (h : served.History) (t : Turn) → t.effect ≡ NoEffect → served.negotiation_of (t ∷ served.clear_turns h) ≡ served.negotiation_of (served.clear_turns h)
unchanged h t nothing = rw nothing refl

-- What a request that is taken leads to, whether its answer is large or not.
abbrev pub some_turn : RspSetup → served.History → Draw → ℕ → Bool → Turn
some_turn r h d op large = turn_with (get_measurements op) (clear_chosen r h d) (Some (GetMeasurements op)) (answer_at r h d op) large

pub same_negotiation : (r : RspSetup) (h : served.History) (d : Draw) (op : ℕ) (large : Bool) → served.negotiation_of (some_turn r h d op large ∷ served.clear_turns h) ≡ served.negotiation_of (served.clear_turns h)
same_negotiation r h d op large = refl

-- A request that was not refused was taken so.
pub taken_so : (r : RspSetup) (h : served.History) (d : Draw) (op : ℕ) (o : Option ErrorCode) → op < 256 → refusal r (clear_place h) (get_measurements op) (clear_chosen r h d) ≡ o → is_taken (turn_of r (clear_place h) (get_measurements op) (clear_chosen r h d)) ≡ true
    → turn_of r (clear_place h) (get_measurements op) (clear_chosen r h d) ≡ some_turn r h d op (goes_large (clear_place h) (answer_at r h d op))
taken_so r h d op (Some e) byte refused taken =
    absurd (false≢true (sym (ap is_taken (turn_of-refused r (clear_place h) (get_measurements op) (clear_chosen r h d) e refused)) ∙ taken))
taken_so r h d op None byte refused taken = taken_somehow r (clear_place h) (get_measurements op) (clear_chosen r h d) (GetMeasurements op) (read_at (clear_place h) (GetMeasurements op) byte tt) refl refused

module _ (q : ReqSetup) (r : RspSetup) (op : ℕ) (n : Negotiation) (can : CanServe q r op n) where
  entry_again : (older : served.History) (tag : ℕ) (t : Turn) (d : Draw) → turn_of r (clear_place older) t.message (clear_chosen r older d) ≡ t → length d.bytes ≡ 32 → served.negotiation_of (t ∷ served.clear_turns older) ≡ n
      → (served.negotiation_of (served.clear_turns older) ≡ n → Again r op older) → (b : Bool) → is_taken t ≡ b → Again r op (Clear tag t d ∷ older)
  entry_again older tag t d turn drawn under next true taken = λ k is message.
      let same : record { tag = tag; message = t.message; reply = t.reply } ≡ k = some_same _ k (sym (kept_of-taken tag t d older (is_none_none t.refused taken)) ∙ is) in
      let its : t.message ≡ get_measurements op = ap (λ (x : served.Kept). x.message) same ∙ message in
      let here : turn_of r (clear_place older) (get_measurements op) (clear_chosen r older d) ≡ t = ap (λ (m : List ℕ). turn_of r (clear_place older) m (clear_chosen r older d)) (sym its) ∙ turn in
      let so = taken_so r older d op (refusal r (clear_place older) (get_measurements op) (clear_chosen r older d)) can.byte refl (ap is_taken here ∙ taken) in
      let before : served.negotiation_of (served.clear_turns older) ≡ n = sym (same_negotiation r older d op (goes_large (clear_place older) (answer_at r older d op))) ∙ ap (λ (u : Turn). served.negotiation_of (u ∷ served.clear_turns older)) (sym so ∙ here) ∙ under in
      let small = not_large older (answer_at r older d op) (takes_under q r older d op n drawn can before) in
      let reply : t.reply ≡ answer_at r older d op = sym (ap (λ (u : Turn). u.reply) (sym so ∙ here)) ∙ ap (λ (large : Bool). (some_turn r older d op large).reply) small in
      (d.bytes, drawn, sym (ap (λ (x : served.Kept). x.reply) same) ∙ reply ∙ answer_is r older d op)
  entry_again older tag t d turn drawn under next false refused =
      let code = refused_with t.refused refused in
      let nothing : t.effect ≡ NoEffect = sym (ap (λ (u : Turn). u.effect) turn) ∙ turn_of-effect r (clear_place older) t.message (clear_chosen r older d) code.0 (ap (λ (u : Turn). u.refused) turn ∙ code.1) in
      again_on r op older (Clear tag t d ∷ older) (rw refused refl) (next (sym (unchanged older t nothing) ∙ under))

  pub made_again : (h : served.History) → IsMade r h → AreDrawn h → served.negotiation_of (served.clear_turns h) ≡ n → Again r op h
  made_again [] made drawn under = λ k is message. absurd (none_some k is)
  made_again (Clear tag t d ∷ older) made drawn under = entry_again older tag t d (entry_turn r older tag t d made.0) drawn.0 under (made_again older made.1 drawn.1) (is_taken t) refl
  made_again (Sealed tag m t reply d ∷ older) made drawn under = again_on r op older (Sealed tag m t reply d ∷ older) refl (made_again older made.1 drawn under)
  made_again (Queued bytes ∷ older) made drawn under = again_on r op older (Queued bytes ∷ older) refl (made_again older made.2 drawn under)
  made_again (Ticked seconds ∷ older) made drawn under = again_on r op older (Ticked seconds ∷ older) refl (made_again older made drawn under)
  made_again (Dropped id ∷ older) made drawn under = absurd made

-- ---- The requester.

inventory_few : (r : RspSetup) → length (inventory_of r) ≤ 254
inventory_few r = few 254 r.blocks

one_few : (o : Option BlockSpec) → length (at_most_one o) ≤ 254
one_few None = omega arith
one_few (Some block) = omega arith

asked_few : (b c : Bool) (blocks one : List BlockSpec) → length blocks ≤ 254 → length one ≤ 254 → length (if b then [] else (if c then blocks else one)) ≤ 254
asked_few true c blocks one x y = omega arith
asked_few false true blocks one x y = x
asked_few false false blocks one x y = y

total_few : (b : Bool) (n : ℕ) → n ≤ 254 → (if b then n else 0) ≤ 254
total_few true n x = x
total_few false n x = omega arith

pub measured_fits : (r : RspSetup) (op : ℕ) (nonce : List ℕ) → FitsResponse (Measurements (measured r op nonce))
measured_fits r op nonce =
    let total = total_few (op == 0) (length (inventory_of r)) (inventory_few r) in
    let blocks = asked_few (op == 0) (op == 255) (inventory_of r) (at_most_one (block_of op (inventory_of r))) (inventory_few r) (one_few (block_of op (inventory_of r))) in
    ((omega arith), (omega arith))

pub measured_sound : (r : RspSetup) (op len : ℕ) (nonce : List ℕ) → length nonce ≡ 32 → measurements_size r op ≤ 4138 → IsSoundResponse len false (Measurements (measured r op nonce))
measured_sound r op len nonce whole fits = record { block_bytes = omega arith; nonce = whole; opaque = omega arith }

pub told_number : (b : Bool) (n k : ℕ) → (if b then (if b then n else 0) else k) ≡ (if b then n else k)
told_number true n k = refl
told_number false n k = refl

-- It is over: nothing is outstanding, and the record was taken.
pub record IsMeasuredBy (r : RspSetup) (op : ℕ) (h : asked.History) : Type 0 where
  pub none : outstanding h ≡ None
  pub taken : last_data h ≡ record_for r op

abbrev pub measured_led : RspSetup → ℕ → List ℕ → Led
measured_led r op nonce = is_done (finished.Measured (number_for r op)) (Answers (GetMeasurements op) (measurements r op nonce))

-- What is taken last after it, however the answer came.
pub record_taken : (r : RspSetup) (h : asked.History) (tag op : ℕ) (m nonce : List ℕ) (d : Draw) → length nonce ≡ 32 → measurements_size r op ≤ 4138 → last_data (TookClear tag m (measured_led r op nonce) d ∷ h) ≡ record_for r op
record_taken r h tag op m nonce d whole within =
    ap (λ (o : Option ResponseMessage). unwrap_or (option_or None (blocks_of o)) (last_data h)) (ap result_ok (reads h (Measurements (measured r op nonce)) 32 (measured_fits r op nonce) (measured_sound r op 32 nonce whole within)))

-- What the newest entry brought about.
abbrev pub newest_in : asked.History → asked.Effect
newest_in [] = Nothing
newest_in (entry ∷ older) = effect_in entry

-- What is taken last after an answer in a session.
pub granted_record : (r : RspSetup) (op : ℕ) (nonce : List ℕ) (h : asked.History) → newest_in h ≡ Grants (AskMeasure op) (measurements r op nonce) → length nonce ≡ 32 → measurements_size r op ≤ 4138 → last_data h ≡ record_for r op
granted_record r op nonce [] is whole within = absurd (cc)
granted_record r op nonce (entry ∷ older) is whole within =
    ap (λ (e : asked.Effect). unwrap_or (option_or (bytes_in e) (blocks_in e)) (last_data older)) is
    ∙ ap (λ (o : Option ResponseMessage). unwrap_or (option_or None (blocks_of o)) (last_data older)) (ap result_ok (reads older (Measurements (measured r op nonce)) 32 (measured_fits r op nonce) (measured_sound r op 32 nonce whole within)))

pub granted_data : (h : asked.History) (bytes : List ℕ) → newest_in h ≡ Grants AskData bytes → last_data h ≡ bytes
granted_data [] bytes is = absurd (cc)
granted_data (entry ∷ older) bytes is = ap (λ (e : asked.Effect). unwrap_or (option_or (bytes_in e) (blocks_in e)) (last_data older)) is

pub measure_outcome : (q : ReqSetup) (r : RspSetup) (h : asked.History) (tag op : ℕ) (n : Negotiation) (nonce : List ℕ) (d : Draw) → length nonce ≡ 32 → CanServe q r op n → Asks q tag (GetMeasurements op) (get_measurements op) n h
    → requester_hears q h false tag (clear_body (measurements r op nonce)) d ≡ Adds (TookClear tag (measurements r op nonce) (measured_led r op nonce) d)
measure_outcome q r h tag op n nonce d whole can asks =
    let asked_it = GetMeasurements op in
    let answer = measurements r op nonce in
    let fits = can.fits_own in
    let most = can.most in
    let within : measurements_size r op ≤ 4138 = omega arith in
    let size = measurements_are r op nonce whole in
    hears_as q h tag asked_it (get_measurements op) n answer d (measured_led r op nonce) asks (omega (arith, size, fits))
    (led_plain q h (body_chosen q h d) asked_it answer (Measurements (measured r op nonce)) (reads h (Measurements (measured r op nonce)) (hash_len (connection_terms h)) (measured_fits r op nonce) (measured_sound r op (hash_len (connection_terms h)) nonce whole within))
    ∙ ap (λ (k : ℕ). let x : Result Led ReqIgnored = Ok (is_done (finished.Measured k) (Answers asked_it answer)) in x) (told_number (op == 0) (length (inventory_of r)) (length (blocks_asked op (inventory_of r)))))

pub measure_heard : (q : ReqSetup) (r : RspSetup) (h : asked.History) (tag op : ℕ) (n : Negotiation) (nonce : List ℕ) (d : Draw) → length nonce ≡ 32 → CanServe q r op n → Asks q tag (GetMeasurements op) (get_measurements op) n h
    → Hears q h tag (measurements r op nonce) d (event.Done (finished.Measured (number_for r op))) None (IsMeasuredBy r op)
measure_heard q r h tag op n nonce d whole can asks =
    let fits = can.fits_own in
    let most = can.most in
    let within : measurements_size r op ≤ 4138 = omega arith in
    hears_by q h tag (measurements r op nonce) d (measured_led r op nonce) (IsMeasuredBy r op) (measure_outcome q r h tag op n nonce d whole can asks)
    (record {
      none = refl;
      taken = record_taken r h tag op (measurements r op nonce) nonce d whole within;
    })

-- ---- The command.

sent_whole : (common : Common) (h : asked.History) (op : ℕ) → 4 ≤ common.to_responder.transfer → request_sent common h (GetMeasurements op) ≡ plain_sent h (GetMeasurements op)
sent_whole common h op room = rw (lt_false common.to_responder.transfer 4 room) refl

pub told_measure : (a : Requesting) (op : ℕ) → is_worn a ≡ false → (requester_told a (Measure None op)).fault ≡ None → 4 ≤ (connection_terms a.history).common.to_responder.transfer
    → requester_told a (Measure None op) ≡ commanded_by a (Adds (Told (Measure None op) (plain_sent a.history (GetMeasurements op)) (next_draw a)))
told_measure a op fresh accepted room =
    let step = fresh_told a (Measure None op) fresh in
    step
    ∙ ap (commanded_by a) (told_done a.setup a.history (Measure None op) (next_draw a) (sym (ap (λ (s : CommandStep). s.fault) step) ∙ accepted)
    ∙ ap (λ (sent : Sent). Adds (Told (Measure None op) sent (next_draw a))) (sent_whole (connection_terms a.history).common a.history op room))

pub asks_measure : (q : ReqSetup) (h : asked.History) (d : Draw) (op : ℕ) (n : Negotiation) → negotiation_of h ≡ n → Asks q (next_tag h) (GetMeasurements op) (get_measurements op) n (Told (Measure None op) (plain_sent h (GetMeasurements op)) d ∷ h)
asks_measure q h d op n is = record { waits = refl; negotiation = is; small = next_small h }
