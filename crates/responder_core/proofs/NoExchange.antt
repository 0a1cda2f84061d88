-- Clear messages that take no PSK_EXCHANGE.
use Rattle.std.proofs.Common.{refl, ◌∙◌, ◌≡◌, ℕ, List, [], true, false, Bool, Option, Some, None, ap, sym, subst}
use Rattle.std.proofs.lemmas.Bool.{false≢true}
use Rattle.std.specs.Prelude.{◌==◌, if◌then◌else◌}
use Rattle.responder_core.proofs.Chunked.{last_turn}
use Rattle.responder_core.proofs.Whole.{is_again, is_anew}
use Rattle.responder_core.specs.Answering.{is_made_here}
use Rattle.responder_core.specs.ClearPart.{BeginsNone}
use Rattle.responder_core.specs.Coming.{Completes, Seen}
use Rattle.responder_machine.proofs.Codes.{asked-code}
use Rattle.responder_machine.proofs.Turns.{turn_of-chunk, turn_of-effect}
use Rattle.responder_machine.specs.Answer.{Free, answer_bytes, request_at}
use Rattle.responder_machine.specs.Handling.{chunk_in, effect_of, handle_for, last_chunk_turn, taken_chunk, turn_by, turn_of}
use Rattle.responder_machine.specs.History.{History, kept_of}
use Rattle.responder_machine.specs.Laws.{completed_at}
use Rattle.responder_machine.specs.Place.{Place, clear_place, inside}
use Rattle.responder_machine.specs.Refusal.{code_of, refusal}
use Rattle.responder_machine.specs.Responder.{is_repeat, on_clear}
use Rattle.responder_machine.specs.Setup.{RspSetup}
use Rattle.responder_machine.specs.Turn.{Effect, Turn, code_in, takes}
use Rattle.responder_machine.specs.Turn.Effect.{NoEffect}
use Rattle.spdm_grammar.specs.Codes.{code_for}
use Rattle.spdm_grammar.specs.Message.{ChunkMessage, RequestMessage}
use Rattle.spdm_grammar.specs.Message.RequestMessage.{ChunkSend, PskExchange}
use Rattle.spdm_grammar.specs.declared.messages.error_code.ErrorCode.{ErrorCode}
use Rattle.spdm_grammar.specs.declared.names.request_code.TheConstants.{PSK_EXCHANGE}
use Rattle.spdm_machine.specs.Keys.{Draw}

-- A request whose answer is made here is none.
pub other_request : (asked : RequestMessage) → is_made_here asked ≡ true → (code_for asked == PSK_EXCHANGE) ≡ false
other_request (PskExchange exchange) here = absurd (false≢true here)
other_request _ here = refl

pub effect_takes_none : (p : Place) (m answer : List ℕ) (large : Option ℕ) (q : Option RequestMessage) → request_at p m ≡ q → (code_of m == PSK_EXCHANGE) ≡ false
    → (code_in (effect_of q m answer large) == PSK_EXCHANGE) ≡ false
effect_takes_none p m answer large None is other = refl
effect_takes_none p m answer large (Some asked) is other = ap (λ (n : ℕ). n == PSK_EXCHANGE) (asked-code p m asked is) ∙ other

pub plain_takes_none : (r : RspSetup) (p : Place) (m : List ℕ) (f : Free) → refusal r p m f ≡ None → chunk_in (request_at p m) ≡ None → (code_of m == PSK_EXCHANGE) ≡ false
    → takes PSK_EXCHANGE (turn_of r p m f) ≡ false
unfolding turn_of
plain_takes_none r p m f taken plain other =
    ap (λ (x : Option ErrorCode). takes PSK_EXCHANGE (turn_by r p m f x (chunk_in (request_at p m)))) taken ∙ ap (λ (x : Option ChunkMessage). takes PSK_EXCHANGE (turn_by r p m f None x)) plain
    ∙ effect_takes_none p m (answer_bytes r p m f) (handle_for p f (answer_bytes r p m f)) (request_at p m) refl other

-- A chunk that is not the last.
pub more_takes_none : (r : RspSetup) (p : Place) (m : List ℕ) (f : Free) (chunk : ChunkMessage) → request_at p m ≡ Some (ChunkSend chunk) → refusal r p m f ≡ None → chunk.last ≡ false
    → takes PSK_EXCHANGE (turn_of r p m f) ≡ false
more_takes_none r p m f chunk asked_is taken more =
    ap (λ (t : Turn). takes PSK_EXCHANGE t) (turn_of-chunk r p m f chunk taken asked_is ∙ ap (λ (b : Bool). if b then last_chunk_turn r (inside p) m f chunk (completed_at p chunk) else taken_chunk m chunk NoEffect []) more)

-- A last chunk, by what the large request is that it completes.
pub last_refused_takes_none : (r : RspSetup) (p : Place) (m : List ℕ) (f : Free) (chunk : ChunkMessage) (seen : Seen) (e : ErrorCode) → Completes r p m f chunk seen → refusal r (inside p) seen.whole f ≡ Some e
    → takes PSK_EXCHANGE (turn_of r p m f) ≡ false
last_refused_takes_none r p m f chunk seen e completes refused = ap (λ (t : Turn). takes PSK_EXCHANGE t) (last_turn r p m f chunk seen (Some e) completes refused)

pub last_taken_takes_none : (r : RspSetup) (p : Place) (m : List ℕ) (f : Free) (chunk : ChunkMessage) (seen : Seen) → Completes r p m f chunk seen → refusal r (inside p) seen.whole f ≡ None
    → (code_of seen.whole == PSK_EXCHANGE) ≡ false → takes PSK_EXCHANGE (turn_of r p m f) ≡ false
last_taken_takes_none r p m f chunk seen completes taken other =
    ap (λ (t : Turn). takes PSK_EXCHANGE t) (last_turn r p m f chunk seen None completes taken)
    ∙ effect_takes_none (inside p) seen.whole (answer_bytes r (inside p) seen.whole f) (handle_for (inside p) f (answer_bytes r (inside p) seen.whole f)) (request_at (inside p) seen.whole) refl other

-- ---- Outcomes.

pub begins_none : (r : RspSetup) (h : History) (tag : ℕ) (m : List ℕ) (f : Free) (d : Draw) → is_repeat (kept_of h) tag m ≡ false → takes PSK_EXCHANGE (turn_of r (clear_place h) m f) ≡ false
    → BeginsNone (on_clear r h tag m f d)
begins_none r h tag m f d anew other = subst BeginsNone (sym (is_anew r h tag m f d anew)) other

pub repeat_begins_none : (r : RspSetup) (h : History) (tag : ℕ) (m : List ℕ) (f : Free) (d : Draw) → is_repeat (kept_of h) tag m ≡ true → BeginsNone (on_clear r h tag m f d)
repeat_begins_none r h tag m f d again = subst BeginsNone (sym (is_again r h tag m f d again)) tt

pub refused_begins_none : (r : RspSetup) (h : History) (tag : ℕ) (m : List ℕ) (f : Free) (d : Draw) (e : ErrorCode) → is_repeat (kept_of h) tag m ≡ false → (turn_of r (clear_place h) m f).refused ≡ Some e
    → BeginsNone (on_clear r h tag m f d)
refused_begins_none r h tag m f d e anew refused = begins_none r h tag m f d anew (ap (λ (x : Effect). code_in x == PSK_EXCHANGE) (turn_of-effect r (clear_place h) m f e refused))
