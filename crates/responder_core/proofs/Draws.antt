-- Which turns take a draw.
use Rattle.std.proofs.Common.{refl, ◌∙◌, ◌≡◌, ℕ, List, [], true, false, Bool, Option, Some, None, ap, sym}
use Rattle.std.proofs.lemmas.Bool.{false≢true}
use Rattle.std.specs.Prelude.{◌==◌, ◌||◌, if◌then◌else◌, drop, is_none, slice_index}
use Rattle.responder_core.proofs.Chunked.{last_turn}
use Rattle.responder_core.proofs.Outcomes.{by_record}
use Rattle.responder_core.proofs.Whole.{is_again, is_anew}
use Rattle.responder_core.specs.ClearPart.{is_drawn}
use Rattle.responder_core.specs.Connected.{tells_measured}
use Rattle.responder_core.specs.Coming.{Completes, Seen}
use Rattle.responder_machine.proofs.Codes.{asked-code}
use Rattle.responder_machine.proofs.Tests.{form_shown}
use Rattle.responder_machine.proofs.Turns.{turn_of-chunk, turn_of-effect}
use Rattle.responder_machine.specs.Answer.{Free, answer_bytes, request_at}
use Rattle.responder_machine.specs.Handling.{chunk_in, effect_of, handle_for, last_chunk_turn, taken_chunk, turn_by, turn_of}
use Rattle.responder_machine.specs.Heard.{heard_in, heard_of, record_id}
use Rattle.responder_machine.specs.History.{History, kept_of}
use Rattle.responder_machine.specs.Laws.{completed_at}
use Rattle.responder_machine.specs.Place.{Place, clear_place, inside, session_place}
use Rattle.responder_machine.specs.Refusal.{code_of, refusal}
use Rattle.responder_machine.specs.Responder.{Outcome, data_turn, inner_refusal, is_repeat, on_clear, on_record, session_turn, session_turn_by}
use Rattle.responder_machine.specs.Session.{Events, stage_of}
use Rattle.responder_machine.specs.Setup.{RspSetup}
use Rattle.responder_machine.specs.Turn.{Effect, Turn, code_in, is_data, takes_draw}
use Rattle.responder_machine.specs.Turn.Effect.{NoEffect}
use Rattle.spdm_basis.specs.declared.values.session_id.SessionId.{SessionId}
use Rattle.spdm_grammar.specs.Message.{ChunkMessage, RequestMessage}
use Rattle.spdm_grammar.specs.Message.RequestMessage.{ChunkSend}
use Rattle.spdm_grammar.specs.declared.messages.error_code.ErrorCode.{ErrorCode}
use Rattle.spdm_grammar.specs.declared.told.heard.Heard.TheVariants as heard
use Rattle.spdm_grammar.specs.declared.names.request_code.TheConstants.{GET_CAPABILITIES, GET_MEASUREMENTS, GET_VERSION, NEGOTIATE_ALGORITHMS, PSK_EXCHANGE}
use Rattle.spdm_machine.specs.Keys.{Draw}
use Rattle.responder_machine.proofs.Staged.{no_chunk}

-- A request of this code takes a draw.
abbrev pub draws_for : ℕ → Bool
draws_for code = code == PSK_EXCHANGE || code == GET_MEASUREMENTS

effect_draws : (p : Place) (m answer : List ℕ) (large : Option ℕ) (q : Option RequestMessage) → request_at p m ≡ q → is_none q ≡ false → draws_for (code_in (effect_of q m answer large)) ≡ draws_for (code_of m)
effect_draws p m answer large None is some = absurd (false≢true (sym some))
effect_draws p m answer large (Some asked) is some = ap draws_for (asked-code p m asked is)

plain_by : (r : RspSetup) (p : Place) (m : List ℕ) (f : Free) → refusal r p m f ≡ None
    → draws_for (code_in (effect_of (request_at p m) m (answer_bytes r p m f) (handle_for p f (answer_bytes r p m f)))) ≡ draws_for (code_of m)
plain_by r p m f taken = effect_draws p m (answer_bytes r p m f) (handle_for p f (answer_bytes r p m f)) (request_at p m) refl (form_shown r p m f taken 8)

-- A request that is taken, and is no chunk.
pub plain_draws : (r : RspSetup) (p : Place) (m : List ℕ) (f : Free) → refusal r p m f ≡ None → chunk_in (request_at p m) ≡ None → takes_draw (turn_of r p m f) ≡ draws_for (code_of m)
unfolding turn_of
plain_draws r p m f taken plain =
    ap (λ (x : Option ErrorCode). takes_draw (turn_by r p m f x (chunk_in (request_at p m)))) taken ∙ ap (λ (x : Option ChunkMessage). takes_draw (turn_by r p m f None x)) plain
    ∙ plain_by r p m f taken

-- A chunk that is not the last.
pub more_draws : (r : RspSetup) (p : Place) (m : List ℕ) (f : Free) (chunk : ChunkMessage) → request_at p m ≡ Some (ChunkSend chunk) → refusal r p m f ≡ None → chunk.last ≡ false → takes_draw (turn_of r p m f) ≡ false
more_draws r p m f chunk asked_is taken more =
    ap (λ (t : Turn). takes_draw t) (turn_of-chunk r p m f chunk taken asked_is ∙ ap (λ (b : Bool). if b then last_chunk_turn r (inside p) m f chunk (completed_at p chunk) else taken_chunk m chunk NoEffect []) more)

-- A last chunk, by what the large request is that it completes.
pub last_refused_draws : (r : RspSetup) (p : Place) (m : List ℕ) (f : Free) (chunk : ChunkMessage) (seen : Seen) (e : ErrorCode) → Completes r p m f chunk seen → refusal r (inside p) seen.whole f ≡ Some e → takes_draw (turn_of r p m f) ≡ false
last_refused_draws r p m f chunk seen e completes refused = ap (λ (t : Turn). takes_draw t) (last_turn r p m f chunk seen (Some e) completes refused)

pub last_taken_draws : (r : RspSetup) (p : Place) (m : List ℕ) (f : Free) (chunk : ChunkMessage) (seen : Seen) → Completes r p m f chunk seen → refusal r (inside p) seen.whole f ≡ None → takes_draw (turn_of r p m f) ≡ draws_for (code_of seen.whole)
last_taken_draws r p m f chunk seen completes taken = ap (λ (t : Turn). takes_draw t) (last_turn r p m f chunk seen None completes taken) ∙ plain_by r (inside p) seen.whole f taken

-- Of a request that is no PSK_EXCHANGE.
pub draws_beside : (code : ℕ) → (code == PSK_EXCHANGE) ≡ false → draws_for code ≡ (code == GET_MEASUREMENTS)
draws_beside code other = ap (λ (b : Bool). b || code == GET_MEASUREMENTS) other

-- ---- Outcomes of clear messages.

pub drawn_anew : (r : RspSetup) (h : History) (tag : ℕ) (m : List ℕ) (f : Free) (d : Draw) → is_repeat (kept_of h) tag m ≡ false → is_drawn (on_clear r h tag m f d) ≡ takes_draw (turn_of r (clear_place h) m f)
drawn_anew r h tag m f d anew = ap is_drawn (is_anew r h tag m f d anew)

pub drawn_again : (r : RspSetup) (h : History) (tag : ℕ) (m : List ℕ) (f : Free) (d : Draw) → is_repeat (kept_of h) tag m ≡ true → is_drawn (on_clear r h tag m f d) ≡ false
drawn_again r h tag m f d again = ap is_drawn (is_again r h tag m f d again)

pub drawn_refused : (r : RspSetup) (h : History) (tag : ℕ) (m : List ℕ) (f : Free) (d : Draw) (e : ErrorCode) → is_repeat (kept_of h) tag m ≡ false → (turn_of r (clear_place h) m f).refused ≡ Some e → is_drawn (on_clear r h tag m f d) ≡ false
drawn_refused r h tag m f d e anew refused = drawn_anew r h tag m f d anew ∙ ap (λ (x : Effect). draws_for (code_in x)) (turn_of-effect r (clear_place h) m f e refused)

-- ---- Outcomes of records.

-- A chunk has the code of CHUNK_SEND, and is refused in a session.

-- No PSK_EXCHANGE is taken in a session.
fourth : (a b c d : Bool) → (a || (b || (c || (d || false)))) ≡ false → d ≡ false
fourth true b c d h = absurd (false≢true (sym h))
fourth false true c d h = absurd (false≢true (sym h))
fourth false false true d h = absurd (false≢true (sym h))
fourth false false false true h = absurd (false≢true (sym h))
fourth false false false false h = refl

not_begun : (r : RspSetup) (s : Events) (m : List ℕ) (f : Free) → refusal r (session_place s) m f ≡ None → (code_of m == PSK_EXCHANGE) ≡ false
not_begun r s m f taken = fourth (code_of m == GET_VERSION) (code_of m == GET_CAPABILITIES) (code_of m == NEGOTIATE_ALGORITHMS) (code_of m == PSK_EXCHANGE) (form_shown r (session_place s) m f taken 5)

plain_tells : (m answer : List ℕ) (large : Option ℕ) (id : SessionId) (q : Option RequestMessage) → tells_measured (if is_data (effect_of q m answer large) then heard.Taken id else heard.Answered (code_of m)) ≡ (code_of m == GET_MEASUREMENTS)
plain_tells m answer large id None = refl
plain_tells m answer large id (Some asked) = refl

tells_by : (r : RspSetup) (s : Events) (m : List ℕ) (f : Free) (id : SessionId) (x : Option ErrorCode) (c : Option ChunkMessage) → refusal r (session_place s) m f ≡ x → chunk_in (request_at (session_place s) m) ≡ c
    → tells_measured (heard_in (turn_by r (session_place s) m f x c) id (turn_by r (session_place s) m f x c).refused) ≡ takes_draw (turn_by r (session_place s) m f x c)
tells_by r s m f id (Some e) c refused chunk = refl
tells_by r s m f id None None taken chunk =
    plain_tells m (answer_bytes r (session_place s) m f) (handle_for (session_place s) f (answer_bytes r (session_place s) m f)) id (request_at (session_place s) m)
    ∙ sym (plain_by r (session_place s) m f taken ∙ draws_beside (code_of m) (not_begun r s m f taken))
tells_by r s m f id None (Some c) taken chunk = absurd (no_chunk r s m f c taken chunk)

abbrev TellsDraw : SessionId → Turn → Type 0
TellsDraw id t = tells_measured (heard_in t id t.refused) ≡ takes_draw t

turn_tells : (r : RspSetup) (s : Events) (m : List ℕ) (f : Free) (id : SessionId) → TellsDraw id (turn_of r (session_place s) m f)
unfolding turn_of
turn_tells r s m f id = tells_by r s m f id (refusal r (session_place s) m f) (chunk_in (request_at (session_place s) m)) refl refl

either_tells : (id : SessionId) (b : Bool) (t u : Turn) → TellsDraw id t → TellsDraw id u → TellsDraw id (if b then t else u)
either_tells id true t u x y = x
either_tells id false t u x y = y

session_by : (r : RspSetup) (s : Events) (inner : List ℕ) (f : Free) (id : SessionId) (x : Option ErrorCode) → TellsDraw id (session_turn_by r s inner f x)
session_by r s inner f id (Some e) = refl
session_by r s inner f id None = either_tells id (slice_index inner 0 == 5) (turn_of r (session_place s) (drop 1 inner) f) (data_turn f (drop 1 inner)) (turn_tells r s (drop 1 inner) f id) refl

session_tells : (r : RspSetup) (s : Events) (inner : List ℕ) (f : Free) (id : SessionId) → TellsDraw id (session_turn r s inner f)
unfolding session_turn
session_tells r s inner f id = session_by r s inner f id (inner_refusal (stage_of s) inner)

-- What is reported of a record tells whether it took a draw.
pub record_tells : (r : RspSetup) (h : History) (tag : ℕ) (sealed : List ℕ) (f : Free) (d : Draw) → tells_measured (heard_of (on_record r h tag sealed f d)) ≡ is_drawn (on_record r h tag sealed f d)
record_tells r h tag sealed f d =
    by_record r h tag sealed f d (λ (o : Outcome). tells_measured (heard_of o) ≡ is_drawn o) (λ body. refl) (λ body. refl) (λ s inner reply. session_tells r s inner f (record_id sealed))
