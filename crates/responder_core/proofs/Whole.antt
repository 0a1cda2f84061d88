-- The whole outcome of a clear message, from its turn.
use Rattle.std.proofs.Common.{refl, ◌∙◌, ◌≡◌, ◌≤◌, ℕ, List, [], true, false, Bool, Option, Some, None, length, ap, sym, subst}
use Rattle.std.proofs.lemmas.Option.{none-some}
use Rattle.std.specs.Prelude.{if◌then◌else◌, is_none}
use Rattle.responder_core.proofs.Taken.{message_short}
use Rattle.responder_core.specs.ClearPart.{IsAnswered, Seen, StandsFor}
use Rattle.responder_core.specs.Coming.{IsTurned}
use Rattle.responder_machine.proofs.Making.{turn_message}
use Rattle.responder_machine.proofs.Tests.{none_of_both}
use Rattle.responder_machine.proofs.Turns.{turn_of-refused}
use Rattle.responder_machine.specs.Answer.{Free, answer_bytes, request_at}
use Rattle.responder_machine.specs.Handling.{carried_turn, chunk_in, effect_of, handle_for, last_chunk_turn, taken_chunk, turn_by, turn_of}
use Rattle.responder_machine.specs.Heard.{heard_in, heard_of, no_id}
use Rattle.responder_machine.specs.History.{History, kept_of}
use Rattle.responder_machine.specs.History.Entry.{Clear}
use Rattle.responder_machine.specs.Laws.{completed_at}
use Rattle.responder_machine.specs.Place.{Place, clear_place, inside}
use Rattle.responder_machine.specs.Refusal.{code_of, refusal, refused_contents, refused_form}
use Rattle.responder_machine.specs.Responder.{Outcome, after, body_of, is_repeat, kept_reply, on_clear}
use Rattle.responder_machine.specs.Responder.Outcome.{Adds, Same}
use Rattle.responder_machine.specs.Setup.{RspSetup}
use Rattle.responder_machine.specs.Turn.{Turn, is_data}
use Rattle.responder_machine.specs.Turn.Effect.{NoEffect}
use Rattle.spdm_grammar.specs.ErrorNumber.{error_number}
use Rattle.spdm_grammar.specs.Message.{ChunkMessage, RequestMessage}
use Rattle.spdm_grammar.specs.declared.messages.error_code.ErrorCode.{ErrorCode}
use Rattle.spdm_grammar.specs.declared.told.heard.Heard.TheVariants as heard
use Rattle.spdm_grammar.specs.declared.names.TheConstants.{MAX_MESSAGE_SIZE}
use Rattle.spdm_machine.specs.Bodies.{clear_body}
use Rattle.spdm_machine.specs.Keys.{Draw}

-- ---- No application data comes in the clear.

effect_no_data : (q : Option RequestMessage) (request answer : List ℕ) (large : Option ℕ) → is_data (effect_of q request answer large) ≡ false
effect_no_data None request answer large = refl
effect_no_data (Some asked) request answer large = refl

carried_no_data : (r : RspSetup) (p : Place) (m : List ℕ) (f : Free) (c : ChunkMessage) (whole : List ℕ) (x : Option ErrorCode) → is_data (carried_turn r p m f c whole x).effect ≡ false
carried_no_data r p m f c whole (Some e) = refl
carried_no_data r p m f c whole None = effect_no_data (request_at p whole) whole (answer_bytes r p whole f) (handle_for p f (answer_bytes r p whole f))

either_no_data : (b : Bool) (t u : Turn) → is_data t.effect ≡ false → is_data u.effect ≡ false → is_data (if b then t else u).effect ≡ false
either_no_data true t u x y = x
either_no_data false t u x y = y

by_no_data : (r : RspSetup) (p : Place) (m : List ℕ) (f : Free) (x : Option ErrorCode) (c : Option ChunkMessage) → is_data (turn_by r p m f x c).effect ≡ false
by_no_data r p m f (Some e) c = refl
by_no_data r p m f None None = effect_no_data (request_at p m) m (answer_bytes r p m f) (handle_for p f (answer_bytes r p m f))
by_no_data r p m f None (Some c) =
    either_no_data c.last (last_chunk_turn r (inside p) m f c (completed_at p c)) (taken_chunk m c NoEffect []) (carried_no_data r (inside p) m f c (completed_at p c) (refusal r (inside p) (completed_at p c) f)) refl

pub no_data : (r : RspSetup) (p : Place) (m : List ℕ) (f : Free) → is_data (turn_of r p m f).effect ≡ false
unfolding turn_of
no_data r p m f = by_no_data r p m f (refusal r p m f) (chunk_in (request_at p m))

-- ---- A turn that is not refused.

-- Its message is short.
pub turn_short : (r : RspSetup) (h : History) (m : List ℕ) (f : Free) → r.transfer ≤ r.max → r.max ≤ MAX_MESSAGE_SIZE → (turn_of r (clear_place h) m f).refused ≡ None → length m ≤ MAX_MESSAGE_SIZE
unfolding refusal
turn_short r h m f ordered most taken = by_refusal (refusal r (clear_place h) m f) refl
  where
    by_refusal : (x : Option ErrorCode) → refusal r (clear_place h) m f ≡ x → length m ≤ MAX_MESSAGE_SIZE
    by_refusal (Some e) is = absurd (none-some e (sym taken ∙ ap (λ (t : Turn). t.refused) (turn_of-refused r (clear_place h) m f e is)))
    by_refusal None is = message_short r (clear_place h) m tt ordered most (none_of_both (refused_form r (clear_place h) m) (refused_contents r (clear_place h) m f) is).0

-- ---- Outcomes.

pub is_anew : (r : RspSetup) (h : History) (tag : ℕ) (m : List ℕ) (f : Free) (d : Draw) → is_repeat (kept_of h) tag m ≡ false → on_clear r h tag m f d ≡ Adds (Clear tag (turn_of r (clear_place h) m f) d)
unfolding on_clear
is_anew r h tag m f d anew = ap (λ (b : Bool). if b then Same (clear_body (kept_reply (kept_of h))) else Adds (Clear tag (turn_of r (clear_place h) m f) d)) anew

pub is_again : (r : RspSetup) (h : History) (tag : ℕ) (m : List ℕ) (f : Free) (d : Draw) → is_repeat (kept_of h) tag m ≡ true → on_clear r h tag m f d ≡ Same (clear_body (kept_reply (kept_of h)))
unfolding on_clear
is_again r h tag m f d again = ap (λ (b : Bool). if b then Same (clear_body (kept_reply (kept_of h))) else Adds (Clear tag (turn_of r (clear_place h) m f) d)) again

-- A repeat is answered from memory and changes nothing.
pub repeated : (r : RspSetup) (h : History) (tag : ℕ) (m : List ℕ) (f : Free) (d : Draw) (seen : Seen) (out : List ℕ) → is_repeat (kept_of h) tag m ≡ true → StandsFor seen r h → out ≡ kept_reply (kept_of h)
    → IsAnswered r h tag m f d heard.Same seen out
repeated r h tag m f d seen out again stands written =
    let is = is_again r h tag m f d again in
    record {
      told = ap heard_of (sym is);
      body = ap clear_body written ∙ ap body_of (sym is);
      stands = subst (λ (o : Outcome). StandsFor seen r (after h o)) (sym is) stands;
    }

-- A refused message is told, and keeps the stored reply.
pub refused_answered : (r : RspSetup) (h : History) (tag : ℕ) (m : List ℕ) (f : Free) (d : Draw) (e : ErrorCode) (new : Seen) (out : List ℕ) → is_repeat (kept_of h) tag m ≡ false
    → (turn_of r (clear_place h) m f).refused ≡ Some e → IsTurned r (clear_place h) m f new.requests out → new.kept ≡ kept_of h
    → IsAnswered r h tag m f d (heard.Refused (error_number e)) new out
refused_answered r h tag m f d e new out anew refused turned kept =
    let t : Turn = turn_of r (clear_place h) m f in
    let is = is_anew r h tag m f d anew in
    record {
      told = ap (λ (x : Option ErrorCode). heard_in t no_id x) (sym refused) ∙ ap heard_of (sym is);
      body = ap clear_body turned.reply ∙ ap body_of (sym is);
      stands = subst (λ (o : Outcome). StandsFor new r (after h o)) (sym is) (record {
        requests = turned.stands;
        kept = kept ∙ ap (λ (x : Option ErrorCode). if is_none x then Some (record { tag = tag; message = t.message; reply = t.reply }) else kept_of h) (sym refused);
      });
    }

-- One that is taken is determined by its code, and is kept.
pub taken_answered : (r : RspSetup) (h : History) (tag : ℕ) (m : List ℕ) (f : Free) (d : Draw) (new : Seen) (out : List ℕ) → is_repeat (kept_of h) tag m ≡ false
    → (turn_of r (clear_place h) m f).refused ≡ None → IsTurned r (clear_place h) m f new.requests out → new.kept ≡ Some (record { tag = tag; message = m; reply = out })
    → IsAnswered r h tag m f d (heard.Answered (code_of m)) new out
taken_answered r h tag m f d new out anew taken turned kept =
    let t : Turn = turn_of r (clear_place h) m f in
    let is = is_anew r h tag m f d anew in
    let message = turn_message r (clear_place h) m f in
    record {
      told =
          ap (λ (x : List ℕ). heard.Answered (code_of x)) (sym message)
          ∙ ap (λ (b : Bool). if b then heard.Taken no_id else heard.Answered (code_of t.message)) (sym (no_data r (clear_place h) m f))
          ∙ ap (λ (x : Option ErrorCode). heard_in t no_id x) (sym taken) ∙ ap heard_of (sym is);
      body = ap clear_body turned.reply ∙ ap body_of (sym is);
      stands = subst (λ (o : Outcome). StandsFor new r (after h o)) (sym is) (record {
        requests = turned.stands;
        kept =
            kept ∙ ap (λ (x : List ℕ). Some (record { tag = tag; message = x; reply = out })) (sym message) ∙ ap (λ (x : List ℕ). Some (record { tag = tag; message = t.message; reply = x })) turned.reply
            ∙ ap (λ (x : Option ErrorCode). if is_none x then Some (record { tag = tag; message = t.message; reply = t.reply }) else kept_of h) (sym taken);
      });
    }
