-- Refusals, repeats and records that do not open.
use Rattle.std.proofs.Common.{refl, ◌∙◌, ◌≡◌, ℕ, List, [], ◌∷◌, true, false, Bool, Option, Some, None, ap, sym, subst}
use Rattle.std.proofs.lemmas.Bool.{false≢true}
use Rattle.std.proofs.lemmas.Option.{none-some, same_Some}
use Rattle.std.specs.Prelude.{◌==◌, drop, if◌then◌else◌, slice_index}
use Rattle.responder_core.proofs.Outcomes.{by_clear, by_record}
use Rattle.responder_core.specs.Harmless.{IsClearHarmless, IsRecordHarmless, IsRefusedClear, IsRefusedRecord}
use Rattle.responder_machine.proofs.Connection.{refused_connection}
use Rattle.responder_machine.proofs.KeptRest.{refused_record_rest}
use Rattle.responder_machine.proofs.Making.{turn_message}
use Rattle.responder_machine.proofs.Opened.{taken_record_opened}
use Rattle.responder_machine.proofs.Refused.{refused_clear, refused_record}
use Rattle.responder_machine.specs.Answer.{Free, request_at}
use Rattle.responder_machine.specs.Handling.{chunk_in, error_bytes, last_chunk_turn, taken_chunk, turn_by, turn_of}
use Rattle.responder_machine.specs.Heard.{heard_in, heard_of, no_id, record_id}
use Rattle.responder_machine.specs.History.{History}
use Rattle.responder_machine.specs.History.Entry.{Sealed}
use Rattle.responder_machine.specs.Laws.{completed_at}
use Rattle.responder_machine.specs.Place.{Place, clear_place, inside, session_place}
use Rattle.responder_machine.specs.Records.{opened}
use Rattle.responder_machine.specs.Refusal.{code_of, refusal}
use Rattle.responder_machine.specs.Responder.{Outcome, after, body_of, data_turn, inner_refusal, on_clear, on_record, session_turn, session_turn_by}
use Rattle.responder_machine.specs.Responder.Outcome.{Adds}
use Rattle.responder_machine.specs.SameSession.{IsSameConnection, IsSameSession}
use Rattle.responder_machine.specs.Session.{Events, id_in_record, session_of, stage_of}
use Rattle.responder_machine.specs.Setup.{RspSetup}
use Rattle.responder_machine.specs.Turn.{Turn, is_data}
use Rattle.responder_machine.specs.Turn.Effect.{NoEffect}
use Rattle.spdm_basis.specs.declared.values.session_id.SessionId.{SessionId}
use Rattle.spdm_grammar.specs.ErrorNumber.{error_number}
use Rattle.spdm_grammar.specs.Message.{ChunkMessage}
use Rattle.spdm_grammar.specs.declared.messages.error_code.ErrorCode.{ErrorCode}
use Rattle.spdm_grammar.specs.declared.told.heard.Heard.{Heard}
use Rattle.spdm_grammar.specs.declared.told.heard.Heard.TheVariants as heard
use Rattle.spdm_machine.specs.Bodies.{clear_body, record_body}
use Rattle.spdm_machine.specs.Keys.{Draw}
use Rattle.responder_machine.proofs.Turns.{carried-refused, either-refused}

same_body : (a b : List ℕ) (n : ℕ) → n ∷ a ≡ n ∷ b → a ≡ b
same_body a b n is = ap (λ (l : List ℕ). drop 1 l) is

-- ---- What is told of a turn.

abbrev refused_code : Heard → Option ℕ
refused_code (heard.Refused code) = Some code
refused_code _ = None

taken_code : (b : Bool) (id : SessionId) (code : ℕ) → refused_code (if b then heard.Taken id else heard.Answered code) ≡ None
taken_code true id code = refl
taken_code false id code = refl

-- It tells a refusal with this code where it was refused with it.
told_refused : (t : Turn) (id : SessionId) (code : ℕ) (x : Option ErrorCode) → heard.Refused code ≡ heard_in t id x → (e : ErrorCode) × (x ≡ Some e) × (code ≡ error_number e)
told_refused t id code (Some e) is = (e, refl, same_Some code (error_number e) (ap refused_code is))
told_refused t id code None is = absurd (none-some code (sym (ap refused_code is ∙ taken_code (is_data t.effect) id (code_of t.message))))

abbrev is_same : Heard → Bool
is_same heard.Same = true
is_same _ = false

abbrev is_unopened : Heard → Bool
is_unopened heard.Unopened = true
is_unopened _ = false

-- A turn is told neither as a repeat nor as a record that does not open.
taken_same : (b : Bool) (id : SessionId) (code : ℕ) → is_same (if b then heard.Taken id else heard.Answered code) ≡ false
taken_same true id code = refl
taken_same false id code = refl

not_same : (t : Turn) (id : SessionId) (x : Option ErrorCode) → heard.Same ≡ heard_in t id x → ⊥
not_same t id (Some e) is = false≢true (sym (ap is_same is))
not_same t id None is = false≢true (sym (ap is_same is ∙ taken_same (is_data t.effect) id (code_of t.message)))

taken_opened : (b : Bool) (id : SessionId) (code : ℕ) → is_unopened (if b then heard.Taken id else heard.Answered code) ≡ false
taken_opened true id code = refl
taken_opened false id code = refl

not_unopened : (t : Turn) (id : SessionId) (x : Option ErrorCode) → heard.Unopened ≡ heard_in t id x → ⊥
not_unopened t id (Some e) is = false≢true (sym (ap is_unopened is))
not_unopened t id None is = false≢true (sym (ap is_unopened is ∙ taken_opened (is_data t.effect) id (code_of t.message)))

-- ---- Refused turns.

record IsRefused (r : RspSetup) (p : Place) (f : Free) (e : ErrorCode) (t : Turn) : Type 0 where
  sent : t.reply ≡ error_bytes r p t.message f e

by_refusal : (r : RspSetup) (p : Place) (m : List ℕ) (f : Free) (e : ErrorCode) (x : Option ErrorCode) (c : Option ChunkMessage) → (turn_by r p m f x c).refused ≡ Some e → (x ≡ Some e) × IsRefused r p f e (turn_by r p m f x c)
by_refusal r p m f e (Some g) c is = (is, record { sent = ap (λ (k : ErrorCode). error_bytes r p m f k) (same_Some g e is) })
by_refusal r p m f e None None is = absurd (none-some e is)
by_refusal r p m f e None (Some c) is =
    absurd (none-some e (sym (either-refused c.last (last_chunk_turn r (inside p) m f c (completed_at p c)) (taken_chunk m c NoEffect []) (carried-refused r (inside p) m f c (completed_at p c) (refusal r (inside p) (completed_at p c) f)) refl) ∙ is))

turn_refused : (r : RspSetup) (p : Place) (m : List ℕ) (f : Free) (e : ErrorCode) → (turn_of r p m f).refused ≡ Some e → (refusal r p m f ≡ Some e) × IsRefused r p f e (turn_of r p m f)
unfolding turn_of
turn_refused r p m f e is = by_refusal r p m f e (refusal r p m f) (chunk_in (request_at p m)) is

either_refused : (r : RspSetup) (p : Place) (f : Free) (e : ErrorCode) (b : Bool) (t u : Turn) → (t.refused ≡ Some e → IsRefused r p f e t) → (u.refused ≡ Some e → IsRefused r p f e u) → (if b then t else u).refused ≡ Some e
    → IsRefused r p f e (if b then t else u)
either_refused r p f e true t u x y = x
either_refused r p f e false t u x y = y

by_inner : (r : RspSetup) (s : Events) (inner : List ℕ) (f : Free) (e : ErrorCode) (x : Option ErrorCode) → (session_turn_by r s inner f x).refused ≡ Some e → IsRefused r (session_place s) f e (session_turn_by r s inner f x)
by_inner r s inner f e (Some g) is = record { sent = ap (λ (k : ErrorCode). error_bytes r (session_place s) (drop 1 inner) f k) (same_Some g e is) }
by_inner r s inner f e None is =
    either_refused r (session_place s) f e (slice_index inner 0 == 5) (turn_of r (session_place s) (drop 1 inner) f) (data_turn f (drop 1 inner)) (λ h. (turn_refused r (session_place s) (drop 1 inner) f e h).1) (λ h. absurd (none-some e h)) is

session_refused : (r : RspSetup) (s : Events) (inner : List ℕ) (f : Free) (e : ErrorCode) → (session_turn r s inner f).refused ≡ Some e → IsRefused r (session_place s) f e (session_turn r s inner f)
unfolding session_turn
session_refused r s inner f e is = by_inner r s inner f e (inner_refusal (stage_of s) inner) is

-- ---- Clear messages.

pub clear_harmless : (r : RspSetup) (h : History) (tag : ℕ) (m : List ℕ) (f : Free) (d : Draw) (told : Heard) (out : List ℕ) → told ≡ heard_of (on_clear r h tag m f d) → clear_body out ≡ body_of (on_clear r h tag m f d)
    → IsClearHarmless r h tag m f d told out
clear_harmless r h tag m f d (heard.Refused code) out told body =
    by_clear r h tag m f d (λ (o : Outcome). heard.Refused code ≡ heard_of o → clear_body out ≡ body_of o → IsRefusedClear r h tag m f d code out)
    (λ bytes is sent. absurd (none-some code (sym (ap refused_code is))))
    (λ is sent.
    let t : Turn = turn_of r (clear_place h) m f in
    let found = told_refused t no_id code t.refused is in
    let refused = turn_refused r (clear_place h) m f found.0 found.1 in
    record {
      error = found.0;
      refused = refused.0;
      told = found.2;
      sent = same_body out t.reply 5 sent ∙ refused.1.sent ∙ ap (λ (x : List ℕ). error_bytes r (clear_place h) x f found.0) (turn_message r (clear_place h) m f);
      sessions = refused_clear r h tag m f d found.0 refused.0;
      connection = refused_connection r h tag m f d found.0 refused.0;
    })
    told body
clear_harmless r h tag m f d heard.Same out told body =
    by_clear r h tag m f d (λ (o : Outcome). heard.Same ≡ heard_of o → after h o ≡ h) (λ bytes is. refl) (λ is. absurd (not_same (turn_of r (clear_place h) m f) no_id (turn_of r (clear_place h) m f).refused is)) told
clear_harmless r h tag m f d _ out told body = tt

-- ---- Records.

pub record_harmless : (r : RspSetup) (h : History) (tag : ℕ) (m : List ℕ) (f : Free) (d : Draw) (told : Heard) (body out : List ℕ) → told ≡ heard_of (on_record r h tag m f d) → body ≡ body_of (on_record r h tag m f d)
    → ((code : ℕ) → told ≡ heard.Refused code → body ≡ record_body out) → IsRecordHarmless r h tag m f d told out
record_harmless r h tag m f d (heard.Refused code) body out told sent is_record =
    by_record r h tag m f d (λ (o : Outcome). on_record r h tag m f d ≡ o → heard.Refused code ≡ heard_of o → record_body out ≡ body_of o → IsRefusedRecord r h tag m f d code out)
    (λ bytes is here goes. absurd (none-some code (sym (ap refused_code here)))) (λ bytes is here goes. absurd (none-some code (sym (ap refused_code here))))
    (λ s inner reply is here goes.
    let t : Turn = session_turn r s inner f in
    let found = told_refused t (record_id m) code t.refused here in
    let e : ErrorCode = found.0 in
    let own : Events = session_of (id_in_record m) h in
    let opens = taken_record_opened r h tag m f d t reply is in
    let same : session_turn r own (opened r.psk own m) f ≡ t = opens.4 in
    let added = is ∙ ap (λ (x : List ℕ). Adds (Sealed tag m t x d)) (sym (same_body out reply 6 goes)) in
    record {
      error = e;
      turn = t;
      taken = added;
      refused = found.1;
      told = found.2;
      sent = (subst (λ (u : Turn). IsRefused r (session_place own) f e u) same (session_refused r own (opened r.psk own m) f e (ap (λ (u : Turn). u.refused) same ∙ found.1))).sent;
      sessions = λ id. subst (λ (o : Outcome). IsSameSession (session_of id h) (session_of id (after h o))) (sym is) (refused_record r h tag m f d t reply e is found.1 id);
      connection = subst (λ (o : Outcome). IsSameConnection h (after h o)) (sym is) (refused_record_rest r h tag m f d t reply e is found.1);
    })
    refl told (sym (is_record code refl) ∙ sent)
record_harmless r h tag m f d heard.Same body out told sent is_record =
    by_record r h tag m f d (λ (o : Outcome). heard.Same ≡ heard_of o → after h o ≡ h) (λ bytes is. refl) (λ bytes is. refl)
    (λ s inner reply is. absurd (not_same (session_turn r s inner f) (record_id m) (session_turn r s inner f).refused is)) told
record_harmless r h tag m f d heard.Unopened body out told sent is_record =
    by_record r h tag m f d (λ (o : Outcome). heard.Unopened ≡ heard_of o → after h o ≡ h) (λ bytes is. refl) (λ bytes is. refl)
    (λ s inner reply is. absurd (not_unopened (session_turn r s inner f) (record_id m) (session_turn r s inner f).refused is)) told
record_harmless r h tag m f d _ body out told sent is_record = tt
