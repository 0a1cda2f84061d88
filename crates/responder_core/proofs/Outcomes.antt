-- What can come of a clear message, and of a record.
use Rattle.std.proofs.Common.{refl, ◌≡◌, ℕ, List, [], ◌∷◌, true, false, Bool, Option, Some, None, ap, sym}
use Rattle.std.specs.Prelude.{if◌then◌else◌}
use Rattle.responder_core.specs.Connected.{queue_left}
use Rattle.responder_machine.proofs.Turns.{session_turn-effect}
use Rattle.responder_machine.specs.Answer.{Free}
use Rattle.responder_machine.specs.Handling.{turn_of}
use Rattle.responder_machine.specs.Heard.{heard_in, heard_of, record_id}
use Rattle.responder_machine.specs.History.{History, clear_turns, ended_of, kept_of, phase_of, queue_of}
use Rattle.responder_machine.specs.History.Entry.{Clear, Sealed}
use Rattle.responder_machine.specs.Place.{clear_place}
use Rattle.responder_machine.specs.Records.{opened, opening_fault, reply_record}
use Rattle.responder_machine.specs.Refusal.{code_of}
use Rattle.responder_machine.specs.Responder.{Outcome, after, decrypt_error, in_session, in_session_by, inner_reply, is_repeat, kept_record, kept_reply, on_clear, on_record, repeats, session_turn, to_session}
use Rattle.responder_machine.specs.Responder.Outcome.{Adds, Same, Unopened}
use Rattle.responder_machine.specs.Session.{Events, id_in_record, last_of, session_of}
use Rattle.responder_machine.specs.Setup.{RspSetup}
use Rattle.responder_machine.specs.Turn.{Effect, Turn, is_data}
use Rattle.responder_machine.specs.Turn.Effect.{NoEffect}
use Rattle.spdm_basis.specs.declared.causes.record_fault.RecordFault.{RecordFault}
use Rattle.spdm_basis.specs.declared.values.session_id.SessionId.{SessionId}
use Rattle.spdm_grammar.specs.declared.messages.error_code.ErrorCode.{ErrorCode}
use Rattle.spdm_grammar.specs.declared.told.heard.Heard.TheVariants as heard
use Rattle.spdm_grammar.specs.declared.told.phase.Phase.{Phase}
use Rattle.spdm_machine.specs.Bodies.{clear_body, record_body}
use Rattle.spdm_machine.specs.Keys.{Draw}

either : (P : Outcome → Type 0) (b : Bool) (x y : Outcome) → P x → P y → P (if b then x else y)
either P true x y p q = p
either P false x y p q = q

-- A clear message is a repeat, or its turn is an entry.
pub by_clear : (r : RspSetup) (h : History) (tag : ℕ) (m : List ℕ) (f : Free) (d : Draw) (P : Outcome → Type 0) → ((body : List ℕ) → P (Same body)) → P (Adds (Clear tag (turn_of r (clear_place h) m f) d))
    → P (on_clear r h tag m f d)
unfolding on_clear
by_clear r h tag m f d P same adds =
    either P (is_repeat (kept_of h) tag m) (Same (clear_body (kept_reply (kept_of h)))) (Adds (Clear tag (turn_of r (clear_place h) m f) d)) (same (clear_body (kept_reply (kept_of h)))) adds

-- The entry of a record that opened.
abbrev pub IsForEntry : RspSetup → (tag : ℕ) → (sealed : List ℕ) → Free → Draw → (Outcome → Type 0) → Type 0
IsForEntry r tag sealed f d P = (s : Events) (inner reply : List ℕ) → P (Adds (Sealed tag sealed (session_turn r s inner f) reply d))

by_fault : (r : RspSetup) (phase : Phase) (s : Events) (f : Free) (tag : ℕ) (sealed : List ℕ) (d : Draw) (P : Outcome → Type 0) (x : Option RecordFault)
    → ((body : List ℕ) → P (Unopened body)) → IsForEntry r tag sealed f d P → P (in_session_by r phase s f tag sealed d x)
by_fault r phase s f tag sealed d P (Some fault) unopened adds = unopened (decrypt_error phase)
by_fault r phase s f tag sealed d P None unopened adds =
    let t : Turn = session_turn r s (opened r.psk s sealed) f in
    adds s (opened r.psk s sealed) (reply_record r.psk s t (inner_reply t) f.pad)

by_session : (r : RspSetup) (phase : Phase) (s : Events) (f : Free) (tag : ℕ) (sealed : List ℕ) (d : Draw) (P : Outcome → Type 0)
    → ((body : List ℕ) → P (Same body)) → ((body : List ℕ) → P (Unopened body)) → IsForEntry r tag sealed f d P → P (to_session r phase s f tag sealed d)
unfolding in_session
by_session r phase [] f tag sealed d P same unopened adds = unopened (decrypt_error phase)
by_session r phase (e ∷ s) f tag sealed d P same unopened adds =
    either P (repeats (last_of (e ∷ s)) sealed) (Same (record_body (kept_record (last_of (e ∷ s))))) (in_session r phase (e ∷ s) f tag sealed d) (same (record_body (kept_record (last_of (e ∷ s)))))
    (by_fault r phase (e ∷ s) f tag sealed d P (opening_fault r.psk (e ∷ s) sealed) unopened adds)

-- A record is a repeat, does not open, or is an entry.
pub by_record : (r : RspSetup) (h : History) (tag : ℕ) (sealed : List ℕ) (f : Free) (d : Draw) (P : Outcome → Type 0)
    → ((body : List ℕ) → P (Same body)) → ((body : List ℕ) → P (Unopened body)) → IsForEntry r tag sealed f d P → P (on_record r h tag sealed f d)
unfolding on_record
by_record r h tag sealed f d P same unopened adds =
    let phase : Phase = phase_of (clear_turns h) in
    let s : Events = session_of (id_in_record sealed) h in
    either P (repeats (ended_of h) sealed) (Same (record_body (kept_record (ended_of h)))) (to_session r phase s f tag sealed d) (same (record_body (kept_record (ended_of h)))) (by_session r phase s f tag sealed d P same unopened adds)

-- ---- What waits.

pub queue_after_clear : (r : RspSetup) (h : History) (tag : ℕ) (m : List ℕ) (f : Free) (d : Draw) → queue_of (after h (on_clear r h tag m f d)) ≡ queue_of h
queue_after_clear r h tag m f d = by_clear r h tag m f d (λ (o : Outcome). queue_of (after h o) ≡ queue_of h) (λ body. refl) refl

by_data : (b : Bool) (id : SessionId) (code : ℕ) (waiting : List (List ℕ)) → queue_left (if b then heard.Taken id else heard.Answered code) waiting ≡ (if b then queue_left (heard.Taken id) waiting else waiting)
by_data true id code waiting = refl
by_data false id code waiting = refl

told_queue : (t : Turn) (id : SessionId) (waiting : List (List ℕ)) (x : Option ErrorCode) → ((e : ErrorCode) → x ≡ Some e → t.effect ≡ NoEffect)
    → queue_left (heard_in t id x) waiting ≡ (if is_data t.effect then queue_left (heard.Taken id) waiting else waiting)
told_queue t id waiting (Some e) none = ap (λ (g : Effect). if is_data g then queue_left (heard.Taken id) waiting else waiting) (sym (none e refl))
told_queue t id waiting None none = by_data (is_data t.effect) id (code_of t.message) waiting

pub queue_after_record : (r : RspSetup) (h : History) (tag : ℕ) (sealed : List ℕ) (f : Free) (d : Draw)
    → queue_left (heard_of (on_record r h tag sealed f d)) (queue_of h) ≡ queue_of (after h (on_record r h tag sealed f d))
queue_after_record r h tag sealed f d =
    by_record r h tag sealed f d (λ (o : Outcome). queue_left (heard_of o) (queue_of h) ≡ queue_of (after h o)) (λ body. refl) (λ body. refl)
    (λ s inner reply. told_queue (session_turn r s inner f) (record_id sealed) (queue_of h) (session_turn r s inner f).refused (λ e. session_turn-effect r s inner f e))

-- ---- The clear part, over a record.

pub turns_after_record : (r : RspSetup) (h : History) (tag : ℕ) (sealed : List ℕ) (f : Free) (d : Draw) → clear_turns h ≡ clear_turns (after h (on_record r h tag sealed f d))
turns_after_record r h tag sealed f d = by_record r h tag sealed f d (λ (o : Outcome). clear_turns h ≡ clear_turns (after h o)) (λ body. refl) (λ body. refl) (λ s inner reply. refl)

pub kept_after_record : (r : RspSetup) (h : History) (tag : ℕ) (sealed : List ℕ) (f : Free) (d : Draw) → kept_of h ≡ kept_of (after h (on_record r h tag sealed f d))
kept_after_record r h tag sealed f d = by_record r h tag sealed f d (λ (o : Outcome). kept_of h ≡ kept_of (after h o)) (λ body. refl) (λ body. refl) (λ s inner reply. refl)
