-- A refused request changes no session.
use Rattle.std.proofs.Common.{refl, ◌∙◌, ◌≡◌, ℕ, List, [], ◌∷◌, true, false, Bool, Option, Some, None, ap, sym}
use Rattle.std.proofs.lemmas.Option.{none-some, same_Some}
use Rattle.std.specs.Prelude.{if◌then◌else◌, ◌==◌}
use Rattle.spdm_basis.specs.declared.causes.record_fault.RecordFault.{RecordFault}
use Rattle.spdm_grammar.specs.declared.messages.error_code.ErrorCode.{ErrorCode}
use Rattle.spdm_grammar.specs.declared.told.phase.Phase.{Phase}
use Rattle.responder_machine.proofs.Entries.{session_of-no_effect, session_of-Sealed}
use Rattle.responder_machine.proofs.Turns.{turn_of-refused, turn_of-carried, session_turn-effect}
use Rattle.responder_machine.specs.Answer.{Free}
use Rattle.responder_machine.specs.Handling.{turn_of}
use Rattle.responder_machine.specs.History.{History, kept_of, ended_of, phase_of, clear_turns}
use Rattle.responder_machine.specs.History.Entry.{Clear, Sealed, Queued, Ticked, Dropped}
use Rattle.spdm_machine.specs.Keys.{Draw}
use Rattle.responder_machine.specs.Laws.{RefusedClearKeepsSessions, RefusedInChunksKeepsSessions, RefusedRecordKeepsSessions}
use Rattle.responder_machine.specs.Place.{clear_place}
use Rattle.responder_machine.specs.Records.{opening_fault, opened}
use Rattle.responder_machine.specs.Responder.{Outcome, on_clear, after, is_repeat, kept_reply, on_record, to_session, in_session, in_session_by, repeats, kept_record, decrypt_error}
use Rattle.spdm_machine.specs.Bodies.{clear_body, record_body}
use Rattle.responder_machine.specs.Responder.Outcome.{Same, Unopened, Adds}
use Rattle.responder_machine.specs.SameSession.{IsSameSession}
use Rattle.responder_machine.specs.Session.{Events, session_of, after_record, last_of, id_in_record}
use Rattle.responder_machine.specs.Setup.{RspSetup}
use Rattle.responder_machine.specs.Turn.{Turn}
use Rattle.responder_machine.specs.Turn.Effect.{NoEffect}

-- A repeat, or an entry without effect.
without_effect : (h : History) (tag : ℕ) (t : Turn) (d : Draw) (body : List ℕ) (id : ℕ) (again : Bool) → t.effect ≡ NoEffect
    → session_of id (after h (if again then Same body else Adds (Clear tag t d))) ≡ session_of id h
without_effect h tag t d body id true e = refl
without_effect h tag t d body id false e = session_of-no_effect id tag t d h e

by_effect : (r : RspSetup) (h : History) (tag : ℕ) (m : List ℕ) (f : Free) (d : Draw) (id : ℕ) → (turn_of r (clear_place h) m f).effect ≡ NoEffect
    → session_of id (after h (on_clear r h tag m f d)) ≡ session_of id h
unfolding on_clear
by_effect r h tag m f d id e = without_effect h tag (turn_of r (clear_place h) m f) d (clear_body (kept_reply (kept_of h))) id (is_repeat (kept_of h) tag m) e

pub refused_clear : RefusedClearKeepsSessions
refused_clear r h tag m f d e is id = by_effect r h tag m f d id (ap (λ (t : Turn). t.effect) (turn_of-refused r (clear_place h) m f e is))

pub refused_in_chunks : RefusedInChunksKeepsSessions
refused_in_chunks r h tag m f d c e is refused id = by_effect r h tag m f d id (turn_of-carried r (clear_place h) m f c e is refused)

-- ---- Inside a record.

abbrev pub turn_in : Outcome → Option Turn
turn_in (Same body) = None
turn_in (Unopened body) = None
turn_in (Adds (Clear tag t d)) = None
turn_in (Adds (Sealed tag m t reply d)) = Some t
turn_in (Adds (Queued bytes)) = None
turn_in (Adds (Ticked seconds)) = None
turn_in (Adds (Dropped id)) = None

-- An outcome has no turn, or one that had no effect if it was refused.
abbrev pub IsHarmless : Outcome → Type 0
IsHarmless o = (t : Turn) (e : ErrorCode) → turn_in o ≡ Some t → t.refused ≡ Some e → t.effect ≡ NoEffect

either-harmless : (b : Bool) (o u : Outcome) → IsHarmless o → IsHarmless u → IsHarmless (if b then o else u)
either-harmless true o u x y = x
either-harmless false o u x y = y

none-harmless : (o : Outcome) → turn_in o ≡ None → IsHarmless o
none-harmless o none t e is refused = absurd (none-some t (sym none ∙ is))

in_session_by-harmless : (r : RspSetup) (phase : Phase) (s : Events) (f : Free) (tag : ℕ) (m : List ℕ) (d : Draw) (x : Option RecordFault) → IsHarmless (in_session_by r phase s f tag m d x)
in_session_by-harmless r phase s f tag m d (Some fault) = none-harmless (Unopened (decrypt_error phase)) refl
in_session_by-harmless r phase s f tag m d None = λ t e is refused.
    ap (λ (u : Turn). u.effect) (sym (same_Some _ _ is)) ∙ session_turn-effect r s (opened r.psk s m) f e (ap (λ (u : Turn). u.refused) (same_Some _ _ is) ∙ refused)

in_session-harmless : (r : RspSetup) (phase : Phase) (s : Events) (f : Free) (tag : ℕ) (m : List ℕ) (d : Draw) → IsHarmless (in_session r phase s f tag m d)
unfolding in_session
in_session-harmless r phase s f tag m d = in_session_by-harmless r phase s f tag m d (opening_fault r.psk s m)

to_session-harmless : (r : RspSetup) (phase : Phase) (s : Events) (f : Free) (tag : ℕ) (m : List ℕ) (d : Draw) → IsHarmless (to_session r phase s f tag m d)
to_session-harmless r phase [] f tag m d = none-harmless (Unopened (decrypt_error phase)) refl
to_session-harmless r phase (v ∷ s) f tag m d =
    either-harmless (repeats (last_of (v ∷ s)) m) (Same (record_body (kept_record (last_of (v ∷ s))))) (in_session r phase (v ∷ s) f tag m d) (none-harmless (Same (record_body (kept_record (last_of (v ∷ s))))) refl) (in_session-harmless r phase (v ∷ s) f tag m d)

pub on_record-harmless : (r : RspSetup) (h : History) (tag : ℕ) (m : List ℕ) (f : Free) (d : Draw) → IsHarmless (on_record r h tag m f d)
unfolding on_record
on_record-harmless r h tag m f d =
    either-harmless (repeats (ended_of h) m) (Same (record_body (kept_record (ended_of h)))) (to_session r (phase_of (clear_turns h)) (session_of (id_in_record m) h) f tag m d)
    (none-harmless (Same (record_body (kept_record (ended_of h)))) refl) (to_session-harmless r (phase_of (clear_turns h)) (session_of (id_in_record m) h) f tag m d)

unchanged : (s : Events) → IsSameSession s s
unchanged s = record {
  live = refl;
  stage = refl;
  id = refl;
  period = refl;
  handshake = refl;
  transcript = refl;
  requests = λ psk. refl;
  responses = λ psk. refl;
  request_updates = refl;
  response_updates = refl;
  negotiation = refl;
  terms = refl;
  taken = refl;
  pending = λ transfer. refl;
  handle = refl;
  given = refl;
  larges = refl;
  chunks = refl;
}

-- A record whose request had no effect.
with_record : (s : Events) (m : List ℕ) (t : Turn) (reply : List ℕ) (e : ErrorCode) → t.refused ≡ Some e → t.effect ≡ NoEffect → IsSameSession s (after_record s m t reply)
with_record [] m t reply e refused effect = rw effect (unchanged [])
with_record (v ∷ s) m t reply e refused effect = rw (effect, refused) (record {
  live = refl;
  stage = refl;
  id = refl;
  period = refl;
  handshake = refl;
  transcript = refl;
  requests = λ psk. refl;
  responses = λ psk. refl;
  request_updates = refl;
  response_updates = refl;
  negotiation = refl;
  terms = refl;
  taken = refl;
  pending = λ transfer. refl;
  handle = refl;
  given = refl;
  larges = refl;
  chunks = refl;
})

either-same : (b : Bool) (s n : Events) → IsSameSession s n → IsSameSession s (if b then n else s)
either-same true s n x = x
either-same false s n x = unchanged s

pub refused_record : RefusedRecordKeepsSessions
refused_record r h tag m f d t reply e adds refused id =
    rw (session_of-Sealed id tag m t reply d h) (either-same (id_in_record m == id) (session_of id h) (after_record (session_of id h) m t reply) (with_record (session_of id h) m t reply e refused effect))
  where
    effect : t.effect ≡ NoEffect
    effect = on_record-harmless r h tag m f d t e (ap turn_in adds) refused
