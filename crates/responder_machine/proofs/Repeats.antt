-- A repeat adds nothing, and what was taken is repeated.
use Rattle.std.proofs.Common.{refl, ◌∙◌, ◌≡◌, ◌⊎◌, ℕ, List, [], ◌∷◌, true, false, Bool, Option, Some, None, ap, sym, eq-eqb, inl, inr}
use Rattle.std.proofs.lemmas.Bool.{false≢true}
use Rattle.std.proofs.lemmas.Option.{none-some}
use Rattle.std.specs.Prelude.{if◌then◌else◌, bytes_eq}
use Rattle.spdm_basis.specs.declared.causes.record_fault.RecordFault.{RecordFault}
use Rattle.spdm_grammar.specs.declared.told.phase.Phase.{Phase}
use Rattle.responder_machine.specs.Answer.{Free}
use Rattle.responder_machine.specs.History.{History, Entry, Kept, KeptRecord, kept_of, ended_of, phase_of, clear_turns}
use Rattle.responder_machine.specs.History.Entry.{Clear, Sealed}
use Rattle.spdm_machine.specs.Keys.{Draw}
use Rattle.responder_machine.specs.Laws.{RepeatAddsNothing, RepeatedRecordAddsNothing, UnopenedAddsNothing, TakenIsRepeated, TakenRecordIsRepeated}
use Rattle.responder_machine.specs.Records.{opening_fault}
use Rattle.responder_machine.specs.Responder.{Outcome, after, on_clear, is_repeat, on_record, to_session, in_session, in_session_by, repeats, kept_record}
use Rattle.spdm_machine.specs.Bodies.{record_body}
use Rattle.responder_machine.specs.Responder.Outcome.{Same, Unopened, Adds}
use Rattle.responder_machine.specs.Session.{Events, session_of, is_live, when_live, id_in_record, last_of}
use Rattle.responder_machine.specs.Session.Event.{Heard}
use Rattle.responder_machine.specs.Setup.{RspSetup}
use Rattle.responder_machine.specs.Turn.{Turn, takes}
use Rattle.spdm_grammar.specs.declared.names.request_code.TheConstants.{END_SESSION}

pub repeat : RepeatAddsNothing
unfolding on_clear
repeat r h tag m f d is = rw is refl

pub bytes_eq-refl : (m : List ℕ) → bytes_eq m m ≡ true
bytes_eq-refl [] = refl
bytes_eq-refl (x ∷ xs) = rw (eq-eqb x x refl, bytes_eq-refl xs) refl

pub kept_of-taken : (tag : ℕ) (t : Turn) (d : Draw) (h : History) → t.refused ≡ None → kept_of (Clear tag t d ∷ h) ≡ Some (record { tag = tag; message = t.message; reply = t.reply })
kept_of-taken tag t d h e = rw e refl

again : (k : Kept) → is_repeat (Some k) k.tag k.message ≡ true
again k = rw (eq-eqb k.tag k.tag refl, bytes_eq-refl k.message) refl

pub taken : TakenIsRepeated
unfolding on_clear
taken r h tag f other d next t adds is = rw (kept_of-taken tag t d h is) (rw (again (record { tag = tag; message = t.message; reply = t.reply })) refl)

-- ---- The same for a record.

abbrev pub entry_in : Outcome → Option Entry
entry_in (Same body) = None
entry_in (Unopened body) = None
entry_in (Adds e) = Some e

-- An outcome that adds is not that of the first branch, which adds nothing.
pub not_first : (b : Bool) (o u : Outcome) (e : Entry) → entry_in o ≡ None → (if b then o else u) ≡ Adds e → (b ≡ false) × (u ≡ Adds e)
not_first true o u e none is = absurd (none-some e (sym none ∙ ap entry_in is))
not_first false o u e none is = (refl, is)

-- A session that took a record was live.
was_live : (r : RspSetup) (phase : Phase) (s : Events) (f : Free) (tag : ℕ) (m : List ℕ) (d : Draw) (e : Entry) → to_session r phase s f tag m d ≡ Adds e → is_live s ≡ true
was_live r phase [] f tag m d e is = absurd (none-some e (ap entry_in is))
was_live r phase (v ∷ s) f tag m d e is = refl

-- A live session that heard a record repeats its reply.
to_heard : (r : RspSetup) (phase : Phase) (s : Events) (f : Free) (tag : ℕ) (m : List ℕ) (t : Turn) (reply : List ℕ) (d : Draw) → is_live s ≡ true → to_session r phase (when_live s (Heard m t reply)) f tag m d ≡ Same (record_body reply)
to_heard r phase [] f tag m t reply d live = absurd (false≢true live)
to_heard r phase (v ∷ s) f tag m t reply d live = rw (bytes_eq-refl m) refl

ended_or_live : (r : RspSetup) (phase : Phase) (s : Events) (ended : Option KeptRecord) (f : Free) (tag : ℕ) (m : List ℕ) (t : Turn) (reply : List ℕ) (d : Draw) (ends : Bool) → repeats ended m ≡ false → is_live s ≡ true
    → (if repeats (if ends then Some (record { sealed = m; reply = reply }) else ended) m
    then Same (record_body (kept_record (if ends then Some (record { sealed = m; reply = reply }) else ended)))
    else to_session r phase (if ends then [] else when_live s (Heard m t reply)) f tag m d) ≡ Same (record_body reply)
ended_or_live r phase s ended f tag m t reply d true new live = rw (bytes_eq-refl m) refl
ended_or_live r phase s ended f tag m t reply d false new live = rw new (to_heard r phase s f tag m t reply d live)

pub taken_record : TakenRecordIsRepeated
unfolding on_record session_of
taken_record r h tag other m f again_f d next t reply adds =
    rw (eq-eqb (id_in_record m) (id_in_record m) refl) (ended_or_live r (phase_of (clear_turns h)) (session_of (id_in_record m) h) (ended_of h) again_f other m t reply next (takes END_SESSION t) fresh.0 (was_live r _ _ _ _ _ _ _ fresh.1))
  where
    fresh : (repeats (ended_of h) m ≡ false) × (to_session r (phase_of (clear_turns h)) (session_of (id_in_record m) h) f tag m d ≡ Adds (Sealed tag m t reply d))
    fresh = not_first (repeats (ended_of h) m) (Same (record_body (kept_record (ended_of h)))) _ (Sealed tag m t reply d) refl adds

-- ---- What adds nothing.

either-nothing : (h : History) (b : Bool) (o u : Outcome) → after h o ≡ h → (b ≡ false → after h u ≡ h) → after h (if b then o else u) ≡ h
either-nothing h true o u x y = x
either-nothing h false o u x y = y refl

session_repeats : (r : RspSetup) (h : History) (phase : Phase) (s : Events) (f : Free) (tag : ℕ) (m : List ℕ) (d : Draw) → repeats (last_of s) m ≡ true → after h (to_session r phase s f tag m d) ≡ h
session_repeats r h phase [] f tag m d is = refl
session_repeats r h phase (v ∷ s) f tag m d is = rw is refl

either_repeats : (r : RspSetup) (h : History) (s : Events) (f : Free) (tag : ℕ) (m : List ℕ) (d : Draw) → (repeats (ended_of h) m ≡ true) ⊎ (repeats (last_of s) m ≡ true)
    → repeats (ended_of h) m ≡ false → after h (to_session r (phase_of (clear_turns h)) s f tag m d) ≡ h
either_repeats r h s f tag m d (inl is) new = absurd (false≢true (sym new ∙ is))
either_repeats r h s f tag m d (inr is) new = session_repeats r h (phase_of (clear_turns h)) s f tag m d is

pub repeated_record : RepeatedRecordAddsNothing
unfolding on_record
repeated_record r h tag m f d is =
    either-nothing h (repeats (ended_of h) m) (Same (record_body (kept_record (ended_of h)))) (to_session r (phase_of (clear_turns h)) (session_of (id_in_record m) h) f tag m d) refl
    (either_repeats r h (session_of (id_in_record m) h) f tag m d is)

by_fault : (r : RspSetup) (h : History) (phase : Phase) (s : Events) (f : Free) (tag : ℕ) (m : List ℕ) (d : Draw) (fault : RecordFault) (x : Option RecordFault) → x ≡ Some fault → after h (in_session_by r phase s f tag m d x) ≡ h
by_fault r h phase s f tag m d fault (Some other) is = refl
by_fault r h phase s f tag m d fault None is = absurd (none-some fault is)

in_session-unopened : (r : RspSetup) (h : History) (phase : Phase) (s : Events) (f : Free) (tag : ℕ) (m : List ℕ) (d : Draw) (fault : RecordFault) → opening_fault r.psk s m ≡ Some fault → after h (in_session r phase s f tag m d) ≡ h
unfolding in_session
in_session-unopened r h phase s f tag m d fault is = by_fault r h phase s f tag m d fault (opening_fault r.psk s m) is

session_unopened : (r : RspSetup) (h : History) (phase : Phase) (s : Events) (f : Free) (tag : ℕ) (m : List ℕ) (d : Draw)
    → (is_live s ≡ false) ⊎ ((fault : RecordFault) × (opening_fault r.psk s m ≡ Some fault)) → after h (to_session r phase s f tag m d) ≡ h
session_unopened r h phase [] f tag m d is = refl
session_unopened r h phase (v ∷ s) f tag m d (inl is) = absurd (false≢true (sym is))
session_unopened r h phase (v ∷ s) f tag m d (inr is) =
    either-nothing h (repeats (last_of (v ∷ s)) m) (Same (record_body (kept_record (last_of (v ∷ s))))) (in_session r phase (v ∷ s) f tag m d) refl
    (λ new. in_session-unopened r h phase (v ∷ s) f tag m d is.0 is.1)

pub unopened : UnopenedAddsNothing
unfolding on_record
unopened r h tag m f d is =
    either-nothing h (repeats (ended_of h) m) (Same (record_body (kept_record (ended_of h)))) (to_session r (phase_of (clear_turns h)) (session_of (id_in_record m) h) f tag m d) refl
    (λ new. session_unopened r h (phase_of (clear_turns h)) (session_of (id_in_record m) h) f tag m d is)
