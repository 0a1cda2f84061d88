-- What a responder does with a record that opens in a live session and is no repeat.
use Rattle.std.proofs.Common.{◌≡◌, ◌∙◌, ℕ, ◌==◌, ◌||◌, List, [], ◌∷◌, Bool, true, false, cond, Option, Some, None, refl, sym, ap, eq-eqb}
use Rattle.std.specs.Prelude.{if◌then◌else◌}
use Rattle.std.proofs.lemmas.Bool.{false≢true}
use Rattle.std.proofs.lemmas.Slice.Eq.{bytes_eq-Decides}
use Rattle.spdm_basis.specs.declared.causes.record_fault.RecordFault.{RecordFault}
use Rattle.spdm_grammar.specs.declared.names.request_code.TheConstants.{END_SESSION, GET_VERSION, PSK_EXCHANGE}
use Rattle.spdm_machine.specs.Keys.{Draw}
use Rattle.spdm_machine.proofs.Members.{none_some, some_same}
use Rattle.responder_machine.specs.Answer.{Free}
use Rattle.responder_machine.specs.Does.{record_chosen, record_does}
use Rattle.responder_machine.specs.History.{History, KeptRecord, clear_turns, ended_of, negotiation_of, phase_of}
use Rattle.responder_machine.specs.History.Entry.{Clear, Sealed, Queued, Ticked, Dropped}
use Rattle.responder_machine.specs.Records.{opened, opening_fault}
use Rattle.responder_machine.specs.Responder.{in_session, in_session_by, kept_record, on_record, repeats, sealed_entry, session_turn, to_session}
use Rattle.responder_machine.specs.Responder.Outcome.{Adds, Same}
use Rattle.responder_machine.specs.Session.{Event, Events, after_clear, after_record, after_tick, id_in_record, is_live, last_of, session_of, when_live}
use Rattle.responder_machine.specs.Session.Event.{Heard}
use Rattle.responder_machine.specs.Setup.{RspSetup}
use Rattle.responder_machine.specs.Turn.{Turn, takes}
use Rattle.spdm_machine.specs.Bodies.{record_body}
use Rattle.transcript.specs.Transcripts.{Negotiation}

-- ---- The ended session whose last record is kept has no live one of its id.

not_live : (s : Events) → is_live s ≡ false → s ≡ []
not_live [] e = refl
not_live (x ∷ s) e = absurd (false≢true (sym e))

live_recorded : (s : Events) (e : Event) → is_live (when_live s e) ≡ is_live s
live_recorded [] e = refl
live_recorded (x ∷ s) e = refl

-- A session of this id, where the record that is kept names it.
abbrev IsGone : History → Type 0
IsGone h = (k : KeptRecord) → ended_of h ≡ Some k → is_live (session_of (id_in_record k.sealed) h) ≡ false

clear_gone : (id : ℕ) (t : Turn) (s : Events) (n : Negotiation) (older : Option KeptRecord) (k : KeptRecord) (a b : Bool) → takes GET_VERSION t ≡ a → takes PSK_EXCHANGE t ≡ b → (if a || b then None else older) ≡ Some k → (older ≡ Some k → is_live s ≡ false)
    → is_live (after_clear id s t n) ≡ false
clear_gone id t s n older k true b e f is next = absurd (none_some k is)
clear_gone id t s n older k false true e f is next = absurd (none_some k is)
clear_gone id t s n older k false false e f is next = rw (e, f) (next is)

record_gone : (m reply : List ℕ) (t : Turn) (h : History) (k : KeptRecord) (ends here : Bool) → takes END_SESSION t ≡ ends → (id_in_record m == id_in_record k.sealed) ≡ here → (if ends then Some (record { sealed = m; reply = reply }) else ended_of h) ≡ Some k
    → (ended_of h ≡ Some k → is_live (session_of (id_in_record k.sealed) h) ≡ false) → is_live (cond here (after_record (session_of (id_in_record k.sealed) h) m t reply) (session_of (id_in_record k.sealed) h)) ≡ false
record_gone m reply t h k true true e f is next = rw e refl
record_gone m reply t h k true false e f is next =
    let same : record { sealed = m; reply = reply } ≡ k = some_same _ k is in
    absurd (false≢true (sym f ∙ ap (λ (x : KeptRecord). id_in_record m == id_in_record x.sealed) (sym same) ∙ eq-eqb (id_in_record m) (id_in_record m) refl))
record_gone m reply t h k false true e f is next = rw e (live_recorded (session_of (id_in_record k.sealed) h) (Heard m t reply) ∙ next is)
record_gone m reply t h k false false e f is next = next is

tick_gone : (s : Events) (seconds : ℕ) → is_live s ≡ false → is_live (after_tick s seconds) ≡ false
tick_gone [] seconds gone = refl
tick_gone (e ∷ s) seconds gone = absurd (false≢true (sym gone))

dropped_gone : (b : Bool) (s : Events) → is_live s ≡ false → is_live (cond b [] s) ≡ false
dropped_gone true s gone = refl
dropped_gone false s gone = gone

pub ended_gone : (h : History) → (k : KeptRecord) → ended_of h ≡ Some k → is_live (session_of (id_in_record k.sealed) h) ≡ false
unfolding session_of
ended_gone [] k is = absurd (none_some k is)
ended_gone (Clear tag t d ∷ older) k is =
    clear_gone (id_in_record k.sealed) t (session_of (id_in_record k.sealed) older) (negotiation_of (clear_turns older)) (ended_of older) k (takes GET_VERSION t) (takes PSK_EXCHANGE t) refl refl is (ended_gone older k)
ended_gone (Sealed tag m t reply d ∷ older) k is =
    record_gone m reply t older k (takes END_SESSION t) (id_in_record m == id_in_record k.sealed) refl refl is (ended_gone older k)
ended_gone (Queued bytes ∷ older) k is = ended_gone older k is
ended_gone (Ticked seconds ∷ older) k is = tick_gone (session_of (id_in_record k.sealed) older) seconds (ended_gone older k is)
ended_gone (Dropped which ∷ older) k is = dropped_gone (which == id_in_record k.sealed) (session_of (id_in_record k.sealed) older) (ended_gone older k is)

-- So a record for a live session is no repeat of it.
not_ended : (h : History) (sealed : List ℕ) (o : Option KeptRecord) (b : Bool) → ended_of h ≡ o → is_live (session_of (id_in_record sealed) h) ≡ true → repeats o sealed ≡ b → b ≡ false
not_ended h sealed None b is live repeated = sym repeated
not_ended h sealed (Some k) true is live repeated =
    let same = (bytes_eq-Decides k.sealed sealed).0 repeated in
    absurd (false≢true (sym (ended_gone h k is) ∙ ap (λ (m : List ℕ). is_live (session_of (id_in_record m) h)) same ∙ live))
not_ended h sealed (Some k) false is live repeated = refl

-- ---- The record is taken.

to_live : (r : RspSetup) (h : History) (s : Events) (f : Free) (tag : ℕ) (sealed : List ℕ) (d : Draw) → is_live s ≡ true → repeats (last_of s) sealed ≡ false → opening_fault r.psk s sealed ≡ None
    → to_session r (phase_of (clear_turns h)) s f tag sealed d ≡ Adds (sealed_entry r s f tag sealed d (session_turn r s (opened r.psk s sealed) f))
unfolding in_session
to_live r h [] f tag sealed d live new opens = absurd (false≢true live)
to_live r h (e ∷ s) f tag sealed d live new opens =
    ap (λ (b : Bool). if b then Same (record_body (kept_record (last_of (e ∷ s)))) else in_session r (phase_of (clear_turns h)) (e ∷ s) f tag sealed d) new
    ∙ ap (λ (o : Option RecordFault). in_session_by r (phase_of (clear_turns h)) (e ∷ s) f tag sealed d o) opens

pub served : (r : RspSetup) (h : History) (s : Events) (tag : ℕ) (sealed : List ℕ) (d : Draw) → session_of (id_in_record sealed) h ≡ s → is_live s ≡ true → repeats (last_of s) sealed ≡ false → opening_fault r.psk s sealed ≡ None
    → record_does r h tag sealed d ≡ Adds (sealed_entry r s (record_chosen r h sealed d) tag sealed d (session_turn r s (opened r.psk s sealed) (record_chosen r h sealed d)))
unfolding on_record
served r h s tag sealed d is live new opens =
    ap (λ (b : Bool). if b then Same (record_body (kept_record (ended_of h))) else to_session r (phase_of (clear_turns h)) (session_of (id_in_record sealed) h) (record_chosen r h sealed d) tag sealed d)
    (not_ended h sealed (ended_of h) (repeats (ended_of h) sealed) refl (ap is_live is ∙ live) refl)
    ∙ ap (λ (x : Events). to_session r (phase_of (clear_turns h)) x (record_chosen r h sealed d) tag sealed d) is
    ∙ to_live r h s (record_chosen r h sealed d) tag sealed d live new opens
