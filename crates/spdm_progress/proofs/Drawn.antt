-- Every draw of a responder that stands in its histories has 32 bytes.
use Rattle.std.proofs.Common.{◌≡◌, ℕ, ◌+◌, ◌==◌, List, [], ◌∷◌, drop, length, Bool, true, false, cond, Option, Some, None}
use Rattle.std.specs.Prelude.{slice_index}
use Rattle.spdm_basis.specs.declared.causes.record_fault.RecordFault.{RecordFault}
use Rattle.spdm_grammar.specs.declared.told.phase.Phase.{Phase}
use Rattle.spdm_machine.specs.Keys.{Draw}
use Rattle.responder_machine.specs.Answer.{Free}
use Rattle.responder_machine.specs.Does.{responder_does, clear_chosen, record_chosen}
use Rattle.responder_machine.specs.History.{History, kept_of, ended_of, phase_of, clear_turns}
use Rattle.responder_machine.specs.History.Entry.{Clear, Sealed, Queued, Ticked, Dropped}
use Rattle.responder_machine.specs.Records.{opening_fault}
use Rattle.responder_machine.specs.Responder.{Outcome, after, on_clear, on_record, to_session, in_session, in_session_by, is_repeat, repeats}
use Rattle.responder_machine.specs.Responder.Outcome.{Same, Unopened, Adds}
use Rattle.responder_machine.specs.Responding.{Responding, next_draw, all_draws}
use Rattle.responder_machine.specs.Session.{Events, session_of, id_in_record, last_of}
use Rattle.responder_machine.specs.Setup.{RspSetup}
use Rattle.spdm_agreement.proofs.Worlds.Happens.{draw_length}

abbrev pub AreDrawn : History → Type 0
AreDrawn [] = Unit {0}
AreDrawn (Clear tag t d ∷ older) = (length d.bytes ≡ 32) × AreDrawn older
AreDrawn (_ ∷ older) = AreDrawn older

-- An outcome that adds no clear entry with another draw.
abbrev IsDrawn : Outcome → Type 0
IsDrawn (Adds (Clear tag t d)) = length d.bytes ≡ 32
IsDrawn _ = Unit {0}

keeps : (h : History) (o : Outcome) → IsDrawn o → AreDrawn h → AreDrawn (after h o)
keeps h (Same body) x k = k
keeps h (Unopened body) x k = k
keeps h (Adds (Clear tag t d)) x k = (x, k)
keeps h (Adds (Sealed tag m t reply d)) x k = k
keeps h (Adds (Queued bytes)) x k = k
keeps h (Adds (Ticked seconds)) x k = k
keeps h (Adds (Dropped id)) x k = k

either : (b : Bool) (x y : Outcome) → IsDrawn x → IsDrawn y → IsDrawn (cond b x y)
either true x y p q = p
either false x y p q = q

clear_drawn : (r : RspSetup) (h : History) (tag : ℕ) (m : List ℕ) (f : Free) (d : Draw) → length d.bytes ≡ 32 → IsDrawn (on_clear r h tag m f d)
unfolding on_clear
clear_drawn r h tag m f d whole = either (is_repeat (kept_of h) tag m) _ _ tt whole

by_drawn : (r : RspSetup) (phase : Phase) (s : Events) (f : Free) (tag : ℕ) (m : List ℕ) (d : Draw) (o : Option RecordFault) → IsDrawn (in_session_by r phase s f tag m d o)
by_drawn r phase s f tag m d (Some fault) = tt
by_drawn r phase s f tag m d None = tt

in_drawn : (r : RspSetup) (phase : Phase) (s : Events) (f : Free) (tag : ℕ) (m : List ℕ) (d : Draw) → IsDrawn (in_session r phase s f tag m d)
unfolding in_session
in_drawn r phase s f tag m d = by_drawn r phase s f tag m d (opening_fault r.psk s m)

to_drawn : (r : RspSetup) (phase : Phase) (s : Events) (f : Free) (tag : ℕ) (m : List ℕ) (d : Draw) → IsDrawn (to_session r phase s f tag m d)
to_drawn r phase [] f tag m d = tt
to_drawn r phase (e ∷ s) f tag m d = either (repeats (last_of (e ∷ s)) m) _ (in_session r phase (e ∷ s) f tag m d) tt (in_drawn r phase (e ∷ s) f tag m d)

record_drawn : (r : RspSetup) (h : History) (tag : ℕ) (m : List ℕ) (f : Free) (d : Draw) → IsDrawn (on_record r h tag m f d)
unfolding on_record
record_drawn r h tag m f d = either (repeats (ended_of h) m) _ _ tt (to_drawn r (phase_of (clear_turns h)) (session_of (id_in_record m) h) f tag m d)

pub does_drawn : (r : RspSetup) (h g : History) (tag : ℕ) (body : List ℕ) (d : Draw) → length d.bytes ≡ 32 → AreDrawn g → AreDrawn (after g (responder_does r h tag body d))
does_drawn r h g tag body d whole k =
    keeps g (responder_does r h tag body d)
    (either (slice_index body 0 == 5) _ _ (clear_drawn r h tag (drop 1 body) (clear_chosen r h d) d whole) (record_drawn r h tag (drop 1 body) (record_chosen r h (drop 1 body) d) d)) k

-- A draw has 32 bytes.
pub draws_whole : (r : Responding) → length (next_draw r).bytes ≡ 32
unfolding next_draw
draws_whole r = draw_length r.seed (r.first + all_draws r.connections)
