-- An answer is a step by which a change is taken, by what is kept.
use Rattle.std.proofs.Common.{◌≡◌, ◌∙◌, ℕ, List, [], ◌∷◌, Bool, true, false, cond, Option, Some, None, length, refl, sym, ap, subst}
use Rattle.std.specs.Prelude.{nat_lt}
use Rattle.mctp_framing.specs.Gathering.{Gathered}
use Rattle.requester_machine.specs.History.{History}
use Rattle.requester_machine.specs.History.Entry.{Told, TookClear, TookRecord}
use Rattle.requester_machine.specs.Message.{Sent}
use Rattle.requester_machine.specs.Owed.{with_next}
use Rattle.requester_machine.specs.Setup.{ReqSetup}
use Rattle.check_laws.proofs.KeptAnswers.{kept_is_restored}
use Rattle.check_laws.proofs.Rounded.{answer_turned}
use Rattle.check_laws.proofs.StepsOfWalks.{IsMoved, replies_moved, walks_held}
use Rattle.check_laws.specs.Changes.{IsStep}
use Rattle.check_laws.specs.KeptChanges.{KeptAnswerIsStep}
use Rattle.check_laws.specs.Keeping.{Keeps, Kept, kept_of, owing, restored}
use Rattle.capture_machine.specs.Capture.{RepliesBy}
use Rattle.capture_machine.specs.CapturedRequests.{owes}
use Rattle.capture_machine.specs.Rounds.{Dialogue}
use Rattle.capture_machine.specs.SessionTable.{accepted_between, accepted_in}
use Rattle.world_machine.specs.Setup.{Configuration}

-- ---- Which message is sent upon the newest entry counts for nothing that is accepted.

-- A history shows this: how many entries it has, and what the requester took last.
record Alike (h g : History) : Type 0 where
  long : length h ≡ length g
  takes : accepted_in h ≡ accepted_in g

next_alike : (o : Option Sent) (h : History) → Alike (with_next o h) h
next_alike o [] = record { long = refl; takes = refl }
next_alike o (Told command sent d ∷ h) = record { long = refl; takes = refl }
next_alike o (TookClear tag m led d ∷ h) = record { long = refl; takes = refl }
next_alike o (TookRecord tag id sealed inner led d ∷ h) = record { long = refl; takes = refl }

owing_alike : (o : Option Sent) (h : History) → Alike (owing o h) h
owing_alike None h = record { long = refl; takes = refl }
owing_alike (Some sent) h = next_alike (Some sent) h

bare_alike : (b : Bool) (h : History) → Alike (cond b (with_next None h) h) h
bare_alike true h = next_alike None h
bare_alike false h = record { long = refl; takes = refl }

pub taken_same : (before d : Dialogue) → accepted_between before (restored (kept_of d)) ≡ accepted_between before d
taken_same before d =
    let k : Kept = kept_of d in
    let one = owing_alike k.owed k.requester in
    let two = bare_alike (owes d) d.requester in
    ap (λ (n : ℕ). cond (nat_lt (length before.requester) n) (accepted_in (restored k).requester) None) (one.long ∙ two.long)
    ∙ ap (λ (o : Option ℕ). cond (nat_lt (length before.requester) (length d.requester)) o None) (one.takes ∙ two.takes)

-- ---- The step.

replied : (w : Configuration) (q : ReqSetup) (older : List (List ℕ)) (k : Kept) (g : Gathered) (d : Dialogue) → Keeps w q older k → RepliesBy w (restored k) g d → IsStep (restored k) (restored (kept_of d))
replied w q older k g d keeps replies =
    let moved : IsMoved (restored k) d = replies_moved w (restored k) g d (walks_held w q older (restored k) (kept_is_restored w q older k keeps).0) replies in
    record {
      setup = sym (answer_turned w (restored k) g d replies).setup;
      live = moved.begins.live;
      few = moved.begins.few;
      accepted = λ id takes. moved.accepts id (sym (taken_same (restored k) d) ∙ takes);
    }

pub kept_answer_is_step : KeptAnswerIsStep
kept_answer_is_step w q older k next g keeps c = subst (λ (x : Kept). IsStep (restored k) (restored x)) (sym c.3) (replied w q older k g c.0 keeps c.1)
