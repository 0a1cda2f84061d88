-- What each step of a walk keeps holds of each dialogue of each walk.
use Rattle.std.proofs.Common.{◌≡◌, ℕ, List, [], ◌∷◌, subst, Bool, true, false, Some, cond}
use Rattle.std.proofs.lemmas.Option.{none-some, same_Some}
use Rattle.mctp_framing.specs.Gathering.{Gathered}
use Rattle.requester_machine.specs.Setup.{ReqSetup}
use Rattle.capture_machine.specs.Capture.{AsksBy, Leads, RepliesBy}
use Rattle.capture_machine.specs.Rounds.{Dialogue, dialogue_at, is_at, new_dialogue}
use Rattle.world_machine.specs.Setup.{Configuration}
use Rattle.capture_machine.proofs.Walks.{All, IsKept, leads_all}
use Rattle.capture_machine.proofs.WalksAlike.{BothAlike, kept}

-- Where nothing was captured it holds, and each request and each answer keeps it.
pub record IsSteady (w : Configuration) (P : Dialogue → Type 0) : Type 1 where
  pub begins : (q : ReqSetup) → P (new_dialogue q)
  pub asks : (d : Dialogue) (g : Gathered) (next : Dialogue) → P d → AsksBy d g next → P next
  pub replies : (d : Dialogue) (g : Gathered) (next : Dialogue) → P d → RepliesBy w d g next → P next

abbrev With : (P : Dialogue → Type 0) → Dialogue → Dialogue → Type 0
With P d e = BothAlike d e × P d

with_kept : (w : Configuration) (P : Dialogue → Type 0) → IsSteady w P → IsKept w (With P)
with_kept w P steady =
    let k = kept w in record {
      setups = λ d e r. k.setups d e r.0;
      begins = λ q. (k.begins q, steady.begins q);
      asks = λ d e g next other r one two. (k.asks d e g next other r.0 one two, steady.asks d g next r.1 one);
      replies = λ d e g next other r one two. (k.replies d e g next other r.0 one two, steady.replies d g next r.1 one);
      rows = λ d e next other rows r s. k.rows d e next other rows r.0 s.0;
      comes = λ d e g r. k.comes d e g r.0;
      goes = λ s d e g r. k.goes s d e g r.0;
    }

at_by : (P : Dialogue → Type 0) (b : Bool) (d e : Dialogue) (ds : List Dialogue) (eid : ℕ) → P d → (dialogue_at eid ds ≡ Some e → P e) → cond b (Some d) (dialogue_at eid ds) ≡ Some e → P e
at_by P true d e ds eid here next at = subst P (same_Some d e at) here
at_by P false d e ds eid here next at = next at

in_all : (P : Dialogue → Type 0) (ds : List Dialogue) (eid : ℕ) (d : Dialogue) → All (With P) ds ds → dialogue_at eid ds ≡ Some d → P d
in_all P [] eid d all at = absurd (none-some d at)
in_all P (x ∷ ds) eid d all at = at_by P (is_at eid x) x d ds eid all.0.1 (in_all P ds eid d all.1) at

pub steadily : (w : Configuration) (P : Dialogue → Type 0) → IsSteady w P → (older : List (List ℕ)) (ds : List Dialogue) (eid : ℕ) (d : Dialogue) → Leads w older ds → dialogue_at eid ds ≡ Some d → P d
steadily w P steady older ds eid d leads at = in_all P ds eid d (leads_all (With P) w (with_kept w P steady) older ds ds leads leads) at
