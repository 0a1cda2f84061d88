-- What two walks over one capture show is the same, where some relation of their dialogues is kept by each step, and
-- related dialogues show the same.
use Rattle.std.proofs.Common.{◌≡◌, ◌==◌, ℕ, List, [], ◌∷◌, refl, sym, ap, ◌∙◌, subst, reverse, map, Bool, true, false, Option, Some, None, Result, Ok, Err, cond}
use Rattle.std.specs.Prelude.{MatchBool}
use Rattle.mctp_framing.specs.Gathering.{Gathered}
use Rattle.mctp_framing.specs.Packet.{PacketFields, parsed}
use Rattle.requester_machine.specs.Setup.{ReqSetup}
use Rattle.responder_machine.specs.Setup.{RspSetup, towards}
use Rattle.spdm_basis.specs.declared.PacketFault.{PacketFault}
use Rattle.spdm_machine.specs.Packets.{gathered_from}
use Rattle.capture_machine.specs.Capture.{Leads, Follows, FollowsBy, ComesFrom, GoesTo, AsksBy, RepliesBy}
use Rattle.capture_machine.specs.Difference.{Why, IsOtherwiseWrong, why_by, from_why, to_why, comes_why, goes_why}
use Rattle.capture_machine.specs.Difference.Why.{UnknownEnd}
use Rattle.capture_machine.specs.Rounds.{Dialogue, new_dialogue, is_at, dialogue_at, with_dialogue}
use Rattle.capture_machine.specs.SessionTable.{Row, Seen, HasTable, LeadsShowing, rows_after, rows_between, seen}
use Rattle.world_machine.specs.Setup.{Configuration, known_of}

-- A relation of dialogues that each step keeps, and that what is shown looks no further than.
pub record IsKept (w : Configuration) (R : Dialogue → Dialogue → Type 0) : Type 1 where
  pub setups : (d e : Dialogue) → R d e → d.setup ≡ e.setup
  pub begins : (q : ReqSetup) → R (new_dialogue q) (new_dialogue q)
  pub asks : (d e : Dialogue) (g : Gathered) (next other : Dialogue) → R d e → AsksBy d g next → AsksBy e g other → R next other
  pub replies : (d e : Dialogue) (g : Gathered) (next other : Dialogue) → R d e → RepliesBy w d g next → RepliesBy w e g other → R next other
  pub rows : (d e next other : Dialogue) (rows : List Row) → R d e → R next other → rows_between d next rows ≡ rows_between e other rows
  pub comes : (d e : Dialogue) (g : Gathered) → R d e → comes_why d g ≡ comes_why e g
  pub goes : (r : RspSetup) (d e : Dialogue) (g : Gathered) → R d e → goes_why r d g ≡ goes_why r e g

-- Dialogues, one after another, are related.
abbrev pub All : (R : Dialogue → Dialogue → Type 0) → List Dialogue → List Dialogue → Type 0
All R [] [] = Unit {0}
All R (d ∷ ds) (e ∷ es) = R d e × All R ds es
All R _ _ = ⊥

abbrev Found : (R : Dialogue → Dialogue → Type 0) → Option Dialogue → Option Dialogue → Type 0
Found R None None = Unit {0}
Found R (Some d) (Some e) = R d e
Found R _ _ = ⊥

begin_all : (R : Dialogue → Dialogue → Type 0) (w : Configuration) → IsKept w R → (qs : List ReqSetup) → All R (map new_dialogue qs) (map new_dialogue qs)
begin_all R w k [] = tt
begin_all R w k (q ∷ qs) = (k.begins q, begin_all R w k qs)

-- ---- Which dialogue.

found_by : (R : Dialogue → Dialogue → Type 0) (b c : Bool) (d e : Dialogue) (x y : Option Dialogue) → b ≡ c → R d e → Found R x y → Found R (cond b (Some d) x) (cond c (Some e) y)
found_by R true true d e x y same r f = r
found_by R false false d e x y same r f = f
found_by R true false d e x y same r f = absurd (cc)
found_by R false true d e x y same r f = absurd (cc)

found : (R : Dialogue → Dialogue → Type 0) (w : Configuration) → IsKept w R → (eid : ℕ) (ds es : List Dialogue) → All R ds es → Found R (dialogue_at eid ds) (dialogue_at eid es)
found R w k eid [] [] all = tt
found R w k eid (d ∷ ds) (e ∷ es) all =
    found_by R (is_at eid d) (is_at eid e) d e (dialogue_at eid ds) (dialogue_at eid es) (ap (λ (s : ReqSetup). s.eid == eid) (k.setups d e all.0)) all.0 (found R w k eid ds es all.1)
found R w k eid [] (e ∷ es) all = absurd all
found R w k eid (d ∷ ds) [] all = absurd all

replaced_by : (R : Dialogue → Dialogue → Type 0) (b c : Bool) (d e x y : Dialogue) → b ≡ c → R d e → R x y → R (cond b d x) (cond c e y)
replaced_by R true true d e x y same r s = r
replaced_by R false false d e x y same r s = s
replaced_by R true false d e x y same r s = absurd (cc)
replaced_by R false true d e x y same r s = absurd (cc)

with_all : (R : Dialogue → Dialogue → Type 0) (w : Configuration) → IsKept w R → (d e : Dialogue) (ds es : List Dialogue) → R d e → All R ds es → All R (with_dialogue d ds) (with_dialogue e es)
with_all R w k d e [] [] r all = tt
with_all R w k d e (x ∷ ds) (y ∷ es) r all =
    let same : (x.setup.eid == d.setup.eid) ≡ (y.setup.eid == e.setup.eid) =
    ap (λ (s : ReqSetup). s.eid == d.setup.eid) (k.setups x y all.0) ∙ ap (λ (s : ReqSetup). y.setup.eid == s.eid) (k.setups d e r) in
    (replaced_by R (x.setup.eid == d.setup.eid) (y.setup.eid == e.setup.eid) d e x y same r all.0, with_all R w k d e ds es r all.1)
with_all R w k d e [] (y ∷ es) r all = absurd all
with_all R w k d e (x ∷ ds) [] r all = absurd all

-- ---- One packet.

comes_all : (R : Dialogue → Dialogue → Type 0) (w : Configuration) → IsKept w R → (older : List (List ℕ)) (p : PacketFields) (ds es after other : List Dialogue) (x y : Option Dialogue)
    → All R ds es → Found R x y → ComesFrom w older p ds after x → ComesFrom w older p es other y → All R after other
comes_all R w k older p ds es after other None None all f c h = absurd c
comes_all R w k older p ds es after other (Some d) (Some e) all f c h =
    let P : List Dialogue → Type 0 = λ l. All R l other in
    let Q : List Dialogue → Type 0 = λ l. All R (with_dialogue c.0 ds) l in
    let G : ReqSetup → Type 0 = λ s. AsksBy e (gathered_from w.responder.eid s.eid older p) h.0 in
    let step = subst G (sym (k.setups d e f)) h.1 in
    let next = k.asks d e (gathered_from w.responder.eid d.setup.eid older p) c.0 h.0 f c.1 step in
    subst P (sym c.2) (subst Q (sym h.2) (with_all R w k c.0 h.0 ds es next all))
comes_all R w k older p ds es after other None (Some e) all f c h = absurd f
comes_all R w k older p ds es after other (Some d) None all f c h = absurd f

goes_all : (R : Dialogue → Dialogue → Type 0) (w : Configuration) → IsKept w R → (older : List (List ℕ)) (p : PacketFields) (ds es after other : List Dialogue) (x y : Option Dialogue)
    → All R ds es → Found R x y → GoesTo w older p ds after x → GoesTo w older p es other y → All R after other
goes_all R w k older p ds es after other None None all f c h = absurd c
goes_all R w k older p ds es after other (Some d) (Some e) all f c h =
    let P : List Dialogue → Type 0 = λ l. All R l other in
    let Q : List Dialogue → Type 0 = λ l. All R (with_dialogue c.0 ds) l in
    let G : ReqSetup → Type 0 = λ s. RepliesBy w e (gathered_from s.eid w.responder.eid older p) h.0 in
    let step = subst G (sym (k.setups d e f)) h.1 in
    let next = k.replies d e (gathered_from d.setup.eid w.responder.eid older p) c.0 h.0 f c.1 step in
    subst P (sym c.2) (subst Q (sym h.2) (with_all R w k c.0 h.0 ds es next all))
goes_all R w k older p ds es after other None (Some e) all f c h = absurd f
goes_all R w k older p ds es after other (Some d) None all f c h = absurd f

either_all : (R : Dialogue → Dialogue → Type 0) (w : Configuration) → IsKept w R → (older : List (List ℕ)) (p : PacketFields) (ds es after other : List Dialogue) (to from : Bool) → All R ds es
    → MatchBool to (ComesFrom w older p ds after (dialogue_at p.from ds)) (MatchBool from (GoesTo w older p ds after (dialogue_at p.to ds)) ⊥)
    → MatchBool to (ComesFrom w older p es other (dialogue_at p.from es)) (MatchBool from (GoesTo w older p es other (dialogue_at p.to es)) ⊥)
    → All R after other
either_all R w k older p ds es after other true from all c h = comes_all R w k older p ds es after other (dialogue_at p.from ds) (dialogue_at p.from es) all (found R w k p.from ds es all) c h
either_all R w k older p ds es after other false true all c h = goes_all R w k older p ds es after other (dialogue_at p.to ds) (dialogue_at p.to es) all (found R w k p.to ds es all) c h
either_all R w k older p ds es after other false false all c h = absurd c

follows_all : (R : Dialogue → Dialogue → Type 0) (w : Configuration) → IsKept w R → (older : List (List ℕ)) (p : Result PacketFields PacketFault) (ds es after other : List Dialogue)
    → All R ds es → FollowsBy w older ds after p → FollowsBy w older es other p → All R after other
follows_all R w k older (Err fault) ds es after other all c h = absurd c
follows_all R w k older (Ok p) ds es after other all c h = either_all R w k older p ds es after other (p.to == w.responder.eid) (p.from == w.responder.eid) all c h

-- ---- All packets.

pub leads_all : (R : Dialogue → Dialogue → Type 0) (w : Configuration) → IsKept w R → (packets : List (List ℕ)) (ds es : List Dialogue) → Leads w packets ds → Leads w packets es → All R ds es
unfolding Follows
leads_all R w k [] ds es c h =
    let P : List Dialogue → Type 0 = λ l. All R l es in
    let Q : List Dialogue → Type 0 = λ l. All R (map new_dialogue w.requesters) l in
    subst P (sym c) (subst Q (sym h) (begin_all R w k w.requesters))
leads_all R w k (packet ∷ older) ds es c h = follows_all R w k older (parsed packet) c.0 h.0 ds es (leads_all R w k older c.0 h.0 c.1 h.1) c.2 h.2

rows_all : (R : Dialogue → Dialogue → Type 0) (w : Configuration) → IsKept w R → (ds es after other : List Dialogue) (rows : List Row) → All R ds es → All R after other → rows_after ds after rows ≡ rows_after es other rows
rows_all R w k [] [] after other rows all next = refl
rows_all R w k (d ∷ ds) (e ∷ es) [] [] rows all next = refl
rows_all R w k (d ∷ ds) (e ∷ es) (x ∷ xs) (y ∷ ys) rows all next =
    ap (rows_after ds xs) (k.rows d e x y rows all.0 next.0) ∙ rows_all R w k ds es xs ys (rows_between e y rows) all.1 next.1
rows_all R w k [] (e ∷ es) after other rows all next = absurd all
rows_all R w k (d ∷ ds) [] after other rows all next = absurd all
rows_all R w k (d ∷ ds) (e ∷ es) [] (y ∷ ys) rows all next = absurd next
rows_all R w k (d ∷ ds) (e ∷ es) (x ∷ xs) [] rows all next = absurd next

pub shows_all : (R : Dialogue → Dialogue → Type 0) (w : Configuration) → IsKept w R → (packets : List (List ℕ)) (ds es : List Dialogue) (rows others : List Row)
    → LeadsShowing w packets ds rows → LeadsShowing w packets es others → All R ds es × (rows ≡ others)
unfolding Follows
shows_all R w k [] ds es rows others c h =
    let P : List Dialogue → Type 0 = λ l. All R l es in
    let Q : List Dialogue → Type 0 = λ l. All R (map new_dialogue w.requesters) l in
    (subst P (sym c.0) (subst Q (sym h.0) (begin_all R w k w.requesters)), c.1 ∙ sym h.1)
shows_all R w k (packet ∷ older) ds es rows others c h =
    let before = shows_all R w k older c.0 h.0 c.1 h.1 c.2 h.2 in
    let after = follows_all R w k older (parsed packet) c.0 h.0 ds es before.0 c.3 h.3 in
    (after, c.4 ∙ ap (rows_after c.0 ds) before.1 ∙ rows_all R w k c.0 h.0 ds es h.1 before.0 after ∙ sym h.4)

-- One capture has one table.
pub one_table_by : (R : Dialogue → Dialogue → Type 0) (w : Configuration) → IsKept w R → (packets : List (List ℕ)) (one other : List Seen) → HasTable w packets one → HasTable w packets other → one ≡ other
one_table_by R w k packets one other c h =
    c.3 ∙ ap (λ (l : List Row). map (seen w) (reverse l)) (shows_all R w k (reverse packets) c.0 h.0 c.1 h.1 c.2 h.2).1 ∙ sym h.3

-- ---- Reasons.

from_all : (R : Dialogue → Dialogue → Type 0) (w : Configuration) → IsKept w R → (older : List (List ℕ)) (p : PacketFields) (x y : Option Dialogue) → Found R x y → from_why w older p x ≡ from_why w older p y
from_all R w k older p None None f = refl
from_all R w k older p (Some d) (Some e) f =
    k.comes d e (gathered_from w.responder.eid d.setup.eid older p) f ∙ ap (λ (s : ReqSetup). comes_why e (gathered_from w.responder.eid s.eid older p)) (k.setups d e f)
from_all R w k older p None (Some e) f = absurd f
from_all R w k older p (Some d) None f = absurd f

to_all : (R : Dialogue → Dialogue → Type 0) (w : Configuration) → IsKept w R → (older : List (List ℕ)) (p : PacketFields) (x y : Option Dialogue) → Found R x y → to_why w older p x ≡ to_why w older p y
to_all R w k older p None None f = refl
to_all R w k older p (Some d) (Some e) f =
    k.goes (towards w.responder (known_of d.setup)) d e (gathered_from d.setup.eid w.responder.eid older p) f
    ∙ ap (λ (s : ReqSetup). goes_why (towards w.responder (known_of s)) e (gathered_from s.eid w.responder.eid older p)) (k.setups d e f)
to_all R w k older p None (Some e) f = absurd f
to_all R w k older p (Some d) None f = absurd f

why_all : (R : Dialogue → Dialogue → Type 0) (w : Configuration) → IsKept w R → (older : List (List ℕ)) (p : Result PacketFields PacketFault) (ds es : List Dialogue) → All R ds es → why_by w older ds p ≡ why_by w older es p
why_all R w k older (Err fault) ds es all = refl
why_all R w k older (Ok p) ds es all =
    let one = from_all R w k older p (dialogue_at p.from ds) (dialogue_at p.from es) (found R w k p.from ds es all) in
    let other = to_all R w k older p (dialogue_at p.to ds) (dialogue_at p.to es) (found R w k p.to ds es all) in
    ap (λ (o : Option Why). cond (p.to == w.responder.eid) o (cond (p.from == w.responder.eid) (to_why w older p (dialogue_at p.to ds)) (Some UnknownEnd))) one
    ∙ ap (λ (o : Option Why). cond (p.to == w.responder.eid) (from_why w older p (dialogue_at p.from es)) (cond (p.from == w.responder.eid) o (Some UnknownEnd))) other

-- The reasons beside wrong verify data.
pub one_reason_by : (R : Dialogue → Dialogue → Type 0) (w : Configuration) → IsKept w R → (older : List (List ℕ)) (packet : List ℕ) (one other : Why) → IsOtherwiseWrong w older packet one → IsOtherwiseWrong w older packet other → one ≡ other
unfolding IsOtherwiseWrong
one_reason_by R w k older packet one other c h =
    let same : Some one ≡ Some other = sym c.1.2 ∙ why_all R w k older (parsed packet) c.1.0 h.1.0 (leads_all R w k older c.1.0 h.1.0 c.1.1 h.1.1) ∙ h.1.2 in
    cc
