-- No step of a walk makes the responder have taken fewer messages in the clear.
use Rattle.std.proofs.Common.{◌≡◌, ◌≤◌, ◌+◌, ◌∙◌, ℕ, List, [], ◌∷◌, refl, sym, ap, subst, arith, Bool, true, false, Option, Result, Ok, Err, cond, inl, inr}
use Rattle.std.specs.Prelude.{MatchBool}
use Rattle.capture_laws.specs.Warned.{taken_count}
use Rattle.check_laws.specs.Order.{is_answer, is_request}
use Rattle.check_laws.specs.Walks.{StepsBy}
use Rattle.check_late_laws.proofs.Late.WalksAnew.{asks_keep}
use Rattle.mctp_framing.specs.Gathering.{Gathered}
use Rattle.mctp_framing.specs.Gathering.Gathered.{Whole, More, Dropped as Lost}
use Rattle.mctp_framing.specs.Packet.{PacketFields}
use Rattle.responder_machine.specs.History.{Entry, History}
use Rattle.responder_machine.specs.History.Entry.{Clear, Sealed, Queued, Ticked, Dropped}
use Rattle.responder_machine.specs.May.{with_dropped}
use Rattle.responder_machine.specs.Responder.{Outcome, after}
use Rattle.responder_machine.specs.Responder.Outcome.{Same, Unopened, Adds}
use Rattle.responder_machine.specs.Setup.{RspSetup, towards}
use Rattle.responder_machine.specs.Turn.{is_taken}
use Rattle.spdm_basis.specs.declared.PacketFault.{PacketFault}
use Rattle.spdm_machine.specs.Packets.{gathered_from}
use Rattle.capture_machine.specs.Capture.{AsksBy, RepliesBy}
use Rattle.capture_machine.specs.CapturedAnswers.{Answers, AnswersAgain, AnswersLarge, AnswersPlainly, Completes}
use Rattle.capture_machine.specs.LargeAnswers.{dropped_before_large, is_unseen_in, place_named, seen, unseen, with_large}
use Rattle.capture_machine.specs.Rounds.{Dialogue, Round}
use Rattle.world_machine.specs.Setup.{Configuration, known_of}

-- ---- What is changed of an entry, and drops.

count_more : (e : Entry) (g h : History) → taken_count g ≡ taken_count h → taken_count (e ∷ g) ≡ taken_count (e ∷ h)
count_more (Clear tag t d) g h same = ap (λ (n : ℕ). cond (is_taken t) (n + 1) n) same
count_more (Sealed tag m t reply d) g h same = same
count_more (Queued bytes) g h same = same
count_more (Ticked seconds) g h same = same
count_more (Dropped id) g h same = same

count_seen : (w : List ℕ) (e : Entry) (h : History) → taken_count (seen w e ∷ h) ≡ taken_count (e ∷ h)
count_seen w (Clear tag t d) h = refl
count_seen w (Sealed tag m t reply d) h = refl
count_seen w (Queued bytes) h = refl
count_seen w (Ticked seconds) h = refl
count_seen w (Dropped id) h = refl

pub count_unseen : (e : Entry) (h : History) → taken_count (unseen e ∷ h) ≡ taken_count (e ∷ h)
count_unseen (Clear tag t d) h = refl
count_unseen (Sealed tag m t reply d) h = refl
count_unseen (Queued bytes) h = refl
count_unseen (Ticked seconds) h = refl
count_unseen (Dropped id) h = refl

either_count : (b : Bool) (x y : History) (n : ℕ) → taken_count x ≡ n → taken_count y ≡ n → taken_count (cond b x y) ≡ n
either_count true x y n one other = one
either_count false x y n one other = other

pub count_drops : (ids : List ℕ) (h : History) → taken_count (with_dropped h ids) ≡ taken_count h
count_drops [] h = refl
count_drops (id ∷ ids) h = count_drops ids (Dropped id ∷ h)

count_large : (place : Option ℕ) (w : List ℕ) (h : History) → taken_count (with_large place w h) ≡ taken_count h
count_large place w [] = refl
count_large place w (e ∷ h) =
    either_count (is_unseen_in place e) (seen w e ∷ h) (e ∷ with_large place w h) (taken_count (e ∷ h)) (count_seen w e h) (count_more e (with_large place w h) h (count_large place w h))

count_before : (place : Option ℕ) (ids : List ℕ) (h : History) → taken_count (dropped_before_large place ids h) ≡ taken_count h
count_before place ids [] = refl
count_before place ids (e ∷ h) =
    either_count (is_unseen_in place e) (e ∷ with_dropped h ids) (e ∷ dropped_before_large place ids h) (taken_count (e ∷ h)) (count_more e (with_dropped h ids) h (count_drops ids h))
    (count_more e (dropped_before_large place ids h) h (count_before place ids h))

pub count_completed : (place : Option ℕ) (w : List ℕ) (ids : List ℕ) (h : History) → taken_count (with_large place w (dropped_before_large place ids h)) ≡ taken_count h
count_completed place w ids h = count_large place w (dropped_before_large place ids h) ∙ count_before place ids h

-- ---- What is added.

either_least : (b : Bool) (n : ℕ) → n ≤ cond b (n + 1) n
either_least true n = omega arith
either_least false n = omega arith

least_more : (e : Entry) (h : History) → taken_count h ≤ taken_count (e ∷ h)
least_more (Clear tag t d) h = either_least (is_taken t) (taken_count h)
least_more (Sealed tag m t reply d) h = omega arith
least_more (Queued bytes) h = omega arith
least_more (Ticked seconds) h = omega arith
least_more (Dropped id) h = omega arith

least_after : (h : History) (o : Outcome) → taken_count h ≤ taken_count (after h o)
least_after h (Same b) = omega arith
least_after h (Unopened b) = omega arith
least_after h (Adds e) = least_more e h

-- ---- A step.

pub answers_count : (r : RspSetup) (d : Dialogue) (round : Round) (answer : List ℕ) (next : History) (fetching : Option (List ℕ)) → Answers r d round answer next fetching → taken_count d.responder ≤ taken_count next
unfolding Answers
answers_count r d round answer next fetching (inl a) =
    let p : AnswersPlainly r d round answer next = a.0 in
    subst (λ (h : History). taken_count d.responder ≤ taken_count h) (sym p.6)
    (subst (λ (n : ℕ). n ≤ taken_count (after (with_dropped d.responder p.0) p.1)) (count_drops p.0 d.responder) (least_after (with_dropped d.responder p.0) p.1))
answers_count r d round answer next fetching (inr (inl a)) =
    let p : AnswersLarge r d round answer next a.0 = a.1 in
    subst (λ (h : History). taken_count d.responder ≤ taken_count h) (sym p.6) (least_more (unseen p.1) d.responder)
answers_count r d round answer next fetching (inr (inr (inl a))) =
    let p : AnswersAgain r d round answer next a.0 = a.1 in
    subst (λ (h : History). taken_count d.responder ≤ taken_count h) (sym p.4) (omega arith)
answers_count r d round answer next fetching (inr (inr (inr a))) =
    let p : Completes r d round answer next = a.0 in
    let place : Option ℕ = place_named round.body in
    let k : History = with_large place p.0 (dropped_before_large place p.1 d.responder) in
    subst (λ (h : History). taken_count d.responder ≤ taken_count h) (sym p.8)
    (subst (λ (n : ℕ). n ≤ taken_count (p.2 ∷ k)) (count_completed place p.0 p.1 d.responder) (least_more p.2 k))

replies_count : (w : Configuration) (d : Dialogue) (g : Gathered) (next : Dialogue) → RepliesBy w d g next → taken_count d.responder ≤ taken_count next.responder
replies_count w d (Whole route body) next replies =
    let c = replies.2 in
    subst (λ (x : Dialogue). taken_count d.responder ≤ taken_count x.responder) (sym c.4.3.2) (answers_count (towards w.responder (known_of d.setup)) d c.0 body c.4.0 c.4.1 c.4.2)
replies_count w d More next replies = subst (λ (x : Dialogue). taken_count d.responder ≤ taken_count x.responder) (sym replies) (omega arith)
replies_count w d (Lost cause) next replies = absurd replies

pub step_count : (w : Configuration) (eid : ℕ) (older : List (List ℕ)) (d next : Dialogue) (r : Result PacketFields PacketFault) → StepsBy w eid older d next r → taken_count d.responder ≤ taken_count next.responder
step_count w eid older d next (Err fault) step = subst (λ (x : Dialogue). taken_count d.responder ≤ taken_count x.responder) (sym step) (omega arith)
step_count w eid older d next (Ok p) step = by_ends (is_request w.responder.eid eid p) (is_answer w.responder.eid eid p) step
  where
    by_ends : (b c : Bool) → MatchBool b (AsksBy d (gathered_from w.responder.eid eid older p) next) (MatchBool c (RepliesBy w d (gathered_from eid w.responder.eid older p) next) (next ≡ d))
        → taken_count d.responder ≤ taken_count next.responder
    by_ends true c asks = subst (λ (h : History). taken_count d.responder ≤ taken_count h) (sym (asks_keep d (gathered_from w.responder.eid eid older p) next asks)) (omega arith)
    by_ends false true replies = replies_count w d (gathered_from eid w.responder.eid older p) next replies
    by_ends false false same = subst (λ (x : Dialogue). taken_count d.responder ≤ taken_count x.responder) (sym same) (omega arith)
