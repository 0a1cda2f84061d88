-- No more messages came to the responder of one requester than there are packets.
use Rattle.std.proofs.Common.{◌≡◌, ◌≤◌, ◌+◌, ◌⊎◌, ℕ, List, [], ◌∷◌, refl, sym, ap, subst, length, Bool, true, false, Option, Result, Ok, Err, cond, inl, inr, arith}
use Rattle.std.specs.Prelude.{MatchBool}
use Rattle.mctp_framing.specs.Gathering.{Gathered}
use Rattle.mctp_framing.specs.Gathering.Gathered.{Whole, More, Dropped as Refused}
use Rattle.mctp_framing.specs.Packet.{PacketFields, parsed}
use Rattle.requester_machine.specs.Setup.{ReqSetup}
use Rattle.responder_machine.specs.BoundLaws.{messages_of}
use Rattle.responder_machine.specs.History.{Entry, History}
use Rattle.responder_machine.specs.History.Entry.{Clear, Sealed, Queued, Ticked, Dropped}
use Rattle.responder_machine.specs.May.{with_dropped}
use Rattle.responder_machine.specs.Responder.{Outcome, after}
use Rattle.responder_machine.specs.Responder.Outcome.{Same, Unopened, Adds}
use Rattle.responder_machine.specs.Setup.{RspSetup, towards}
use Rattle.spdm_basis.specs.declared.PacketFault.{PacketFault}
use Rattle.spdm_machine.specs.Packets.{gathered_from}
use Rattle.check_laws.specs.Keeping.{Kept, restored}
use Rattle.check_requester.specs.JudgedRequester.{Carries}
use Rattle.check_laws.specs.Order.{is_answer, is_request}
use Rattle.check_laws.specs.Walks.{StepsBy, StepsTo, Walks}
use Rattle.capture_machine.specs.Capture.{AsksBy, Begins, Copies, RepliesBy}
use Rattle.capture_machine.specs.CapturedAnswers.{Answers}
use Rattle.capture_machine.specs.LargeAnswers.{dropped_before_large, is_unseen_in, place_named, seen, unseen, with_large}
use Rattle.capture_machine.specs.Rounds.{Dialogue, Round}
use Rattle.world_machine.specs.Setup.{Configuration, known_of}

-- ---- What does not count.

pub dropped_same : (ids : List ℕ) (h : History) → messages_of (with_dropped h ids) ≡ messages_of h
dropped_same [] h = refl
dropped_same (id ∷ ids) h = dropped_same ids (Dropped id ∷ h)

either_same : (b : Bool) (h g : History) (n : ℕ) → messages_of h ≡ n → messages_of g ≡ n → messages_of (cond b h g) ≡ n
either_same true h g n one two = one
either_same false h g n one two = two

seen_same : (answer : List ℕ) (e : Entry) (h : History) → messages_of (seen answer e ∷ h) ≡ messages_of (e ∷ h)
seen_same answer (Clear tag t d) h = refl
seen_same answer (Sealed tag sealed t reply d) h = refl
seen_same answer (Queued bytes) h = refl
seen_same answer (Ticked seconds) h = refl
seen_same answer (Dropped id) h = refl

unseen_same : (e : Entry) (h : History) → messages_of (unseen e ∷ h) ≡ messages_of (e ∷ h)
unseen_same (Clear tag t d) h = refl
unseen_same (Sealed tag sealed t reply d) h = refl
unseen_same (Queued bytes) h = refl
unseen_same (Ticked seconds) h = refl
unseen_same (Dropped id) h = refl

behind_same : (e : Entry) (h g : History) → messages_of g ≡ messages_of h → messages_of (e ∷ g) ≡ messages_of (e ∷ h)
behind_same (Clear tag t d) h g is = ap (λ (n : ℕ). n + 1) is
behind_same (Sealed tag sealed t reply d) h g is = ap (λ (n : ℕ). n + 1) is
behind_same (Queued bytes) h g is = is
behind_same (Ticked seconds) h g is = is
behind_same (Dropped id) h g is = is

large_same : (place : Option ℕ) (answer : List ℕ) (h : History) → messages_of (with_large place answer h) ≡ messages_of h
large_same place answer [] = refl
large_same place answer (e ∷ h) =
    either_same (is_unseen_in place e) (seen answer e ∷ h) (e ∷ with_large place answer h) (messages_of (e ∷ h)) (seen_same answer e h) (behind_same e h (with_large place answer h) (large_same place answer h))

before_same : (place : Option ℕ) (ids : List ℕ) (h : History) → messages_of (dropped_before_large place ids h) ≡ messages_of h
before_same place ids [] = refl
before_same place ids (e ∷ h) =
    either_same (is_unseen_in place e) (e ∷ with_dropped h ids) (e ∷ dropped_before_large place ids h) (messages_of (e ∷ h)) (behind_same e h (with_dropped h ids) (dropped_same ids h))
    (behind_same e h (dropped_before_large place ids h) (before_same place ids h))

-- ---- What counts as one.

entry_more : (e : Entry) (h : History) → messages_of (e ∷ h) ≤ messages_of h + 1
entry_more (Clear tag t d) h = omega arith
entry_more (Sealed tag sealed t reply d) h = omega arith
entry_more (Queued bytes) h = omega arith
entry_more (Ticked seconds) h = omega arith
entry_more (Dropped id) h = omega arith

pub after_more : (h : History) (o : Outcome) → messages_of (after h o) ≤ messages_of h + 1
after_more h (Same body) = omega arith
after_more h (Unopened body) = omega arith
after_more h (Adds e) = entry_more e h

answers_more : (r : RspSetup) (d : Dialogue) (round : Round) (answer : List ℕ) (next : History) (fetching : Option (List ℕ)) → Answers r d round answer next fetching → messages_of next ≤ messages_of d.responder + 1
unfolding Answers
answers_more r d round answer next fetching (inl a) =
    let more = after_more (with_dropped d.responder a.0.0) a.0.1 in
    let same = dropped_same a.0.0 d.responder in
    subst (λ (h : History). messages_of h ≤ messages_of d.responder + 1) (sym a.0.6) (omega (arith, more, same))
answers_more r d round answer next fetching (inr (inl a)) =
    let more = entry_more a.1.1 d.responder in
    let same = unseen_same a.1.1 d.responder in
    subst (λ (h : History). messages_of h ≤ messages_of d.responder + 1) (sym a.1.6) (omega (arith, more, same))
answers_more r d round answer next fetching (inr (inr (inl a))) =
    subst (λ (h : History). messages_of h ≤ messages_of d.responder + 1) (sym a.1.4) (omega arith)
answers_more r d round answer next fetching (inr (inr (inr a))) =
    let place : Option ℕ = place_named round.body in
    let before : History = dropped_before_large place a.0.1 d.responder in
    let more = entry_more a.0.2 (with_large place a.0.0 before) in
    let given = large_same place a.0.0 before in
    let same = before_same place a.0.1 d.responder in
    subst (λ (h : History). messages_of h ≤ messages_of d.responder + 1) (sym a.0.8) (omega (arith, more, same, given))

-- ---- A walk.

abbrev IsFew : ℕ → Dialogue → Type 0
IsFew n d = messages_of d.responder ≤ n

stays_few : (n : ℕ) (d next : Dialogue) → next.responder ≡ d.responder → IsFew n d → IsFew (n + 1) next
stays_few n d next same few = subst (λ (h : History). messages_of h ≤ n + 1) (sym same) (omega (arith, few))

asks_few : (d next : Dialogue) (g : Gathered) (n : ℕ) → AsksBy d g next → IsFew n d → IsFew (n + 1) next
asks_few d next (Whole route body) n c few = by_kind c.2
  where
    by_kind : Copies d route.tag body next ⊎ Begins d route.tag body next → IsFew (n + 1) next
    by_kind (inl k) = stays_few n d next (ap (λ (x : Dialogue). x.responder) k.4) few
    by_kind (inr k) = stays_few n d next (ap (λ (x : Dialogue). x.responder) k.2.3) few
asks_few d next More n c few = stays_few n d next (ap (λ (x : Dialogue). x.responder) c) few
asks_few d next (Refused cause) n c few = absurd c

replies_few : (w : Configuration) (d next : Dialogue) (g : Gathered) (n : ℕ) → RepliesBy w d g next → IsFew n d → IsFew (n + 1) next
replies_few w d next (Whole route body) n c few =
    let k = c.2 in
    let more = answers_more (towards w.responder (known_of d.setup)) d k.0 body k.4.0 k.4.1 k.4.2 in
    subst (λ (x : Dialogue). messages_of x.responder ≤ n + 1) (sym k.4.3.2) (omega (arith, more, few))
replies_few w d next More n c few = stays_few n d next (ap (λ (x : Dialogue). x.responder) c) few
replies_few w d next (Refused cause) n c few = absurd c

steps_few : (w : Configuration) (eid : ℕ) (older : List (List ℕ)) (d next : Dialogue) (r : Result PacketFields PacketFault) (n : ℕ) → StepsBy w eid older d next r → IsFew n d → IsFew (n + 1) next
steps_few w eid older d next (Err fault) n step few = stays_few n d next (ap (λ (x : Dialogue). x.responder) step) few
steps_few w eid older d next (Ok p) n step few = by_ends (is_request w.responder.eid eid p) (is_answer w.responder.eid eid p) step
  where
    by_ends : (b c : Bool) → MatchBool b (AsksBy d (gathered_from w.responder.eid eid older p) next) (MatchBool c (RepliesBy w d (gathered_from eid w.responder.eid older p) next) (next ≡ d)) → IsFew (n + 1) next
    by_ends true c asks = asks_few d next (gathered_from w.responder.eid eid older p) n asks few
    by_ends false true replies = replies_few w d next (gathered_from eid w.responder.eid older p) n replies few
    by_ends false false same = stays_few n d next (ap (λ (x : Dialogue). x.responder) same) few

pub walks_few : (w : Configuration) (q : ReqSetup) (older : List (List ℕ)) (d : Dialogue) → Walks w q older d → IsFew (length older) d
unfolding StepsTo
walks_few w q [] d walk = subst (λ (x : Dialogue). messages_of x.responder ≤ 0) (sym walk) (omega arith)
walks_few w q (packet ∷ older) d walk =
    let more : length older + 1 ≡ length (packet ∷ older) = omega arith in
    subst (λ (n : ℕ). IsFew n d) more (steps_few w q.eid older walk.0 d (parsed packet) (length older) walk.2 (walks_few w q older walk.0 walk.1))

-- What is kept has no more messages than there are packets.
pub kept_messages : (w : Configuration) (q : ReqSetup) (older : List (List ℕ)) (k : Kept) → Carries w q older k → messages_of k.responder ≤ length older
kept_messages w q older k carries = walks_few w q older (record (restored k) { fetching = carries.0 }) carries.1
