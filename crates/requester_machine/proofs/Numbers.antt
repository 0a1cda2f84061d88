-- The number of the next record counts those sealed under its purpose.
use Rattle.std.proofs.Common.{refl, ◌∙◌, ◌≡◌, ◌<◌, ◌≤◌, ◌+◌, ℕ, List, [], ◌∷◌, true, false, Bool, ap, sym, arith}
use Rattle.std.specs.Prelude.{◌==◌, ◌&&◌, if◌then◌else◌, bytes_eq}
use Rattle.std.proofs.lemmas.Bool.{false≢true, eq-eqb}
use Rattle.std.proofs.lemmas.Bool.Decides.{nat_tests}
use Rattle.key_schedule.specs.Purpose.{Purpose, Kind, application_record}
use Rattle.key_schedule.specs.Purpose.Kind.{Verify, HandshakeRecord, ApplicationRecord}
use Rattle.key_schedule.specs.declared.direction.Direction.TheVariants.{Request}
use Rattle.spdm_grammar.specs.declared.told.phase.Stage.{Stage}
use Rattle.spdm_grammar.specs.declared.told.phase.Stage.TheVariants as stage
use Rattle.spdm_machine.specs.Sessions.{purpose_in}
use Rattle.spdm_machine.specs.Sessions.{is_past_handshake}
use Rattle.requester_machine.specs.History.{Effect}
use Rattle.requester_machine.specs.History.Effect.{Nothing, Answers, Refuses, Stops, Grants, Loses}
use Rattle.requester_machine.specs.Laws.{sealed_under, is_same_purpose, is_same_kind, UpdateBeginsAnew}
use Rattle.requester_machine.specs.Message.{Ask}
use Rattle.requester_machine.specs.Message.Ask.{AskFinish, AskData, AskBeat, AskUpdate, AskVerify, AskMeasure, AskChunk, AskEnd}
use Rattle.requester_machine.specs.Order.{IsOrdered, is_opening, is_answer, waiting_ask, stage_for, may_bring}
use Rattle.requester_machine.specs.Records.{request_purpose}
use Rattle.requester_machine.specs.Session.{Steps, stage_of, t1_of, t2_of, request_epoch, request_next, finishes, updates, verifies}
use Rattle.requester_machine.specs.Session.Step.{Started, Accepted, Asked, Took}
use Rattle.spdm_basis.proofs.Bools.{not_less}

pub update : UpdateBeginsAnew
update psk s sealed inner answer all = (refl, refl)

-- ---- Purposes.

bytes_eq-refl : (bytes : List ℕ) → bytes_eq bytes bytes ≡ true
bytes_eq-refl [] = refl
bytes_eq-refl (x ∷ bytes) = grind (arith, nat_tests, bytes_eq-refl bytes)

is_same_kind-refl : (kind : Kind) → is_same_kind kind kind ≡ true
is_same_kind-refl Verify = refl
is_same_kind-refl HandshakeRecord = refl
is_same_kind-refl ApplicationRecord = refl

pub is_same_purpose-refl : (p : Purpose) → is_same_purpose p p ≡ true
is_same_purpose-refl p = rw (bytes_eq-refl p.transcript, is_same_kind-refl p.kind, eq-eqb p.epoch p.epoch refl) refl

pub and_false : (a b : Bool) → (a && b && false) ≡ false
and_false true true = refl
and_false true false = refl
and_false false b = refl

pub and_middle : (a b : Bool) → (a && false && b) ≡ false
and_middle true b = refl
and_middle false b = refl

-- Purposes of the handshake differ from those after it, and those of an earlier epoch from those of a later one.
kinds_differ : (psk t : List ℕ) (e : ℕ) (s : Steps) → stage_of s ≡ stage.Handshake → is_same_purpose (application_record psk t Request e) (request_purpose psk s) ≡ false
kinds_differ psk t e s here =
    ap (λ st. is_same_purpose (application_record psk t Request e) (purpose_in st psk (t1_of s) (t2_of s) Request (request_epoch s))) here
    ∙ and_middle (bytes_eq t (t1_of s)) (e == 0)

epoch_in : (st : Stage) (psk t1 t2 : List ℕ) (e : ℕ) → (purpose_in st psk t1 t2 Request e).epoch ≤ e
epoch_in stage.Handshake psk t1 t2 e = omega arith
epoch_in stage.Open psk t1 t2 e = omega arith
epoch_in stage.Verifying psk t1 t2 e = omega arith

pub below : (a b c : ℕ) → a ≤ b → b < c → a < c
below a b c x y = omega arith

epochs_differ : (psk : List ℕ) (p : Purpose) (s : Steps) → request_epoch s < p.epoch → is_same_purpose p (request_purpose psk s) ≡ false
epochs_differ psk p s later =
    rw (not_less p.epoch (request_purpose psk s).epoch (below _ (request_epoch s) _ (epoch_in (stage_of s) psk (t1_of s) (t2_of s) (request_epoch s)) later))
    (and_false (bytes_eq p.transcript (request_purpose psk s).transcript) (is_same_kind p.kind (request_purpose psk s).kind))

-- ---- What was never sealed.

was_handshake : (a b : Bool) (st : Stage) → (if a then stage.Open else (if b then stage.Verifying else st)) ≡ stage.Handshake → st ≡ stage.Handshake
was_handshake true b st is = absurd (false≢true (sym (ap is_past_handshake is)))
was_handshake false true st is = absurd (false≢true (sym (ap is_past_handshake is)))
was_handshake false false st is = is

pub unsealed : (b : Bool) (n : ℕ) → b ≡ false → n ≡ 0 → (if b then n + 1 else n) ≡ 0
unsealed b n is none = rw is none

-- In the handshake nothing was sealed under a purpose of records after it.
none_after : (psk t : List ℕ) (e : ℕ) (s : Steps) → stage_of s ≡ stage.Handshake → sealed_under psk (application_record psk t Request e) s ≡ 0
none_after psk t e [] here = refl
none_after psk t e (Started n x ∷ older) here = none_after psk t e older here
none_after psk t e (Accepted a ∷ older) here = none_after psk t e older here
none_after psk t e (Asked ask inner sealed ∷ older) here = unsealed _ _ (kinds_differ psk t e older here) (none_after psk t e older here)
none_after psk t e (Took sealed inner effect ∷ older) here = none_after psk t e older (was_handshake _ (updates effect) (stage_of older) here)

epoch_before : (b : Bool) (n m : ℕ) → (if b then n + 1 else n) < m → n < m
epoch_before true n m less = omega arith
epoch_before false n m less = less

-- Nothing was sealed under a purpose of a later epoch.
none_later : (psk : List ℕ) (p : Purpose) (s : Steps) → request_epoch s < p.epoch → sealed_under psk p s ≡ 0
none_later psk p [] later = refl
none_later psk p (Started n x ∷ older) later = none_later psk p older later
none_later psk p (Accepted a ∷ older) later = none_later psk p older later
none_later psk p (Asked ask inner sealed ∷ older) later = unsealed _ _ (epochs_differ psk p older later) (none_later psk p older later)
none_later psk p (Took sealed inner effect ∷ older) later = none_later psk p older (epoch_before (updates effect) (request_epoch older) p.epoch later)

-- ---- Which steps keep the purpose.

purpose_at : (psk : List ℕ) (st : Stage) (t1 t2 other : List ℕ) (e : ℕ) → st ≡ stage.Handshake → purpose_in st psk t1 t2 Request e ≡ purpose_in st psk t1 other Request e
purpose_at psk st t1 t2 other e here = ap (λ x. purpose_in x psk t1 t2 Request e) here ∙ sym (ap (λ x. purpose_in x psk t1 other Request e) here)

-- A record sealed does, PSK_FINISH too, which is sealed in the handshake.
asked-purpose : (psk : List ℕ) (ask : Ask) (inner sealed : List ℕ) (s : Steps) → stage_of s ≡ stage_for ask → request_purpose psk (Asked ask inner sealed ∷ s) ≡ request_purpose psk s
asked-purpose psk AskFinish inner sealed s here = purpose_at psk (stage_of s) (t1_of s) (t2_of (Asked AskFinish inner sealed ∷ s)) (t2_of s) (request_epoch s) here
asked-purpose psk AskData inner sealed s here = refl
asked-purpose psk AskBeat inner sealed s here = refl
asked-purpose psk (AskUpdate all) inner sealed s here = refl
asked-purpose psk AskVerify inner sealed s here = refl
asked-purpose psk (AskMeasure op) inner sealed s here = refl
asked-purpose psk (AskChunk op handle number before) inner sealed s here = refl
asked-purpose psk AskEnd inner sealed s here = refl

-- ---- The count.

-- Where PSK_EXCHANGE alone was sent, no record was sealed.
none_opening : (psk : List ℕ) (p : Purpose) (s : Steps) → is_opening s ≡ true → (request_next s ≡ 0) × (sealed_under psk p s ≡ 0)
none_opening psk p [] is = absurd (false≢true is)
none_opening psk p (Started n x ∷ []) is = (refl, refl)
none_opening psk p (Started n x ∷ (step ∷ older)) is = absurd (false≢true is)
none_opening psk p (Accepted a ∷ older) is = absurd (false≢true is)
none_opening psk p (Asked ask inner sealed ∷ older) is = absurd (false≢true is)
none_opening psk p (Took sealed inner effect ∷ older) is = absurd (false≢true is)

one_more : (psk : List ℕ) (p : Purpose) (s : Steps) (n : ℕ) → p ≡ request_purpose psk s → n ≡ sealed_under psk (request_purpose psk s) s
    → n + 1 ≡ (if is_same_purpose p (request_purpose psk s) then sealed_under psk p s + 1 else sealed_under psk p s)
one_more psk p s n same is = ap (λ x. x + 1) is ∙ sym (ap (λ x. if is_same_purpose x (request_purpose psk s) then sealed_under psk x s + 1 else sealed_under psk x s) same ∙ rw (is_same_purpose-refl (request_purpose psk s)) refl)

-- VerifyNewKey is answered in Verifying, and PSK_FINISH in the handshake.
answered_in : (effect : Effect) (ask : Ask) (st : Stage) → may_bring effect ask ≡ true → st ≡ stage_for ask
    → (finishes effect ≡ true → st ≡ stage.Handshake) × (verifies effect ≡ true → st ≡ stage.Verifying)
answered_in (Grants AskFinish answer) AskFinish st may is = (λ _. is, λ no. absurd (false≢true no))
answered_in (Grants AskVerify answer) AskVerify st may is = (λ no. absurd (false≢true no), λ _. is)
answered_in (Grants AskData answer) ask st may is = (λ no. absurd (false≢true no), λ no. absurd (false≢true no))
answered_in (Grants AskBeat answer) ask st may is = (λ no. absurd (false≢true no), λ no. absurd (false≢true no))
answered_in (Grants (AskUpdate all) answer) ask st may is = (λ no. absurd (false≢true no), λ no. absurd (false≢true no))
answered_in (Grants (AskMeasure op) answer) ask st may is = (λ no. absurd (false≢true no), λ no. absurd (false≢true no))
answered_in (Grants (AskChunk op handle number before) answer) ask st may is = (λ no. absurd (false≢true no), λ no. absurd (false≢true no))
answered_in (Grants AskEnd answer) ask st may is = (λ no. absurd (false≢true no), λ no. absurd (false≢true no))
answered_in Nothing ask st may is = (λ no. absurd (false≢true no), λ no. absurd (false≢true no))
answered_in (Answers asked answer) ask st may is = (λ no. absurd (false≢true no), λ no. absurd (false≢true no))
answered_in (Refuses asked) ask st may is = (λ no. absurd (false≢true no), λ no. absurd (false≢true no))
answered_in Stops ask st may is = (λ no. absurd (false≢true no), λ no. absurd (false≢true no))
answered_in Loses ask st may is = (λ no. absurd (false≢true no), λ no. absurd (false≢true no))
answered_in (Grants AskFinish answer) _ st may is = absurd (false≢true may)
answered_in (Grants AskVerify answer) _ st may is = absurd (false≢true may)

pub taken_in : (effect : Effect) (s : Steps) → is_answer effect (waiting_ask s) ≡ true → IsOrdered s
    → (finishes effect ≡ true → stage_of s ≡ stage.Handshake) × (verifies effect ≡ true → stage_of s ≡ stage.Verifying)
taken_in effect [] is ordered = absurd (false≢true is)
taken_in effect (Started n x ∷ older) is ordered = absurd (false≢true is)
taken_in effect (Accepted a ∷ older) is ordered = absurd (false≢true is)
taken_in effect (Asked ask inner sealed ∷ older) is ordered = answered_in effect ask (stage_of older) is ordered.0
taken_in effect (Took sealed inner other ∷ older) is ordered = absurd (false≢true is)

pub next_epoch : (n : ℕ) → n < n + 1
next_epoch n = omega arith

-- The count after a record taken: none after PSK_FINISH_RSP and after an update, and the same else.
taken-count : (psk : List ℕ) (effect : Effect) (sealed inner : List ℕ) (s : Steps)
    → (finishes effect ≡ true → stage_of s ≡ stage.Handshake) × (verifies effect ≡ true → stage_of s ≡ stage.Verifying)
    → request_next s ≡ sealed_under psk (request_purpose psk s) s
    → request_next (Took sealed inner effect ∷ s) ≡ sealed_under psk (request_purpose psk (Took sealed inner effect ∷ s)) s
taken-count psk (Grants AskFinish answer) sealed inner s fits is = sym (none_after psk (t2_of (Took sealed inner (Grants AskFinish answer) ∷ s)) (request_epoch s) s (fits.0 refl))
taken-count psk (Grants (AskUpdate all) answer) sealed inner s fits is = sym (none_later psk (request_purpose psk (Took sealed inner (Grants (AskUpdate all) answer) ∷ s)) s (next_epoch (request_epoch s)))
taken-count psk (Grants AskVerify answer) sealed inner s fits is = is ∙ ap (λ st. sealed_under psk (purpose_in st psk (t1_of s) (t2_of s) Request (request_epoch s)) s) (fits.1 refl)
taken-count psk (Grants AskData answer) sealed inner s fits is = is
taken-count psk (Grants AskBeat answer) sealed inner s fits is = is
taken-count psk (Grants (AskMeasure op) answer) sealed inner s fits is = is
taken-count psk (Grants (AskChunk op handle number before) answer) sealed inner s fits is = is
taken-count psk (Grants AskEnd answer) sealed inner s fits is = is
taken-count psk Nothing sealed inner s fits is = is
taken-count psk (Answers asked answer) sealed inner s fits is = is
taken-count psk (Refuses asked) sealed inner s fits is = is
taken-count psk Stops sealed inner s fits is = is
taken-count psk Loses sealed inner s fits is = is

pub counted : (psk : List ℕ) (s : Steps) → IsOrdered s → request_next s ≡ sealed_under psk (request_purpose psk s) s
counted psk [] ordered = refl
counted psk (Started n x ∷ []) ordered = refl
counted psk (Started n x ∷ (step ∷ older)) ordered = absurd (false≢true (sym ordered))
counted psk (Accepted a ∷ older) ordered = (none_opening psk (request_purpose psk (Accepted a ∷ older)) older ordered).0 ∙ sym (none_opening psk (request_purpose psk (Accepted a ∷ older)) older ordered).1
counted psk (Asked ask inner sealed ∷ older) ordered = one_more psk (request_purpose psk (Asked ask inner sealed ∷ older)) older (request_next older) (asked-purpose psk ask inner sealed older ordered.0) (counted psk older ordered.3)
counted psk (Took sealed inner effect ∷ older) ordered = taken-count psk effect sealed inner older (taken_in effect older ordered.0 ordered.1) (counted psk older ordered.1)
