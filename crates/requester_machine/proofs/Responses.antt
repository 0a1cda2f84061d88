-- The number of the next response counts those taken under its purpose.
use Rattle.std.proofs.Common.{refl, ◌∙◌, ◌≡◌, ◌<◌, ◌≤◌, ◌+◌, ℕ, List, [], ◌∷◌, true, false, Bool, ap, sym, arith}
use Rattle.std.specs.Prelude.{◌==◌, if◌then◌else◌, bytes_eq}
use Rattle.std.proofs.lemmas.Bool.{false≢true}
use Rattle.key_schedule.specs.Purpose.{Purpose, application_record}
use Rattle.key_schedule.specs.declared.direction.Direction.TheVariants.{Response}
use Rattle.spdm_grammar.specs.declared.told.phase.Stage.{Stage}
use Rattle.spdm_grammar.specs.declared.told.phase.Stage.TheVariants as stage
use Rattle.spdm_machine.specs.Sessions.{purpose_in}
use Rattle.spdm_machine.specs.Sessions.{is_past_handshake}
use Rattle.requester_machine.specs.History.{Effect}
use Rattle.requester_machine.specs.History.Effect.{Nothing, Answers, Refuses, Stops, Grants, Loses}
use Rattle.requester_machine.specs.Laws.{is_same_purpose, is_same_kind}
use Rattle.requester_machine.specs.Message.{Ask}
use Rattle.requester_machine.specs.Message.Ask.{AskFinish, AskData, AskBeat, AskUpdate, AskVerify, AskMeasure, AskChunk, AskEnd}
use Rattle.requester_machine.specs.Order.{IsOrdered, is_opening, is_answer, waiting_ask, stage_for, may_bring}
use Rattle.requester_machine.specs.Records.{response_purpose}
use Rattle.requester_machine.specs.ResponseLaws.{taken_purpose, taken_under, UpdateAllBeginsAnew}
use Rattle.requester_machine.specs.Session.{Steps, stage_of, t1_of, t2_of, response_epoch, response_next, updates_all}
use Rattle.requester_machine.specs.Session.Step.{Started, Accepted, Asked, Took}
use Rattle.requester_machine.proofs.Numbers.{is_same_purpose-refl, and_false, and_middle, below, unsealed, next_epoch, taken_in}
use Rattle.spdm_basis.proofs.Bools.{not_less}

pub update_all : UpdateAllBeginsAnew
update_all psk s sealed inner answer = (refl, refl)

-- ---- What was never taken.

kinds_differ : (psk t : List ℕ) (e : ℕ) (s : Steps) → stage_of s ≡ stage.Handshake → is_same_purpose (application_record psk t Response e) (response_purpose psk s) ≡ false
kinds_differ psk t e s here =
    ap (λ st. is_same_purpose (application_record psk t Response e) (purpose_in st psk (t1_of s) (t2_of s) Response (response_epoch s))) here
    ∙ and_middle (bytes_eq t (t1_of s)) (e == 0)

never : {A : Type 0} → stage.Open ≡ stage.Handshake → A
never is = absurd (false≢true (sym (ap is_past_handshake is)))

never_verifying : {A : Type 0} → stage.Verifying ≡ stage.Handshake → A
never_verifying is = absurd (false≢true (sym (ap is_past_handshake is)))

-- In the handshake nothing was taken under a purpose of records after it.
none_after : (psk t : List ℕ) (e : ℕ) (s : Steps) → stage_of s ≡ stage.Handshake → taken_under psk (application_record psk t Response e) s ≡ 0
none_after psk t e [] here = refl
none_after psk t e (Started n x ∷ older) here = none_after psk t e older here
none_after psk t e (Accepted a ∷ older) here = none_after psk t e older here
none_after psk t e (Asked ask inner sealed ∷ older) here = none_after psk t e older here
none_after psk t e (Took sealed inner (Grants AskFinish answer) ∷ older) here = never here
none_after psk t e (Took sealed inner (Grants AskVerify answer) ∷ older) here = never here
none_after psk t e (Took sealed inner (Grants (AskUpdate all) answer) ∷ older) here = never_verifying here
none_after psk t e (Took sealed inner (Grants AskData answer) ∷ older) here = unsealed _ _ (kinds_differ psk t e older here) (none_after psk t e older here)
none_after psk t e (Took sealed inner (Grants AskBeat answer) ∷ older) here = unsealed _ _ (kinds_differ psk t e older here) (none_after psk t e older here)
none_after psk t e (Took sealed inner (Grants (AskMeasure op) answer) ∷ older) here = unsealed _ _ (kinds_differ psk t e older here) (none_after psk t e older here)
none_after psk t e (Took sealed inner (Grants (AskChunk op handle number before) answer) ∷ older) here = unsealed _ _ (kinds_differ psk t e older here) (none_after psk t e older here)
none_after psk t e (Took sealed inner (Grants AskEnd answer) ∷ older) here = unsealed _ _ (kinds_differ psk t e older here) (none_after psk t e older here)
none_after psk t e (Took sealed inner Nothing ∷ older) here = unsealed _ _ (kinds_differ psk t e older here) (none_after psk t e older here)
none_after psk t e (Took sealed inner (Answers asked answer) ∷ older) here = unsealed _ _ (kinds_differ psk t e older here) (none_after psk t e older here)
none_after psk t e (Took sealed inner (Refuses asked) ∷ older) here = unsealed _ _ (kinds_differ psk t e older here) (none_after psk t e older here)
none_after psk t e (Took sealed inner Stops ∷ older) here = unsealed _ _ (kinds_differ psk t e older here) (none_after psk t e older here)
none_after psk t e (Took sealed inner Loses ∷ older) here = unsealed _ _ (kinds_differ psk t e older here) (none_after psk t e older here)

epoch_in : (st : Stage) (psk t1 t2 : List ℕ) (e : ℕ) → (purpose_in st psk t1 t2 Response e).epoch ≤ e
epoch_in stage.Handshake psk t1 t2 e = omega arith
epoch_in stage.Open psk t1 t2 e = omega arith
epoch_in stage.Verifying psk t1 t2 e = omega arith

-- The purpose of a record taken has at most the epoch that stands after it.
epoch_taken : (b : Bool) (p : Purpose) (e : ℕ) → p.epoch ≤ e → (if b then record p { epoch = e + 1 } else p).epoch ≤ (if b then e + 1 else e)
epoch_taken true p e small = omega arith
epoch_taken false p e small = small

epoch_before : (b : Bool) (n m : ℕ) → (if b then n + 1 else n) < m → n < m
epoch_before true n m less = omega arith
epoch_before false n m less = less

later_differs : (p other : Purpose) → other.epoch < p.epoch → is_same_purpose p other ≡ false
later_differs p other less = rw (not_less p.epoch other.epoch less) (and_false (bytes_eq p.transcript other.transcript) (is_same_kind p.kind other.kind))

-- Nothing was taken under a purpose of a later epoch.
pub none_later : (psk : List ℕ) (p : Purpose) (s : Steps) → response_epoch s < p.epoch → taken_under psk p s ≡ 0
none_later psk p [] later = refl
none_later psk p (Started n x ∷ older) later = none_later psk p older later
none_later psk p (Accepted a ∷ older) later = none_later psk p older later
none_later psk p (Asked ask inner sealed ∷ older) later = none_later psk p older later
none_later psk p (Took sealed inner effect ∷ older) later =
    unsealed _ _
    (later_differs p (taken_purpose psk older effect) (below _ _ _ (epoch_taken (updates_all effect) (response_purpose psk older) (response_epoch older) (epoch_in (stage_of older) psk (t1_of older) (t2_of older) (response_epoch older))) later))
    (none_later psk p older (epoch_before (updates_all effect) (response_epoch older) p.epoch later))

-- Where PSK_EXCHANGE alone was sent, no record was taken.
none_opening : (psk : List ℕ) (p : Purpose) (s : Steps) → is_opening s ≡ true → (response_next s ≡ 0) × (taken_under psk p s ≡ 0)
none_opening psk p [] is = absurd (false≢true is)
none_opening psk p (Started n x ∷ []) is = (refl, refl)
none_opening psk p (Started n x ∷ (step ∷ older)) is = absurd (false≢true is)
none_opening psk p (Accepted a ∷ older) is = absurd (false≢true is)
none_opening psk p (Asked ask inner sealed ∷ older) is = absurd (false≢true is)
none_opening psk p (Took sealed inner effect ∷ older) is = absurd (false≢true is)

-- ---- Which steps keep the purpose.

purpose_at : (psk : List ℕ) (st : Stage) (t1 t2 other : List ℕ) (e : ℕ) → st ≡ stage.Handshake → purpose_in st psk t1 t2 Response e ≡ purpose_in st psk t1 other Response e
purpose_at psk st t1 t2 other e here = ap (λ x. purpose_in x psk t1 t2 Response e) here ∙ sym (ap (λ x. purpose_in x psk t1 other Response e) here)

asked-purpose : (psk : List ℕ) (ask : Ask) (inner sealed : List ℕ) (s : Steps) → stage_of s ≡ stage_for ask → response_purpose psk (Asked ask inner sealed ∷ s) ≡ response_purpose psk s
asked-purpose psk AskFinish inner sealed s here = purpose_at psk (stage_of s) (t1_of s) (t2_of (Asked AskFinish inner sealed ∷ s)) (t2_of s) (response_epoch s) here
asked-purpose psk AskData inner sealed s here = refl
asked-purpose psk AskBeat inner sealed s here = refl
asked-purpose psk (AskUpdate all) inner sealed s here = refl
asked-purpose psk AskVerify inner sealed s here = refl
asked-purpose psk (AskMeasure op) inner sealed s here = refl
asked-purpose psk (AskChunk op handle number before) inner sealed s here = refl
asked-purpose psk AskEnd inner sealed s here = refl

-- ---- The count.

-- A record taken under the purpose that stands after it is one more.
one_more : (psk : List ℕ) (p own : Purpose) (s : Steps) (n : ℕ) → p ≡ own → n ≡ taken_under psk own s
    → n + 1 ≡ (if is_same_purpose p own then taken_under psk p s + 1 else taken_under psk p s)
one_more psk p own s n same is = ap (λ x. x + 1) is ∙ sym (ap (λ x. if is_same_purpose x own then taken_under psk x s + 1 else taken_under psk x s) same ∙ rw (is_same_purpose-refl own) refl)

-- KEY_UPDATE is asked in Open.
update_asked : (all : Bool) (answer : List ℕ) (ask : Ask) (st : Stage) → may_bring (Grants (AskUpdate all) answer) ask ≡ true → st ≡ stage_for ask → st ≡ stage.Open
update_asked all answer (AskUpdate asked) st may is = is
update_asked all answer AskFinish st may is = absurd (false≢true may)
update_asked all answer AskData st may is = absurd (false≢true may)
update_asked all answer AskBeat st may is = absurd (false≢true may)
update_asked all answer AskVerify st may is = absurd (false≢true may)
update_asked all answer (AskMeasure op) st may is = absurd (false≢true may)
update_asked all answer (AskChunk op handle number before) st may is = absurd (false≢true may)
update_asked all answer AskEnd st may is = absurd (false≢true may)

update_in : (all : Bool) (answer : List ℕ) (s : Steps) → is_answer (Grants (AskUpdate all) answer) (waiting_ask s) ≡ true → IsOrdered s → stage_of s ≡ stage.Open
update_in all answer [] is ordered = absurd (false≢true is)
update_in all answer (Started n x ∷ older) is ordered = absurd (false≢true is)
update_in all answer (Accepted a ∷ older) is ordered = absurd (false≢true is)
update_in all answer (Asked ask inner sealed ∷ older) is ordered = update_asked all answer ask (stage_of older) is ordered.0
update_in all answer (Took sealed inner other ∷ older) is ordered = absurd (false≢true is)

taken-count : (psk : List ℕ) (effect : Effect) (sealed inner : List ℕ) (s : Steps) → is_answer effect (waiting_ask s) ≡ true → IsOrdered s
    → response_next s ≡ taken_under psk (response_purpose psk s) s
    → response_next (Took sealed inner effect ∷ s) ≡ taken_under psk (response_purpose psk (Took sealed inner effect ∷ s)) (Took sealed inner effect ∷ s)
taken-count psk (Grants AskFinish answer) sealed inner s fits ordered is =
    let here = (taken_in (Grants AskFinish answer) s fits ordered).0 refl in
    sym (unsealed _ _ (kinds_differ psk (t2_of (Took sealed inner (Grants AskFinish answer) ∷ s)) (response_epoch s) s here) (none_after psk (t2_of (Took sealed inner (Grants AskFinish answer) ∷ s)) (response_epoch s) s here))
taken-count psk (Grants (AskUpdate true) answer) sealed inner s fits ordered is =
    one_more psk (response_purpose psk (Took sealed inner (Grants (AskUpdate true) answer) ∷ s)) (taken_purpose psk s (Grants (AskUpdate true) answer)) s 0
    (sym (ap (λ st. record (purpose_in st psk (t1_of s) (t2_of s) Response (response_epoch s)) { epoch = response_epoch s + 1 }) (update_in true answer s fits ordered)))
    (sym (none_later psk (taken_purpose psk s (Grants (AskUpdate true) answer)) s (next_epoch (response_epoch s))))
taken-count psk (Grants (AskUpdate false) answer) sealed inner s fits ordered is =
    one_more psk (response_purpose psk (Took sealed inner (Grants (AskUpdate false) answer) ∷ s)) (response_purpose psk s) s (response_next s)
    (sym (ap (λ st. purpose_in st psk (t1_of s) (t2_of s) Response (response_epoch s)) (update_in false answer s fits ordered)))
    is
taken-count psk (Grants AskVerify answer) sealed inner s fits ordered is =
    one_more psk (response_purpose psk (Took sealed inner (Grants AskVerify answer) ∷ s)) (response_purpose psk s) s (response_next s)
    (sym (ap (λ st. purpose_in st psk (t1_of s) (t2_of s) Response (response_epoch s)) ((taken_in (Grants AskVerify answer) s fits ordered).1 refl)))
    is
taken-count psk (Grants AskData answer) sealed inner s fits ordered is = one_more psk (response_purpose psk s) (response_purpose psk s) s (response_next s) refl is
taken-count psk (Grants AskBeat answer) sealed inner s fits ordered is = one_more psk (response_purpose psk s) (response_purpose psk s) s (response_next s) refl is
taken-count psk (Grants (AskMeasure op) answer) sealed inner s fits ordered is = one_more psk (response_purpose psk s) (response_purpose psk s) s (response_next s) refl is
taken-count psk (Grants (AskChunk op handle number before) answer) sealed inner s fits ordered is = one_more psk (response_purpose psk s) (response_purpose psk s) s (response_next s) refl is
taken-count psk (Grants AskEnd answer) sealed inner s fits ordered is = one_more psk (response_purpose psk s) (response_purpose psk s) s (response_next s) refl is
taken-count psk Nothing sealed inner s fits ordered is = one_more psk (response_purpose psk s) (response_purpose psk s) s (response_next s) refl is
taken-count psk (Answers asked answer) sealed inner s fits ordered is = one_more psk (response_purpose psk s) (response_purpose psk s) s (response_next s) refl is
taken-count psk (Refuses asked) sealed inner s fits ordered is = one_more psk (response_purpose psk s) (response_purpose psk s) s (response_next s) refl is
taken-count psk Stops sealed inner s fits ordered is = one_more psk (response_purpose psk s) (response_purpose psk s) s (response_next s) refl is
taken-count psk Loses sealed inner s fits ordered is = one_more psk (response_purpose psk s) (response_purpose psk s) s (response_next s) refl is

pub counted : (psk : List ℕ) (s : Steps) → IsOrdered s → response_next s ≡ taken_under psk (response_purpose psk s) s
counted psk [] ordered = refl
counted psk (Started n x ∷ []) ordered = refl
counted psk (Started n x ∷ (step ∷ older)) ordered = absurd (false≢true (sym ordered))
counted psk (Accepted a ∷ older) ordered = (none_opening psk (response_purpose psk (Accepted a ∷ older)) older ordered).0 ∙ sym (none_opening psk (response_purpose psk (Accepted a ∷ older)) older ordered).1
counted psk (Asked ask inner sealed ∷ older) ordered = counted psk older ordered.3 ∙ ap (λ p. taken_under psk p older) (sym (asked-purpose psk ask inner sealed older ordered.0))
counted psk (Took sealed inner effect ∷ older) ordered = taken-count psk effect sealed inner older ordered.0 ordered.1 (counted psk older ordered.1)
