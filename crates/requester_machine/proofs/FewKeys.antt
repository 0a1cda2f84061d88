-- No key of a session seals or takes too many records.
use Rattle.std.proofs.Common.{refl, ◌≡◌, ◌∙◌, ◌≤◌, ◌<◌, ◌+◌, ℕ, List, [], ◌∷◌, true, false, Bool, Option, Some, None, ap, sym, subst, arith, eqb-true}
use Rattle.std.specs.Prelude.{◌==◌, ◌&&◌, if◌then◌else◌, bytes_eq}
use Rattle.std.proofs.lemmas.Bool.{false≢true, and_parts}
use Rattle.std.proofs.lemmas.Slice.Eq.{bytes_eq-Decides}
use Rattle.key_schedule.specs.Purpose.{Purpose, Kind}
use Rattle.key_schedule.specs.Purpose.Kind.{Verify, HandshakeRecord, ApplicationRecord}
use Rattle.requester_machine.specs.History.{Effect}
use Rattle.requester_machine.specs.History.Effect.{Nothing, Answers, Refuses, Stops, Grants, Loses}
use Rattle.requester_machine.specs.Laws.{sealed_under, is_same_purpose, is_same_kind}
use Rattle.requester_machine.specs.Message.{Ask}
use Rattle.requester_machine.specs.Message.Ask.{AskFinish, AskData, AskBeat, AskUpdate, AskVerify, AskMeasure, AskChunk, AskEnd}
use Rattle.requester_machine.specs.Order.{IsOrdered, is_answer, is_same, may_bring, waiting_ask}
use Rattle.requester_machine.specs.Records.{asks_all, request_purpose, response_purpose}
use Rattle.requester_machine.specs.ResponseLaws.{taken_purpose, taken_under}
use Rattle.requester_machine.specs.Session.{Steps, session_of, request_next, response_next, response_epoch, updates_all}
use Rattle.requester_machine.specs.Session.Step.{Started, Accepted, Asked, Took}
use Rattle.requester_machine.specs.SpentLaws.{AreNumbersFew, number_for, KeysAreFew}
use Rattle.requester_machine.proofs.ClearLeads.{tested}
use Rattle.requester_machine.proofs.FewMade.{numbers_few}
use Rattle.requester_machine.proofs.MadeOrder.{in_order}
use Rattle.requester_machine.proofs.Numbers as number
use Rattle.requester_machine.proofs.Responses as response

-- ---- Two purposes that are the same count the same records.

same_kind : (a b : Kind) → is_same_kind a b ≡ true → a ≡ b
same_kind Verify Verify is = refl
same_kind HandshakeRecord HandshakeRecord is = refl
same_kind ApplicationRecord ApplicationRecord is = refl
same_kind Verify HandshakeRecord is = absurd (false≢true is)
same_kind Verify ApplicationRecord is = absurd (false≢true is)
same_kind HandshakeRecord Verify is = absurd (false≢true is)
same_kind HandshakeRecord ApplicationRecord is = absurd (false≢true is)
same_kind ApplicationRecord Verify is = absurd (false≢true is)
same_kind ApplicationRecord HandshakeRecord is = absurd (false≢true is)

alike : (p r x : Purpose) → is_same_purpose p r ≡ true → is_same_purpose p x ≡ is_same_purpose r x
alike p r x is =
    let parts = and_parts (bytes_eq p.transcript r.transcript && is_same_kind p.kind r.kind) (p.epoch == r.epoch) is in
    let front = and_parts (bytes_eq p.transcript r.transcript) (is_same_kind p.kind r.kind) parts.0 in
    ap (λ (t : List ℕ). bytes_eq t x.transcript && is_same_kind p.kind x.kind && p.epoch == x.epoch) ((bytes_eq-Decides p.transcript r.transcript).0 front.0)
    ∙ ap (λ (k : Kind). bytes_eq r.transcript x.transcript && is_same_kind k x.kind && p.epoch == x.epoch) (same_kind p.kind r.kind front.1)
    ∙ ap (λ (e : ℕ). bytes_eq r.transcript x.transcript && is_same_kind r.kind x.kind && e == x.epoch) (eqb-true p.epoch r.epoch parts.1)

count_alike : (b c : Bool) (n m : ℕ) → b ≡ c → n ≡ m → (if b then n + 1 else n) ≡ (if c then m + 1 else m)
count_alike b c n m same is = ap (λ (x : Bool). if x then n + 1 else n) same ∙ ap (λ (k : ℕ). if c then k + 1 else k) is

sealed_alike : (psk : List ℕ) (p r : Purpose) (s : Steps) → is_same_purpose p r ≡ true → sealed_under psk p s ≡ sealed_under psk r s
sealed_alike psk p r [] is = refl
sealed_alike psk p r (Started n x ∷ older) is = sealed_alike psk p r older is
sealed_alike psk p r (Accepted a ∷ older) is = sealed_alike psk p r older is
sealed_alike psk p r (Asked ask inner sealed ∷ older) is =
    count_alike (is_same_purpose p (request_purpose psk older)) (is_same_purpose r (request_purpose psk older)) (sealed_under psk p older) (sealed_under psk r older) (alike p r (request_purpose psk older) is) (sealed_alike psk p r older is)
sealed_alike psk p r (Took sealed inner effect ∷ older) is = sealed_alike psk p r older is

taken_alike : (psk : List ℕ) (p r : Purpose) (s : Steps) → is_same_purpose p r ≡ true → taken_under psk p s ≡ taken_under psk r s
taken_alike psk p r [] is = refl
taken_alike psk p r (Started n x ∷ older) is = taken_alike psk p r older is
taken_alike psk p r (Accepted a ∷ older) is = taken_alike psk p r older is
taken_alike psk p r (Asked ask inner sealed ∷ older) is = taken_alike psk p r older is
taken_alike psk p r (Took sealed inner effect ∷ older) is =
    count_alike (is_same_purpose p (taken_purpose psk older effect)) (is_same_purpose r (taken_purpose psk older effect)) (taken_under psk p older) (taken_under psk r older) (alike p r (taken_purpose psk older effect) is) (taken_alike psk p r older is)

-- ---- Sealed.

one_more : (n m limit : ℕ) → n ≡ m → m ≤ limit → n + 1 ≤ limit + 1
one_more n m limit is small = omega (arith, is)

keys_sealed : (psk : List ℕ) (p : Purpose) (s : Steps) → IsOrdered s → AreNumbersFew s → sealed_under psk p s ≤ 65536
keys_sealed psk p [] ordered few = omega arith
keys_sealed psk p (Started n x ∷ []) ordered few = omega arith
keys_sealed psk p (Started n x ∷ (step ∷ older)) ordered few = absurd (false≢true (sym ordered))
keys_sealed psk p (Accepted a ∷ []) ordered few = omega arith
keys_sealed psk p (Accepted a ∷ (Started n x ∷ [])) ordered few = omega arith
keys_sealed psk p (Accepted a ∷ (Started n x ∷ (step ∷ older))) ordered few = absurd (false≢true ordered)
keys_sealed psk p (Accepted a ∷ (Accepted b ∷ older)) ordered few = absurd (false≢true ordered)
keys_sealed psk p (Accepted a ∷ (Asked ask inner sealed ∷ older)) ordered few = absurd (false≢true ordered)
keys_sealed psk p (Accepted a ∷ (Took sealed inner effect ∷ older)) ordered few = absurd (false≢true ordered)
keys_sealed psk p (Asked ask inner sealed ∷ older) ordered few =
    tested (λ (n : ℕ). n ≤ 65536) (is_same_purpose p (request_purpose psk older)) (sealed_under psk p older + 1) (sealed_under psk p older)
    (λ same. one_more (sealed_under psk p older) (request_next older) 65535 (sealed_alike psk p (request_purpose psk older) older same ∙ sym (number.counted psk older ordered.3)) few.0)
    (λ other. keys_sealed psk p older ordered.3 few.1)
keys_sealed psk p (Took sealed inner effect ∷ older) ordered few = keys_sealed psk p older ordered.1 few.1

-- ---- Taken.

-- What is answered without an update of the response key was not asked for one.
present : (effect : Effect) (ask : Ask) → may_bring effect ask ≡ true → updates_all effect ≡ false → asks_all ask ≡ false
present (Grants (AskUpdate granted) answer) (AskUpdate all) may other = not_all granted all may other
  where
    not_all : (granted all : Bool) → is_same granted all ≡ true → granted ≡ false → all ≡ false
    not_all true all may other = absurd (false≢true (sym other))
    not_all false true may other = absurd (false≢true may)
    not_all false false may other = refl
present (Grants AskFinish answer) (AskUpdate all) may other = absurd (false≢true may)
present (Grants AskData answer) (AskUpdate all) may other = absurd (false≢true may)
present (Grants AskBeat answer) (AskUpdate all) may other = absurd (false≢true may)
present (Grants AskVerify answer) (AskUpdate all) may other = absurd (false≢true may)
present (Grants (AskMeasure op) answer) (AskUpdate all) may other = absurd (false≢true may)
present (Grants (AskChunk op handle number before) answer) (AskUpdate all) may other = absurd (false≢true may)
present (Grants AskEnd answer) (AskUpdate all) may other = absurd (false≢true may)
present Nothing (AskUpdate all) may other = absurd (false≢true may)
present (Answers asked answer) (AskUpdate all) may other = absurd (false≢true may)
present (Refuses asked) (AskUpdate all) may other = absurd (false≢true may)
present Stops (AskUpdate all) may other = absurd (false≢true may)
present Loses (AskUpdate all) may other = absurd (false≢true may)
present effect AskFinish may other = refl
present effect AskData may other = refl
present effect AskBeat may other = refl
present effect AskVerify may other = refl
present effect (AskMeasure op) may other = refl
present effect (AskChunk op handle number before) may other = refl
present effect AskEnd may other = refl

number_by : (s : Steps) (ask : Ask) → asks_all ask ≡ false → number_for s (Some ask) ≤ 65534 → response_next s ≤ 65534
number_by s ask none small = subst (λ (b : Bool). (if b then 0 else response_next s) ≤ 65534) none small

taken_next : (effect : Effect) (s : Steps) (ask : Option Ask) → is_answer effect ask ≡ true → updates_all effect ≡ false → number_for s ask ≤ 65534 → response_next s ≤ 65534
taken_next effect s None is other small = absurd (false≢true is)
taken_next effect s (Some ask) is other small = number_by s ask (present effect ask is other) small

later : (n : ℕ) → n < n + 1
later n = omega arith

-- How many were taken before under the purpose of a record.
taken_before : (psk : List ℕ) (effect : Effect) (s : Steps) (b : Bool) → updates_all effect ≡ b → is_answer effect (waiting_ask s) ≡ true → IsOrdered s → number_for s (waiting_ask s) ≤ 65534
    → taken_under psk (if b then record (response_purpose psk s) { epoch = response_epoch s + 1 } else response_purpose psk s) s ≤ 65534
taken_before psk effect s true is answers ordered small =
    let none : taken_under psk (record (response_purpose psk s) { epoch = response_epoch s + 1 }) s ≡ 0 = response.none_later psk (record (response_purpose psk s) { epoch = response_epoch s + 1 }) s (later (response_epoch s)) in
    omega (arith, none)
taken_before psk effect s false is answers ordered small =
    let next = taken_next effect s (waiting_ask s) answers is small in
    let same = response.counted psk s ordered in
    omega (arith, next, same)

keys_taken : (psk : List ℕ) (p : Purpose) (s : Steps) → IsOrdered s → AreNumbersFew s → taken_under psk p s ≤ 65535
keys_taken psk p [] ordered few = omega arith
keys_taken psk p (Started n x ∷ []) ordered few = omega arith
keys_taken psk p (Started n x ∷ (step ∷ older)) ordered few = absurd (false≢true (sym ordered))
keys_taken psk p (Accepted a ∷ []) ordered few = omega arith
keys_taken psk p (Accepted a ∷ (Started n x ∷ [])) ordered few = omega arith
keys_taken psk p (Accepted a ∷ (Started n x ∷ (step ∷ older))) ordered few = absurd (false≢true ordered)
keys_taken psk p (Accepted a ∷ (Accepted b ∷ older)) ordered few = absurd (false≢true ordered)
keys_taken psk p (Accepted a ∷ (Asked ask inner sealed ∷ older)) ordered few = absurd (false≢true ordered)
keys_taken psk p (Accepted a ∷ (Took sealed inner effect ∷ older)) ordered few = absurd (false≢true ordered)
keys_taken psk p (Asked ask inner sealed ∷ older) ordered few = keys_taken psk p older ordered.3 few.1
keys_taken psk p (Took sealed inner effect ∷ older) ordered few =
    tested (λ (n : ℕ). n ≤ 65535) (is_same_purpose p (taken_purpose psk older effect)) (taken_under psk p older + 1) (taken_under psk p older)
    (λ same. one_more (taken_under psk p older) (taken_under psk (taken_purpose psk older effect) older) 65534 (taken_alike psk p (taken_purpose psk older effect) older same) (taken_before psk effect older (updates_all effect) refl ordered.0 ordered.1 few.0))
    (λ other. keys_taken psk p older ordered.1 few.1)

pub keys_few : KeysAreFew
keys_few q h id p made =
    let few = (numbers_few q h id made).numbers in
    let ordered = (in_order q h id made).ordered in
    (keys_sealed q.psk p (session_of id h) ordered few, keys_taken q.psk p (session_of id h) ordered few)
