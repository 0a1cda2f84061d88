-- The next numbers of a session stay few, step by step.
use Rattle.std.proofs.Common.{refl, ◌≡◌, ◌≤◌, ◌<◌, ◌+◌, ℕ, List, [], ◌∷◌, true, false, Bool, Option, Some, sym, subst, arith}
use Rattle.std.specs.Prelude.{nat_le, ◌||◌, if◌then◌else◌}
use Rattle.std.proofs.lemmas.Bool.{false≢true}
use Rattle.std.proofs.lemmas.Bool.Decides.{nat_tests}
use Rattle.std.proofs.lemmas.Option.{none-some}
use Rattle.spdm_grammar.specs.Message.{ChunkMessage}
use Rattle.requester_machine.specs.Commands.{has_reached}
use Rattle.requester_machine.specs.History.{Effect}
use Rattle.requester_machine.specs.History.Effect.{Nothing, Grants}
use Rattle.requester_machine.specs.Message.{Ask}
use Rattle.requester_machine.specs.Message.Ask.{AskFinish, AskData, AskBeat, AskUpdate, AskVerify, AskMeasure, AskChunk, AskEnd}
use Rattle.requester_machine.specs.Order.{Waits, waiting_ask, may_bring}
use Rattle.requester_machine.specs.Order.Waits.{Rests, ForExchange, ForRecord}
use Rattle.requester_machine.specs.Records.{answer_number, asks_all}
use Rattle.requester_machine.specs.Session.{Steps, Step, request_next, response_next, is_live, when_live, after_record, ends, finishes, updates, updates_all}
use Rattle.requester_machine.specs.Session.Step.{Accepted, Asked, Took}
use Rattle.requester_machine.specs.SpentLaws.{AreNumbersFew, FewBy, FewFor, number_for}

abbrev pub Few : Waits → Steps → Type 0
Few waits s = FewBy waits s × AreNumbersFew s

pub none_few : Few Rests []
none_few = ((omega arith, omega arith), tt)

-- ---- Commands.

pub live_first : (s : Steps) (step : Step) → is_live s ≡ true → when_live s step ≡ step ∷ s
live_first [] step live = absurd (false≢true live)
live_first (x ∷ s) step live = refl

-- A record is asked of the session of this id, and nothing of any other.
pub asked_few : (b : Bool) (ask : Ask) (inner sealed : List ℕ) (s : Steps) → (b ≡ true → is_live s ≡ true)
    → (b ≡ true → FewBy Rests s → FewFor ask (request_next s + 1) (response_next s)) → Few Rests s
    → Few (if b then ForRecord ask else Rests) (if b then when_live s (Asked ask inner sealed) else s)
asked_few true ask inner sealed s live more few = rw (live_first s (Asked ask inner sealed) (live refl)) (more refl few.0, (few.0.0, few.1))
asked_few false ask inner sealed s live more few = few

pub begun_few : (b : Bool) (step : Step) (s : Steps) → Few ForExchange (step ∷ []) → Few Rests s → Few (if b then ForExchange else Rests) (if b then step ∷ [] else s)
begun_few true step s new few = new
begun_few false step s new few = few

below : (limit n p : ℕ) → (nat_le limit n || nat_le limit p) ≡ false → (n < limit) × (p < limit)
below limit n p is = (grind (arith, nat_tests), grind (arith, nat_tests))

pub unreached : (limit : ℕ) (s : Steps) → has_reached limit s ≡ false → (request_next s < limit) × (response_next s < limit)
unreached limit s is = below limit (request_next s) (response_next s) is

-- ---- The exchange.

finish_few : (answer inner sealed : List ℕ) (s : Steps) → Few ForExchange s → Few (ForRecord AskFinish) (when_live (when_live s (Accepted answer)) (Asked AskFinish inner sealed))
finish_few answer inner sealed [] few = ((omega arith, omega arith), tt)
finish_few answer inner sealed (x ∷ s) few = (let r = few.0.0 in let p = few.0.1 in ((omega (arith, r), omega (arith, p)), (omega (arith, r), few.1)))

pub exchange_few : (b : Bool) (answer inner sealed : List ℕ) (s : Steps) → Few (if b then ForExchange else Rests) s
    → Few (if b then ForRecord AskFinish else Rests)
    (if b then when_live (if b then when_live s (Accepted answer) else s) (Asked AskFinish inner sealed) else (if b then when_live s (Accepted answer) else s))
exchange_few true answer inner sealed s few = finish_few answer inner sealed s few
exchange_few false answer inner sealed s few = few

pub refused_few : (b : Bool) (s : Steps) → Few (if b then ForExchange else Rests) s → Few Rests (if b then [] else s)
refused_few true s few = none_few
refused_few false s few = few

-- ---- Records.

waiting_live : (s : Steps) (ask : Ask) → waiting_ask s ≡ Some ask → is_live s ≡ true
waiting_live [] ask is = absurd (none-some ask is)
waiting_live (x ∷ s) ask is = refl

pub end_few : (b : Bool) (sealed inner : List ℕ) (effect : Effect) (ask : Ask) (s : Steps) → ends effect ≡ true → Few (if b then ForRecord ask else Rests) s → Few Rests (if b then after_record sealed inner effect s else s)
end_few true sealed inner effect ask s is few = rw is none_few
end_few false sealed inner effect ask s is few = few

-- After a record that was taken.
pub record IsTaken (sealed inner : List ℕ) (effect : Effect) (ask : Ask) (s : Steps) : Type 0 where
  pub waits : waiting_ask s ≡ Some ask
  pub number : answer_number s ask ≤ 65534

taken_numbers : (sealed inner : List ℕ) (effect : Effect) (ask : Ask) (s : Steps) → IsTaken sealed inner effect ask s → AreNumbersFew s → AreNumbersFew (Took sealed inner effect ∷ s)
taken_numbers sealed inner effect ask s t few = (subst (λ (o : Option Ask). number_for s o ≤ 65534) (sym t.waits) t.number, few)

after_live : (sealed inner : List ℕ) (effect : Effect) (ask : Ask) (s : Steps) → ends effect ≡ false → waiting_ask s ≡ Some ask → after_record sealed inner effect s ≡ Took sealed inner effect ∷ s
after_live sealed inner effect ask s stays waits = rw stays (live_first s (Took sealed inner effect) (waiting_live s ask waits))

pub done_few : (b : Bool) (sealed inner : List ℕ) (effect : Effect) (ask : Ask) (s : Steps) → ends effect ≡ false
    → (b ≡ true → FewFor ask (request_next s) (response_next s) → IsTaken sealed inner effect ask s × FewBy Rests (Took sealed inner effect ∷ s))
    → Few (if b then ForRecord ask else Rests) s → Few Rests (if b then after_record sealed inner effect s else s)
done_few true sealed inner effect ask s stays more few =
    let m = more refl few.0 in
    subst (λ (x : Steps). Few Rests x) (sym (after_live sealed inner effect ask s stays m.0.waits)) (m.1, taken_numbers sealed inner effect ask s m.0 few.1)
done_few false sealed inner effect ask s stays more few = few

pub next_few : (b : Bool) (sealed inner : List ℕ) (effect : Effect) (ask next : Ask) (inner' sealed' : List ℕ) (s : Steps) → ends effect ≡ false
    → (b ≡ true → FewFor ask (request_next s) (response_next s) → IsTaken sealed inner effect ask s × (request_next (Took sealed inner effect ∷ s) ≤ 65535)
    × FewFor next (request_next (Took sealed inner effect ∷ s) + 1) (response_next (Took sealed inner effect ∷ s)))
    → Few (if b then ForRecord ask else Rests) s
    → Few (if b then ForRecord next else Rests) (if b then (if b then when_live (after_record sealed inner effect s) (Asked next inner' sealed') else after_record sealed inner effect s) else s)
next_few true sealed inner effect ask next inner' sealed' s stays more few =
    let m = more refl few.0 in
    subst (λ (x : Steps). Few (ForRecord next) (when_live x (Asked next inner' sealed'))) (sym (after_live sealed inner effect ask s stays m.0.waits)) (m.2, (m.1, taken_numbers sealed inner effect ask s m.0 few.1))
next_few false sealed inner effect ask next inner' sealed' s stays more few = few

-- ---- What an answer does to the numbers.

-- Not one of what ends the session, or goes on.
rests_by : (finished updated all : Bool) (request response : ℕ) → request ≤ 65535 → response ≤ 65534 → updated ≡ false → all ≡ false
    → ((if finished || updated then 0 else request) ≤ 65535) × ((if finished then 0 else (if all then 1 else response + 1)) ≤ 65535)
rests_by true updated all request response r p a b = (omega arith, omega arith)
rests_by false true all request response r p a b = absurd (false≢true (sym a))
rests_by false false true request response r p a b = absurd (false≢true (sym b))
rests_by false false false request response r p a b = (r, omega arith)

-- An update is answered by nothing else than an update, and END_SESSION by nothing that the session outlives.
no_update : {A : Type 0} (effect : Effect) (all : Bool) → may_bring effect (AskUpdate all) ≡ true → updates effect ≡ false → A
no_update (Grants (AskUpdate granted) answer) all may other = absurd (false≢true (sym other))
no_update _ all may other = absurd (false≢true may)

no_end : {A : Type 0} (effect : Effect) → may_bring effect AskEnd ≡ true → A
no_end Nothing may = absurd (false≢true may)
no_end (Grants AskFinish answer) may = absurd (false≢true may)
no_end (Grants AskData answer) may = absurd (false≢true may)
no_end (Grants AskBeat answer) may = absurd (false≢true may)
no_end (Grants (AskUpdate all) answer) may = absurd (false≢true may)
no_end (Grants AskVerify answer) may = absurd (false≢true may)
no_end (Grants (AskMeasure op) answer) may = absurd (false≢true may)
no_end (Grants (AskChunk op handle number before) answer) may = absurd (false≢true may)
no_end (Grants AskEnd answer) may = absurd (false≢true may)
no_end _ may = absurd (false≢true may)

-- An answer that brings no update is to something that has room for one more answer.
record HasRoom (ask : Ask) (request response : ℕ) : Type 0 where
  sealed : request ≤ 65535
  taken : response ≤ 65534
  present : asks_all ask ≡ false

has_room : (effect : Effect) (ask : Ask) (request response : ℕ) → may_bring effect ask ≡ true → updates effect ≡ false → FewFor ask request response → HasRoom ask request response
has_room effect AskFinish request response may other few = record { sealed = few.0; taken = few.1; present = refl }
has_room effect AskData request response may other few = record { sealed = few.0; taken = few.1; present = refl }
has_room effect AskBeat request response may other few = record { sealed = few.0; taken = few.1; present = refl }
has_room effect AskVerify request response may other few = record { sealed = few.0; taken = few.1; present = refl }
has_room effect (AskMeasure op) request response may other few = (let r = few.0 in let p = few.1 in record { sealed = omega (arith, r); taken = omega (arith, p); present = refl })
has_room effect (AskChunk op handle number before) request response may other few =
    (let r = few.0 in let p = few.1 in let n = few.2 in record { sealed = omega (arith, r, n); taken = omega (arith, p, n); present = refl })
has_room effect (AskUpdate all) request response may other few = no_update effect all may other
has_room effect AskEnd request response may other few = no_end effect may

pub no_update_all : (effect : Effect) → updates effect ≡ false → updates_all effect ≡ false
no_update_all (Grants (AskUpdate all) answer) other = absurd (false≢true (sym other))
no_update_all _ other = refl

present_number : (s : Steps) (ask : Ask) → asks_all ask ≡ false → response_next s ≤ 65534 → answer_number s ask ≤ 65534
present_number s ask present p = rw present p

pub answered_few : (sealed inner : List ℕ) (effect : Effect) (ask : Ask) (s : Steps) → may_bring effect ask ≡ true → updates effect ≡ false → waiting_ask s ≡ Some ask → FewFor ask (request_next s) (response_next s)
    → IsTaken sealed inner effect ask s × FewBy Rests (Took sealed inner effect ∷ s)
answered_few sealed inner effect ask s may other waits few =
    let room = has_room effect ask (request_next s) (response_next s) may other few in (
      record { waits = waits; number = present_number s ask room.present room.taken },
      rests_by (finishes effect) (updates effect) (updates_all effect) (request_next s) (response_next s) room.sealed room.taken other (no_update_all effect other),
    )

-- With the answer to an update VerifyNewKey is sent.
update_number : (s : Steps) (all : Bool) → FewFor (AskUpdate all) (request_next s) (response_next s) → answer_number s (AskUpdate all) ≤ 65534
update_number s true few = omega arith
update_number s false few = (let p = few.1 in omega (arith, p))

update_next : (all : Bool) (request response : ℕ) → FewFor (AskUpdate all) request response → (if all then 1 else response + 1) ≤ 65534
update_next true request response few = omega arith
update_next false request response few = (let p = few.1 in omega (arith, p))

pub updated_few : (sealed inner answer : List ℕ) (all : Bool) (s : Steps) → waiting_ask s ≡ Some (AskUpdate all) → FewFor (AskUpdate all) (request_next s) (response_next s)
    → IsTaken sealed inner (Grants (AskUpdate all) answer) (AskUpdate all) s × (request_next (Took sealed inner (Grants (AskUpdate all) answer) ∷ s) ≤ 65535)
    × FewFor AskVerify (request_next (Took sealed inner (Grants (AskUpdate all) answer) ∷ s) + 1) (response_next (Took sealed inner (Grants (AskUpdate all) answer) ∷ s))
updated_few sealed inner answer all s waits few =
    (record { waits = waits; number = update_number s all few }, omega arith, (omega arith, update_next all (request_next s) (response_next s) few))

-- With a LargeResponse, the first chunk of a large response is asked for.
pub first_few : (sealed inner : List ℕ) (ask : Ask) (op handle : ℕ) (s : Steps) → asks_all ask ≡ false → waiting_ask s ≡ Some ask → request_next s ≤ 65300 → response_next s ≤ 65299
    → IsTaken sealed inner Nothing ask s × (request_next (Took sealed inner Nothing ∷ s) ≤ 65535)
    × FewFor (AskChunk op handle 0 []) (request_next (Took sealed inner Nothing ∷ s) + 1) (response_next (Took sealed inner Nothing ∷ s))
first_few sealed inner ask op handle s present waits r p =
    (record { waits = waits; number = present_number s ask present (omega (arith, p)) }, omega (arith, r), (omega (arith, r), omega (arith, p), omega arith))

-- With a chunk, the next one.
pub chunk_few : (sealed inner : List ℕ) (op handle number op' handle' number' : ℕ) (before before' : List ChunkMessage) (s : Steps) → waiting_ask s ≡ Some (AskChunk op handle number before) → number' ≡ number + 1 → number' ≤ 157
    → FewFor (AskChunk op handle number before) (request_next s) (response_next s)
    → IsTaken sealed inner Nothing (AskChunk op handle number before) s × (request_next (Took sealed inner Nothing ∷ s) ≤ 65535)
    × FewFor (AskChunk op' handle' number' before') (request_next (Took sealed inner Nothing ∷ s) + 1) (response_next (Took sealed inner Nothing ∷ s))
chunk_few sealed inner op handle number op' handle' number' before before' s waits is small few =
    (let r = few.0 in let p = few.1 in let n = few.2 in
    (record { waits = waits; number = omega (arith, p, n) }, omega (arith, r, n), (omega (arith, r, is), omega (arith, p, is), small)))
