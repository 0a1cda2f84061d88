-- What an answer leaves of its session.
use Rattle.std.proofs.Common.{◌≡◌, ◌∙◌, ◌≤◌, ◌<◌, ◌+◌, ap, sym, subst, refl, ℕ, List, [], ◌++◌, Bool, true, false, length, arith}
use Rattle.std.specs.Prelude.{◌||◌, if◌then◌else◌, Some, Result, Ok, Err, OnOk, OnErr}
use Rattle.std.proofs.lemmas.Bool.{false≢true}
use Rattle.requester_machine.proofs.Few.{answered_few}
use Rattle.requester_machine.specs.SpentLaws.{FewBy, FewFor}
use Rattle.requester_machine.specs.Message.{Ask}
use Rattle.requester_machine.specs.Message.Ask.{AskData, AskBeat, AskMeasure, AskChunk}
use Rattle.requester_machine.specs.Order.{may_bring, stage_for, waiting_ask}
use Rattle.requester_machine.specs.Order.Waits.{Rests}
use Rattle.requester_machine.specs.Records.{answer_inner, asks_all}
use Rattle.requester_machine.specs.Session.{Steps, ends, finishes, verifies, updates, updates_all, request_next, response_next, response_epoch}
use Rattle.spdm_grammar.specs.declared.told.phase.Stage.{Stage}
use Rattle.spdm_grammar.specs.declared.told.phase.Stage.TheVariants.{Open, Verifying}
use Rattle.psk_session.specs.Course.{with_taken}
use Rattle.psk_session.specs.Verdict.{effect_of}
use Rattle.psk_session.specs.Waiting.{awaited_epoch}
use Rattle.psk_session.specs.declared.reply.Reply.{Reply}
use Rattle.psk_session.specs.declared.reply.Reply.TheVariants.{Data, Alive, Updated, Measured, Refused}

-- A reply neither ends the session nor updates its keys.
pub record IsCalm (answer : List ℕ) (op : ℕ) (reply : Reply) : Type 0 where
  pub opens : finishes (effect_of answer op reply) ≡ false
  pub updated : updates (effect_of answer op reply) ≡ false
  pub all : updates_all (effect_of answer op reply) ≡ false
  pub ended : ends (effect_of answer op reply) ≡ false

pub calm : (answer : List ℕ) (op : ℕ) (reply : Reply) → IsCalm answer op reply
calm answer op Data = record { opens = refl; updated = refl; all = refl; ended = refl }
calm answer op Alive = record { opens = refl; updated = refl; all = refl; ended = refl }
calm answer op Updated = record { opens = refl; updated = refl; all = refl; ended = refl }
calm answer op (Measured number) = record { opens = refl; updated = refl; all = refl; ended = refl }
calm answer op (Refused code) = record { opens = refl; updated = refl; all = refl; ended = refl }

-- It goes with what is asked in a stage that it leaves open.
pub stays_open : (reply : Reply) (a : Ask) (answer : List ℕ) (op : ℕ) (stage : Stage) → may_bring (effect_of answer op reply) a ≡ true → stage ≡ stage_for a
    → (if finishes (effect_of answer op reply) || verifies (effect_of answer op reply) then Open else (if updates (effect_of answer op reply) then Verifying else stage)) ≡ Open
stays_open Updated a answer op stage may is = refl
stays_open Data AskData answer op stage may is = is
stays_open Alive AskBeat answer op stage may is = is
stays_open (Measured number) (AskMeasure asked) answer op stage may is = is
stays_open (Measured number) (AskChunk asked handle which before) answer op stage may is = is
stays_open (Refused code) AskData answer op stage may is = is
stays_open (Refused code) AskBeat answer op stage may is = is
stays_open (Refused code) (AskMeasure asked) answer op stage may is = is
stays_open (Refused code) (AskChunk asked handle which before) answer op stage may is = is
stays_open _ _ answer op stage may is = absurd (false≢true may)

-- The numbers before it.
pub record HasRoom (s : Steps) : Type 0 where
  pub request : request_next s ≤ 65535
  pub response : response_next s ≤ 65534

request_by : (opens updated : Bool) (n : ℕ) → opens ≡ false → updated ≡ false → (if opens || updated then 0 else n) ≤ 65535 → n ≤ 65535
request_by true updated n a b few = absurd (false≢true (sym a))
request_by false true n a b few = absurd (false≢true (sym b))
request_by false false n a b few = few

response_by : (all : Bool) (n : ℕ) → all ≡ false → (if all then 0 else n) ≤ 65534 → n ≤ 65534
response_by true n a few = absurd (false≢true (sym a))
response_by false n a few = few

pub has_room : (psk : List ℕ) (s : Steps) (a : Ask) (sealed answer : List ℕ) (op : ℕ) (reply : Reply) → may_bring (effect_of answer op reply) a ≡ true → asks_all a ≡ false
    → waiting_ask s ≡ Some a → FewFor a (request_next s) (response_next s) → HasRoom s
has_room psk s a sealed answer op reply may all waits few =
    let c = calm answer op reply in
    let f = answered_few sealed (answer_inner psk s a sealed) (effect_of answer op reply) a s may c.updated waits few in
    record { request = request_by (finishes (effect_of answer op reply)) (updates (effect_of answer op reply)) (request_next s) c.opens c.updated f.1.0; response = response_by (asks_all a) (response_next s) all f.0.number }

-- The numbers with it.
rests_by : (opens updated all : Bool) (request response : ℕ) → opens ≡ false → updated ≡ false → all ≡ false → request ≤ 65535 → response ≤ 65534
    → ((if opens || updated then 0 else request) ≤ 65535) × ((if opens then 0 else (if all then 1 else response + 1)) ≤ 65535)
rests_by opens updated all request response a b c r p = (
  subst (λ (x : Bool). (if x || updated then 0 else request) ≤ 65535) (sym a) (subst (λ (x : Bool). (if x then 0 else request) ≤ 65535) (sym b) r),
  subst (λ (x : Bool). (if x then 0 else (if all then 1 else response + 1)) ≤ 65535) (sym a) (subst (λ (x : Bool). (if x then 1 else response + 1) ≤ 65535) (sym c) (omega arith)),
)

pub few_after : (psk : List ℕ) (s : Steps) (a : Ask) (sealed answer : List ℕ) (op : ℕ) (reply : Reply) → request_next s ≤ 65535 → response_next s ≤ 65534 → FewBy Rests (with_taken psk s a sealed (effect_of answer op reply))
few_after psk s a sealed answer op reply r p =
    let c = calm answer op reply in
    rests_by (finishes (effect_of answer op reply)) (updates (effect_of answer op reply)) (updates_all (effect_of answer op reply)) (request_next s) (response_next s) c.opens c.updated c.all r p

pub epoch_after : (psk : List ℕ) (s : Steps) (a : Ask) (sealed answer : List ℕ) (op : ℕ) (reply : Reply) → response_epoch s ≡ response_epoch (with_taken psk s a sealed (effect_of answer op reply))
epoch_after psk s a sealed answer op reply = sym (ap (λ (b : Bool). if b then response_epoch s + 1 else response_epoch s) (calm answer op reply).all)

pub present_epoch : (s : Steps) (a : Ask) → asks_all a ≡ false → awaited_epoch s a ≡ response_epoch s
present_epoch s a is = ap (λ (b : Bool). if b then response_epoch s + 1 else response_epoch s) is

-- What is added to an empty buffer that it fits into.
pub extended : {U E : Type 0} (r : Result U E) (old new more : List ℕ) → old ≡ [] → OnOk r (new ≡ old ++ more) → OnErr r (4160 < length old + length more) → length more ≤ 4160 → new ≡ more
extended (Ok u) old new more none ok full short = ok ∙ ap (λ (x : List ℕ). x ++ more) none
extended (Err e) old new more none ok full short = absurd (omega (arith, full, ap (λ (x : List ℕ). length x) none))
