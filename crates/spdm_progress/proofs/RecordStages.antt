-- One round in a session: what the responder makes of the record that asks, and the requester of the one that answers.
use Rattle.std.proofs.Common.{◌≡◌, ◌≢◌, ◌∙◌, ℕ, ◌≤◌, ◌+◌, ◌==◌, ◌||◌, List, [], ◌∷◌, length, Bool, true, false, Option, Some, None, refl, sym, ap, ap₂, subst, arith, eq-eqb}
use Rattle.std.specs.Prelude.{if◌then◌else◌}
use Rattle.std.proofs.lemmas.Bool.{false≢true, ne_eqb}
use Rattle.key_schedule.specs.Purpose.{Purpose}
use Rattle.key_schedule.specs.declared.direction.Direction.TheVariants.{Response}
use Rattle.spdm_basis.specs.declared.causes.record_fault.RecordFault.{RecordFault}
use Rattle.spdm_basis.specs.declared.causes.record_fault.RecordFault.TheVariants.{KeySpent}
use Rattle.spdm_grammar.specs.declared.messages.choice.Choice.{Choice}
use Rattle.spdm_grammar.specs.declared.names.request_code.TheConstants.{END_SESSION}
use Rattle.spdm_grammar.specs.declared.told.phase.Stage.{Stage}
use Rattle.spdm_machine.specs.Keys.{Draw, inner_message, record_fault, sealed_of}
use Rattle.spdm_machine.specs.Sessions.{id_in_exchange, purpose_in}
use Rattle.spdm_machine.specs.Terms.{Terms}
use Rattle.requester_machine.specs.Message.{Ask}
use Rattle.requester_machine.specs.Message.Ask.{AskBeat, AskChunk, AskData, AskEnd, AskFinish, AskMeasure, AskUpdate, AskVerify}
use Rattle.requester_machine.specs.Order.{stage_for}
use Rattle.requester_machine.specs.Records.{asks_all, request_purpose, response_purpose, sealed_next}
use Rattle.requester_machine.specs.Session as steps
use Rattle.requester_machine.specs.Session.{Steps}
use Rattle.requester_machine.specs.Session.Step.{Asked, Took as TookAnswer}
use Rattle.responder_machine.specs.Does.{chosen, record_chosen}
use Rattle.responder_machine.specs.History as served
use Rattle.responder_machine.specs.History.{KeptRecord}
use Rattle.responder_machine.specs.History.Entry.{Sealed as WasSealedThere}
use Rattle.responder_machine.specs.Records as serving
use Rattle.responder_machine.specs.Records.{opened, opening_fault, reply_number, reply_purpose, reply_record}
use Rattle.responder_machine.specs.Session as events
use Rattle.responder_machine.specs.Session.{Events, after_record, id_in_record, when_live}
use Rattle.responder_machine.specs.Session.Event.{Heard}
use Rattle.responder_machine.specs.Setup.{RspSetup}
use Rattle.responder_machine.specs.Turn.{Effect, Turn, takes, updates}
use Rattle.spdm_progress.specs.InStep.{AreInStep, rsp_id}
use Rattle.spdm_progress.proofs.AlikeSessions.{IsAnswerTo, is_kept, same_id, same_requests, same_responses, same_terms}
use Rattle.spdm_progress.proofs.RecordsBetween.{opens}

-- ---- A record of the requester opens at the responder.

not_spent : (a b : ℕ) → a ≤ 65535 → b ≤ 65535 → (a == 65536 || b == 65536) ≡ false
not_spent a b x y = rw (ne_eqb a 65536 (λ e. omega (arith, e, x)), ne_eqb b 65536 (λ e. omega (arith, e, y))) refl

unspent_fault : (b : Bool) (o : Option RecordFault) → b ≡ false → o ≡ None → (if b then Some KeySpent else o) ≡ None
unspent_fault b o e f = rw e f

-- The purpose and the number of an answer, of all keys or not, by the requester's session as it stood before it asked.
abbrev pub answer_under : List ℕ → Steps → Bool → Purpose
answer_under psk s all = if all then record (response_purpose psk s) { epoch = steps.response_epoch s + 1 } else response_purpose psk s

abbrev pub answer_count : Steps → Bool → ℕ
answer_count s all = if all then 0 else steps.response_next s

module _ (psk : List ℕ) (s : Steps) (e : Events) (k : AreInStep s e) where
  abbrev pub Opens : Choice → Purpose → ℕ → List ℕ → List ℕ → List ℕ → Type 0
  Opens choice p number id sealed inner = (record_fault choice p number id sealed ≡ None) × (inner_message choice p number sealed ≡ inner)

  pub own_opens : (inner pad : List ℕ) → length inner + length pad ≤ 4134 → Opens (steps.session_terms s).choice (request_purpose psk s) (steps.request_next s) (steps.id_bytes s) (sealed_next psk s inner pad) inner
  unfolding sealed_next
  own_opens inner pad short = opens (steps.session_terms s).choice (request_purpose psk s) (steps.request_next s) (id_in_exchange (steps.exchange_of s)) (rsp_id s) inner pad short

  request_opens : (inner pad : List ℕ) → length inner + length pad ≤ 4134 → Opens (events.session_terms e).choice (serving.request_purpose psk e) (events.request_next e) (events.id_bytes e) (sealed_next psk s inner pad) inner
  request_opens inner pad short =
      let sealed = sealed_next psk s inner pad in
      subst (λ (t : Terms). Opens t.choice (serving.request_purpose psk e) (events.request_next e) (events.id_bytes e) sealed inner) (same_terms s e k)
      (subst (λ (p : Purpose). Opens (steps.session_terms s).choice p (events.request_next e) (events.id_bytes e) sealed inner) (same_requests s e k psk)
      (subst (λ (n : ℕ). Opens (steps.session_terms s).choice (request_purpose psk s) n (events.id_bytes e) sealed inner) k.request_next
      (subst (λ (id : List ℕ). Opens (steps.session_terms s).choice (request_purpose psk s) (steps.request_next s) id sealed inner) (same_id s e k) (own_opens inner pad short))))

  pub opens_there : (inner pad : List ℕ) → length inner + length pad ≤ 4134 → steps.request_next s ≤ 65535 → steps.response_next s ≤ 65535
      → (opening_fault psk e (sealed_next psk s inner pad) ≡ None) × (opened psk e (sealed_next psk s inner pad) ≡ inner)
  unfolding opening_fault opened
  opens_there inner pad short few few_responses =
      let x = request_opens inner pad short in
      (unspent_fault (events.is_spent e) _ (not_spent (events.request_next e) (events.response_next e) (subst (λ (n : ℕ). n ≤ 65535) k.request_next few) (subst (λ (n : ℕ). n ≤ 65535) k.response_next few_responses)) x.0, x.1)

  -- ---- The answer is sealed as the requester awaits it.

  pub replies_so : (t : Turn) (all : Bool) (inner pad : List ℕ) → updates 2 t ≡ all → reply_record psk e t inner pad ≡ sealed_of (steps.session_terms s).choice (answer_under psk s all) (answer_count s all) (steps.id_bytes s) inner pad
  unfolding reply_record
  replies_so t all inner pad is =
      ap (λ (b : Bool). sealed_of (events.session_terms e).choice (if b then record (serving.response_purpose psk e) { epoch = events.response_epoch e + 1 } else serving.response_purpose psk e) (if b then 0 else events.response_next e) (events.id_bytes e) inner pad) is
      ∙ ap (λ (x : Terms). sealed_of x.choice (if all then record (serving.response_purpose psk e) { epoch = events.response_epoch e + 1 } else serving.response_purpose psk e) (if all then 0 else events.response_next e) (events.id_bytes e) inner pad) (sym (same_terms s e k))
      ∙ ap₂ (λ (p : Purpose) (n : ℕ). sealed_of (steps.session_terms s).choice (if all then record p { epoch = n + 1 } else p) (if all then 0 else events.response_next e) (events.id_bytes e) inner pad) (sym (same_responses s e k psk)) (sym k.response_epoch)
      ∙ ap₂ (λ (n : ℕ) (id : List ℕ). sealed_of (steps.session_terms s).choice (answer_under psk s all) (if all then 0 else n) id inner pad) (sym k.response_next) (sym (same_id s e k))

-- The requester awaits it so, since PSK_FINISH alone changes T2, and its answer is under T1.
pub awaited_under : (psk : List ℕ) (ask : Ask) (inner sealed : List ℕ) (s : Steps) → steps.stage_of s ≡ stage_for ask → response_purpose psk (Asked ask inner sealed ∷ s) ≡ response_purpose psk s
awaited_under psk AskFinish inner sealed s at =
    ap (λ (g : Stage). purpose_in g psk (steps.t1_of s) (steps.t2_of (Asked AskFinish inner sealed ∷ s)) Response (steps.response_epoch s)) at
    ∙ ap (λ (g : Stage). purpose_in g psk (steps.t1_of s) (steps.t2_of s) Response (steps.response_epoch s)) (sym at)
awaited_under psk AskData inner sealed s at = refl
awaited_under psk AskBeat inner sealed s at = refl
awaited_under psk (AskUpdate all) inner sealed s at = refl
awaited_under psk AskVerify inner sealed s at = refl
awaited_under psk (AskMeasure op) inner sealed s at = refl
awaited_under psk (AskChunk op handle number before) inner sealed s at = refl
awaited_under psk AskEnd inner sealed s at = refl

-- ---- What a turn is, by what was asked.

pub updates_all : (ask : Ask) (inner : List ℕ) (t : Turn) → IsAnswerTo ask inner t → updates 2 t ≡ asks_all ask
updates_all AskFinish inner t is = ap (λ (e : Effect). updates 2 (record t { effect = e })) is.1
updates_all AskData inner t is = ap (λ (e : Effect). updates 2 (record t { effect = e })) is
updates_all AskBeat inner t is = ap (λ (e : Effect). updates 2 (record t { effect = e })) is
updates_all (AskUpdate true) inner t is = ap (λ (e : Effect). updates 2 (record t { effect = e })) is.1
updates_all (AskUpdate false) inner t is = ap (λ (e : Effect). updates 2 (record t { effect = e })) is.1
updates_all AskVerify inner t is = ap (λ (e : Effect). updates 2 (record t { effect = e })) is.1
updates_all (AskMeasure op) inner t is = ap (λ (e : Effect). updates 2 (record t { effect = e })) is.2
updates_all (AskChunk op handle number before) inner t is = ap (λ (e : Effect). updates 2 (record t { effect = e })) is.1
updates_all AskEnd inner t is = ap (λ (e : Effect). updates 2 (record t { effect = e })) is

pub not_end : (ask : Ask) (inner : List ℕ) (t : Turn) → is_kept ask ≡ true → IsAnswerTo ask inner t → takes END_SESSION t ≡ false
not_end AskFinish inner t kept is = ap (λ (e : Effect). takes END_SESSION (record t { effect = e })) is.1
not_end AskData inner t kept is = ap (λ (e : Effect). takes END_SESSION (record t { effect = e })) is
not_end AskBeat inner t kept is = ap (λ (e : Effect). takes END_SESSION (record t { effect = e })) is
not_end (AskUpdate all) inner t kept is = ap (λ (e : Effect). takes END_SESSION (record t { effect = e })) is.1
not_end AskVerify inner t kept is = ap (λ (e : Effect). takes END_SESSION (record t { effect = e })) is.1
not_end (AskMeasure op) inner t kept is = ap (λ (e : Effect). takes END_SESSION (record t { effect = e })) is.2
not_end (AskChunk op handle number before) inner t kept is = ap (λ (e : Effect). takes END_SESSION (record t { effect = e })) is.1
not_end AskEnd inner t kept is = absurd (false≢true kept)

pub an_end : (ask : Ask) (inner : List ℕ) (t : Turn) → is_kept ask ≡ false → IsAnswerTo ask inner t → takes END_SESSION t ≡ true
an_end AskEnd inner t ends is = ap (λ (e : Effect). takes END_SESSION (record t { effect = e })) is
an_end AskFinish inner t ends is = absurd (false≢true (sym ends))
an_end AskData inner t ends is = absurd (false≢true (sym ends))
an_end AskBeat inner t ends is = absurd (false≢true (sym ends))
an_end (AskUpdate all) inner t ends is = absurd (false≢true (sym ends))
an_end AskVerify inner t ends is = absurd (false≢true (sym ends))
an_end (AskMeasure op) inner t ends is = absurd (false≢true (sym ends))
an_end (AskChunk op handle number before) inner t ends is = absurd (false≢true (sym ends))

-- ---- Sessions behind an entry.

pub live_heard : (e : Events) (sealed reply : List ℕ) (t : Turn) → events.is_live e ≡ true → takes END_SESSION t ≡ false → after_record e sealed t reply ≡ Heard sealed t reply ∷ e
live_heard [] sealed reply t live other = absurd (false≢true live)
live_heard (x ∷ e) sealed reply t live other = rw other refl

pub ended_heard : (e : Events) (sealed reply : List ℕ) (t : Turn) → takes END_SESSION t ≡ true → after_record e sealed t reply ≡ []
ended_heard e sealed reply t ends = rw ends refl

-- The responder's session that a record names, and another one.
pub sealed_here : (id tag : ℕ) (sealed : List ℕ) (t : Turn) (reply : List ℕ) (d : Draw) (g : served.History) → id_in_record sealed ≡ id → events.session_of id (WasSealedThere tag sealed t reply d ∷ g) ≡ after_record (events.session_of id g) sealed t reply
unfolding events.session_of
sealed_here id tag sealed t reply d g is = ap (λ (b : Bool). if b then after_record (events.session_of id g) sealed t reply else events.session_of id g) (eq-eqb (id_in_record sealed) id is)

pub sealed_elsewhere : (id tag : ℕ) (sealed : List ℕ) (t : Turn) (reply : List ℕ) (d : Draw) (g : served.History) → id_in_record sealed ≢ id → events.session_of id (WasSealedThere tag sealed t reply d ∷ g) ≡ events.session_of id g
unfolding events.session_of
sealed_elsewhere id tag sealed t reply d g other = ap (λ (b : Bool). if b then after_record (events.session_of id g) sealed t reply else events.session_of id g) (ne_eqb (id_in_record sealed) id other)

pub no_pad : (r : RspSetup) (g : served.History) (sealed : List ℕ) (d : Draw) → (record_chosen r g sealed d).pad ≡ []
unfolding chosen
no_pad r g sealed d = refl
