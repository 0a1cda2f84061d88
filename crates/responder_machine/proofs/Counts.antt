-- The next number of a direction is the count of the records under its purpose.
use Rattle.std.proofs.Common.{refl, ◌∙◌, ◌≡◌, ◌≤◌, ◌<◌, ℕ, ◌+◌, List, [], ◌∷◌, true, false, Bool, Option, ap, sym, subst, arith, eq-eqb}
use Rattle.std.proofs.lemmas.Bool.{false≢true}
use Rattle.std.specs.Prelude.{if◌then◌else◌, ◌==◌, ◌&&◌, ◌||◌}
use Rattle.key_schedule.specs.Purpose.{Purpose, Kind, application_record}
use Rattle.key_schedule.specs.Purpose.Kind.{Verify, HandshakeRecord, ApplicationRecord}
use Rattle.key_schedule.specs.declared.direction.Direction.{Direction}
use Rattle.key_schedule.specs.declared.direction.Direction.TheVariants.{Request, Response}
use Rattle.spdm_grammar.specs.Message.{ChunkMessage}
use Rattle.spdm_grammar.specs.Message.RequestMessage.{PskFinish, KeyUpdate}
use Rattle.spdm_grammar.specs.declared.messages.error_code.ErrorCode.{ErrorCode}
use Rattle.spdm_grammar.specs.declared.told.phase.Stage.{Stage}
use Rattle.spdm_grammar.specs.declared.told.phase.Stage.TheVariants.{Handshake, Open, Verifying}
use Rattle.responder_machine.proofs.Repeats.{bytes_eq-refl}
use Rattle.responder_machine.specs.Counts.{same_purpose, same_kind, same_direction, taken_under, sealed_under, IsStaged}
use Rattle.spdm_machine.specs.Sessions.{purpose_in}
use Rattle.responder_machine.specs.Records.{request_purpose, response_purpose, reply_purpose}
use Rattle.responder_machine.specs.Session.{Events, stage_of, request_epoch, response_epoch, request_next, response_next, t1_of, t2_of}
use Rattle.spdm_machine.specs.Sessions.{is_past_handshake}
use Rattle.responder_machine.specs.Session.Event.{Began, Heard, Waited}
use Rattle.responder_machine.specs.Turn.{Effect, code_in, takes, updates}
use Rattle.responder_machine.specs.Turn.Effect.{NoEffect, Took, TookData}
use Rattle.spdm_grammar.specs.declared.names.request_code.TheConstants.{PSK_FINISH, KEY_UPDATE}
use Rattle.spdm_basis.proofs.Bools.{not_less}

-- ---- Purposes.

same_kind-refl : (k : Kind) → same_kind k k ≡ true
same_kind-refl Verify = refl
same_kind-refl HandshakeRecord = refl
same_kind-refl ApplicationRecord = refl

same_direction-refl : (d : Direction) → same_direction d d ≡ true
same_direction-refl Request = refl
same_direction-refl Response = refl

all_true : (a b c d e : Bool) → a ≡ true → b ≡ true → c ≡ true → d ≡ true → e ≡ true → (a && b && c && d && e) ≡ true
all_true a b c d e ha hb hc hd he = rw (ha, hb, hc, hd, he) refl

pub same-refl : (p : Purpose) → same_purpose p p ≡ true
same-refl p = all_true _ _ _ _ _ (eq-eqb p.epoch p.epoch refl) (same_kind-refl p.kind) (same_direction-refl p.direction) (bytes_eq-refl p.psk) (bytes_eq-refl p.transcript)

first_false : (a b c d e : Bool) → a ≡ false → (a && b && c && d && e) ≡ false
first_false a b c d e h = rw h refl

second_false : (a b c d e : Bool) → b ≡ false → (a && b && c && d && e) ≡ false
second_false true b c d e h = rw h refl
second_false false b c d e h = refl

other_epoch : (p q : Purpose) → q.epoch < p.epoch → same_purpose p q ≡ false
other_epoch p q h = first_false (p.epoch == q.epoch) (same_kind p.kind q.kind) (same_direction p.direction q.direction) _ _ (not_less p.epoch q.epoch h)

other_kind : (p q : Purpose) → same_kind p.kind q.kind ≡ false → same_purpose p q ≡ false
other_kind p q h = second_false (p.epoch == q.epoch) (same_kind p.kind q.kind) (same_direction p.direction q.direction) _ _ h

-- The epoch of a purpose is at most the one of its direction.
epoch_in : (stage : Stage) (psk t1 t2 : List ℕ) (d : Direction) (epoch : ℕ) → (purpose_in stage psk t1 t2 d epoch).epoch ≤ epoch
epoch_in Handshake psk t1 t2 d epoch = omega arith
epoch_in Open psk t1 t2 d epoch = omega arith
epoch_in Verifying psk t1 t2 d epoch = omega arith

pub past_purpose : (stage : Stage) (psk t1 t2 : List ℕ) (d : Direction) (epoch : ℕ) → is_past_handshake stage ≡ true → purpose_in stage psk t1 t2 d epoch ≡ application_record psk t2 d epoch
past_purpose Handshake psk t1 t2 d epoch past = absurd (false≢true past)
past_purpose Open psk t1 t2 d epoch past = refl
past_purpose Verifying psk t1 t2 d epoch past = refl

stage_before : (a b c : Bool) (x : Stage) → (if a then Open else (if b then Open else (if c then Verifying else x))) ≡ Handshake → x ≡ Handshake
stage_before true b c x h = absurd (false≢true (sym (ap is_past_handshake h)))
stage_before false true c x h = absurd (false≢true (sym (ap is_past_handshake h)))
stage_before false false true x h = absurd (false≢true (sym (ap is_past_handshake h)))
stage_before false false false x h = h

-- One record more under a purpose, or none.
abbrev counted : Bool → ℕ → ℕ
counted same n = if same then n + 1 else n

not_counted : (same : Bool) (n : ℕ) → same ≡ false → n ≡ 0 → counted same n ≡ 0
not_counted same n h z = rw (h, z) refl

one_more : (p : Purpose) (next n : ℕ) → next ≡ n → next + 1 ≡ counted (same_purpose p p) n
one_more p next n h = rw (same-refl p, h) refl

-- ---- Requests.

-- No record of the handshake is one of a purpose after it.
none_taken : (psk t : List ℕ) (epoch : ℕ) (s : Events) → stage_of s ≡ Handshake → taken_under psk (application_record psk t Request epoch) s ≡ 0
none_taken psk t epoch [] stage = refl
none_taken psk t epoch (Began n x a ∷ s) stage = none_taken psk t epoch s stage
none_taken psk t epoch (Waited seconds ∷ s) stage = none_taken psk t epoch s stage
none_taken psk t epoch (Heard m u reply ∷ s) stage =
    let before : stage_of s ≡ Handshake = stage_before (takes PSK_FINISH u) (updates 3 u) (takes KEY_UPDATE u) (stage_of s) stage in
    not_counted (same_purpose (application_record psk t Request epoch) (request_purpose psk s)) (taken_under psk (application_record psk t Request epoch) s)
    (other_kind (application_record psk t Request epoch) (request_purpose psk s) (rw before refl)) (none_taken psk t epoch s before)

epoch_before : (b : Bool) (e k : ℕ) → (if b then e + 1 else e) < k → e < k
epoch_before true e k h = omega arith
epoch_before false e k h = h

-- No record is one of a later epoch.
none_taken_later : (psk : List ℕ) (p : Purpose) (s : Events) → request_epoch s < p.epoch → taken_under psk p s ≡ 0
none_taken_later psk p [] later = refl
none_taken_later psk p (Began n x a ∷ s) later = none_taken_later psk p s later
none_taken_later psk p (Waited seconds ∷ s) later = none_taken_later psk p s later
none_taken_later psk p (Heard m u reply ∷ s) later =
    let before : request_epoch s < p.epoch = epoch_before (updates 1 u || updates 2 u) (request_epoch s) p.epoch later in
    let within = epoch_in (stage_of s) psk (t1_of s) (t2_of s) Request (request_epoch s) in
    not_counted (same_purpose p (request_purpose psk s)) (taken_under psk p s) (other_epoch p (request_purpose psk s) (omega (arith, within, before))) (none_taken_later psk p s before)

-- A new epoch has none yet.
new_taken : (psk t : List ℕ) (s : Events) → 0 ≡ counted (same_purpose (application_record psk t Request (request_epoch s + 1)) (request_purpose psk s)) (taken_under psk (application_record psk t Request (request_epoch s + 1)) s)
new_taken psk t s =
    let within = epoch_in (stage_of s) psk (t1_of s) (t2_of s) Request (request_epoch s) in
    sym (not_counted (same_purpose (application_record psk t Request (request_epoch s + 1)) (request_purpose psk s)) (taken_under psk (application_record psk t Request (request_epoch s + 1)) s)
    (other_epoch (application_record psk t Request (request_epoch s + 1)) (request_purpose psk s) (omega (arith, within))) (none_taken_later psk (application_record psk t Request (request_epoch s + 1)) s (omega arith)))

-- A record within an epoch is one more.
next_taken : (psk : List ℕ) (s : Events) → is_past_handshake (stage_of s) ≡ true → request_next s ≡ taken_under psk (request_purpose psk s) s
    → request_next s + 1 ≡ counted (same_purpose (application_record psk (t2_of s) Request (request_epoch s)) (request_purpose psk s)) (taken_under psk (application_record psk (t2_of s) Request (request_epoch s)) s)
next_taken psk s past before =
    subst (λ (p : Purpose). request_next s + 1 ≡ counted (same_purpose p (request_purpose psk s)) (taken_under psk p s)) (past_purpose (stage_of s) psk (t1_of s) (t2_of s) Request (request_epoch s) past)
    (one_more (request_purpose psk s) (request_next s) (taken_under psk (request_purpose psk s) s) before)

-- KEY_UPDATE, by whether it updates the request key and whether it verifies one.
update_taken : (psk : List ℕ) (s : Events) (update verify : Bool) → is_past_handshake (stage_of s) ≡ true → request_next s ≡ taken_under psk (request_purpose psk s) s
    → (if update then 0 else request_next s + 1)
    ≡ counted (same_purpose (purpose_in (if verify then Open else Verifying) psk (t1_of s) (t2_of s) Request (if update then request_epoch s + 1 else request_epoch s)) (request_purpose psk s))
    (taken_under psk (purpose_in (if verify then Open else Verifying) psk (t1_of s) (t2_of s) Request (if update then request_epoch s + 1 else request_epoch s)) s)
update_taken psk s true true past before = new_taken psk (t2_of s) s
update_taken psk s true false past before = new_taken psk (t2_of s) s
update_taken psk s false true past before = next_taken psk s past before
update_taken psk s false false past before = next_taken psk s past before

-- PSK_FINISH.
finish_taken : (psk t : List ℕ) (s : Events) → stage_of s ≡ Handshake
    → 0 ≡ counted (same_purpose (application_record psk t Request (request_epoch s)) (request_purpose psk s)) (taken_under psk (application_record psk t Request (request_epoch s)) s)
finish_taken psk t s stage =
    sym (not_counted (same_purpose (application_record psk t Request (request_epoch s)) (request_purpose psk s)) (taken_under psk (application_record psk t Request (request_epoch s)) s)
    (other_kind (application_record psk t Request (request_epoch s)) (request_purpose psk s) (rw stage refl)) (none_taken psk t (request_epoch s) s stage))

-- A record with this effect.
heard_taken : (psk sealed message : List ℕ) (refused : Option ErrorCode) (chunk : Option ChunkMessage) (e : Effect) (answer reply : List ℕ) (s : Events)
    → ((code_in e == PSK_FINISH) ≡ true → stage_of s ≡ Handshake) → ((code_in e == KEY_UPDATE) ≡ true → is_past_handshake (stage_of s) ≡ true)
    → request_next s ≡ taken_under psk (request_purpose psk s) s
    → request_next (Heard sealed (record { message = message; refused = refused; chunk = chunk; effect = e; reply = answer }) reply ∷ s)
    ≡ taken_under psk (request_purpose psk (Heard sealed (record { message = message; refused = refused; chunk = chunk; effect = e; reply = answer }) reply ∷ s)) (Heard sealed (record { message = message; refused = refused; chunk = chunk; effect = e; reply = answer }) reply ∷ s)
heard_taken psk sealed message refused chunk NoEffect answer reply s finish update before = one_more (request_purpose psk s) (request_next s) _ before
heard_taken psk sealed message refused chunk (TookData bytes data_answer) answer reply s finish update before = one_more (request_purpose psk s) (request_next s) _ before
heard_taken psk sealed message refused chunk (Took (PskFinish verify) request whole large) answer reply s finish update before = finish_taken psk _ s (finish refl)
heard_taken psk sealed message refused chunk (Took (KeyUpdate op tag) request whole large) answer reply s finish update before =
    update_taken psk s (op == 1 || op == 2) (op == 3) (update refl) before
heard_taken psk sealed message refused chunk (Took _ request whole large) answer reply s finish update before = one_more (request_purpose psk s) (request_next s) _ before

pub requests_counted : (psk : List ℕ) (s : Events) → IsStaged s → request_next s ≡ taken_under psk (request_purpose psk s) s
requests_counted psk [] staged = refl
requests_counted psk (Began n x a ∷ s) staged =
    subst (λ (older : Events). request_next older ≡ taken_under psk (request_purpose psk (Began n x a ∷ older)) older) (sym staged) refl
requests_counted psk (Heard sealed t reply ∷ s) staged =
    heard_taken psk sealed t.message t.refused t.chunk t.effect t.reply reply s staged.0 staged.1 (requests_counted psk s staged.2)
requests_counted psk (Waited seconds ∷ s) staged = requests_counted psk s staged

-- ---- Responses.

-- The purpose of a reply, by whether it answers UpdateAllKeys.
abbrev pub reply_by : Bool → ℕ → Purpose → Purpose
reply_by all epoch p = if all then record p { epoch = epoch + 1 } else p

reply_kind : (all : Bool) (epoch : ℕ) (p : Purpose) → (reply_by all epoch p).kind ≡ p.kind
reply_kind true epoch p = refl
reply_kind false epoch p = refl

handshake_kind : (stage : Stage) (psk t1 t2 : List ℕ) (d : Direction) (epoch : ℕ) → stage ≡ Handshake → (purpose_in stage psk t1 t2 d epoch).kind ≡ HandshakeRecord
handshake_kind stage psk t1 t2 d epoch h = rw h refl

-- No reply in the handshake is one of a purpose after it.
none_sealed : (psk t : List ℕ) (epoch : ℕ) (s : Events) → stage_of s ≡ Handshake → sealed_under psk (application_record psk t Response epoch) s ≡ 0
none_sealed psk t epoch [] stage = refl
none_sealed psk t epoch (Began n x a ∷ s) stage = none_sealed psk t epoch s stage
none_sealed psk t epoch (Waited seconds ∷ s) stage = none_sealed psk t epoch s stage
none_sealed psk t epoch (Heard m u reply ∷ s) stage =
    let before : stage_of s ≡ Handshake = stage_before (takes PSK_FINISH u) (updates 3 u) (takes KEY_UPDATE u) (stage_of s) stage in
    let kind : (reply_purpose psk s u).kind ≡ HandshakeRecord =
    reply_kind (updates 2 u) (response_epoch s) (response_purpose psk s) ∙ handshake_kind (stage_of s) psk (t1_of s) (t2_of s) Response (response_epoch s) before in
    not_counted (same_purpose (application_record psk t Response epoch) (reply_purpose psk s u)) (sealed_under psk (application_record psk t Response epoch) s)
    (other_kind (application_record psk t Response epoch) (reply_purpose psk s u) (ap (λ (k : Kind). same_kind ApplicationRecord k) kind)) (none_sealed psk t epoch s before)

reply_before : (all : Bool) (e k : ℕ) (p : Purpose) → p.epoch ≤ e → (if all then e + 1 else e) < k → (reply_by all e p).epoch < k
reply_before true e k p within h = h
reply_before false e k p within h = omega arith

-- No reply is one of a later epoch.
pub none_sealed_later : (psk : List ℕ) (p : Purpose) (s : Events) → response_epoch s < p.epoch → sealed_under psk p s ≡ 0
none_sealed_later psk p [] later = refl
none_sealed_later psk p (Began n x a ∷ s) later = none_sealed_later psk p s later
none_sealed_later psk p (Waited seconds ∷ s) later = none_sealed_later psk p s later
none_sealed_later psk p (Heard m u reply ∷ s) later =
    not_counted (same_purpose p (reply_purpose psk s u)) (sealed_under psk p s)
    (other_epoch p (reply_purpose psk s u) (reply_before (updates 2 u) (response_epoch s) p.epoch (response_purpose psk s) (epoch_in (stage_of s) psk (t1_of s) (t2_of s) Response (response_epoch s)) later))
    (none_sealed_later psk p s (epoch_before (updates 2 u) (response_epoch s) p.epoch later))

-- The reply to UpdateAllKeys is the first of its epoch.
new_sealed : (psk : List ℕ) (s : Events) → is_past_handshake (stage_of s) ≡ true
    → 1 ≡ counted (same_purpose (application_record psk (t2_of s) Response (response_epoch s + 1)) (reply_by true (response_epoch s) (response_purpose psk s))) (sealed_under psk (application_record psk (t2_of s) Response (response_epoch s + 1)) s)
new_sealed psk s past =
    subst (λ (q : Purpose). 1 ≡ counted (same_purpose (application_record psk (t2_of s) Response (response_epoch s + 1)) (reply_by true (response_epoch s) q)) (sealed_under psk (application_record psk (t2_of s) Response (response_epoch s + 1)) s))
    (sym (past_purpose (stage_of s) psk (t1_of s) (t2_of s) Response (response_epoch s) past))
    (one_more (application_record psk (t2_of s) Response (response_epoch s + 1)) 0 (sealed_under psk (application_record psk (t2_of s) Response (response_epoch s + 1)) s) (sym (none_sealed_later psk (application_record psk (t2_of s) Response (response_epoch s + 1)) s (omega arith))))

next_sealed : (psk : List ℕ) (s : Events) → is_past_handshake (stage_of s) ≡ true → response_next s ≡ sealed_under psk (response_purpose psk s) s
    → response_next s + 1 ≡ counted (same_purpose (application_record psk (t2_of s) Response (response_epoch s)) (response_purpose psk s)) (sealed_under psk (application_record psk (t2_of s) Response (response_epoch s)) s)
next_sealed psk s past before =
    subst (λ (p : Purpose). response_next s + 1 ≡ counted (same_purpose p (response_purpose psk s)) (sealed_under psk p s)) (past_purpose (stage_of s) psk (t1_of s) (t2_of s) Response (response_epoch s) past)
    (one_more (response_purpose psk s) (response_next s) (sealed_under psk (response_purpose psk s) s) before)

update_sealed : (psk : List ℕ) (s : Events) (all verify : Bool) → is_past_handshake (stage_of s) ≡ true → response_next s ≡ sealed_under psk (response_purpose psk s) s
    → (if all then 1 else response_next s + 1)
    ≡ counted (same_purpose (purpose_in (if verify then Open else Verifying) psk (t1_of s) (t2_of s) Response (if all then response_epoch s + 1 else response_epoch s)) (reply_by all (response_epoch s) (response_purpose psk s)))
    (sealed_under psk (purpose_in (if verify then Open else Verifying) psk (t1_of s) (t2_of s) Response (if all then response_epoch s + 1 else response_epoch s)) s)
update_sealed psk s true true past before = new_sealed psk s past
update_sealed psk s true false past before = new_sealed psk s past
update_sealed psk s false true past before = next_sealed psk s past before
update_sealed psk s false false past before = next_sealed psk s past before

finish_sealed : (psk t : List ℕ) (s : Events) → stage_of s ≡ Handshake
    → 0 ≡ counted (same_purpose (application_record psk t Response (response_epoch s)) (response_purpose psk s)) (sealed_under psk (application_record psk t Response (response_epoch s)) s)
finish_sealed psk t s stage =
    sym (not_counted (same_purpose (application_record psk t Response (response_epoch s)) (response_purpose psk s)) (sealed_under psk (application_record psk t Response (response_epoch s)) s)
    (other_kind (application_record psk t Response (response_epoch s)) (response_purpose psk s) (ap (λ (k : Kind). same_kind ApplicationRecord k) (handshake_kind (stage_of s) psk (t1_of s) (t2_of s) Response (response_epoch s) stage)))
    (none_sealed psk t (response_epoch s) s stage))

heard_sealed : (psk sealed message : List ℕ) (refused : Option ErrorCode) (chunk : Option ChunkMessage) (e : Effect) (answer reply : List ℕ) (s : Events)
    → ((code_in e == PSK_FINISH) ≡ true → stage_of s ≡ Handshake) → ((code_in e == KEY_UPDATE) ≡ true → is_past_handshake (stage_of s) ≡ true)
    → response_next s ≡ sealed_under psk (response_purpose psk s) s
    → response_next (Heard sealed (record { message = message; refused = refused; chunk = chunk; effect = e; reply = answer }) reply ∷ s)
    ≡ sealed_under psk (response_purpose psk (Heard sealed (record { message = message; refused = refused; chunk = chunk; effect = e; reply = answer }) reply ∷ s)) (Heard sealed (record { message = message; refused = refused; chunk = chunk; effect = e; reply = answer }) reply ∷ s)
heard_sealed psk sealed message refused chunk NoEffect answer reply s finish update before = one_more (response_purpose psk s) (response_next s) _ before
heard_sealed psk sealed message refused chunk (TookData bytes data_answer) answer reply s finish update before = one_more (response_purpose psk s) (response_next s) _ before
heard_sealed psk sealed message refused chunk (Took (PskFinish verify) request whole large) answer reply s finish update before = finish_sealed psk _ s (finish refl)
heard_sealed psk sealed message refused chunk (Took (KeyUpdate op tag) request whole large) answer reply s finish update before =
    update_sealed psk s (op == 2) (op == 3) (update refl) before
heard_sealed psk sealed message refused chunk (Took _ request whole large) answer reply s finish update before = one_more (response_purpose psk s) (response_next s) _ before

pub responses_counted : (psk : List ℕ) (s : Events) → IsStaged s → response_next s ≡ sealed_under psk (response_purpose psk s) s
responses_counted psk [] staged = refl
responses_counted psk (Began n x a ∷ s) staged =
    subst (λ (older : Events). response_next older ≡ sealed_under psk (response_purpose psk (Began n x a ∷ older)) older) (sym staged) refl
responses_counted psk (Heard sealed t reply ∷ s) staged =
    heard_sealed psk sealed t.message t.refused t.chunk t.effect t.reply reply s staged.0 staged.1 (responses_counted psk s staged.2)
responses_counted psk (Waited seconds ∷ s) staged = responses_counted psk s staged
