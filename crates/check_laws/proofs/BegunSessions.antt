-- A session that an answer begins is live after it, and has an id from 1 to 4.
use Rattle.std.proofs.Common.{◌≡◌, ◌≤◌, ◌∙◌, ◌+◌, ◌==◌, ◌&&◌, ℕ, List, [], ◌∷◌, Bool, true, false, None, cond, drop, length, refl, sym, ap, subst, arith, inl, inr, eq-eqb, eqb-true, lt-ltb}
use Rattle.std.specs.Prelude.{nat_lt, not, slice_index}
use Rattle.std.proofs.lemmas.Bool.{and_parts, and_right, false≢true, le-ltb, ltb-true}
use Rattle.responder_machine.proofs.GivenIds.{gives_some}
use Rattle.responder_machine.proofs.Fresh.{IsFresh, exchange-fresh, turn_of-fresh}
use Rattle.responder_machine.specs.Answer.{Free}
use Rattle.responder_machine.specs.Handling.{turn_of}
use Rattle.responder_machine.specs.History.{Entry, History, clear_turns, negotiation_of}
use Rattle.responder_machine.specs.History.Entry.{Clear, Sealed, Queued, Ticked, Dropped}
use Rattle.responder_machine.specs.May.{with_dropped}
use Rattle.responder_machine.specs.Place.{Place, clear_place}
use Rattle.responder_machine.specs.Responder.{Outcome, after}
use Rattle.responder_machine.specs.Responder.Outcome.{Same, Unopened, Adds}
use Rattle.responder_machine.specs.Session.{Events, is_live, session_of, gives_id}
use Rattle.responder_machine.specs.Session.Event.{Began}
use Rattle.responder_machine.specs.Setup.{RspSetup}
use Rattle.responder_machine.specs.Turn.{Effect, Turn, answer_in, code_in, request_in, takes}
use Rattle.responder_machine.specs.Turn.Effect.{NoEffect, Took, TookData}
use Rattle.spdm_grammar.specs.declared.names.request_code.TheConstants.{GET_VERSION, PSK_EXCHANGE}
use Rattle.spdm_machine.specs.Keys.{Draw}
use Rattle.spdm_machine.specs.Sessions.{id_in_exchange}
use Rattle.check_laws.specs.Changes.{IsFew}
use Rattle.capture_machine.proofs.DropsTell.{clear_form}
use Rattle.capture_machine.proofs.PlainTells.{form_of, led_clear, led_record}
use Rattle.capture_machine.specs.CapturedAnswers.{MayLeadTo}
use Rattle.capture_machine.specs.LargeAnswers.{effect_with, unseen, turn_with}
use Rattle.capture_machine.specs.SessionTable.{begins, begun_count, last_begun}

-- Where more were begun than before, the last one is so.
pub record Begins (n : ℕ) (next : History) : Type 0 where
  pub live : nat_lt n (begun_count next) ≡ true → is_live (session_of (last_begun next) next) ≡ true
  pub few : nat_lt n (begun_count next) ≡ true → IsFew (last_begun next)

pub none_more : (n m : ℕ) → m ≤ n → nat_lt n m ≡ true → ⊥
none_more n m few more = false≢true (sym (le-ltb n m few) ∙ more)

pub none_begins : (n : ℕ) (next : History) → begun_count next ≤ n → Begins n next
none_begins n next few = record {
  live = λ more. absurd (none_more n (begun_count next) few more);
  few = λ more. absurd (none_more n (begun_count next) few more);
}

pub same_begins : (n : ℕ) (next : History) → begun_count next ≡ n → Begins n next
same_begins n next same = none_begins n next (omega (arith, same))

-- Counted from more on.
pub more_begins : (n m : ℕ) (next : History) → n ≤ m → Begins n next → Begins m next
more_begins n m next above b =
    let from : nat_lt m (begun_count next) ≡ true → nat_lt n (begun_count next) ≡ true = λ more. let low = ltb-true m (begun_count next) more in lt-ltb n (begun_count next) (omega (arith, low, above)) in
    record { live = λ more. b.live (from more); few = λ more. b.few (from more) }

-- ---- The exchange itself.

pub other_code : (c : ℕ) → (c == PSK_EXCHANGE) ≡ true → (c == GET_VERSION) ≡ false
other_code c is = ap (λ n. n == GET_VERSION) (eqb-true c PSK_EXCHANGE is)

pub live_by : (v p e : Bool) (b o s : Events) → v ≡ false → p ≡ true → e ≡ true → is_live b ≡ true → is_live (cond v [] (cond p (cond e b o) s)) ≡ true
live_by true p e b o s version psk same live = absurd (false≢true (sym version))
live_by false false e b o s version psk same live = absurd (false≢true psk)
live_by false true false b o s version psk same live = absurd (false≢true same)
live_by false true true b o s version psk same live = live

pub exchange_live : (tag : ℕ) (t : Turn) (d : Draw) (h : History) → takes PSK_EXCHANGE t ≡ true → 1 ≤ id_in_exchange (answer_in t.effect) → is_live (session_of (id_in_exchange (answer_in t.effect)) (Clear tag t d ∷ h)) ≡ true
unfolding session_of
exchange_live tag t d h takes_it least =
    live_by (takes GET_VERSION t) (takes PSK_EXCHANGE t) (gives_id (id_in_exchange (answer_in t.effect)) (answer_in t.effect)) (Began (negotiation_of (clear_turns h)) (request_in t.effect) (answer_in t.effect) ∷ []) _ _
    (other_code (code_in t.effect) takes_it) takes_it (gives_some (id_in_exchange (answer_in t.effect)) (answer_in t.effect) refl least) refl

pub clear_begins : (n tag : ℕ) (t : Turn) (d : Draw) (h : History) (b : Bool) → begins t ≡ b → begun_count h ≤ n → (takes PSK_EXCHANGE t ≡ true → IsFew (id_in_exchange (answer_in t.effect))) → Begins n (Clear tag t d ∷ h)
clear_begins n tag t d h true is few ids =
    let takes_it : takes PSK_EXCHANGE t ≡ true = (and_parts (takes PSK_EXCHANGE t) _ is).0 in
    let last : last_begun (Clear tag t d ∷ h) ≡ id_in_exchange (answer_in t.effect) = ap (λ b. cond b (id_in_exchange (answer_in t.effect)) (last_begun h)) is in
    record {
      live = λ more. subst (λ (id : ℕ). is_live (session_of id (Clear tag t d ∷ h)) ≡ true) (sym last) (exchange_live tag t d h takes_it (ids takes_it).0);
      few = λ more. subst IsFew (sym last) (ids takes_it);
    }
clear_begins n tag t d h false is few ids =
    let same : begun_count (Clear tag t d ∷ h) ≡ begun_count h = ap (λ b. cond b (begun_count h + 1) (begun_count h)) is in
    none_begins n (Clear tag t d ∷ h) (omega (arith, same, few))

-- ---- What a body leads to.

pub turn_in : Turn → Outcome → Turn
turn_in t (Adds (Clear tag u d)) = u
turn_in t _ = t

pub is_clear_entry : Outcome → Bool
is_clear_entry (Adds (Clear tag t d)) = true
is_clear_entry _ = false

pub turn_few : (r : RspSetup) (p : Place) (m : List ℕ) (f : Free) (t : Turn) → 1 ≤ f.id → f.id ≤ 4 → t ≡ turn_of r p m f → takes PSK_EXCHANGE t ≡ true → IsFew (id_in_exchange (answer_in t.effect))
turn_few r p m f t least most is takes_it =
    let fresh : IsFresh p.past_handshake f.id t.effect = subst (λ (u : Turn). IsFresh p.past_handshake f.id u.effect) (sym is) (turn_of-fresh r p m f most) in
    subst IsFew (sym (exchange-fresh p.past_handshake f.id t.effect takes_it fresh).0) (least, most)

pub led_few : (r : RspSetup) (h : History) (tag : ℕ) (body : List ℕ) (at : ℕ) (t : Turn) (d : Draw) (b : Bool) → (slice_index body 0 == 5) ≡ b → MayLeadTo r h tag body (Adds (Clear at t d)) → takes PSK_EXCHANGE t ≡ true
    → IsFew (id_in_exchange (answer_in t.effect))
unfolding turn_in is_clear_entry
led_few r h tag body at t d true type may takes_it =
    let led = led_clear r h tag body (Adds (Clear at t d)) type may in
    elim (clear_form r h tag (drop 1 body) led.free (Adds (Clear at t d)) led.leads) [
      | inl same ↦ absurd (false≢true (sym (ap is_clear_entry same.1)))
      | inr adds ↦ turn_few r (clear_place h) (drop 1 body) led.free t led.allowed.least led.allowed.most (ap (turn_in t) adds) takes_it
    ]
led_few r h tag body at t d false type may takes_it = elim (form_of r h tag body (Adds (Clear at t d)) (led_record r h tag body (Adds (Clear at t d)) type may)) [
  | inl same ↦ absurd (false≢true (sym (ap is_clear_entry same.1)))
  | inr rest ↦ elim rest [
    | inl none ↦ absurd (false≢true (sym (ap is_clear_entry none.1)))
    | inr added ↦ absurd (false≢true (sym (ap is_clear_entry added.2)))
  ]
]

pub count_dropped : (ids : List ℕ) (h : History) → begun_count (with_dropped h ids) ≡ begun_count h
count_dropped [] h = refl
count_dropped (id ∷ ids) h = count_dropped ids (Dropped id ∷ h)

pub plain_begins : (r : RspSetup) (g h : History) (ids : List ℕ) (tag : ℕ) (body : List ℕ) (o : Outcome) → MayLeadTo r g tag body o → Begins (begun_count h) (after (with_dropped h ids) o)
plain_begins r g h ids tag body (Same b) may = same_begins _ (with_dropped h ids) (count_dropped ids h)
plain_begins r g h ids tag body (Unopened b) may = same_begins _ (with_dropped h ids) (count_dropped ids h)
plain_begins r g h ids tag body (Adds (Clear at t d)) may =
    let same = count_dropped ids h in
    clear_begins (begun_count h) at t d (with_dropped h ids) (begins t) refl (omega (arith, same)) (led_few r g tag body at t d (slice_index body 0 == 5) refl may)
plain_begins r g h ids tag body (Adds (Sealed at sealed t reply d)) may = same_begins _ (Sealed at sealed t reply d ∷ with_dropped h ids) (count_dropped ids h)
plain_begins r g h ids tag body (Adds (Queued bytes)) may = same_begins _ (Queued bytes ∷ with_dropped h ids) (count_dropped ids h)
plain_begins r g h ids tag body (Adds (Ticked seconds)) may = same_begins _ (Ticked seconds ∷ with_dropped h ids) (count_dropped ids h)
plain_begins r g h ids tag body (Adds (Dropped id)) may = same_begins _ (Dropped id ∷ with_dropped h ids) (count_dropped ids h)

-- ---- A LargeResponse begins none.

pub none_exchanged : (x : Effect) → ((code_in (effect_with [] None x) == PSK_EXCHANGE) && not (length (answer_in (effect_with [] None x)) == 0)) ≡ false
none_exchanged NoEffect = refl
none_exchanged (Took asked request answer large) = and_right _ false refl
none_exchanged (TookData bytes answer) = refl

pub large_count : (e : Entry) (h : History) → begun_count (unseen e ∷ h) ≡ begun_count h
large_count (Clear tag t d) h = ap (λ b. cond b (begun_count h + 1) (begun_count h)) (none_exchanged t.effect)
large_count (Sealed tag sealed t reply d) h = refl
large_count (Queued bytes) h = refl
large_count (Ticked seconds) h = refl
large_count (Dropped id) h = refl

pub large_begins : (e : Entry) (h : History) → Begins (begun_count h) (unseen e ∷ h)
large_begins (Clear tag t d) h = same_begins _ (Clear tag (turn_with [] None t) d ∷ h) (ap (λ b. cond b (begun_count h + 1) (begun_count h)) (none_exchanged t.effect))
large_begins (Sealed tag sealed t reply d) h = same_begins _ _ refl
large_begins (Queued bytes) h = same_begins _ _ refl
large_begins (Ticked seconds) h = same_begins _ _ refl
large_begins (Dropped id) h = same_begins _ _ refl
