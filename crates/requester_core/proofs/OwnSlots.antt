-- The records that a session sealed itself, by what is kept in its slot; and which session a record names.
use Rattle.std.proofs.Common.{refl, ◌≡◌, ◌≤◌, ◌∙◌, inl, inr, ℕ, List, [], ◌∷◌, Bool, true, false, Option, Some, None, ap, sym, subst, arith}
use Rattle.std.specs.Prelude.{◌&&◌, ◌==◌, bytes_eq, if◌then◌else◌, is_none, is_ok, take, Result, Ok, Err}
use Rattle.std.proofs.lemmas.Bool.{false≢true}
use Rattle.std.proofs.lemmas.Option.{none-some, same_Some}
use Rattle.requester_core.proofs.SlotLaws.{asked_waits, finishing_rests, live_rests, opening_rests, session_shows}
use Rattle.requester_core.specs.OwnRecords.{IsSlotRepadded, OpensAs, OpensNamed, awaits_record, first_of, id_named, is_in_session, opens_own}
use Rattle.requester_machine.specs.Named.{names, session_named}
use Rattle.requester_core.specs.Slot.{IsFinishing, IsOpening, IsSlotOf, shown_of}
use Rattle.requester_core.specs.declared.in_sessions.slot.Slot.{Slot}
use Rattle.requester_core.specs.declared.in_sessions.slot.Slot.TheVariants as slot
use Rattle.psk_session.specs.Course.{with_asked}
use Rattle.psk_session.specs.Opening.{accepted, finish_inner, finishing}
use Rattle.psk_session.specs.OwnRecords.{IsFinishRepadded, IsOwnOpened, IsRepadded, own_fault}
use Rattle.psk_session.specs.ReqSession.{IsAwaiting, IsOpen}
use Rattle.psk_session.specs.declared.finishing.Finishing.{Finishing}
use Rattle.psk_session.specs.declared.opening.Opening.{Opening}
use Rattle.psk_session.specs.declared.req_session.ReqSession.{ReqSession}
use Rattle.requester_machine.specs.History.{History}
use Rattle.requester_machine.specs.Message.{Aim, Ask, Sent}
use Rattle.requester_machine.specs.Message.Aim.{ByChunks, ForChunk, InSession, Plain}
use Rattle.requester_machine.specs.Message.Ask.{AskFinish}
use Rattle.requester_machine.specs.Order.{FitsWaits, IsInOrder, Waits, is_opening, waiting_ask, waits_aim, waits_asked, waits_for}
use Rattle.requester_machine.specs.Order.Waits.{ForExchange, ForRecord, Rests}
use Rattle.requester_machine.specs.Session.{Steps, id_bytes, is_accepted, is_live, request_next, session_of}
use Rattle.requester_machine.specs.Session.Step.{Asked, Started}
use Rattle.requester_machine.specs.Shown.{view_of}
use Rattle.spdm_basis.specs.SessionIdBytes.{session_id_bytes}
use Rattle.spdm_basis.specs.declared.causes.record_fault.RecordFault.{RecordFault}
use Rattle.spdm_basis.specs.declared.values.session_id.SessionId.{SessionId}
use Rattle.spdm_grammar.specs.Message.{RequestMessage}
use Rattle.spdm_grammar.specs.Message.RequestMessage.{PskExchange}
use Rattle.spdm_grammar.specs.declared.told.session_view.SessionView.{SessionView}

-- ---- Opened as the next record.

pub opens_by : (psk : List ℕ) (s : Steps) (sealed : List ℕ) (r : Result Unit RecordFault) (out : List ℕ) → is_accepted s ≡ true → IsOwnOpened psk s sealed r out → OpensAs psk s sealed (is_ok r) out
opens_by psk s sealed (Ok u) out took o = (ap (λ (b : Bool). b && is_none (own_fault psk s sealed)) took ∙ ap is_none o.0, o.1)
opens_by psk s sealed (Err e) out took o = ap (λ (b : Bool). b && is_none (own_fault psk s sealed)) took ∙ ap is_none o

pub empty_accepted : {A : Type 0} (s : Steps) → s ≡ [] → is_accepted s ≡ true → A
empty_accepted s is took = absurd (false≢true (sym (ap is_accepted is) ∙ took))

pub opening_accepted : {A : Type 0} (x : Opening) (psk : List ℕ) (s : Steps) → IsOpening x psk s → is_accepted s ≡ true → A
opening_accepted x psk s o took = absurd (false≢true (sym (ap is_accepted o.steps) ∙ took))

pub finishing_opened : (x : Finishing) (psk : List ℕ) (s : Steps) (sealed : List ℕ) (r : Result Unit RecordFault) (out : List ℕ) (f : IsFinishing x psk s) → IsOwnOpened psk (finishing psk f.negotiation f.exchange f.answer f.pad) sealed r out → IsOwnOpened psk s sealed r out
finishing_opened x psk s sealed r out f o = subst (λ (t : Steps). IsOwnOpened psk t sealed r out) (sym f.steps) o

pub live_opened : (x : ReqSession) (psk : List ℕ) (s : Steps) (sealed : List ℕ) (r : Result Unit RecordFault) (out : List ℕ) → IsSlotOf (slot.Live x) psk s → (IsOpen x psk s → IsOwnOpened psk s sealed r out)
    → ((a : Ask) → IsAwaiting x psk s a → IsOwnOpened psk s sealed r out) → IsOwnOpened psk s sealed r out
live_opened x psk s sealed r out (inl k) rests awaits = rests k.stands
live_opened x psk s sealed r out (inr k) rests awaits = awaits k.ask k.stands

-- ---- In place of the last record.

abbrev behind : Steps → Steps
behind [] = []
behind (_ ∷ older) = older

abbrev inner_in : Steps → List ℕ
inner_in (Asked ask inner sealed ∷ older) = inner
inner_in _ = []

pub empty_last : {A : Type 0} (psk : List ℕ) (s : Steps) (a : Ask) (inner pad : List ℕ) → with_asked psk s a inner pad ≡ [] → A
empty_last psk s a inner pad is = absurd (false≢true (sym (ap is_live is)))

pub opening_last : {A : Type 0} (x : Opening) (psk : List ℕ) (s : Steps) (a : Ask) (inner pad : List ℕ) → IsOpening x psk (with_asked psk s a inner pad) → A
opening_last x psk s a inner pad o = absurd (none-some a (sym (ap waiting_ask o.steps)))

-- The last record of a session that awaits PSK_FINISH_RSP is that of PSK_FINISH.
pub finishing_last : (x : Finishing) (psk : List ℕ) (s : Steps) (a : Ask) (inner pad : List ℕ) (f : IsFinishing x psk (with_asked psk s a inner pad)) (P : Steps → Ask → List ℕ → Type 0)
    → P (accepted f.negotiation f.exchange f.answer) AskFinish (finish_inner psk (accepted f.negotiation f.exchange f.answer)) → P s a inner
finishing_last x psk s a inner pad f P p =
    let older = accepted f.negotiation f.exchange f.answer in
    let message = finish_inner psk older in
    let steps : older ≡ s = sym (ap behind f.steps) in
    let ask : AskFinish ≡ a = same_Some AskFinish a (sym (ap waiting_ask f.steps)) in
    let inner_is : message ≡ inner = sym (ap inner_in f.steps) in
    subst (λ (t : Steps). P t a inner) steps (subst (λ (b : Ask). P older b inner) ask (subst (λ (m : List ℕ). P older AskFinish m) inner_is p))

pub live_last : (x : ReqSession) (psk : List ℕ) (s : Steps) (a : Ask) (inner pad : List ℕ) → IsSlotOf (slot.Live x) psk (with_asked psk s a inner pad) → IsAwaiting x psk (with_asked psk s a inner pad) a
live_last x psk s a inner pad (inl r) = absurd (none-some a (sym r.idle))
live_last x psk s a inner pad (inr k) = subst (IsAwaiting x psk (with_asked psk s a inner pad)) (same_Some k.ask a (sym (asked_waits x psk (with_asked psk s a inner pad) k))) k.stands

-- ---- With another padding.

pub live_repadded : (x : ReqSession) (psk : List ℕ) (s : Steps) (a : Ask) (inner sealed : List ℕ) (b : Bool) → IsRepadded psk s a inner sealed x b → IsSlotRepadded psk s a inner sealed (slot.Live x) b
live_repadded x psk s a inner sealed true p = (p.0, p.1, p.2, inr (record { ask = a; stands = p.3 }))
live_repadded x psk s a inner sealed false p = p

finish_repadded : (x old : Finishing) (psk : List ℕ) (s : Steps) (f : IsFinishing old psk s) (sealed : List ℕ) (b : Bool) → IsFinishRepadded psk f.negotiation f.exchange f.answer sealed x b
    → IsSlotRepadded psk (accepted f.negotiation f.exchange f.answer) AskFinish (finish_inner psk (accepted f.negotiation f.exchange f.answer)) sealed (slot.Finishing x) b
finish_repadded x old psk s f sealed true p =
    (p.0, p.1, p.2, record { negotiation = f.negotiation; exchange = f.exchange; answer = f.answer; pad = p.0; steps = refl; stands = p.3 })
finish_repadded x old psk s f sealed false p = p

pub finishing_repadded : (x old : Finishing) (psk : List ℕ) (s : Steps) (a : Ask) (inner pad sealed : List ℕ) (b : Bool) (f : IsFinishing old psk (with_asked psk s a inner pad)) → IsFinishRepadded psk f.negotiation f.exchange f.answer sealed x b
    → IsSlotRepadded psk s a inner sealed (slot.Finishing x) b
finishing_repadded x old psk s a inner pad sealed b f p =
    finishing_last old psk s a inner pad f (λ t ask m. IsSlotRepadded psk t ask m sealed (slot.Finishing x) b) (finish_repadded x old psk (with_asked psk s a inner pad) f sealed b p)

-- ---- Which session a record names.

-- By four tests, the first that holds.
abbrev Picked : (ℕ → Bool) → (ℕ → Steps) → Steps → Option ℕ → Type 0
Picked n s x None = x ≡ []
Picked n s x (Some id) = (x ≡ s id) × (n id ≡ true)

picks : (n : ℕ → Bool) (s : ℕ → Steps) (a b c d : Bool) → n 1 ≡ a → n 2 ≡ b → n 3 ≡ c → n 4 ≡ d → (o : Option ℕ) → first_of a b c d ≡ o
    → Picked n s (if a then s 1 else (if b then s 2 else (if c then s 3 else (if d then s 4 else [])))) o
picks n s true b c d p q r t o is = subst (Picked n s (s 1)) is (refl, p)
picks n s false true c d p q r t o is = subst (Picked n s (s 2)) is (refl, q)
picks n s false false true d p q r t o is = subst (Picked n s (s 3)) is (refl, r)
picks n s false false false true p q r t o is = subst (Picked n s (s 4)) is (refl, t)
picks n s false false false false p q r t o is = subst (Picked n s []) is refl

picked : (h : History) (sealed : List ℕ) (o : Option ℕ) → o ≡ id_named h sealed → Picked (λ i. names sealed (session_of i h)) (λ i. session_of i h) (session_named h sealed) o
picked h sealed o is =
    picks (λ i. names sealed (session_of i h)) (λ i. session_of i h) (names sealed (session_of 1 h)) (names sealed (session_of 2 h)) (names sealed (session_of 3 h)) (names sealed (session_of 4 h)) refl refl refl refl o (sym is)

left_of : (a b : Bool) → (a && b) ≡ true → a ≡ true
left_of true b is = refl
left_of false b is = absurd (false≢true is)

-- The session that is named took PSK_EXCHANGE_RSP.
pub opens_named : (psk : List ℕ) (h : History) (sealed : List ℕ) (id : ℕ) (r : Result Unit RecordFault) (out : List ℕ) (b : Bool) → b ≡ is_ok r → Some id ≡ id_named h sealed
    → (is_accepted (session_of id h) ≡ true → session_named h sealed ≡ session_of id h → IsOwnOpened psk (session_of id h) sealed r out) → OpensAs psk (session_named h sealed) sealed b out
opens_named psk h sealed id r out b told is opened =
    let p = picked h sealed (Some id) is in
    let took = left_of _ _ p.1 in
    subst (λ (t : Bool). OpensAs psk (session_named h sealed) sealed t out) (sym told) (subst (λ (s : Steps). OpensAs psk s sealed (is_ok r) out) (sym p.0) (opens_by psk (session_of id h) sealed r out took (opened took p.0)))

pub opens_none : (psk : List ℕ) (h : History) (sealed out : List ℕ) → None ≡ id_named h sealed → OpensAs psk (session_named h sealed) sealed false out
opens_none psk h sealed out is = ap (λ (s : Steps). is_accepted s && is_none (own_fault psk s sealed)) (picked h sealed None is)

-- Whether it names this session, and opens there.
pub opens_there : (psk : List ℕ) (s : Steps) (sealed : List ℕ) (r : Result Unit RecordFault) (out : List ℕ) (b : Bool) → b ≡ is_ok r → names sealed s ≡ true → IsOwnOpened psk s sealed r out → OpensNamed psk s sealed b out
opens_there psk s sealed r out b told named opened = subst (λ (t : Bool). OpensNamed psk s sealed t out) (sym told) (by_result r opened)
  where
    took : is_accepted s ≡ true
    took = left_of _ _ named

    both : (t : Bool) → opens_own psk s sealed ≡ t → (names sealed s && opens_own psk s sealed) ≡ t
    both t is = ap (λ (c : Bool). c && opens_own psk s sealed) named ∙ is

    by_result : (x : Result Unit RecordFault) → IsOwnOpened psk s sealed x out → OpensNamed psk s sealed (is_ok x) out
    by_result (Ok u) o = (both true (opens_by psk s sealed (Ok u) out took o).0, o.1)
    by_result (Err e) o = both false (opens_by psk s sealed (Err e) out took o)

pub opens_elsewhere : (psk : List ℕ) (s : Steps) (sealed out : List ℕ) → names sealed s ≡ false → OpensNamed psk s sealed false out
opens_elsewhere psk s sealed out other = ap (λ (c : Bool). c && opens_own psk s sealed) other

-- A session that waits for nothing has a number for one more record.
pub few_resting : (x : Slot) (psk : List ℕ) (s : Steps) → IsSlotOf x psk s → FitsWaits Rests s → request_next s ≤ 65535
few_resting slot.Empty psk s is fits = subst (λ (t : Steps). request_next t ≤ 65535) (sym is) (omega arith)
few_resting (slot.Opening x) psk s is fits = opening_rests x psk s is fits
few_resting (slot.Finishing x) psk s is fits = finishing_rests x psk s is fits
few_resting (slot.Live x) psk s is fits = (live_rests x psk s is fits).stands.1.few.0

-- ---- Whether a record names a session, by what is shown of it.

shown_names : (took : Bool) (s : Steps) (view : SessionView) (sealed : List ℕ) (b : Bool) → Some view ≡ (if took then Some (view_of s) else None) → b ≡ bytes_eq (session_id_bytes view.id.req view.id.rsp) (take 4 sealed) → b ≡ (took && bytes_eq (id_bytes s) (take 4 sealed))
shown_names true s view sealed b shown test = test ∙ ap (λ (i : SessionId). bytes_eq (session_id_bytes i.req i.rsp) (take 4 sealed)) (session_shows s view (same_Some view (view_of s) shown))
shown_names false s view sealed b shown test = absurd (none-some view (sym shown))

pub view_names : (s : Steps) (view : SessionView) (sealed : List ℕ) (b : Bool) → Some view ≡ shown_of s → b ≡ bytes_eq (session_id_bytes view.id.req view.id.rsp) (take 4 sealed) → b ≡ names sealed s
view_names s view sealed b shown test = shown_names (is_accepted s) s view sealed b shown test

unshown : (took : Bool) (s : Steps) (sealed : List ℕ) → None ≡ (if took then Some (view_of s) else None) → false ≡ (took && bytes_eq (id_bytes s) (take 4 sealed))
unshown true s sealed shown = absurd (none-some (view_of s) shown)
unshown false s sealed shown = refl

pub none_names : (s : Steps) (sealed : List ℕ) → None ≡ shown_of s → false ≡ names sealed s
none_names s sealed shown = unshown (is_accepted s) s sealed shown

pub first_as : (a b c d x y z w : Bool) → a ≡ x → b ≡ y → c ≡ z → d ≡ w → first_of a b c d ≡ first_of x y z w
first_as a b c d x y z w p q r s = λ i. first_of (p i) (q i) (r i) (s i)

-- So has one that waits for the answer to its PSK_EXCHANGE, and each while no record is outstanding.
few_opening : (s : Steps) → is_opening s ≡ true → request_next s ≤ 65535
few_opening (Started negotiation exchange ∷ []) is = omega arith
few_opening (Started negotiation exchange ∷ step ∷ older) is = absurd (false≢true is)
few_opening _ is = absurd (false≢true is)

abbrev is_record_for : Waits → Bool
is_record_for (ForRecord ask) = true
is_record_for _ = false

few_waiting : (w : Waits) (x : Slot) (psk : List ℕ) (s : Steps) → is_record_for w ≡ false → IsSlotOf x psk s → FitsWaits w s → request_next s ≤ 65535
few_waiting Rests x psk s idle is fits = few_resting x psk s is fits
few_waiting ForExchange x psk [] idle is fits = omega arith
few_waiting ForExchange x psk (step ∷ older) idle is fits = few_opening (step ∷ older) fits
few_waiting (ForRecord ask) x psk s idle is fits = absurd (false≢true (sym idle))

waits_by : (b : Bool) → is_record_for (if b then ForExchange else Rests) ≡ false
waits_by true = refl
waits_by false = refl

waits_clear : (i : ℕ) (asked : RequestMessage) → is_record_for (waits_asked i asked) ≡ false
waits_clear i (PskExchange exchange) = waits_by (exchange.req_id == i)
waits_clear i _ = refl

waits_unsealed : (i : ℕ) (aim : Aim) → is_in_session aim ≡ false → is_record_for (waits_aim i aim) ≡ false
waits_unsealed i (Plain asked) is = waits_clear i asked
waits_unsealed i (ByChunks asked handle number) is = waits_clear i asked
waits_unsealed i (ForChunk asked handle number before) is = waits_clear i asked
waits_unsealed i (InSession id ask) is = absurd (false≢true (sym is))

waits_none : (i : ℕ) (o : Option Sent) → awaits_record o ≡ false → is_record_for (waits_for i o) ≡ false
waits_none i None is = refl
waits_none i (Some sent) is = waits_unsealed i sent.aim is

pub few_idle : (x : Slot) (psk : List ℕ) (i : ℕ) (o : Option Sent) (s : Steps) → awaits_record o ≡ false → IsSlotOf x psk s → IsInOrder o i s → request_next s ≤ 65535
few_idle x psk i o s idle is order = few_waiting (waits_for i o) x psk s (waits_none i o idle) is order.fits
