-- Whether a record opens as a request of the session that it names.
use Rattle.std.proofs.Common.{◌≡◌, ◌≤◌, ◌<◌, ◌∙◌, ℕ, List, [], Bool, true, false, Some, None, refl, sym, ap, subst, arith}
use Rattle.std.specs.Prelude.{◌&&◌, if◌then◌else◌, is_none, nat_lt}
use Rattle.std.proofs.lemmas.Bool.Decides.{nat_tests}
use Rattle.std.proofs.lemmas.Option.{none-some, same_Some}
use Rattle.requester_core.proofs.OwedClear.{any_of, clear_steps, in_session_of, out_last}
use Rattle.requester_core.proofs.OwedOpened.{rests_aside}
use Rattle.requester_core.proofs.OwedSessions.{is_owed, others_as, upon, upon_last}
use Rattle.requester_core.proofs.OwnSlots.{empty_last, few_idle, few_resting, finishing_last, live_last, opening_last}
use Rattle.requester_core.proofs.SessionsAsked.{of_each}
use Rattle.requester_core.specs.Owed.{TookFor}
use Rattle.requester_core.specs.OwnRecords.{OpensAs, awaits_record, first_of, id_named, is_in_session, opens_own}
use Rattle.requester_core.specs.Sessions.{StandsFor, slot_of}
use Rattle.requester_core.specs.Slot.{IsSlotOf, shown_of}
use Rattle.requester_core.specs.declared.in_sessions.sessions.Sessions.{Sessions}
use Rattle.requester_core.specs.declared.in_sessions.slot.Slot.{Slot}
use Rattle.requester_core.specs.declared.in_sessions.slot.Slot.TheVariants as slot
use Rattle.psk_session.proofs.OwnSealed.{few_most}
use Rattle.psk_session.specs.Course.{with_asked}
use Rattle.psk_session.specs.OwnRecords.{own_fault, own_inner}
use Rattle.requester_machine.specs.History.{History, outstanding}
use Rattle.requester_machine.specs.Message.{Ask, Sent}
use Rattle.requester_machine.specs.Named.{names, session_named}
use Rattle.requester_machine.specs.Owed.{with_next}
use Rattle.requester_machine.specs.Records.{request_purpose}
use Rattle.requester_machine.specs.Session.{Steps, id_bytes, is_accepted, request_next, response_next, session_of, session_terms}
use Rattle.requester_machine.specs.Setup.{ReqSetup}
use Rattle.requester_machine.specs.Shown.{view_of}
use Rattle.spdm_grammar.specs.declared.told.session_view.SessionView.{SessionView}
use Rattle.spdm_machine.specs.Keys.{record_fault}
use Rattle.capture_machine.specs.Opening.{inner_asking, opens_asking}

-- ---- By the own code of the session.

and_by : (a b c : Bool) → b ≡ true → (a && b && c) ≡ (a && c)
and_by true b c is = ap (λ (x : Bool). true && x && c) is
and_by false b c is = ap (λ (x : Bool). false && x && c) is

and_not : (a b c : Bool) → b ≡ false → (a && b && c) ≡ false
and_not true b c is = ap (λ (x : Bool). true && x && c) is
and_not false b c is = ap (λ (x : Bool). false && x && c) is

and_none : (a b c : Bool) → a ≡ false → (a && b && c) ≡ false
and_none a b c is = ap (λ (x : Bool). x && b && c) is

pub opens_same : (q : ReqSetup) (s : Steps) (sealed : List ℕ) → nat_lt (request_next s) 65536 ≡ true → opens_asking q s sealed ≡ opens_own q.psk s sealed
unfolding opens_asking own_fault
opens_same q s sealed few = and_by (is_accepted s) (nat_lt (request_next s) 65536) (is_none (record_fault (session_terms s).choice (request_purpose q.psk s) (request_next s) (id_bytes s) sealed)) few

pub inner_same : (q : ReqSetup) (s : Steps) (sealed : List ℕ) → inner_asking q s sealed ≡ own_inner q.psk s sealed
unfolding inner_asking own_inner
inner_same q s sealed = refl

spent_not : (q : ReqSetup) (s : Steps) (sealed : List ℕ) → nat_lt (request_next s) 65536 ≡ false → opens_asking q s sealed ≡ false
unfolding opens_asking
spent_not q s sealed spent = and_not (is_accepted s) (nat_lt (request_next s) 65536) _ spent

unshown_not : (q : ReqSetup) (s : Steps) (sealed : List ℕ) → is_accepted s ≡ false → opens_asking q s sealed ≡ false
unfolding opens_asking
unshown_not q s sealed not = and_none (is_accepted s) (nat_lt (request_next s) 65536) _ not

pub opened_is : (q : ReqSetup) (s : Steps) (sealed out : List ℕ) (b : Bool) → nat_lt (request_next s) 65536 ≡ true → OpensAs q.psk s sealed b out → b ≡ opens_asking q s sealed
opened_is q s sealed out true few o = sym (opens_same q s sealed few ∙ o.0)
opened_is q s sealed out false few o = sym (opens_same q s sealed few ∙ o)

-- ---- By what is shown of the session.

shown_by : (b : Bool) (v view : SessionView) → Some view ≡ (if b then Some v else None) → (b ≡ true) × (view ≡ v)
shown_by true v view is = (refl, same_Some view v is)
shown_by false v view is = absurd (none-some view (sym is))

hidden_by : (b : Bool) (v : SessionView) → None ≡ (if b then Some v else None) → b ≡ false
hidden_by true v is = absurd (none-some v is)
hidden_by false v is = refl

pub unshown : (s : Steps) → None ≡ shown_of s → is_accepted s ≡ false
unshown s is = hidden_by (is_accepted s) (view_of s) is

pub view_is : (s : Steps) (view : SessionView) → Some view ≡ shown_of s → view ≡ view_of s
view_is s view is = (shown_by (is_accepted s) (view_of s) view is).1

next_shown : (s : Steps) (view : SessionView) → view ≡ view_of s → view.request_next ≡ request_next s
unfolding view_of
next_shown s view is = ap (λ (v : SessionView). v.request_next) is

pub hidden : (q : ReqSetup) (s : Steps) (sealed : List ℕ) → None ≡ shown_of s → false ≡ opens_asking q s sealed
hidden q s sealed is = sym (unshown_not q s sealed (hidden_by (is_accepted s) (view_of s) is))

pub few_test : (n : ℕ) → n < 65536 → nat_lt n 65536 ≡ true
few_test n few = grind (arith, nat_tests)

pub spent : (q : ReqSetup) (s : Steps) (sealed : List ℕ) (view : SessionView) → Some view ≡ shown_of s → nat_lt view.request_next 65536 ≡ false → false ≡ opens_asking q s sealed
spent q s sealed view is many = sym (spent_not q s sealed (sym (ap (λ (n : ℕ). nat_lt n 65536) (next_shown s view (view_is s view is))) ∙ many))

test_few : (n : ℕ) → nat_lt n 65536 ≡ true → n ≤ 65535
test_few n few = grind (arith, nat_tests)

pub few_shown : (s : Steps) (view : SessionView) → Some view ≡ shown_of s → nat_lt view.request_next 65536 ≡ true → request_next s ≤ 65535
few_shown s view is few = test_few (request_next s) (sym (ap (λ (n : ℕ). nat_lt n 65536) (next_shown s view (view_is s view is))) ∙ few)

pub few_opened : (q : ReqSetup) (s : Steps) (sealed out : List ℕ) (b : Bool) → request_next s ≤ 65535 → OpensAs q.psk s sealed b out → b ≡ opens_asking q s sealed
few_opened q s sealed out b few o = opened_is q s sealed out b (few_test (request_next s) (omega (arith, few))) o

-- Without a session that it names there is none.
none_by : (a b c d : Bool) (s t u v : Steps) → None ≡ first_of a b c d → (if a then s else (if b then t else (if c then u else (if d then v else [])))) ≡ []
none_by true b c d s t u v is = absurd (none-some 1 is)
none_by false true c d s t u v is = absurd (none-some 2 is)
none_by false false true d s t u v is = absurd (none-some 3 is)
none_by false false false true s t u v is = absurd (none-some 4 is)
none_by false false false false s t u v is = refl

pub none_named : (h : History) (sealed : List ℕ) → None ≡ id_named h sealed → session_named h sealed ≡ []
none_named h sealed is = none_by (names sealed (session_of 1 h)) (names sealed (session_of 2 h)) (names sealed (session_of 3 h)) (names sealed (session_of 4 h)) _ _ _ _ is

-- ---- How many numbers were used.

few_if : (b : Bool) (s t : Steps) → request_next s ≤ 65535 → request_next t ≤ 65535 → request_next (if b then s else t) ≤ 65535
few_if true s t one two = one
few_if false s t one two = two

few_in : (h : History) → ((i : ℕ) → request_next (session_of i h) ≤ 65535) → (sealed : List ℕ) → request_next (session_named h sealed) ≤ 65535
few_in h few sealed =
    few_if (names sealed (session_of 1 h)) (session_of 1 h) _ (few 1)
    (few_if (names sealed (session_of 2 h)) (session_of 2 h) _ (few 2)
    (few_if (names sealed (session_of 3 h)) (session_of 3 h) _ (few 3)
    (few_if (names sealed (session_of 4 h)) (session_of 4 h) [] (few 4) (omega arith))))

-- ---- Where no record is outstanding.

-- Each session has a number left then, so a record opens or it does not, whatever was counted.
pub idle_opens : (x : Sessions) (q : ReqSetup) (h : History) (sealed : List ℕ) → StandsFor x q h → awaits_record (outstanding h) ≡ false → opens_asking q (session_named h sealed) sealed ≡ opens_own q.psk (session_named h sealed) sealed
idle_opens x q h sealed stands idle =
    let few : request_next (session_named h sealed) ≤ 65535 = few_in h (λ i. few_idle (slot_of x i) q.psk i (outstanding h) (session_of i h) idle (stands.slots i) (stands.orders i)) sealed in
    opens_same q (session_named h sealed) sealed (few_test (request_next (session_named h sealed)) (omega (arith, few)))

-- ---- Where a message is owed.

-- Each session has a number left for one more record then.
own_few : (x : Slot) (psk : List ℕ) (s : Steps) (a : Ask) (inner pad : List ℕ) → IsSlotOf x psk (with_asked psk s a inner pad) → request_next s ≤ 65535
own_few slot.Empty psk s a inner pad is = empty_last psk s a inner pad is
own_few (slot.Opening x) psk s a inner pad is = opening_last x psk s a inner pad is
own_few (slot.Finishing x) psk s a inner pad is = finishing_last x psk s a inner pad is (λ t b m. request_next t ≤ 65535) (omega arith)
own_few (slot.Live x) psk s a inner pad is =
    let few = few_most a (request_next (with_asked psk s a inner pad)) (response_next (with_asked psk s a inner pad)) (live_last x psk s a inner pad is).1.few in omega (arith, few)

module _ (x : Sessions) (q : ReqSetup) (bare : History) (sent : Sent) (took : TookFor bare sent.aim) (stands : StandsFor x q (with_next (Some sent) bare)) where
  few_clear : (i : ℕ) → is_in_session sent.aim ≡ false → request_next (session_of i bare) ≤ 65535
  few_clear i clear =
      let h : History = with_next (Some sent) bare in
      let idle : awaits_record (outstanding h) ≡ false = ap awaits_record (out_last bare sent.aim sent took) ∙ clear in
      subst (λ (s : Steps). request_next s ≤ 65535) (clear_steps bare sent i (any_of bare sent.aim took clear) clear)
      (few_idle (slot_of x i) q.psk i (outstanding h) (session_of i h) idle (stands.slots i) (stands.orders i))

  few_sealed : (i : ℕ) → is_in_session sent.aim ≡ true → request_next (session_of i bare) ≤ 65535
  few_sealed i sealed =
      let its = in_session_of bare sent.aim took sealed in
      let ends = upon_last bare its.id its.ask its.took in
      let owed = is_owed q bare (upon bare) its.id its.ask sent ends its.aims stands.holds in
      of_each (λ j. request_next (session_of j bare) ≤ 65535) its.id
      (own_few (slot_of x its.id) q.psk (session_of its.id bare) its.ask owed.inner owed.pad (subst (IsSlotOf (slot_of x its.id) q.psk) owed.steps (stands.slots its.id)))
      (λ j ne. subst (λ (s : Steps). request_next s ≤ 65535) (others_as bare (upon bare) its.id its.ask sent ends its.aims j ne)
      (few_resting (slot_of x j) q.psk (session_of j (with_next (Some sent) bare)) (stands.slots j) (rests_aside x q bare its.id its.ask sent its.took its.aims stands j ne))) i

  pub few_at : (i : ℕ) → request_next (session_of i bare) ≤ 65535
  few_at i = by_kind (is_in_session sent.aim) refl
    where
      by_kind : (b : Bool) → is_in_session sent.aim ≡ b → request_next (session_of i bare) ≤ 65535
      by_kind true sealed = few_sealed i sealed
      by_kind false clear = few_clear i clear

  pub few_named : (sealed : List ℕ) → request_next (session_named bare sealed) ≤ 65535
  few_named sealed = few_in bare few_at sealed
