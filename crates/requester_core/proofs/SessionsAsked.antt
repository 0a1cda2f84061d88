-- What is told to the sessions of a requester.
use Rattle.std.proofs.Common.{refl, ◌≡◌, ◌≢◌, ◌∙◌, ◌<◌, ℕ, zero, suc, List, [], ◌∷◌, true, false, Bool, Option, Some, None, ap, sym, subst, eq-eqb, eqb-true, arith}
use Rattle.std.specs.Prelude.{◌+◌, ◌==◌, ◌||◌, ◌-◌, ◌^◌, not, nat_lt, if◌then◌else◌, Ok, Err, is_some, length, slice_index_or}
use Rattle.std.specs.Option.{option_map}
use Rattle.std.proofs.lemmas.Bool.{false≢true}
use Rattle.std.proofs.lemmas.Bool.Decides.{nat_tests}
use Rattle.std.proofs.lemmas.Option.{none-some, same_Some}
use Rattle.requester_core.proofs.Started.{connect_holds}
use Rattle.requester_core.specs.SessionSteps.{IsToldTo}
use Rattle.requester_core.specs.Sessions.{IsNamed, StandsFor, session_for, slot_of}
use Rattle.requester_core.specs.Slot.{IsSlotOf}
use Rattle.requester_core.specs.SlotSteps.{IsAskedOf}
use Rattle.requester_core.specs.declared.in_sessions.sessions.Sessions.{Sessions}
use Rattle.requester_core.specs.declared.in_sessions.slot.Slot.{Slot}
use Rattle.requester_core.specs.declared.in_sessions.slot.Slot.TheVariants as slot
use Rattle.psk_session.proofs.AskCommands.{ask_is_command, made, sent_for}
use Rattle.psk_session.specs.AskLaws.{LeadsBy, command_at, command_fault_of}
use Rattle.psk_session.specs.SessionRequest.{ask_fault, asked, asked_of, inner_for, is_long}
use Rattle.psk_session.specs.declared.session_request.SessionRequest.{SessionRequest}
use Rattle.psk_session.specs.declared.session_request.SessionRequest.TheVariants.{Beat, Data, End, Measure, UpdateAll, UpdateKey}
use Rattle.psk_session.specs.declared.ask_fault.AskFault.{AskFault}
use Rattle.requester_machine.proofs.Bounded.{sessions}
use Rattle.requester_machine.proofs.Entries as entries
use Rattle.requester_machine.proofs.HoldsMade.{made_holds}
use Rattle.requester_machine.proofs.HoldsTold.{told_holds, told_sent}
use Rattle.requester_machine.specs.Holds.{Holds}
use Rattle.requester_machine.proofs.Steps.{Good, asked_good, either_good}
use Rattle.requester_machine.specs.Asking.{asks, asks_by}
use Rattle.requester_machine.specs.Asking.Outcome.{Adds, Fails}
use Rattle.requester_machine.specs.Commands.{Free, command_fault, is_negotiated, is_spent, lacks, live_count}
use Rattle.requester_machine.specs.Does.{free_id}
use Rattle.requester_machine.specs.History.{History, outstanding, phase_of}
use Rattle.requester_machine.specs.History.Entry.{Told}
use Rattle.requester_machine.specs.Message.{Sent}
use Rattle.requester_machine.specs.Message.Command.{Connect}
use Rattle.requester_machine.specs.Order.{FitsWaits, IsInOrder, Waits, stage_for, waits_for}
use Rattle.requester_machine.specs.Order.Waits.{ForRecord, Rests}
use Rattle.requester_machine.specs.Records.{sealed_next}
use Rattle.requester_machine.specs.Sending.{plain_sent}
use Rattle.requester_machine.specs.Session.{is_live, response_epoch, session_of, session_terms, when_live}
use Rattle.requester_machine.specs.Session.Step.{Asked}
use Rattle.requester_machine.specs.Setup.{ReqSetup}
use Rattle.spdm_basis.specs.Tests.{first_of_tests}
use Rattle.spdm_grammar.specs.Message.RequestMessage.{GetVersion}
use Rattle.spdm_grammar.specs.declared.told.command_fault.CommandFault.{CommandFault}
use Rattle.spdm_grammar.specs.declared.told.command_fault.CommandFault.TheVariants as fault
use Rattle.spdm_grammar.specs.declared.told.phase.Stage.TheVariants as stage
use Rattle.spdm_machine.specs.Keys.{Draw}
use Rattle.spdm_machine.specs.Sessions.{one_if}

-- ---- No sessions.

at_any : (b : Bool) (n : ℕ) → (if b then slot.Empty else slice_index_or (slot.Empty ∷ slot.Empty ∷ slot.Empty ∷ slot.Empty ∷ []) n slot.Empty) ≡ slot.Empty
at_any true n = refl
at_any false zero = refl
at_any false (suc zero) = refl
at_any false (suc (suc zero)) = refl
at_any false (suc (suc (suc zero))) = refl
at_any false (suc (suc (suc (suc n)))) = refl

empty_slots : (x : Sessions) (id : ℕ) → x.slots ≡ slot.Empty ∷ slot.Empty ∷ slot.Empty ∷ slot.Empty ∷ [] → slot_of x id ≡ slot.Empty
empty_slots x id is = ap (λ (l : List Slot). if id == 0 || nat_lt 4 id then slot.Empty else slice_index_or l (id - 1) slot.Empty) is ∙ at_any (id == 0 || nat_lt 4 id) (id - 1)

pub four_empty : (a b c d : Slot) → a ≡ slot.Empty → b ≡ slot.Empty → c ≡ slot.Empty → d ≡ slot.Empty → (a ∷ b ∷ c ∷ d ∷ []) ≡ (slot.Empty ∷ slot.Empty ∷ slot.Empty ∷ slot.Empty ∷ [])
four_empty a b c d first second third fourth = rw (first, second, third, fourth) refl

by_tests : (b c : Bool) (x : Slot) → c ≡ true → (if b || c then slot.Empty else x) ≡ slot.Empty
by_tests true c x h = refl
by_tests false true x h = refl
by_tests false false x h = absurd (false≢true h)

five : (n : ℕ) → nat_lt 4 (suc (suc (suc (suc (suc n))))) ≡ true
five n = grind (arith, nat_tests)

pub all_empty : (x : Sessions) → slot_of x 1 ≡ slot.Empty → slot_of x 2 ≡ slot.Empty → slot_of x 3 ≡ slot.Empty → slot_of x 4 ≡ slot.Empty → (id : ℕ) → slot_of x id ≡ slot.Empty
all_empty x first second third fourth zero = refl
all_empty x first second third fourth (suc zero) = first
all_empty x first second third fourth (suc (suc zero)) = second
all_empty x first second third fourth (suc (suc (suc zero))) = third
all_empty x first second third fourth (suc (suc (suc (suc zero)))) = fourth
all_empty x first second third fourth (suc (suc (suc (suc (suc n))))) =
    let id : ℕ = suc (suc (suc (suc (suc n)))) in
    by_tests (id == 0) (nat_lt 4 id) (slice_index_or x.slots (id - 1) slot.Empty) (five n)

-- The sessions of a history in which there is none.
none_kept : (x : Sessions) (q : ReqSetup) (h : History) → ((id : ℕ) → slot_of x id ≡ slot.Empty) → ((id : ℕ) → session_of id h ≡ []) → (id : ℕ) → IsSlotOf (slot_of x id) q.psk (session_of id h)
none_kept x q h is none id = subst (λ (s : Slot). IsSlotOf s q.psk (session_of id h)) (sym (is id)) (none id)

none_orders : (h : History) → ((id : ℕ) → session_of id h ≡ []) → (id : ℕ) → IsInOrder (outstanding h) id (session_of id h)
none_orders h none id = subst (IsInOrder (outstanding h) id) (sym (none id)) (record { ordered = tt; fits = tt })

none_yet : (id : ℕ) → session_of id [] ≡ []
unfolding session_of
none_yet id = refl

pub no_sessions : (x : Sessions) (q : ReqSetup) → x.slots ≡ slot.Empty ∷ slot.Empty ∷ slot.Empty ∷ slot.Empty ∷ [] → StandsFor x q []
no_sessions x q is = record { holds = made_holds q [] tt; orders = none_orders [] none_yet; slots = none_kept x q [] (λ id. empty_slots x id is) none_yet; named = tt }

none_connected : (h : History) (sent : Sent) (d : Draw) (id : ℕ) → session_of id (Told Connect sent d ∷ h) ≡ []
unfolding session_of
none_connected h sent d id = refl

pub cleared : (new : Sessions) (q : ReqSetup) (h : History) (f : Free) (d : Draw) (sent : Sent) → asks false q h Connect f d ≡ Adds (Told Connect sent d)
    → ((id : ℕ) → slot_of new id ≡ slot.Empty) → StandsFor new q (Told Connect sent d ∷ h)
cleared new q h f d sent adds is =
    let made = entries.asked false q h Connect f d (Told Connect sent d) adds in
    let same : plain_sent h GetVersion ≡ sent = told_sent Connect (plain_sent h GetVersion) sent d made.1 in
    record {
      holds = subst (λ (x : Sent). Holds q (Told Connect x d ∷ h)) same (connect_holds q h d);
      orders = none_orders (Told Connect sent d ∷ h) (none_connected h sent d);
      slots = none_kept new q (Told Connect sent d ∷ h) is (none_connected h sent d);
      named = subst (λ (x : Sent). IsNamed (session_for (Some x)) new.id) same tt;
    }

-- ---- How many there are.

pub counted : (a b c d : Bool) (h : History) → a ≡ is_live (session_of 1 h) → b ≡ is_live (session_of 2 h) → c ≡ is_live (session_of 3 h) → d ≡ is_live (session_of 4 h)
    → one_if a + one_if b + one_if c + one_if d ≡ live_count h
counted a b c d h first second third fourth = rw (first, second, third, fourth) refl

pub least_is : (a b c : Bool) (h : History) → a ≡ is_live (session_of 1 h) → b ≡ is_live (session_of 2 h) → c ≡ is_live (session_of 3 h)
    → (if not a then 1 else (if not b then 2 else (if not c then 3 else 4))) ≡ free_id h
least_is a b c h first second third = rw (first, second, third) refl

-- ---- One session among the others.

by_id : (P : ℕ → Type 0) (id i : ℕ) (b : Bool) → (i == id) ≡ b → P id → ((i : ℕ) → i ≢ id → P i) → P i
by_id P id i true is own others = subst P (sym (eqb-true i id is)) own
by_id P id i false is own others = others i (λ e. false≢true (sym is ∙ eq-eqb i id e))

-- What holds of one id, and of all others, holds of each.
pub of_each : (P : ℕ → Type 0) (id : ℕ) → P id → ((i : ℕ) → i ≢ id → P i) → (i : ℕ) → P i
of_each P id own others i = by_id P id i (i == id) refl own others

other_way : (id i : ℕ) (b : Bool) → (id == i) ≡ b → i ≢ id → b ≡ false
other_way id i true is ne = absurd (ne (sym (eqb-true id i is)))
other_way id i false is ne = refl

pub is_other : (id i : ℕ) → i ≢ id → (id == i) ≡ false
is_other id i ne = other_way id i (id == i) refl ne

-- ---- What is asked of a session.

asked_open : (a : SessionRequest) → stage.Open ≡ stage_for (asked_of a)
asked_open (Data bytes) = refl
asked_open Beat = refl
asked_open UpdateKey = refl
asked_open UpdateAll = refl
asked_open (Measure op) = refl
asked_open End = refl

-- The session of each id with the record.
record_of : (q : ReqSetup) (h : History) (f : Free) (id : ℕ) (a : SessionRequest) → List ℕ
record_of q h f id a = sealed_next q.psk (session_of id h) (inner_for (session_of id h) a) f.pad

steps_with : (q : ReqSetup) (h : History) (f : Free) (d : Draw) (id : ℕ) (a : SessionRequest) (i : ℕ)
    → session_of i (Told (command_at id a) (sent_for q h f id a) d ∷ h)
    ≡ (if id == i then when_live (session_of i h) (Asked (asked_of a) (inner_for (session_of id h) a) (record_of q h f id a)) else session_of i h)
unfolding sent_for session_of record_of
steps_with q h f d id (Data bytes) i = refl
steps_with q h f d id Beat i = refl
steps_with q h f d id UpdateKey i = refl
steps_with q h f d id UpdateAll i = refl
steps_with q h f d id (Measure op) i = refl
steps_with q h f d id End i = refl

waits_with : (q : ReqSetup) (h : History) (f : Free) (id : ℕ) (a : SessionRequest) (i : ℕ) → waits_for i (Some (sent_for q h f id a)) ≡ (if id == i then ForRecord (asked_of a) else Rests)
unfolding sent_for
waits_with q h f id a i = refl

names : (q : ReqSetup) (h : History) (f : Free) (id : ℕ) (a : SessionRequest) → session_for (Some (sent_for q h f id a)) ≡ Some id
unfolding sent_for
names q h f id a = refl

ordered_with : (q : ReqSetup) (h : History) (f : Free) (d : Draw) (id : ℕ) (a : SessionRequest) (i : ℕ) → Good Rests (session_of i h)
    → IsInOrder (Some (sent_for q h f id a)) i (session_of i (Told (command_at id a) (sent_for q h f id a) d ∷ h))
ordered_with q h f d id a i good =
    let all = either_good (id == i) (ForRecord (asked_of a)) Rests _ (session_of i h) (asked_good (asked_of a) (inner_for (session_of id h) a) (record_of q h f id a) (session_of i h) (asked_open a) good) good in
    let now = subst (Good (if id == i then ForRecord (asked_of a) else Rests)) (sym (steps_with q h f d id a i)) all in
    record { ordered = now.0; fits = subst (λ (w : Waits). FitsWaits w (session_of i (Told (command_at id a) (sent_for q h f id a) d ∷ h))) (sym (waits_with q h f id a i)) now.1 }

-- While nothing is outstanding, all sessions rest.
pub resting : (h : History) (i : ℕ) → outstanding h ≡ None → IsInOrder (outstanding h) i (session_of i h) → Good Rests (session_of i h)
resting h i none o = (o.ordered, subst (λ (w : Option Sent). FitsWaits (waits_for i w) (session_of i h)) none o.fits)

others_with : (q : ReqSetup) (h : History) (f : Free) (d : Draw) (id : ℕ) (a : SessionRequest) (i : ℕ) → i ≢ id → session_of i (Told (command_at id a) (sent_for q h f id a) d ∷ h) ≡ session_of i h
others_with q h f d id a i ne =
    steps_with q h f d id a i
    ∙ ap (λ (b : Bool). if b then when_live (session_of i h) (Asked (asked_of a) (inner_for (session_of id h) a) (record_of q h f id a)) else session_of i h) (is_other id i ne)

module _ (old new : Sessions) (q : ReqSetup) (h : History) (f : Free) (d : Draw) (id : ℕ) (a : SessionRequest) where
  done_to : (sent : Sent) → StandsFor old q h → outstanding h ≡ None → asks false q h (command_at id a) f d ≡ Adds (Told (command_at id a) sent d)
      → session_of id (Told (command_at id a) sent d ∷ h) ≡ asked q.psk (session_of id h) a f.pad
      → IsSlotOf (slot_of new id) q.psk (asked q.psk (session_of id h) a f.pad) → ((i : ℕ) → i ≢ id → slot_of new i ≡ slot_of old i) → new.id ≡ id
      → StandsFor new q (Told (command_at id a) sent d ∷ h)
  done_to sent stands none adds steps own others named =
      let is = entries.asked false q h (command_at id a) f d (Told (command_at id a) sent d) adds in
      let same : sent_for q h f id a ≡ sent = told_sent (command_at id a) (sent_for q h f id a) sent d (sym (made q h f d id a) ∙ is.1) in
      record {
        holds = told_holds q h (command_at id a) f d sent is.0 is.1 stands.holds;
        orders = λ i. subst (λ (x : Sent). IsInOrder (Some x) i (session_of i (Told (command_at id a) x d ∷ h))) same (ordered_with q h f d id a i (resting h i none (stands.orders i)));
        slots = of_each (λ i. IsSlotOf (slot_of new i) q.psk (session_of i (Told (command_at id a) sent d ∷ h))) id
            (subst (IsSlotOf (slot_of new id) q.psk) (sym steps) own)
            (λ i ne. subst (λ (x : Slot). IsSlotOf x q.psk (session_of i (Told (command_at id a) sent d ∷ h))) (sym (others i ne))
            (subst (IsSlotOf (slot_of old i) q.psk) (sym (subst (λ (x : Sent). session_of i (Told (command_at id a) x d ∷ h) ≡ session_of i h) same (others_with q h f d id a i ne))) (stands.slots i)));
        named = subst (λ (x : Sent). IsNamed (session_for (Some x)) new.id) same (subst (λ (o : Option ℕ). IsNamed o new.id) (sym (names q h f id a)) named);
      }

-- ---- Faults.

-- The tests before that of the session do not hold, and that one does.
nowhere_tests : (busy away dead x y z : Bool) → busy ≡ false → away ≡ false → dead ≡ true
    → first_of_tests (
    (false, fault.Worn) ∷ (false, fault.NothingToRetry) ∷ (busy, fault.Busy) ∷ (away, fault.NotConnected) ∷ (dead, fault.NoSuchSession) ∷ (false, fault.SessionLimit)
    ∷ (x, fault.NotNegotiated) ∷ (false, fault.BadSummary) ∷ (y, fault.KeySpent) ∷ (z, fault.TooLong) ∷ [])
    ≡ Some fault.NoSuchSession
nowhere_tests busy away dead x y z b a e = rw (b, a, e) refl

nowhere_fault : (q : ReqSetup) (h : History) (f : Free) (id : ℕ) (a : SessionRequest) → outstanding h ≡ None → is_negotiated (phase_of h) ≡ true → is_live (session_of id h) ≡ false
    → command_fault false q h (command_at id a) f ≡ Some fault.NoSuchSession
unfolding command_fault
nowhere_fault q h f id (Data bytes) o n l =
    nowhere_tests (is_some (outstanding h)) (not (is_negotiated (phase_of h))) (not (is_live (session_of id h))) (lacks (session_terms (session_of id h)) (command_at id (Data bytes))) (is_spent (session_of id h) (command_at id (Data bytes))) (is_long (Data bytes)) (ap is_some o) (ap not n) (ap not l)
nowhere_fault q h f id Beat o n l =
    nowhere_tests (is_some (outstanding h)) (not (is_negotiated (phase_of h))) (not (is_live (session_of id h))) (lacks (session_terms (session_of id h)) (command_at id Beat)) (is_spent (session_of id h) (command_at id Beat)) false (ap is_some o) (ap not n) (ap not l)
nowhere_fault q h f id UpdateKey o n l =
    nowhere_tests (is_some (outstanding h)) (not (is_negotiated (phase_of h))) (not (is_live (session_of id h))) (lacks (session_terms (session_of id h)) (command_at id UpdateKey)) (is_spent (session_of id h) (command_at id UpdateKey)) false (ap is_some o) (ap not n) (ap not l)
nowhere_fault q h f id UpdateAll o n l =
    nowhere_tests (is_some (outstanding h)) (not (is_negotiated (phase_of h))) (not (is_live (session_of id h))) (lacks (session_terms (session_of id h)) (command_at id UpdateAll)) (is_spent (session_of id h) (command_at id UpdateAll)) false (ap is_some o) (ap not n) (ap not l)
nowhere_fault q h f id (Measure op) o n l =
    nowhere_tests (is_some (outstanding h)) (not (is_negotiated (phase_of h))) (not (is_live (session_of id h))) (lacks (session_terms (session_of id h)) (command_at id (Measure op))) (is_spent (session_of id h) (command_at id (Measure op))) false (ap is_some o) (ap not n) (ap not l)
nowhere_fault q h f id End o n l =
    nowhere_tests (is_some (outstanding h)) (not (is_negotiated (phase_of h))) (not (is_live (session_of id h))) (lacks (session_terms (session_of id h)) (command_at id End)) (is_spent (session_of id h) (command_at id End)) false (ap is_some o) (ap not n) (ap not l)

nowhere : (q : ReqSetup) (h : History) (f : Free) (d : Draw) (id : ℕ) (a : SessionRequest) → outstanding h ≡ None → is_negotiated (phase_of h) ≡ true → is_live (session_of id h) ≡ false
    → asks false q h (command_at id a) f d ≡ Fails fault.NoSuchSession
unfolding asks
nowhere q h f d id a o n l = ap (asks_by q h (command_at id a) f d) (nowhere_fault q h f id a o n l)

fails_as : (q : ReqSetup) (h : History) (f : Free) (d : Draw) (id : ℕ) (a : SessionRequest) (b : Bool) (o : Option AskFault) (cause : CommandFault) → outstanding h ≡ None → is_negotiated (phase_of h) ≡ true
    → is_live (session_of id h) ≡ b → ask_fault (session_of id h) a ≡ o → (if not b then Some fault.NoSuchSession else option_map command_fault_of o) ≡ Some cause
    → asks false q h (command_at id a) f d ≡ Fails cause
fails_as q h f d id a false o cause none phase live by is = nowhere q h f d id a none phase live ∙ ap (λ (c : CommandFault). Fails c) (same_Some fault.NoSuchSession cause is)
fails_as q h f d id a true None cause none phase live by is = absurd (none-some cause is)
fails_as q h f d id a true (Some own) cause none phase live by is =
    subst (LeadsBy q h f d id a) by (ask_is_command q h f d id a none phase live) ∙ ap (λ (c : CommandFault). Fails c) (same_Some (command_fault_of own) cause is)

-- ---- A command.

unfaulted : (b : Bool) (o : Option AskFault) → (if not b then Some fault.NoSuchSession else option_map command_fault_of o) ≡ None → (b ≡ true) × (o ≡ None)
unfaulted false o is = absurd (none-some fault.NoSuchSession (sym is))
unfaulted true None is = (refl, refl)
unfaulted true (Some own) is = absurd (none-some (command_fault_of own) (sym is))

-- The epochs of a session are below the limit of a history.
pub few_epochs : (h : History) (id : ℕ) → length h < 2 ^ 64 - 1 → response_epoch (session_of id h) < 2 ^ 64 - 1
few_epochs h id short = let s = sessions h id in omega (arith, s.1, short)

pub told_to : (old new : Sessions) (q : ReqSetup) (h : History) (f : Free) (d : Draw) (id : ℕ) (a : SessionRequest) (pad : List ℕ) → f.pad ≡ pad → StandsFor old q h → outstanding h ≡ None → is_negotiated (phase_of h) ≡ true
    → IsAskedOf q.psk (session_of id h) a pad (slot_of new id) (Ok tt) → ((i : ℕ) → i ≢ id → slot_of new i ≡ slot_of old i) → new.id ≡ id
    → IsToldTo q h (command_at id a) f d (Ok tt) new
told_to old new q h f d id a pad padded stands none phase asked_is others named =
    let free = unfaulted (is_live (session_of id h)) (ask_fault (session_of id h) a) asked_is.0 in
    let leads = subst (LeadsBy q h f d id a) free.1 (ask_is_command q h f d id a none phase free.0) in
    let own = subst (λ (p : List ℕ). IsSlotOf (slot_of new id) q.psk (asked q.psk (session_of id h) a p)) (sym padded) asked_is.1 in
    (leads.0, leads.1, done_to old new q h f d id a leads.0 stands none leads.1 leads.2 own others named)

pub failed_to : (old new : Sessions) (q : ReqSetup) (h : History) (f : Free) (d : Draw) (id : ℕ) (a : SessionRequest) (pad : List ℕ) (cause : CommandFault) → StandsFor old q h → outstanding h ≡ None → is_negotiated (phase_of h) ≡ true
    → IsAskedOf q.psk (session_of id h) a pad (slot_of new id) (Err cause) → ((i : ℕ) → i ≢ id → slot_of new i ≡ slot_of old i) → new.id ≡ old.id
    → IsToldTo q h (command_at id a) f d (Err cause) new
failed_to old new q h f d id a pad cause stands none phase asked_is others named = (
  fails_as q h f d id a (is_live (session_of id h)) (ask_fault (session_of id h) a) cause none phase refl refl asked_is.0,
  record {
    holds = stands.holds;
    orders = stands.orders;
    slots = of_each (λ i. IsSlotOf (slot_of new i) q.psk (session_of i h)) id asked_is.1 (λ i ne. subst (λ (x : Slot). IsSlotOf x q.psk (session_of i h)) (sym (others i ne)) (stands.slots i));
    named = subst (IsNamed (session_for (outstanding h))) (sym named) stands.named;
  },
)
