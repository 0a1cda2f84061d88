-- Messages in the clear that touch no session, or that refuse PSK_EXCHANGE.
use Rattle.std.proofs.Common.{refl, ◌≡◌, ◌≢◌, ◌∙◌, ℕ, List, [], ◌∷◌, false, Bool, Option, Some, None, ap, sym, subst, eq-eqb, inl, inr}
use Rattle.std.specs.Prelude.{drop, if◌then◌else◌, Ok}
use Rattle.requester_core.proofs.SessionsAsked.{is_other, of_each}
use Rattle.requester_core.proofs.SessionsBegun.{at_begun, clear_orders}
use Rattle.requester_core.specs.Hearing.{ClosesSession}
use Rattle.requester_core.specs.SessionSteps.{ClearPasses, MeasurePasses}
use Rattle.requester_core.specs.Sessions.{IsNamed, StandsFor, session_begun, session_for, slot_of}
use Rattle.requester_core.specs.Slot.{IsSlotOf}
use Rattle.requester_core.specs.declared.in_sessions.sessions.Sessions.{Sessions}
use Rattle.requester_core.specs.declared.in_sessions.slot.Slot.{Slot}
use Rattle.requester_core.specs.declared.in_sessions.slot.Slot.TheVariants as slot
use Rattle.requester_machine.proofs.ClearLeads.{ClearLeads, clear_leads}
use Rattle.requester_machine.proofs.ClearLeads.ClearLeads.{ByCaps, ByChoice, ByExchange, ByGet, ByLarge, ByMeasured, ByRefusal, BySend, ByStop, ByVersion}
use Rattle.requester_machine.proofs.Entries as entries
use Rattle.requester_machine.proofs.Heard.{Heard, IsTaken, heard}
use Rattle.requester_machine.proofs.HoldsClear.{clear_holds}
use Rattle.requester_machine.proofs.HoldsTold.{told_holds, told_sent}
use Rattle.requester_machine.proofs.MadeOrder.{rests}
use Rattle.requester_machine.proofs.Steps.{Good}
use Rattle.requester_machine.specs.Asking.Outcome.{Adds}
use Rattle.requester_machine.specs.ClearAnswers.{clear_led}
use Rattle.requester_machine.specs.Commands.{Free}
use Rattle.requester_machine.specs.Hearing.{hears}
use Rattle.requester_machine.specs.History.{Entry, History, Led, connection_terms, outstanding}
use Rattle.requester_machine.specs.History.Entry.{Told, TookClear, TookRecord}
use Rattle.requester_machine.specs.Message.{Aim, Sent, asked_in}
use Rattle.requester_machine.specs.Message.Command.{Measure}
use Rattle.requester_machine.specs.Order.{FitsWaits, IsOrdered, waits_aim}
use Rattle.requester_machine.specs.Order.Waits.{Rests}
use Rattle.requester_machine.specs.Sending.{request_sent}
use Rattle.requester_machine.specs.Session.{session_of, with_sent}
use Rattle.requester_machine.specs.Setup.{ReqSetup}
use Rattle.spdm_grammar.specs.Message.{RequestMessage}
use Rattle.spdm_grammar.specs.Message.RequestMessage.{GetMeasurements, NegotiateAlgorithms}
use Rattle.spdm_machine.specs.Keys.{Draw}
use Rattle.requester_machine.proofs.MadeOrder.{sent_by_size}

-- ---- What a message in the clear leads to.

module _ (q : ReqSetup) (h : History) (f : Free) (aim : Aim) (m : List ℕ) (asked : RequestMessage) (kept : ℕ) (named : IsNamed (session_begun asked) kept) where
  as_led : (x led : Led) → led ≡ x → IsNamed (session_for x.next) kept → IsNamed (session_for led.next) kept
  as_led x led is p = subst (λ (l : Led). IsNamed (session_for l.next) kept) (sym is) p

  -- The session that is named stays so.
  named_next : (led : Led) → ClearLeads q h f aim m asked led → IsNamed (session_for led.next) kept
  named_next led (ByRefusal code is) = as_led _ led is tt
  named_next led (ByLarge handle may is) = as_led _ led is named
  named_next led (BySend handle number aims more is) = as_led _ led is named
  named_next led (ByGet handle number before c aims none more is) = as_led _ led is named
  named_next led (ByStop why negotiation is) = as_led _ led is tt
  named_next led (ByVersion answer was is) = as_led _ led is tt
  named_next led (ByCaps caps theirs answer common offer was read shared offered short is) =
      as_led _ led is (sent_by_size (λ (x : Sent). IsNamed (session_for (Some x)) kept) common h (NegotiateAlgorithms offer) tt tt)
  named_next led (ByChoice offer answer was is) = as_led _ led is tt
  named_next led (ByMeasured op answer finish was is) = as_led _ led is tt
  named_next led (ByExchange exchange answer rsp was read right is) = as_led _ led is (subst (λ (r : RequestMessage). IsNamed (session_begun r) kept) was named)

-- The session that is named is that of the request.
named_of : (x : Sessions) (q : ReqSetup) (h : History) (sent : Sent) (request : RequestMessage) → StandsFor x q h → outstanding h ≡ Some sent → asked_in sent.aim ≡ Some request → IsNamed (session_begun request) x.id
named_of x q h sent request stands waits asks = subst (λ (o : Option ℕ). IsNamed o x.id) (ap session_for waits ∙ at_begun sent.aim request asks) stands.named

module _ (q : ReqSetup) (h : History) (f : Free) (owner : Bool) (tag : ℕ) (body : List ℕ) (d : Draw) (led : Led) (adds : hears q h owner tag body f d ≡ Adds (TookClear tag (drop 1 body) led d)) where
  abbrev entry : Entry
  entry = TookClear tag (drop 1 body) led d

  not_opened : (x : Led) (id : ℕ) (sealed inner : List ℕ) → entry ≡ TookRecord tag id sealed inner x d → ⊥
  not_opened x id sealed inner is = absurd (cc is)

  entered_by : Heard q h tag body f d entry → IsTaken q h tag body f d entry
  entered_by (inl t) = t
  entered_by (inr o) = absurd (not_opened _ o.1.id (drop 1 body) _ o.1.is)

  pub entered : IsTaken q h tag body f d entry
  entered = entered_by (heard q h owner tag body f d entry adds)

  led_is : entered.led ≡ led
  led_is = sym (led_of entered.led entered.is)
    where
      led_of : (x : Led) → entry ≡ TookClear tag (drop 1 body) x d → led ≡ x
      led_of x is = cc is

  leads : clear_led q h f entered.sent.aim entered.asked (drop 1 body) ≡ Ok led
  leads = entered.leads ∙ ap (λ (l : Led). Ok l) led_is

  by_what : ClearLeads q h f entered.sent.aim (drop 1 body) entered.asked led
  by_what = clear_leads q h f entered.sent.aim (drop 1 body) entered.asked led entered.asks leads

  -- The sessions whose slots have the sessions after the message are those of the history with it.
  stands_by : (old new : Sessions) → StandsFor old q h → new.id ≡ old.id → ((i : ℕ) → IsSlotOf (slot_of new i) q.psk (session_of i (entry ∷ h))) → StandsFor new q (entry ∷ h)
  stands_by old new stands named slots = record {
    holds = clear_holds q h f tag (drop 1 body) led d entered.sent entered.asked entered.waits entered.asks by_what stands.holds;
    orders = λ i. clear_orders q h f tag (drop 1 body) led d entered.sent entered.asked i entered.waits entered.asks leads (stands.orders i);
    slots = slots;
    named = subst (IsNamed (session_for led.next)) (sym named) (named_next q h f entered.sent.aim (drop 1 body) entered.asked old.id (named_of old q h entered.sent entered.asked stands entered.waits entered.asks) led by_what);
  }

  pub closed_stands : (old new : Sessions) (of : ℕ) → ClosesSession of h entry → StandsFor old q h → slot_of new of ≡ slot.Empty → ((i : ℕ) → i ≢ of → slot_of new i ≡ slot_of old i) → new.id ≡ old.id → StandsFor new q (entry ∷ h)
  closed_stands old new of closes stands own others named =
      stands_by old new stands named
      (of_each (λ i. IsSlotOf (slot_of new i) q.psk (session_of i (entry ∷ h))) of
      (subst (λ (y : Slot). IsSlotOf y q.psk (session_of of (entry ∷ h))) (sym own) (closes of ∙ ap (λ (b : Bool). if b then [] else session_of of h) (eq-eqb of of refl)))
      (λ i ne. subst (λ (y : Slot). IsSlotOf y q.psk (session_of i (entry ∷ h))) (sym (others i ne))
      (subst (IsSlotOf (slot_of old i) q.psk) (sym (closes i ∙ ap (λ (b : Bool). if b then [] else session_of i h) (is_other of i ne))) (stands.slots i))))

pub clear_passes : ClearPasses
clear_passes x q h f owner tag body d led adds keeps stands =
    stands_by q h f owner tag body d led adds x x stands refl (λ i. subst (IsSlotOf (slot_of x i) q.psk) (sym (keeps i)) (stands.slots i))

-- ---- GET_MEASUREMENTS in the clear.

measure_steps : (h : History) (op : ℕ) (sent : Sent) (d : Draw) (i : ℕ) → session_of i (Told (Measure None op) sent d ∷ h) ≡ with_sent i (Some sent) (session_of i h)
unfolding session_of
measure_steps h op sent d i = refl

pub measure_passes : MeasurePasses
measure_passes x q h f d op sent adds stands =
    let is = entries.asked false q h (Measure None op) f d (Told (Measure None op) sent d) adds in
    let common = (connection_terms h).common in
    let same : request_sent common h (GetMeasurements op) ≡ sent = told_sent (Measure None op) (request_sent common h (GetMeasurements op)) sent d is.1 in
    let quiet = λ (i : ℕ). measure_steps h op sent d i ∙ subst (λ (y : Sent). with_sent i (Some y) (session_of i h) ≡ session_of i h) same
    (sent_by_size (λ (y : Sent). with_sent i (Some y) (session_of i h) ≡ session_of i h) common h (GetMeasurements op) refl refl) in
    record {
      holds = told_holds q h (Measure None op) f d sent is.0 is.1 stands.holds;
      orders = λ i.
          let o = stands.orders i in
          let good : Good Rests (session_of i h) = rests Good q h i (Measure None op) f is.0 refl (o.ordered, o.fits) in
          let fits = subst (λ (y : Sent). FitsWaits (waits_aim i y.aim) (session_of i h)) same (sent_by_size (λ (y : Sent). FitsWaits (waits_aim i y.aim) (session_of i h)) common h (GetMeasurements op) good.1 good.1) in
          record { ordered = subst IsOrdered (sym (quiet i)) good.0; fits = subst (FitsWaits (waits_aim i sent.aim)) (sym (quiet i)) fits };
      slots = λ i. subst (IsSlotOf (slot_of x i) q.psk) (sym (quiet i)) (stands.slots i);
      named = subst (λ (y : Sent). IsNamed (session_for (Some y)) x.id) same (sent_by_size (λ (y : Sent). IsNamed (session_for (Some y)) x.id) common h (GetMeasurements op) tt tt);
    }
