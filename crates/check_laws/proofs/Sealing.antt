-- A record that a requester sends by itself is sealed as the next one of its session, with the padding that it chose.
use Rattle.std.proofs.Common.{◌≡◌, ◌+◌, ℕ, List, [], ◌∷◌, refl, sym, ap, ◌∙◌, subst, drop, Bool, false, Some, None, inl, inr, eq-eqb, cond}
use Rattle.requester_machine.proofs.ClearLeads.{ClearLeads, clear_leads}
use Rattle.requester_machine.proofs.ClearLeads.ClearLeads.{ByRefusal, ByLarge, BySend, ByGet, ByStop, ByVersion, ByCaps, ByChoice, ByMeasured, ByExchange}
use Rattle.requester_machine.proofs.Heard.{heard}
use Rattle.requester_machine.proofs.RecordLeads.{RecordLeads, record_leads}
use Rattle.requester_machine.proofs.RecordLeads.RecordLeads.{ByEnd, ByAnswer, ByUpdate, ByFirst, ByChunk}
use Rattle.requester_machine.specs.Answers.{with_answer}
use Rattle.requester_machine.specs.Asking.Outcome.{Adds}
use Rattle.requester_machine.specs.Commands.{Free}
use Rattle.requester_machine.specs.Hearing.{came_to, hears}
use Rattle.requester_machine.specs.History.{Effect, Entry, History, Led, next_handle, sent_in}
use Rattle.requester_machine.specs.History.Effect.{Grants, Nothing}
use Rattle.requester_machine.specs.History.Entry.{TookClear, TookRecord}
use Rattle.requester_machine.specs.InnerMessages.{Came, message_in, with_record}
use Rattle.requester_machine.specs.Message.{Aim, Ask, Sent}
use Rattle.requester_machine.specs.Message.Aim.{InSession}
use Rattle.requester_machine.specs.Message.Ask.{AskChunk, AskFinish, AskUpdate, AskVerify}
use Rattle.requester_machine.specs.Message.Content.{Sealed}
use Rattle.requester_machine.specs.Records.{sealed_next}
use Rattle.requester_machine.specs.Sending.{piece_sent, plain_sent, request_sent}
use Rattle.requester_machine.specs.Session.{Steps, after_clear, after_record, ends, session_of, when_live}
use Rattle.requester_machine.specs.Session.Step.{Took}
use Rattle.requester_machine.specs.Setup.{ReqSetup}
use Rattle.spdm_grammar.specs.Message.{RequestMessage}
use Rattle.spdm_grammar.specs.Message.RequestMessage.{NegotiateAlgorithms}
use Rattle.spdm_machine.specs.Keys.{Draw}
use Rattle.check_laws.specs.Padding.{session_asked}
use Rattle.requester_machine.specs.Owed.{sent_with}
use Rattle.capture_machine.proofs.HeardNext.{either_next, none_next, some_next}
use Rattle.requester_machine.specs.Owed.{with_next}

-- The message is what it would be with this padding, by the history without it.
abbrev pub IsOwn : (psk : List ℕ) → History → (pad : List ℕ) → Sent → Type 0
IsOwn psk bare pad sent = sent_with psk (session_of (session_asked sent.aim) bare) pad sent ≡ sent

-- A record of the session with this id.
sealed_own : (psk : List ℕ) (bare : History) (pad inner : List ℕ) (tag id : ℕ) (ask : Ask) (s : Steps) → session_of id bare ≡ s
    → IsOwn psk bare pad (record { tag = tag; content = Sealed (sealed_next psk s inner pad) inner pad; aim = InSession id ask })
sealed_own psk bare pad inner tag id ask s is =
    ap (λ (x : Steps). record { tag = tag; content = Sealed (sealed_next psk x inner pad) inner pad; aim = InSession id ask }) is

clear_own : (q : ReqSetup) (h : History) (f : Free) (tag : ℕ) (aim : Aim) (m : List ℕ) (asked : RequestMessage) (led : Led) (d : Draw) → ClearLeads q h f aim m asked led
    → (s : Sent) → led.next ≡ Some s → IsOwn q.psk (with_next None (TookClear tag m led d ∷ h)) f.pad s
unfolding session_of
clear_own q h f tag aim m asked led d (ByRefusal code is) = none_next (IsOwn q.psk (with_next None (TookClear tag m led d ∷ h)) f.pad) led.next (ap (λ (l : Led). l.next) is)
clear_own q h f tag aim m asked led d (ByLarge handle may is) = some_next (IsOwn q.psk (with_next None (TookClear tag m led d ∷ h)) f.pad) led.next _ (ap (λ (l : Led). l.next) is) refl
clear_own q h f tag aim m asked led d (BySend handle number aims last is) = some_next (IsOwn q.psk (with_next None (TookClear tag m led d ∷ h)) f.pad) led.next _ (ap (λ (l : Led). l.next) is) refl
clear_own q h f tag aim m asked led d (ByGet handle number before c aims none last is) = some_next (IsOwn q.psk (with_next None (TookClear tag m led d ∷ h)) f.pad) led.next _ (ap (λ (l : Led). l.next) is) refl
clear_own q h f tag aim m asked led d (ByStop why may is) = none_next (IsOwn q.psk (with_next None (TookClear tag m led d ∷ h)) f.pad) led.next (ap (λ (l : Led). l.next) is)
clear_own q h f tag aim m asked led d (ByVersion answer asks is) = some_next (IsOwn q.psk (with_next None (TookClear tag m led d ∷ h)) f.pad) led.next _ (ap (λ (l : Led). l.next) is) refl
clear_own q h f tag aim m asked led d (ByCaps caps theirs answer common offer asks read settled offers short is) =
    some_next (IsOwn q.psk (with_next None (TookClear tag m led d ∷ h)) f.pad) led.next (request_sent common h (NegotiateAlgorithms offer)) (ap (λ (l : Led). l.next) is)
    (either_next (IsOwn q.psk (with_next None (TookClear tag m led d ∷ h)) f.pad) _ (piece_sent common h (NegotiateAlgorithms offer) (next_handle h) 0) (plain_sent h (NegotiateAlgorithms offer)) refl refl)
clear_own q h f tag aim m asked led d (ByChoice offer answer asks is) = none_next (IsOwn q.psk (with_next None (TookClear tag m led d ∷ h)) f.pad) led.next (ap (λ (l : Led). l.next) is)
clear_own q h f tag aim m asked led d (ByMeasured op answer finish asks is) = none_next (IsOwn q.psk (with_next None (TookClear tag m led d ∷ h)) f.pad) led.next (ap (λ (l : Led). l.next) is)
clear_own q h f tag aim m asked led d (ByExchange exchange answer rsp asks read right is) =
    let here : session_of exchange.req_id (with_next None (TookClear tag m led d ∷ h)) ≡ with_answer h exchange answer =
    ap (λ (l : Led). after_clear exchange.req_id l.effect (session_of exchange.req_id h)) is ∙ ap (λ (b : Bool). cond b (with_answer h exchange answer) (session_of exchange.req_id h)) (eq-eqb exchange.req_id exchange.req_id refl) in
    some_next (IsOwn q.psk (with_next None (TookClear tag m led d ∷ h)) f.pad) led.next _ (ap (λ (l : Led). l.next) is)
    (sealed_own q.psk (with_next None (TookClear tag m led d ∷ h)) f.pad _ _ exchange.req_id AskFinish (with_answer h exchange answer) here)

-- The session after a record that does not end it.
record_here : (q : ReqSetup) (h : History) (tag id : ℕ) (ask : Ask) (sealed inner : List ℕ) (led : Led) (d : Draw) (effect : Effect) → led.effect ≡ effect → ends effect ≡ false
    → session_of id (with_next None (TookRecord tag id sealed inner led d ∷ h)) ≡ when_live (session_of id h) (Took sealed inner effect)
unfolding session_of
record_here q h tag id ask sealed inner led d effect is lives =
    ap (λ (b : Bool). cond b (after_record sealed inner led.effect (session_of id h)) (session_of id h)) (eq-eqb id id refl)
    ∙ ap (λ (e : Effect). after_record sealed inner e (session_of id h)) is ∙ ap (λ (b : Bool). cond b [] (when_live (session_of id h) (Took sealed inner effect))) lives

record_own : (q : ReqSetup) (h : History) (f : Free) (tag id : ℕ) (ask : Ask) (sealed : List ℕ) (led : Led) (d : Draw) → RecordLeads q h f (came_to q h id ask sealed) ask led
    → (s : Sent) → led.next ≡ Some s → IsOwn q.psk (with_next None (TookRecord tag id sealed (came_to q h id ask sealed).inner led d ∷ h)) f.pad s
record_own q h f tag id ask sealed led d (ByEnd over none) = none_next (IsOwn q.psk (with_next None (TookRecord tag id sealed (came_to q h id ask sealed).inner led d ∷ h)) f.pad) led.next none
record_own q h f tag id ask sealed led d (ByAnswer over updates brings none) = none_next (IsOwn q.psk (with_next None (TookRecord tag id sealed (came_to q h id ask sealed).inner led d ∷ h)) f.pad) led.next none
record_own q h f tag id ask sealed led d (ByUpdate all asks is) =
    let came : Came = came_to q h id ask sealed in
    let effect : Effect = Grants (AskUpdate all) (message_in came) in
    some_next (IsOwn q.psk (with_next None (TookRecord tag id sealed came.inner led d ∷ h)) f.pad) led.next _ (ap (λ (l : Led). l.next) is)
    (sealed_own q.psk (with_next None (TookRecord tag id sealed came.inner led d ∷ h)) f.pad _ _ id AskVerify (with_record came effect) (record_here q h tag id ask sealed came.inner led d effect (ap (λ (l : Led). l.effect) is) refl))
record_own q h f tag id ask sealed led d (ByFirst op handle follows is) =
    let came : Came = came_to q h id ask sealed in
    some_next (IsOwn q.psk (with_next None (TookRecord tag id sealed came.inner led d ∷ h)) f.pad) led.next _ (ap (λ (l : Led). l.next) is)
    (sealed_own q.psk (with_next None (TookRecord tag id sealed came.inner led d ∷ h)) f.pad _ _ id (AskChunk op handle 0 []) (with_record came Nothing) (record_here q h tag id ask sealed came.inner led d Nothing (ap (λ (l : Led). l.effect) is) refl))
record_own q h f tag id ask sealed led d (ByChunk op handle number before c asks none last is) =
    let came : Came = came_to q h id ask sealed in
    some_next (IsOwn q.psk (with_next None (TookRecord tag id sealed came.inner led d ∷ h)) f.pad) led.next _ (ap (λ (l : Led). l.next) is)
    (sealed_own q.psk (with_next None (TookRecord tag id sealed came.inner led d ∷ h)) f.pad _ _ id (AskChunk op c.handle (c.number + 1) (c ∷ before)) (with_record came Nothing) (record_here q h tag id ask sealed came.inner led d Nothing (ap (λ (l : Led). l.effect) is) refl))

pub heard_own : (q : ReqSetup) (h : History) (owner : Bool) (tag : ℕ) (body : List ℕ) (f : Free) (d : Draw) (e : Entry) → hears q h owner tag body f d ≡ Adds e → (s : Sent) → sent_in e ≡ Some s → IsOwn q.psk (with_next None (e ∷ h)) f.pad s
heard_own q h owner tag body f d e adds s is = elim (heard q h owner tag body f d e adds) [
  | inl taken ↦ by_entry (TookClear tag (drop 1 body) taken.led d) taken.is
      (clear_own q h f tag taken.sent.aim (drop 1 body) taken.asked taken.led d (clear_leads q h f taken.sent.aim (drop 1 body) taken.asked taken.led taken.asks taken.leads) s (sym (ap sent_in taken.is) ∙ is))
  | inr opened ↦ by_entry _ opened.1.is
      (record_own q h f tag opened.1.id opened.1.ask (drop 1 body) _ d (record_leads q h f (came_to q h opened.1.id opened.1.ask (drop 1 body)) opened.1.ask) s (sym (ap sent_in opened.1.is) ∙ is))
]
  where
    by_entry : (x : Entry) → e ≡ x → IsOwn q.psk (with_next None (x ∷ h)) f.pad s → IsOwn q.psk (with_next None (e ∷ h)) f.pad s
    by_entry x same own = subst (λ (y : Entry). IsOwn q.psk (with_next None (y ∷ h)) f.pad s) (sym same) own
