-- What a message in the clear does to the sessions.
use Rattle.std.proofs.Common.{refl, ◌≡◌, ◌∙◌, ◌∷◌, ℕ, List, true, Some, None, ap, sym}
use Rattle.std.proofs.lemmas.Bool.{false≢true}
use Rattle.std.proofs.lemmas.Option.{none-some, same_Some}
use Rattle.requester_machine.proofs.ClearLeads.{ClearLeads}
use Rattle.requester_machine.proofs.ClearLeads.ClearLeads.{ByCaps, ByChoice, ByExchange, ByGet, ByLarge, ByMeasured, ByRefusal, BySend, ByStop, ByVersion}
use Rattle.requester_machine.proofs.Entries.{request_sent-asks}
use Rattle.requester_machine.specs.Answers.{goes_on}
use Rattle.requester_machine.specs.Commands.{Free}
use Rattle.requester_machine.specs.History.{Effect, History, Led, negotiates}
use Rattle.requester_machine.specs.History.Effect.{Refuses}
use Rattle.requester_machine.specs.History.Entry.{TookClear}
use Rattle.requester_machine.specs.Message.{Aim, Content, Sent, asked_in}
use Rattle.requester_machine.specs.Message.Aim.{ByChunks, ForChunk, InSession, Plain}
use Rattle.requester_machine.specs.Message.Content.{Clear}
use Rattle.requester_machine.specs.Session.{Steps, after_clear, session_of, with_aim}
use Rattle.requester_machine.specs.Setup.{ReqSetup}
use Rattle.spdm_grammar.specs.Message.{RequestMessage}
use Rattle.spdm_grammar.specs.Message.RequestMessage.{NegotiateAlgorithms, PskExchange}
use Rattle.spdm_machine.specs.Keys.{Draw}
use Rattle.requester_core.specs.Hearing.{KeepsSessions}

-- ---- Nothing is sent.

no_next : {A : Type 0} (led : Led) (effect : Effect) (x : Sent) → led ≡ goes_on effect x → led.next ≡ None → A
no_next led effect x is none = absurd (none-some x (sym none ∙ ap (λ (l : Led). l.next) is))

-- A request of the negotiation is not PSK_EXCHANGE.
stays : (request : RequestMessage) (id : ℕ) (s : Steps) → negotiates request ≡ true → s ≡ after_clear id (Refuses request) s
stays (PskExchange exchange) id s is = absurd (false≢true is)
stays _ id s is = refl

pub rests_sessions : (q : ReqSetup) (h : History) (f : Free) (aim : Aim) (m : List ℕ) (request : RequestMessage) (led : Led) (tag : ℕ) (d : Draw) → ClearLeads q h f aim m request led → led.next ≡ None
    → (id : ℕ) → session_of id (TookClear tag m led d ∷ h) ≡ after_clear id (Refuses request) (session_of id h)
unfolding session_of
rests_sessions q h f aim m request led tag d (ByRefusal code is) none id = ap (λ (l : Led). session_of id (TookClear tag m l d ∷ h)) is
rests_sessions q h f aim m request led tag d (ByLarge handle may is) none id = no_next led _ _ is none
rests_sessions q h f aim m request led tag d (BySend handle number was more is) none id = no_next led _ _ is none
rests_sessions q h f aim m request led tag d (ByGet handle number before c was whole more is) none id = no_next led _ _ is none
rests_sessions q h f aim m request led tag d (ByStop why was is) none id = ap (λ (l : Led). session_of id (TookClear tag m l d ∷ h)) is ∙ stays request id (session_of id h) was
rests_sessions q h f aim m request led tag d (ByVersion answer was is) none id = no_next led _ _ is none
rests_sessions q h f aim m request led tag d (ByCaps caps theirs answer common offer was read common_is offered short is) none id = no_next led _ _ is none
rests_sessions q h f aim m request led tag d (ByChoice offer answer was is) none id =
    ap (λ (l : Led). session_of id (TookClear tag m l d ∷ h)) is ∙ ap (λ (r : RequestMessage). after_clear id (Refuses r) (session_of id h)) (sym was)
rests_sessions q h f aim m request led tag d (ByMeasured op answer finish was is) none id =
    ap (λ (l : Led). session_of id (TookClear tag m l d ∷ h)) is ∙ ap (λ (r : RequestMessage). after_clear id (Refuses r) (session_of id h)) (sym was)
rests_sessions q h f aim m request led tag d (ByExchange exchange answer rsp was read right is) none id = no_next led _ _ is none

-- ---- A further message in the clear is sent.

not_of_session : (id : ℕ) (aim : Aim) (content : Content) (request : RequestMessage) (s : Steps) → asked_in aim ≡ Some request → with_aim id aim content s ≡ s
not_of_session id (Plain asked) content request s is = refl
not_of_session id (ByChunks asked handle number) content request s is = refl
not_of_session id (ForChunk asked handle number before) content request s is = refl
not_of_session id (InSession of ask) content request s is = absurd (none-some request is)

its_content : (led : Led) (effect : Effect) (x sent : Sent) (bytes : List ℕ) → led ≡ goes_on effect x → led.next ≡ Some sent → sent.content ≡ Clear bytes → x.content ≡ Clear bytes
its_content led effect x sent bytes is next clear = ap (λ (s : Sent). s.content) (same_Some x sent (sym (ap (λ (l : Led). l.next) is) ∙ next)) ∙ clear

pub sends_sessions : (q : ReqSetup) (h : History) (f : Free) (aim : Aim) (m : List ℕ) (request : RequestMessage) (led : Led) (sent : Sent) (bytes : List ℕ) (tag : ℕ) (d : Draw) → ClearLeads q h f aim m request led → led.next ≡ Some sent → sent.content ≡ Clear bytes
    → KeepsSessions h (TookClear tag m led d)
unfolding session_of
sends_sessions q h f aim m request led sent bytes tag d (ByRefusal code is) next clear id = absurd (none-some sent (sym (ap (λ (l : Led). l.next) is) ∙ next))
sends_sessions q h f aim m request led sent bytes tag d (ByLarge handle may is) next clear id = ap (λ (l : Led). session_of id (TookClear tag m l d ∷ h)) is
sends_sessions q h f aim m request led sent bytes tag d (BySend handle number was more is) next clear id = ap (λ (l : Led). session_of id (TookClear tag m l d ∷ h)) is
sends_sessions q h f aim m request led sent bytes tag d (ByGet handle number before c was whole more is) next clear id = ap (λ (l : Led). session_of id (TookClear tag m l d ∷ h)) is
sends_sessions q h f aim m request led sent bytes tag d (ByStop why was is) next clear id = absurd (none-some sent (sym (ap (λ (l : Led). l.next) is) ∙ next))
sends_sessions q h f aim m request led sent bytes tag d (ByVersion answer was is) next clear id = ap (λ (l : Led). session_of id (TookClear tag m l d ∷ h)) is
sends_sessions q h f aim m request led sent bytes tag d (ByCaps caps theirs answer common offer was read common_is offered short is) next clear id =
    ap (λ (l : Led). session_of id (TookClear tag m l d ∷ h)) is ∙ not_of_session id _ _ _ (session_of id h) (request_sent-asks common h (NegotiateAlgorithms offer))
sends_sessions q h f aim m request led sent bytes tag d (ByChoice offer answer was is) next clear id = absurd (none-some sent (sym (ap (λ (l : Led). l.next) is) ∙ next))
sends_sessions q h f aim m request led sent bytes tag d (ByMeasured op answer finish was is) next clear id = absurd (none-some sent (sym (ap (λ (l : Led). l.next) is) ∙ next))
sends_sessions q h f aim m request led sent bytes tag d (ByExchange exchange answer rsp was read right is) next clear id = absurd (let no = its_content led _ _ sent bytes is next clear in cc no)
