-- In a made history the session whose PSK_EXCHANGE is answered has the right verify data.
use Rattle.std.proofs.Common.{refl, ◌≡◌, ◌∙◌, ℕ, List, [], ◌∷◌, true, false, Bool, ap, sym, subst, inl, inr, eq-eqb}
use Rattle.std.specs.Prelude.{◌==◌, Ok, if◌then◌else◌}
use Rattle.std.proofs.lemmas.Bool.{false≢true}
use Rattle.spdm_grammar.specs.Message.{RequestMessage, ExchangeMessage, ExchangeRspMessage}
use Rattle.spdm_grammar.specs.Message.RequestMessage.{PskExchange}
use Rattle.spdm_grammar.specs.Message.ResponseMessage.{PskExchangeRsp}
use Rattle.spdm_grammar.specs.Requests.{canonical_request}
use Rattle.spdm_grammar.specs.Responses.{response_reading}
use Rattle.spdm_machine.specs.Terms.{hash_len, terms_of}
use Rattle.spdm_machine.specs.Keys.{Draw}
use Rattle.spdm_machine.specs.Bodies.{clear_body}
use Rattle.transcript.specs.Transcripts.{Negotiation}
use Rattle.requester_machine.specs.Setup.{ReqSetup}
use Rattle.requester_machine.specs.AcceptedLaws.{IsAccepted, AcceptedSessionIsVerified}
use Rattle.requester_machine.specs.Answers.{answer_verify}
use Rattle.requester_machine.specs.ClearAnswers.{has_summary, reading_of}
use Rattle.requester_machine.specs.Commands.{Free}
use Rattle.requester_machine.specs.Does.{body_chosen}
use Rattle.requester_machine.specs.History.{History, Led, negotiation_of}
use Rattle.requester_machine.specs.History.Effect.{Answers}
use Rattle.requester_machine.specs.History.Entry.{TookClear}
use Rattle.requester_machine.specs.Message.{Sent}
use Rattle.requester_machine.specs.Message.Ask.{AskFinish}
use Rattle.requester_machine.specs.Session.{Steps, session_of, when_live}
use Rattle.requester_machine.specs.Session.Step.{Started, Accepted, Asked}
use Rattle.requester_machine.specs.UnderWay.{IsAwaited}
use Rattle.requester_machine.proofs.ClearLeads.{IsExchanged, clear_leads, exchanged}
use Rattle.requester_machine.proofs.Heard.{Heard, heard}
use Rattle.requester_machine.proofs.Holds.{awaited}
use Rattle.requester_machine.specs.Holds.{Holds, Waits}
use Rattle.requester_machine.proofs.HoldsMade.{made_holds}

-- The session that was begun, with its answer and PSK_FINISH.
abbrev finishing : Negotiation → (exchange answer inner sealed : List ℕ) → Steps
finishing n exchange answer inner sealed = Asked AskFinish inner sealed ∷ Accepted answer ∷ Started n exchange ∷ []

finish_steps : (n : Negotiation) (exchange answer inner sealed : List ℕ) (s : Steps) (b : Bool) → b ≡ true → s ≡ Started n exchange ∷ []
    → (if b then when_live (if b then when_live s (Accepted answer) else s) (Asked AskFinish inner sealed) else (if b then when_live s (Accepted answer) else s)) ≡ finishing n exchange answer inner sealed
finish_steps n exchange answer inner sealed s true is began = ap (λ (x : Steps). when_live (when_live x (Accepted answer)) (Asked AskFinish inner sealed)) began
finish_steps n exchange answer inner sealed s false is began = absurd (false≢true is)

-- What was checked is what it stands with.
with_check : (q : ReqSetup) (h : History) (exchange : ExchangeMessage) (answer inner sealed : List ℕ) (rsp : ExchangeRspMessage) (n : Negotiation) (s : Steps)
    → n ≡ negotiation_of h → s ≡ Started n (canonical_request (PskExchange exchange)) ∷ [] → reading_of h (PskExchange exchange) answer ≡ Ok (PskExchangeRsp rsp)
    → rsp.verify ≡ answer_verify q.psk (when_live s (Accepted answer)) → IsAccepted q h exchange answer (finishing n (canonical_request (PskExchange exchange)) answer inner sealed)
with_check q h exchange answer inner sealed rsp n s under began reads right = record {
  negotiation = under;
  exchange_is = refl;
  answer_is = refl;
  rsp = rsp;
  reads = subst (λ (x : Negotiation). response_reading (hash_len (terms_of x)) (has_summary (PskExchange exchange)) answer ≡ Ok (PskExchangeRsp rsp)) (sym under) reads;
  right = right ∙ ap (λ (x : Steps). answer_verify q.psk (when_live x (Accepted answer))) began;
}

behind : (q : ReqSetup) (h : History) (f : Free) (tag : ℕ) (m : List ℕ) (led : Led) (d : Draw) (exchange : ExchangeMessage) (answer : List ℕ) (sent : Sent) (asked : RequestMessage)
    → IsAwaited q h (PskExchange exchange) → IsExchanged q h f sent.aim m asked led exchange answer → IsAccepted q h exchange answer (session_of exchange.req_id (TookClear tag m led d ∷ h))
unfolding session_of
behind q h f tag m led d exchange answer sent asked a x =
    subst (λ (l : Led). IsAccepted q h exchange answer (session_of exchange.req_id (TookClear tag m l d ∷ h))) (sym x.is)
    (subst (IsAccepted q h exchange answer)
    (sym (finish_steps (negotiation_of h) (canonical_request (PskExchange exchange)) answer _ _ (session_of exchange.req_id h) (exchange.req_id == exchange.req_id) (eq-eqb exchange.req_id exchange.req_id refl) a.1))
    (with_check q h exchange answer _ _ x.rsp (negotiation_of h) (session_of exchange.req_id h) refl a.1 x.read.reads x.right))

by_heard : (q : ReqSetup) (h : History) (f : Free) (tag : ℕ) (m : List ℕ) (led : Led) (d : Draw) (exchange : ExchangeMessage) (answer : List ℕ)
    → Heard q h tag (clear_body m) f d (TookClear tag m led d) → Holds q h → led.effect ≡ Answers (PskExchange exchange) answer → IsAccepted q h exchange answer (session_of exchange.req_id (TookClear tag m led d ∷ h))
by_heard q h f tag m led d exchange answer (inl t) k brings =
    let same : led ≡ t.led = cc (t.is) in
    let x = exchanged q h f t.sent.aim m t.asked t.led exchange answer (clear_leads q h f t.sent.aim m t.asked t.led t.asks t.leads) (ap (λ (l : Led). l.effect) (sym same) ∙ brings) in
    let a = subst (IsAwaited q h) x.asks (awaited q h t.sent.content t.sent.aim t.asked t.asks (subst (Waits q h) t.waits k.waits)) in
    subst (λ (l : Led). IsAccepted q h exchange answer (session_of exchange.req_id (TookClear tag m l d ∷ h))) (sym same) (behind q h f tag m t.led d exchange answer t.sent t.asked a x)
by_heard q h f tag m led d exchange answer (inr o) k brings = absurd (false≢true (sym o.0))

pub accepted_session : AcceptedSessionIsVerified
accepted_session q h tag m led d exchange answer made brings =
    by_heard q h (body_chosen q h d) tag m led d exchange answer (heard q h false tag (clear_body m) (body_chosen q h d) d (TookClear tag m led d) made.0) (made_holds q h made.1) brings
