-- What a requester does with a clear message is a run of moves, and keeps what its history keeps.
use Rattle.std.proofs.Common.{◌≡◌, ◌⊎◌, ℕ, List, [], ◌∷◌, ◌++◌, Bool, true, false, cond, Option, Some, None, ◌==◌, refl, sym, ap, ◌∙◌, inl, inr, subst, eqb-true, eq-eqb, true≢false}
use Rattle.std.specs.Prelude.{Ok}
use Rattle.spdm_grammar.specs.Message.ResponseMessage.{PskExchangeRsp}
use Rattle.requester_machine.specs.ClearAnswers.Carried.{Whole}
use Rattle.spdm_agreement.specs.Reading.{First}
use Rattle.requester_machine.specs.Answers.{goes_on, with_answer}
use Rattle.requester_machine.specs.Answers as asked
use Rattle.requester_machine.specs.ClearAnswers.{carried_by, reading_of}
use Rattle.requester_machine.specs.History.{History, Effect, Led, outstanding, negotiation_of, negotiation_after}
use Rattle.requester_machine.specs.History.Effect.{Answers, Refuses}
use Rattle.requester_machine.specs.History.Entry.{TookClear}
use Rattle.requester_machine.specs.Message.{Sent, asked_in}
use Rattle.requester_machine.specs.Message.Ask.{AskFinish}
use Rattle.requester_machine.specs.RequesterLog.{answer_made, clear_check, aim_check, carried_check, read_check, answer_check}
use Rattle.requester_machine.specs.Sending.{finish_sent}
use Rattle.requester_machine.specs.Records.{sealed_next}
use Rattle.requester_machine.specs.Session.{Step, Steps, session_of, stage_of, t2_of, when_live, with_sent, after_clear, request_next}
use Rattle.requester_machine.specs.Session.Step.{Started, Accepted, Asked}
use Rattle.spdm_grammar.specs.Message.{RequestMessage, ExchangeMessage, ExchangeRspMessage}
use Rattle.spdm_grammar.specs.Message.RequestMessage.{PskExchange}
use Rattle.spdm_grammar.specs.Requests.{canonical_request, request_in}
use Rattle.spdm_machine.specs.Keys.{Draw, context_of}
use Rattle.requester_machine.specs.Setup.{ReqSetup}
use Rattle.spdm_machine.specs.TagLog.{Act, Log}
use Rattle.spdm_machine.specs.Terms.{hash_len, terms_of}
use Rattle.transcript.specs.Transcripts.{Negotiation}
use Rattle.spdm_agreement.specs.Marks as marks
use Rattle.spdm_agreement.specs.Marks.{Served, Text}
use Rattle.spdm_agreement.specs.Story.{Past, asked_from, asked_first, clear_marks}
use Rattle.spdm_agreement.proofs.Requester.ExchangeMoves.{accepts, sound_first, draw_told, finish_inner}
use Rattle.spdm_agreement.proofs.Requester.Comparisons.{check_leads, clear_is_check}
use Rattle.spdm_agreement.proofs.Requester.ClearLeads.{NextClear, IsPlain, IsAside}
use Rattle.spdm_agreement.proofs.Requester.Counts.{HeldWell, held_past}
use Rattle.spdm_agreement.proofs.Requester.HistoryInvariant.{AskedKept, IsStarted, WaitingKept, ClearKept, waiting_text, is_held, clear_kept, kept_clear, other_kept, none_in}
use Rattle.spdm_agreement.proofs.Requester.Waiting.{clear_aim, stays_clear}
use Rattle.spdm_agreement.proofs.Requester.SealAndHear.{at}
use Rattle.spdm_agreement.proofs.Worlds.EndSteps.{OwnLeads}
use Rattle.spdm_agreement.proofs.Messages.Beginnings as sessions
use Rattle.spdm_agreement.proofs.Messages.VerifyData.{verify_stands}

-- ---- What is neither PSK_EXCHANGE_RSP nor in a session.

plain_marks : (h : History) (effect : Effect) → IsPlain effect → clear_marks h effect ≡ []
plain_marks h (Answers (PskExchange exchange) answer) p = absurd p
plain_marks h (Answers _ answer) p = refl
plain_marks h _ p = refl

plain_made : (psk : List ℕ) (h : History) (effect : Effect) (next : Option Sent) → IsPlain effect → answer_made psk h effect next ≡ []
plain_made psk h (Answers (PskExchange exchange) answer) next p = absurd p
plain_made psk h (Answers _ answer) next p = refl
plain_made psk h _ next p = refl

refused_by : (b : Bool) (s : Steps) → (cond b [] s ≡ s) ⊎ (cond b [] s ≡ [])
refused_by true s = inr refl
refused_by false s = inl refl

plain_after : (id : ℕ) (effect : Effect) (s : Steps) → IsPlain effect → (after_clear id effect s ≡ s) ⊎ (after_clear id effect s ≡ [])
plain_after id (Answers (PskExchange exchange) answer) s p = absurd p
plain_after id (Answers _ answer) s p = inl refl
plain_after id (Refuses (PskExchange exchange)) s p = refused_by (exchange.req_id == id) s
plain_after id (Refuses _) s p = inl refl
plain_after id _ s p = inl refl

next_stays : (id : ℕ) (asked : RequestMessage) (effect : Effect) (next : Option Sent) (s : Steps) → NextClear asked effect next → (with_sent id next s ≡ s) × (waiting_text id next ≡ None)
next_stays id asked effect None s k = (refl, refl)
next_stays id asked effect (Some x) s k = (stays_clear id x.aim x.content s k.1, none_in id x.aim x.content k.1)

pub aside_leads : (prior : Past) → (q : ReqSetup) (h : History) (asked : RequestMessage) (m : List ℕ) (led : Led) (served : List Served) (log : Log) → IsAside asked led
    → OwnLeads (sessions.reading_of q.psk) (at (asked_from prior q h) served log) (at (clear_marks h led.effect ++ asked_from prior q h) served ((answer_made q.psk h led.effect led.next ++ clear_check q h m (outstanding h)) ++ log))
aside_leads prior q h asked m led served log a =
    let r = sessions.reading_of q.psk in
    subst (λ (l : List marks.Asked). OwnLeads r (at (asked_from prior q h) served log) (at (l ++ asked_from prior q h) served ((answer_made q.psk h led.effect led.next ++ clear_check q h m (outstanding h)) ++ log))) (sym (plain_marks h led.effect a.effect))
    (subst (λ (l : List Act). OwnLeads r (at (asked_from prior q h) served log) (at (asked_from prior q h) served ((l ++ clear_check q h m (outstanding h)) ++ log))) (sym (plain_made q.psk h led.effect led.next a.effect))
    (check_leads r (asked_from prior q h) served (clear_check q h m (outstanding h)) log (clear_is_check q h m (outstanding h))))

-- Before a clear message no session waits for a record.
clear_waits : (id : ℕ) (h : History) (x : Sent) (asked : RequestMessage) → outstanding h ≡ Some x → asked_in x.aim ≡ Some asked → waiting_text id (outstanding h) ≡ None
clear_waits id h x asked waits asks = ap (waiting_text id) waits ∙ none_in id x.aim x.content (clear_aim x.aim asked asks)

rests : (prior : Past) → (q : ReqSetup) (h : History) (x : Sent) (asked : RequestMessage) (id : ℕ) → outstanding h ≡ Some x → asked_in x.aim ≡ Some asked → AskedKept prior q h → is_held (session_of id h) ≡ true → HeldWell q.psk (session_of id h) (asked_from prior q h) None
rests prior q h x asked id waits asks kept held = subst (λ (w : Option Text). HeldWell q.psk (session_of id h) (asked_from prior q h) w) (clear_waits id h x asked waits asks) (kept.held id held)

-- What waited for the answer to a clear request.
pub waited : (prior : Past) → (q : ReqSetup) (h : History) (x : Sent) (asked : RequestMessage) → outstanding h ≡ Some x → asked_in x.aim ≡ Some asked → AskedKept prior q h → ClearKept prior q h (Some asked)
waited prior q h x asked waits asks kept =
    subst (λ (o : Option RequestMessage). ClearKept prior q h o) asks
    (kept_clear prior q h x.content x.aim (clear_aim x.aim asked asks) (subst (λ (o : Option Sent). WaitingKept prior q h o) waits kept.waiting))

started_same : (prior : Past) → (q : ReqSetup) (h h' : History) (exchange : ExchangeMessage) → asked_from prior q h' ≡ asked_from prior q h → negotiation_of h' ≡ negotiation_of h → session_of exchange.req_id h' ≡ session_of exchange.req_id h → IsStarted prior q h exchange → IsStarted prior q h' exchange
started_same prior q h h' exchange m n s k = record {
  draw = k.draw;
  number = k.number;
  bytes = k.bytes;
  waits = ap marks.waiting m ∙ k.waits;
  context = k.context ∙ ap (λ (x : Negotiation). context_of (terms_of x).choice.hash k.draw) (sym n);
  session = s ∙ k.session ∙ ap (λ (x : Negotiation). Started x (canonical_request (PskExchange exchange)) ∷ []) (sym n);
  negotiated = ap sessions.is_negotiated n ∙ k.negotiated;
  read = ap (λ (x : Negotiation). request_in (hash_len (terms_of x)) (canonical_request (PskExchange exchange))) n ∙ k.read;
}

clear_same : (prior : Past) → (q : ReqSetup) (h h' : History) (asked : RequestMessage) → asked_from prior q h' ≡ asked_from prior q h → negotiation_of h' ≡ negotiation_of h → ((id : ℕ) → session_of id h' ≡ session_of id h) → ClearKept prior q h (Some asked) → ClearKept prior q h' (Some asked)
clear_same prior q h h' (PskExchange exchange) m n s k = started_same prior q h h' exchange m n (s exchange.req_id) k
clear_same prior q h h' _ m n s k = tt

aside_held : (psk : List ℕ) (id : ℕ) (asked : RequestMessage) (led : Led) (s : Steps) (m : List marks.Asked) → IsAside asked led → (is_held s ≡ true → HeldWell psk s m None) → is_held (with_sent id led.next (after_clear id led.effect s)) ≡ true
    → HeldWell psk (with_sent id led.next (after_clear id led.effect s)) m (waiting_text id led.next)
aside_held psk id asked led s m a k held =
    let n = next_stays id asked led.effect led.next (after_clear id led.effect s) a.next in
    subst (λ (w : Option Text). HeldWell psk (with_sent id led.next (after_clear id led.effect s)) m w) (sym n.1)
    (elim (plain_after id led.effect s a.effect) [
      | inl same ↦ (let e : with_sent id led.next (after_clear id led.effect s) ≡ s = n.0 ∙ same in subst (λ (x : Steps). HeldWell psk x m None) (sym e) (k (subst (λ (x : Steps). is_held x ≡ true) e held)))
      | inr gone ↦ (let e : with_sent id led.next (after_clear id led.effect s) ≡ [] = n.0 ∙ gone in absurd (true≢false (sym (subst (λ (x : Steps). is_held x ≡ true) e held))))
    ])

aside_waits : (prior : Past) → (q : ReqSetup) (h : History) (tag : ℕ) (m : List ℕ) (led : Led) (d : Draw) (asked : RequestMessage) (next : Option Sent) → led.next ≡ next → NextClear asked led.effect next → ClearKept prior q h (Some asked) → WaitingKept prior q (TookClear tag m led d ∷ h) next
unfolding session_of
aside_waits prior q h tag m led d asked None is k w = tt
aside_waits prior q h tag m led d asked (Some x) is k w = clear_kept prior q (TookClear tag m led d ∷ h) x.content x.aim k.1 (elim k.2 [
  | inl same ↦ subst (λ (o : Option RequestMessage). ClearKept prior q (TookClear tag m led d ∷ h) o) (sym same.1)
      (clear_same prior q h (TookClear tag m led d ∷ h) asked
      (ap (λ (e : Effect). clear_marks h e ++ asked_from prior q h) same.0)
      (ap (λ (e : Effect). negotiation_after e (negotiation_of h)) same.0)
      (λ id. ap (λ (o : Option Sent). with_sent id o (after_clear id led.effect (session_of id h))) is ∙ stays_clear id x.aim x.content (after_clear id led.effect (session_of id h)) k.1 ∙ ap (λ (e : Effect). after_clear id e (session_of id h)) same.0) w)
  | inr other ↦ other_kept prior q (TookClear tag m led d ∷ h) (asked_in x.aim) other.0
])

pub aside_kept : (prior : Past) → (q : ReqSetup) (h : History) (tag : ℕ) (m : List ℕ) (led : Led) (d : Draw) (x : Sent) (asked : RequestMessage) → outstanding h ≡ Some x → asked_in x.aim ≡ Some asked → IsAside asked led → AskedKept prior q h → AskedKept prior q (TookClear tag m led d ∷ h)
unfolding session_of
aside_kept prior q h tag m led d x asked waits asks a kept = record {
  held = λ id held. subst (λ (l : List marks.Asked). HeldWell q.psk (with_sent id led.next (after_clear id led.effect (session_of id h))) (l ++ asked_from prior q h) (waiting_text id led.next)) (sym (plain_marks h led.effect a.effect))
      (aside_held q.psk id asked led (session_of id h) (asked_from prior q h) a (λ k. rests prior q h x asked id waits asks kept k) held);
  waiting = aside_waits prior q h tag m led d asked led.next refl a.next (waited prior q h x asked waits asks kept);
}

-- ---- PSK_EXCHANGE_RSP.

abbrev exchange_led : ReqSetup → History → ExchangeMessage → (answer pad : List ℕ) → Led
exchange_led q h exchange answer pad = goes_on (Answers (PskExchange exchange) answer) (finish_sent q h exchange.req_id (with_answer h exchange answer) pad)

pub exchanged_leads : (prior : Past) → (q : ReqSetup) (h : History) (exchange : ExchangeMessage) (answer : List ℕ) (rsp : ExchangeRspMessage) (served : List Served) (log : Log) → IsStarted prior q h exchange
    → reading_of h (PskExchange exchange) answer ≡ Ok (PskExchangeRsp rsp) → rsp.verify ≡ asked.answer_verify q.psk (with_answer h exchange answer)
    → OwnLeads (sessions.reading_of q.psk) (at (asked_from prior q h) served log)
    (at (clear_marks h (Answers (PskExchange exchange) answer) ++ asked_from prior q h) served ((answer_made q.psk h (Answers (PskExchange exchange) answer) (Some (finish_sent q h exchange.req_id (with_answer h exchange answer) [])) ++ answer_check q.psk (with_answer h exchange answer) rsp ∷ []) ++ log))
exchanged_leads prior q h exchange answer rsp served log k reads right =
    let r = sessions.reading_of q.psk in
    let s = with_answer h exchange answer in
    let e : s ≡ Accepted answer ∷ Started (negotiation_of h) (canonical_request (PskExchange exchange)) ∷ [] = ap (λ (x : Steps). when_live x (Accepted answer)) k.session in
    let v = verify_stands _ _ answer rsp reads in
    let own = Accepted answer ∷ Started (negotiation_of h) (canonical_request (PskExchange exchange)) ∷ [] in
    let sound : r.is_sound (asked_first own) ≡ true = sound_first q.psk (asked_first own) (PskExchange exchange) rsp.verify v.0 k.negotiated k.read v.1 v.2 (right ∙ ap (asked.answer_verify q.psk) e) in
    let draws : r.requester_draw (asked_first own) ≡ k.draw.number = draw_told q.psk (asked_first own) exchange k.draw k.read k.context k.number k.bytes in
    accepts q.psk s (exchange.req_id, k.draw.number) (asked_from prior q h) served log rsp (ap stage_of e) (ap request_next e) (ap (λ (x : Steps). r.is_sound (asked_first x)) e ∙ sound) k.waits (ap (λ (x : Steps). r.requester_draw (asked_first x)) e ∙ draws) right

pub exchange_checked : (q : ReqSetup) (h : History) (m : List ℕ) (x : Sent) (exchange : ExchangeMessage) (answer : List ℕ) (place : ℕ) (rsp : ExchangeRspMessage) → outstanding h ≡ Some x → asked_in x.aim ≡ Some (PskExchange exchange)
    → carried_by q h m x.aim ≡ Whole answer place → reading_of h (PskExchange exchange) answer ≡ Ok (PskExchangeRsp rsp)
    → clear_check q h m (outstanding h) ≡ answer_check q.psk (with_answer h exchange answer) rsp ∷ []
exchange_checked q h m x exchange answer place rsp waits asks carries reads =
    ap (clear_check q h m) waits ∙ ap (aim_check q h m x.aim) asks ∙ ap (carried_check q h (PskExchange exchange)) carries ∙ ap (read_check q h (PskExchange exchange) answer) reads

abbrev shaken : Bool → Steps → List ℕ → Step → Steps
shaken c s answer step = cond c (when_live (cond c (when_live s (Accepted answer)) s) step) (cond c (when_live s (Accepted answer)) s)

accepted_held : (psk : List ℕ) (s : Steps) (answer inner sealed : List ℕ) (m : List marks.Asked) (t : First) (b : Text) (c : Bool) (n : Negotiation) (bytes : List ℕ) → (c ≡ true → s ≡ Started n bytes ∷ []) → (is_held s ≡ true → HeldWell psk s m None)
    → is_held (shaken c s answer (Asked AskFinish inner sealed)) ≡ true → HeldWell psk (shaken c s answer (Asked AskFinish inner sealed)) (marks.Asked.Accepted t ∷ m) (cond c (Some b) None)
accepted_held psk s answer inner sealed m t b true n bytes e k held =
    absurd (true≢false (sym (subst (λ (x : Steps). is_held (when_live (when_live x (Accepted answer)) (Asked AskFinish inner sealed)) ≡ true) (e refl) held)))
accepted_held psk s answer inner sealed m t b false n bytes e k held = held_past psk [] (t2_of s) s m (marks.Asked.Accepted t ∷ m) None refl refl (k held)

finish_session : (c : Bool) (s : Steps) (answer : List ℕ) (psk : List ℕ) (pad : List ℕ) (n : Negotiation) (bytes : List ℕ) → c ≡ true → s ≡ Started n bytes ∷ []
    → shaken c s answer (Asked AskFinish (finish_inner psk (when_live s (Accepted answer))) (sealed_next psk (when_live s (Accepted answer)) (finish_inner psk (when_live s (Accepted answer))) pad))
    ≡ Asked AskFinish (finish_inner psk (Accepted answer ∷ Started n bytes ∷ [])) (sealed_next psk (Accepted answer ∷ Started n bytes ∷ []) (finish_inner psk (Accepted answer ∷ Started n bytes ∷ [])) pad) ∷ Accepted answer ∷ Started n bytes ∷ []
finish_session c s answer psk pad n bytes is e =
    ap (λ (x : Bool). shaken x s answer (Asked AskFinish (finish_inner psk (when_live s (Accepted answer))) (sealed_next psk (when_live s (Accepted answer)) (finish_inner psk (when_live s (Accepted answer))) pad))) is
    ∙ ap (λ (x : Steps). when_live (when_live x (Accepted answer)) (Asked AskFinish (finish_inner psk (when_live x (Accepted answer))) (sealed_next psk (when_live x (Accepted answer)) (finish_inner psk (when_live x (Accepted answer))) pad))) e

pub exchanged_kept : (prior : Past) → (q : ReqSetup) (h : History) (tag : ℕ) (m : List ℕ) (exchange : ExchangeMessage) (answer pad : List ℕ) (d : Draw) (x : Sent) → outstanding h ≡ Some x → asked_in x.aim ≡ Some (PskExchange exchange) → IsStarted prior q h exchange → AskedKept prior q h
    → AskedKept prior q (TookClear tag m (exchange_led q h exchange answer pad) d ∷ h)
unfolding session_of
exchanged_kept prior q h tag m exchange answer pad d x waits asks k kept =
    let n = negotiation_of h in
    let bytes = canonical_request (PskExchange exchange) in
    let s = session_of exchange.req_id h in
    let own = finish_session (exchange.req_id == exchange.req_id) s answer q.psk pad n bytes (eq-eqb exchange.req_id exchange.req_id refl) k.session in
    record {
      held = λ id held. accepted_held q.psk (session_of id h) answer _ _ (asked_from prior q h) (asked_first (with_answer h exchange answer)) _ (exchange.req_id == id) n bytes
          (λ e. ap (λ (i : ℕ). session_of i h) (sym (eqb-true exchange.req_id id e)) ∙ k.session) (λ held. rests prior q h x (PskExchange exchange) id waits asks kept held) held;
      waiting = record {
        negotiation = n;
        exchange = bytes;
        answer = answer;
        sealed = sealed_next q.psk (Accepted answer ∷ Started n bytes ∷ []) (finish_inner q.psk (Accepted answer ∷ Started n bytes ∷ [])) pad;
        session = own;
        waits = ap (λ (y : Steps). Some (asked_first y)) (ap (λ (y : Steps). when_live y (Accepted answer)) k.session ∙ refl) ∙ ap (λ (y : Steps). Some (asked_first y)) (sym own);
      };
    }
