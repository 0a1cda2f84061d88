-- What a requester does with a body that came is a run of moves, and keeps what its history keeps.
use Rattle.std.proofs.Common.{◌≡◌, ℕ, List, [], ◌∷◌, ◌++◌, Option, Some, refl, sym, ap, ◌∙◌, inl, inr, subst, arith}
use Rattle.requester_machine.specs.Answers.{with_answer}
use Rattle.requester_machine.specs.Asking.Outcome.{Adds}
use Rattle.requester_machine.specs.Commands.{Free}
use Rattle.requester_machine.specs.Does.{IsMade, body_chosen}
use Rattle.requester_machine.specs.History.{History, Effect, Led, outstanding}
use Rattle.requester_machine.specs.History.Effect.{Answers}
use Rattle.requester_machine.specs.History.Entry.{TookClear}
use Rattle.requester_machine.specs.Message.{Sent}
use Rattle.requester_machine.specs.Records.{answer_inner}
use Rattle.requester_machine.specs.RequesterLog.{answer_made, clear_check, answer_check, sent_made, sealed_check}
use Rattle.requester_machine.specs.Sending.{finish_sent}
use Rattle.requester_machine.specs.Session.{Steps, session_of, stage_of, when_live}
use Rattle.requester_machine.specs.Session.Step.{Took}
use Rattle.requester_machine.proofs.MadeOrder.{in_order}
use Rattle.spdm_grammar.specs.Message.{RequestMessage}
use Rattle.spdm_grammar.specs.Message.RequestMessage.{PskExchange}
use Rattle.spdm_machine.specs.Keys.{Draw}
use Rattle.spdm_machine.specs.Sessions.{is_past_handshake}
use Rattle.requester_machine.specs.Setup.{ReqSetup}
use Rattle.spdm_machine.specs.TagLog.{Act, Log}
use Rattle.spdm_agreement.specs.Marks as marks
use Rattle.spdm_agreement.specs.Marks.{Served, next_asked}
use Rattle.spdm_agreement.specs.Story.{Past, asked_from, clear_marks, taken_marks}
use Rattle.spdm_agreement.proofs.Requester.ClearMoves.{aside_leads, aside_kept, waited, exchanged_leads, exchanged_kept, exchange_checked}
use Rattle.spdm_agreement.proofs.Requester.Entries.{IsTookClear, IsTookRecord}
use Rattle.spdm_agreement.proofs.Requester.HistoryInvariant.{AskedKept, ClearKept, held_open}
use Rattle.spdm_agreement.proofs.Requester.Waiting.{waited_for}
use Rattle.spdm_agreement.proofs.Requester.RecordsTaken.{waits_aimed, record_leads, held_at}
use Rattle.spdm_agreement.proofs.Requester.SealAndHear.{at}
use Rattle.spdm_agreement.proofs.Worlds.EndSteps.{OwnLeads, AskedStep, AskedReady}
use Rattle.spdm_agreement.proofs.Messages.Beginnings.{reading_of}
use Rattle.requester_machine.proofs.Steps.{asked_stage}
use Rattle.spdm_agreement.proofs.Requester.RecordMoves.{asks_past}
use Rattle.requester_machine.proofs.Choosing.{body_pad}

clear_next : (h : History) (effect : Effect) (m : List marks.Asked) → next_asked (clear_marks h effect ++ m) ≡ next_asked m
clear_next h (Answers (PskExchange exchange) answer) m = refl
clear_next h (Answers _ answer) m = refl
clear_next h _ m = refl

-- ---- A clear message.

abbrev ClearLeads : (prior : Past) → ReqSetup → History → List Served → Log → List ℕ → Effect → Option Sent → List Act → Type 0
ClearLeads prior q h served log m effect next checks = OwnLeads (reading_of q.psk) (at (asked_from prior q h) served log) (at (clear_marks h effect ++ asked_from prior q h) served ((answer_made q.psk h effect next ++ checks) ++ log))

pub clear_leads : (prior : Past) → (q : ReqSetup) (h : History) (d : Draw) (served : List Served) (log : Log) (body m : List ℕ) (led : Led) → IsTookClear q h (body_chosen q h d) body m led → AskedKept prior q h
    → ClearLeads prior q h served log m led.effect led.next (clear_check q h m (outstanding h))
clear_leads prior q h d served log body m led k kept = elim k.led_to [
  | inr a ↦ aside_leads prior q h k.asked m led served log a
  | inl x ↦ subst (λ (l : Led). ClearLeads prior q h served log m l.effect l.next (clear_check q h m (outstanding h))) (sym x.is)
      (subst (λ (c : List Act). ClearLeads prior q h served log m (Answers (PskExchange x.exchange) x.answer) (Some (finish_sent q h x.exchange.req_id (with_answer h x.exchange x.answer) (body_chosen q h d).pad)) c)
      (sym (exchange_checked q h m k.sent x.exchange x.answer x.place x.rsp k.waits (k.asks ∙ ap (λ (r : RequestMessage). Some r) x.asks) x.carries x.reads))
      (subst (λ (pad : List ℕ). ClearLeads prior q h served log m (Answers (PskExchange x.exchange) x.answer) (Some (finish_sent q h x.exchange.req_id (with_answer h x.exchange x.answer) pad)) (answer_check q.psk (with_answer h x.exchange x.answer) x.rsp ∷ [])) (sym (body_pad q h d))
      (exchanged_leads prior q h x.exchange x.answer x.rsp served log (subst (λ (r : RequestMessage). ClearKept prior q h (Some r)) x.asks (waited prior q h k.sent k.asked k.waits k.asks kept)) x.reads x.right)))
]

pub clear_kept : (prior : Past) → (q : ReqSetup) (h : History) (d d' : Draw) (tag : ℕ) (body m : List ℕ) (led : Led) → IsTookClear q h (body_chosen q h d) body m led → AskedKept prior q h → AskedKept prior q (TookClear tag m led d' ∷ h)
clear_kept prior q h d d' tag body m led k kept = elim k.led_to [
  | inr a ↦ aside_kept prior q h tag m led d' k.sent k.asked k.waits k.asks a kept
  | inl x ↦ subst (λ (l : Led). AskedKept prior q (TookClear tag m l d' ∷ h)) (sym x.is)
      (exchanged_kept prior q h tag m x.exchange x.answer (body_chosen q h d).pad d' k.sent k.waits (k.asks ∙ ap (λ (r : RequestMessage). Some r) x.asks) (subst (λ (r : RequestMessage). ClearKept prior q h (Some r)) x.asks (waited prior q h k.sent k.asked k.waits k.asks kept)) kept)
]

pub clear_step : (prior : Past) → (q : ReqSetup) (h : History) (served : List Served) (log : Log) (d d' : Draw) (tag : ℕ) (body m : List ℕ) (led : Led) → AskedReady prior (AskedKept prior) q h served log d → IsTookClear q h (body_chosen q h d) body m led → AskedStep prior (AskedKept prior) q h served log body d (Adds (TookClear tag m led d'))
clear_step prior q h served log d d' tag body m led ready k = record {
  leads = clear_leads prior q h d served log body m led k ready.kept;
  keeps = λ reached. clear_kept prior q h d d' tag body m led k ready.kept;
  draws = (let e = clear_next h led.effect (asked_from prior q h) in let f = ready.fresh in omega arith);
}

-- ---- A record.

abbrev TookLeads : (prior : Past) → ReqSetup → History → List Served → Log → Steps → (sealed inner : List ℕ) → Led → Option Sent → Type 0
TookLeads prior q h served log s sealed inner led o =
    OwnLeads (reading_of q.psk) (at (asked_from prior q h) served log) (at (taken_marks (stage_of s) q s o sealed inner led ++ asked_from prior q h) served ((sent_made q.psk (when_live s (Took sealed inner led.effect)) led.next ++ sealed_check q h sealed o) ++ log))

pub took_leads : (prior : Past) → (q : ReqSetup) (h : History) (f : Free) (served : List Served) (log : Log) (body : List ℕ) (of : ℕ) (sealed inner : List ℕ) (led : Led) → IsTookRecord q h f body of sealed inner led → IsMade q h → AskedKept prior q h
    → TookLeads prior q h served log (session_of of h) sealed inner led (outstanding h)
took_leads prior q h f served log body of sealed inner led k made kept =
    let s = session_of of h in
    let waits = waits_aimed h k.sent of k.ask k.waits k.aims in
    let w = waited_for q h f body of sealed inner led k made in
    let g = (asked_stage k.ask s (in_order q h of made).ordered w.1).0 in
    subst (λ (i : List ℕ). TookLeads prior q h served log s sealed i led (outstanding h)) (sym k.holds)
    (subst (λ (o : Option Sent). TookLeads prior q h served log s sealed (answer_inner q.psk s k.ask sealed) led o) (sym waits)
    (record_leads prior q h f of served log k.sent k.ask sealed led waits kept w.0 g (λ n. held_open prior q h of made (held_at s w.0 (ap is_past_handshake g ∙ asks_past k.ask n))) k.opened k.led_to))
