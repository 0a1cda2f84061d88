-- The numbers of the sessions of a made history are few, and so no key seals or takes too many records.
use Rattle.std.proofs.Common.{◌≡◌, ◌∙◌, ◌≤◌, ℕ, List, [], ◌∷◌, true, false, Bool, Option, Some, None, ap, sym, subst, inl, inr, arith}
use Rattle.std.specs.Prelude.{◌==◌, drop, if◌then◌else◌}
use Rattle.std.proofs.lemmas.Option.{none-some}
use Rattle.spdm_grammar.specs.Message.{RequestMessage}
use Rattle.spdm_machine.specs.Keys.{Draw}
use Rattle.spdm_machine.specs.Bodies.{clear_body, record_body}
use Rattle.requester_machine.specs.Setup.{ReqSetup}
use Rattle.requester_machine.specs.Commands.{Free}
use Rattle.requester_machine.specs.Does.{IsMade, command_chosen, body_chosen}
use Rattle.requester_machine.specs.Hearing.{came_to}
use Rattle.requester_machine.specs.History.{History, Entry, outstanding, sent_in}
use Rattle.requester_machine.specs.History.Entry.{Told, TookClear, TookRecord}
use Rattle.requester_machine.specs.InnerMessages.{inner_led, or_lost}
use Rattle.requester_machine.specs.Message.{Ask, Aim, Sent, asked_in}
use Rattle.requester_machine.specs.Message.Aim.{Plain, ByChunks, ForChunk, InSession}
use Rattle.requester_machine.specs.Message.Ask.{AskFinish, AskData, AskBeat, AskUpdate, AskVerify, AskMeasure, AskChunk, AskEnd}
use Rattle.requester_machine.specs.Order.{FitsWaits, Waits, waits_for, waits_aim, waits_asked, waiting_ask}
use Rattle.requester_machine.specs.Order.Waits.{Rests, ForExchange, ForRecord}
use Rattle.requester_machine.specs.Records.{asks_all}
use Rattle.requester_machine.specs.Session.{Steps, session_of, request_next, response_next}
use Rattle.requester_machine.specs.SpentLaws.{FewBy, FewFor, NumbersAreFew, TakenNumberIsFew, number_for}
use Rattle.requester_machine.specs.UnderWay.{IsOutstanding, IsSealed}
use Rattle.requester_machine.proofs.ClearLeads.{clear_leads}
use Rattle.requester_machine.proofs.Entries.{asked}
use Rattle.requester_machine.proofs.Few.{Few, none_few}
use Rattle.requester_machine.proofs.FewEntries.{told_few, clear_few, record_few}
use Rattle.requester_machine.proofs.Heard.{Heard, heard}
use Rattle.requester_machine.specs.Holds.{Holds}
use Rattle.requester_machine.specs.Holds as holds
use Rattle.requester_machine.proofs.HoldsMade.{made_holds}
use Rattle.requester_machine.proofs.MadeOrder.{in_order}
use Rattle.requester_machine.proofs.RecordLeads.{record_leads}

-- ---- A body.

pub waits_clear : (id : ℕ) (aim : Aim) (asked : RequestMessage) → asked_in aim ≡ Some asked → waits_aim id aim ≡ waits_asked id asked
waits_clear id (Plain request) asked is = (let same : request ≡ asked = cc is in ap (waits_asked id) same)
waits_clear id (ByChunks request handle number) asked is = (let same : request ≡ asked = cc is in ap (waits_asked id) same)
waits_clear id (ForChunk request handle number before) asked is = (let same : request ≡ asked = cc is in ap (waits_asked id) same)
waits_clear id (InSession of ask) asked is = absurd (cc is)

-- What the session of an id waits for by the outstanding message.
waits_as : (h : History) (id : ℕ) (sent : Sent) (w : Waits) → outstanding h ≡ Some sent → waits_aim id sent.aim ≡ w → Few (waits_for id (outstanding h)) (session_of id h) → Few w (session_of id h)
waits_as h id sent w out is few = subst (λ (x : Waits). Few x (session_of id h)) (ap (waits_for id) out ∙ is) few

abbrev FewEntry : History → ℕ → Entry → Type 0
FewEntry h id entry = Few (waits_for id (sent_in entry)) (session_of id (entry ∷ h))

heard_few : (q : ReqSetup) (h : History) (id tag : ℕ) (body : List ℕ) (f : Free) (d : Draw) (entry : Entry) → Heard q h tag body f d entry → Holds q h → Few (waits_for id (outstanding h)) (session_of id h) → FewEntry h id entry
unfolding session_of
heard_few q h id tag body f d entry (inl t) k few =
    subst (FewEntry h id) (sym t.is)
    (clear_few q h f t.sent.aim (drop 1 body) id t.asked t.led (clear_leads q h f t.sent.aim (drop 1 body) t.asked t.led t.asks t.leads)
    (waits_as h id t.sent (waits_asked id t.asked) t.waits (waits_clear id t.sent.aim t.asked t.asks) few))
heard_few q h id tag body f d entry (inr o) k few =
    let r = o.1 in
    let came = came_to q h r.id r.ask (drop 1 body) in
    let out : IsOutstanding q h r.sent.content (InSession r.id r.ask) = subst (IsOutstanding q h r.sent.content) r.aims (subst (holds.Waits q h) r.waits k.waits) in
    let s : IsSealed q h r.id r.ask r.sent.content = out.0 in
    subst (FewEntry h id) (sym r.is)
    (record_few q h f r.id id r.ask (drop 1 body) (or_lost came (inner_led q h f came r.ask)) (ap waiting_ask s.steps) out.1 (record_leads q h f came r.ask)
    (waits_as h id r.sent (if r.id == id then ForRecord r.ask else Rests) r.waits (ap (waits_aim id) r.aims) few))

-- ---- Made histories.

made_few : (q : ReqSetup) (h : History) (id : ℕ) → IsMade q h → Few (waits_for id (outstanding h)) (session_of id h)
unfolding session_of
made_few q [] id made = none_few
made_few q (Told command sent d ∷ older) id made =
    let was = asked false q older command (command_chosen q older d) d (Told command sent d) made.0 in
    told_few q older id command (command_chosen q older d) d sent was.0 was.1 (made_few q older id made.1)
made_few q (TookClear tag m led d ∷ older) id made =
    heard_few q older id tag (clear_body m) (body_chosen q older d) d (TookClear tag m led d) (heard q older false tag (clear_body m) (body_chosen q older d) d (TookClear tag m led d) made.0) (made_holds q older made.1) (made_few q older id made.1)
made_few q (TookRecord tag of sealed inner led d ∷ older) id made =
    heard_few q older id tag (record_body sealed) (body_chosen q older d) d (TookRecord tag of sealed inner led d) (heard q older false tag (record_body sealed) (body_chosen q older d) d (TookRecord tag of sealed inner led d) made.0) (made_holds q older made.1) (made_few q older id made.1)

-- ---- What bounds the next numbers, whatever waits.

most_for : (ask : Ask) (request response : ℕ) → FewFor ask request response → (request ≤ 65536) × (response ≤ 65535)
most_for AskFinish request response few = (let r = few.0 in let p = few.1 in (omega (arith, r), omega (arith, p)))
most_for AskData request response few = (let r = few.0 in let p = few.1 in (omega (arith, r), omega (arith, p)))
most_for AskBeat request response few = (let r = few.0 in let p = few.1 in (omega (arith, r), omega (arith, p)))
most_for (AskUpdate true) request response few = few
most_for (AskUpdate false) request response few = (let r = few.0 in let p = few.1 in (omega (arith, r), omega (arith, p)))
most_for AskVerify request response few = (let r = few.0 in let p = few.1 in (omega (arith, r), omega (arith, p)))
most_for (AskMeasure op) request response few = (let r = few.0 in let p = few.1 in (omega (arith, r), omega (arith, p)))
most_for (AskChunk op handle number before) request response few = (let r = few.0 in let p = few.1 in let n = few.2 in (omega (arith, r, n), omega (arith, p, n)))
most_for AskEnd request response few = few

most_by : (w : Waits) (s : Steps) → FewBy w s → (request_next s ≤ 65536) × (response_next s ≤ 65535)
most_by Rests s few = (let r = few.0 in (omega (arith, r), few.1))
most_by ForExchange s few = (let r = few.0 in let p = few.1 in (omega (arith, r), omega (arith, p)))
most_by (ForRecord ask) s few = most_for ask (request_next s) (response_next s) few

resting_by : (w : Waits) (s : Steps) → FitsWaits w s → FewBy w s → waiting_ask s ≡ None → request_next s ≤ 65535
resting_by w [] fits few none = omega arith
resting_by Rests (x ∷ s) fits few none = few.0
resting_by ForExchange (x ∷ s) fits few none = (let r = few.0 in omega (arith, r))
resting_by (ForRecord ask) (x ∷ s) fits few none = absurd (none-some ask (sym none ∙ fits))

number_by : (all : Bool) (response : ℕ) → response ≤ 65535 → (if all then 0 else response) ≤ 65535
number_by true response p = omega arith
number_by false response p = p

awaited_by : (s : Steps) (ask : Option Ask) → response_next s ≤ 65535 → number_for s ask ≤ 65535
awaited_by s None p = omega arith
awaited_by s (Some ask) p = number_by (asks_all ask) (response_next s) p

pub numbers_few : NumbersAreFew
numbers_few q h id made =
    let few = made_few q h id made in
    let most = most_by (waits_for id (outstanding h)) (session_of id h) few.0 in
    record {
      numbers = few.1;
      resting = resting_by (waits_for id (outstanding h)) (session_of id h) (in_order q h id made).fits few.0;
      request = most.0;
      response = most.1;
      awaited = awaited_by (session_of id h) (waiting_ask (session_of id h)) most.1;
    }

pub taken_number : TakenNumberIsFew
taken_number q h sent id ask made out aims = number_by (asks_all ask) (response_next (session_of id h)) (numbers_few q h id made).response
