-- The tags of the messages that a requester sends are below 8.
use Rattle.std.proofs.Common.{refl, ◌≡◌, ◌∙◌, ◌<◌, ◌%◌, ℕ, List, [], ◌∷◌, false, Some, None, ap, sym, arith, inl, inr}
use Rattle.std.specs.Prelude.{drop, length, nat_lt}
use Rattle.std.proofs.lemmas.Option.{none-some, same_Some}
use Rattle.negotiate.specs.declared.shared.Common.{Common}
use Rattle.requester_machine.proofs.ClearLeads.{ClearLeads, clear_leads, either}
use Rattle.requester_machine.proofs.ClearLeads.ClearLeads.{ByCaps, ByChoice, ByExchange, ByGet, ByLarge, ByMeasured, ByRefusal, BySend, ByStop, ByVersion}
use Rattle.requester_machine.proofs.Entries as entries
use Rattle.requester_machine.proofs.Heard.{Heard, heard}
use Rattle.requester_machine.proofs.HoldsTold.{resent_adds, told_sent}
use Rattle.requester_machine.proofs.RecordLeads.{RecordLeads, record_leads}
use Rattle.requester_machine.proofs.RecordLeads.RecordLeads.{ByAnswer, ByChunk, ByEnd, ByFirst, ByUpdate}
use Rattle.requester_machine.specs.Answers.{goes_on}
use Rattle.requester_machine.specs.Asking.{Outcome, asks, done}
use Rattle.requester_machine.specs.Asking.Outcome.{Adds, Fails, Ignores, Resends, Warns}
use Rattle.requester_machine.specs.Commands.{Free, exchange_for}
use Rattle.requester_machine.specs.Does.{IsMade, body_chosen, command_chosen}
use Rattle.requester_machine.specs.Hearing.{came_to}
use Rattle.requester_machine.specs.History.{Effect, Entry, History, Led, connection_terms, next_handle, next_tag, outstanding, sent_count, sent_in}
use Rattle.requester_machine.specs.History.Entry.{Told, TookClear, TookRecord}
use Rattle.requester_machine.specs.InnerMessages.{Came, inner_led, or_lost}
use Rattle.requester_machine.specs.Message.{Aim, Ask, Command, Sent}
use Rattle.requester_machine.specs.Message.Command.{Beat, Connect, End, Measure, Open, Retry, Send, Update}
use Rattle.requester_machine.specs.Sending.{piece_sent, plain_sent, request_sent}
use Rattle.requester_machine.specs.Setup.{ReqSetup}
use Rattle.requester_machine.specs.Shown.{after, event_of, sent_by}
use Rattle.spdm_grammar.specs.Message.{RequestMessage}
use Rattle.spdm_grammar.specs.Message.RequestMessage.{GetMeasurements, NegotiateAlgorithms}
use Rattle.spdm_grammar.specs.Requests.{canonical_request}
use Rattle.spdm_grammar.specs.declared.told.event.Event.{Event}
use Rattle.spdm_machine.specs.Bodies.{clear_body, record_body}
use Rattle.spdm_machine.specs.Keys.{Draw}
use Rattle.requester_core.proofs.DataBrought.{next_is}

request_tag : (common : Common) (h : History) (asked : RequestMessage) → (request_sent common h asked).tag ≡ next_tag h
request_tag common h asked = either (λ (s : Sent). s.tag ≡ next_tag h) (nat_lt common.to_responder.transfer (length (canonical_request asked))) (piece_sent common h asked (next_handle h) 0) (plain_sent h asked) refl refl

same_tag : (h : History) (command : Command) (x sent : Sent) (d : Draw) → x.tag ≡ next_tag h → Adds (Told command x d) ≡ Adds (Told command sent d) → sent.tag ≡ next_tag h
same_tag h command x sent d tag is = sym (ap (λ (s : Sent). s.tag) (told_sent command x sent d is)) ∙ tag

told_tag : (q : ReqSetup) (h : History) (command : Command) (f : Free) (d : Draw) (sent : Sent) → done q h command f d ≡ Adds (Told command sent d) → sent.tag ≡ next_tag h
told_tag q h Connect f d sent is = same_tag h Connect _ sent d refl is
told_tag q h (Open summary) f d sent is = same_tag h (Open summary) _ sent d (request_tag (connection_terms h).common h (exchange_for q f summary)) is
told_tag q h (Send id bytes) f d sent is = same_tag h (Send id bytes) _ sent d refl is
told_tag q h (Beat id) f d sent is = same_tag h (Beat id) _ sent d refl is
told_tag q h (Update id all) f d sent is = same_tag h (Update id all) _ sent d refl is
told_tag q h (Measure None op) f d sent is = same_tag h (Measure None op) _ sent d (request_tag (connection_terms h).common h (GetMeasurements op)) is
told_tag q h (Measure (Some id) op) f d sent is = same_tag h (Measure (Some id) op) _ sent d refl is
told_tag q h (End id) f d sent is = same_tag h (End id) _ sent d refl is
told_tag q h Retry f d sent is = resent_adds (outstanding h) (Told Retry sent d) is

goes_tag : (h : History) (led : Led) (effect : Effect) (y sent : Sent) → led ≡ goes_on effect y → led.next ≡ Some sent → y.tag ≡ next_tag h → sent.tag ≡ next_tag h
goes_tag h led effect y sent is next tag = sym (ap (λ (s : Sent). s.tag) (same_Some y sent (next_is led (goes_on effect y) sent is next))) ∙ tag

no_next : {A : Type 0} (led x : Led) (sent : Sent) → led ≡ x → x.next ≡ None → led.next ≡ Some sent → A
no_next led x sent is none next = absurd (none-some sent (sym none ∙ next_is led x sent is next))

clear_tag : (q : ReqSetup) (h : History) (f : Free) (aim : Aim) (m : List ℕ) (request : RequestMessage) (led : Led) (sent : Sent) → ClearLeads q h f aim m request led → led.next ≡ Some sent → sent.tag ≡ next_tag h
clear_tag q h f aim m request led sent (ByRefusal code is) next = no_next led _ sent is refl next
clear_tag q h f aim m request led sent (ByLarge handle may is) next = goes_tag h led _ _ sent is next refl
clear_tag q h f aim m request led sent (BySend handle number was more is) next = goes_tag h led _ _ sent is next refl
clear_tag q h f aim m request led sent (ByGet handle number before c was none more is) next = goes_tag h led _ _ sent is next refl
clear_tag q h f aim m request led sent (ByStop why was is) next = no_next led _ sent is refl next
clear_tag q h f aim m request led sent (ByVersion answer was is) next = goes_tag h led _ _ sent is next refl
clear_tag q h f aim m request led sent (ByCaps caps theirs answer common offer was read common_is offered short is) next = goes_tag h led _ _ sent is next (request_tag common h (NegotiateAlgorithms offer))
clear_tag q h f aim m request led sent (ByChoice offer answer was is) next = no_next led _ sent is refl next
clear_tag q h f aim m request led sent (ByMeasured op answer finish was is) next = no_next led _ sent is refl next
clear_tag q h f aim m request led sent (ByExchange exchange answer rsp was read right is) next = goes_tag h led _ _ sent is next refl

record_tag : (q : ReqSetup) (h : History) (f : Free) (came : Came) (ask : Ask) (led : Led) (sent : Sent) → RecordLeads q h f came ask led → led.next ≡ Some sent → sent.tag ≡ next_tag h
record_tag q h f came ask led sent (ByEnd ends none) next = absurd (none-some sent (sym none ∙ next))
record_tag q h f came ask led sent (ByAnswer stays other brings none) next = absurd (none-some sent (sym none ∙ next))
record_tag q h f came ask led sent (ByUpdate all asks is) next = goes_tag h led _ _ sent is next refl
record_tag q h f came ask led sent (ByFirst op handle follows is) next = goes_tag h led _ _ sent is next refl
record_tag q h f came ask led sent (ByChunk op handle number before c asks none more is) next = goes_tag h led _ _ sent is next refl

heard_tag : (q : ReqSetup) (h : History) (tag : ℕ) (body : List ℕ) (f : Free) (d : Draw) (entry : Entry) (sent : Sent) → Heard q h tag body f d entry → sent_in entry ≡ Some sent → sent.tag ≡ next_tag h
heard_tag q h tag body f d entry sent (inl t) sends =
    clear_tag q h f t.sent.aim (drop 1 body) t.asked t.led sent (clear_leads q h f t.sent.aim (drop 1 body) t.asked t.led t.asks t.leads) (ap sent_in (sym t.is) ∙ sends)
heard_tag q h tag body f d entry sent (inr o) sends =
    let came = came_to q h o.1.id o.1.ask (drop 1 body) in
    record_tag q h f came o.1.ask (or_lost came (inner_led q h f came o.1.ask)) sent (record_leads q h f came o.1.ask) (ap sent_in (sym o.1.is) ∙ sends)

below : (n count : ℕ) → n ≡ count % 8 → n < 8
below n count is = omega (arith, is)

-- The outstanding message of a made history has one.
pub tag_fits : (q : ReqSetup) (h : History) (sent : Sent) → IsMade q h → outstanding h ≡ Some sent → sent.tag < 8
tag_fits q [] sent made is = absurd (none-some sent is)
tag_fits q (Told command s d ∷ older) sent made is =
    let does = entries.asked false q older command (command_chosen q older d) d (Told command s d) made.0 in
    below sent.tag (sent_count older) (sym (ap (λ (x : Sent). x.tag) (same_Some s sent is)) ∙ told_tag q older command (command_chosen q older d) d s does.1)
tag_fits q (TookClear tag m led d ∷ older) sent made is =
    below sent.tag (sent_count older) (heard_tag q older tag (clear_body m) (body_chosen q older d) d (TookClear tag m led d) sent (heard q older false tag (clear_body m) (body_chosen q older d) d (TookClear tag m led d) made.0) is)
tag_fits q (TookRecord tag id sealed inner led d ∷ older) sent made is =
    below sent.tag (sent_count older) (heard_tag q older tag (record_body sealed) (body_chosen q older d) d (TookRecord tag id sealed inner led d) sent
    (heard q older false tag (record_body sealed) (body_chosen q older d) d (TookRecord tag id sealed inner led d) made.0) is)

-- What is sent on a body.
pub heard_fits : (q : ReqSetup) (h : History) (o : Outcome) (told : Event) (sent : Sent) → event_of o ≡ Some told → IsMade q (after h o) → sent_by o ≡ Some sent → sent.tag < 8
heard_fits q h (Fails fault) told sent event made is = absurd (none-some sent is)
heard_fits q h (Ignores cause) told sent event made is = absurd (none-some sent is)
heard_fits q h (Warns code) told sent event made is = absurd (none-some sent is)
heard_fits q h (Resends x) told sent event made is = absurd (none-some told event)
heard_fits q h (Adds entry) told sent event made is = tag_fits q (entry ∷ h) sent made is
