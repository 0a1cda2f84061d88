-- What is asked of a session and what comes of it, by the entry of the history.
use Rattle.std.proofs.Common.{refl, ◌≡◌, ◌∙◌, ◌∷◌, ◌+◌, ◌%◌, ℕ, List, Bool, false, Option, Some, None, ap, sym, subst, inl, inr}
use Rattle.std.specs.Prelude.{drop, if◌then◌else◌, is_some, unwrap_or}
use Rattle.std.proofs.lemmas.Bool.{false≢true}
use Rattle.std.proofs.lemmas.Option.{none-some, same_Some}
use Rattle.requester_machine.proofs.ClearLeads.{ClearLeads, clear_leads}
use Rattle.requester_machine.proofs.ClearLeads.ClearLeads.{ByCaps, ByChoice, ByExchange, ByGet, ByLarge, ByMeasured, ByRefusal, BySend, ByStop, ByVersion}
use Rattle.requester_machine.proofs.Entries.{asked, request_sent-asks}
use Rattle.requester_machine.proofs.Heard.{Heard, heard}
use Rattle.requester_machine.proofs.HoldsClear.{clear_holds}
use Rattle.requester_machine.proofs.HoldsRecord.{record_holds}
use Rattle.requester_machine.proofs.HoldsTold.{resent_adds, told_holds, told_sent}
use Rattle.requester_machine.proofs.RecordLeads.{RecordLeads, record_leads}
use Rattle.requester_machine.proofs.RecordLeads.RecordLeads.{ByAnswer, ByChunk, ByEnd, ByFirst, ByUpdate}
use Rattle.requester_machine.specs.AcceptedLaws.{IsOpened}
use Rattle.requester_machine.specs.Answers.{goes_on}
use Rattle.requester_machine.specs.Asking.{asks, done}
use Rattle.requester_machine.specs.Asking.Outcome.{Adds}
use Rattle.requester_machine.specs.Bodies.{is_clear}
use Rattle.requester_machine.specs.Commands.{Free, exchange_for}
use Rattle.requester_machine.specs.Hearing.{came_to, hears}
use Rattle.requester_machine.specs.History.{Effect, Entry, History, Led, begins_large, connection_terms, is_connect, is_first_chunk, larges_of, negotiation_after, negotiation_of, next_tag, outstanding, phase_after, phase_of, sent_count, sent_in}
use Rattle.requester_machine.specs.History.Entry.{Told, TookClear, TookRecord}
use Rattle.requester_machine.specs.Holds.{Holds}
use Rattle.requester_machine.specs.InnerMessages.{inner_led, or_lost}
use Rattle.requester_machine.specs.Message.{Aim, Ask, Command, Sent, asked_in}
use Rattle.requester_machine.specs.Message.Aim.{InSession}
use Rattle.requester_machine.specs.Message.Command.{Beat, Connect, End, Measure, Open, Retry, Send, Update}
use Rattle.requester_machine.specs.Records.{answer_inner}
use Rattle.requester_machine.specs.Sending.{plain_sent, request_sent}
use Rattle.requester_machine.specs.Session.{session_of}
use Rattle.requester_machine.specs.Setup.{ReqSetup}
use Rattle.requester_machine.specs.Shown.{last_data}
use Rattle.spdm_grammar.specs.Message.{RequestMessage}
use Rattle.spdm_grammar.specs.Message.RequestMessage.{GetMeasurements, GetVersion, NegotiateAlgorithms}
use Rattle.spdm_grammar.specs.declared.told.phase.Phase.{Phase}
use Rattle.spdm_grammar.specs.declared.told.phase.Phase.TheVariants.{Fresh}
use Rattle.spdm_machine.specs.Keys.{Draw}
use Rattle.spdm_machine.specs.Terms.{no_negotiation}
use Rattle.transcript.specs.Transcripts.{Negotiation}
use Rattle.requester_core.specs.InSession.{SendsRecord, Settles, brought_by}
use Rattle.requester_core.specs.Negotiating as negotiating
use Rattle.requester_core.specs.Negotiating.{IsUpToSent}
use Rattle.requester_core.specs.Outgoing as outgoing
use Rattle.requester_core.specs.Outgoing.{IsKept, IsKeptOf, tag_after}
use Rattle.requester_core.specs.ClearState.{Seen, Shows, StandsFor}
use Rattle.requester_core.specs.Outstanding.{waiting_for}
use Rattle.requester_core.specs.declared.clear.outstanding.Outstanding.TheVariants as waits
use Rattle.requester_core.proofs.NoGets.{gathers_any, record_no_get}
use Rattle.requester_core.proofs.Started.{tag_more}

-- ---- What is sent.

-- A record of a session goes out after so many messages and so many large requests.
outgoing_shown : (sents larges id : ℕ) (sent : Sent) (ask : Ask) (old new : outgoing.Seen) → old.tag ≡ sents % 8 → old.handle ≡ larges % 256 → sent.tag ≡ sents % 8 → sent.aim ≡ InSession id ask
    → new ≡ record old { tag = tag_after old.tag; waiting = waits.InSession old.tag id }
    → outgoing.StandsFor new ((sents + 1) % 8) ((if begins_large sent.aim then larges + 1 else larges) % 256) (Some sent)
outgoing_shown sents larges id sent ask old new is_tag is_handle its_tag aims sends = record {
  tag = ap (λ (s : outgoing.Seen). s.tag) sends ∙ ap tag_after is_tag ∙ tag_more sents;
  handle = ap (λ (s : outgoing.Seen). s.handle) sends ∙ is_handle ∙ sym (ap (λ (a : Aim). (if begins_large a then larges + 1 else larges) % 256) aims);
  waiting = ap (λ (s : outgoing.Seen). s.waiting) sends ∙ ap (λ (n : ℕ). waits.InSession n id) (is_tag ∙ sym its_tag) ∙ sym (ap (waiting_for sent.tag) aims);
  request = subst (λ (a : Aim). IsKept (asked_in a) new.request) (sym aims) tt;
}

-- An entry that sends a record and leaves the negotiation and the last data as they are.
record Sends (h : History) (entry : Entry) (sent : Sent) : Type 0 where
  tag : sent.tag ≡ next_tag h
  phase : phase_of (entry ∷ h) ≡ phase_of h
  negotiation : negotiation_of (entry ∷ h) ≡ negotiation_of h
  data_is : last_data (entry ∷ h) ≡ last_data h

sent_shows : (h : History) (entry : Entry) (sent : Sent) (id : ℕ) (ask : Ask) (old : Seen) (new : outgoing.Seen) → Shows old h → Sends h entry sent → sent_in entry ≡ Some sent → sent.aim ≡ InSession id ask
    → new ≡ record old.outgoing { tag = tag_after old.outgoing.tag; waiting = waits.InSession old.outgoing.tag id }
    → Shows (record old { outgoing = new }) (entry ∷ h)
sent_shows h entry sent id ask old new shows s is aims sends = record {
  negotiating = subst (λ (p : Phase). negotiating.StandsFor old.negotiating p (negotiation_of (entry ∷ h))) (sym s.phase) (subst (λ (n : Negotiation). negotiating.StandsFor old.negotiating (phase_of h) n) (sym s.negotiation) shows.negotiating);
  outgoing = subst (λ (o : Option Sent). outgoing.StandsFor new ((if is_some o then sent_count h + 1 else sent_count h) % 8) ((if is_first_chunk o then larges_of h + 1 else larges_of h) % 256) o) (sym is)
      (outgoing_shown (sent_count h) (larges_of h) id sent ask old.outgoing new shows.outgoing.tag shows.outgoing.handle s.tag aims sends);
  up_to = subst (λ (o : Option Sent). IsUpToSent o (negotiation_of (entry ∷ h))) (sym is) (subst (λ (a : Aim). IsUpToSent (Some (record sent { aim = a })) (negotiation_of (entry ∷ h))) (sym aims) tt);
  brought = shows.brought ∙ sym s.data_is;
}

sends_record : (q : ReqSetup) (h : History) (entry : Entry) (sent : Sent) (id : ℕ) (ask : Ask) (tag : ℕ) (old : Seen) (new : outgoing.Seen) → StandsFor old q h → Holds q (entry ∷ h) → Sends h entry sent → sent_in entry ≡ Some sent → sent.aim ≡ InSession id ask
    → tag ≡ old.outgoing.tag → new ≡ record old.outgoing { tag = tag_after old.outgoing.tag; waiting = waits.InSession old.outgoing.tag id }
    → SendsRecord q (entry ∷ h) sent tag (record old { outgoing = new })
sends_record q h entry sent id ask tag old new stands holds s is aims told sends = record {
  tag_is = s.tag ∙ sym (told ∙ stands.shows.outgoing.tag);
  stands = record { holds = holds; shows = sent_shows h entry sent id ask old new stands.shows s is aims sends };
  gathers = gathers_any q sent (record_no_get sent.aim id ask aims);
}

-- ---- A command.

-- A message that asks for a request in the clear is no record.
no_record : {A : Type 0} (sent : Sent) (request : RequestMessage) (id : ℕ) (ask : Ask) → asked_in sent.aim ≡ Some request → sent.aim ≡ InSession id ask → A
no_record sent request id ask asks aims = absurd (none-some request (sym (ap asked_in aims) ∙ asks))

-- What it sends is a record, so it asks something of a session.
told_record : (q : ReqSetup) (h : History) (command : Command) (f : Free) (d : Draw) (sent : Sent) (id : ℕ) (ask : Ask) → done q h command f d ≡ Adds (Told command sent d) → sent.aim ≡ InSession id ask → (is_connect command ≡ false) × (sent.tag ≡ next_tag h)
told_record q h Connect f d sent id ask is aims = (let same = told_sent Connect (plain_sent h GetVersion) sent d is in no_record sent GetVersion id ask (ap (λ (s : Sent). asked_in s.aim) (sym same)) aims)
told_record q h (Open summary) f d sent id ask is aims = (let same = told_sent (Open summary) (request_sent (connection_terms h).common h (exchange_for q f summary)) sent d is in no_record sent (exchange_for q f summary) id ask (ap (λ (s : Sent). asked_in s.aim) (sym same) ∙ request_sent-asks (connection_terms h).common h (exchange_for q f summary)) aims)
told_record q h (Send of bytes) f d sent id ask is aims = (refl, ap (λ (s : Sent). s.tag) (sym (told_sent (Send of bytes) _ sent d is)))
told_record q h (Beat of) f d sent id ask is aims = (refl, ap (λ (s : Sent). s.tag) (sym (told_sent (Beat of) _ sent d is)))
told_record q h (Update of all) f d sent id ask is aims = (refl, ap (λ (s : Sent). s.tag) (sym (told_sent (Update of all) _ sent d is)))
told_record q h (Measure None op) f d sent id ask is aims = (let same = told_sent (Measure None op) (request_sent (connection_terms h).common h (GetMeasurements op)) sent d is in no_record sent (GetMeasurements op) id ask (ap (λ (s : Sent). asked_in s.aim) (sym same) ∙ request_sent-asks (connection_terms h).common h (GetMeasurements op)) aims)
told_record q h (Measure (Some of) op) f d sent id ask is aims = (refl, ap (λ (s : Sent). s.tag) (sym (told_sent (Measure (Some of) op) _ sent d is)))
told_record q h (End of) f d sent id ask is aims = (refl, ap (λ (s : Sent). s.tag) (sym (told_sent (End of) _ sent d is)))
told_record q h Retry f d sent id ask is aims = resent_adds (outstanding h) (Told Retry sent d) is

told_sends : (h : History) (command : Command) (sent : Sent) (d : Draw) → is_connect command ≡ false → sent.tag ≡ next_tag h → Sends h (Told command sent d) sent
told_sends h command sent d other tag = record {
  tag = tag;
  phase = ap (λ (b : Bool). if b then Fresh else phase_of h) other;
  negotiation = ap (λ (b : Bool). if b then no_negotiation else negotiation_of h) other;
  data_is = refl;
}

pub told_record_sent : (q : ReqSetup) (h : History) (command : Command) (f : Free) (d : Draw) (sent : Sent) (id : ℕ) (ask : Ask) (tag : ℕ) (old : Seen) (new : outgoing.Seen) → StandsFor old q h
    → asks false q h command f d ≡ Adds (Told command sent d) → sent.aim ≡ InSession id ask → tag ≡ old.outgoing.tag
    → new ≡ record old.outgoing { tag = tag_after old.outgoing.tag; waiting = waits.InSession old.outgoing.tag id }
    → SendsRecord q (Told command sent d ∷ h) sent tag (record old { outgoing = new })
told_record_sent q h command f d sent id ask tag old new stands told aims is sends =
    let does = asked false q h command f d (Told command sent d) told in
    let facts = told_record q h command f d sent id ask does.1 aims in
    sends_record q h (Told command sent d) sent id ask tag old new stands (told_holds q h command f d sent does.0 does.1 stands.holds) (told_sends h command sent d facts.0 facts.1) refl aims is sends

-- ---- PSK_EXCHANGE_RSP.

next_is : (led : Led) (x : Led) (sent : Sent) → led ≡ x → led.next ≡ Some sent → x.next ≡ Some sent
next_is led x sent is next = ap (λ (l : Led). l.next) (sym is) ∙ next

nothing_next : {A : Type 0} (led : Led) (x : Led) (sent : Sent) → led ≡ x → x.next ≡ None → led.next ≡ Some sent → A
nothing_next led x sent is none next = absurd (none-some sent (sym none ∙ next_is led x sent is next))

-- A message in the clear that is sent next asks for a request.
clear_next : {A : Type 0} (led : Led) (effect : Effect) (y sent : Sent) (request : RequestMessage) (id : ℕ) (ask : Ask) → led ≡ goes_on effect y → asked_in y.aim ≡ Some request → led.next ≡ Some sent → sent.aim ≡ InSession id ask → A
clear_next led effect y sent request id ask is asks next aims =
    no_record sent request id ask (ap (λ (s : Sent). asked_in s.aim) (sym (same_Some y sent (next_is led (goes_on effect y) sent is next))) ∙ asks) aims

clear_sends : (q : ReqSetup) (h : History) (f : Free) (aim : Aim) (m : List ℕ) (request : RequestMessage) (led : Led) (sent : Sent) (id : ℕ) (ask : Ask) (tag : ℕ) (d : Draw) → ClearLeads q h f aim m request led → led.next ≡ Some sent → sent.aim ≡ InSession id ask
    → Sends h (TookClear tag m led d) sent
clear_sends q h f aim m request led sent id ask tag d (ByRefusal code is) next aims = nothing_next led _ sent is refl next
clear_sends q h f aim m request led sent id ask tag d (ByLarge handle may is) next aims = clear_next led _ _ sent request id ask is refl next aims
clear_sends q h f aim m request led sent id ask tag d (BySend handle number was more is) next aims = clear_next led _ _ sent request id ask is refl next aims
clear_sends q h f aim m request led sent id ask tag d (ByGet handle number before c was none more is) next aims = clear_next led _ _ sent request id ask is refl next aims
clear_sends q h f aim m request led sent id ask tag d (ByStop why was is) next aims = nothing_next led _ sent is refl next
clear_sends q h f aim m request led sent id ask tag d (ByVersion answer was is) next aims = clear_next led _ _ sent _ id ask is refl next aims
clear_sends q h f aim m request led sent id ask tag d (ByCaps caps theirs answer common offer was read common_is offered short is) next aims = clear_next led _ _ sent (NegotiateAlgorithms offer) id ask is (request_sent-asks common h (NegotiateAlgorithms offer)) next aims
clear_sends q h f aim m request led sent id ask tag d (ByChoice offer answer was is) next aims = nothing_next led _ sent is refl next
clear_sends q h f aim m request led sent id ask tag d (ByMeasured op answer finish was is) next aims = nothing_next led _ sent is refl next
clear_sends q h f aim m request led sent id ask tag d (ByExchange exchange answer rsp was read right is) next aims = record {
  tag = ap (λ (s : Sent). s.tag) (sym (same_Some _ sent (next_is led _ sent is next)));
  phase = ap (λ (l : Led). phase_after l.effect (phase_of h)) is;
  negotiation = ap (λ (l : Led). negotiation_after l.effect (negotiation_of h)) is;
  data_is = ap (λ (l : Led). last_data (TookClear tag m l d ∷ h)) is;
}

-- ---- A record that calls for a further one.

record_sends : (q : ReqSetup) (h : History) (f : Free) (tag id : ℕ) (ask : Ask) (sealed inner : List ℕ) (led : Led) (d : Draw) (sent : Sent) → RecordLeads q h f (came_to q h id ask sealed) ask led → led.next ≡ Some sent
    → Sends h (TookRecord tag id sealed inner led d) sent
record_sends q h f tag id ask sealed inner led d sent (ByEnd ends none) next = absurd (none-some sent (sym none ∙ next))
record_sends q h f tag id ask sealed inner led d sent (ByAnswer stays other brings none) next = absurd (none-some sent (sym none ∙ next))
record_sends q h f tag id ask sealed inner led d sent (ByUpdate all asks is) next = record {
  tag = ap (λ (s : Sent). s.tag) (sym (same_Some _ sent (next_is led _ sent is next)));
  phase = refl;
  negotiation = refl;
  data_is = ap (λ (l : Led). last_data (TookRecord tag id sealed inner l d ∷ h)) is;
}
record_sends q h f tag id ask sealed inner led d sent (ByFirst op handle follows is) next = record {
  tag = ap (λ (s : Sent). s.tag) (sym (same_Some _ sent (next_is led _ sent is next)));
  phase = refl;
  negotiation = refl;
  data_is = ap (λ (l : Led). last_data (TookRecord tag id sealed inner l d ∷ h)) is;
}
record_sends q h f tag id ask sealed inner led d sent (ByChunk op handle number before c asks none more is) next = record {
  tag = ap (λ (s : Sent). s.tag) (sym (same_Some _ sent (next_is led _ sent is next)));
  phase = refl;
  negotiation = refl;
  data_is = ap (λ (l : Led). last_data (TookRecord tag id sealed inner l d ∷ h)) is;
}

-- ---- A body.

-- The outcome of a record that was taken.
abbrev led_of : (q : ReqSetup) (h : History) (f : Free) (id : ℕ) (ask : Ask) (sealed : List ℕ) → Led
led_of q h f id ask sealed = or_lost (came_to q h id ask sealed) (inner_led q h f (came_to q h id ask sealed) ask)

opened_holds : (q : ReqSetup) (h : History) (f : Free) (d : Draw) (tag : ℕ) (sealed : List ℕ) (entry : Entry) → Holds q h → IsOpened q h tag sealed f d entry → Holds q (entry ∷ h)
opened_holds q h f d tag sealed entry holds o =
    subst (λ (e : Entry). Holds q (e ∷ h)) (sym o.is) (record_holds q h f tag o.id o.ask sealed d (led_of q h f o.id o.ask sealed) o.sent o.waits o.aims (record_leads q h f (came_to q h o.id o.ask sealed) o.ask) holds)

heard_record : (q : ReqSetup) (h : History) (f : Free) (d : Draw) (tag : ℕ) (body : List ℕ) (entry : Entry) (sent : Sent) (id : ℕ) (ask : Ask) → Holds q h → Heard q h tag body f d entry → sent_in entry ≡ Some sent → sent.aim ≡ InSession id ask
    → Holds q (entry ∷ h) × Sends h entry sent
heard_record q h f d tag body entry sent id ask holds (inl t) next aims =
    let leads = clear_leads q h f t.sent.aim (drop 1 body) t.asked t.led t.asks t.leads in (
      subst (λ (e : Entry). Holds q (e ∷ h)) (sym t.is) (clear_holds q h f tag (drop 1 body) t.led d t.sent t.asked t.waits t.asks leads holds),
      subst (λ (e : Entry). Sends h e sent) (sym t.is) (clear_sends q h f t.sent.aim (drop 1 body) t.asked t.led sent id ask tag d leads (ap sent_in (sym t.is) ∙ next) aims),
    )
heard_record q h f d tag body entry sent id ask holds (inr o) next aims =
    let r = o.1 in (
      opened_holds q h f d tag (drop 1 body) entry holds r,
      subst (λ (e : Entry). Sends h e sent) (sym r.is)
          (record_sends q h f tag r.id r.ask (drop 1 body) (answer_inner q.psk (session_of r.id h) r.ask (drop 1 body)) (led_of q h f r.id r.ask (drop 1 body)) d sent (record_leads q h f (came_to q h r.id r.ask (drop 1 body)) r.ask) (ap sent_in (sym r.is) ∙ next)),
    )

pub heard_record_sent : (q : ReqSetup) (h : History) (owner : Bool) (its_tag : ℕ) (body : List ℕ) (f : Free) (d : Draw) (entry : Entry) (sent : Sent) (id : ℕ) (ask : Ask) (tag : ℕ) (old : Seen) (new : outgoing.Seen) → StandsFor old q h
    → hears q h owner its_tag body f d ≡ Adds entry → sent_in entry ≡ Some sent → sent.aim ≡ InSession id ask → tag ≡ old.outgoing.tag
    → new ≡ record old.outgoing { tag = tag_after old.outgoing.tag; waiting = waits.InSession old.outgoing.tag id }
    → SendsRecord q (entry ∷ h) sent tag (record old { outgoing = new })
heard_record_sent q h owner its_tag body f d entry sent id ask tag old new stands is next aims told sends =
    let facts = heard_record q h f d its_tag body entry sent id ask stands.holds (heard q h owner its_tag body f d entry is) next aims in
    sends_record q h entry sent id ask tag old new stands facts.0 facts.1 next aims told sends

-- ---- A record upon which nothing is sent.

rested_shows : (h : History) (tag id : ℕ) (sealed inner : List ℕ) (led : Led) (d : Draw) (old : Seen) (new : outgoing.Seen) (brought : List ℕ) → Shows old h → led.next ≡ None → new ≡ record old.outgoing { waiting = waits.Nothing }
    → brought ≡ last_data (TookRecord tag id sealed inner led d ∷ h) → Shows (record { negotiating = old.negotiating; outgoing = new; brought = brought }) (TookRecord tag id sealed inner led d ∷ h)
rested_shows h tag id sealed inner led d old new brought shows none rests is = record {
  negotiating = shows.negotiating;
  outgoing = subst (λ (o : Option Sent). outgoing.StandsFor new ((if is_some o then sent_count h + 1 else sent_count h) % 8) ((if is_first_chunk o then larges_of h + 1 else larges_of h) % 256) o) (sym none)
      (record {
        tag = ap (λ (s : outgoing.Seen). s.tag) rests ∙ shows.outgoing.tag;
        handle = ap (λ (s : outgoing.Seen). s.handle) rests ∙ shows.outgoing.handle;
        waiting = ap (λ (s : outgoing.Seen). s.waiting) rests;
        request = tt;
      });
  up_to = subst (λ (o : Option Sent). IsUpToSent o (negotiation_of h)) (sym none) tt;
  brought = is;
}

heard_settled : (q : ReqSetup) (h : History) (f : Free) (d : Draw) (tag : ℕ) (body : List ℕ) (entry : Entry) (old : Seen) (new : outgoing.Seen) (brought : List ℕ) → StandsFor old q h → is_clear body ≡ false → Heard q h tag body f d entry → sent_in entry ≡ None
    → new ≡ record old.outgoing { waiting = waits.Nothing } → brought ≡ last_data (entry ∷ h) → StandsFor (record { negotiating = old.negotiating; outgoing = new; brought = brought }) q (entry ∷ h)
heard_settled q h f d tag body entry old new brought stands sealed (inl t) none rests is = absurd (false≢true (sym sealed ∙ t.clear))
heard_settled q h f d tag body entry old new brought stands sealed (inr o) none rests is =
    let r = o.1 in
    record {
      holds = opened_holds q h f d tag (drop 1 body) entry stands.holds r;
      shows = subst (λ (e : Entry). Shows (record { negotiating = old.negotiating; outgoing = new; brought = brought }) (e ∷ h)) (sym r.is)
          (rested_shows h tag r.id (drop 1 body) (answer_inner q.psk (session_of r.id h) r.ask (drop 1 body)) (led_of q h f r.id r.ask (drop 1 body)) d old new brought stands.shows (ap sent_in (sym r.is) ∙ none) rests (is ∙ ap (λ (e : Entry). last_data (e ∷ h)) r.is));
    }

-- It brought nothing, or these data.
pub settled : (q : ReqSetup) (h : History) (owner : Bool) (tag : ℕ) (body : List ℕ) (f : Free) (d : Draw) (entry : Entry) (old : Seen) (new : outgoing.Seen) (brought : List ℕ) (data_is : Option (List ℕ)) → StandsFor old q h → Settles q h owner tag body f d entry
    → brought_by entry ≡ data_is → new ≡ record old.outgoing { waiting = waits.Nothing } → brought ≡ unwrap_or data_is old.brought → StandsFor (record { negotiating = old.negotiating; outgoing = new; brought = brought }) q (entry ∷ h)
settled q h owner tag body f d entry old new brought data_is stands s brings rests is =
    heard_settled q h f d tag body entry old new brought stands s.sealed (heard q h owner tag body f d entry s.outcome) s.next rests
    (is ∙ ap (unwrap_or data_is) stands.shows.brought ∙ ap (λ (o : Option (List ℕ)). unwrap_or o (last_data h)) (sym brings))
