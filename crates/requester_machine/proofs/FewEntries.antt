-- The next numbers of a session stay few, entry by entry.
use Rattle.std.proofs.Common.{refl, ◌≡◌, ◌∙◌, ◌≤◌, ◌<◌, ◌+◌, ℕ, List, [], ◌∷◌, true, false, Bool, Option, Some, None, ap, sym, subst, arith, eqb-true}
use Rattle.std.specs.Prelude.{◌==◌, ◌||◌, ◌&&◌, not, nat_le, if◌then◌else◌, length, nat_lt}
use Rattle.std.proofs.lemmas.Bool.{false≢true, or_parts}
use Rattle.std.proofs.lemmas.Bool.Decides.{nat_tests}
use Rattle.spdm_grammar.specs.Message.{RequestMessage}
use Rattle.spdm_grammar.specs.Message.RequestMessage.{GetVersion, GetCapabilities, NegotiateAlgorithms, GetMeasurements, PskExchange}
use Rattle.spdm_grammar.specs.Requests.{canonical_request}
use Rattle.negotiate.specs.declared.shared.Common.{Common}
use Rattle.spdm_machine.specs.Keys.{Draw}
use Rattle.requester_machine.specs.Setup.{ReqSetup}
use Rattle.requester_machine.specs.Answers.{is_refused}
use Rattle.requester_machine.specs.Asking.{done}
use Rattle.requester_machine.specs.Asking.Outcome.{Adds}
use Rattle.requester_machine.specs.Commands.{Free, command_fault, exchange_for, session_in, is_spent, is_spent_at, has_reached}
use Rattle.requester_machine.specs.History.{History, Effect, Led, outstanding, negotiation_of, negotiates, connection_terms, next_handle}
use Rattle.requester_machine.specs.History.Effect.{Nothing, Grants, Refuses}
use Rattle.requester_machine.specs.History.Entry.{Told}
use Rattle.requester_machine.specs.Hearing.{came_to}
use Rattle.requester_machine.specs.Message.{Command, Ask, Aim, Sent, asked_in}
use Rattle.requester_machine.specs.Message.Ask.{AskData, AskBeat, AskUpdate, AskVerify, AskMeasure, AskChunk, AskEnd}
use Rattle.requester_machine.specs.Message.Command.{Connect, Open, Send, Beat, Update, Measure, End, Retry}
use Rattle.requester_machine.specs.Order.{Waits, waits_for, waits_aim, waits_asked, waiting_ask}
use Rattle.requester_machine.specs.Order.Waits.{Rests, ForRecord}
use Rattle.requester_machine.specs.Records.{answer_inner, asks_all}
use Rattle.requester_machine.specs.Sending.{plain_sent, piece_sent, request_sent}
use Rattle.requester_machine.specs.Session.{Steps, session_of, is_live, with_sent, begun, with_aim, after_clear, after_record, request_next, response_next}
use Rattle.requester_machine.specs.Session.Step.{Started}
use Rattle.requester_machine.specs.UnderWay.{AreUnderWay, AreBehind}
use Rattle.requester_machine.proofs.ClearLeads.{ClearLeads, either}
use Rattle.requester_machine.proofs.ClearLeads.ClearLeads.{ByRefusal, ByLarge, BySend, ByGet, ByStop, ByVersion, ByCaps, ByChoice, ByMeasured, ByExchange}
use Rattle.requester_machine.proofs.Collected.{one_more}
use Rattle.requester_machine.proofs.Entries.{test_is_false}
use Rattle.requester_machine.proofs.Few.{Few, none_few, asked_few, begun_few, unreached, exchange_few, refused_few, end_few, done_few, next_few, answered_few, updated_few, first_few, chunk_few}
use Rattle.requester_machine.specs.SpentLaws.{FewBy, FewFor}
use Rattle.requester_machine.proofs.HoldsTold.{told_sent, resent_adds, somewhere}
use Rattle.requester_machine.proofs.RecordLeads.{RecordLeads, Follows}
use Rattle.requester_machine.proofs.RecordLeads.Follows.{ToAsk, ToWhole}
use Rattle.requester_machine.proofs.RecordLeads.RecordLeads.{ByEnd, ByAnswer, ByUpdate, ByFirst, ByChunk}
use Rattle.requester_machine.proofs.MadeOrder.{rests}

-- ---- Commands.

-- What room is left for each command.
pub room_for_one : (s : Steps) → has_reached 65535 s ≡ false → (request_next s + 1 ≤ 65535) × (response_next s ≤ 65534)
room_for_one s is = (let u = unreached 65535 s is in let r = u.0 in let p = u.1 in (omega (arith, r), omega (arith, p)))

pub less : (n m : ℕ) → nat_le m n ≡ false → n < m
less n m is = grind (arith, nat_tests)

room_for_update : (s : Steps) (all : Bool) → (not all && (has_reached 65535 s || nat_le 65534 (response_next s))) ≡ false → FewBy Rests s → FewFor (AskUpdate all) (request_next s + 1) (response_next s)
room_for_update s true is few = (let r = few.0 in let p = few.1 in (omega (arith, r), omega (arith, p)))
room_for_update s false is few =
    let e = or_parts (has_reached 65535 s) (nat_le 65534 (response_next s)) is in
    let one = room_for_one s e.0 in
    let p = less (response_next s) 65534 e.1 in
    (one.0, omega (arith, p))

pub room_for_large : (s : Steps) → has_reached 65300 s ≡ false → (request_next s + 1 ≤ 65300) × (response_next s ≤ 65299)
room_for_large s is = (let u = unreached 65300 s is in let r = u.0 in let p = u.1 in (omega (arith, r), omega (arith, p)))

room_for_end : (s : Steps) → FewBy Rests s → FewFor AskEnd (request_next s + 1) (response_next s)
room_for_end s few = (let r = few.0 in let p = few.1 in (omega (arith, r), omega (arith, p)))

-- The session that is asked is that of this id, where the ids are the same.
unspent : (q : ReqSetup) (h : History) (f : Free) (command : Command) (of id : ℕ) → command_fault false q h command f ≡ None → session_in command ≡ Some of → (of == id) ≡ true → is_spent (session_of id h) command ≡ false
unspent q h f command of id none named same =
    subst (λ (n : ℕ). is_spent (session_of n h) command ≡ false) (eqb-true of id same) (sym (ap (λ (o : Option ℕ). is_spent_at h o command) named) ∙ test_is_false false q h command f none 7)

lives : (q : ReqSetup) (h : History) (f : Free) (command : Command) (of id : ℕ) → command_fault false q h command f ≡ None → session_in command ≡ Some of → (of == id) ≡ true → is_live (session_of id h) ≡ true
lives q h f command of id none named same = subst (λ (n : ℕ). is_live (session_of n h) ≡ true) (eqb-true of id same) (somewhere q h command f of none named)

open_few : (h : History) (q : ReqSetup) (f : Free) (id summary : ℕ) (common : Common) → Few Rests (session_of id h)
    → Few (waits_aim id ((request_sent common h (exchange_for q f summary)).aim)) (begun id (negotiation_of h) (asked_in ((request_sent common h (exchange_for q f summary)).aim)) (session_of id h))
open_few h q f id summary common few =
    either (λ (sent : Sent). Few (waits_aim id sent.aim) (begun id (negotiation_of h) (asked_in sent.aim) (session_of id h))) (nat_lt common.to_responder.transfer (length (canonical_request (exchange_for q f summary))))
    (piece_sent common h (exchange_for q f summary) (next_handle h) 0) (plain_sent h (exchange_for q f summary))
    (begun_few (f.id == id) (Started (negotiation_of h) (canonical_request (exchange_for q f summary))) (session_of id h) ((omega arith, omega arith), tt) few)
    (begun_few (f.id == id) (Started (negotiation_of h) (canonical_request (exchange_for q f summary))) (session_of id h) ((omega arith, omega arith), tt) few)

measure_few : (h : History) (id op : ℕ) (common : Common) → Few Rests (session_of id h)
    → Few (waits_aim id ((request_sent common h (GetMeasurements op)).aim)) (with_aim id ((request_sent common h (GetMeasurements op)).aim) ((request_sent common h (GetMeasurements op)).content) (session_of id h))
measure_few h id op common few =
    either (λ (sent : Sent). Few (waits_aim id sent.aim) (with_aim id sent.aim sent.content (session_of id h))) (nat_lt common.to_responder.transfer (length (canonical_request (GetMeasurements op))))
    (piece_sent common h (GetMeasurements op) (next_handle h) 0) (plain_sent h (GetMeasurements op)) few few

abbrev FewTold : History → ℕ → Command → Draw → Sent → Type 0
FewTold h id command d sent = Few (waits_aim id sent.aim) (session_of id (Told command sent d ∷ h))

pub told_few : (q : ReqSetup) (h : History) (id : ℕ) (command : Command) (f : Free) (d : Draw) (sent : Sent)
    → command_fault false q h command f ≡ None → done q h command f d ≡ Adds (Told command sent d) → Few (waits_for id (outstanding h)) (session_of id h) → Few (waits_aim id sent.aim) (session_of id (Told command sent d ∷ h))
unfolding session_of
told_few q h id Connect f d sent none is few = subst (FewTold h id Connect d) (told_sent Connect _ sent d is) none_few
told_few q h id (Open summary) f d sent none is few =
    subst (FewTold h id (Open summary) d) (told_sent (Open summary) _ sent d is) (open_few h q f id summary (connection_terms h).common (rests Few q h id (Open summary) f none refl few))
told_few q h id (Send of bytes) f d sent none is few =
    subst (FewTold h id (Send of bytes) d) (told_sent (Send of bytes) _ sent d is)
    (asked_few (of == id) AskData _ _ (session_of id h) (lives q h f (Send of bytes) of id none refl) (λ same r. room_for_one (session_of id h) (unspent q h f (Send of bytes) of id none refl same)) (rests Few q h id (Send of bytes) f none refl few))
told_few q h id (Beat of) f d sent none is few =
    subst (FewTold h id (Beat of) d) (told_sent (Beat of) _ sent d is)
    (asked_few (of == id) AskBeat _ _ (session_of id h) (lives q h f (Beat of) of id none refl) (λ same r. room_for_one (session_of id h) (unspent q h f (Beat of) of id none refl same)) (rests Few q h id (Beat of) f none refl few))
told_few q h id (Update of all) f d sent none is few =
    subst (FewTold h id (Update of all) d) (told_sent (Update of all) _ sent d is)
    (asked_few (of == id) (AskUpdate all) _ _ (session_of id h) (lives q h f (Update of all) of id none refl) (λ same r. room_for_update (session_of id h) all (unspent q h f (Update of all) of id none refl same) r) (rests Few q h id (Update of all) f none refl few))
told_few q h id (Measure None op) f d sent none is few =
    subst (FewTold h id (Measure None op) d) (told_sent (Measure None op) _ sent d is) (measure_few h id op (connection_terms h).common (rests Few q h id (Measure None op) f none refl few))
told_few q h id (Measure (Some of) op) f d sent none is few =
    subst (FewTold h id (Measure (Some of) op) d) (told_sent (Measure (Some of) op) _ sent d is)
    (asked_few (of == id) (AskMeasure op) _ _ (session_of id h) (lives q h f (Measure (Some of) op) of id none refl) (λ same r. room_for_large (session_of id h) (unspent q h f (Measure (Some of) op) of id none refl same)) (rests Few q h id (Measure (Some of) op) f none refl few))
told_few q h id (End of) f d sent none is few =
    subst (FewTold h id (End of) d) (told_sent (End of) _ sent d is)
    (asked_few (of == id) AskEnd _ _ (session_of id h) (lives q h f (End of) of id none refl) (λ same r. room_for_end (session_of id h) r) (rests Few q h id (End of) f none refl few))
told_few q h id Retry f d sent none is few = resent_adds (outstanding h) (Told Retry sent d) is

-- ---- Clear messages.

negotiation_rests : (id : ℕ) (asked : RequestMessage) → negotiates asked ≡ true → waits_asked id asked ≡ Rests
negotiation_rests id GetVersion is = refl
negotiation_rests id (GetCapabilities caps) is = refl
negotiation_rests id (NegotiateAlgorithms offer) is = refl
negotiation_rests id _ is = absurd (false≢true is)

module _ (q : ReqSetup) (h : History) (f : Free) (aim : Aim) (m : List ℕ) (id : ℕ) where
  abbrev FewLed : Led → Type 0
  FewLed led = Few (waits_for id led.next) (with_sent id led.next (after_clear id led.effect (session_of id h)))

  refused_led : (code : ℕ) (asked : RequestMessage) → Few (waits_asked id asked) (session_of id h) → FewLed (is_refused code (Refuses asked))
  refused_led code (PskExchange exchange) few = refused_few (exchange.req_id == id) (session_of id h) few
  refused_led code _ few = few

  clear_led_few : (asked : RequestMessage) (led : Led) → ClearLeads q h f aim m asked led → Few (waits_asked id asked) (session_of id h) → FewLed led
  clear_led_few asked led (ByRefusal code is) few = subst FewLed (sym is) (refused_led code asked few)
  clear_led_few asked led (ByLarge handle may is) few = subst FewLed (sym is) few
  clear_led_few asked led (BySend handle number aims more is) few = subst FewLed (sym is) few
  clear_led_few asked led (ByGet handle number before c aims none more is) few = subst FewLed (sym is) few
  clear_led_few asked led (ByStop why negotiation is) few = subst FewLed (sym is) (subst (λ (w : Waits). Few w (session_of id h)) (negotiation_rests id asked negotiation) few)
  clear_led_few asked led (ByVersion answer was is) few = subst FewLed (sym is) (subst (λ (r : RequestMessage). Few (waits_asked id r) (session_of id h)) was few)
  clear_led_few asked led (ByCaps caps theirs answer common offer was read shared offered short is) few =
      subst FewLed (sym is)
      (either (λ (sent : Sent). Few (waits_aim id sent.aim) (with_aim id sent.aim sent.content (session_of id h))) (nat_lt common.to_responder.transfer (length (canonical_request (NegotiateAlgorithms offer))))
      (piece_sent common h (NegotiateAlgorithms offer) (next_handle h) 0) (plain_sent h (NegotiateAlgorithms offer))
      (subst (λ (r : RequestMessage). Few (waits_asked id r) (session_of id h)) was few) (subst (λ (r : RequestMessage). Few (waits_asked id r) (session_of id h)) was few))
  clear_led_few asked led (ByChoice offer answer was is) few = subst FewLed (sym is) (subst (λ (r : RequestMessage). Few (waits_asked id r) (session_of id h)) was few)
  clear_led_few asked led (ByMeasured op answer finish was is) few = subst FewLed (sym is) (subst (λ (r : RequestMessage). Few (waits_asked id r) (session_of id h)) was few)
  clear_led_few asked led (ByExchange exchange answer rsp was read right is) few =
      subst FewLed (sym is) (exchange_few (exchange.req_id == id) answer _ _ (session_of id h) (subst (λ (r : RequestMessage). Few (waits_asked id r) (session_of id h)) was few))

pub clear_few : (q : ReqSetup) (h : History) (f : Free) (aim : Aim) (m : List ℕ) (id : ℕ) (asked : RequestMessage) (led : Led) → ClearLeads q h f aim m asked led → Few (waits_asked id asked) (session_of id h)
    → Few (waits_for id led.next) (with_sent id led.next (after_clear id led.effect (session_of id h)))
clear_few q h f aim m id asked led leads few = clear_led_few q h f aim m id asked led leads few

-- ---- Records.

module _ (q : ReqSetup) (h : History) (f : Free) (of id : ℕ) (ask : Ask) (sealed : List ℕ) (waits : waiting_ask (session_of of h) ≡ Some ask) where
  abbrev FewNext : Effect → Option Sent → Type 0
  FewNext effect next = Few (waits_for id next) (if of == id then with_sent id next (after_record sealed (answer_inner q.psk (session_of of h) ask sealed) effect (session_of id h)) else session_of id h)

  abbrev FewRecord : Led → Type 0
  FewRecord led = FewNext led.effect led.next

  waits_here : (of == id) ≡ true → waiting_ask (session_of id h) ≡ Some ask
  waits_here same = subst (λ (n : ℕ). waiting_ask (session_of n h) ≡ Some ask) (eqb-true of id same) waits

  here : (a : Ask) → ask ≡ a → (of == id) ≡ true → waiting_ask (session_of id h) ≡ Some a
  here a asks same = waits_here same ∙ ap Some asks

  first_led : (op handle : ℕ) → Follows (came_to q h of ask sealed) ask op → (of == id) ≡ true → FewFor ask (request_next (session_of id h)) (response_next (session_of id h))
      → (request_next (session_of id h) ≤ 65300) × (response_next (session_of id h) ≤ 65299) × (asks_all ask ≡ false)
  first_led op handle (ToAsk asks) same few =
      (let g = subst (λ (a : Ask). FewFor a (request_next (session_of id h)) (response_next (session_of id h))) asks few in (g.0, g.1, ap asks_all asks))
  first_led op handle (ToWhole its_handle number before asks unspent) same few =
      let u = unreached 65300 (session_of id h) (subst (λ (n : ℕ). has_reached 65300 (session_of n h) ≡ false) (eqb-true of id same) unspent) in
      let r = u.0 in
      let p = u.1 in
      (omega (arith, r), omega (arith, p), ap asks_all asks)

  record_led_few : (led : Led) → AreBehind q ask → RecordLeads q h f (came_to q h of ask sealed) ask led → Few (if of == id then ForRecord ask else Rests) (session_of id h) → FewRecord led
  record_led_few led behind (ByEnd is none) few =
      subst (FewNext led.effect) (sym none) (end_few (of == id) sealed (answer_inner q.psk (session_of of h) ask sealed) led.effect ask (session_of id h) is few)
  record_led_few led behind (ByAnswer stays other brings none) few =
      subst (FewNext led.effect) (sym none)
      (done_few (of == id) sealed (answer_inner q.psk (session_of of h) ask sealed) led.effect ask (session_of id h) stays
      (λ same g. answered_few sealed (answer_inner q.psk (session_of of h) ask sealed) led.effect ask (session_of id h) brings other (waits_here same) g) few)
  record_led_few led behind (ByUpdate all asks is) few =
      subst FewRecord (sym is)
      (next_few (of == id) sealed (answer_inner q.psk (session_of of h) ask sealed) (Grants (AskUpdate all) _) (AskUpdate all) AskVerify _ _ (session_of id h) refl
      (λ same g. updated_few sealed (answer_inner q.psk (session_of of h) ask sealed) _ all (session_of id h) (here (AskUpdate all) asks same) g)
      (subst (λ (a : Ask). Few (if of == id then ForRecord a else Rests) (session_of id h)) asks few))
  record_led_few led behind (ByFirst op handle follows is) few =
      subst FewRecord (sym is)
      (next_few (of == id) sealed (answer_inner q.psk (session_of of h) ask sealed) Nothing ask (AskChunk op handle 0 []) _ _ (session_of id h) refl
      (λ same g. let r = first_led op handle follows same g in first_few sealed (answer_inner q.psk (session_of of h) ask sealed) ask op handle (session_of id h) r.2 (waits_here same) r.0 r.1)
      few)
  record_led_few led behind (ByChunk op handle number before c asks none more is) few =
      let u : AreUnderWay q.max handle number before = subst (AreBehind q) asks behind in
      let v : AreUnderWay q.max c.handle (c.number + 1) (c ∷ before) = one_more q.max handle number before c none more u in
      let n = u.counted in
      let n' = v.counted in
      subst FewRecord (sym is)
      (next_few (of == id) sealed (answer_inner q.psk (session_of of h) ask sealed) Nothing (AskChunk op handle number before) (AskChunk op c.handle (c.number + 1) (c ∷ before)) _ _ (session_of id h) refl
      (λ same g. chunk_few sealed (answer_inner q.psk (session_of of h) ask sealed) op handle number op c.handle (c.number + 1) before (c ∷ before) (session_of id h) (here (AskChunk op handle number before) asks same)
      (omega (arith, n, n')) v.few g)
      (subst (λ (a : Ask). Few (if of == id then ForRecord a else Rests) (session_of id h)) asks few))

pub record_few : (q : ReqSetup) (h : History) (f : Free) (of id : ℕ) (ask : Ask) (sealed : List ℕ) (led : Led) → waiting_ask (session_of of h) ≡ Some ask → AreBehind q ask → RecordLeads q h f (came_to q h of ask sealed) ask led
    → Few (if of == id then ForRecord ask else Rests) (session_of id h)
    → Few (waits_for id led.next) (if of == id then with_sent id led.next (after_record sealed (answer_inner q.psk (session_of of h) ask sealed) led.effect (session_of id h)) else session_of id h)
record_few q h f of id ask sealed led waits behind leads few = record_led_few q h f of id ask sealed waits led behind leads few
