-- What is taken had the tags that were computed.
use Rattle.std.proofs.Common.{refl, ◌≡◌, ℕ, List, [], ◌∷◌, ◌++◌, true, false, Bool, Option, Some, None, sym, subst}
use Rattle.std.specs.Prelude.{⊤, not, if◌then◌else◌, Result, Ok, Err, is_none, drop}
use Rattle.std.specs.Result.{result_ok}
use Rattle.std.proofs.lemmas.Option.{none-some}
use Rattle.std.proofs.lemmas.Slice.Eq.{bytes_eq-Decides}
use Rattle.key_schedule.specs.Purpose.{Purpose, key_of, iv_of}
use Rattle.std.proofs.lemmas.Slice.Eq.{bytes_eq-Decides}
use Rattle.secured_record.specs.Faults.{fault_of, fault_behind, header_fault, is_authentic, tag_part}
use Rattle.spdm_basis.specs.declared.causes.record_fault.RecordFault.{RecordFault}
use Rattle.spdm_basis.specs.declared.causes.record_fault.RecordFault.TheVariants.{BadTag}
use Rattle.spdm_grammar.specs.Message.{RequestMessage, ResponseMessage}
use Rattle.spdm_grammar.specs.Message.RequestMessage.{PskExchange}
use Rattle.spdm_grammar.specs.Message.ResponseMessage.{PskExchangeRsp}
use Rattle.spdm_grammar.specs.declared.messages.choice.Choice.{Choice}
use Rattle.spdm_grammar.specs.declared.told.event.ReqIgnored.{ReqIgnored}
use Rattle.spdm_grammar.specs.declared.told.event.ReqIgnored.TheVariants as ignored
use Rattle.spdm_grammar.specs.declared.messages.malformed.Malformed.{Malformed}
use Rattle.spdm_machine.specs.Keys.{Draw, record_fault}
use Rattle.requester_machine.specs.Setup.{ReqSetup}
use Rattle.spdm_machine.specs.TagLog.{Act, record_tag, record_input}
use Rattle.spdm_machine.specs.TagLog.Act.{Checked}
use Rattle.requester_machine.specs.Answers.{answer_verify, with_answer}
use Rattle.requester_machine.specs.Asking.{Outcome}
use Rattle.requester_machine.specs.Asking.Outcome.{Fails, Ignores, Warns, Resends, Adds}
use Rattle.requester_machine.specs.Bodies.{body_fault, is_clear}
use Rattle.requester_machine.specs.ClearAnswers.{Carried, carried_by, carried_led, read_led, reading_of, clear_led}
use Rattle.requester_machine.specs.ClearAnswers.Carried.{Ignored, Refused, Further, Whole}
use Rattle.requester_machine.specs.Commands.{Free}
use Rattle.requester_machine.specs.Hearing.{hears, hears_by, hears_to, on_record, record_outcome, came_to, clear_outcome}
use Rattle.requester_machine.specs.History.{History, Effect, Led, outstanding}
use Rattle.requester_machine.specs.History.Effect.{Answers}
use Rattle.requester_machine.specs.InnerMessages.{inner_led, or_lost, with_record}
use Rattle.requester_machine.specs.Laws.{AreRight, TakenTagsAreRight}
use Rattle.requester_machine.specs.Message.{Ask, Aim, Content, Sent, asked_in}
use Rattle.requester_machine.specs.Message.Aim.{Plain, ByChunks, ForChunk, InSession}
use Rattle.requester_machine.specs.Message.Content.{Clear, Sealed}
use Rattle.requester_machine.specs.Records.{answer_fault, answer_purpose, answer_number}
use Rattle.requester_machine.specs.RequesterLog.{acts_of, record_made, sent_made, finish_made, answer_made, read_check, carried_check, aim_check, clear_check, check_at, sealed_check, record_check}
use Rattle.requester_machine.specs.Session.{Steps, session_of, session_terms, id_bytes}

-- ---- What is made.

append-right : (a b : List Act) → AreRight a → AreRight b → AreRight (a ++ b)
append-right [] b x y = y
append-right (act ∷ a) b x y = (x.0, append-right a b x.1 y)

record_made-right : (psk : List ℕ) (s : Steps) (content : Content) → AreRight (record_made psk s content)
record_made-right psk s (Clear message) = tt
record_made-right psk s (Sealed sealed inner pad) = (tt, tt)

sent_made-right : (psk : List ℕ) (s : Steps) (next : Option Sent) → AreRight (sent_made psk s next)
sent_made-right psk s None = tt
sent_made-right psk s (Some sent) = record_made-right psk s sent.content

answer_made-right : (psk : List ℕ) (h : History) (effect : Effect) (next : Option Sent) → AreRight (answer_made psk h effect next)
answer_made-right psk h (Answers (PskExchange exchange) answer) next =
    append-right (sent_made psk (with_answer h exchange answer) next) (finish_made psk (with_answer h exchange answer) ∷ []) (sent_made-right psk (with_answer h exchange answer) next) (tt, tt)
answer_made-right psk h _ next = tt

-- ---- Verify data.

was_right : (b : Bool) (x led : Led) (cause : ReqIgnored) → result_ok (if b then Ok x else Err cause) ≡ Some led → b ≡ true
was_right true x led cause is = refl
was_right false x led cause is = absurd (none-some led is)

read-right : (q : ReqSetup) (h : History) (f : Free) (place : ℕ) (asked : RequestMessage) (answer : List ℕ) (reading : Result ResponseMessage Malformed) (led : Led)
    → result_ok (read_led q h f place asked answer reading) ≡ Some led → AreRight (read_check q h asked answer reading)
read-right q h f place (PskExchange exchange) answer (Ok (PskExchangeRsp rsp)) led is =
    (sym ((bytes_eq-Decides rsp.verify (answer_verify q.psk (with_answer h exchange answer))).0 (was_right _ _ led ignored.BadVerify is)), tt)
read-right q h f place _ answer reading led is = tt

carried-right : (q : ReqSetup) (h : History) (f : Free) (asked : RequestMessage) (carried : Carried) (led : Led)
    → result_ok (carried_led q h f asked carried) ≡ Some led → AreRight (carried_check q h asked carried)
carried-right q h f asked (Ignored cause) led is = tt
carried-right q h f asked (Refused code) led is = tt
carried-right q h f asked (Further next) led is = tt
carried-right q h f asked (Whole answer place) led is = read-right q h f place asked answer (reading_of h asked answer) led is

clear-right : (q : ReqSetup) (h : History) (f : Free) (aim : Aim) (asked : RequestMessage) (m : List ℕ) (led : Led)
    → result_ok (clear_led q h f aim asked m) ≡ Some led → AreRight (carried_check q h asked (carried_by q h m aim))
unfolding clear_led
clear-right q h f aim asked m led is = carried-right q h f asked (carried_by q h m aim) led is

-- ---- Records.

first_passed : (b : Bool) (fault : RecordFault) (others : Option RecordFault) → (if not b then Some fault else others) ≡ None → b ≡ true
first_passed true fault others is = refl
first_passed false fault others is = absurd (none-some fault (sym is))

behind-right : (header : Option RecordFault) (key iv id : List ℕ) (number : ℕ) (sealed : List ℕ) → fault_behind header key iv number sealed ≡ None → is_authentic key iv number sealed ≡ true
behind-right (Some fault) key iv id number sealed is = absurd (none-some fault (sym is))
behind-right None key iv id number sealed is = first_passed (is_authentic key iv number sealed) BadTag _ is

opened-right : (choice : Choice) (p : Purpose) (number : ℕ) (id sealed : List ℕ) → record_fault choice p number id sealed ≡ None → record_tag choice p number sealed ≡ tag_part sealed
unfolding record_fault fault_of is_authentic record_tag
opened-right choice p number id sealed is =
    sym ((bytes_eq-Decides _ _).0 (behind-right (header_fault id number sealed) (key_of choice.hash choice.aead p) (iv_of choice.hash p) id number sealed is))

checked-right : (b : Bool) (act : Act) → AreRight (act ∷ []) → AreRight (if b then act ∷ [] else [])
checked-right true act is = is
checked-right false act is = tt

record-right : (q : ReqSetup) (s : Steps) (ask : Ask) (sealed : List ℕ) → answer_fault q.psk s ask sealed ≡ None → AreRight (record_check q s ask sealed)
unfolding answer_fault
record-right q s ask sealed is =
    checked-right (is_none (header_fault (id_bytes s) (answer_number s ask) sealed)) (Checked (answer_purpose q.psk s ask) (record_input (answer_number s ask) sealed) (record_tag (session_terms s).choice (answer_purpose q.psk s ask) (answer_number s ask) sealed) (tag_part sealed))
    (opened-right (session_terms s).choice (answer_purpose q.psk s ask) (answer_number s ask) (id_bytes s) sealed is, tt)

-- ---- By outcome. The outstanding message is known.

abbrev RightOutcome : ReqSetup → History → List ℕ → Outcome → Type 0
RightOutcome q h body (Fails fault) = ⊤
RightOutcome q h body (Ignores cause) = ⊤
RightOutcome q h body (Warns code) = ⊤
RightOutcome q h body (Resends sent) = ⊤
RightOutcome q h body (Adds entry) = AreRight (acts_of q h body (Adds entry))

clear_outcome-right : (q : ReqSetup) (h : History) (body : List ℕ) (tag : ℕ) (m : List ℕ) (d : Draw) (result : Result Led ReqIgnored)
    → ((led : Led) → result_ok result ≡ Some led → AreRight (clear_check q h m (outstanding h)))
    → RightOutcome q h body (clear_outcome tag m d result)
clear_outcome-right q h body tag m d (Err cause) right = tt
clear_outcome-right q h body tag m d (Ok led) right = append-right (answer_made q.psk h led.effect led.next) (clear_check q h m (outstanding h)) (answer_made-right q.psk h led.effect led.next) (right led refl)

-- A clear message to a request with an aim that asks for it.
aimed-right : (q : ReqSetup) (h : History) (f : Free) (sent : Sent) (aim : Aim) (asked : RequestMessage) (m : List ℕ) (led : Led)
    → outstanding h ≡ Some sent → sent.aim ≡ aim → asked_in aim ≡ Some asked
    → result_ok (clear_led q h f aim asked m) ≡ Some led → AreRight (clear_check q h m (outstanding h))
aimed-right q h f sent aim asked m led waiting aimed asks is =
    subst (λ w. AreRight (clear_check q h m w)) (sym waiting)
    (subst (λ a. AreRight (aim_check q h m a (asked_in a))) (sym aimed)
    (subst (λ o. AreRight (aim_check q h m aim o)) (sym asks) (clear-right q h f aim asked m led is)))

either_right : (q : ReqSetup) (h : History) (body : List ℕ) (b : Bool) (x y : Outcome) → RightOutcome q h body x → RightOutcome q h body y → RightOutcome q h body (if b then x else y)
either_right q h body true x y a c = a
either_right q h body false x y a c = c

took-right : (q : ReqSetup) (h : History) (f : Free) (body : List ℕ) (tag : ℕ) (sent : Sent) (id : ℕ) (ask : Ask) (sealed : List ℕ) (d : Draw) (fault : Option RecordFault)
    → outstanding h ≡ Some sent → sent.aim ≡ InSession id ask → answer_fault q.psk (session_of id h) ask sealed ≡ fault
    → RightOutcome q h body (record_outcome q h f tag ask (came_to q h id ask sealed) d fault)
took-right q h f body tag sent id ask sealed d (Some fault) waiting aimed is = tt
took-right q h f body tag sent id ask sealed d None waiting aimed is =
    append-right (sent_made q.psk (with_record (came_to q h id ask sealed) led.effect) led.next) (sealed_check q h sealed (outstanding h))
    (sent_made-right q.psk (with_record (came_to q h id ask sealed) led.effect) led.next)
    (subst (λ w. AreRight (sealed_check q h sealed w)) (sym waiting)
    (subst (λ a. AreRight (check_at q h sealed a)) (sym aimed) (record-right q (session_of id h) ask sealed is)))
  where
    led : Led
    led = or_lost (came_to q h id ask sealed) (inner_led q h f (came_to q h id ask sealed) ask)

on_record-right : (q : ReqSetup) (h : History) (f : Free) (body : List ℕ) (tag : ℕ) (sent : Sent) (id : ℕ) (ask : Ask) (sealed : List ℕ) (d : Draw)
    → outstanding h ≡ Some sent → sent.aim ≡ InSession id ask → RightOutcome q h body (on_record q h f tag id ask sealed d)
unfolding on_record
on_record-right q h f body tag sent id ask sealed d waiting aimed = took-right q h f body tag sent id ask sealed d (answer_fault q.psk (session_of id h) ask sealed) waiting aimed refl

hears_to-right : (q : ReqSetup) (h : History) (f : Free) (tag : ℕ) (body : List ℕ) (d : Draw) (sent : Sent) (aim : Aim)
    → outstanding h ≡ Some sent → sent.aim ≡ aim → RightOutcome q h body (hears_to q h f tag body d aim)
hears_to-right q h f tag body d sent (Plain asked) waiting aimed =
    clear_outcome-right q h body tag (drop 1 body) d (clear_led q h f (Plain asked) asked (drop 1 body)) (λ led is. aimed-right q h f sent (Plain asked) asked (drop 1 body) led waiting aimed refl is)
hears_to-right q h f tag body d sent (ByChunks asked handle number) waiting aimed =
    clear_outcome-right q h body tag (drop 1 body) d (clear_led q h f (ByChunks asked handle number) asked (drop 1 body)) (λ led is. aimed-right q h f sent (ByChunks asked handle number) asked (drop 1 body) led waiting aimed refl is)
hears_to-right q h f tag body d sent (ForChunk asked handle number before) waiting aimed =
    clear_outcome-right q h body tag (drop 1 body) d (clear_led q h f (ForChunk asked handle number before) asked (drop 1 body)) (λ led is. aimed-right q h f sent (ForChunk asked handle number before) asked (drop 1 body) led waiting aimed refl is)
hears_to-right q h f tag body d sent (InSession id ask) waiting aimed =
    either_right q h body (is_clear body) _ (on_record q h f tag id ask (drop 1 body) d) tt (on_record-right q h f body tag sent id ask (drop 1 body) d waiting aimed)

hears_by-right : (q : ReqSetup) (h : History) (f : Free) (tag : ℕ) (body : List ℕ) (d : Draw) (waiting : Option Sent) (cause : Option ReqIgnored)
    → outstanding h ≡ waiting → RightOutcome q h body (hears_by q h f tag body d waiting cause)
hears_by-right q h f tag body d waiting (Some cause) is = tt
hears_by-right q h f tag body d None None is = tt
hears_by-right q h f tag body d (Some sent) None is = hears_to-right q h f tag body d sent sent.aim is refl

pub right : TakenTagsAreRight
unfolding hears
right q h owner tag body f d entry is = subst (RightOutcome q h body) is (hears_by-right q h f tag body d (outstanding h) (body_fault q (outstanding h) owner tag body) refl)
