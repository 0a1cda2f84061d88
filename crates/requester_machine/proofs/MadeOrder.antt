-- The sessions of a made history are in order, and so their numbers are counts.
use Rattle.std.proofs.Common.{refl, ◌≡◌, ℕ, List, [], ◌∷◌, true, false, Bool, Option, Some, None, sym, subst}
use Rattle.std.specs.Prelude.{⊤, ◌==◌, nat_lt, length, if◌then◌else◌, Result, Ok, Err, is_some, drop}
use Rattle.std.proofs.lemmas.Bool.{false≢true}
use Rattle.negotiate.specs.declared.shared.Common.{Common}
use Rattle.spdm_basis.specs.declared.causes.record_fault.RecordFault.{RecordFault}
use Rattle.spdm_grammar.specs.Message.{RequestMessage}
use Rattle.spdm_grammar.specs.Message.RequestMessage.{GetMeasurements}
use Rattle.spdm_grammar.specs.Requests.{canonical_request}
use Rattle.spdm_grammar.specs.declared.told.event.ReqIgnored.{ReqIgnored}
use Rattle.spdm_machine.specs.Keys.{Draw}
use Rattle.spdm_machine.specs.Bodies.{clear_body, record_body}
use Rattle.requester_machine.specs.Setup.{ReqSetup}
use Rattle.requester_machine.specs.Asking.{Outcome, done, resent}
use Rattle.requester_machine.specs.Asking.Outcome.{Fails, Ignores, Warns, Resends, Adds}
use Rattle.requester_machine.specs.Bodies.{body_fault, is_clear}
use Rattle.requester_machine.specs.ClearAnswers.{clear_led}
use Rattle.requester_machine.specs.Commands.{Free, command_fault, exchange_for, needs_connection}
use Rattle.requester_machine.specs.Does.{IsMade, command_chosen, body_chosen, requester_asks, requester_hears}
use Rattle.requester_machine.specs.Hearing.{hears, hears_by, hears_to, on_record, record_outcome, came_to, clear_outcome}
use Rattle.requester_machine.specs.History.{History, Entry, Led, outstanding, sent_in, negotiation_of, next_handle, connection_terms}
use Rattle.requester_machine.specs.History.Entry.{Told, TookClear, TookRecord}
use Rattle.requester_machine.specs.InnerMessages.{Came}
use Rattle.requester_machine.specs.Laws.{SessionsAreInOrder, NumbersAreCounts}
use Rattle.requester_machine.specs.Message.{Command, Ask, Aim, Sent, asked_in}
use Rattle.requester_machine.specs.Message.Aim.{Plain, ByChunks, ForChunk, InSession}
use Rattle.requester_machine.specs.Message.Command.{Connect, Open, Send, Beat, Update, Measure, End, Retry}
use Rattle.requester_machine.specs.Order.{waits_for, waits_aim, Waits}
use Rattle.requester_machine.specs.Order.Waits.{Rests, ForExchange, ForRecord}
use Rattle.requester_machine.specs.Records.{answer_fault}
use Rattle.requester_machine.specs.Sending.{request_sent, piece_sent, plain_sent}
use Rattle.requester_machine.specs.Session.{session_of, begun, with_aim, Steps}
use Rattle.requester_machine.proofs.ClearOrder.{GoodResult, plain-good, by_chunks-good, for_chunk-good}
use Rattle.requester_machine.proofs.Entries.{asked, test_is_false}
use Rattle.requester_machine.proofs.Numbers.{counted}
use Rattle.requester_machine.proofs.Responses as response
use Rattle.requester_machine.specs.ResponseLaws.{ResponsesAreCounts}
use Rattle.requester_machine.proofs.RecordOrder.{record-good}
use Rattle.requester_machine.proofs.Steps.{Good, asked_good, either_good}
use Rattle.spdm_basis.proofs.Bools.{and_rest}

-- A session is good after an entry, and after an outcome.
abbrev GoodEntry : History → ℕ → Entry → Type 0
GoodEntry h id entry = Good (waits_for id (sent_in entry)) (session_of id (entry ∷ h))

abbrev GoodOutcome : History → ℕ → Outcome → Type 0
GoodOutcome h id (Fails fault) = ⊤
GoodOutcome h id (Ignores cause) = ⊤
GoodOutcome h id (Warns code) = ⊤
GoodOutcome h id (Resends sent) = ⊤
GoodOutcome h id (Adds entry) = GoodEntry h id entry

added : (h : History) (id : ℕ) (outcome : Outcome) (entry : Entry) → outcome ≡ Adds entry → GoodOutcome h id outcome → GoodEntry h id entry
added h id outcome entry is good = subst (GoodOutcome h id) is good

-- ---- Bodies.

clear_outcome-good : (h : History) (id tag : ℕ) (m : List ℕ) (d : Draw) (result : Result Led ReqIgnored) → GoodResult id (session_of id h) result → GoodOutcome h id (clear_outcome tag m d result)
unfolding session_of
clear_outcome-good h id tag m d (Err cause) good = tt
clear_outcome-good h id tag m d (Ok led) good = good

record_outcome-good : (h : History) (q : ReqSetup) (f : Free) (id tag : ℕ) (ask : Ask) (came : Came) (d : Draw) (fault : Option RecordFault)
    → Good (if came.id == id then ForRecord ask else Rests) (session_of id h) → GoodOutcome h id (record_outcome q h f tag ask came d fault)
unfolding session_of
record_outcome-good h q f id tag ask came d (Some fault) good = tt
record_outcome-good h q f id tag ask came d None good = record-good id (session_of id h) q h f came ask good

on_record-good : (h : History) (q : ReqSetup) (f : Free) (id tag of : ℕ) (ask : Ask) (sealed : List ℕ) (d : Draw)
    → Good (if of == id then ForRecord ask else Rests) (session_of id h) → GoodOutcome h id (on_record q h f tag of ask sealed d)
unfolding on_record
on_record-good h q f id tag of ask sealed d good = record_outcome-good h q f id tag ask (came_to q h of ask sealed) d (answer_fault q.psk (session_of of h) ask sealed) good

either_outcome : (h : History) (id : ℕ) (b : Bool) (x y : Outcome) → GoodOutcome h id x → GoodOutcome h id y → GoodOutcome h id (if b then x else y)
either_outcome h id true x y a c = a
either_outcome h id false x y a c = c

hears_to-good : (h : History) (q : ReqSetup) (f : Free) (id tag : ℕ) (body : List ℕ) (d : Draw) (aim : Aim)
    → Good (waits_aim id aim) (session_of id h) → GoodOutcome h id (hears_to q h f tag body d aim)
hears_to-good h q f id tag body d (Plain asked) good = clear_outcome-good h id tag (drop 1 body) d (clear_led q h f (Plain asked) asked (drop 1 body)) (plain-good id q h f asked (drop 1 body) good)
hears_to-good h q f id tag body d (ByChunks asked handle number) good = clear_outcome-good h id tag (drop 1 body) d (clear_led q h f (ByChunks asked handle number) asked (drop 1 body)) (by_chunks-good id q h f asked handle number (drop 1 body) good)
hears_to-good h q f id tag body d (ForChunk asked handle number before) good = clear_outcome-good h id tag (drop 1 body) d (clear_led q h f (ForChunk asked handle number before) asked (drop 1 body)) (for_chunk-good id q h f asked handle number before (drop 1 body) good)
hears_to-good h q f id tag body d (InSession of ask) good = either_outcome h id (is_clear body) _ (on_record q h f tag of ask (drop 1 body) d) tt (on_record-good h q f id tag of ask (drop 1 body) d good)

hears_by-good : (h : History) (q : ReqSetup) (f : Free) (id tag : ℕ) (body : List ℕ) (d : Draw) (waiting : Option Sent) (cause : Option ReqIgnored)
    → Good (waits_for id waiting) (session_of id h) → GoodOutcome h id (hears_by q h f tag body d waiting cause)
hears_by-good h q f id tag body d waiting (Some cause) good = tt
hears_by-good h q f id tag body d None None good = tt
hears_by-good h q f id tag body d (Some sent) None good = hears_to-good h q f id tag body d sent.aim good

hears-good : (h : History) (q : ReqSetup) (id : ℕ) (owner : Bool) (tag : ℕ) (body : List ℕ) (f : Free) (d : Draw)
    → Good (waits_for id (outstanding h)) (session_of id h) → GoodOutcome h id (hears q h owner tag body f d)
unfolding hears
hears-good h q id owner tag body f d good = hears_by-good h q f id tag body d (outstanding h) (body_fault q (outstanding h) owner tag body) good

-- ---- Commands.

pub nothing_waits : (id : ℕ) (waiting : Option Sent) → is_some waiting ≡ false → waits_for id waiting ≡ Rests
nothing_waits id None is = refl
nothing_waits id (Some sent) is = absurd (false≢true (sym is))

-- While a command that needs a connection is done, all sessions rest.
pub rests : (P : Waits → Steps → Type 0) (q : ReqSetup) (h : History) (id : ℕ) (command : Command) (f : Free) → command_fault false q h command f ≡ None → needs_connection command ≡ true
    → P (waits_for id (outstanding h)) (session_of id h) → P Rests (session_of id h)
rests P q h id command f none needs good =
    subst (λ w. P w (session_of id h)) (nothing_waits id (outstanding h) (and_rest (needs_connection command) (is_some (outstanding h)) (test_is_false false q h command f none 1) needs)) good

-- A property of a request that is sent, whole or in chunks.
pub sent_by_size : (P : Sent → Type 0) (common : Common) (h : History) (asked : RequestMessage) → P (piece_sent common h asked (next_handle h) 0) → P (plain_sent h asked) → P (request_sent common h asked)
sent_by_size P common h asked a c = by_size (nat_lt common.to_responder.transfer (length (canonical_request asked)))
  where
    by_size : (b : Bool) → P (if b then piece_sent common h asked (next_handle h) 0 else plain_sent h asked)
    by_size true = a
    by_size false = c

pub begun-good : (h : History) (q : ReqSetup) (f : Free) (id summary : ℕ) (common : Common) → Good Rests (session_of id h)
    → Good (waits_aim id ((request_sent common h (exchange_for q f summary)).aim)) (begun id (negotiation_of h) (asked_in ((request_sent common h (exchange_for q f summary)).aim)) (session_of id h))
begun-good h q f id summary common good =
    sent_by_size (λ sent. Good (waits_aim id sent.aim) (begun id (negotiation_of h) (asked_in sent.aim) (session_of id h))) common h (exchange_for q f summary)
    (either_good (f.id == id) ForExchange Rests _ (session_of id h) (refl, refl) good)
    (either_good (f.id == id) ForExchange Rests _ (session_of id h) (refl, refl) good)

measure-good : (h : History) (id op : ℕ) (common : Common) → Good Rests (session_of id h)
    → Good (waits_aim id ((request_sent common h (GetMeasurements op)).aim)) (with_aim id ((request_sent common h (GetMeasurements op)).aim) ((request_sent common h (GetMeasurements op)).content) (session_of id h))
measure-good h id op common good = sent_by_size (λ sent. Good (waits_aim id sent.aim) (with_aim id sent.aim sent.content (session_of id h))) common h (GetMeasurements op) good good

resent-good : (h : History) (id : ℕ) (waiting : Option Sent) → GoodOutcome h id (resent waiting)
resent-good h id None = tt
resent-good h id (Some sent) = tt

done-good : (q : ReqSetup) (h : History) (id : ℕ) (command : Command) (f : Free) (d : Draw)
    → command_fault false q h command f ≡ None → Good (waits_for id (outstanding h)) (session_of id h) → GoodOutcome h id (done q h command f d)
unfolding session_of
done-good q h id Connect f d none good = (tt, tt)
done-good q h id (Open summary) f d none good = begun-good h q f id summary (connection_terms h).common (rests Good q h id (Open summary) f none refl good)
done-good q h id (Send of bytes) f d none good = either_good (of == id) (ForRecord _) Rests _ (session_of id h) (asked_good _ _ _ (session_of id h) refl (rests Good q h id (Send of bytes) f none refl good)) (rests Good q h id (Send of bytes) f none refl good)
done-good q h id (Beat of) f d none good = either_good (of == id) (ForRecord _) Rests _ (session_of id h) (asked_good _ _ _ (session_of id h) refl (rests Good q h id (Beat of) f none refl good)) (rests Good q h id (Beat of) f none refl good)
done-good q h id (Update of all) f d none good = either_good (of == id) (ForRecord _) Rests _ (session_of id h) (asked_good _ _ _ (session_of id h) refl (rests Good q h id (Update of all) f none refl good)) (rests Good q h id (Update of all) f none refl good)
done-good q h id (Measure None op) f d none good = measure-good h id op (connection_terms h).common (rests Good q h id (Measure None op) f none refl good)
done-good q h id (Measure (Some of) op) f d none good = either_good (of == id) (ForRecord _) Rests _ (session_of id h) (asked_good _ _ _ (session_of id h) refl (rests Good q h id (Measure (Some of) op) f none refl good)) (rests Good q h id (Measure (Some of) op) f none refl good)
done-good q h id (End of) f d none good = either_good (of == id) (ForRecord _) Rests _ (session_of id h) (asked_good _ _ _ (session_of id h) refl (rests Good q h id (End of) f none refl good)) (rests Good q h id (End of) f none refl good)
done-good q h id Retry f d none good = resent-good h id (outstanding h)

told-good : (q : ReqSetup) (h : History) (id : ℕ) (command : Command) (d : Draw) (entry : Entry)
    → requester_asks false q h command d ≡ Adds entry → Good (waits_for id (outstanding h)) (session_of id h) → GoodEntry h id entry
told-good q h id command d entry is good =
    added h id (done q h command (command_chosen q h d) d) entry (asked false q h command (command_chosen q h d) d entry is).1
    (done-good q h id command (command_chosen q h d) d (asked false q h command (command_chosen q h d) d entry is).0 good)

-- ---- Made histories.

made-good : (q : ReqSetup) (h : History) (id : ℕ) → IsMade q h → Good (waits_for id (outstanding h)) (session_of id h)
unfolding session_of
made-good q [] id made = (tt, tt)
made-good q (Told command sent d ∷ older) id made = told-good q older id command d (Told command sent d) made.0 (made-good q older id made.1)
made-good q (TookClear tag m led d ∷ older) id made =
    added older id (requester_hears q older false tag (clear_body m) d) (TookClear tag m led d) made.0 (hears-good older q id false tag (clear_body m) (body_chosen q older d) d (made-good q older id made.1))
made-good q (TookRecord tag of sealed inner led d ∷ older) id made =
    added older id (requester_hears q older false tag (record_body sealed) d) (TookRecord tag of sealed inner led d) made.0 (hears-good older q id false tag (record_body sealed) (body_chosen q older d) d (made-good q older id made.1))

pub in_order : SessionsAreInOrder
in_order q h id made = record { ordered = (made-good q h id made).0; fits = (made-good q h id made).1 }

pub numbers : NumbersAreCounts
numbers q h id made = counted q.psk (session_of id h) (made-good q h id made).0

pub response_numbers : ResponsesAreCounts
response_numbers q h id made = response.counted q.psk (session_of id h) (made-good q h id made).0
