-- A command does the same with histories of a requester that agree.
use Rattle.std.proofs.Common.{◌≡◌, ◌%◌, ℕ, List, ◌∷◌, refl, ap, ◌∙◌, Bool, Option, Some, None}
use Rattle.std.specs.Prelude.{not}
use Rattle.spdm_basis.specs.Tests.{first_of_tests}
use Rattle.spdm_grammar.specs.Message.{RequestMessage}
use Rattle.spdm_grammar.specs.Message.RequestMessage.{GetVersion, GetMeasurements, Heartbeat, EndSession}
use Rattle.spdm_grammar.specs.Requests.{canonical_request}
use Rattle.spdm_grammar.specs.declared.told.command_fault.CommandFault.{CommandFault}
use Rattle.spdm_grammar.specs.declared.told.command_fault.CommandFault.TheVariants as fault
use Rattle.spdm_machine.specs.Keys.{Draw}
use Rattle.spdm_machine.specs.Sessions.{one_if}
use Rattle.spdm_machine.specs.Terms.{Terms, terms_of}
use Rattle.requester_machine.specs.Setup.{ReqSetup}
use Rattle.requester_machine.specs.Asking.{asks, asks_by, done, asked_sent, resent}
use Rattle.requester_machine.specs.Asking.Outcome.{Adds}
use Rattle.requester_machine.specs.Commands.{Free, command_fault, command_tests, session_in, is_nowhere, live_count, terms_at, is_spent_at, is_spent, is_long, exchange_for}
use Rattle.requester_machine.specs.History.{History, connection_terms, next_tag, next_handle}
use Rattle.requester_machine.specs.History.Entry.{Told}
use Rattle.requester_machine.specs.Message.{Command, Ask, Aim}
use Rattle.requester_machine.specs.Message.Ask.{AskData, AskBeat, AskUpdate, AskMeasure, AskEnd}
use Rattle.requester_machine.specs.Message.Command.{Connect, Open, Send, Beat, Update, Measure, End, Retry}
use Rattle.requester_machine.specs.Sending.{request_sent, record_sent, inner_request, inner_data, key_update, operation_of, clear_sent, is_too_long}
use Rattle.requester_machine.specs.Session.{Steps, session_of, is_live, session_terms}
use Rattle.capture_machine.proofs.Agrees.{Agree}

pub terms_same : (h g : History) → Agree h g → connection_terms h ≡ connection_terms g
terms_same h g a = ap terms_of a.negotiation

pub tag_same : (h g : History) → Agree h g → next_tag h ≡ next_tag g
tag_same h g a = ap (λ (n : ℕ). n % 8) a.counted.sent

pub handle_same : (h g : History) → Agree h g → next_handle h ≡ next_handle g
handle_same h g a = ap (λ (n : ℕ). n % 256) a.counted.larges

nowhere_same : (h g : History) → Agree h g → (o : Option ℕ) → is_nowhere h o ≡ is_nowhere g o
nowhere_same h g a None = refl
nowhere_same h g a (Some id) = ap (λ s. not (is_live s)) (a.sessions id)

one_same : (h g : History) → Agree h g → (id : ℕ) → one_if (is_live (session_of id h)) ≡ one_if (is_live (session_of id g))
one_same h g a id = ap (λ s. one_if (is_live s)) (a.sessions id)

pub live_same : (h g : History) → Agree h g → live_count h ≡ live_count g
live_same h g a =
    let one = one_same h g a 1 in
    let two = one_same h g a 2 in
    let three = one_same h g a 3 in
    let four = one_same h g a 4 in
    cc

terms_at_same : (h g : History) → Agree h g → (o : Option ℕ) → terms_at h o ≡ terms_at g o
terms_at_same h g a None = terms_same h g a
terms_at_same h g a (Some id) = ap session_terms (a.sessions id)

spent_same : (h g : History) → Agree h g → (o : Option ℕ) (command : Command) → is_spent_at h o command ≡ is_spent_at g o command
spent_same h g a None command = refl
spent_same h g a (Some id) command = ap (λ s. is_spent s command) (a.sessions id)

long_same : (q : ReqSetup) (h g : History) → Agree h g → (f : Free) (command : Command) → is_long q h f command ≡ is_long q g f command
long_same q h g a f (Send id bytes) = refl
long_same q h g a f (Open summary) = ap (λ (t : Terms). is_too_long t.common (canonical_request (exchange_for q f summary))) (terms_same h g a)
long_same q h g a f Connect = refl
long_same q h g a f (Beat id) = refl
long_same q h g a f (Update id all) = refl
long_same q h g a f (Measure id op) = refl
long_same q h g a f (End id) = refl
long_same q h g a f Retry = refl

tests_same : (q : ReqSetup) (h g : History) → Agree h g → (command : Command) (f : Free) → command_tests q h command f ≡ command_tests q g command f
tests_same q h g a command f =
    let waiting = a.waiting in
    let phase = a.phase in
    let nowhere = nowhere_same h g a (session_in command) in
    let live = live_same h g a in
    let terms = terms_at_same h g a (session_in command) in
    let spent = spent_same h g a (session_in command) command in
    let long = long_same q h g a f command in
    cc

pub fault_same : (worn : Bool) (q : ReqSetup) (h g : History) → Agree h g → (command : Command) (f : Free) → command_fault worn q h command f ≡ command_fault worn q g command f
unfolding command_fault
fault_same worn q h g a command f = ap (λ l. first_of_tests ((worn, fault.Worn) ∷ l)) (tests_same q h g a command f)

-- ---- What is sent.

pub clear_same : (h g : History) → Agree h g → (asked : RequestMessage) (aim : Aim) → clear_sent h asked aim ≡ clear_sent g asked aim
clear_same h g a asked aim = let tag = tag_same h g a in cc

pub request_same : (h g : History) → Agree h g → (asked : RequestMessage) → request_sent (connection_terms h).common h asked ≡ request_sent (connection_terms g).common g asked
request_same h g a asked =
    let terms = terms_same h g a in
    let tag = tag_same h g a in
    let handle = handle_same h g a in
    cc

pub record_same : (q : ReqSetup) (h g : History) → Agree h g → (id : ℕ) (s : Steps) (ask : Ask) (inner pad : List ℕ) → record_sent q h id s ask inner pad ≡ record_sent q g id s ask inner pad
record_same q h g a id s ask inner pad = let tag = tag_same h g a in cc

asked_same : (q : ReqSetup) (h g : History) → Agree h g → (f : Free) (id : ℕ) (ask : Ask) (inner : List ℕ) → asked_sent q h f id ask inner ≡ asked_sent q g f id ask inner
asked_same q h g a f id ask inner =
    record_same q h g a id (session_of id h) ask inner f.pad ∙ ap (λ s. record_sent q g id s ask inner f.pad) (a.sessions id)

done_same : (q : ReqSetup) (h g : History) → Agree h g → (command : Command) (f : Free) (d : Draw) → done q h command f d ≡ done q g command f d
done_same q h g a Connect f d = ap (λ s. Adds (Told Connect s d)) (clear_same h g a GetVersion _)
done_same q h g a (Open summary) f d = ap (λ s. Adds (Told (Open summary) s d)) (request_same h g a (exchange_for q f summary))
done_same q h g a (Send id bytes) f d = ap (λ s. Adds (Told (Send id bytes) s d)) (asked_same q h g a f id AskData (inner_data bytes))
done_same q h g a (Beat id) f d = ap (λ s. Adds (Told (Beat id) s d)) (asked_same q h g a f id AskBeat (inner_request Heartbeat))
done_same q h g a (Update id all) f d =
    ap (λ s. Adds (Told (Update id all) s d)) (asked_same q h g a f id (AskUpdate all) (inner_request (key_update (session_of id h) (operation_of all)))
    ∙ ap (λ s. asked_sent q g f id (AskUpdate all) (inner_request (key_update s (operation_of all)))) (a.sessions id))
done_same q h g a (Measure None op) f d = ap (λ s. Adds (Told (Measure None op) s d)) (request_same h g a (GetMeasurements op))
done_same q h g a (Measure (Some id) op) f d = ap (λ s. Adds (Told (Measure (Some id) op) s d)) (asked_same q h g a f id (AskMeasure op) (inner_request (GetMeasurements op)))
done_same q h g a (End id) f d = ap (λ s. Adds (Told (End id) s d)) (asked_same q h g a f id AskEnd (inner_request EndSession))
done_same q h g a Retry f d = ap resent a.waiting

pub asks_same : (worn : Bool) (q : ReqSetup) (h g : History) → Agree h g → (command : Command) (f : Free) (d : Draw) → asks worn q h command f d ≡ asks worn q g command f d
unfolding asks
asks_same worn q h g a command f d =
    ap (asks_by q h command f d) (fault_same worn q h g a command f) ∙ by_fault (command_fault worn q g command f)
  where
    by_fault : (o : Option CommandFault) → asks_by q h command f d o ≡ asks_by q g command f d o
    by_fault (Some fault) = refl
    by_fault None = done_same q h g a command f d
