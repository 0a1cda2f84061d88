-- An ask of an open session is a command of the definitions.
use Rattle.std.proofs.Common.{◌≡◌, ◌∙◌, ap, refl, ℕ, [], ◌∷◌, Bool, true, false, not, ◌==◌, eq-eqb}
use Rattle.std.specs.Prelude.{if◌then◌else◌, Option, Some, None, is_some}
use Rattle.std.specs.Option.{option_map}
use Rattle.requester_machine.proofs.Few.{live_first}
use Rattle.requester_machine.specs.Asking.{asks, asks_by, done, asked_sent}
use Rattle.requester_machine.specs.Asking.Outcome.{Adds}
use Rattle.requester_machine.specs.Commands.{Free, command_fault, is_negotiated, lacks, is_spent}
use Rattle.requester_machine.specs.History.{History, outstanding, phase_of}
use Rattle.requester_machine.specs.History.Entry.{Told}
use Rattle.requester_machine.specs.Message.{Sent}
use Rattle.requester_machine.specs.Session.{Steps, Step, session_of, session_terms, is_live, when_live}
use Rattle.requester_machine.specs.Setup.{ReqSetup}
use Rattle.spdm_basis.specs.Tests.{first_of_tests}
use Rattle.spdm_grammar.specs.declared.told.command_fault.CommandFault.TheVariants as fault
use Rattle.spdm_machine.specs.Keys.{Draw}
use Rattle.psk_session.specs.AskLaws.{AskIsCommand, LeadsBy, command_at, command_fault_of}
use Rattle.psk_session.specs.SessionRequest.{ask_fault, asked, asked_of, inner_for, is_long}
use Rattle.psk_session.specs.declared.session_request.SessionRequest.{SessionRequest}
use Rattle.psk_session.specs.declared.session_request.SessionRequest.TheVariants.{Data, Beat, UpdateKey, UpdateAll, Measure, End}
use Rattle.psk_session.specs.declared.ask_fault.AskFault.{AskFault}
use Rattle.psk_session.specs.declared.ask_fault.AskFault.TheVariants.{NotNegotiated, KeySpent, TooLong}

own_step : (id : ℕ) (s : Steps) (step : Step) → is_live s ≡ true → (if id == id then when_live s step else s) ≡ step ∷ s
own_step id s step live = rw (eq-eqb id id refl) (live_first s step live)

-- The tests of a command that hold of no such requester fall away.
tests : (busy away dead x y z : Bool) → busy ≡ false → away ≡ false → dead ≡ false
    → first_of_tests (
    (false, fault.Worn) ∷ (false, fault.NothingToRetry) ∷ (busy, fault.Busy) ∷ (away, fault.NotConnected) ∷ (dead, fault.NoSuchSession) ∷ (false, fault.SessionLimit)
    ∷ (x, fault.NotNegotiated) ∷ (false, fault.BadSummary) ∷ (y, fault.KeySpent) ∷ (z, fault.TooLong) ∷ [])
    ≡ option_map command_fault_of (first_of_tests ((x, NotNegotiated) ∷ (y, KeySpent) ∷ (z, TooLong) ∷ []))
tests true away dead x y z b a e = absurd (cc)
tests false true dead x y z b a e = absurd (cc)
tests false false true x y z b a e = absurd (cc)
tests false false false true y z b a e = refl
tests false false false false true z b a e = refl
tests false false false false false true b a e = refl
tests false false false false false false b a e = refl

by_fault : (q : ReqSetup) (h : History) (f : Free) (d : Draw) (id : ℕ) (a : SessionRequest) (sent : Sent) (own : Option AskFault)
    → command_fault false q h (command_at id a) f ≡ option_map command_fault_of own
    → done q h (command_at id a) f d ≡ Adds (Told (command_at id a) sent d)
    → session_of id (Told (command_at id a) sent d ∷ h) ≡ asked q.psk (session_of id h) a f.pad
    → LeadsBy q h f d id a own
unfolding asks
by_fault q h f d id a sent (Some cause) e made step = ap (asks_by q h (command_at id a) f d) e
by_fault q h f d id a sent None e made step = (sent, ap (asks_by q h (command_at id a) f d) e ∙ made, step)

idle : (h : History) → outstanding h ≡ None → is_some (outstanding h) ≡ false
idle h e = ap is_some e

faults : (q : ReqSetup) (h : History) (f : Free) (id : ℕ) (a : SessionRequest) → outstanding h ≡ None → is_negotiated (phase_of h) ≡ true → is_live (session_of id h) ≡ true
    → command_fault false q h (command_at id a) f ≡ option_map command_fault_of (ask_fault (session_of id h) a)
unfolding command_fault ask_fault
faults q h f id (Data bytes) o n l =
    tests (is_some (outstanding h)) (not (is_negotiated (phase_of h))) (not (is_live (session_of id h))) (lacks (session_terms (session_of id h)) (command_at id (Data bytes))) (is_spent (session_of id h) (command_at id (Data bytes))) (is_long (Data bytes)) (idle h o) (ap not n) (ap not l)
faults q h f id Beat o n l =
    tests (is_some (outstanding h)) (not (is_negotiated (phase_of h))) (not (is_live (session_of id h))) (lacks (session_terms (session_of id h)) (command_at id Beat)) (is_spent (session_of id h) (command_at id Beat)) false (idle h o) (ap not n) (ap not l)
faults q h f id UpdateKey o n l =
    tests (is_some (outstanding h)) (not (is_negotiated (phase_of h))) (not (is_live (session_of id h))) (lacks (session_terms (session_of id h)) (command_at id UpdateKey)) (is_spent (session_of id h) (command_at id UpdateKey)) false (idle h o) (ap not n) (ap not l)
faults q h f id UpdateAll o n l =
    tests (is_some (outstanding h)) (not (is_negotiated (phase_of h))) (not (is_live (session_of id h))) (lacks (session_terms (session_of id h)) (command_at id UpdateAll)) (is_spent (session_of id h) (command_at id UpdateAll)) false (idle h o) (ap not n) (ap not l)
faults q h f id (Measure op) o n l =
    tests (is_some (outstanding h)) (not (is_negotiated (phase_of h))) (not (is_live (session_of id h))) (lacks (session_terms (session_of id h)) (command_at id (Measure op))) (is_spent (session_of id h) (command_at id (Measure op))) false (idle h o) (ap not n) (ap not l)
faults q h f id End o n l =
    tests (is_some (outstanding h)) (not (is_negotiated (phase_of h))) (not (is_live (session_of id h))) (lacks (session_terms (session_of id h)) (command_at id End)) (is_spent (session_of id h) (command_at id End)) false (idle h o) (ap not n) (ap not l)

unfoldable pub sent_for : (q : ReqSetup) (h : History) (f : Free) (id : ℕ) (a : SessionRequest) → Sent
sent_for q h f id a = asked_sent q h f id (asked_of a) (inner_for (session_of id h) a)

pub made : (q : ReqSetup) (h : History) (f : Free) (d : Draw) (id : ℕ) (a : SessionRequest) → done q h (command_at id a) f d ≡ Adds (Told (command_at id a) (sent_for q h f id a) d)
unfolding sent_for
made q h f d id (Data bytes) = refl
made q h f d id Beat = refl
made q h f d id UpdateKey = refl
made q h f d id UpdateAll = refl
made q h f d id (Measure op) = refl
made q h f d id End = refl

stepped : (q : ReqSetup) (h : History) (f : Free) (d : Draw) (id : ℕ) (a : SessionRequest) → is_live (session_of id h) ≡ true
    → session_of id (Told (command_at id a) (sent_for q h f id a) d ∷ h) ≡ asked q.psk (session_of id h) a f.pad
unfolding sent_for session_of
stepped q h f d id (Data bytes) l = own_step id (session_of id h) _ l
stepped q h f d id Beat l = own_step id (session_of id h) _ l
stepped q h f d id UpdateKey l = own_step id (session_of id h) _ l
stepped q h f d id UpdateAll l = own_step id (session_of id h) _ l
stepped q h f d id (Measure op) l = own_step id (session_of id h) _ l
stepped q h f d id End l = own_step id (session_of id h) _ l

pub ask_is_command : AskIsCommand
ask_is_command q h f d id a o n l =
    by_fault q h f d id a (sent_for q h f id a) (ask_fault (session_of id h) a) (faults q h f id a o n l) (made q h f d id a) (stepped q h f d id a l)
