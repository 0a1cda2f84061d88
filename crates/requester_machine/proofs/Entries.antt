-- What an outcome adds, and what a command without a fault has shown.
use Rattle.std.proofs.Common.{refl, ◌≡◌, ℕ, List, [], ◌∷◌, true, false, Bool, Option, Some, None, ap, sym, suc, zero}
use Rattle.std.specs.Prelude.{if◌then◌else◌}
use Rattle.std.proofs.lemmas.Option.{none-some, same_Some}
use Rattle.spdm_grammar.specs.Message.{RequestMessage}
use Rattle.spdm_grammar.specs.declared.told.command_fault.CommandFault.{CommandFault}
use Rattle.negotiate.specs.declared.shared.Common.{Common}
use Rattle.spdm_machine.specs.Keys.{Draw}
use Rattle.requester_machine.specs.Setup.{ReqSetup}
use Rattle.requester_machine.specs.Asking.{Outcome, asks, asks_by, done}
use Rattle.requester_machine.specs.Asking.Outcome.{Fails, Ignores, Warns, Resends, Adds}
use Rattle.requester_machine.specs.Commands.{Free, command_fault, command_tests}
use Rattle.spdm_basis.specs.Tests.{first_of_tests}
use Rattle.requester_machine.specs.History.{History, Entry}
use Rattle.requester_machine.specs.Message.{Command, Sent, asked_in}
use Rattle.requester_machine.specs.Sending.{request_sent, piece_sent, plain_sent}
use Rattle.spdm_basis.proofs.Options.{both}

-- The entry that an outcome adds.
abbrev pub entry_in : Outcome → Option Entry
entry_in (Fails fault) = None
entry_in (Ignores cause) = None
entry_in (Warns code) = None
entry_in (Resends sent) = None
entry_in (Adds entry) = Some entry

pub same_entry : (a b : Entry) → Adds a ≡ Adds b → a ≡ b
same_entry a b is = same_Some a b (ap entry_in is)

-- A command that adds an entry has no fault.
pub no_fault : (q : ReqSetup) (h : History) (command : Command) (f : Free) (d : Draw) (entry : Entry) (fault : Option CommandFault)
    → asks_by q h command f d fault ≡ Adds entry → (fault ≡ None) × (done q h command f d ≡ Adds entry)
no_fault q h command f d entry (Some fault) is = absurd (none-some entry (ap entry_in is))
no_fault q h command f d entry None is = (refl, is)

pub asked : (worn : Bool) (q : ReqSetup) (h : History) (command : Command) (f : Free) (d : Draw) (entry : Entry)
    → asks worn q h command f d ≡ Adds entry → (command_fault worn q h command f ≡ None) × (done q h command f d ≡ Adds entry)
unfolding asks
asked worn q h command f d entry is = no_fault q h command f d entry (command_fault worn q h command f) is

-- ---- The tests of a command.

abbrev pub test_at : ℕ → List (Bool × CommandFault) → Bool
test_at n [] = false
test_at zero (t ∷ ts) = t.0
test_at (suc n) (t ∷ ts) = test_at n ts

-- Each of them is false where there is no fault.
pub tests_are_false : (ts : List (Bool × CommandFault)) → first_of_tests ts ≡ None → (n : ℕ) → test_at n ts ≡ false
tests_are_false [] h n = refl
tests_are_false (t ∷ ts) h zero = (both t.0 t.1 _ h).0
tests_are_false (t ∷ ts) h (suc n) = tests_are_false ts (both t.0 t.1 _ h).1 n

-- The test of this number after Worn.
pub test_is_false : (worn : Bool) (q : ReqSetup) (h : History) (command : Command) (f : Free)
    → command_fault worn q h command f ≡ None → (n : ℕ) → test_at n (command_tests q h command f) ≡ false
unfolding command_fault
test_is_false worn q h command f is n = tests_are_false (command_tests q h command f) (both worn _ _ is).1 n

-- ---- Messages sent.

either : (b : Bool) (x y : Sent) (asked : RequestMessage) → asked_in x.aim ≡ Some asked → asked_in y.aim ≡ Some asked → asked_in ((if b then x else y).aim) ≡ Some asked
either true x y asked a b = a
either false x y asked a b = b

-- A request that is sent, whole or in chunks, asks for itself.
pub request_sent-asks : (common : Common) (h : History) (asked : RequestMessage) → asked_in ((request_sent common h asked).aim) ≡ Some asked
request_sent-asks common h asked = either _ (piece_sent common h asked _ 0) (plain_sent h asked) asked refl refl
