-- What is asked of a session and what comes of it, as far as it is seen without the session.
use Rattle.std.specs.Prelude.{◌≡◌, ◌∷◌, [], ℕ, List, Bool, false, Option, Some, None}
use Rattle.std.specs.Option.{option_or}
use Rattle.requester_core.specs.Gathering.{Gathers}
use Rattle.requester_core.specs.ClearState.{Seen, StandsFor}
use Rattle.requester_machine.specs.Asking.Outcome.{Adds}
use Rattle.chunking.specs.Keeping as keeping
use Rattle.requester_machine.specs.Bodies.{is_clear}
use Rattle.requester_machine.specs.Commands.{Free, is_long, is_nowhere, is_spent_at, lacks, session_in, terms_at}
use Rattle.requester_machine.specs.Hearing.{hears}
use Rattle.requester_machine.specs.History.{Entry, History, sent_in}
use Rattle.requester_machine.specs.Message.{Command, Sent}
use Rattle.requester_machine.specs.Setup.{ReqSetup}
use Rattle.requester_machine.specs.Shown.{blocks_in, bytes_in, effect_in}
use Rattle.spdm_basis.specs.Tests.{first_of_tests}
use Rattle.spdm_grammar.specs.declared.told.command_fault.CommandFault.{CommandFault}
use Rattle.spdm_grammar.specs.declared.told.command_fault.CommandFault.TheVariants as fault
use Rattle.spdm_machine.specs.Keys.{Draw}

-- ---- Faults.

-- The fault of what is asked of a session, after the tests that do not look at the session.
abbrev pub session_fault : ReqSetup → History → Command → Free → Option CommandFault
session_fault q h command f = first_of_tests (
    (is_nowhere h (session_in command), fault.NoSuchSession)
    ∷ (lacks (terms_at h (session_in command)) command, fault.NotNegotiated)
    ∷ (is_spent_at h (session_in command) command, fault.KeySpent)
    ∷ (is_long q h f command, fault.TooLong)
    ∷ [])

-- ---- What goes out and comes in.

-- This record, which asks for no chunk in the clear, is sent with this tag, and what is kept is that of this history,
-- whose newest entry sent it.
pub record SendsRecord (q : ReqSetup) (h : History) (sent : Sent) (tag : ℕ) (new : Seen) : Type 0
  where
    pub tag_is : sent.tag ≡ tag
    pub stands : StandsFor new q h
    pub gathers : (gathered : keeping.Kept) → gathered.max ≡ q.max → Gathers q (Some sent) gathered

-- A record came with its tag owner bit and tag. It was taken as this entry, and nothing is sent in response to it.
pub record Settles (q : ReqSetup) (h : History) (owner : Bool) (tag : ℕ) (body : List ℕ)
    (f : Free) (d : Draw) (entry : Entry) : Type 0 where
  pub sealed : is_clear body ≡ false
  pub outcome : hears q h owner tag body f d ≡ Adds entry
  pub next : sent_in entry ≡ None

-- The application data or the measurement record that an entry brings.
abbrev pub brought_by : Entry → Option (List ℕ)
brought_by entry = option_or (bytes_in (effect_in entry)) (blocks_in (effect_in entry))
