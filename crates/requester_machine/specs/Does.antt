-- What this project's requester does: the one outcome at the values that it chooses. The choices are this project's
-- own.
use Rattle.std.specs.Prelude.{⊤, ◌≡◌, not, ℕ, List, [], ◌∷◌, take, if◌then◌else◌, Bool, false}
use Rattle.spdm_machine.specs.Keys.{Draw, context_of}
use Rattle.spdm_machine.specs.Bodies.{clear_body, record_body}
use Rattle.requester_machine.specs.Setup.{ReqSetup}
use Rattle.requester_machine.specs.Asking.{Outcome, asks}
use Rattle.requester_machine.specs.Asking.Outcome.{Adds}
use Rattle.requester_machine.specs.Commands.{Free}
use Rattle.requester_machine.specs.Hearing.{hears}
use Rattle.requester_machine.specs.History.{History, connection_terms}
use Rattle.requester_machine.specs.History.Entry.{Told, TookClear, TookRecord}
use Rattle.requester_machine.specs.Message.{Command}
use Rattle.requester_machine.specs.Session.{session_of, is_live}

-- The least id from 1 to 4 that no live session has. Beside four live ones no session is begun.
abbrev pub free_id : History → ℕ
free_id h =
    if not (is_live (session_of 1 h)) then 1
    else (if not (is_live (session_of 2 h)) then 2
    else (if not (is_live (session_of 3 h)) then 3
    else 4))

-- The least free id, the context by the draw, the configured opaque data, and this padding.
unfoldable pub chosen : ReqSetup → History → Draw → List ℕ → Free
chosen q h d pad = record { id = free_id h; context = context_of (connection_terms h).choice.hash d; opaque = q.opaque; pad = pad }

-- What is asked of a session by a command is padded with the first bytes of the draw, as many as configured.
-- PSK_FINISH, VerifyNewKey and CHUNK_GET have no padding.
abbrev pub command_chosen : ReqSetup → History → Draw → Free
command_chosen q h d = chosen q h d (take q.pad d.bytes)

-- What is sent on a whole body has no padding.
abbrev pub body_chosen : ReqSetup → History → Draw → Free
body_chosen q h d = chosen q h d []

-- A command came with this draw next, to a requester that is worn out or not.
abbrev pub requester_asks : (worn : Bool) → ReqSetup → History → Command → Draw → Outcome
requester_asks worn q h command d = asks worn q h command (command_chosen q h d) d

-- A whole body came with its tag owner bit and tag.
abbrev pub requester_hears : ReqSetup → History → (owner : Bool) → ℕ → List ℕ → Draw → Outcome
requester_hears q h owner tag body d = hears q h owner tag body (body_chosen q h d) d

-- A history that this requester made: each entry is what it does at the older history.
abbrev pub IsMade : ReqSetup → History → Type 0
IsMade q [] = ⊤
IsMade q (Told command sent d ∷ older) = (requester_asks false q older command d ≡ Adds (Told command sent d)) × IsMade q older
IsMade q (TookClear tag m led d ∷ older) = (requester_hears q older false tag (clear_body m) d ≡ Adds (TookClear tag m led d)) × IsMade q older
IsMade q (TookRecord tag id sealed inner led d ∷ older) = (requester_hears q older false tag (record_body sealed) d ≡ Adds (TookRecord tag id sealed inner led d)) × IsMade q older
