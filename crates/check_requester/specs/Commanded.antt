-- What the program tells of a message in the clear that a command may have sent. This project's own.
use Rattle.std.specs.Prelude.{◌≡◌, ℕ, List, [], ◌∷◌, Bool, true, false, None}
use Rattle.requester_core.specs.Joined.{StandsFor}
use Rattle.requester_core.specs.declared.joined.RequesterCore.{RequesterCore}
use Rattle.requester_machine.specs.Asking.{asks}
use Rattle.requester_machine.specs.Asking.Outcome.{Adds}
use Rattle.requester_machine.specs.Commands.{Free}
use Rattle.requester_machine.specs.History.{History, begins_large}
use Rattle.requester_machine.specs.History.Entry.{Told}
use Rattle.requester_machine.specs.May.{IsAllowed}
use Rattle.requester_machine.specs.Message.{Command, Sent, body_of}
use Rattle.requester_machine.specs.Message.Command.{Connect, Measure, Open}
use Rattle.requester_machine.specs.Setup.{ReqSetup}
use Rattle.spdm_grammar.specs.Message.{ExchangeMessage, RequestMessage}
use Rattle.spdm_grammar.specs.Message.RequestMessage.{GetMeasurements, GetVersion, PskExchange}
use Rattle.capture_machine.specs.CapturedRequests.{Tells}
use Rattle.capture_machine.specs.Rounds.{no_draw}

-- The command sends a message in the clear.
abbrev pub is_in_clear : Command → Bool
is_in_clear Connect = true
is_in_clear (Open summary) = true
is_in_clear (Measure None op) = true
is_in_clear _ = false

-- Whether the command sends this body at these values, whole in one message: then what is kept is that of the history
-- after it.
abbrev pub IsToldAs : ReqSetup → History → Command → Free → (body : List ℕ) → Bool → (new : RequesterCore) → Type 0
IsToldAs q h command f body true new =
    (sent : Sent) × (asks false q h command f no_draw ≡ Adds (Told command sent no_draw))
    × (begins_large sent.aim ≡ false)
    × (body_of sent.content ≡ body)
    × StandsFor new q (Told command sent no_draw ∷ h)
IsToldAs q h command f body false new = (sent : Sent)
    → asks false q h command f no_draw ≡ Adds (Told command sent no_draw)
    → begins_large sent.aim ≡ false → body_of sent.content ≡ body → ⊥

-- The same at some values that are allowed.
abbrev pub IsToldSome : ReqSetup → History → Command → (body : List ℕ) → Bool → (new : RequesterCore) → Type 0
IsToldSome q h command body b new = (f : Free) × IsAllowed q h f × IsToldAs q h command f body b new

-- The values in the fields of PSK_EXCHANGE.
abbrev pub values_in : ExchangeMessage → Free
values_in exchange = record { id = exchange.req_id; context = exchange.context; opaque = exchange.opaque; pad = [] }

-- Whether Open sends this body at the values in these fields, which are allowed.
abbrev pub IsOpenedAs : ReqSetup → History → ExchangeMessage → (body : List ℕ) → Bool → (new : RequesterCore) → Type 0
IsOpenedAs q h exchange body true new =
    IsAllowed q h (values_in exchange) × IsToldAs q h (Open exchange.summary) (values_in exchange) body true new
IsOpenedAs q h exchange body false new = IsAllowed q h (values_in exchange)
    → IsToldAs q h (Open exchange.summary) (values_in exchange) body false new

-- The same of the command that asks such a request; none asks another in the clear.
abbrev pub IsSentFor : ReqSetup → History → RequestMessage → (body : List ℕ) → Bool → (new : RequesterCore) → Type 0
IsSentFor q h GetVersion body b new = IsToldSome q h Connect body b new
IsSentFor q h (GetMeasurements op) body b new = IsToldSome q h (Measure None op) body b new
IsSentFor q h (PskExchange exchange) body b new = IsOpenedAs q h exchange body b new
IsSentFor q h _ body b new = b ≡ false

-- Whether some command sends it.
abbrev pub IsSentByCommand : ReqSetup → History → (body : List ℕ) → Bool → (new : RequesterCore) → Type 0
IsSentByCommand q h body true new = (command : Command) × (after : History) × Tells q h command body after × StandsFor new q after
IsSentByCommand q h body false new = (command : Command) (after : History) → Tells q h command body after → ⊥
