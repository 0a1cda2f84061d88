-- What a packet leads to at one connection.
use Rattle.std.specs.Prelude.{◌≡◌, ◌==◌, ◌||◌, ◌+◌, ◌≤◌, length, not, false, ℕ, List, [], if◌then◌else◌, Option, Some, None}
use Rattle.responder_core.specs.ClearPart.{is_drawn}
use Rattle.responder_core.specs.Connected as connected
use Rattle.responder_core.specs.declared.connected.Connection as kept
use Rattle.mctp_framing.specs.Cutting.{RouteFields}
use Rattle.mctp_framing.specs.Gathering.{Gathered}
use Rattle.mctp_framing.specs.Gathering.Gathered.{Whole, More, Dropped}
use Rattle.responder.specs.declared.shared.Shared.{Shared}
use Rattle.responder_machine.specs.Does.{responder_does}
use Rattle.responder_machine.specs.Heard.{heard_of}
use Rattle.responder_machine.specs.History.{History}
use Rattle.responder_machine.specs.Responder.{Outcome, after, body_of}
use Rattle.responder_machine.specs.Responding.{Connection, Responding, RspStep, answers, data_of, ignores}
use Rattle.responder_machine.specs.Session.{session_of}
use Rattle.responder_session.specs.Data as sessions
use Rattle.spdm_basis.specs.declared.values.session_id.SessionId.{SessionId}
use Rattle.spdm_grammar.specs.declared.told.heard.Heard.{Heard}
use Rattle.spdm_grammar.specs.declared.told.heard.Heard.TheVariants as heard
use Rattle.spdm_grammar.specs.declared.told.heard.RspIgnored.TheVariants as ignored
use Rattle.spdm_machine.specs.Keys.{Draw}
use Rattle.spdm_machine.specs.Packets.{body_type, packets_to}
use Rattle.session_keys.specs.Drawing.{drawn_by}
use Rattle.spdm_grammar.specs.declared.names.TheConstants.{MAX_APP_DATA_LEN}
use Rattle.spdm_grammar.specs.declared.names.message_type.TheConstants.{SECURED, SPDM}

-- This is told of it and nothing else comes of it, or it completes a body that has an outcome.
pub data Came : Type 0 where
  Told : (told : Heard) → Came
  Does : (route : RouteFields) → (body : List ℕ) → (outcome : Outcome) → Came

-- A whole body, with this draw next.
abbrev pub came_whole : Connection → Draw → RouteFields → List ℕ → Came
came_whole c d route body =
    if not route.owner then Told (heard.Ignored ignored.NotRequest)
    else (if not (body_type body == SPDM || body_type body == SECURED) then Told (heard.Ignored ignored.OtherType)
    else Does route body (responder_does c.setup c.history route.tag body d))

-- A packet, by what it leads to where bodies are gathered.
abbrev pub came_of : Connection → Draw → Gathered → Came
came_of c d (Whole route body) = came_whole c d route body
came_of c d More = Told heard.More
came_of c d (Dropped cause) = Told (heard.Ignored (ignored.Dropped cause))

-- The same as a step of the whole responder.
abbrev pub step_of : Responding → Connection → List ℕ → Came → RspStep
step_of r c packet (Told told) = ignores r packet told
step_of r c packet (Does route body outcome) = answers r c packet route body outcome

-- What is reported, and what is sent.
abbrev pub told_of : Came → Heard
told_of (Told told) = told
told_of (Does route body outcome) = heard_of outcome

abbrev pub sent_of : Connection → Came → List (List ℕ)
sent_of c (Told told) = []
sent_of c (Does route body outcome) = packets_to c.setup.peer c.setup.eid false route.tag c.setup.unit (body_of outcome)

-- The history after it.
abbrev pub history_after : History → Came → History
history_after h (Told told) = h
history_after h (Does route body outcome) = after h outcome

abbrev pub draws_in : Came → ℕ
draws_in (Told told) = 0
draws_in (Does route body outcome) = drawn_by (is_drawn outcome)

-- The application data that were taken last.
abbrev pub data_or : List ℕ → Option (SessionId × List ℕ) → List ℕ
data_or before None = before
data_or before (Some new) = new.1

abbrev pub last_after : List ℕ → Came → List ℕ
last_after before (Told told) = before
last_after before (Does route body outcome) = data_or before (data_of outcome)

-- What is shared by all connections after a packet.
pub record IsFollowed (came : Came) (old new : Shared) : Type 0 where
  pub seed : new.draws.seed ≡ old.draws.seed
  pub number : new.draws.number ≡ old.draws.number + draws_in came
  pub last : new.last ≡ last_after old.last came

-- All that comes of it at a connection: what is told, what is sent, and what is kept.
pub record IsMet (c : Connection) (came : Came) (tells : Heard) (sends : List (List ℕ)) (new : kept.Connection) (before after : Shared) : Type 0 where
  pub told : tells ≡ told_of came
  pub sent : sends ≡ sent_of c came
  pub stands : connected.StandsFor new c.setup (history_after c.history came)
  pub shared : IsFollowed came before after

-- The data of the session that is told of have at most 1,024 bytes.
abbrev pub IsShort : Heard → History → Type 0
IsShort (heard.Taken id) h = length (sessions.data_of (session_of id.rsp h)) ≤ MAX_APP_DATA_LEN
IsShort _ h = Unit {0}

-- The data of the session that is told of, as it keeps them.
abbrev pub last_for : Heard → History → List ℕ → List ℕ
last_for (heard.Taken id) h before = sessions.data_of (session_of id.rsp h)
last_for _ h before = before
