-- What any requester of this profile may do: the same outcome, at any values that are left free.
use Rattle.std.specs.Prelude.{◌≡◌, ◌≢◌, ◌≤◌, ◌+◌, ℕ, List, length, Bool, false}
use Rattle.spdm_machine.specs.Keys.{Draw}
use Rattle.requester_machine.specs.Setup.{ReqSetup}
use Rattle.spdm_machine.specs.Terms.{hash_len}
use Rattle.requester_machine.specs.Asking.{Outcome, asks}
use Rattle.requester_machine.specs.Commands.{Free, live_count}
use Rattle.requester_machine.specs.Hearing.{hears}
use Rattle.requester_machine.specs.History.{History, connection_terms}
use Rattle.requester_machine.specs.Message.{Command}
use Rattle.requester_machine.specs.Session.{session_of, is_live}
use Rattle.spdm_grammar.specs.declared.names.TheConstants.{MAX_MESSAGE_SIZE, MAX_OPAQUE_LEN, MAX_PADDING, MAX_SESSIONS}

-- A setup within its limits. This project's own.
pub record IsSetUp (q : ReqSetup) : Type 0 where
  pub hint : length q.hint ≤ 64
  pub opaque : length q.opaque ≤ MAX_OPAQUE_LEN
  pub pad : q.pad ≤ MAX_PADDING

-- The values that a requester may choose: an id from 1 to 4 that no live session has, where one is left (beside four of
-- them no session is begun, whatever id it would have); a context of at least the length of the hash and opaque data of
-- at most 1,024 bytes, with which PSK_EXCHANGE has at most 4,096; and padding of at most 16 bytes.
pub record IsAllowed (q : ReqSetup) (h : History) (f : Free) : Type 0 where
  pub least : 1 ≤ f.id
  pub most : f.id ≤ MAX_SESSIONS
  pub unused : live_count h ≢ MAX_SESSIONS → is_live (session_of f.id h) ≡ false
  pub context : hash_len (connection_terms h) ≤ length f.context
  pub opaque : length f.opaque ≤ MAX_OPAQUE_LEN
  pub exchange : 12 + length q.hint + length f.context + length f.opaque ≤ MAX_MESSAGE_SIZE
  pub pad : length f.pad ≤ MAX_PADDING

-- The outcome of a command, under some allowed values. The command is free.
abbrev pub MayAsk : (worn : Bool) → ReqSetup → History → Command → Draw → Outcome → Type 0
MayAsk worn q h command d outcome = (f : Free) × IsAllowed q h f × (asks worn q h command f d ≡ outcome)

-- The outcome of a whole body, under some allowed values.
abbrev pub MayHear : ReqSetup → History → (owner : Bool) → ℕ → List ℕ → Draw → Outcome → Type 0
MayHear q h owner tag body d outcome = (f : Free) × IsAllowed q h f × (hears q h owner tag body f d ≡ outcome)
