-- Turns of the inner messages of records, by what they leave of the session.
use Rattle.std.specs.Prelude.{◌≡◌, ℕ, List, ◌∷◌, false, None}
use Rattle.responder_machine.specs.Records.{reply_record}
use Rattle.responder_machine.specs.Responder.{inner_reply}
use Rattle.responder_machine.specs.Session.{Events}
use Rattle.responder_machine.specs.Session.Event.{Heard}
use Rattle.responder_machine.specs.Turn.{Turn, takes, updates}
use Rattle.responder_machine.specs.Turn.Effect.{Took}
use Rattle.spdm_grammar.specs.Message.{RequestMessage}
use Rattle.spdm_grammar.specs.declared.names.request_code.TheConstants.{PSK_FINISH, KEY_UPDATE}

-- A turn leaves the stage and the keys of a session as they are: neither PSK_FINISH nor KEY_UPDATE took effect in it.
pub record KeepsKeys (t : Turn) : Type 0 where
  pub finish : takes PSK_FINISH t ≡ false
  pub update : takes KEY_UPDATE t ≡ false
  pub key : updates 1 t ≡ false
  pub all : updates 2 t ≡ false
  pub verify : updates 3 t ≡ false

-- A request that took effect, and was answered by its whole answer.
abbrev pub answered_turn : (message : List ℕ) → RequestMessage → (answer : List ℕ) → Turn
answered_turn message asked answer =
    record {
      message = message;
      refused = None;
      chunk = None;
      effect = Took asked message answer None;
      reply = answer;
    }

-- The session with a record of this turn, answered with this padding.
abbrev pub heard_by : (psk : List ℕ) → Events → (sealed : List ℕ) → Turn → (pad : List ℕ) → Events
heard_by psk s sealed t pad = Heard sealed t (reply_record psk s t (inner_reply t) pad) ∷ s
