-- KEY_UPDATE in a session (DSP0274, "KEY_UPDATE").
use Rattle.std.specs.Prelude.{◌<◌, ◌-◌, ◌^◌, ℕ, List}
use Rattle.responder_machine.specs.Session.{Events, request_epoch, response_epoch}
use Rattle.responder_machine.specs.Turn.{Turn}
use Rattle.spdm_grammar.specs.Message.RequestMessage.{KeyUpdate}
use Rattle.spdm_grammar.specs.Message.ResponseMessage.{KeyUpdateAck}
use Rattle.spdm_grammar.specs.Responses.{canonical_response}
use Rattle.responder_session.specs.Turns.{answered_turn}

-- KEY_UPDATE with this operation and tag, which took effect.
abbrev pub update_turn : (message : List ℕ) → (op tag : ℕ) → Turn
update_turn message op tag =
    answered_turn message (KeyUpdate op tag) (canonical_response (KeyUpdateAck op tag))

-- Both keys of a session can be updated: epochs are counted in 64 bits.
pub record HasEpochs (s : Events) : Type 0 where
  pub request : request_epoch s < 2 ^ 64 - 1
  pub response : response_epoch s < 2 ^ 64 - 1
