-- When a session keeps a reply.
use Rattle.std.specs.Prelude.{◌≡◌, true, is_some}
use Rattle.responder_machine.specs.Session.{Events, stage_of, last_of}
use Rattle.spdm_machine.specs.Sessions.{is_past_handshake}

-- A session after its handshake has a last record.
abbrev pub BehindHasReply : Type 0
BehindHasReply = (s : Events) → is_past_handshake (stage_of s) ≡ true → is_some (last_of s) ≡ true
