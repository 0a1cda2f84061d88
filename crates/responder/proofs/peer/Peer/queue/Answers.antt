use Rattle.std.proofs.Common.{◌∙◌, Some, ap}
use Rattle.responder.proofs.Waiting.{as_reply, reply_is}
use Rattle.responder.proofs.peer.Peer.queue.Goals as goal
use Rattle.responder_session.specs.declared.queue.QueueFault.{QueueFault}

pub returns-in-Ok : goal.returns-in-Ok
returns-in-Ok c = λ p given k stands. record {
  sound = reply_is k c.args.bytes.now ∙ ap as_reply (c.in-Ok.ensures.fault k.setup k.history stands.connection);
  stands = record { setup = stands.setup; receiver = stands.receiver; assembler = stands.assembler; connection = c.in-Ok.ensures.stands k.setup k.history stands.connection };
}

pub returns-in-Err-TooLong : goal.returns-in-Err-TooLong
returns-in-Err-TooLong c = λ p given k stands. record {
  cause = reply_is k c.args.bytes.now ∙ ap as_reply (c.in-Err-TooLong.ensures.fault k.setup k.history stands.connection ∙ ap (λ (f : QueueFault). Some f) c.in-Err-TooLong.field-0-is);
  stands = record { setup = stands.setup; receiver = stands.receiver; assembler = stands.assembler; connection = c.in-Err-TooLong.ensures.stands k.setup k.history stands.connection };
}

pub returns-in-Err-Full : goal.returns-in-Err-Full
returns-in-Err-Full c = λ p given k stands. record {
  cause = reply_is k c.args.bytes.now ∙ ap as_reply (c.in-Err-Full.ensures.fault k.setup k.history stands.connection ∙ ap (λ (f : QueueFault). Some f) c.in-Err-Full.field-0-is);
  stands = record { setup = stands.setup; receiver = stands.receiver; assembler = stands.assembler; connection = c.in-Err-Full.ensures.stands k.setup k.history stands.connection };
}
