use Rattle.key_schedule.specs.Purpose.{handshake_record}
use Rattle.key_schedule.specs.declared.direction.Direction.TheVariants.{Request}
use Rattle.requester_machine.specs.Session.{t1_of}
use Rattle.spdm_machine.specs.Terms.{terms_of}
use Rattle.psk_session.specs.Opening.{accepted}
use Rattle.psk_session.proofs.Finishes.{finish_sealed}
use Rattle.psk_session.proofs.finish_record.seal_finish.Goals as goal

pub returns : goal.returns
returns c = λ psk n exchange answer is same finish.
    let t1 = t1_of (accepted n exchange answer) in
    finish_sealed psk n exchange answer c.args.id c.args.message.now c.args.pad.now c.seal_short.result same finish
    (c.seal_short.ensures (terms_of n).choice (handshake_record psk t1 Request) (c.request_key.ensures (terms_of n).choice psk t1 is))
