use Rattle.std.proofs.Common.{refl}
use Rattle.requester_core.proofs.BodiesJoined.{as_told, follow_answer}
use Rattle.requester_core.proofs.joined.RequesterCore.follow.Goals as goal

pub returns : goal.returns
returns c = λ q h owner tag body f d entry next a beside adds event sends aims.
    as_told q h _ c.sent.result _ _ _ c.sent.ensures
    (follow_answer q h entry next c.send_record-tag.result c.record.result.now c.write_record.new.out c.args.self.now
    (record { clear_state = c.send_record-tag.new.self; gathered = c.args.self.now.gathered; sessions = c.args.self.now.sessions; message = c.args.self.now.message })
    beside event sends (c.send_record-tag.ensures.heard q h owner tag body f d entry next a beside.clear_state adds sends aims)
    (c.record.ensures.bytes q _ next c.args.id a sends aims beside.sessions) c.write_record.ensures refl refl)
