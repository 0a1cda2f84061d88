use Rattle.responder_session.proofs.Records.{took_is_record}
use Rattle.responder_session.proofs.laws.took_is_record.Goals as goal

pub returns : goal.returns
returns c = took_is_record
