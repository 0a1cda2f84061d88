use Rattle.responder_session.proofs.Records.{told_is_record}
use Rattle.responder_session.proofs.laws.told_is_record.Goals as goal

pub returns : goal.returns
returns c = told_is_record
