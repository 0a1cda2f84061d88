use Rattle.requester_machine.specs.Records.{request_purpose}
use Rattle.requester_machine.specs.Session.{session_terms}
use Rattle.psk_session.proofs.OwnSealed.{own_opened}
use Rattle.psk_session.proofs.own_records.open_own.Goals as goal

pub returns-clause-opened : goal.returns-clause-opened
returns-clause-opened c = λ psk s is number.
    own_opened c.args.key.now c.args.id psk s c.args.number c.args.sealed.now c.open_record.result c.open_record.new.out is number
    (c.open_record.ensures.fault (session_terms s).choice (request_purpose psk s) is.is_key) (c.open_record.ensures.inner (session_terms s).choice (request_purpose psk s) is.is_key)
