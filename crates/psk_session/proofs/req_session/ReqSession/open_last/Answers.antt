use Rattle.psk_session.proofs.OwnSealed.{seals_last}
use Rattle.psk_session.proofs.req_session.ReqSession.open_last.Goals as goal

pub returns-clause-opened : goal.returns-clause-opened
returns-clause-opened c = λ psk s a inner pad stands.
    c.open_own.ensures.opened psk s (seals_last c.args.self.now psk s a inner pad stands) (c.last_number.ensures psk s a inner pad stands)
