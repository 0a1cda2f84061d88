use Rattle.std.proofs.Common.{◌∙◌, sym}
use Rattle.psk_session.proofs.OwnSealed.{seals_last}
use Rattle.psk_session.proofs.req_session.ReqSession.is_last_padded.Goals as goal

pub returns-clause-told : goal.returns-clause-told
returns-clause-told c = λ psk s a inner pad stands.
    c.is_padded_anew.ensures.told psk s inner pad (seals_last c.args.self.now psk s a inner pad stands) (c.last_number.ensures psk s a inner pad stands)
    (c.as_slice.ensures.value ∙ sym stands.1.newest.1)
