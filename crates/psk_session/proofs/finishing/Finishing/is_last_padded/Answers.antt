use Rattle.std.proofs.Common.{refl, ◌∙◌, sym, subst}
use Rattle.requester_machine.specs.Session.{t1_of}
use Rattle.spdm_machine.specs.Terms.{terms_of}
use Rattle.psk_session.specs.Finishing.{Seen, StandsFor}
use Rattle.psk_session.specs.Opening.{accepted, finish_inner}
use Rattle.psk_session.proofs.finishing.Finishing.is_last_padded.Goals as goal

pub returns : goal.returns
returns c = λ psk n exchange answer pad stands.
    let inside = subst (λ (x : Seen). StandsFor x psk n exchange answer pad) (sym c.self.view_is) stands in
    let older = accepted n exchange answer in
    c.is_padded_anew.ensures.told psk older (finish_inner psk older) pad
    (record { is_key = c.request_key.ensures (terms_of n).choice psk (t1_of older) inside.handshake; is_id = inside.id }) refl
    (c.as_slice.ensures.value ∙ inside.sent)
