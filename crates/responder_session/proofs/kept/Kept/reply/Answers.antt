use Rattle.std.proofs.Common.{◌∙◌, ◌∷◌, ap, ℕ, List}
use Rattle.std.specs.Prelude.{Option, Some}
use Rattle.responder_machine.specs.History.{KeptRecord}
use Rattle.responder_machine.specs.Records.{response_purpose}
use Rattle.responder_machine.specs.Session.{session_terms}
use Rattle.spdm_basis.specs.SessionIdBytes.{session_id_bytes}
use Rattle.spdm_machine.specs.Keys.{sealed_of}
use Rattle.responder_session.specs.Kept.{kept_record}
use Rattle.responder_session.proofs.Moves.{sealed_kept}
use Rattle.responder_session.proofs.kept.Kept.reply.Goals as goal

pub returns-clause-last : goal.returns-clause-last
returns-clause-last c = λ psk s t keeps other same.
    let inner = c.args.kind ∷ c.args.message.now in
    let kept : List ℕ → Option KeptRecord = λ reply. Some (record { sealed = c.args.sealed.now; reply = reply }) in
    ap kept_record c.keep.ensures
    ∙ ap kept (c.seal_record.ensures.value (session_terms s).choice (response_purpose psk s) keeps.response
    ∙ (λ i. sealed_of (session_terms s).choice (response_purpose psk s) (c.number-number.ensures i) (session_id_bytes c.args.self.now.id.req c.args.self.now.id.rsp) ((c.as_slice.ensures.value ∙ c.write_inner.ensures) i) c.args.pad.now)
    ∙ sealed_kept c.args.self.now psk s t inner c.args.pad.now keeps other same)
