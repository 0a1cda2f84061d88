use Rattle.std.proofs.Common.{◌∙◌, ap, sym, List, ℕ, Option, Some, None}
use Rattle.responder_core.proofs.Recorded.{delivered, ended_again, no_session}
use Rattle.responder_core.proofs.in_sessions.sessions.Sessions.on_record.Goals as goal
use Rattle.responder_machine.specs.History.{KeptRecord}
use Rattle.responder_machine.specs.Responder.{decrypt_error, kept_record, repeats}
use Rattle.spdm_basis.specs.declared.values.session_id.SessionId.{SessionId}

pub returns-then-is_repeat : goal.returns-then-is_repeat
returns-then-is_repeat c = λ r h tag f d free few inventory phase stands.
    let sealed : List ℕ = c.args.sealed.now in
    ended_again r h tag sealed f d c.args.self.now c.replace_record.new.out (ap (λ (k : Option KeptRecord). repeats k sealed) (sym stands.ended) ∙ sym c.if-is_repeat.ensures) stands
    (c.replace_record.ensures c.reply.ensures.fits ∙ c.reply.ensures.value ∙ ap kept_record stands.ended)

pub returns-in-Some : goal.returns-in-Some
returns-in-Some c = λ r h tag f d free few inventory phase stands.
    let sealed : List ℕ = c.args.sealed.now in
    let id = ap (λ (x : SessionId). x.rsp) c.record_id-id.ensures in
    let anew = ap (λ (k : Option KeptRecord). repeats k sealed) (sym stands.ended) ∙ sym c.if-is_repeat.ensures in
    c.answer.ensures r h tag f d phase
    (delivered r h sealed f (Some c.in-Some.told) c.args.self.now c.take.new.self c.take.new.out c.record_id-id.result.rsp stands anew few id (λ s epochs slot. c.in-Some.ensures.taken r s f free epochs inventory slot) c.in-Some.ensures.others c.in-Some.ensures.ended)

pub returns-in-None : goal.returns-in-None
returns-in-None c = λ r h tag f d free few inventory phase stands.
    let sealed : List ℕ = c.args.sealed.now in
    let id = ap (λ (x : SessionId). x.rsp) c.record_id-id.ensures in
    let anew = ap (λ (k : Option KeptRecord). repeats k sealed) (sym stands.ended) ∙ sym c.if-is_repeat.ensures in
    no_session r h tag sealed f d c.take.new.self c.take.new.out c.write_decrypt_error.new.out
    (delivered r h sealed f None c.args.self.now c.take.new.self c.take.new.out c.record_id-id.result.rsp stands anew few id (λ s epochs slot. c.in-None.ensures.taken r s f free epochs inventory slot) c.in-None.ensures.others c.in-None.ensures.ended)
    (c.write_decrypt_error.ensures ∙ ap decrypt_error phase)
