use Rattle.std.proofs.Common.{◌∙◌, ap, List, ℕ}
use Rattle.std.specs.Prelude.{bytes_eq}
use Rattle.spdm_basis.specs.SessionIdBytes.{session_id_bytes}
use Rattle.requester_core.proofs.OwnSlots.{none_names, view_names}
use Rattle.requester_machine.specs.Session.{session_of}
use Rattle.requester_core.proofs.in_sessions.sessions.Sessions.names.Goals as goal

pub returns-in-Some : goal.returns-in-Some
returns-in-Some c = λ q h stands short.
    view_names (session_of c.args.id h) c.in-Some.view c.args.sealed.now c.same_bytes.result (c.in-Some.ensures q h stands short)
    (c.same_bytes.ensures ∙ ap (λ (l : List ℕ). bytes_eq l c.id_in_front.result.now) c.bytes.ensures ∙ ap (bytes_eq (session_id_bytes c.in-Some.view.id.req c.in-Some.view.id.rsp)) c.id_in_front.ensures)

pub returns-in-None : goal.returns-in-None
returns-in-None c = λ q h stands short. none_names (session_of c.args.id h) c.args.sealed.now (c.in-None.ensures q h stands short)
