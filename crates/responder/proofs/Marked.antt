-- The mark of a session, read off its view.
use Rattle.std.proofs.Common.{◌≡◌, ◌∙◌, ℕ, [], ◌∷◌, Bool, true, Option, Some, None, ap, refl, sym}
use Rattle.std.proofs.lemmas.Bool.{false≢true}
use Rattle.std.proofs.lemmas.Option.{none-some}
use Rattle.responder.specs.Changes.{mark_at, mark_of}
use Rattle.responder.specs.Standing.{IsSessionAt}
use Rattle.responder.specs.declared.changes.SessionMark.{SessionMark}
use Rattle.responder_machine.specs.Heard.{view_of}
use Rattle.responder_machine.specs.Responding.{Connection}
use Rattle.responder_machine.specs.Session.{Events, is_live, session_of}
use Rattle.spdm_grammar.specs.declared.told.session_view.SessionView.{SessionView}
use Rattle.spdm_machine.specs.Sessions.{is_past_handshake}

marked_by : (v : SessionView) (established : Bool) (s : Events) → is_live s ≡ true → v ≡ view_of s → established ≡ is_past_handshake v.stage → Some (record { id = v.id; established = established }) ≡ mark_of s
unfolding view_of
marked_by v established [] live is e = absurd (false≢true live)
marked_by v established (x ∷ s) live is e =
    let at : Bool → Option SessionMark = λ b. Some (record { id = v.id; established = b }) in
    let of : SessionView → Option SessionMark = λ w. Some (record { id = w.id; established = is_past_handshake w.stage }) in
    ap at e ∙ ap of is

pub marked : (v : SessionView) (established : Bool) (id : ℕ) (c : Option Connection) → IsSessionAt (Some v) id c → established ≡ is_past_handshake v.stage → Some (record { id = v.id; established = established }) ≡ mark_at id c
marked v established id None is e = absurd (none-some v (sym is))
marked v established id (Some c) is e = marked_by v established (session_of id c.history) is.0 is.1 e

pub unmarked : (id : ℕ) (c : Option Connection) → IsSessionAt None id c → None ≡ mark_at id c
unmarked id None is = refl
unmarked id (Some c) is = sym (ap mark_of is)
