use Rattle.std.proofs.Common.{◌∙◌, ◌≡◌, subst, sym, Option}
use Rattle.responder_core.proofs.Recorded.{standing_with}
use Rattle.responder_core.specs.Coming as coming
use Rattle.responder_core.specs.Connected.{HasSizesAt}
use Rattle.responder_core.specs.LiveSession.{IsSlotOf}
use Rattle.responder_core.specs.Sessions.{slot_of}
use Rattle.responder_core.specs.declared.in_sessions.live_session.LiveSession.{LiveSession}
use Rattle.responder_machine.specs.Session.{session_of}
use Rattle.responder_core.proofs.connected.Connection.uncount_in.Goals as goal

pub returns : goal.returns
returns c = λ r h k is stands.
    let id = c.args.id in
    let old = c.args.self.now in
    let now = c.uncount_at.new.self in record {
      clear = record {
        requests = subst (coming.StandsFor old.clear.requests r) is.turns stands.clear.requests;
        kept = stands.clear.kept ∙ is.kept;
      };
      sessions = standing_with now r k id (c.uncount_at.ensures.own r (session_of id h) (session_of id k) is.own (stands.sessions.slots id))
          (λ i other. subst (IsSlotOf (slot_of now i) r) (is.others i other) (subst (λ (y : Option LiveSession). IsSlotOf y r (session_of i h)) (sym (c.uncount_at.ensures.others i other)) (stands.sessions.slots i)))
          (c.uncount_at.ensures.ended ∙ stands.sessions.ended ∙ is.ended);
      queue = stands.queue ∙ is.queue;
      sizes = subst (HasSizesAt r) is.turns stands.sizes;
    }
