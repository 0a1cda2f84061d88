use Rattle.std.proofs.Common.{◌∙◌, sym, subst, ap, List, ℕ}
use Rattle.std.specs.Prelude.{◌||◌, Bool}
use Rattle.responder_core.proofs.Draws.{drawn_anew}
use Rattle.responder_machine.specs.Turn.{takes}
use Rattle.spdm_grammar.specs.declared.names.request_code.TheConstants.{GET_MEASUREMENTS}
use Rattle.responder_core.proofs.Exchanged.{beginning_at}
use Rattle.responder_core.proofs.Outcomes.{queue_after_clear}
use Rattle.responder_core.proofs.Sizes.{sizes_after}
use Rattle.responder_core.proofs.Whole.{is_anew}
use Rattle.responder_core.specs.Beginning.{IsBeginningAt}
use Rattle.responder_core.specs.Sessions as sessions
use Rattle.responder_core.specs.Starting.{IsStartedAt}
use Rattle.responder_core.proofs.connected.Connection.begin.Goals as goal
use Rattle.responder_machine.specs.Handling.{turn_of}
use Rattle.responder_machine.specs.Place.{clear_place}
use Rattle.responder_machine.specs.Responder.{Outcome, after}
use Rattle.responder_machine.specs.Turn.{Turn}
use Rattle.spdm_grammar.specs.declared.told.heard.Heard.TheVariants as heard

pub returns-clause-done : goal.returns-clause-done
returns-clause-done c = λ r h f d setup free allowed beginning beside.
    let m : List ℕ = c.args.message.now in
    let tag : ℕ = c.args.tag in
    let t : Turn = turn_of r (clear_place h) m f in
    let bytes = c.as_slice-bytes.ensures.value in
    let started = subst (λ (a : List ℕ). IsStartedAt r h m f c.args.begun c.args.self.now.clear.requests c.start-session.result a) (sym bytes) (c.start-session.ensures r h tag f setup free allowed beginning) in
    let told = c.begin.ensures r h f d free.handle setup.ordered setup.most beginning started.answer_is in
    let starts = beginning_at r h m f c.args.begun c.args.self.now.clear.requests c.start-session.result c.as_slice-bytes.result.now allowed.most beginning.begins started beside.sizes in
    let here = subst (λ (id : ℕ). IsBeginningAt r h t id c.start-session.result c.as_slice-bytes.result.now) free.id starts in
    let now = c.begin-2.ensures r h tag t d here beside.sessions in
    record {
      told = ap heard.Answered (c.code.ensures r (clear_place h) m f c.args.self.now.clear.requests beginning.begins) ∙ told.told;
      body = told.body;
      stands = record {
        clear = told.stands;
        sessions = subst (λ (o : Outcome). sessions.StandsFor c.begin-2.new.self r (after h o)) (sym (is_anew r h tag m f d beginning.anew)) now;
        queue = beside.queue ∙ sym (queue_after_clear r h tag m f d);
        sizes = sizes_after r h tag m f d setup.ordered setup.most beside.sizes;
      };
    }

pub returns-clause-drawn : goal.returns-clause-drawn
returns-clause-drawn c = λ r h f d setup free allowed beginning beside.
    let m : List ℕ = c.args.message.now in
    let t : Turn = turn_of r (clear_place h) m f in
    let bytes = c.as_slice-bytes.ensures.value in
    let started = subst (λ (a : List ℕ). IsStartedAt r h m f c.args.begun c.args.self.now.clear.requests c.start-session.result a) (sym bytes) (c.start-session.ensures r h c.args.tag f setup free allowed beginning) in
    let starts = beginning_at r h m f c.args.begun c.args.self.now.clear.requests c.start-session.result c.as_slice-bytes.result.now allowed.most beginning.begins started beside.sizes in
    sym (drawn_anew r h c.args.tag m f d beginning.anew ∙ ap (λ (b : Bool). b || takes GET_MEASUREMENTS t) starts.is_exchange)
