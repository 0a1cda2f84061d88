use Rattle.std.proofs.Common.{◌≡◌, ◌∙◌, sym, subst, refl, List, ℕ}
use Rattle.responder_machine.specs.Heard.{heard_of}
use Rattle.responder_machine.specs.Responder.{on_clear}
use Rattle.responder_core.proofs.Followed.{all_stay}
use Rattle.spdm_grammar.specs.ErrorNumber.{error_number}
use Rattle.spdm_grammar.specs.declared.told.heard.Heard.TheVariants as hearing
use Rattle.responder_core.proofs.Harmless.{clear_harmless}
use Rattle.responder_core.proofs.Outcomes.{queue_after_clear}
use Rattle.responder_core.proofs.Sizes.{sizes_after}
use Rattle.responder_core.proofs.connected.Connection.on_clear.Goals as goal

pub returns-in-Same-clause-done : goal.returns-in-Same-clause-done
returns-in-Same-clause-done c = λ r h f d setup free allowed stands.
    let m : List ℕ = c.args.message.now in
    let tag : ℕ = c.args.tag in
    let told = c.in-Same.ensures.told r h f d setup free stands.clear (c.held-held.ensures.value r h stands.sessions) in
    record {
      told = told.0.told;
      body = told.0.body;
      stands = record {
        clear = told.0.stands;
        sessions = all_stay r h tag m f d c.args.self.now.sessions hearing.Same told.0.told refl told.1 stands.sessions;
        queue = stands.queue ∙ sym (queue_after_clear r h tag m f d);
        sizes = sizes_after r h tag m f d setup.ordered setup.most stands.sizes;
      };
    }

pub returns-in-Same-clause-drawn : goal.returns-in-Same-clause-drawn
returns-in-Same-clause-drawn c = λ r h f d setup free allowed stands.
    (c.in-Same.ensures.told r h f d setup free stands.clear (c.held-held.ensures.value r h stands.sessions)).2

pub returns-in-Same-clause-harmless : goal.returns-in-Same-clause-harmless
returns-in-Same-clause-harmless c = λ r h f d setup free allowed stands.
    let done = returns-in-Same-clause-done c r h f d setup free allowed stands in
    clear_harmless r h c.args.tag c.args.message.now f d hearing.Same c.on_clear.new.out done.told done.body

pub returns-in-Refused-clause-done : goal.returns-in-Refused-clause-done
returns-in-Refused-clause-done c = λ r h f d setup free allowed stands.
    let m : List ℕ = c.args.message.now in
    let tag : ℕ = c.args.tag in
    let told = c.in-Refused.ensures.told r h f d setup free stands.clear (c.held-held.ensures.value r h stands.sessions) in
    record {
      told = subst (λ (n : ℕ). hearing.Refused n ≡ heard_of (on_clear r h tag m f d)) (sym c.number.ensures) told.0.told;
      body = told.0.body;
      stands = record {
        clear = told.0.stands;
        sessions = all_stay r h tag m f d c.args.self.now.sessions (hearing.Refused (error_number c.in-Refused.code)) told.0.told refl told.1 stands.sessions;
        queue = stands.queue ∙ sym (queue_after_clear r h tag m f d);
        sizes = sizes_after r h tag m f d setup.ordered setup.most stands.sizes;
      };
    }

pub returns-in-Refused-clause-drawn : goal.returns-in-Refused-clause-drawn
returns-in-Refused-clause-drawn c = λ r h f d setup free allowed stands.
    (c.in-Refused.ensures.told r h f d setup free stands.clear (c.held-held.ensures.value r h stands.sessions)).2

pub returns-in-Refused-clause-harmless : goal.returns-in-Refused-clause-harmless
returns-in-Refused-clause-harmless c = λ r h f d setup free allowed stands.
    let done = returns-in-Refused-clause-done c r h f d setup free allowed stands in
    clear_harmless r h c.args.tag c.args.message.now f d (hearing.Refused c.number.result) c.on_clear.new.out done.told done.body

pub returns-in-Answered-clause-done : goal.returns-in-Answered-clause-done
returns-in-Answered-clause-done c = λ r h f d setup free allowed stands.
    let m : List ℕ = c.args.message.now in
    let tag : ℕ = c.args.tag in
    let told = c.in-Answered.ensures.told r h f d setup free stands.clear (c.held-held.ensures.value r h stands.sessions) in
    record {
      told = told.0.told;
      body = told.0.body;
      stands = record {
        clear = told.0.stands;
        sessions = c.answered.ensures r h tag m f d told.0.told told.1 stands.sessions;
        queue = stands.queue ∙ sym (queue_after_clear r h tag m f d);
        sizes = sizes_after r h tag m f d setup.ordered setup.most stands.sizes;
      };
    }

pub returns-in-Answered-clause-drawn : goal.returns-in-Answered-clause-drawn
returns-in-Answered-clause-drawn c = λ r h f d setup free allowed stands.
    (c.in-Answered.ensures.told r h f d setup free stands.clear (c.held-held.ensures.value r h stands.sessions)).2

pub returns-in-Answered-clause-harmless : goal.returns-in-Answered-clause-harmless
returns-in-Answered-clause-harmless c = λ r h f d setup free allowed stands.
    let done = returns-in-Answered-clause-done c r h f d setup free allowed stands in
    clear_harmless r h c.args.tag c.args.message.now f d (hearing.Answered c.in-Answered.code) c.on_clear.new.out done.told done.body

pub returns-in-Begins-clause-done : goal.returns-in-Begins-clause-done
returns-in-Begins-clause-done c = λ r h f d setup free allowed stands.
    c.begin.ensures.done r h f d setup free allowed (c.in-Begins.ensures.told r h f d setup free stands.clear (c.held-held.ensures.value r h stands.sessions))
    (record { sessions = stands.sessions; queue = stands.queue; sizes = stands.sizes })

pub returns-in-Begins-clause-drawn : goal.returns-in-Begins-clause-drawn
returns-in-Begins-clause-drawn c = λ r h f d setup free allowed stands.
    c.begin.ensures.drawn r h f d setup free allowed (c.in-Begins.ensures.told r h f d setup free stands.clear (c.held-held.ensures.value r h stands.sessions))
    (record { sessions = stands.sessions; queue = stands.queue; sizes = stands.sizes })

pub returns-in-Begins-clause-harmless : goal.returns-in-Begins-clause-harmless
returns-in-Begins-clause-harmless c = λ r h f d setup free allowed stands.
    let done = returns-in-Begins-clause-done c r h f d setup free allowed stands in
    clear_harmless r h c.args.tag c.args.message.now f d c.begin.result c.begin.new.out done.told done.body
