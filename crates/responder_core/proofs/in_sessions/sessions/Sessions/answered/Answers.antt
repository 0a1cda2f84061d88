use Rattle.std.proofs.Common.{rules, ◌≡◌, ℕ, ap, true, false}
use Rattle.std.specs.Prelude.{◌==◌}
use Rattle.spdm_grammar.specs.declared.names.request_code.TheConstants.{GET_VERSION}
use Rattle.responder_core.proofs.Followed.{all_ended, all_stay}
use Rattle.spdm_grammar.specs.declared.told.heard.Heard.TheVariants as hearing
use Rattle.responder_core.proofs.in_sessions.sessions.Sessions.answered.Goals as goal

pub returns-then-code-eq-GET_VERSION : goal.returns-then-code-eq-GET_VERSION
returns-then-code-eq-GET_VERSION c = λ r h tag m f d is none stands.
    all_ended r h tag m f d c.clear.new.self (hearing.Answered c.args.code) is (ap (λ (n : ℕ). n == GET_VERSION) c.if-code-eq-GET_VERSION.true) (λ t version. c.clear.ensures r h tag t d version stands)

pub returns-else-code-eq-GET_VERSION : goal.returns-else-code-eq-GET_VERSION
returns-else-code-eq-GET_VERSION c = λ r h tag m f d is none stands.
    let other : (c.args.code == GET_VERSION) ≡ false = search rules in
    all_stay r h tag m f d c.args.self.now (hearing.Answered c.args.code) is other none stands
