use Rattle.std.proofs.Common.{ap, sym, ◌∙◌}
use Rattle.negotiate.specs.declared.shared.Common.{Common}
use Rattle.spdm_grammar.specs.declared.messages.choice.Choice.{Choice}
use Rattle.psk_session.specs.Opening.{finishing}
use Rattle.psk_session.proofs.Judged.{judged}
use Rattle.psk_session.proofs.finishing.Finishing.answered.Goals as goal

pub returns-in-Some : goal.returns-in-Some
returns-in-Some c = λ psk n exchange answer pad stands. (
  c.in_default.ensures.fault psk n exchange answer pad stands,
  λ q h f id same.
      judged psk (finishing psk n exchange answer pad) c.args.sealed.now c.as_slice.result.now c.args.self.now.terms.choice.hash _ q h f id
      (c.as_slice.ensures.value ∙ c.in_default.ensures.inner psk n exchange answer pad stands) (ap (λ (x : Choice). x.hash) stands.terms.choice)
      (c.in-Some.ensures q (same ∙ ap (λ (x : Common). x.to_requester.transfer) (sym stands.terms.common))),
)

pub returns-in-None : goal.returns-in-None
returns-in-None c = λ psk n exchange answer pad stands. (
  (
    c.in_default.ensures.fault psk n exchange answer pad stands,
    λ q h f id same.
        judged psk (finishing psk n exchange answer pad) c.args.sealed.now c.as_slice.result.now c.args.self.now.terms.choice.hash _ q h f id
        (c.as_slice.ensures.value ∙ c.in_default.ensures.inner psk n exchange answer pad stands) (ap (λ (x : Choice). x.hash) stands.terms.choice)
        (c.in-None.ensures q (same ∙ ap (λ (x : Common). x.to_requester.transfer) (sym stands.terms.common))),
  ),
  c.finish.ensures psk n exchange answer pad c.args.sealed.now stands (c.as_slice-in-None.ensures.value ∙ c.in_default.ensures.inner psk n exchange answer pad stands),
)
