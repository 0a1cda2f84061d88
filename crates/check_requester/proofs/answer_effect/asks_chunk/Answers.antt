use Rattle.std.proofs.Common.{◌∙◌, ◌==◌, ap, List, Some, ℕ}
use Rattle.std.specs.Prelude.{slice_index}
use Rattle.requester_machine.specs.Owed.{with_next}
use Rattle.spdm_grammar.specs.declared.names.request_code.TheConstants.{CHUNK_GET}
use Rattle.check_requester.proofs.FetchesUpon.{in_clear, in_session, no_session}
use Rattle.check_requester.proofs.FinishApart.{long_with}
use Rattle.check_requester.proofs.answer_effect.asks_chunk.Goals as goal

pub returns-in_default : goal.returns-in_default
returns-in_default c = λ q bare sent took shows room few stands.
    ap (λ (n : ℕ). n == CHUNK_GET) (c.byte_at.ensures ∙ ap (λ (l : List ℕ). slice_index l 2) (c.as_slice.ensures.value ∙ room))
    ∙ in_clear c.args.asking.now q bare sent took shows stands (c.in_default.ensures q (with_next (Some sent) bare) stands)

pub returns-in-Some-view : goal.returns-in-Some-view
returns-in-Some-view c = λ q bare sent took shows room few stands.
    let h = with_next (Some sent) bare in
    c.is_open.ensures ∙ in_session c.args.asking.now q bare sent took shows stands c.in-Some.id (c.in-Some.ensures q h stands) c.in-Some-view.view (c.in-Some-view.ensures q h stands (long_with bare sent few))

pub returns-in-None : goal.returns-in-None
returns-in-None c = λ q bare sent took shows room few stands.
    let h = with_next (Some sent) bare in
    absurd (no_session c.args.asking.now q bare sent took shows stands c.in-Some.id (c.in-Some.ensures q h stands) (c.in-None.ensures q h stands (long_with bare sent few)))
