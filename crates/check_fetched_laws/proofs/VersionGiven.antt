-- GET_VERSION in the clear leads to VERSION, and to nothing else.
use Rattle.std.proofs.Common.{◌≡◌, ◌≤◌, List, [], ℕ, sym, ap, ◌∙◌, subst, length, arith}
use Rattle.spdm_grammar.specs.Message.RequestMessage.{GetVersion}
use Rattle.spdm_grammar.specs.Requests.{canonical_request}
use Rattle.spdm_grammar.specs.declared.names.TheConstants.{MAX_MESSAGE_SIZE}
use Rattle.spdm_machine.specs.Bodies.{clear_body}
use Rattle.responder_machine.specs.Answer.{Free, answer_bytes}
use Rattle.responder_machine.specs.Handling.{chunk_in}
use Rattle.responder_machine.specs.Place.{clear_place}
use Rattle.responder_machine.specs.Responder.Outcome.{Adds}
use Rattle.check_laws.proofs.LeastValues.{least_allowed}
use Rattle.check_laws.specs.AnswersShown.{least_values}
use Rattle.check_fetched_laws.proofs.ClearVersion.{answer, asked, version_gives}
use Rattle.check_fetched_laws.specs.StandsAlike.{VersionIsGiven, version_entry}
use Rattle.capture_machine.specs.CapturedAnswers.{MayLeadTo, answer_at}

pub version_is_given : VersionIsGiven
unfolding MayLeadTo
version_is_given r h tag outcome is = (to_given, from_given)
  where
    to_given : MayLeadTo r h tag (clear_body (canonical_request GetVersion)) outcome → outcome ≡ Adds (version_entry tag)
    to_given may = sym may.3 ∙ version_gives r h tag is may.0

    from_given : outcome ≡ Adds (version_entry tag) → MayLeadTo r h tag (clear_body (canonical_request GetVersion)) outcome
    from_given same =
        let k : Free = least_values h (clear_place h) in
        let m : List ℕ = canonical_request GetVersion in
        let few : length (answer_bytes r (clear_place h) m k) ≤ MAX_MESSAGE_SIZE = subst (λ (l : List ℕ). length l ≤ MAX_MESSAGE_SIZE) (sym (answer r h tag is k)) (omega arith) in (
          k,
          least_allowed h (clear_place h) [] (omega arith),
          subst (λ (c : _). length (answer_at r (clear_place h) m k c) ≤ MAX_MESSAGE_SIZE) (sym (ap chunk_in (asked r h tag is))) few,
          version_gives r h tag is k ∙ sym same,
        )
