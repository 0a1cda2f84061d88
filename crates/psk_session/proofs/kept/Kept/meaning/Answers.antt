use Rattle.std.proofs.Common.{◌≡◌, ◌∙◌, ap, sym, ℕ}
use Rattle.std.specs.Prelude.{Result, Ok}
use Rattle.negotiate.specs.declared.shared.Common.{Common}
use Rattle.requester_machine.specs.Sending.{update_tag}
use Rattle.requester_machine.specs.Session.{session_terms}
use Rattle.spdm_basis.specs.Sizes.{hash_size}
use Rattle.spdm_grammar.specs.Message.{response_message}
use Rattle.spdm_grammar.specs.declared.messages.choice.Choice.{Choice}
use Rattle.spdm_grammar.specs.declared.told.event.BadReply.{BadReply}
use Rattle.psk_session.specs.Inner.{Contents, contents_of}
use Rattle.psk_session.specs.Inner.Contents.{Spoken}
use Rattle.psk_session.specs.Verdict.{meaning_of, message_meaning}
use Rattle.psk_session.specs.Waiting.{awaited_by}
use Rattle.psk_session.proofs.kept.Kept.meaning.Goals as goal

pub returns-in-Ok-Message : goal.returns-in-Ok-Message
returns-in-Ok-Message c = λ psk s epoch before q keeps transfer.
    let a = awaited_by c.args.awaited before in
    let kept = c.args.self.now in
    let message = response_message c.in-Ok-Message.message in
    let read : contents_of q c.size.result c.args.inner.now ≡ Ok (Spoken message) =
    rw c.in-Ok-Message.field-0-is at (c.in-Ok-Message.ensures q (transfer ∙ ap (λ (x : Common). x.to_requester.transfer) (sym keeps.common))) in
    c.message.ensures before
    ∙ ap (λ (t : ℕ). message_meaning kept.terms.common.chunk t a message) (c.update_tag.ensures psk s _ keeps)
    ∙ ap (λ (x : Common). message_meaning x.chunk (update_tag s) a message) keeps.common
    ∙ sym (ap (λ (x : Result Contents BadReply). meaning_of (session_terms s).common.chunk (update_tag s) a x)
    (sym (ap (λ (n : ℕ). contents_of q n c.args.inner.now) (c.size.ensures ∙ ap (λ (x : Choice). hash_size x.hash) keeps.choice)) ∙ read))
