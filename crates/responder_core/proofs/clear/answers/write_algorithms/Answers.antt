use Rattle.std.proofs.Common.{◌∙◌, sym, subst}
use Rattle.spdm_grammar.specs.Message.{ReplyMessage, offer_message}
use Rattle.spdm_grammar.specs.Responses.{IsSoundReply}
use Rattle.responder_core.proofs.clear.answers.write_algorithms.Goals as goal

pub write_response-requires : goal.write_response-requires
write_response-requires c =
    subst (λ (reply : ReplyMessage). IsSoundReply reply) (sym (c.message.ensures ∙ c.new-reply.ensures)) (c.reply_is_sound.ensures (offer_message c.args.offer.now) c.match-choice_of.choice)
