use Rattle.std.proofs.Common.{refl}
use Rattle.responder_machine.specs.Place.{clear_place}
use Rattle.check_responder.proofs.ClearShown.{read_plain}
use Rattle.check_responder.proofs.clear_values.plain_values.Goals as goal
use Rattle.check_laws.specs.AnswersShown.{least_values, values_in}

pub returns : goal.returns
returns c = λ r h set at free none.
    let p = clear_place h in
    let m = c.args.message.now in
    let k = least_values h p in
    read_plain r h m c.args.reply.now (values_in r p m k c.args.reply.now) c.values_in.result none (c.values_in.ensures r p k set at free (record { context = refl; measured_opaque = refl; nonce = refl }))
