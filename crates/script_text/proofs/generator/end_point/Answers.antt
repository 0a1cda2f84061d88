use Rattle.std.proofs.Common.{refl}
use Rattle.script_text.proofs.EndPointLemmas.{some_eid_is}
use Rattle.script_text.proofs.generator.end_point.Goals as goal

pub returns : goal.returns
returns c =
    let some = some_eid_is c.new.result c.args.number c.args.number c.new.ensures.value refl c.requires.low c.requires.high in
    rw c.unwrap.ensures at some
