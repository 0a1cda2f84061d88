use Rattle.std.proofs.Common.{arith}
use Rattle.script_text.specs.Numbers.{value_of}
use Rattle.script_text.proofs.EndPointLemmas.{some_eid_is}
use Rattle.script_text.proofs.configuration.end_numbers.eid.Goals as goal

pub returns-clause-value : goal.returns-clause-value
returns-clause-value c =
    let told = c.in_ok-number.ensures in
    some_eid_is c.new.result c.in_ok-number.number (value_of c.args.word.now) c.new.ensures.value told.value (omega (arith, told.value, told.low)) (omega (arith, told.value, told.high))
