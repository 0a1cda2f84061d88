use Rattle.std.proofs.Common.{◌∙◌, Some, None, sym}
use Rattle.appraise.proofs.OneAnswer.{as_malformed, as_fault, as_left}
use Rattle.appraise.proofs.appraising.appraise.Goals as goal

pub returns-then-not-is_empty : goal.returns-then-not-is_empty
returns-then-not-is_empty c =
    let r = c.read-reading.result in
    let e = c.rules-rules.ensures in
    let answer = as_malformed c.rules-rules.result.now c.args.policy.now c.args.blocks.now r.seen.table r.fault r.rest.now
    e.value e.sound c.read-reading.ensures.read c.read-reading.ensures.last
    (sym c.is_empty.ensures ∙ c.if-not-is_empty.true) in
    record { holds = answer.0; only = answer.1 }

pub returns-in-Some : goal.returns-in-Some
returns-in-Some c =
    let r = c.read-reading.result in
    let e = c.rules-rules.ensures in
    let answer = as_fault c.rules-rules.result.now c.args.policy.now c.args.blocks.now r.seen.table r.fault r.rest.now c.in-Some.fault
    e.value e.sound c.read-reading.ensures.read c.read-reading.ensures.last
    (sym c.is_empty.ensures ∙ c.if-not-is_empty.false) c.in-Some.is in
    record { holds = answer.0; only = answer.1 }

pub returns-in-Some-first_missing : goal.returns-in-Some-first_missing
returns-in-Some-first_missing c =
    let r = c.read-reading.result in
    let e = c.rules-rules.ensures in
    let answer = as_left c.rules-rules.result.now c.args.policy.now c.args.blocks.now r.seen.table r.fault r.rest.now (Some c.in-Some-first_missing.index)
    e.value e.sound c.read-reading.ensures.read c.read-reading.ensures.last
    (sym c.is_empty.ensures ∙ c.if-not-is_empty.false) c.in_default.is c.in-Some-first_missing.ensures in
    record { holds = answer.0; only = answer.1 }

pub returns-in-None : goal.returns-in-None
returns-in-None c =
    let r = c.read-reading.result in
    let e = c.rules-rules.ensures in
    let answer = as_left c.rules-rules.result.now c.args.policy.now c.args.blocks.now r.seen.table r.fault r.rest.now None
    e.value e.sound c.read-reading.ensures.read c.read-reading.ensures.last
    (sym c.is_empty.ensures ∙ c.if-not-is_empty.false) c.in_default.is c.in-None.ensures in
    record { holds = answer.0; only = answer.1 }
