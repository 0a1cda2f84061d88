use Rattle.std.proofs.Common.{◌∙◌, ◌+◌, List, ap, subst, sym}
use Rattle.check_laws.proofs.AskedRows.{asked_places, asked_table}
use Rattle.check_laws.proofs.verdict.SessionTable.ask.Goals as goal
use Rattle.check_laws.specs.Rows.{StandsForRows, changed_where, with_sent}
use Rattle.check_laws.specs.declared.verdict.Seen.{Seen}
use Rattle.capture_machine.specs.SessionTable.{rows_between}

pub returns-clause-table : goal.returns-clause-table
returns-clause-table c = λ w packets before after rows is small stands are.
    let same = c.count_sent_at.ensures ∙ ap (λ o. changed_where o with_sent c.args.self.now) c.asking.ensures in
    subst (λ (t : List Seen). StandsForRows t w (packets + 1) (rows_between before after rows)) (sym same)
    (asked_table c.args.sent before after is w packets small c.args.places.now c.args.self.now rows stands are)

pub returns-clause-places : goal.returns-clause-places
returns-clause-places c = λ before after rows is are. asked_places c.args.sent before after is c.args.places.now rows are
