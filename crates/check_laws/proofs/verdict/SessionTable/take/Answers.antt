use Rattle.std.proofs.Common.{◌+◌, List, subst, sym}
use Rattle.std.proofs.lemmas.Result.{on_ok_weaker}
use Rattle.check_laws.proofs.SeenRows.{places_are, table_is}
use Rattle.check_laws.proofs.verdict.SessionTable.take.Goals as goal
use Rattle.check_laws.specs.Rows.{StandFor, StandsForRows}
use Rattle.check_laws.specs.declared.places.Places.{Places}
use Rattle.check_laws.specs.declared.verdict.Seen.{Seen}
use Rattle.capture_machine.specs.SessionTable.{rows_between}

pub returns-clause-table : goal.returns-clause-table
returns-clause-table c = λ w packets before after rows is step small number stands are.
    on_ok_weaker c.change.result
    (λ same. subst (λ (t : List Seen). StandsForRows t w (packets + 1) (rows_between before after rows)) (sym same)
    (table_is w packets c.args.change.now before after is step small c.args.requester number c.args.places.now c.args.self.now rows stands are))
    c.change.ensures.table

pub returns-clause-places : goal.returns-clause-places
returns-clause-places c = λ w packets before after rows is step stands are.
    on_ok_weaker c.change.result
    (λ same. subst (λ (p : Places). StandFor p after (rows_between before after rows)) (sym same)
    (places_are w packets c.args.change.now before after is step c.args.places.now c.args.self.now rows stands are))
    c.change.ensures.places
