use Rattle.std.proofs.Common.{Bool, false, subst, Some}
use Rattle.capture_machine.specs.LargeAnswers.{with_large}
use Rattle.check_fetched_ends.proofs.session_fetch.session_others.forgets.Goals as goal
use Rattle.check_fetched_ends.specs.SessionOthers.{MayForget}

pub returns-then-left : goal.returns-then-left
returns-then-left c = λ r h whole may judges.
    let is = subst (λ (b : Bool). MayForget c.args.id h whole b c.args.live) c.if-left.true may in
    c.forget_bytes.ensures r h whole is.0 is.1 is.2 is.3 judges

pub returns-then-live : goal.returns-then-live
returns-then-live c = λ r h whole may judges.
    let left = subst (λ (b : Bool). MayForget c.args.id h whole b c.args.live) c.if-left.false may in
    let is = subst (λ (b : Bool). MayForget c.args.id h whole false b) c.if-live.true left in
    c.uncount_in.ensures r (with_large (Some c.args.id) whole h) h is judges

pub returns-else-live : goal.returns-else-live
returns-else-live c = λ r h whole may judges.
    let left = subst (λ (b : Bool). MayForget c.args.id h whole b c.args.live) c.if-left.false may in
    let is = subst (λ (b : Bool). MayForget c.args.id h whole false b) c.if-live.false left in
    is c.args.connection.now r judges
