use Rattle.std.proofs.Common.{◌∙◌, sym}
use Rattle.std.proofs.lemmas.Bool.{false≢true, not-true}
use Rattle.check_requester.proofs.AskedBy.{bare_kept, none_kept, none_waits}
use Rattle.check_requester.proofs.FinishApart.{owing_long}
use Rattle.check_requester.proofs.OwedTook.{kept_few}
use Rattle.check_requester.proofs.judged_requester.JudgedRequester.comes_plain.Goals as goal
use Rattle.check_laws.specs.Keeping.{owing}

pub returns-then-not-is_secured-clause-plain : goal.returns-then-not-is_secured-clause-plain
returns-then-not-is_secured-clause-plain c = λ w q older k keeps few asker is. absurd (false≢true is)

pub returns-then-self-clause-plain : goal.returns-then-self-clause-plain
returns-then-self-clause-plain c = λ w q older k keeps few asker is. absurd (false≢true is)

pub returns-clause-plain : goal.returns-clause-plain
returns-clause-plain c = λ w q older k keeps few asker is.
    let waits = c.write_outstanding.ensures.waits q k.requester asker.kept (kept_few w q older k keeps few) (bare_kept q k c.args.self.now asker c.if-self.false) in
    record {
      secured = sym c.is_secured.ensures ∙ c.if-not-is_secured.false;
      owed = none_kept q k c.args.self.now asker c.if-self.false;
      none = none_waits k (sym waits ∙ not-true c.write_outstanding.result is);
    }

pub returns-clause-kept : goal.returns-clause-kept
returns-clause-kept c = λ w q older k keeps few asker. record {
  kept = asker.kept;
  setup = asker.setup;
  stands = c.write_outstanding.ensures.stands q (owing k.owed k.requester) asker.kept (owing_long k.owed k.requester (kept_few w q older k keeps few)) asker.stands;
  owes = asker.owes;
}
