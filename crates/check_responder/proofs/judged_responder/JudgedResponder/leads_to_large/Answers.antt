use Rattle.std.proofs.Common.{List, ℕ}
use Rattle.std.proofs.lemmas.Bool.{false≢true}
use Rattle.check_responder.proofs.WholeAnswered.{so_shown}
use Rattle.check_responder.proofs.judged_responder.JudgedResponder.leads_to_large.Goals as goal
use Rattle.check_responder.specs.WholeAnswers.{clear_shown}

pub returns-in-None-clause-told : goal.returns-in-None-clause-told
returns-in-None-clause-told c = λ r h set stands few byte anew.
    let m : List ℕ = c.args.message.now in
    let reply : List ℕ = c.args.reply.now in (
      λ is. absurd (false≢true is),
      λ large. absurd (c.in-None.ensures r h set stands (so_shown r h c.args.tag m reply anew (clear_shown r h m reply c.args.whole.now) large byte)),
    )

pub returns-in-Some-clause-told : goal.returns-in-Some-clause-told
returns-in-Some-clause-told c = λ r h set stands few byte anew. c.leads_with.ensures.told r h set stands few anew (c.in-Some.ensures r h set stands)

pub returns-in-Some-clause-stands : goal.returns-in-Some-clause-stands
returns-in-Some-clause-stands c = λ r h set stands few is. c.leads_with.ensures.stands r h set stands few (c.in-Some.ensures r h set stands) is
