use Rattle.std.proofs.Common.{◌∙◌, ℕ, Option, ap, sym}
use Rattle.std.proofs.lemmas.Bool.{false≢true}
use Rattle.check_ends.proofs.BeginsTold.{begun_by, not_begun, party_with}
use Rattle.check_ends.proofs.InTurn.{asks_in_turn}
use Rattle.check_ends.proofs.party.Party.begins.Goals as goal
use Rattle.capture_machine.specs.Capture.{may_begin}
use Rattle.capture_machine.specs.Difference.{is_copy}
use Rattle.capture_machine.specs.Rounds.{Round}

pub returns-then-is_copy-clause-told : goal.returns-then-is_copy-clause-told
returns-then-is_copy-clause-told c = λ w q older rows k route few round tag none keeps party.
    let body = c.args.body.now in
    let copy = ap (λ (o : Option Round). is_copy o route.tag body) (sym round) ∙ ap (λ (n : ℕ). is_copy c.args.round.now n body) tag ∙ sym c.is_copy.ensures ∙ c.if-is_copy.true in
    not_begun k route body copy

pub returns-then-not-may_begin-clause-told : goal.returns-then-not-may_begin-clause-told
returns-then-not-may_begin-clause-told c = λ w q older rows k route few round tag none keeps party.
    let body = c.args.body.now in
    let never = ap (λ (o : Option Round). may_begin o body) (sym round) ∙ sym c.may_begin.ensures ∙ c.if-not-may_begin.true in
    λ next begins. false≢true (sym never ∙ begins.2)

pub returns-clause-told : goal.returns-clause-told
returns-clause-told c = λ w q older rows k route few round tag none keeps party.
    let body = c.args.body.now in
    let other = ap (λ (o : Option Round). is_copy o route.tag body) (sym round) ∙ ap (λ (n : ℕ). is_copy c.args.round.now n body) tag ∙ sym c.is_copy.ensures ∙ c.if-is_copy.false in
    let may = ap (λ (o : Option Round). may_begin o body) (sym round) ∙ sym c.may_begin.ensures ∙ c.if-not-may_begin.false in
    begun_by k route body (asks_in_turn k route body none) other may c.begins_large.result (c.begins_large.ensures.told w q older k keeps few party.asker)

pub returns-clause-kept : goal.returns-clause-kept
returns-clause-kept c = λ w q older rows k few keeps party. party_with c.args.self.now w q k rows c.begins_large.new.self party (c.begins_large.ensures.kept w q older k keeps few party.asker)
