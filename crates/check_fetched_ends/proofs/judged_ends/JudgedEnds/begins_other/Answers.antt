use Rattle.std.proofs.Common.{◌≡◌, ◌==◌, ◌∙◌, ap, subst, sym, ℕ, List, Option, None, false}
use Rattle.std.specs.Prelude.{slice_index}
use Rattle.mctp_framing.specs.Gathering.Gathered.{Whole}
use Rattle.requester_machine.specs.Setup.{ReqSetup}
use Rattle.responder_machine.specs.Setup.{towards}
use Rattle.check_ends.proofs.WalkRows.{walk_round}
use Rattle.check_laws.proofs.KeptAnswers.{kept_is_restored}
use Rattle.check_laws.proofs.PairWalks.{walks_setup}
use Rattle.check_laws.specs.Keeping.{restored}
use Rattle.check_laws.specs.Order.{answered_why, body_in}
use Rattle.responder_core.specs.Setup.{IsSetUp}
use Rattle.check_fetched_ends.proofs.EndsLeft.{all_rest, session_part}
use Rattle.check_fetched_ends.proofs.judged_ends.JudgedEnds.begins_other.Goals as goal
use Rattle.capture_machine.specs.Rounds.{Round}
use Rattle.world_machine.specs.Setup.{known_of}

pub returns-then-not-is_clear-clause-told : goal.returns-then-not-is_clear-clause-told
returns-then-not-is_clear-clause-told c = λ w q older rows packet route k at few byte round set_up why rest none keeps sealed party coming table.
    let answer = c.args.answer.now in
    let talk = c.args.self.now.talk in
    let walk = (kept_is_restored w q older k keeps).0 in
    let now : c.args.round.now ≡ k.round = round ∙ sym (walk_round w q older (restored k) walk) in
    let towards_it = subst (λ (s : ReqSetup). IsSetUp c.args.setup.now (towards w.responder (known_of s))) (sym (walks_setup w q older (restored k) walk)) set_up in
    let right = subst (λ (o : Option Round). answered_why o (Whole route answer) ≡ None) now why in
    let type : (slice_index (body_in c.args.round.now) 0 == 5) ≡ false = ap (λ (l : List ℕ). slice_index l 0 == 5) (sym c.body.ensures) ∙ sym c.is_clear.ensures ∙ c.if-not-is_clear.true in
    all_rest w q older k keeps route answer rows packet at talk none c.args.self.now.fetched rest c.replies_prepared.new.self c.replies_prepared.new.table
    (session_part w q older k keeps route answer (λ other is. subst (λ (o : Option Round). (slice_index (body_in o) 0 == 5) ≡ false) (now ∙ is) type) sealed) c.replies_prepared.result
    (c.replies_prepared.ensures.told w q older rows k route keeps few byte now towards_it right party coming table)

pub returns-clause-told : goal.returns-clause-told
returns-clause-told c = λ w q older rows packet route k at few byte round set_up why rest none keeps sealed party coming table.
    c.begins_clear.ensures.told w q older rows packet route k at few byte round set_up why rest none keeps sealed party table
