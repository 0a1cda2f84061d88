use Rattle.std.proofs.Common.{◌≡◌, ◌==◌, ◌&&◌, ◌∙◌, ℕ, List, Bool, true, false, Option, None, sym, ap, subst, drop, cond}
use Rattle.std.specs.Prelude.{slice_index}
use Rattle.std.proofs.lemmas.Bool.{false≢true}
use Rattle.check_ends.proofs.InTurn.{answers_in_turn}
use Rattle.check_ends.proofs.PartyReplied.{kept_limits}
use Rattle.check_ends.proofs.WalkRows.{walk_round}
use Rattle.check_laws.proofs.KeptAnswers.{kept_is_restored}
use Rattle.check_laws.specs.Keeping.{restored}
use Rattle.check_laws.specs.Order.{answered_why, body_in}
use Rattle.check_laws.specs.RepliesShown.{responder_for}
use Rattle.check_fetched_ends.proofs.AskedRefused.{none_asked, none_repeated}
use Rattle.check_fetched_ends.proofs.ClearAsked.{clear_asked, each_round, no_clear}
use Rattle.check_fetched_ends.proofs.EndsReplied.{none_of, none_sent as not_sent}
use Rattle.check_fetched_ends.proofs.MarkedAgain.{at_rest, none_fetched, none_sent, none_tested}
use Rattle.check_fetched_ends.proofs.marked.MarkedEnds.replies.Goals as goal
use Rattle.check_fetched_ends.specs.LateBegins.{is_free_body, is_large_body}
use Rattle.check_fetched_ends.specs.MarkedEnds.{NoneAsked, may_come_again}
use Rattle.mctp_framing.specs.Gathering.Gathered.{Whole}
use Rattle.requester_machine.specs.Holds.{Holds}
use Rattle.requester_machine.specs.Setup.{ReqSetup}
use Rattle.requester_machine.specs.UnderWay.{HasSizes}
use Rattle.responder_machine.specs.Responder.{repeats}
use Rattle.responder_machine.specs.Session.{id_in_record, last_of, session_of}
use Rattle.capture_machine.specs.Rounds.{Round}

both_are : (a b : Bool) → a ≡ true → b ≡ true → (a && b) ≡ true
both_are true b one two = two
both_are false b one two = absurd (false≢true one)

pub returns-then-is_some-clause-told : goal.returns-then-is_some-clause-told
returns-then-is_some-clause-told c = λ w q older rows packet route at few byte round set_up why stands table.
    let ends = c.args.self.now.ends in
    c.judges.ensures.told w q older rows packet route at few byte round set_up why
    (λ k keeps left. absurd (none_fetched w q older rows ends.talk ends.fetched k keeps stands.0 (sym c.is_some.ensures ∙ c.if-is_some.true))) stands table

pub returns-then-is_some-2-clause-told : goal.returns-then-is_some-2-clause-told
returns-then-is_some-2-clause-told c = λ w q older rows packet route at few byte round set_up why stands table.
    let ends = c.args.self.now.ends in
    c.judges-then-is_some-2.ensures.told w q older rows packet route at few byte round set_up why
    (λ k keeps left. absurd (none_sent w q older rows ends.talk ends.fetched k keeps stands.0 (sym c.is_some-2.ensures ∙ c.if-is_some-2.true))) stands table

pub returns-then-not-may_come_again-clause-told : goal.returns-then-not-may_come_again-clause-told
returns-then-not-may_come_again-clause-told c = λ w q older rows packet route at few byte round set_up why stands table.
    let answer : List ℕ = c.args.answer.now in
    let ends = c.args.self.now.ends in
    c.judges-then-not-may_come_again.ensures.told w q older rows packet route at few byte round set_up why
    (λ k keeps left.
    let rest = at_rest w q older rows ends.talk ends.fetched k keeps stands.0 in
    let own = rest.kept in
    let now : c.args.round.now ≡ own.round = round ∙ sym (walk_round w q older (restored own) (kept_is_restored w q older own rest.keeps).0) in
    let turn = answers_in_turn own route answer (subst (λ (o : Option Round). answered_why o (Whole route answer) ≡ None) now why) in
    let body = c.body-body.ensures ∙ ap body_in (now ∙ turn.answers.0) in
    let asker = rest.party_is.asker in
    let holds = subst (λ (x : ReqSetup). Holds x (restored own).requester) (sym asker.setup) asker.stands.clear_state.holds in
    let sizes = subst HasSizes (sym asker.setup) asker.kept.sizes in
    let h = own.responder in
    let never : may_come_again h turn.round.body answer ≡ false = ap (λ (l : List ℕ). may_come_again h l answer) (sym body) ∙ sym (c.may_come_again.ensures (responder_for w own) h rest.party_is.answerer) ∙ c.if-not-may_come_again.true in
    let clear : (slice_index turn.round.body 0 == 5) ≡ true → NoneAsked w q older packet route.tag answer =
    λ type. clear_asked w q older packet route answer at byte own rest.keeps turn type holds sizes rest.party_is.answerer.sizes
    (none_tested w q older rows packet route answer own rest.keeps turn holds sizes
    (λ are. false≢true (sym never ∙ ap (λ (b : Bool). cond b (is_free_body turn.round.body && is_large_body answer) (repeats (last_of (session_of (id_in_record (drop 1 turn.round.body)) h)) (drop 1 turn.round.body))) type
    ∙ both_are (is_free_body turn.round.body) (is_large_body answer) are.free are.large))) in
    let sealed : (slice_index turn.round.body 0 == 5) ≡ false → NoneAsked w q older packet route.tag answer =
    λ type. none_asked w q older packet route answer at byte own rest.keeps (no_clear w q older packet route answer at byte own rest.keeps turn type)
    (none_repeated w q older packet route answer at byte own rest.keeps (kept_limits q own ends.talk.party.asker asker) turn type
    (sym (ap (λ (b : Bool). cond b (is_free_body turn.round.body && is_large_body answer) (repeats (last_of (session_of (id_in_record (drop 1 turn.round.body)) h)) (drop 1 turn.round.body))) type) ∙ never)) in
    each_round w q older packet route answer at byte own rest.keeps turn clear sealed k keeps left)
    stands table

pub returns-then-is_clear-clause-told : goal.returns-then-is_clear-clause-told
returns-then-is_clear-clause-told c = λ w q older rows packet route at few byte round set_up why stands table.
    let ends = c.args.self.now.ends in
    let type = sym (c.is_clear.ensures ∙ ap (λ (l : List ℕ). slice_index l 0 == 5) c.body-body.ensures) ∙ c.if-is_clear.true in
    c.begins_in_clear.ensures.told w q older rows packet route at few byte round set_up why type (none_of ends.fetched (sym c.is_some.ensures ∙ c.if-is_some.false)) (not_sent ends.talk.large (sym c.is_some-2.ensures ∙ c.if-is_some-2.false)) stands table

pub returns-clause-told : goal.returns-clause-told
returns-clause-told c = λ w q older rows packet route at few byte round set_up why stands table.
    let ends = c.args.self.now.ends in
    let type = sym (c.is_clear.ensures ∙ ap (λ (l : List ℕ). slice_index l 0 == 5) c.body-body.ensures) ∙ c.if-is_clear.false in
    c.begins_in_session.ensures.told w q older rows packet route at few byte round set_up why type (none_of ends.fetched (sym c.is_some.ensures ∙ c.if-is_some.false)) (not_sent ends.talk.large (sym c.is_some-2.ensures ∙ c.if-is_some-2.false)) stands table

pub returns-then-is_some-clause-memory : goal.returns-then-is_some-clause-memory
returns-then-is_some-clause-memory c = c.judges.ensures.memory

pub returns-then-is_some-2-clause-memory : goal.returns-then-is_some-2-clause-memory
returns-then-is_some-2-clause-memory c = c.judges-then-is_some-2.ensures.memory

pub returns-then-not-may_come_again-clause-memory : goal.returns-then-not-may_come_again-clause-memory
returns-then-not-may_come_again-clause-memory c = c.judges-then-not-may_come_again.ensures.memory

pub returns-then-is_clear-clause-memory : goal.returns-then-is_clear-clause-memory
returns-then-is_clear-clause-memory c = c.begins_in_clear.ensures.memory

pub returns-clause-memory : goal.returns-clause-memory
returns-clause-memory c = c.begins_in_session.ensures.memory
