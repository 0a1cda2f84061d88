use Rattle.std.proofs.Common.{◌≡◌, ◌+◌, ◌-◌, ◌^◌, ◌<◌, ◌∙◌, sym, ap, subst, length, arith, List, ℕ, true, false, inl, inr, Option, Result}
use Rattle.std.specs.Prelude.{OnOk}
use Rattle.check_laws.specs.KeptChanges.{accepted_from, begun_shown, taken_shown}
use Rattle.check_laws.specs.Keeping.{restored}
use Rattle.check_laws.specs.Order.{tag_in}
use Rattle.check_laws.specs.RepliesShown.{responder_for}
use Rattle.check_laws.specs.Rows as rows_of
use Rattle.responder_core.specs.Connected as connected
use Rattle.responder_core.specs.declared.connected.Connection.{Connection}
use Rattle.requester_machine.specs.Setup.{ReqSetup}
use Rattle.responder_machine.specs.Answer.{Free}
use Rattle.responder_machine.specs.May.{on_body, with_dropped}
use Rattle.responder_machine.specs.Responder.{after}
use Rattle.responder_session.specs.declared.answer_key.AnswerKey.{AnswerKey}
use Rattle.spdm_basis.specs.declared.OutOfMemory.{OutOfMemory}
use Rattle.check_ends.proofs.InTurn.{answers_in_turn}
use Rattle.check_requester.proofs.CarriedBy.{keeps_carries}
use Rattle.check_laws.proofs.KnownFetches.{kept_asks_none}
use Rattle.check_ends.proofs.KeptTyped.{kept_apart, kept_body}
use Rattle.check_ends.proofs.PartyReplied.{answers_round, apart_for, asked_upon, behind_whole, body_is, few_messages, goes_whole, is_part, kept_limits, refused_for, whole_kept}
use Rattle.check_ends.proofs.PartyTold.{few_behind, is_change, is_step}
use Rattle.check_ends.proofs.party.Party.replies_prepared.Goals as goal
use Rattle.check_responder.specs.AnswerKeys.{IsComing, IsComingKey, StandFor}
use Rattle.check_responder.specs.JudgedResponder.{IsAnswerer, history_shown}
use Rattle.check_requester.specs.JudgedRequester.{IsAsker}
use Rattle.check_requester.specs.HeardKept.{asks_upon, heard_kept}
use Rattle.check_responder.specs.Given.{IsGiven}
use Rattle.check_responder.specs.declared.given.Judged.{Judged}
use Rattle.check_responder.specs.declared.given.Judged.TheVariants as judged
use Rattle.check_ends.specs.declared.party.Party.{Party}
use Rattle.capture_machine.specs.Capture.{IsBody}
use Rattle.capture_machine.specs.Rounds.{no_draw}
use Rattle.capture_machine.specs.SessionTable.{number_from, rows_between}

pub returns-then-heard-clause-told : goal.returns-then-heard-clause-told
returns-then-heard-clause-told c = λ w q older rows k route keeps below byte now set_up none party had stands.
    let few : length older < 2 ^ 64 - 1 = omega (arith, below) in
    let carries = keeps_carries w q older k keeps in
    let answer : List ℕ = c.args.answer.now in
    let turn = answers_in_turn k route answer none in
    let r = responder_for w k in
    let limits = kept_limits q k c.args.self.now.asker party.asker in
    let seen = c.args.round.now in
    let body = c.body-body.ensures ∙ body_is w q older k route answer byte limits keeps turn rows seen now in
    let small = few_messages w q older k carries few in
    let coming = subst (λ (b : List ℕ). IsComing c.args.self.now.coming r k.responder b) (sym c.body-body.ensures) had in
    let second = subst (λ (x : Connection). connected.StandsFor x r k.responder) (sym c.opening_with-told.ensures.same) party.answerer in
    let told = c.judges_with.ensures r (restored k) turn.round set_up second small (answers_round w q older k route answer byte limits keeps turn rows seen now c.tag-2.result c.tag-2.ensures).1 (sym body) (subst IsBody (sym body) (kept_body w q older k turn.round carries turn.answers.0)) (kept_apart w q older k turn.round answer carries) coming in
    let given = subst (λ (x : Judged). IsGiven r (restored k) turn.round answer x c.judges_with.new.self) (c.in-Given-Whole.is ∙ ap judged.Given c.in-Given-Whole.field-0-is) told in
    let under = (answers_round w q older k route answer byte limits keeps turn rows seen now c.tag-in-Given-Whole.result c.tag-in-Given-Whole.ensures).1 in
    let fetches = c.hears-heard.ensures.fetches w q older k turn.round carries below turn.answers.0 under party.asker (sym (kept_asks_none w q older k keeps)) in
    let asks : asks_upon k route.tag answer ≡ true = ap (λ (n : ℕ). asks_upon k n answer) (sym turn.answers.1 ∙ under) ∙ sym fetches ∙ c.if-heard.true in
    let why = c.reason_for-why.ensures r (restored k) turn.round (c.opening_with-told.ensures.told r (restored k) turn.round party.answerer small party.keys (sym body) coming) in
    asked_upon w q older k route answer byte limits keeps turn rows c.reason_for-why.result given.0 asks why c.args.self.now c.args.table.now

pub returns-in_ok-take-in-Given-Whole-clause-told : goal.returns-in_ok-take-in-Given-Whole-clause-told
returns-in_ok-take-in-Given-Whole-clause-told c = λ w q older rows k route keeps below byte now set_up none party had stands.
    let few : length older < 2 ^ 64 - 1 = omega (arith, below) in
    let carries = keeps_carries w q older k keeps in
    let answer : List ℕ = c.args.answer.now in
    let turn = answers_in_turn k route answer none in
    let r = responder_for w k in
    let limits = kept_limits q k c.args.self.now.asker party.asker in
    let seen = c.args.round.now in
    let body = c.body-body.ensures ∙ body_is w q older k route answer byte limits keeps turn rows seen now in
    let small = few_messages w q older k carries few in
    let coming = subst (λ (b : List ℕ). IsComing c.args.self.now.coming r k.responder b) (sym c.body-body.ensures) had in
    let second = subst (λ (x : Connection). connected.StandsFor x r k.responder) (sym c.opening_with-told.ensures.same) party.answerer in
    let told = c.judges_with.ensures r (restored k) turn.round set_up second small (answers_round w q older k route answer byte limits keeps turn rows seen now c.tag-2.result c.tag-2.ensures).1 (sym body) (subst IsBody (sym body) (kept_body w q older k turn.round carries turn.answers.0)) (kept_apart w q older k turn.round answer carries) coming in
    let given = subst (λ (x : Judged). IsGiven r (restored k) turn.round answer x c.judges_with.new.self) (c.in-Given-Whole.is ∙ ap judged.Given c.in-Given-Whole.field-0-is) told in
    let behind = history_shown r k.responder turn.round.tag turn.round.body answer in
    let key = subst (λ (o : Option AnswerKey). IsComingKey r k.responder c.body-body.result.now o) (sym c.take_key-key.ensures) coming.key in
    let under = (answers_round w q older k route answer byte limits keeps turn rows seen now c.tag-in-Given-Whole.result c.tag-in-Given-Whole.ensures).1 in
    let last : Party = record c.args.self.now {
      asker = c.hears-heard.new.self;
      answerer = c.judges_with.new.self;
      keys = c.follow.new.self;
      places = c.take.new.places;
      coming = c.take_key-key.new.self;
      text = c.judges_with.new.text;
    } in
    let after_by = λ (ids : List ℕ) (f : Free) (b : List ℕ). after (with_dropped k.responder ids) (on_body r (with_dropped k.responder ids) (tag_in seen) b f no_draw) in
    let are = behind_whole w q older k route answer byte limits keeps turn rows seen now last given.1
    (λ h. subst (λ (n : ℕ). IsAsker c.hears-heard.new.self q (heard_kept k h n turn.round answer)) (sym under)
    (c.hears-heard.ensures.kept w q older k h turn.round carries below turn.answers.0 under party.asker))
    (λ ids f there. subst (λ (b : List ℕ). StandFor c.follow.new.self r (after_by ids f b)) c.body-body.ensures
    (c.follow.ensures r k.responder ids (tag_in seen) f no_draw party.keys key
    (subst (λ (b : List ℕ). IsAnswerer c.judges_with.new.self r (after_by ids f b)) (sym c.body-body.ensures) there))) in
    let next = whole_kept w q older k route answer byte limits keeps turn rows in
    let tag = sym (answers_round w q older k route answer byte limits keeps turn rows seen now c.tag.result c.tag.ensures).1 in
    let h = k.responder in
    let change = is_change w q older k route answer byte limits keeps turn rows given.0 c.change-change.result
    (c.change-change.ensures.begun ∙ c.begun-begun.ensures.shown r h second ∙ ap (λ (n : ℕ). begun_shown h n c.body-body.result.now answer) tag ∙ ap (λ (b : List ℕ). begun_shown h turn.round.tag b answer) body)
    (c.change-change.ensures.accepted ∙ c.hears-heard.ensures.accepted w q older k turn.round carries few turn.answers.0 under party.asker ∙ ap (λ (n : ℕ). accepted_from k n answer) (sym under))
    (c.change-change.ensures.taken ∙ c.taken-taken.ensures r h second ∙ ap (λ (b : List ℕ). taken_shown h b answer) body)
    c.change-change.ensures.asked
    (c.change-change.ensures.views r behind given.1 (few_behind w q older k route answer byte limits keeps turn rows given.0 few)) in
    let fetches = c.hears-heard.ensures.fetches w q older k turn.round carries below turn.answers.0 under party.asker (sym (kept_asks_none w q older k keeps)) in
    let idle : asks_upon k route.tag answer ≡ false = ap (λ (n : ℕ). asks_upon k n answer) (sym turn.answers.1 ∙ under) ∙ sym fetches ∙ c.if-heard.false in
    let step = is_step w q older k route answer byte limits keeps turn rows given.0 idle in
    let there = party.number ∙ ap (λ (s : ReqSetup). number_from 1 s.eid w.requesters) (sym party.asker.setup) in
    let it = c.in_ok-take-in-Given-Whole.was in
    let table = subst (λ (x : Result Unit OutOfMemory). OnOk x (rows_of.StandsForRows c.take.new.self w (length older + 1) (rows_between (restored k) (restored next) rows))) it
    (c.take.ensures.table w (length older) (restored k) (restored next) rows change step few there stands party.places) in
    let stand = subst (λ (x : Result Unit OutOfMemory). OnOk x (rows_of.StandFor c.take.new.places (restored next) (rows_between (restored k) (restored next) rows))) it
    (c.take.ensures.places w (length older) (restored k) (restored next) rows change step stands party.places) in
    goes_whole w q older k route answer byte limits keeps turn rows last c.take.new.self given.0 idle are party.number (record { stand = stand; stands = table })

pub returns-in-Given-Large-clause-told : goal.returns-in-Given-Large-clause-told
returns-in-Given-Large-clause-told c = λ w q older rows k route keeps below byte now set_up none party had stands.
    let few : length older < 2 ^ 64 - 1 = omega (arith, below) in
    let carries = keeps_carries w q older k keeps in
    let answer : List ℕ = c.args.answer.now in
    let turn = answers_in_turn k route answer none in
    let r = responder_for w k in
    let limits = kept_limits q k c.args.self.now.asker party.asker in
    let seen = c.args.round.now in
    let body = c.body-body.ensures ∙ body_is w q older k route answer byte limits keeps turn rows seen now in
    let small = few_messages w q older k carries few in
    let coming = subst (λ (b : List ℕ). IsComing c.args.self.now.coming r k.responder b) (sym c.body-body.ensures) had in
    let second = subst (λ (x : Connection). connected.StandsFor x r k.responder) (sym c.opening_with-told.ensures.same) party.answerer in
    let told = c.judges_with.ensures r (restored k) turn.round set_up second small (answers_round w q older k route answer byte limits keeps turn rows seen now c.tag-2.result c.tag-2.ensures).1 (sym body) (subst IsBody (sym body) (kept_body w q older k turn.round carries turn.answers.0)) (kept_apart w q older k turn.round answer carries) coming in
    let given = subst (λ (x : Judged). IsGiven r (restored k) turn.round answer x c.judges_with.new.self) (c.in-Given-Large.is ∙ ap judged.Given c.in-Given-Large.field-0-is) told in
    is_part w q older k route answer byte limits keeps turn rows c.args.self.now c.args.table.now (inl given)

pub returns-in-Given-Last-clause-told : goal.returns-in-Given-Last-clause-told
returns-in-Given-Last-clause-told c = λ w q older rows k route keeps below byte now set_up none party had stands.
    let few : length older < 2 ^ 64 - 1 = omega (arith, below) in
    let carries = keeps_carries w q older k keeps in
    let answer : List ℕ = c.args.answer.now in
    let turn = answers_in_turn k route answer none in
    let r = responder_for w k in
    let limits = kept_limits q k c.args.self.now.asker party.asker in
    let seen = c.args.round.now in
    let body = c.body-body.ensures ∙ body_is w q older k route answer byte limits keeps turn rows seen now in
    let small = few_messages w q older k carries few in
    let coming = subst (λ (b : List ℕ). IsComing c.args.self.now.coming r k.responder b) (sym c.body-body.ensures) had in
    let second = subst (λ (x : Connection). connected.StandsFor x r k.responder) (sym c.opening_with-told.ensures.same) party.answerer in
    let told = c.judges_with.ensures r (restored k) turn.round set_up second small (answers_round w q older k route answer byte limits keeps turn rows seen now c.tag-2.result c.tag-2.ensures).1 (sym body) (subst IsBody (sym body) (kept_body w q older k turn.round carries turn.answers.0)) (kept_apart w q older k turn.round answer carries) coming in
    let given = subst (λ (x : Judged). IsGiven r (restored k) turn.round answer x c.judges_with.new.self) (c.in-Given-Last.is ∙ ap judged.Given c.in-Given-Last.field-0-is) told in
    is_part w q older k route answer byte limits keeps turn rows c.args.self.now c.args.table.now (inr given)

pub returns-in-Apart-clause-told : goal.returns-in-Apart-clause-told
returns-in-Apart-clause-told c = λ w q older rows k route keeps below byte now set_up none party had stands.
    let few : length older < 2 ^ 64 - 1 = omega (arith, below) in
    let carries = keeps_carries w q older k keeps in
    let answer : List ℕ = c.args.answer.now in
    let turn = answers_in_turn k route answer none in
    let r = responder_for w k in
    let limits = kept_limits q k c.args.self.now.asker party.asker in
    let seen = c.args.round.now in
    let body = c.body-body.ensures ∙ body_is w q older k route answer byte limits keeps turn rows seen now in
    let small = few_messages w q older k carries few in
    let coming = subst (λ (b : List ℕ). IsComing c.args.self.now.coming r k.responder b) (sym c.body-body.ensures) had in
    let second = subst (λ (x : Connection). connected.StandsFor x r k.responder) (sym c.opening_with-told.ensures.same) party.answerer in
    let told = c.judges_with.ensures r (restored k) turn.round set_up second small (answers_round w q older k route answer byte limits keeps turn rows seen now c.tag-2.result c.tag-2.ensures).1 (sym body) (subst IsBody (sym body) (kept_body w q older k turn.round carries turn.answers.0)) (kept_apart w q older k turn.round answer carries) coming in
    let given = subst (λ (x : Judged). IsGiven r (restored k) turn.round answer x c.judges_with.new.self) c.in-Apart.is told in
    apart_for w q older k route answer byte limits keeps turn rows given.0 given.1 c.args.self.now c.args.table.now

pub returns-in-Refused-clause-told : goal.returns-in-Refused-clause-told
returns-in-Refused-clause-told c = λ w q older rows k route keeps below byte now set_up none party had stands.
    let few : length older < 2 ^ 64 - 1 = omega (arith, below) in
    let carries = keeps_carries w q older k keeps in
    let answer : List ℕ = c.args.answer.now in
    let turn = answers_in_turn k route answer none in
    let r = responder_for w k in
    let limits = kept_limits q k c.args.self.now.asker party.asker in
    let seen = c.args.round.now in
    let body = c.body-body.ensures ∙ body_is w q older k route answer byte limits keeps turn rows seen now in
    let small = few_messages w q older k carries few in
    let coming = subst (λ (b : List ℕ). IsComing c.args.self.now.coming r k.responder b) (sym c.body-body.ensures) had in
    let second = subst (λ (x : Connection). connected.StandsFor x r k.responder) (sym c.opening_with-told.ensures.same) party.answerer in
    let told = c.judges_with.ensures r (restored k) turn.round set_up second small (answers_round w q older k route answer byte limits keeps turn rows seen now c.tag-2.result c.tag-2.ensures).1 (sym body) (subst IsBody (sym body) (kept_body w q older k turn.round carries turn.answers.0)) (kept_apart w q older k turn.round answer carries) coming in
    let given = subst (λ (x : Judged). IsGiven r (restored k) turn.round answer x c.judges_with.new.self) c.in-Refused.is told in
    let why = c.reason_for.ensures r (restored k) turn.round (c.opening_with-told.ensures.told r (restored k) turn.round party.answerer small party.keys (sym body) coming) in
    refused_for w q older k route answer byte limits keeps turn rows c.reason_for.result given.0 given.1 why c.args.self.now c.args.table.now
