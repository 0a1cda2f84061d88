use Rattle.std.proofs.Common.{◌+◌, ◌-◌, ◌^◌, ◌<◌, ◌∙◌, refl, sym, ap, subst, length, arith, List, ℕ, true, Some, Result}
use Rattle.std.specs.Prelude.{OnOk}
use Rattle.check_laws.specs.KeptChanges.{begun_shown, taken_shown}
use Rattle.check_laws.specs.Order.{body_in, tag_in}
use Rattle.check_laws.specs.RepliesShown.{responder_for}
use Rattle.check_laws.specs.Rows as rows_of
use Rattle.responder_core.specs.Connected as connected
use Rattle.responder_core.specs.declared.connected.Connection.{Connection}
use Rattle.requester_machine.specs.Setup.{ReqSetup}
use Rattle.responder_machine.specs.May.{on_body, with_dropped}
use Rattle.responder_machine.specs.Responder.{after}
use Rattle.spdm_basis.specs.declared.OutOfMemory.{OutOfMemory}
use Rattle.check_ends.proofs.AnswersSent.{after as after_it, apart_by, few_behind, is_change, is_step, keys_behind, places_before, refused_by, sent_apart, sent_body, sent_messages, whole_on}
use Rattle.check_ends.proofs.InTurn.{answers_in_turn}
use Rattle.check_ends.proofs.SendingWalks.{form, own_setup}
use Rattle.check_responder.proofs.SendingWhole.{never_large, never_last}
use Rattle.check_ends.proofs.party.Party.replies_meanwhile.Goals as goal
use Rattle.check_responder.specs.AnswerKeys as answer_keys
use Rattle.check_responder.specs.AnswerKeys.{IsComingKey}
use Rattle.check_responder.specs.JudgedResponder.{history_shown}
use Rattle.check_ends.specs.Conversation.{meanwhile}
use Rattle.check_responder.specs.Given.{IsGiven}
use Rattle.check_responder.specs.declared.given.Judged.{Judged}
use Rattle.check_responder.specs.declared.given.Judged.TheVariants as judged
use Rattle.check_laws.specs.Large.SendingLaws.{aside}
use Rattle.capture_machine.specs.Capture.{IsBody}
use Rattle.capture_machine.specs.Rounds.{no_draw}
use Rattle.capture_machine.specs.SessionTable.{number_from, rows_between}

pub returns-in_ok-take-in-Given-Whole-clause-told : goal.returns-in_ok-take-in-Given-Whole-clause-told
returns-in_ok-take-in-Given-Whole-clause-told c = λ w q older rows packet route s at below byte now set_up none way stands.
    let few : length older < 2 ^ 64 - 1 = omega (arith, below) in
    let answer : List ℕ = c.args.answer.now in
    let own = way.sending in
    let turn = answers_in_turn (meanwhile s) route answer none in
    let r = responder_for w s.before in
    let body = c.body-body.ensures ∙ ap body_in now in
    let small = sent_messages w q older rows packet route answer at byte s own turn few in
    let first = subst (λ (x : Connection). connected.StandsFor x r s.responder) (sym c.reply_why-why.ensures.same) way.kept.answerer in
    let second = subst (λ (x : Connection). connected.StandsFor x r s.responder) (sym c.coming_key-key.ensures.same) first in
    let tag = c.tag-2.ensures ∙ ap tag_in now in
    let told = c.judges.ensures r (aside s) s.round set_up second small (sym tag) (sym body) (subst IsBody (sym body) (sent_body w q older rows packet route answer at byte s own turn)) (sent_apart w q older rows packet route answer at byte s own turn) in
    let given = subst (λ (x : Judged). IsGiven r (aside s) s.round answer x c.judges.new.self) (c.in-Given-Whole.is ∙ ap judged.Given c.in-Given-Whole.field-0-is) told in
    let shown = given.0 in
    let h = history_shown r s.responder s.round.tag s.round.body answer in
    let coming = subst (λ (b : List ℕ). IsComingKey r s.responder b c.coming_key-key.result) body (c.coming_key-key.ensures.key r s.responder first small) in
    let keys = keys_behind w q older rows packet route answer at byte s own turn shown c.follow.new.self c.judges.new.self given.1
    (λ ids f. subst (λ (b : List ℕ). connected.StandsFor c.judges.new.self.connection r (after (with_dropped s.responder ids) (on_body r (with_dropped s.responder ids) s.round.tag b f no_draw))
    → answer_keys.StandFor c.follow.new.self r (after (with_dropped s.responder ids) (on_body r (with_dropped s.responder ids) s.round.tag b f no_draw))) body
    (c.follow.ensures r s.responder ids s.round.tag f no_draw way.kept.keys (subst (λ (b : List ℕ). IsComingKey r s.responder b c.coming_key-key.result) (sym body) coming))) in
    let last = record c.args.self.now { answerer = c.judges.new.self; keys = c.follow.new.self; places = c.take.new.places } in
    let early = c.tag.ensures ∙ ap tag_in now in
    let change = is_change w q older rows packet route answer at byte s own turn shown c.ack_accepts_none.ensures c.answer_asks_none.ensures c.change-change.result
    (c.change-change.ensures.begun ∙ c.begun-begun.ensures.shown r s.responder second ∙ ap (λ (n : ℕ). begun_shown s.responder n c.body-body.result.now answer) early ∙ ap (λ (b : List ℕ). begun_shown s.responder s.round.tag b answer) body)
    c.change-change.ensures.accepted
    (c.change-change.ensures.taken ∙ c.taken-taken.ensures r s.responder second ∙ ap (λ (b : List ℕ). taken_shown s.responder b answer) body)
    c.change-change.ensures.asked
    (c.change-change.ensures.views r h given.1 (few_behind w q older rows packet route answer at byte s own turn shown few)) in
    let step = is_step w q older rows packet route answer at byte s own turn shown c.walks_step.ensures in
    let there = way.kept.number ∙ ap (λ (x : ReqSetup). number_from 1 x.eid w.requesters) (sym (own_setup w q older s own)) in
    let places = places_before w q older rows packet route answer at byte s own turn shown c.args.self.now.places way.kept.places in
    let b = form w q older s own in
    let n = after_it w q older rows packet route answer at byte s own turn shown in
    let it = c.in_ok-take-in-Given-Whole.was in
    let table = subst (λ (x : Result Unit OutOfMemory). OnOk x (rows_of.StandsForRows c.take.new.self w (length older + 1) (rows_between b n rows))) it
    (c.take.ensures.table w (length older) b n rows change step few there stands places) in
    let stand = subst (λ (x : Result Unit OutOfMemory). OnOk x (rows_of.StandFor c.take.new.places n (rows_between b n rows))) it
    (c.take.ensures.places w (length older) b n rows change step stands places) in
    whole_on w q older rows packet route answer at byte s own turn shown c.args.self.now last c.args.large.now c.acknowledge.new.self c.take.new.self way refl refl given.1 keys stand
    (c.acknowledge.ensures s route.tag answer h (record s.round { waiting = s.round.waiting - 1; answered = true }) way.chunks) table

pub returns-in-Given-Large-clause-told : goal.returns-in-Given-Large-clause-told
returns-in-Given-Large-clause-told c = λ w q older rows packet route s at below byte now set_up none way stands.
    let few : length older < 2 ^ 64 - 1 = omega (arith, below) in
    let answer : List ℕ = c.args.answer.now in
    let own = way.sending in
    let turn = answers_in_turn (meanwhile s) route answer none in
    let r = responder_for w s.before in
    let body = c.body-body.ensures ∙ ap body_in now in
    let small = sent_messages w q older rows packet route answer at byte s own turn few in
    let first = subst (λ (x : Connection). connected.StandsFor x r s.responder) (sym c.reply_why-why.ensures.same) way.kept.answerer in
    let second = subst (λ (x : Connection). connected.StandsFor x r s.responder) (sym c.coming_key-key.ensures.same) first in
    let tag = c.tag-2.ensures ∙ ap tag_in now in
    let told = c.judges.ensures r (aside s) s.round set_up second small (sym tag) (sym body) (subst IsBody (sym body) (sent_body w q older rows packet route answer at byte s own turn)) (sent_apart w q older rows packet route answer at byte s own turn) in
    let given = subst (λ (x : Judged). IsGiven r (aside s) s.round answer x c.judges.new.self) (c.in-Given-Large.is ∙ ap judged.Given c.in-Given-Large.field-0-is) told in
    absurd (never_large w q older s own r answer given)

pub returns-in-Given-Last-clause-told : goal.returns-in-Given-Last-clause-told
returns-in-Given-Last-clause-told c = λ w q older rows packet route s at below byte now set_up none way stands.
    let few : length older < 2 ^ 64 - 1 = omega (arith, below) in
    let answer : List ℕ = c.args.answer.now in
    let own = way.sending in
    let turn = answers_in_turn (meanwhile s) route answer none in
    let r = responder_for w s.before in
    let body = c.body-body.ensures ∙ ap body_in now in
    let small = sent_messages w q older rows packet route answer at byte s own turn few in
    let first = subst (λ (x : Connection). connected.StandsFor x r s.responder) (sym c.reply_why-why.ensures.same) way.kept.answerer in
    let second = subst (λ (x : Connection). connected.StandsFor x r s.responder) (sym c.coming_key-key.ensures.same) first in
    let tag = c.tag-2.ensures ∙ ap tag_in now in
    let told = c.judges.ensures r (aside s) s.round set_up second small (sym tag) (sym body) (subst IsBody (sym body) (sent_body w q older rows packet route answer at byte s own turn)) (sent_apart w q older rows packet route answer at byte s own turn) in
    let given = subst (λ (x : Judged). IsGiven r (aside s) s.round answer x c.judges.new.self) (c.in-Given-Last.is ∙ ap judged.Given c.in-Given-Last.field-0-is) told in
    absurd (never_last w q older s own r answer given)

pub returns-in-Apart-clause-told : goal.returns-in-Apart-clause-told
returns-in-Apart-clause-told c = λ w q older rows packet route s at below byte now set_up none way stands.
    let few : length older < 2 ^ 64 - 1 = omega (arith, below) in
    let answer : List ℕ = c.args.answer.now in
    let own = way.sending in
    let turn = answers_in_turn (meanwhile s) route answer none in
    let r = responder_for w s.before in
    let body = c.body-body.ensures ∙ ap body_in now in
    let small = sent_messages w q older rows packet route answer at byte s own turn few in
    let first = subst (λ (x : Connection). connected.StandsFor x r s.responder) (sym c.reply_why-why.ensures.same) way.kept.answerer in
    let second = subst (λ (x : Connection). connected.StandsFor x r s.responder) (sym c.coming_key-key.ensures.same) first in
    let tag = c.tag-2.ensures ∙ ap tag_in now in
    let told = c.judges.ensures r (aside s) s.round set_up second small (sym tag) (sym body) (subst IsBody (sym body) (sent_body w q older rows packet route answer at byte s own turn)) (sent_apart w q older rows packet route answer at byte s own turn) in
    let given = subst (λ (x : Judged). IsGiven r (aside s) s.round answer x c.judges.new.self) c.in-Apart.is told in
    apart_by w q older rows packet route answer at byte s own turn c.args.self.now (Some c.args.large.now) c.args.table.now given.0 given.1

pub returns-in-Refused-clause-told : goal.returns-in-Refused-clause-told
returns-in-Refused-clause-told c = λ w q older rows packet route s at below byte now set_up none way stands.
    let few : length older < 2 ^ 64 - 1 = omega (arith, below) in
    let answer : List ℕ = c.args.answer.now in
    let own = way.sending in
    let turn = answers_in_turn (meanwhile s) route answer none in
    let r = responder_for w s.before in
    let body = c.body-body.ensures ∙ ap body_in now in
    let small = sent_messages w q older rows packet route answer at byte s own turn few in
    let first = subst (λ (x : Connection). connected.StandsFor x r s.responder) (sym c.reply_why-why.ensures.same) way.kept.answerer in
    let second = subst (λ (x : Connection). connected.StandsFor x r s.responder) (sym c.coming_key-key.ensures.same) first in
    let tag = c.tag-2.ensures ∙ ap tag_in now in
    let told = c.judges.ensures r (aside s) s.round set_up second small (sym tag) (sym body) (subst IsBody (sym body) (sent_body w q older rows packet route answer at byte s own turn)) (sent_apart w q older rows packet route answer at byte s own turn) in
    let given = subst (λ (x : Judged). IsGiven r (aside s) s.round answer x c.judges.new.self) c.in-Refused.is told in
    refused_by w q older rows packet route answer at byte s own turn c.args.self.now (Some c.args.large.now) c.args.table.now c.reply_why-why.result given.0 given.1
    (c.reply_why-why.ensures.told r (aside s) s.round way.kept.answerer small way.kept.keys (sym body))
