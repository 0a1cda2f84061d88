use Rattle.std.proofs.Common.{◌≡◌, ◌+◌, ◌-◌, ◌^◌, ◌<◌, ◌==◌, ◌∙◌, refl, sym, ap, subst, length, drop, arith, ne_eqb, List, [], ℕ, true, false, Some, None, Option, Result}
use Rattle.std.specs.Prelude.{OnOk, slice_index}
use Rattle.std.proofs.lemmas.Bool.{not-false, not-true}
use Rattle.check_requester.proofs.CarriedBy.{keeps_carries}
use Rattle.check_ends.proofs.InTurn.{answers_in_turn}
use Rattle.check_laws.proofs.KnownFetches.{kept_asks_none}
use Rattle.check_ends.proofs.PartyReplied.{few_messages, kept_limits}
use Rattle.check_responder.specs.AnswerKeys.{StandFor, will_take}
use Rattle.check_responder.specs.JudgedResponder.{IsAnswerer}
use Rattle.check_requester.specs.JudgedRequester.{IsAsker}
use Rattle.check_requester.specs.HeardKept.{asks_upon, heard_kept}
use Rattle.check_responder.specs.declared.judged_responder.JudgedResponder.{JudgedResponder}
use Rattle.check_laws.specs.AnswersShown.{least_values}
use Rattle.check_laws.specs.Keeping.{restored}
use Rattle.check_laws.specs.Order.{body_in, tag_in}
use Rattle.check_laws.specs.RepliesShown.{responder_for}
use Rattle.check_laws.specs.Rows as rows_of
use Rattle.check_laws.specs.declared.places.Places.{Places}
use Rattle.responder_core.specs.Connected as connected
use Rattle.responder_core.specs.LateFetch.{history_pending}
use Rattle.requester_machine.specs.Setup.{ReqSetup}
use Rattle.responder_machine.specs.May.{on_body}
use Rattle.responder_machine.specs.Place.{clear_place}
use Rattle.responder_machine.specs.Responder.{after}
use Rattle.responder_machine.specs.Session.{id_in_record, session_of, session_terms, turns_of}
use Rattle.responder_session.specs.LateFetch.{IsNewestUnseen}
use Rattle.spdm_basis.specs.declared.OutOfMemory.{OutOfMemory}
use Rattle.spdm_grammar.specs.Fields.{zeros}
use Rattle.capture_machine.specs.Rounds.{Round, no_draw}
use Rattle.capture_machine.specs.SessionTable.{number_from, rows_between}
use Rattle.check_fetched_ends.proofs.AgainBegun.{again_change, again_stands, again_step, begins_again, bytes_fit, bytes_long, never_again, never_clear, newest_unseen, next, not_taken, passes_again, stays}
use Rattle.check_fetched_ends.proofs.session_fetch.again_begins.begins_again.Goals as goal
use Rattle.check_fetched_ends.specs.AgainRead.{IsPreparedAgain}

pub returns-then-byte_at-eq-SPDM-2-clause-told : goal.returns-then-byte_at-eq-SPDM-2-clause-told
returns-then-byte_at-eq-SPDM-2-clause-told c = λ w q older rows k route keeps below byte now set_up none party stands.
    let answer : List ℕ = c.args.answer.now in
    let turn = answers_in_turn k route answer none in
    let limits = kept_limits q k c.args.party.now.asker party.asker in
    let body = c.body-body.ensures ∙ ap body_in (now ∙ turn.answers.0) in
    let type = ne_eqb (slice_index turn.round.body 0) 5 (λ e. c.if-byte_at-eq-SPDM.false (c.byte_at.ensures ∙ ap (λ (l : List ℕ). slice_index l 0) body ∙ e)) in
    let clear = ap (λ (n : ℕ). n == 5) (sym c.byte_at-2.ensures ∙ c.if-byte_at-eq-SPDM-2.true) in
    (never_clear w q older k route answer byte limits keeps turn type clear, party, refl)

pub returns-in_default-clause-told : goal.returns-in_default-clause-told
returns-in_default-clause-told c = λ w q older rows k route keeps below byte now set_up none party stands.
    let answer : List ℕ = c.args.answer.now in
    let turn = answers_in_turn k route answer none in
    let limits = kept_limits q k c.args.party.now.asker party.asker in
    let r = responder_for w k in
    let h = k.responder in
    let body = c.body-body.ensures ∙ ap body_in (now ∙ turn.answers.0) in
    let type = ne_eqb (slice_index turn.round.body 0) 5 (λ e. c.if-byte_at-eq-SPDM.false (c.byte_at.ensures ∙ ap (λ (l : List ℕ). slice_index l 0) body ∙ e)) in
    let request = c.behind_type-request.ensures ∙ ap (λ (l : List ℕ). drop 1 l) body in
    let never = subst (λ (l : List ℕ). IsPreparedAgain r h (drop 1 turn.round.body) l None) c.behind_type-sealed.ensures
    (subst (λ (l : List ℕ). IsPreparedAgain r h l c.behind_type-sealed.result.now None) request (c.in_default.ensures.kept r h set_up party.answerer)) in
    (never_again w q older k route answer byte limits keeps turn type never, party, refl)

pub returns-then-not-heard-clause-told : goal.returns-then-not-heard-clause-told
returns-then-not-heard-clause-told c = λ w q older rows k route keeps below byte now set_up none party stands.
    let few : length older < 2 ^ 64 - 1 = omega (arith, below) in
    let carries = keeps_carries w q older k keeps in
    let answer : List ℕ = c.args.answer.now in
    let turn = answers_in_turn k route answer none in
    let limits = kept_limits q k c.args.party.now.asker party.asker in
    let r = responder_for w k in
    let h = k.responder in
    let at = now ∙ turn.answers.0 in
    let body = c.body-body.ensures ∙ ap body_in at in
    let small = few_messages w q older k carries few in
    let type = ne_eqb (slice_index turn.round.body 0) 5 (λ e. c.if-byte_at-eq-SPDM.false (c.byte_at.ensures ∙ ap (λ (l : List ℕ). slice_index l 0) body ∙ e)) in
    let sealed = ne_eqb (slice_index answer 0) 5 (λ e. c.if-byte_at-eq-SPDM-2.false (c.byte_at-2.ensures ∙ e)) in
    let request = c.behind_type-request.ensures ∙ ap (λ (l : List ℕ). drop 1 l) body in
    let prepared = subst (λ (l : List ℕ). IsPreparedAgain r h (drop 1 turn.round.body) l (Some c.in-Some.again)) c.behind_type-sealed.ensures
    (subst (λ (l : List ℕ). IsPreparedAgain r h l c.behind_type-sealed.result.now (Some c.in-Some.again)) request (c.in-Some.ensures.kept r h set_up party.answerer)) in
    let blocks = c.blocks_are_few.ensures r set_up in
    let handle = c.in-Some.again.handle in
    let connection = c.args.party.now.answerer.connection in
    let fetches = c.go_on-heard.ensures.fetches w q older k turn.round carries below turn.answers.0 at party.asker (sym (kept_asks_none w q older k keeps)) in
    let idle : asks_upon k route.tag answer ≡ false = sym (ap (λ (n : ℕ). asks_upon k n answer) turn.answers.1) ∙ sym fetches ∙ not-true _ c.if-not-heard.true in
    let f = least_values h (clear_place h) in
    let quiet : after h (on_body r h (tag_in c.args.round.now) (body_in c.args.round.now) f no_draw) ≡ h =
    ap (λ (x : Option Round). after h (on_body r h (tag_in x) (body_in x) f no_draw)) at
    ∙ ap (after h) (stays w q older k route answer byte limits keeps turn type sealed handle blocks connection party.answerer prepared.0 f) in
    let coming = subst (λ (b : List ℕ). will_take r h b ≡ false) (sym (ap body_in at)) (not_taken w q older k route answer byte limits keeps turn type sealed handle blocks connection party.answerer prepared.0) in
    let new = c.go_on-heard.new.self in
    let keys = subst (StandFor new.keys r) quiet (c.go_on-heard.ensures.keys r h [] f no_draw party.keys coming (subst (IsAnswerer c.args.party.now.answerer r) (sym quiet) party.answerer)) in
    let answerer = subst (λ (x : JudgedResponder). IsAnswerer x r h) (sym c.go_on-heard.ensures.answerer) party.answerer in
    let asker = subst (λ (n : ℕ). IsAsker new.asker q (heard_kept k h n turn.round answer)) turn.answers.1
    (c.go_on-heard.ensures.asker w q older k h turn.round carries below turn.answers.0 at party.asker) in
    let then = next w q older k route answer byte limits keeps turn type in
    let change = again_change w q older k route answer byte limits keeps turn type c.answer_accepts.ensures c.change-change.result
    c.change-change.ensures.begun
    (c.change-change.ensures.accepted ∙ c.go_on-heard.ensures.accepted w q older k turn.round carries few turn.answers.0 at party.asker)
    c.change-change.ensures.taken
    c.change-change.ensures.asked
    (c.change-change.ensures.views r h answerer (omega (arith, small))) in
    let step = again_step w q older k route answer byte limits keeps turn type sealed c.answer_accepts.ensures in
    let number = c.go_on-heard.ensures.number ∙ party.number in
    let its = number ∙ ap (λ (s : ReqSetup). number_from 1 s.eid w.requesters) (sym party.asker.setup) in
    let places = subst (λ (x : Places). rows_of.StandFor x (restored k) rows) (sym c.go_on-heard.ensures.places) party.places in
    let it = c.in_ok-take.was in
    let table = subst (λ (x : Result Unit OutOfMemory). OnOk x (rows_of.StandsForRows c.take.new.self w (length older + 1) (rows_between (restored k) (restored then.kept) rows))) it
    (c.take.ensures.table w (length older) (restored k) (restored then.kept) rows change step few its stands places) in
    let stand = subst (λ (x : Result Unit OutOfMemory). OnOk x (rows_of.StandFor c.take.new.places (restored then.kept) (rows_between (restored k) (restored then.kept) rows))) it
    (c.take.ensures.places w (length older) (restored k) (restored then.kept) rows change step stands places) in (
      then.kept,
      passes_again w q older k route answer byte limits keeps turn type sealed handle blocks connection party.answerer prepared.0 idle,
      record {
        party = record { asker = asker; answerer = answerer; keys = keys; number = number; places = stand };
        stands = table;
      },
      refl,
    )

pub returns-clause-told : goal.returns-clause-told
returns-clause-told c = λ w q older rows k route keeps below byte now set_up none party stands.
    let few : length older < 2 ^ 64 - 1 = omega (arith, below) in
    let carries = keeps_carries w q older k keeps in
    let answer : List ℕ = c.args.answer.now in
    let turn = answers_in_turn k route answer none in
    let limits = kept_limits q k c.args.party.now.asker party.asker in
    let r = responder_for w k in
    let h = k.responder in
    let at = now ∙ turn.answers.0 in
    let body = c.body-body.ensures ∙ ap body_in at in
    let small = few_messages w q older k carries few in
    let type = ne_eqb (slice_index turn.round.body 0) 5 (λ e. c.if-byte_at-eq-SPDM.false (c.byte_at.ensures ∙ ap (λ (l : List ℕ). slice_index l 0) body ∙ e)) in
    let sealed = ne_eqb (slice_index answer 0) 5 (λ e. c.if-byte_at-eq-SPDM-2.false (c.byte_at-2.ensures ∙ e)) in
    let request = c.behind_type-request.ensures ∙ ap (λ (l : List ℕ). drop 1 l) body in
    let prepared = subst (λ (l : List ℕ). IsPreparedAgain r h (drop 1 turn.round.body) l (Some c.in-Some.again)) c.behind_type-sealed.ensures
    (subst (λ (l : List ℕ). IsPreparedAgain r h l c.behind_type-sealed.result.now (Some c.in-Some.again)) request (c.in-Some.ensures.kept r h set_up party.answerer)) in
    let blocks = c.blocks_are_few.ensures r set_up in
    let handle = c.in-Some.again.handle in
    let connection = c.args.party.now.answerer.connection in
    let fetches = c.go_on-heard.ensures.fetches w q older k turn.round carries below turn.answers.0 at party.asker (sym (kept_asks_none w q older k keeps)) in
    let asks : asks_upon k route.tag answer ≡ true = sym (ap (λ (n : ℕ). asks_upon k n answer) turn.answers.1) ∙ sym fetches ∙ not-false _ c.if-not-heard.false in
    let f = least_values h (clear_place h) in
    let quiet : after h (on_body r h (tag_in c.args.round.now) (body_in c.args.round.now) f no_draw) ≡ h =
    ap (λ (x : Option Round). after h (on_body r h (tag_in x) (body_in x) f no_draw)) at
    ∙ ap (after h) (stays w q older k route answer byte limits keeps turn type sealed handle blocks connection party.answerer prepared.0 f) in
    let coming = subst (λ (b : List ℕ). will_take r h b ≡ false) (sym (ap body_in at)) (not_taken w q older k route answer byte limits keeps turn type sealed handle blocks connection party.answerer prepared.0) in
    let new = c.go_on-heard.new.self in
    let keys = subst (StandFor new.keys r) quiet (c.go_on-heard.ensures.keys r h [] f no_draw party.keys coming (subst (IsAnswerer c.args.party.now.answerer r) (sym quiet) party.answerer)) in
    let answerer = subst (λ (x : JudgedResponder). IsAnswerer x r h) (sym c.go_on-heard.ensures.answerer) party.answerer in
    let asker = subst (λ (n : ℕ). IsAsker new.asker q (heard_kept k h n turn.round answer)) turn.answers.1
    (c.go_on-heard.ensures.asker w q older k h turn.round carries below turn.answers.0 at party.asker) in
    let then = next w q older k route answer byte limits keeps turn type in
    let change = again_change w q older k route answer byte limits keeps turn type c.answer_accepts.ensures c.change-change.result
    c.change-change.ensures.begun
    (c.change-change.ensures.accepted ∙ c.go_on-heard.ensures.accepted w q older k turn.round carries few turn.answers.0 at party.asker)
    c.change-change.ensures.taken
    c.change-change.ensures.asked
    (c.change-change.ensures.views r h answerer (omega (arith, small))) in
    let step = again_step w q older k route answer byte limits keeps turn type sealed c.answer_accepts.ensures in
    let number = c.go_on-heard.ensures.number ∙ party.number in
    let its = number ∙ ap (λ (s : ReqSetup). number_from 1 s.eid w.requesters) (sym party.asker.setup) in
    let places = subst (λ (x : Places). rows_of.StandFor x (restored k) rows) (sym c.go_on-heard.ensures.places) party.places in
    let it = c.in_ok-take.was in
    let table = subst (λ (x : Result Unit OutOfMemory). OnOk x (rows_of.StandsForRows c.take.new.self w (length older + 1) (rows_between (restored k) (restored then.kept) rows))) it
    (c.take.ensures.table w (length older) (restored k) (restored then.kept) rows change step few its stands places) in
    let stand = subst (λ (x : Result Unit OutOfMemory). OnOk x (rows_of.StandFor c.take.new.places (restored then.kept) (rows_between (restored k) (restored then.kept) rows))) it
    (c.take.ensures.places w (length older) (restored k) (restored then.kept) rows change step stands places) in
    let fetched = c.in-Some.again.fetched in
    let kept = prepared.1 in
    let id = id_in_record (drop 1 turn.round.body) in
    let fits = bytes_fit w q older k route answer byte limits keeps turn type sealed handle blocks connection party.answerer prepared.0 fetched kept in
    let long = bytes_long w q older k route answer byte limits keeps turn type sealed handle blocks connection party.answerer prepared.0 fetched kept in
    let newest = newest_unseen w q older k route answer byte limits keeps turn type sealed handle blocks connection party.answerer prepared.0 fetched kept in
    let room = subst (λ (l : List ℕ). (session_terms (session_of fetched.id h)).common.to_requester.transfer < length l + 16) (sym c.zeros-bytes.ensures)
    (subst (λ (n : ℕ). (session_terms (session_of n h)).common.to_requester.transfer < length (zeros fetched.least) + 16) (sym kept.id_is) long) in
    let unseen = subst (λ (n : ℕ). IsNewestUnseen (turns_of (session_of n h))) (sym kept.id_is) newest in
    let pending = subst (λ (l : List ℕ). connected.StandsFor c.make_pending.new.self r (history_pending fetched.id l handle h)) c.zeros-bytes.ensures (c.make_pending.ensures r h room unseen answerer) in
    let last = record new { answerer = record new.answerer { connection = c.make_pending.new.self }; places = c.take.new.places } in (
      then,
      begins_again w q older k route answer byte limits keeps turn type sealed handle blocks connection party.answerer prepared.0 (zeros fetched.least) fits asks,
      again_stands w q older k route answer byte limits keeps turn type sealed handle blocks connection party.answerer prepared.0 fetched kept rows last asker keys number stand pending,
      table,
      refl,
    )
