use Rattle.negotiate.specs.declared.shared.Common.{Common}
use Rattle.std.proofs.Common.{◌≡◌, ◌∙◌, ap, sym, subst, refl, ℕ, ◌≤◌, [], Bool, true, false, Some, arith}
use Rattle.requester_machine.proofs.Collected.{none_yet}
use Rattle.requester_machine.proofs.Few.{first_few, updated_few}
use Rattle.requester_machine.specs.SpentLaws.{FewFor}
use Rattle.requester_machine.specs.History.Effect.{Nothing, Grants}
use Rattle.requester_machine.specs.InnerMessages.{op_in}
use Rattle.requester_machine.specs.Message.{Ask}
use Rattle.requester_machine.specs.Message.Ask.{AskChunk, AskUpdate, AskVerify}
use Rattle.requester_machine.specs.Records.{answer_inner}
use Rattle.requester_machine.specs.Sending.{inner_request, key_update}
use Rattle.requester_machine.specs.Session.{session_terms, response_epoch, request_next, response_next, stage_of}
use Rattle.spdm_grammar.specs.Message.RequestMessage.{ChunkGet}
use Rattle.psk_session.specs.Course.{with_taken}
use Rattle.psk_session.specs.Held.{verdict_with}
use Rattle.psk_session.specs.Kept.{Keeps}
use Rattle.psk_session.specs.declared.kept.Kept.{Kept}
use Rattle.psk_session.specs.declared.outcome.Outcome.{Outcome}
use Rattle.psk_session.specs.declared.req_session.ReqSession.{ReqSession}
use Rattle.psk_session.specs.Verdict as verdicts
use Rattle.psk_session.specs.Verdict.{Fits, course_of, effect_of}
use Rattle.psk_session.specs.Waiting.{awaited_epoch}
use Rattle.psk_session.proofs.Replies.{calm, has_room, present_epoch, stays_open}
use Rattle.psk_session.proofs.req_session.ReqSession.led.Goals as goal

pub returns-in-Answered-clause-follows : goal.returns-in-Answered-clause-follows
returns-in-Answered-clause-follows c = λ psk s a sealed answer keeps stage waits few fits.
    let reply = c.in-Answered.reply in
    let old = c.args.self.now in
    let e : verdict_with c.args.outcome old.brought ≡ verdicts.Verdict.Answered reply old.brought = ap (λ (x : Outcome). verdict_with x old.brought) c.in-Answered.is in
    let f = subst (λ (v : verdicts.Verdict). Fits s a answer v) e fits in
    let room = has_room psk s a sealed answer (op_in a) reply f.0 f.1 waits few in (
      effect_of answer (op_in a) reply,
      ap (course_of psk s a sealed answer) e,
      (calm answer (op_in a) reply).ended,
      c.answered.ensures.opened psk s a sealed answer (op_in a) (subst (λ (n : ℕ). Keeps old.kept psk s n) (present_epoch s a f.1) keeps) room.request room.response
          (stays_open reply a answer (op_in a) (stage_of s) f.0 stage) f.2,
    )

update_most : (all : Bool) (request response : ℕ) → FewFor (AskUpdate all) request response → response ≤ 65535
update_most true request response few = few.1
update_most false request response few = (let p = few.1 in omega (arith, p))

pub returns-in-Updated-clause-follows : goal.returns-in-Updated-clause-follows
returns-in-Updated-clause-follows c = λ psk s a sealed answer keeps stage waits few fits.
    let all = c.in-Updated.all in
    let old = c.args.self.now in
    let e : verdict_with c.args.outcome old.brought ≡ verdicts.Verdict.Updated all = ap (λ (x : Outcome). verdict_with x old.brought) c.in-Updated.is in
    let same : a ≡ AskUpdate all = subst (λ (v : verdicts.Verdict). Fits s a answer v) e fits in
    let effect = Grants (AskUpdate all) answer in
    let after = with_taken psk s a sealed effect in
    let room = subst (λ (x : Ask). FewFor x (request_next s) (response_next s)) same few in
    let next = updated_few sealed (answer_inner psk s a sealed) answer all s (waits ∙ ap (λ (x : Ask). Some x) same) room in (
      effect,
      AskVerify,
      inner_request (key_update after 3),
      ap (course_of psk s a sealed answer) e,
      refl,
      c.verify.ensures.asked psk after
          (c.update.ensures psk s sealed (answer_inner psk s a sealed) answer (subst (λ (x : Ask). Keeps old.kept psk s (awaited_epoch s x)) same keeps) (update_most all (request_next s) (response_next s) room))
          refl next.1 next.2,
    )

pub returns-in-Large-clause-follows : goal.returns-in-Large-clause-follows
returns-in-Large-clause-follows c = λ psk s a sealed answer keeps stage waits few fits.
    let op = c.in-Large.op in
    let handle = c.in-Large.handle in
    let old = c.args.self.now in
    let e : verdict_with c.args.outcome old.brought ≡ verdicts.Verdict.Large op handle = ap (λ (x : Outcome). verdict_with x old.brought) c.in-Large.is in
    let f = subst (λ (v : verdicts.Verdict). Fits s a answer v) e fits in
    let response = f.3 in
    let after = with_taken psk s a sealed Nothing in
    let next = first_few sealed (answer_inner psk s a sealed) a op handle s f.0 waits f.2 f.3 in
    let most = (session_terms s).common.to_requester.max in
    let counted = c.count.ensures psk s (response_epoch s) sealed (answer_inner psk s a sealed) Nothing (subst (λ (n : ℕ). Keeps old.kept psk s n) (present_epoch s a f.0) keeps) refl refl refl (omega (arith, response)) in (
      Nothing,
      AskChunk op handle 0 [],
      inner_request (ChunkGet handle 0),
      ap (course_of psk s a sealed answer) e,
      refl,
      c.fetch.ensures.asked psk after []
          (subst (λ (x : Kept). Keeps x psk after (response_epoch s)) (sym (ap (λ (x : ReqSession). x.kept) c.begin.ensures.same)) counted)
          (stage ∙ f.1) next.1 next.2 (none_yet most handle) c.begin.ensures.stands (c.begin.ensures.max ∙ ap (λ (x : Common). x.to_requester.max) counted.common),
    )
