use Rattle.std.proofs.Common.{◌≡◌, ◌≤◌, ◌∙◌, refl, sym, ap, subst, drop, List, ℕ}
use Rattle.responder_machine.specs.History.{History, ended_of}
use Rattle.responder_machine.specs.May.{on_body, with_dropped}
use Rattle.responder_machine.specs.Responder.{after, repeats}
use Rattle.responder_machine.specs.Session.{id_in_record, last_of, session_of}
use Rattle.spdm_basis.specs.declared.values.session_id.SessionId.{SessionId}
use Rattle.check_responder.proofs.KeysFollow.{ended_follows, last_follows, none_follows, rest_follows}
use Rattle.check_responder.proofs.answer_keys.AnswerKeys.follow.Goals as goal
use Rattle.check_responder.specs.AnswerKeys.{IsComingKey, last_key}

pub returns-in_default : goal.returns-in_default
returns-in_default c = λ r h ids tag f d keys coming stands.
    none_follows c.args.self.now c.args.self.now r h ids tag c.args.body.now f d keys (subst (IsComingKey r h c.args.body.now) c.in_default.is coming)

pub returns-then-repeats_ended : goal.returns-then-repeats_ended
returns-then-repeats_ended c = λ r h ids tag f d keys coming stands.
    let body : List ℕ = c.args.body.now in
    let g = with_dropped h ids in
    let behind : History = after g (on_body r g tag body f d) in
    let again = ap (repeats (ended_of behind)) (sym c.behind_type-request.ensures) ∙ sym (c.repeats_ended.ensures r behind stands) ∙ c.if-repeats_ended.true in
    ended_follows c.args.self.now _ r h ids tag body f d keys c.in-Some.key (subst (IsComingKey r h body) c.in-Some.is coming) again refl (λ i. refl)

pub returns-then-repeats_last : goal.returns-then-repeats_last
returns-then-repeats_last c = λ r h ids tag f d keys coming stands.
    let body : List ℕ = c.args.body.now in
    let g = with_dropped h ids in
    let behind : History = after g (on_body r g tag body f d) in
    let request = c.behind_type-request.ensures in
    let other = ap (repeats (ended_of behind)) (sym request) ∙ sym (c.repeats_ended.ensures r behind stands) ∙ c.if-repeats_ended.false in
    let again = ap (λ (m : List ℕ). repeats (last_of (session_of (id_in_record m) behind)) m) (sym request) ∙ sym (c.repeats_last.ensures r behind stands) ∙ c.if-repeats_last.true in
    let id : c.record_id.result.rsp ≡ id_in_record (drop 1 body) = ap (λ (x : SessionId). x.rsp) c.record_id.ensures ∙ ap id_in_record request in
    last_follows c.args.self.now c.put.new.self r h ids tag body f d keys c.in-Some.key (subst (IsComingKey r h body) c.in-Some.is coming) c.args.connection.now stands other again
    (λ least most. ap (last_key c.put.new.self) (sym id) ∙ c.put.ensures.own (subst (λ (n : ℕ). 1 ≤ n) (sym id) least) (subst (λ (n : ℕ). n ≤ 4) (sym id) most))
    (λ i apart. c.put.ensures.others i (λ same. apart (same ∙ id))) c.put.ensures.ended

pub returns-else-repeats_last : goal.returns-else-repeats_last
returns-else-repeats_last c = λ r h ids tag f d keys coming stands.
    let body : List ℕ = c.args.body.now in
    let g = with_dropped h ids in
    let behind : History = after g (on_body r g tag body f d) in
    let request = c.behind_type-request.ensures in
    let other = ap (repeats (ended_of behind)) (sym request) ∙ sym (c.repeats_ended.ensures r behind stands) ∙ c.if-repeats_ended.false in
    let apart = ap (λ (m : List ℕ). repeats (last_of (session_of (id_in_record m) behind)) m) (sym request) ∙ sym (c.repeats_last.ensures r behind stands) ∙ c.if-repeats_last.false in
    rest_follows c.args.self.now c.args.self.now r h ids tag body f d keys c.in-Some.key (subst (IsComingKey r h body) c.in-Some.is coming) other apart
