use Rattle.std.proofs.Common.{◌==◌, ◌∙◌, refl, sym, ap, subst, drop, take, List, ℕ, Bool}
use Rattle.std.specs.Prelude.{bytes_eq, slice_index}
use Rattle.responder_machine.specs.Session.{id_in_record, session_of}
use Rattle.spdm_machine.specs.Bodies.{record_body}
use Rattle.check_responder.proofs.KeysComing.{apart_opens, clear_opens, named_opens, record_coming}
use Rattle.check_responder.proofs.KeysOpen.{either_is}
use Rattle.check_responder.proofs.answer_keys.AnswerKeys.opens.Goals as goal
use Rattle.check_responder.specs.AnswerKeys.{IsComing}
use Rattle.check_responder.specs.Opening.{IsOpening}
use Rattle.capture_machine.specs.Opening.{opens_in_session}

pub returns-then-is_clear : goal.returns-then-is_clear
returns-then-is_clear c = λ r h stands few keys coming.
    let body : List ℕ = c.args.body.now in
    clear_opens r h (drop 1 body) c.args.sealed.now (slice_index body 0 == 5) c.opens_next-opens.result (sym c.is_clear.ensures ∙ c.if-is_clear.true) (c.opens_next-opens.ensures r h stands (either_is few))

pub returns-then-not-same_bytes : goal.returns-then-not-same_bytes
returns-then-not-same_bytes c = λ r h stands few keys coming.
    let body : List ℕ = c.args.body.now in
    let sealed : List ℕ = c.args.sealed.now in
    let first = c.first_bytes.ensures ∙ ap (λ (l : List ℕ). take 4 l) c.behind_type-request.ensures in
    let same = c.same_bytes.ensures ∙ ap (λ (l : List ℕ). bytes_eq l c.first_bytes-2.result.now) first ∙ ap (λ (l : List ℕ). bytes_eq (take 4 (drop 1 body)) l) c.first_bytes-2.ensures in
    apart_opens r h (drop 1 body) sealed (slice_index body 0 == 5) c.opens_next-opens-then-not-same_bytes.result c.same_bytes.result (sym c.is_clear.ensures ∙ c.if-is_clear.false) c.if-not-same_bytes.true same
    (c.opens_next-opens-then-not-same_bytes.ensures r h stands (either_is few))

pub returns : goal.returns
returns c = λ r h stands few keys coming.
    let body : List ℕ = c.args.body.now in
    let sealed : List ℕ = c.args.sealed.now in
    let clear = sym c.is_clear.ensures ∙ c.if-is_clear.false in
    let first = c.first_bytes.ensures ∙ ap (λ (l : List ℕ). take 4 l) c.behind_type-request.ensures in
    let same = c.same_bytes.ensures ∙ ap (λ (l : List ℕ). bytes_eq l c.first_bytes-2.result.now) first ∙ ap (λ (l : List ℕ). bytes_eq (take 4 (drop 1 body)) l) c.first_bytes-2.ensures in
    let own = subst (λ (m : List ℕ). IsComing c.args.coming.now r h (record_body m)) (sym c.behind_type-request.ensures) (record_coming c.args.coming.now r h body clear coming) in
    let told = subst (λ (m : List ℕ). IsOpening c.args.coming.now sealed c.opens_in_session.result (opens_in_session r h (session_of (id_in_record m) h) m sealed)) c.behind_type-request.ensures
    (c.opens_in_session.ensures r h stands few keys own) in
    let b = opens_in_session r h (session_of (id_in_record (drop 1 body)) h) (drop 1 body) sealed in
    subst (λ (x : Bool). IsOpening c.args.coming.now sealed c.opens_in_session.result x)
    (named_opens r h (drop 1 body) sealed (slice_index body 0 == 5) b c.same_bytes.result clear c.if-not-same_bytes.false same refl) told
