use Rattle.std.proofs.Common.{refl, eq-eqb, ◌≡◌, ◌∙◌, Option, Some, sym, ap, subst, ℕ}
use Rattle.responder_core.proofs.Taken.{a_handle, code_small, large_sized, handle_of_turn, takes_code}
use Rattle.responder_core.proofs.clear.taking.settle_large.Goals as goal
use Rattle.responder_machine.specs.Turn.{handle_in, large_in}
use Rattle.responder_machine.specs.Place.{place_terms}
use Rattle.std.proofs.lemmas.Bool.{ne_eqb}
use Rattle.responder_rules.specs.LargeAnswer as large_answer
use Rattle.negotiate.specs.declared.shared.Common.{Common}
use Rattle.std.specs.Option.{option_map}
use Rattle.std.proofs.Common.{◌<◌, ◌≤◌, ◌+◌, ◌∷◌, length}
use Rattle.spdm_grammar.specs.declared.names.TheConstants.{MIN_DATA_TRANSFER_SIZE}
use Rattle.spdm_grammar.specs.Codes.{code_for}
use Rattle.spdm_grammar.specs.declared.names.request_code.TheConstants.{CHUNK_GET}

pub returns-then-code-eq-CHUNK_GET : goal.returns-then-code-eq-CHUNK_GET
returns-then-code-eq-CHUNK_GET c = λ r p m f asked t place handle settled is_code stands taking.
    let code : code_for asked ≡ CHUNK_GET = sym is_code ∙ c.if-code-eq-CHUNK_GET.true in
    let small = code_small r p m f asked c.args.answer.now t code settled taking in
    c.advance.ensures (place_terms p).common.to_requester.transfer p.turns t stands taking.taken (takes_code r p m f asked c.args.answer.now t taking CHUNK_GET ∙ eq-eqb (code_for asked) CHUNK_GET code)
    (handle_of_turn r p m f asked c.args.answer.now t taking small)

pub returns-then-goes_large : goal.returns-then-goes_large
returns-then-goes_large c = λ r p m f asked t place handle settled is_code stands taking.
    let other : code_for asked ≡ CHUNK_GET → ⊥ = λ code. c.if-code-eq-CHUNK_GET.false (is_code ∙ code) in
    let large = sym (c.if-goes_large.ensures p c.args.answer.now place refl) in
    let sized = large_sized p c.args.answer.now settled large in
    let common = place.common in
    let transfer = ap (λ (x : Common). x.to_requester.transfer) common in
    let given = a_handle p f c.args.answer.now large ∙ ap (λ (n : ℕ). Some n) handle in
    subst (λ (n : ℕ). large_answer.StandsFor c.begin.new.self n (t ∷ p.turns)) (sym transfer)
    (c.begin.ensures p.turns t (subst (λ (n : ℕ). MIN_DATA_TRANSFER_SIZE ≤ n) transfer sized.0) (subst (λ (n : ℕ). n < length c.args.answer.now + 16) transfer sized.1)
    (subst (λ (n : ℕ). large_answer.StandsFor c.args.large.now n p.turns) transfer stands) taking.taken (takes_code r p m f asked c.args.answer.now t taking CHUNK_GET ∙ ne_eqb (code_for asked) CHUNK_GET other)
    (ap handle_in taking.effect ∙ given) (ap large_in taking.effect ∙ ap (λ (o : Option ℕ). option_map (λ handle. c.args.answer.now) o) given))

pub returns-else-goes_large : goal.returns-else-goes_large
returns-else-goes_large c = λ r p m f asked t place handle settled is_code stands taking.
    let other : code_for asked ≡ CHUNK_GET → ⊥ = λ code. c.if-code-eq-CHUNK_GET.false (is_code ∙ code) in
    let small = sym (c.if-goes_large.ensures p c.args.answer.now place refl) in
    c.clear.ensures (place_terms p).common.to_requester.transfer p.turns t stands taking.taken (takes_code r p m f asked c.args.answer.now t taking CHUNK_GET ∙ ne_eqb (code_for asked) CHUNK_GET other)
    (handle_of_turn r p m f asked c.args.answer.now t taking small)
