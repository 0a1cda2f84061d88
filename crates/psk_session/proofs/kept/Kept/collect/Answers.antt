use Rattle.std.proofs.Common.{◌≡◌, ◌∙◌, ap, sym, subst, ℕ, [], Bool, false, arith}
use Rattle.chunking.specs.Collecting.{Collection, accepted_with, collected}
use Rattle.chunking.specs.Collecting.Collection.{Whole, Refused}
use Rattle.chunking.specs.Keeping as keeping
use Rattle.requester_machine.specs.Commands.{has_reached}
use Rattle.requester_machine.specs.Message.Ask.{AskChunk}
use Rattle.requester_machine.specs.Session.{session_terms}
use Rattle.spdm_basis.specs.Sizes.{hash_size}
use Rattle.spdm_grammar.specs.Message.{chunk_message}
use Rattle.spdm_grammar.specs.Responses.{response_reading}
use Rattle.spdm_grammar.specs.declared.messages.choice.Choice.{Choice}
use Rattle.spdm_machine.specs.Terms.{hash_len}
use Rattle.psk_session.specs.Held.{verdict_of, verdict_with}
use Rattle.psk_session.specs.Verdict as verdicts
use Rattle.psk_session.specs.Verdict.{Fits, chunk_course, course_of, whole_verdict}
use Rattle.psk_session.proofs.Meanings.{whole_fits}
use Rattle.psk_session.proofs.kept.Kept.collect.Goals as goal

pub returns-in-Whole : goal.returns-in-Whole
returns-in-Whole c = λ psk s epoch handle number before sealed keeps gathered max.
    let op = c.args.op in
    let a = AskChunk op handle number before in
    let piece = chunk_message c.args.chunk in
    let whole = c.in-Whole.whole.now in
    let most = (session_terms s).common.to_requester.max in
    let came : Whole whole ≡ collected most before piece =
    c.in-Whole.ensures.answer before gathered ∙ ap (λ (n : ℕ). collected n before piece) max in
    let verdict = whole_verdict (has_reached 65300 s) op (response_reading (hash_len (session_terms s)) false whole) in
    let is : verdict_of c.whole_verdict.result ≡ verdict =
    c.whole_verdict.ensures
    ∙ ap (λ (b : Bool). whole_verdict b op (response_reading c.size-hash_len.result false whole)) (c.has_reached-reached.ensures psk s epoch keeps)
    ∙ ap (λ (n : ℕ). whole_verdict (has_reached 65300 s) op (response_reading n false whole)) (c.size-hash_len.ensures ∙ ap (λ (x : Choice). hash_size x.hash) keeps.choice) in
    let short = c.in-Whole.ensures.fits in
    let fits = whole_fits s op handle number (hash_len (session_terms s)) before whole (omega (arith, short)) in
    let same : verdict_with c.store_data.result c.store_data.new.out ≡ verdict =
    c.store_data.ensures s a whole (subst (λ (v : verdicts.Verdict). Fits s a whole v) (sym is) fits) ∙ is in (
      whole,
      ap (λ (x : Collection). chunk_course psk s op handle number before sealed piece x) (sym came)
          ∙ ap (λ (v : verdicts.Verdict). course_of psk s a sealed whole v) (sym same),
      subst (λ (v : verdicts.Verdict). Fits s a whole v) (sym same) fits,
    )

pub returns-in-More : goal.returns-in-More
returns-in-More c = λ psk s epoch handle number before sealed keeps gathered max.
    let piece = chunk_message c.args.chunk in
    let rests = c.take.follows.holds-at-none in (
      c.in-More.ensures.answer before gathered ∙ ap (λ (n : ℕ). collected n before piece) max,
      subst (λ (n : ℕ). keeping.StandsFor c.take.follows.lender-at-none (accepted_with n before piece)) max (rests.stands before gathered),
      rests.max ∙ max,
    )

pub returns-in-Refused : goal.returns-in-Refused
returns-in-Refused c = λ psk s epoch handle number before sealed keeps gathered max.
    let piece = chunk_message c.args.chunk in
    let came : Refused c.in-Refused.fault ≡ collected (session_terms s).common.to_requester.max before piece =
    c.in-Refused.ensures.answer before gathered ∙ ap (λ (n : ℕ). collected n before piece) max in (
      [],
      ap (λ (x : Collection). chunk_course psk s c.args.op handle number before sealed piece x) (sym came),
      tt,
    )
