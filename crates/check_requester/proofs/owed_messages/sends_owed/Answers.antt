use Rattle.std.proofs.Common.{◌≡◌, ◌≢◌, ◌<◌, ◌-◌, ◌^◌, ◌∙◌, ℕ, List, Bool, true, ap, sym, subst, length, Some, arith}
use Rattle.std.specs.Prelude.{slice_index, not}
use Rattle.std.specs.Bool.{Decides}
use Rattle.std.proofs.lemmas.Bool.Decides.{Decides-eqb}
use Rattle.std.proofs.lemmas.Slice.Eq.{slice_eq-Decides}
use Rattle.requester_machine.specs.History.{History}
use Rattle.requester_machine.specs.Message.{Content, body_of}
use Rattle.check_requester.proofs.OwedSent.{clear_told, goes, out_owed}
use Rattle.check_requester.proofs.OwedSent.Goes.{AsRecord, InClear}
use Rattle.check_requester.proofs.OwedTook.{same_long}
use Rattle.check_requester.proofs.owed_messages.sends_owed.Goals as goal
use Rattle.check_requester.specs.JudgedRequester.{IsSentOwed, is_first_chunk}
use Rattle.requester_machine.specs.Owed.{with_next}

pub returns-then-byte_at-eq-SECURED : goal.returns-then-byte_at-eq-SECURED
returns-then-byte_at-eq-SECURED c = λ q bare sent kept took short fits stands.
    let h : History = with_next (Some sent) bare in
    let long : length h < 2 ^ 64 - 1 = subst (λ (n : ℕ). n < 2 ^ 64 - 1) (sym (same_long (Some sent) bare)) short in
    let still = c.write_outstanding.ensures.stands q h kept long stands in
    let room = c.write_outstanding.ensures.room q h sent kept long stands (out_owed bare sent took) in
    let kind : slice_index (body_of sent.content) 0 ≡ 6 = ap (λ (l : List ℕ). slice_index l 0) (sym room ∙ sym c.as_slice.ensures.value) ∙ sym c.byte_at.ensures ∙ c.if-byte_at-eq-SECURED.true in
    elim (goes q bare sent c.args.asking.now kept.sizes took stands) [
      | AsRecord id ask sealed inner pad aims last content ↦ c.take_record.ensures q bare sent id ask last aims fits still
      | InClear m content shows ↦ absurd (let e = sym (ap (λ (x : Content). slice_index (body_of x) 0) content) ∙ kind in omega (arith, e))
    ]

pub returns-then-not-is_first_chunk : goal.returns-then-not-is_first_chunk
returns-then-not-is_first_chunk c = λ q bare sent kept took short fits stands.
    let h : History = with_next (Some sent) bare in
    let long : length h < 2 ^ 64 - 1 = subst (λ (n : ℕ). n < 2 ^ 64 - 1) (sym (same_long (Some sent) bare)) short in
    let still = c.write_outstanding.ensures.stands q h kept long stands in
    let room = c.write_outstanding.ensures.room q h sent kept long stands (out_owed bare sent took) in
    let other : slice_index c.write_outstanding.new.room 0 ≢ 6 = λ is. c.if-byte_at-eq-SECURED.false (c.byte_at.ensures ∙ ap (λ (l : List ℕ). slice_index l 0) c.as_slice.ensures.value ∙ is) in
    let told = clear_told q bare sent c.args.body.now c.write_outstanding.new.room c.write_outstanding.new.asking (goes q bare sent c.args.asking.now kept.sizes took stands) room other still in
    told.0 c.eq.result (ap is_first_chunk (sym c.as_slice-2.ensures.value) ∙ sym c.is_first_chunk.ensures ∙ c.if-not-is_first_chunk.true)
    (subst (λ (l : List ℕ). Decides c.eq.result (l ≡ c.args.body.now)) c.as_slice-then-not-is_first_chunk.ensures.value (slice_eq-Decides Decides-eqb _ _ _ c.eq.ensures))

pub returns-else-not-is_first_chunk : goal.returns-else-not-is_first_chunk
returns-else-not-is_first_chunk c = λ q bare sent kept took short fits stands.
    let h : History = with_next (Some sent) bare in
    let long : length h < 2 ^ 64 - 1 = subst (λ (n : ℕ). n < 2 ^ 64 - 1) (sym (same_long (Some sent) bare)) short in
    let still = c.write_outstanding.ensures.stands q h kept long stands in
    let room = c.write_outstanding.ensures.room q h sent kept long stands (out_owed bare sent took) in
    let other : slice_index c.write_outstanding.new.room 0 ≢ 6 = λ is. c.if-byte_at-eq-SECURED.false (c.byte_at.ensures ∙ ap (λ (l : List ℕ). slice_index l 0) c.as_slice.ensures.value ∙ is) in
    let told = clear_told q bare sent c.args.body.now c.write_outstanding.new.room c.write_outstanding.new.asking (goes q bare sent c.args.asking.now kept.sizes took stands) room other still in
    let first : c.is_first_chunk.result ≡ true = c.if-not-is_first_chunk.false in
    subst (λ (b : Bool). IsSentOwed q bare sent c.args.body.now b c.write_outstanding.new.asking) (ap not (sym first))
    (told.1 (ap is_first_chunk (sym c.as_slice-2.ensures.value) ∙ sym c.is_first_chunk.ensures ∙ first))
