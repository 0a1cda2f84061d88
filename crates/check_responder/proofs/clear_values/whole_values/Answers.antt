use Rattle.std.proofs.Common.{◌≡◌, ◌<◌, ◌≤◌, ◌+◌, ◌∙◌, ℕ, List, ap, sym, subst, refl, drop, length, length-append, lt_of_not-le, arith}
use Rattle.std.proofs.lemmas.Bool.{false≢true}
use Rattle.chunking.specs.Collecting.{joined_with, under_way}
use Rattle.responder_machine.specs.LargeMessages.{chunks_of}
use Rattle.responder_machine.specs.History.{clear_turns}
use Rattle.responder_machine.specs.Place.{clear_place, inside}
use Rattle.spdm_grammar.specs.Message.{chunk_message}
use Rattle.spdm_grammar.specs.declared.names.TheConstants.{MAX_MESSAGE_SIZE}
use Rattle.check_responder.proofs.ClearShown.{no_room, read_whole}
use Rattle.check_responder.proofs.clear_values.whole_values.Goals as goal
use Rattle.check_laws.specs.AnswersShown.{least_values, values_in}
use Rattle.check_responder.specs.JudgedResponder.{AreRead}

pub returns-then-not-join : goal.returns-then-not-join
returns-then-not-join c = λ r h m set at free so_far few some last ack.
    let p = clear_place h in
    let chunk = chunk_message c.args.chunk.now in
    let whole : List ℕ = joined_with (under_way (chunks_of (clear_turns h))) chunk in
    let f = values_in r (inside p) whole (least_values h p) (drop 6 c.args.reply.now) in
    let both = ap (λ (l : List ℕ). length l) (c.bytes_before.ensures (under_way (chunks_of (clear_turns h))) so_far) ∙ length-append c.bytes_before.result.now c.args.chunk.now.chunk.now in
    let long : MAX_MESSAGE_SIZE < length whole = by_size _ _ (length whole) both (λ fits. false≢true (sym c.if-not-join.true ∙ c.join.ensures.fits fits)) in
    no_room r h m c.args.reply.now chunk f few some ack long
  where
    by_size : (a b n : ℕ) → n ≡ a + b → (a + b ≤ 4096 → ⊥) → 4096 < n
    by_size a b n both not = (let more = lt_of_not-le not in omega (arith, both, more))

pub returns : goal.returns
returns c = λ r h m set at free so_far few some last ack.
    let p = clear_place h in
    let chunk = chunk_message c.args.chunk.now in
    let whole : List ℕ = joined_with (under_way (chunks_of (clear_turns h))) chunk in
    let k = least_values h p in
    let shown = drop 6 c.args.reply.now in
    let is : c.as_slice.result.now ≡ whole = c.as_slice.ensures.value ∙ c.join.ensures.value c.if-not-join.false ∙ sym (c.bytes_before.ensures (under_way (chunks_of (clear_turns h))) so_far) in
    let read = c.values_in.ensures r (inside p) k set at free (record { context = refl; measured_opaque = refl; nonce = refl }) in
    read_whole r h m c.args.reply.now chunk (values_in r (inside p) whole k shown) c.values_in.result some
    (subst (λ (l : List ℕ). AreRead r (inside p) whole (values_in r (inside p) whole k l) c.values_in.result) c.acknowledged.ensures
    (subst (λ (l : List ℕ). AreRead r (inside p) l (values_in r (inside p) l k c.acknowledged.result.now) c.values_in.result) is read))
