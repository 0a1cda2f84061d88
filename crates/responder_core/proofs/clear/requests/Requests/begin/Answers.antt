use Rattle.std.proofs.Common.{refl, ◌≡◌, ◌∙◌, ◌+◌, ◌≤◌, sym, subst, ap, List, ℕ, length}
use Rattle.responder_core.proofs.Chunked.{chunk_known, reply_fits, turned_last_taken, turned_plain}
use Rattle.responder_core.proofs.Passing.{settled_at}
use Rattle.responder_core.specs.Coming.{Seen, StandsFor}
use Rattle.responder_core.specs.ClearState.{place_at}
use Rattle.responder_machine.specs.Handling.{request_reply}
use Rattle.responder_machine.specs.Place.{Place}
use Rattle.responder_machine.specs.Place.Where.{InChunks, InClear}
use Rattle.spdm_grammar.specs.Message.{ChunkMessage}
use Rattle.spdm_grammar.specs.Message.RequestMessage.{PskExchange}
use Rattle.spdm_grammar.specs.declared.names.TheConstants.{MAX_MESSAGE_SIZE}
use Rattle.responder_core.proofs.Taken.{effect_is, message_short}
use Rattle.responder_core.proofs.clear.requests.Requests.begin.Goals as goal
use Rattle.responder_core.specs.Coming.{BeginsInChunks, BeginsInClear, IsBegun, exchange_bytes, exchange_place}
use Rattle.responder_core.specs.declared.clear.request_outcome.ExchangeOrigin.{ExchangeOrigin}
use Rattle.responder_machine.specs.Answer.{answer_bytes}
use Rattle.responder_machine.specs.Handling.{chunk_in, plain_turn, sent_for}
use Rattle.spdm_grammar.specs.Message.ResponseMessage.{ChunkSendAck}
use Rattle.spdm_grammar.specs.Responses.{canonical_response}
use Rattle.std.proofs.Common.{false}

pub returns-in-InClear : goal.returns-in-InClear
returns-in-InClear c = λ r turns held m f handle ordered most begun answered.
    let p : Place = place_at InClear turns held in
    let within : Place = place_at InChunks turns held in
    let answer : List ℕ = c.args.answer.now in
    let before : Seen = record { standing = c.self.inside.standing; collector = c.self.inside.collector; whole = c.self.inside.whole } in
    let same : c.args.self.now ≡ before = sym c.self.view_is in
    let begins : BeginsInClear r p m f c.args.self.now = subst (λ (b : ExchangeOrigin). IsBegun r p m f b c.args.self.now) c.in-InClear.is begun in
    let told : answer ≡ answer_bytes r p m f = subst (λ (b : ExchangeOrigin). answer ≡ answer_bytes r (exchange_place b p) (exchange_bytes b m c.args.self.now) f) c.in-InClear.is answered in
    let stood = subst (λ (s : Seen). StandsFor s r turns) same begins.stands in
    let asked = PskExchange begins.exchange in
    let now : Seen = record { standing = c.begin.new.self; collector = c.clear.new.self; whole = c.self.inside.whole } in
    let stands = c.begin.ensures.stands r turns held m f begins.exchange (plain_turn r p m f) handle stood.standing (record {
      clear = tt;
      form = begins.form;
      asked_is = begins.asked_is;
      refused = begins.refused;
      short = message_short r p m tt ordered most begins.form;
      answer_is = told;
      taken = refl;
      effect = effect_is r p m f asked answer begins.asked_is told;
    }) in
    turned_plain r InClear turns held m f now c.begin.new.out begins.refused (ap chunk_in begins.asked_is) stands c.clear.ensures.stands (c.clear.ensures.max ∙ stood.max)
    (c.begin.ensures.sent turns held f handle stood.standing ∙ ap (sent_for p f) told)

pub returns-in-InChunks : goal.returns-in-InChunks
returns-in-InChunks c = λ r turns held m f handle ordered most begun answered.
    let p : Place = place_at InClear turns held in
    let within : Place = place_at InChunks turns held in
    let answer : List ℕ = c.args.answer.now in
    let before : Seen = record { standing = c.self.inside.standing; collector = c.self.inside.collector; whole = c.self.inside.whole } in
    let same : c.args.self.now ≡ before = sym c.self.view_is in
    let h : ℕ = c.in-InChunks.of_chunk in
    let n : ℕ = c.in-InChunks.number in
    let begins : BeginsInChunks r p m f h n before =
    subst (λ (s : Seen). BeginsInChunks r p m f h n s) same (subst (λ (b : ExchangeOrigin). IsBegun r p m f b c.args.self.now) c.in-InChunks.is begun) in
    let told : answer ≡ answer_bytes r within before.whole f =
    subst (λ (s : Seen). answer ≡ answer_bytes r within s.whole f) same (subst (λ (b : ExchangeOrigin). answer ≡ answer_bytes r (exchange_place b p) (exchange_bytes b m c.args.self.now) f) c.in-InChunks.is answered) in
    let done = begins.completes in
    let chunk : ChunkMessage = begins.chunk in
    let asked = PskExchange begins.exchange in
    let settled = settled_at before.standing InClear turns held done.standing in
    let known = chunk_known r p m chunk tt settled done.form done.asked_is in
    let response = c.as_slice.ensures.value ∙ c.begin-in-InChunks.ensures.sent turns held f handle done.standing ∙ ap (sent_for within f) told in
    let fits = subst (λ (a : List ℕ). length a + 6 ≤ MAX_MESSAGE_SIZE) (sym response) (reply_fits r p before.whole f known.0 known.1) in
    let written =
    c.write_acknowledgement.ensures fits ∙ ap (λ (a : List ℕ). canonical_response (ChunkSendAck false h n a)) response
    ∙ ap (λ (x : ℕ). canonical_response (ChunkSendAck false x n (request_reply r within before.whole f))) (sym begins.handle_is)
    ∙ ap (λ (x : ℕ). canonical_response (ChunkSendAck false chunk.handle x (request_reply r within before.whole f))) (sym begins.number_is) in
    turned_last_taken r InClear turns held m f chunk before c.begin-in-InChunks.new.self c.write_acknowledgement.new.out done begins.refused
    (λ t taken took. c.begin-in-InChunks.ensures.stands r turns held before.whole f begins.exchange t handle done.standing (record {
      clear = tt;
      form = begins.form;
      asked_is = begins.asked_is;
      refused = begins.refused;
      short = message_short r within before.whole tt ordered most begins.form;
      answer_is = told;
      taken = taken;
      effect = took ∙ effect_is r within before.whole f asked answer begins.asked_is told;
    }))
    written
