use Rattle.std.proofs.Common.{◌≡◌, ◌∙◌, ℕ, List, Option, Some, ap, arith, length, min, sym, take}
use Rattle.std.proofs.lemmas.Grind.{common_steps}
use Rattle.device_serve.proofs.Settling.{obeyed, settled_answer}
use Rattle.device_serve.specs.Replies.{answer_in}
use Rattle.device_serve.specs.Replies.Answer.{WithData, WithoutData}
use Rattle.device_serve.specs.Standing.{answer_read}
use Rattle.device_serve.specs.declared.replies.Said.{Said}
use Rattle.frame_stream.specs.Standing.{beginning_of, content_in}
use Rattle.device_serve.proofs.device.Device.obey.Goals as goal

pub returns-in-Some-Nothing-clause-obeyed : goal.returns-in-Some-Nothing-clause-obeyed
returns-in-Some-Nothing-clause-obeyed g c = λ d stands.
    let reader = c.args.self.now.reader in
    let room = c.said_in.new.room in
    let held = g.K.Sink.contents c.args.sink.now in
    let holds = g.K.Sink.contents c.settle.new.sink in
    let said = c.in-Some-Nothing.is ∙ ap (λ (what : Said). Some what) c.in-Some-Nothing.field-0-is in
    let is : answer_in (content_in reader) ≡ Some WithoutData = ap answer_in (sym c.content.ensures) ∙ sym c.said_in.ensures ∙ ap (λ (o : Option Said). answer_read o room) said in
    obeyed d (beginning_of reader) (content_in reader) (record { before = g.K.Sink.faults c.args.sink.now; after = g.K.Sink.faults c.settle.new.sink }) held WithoutData is
    c.settle.result c.settle.new.self holds c.settle.ensures.fault (settled_answer d held c.settle.result c.settle.new.self holds (c.settle.ensures.settled d stands))

-- There are no more bytes in the room.
take_least : (n most : ℕ) (l : List ℕ) → length l ≡ most → take n l ≡ take (min n most) l
take_least n most l long = grind (arith, common_steps)

pub returns-in-Some-Bytes-clause-obeyed : goal.returns-in-Some-Bytes-clause-obeyed
returns-in-Some-Bytes-clause-obeyed g c = λ d stands.
    let reader = c.args.self.now.reader in
    let room = c.said_in.new.room in
    let count = c.in-Some-Bytes.count in
    let held = g.K.Sink.contents c.args.sink.now in
    let holds = g.K.Sink.contents c.reply.new.sink in
    let said = c.in-Some-Bytes.is ∙ ap (λ (what : Said). Some what) c.in-Some-Bytes.field-0-is in
    let least = take_least count 8000 room c.said_in.array_long ∙ ap (λ (n : ℕ). take n room) (sym c.min.ensures) in
    let is : answer_in (content_in reader) ≡ Some (WithData (take c.min.result room)) =
    ap answer_in (sym c.content.ensures) ∙ sym c.said_in.ensures ∙ ap (λ (o : Option Said). answer_read o room) said ∙ ap (λ (l : List ℕ). Some (WithData l)) least in
    obeyed d (beginning_of reader) (content_in reader) (record { before = g.K.Sink.faults c.args.sink.now; after = g.K.Sink.faults c.reply.new.sink }) held (WithData (take c.min.result room)) is
    c.reply.result c.reply.new.self holds c.reply.ensures.fault (c.reply.ensures.replied d stands)
