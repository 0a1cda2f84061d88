use Rattle.std.proofs.Common.{◌∙◌, ℕ, Bool, ap, sym}
use Rattle.capture_difference.proofs.spots.message_spot.Goals as goal
use Rattle.capture_difference.specs.Spots.{message_spot, request_spot, response_spot_by}
use Rattle.packet_text.specs.declared.readings.Lengths.{Lengths}
use Rattle.spdm_grammar.specs.Requests.{request_reading}

pub returns-then-owner : goal.returns-then-owner
returns-then-owner c =
    c.request_spot.ensures
    ∙ ap (λ (n : ℕ). request_spot (request_reading n c.args.message.now) c.args.place) c.request_hash.ensures
    ∙ sym (ap (λ (o : Bool). message_spot o c.args.message.now c.args.place) c.if-owner.true)

pub returns-else-owner : goal.returns-else-owner
returns-else-owner c =
    c.response_spot.ensures
    ∙ ap (λ (l : Lengths). response_spot_by c.args.message.now l c.args.place) c.response_lengths.ensures
    ∙ sym (ap (λ (o : Bool). message_spot o c.args.message.now c.args.place) c.if-owner.false)
