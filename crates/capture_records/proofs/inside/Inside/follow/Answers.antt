use Rattle.std.proofs.Common.{◌≡◌, ◌∙◌, ℕ, Option, Some, ap, sym}
use Rattle.capture_bodies.specs.Collecting.{large_by}
use Rattle.capture_records.proofs.Answered.{answered_inside}
use Rattle.capture_records.specs.Ends.{way_in}
use Rattle.capture_records.specs.Hearing.{record_in}
use Rattle.capture_records.specs.Inside.{answered, chunk_inside, chunks_to, inside_at, inside_in}
use Rattle.capture_records.specs.Showing.{Seen}
use Rattle.chunking.specs.Collecting.{accepted_of}
use Rattle.mctp_framing.specs.Packet.{parsed}
use Rattle.spdm_grammar.specs.declared.names.TheConstants.{MAX_MESSAGE_SIZE}
use Rattle.capture_records.proofs.inside.Inside.follow.Goals as goal

pub returns-in-Some-clause-large : goal.returns-in-Some-clause-large
unfolding inside_in
returns-in-Some-clause-large c = λ config older packet k way seen.
    let place = c.in-Some.place in
    let to : answered (way_in config (parsed packet)) ≡ Some place = ap answered (sym way) ∙ sym c.in-Some.ensures in
    c.take_answer.ensures.large config older k (answered_inside config (parsed packet) place to)
    ∙ ap (λ (s : Seen). large_by (accepted_of MAX_MESSAGE_SIZE (chunks_to config place older)) (chunk_inside s)) seen
    ∙ ap (λ (o : Option ℕ). inside_at config older o (record_in config older packet)) (sym to)

pub returns-in-Some-clause-collects : goal.returns-in-Some-clause-collects
returns-in-Some-clause-collects c = λ config older packet k way seen.
    let place = c.in-Some.place in
    let to : answered (way_in config (parsed packet)) ≡ Some place = ap answered (sym way) ∙ sym c.in-Some.ensures in
    c.take_answer.ensures.collects config older packet k (answered_inside config (parsed packet) place to) to seen

pub returns-in-None-clause-large : goal.returns-in-None-clause-large
unfolding inside_in
returns-in-None-clause-large c = λ config older packet k way seen.
    ap (λ (o : Option ℕ). inside_at config older o (record_in config older packet)) (c.in-None.ensures ∙ ap answered way)
