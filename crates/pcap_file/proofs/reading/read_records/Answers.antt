use Rattle.std.proofs.Common.{◌≡◌, ◌∙◌, ◌<◌, ◌+◌, ◌-◌, ap, arith, drop, length, suc, sym, take, rules, ℕ, List, length-drop}
use Rattle.pcap_file.proofs.Records.{none_before, records_behind}
use Rattle.pcap_file.specs.Reading.{records_in}
use Rattle.pcap_file.proofs.reading.read_records.Goals as goal

pub loop-rest-init : goal.loop-rest-init
loop-rest-init c =
    let file = c.args.file.now in
    let long : length (drop 24 file) ≡ length file - 24 = length-drop 24 file in
    let place : length file - length (drop 24 file) ≡ 24 = omega (arith, long, c.requires.header) in
    record {
      whole = rw (c.new-packets.ensures, c.split_at.ensures.back, place) (none_before (records_in 100000 24 c.args.order (drop 24 file)));
      within = rw c.split_at.ensures.back (omega (arith, long));
    }

pub loop-rest-preserved : goal.loop-rest-preserved
loop-rest-preserved c =
    let file = c.args.file.now in
    let rest = c.loop-rest.rest.now in
    let size = c.in-Ok.size in
    let record_bytes = c.split_at-in-loop-rest.result.0.now in
    let others = c.split_at-in-loop-rest.result.1.now in
    let some : 0 < length rest = search rules in
    let left : c.loop-rest.left ≡ suc (c.loop-rest.left - 1) = omega arith in
    let long : length others ≡ length rest - (16 + size) = ap length c.split_at-in-loop-rest.ensures.back ∙ length-drop (16 + size) rest in
    let place : length file - length others ≡ (length file - length rest) + (16 + size) = omega (arith, long, c.in-Ok.ensures.fits, c.loop-rest.invariant.within) in
    let packet : c.in_ok-copy.field-0 ≡ drop 16 (take (16 + size) rest) = c.in_ok-copy.ensures ∙ c.split_at-in-loop-rest-2.ensures.back ∙ ap (λ (l : List ℕ). drop 16 l) c.split_at-in-loop-rest.ensures.front in
    record {
      whole = records_behind c.loop-rest.packets c.push.new.self c.in_ok-copy.field-0 rest others c.loop-rest.left (c.loop-rest.left - 1)
          (length file - length rest) (length file - length others) size c.args.order (records_in 100000 24 c.args.order (drop 24 file))
          left some (sym c.in-Ok.ensures.size) packet c.split_at-in-loop-rest.ensures.back place c.in_ok-push.ensures.ok c.loop-rest.invariant.whole;
      within = omega (arith, long, c.loop-rest.invariant.within);
    }
