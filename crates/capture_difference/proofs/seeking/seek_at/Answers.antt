use Rattle.std.proofs.Common.{◌≡◌, ◌∙◌, ◌+◌, [], ℕ, List, IfOk, arith, ap, length, take, drop, slice_index_or}
use Rattle.std.proofs.lemmas.List.{get_or_read}
use Rattle.capture_difference.proofs.Trying.{few_around, found_at}
use Rattle.capture_difference.proofs.seeking.seek_at.Goals as goal
use Rattle.capture_difference.specs.Difference.{IsFound}
use Rattle.script_ends.specs.Configured.{configuration_in}
use Rattle.world_machine.specs.Setup.{Configuration}

pub returns : goal.returns
returns c = λ sound few.
    let w : Configuration = configuration_in c.args.config.now in
    let packets = c.args.packets.now in
    let place : ℕ = c.args.place in
    let before : List (List ℕ) = c.split_at.result.0.now in
    let behind : List (List ℕ) = c.split_at-2.result.1.now in
    let packet : List ℕ = c.as_slice-packet.result.now in
    let front : before ≡ take place packets = c.split_at.ensures.front in
    let back : behind ≡ drop (place + 1) packets = c.split_at-2.ensures.back in
    let at : packet ≡ slice_index_or packets place [] = c.as_slice-packet.ensures ∙ get_or_read packets place c.index-packets-place.result c.requires.inside c.index-packets-place.is [] in
    let around = few_around packets place c.requires.inside few in
    let shorter = ap length front in
    let shorter_too = ap length back in
    let told : IfOk c.seek.result (IsFound w before packet behind c.changes_of-most.result) = c.seek.ensures sound (omega (arith, around, shorter, shorter_too)) in
    found_at c.seek.result w packets before behind packet place c.share_of-share.result c.changes_of-most.result front at back c.share_of-share.ensures.value c.changes_of-most.ensures told
