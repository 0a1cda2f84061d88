use Rattle.std.proofs.Common.{◌≡◌, ℕ, ◌+◌, ◌-◌, ◌*◌, ◌%◌, ◌<◌, ◌∙◌, get_or, ap, refl, arith}
use Rattle.aes.specs.Cipher.{rounds, round_key, round_keys, round_count}
use Rattle.aes.specs.Words.{block_bytes}
use Rattle.aes.specs.Slices.{block_at}
use Rattle.aes.specs.declared.slices.Slices.{Slices}
use Rattle.aes.proofs.Schedules.{rounds-none, rounds-more, cipher-last}
use Rattle.aes.proofs.SlicedRounds.{added_blocks}
use Rattle.aes.proofs.SlicedSchedules.{sliced_key_at, turns_last, turns_before}
use Rattle.aes.proofs.sliced.SlicedAes.encrypt_four.Goals as goal

pub loop-n-init : goal.loop-n-init
loop-n-init c = λ b hb.
    let none : Slices = record { bit0 = 0; bit1 = 0; bit2 = 0; bit3 = 0; bit4 = 0; bit5 = 0; bit6 = 0; bit7 = 0 } in
    let keys = c.as_slice-keys.result.now in
    let nr = round_count c.self.inside.key.items in
    added_blocks 0 c.add-state.result c.packed.result (get_or keys 0 none) c.add-state.ensures b
    ∙ rounds-none (round_keys c.args.self.now) (block_bytes (get_or c.args.blocks.now b 0)) (block_at 0 c.packed.result b) (block_at 0 (get_or keys 0 none) b)
    (c.packed.ensures b hb)
    (sliced_key_at keys c.self.inside.keys.items c.self.inside.key.items c.args.self.now 0 0 b none c.as_slice-keys.ensures.value c.self.view_is c.self.invariant.0 (omega arith) hb (turns_before nr 0 0 (omega arith) refl))

pub loop-n-preserved : goal.loop-n-preserved
loop-n-preserved c = λ b hb.
    let none : Slices = record { bit0 = 0; bit1 = 0; bit2 = 0; bit3 = 0; bit4 = 0; bit5 = 0; bit6 = 0; bit7 = 0 } in
    let keys = c.as_slice-keys.result.now in
    let nr = round_count c.self.inside.key.items in
    let w = round_keys c.args.self.now in
    let block = block_bytes (get_or c.args.blocks.now b 0) in
    let n = c.loop-n.n in
    let room : 4 * n + 4 < nr = omega (arith, c.self.invariant.2, c.self.invariant.3) in
    let key_is = λ (t m : ℕ) (lt : m < nr) (e : m % 4 ≡ t).
    sliced_key_at keys c.self.inside.keys.items c.self.inside.key.items c.args.self.now t m b none c.as_slice-keys.ensures.value c.self.view_is c.self.invariant.0 (omega arith) hb (turns_before nr m t lt e) in
    let two : 4 * n + 2 ≡ 4 * n + 1 + 1 = omega arith in
    let three : 4 * n + 3 ≡ 4 * n + 1 + 1 + 1 = omega arith in
    let four : 4 * n + 4 ≡ 4 * n + 1 + 1 + 1 + 1 = omega arith in
    let next : 4 * n + 1 + 1 + 1 + 1 ≡ 4 * (n + 1) = omega arith in
    c.fourth_round-state.ensures b hb
    ∙ rounds-more w block (block_at 3 c.third_round-state.result b) (block_at 0 (get_or keys (4 * n + 4) none) b) (4 * n + 1 + 1 + 1)
    (c.third_round-state.ensures b hb
    ∙ rounds-more w block (block_at 2 c.second_round-state.result b) (block_at 3 (get_or keys (4 * n + 3) none) b) (4 * n + 1 + 1)
    (c.second_round-state.ensures b hb
    ∙ rounds-more w block (block_at 1 c.first_round-state.result b) (block_at 2 (get_or keys (4 * n + 2) none) b) (4 * n + 1)
    (c.first_round-state.ensures b hb
    ∙ rounds-more w block (block_at 0 c.loop-n.state b) (block_at 1 (get_or keys (4 * n + 1) none) b) (4 * n)
    (c.loop-n.invariant b hb)
    (key_is 1 (4 * n + 1) (omega arith) (omega arith)))
    (key_is 2 (4 * n + 2) (omega arith) (omega arith) ∙ ap (round_key w) two))
    (key_is 3 (4 * n + 3) (omega arith) (omega arith) ∙ ap (round_key w) three))
    (key_is 0 (4 * n + 4) (omega arith) (omega arith) ∙ ap (round_key w) four)
    ∙ ap (rounds w block) next

pub returns : goal.returns
returns c = λ b hb.
    let none : Slices = record { bit0 = 0; bit1 = 0; bit2 = 0; bit3 = 0; bit4 = 0; bit5 = 0; bit6 = 0; bit7 = 0 } in
    let keys = c.as_slice-keys.result.now in
    let nr = round_count c.self.inside.key.items in
    let rs = c.self.inside.rounds in
    let w = round_keys c.args.self.now in
    let block = block_bytes (get_or c.args.blocks.now b 0) in
    let n = c.loop-n.n in
    let same : rs ≡ nr = c.self.invariant.2 in
    let end : rs ≡ 4 * n + 2 = omega (arith, c.self.invariant.2, c.self.invariant.3) in
    let before : rs - 1 ≡ 4 * n + 1 = omega arith in
    let last : 4 * n + 1 ≡ rs - 1 = omega arith in
    let count : rs ≡ round_count c.args.self.now = rw c.self.view_is at c.self.invariant.2 in
    c.unpacked.ensures b hb
    ∙ c.last_round.ensures b hb
    ∙ cipher-last c.args.self.now block (block_at 1 c.first_round-state-2.result b) (block_at 0 (get_or keys rs none) b) (4 * n + 1) rs
    (c.first_round-state-2.ensures b hb
    ∙ rounds-more w block (block_at 0 c.loop-n.state b) (block_at 1 (get_or keys (rs - 1) none) b) (4 * n)
    (c.loop-n.invariant b hb)
    (sliced_key_at keys c.self.inside.keys.items c.self.inside.key.items c.args.self.now 1 (rs - 1) b none c.as_slice-keys.ensures.value c.self.view_is c.self.invariant.0 (omega arith) hb (turns_before nr (rs - 1) 1 (omega arith) (omega arith))
    ∙ ap (round_key w) before))
    last count
    (sliced_key_at keys c.self.inside.keys.items c.self.inside.key.items c.args.self.now 0 rs b none c.as_slice-keys.ensures.value c.self.view_is c.self.invariant.0 (omega arith) hb (turns_last nr rs same))
