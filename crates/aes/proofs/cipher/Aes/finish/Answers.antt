use Rattle.std.proofs.Common.{◌≡◌, ◌+◌, ◌-◌, ◌*◌, ◌∙◌, ap, arith}
use Rattle.aes.specs.Cipher.{rounds, round_key, round_keys, round_count}
use Rattle.aes.proofs.Schedules.{key_at, rounds-more, cipher-last}
use Rattle.aes.proofs.cipher.Aes.finish.Goals as goal

pub loop-n-init : goal.loop-n-init
loop-n-init c = λ block e.
    let w = round_keys c.args.self.now in
    let keys = c.as_slice-keys.result.now in
    c.round-state.ensures.bytes
    ∙ rounds-more w block _ _ 2 e
    (key_at keys c.self.inside.keys.items c.self.inside.key.items c.args.self.now 3 _ c.as_slice-keys.ensures.value c.self.view_is c.self.invariant.0 (omega (arith, c.self.invariant.2)))

pub loop-n-preserved : goal.loop-n-preserved
loop-n-preserved c = λ block e.
    let w = round_keys c.args.self.now in
    let n = c.loop-n.n in
    let keys = c.as_slice-keys.result.now in
    let one : 2 * n + 4 ≡ 2 * n + 3 + 1 = omega arith in
    let next : 2 * n + 5 ≡ 2 * n + 3 + 1 + 1 = omega arith in
    let two : 2 * n + 3 + 1 + 1 ≡ 2 * (n + 1) + 3 = omega arith in
    c.round-state-in-loop-n.ensures.bytes
    ∙ rounds-more w block _ _ (2 * n + 3 + 1)
    (c.round.ensures.bytes
    ∙ rounds-more w block _ _ (2 * n + 3) (c.loop-n.invariant block e)
    (key_at keys c.self.inside.keys.items c.self.inside.key.items c.args.self.now (2 * n + 4) _ c.as_slice-keys.ensures.value c.self.view_is c.self.invariant.0 (omega (arith, c.self.invariant.2)) ∙ ap (round_key w) one))
    (key_at keys c.self.inside.keys.items c.self.inside.key.items c.args.self.now (2 * n + 5) _ c.as_slice-keys.ensures.value c.self.view_is c.self.invariant.0 (omega (arith, c.self.invariant.2)) ∙ ap (round_key w) next)
    ∙ ap (rounds w block) two

pub returns : goal.returns
returns c = λ block e.
    let keys = c.as_slice-keys.result.now in
    let nr = c.self.inside.rounds in
    let key = c.args.self.now in
    let last : 2 * c.loop-n.n + 3 ≡ nr - 1 = omega (arith, c.self.invariant.2, c.self.invariant.3) in
    let count : nr ≡ round_count key = rw c.self.view_is at c.self.invariant.2 in
    c.block.ensures
    ∙ c.last_round.ensures
    ∙ cipher-last c.args.self.now block _ _ (2 * c.loop-n.n + 3) nr (c.loop-n.invariant block e) last
    count
    (key_at keys c.self.inside.keys.items c.self.inside.key.items c.args.self.now nr _ c.as_slice-keys.ensures.value c.self.view_is c.self.invariant.0 (omega (arith, c.self.invariant.2)))
