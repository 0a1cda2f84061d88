use Rattle.std.proofs.Common.{◌≡◌, ◌≤◌, take, drop, length, arith, ap, sym}
use Rattle.std.proofs.lemmas.Grind.{common_steps}
use Rattle.spdm_basis.specs.Memory.{Remaining}
use Rattle.spdm_basis.proofs.Piece.{read_gives}
use Rattle.spdm_basis.proofs.streams.memory.MemSourceSource.read.Goals as goal

pub returns-clause-gives : goal.returns-clause-gives
returns-clause-gives c =
    let bs = c.self.inside.bytes.items in
    let at = c.self.inside.at in
    let n = c.min-count.result in
    let copied : c.copy_from_slice.new.self ≡ take n (drop at bs) = grind (arith, common_steps) in
    let fits : n ≤ length (drop at bs) = grind (arith, common_steps) in
    read_gives c.args.self.now.left bs c.copy_from_slice.new.self c.args.into.now at n (ap (λ (s : Remaining). s.left) (sym c.self.view_is)) copied fits
