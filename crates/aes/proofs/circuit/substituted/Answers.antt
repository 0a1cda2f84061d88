use Rattle.std.proofs.Common.{refl}
use Rattle.aes.proofs.Circuits.{substituted_at, after_circuit, outputs, wires, made, circuit, words_of}
use Rattle.aes.proofs.circuit.substituted.Goals as goal

pub returns : goal.returns
unfolding after_circuit outputs wires made circuit words_of
returns c = substituted_at c.args.x.now _ refl
