use Rattle.std.proofs.Common.{◌≡◌, length}
use Rattle.std.specs.Prelude.{map}
use Rattle.std.specs.List.{range_with_len}
use Rattle.aes.specs.Cipher.{round_key}
use Rattle.aes.specs.Words.{bytes_of}
use Rattle.aes.proofs.schedule.schedule.Given as goal

abbrev pub invariant-loop-n : goal.invariant-loop-n
invariant-loop-n l = record {
  count : length l.keys.items ≡ l.n;
  made : map bytes_of l.keys.items ≡ map (round_key l.bytes) (range_with_len 0 l.n);
}
