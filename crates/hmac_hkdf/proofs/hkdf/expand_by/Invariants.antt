use Rattle.std.proofs.Common.{◌≡◌, ◌*◌, ◌++◌, length, take, drop}
use Rattle.spdm_basis.specs.Sizes.{hash_size}
use Rattle.running_hash.specs.Hash.{hash_of}
use Rattle.hmac_hkdf.specs.Hkdf.{block_of, blocks_of}
use Rattle.hmac_hkdf.proofs.hkdf.expand_by.Given as goal

abbrev pub invariant-loop-i : goal.invariant-loop-i
invariant-loop-i l = record {
  done : l.out ≡ take (length l.initial.out) (blocks_of (hash_of l.hash) l.prk l.info l.i) ++ drop (l.i * hash_size l.hash) l.initial.out;
  last : l.last.items ≡ block_of (hash_of l.hash) l.prk l.info l.i;
  full : length (blocks_of (hash_of l.hash) l.prk l.info l.i) ≡ l.i * hash_size l.hash;
}
