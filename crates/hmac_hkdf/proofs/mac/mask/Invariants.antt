use Rattle.std.proofs.Common.{◌≡◌, ◌++◌, take, drop}
use Rattle.hmac_hkdf.specs.Hmac.{masked}
use Rattle.hmac_hkdf.proofs.mac.mask.Given as goal

abbrev pub invariant-loop-x : goal.invariant-loop-x
invariant-loop-x l = l.bytes ≡ masked l.pad (take l.x-index l.initial.bytes) ++ drop l.x-index l.initial.bytes
