use Rattle.std.proofs.Common.{◌≡◌, ◌-◌, ◌^◌, min, take}
use Rattle.script_text.specs.Numbers.{value_of}
use Rattle.script_text.proofs.reading.numbers.value.Given as goal

abbrev pub invariant-loop-b : goal.invariant-loop-b
invariant-loop-b l = l.value ≡ min (value_of (take l.b-index l.word)) (2 ^ 128 - 1)
