-- A draw, as the program takes it.
use Rattle.std.specs.Prelude.{ℕ, Bool, if◌then◌else◌}
use Rattle.hmac_hkdf.specs.declared.draws.Drawn.{Drawn}
use Rattle.spdm_machine.specs.Keys.{Draw}

abbrev pub draw_as : Drawn → Draw
draw_as drawn = record { number = drawn.number; bytes = drawn.bytes }

-- How many draws are taken.
abbrev pub drawn_by : Bool → ℕ
drawn_by taken = if taken then 1 else 0
