use Rattle.capture_records.specs.Keyed.{data_purpose}
use Rattle.session_keys.specs.Keys.{IsKeyOf}
use Rattle.capture_records.proofs.keys.data_key.Given as goal

-- the key after as many updates as were counted
abbrev pub invariant-loop : goal.invariant-loop
invariant-loop l = IsKeyOf l.key l.session.choice (data_purpose l.session l.psk l.fn.direction l.counter)
