-- What contracts see of a source, a sink and seeds in memory. This project's own.
use Rattle.std.specs.Prelude.{ℕ, List, Bool, ◌==◌, ◌+◌, ◌-◌, ◌^◌, min}
use Rattle.std.specs.List.{list_any}

-- The calls of a source, a sink or of seeds so far: how many were made and how many of them failed, and which are to fail, counted from 0.
pub record Calls : Type 0 where
  pub made : ℕ
  pub failing : List ℕ
  pub faults : ℕ

-- The next call is one of those that fail.
abbrev pub fails_next : Calls → Bool
fails_next calls = list_any (λ call. call == calls.made) calls.failing

-- A count of 64 bits one higher; it stands still at its last number.
abbrev pub one_more : ℕ → ℕ
one_more n = min (n + 1) (2 ^ 64 - 1)

-- A source: what it has left, and its calls.
pub record Remaining : Type 0 where
  pub left : List ℕ
  pub calls : Calls

-- A sink: what it holds, how many bytes it can hold, and its calls.
pub record Contents : Type 0 where
  pub held : List ℕ
  pub limit : ℕ
  pub calls : Calls

-- Seeds: those that are left, and the calls.
pub record SeedsLeft : Type 0 where
  pub left : List (List ℕ)
  pub calls : Calls
