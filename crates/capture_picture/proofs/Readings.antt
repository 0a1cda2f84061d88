-- What is known of the two halves of a reading is known of the reading.
use Rattle.std.proofs.Common.{◌≡◌, Some, Result, Ok, Err, ap}
use Rattle.std.specs.Prelude.{unwrap_or}
use Rattle.std.specs.Result.{result_err, result_ok}

pub by_ok : {A E : Type 0} (r : Result A E) (v : A) → Some v ≡ result_ok r → Ok v ≡ r
by_ok (Ok x) v h = ap (λ o. Ok (unwrap_or o v)) h
by_ok (Err e) v h = absurd (cc h)

pub by_err : {A E : Type 0} (r : Result A E) (e : E) → Some e ≡ result_err r → Err e ≡ r
by_err (Ok x) e h = absurd (cc h)
by_err (Err x) e h = ap (λ o. Err (unwrap_or o e)) h
