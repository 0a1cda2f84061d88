-- Draws, as the program takes and counts them.
use Rattle.std.proofs.Common.{refl, ◌≡◌, ◌∙◌, ◌+◌, ℕ, List, Bool, true, false, cond, ap, arith}
use Rattle.hmac_hkdf.specs.Draw.{draw}
use Rattle.hmac_hkdf.specs.declared.draws.Drawn.{Drawn}
use Rattle.session_keys.specs.Drawing.{draw_as, drawn_by}
use Rattle.spdm_machine.specs.Keys.{Draw, draw_of}

pub draw_is : (drawn : Drawn) (seed : List ℕ) (n : ℕ) → drawn.number ≡ n → drawn.bytes ≡ draw seed n → draw_as drawn ≡ draw_of seed n
draw_is drawn seed n number bytes =
    let of : ℕ → List ℕ → Draw = λ m xs. record { number = m; bytes = xs } in
    ap (λ (m : ℕ). of m drawn.bytes) number ∙ ap (λ (xs : List ℕ). of n xs) bytes

pub counted_as : (b : Bool) (n : ℕ) → cond b (n + 1) n ≡ n + drawn_by b
counted_as true n = refl
counted_as false n = omega arith
