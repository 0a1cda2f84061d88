-- The rows of the first packets.
use Rattle.std.proofs.Common.{◌≡◌, ◌∙◌, ◌+◌, ◌<◌, ◌++◌, ◌∷◌, [], ℕ, zero, suc, List, take, get_or, length, refl, ap, arith}
use Rattle.capture_picture.specs.Arrows.{arrow_of, rows_from}
use Rattle.script_text.specs.declared.configuration.config.ScriptConfig.{ScriptConfig}
use Rattle.sequence_picture.specs.declared.rows.Fate.TheVariants.{Arrives}
use Rattle.sequence_picture.specs.declared.rows.Row.{Row}
use Rattle.sequence_picture.specs.declared.rows.Row.TheVariants.{Packet}

abbrev pub own_row : ScriptConfig → ℕ → List ℕ → Row
own_row w number packet = Packet (arrow_of w number Arrives packet)

-- one row more
pub rows_more : (w : ScriptConfig) (number : ℕ) (packets : List (List ℕ)) (i : ℕ) (d : List ℕ) → i < length packets →
    rows_from w number (take (i + 1) packets) ≡ rows_from w number (take i packets) ++ own_row w (number + i) (get_or packets i d) ∷ []
rows_more w number [] i d h = absurd (omega (arith, h))
rows_more w number (p ∷ others) zero d h = let e : number + 0 ≡ number = omega arith in rw e refl
rows_more w number (p ∷ others) (suc i) d h =
    let below : i < length others = omega (arith, h) in
    let next : suc i + 1 ≡ suc (i + 1) = omega arith in
    let e : (number + 1) + i ≡ number + suc i = omega arith in
    let ih = rows_more w (number + 1) others i d below in
    ap (λ (n : ℕ). rows_from w number (take n (p ∷ others))) next
    ∙ ap (λ (t : List Row). own_row w number p ∷ t) (rw e at ih)

-- as many rows as packets
pub rows_count : (w : ScriptConfig) (number : ℕ) (packets : List (List ℕ)) → length (rows_from w number packets) ≡ length packets
rows_count w number [] = refl
rows_count w number (p ∷ others) = ap suc (rows_count w (number + 1) others)
