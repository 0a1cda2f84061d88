-- When two tags agree by chance. This project's own notion: the premise of agreement. It is of computed tags alone, and
-- not of draws: which messages use one is `takes_draw` in responder_machine/specs/Turn.antt.
use Rattle.std.specs.Prelude.{◌≡◌, ℕ, List, [], ◌∷◌, ◌⊎◌}
use Rattle.key_schedule.specs.Purpose.{Purpose}
use Rattle.spdm_machine.specs.TagLog.{Log}
use Rattle.spdm_machine.specs.TagLog.Act.{Made, Checked}

-- Each of these acts that has this computed value has this purpose and input too.
abbrev pub AreAlike : Purpose → (input value : List ℕ) → Log → Type 0
AreAlike p i v [] = Unit {0}
AreAlike p i v (Made q j u ∷ older) = (u ≡ v → (p ≡ q) × (i ≡ j)) × AreAlike p i v older
AreAlike p i v (Checked q j u r ∷ older) = (u ≡ v → (p ≡ q) × (i ≡ j)) × AreAlike p i v older

-- One of these acts made this value.
abbrev pub IsValueMade : List ℕ → Log → Type 0
IsValueMade v [] = ⊥
IsValueMade v (Made q j u ∷ older) = (u ≡ v) ⊎ IsValueMade v older
IsValueMade v (Checked q j u r ∷ older) = IsValueMade v older

-- Nothing agrees by chance: no two acts have equal computed values and different purposes or inputs, and no value is
-- received that equals the computed one, unless it was made before.
abbrev pub NoChance : Log → Type 0
NoChance [] = Unit {0}
NoChance (Made p i v ∷ older) = AreAlike p i v older × NoChance older
NoChance (Checked p i v r ∷ older) = AreAlike p i v older × (v ≡ r → IsValueMade v older) × NoChance older

-- Something agrees by chance.
abbrev pub HasChance : Log → Type 0
HasChance log = NoChance log → ⊥
