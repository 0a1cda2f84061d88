-- What is written of the first packets and of the others.
use Rattle.std.proofs.Common.{◌≡◌, ◌∙◌, ◌+◌, ◌<◌, ◌++◌, ℕ, zero, suc, List, [], ◌∷◌, take, drop, get_or, length, refl, sym, ap, arith, append_assoc}
use Rattle.std.proofs.lemmas.List.{append-nil}
use Rattle.packet_text.specs.Styles.{written_from, written_of}
use Rattle.packet_text.specs.declared.style.Style.{Style}
use Rattle.script_text.specs.declared.configuration.config.ScriptConfig.{ScriptConfig}

-- packets in their order behind others, the newest first
abbrev pub behind : List (List ℕ) → List (List ℕ) → List (List ℕ)
behind older [] = older
behind older (p ∷ others) = behind (p ∷ older) others

pub length_behind : (older packets : List (List ℕ)) → length (behind older packets) ≡ length older + length packets
length_behind older [] = omega arith
length_behind older (p ∷ others) = let e = length_behind (p ∷ older) others in omega (arith, e)

-- one packet more
pub behind_more : (older packets : List (List ℕ)) (i : ℕ) (d : List ℕ) → i < length packets → behind older (take (i + 1) packets) ≡ get_or packets i d ∷ behind older (take i packets)
behind_more older [] i d h = absurd (omega (arith, h))
behind_more older (p ∷ others) zero d h = refl
behind_more older (p ∷ others) (suc i) d h =
    let below : i < length others = omega (arith, h) in
    let next : suc i + 1 ≡ suc (i + 1) = omega arith in
    ap (λ (n : ℕ). behind older (take n (p ∷ others))) next ∙ behind_more (p ∷ older) others i d below

-- all is what is written of the packets before one, of it and of those after it
pub written_through : (style : Style) (w : ScriptConfig) (older packets : List (List ℕ)) (i : ℕ) (d : List ℕ) → i < length packets →
    written_from style w older packets ≡ written_from style w older (take i packets) ++ (written_of style w (behind older (take i packets)) (get_or packets i d) ++ written_from style w (behind older (take (i + 1) packets)) (drop (i + 1) packets))
written_through style w older [] i d h = absurd (omega (arith, h))
written_through style w older (p ∷ others) zero d h = refl
written_through style w older (p ∷ others) (suc i) d h =
    let below : i < length others = omega (arith, h) in
    let next : suc i + 1 ≡ suc (i + 1) = omega arith in
    let last : written_from style w (behind (p ∷ older) (take (i + 1) others)) (drop (i + 1) others) ≡ written_from style w (behind older (take (suc i + 1) (p ∷ others))) (drop (suc i + 1) (p ∷ others)) =
    ap (λ (n : ℕ). written_from style w (behind older (take n (p ∷ others))) (drop n (p ∷ others))) (sym next) in
    let own = written_of style w (behind (p ∷ older) (take i others)) (get_or others i d) in
    ap (λ (t : List ℕ). written_of style w older p ++ t) (written_through style w (p ∷ older) others i d below)
    ∙ sym (append_assoc (written_of style w older p) (written_from style w (p ∷ older) (take i others)) (own ++ written_from style w (behind (p ∷ older) (take (i + 1) others)) (drop (i + 1) others)))
    ∙ ap (λ (t : List ℕ). written_from style w older (take (suc i) (p ∷ others)) ++ (own ++ t)) last

-- what is written of one packet more
pub more_written : (style : Style) (w : ScriptConfig) (older packets : List (List ℕ)) (i : ℕ) (d : List ℕ) → i < length packets →
    written_from style w older (take (i + 1) packets) ≡ written_from style w older (take i packets) ++ written_of style w (behind older (take i packets)) (get_or packets i d)
more_written style w older [] i d h = absurd (omega (arith, h))
more_written style w older (p ∷ others) zero d h = append-nil (written_of style w older p)
more_written style w older (p ∷ others) (suc i) d h =
    let below : i < length others = omega (arith, h) in
    let next : suc i + 1 ≡ suc (i + 1) = omega arith in
    ap (λ (n : ℕ). written_from style w older (take n (p ∷ others))) next
    ∙ ap (λ (t : List ℕ). written_of style w older p ++ t) (more_written style w (p ∷ older) others i d below)
    ∙ sym (append_assoc (written_of style w older p) (written_from style w (p ∷ older) (take i others)) (written_of style w (behind (p ∷ older) (take i others)) (get_or others i d)))
