-- The lines of the first packets and of the others.
use Rattle.std.proofs.Common.{◌≡◌, ◌∙◌, ◌+◌, ◌<◌, ◌++◌, ℕ, zero, suc, List, [], ◌∷◌, take, drop, get_or, length, refl, sym, ap, arith, append_assoc}
use Rattle.std.proofs.lemmas.List.{append-nil}
use Rattle.capture_text.specs.Written.{packet_lines}
use Rattle.spdm_grammar.specs.Lines.Line.{Packet}
use Rattle.trace_text.specs.TraceLines.{line_text}

abbrev pub own_line : ℕ → List ℕ → List ℕ
own_line number packet = line_text (Packet number packet)

-- all lines are those before a packet, its own and those after it
pub lines_through : (number : ℕ) (packets : List (List ℕ)) (i : ℕ) (d : List ℕ) → i < length packets →
    packet_lines number packets ≡ packet_lines number (take i packets) ++ (own_line (number + i) (get_or packets i d) ++ packet_lines (number + (i + 1)) (drop (i + 1) packets))
lines_through number [] i d h = absurd (omega (arith, h))
lines_through number (p ∷ others) zero d h = let e : number + 0 ≡ number = omega arith in rw e refl
lines_through number (p ∷ others) (suc i) d h =
    let below : i < length others = omega (arith, h) in
    let next : suc i + 1 ≡ suc (i + 1) = omega arith in
    let rest : drop (suc i + 1) (p ∷ others) ≡ drop (i + 1) others = ap (λ (n : ℕ). drop n (p ∷ others)) next in
    let e : (number + 1) + i ≡ number + suc i = omega arith in
    let f : (number + 1) + (i + 1) ≡ number + (suc i + 1) = omega arith in
    let ih = lines_through (number + 1) others i d below in
    ap (λ (t : List ℕ). own_line number p ++ t) (rw (e, f) at ih)
    ∙ sym (append_assoc (own_line number p) (packet_lines (number + 1) (take i others)) (own_line (number + suc i) (get_or others i d) ++ packet_lines (number + (suc i + 1)) (drop (i + 1) others)))
    ∙ ap (λ (l : List (List ℕ)). packet_lines number (take (suc i) (p ∷ others)) ++ (own_line (number + suc i) (get_or others i d) ++ packet_lines (number + (suc i + 1)) l)) (sym rest)

-- one line more
pub lines_more : (number : ℕ) (packets : List (List ℕ)) (i : ℕ) (d : List ℕ) → i < length packets →
    packet_lines number (take (i + 1) packets) ≡ packet_lines number (take i packets) ++ own_line (number + i) (get_or packets i d)
lines_more number [] i d h = absurd (omega (arith, h))
lines_more number (p ∷ others) zero d h = let e : number + 0 ≡ number = omega arith in rw e (append-nil (own_line number p))
lines_more number (p ∷ others) (suc i) d h =
    let below : i < length others = omega (arith, h) in
    let next : suc i + 1 ≡ suc (i + 1) = omega arith in
    let e : (number + 1) + i ≡ number + suc i = omega arith in
    let ih = lines_more (number + 1) others i d below in
    ap (λ (n : ℕ). packet_lines number (take n (p ∷ others))) next
    ∙ ap (λ (t : List ℕ). own_line number p ++ t) (rw e at ih)
    ∙ sym (append_assoc (own_line number p) (packet_lines (number + 1) (take i others)) (own_line (number + suc i) (get_or others i d)))
