-- A packet added after others.
use Rattle.std.proofs.Common.{◌≡◌, ◌∙◌, ◌+◌, ◌≤◌, ◌++◌, ℕ, List, [], ◌∷◌, length, slice_range, sym, ap, arith, length-append, zero-add}
use Rattle.std.proofs.lemmas.Grind.{common_steps}
use Rattle.std.proofs.lemmas.List.Sums.{sum_by-append}
use Rattle.mctp_framing.specs.declared.packet_list.Span.{Span}
use Rattle.mctp_framing.specs.Spans.{span_of, bytes_at, packets_at, AreWithin, total_len}

same_bytes : (bytes more : List ℕ) (i j : ℕ) → i ≤ j → j ≤ length bytes → slice_range (bytes ++ more) i j ≡ slice_range bytes i j
same_bytes bytes more i j up within = grind (arith, common_steps)

new_bytes : (bytes more : List ℕ) → slice_range (bytes ++ more) (length bytes) (length bytes + length more) ≡ more
new_bytes bytes more = grind (arith, common_steps)

pub packets_at-pushed : (bytes more : List ℕ) (spans : List Span) → AreWithin (length bytes) spans →
    packets_at (bytes ++ more) (spans ++ span_of bytes more ∷ []) ≡ packets_at bytes spans ++ more ∷ []
packets_at-pushed bytes more [] within = ap (λ (p : List ℕ). p ∷ []) (new_bytes bytes more)
packets_at-pushed bytes more (s ∷ spans) within =
    ap (λ (p : List ℕ). p ∷ packets_at (bytes ++ more) (spans ++ span_of bytes more ∷ [])) (same_bytes bytes more s.start s.end within.0.0 within.0.1)
    ∙ ap (λ (ps : List (List ℕ)). bytes_at bytes s ∷ ps) (packets_at-pushed bytes more spans within.1)

within_more : (n m : ℕ) (spans : List Span) (s : Span) → n ≤ m → AreWithin n spans → s.start ≤ s.end → s.end ≤ m → AreWithin m (spans ++ s ∷ [])
within_more n m [] s more within up below = ((up, below), tt)
within_more n m (x ∷ spans) s more within up below = ((within.0.0, omega (arith, within.0.1)), within_more n m spans s more within.1 up below)

pub AreWithin-pushed : (bytes more : List ℕ) (spans : List Span) → AreWithin (length bytes) spans → AreWithin (length (bytes ++ more)) (spans ++ span_of bytes more ∷ [])
AreWithin-pushed bytes more spans within =
    within_more (length bytes) (length (bytes ++ more)) spans (span_of bytes more) (grind (arith, common_steps)) within (omega arith) (grind (arith, common_steps))

pub total_len-more : (ps : List (List ℕ)) (p : List ℕ) → total_len (ps ++ p ∷ []) ≡ total_len ps + length p
total_len-more ps p = sum_by-append length ps (p ∷ []) ∙ ap (λ (n : ℕ). total_len ps + n) (zero-add (length p))

pub total_len-pushed : (bytes more : List ℕ) (spans : List Span) → AreWithin (length bytes) spans → total_len (packets_at bytes spans) ≡ length bytes →
    total_len (packets_at (bytes ++ more) (spans ++ span_of bytes more ∷ [])) ≡ length (bytes ++ more)
total_len-pushed bytes more spans within total =
    ap total_len (packets_at-pushed bytes more spans within) ∙ total_len-more (packets_at bytes spans) more ∙ ap (λ (n : ℕ). n + length more) total ∙ sym (length-append bytes more)
