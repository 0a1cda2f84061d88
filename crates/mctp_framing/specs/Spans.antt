-- Packets one after the other in one list of bytes. This project's own.
use Rattle.std.specs.Prelude.{◌≤◌, ◌+◌, ℕ, List, map, length, slice_range, sum_by}
use Rattle.std.specs.List.{AllByRecursion}
use Rattle.mctp_framing.specs.declared.packet_list.Span.{Span}

-- The bytes of a span.
abbrev pub bytes_at : List ℕ → Span → List ℕ
bytes_at bytes span = slice_range bytes span.start span.end

-- The packets of these spans.
abbrev pub packets_at : List ℕ → List Span → List (List ℕ)
packets_at bytes spans = map (bytes_at bytes) spans

-- Where bytes lie that follow others.
abbrev pub span_of : (before more : List ℕ) → Span
span_of before more = record { start = length before; end = length before + length more }

-- Each span lies within this many bytes.
abbrev pub AreWithin : ℕ → List Span → Type 0
AreWithin n spans = AllByRecursion (λ span. (span.start ≤ span.end) × (span.end ≤ n)) spans

-- How many bytes packets have together.
abbrev pub total_len : List (List ℕ) → ℕ
total_len packets = sum_by length packets
