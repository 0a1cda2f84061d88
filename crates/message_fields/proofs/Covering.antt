-- The fields of what bytes encode take as many bytes as there are.
use Rattle.std.proofs.Common.{◌≡◌, ℕ, ◌+◌, Bool, true, false, cond, eqb, ◌%◌, List, [], ◌++◌, length, Option, Some, None, ap, arith, length-append}
use Rattle.spdm_grammar.specs.declared.messages.capabilities.Caps.{Caps}
use Rattle.spdm_grammar.specs.Fields.{caps_layout, chunk_layout}
use Rattle.spdm_grammar.specs.Layout.{Layout, IsSpelling}
use Rattle.spdm_grammar.specs.Layout.Layout.{Whole, Sized, Number, Optional, Bytes, Tables, UpTo, Remaining}
use Rattle.spdm_grammar.specs.Message.{ChunkMessage}
use Rattle.message_fields.specs.Tables.{large_size}

-- What a size is of each value of a layout, at its end.
abbrev pub Ends : {A : Type 0} → (A → ℕ) → Layout A → ℕ → Type 0
Ends size (Whole value) at = size value ≡ at
Ends size (Sized told told_at value) at = size value ≡ at
Ends size (Number width is_allowed next) at = (n : ℕ) → Ends size (next n) (at + width)
Ends size (Optional false width next) at = Ends size (next None) at
Ends size (Optional true width next) at = (n : ℕ) → Ends size (next (Some n)) (at + width)
Ends size (Bytes width next) at = (field : List ℕ) → length field ≡ width → Ends size (next field) (at + width)
Ends size (Tables count next) at = (field : List ℕ) → Ends size (next field) (at + length field)
Ends size (UpTo most value) at = (field : List ℕ) → size (value field) ≡ at + length field
Ends size (Remaining value) at = (field : List ℕ) → size (value field) ≡ at + length field

-- two parts are as long as both
parts_long : (bytes field others : List ℕ) → bytes ≡ field ++ others → length bytes ≡ length field + length others
parts_long bytes field others e = let l = ap (λ (x : List ℕ). length x) e in omega (arith, l, length-append field others)

empty_long : (bytes : List ℕ) → bytes ≡ [] → length bytes ≡ 0
empty_long bytes e = ap (λ (x : List ℕ). length x) e

pub size_at_end : {A : Type 0} (size : A → ℕ) (l : Layout A) (at : ℕ) (v : A) (bytes : List ℕ) → Ends size l at → IsSpelling l at v bytes → size v ≡ at + length bytes
size_at_end size (Whole value) at v bytes all s = let e = ap size s.0 in omega (arith, all, e, empty_long bytes s.1)
size_at_end size (Sized told told_at value) at v bytes all s = let e = ap size s.0 in omega (arith, all, e, empty_long bytes s.1)
size_at_end size (Number width is_allowed next) at v bytes all s =
    let below = size_at_end size (next _) (at + width) v s.1 (all _) s.5 in
    omega (arith, below, parts_long bytes s.0 s.1 s.2, s.3)
size_at_end size (Optional false width next) at v bytes all s = size_at_end size (next None) at v bytes all s
size_at_end size (Optional true width next) at v bytes all s =
    let below = size_at_end size (next (Some _)) (at + width) v s.1 (all _) s.4 in
    omega (arith, below, parts_long bytes s.0 s.1 s.2, s.3)
size_at_end size (Bytes width next) at v bytes all s =
    let below = size_at_end size (next s.0) (at + width) v s.1 (all s.0 s.3) s.4 in
    omega (arith, below, parts_long bytes s.0 s.1 s.2, s.3)
size_at_end size (Tables count next) at v bytes all s =
    let below = size_at_end size (next s.0) (at + length s.0) v s.1 (all s.0) s.4 in
    omega (arith, below, parts_long bytes s.0 s.1 s.2)
size_at_end size (UpTo most value) at v bytes all s = let e = ap size s.0 in omega (arith, all bytes, e)
size_at_end size (Remaining value) at v bytes all s = let e = ap size s in omega (arith, all bytes, e)

pub record HasEnds {A : Type 0} (size : A → ℕ) (l : Layout A) (at : ℕ) : Type 0 where
  pub are : Ends size l at

pub either_ends : {A : Type 0} {size : A → ℕ} {at : ℕ} (b : Bool) {l m : Layout A} → HasEnds size l at → HasEnds size m at → HasEnds size (cond b l m) at
either_ends true x y = x
either_ends false x y = y

optional_ends : {A : Type 0} (size : A → ℕ) (b : Bool) (at : ℕ) (next : Option ℕ → Layout A) → Ends size (next None) at → ((n : ℕ) → Ends size (next (Some n)) (at + 4)) → Ends size (Optional b 4 next) at
optional_ends size true at next x y = y
optional_ends size false at next x y = x

-- capabilities have 18 bytes behind their code, and a chunk 10 and its own
pub caps_ends : {A : Type 0} (size : A → ℕ) (value : Caps → A) → ((caps : Caps) → size (value caps) ≡ 20) → Ends size (caps_layout value) 2
caps_ends size value all = λ _ _ ct _ _ flags transfer max. all (record { ct = ct; flags = flags; transfer = transfer; max = max })

pub chunk_ends : {A : Type 0} (size : A → ℕ) (value : ChunkMessage → A) → ((chunk : ChunkMessage) → size (value chunk) ≡ 12 + (large_size chunk.large + length chunk.chunk)) → Ends size (chunk_layout value) 2
chunk_ends size value all =
    λ attributes handle number _ _ count. optional_ends size (eqb number 0) 12 (λ large. Bytes count (λ chunk. Whole (value (record { last = eqb (attributes % 2) 1; handle = handle; number = number; large = large; chunk = chunk }))))
    (λ chunk long. let e = all (record { last = eqb (attributes % 2) 1; handle = handle; number = number; large = None; chunk = chunk }) in omega (arith, e, long))
    (λ n chunk long. let e = all (record { last = eqb (attributes % 2) 1; handle = handle; number = number; large = Some n; chunk = chunk }) in omega (arith, e, long))
