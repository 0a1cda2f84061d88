-- Two rounds on states that differ in the last byte.
use Rattle.std.proofs.Common.{◌≡◌, ℕ, ◌+◌, ◌*◌, ◌/◌, ◌%◌, ◌^◌, ◌<◌, List, refl, ap, sym, ◌∙◌, arith}
use lib.Bits.{bit_xor, xor_assoc, xor_comm, xor_self, xor_zero_r, xor_shr, xor_mod}
use Rattle.aes.specs.Cipher.{sub_bytes, shift_rows, mix_columns, add_round_key, rounds, round_key}
use Rattle.aes.specs.Tables.{first_row, second_row, third_row, fourth_row}
use Rattle.aes.specs.Words.{block_bytes, bytes_of}
use Rattle.aes.specs.Begun.{byte_at, column_of, columns_of, sum_of, mixed_of, round_of, share_of, state_of}
use Rattle.aes.specs.declared.columns.Columns.{Columns}
use Rattle.aes.specs.declared.begun.Begun.{Begun}
use Rattle.aes.proofs.ColumnSums.{mixed_is}
use Rattle.aes.proofs.StateBytes.{add-bytes, round-bytes, block-bytes}
use Rattle.aes.proofs.Schedules.{rounds-none, rounds-more}

pub columns_equal : (s t : Columns) → s.first ≡ t.first → s.second ≡ t.second → s.third ≡ t.third → s.fourth ≡ t.fourth → s ≡ t
columns_equal s t p q r u =
    let one : ℕ → Columns = λ x. record { first = x; second = s.second; third = s.third; fourth = s.fourth } in
    let two : ℕ → Columns = λ x. record { first = t.first; second = x; third = s.third; fourth = s.fourth } in
    let three : ℕ → Columns = λ x. record { first = t.first; second = t.second; third = x; fourth = s.fourth } in
    let four : ℕ → Columns = λ x. record { first = t.first; second = t.second; third = t.third; fourth = x } in
    ap one p ∙ ap two q ∙ ap three r ∙ ap four u

swapped : (a b c : ℕ) → bit_xor (bit_xor a b) c ≡ bit_xor (bit_xor a c) b
swapped a b c = xor_assoc a b c ∙ ap (bit_xor a) (xor_comm b c) ∙ sym (xor_assoc a c b)

twice : (a o : ℕ) → bit_xor (bit_xor a o) o ≡ a
twice a o = xor_assoc a o o ∙ ap (bit_xor a) (xor_self o) ∙ xor_zero_r a

-- n in place of o, from the last term of a sum to the first of five
in_fourth : (a n o k : ℕ) → bit_xor (bit_xor a n) k ≡ bit_xor (bit_xor (bit_xor (bit_xor a o) k) o) n
in_fourth a n o k = sym (ap (λ t. bit_xor t n) (swapped (bit_xor a o) k o ∙ ap (λ t. bit_xor t k) (twice a o)) ∙ swapped a k n)

in_third : (a n o d k : ℕ) → bit_xor (bit_xor (bit_xor a n) d) k ≡ bit_xor (bit_xor (bit_xor (bit_xor (bit_xor a o) d) k) o) n
in_third a n o d k =
    ap (λ t. bit_xor t k) (swapped a n d)
    ∙ in_fourth (bit_xor a d) n o k
    ∙ ap (λ t. bit_xor (bit_xor (bit_xor t k) o) n) (swapped a d o)

in_second : (a n o c d k : ℕ) → bit_xor (bit_xor (bit_xor (bit_xor a n) c) d) k ≡ bit_xor (bit_xor (bit_xor (bit_xor (bit_xor (bit_xor a o) c) d) k) o) n
in_second a n o c d k =
    ap (λ t. bit_xor (bit_xor t d) k) (swapped a n c)
    ∙ in_third (bit_xor a c) n o d k
    ∙ ap (λ t. bit_xor (bit_xor (bit_xor (bit_xor t d) k) o) n) (swapped a c o)

in_first : (n o b c d k : ℕ) → bit_xor (bit_xor (bit_xor (bit_xor n b) c) d) k ≡ bit_xor (bit_xor (bit_xor (bit_xor (bit_xor (bit_xor o b) c) d) k) o) n
in_first n o b c d k =
    ap (λ t. bit_xor (bit_xor (bit_xor t c) d) k) (xor_comm n b)
    ∙ in_second b n o c d k
    ∙ ap (λ t. bit_xor (bit_xor (bit_xor (bit_xor (bit_xor t c) d) k) o) n) (xor_comm b o)

-- another last byte changes the first column
last-changed : (s k : Columns) (f : ℕ) → f / 2 ^ 8 ≡ s.fourth / 2 ^ 8 →
    round_of (record s { fourth = f }) k ≡ record (round_of s k) { first = bit_xor (bit_xor (round_of s k).first (fourth_row (s.fourth % 2 ^ 8))) (fourth_row (f % 2 ^ 8)) }
last-changed s k f e =
    let at_8 : byte_at f 8 ≡ byte_at s.fourth 8 = omega (arith, e) in
    let at_16 : byte_at f 16 ≡ byte_at s.fourth 16 = omega (arith, e) in
    let at_24 : byte_at f 24 ≡ byte_at s.fourth 24 = omega (arith, e) in
    columns_equal (round_of (record s { fourth = f }) k)
    (record (round_of s k) { first = bit_xor (bit_xor (round_of s k).first (fourth_row (s.fourth % 2 ^ 8))) (fourth_row (f % 2 ^ 8)) })
    (in_fourth (bit_xor (bit_xor (first_row (byte_at s.first 24)) (second_row (byte_at s.second 16))) (third_row (byte_at s.third 8))) (fourth_row (f % 2 ^ 8)) (fourth_row (s.fourth % 2 ^ 8)) k.first)
    (ap (λ t. bit_xor (column_of (byte_at s.second 24) (byte_at s.third 16) t (s.first % 2 ^ 8)) k.second) at_8)
    (ap (λ t. bit_xor (column_of (byte_at s.third 24) t (byte_at s.first 8) (s.second % 2 ^ 8)) k.third) at_16)
    (ap (λ t. bit_xor (column_of t (byte_at s.first 16) (byte_at s.second 8) (s.third % 2 ^ 8)) k.fourth) at_24)

-- another first column changes its share of each
first-changed : (s k : Columns) (y : ℕ) → round_of (record s { first = y }) k ≡ sum_of (sum_of (round_of s k) (share_of s.first)) (share_of y)
first-changed s k y =
    columns_equal (round_of (record s { first = y }) k) (sum_of (sum_of (round_of s k) (share_of s.first)) (share_of y))
    (in_first (first_row (byte_at y 24)) (first_row (byte_at s.first 24)) (second_row (byte_at s.second 16)) (third_row (byte_at s.third 8)) (fourth_row (s.fourth % 2 ^ 8)) k.first)
    (in_fourth (bit_xor (bit_xor (first_row (byte_at s.second 24)) (second_row (byte_at s.third 16))) (third_row (byte_at s.fourth 8))) (fourth_row (y % 2 ^ 8)) (fourth_row (s.first % 2 ^ 8)) k.second)
    (in_third (bit_xor (first_row (byte_at s.third 24)) (second_row (byte_at s.fourth 16))) (third_row (byte_at y 8)) (third_row (byte_at s.first 8)) (fourth_row (s.second % 2 ^ 8)) k.third)
    (in_second (first_row (byte_at s.fourth 24)) (second_row (byte_at y 16)) (second_row (byte_at s.first 16)) (third_row (byte_at s.second 8)) (fourth_row (s.third % 2 ^ 8)) k.fourth)

-- what was begun gives the state after two rounds
pub state_is : (s k l : Columns) (f last : ℕ) (begun : Begun) → f / 2 ^ 8 ≡ s.fourth / 2 ^ 8 → f % 2 ^ 8 ≡ bit_xor last begun.key →
    begun.first ≡ bit_xor (round_of s k).first (fourth_row (s.fourth % 2 ^ 8)) →
    begun.rest ≡ sum_of (round_of (round_of s k) l) (share_of (round_of s k).first) →
    state_of begun last ≡ round_of (round_of (record s { fourth = f }) k) l
state_is s k l f last begun e g h i =
    let one = round_of s k in
    let y = bit_xor (bit_xor one.first (fourth_row (s.fourth % 2 ^ 8))) (fourth_row (f % 2 ^ 8)) in
    let same : bit_xor begun.first (fourth_row (bit_xor last begun.key)) ≡ y =
    ap (λ t. bit_xor t (fourth_row (bit_xor last begun.key))) h
    ∙ ap (λ t. bit_xor (bit_xor one.first (fourth_row (s.fourth % 2 ^ 8))) (fourth_row t)) (sym g) in
    ap (λ (t : Columns). sum_of t (share_of (bit_xor begun.first (fourth_row (bit_xor last begun.key))))) i
    ∙ ap (λ (t : ℕ). sum_of (sum_of (round_of one l) (share_of one.first)) (share_of t)) same
    ∙ sym (first-changed one l y)
    ∙ ap (λ (t : Columns). round_of t l) (sym (last-changed s k f e))

pub round-value : (m n o p a b c d : ℕ) (k : Columns) → m ≡ a → n ≡ b → o ≡ c → p ≡ d →
    sum_of (record { first = m; second = n; third = o; fourth = p }) k ≡ sum_of (record { first = a; second = b; third = c; fourth = d }) k
round-value m n o p a b c d k e f g h =
    ap (λ (t : Columns). sum_of t k) (columns_equal (record { first = m; second = n; third = o; fourth = p }) (record { first = a; second = b; third = c; fourth = d }) e f g h)

-- a round on a state as numbers is a round on its bytes
round_of-bytes : (s k : Columns) → bytes_of (round_of s k) ≡ add_round_key (mix_columns (shift_rows (sub_bytes (bytes_of s)))) (bytes_of k)
round_of-bytes s k =
    let m = mixed_of s in
    add-bytes m k
    ∙ ap (λ (t : List ℕ). add_round_key t (bytes_of k))
    (round-bytes s m.first m.second m.third m.fourth
    (mixed_is (byte_at s.first 24) (byte_at s.second 16) (byte_at s.third 8) (s.fourth % 2 ^ 8) (omega arith) (omega arith) (omega arith) (omega arith))
    (mixed_is (byte_at s.second 24) (byte_at s.third 16) (byte_at s.fourth 8) (s.first % 2 ^ 8) (omega arith) (omega arith) (omega arith) (omega arith))
    (mixed_is (byte_at s.third 24) (byte_at s.fourth 16) (byte_at s.first 8) (s.second % 2 ^ 8) (omega arith) (omega arith) (omega arith) (omega arith))
    (mixed_is (byte_at s.fourth 24) (byte_at s.first 16) (byte_at s.second 8) (s.third % 2 ^ 8) (omega arith) (omega arith) (omega arith) (omega arith)))

two_rounds : (w : List ℕ) (x : ℕ) (k l m : Columns) → bytes_of k ≡ round_key w 0 → bytes_of l ≡ round_key w 1 → bytes_of m ≡ round_key w 2 →
    bytes_of (round_of (round_of (sum_of (columns_of x) k) l) m) ≡ rounds w (block_bytes x) 2
two_rounds w x k l m e f g =
    let start = sum_of (columns_of x) k in
    round_of-bytes (round_of start l) m
    ∙ rounds-more w (block_bytes x) (bytes_of (round_of start l)) (bytes_of m) 1
    (round_of-bytes start l
    ∙ rounds-more w (block_bytes x) (bytes_of start) (bytes_of l) 0
    (add-bytes (columns_of x) k ∙ rounds-none w (block_bytes x) (bytes_of (columns_of x)) (bytes_of k) (block-bytes x) e)
    f)
    g

-- the state after two rounds of each block with the first 15 bytes of a block
pub begun_is : (w : List ℕ) (s k l m : Columns) (block : ℕ) (begun : Begun) →
    s ≡ sum_of (columns_of block) k →
    ((f last : ℕ) → f / 2 ^ 8 ≡ s.fourth / 2 ^ 8 → f % 2 ^ 8 ≡ bit_xor last (k.fourth % 2 ^ 8) → state_of begun last ≡ round_of (round_of (record s { fourth = f }) l) m) →
    bytes_of k ≡ round_key w 0 → bytes_of l ≡ round_key w 1 → bytes_of m ≡ round_key w 2 →
    (last : ℕ) → last < 2 ^ 8 → bytes_of (state_of begun last) ≡ rounds w (block_bytes (block / 2 ^ 8 * 2 ^ 8 + last)) 2
begun_is w s k l m block begun is h p q r last lt =
    let x = block / 2 ^ 8 * 2 ^ 8 + last in
    let f = bit_xor (x % 2 ^ 32) k.fourth in
    let at_96 : block / 2 ^ 96 ≡ x / 2 ^ 96 = omega arith in
    let at_64 : block / 2 ^ 64 % 2 ^ 32 ≡ x / 2 ^ 64 % 2 ^ 32 = omega arith in
    let at_32 : block / 2 ^ 32 % 2 ^ 32 ≡ x / 2 ^ 32 % 2 ^ 32 = omega arith in
    let upper : x % 2 ^ 32 / 2 ^ 8 ≡ block % 2 ^ 32 / 2 ^ 8 = omega arith in
    let lower : x % 2 ^ 32 % 2 ^ 8 ≡ last = omega arith in
    let same : record s { fourth = f } ≡ sum_of (columns_of x) k =
    columns_equal (record s { fourth = f }) (sum_of (columns_of x) k)
    (ap (λ (t : Columns). t.first) is ∙ ap (λ t. bit_xor t k.first) at_96)
    (ap (λ (t : Columns). t.second) is ∙ ap (λ t. bit_xor t k.second) at_64)
    (ap (λ (t : Columns). t.third) is ∙ ap (λ t. bit_xor t k.third) at_32)
    refl in
    let above : f / 2 ^ 8 ≡ s.fourth / 2 ^ 8 =
    xor_shr (x % 2 ^ 32) k.fourth 8
    ∙ ap (λ t. bit_xor t (k.fourth / 2 ^ 8)) upper
    ∙ sym (xor_shr (block % 2 ^ 32) k.fourth 8)
    ∙ ap (λ (t : Columns). t.fourth / 2 ^ 8) (sym is) in
    let below : f % 2 ^ 8 ≡ bit_xor last (k.fourth % 2 ^ 8) =
    xor_mod (x % 2 ^ 32) k.fourth 8 ∙ ap (λ t. bit_xor t (k.fourth % 2 ^ 8)) lower in
    ap bytes_of (h f last above below)
    ∙ ap (λ (t : Columns). bytes_of (round_of (round_of t l) m)) same
    ∙ two_rounds w x k l m p q r
