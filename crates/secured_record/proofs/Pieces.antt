-- An encrypted text whose first three blocks are decrypted apart.
use Rattle.std.proofs.Common.{◌≡◌, ℕ, ◌+◌, ◌-◌, ◌≤◌, List, ◌++◌, length, take, drop, ap, sym, ◌∙◌, arith, length-append, length-drop}
use Rattle.std.specs.Prelude.{min}
use Rattle.std.specs.List.{refill}
use Rattle.std.proofs.Math.Seq.{take-add, take-append-add}
use Rattle.std.proofs.lemmas.List.{take-append-drop, length-take, length-take-le, drop-take, drop-append-le}
use Rattle.aes_gcm.specs.Gcm.{crypt}
use Rattle.aes_gcm.specs.Behind.{crypt_behind}
use Rattle.aes_gcm.proofs.Twice.{length-crypt}
use Rattle.aes_gcm.proofs.Pieces.{length-crypt_behind, crypt_behind-take, crypt-append, crypt-first, refill-all}
use Rattle.secured_record.proofs.Written.{take_header, drop_header}

pub length-first : (key iv text first : List ℕ) → first ≡ take 48 (crypt key iv text) → length first ≡ min 48 (length text)
length-first key iv text first e = ap length e ∙ length-take 48 (crypt key iv text) ∙ ap (λ (n : ℕ). min 48 n) (length-crypt key iv text)

-- what is left of the first three blocks, and a rest decrypted after it
pub rest_decrypted : (key iv first rest b lent left : List ℕ) → length first ≡ 48 → b ≡ drop 2 first ++ rest → lent ≡ b
    → left ≡ take 46 lent ++ crypt_behind 3 key iv (drop 46 lent) → refill (length b) b left ≡ drop 2 first ++ crypt_behind 3 key iv rest
rest_decrypted key iv first rest b lent left long e same f =
    let h = drop 2 first in
    let h_long : length h ≡ 46 = omega (arith, length-drop 2 first) in
    let front : take 46 lent ≡ h = ap (take 46) (same ∙ e) ∙ take_header 46 h rest h_long in
    let back : drop 46 lent ≡ rest = ap (drop 46) (same ∙ e) ∙ drop_header 46 h rest h_long in
    let left_is : left ≡ h ++ crypt_behind 3 key iv rest = f ∙ ap (λ (x : List ℕ). x ++ crypt_behind 3 key iv (drop 46 lent)) front ∙ ap (λ (x : List ℕ). h ++ crypt_behind 3 key iv x) back in
    let size : length b ≡ length left = omega (arith, ap length e, ap length left_is, length-append h rest, length-append h (crypt_behind 3 key iv rest), length-crypt_behind 3 key iv rest) in
    refill-all (length b) b left size ∙ left_is

-- an inner message in the first three blocks
pub short_inner : (o first : List ℕ) (size : ℕ) → first ≡ take 48 o → size ≤ 46 → size + 2 ≤ length o → take size (drop 2 first) ≡ take size (drop 2 o)
short_inner o first size e small within =
    let x = drop 2 o in
    let more = take (46 - size) (drop size x) in
    let count : 46 ≡ size + (46 - size) = omega arith in
    let long : length (take size x) ≡ size = length-take-le size x (omega (arith, length-drop 2 o)) in
    ap (λ (y : List ℕ). take size (drop 2 y)) e
    ∙ ap (take size) (drop-take 2 46 o ∙ ap (λ (n : ℕ). take n x) count ∙ take-add size (46 - size) x)
    ∙ take_header size (take size x) more long

-- an inner message that goes on after the first three blocks
pub long_inner : (key iv text first : List ℕ) (size : ℕ) → first ≡ take 48 (crypt key iv text) → 46 ≤ size → size + 2 ≤ length text
    → drop 2 first ++ crypt_behind 3 key iv (take (size - 46) (drop 48 text)) ≡ take size (drop 2 (crypt key iv text))
long_inner key iv text first size e large within =
    let o = crypt key iv text in
    let t = drop 48 text in
    let r = crypt_behind 3 key iv t in
    let f = take 48 o in
    let g = drop 2 f in
    let f_long : length f ≡ 48 = length-take-le 48 o (omega (arith, length-crypt key iv text)) in
    let g_long : length g ≡ 46 = omega (arith, length-drop 2 f) in
    let whole : o ≡ f ++ r =
    ap (crypt key iv) (sym (take-append-drop 48 text))
    ∙ crypt-append 3 key iv (take 48 text) t (length-take-le 48 text (omega arith))
    ∙ ap (λ (x : List ℕ). x ++ r) (crypt-first 48 key iv text) in
    let count : size ≡ length g + (size - 46) = omega arith in
    sym (
    ap (λ (x : List ℕ). take size (drop 2 x)) whole
    ∙ ap (take size) (drop-append-le 2 f r (omega arith))
    ∙ ap (λ (n : ℕ). take n (g ++ r)) count
    ∙ take-append-add g r (size - 46)
    ∙ ap (λ (x : List ℕ). g ++ x) (sym (crypt_behind-take 3 key iv t (size - 46) (omega (arith, length-drop 48 text))))
    ∙ ap (λ (x : List ℕ). drop 2 x ++ crypt_behind 3 key iv (take (size - 46) t)) (sym e)
    )
