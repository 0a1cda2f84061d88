-- What is written, encrypted after its header and followed by the tag is a record.
use Rattle.std.proofs.Common.{◌≡◌, ℕ, ◌+◌, ◌<◌, ◌≤◌, List, ◌++◌, length, take, drop, ap, sym, ◌∙◌, arith, length-append}
use Rattle.std.specs.Prelude.{Result, Ok, Err, OnOk, OnErr}
use Rattle.std.specs.List.{refill}
use Rattle.std.proofs.Math.Seq.{take-append_seam, drop-append_seam}
use Rattle.aes_gcm.specs.Gcm.{crypt, tag_of}
use Rattle.aes_gcm.proofs.Tags.{length-tag_of}
use Rattle.aes_gcm.proofs.Twice.{length-crypt}
use Rattle.aes_gcm.proofs.Pieces.{refill-all}
use Rattle.byteorder.specs.Endian.{little_bytes}
use Rattle.secured_record.specs.Format.{header, nonce, plain_text, sealed_text}

pub take_header : (k : ℕ) (h t : List ℕ) → length h ≡ k → take k (h ++ t) ≡ h
take_header k h t e = ap (λ n. take n (h ++ t)) (sym e) ∙ take-append_seam h t

pub drop_header : (k : ℕ) (h t : List ℕ) → length h ≡ k → drop k (h ++ t) ≡ t
drop_header k h t e = ap (λ n. drop n (h ++ t)) (sym e) ∙ drop-append_seam h t

length-header : (id : List ℕ) (number count : ℕ) → length id ≡ 4 → length (header id number count) ≡ 8
length-header id number count four =
    omega (arith, length-append (id ++ little_bytes 2 number) (little_bytes 2 count), length-append id (little_bytes 2 number))

-- A header and a text after it, encrypted in place, and their tag.
behind_header : (key n h t b lent left tag : List ℕ) → length h ≡ 8 → b ≡ h ++ t → lent ≡ b
    → left ≡ take 8 lent ++ crypt key n (drop 8 lent) → tag ≡ tag_of key n (take 8 lent) (crypt key n (drop 8 lent))
    → refill (length b) b left ++ tag ≡ h ++ crypt key n t ++ tag_of key n h (crypt key n t)
behind_header key n h t b lent left tag long e same f g =
    let first : take 8 lent ≡ h = ap (take 8) (same ∙ e) ∙ take_header 8 h t long in
    let rest : drop 8 lent ≡ t = ap (drop 8) (same ∙ e) ∙ drop_header 8 h t long in
    let left_is : left ≡ h ++ crypt key n t = f ∙ ap (λ (x : List ℕ). x ++ crypt key n (drop 8 lent)) first ∙ ap (λ (x : List ℕ). h ++ crypt key n x) rest in
    let tag_is : tag ≡ tag_of key n h (crypt key n t) = g ∙ ap (λ (x : List ℕ). tag_of key n x (crypt key n (drop 8 lent))) first ∙ ap (λ (x : List ℕ). tag_of key n h (crypt key n x)) rest in
    let size : length b ≡ length left = omega (arith, ap length e, ap length left_is, length-append h t, length-append h (crypt key n t), length-crypt key n t) in
    ap (λ (x : List ℕ). x ++ tag) (refill-all (length b) b left size ∙ left_is)
    ∙ ap (λ (x : List ℕ). h ++ crypt key n t ++ x) tag_is

pub sealed_is : (key iv id : List ℕ) (number : ℕ) (inner pad h n b lent left tag : List ℕ) → length id ≡ 4
    → h ≡ header id number (length inner + length pad + 18) → n ≡ nonce iv number → b ≡ h ++ plain_text inner pad → lent ≡ b
    → left ≡ take 8 lent ++ crypt key n (drop 8 lent) → tag ≡ tag_of key n (take 8 lent) (crypt key n (drop 8 lent))
    → refill (length b) b left ++ tag ≡ sealed_text key iv id number (plain_text inner pad)
sealed_is key iv id number inner pad h n b lent left tag four e m f same g d =
    let t = plain_text inner pad in
    let count : length inner + length pad + 18 ≡ length t + 16 = omega (arith, length-append inner pad) in
    let h_is : h ≡ header id number (length t + 16) = e ∙ ap (header id number) count in
    let long : length h ≡ 8 = omega (arith, ap length h_is, length-header id number (length t + 16) four) in
    behind_header key n h t b lent left tag long f same g d
    ∙ ap (λ (x : List ℕ). x ++ crypt key n t ++ tag_of key n x (crypt key n t)) h_is
    ∙ ap (λ (x : List ℕ). header id number (length t + 16) ++ crypt key x t ++ tag_of key x (header id number (length t + 16)) (crypt key x t)) m

-- Bytes that fit are added.
pub extended : {U E : Type 0} (r : Result U E) (new old : List ℕ) (limit size : ℕ) → OnOk r (new ≡ old) → OnErr r (limit < size) → size ≤ limit → new ≡ old
extended (Ok u) new old limit size h f fits = h
extended (Err e) new old limit size h f fits = absurd (omega arith)

pub length-sealed_text : (key iv id : List ℕ) (number : ℕ) (text : List ℕ) → length id ≡ 4 → length (sealed_text key iv id number text) ≡ length text + 24
length-sealed_text key iv id number text four =
    let n = nonce iv number in
    let h = header id number (length text + 16) in
    let c = crypt key n text in
    omega (arith, length-append (h ++ c) (tag_of key n h c), length-append h c, length-header id number (length text + 16) four, length-crypt key n text, length-tag_of key n h c)
