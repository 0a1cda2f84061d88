-- One more message.
use Rattle.std.proofs.Common.{◌≡◌, ℕ, ◌+◌, List, ap, sym, ◌∙◌, add-one}
use Rattle.aes_gcm.specs.Gcm.{crypt, tag_of}
use Rattle.spdm_bench.specs.Repeat.{zero_key, iv_of, aad, sealed, last_tag}

pub sealed-more : (text key iv now : List ℕ) (n : ℕ) → key ≡ zero_key → iv ≡ iv_of n → now ≡ sealed text n → crypt key iv now ≡ sealed text (n + 1)
unfolding sealed
sealed-more text key iv now n e f g =
    ap (λ (k : List ℕ). crypt k iv now) e
    ∙ ap (λ (v : List ℕ). crypt zero_key v now) f
    ∙ ap (λ (t : List ℕ). crypt zero_key (iv_of n) t) g
    ∙ ap (sealed text) (sym (add-one n))

pub last_tag-more : (text key iv now : List ℕ) (n : ℕ) → key ≡ zero_key → iv ≡ iv_of n → now ≡ sealed text (n + 1) → tag_of key iv aad now ≡ last_tag text (n + 1)
unfolding last_tag
last_tag-more text key iv now n e f g =
    ap (λ (k : List ℕ). tag_of k iv aad now) e
    ∙ ap (λ (v : List ℕ). tag_of zero_key v aad now) f
    ∙ ap (λ (t : List ℕ). tag_of zero_key (iv_of n) aad t) (g ∙ ap (sealed text) (add-one n))
    ∙ ap (last_tag text) (sym (add-one n))
