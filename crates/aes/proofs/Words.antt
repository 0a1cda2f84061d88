-- One more word of the expansion of a key.
use Rattle.std.proofs.Common.{◌≡◌, ℕ, ◌+◌, List, ◌++◌, refl, add-one}
use Rattle.aes.specs.Cipher.{expanded, next_word, word_count}

pub expanded-more : (key bytes word : List ℕ) (n : ℕ) → bytes ≡ expanded key n → word ≡ next_word bytes (word_count key) (word_count key + n) →
    bytes ++ word ≡ expanded key (n + 1)
unfolding expanded
expanded-more key bytes word n e f = rw (add-one, f, e) refl
