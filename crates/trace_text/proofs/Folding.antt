-- Words after words.
use Rattle.std.proofs.Common.{◌≡◌, ℕ, ◌++◌, List}
use Rattle.std.proofs.lemmas.List.Sums.{fold-append}
use Rattle.trace_text.specs.Spelling.{with_word, with_words}

pub with_words_append : (text : List ℕ) (xs ys : List (List ℕ)) → with_words text (xs ++ ys) ≡ with_words (with_words text xs) ys
with_words_append text xs ys = fold-append with_word text xs ys
