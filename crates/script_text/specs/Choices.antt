-- Words that choose: capabilities, algorithms and ends. This project's own.
use Rattle.std.specs.Prelude.{ℕ, List, [], ◌∷◌, ◌-◌, ◌==◌, ◌&&◌, ◌||◌, nat_le, not, codes, length, slice_index, bytes_eq, if◌then◌else◌, Bool, true, Option, Some, None}
use Rattle.std.specs.List.{list_any}
use Rattle.script_text.specs.HexWords.{is_none_word}
use Rattle.spdm_grammar.specs.declared.messages.choice.FlagSet.{FlagSet}
use Rattle.spdm_grammar.specs.declared.messages.choice.Pick.{Pick}
use Rattle.spdm_grammar.specs.declared.messages.choice.Pick.TheVariants.{Small, Large, Both}
use Rattle.spdm_grammar.specs.declared.messages.choice.Suites.{Suites}

-- A word is some of these letters, or none, in their order.
abbrev pub is_some_of : List ℕ → List ℕ → Bool
is_some_of [] word = length word == 0
is_some_of (letter ∷ letters) [] = true
is_some_of (letter ∷ letters) (c ∷ word) = if c == letter then is_some_of letters word else is_some_of letters (c ∷ word)

-- A word says capabilities: `-` for none, or at least one of m, h, k and c in this order: measurements, heartbeat, key update and chunks.
unfoldable pub is_flags : List ℕ → Bool
is_flags word = is_none_word word || (not (length word == 0) && is_some_of (codes "mhkc") word)

-- A word has this letter.
abbrev pub has_letter : ℕ → List ℕ → Bool
has_letter letter word = list_any (λ c. c == letter) word

-- The capabilities that a word says.
unfoldable pub flags_of : List ℕ → FlagSet
flags_of word = record { measure = has_letter 109 word; heartbeat = has_letter 104 word; key_update = has_letter 107 word; chunk = has_letter 99 word }

-- The choice that a word says: the two algorithms by their names, and `both`.
abbrev pub pick_in : List ℕ → List ℕ → List ℕ → Option Pick
pick_in small large word =
    if bytes_eq word small then Some Small
    else (if bytes_eq word large then Some Large
    else (if bytes_eq word (codes "both") then Some Both
    else None))

-- The hashes and the AEADs that a word says.
unfoldable pub hash_in : List ℕ → Option Pick
hash_in word = pick_in (codes "256") (codes "384") word

unfoldable pub aead_in : List ℕ → Option Pick
aead_in word = pick_in (codes "128") (codes "256") word

-- The algorithms of an end without a line of its own: the smaller ones.
abbrev pub small_suites : Suites
small_suites = record { hash = Small; aead = Small }

-- The requester that a word names: `q1` to `q8`.
unfoldable pub requester_in : List ℕ → Option ℕ
requester_in word =
    if length word == 2 && slice_index word 0 == 113 && nat_le 49 (slice_index word 1) && nat_le (slice_index word 1) 56
    then Some (slice_index word 1 - 48) else None

-- The end that a word names: `r` is the responder, 0, and the others are the requesters by their numbers.
unfoldable pub end_in : List ℕ → Option ℕ
end_in word = if bytes_eq word (codes "r") then Some 0 else requester_in word
