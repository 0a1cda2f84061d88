-- The line that tells what became of a session. This project's own.
use Rattle.std.specs.Prelude.{ℕ, List, [], ◌∷◌, codes}
use Rattle.responder.specs.declared.changes.SessionChange.{SessionChange}
use Rattle.responder.specs.declared.changes.SessionChange.TheVariants.{Began, Established, Gone, Replaced}
use Rattle.trace_text.specs.Spelling.{id_word, requester_word, with_words}

-- Its words behind the requester. Where another session took its place, that one's id is the last.
abbrev pub change_words : SessionChange → List (List ℕ)
change_words (Began id) = id_word id ∷ codes "began" ∷ []
change_words (Established id) = id_word id ∷ codes "opened" ∷ []
change_words (Gone id) = id_word id ∷ codes "gone" ∷ []
change_words (Replaced gone by) = id_word gone ∷ codes "replaced" ∷ id_word by ∷ []

-- The line of a session with requester n, without a line feed.
abbrev pub change_text : (n : ℕ) → SessionChange → List ℕ
change_text n change = with_words (codes "session") (requester_word n ∷ change_words change)
