-- The CHUNK_GETs after the request of a large response give its chunks from the first one on.
use Rattle.std.proofs.Common.{◌≡◌, ◌+◌, ◌++◌, ◌&&◌, ◌||◌, ℕ, List, [], ◌∷◌, refl, sym, subst, Bool, true, false, is_some}
use Rattle.std.specs.Prelude.{MatchBool, not}
use Rattle.std.proofs.lemmas.Bool.{false≢true}
use Rattle.check_fetched_laws.specs.ClearSessions.{AreGets, is_clear_get}
use Rattle.check_fetched_ends.specs.GetsHeld.{AreGiven, GiveChunks, GivesChunk}
use Rattle.responder_machine.specs.History.{Entry, History}
use Rattle.responder_machine.specs.History.Entry.{Clear}
use Rattle.responder_machine.specs.Turn.{Turn, handle_in, takes}
use Rattle.spdm_grammar.specs.declared.names.request_code.TheConstants.{CHUNK_GET}
use Rattle.capture_machine.specs.LargeAnswers.{is_unseen_effect}
use Rattle.capture_machine.specs.Rounds.{no_draw}

not_get : (b unseen large : Bool) → unseen ≡ true → (b && not (unseen || large)) ≡ false
not_get true true large is = refl
not_get false unseen large is = refl
not_get true false large is = absurd (false≢true is)

no_chunk : (b : Bool) (A : Type 0) (n : ℕ) → b ≡ false → n ≡ 0 → MatchBool b A (n ≡ 0)
no_chunk false A n is none = none
no_chunk true A n is none = absurd (false≢true (sym is))

-- The request of one whose answer was not seen gives none.
pub none_given : (transfer handle : ℕ) (whole : List ℕ) (l : History) (tag : ℕ) (t : Turn) (h : History) (n : ℕ) → l ≡ Clear tag t no_draw ∷ h → is_unseen_effect t.effect ≡ true → n ≡ 0 → GiveChunks transfer handle whole l n
none_given transfer handle whole l tag t h n is unseen none =
    subst (λ (x : History). GiveChunks transfer handle whole x n) (sym is)
    (no_chunk (is_clear_get (Clear tag t no_draw)) ((before : ℕ) × (id : ℕ) × (n ≡ before + 1) × GivesChunk transfer handle whole before id (Clear tag t no_draw) × GiveChunks transfer handle whole h before) n
    (not_get (takes CHUNK_GET t) (is_unseen_effect t.effect) (is_some (handle_in t.effect)) unseen) none)

none_left : (b : Bool) (A : Type 0) (n : ℕ) → b ≡ false → MatchBool b A (n ≡ 0) → n ≡ 0
none_left false A n is none = none
none_left true A n is given = absurd (false≢true (sym is))

one_more : (b : Bool) (A : Type 0) (n : ℕ) → b ≡ true → MatchBool b A (n ≡ 0) → A
one_more true A n is given = given
one_more false A n is none = absurd (false≢true is)

-- Those that follow it give all.
pub gets_given : (transfer handle : ℕ) (whole : List ℕ) (gets : List Entry) (tag : ℕ) (t : Turn) (h : History) (n : ℕ) → AreGets gets → is_unseen_effect t.effect ≡ true → GiveChunks transfer handle whole (gets ++ Clear tag t no_draw ∷ h) n
    → AreGiven transfer handle whole gets n
gets_given transfer handle whole [] tag t h n are unseen given =
    none_left (is_clear_get (Clear tag t no_draw)) ((before : ℕ) × (id : ℕ) × (n ≡ before + 1) × GivesChunk transfer handle whole before id (Clear tag t no_draw) × GiveChunks transfer handle whole h before) n
    (not_get (takes CHUNK_GET t) (is_unseen_effect t.effect) (is_some (handle_in t.effect)) unseen) given
gets_given transfer handle whole (e ∷ es) tag t h n are unseen given =
    let it = one_more (is_clear_get e) ((before : ℕ) × (id : ℕ) × (n ≡ before + 1) × GivesChunk transfer handle whole before id e × GiveChunks transfer handle whole (es ++ Clear tag t no_draw ∷ h) before) n are.0 given in
    (it.0, it.1, it.2, it.3, gets_given transfer handle whole es tag t h it.0 are.1 unseen it.4)
