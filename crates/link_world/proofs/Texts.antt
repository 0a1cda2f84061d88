-- Lines one after the other, and where a full link ends them.
use Rattle.std.proofs.Common.{refl, ◌≡◌, ◌∙◌, ◌≤◌, ◌+◌, ◌++◌, ◌∷◌, [], ℕ, List, Bool, true, false, cond, ap, sym, length, arith, append_assoc}
use Rattle.std.proofs.lemmas.Bool.{false≢true, le-ltb, lt-ltb}
use Rattle.std.specs.Prelude.{nat_lt, ◌||◌}
use Rattle.link_world.specs.Written.{before_full, has_full, is_beyond, text_of}
use Rattle.trace_text.specs.Spelling.{hex_word, id_word}
use Rattle.trace_text.specs.TraceLines.{line_text}
use Rattle.spdm_basis.specs.SessionIdBytes.{session_id_bytes}
use Rattle.spdm_basis.specs.declared.values.session_id.SessionId.{SessionId}
use Rattle.spdm_grammar.specs.Lines.{Line}
use Rattle.world_machine.specs.Trace.{packets_max}
use Rattle.world_machine.specs.World.{packet_lines}

pub text_append : (xs ys : List Line) → text_of (xs ++ ys) ≡ text_of xs ++ text_of ys
text_append [] ys = refl
text_append (x ∷ xs) ys = ap (λ (t : List ℕ). line_text x ++ t) (text_append xs ys) ∙ sym (append_assoc (line_text x) (text_of xs) (text_of ys))

-- ---- Lines behind lines among which none is beyond.

not_beyond : (x : Line) (xs : List Line) (b : Bool) → is_beyond x ≡ b → (b || has_full xs) ≡ false → (b ≡ false) × (has_full xs ≡ false)
not_beyond x xs true e is = absurd (false≢true (sym is))
not_beyond x xs false e is = (refl, is)

pub has_behind : (xs ys : List Line) → has_full xs ≡ false → has_full (xs ++ ys) ≡ has_full ys
has_behind [] ys none = refl
has_behind (x ∷ xs) ys none =
    let n = not_beyond x xs (is_beyond x) refl none in
    ap (λ (b : Bool). b || has_full (xs ++ ys)) n.0 ∙ has_behind xs ys n.1

pub before_behind : (xs ys : List Line) → has_full xs ≡ false → before_full (xs ++ ys) ≡ xs ++ before_full ys
before_behind [] ys none = refl
before_behind (x ∷ xs) ys none =
    let n = not_beyond x xs (is_beyond x) refl none in
    ap (λ (b : Bool). cond b [] (x ∷ before_full (xs ++ ys))) n.0 ∙ ap (λ (l : List Line). x ∷ l) (before_behind xs ys n.1)

-- ---- Lines behind lines among which one is beyond.

pub has_still : (xs ys : List Line) → has_full xs ≡ true → has_full (xs ++ ys) ≡ true
has_still [] ys one = absurd (false≢true one)
has_still (x ∷ xs) ys one = go (has_still xs ys) (is_beyond x) one
  where
    go : (has_full xs ≡ true → has_full (xs ++ ys) ≡ true) → (b : Bool) → (b || has_full xs) ≡ true → (b || has_full (xs ++ ys)) ≡ true
    go still true is = refl
    go still false is = still is

pub before_still : (xs ys : List Line) → has_full xs ≡ true → before_full (xs ++ ys) ≡ before_full xs
before_still [] ys one = absurd (false≢true one)
before_still (x ∷ xs) ys one = go (before_still xs ys) (is_beyond x) one
  where
    go : (has_full xs ≡ true → before_full (xs ++ ys) ≡ before_full xs) → (b : Bool) → (b || has_full xs) ≡ true → cond b [] (x ∷ before_full (xs ++ ys)) ≡ cond b [] (x ∷ before_full xs)
    go still true is = refl
    go still false is = ap (λ (l : List Line). x ∷ l) (still is)

-- ---- All of them.

pub before_all : (xs : List Line) → has_full xs ≡ false → before_full xs ≡ xs
before_all [] none = refl
before_all (x ∷ xs) none =
    let n = not_beyond x xs (is_beyond x) refl none in
    ap (λ (b : Bool). cond b [] (x ∷ before_full xs)) n.0 ∙ ap (λ (l : List Line). x ∷ l) (before_all xs n.1)

-- The lines in front are a beginning.
pub before_begins : (xs : List Line) → (rest : List Line) × (xs ≡ before_full xs ++ rest)
before_begins [] = ([], refl)
before_begins (x ∷ xs) = go (before_begins xs) (is_beyond x)
  where
    go : ((rest : List Line) × (xs ≡ before_full xs ++ rest)) → (b : Bool) → (rest : List Line) × (x ∷ xs ≡ cond b [] (x ∷ before_full xs) ++ rest)
    go r true = (x ∷ xs, refl)
    go r false = (r.0, ap (λ (l : List Line). x ∷ l) r.1)

-- ---- Lines of packets.

pub none_full : (n : ℕ) (packets : List (List ℕ)) → n + length packets ≤ packets_max → has_full (packet_lines n packets) ≡ false
none_full n [] within = refl
none_full n (p ∷ packets) within =
    let fits : nat_lt packets_max (n + 1) ≡ false = le-ltb packets_max (n + 1) (omega (arith, within)) in
    ap (λ (b : Bool). b || has_full (packet_lines (n + 1) packets)) fits ∙ none_full (n + 1) packets (omega (arith, within))

-- A link that has no room for one more.
pub first_is_beyond : (n : ℕ) (p : List ℕ) → packets_max ≤ n → nat_lt packets_max (n + 1) ≡ true
first_is_beyond n p full = lt-ltb packets_max (n + 1) (omega (arith, full))

pub first_fits : (n : ℕ) → n + 1 ≤ packets_max → nat_lt packets_max (n + 1) ≡ false
first_fits n room = le-ltb packets_max (n + 1) room

-- An id is encoded as its bytes.
pub id_is : (id : SessionId) → hex_word (session_id_bytes id.req id.rsp) ≡ id_word id
unfolding hex_word
id_is id = refl
