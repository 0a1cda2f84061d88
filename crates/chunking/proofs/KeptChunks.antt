-- A collector answers each chunk as collecting does, and still stands for the chunks that it accepted.
use Rattle.std.proofs.Common.{◌≡◌, ◌∙◌, ℕ, Bool, true, false, List, [], ◌∷◌, ◌++◌, refl, sym, subst, nat_eq, length}
use Rattle.std.specs.Prelude.{Option, Some, None, if◌then◌else◌}
use Rattle.spdm_grammar.specs.Message.{ChunkMessage}
use Rattle.spdm_grammar.specs.declared.ChunkFault.{ChunkFault}
use Rattle.chunking.specs.declared.unfinished.Unfinished.{Unfinished}
use Rattle.chunking.specs.Collecting.{under_way, joined, told_by, told_size, first_rule, later_rule, answer_from, collected, accepted_unless, accepted_with}
use Rattle.chunking.specs.Collecting.Collection.{Whole, More, Refused}
use Rattle.spdm_grammar.specs.declared.ChunkFault.TheVariants.{WrongNumber}
use Rattle.chunking.specs.Keeping.{Kept, StandsFor, StandsForMessage, unfinished_after, answer_later, answer_to, grown_unless, next_rule, after_first, after_later, after_chunk}

module _ (k : Kept) (c : ChunkMessage) where
  later_answers : (u : Option Unfinished) (bytes : List ℕ) (before : List ChunkMessage) → StandsForMessage u bytes before →
      answer_later u (record { max = k.max; unfinished = u; bytes = bytes }) c ≡ answer_from (later_rule before c) c (joined before ++ c.chunk)
  later_answers None bytes before h =
      let P : List ChunkMessage → Type 0 = λ b. Refused WrongNumber ≡ answer_from (later_rule b c) c (joined b ++ c.chunk) in
      subst P (sym h) refl
  later_answers (Some u) bytes [] h = absurd h
  later_answers (Some u) bytes (d ∷ earlier) h = rw (h.0, h.1) refl

  either_answers : (zero : Bool) (before : List ChunkMessage) → StandsForMessage k.unfinished k.bytes before →
      (if zero then answer_from (first_rule k.max c) c c.chunk else answer_later k.unfinished k c)
      ≡ answer_from (if zero then first_rule k.max c else later_rule before c) c (if zero then c.chunk else joined before ++ c.chunk)
  either_answers true before h = refl
  either_answers false before h = later_answers k.unfinished k.bytes before h

  pub answers : (accepted : List ChunkMessage) → StandsFor k accepted → answer_to k c ≡ collected k.max accepted c
  answers accepted h = either_answers (nat_eq c.number 0) (under_way accepted) h

not_refused : (last : Bool) (message : List ℕ) (fault : ChunkFault) → (if last then Whole message else More) ≡ Refused fault → ⊥
not_refused true message fault e = cc
not_refused false message fault e = cc

unless_refused : (rule : Option ChunkFault) (k started : Kept) (c : ChunkMessage) (told : ℕ) (message : List ℕ) (fault : ChunkFault) →
    answer_from rule c message ≡ Refused fault → grown_unless rule k started c told ≡ k
unless_refused (Some rule) k started c told message fault e = refl
unless_refused None k started c told message fault e = absurd (not_refused c.last message fault e)

later_unless_refused : (u : Option Unfinished) (k : Kept) (c : ChunkMessage) (fault : ChunkFault) → answer_later u k c ≡ Refused fault → after_later u k c ≡ k
later_unless_refused None k c fault e = refl
later_unless_refused (Some u) k c fault e = unless_refused (next_rule u (length k.bytes) c) k k c u.told (k.bytes ++ c.chunk) fault e

either_unless_refused : (zero : Bool) (k : Kept) (c : ChunkMessage) (fault : ChunkFault) →
    (if zero then answer_from (first_rule k.max c) c c.chunk else answer_later k.unfinished k c) ≡ Refused fault →
    (if zero then after_first k c else after_later k.unfinished k c) ≡ k
either_unless_refused true k c fault e =
    unless_refused (first_rule k.max c) k (record { max = k.max; unfinished = None; bytes = [] }) c (told_by c) c.chunk fault e
either_unless_refused false k c fault e = later_unless_refused k.unfinished k c fault e

-- a refused chunk changes nothing
pub refused_keeps : (k : Kept) (c : ChunkMessage) (fault : ChunkFault) → answer_to k c ≡ Refused fault → after_chunk k c ≡ k
refused_keeps k c fault e = either_unless_refused (nat_eq c.number 0) k c fault e

grown_max : (rule : Option ChunkFault) (old started : Kept) (c : ChunkMessage) (told : ℕ) → started.max ≡ old.max → (grown_unless rule old started c told).max ≡ old.max
grown_max None old started c told e = e
grown_max (Some fault) old started c told e = refl

later_max : (u : Option Unfinished) (k : Kept) (c : ChunkMessage) → (after_later u k c).max ≡ k.max
later_max None k c = refl
later_max (Some u) k c = grown_max (next_rule u _ c) k k c u.told refl

either_max : (zero : Bool) (k : Kept) (c : ChunkMessage) → (if zero then after_first k c else after_later k.unfinished k c).max ≡ k.max
either_max true k c = grown_max (first_rule k.max c) k (record { max = k.max; unfinished = None; bytes = [] }) c (told_by c) refl
either_max false k c = later_max k.unfinished k c

pub max_kept : (k : Kept) (c : ChunkMessage) → (after_chunk k c).max ≡ k.max
max_kept k c = either_max (nat_eq c.number 0) k c

module _ (accepted : List ChunkMessage) (c : ChunkMessage) where
  -- the chunks in progress after an accepted chunk, by its last mark
  abbrev with_this : Bool → List ChunkMessage
  with_this last = if last then [] else (if nat_eq c.number 0 then c ∷ [] else c ∷ under_way accepted)

  first_added : (last : Bool) → nat_eq c.number 0 ≡ true →
      StandsForMessage (if last then None else Some (unfinished_after c (told_by c))) ([] ++ c.chunk) (with_this last)
  first_added true zero = refl
  first_added false zero = rw zero (refl, refl)

  after_first_stands : (rule : Option ChunkFault) (k : Kept) → nat_eq c.number 0 ≡ true → StandsFor k accepted →
      StandsFor (grown_unless rule k (record { max = k.max; unfinished = None; bytes = [] }) c (told_by c)) (accepted_unless rule accepted c)
  after_first_stands (Some fault) k zero h = h
  after_first_stands None k zero h = first_added c.last zero

  module _ (d : ChunkMessage) (earlier : List ChunkMessage) (same : d ∷ earlier ≡ under_way accepted) where
    abbrev told : ℕ
    told = told_size (d ∷ earlier)

    later_added : (last : Bool) → nat_eq c.number 0 ≡ false →
        StandsForMessage (if last then None else Some (unfinished_after c told)) (joined (d ∷ earlier) ++ c.chunk) (with_this last)
    later_added true later = refl
    later_added false later = rw (later, ← same) (refl, refl)

    after_later_stands : (rule : Option ChunkFault) (max : ℕ) → nat_eq c.number 0 ≡ false →
        let k : Kept = record { max = max; unfinished = Some (unfinished_after d told); bytes = joined (d ∷ earlier) } in
        StandsFor (grown_unless rule k k c told) (accepted_unless rule accepted c)
    after_later_stands (Some fault) max later =
        let P : List ChunkMessage → Type 0 = λ before. StandsForMessage (Some (unfinished_after d told)) (joined (d ∷ earlier)) before in
        subst P same (refl, refl)
    after_later_stands None max later = later_added c.last later

  later_stands : (max : ℕ) (u : Option Unfinished) (bytes : List ℕ) (before : List ChunkMessage) → before ≡ under_way accepted → nat_eq c.number 0 ≡ false →
      StandsForMessage u bytes before →
      StandsFor (after_later u (record { max = max; unfinished = u; bytes = bytes }) c) (accepted_unless (later_rule before c) accepted c)
  later_stands max None bytes before same later h =
      let P : List ChunkMessage → Type 0 = λ b. under_way (accepted_unless (later_rule b c) accepted c) ≡ [] in
      subst P (sym h) (sym same ∙ h)
  later_stands max (Some u) bytes [] same later h = absurd h
  later_stands max (Some u) bytes (d ∷ earlier) same later h =
      rw (h.0, h.1) (after_later_stands d earlier same (later_rule (d ∷ earlier) c) max later)

  by_number : (zero : Bool) (k : Kept) → nat_eq c.number 0 ≡ zero → StandsFor k accepted →
      StandsFor (if zero then after_first k c else after_later k.unfinished k c) (accepted_unless (if zero then first_rule k.max c else later_rule (under_way accepted) c) accepted c)
  by_number true k e h = after_first_stands (first_rule k.max c) k e h
  by_number false k e h = later_stands k.max k.unfinished k.bytes (under_way accepted) refl e h

  pub stands : (k : Kept) → StandsFor k accepted → StandsFor (after_chunk k c) (accepted_with k.max accepted c)
  stands k h = by_number (nat_eq c.number 0) k refl h
