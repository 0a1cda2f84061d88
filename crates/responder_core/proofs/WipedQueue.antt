-- A queue that takes messages of zeros while there is room.
use Rattle.std.proofs.Common.{◌≡◌, ◌∙◌, ◌+◌, ◌∷◌, [], ℕ, List, Bool, Option, Some, None, Ok, Err, ap, sym, length}
use Rattle.std.proofs.lemmas.Bool.{lt-leb}
use Rattle.std.proofs.lemmas.List.{length-replicate, replicate_more}
use Rattle.std.proofs.lemmas.Option.{none-some}
use Rattle.std.specs.Prelude.{◌<◌, ◌++◌, Result, MatchResult, nat_le, nat_lt, replicate, if◌then◌else◌}
use Rattle.responder_session.specs.Queue.{queue_fault}
use Rattle.responder_session.specs.declared.queue.QueueFault.{QueueFault}
use Rattle.responder_session.specs.declared.queue.QueueFault.TheVariants.{TooLong, Full}

abbrev zeros : List ℕ
zeros = replicate 1024 0

has_room : (n : ℕ) → n < 16 → queue_fault (replicate n zeros) zeros ≡ None
has_room n small =
    ap (λ (k : ℕ). if nat_lt 1024 k then Some TooLong else (if nat_le 16 (length (replicate n zeros)) then Some Full else None)) (length-replicate {A = ℕ} 1024 0)
    ∙ ap (λ (k : ℕ). if nat_le 16 k then Some Full else None) (length-replicate n zeros)
    ∙ ap (λ (b : Bool). if b then Some Full else None) (lt-leb 16 n small)

pub pushed : (n : ℕ) → n < 16 → (old new : List (List ℕ)) (result : Result Unit QueueFault) → old ≡ replicate n (replicate 1024 0)
    → MatchResult result (λ u. queue_fault old (replicate 1024 0) ≡ None) (λ fault. queue_fault old (replicate 1024 0) ≡ Some fault)
    → MatchResult result (λ u. new ≡ old ++ replicate 1024 0 ∷ []) (λ fault. new ≡ old)
    → new ≡ replicate (n + 1) (replicate 1024 0)
pushed n small old new (Ok u) is fault ok = ok ∙ ap (λ (q : List (List ℕ)). q ++ zeros ∷ []) is ∙ replicate_more n zeros
pushed n small old new (Err e) is fault ok = absurd (none-some e (sym (ap (λ (q : List (List ℕ)). queue_fault q zeros) is ∙ has_room n small) ∙ fault))
