-- What the responder chooses is allowed.
use Rattle.std.proofs.Common.{refl, ◌≡◌, ◌≤◌, ℕ, ◌++◌, List, [], ◌∷◌, length, true, false, Bool, arith, take, drop, length-append}
use Rattle.std.proofs.lemmas.List.{length-take-le}
use Rattle.std.proofs.Math.Nat.{mod-lt}
use Rattle.std.specs.List.{AllByRecursion}
use Rattle.std.specs.Prelude.{if◌then◌else◌, ◌==◌, slice_index, replicate}
use Rattle.byteorder.specs.Endian.{little_bytes}
use Rattle.byteorder.specs.Numbers.{length-bytes_low_first}
use Rattle.spdm_basis.specs.Sizes.{hash_size}
use Rattle.spdm_basis.specs.declared.values.hash_alg.HashAlg.{HashAlg}
use Rattle.spdm_basis.specs.declared.values.hash_alg.HashAlg.TheVariants.{Sha256, Sha384}
use Rattle.responder_machine.proofs.Within.{queue_within}
use Rattle.responder_machine.proofs.Ids.{free_id-range, free_id-unheld, not_four}
use Rattle.responder_machine.specs.Does.{chosen, first_queued, clear_does, record_does}
use Rattle.responder_machine.specs.History.{History, queue_of}
use Rattle.spdm_machine.specs.Keys.{Draw, context_of}
use Rattle.responder_machine.specs.LargeMessages.{larges_of}
use Rattle.responder_machine.specs.Laws.{ChosenIsAllowed, DoesWhatItMay}
use Rattle.responder_machine.specs.May.{place_for}
use Rattle.responder_machine.specs.Place.{place_terms, held_of, clear_place, session_place}
use Rattle.responder_machine.specs.Responder.{on_clear, on_record}
use Rattle.responder_machine.specs.Session.{session_of, id_in_record}
use Rattle.responder_machine.specs.Setup.{RspSetup}

context-length : (hash : HashAlg) (d : Draw) → length d.bytes ≡ 32 → hash_size hash ≤ length (context_of hash d)
context-length Sha256 d h =
    let taken = length-take-le 24 d.bytes (omega arith) in
    rw (length-append (take 24 d.bytes) (little_bytes 8 d.number), taken) (omega (arith, length-bytes_low_first 0 8 d.number))
context-length Sha384 d h =
    rw (length-append (d.bytes ++ little_bytes 8 d.number) (replicate 8 0), length-append d.bytes (little_bytes 8 d.number), h) (omega arith)

first-short : (xs : List (List ℕ)) → AllByRecursion (λ bytes. length bytes ≤ 1024) xs → length (first_queued xs) ≤ 1024
first-short [] a = omega arith
first-short (x ∷ xs) a = a.0

pub chosen_allowed : ChosenIsAllowed
unfolding chosen
chosen_allowed r h p d made bytes opaque = record {
  least = (free_id-range h).0;
  most = (free_id-range h).1;
  unused = λ room. free_id-unheld h (not_four (held_of h) room);
  context = context-length (place_terms p).choice.hash d bytes;
  exchange_opaque = opaque;
  nonce = bytes;
  measured_opaque = omega arith;
  handle = mod-lt (larges_of p.turns) (omega arith);
  reply = first-short (queue_of h) (queue_within r h made).1;
  pad = omega arith;
}

by_type : (r : RspSetup) (h : History) (tag : ℕ) (m : List ℕ) (d : Draw) (b : Bool)
    → (if b then on_clear r h tag m (chosen r h (if b then clear_place h else session_place (session_of (id_in_record m) h)) d) d
    else on_record r h tag m (chosen r h (if b then clear_place h else session_place (session_of (id_in_record m) h)) d) d)
    ≡ (if b then clear_does r h tag m d else record_does r h tag m d)
by_type r h tag m d true = refl
by_type r h tag m d false = refl

pub does : DoesWhatItMay
does r h tag body d made bytes opaque =
    (tt, (chosen r h (place_for h body) d, chosen_allowed r h (place_for h body) d made bytes opaque, by_type r h tag (drop 1 body) d (slice_index body 0 == 5)))
