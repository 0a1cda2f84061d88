-- What is reported of a whole capture, by what is kept of its first packets.
use Rattle.std.proofs.Common.{◌≡◌, ◌<◌, ◌≤◌, ◌+◌, ◌-◌, ◌^◌, ◌∙◌, ℕ, zero, suc, refl, List, [], ◌∷◌, arith, ap, sym, subst, length, map, reverse, take, get_or}
use Rattle.std.proofs.lemmas.List.{get_or_default, length-reverse, length-take-le, reverse-append, take_more}
use Rattle.std.specs.Prelude.{slice_index_or}
use Rattle.check_laws.proofs.RowsKept.{shown_is_table}
use Rattle.check_laws.specs.Verdict.{seen_of}
use Rattle.trace_check.specs.Checker.{IsChecker}
use Rattle.trace_check.specs.JudgedPair.{IsRefused}
use Rattle.trace_check.specs.declared.checker.Checker.{Checker}
use Rattle.capture_machine.proofs.Captures.{leads_too}
use Rattle.capture_machine.specs.Capture.{Conforms, Leads}
use Rattle.capture_machine.specs.Difference.{IsDifference, IsReason, Why}
use Rattle.capture_machine.specs.SessionTable.{HasTable}
use Rattle.world_machine.specs.Setup.{Configuration}

-- The packets up to one more, the newest first.
pub one_more : (packets : List (List ℕ)) (i : ℕ) (packet : List ℕ) → i < length packets → packet ≡ get_or packets i packet → reverse (take (i + 1) packets) ≡ packet ∷ reverse (take i packets)
one_more packets i packet few at =
    ap reverse (take_more packets i packet few) ∙ reverse-append (take i packets) (get_or packets i packet ∷ []) ∙ ap (λ (x : List ℕ). x ∷ reverse (take i packets)) (sym at)

-- Beyond the last one these are all.
pub take_all : (packets : List (List ℕ)) (i : ℕ) → length packets ≤ i → take i packets ≡ packets
take_all [] zero end = refl
take_all [] (suc i) end = refl
take_all (x ∷ xs) zero end = absurd (omega (arith, end))
take_all (x ∷ xs) (suc i) end = ap (λ (l : List (List ℕ)). x ∷ l) (take_all xs i (omega (arith, end)))

-- They are few.
pub short : (packets : List (List ℕ)) (i : ℕ) → i < length packets → length packets < 2 ^ 32 - 1 → length (reverse (take i packets)) < 2 ^ 64 - 2
short packets i few most =
    let long = length-reverse (take i packets) in
    let same = length-take-le i packets (omega (arith, few)) in
    omega (arith, long, same, few, most)

-- Of all packets.
pub conforming : (w : Configuration) (packets : List (List ℕ)) (seen : Checker) → IsChecker seen w (reverse packets) → HasTable w packets (map seen_of seen.table)
conforming w packets seen is = shown_is_table w packets is.rows (length (reverse packets)) seen.table is.shows is.entries

module _ (w : Configuration) (packets : List (List ℕ)) (i number : ℕ) (packet : List ℕ) (seen : Checker) (few : i < length packets) (at : packet ≡ get_or packets i packet) (count : number ≡ i + 1) (is : IsChecker seen w (reverse (take i packets))) where
  less : number - 1 ≡ i
  less = omega (arith, count)

  before : Conforms w (take (number - 1) packets)
  before = subst (λ (n : ℕ). Conforms w (take n packets)) (sym less) (is.shows.0, leads_too w (reverse (take i packets)) is.shows.0 is.rows is.shows.1)

  it_is : packet ≡ slice_index_or packets i []
  it_is = at ∙ get_or_default packets i packet [] few

  -- The next one does not conform.
  pub differs : (why : Why) → IsRefused w (reverse (take i packets)) packet why → IsDifference w packets number why
  differs why refused = record {
    first = record {
      least = omega (arith, count);
      most = omega (arith, count, few);
      before = before;
      at = λ c. refused.0 c.0 (subst (λ (l : List (List ℕ)). Leads w l c.0) (ap (λ (n : ℕ). reverse (take n packets)) count ∙ one_more packets i packet few at) c.1);
    };
    reason = subst (λ (n : ℕ). IsReason w (reverse (take n packets)) (slice_index_or packets n []) why) (sym less) (subst (λ (x : List ℕ). IsReason w (reverse (take i packets)) x why) it_is refused.1);
  }
