-- The records of the first packets and of the others; and what is read record by record.
use Rattle.std.proofs.Common.{◌≡◌, ◌∙◌, ◌+◌, ◌<◌, ◌++◌, ℕ, zero, suc, List, [], ◌∷◌, take, drop, get_or, length, refl, sym, ap, arith, append_assoc, Result, Ok, Err}
use Rattle.std.proofs.lemmas.List.{append-nil}
use Rattle.pcap_file.specs.Reading.{records_in, size_in, with_before}
use Rattle.pcap_file.specs.Writing.{record_of, records_from}
use Rattle.pcap_file.specs.declared.fault.PcapFault.{PcapFault}
use Rattle.pcap_file.specs.declared.order.ByteOrder.{ByteOrder}

-- all records are those before a packet, its own and those after it
pub records_through : (number : ℕ) (packets : List (List ℕ)) (i : ℕ) (d : List ℕ) → i < length packets →
    records_from number packets ≡ records_from number (take i packets) ++ (record_of (number + i) (get_or packets i d) ++ records_from (number + (i + 1)) (drop (i + 1) packets))
records_through number [] i d h = absurd (omega (arith, h))
records_through number (p ∷ others) zero d h = let e : number + 0 ≡ number = omega arith in rw e refl
records_through number (p ∷ others) (suc i) d h =
    let below : i < length others = omega (arith, h) in
    let next : suc i + 1 ≡ suc (i + 1) = omega arith in
    let rest : drop (suc i + 1) (p ∷ others) ≡ drop (i + 1) others = ap (λ (n : ℕ). drop n (p ∷ others)) next in
    let e : (number + 1) + i ≡ number + suc i = omega arith in
    let f : (number + 1) + (i + 1) ≡ number + (suc i + 1) = omega arith in
    let ih = records_through (number + 1) others i d below in
    ap (λ (t : List ℕ). record_of number p ++ t) (rw (e, f) at ih)
    ∙ sym (append_assoc (record_of number p) (records_from (number + 1) (take i others)) (record_of (number + suc i) (get_or others i d) ++ records_from (number + (suc i + 1)) (drop (i + 1) others)))
    ∙ ap (λ (l : List (List ℕ)). records_from number (take (suc i) (p ∷ others)) ++ (record_of (number + suc i) (get_or others i d) ++ records_from (number + (suc i + 1)) l)) (sym rest)

-- one record more
pub records_more : (number : ℕ) (packets : List (List ℕ)) (i : ℕ) (d : List ℕ) → i < length packets →
    records_from number (take (i + 1) packets) ≡ records_from number (take i packets) ++ record_of (number + i) (get_or packets i d)
records_more number [] i d h = absurd (omega (arith, h))
records_more number (p ∷ others) zero d h = let e : number + 0 ≡ number = omega arith in rw e (append-nil (record_of number p))
records_more number (p ∷ others) (suc i) d h =
    let below : i < length others = omega (arith, h) in
    let next : suc i + 1 ≡ suc (i + 1) = omega arith in
    let e : (number + 1) + i ≡ number + suc i = omega arith in
    let ih = records_more (number + 1) others i d below in
    ap (λ (n : ℕ). records_from number (take n (p ∷ others))) next
    ∙ ap (λ (t : List ℕ). record_of number p ++ t) (rw e at ih)
    ∙ sym (append_assoc (record_of number p) (records_from (number + 1) (take i others)) (record_of (number + suc i) (get_or others i d)))

-- ---- reading

-- packets before others, in two steps
behind_more : (packets : List (List ℕ)) (packet : List ℕ) (r : Result (List (List ℕ)) PcapFault) →
    with_before packets (with_before (packet ∷ []) r) ≡ with_before (packets ++ packet ∷ []) r
behind_more packets packet (Ok others) = ap (λ (ps : List (List ℕ)). Ok ps) (sym (append_assoc packets (packet ∷ []) others))
behind_more packets packet (Err fault) = refl

-- the first record, and then those behind it
records_step : (left at size : ℕ) (order : ByteOrder) (bytes : List ℕ) → 0 < length bytes → size_in at order bytes ≡ Ok size →
    records_in (suc left) at order bytes ≡ with_before (drop 16 (take (16 + size) bytes) ∷ []) (records_in left (at + (16 + size)) order (drop (16 + size) bytes))
records_step left at size order [] some h = absurd (omega arith)
records_step left at size order (b ∷ bytes) some h = rw h refl

-- what is left behind one record more
pub records_behind : (packets more : List (List ℕ)) (packet rest others : List ℕ) (left fewer at next size : ℕ) (order : ByteOrder) (all : Result (List (List ℕ)) PcapFault) →
    left ≡ suc fewer → 0 < length rest → size_in at order rest ≡ Ok size → packet ≡ drop 16 (take (16 + size) rest) → others ≡ drop (16 + size) rest →
    next ≡ at + (16 + size) → more ≡ packets ++ packet ∷ [] → with_before packets (records_in left at order rest) ≡ all →
    with_before more (records_in fewer next order others) ≡ all
records_behind packets more packet rest others left fewer at next size order all is_left some sized own behind place grown before =
    rw (grown, own, behind, place)
    (sym (behind_more packets (drop 16 (take (16 + size) rest)) (records_in fewer (at + (16 + size)) order (drop (16 + size) rest)))
    ∙ ap (with_before packets) (sym (records_step fewer at size order rest some sized))
    ∙ ap (λ (n : ℕ). with_before packets (records_in n at order rest)) (sym is_left)
    ∙ before)

-- before the first record
pub none_before : (r : Result (List (List ℕ)) PcapFault) → with_before [] r ≡ r
none_before (Ok packets) = refl
none_before (Err fault) = refl
