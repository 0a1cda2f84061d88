-- What is written is read back.
use Rattle.std.proofs.Common.{◌≡◌, ◌≤◌, ◌<◌, ◌+◌, ◌*◌, ◌/◌, ◌%◌, ◌^◌, ◌∙◌, ◌++◌, ℕ, zero, suc, List, [], ◌∷◌, take, drop, length, length-append, refl, sym, arith, Ok}
use Rattle.std.proofs.Math.Seq.{take-append_seam, drop-append_seam}
use Rattle.std.proofs.lemmas.Bool.{le-ltb, eq-eqb}
use Rattle.pcap_file.specs.Laws.{AreShort, WrittenFileIsRead}
use Rattle.pcap_file.specs.Numbers.{number_at}
use Rattle.pcap_file.specs.Reading.{order_by, order_in, packets_in, records_in, size_in, with_before}
use Rattle.pcap_file.specs.Writing.{file_of, header, record_head, record_of, records_from}
use Rattle.pcap_file.specs.declared.order.ByteOrder.TheVariants.{Little}

-- the number of four bytes
number_back : (n : ℕ) → n < 2 ^ 32 → n % 256 + 256 * (n / 256 % 256) + 65536 * (n / 65536 % 256) + 16777216 * (n / 16777216 % 256) ≡ n
number_back n h = omega arith

-- the size of a record that was written
size_back : (at number : ℕ) (packet rest : List ℕ) → length packet ≤ 8000 → size_in at Little (record_of number packet ++ rest) ≡ Ok (length packet)
unfolding size_in
size_back at number packet rest short =
    let bytes = record_of number packet ++ rest in
    let long : length bytes ≡ 16 + length packet + length rest = omega (arith, length-append (record_of number packet) rest, length-append (record_head number (length packet)) packet) in
    let size : number_at Little 8 bytes ≡ length packet = number_back (length packet) (omega (arith, short)) in
    rw (le-ltb (length bytes) 16 (omega (arith, long)), size, eq-eqb (length packet) (length packet) refl, le-ltb 8000 (length packet) short, le-ltb (length bytes) (16 + length packet) (omega (arith, long))) refl

-- the packet of the first record, and then those of the others
record_back : (left at number : ℕ) (packet rest : List ℕ) → length packet ≤ 8000 →
    records_in (suc left) at Little (record_of number packet ++ rest)
    ≡ with_before (packet ∷ []) (records_in left (at + (16 + length packet)) Little rest)
record_back left at number packet rest short =
    let whole = record_of number packet in
    let long : 16 + length packet ≡ length whole = sym (length-append (record_head number (length packet)) packet) in
    let own : take (16 + length packet) (whole ++ rest) ≡ whole = rw long (take-append_seam whole rest) in
    let others : drop (16 + length packet) (whole ++ rest) ≡ rest = rw long (drop-append_seam whole rest) in
    rw (size_back at number packet rest short, own, others) refl

-- all of them
records_back : (left at number : ℕ) (packets : List (List ℕ)) → AreShort packets → length packets ≤ left →
    records_in left at Little (records_from number packets) ≡ Ok packets
records_back left at number [] short few = refl
records_back zero at number (packet ∷ others) short few = absurd (omega (arith, few))
records_back (suc left) at number (packet ∷ others) short few =
    let rest = records_back left (at + (16 + length packet)) (number + 1) others short.1 (omega (arith, few)) in
    record_back left at number packet (records_from (number + 1) others) short.0 ∙ rw rest refl

pub file_back : WrittenFileIsRead
unfolding packets_in order_in order_by
file_back packets short few =
    let long : 24 ≤ length (file_of packets) = omega (arith, length-append header (records_from 1 packets)) in
    rw (le-ltb (length (file_of packets)) 24 long) (records_back 100000 24 1 packets short few)
