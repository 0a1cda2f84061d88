-- A record of an inner message opens to it, and what opens is a record of its inner message.
use Rattle.std.proofs.Common.{◌≡◌, ℕ, ◌+◌, ◌-◌, ◌/◌, ◌%◌, ◌<◌, ◌≤◌, List, [], ◌∷◌, ◌++◌, length, take, drop, refl, ap, sym, ◌∙◌, arith, length-append, append_assoc, length-drop, get_or}
use Rattle.std.specs.Prelude.{Bool, true, false, not, nat_lt, ◌||◌, Option, Some, None, bytes_eq}
use Rattle.std.proofs.Math.Seq.{take-append_seam, drop-append_seam, take-add}
use Rattle.std.proofs.lemmas.List.{take-append-drop, length-take-le}
use Rattle.std.proofs.lemmas.Bool.{le-ltb, ltb-false}
use Rattle.byteorder.specs.Endian.{little_bytes, little_number}
use Rattle.spdm_basis.specs.SessionIdBytes.{session_id_bytes}
use Rattle.aes_gcm.specs.Gcm.{crypt, tag_of}
use Rattle.aes_gcm.proofs.Tags.{length-tag_of}
use Rattle.aes_gcm.proofs.Twice.{crypt-crypt, length-crypt}
use Rattle.secured_record.specs.Format.{header, nonce, plain_text, sealed_text, record_of}
use Rattle.secured_record.specs.Contents.{IsRecordOf}
use Rattle.secured_record.specs.Faults.{header_fault, text_part, tag_part, is_authentic, opened_text, fault_behind, fault_of, inner_of}
use Rattle.spdm_basis.specs.Tests.{first_of_tests}
use Rattle.spdm_basis.specs.declared.causes.record_fault.RecordFault.{RecordFault}
use Rattle.spdm_basis.specs.declared.causes.record_fault.RecordFault.TheVariants.{Short, WrongId, WrongNumber, WrongLength, BadTag, BadInnerLength}
use Rattle.std.proofs.lemmas.Slice.Eq.{bytes_eq-Decides}

none_of_header : (a b c d e : Bool) → a ≡ false → b ≡ true → c ≡ true → d ≡ true → e ≡ false →
    first_of_tests ((a, Short) ∷ (not b, WrongId) ∷ (not c, WrongNumber) ∷ (not d || e, WrongLength) ∷ []) ≡ None
none_of_header a b c d e p q r s t = rw (p, q, r, s, t) refl

pub header_of_none : (a b c d e : Bool) → first_of_tests ((a, Short) ∷ (not b, WrongId) ∷ (not c, WrongNumber) ∷ (not d || e, WrongLength) ∷ []) ≡ None →
    (a ≡ false) × (b ≡ true) × (c ≡ true) × (d ≡ true) × (e ≡ false)
header_of_none true b c d e h = absurd (cc)
header_of_none false false c d e h = absurd (cc)
header_of_none false true false d e h = absurd (cc)
header_of_none false true true false e h = absurd (cc)
header_of_none false true true true true h = absurd (cc)
header_of_none false true true true false h = (refl, refl, refl, refl, refl)

none_of_text : (a b : Bool) → a ≡ true → b ≡ false → first_of_tests ((not a, BadTag) ∷ (b, BadInnerLength) ∷ []) ≡ None
none_of_text a b p q = rw (p, q) refl

text_of_none : (a b : Bool) → first_of_tests ((not a, BadTag) ∷ (b, BadInnerLength) ∷ []) ≡ None → (a ≡ true) × (b ≡ false)
text_of_none false b h = absurd (cc)
text_of_none true true h = absurd (cc)
text_of_none true false h = (refl, refl)

text_part-append : (c g : List ℕ) → length g ≡ 16 → take (length (c ++ g) - 16) (c ++ g) ≡ c
text_part-append c g e =
    let f : length (c ++ g) - 16 ≡ length c = omega (arith, length-append c g) in
    ap (λ n. take n (c ++ g)) f ∙ take-append_seam c g

tag_part-append : (c g : List ℕ) → length g ≡ 16 → drop (length (c ++ g) - 16) (c ++ g) ≡ g
tag_part-append c g e =
    let f : length (c ++ g) - 16 ≡ length c = omega (arith, length-append c g) in
    ap (λ n. drop n (c ++ g)) f ∙ drop-append_seam c g

-- The header of a record that is made is as it should be.
header_fault-record : (key iv : List ℕ) (req rsp number : ℕ) (inner pad : List ℕ)
    → length (record_of key iv (session_id_bytes req rsp) number inner pad) ≤ 4160
    → header_fault (session_id_bytes req rsp) number (record_of key iv (session_id_bytes req rsp) number inner pad) ≡ None
unfolding header_fault record_of
header_fault-record key iv req rsp number inner pad h =
    let id = session_id_bytes req rsp in
    let t = plain_text inner pad in
    let n = nonce iv number in
    let c = crypt key n t in
    let g = tag_of key n (header id number (length t + 16)) c in
    let s = record_of key iv id number inner pad in
    let size : length s ≡ length t + 24 = omega (arith, length-append c g, length-crypt key n t, length-tag_of key n (header id number (length t + 16)) c) in
    let count : length t + 16 ≡ length s - 8 = omega arith in
    let least : 26 ≤ length s = omega (arith, length-append inner pad) in
    none_of_header (nat_lt (length s) 26) (bytes_eq (take 4 s) id) (bytes_eq (take 2 (drop 4 s)) (little_bytes 2 number)) (bytes_eq (take 2 (drop 6 s)) (little_bytes 2 (length s - 8))) (nat_lt 4160 (length s))
    (le-ltb (length s) 26 least) ((bytes_eq-Decides id id).1 refl) ((bytes_eq-Decides (little_bytes 2 number) (little_bytes 2 number)).1 refl)
    ((bytes_eq-Decides (little_bytes 2 (length t + 16)) (little_bytes 2 (length s - 8))).1 (ap (little_bytes 2) count)) (le-ltb 4160 (length s) h)

text_part-record : (key iv : List ℕ) (req rsp number : ℕ) (inner pad : List ℕ)
    → text_part (record_of key iv (session_id_bytes req rsp) number inner pad) ≡ crypt key (nonce iv number) (plain_text inner pad)
unfolding record_of
text_part-record key iv req rsp number inner pad =
    let id = session_id_bytes req rsp in
    let t = plain_text inner pad in
    let n = nonce iv number in
    let c = crypt key n t in
    text_part-append c (tag_of key n (header id number (length t + 16)) c) (length-tag_of key n (header id number (length t + 16)) c)

pub opened_text-record : (key iv : List ℕ) (req rsp number : ℕ) (inner pad : List ℕ)
    → opened_text key iv number (record_of key iv (session_id_bytes req rsp) number inner pad) ≡ plain_text inner pad
unfolding opened_text
opened_text-record key iv req rsp number inner pad =
    ap (crypt key (nonce iv number)) (text_part-record key iv req rsp number inner pad) ∙ crypt-crypt key (nonce iv number) (plain_text inner pad)

is_authentic-record : (key iv : List ℕ) (req rsp number : ℕ) (inner pad : List ℕ)
    → is_authentic key iv number (record_of key iv (session_id_bytes req rsp) number inner pad) ≡ true
unfolding is_authentic record_of
is_authentic-record key iv req rsp number inner pad =
    let id = session_id_bytes req rsp in
    let t = plain_text inner pad in
    let n = nonce iv number in
    let c = crypt key n t in
    let h = header id number (length t + 16) in
    let s = record_of key iv id number inner pad in
    (bytes_eq-Decides (tag_part s) (tag_of key n (take 8 s) (text_part s))).1
    (tag_part-append c (tag_of key n h c) (length-tag_of key n h c) ∙ sym (ap (tag_of key n h) (text_part-record key iv req rsp number inner pad)))

pub fault_behind-none : (f : Option RecordFault) (key iv : List ℕ) (number : ℕ) (s : List ℕ) → f ≡ None → is_authentic key iv number s ≡ true
    → nat_lt (length (opened_text key iv number s) - 2) (little_number 2 (opened_text key iv number s)) ≡ false → fault_behind f key iv number s ≡ None
fault_behind-none f key iv number s e a b = rw e (none_of_text _ _ a b)

pub inner_length : (a : ℕ) (rest : List ℕ) → a < 65536 → little_number 2 (little_bytes 2 a ++ rest) ≡ a
inner_length a rest h = omega arith

-- A record of an inner message and padding has no fault, and holds the inner message.
pub record_opens : (key iv : List ℕ) (req rsp number : ℕ) (inner pad : List ℕ)
    → length (record_of key iv (session_id_bytes req rsp) number inner pad) ≤ 4160
    → (fault_of key iv (session_id_bytes req rsp) number (record_of key iv (session_id_bytes req rsp) number inner pad) ≡ None)
    × (inner_of key iv number (record_of key iv (session_id_bytes req rsp) number inner pad) ≡ inner)
unfolding fault_of inner_of record_of
record_opens key iv req rsp number inner pad h =
    let id = session_id_bytes req rsp in
    let t = plain_text inner pad in
    let n = nonce iv number in
    let c = crypt key n t in
    let g = tag_of key n (header id number (length t + 16)) c in
    let s = record_of key iv id number inner pad in
    let o : opened_text key iv number s ≡ t = opened_text-record key iv req rsp number inner pad in
    let size : length s ≡ length t + 24 = omega (arith, length-append c g, length-crypt key n t, length-tag_of key n (header id number (length t + 16)) c) in
    let short : length inner < 65536 = omega (arith, length-append inner pad) in
    let told : little_number 2 t ≡ length inner = inner_length (length inner) (inner ++ pad) short in
    let within : little_number 2 t ≤ length t - 2 = omega (arith, length-append inner pad) in (
      fault_behind-none (header_fault id number s) key iv number s (header_fault-record key iv req rsp number inner pad h) (is_authentic-record key iv req rsp number inner pad)
          (ap (λ (x : List ℕ). nat_lt (length x - 2) (little_number 2 x)) o ∙ le-ltb (length t - 2) (little_number 2 t) within),
      ap (λ (x : List ℕ). take (little_number 2 x) (drop 2 x)) o ∙ ap (λ k. take k (inner ++ pad)) told ∙ take-append_seam inner pad,
    )

fault_behind_parts : (f : Option RecordFault) (key iv : List ℕ) (number : ℕ) (s : List ℕ) → fault_behind f key iv number s ≡ None
    → (f ≡ None) × (is_authentic key iv number s ≡ true) × (nat_lt (length (opened_text key iv number s) - 2) (little_number 2 (opened_text key iv number s)) ≡ false)
fault_behind_parts (Some fault) key iv number s h = absurd (cc)
fault_behind_parts None key iv number s h =
    let p = text_of_none (is_authentic key iv number s) (nat_lt (length (opened_text key iv number s) - 2) (little_number 2 (opened_text key iv number s))) h in
    (refl, p.0, p.1)

-- Bytes with the right header and tag are the record of their own text, decrypted.
rejoined : (key iv id : List ℕ) (number : ℕ) (s : List ℕ) → 26 ≤ length s → take 4 s ≡ id → take 2 (drop 4 s) ≡ little_bytes 2 number
    → take 2 (drop 6 s) ≡ little_bytes 2 (length s - 8) → tag_part s ≡ tag_of key (nonce iv number) (take 8 s) (text_part s)
    → s ≡ sealed_text key iv id number (crypt key (nonce iv number) (text_part s))
rejoined key iv id number s least e1 e2 e3 e4 =
    let n = nonce iv number in
    let r = drop 8 s in
    let b = text_part s in
    let o = crypt key n b in
    let h = header id number (length o + 16) in
    let r_long : length r ≡ length s - 8 = length-drop 8 s in
    let b_long : length b ≡ length r - 16 = length-take-le (length r - 16) r (omega arith) in
    let count : length s - 8 ≡ length o + 16 = omega (arith, length-crypt key n b) in
    let h_is : take 8 s ≡ h =
    take-add 6 2 s ∙ ap (λ (x : List ℕ). x ++ take 2 (drop 6 s)) (take-add 4 2 s)
    ∙ ap (λ (x : List ℕ). x ++ take 2 (drop 4 s) ++ take 2 (drop 6 s)) e1
    ∙ ap (λ (x : List ℕ). id ++ x ++ take 2 (drop 6 s)) e2
    ∙ ap (λ (x : List ℕ). id ++ little_bytes 2 number ++ x) (e3 ∙ ap (little_bytes 2) count) in
    sym (take-append-drop 8 s)
    ∙ ap (λ (x : List ℕ). take 8 s ++ x) (sym (take-append-drop (length r - 16) r))
    ∙ sym (append_assoc (take 8 s) b (tag_part s))
    ∙ ap (λ (x : List ℕ). take 8 s ++ b ++ x) e4
    ∙ ap (λ (x : List ℕ). x ++ b ++ tag_of key n x b) h_is
    ∙ ap (λ (x : List ℕ). h ++ x ++ tag_of key n h x) (sym (crypt-crypt key n b))

-- A text whose length field does not pass it is the plain text of what follows the field.
plain_text-rejoined : (o : List ℕ) → 2 ≤ length o → little_number 2 o ≤ length o - 2 → little_bytes 2 (little_number 2 o) ≡ take 2 o
    → o ≡ plain_text (take (little_number 2 o) (drop 2 o)) (drop (little_number 2 o) (drop 2 o))
plain_text-rejoined o least within spelled =
    let k = little_number 2 o in
    let inner = take k (drop 2 o) in
    let pad = drop k (drop 2 o) in
    let long : length inner ≡ k = length-take-le k (drop 2 o) (omega (arith, length-drop 2 o)) in
    sym (take-append-drop 2 o)
    ∙ ap (λ (x : List ℕ). take 2 o ++ x) (sym (take-append-drop k (drop 2 o)))
    ∙ sym (append_assoc (take 2 o) inner pad)
    ∙ ap (λ (x : List ℕ). x ++ inner ++ pad) (sym spelled ∙ ap (little_bytes 2) (sym long))

-- What has no fault is a record of its inner message.
pub opened_is_record : (key iv : List ℕ) (id : List ℕ) (number : ℕ) (s : List ℕ) → fault_of key iv id number s ≡ None
    → little_bytes 2 (little_number 2 (opened_text key iv number s)) ≡ take 2 (opened_text key iv number s)
    → IsRecordOf key iv id number s (inner_of key iv number s)
unfolding fault_of header_fault is_authentic opened_text inner_of record_of
opened_is_record key iv id number s none spelled =
    let n = nonce iv number in
    let b = text_part s in
    let o = crypt key n b in
    let p = fault_behind_parts (header_fault id number s) key iv number s none in
    let q = header_of_none (nat_lt (length s) 26) (bytes_eq (take 4 s) id) (bytes_eq (take 2 (drop 4 s)) (little_bytes 2 number)) (bytes_eq (take 2 (drop 6 s)) (little_bytes 2 (length s - 8))) (nat_lt 4160 (length s)) p.0 in
    let least : 26 ≤ length s = ltb-false (length s) 26 q.0 in
    let whole = rejoined key iv id number s least ((bytes_eq-Decides (take 4 s) id).0 q.1) ((bytes_eq-Decides (take 2 (drop 4 s)) (little_bytes 2 number)).0 q.2)
    ((bytes_eq-Decides (take 2 (drop 6 s)) (little_bytes 2 (length s - 8))).0 q.3) ((bytes_eq-Decides (tag_part s) (tag_of key n (take 8 s) b)).0 p.1) in
    let b_long : length b ≡ length (drop 8 s) - 16 = length-take-le (length (drop 8 s) - 16) (drop 8 s) (omega arith) in
    let o_least : 2 ≤ length o = omega (arith, length-crypt key n b, length-drop 8 s) in (
      drop (little_number 2 o) (drop 2 o),
      whole ∙ ap (sealed_text key iv id number) (plain_text-rejoined o o_least (ltb-false (length o - 2) (little_number 2 o) p.2) spelled),
    )

-- Two bytes are those of the number that they read as.
pub little_bytes-little_number : (xs : List ℕ) → 2 ≤ length xs → get_or xs 0 0 < 256 → get_or xs 1 0 < 256 → little_bytes 2 (little_number 2 xs) ≡ take 2 xs
little_bytes-little_number [] h p q = absurd (omega arith)
little_bytes-little_number (x ∷ []) h p q = absurd (omega arith)
little_bytes-little_number (x ∷ y ∷ zs) h p q =
    let e : little_number 2 (x ∷ y ∷ zs) % 256 ≡ x = omega arith in
    let f : little_number 2 (x ∷ y ∷ zs) / 256 % 256 ≡ y = omega arith in
    λ i. e i ∷ f i ∷ []
