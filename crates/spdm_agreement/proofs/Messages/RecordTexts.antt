-- What the tag of a record is computed over is what its text and its session make it.
use Rattle.std.proofs.Common.{◌≡◌, ℕ, ◌+◌, ◌-◌, ◌≤◌, List, ◌∷◌, ◌++◌, length, take, drop, None, refl, sym, ap, ◌∙◌, arith, length-append, length-drop}
use Rattle.std.specs.Prelude.{nat_lt, bytes_eq}
use Rattle.std.proofs.Math.Seq.{take-append_seam, take-add}
use Rattle.std.proofs.lemmas.Bool.{ltb-false}
use Rattle.std.proofs.lemmas.List.{length-take-le}
use Rattle.aes_gcm.specs.Gcm.{crypt, tag_of}
use Rattle.aes_gcm.proofs.Tags.{length-tag_of}
use Rattle.aes_gcm.proofs.Twice.{crypt-crypt, length-crypt}
use Rattle.byteorder.specs.Endian.{little_bytes, little_number}
use Rattle.key_schedule.specs.Purpose.{Purpose, key_of, iv_of}
use Rattle.secured_record.specs.Faults.{header_fault, text_part, opened_text, inner_of}
use Rattle.secured_record.specs.Format.{header, nonce, plain_text, record_of}
use Rattle.std.proofs.lemmas.Slice.Eq.{bytes_eq-Decides}
use Rattle.spdm_grammar.specs.declared.messages.choice.Choice.{Choice}
use Rattle.spdm_machine.specs.Keys as keys
use Rattle.spdm_machine.specs.Keys.{inner_message}
use Rattle.spdm_machine.specs.TagLog.{record_input}
use Rattle.spdm_agreement.specs.Reading.{First}
use Rattle.spdm_agreement.specs.Story.{text_of}
use Rattle.spdm_agreement.proofs.Messages.Beginnings.{first_terms, first_id, sealed_of}
use Rattle.secured_record.proofs.Records.{header_of_none}

-- A record that an end seals.
pub made_input : (t : First) (p : Purpose) (number : ℕ) (inner pad : List ℕ)
    → record_input number (keys.sealed_of (first_terms t).choice p number (first_id t) inner pad) ≡ number ∷ sealed_of t p number (plain_text inner pad)
unfolding keys.sealed_of record_of sealed_of
made_input t p number inner pad =
    let key = key_of (first_terms t).choice.hash (first_terms t).choice.aead p in
    let iv = nonce (iv_of (first_terms t).choice.hash p) number in
    let text = plain_text inner pad in
    let front = header (first_id t) number (length text + 16) in
    let c = crypt key iv text in
    let tag = tag_of key iv front c in
    let size : length (front ++ c ++ tag) - 16 ≡ length (front ++ c) = omega (arith, length-append (front ++ c) tag, length-tag_of key iv front c) in
    ap (λ (l : List ℕ). number ∷ l) (ap (λ (n : ℕ). take n (front ++ c ++ tag)) size ∙ take-append_seam (front ++ c) tag)

-- A record that came, and whose header has no fault.
pub checked_input : (t : First) (p : Purpose) (number : ℕ) (s : List ℕ) → header_fault (first_id t) number s ≡ None
    → record_input number s ≡ number ∷ sealed_of t p number (text_of (first_terms t).choice p number s)
unfolding header_fault sealed_of text_of opened_text
checked_input t p number s none =
    let key = key_of (first_terms t).choice.hash (first_terms t).choice.aead p in
    let iv = nonce (iv_of (first_terms t).choice.hash p) number in
    let id = first_id t in
    let q = header_of_none (nat_lt (length s) 26) (bytes_eq (take 4 s) id) (bytes_eq (take 2 (drop 4 s)) (little_bytes 2 number)) (bytes_eq (take 2 (drop 6 s)) (little_bytes 2 (length s - 8))) (nat_lt 4160 (length s)) none in
    let least : 26 ≤ length s = ltb-false (length s) 26 q.0 in
    let e1 : take 4 s ≡ id = (bytes_eq-Decides (take 4 s) id).0 q.1 in
    let e2 : take 2 (drop 4 s) ≡ little_bytes 2 number = (bytes_eq-Decides (take 2 (drop 4 s)) (little_bytes 2 number)).0 q.2 in
    let e3 : take 2 (drop 6 s) ≡ little_bytes 2 (length s - 8) = (bytes_eq-Decides (take 2 (drop 6 s)) (little_bytes 2 (length s - 8))).0 q.3 in
    let r = drop 8 s in
    let b = text_part s in
    let o = crypt key iv b in
    let front = header id number (length o + 16) in
    let r_long : length r ≡ length s - 8 = length-drop 8 s in
    let b_long : length b ≡ length r - 16 = length-take-le (length r - 16) r (omega arith) in
    let count : length s - 8 ≡ length o + 16 = omega (arith, length-crypt key iv b) in
    let front_is : take 8 s ≡ front =
    take-add 6 2 s ∙ ap (λ (x : List ℕ). x ++ take 2 (drop 6 s)) (take-add 4 2 s)
    ∙ ap (λ (x : List ℕ). x ++ take 2 (drop 4 s) ++ take 2 (drop 6 s)) e1
    ∙ ap (λ (x : List ℕ). id ++ x ++ take 2 (drop 6 s)) e2
    ∙ ap (λ (x : List ℕ). id ++ little_bytes 2 number ++ x) (e3 ∙ ap (little_bytes 2) count) in
    let size : length s - 16 ≡ 8 + (length r - 16) = omega arith in
    ap (λ (l : List ℕ). number ∷ l)
    (ap (λ (n : ℕ). take n s) size ∙ take-add 8 (length r - 16) s
    ∙ ap (λ (x : List ℕ). x ++ b) front_is
    ∙ ap (λ (x : List ℕ). front ++ x) (sym (crypt-crypt key iv b)))

-- The inner message stands in the text after its length.
pub inner_text : (choice : Choice) (p : Purpose) (number : ℕ) (s : List ℕ) → inner_message choice p number s ≡ take (little_number 2 (text_of choice p number s)) (drop 2 (text_of choice p number s))
unfolding inner_message inner_of text_of
inner_text choice p number s = refl
