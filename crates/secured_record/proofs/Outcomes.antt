-- What the answer of `open` means for records.
use Rattle.std.proofs.Common.{◌≡◌, ◌≢◌, ℕ, ◌-◌, ◌≤◌, List, [], ◌∷◌, length, take, drop, ap, sym, subst, refl, ◌∙◌}
use Rattle.std.specs.Prelude.{Bool, true, false, not, nat_lt, ◌||◌, Option, Result, Ok, Err, Some, None, OnOk, IsOk, IfErr, MatchResult, bytes_eq}
use Rattle.byteorder.specs.Endian.{little_bytes, little_number}
use Rattle.spdm_basis.specs.SessionIdBytes.{session_id_bytes}
use Rattle.aes_gcm.specs.Gcm.{crypt}
use Rattle.aes_gcm.proofs.Twice.{length-crypt}
use Rattle.secured_record.specs.Format.{nonce, record_of}
use Rattle.secured_record.specs.Contents.{IsRecordOf}
use Rattle.secured_record.specs.Faults.{header_fault, text_part, is_authentic, fault_behind, fault_of, inner_of, opened_text}
use Rattle.spdm_basis.specs.Tests.{first_of_tests}
use Rattle.spdm_basis.specs.declared.causes.record_fault.RecordFault.{RecordFault}
use Rattle.spdm_basis.specs.declared.causes.record_fault.RecordFault.TheVariants.{Short, WrongId, WrongNumber, WrongLength, BadTag, BadInnerLength, KeySpent}
use Rattle.secured_record.proofs.Records.{fault_behind-none, record_opens, opened_is_record}

length_of_text : (a b : Bool) → a ≡ true → b ≡ true → first_of_tests ((not a, BadTag) ∷ (b, BadInnerLength) ∷ []) ≡ Some BadInnerLength
length_of_text a b p q = rw (p, q) refl

fault_behind-length : (f : Option RecordFault) (key iv : List ℕ) (number : ℕ) (s : List ℕ) → f ≡ None → is_authentic key iv number s ≡ true
    → nat_lt (length (opened_text key iv number s) - 2) (little_number 2 (opened_text key iv number s)) ≡ true → fault_behind f key iv number s ≡ Some BadInnerLength
fault_behind-length f key iv number s e a b = rw e (length_of_text _ _ a b)

length_test : (key iv : List ℕ) (number : ℕ) (s k n text : List ℕ) → k ≡ key → n ≡ nonce iv number → text ≡ text_part s
    → nat_lt (length text - 2) (little_number 2 (crypt k n text)) ≡ nat_lt (length (opened_text key iv number s) - 2) (little_number 2 (opened_text key iv number s))
unfolding opened_text
length_test key iv number s k n text e f g =
    let o : crypt k n text ≡ crypt key (nonce iv number) (text_part s) = ap (λ (x : List ℕ). crypt x n text) e ∙ ap (λ (x : List ℕ). crypt key x text) f ∙ ap (crypt key (nonce iv number)) g in
    ap (λ (m : ℕ). nat_lt (m - 2) (little_number 2 (crypt k n text))) (sym (length-crypt k n text))
    ∙ ap (λ (x : List ℕ). nat_lt (length x - 2) (little_number 2 x)) o

-- What the text of a record with its own tag has, the record has.
pub text_fault : {U : Type 0} (r : Result U RecordFault) (key iv id : List ℕ) (number : ℕ) (s k n text : List ℕ)
    → header_fault id number s ≡ None → is_authentic key iv number s ≡ true → k ≡ key → n ≡ nonce iv number → text ≡ text_part s
    → MatchResult r (λ _. nat_lt (length text - 2) (little_number 2 (crypt k n text)) ≡ false)
    (λ e. (e ≡ BadInnerLength) × (nat_lt (length text - 2) (little_number 2 (crypt k n text)) ≡ true))
    → MatchResult r (λ _. fault_of key iv id number s ≡ None) (λ e. fault_of key iv id number s ≡ Some e)
unfolding fault_of opened_text
text_fault (Ok u) key iv id number s k n text none own e f g h =
    fault_behind-none (header_fault id number s) key iv number s none own (sym (length_test key iv number s k n text e f g) ∙ h)
text_fault (Err fault) key iv id number s k n text none own e f g h =
    fault_behind-length (header_fault id number s) key iv number s none own (sym (length_test key iv number s k n text e f g) ∙ h.1)
    ∙ ap (λ (x : RecordFault). Some x) (sym h.0)

pub ok_is_record : {U : Type 0} (r : Result U RecordFault) (key iv id ids : List ℕ) (number : ℕ) (s out : List ℕ) → id ≡ ids
    → MatchResult r (λ _. fault_of key iv id number s ≡ None) (λ e. fault_of key iv id number s ≡ Some e)
    → OnOk r (out ≡ inner_of key iv number s)
    → OnOk r (little_bytes 2 (little_number 2 (opened_text key iv number s)) ≡ take 2 (opened_text key iv number s))
    → OnOk r (IsRecordOf key iv ids number s out)
ok_is_record (Ok u) key iv id ids number s out same none e spelled =
    subst (λ (x : List ℕ). IsRecordOf key iv x number s out) same
    (subst (λ (x : List ℕ). IsRecordOf key iv id number s x) (sym e) (opened_is_record key iv id number s none spelled))
ok_is_record (Err f) key iv id ids number s out same none e spelled = e

clash : (f : RecordFault) → Some f ≡ None → ⊥
clash f h = cc

pub record_is_ok : {U : Type 0} (r : Result U RecordFault) (key iv id : List ℕ) (req rsp number : ℕ) (s out : List ℕ) → id ≡ session_id_bytes req rsp
    → MatchResult r (λ _. fault_of key iv id number s ≡ None) (λ e. fault_of key iv id number s ≡ Some e)
    → OnOk r (out ≡ inner_of key iv number s)
    → (inner pad : List ℕ) → s ≡ record_of key iv (session_id_bytes req rsp) number inner pad → length s ≤ 4160
    → IsOk r × (out ≡ inner)
record_is_ok (Ok u) key iv id req rsp number s out same none e inner pad h most =
    let fits : length (record_of key iv (session_id_bytes req rsp) number inner pad) ≤ 4160 = subst (λ (x : List ℕ). length x ≤ 4160) h most in
    (refl, e ∙ ap (inner_of key iv number) h ∙ (record_opens key iv req rsp number inner pad fits).1)
record_is_ok (Err f) key iv id req rsp number s out same some e inner pad h most =
    let fits : length (record_of key iv (session_id_bytes req rsp) number inner pad) ≤ 4160 = subst (λ (x : List ℕ). length x ≤ 4160) h most in
    let none : fault_of key iv id number s ≡ None =
    ap (λ (x : List ℕ). fault_of key iv x number s) same ∙ ap (fault_of key iv (session_id_bytes req rsp) number) h ∙ (record_opens key iv req rsp number inner pad fits).0 in
    absurd (clash f (sym some ∙ none))

not_spent_of_header : (a b c d : Bool) → first_of_tests ((a, Short) ∷ (b, WrongId) ∷ (c, WrongNumber) ∷ (d, WrongLength) ∷ []) ≢ Some KeySpent
not_spent_of_header true b c d = λ e. cc
not_spent_of_header false true c d = λ e. cc
not_spent_of_header false false true d = λ e. cc
not_spent_of_header false false false true = λ e. cc
not_spent_of_header false false false false = λ e. cc

not_spent_of_text : (a b : Bool) → first_of_tests ((a, BadTag) ∷ (b, BadInnerLength) ∷ []) ≢ Some KeySpent
not_spent_of_text true b = λ e. cc
not_spent_of_text false true = λ e. cc
not_spent_of_text false false = λ e. cc

not_spent_behind : (f : Option RecordFault) (key iv : List ℕ) (number : ℕ) (s : List ℕ) → f ≢ Some KeySpent → fault_behind f key iv number s ≢ Some KeySpent
not_spent_behind (Some f) key iv number s h = h
not_spent_behind None key iv number s h =
    not_spent_of_text (not (is_authentic key iv number s)) (nat_lt (length (opened_text key iv number s) - 2) (little_number 2 (opened_text key iv number s)))

header_not_spent : (id : List ℕ) (number : ℕ) (s : List ℕ) → header_fault id number s ≢ Some KeySpent
unfolding header_fault
header_not_spent id number s =
    not_spent_of_header (nat_lt (length s) 26) (not (bytes_eq (take 4 s) id)) (not (bytes_eq (take 2 (drop 4 s)) (little_bytes 2 number)))
    (not (bytes_eq (take 2 (drop 6 s)) (little_bytes 2 (length s - 8))) || nat_lt 4160 (length s))

-- Of no bytes is the fault that the key is spent.
fault_not_spent : (key iv id : List ℕ) (number : ℕ) (s : List ℕ) → fault_of key iv id number s ≢ Some KeySpent
unfolding fault_of
fault_not_spent key iv id number s = not_spent_behind (header_fault id number s) key iv number s (header_not_spent id number s)

pub error_not_spent : {U : Type 0} (r : Result U RecordFault) (key iv id : List ℕ) (number : ℕ) (s : List ℕ)
    → MatchResult r (λ _. fault_of key iv id number s ≡ None) (λ e. fault_of key iv id number s ≡ Some e)
    → IfErr r (λ e. e ≢ KeySpent)
error_not_spent (Ok u) key iv id number s none = tt
error_not_spent (Err f) key iv id number s some = λ e. fault_not_spent key iv id number s (some ∙ ap (λ (x : RecordFault). Some x) e)
