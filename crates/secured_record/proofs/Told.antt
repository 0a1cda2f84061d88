-- A record tells its inner message and its padding.
use Rattle.std.proofs.Common.{◌≡◌, ℕ, ◌<◌, List, ◌++◌, length, take, drop, sym, ap, ◌∙◌}
use Rattle.std.proofs.Math.Seq.{take-append_seam, drop-append_seam}
use Rattle.byteorder.specs.Endian.{little_number}
use Rattle.spdm_basis.specs.SessionIdBytes.{session_id_bytes}
use Rattle.secured_record.specs.Format.{plain_text, record_of}
use Rattle.secured_record.specs.Faults.{opened_text}
use Rattle.secured_record.proofs.Records.{inner_length, opened_text-record}

-- The text of a record tells both.
pub text_tells : (inner other pad padding : List ℕ) → length inner < 65536 → length other < 65536 → plain_text inner pad ≡ plain_text other padding → (inner ≡ other) × (pad ≡ padding)
text_tells inner other pad padding less few same =
    let long : length inner ≡ length other = sym (inner_length (length inner) (inner ++ pad) less) ∙ ap (little_number 2) same ∙ inner_length (length other) (other ++ padding) few in
    let rest : inner ++ pad ≡ other ++ padding = ap (λ (l : List ℕ). drop 2 l) same in (
      sym (take-append_seam inner pad) ∙ ap (λ (n : ℕ). take n (inner ++ pad)) long ∙ ap (λ (l : List ℕ). take (length other) l) rest ∙ take-append_seam other padding,
      sym (drop-append_seam inner pad) ∙ ap (λ (n : ℕ). drop n (inner ++ pad)) long ∙ ap (λ (l : List ℕ). drop (length other) l) rest ∙ drop-append_seam other padding,
    )

pub record_tells : (key iv : List ℕ) (req rsp number : ℕ) (inner other pad padding : List ℕ) → length inner < 65536 → length other < 65536
    → record_of key iv (session_id_bytes req rsp) number inner pad ≡ record_of key iv (session_id_bytes req rsp) number other padding
    → (inner ≡ other) × (pad ≡ padding)
record_tells key iv req rsp number inner other pad padding less few same =
    text_tells inner other pad padding less few
    (sym (opened_text-record key iv req rsp number inner pad) ∙ ap (opened_text key iv number) same ∙ opened_text-record key iv req rsp number other padding)

-- Of one inner message it tells the padding, however long it is.
pub padding_told : (key iv : List ℕ) (req rsp number : ℕ) (inner pad padding : List ℕ)
    → record_of key iv (session_id_bytes req rsp) number inner pad ≡ record_of key iv (session_id_bytes req rsp) number inner padding → pad ≡ padding
padding_told key iv req rsp number inner pad padding same =
    let text : plain_text inner pad ≡ plain_text inner padding = sym (opened_text-record key iv req rsp number inner pad) ∙ ap (opened_text key iv number) same ∙ opened_text-record key iv req rsp number inner padding in
    sym (drop-append_seam inner pad) ∙ ap (λ (l : List ℕ). drop (length inner) (drop 2 l)) text ∙ drop-append_seam inner padding
