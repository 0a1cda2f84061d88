-- The parts of MEASUREMENTS.
use Rattle.std.proofs.Common.{◌≡◌, ◌+◌, ◌++◌, ℕ, List, [], ◌∷◌, refl, sym, ap, ◌∙◌, drop, take, length, length-append, arith, false, Result, Ok, Err}
use Rattle.std.specs.Prelude.{OnOk, is_err}
use Rattle.std.proofs.lemmas.Bool.{false≢true}
use Rattle.std.proofs.Math.Seq.{drop-append-add, drop-append_seam, take-append_seam}
use Rattle.byteorder.specs.Endian.{little_bytes}
use Rattle.measurements.specs.Blocks.{record_of}
use Rattle.measurements.specs.Records.{asked}
use Rattle.responder_machine.specs.Answer.{Free, measurements_answer}
use Rattle.responder_machine.specs.Setup.{RspSetup, inventory_of}
use Rattle.spdm_grammar.specs.Responses.{canonical_response}

assoc : (a b c : List ℕ) → (a ++ b) ++ c ≡ a ++ (b ++ c)
assoc [] b c = refl
assoc (x ∷ a) b c = ap (λ (l : List ℕ). x ∷ l) (assoc a b c)

apart : (a b c d : List ℕ) → ((a ++ b) ++ c) ++ d ≡ a ++ (b ++ (c ++ d))
apart a b c d = assoc (a ++ b) c d ∙ assoc a b (c ++ d)

-- What is said of what came is so, where it came.
pub on_ok : {A : Type 0} {E : Type 0} (x : Result A E) (P : Type 0) → is_err x ≡ false → OnOk x P → P
on_ok (Ok n) P ok is = is
on_ok (Err fault) P err is = absurd (false≢true (sym err))

module _ (r : RspSetup) (op : ℕ) (f : Free) (nonce : length f.nonce ≡ 32) (whole : List ℕ) (is : whole ≡ canonical_response (measurements_answer r f op)) (at : ℕ) (there : at ≡ 8 + length (record_of (asked op (inventory_of r)))) where
  abbrev blocks : List ℕ
  blocks = record_of (asked op (inventory_of r))

  abbrev rest : List ℕ
  rest = f.nonce ++ (little_bytes 2 (length f.measured_opaque) ++ f.measured_opaque)

  -- What stands before the blocks.
  abbrev front : List ℕ
  front = take 8 (canonical_response (measurements_answer r f op))

  eight : length front ≡ 8
  eight = refl

  parts : canonical_response (measurements_answer r f op) ≡ front ++ (blocks ++ rest)
  parts = ap (λ (l : List ℕ). front ++ l) (apart blocks f.nonce (little_bytes 2 (length f.measured_opaque)) f.measured_opaque)

  behind : drop at whole ≡ rest
  behind =
      ap (λ (n : ℕ). drop n whole) there ∙ ap (drop (8 + length blocks)) (is ∙ parts) ∙ ap (λ (n : ℕ). drop (n + length blocks) (front ++ (blocks ++ rest))) (sym eight)
      ∙ drop-append-add front (blocks ++ rest) (length blocks) ∙ drop-append_seam blocks rest

  after_nonce : drop 32 (drop at whole) ≡ little_bytes 2 (length f.measured_opaque) ++ f.measured_opaque
  after_nonce =
      ap (drop 32) behind ∙ ap (λ (n : ℕ). drop n rest) (sym nonce) ∙ drop-append_seam f.nonce (little_bytes 2 (length f.measured_opaque) ++ f.measured_opaque)

  pub nonce_is : take 32 (drop at whole) ≡ f.nonce
  nonce_is = ap (take 32) behind ∙ ap (λ (n : ℕ). take n rest) (sym nonce) ∙ take-append_seam f.nonce (little_bytes 2 (length f.measured_opaque) ++ f.measured_opaque)

  pub opaque_is : drop 2 (drop 32 (drop at whole)) ≡ f.measured_opaque
  opaque_is = ap (drop 2) after_nonce

  pub long_is : length whole ≡ at + 34 + length f.measured_opaque
  long_is =
      let all : length whole ≡ length (canonical_response (measurements_answer r f op)) = ap (λ (l : List ℕ). length l) is in
      let split : length (canonical_response (measurements_answer r f op)) ≡ length (front ++ (blocks ++ rest)) = ap (λ (l : List ℕ). length l) parts in
      let zero : length (front ++ (blocks ++ rest)) ≡ length front + length (blocks ++ rest) = length-append front (blocks ++ rest) in
      let one : length (blocks ++ rest) ≡ length blocks + length rest = length-append blocks rest in
      let two : length rest ≡ length f.nonce + length (little_bytes 2 (length f.measured_opaque) ++ f.measured_opaque) = length-append f.nonce (little_bytes 2 (length f.measured_opaque) ++ f.measured_opaque) in
      let three : length (little_bytes 2 (length f.measured_opaque) ++ f.measured_opaque) ≡ 2 + length f.measured_opaque = length-append (little_bytes 2 (length f.measured_opaque)) f.measured_opaque in
      omega (arith, all, split, zero, eight, one, two, three, nonce, there)
