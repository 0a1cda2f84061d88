-- What one end seals of a session that both hold alike, the other opens, and it is no copy of a record under another
-- purpose or number.
use Rattle.std.proofs.Common.{◌≡◌, ◌∙◌, ℕ, ◌<◌, ◌≤◌, ◌+◌, List, [], ◌∷◌, length, None, sym, ap, inl, inr, arith, length-append}
use Rattle.aes_gcm.specs.Gcm.{crypt, tag_of}
use Rattle.aes_gcm.proofs.Tags.{length-tag_of}
use Rattle.aes_gcm.proofs.Twice.{length-crypt}
use Rattle.key_schedule.specs.Purpose.{Purpose, key_of, iv_of}
use Rattle.secured_record.specs.Faults.{tag_part}
use Rattle.secured_record.specs.Format.{record_of, plain_text, header, nonce}
use Rattle.secured_record.proofs.Records.{record_opens}
use Rattle.spdm_basis.specs.SessionIdBytes.{session_id_bytes}
use Rattle.spdm_grammar.specs.declared.messages.choice.Choice.{Choice}
use Rattle.spdm_machine.specs.Keys.{inner_message, record_fault, sealed_of}
use Rattle.spdm_machine.specs.TagLog.{Log, made_record, record_input, record_tag}
use Rattle.spdm_machine.specs.TagLog.Act.{Made, Checked}
use Rattle.spdm_machine.proofs.Members.{IsIn, in_contained}
use Rattle.requester_machine.specs.Records.{request_purpose}
use Rattle.requester_machine.specs.Session.{Steps, request_next}
use Rattle.responder_machine.specs.Session.{id_in_record}
use Rattle.spdm_agreement.proofs.Requester.SealAndHear.{opened_as}
use Rattle.spdm_progress.specs.InStep.{WasSealed}
use Rattle.world_machine.specs.Chance.{AreAlike, NoChance}

module _ (choice : Choice) (p : Purpose) (number req rsp : ℕ) (inner pad : List ℕ) where
  abbrev pub the_record : List ℕ
  the_record = sealed_of choice p number (session_id_bytes req rsp) inner pad

  -- A record has 26 bytes beside its inner message and padding.
  pub record_length : length the_record ≡ length inner + length pad + 26
  unfolding sealed_of record_of
  record_length =
      let key = key_of choice.hash choice.aead p in
      let iv = nonce (iv_of choice.hash p) number in
      let text = plain_text inner pad in
      let front = header (session_id_bytes req rsp) number (length text + 16) in
      let c = crypt key iv text in
      omega (arith, length-append inner pad, length-append c (tag_of key iv front c), length-crypt key iv text, length-tag_of key iv front c)

  -- It opens under the same purpose, number and id.
  pub opens : length inner + length pad ≤ 4134 → (record_fault choice p number (session_id_bytes req rsp) the_record ≡ None) × (inner_message choice p number the_record ≡ inner)
  unfolding sealed_of record_fault inner_message
  opens fits = record_opens (key_of choice.hash choice.aead p) (iv_of choice.hash p) req rsp number inner pad (omega (arith, record_length))

  -- It names the session.
  pub names_session : rsp < 65536 → id_in_record the_record ≡ rsp
  unfolding sealed_of record_of
  names_session small = omega arith

  -- Its tag is the one that was made for it.
  pub tag_is : length inner + length pad ≤ 4134 → record_tag choice p number the_record ≡ tag_part the_record
  tag_is fits = (opened_as choice p number (session_id_bytes req rsp) the_record (opens fits).0).1

-- ---- No copy.

alike_in : (p q : Purpose) (i j v u : List ℕ) (log : Log) → AreAlike p i v log → IsIn log (Made q j u) → u ≡ v → (p ≡ q) × (i ≡ j)
alike_in p q i j v u [] alike m same = absurd m
alike_in p q i j v u (Made a b w ∷ older) alike (inl is) same =
    let purpose : q ≡ a = cc in
    let input : j ≡ b = cc in
    let value : u ≡ w = cc in
    let k = alike.0 (sym value ∙ same) in
    (k.0 ∙ sym purpose, k.1 ∙ sym input)
alike_in p q i j v u (Made a b w ∷ older) alike (inr m) same = alike_in p q i j v u older alike.1 m same
alike_in p q i j v u (Checked a b w r ∷ older) alike (inl is) same = absurd (cc)
alike_in p q i j v u (Checked a b w r ∷ older) alike (inr m) same = alike_in p q i j v u older alike.1 m same

first_same : (a b : ℕ) (xs ys : List ℕ) → a ∷ xs ≡ b ∷ ys → a ≡ b
first_same a b xs ys e = cc

-- Where nothing agrees by chance, what is sealed next is not the same bytes.
pub no_copy : (psk : List ℕ) (log : Log) (s : Steps) (choice : Choice) (sealed kept : List ℕ) → NoChance (made_record choice (request_purpose psk s) (request_next s) sealed ∷ log) → record_tag choice (request_purpose psk s) (request_next s) sealed ≡ tag_part sealed
    → WasSealed psk log s kept → kept ≡ sealed → ⊥
no_copy psk log s choice sealed kept chance tag was same =
    let k = alike_in (request_purpose psk s) was.purpose (record_input (request_next s) sealed) (record_input was.number kept) (record_tag choice (request_purpose psk s) (request_next s) sealed) (tag_part kept) log chance.0 (in_contained log _ was.made) (ap tag_part same ∙ sym tag) in
    was.other (sym k.0) (sym (first_same _ _ _ _ k.1))
