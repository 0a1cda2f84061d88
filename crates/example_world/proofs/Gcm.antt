-- The records under their keys.
use Rattle.std.proofs.Common.{◌≡◌, ◌<◌, ◌-◌, ◌*◌, ◌^◌, ◌/◌, ◌%◌, ◌∙◌, ◌++◌, ◌==◌, ℕ, List, [], ◌∷◌, refl, sym, ap, ap₂, arith, map, take, drop, length, nat_lt, Bool, true, None}
use Rattle.std.specs.Prelude.{if◌then◌else◌, bit_xor, bytes_eq, not, slice_index}
use Rattle.std.specs.List.{range_with_len}
use Rattle.aes.specs.ByteField.{sbox_of, product_below, reduced, inverse_below, power}
use Rattle.aes.specs.Cipher.{cipher, rounds, round_keys, expanded}
use Rattle.aes_gcm.specs.Gcm.{crypt, hash_key, hashed_blocks, stream_block, tag_of}
use Rattle.byteorder.specs.Endian.{little_number}
use Rattle.example_world.proofs.Bytes.{first_inner, first_iv, first_key, first_plain, first_record, first_tag, first_text, second_inner, second_iv, second_key, second_plain, second_record, second_tag, second_text, third_inner, third_iv, third_key, third_plain, third_record, third_tag, third_text, fourth_inner, fourth_iv, fourth_key, fourth_plain, fourth_record, fourth_tag, fourth_text}
use Rattle.ghash.proofs.Blocks.{product-folded}
use Rattle.ghash.proofs.Sums.{ghash-append, no_blocks}
use Rattle.ghash.specs.CarryLess.{carry_less}
use Rattle.ghash.specs.Field.{product}
use Rattle.ghash.specs.Hash.{block_bytes, block_number, ghash}
use Rattle.ghash.specs.Windows.{moved}
use Rattle.secured_record.specs.Faults.{fault_of, header_fault, inner_of, is_authentic, opened_text, text_part}
use Rattle.secured_record.specs.Format.{nonce, record_of}
use Rattle.spdm_basis.specs.Tests.{first_of_tests}
use Rattle.spdm_basis.specs.declared.causes.record_fault.RecordFault.TheVariants.{BadTag, BadInnerLength}

-- ---- GHASH, block by block.

one_more : (h g y x n : ℕ) (xs : List ℕ) → ghash h xs ≡ g → bit_xor g x ≡ y → y < 2 ^ 128 → h < 2 ^ 128 → moved 128 (carry_less 128 y h * 2) ≡ n → ghash h (xs ++ x ∷ []) ≡ n
one_more h g y x n xs is sum low high folded =
    sym (ghash-append h xs x) ∙ ap (λ (t : ℕ). product (bit_xor t x) h) is ∙ ap (λ (t : ℕ). product t h) sum ∙ sym (product-folded y h low high) ∙ folded

-- A tag by its parts.
tag_by : (key iv aad text : List ℕ) (h g m : ℕ) (xs tag : List ℕ) → hash_key key ≡ h → hashed_blocks aad text ≡ xs → ghash h xs ≡ g → block_number (stream_block key iv 1) ≡ m → block_bytes (bit_xor g m) ≡ tag
    → tag_of key iv aad text ≡ tag
tag_by key iv aad text h g m xs tag key_is blocks_are hashed mask written =
    ap₂ (λ (x : ℕ) (ys : List ℕ). block_bytes (bit_xor (ghash x ys) (block_number (stream_block key iv 1)))) key_is blocks_are
    ∙ ap₂ (λ (x y : ℕ). block_bytes (bit_xor x y)) hashed mask ∙ written

-- Bytes of up to three blocks of the key stream.
abbrev chosen : ℕ → List ℕ → List ℕ → List ℕ → List ℕ
chosen place one two three = if place == 0 then one else (if place == 1 then two else three)

abbrev crypted_by : List ℕ → (one two three : List ℕ) → List ℕ
crypted_by text one two three = map (λ i. bit_xor (slice_index text i) (slice_index (chosen (i / 16) one two three) (i % 16))) (range_with_len 0 (length text))

-- ---- The first record.

first_zero : cipher first_key (0 ∷ 0 ∷ 0 ∷ 0 ∷ 0 ∷ 0 ∷ 0 ∷ 0 ∷ 0 ∷ 0 ∷ 0 ∷ 0 ∷ 0 ∷ 0 ∷ 0 ∷ 0 ∷ []) ≡ 135 ∷ 43 ∷ 130 ∷ 142 ∷ 188 ∷ 105 ∷ 218 ∷ 174 ∷ 160 ∷ 181 ∷ 202 ∷ 160 ∷ 46 ∷ 221 ∷ 86 ∷ 180 ∷ []
unfolding cipher rounds round_keys expanded power sbox_of product_below reduced inverse_below
first_zero = refl

first_block_1 : cipher first_key (46 ∷ 239 ∷ 224 ∷ 85 ∷ 195 ∷ 87 ∷ 27 ∷ 176 ∷ 80 ∷ 94 ∷ 5 ∷ 10 ∷ 0 ∷ 0 ∷ 0 ∷ 1 ∷ []) ≡ 233 ∷ 223 ∷ 53 ∷ 87 ∷ 56 ∷ 135 ∷ 221 ∷ 201 ∷ 182 ∷ 70 ∷ 232 ∷ 150 ∷ 208 ∷ 9 ∷ 151 ∷ 162 ∷ []
unfolding cipher rounds round_keys expanded power sbox_of product_below reduced inverse_below
first_block_1 = refl

first_block_2 : cipher first_key (46 ∷ 239 ∷ 224 ∷ 85 ∷ 195 ∷ 87 ∷ 27 ∷ 176 ∷ 80 ∷ 94 ∷ 5 ∷ 10 ∷ 0 ∷ 0 ∷ 0 ∷ 2 ∷ []) ≡ 253 ∷ 23 ∷ 30 ∷ 63 ∷ 52 ∷ 178 ∷ 160 ∷ 109 ∷ 218 ∷ 68 ∷ 224 ∷ 11 ∷ 119 ∷ 113 ∷ 117 ∷ 246 ∷ []
unfolding cipher rounds round_keys expanded power sbox_of product_below reduced inverse_below
first_block_2 = refl

first_block_3 : cipher first_key (46 ∷ 239 ∷ 224 ∷ 85 ∷ 195 ∷ 87 ∷ 27 ∷ 176 ∷ 80 ∷ 94 ∷ 5 ∷ 10 ∷ 0 ∷ 0 ∷ 0 ∷ 3 ∷ []) ≡ 126 ∷ 63 ∷ 157 ∷ 82 ∷ 0 ∷ 196 ∷ 159 ∷ 192 ∷ 61 ∷ 65 ∷ 11 ∷ 187 ∷ 158 ∷ 117 ∷ 11 ∷ 115 ∷ []
unfolding cipher rounds round_keys expanded power sbox_of product_below reduced inverse_below
first_block_3 = refl

first_block_4 : cipher first_key (46 ∷ 239 ∷ 224 ∷ 85 ∷ 195 ∷ 87 ∷ 27 ∷ 176 ∷ 80 ∷ 94 ∷ 5 ∷ 10 ∷ 0 ∷ 0 ∷ 0 ∷ 4 ∷ []) ≡ 67 ∷ 77 ∷ 49 ∷ 46 ∷ 195 ∷ 52 ∷ 2 ∷ 16 ∷ 213 ∷ 233 ∷ 89 ∷ 8 ∷ 9 ∷ 121 ∷ 66 ∷ 228 ∷ []
unfolding cipher rounds round_keys expanded power sbox_of product_below reduced inverse_below
first_block_4 = refl

first_none : ghash 179671696217839343927411344103815599796 [] ≡ 0
first_none = sym (no_blocks 179671696217839343927411344103815599796)

first_hash_1 : ghash 179671696217839343927411344103815599796 (1329248278194779254730788838018383872 ∷ []) ≡ 18036674755500611472739626797040931853
unfolding moved carry_less
first_hash_1 = one_more 179671696217839343927411344103815599796 0 1329248278194779254730788838018383872 1329248278194779254730788838018383872 18036674755500611472739626797040931853 ([]) first_none refl (omega arith) (omega arith) refl

first_hash_2 : ghash 179671696217839343927411344103815599796 (1329248278194779254730788838018383872 ∷ 287233221173132027314451408304335582221 ∷ []) ≡ 147695350908443385774763987281726513626
unfolding moved carry_less
first_hash_2 = one_more 179671696217839343927411344103815599796 18036674755500611472739626797040931853 283824729839288311890455881386299580416 287233221173132027314451408304335582221 147695350908443385774763987281726513626 (1329248278194779254730788838018383872 ∷ []) first_hash_1 refl (omega arith) (omega arith) refl

first_hash_3 : ghash 179671696217839343927411344103815599796 (1329248278194779254730788838018383872 ∷ 287233221173132027314451408304335582221 ∷ 314976300116229481720967849848799285193 ∷ []) ≡ 184651769800116172803829669551997469524
unfolding moved carry_less
first_hash_3 = one_more 179671696217839343927411344103815599796 147695350908443385774763987281726513626 175349981393450550881184281878178917907 314976300116229481720967849848799285193 184651769800116172803829669551997469524 (1329248278194779254730788838018383872 ∷ 287233221173132027314451408304335582221 ∷ []) first_hash_2 refl (omega arith) (omega arith) refl

first_hash_4 : ghash 179671696217839343927411344103815599796 (1329248278194779254730788838018383872 ∷ 287233221173132027314451408304335582221 ∷ 314976300116229481720967849848799285193 ∷ 218867672224455954653941436302390984704 ∷ []) ≡ 271603706821907639544551573537786912211
unfolding moved carry_less
first_hash_4 = one_more 179671696217839343927411344103815599796 184651769800116172803829669551997469524 61491119646355685248646456252413526868 218867672224455954653941436302390984704 271603706821907639544551573537786912211 (1329248278194779254730788838018383872 ∷ 287233221173132027314451408304335582221 ∷ 314976300116229481720967849848799285193 ∷ []) first_hash_3 refl (omega arith) (omega arith) refl

first_hash_5 : ghash 179671696217839343927411344103815599796 (1329248278194779254730788838018383872 ∷ 287233221173132027314451408304335582221 ∷ 314976300116229481720967849848799285193 ∷ 218867672224455954653941436302390984704 ∷ 1180591620717411303736 ∷ []) ≡ 119898662561491306004540269699791683512
unfolding moved carry_less
first_hash_5 = one_more 179671696217839343927411344103815599796 271603706821907639544551573537786912211 271603706821907640725143194255198215403 1180591620717411303736 119898662561491306004540269699791683512 (1329248278194779254730788838018383872 ∷ 287233221173132027314451408304335582221 ∷ 314976300116229481720967849848799285193 ∷ 218867672224455954653941436302390984704 ∷ []) first_hash_4 refl (omega arith) (omega arith) refl

abbrev pub first_nonce : List ℕ
first_nonce = 46 ∷ 239 ∷ 224 ∷ 85 ∷ 195 ∷ 87 ∷ 27 ∷ 176 ∷ 80 ∷ 94 ∷ 5 ∷ 10 ∷ []

abbrev pub first_header : List ℕ
first_header = 1 ∷ 0 ∷ 1 ∷ 0 ∷ 0 ∷ 0 ∷ 55 ∷ 0 ∷ []

first_hash_key : hash_key first_key ≡ 179671696217839343927411344103815599796
unfolding block_number
first_hash_key = ap block_number first_zero

first_mask : block_number (stream_block first_key first_nonce 1) ≡ 310869087095393210126845198461469038498
unfolding block_number
first_mask = ap block_number first_block_1

first_blocks : hashed_blocks first_header first_text ≡ 1329248278194779254730788838018383872 ∷ 287233221173132027314451408304335582221 ∷ 314976300116229481720967849848799285193 ∷ 218867672224455954653941436302390984704 ∷ 1180591620717411303736 ∷ []
unfolding block_number
first_blocks = refl

first_written : block_bytes (bit_xor 119898662561491306004540269699791683512 310869087095393210126845198461469038498) ≡ first_tag
unfolding block_bytes
first_written = refl

first_tagged : tag_of first_key first_nonce first_header first_text ≡ first_tag
first_tagged = tag_by first_key first_nonce first_header first_text 179671696217839343927411344103815599796 119898662561491306004540269699791683512 310869087095393210126845198461469038498 (1329248278194779254730788838018383872 ∷ 287233221173132027314451408304335582221 ∷ 314976300116229481720967849848799285193 ∷ 218867672224455954653941436302390984704 ∷ 1180591620717411303736 ∷ []) first_tag first_hash_key first_blocks first_hash_5 first_mask first_written

first_encrypted_by : crypt first_key first_nonce first_plain ≡ crypted_by first_plain (stream_block first_key first_nonce 2) (stream_block first_key first_nonce 3) (stream_block first_key first_nonce 4)
first_encrypted_by = refl

first_encrypted : crypt first_key first_nonce first_plain ≡ first_text
first_encrypted =
    first_encrypted_by
    ∙ ap₂ (λ (x y : List ℕ). crypted_by first_plain x y (stream_block first_key first_nonce 4)) first_block_2 first_block_3
    ∙ ap (crypted_by first_plain (253 ∷ 23 ∷ 30 ∷ 63 ∷ 52 ∷ 178 ∷ 160 ∷ 109 ∷ 218 ∷ 68 ∷ 224 ∷ 11 ∷ 119 ∷ 113 ∷ 117 ∷ 246 ∷ []) (126 ∷ 63 ∷ 157 ∷ 82 ∷ 0 ∷ 196 ∷ 159 ∷ 192 ∷ 61 ∷ 65 ∷ 11 ∷ 187 ∷ 158 ∷ 117 ∷ 11 ∷ 115 ∷ [])) first_block_4

first_decrypted_by : crypt first_key first_nonce first_text ≡ crypted_by first_text (stream_block first_key first_nonce 2) (stream_block first_key first_nonce 3) (stream_block first_key first_nonce 4)
first_decrypted_by = refl

first_decrypted : crypt first_key first_nonce first_text ≡ first_plain
first_decrypted =
    first_decrypted_by
    ∙ ap₂ (λ (x y : List ℕ). crypted_by first_text x y (stream_block first_key first_nonce 4)) first_block_2 first_block_3
    ∙ ap (crypted_by first_text (253 ∷ 23 ∷ 30 ∷ 63 ∷ 52 ∷ 178 ∷ 160 ∷ 109 ∷ 218 ∷ 68 ∷ 224 ∷ 11 ∷ 119 ∷ 113 ∷ 117 ∷ 246 ∷ []) (126 ∷ 63 ∷ 157 ∷ 82 ∷ 0 ∷ 196 ∷ 159 ∷ 192 ∷ 61 ∷ 65 ∷ 11 ∷ 187 ∷ 158 ∷ 117 ∷ 11 ∷ 115 ∷ [])) first_block_4

pub first_sealed : record_of first_key first_iv (1 ∷ 0 ∷ 1 ∷ 0 ∷ []) 0 first_inner [] ≡ first_record
unfolding record_of
first_sealed =
    ap (λ (x : List ℕ). first_header ++ x ++ tag_of first_key first_nonce first_header x) first_encrypted
    ∙ ap (λ (x : List ℕ). first_header ++ first_text ++ x) first_tagged

first_right : is_authentic first_key first_iv 0 first_record ≡ true
unfolding is_authentic
first_right = ap (bytes_eq first_tag) first_tagged

first_read : opened_text first_key first_iv 0 first_record ≡ first_plain
unfolding opened_text
first_read = first_decrypted

pub first_fits : fault_of first_key first_iv (1 ∷ 0 ∷ 1 ∷ 0 ∷ []) 0 first_record ≡ None
unfolding fault_of header_fault
first_fits = ap₂ (λ (b : Bool) (x : List ℕ). first_of_tests ((not b, BadTag) ∷ (nat_lt (length x - 2) (little_number 2 x), BadInnerLength) ∷ [])) first_right first_read

pub first_opened : inner_of first_key first_iv 0 first_record ≡ first_inner
unfolding inner_of
first_opened = ap (λ (x : List ℕ). take (little_number 2 x) (drop 2 x)) first_read

pub first_tag_is : tag_of first_key (nonce first_iv 0) (take 8 first_record) (text_part first_record) ≡ first_tag
first_tag_is = first_tagged

-- ---- The second record.

second_zero : cipher second_key (0 ∷ 0 ∷ 0 ∷ 0 ∷ 0 ∷ 0 ∷ 0 ∷ 0 ∷ 0 ∷ 0 ∷ 0 ∷ 0 ∷ 0 ∷ 0 ∷ 0 ∷ 0 ∷ []) ≡ 187 ∷ 15 ∷ 66 ∷ 160 ∷ 115 ∷ 98 ∷ 65 ∷ 62 ∷ 93 ∷ 66 ∷ 58 ∷ 229 ∷ 169 ∷ 44 ∷ 111 ∷ 73 ∷ []
unfolding cipher rounds round_keys expanded power sbox_of product_below reduced inverse_below
second_zero = refl

second_block_1 : cipher second_key (92 ∷ 177 ∷ 20 ∷ 85 ∷ 111 ∷ 76 ∷ 92 ∷ 5 ∷ 23 ∷ 104 ∷ 93 ∷ 231 ∷ 0 ∷ 0 ∷ 0 ∷ 1 ∷ []) ≡ 69 ∷ 22 ∷ 105 ∷ 144 ∷ 153 ∷ 51 ∷ 206 ∷ 142 ∷ 179 ∷ 127 ∷ 143 ∷ 186 ∷ 186 ∷ 52 ∷ 50 ∷ 4 ∷ []
unfolding cipher rounds round_keys expanded power sbox_of product_below reduced inverse_below
second_block_1 = refl

second_block_2 : cipher second_key (92 ∷ 177 ∷ 20 ∷ 85 ∷ 111 ∷ 76 ∷ 92 ∷ 5 ∷ 23 ∷ 104 ∷ 93 ∷ 231 ∷ 0 ∷ 0 ∷ 0 ∷ 2 ∷ []) ≡ 192 ∷ 75 ∷ 178 ∷ 255 ∷ 127 ∷ 228 ∷ 122 ∷ 74 ∷ 48 ∷ 99 ∷ 204 ∷ 233 ∷ 181 ∷ 178 ∷ 99 ∷ 45 ∷ []
unfolding cipher rounds round_keys expanded power sbox_of product_below reduced inverse_below
second_block_2 = refl

second_none : ghash 248644871015906692903998307214432169801 [] ≡ 0
second_none = sym (no_blocks 248644871015906692903998307214432169801)

second_hash_1 : ghash 248644871015906692903998307214432169801 (1329248278194628139003337009371545600 ∷ []) ≡ 39604912176808049624957025761585213185
unfolding moved carry_less
second_hash_1 = one_more 248644871015906692903998307214432169801 0 1329248278194628139003337009371545600 1329248278194628139003337009371545600 39604912176808049624957025761585213185 ([]) second_none refl (omega arith) (omega arith) refl

second_hash_2 : ghash 248644871015906692903998307214432169801 (1329248278194628139003337009371545600 ∷ 262251067899754374621820697314764783616 ∷ []) ≡ 189020529547238552750702235539381365728
unfolding moved carry_less
second_hash_2 = one_more 248644871015906692903998307214432169801 39604912176808049624957025761585213185 287778327659448519211107435116489551617 262251067899754374621820697314764783616 189020529547238552750702235539381365728 (1329248278194628139003337009371545600 ∷ []) second_hash_1 refl (omega arith) (omega arith) refl

second_hash_3 : ghash 248644871015906692903998307214432169801 (1329248278194628139003337009371545600 ∷ 262251067899754374621820697314764783616 ∷ 1180591620717411303480 ∷ []) ≡ 54708730074520015059239273861378474191
unfolding moved carry_less
second_hash_3 = one_more 248644871015906692903998307214432169801 189020529547238552750702235539381365728 189020529547238551570110614821970062296 1180591620717411303480 54708730074520015059239273861378474191 (1329248278194628139003337009371545600 ∷ 262251067899754374621820697314764783616 ∷ []) second_hash_2 refl (omega arith) (omega arith) refl

abbrev pub second_nonce : List ℕ
second_nonce = 92 ∷ 177 ∷ 20 ∷ 85 ∷ 111 ∷ 76 ∷ 92 ∷ 5 ∷ 23 ∷ 104 ∷ 93 ∷ 231 ∷ []

abbrev pub second_header : List ℕ
second_header = 1 ∷ 0 ∷ 1 ∷ 0 ∷ 0 ∷ 0 ∷ 23 ∷ 0 ∷ []

second_hash_key : hash_key second_key ≡ 248644871015906692903998307214432169801
unfolding block_number
second_hash_key = ap block_number second_zero

second_mask : block_number (stream_block second_key second_nonce 1) ≡ 91833103349324584076982971913754391044
unfolding block_number
second_mask = ap block_number second_block_1

second_blocks : hashed_blocks second_header second_text ≡ 1329248278194628139003337009371545600 ∷ 262251067899754374621820697314764783616 ∷ 1180591620717411303480 ∷ []
unfolding block_number
second_blocks = refl

second_written : block_bytes (bit_xor 54708730074520015059239273861378474191 91833103349324584076982971913754391044) ≡ second_tag
unfolding block_bytes
second_written = refl

second_tagged : tag_of second_key second_nonce second_header second_text ≡ second_tag
second_tagged = tag_by second_key second_nonce second_header second_text 248644871015906692903998307214432169801 54708730074520015059239273861378474191 91833103349324584076982971913754391044 (1329248278194628139003337009371545600 ∷ 262251067899754374621820697314764783616 ∷ 1180591620717411303480 ∷ []) second_tag second_hash_key second_blocks second_hash_3 second_mask second_written

second_encrypted_by : crypt second_key second_nonce second_plain ≡ crypted_by second_plain (stream_block second_key second_nonce 2) [] []
second_encrypted_by = refl

second_encrypted : crypt second_key second_nonce second_plain ≡ second_text
second_encrypted =
    second_encrypted_by
    ∙ ap (λ (x : List ℕ). crypted_by second_plain x [] []) second_block_2

second_decrypted_by : crypt second_key second_nonce second_text ≡ crypted_by second_text (stream_block second_key second_nonce 2) [] []
second_decrypted_by = refl

second_decrypted : crypt second_key second_nonce second_text ≡ second_plain
second_decrypted =
    second_decrypted_by
    ∙ ap (λ (x : List ℕ). crypted_by second_text x [] []) second_block_2

pub second_sealed : record_of second_key second_iv (1 ∷ 0 ∷ 1 ∷ 0 ∷ []) 0 second_inner [] ≡ second_record
unfolding record_of
second_sealed =
    ap (λ (x : List ℕ). second_header ++ x ++ tag_of second_key second_nonce second_header x) second_encrypted
    ∙ ap (λ (x : List ℕ). second_header ++ second_text ++ x) second_tagged

second_right : is_authentic second_key second_iv 0 second_record ≡ true
unfolding is_authentic
second_right = ap (bytes_eq second_tag) second_tagged

second_read : opened_text second_key second_iv 0 second_record ≡ second_plain
unfolding opened_text
second_read = second_decrypted

pub second_fits : fault_of second_key second_iv (1 ∷ 0 ∷ 1 ∷ 0 ∷ []) 0 second_record ≡ None
unfolding fault_of header_fault
second_fits = ap₂ (λ (b : Bool) (x : List ℕ). first_of_tests ((not b, BadTag) ∷ (nat_lt (length x - 2) (little_number 2 x), BadInnerLength) ∷ [])) second_right second_read

pub second_opened : inner_of second_key second_iv 0 second_record ≡ second_inner
unfolding inner_of
second_opened = ap (λ (x : List ℕ). take (little_number 2 x) (drop 2 x)) second_read

pub second_tag_is : tag_of second_key (nonce second_iv 0) (take 8 second_record) (text_part second_record) ≡ second_tag
second_tag_is = second_tagged

-- ---- The third record.

third_zero : cipher third_key (0 ∷ 0 ∷ 0 ∷ 0 ∷ 0 ∷ 0 ∷ 0 ∷ 0 ∷ 0 ∷ 0 ∷ 0 ∷ 0 ∷ 0 ∷ 0 ∷ 0 ∷ 0 ∷ []) ≡ 167 ∷ 134 ∷ 197 ∷ 11 ∷ 90 ∷ 228 ∷ 182 ∷ 139 ∷ 146 ∷ 132 ∷ 57 ∷ 212 ∷ 140 ∷ 160 ∷ 121 ∷ 108 ∷ []
unfolding cipher rounds round_keys expanded power sbox_of product_below reduced inverse_below
third_zero = refl

third_block_1 : cipher third_key (212 ∷ 183 ∷ 226 ∷ 158 ∷ 187 ∷ 66 ∷ 155 ∷ 14 ∷ 105 ∷ 253 ∷ 232 ∷ 194 ∷ 0 ∷ 0 ∷ 0 ∷ 1 ∷ []) ≡ 44 ∷ 228 ∷ 213 ∷ 68 ∷ 77 ∷ 63 ∷ 14 ∷ 229 ∷ 217 ∷ 213 ∷ 234 ∷ 6 ∷ 104 ∷ 45 ∷ 169 ∷ 31 ∷ []
unfolding cipher rounds round_keys expanded power sbox_of product_below reduced inverse_below
third_block_1 = refl

third_block_2 : cipher third_key (212 ∷ 183 ∷ 226 ∷ 158 ∷ 187 ∷ 66 ∷ 155 ∷ 14 ∷ 105 ∷ 253 ∷ 232 ∷ 194 ∷ 0 ∷ 0 ∷ 0 ∷ 2 ∷ []) ≡ 28 ∷ 172 ∷ 53 ∷ 63 ∷ 152 ∷ 115 ∷ 82 ∷ 144 ∷ 8 ∷ 25 ∷ 48 ∷ 222 ∷ 32 ∷ 244 ∷ 137 ∷ 94 ∷ []
unfolding cipher rounds round_keys expanded power sbox_of product_below reduced inverse_below
third_block_2 = refl

third_none : ghash 222680839609456472729288223882058168684 [] ≡ 0
third_none = sym (no_blocks 222680839609456472729288223882058168684)

third_hash_1 : ghash 222680839609456472729288223882058168684 (1329248278194618694270371270081118208 ∷ []) ≡ 45117528873693620072503461068442619914
unfolding moved carry_less
third_hash_1 = one_more 222680839609456472729288223882058168684 0 1329248278194618694270371270081118208 1329248278194618694270371270081118208 45117528873693620072503461068442619914 ([]) third_none refl (omega arith) (omega arith) refl

third_hash_2 : ghash 222680839609456472729288223882058168684 (1329248278194618694270371270081118208 ∷ 42100204581735798406928841695379324928 ∷ []) ≡ 159754705454689476606616607845225005371
unfolding moved carry_less
third_hash_2 = one_more 222680839609456472729288223882058168684 45117528873693620072503461068442619914 82897082864964949699035336966945296394 42100204581735798406928841695379324928 159754705454689476606616607845225005371 (1329248278194618694270371270081118208 ∷ []) third_hash_1 refl (omega arith) (omega arith) refl

third_hash_3 : ghash 222680839609456472729288223882058168684 (1329248278194618694270371270081118208 ∷ 42100204581735798406928841695379324928 ∷ 1180591620717411303464 ∷ []) ≡ 26651092689609433285842003268213899764
unfolding moved carry_less
third_hash_3 = one_more 222680839609456472729288223882058168684 159754705454689476606616607845225005371 159754705454689477787208228562636308755 1180591620717411303464 26651092689609433285842003268213899764 (1329248278194618694270371270081118208 ∷ 42100204581735798406928841695379324928 ∷ []) third_hash_2 refl (omega arith) (omega arith) refl

abbrev pub third_nonce : List ℕ
third_nonce = 212 ∷ 183 ∷ 226 ∷ 158 ∷ 187 ∷ 66 ∷ 155 ∷ 14 ∷ 105 ∷ 253 ∷ 232 ∷ 194 ∷ []

abbrev pub third_header : List ℕ
third_header = 1 ∷ 0 ∷ 1 ∷ 0 ∷ 0 ∷ 0 ∷ 21 ∷ 0 ∷ []

third_hash_key : hash_key third_key ≡ 222680839609456472729288223882058168684
unfolding block_number
third_hash_key = ap block_number third_zero

third_mask : block_number (stream_block third_key third_nonce 1) ≡ 59674201062949446318858875314753087775
unfolding block_number
third_mask = ap block_number third_block_1

third_blocks : hashed_blocks third_header third_text ≡ 1329248278194618694270371270081118208 ∷ 42100204581735798406928841695379324928 ∷ 1180591620717411303464 ∷ []
unfolding block_number
third_blocks = refl

third_written : block_bytes (bit_xor 26651092689609433285842003268213899764 59674201062949446318858875314753087775) ≡ third_tag
unfolding block_bytes
third_written = refl

third_tagged : tag_of third_key third_nonce third_header third_text ≡ third_tag
third_tagged = tag_by third_key third_nonce third_header third_text 222680839609456472729288223882058168684 26651092689609433285842003268213899764 59674201062949446318858875314753087775 (1329248278194618694270371270081118208 ∷ 42100204581735798406928841695379324928 ∷ 1180591620717411303464 ∷ []) third_tag third_hash_key third_blocks third_hash_3 third_mask third_written

third_encrypted_by : crypt third_key third_nonce third_plain ≡ crypted_by third_plain (stream_block third_key third_nonce 2) [] []
third_encrypted_by = refl

third_encrypted : crypt third_key third_nonce third_plain ≡ third_text
third_encrypted =
    third_encrypted_by
    ∙ ap (λ (x : List ℕ). crypted_by third_plain x [] []) third_block_2

third_decrypted_by : crypt third_key third_nonce third_text ≡ crypted_by third_text (stream_block third_key third_nonce 2) [] []
third_decrypted_by = refl

third_decrypted : crypt third_key third_nonce third_text ≡ third_plain
third_decrypted =
    third_decrypted_by
    ∙ ap (λ (x : List ℕ). crypted_by third_text x [] []) third_block_2

pub third_sealed : record_of third_key third_iv (1 ∷ 0 ∷ 1 ∷ 0 ∷ []) 0 third_inner [] ≡ third_record
unfolding record_of
third_sealed =
    ap (λ (x : List ℕ). third_header ++ x ++ tag_of third_key third_nonce third_header x) third_encrypted
    ∙ ap (λ (x : List ℕ). third_header ++ third_text ++ x) third_tagged

third_right : is_authentic third_key third_iv 0 third_record ≡ true
unfolding is_authentic
third_right = ap (bytes_eq third_tag) third_tagged

third_read : opened_text third_key third_iv 0 third_record ≡ third_plain
unfolding opened_text
third_read = third_decrypted

pub third_fits : fault_of third_key third_iv (1 ∷ 0 ∷ 1 ∷ 0 ∷ []) 0 third_record ≡ None
unfolding fault_of header_fault
third_fits = ap₂ (λ (b : Bool) (x : List ℕ). first_of_tests ((not b, BadTag) ∷ (nat_lt (length x - 2) (little_number 2 x), BadInnerLength) ∷ [])) third_right third_read

pub third_opened : inner_of third_key third_iv 0 third_record ≡ third_inner
unfolding inner_of
third_opened = ap (λ (x : List ℕ). take (little_number 2 x) (drop 2 x)) third_read

pub third_tag_is : tag_of third_key (nonce third_iv 0) (take 8 third_record) (text_part third_record) ≡ third_tag
third_tag_is = third_tagged

-- ---- The fourth record.

fourth_zero : cipher fourth_key (0 ∷ 0 ∷ 0 ∷ 0 ∷ 0 ∷ 0 ∷ 0 ∷ 0 ∷ 0 ∷ 0 ∷ 0 ∷ 0 ∷ 0 ∷ 0 ∷ 0 ∷ 0 ∷ []) ≡ 167 ∷ 91 ∷ 220 ∷ 111 ∷ 217 ∷ 125 ∷ 131 ∷ 41 ∷ 48 ∷ 43 ∷ 233 ∷ 150 ∷ 57 ∷ 231 ∷ 111 ∷ 113 ∷ []
unfolding cipher rounds round_keys expanded power sbox_of product_below reduced inverse_below
fourth_zero = refl

fourth_block_1 : cipher fourth_key (78 ∷ 121 ∷ 96 ∷ 26 ∷ 27 ∷ 156 ∷ 50 ∷ 124 ∷ 208 ∷ 125 ∷ 188 ∷ 69 ∷ 0 ∷ 0 ∷ 0 ∷ 1 ∷ []) ≡ 242 ∷ 118 ∷ 21 ∷ 17 ∷ 151 ∷ 149 ∷ 140 ∷ 98 ∷ 152 ∷ 134 ∷ 32 ∷ 14 ∷ 57 ∷ 103 ∷ 128 ∷ 72 ∷ []
unfolding cipher rounds round_keys expanded power sbox_of product_below reduced inverse_below
fourth_block_1 = refl

fourth_block_2 : cipher fourth_key (78 ∷ 121 ∷ 96 ∷ 26 ∷ 27 ∷ 156 ∷ 50 ∷ 124 ∷ 208 ∷ 125 ∷ 188 ∷ 69 ∷ 0 ∷ 0 ∷ 0 ∷ 2 ∷ []) ≡ 126 ∷ 123 ∷ 91 ∷ 233 ∷ 66 ∷ 201 ∷ 54 ∷ 234 ∷ 135 ∷ 86 ∷ 110 ∷ 122 ∷ 244 ∷ 231 ∷ 207 ∷ 35 ∷ []
unfolding cipher rounds round_keys expanded power sbox_of product_below reduced inverse_below
fourth_block_2 = refl

fourth_none : ghash 222458045301956444788447391786413289329 [] ≡ 0
fourth_none = sym (no_blocks 222458045301956444788447391786413289329)

fourth_hash_1 : ghash 222458045301956444788447391786413289329 (1329248278194609249537405530790690816 ∷ []) ≡ 286023701712811546247295967119400710664
unfolding moved carry_less
fourth_hash_1 = one_more 222458045301956444788447391786413289329 0 1329248278194609249537405530790690816 1329248278194609249537405530790690816 286023701712811546247295967119400710664 ([]) fourth_none refl (omega arith) (omega arith) refl

fourth_hash_2 : ghash 222458045301956444788447391786413289329 (1329248278194609249537405530790690816 ∷ 169452433395148428307430902956713574400 ∷ []) ≡ 286362898033878922359627400641662819742
unfolding moved carry_less
fourth_hash_2 = one_more 222458045301956444788447391786413289329 286023701712811546247295967119400710664 223753986386714028721941096739659264520 169452433395148428307430902956713574400 286362898033878922359627400641662819742 (1329248278194609249537405530790690816 ∷ []) fourth_hash_1 refl (omega arith) (omega arith) refl

fourth_hash_3 : ghash 222458045301956444788447391786413289329 (1329248278194609249537405530790690816 ∷ 169452433395148428307430902956713574400 ∷ 1180591620717411303448 ∷ []) ≡ 106449731570855230269550709107979256462
unfolding moved carry_less
fourth_hash_3 = one_more 222458045301956444788447391786413289329 286362898033878922359627400641662819742 286362898033878921179035779924251516294 1180591620717411303448 106449731570855230269550709107979256462 (1329248278194609249537405530790690816 ∷ 169452433395148428307430902956713574400 ∷ []) fourth_hash_2 refl (omega arith) (omega arith) refl

abbrev pub fourth_nonce : List ℕ
fourth_nonce = 78 ∷ 121 ∷ 96 ∷ 26 ∷ 27 ∷ 156 ∷ 50 ∷ 124 ∷ 208 ∷ 125 ∷ 188 ∷ 69 ∷ []

abbrev pub fourth_header : List ℕ
fourth_header = 1 ∷ 0 ∷ 1 ∷ 0 ∷ 0 ∷ 0 ∷ 19 ∷ 0 ∷ []

fourth_hash_key : hash_key fourth_key ≡ 222458045301956444788447391786413289329
unfolding block_number
fourth_hash_key = ap block_number fourth_zero

fourth_mask : block_number (stream_block fourth_key fourth_nonce 1) ≡ 322286293333650219710685262421663645768
unfolding block_number
fourth_mask = ap block_number fourth_block_1

fourth_blocks : hashed_blocks fourth_header fourth_text ≡ 1329248278194609249537405530790690816 ∷ 169452433395148428307430902956713574400 ∷ 1180591620717411303448 ∷ []
unfolding block_number
fourth_blocks = refl

fourth_written : block_bytes (bit_xor 106449731570855230269550709107979256462 322286293333650219710685262421663645768) ≡ fourth_tag
unfolding block_bytes
fourth_written = refl

fourth_tagged : tag_of fourth_key fourth_nonce fourth_header fourth_text ≡ fourth_tag
fourth_tagged = tag_by fourth_key fourth_nonce fourth_header fourth_text 222458045301956444788447391786413289329 106449731570855230269550709107979256462 322286293333650219710685262421663645768 (1329248278194609249537405530790690816 ∷ 169452433395148428307430902956713574400 ∷ 1180591620717411303448 ∷ []) fourth_tag fourth_hash_key fourth_blocks fourth_hash_3 fourth_mask fourth_written

fourth_encrypted_by : crypt fourth_key fourth_nonce fourth_plain ≡ crypted_by fourth_plain (stream_block fourth_key fourth_nonce 2) [] []
fourth_encrypted_by = refl

fourth_encrypted : crypt fourth_key fourth_nonce fourth_plain ≡ fourth_text
fourth_encrypted =
    fourth_encrypted_by
    ∙ ap (λ (x : List ℕ). crypted_by fourth_plain x [] []) fourth_block_2

fourth_decrypted_by : crypt fourth_key fourth_nonce fourth_text ≡ crypted_by fourth_text (stream_block fourth_key fourth_nonce 2) [] []
fourth_decrypted_by = refl

fourth_decrypted : crypt fourth_key fourth_nonce fourth_text ≡ fourth_plain
fourth_decrypted =
    fourth_decrypted_by
    ∙ ap (λ (x : List ℕ). crypted_by fourth_text x [] []) fourth_block_2

pub fourth_sealed : record_of fourth_key fourth_iv (1 ∷ 0 ∷ 1 ∷ 0 ∷ []) 0 fourth_inner [] ≡ fourth_record
unfolding record_of
fourth_sealed =
    ap (λ (x : List ℕ). fourth_header ++ x ++ tag_of fourth_key fourth_nonce fourth_header x) fourth_encrypted
    ∙ ap (λ (x : List ℕ). fourth_header ++ fourth_text ++ x) fourth_tagged

fourth_right : is_authentic fourth_key fourth_iv 0 fourth_record ≡ true
unfolding is_authentic
fourth_right = ap (bytes_eq fourth_tag) fourth_tagged

fourth_read : opened_text fourth_key fourth_iv 0 fourth_record ≡ fourth_plain
unfolding opened_text
fourth_read = fourth_decrypted

pub fourth_fits : fault_of fourth_key fourth_iv (1 ∷ 0 ∷ 1 ∷ 0 ∷ []) 0 fourth_record ≡ None
unfolding fault_of header_fault
fourth_fits = ap₂ (λ (b : Bool) (x : List ℕ). first_of_tests ((not b, BadTag) ∷ (nat_lt (length x - 2) (little_number 2 x), BadInnerLength) ∷ [])) fourth_right fourth_read

pub fourth_opened : inner_of fourth_key fourth_iv 0 fourth_record ≡ fourth_inner
unfolding inner_of
fourth_opened = ap (λ (x : List ℕ). take (little_number 2 x) (drop 2 x)) fourth_read

pub fourth_tag_is : tag_of fourth_key (nonce fourth_iv 0) (take 8 fourth_record) (text_part fourth_record) ≡ fourth_tag
fourth_tag_is = fourth_tagged
