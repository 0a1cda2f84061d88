-- The flags of capabilities (DSP0274, "Flag fields definitions for the Requester", and for the responder).
use Rattle.std.specs.Prelude.{ℕ, zero, suc, ◌/◌, ◌%◌, ◌^◌, ◌==◌, List, [], ◌∷◌, ◌++◌, codes, if◌then◌else◌}

-- The flag of a bit; MEAS_CAP and PSK_CAP have two bits each.
unfoldable pub flag_name : ℕ → List ℕ
flag_name bit =
    if bit == 0 then codes "CACHE_CAP"
    else (if bit == 1 then codes "CERT_CAP"
    else (if bit == 2 then codes "CHAL_CAP"
    else (if bit == 3 then codes "MEAS_CAP(1)"
    else (if bit == 4 then codes "MEAS_CAP(2)"
    else (if bit == 5 then codes "MEAS_FRESH_CAP"
    else (if bit == 6 then codes "ENCRYPT_CAP"
    else (if bit == 7 then codes "MAC_CAP"
    else (if bit == 8 then codes "MUT_AUTH_CAP"
    else (if bit == 9 then codes "KEY_EX_CAP"
    else (if bit == 10 then codes "PSK_CAP(1)"
    else (if bit == 11 then codes "PSK_CAP(2)"
    else (if bit == 12 then codes "ENCAP_CAP"
    else (if bit == 13 then codes "HBEAT_CAP"
    else (if bit == 14 then codes "KEY_UPD_CAP"
    else (if bit == 15 then codes "HANDSHAKE_IN_THE_CLEAR_CAP"
    else (if bit == 16 then codes "PUB_KEY_ID_CAP"
    else (if bit == 17 then codes "CHUNK_CAP"
    else (if bit == 18 then codes "ALIAS_CERT_CAP"
    else codes "Reserved"))))))))))))))))))

abbrev pub word_of_bit : (is_set bit : ℕ) → List (List ℕ)
word_of_bit is_set bit = if is_set == 1 then flag_name bit ∷ [] else []

-- The flags of a number that stand below a bit, the lowest first.
unfoldable pub flags_below : (bit number : ℕ) → List (List ℕ)
flags_below zero number = []
flags_below (suc bit) number = flags_below bit number ++ word_of_bit (number / 2 ^ bit % 2) bit
