-- The transcripts of a session whose messages are a byte or two, with 32 bytes 9 as verify data.
use Rattle.std.proofs.Common.{◌≡◌, ℕ, List, [], ◌∷◌, ◌++◌, refl}
use Rattle.std.specs.Prelude.{replicate}
use Rattle.spdm_basis.specs.declared.values.hash_alg.HashAlg.TheVariants.{Sha256}
use Rattle.running_hash.specs.Hash.{hash_of}
use Rattle.transcript.specs.Transcripts.{Negotiation, vca_of, t1_of, tv_of, t2_of}

abbrev pub negotiation : Negotiation
negotiation = record { get_version = 1 ∷ []; version = 2 ∷ []; get_capabilities = 3 ∷ []; capabilities = 4 ∷ []; negotiate_algorithms = 5 ∷ []; algorithms = 6 ∷ [] }

abbrev pub verify : List ℕ
verify = replicate 32 9

pub vca_row : vca_of negotiation ≡ 1 ∷ 2 ∷ 3 ∷ 4 ∷ 5 ∷ 6 ∷ []
vca_row = refl

-- The verify data of PSK_EXCHANGE_RSP is left out.
pub t1_row : t1_of (hash_of Sha256) (vca_of negotiation) (7 ∷ []) (8 ∷ 10 ∷ verify) ≡ 1 ∷ 2 ∷ 3 ∷ 4 ∷ 5 ∷ 6 ∷ 7 ∷ 8 ∷ 10 ∷ []
t1_row = refl

-- The verify data of PSK_EXCHANGE_RSP is there, and that of PSK_FINISH is left out.
pub tv_row : tv_of (hash_of Sha256) (vca_of negotiation) (7 ∷ []) (8 ∷ 10 ∷ verify) (11 ∷ verify) ≡ 1 ∷ 2 ∷ 3 ∷ 4 ∷ 5 ∷ 6 ∷ 7 ∷ 8 ∷ 10 ∷ verify ++ 11 ∷ []
tv_row = refl

-- All messages are there whole.
pub t2_row : t2_of (vca_of negotiation) (7 ∷ []) (8 ∷ 10 ∷ verify) (11 ∷ verify) (12 ∷ []) ≡ 1 ∷ 2 ∷ 3 ∷ 4 ∷ 5 ∷ 6 ∷ 7 ∷ 8 ∷ 10 ∷ verify ++ 11 ∷ verify ++ 12 ∷ []
t2_row = refl
