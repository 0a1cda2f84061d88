-- The reply that a responder writes (DSP0274, "Successful ALGORITHMS response message format"; what it repeats of the offer is this project's own).
use Rattle.std.specs.Prelude.{ℕ, Bool, ◌==◌, ◌&&◌, not, nat_le, bit_and, if◌then◌else◌, List, [], ◌∷◌, ◌++◌, length, map}
use Rattle.std.specs.List.{filter}
use Rattle.spdm_basis.specs.declared.values.hash_alg.HashAlg.{HashAlg}
use Rattle.spdm_basis.specs.declared.values.hash_alg.HashAlg.TheVariants.{Sha256, Sha384}
use Rattle.spdm_grammar.specs.declared.messages.choice.Choice.{Choice}
use Rattle.spdm_grammar.specs.Message.{OfferMessage, ReplyMessage}
use Rattle.negotiate.specs.Choosing.{hash_bit, aead_bit}
use Rattle.negotiate.specs.Tables.{Table, tables_in}

-- A type of structure that is answered: 2 DHE, 3 AEAD, 4 ReqBaseAsym, 5 KeySchedule.
abbrev pub is_answered : ℕ → Bool
is_answered kind = nat_le 2 kind && nat_le kind 5

-- The list without this type.
abbrev pub without : ℕ → List ℕ → List ℕ
without kind kinds = filter (λ other. not (other == kind)) kinds

-- Each type that is answered once, where it stands first.
abbrev pub answered_once : List ℕ → List ℕ
answered_once [] = []
answered_once (kind ∷ others) = if is_answered kind then kind ∷ without kind (answered_once others) else answered_once others

-- The types of the structures of an offer that are answered, in the offer's order.
abbrev pub answered_kinds : OfferMessage → List ℕ
answered_kinds offer = answered_once (map (λ (table : Table). table.kind) (tables_in offer.count offer.tables))

-- The bits that answer a type: the chosen AEAD, the key schedule of SPDM, and none for the others.
abbrev pub answer_bits : Choice → ℕ → ℕ
answer_bits choice kind = if kind == 3 then aead_bit choice.aead else (if kind == 5 then 1 else 0)

-- The structures that answer types, one after the other, each without external entries.
abbrev pub answer_tables : Choice → List ℕ → List ℕ
answer_tables choice [] = []
answer_tables choice (kind ∷ others) = (kind ∷ 0x20 ∷ answer_bits choice kind ∷ 0 ∷ []) ++ answer_tables choice others

-- The bit of the hash of measurements: bit 1 SHA-256, bit 2 SHA-384.
abbrev pub measurement_hash_bit : HashAlg → ℕ
measurement_hash_bit Sha256 = 2
measurement_hash_bit Sha384 = 4

-- The reply to an offer with a choice: DMTF measurements and their hash where measurements were chosen, the opaque data format 1 (bit 1 of OtherParamsSelection) where it was offered, no signature algorithm, the chosen hash, no external entry, and a structure for the first structure of each known type in the offer.
abbrev pub reply_of : OfferMessage → Choice → ReplyMessage
reply_of offer choice = record {
  measurement = if choice.measure then 1 else 0;
  other = bit_and offer.other 2;
  measurement_hash = if choice.measure then measurement_hash_bit choice.hash else 0;
  asym = 0;
  hash = hash_bit choice.hash;
  ext_asym = [];
  ext_hash = [];
  count = length (answered_kinds offer);
  tables = answer_tables choice (answered_kinds offer);
}
