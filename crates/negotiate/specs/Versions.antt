-- Which version is spoken (DSP0274, "VERSION response message format").
use Rattle.std.specs.Prelude.{ℕ, List, [], ◌∷◌, ◌/◌, ◌==◌, if◌then◌else◌, Option, Some, None}
use Rattle.byteorder.specs.Endian.{little_number}
use Rattle.spdm_grammar.specs.declared.names.spdm_version.TheConstants.{V1_2}

-- The version entries that bytes hold: two bytes each, little-endian. A byte at the end that has no second one is none.
abbrev pub version_entries : List ℕ → List ℕ
version_entries [] = []
version_entries (low ∷ []) = []
version_entries (low ∷ high ∷ others) = little_number 2 (low ∷ high ∷ []) ∷ version_entries others

-- The first entry whose major version is 1 and whose minor version is 2: bits 15:8 are 0x12.
abbrev pub first_of_1_2 : List ℕ → Option ℕ
first_of_1_2 [] = None
first_of_1_2 (entry ∷ others) = if entry / 256 == V1_2 then Some entry else first_of_1_2 others
