-- Bodies of MCTP messages: a type and a message.
use Rattle.std.specs.Prelude.{ℕ, List, ◌∷◌}
use Rattle.spdm_grammar.specs.declared.names.message_type.TheConstants.{SECURED, SPDM}

-- An SPDM message in the clear has type 5 (DSP0275).
abbrev pub clear_body : List ℕ → List ℕ
clear_body message = SPDM ∷ message

-- A record has type 6 (DSP0276).
abbrev pub record_body : List ℕ → List ℕ
record_body sealed = SECURED ∷ sealed
