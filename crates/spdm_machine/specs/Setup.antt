-- The capabilities that both ends announce alike.
use Rattle.std.specs.Prelude.{◌+◌, ℕ, if◌then◌else◌}
use Rattle.spdm_grammar.specs.declared.messages.choice.FlagSet.{FlagSet}
use Rattle.spdm_grammar.specs.declared.names.capability.TheConstants.{ENCRYPT_CAP, MAC_CAP, HBEAT_CAP, KEY_UPD_CAP, CHUNK_CAP}

-- ENCRYPT_CAP and MAC_CAP, which both ends always announce (DSP0274, "GET_CAPABILITIES request message format").
abbrev pub protection_flags : ℕ
protection_flags = ENCRYPT_CAP + MAC_CAP

-- HBEAT_CAP, KEY_UPD_CAP and CHUNK_CAP, where they are set.
abbrev pub optional_flags : FlagSet → ℕ
optional_flags f = (if f.heartbeat then HBEAT_CAP else 0) + (if f.key_update then KEY_UPD_CAP else 0) + (if f.chunk then CHUNK_CAP else 0)
