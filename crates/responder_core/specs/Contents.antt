-- Tests of a request's contents.
use Rattle.std.specs.Prelude.{List, Bool, false}
use Rattle.measurements.specs.Records.{is_missing}
use Rattle.spdm_grammar.specs.Message.{RequestMessage}
use Rattle.spdm_grammar.specs.Message.RequestMessage.{GetMeasurements}
use Rattle.spdm_grammar.specs.declared.told.block_spec.BlockSpec.{BlockSpec}

-- GET_MEASUREMENTS asks for a block that is none of these.
abbrev pub asks_missing : List BlockSpec → RequestMessage → Bool
asks_missing blocks (GetMeasurements op) = is_missing op blocks
asks_missing blocks _ = false
