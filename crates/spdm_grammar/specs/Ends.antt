-- Messages that end by themselves: no longer bytes begin with their encoding and encode a message too.
use Rattle.spdm_grammar.specs.Message.{ResponseMessage}
use Rattle.spdm_grammar.specs.Message.ResponseMessage.{ChunkSendAck, Error}

-- All responses but CHUNK_SEND_ACK, whose response is all the rest, and ERROR, whose extended data are.
abbrev pub EndsByItself : ResponseMessage → Type 0
EndsByItself (ChunkSendAck early handle number answer) = ⊥
EndsByItself (Error version code detail extended) = ⊥
EndsByItself _ = Unit {0}
