-- What an inner message holds, once its record opened (DSP0277, "Secured Message format").
use Rattle.std.specs.Prelude.{ℕ, List, ◌==◌, Bool, true, false, drop, slice_index, Option, Some, None, Result, Ok, Err}
use Rattle.spdm_grammar.specs.Message.{ResponseMessage}
use Rattle.spdm_grammar.specs.Responses.{response_reading}
use Rattle.spdm_grammar.specs.declared.told.event.BadReply.{BadReply}
use Rattle.spdm_grammar.specs.declared.told.event.BadReply.TheVariants as bad
use Rattle.spdm_grammar.specs.declared.messages.malformed.Malformed.{Malformed}
use Rattle.requester_machine.specs.InnerMessages.{inner_fault}
use Rattle.requester_machine.specs.Setup.{ReqSetup}
use Rattle.spdm_grammar.specs.declared.names.message_type.TheConstants.{SPDM}

-- A response, or application data.
pub data Contents : Type 0 where
  Spoken : (message : ResponseMessage) → Contents
  AppData : (bytes : List ℕ) → Contents

-- By the fault that it has before it is read, by whether its type is that of an SPDM message, and by what follows the
-- type: read as a response, and as it is.
abbrev pub contents_by : Option BadReply → (is_message : Bool) → Result ResponseMessage Malformed
    → List ℕ → Result Contents BadReply
contents_by (Some fault) is_message reading bytes = Err fault
contents_by None true (Err fault) bytes = Err (bad.Malformed fault.at)
contents_by None true (Ok message) bytes = Ok (Spoken message)
contents_by None false reading bytes = Ok (AppData bytes)

-- What an inner message holds that came to this requester in a session of hashes of this length, or why it holds
-- nothing.
abbrev pub contents_of : ReqSetup → (hash_len : ℕ) → List ℕ → Result Contents BadReply
contents_of q hash_len inner =
    contents_by (inner_fault q inner) (slice_index inner 0 == SPDM)
    (response_reading hash_len false (drop 1 inner)) (drop 1 inner)
