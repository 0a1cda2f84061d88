-- Which bodies a requester ignores before it reads their message, and why: a list of tests in order, of which the first
-- that holds decides. This project's own.
use Rattle.std.specs.Prelude.{◌==◌, ◌&&◌, ◌||◌, not, nat_lt, ℕ, List, [], ◌∷◌, length, slice_index, drop, if◌then◌else◌, Bool, false, Option, Some, None, is_none}
use Rattle.spdm_grammar.specs.Message.{ResponseMessage}
use Rattle.spdm_grammar.specs.Message.ResponseMessage.{Error}
use Rattle.spdm_grammar.specs.declared.told.event.ReqIgnored.{ReqIgnored}
use Rattle.spdm_grammar.specs.declared.told.event.ReqIgnored.TheVariants as ignored
use Rattle.requester_machine.specs.Setup.{ReqSetup}
use Rattle.spdm_machine.specs.Terms.{response_value}
use Rattle.requester_machine.specs.Message.{Aim, Sent}
use Rattle.requester_machine.specs.Message.Aim.{Plain, ByChunks, ForChunk, InSession}
use Rattle.spdm_grammar.specs.declared.names.message_type.TheConstants.{SECURED, SPDM}

-- The code of an ERROR (DSP0274, "ERROR response message format").
abbrev pub error_code : Option ResponseMessage → Option ℕ
error_code (Some (Error version code detail extended)) = Some code
error_code _ = None

-- The code of the ERROR that bytes encode, if they encode one. How it is encoded depends on no hash.
abbrev pub error_in : List ℕ → Option ℕ
error_in message = error_code (response_value message)

-- A body is a type and a message: 5 for an SPDM message (DSP0275), 6 for a record (DSP0276).
abbrev pub is_clear : List ℕ → Bool
is_clear body = slice_index body 0 == SPDM

-- The type of the body is that of a record.
abbrev pub is_record : List ℕ → Bool
is_record body = slice_index body 0 == SECURED

-- The tag is that of the outstanding message.
abbrev pub has_tag : Option Sent → ℕ → Bool
has_tag None tag = false
has_tag (Some sent) tag = sent.tag == tag

-- A record came to a clear request, or a clear message that encodes no ERROR to a request of a session.
abbrev pub is_out_of_place : Aim → List ℕ → Bool
is_out_of_place (Plain asked) body = is_record body
is_out_of_place (ByChunks asked handle number) body = is_record body
is_out_of_place (ForChunk asked handle number before) body = is_record body
is_out_of_place (InSession id ask) body = is_clear body && is_none (error_in (drop 1 body))

-- A body is out of place for the outstanding message; none is where nothing is outstanding.
abbrev pub is_misplaced : Option Sent → List ℕ → Bool
is_misplaced None body = false
is_misplaced (Some sent) body = is_out_of_place sent.aim body

-- The cause of the first test that holds.
abbrev pub first_cause : List (Bool × ReqIgnored) → Option ReqIgnored
first_cause [] = None
first_cause (t ∷ ts) = if t.0 then Some t.1 else first_cause ts

-- The tests of a whole body with its tag owner bit and tag, before its message is read. What its packets are tested for
-- comes before them.
abbrev pub tests_of_body : ReqSetup → Option Sent → (owner : Bool) → ℕ → List ℕ → List (Bool × ReqIgnored)
tests_of_body q waiting owner tag body =
    (owner, ignored.NotResponse)
    ∷ (is_none waiting, ignored.NothingOutstanding)
    ∷ (not (has_tag waiting tag), ignored.WrongTag)
    ∷ (not (is_clear body || is_record body), ignored.OtherType)
    ∷ (is_misplaced waiting body, ignored.WrongPlace)
    ∷ (is_clear body && nat_lt q.transfer (length (drop 1 body)), ignored.TooLong)
    ∷ []

-- The cause for which a body is ignored before its message is read, or none.
unfoldable pub body_fault : ReqSetup → Option Sent → (owner : Bool) → ℕ → List ℕ → Option ReqIgnored
body_fault q waiting owner tag body = first_cause (tests_of_body q waiting owner tag body)
