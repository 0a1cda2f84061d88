-- A large response shows, once it is whole, the values that the responder chose for it. This project's own.
use Rattle.std.specs.Prelude.{◌≡◌, ◌<◌, ◌↔◌, ◌==◌, ℕ, List, drop, slice_index, if◌then◌else◌, true}
use Rattle.responder_machine.specs.Answer.{Free, request_at}
use Rattle.responder_machine.specs.Handling.{chunk_in}
use Rattle.responder_machine.specs.History.{Entry, History}
use Rattle.responder_machine.specs.Place.{clear_place, session_place}
use Rattle.responder_machine.specs.Records.{opened}
use Rattle.responder_machine.specs.Responder.{sent_by}
use Rattle.responder_machine.specs.Responder.Outcome.{Adds}
use Rattle.responder_machine.specs.Session.{id_in_record, session_of}
use Rattle.responder_machine.specs.Setup.{RspSetup}
use Rattle.check_responder.specs.WholeAnswers.{clear_whole, whole_values}
use Rattle.check_laws.specs.AnswersShown.{LeadsAt, values_shown_by}
use Rattle.check_laws.specs.LargeShown.{whole_of}
use Rattle.capture_machine.specs.CapturedAnswers.{MayLeadTo}
use Rattle.capture_machine.specs.LargeAnswers.{is_large}
use Rattle.spdm_grammar.specs.declared.names.message_type.TheConstants.{SPDM}

-- The values in the fields of the whole answer to a body; what it does not show stays as it is in these.
abbrev pub body_whole : RspSetup → History → (body : List ℕ) → Free → (whole : List ℕ) → Free
body_whole r h body f whole =
    let s = session_of (id_in_record (drop 1 body)) h in
    if slice_index body 0 == SPDM then clear_whole (clear_place h) (drop 1 body) f whole (chunk_in (request_at (clear_place h) (drop 1 body)))
    else whole_values (session_place s) (drop 1 (opened r.psk s (drop 1 body))) f whole

-- The values that LargeResponse and the whole answer show together: the handle and the padding of a record stand in the
-- one, all else in the other.
unfoldable pub values_with_whole : RspSetup → History → ℕ → (body answer whole : List ℕ) → Free
values_with_whole r h tag body answer whole = body_whole r h body (values_shown_by r h tag body answer) whole

-- A body may lead to an entry whose answer goes by LargeResponse exactly when it leads to it at the values that this
-- and the whole answer show. The heartbeat period is a byte.
abbrev pub WholeIsShown : Type 0
WholeIsShown = (r : RspSetup) (h : History) (tag : ℕ) (body : List ℕ) (entry : Entry) → r.beat < 256 → is_large entry ≡ true
    → MayLeadTo r h tag body (Adds entry) ↔ LeadsAt r h tag body (Adds entry) (values_with_whole r h tag body (sent_by entry) (whole_of entry))
