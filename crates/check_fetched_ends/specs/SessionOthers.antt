-- An answer in a session, while a large one is fetched there, that gives no chunk of it. This project's own.
use Rattle.std.specs.Prelude.{◌≡◌, ◌≢◌, ◌==◌, ◌&&◌, ◌||◌, ℕ, List, Bool, true, false, Some, is_some, slice_index}
use Rattle.responder_core.specs.Connected.{StandsFor}
use Rattle.responder_core.specs.Pending.{IsUncounted}
use Rattle.responder_core.specs.declared.connected.Connection.{Connection}
use Rattle.check_fetched_laws.specs.AnswerTexts.{Holds}
use Rattle.check_fetched_laws.specs.JudgedFor.{IsMeasured, JudgesFor}
use Rattle.check_fetched_ends.specs.declared.session_fetch.in_session.InSession.{InSession}
use Rattle.check_late_laws.specs.Fetching.{Fetching, MayStand}
use Rattle.responder_machine.specs.History.{Entry, History}
use Rattle.responder_machine.specs.History.Entry.{Sealed}
use Rattle.responder_machine.specs.Responder.Outcome.{Adds}
use Rattle.responder_machine.specs.Responder.{sent_by}
use Rattle.responder_machine.specs.Setup.{RspSetup}
use Rattle.spdm_grammar.specs.declared.names.response_code.TheConstants.{ERROR}
use Rattle.capture_machine.specs.CapturedAnswers.{MayLeadTo}
use Rattle.capture_machine.specs.LargeAnswers.{is_large, takes_get, with_large}
use Rattle.capture_machine.specs.Rounds.{Round}
use Rattle.spdm_grammar.specs.declared.names.message_type.TheConstants.{SPDM}

-- The message is ERROR.
abbrev pub is_error : (message : List ℕ) → Bool
is_error message = slice_index message 1 == ERROR

-- A text holds ERROR, or it does not.
abbrev pub IsRefusing : (text : List ℕ) → Bool → Type 0
IsRefusing text true = (message : List ℕ) × Holds text message × (is_error message ≡ true)
IsRefusing text false = (message : List ℕ) → Holds text message → is_error message ≡ true → ⊥

-- The request of an entry, a record, was refused.
abbrev pub is_refused : Entry → Bool
is_refused (Sealed tag m t reply d) = is_some t.refused
is_refused _ = false

-- A record may lead to this entry, whose answer this is, with some bytes that may stand for the large response.
pub record LeadsWith (r : RspSetup) (id : ℕ) (f : Fetching) (round : Round) (answer : List ℕ) (v : List ℕ) (e : Entry) : Type 0 where
  pub stands : MayStand f v
  pub leads : MayLeadTo r (with_large (Some id) v f.kept.responder) round.tag round.body (Adds e)
  pub sends : sent_by e ≡ answer

-- The request is a record, and no entry to which it may lead so gives a chunk. While a chunk is left to be given, this tells
-- of one that goes whole whether its request was refused.
pub record IsOtherAnswer (r : RspSetup) (fetched : InSession) (f : Fetching) (round : Round) (answer : List ℕ) (refuses : Bool) : Type 0 where
  pub record_is : (slice_index round.body 0 == SPDM) ≡ false
  pub none : (v : List ℕ) (e : Entry) → LeadsWith r fetched.id f round answer v e → takes_get e ≡ false
  pub refused : fetched.left ≡ true → (v : List ℕ) (e : Entry) → LeadsWith r fetched.id f round answer v e → is_large e ≡ false → is_refused e ≡ refuses

-- So it is of the round in progress.
abbrev pub IsOtherRound : RspSetup → InSession → Fetching → (answer : List ℕ) → (refuses : Bool) → Type 0
IsOtherRound r fetched f answer refuses = (round : Round) × (f.kept.round ≡ Some round) × IsOtherAnswer r fetched f round answer refuses

-- Whether a chunk is left to be given after it: one was before it, the session is live, and either no record was taken
-- or its request was refused.
abbrev pub left_then : (left live idle refuses : Bool) → Bool
left_then left live idle refuses = left && live && (idle || refuses)

-- It may be told that a large response of the session was not seen: these bytes are pending there, and others might be;
-- or none are, and the session only counts the answer; or there is no session, and each connection that judges with
-- these bytes stands for the history without them too.
abbrev pub MayForget : (id : ℕ) → History → (whole : List ℕ) → (left live : Bool) → Type 0
MayForget id h whole true live = (other : List ℕ) × (whole ≢ other) × IsMeasured id h whole × IsMeasured id h other
MayForget id h whole false true = IsUncounted id (with_large (Some id) whole h) h
MayForget id h whole false false = (c : Connection) (r : RspSetup) → JudgesFor c r h (Some id) whole → StandsFor c r h
