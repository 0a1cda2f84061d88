-- The program's representation of a requester of a capture, and what it tells of a body that goes on from it. This
-- project's own.
use Rattle.std.specs.Prelude.{◌≡◌, ◌≤◌, ◌==◌, ◌&&◌, ℕ, List, Bool, true, false, Some, None, Option, is_some, length, slice_index}
use Rattle.requester_core.specs.Joined.{StandsFor}
use Rattle.requester_core.specs.declared.joined.RequesterCore.{RequesterCore}
use Rattle.requester_machine.specs.History.{History, begins_large}
use Rattle.requester_machine.specs.May.{IsSetUp}
use Rattle.requester_machine.specs.Message.{Sent, body_of}
use Rattle.requester_machine.specs.Session.{session_of}
use Rattle.requester_machine.specs.Setup.{ReqSetup}
use Rattle.requester_machine.specs.UnderWay.{HasSizes}
use Rattle.spdm_grammar.specs.declared.names.request_code.TheConstants.{CHUNK_SEND}
use Rattle.check_laws.specs.Keeping.{GoesOnKept, Kept, kept_of, owing, restored}
use Rattle.check_laws.specs.Padding.{session_asked}
use Rattle.check_laws.specs.Walks.{Walks}
use Rattle.requester_machine.specs.Owed.{sent_with}
use Rattle.check_requester.specs.declared.judged_requester.JudgedRequester.{JudgedRequester}
use Rattle.check_requester.specs.declared.judged_setup.JudgedSetup.{JudgedSetup}
use Rattle.requester_machine.specs.Owed.{with_next}
use Rattle.world_machine.specs.Setup.{Configuration}
use Rattle.spdm_grammar.specs.declared.names.TheConstants.{MAX_PADDING}

-- ---- What is kept.

-- The program keeps this set-up, which is within its limits.
pub record IsKeptSetup (seen : JudgedSetup) (q : ReqSetup) : Type 0 where
  pub transfer : q.transfer ≡ seen.transfer
  pub max : q.max ≡ seen.max
  pub flags : q.flags ≡ seen.flags
  pub suites : q.suites ≡ seen.suites
  pub hint : q.hint ≡ seen.hint
  pub psk : q.psk ≡ seen.psk
  pub sizes : HasSizes q
  pub limits : IsSetUp q

-- It is kept of a requester that is set up so: its history with the message that it owes, and whether it owes one.
pub record IsAsker (seen : JudgedRequester) (q : ReqSetup) (k : Kept) : Type 0 where
  pub kept : IsKeptSetup seen.setup q
  pub setup : k.setup ≡ q
  pub stands : StandsFor seen.asking q (owing k.owed k.requester)
  pub owes : seen.owes ≡ is_some k.owed

-- Some walk over these packets, the newest first, leads to what this is kept of, and no large request is in progress. A
-- large response may be fetched, or none is.
abbrev pub Carries : Configuration → ReqSetup → (older : List (List ℕ)) → Kept → Type 0
Carries w q older k =
    (fetching : Option (List ℕ)) × Walks w q older (record (restored k) { fetching = fetching }) × (kept_of (restored k) ≡ k)

-- ---- The message that is owed.

-- A body is CHUNK_SEND in the clear, with the first chunk of a request.
abbrev pub is_first_chunk : (body : List ℕ) → Bool
is_first_chunk body = slice_index body 2 == CHUNK_SEND && (slice_index body 5 == 0 && slice_index body 6 == 0)

-- A body is the message that is owed after this history, with some padding, and leads to this history.
abbrev pub SendsOwed : ReqSetup → (bare : History) → Sent → (body : List ℕ) → (after : History) → Type 0
SendsOwed q bare sent body after =
    (pad : List ℕ) × (length pad ≤ MAX_PADDING) × (begins_large sent.aim ≡ false)
    × (body_of (sent_with q.psk (session_of (session_asked sent.aim) bare) pad sent).content ≡ body)
    × (after ≡ with_next (Some (sent_with q.psk (session_of (session_asked sent.aim) bare) pad sent)) bare)

-- Whether it is: what is kept is that of the history after it, or of the same one.
abbrev pub IsSentOwed : ReqSetup → (bare : History) → Sent → (body : List ℕ) → Bool → (new : RequesterCore) → Type 0
IsSentOwed q bare sent body true new = (after : History) × SendsOwed q bare sent body after × StandsFor new q after
IsSentOwed q bare sent body false new =
    ((after : History) → SendsOwed q bare sent body after → ⊥) × StandsFor new q (with_next (Some sent) bare)

-- What is kept after the message that was owed.
abbrev pub gone_on : Kept → (after : History) → Kept
gone_on k after = record k { requester = after; owed = None }

-- Whether a body is the message that is owed: then that is what is kept, and else the same as before.
abbrev pub IsGoneOn : ReqSetup → Kept → (body : List ℕ) → Bool → (new : JudgedRequester) → Type 0
IsGoneOn q k body true new = (after : History) × GoesOnKept k body after × IsAsker new q (gone_on k after)
IsGoneOn q k body false new = ((after : History) → GoesOnKept k body after → ⊥) × IsAsker new q k
