-- The last chunk of a large response that is held: what its request leads to, now that all its bytes are there. This
-- project's own.
use Rattle.std.specs.Prelude.{◌≡◌, ◌≤◌, ◌<◌, ◌+◌, ◌==◌, ◌&&◌, bytes_eq, if◌then◌else◌, ℕ, zero, suc, List, [], ◌∷◌, length, slice_index, Bool, true, Option, Some, None}
use Rattle.chunking.specs.Collecting.{joined}
use Rattle.chunking.specs.Cutting.{chunk_count, chunks_before}
use Rattle.responder_core.specs.Connected as connected
use Rattle.responder_core.specs.declared.connected.Connection.{Connection}
use Rattle.check_fetched_laws.specs.ClearApart.{LeadsToOther}
use Rattle.check_fetched_laws.specs.ClearChunks.{IsNextGet, clear_with, get_entry, get_response}
use Rattle.check_fetched_laws.specs.LastShown.{IsShownEntry, drops_with}
use Rattle.check_laws.specs.DropsShown.{dropped_for}
use Rattle.check_fetched_ends.specs.declared.clear_fetch.held.Held.{Held}
use Rattle.check_fetched_ends.specs.declared.clear_fetch.led.Led.{Led}
use Rattle.check_fetched_ends.specs.declared.clear_fetch.led.Led.TheVariants as led
use Rattle.responder_machine.specs.History.{Entry, History, clear_turns, negotiation_of}
use Rattle.responder_machine.specs.May.{with_dropped}
use Rattle.responder_machine.specs.Place.{place_terms}
use Rattle.responder_machine.specs.Setup.{RspSetup}
use Rattle.spdm_grammar.specs.declared.names.TheConstants.{MAX_MESSAGE_SIZE}
use Rattle.spdm_grammar.specs.declared.names.response_code.TheConstants.{PSK_EXCHANGE_RSP}
use Rattle.spdm_machine.specs.Sessions.{id_in_exchange}
use Rattle.spdm_machine.specs.Terms.{hash_len, terms_of}
use Rattle.capture_machine.specs.Difference.{is_apart}
use Rattle.capture_machine.specs.LargeAnswers.{seen, with_large}

-- ---- All chunks again.

-- The transfer size of the requester, while these bytes are the large response in the clear; and how many chunks they
-- have.
abbrev pub transfer_at : History → (whole : List ℕ) → ℕ
transfer_at h whole = (place_terms (clear_with h whole)).common.to_requester.transfer

abbrev pub count_at : History → (whole : List ℕ) → ℕ
count_at h whole = chunk_count (transfer_at h whole) whole

-- The history with so many CHUNK_GETs after it, under one tag, which give the first chunks of these bytes.
abbrev pub gets_behind : (tag handle : ℕ) → (whole : List ℕ) → History → (count : ℕ) → History
gets_behind tag handle whole h zero = h
gets_behind tag handle whole h (suc n) =
    let g = gets_behind tag handle whole h n in get_entry tag handle n (get_response g whole handle n) ∷ g

-- Each chunk of these bytes may be asked for so.
pub record CanBeGiven (r : RspSetup) (h : History) (whole : List ℕ) (tag handle : ℕ) : Type 0 where
  pub short : length whole ≤ MAX_MESSAGE_SIZE
  pub wide : 12 < transfer_at h whole
  pub some : 0 < count_at h whole
  pub next : (n : ℕ) → n < count_at h whole → IsNextGet r (gets_behind tag handle whole h n) whole tag handle n

-- So many were asked for, and these are their bytes.
pub record AreAsked (seen : Connection) (bytes : List ℕ) (r : RspSetup) (h : History) (whole : List ℕ) (tag handle count : ℕ) : Type 0 where
  pub stands : connected.StandsFor seen r (with_large None whole (gets_behind tag handle whole h count))
  pub bytes_are : bytes ≡ joined (chunks_before (transfer_at h whole) 0 whole count)

-- The history after all of them.
abbrev pub all_given : (tag handle : ℕ) → (whole : List ℕ) → History → History
all_given tag handle whole h = with_large None whole (gets_behind tag handle whole h (count_at h whole))

-- ---- What the request leads to.

-- Bytes from which these are apart, by what these show.
pub record IsLedApart (r : RspSetup) (before : History) (entry : Entry) (whole : List ℕ) (size : ℕ) : Type 0 where
  pub other : List ℕ
  pub led : LeadsToOther r before entry whole other
  pub code : slice_index other 1 ≡ PSK_EXCHANGE_RSP
  pub apart : is_apart size other whole ≡ true

-- The length of the hash that was chosen.
abbrev pub hash_at : History → ℕ
hash_at h = hash_len (terms_of (negotiation_of (clear_turns h)))

-- By what is reported of it.
abbrev pub IsLedSo : RspSetup → (before : History) → Entry → (whole : List ℕ) → Led → Type 0
IsLedSo r before entry whole led.Whole = IsShownEntry r before (seen whole entry)
IsLedSo r before entry whole led.Apart = (IsShownEntry r before (seen whole entry) → ⊥) × IsLedApart r before entry whole (hash_at before)
IsLedSo r before entry whole led.Other = (IsShownEntry r before (seen whole entry) → ⊥) × (IsLedApart r before entry whole (hash_at before) → ⊥)

-- By the bytes that it leads to.
abbrev pub led_by : (size : ℕ) → (given whole : List ℕ) → Led
led_by size given whole =
    if bytes_eq given whole then led.Whole
    else (if slice_index given 1 == PSK_EXCHANGE_RSP && is_apart size given whole then led.Apart
    else led.Other)

-- What was left before the request, without the session that the whole shows as dropped.
abbrev pub left_by : (before left : History) → Entry → (whole : List ℕ) → History
left_by before left entry whole = with_dropped left (drops_with before (seen whole entry))

-- Its chunks may be asked for again after what was left, whatever bytes it has; and so many were given before the last
-- one.
pub record IsLastOf (held : Held) (r : RspSetup) (before left : History) (entry : Entry) (tag handle : ℕ) (whole : List ℕ) : Type 0 where
  pub give : (other : List ℕ) → length other ≤ MAX_MESSAGE_SIZE → CanBeGiven r (entry ∷ left_by before left entry whole) other tag handle
  pub transfer : (other : List ℕ) → transfer_at (entry ∷ left_by before left entry whole) other ≡ held.transfer
  pub last : chunk_count held.transfer whole ≡ held.answer.number + 1

-- The session that the whole shows as dropped, where the request is PSK_EXCHANGE.
abbrev pub drops_if : (exchange : Bool) → (left : History) → (whole : List ℕ) → List ℕ
drops_if exchange left whole = if exchange then dropped_for left (Some (id_in_exchange whole)) else []

-- The session that the whole begins.
abbrev pub begun_if : (exchange : Bool) → (whole : List ℕ) → Option ℕ
begun_if exchange whole = if exchange then (if length whole == 0 then None else Some (id_in_exchange whole)) else None
