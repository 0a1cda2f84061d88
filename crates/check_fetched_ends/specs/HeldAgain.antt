-- What is held after LargeResponse again in the clear, before the first chunk. This project's own.
use Rattle.std.specs.Prelude.{◌≡◌, ◌≢◌, ◌≤◌, ◌+◌, ℕ, List, Some}
use Rattle.negotiate.specs.declared.shared.Common.{Common}
use Rattle.check_fetched_ends.specs.declared.clear_fetch.held.Held.{Held}
use Rattle.check_late_laws.specs.Fetching.{Fetching, number_of}
use Rattle.check_late_laws.specs.LargeAnswers.{StandsFor}
use Rattle.check_late_laws.specs.declared.late_fetch.marks.Marks.{Marks}
use Rattle.spdm_grammar.specs.declared.names.TheConstants.{MAX_MESSAGE_SIZE}

-- The request and the reply under another tag, with these marks, and no chunk; the newest message under its own tag;
-- and the lengths that are sent in chunks, where this is common to both ends.
pub record IsHeldAgain (common : Common) (marks : Marks) (tag : ℕ) (message reply : List ℕ) (held : Held) : Type 0 where
  pub other : held.tag ≢ tag
  pub request : held.request ≡ message
  pub reply_is : held.reply ≡ reply
  pub newest : held.newest ≡ Some (record { tag = tag; message = message; reply = reply })
  pub transfer : common.to_requester.transfer ≡ held.transfer
  pub least : held.least ≡ common.to_requester.transfer + 1
  pub short : held.most ≤ common.to_requester.max
  pub few : held.most ≤ MAX_MESSAGE_SIZE
  pub full : (n : ℕ) → n ≤ common.to_requester.max → n ≤ MAX_MESSAGE_SIZE → n ≤ held.most
  pub late : held.late ≡ Some marks
  pub answer : (f : Fetching) → number_of f ≡ 0 → StandsFor held.answer f
