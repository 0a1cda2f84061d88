-- What is held after LargeResponse in the clear, before the first chunk. This project's own.
use Rattle.std.specs.Prelude.{◌≡◌, ◌≤◌, ◌+◌, ℕ, List, Some, None}
use Rattle.negotiate.specs.declared.shared.Common.{Common}
use Rattle.check_fetched_ends.specs.declared.clear_fetch.held.Held.{Held}
use Rattle.check_late_laws.specs.Fetching.{Fetching, number_of}
use Rattle.check_late_laws.specs.LargeAnswers.{StandsFor}
use Rattle.spdm_grammar.specs.declared.names.TheConstants.{MAX_MESSAGE_SIZE, MIN_DATA_TRANSFER_SIZE}

-- The request and the reply, and no chunk; and the lengths that are sent in chunks, where this is common to both ends
-- and so many bytes stand round the answer.
pub record IsHeldFrom (common : Common) (tag round : ℕ) (message reply : List ℕ) (held : Held) : Type 0 where
  pub tag_is : held.tag ≡ tag
  pub request : held.request ≡ message
  pub reply_is : held.reply ≡ reply
  pub newest : held.newest ≡ Some (record { tag = tag; message = message; reply = reply })
  pub transfer : common.to_requester.transfer ≡ held.transfer
  pub least : MIN_DATA_TRANSFER_SIZE ≤ common.to_requester.transfer → held.least + round ≡ common.to_requester.transfer + 1
  pub short : held.most ≤ common.to_requester.max
  pub few : held.most ≤ MAX_MESSAGE_SIZE
  pub full : (n : ℕ) → n ≤ common.to_requester.max → n ≤ MAX_MESSAGE_SIZE → n ≤ held.most
  pub late : held.late ≡ None
  pub answer : (f : Fetching) → number_of f ≡ 0 → StandsFor held.answer f
