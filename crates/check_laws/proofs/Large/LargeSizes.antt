-- A large request is sent in chunks only where the transfer size has room for them.
use Rattle.std.proofs.Common.{◌≡◌, ◌<◌, ◌≤◌, ◌&&◌, ◌||◌, ℕ, List, refl, sym, ◌∙◌, subst, length, min, Bool, true, false, Option, Some, None, Ok, Err, arith, not}
use Rattle.std.specs.Prelude.{if◌then◌else◌, nat_lt, unwrap_or}
use Rattle.std.specs.Result.{result_ok}
use Rattle.std.proofs.lemmas.Bool.{false≢true}
use Rattle.std.proofs.lemmas.Bool.Decides.{nat_tests}
use Rattle.std.proofs.lemmas.Option.{none-some, same_Some}
use Rattle.negotiate.specs.Capabilities.{common_of, shared, psk_is, protects}
use Rattle.negotiate.specs.declared.shared.Common.{Common}
use Rattle.requester_machine.specs.History.{History, negotiation_of}
use Rattle.spdm_grammar.specs.declared.messages.capabilities.Caps.{Caps}
use Rattle.spdm_grammar.specs.declared.messages.part_faults.CapsFault.TheVariants.{SizeTooSmall, SizesCrossed, NoPsk, NoProtection}
use Rattle.spdm_grammar.specs.declared.names.TheConstants.{MAX_MESSAGE_SIZE, MIN_DATA_TRANSFER_SIZE}
use Rattle.spdm_grammar.specs.declared.names.capability.TheConstants.{PSK_CAP, PSK_CAP_WITH_CONTEXT}
use Rattle.spdm_machine.specs.Terms.{asked_caps, common_from, no_common, request_value, response_value, terms_of, told_caps}
use Rattle.transcript.specs.Transcripts.{Negotiation}
use Rattle.capture_machine.specs.LargeRequests as large
use Rattle.capture_machine.specs.LargeRequests.{IsLargeRequest}

-- ---- The transfer size of the responder.

passed : (a b c d : Bool) (s common : Common)
    → result_ok (if a then Err SizeTooSmall else (if b then Err SizesCrossed else (if c then Err NoPsk else (if d then Err NoProtection else Ok s)))) ≡ Some common
    → (a ≡ false) × (s ≡ common)
passed true b c d s common h = absurd (none-some common h)
passed false true c d s common h = absurd (none-some common h)
passed false false true d s common h = absurd (none-some common h)
passed false false false true s common h = absurd (none-some common h)
passed false false false false s common h = (refl, same_Some s common h)

not_small : (first : Bool) (a b : ℕ) → (first || nat_lt a b) ≡ false → b ≤ a
not_small true a b is = absurd (false≢true (sym is))
not_small false a b is = grind (arith, nat_tests)

-- It is from 42 to 4,096.
abbrev pub IsWide : Common → Type 0
IsWide common = (MIN_DATA_TRANSFER_SIZE ≤ common.to_responder.transfer) × (common.to_responder.transfer ≤ MAX_MESSAGE_SIZE)

common_size : (caps told : Caps) (common : Common) → result_ok (common_of caps told) ≡ Some common → IsWide common
common_size caps told common is =
    let one = passed (nat_lt caps.transfer MIN_DATA_TRANSFER_SIZE || nat_lt told.transfer MIN_DATA_TRANSFER_SIZE) (nat_lt caps.max caps.transfer || nat_lt told.max told.transfer) (not (psk_is PSK_CAP caps.flags && psk_is PSK_CAP_WITH_CONTEXT told.flags))
    (not (protects caps.flags && protects told.flags)) (shared caps told) common is in
    let least : MIN_DATA_TRANSFER_SIZE ≤ told.transfer = not_small (nat_lt caps.transfer MIN_DATA_TRANSFER_SIZE) told.transfer MIN_DATA_TRANSFER_SIZE one.0 in
    let here : (MIN_DATA_TRANSFER_SIZE ≤ min told.transfer MAX_MESSAGE_SIZE) × (min told.transfer MAX_MESSAGE_SIZE ≤ MAX_MESSAGE_SIZE) = (omega (arith, least), omega arith) in
    subst IsWide one.1 here

settled_size : (o : Option Common) → ((common : Common) → o ≡ Some common → IsWide common) → (unwrap_or o no_common).chunk ≡ true → IsWide (unwrap_or o no_common)
settled_size None all is = absurd (false≢true is)
settled_size (Some common) all is = all common refl

from_size : (a b : Option Caps) → (common_from a b).chunk ≡ true → IsWide (common_from a b)
from_size (Some caps) (Some told) is = settled_size (result_ok (common_of caps told)) (common_size caps told) is
from_size (Some caps) None is = absurd (false≢true is)
from_size None b is = absurd (false≢true is)

pub terms_wide : (n : Negotiation) → (terms_of n).common.chunk ≡ true → IsWide (terms_of n).common
unfolding terms_of
terms_wide n is = from_size (asked_caps (request_value n.get_capabilities)) (told_caps (response_value n.capabilities)) is

pub terms_size : (n : Negotiation) → (terms_of n).common.chunk ≡ true → 12 < (terms_of n).common.to_responder.transfer
terms_size n is = let wide = (terms_wide n is).0 in omega (arith, wide)

-- ---- Of a large request.

has_chunks : (a b c : Bool) → (a || (not b && c)) ≡ false → c ≡ true → b ≡ true
has_chunks a true c is large = refl
has_chunks true false c is large = absurd (false≢true (sym is))
has_chunks false false c is large = absurd (false≢true (sym is ∙ large))

pub chunk_size : (h : History) (whole : List ℕ) → IsLargeRequest (large.common_of h) whole → 12 < (large.common_of h).to_responder.transfer
chunk_size h whole is = terms_size (negotiation_of h) (has_chunks _ _ _ is.1 is.0)

pub above : (transfer size : ℕ) → nat_lt transfer size ≡ true → transfer < size
above transfer size is = grind (arith, nat_tests)

-- It depends on the length.
pub large_at : (common : Common) (w v : List ℕ) → length v ≡ length w → IsLargeRequest common w → IsLargeRequest common v
large_at common w v same is =
    let P : ℕ → Type 0 = λ n. (nat_lt common.to_responder.transfer n ≡ true) × ((nat_lt common.to_responder.max n || (not common.chunk && nat_lt common.to_responder.transfer n)) ≡ false) × (n ≤ MAX_MESSAGE_SIZE) in
    subst P (sym same) is
