use Rattle.std.proofs.Common.{◌≡◌, ◌≢◌, ◌++◌, ℕ, List, Some}
use Rattle.spdm_grammar.specs.declared.messages.malformed.Malformed.{Malformed}
use Rattle.spdm_grammar.specs.declared.messages.malformed.Part.TheVariants.{End}
use Rattle.spdm_grammar.specs.Requests.{request_layout}
use Rattle.spdm_grammar.specs.Responses.{response_layout}
use Rattle.spdm_grammar.proofs.Longer.{fault_stays_whole}
use Rattle.spdm_codec.specs.declared.expect.Expect.{Expect}
use Rattle.spdm_codec.specs.declared.expect.Expect.TheVariants.{Request, Response}
use Rattle.spdm_codec.specs.Feed.{fault_in}
use Rattle.spdm_codec.proofs.feed.feed_fault_stays.Goals as goal

stays : (expect : Expect) (bytes more : List ℕ) (fault : Malformed) → fault_in expect bytes ≡ Some fault → fault.what ≢ End → fault_in expect (bytes ++ more) ≡ Some fault
stays (Request hash_len) bytes more fault e other = fault_stays_whole (request_layout hash_len) bytes more fault e other
stays (Response hash_len summary) bytes more fault e other = fault_stays_whole (response_layout hash_len summary) bytes more fault e other

pub returns : goal.returns
returns c = stays
