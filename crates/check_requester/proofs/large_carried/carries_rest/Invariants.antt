use Rattle.std.proofs.Common.{◌≡◌, ◌+◌, ℕ, length}
use Rattle.chunking.specs.Cutting.{chunk_count}
use Rattle.requester_machine.specs.History.{History}
use Rattle.requester_machine.specs.Setup.{ReqSetup}
use Rattle.spdm_grammar.specs.Message.{RequestMessage}
use Rattle.spdm_grammar.specs.Requests.{canonical_request}
use Rattle.check_requester.proofs.LargeCarried.{Carried}
use Rattle.check_requester.proofs.large_carried.carries_rest.Given as goal
use Rattle.check_requester.specs.LargeAsked.{IsFirstOut, IsHeldTo}
use Rattle.capture_machine.specs.LargeRequests.{common_of}

abbrev pub invariant-loop-number : goal.invariant-loop-number
invariant-loop-number l =
    (q : ReqSetup) (h : History) (asked : RequestMessage) (handle : ℕ) → IsFirstOut l.fn.asking l.fn.room q h asked handle → length l.whole ≡ length (canonical_request asked)
    → l.count + 1 ≡ chunk_count (common_of h).to_responder.transfer l.whole → IsHeldTo h (canonical_request asked) l.whole 0 l.fn.first → Carried l.asking q h asked handle l.whole l.number l.at
