use Rattle.std.proofs.Common.{◌≡◌, ◌≤◌, ◌<◌, ◌+◌, drop, length}
use Rattle.chunking.specs.Cutting.{chunks_of}
use Rattle.spdm_grammar.specs.declared.names.TheConstants.{MIN_DATA_TRANSFER_SIZE}
use Rattle.responder_rules.proofs.large_answer.splitter_at.Given as goal

abbrev pub invariant-loop : goal.invariant-loop
invariant-loop l = MIN_DATA_TRANSFER_SIZE ≤ l.transfer → l.transfer < length l.answer + 16
    → l.splitter ≡ drop l.counter (chunks_of l.transfer l.handle l.answer)
