-- All requesters of a capture and the responder, as the program represents them, and what it tells of a packet. This
-- project's own.
use Rattle.std.specs.Prelude.{◌≡◌, ◌==◌, ℕ, List, [], ◌∷◌, length, Bool, true, Result, Ok, Err}
use Rattle.mctp_framing.specs.Packet.{PacketFields, parsed}
use Rattle.requester_machine.specs.Setup.{ReqSetup}
use Rattle.spdm_grammar.specs.declared.told.why.Why as declared
use Rattle.spdm_machine.specs.Packets.{gathered_from}
use Rattle.check_laws.specs.Judged.{why_of}
use Rattle.check_laws.specs.KeptRows.{Show}
use Rattle.check_laws.specs.Order.{is_answer}
use Rattle.check_laws.specs.ReasonsEach.{IsOneOf}
use Rattle.check_laws.specs.Rows.{StandsForRows}
use Rattle.trace_check.specs.JudgedPair.{IsRefused, StandsFor}
use Rattle.trace_check.specs.Limits.{IsAnswering}
use Rattle.trace_check.specs.declared.checker.Checker.{Checker}
use Rattle.trace_check.specs.declared.judged_pair.JudgedPair.{JudgedPair}
use Rattle.capture_machine.specs.SessionTable.{Row}
use Rattle.world_machine.specs.Setup.{Configuration}

-- ---- What is kept.

-- Of each requester, in their order, among the rows that the packets show.
abbrev pub AreKept : List JudgedPair → Configuration → List (List ℕ) → List Row → List ReqSetup → Type 0
AreKept [] w older rows [] = Unit {0}
AreKept (x ∷ xs) w older rows (q ∷ qs) = StandsFor x w q older rows × AreKept xs w older rows qs
AreKept _ w older rows _ = ⊥

-- The requester has this endpoint.
abbrev pub has_eid : ℕ → JudgedPair → Bool
has_eid eid x = x.eid.number == eid

-- It is kept of these packets of a capture, the newest first, under this configuration. They conform.
pub record IsChecker (seen : Checker) (w : Configuration) (older : List (List ℕ)) : Type 0 where
  pub own : seen.own.number ≡ w.responder.eid
  pub answering : IsAnswering seen.answering w.responder
  pub rows : List Row
  pub shows : Show w older rows
  pub pairs : AreKept seen.pairs.items w older rows w.requesters
  pub entries : StandsForRows seen.table w (length older) rows

-- ---- What is told of a packet.

-- It conforms after those before it; or it does not conform, and then why.
abbrev pub IsTold : Configuration → List (List ℕ) → (packet : List ℕ) → Result Unit declared.Why → (new : Checker) → Type 0
IsTold w older packet (Ok u) new = IsChecker new w (packet ∷ older)
IsTold w older packet (Err why) new = IsRefused w older packet (why_of why)
