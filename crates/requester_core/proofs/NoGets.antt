-- Messages that ask for no chunk of a large response.
use Rattle.std.proofs.Common.{refl, ◌≡◌, ℕ, Bool, true, false, Some, subst, sym}
use Rattle.std.specs.Prelude.{if◌then◌else◌}
use Rattle.std.proofs.lemmas.Bool.{false≢true}
use Rattle.requester_core.specs.Gathering.{Gathers, IsGathered}
use Rattle.requester_core.specs.ReplyOutcome.{is_no_get}
use Rattle.chunking.specs.Keeping as keeping
use Rattle.negotiate.specs.declared.shared.Common.{Common}
use Rattle.requester_machine.specs.History.{History}
use Rattle.requester_machine.specs.Message.{Aim, Ask, Sent}
use Rattle.requester_machine.specs.Message.Aim.{ByChunks, ForChunk, InSession, Plain}
use Rattle.requester_machine.specs.Sending.{piece_sent, plain_sent, request_sent}
use Rattle.requester_machine.specs.Setup.{ReqSetup}
use Rattle.spdm_grammar.specs.Message.{RequestMessage}

pub no_get_gathers : (aim : Aim) (g : keeping.Kept) → is_no_get aim ≡ true → IsGathered aim g
no_get_gathers (Plain asked) g is = tt
no_get_gathers (ByChunks asked handle number) g is = tt
no_get_gathers (ForChunk asked handle number before) g is = absurd (false≢true is)
no_get_gathers (InSession id ask) g is = tt

either_no_get : (b : Bool) (x y : Sent) → is_no_get x.aim ≡ true → is_no_get y.aim ≡ true → is_no_get ((if b then x else y).aim) ≡ true
either_no_get true x y a b = a
either_no_get false x y a b = b

-- A request that is sent, whole or in chunks.
pub request_no_get : (common : Common) (h : History) (asked : RequestMessage) → is_no_get ((request_sent common h asked).aim) ≡ true
request_no_get common h asked = either_no_get _ (piece_sent common h asked _ 0) (plain_sent h asked) refl refl

-- A record.
pub record_no_get : (aim : Aim) (id : ℕ) (ask : Ask) → aim ≡ InSession id ask → is_no_get aim ≡ true
record_no_get aim id ask is = subst (λ (a : Aim). is_no_get a ≡ true) (sym is) refl

pub gathers_any : (q : ReqSetup) (sent : Sent) → is_no_get sent.aim ≡ true → (g : keeping.Kept) → g.max ≡ q.max → Gathers q (Some sent) g
gathers_any q sent is g max = record { max = max; chunks = no_get_gathers sent.aim g is }
