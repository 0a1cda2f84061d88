-- Where a requester only compares a tag, that is a move, and it leaves no mark.
use Rattle.std.proofs.Common.{ℕ, List, [], ◌∷◌, ◌++◌, drop, Bool, true, false, cond, Option, Some, None, refl, sym, subst}
use Rattle.std.specs.Prelude.{Result, Ok}
use Rattle.key_schedule.specs.Purpose.{Purpose}
use Rattle.requester_machine.specs.ClearAnswers.{Carried, carried_by, reading_of}
use Rattle.requester_machine.specs.ClearAnswers.Carried.{Whole}
use Rattle.requester_machine.specs.History.{History, outstanding}
use Rattle.requester_machine.specs.Message.{Ask, Aim, Sent, asked_in}
use Rattle.requester_machine.specs.Message.Aim.{InSession}
use Rattle.requester_machine.specs.RequesterLog.{ignored_acts, clear_check, aim_check, carried_check, read_check, sealed_check, check_at, record_check}
use Rattle.requester_machine.specs.Session.{Steps, session_of}
use Rattle.spdm_grammar.specs.Message.{RequestMessage, ResponseMessage}
use Rattle.spdm_grammar.specs.Message.RequestMessage.{PskExchange}
use Rattle.spdm_grammar.specs.Message.ResponseMessage.{PskExchangeRsp}
use Rattle.spdm_grammar.specs.declared.told.event.ReqIgnored.{ReqIgnored}
use Rattle.spdm_grammar.specs.declared.told.event.ReqIgnored.TheVariants as ignored
use Rattle.spdm_grammar.specs.declared.messages.malformed.Malformed.{Malformed}
use Rattle.requester_machine.specs.Setup.{ReqSetup}
use Rattle.spdm_machine.specs.TagLog.{Act, Log}
use Rattle.spdm_machine.specs.TagLog.Act.{Made, Checked}
use Rattle.spdm_agreement.specs.Marks.{Asked, Served}
use Rattle.spdm_agreement.specs.Moves.{Move, State, IsRun, after}
use Rattle.spdm_agreement.specs.Moves.Move.{Check}
use Rattle.spdm_agreement.specs.Reading.{Reading}
use Rattle.spdm_agreement.proofs.Requester.SealAndHear.{at}
use Rattle.spdm_agreement.proofs.Moves.Foreign.{AreOwn}
use Rattle.spdm_agreement.proofs.Worlds.EndSteps.{OwnLeads}

-- ---- Runs one after another.

joined : (r : Reading) (ms ns : List Move) (s y z : State) → AreOwn ms → IsRun r ms s y → AreOwn ns → IsRun r ns y z → OwnLeads r s z
joined r [] ns s y z o run p k = (ns, p, subst (λ (x : State). IsRun r ns x z) (sym run) k)
joined r (m ∷ ms) ns s y z o run p k = (let l = joined r ms ns (after r m s) y z o.1 run.1 p k in (m ∷ l.0, (o.0, l.1), (run.0, l.2)))

pub join : (r : Reading) (s y z : State) → OwnLeads r s y → OwnLeads r y z → OwnLeads r s z
join r s y z run k = joined r run.0 k.0 s y z run.1 run.2 k.1 k.2

pub stays : (r : Reading) (s : State) → OwnLeads r s s
stays r s = ([], tt, refl)

-- ---- Comparisons.

-- One tag was compared, or none.
abbrev pub IsCheck : List Act → Type 0
IsCheck [] = Unit {0}
IsCheck (Checked p i v w ∷ []) = Unit {0}
IsCheck _ = ⊥

pub check_leads : (r : Reading) (m : List Asked) (served : List Served) (acts : List Act) (log : Log) → IsCheck acts → OwnLeads r (at m served log) (at m served (acts ++ log))
check_leads r m served [] log k = ([], tt, refl)
check_leads r m served (Checked p i v w ∷ []) log k = (Check p i v w ∷ [], (tt, tt), (tt, refl))
check_leads r m served (Checked p i v w ∷ (x ∷ acts)) log k = absurd k
check_leads r m served (Made p i v ∷ acts) log k = absurd k

if_check : (b : Bool) (p : Purpose) (i v w : List ℕ) → IsCheck (cond b (Checked p i v w ∷ []) [])
if_check true p i v w = tt
if_check false p i v w = tt

pub record_is_check : (q : ReqSetup) (s : Steps) (ask : Ask) (sealed : List ℕ) → IsCheck (record_check q s ask sealed)
record_is_check q s ask sealed = if_check _ _ _ _ _

at_is_check : (q : ReqSetup) (h : History) (sealed : List ℕ) (aim : Aim) → IsCheck (check_at q h sealed aim)
at_is_check q h sealed (InSession id ask) = record_is_check q (session_of id h) ask sealed
at_is_check q h sealed _ = tt

pub sealed_is_check : (q : ReqSetup) (h : History) (sealed : List ℕ) (o : Option Sent) → IsCheck (sealed_check q h sealed o)
sealed_is_check q h sealed None = tt
sealed_is_check q h sealed (Some x) = at_is_check q h sealed x.aim

read_is_check : (q : ReqSetup) (h : History) (asked : RequestMessage) (answer : List ℕ) (r : Result ResponseMessage Malformed) → IsCheck (read_check q h asked answer r)
read_is_check q h (PskExchange exchange) answer (Ok (PskExchangeRsp rsp)) = tt
read_is_check q h _ answer _ = tt

carried_is_check : (q : ReqSetup) (h : History) (asked : RequestMessage) (c : Carried) → IsCheck (carried_check q h asked c)
carried_is_check q h asked (Whole answer place) = read_is_check q h asked answer (reading_of h asked answer)
carried_is_check q h asked _ = tt

aim_is_check : (q : ReqSetup) (h : History) (m : List ℕ) (aim : Aim) (o : Option RequestMessage) → IsCheck (aim_check q h m aim o)
aim_is_check q h m aim None = tt
aim_is_check q h m aim (Some asked) = carried_is_check q h asked (carried_by q h m aim)

pub clear_is_check : (q : ReqSetup) (h : History) (m : List ℕ) (o : Option Sent) → IsCheck (clear_check q h m o)
clear_is_check q h m None = tt
clear_is_check q h m (Some x) = aim_is_check q h m x.aim (asked_in x.aim)

pub ignored_is_check : (q : ReqSetup) (h : History) (body : List ℕ) (cause : ReqIgnored) → IsCheck (ignored_acts q h body cause)
ignored_is_check q h body ignored.BadVerify = clear_is_check q h (drop 1 body) (outstanding h)
ignored_is_check q h body (ignored.Record fault) = sealed_is_check q h (drop 1 body) (outstanding h)
ignored_is_check q h body _ = tt
