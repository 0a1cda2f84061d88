-- A message that a requester sends by itself has the next tag, and is not GET_VERSION.
use Rattle.std.proofs.Common.{◌≡◌, ◌≢◌, ℕ, List, refl, sym, ap, ◌∙◌, subst, drop, Bool, true, false, Option, Some, None, inl, inr, arith, cond}
use Rattle.std.specs.Prelude.{not, slice_index}
use Rattle.std.proofs.lemmas.Option.{none-some, same_Some}
use Rattle.spdm_grammar.specs.Message.{RequestMessage}
use Rattle.spdm_grammar.specs.Message.RequestMessage.{GetVersion, NegotiateAlgorithms}
use Rattle.spdm_grammar.specs.Requests.{canonical_request}
use Rattle.spdm_grammar.specs.declared.told.event.ReqIgnored.{ReqIgnored}
use Rattle.spdm_grammar.specs.declared.told.event.ReqIgnored.TheVariants.{WrongTag}
use Rattle.spdm_machine.specs.Bodies.{clear_body}
use Rattle.spdm_machine.specs.Keys.{Draw}
use Rattle.requester_machine.specs.Setup.{ReqSetup}
use Rattle.requester_machine.specs.Asking.Outcome.{Adds}
use Rattle.requester_machine.specs.Bodies.{body_fault, has_tag}
use Rattle.requester_machine.specs.Commands.{Free}
use Rattle.requester_machine.specs.Hearing.{hears, hears_by, came_to}
use Rattle.requester_machine.specs.History.{History, Entry, Led, sent_in, next_tag, next_handle, outstanding}
use Rattle.requester_machine.specs.InnerMessages.{Came}
use Rattle.requester_machine.specs.Message.{Aim, Ask, Sent, body_of}
use Rattle.requester_machine.specs.Sending.{piece_sent, plain_sent, request_sent}
use Rattle.requester_machine.specs.Shown.{after}
use Rattle.requester_machine.proofs.ClearLeads.{ClearLeads, clear_leads}
use Rattle.requester_machine.proofs.ClearLeads.ClearLeads.{ByRefusal, ByLarge, BySend, ByGet, ByStop, ByVersion, ByCaps, ByChoice, ByMeasured, ByExchange}
use Rattle.requester_machine.proofs.RecordLeads.{RecordLeads, record_leads}
use Rattle.requester_machine.proofs.RecordLeads.RecordLeads.{ByEnd, ByAnswer, ByUpdate, ByFirst, ByChunk}
use Rattle.requester_machine.proofs.Heard.{heard}

-- The message does not have the body of GET_VERSION.
abbrev pub IsOther : Sent → Type 0
IsOther s = body_of s.content ≢ clear_body (canonical_request GetVersion)

abbrev pub IsNext : History → Sent → Type 0
IsNext h s = (s.tag ≡ next_tag h) × IsOther s

-- What holds of the message that is sent, if one is.
pub none_next : (P : Sent → Type 0) (o : Option Sent) → o ≡ None → (s : Sent) → o ≡ Some s → P s
none_next P o none s is = absurd (none-some s (sym none ∙ is))

pub some_next : (P : Sent → Type 0) (o : Option Sent) (x : Sent) → o ≡ Some x → P x → (s : Sent) → o ≡ Some s → P s
some_next P o x one next s is = subst P (same_Some x s (sym one ∙ is)) next

pub either_next : (P : Sent → Type 0) (b : Bool) (x y : Sent) → P x → P y → P (cond b x y)
either_next P true x y p q = p
either_next P false x y p q = q

clear_next : (q : ReqSetup) (h : History) (f : Free) (aim : Aim) (m : List ℕ) (asked : RequestMessage) (led : Led) → ClearLeads q h f aim m asked led → (s : Sent) → led.next ≡ Some s → IsNext h s
clear_next q h f aim m asked led (ByRefusal code is) = none_next (IsNext h) led.next (ap (λ (l : Led). l.next) is)
clear_next q h f aim m asked led (ByLarge handle may is) = some_next (IsNext h) led.next _ (ap (λ (l : Led). l.next) is) (refl, λ e. absurd (let t = ap (λ (l : List ℕ). slice_index l 2) e in omega (arith, t)))
clear_next q h f aim m asked led (BySend handle number aims last is) = some_next (IsNext h) led.next _ (ap (λ (l : Led). l.next) is) (refl, λ e. absurd (let t = ap (λ (l : List ℕ). slice_index l 2) e in omega (arith, t)))
clear_next q h f aim m asked led (ByGet handle number before c aims none last is) = some_next (IsNext h) led.next _ (ap (λ (l : Led). l.next) is) (refl, λ e. absurd (let t = ap (λ (l : List ℕ). slice_index l 2) e in omega (arith, t)))
clear_next q h f aim m asked led (ByStop why may is) = none_next (IsNext h) led.next (ap (λ (l : Led). l.next) is)
clear_next q h f aim m asked led (ByVersion answer asks is) = some_next (IsNext h) led.next _ (ap (λ (l : Led). l.next) is) (refl, λ e. absurd (let t = ap (λ (l : List ℕ). slice_index l 2) e in omega (arith, t)))
clear_next q h f aim m asked led (ByCaps caps theirs answer common offer asks read settled offers short is) =
    some_next (IsNext h) led.next (request_sent common h (NegotiateAlgorithms offer)) (ap (λ (l : Led). l.next) is)
    (either_next (IsNext h) _ (piece_sent common h (NegotiateAlgorithms offer) (next_handle h) 0) (plain_sent h (NegotiateAlgorithms offer))
    (refl, λ e. absurd (let t = ap (λ (l : List ℕ). slice_index l 2) e in omega (arith, t)))
    (refl, λ e. absurd (let t = ap (λ (l : List ℕ). slice_index l 2) e in omega (arith, t))))
clear_next q h f aim m asked led (ByChoice offer answer asks is) = none_next (IsNext h) led.next (ap (λ (l : Led). l.next) is)
clear_next q h f aim m asked led (ByMeasured op answer finish asks is) = none_next (IsNext h) led.next (ap (λ (l : Led). l.next) is)
clear_next q h f aim m asked led (ByExchange exchange answer rsp asks read right is) =
    some_next (IsNext h) led.next _ (ap (λ (l : Led). l.next) is) (refl, λ e. absurd (let t = ap (λ (l : List ℕ). slice_index l 0) e in omega (arith, t)))

record_next : (q : ReqSetup) (h : History) (f : Free) (came : Came) (ask : Ask) (led : Led) → RecordLeads q h f came ask led → (s : Sent) → led.next ≡ Some s → IsNext h s
record_next q h f came ask led (ByEnd ends none) = none_next (IsNext h) led.next none
record_next q h f came ask led (ByAnswer ends updates brings none) = none_next (IsNext h) led.next none
record_next q h f came ask led (ByUpdate all asks is) = some_next (IsNext h) led.next _ (ap (λ (l : Led). l.next) is) (refl, λ e. absurd (let t = ap (λ (l : List ℕ). slice_index l 0) e in omega (arith, t)))
record_next q h f came ask led (ByFirst op handle follows is) = some_next (IsNext h) led.next _ (ap (λ (l : Led). l.next) is) (refl, λ e. absurd (let t = ap (λ (l : List ℕ). slice_index l 0) e in omega (arith, t)))
record_next q h f came ask led (ByChunk op handle number before c asks none last is) = some_next (IsNext h) led.next _ (ap (λ (l : Led). l.next) is) (refl, λ e. absurd (let t = ap (λ (l : List ℕ). slice_index l 0) e in omega (arith, t)))

pub heard_next : (q : ReqSetup) (h : History) (owner : Bool) (tag : ℕ) (body : List ℕ) (f : Free) (d : Draw) (entry : Entry) → hears q h owner tag body f d ≡ Adds entry → (s : Sent) → sent_in entry ≡ Some s → IsNext h s
heard_next q h owner tag body f d entry adds s is = elim (heard q h owner tag body f d entry adds) [
  | inl taken ↦ clear_next q h f taken.sent.aim (drop 1 body) taken.asked taken.led (clear_leads q h f taken.sent.aim (drop 1 body) taken.asked taken.led taken.asks taken.leads) s (sym (ap sent_in taken.is) ∙ is)
  | inr opened ↦ record_next q h f (came_to q h opened.1.id opened.1.ask (drop 1 body)) opened.1.ask _ (record_leads q h f (came_to q h opened.1.id opened.1.ask (drop 1 body)) opened.1.ask) s
      (sym (ap sent_in opened.1.is) ∙ is)
]

-- ---- A body with another tag than that of the outstanding message leads to nothing.

wrong : (b : Bool) (cause : ReqIgnored) (rest : Option ReqIgnored) → b ≡ false → cond (not b) (Some cause) rest ≡ Some cause
wrong b cause rest is = ap (λ (x : Bool). cond (not x) (Some cause) rest) is

wrong_tag : (q : ReqSetup) (sent : Sent) (tag : ℕ) (body : List ℕ) → has_tag (Some sent) tag ≡ false → body_fault q (Some sent) false tag body ≡ Some WrongTag
unfolding body_fault
wrong_tag q sent tag body not = wrong (has_tag (Some sent) tag) WrongTag _ not

ignored_by : (q : ReqSetup) (h : History) (f : Free) (tag : ℕ) (body : List ℕ) (d : Draw) (sent : Sent) (cause : Option ReqIgnored) → cause ≡ Some WrongTag → after h (hears_by q h f tag body d (Some sent) cause) ≡ h
ignored_by q h f tag body d sent (Some cause) is = refl
ignored_by q h f tag body d sent None is = absurd (none-some WrongTag is)

pub other_tag : (q : ReqSetup) (h : History) (sent : Sent) (f : Free) (tag : ℕ) (body : List ℕ) (d : Draw) → outstanding h ≡ Some sent → has_tag (Some sent) tag ≡ false → after h (hears q h false tag body f d) ≡ h
unfolding hears
other_tag q h sent f tag body d waits not =
    let P : Option Sent → Type 0 = λ o. after h (hears_by q h f tag body d o (body_fault q o false tag body)) ≡ h in
    subst P (sym waits) (ignored_by q h f tag body d sent (body_fault q (Some sent) false tag body) (wrong_tag q sent tag body not))
