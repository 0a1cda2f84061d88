-- What is sent on an answer shows whether it asks for a chunk.
use Rattle.std.proofs.Common.{◌≡◌, ◌∙◌, ℕ, List, refl, sym, ap, Bool, Some, inl, inr, drop}
use Rattle.requester_machine.proofs.ClearLeads.{ClearLeads, clear_leads}
use Rattle.requester_machine.proofs.ClearLeads.ClearLeads.{ByRefusal, ByLarge, BySend, ByGet, ByStop, ByVersion, ByCaps, ByChoice, ByMeasured, ByExchange}
use Rattle.requester_machine.proofs.Heard.{heard}
use Rattle.requester_machine.proofs.RecordLeads.{RecordLeads, record_leads}
use Rattle.requester_machine.proofs.RecordLeads.RecordLeads.{ByEnd, ByAnswer, ByUpdate, ByFirst, ByChunk}
use Rattle.requester_machine.specs.Asking.Outcome.{Adds}
use Rattle.requester_machine.specs.Commands.{Free}
use Rattle.requester_machine.specs.Hearing.{came_to, hears}
use Rattle.requester_machine.specs.History.{Entry, History, Led, next_handle, sent_in}
use Rattle.requester_machine.specs.InnerMessages.{Came}
use Rattle.requester_machine.specs.Message.{Aim, Ask, Sent, body_of}
use Rattle.requester_machine.specs.Sending.{piece_sent, plain_sent}
use Rattle.requester_machine.specs.Setup.{ReqSetup}
use Rattle.spdm_grammar.specs.Message.{RequestMessage}
use Rattle.spdm_grammar.specs.Message.RequestMessage.{NegotiateAlgorithms}
use Rattle.spdm_machine.specs.Keys.{Draw}
use Rattle.check_requester.specs.HeardKept.{ShowsChunk}
use Rattle.capture_machine.proofs.HeardNext.{either_next, none_next, some_next}

abbrev Shows : Sent → Type 0
Shows s = ShowsChunk s.aim (body_of s.content)

clear_shows : (q : ReqSetup) (h : History) (f : Free) (aim : Aim) (m : List ℕ) (asked : RequestMessage) (led : Led) → ClearLeads q h f aim m asked led → (s : Sent) → led.next ≡ Some s → Shows s
clear_shows q h f aim m asked led (ByRefusal code is) = none_next Shows led.next (ap (λ (l : Led). l.next) is)
clear_shows q h f aim m asked led (ByLarge handle may is) = some_next Shows led.next _ (ap (λ (l : Led). l.next) is) refl
clear_shows q h f aim m asked led (BySend handle number aims last is) = some_next Shows led.next _ (ap (λ (l : Led). l.next) is) refl
clear_shows q h f aim m asked led (ByGet handle number before c aims none last is) = some_next Shows led.next _ (ap (λ (l : Led). l.next) is) refl
clear_shows q h f aim m asked led (ByStop why may is) = none_next Shows led.next (ap (λ (l : Led). l.next) is)
clear_shows q h f aim m asked led (ByVersion answer asks is) = some_next Shows led.next _ (ap (λ (l : Led). l.next) is) refl
clear_shows q h f aim m asked led (ByCaps caps theirs answer common offer asks read settled offers short is) =
    some_next Shows led.next _ (ap (λ (l : Led). l.next) is)
    (either_next Shows _ (piece_sent common h (NegotiateAlgorithms offer) (next_handle h) 0) (plain_sent h (NegotiateAlgorithms offer)) refl refl)
clear_shows q h f aim m asked led (ByChoice offer answer asks is) = none_next Shows led.next (ap (λ (l : Led). l.next) is)
clear_shows q h f aim m asked led (ByMeasured op answer finish asks is) = none_next Shows led.next (ap (λ (l : Led). l.next) is)
clear_shows q h f aim m asked led (ByExchange exchange answer rsp asks read right is) = some_next Shows led.next _ (ap (λ (l : Led). l.next) is) refl

record_shows : (q : ReqSetup) (h : History) (f : Free) (came : Came) (ask : Ask) (led : Led) → RecordLeads q h f came ask led → (s : Sent) → led.next ≡ Some s → Shows s
record_shows q h f came ask led (ByEnd ends none) = none_next Shows led.next none
record_shows q h f came ask led (ByAnswer ends updates brings none) = none_next Shows led.next none
record_shows q h f came ask led (ByUpdate all asks is) = some_next Shows led.next _ (ap (λ (l : Led). l.next) is) refl
record_shows q h f came ask led (ByFirst op handle follows is) = some_next Shows led.next _ (ap (λ (l : Led). l.next) is) refl
record_shows q h f came ask led (ByChunk op handle number before c asks none last is) = some_next Shows led.next _ (ap (λ (l : Led). l.next) is) refl

pub heard_shows : (q : ReqSetup) (h : History) (owner : Bool) (tag : ℕ) (body : List ℕ) (f : Free) (d : Draw) (entry : Entry) → hears q h owner tag body f d ≡ Adds entry → (s : Sent) → sent_in entry ≡ Some s → ShowsChunk s.aim (body_of s.content)
heard_shows q h owner tag body f d entry adds s is = elim (heard q h owner tag body f d entry adds) [
  | inl taken ↦ clear_shows q h f taken.sent.aim (drop 1 body) taken.asked taken.led (clear_leads q h f taken.sent.aim (drop 1 body) taken.asked taken.led taken.asks taken.leads) s (sym (ap sent_in taken.is) ∙ is)
  | inr opened ↦
      let o = opened.1 in
      let came : Came = came_to q h o.id o.ask (drop 1 body) in
      record_shows q h f came o.ask _ (record_leads q h f came o.ask) s (sym (ap sent_in o.is) ∙ is)
]
