-- What every made history holds.
use Rattle.std.proofs.Common.{ℕ, List, [], ◌∷◌, false, sym, ap, subst, inl, inr}
use Rattle.std.specs.Prelude.{drop}
use Rattle.std.proofs.lemmas.Bool.{false≢true}
use Rattle.spdm_machine.specs.Keys.{Draw}
use Rattle.spdm_machine.specs.Bodies.{clear_body, record_body}
use Rattle.spdm_machine.specs.Terms.{terms_of}
use Rattle.transcript.specs.Transcripts.{Negotiation}
use Rattle.requester_machine.specs.Setup.{ReqSetup}
use Rattle.requester_machine.specs.Commands.{Free}
use Rattle.requester_machine.specs.Does.{IsMade, command_chosen, body_chosen}
use Rattle.requester_machine.specs.Hearing.{came_to}
use Rattle.requester_machine.specs.History.{History, Entry}
use Rattle.requester_machine.specs.History.Entry.{Told, TookClear, TookRecord}
use Rattle.requester_machine.specs.InnerMessages.{inner_led, or_lost}
use Rattle.requester_machine.specs.Session.{session_of}
use Rattle.requester_machine.specs.UnderWay.{IsCommon, is_capable, SizesAreSetUp, SessionSizesAreSetUp, LiveIsUnderNegotiation, ChunksAreUnderWay}
use Rattle.requester_machine.proofs.ClearLeads.{clear_leads}
use Rattle.requester_machine.proofs.Entries.{asked}
use Rattle.requester_machine.proofs.Heard.{Heard, heard}
use Rattle.requester_machine.specs.Holds.{Holds, Waits}
use Rattle.requester_machine.proofs.HoldsClear.{clear_holds}
use Rattle.requester_machine.proofs.HoldsRecord.{record_holds}
use Rattle.requester_machine.proofs.HoldsTold.{told_holds}
use Rattle.requester_machine.proofs.RecordLeads.{record_leads}

-- A body that was heard leaves it so.
heard_holds : (q : ReqSetup) (h : History) (tag : ℕ) (body : List ℕ) (f : Free) (d : Draw) (entry : Entry) → Heard q h tag body f d entry → Holds q h → Holds q (entry ∷ h)
heard_holds q h tag body f d entry (inl t) k =
    subst (λ (e : Entry). Holds q (e ∷ h)) (sym t.is)
    (clear_holds q h f tag (drop 1 body) t.led d t.sent t.asked t.waits t.asks (clear_leads q h f t.sent.aim (drop 1 body) t.asked t.led t.asks t.leads) k)
heard_holds q h tag body f d entry (inr o) k =
    let r = o.1 in
    subst (λ (e : Entry). Holds q (e ∷ h)) (sym r.is)
    (record_holds q h f tag r.id r.ask (drop 1 body) d (or_lost (came_to q h r.id r.ask (drop 1 body)) (inner_led q h f (came_to q h r.id r.ask (drop 1 body)) r.ask)) r.sent r.waits r.aims
    (record_leads q h f (came_to q h r.id r.ask (drop 1 body)) r.ask) k)

pub made_holds : (q : ReqSetup) (h : History) → IsMade q h → Holds q h
unfolding session_of
made_holds q [] made = record { live = λ id live. absurd (false≢true live); known = λ s capable. absurd (false≢true capable); waits = tt }
made_holds q (Told command sent d ∷ older) made =
    let was = asked false q older command (command_chosen q older d) d (Told command sent d) made.0 in
    told_holds q older command (command_chosen q older d) d sent was.0 was.1 (made_holds q older made.1)
made_holds q (TookClear tag m led d ∷ older) made =
    heard_holds q older tag (clear_body m) (body_chosen q older d) d (TookClear tag m led d) (heard q older false tag (clear_body m) (body_chosen q older d) d (TookClear tag m led d) made.0) (made_holds q older made.1)
made_holds q (TookRecord tag id sealed inner led d ∷ older) made =
    heard_holds q older tag (record_body sealed) (body_chosen q older d) d (TookRecord tag id sealed inner led d) (heard q older false tag (record_body sealed) (body_chosen q older d) d (TookRecord tag id sealed inner led d) made.0) (made_holds q older made.1)

-- ---- The laws.

pub under_negotiation : LiveIsUnderNegotiation
under_negotiation q h id made live = (made_holds q h made).live id live

pub sizes : SizesAreSetUp
sizes q h s made capable = (made_holds q h made).known s capable

pub session_sizes : SessionSizesAreSetUp
session_sizes q h id s made live =
    let k = made_holds q h made in
    let w = k.live id live in
    subst (λ (n : Negotiation). IsCommon q (terms_of n).common) (sym w.0) (k.known s (ap is_capable w.1))

pub under_way : ChunksAreUnderWay
under_way q h sent made waits = subst (Waits q h) waits (made_holds q h made).waits
