-- What a requester does with a record that answers what it asked of a session.
use Rattle.std.proofs.Common.{◌≡◌, ◌∙◌, ℕ, List, false, Option, Some, None, refl, ap, eq-eqb}
use Rattle.spdm_basis.specs.declared.causes.record_fault.RecordFault.{RecordFault}
use Rattle.spdm_grammar.specs.declared.told.event.ReqIgnored.{ReqIgnored}
use Rattle.spdm_machine.specs.Bodies.{record_body}
use Rattle.spdm_machine.specs.Keys.{Draw}
use Rattle.requester_machine.specs.Asking.Outcome.{Adds}
use Rattle.requester_machine.specs.Bodies.{body_fault}
use Rattle.requester_machine.specs.Does.{body_chosen, requester_hears}
use Rattle.requester_machine.specs.Hearing.{hears, hears_by, on_record, record_outcome}
use Rattle.requester_machine.specs.History.{History, outstanding}
use Rattle.requester_machine.specs.History.Entry.{TookRecord}
use Rattle.requester_machine.specs.InnerMessages.{Came, inner_led, or_lost}
use Rattle.requester_machine.specs.Message.{Ask, Content, Sent}
use Rattle.requester_machine.specs.Message.Aim.{InSession}
use Rattle.requester_machine.specs.Records.{answer_fault, answer_inner}
use Rattle.requester_machine.specs.Session.{session_of}
use Rattle.requester_machine.specs.Setup.{ReqSetup}

abbrev pub asking_in : ℕ → Content → ℕ → Ask → Sent
asking_in tag content id ask = record { tag = tag; content = content; aim = InSession id ask }

no_fault : (q : ReqSetup) (tag : ℕ) (content : Content) (id : ℕ) (ask : Ask) (sealed : List ℕ) → body_fault q (Some (asking_in tag content id ask)) false tag (record_body sealed) ≡ None
unfolding body_fault
no_fault q tag content id ask sealed = rw (eq-eqb tag tag refl) refl

-- A record that came to a session.
abbrev pub came_as : History → ℕ → (reply inner : List ℕ) → Came
came_as h id reply inner = record { id = id; steps = session_of id h; sealed = reply; inner = inner }

pub heard : (q : ReqSetup) (h : History) (tag : ℕ) (content : Content) (id : ℕ) (ask : Ask) (reply inner : List ℕ) (d : Draw) → outstanding h ≡ Some (asking_in tag content id ask) → answer_fault q.psk (session_of id h) ask reply ≡ None → answer_inner q.psk (session_of id h) ask reply ≡ inner
    → requester_hears q h false tag (record_body reply) d ≡ Adds (TookRecord tag id reply inner (or_lost (came_as h id reply inner) (inner_led q h (body_chosen q h d) (came_as h id reply inner) ask)) d)
unfolding hears on_record
heard q h tag content id ask reply inner d is opens holds =
    let f = body_chosen q h d in
    ap (λ (o : Option Sent). hears_by q h f tag (record_body reply) d o (body_fault q o false tag (record_body reply))) is
    ∙ ap (λ (o : Option ReqIgnored). hears_by q h f tag (record_body reply) d (Some (asking_in tag content id ask)) o) (no_fault q tag content id ask reply)
    ∙ ap (λ (x : List ℕ). record_outcome q h f tag ask (came_as h id reply x) d (answer_fault q.psk (session_of id h) ask reply)) holds
    ∙ ap (λ (o : Option RecordFault). record_outcome q h f tag ask (came_as h id reply inner) d o) opens
