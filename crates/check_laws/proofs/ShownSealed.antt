-- A command in a session is determined by its record.
use Rattle.std.proofs.Common.{◌≡◌, ◌≤◌, ℕ, List, ◌∷◌, refl, sym, ap, ◌∙◌, length, drop, false, Some, None, arith}
use Rattle.std.specs.Prelude.{slice_index}
use Rattle.std.proofs.lemmas.Option.{none-some, same_Some}
use Rattle.requester_machine.proofs.Entries.{asked}
use Rattle.requester_machine.specs.Asking.{asks, asks_by, done}
use Rattle.requester_machine.specs.Asking.Outcome.{Adds}
use Rattle.requester_machine.specs.Commands.{Free, command_fault}
use Rattle.requester_machine.specs.History.{History, begins_large}
use Rattle.requester_machine.specs.History.Entry.{Told}
use Rattle.requester_machine.specs.May.{IsAllowed, IsSetUp}
use Rattle.requester_machine.specs.Message.{Ask, Command, Sent, body_of}
use Rattle.requester_machine.specs.Message.Ask.{AskBeat, AskData, AskEnd, AskMeasure, AskUpdate}
use Rattle.requester_machine.specs.Message.Command.{Connect, Open, Send, Beat, Update, Measure, End, Retry}
use Rattle.requester_machine.specs.Records.{sealed_next}
use Rattle.requester_machine.specs.Sending.{inner_data, inner_request, key_update, operation_of, record_sent}
use Rattle.requester_machine.specs.Session.{session_of}
use Rattle.requester_machine.specs.Setup.{ReqSetup}
use Rattle.spdm_grammar.specs.Message.RequestMessage.{EndSession, GetMeasurements, Heartbeat}
use Rattle.spdm_machine.specs.Bodies.{record_body}
use Rattle.check_laws.proofs.Connecting.{pad_with, values_with, with_allowed}
use Rattle.check_laws.specs.Showing.{IsCommandedIn, SealedIsShown, inner_for, values_shown}
use Rattle.capture_machine.proofs.AskTells.{IsSent, Kind, kind_of, sent_by_kind}
use Rattle.capture_machine.proofs.AskTells.Kind.{InClear, OfSession, Again}
use Rattle.capture_machine.specs.CapturedRequests.{Tells}
use Rattle.capture_machine.specs.Rounds.{no_draw}

-- ---- The values change no fault.

pub fault_free : (q : ReqSetup) (h : History) (c : Command) (id : ℕ) (inner : List ℕ) (f k : Free) → inner_for h c ≡ Some (id, inner) → command_fault false q h c f ≡ command_fault false q h c k
unfolding command_fault
fault_free q h Connect id inner f k is = absurd (none-some (id, inner) is)
fault_free q h (Open summary) id inner f k is = absurd (none-some (id, inner) is)
fault_free q h (Send of bytes) id inner f k is = refl
fault_free q h (Beat of) id inner f k is = refl
fault_free q h (Update of all) id inner f k is = refl
fault_free q h (Measure None op) id inner f k is = absurd (none-some (id, inner) is)
fault_free q h (Measure (Some of) op) id inner f k is = refl
fault_free q h (End of) id inner f k is = refl
fault_free q h Retry id inner f k is = absurd (none-some (id, inner) is)

inner_is : (q : ReqSetup) (h : History) (f : Free) (c : Command) (id : ℕ) (ask : Ask) (inner : List ℕ) → kind_of q h f c ≡ OfSession id ask inner → inner_for h c ≡ Some (id, inner)
inner_is q h f Connect id ask inner is = absurd (cc)
inner_is q h f (Open summary) id ask inner is = absurd (cc)
inner_is q h f (Send of bytes) id ask inner is = let x : of ≡ id = cc in let y : inner_data bytes ≡ inner = cc in ap (λ (n : ℕ). Some (n, inner_data bytes)) x ∙ ap (λ (l : List ℕ). Some (id, l)) y
inner_is q h f (Beat of) id ask inner is = let x : of ≡ id = cc in let y : inner_request Heartbeat ≡ inner = cc in ap (λ (n : ℕ). Some (n, inner_request Heartbeat)) x ∙ ap (λ (l : List ℕ). Some (id, l)) y
inner_is q h f (Update of all) id ask inner is =
    let x : of ≡ id = cc in
    let text : List ℕ = inner_request (key_update (session_of of h) (operation_of all)) in
    let y : text ≡ inner = cc in ap (λ (n : ℕ). Some (n, text)) x ∙ ap (λ (l : List ℕ). Some (id, l)) y
inner_is q h f (Measure None op) id ask inner is = absurd (cc)
inner_is q h f (Measure (Some of) op) id ask inner is =
    let x : of ≡ id = cc in let y : inner_request (GetMeasurements op) ≡ inner = cc in ap (λ (n : ℕ). Some (n, inner_request (GetMeasurements op))) x ∙ ap (λ (l : List ℕ). Some (id, l)) y
inner_is q h f (End of) id ask inner is = let x : of ≡ id = cc in let y : inner_request EndSession ≡ inner = cc in ap (λ (n : ℕ). Some (n, inner_request EndSession)) x ∙ ap (λ (l : List ℕ). Some (id, l)) y
inner_is q h f Retry id ask inner is = absurd (cc)

-- ---- What a command sends.

shown_by : (q : ReqSetup) (h : History) (c : Command) (f : Free) (s : Sent) (sealed : List ℕ) (kind : Kind) → IsAllowed q h f → kind_of q h f c ≡ kind → command_fault false q h c f ≡ None → IsSent q h f kind s → begins_large s.aim ≡ false
    → body_of s.content ≡ record_body sealed → IsCommandedIn q h sealed
shown_by q h c f s sealed (InClear a) fits is right sent small body =
    absurd (let t = ap (λ (l : List ℕ). slice_index l 0) (sym body ∙ ap (λ (x : Sent). body_of x.content) (sent.0 small)) in omega (arith, t))
shown_by q h c f s sealed (OfSession id ask inner) fits is right sent small body =
    let asks_in = inner_is q h f c id ask inner is in
    (c, id, inner, f.pad, asks_in, fits.pad, fault_free q h c id inner (values_shown EndSession) f asks_in ∙ right, ap (λ (l : List ℕ). drop 1 l) (sym body ∙ ap (λ (x : Sent). body_of x.content) sent))
shown_by q h c f s sealed Again fits is right sent small body = absurd sent

pub to_shown : (q : ReqSetup) (h : History) (c : Command) (sealed : List ℕ) (next : History) → Tells q h c (record_body sealed) next → IsCommandedIn q h sealed
to_shown q h c sealed next one =
    let did = asked false q h c one.1.0 no_draw (Told c one.0 no_draw) one.1.2 in
    shown_by q h c one.1.0 one.0 sealed (kind_of q h one.1.0 c) one.1.1 refl did.0 (sent_by_kind q h one.1.0 c one.0 no_draw did.1) one.2 one.3

-- ---- And back.

pub asks_right : (q : ReqSetup) (h : History) (c : Command) (f : Free) → command_fault false q h c f ≡ None → asks false q h c f no_draw ≡ done q h c f no_draw
unfolding asks
asks_right q h c f right = ap (asks_by q h c f no_draw) right

sealed_told : (q : ReqSetup) (h : History) (c : Command) (id : ℕ) (ask : Ask) (inner sealed : List ℕ) (f : Free) → IsAllowed q h f → asks false q h c f no_draw ≡ Adds (Told c (record_sent q h id (session_of id h) ask inner f.pad) no_draw)
    → sealed ≡ sealed_next q.psk (session_of id h) inner f.pad → Tells q h c (record_body sealed) (Told c (record_sent q h id (session_of id h) ask inner f.pad) no_draw ∷ h)
sealed_told q h c id ask inner sealed f fits adds is = (record_sent q h id (session_of id h) ask inner f.pad, (f, fits, adds), refl, ap record_body (sym is), refl)

-- The record of this session and inner message.
as_asked : (q : ReqSetup) (h : History) (sealed pad : List ℕ) (one other : ℕ × List ℕ) → Some one ≡ Some other → sealed ≡ sealed_next q.psk (session_of other.0 h) other.1 pad → sealed ≡ sealed_next q.psk (session_of one.0 h) one.1 pad
as_asked q h sealed pad one other same is = is ∙ ap (λ (p : ℕ × List ℕ). sealed_next q.psk (session_of p.0 h) p.1 pad) (sym (same_Some one other same))

pub from_shown : (q : ReqSetup) (h : History) (c : Command) (id : ℕ) (inner pad sealed : List ℕ) → IsSetUp q → inner_for h c ≡ Some (id, inner) → length pad ≤ 16 → command_fault false q h c (values_shown EndSession) ≡ None
    → sealed ≡ sealed_next q.psk (session_of id h) inner pad → (next : History) × Tells q h c (record_body sealed) next
from_shown q h c id inner pad sealed set_up asks_in few right is = by_command c asks_in (asks_right q h c f (fault_free q h c id inner f (values_shown EndSession) asks_in ∙ right))
  where
    f : Free
    f = values_with q h pad

    fits : IsAllowed q h f
    fits = with_allowed q h pad set_up few

    pad_is : f.pad ≡ pad
    pad_is = pad_with q h pad

    padded_is : sealed ≡ sealed_next q.psk (session_of id h) inner f.pad
    padded_is = is ∙ ap (sealed_next q.psk (session_of id h) inner) (sym pad_is)

    by_command : (e : Command) → inner_for h e ≡ Some (id, inner) → asks false q h e f no_draw ≡ done q h e f no_draw → (next : History) × Tells q h e (record_body sealed) next
    by_command Connect same does = absurd (none-some (id, inner) same)
    by_command (Open summary) same does = absurd (none-some (id, inner) same)
    by_command (Send of bytes) same does = (_, sealed_told q h (Send of bytes) of AskData (inner_data bytes) sealed f fits does (as_asked q h sealed f.pad (of, inner_data bytes) (id, inner) same padded_is))
    by_command (Beat of) same does = (_, sealed_told q h (Beat of) of AskBeat (inner_request Heartbeat) sealed f fits does (as_asked q h sealed f.pad (of, inner_request Heartbeat) (id, inner) same padded_is))
    by_command (Update of all) same does =
        (_, sealed_told q h (Update of all) of (AskUpdate all) _ sealed f fits does (as_asked q h sealed f.pad (of, inner_request (key_update (session_of of h) (operation_of all))) (id, inner) same padded_is))
    by_command (Measure None op) same does = absurd (none-some (id, inner) same)
    by_command (Measure (Some of) op) same does =
        (_, sealed_told q h (Measure (Some of) op) of (AskMeasure op) _ sealed f fits does (as_asked q h sealed f.pad (of, inner_request (GetMeasurements op)) (id, inner) same padded_is))
    by_command (End of) same does = (_, sealed_told q h (End of) of AskEnd (inner_request EndSession) sealed f fits does (as_asked q h sealed f.pad (of, inner_request EndSession) (id, inner) same padded_is))
    by_command Retry same does = absurd (none-some (id, inner) same)

pub sealed_is_shown : SealedIsShown
sealed_is_shown k sealed set_up none free = (
  λ commands. to_shown k.setup k.requester commands.1.0 sealed commands.0 commands.1.3,
  λ shown.
      let told = from_shown k.setup k.requester shown.0 shown.1 shown.2 shown.3 sealed set_up shown.4 shown.5 shown.6 shown.7 in
      (told.0, (shown.0, none, free, told.1)),
)
