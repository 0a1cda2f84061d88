-- The body of a message tells the command that sent it, and all of the message.
use Rattle.std.proofs.Common.{◌≡◌, ◌<◌, ℕ, List, refl, sym, ap, ◌∙◌, Bool, true, false, Option, Some, None, cond, arith}
use Rattle.std.specs.Prelude.{slice_index, ◌^◌}
use Rattle.std.proofs.lemmas.Bool.{false≢true}
use Rattle.std.proofs.lemmas.Bool.Decides.{nat_tests}
use Rattle.std.proofs.lemmas.Option.{none-some, same_Some}
use Rattle.std.specs.Result.{result_ok}
use Rattle.spdm_grammar.specs.Message.{RequestMessage}
use Rattle.spdm_grammar.specs.Message.RequestMessage.{GetVersion, GetMeasurements, PskExchange, Heartbeat, EndSession}
use Rattle.spdm_grammar.specs.Requests.{canonical_request, request_layout, request_in, IsSoundExchange}
use Rattle.spdm_grammar.proofs.CanonicalRequests.{request_spelled}
use Rattle.spdm_grammar.proofs.Spellings.{spelling_read}
use Rattle.spdm_grammar.specs.Fields.{is_summary}
use Rattle.spdm_machine.specs.Keys.{Draw}
use Rattle.negotiate.specs.declared.shared.Common.{Common}
use Rattle.requester_machine.specs.Setup.{ReqSetup}
use Rattle.requester_machine.specs.Asking.{done, resent}
use Rattle.requester_machine.specs.Asking.Outcome.{Adds}
use Rattle.requester_machine.specs.Commands.{Free, exchange_for}
use Rattle.requester_machine.specs.History.{History, Entry, outstanding, connection_terms, next_handle, begins_large}
use Rattle.requester_machine.specs.History.Entry.{Told}
use Rattle.requester_machine.specs.May.{IsAllowed}
use Rattle.requester_machine.specs.Message.{Command, Ask, Sent, asked_in}
use Rattle.requester_machine.specs.Message.Ask.{AskData, AskBeat, AskUpdate, AskMeasure, AskEnd}
use Rattle.requester_machine.specs.Message.Command.{Connect, Open, Send, Beat, Update, Measure, End, Retry}
use Rattle.requester_machine.specs.Sending.{plain_sent, record_sent, piece_sent, inner_request, inner_data, key_update, operation_of}
use Rattle.requester_machine.specs.Session.{session_of}
use Rattle.requester_machine.proofs.Entries.{asked, entry_in}

-- ---- What a command asks.

-- A request in the clear, an ask of a session with its inner message, or nothing new.
pub data Kind : Type 0 where
  InClear : (asked : RequestMessage) → Kind
  OfSession : (id : ℕ) → (ask : Ask) → (inner : List ℕ) → Kind
  Again : Kind

abbrev pub kind_of : ReqSetup → History → Free → Command → Kind
kind_of q h f Connect = InClear GetVersion
kind_of q h f (Open summary) = InClear (exchange_for q f summary)
kind_of q h f (Send id bytes) = OfSession id AskData (inner_data bytes)
kind_of q h f (Beat id) = OfSession id AskBeat (inner_request Heartbeat)
kind_of q h f (Update id all) = OfSession id (AskUpdate all) (inner_request (key_update (session_of id h) (operation_of all)))
kind_of q h f (Measure None op) = InClear (GetMeasurements op)
kind_of q h f (Measure (Some id) op) = OfSession id (AskMeasure op) (inner_request (GetMeasurements op))
kind_of q h f (End id) = OfSession id AskEnd (inner_request EndSession)
kind_of q h f Retry = Again

-- What a message of this kind is, where it begins no large request.
abbrev pub IsSent : ReqSetup → History → Free → Kind → Sent → Type 0
IsSent q h f (InClear asked) s = (begins_large s.aim ≡ false → s ≡ plain_sent h asked) × (asked_in s.aim ≡ Some asked)
IsSent q h f (OfSession id ask inner) s = s ≡ record_sent q h id (session_of id h) ask inner f.pad
IsSent q h f Again s = ⊥

sent_told : Entry → Option Sent
sent_told (Told command sent d) = Some sent
sent_told _ = None

pub same_sent : (c : Command) (s t : Sent) (d : Draw) → Adds (Told c s d) ≡ Adds (Told c t d) → s ≡ t
same_sent c s t d e = cc

plain_by : (b : Bool) (h : History) (common : Common) (asked : RequestMessage) (s : Sent) → cond b (piece_sent common h asked (next_handle h) 0) (plain_sent h asked) ≡ s
    → (begins_large s.aim ≡ false → s ≡ plain_sent h asked) × (asked_in s.aim ≡ Some asked)
plain_by true h common asked s e = (λ not. absurd (false≢true (sym (ap (λ (x : Sent). begins_large x.aim) e ∙ not))), ap (λ (x : Sent). asked_in x.aim) (sym e))
plain_by false h common asked s e = (λ not. sym e, ap (λ (x : Sent). asked_in x.aim) (sym e))

pub no_again : (o : Option Sent) (c : Command) (s : Sent) (d : Draw) → resent o ≡ Adds (Told c s d) → ⊥
no_again None c s d e = none-some _ (ap entry_in e)
no_again (Some sent) c s d e = none-some _ (ap entry_in e)

pub sent_by_kind : (q : ReqSetup) (h : History) (f : Free) (c : Command) (s : Sent) (d : Draw) → done q h c f d ≡ Adds (Told c s d) → IsSent q h f (kind_of q h f c) s
sent_by_kind q h f Connect s d e = let is : plain_sent h GetVersion ≡ s = same_sent Connect _ s d e in (λ not. sym is, ap (λ (x : Sent). asked_in x.aim) (sym is))
sent_by_kind q h f (Open summary) s d e =
    plain_by _ h (connection_terms h).common (exchange_for q f summary) s (same_sent (Open summary) _ s d e)
sent_by_kind q h f (Send id bytes) s d e = sym (same_sent (Send id bytes) _ s d e)
sent_by_kind q h f (Beat id) s d e = sym (same_sent (Beat id) _ s d e)
sent_by_kind q h f (Update id all) s d e = sym (same_sent (Update id all) _ s d e)
sent_by_kind q h f (Measure None op) s d e =
    plain_by _ h (connection_terms h).common (GetMeasurements op) s (same_sent (Measure None op) _ s d e)
sent_by_kind q h f (Measure (Some id) op) s d e = sym (same_sent (Measure (Some id) op) _ s d e)
sent_by_kind q h f (End id) s d e = sym (same_sent (End id) _ s d e)
sent_by_kind q h f Retry s d e = no_again (outstanding h) Retry s d e

-- ---- What a request in the clear tells.

-- The request, as sound as a command sends it.
pub exchange_read : (q : ReqSetup) (h : History) (f : Free) (summary : ℕ) → IsAllowed q h f → is_summary summary ≡ true
    → request_in 0 (canonical_request (exchange_for q f summary)) ≡ Some (exchange_for q f summary)
exchange_read q h f summary allowed sound =
    let x = exchange_for q f summary in
    let small : summary < 256 = grind (arith, nat_tests) in
    let id : f.id < 2 ^ 16 = omega (arith, allowed.most) in
    let is : IsSoundExchange 0 (record { summary = summary; req_id = f.id; hint = q.hint; context = f.context; opaque = f.opaque }) =
    record { summary = sound; hint = omega (arith, allowed.exchange); context_long = omega arith; context = omega (arith, allowed.exchange); opaque = allowed.opaque } in
    ap result_ok (spelling_read (request_layout 0) 0 x (canonical_request x) (request_spelled 0 x (small, id) is).is)

code_told : (a b : RequestMessage) → canonical_request a ≡ canonical_request b → slice_index (canonical_request a) 1 ≡ slice_index (canonical_request b) 1
code_told a b e = ap (λ (l : List ℕ). slice_index l 1) e

-- Two exchanges of one encoding, and so their commands.
pub exchange_tells : (q : ReqSetup) (h g : History) (f k : Free) (summary kind : ℕ) → IsAllowed q h f → IsAllowed q g k → is_summary summary ≡ true → is_summary kind ≡ true
    → canonical_request (exchange_for q f summary) ≡ canonical_request (exchange_for q k kind) → exchange_for q f summary ≡ exchange_for q k kind
exchange_tells q h g f k summary kind fits suits sound fine same =
    same_Some _ _ (sym (exchange_read q h f summary fits sound) ∙ ap (request_in 0) same ∙ exchange_read q g k kind suits fine)

abbrev pub IsSoundCommand : Command → Type 0
IsSoundCommand (Open summary) = is_summary summary ≡ true
IsSoundCommand _ = Unit {0}

abbrev summary_in : RequestMessage → ℕ
summary_in (PskExchange x) = x.summary
summary_in _ = 0

pub opens_same : (q : ReqSetup) (f k : Free) (summary kind : ℕ) → exchange_for q f summary ≡ exchange_for q k kind → summary ≡ kind
opens_same q f k summary kind e = ap summary_in e

-- Commands of one request in the clear are one.
pub clear_tells : (q : ReqSetup) (h g : History) (f k : Free) (c e : Command) (a b : RequestMessage) → IsAllowed q h f → IsAllowed q g k → IsSoundCommand c → IsSoundCommand e
    → kind_of q h f c ≡ InClear a → kind_of q h k e ≡ InClear b → canonical_request a ≡ canonical_request b → (c ≡ e) × (a ≡ b)
clear_tells q h g f k Connect Connect a b fits suits sound fine is are same = (refl, cc)
clear_tells q h g f k Connect (Open kind) a b fits suits sound fine is are same =
    let x : a ≡ GetVersion = cc in let y : b ≡ exchange_for q k kind = cc in
    absurd (let e : canonical_request GetVersion ≡ canonical_request (exchange_for q k kind) = ap canonical_request (sym x) ∙ same ∙ ap canonical_request y in
    let t = code_told GetVersion (exchange_for q k kind) e in omega arith)
clear_tells q h g f k Connect (Measure None op) a b fits suits sound fine is are same =
    let x : a ≡ GetVersion = cc in let y : b ≡ GetMeasurements op = cc in
    absurd (let t = code_told GetVersion (GetMeasurements op) (ap canonical_request (sym x) ∙ same ∙ ap canonical_request y) in omega arith)
clear_tells q h g f k (Open summary) Connect a b fits suits sound fine is are same =
    let x : a ≡ exchange_for q f summary = cc in let y : b ≡ GetVersion = cc in
    absurd (let t = code_told (exchange_for q f summary) GetVersion (ap canonical_request (sym x) ∙ same ∙ ap canonical_request y) in omega arith)
clear_tells q h g f k (Open summary) (Open kind) a b fits suits sound fine is are same =
    let x : a ≡ exchange_for q f summary = cc in let y : b ≡ exchange_for q k kind = cc in
    let e = exchange_tells q h g f k summary kind fits suits sound fine (ap canonical_request (sym x) ∙ same ∙ ap canonical_request y) in
    (ap Open (opens_same q f k summary kind e), x ∙ e ∙ sym y)
clear_tells q h g f k (Open summary) (Measure None op) a b fits suits sound fine is are same =
    let x : a ≡ exchange_for q f summary = cc in let y : b ≡ GetMeasurements op = cc in
    absurd (let t = code_told (exchange_for q f summary) (GetMeasurements op) (ap canonical_request (sym x) ∙ same ∙ ap canonical_request y) in omega arith)
clear_tells q h g f k (Measure None op) Connect a b fits suits sound fine is are same =
    let x : a ≡ GetMeasurements op = cc in let y : b ≡ GetVersion = cc in
    absurd (let t = code_told (GetMeasurements op) GetVersion (ap canonical_request (sym x) ∙ same ∙ ap canonical_request y) in omega arith)
clear_tells q h g f k (Measure None op) (Open kind) a b fits suits sound fine is are same =
    let x : a ≡ GetMeasurements op = cc in let y : b ≡ exchange_for q k kind = cc in
    absurd (let t = code_told (GetMeasurements op) (exchange_for q k kind) (ap canonical_request (sym x) ∙ same ∙ ap canonical_request y) in omega arith)
clear_tells q h g f k (Measure None op) (Measure None other) a b fits suits sound fine is are same =
    let x : a ≡ GetMeasurements op = cc in let y : b ≡ GetMeasurements other = cc in
    let e : op ≡ other = ap (λ (l : List ℕ). slice_index l 3) (ap canonical_request (sym x) ∙ same ∙ ap canonical_request y) in
    (ap (Measure None) e, x ∙ ap GetMeasurements e ∙ sym y)
clear_tells q h g f k (Send id bytes) e a b fits suits sound fine is are same = absurd (cc)
clear_tells q h g f k (Beat id) e a b fits suits sound fine is are same = absurd (cc)
clear_tells q h g f k (Update id all) e a b fits suits sound fine is are same = absurd (cc)
clear_tells q h g f k (Measure (Some id) op) e a b fits suits sound fine is are same = absurd (cc)
clear_tells q h g f k (End id) e a b fits suits sound fine is are same = absurd (cc)
clear_tells q h g f k Retry e a b fits suits sound fine is are same = absurd (cc)
clear_tells q h g f k c (Send id bytes) a b fits suits sound fine is are same = absurd (cc)
clear_tells q h g f k c (Beat id) a b fits suits sound fine is are same = absurd (cc)
clear_tells q h g f k c (Update id all) a b fits suits sound fine is are same = absurd (cc)
clear_tells q h g f k c (Measure (Some id) op) a b fits suits sound fine is are same = absurd (cc)
clear_tells q h g f k c (End id) a b fits suits sound fine is are same = absurd (cc)
clear_tells q h g f k c Retry a b fits suits sound fine is are same = absurd (cc)
