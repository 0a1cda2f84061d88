-- Nothing was heard or taken by a history under a T2 of which it opened no session.
use Rattle.std.proofs.Common.{◌≡◌, ℕ, List, [], ◌∷◌, ◌++◌, Bool, true, false, cond, Option, Some, None, refl, ◌∙◌, subst, bytes_eq}
use Rattle.std.proofs.lemmas.Slice.Eq.{bytes_eq-Decides}
use Rattle.requester_machine.specs.Does as asks
use Rattle.requester_machine.specs.Does.{body_chosen}
use Rattle.requester_machine.specs.History as asked
use Rattle.requester_machine.specs.History.{Effect, Led}
use Rattle.requester_machine.specs.History.Effect.{Answers}
use Rattle.requester_machine.specs.History.Entry.{Told, TookClear, TookRecord}
use Rattle.requester_machine.specs.Message.{Command, Content, Sent}
use Rattle.requester_machine.specs.Message.Command.{Connect, Open, Send, Beat, Update, Measure, End, Retry}
use Rattle.requester_machine.specs.Message.Content.{Clear as InClear, Sealed as InRecord}
use Rattle.requester_machine.specs.RequesterLog.{steps_at}
use Rattle.requester_machine.specs.Session as requester
use Rattle.requester_machine.specs.Session.Step.{Took}
use Rattle.requester_machine.specs.Setup.{ReqSetup}
use Rattle.responder_machine.specs.Does as serves
use Rattle.responder_machine.specs.History as served
use Rattle.responder_machine.specs.History.Entry.{Clear, Sealed, Queued, Ticked, Dropped}
use Rattle.responder_machine.specs.ResponderLog.{began_by}
use Rattle.responder_machine.specs.Session as responder
use Rattle.responder_machine.specs.Session.Event.{Heard}
use Rattle.responder_machine.specs.Setup.{RspSetup}
use Rattle.responder_machine.specs.Turn.{Turn, takes}
use Rattle.spdm_agreement.proofs.Messages.Beginnings.{reading_of}
use Rattle.spdm_agreement.proofs.Requester.Entries.{record_entry}
use Rattle.spdm_agreement.proofs.Requester.OpenSessions.{asked_stands}
use Rattle.spdm_agreement.proofs.Requester.RecordsTaken.{held_at}
use Rattle.spdm_agreement.proofs.Requester.Waiting as requester_steady
use Rattle.spdm_agreement.proofs.Requester.Waiting.{waited_for}
use Rattle.spdm_agreement.proofs.Responder.FinishPlace as responder_steady
use Rattle.spdm_agreement.proofs.Responder.OpenSessions.{served_stands}
use Rattle.spdm_agreement.proofs.Worlds.Behind.{held_opened, open_opened, opened_old, served_old}
use Rattle.spdm_agreement.specs.Marks as marks
use Rattle.spdm_agreement.specs.Marks.{Asked, Served, Exchange, IsOpened, HasOpened, heard, taken}
use Rattle.spdm_agreement.specs.Reading.{First}
use Rattle.spdm_agreement.specs.Story.{no_past, asked_marks, asked_first, served_marks, served_first, served_turn, record_marks, began_marks, clear_marks, command_marks, content_marks, next_marks, taken_marks, request_text, answer_text, ask_in, reply_text, taken_text}
use Rattle.spdm_grammar.specs.Message.RequestMessage.{PskExchange}
use Rattle.spdm_grammar.specs.declared.names.request_code.TheConstants.{PSK_EXCHANGE, PSK_FINISH}
use Rattle.spdm_grammar.specs.declared.told.phase.Stage.{Stage}
use Rattle.spdm_grammar.specs.declared.told.phase.Stage.TheVariants as stage
use Rattle.spdm_lives.proofs.Checks.{held_there}
use Rattle.spdm_machine.specs.Bodies.{record_body}
use Rattle.spdm_machine.specs.Keys.{Draw}
use Rattle.spdm_machine.specs.Sessions.{is_past_handshake}

unless : {A : Type 0} (b : Bool) (x : A) (l : List A) → (b ≡ true → ⊥) → cond b (x ∷ l) l ≡ l
unless true x l n = absurd (n refl)
unless false x l n = refl

-- ---- The requester.

content_heard : (u : List ℕ) (s : requester.Steps) (c : Content) (m : List Asked) → heard u (content_marks s c ++ m) ≡ heard u m
content_heard u s (InClear message) m = refl
content_heard u s (InRecord sealed inner pad) m = refl

command_heard : (u : List ℕ) (h : asked.History) (c : Command) (x : Sent) (d : Draw) (m : List Asked) → heard u (command_marks h c x d ++ m) ≡ heard u m
command_heard u h (Open summary) x d m = refl
command_heard u h Connect x d m = content_heard u (steps_at h x.aim) x.content m
command_heard u h (Send id bytes) x d m = content_heard u (steps_at h x.aim) x.content m
command_heard u h (Beat id) x d m = content_heard u (steps_at h x.aim) x.content m
command_heard u h (Update id all) x d m = content_heard u (steps_at h x.aim) x.content m
command_heard u h (Measure id op) x d m = content_heard u (steps_at h x.aim) x.content m
command_heard u h (End id) x d m = content_heard u (steps_at h x.aim) x.content m
command_heard u h Retry x d m = content_heard u (steps_at h x.aim) x.content m

clear_heard : (u : List ℕ) (h : asked.History) (effect : Effect) (m : List Asked) → heard u (clear_marks h effect ++ m) ≡ heard u m
clear_heard u h (Answers (PskExchange exchange) answer) m = refl
clear_heard u h (Answers _ answer) m = refl
clear_heard u h _ m = refl

with_content : (u : List ℕ) (s : requester.Steps) (c : Content) (x : Asked) (m : List Asked) → heard u ((content_marks s c ++ x ∷ []) ++ m) ≡ heard u (x ∷ m)
with_content u s (InClear message) x m = refl
with_content u s (InRecord sealed inner pad) x m = refl

with_next : (u : List ℕ) (s : requester.Steps) (o : Option Sent) (x : Asked) (m : List Asked) → heard u ((next_marks s o ++ x ∷ []) ++ m) ≡ heard u (x ∷ m)
with_next u s None x m = refl
with_next u s (Some y) x m = with_content u s y.content x m

opened_heard : (u : List ℕ) (b : Bool) (t : First) (v : List ℕ) (m : List Asked) → heard u (cond b (marks.Asked.Opened t v ∷ []) [] ++ m) ≡ heard u m
opened_heard u true t v m = refl
opened_heard u false t v m = refl

staged_heard : (g : Stage) (q : ReqSetup) (s : requester.Steps) (o : Option Sent) (sealed inner : List ℕ) (led : Led) (u : List ℕ) (m : List Asked) → (is_past_handshake g ≡ true → requester.t2_of s ≡ u → ⊥)
    → heard u (taken_marks g q s o sealed inner led ++ m) ≡ heard u m
staged_heard stage.Handshake q s o sealed inner led u m n = opened_heard u (requester.finishes led.effect) (asked_first s) (requester.t2_of (Took sealed inner led.effect ∷ s)) m
staged_heard stage.Open q s o sealed inner led u m n =
    with_next u (Took sealed inner led.effect ∷ s) led.next (marks.Asked.Heard (requester.t2_of s) (request_text o) (answer_text q.psk s (ask_in o) sealed)) m
    ∙ unless (bytes_eq (requester.t2_of s) u) (request_text o, answer_text q.psk s (ask_in o) sealed) (heard u m) (λ e. n refl ((bytes_eq-Decides (requester.t2_of s) u).0 e))
staged_heard stage.Verifying q s o sealed inner led u m n =
    with_next u (Took sealed inner led.effect ∷ s) led.next (marks.Asked.Heard (requester.t2_of s) (request_text o) (answer_text q.psk s (ask_in o) sealed)) m
    ∙ unless (bytes_eq (requester.t2_of s) u) (request_text o, answer_text q.psk s (ask_in o) sealed) (heard u m) (λ e. n refl ((bytes_eq-Decides (requester.t2_of s) u).0 e))

pub unheard : (q : ReqSetup) (h : asked.History) → asks.IsMade q h → (u : List ℕ) → ((t : First) → IsOpened (asked_marks q h) t u → ⊥) → heard u (asked_marks q h) ≡ []
unheard q [] made u none = refl
unheard q (Told c x d ∷ older) made u none = command_heard u older c x d (asked_marks q older) ∙ unheard q older made.1 u (λ t o. none t (opened_old (command_marks older c x d) (asked_marks q older) t u o))
unheard q (TookClear tag m led d ∷ older) made u none = clear_heard u older led.effect (asked_marks q older) ∙ unheard q older made.1 u (λ t o. none t (opened_old (clear_marks older led.effect) (asked_marks q older) t u o))
unheard q (TookRecord tag of sealed inner led d ∷ older) made u none =
    let s = requester.session_of of older in
    let new = taken_marks (requester.stage_of s) q s (asked.outstanding older) sealed inner led in
    let before : (t : First) → IsOpened (asked_marks q older) t u → ⊥ = λ t o. none t (opened_old new (asked_marks q older) t u o) in
    let live = (waited_for q older (body_chosen q older d) (record_body sealed) of sealed inner led (record_entry q older false tag tag (record_body sealed) of sealed inner (body_chosen q older d) led d d made.0) made.1).0 in
    staged_heard (requester.stage_of s) q s (asked.outstanding older) sealed inner led u (asked_marks q older)
    (λ past e. before (asked_first s) (subst (IsOpened (asked_marks q older) (asked_first s)) e
    (open_opened (reading_of q.psk) of (asked_marks q older) (asked_first s) (requester.t2_of s) ((asked_stands no_past q.psk q older (requester_steady.made_steady q older made.1) of).told (held_at s live past)))))
    ∙ unheard q older made.1 u before

-- ---- The responder.

began_taken : (u : List ℕ) (b : Bool) (x : First) (m : List Served) → taken u (cond b (marks.Served.Began x ∷ []) [] ++ m) ≡ taken u m
began_taken u true x m = refl
began_taken u false x m = refl

shake_taken : (u : List ℕ) (b : Bool) (x : First) (v reply : List ℕ) (m : List Served) → taken u (cond b (marks.Served.Finished x v ∷ []) (marks.Served.Refused x reply ∷ []) ++ m) ≡ taken u m
shake_taken u true x v reply m = refl
shake_taken u false x v reply m = refl

staged_taken : (g : Stage) (r : RspSetup) (s : responder.Events) (sealed : List ℕ) (t : Turn) (reply : List ℕ) (u : List ℕ) (m : List Served) → (is_past_handshake g ≡ true → responder.t2_of s ≡ u → ⊥)
    → taken u (served_turn g r s sealed t reply ++ m) ≡ taken u m
staged_taken stage.Handshake r s sealed t reply u m n = shake_taken u (takes PSK_FINISH t) (served_first s) (responder.t2_of (Heard sealed t reply ∷ s)) (reply_text t) m
staged_taken stage.Open r s sealed t reply u m n = unless (bytes_eq (responder.t2_of s) u) (taken_text r.psk s sealed, reply_text t) (taken u m) (λ e. n refl ((bytes_eq-Decides (responder.t2_of s) u).0 e))
staged_taken stage.Verifying r s sealed t reply u m n = unless (bytes_eq (responder.t2_of s) u) (taken_text r.psk s sealed, reply_text t) (taken u m) (λ e. n refl ((bytes_eq-Decides (responder.t2_of s) u).0 e))

record_taken : (r : RspSetup) (s : responder.Events) (sealed : List ℕ) (t : Turn) (reply : List ℕ) (u : List ℕ) (m : List Served) → (responder.is_live s ≡ true → is_past_handshake (responder.stage_of s) ≡ true → responder.t2_of s ≡ u → ⊥)
    → taken u (record_marks r s sealed t reply ++ m) ≡ taken u m
record_taken r [] sealed t reply u m n = refl
record_taken r (e ∷ s) sealed t reply u m n = staged_taken (responder.stage_of (e ∷ s)) r (e ∷ s) sealed t reply u m (n refl)

pub untaken : (r : RspSetup) (h : served.History) → serves.IsMade r h → (u : List ℕ) → ((t : First) → HasOpened (served_marks r h) t u → ⊥) → taken u (served_marks r h) ≡ []
untaken r [] made u none = refl
untaken r (Clear tag t d ∷ older) made u none =
    began_taken u (takes PSK_EXCHANGE t) (served_first (began_by older t)) (served_marks r older) ∙ untaken r older made.1 u (λ x o. none x (served_old (began_marks older t) (served_marks r older) x u o))
untaken r (Sealed tag sealed t reply d ∷ older) made u none =
    let id = responder.id_in_record sealed in
    let s = responder.session_of id older in
    let before : (x : First) → HasOpened (served_marks r older) x u → ⊥ = λ x o. none x (served_old (record_marks r s sealed t reply) (served_marks r older) x u o) in
    record_taken r s sealed t reply u (served_marks r older)
    (λ live past e. before (served_first s) (subst (HasOpened (served_marks r older) (served_first s)) e
    (held_opened (reading_of r.psk) id (served_marks r older) (served_first s) (responder.t2_of s) ((served_stands no_past r.psk r older (responder_steady.made_steady r older made.1) id).told (held_there s live past)))))
    ∙ untaken r older made.1 u before
untaken r (Queued bytes ∷ older) made u none = untaken r older made.2 u none
untaken r (Ticked seconds ∷ older) made u none = untaken r older made u none
untaken r (Dropped id ∷ older) made u none = absurd made
