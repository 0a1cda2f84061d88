-- A requester asks with application data under a verified key alone.
use Rattle.std.proofs.Common.{◌≡◌, ℕ, List, [], ◌∷◌, ◌++◌, Bool, true, false, cond, Option, Some, None, is_some, refl, sym, ap, ◌∙◌, subst, inl, inr, true≢false}
use Rattle.requester_machine.proofs.MadeOrder.{in_order as ordered}
use Rattle.requester_machine.specs.Commands.{Free}
use Rattle.requester_machine.specs.Does.{IsMade, command_chosen, body_chosen}
use Rattle.requester_machine.specs.Hearing.{came_to}
use Rattle.requester_machine.specs.History.{History, Entry, Effect, Led, outstanding}
use Rattle.requester_machine.specs.History.Effect.{Answers}
use Rattle.requester_machine.specs.History.Entry.{Told, TookClear, TookRecord}
use Rattle.requester_machine.specs.InnerMessages.{Came, with_record}
use Rattle.requester_machine.specs.Message.{Command, Ask, Content, Sent}
use Rattle.requester_machine.specs.Message.Command.{Connect, Open, Send, Beat, Update, Measure, End, Retry}
use Rattle.requester_machine.specs.Message.Content.{Clear, Sealed}
use Rattle.requester_machine.specs.Order.{FitsWaits, waits_for}
use Rattle.requester_machine.specs.RequesterLog.{steps_at}
use Rattle.requester_machine.specs.Sending.{key_update}
use Rattle.requester_machine.specs.Session.{Steps, session_of, stage_of, is_live, t2_of, finishes}
use Rattle.requester_machine.specs.Session.Step.{Took}
use Rattle.secured_record.specs.Format.{plain_text}
use Rattle.spdm_grammar.specs.Message.RequestMessage.{PskExchange, ChunkGet}
use Rattle.spdm_grammar.specs.Requests.{canonical_request}
use Rattle.spdm_grammar.specs.declared.told.phase.Stage.{Stage}
use Rattle.spdm_grammar.specs.declared.told.phase.Stage.TheVariants as stage
use Rattle.spdm_machine.specs.Keys.{Draw}
use Rattle.spdm_machine.specs.Bodies.{record_body}
use Rattle.spdm_machine.specs.Sessions.{is_past_handshake}
use Rattle.requester_machine.specs.Setup.{ReqSetup}
use Rattle.spdm_agreement.specs.Marks as marks
use Rattle.spdm_agreement.specs.Marks.{Text, Exchange, heard}
use Rattle.spdm_agreement.specs.Reading.{First}
use Rattle.spdm_agreement.specs.Story.{Past, asked_from, command_marks, clear_marks, taken_marks, next_marks, content_marks, asked_first, request_text, answer_text, ask_in}
use Rattle.spdm_agreement.proofs.Requester.ClearLeads.{IsClear}
use Rattle.spdm_agreement.proofs.Requester.Entries.{CommandShape, IsAsked, IsTookRecord, told_shape, record_entry}
use Rattle.spdm_agreement.proofs.Requester.Counts.{is_verifying}
use Rattle.spdm_agreement.proofs.Requester.HistoryInvariant.{AskedKept, is_held}
use Rattle.spdm_agreement.proofs.Requester.Waiting.{waited_for}
use Rattle.spdm_agreement.proofs.Requester.RecordLeads.{NextRecord}
use Rattle.spdm_agreement.proofs.Requester.RecordsTaken.{waits_aimed, own_waits, held_at}
use Rattle.spdm_agreement.proofs.Delivery.Data.{is_data_text, verifying, AskedOpenly, AsksOpenly}
use Rattle.spdm_agreement.proofs.Delivery.InnerText.{message_no_data}
use Rattle.spdm_agreement.proofs.Moves.MarkEffects.{at_key}
use Rattle.spdm_machine.proofs.Members.{none_some, some_same}

-- ---- Marks.

sealed_openly : (u b : List ℕ) (m : List marks.Asked) → (is_data_text b ≡ true → verifying (heard u m) ≡ false) → AsksOpenly m → AsksOpenly (marks.Asked.Sealed u b ∷ m)
sealed_openly u b m new k = record {
  asks = k.asks;
  waits = λ v. at_key (λ v c. (x : Text) → cond c (Some b) (marks.outstanding v m) ≡ Some x → is_data_text x ≡ true → verifying (heard v m) ≡ false) u
      (λ x e is. new (ap is_data_text (some_same b x e) ∙ is)) (λ v. k.waits v) v;
}

heard_openly : (u b reply : List ℕ) (m : List marks.Asked) → marks.outstanding u m ≡ Some b → AsksOpenly m → AsksOpenly (marks.Asked.Heard u b reply ∷ m)
heard_openly u b reply m waits k = record {
  asks = at_key (λ v c. AskedOpenly (cond c ((b, reply) ∷ heard v m) (heard v m))) u (λ is. k.waits u b waits is, k.asks u) (λ v. k.asks v);
  waits = at_key (λ v c. (x : Text) → cond c None (marks.outstanding v m) ≡ Some x → is_data_text x ≡ true → verifying (cond c ((b, reply) ∷ heard v m) (heard v m)) ≡ false) u
      (λ x e is. absurd (none_some x e)) (λ v. k.waits v);
}

clear_openly : (s : Steps) (c : Content) (m : List marks.Asked) → IsClear c → AsksOpenly m → AsksOpenly (content_marks s c ++ m)
clear_openly s (Clear message) m is k = k
clear_openly s (Sealed sealed inner pad) m is k = absurd is

answer_openly : (h : History) (effect : Effect) (m : List marks.Asked) → AsksOpenly m → AsksOpenly (clear_marks h effect ++ m)
answer_openly h (Answers (PskExchange exchange) answer) m k = record { asks = k.asks; waits = k.waits }
answer_openly h _ m k = k

shake_openly : (b : Bool) (x : First) (u : List ℕ) (m : List marks.Asked) → AsksOpenly m → AsksOpenly (cond b (marks.Asked.Opened x u ∷ []) [] ++ m)
shake_openly true x u m k = record { asks = k.asks; waits = k.waits }
shake_openly false x u m k = k

-- ---- Commands. A live session is open while nothing waits.

open_by : (s : Steps) (o : Option Sent) (id : ℕ) → is_some o ≡ false → is_live s ≡ true → FitsWaits (waits_for id o) s → stage_of s ≡ stage.Open
open_by [] o id free live fits = absurd (true≢false (sym live))
open_by (x ∷ s) None id free live fits = fits.0
open_by (x ∷ s) (Some y) id free live fits = absurd (true≢false free)

open_at : (q : ReqSetup) (h : History) (id : ℕ) → IsMade q h → is_some (outstanding h) ≡ false → is_live (session_of id h) ≡ true → stage_of (session_of id h) ≡ stage.Open
open_at q h id made free live = open_by (session_of id h) (outstanding h) id free live (ordered q h id made).fits

-- The stage of a session that is held open is determined by the exchanges under its T2.
abbrev pub StagesStand : (prior : Past) → ReqSetup → History → Type 0
StagesStand prior q h = (id : ℕ) → is_held (session_of id h) ≡ true → is_verifying (stage_of (session_of id h)) ≡ verifying (heard (t2_of (session_of id h)) (asked_from prior q h))

asked_openly : (prior : Past) → (q : ReqSetup) (h : History) (f : Free) (x : Sent) → IsMade q h → StagesStand prior q h → IsAsked q h f x → AsksOpenly (asked_from prior q h) → AsksOpenly (content_marks (steps_at h x.aim) x.content ++ asked_from prior q h)
asked_openly prior q h f x made stand k all =
    let s = session_of k.id h in
    let at = open_at q h k.id made k.free k.live in
    let quiet : verifying (heard (t2_of s) (asked_from prior q h)) ≡ false = sym (stand k.id (held_at s k.live (ap is_past_handshake at))) ∙ ap is_verifying at in
    subst (λ (y : Sent). AsksOpenly (content_marks (steps_at h y.aim) y.content ++ asked_from prior q h)) (sym k.is) (sealed_openly (t2_of s) (plain_text k.inner f.pad) (asked_from prior q h) (λ is. quiet) all)

command_openly : (prior : Past) → (q : ReqSetup) (h : History) (f : Free) (c : Command) (x : Sent) (d : Draw) → IsMade q h → StagesStand prior q h → CommandShape q h f c x → AsksOpenly (asked_from prior q h) → AsksOpenly (command_marks h c x d ++ asked_from prior q h)
command_openly prior q h f Connect x d made stand k all = clear_openly (steps_at h x.aim) x.content (asked_from prior q h) k.content all
command_openly prior q h f (Open summary) x d made stand k all = record { asks = all.asks; waits = all.waits }
command_openly prior q h f (Measure None op) x d made stand k all = clear_openly (steps_at h x.aim) x.content (asked_from prior q h) k.0.content all
command_openly prior q h f Retry x d made stand k all = absurd k
command_openly prior q h f (Send id bytes) x d made stand k all = asked_openly prior q h f x made stand k all
command_openly prior q h f (Beat id) x d made stand k all = asked_openly prior q h f x made stand k all
command_openly prior q h f (Update id whole) x d made stand k all = asked_openly prior q h f x made stand k all
command_openly prior q h f (Measure (Some id) op) x d made stand k all = asked_openly prior q h f x made stand k all
command_openly prior q h f (End id) x d made stand k all = asked_openly prior q h f x made stand k all

-- ---- Records.

next_openly : (q : ReqSetup) (h : History) (f : Free) (came : Came) (effect : Effect) (ask : Ask) (o : Option Sent) (s : Steps) (u b reply : List ℕ) (m : List marks.Asked) → NextRecord q h f came effect ask o
    → AsksOpenly (marks.Asked.Heard u b reply ∷ m) → AsksOpenly ((next_marks s o ++ marks.Asked.Heard u b reply ∷ []) ++ m)
next_openly q h f came effect ask None s u b reply m n k = k
next_openly q h f came effect ask (Some x) s u b reply m n k =
    subst (λ (y : Sent). AsksOpenly ((content_marks s y.content ++ marks.Asked.Heard u b reply ∷ []) ++ m)) (sym n.is)
    (sealed_openly (t2_of s) (plain_text n.inner f.pad) (marks.Asked.Heard u b reply ∷ m) (λ is. absurd (true≢false (sym is ∙ none))) k)
  where
    none : is_data_text (plain_text n.inner f.pad) ≡ false
    none = elim n.kind [
      | inl v ↦ ap (λ (l : List ℕ). is_data_text (plain_text l f.pad)) v.1 ∙ message_no_data (canonical_request (key_update (with_record came effect) 3)) f.pad
      | inr c ↦ ap (λ (l : List ℕ). is_data_text (plain_text l f.pad)) c.5 ∙ message_no_data (canonical_request (ChunkGet c.1 c.2)) f.pad
    ]

none_openly : (o : Option Sent) (s : Steps) (u b reply : List ℕ) (m : List marks.Asked) → o ≡ None → AsksOpenly (marks.Asked.Heard u b reply ∷ m) → AsksOpenly ((next_marks s o ++ marks.Asked.Heard u b reply ∷ []) ++ m)
none_openly None s u b reply m e k = k
none_openly (Some x) s u b reply m e k = absurd (none_some x (sym e))

past_openly : (prior : Past) → (q : ReqSetup) (h : History) (f : Free) (of : ℕ) (sealed inner : List ℕ) (led : Led) → IsMade q h → AskedKept prior q h → is_past_handshake (stage_of (session_of of h)) ≡ true → IsTookRecord q h f (record_body sealed) of sealed inner led → AsksOpenly (asked_from prior q h)
    → AsksOpenly ((next_marks (Took sealed inner led.effect ∷ session_of of h) led.next ++ marks.Asked.Heard (t2_of (session_of of h)) (request_text (outstanding h)) (answer_text q.psk (session_of of h) (ask_in (outstanding h)) sealed) ∷ []) ++ asked_from prior q h)
past_openly prior q h f of sealed inner led made kept past k all =
    let s = session_of of h in
    let w = waited_for q h f (record_body sealed) of sealed inner led k made in
    let waits : marks.outstanding (t2_of s) (asked_from prior q h) ≡ Some (request_text (outstanding h)) =
    (kept.held of (held_at s w.0 past)).outstanding ∙ own_waits h k.sent of k.ask (waits_aimed h k.sent of k.ask k.waits k.aims) ∙ sym (ap (λ (o : Option Sent). Some (request_text o)) k.waits) in
    let mark = heard_openly (t2_of s) (request_text (outstanding h)) (answer_text q.psk s (ask_in (outstanding h)) sealed) (asked_from prior q h) waits all in
    elim k.led_to [
      | inl a ↦ next_openly q h f (came_to q h of k.ask sealed) led.effect k.ask led.next (Took sealed inner led.effect ∷ s) _ _ _ (asked_from prior q h) a.next mark
      | inr e ↦ none_openly led.next (Took sealed inner led.effect ∷ s) _ _ _ (asked_from prior q h) e.next mark
    ]

staged_openly : (prior : Past) → (g : Stage) (q : ReqSetup) (h : History) (f : Free) (of : ℕ) (sealed inner : List ℕ) (led : Led) → IsMade q h → AskedKept prior q h → stage_of (session_of of h) ≡ g → IsTookRecord q h f (record_body sealed) of sealed inner led → AsksOpenly (asked_from prior q h)
    → AsksOpenly (taken_marks g q (session_of of h) (outstanding h) sealed inner led ++ asked_from prior q h)
staged_openly prior stage.Handshake q h f of sealed inner led made kept at k all = shake_openly (finishes led.effect) (asked_first (session_of of h)) (t2_of (Took sealed inner led.effect ∷ session_of of h)) (asked_from prior q h) all
staged_openly prior stage.Open q h f of sealed inner led made kept at k all = past_openly prior q h f of sealed inner led made kept (ap is_past_handshake at) k all
staged_openly prior stage.Verifying q h f of sealed inner led made kept at k all = past_openly prior q h f of sealed inner led made kept (ap is_past_handshake at) k all

-- An entry keeps it.
pub entry_openly : (prior : Past) → (q : ReqSetup) (h : History) (e : Entry) → IsMade q (e ∷ h) → AskedKept prior q h → StagesStand prior q h → AsksOpenly (asked_from prior q h) → AsksOpenly (asked_from prior q (e ∷ h))
entry_openly prior q h (Told c x d) made kept stand all = command_openly prior q h (command_chosen q h d) c x d made.1 stand (told_shape false q h c c (command_chosen q h d) d d x made.0) all
entry_openly prior q h (TookClear tag m led d) made kept stand all = answer_openly h led.effect (asked_from prior q h) all
entry_openly prior q h (TookRecord tag of sealed inner led d) made kept stand all =
    staged_openly prior (stage_of (session_of of h)) q h (body_chosen q h d) of sealed inner led made.1 kept refl
    (record_entry q h false tag tag (record_body sealed) of sealed inner (body_chosen q h d) led d d made.0) all

pub starts_openly : AsksOpenly []
starts_openly = record { asks = λ u. tt; waits = λ u b e. absurd (none_some b e) }
