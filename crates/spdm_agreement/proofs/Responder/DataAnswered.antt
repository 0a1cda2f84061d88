-- A responder answers application data with application data, but while a new key is not verified.
use Rattle.std.proofs.Common.{◌≡◌, ℕ, ◌≤◌, List, [], ◌∷◌, ◌++◌, length, Bool, true, false, cond, refl, sym, ap, ◌∙◌, subst, inl, inr, true≢false, bytes_eq}
use Rattle.spdm_grammar.specs.declared.told.phase.Stage.{Stage}
use Rattle.spdm_grammar.specs.declared.told.phase.Stage.TheVariants as stage
use Rattle.responder_machine.specs.Answer.{Free}
use Rattle.responder_machine.specs.Does.{IsMade, record_chosen, responder_does}
use Rattle.responder_machine.specs.History.{History}
use Rattle.responder_machine.specs.History.Entry.{Clear, Sealed, Queued, Ticked, Dropped}
use Rattle.responder_machine.specs.Records.{opened}
use Rattle.responder_machine.specs.Responder.{Outcome, is_open, after}
use Rattle.responder_machine.specs.Session.{Events, Event, session_of, stage_of, id_in_record, t2_of}
use Rattle.spdm_machine.specs.Sessions.{is_past_handshake}
use Rattle.responder_machine.specs.Setup.{RspSetup}
use Rattle.responder_machine.specs.Turn.{Turn, takes}
use Rattle.spdm_agreement.specs.Marks.{Served, Exchange, taken}
use Rattle.spdm_agreement.specs.Reading.{First}
use Rattle.spdm_agreement.specs.Story.{Past, no_past, served_from, served_first, served_turn, record_marks, taken_text, reply_text}
use Rattle.spdm_agreement.proofs.Delivery.Data.{is_data_inner, is_data_text, verifying, AnsweredDuly, ServesDuly}
use Rattle.spdm_agreement.proofs.Responder.RecordMoves.{is_verifying}
use Rattle.spdm_agreement.proofs.Responder.Counts.{IsCounted}
use Rattle.std.proofs.lemmas.Slice.Eq.{bytes_eq-Decides}
use Rattle.spdm_agreement.proofs.Delivery.AtResponder.{DataTurn, data_turn_is, chosen_short, opened_in}
use Rattle.spdm_agreement.proofs.Delivery.InnerText.{data_text}
use Rattle.spdm_agreement.proofs.Worlds.EndSteps.{ServedStarts, DoesWell, Waits}
use Rattle.responder_machine.proofs.Making.{does_made}
use Rattle.spdm_agreement.proofs.Responder.Exchange as begins
use Rattle.spdm_agreement.proofs.Responder.Bodies as does
use Rattle.spdm_agreement.proofs.Responder.Bodies.{AreCounted}
use Rattle.spdm_agreement.proofs.Responder.FinishPlace.{record_entry}
use Rattle.spdm_grammar.specs.declared.names.request_code.TheConstants.{PSK_EXCHANGE, PSK_FINISH}

-- ---- One turn.

answers_data : (r : RspSetup) (s : Events) (f : Free) (sealed : List ℕ) (t : Turn) → length f.reply ≤ 1024 → is_open (stage_of s) ≡ true → DataTurn (stage_of s) (opened r.psk s sealed) f t
    → is_data_text (taken_text r.psk s sealed) ≡ true → is_data_text (reply_text t) ≡ true
answers_data r s f sealed t short held x asked = elim x [
  | inl d ↦ ap (λ (t : Turn). is_data_text (reply_text t)) d.0 ∙ (data_text f.reply [] short).0
  | inr n ↦ absurd (true≢false (sym asked ∙ ap is_data_inner (sym (opened_in r.psk s sealed)) ∙ n.1 held))
]

-- ---- All marks.

-- More of what was answered duly.
more_by : (b : Bool) (u v : List ℕ) (x : Exchange) (older : List Exchange) → bytes_eq u v ≡ b → (u ≡ v → is_data_text x.0 ≡ true → verifying older ≡ false → is_data_text x.1 ≡ true) → AnsweredDuly older → AnsweredDuly (cond b (x ∷ older) older)
more_by true u v x older same duly all = (duly ((bytes_eq-Decides u v).0 same), all)
more_by false u v x older same duly all = all

shaken : (x : First) (u reply : List ℕ) (m : List Served) (b : Bool) → ServesDuly m → ServesDuly (cond b (Served.Finished x u ∷ []) (Served.Refused x reply ∷ []) ++ m)
shaken x u reply m true all = record { duly = all.duly }
shaken x u reply m false all = record { duly = all.duly }

-- While a new key is not verified, the marks say so.
staged : (g : Stage) (r : RspSetup) (s : Events) (f : Free) (sealed : List ℕ) (t : Turn) (reply : List ℕ) (m : List Served) → length f.reply ≤ 1024 → stage_of s ≡ g → DataTurn (stage_of s) (opened r.psk s sealed) f t
    → (is_past_handshake (stage_of s) ≡ true → is_verifying (stage_of s) ≡ verifying (taken (t2_of s) m)) → ServesDuly m → ServesDuly (served_turn g r s sealed t reply ++ m)
staged stage.Handshake r s f sealed t reply m short is x stands all = shaken (served_first s) (t2_of (Event.Heard sealed t reply ∷ s)) (reply_text t) m (takes PSK_FINISH t) all
staged stage.Open r s f sealed t reply m short is x stands all = record {
  duly = λ v. more_by (bytes_eq (t2_of s) v) (t2_of s) v (taken_text r.psk s sealed, reply_text t) (taken v m) refl (λ same e verified. answers_data r s f sealed t short (ap is_open is) x e) (all.duly v);
}
staged stage.Verifying r s f sealed t reply m short is x stands all = record {
  duly = λ v. more_by (bytes_eq (t2_of s) v) (t2_of s) v (taken_text r.psk s sealed, reply_text t) (taken v m) refl
      (λ same e verified. absurd (true≢false (sym (ap is_verifying is) ∙ stands (ap is_past_handshake is) ∙ ap (λ (u : List ℕ). verifying (taken u m)) same ∙ verified))) (all.duly v);
}

recorded : (r : RspSetup) (s : Events) (f : Free) (sealed : List ℕ) (t : Turn) (reply : List ℕ) (m : List Served) → length f.reply ≤ 1024 → DataTurn (stage_of s) (opened r.psk s sealed) f t
    → IsCounted r.psk s m → ServesDuly m → ServesDuly (record_marks r s sealed t reply ++ m)
recorded r [] f sealed t reply m short x counted all = all
recorded r (e ∷ s) f sealed t reply m short x counted all = staged (stage_of (e ∷ s)) r (e ∷ s) f sealed t reply m short refl x (λ past. (counted.counts past).stands) all

cleared : (x : First) (m : List Served) (b : Bool) → ServesDuly m → ServesDuly (cond b (Served.Began x ∷ []) [] ++ m)
cleared x m true all = record { duly = all.duly }
cleared x m false all = all

-- ---- What is kept of a history: its sessions are counted, and data are answered duly.

pub record IsKept (prior : Past) (r : RspSetup) (h : History) : Type 0 where
  pub counted : AreCounted prior r h
  pub duly : ServesDuly (served_from prior r h)

after_duly : (prior : Past) → (r : RspSetup) (h : History) (o : Outcome) → IsMade r (after h o) → AreCounted prior r h → ServesDuly (served_from prior r h) → ServesDuly (served_from prior r (after h o))
after_duly prior r h (Outcome.Same body) made counted all = all
after_duly prior r h (Outcome.Unopened body) made counted all = all
after_duly prior r h (Outcome.Adds (Clear tag t d)) made counted all = cleared _ (served_from prior r h) (takes PSK_EXCHANGE t) all
after_duly prior r h (Outcome.Adds (Sealed tag sealed t reply d)) made counted all =
    let of = id_in_record sealed in
    let s = session_of of h in
    let f = record_chosen r h sealed d in
    recorded r s f sealed t reply (served_from prior r h) (chosen_short r h sealed d made.1)
    (subst (DataTurn (stage_of s) (opened r.psk s sealed) f) (sym (record_entry r h f tag tag sealed sealed t reply d d made.0)) (data_turn_is r s (opened r.psk s sealed) f)) (counted of) all
after_duly prior r h (Outcome.Adds (Queued bytes)) made counted all = all
after_duly prior r h (Outcome.Adds (Ticked seconds)) made counted all = all
after_duly prior r h (Outcome.Adds (Dropped id)) made counted all = all

-- ---- What a responder owes.

pub does_well : (prior : Past) → DoesWell prior (IsKept prior)
does_well prior r h asked log tag body d ready =
    let step = begins.does_well prior r h asked log tag body d (record { setup = ready.setup; made = ready.made; kept = ready.kept.counted; reached = ready.reached; fresh = ready.fresh; draw = ready.draw }) in
    let o = responder_does r h tag body d in
    record {
      leads = step.leads;
      keeps = λ reached. record { counted = step.keeps reached; duly = after_duly prior r h o (does_made r h tag body d ready.made).made ready.kept.counted ready.kept.duly };
      draws = step.draws;
    }

-- A responder may go on from here.
abbrev pub BeginsDuly : Past → Type 0
BeginsDuly prior = (r : RspSetup) → ServesDuly (prior.served r)

pub served_starts : (prior : Past) → BeginsDuly prior → ServedStarts (IsKept prior)
served_starts prior from r = record { counted = does.served_starts prior r; duly = from r }

-- Where nothing was before, it may begin.
pub begins_duly : BeginsDuly no_past
begins_duly r = record { duly = λ u. tt }

pub waits : (prior : Past) → Waits (IsKept prior)
waits prior r h made kept =
    let l = does.waits prior r h made kept.counted in
    (λ bytes. record { counted = l.0 bytes; duly = record { duly = kept.duly.duly } }, λ seconds. record { counted = l.1 seconds; duly = record { duly = kept.duly.duly } })

pub serves_duly : (prior : Past) → (r : RspSetup) (h : History) → IsKept prior r h → ServesDuly (served_from prior r h)
serves_duly prior r h kept = kept.duly
