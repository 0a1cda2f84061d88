-- What the marks of the two ends of a pair say of their sessions.
use Rattle.std.proofs.Common.{◌≡◌, ℕ, ◌/◌, ◌%◌, List, [], ◌∷◌, ◌++◌, Bool, true, false, Some, ◌==◌, refl, sym, ap, ◌∙◌, subst, inl, inr, arith, eqb-true, eq-eqb, cond, true≢false, ◌⊎◌}
use Rattle.key_schedule.specs.Purpose.{Purpose, is_record}
use Rattle.requester_machine.specs.Session as requester
use Rattle.requester_machine.specs.Shown as asked_shown
use Rattle.responder_machine.specs.Heard as served_shown
use Rattle.running_hash.specs.Hash.{hash_of}
use Rattle.spdm_machine.specs.Sessions.{is_past_handshake, transcript_in}
use Rattle.std.proofs.lemmas.Bool.{and_parts}
use Rattle.spdm_basis.specs.SessionIdBytes.{session_id_bytes}
use Rattle.responder_machine.specs.History as served
use Rattle.responder_machine.specs.History.Entry.{Clear, Sealed, Queued, Ticked, Dropped}
use Rattle.spdm_machine.specs.Keys.{Draw}
use Rattle.responder_machine.specs.Place.{is_held}
use Rattle.responder_machine.specs.ResponderLog.{began_by}
use Rattle.responder_machine.specs.Session as responder
use Rattle.responder_machine.specs.Session.{Event}
use Rattle.responder_machine.specs.Session.Event.{Heard}
use Rattle.responder_machine.specs.Setup.{RspSetup}
use Rattle.spdm_machine.specs.TagLog.{Log}
use Rattle.spdm_machine.specs.Terms.{terms_of}
use Rattle.responder_machine.specs.Turn.{Turn, takes, code_in}
use Rattle.spdm_grammar.specs.declared.told.phase.Stage.{Stage}
use Rattle.spdm_grammar.specs.declared.told.phase.Stage.TheVariants as stage
use Rattle.spdm_agreement.specs.Claims.{IsReached}
use Rattle.spdm_agreement.specs.Marks.{Asked, Served, OpenedApart, asked_open, served_open}
use Rattle.spdm_agreement.specs.Marks as marks
use Rattle.spdm_agreement.specs.Marks.Served.{Began, Finished, Refused, Took}
use Rattle.spdm_agreement.specs.Moves.{State}
use Rattle.spdm_agreement.specs.Reading.{First}
use Rattle.spdm_agreement.specs.Story.{Past, no_past, asked_from, asked_marks, served_from, served_marks, asked_first, served_first, served_turn, record_marks, reply_text}
use Rattle.spdm_agreement.proofs.Requester.EverOpened.{opened_told, apart_told}
use Rattle.spdm_agreement.proofs.Requester.OpenSessions.{IsSteady, asked_stands}
use Rattle.spdm_agreement.proofs.Worlds.Behind.{asked_behind, served_behind, apart_new, open_opened, opened_new, served_in}
use Rattle.spdm_agreement.proofs.Moves.Runs.{holds, agrees, opened_matches, ever_matches, one_beginning, one_id, one_sealed}
use Rattle.spdm_agreement.proofs.Messages.Beginnings.{reading_of}
use Rattle.world_machine.specs.Agreement as world
use Rattle.world_machine.specs.Agreement.{AreOne, HasOpened, IsMade, IsMatched, WasOpened}
use Rattle.requester_machine.specs.Requesting.{Requesting}
use Rattle.responder_machine.specs.Responding.{Connection}
use Rattle.spdm_grammar.specs.declared.names.request_code.TheConstants.{PSK_EXCHANGE, PSK_FINISH, END_SESSION}

-- The state of the machine of moves that a requester and its connection stand for.
abbrev pub state_of : (prior : Past) → Requesting → Connection → Log → State
state_of prior a c log = record { asked = asked_from prior a.setup a.history; served = served_from prior c.setup c.history; log = log }

-- It is reached by moves, and the sessions that are held open are those that the marks tell.
pub record Stands (prior : Past) (a : Requesting) (c : Connection) (log : Log) : Type 0 where
  pub reached : IsReached (reading_of a.setup.psk) (state_of prior a c log)
  pub asked : (id : ℕ) → world.holds a.history id ≡ true
      → asked_open (reading_of a.setup.psk) id (asked_from prior a.setup a.history) ≡ Some (asked_first (requester.session_of id a.history), requester.t2_of (requester.session_of id a.history))
  pub served : (id : ℕ) → is_held c.history id ≡ true
      → served_open (reading_of a.setup.psk) id (served_from prior c.setup c.history) ≡ Some (served_first (responder.session_of id c.history), responder.t2_of (responder.session_of id c.history))

-- ---- One transcript.

ids_told : (a b c d : ℕ) → session_id_bytes a b ≡ session_id_bytes c d → (a ≡ c) × (b ≡ d)
ids_told a b c d e =
    let e0 : a % 256 ≡ c % 256 = cc in
    let e1 : a / 256 ≡ c / 256 = cc in
    let e2 : b % 256 ≡ d % 256 = cc in
    let e3 : b / 256 ≡ d / 256 = cc in
    ((omega arith), (omega arith))

pub one : (prior : Past) → (a : Requesting) (c : Connection) (log : Log) → Stands prior a c log → (req rsp : ℕ) → world.holds a.history req ≡ true → is_held c.history rsp ≡ true
    → requester.id_bytes (requester.session_of req a.history) ≡ responder.id_bytes (responder.session_of rsp c.history)
    → AreOne (requester.session_of req a.history) (responder.session_of rsp c.history)
one prior a c log stands req rsp live held ids =
    let s = requester.session_of req a.history in
    let t = responder.session_of rsp c.history in
    let r = reading_of a.setup.psk in
    let k = holds r (state_of prior a c log) stands.reached in
    let mine = stands.asked req live in
    let theirs = stands.served rsp held in
    let own = (k.asks.opens req (asked_first s, requester.t2_of s) mine).1 in
    let other = (k.serves.opens rsp (served_first t, responder.t2_of t) theirs).1 in
    let told = ids_told _ _ _ _ ids in
    let both = agrees r _ _ _ k req rsp (asked_first s) (served_first t) (requester.t2_of s) (responder.t2_of t) mine (told.1 ∙ other) theirs (sym told.0 ∙ own) in
    record {
      transcript = both.1;
      choice = ap (λ (x : First). (terms_of x.negotiation).choice) both.0;
      common = ap (λ (x : First). (terms_of x.negotiation).common) both.0;
    }

-- ---- Sessions that match.

not_end : (n : ℕ) → (n == PSK_FINISH) ≡ true → (n == END_SESSION) ≡ false
not_end n e = subst (λ (k : ℕ). (k == END_SESSION) ≡ false) (sym (eqb-true n PSK_FINISH e)) refl

-- The turn took PSK_FINISH, and this is the T2 of its session then.
abbrev OpensAt : responder.Events → List ℕ → Turn → List ℕ → List ℕ → Type 0
OpensAt s sealed t reply u = (takes PSK_FINISH t ≡ true) × (responder.t2_of (responder.after_record s sealed t reply) ≡ u)

opened_turn : (b : Bool) (r : RspSetup) (e : Event) (s : responder.Events) (sealed : List ℕ) (t : Turn) (reply : List ℕ) (rest : List Served) (first : First) (u : List ℕ) → takes PSK_FINISH t ≡ b
    → marks.HasOpened (cond b (Finished (served_first (e ∷ s)) (responder.t2_of (Heard sealed t reply ∷ e ∷ s)) ∷ []) (Refused (served_first (e ∷ s)) (reply_text t) ∷ []) ++ rest) first u
    → OpensAt (e ∷ s) sealed t reply u ⊎ marks.HasOpened rest first u
opened_turn true r e s sealed t reply rest first u is h = elim h [
  | inl x ↦ inl (is, ap (λ (c : Bool). responder.t2_of (cond c [] (Heard sealed t reply ∷ e ∷ s))) (not_end (code_in t.effect) is) ∙ sym x.1)
  | inr y ↦ inr y
]
opened_turn false r e s sealed t reply rest first u is h = inr h

opened_stage : (g : Stage) (r : RspSetup) (e : Event) (s : responder.Events) (sealed : List ℕ) (t : Turn) (reply : List ℕ) (rest : List Served) (first : First) (u : List ℕ)
    → marks.HasOpened (served_turn g r (e ∷ s) sealed t reply ++ rest) first u → OpensAt (e ∷ s) sealed t reply u ⊎ marks.HasOpened rest first u
opened_stage stage.Handshake r e s sealed t reply rest first u h = opened_turn (takes PSK_FINISH t) r e s sealed t reply rest first u refl h
opened_stage stage.Open r e s sealed t reply rest first u h = inr h
opened_stage stage.Verifying r e s sealed t reply rest first u h = inr h

opened_record : (r : RspSetup) (s : responder.Events) (sealed : List ℕ) (t : Turn) (reply : List ℕ) (rest : List Served) (first : First) (u : List ℕ)
    → marks.HasOpened (record_marks r s sealed t reply ++ rest) first u → OpensAt s sealed t reply u ⊎ marks.HasOpened rest first u
opened_record r [] sealed t reply rest first u h = inr h
opened_record r (e ∷ s) sealed t reply rest first u h = opened_stage (responder.stage_of (e ∷ s)) r e s sealed t reply rest first u h

opened_clear : (b : Bool) (x : First) (rest : List Served) (first : First) (u : List ℕ) → marks.HasOpened (cond b (Began x ∷ []) [] ++ rest) first u → marks.HasOpened rest first u
opened_clear true x rest first u h = h
opened_clear false x rest first u h = h

own_session : (older : served.History) (tag : ℕ) (sealed : List ℕ) (t : Turn) (reply : List ℕ) (d : Draw) → responder.session_of (responder.id_in_record sealed) (Sealed tag sealed t reply d ∷ older) ≡ responder.after_record (responder.session_of (responder.id_in_record sealed) older) sealed t reply
unfolding responder.session_of
own_session older tag sealed t reply d =
    let id = responder.id_in_record sealed in
    ap (λ (b : Bool). cond b (responder.after_record (responder.session_of id older) sealed t reply) (responder.session_of id older)) (eq-eqb id id refl)

pub opened_there : (r : RspSetup) (h : served.History) (first : First) (u : List ℕ) → marks.HasOpened (served_marks r h) first u → HasOpened u h
opened_there r [] first u h = elim h [ ]
opened_there r (Clear tag t d ∷ older) first u h = opened_there r older first u (opened_clear (takes PSK_EXCHANGE t) (served_first (began_by older t)) (served_marks r older) first u h)
opened_there r (Sealed tag sealed t reply d ∷ older) first u h = elim (opened_record r (responder.session_of (responder.id_in_record sealed) older) sealed t reply (served_marks r older) first u h) [
  | inl x ↦ inl (x.0, ap responder.t2_of (own_session older tag sealed t reply d) ∙ x.1)
  | inr y ↦ inr (opened_there r older first u y)
]
opened_there r (Queued bytes ∷ older) first u h = opened_there r older first u h
opened_there r (Ticked seconds ∷ older) first u h = opened_there r older first u h
opened_there r (Dropped id ∷ older) first u h = opened_there r older first u h

-- No session that the requester opened by its history was opened at the responder before.
abbrev pub OpensNew : Past → Requesting → Connection → Type 0
OpensNew prior a c = (t : First) (u : List ℕ) → marks.IsOpened (asked_marks a.setup a.history) t u → marks.HasOpened (prior.served c.setup) t u → ⊥

-- A session that the requester opened by its history, and that opened at the responder, opened there by its history.
there : (prior : Past) (a : Requesting) (c : Connection) (t : First) (u : List ℕ) → OpensNew prior a c → marks.IsOpened (asked_marks a.setup a.history) t u → marks.HasOpened (served_from prior c.setup c.history) t u → HasOpened u c.history
there prior a c t u new here o = elim (served_in (served_marks c.setup c.history) (prior.served c.setup) t u (subst (λ (m : List Served). marks.HasOpened m t u) (served_behind prior c.setup c.history) o)) [
  | inl x ↦ opened_there c.setup c.history t u x
  | inr y ↦ absurd (new t u here y)
]

pub matched : (prior : Past) → (a : Requesting) (c : Connection) (log : Log) → Stands prior a c log → IsSteady a.history → OpensNew prior a c → IsMatched a c
matched prior a c log stands steady new =
    let r = reading_of a.setup.psk in
    let k = holds r (state_of prior a c log) stands.reached in record {
      held = λ req live. (let s = requester.session_of req a.history in
          there prior a c (asked_first s) (requester.t2_of s) new (open_opened r req (asked_marks a.setup a.history) (asked_first s) (requester.t2_of s) ((asked_stands no_past a.setup.psk a.setup a.history steady req).told live))
          (opened_matches r _ _ _ k req (asked_first s) (requester.t2_of s) (stands.asked req live)));
      ids = λ req other live its same. (let s = requester.session_of req a.history in let o = requester.session_of other a.history in
          one_id r _ _ _ k other req (asked_first o) (asked_first s) (requester.t2_of s)
          (subst (λ (u : List ℕ). asked_open r other (asked_from prior a.setup a.history) ≡ Some (asked_first o, u)) same (stands.asked other its)) (stands.asked req live));
      opened = λ t2 was. (let o = opened_told a.setup a.history steady t2 was in
          there prior a c o.0 t2 new o.1 (ever_matches r _ _ _ k o.0 t2 (subst (λ (m : List Asked). marks.IsOpened m o.0 t2) (sym (asked_behind prior a.setup a.history)) (opened_new (asked_marks a.setup a.history) (prior.asked a.setup) o.0 t2 o.1))));
      apart = apart_told a.setup a.history steady (apart_new (asked_marks a.setup a.history) (prior.asked a.setup) (subst OpenedApart (asked_behind prior a.setup a.history) k.asks.seconds));
    }

-- ---- Hashes.

-- Sessions that are held open at both ends, with one T2, began with the same messages.
one_first : (prior : Past) → (a : Requesting) (c : Connection) (log : Log) → Stands prior a c log → (req rsp : ℕ) → world.holds a.history req ≡ true → is_held c.history rsp ≡ true
    → requester.t2_of (requester.session_of req a.history) ≡ responder.t2_of (responder.session_of rsp c.history)
    → asked_first (requester.session_of req a.history) ≡ served_first (responder.session_of rsp c.history)
one_first prior a c log stands req rsp live held same =
    let s = requester.session_of req a.history in
    let t = responder.session_of rsp c.history in
    let r = reading_of a.setup.psk in
    let k = holds r (state_of prior a c log) stands.reached in
    one_beginning r _ _ _ k (asked_first s) (served_first t) (requester.t2_of s)
    (k.asks.opens req (asked_first s, requester.t2_of s) (stands.asked req live)).0
    (subst (λ (u : List ℕ). marks.HasOpened (served_from prior c.setup c.history) (served_first t) u) (sym same) (k.serves.opens rsp (served_first t, responder.t2_of t) (stands.served rsp held)).0)

past_shown : (g : Stage) (t1 t2 : List ℕ) → is_past_handshake g ≡ true → transcript_in g t1 t2 ≡ t2
past_shown stage.Handshake t1 t2 past = absurd (true≢false (sym past))
past_shown stage.Open t1 t2 past = refl
past_shown stage.Verifying t1 t2 past = refl

pub hashes : (prior : Past) → (a : Requesting) (c : Connection) (log : Log) → Stands prior a c log → (req rsp : ℕ) → world.holds a.history req ≡ true → is_held c.history rsp ≡ true
    → requester.t2_of (requester.session_of req a.history) ≡ responder.t2_of (responder.session_of rsp c.history)
    → (asked_shown.view_of (requester.session_of req a.history)).hash ≡ (served_shown.view_of (responder.session_of rsp c.history)).hash
unfolding asked_shown.view_of served_shown.view_of
hashes prior a c log stands req rsp live held same =
    let s = requester.session_of req a.history in
    let t = responder.session_of rsp c.history in
    let first = one_first prior a c log stands req rsp live held same in
    ap (λ (x : List ℕ). (requester.session_hash s).digest x) (past_shown (requester.stage_of s) (requester.t1_of s) (requester.t2_of s) (and_parts _ _ live).1)
    ∙ ap (λ (x : First). (hash_of (terms_of x.negotiation).choice.hash).digest (requester.t2_of s)) first
    ∙ ap (λ (x : List ℕ). (responder.session_hash t).digest x) same
    ∙ sym (ap (λ (x : List ℕ). (responder.session_hash t).digest x) (past_shown (responder.stage_of t) (responder.t1_of t) (responder.t2_of t) (and_parts _ _ held).1))

-- ---- Numbers.

pub once : (prior : Past) → (a : Requesting) (c : Connection) (log : Log) → Stands prior a c log → (p : Purpose) (number : ℕ) (x y : List ℕ) → is_record p.kind ≡ true → p.psk ≡ a.setup.psk → IsMade p (number ∷ x) log → IsMade p (number ∷ y) log → x ≡ y
once prior a c log stands p number x y is own m n =
    let r = reading_of a.setup.psk in
    let k = holds r (state_of prior a c log) stands.reached in
    one_sealed r _ _ _ k p number x y is (k.backed p _ m own) (k.backed p _ n own)
