-- A session that a responder began is sound, and has a context with the number of one of its draws. No premise of chance
-- is needed.
use Rattle.std.proofs.Common.{◌≡◌, ◌⊎◌, ℕ, ◌≤◌, ◌<◌, ◌+◌, List, [], ◌∷◌, ◌++◌, Bool, true, false, cond, refl, sym, ap, ◌∙◌, subst, inl, inr, arith, true≢false}
use Rattle.responder_machine.specs.Does.{IsMade}
use Rattle.responder_machine.specs.History.{History}
use Rattle.responder_machine.specs.History.Entry.{Clear, Sealed, Queued, Ticked, Dropped}
use Rattle.responder_machine.specs.ResponderLog.{began_by}
use Rattle.responder_machine.specs.Session.{session_of, id_in_record}
use Rattle.responder_machine.specs.Setup.{RspSetup}
use Rattle.responder_machine.specs.Turn.{Turn, takes}
use Rattle.spdm_agreement.proofs.Messages.Beginnings.{front_draw, is_sound_first, reading_of, transcript_of}
use Rattle.spdm_agreement.proofs.Responder.Bodies.{clear_turn}
use Rattle.spdm_agreement.proofs.Responder.Exchange.{begins_in_front, begins_well}
use Rattle.spdm_agreement.proofs.Responder.Negotiation.{entry_turn}
use Rattle.spdm_agreement.proofs.Worlds.Behind.{begun_old}
use Rattle.spdm_agreement.specs.Configured.{IsResponder}
use Rattle.spdm_agreement.specs.Marks.{Served, HasBegun}
use Rattle.spdm_agreement.specs.Marks as marks
use Rattle.spdm_agreement.specs.Reading.{First}
use Rattle.spdm_agreement.specs.Story.{served_marks, served_first, record_marks, began_marks}
use Rattle.spdm_grammar.specs.declared.names.request_code.TheConstants.{PSK_EXCHANGE}
use Rattle.spdm_lives.proofs.RequesterDraws.{IsOfLife}
use Rattle.spdm_lives.proofs.ResponderSessions.{record_begins}
use Rattle.spdm_lives.specs.Apart as apart
use Rattle.spdm_machine.specs.Keys.{Draw}
use Rattle.spdm_machine.specs.Packets.{wear_limit}

-- The draws that stand with clear messages are those of a life.
abbrev pub AreOfLife : (first : ℕ) → History → Type 0
AreOfLife first [] = Unit {0}
AreOfLife first (Clear tag t d ∷ older) = IsOfLife first d × AreOfLife first older
AreOfLife first (_ ∷ older) = AreOfLife first older

-- A session began well, with a draw of the life.
pub record IsWithin (r : RspSetup) (first : ℕ) (t : First) : Type 0 where
  pub sound : is_sound_first r.psk t ≡ true
  pub front : front_draw t ≡ (reading_of r.psk).responder_draw t
  pub low : first ≤ front_draw t
  pub high : front_draw t < first + wear_limit

begun_by : (r : RspSetup) (first : ℕ) (older : History) (t : Turn) (d : Draw) → IsResponder r → IsMade r older → IsOfLife first d → clear_turn r older t.message d ≡ t → takes PSK_EXCHANGE t ≡ true → IsWithin r first (served_first (began_by older t))
begun_by r first older t d setup made of is code =
    subst (λ (x : Turn). IsWithin r first (served_first (began_by older x))) is
    (let taken = ap (takes PSK_EXCHANGE) is ∙ code in
    let w = (begins_well r setup).begins older made t.message d of.draw taken in
    let front = begins_in_front r setup older made t.message d of.draw taken in
    record { sound = w.0; front = front ∙ sym w.1; low = (let l = of.low in omega arith); high = (let l = of.high in omega arith) })

began_one : (b : Bool) (x : First) (m : List Served) (t : First) → HasBegun (cond b (marks.Served.Began x ∷ []) [] ++ m) t → ((b ≡ true) × (t ≡ x)) ⊎ HasBegun m t
began_one true x m t a = elim a [ inl e ↦ inl (refl, e) | inr y ↦ inr y ]
began_one false x m t a = inr a

-- Each session that began.
pub begun_within : (r : RspSetup) (first : ℕ) → IsResponder r → (h : History) → IsMade r h → AreOfLife first h → (t : First) → HasBegun (served_marks r h) t → IsWithin r first t
begun_within r first setup [] made of t a = elim a [ ]
begun_within r first setup (Clear tag turn d ∷ older) made of t a = elim (began_one (takes PSK_EXCHANGE turn) (served_first (began_by older turn)) (served_marks r older) t a) [
  | inl x ↦ subst (IsWithin r first) (sym x.1) (begun_by r first older turn d setup made.1 of.0 (entry_turn r older tag turn d made.0) x.0)
  | inr y ↦ begun_within r first setup older made.1 of.1 t y
]
begun_within r first setup (Sealed tag sealed turn reply d ∷ older) made of t a = begun_within r first setup older made.1 of t (record_begins r (session_of (id_in_record sealed) older) sealed turn reply (served_marks r older) t a)
begun_within r first setup (Queued bytes ∷ older) made of t a = begun_within r first setup older made.2 of t a
begun_within r first setup (Ticked seconds ∷ older) made of t a = begun_within r first setup older made of t a
begun_within r first setup (Dropped id ∷ older) made of t a = absurd made

-- A session that began has a mark.
began_mark : (b : Bool) (x : First) (m : List Served) → b ≡ true → HasBegun (cond b (marks.Served.Began x ∷ []) [] ++ m) x
began_mark true x m e = inl refl
began_mark false x m e = absurd (true≢false (sym e))

pub has_begun : (r : RspSetup) (h : History) (t1 : List ℕ) → apart.HasBegun t1 h → (t : First) × HasBegun (served_marks r h) t × (transcript_of t ≡ t1)
has_begun r [] t1 a = elim a [ ]
has_begun r (Clear tag turn d ∷ older) t1 a = elim a [
  | inl x ↦ (served_first (began_by older turn), began_mark (takes PSK_EXCHANGE turn) (served_first (began_by older turn)) (served_marks r older) x.0, x.1)
  | inr y ↦ (let o = has_begun r older t1 y in (o.0, begun_old (began_marks older turn) (served_marks r older) o.0 o.1, o.2))
]
has_begun r (Sealed tag sealed turn reply d ∷ older) t1 a = (let o = has_begun r older t1 a in (o.0, begun_old (record_marks r (session_of (id_in_record sealed) older) sealed turn reply) (served_marks r older) o.0 o.1, o.2))
has_begun r (Queued bytes ∷ older) t1 a = has_begun r older t1 a
has_begun r (Ticked seconds ∷ older) t1 a = has_begun r older t1 a
has_begun r (Dropped id ∷ older) t1 a = has_begun r older t1 a
