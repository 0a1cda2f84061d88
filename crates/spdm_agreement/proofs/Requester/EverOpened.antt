-- The sessions that a requester opened are those that its marks tell.
use Rattle.std.proofs.Common.{◌≡◌, ℕ, List, [], ◌∷◌, ◌++◌, Bool, true, cond, Option, refl, sym, ap, ◌∙◌, subst, inl, inr, true≢false}
use Rattle.requester_machine.specs.History.{History, Led, outstanding}
use Rattle.requester_machine.specs.History.Entry.{Told, TookClear, TookRecord}
use Rattle.requester_machine.specs.Message.{Sent}
use Rattle.requester_machine.specs.Session.{Steps, session_of, stage_of, finishes}
use Rattle.requester_machine.specs.Setup.{ReqSetup}
use Rattle.spdm_grammar.specs.declared.told.phase.Stage.{Stage}
use Rattle.spdm_grammar.specs.declared.told.phase.Stage.TheVariants as stage
use Rattle.world_machine.specs.Agreement.{WasOpened, WereOpenedApart, t2_with}
use Rattle.spdm_agreement.proofs.Requester.OpenSessions.{EndsByAnswer, IsSteady}
use Rattle.spdm_agreement.specs.Marks.{Asked, IsOpened, OpenedApart}
use Rattle.spdm_agreement.specs.Marks.Asked.{Started, Accepted, Opened, Sealed, Heard}
use Rattle.spdm_agreement.specs.Reading.{First}
use Rattle.spdm_agreement.specs.Story.{asked_first, asked_marks, clear_marks, command_marks, taken_marks}

-- Marks in front change nothing of what was opened before.
opened_more : (new m : List Asked) (t : First) (u : List ℕ) → IsOpened m t u → IsOpened (new ++ m) t u
opened_more [] m t u o = o
opened_more (Opened s v ∷ new) m t u o = inr (opened_more new m t u o)
opened_more (Started id draw ∷ new) m t u o = opened_more new m t u o
opened_more (Accepted s ∷ new) m t u o = opened_more new m t u o
opened_more (Sealed v b ∷ new) m t u o = opened_more new m t u o
opened_more (Heard v b reply ∷ new) m t u o = opened_more new m t u o

apart_before : (new m : List Asked) → OpenedApart (new ++ m) → OpenedApart m
apart_before [] m o = o
apart_before (Opened s v ∷ new) m o = apart_before new m o.1
apart_before (Started id draw ∷ new) m o = apart_before new m o
apart_before (Accepted s ∷ new) m o = apart_before new m o
apart_before (Sealed v b ∷ new) m o = apart_before new m o
apart_before (Heard v b reply ∷ new) m o = apart_before new m o

-- The mark of a record that opens a session.
opening : (g : Stage) (q : ReqSetup) (s : Steps) (waiting : Option Sent) (sealed inner : List ℕ) (led : Led) → EndsByAnswer g s sealed inner led.effect → finishes led.effect ≡ true
    → taken_marks g q s waiting sealed inner led ≡ Opened (asked_first s) (t2_with s sealed inner led.effect) ∷ []
opening stage.Handshake q s waiting sealed inner led ends is = ap (λ (b : Bool). cond b (Opened (asked_first s) (t2_with s sealed inner led.effect) ∷ []) []) is
opening stage.Open q s waiting sealed inner led ends is = absurd (true≢false (sym is ∙ ends))
opening stage.Verifying q s waiting sealed inner led ends is = absurd (true≢false (sym is ∙ ends))

-- What was opened is determined by a mark.
pub opened_told : (q : ReqSetup) (h : History) → IsSteady h → (t2 : List ℕ) → WasOpened t2 h → (t : First) × IsOpened (asked_marks q h) t t2
opened_told q [] steady t2 was = elim was [ ]
opened_told q (Told command sent d ∷ older) steady t2 was = (let o = opened_told q older steady.1 t2 was in (o.0, opened_more (command_marks older command sent d) (asked_marks q older) o.0 t2 o.1))
opened_told q (TookClear tag m led d ∷ older) steady t2 was = (let o = opened_told q older steady.1 t2 was in (o.0, opened_more (clear_marks older led.effect) (asked_marks q older) o.0 t2 o.1))
opened_told q (TookRecord tag id sealed inner led d ∷ older) steady t2 was =
    let s = session_of id older in
    let new = taken_marks (stage_of s) q s (outstanding older) sealed inner led in
    elim was [
      | inl w ↦ (asked_first s, subst (λ (x : List Asked). IsOpened (x ++ asked_marks q older) (asked_first s) t2) (sym (opening (stage_of s) q s (outstanding older) sealed inner led steady.0.1 w.0)) (inl (refl, sym w.1)))
      | inr l ↦ (let o = opened_told q older steady.1 t2 l in (o.0, opened_more new (asked_marks q older) o.0 t2 o.1))
    ]

-- Where marks tell sessions apart, the sessions are apart.
pub apart_told : (q : ReqSetup) (h : History) → IsSteady h → OpenedApart (asked_marks q h) → WereOpenedApart h
apart_told q [] steady apart = tt
apart_told q (Told command sent d ∷ older) steady apart = apart_told q older steady.1 (apart_before (command_marks older command sent d) (asked_marks q older) apart)
apart_told q (TookClear tag m led d ∷ older) steady apart = apart_told q older steady.1 (apart_before (clear_marks older led.effect) (asked_marks q older) apart)
apart_told q (TookRecord tag id sealed inner led d ∷ older) steady apart =
    let s = session_of id older in
    let new = taken_marks (stage_of s) q s (outstanding older) sealed inner led in (
      λ is was. (let o = opened_told q older steady.1 (t2_with s sealed inner led.effect) was in
          (subst (λ (x : List Asked). OpenedApart (x ++ asked_marks q older)) (opening (stage_of s) q s (outstanding older) sealed inner led steady.0.1 is) apart).0 o.0 o.1),
      apart_told q older steady.1 (apart_before new (asked_marks q older) apart),
    )
