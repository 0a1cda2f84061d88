-- The lines of what became of sessions, behind what a frame led to.
use Rattle.std.proofs.Common.{◌≡◌, ◌∙◌, ◌++◌, ◌+◌, ◌-◌, ◌≤◌, ℕ, get_or, take, drop, List, [], ◌∷◌, Option, Some, None, arith, length, refl, ap, sym, subst, append_assoc, append-nil}
use Rattle.std.proofs.lemmas.Grind.{common_steps, flat_map-append}
use Rattle.device_serve.specs.Devised as devised
use Rattle.device_serve.specs.Devised.{Writing, changes_at, changes_from, devised_by, frame_of, frames_of, shown_with, told_changes}
use Rattle.device_serve.specs.Devised.Writing.{Changes}
use Rattle.device_serve.specs.Standing.{IsAnswered, IsStepFault}
use Rattle.device_serve.specs.declared.device.Device.{Device}
use Rattle.frame_stream.proofs.Written.{prefix_of_first, takes_both, takes_then_prefix}
use Rattle.frame_stream.specs.Frames.{GivenFrame}
use Rattle.frame_stream.specs.Runs.{Counts}
use Rattle.responder.specs.Changes.{changes_between, marks_at}
use Rattle.responder.specs.declared.changes.SessionChange.{SessionChange}
use Rattle.responder.specs.declared.changes.SessionMark.{SessionMark}
use Rattle.responder_machine.specs.Responding.{Responding, connection_of}
use Rattle.responder_serve.specs.declared.fault.ServeFault.{ServeFault}
use Rattle.responder_serve.specs.declared.fault.ServeFault.TheVariants as fault
use Rattle.script_text.specs.declared.configuration.config.ReqPart.{ReqPart}
use Rattle.script_text.specs.declared.configuration.config.ScriptConfig.{ScriptConfig}
use Rattle.spdm_basis.specs.Stream.{HasFault, Takes, TakesPrefix}

-- ---- One change before others.

pub first_told : (n : ℕ) (first : Option SessionChange) (others : List (Option SessionChange)) → frames_of (told_changes n (first ∷ others)) ≡ frames_of (told_changes n (first ∷ [])) ++ frames_of (told_changes n others)
first_told n None others = refl
first_told n (Some change) others = sym (append_assoc (frame_of (Changes n change)) [] (frames_of (told_changes n others)))

-- A list is its first and its others.
abbrev pub first_changes : List (Option SessionChange) → List (Option SessionChange)
first_changes l = get_or l 0 None ∷ []

abbrev pub other_changes : List (Option SessionChange) → List (Option SessionChange)
other_changes l = take (length l - 1) (drop 1 l)

parts_of : (l : List (Option SessionChange)) → 1 ≤ length l → l ≡ get_or l 0 None ∷ other_changes l
parts_of [] some = absurd (omega (arith, some))
parts_of (first ∷ others) some = grind (arith, common_steps)

pub front_told : (n : ℕ) (l : List (Option SessionChange)) → 1 ≤ length l → frames_of (told_changes n l) ≡ frames_of (told_changes n (first_changes l)) ++ frames_of (told_changes n (other_changes l))
front_told n l some = ap (λ (m : List (Option SessionChange)). frames_of (told_changes n m)) (parts_of l some) ∙ first_told n (get_or l 0 None) (other_changes l)

-- ---- What was watched.

pub changes_are : (changes : List (Option SessionChange)) (was now : List (Option SessionMark)) (eid : ℕ) (before after : Responding) → changes ≡ changes_between was now
    → was ≡ marks_at (connection_of eid before.connections) → now ≡ marks_at (connection_of eid after.connections) → changes ≡ changes_at eid before after
changes_are changes was now eid before after is first then =
    is
    ∙ ap (λ (marks : List (Option SessionMark)). changes_between marks now) first
    ∙ ap (λ (marks : List (Option SessionMark)). changes_between (marks_at (connection_of eid before.connections)) marks) then

-- ---- One requester behind others.

one_more_from : (n : ℕ) (qs : List ReqPart) (q : ReqPart) (r s : Responding) → changes_from n (qs ++ q ∷ []) r s ≡ changes_from n qs r s ++ told_changes (n + length qs) (changes_at q.eid.number r s)
one_more_from n [] q r s =
    let m : n ≡ n + 0 = omega arith in
    append-nil (told_changes n (changes_at q.eid.number r s)) ∙ ap (λ (k : ℕ). told_changes k (changes_at q.eid.number r s)) m
one_more_from n (p ∷ qs) q r s =
    let own = told_changes n (changes_at p.eid.number r s) in
    let m : (n + 1) + length qs ≡ n + length (p ∷ qs) = omega arith in
    ap (λ (l : List Writing). own ++ l) (one_more_from (n + 1) qs q r s ∙ ap (λ (k : ℕ). changes_from (n + 1) qs r s ++ told_changes k (changes_at q.eid.number r s)) m)
    ∙ sym (append_assoc own (changes_from (n + 1) qs r s) (told_changes (n + length (p ∷ qs)) (changes_at q.eid.number r s)))

-- Requesters are all but the last, and the last.
abbrev pub others_of : List ReqPart → List ReqPart
others_of l = take (length l - 1) (drop 0 l)

pub last_apart : (l : List ReqPart) (last : ReqPart) → 1 ≤ length l → last ≡ get_or l (length l - 1) last → l ≡ others_of l ++ last ∷ []
last_apart l last some is = grind (arith, common_steps)

module _ (c : ScriptConfig) (qs : List ReqPart) (q : ReqPart) (d : devised.Device) (frame : GivenFrame) where
  abbrev pub own_changes : List Writing
  own_changes = told_changes (length qs + 1) (changes_at q.eid.number d.responder (devised_by c d frame).after.responder)

  shown_more : frames_of (shown_with c (qs ++ q ∷ []) d frame) ≡ frames_of (shown_with c qs d frame) ++ frames_of own_changes
  shown_more =
      let written = (devised_by c d frame).written in
      let after = (devised_by c d frame).after.responder in
      let before = changes_from 1 qs d.responder after in
      let m : 1 + length qs ≡ length qs + 1 = omega arith in
      ap (λ (l : List Writing). frames_of (written ++ l)) (one_more_from 1 qs q d.responder after ∙ ap (λ (k : ℕ). before ++ told_changes k (changes_at q.eid.number d.responder after)) m)
      ∙ ap frames_of (sym (append_assoc written before own_changes))
      ∙ flat_map-append frame_of (written ++ before) own_changes

  pub takes_more : (held mid holds : Option (List ℕ)) → Takes held (frames_of (shown_with c qs d frame)) mid → Takes mid (frames_of own_changes) holds → Takes held (frames_of (shown_with c (qs ++ q ∷ []) d frame)) holds
  takes_more held mid holds first then = subst (λ (l : List ℕ). Takes held l holds) (sym shown_more) (takes_both held mid holds (frames_of (shown_with c qs d frame)) (frames_of own_changes) first then)

  pub takes_part : (held mid holds : Option (List ℕ)) → Takes held (frames_of (shown_with c qs d frame)) mid → TakesPrefix mid (frames_of own_changes) holds → TakesPrefix held (frames_of (shown_with c (qs ++ q ∷ []) d frame)) holds
  takes_part held mid holds first then = subst (λ (l : List ℕ). TakesPrefix held l holds) (sym shown_more) (takes_then_prefix held mid holds (frames_of (shown_with c qs d frame)) (frames_of own_changes) first then)

  pub part_before : (held holds : Option (List ℕ)) → TakesPrefix held (frames_of (shown_with c qs d frame)) holds → TakesPrefix held (frames_of (shown_with c (qs ++ q ∷ []) d frame)) holds
  part_before held holds part = subst (λ (l : List ℕ). TakesPrefix held l holds) (sym shown_more) (prefix_of_first held holds (frames_of (shown_with c qs d frame)) (frames_of own_changes) part)

-- ---- Steps.

module _ (c : ScriptConfig) (qs : List ReqPart) (q : ReqPart) (d : devised.Device) (old : Device) (before held : Option (List ℕ)) where
  pub answered_more : (new : Device) (after mid holds : Option (List ℕ)) → (step : IsAnswered c qs d old before held new after mid) → Takes mid (frames_of (own_changes c qs q d step.frame)) holds → IsAnswered c (qs ++ q ∷ []) d old before held new after holds
  answered_more new after mid holds step told = record {
    frame = step.frame;
    read = step.read;
    told = step.told;
    stands = step.stands;
    written = takes_more c qs q d step.frame held mid holds step.written told;
  }

  pub answered_in_part : (n : Counts) (new : Device) (after mid holds : Option (List ℕ)) → HasFault n.written_before n.written_after → (step : IsAnswered c qs d old before held new after mid) → TakesPrefix mid (frames_of (own_changes c qs q d step.frame)) holds
      → IsStepFault c (qs ++ q ∷ []) d old before held n fault.WriteFault new after holds
  answered_in_part n new after mid holds counted step told = (
    counted,
    record { frame = step.frame; read = step.read; told = step.told; written = takes_part c qs q d step.frame held mid holds step.written told },
  )

  pub fault_before : (n : Counts) (f : ServeFault) (new : Device) (after holds : Option (List ℕ)) → IsStepFault c qs d old before held n f new after holds → IsStepFault c (qs ++ q ∷ []) d old before held n f new after holds
  fault_before n fault.ReadFault new after holds is = is
  fault_before n fault.WriteFault new after holds (counted, part) = (
    counted,
    record { frame = part.frame; read = part.read; told = part.told; written = part_before c qs q d part.frame held holds part.written },
  )
  fault_before n fault.TooLong new after holds is = is
  fault_before n (fault.BadFrame at) new after holds is = is
  fault_before n fault.OutOfMemory new after holds is = is
  fault_before n (fault.Responder refused) new after holds is = is
