-- The packet that waits is answered.
use Rattle.std.proofs.Common.{◌≡◌, ◌∙◌, ℕ, List, [], ◌∷◌, refl, ap, sym, subst, true, Option, Some, None, Result, Ok, Err}
use Rattle.std.specs.Prelude.{IfSome, MatchResult, OnErr, is_some}
use Rattle.std.proofs.lemmas.Bool.{false≢true}
use Rattle.std.proofs.lemmas.Grind.{flat_map-append}
use Rattle.std.proofs.lemmas.Option.{none-some}
use Rattle.device_serve.specs.Devised as devised
use Rattle.device_serve.specs.Devised.{Devising, answers_waiting, at_rest, behind, frame_of, frames_of, hears, settles, settles_waiting}
use Rattle.device_serve.specs.Devised.Writing.{Tells}
use Rattle.device_serve.specs.Replies.{Answer, answer_in}
use Rattle.device_serve.specs.Replies.Answer.{WithData, WithoutData}
use Rattle.device_serve.specs.Standing.{IsDevisedBy, IsHeard, IsObeyed, StandsFor, WaitsFor, Written, packet_of}
use Rattle.device_serve.specs.declared.device.Device.{Device}
use Rattle.device_serve.specs.declared.waiting.Waiting.{Waiting}
use Rattle.frame_stream.proofs.Written.{prefix_of_first, takes_both, takes_then_prefix}
use Rattle.responder_machine.specs.EndLaws.{source_of}
use Rattle.responder_machine.specs.Independence.{after_reply}
use Rattle.responder_machine.specs.Responding.{Responding, connection_of, queues, reply_fault_of}
use Rattle.responder_serve.specs.declared.fault.ServeFault.{ServeFault}
use Rattle.responder_serve.specs.declared.fault.ServeFault.TheVariants as fault
use Rattle.spdm_basis.specs.Stream.{HasFault, Takes, TakesPrefix}
use Rattle.spdm_basis.specs.declared.streams.transfer.OutFault.{OutFault}
use Rattle.spdm_basis.specs.declared.values.eid.Eid.{Eid}
use Rattle.spdm_grammar.specs.Lines.{Line}
use Rattle.spdm_grammar.specs.declared.told.heard.ReplyFault.{ReplyFault}
use Rattle.trace_text.specs.Whose.{fault_of}

-- ---- What waits.

some_from : (from : Option Eid) (bytes : List ℕ) → is_some from ≡ true → packet_of from bytes ≡ Some bytes
some_from None bytes is = absurd (false≢true is)
some_from (Some eid) bytes is = refl

none_from : (from : Option Eid) (bytes : List ℕ) → packet_of from bytes ≡ None → from ≡ None
none_from None bytes is = refl
none_from (Some eid) bytes is = absurd (none-some bytes (sym is))

-- Nothing waits where no end point is kept, and the other way round.
pub rests_as : (seen : Waiting) → seen.from ≡ None → WaitsFor seen None
rests_as seen none = record {
  is = sym (ap (λ (f : Option Eid). packet_of f seen.bytes.items) none);
  source = subst (λ (f : Option Eid). IfSome f (λ from. from.number ≡ source_of seen.bytes.items)) (sym none) tt;
}

pub no_from : (seen : Waiting) → WaitsFor seen None → seen.from ≡ None
no_from seen waits = none_from seen.from seen.bytes.items (sym waits.is)

-- ---- One thing behind another.

-- What was written first, and then the next.
pub behind_all : (first : Devising) (next : Responding → Devising) (held mid : Option (List ℕ)) (result : Result (Unit {0}) ServeFault) (new : Device) (holds : Option (List ℕ)) →
    Takes held (frames_of first.written) mid → IsDevisedBy (next first.after.responder) mid result new holds → IsDevisedBy (behind first next) held result new holds
behind_all first next held mid (Ok done) new holds took is = (
  is.0,
  subst (λ (l : List ℕ). Takes held l holds) (sym (flat_map-append frame_of first.written (next first.after.responder).written))
      (takes_both held mid holds (frames_of first.written) (frames_of (next first.after.responder).written) took is.1),
)
behind_all first next held mid (Err fault.WriteFault) new holds took is =
    subst (λ (l : List ℕ). TakesPrefix held l holds) (sym (flat_map-append frame_of first.written (next first.after.responder).written))
    (takes_then_prefix held mid holds (frames_of first.written) (frames_of (next first.after.responder).written) took is)
behind_all first next held mid (Err fault.ReadFault) new holds took is = absurd is
behind_all first next held mid (Err fault.TooLong) new holds took is = absurd is
behind_all first next held mid (Err (fault.BadFrame at)) new holds took is = absurd is
behind_all first next held mid (Err (fault.Responder of)) new holds took is = absurd is
behind_all first next held mid (Err fault.OutOfMemory) new holds took is = absurd is

-- A part of the first alone.
pub behind_part : (first : Devising) (next : Responding → Devising) (held : Option (List ℕ)) (f : ServeFault) (mid new : Device) (holds : Option (List ℕ)) →
    IsDevisedBy first held (Err f) mid holds → IsDevisedBy (behind first next) held (Err f) new holds
behind_part first next held fault.WriteFault mid new holds is =
    subst (λ (l : List ℕ). TakesPrefix held l holds) (sym (flat_map-append frame_of first.written (next first.after.responder).written))
    (prefix_of_first held holds (frames_of first.written) (frames_of (next first.after.responder).written) is)
behind_part first next held fault.ReadFault mid new holds is = absurd is
behind_part first next held fault.TooLong mid new holds is = absurd is
behind_part first next held (fault.BadFrame at) mid new holds is = absurd is
behind_part first next held (fault.Responder of) mid new holds is = absurd is
behind_part first next held fault.OutOfMemory mid new holds is = absurd is

-- ---- The packet that waits.

settled_rests : (r : Responding) (waits : Option (List ℕ)) → (settles_waiting r waits).after ≡ at_rest (settles_waiting r waits).after.responder
settled_rests r None = refl
settled_rests r (Some packet) = refl

-- Behind it nothing waits.
pub none_waits : (d : devised.Device) (new : Device) → StandsFor new (settles d).after → StandsFor new (at_rest (settles d).after.responder)
none_waits d new stands = subst (λ (e : devised.Device). StandsFor new e) (settled_rests d.responder d.waits) stands

module _ (seen : Device) (d : devised.Device) (stands : StandsFor seen d) (packet : List ℕ) (some : is_some seen.waiting.from ≡ true) (same : packet ≡ seen.waiting.bytes.items) where
  pub one_waits : d.waits ≡ Some packet
  one_waits = stands.waits.is ∙ some_from seen.waiting.from seen.waiting.bytes.items some ∙ ap (λ (l : List ℕ). Some l) (sym same)

  pub settled_ok : (held : Option (List ℕ)) (new : Device) (holds : Option (List ℕ)) → IsHeard d.responder packet held (Ok tt) new.responder holds → new.waiting.from ≡ None → IsDevisedBy (settles d) held (Ok tt) new holds
  settled_ok held new holds heard none =
      subst (λ (w : Option (List ℕ)). IsDevisedBy (settles_waiting d.responder w) held (Ok tt) new holds) (sym one_waits)
      (record { responder = heard.0; waits = rests_as new.waiting none }, heard.1)

  pub settled_part : (held : Option (List ℕ)) (f : OutFault) (new : Device) (holds : Option (List ℕ)) → IsHeard d.responder packet held (Err f) new.responder holds → IsDevisedBy (settles d) held (Err fault.WriteFault) new holds
  settled_part held f new holds heard =
      subst (λ (w : Option (List ℕ)). IsDevisedBy (settles_waiting d.responder w) held (Err fault.WriteFault) new holds) (sym one_waits) heard

-- ---- An answer.

-- Without data it is the same.
same_settled : (r : Responding) (waits : Option (List ℕ)) → settles_waiting r waits ≡ answers_waiting r waits WithoutData
same_settled r None = refl
same_settled r (Some packet) = refl

pub settled_answer : (d : devised.Device) (held : Option (List ℕ)) (result : Result (Unit {0}) ServeFault) (new : Device) (holds : Option (List ℕ)) →
    IsDevisedBy (settles d) held result new holds → IsDevisedBy (answers_waiting d.responder d.waits WithoutData) held result new holds
settled_answer d held result new holds is = subst (λ (e : Devising). IsDevisedBy e held result new holds) (same_settled d.responder d.waits) is

-- With data they are queued first, and their line is written.
fault_is : (answer : Result (Unit {0}) ReplyFault) (own : Option ReplyFault) → MatchResult answer (λ done. own ≡ None) (λ f. own ≡ Some f) → fault_of answer ≡ own
fault_is (Ok done) own is = sym is
fault_is (Err f) own is = sym is

module _ (seen : Device) (d : devised.Device) (stands : StandsFor seen d) (from : Eid) (own : seen.waiting.from ≡ Some from) (bytes : List ℕ) (answer : Result (Unit {0}) ReplyFault)
    (told : MatchResult answer (λ done. reply_fault_of (connection_of from.number d.responder.connections) bytes ≡ None) (λ f. reply_fault_of (connection_of from.number d.responder.connections) bytes ≡ Some f)) where
  abbrev packet : List ℕ
  packet = seen.waiting.bytes.items

  abbrev fault_at : ℕ → Option ReplyFault
  fault_at n = reply_fault_of (connection_of n d.responder.connections) bytes

  -- The line of the reply, and the responder behind it.
  abbrev queued_at : ℕ → Devising
  queued_at n = record { written = Tells (Line.Reply (fault_at n)) ∷ []; after = at_rest (queues (fault_at n) d.responder n bytes) }

  waits_one : d.waits ≡ Some packet
  waits_one = stands.waits.is ∙ ap (λ (f : Option Eid). packet_of f packet) own

  source_is : from.number ≡ source_of packet
  source_is = subst (λ (f : Option Eid). IfSome f (λ x. x.number ≡ source_of packet)) own stands.waits.source

  line_is : frames_of (Tells (Line.Reply (fault_of answer)) ∷ []) ≡ frames_of (queued_at from.number).written
  line_is = ap (λ (f : Option ReplyFault). frames_of (Tells (Line.Reply f) ∷ [])) (fault_is answer (fault_at from.number) told)

  abbrev pub IsReplied : (held : Option (List ℕ)) → Result (Unit {0}) ServeFault → (new : Device) → (holds : Option (List ℕ)) → Type 0
  IsReplied held result new holds = IsDevisedBy (answers_waiting d.responder d.waits (WithData bytes)) held result new holds

  at_source : (held : Option (List ℕ)) (result : Result (Unit {0}) ServeFault) (new : Device) (holds : Option (List ℕ)) →
      IsDevisedBy (behind (queued_at from.number) (λ (r : Responding). hears r packet)) held result new holds → IsReplied held result new holds
  at_source held result new holds is =
      subst (λ (w : Option (List ℕ)). IsDevisedBy (answers_waiting d.responder w (WithData bytes)) held result new holds) (sym waits_one)
      (subst (λ (n : ℕ). IsDevisedBy (behind (queued_at n) (λ (r : Responding). hears r packet)) held result new holds) source_is is)

  pub replied : (held between : Option (List ℕ)) (result : Result (Unit {0}) ServeFault) (new : Device) (holds : Option (List ℕ)) → Takes held (frames_of (Tells (Line.Reply (fault_of answer)) ∷ [])) between →
      IsDevisedBy (settles_waiting (after_reply from.number bytes d.responder) d.waits) between result new holds → IsReplied held result new holds
  replied held between result new holds took settled =
      at_source held result new holds
      (behind_all (queued_at from.number) (λ (r : Responding). hears r packet) held between result new holds (subst (λ (l : List ℕ). Takes held l between) line_is took)
      (subst (λ (w : Option (List ℕ)). IsDevisedBy (settles_waiting (after_reply from.number bytes d.responder) w) between result new holds) waits_one settled))

  pub replied_part : (held : Option (List ℕ)) (new : Device) (holds : Option (List ℕ)) → TakesPrefix held (frames_of (Tells (Line.Reply (fault_of answer)) ∷ [])) holds → IsReplied held (Err fault.WriteFault) new holds
  replied_part held new holds took =
      at_source held (Err fault.WriteFault) new holds
      (behind_part (queued_at from.number) (λ (r : Responding). hears r packet) held fault.WriteFault new new holds (subst (λ (l : List ℕ). TakesPrefix held l holds) line_is took))

-- The line of an answer that has this.
module _ (d : devised.Device) (at : ℕ) (line : List ℕ) (n : Written) (held : Option (List ℕ)) (answer : Answer) (is : answer_in line ≡ Some answer) where
  pub obeyed : (result : Result (Unit {0}) ServeFault) (new : Device) (holds : Option (List ℕ)) → OnErr result (HasFault n.before n.after) →
      IsDevisedBy (answers_waiting d.responder d.waits answer) held result new holds → IsObeyed d at line n held result new holds
  obeyed (Ok done) new holds counted own =
      subst (λ (o : Option Answer). (is_some o ≡ true) × StandsFor new (devised.answers d o).after × Takes held (frames_of (devised.answers d o).written) holds) (sym is) (refl, own.0, own.1)
  obeyed (Err fault.WriteFault) new holds counted own =
      subst (λ (o : Option Answer). (is_some o ≡ true) × HasFault n.before n.after × TakesPrefix held (frames_of (devised.answers d o).written) holds) (sym is) (refl, counted, own)
  obeyed (Err fault.ReadFault) new holds counted own = absurd own
  obeyed (Err fault.TooLong) new holds counted own = absurd own
  obeyed (Err fault.OutOfMemory) new holds counted own = absurd own
  obeyed (Err (fault.BadFrame place)) new holds counted own = absurd own
  obeyed (Err (fault.Responder of)) new holds counted own = absurd own
