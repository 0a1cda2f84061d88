-- What comes of a step, from what the ends did and what was sent; and steps one after the other.
use Rattle.std.proofs.Common.{refl, ◌≡◌, ◌∙◌, ◌≤◌, ◌++◌, ◌∷◌, [], ℕ, zero, suc, List, false, Option, Some, None, ap, sym, subst, length, append_assoc}
use Rattle.std.proofs.lemmas.List.{append-nil}
use Rattle.std.specs.Prelude.{Result, Ok, Err, IfErr, OnOk, is_ok}
use Rattle.link_world.proofs.Stopping.{not_there, stopped_link}
use Rattle.link_world.proofs.Texts.{before_behind, before_still, has_behind, has_still, text_append}
use Rattle.link_world.specs.Sending.{IsSent}
use Rattle.link_world.specs.Standing.{AreEnds, IsCutOff, IsDone, IsGivenTo, IsLink, IsStepped, IsWhole}
use Rattle.link_world.specs.Written.{before_full, has_full, text_of}
use Rattle.link_world.specs.declared.ends.Ends.{Ends}
use Rattle.link_world.specs.declared.link.Link.{Link}
use Rattle.link_world.specs.declared.sent.SendFault.{SendFault}
use Rattle.link_world.specs.declared.sent.SendFault.TheVariants.{LinkFull, OutOfMemory}
use Rattle.responder_machine.specs.Responding.{ticks}
use Rattle.trace_text.specs.TraceLines.{line_text}
use Rattle.spdm_grammar.specs.Lines.{Line}
use Rattle.spdm_grammar.specs.Lines.Line.{NoPacket}
use Rattle.world_machine.specs.Trace.{packets_max}
use Rattle.world_machine.specs.World.{SentPacket, World, WorldStep, behind, delivers, first_waiting, loses, packet_lines, packet_of, pumps, rests, stopped_of, turn}

-- ---- The ends did something, and the packets of it were sent.

module _ (w : World) (step : WorldStep) (old middle : List ℕ) (sends : List (List ℕ)) (ends : Ends) (g : IsGivenTo w step old middle sends ends) where
  abbrev sent_lines : List Line
  sent_lines = packet_lines (length w.sent) sends

  all_text : (more : List ℕ) → (middle ++ more) ≡ old ++ (text_of g.front ++ more)
  all_text more = ap (λ (t : List ℕ). t ++ more) g.text ∙ append_assoc old (text_of g.front) more

  pub stepped : (new : List ℕ) (after : List SentPacket) (seen : Link) (result : Result Unit SendFault) → seen.ends ≡ ends → seen.sent ≡ after → IsSent w.sent sends middle after new result → IsStepped step result old new seen
  stepped new after seen (Ok done) its_ends its_sent s = record {
    fits = ap has_full g.lines ∙ has_behind g.front sent_lines g.plain ∙ s.fits;
    text = s.text ∙ all_text (text_of sent_lines) ∙ ap (λ (t : List ℕ). old ++ t) (sym (text_append g.front sent_lines) ∙ ap text_of (sym g.lines));
    stands = record {
      ends = subst (λ (e : Ends). AreEnds e step.after) (sym its_ends) g.ends;
      sent = its_sent ∙ s.all ∙ sym g.sent;
      within = subst (λ (l : List SentPacket). length l ≤ packets_max) (s.all ∙ sym g.sent) s.within;
    };
  }
  stepped new after seen (Err LinkFull) its_ends its_sent s = record {
    full = ap has_full g.lines ∙ has_behind g.front sent_lines g.plain ∙ s.full;
    text = s.text ∙ all_text (text_of (before_full sent_lines))
        ∙ ap (λ (t : List ℕ). old ++ t) (sym (text_append g.front (before_full sent_lines)) ∙ ap text_of (sym (before_behind g.front sent_lines g.plain) ∙ ap before_full (sym g.lines)));
  }
  stepped new after seen (Err OutOfMemory) its_ends its_sent s = tt

pub given_steps : (w : World) (step : WorldStep) (old middle new : List ℕ) (sends : List (List ℕ)) (link seen : Link) (result : Result Unit SendFault) → IsLink link w → IsGivenTo w step old middle sends seen.ends
    → (length link.sent ≤ packets_max → IsSent link.sent sends middle seen.sent new result) → IsStepped step result old new seen
given_steps w step old middle new sends link seen result l g s =
    stepped w step old middle sends seen.ends g new seen.sent seen result refl refl
    (subst (λ (sent : List SentPacket). IsSent sent sends middle seen.sent new result) l.sent (s (subst (λ (sent : List SentPacket). length sent ≤ packets_max) (sym l.sent) l.within)))

-- Nothing was sent.
pub done_steps : (w : World) (step : WorldStep) (old new : List ℕ) (ends : Ends) (seen : Link) → IsDone w step old new ends → seen.ends ≡ ends → seen.sent ≡ w.sent → length w.sent ≤ packets_max → IsWhole step old new seen
done_steps w step old new ends seen d its_ends its_sent within = record {
  fits = d.plain;
  text = d.text;
  stands = record {
    ends = subst (λ (e : Ends). AreEnds e step.after) (sym its_ends) d.ends;
    sent = its_sent ∙ sym d.sent;
    within = subst (λ (l : List SentPacket). length l ≤ packets_max) (sym d.sent) within;
  };
}

-- A line was added, or there was no memory for it.
pub line_steps : {E : Type 0} (step : WorldStep) (r : Result Unit E) (q : Result Unit SendFault) (old new : List ℕ) (seen : Link) (P : Type 0) → is_ok q ≡ is_ok r → IfErr q (λ fault. fault ≡ OutOfMemory) → OnOk r P → (P → IsWhole step old new seen)
    → IsStepped step q old new seen
line_steps step (Ok x) (Ok y) old new seen P same none p whole = whole p
line_steps step (Err e) (Ok y) old new seen P same none p whole = cc
line_steps step r (Err fault) old new seen P same none p whole = subst (λ (f : SendFault). IsStepped step (Err f) old new seen) (sym none) tt

-- There is no packet of this number.
abbrev pub nowhere : World → ℕ → WorldStep
nowhere w number = record { lines = NoPacket number ∷ []; after = w }

pub nowhere_steps : (w : World) (number : ℕ) (old new : List ℕ) (link seen : Link) → IsLink link w → seen.ends ≡ link.ends → seen.sent ≡ stopped_of number link.sent → packet_of number w.sent ≡ None → new ≡ old ++ line_text (NoPacket number)
    → IsWhole (nowhere w number) old new seen
nowhere_steps w number old new link seen l ends sent none text = record {
  fits = refl;
  text = text ∙ ap (λ (t : List ℕ). old ++ t) (sym (append-nil (line_text (NoPacket number))));
  stands = record {
    ends = subst (λ (e : Ends). AreEnds e w) (sym ends) l.ends;
    sent = sent ∙ ap (stopped_of number) l.sent ∙ not_there number w.sent none;
    within = l.within;
  };
}

-- The packet of this number waits no longer.
pub lost_steps : (w : World) (number : ℕ) (packet text : List ℕ) (link seen : Link) → IsLink link w → seen.ends ≡ link.ends → seen.sent ≡ stopped_of number link.sent → Some packet ≡ packet_of number w.sent
    → IsWhole (loses w number (packet_of number w.sent)) text text seen
lost_steps w number packet text link seen l ends sent some = subst (λ (p : Option (List ℕ)). IsWhole (loses w number p) text text seen) some (record {
  fits = refl;
  text = sym (append-nil text);
  stands = stopped_link w number link seen l ends sent;
})

-- Seconds passed.
pub ticks_steps : (w : World) (seconds : ℕ) (text : List ℕ) (link seen : Link) → IsLink link w → AreEnds seen.ends (record w { responder = ticks w.responder seconds }) → seen.sent ≡ link.sent
    → IsWhole (rests (record w { responder = ticks w.responder seconds })) text text seen
ticks_steps w seconds text link seen l ends sent = record {
  fits = refl;
  text = sym (append-nil text);
  stands = record { ends = ends; sent = sent ∙ l.sent; within = l.within };
}

-- ---- The same ends and packets.

pub same_link : (w : World) (link seen : Link) → seen.ends ≡ link.ends → seen.sent ≡ link.sent → IsLink link w → IsLink seen w
same_link w link seen ends sent l = record { ends = subst (λ (e : Ends). AreEnds e w) (sym ends) l.ends; sent = sent ∙ l.sent; within = l.within }

pub same_whole : (step : WorldStep) (old new : List ℕ) (link seen : Link) → seen.ends ≡ link.ends → seen.sent ≡ link.sent → IsWhole step old new link → IsWhole step old new seen
same_whole step old new link seen ends sent s = record { fits = s.fits; text = s.text; stands = same_link step.after link seen ends sent s.stands }

-- ---- Packets that are given one after another.

some_turn : (count : ℕ) (w : World) (number : ℕ) → first_waiting w.sent ≡ Some number → pumps (suc count) w ≡ behind (delivers w number (packet_of number w.sent)) (pumps count)
unfolding pumps
some_turn count w number is = ap (turn w (pumps count)) is

no_turn : (count : ℕ) (w : World) → first_waiting w.sent ≡ None → pumps count w ≡ rests w
unfolding pumps
no_turn zero w is = refl
no_turn (suc count) w is = ap (turn w (pumps count)) is

no_turns : (w : World) → pumps 0 w ≡ rests w
unfolding pumps
no_turns w = refl

-- Some turns were made from a world on, and others are left.
pub record IsMidway (count left : ℕ) (w : World) (old text : List ℕ) (seen : Link) : Type 0 where
  pub now : World
  pub done : List Line
  pub fits : has_full done ≡ false
  pub text_is : text ≡ old ++ text_of done
  pub stands : IsLink seen now
  pub lines : (pumps count w).lines ≡ done ++ (pumps left now).lines
  pub after : (pumps count w).after ≡ (pumps left now).after

pub midway_first : (count left : ℕ) (w : World) (old : List ℕ) (seen : Link) → left ≡ count → IsLink seen w → IsMidway count left w old old seen
midway_first count left w old seen all s = record {
  now = w;
  done = [];
  fits = refl;
  text_is = sym (append-nil old);
  stands = s;
  lines = ap (λ (n : ℕ). (pumps n w).lines) (sym all);
  after = ap (λ (n : ℕ). (pumps n w).after) (sym all);
}

module _ (count left : ℕ) (w : World) (old text : List ℕ) (seen : Link) (m : IsMidway count left w old text seen) where
  -- One turn more.
  module _ (rest number : ℕ) (is : left ≡ suc rest) (waits : first_waiting m.now.sent ≡ Some number) where
    abbrev step : WorldStep
    step = delivers m.now number (packet_of number m.now.sent)

    turns : pumps left m.now ≡ behind step (pumps rest)
    turns = ap (λ (n : ℕ). pumps n m.now) is ∙ some_turn rest m.now number waits

    all_lines : (pumps count w).lines ≡ m.done ++ (step.lines ++ (pumps rest step.after).lines)
    all_lines = m.lines ∙ ap (λ (s : WorldStep). m.done ++ s.lines) turns

    pub midway_next : (more : List ℕ) (next : Link) → IsWhole step text more next → IsMidway count rest w old more next
    midway_next more next s = record {
      now = step.after;
      done = m.done ++ step.lines;
      fits = has_behind m.done step.lines m.fits ∙ s.fits;
      text_is = s.text ∙ ap (λ (t : List ℕ). t ++ text_of step.lines) m.text_is ∙ append_assoc old (text_of m.done) (text_of step.lines) ∙ ap (λ (t : List ℕ). old ++ t) (sym (text_append m.done step.lines));
      stands = s.stands;
      lines = all_lines ∙ sym (append_assoc m.done step.lines (pumps rest step.after).lines);
      after = m.after ∙ ap (λ (s : WorldStep). s.after) turns;
    }

    pub midway_full : (more : List ℕ) → IsCutOff step text more → IsCutOff (pumps count w) old more
    midway_full more s = record {
      full = ap has_full all_lines ∙ has_behind m.done (step.lines ++ (pumps rest step.after).lines) m.fits ∙ has_still step.lines (pumps rest step.after).lines s.full;
      text = s.text
          ∙ ap (λ (t : List ℕ). t ++ text_of (before_full step.lines)) m.text_is
          ∙ append_assoc old (text_of m.done) (text_of (before_full step.lines))
          ∙ ap (λ (t : List ℕ). old ++ t) (sym (text_append m.done (before_full step.lines)))
          ∙ ap (λ (l : List Line). old ++ text_of (m.done ++ l)) (sym (before_still step.lines (pumps rest step.after).lines s.full))
          ∙ ap (λ (l : List Line). old ++ text_of l) (sym (before_behind m.done (step.lines ++ (pumps rest step.after).lines) m.fits))
          ∙ ap (λ (l : List Line). old ++ text_of (before_full l)) (sym all_lines);
    }

    pub midway_fault : (fault : SendFault) (more : List ℕ) (next : Link) → IsStepped step (Err fault) text more next → IsStepped (pumps count w) (Err fault) old more next
    midway_fault LinkFull more next s = midway_full more s
    midway_fault OutOfMemory more next s = tt

  -- No turn is left, or no packet waits.
  rested : pumps left m.now ≡ rests m.now → IsWhole (pumps count w) old text seen
  rested is =
      let lines : (pumps count w).lines ≡ m.done = m.lines ∙ ap (λ (s : WorldStep). m.done ++ s.lines) is ∙ append-nil m.done in
      record {
        fits = ap has_full lines ∙ m.fits;
        text = m.text_is ∙ ap (λ (l : List Line). old ++ text_of l) (sym lines);
        stands = subst (IsLink seen) (sym (m.after ∙ ap (λ (s : WorldStep). s.after) is)) m.stands;
      }

  pub midway_last : left ≡ 0 → IsWhole (pumps count w) old text seen
  midway_last none = rested (ap (λ (n : ℕ). pumps n m.now) none ∙ no_turns m.now)

  pub midway_idle : first_waiting m.now.sent ≡ None → IsWhole (pumps count w) old text seen
  midway_idle none = rested (no_turn left m.now none)
