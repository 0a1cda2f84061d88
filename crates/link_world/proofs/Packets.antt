-- Packets that are sent one after the other.
use Rattle.std.proofs.Common.{refl, ◌≡◌, ◌∙◌, ◌≤◌, ◌+◌, ◌++◌, ◌∷◌, [], ℕ, zero, suc, List, Some, drop, Bool, cond, ap, sym, subst, length, arith, append_assoc, map}
use Rattle.std.proofs.lemmas.List.{append-nil, length-append}
use Rattle.std.specs.Prelude.{◌||◌}
use Rattle.std.proofs.lemmas.Option.{none-some, same_Some}
use Rattle.std.specs.List.{slice_get}
use Rattle.std.specs.Prelude.{Err}
use Rattle.link_world.specs.Sending.{AreAllSent, AreTooMany, IsSent}
use Rattle.link_world.specs.Sent.{IsCause}
use Rattle.link_world.specs.declared.sent.SendFault.{SendFault}
use Rattle.link_world.specs.declared.sent.SendFault.TheVariants.{LinkFull, OutOfMemory}
use Rattle.link_world.specs.Written.{before_full, has_full, text_of}
use Rattle.link_world.proofs.Texts.{first_fits, first_is_beyond}
use Rattle.trace_text.specs.TraceLines.{line_text}
use Rattle.spdm_grammar.specs.Lines.Line.{Packet}
use Rattle.world_machine.specs.Trace.{packets_max}
use Rattle.world_machine.specs.World.{SentPacket, packet_lines, waiting, with_sent}

-- Some were sent, and others are left.
pub record IsUnderWay (sent : List SentPacket) (packets : List (List ℕ)) (old : List ℕ) (now : List SentPacket) (left : List (List ℕ)) (text : List ℕ) : Type 0 where
  pub lines : text ++ text_of (packet_lines (length now) left) ≡ old ++ text_of (packet_lines (length sent) packets)
  pub before : text ++ text_of (before_full (packet_lines (length now) left)) ≡ old ++ text_of (before_full (packet_lines (length sent) packets))
  pub full : has_full (packet_lines (length now) left) ≡ has_full (packet_lines (length sent) packets)
  pub all : with_sent now left ≡ with_sent sent packets
  pub within : length now ≤ packets_max

pub next_packet : (i : ℕ) (packets : List (List ℕ)) (p : List ℕ) → slice_get packets i ≡ Some p → drop i packets ≡ p ∷ drop (i + 1) packets
next_packet i [] p is = absurd (none-some p is)
next_packet zero (q ∷ packets) p is = ap (λ (r : List ℕ). r ∷ packets) (same_Some q p is)
next_packet (suc i) (q ∷ packets) p is =
    let e : suc i + 1 ≡ suc (i + 1) = omega arith in
    next_packet i packets p is ∙ ap (λ (n : ℕ). p ∷ drop n (q ∷ packets)) (sym e)

pub begins : (sent : List SentPacket) (packets : List (List ℕ)) (old : List ℕ) → length sent ≤ packets_max → IsUnderWay sent packets old sent packets old
begins sent packets old within = record { lines = refl; before = refl; full = refl; all = refl; within = within }

one_more : (now : List SentPacket) (p : List ℕ) → length (now ++ waiting p ∷ []) ≡ length now + 1
one_more now p = length-append now (waiting p ∷ [])

module _ (sent : List SentPacket) (packets : List (List ℕ)) (old : List ℕ) (now : List SentPacket) (p : List ℕ) (left : List (List ℕ)) (text : List ℕ) (w : IsUnderWay sent packets old now (p ∷ left) text) where
  -- One more was sent.
  pub goes_on : (next : List SentPacket) (more : List ℕ) → next ≡ now ++ waiting p ∷ [] → length now + 1 ≤ packets_max → more ≡ text ++ line_text (Packet (length next) p)
      → IsUnderWay sent packets old next left more
  goes_on next more is room added =
      let count : length next ≡ length now + 1 = ap length is ∙ one_more now p in
      let fits = first_fits (length now) room in
      let line : List ℕ = line_text (Packet (length now + 1) p) in
      let text_is : more ≡ text ++ line = added ∙ ap (λ (n : ℕ). text ++ line_text (Packet n p)) count in
      record {
        lines = ap (λ (n : ℕ). more ++ text_of (packet_lines n left)) count
            ∙ ap (λ (t : List ℕ). t ++ text_of (packet_lines (length now + 1) left)) text_is
            ∙ append_assoc text line (text_of (packet_lines (length now + 1) left))
            ∙ w.lines;
        before = ap (λ (n : ℕ). more ++ text_of (before_full (packet_lines n left))) count
            ∙ ap (λ (t : List ℕ). t ++ text_of (before_full (packet_lines (length now + 1) left))) text_is
            ∙ append_assoc text line (text_of (before_full (packet_lines (length now + 1) left)))
            ∙ ap (λ (b : Bool). text ++ text_of (cond b [] (Packet (length now + 1) p ∷ before_full (packet_lines (length now + 1) left)))) (sym fits)
            ∙ w.before;
        full = ap (λ (n : ℕ). has_full (packet_lines n left)) count
            ∙ ap (λ (b : Bool). b || has_full (packet_lines (length now + 1) left)) (sym fits)
            ∙ w.full;
        all = ap (λ (s : List SentPacket). s ++ map waiting left) is ∙ append_assoc now (waiting p ∷ []) (map waiting left) ∙ w.all;
        within = subst (λ (n : ℕ). n ≤ packets_max) (sym count) room;
      }

  -- There is no room for one more.
  pub too_many : packets_max ≤ length now → AreTooMany sent packets old text
  too_many full =
      let beyond = first_is_beyond (length now) p full in
      record {
        full = sym w.full ∙ ap (λ (b : Bool). b || has_full (packet_lines (length now + 1) left)) beyond;
        text = sym (append-nil text) ∙ ap (λ (b : Bool). text ++ text_of (cond b [] (Packet (length now + 1) p ∷ before_full (packet_lines (length now + 1) left)))) (sym beyond) ∙ w.before;
      }

  -- One more was not sent.
  pub not_sent : (after : List SentPacket) (fault : SendFault) → IsCause now fault → IsSent sent packets old after text (Err fault)
  not_sent after LinkFull full = too_many (omega (arith, full))
  not_sent after OutOfMemory cause = tt

pub all_sent : (sent : List SentPacket) (packets : List (List ℕ)) (old : List ℕ) (now : List SentPacket) (text : List ℕ) → IsUnderWay sent packets old now [] text → AreAllSent sent packets old now text
all_sent sent packets old now text w = record {
  fits = sym w.full;
  text = sym (append-nil text) ∙ w.lines;
  all = sym (append-nil now) ∙ w.all;
  within = w.within;
}
