-- The lines of an event name a packet for which there is no room exactly when more packets follow it than a run may
-- send.
use Rattle.std.proofs.Common.{refl, ◌≡◌, ◌∙◌, ◌≤◌, ◌+◌, ◌++◌, ◌∷◌, [], ℕ, zero, suc, List, Bool, true, false, Option, Some, None, ap, sym, length, arith, map}
use Rattle.std.proofs.lemmas.Bool.{le-ltb, lt-ltb, ltb-true}
use Rattle.std.proofs.lemmas.List.{length-append, length-map}
use Rattle.std.specs.Prelude.{◌||◌, ◌==◌, nat_lt, if◌then◌else◌, find, slice_index}
use Rattle.link_world.proofs.Shown.{shown_plain}
use Rattle.link_world.proofs.Stopping.{same_length}
use Rattle.link_world.proofs.Texts.{has_behind}
use Rattle.link_world.specs.Written.{has_full, is_beyond}
use Rattle.requester_machine.specs.Message.{Command}
use Rattle.requester_machine.specs.Requesting.{PacketStep, Requesting, requester_given, requester_told}
use Rattle.responder_machine.specs.Responding.{RspStep, responder_hears}
use Rattle.spdm_basis.specs.declared.values.session_id.SessionId.{SessionId}
use Rattle.spdm_grammar.specs.Lines.{Line, Whose}
use Rattle.world_machine.specs.Happenings.{Entry, Happening}
use Rattle.world_machine.specs.Happenings.Happening.{Told, Reply, Deliver, Lose, Inject, Pump, Tick, Show}
use Rattle.world_machine.specs.Trace.{is_full, packets_max}
use Rattle.world_machine.specs.World.{World, WorldStep, SentPacket, behind, data_lines, delivers, entry_step, first_waiting, given, given_to, given_to_requester, given_to_responder, happens, id_in_event, is_at, loses, number_at, packet_lines, packet_of, pumps, record_lines, replied, requester_of, taken_lines, told, turn, waiting, with_sent, without_waiting}

-- More packets stand than a run may send.
abbrev beyond : List SentPacket → Bool
beyond sent = nat_lt packets_max (length sent)

-- That is so after a step where it was so before it, or where its lines name one of them; and nowhere else.
abbrev Joins : World → WorldStep → Type 0
Joins w step = (beyond w.sent || has_full step.lines) ≡ beyond step.after.sent

none_more : (b : Bool) → (b || false) ≡ b
none_more true = refl
none_more false = refl

-- ---- Packets sent one behind the other.

one_more : (n count : ℕ) (x : Bool) → (nat_lt packets_max (n + 1) || x) ≡ nat_lt packets_max ((n + 1) + count) → (b : Bool) → nat_lt packets_max n ≡ b
    → (nat_lt packets_max n || (nat_lt packets_max (n + 1) || x)) ≡ nat_lt packets_max (n + (count + 1))
one_more n count x rest b is =
    let e : (n + 1) + count ≡ n + (count + 1) = omega arith in
    ap (λ (y : Bool). nat_lt packets_max n || y) (rest ∙ ap (nat_lt packets_max) e) ∙ by b is
  where
    by : (c : Bool) → nat_lt packets_max n ≡ c → (nat_lt packets_max n || nat_lt packets_max (n + (count + 1))) ≡ nat_lt packets_max (n + (count + 1))
    by false under = ap (λ (y : Bool). y || nat_lt packets_max (n + (count + 1))) under
    by true over =
        let more : nat_lt packets_max (n + (count + 1)) ≡ true = lt-ltb packets_max (n + (count + 1)) (omega (arith, ltb-true packets_max n over)) in
        ap (λ (y : Bool). y || nat_lt packets_max (n + (count + 1))) over ∙ sym more

count_packets : (n : ℕ) (packets : List (List ℕ)) → (nat_lt packets_max n || has_full (packet_lines n packets)) ≡ nat_lt packets_max (n + length packets)
count_packets n [] =
    let e : n ≡ n + 0 = omega arith in
    none_more (nat_lt packets_max n) ∙ ap (nat_lt packets_max) e
count_packets n (p ∷ packets) =
    let e : n + (length packets + 1) ≡ n + length (p ∷ packets) = omega arith in
    one_more n (length packets) (has_full (packet_lines (n + 1) packets)) (count_packets (n + 1) packets) (nat_lt packets_max n) refl ∙ ap (nat_lt packets_max) e

-- Packets are sent after lines that name none.
sends : (sent : List SentPacket) (front : List Line) (packets : List (List ℕ)) → has_full front ≡ false
    → (beyond sent || has_full (front ++ packet_lines (length sent) packets)) ≡ beyond (with_sent sent packets)
sends sent front packets none =
    ap (λ (b : Bool). beyond sent || b) (has_behind front (packet_lines (length sent) packets) none)
    ∙ count_packets (length sent) packets
    ∙ ap (nat_lt packets_max) (ap (λ (n : ℕ). length sent + n) (sym (length-map packets waiting)) ∙ sym (length-append sent (map waiting packets)))

-- ---- What the ends do.

either : (w : World) (b : Bool) (x y : WorldStep) → Joins w x → Joins w y → Joins w (if b then x else y)
either w true x y p q = p
either w false x y p q = q

told_joins : (w : World) (n : ℕ) (command : Command) (a : Option Requesting) → Joins w (told w n command a)
told_joins w n command None = none_more (beyond w.sent)
told_joins w n command (Some a) = sends w.sent (Line.Command n (requester_told a command).fault ∷ []) (requester_told a command).sent refl

requester_plain : (n : ℕ) (id : SessionId) (taken measured : Option (List ℕ)) → has_full (data_lines (Whose.Requester n) id taken ++ record_lines n measured) ≡ false
requester_plain n id None None = refl
requester_plain n id None (Some bytes) = refl
requester_plain n id (Some bytes) None = refl
requester_plain n id (Some bytes) (Some more) = refl

requester_joins : (w : World) (n : ℕ) (step : PacketStep) → Joins w (given_to_requester w n step)
requester_joins w n step =
    sends w.sent (Line.ToRequester n step.event ∷ (data_lines (Whose.Requester n) (id_in_event step.event) step.taken ++ record_lines n step.measured)) step.sent
    (requester_plain n (id_in_event step.event) step.taken step.measured)

responder_plain : (n : ℕ) (taken : Option (SessionId × List ℕ)) → has_full (taken_lines n taken) ≡ false
responder_plain n None = refl
responder_plain n (Some taken) = refl

responder_joins : (w : World) (packet : List ℕ) (step : RspStep) → Joins w (given_to_responder w packet step)
responder_joins w packet step =
    sends w.sent (Line.ToResponder step.heard ∷ taken_lines (number_at (slice_index packet 2) w) step.taken) step.sent (responder_plain (number_at (slice_index packet 2) w) step.taken)

given_to_joins : (w : World) (packet : List ℕ) (a : Option Requesting) → Joins w (given_to w packet a)
given_to_joins w packet None = none_more (beyond w.sent)
given_to_joins w packet (Some a) = requester_joins w (number_at a.setup.eid w) (requester_given a packet)

given_joins : (w : World) (packet : List ℕ) → Joins w (given w packet)
given_joins w packet =
    either w (nat_lt (length packet) 2) _ _ (given_to_joins w packet None)
    (either w (slice_index packet 1 == w.responder.part.eid) _ _ (responder_joins w packet (responder_hears w.responder packet))
    (given_to_joins w packet (find (is_at (slice_index packet 1)) w.requesters)))

-- A packet that waits no longer is still counted.
still_sent : (w : World) (number : ℕ) → beyond (without_waiting number w).sent ≡ beyond w.sent
still_sent w number = ap (nat_lt packets_max) (same_length number w.sent)

delivers_joins : (w : World) (number : ℕ) (packet : Option (List ℕ)) → Joins w (delivers w number packet)
delivers_joins w number None = none_more (beyond w.sent)
delivers_joins w number (Some packet) =
    ap (λ (b : Bool). b || has_full (given (without_waiting number w) packet).lines) (sym (still_sent w number)) ∙ given_joins (without_waiting number w) packet

loses_joins : (w : World) (number : ℕ) (packet : Option (List ℕ)) → Joins w (loses w number packet)
loses_joins w number None = none_more (beyond w.sent)
loses_joins w number (Some packet) = none_more (beyond w.sent) ∙ sym (still_sent w number)

-- ---- Turns one behind the other.

has_both : (xs ys : List Line) → has_full (xs ++ ys) ≡ (has_full xs || has_full ys)
has_both [] ys = refl
has_both (x ∷ xs) ys = ap (λ (b : Bool). is_beyond x || b) (has_both xs ys) ∙ or_assoc (is_beyond x) (has_full xs) (has_full ys)
  where
    or_assoc : (a b c : Bool) → (a || (b || c)) ≡ ((a || b) || c)
    or_assoc true b c = refl
    or_assoc false b c = refl

behind_joins : (w : World) (first : WorldStep) (next : World → WorldStep) → Joins w first → Joins first.after (next first.after) → Joins w (behind first next)
behind_joins w first next p q =
    ap (λ (b : Bool). beyond w.sent || b) (has_both first.lines (next first.after).lines)
    ∙ or_assoc (beyond w.sent) (has_full first.lines) (has_full (next first.after).lines)
    ∙ ap (λ (b : Bool). b || has_full (next first.after).lines) p
    ∙ q
  where
    or_assoc : (a b c : Bool) → (a || (b || c)) ≡ ((a || b) || c)
    or_assoc true b c = refl
    or_assoc false b c = refl

turn_joins : (w : World) (next : World → WorldStep) (number : Option ℕ) → ((later : World) → Joins later (next later)) → Joins w (turn w next number)
turn_joins w next None all = none_more (beyond w.sent)
turn_joins w next (Some number) all =
    behind_joins w (delivers w number (packet_of number w.sent)) next (delivers_joins w number (packet_of number w.sent)) (all (delivers w number (packet_of number w.sent)).after)

pumps_joins : (count : ℕ) (w : World) → Joins w (pumps count w)
unfolding pumps
pumps_joins zero w = none_more (beyond w.sent)
pumps_joins (suc count) w = turn_joins w (pumps count) (first_waiting w.sent) (pumps_joins count)

-- ---- An event.

replied_joins : (w : World) (bytes : List ℕ) (a : Option Requesting) → Joins w (replied w bytes a)
replied_joins w bytes None = none_more (beyond w.sent)
replied_joins w bytes (Some a) = none_more (beyond w.sent)

happens_joins : (w : World) (what : Happening) → Joins w (happens w what)
unfolding happens
happens_joins w (Told n command) = told_joins w n command (requester_of n w)
happens_joins w (Reply n bytes) = replied_joins w bytes (requester_of n w)
happens_joins w (Deliver number) = delivers_joins w number (packet_of number w.sent)
happens_joins w (Lose number) = loses_joins w number (packet_of number w.sent)
happens_joins w (Inject bytes) = given_joins w bytes
happens_joins w (Pump count) = pumps_joins count w
happens_joins w (Tick seconds) = none_more (beyond w.sent)
happens_joins w Show = ap (λ (b : Bool). beyond w.sent || b) (shown_plain w) ∙ none_more (beyond w.sent)

-- Where no more packets stand than a run may send, an event is full exactly when its lines name one more.
pub full_is : (w : World) (entry : Entry) → length w.sent ≤ packets_max → has_full (entry_step w entry).lines ≡ is_full w entry
full_is w entry within =
    ap (λ (b : Bool). b || has_full (happens w entry.happening).lines) (sym (le-ltb packets_max (length w.sent) within)) ∙ happens_joins w entry.happening
