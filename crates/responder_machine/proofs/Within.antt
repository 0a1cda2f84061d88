-- The counts of a history are at most its messages.
use Rattle.std.proofs.Common.{◌≤◌, ◌<◌, ℕ, ◌+◌, List, [], ◌∷◌, ◌++◌, length, drop, true, false, Bool, arith, length-append}
use Rattle.std.specs.List.{AllByRecursion}
use Rattle.std.specs.Prelude.{if◌then◌else◌, ◌==◌, ◌*◌, ◌||◌, not, nat_le, is_some}
use Rattle.spdm_grammar.specs.declared.names.request_code.TheConstants.{GET_VERSION, PSK_EXCHANGE, END_SESSION}
use Rattle.responder_machine.specs.BoundLaws.{messages_of, IsSessionWithin, ConnectionIsBounded, SessionIsBounded, QueueIsBounded}
use Rattle.responder_machine.specs.History.{clear_turns, negotiation_of, queue_of, draws_of, all_taken}
use Rattle.responder_machine.specs.History.Entry.{Clear, Sealed, Queued, Ticked, Dropped}
use Rattle.responder_machine.specs.LargeMessages.{larges_of}
use Rattle.responder_machine.specs.Session.{Events, session_of, turns_of, request_epoch, response_epoch, taken_of, stage_of, is_timed, period_of, idle_of, after_clear, after_record, after_tick, id_in_record, gives_id}
use Rattle.responder_machine.specs.Session.Event.{Began, Heard, Waited}
use Rattle.responder_machine.specs.Turn.{Turn, takes, updates, takes_draw, is_data, handle_in, request_in, answer_in}
use Rattle.spdm_machine.specs.Sessions.{is_past_handshake}
use Rattle.transcript.specs.Transcripts.{Negotiation}

-- One more at most, by a test.
one_more : (b : Bool) (n most : ℕ) → n ≤ most → (if b then n + 1 else n) ≤ most + 1
one_more true n most h = omega arith
one_more false n most h = omega arith

-- ---- The connection.

pub connection_within : ConnectionIsBounded
connection_within [] = record { draws = omega arith; taken = omega arith; larges = omega arith }
connection_within (Clear tag t d ∷ older) =
    let before = connection_within older in
    record {
      draws = one_more (takes_draw t) (draws_of older) (messages_of older) before.draws;
      taken = omega (arith, before.taken);
      larges = one_more (is_some (handle_in t.effect)) (larges_of (clear_turns older)) (messages_of older) before.larges;
    }
connection_within (Sealed tag m t reply d ∷ older) =
    let before = connection_within older in
    record {
      draws = one_more (takes_draw t) (draws_of older) (messages_of older) before.draws;
      taken = one_more (is_data t.effect) (all_taken older) (messages_of older) before.taken;
      larges = omega (arith, before.larges);
    }
connection_within (Queued bytes ∷ older) = let before = connection_within older in record { draws = before.draws; taken = before.taken; larges = before.larges }
connection_within (Ticked seconds ∷ older) = let before = connection_within older in record { draws = before.draws; taken = before.taken; larges = before.larges }
connection_within (Dropped which ∷ older) = let before = connection_within older in record { draws = before.draws; taken = before.taken; larges = before.larges }

-- ---- Its sessions.

none_within : (most : ℕ) → IsSessionWithin [] most
none_within most = record { records = omega arith; request_updates = omega arith; response_updates = omega arith; taken = omega arith; larges = omega arith }

begun_within : (n : Negotiation) (exchange answer : List ℕ) (most : ℕ) → IsSessionWithin (Began n exchange answer ∷ []) most
begun_within n exchange answer most = record { records = omega arith; request_updates = omega arith; response_updates = omega arith; taken = omega arith; larges = omega arith }

waited_within : (seconds : ℕ) (s : Events) (most : ℕ) → IsSessionWithin s most → IsSessionWithin (Waited seconds ∷ s) most
waited_within seconds s most w = record { records = w.records; request_updates = w.request_updates; response_updates = w.response_updates; taken = w.taken; larges = w.larges }

more_within : (s : Events) (most : ℕ) → IsSessionWithin s most → IsSessionWithin s (most + 1)
more_within s most w = record {
  records = omega (arith, w.records);
  request_updates = omega (arith, w.request_updates);
  response_updates = omega (arith, w.response_updates);
  taken = omega (arith, w.taken);
  larges = omega (arith, w.larges);
}

heard_within : (m : List ℕ) (t : Turn) (reply : List ℕ) (s : Events) (most : ℕ) → IsSessionWithin s most → IsSessionWithin (Heard m t reply ∷ s) (most + 1)
heard_within m t reply s most w = record {
  records = omega (arith, w.records);
  request_updates = one_more (updates 1 t || updates 2 t) (request_epoch s) most w.request_updates;
  response_updates = one_more (updates 2 t) (response_epoch s) most w.response_updates;
  taken = one_more (is_data t.effect) (taken_of s) most w.taken;
  larges = one_more (is_some (handle_in t.effect)) (larges_of (turns_of s)) most w.larges;
}

either-within : (b : Bool) (s n : Events) (most : ℕ) → IsSessionWithin s most → IsSessionWithin n most → IsSessionWithin (if b then s else n) most
either-within true s n most x y = x
either-within false s n most x y = y

record_within : (s : Events) (m : List ℕ) (t : Turn) (reply : List ℕ) (most : ℕ) → IsSessionWithin s most → IsSessionWithin (after_record s m t reply) (most + 1)
record_within [] m t reply most w = either-within (takes END_SESSION t) [] [] (most + 1) (none_within (most + 1)) (none_within (most + 1))
record_within (v ∷ s) m t reply most w =
    either-within (takes END_SESSION t) [] (Heard m t reply ∷ v ∷ s) (most + 1) (none_within (most + 1)) (heard_within m t reply (v ∷ s) most w)

clear_within : (id : ℕ) (s : Events) (t : Turn) (n : Negotiation) (most : ℕ) → IsSessionWithin s most → IsSessionWithin (after_clear id s t n) most
clear_within id s t n most w =
    either-within (takes GET_VERSION t) [] _ most (none_within most)
    (either-within (takes PSK_EXCHANGE t) _ s most
    (either-within (gives_id id (answer_in t.effect)) (Began n (request_in t.effect) (answer_in t.effect) ∷ []) _ most (begun_within n (request_in t.effect) (answer_in t.effect) most)
    (either-within (is_past_handshake (stage_of s)) s [] most w (none_within most)))
    w)

tick_within : (s : Events) (seconds : ℕ) (most : ℕ) → IsSessionWithin s most → IsSessionWithin (after_tick s seconds) most
tick_within s seconds most w =
    either-within (not (is_timed s)) s _ most w
    (either-within (nat_le (2 * period_of s) (idle_of s + seconds)) [] (Waited seconds ∷ s) most (none_within most) (waited_within seconds s most w))

pub session_within : SessionIsBounded
unfolding session_of
session_within [] id = none_within 0
session_within (Clear tag t d ∷ older) id =
    more_within _ (messages_of older) (clear_within id (session_of id older) t (negotiation_of (clear_turns older)) (messages_of older) (session_within older id))
session_within (Sealed tag m t reply d ∷ older) id =
    either-within (id_in_record m == id) (after_record (session_of id older) m t reply) (session_of id older) (messages_of older + 1)
    (record_within (session_of id older) m t reply (messages_of older) (session_within older id)) (more_within (session_of id older) (messages_of older) (session_within older id))
session_within (Queued bytes ∷ older) id = session_within older id
session_within (Ticked seconds ∷ older) id = tick_within (session_of id older) seconds (messages_of older) (session_within older id)
session_within (Dropped which ∷ older) id = either-within (which == id) [] (session_of id older) (messages_of older) (none_within (messages_of older)) (session_within older id)

-- ---- The queue.

abbrev IsShortQueue : List (List ℕ) → Type 0
IsShortQueue xs = (length xs ≤ 16) × AllByRecursion (λ bytes. length bytes ≤ 1024) xs

all-append : (xs : List (List ℕ)) (x : List ℕ) → AllByRecursion (λ bytes. length bytes ≤ 1024) xs → length x ≤ 1024 → AllByRecursion (λ bytes. length bytes ≤ 1024) (xs ++ x ∷ [])
all-append [] x a b = (b, tt)
all-append (y ∷ xs) x a b = (a.0, all-append xs x a.1 b)

one_longer : (xs : List (List ℕ)) (x : List ℕ) → length xs < 16 → length (xs ++ x ∷ []) ≤ 16
one_longer xs x h = rw (length-append xs (x ∷ [])) (omega arith)

short-drop : (xs : List (List ℕ)) → IsShortQueue xs → IsShortQueue (drop 1 xs)
short-drop [] a = a
short-drop (x ∷ xs) a = (omega (arith, a.0), a.1.1)

short-either : (b : Bool) (xs : List (List ℕ)) → IsShortQueue xs → IsShortQueue (if b then drop 1 xs else xs)
short-either true xs a = short-drop xs a
short-either false xs a = a

pub queue_within : QueueIsBounded
queue_within r [] made = (omega arith, tt)
queue_within r (Clear tag t d ∷ older) made = queue_within r older made.1
queue_within r (Sealed tag m t reply d ∷ older) made = short-either (is_data t.effect) (queue_of older) (queue_within r older made.1)
queue_within r (Queued bytes ∷ older) made = (one_longer (queue_of older) bytes made.1, all-append (queue_of older) bytes (queue_within r older made.2).1 made.0)
queue_within r (Ticked seconds ∷ older) made = queue_within r older made
queue_within r (Dropped which ∷ older) made = absurd made
