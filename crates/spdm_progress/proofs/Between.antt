-- Whatever an honest script says between two commands: what is in progress goes on or is done.
use Rattle.std.proofs.Common.{◌≡◌, ◌⊎◌, ◌∙◌, ℕ, zero, suc, List, [], ◌∷◌, ◌++◌, false, Option, Some, None, refl, sym, ap, subst, inl, inr}
use Rattle.std.proofs.lemmas.Bool.{false≢true}
use Rattle.spdm_grammar.specs.Lines.{Line}
use Rattle.spdm_machine.proofs.Members.{IsIn, none_some}
use Rattle.requester_machine.specs.Requesting.{Requesting}
use Rattle.responder_machine.specs.Responding.{Responding, connection_of, queues, reply_fault_of, ticks}
use Rattle.world_machine.specs.Happenings.{Happening, Entry}
use Rattle.world_machine.specs.Happenings.Happening.{Told, Reply, Deliver, Lose, Inject, Pump, Tick, Show}
use Rattle.world_machine.specs.Trace.{world_from, lines_from}
use Rattle.world_machine.specs.World.{World, WorldStep, first_waiting, packet_of, delivers, turn, pumps, rests, behind, requester_of, replied, happens, entry_step}
use Rattle.spdm_progress.specs.Honest.{EndsNone, IsHonest, AreHonest, is_command, HaveNoCommand}

-- What is in progress goes on in the world after a step; or it is done there, and its line was written.
pub data Goes (Going Done : World → Type 0) (line : Line) (s : WorldStep) : Type 0 where
  GoesOn : Going s.after → Goes Going Done line s
  Ends : Done s.after → IsIn s.lines line → Goes Going Done line s

-- A packet waits, and once it is given all goes on or is done.
pub record IsGiven (Going Done : World → Type 0) (line : Line) (world : World) : Type 0 where
  pub place : ℕ
  pub first : first_waiting world.sent ≡ Some (suc place)
  pub goes : Goes Going Done line (delivers world (suc place) (packet_of (suc place) world.sent))

in_left : (xs ys : List Line) (x : Line) → IsIn xs x → IsIn (xs ++ ys) x
in_left [] ys x m = absurd m
in_left (y ∷ xs) ys x m = elim m [ inl e ↦ inl e | inr k ↦ inr (in_left xs ys x k) ]

pub in_right : {A : Type 0} (xs ys : List A) (x : A) → IsIn ys x → IsIn (xs ++ ys) x
in_right [] ys x m = m
in_right (y ∷ xs) ys x m = inr (in_right xs ys x m)

-- Where no packet waits a pump does nothing.
pumps_idle : (count : ℕ) (world : World) → first_waiting world.sent ≡ None → pumps count world ≡ rests world
unfolding pumps
pumps_idle zero world idle = refl
pumps_idle (suc count) world idle = ap (turn world (pumps count)) idle

-- What stands is left so by pumps where no packet waits.
pub pumps_done : (Done : World → Type 0) → ((world : World) → Done world → first_waiting world.sent ≡ None) → (count : ℕ) (world : World) → Done world → Done (pumps count world).after
pumps_done Done idle count world d = subst (λ (s : WorldStep). Done s.after) (sym (pumps_idle count world (idle world d))) d

-- What an honest script makes of a responder between two commands: data is queued for an endpoint, or seconds pass that
-- end no session.
abbrev pub IsStill : World → Responding → Type 0
IsStill world r =
    ((eid : ℕ) × (bytes : List ℕ) × (r ≡ queues (reply_fault_of (connection_of eid world.responder.connections) bytes) world.responder eid bytes))
    ⊎ ((seconds : ℕ) × EndsNone world seconds × (r ≡ ticks world.responder seconds))

-- What is sound of a world is sound of each world before it.
abbrev pub IsOfEarlier : (World → Type 0) → Type 0
IsOfEarlier Sound = (world : World) (event : Happening) → Sound (happens world event).after → Sound world

module _ (Going Done Sound : World → Type 0) (line : Line) (earlier : IsOfEarlier Sound) (given : (world : World) → Sound world → Going world → IsGiven Going Done line world) (idle : (world : World) → Done world → first_waiting world.sent ≡ None)
    (going_kept : (world : World) (r : Responding) → IsStill world r → Going world → Going (record world { responder = r }))
    (done_kept : (world : World) (r : Responding) → IsStill world r → Done world → Done (record world { responder = r })) where
  -- ---- Pumps.

  -- What comes after a step.
  goes_behind : (first : WorldStep) (second : World → WorldStep) → Goes Going Done line first → ((world : World) → Going world → Sound (second world).after → Goes Going Done line (second world)) → ((world : World) → Done world → Done (second world).after)
      → Sound (second first.after).after → Goes Going Done line (behind first second)
  goes_behind first second (GoesOn u) on stays sound = later (on first.after u sound)
    where
      later : Goes Going Done line (second first.after) → Goes Going Done line (behind first second)
      later (GoesOn v) = GoesOn v
      later (Ends d m) = Ends d (in_right first.lines (second first.after).lines line m)
  goes_behind first second (Ends d m) on stays sound = Ends (stays first.after d) (in_left first.lines (second first.after).lines line m)

  before_pumps : (count : ℕ) (world : World) → Sound (pumps count world).after → Sound world
  unfolding happens
  before_pumps count world sound = earlier world (Pump count) sound

  abbrev GoesSo : World → (World → WorldStep) → Option ℕ → Type 0
  GoesSo world next o = Sound (turn world next o).after → Goes Going Done line (turn world next o)

  pumps_go : (count : ℕ) (world : World) → Going world → Sound (pumps count world).after → Goes Going Done line (pumps count world)
  unfolding pumps
  pumps_go zero world u sound = GoesOn u
  pumps_go (suc count) world u sound =
      let w = given world (before_pumps (suc count) world sound) u in
      subst (GoesSo world (pumps count)) (sym w.first)
      (λ last. goes_behind (delivers world (suc w.place) (packet_of (suc w.place) world.sent)) (pumps count) w.goes (λ later v. pumps_go count later v) (pumps_done Done idle count) last) sound

  -- ---- One event.

  replied_goes : (world : World) (bytes : List ℕ) (o : Option Requesting) → Going world → Going (replied world bytes o).after
  replied_goes world bytes None u = u
  replied_goes world bytes (Some b) u = going_kept world _ (inl (b.setup.eid, bytes, refl)) u

  replied_done : (world : World) (bytes : List ℕ) (o : Option Requesting) → Done world → Done (replied world bytes o).after
  replied_done world bytes None d = d
  replied_done world bytes (Some b) d = done_kept world _ (inl (b.setup.eid, bytes, refl)) d

  event_goes : (world : World) (event : Happening) → is_command event ≡ false → IsHonest world event → Going world → Sound (happens world event).after → Goes Going Done line (happens world event)
  unfolding happens
  event_goes world (Told n command) other honest u sound = absurd (false≢true (sym other))
  event_goes world (Reply n bytes) other honest u sound = GoesOn (replied_goes world bytes (requester_of n world) u)
  event_goes world (Deliver number) other honest u sound = absurd honest
  event_goes world (Lose number) other honest u sound = absurd honest
  event_goes world (Inject bytes) other honest u sound = absurd honest
  event_goes world (Pump count) other honest u sound = pumps_go count world u sound
  event_goes world (Tick seconds) other honest u sound = GoesOn (going_kept world (ticks world.responder seconds) (inr (seconds, honest, refl)) u)
  event_goes world Show other honest u sound = GoesOn u

  event_done : (world : World) (event : Happening) → is_command event ≡ false → IsHonest world event → Done world → Done (happens world event).after
  unfolding happens
  event_done world (Told n command) other honest d = absurd (false≢true (sym other))
  event_done world (Reply n bytes) other honest d = replied_done world bytes (requester_of n world) d
  event_done world (Deliver number) other honest d = absurd honest
  event_done world (Lose number) other honest d = absurd honest
  event_done world (Inject bytes) other honest d = absurd honest
  event_done world (Pump count) other honest d = pumps_done Done idle count world d
  event_done world (Tick seconds) other honest d = done_kept world (ticks world.responder seconds) (inr (seconds, honest, refl)) d
  event_done world Show other honest d = d

  -- ---- All events.

  -- Events as one step.
  abbrev pub all_of : World → List Entry → WorldStep
  all_of world entries = record { lines = lines_from world entries; after = world_from world entries }

  all_done : (world : World) (entries : List Entry) → HaveNoCommand entries → AreHonest world entries → Done world → Done (world_from world entries)
  all_done world [] none honest d = d
  all_done world (entry ∷ entries) none honest d = all_done (entry_step world entry).after entries none.1 honest.1 (event_done world entry.happening none.0 honest.0 d)

  all_behind : (world : World) (entry : Entry) (entries : List Entry) → Goes Going Done line (happens world entry.happening) → (Going (entry_step world entry).after → Goes Going Done line (all_of (entry_step world entry).after entries))
      → (Done (entry_step world entry).after → Done (world_from world (entry ∷ entries))) → Goes Going Done line (all_of world (entry ∷ entries))
  all_behind world entry entries (GoesOn u) on stays = later (on u)
    where
      later : Goes Going Done line (all_of (entry_step world entry).after entries) → Goes Going Done line (all_of world (entry ∷ entries))
      later (GoesOn v) = GoesOn v
      later (Ends d m) = Ends d (inr (in_right (happens world entry.happening).lines (lines_from (entry_step world entry).after entries) line m))
  all_behind world entry entries (Ends d m) on stays = Ends (stays d) (inr (in_left (happens world entry.happening).lines (lines_from (entry_step world entry).after entries) line m))

  before_all : (world : World) (entries : List Entry) → Sound (world_from world entries) → Sound world
  before_all world [] sound = sound
  before_all world (entry ∷ entries) sound = earlier world entry.happening (before_all (entry_step world entry).after entries sound)

  pub all_go : (world : World) (entries : List Entry) → HaveNoCommand entries → AreHonest world entries → Sound (world_from world entries) → Going world → Goes Going Done line (all_of world entries)
  all_go world [] none honest sound u = GoesOn u
  all_go world (entry ∷ entries) none honest sound u =
      all_behind world entry entries (event_goes world entry.happening none.0 honest.0 u (before_all (entry_step world entry).after entries sound)) (λ v. all_go (entry_step world entry).after entries none.1 honest.1 sound v) (λ d. all_done (entry_step world entry).after entries none.1 honest.1 d)

  -- It is done where no packet waits any more.
  pub record HasEnded (s : WorldStep) : Type 0 where
    pub done : Done s.after
    pub line_is : IsIn s.lines line

  over : (s : WorldStep) → first_waiting s.after.sent ≡ None → Sound s.after → Goes Going Done line s → HasEnded s
  over s none sound (GoesOn u) = absurd (none_some (suc (given s.after sound u).place) (sym none ∙ (given s.after sound u).first))
  over s none sound (Ends d m) = record { done = d; line_is = m }

  pub ended : (world : World) (entries : List Entry) → HaveNoCommand entries → AreHonest world entries → Sound (world_from world entries) → Going world → first_waiting (world_from world entries).sent ≡ None → HasEnded (all_of world entries)
  ended world entries none honest sound u still = over (all_of world entries) still sound (all_go world entries none honest sound u)
