-- Every command of an honest script that is answered `ok`, and has what it needs, comes to its result.
use Rattle.std.proofs.Common.{◌≡◌, ◌⊎◌, ◌≤◌, ◌+◌, ◌*◌, ℕ, List, [], ◌∷◌, ◌++◌, length, Bool, true, false, if◌then◌else◌, refl, sym, ap, subst, inl, inr, arith}
use Rattle.std.proofs.lemmas.Bool.{false≢true}
use Rattle.requester_machine.specs.Message.{Command}
use Rattle.spdm_agreement.specs.Configured.{IsConfigured}
use Rattle.spdm_machine.specs.Packets.{wear_limit}
use Rattle.world_machine.specs.Chance.{NoChance}
use Rattle.world_machine.specs.Happenings.{Entry, Happening}
use Rattle.world_machine.specs.Happenings.Happening.{Told, Reply, Deliver, Lose, Inject, Pump, Tick, Show}
use Rattle.world_machine.specs.Setup.{WorldSetup}
use Rattle.world_machine.specs.Trace.{world_after, world_from}
use Rattle.world_machine.specs.World.{World, entry_step, new_world}
use Rattle.spdm_progress.specs.Honest.{AreHonest, HaveNoCommand, IsHonest, NothingWaits, is_command}
use Rattle.spdm_progress.specs.Scripts.{CanBeDone, HonestScriptsComplete, IsQuietWorld, OfEachCommand, QuietWorldsComplete, WillBeDone, up_to_command}
use Rattle.spdm_progress.specs.SessionCommands.{most_asked}
use Rattle.spdm_progress.proofs.QuietWorlds.{IsReady, behind_ready, from_both}
use Rattle.spdm_progress.proofs.SessionCompletes.{no_chance_from}
use Rattle.spdm_progress.proofs.Paragraphs.{Paragraph, alone_ready, never_ok, paragraph_done, paragraph_ready, starts_ready}

-- ---- The entries up to the next command.

abbrev next_part : Bool → Entry → List Entry → List Entry
next_part b entry entries = if b then [] else entry ∷ up_to_command entries

none_by : (entry : Entry) (entries : List Entry) (b : Bool) → is_command entry.happening ≡ b → HaveNoCommand (up_to_command entries) → HaveNoCommand (next_part b entry entries)
none_by entry entries true is none = tt
none_by entry entries false is none = (is, none)

none_yet : (entries : List Entry) → HaveNoCommand (up_to_command entries)
none_yet [] = tt
none_yet (entry ∷ entries) = none_by entry entries (is_command entry.happening) refl (none_yet entries)

honest_by : (world : World) (entry : Entry) (entries : List Entry) (b : Bool) → IsHonest world entry.happening → AreHonest (entry_step world entry).after (up_to_command entries) → AreHonest world (next_part b entry entries)
honest_by world entry entries true one others = tt
honest_by world entry entries false one others = (one, others)

honest_yet : (world : World) (entries : List Entry) → AreHonest world entries → AreHonest world (up_to_command entries)
honest_yet world [] honest = tt
honest_yet world (entry ∷ entries) honest = honest_by world entry entries (is_command entry.happening) honest.0 (honest_yet (entry_step world entry).after entries honest.1)

-- A command comes where no packet waits.
waits_none : (world : World) (event : Happening) → is_command event ≡ true → IsHonest world event → NothingWaits world
waits_none world (Told n command) is honest = honest
waits_none world (Reply n bytes) is honest = absurd (false≢true is)
waits_none world (Deliver number) is honest = absurd honest
waits_none world (Lose number) is honest = absurd honest
waits_none world (Inject bytes) is honest = absurd honest
waits_none world (Pump count) is honest = absurd (false≢true is)
waits_none world (Tick seconds) is honest = absurd (false≢true is)
waits_none world Show is honest = absurd (false≢true is)

idle_by : (world : World) (entry : Entry) (entries : List Entry) (b : Bool) → is_command entry.happening ≡ b → IsHonest world entry.happening → NothingWaits (world_from (entry_step world entry).after (up_to_command entries)) → NothingWaits (world_from world (next_part b entry entries))
idle_by world entry entries true is honest next = waits_none world entry.happening is honest
idle_by world entry entries false is honest next = next

-- No packet waits at the next command, or at the end.
idle_next : (world : World) (entries : List Entry) → AreHonest world entries → NothingWaits (world_from world entries) → NothingWaits (world_from world (up_to_command entries))
idle_next world [] honest idle = idle
idle_next world (entry ∷ entries) honest idle = idle_by world entry entries (is_command entry.happening) refl honest.0 (idle_next (entry_step world entry).after entries honest.1 idle)

chance_by : (world : World) (entry : Entry) (entries : List Entry) (b : Bool) → NoChance world.log → NoChance (world_from (entry_step world entry).after (up_to_command entries)).log → NoChance (world_from world (next_part b entry entries)).log
chance_by world entry entries true now next = now
chance_by world entry entries false now next = next

chance_next : (world : World) (entries : List Entry) → NoChance (world_from world entries).log → NoChance (world_from world (up_to_command entries)).log
chance_next world [] chance = chance
chance_next world (entry ∷ entries) chance =
    chance_by world entry entries (is_command entry.happening) (no_chance_from world (entry ∷ entries) chance) (chance_next (entry_step world entry).after entries chance)

-- ---- Whole scripts.

module _ (w : WorldSetup) (configured : IsConfigured w) where
  abbrev Runs : World → List Entry → Type 0
  Runs world entries = OfEachCommand WillBeDone world entries × IsQuietWorld (world_from world entries)

  -- The next entry is no command.
  abbrev StartsPlainly : List Entry → Type 0
  StartsPlainly [] = ⊥
  StartsPlainly (entry ∷ entries) = is_command entry.happening ≡ false

  -- What is left of an honest script. A command that was answered has another entry after it, so it may have taken as
  -- much as two of them.
  record AreLeft (most : ℕ) (before entries : List Entry) : Type 0 where
    over : ℕ
    few : over ≤ 78
    owed : (over ≡ 0) ⊎ StartsPlainly entries
    room : most + 199 * length entries ≤ wear_limit + over
    honest : AreHonest (world_after w before) entries
    still : NothingWaits (world_from (world_after w before) entries)
    chance : NoChance (world_from (world_after w before) entries).log
    can : OfEachCommand CanBeDone (world_after w before) entries
    next : IsReady most (world_from (world_after w before) (up_to_command entries))

  -- A command stands in a world that is ready.
  ready_at : (most : ℕ) (before : List Entry) (line n : ℕ) (command : Command) (entries : List Entry) → AreLeft most before (record { line = line; happening = Told n command } ∷ entries) → IsReady most (world_after w before)
  ready_at most before line n command entries l = l.next

  abbrev and_one : List Entry → Entry → List Entry
  and_one before entry = before ++ entry ∷ []

  abbrev later : List Entry → Entry → World
  later before entry = (entry_step (world_after w before) entry).after

  one_later : (before : List Entry) (entry : Entry) → world_after w (and_one before entry) ≡ later before entry
  one_later before entry = from_both (new_world w) before (entry ∷ [])

  left_behind : (most more over : ℕ) → over ≤ 78 → (before : List Entry) (entry : Entry) (entries : List Entry) → (over ≡ 0) ⊎ StartsPlainly entries → more + 199 * length entries ≤ wear_limit + over → AreLeft most before (entry ∷ entries) → IsReady more (world_from (later before entry) (up_to_command entries))
      → AreLeft more (and_one before entry) entries
  left_behind most more over few before entry entries owed room l ready =
      let back = sym (one_later before entry) in
      record {
        over = over;
        few = few;
        owed = owed;
        room = room;
        honest = subst (λ (z : World). AreHonest z entries) back l.honest.1;
        still = subst (λ (z : World). NothingWaits (world_from z entries)) back l.still;
        chance = subst (λ (z : World). NoChance (world_from z entries).log) back l.chance;
        can = subst (λ (z : World). OfEachCommand CanBeDone z entries) back l.can.1;
        next = subst (λ (z : World). IsReady more (world_from z (up_to_command entries))) back ready;
      }

  behind_one : (before : List Entry) (entry : Entry) (entries : List Entry) → Runs (world_after w (and_one before entry)) entries → Runs (later before entry) entries
  behind_one before entry entries runs = subst (λ (z : World). Runs z entries) (one_later before entry) runs

  abbrev Others : List Entry → Entry → List Entry → Type 0
  Others before entry entries = (most : ℕ) → AreLeft most (and_one before entry) entries → Runs (world_after w (and_one before entry)) entries

  abbrev at_line : ℕ → Happening → Entry
  at_line line event = record { line = line; happening = event }

  -- ---- A command.

  module _ (most : ℕ) (before : List Entry) (line n : ℕ) (command : Command) where
    abbrev told : Entry
    told = at_line line (Told n command)

    owes_none : (entries : List Entry) (l : AreLeft most before (told ∷ entries)) → l.over ≡ 0
    owes_none entries l = by_owed l.owed
      where
        by_owed : (l.over ≡ 0) ⊎ StartsPlainly (told ∷ entries) → l.over ≡ 0
        by_owed (inl none) = none
        by_owed (inr plain) = absurd (false≢true (sym plain))

    -- Another entry comes before the next command.
    module _ (entries : List Entry) (l : AreLeft most before (told ∷ entries)) (plain : StartsPlainly entries) (some : 1 ≤ length entries) where
      p : Paragraph
      p = record { line = line; n = n; command = command; behind = up_to_command entries }

      room_for : most + most_asked ≤ wear_limit
      room_for = (let all = l.room in let none = owes_none entries l in omega (arith, all, none, some))

      ready_then : IsReady (most + most_asked) (world_from (later before told) (up_to_command entries))
      unfolding p
      ready_then = paragraph_ready w configured before p most room_for (ready_at most before line n command entries l) (none_yet entries) (honest_yet (later before told) entries l.honest.1) (inl (idle_next (later before told) entries l.honest.1 l.still)) (chance_next (later before told) entries l.chance) l.can.0

      followed : Others before told entries → Runs (world_after w before) (told ∷ entries)
      unfolding p
      followed others =
          let all = l.room in
          let none = owes_none entries l in
          let rest = behind_one before told entries (others (most + most_asked) (left_behind most (most + most_asked) 78 (omega arith) before told entries (inr plain) (omega (arith, all, none)) l ready_then)) in (
            (
              paragraph_done w configured before p most room_for (ready_at most before line n command entries l) (none_yet entries) (honest_yet (later before told) entries l.honest.1) (inl (idle_next (later before told) entries l.honest.1 l.still)) (chance_next (later before told) entries l.chance) l.can.0,
              rest.0,
            ),
            rest.1,
          )

    -- The next command, or the end, comes at once: the command is not answered `ok`.
    module _ (entries : List Entry) (l : AreLeft most before (told ∷ entries)) (at_once : up_to_command entries ≡ []) where
      abbrev q : Paragraph
      q = record { line = line; n = n; command = command; behind = [] }

      room_alone : most + 1 ≤ wear_limit
      room_alone = (let all = l.room in let none = owes_none entries l in omega (arith, all, none))

      idle_now : NothingWaits (later before told)
      idle_now = subst (λ (e : List Entry). NothingWaits (world_from (later before told) e)) at_once (idle_next (later before told) entries l.honest.1 l.still)

      chance_before : NoChance (world_after w before).log
      chance_before = no_chance_from (world_after w before) (told ∷ entries) l.chance

      ready_alone : IsReady (most + 1) (later before told)
      ready_alone = alone_ready w configured before q most (ready_at most before line n command entries l) room_alone chance_before idle_now

      not_ok : WillBeDone (world_after w before) line n command (up_to_command entries)
      not_ok a c is connected ok = absurd (never_ok w configured before q most (ready_at most before line n command entries l) room_alone chance_before idle_now a c is connected ok)

      alone : Others before told entries → Runs (world_after w before) (told ∷ entries)
      alone others =
          let all = l.room in
          let none = owes_none entries l in
          let ready = subst (λ (e : List Entry). IsReady (most + 1) (world_from (later before told) e)) (sym at_once) ready_alone in
          let rest = behind_one before told entries (others (most + 1) (left_behind most (most + 1) 0 (omega arith) before told entries (inl refl) (omega (arith, all, none)) l ready)) in
          ((not_ok, rest.0), rest.1)

    by_next : (entry : Entry) (entries : List Entry) (b : Bool) → is_command entry.happening ≡ b → Others before told (entry ∷ entries) → AreLeft most before (told ∷ entry ∷ entries) → Runs (world_after w before) (told ∷ entry ∷ entries)
    by_next entry entries true is others l = alone (entry ∷ entries) l (ap (λ (b : Bool). next_part b entry entries) is) others
    by_next entry entries false is others l = followed (entry ∷ entries) l is (omega arith) others

    command_runs : (entries : List Entry) → Others before told entries → AreLeft most before (told ∷ entries) → Runs (world_after w before) (told ∷ entries)
    command_runs [] others l = alone [] l refl others
    command_runs (entry ∷ entries) others l = by_next entry entries (is_command entry.happening) refl others l

  -- What comes after an event that is no command.
  other_runs : (most : ℕ) (before : List Entry) (entry : Entry) (entries : List Entry) → is_command entry.happening ≡ false → Others before entry entries → AreLeft most before (entry ∷ entries) → Runs (later before entry) entries
  other_runs most before entry entries other others l =
      let all = l.room in
      let few = l.few in
      behind_one before entry entries (others most (left_behind most most 0 (omega arith) before entry entries (inl refl) (omega (arith, all, few)) l (subst (λ (b : Bool). IsReady most (world_from (world_after w before) (next_part b entry entries))) other l.next)))

  one_runs : (most : ℕ) (before : List Entry) (line : ℕ) (event : Happening) (entries : List Entry) → Others before (at_line line event) entries → AreLeft most before (at_line line event ∷ entries) → Runs (world_after w before) (at_line line event ∷ entries)
  one_runs most before line (Told n command) entries others l = command_runs most before line n command entries others l
  one_runs most before line (Reply n bytes) entries others l = (let k = other_runs most before (at_line line (Reply n bytes)) entries refl others l in ((tt, k.0), k.1))
  one_runs most before line (Deliver number) entries others l = (let k = other_runs most before (at_line line (Deliver number)) entries refl others l in ((tt, k.0), k.1))
  one_runs most before line (Lose number) entries others l = (let k = other_runs most before (at_line line (Lose number)) entries refl others l in ((tt, k.0), k.1))
  one_runs most before line (Inject bytes) entries others l = (let k = other_runs most before (at_line line (Inject bytes)) entries refl others l in ((tt, k.0), k.1))
  one_runs most before line (Pump count) entries others l = (let k = other_runs most before (at_line line (Pump count)) entries refl others l in ((tt, k.0), k.1))
  one_runs most before line (Tick seconds) entries others l = (let k = other_runs most before (at_line line (Tick seconds)) entries refl others l in ((tt, k.0), k.1))
  one_runs most before line Show entries others l = (let k = other_runs most before (at_line line Show) entries refl others l in ((tt, k.0), k.1))

  all_run : (entries before : List Entry) (most : ℕ) → AreLeft most before entries → Runs (world_after w before) entries
  all_run [] before most l = (tt, l.next.0)
  all_run (entry ∷ entries) before most l = one_runs most before entry.line entry.happening entries (λ more k. all_run entries (and_one before entry) more k) l

pub quiet_worlds_complete : QuietWorldsComplete
quiet_worlds_complete w configured before quiet most taken entries room honest still chance can = all_run w configured entries before most (record {
  over = 0;
  few = omega arith;
  owed = inl refl;
  room = omega (arith, room);
  honest = honest;
  still = still;
  chance = chance;
  can = can;
  next = behind_ready most (world_after w before) (up_to_command entries) (none_yet entries) (honest_yet (world_after w before) entries honest) (quiet, taken);
})

pub honest_scripts_complete : HonestScriptsComplete
honest_scripts_complete w configured entries few honest still chance can = (let r = starts_ready w in quiet_worlds_complete w configured [] r.0 0 r.1 entries (omega (arith, few)) honest still chance can)
