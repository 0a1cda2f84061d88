-- A trace grows event by event, up to a full link.
use Rattle.std.proofs.Common.{◌≡◌, ◌∙◌, ◌++◌, List, [], ◌∷◌, refl, ap, true, false, Some, None}
use Rattle.script_text.specs.declared.texts.script.Script.{Script}
use Rattle.spdm_basis.proofs.Options.{both}
use Rattle.script_laws.specs.Scripts.{entries_in, full_from, full_line, set_up, trace_in, written_in}
use Rattle.link_world.proofs.Shown.{shown_plain}
use Rattle.link_world.proofs.Texts.{before_behind, before_still, text_append}
use Rattle.link_world.specs.Written.{before_full, has_full, text_of}
use Rattle.world_machine.specs.Happenings.{Entry}
use Rattle.world_machine.specs.Trace.{lines_from}
use Rattle.world_machine.specs.World.{World, entry_step, new_world, shown_lines}

-- ---- One event.

pub written-room : (world : World) (entry : Entry) (entries : List Entry) → has_full (entry_step world entry).lines ≡ false →
    text_of (before_full (lines_from world (entry ∷ entries))) ≡ text_of (entry_step world entry).lines ++ text_of (before_full (lines_from (entry_step world entry).after entries))
written-room world entry entries room =
    ap text_of (before_behind (entry_step world entry).lines (lines_from (entry_step world entry).after entries) room)
    ∙ text_append (entry_step world entry).lines (before_full (lines_from (entry_step world entry).after entries))

pub written-full : (world : World) (entry : Entry) (entries : List Entry) → has_full (entry_step world entry).lines ≡ true →
    before_full (lines_from world (entry ∷ entries)) ≡ before_full (entry_step world entry).lines
written-full world entry entries full = before_still (entry_step world entry).lines (lines_from (entry_step world entry).after entries) full

pub full_from-room : (world : World) (entry : Entry) (entries : List Entry) → has_full (entry_step world entry).lines ≡ false →
    full_from world (entry ∷ entries) ≡ full_from (entry_step world entry).after entries
full_from-room world entry entries room = rw room refl

pub full_from-full : (world : World) (entry : Entry) (entries : List Entry) → has_full (entry_step world entry).lines ≡ true → full_from world (entry ∷ entries) ≡ Some entry.line
full_from-full world entry entries full = rw full refl

-- ---- The whole trace.

-- without a full link all of it is written
whole_lines : (world : World) (entries : List Entry) → full_from world entries ≡ None → before_full (lines_from world entries) ≡ lines_from world entries
whole_lines world [] h = refl
whole_lines world (entry ∷ entries) h =
    let room = both _ _ _ h in
    before_behind (entry_step world entry).lines (lines_from (entry_step world entry).after entries) room.0
    ∙ ap (λ rest. (entry_step world entry).lines ++ rest) (whole_lines (entry_step world entry).after entries room.1)

-- what is written begins with the ends as they are at first
pub written_begins : (script : Script) →
    written_in script ≡ text_of (shown_lines (new_world (set_up script))) ++ text_of (before_full (lines_from (new_world (set_up script)) (entries_in script.events)))
written_begins script =
    let world = new_world (set_up script) in
    let shown = shown_lines world in
    let lines = lines_from world (entries_in script.events) in
    ap text_of (before_behind shown lines (shown_plain world)) ∙ text_append shown (before_full lines)

-- where the link is never full the trace is written whole
pub written_whole : (script : Script) → full_line script ≡ None → written_in script ≡ trace_in script
written_whole script none =
    let world = new_world (set_up script) in
    let shown = shown_lines world in
    let lines = lines_from world (entries_in script.events) in
    ap text_of (before_behind shown lines (shown_plain world) ∙ ap (λ rest. shown ++ rest) (whole_lines world (entries_in script.events) none))
