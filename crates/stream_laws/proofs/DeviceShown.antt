-- The lines by which a world is shown are none of a device.
use Rattle.std.proofs.Common.{◌≡◌, ◌∙◌, ◌+◌, ℕ, List, [], ◌∷◌, ◌++◌, Option, Some, None, refl, ap}
use Rattle.std.proofs.lemmas.Grind.{flat_map-append}
use Rattle.std.proofs.lemmas.List.{append_assoc}
use Rattle.requester_machine.specs.Requesting.{Requesting}
use Rattle.requester_machine.specs.Shown as asked_shown
use Rattle.responder_machine.specs.Heard.{views_of}
use Rattle.responder_machine.specs.Responding.{Connection, Responding, connection_of}
use Rattle.spdm_grammar.specs.Lines.{Line, Whose}
use Rattle.spdm_grammar.specs.declared.told.session_view.SessionView.{SessionView}
use Rattle.stream_laws.specs.Devices.{device_line, device_lines}
use Rattle.world_machine.specs.Happenings.{Entry}
use Rattle.world_machine.specs.Setup.{WorldSetup}
use Rattle.world_machine.specs.Trace.{lines_from, trace_lines}
use Rattle.world_machine.specs.World.{all_end_lines, connection_lines, end_lines, new_world, session_lines, shown_lines}

module _ (eid : ℕ) where
  sessions_none : (whose : Whose) (views : List SessionView) (rest : List Line) → device_lines eid (session_lines whose views ++ rest) ≡ device_lines eid rest
  sessions_none whose [] rest = refl
  sessions_none whose (view ∷ others) rest = sessions_none whose others rest

  connection_none : (n : ℕ) (o : Option Connection) (rest : List Line) → device_lines eid (connection_lines n o ++ rest) ≡ device_lines eid rest
  connection_none n None rest = refl
  connection_none n (Some c) rest = sessions_none (Whose.Responder n) (views_of c.history) rest

  end_none : (r : Responding) (n : ℕ) (a : Requesting) (rest : List Line) → device_lines eid (end_lines r n a ++ rest) ≡ device_lines eid rest
  end_none r n a rest =
      let sessions = session_lines (Whose.Requester n) (asked_shown.views_of a.history) in
      let connection = connection_lines n (connection_of a.setup.eid r.connections) in
      ap (device_lines eid) (append_assoc sessions connection rest)
      ∙ sessions_none (Whose.Requester n) (asked_shown.views_of a.history) (connection ++ rest)
      ∙ connection_none n (connection_of a.setup.eid r.connections) rest

  ends_none : (r : Responding) (n : ℕ) (all : List Requesting) → device_lines eid (all_end_lines r n all) ≡ []
  ends_none r n [] = refl
  ends_none r n (a ∷ others) = end_none r n a (all_end_lines r (n + 1) others) ∙ ends_none r (n + 1) others

  -- Of the ends as they are at first nothing is written.
  pub trace_begins : (w : WorldSetup) (entries : List Entry) → device_lines eid (trace_lines w entries) ≡ device_lines eid (lines_from (new_world w) entries)
  trace_begins w entries =
      let world = new_world w in
      flat_map-append (device_line eid) (shown_lines world) (lines_from world entries)
      ∙ ap (λ front. front ++ device_lines eid (lines_from world entries)) (ends_none world.responder 1 world.requesters)
