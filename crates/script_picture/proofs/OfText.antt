-- What is drawn of a text that is a capture, and of one that is a script.
use Rattle.std.proofs.Common.{◌≡◌, ◌∙◌, ℕ, List, Result, Ok, Err, ap, sym}
use Rattle.capture_picture.specs.Arrows.{packets_picture}
use Rattle.script_picture.specs.Drawn.{drawn_by, drawn_text, script_picture}
use Rattle.script_text.specs.ScriptText.{capture_in, script_in}
use Rattle.script_text.specs.declared.texts.faults.ScriptFault.{ScriptFault}
use Rattle.script_text.specs.declared.texts.script.Capture.{Capture}
use Rattle.script_text.specs.declared.texts.script.Script.{Script}
use Rattle.sequence_picture.specs.declared.form.Form.{Form}

pub drawn_capture : (form : Form) (text : List ℕ) (capture : Capture) → Ok capture ≡ capture_in text → packets_picture form capture.config capture.packets ≡ drawn_text form text
unfolding drawn_text
drawn_capture form text capture is = ap (λ (c : Result Capture ScriptFault). drawn_by form c (script_in text)) is

pub drawn_script : (form : Form) (text : List ℕ) (f : ScriptFault) (script : Script) → capture_in text ≡ Err f → Ok script ≡ script_in text → script_picture form script ≡ drawn_text form text
unfolding drawn_text
drawn_script form text f script none is = ap (λ (s : Result Script ScriptFault). drawn_by form (Err f) s) is ∙ ap (λ (c : Result Capture ScriptFault). drawn_by form c (script_in text)) (sym none)
