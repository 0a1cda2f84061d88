-- The words of the program. This project's own.
use Rattle.std.specs.Prelude.{ℕ, List, [], ◌∷◌, Option, None}
use Rattle.spdm_explain.specs.Report.{form_in}
use Rattle.spdm_explain.specs.declared.form.Form.{Form}

-- One word, which names a form.
abbrev pub form_of : List (List ℕ) → Option Form
form_of (word ∷ []) = form_in word
form_of _ = None
