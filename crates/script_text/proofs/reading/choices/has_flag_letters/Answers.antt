use Rattle.std.proofs.Common.{[], ◌∷◌, ◌∙◌}
use Rattle.script_text.proofs.reading.choices.has_flag_letters.Goals as goal

pub returns : goal.returns
returns c =
    c.is_empty.ensures
    ∙ c.behind.ensures []
    ∙ c.behind-rest-3.ensures (99 ∷ [])
    ∙ c.behind-rest-2.ensures (107 ∷ 99 ∷ [])
    ∙ c.behind-rest.ensures (104 ∷ 107 ∷ 99 ∷ [])
