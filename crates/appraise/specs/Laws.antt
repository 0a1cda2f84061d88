-- What follows of policies and answers. This project's own.
use Rattle.std.specs.Prelude.{◌≡◌, ℕ, List, None, Ok}
use Rattle.script_text.specs.PolicyText.{policy_in}
use Rattle.script_text.specs.declared.texts.rule.Rule.{Rule}
use Rattle.appraise.specs.declared.appraisal.Appraisal.{Appraisal}
use Rattle.appraise.specs.Policies.{policy_fault}
use Rattle.appraise.specs.Answers.{IsTheAppraisal}

-- Under the rules of a policy exactly one answer holds of any bytes.
abbrev pub OneAnswerHolds : Type 0
OneAnswerHolds =
    (rules : List Rule) → policy_fault rules ≡ None → (bytes : List ℕ) → (answer : Appraisal) × IsTheAppraisal rules bytes answer

-- The rules that a text is make a policy.
abbrev pub ReadRulesAreSound : Type 0
ReadRulesAreSound =
    (first : ℕ) (text : List ℕ) (rules : List Rule) → policy_in first text ≡ Ok rules → policy_fault rules ≡ None
