-- Which attestor of the definitions a handle stands for, with the packets that it sends next. A handle that holds nothing
-- stands for none.
use Rattle.std.specs.Prelude.{◌≡◌, ℕ, List, [], Option, Some, None, Ok}
use Rattle.attestor.specs.Attesting.{Attesting, attesting_over}
use Rattle.attestor.specs.Standing.{StandsFor}
use Rattle.c_attestor.specs.declared.open_attestor.OpenAttestor.{OpenAttestor}
use Rattle.c_ends.specs.Setting.{requester_in}
use Rattle.c_ends.specs.declared.config.RequesterConfig.{RequesterConfig}
use Rattle.requester_machine.specs.Requesting.{new_requesting}
use Rattle.script_text.specs.PolicyText.{policy_in}
use Rattle.script_text.specs.declared.texts.rule.Rule.{Rule}

abbrev pub HoldsAttestor : Option OpenAttestor → Attesting → (sends : List (List ℕ)) → Type 0
HoldsAttestor None a sends = ⊥
HoldsAttestor (Some x) a sends = StandsFor x.attestor a × (x.out ≡ sends)

-- A handle holds the attestor that a configuration and the text of a policy set up: over the requester of these words,
-- which was told and given nothing yet, under the rules of this text, with nothing to send.
pub record HoldsOpened (held : Option OpenAttestor) (c : RequesterConfig) (policy : List ℕ) : Type 0 where
  pub rules : List Rule
  pub says : policy_in 1 policy ≡ Ok rules
  pub holds : HoldsAttestor held (attesting_over (new_requesting (requester_in c)) rules) []
