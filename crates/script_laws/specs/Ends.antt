-- What each end is made of that a script sets up has no fault. This project's own.
use Rattle.std.specs.Prelude.{◌≡◌, ℕ, List, None, Ok, Contains}
use Rattle.script_ends.specs.Configured.{SetsUpResponder, requester_in}
use Rattle.requester.specs.Config as asking
use Rattle.requester.specs.SetUp.{setup_of}
use Rattle.requester.specs.declared.config.ReqConfig.{ReqConfig}
use Rattle.responder.specs.Config as answering
use Rattle.responder.specs.declared.config.RspConfig.{RspConfig}
use Rattle.script_text.specs.ConfigText.{config_in}
use Rattle.script_text.specs.ScriptText.{script_in}
use Rattle.script_text.specs.declared.configuration.config.ReqPart.{ReqPart}
use Rattle.script_text.specs.declared.configuration.config.ScriptConfig.{ScriptConfig}
use Rattle.script_text.specs.declared.texts.script.Script.{Script}

-- A requester of a script is made of this, as its configuration says it.
pub record SetsUpRequester (c : ScriptConfig) (config : ReqConfig) : Type 0 where
  pub q : ReqPart
  pub is : Contains c.requesters q
  pub sets_up : setup_of config ≡ requester_in c.responder.eid.number q

-- No end of a script is refused, whatever it is made of that sets it up.
pub record HasNoFault (c : ScriptConfig) : Type 0 where
  pub responder : (config : RspConfig) → SetsUpResponder c config → answering.config_fault config ≡ None
  pub requester : (config : ReqConfig) → SetsUpRequester c config → asking.config_fault config ≡ None

abbrev pub ReadEndsHaveNoFault : Type 0
ReadEndsHaveNoFault = (text : List ℕ) (script : Script) → script_in text ≡ Ok script → HasNoFault script.config

-- The same of a configuration that a text is, which needs no seed.
abbrev pub ConfiguredEndsHaveNoFault : Type 0
ConfiguredEndsHaveNoFault = (text : List ℕ) (c : ScriptConfig) → config_in text ≡ Ok c → HasNoFault c
