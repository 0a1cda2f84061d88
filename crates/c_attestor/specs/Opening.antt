-- Why a call does not open an attestor.
use Rattle.std.specs.Prelude.{◌≡◌, ◌<◌, ℕ, List, Option, Some, None, Err, length}
use Rattle.c_attestor.specs.declared.attestor_set_up.AttestorFault.{AttestorFault}
use Rattle.c_attestor.specs.declared.attestor_set_up.AttestorFault.TheVariants as fault
use Rattle.c_attestor.specs.declared.policy_text.PolicyUnread.{PolicyUnread}
use Rattle.c_attestor.specs.declared.policy_text.PolicyUnread.TheVariants as unread
use Rattle.c_attestor.specs.declared.open_attestor.OpenAttestor.{OpenAttestor}
use Rattle.c_ends.specs.Opening.{HasRequesterFault, IsRequesterFault, code_of_requester}
use Rattle.c_ends.specs.Setting.{requester_argument}
use Rattle.c_ends.specs.declared.codes.TheConstants.{BAD_POLICY, MEMORY, OPEN}
use Rattle.c_ends.specs.declared.config.RequesterConfig.{RequesterConfig}
use Rattle.script_text.specs.PolicyText.{policy_in}
use Rattle.script_text.specs.declared.configuration.config_text.TheConstants.{TEXT_LIMIT}
use Rattle.script_text.specs.declared.texts.faults.ScriptFault.{ScriptFault}

-- The text has a bad line.
pub record HasBadLine (policy : List ℕ) : Type 0 where
  pub why : ScriptFault
  pub is : policy_in 1 policy ≡ Err why

-- Why the text of a policy is not taken: it is too long, or it is not and has a bad line.
pub data IsBadPolicy (policy : List ℕ) : Type 0 where
  TooLong : TEXT_LIMIT < length policy → IsBadPolicy policy
  BadLine : HasBadLine policy → IsBadPolicy policy

-- Why a text is not taken: it is bad; or memory ran out, of which nothing is said.
abbrev pub IsUnread : (policy : List ℕ) → PolicyUnread → Type 0
IsUnread policy unread.Bad = IsBadPolicy policy
IsUnread policy unread.Memory = Unit {0}

-- The words set up a requester.
pub record SetsUp (c : RequesterConfig) : Type 0 where
  pub words : requester_argument c ≡ None
  pub config : HasRequesterFault c None

-- A configuration and the text of a policy set up no attestor for this fault: that of the requester comes first. Where
-- there is none the text may be bad, or memory may run out.
abbrev pub IsAttestorFault : RequesterConfig → (policy : List ℕ) → AttestorFault → Type 0
IsAttestorFault c policy (fault.Requester why) = IsRequesterFault c why
IsAttestorFault c policy fault.Policy = SetsUp c × IsBadPolicy policy
IsAttestorFault c policy fault.Memory = SetsUp c

abbrev pub code_of_attestor : AttestorFault → ℕ
code_of_attestor (fault.Requester why) = code_of_requester why
code_of_attestor fault.Policy = BAD_POLICY
code_of_attestor fault.Memory = MEMORY

-- An answer of this number refuses to open an attestor, at a handle that holds this: it is open already, or else the
-- words or the text have the fault of the number.
pub record RefusesWords (c : RequesterConfig) (policy : List ℕ) (code : ℕ) : Type 0 where
  pub fault : AttestorFault
  pub is : code ≡ code_of_attestor fault
  pub cause : IsAttestorFault c policy fault

abbrev pub RefusesAttestor : Option OpenAttestor → RequesterConfig → (policy : List ℕ) → (code : ℕ) → Type 0
RefusesAttestor (Some held) c policy code = code ≡ OPEN
RefusesAttestor None c policy code = RefusesWords c policy code
