-- The application data that waits to be sent in answer.
use Rattle.std.specs.Prelude.{◌≡◌, ℕ, List, [], drop, nat_lt, nat_le, length, if◌then◌else◌, Bool, true, false, Option, Some, None}
use Rattle.hmac_hkdf.specs.declared.draws.Drawn.{Drawn}
use Rattle.responder_machine.specs.Answer.{Free}
use Rattle.responder_machine.specs.Does.{first_queued}
use Rattle.responder_machine.specs.LargeMessages.{next_handle}
use Rattle.responder_machine.specs.Session.{Events, turns_of}
use Rattle.responder_session.specs.declared.told.RspAct.{RspAct}
use Rattle.responder_session.specs.declared.told.RspAct.TheVariants as act
use Rattle.responder_session.specs.declared.took.RspTook.{RspTook}
use Rattle.responder_session.specs.declared.took.RspTook.TheVariants as took
use Rattle.responder_session.specs.declared.queue.QueueFault.{QueueFault}
use Rattle.responder_session.specs.declared.queue.QueueFault.TheVariants.{TooLong, Full}
use Rattle.spdm_grammar.specs.declared.names.TheConstants.{MAX_APP_DATA_LEN}

-- Why application data is not queued where these wait: it has more than 1,024 bytes, or 16 wait.
abbrev pub queue_fault : List (List ℕ) → List ℕ → Option QueueFault
queue_fault waiting bytes =
    if nat_lt MAX_APP_DATA_LEN (length bytes) then Some TooLong
    else (if nat_le 16 (length waiting) then Some Full
    else None)

-- The free values of a record at this project's choice, where these draw and application data stand next.
pub record IsChosen (draw : Drawn) (waiting : List (List ℕ)) (s : Events) (f : Free) : Type 0 where
  pub nonce : f.nonce ≡ draw.bytes
  pub opaque : f.measured_opaque ≡ []
  pub handle : f.handle ≡ next_handle (turns_of s)
  pub reply : f.reply ≡ first_queued waiting
  pub pad : f.pad ≡ []

-- Application data was taken.
abbrev pub is_data_act : RspAct → Bool
is_data_act act.Data = true
is_data_act _ = false

abbrev pub took_data : RspTook → Bool
took_data (took.Moved state act) = is_data_act act
took_data _ = false

-- Application data that is taken uses up what waits first.
abbrev pub queue_after : RspTook → List (List ℕ) → List (List ℕ)
queue_after result waiting = if took_data result then drop 1 waiting else waiting
