use Rattle.key_schedule.specs.Purpose.{iv_of, key_of}
use Rattle.secured_record.proofs.Told.{record_tells}
use Rattle.spdm_machine.specs.Keys.{sealed_of}
use Rattle.check_laws.proofs.laws.sealed_tells.Goals as goal

pub returns : goal.returns
unfolding sealed_of
returns c = λ choice p number req rsp inner other pad padding less few same.
    record_tells (key_of choice.hash choice.aead p) (iv_of choice.hash p) req rsp number inner other pad padding less few same
