use Rattle.capture_records.proofs.Tried.{tried}
use Rattle.capture_records.proofs.opening.try_key.Goals as goal

pub returns : goal.returns
returns c = λ choice p is.
    tried c.open_record.result choice p c.args.id c.args.sealed.now c.open_record.new.out c.number_at.result c.number_at.ensures
    (c.open_record.ensures.fault choice p is) (c.open_record.ensures.inner choice p is)
