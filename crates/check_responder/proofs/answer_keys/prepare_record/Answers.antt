use Rattle.check_responder.proofs.answer_keys.prepare_record.Goals as goal

pub returns : goal.returns
returns c = λ r h stands few. record { key = c.taken_key-coming.ensures.key r h stands few; inner = c.taken_key-coming.ensures.inner r h stands few }
