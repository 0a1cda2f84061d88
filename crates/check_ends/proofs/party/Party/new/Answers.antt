use Rattle.check_ends.proofs.party.Party.new.Goals as goal
use Rattle.check_laws.specs.Keeping.{kept_of}
use Rattle.check_laws.specs.RepliesShown.{responder_for}
use Rattle.capture_machine.specs.Rounds.{new_dialogue}

pub returns : goal.returns
returns c = λ w q asker number set_up.
    let r = responder_for w (kept_of (new_dialogue q)) in
    record { asker = asker; answerer = c.in_ok-answerer.ensures r set_up; keys = c.new-2.ensures r; number = number; places = c.new-3.ensures q }
