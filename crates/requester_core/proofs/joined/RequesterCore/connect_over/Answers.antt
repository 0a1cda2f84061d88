use Rattle.requester_core.proofs.joined.RequesterCore.connect_over.Goals as goal

pub returns-clause-told : goal.returns-clause-told
returns-clause-told c = λ q h over command first begun f d none stands large is.
    c.connect.ensures q over f d (c.skip_chunks.ensures.told h over command first begun none stands.clear_state.shows large is) stands.gathers.max

pub returns-clause-owed : goal.returns-clause-owed
returns-clause-owed c = λ q bare over sent first f d took stands large is.
    c.connect.ensures q over f d (c.skip_chunks.ensures.owed bare over sent first took stands.clear_state.shows large is) stands.gathers.max
