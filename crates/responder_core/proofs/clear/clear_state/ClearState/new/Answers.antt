use Rattle.responder_core.proofs.clear.clear_state.ClearState.new.Goals as goal

pub returns : goal.returns
returns c = record { negotiating = c.new.ensures; large = c.new-2.ensures c.new.result.common.to_requester.transfer }
