use Rattle.std.proofs.Common.{◌∙◌, Option, ap}
use Rattle.std.specs.Prelude.{option_to_list}
use Rattle.requester_core.proofs.Listed.{shown_listed}
use Rattle.requester_core.proofs.joined.RequesterCore.sessions.Goals as goal
use Rattle.requester_machine.specs.Session.{session_of}
use Rattle.spdm_grammar.specs.declared.told.session_view.SessionView.{SessionView}

pub returns : goal.returns
returns c = λ q h stands few.
    let first = ap (λ (v : Option SessionView). option_to_list v) (c.view.ensures q h stands few) ∙ shown_listed (session_of 1 h) in
    let second = ap (λ (v : Option SessionView). option_to_list v) (c.view-2.ensures q h stands few) ∙ shown_listed (session_of 2 h) in
    let third = ap (λ (v : Option SessionView). option_to_list v) (c.view-3.ensures q h stands few) ∙ shown_listed (session_of 3 h) in
    let fourth = ap (λ (v : Option SessionView). option_to_list v) (c.view-4.ensures q h stands few) ∙ shown_listed (session_of 4 h) in
    cc (c.of.ensures, first, second, third, fourth)
