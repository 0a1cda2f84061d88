-- The counts of a session, computed over an update of all keys.
use Rattle.std.proofs.Common.{refl, ◌≡◌, ℕ, [], ◌∷◌, true}
use Rattle.spdm_grammar.specs.declared.told.phase.Stage.{Stage}
use Rattle.spdm_grammar.specs.declared.told.phase.Stage.TheVariants as stage
use Rattle.spdm_machine.specs.Terms.{no_negotiation}
use Rattle.requester_machine.specs.History.Effect.{Grants}
use Rattle.requester_machine.specs.Message.Ask.{AskFinish, AskUpdate, AskVerify}
use Rattle.requester_machine.specs.Session.{Steps, stage_of, request_epoch, response_epoch, request_next, response_next}
use Rattle.requester_machine.specs.Session.Step.{Started, Accepted, Asked, Took}

-- Stage, epochs and next numbers.
abbrev counts : Steps → Stage × ℕ × ℕ × ℕ × ℕ
counts s = (stage_of s, request_epoch s, response_epoch s, request_next s, response_next s)

abbrev finishing : Steps
finishing = Asked AskFinish [] [] ∷ Accepted [] ∷ Started no_negotiation [] ∷ []

finish_is_asked : counts finishing ≡ (stage.Handshake, 0, 0, 1, 0)
finish_is_asked = refl

abbrev opened : Steps
opened = Took [] [] (Grants AskFinish []) ∷ finishing

opened_anew : counts opened ≡ (stage.Open, 0, 0, 0, 0)
opened_anew = refl

-- While the update is outstanding, both directions are as they were.
abbrev updating : Steps
updating = Asked (AskUpdate true) [] [] ∷ opened

update_is_asked : counts updating ≡ (stage.Open, 0, 0, 1, 0)
update_is_asked = refl

abbrev updated : Steps
updated = Took [] [] (Grants (AskUpdate true) []) ∷ updating

update_is_answered : counts updated ≡ (stage.Verifying, 1, 1, 0, 1)
update_is_answered = refl

update_is_verified : counts (Took [] [] (Grants AskVerify []) ∷ Asked AskVerify [] [] ∷ updated) ≡ (stage.Open, 1, 1, 1, 2)
update_is_verified = refl
