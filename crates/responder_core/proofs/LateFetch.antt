-- MEASUREMENTS of a session that were never seen are pending again: what of the history stays.
use Rattle.std.proofs.Common.{refl, ◌≡◌, ℕ, List}
use Rattle.responder_core.proofs.PutAnswers.{Keeps}
use Rattle.responder_machine.specs.Turn.{Effect, is_data}
use Rattle.responder_machine.specs.Turn.Effect.{NoEffect, Took, TookData}
use Rattle.responder_session.proofs.LateFetch.{recalled_alike, takes_pending}
use Rattle.responder_session.specs.LateFetch.{effect_pending, turn_pending}

data_pending : (answer : List ℕ) (handle : ℕ) (e : Effect) → is_data (effect_pending answer handle e) ≡ is_data e
data_pending answer handle NoEffect = refl
data_pending answer handle (Took asked request old large) = refl
data_pending answer handle (TookData bytes old) = refl

pub pends_again : (answer : List ℕ) (handle : ℕ) → Keeps (turn_pending answer handle)
pends_again answer handle = record { takes = takes_pending answer handle; carries = λ t. data_pending answer handle t.effect; alike = recalled_alike answer handle }
