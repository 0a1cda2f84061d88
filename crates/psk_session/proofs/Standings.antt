-- An open session awaits nothing.
use Rattle.std.proofs.Common.{◌≡◌, refl, [], true, false}
use Rattle.requester_machine.specs.Order.{stage_for}
use Rattle.requester_machine.specs.Records.{asks_all}
use Rattle.spdm_grammar.specs.declared.told.phase.Stage.TheVariants as stages
use Rattle.psk_session.specs.ReqSession.{awaited_in, is_open}
use Rattle.psk_session.specs.Waiting.{awaited_by}
use Rattle.psk_session.specs.declared.session_state.SessionState.{SessionState}
use Rattle.psk_session.specs.declared.session_state.SessionState.TheVariants.{Open, Awaits, Closed}

pub open_stage : (st : SessionState) → is_open st ≡ true → stage_for (awaited_by (awaited_in st) []) ≡ stages.Open
open_stage Open is = refl
open_stage (Awaits what) is = absurd (cc is)
open_stage Closed is = refl

pub open_calm : (st : SessionState) → is_open st ≡ true → asks_all (awaited_by (awaited_in st) []) ≡ false
open_calm Open is = refl
open_calm (Awaits what) is = absurd (cc is)
open_calm Closed is = refl
