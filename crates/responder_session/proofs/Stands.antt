-- What a session stands for after a record.
use Rattle.std.proofs.Common.{◌≡◌, ◌∙◌, ◌++◌, ap, sym, subst, ℕ, ◌+◌, List, ◌∷◌, true, false}
use Rattle.std.proofs.lemmas.Bool.{false≢true}
use Rattle.std.specs.Prelude.{Some}
use Rattle.responder_rules.specs.LargeAnswer as large_answers
use Rattle.responder_machine.specs.Responder.{is_open}
use Rattle.responder_machine.specs.Session.{Events, stage_of, session_terms, session_vca, exchange_of, exchange_answer, t1_of, turns_of, taken_of}
use Rattle.responder_machine.specs.Session.Event.{Heard}
use Rattle.responder_machine.specs.Turn.{Turn, is_data}
use Rattle.session_keys.specs.Handshake.{IsHandshakeOf}
use Rattle.spdm_grammar.specs.declared.told.phase.Stage.{Stage}
use Rattle.spdm_grammar.specs.declared.told.phase.Stage.TheVariants as stages
use Rattle.spdm_machine.specs.Sessions.{is_past_handshake}
use Rattle.transcript.specs.Lane as lanes
use Rattle.responder_session.proofs.Moves.{if_no, same_stage, same_request_epoch, same_response_epoch}
use Rattle.responder_session.specs.Data.{data_of}
use Rattle.responder_session.specs.Kept.{Keeps}
use Rattle.responder_session.specs.Session.{StandsFor}
use Rattle.responder_session.specs.Turns.{KeepsKeys}
use Rattle.session_keys.specs.declared.handshake.Handshake.{Handshake}
use Rattle.transcript.specs.declared.lane.Lane.{Lane}
use Rattle.responder_session.specs.declared.session.RspSession.{RspSession}

-- Where the stage and the keys stay.
pub stands_by : (old new : RspSession) (psk : List ℕ) (s : Events) (m : List ℕ) (t : Turn) (reply : List ℕ)
    → new.stage ≡ old.stage → new.exchange.lane ≡ old.exchange.lane → new.exchange.handshake ≡ old.exchange.handshake → KeepsKeys t → (stage_of s ≡ stages.Handshake → is_data t.effect ≡ false)
    → Keeps new.kept psk (Heard m t reply ∷ s)
    → large_answers.StandsFor new.large (session_terms s).common.to_requester.transfer (t ∷ turns_of s)
    → new.bytes ≡ data_of (Heard m t reply ∷ s)
    → StandsFor old psk s → StandsFor new psk (Heard m t reply ∷ s)
stands_by old new psk s m t reply stage lane handshake k other keeps large bytes x =
    let same = same_stage s m t reply k in record {
      stage = stage ∙ x.stage ∙ ap (λ (y : Stage). Some y) (sym same);
      keeps = keeps;
      handshake = subst (λ (e : Handshake). IsHandshakeOf e (session_terms s).choice psk (t1_of s)) (sym handshake) x.handshake;
      pushed = subst (λ (e : Lane). lanes.StandsFor e (session_vca s ++ exchange_of s ++ exchange_answer s)) (sym lane) x.pushed;
      large = large;
      bytes = bytes;
      fresh = λ at. let f = x.fresh (sym same ∙ at) in record {
        request_epoch = same_request_epoch s m t reply k ∙ f.request_epoch;
        response_epoch = same_response_epoch s m t reply k ∙ f.response_epoch;
        taken = if_no (is_data t.effect) (taken_of s + 1) (taken_of s) (other (sym same ∙ at)) ∙ f.taken;
      };
    }

-- Where the handshake is over.
pub stands_past : (old new : RspSession) (psk : List ℕ) (s : Events) (m : List ℕ) (t : Turn) (reply : List ℕ) (stage : Stage)
    → new.stage ≡ Some stage → stage_of (Heard m t reply ∷ s) ≡ stage → is_past_handshake stage ≡ true → new.exchange.lane ≡ old.exchange.lane → new.exchange.handshake ≡ old.exchange.handshake
    → Keeps new.kept psk (Heard m t reply ∷ s)
    → large_answers.StandsFor new.large (session_terms s).common.to_requester.transfer (t ∷ turns_of s)
    → new.bytes ≡ data_of (Heard m t reply ∷ s)
    → StandsFor old psk s → StandsFor new psk (Heard m t reply ∷ s)
stands_past old new psk s m t reply stage is at past lane handshake keeps large bytes x = record {
  stage = is ∙ ap (λ (y : Stage). Some y) (sym at);
  keeps = keeps;
  handshake = subst (λ (e : Handshake). IsHandshakeOf e (session_terms s).choice psk (t1_of s)) (sym handshake) x.handshake;
  pushed = subst (λ (e : Lane). lanes.StandsFor e (session_vca s ++ exchange_of s ++ exchange_answer s)) (sym lane) x.pushed;
  large = large;
  bytes = bytes;
  fresh = λ first. absurd (false≢true (sym (ap is_past_handshake (sym at ∙ first)) ∙ past));
}

-- A session in another stage is not open.
pub closed_not_open : (s : Events) (stage : Stage) → is_open stage ≡ false → stage_of s ≡ stage → stage_of s ≡ stages.Open → ⊥
closed_not_open s stage closed at open_at = false≢true (sym closed ∙ ap is_open (sym at) ∙ ap is_open open_at)
