-- The MEASUREMENTS that are fetched in a session are as pending after a request that is refused there.
use Rattle.std.proofs.Common.{◌≡◌, ◌+◌, ◌||◌, ℕ, List, ◌∷◌, refl, ap, ◌∙◌, Bool, true, false, Option, Some, None, is_none, is_some, cond}
use Rattle.std.specs.Prelude.{not}
use Rattle.std.proofs.lemmas.Bool.{false≢true}
use Rattle.check_fetched_laws.specs.JudgedFor.{IsMeasured, session_with}
use Rattle.responder_rules.specs.LargeAnswer.{last_takes}
use Rattle.responder_machine.specs.History.{History}
use Rattle.responder_machine.specs.LargeMessages.{given_of, large_of, still_pending}
use Rattle.responder_machine.specs.Place.{session_place}
use Rattle.responder_machine.specs.Refusal.{has_pending}
use Rattle.responder_machine.specs.Session.{Events, session_terms, turns_of}
use Rattle.responder_machine.specs.Session.Event.{Heard}
use Rattle.responder_machine.specs.Turn.{Turn, is_taken, large_in, takes}
use Rattle.spdm_grammar.specs.declared.messages.error_code.ErrorCode.{ErrorCode}
use Rattle.spdm_grammar.specs.declared.names.request_code.TheConstants.{CHUNK_GET, GET_MEASUREMENTS}
use Rattle.capture_machine.proofs.ChunksGiven.{large_idle}

-- A session as it was, or with one more record, whose request was refused.
pub data StaysIn (s u : Events) : Type 0 where
  Same : u ≡ s → StaysIn s u
  More : (m : List ℕ) → (t : Turn) → (reply : List ℕ) → is_some t.refused ≡ true → u ≡ Heard m t reply ∷ s → StaysIn s u

not_taken : (o : Option ErrorCode) → is_some o ≡ true → is_none o ≡ false
not_taken None is = absurd (false≢true is)
not_taken (Some code) is = refl

module _ (m : List ℕ) (t : Turn) (reply : List ℕ) (s : Events) (refused : is_some t.refused ≡ true) where
  untaken : is_taken t ≡ false
  untaken = not_taken t.refused refused

  large_more : large_of (turns_of (Heard m t reply ∷ s)) ≡ large_of (turns_of s)
  large_more = large_idle t (turns_of s) untaken

  last_more : last_takes GET_MEASUREMENTS (turns_of (Heard m t reply ∷ s)) ≡ last_takes GET_MEASUREMENTS (turns_of s)
  last_more = ap (λ (b : Bool). cond (not b || takes CHUNK_GET t) (last_takes GET_MEASUREMENTS (turns_of s)) (takes GET_MEASUREMENTS t)) untaken

  pending_more : has_pending (session_place (Heard m t reply ∷ s)) ≡ has_pending (session_place s)
  pending_more =
      ap (λ (b : Bool). is_some (still_pending (session_terms s).common.to_requester.transfer (cond (not b) (given_of (turns_of s)) (cond (takes CHUNK_GET t) (given_of (turns_of s) + 1) 0)) (cond (not b || takes CHUNK_GET t) (large_of (turns_of s)) (large_in t.effect)))) untaken

pub measured_stays : (id : ℕ) (h k : History) (v : List ℕ) → StaysIn (session_with id h v) (session_with id k v) → IsMeasured id h v → IsMeasured id k v
measured_stays id h k v (Same same) is = record {
  large = ap (λ (u : Events). large_of (turns_of u)) same ∙ is.large;
  more = ap (λ (u : Events). has_pending (session_place u)) same ∙ is.more;
  measured = ap (λ (u : Events). last_takes GET_MEASUREMENTS (turns_of u)) same ∙ is.measured;
}
measured_stays id h k v (More m t reply refused same) is =
    let s : Events = session_with id h v in record {
      large = ap (λ (u : Events). large_of (turns_of u)) same ∙ large_more m t reply s refused ∙ is.large;
      more = ap (λ (u : Events). has_pending (session_place u)) same ∙ pending_more m t reply s refused ∙ is.more;
      measured = ap (λ (u : Events). last_takes GET_MEASUREMENTS (turns_of u)) same ∙ last_more m t reply s refused ∙ is.measured;
    }
