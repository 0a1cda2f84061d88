-- After one more CHUNK_GET of its session a large response is still the last one there, and as much is pending,
-- whatever its bytes.
use Rattle.std.proofs.Common.{◌≡◌, ◌==◌, ◌∙◌, ◌+◌, ◌||◌, ℕ, List, [], ◌∷◌, refl, sym, ap, Bool, true, false, Option, Some, None, is_some, cond, length, eqb-true}
use Rattle.std.specs.Int.{div_ceil}
use Rattle.std.specs.Prelude.{nat_lt, not}
use Rattle.std.proofs.Math.Bool.{or-true}
use Rattle.std.proofs.lemmas.Bool.{false≢true}
use Rattle.std.proofs.lemmas.Option.{none-some}
use Rattle.chunking.specs.Cutting.{chunk_count, unit_of}
use Rattle.negotiate.specs.declared.shared.Common.{Common}
use Rattle.responder_rules.specs.LargeAnswer.{last_takes}
use Rattle.responder_machine.specs.History.{Entry, History}
use Rattle.responder_machine.specs.History.Entry.{Clear, Sealed, Queued, Ticked, Dropped}
use Rattle.responder_machine.specs.LargeMessages.{given_of, large_of, still_pending}
use Rattle.responder_machine.specs.Place.{session_place}
use Rattle.responder_machine.specs.Refusal.{has_pending}
use Rattle.responder_machine.specs.Session.{Events, after_record, id_in_record, session_of, session_terms, turns_of, when_live}
use Rattle.responder_machine.specs.Session.Event.{Heard}
use Rattle.responder_machine.specs.Turn.{Turn, code_in, is_taken, large_in, takes}
use Rattle.spdm_grammar.specs.declared.names.request_code.TheConstants.{CHUNK_GET, END_SESSION, GET_MEASUREMENTS}
use Rattle.spdm_machine.specs.Keys.{Draw}
use Rattle.capture_machine.specs.LargeAnswers.{is_in, takes_get}

-- These bytes answer GET_MEASUREMENTS in a session, and no other request was taken there since, but for CHUNK_GET.
pub record IsMeasuredLast (id : ℕ) (g : History) (v : List ℕ) : Type 0 where
  pub large : large_of (turns_of (session_of id g)) ≡ Some v
  pub measured : last_takes GET_MEASUREMENTS (turns_of (session_of id g)) ≡ true

get_ends_none : (t : Turn) → takes CHUNK_GET t ≡ true → takes END_SESSION t ≡ false
get_ends_none t gets = ap (λ (n : ℕ). n == END_SESSION) (eqb-true (code_in t.effect) CHUNK_GET gets)

live_as : (s : Events) (m : List ℕ) (t : Turn) (reply v : List ℕ) → large_of (turns_of s) ≡ Some v → when_live s (Heard m t reply) ≡ Heard m t reply ∷ s
live_as [] m t reply v large = absurd (none-some v large)
live_as (x ∷ s) m t reply v large = refl

session_more : (id tag : ℕ) (m : List ℕ) (t : Turn) (reply : List ℕ) (d : Draw) (g : History) (v : List ℕ) → (id_in_record m == id) ≡ true → takes CHUNK_GET t ≡ true → large_of (turns_of (session_of id g)) ≡ Some v
    → session_of id (Sealed tag m t reply d ∷ g) ≡ Heard m t reply ∷ session_of id g
unfolding session_of
session_more id tag m t reply d g v own gets large =
    ap (λ (b : Bool). cond b (after_record (session_of id g) m t reply) (session_of id g)) own
    ∙ ap (λ (b : Bool). cond b [] (when_live (session_of id g) (Heard m t reply))) (get_ends_none t gets)
    ∙ live_as (session_of id g) m t reply v large

passed_is : (t : Turn) → takes CHUNK_GET t ≡ true → (not (is_taken t) || takes CHUNK_GET t) ≡ true
passed_is t gets = ap (λ (b : Bool). not (is_taken t) || b) gets ∙ or-true (not (is_taken t))

pub measured_more : (id : ℕ) (e : Entry) (g : History) (v : List ℕ) → is_in (Some id) e ≡ true → takes_get e ≡ true → IsMeasuredLast id g v → IsMeasuredLast id (e ∷ g) v
measured_more id (Sealed tag m t reply d) g v own gets is =
    let more = session_more id tag m t reply d g v own gets is.large in
    let passes = passed_is t gets in record {
      large = ap (λ (s : Events). large_of (turns_of s)) more ∙ ap (λ (b : Bool). cond b (large_of (turns_of (session_of id g))) (large_in t.effect)) passes ∙ is.large;
      measured = ap (λ (s : Events). last_takes GET_MEASUREMENTS (turns_of s)) more ∙ ap (λ (b : Bool). cond b (last_takes GET_MEASUREMENTS (turns_of (session_of id g))) (takes GET_MEASUREMENTS t)) passes ∙ is.measured;
    }
measured_more id (Clear tag t d) g v own gets is = absurd (false≢true own)
measured_more id (Queued bytes) g v own gets is = absurd (false≢true own)
measured_more id (Ticked seconds) g v own gets is = absurd (false≢true own)
measured_more id (Dropped which) g v own gets is = absurd (false≢true own)

-- ---- What is pending.

some_by : (b : Bool) (v : List ℕ) → is_some (cond b (Some v) None) ≡ b
some_by true v = refl
some_by false v = refl

pub pends : (s : Events) (v : List ℕ) → large_of (turns_of s) ≡ Some v → has_pending (session_place s) ≡ nat_lt (given_of (turns_of s)) (chunk_count (session_terms s).common.to_requester.transfer v)
pends s v large =
    ap (λ (o : Option (List ℕ)). is_some (still_pending (session_terms s).common.to_requester.transfer (given_of (turns_of s)) o)) large
    ∙ some_by (nat_lt (given_of (turns_of s)) (chunk_count (session_terms s).common.to_requester.transfer v)) v

module _ (id : ℕ) (g k : History) (v u : List ℕ) (one : IsMeasuredLast id g v) (two : IsMeasuredLast id k u) (long : length u ≡ length v)
    (given : given_of (turns_of (session_of id k)) ≡ given_of (turns_of (session_of id g))) (common : (session_terms (session_of id k)).common ≡ (session_terms (session_of id g)).common) where
  pub pending_more : (e : Entry) → is_in (Some id) e ≡ true → takes_get e ≡ true → has_pending (session_place (session_of id (e ∷ k))) ≡ has_pending (session_place (session_of id (e ∷ g)))
  pending_more (Sealed tag m t reply d) own gets =
      let s : Events = session_of id g in
      let r : Events = session_of id k in
      let passes = passed_is t gets in
      let first : large_of (t ∷ turns_of s) ≡ Some v = ap (λ (b : Bool). cond b (large_of (turns_of s)) (large_in t.effect)) passes ∙ one.large in
      let second : large_of (t ∷ turns_of r) ≡ Some u = ap (λ (b : Bool). cond b (large_of (turns_of r)) (large_in t.effect)) passes ∙ two.large in
      ap (λ (x : Events). has_pending (session_place x)) (session_more id tag m t reply d k u own gets two.large)
      ∙ pends (Heard m t reply ∷ r) u second
      ∙ ap (λ (n : ℕ). nat_lt (cond (not (is_taken t)) n (cond (takes CHUNK_GET t) (n + 1) 0)) (chunk_count (session_terms r).common.to_requester.transfer u)) given
      ∙ ap (λ (c : Common). nat_lt (given_of (t ∷ turns_of s)) (chunk_count c.to_requester.transfer u)) common
      ∙ ap (λ (n : ℕ). nat_lt (given_of (t ∷ turns_of s)) (div_ceil (n + 4) (unit_of (session_terms s).common.to_requester.transfer))) long
      ∙ sym (pends (Heard m t reply ∷ s) v first)
      ∙ sym (ap (λ (x : Events). has_pending (session_place x)) (session_more id tag m t reply d g v own gets one.large))
  pending_more (Clear tag t d) own gets = absurd (false≢true own)
  pending_more (Queued bytes) own gets = absurd (false≢true own)
  pending_more (Ticked seconds) own gets = absurd (false≢true own)
  pending_more (Dropped which) own gets = absurd (false≢true own)
