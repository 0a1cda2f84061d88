-- What any responder of this profile may do: the same outcome, at any values that are left free. The limits of this
-- profile are this project's own.
use Rattle.std.specs.Prelude.{◌≡◌, ◌≢◌, ◌≤◌, ◌<◌, ◌==◌, ℕ, List, [], ◌∷◌, length, drop, slice_index, if◌then◌else◌, true, false}
use Rattle.responder_machine.specs.Answer.{Free}
use Rattle.responder_machine.specs.History.{History}
use Rattle.responder_machine.specs.History.Entry.{Dropped}
use Rattle.spdm_machine.specs.Keys.{Draw}
use Rattle.responder_machine.specs.Place.{Place, place_terms, is_held, held_of, clear_place, session_place}
use Rattle.responder_machine.specs.Responder.{Outcome, on_clear, on_record}
use Rattle.responder_machine.specs.Session.{session_of, id_in_record, is_live, is_timed}
use Rattle.responder_machine.specs.Setup.{RspSetup}
use Rattle.spdm_machine.specs.Terms.{hash_len}
use Rattle.spdm_grammar.specs.declared.names.TheConstants.{MAX_APP_DATA_LEN, MAX_OPAQUE_LEN, MAX_PADDING, MAX_SESSIONS}
use Rattle.spdm_grammar.specs.declared.names.message_type.TheConstants.{SPDM}

-- The values that a responder may choose at a place: an id from 1 to 4 that no established session has, where one is
-- left (beside four of them no exchange is answered, whatever id its answer would have); a context of at least the
-- length of the hash; a nonce of 32 bytes; opaque data of at most 1,024; a handle of one byte; application data of at
-- most 1,024 bytes; and padding of at most 16.
pub record IsAllowed (h : History) (p : Place) (f : Free) : Type 0 where
  pub least : 1 ≤ f.id
  pub most : f.id ≤ MAX_SESSIONS
  pub unused : held_of h ≢ 4 → is_held h f.id ≡ false
  pub context : hash_len (place_terms p) ≤ length f.context
  pub exchange_opaque : length f.exchange_opaque ≤ MAX_OPAQUE_LEN
  pub nonce : length f.nonce ≡ 32
  pub measured_opaque : length f.measured_opaque ≤ MAX_OPAQUE_LEN
  pub handle : f.handle < 256
  pub reply : length f.reply ≤ MAX_APP_DATA_LEN
  pub pad : length f.pad ≤ MAX_PADDING

-- Sessions that may have been dropped without a trace just before a message: each is timed.
abbrev pub MayDrop : History → List ℕ → Type 0
MayDrop h [] = Unit {0}
MayDrop h (id ∷ ids) = (is_live (session_of id h) ≡ true) × (is_timed (session_of id h) ≡ true) × MayDrop (Dropped id ∷ h) ids

-- The history after the sessions of these ids were dropped without a trace, one after another.
abbrev pub with_dropped : History → List ℕ → History
with_dropped h [] = h
with_dropped h (id ∷ ids) = with_dropped (Dropped id ∷ h) ids

-- A body of type 5 or 6 comes to the clear part, or to the session that its record names.
abbrev pub place_for : History → List ℕ → Place
place_for h body =
    if slice_index body 0 == SPDM then clear_place h
    else session_place (session_of (id_in_record (drop 1 body)) h)

-- What it leads to under some values.
abbrev pub on_body : RspSetup → History → ℕ → List ℕ → Free → Draw → Outcome
on_body r h tag body f d =
    if slice_index body 0 == SPDM then on_clear r h tag (drop 1 body) f d
    else on_record r h tag (drop 1 body) f d

-- It may lead to an outcome, under some allowed values.
abbrev pub BodyMay : RspSetup → History → ℕ → List ℕ → Draw → Outcome → Type 0
BodyMay r h tag body d outcome = (f : Free) × IsAllowed h (place_for h body) f × (on_body r h tag body f d ≡ outcome)

-- The same, after sessions were dropped without a trace.
abbrev pub ResponderMay : RspSetup → History → (dropped : List ℕ) → ℕ → List ℕ → Draw → Outcome → Type 0
ResponderMay r h dropped tag body d outcome = MayDrop h dropped × BodyMay r (with_dropped h dropped) tag body d outcome
