-- What holds of each entry of a walk: a clear message that was not taken had no effect, and a request whose large
-- response was not seen was taken, and is neither CHUNK_GET nor PSK_FINISH.
use Rattle.std.proofs.Common.{◌≡◌, ◌==◌, ◌&&◌, ℕ, List, [], ◌∷◌, refl, sym, ap, ◌∙◌, subst, Bool, true, false, Option, Some, None, cond}
use Rattle.std.specs.Prelude.{MatchBool}
use Rattle.std.proofs.Math.Bool.{and-false}
use Rattle.std.proofs.lemmas.Bool.{false≢true}
use Rattle.spdm_grammar.specs.declared.names.request_code.TheConstants.{CHUNK_GET, GET_VERSION, PSK_EXCHANGE, PSK_FINISH}
use Rattle.responder_machine.specs.History.{History, Entry}
use Rattle.responder_machine.specs.History.Entry.{Clear, Sealed, Queued, Ticked, Dropped}
use Rattle.responder_machine.specs.May.{with_dropped}
use Rattle.responder_machine.specs.Turn.{Turn, Effect, code_in, is_taken, takes}
use Rattle.responder_machine.specs.Turn.Effect.{NoEffect, Took, TookData}
use Rattle.capture_machine.specs.LargeAnswers.{is_unseen, is_unseen_effect, is_in, is_unseen_in, seen, with_large, dropped_before_large, repeats_large, handle_shown, turn_with, effect_with}
use Rattle.capture_machine.proofs.GetTells.{IsIdle}

-- A turn with a large response.
pub record GoesLarge (t : Turn) : Type 0 where
  pub taken : is_taken t ≡ true
  pub other : takes CHUNK_GET t ≡ false

-- What holds of an entry. In a capture nothing is queued, and no time passes.
abbrev pub StandsUnseen : Entry → Type 0
StandsUnseen (Clear tag t d) = IsIdle t × (is_unseen_effect t.effect ≡ true → GoesLarge t)
StandsUnseen (Sealed tag m t reply d) = is_unseen_effect t.effect ≡ true → (takes PSK_FINISH t ≡ false) × GoesLarge t
StandsUnseen (Dropped id) = Unit {0}
StandsUnseen _ = ⊥

-- Each one of the history.
abbrev pub UnseenStand : History → Type 0
UnseenStand [] = Unit {0}
UnseenStand (e ∷ h) = StandsUnseen e × UnseenStand h

-- ---- What leaves it so.

pub dropped_stand : (ids : List ℕ) (h : History) → UnseenStand h → UnseenStand (with_dropped h ids)
dropped_stand [] h stand = stand
dropped_stand (id ∷ ids) h stand = dropped_stand ids (Dropped id ∷ h) (tt, stand)

pub old_in : (place : Option ℕ) (e : Entry) → is_unseen e ≡ false → is_unseen_in place e ≡ false
old_in place e is = ap (λ (b : Bool). is_in place e && b) is ∙ and-false (is_in place e)

effect_seen : (w : List ℕ) (k : ℕ) (x : Effect) → is_unseen_effect (effect_with w (Some k) x) ≡ false
effect_seen w k NoEffect = refl
effect_seen [] k (Took a m old large) = refl
effect_seen (b ∷ w) k (Took a m old large) = refl
effect_seen w k (TookData bytes old) = refl

-- With its bytes it was seen.
pub given_seen : (w : List ℕ) (e : Entry) → is_unseen (seen w e) ≡ false
given_seen w (Clear tag t d) = effect_seen w (handle_shown t) t.effect
given_seen w (Sealed tag m t reply d) = effect_seen w (handle_shown t) t.effect
given_seen w (Queued bytes) = refl
given_seen w (Ticked seconds) = refl
given_seen w (Dropped id) = refl

pub with_idle : (w : List ℕ) (large : Option ℕ) (t : Turn) → IsIdle t → IsIdle (turn_with w large t)
with_idle w large t idle = λ none. ap (effect_with w large) (idle none)

given_entry : (w : List ℕ) (e : Entry) → StandsUnseen e → StandsUnseen (seen w e)
given_entry w (Clear tag t d) stands = (with_idle w (Some (handle_shown t)) t stands.0, λ un. absurd (false≢true (sym (effect_seen w (handle_shown t) t.effect) ∙ un)))
given_entry w (Sealed tag m t reply d) stands = λ un. absurd (false≢true (sym (effect_seen w (handle_shown t) t.effect) ∙ un))
given_entry w (Queued bytes) stands = absurd stands
given_entry w (Ticked seconds) stands = absurd stands
given_entry w (Dropped id) stands = tt

given_by : (place : Option ℕ) (w : List ℕ) (e : Entry) (h : History) (b : Bool) → StandsUnseen e → UnseenStand h → UnseenStand (with_large place w h) → UnseenStand (cond b (seen w e ∷ h) (e ∷ with_large place w h))
given_by place w e h true one stand given = (given_entry w e one, stand)
given_by place w e h false one stand given = (one, given)

pub given_stand : (place : Option ℕ) (w : List ℕ) (h : History) → UnseenStand h → UnseenStand (with_large place w h)
given_stand place w [] stand = tt
given_stand place w (e ∷ h) stand = given_by place w e h (is_unseen_in place e) stand.0 stand.1 (given_stand place w h stand.1)

before_by : (place : Option ℕ) (ids : List ℕ) (e : Entry) (h : History) (b : Bool) → StandsUnseen e → UnseenStand h → UnseenStand (dropped_before_large place ids h)
    → UnseenStand (cond b (e ∷ with_dropped h ids) (e ∷ dropped_before_large place ids h))
before_by place ids e h true one stand before = (one, dropped_stand ids h stand)
before_by place ids e h false one stand before = (one, before)

pub before_stand : (place : Option ℕ) (ids : List ℕ) (h : History) → UnseenStand h → UnseenStand (dropped_before_large place ids h)
before_stand place ids [] stand = tt
before_stand place ids (e ∷ h) stand = before_by place ids e h (is_unseen_in place e) stand.0 stand.1 (before_stand place ids h stand.1)

-- ---- In the clear, since the newest request whose large answer was not seen.

-- Neither GET_VERSION nor PSK_EXCHANGE took effect with the entry in the clear.
abbrev pub IsQuiet : Entry → Type 0
IsQuiet (Clear tag t d) = (takes GET_VERSION t ≡ false) × (takes PSK_EXCHANGE t ≡ false)
IsQuiet (Sealed tag m t reply d) = Unit {0}
IsQuiet (Dropped id) = Unit {0}
IsQuiet _ = ⊥

-- There are none but such entries since then.
abbrev pub IsClearSince : History → Type 0
IsClearSince [] = ⊥
IsClearSince (e ∷ h) = MatchBool (is_unseen_in None e) (Unit {0}) (IsQuiet e × IsClearSince h)

pub quiet_since : (e : Entry) (h : History) → is_unseen_in None e ≡ false → IsQuiet e → IsClearSince h → IsClearSince (e ∷ h)
quiet_since e h old quiet since = subst (λ (b : Bool). MatchBool b (Unit {0}) (IsQuiet e × IsClearSince h)) (sym old) (quiet, since)

idle_quiet : (t : Turn) → t.effect ≡ NoEffect → (takes GET_VERSION t ≡ false) × (takes PSK_EXCHANGE t ≡ false)
idle_quiet t none = (ap (λ (x : Effect). code_in x == GET_VERSION) none, ap (λ (x : Effect). code_in x == PSK_EXCHANGE) none)

-- A clear message that is no repeat, and after which a repeat gets LargeResponse, was not taken.
clear_since : (t : Turn) (h : History) (b c : Bool) → is_unseen_effect t.effect ≡ b → is_taken t ≡ c → IsIdle t → cond c b (repeats_large None h) ≡ true → (repeats_large None h ≡ true → IsClearSince h)
    → MatchBool b (Unit {0}) (((takes GET_VERSION t ≡ false) × (takes PSK_EXCHANGE t ≡ false)) × IsClearSince h)
clear_since t h true c un taken idle is rest = tt
clear_since t h false true un taken idle is rest = absurd (false≢true is)
clear_since t h false false un taken idle is rest = (idle_quiet t (idle taken), rest is)

-- So it is where a repeat in the clear gets LargeResponse.
pub since_from : (h : History) → UnseenStand h → repeats_large None h ≡ true → IsClearSince h
since_from [] stand is = absurd (false≢true is)
since_from (Clear tag t d ∷ h) stand is =
    clear_since t h (is_unseen_effect t.effect) (is_taken t) refl refl stand.0.0 is (since_from h stand.1)
since_from (Sealed tag m t reply d ∷ h) stand is = (tt, since_from h stand.1 is)
since_from (Queued bytes ∷ h) stand is = absurd stand.0
since_from (Ticked seconds ∷ h) stand is = absurd stand.0
since_from (Dropped id ∷ h) stand is = (tt, since_from h stand.1 is)
