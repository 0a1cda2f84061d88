-- What stands in the clear after a request whose large response passed unseen, and that its request and its drops are
-- those of the fetch.
use Rattle.std.proofs.Common.{◌≡◌, ◌==◌, ◌&&◌, ◌⊎◌, ◌++◌, ◌∙◌, ℕ, List, [], ◌∷◌, refl, sym, ap, subst, Bool, true, false, Option, Some, None, cond, inl, inr}
use Rattle.std.specs.Prelude.{MatchBool, not}
use Rattle.check_late_laws.specs.Late.Passed.{AreBehind, StandsBack}
use Rattle.check_late_laws.specs.Late.PassedLast.{AreSince, LastStaysBack}
use Rattle.responder_machine.specs.History.{Entry, History, clear_turns, negotiation_of, phase_of}
use Rattle.responder_machine.specs.History.Entry.{Clear, Sealed, Queued, Ticked, Dropped}
use Rattle.responder_machine.specs.May.{with_dropped}
use Rattle.responder_machine.specs.Setup.{RspSetup}
use Rattle.responder_machine.specs.Turn.{Effect, Turn, answer_in, code_in, is_taken, request_in}
use Rattle.responder_machine.specs.Turn.Effect.{NoEffect, Took, TookData}
use Rattle.spdm_grammar.specs.declared.names.request_code.TheConstants.{GET_CAPABILITIES, GET_MEASUREMENTS, GET_VERSION, NEGOTIATE_ALGORITHMS, PSK_EXCHANGE}
use Rattle.spdm_grammar.specs.declared.told.phase.Phase.{Phase}
use Rattle.spdm_grammar.specs.declared.told.phase.Phase.TheVariants.{Versioned, Capable, Negotiated}
use Rattle.spdm_machine.specs.Keys.{Draw}
use Rattle.spdm_machine.specs.Terms.{no_negotiation}
use Rattle.transcript.specs.Transcripts.{Negotiation}
use Rattle.capture_machine.proofs.DropsTell.{turns_stay}
use Rattle.capture_machine.specs.CapturedAnswers.{MayHaveLed, MayLeadToEntry}
use Rattle.capture_machine.specs.LargeAnswers.{begun_with, dropped_before_large, effect_with, id_begun, is_unseen_effect, is_unseen_in, is_untouched, seen, touches, with_large}

-- ---- Entries that the newest unseen answer stands behind.

abbrev pub AreSeen : List Entry → Type 0
AreSeen [] = Unit {0}
AreSeen (e ∷ es) = (is_unseen_in None e ≡ false) × AreSeen es

pub behind_seen : (es : List Entry) → AreBehind es → AreSeen es
behind_seen [] are = tt
behind_seen (Clear tag t d ∷ es) are = (ap is_unseen_effect are.0.1, behind_seen es are.1)
behind_seen (Sealed tag m t reply d ∷ es) are = (refl, behind_seen es are.1)
behind_seen (Queued bytes ∷ es) are = absurd are.0
behind_seen (Ticked seconds ∷ es) are = absurd are.0
behind_seen (Dropped id ∷ es) are = (refl, behind_seen es are.1)

pub since_seen : (es : List Entry) → AreSince es → AreSeen es
since_seen [] are = tt
since_seen (Clear tag t d ∷ es) are = (are.0, since_seen es are.1)
since_seen (Sealed tag m t reply d ∷ es) are = absurd are.0
since_seen (Queued bytes ∷ es) are = absurd are.0
since_seen (Ticked seconds ∷ es) are = absurd are.0
since_seen (Dropped id ∷ es) are = absurd are.0

module _ (w ids : List ℕ) where
  pub large_behind : (es : List Entry) (h : History) → AreSeen es → with_large None w (es ++ h) ≡ es ++ with_large None w h
  large_behind [] h are = refl
  large_behind (e ∷ es) h are =
      ap (λ (b : Bool). cond b (seen w e ∷ es ++ h) (e ∷ with_large None w (es ++ h))) are.0 ∙ ap (λ (l : History). e ∷ l) (large_behind es h are.1)

  pub dropped_behind : (es : List Entry) (h : History) → AreSeen es → dropped_before_large None ids (es ++ h) ≡ es ++ dropped_before_large None ids h
  dropped_behind [] h are = refl
  dropped_behind (e ∷ es) h are =
      ap (λ (b : Bool). cond b (e ∷ with_dropped (es ++ h) ids) (e ∷ dropped_before_large None ids (es ++ h))) are.0 ∙ ap (λ (l : History). e ∷ l) (dropped_behind es h are.1)

  pub begun_behind : (es : List Entry) (h : History) → AreSeen es → begun_with None w (es ++ h) ≡ begun_with None w h
  begun_behind [] h are = refl
  begun_behind (e ∷ es) h are = ap (λ (b : Bool). cond b (id_begun (seen w e)) (begun_with None w (es ++ h))) are.0 ∙ begun_behind es h are.1

  module _ (r : RspSetup) where
    pub led_behind : (es : List Entry) (h : History) → AreSeen es → MayHaveLed r None w ids (es ++ h) → MayHaveLed r None w ids h
    led_behind [] h are led = led
    led_behind (e ∷ es) h are led = led_behind es h are.1 (subst (λ (b : Bool). MatchBool b (MayLeadToEntry r ids (es ++ h) (seen w e)) (MayHaveLed r None w ids (es ++ h))) are.0 led)

    pub led_back : (es : List Entry) (h : History) → AreSeen es → MayHaveLed r None w ids h → MayHaveLed r None w ids (es ++ h)
    led_back [] h are led = led
    led_back (e ∷ es) h are led =
        subst (λ (b : Bool). MatchBool b (MayLeadToEntry r ids (es ++ h) (seen w e)) (MayHaveLed r None w ids (es ++ h))) (sym are.0) (led_back es h are.1 led)

-- ---- The request itself.

pub drops_stay : (es : List Entry) (tag : ℕ) (t : Turn) (d : Draw) (before : History) (w ids : List ℕ) → AreSeen es → is_unseen_effect t.effect ≡ true
    → with_large None w (dropped_before_large None ids (es ++ Clear tag t d ∷ before)) ≡ es ++ seen w (Clear tag t d) ∷ with_dropped before ids
drops_stay es tag t d before w ids are un =
    ap (with_large None w) (dropped_behind w ids es (Clear tag t d ∷ before) are)
    ∙ large_behind w ids es (dropped_before_large None ids (Clear tag t d ∷ before)) are
    ∙ ap (λ (b : Bool). es ++ with_large None w (cond b (Clear tag t d ∷ with_dropped before ids) (Clear tag t d ∷ dropped_before_large None ids before))) un
    ∙ ap (λ (b : Bool). es ++ cond b (seen w (Clear tag t d) ∷ with_dropped before ids) (Clear tag t d ∷ with_large None w (with_dropped before ids))) un

pub last_stays_back : LastStaysBack
last_stays_back since h s whole dropped are =
    ap (with_large None whole) (dropped_behind whole dropped since h (since_seen since are))
    ∙ large_behind whole dropped since (dropped_before_large None dropped h) (since_seen since are)
    ∙ ap (λ (l : History). since ++ with_large None whole (dropped_before_large None dropped l)) s.is
    ∙ ap (λ (l : History). since ++ l) (drops_stay s.behind s.tag s.turn s.draw s.before whole dropped (behind_seen s.behind s.are) s.passed.unseen)

-- With its bytes it is the same request.
pub code_with : (w : List ℕ) (large : Option ℕ) (e : Effect) → code_in (effect_with w large e) ≡ code_in e
code_with w large NoEffect = refl
code_with w large (Took a m old handle) = refl
code_with w large (TookData bytes old) = refl

-- ---- Whether the session that it begins was touched.

touches_none : (o : Option ℕ) (tag : ℕ) (t : Turn) (d : Draw) → touches o (Clear tag t d) ≡ false
touches_none None tag t d = refl
touches_none (Some id) tag t d = refl

module _ (o : Option ℕ) where
  step_since : (tag : ℕ) (t : Turn) (d : Draw) (h : History) → is_unseen_effect t.effect ≡ false → is_untouched None o (Clear tag t d ∷ h) ≡ is_untouched None o h
  step_since tag t d h un =
      ap (λ (b : Bool). cond b true (not (touches o (Clear tag t d)) && is_untouched None o h)) un ∙ ap (λ (b : Bool). not b && is_untouched None o h) (touches_none o tag t d)

  pub untouched_since : (es : List Entry) (h : History) → AreSince es → is_untouched None o (es ++ h) ≡ is_untouched None o h
  untouched_since [] h are = refl
  untouched_since (Clear tag t d ∷ es) h are = step_since tag t d (es ++ h) are.0 ∙ untouched_since es h are.1
  untouched_since (Sealed tag m t reply d ∷ es) h are = absurd are.0
  untouched_since (Queued bytes ∷ es) h are = absurd are.0
  untouched_since (Ticked seconds ∷ es) h are = absurd are.0
  untouched_since (Dropped id ∷ es) h are = absurd are.0

pub none_untouched : (h : History) → is_untouched None None h ≡ true
none_untouched [] = refl
none_untouched (e ∷ h) = by_unseen (is_unseen_in None e) (none_untouched h)
  where
    by_unseen : (b : Bool) → is_untouched None None h ≡ true → cond b true (not (touches None e) && is_untouched None None h) ≡ true
    by_unseen true rest = refl
    by_unseen false rest = rest

-- ---- The clear part.

-- What an idle turn leaves is the same after all of them.
pub behind_same : {A : Type 0} (F : List Turn → A) → ((u : Turn) (ts : List Turn) → is_taken u ≡ false → u.effect ≡ NoEffect → F (u ∷ ts) ≡ F ts) → (es : List Entry) (h : History) → AreBehind es
    → F (clear_turns (es ++ h)) ≡ F (clear_turns h)
behind_same F idle [] h are = refl
behind_same F idle (Clear tag t d ∷ es) h are = idle t (clear_turns (es ++ h)) are.0.0 are.0.1 ∙ behind_same F idle es h are.1
behind_same F idle (Sealed tag m t reply d ∷ es) h are = behind_same F idle es h are.1
behind_same F idle (Queued bytes ∷ es) h are = absurd are.0
behind_same F idle (Ticked seconds ∷ es) h are = absurd are.0
behind_same F idle (Dropped id ∷ es) h are = behind_same F idle es h are.1

-- A request of one of the two codes.
abbrev pub IsFreeCode : ℕ → Type 0
IsFreeCode n = (n ≡ GET_MEASUREMENTS) ⊎ (n ≡ PSK_EXCHANGE)

abbrev phase_at : List Turn → ℕ → Phase
phase_at ts n = cond (n == GET_VERSION) Versioned (cond (n == GET_CAPABILITIES) Capable (cond (n == NEGOTIATE_ALGORITHMS) Negotiated (phase_of ts)))

pub phase_free : (u : Turn) (ts : List Turn) → IsFreeCode (code_in u.effect) → phase_of (u ∷ ts) ≡ phase_of ts
phase_free u ts free = elim free [
  | inl is ↦ ap (phase_at ts) is
  | inr is ↦ ap (phase_at ts) is
]

phase_idle : (u : Turn) (ts : List Turn) → is_taken u ≡ false → u.effect ≡ NoEffect → phase_of (u ∷ ts) ≡ phase_of ts
phase_idle u ts not_taken none = ap (phase_at ts) (ap code_in none)

abbrev terms_at : Turn → List Turn → ℕ → Negotiation
terms_at u ts n =
    cond (n == GET_VERSION) (record no_negotiation { get_version = request_in u.effect; version = answer_in u.effect })
    (cond (n == GET_CAPABILITIES) (record (negotiation_of ts) { get_capabilities = request_in u.effect; capabilities = answer_in u.effect })
    (cond (n == NEGOTIATE_ALGORITHMS) (record (negotiation_of ts) { negotiate_algorithms = request_in u.effect; algorithms = answer_in u.effect }) (negotiation_of ts)))

pub terms_free : (u : Turn) (ts : List Turn) → IsFreeCode (code_in u.effect) → negotiation_of (u ∷ ts) ≡ negotiation_of ts
terms_free u ts free = elim free [
  | inl is ↦ ap (terms_at u ts) is
  | inr is ↦ ap (terms_at u ts) is
]

terms_idle : (u : Turn) (ts : List Turn) → is_taken u ≡ false → u.effect ≡ NoEffect → negotiation_of (u ∷ ts) ≡ negotiation_of ts
terms_idle u ts not_taken none = ap (terms_at u ts) (ap code_in none)

-- Both are those from before the request.
module _ (h : History) (s : StandsBack h) (free : IsFreeCode (code_in s.turn.effect)) where
  pub phase_before : phase_of (clear_turns h) ≡ phase_of (clear_turns s.before)
  phase_before =
      ap (λ (l : History). phase_of (clear_turns l)) s.is ∙ behind_same phase_of phase_idle s.behind (Clear s.tag s.turn s.draw ∷ s.before) s.are ∙ phase_free s.turn (clear_turns s.before) free

  pub terms_before : negotiation_of (clear_turns h) ≡ negotiation_of (clear_turns s.before)
  terms_before =
      ap (λ (l : History). negotiation_of (clear_turns l)) s.is ∙ behind_same negotiation_of terms_idle s.behind (Clear s.tag s.turn s.draw ∷ s.before) s.are
      ∙ terms_free s.turn (clear_turns s.before) free

  pub phase_drops : (ids : List ℕ) → phase_of (clear_turns (with_dropped h ids)) ≡ phase_of (clear_turns (with_dropped s.before ids))
  phase_drops ids = ap phase_of (turns_stay ids h) ∙ phase_before ∙ sym (ap phase_of (turns_stay ids s.before))

  pub terms_drops : (ids : List ℕ) → negotiation_of (clear_turns (with_dropped h ids)) ≡ negotiation_of (clear_turns (with_dropped s.before ids))
  terms_drops ids = ap negotiation_of (turns_stay ids h) ∙ terms_before ∙ sym (ap negotiation_of (turns_stay ids s.before))
