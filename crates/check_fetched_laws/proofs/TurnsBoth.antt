-- Turns that differ in the bytes of one large response at most: what CHUNK_GET goes by is the same.
use Rattle.std.proofs.Common.{◌≡◌, ◌+◌, ℕ, List, [], ◌∷◌, refl, sym, ap, ◌∙◌, Bool, true, false, Option, Some, None, cond}
use Rattle.std.specs.Prelude.{not, unwrap_or}
use Rattle.std.proofs.lemmas.Bool.{false≢true}
use Rattle.responder_machine.specs.History.{Entry, History, clear_turns, negotiation_of, phase_of}
use Rattle.responder_machine.specs.History.Entry.{Clear, Sealed, Queued, Ticked, Dropped}
use Rattle.responder_machine.specs.LargeMessages.{given_of, handle_of}
use Rattle.responder_machine.specs.Session.{Events, turns_of}
use Rattle.responder_machine.specs.Session.Event.{Began, Heard, Waited}
use Rattle.responder_machine.specs.Turn.{Effect, Turn, answer_in, handle_in, is_taken, request_in, takes}
use Rattle.responder_machine.specs.Turn.Effect.{NoEffect, Took, TookData}
use Rattle.spdm_grammar.specs.declared.names.request_code.TheConstants.{CHUNK_GET, GET_CAPABILITIES, GET_VERSION, NEGOTIATE_ALGORITHMS}
use Rattle.spdm_grammar.specs.declared.told.phase.Phase.{Phase}
use Rattle.spdm_grammar.specs.declared.told.phase.Phase.TheVariants.{Versioned, Capable, Negotiated}
use Rattle.spdm_machine.specs.Terms.{asked_caps, common_from, no_negotiation, request_value, response_value, terms_of, told_caps}
use Rattle.transcript.specs.Transcripts.{Negotiation}
use Rattle.capture_machine.proofs.EventsAlike.{EventsAlike, answered}
use Rattle.capture_machine.proofs.EventsAlike.EventsAlike.{NoEvent, Behind as Beyond, Here as There}
use Rattle.capture_machine.proofs.FetchedSessions.{takes_with}
use Rattle.capture_machine.specs.LargeAnswers.{effect_with, handle_shown, is_unseen_effect, is_unseen_in, seen, turn_with, with_large}

-- Two lists of turns.
pub data TurnsBoth : List Turn → List Turn → Type 0 where
  NoTurn : TurnsBoth [] []
  Behind : (t : Turn) → (ts us : List Turn) → TurnsBoth ts us → TurnsBoth (t ∷ ts) (t ∷ us)
  Here : (t : Turn) → (w v : List ℕ) → (large : Option ℕ) → (ts us : List Turn) → TurnsBoth ts us → TurnsBoth (turn_with w large t ∷ ts) (turn_with v large t ∷ us)

pub both_self : (ts : List Turn) → TurnsBoth ts ts
both_self [] = NoTurn
both_self (t ∷ ts) = Behind t ts ts (both_self ts)

-- ---- What is the same.

abbrev phase_at : (a b c : Bool) → Phase → Phase
phase_at a b c x = cond a Versioned (cond b Capable (cond c Negotiated x))

pub phase_both : (ts us : List Turn) → TurnsBoth ts us → phase_of ts ≡ phase_of us
phase_both _ _ NoTurn = refl
phase_both _ _ (Behind t ts us a) = ap (phase_at (takes GET_VERSION t) (takes GET_CAPABILITIES t) (takes NEGOTIATE_ALGORITHMS t)) (phase_both ts us a)
phase_both _ _ (Here t w v large ts us a) = here w (phase_of ts) ∙ ap (phase_at (takes GET_VERSION t) (takes GET_CAPABILITIES t) (takes NEGOTIATE_ALGORITHMS t)) (phase_both ts us a) ∙ sym (here v (phase_of us))
  where
    here : (x : List ℕ) (y : Phase) → phase_at (takes GET_VERSION (turn_with x large t)) (takes GET_CAPABILITIES (turn_with x large t)) (takes NEGOTIATE_ALGORITHMS (turn_with x large t)) y
        ≡ phase_at (takes GET_VERSION t) (takes GET_CAPABILITIES t) (takes NEGOTIATE_ALGORITHMS t) y
    here x y =
        ap (λ (b : Bool). phase_at b (takes GET_CAPABILITIES (turn_with x large t)) (takes NEGOTIATE_ALGORITHMS (turn_with x large t)) y) (takes_with x large GET_VERSION t)
        ∙ ap (λ (b : Bool). phase_at (takes GET_VERSION t) b (takes NEGOTIATE_ALGORITHMS (turn_with x large t)) y) (takes_with x large GET_CAPABILITIES t)
        ∙ ap (λ (b : Bool). phase_at (takes GET_VERSION t) (takes GET_CAPABILITIES t) b y) (takes_with x large NEGOTIATE_ALGORITHMS t)

handle_with : (w v : List ℕ) (large : Option ℕ) (e : Effect) → handle_in (effect_with w large e) ≡ handle_in (effect_with v large e)
handle_with w v large NoEffect = refl
handle_with w v large (Took a m x handle) = refl
handle_with w v large (TookData x y) = refl

pub handle_both : (ts us : List Turn) → TurnsBoth ts us → handle_of ts ≡ handle_of us
handle_both _ _ NoTurn = refl
handle_both _ _ (Behind t ts us a) = ap (unwrap_or (handle_in t.effect)) (handle_both ts us a)
handle_both _ _ (Here t w v large ts us a) =
    ap (λ (o : Option ℕ). unwrap_or o (handle_of ts)) (handle_with w v large t.effect) ∙ ap (unwrap_or (handle_in (effect_with v large t.effect))) (handle_both ts us a)

pub given_both : (ts us : List Turn) → TurnsBoth ts us → given_of ts ≡ given_of us
given_both _ _ NoTurn = refl
given_both _ _ (Behind t ts us a) = ap (λ (n : ℕ). cond (not (is_taken t)) n (cond (takes CHUNK_GET t) (n + 1) 0)) (given_both ts us a)
given_both _ _ (Here t w v large ts us a) =
    ap (λ (b : Bool). cond (not (is_taken t)) (given_of ts) (cond b (given_of ts + 1) 0)) (takes_with w large CHUNK_GET t ∙ sym (takes_with v large CHUNK_GET t))
    ∙ ap (λ (n : ℕ). cond (not (is_taken t)) n (cond (takes CHUNK_GET (turn_with v large t)) (n + 1) 0)) (given_both ts us a)

-- ---- In the clear.

clear_by : (w v : List ℕ) (e : Entry) (h : History) (b : Bool) → is_unseen_in None e ≡ b → TurnsBoth (clear_turns (with_large None w h)) (clear_turns (with_large None v h))
    → TurnsBoth (clear_turns (cond b (seen w e ∷ h) (e ∷ with_large None w h))) (clear_turns (cond b (seen v e ∷ h) (e ∷ with_large None v h)))
clear_by w v (Clear tag t d) h true is before = Here t w v (Some (handle_shown t)) (clear_turns h) (clear_turns h) (both_self (clear_turns h))
clear_by w v (Sealed tag m t reply d) h true is before = absurd (false≢true is)
clear_by w v (Queued bytes) h true is before = absurd (false≢true is)
clear_by w v (Ticked seconds) h true is before = absurd (false≢true is)
clear_by w v (Dropped which) h true is before = absurd (false≢true is)
clear_by w v (Clear tag t d) h false is before = Behind t _ _ before
clear_by w v (Sealed tag m t reply d) h false is before = before
clear_by w v (Queued bytes) h false is before = before
clear_by w v (Ticked seconds) h false is before = before
clear_by w v (Dropped which) h false is before = before

pub clear_both : (w v : List ℕ) (h : History) → TurnsBoth (clear_turns (with_large None w h)) (clear_turns (with_large None v h))
clear_both w v [] = NoTurn
clear_both w v (e ∷ h) = clear_by w v e h (is_unseen_in None e) refl (clear_both w v h)

-- ---- In a session.

pub session_both : (s u : Events) → EventsAlike s u → TurnsBoth (turns_of s) (turns_of u)
session_both _ _ NoEvent = NoTurn
session_both _ _ (Beyond (Began n x y) s u a) = session_both s u a
session_both _ _ (Beyond (Heard sealed t reply) s u a) = Behind t (turns_of s) (turns_of u) (session_both s u a)
session_both _ _ (Beyond (Waited n) s u a) = session_both s u a
session_both _ _ (There sealed t x m large w v reply s u not a) = Here (answered t x m large []) w v large (turns_of s) (turns_of u) (session_both s u a)

-- ---- What both ends can do.

-- No answer to GET_CAPABILITIES was left unseen.
abbrev pub SettlesEntry : Entry → Type 0
SettlesEntry (Clear tag t d) = is_unseen_effect t.effect ≡ true → takes GET_CAPABILITIES t ≡ false
SettlesEntry _ = Unit {0}

abbrev pub Settles : History → Type 0
Settles [] = Unit {0}
Settles (e ∷ h) = SettlesEntry e × Settles h

-- The capabilities in two negotiations are the same.
abbrev CapsSame : Negotiation → Negotiation → Type 0
CapsSame n k = (n.get_capabilities ≡ k.get_capabilities) × (n.capabilities ≡ k.capabilities)

abbrev settled_at : Turn → (a b c : Bool) → Negotiation → Negotiation
settled_at t a b c n =
    cond a (record no_negotiation { get_version = request_in t.effect; version = answer_in t.effect })
    (cond b (record n { get_capabilities = request_in t.effect; capabilities = answer_in t.effect })
    (cond c (record n { negotiate_algorithms = request_in t.effect; algorithms = answer_in t.effect }) n))

caps_behind : (t : Turn) (a b c : Bool) (n k : Negotiation) → CapsSame n k → CapsSame (settled_at t a b c n) (settled_at t a b c k)
caps_behind t true b c n k same = (refl, refl)
caps_behind t false true c n k same = (refl, refl)
caps_behind t false false true n k same = same
caps_behind t false false false n k same = same

caps_here : (t u : Turn) (a b c : Bool) (n : Negotiation) → b ≡ false → CapsSame (settled_at t a b c n) (settled_at u a b c n)
caps_here t u true b c n not = (refl, refl)
caps_here t u false true c n not = absurd (false≢true (sym not))
caps_here t u false false true n not = (refl, refl)
caps_here t u false false false n not = (refl, refl)

caps_with : (w v : List ℕ) (large : Option ℕ) (t : Turn) (n : Negotiation) → takes GET_CAPABILITIES t ≡ false
    → CapsSame (settled_at (turn_with w large t) (takes GET_VERSION (turn_with w large t)) (takes GET_CAPABILITIES (turn_with w large t)) (takes NEGOTIATE_ALGORITHMS (turn_with w large t)) n)
    (settled_at (turn_with v large t) (takes GET_VERSION (turn_with v large t)) (takes GET_CAPABILITIES (turn_with v large t)) (takes NEGOTIATE_ALGORITHMS (turn_with v large t)) n)
caps_with w v large t n not = (one.0 ∙ mid.0 ∙ sym two.0, one.1 ∙ mid.1 ∙ sym two.1)
  where
    at : List ℕ → Negotiation
    at x = settled_at (turn_with x large t) (takes GET_VERSION t) (takes GET_CAPABILITIES t) (takes NEGOTIATE_ALGORITHMS t) n

    same : (x : List ℕ) → settled_at (turn_with x large t) (takes GET_VERSION (turn_with x large t)) (takes GET_CAPABILITIES (turn_with x large t)) (takes NEGOTIATE_ALGORITHMS (turn_with x large t)) n
        ≡ settled_at (turn_with x large t) (takes GET_VERSION t) (takes GET_CAPABILITIES t) (takes NEGOTIATE_ALGORITHMS t) n
    same x =
        ap (λ (b : Bool). settled_at (turn_with x large t) b (takes GET_CAPABILITIES (turn_with x large t)) (takes NEGOTIATE_ALGORITHMS (turn_with x large t)) n) (takes_with x large GET_VERSION t)
        ∙ ap (λ (b : Bool). settled_at (turn_with x large t) (takes GET_VERSION t) b (takes NEGOTIATE_ALGORITHMS (turn_with x large t)) n) (takes_with x large GET_CAPABILITIES t)
        ∙ ap (λ (b : Bool). settled_at (turn_with x large t) (takes GET_VERSION t) (takes GET_CAPABILITIES t) b n) (takes_with x large NEGOTIATE_ALGORITHMS t)

    one : (((settled_at (turn_with w large t) (takes GET_VERSION (turn_with w large t)) (takes GET_CAPABILITIES (turn_with w large t)) (takes NEGOTIATE_ALGORITHMS (turn_with w large t)) n).get_capabilities)
        ≡ ((settled_at (turn_with w large t) (takes GET_VERSION t) (takes GET_CAPABILITIES t) (takes NEGOTIATE_ALGORITHMS t) n).get_capabilities))
        × (((settled_at (turn_with w large t) (takes GET_VERSION (turn_with w large t)) (takes GET_CAPABILITIES (turn_with w large t)) (takes NEGOTIATE_ALGORITHMS (turn_with w large t)) n).capabilities)
        ≡ ((settled_at (turn_with w large t) (takes GET_VERSION t) (takes GET_CAPABILITIES t) (takes NEGOTIATE_ALGORITHMS t) n).capabilities))
    one = (ap (λ (x : Negotiation). x.get_capabilities) (same w), ap (λ (x : Negotiation). x.capabilities) (same w))

    two : (((settled_at (turn_with v large t) (takes GET_VERSION (turn_with v large t)) (takes GET_CAPABILITIES (turn_with v large t)) (takes NEGOTIATE_ALGORITHMS (turn_with v large t)) n).get_capabilities)
        ≡ ((settled_at (turn_with v large t) (takes GET_VERSION t) (takes GET_CAPABILITIES t) (takes NEGOTIATE_ALGORITHMS t) n).get_capabilities))
        × (((settled_at (turn_with v large t) (takes GET_VERSION (turn_with v large t)) (takes GET_CAPABILITIES (turn_with v large t)) (takes NEGOTIATE_ALGORITHMS (turn_with v large t)) n).capabilities)
        ≡ ((settled_at (turn_with v large t) (takes GET_VERSION t) (takes GET_CAPABILITIES t) (takes NEGOTIATE_ALGORITHMS t) n).capabilities))
    two = (ap (λ (x : Negotiation). x.get_capabilities) (same v), ap (λ (x : Negotiation). x.capabilities) (same v))

    mid : CapsSame (settled_at (turn_with w large t) (takes GET_VERSION t) (takes GET_CAPABILITIES t) (takes NEGOTIATE_ALGORITHMS t) n) (settled_at (turn_with v large t) (takes GET_VERSION t) (takes GET_CAPABILITIES t) (takes NEGOTIATE_ALGORITHMS t) n)
    mid = caps_here (turn_with w large t) (turn_with v large t) (takes GET_VERSION t) (takes GET_CAPABILITIES t) (takes NEGOTIATE_ALGORITHMS t) n not

caps_by : (w v : List ℕ) (e : Entry) (h : History) (b : Bool) → is_unseen_in None e ≡ b → SettlesEntry e → CapsSame (negotiation_of (clear_turns (with_large None w h))) (negotiation_of (clear_turns (with_large None v h)))
    → CapsSame (negotiation_of (clear_turns (cond b (seen w e ∷ h) (e ∷ with_large None w h)))) (negotiation_of (clear_turns (cond b (seen v e ∷ h) (e ∷ with_large None v h))))
caps_by w v (Clear tag t d) h true is settles before = caps_with w v (Some (handle_shown t)) t (negotiation_of (clear_turns h)) (settles is)
caps_by w v (Sealed tag m t reply d) h true is settles before = absurd (false≢true is)
caps_by w v (Queued bytes) h true is settles before = absurd (false≢true is)
caps_by w v (Ticked seconds) h true is settles before = absurd (false≢true is)
caps_by w v (Dropped which) h true is settles before = absurd (false≢true is)
caps_by w v (Clear tag t d) h false is settles before = caps_behind t (takes GET_VERSION t) (takes GET_CAPABILITIES t) (takes NEGOTIATE_ALGORITHMS t) _ _ before
caps_by w v (Sealed tag m t reply d) h false is settles before = before
caps_by w v (Queued bytes) h false is settles before = before
caps_by w v (Ticked seconds) h false is settles before = before
caps_by w v (Dropped which) h false is settles before = before

caps_both : (w v : List ℕ) (h : History) → Settles h → CapsSame (negotiation_of (clear_turns (with_large None w h))) (negotiation_of (clear_turns (with_large None v h)))
caps_both w v [] settles = (refl, refl)
caps_both w v (e ∷ h) settles = caps_by w v e h (is_unseen_in None e) refl settles.0 (caps_both w v h settles.1)

pub common_both : (w v : List ℕ) (h : History) → Settles h → (terms_of (negotiation_of (clear_turns (with_large None w h)))).common ≡ (terms_of (negotiation_of (clear_turns (with_large None v h)))).common
unfolding terms_of
common_both w v h settles =
    let same = caps_both w v h settles in
    let n : Negotiation = negotiation_of (clear_turns (with_large None w h)) in
    let k : Negotiation = negotiation_of (clear_turns (with_large None v h)) in
    ap (λ (l : List ℕ). common_from (asked_caps (request_value l)) (told_caps (response_value n.capabilities))) same.0
    ∙ ap (λ (l : List ℕ). common_from (asked_caps (request_value k.get_capabilities)) (told_caps (response_value l))) same.1
