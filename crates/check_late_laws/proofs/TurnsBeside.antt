-- The clear turns of a history with some bytes as its large response, and with others.
use Rattle.std.proofs.Common.{◌≡◌, ◌+◌, ◌==◌, ◌||◌, ℕ, List, [], ◌∷◌, refl, sym, ap, ◌∙◌, Bool, true, false, Option, Some, None, cond, is_some}
use Rattle.std.specs.Prelude.{not, unwrap_or}
use Rattle.std.specs.Option.{option_map}
use Rattle.std.proofs.lemmas.Bool.{false≢true}
use Rattle.responder_machine.specs.History.{Entry, History, clear_turns, negotiation_of, phase_of}
use Rattle.responder_machine.specs.History.Entry.{Clear, Sealed, Queued, Ticked, Dropped}
use Rattle.responder_machine.specs.LargeMessages.{chunks_of, chunks_with, given_of, handle_of, large_of}
use Rattle.responder_machine.specs.Turn.{Effect, Turn, answer_in, code_in, handle_in, is_taken, large_in, request_in, takes}
use Rattle.responder_machine.specs.Turn.Effect.{NoEffect, Took, TookData}
use Rattle.spdm_grammar.specs.Codes.{code_for}
use Rattle.spdm_grammar.specs.Message.{ChunkMessage, RequestMessage}
use Rattle.spdm_grammar.specs.declared.names.request_code.TheConstants.{CHUNK_GET, GET_CAPABILITIES, GET_VERSION, NEGOTIATE_ALGORITHMS}
use Rattle.spdm_grammar.specs.declared.told.phase.Phase.{Phase}
use Rattle.spdm_grammar.specs.declared.told.phase.Phase.TheVariants.{Versioned, Capable, Negotiated}
use Rattle.spdm_machine.specs.Terms.{asked_caps, common_from, request_value, response_value, terms_of, told_caps}
use Rattle.transcript.specs.Transcripts.{Negotiation}
use Rattle.spdm_machine.specs.Terms.{no_negotiation}
use Rattle.capture_machine.proofs.EventsAlike.{answered}
use Rattle.capture_machine.specs.LargeAnswers.{effect_with, handle_shown, is_unseen_effect, is_unseen_in, seen, with_large}
use Rattle.check_late_laws.proofs.NoCaps.{EntryCaps, NoCaps}

-- Turns that differ in one large response at most, which is not CAPABILITIES.
pub data Turns : List Turn → List Turn → Type 0 where
  NoTurn : Turns [] []
  Behind : (t : Turn) → (l k : List Turn) → Turns l k → Turns (t ∷ l) (t ∷ k)
  Here : (t : Turn) → (a : RequestMessage) → (m : List ℕ) → (large : Option ℕ) → (w v : List ℕ) → (l k : List Turn) → (code_for a == GET_CAPABILITIES) ≡ false → Turns l k
      → Turns (answered t a m large w ∷ l) (answered t a m large v ∷ k)

pub same_turns : (l : List Turn) → Turns l l
same_turns [] = NoTurn
same_turns (t ∷ l) = Behind t l l (same_turns l)

turn_here : (t : Turn) (x : Effect) (handle : ℕ) (w v : List ℕ) (l : List Turn) → is_unseen_effect x ≡ true → (code_in x == GET_CAPABILITIES) ≡ false
    → Turns (record t { effect = effect_with w (Some handle) x } ∷ l) (record t { effect = effect_with v (Some handle) x } ∷ l)
turn_here t NoEffect handle w v l is caps = absurd (false≢true is)
turn_here t (TookData x y) handle w v l is caps = absurd (false≢true is)
turn_here t (Took a m y large) handle w v l is caps = Here t a m (Some handle) w v l l caps (same_turns l)

clear_by : (w v : List ℕ) (e : Entry) (h : History) (b : Bool) → is_unseen_in None e ≡ b → EntryCaps e → Turns (clear_turns (with_large None w h)) (clear_turns (with_large None v h))
    → Turns (clear_turns (cond b (seen w e ∷ h) (e ∷ with_large None w h))) (clear_turns (cond b (seen v e ∷ h) (e ∷ with_large None v h)))
clear_by w v (Clear tag t d) h true is caps before = turn_here t t.effect (handle_shown t) w v (clear_turns h) is (caps is)
clear_by w v (Clear tag t d) h false is caps before = Behind t _ _ before
clear_by w v (Sealed tag m t reply d) h true is caps before = absurd (false≢true is)
clear_by w v (Sealed tag m t reply d) h false is caps before = before
clear_by w v (Queued bytes) h true is caps before = absurd (false≢true is)
clear_by w v (Queued bytes) h false is caps before = before
clear_by w v (Ticked seconds) h true is caps before = absurd (false≢true is)
clear_by w v (Ticked seconds) h false is caps before = before
clear_by w v (Dropped id) h true is caps before = absurd (false≢true is)
clear_by w v (Dropped id) h false is caps before = before

pub clear_beside : (w v : List ℕ) (h : History) → NoCaps h → Turns (clear_turns (with_large None w h)) (clear_turns (with_large None v h))
clear_beside w v [] caps = NoTurn
clear_beside w v (e ∷ h) caps = clear_by w v e h (is_unseen_in None e) refl caps.0 (clear_beside w v h caps.1)

-- ---- What is the same.

phase_step : (t : Turn) (x y : Phase) → x ≡ y → cond (takes GET_VERSION t) Versioned (cond (takes GET_CAPABILITIES t) Capable (cond (takes NEGOTIATE_ALGORITHMS t) Negotiated x)) ≡ cond (takes GET_VERSION t) Versioned (cond (takes GET_CAPABILITIES t) Capable (cond (takes NEGOTIATE_ALGORITHMS t) Negotiated y))
phase_step t x y same = ap (λ (z : Phase). cond (takes GET_VERSION t) Versioned (cond (takes GET_CAPABILITIES t) Capable (cond (takes NEGOTIATE_ALGORITHMS t) Negotiated z))) same

pub phase_beside : (l k : List Turn) → Turns l k → phase_of l ≡ phase_of k
phase_beside _ _ NoTurn = refl
phase_beside _ _ (Behind t l k a) = phase_step t (phase_of l) (phase_of k) (phase_beside l k a)
phase_beside _ _ (Here t x m large w v l k not_caps a) = phase_step (answered t x m large w) (phase_of l) (phase_of k) (phase_beside l k a)

pub given_beside : (l k : List Turn) → Turns l k → given_of l ≡ given_of k
given_beside _ _ NoTurn = refl
given_beside _ _ (Behind t l k a) = ap (λ (n : ℕ). cond (not (is_taken t)) n (cond (takes CHUNK_GET t) (n + 1) 0)) (given_beside l k a)
given_beside _ _ (Here t x m large w v l k not_caps a) = ap (λ (n : ℕ). cond (not (is_taken (answered t x m large w))) n (cond (takes CHUNK_GET (answered t x m large w)) (n + 1) 0)) (given_beside l k a)

pub handle_beside : (l k : List Turn) → Turns l k → handle_of l ≡ handle_of k
handle_beside _ _ NoTurn = refl
handle_beside _ _ (Behind t l k a) = ap (unwrap_or (handle_in t.effect)) (handle_beside l k a)
handle_beside _ _ (Here t x m large w v l k not_caps a) = ap (unwrap_or large) (handle_beside l k a)

pub chunks_beside : (l k : List Turn) → Turns l k → chunks_of l ≡ chunks_of k
chunks_beside _ _ NoTurn = refl
chunks_beside _ _ (Behind t l k a) = ap (λ (x : List ChunkMessage). cond (is_taken t) (chunks_with t.chunk x) x) (chunks_beside l k a)
chunks_beside _ _ (Here t x m large w v l k not_caps a) = ap (λ (y : List ChunkMessage). cond (is_taken (answered t x m large w)) (chunks_with t.chunk y) y) (chunks_beside l k a)

some_cond : (b : Bool) (x y v w : Option (List ℕ)) → is_some x ≡ is_some y → is_some v ≡ is_some w → is_some (cond b x v) ≡ is_some (cond b y w)
some_cond true x y v w one two = one
some_cond false x y v w one two = two

some_large : (large : Option ℕ) (v w : List ℕ) → is_some (option_map (λ (n : ℕ). v) large) ≡ is_some (option_map (λ (n : ℕ). w) large)
some_large None v w = refl
some_large (Some n) v w = refl

pub large_beside : (l k : List Turn) → Turns l k → is_some (large_of l) ≡ is_some (large_of k)
large_beside _ _ NoTurn = refl
large_beside _ _ (Behind t l k a) = some_cond (not (is_taken t) || takes CHUNK_GET t) (large_of l) (large_of k) (large_in t.effect) (large_in t.effect) (large_beside l k a) refl
large_beside _ _ (Here t x m large w v l k not_caps a) =
    some_cond (not (is_taken (answered t x m large w)) || takes CHUNK_GET (answered t x m large w)) (large_of l) (large_of k) (option_map (λ (n : ℕ). w) large) (option_map (λ (n : ℕ). v) large) (large_beside l k a) (some_large large w v)

-- What both ends can do goes by the capabilities.
pub record SameCaps (n k : Negotiation) : Type 0 where
  pub asked : n.get_capabilities ≡ k.get_capabilities
  pub told : n.capabilities ≡ k.capabilities

either_caps : (b : Bool) (n k x y : Negotiation) → SameCaps n k → SameCaps x y → SameCaps (cond b n x) (cond b k y)
either_caps true n k x y one two = one
either_caps false n k x y one two = two

abbrev settled : Bool → Bool → Bool → Turn → Negotiation → Negotiation
settled a b c x rest =
    cond a (record no_negotiation { get_version = request_in x.effect; version = answer_in x.effect })
    (cond b (record rest { get_capabilities = request_in x.effect; capabilities = answer_in x.effect })
    (cond c (record rest { negotiate_algorithms = request_in x.effect; algorithms = answer_in x.effect }) rest))

by_bits : (t u : Turn) (n k : Negotiation) (a b c : Bool) → (b ≡ true → t ≡ u) → SameCaps n k → SameCaps (settled a b c t n) (settled a b c u k)
by_bits t u n k true b c is same = record { asked = refl; told = refl }
by_bits t u n k false true c is same = record { asked = ap (λ (x : Turn). request_in x.effect) (is refl); told = ap (λ (x : Turn). answer_in x.effect) (is refl) }
by_bits t u n k false false true is same = record { asked = same.asked; told = same.told }
by_bits t u n k false false false is same = same

caps_beside : (l k : List Turn) → Turns l k → SameCaps (negotiation_of l) (negotiation_of k)
caps_beside _ _ NoTurn = record { asked = refl; told = refl }
caps_beside _ _ (Behind t l k a) = by_bits t t (negotiation_of l) (negotiation_of k) (takes GET_VERSION t) (takes GET_CAPABILITIES t) (takes NEGOTIATE_ALGORITHMS t) (λ is. refl) (caps_beside l k a)
caps_beside _ _ (Here t x m large w v l k not_caps a) =
    let one : Turn = answered t x m large w in
    by_bits one (answered t x m large v) (negotiation_of l) (negotiation_of k) (takes GET_VERSION one) (takes GET_CAPABILITIES one) (takes NEGOTIATE_ALGORITHMS one) (λ is. absurd (false≢true (sym not_caps ∙ is))) (caps_beside l k a)

pub common_beside : (l k : List Turn) → Turns l k → (terms_of (negotiation_of l)).common ≡ (terms_of (negotiation_of k)).common
unfolding terms_of
common_beside l k a =
    let same = caps_beside l k a in
    ap (λ (x : List ℕ). common_from (asked_caps (request_value x)) (told_caps (response_value (negotiation_of l).capabilities))) same.asked
    ∙ ap (λ (x : List ℕ). common_from (asked_caps (request_value (negotiation_of k).get_capabilities)) (told_caps (response_value x))) same.told
