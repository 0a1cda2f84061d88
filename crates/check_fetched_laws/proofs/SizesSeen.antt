-- The sizes of messages, and the data that wait, depend on no byte of a large response that was not seen.
use Rattle.std.proofs.Common.{◌≡◌, ◌==◌, ◌&&◌, ℕ, List, [], ◌∷◌, ◌++◌, drop, refl, sym, ap, ◌∙◌, subst, Bool, true, false, Option, Some, None, cond}
use Rattle.std.proofs.lemmas.Bool.{false≢true}
use Rattle.responder_core.specs.Connected.{HasSizesAt}
use Rattle.check_late_laws.proofs.NoCaps.{EntryCaps, NoCaps}
use Rattle.check_late_laws.proofs.TurnsBeside.{SameCaps}
use Rattle.negotiate.specs.declared.shared.Common.{Common}
use Rattle.responder_machine.specs.History.{Entry, History, clear_turns, negotiation_of, phase_of, queue_of}
use Rattle.responder_machine.specs.History.Entry.{Clear, Sealed, Queued, Ticked, Dropped}
use Rattle.responder_machine.specs.Refusal.{sizes_are_known}
use Rattle.responder_machine.specs.Setup.{RspSetup}
use Rattle.responder_machine.specs.SizeLaws.{HasSizes}
use Rattle.responder_machine.specs.Turn.{Effect, Turn, answer_in, code_in, is_data, request_in, takes}
use Rattle.responder_machine.specs.Turn.Effect.{NoEffect, Took, TookData}
use Rattle.spdm_grammar.specs.declared.names.request_code.TheConstants.{GET_CAPABILITIES, GET_VERSION, NEGOTIATE_ALGORITHMS}
use Rattle.spdm_grammar.specs.declared.told.phase.Phase.{Phase}
use Rattle.spdm_grammar.specs.declared.told.phase.Phase.TheVariants.{Versioned, Capable, Negotiated}
use Rattle.spdm_machine.specs.Terms.{asked_caps, common_from, no_negotiation, request_value, response_value, terms_of, told_caps}
use Rattle.transcript.specs.Transcripts.{Negotiation}
use Rattle.capture_machine.specs.LargeAnswers.{effect_with, handle_shown, is_unseen_effect, is_unseen_in, seen, with_large}

-- Turns with one phase and one negotiation of capabilities.
pub record SameSizes (l k : List Turn) : Type 0 where
  pub phase : phase_of l ≡ phase_of k
  pub caps : SameCaps (negotiation_of l) (negotiation_of k)

same_sizes : (l : List Turn) → SameSizes l l
same_sizes l = record { phase = refl; caps = record { asked = refl; told = refl } }

-- ---- One turn.

abbrev pub settled : Bool → Bool → Bool → Turn → Negotiation → Negotiation
settled a b c x rest =
    cond a (record no_negotiation { get_version = request_in x.effect; version = answer_in x.effect })
    (cond b (record rest { get_capabilities = request_in x.effect; capabilities = answer_in x.effect })
    (cond c (record rest { negotiate_algorithms = request_in x.effect; algorithms = answer_in x.effect }) rest))

settled_same : (t u : Turn) (n k : Negotiation) (a b c : Bool) → (b ≡ true → t ≡ u) → SameCaps n k → SameCaps (settled a b c t n) (settled a b c u k)
settled_same t u n k true b c is same = record { asked = refl; told = refl }
settled_same t u n k false true c is same = record { asked = ap (λ (x : Turn). request_in x.effect) (is refl); told = ap (λ (x : Turn). answer_in x.effect) (is refl) }
settled_same t u n k false false true is same = record { asked = same.asked; told = same.told }
settled_same t u n k false false false is same = same

turn_behind : (t : Turn) (l k : List Turn) → SameSizes l k → SameSizes (t ∷ l) (t ∷ k)
turn_behind t l k same = record {
  phase = ap (λ (z : Phase). cond (takes GET_VERSION t) Versioned (cond (takes GET_CAPABILITIES t) Capable (cond (takes NEGOTIATE_ALGORITHMS t) Negotiated z))) same.phase;
  caps = settled_same t t (negotiation_of l) (negotiation_of k) (takes GET_VERSION t) (takes GET_CAPABILITIES t) (takes NEGOTIATE_ALGORITHMS t) (λ is. refl) same.caps;
}

-- Its large response may be any but CAPABILITIES.
turn_seen : (t : Turn) (x : Effect) (n : ℕ) (v : List ℕ) (l : List Turn) → is_unseen_effect x ≡ true → (code_in x == GET_CAPABILITIES) ≡ false → SameSizes (record t { effect = effect_with v (Some n) x } ∷ l) (record t { effect = x } ∷ l)
turn_seen t NoEffect n v l is caps = absurd (false≢true is)
turn_seen t (TookData bytes answer) n v l is caps = absurd (false≢true is)
turn_seen t (Took a m y large) n v l is caps =
    let one : Turn = record t { effect = Took a m v (Some n) } in
    let two : Turn = record t { effect = Took a m y large } in
    record {
      phase = refl;
      caps = settled_same one two (negotiation_of l) (negotiation_of l) (takes GET_VERSION one) (takes GET_CAPABILITIES one) (takes NEGOTIATE_ALGORITHMS one) (λ gets. absurd (false≢true (sym caps ∙ gets))) (record { asked = refl; told = refl });
    }

-- ---- A history.

module _ (v : List ℕ) where
  by_entry : (e : Entry) (h : History) (b : Bool) → is_unseen_in None e ≡ b → EntryCaps e → SameSizes (clear_turns (with_large None v h)) (clear_turns h)
      → SameSizes (clear_turns (cond b (seen v e ∷ h) (e ∷ with_large None v h))) (clear_turns (e ∷ h))
  by_entry (Clear tag t d) h true is caps rest = turn_seen t t.effect (handle_shown t) v (clear_turns h) is (caps is)
  by_entry (Clear tag t d) h false is caps rest = turn_behind t _ _ rest
  by_entry (Sealed tag m t reply d) h true is caps rest = absurd (false≢true is)
  by_entry (Sealed tag m t reply d) h false is caps rest = rest
  by_entry (Queued bytes) h true is caps rest = absurd (false≢true is)
  by_entry (Queued bytes) h false is caps rest = rest
  by_entry (Ticked seconds) h true is caps rest = absurd (false≢true is)
  by_entry (Ticked seconds) h false is caps rest = rest
  by_entry (Dropped id) h true is caps rest = absurd (false≢true is)
  by_entry (Dropped id) h false is caps rest = rest

  pub sizes_seen : (h : History) → NoCaps h → SameSizes (clear_turns (with_large None v h)) (clear_turns h)
  sizes_seen [] caps = same_sizes []
  sizes_seen (e ∷ h) caps = by_entry e h (is_unseen_in None e) refl caps.0 (sizes_seen h caps.1)

pub common_same : (n k : Negotiation) → SameCaps n k → (terms_of n).common ≡ (terms_of k).common
unfolding terms_of
common_same n k same =
    ap (λ (x : List ℕ). common_from (asked_caps (request_value x)) (told_caps (response_value n.capabilities))) same.asked
    ∙ ap (λ (x : List ℕ). common_from (asked_caps (request_value k.get_capabilities)) (told_caps (response_value x))) same.told

-- In the clear the sizes are those without these bytes.
pub clear_sized : (r : RspSetup) (v : List ℕ) (h : History) → NoCaps h → HasSizesAt r (clear_turns h) → HasSizesAt r (clear_turns (with_large None v h))
clear_sized r v h caps sized = λ known.
    let same = sizes_seen v h caps in
    subst (HasSizes r) (sym (common_same _ _ same.caps)) (sized (ap sizes_are_known (sym same.phase) ∙ known))

-- ---- In a session.

session_by : (id : ℕ) (v : List ℕ) (e : Entry) (h : History) (b : Bool) → is_unseen_in (Some id) e ≡ b → clear_turns (with_large (Some id) v h) ≡ clear_turns h → clear_turns (cond b (seen v e ∷ h) (e ∷ with_large (Some id) v h)) ≡ clear_turns (e ∷ h)
session_by id v (Sealed tag m t reply d) h true is rest = refl
session_by id v (Clear tag t d) h true is rest = absurd (false≢true is)
session_by id v (Queued bytes) h true is rest = absurd (false≢true is)
session_by id v (Ticked seconds) h true is rest = absurd (false≢true is)
session_by id v (Dropped which) h true is rest = absurd (false≢true is)
session_by id v (Clear tag t d) h false is rest = ap (λ (l : List Turn). t ∷ l) rest
session_by id v (Sealed tag m t reply d) h false is rest = rest
session_by id v (Queued bytes) h false is rest = rest
session_by id v (Ticked seconds) h false is rest = rest
session_by id v (Dropped which) h false is rest = rest

-- The turns in the clear are the same.
pub session_turns : (id : ℕ) (v : List ℕ) (h : History) → clear_turns (with_large (Some id) v h) ≡ clear_turns h
session_turns id v [] = refl
session_turns id v (e ∷ h) = session_by id v e h (is_unseen_in (Some id) e) refl (session_turns id v h)

data_seen : (v : List ℕ) (n : ℕ) (x : Effect) → is_data (effect_with v (Some n) x) ≡ is_data x
data_seen v n NoEffect = refl
data_seen v n (Took a m y large) = refl
data_seen v n (TookData bytes answer) = refl

abbrev behind_data : Bool → List (List ℕ) → List (List ℕ)
behind_data b l = cond b (drop 1 l) l

queue_by : (id : ℕ) (v : List ℕ) (e : Entry) (h : History) (b : Bool) → is_unseen_in (Some id) e ≡ b → queue_of (with_large (Some id) v h) ≡ queue_of h → queue_of (cond b (seen v e ∷ h) (e ∷ with_large (Some id) v h)) ≡ queue_of (e ∷ h)
queue_by id v (Sealed tag m t reply d) h true is rest = ap (λ (b : Bool). behind_data b (queue_of h)) (data_seen v (handle_shown t) t.effect)
queue_by id v (Clear tag t d) h true is rest = absurd (false≢true is)
queue_by id v (Queued bytes) h true is rest = absurd (false≢true is)
queue_by id v (Ticked seconds) h true is rest = absurd (false≢true is)
queue_by id v (Dropped which) h true is rest = absurd (false≢true is)
queue_by id v (Clear tag t d) h false is rest = rest
queue_by id v (Sealed tag m t reply d) h false is rest = ap (behind_data (is_data t.effect)) rest
queue_by id v (Queued bytes) h false is rest = ap (λ (l : List (List ℕ)). l ++ bytes ∷ []) rest
queue_by id v (Ticked seconds) h false is rest = rest
queue_by id v (Dropped which) h false is rest = rest

-- So are the data that wait.
pub session_queue : (id : ℕ) (v : List ℕ) (h : History) → queue_of (with_large (Some id) v h) ≡ queue_of h
session_queue id v [] = refl
session_queue id v (e ∷ h) = queue_by id v e h (is_unseen_in (Some id) e) refl (session_queue id v h)
