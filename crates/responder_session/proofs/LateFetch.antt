-- A session in which MEASUREMENTS that were never seen are pending again: what of it stays, and what is left to be given.
use Rattle.std.proofs.Common.{refl, ◌≡◌, ◌∙◌, ◌+◌, ap, sym, subst, ℕ, List, [], ◌∷◌, drop, Bool, true, false}
use Rattle.std.proofs.lemmas.Bool.{false≢true}
use Rattle.std.specs.Prelude.{◌||◌, ◌==◌, ◌%◌, not, if◌then◌else◌, Option, Some, None, is_some, unwrap_or}
use Rattle.chunking.specs.Cutting.{chunks_of}
use Rattle.responder_rules.specs.LargeAnswer as large_answers
use Rattle.responder_rules.specs.LargeAnswer.{last_takes, left_by}
use Rattle.responder_machine.specs.LargeMessages.{given_of, handle_of, large_of, larges_of}
use Rattle.responder_machine.specs.Session.{Events, turns_of}
use Rattle.responder_machine.specs.Session.Event.{Began, Heard, Waited}
use Rattle.responder_machine.specs.Turn.{Effect, Turn, code_in, handle_in, is_taken, large_in, takes}
use Rattle.responder_machine.specs.Turn.Effect.{NoEffect, Took, TookData}
use Rattle.spdm_grammar.specs.Message.{ChunkMessage}
use Rattle.spdm_grammar.specs.declared.names.request_code.TheConstants.{CHUNK_GET, GET_MEASUREMENTS, PSK_FINISH}
use Rattle.responder_session.proofs.Pendings.{began_alike, gets_none, heard_alike, is_other, same_alike, took_alike, waited_alike}
use Rattle.responder_session.specs.LateFetch.{IsNewestUnseen, IsUnseen, effect_pending, events_pending, turn_pending}
use Rattle.responder_session.specs.Pending.{IsAlike}

-- ---- The turn.

code_pending : (answer : List ℕ) (handle : ℕ) (e : Effect) → code_in (effect_pending answer handle e) ≡ code_in e
code_pending answer handle NoEffect = refl
code_pending answer handle (Took asked request old large) = refl
code_pending answer handle (TookData bytes old) = refl

pub takes_pending : (answer : List ℕ) (handle : ℕ) (t : Turn) (code : ℕ) → takes code (turn_pending answer handle t) ≡ takes code t
takes_pending answer handle t code = ap (λ (n : ℕ). n == code) (code_pending answer handle t.effect)

handle_pending : (answer : List ℕ) (handle : ℕ) (e : Effect) → (code_in e == GET_MEASUREMENTS) ≡ true → handle_in (effect_pending answer handle e) ≡ Some handle
handle_pending answer handle NoEffect measures = absurd (false≢true measures)
handle_pending answer handle (Took asked request old large) measures = refl
handle_pending answer handle (TookData bytes old) measures = absurd (false≢true measures)

large_pending : (answer : List ℕ) (handle : ℕ) (e : Effect) → (code_in e == GET_MEASUREMENTS) ≡ true → large_in (effect_pending answer handle e) ≡ Some answer
large_pending answer handle NoEffect measures = absurd (false≢true measures)
large_pending answer handle (Took asked request old large) measures = refl
large_pending answer handle (TookData bytes old) measures = absurd (false≢true measures)

-- Nothing before it counts.
not_passed : (t : Turn) → IsUnseen t → (not (is_taken t) || takes CHUNK_GET t) ≡ false
not_passed t u = λ i. not (u.taken i) || gets_none t u.measures i

last_by : (t : Turn) (older : List Turn) → IsUnseen t → last_takes GET_MEASUREMENTS (t ∷ older) ≡ true
last_by t older u = ap (λ (b : Bool). if b then last_takes GET_MEASUREMENTS older else takes GET_MEASUREMENTS t) (not_passed t u) ∙ u.measures

pub last_unseen : (turns : List Turn) → IsNewestUnseen turns → last_takes GET_MEASUREMENTS turns ≡ true
last_unseen [] u = absurd u
last_unseen (t ∷ older) u = last_by t older u

-- ---- All that is read off the events of a session, but its large answers.

recalled_by : (answer : List ℕ) (handle : ℕ) (m : List ℕ) (t : Turn) (reply : List ℕ) (s : Events) (e : Effect) → takes PSK_FINISH (record t { effect = e }) ≡ false
    → IsAlike (Heard m (record t { effect = e }) reply ∷ s) (Heard m (record t { effect = effect_pending answer handle e }) reply ∷ s)
recalled_by answer handle m t reply s NoEffect other = same_alike _
recalled_by answer handle m t reply s (Took asked request old large) other = took_alike m t reply s asked request old answer large (Some handle) other
recalled_by answer handle m t reply s (TookData bytes old) other = same_alike _

by_recalled : (answer : List ℕ) (handle : ℕ) (m : List ℕ) (t : Turn) (reply : List ℕ) (s : Events) (b : Bool) → (if b then last_takes GET_MEASUREMENTS (turns_of s) else takes GET_MEASUREMENTS t) ≡ true
    → (last_takes GET_MEASUREMENTS (turns_of s) ≡ true → IsAlike s (events_pending answer handle s))
    → IsAlike (Heard m t reply ∷ s) (if b then Heard m t reply ∷ events_pending answer handle s else Heard m (turn_pending answer handle t) reply ∷ s)
by_recalled answer handle m t reply s true measures older = heard_alike m t reply s (events_pending answer handle s) (older measures)
by_recalled answer handle m t reply s false measures older = recalled_by answer handle m t reply s t.effect (is_other _ measures)

pub recalled_alike : (answer : List ℕ) (handle : ℕ) (s : Events) → last_takes GET_MEASUREMENTS (turns_of s) ≡ true → IsAlike s (events_pending answer handle s)
recalled_alike answer handle [] measures = absurd (false≢true measures)
recalled_alike answer handle (Began n exchange response ∷ older) measures = began_alike n exchange response older (events_pending answer handle older) (recalled_alike answer handle older measures)
recalled_alike answer handle (Heard m t reply ∷ older) measures = by_recalled answer handle m t reply older (not (is_taken t) || takes CHUNK_GET t) measures (recalled_alike answer handle older)
recalled_alike answer handle (Waited seconds ∷ older) measures = waited_alike seconds older (events_pending answer handle older) (recalled_alike answer handle older measures)

-- ---- The turns.

abbrev pub turns_pending : List ℕ → (handle : ℕ) → List Turn → List Turn
turns_pending answer handle [] = []
turns_pending answer handle (t ∷ older) =
    if not (is_taken t) || takes CHUNK_GET t then t ∷ turns_pending answer handle older
    else turn_pending answer handle t ∷ older

turns_by : (answer : List ℕ) (handle : ℕ) (m : List ℕ) (t : Turn) (reply : List ℕ) (s : Events) (b : Bool) → turns_of (events_pending answer handle s) ≡ turns_pending answer handle (turns_of s)
    → turns_of (if b then Heard m t reply ∷ events_pending answer handle s else Heard m (turn_pending answer handle t) reply ∷ s)
    ≡ (if b then t ∷ turns_pending answer handle (turns_of s) else turn_pending answer handle t ∷ turns_of s)
turns_by answer handle m t reply s true same = ap (λ (ts : List Turn). t ∷ ts) same
turns_by answer handle m t reply s false same = refl

pub turns_recalled : (answer : List ℕ) (handle : ℕ) (s : Events) → turns_of (events_pending answer handle s) ≡ turns_pending answer handle (turns_of s)
turns_recalled answer handle [] = refl
turns_recalled answer handle (Began n exchange response ∷ older) = turns_recalled answer handle older
turns_recalled answer handle (Heard m t reply ∷ older) = turns_by answer handle m t reply older (not (is_taken t) || takes CHUNK_GET t) (turns_recalled answer handle older)
turns_recalled answer handle (Waited seconds ∷ older) = turns_recalled answer handle older

-- ---- What is left to be given.

-- All chunks of an answer.
abbrev all_of : (transfer handle : ℕ) → Option (List ℕ) → List ChunkMessage
all_of transfer handle None = []
all_of transfer handle (Some answer) = drop 0 (chunks_of transfer handle answer)

-- After a turn whose answer goes by LargeResponse, whatever came before it.
module _ (transfer handle : ℕ) (p : Turn) (taken : is_taken p ≡ true) (gets : takes CHUNK_GET p ≡ false) (under : handle_in p.effect ≡ Some handle) where
  given_there : (older : List Turn) → given_of (p ∷ older) ≡ 0
  given_there older =
      ap (λ (b : Bool). if not b then given_of older else (if takes CHUNK_GET p then given_of older + 1 else 0)) taken
      ∙ ap (λ (b : Bool). if b then given_of older + 1 else 0) gets

  handle_there : (older : List Turn) → handle_of (p ∷ older) ≡ handle
  handle_there older = ap (λ (o : Option ℕ). unwrap_or o (handle_of older)) under

  larges_there : (older : List Turn) → larges_of (p ∷ older) ≡ larges_of older + 1
  larges_there older = ap (λ (o : Option ℕ). if is_some o then larges_of older + 1 else larges_of older) under

  large_there : (older : List Turn) → large_of (p ∷ older) ≡ large_in p.effect
  large_there older = λ i. if not (taken i) || gets i then large_of older else large_in p.effect

  by_large : (older : List Turn) (o : Option (List ℕ)) → left_by transfer (p ∷ older) o ≡ all_of transfer handle o
  by_large older None = refl
  by_large older (Some answer) =
      ap (λ (n : ℕ). drop n (chunks_of transfer (handle_of (p ∷ older)) answer)) (given_there older) ∙ ap (λ (n : ℕ). drop 0 (chunks_of transfer n answer)) (handle_there older)

  left_there : (older : List Turn) → left_by transfer (p ∷ older) (large_of (p ∷ older)) ≡ all_of transfer handle (large_in p.effect)
  left_there older = ap (left_by transfer (p ∷ older)) (large_there older) ∙ by_large older (large_in p.effect)

  -- So a turn just before it that took no handle may as well be gone.
  stands_without : (u : Turn) (older : List Turn) (seen : large_answers.Seen) → handle_in u.effect ≡ None → large_answers.StandsFor seen transfer (p ∷ u ∷ older)
      → large_answers.StandsFor seen transfer (p ∷ older)
  stands_without u older seen none stands = record {
    left = stands.left ∙ left_there (u ∷ older) ∙ sym (left_there older);
    next = stands.next
        ∙ ap (λ (n : ℕ). n % 256) (larges_there (u ∷ older) ∙ ap (λ (o : Option ℕ). (if is_some o then larges_of older + 1 else larges_of older) + 1) none ∙ sym (larges_there older));
  }

module _ (transfer handle : ℕ) (answer : List ℕ) (seen : large_answers.Seen) where
  recalled_at : (t : Turn) (older : List Turn) → IsUnseen t
      → ((p : Turn) → is_taken p ≡ true → takes CHUNK_GET p ≡ false → handle_in p.effect ≡ Some handle → large_in p.effect ≡ Some answer → large_answers.StandsFor seen transfer (p ∷ t ∷ older))
      → large_answers.StandsFor seen transfer (turns_pending answer handle (t ∷ older))
  recalled_at t older u begun =
      let p = turn_pending answer handle t in
      let gets : takes CHUNK_GET p ≡ false = takes_pending answer handle t CHUNK_GET ∙ gets_none t u.measures in
      let under : handle_in p.effect ≡ Some handle = handle_pending answer handle t.effect u.measures in
      subst (λ (b : Bool). large_answers.StandsFor seen transfer (if b then t ∷ turns_pending answer handle older else p ∷ older)) (sym (not_passed t u))
      (stands_without transfer handle p u.taken gets under t older seen u.unseen (begun p u.taken gets under (large_pending answer handle t.effect u.measures)))

  -- Where LargeResponse after the newest turn leaves this to be given, it is what is left once that turn has the
  -- answer.
  pub recalled : (turns : List Turn) → IsNewestUnseen turns
      → ((p : Turn) → is_taken p ≡ true → takes CHUNK_GET p ≡ false → handle_in p.effect ≡ Some handle → large_in p.effect ≡ Some answer → large_answers.StandsFor seen transfer (p ∷ turns))
      → large_answers.StandsFor seen transfer (turns_pending answer handle turns)
  recalled [] u begun = absurd u
  recalled (t ∷ older) u begun = recalled_at t older u begun
