-- A requester without the message that it sent by itself on what it took last.
use Rattle.std.proofs.Common.{refl, ◌≡◌, ◌∙◌, ℕ, [], ◌∷◌, Bool, true, false, Option, Some, None, ap, sym, subst, arith}
use Rattle.std.specs.Prelude.{◌+◌, ◌%◌, if◌then◌else◌, is_some}
use Rattle.requester_core.proofs.OwedClear.{any_of, clear_steps, in_session_of}
use Rattle.requester_core.proofs.OwedSessions.{is_owed, others_as, upon, upon_last}
use Rattle.requester_core.proofs.SessionsAsked.{of_each}
use Rattle.requester_core.specs.Negotiating as negotiating
use Rattle.requester_core.specs.Negotiating.{IsUpToSent}
use Rattle.requester_core.specs.Outgoing as outgoing
use Rattle.requester_core.specs.Outgoing.{handle_before, tag_before, taken_back}
use Rattle.requester_core.specs.Owed.{TookAny, TookFor}
use Rattle.requester_core.specs.OwnRecords.{is_in_session}
use Rattle.requester_core.specs.ClearState as clear_state
use Rattle.requester_core.specs.Outstanding.{is_first, waiting_of}
use Rattle.requester_machine.specs.History.{History, begins_large, connection_terms, is_first_chunk, larges_of, negotiation_of, next_handle, next_tag, outstanding, phase_of, sent_count}
use Rattle.requester_machine.specs.History.Entry.{Told, TookClear, TookRecord}
use Rattle.requester_machine.specs.Holds.{Holds, LiveAt}
use Rattle.requester_machine.specs.Holds as held
use Rattle.requester_machine.specs.Message.{Aim, Sent}
use Rattle.requester_machine.specs.Message.Aim.{ByChunks, ForChunk, InSession, Plain}
use Rattle.requester_machine.specs.Owed.{with_next}
use Rattle.requester_machine.specs.Session.{Steps, is_live, session_negotiation, session_of}
use Rattle.requester_machine.specs.Setup.{ReqSetup}
use Rattle.requester_machine.specs.Shown.{last_data}
use Rattle.requester_machine.specs.UnderWay.{HasSizes, IsCommon, is_capable}
use Rattle.spdm_grammar.specs.declared.told.phase.Phase.{Phase}
use Rattle.spdm_grammar.specs.declared.told.phase.Phase.TheVariants.{Negotiated}
use Rattle.spdm_machine.specs.Terms.{terms_of}
use Rattle.transcript.specs.Transcripts.{Negotiation}

-- ---- What hangs on the message, and what does not.

pub any_took : (bare : History) (aim : Aim) → TookFor bare aim → TookAny bare
any_took bare (Plain asked) took = took
any_took bare (ByChunks asked handle number) took = took
any_took bare (ForChunk asked handle number before) took = took
any_took [] (InSession id ask) took = absurd took
any_took (Told command sent d ∷ older) (InSession id ask) took = absurd took
any_took (TookClear tag m led d ∷ older) (InSession id ask) took = took
any_took (TookRecord tag of sealed inner led d ∷ older) (InSession id ask) took = took.0

pub record IsWithout (h bare : History) (x : Sent) : Type 0 where
  pub phase : phase_of h ≡ phase_of bare
  pub negotiation : negotiation_of h ≡ negotiation_of bare
  pub brought : last_data h ≡ last_data bare
  pub sents : sent_count h ≡ sent_count bare + 1
  pub larges : larges_of h ≡ (if begins_large x.aim then larges_of bare + 1 else larges_of bare)
  pub none : outstanding bare ≡ None
  pub last : outstanding h ≡ Some x

count_with : (n : ℕ) (next : Option Sent) → next ≡ None → n + 1 ≡ (if is_some next then n + 1 else n) + 1
count_with n next none = ap (λ (o : Option Sent). (if is_some o then n + 1 else n) + 1) (sym none)

large_with : (n : ℕ) (next : Option Sent) (b : Bool) → next ≡ None
    → (if b then n + 1 else n) ≡ (if b then (if is_first_chunk next then n + 1 else n) + 1 else (if is_first_chunk next then n + 1 else n))
large_with n next b none = ap (λ (o : Option Sent). if b then (if is_first_chunk o then n + 1 else n) + 1 else (if is_first_chunk o then n + 1 else n)) (sym none)

pub without : (bare : History) (x : Sent) → TookAny bare → IsWithout (with_next (Some x) bare) bare x
without [] x took = absurd took
without (Told command sent d ∷ older) x took = absurd took
without (TookClear tag m led d ∷ older) x took = record {
  phase = refl;
  negotiation = refl;
  brought = refl;
  sents = count_with (sent_count older) led.next took;
  larges = large_with (larges_of older) led.next (begins_large x.aim) took;
  none = took;
  last = refl;
}
without (TookRecord tag of sealed inner led d ∷ older) x took = record {
  phase = refl;
  negotiation = refl;
  brought = refl;
  sents = count_with (sent_count older) led.next took;
  larges = large_with (larges_of older) led.next (begins_large x.aim) took;
  none = took;
  last = refl;
}

-- ---- The clear part.

first_is : (x : Sent) (aim : Aim) → x.aim ≡ aim → is_first (waiting_of (Some x)) ≡ begins_large x.aim
first_is x (Plain asked) is = subst (λ (a : Aim). is_first (waiting_of (Some (record x { aim = a }))) ≡ begins_large a) (sym is) refl
first_is x (ByChunks asked handle number) is = subst (λ (a : Aim). is_first (waiting_of (Some (record x { aim = a }))) ≡ begins_large a) (sym is) refl
first_is x (ForChunk asked handle number before) is = subst (λ (a : Aim). is_first (waiting_of (Some (record x { aim = a }))) ≡ begins_large a) (sym is) refl
first_is x (InSession id ask) is = subst (λ (a : Aim). is_first (waiting_of (Some (record x { aim = a }))) ≡ begins_large a) (sym is) refl

tag_less : (n : ℕ) → tag_before ((n + 1) % 8) ≡ n % 8
tag_less n = omega arith

handle_less : (b : Bool) (n : ℕ) → (if b then handle_before ((if b then n + 1 else n) % 256) else (if b then n + 1 else n) % 256) ≡ n % 256
handle_less true n = omega arith
handle_less false n = refl

outgoing_before : (bare : History) (x : Sent) (seen : outgoing.Seen) → TookAny bare → outgoing.StandsFor seen (next_tag (with_next (Some x) bare)) (next_handle (with_next (Some x) bare)) (outstanding (with_next (Some x) bare))
    → outgoing.StandsFor (taken_back seen) (next_tag bare) (next_handle bare) (outstanding bare)
outgoing_before bare x seen took stands =
    let w = without bare x took in
    let first : is_first seen.waiting ≡ begins_large x.aim = ap is_first (stands.waiting ∙ ap waiting_of w.last) ∙ first_is x x.aim refl in
    let handle : seen.handle ≡ (if begins_large x.aim then larges_of bare + 1 else larges_of bare) % 256 = stands.handle ∙ ap (λ (n : ℕ). n % 256) w.larges in
    record {
      tag = ap tag_before (stands.tag ∙ ap (λ (n : ℕ). n % 8) w.sents) ∙ tag_less (sent_count bare);
      handle = ap (λ (b : Bool). if b then handle_before seen.handle else seen.handle) first ∙ ap (λ (n : ℕ). if begins_large x.aim then handle_before n else n) handle ∙ handle_less (begins_large x.aim) (larges_of bare);
      waiting = sym (ap waiting_of w.none);
      request = subst (λ (o : Option Sent). outgoing.IsKeptOf o seen.request) (sym w.none) tt;
    }

pub shows_before : (bare : History) (x : Sent) (seen : clear_state.Seen) → TookAny bare → clear_state.Shows seen (with_next (Some x) bare) → clear_state.Shows (record seen { outgoing = taken_back seen.outgoing }) bare
shows_before bare x seen took shows =
    let w = without bare x took in
    let h = with_next (Some x) bare in
    record {
      negotiating = subst (λ (n : Negotiation). negotiating.StandsFor seen.negotiating (phase_of bare) n) w.negotiation (subst (λ (p : Phase). negotiating.StandsFor seen.negotiating p (negotiation_of h)) w.phase shows.negotiating);
      outgoing = outgoing_before bare x seen.outgoing took shows.outgoing;
      up_to = subst (λ (o : Option Sent). IsUpToSent o (negotiation_of bare)) (sym w.none) tt;
      brought = shows.brought ∙ w.brought;
    }

-- ---- What is kept of each history.

live_from : (h bare : History) (s t : Steps) → (is_live t ≡ true → is_live s ≡ true) → session_negotiation s ≡ session_negotiation t → negotiation_of h ≡ negotiation_of bare → phase_of h ≡ phase_of bare
    → (is_live s ≡ true → (session_negotiation s ≡ negotiation_of h) × (phase_of h ≡ Negotiated)) → is_live t ≡ true → (session_negotiation t ≡ negotiation_of bare) × (phase_of bare ≡ Negotiated)
live_from h bare s t lives same under phase is live = (let l = is (lives live) in (sym same ∙ l.0 ∙ under, sym phase ∙ l.1))

same_live : (h bare : History) (i : ℕ) → session_of i h ≡ session_of i bare → negotiation_of h ≡ negotiation_of bare → phase_of h ≡ phase_of bare → LiveAt h i → LiveAt bare i
same_live h bare i same under phase at = live_from h bare (session_of i h) (session_of i bare) (λ live. ap is_live same ∙ live) (ap session_negotiation same) under phase at

live_before : (q : ReqSetup) (bare : History) (x : Sent) (b : Bool) → is_in_session x.aim ≡ b → TookFor bare x.aim → Holds q (with_next (Some x) bare) → (i : ℕ) → LiveAt bare i
live_before q bare x false is took holds i =
    let any = any_of bare x.aim took is in
    let w = without bare x any in
    same_live (with_next (Some x) bare) bare i (clear_steps bare x i any is) w.negotiation w.phase (holds.live i)
live_before q bare x true is took holds i =
    let h = with_next (Some x) bare in
    let w = without bare x (any_took bare x.aim took) in
    let its = in_session_of bare x.aim took is in
    let ends = upon_last bare its.id its.ask its.took in
    let owed = is_owed q bare (upon bare) its.id its.ask x ends its.aims holds in
    of_each (LiveAt bare) its.id
    (live_from h bare (session_of its.id h) (session_of its.id bare) (λ live. ap is_live owed.steps) (ap session_negotiation owed.steps) w.negotiation w.phase (holds.live its.id))
    (λ j ne. same_live h bare j (others_as bare (upon bare) its.id its.ask x ends its.aims j ne) w.negotiation w.phase (holds.live j)) i

pub holds_before : (q : ReqSetup) (bare : History) (x : Sent) → TookFor bare x.aim → Holds q (with_next (Some x) bare) → Holds q bare
holds_before q bare x took holds =
    let h = with_next (Some x) bare in
    let w = without bare x (any_took bare x.aim took) in
    record {
      live = live_before q bare x (is_in_session x.aim) refl took holds;
      known = subst (λ (n : Negotiation). HasSizes q → is_capable (phase_of bare) ≡ true → IsCommon q (terms_of n).common) w.negotiation
          (subst (λ (p : Phase). HasSizes q → is_capable p ≡ true → IsCommon q (connection_terms h).common) w.phase holds.known);
      waits = subst (held.Waits q bare) (sym w.none) tt;
    }
