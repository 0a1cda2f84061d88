-- GET_VERSION after a large response that is held, also where the fetch began late: it is no repeat, and nothing of the
-- fetch counts after it.
use Rattle.std.proofs.Common.{◌≡◌, ◌≤◌, ◌+◌, ◌%◌, ◌==◌, ◌&&◌, ◌||◌, ◌++◌, ◌∷◌, ◌∙◌, ℕ, List, [], refl, sym, ap, subst, Bool, true, false, Option, Some, None, is_some, cond}
use Rattle.std.specs.Prelude.{bytes_eq, not}
use Rattle.std.proofs.Math.Bool.{and-false}
use Rattle.std.proofs.lemmas.Bool.{false≢true, false_from_ne_true}
use Rattle.std.proofs.lemmas.Slice.Eq.{bytes_eq-Decides}
use Rattle.check_laws.specs.Walks.{Walks}
use Rattle.responder_core.specs.Connected as connected
use Rattle.responder_core.specs.declared.connected.Connection.{Connection}
use Rattle.check_fetched_laws.proofs.ClearLeft.{get_others}
use Rattle.check_fetched_laws.proofs.ClearStands.{version_ends_all, version_ends_fetch}
use Rattle.check_fetched_laws.proofs.VersionWalks.{FormStand, IsForm, version_is_anew, walks_form}
use Rattle.check_fetched_laws.specs.ClearSessions.{AreGets, IsLeftBy, IsUnseenRequest}
use Rattle.check_fetched_laws.specs.StandsAlike.{version_entry}
use Rattle.check_fetched_ends.proofs.HasGets.{late_left}
use Rattle.check_fetched_ends.specs.Held.{HasGets, IsLate}
use Rattle.check_late_laws.proofs.Late.Behind.{kept_as, kept_passed}
use Rattle.check_late_laws.specs.Late.Passed.{StandsBack}
use Rattle.check_late_laws.specs.declared.late_fetch.marks.Marks.{Marks}
use Rattle.requester_machine.specs.Setup.{ReqSetup}
use Rattle.responder_machine.specs.History.{Entry, History, Kept, clear_turns, kept_of, phase_of, queue_of}
use Rattle.responder_machine.specs.History.Entry.{Clear, Sealed, Queued, Ticked, Dropped}
use Rattle.responder_machine.specs.LargeMessages.{larges_of, next_handle}
use Rattle.responder_machine.specs.Refusal.{code_of, sizes_are_known}
use Rattle.responder_machine.specs.Responder.{is_repeat}
use Rattle.responder_machine.specs.Setup.{RspSetup, towards}
use Rattle.responder_machine.specs.Turn.{Turn, handle_in, is_taken, takes}
use Rattle.spdm_basis.proofs.Bools.{and_first, and_second}
use Rattle.spdm_grammar.specs.Message.RequestMessage.{GetVersion}
use Rattle.spdm_grammar.specs.Requests.{canonical_request}
use Rattle.spdm_grammar.specs.declared.names.request_code.TheConstants.{CHUNK_GET, GET_VERSION}
use Rattle.capture_machine.specs.LargeAnswers.{is_unseen_effect}
use Rattle.capture_machine.specs.Rounds.{Dialogue, no_draw}
use Rattle.world_machine.specs.Setup.{Configuration, known_of}
use Rattle.check_fetched_laws.proofs.ClearStands.{gets_larges, gets_queue}

-- ---- It is no repeat.

not_same : (m : List ℕ) → (code_of m ≡ GET_VERSION → ⊥) → bytes_eq m (canonical_request GetVersion) ≡ false
not_same m other = false_from_ne_true (bytes_eq m (canonical_request GetVersion)) (λ same. other (ap code_of ((bytes_eq-Decides m (canonical_request GetVersion)).0 same)))

-- Where the last request that was taken is not GET_VERSION.
kept_not : (tag other : ℕ) (t : Turn) → (code_of t.message ≡ GET_VERSION → ⊥) → is_repeat (kept_as other t) tag (canonical_request GetVersion) ≡ false
kept_not tag other t not_it = ap (λ (b : Bool). (other == tag) && b) (not_same t.message not_it) ∙ and-false (other == tag)

-- CHUNK_GETs leave it so.
gets_not : (n tag : ℕ) (gets : List Entry) (h : History) → AreGets gets → FormStand n (gets ++ h) → is_repeat (kept_of h) tag (canonical_request GetVersion) ≡ false → is_repeat (kept_of (gets ++ h)) tag (canonical_request GetVersion) ≡ false
gets_not n tag [] h are stands rest = rest
gets_not n tag (Clear other t d ∷ gets) h are stands rest = by_taken (is_taken t) refl (gets_not n tag gets h are.1 stands.1 rest)
  where
    repeats : Bool → Bool
    repeats b = is_repeat (cond b (kept_as other t) (kept_of (gets ++ h))) tag (canonical_request GetVersion)

    by_taken : (b : Bool) → is_taken t ≡ b → is_repeat (kept_of (gets ++ h)) tag (canonical_request GetVersion) ≡ false → is_repeat (kept_of (Clear other t d ∷ (gets ++ h))) tag (canonical_request GetVersion) ≡ false
    by_taken true taken before =
        ap repeats taken ∙ kept_not tag other t (λ code. false≢true (sym (get_others t (and_first (takes CHUNK_GET t) _ are.0)).0 ∙ (stands.0 taken).version code))
    by_taken false taken before = ap repeats taken ∙ before
gets_not n tag (Sealed other m t reply d ∷ gets) h are stands rest = absurd (false≢true are.0)
gets_not n tag (Queued bytes ∷ gets) h are stands rest = absurd (false≢true are.0)
gets_not n tag (Ticked seconds ∷ gets) h are stands rest = absurd (false≢true are.0)
gets_not n tag (Dropped id ∷ gets) h are stands rest = absurd (false≢true are.0)

form_at : (n : ℕ) (es : List Entry) (h : History) → FormStand n (es ++ h) → FormStand n h
form_at n [] h stands = stands
form_at n (e ∷ es) h stands = form_at n es h stands.1

module _ (n : ℕ) (marks : Marks) (tag : ℕ) (t : Turn) (before : History) (late : IsLate marks tag t before) (unseen : IsUnseenRequest (Clear tag t no_draw)) (stands : FormStand n before) where
  abbrev s : StandsBack before
  s = late.back

  form : IsForm n s.turn
  form = (form_at n s.behind (Clear s.tag s.turn s.draw ∷ s.before) (subst (FormStand n) s.is stands)).0 s.passed.taken

  late_room : 4 ≤ n
  late_room = form.room

  not_version : takes GET_VERSION s.turn ≡ false
  not_version = ap (takes GET_VERSION) late.same ∙ unseen.1

  late_not : (other : ℕ) → is_repeat (kept_of before) other (canonical_request GetVersion) ≡ false
  late_not other =
      ap (λ (k : Option Kept). is_repeat k other (canonical_request GetVersion)) (kept_passed before s) ∙ kept_not other s.tag s.turn (λ code. false≢true (sym not_version ∙ form.version code))

pub anew_held : (w : Configuration) (q : ReqSetup) (older : List (List ℕ)) (d : Dialogue) (late : Option Marks) (tag : ℕ) (t : Turn) (gets : List Entry) (before left : History) (other : ℕ)
    → Walks w q older d → HasGets late tag t gets before d.responder → AreGets gets → IsUnseenRequest (Clear tag t no_draw) → IsLeftBy (Clear tag t no_draw) before left
    → sizes_are_known (phase_of (clear_turns before)) ≡ true
    → (4 ≤ (towards w.responder (known_of d.setup)).transfer)
    × (is_repeat (kept_of d.responder) other (canonical_request GetVersion) ≡ false)
    × (is_repeat (kept_of left) other (canonical_request GetVersion) ≡ false)
anew_held w q older d None tag t gets before left other walk has are unseen leaves known = version_is_anew w q older d gets (Clear tag t no_draw) before left other walk has are unseen leaves known
anew_held w q older d (Some marks) tag t gets before left other walk has are unseen leaves known =
    let n : ℕ = w.responder.transfer in
    let repeats : History → Bool = λ l. is_repeat (kept_of l) other (canonical_request GetVersion) in
    let stands : FormStand n (gets ++ before) = subst (FormStand n) has.1 (walks_form n w refl q older d walk) in
    let here : FormStand n before = form_at n gets before stands in
    let none = late_not n marks tag t before has.0 unseen here other in (
      late_room n marks tag t before has.0 unseen here,
      ap repeats has.1 ∙ gets_not n other gets before are stands none,
      ap repeats (late_left marks tag t before left has.0 leaves) ∙ none,
    )

pub version_held : (late : Option Marks) (tag : ℕ) (t : Turn) (gets : List Entry) (before left h : History) → HasGets late tag t gets before h → AreGets gets → IsUnseenRequest (Clear tag t no_draw) → IsLeftBy (Clear tag t no_draw) before left
    → (seen : Connection) (r : RspSetup) (other : ℕ) → connected.StandsFor seen r (version_entry other ∷ left) → connected.StandsFor seen r (version_entry other ∷ h)
version_held None tag t gets before left h has are unseen leaves seen r other stands =
    subst (λ (l : History). connected.StandsFor seen r (version_entry other ∷ l)) (sym has) (version_ends_fetch seen r other gets (Clear tag t no_draw) before left are unseen leaves stands)
version_held (Some marks) tag t gets before left h has are unseen leaves seen r other stands =
    let handle : History → ℕ = λ l. next_handle (clear_turns l) in
    let same : left ≡ before = late_left marks tag t before left has.0 leaves in
    let handles : next_handle (clear_turns (gets ++ before)) ≡ next_handle (clear_turns before) = ap (λ (n : ℕ). n % 256) (gets_larges gets before are) in
    version_ends_all seen r other left h (ap queue_of same ∙ sym (ap queue_of has.1 ∙ gets_queue gets before are)) (ap handle same ∙ sym (ap handle has.1 ∙ handles)) stands
