-- What the history of a large response that is held keeps of what was left before its request, also where the fetch
-- began late.
use Rattle.std.proofs.Common.{◌≡◌, ◌≤◌, ◌&&◌, ◌+◌, ◌++◌, ◌∷◌, ◌∙◌, ℕ, List, [], refl, sym, ap, subst, Bool, true, false, Option, Some, None, arith, inl, inr}
use Rattle.std.specs.Prelude.{MatchBool, not}
use Rattle.std.proofs.lemmas.Bool.{false≢true}
use Rattle.check_laws.specs.Changes.{shown, views_in}
use Rattle.check_fetched_laws.proofs.ClearLeft.{gets_stay, sessions_are_left}
use Rattle.check_fetched_laws.proofs.TurnsBoth.{Settles}
use Rattle.check_fetched_laws.specs.ClearSessions.{AreGets, IsLeftBy, IsUnseenRequest, IsWithoutHandshake, is_in_handshake}
use Rattle.check_fetched_laws.proofs.HeldSettled.{common_stays, gets_common, settles_at}
use Rattle.check_fetched_ends.specs.Held.{HasGets, IsLate}
use Rattle.check_late_laws.proofs.Late.BehindSessions.{all_are_past}
use Rattle.check_late_laws.specs.declared.late_fetch.marks.Marks.{Marks}
use Rattle.responder_machine.specs.BoundLaws.{messages_of}
use Rattle.responder_machine.specs.History.{Entry, History}
use Rattle.responder_machine.specs.History.Entry.{Clear, Sealed, Queued, Ticked, Dropped}
use Rattle.responder_machine.specs.Place.{clear_place, place_terms}
use Rattle.responder_machine.specs.Session.{Events, id_in_record, is_live, session_of, stage_of}
use Rattle.responder_machine.specs.Setup.{RspSetup}
use Rattle.responder_machine.specs.Turn.{Turn, takes}
use Rattle.spdm_grammar.specs.declared.names.request_code.TheConstants.{PSK_EXCHANGE}
use Rattle.spdm_grammar.specs.declared.told.session_view.SessionView.{SessionView}
use Rattle.spdm_machine.specs.Sessions.{is_past_handshake}
use Rattle.capture_machine.specs.Opening.{opens_answering, opens_next}
use Rattle.capture_machine.specs.Rounds.{no_draw}

-- ---- A fetch that began late.

none_in : (live past : Bool) → (live ≡ true → past ≡ true) → (live && not past) ≡ false
none_in true past is = ap not (is refl)
none_in false past is = refl

-- After PSK_EXCHANGE none is in its handshake, so the request leaves the history at the repeat as it is.
pub late_left : (marks : Marks) (tag : ℕ) (t : Turn) (before left : History) → IsLate marks tag t before → IsLeftBy (Clear tag t no_draw) before left → left ≡ before
late_left marks tag t before left late leaves = by_code (takes PSK_EXCHANGE t) refl leaves
  where
    past : takes PSK_EXCHANGE t ≡ true → (id : ℕ) → is_in_handshake (session_of id before) ≡ false
    past exchange id =
        none_in (is_live (session_of id before)) (is_past_handshake (stage_of (session_of id before))) (all_are_past before late.back id (ap (takes PSK_EXCHANGE) late.same ∙ exchange))

    by_code : (b : Bool) → takes PSK_EXCHANGE t ≡ b → MatchBool b (IsWithoutHandshake before left) (left ≡ before) → left ≡ before
    by_code true exchange (inl none) = none.1
    by_code true exchange (inr one) = absurd (false≢true (sym (past exchange one.0) ∙ one.1))
    by_code false not_it same = same

-- ---- One more entry.

pub gets_more : (late : Option Marks) (tag : ℕ) (t : Turn) (gets : List Entry) (before h : History) (e : Entry) → HasGets late tag t gets before h → HasGets late tag t (e ∷ gets) before (e ∷ h)
gets_more None tag t gets before h e has = ap (λ (l : History). e ∷ l) has
gets_more (Some marks) tag t gets before h e has = (has.0, ap (λ (l : History). e ∷ l) has.1)

-- ---- The sessions.

pub sessions_held : (late : Option Marks) (tag : ℕ) (t : Turn) (gets : List Entry) (before left h : History) → HasGets late tag t gets before h → AreGets gets → IsUnseenRequest (Clear tag t no_draw) → IsLeftBy (Clear tag t no_draw) before left
    → (id : ℕ) → session_of id h ≡ session_of id left
sessions_held None tag t gets before left h has are unseen leaves id = ap (session_of id) has ∙ sessions_are_left gets (Clear tag t no_draw) before left are unseen leaves id
sessions_held (Some marks) tag t gets before left h has are unseen leaves id =
    ap (session_of id) has.1 ∙ gets_stay gets before id are ∙ ap (session_of id) (sym (late_left marks tag t before left has.0 leaves))

-- Where the sessions are the same, so are the views.
pub same_views : (h g : History) → ((id : ℕ) → session_of id h ≡ session_of id g) → views_in h ≡ views_in g
same_views h g sessions =
    let same = λ (id : ℕ). ap shown (sessions id) in
    ap (λ (v : Option SessionView). v ∷ shown (session_of 2 h) ∷ shown (session_of 3 h) ∷ shown (session_of 4 h) ∷ []) (same 1)
    ∙ ap (λ (v : Option SessionView). shown (session_of 1 g) ∷ v ∷ shown (session_of 3 h) ∷ shown (session_of 4 h) ∷ []) (same 2)
    ∙ ap (λ (v : Option SessionView). shown (session_of 1 g) ∷ shown (session_of 2 g) ∷ v ∷ shown (session_of 4 h) ∷ []) (same 3)
    ∙ ap (λ (v : Option SessionView). shown (session_of 1 g) ∷ shown (session_of 2 g) ∷ shown (session_of 3 g) ∷ v ∷ []) (same 4)

module _ (late : Option Marks) (tag : ℕ) (t : Turn) (gets : List Entry) (before left h : History) (has : HasGets late tag t gets before h) (are : AreGets gets) (unseen : IsUnseenRequest (Clear tag t no_draw)) (leaves : IsLeftBy (Clear tag t no_draw) before left) where
  pub views_held : views_in h ≡ views_in left
  views_held = same_views h left (sessions_held late tag t gets before left h has are unseen leaves)

  -- An answer opens as by what was left.
  pub opens_held : (r : RspSetup) (m sealed : List ℕ) → opens_answering r h true m sealed ≡ opens_answering r left true m sealed
  opens_held r m sealed = ap (λ (s : Events). opens_next r s sealed) (sessions_held late tag t gets before left h has are unseen leaves (id_in_record sealed))

-- ---- How many messages came before.

pub more_messages : (gets h : List Entry) → messages_of h ≤ messages_of (gets ++ h)
more_messages [] h = omega arith
more_messages (Clear tag t d ∷ gets) h = (let rest = more_messages gets h in omega (arith, rest))
more_messages (Sealed tag m t reply d ∷ gets) h = (let rest = more_messages gets h in omega (arith, rest))
more_messages (Queued bytes ∷ gets) h = more_messages gets h
more_messages (Ticked seconds ∷ gets) h = more_messages gets h
more_messages (Dropped id ∷ gets) h = more_messages gets h

pub few_held : (late : Option Marks) (tag : ℕ) (t : Turn) (gets : List Entry) (before h : History) → HasGets late tag t gets before h → messages_of before ≤ messages_of h
few_held None tag t gets before h has =
    let all = more_messages gets (Clear tag t no_draw ∷ before) in
    let is = ap messages_of has in
    let one : messages_of (Clear tag t no_draw ∷ before) ≡ messages_of before + 1 = refl in
    omega (arith, all, is, one)
few_held (Some marks) tag t gets before h has =
    let all = more_messages gets before in
    let is = ap messages_of has.1 in
    omega (arith, all, is)

-- ---- What both ends can do.

pub common_held : (late : Option Marks) (tag : ℕ) (t : Turn) (gets : List Entry) (before h : History) → HasGets late tag t gets before h → AreGets gets → IsUnseenRequest (Clear tag t no_draw) → Settles h
    → (place_terms (clear_place h)).common ≡ (place_terms (clear_place before)).common
common_held None tag t gets before h has are unseen settles =
    let no_caps = settles_at gets (Clear tag t no_draw) before (subst Settles has settles) unseen.0 in
    ap (λ (l : History). (place_terms (clear_place l)).common) has ∙ gets_common gets (Clear tag t no_draw ∷ before) are ∙ common_stays tag t no_draw before unseen.1 no_caps
common_held (Some marks) tag t gets before h has are unseen settles = ap (λ (l : History). (place_terms (clear_place l)).common) has.1 ∙ gets_common gets before are
