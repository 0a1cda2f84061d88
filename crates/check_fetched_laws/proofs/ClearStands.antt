-- Which histories a connection stands for alike.
use Rattle.std.proofs.Common.{◌≡◌, ◌+◌, ◌%◌, ◌==◌, ◌||◌, ℕ, List, [], ◌∷◌, ◌++◌, refl, sym, ap, ◌∙◌, subst, Bool, true, false, Option, Some, None, is_some, cond, inl, inr, eqb-true}
use Rattle.std.specs.Prelude.{MatchBool, not}
use Rattle.std.proofs.lemmas.Bool.{false≢true}
use Rattle.spdm_basis.proofs.Bools.{and_second}
use Rattle.spdm_grammar.specs.declared.names.request_code.TheConstants.{CHUNK_GET, GET_VERSION, PSK_EXCHANGE}
use Rattle.spdm_machine.specs.Sessions.{id_in_exchange, is_past_handshake}
use Rattle.responder_core.specs.Coming as coming
use Rattle.responder_core.specs.Connected as connected
use Rattle.responder_core.specs.LiveSession.{IsSlotOf}
use Rattle.responder_core.specs.Sessions.{slot_of}
use Rattle.responder_machine.specs.History.{Entry, History, clear_turns, negotiation_of, queue_of}
use Rattle.responder_machine.specs.History.Entry.{Clear, Sealed, Queued, Ticked, Dropped}
use Rattle.responder_machine.specs.LargeMessages.{larges_of}
use Rattle.responder_machine.specs.Session.{Events, session_of, stage_of, gives_id}
use Rattle.responder_machine.specs.Session.Event.{Began}
use Rattle.responder_machine.specs.Turn.{Effect, Turn, answer_in, handle_in, request_in, takes}
use Rattle.responder_machine.specs.Turn.Effect.{NoEffect, Took, TookData}
use Rattle.check_fetched_laws.proofs.ClearLeft.{ended}
use Rattle.check_fetched_laws.specs.ClearSessions.{AreGets, IsLeftBy, IsUnseenRequest, IsWithoutHandshake, is_in_handshake}
use Rattle.check_fetched_laws.specs.StandsAlike.{ExchangeEndsHandshake, StandsAlike, VersionEndsAll, VersionEndsFetch, version_entry}
use Rattle.capture_machine.specs.LargeAnswers.{is_unseen_effect}
use Rattle.capture_machine.specs.Rounds.{no_draw}

pub stands_alike : StandsAlike
stands_alike seen r h g alike stands = record {
  clear = record { requests = subst (coming.StandsFor seen.clear.requests r) alike.turns stands.clear.requests; kept = stands.clear.kept ∙ alike.kept };
  sessions = record { slots = λ id. subst (IsSlotOf (slot_of seen.sessions id) r) (alike.sessions id) (stands.sessions.slots id); ended = stands.sessions.ended ∙ alike.ended };
  queue = stands.queue ∙ alike.queue;
  sizes = subst (connected.HasSizesAt r) alike.turns stands.sizes;
}

-- ---- PSK_EXCHANGE.

exchange_ends : (h : History) (id other tag : ℕ) (t : Turn) → takes PSK_EXCHANGE t ≡ true → is_in_handshake (session_of id h) ≡ true → session_of other (Clear tag t no_draw ∷ Dropped id ∷ h) ≡ session_of other (Clear tag t no_draw ∷ h)
unfolding session_of
exchange_ends h id other tag t exchange is = by_id (id == other) refl
  where
    s : Events
    s = session_of other h

    new : Events
    new = Began (negotiation_of (clear_turns h)) (request_in t.effect) (answer_in t.effect) ∷ []

    at : Bool → Events → Events
    at b u = cond (takes GET_VERSION t) [] (cond b (cond (gives_id other (answer_in t.effect)) new (cond (is_past_handshake (stage_of u)) u [])) u)

    by_id : (b : Bool) → (id == other) ≡ b → at (takes PSK_EXCHANGE t) (cond b [] s) ≡ at (takes PSK_EXCHANGE t) s
    by_id false not_it = refl
    by_id true same =
        let none : cond (is_past_handshake (stage_of s)) s [] ≡ [] = ended s (subst (λ (n : ℕ). is_in_handshake (session_of n h) ≡ true) (eqb-true id other same) is) in
        ap (λ (b : Bool). at b []) exchange ∙ ap (λ (u : Events). cond (takes GET_VERSION t) [] (cond (gives_id other (answer_in t.effect)) new u)) (sym none) ∙ ap (λ (b : Bool). at b s) (sym exchange)

pub exchange_ends_handshake : ExchangeEndsHandshake
exchange_ends_handshake h id tag t exchange is = record { turns = refl; kept = refl; sessions = λ other. exchange_ends h id other tag t exchange is; ended = refl; queue = refl }

-- ---- GET_VERSION.

none_live : (tag id : ℕ) (h g : History) → session_of id (version_entry tag ∷ h) ≡ session_of id (version_entry tag ∷ g)
unfolding session_of
none_live tag id h g = refl

pub version_ends_all : VersionEndsAll
version_ends_all seen r tag h g queue next stands = record {
  clear = record {
    requests = record {
      standing = record {
        negotiating = record {
          phase = stands.clear.requests.standing.negotiating.phase;
          messages = stands.clear.requests.standing.negotiating.messages;
          up_to = stands.clear.requests.standing.negotiating.up_to;
          few = stands.clear.requests.standing.negotiating.few;
          common = stands.clear.requests.standing.negotiating.common;
          choice = stands.clear.requests.standing.negotiating.choice;
          settled = stands.clear.requests.standing.negotiating.settled;
        };
        large = record { left = stands.clear.requests.standing.large.left; next = stands.clear.requests.standing.large.next ∙ next };
      };
      collector = stands.clear.requests.collector;
      max = stands.clear.requests.max;
    };
    kept = stands.clear.kept;
  };
  sessions = record { slots = λ id. subst (IsSlotOf (slot_of seen.sessions id) r) (none_live tag id h g) (stands.sessions.slots id); ended = stands.sessions.ended };
  queue = stands.queue ∙ queue;
  sizes = stands.sizes;
}

-- ---- Behind a large answer that was not seen.

pub gets_queue : (gets : List Entry) (h : History) → AreGets gets → queue_of (gets ++ h) ≡ queue_of h
gets_queue [] h are = refl
gets_queue (Clear tag t d ∷ gets) h are = gets_queue gets h are.1
gets_queue (Sealed tag m t reply d ∷ gets) h are = absurd (false≢true are.0)
gets_queue (Queued bytes ∷ gets) h are = absurd (false≢true are.0)
gets_queue (Ticked seconds ∷ gets) h are = absurd (false≢true are.0)
gets_queue (Dropped id ∷ gets) h are = absurd (false≢true are.0)

pub small : (a b : Bool) → not (a || b) ≡ true → b ≡ false
small true b is = absurd (false≢true is)
small false true is = absurd (false≢true is)
small false false is = refl

pub gets_larges : (gets : List Entry) (h : History) → AreGets gets → larges_of (clear_turns (gets ++ h)) ≡ larges_of (clear_turns h)
gets_larges [] h are = refl
gets_larges (Clear tag t d ∷ gets) h are =
    let whole : is_some (handle_in t.effect) ≡ false = small (is_unseen_effect t.effect) (is_some (handle_in t.effect)) (and_second (takes CHUNK_GET t) _ are.0) in
    ap (λ (b : Bool). cond b (larges_of (clear_turns (gets ++ h)) + 1) (larges_of (clear_turns (gets ++ h)))) whole ∙ gets_larges gets h are.1
gets_larges (Sealed tag m t reply d ∷ gets) h are = absurd (false≢true are.0)
gets_larges (Queued bytes ∷ gets) h are = absurd (false≢true are.0)
gets_larges (Ticked seconds ∷ gets) h are = absurd (false≢true are.0)
gets_larges (Dropped id ∷ gets) h are = absurd (false≢true are.0)

unseen_handle : (e : Effect) → is_unseen_effect e ≡ true → handle_in e ≡ None
unseen_handle NoEffect is = refl
unseen_handle (Took a m [] None) is = refl
unseen_handle (Took a m [] (Some handle)) is = absurd (false≢true is)
unseen_handle (Took a m (b ∷ l) large) is = absurd (false≢true is)
unseen_handle (TookData bytes answer) is = absurd (false≢true is)

-- What is left has the same of both.
pub record IsSameLeft (h left : History) : Type 0 where
  pub queue : queue_of left ≡ queue_of h
  pub larges : larges_of (clear_turns left) ≡ larges_of (clear_turns h)

without_same : (before left : History) → IsWithoutHandshake before left → IsSameLeft before left
without_same before left (inl none) = record { queue = ap queue_of none.1; larges = ap (λ (h : History). larges_of (clear_turns h)) none.1 }
without_same before left (inr one) = record { queue = ap queue_of one.2; larges = ap (λ (h : History). larges_of (clear_turns h)) one.2 }

left_same : (entry : Entry) (before left : History) → IsUnseenRequest entry → IsLeftBy entry before left → IsSameLeft (entry ∷ before) left
left_same (Clear tag t d) before left is leaves = by_code (takes PSK_EXCHANGE t) leaves
  where
    larges : larges_of (t ∷ clear_turns before) ≡ larges_of (clear_turns before)
    larges = ap (λ (o : Option ℕ). cond (is_some o) (larges_of (clear_turns before) + 1) (larges_of (clear_turns before))) (unseen_handle t.effect is.0)

    by_code : (b : Bool) → MatchBool b (IsWithoutHandshake before left) (left ≡ before) → IsSameLeft (Clear tag t d ∷ before) left
    by_code true without = let same = without_same before left without in record { queue = same.queue; larges = same.larges ∙ sym larges }
    by_code false same = record { queue = ap queue_of same; larges = ap (λ (h : History). larges_of (clear_turns h)) same ∙ sym larges }
left_same (Sealed tag m t reply d) before left is leaves = absurd is
left_same (Queued bytes) before left is leaves = absurd is
left_same (Ticked seconds) before left is leaves = absurd is
left_same (Dropped which) before left is leaves = absurd is

pub version_ends_fetch : VersionEndsFetch
version_ends_fetch seen r tag gets entry before left are is leaves stands =
    let same = left_same entry before left is leaves in
    version_ends_all seen r tag left (gets ++ entry ∷ before) (same.queue ∙ sym (gets_queue gets (entry ∷ before) are)) (ap (λ (n : ℕ). n % 256) (same.larges ∙ sym (gets_larges gets (entry ∷ before) are))) stands
