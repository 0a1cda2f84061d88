-- Queued data and time that ends no session leave the sessions of a connection as they were, but for the seconds waited.
use Rattle.std.proofs.Common.{◌≡◌, ◌⊎◌, ◌∙◌, ℕ, ◌<◌, ◌≤◌, ◌+◌, ◌*◌, ◌==◌, List, [], ◌∷◌, ◌++◌, append_assoc, length, Bool, true, false, cond, nat_lt, nat_le, not, Option, Some, None, refl, sym, ap, subst, inl, inr, eqb-true}
use Rattle.std.specs.Prelude.{if◌then◌else◌}
use Rattle.std.proofs.lemmas.Bool.{false≢true, leb-false, ltb-false}
use Rattle.spdm_grammar.specs.declared.told.heard.ReplyFault.{ReplyFault}
use Rattle.spdm_grammar.specs.declared.told.heard.ReplyFault.TheVariants as reply_fault
use Rattle.spdm_machine.proofs.Members.{found_in, none_some}
use Rattle.responder_machine.proofs.Connected.{changed_keeps}
use Rattle.responder_machine.specs.Does.{IsMade}
use Rattle.responder_machine.specs.History as served
use Rattle.responder_machine.specs.History.Entry.{Clear, Dropped, Queued, Sealed, Ticked}
use Rattle.responder_machine.specs.Responding.{Connection, Responding, connection_of, changed, changed_if, queues, reply_fault_of}
use Rattle.responder_machine.specs.Session.{Events, session_of, is_live, is_timed, period_of, idle_of, after_tick}
use Rattle.responder_machine.specs.Session.Event.{Waited}
use Rattle.responder_machine.specs.Setup.{RspSetup}
use Rattle.world_machine.specs.World.{World}
use Rattle.spdm_progress.specs.SessionCommands.{OnlyWaited, OnlyWaits}
use Rattle.spdm_progress.proofs.Between.{IsStill}
use Rattle.spdm_progress.proofs.ClearKept.{found_mapped, same_clear}
use Rattle.spdm_progress.proofs.PacketSteps.{Pair, server}
use Rattle.spdm_progress.proofs.ResponderBegins.{SameClear, queued_same, ticked_same}
use Rattle.spdm_progress.proofs.Told.{contained}

-- A session as it was, or a live one with seconds waited after it.
abbrev pub IsSameSession : Events → Events → Type 0
IsSameSession old new = (new ≡ old) ⊎ ((seconds : ℕ) × (is_live old ≡ true) × (new ≡ Waited seconds ∷ old))

pub waits_both : (later entries : List served.Entry) → OnlyWaits later → OnlyWaits entries → OnlyWaits (later ++ entries)
waits_both [] entries a b = b
waits_both (Queued bytes ∷ later) entries a b = waits_both later entries a b
waits_both (Ticked seconds ∷ later) entries a b = waits_both later entries a b
waits_both (Clear tag t d ∷ later) entries a b = absurd a
waits_both (Sealed tag m t reply d ∷ later) entries a b = absurd a
waits_both (Dropped id ∷ later) entries a b = absurd a

pub only_further : (first before now : served.History) → OnlyWaited before now → OnlyWaited first before → OnlyWaited first now
only_further first before now x y =
    (x.0 ++ y.0, x.1 ∙ ap (λ (h : served.History). x.0 ++ h) y.1 ∙ sym (append_assoc x.0 y.0 first), waits_both x.0 y.0 x.2 y.2)

-- Two histories of one connection between which nothing came but queued data and time that ended no session.
pub record AreAlike (r : RspSetup) (old new : served.History) : Type 0 where
  pub clear : SameClear old new
  pub turns : served.clear_turns new ≡ served.clear_turns old
  pub made : IsMade r old → IsMade r new
  pub ended : served.ended_of new ≡ served.ended_of old
  pub sessions : (id : ℕ) → IsSameSession (session_of id old) (session_of id new)
  pub between : OnlyWaited old new

pub alike_itself : (r : RspSetup) (h : served.History) → AreAlike r h h
alike_itself r h = record { clear = same_clear h; turns = refl; made = λ m. m; ended = refl; sessions = λ id. inl refl; between = ([], refl, tt) }

-- ---- Queued data.

-- Data that has no fault is short enough, and finds room.
queued_within : (c : Connection) (bytes : List ℕ) → reply_fault_of (Some c) bytes ≡ None → (length bytes ≤ 1024) × (length (served.queue_of c.history) < 16)
queued_within c bytes is = go (nat_lt 1024 (length bytes)) (nat_le 16 (length (served.queue_of c.history))) refl refl is
  where
    go : (long full : Bool) → nat_lt 1024 (length bytes) ≡ long → nat_le 16 (length (served.queue_of c.history)) ≡ full
        → (if long then Some reply_fault.TooLong else (if full then Some reply_fault.Full else None)) ≡ None → (length bytes ≤ 1024) × (length (served.queue_of c.history) < 16)
    go true full l f e = absurd (none_some reply_fault.TooLong (sym e))
    go false true l f e = absurd (none_some reply_fault.Full (sym e))
    go false false l f e = (ltb-false 1024 (length bytes) l, leb-false 16 (length (served.queue_of c.history)) f)

queued_alike : (r : RspSetup) (h : served.History) (bytes : List ℕ) → length bytes ≤ 1024 → length (served.queue_of h) < 16 → AreAlike r h (Queued bytes ∷ h)
unfolding session_of
queued_alike r h bytes short room = record { clear = queued_same h bytes; turns = refl; made = λ m. (short, room, m); ended = refl; sessions = λ id. inl refl; between = (Queued bytes ∷ [], refl, tt) }

-- ---- Time.

ticked_by : (timed gone : Bool) (s : Events) (seconds : ℕ) → is_live s ≡ true → is_live (if not timed then s else (if gone then [] else Waited seconds ∷ s)) ≡ true
    → IsSameSession s (if not timed then s else (if gone then [] else Waited seconds ∷ s))
ticked_by false gone s seconds was live = inl refl
ticked_by true true s seconds was live = absurd (false≢true live)
ticked_by true false s seconds was live = inr (seconds, was, refl)

ticked_session : (s : Events) (seconds : ℕ) → (is_live s ≡ true → is_live (after_tick s seconds) ≡ true) → IsSameSession s (after_tick s seconds)
ticked_session [] seconds lives = inl refl
ticked_session (e ∷ s) seconds lives = ticked_by (is_timed (e ∷ s)) (nat_le (2 * period_of (e ∷ s)) (idle_of (e ∷ s) + seconds)) (e ∷ s) seconds refl (lives refl)

ticked_alike : (r : RspSetup) (h : served.History) (seconds : ℕ) → ((id : ℕ) → is_live (session_of id h) ≡ true → is_live (after_tick (session_of id h) seconds) ≡ true) → AreAlike r h (Ticked seconds ∷ h)
unfolding session_of
ticked_alike r h seconds lives = record { clear = ticked_same h seconds; turns = refl; made = λ m. m; ended = refl; sessions = λ id. ticked_session (session_of id h) seconds (lives id); between = (Ticked seconds ∷ [], refl, tt) }

-- ---- The connection of a pair.

-- A responder that holds the connection as it was, but for queued data and time.
pub record KeepsAlike (p : Pair) (old new : Responding) : Type 0 where
  pub part : new.part ≡ old.part
  pub given : new.given ≡ old.given
  pub connection : (h : served.History) → connection_of p.requester.eid old.connections ≡ Some (server p h) → (g : served.History) × AreAlike p.responder h g × (connection_of p.requester.eid new.connections ≡ Some (server p g))

abbrev Moved : Pair → List Connection → served.History → Type 0
Moved p connections h = (g : served.History) × AreAlike p.responder h g × (connection_of p.requester.eid connections ≡ Some (server p g))

queued_moved : (p : Pair) → p.responder.peer ≡ p.requester.eid → (r : Responding) (eid : ℕ) (bytes : List ℕ) (h : served.History) → connection_of p.requester.eid r.connections ≡ Some (server p h) → reply_fault_of (connection_of eid r.connections) bytes ≡ None
    → (b : Bool) → (p.responder.peer == eid) ≡ b → (g : served.History) × AreAlike p.responder h g × (cond b (changed (λ x. Queued bytes ∷ x) (server p h)) (server p h) ≡ server p g)
queued_moved p peer r eid bytes h is fine true same =
    let here : connection_of eid r.connections ≡ Some (server p h) = ap (λ (e : ℕ). connection_of e r.connections) (sym (eqb-true p.responder.peer eid same) ∙ peer) ∙ is in
    let within = queued_within (server p h) bytes (sym (ap (λ (o : Option Connection). reply_fault_of o bytes) here) ∙ fine) in
    (Queued bytes ∷ h, queued_alike p.responder h bytes within.0 within.1, refl)
queued_moved p peer r eid bytes h is fine false other = (h, alike_itself p.responder h, refl)

queues_by : (p : Pair) → p.responder.peer ≡ p.requester.eid → (r : Responding) (eid : ℕ) (bytes : List ℕ) (fault : Option ReplyFault) → reply_fault_of (connection_of eid r.connections) bytes ≡ fault → KeepsAlike p r (queues fault r eid bytes)
queues_by p peer r eid bytes (Some fault) is = record { part = refl; given = refl; connection = λ h here. (h, alike_itself p.responder h, here) }
queues_by p peer r eid bytes None is = record {
  part = refl;
  given = refl;
  connection = λ h here. (let x = queued_moved p peer r eid bytes h here is (p.responder.peer == eid) refl in (
    x.0,
    x.1,
    found_mapped p.requester.eid (changed_if eid (λ g. Queued bytes ∷ g)) (changed_keeps eid (λ g. Queued bytes ∷ g)) r.connections (server p h) here ∙ ap (λ (c : Connection). let o : Option Connection = Some c in o) x.2,
  ));
}

pub still_alike : (p : Pair) → p.responder.peer ≡ p.requester.eid → (world : World) (r : Responding) → IsStill world r → KeepsAlike p world.responder r
still_alike p peer world r (inl x) = subst (KeepsAlike p world.responder) (sym x.2) (queues_by p peer world.responder x.0 x.1 (reply_fault_of (connection_of x.0 world.responder.connections) x.1) refl)
still_alike p peer world r (inr x) = subst (KeepsAlike p world.responder) (sym x.2) (record {
  part = refl;
  given = refl;
  connection = λ h here. (
    Ticked x.0 ∷ h,
    ticked_alike p.responder h x.0 (x.1 (server p h) (contained world.responder.connections (server p h) (found_in (λ (c : Connection). c.setup.peer == p.requester.eid) world.responder.connections (server p h) here).0)),
    found_mapped p.requester.eid (changed (λ g. Ticked x.0 ∷ g)) (λ c. refl) world.responder.connections (server p h) here,
  );
})
