-- What every event of a life keeps, whatever agrees by chance: the ends stay apart and as they were set up, each draw is one
-- of the life, and each tag that was compared belongs to a session of this life.
use Rattle.std.proofs.Common.{◌≡◌, ◌⊎◌, ℕ, ◌≤◌, ◌==◌, List, [], ◌++◌, length, Bool, true, false, cond, refl, sym, ap, ◌∙◌, subst, inl, inr, eqb-true, eq-eqb}
use Rattle.key_schedule.specs.Purpose.{Purpose}
use Rattle.requester_machine.specs.Asking as asking
use Rattle.requester_machine.specs.Does as asks
use Rattle.requester_machine.specs.History as asked
use Rattle.requester_machine.specs.History.Entry.{Told, TookClear, TookRecord}
use Rattle.requester_machine.specs.Requesting.{Requesting}
use Rattle.requester_machine.specs.Session as requester
use Rattle.requester_machine.specs.Setup.{ReqSetup, ReqEnd}
use Rattle.requester_machine.specs.Shown as asked_shown
use Rattle.responder_machine.proofs.Connected.{changed_keeps, origin as connection_origin, same_connection}
use Rattle.responder_machine.specs.Does as serves
use Rattle.responder_machine.specs.History as served
use Rattle.responder_machine.specs.History.Entry.{Clear, Sealed, Queued, Ticked, Dropped}
use Rattle.responder_machine.specs.Responder as responding
use Rattle.responder_machine.specs.Responding.{Connection, Responding, all_draws, changed, changed_if, with_history}
use Rattle.responder_machine.specs.Session as responder
use Rattle.responder_machine.specs.Setup.{RspSetup, Known, towards}
use Rattle.spdm_agreement.proofs.Worlds.Fits.{Apart}
use Rattle.spdm_agreement.proofs.Worlds.RequesterChanges.{renewed, origin, still_apart}
use Rattle.spdm_agreement.proofs.Worlds.ResponderChanges as responder_changes
use Rattle.spdm_agreement.specs.Configured.{IsRequester, IsResponder, HasDraws}
use Rattle.spdm_agreement.specs.Marks.{Asked, Served}
use Rattle.spdm_agreement.specs.Story.{asked_marks, served_marks, command_marks, clear_marks, taken_marks, began_marks, record_marks}
use Rattle.spdm_lives.proofs.Checks.{AllFor, IsAsked, IsServed, asked_later, served_later, passed_in}
use Rattle.spdm_lives.proofs.RequesterDraws as requester_draws
use Rattle.spdm_lives.proofs.ResponderDraws as responder_draws
use Rattle.spdm_machine.proofs.Members.{IsIn, map_in}
use Rattle.spdm_machine.specs.Packets.{wear_limit}
use Rattle.spdm_machine.specs.TagLog.{Log}
use Rattle.world_machine.specs.Setup.{WorldSetup}
use Rattle.world_machine.specs.World.{World, SentPacket, replaced, with_requester}

-- ---- Marks grow.

pub asked_grow : (q : ReqSetup) (h : asked.History) (o : asking.Outcome) → (new : List Asked) × (asked_marks q (asked_shown.after h o) ≡ new ++ asked_marks q h)
asked_grow q h (asking.Outcome.Fails fault) = ([], refl)
asked_grow q h (asking.Outcome.Ignores cause) = ([], refl)
asked_grow q h (asking.Outcome.Warns code) = ([], refl)
asked_grow q h (asking.Outcome.Resends sent) = ([], refl)
asked_grow q h (asking.Outcome.Adds (Told c x d)) = (command_marks h c x d, refl)
asked_grow q h (asking.Outcome.Adds (TookClear tag m led d)) = (clear_marks h led.effect, refl)
asked_grow q h (asking.Outcome.Adds (TookRecord tag id sealed inner led d)) =
    (taken_marks (requester.stage_of (requester.session_of id h)) q (requester.session_of id h) (asked.outstanding h) sealed inner led, refl)

pub served_grow : (r : RspSetup) (h : served.History) (o : responding.Outcome) → (new : List Served) × (served_marks r (responding.after h o) ≡ new ++ served_marks r h)
served_grow r h (responding.Outcome.Same body) = ([], refl)
served_grow r h (responding.Outcome.Unopened body) = ([], refl)
served_grow r h (responding.Outcome.Adds (Clear tag t d)) = (began_marks h t, refl)
served_grow r h (responding.Outcome.Adds (Sealed tag sealed t reply d)) = (record_marks r (responder.session_of (responder.id_in_record sealed) h) sealed t reply, refl)
served_grow r h (responding.Outcome.Adds (Queued bytes)) = ([], refl)
served_grow r h (responding.Outcome.Adds (Ticked seconds)) = ([], refl)
served_grow r h (responding.Outcome.Adds (Dropped id)) = ([], refl)

-- ---- The ends of a life.

pub record IsAsking (a : Requesting) : Type 0 where
  pub setup : IsRequester a.setup
  pub made : asks.IsMade a.setup a.history
  pub life : requester_draws.AreOfLife a.first a.history
  pub wear : asked.draws_of a.setup a.history ≤ a.commands
  pub few : a.commands ≤ wear_limit
  pub draws : HasDraws a.first

pub record IsServing (first : ℕ) (c : Connection) : Type 0 where
  pub setup : IsResponder c.setup
  pub made : serves.IsMade c.setup c.history
  pub life : responder_draws.AreOfLife first c.history

-- The tag belongs to a session of one of these ends.
abbrev pub IsHere : List Requesting → List Connection → Purpose → Type 0
IsHere rs cs p =
    ((a : Requesting) × IsIn rs a × IsAsked a.setup (asked_marks a.setup a.history) p)
    ⊎ ((c : Connection) × IsIn cs c × IsServed c.setup (served_marks c.setup c.history) p)

pub record IsLife (w : WorldSetup) (world : World) : Type 0 where
  pub apart : Apart world.requesters world.responder.connections
  pub asks : (a : Requesting) → IsIn world.requesters a → IsAsking a
  pub serves : (c : Connection) → IsIn world.responder.connections c → IsServing world.responder.first c
  pub wear : all_draws world.responder.connections ≤ length world.responder.given
  pub few : length world.responder.given ≤ wear_limit
  pub draws : HasDraws world.responder.first
  pub first : world.responder.first ≡ w.responder.first
  pub requester_of : (e : ReqEnd) → IsIn w.requesters e → (a : Requesting) × IsIn world.requesters a × (a.setup ≡ e.setup) × (a.first ≡ e.first)
  pub end_of : (a : Requesting) → IsIn world.requesters a → (e : ReqEnd) × IsIn w.requesters e × (a.setup ≡ e.setup) × (a.first ≡ e.first)
  pub connection_of : (q : Known) → IsIn w.responder.known q → (c : Connection) × IsIn world.responder.connections c × (c.setup ≡ towards w.responder.part q)
  pub known_of : (c : Connection) → IsIn world.responder.connections c → (q : Known) × IsIn w.responder.known q × (c.setup ≡ towards w.responder.part q)
  pub checks : AllFor (IsHere world.requesters world.responder.connections) world.log

-- ---- A requester goes on.

pub record Asks (a : Requesting) (acts : Log) (given : List (List ℕ)) (commands : ℕ) (history : asked.History) : Type 0 where
  pub well : IsAsking (renewed a given commands history)
  pub later : (new : List Asked) × (asked_marks a.setup history ≡ new ++ asked_marks a.setup a.history)
  pub checks : AllFor (IsAsked a.setup (asked_marks a.setup history)) acts

module _ (w : WorldSetup) (world : World) (k : IsLife w world) (a : Requesting) (is : IsIn world.requesters a) (acts : Log) (given : List (List ℕ)) (commands : ℕ) (history : asked.History) (s : Asks a acts given commands history) where
  abbrev new : Requesting
  new = renewed a given commands history

  abbrev rs : List Requesting
  rs = with_requester new world.requesters

  -- Each requester stays, or is the one that goes on.
  placed : (b : Requesting) → IsIn world.requesters b → (x : Requesting) × IsIn rs x × (((b ≡ a) × (x ≡ new)) ⊎ (x ≡ b))
  placed b m = (replaced new b, map_in (replaced new) world.requesters b m, go (b.setup.eid == a.setup.eid) refl)
    where
      go : (t : Bool) → (b.setup.eid == a.setup.eid) ≡ t → ((b ≡ a) × (replaced new b ≡ new)) ⊎ (replaced new b ≡ b)
      go true e = inl (k.apart.eids b a m is (eqb-true _ _ e), ap (λ (t : Bool). cond t new b) e)
      go false e = inr (ap (λ (t : Bool). cond t new b) e)

  from : (x : Requesting) → IsIn rs x → (b : Requesting) × IsIn world.requesters b × (((b ≡ a) × (x ≡ new)) ⊎ (x ≡ b))
  from x m =
      let o = origin world.requesters new x m in
      (o.old, o.is, elim o.same [ inl e ↦ inl (k.apart.eids o.old a o.is is e.0, e.1) | inr e ↦ inr e.1 ])

  alike : (b x : Requesting) → ((b ≡ a) × (x ≡ new)) ⊎ (x ≡ b) → (x.setup ≡ b.setup) × (x.first ≡ b.first)
  alike b x o = elim o [
    | inl e ↦ (ap (λ (y : Requesting). y.setup) e.1 ∙ sym (ap (λ (y : Requesting). y.setup) e.0), ap (λ (y : Requesting). y.first) e.1 ∙ sym (ap (λ (y : Requesting). y.first) e.0))
    | inr e ↦ (ap (λ (y : Requesting). y.setup) e, ap (λ (y : Requesting). y.first) e)
  ]

  asked_moves : (b x : Requesting) (p : Purpose) → ((b ≡ a) × (x ≡ new)) ⊎ (x ≡ b) → IsAsked b.setup (asked_marks b.setup b.history) p → IsAsked x.setup (asked_marks x.setup x.history) p
  asked_moves b x p o h = elim o [
    | inl e ↦ subst (λ (y : Requesting). IsAsked y.setup (asked_marks y.setup y.history) p) (sym e.1)
        (subst (λ (m : List Asked). IsAsked a.setup m p) (sym s.later.1) (asked_later a.setup s.later.0 (asked_marks a.setup a.history) p (subst (λ (y : Requesting). IsAsked y.setup (asked_marks y.setup y.history) p) e.0 h)))
    | inr e ↦ subst (λ (y : Requesting). IsAsked y.setup (asked_marks y.setup y.history) p) (sym e) h
  ]

  here_moves : (p : Purpose) → IsHere world.requesters world.responder.connections p → IsHere rs world.responder.connections p
  here_moves p h = elim h [
    | inl x ↦ (let y = placed x.0 x.1 in inl (y.0, y.1, asked_moves x.0 y.0 p y.2 x.2))
    | inr x ↦ inr x
  ]

  own_here : (p : Purpose) → IsAsked a.setup (asked_marks a.setup history) p → IsHere rs world.responder.connections p
  own_here p h = inl (new, subst (IsIn rs) (ap (λ (t : Bool). cond t new a) (eq-eqb a.setup.eid a.setup.eid refl)) (map_in (replaced new) world.requesters a is), h)

  pub requester_life : (sent : List SentPacket) → IsLife w (record { requesters = rs; responder = world.responder; sent = sent; log = acts ++ world.log })
  requester_life sent = record {
    apart = still_apart world.requesters world.responder.connections k.apart a is given commands history;
    asks = λ x m. (let o = from x m in elim o.2 [ inl e ↦ subst IsAsking (sym e.1) s.well | inr e ↦ subst IsAsking (sym e) (k.asks o.0 o.1) ]);
    serves = k.serves;
    wear = k.wear;
    few = k.few;
    draws = k.draws;
    first = k.first;
    requester_of = λ e m. (let b = k.requester_of e m in let x = placed b.0 b.1 in let same = alike b.0 x.0 x.2 in (x.0, x.1, same.0 ∙ b.2, same.1 ∙ b.3));
    end_of = λ x m. (let o = from x m in let same = alike o.0 x o.2 in let e = k.end_of o.0 o.1 in (e.0, e.1, same.0 ∙ e.2, same.1 ∙ e.3));
    connection_of = k.connection_of;
    known_of = k.known_of;
    checks = record { all = λ p i x. elim (passed_in p i acts world.log x) [ inl y ↦ own_here p (s.checks.all p i y) | inr y ↦ here_moves p (k.checks.all p i y) ] };
  }

-- ---- A responder goes on.

pub record Serves (r : Responding) (c : Connection) (acts : Log) (given : List (List ℕ)) (change : served.History → served.History) : Type 0 where
  pub well : IsServing r.first (changed change c)
  pub later : (new : List Served) × (served_marks c.setup (change c.history) ≡ new ++ served_marks c.setup c.history)
  pub checks : AllFor (IsServed c.setup (served_marks c.setup (change c.history))) acts
  pub wear : all_draws (with_history c.setup.peer change r.connections) ≤ length given
  pub few : length given ≤ wear_limit

module _ (w : WorldSetup) (world : World) (k : IsLife w world) (c : Connection) (is : IsIn world.responder.connections c) (acts : Log) (given taken : List (List ℕ)) (change : served.History → served.History) (s : Serves world.responder c acts given change) where
  abbrev cs : List Connection
  cs = with_history c.setup.peer change world.responder.connections

  abbrev next : Responding
  next = record world.responder { given = given; taken = taken; connections = cs }

  given_from : (x : Connection) → IsIn cs x → (b : Connection) × IsIn world.responder.connections b × (((b ≡ c) × (x ≡ changed change c)) ⊎ (x ≡ b))
  given_from x m =
      let o = connection_origin c.setup.peer change world.responder.connections x m in (
        o.old,
        o.is,
        elim o.same [
          | inl e ↦ (let own = same_connection world.responder.connections k.apart.peers o.old c o.is is e.0 in inl (own, e.1 ∙ ap (changed change) own))
          | inr e ↦ inr e.1
        ],
      )

  given_place : (b : Connection) → IsIn world.responder.connections b → (x : Connection) × IsIn cs x × (((b ≡ c) × (x ≡ changed change c)) ⊎ (x ≡ b))
  given_place b m = (changed_if c.setup.peer change b, map_in (changed_if c.setup.peer change) world.responder.connections b m, go (b.setup.peer == c.setup.peer) refl)
    where
      go : (t : Bool) → (b.setup.peer == c.setup.peer) ≡ t → ((b ≡ c) × (changed_if c.setup.peer change b ≡ changed change c)) ⊎ (changed_if c.setup.peer change b ≡ b)
      go true e = (let own = same_connection world.responder.connections k.apart.peers b c m is (eqb-true _ _ e) in inl (own, ap (λ (t : Bool). cond t (changed change b) b) e ∙ ap (changed change) own))
      go false e = inr (ap (λ (t : Bool). cond t (changed change b) b) e)

  set_up : (b x : Connection) → ((b ≡ c) × (x ≡ changed change c)) ⊎ (x ≡ b) → x.setup ≡ b.setup
  set_up b x o = elim o [
    | inl e ↦ ap (λ (y : Connection). y.setup) e.1 ∙ sym (ap (λ (y : Connection). y.setup) e.0)
    | inr e ↦ ap (λ (y : Connection). y.setup) e
  ]

  served_moves : (b x : Connection) (p : Purpose) → ((b ≡ c) × (x ≡ changed change c)) ⊎ (x ≡ b) → IsServed b.setup (served_marks b.setup b.history) p → IsServed x.setup (served_marks x.setup x.history) p
  served_moves b x p o h = elim o [
    | inl e ↦ subst (λ (y : Connection). IsServed y.setup (served_marks y.setup y.history) p) (sym e.1)
        (subst (λ (m : List Served). IsServed c.setup m p) (sym s.later.1) (served_later c.setup s.later.0 (served_marks c.setup c.history) p (subst (λ (y : Connection). IsServed y.setup (served_marks y.setup y.history) p) e.0 h)))
    | inr e ↦ subst (λ (y : Connection). IsServed y.setup (served_marks y.setup y.history) p) (sym e) h
  ]

  there_moves : (p : Purpose) → IsHere world.requesters world.responder.connections p → IsHere world.requesters cs p
  there_moves p h = elim h [
    | inl x ↦ inl x
    | inr x ↦ (let y = given_place x.0 x.1 in inr (y.0, y.1, served_moves x.0 y.0 p y.2 x.2))
  ]

  own_there : (p : Purpose) → IsServed c.setup (served_marks c.setup (change c.history)) p → IsHere world.requesters cs p
  own_there p h = inr (changed change c, subst (IsIn cs) (ap (λ (t : Bool). cond t (changed change c) c) (eq-eqb c.setup.peer c.setup.peer refl)) (map_in (changed_if c.setup.peer change) world.responder.connections c is), h)

  pub responder_life : (sent : List SentPacket) → IsLife w (record { requesters = world.requesters; responder = next; sent = sent; log = acts ++ world.log })
  responder_life sent = record {
    apart = responder_changes.still_apart world.requesters world.responder.connections (changed_if c.setup.peer change) (changed_keeps c.setup.peer change) k.apart;
    asks = k.asks;
    serves = λ x m. (let o = given_from x m in elim o.2 [ inl e ↦ subst (IsServing world.responder.first) (sym e.1) s.well | inr e ↦ subst (IsServing world.responder.first) (sym e) (k.serves o.0 o.1) ]);
    wear = s.wear;
    few = s.few;
    draws = k.draws;
    first = k.first;
    requester_of = k.requester_of;
    end_of = k.end_of;
    connection_of = λ q m. (let b = k.connection_of q m in let x = given_place b.0 b.1 in (x.0, x.1, set_up b.0 x.0 x.2 ∙ b.2));
    known_of = λ x m. (let o = given_from x m in let q = k.known_of o.0 o.1 in (q.0, q.1, set_up o.0 x o.2 ∙ q.2));
    checks = record { all = λ p i x. elim (passed_in p i acts world.log x) [ inl y ↦ own_there p (s.checks.all p i y) | inr y ↦ there_moves p (k.checks.all p i y) ] };
  }
