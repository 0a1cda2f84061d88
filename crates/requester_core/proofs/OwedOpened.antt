-- A record of a requester, opened without the one that it sent by itself on what it took last.
use Rattle.std.proofs.Common.{◌≡◌, ◌≢◌, ◌≤◌, ◌<◌, ◌-◌, ◌^◌, ◌∙◌, ℕ, List, Bool, false, true, Some, ap, length, sym, subst}
use Rattle.std.specs.Prelude.{if◌then◌else◌, is_ok, Result}
use Rattle.requester_core.proofs.OwedSessions.{IsLast, IsOwed, as_long, is_owed, others_as, sent_last, upon, upon_last}
use Rattle.requester_core.proofs.OwnSlots.{few_resting, first_as, opens_elsewhere, opens_named, opens_there}
use Rattle.requester_core.proofs.SessionsAsked.{is_other, of_each}
use Rattle.requester_core.proofs.SessionsRecorded.{named_is}
use Rattle.requester_core.specs.Owed.{TookLast}
use Rattle.requester_machine.specs.Owed.{with_next}
use Rattle.requester_core.specs.OwnRecords.{OpensAs, OpensNamed, id_named}
use Rattle.requester_machine.specs.Named.{names, session_named}
use Rattle.requester_core.specs.Sessions.{StandsFor, slot_of}
use Rattle.requester_core.specs.Slot.{IsSlotOf}
use Rattle.requester_core.specs.declared.in_sessions.sessions.Sessions.{Sessions}
use Rattle.psk_session.specs.Course.{with_asked}
use Rattle.psk_session.specs.OwnRecords.{IsOwnOpened}
use Rattle.requester_machine.specs.History.{History}
use Rattle.requester_machine.specs.Message.{Ask, Sent}
use Rattle.requester_machine.specs.Message.Aim.{InSession}
use Rattle.requester_machine.specs.Order.{FitsWaits, waits_aim, waits_for}
use Rattle.requester_machine.specs.Order as orders
use Rattle.requester_machine.specs.Order.Waits.{ForRecord, Rests}
use Rattle.requester_machine.specs.Session.{Steps, is_accepted, request_next, session_of}
use Rattle.requester_machine.specs.Setup.{ReqSetup}
use Rattle.spdm_basis.specs.declared.causes.record_fault.RecordFault.{RecordFault}

module _ (x : Sessions) (q : ReqSetup) (bare : History) (id : ℕ) (ask : Ask) (sent : Sent) (took : TookLast bare id) (aims : sent.aim ≡ InSession id ask) (stands : StandsFor x q (with_next (Some sent) bare)) where
  abbrev its_history : History
  its_history = with_next (Some sent) bare

  ends : IsLast bare (upon bare) id ask
  ends = upon_last bare id ask took

  owed : IsOwed q bare (upon bare) id ask sent
  owed = is_owed q bare (upon bare) id ask sent ends aims stands.holds

  its_id : x.id ≡ id
  its_id = named_is x q its_history sent id ask stands (sent_last bare id sent took) aims

  names_as : (sealed : List ℕ) (i : ℕ) → names sealed (session_of i its_history) ≡ names sealed (session_of i bare)
  names_as sealed = of_each (λ i. names sealed (session_of i its_history) ≡ names sealed (session_of i bare)) id (ap (names sealed) owed.steps) (λ i ne. ap (names sealed) (others_as bare (upon bare) id ask sent ends aims i ne))

  -- A record names the same session without it.
  pub named_as : (sealed : List ℕ) → id_named its_history sealed ≡ id_named bare sealed
  named_as sealed = first_as _ _ _ _ _ _ _ _ (names_as sealed 1) (names_as sealed 2) (names_as sealed 3) (names_as sealed 4)

  pub short_as : length bare < 2 ^ 64 - 1 → length its_history < 2 ^ 64 - 1
  short_as short = subst (λ (n : ℕ). n < 2 ^ 64 - 1) (sym (as_long (Some sent) bare)) short

  -- The session that sent it: without it, that opens as its next record which opens in its place.
  pub own_before : (sealed : List ℕ) (its : ℕ) (r : Result Unit RecordFault) (out : List ℕ) (b : Bool) → b ≡ is_ok r → Some its ≡ id_named its_history sealed → its ≡ x.id
      → ((psk : List ℕ) (s : Steps) (a : Ask) (inner pad : List ℕ) → IsSlotOf (slot_of x its) psk (with_asked psk s a inner pad) → IsOwnOpened psk s sealed r out) → OpensAs q.psk (session_named bare sealed) sealed b out
  own_before sealed its r out b told named own opens =
      opens_named q.psk bare sealed its r out b told (named ∙ named_as sealed)
      (λ accepted same.
      let is_id : its ≡ id = own ∙ its_id in
      let slot = subst (IsSlotOf (slot_of x its) q.psk) (ap (λ (i : ℕ). session_of i its_history) is_id ∙ owed.steps) (stands.slots its) in
      subst (λ (i : ℕ). IsOwnOpened q.psk (session_of i bare) sealed r out) (sym is_id) (opens q.psk (session_of id bare) ask owed.inner owed.pad slot))

  names_own : (sealed : List ℕ) (b : Bool) → b ≡ names sealed (session_of x.id its_history) → names sealed (session_of id bare) ≡ b
  names_own sealed b named = sym (named ∙ ap (λ (i : ℕ). names sealed (session_of i its_history)) its_id ∙ names_as sealed id)

  -- The session that sent it, alone.
  pub own_opens : (sealed : List ℕ) (r : Result Unit RecordFault) (out : List ℕ) (b : Bool) → b ≡ is_ok r → true ≡ names sealed (session_of x.id its_history)
      → ((psk : List ℕ) (s : Steps) (a : Ask) (inner pad : List ℕ) → IsSlotOf (slot_of x x.id) psk (with_asked psk s a inner pad) → IsOwnOpened psk s sealed r out) → OpensNamed q.psk (session_of id bare) sealed b out
  own_opens sealed r out b told named opens =
      let slot = subst (IsSlotOf (slot_of x x.id) q.psk) (ap (λ (i : ℕ). session_of i its_history) its_id ∙ owed.steps) (stands.slots x.id) in
      opens_there q.psk (session_of id bare) sealed r out b told (names_own sealed true named) (opens q.psk (session_of id bare) ask owed.inner owed.pad slot)

  pub own_names_not : (sealed out : List ℕ) → false ≡ names sealed (session_of x.id its_history) → OpensNamed q.psk (session_of id bare) sealed false out
  own_names_not sealed out named = opens_elsewhere q.psk (session_of id bare) sealed out (names_own sealed false named)

  pub rests_aside : (i : ℕ) → i ≢ id → FitsWaits Rests (session_of i its_history)
  rests_aside i ne =
      subst (λ (w : orders.Waits). FitsWaits w (session_of i its_history)) (ap (waits_for i) (sent_last bare id sent took) ∙ ap (waits_aim i) aims ∙ ap (λ (b : Bool). if b then ForRecord ask else Rests) (is_other id i ne)) (stands.orders i).fits

  -- Any other session.
  pub others_before : (sealed : List ℕ) (its : ℕ) (r : Result Unit RecordFault) (out : List ℕ) (b : Bool) → b ≡ is_ok r → Some its ≡ id_named its_history sealed → its ≢ x.id
      → ((psk : List ℕ) (s : Steps) → IsSlotOf (slot_of x its) psk s → is_accepted s ≡ true → request_next s ≤ 65535 → IsOwnOpened psk s sealed r out) → OpensAs q.psk (session_named bare sealed) sealed b out
  others_before sealed its r out b told named other opens =
      opens_named q.psk bare sealed its r out b told (named ∙ named_as sealed)
      (λ accepted same.
      let ne : its ≢ id = λ is. other (is ∙ sym its_id) in
      let steps = others_as bare (upon bare) id ask sent ends aims its ne in
      let slot = stands.slots its in
      let few = few_resting (slot_of x its) q.psk (session_of its its_history) slot (rests_aside its ne) in
      subst (λ (s : Steps). IsOwnOpened q.psk s sealed r out) steps (opens q.psk (session_of its its_history) slot (ap is_accepted steps ∙ accepted) few))
