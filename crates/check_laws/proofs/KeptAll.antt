-- A request that goes on from some walk makes something of what is kept.
use Rattle.std.proofs.Common.{◌≡◌, ◌+◌, ◌⊎◌, ℕ, List, [], refl, sym, ap, ◌∙◌, subst, true, false, Option, Some, None, Result, inl, inr}
use Rattle.std.proofs.lemmas.Option.{none-some, same_Some}
use Rattle.mctp_framing.specs.Gathering.{Gathered}
use Rattle.mctp_framing.specs.Gathering.Gathered.{Whole, More, Dropped}
use Rattle.mctp_framing.specs.Packet.{PacketFields}
use Rattle.requester_machine.specs.History.{History, begins_large, outstanding}
use Rattle.requester_machine.specs.Message.{Command, Sent, body_of}
use Rattle.requester_machine.specs.Message.Command.{Connect}
use Rattle.requester_machine.specs.Session.{Steps, session_of}
use Rattle.requester_machine.specs.Setup.{ReqSetup}
use Rattle.spdm_basis.specs.declared.PacketFault.{PacketFault}
use Rattle.spdm_machine.specs.Packets.{gathered_from}
use Rattle.check_laws.proofs.AskedOn.{tells_on}
use Rattle.check_laws.proofs.FreePadding.{owed_is_padded}
use Rattle.check_laws.proofs.GoingOn.{none_sent, owes_same}
use Rattle.check_laws.proofs.KeptParts.{bare, bare_agree, both_owe, it_owes, none_later, none_owed, owed_is, sent_twice}
use Rattle.check_laws.proofs.KeptSteps.{comes_from}
use Rattle.check_laws.proofs.OneWalk.{walks_alike}
use Rattle.check_laws.proofs.PairWalks.{it_made}
use Rattle.check_laws.proofs.Repadding.{alike_with}
use Rattle.check_laws.specs.Keeping.{AsksAreKept, AsksKept, BeginsKept, CopiesKept, Kept, SendsKept, kept_of, owed_with}
use Rattle.check_laws.specs.Padding.{next_with, session_asked, with_padding}
use Rattle.requester_machine.specs.Owed.{sent_with}
use Rattle.check_laws.specs.Walks.{StepsBy, StepsTo, Walks}
use Rattle.capture_machine.proofs.Agrees.{Agree}
use Rattle.capture_machine.proofs.Alike.{Alike}
use Rattle.capture_machine.proofs.AskersAlike.{alike_aim}
use Rattle.capture_machine.proofs.AskersStep.{owed, unowed}
use Rattle.capture_machine.specs.Capture.{AsksBy, Begins, Copies, may_begin}
use Rattle.capture_machine.specs.CapturedRequests.{Commands, Connects, GoesOn, Sends, Tells, is_later, owes, without_owed}
use Rattle.requester_machine.specs.Owed.{with_next}
use Rattle.capture_machine.specs.Rounds.{Dialogue, Round, following_tag, new_round}
use Rattle.world_machine.specs.Setup.{Configuration}

module _ (w : Configuration) (q : ReqSetup) (older : List (List ℕ)) (b d : Dialogue) (from : Walks w q older b) (walk : Walks w q older d) (none : d.sending ≡ None) where
  alike : Alike b d
  alike = (walks_alike w q older b d from walk).alike

  unsent : b.sending ≡ None
  unsent = none_sent b.round b.requester d.requester b.sending d.sending alike.askers none

  -- Both owe a message, or neither does.
  owe_alike : owes b ≡ owes d
  owe_alike = owes_same b.round b.requester d.requester b.sending d.sending alike.askers ∙ ap (λ (o : Option Round). is_later o (outstanding d.requester)) alike.round

  agree : Agree (without_owed b) (without_owed d)
  agree =
      let P : Option Round → Type 0 = λ o. Agree (without_owed b) (bare o d.requester) in
      subst P alike.round (bare_agree b.round b.requester d.requester b.sending d.sending alike.askers unsent (owes_same b.round b.requester d.requester b.sending d.sending alike.askers))

  told_kept : (c : Command) (body : List ℕ) (next : History) → Tells b.setup (without_owed b) c body next → (h : History) × Tells d.setup (without_owed d) c body h
  told_kept c body next tells =
      let more = tells_on b.setup (without_owed b) (without_owed d) c body next agree tells in
      (more.0, subst (λ (s : ReqSetup). Tells s (without_owed d) c body more.0) alike.setup more.1)

  connects_kept : (body : List ℕ) (next : History) → Connects b body next → (h : History) × SendsKept (kept_of d) body h
  connects_kept body next tells = let more = told_kept Connect body next tells in (more.0, inl more.1)

  commands_kept : (body : List ℕ) (next : History) → Commands b body next → (h : History) × SendsKept (kept_of d) body h
  commands_kept body next c =
      let not : owes b ≡ false = ap (is_later b.round) c.1 ∙ none_later b.round in
      let whole : without_owed b ≡ b.requester = unowed b not in
      let T : History → Type 0 = λ l. Tells b.setup l c.0 body next in
      let more = told_kept c.0 body next (subst T (sym whole) c.2) in
      (more.0, inr (inl (c.0, none_owed d (sym owe_alike ∙ not), sym agree.waiting ∙ ap outstanding whole ∙ c.1, more.1)))

  goes_kept : (body : List ℕ) (next : History) (sending : Option (List ℕ)) → GoesOn b body next sending → (h : History) × SendsKept (kept_of d) body h
  goes_kept body next sending c =
      let is : owes b ≡ true = c.1.1 in
      let are : owes d ≡ true = sym owe_alike ∙ is in
      let both = both_owe b.round b.requester d.requester b.sending d.sending alike.askers unsent is in
      let has = it_owes b.round b.requester d.requester b.sending d.sending alike.askers unsent is in
      let s : Sent = both.0 in
      let t : Sent = both.1 in
      let own = owed_is_padded w q older b from is in
      let pad : List ℕ = own.0 in
      let mine : Sent = sent_with b.setup.psk (session_of (session_asked s.aim) (with_next None b.requester)) pad s in
      let padded : (with_padding pad b).requester ≡ with_next (Some mine) b.requester = ap (λ (o : Option Sent). with_next (next_with b.setup.psk b.requester pad o) b.requester) both.2 in
      let same : mine ≡ s = same_Some mine s (sym (has.other mine) ∙ ap outstanding (sym padded) ∙ ap (λ (x : Dialogue). outstanding x.requester) own.2 ∙ both.2) in
      let it : c.0 ≡ s = same_Some c.0 s (sym c.1.0 ∙ both.2) in
      let bare_b : without_owed b ≡ with_next None b.requester = owed b is in
      let bare_d : without_owed d ≡ with_next None d.requester = owed d are in
      let yours : Steps = session_of (session_asked t.aim) (with_next None d.requester) in
      let sessions : session_of (session_asked t.aim) (with_next None b.requester) ≡ yours =
      ap (session_of (session_asked t.aim)) (sym bare_b) ∙ agree.sessions (session_asked t.aim) ∙ ap (session_of (session_asked t.aim)) bare_d in
      let kept : Sent = sent_with d.setup.psk yours [] t in
      let shown : owed_with (kept_of d) pad kept ≡ s =
      ap (λ (l : History). sent_with d.setup.psk (session_of (session_asked t.aim) l) pad kept) bare_d ∙ sent_twice d.setup.psk yours pad [] t
      ∙ ap (λ (r : ReqSetup). sent_with r.psk yours pad t) (sym alike.setup) ∙ ap (λ (x : Steps). sent_with b.setup.psk x pad t) (sym sessions)
      ∙ sym (alike_with b.setup.psk pad (with_next None b.requester) s t both.4) ∙ same in (
        with_next (Some (owed_with (kept_of d) pad kept)) (without_owed d),
        inr (inr (
          kept,
          pad,
          owed_is d t are both.3,
          own.1,
          ap begins_large (sym (alike_aim s t both.4)) ∙ ap (λ (m : Sent). begins_large m.aim) (sym it) ∙ c.2,
          ap (λ (m : Sent). body_of m.content) shown ∙ ap (λ (m : Sent). body_of m.content) (sym it) ∙ c.3,
          refl,
        )),
      )

  sends_kept : (body : List ℕ) (next : History) (sending : Option (List ℕ)) → sending ≡ None → Sends b body next sending → (h : History) × SendsKept (kept_of d) body h
  unfolding Sends
  sends_kept body next sending is (inl (inl connects, small)) = connects_kept body next connects
  sends_kept body next sending is (inl (inr commands, small)) = commands_kept body next commands
  sends_kept body next sending is (inr (inl goes)) = goes_kept body next sending goes
  sends_kept body next sending is (inr (inr large)) = absurd (none-some large.0 (sym is ∙ large.2))

  copies_kept : (tag : ℕ) (body : List ℕ) (x : Dialogue) → Copies b tag body x → (next : Kept) × CopiesKept (kept_of d) tag body next
  copies_kept tag body x c = (record (kept_of d) { round = Some (record c.0 { waiting = c.0.waiting + 1 }) }, (c.0, sym alike.round ∙ c.1, c.2, c.3, refl))

  begins_kept : (tag : ℕ) (body : List ℕ) (x : Dialogue) → x.sending ≡ None → Begins b tag body x → (next : Kept) × BeginsKept (kept_of d) tag body next
  begins_kept tag body x is c =
      let more = sends_kept body c.2.0 c.2.1 (ap (λ (y : Dialogue). y.sending) (sym c.2.3) ∙ is) c.2.2 in (
        record (kept_of d) { requester = more.0; owed = None; round = Some (new_round tag body) },
        (ap (λ (o : Option Round). may_begin o body) (sym alike.round) ∙ c.0, c.1 ∙ ap following_tag alike.round, (more.0, more.1, refl)),
      )

  pub asks_kept : (g : Gathered) (x : Dialogue) → x.sending ≡ None → AsksBy b g x → (next : Kept) × AsksKept (kept_of d) g next
  asks_kept (Whole route body) x is c = by_kind c.2
    where
      by_kind : Copies b route.tag body x ⊎ Begins b route.tag body x → (next : Kept) × AsksKept (kept_of d) (Whole route body) next
      by_kind (inl k) = let more = copies_kept route.tag body x k in (more.0, (c.0, c.1, inl more.1))
      by_kind (inr k) = let more = begins_kept route.tag body x is k in (more.0, (c.0, c.1, inr more.1))
  asks_kept More x is c = (kept_of d, refl)
  asks_kept (Dropped cause) x is c = absurd c

pub asks_are_kept : AsksAreKept
unfolding StepsTo
asks_are_kept w q older packet p k x parses is keeps walk none =
    let P : Result PacketFields PacketFault → Type 0 = λ r. StepsBy w q.eid older walk.0 x r in
    let asks = it_made w older q.eid p walk.0 x true (comes_from w q.eid p is) (subst P parses walk.2) in
    let more = asks_kept w q older walk.0 keeps.0 walk.1 keeps.1 keeps.2 (gathered_from w.responder.eid q.eid older p) x none asks in
    (more.0, subst (λ (y : Kept). AsksKept y (gathered_from w.responder.eid q.eid older p) more.0) (sym keeps.4) more.1)
