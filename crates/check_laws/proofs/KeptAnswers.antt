-- An answer goes on from what is kept exactly when it goes on from some walk.
use Rattle.std.proofs.Common.{◌≡◌, ◌==◌, ◌&&◌, not, ℕ, List, [], ◌∷◌, refl, sym, ap, ◌∙◌, subst, Bool, true, false, Option, Some, None, Result, Ok, eqb-true, arith}
use Rattle.std.specs.Prelude.{MatchBool}
use Rattle.std.proofs.lemmas.Bool.{not-true}
use Rattle.mctp_framing.specs.Gathering.{Gathered}
use Rattle.mctp_framing.specs.Gathering.Gathered.{Whole, More, Dropped}
use Rattle.mctp_framing.specs.Packet.{PacketFields}
use Rattle.requester_machine.specs.History.{History, outstanding}
use Rattle.requester_machine.specs.Message.{Sent}
use Rattle.requester_machine.specs.Session.{session_of}
use Rattle.requester_machine.specs.Setup.{ReqSetup}
use Rattle.spdm_basis.proofs.Bools.{and_first, and_second}
use Rattle.spdm_basis.specs.declared.PacketFault.{PacketFault}
use Rattle.spdm_machine.specs.Packets.{gathered_from}
use Rattle.check_laws.proofs.AnsweredOn.{replies_from}
use Rattle.check_laws.proofs.FreePadding.{padding_is_free}
use Rattle.check_laws.proofs.GoingOn.{none_fetched}
use Rattle.check_laws.proofs.KeptParts.{Owes, it_owes, kept_is, next_twice, sent_twice}
use Rattle.check_laws.proofs.OneWalk.{walks_alike}
use Rattle.check_laws.proofs.PairWalks.{IsFor, it_made, of_it}
use Rattle.check_laws.specs.Keeping.{Kept, KeptBegins, KeptIsRestored, KeptStays, KeptReplies, RepliesAreKept, kept_of, owing, restored}
use Rattle.check_laws.specs.Order.{is_answer}
use Rattle.check_laws.specs.Padding.{next_with, session_asked, with_padding}
use Rattle.requester_machine.specs.Owed.{sent_with}
use Rattle.check_laws.specs.Walks.{StepsBy, StepsTo, Walks}
use Rattle.capture_machine.proofs.AskersHear.{later_tag}
use Rattle.capture_machine.specs.Capture.{AsksBy, RepliesBy}
use Rattle.capture_machine.specs.CapturedRequests.{is_later, owes}
use Rattle.requester_machine.specs.Owed.{with_next}
use Rattle.capture_machine.specs.Rounds.{Dialogue, new_dialogue}
use Rattle.world_machine.specs.Setup.{Configuration}

-- ---- What this is kept of.

-- The dialogue without large messages.
abbrev small : Dialogue → Dialogue
small d = record d { sending = None; fetching = None }

small_is : (d : Dialogue) → d.sending ≡ None → d.fetching ≡ None → small d ≡ d
small_is d none less = ap (λ (o : Option (List ℕ)). record d { sending = o; fetching = None }) (sym none) ∙ ap (λ (o : Option (List ℕ)). record d { fetching = o }) (sym less)

module _ (w : Configuration) (q : ReqSetup) (older : List (List ℕ)) (d : Dialogue) (walk : Walks w q older d) (none : d.sending ≡ None) (less : d.fetching ≡ None) where
  unowed_is : owes d ≡ false → restored (kept_of d) ≡ d
  unowed_is not = ap restored (kept_is false d not) ∙ small_is d none less

  module _ (is : owes d ≡ true) (has : Owes d.round d.requester) where
    abbrev psk : List ℕ
    psk = d.setup.psk

    abbrev mine : Sent
    mine = sent_with psk (session_of (session_asked has.sent.aim) (with_next None d.requester)) [] has.sent

    abbrev plain : Dialogue
    plain = with_padding [] d

    next_is : next_with psk d.requester [] (outstanding d.requester) ≡ Some mine
    next_is = ap (next_with psk d.requester []) has.waits

    plain_is : plain.requester ≡ with_next (Some mine) d.requester
    plain_is = ap (λ (o : Option Sent). with_next o d.requester) next_is

    owed_is_plain : restored (kept_of d) ≡ plain
    owed_is_plain =
        let Q : History → Dialogue = λ h. record d { requester = h; sending = None; fetching = None } in
        ap restored (kept_is true d is) ∙ ap (λ (o : Option Sent). Q (owing o (with_next None d.requester))) next_is ∙ ap Q (next_twice d.requester (Some mine) None) ∙ ap Q (sym plain_is) ∙ small_is plain none less

    waits_plain : outstanding plain.requester ≡ Some mine
    waits_plain = ap outstanding plain_is ∙ has.other mine

    owes_plain : owes plain ≡ true
    owes_plain = ap (is_later d.round) waits_plain ∙ later_tag d.round mine has.sent refl ∙ ap (is_later d.round) (sym has.waits) ∙ is

    bare_plain : with_next None plain.requester ≡ with_next None d.requester
    bare_plain = ap (with_next None) plain_is ∙ next_twice d.requester None (Some mine)

    again : next_with psk plain.requester [] (outstanding plain.requester) ≡ Some mine
    again =
        ap (next_with psk plain.requester []) waits_plain ∙ ap (λ (l : History). Some (sent_with psk (session_of (session_asked has.sent.aim) l) [] mine)) bare_plain
        ∙ ap Some (sent_twice psk (session_of (session_asked has.sent.aim) (with_next None d.requester)) [] [] has.sent)

    kept_plain : kept_of plain ≡ kept_of d
    kept_plain =
        kept_is true plain owes_plain
        ∙ ap (λ (l : History). record { setup = d.setup; requester = l; owed = next_with psk plain.requester [] (outstanding plain.requester); responder = d.responder; round = d.round }) bare_plain
        ∙ ap (λ (o : Option Sent). record { setup = d.setup; requester = with_next None d.requester; owed = o; responder = d.responder; round = d.round }) (again ∙ sym next_is)
        ∙ sym (kept_is true d is)

  pub restored_is : Walks w q older (restored (kept_of d)) × (kept_of (restored (kept_of d)) ≡ kept_of d)
  restored_is = by_owes (owes d) refl
    where
      by_owes : (b : Bool) → owes d ≡ b → Walks w q older (restored (kept_of d)) × (kept_of (restored (kept_of d)) ≡ kept_of d)
      by_owes false not = (subst (Walks w q older) (sym (unowed_is not)) walk, ap kept_of (unowed_is not))
      by_owes true is =
          let has = it_owes d.round d.requester d.requester d.sending d.sending (walks_alike w q older d d walk walk).alike.askers none is in
          let plain_too = owed_is_plain is has in
          (subst (Walks w q older) (sym plain_too) (padding_is_free w q older d [] walk is (omega arith)), ap kept_of plain_too ∙ kept_plain is has)

pub kept_is_restored : KeptIsRestored
kept_is_restored w q older k keeps =
    let P : Kept → Type 0 = λ x. Walks w q older (restored x) × (kept_of (restored x) ≡ x) in
    subst P (sym keeps.4) (restored_is w q older keeps.0 keeps.1 keeps.2 keeps.3)

-- ---- An answer.

pub goes_to : (w : Configuration) (eid : ℕ) (p : PacketFields) → is_answer w.responder.eid eid p ≡ true → IsFor w false eid p
goes_to w eid p is =
    let rest : (p.from == w.responder.eid && p.to == eid) ≡ true = and_second (not (p.to == w.responder.eid)) _ is in record {
      to_is = not-true (p.to == w.responder.eid) (and_first (not (p.to == w.responder.eid)) _ is);
      end = eqb-true p.to eid (and_second (p.from == w.responder.eid) _ rest);
      from_is = λ no. and_first (p.from == w.responder.eid) _ rest;
    }

pub kept_replies : KeptReplies
unfolding StepsTo
kept_replies w q older packet p k next parses not is keeps c =
    let walk = (kept_is_restored w q older k keeps).0 in
    let step = of_it w older q.eid p (restored k) c.0 false (goes_to w q.eid p is) c.1 in
    let P : Result PacketFields PacketFault → Type 0 = λ r. StepsBy w q.eid older (restored k) c.0 r in
    (c.0, (restored k, walk, subst P (sym parses) step), unsent c.0 (gathered_from q.eid w.responder.eid older p) c.1, c.2, c.3)
  where
    unsent : (x : Dialogue) (g : Gathered) → RepliesBy w (restored k) g x → x.sending ≡ None
    unsent x (Whole route body) replies = ap (λ (y : Dialogue). y.sending) replies.2.4.3.2
    unsent x More replies = ap (λ (y : Dialogue). y.sending) replies
    unsent x (Dropped cause) replies = absurd replies

pub replies_are_kept : RepliesAreKept
unfolding StepsTo
replies_are_kept w q older packet p k x parses not is keeps walk less =
    let mine = (kept_is_restored w q older k keeps).0 in
    let P : Result PacketFields PacketFault → Type 0 = λ r. StepsBy w q.eid older walk.0 x r in
    let g : Gathered = gathered_from q.eid w.responder.eid older p in
    let replies = it_made w older q.eid p walk.0 x false (goes_to w q.eid p is) (subst P parses walk.2) in
    let alike = (walks_alike w q older walk.0 (restored k) walk.1 mine).alike in
    let more = replies_from w walk.0 (restored k) g x alike (none_fetched walk.0.fetching None alike.fetches refl) replies in
    let there : Walks w q (packet ∷ older) more.0 =
    let S : Result PacketFields PacketFault → Type 0 = λ r. StepsBy w q.eid older (restored k) more.0 r in
    (restored k, mine, subst S (sym parses) (of_it w older q.eid p (restored k) more.0 false (goes_to w q.eid p is) more.1)) in
    let fetched : more.0.fetching ≡ None = none_fetched more.0.fetching x.fetching (walks_alike w q (packet ∷ older) more.0 x there walk).alike.fetches less in
    (kept_of more.0, (more.0, more.1, fetched, refl))

-- ---- Nothing, and packets of others.

pub kept_begins : KeptBegins
kept_begins w q = (new_dialogue q, refl, refl, refl, refl)

pub kept_stays : KeptStays
unfolding StepsTo
kept_stays w q older packet p k parses not nor keeps =
    let d : Dialogue = keeps.0 in
    let Answered : Bool → Type 0 = λ x. MatchBool x (RepliesBy w d (gathered_from q.eid w.responder.eid older p) d) (d ≡ d) in
    let Asked : Bool → Type 0 = λ x. MatchBool x (AsksBy d (gathered_from w.responder.eid q.eid older p) d) (Answered (is_answer w.responder.eid q.eid p)) in
    let step : StepsBy w q.eid older d d (Ok p) = subst Asked (sym not) (subst Answered (sym nor) refl) in
    let P : Result PacketFields PacketFault → Type 0 = λ r. StepsBy w q.eid older d d r in
    (d, (d, keeps.1, subst P (sym parses) step), keeps.2, keeps.3, keeps.4)
