-- What a request makes of what is kept, is kept after it.
use Rattle.std.proofs.Common.{◌≡◌, ◌+◌, ◌==◌, ◌⊎◌, ℕ, List, [], ◌∷◌, refl, sym, ap, ◌∙◌, subst, Bool, true, false, Option, Some, None, Result, Ok, cond, inl, inr, eqb-true}
use Rattle.std.proofs.lemmas.Bool.{false≢true}
use Rattle.std.proofs.lemmas.Option.{none-some, same_Some}
use Rattle.mctp_framing.specs.Gathering.{Gathered}
use Rattle.mctp_framing.specs.Gathering.Gathered.{Whole, More, Dropped}
use Rattle.mctp_framing.specs.Packet.{PacketFields, parsed}
use Rattle.requester_machine.specs.History.{History, begins_large, next_tag, outstanding}
use Rattle.requester_machine.specs.Message.{Sent, body_of}
use Rattle.requester_machine.specs.Message.Command.{Connect}
use Rattle.requester_machine.specs.Session.{session_of}
use Rattle.requester_machine.specs.Setup.{ReqSetup}
use Rattle.responder_machine.specs.History as responder_history
use Rattle.spdm_basis.proofs.Bools.{and_first, and_second}
use Rattle.spdm_basis.specs.declared.PacketFault.{PacketFault}
use Rattle.spdm_machine.specs.Packets.{gathered_from}
use Rattle.check_laws.proofs.FreePadding.{padding_is_free}
use Rattle.check_laws.proofs.KeptParts.{it_owes, kept_by, kept_is, next_twice, none_owed, not_owed, owed_is, sent_twice}
use Rattle.check_laws.proofs.OneWalk.{not_later, told_later, walks_alike}
use Rattle.capture_machine.proofs.AskersHear.{later_round}
use Rattle.check_laws.proofs.PairWalks.{IsFor, of_it}
use Rattle.check_laws.specs.Keeping.{AsksKept, BeginsKept, CommandsKept, ConnectsKept, CopiesKept, GoesOnKept, Keeps, Kept, KeptAsks, SendsKept, kept_of, owed_with}
use Rattle.check_laws.specs.Order.{is_request}
use Rattle.check_laws.specs.Padding.{next_with, session_asked, with_padding}
use Rattle.requester_machine.specs.Owed.{sent_with}
use Rattle.check_laws.specs.Walks.{StepsTo, StepsBy, Walks}
use Rattle.capture_machine.proofs.AskersAlike.{AskersAlike, none_tag}
use Rattle.capture_machine.proofs.AskersAlike.AskersAlike.{Settled, Owing, Shown, Due}
use Rattle.capture_machine.proofs.AskersHear.{later_tag}
use Rattle.capture_machine.proofs.AskersStep.{owed, unowed}
use Rattle.capture_machine.specs.Capture.{AsksBy, Begins, Copies, may_begin}
use Rattle.capture_machine.specs.CapturedRequests.{Sends, Tells, is_later, owes, without_owed}
use Rattle.requester_machine.specs.Owed.{with_next}
use Rattle.capture_machine.specs.LargeRequests.{IsJudged, still_sending}
use Rattle.capture_machine.specs.Rounds.{Dialogue, Round, following_tag, new_round}
use Rattle.world_machine.specs.Setup.{Configuration}

-- The packet comes from the requester.
pub comes_from : (w : Configuration) (eid : ℕ) (p : PacketFields) → is_request w.responder.eid eid p ≡ true → IsFor w true eid p
comes_from w eid p is = record {
  to_is = and_first (p.to == w.responder.eid) (p.from == eid) is;
  end = eqb-true p.from eid (and_second (p.to == w.responder.eid) (p.from == eid) is);
  from_is = λ no. absurd (false≢true (sym no));
}

-- The tag of the next message, without one that is owed.
tag_by : (round : Option Round) (h g : History) (sd se : Option (List ℕ)) → AskersAlike round h g sd se → sd ≡ None → (b : Bool) → is_later round (outstanding h) ≡ b → next_tag (cond b (with_next None h) h) ≡ following_tag round
tag_by round _ _ _ _ (Settled h g agree not at) none true is = absurd (false≢true (sym not ∙ is))
tag_by round _ _ _ _ (Settled h g agree not at) none false is = at
tag_by round _ _ _ _ (Owing e f h g s t agree alike out sent like tagged else still at) none true is = none_tag e f h alike ∙ at
tag_by round _ _ _ _ (Owing e f h g s t agree alike out sent like tagged else still at) none false is = absurd (false≢true (sym is ∙ ap (is_later round) out ∙ still))
tag_by round _ _ _ _ (Shown h g w v a b handle number s t u waits wait aims aim tags not at) none x is = absurd (none-some w (sym none))
tag_by round _ _ _ _ (Due tag m h g w v a b handle number u still at) none x is = absurd (none-some w (sym none))

bare_tag : (w : Configuration) (q : ReqSetup) (older : List (List ℕ)) (d : Dialogue) → Walks w q older d → d.sending ≡ None → next_tag (without_owed d) ≡ following_tag d.round
bare_tag w q older d walk none = tag_by d.round d.requester d.requester d.sending d.sending (walks_alike w q older d d walk walk).alike.askers none (owes d) refl

-- Nothing large is judged where none is in progress.
judged : (d : Dialogue) (s : Sent) → d.sending ≡ None → IsJudged d.setup d.requester d.sending s.aim
judged d s none = subst (λ (o : Option (List ℕ)). IsJudged d.setup d.requester o s.aim) (sym none) tt

still : (d : Dialogue) (s : Sent) → d.sending ≡ None → None ≡ still_sending d.requester d.sending s.aim
still d s none = sym (ap (λ (o : Option (List ℕ)). still_sending d.requester o s.aim) none)

-- ---- From one walk.

module _ (w : Configuration) (q : ReqSetup) (older : List (List ℕ)) (d : Dialogue) (walk : Walks w q older d) (none : d.sending ≡ None) (small : d.fetching ≡ None) where
  -- A walk goes on with it and leads to what this is kept of.
  record Led (g : Gathered) (next : Kept) : Type 0 where
    before : Dialogue
    walks : Walks w q older before
    after : Dialogue
    asks : AsksBy before g after
    unsent : after.sending ≡ None
    unfetched : after.fetching ≡ None
    kept : next ≡ kept_of after

  copied : (tag : ℕ) (body : List ℕ) (route_is : Gathered) (next : Kept) → ((x : Dialogue) → Copies d tag body x → AsksBy d route_is x) → CopiesKept (kept_of d) tag body next → Led route_is next
  copied tag body g next asks c =
      let r : Round = c.0 in
      let more : Round = record r { waiting = r.waiting + 1 } in
      let after : Dialogue = record d { round = Some more } in
      let same : owes after ≡ owes d = later_round more r (outstanding d.requester) refl ∙ ap (λ (o : Option Round). is_later o (outstanding d.requester)) (sym c.1) in record {
        before = d;
        walks = walk;
        after = after;
        asks = asks after (r, c.1, c.2, c.3, refl);
        unsent = none;
        unfetched = small;
        kept = c.4 ∙ sym (kept_is (owes d) after same);
      }

  -- A round is begun, and nothing is owed then.
  begun : (tag : ℕ) (body : List ℕ) (g : Gathered) (next : Kept) (b : Dialogue) (h : History) → ((x : Dialogue) → Begins b tag body x → AsksBy b g x) → Walks w q older b → b.setup ≡ d.setup → b.responder ≡ d.responder → b.round ≡ d.round
      → b.fetching ≡ d.fetching → may_begin d.round body ≡ true → tag ≡ following_tag d.round → Sends b body h None → is_later (Some (new_round tag body)) (outstanding h) ≡ false
      → next ≡ record (kept_of d) { requester = h; owed = None; round = Some (new_round tag body) } → Led g next
  begun tag body g next b h asks from setup responder round fetching may at sends not is =
      let after : Dialogue = record b { requester = h; sending = None; round = Some (new_round tag body) } in
      let parts : record { setup = d.setup; requester = h; owed = None; responder = d.responder; round = Some (new_round tag body) } ≡ kept_by false after =
      ap (λ (s : ReqSetup). record { setup = s; requester = h; owed = None; responder = d.responder; round = Some (new_round tag body) }) (sym setup)
      ∙ ap (λ (l : responder_history.History). record { setup = b.setup; requester = h; owed = None; responder = l; round = Some (new_round tag body) }) (sym responder) in record {
        before = b;
        walks = from;
        after = after;
        asks = asks after (ap (λ (o : Option Round). may_begin o body) round ∙ may, at ∙ ap following_tag (sym round), (h, None, sends, refl));
        unsent = refl;
        unfetched = fetching ∙ small;
        kept = is ∙ parts ∙ sym (kept_is false after not);
      }

  sent : (tag : ℕ) (body : List ℕ) (g : Gathered) (next : Kept) → ((x b : Dialogue) → Begins b tag body x → AsksBy b g x) → BeginsKept (kept_of d) tag body next → Led g next
  unfolding Sends
  sent tag body g next asks c = by_kind c.2.1
    where
      h : History
      h = c.2.0

      at : next_tag (without_owed d) ≡ tag
      at = bare_tag w q older d walk none ∙ sym c.1

      connects : ConnectsKept (kept_of d) body h → Led g next
      connects k = begun tag body g next d h (λ x. asks x d) walk refl refl refl refl c.0 c.1 (inl (inl k, refl)) (told_later d.setup (without_owed d) Connect tag body h at k) c.2.2

      commands : CommandsKept (kept_of d) body h → Led g next
      commands k =
          let not = not_owed d k.1 in
          let whole : without_owed d ≡ d.requester = unowed d not in
          let T : History → Type 0 = λ l. Tells d.setup l k.0 body h in
          begun tag body g next d h (λ x. asks x d) walk refl refl refl refl c.0 c.1 (inl (inr (k.0, ap outstanding (sym whole) ∙ k.2, subst T whole k.3), refl)) (told_later d.setup (without_owed d) k.0 tag body h at k.3) c.2.2

      owing : GoesOnKept (kept_of d) body h → owes d ≡ true → Led g next
      owing k is =
          let has = it_owes d.round d.requester d.requester d.sending d.sending (walks_alike w q older d d walk walk).alike.askers none is in
          let s : Sent = has.sent in
          let pad : List ℕ = k.1 in
          let psk : List ℕ = d.setup.psk in
          let bare : without_owed d ≡ with_next None d.requester = owed d is in
          let mine : Sent = sent_with psk (session_of (session_asked s.aim) (with_next None d.requester)) pad s in
          let kept : k.0 ≡ sent_with psk (session_of (session_asked s.aim) (with_next None d.requester)) [] s = same_Some k.0 _ (sym k.2 ∙ owed_is d s is has.waits) in
          let it : owed_with (kept_of d) pad k.0 ≡ mine =
          ap (λ (m : Sent). owed_with (kept_of d) pad m) kept ∙ ap (λ (l : History). sent_with psk (session_of (session_asked s.aim) l) pad (sent_with psk (session_of (session_asked s.aim) (with_next None d.requester)) [] s)) bare
          ∙ sent_twice psk (session_of (session_asked s.aim) (with_next None d.requester)) pad [] s in
          let b : Dialogue = with_padding pad d in
          let has_now : b.requester ≡ with_next (Some mine) d.requester = ap (λ (o : Option Sent). with_next (next_with psk d.requester pad o) d.requester) has.waits in
          let waits : outstanding b.requester ≡ Some mine = ap outstanding has_now ∙ has.other mine in
          let later : owes b ≡ true = ap (is_later d.round) waits ∙ later_tag d.round mine s refl ∙ ap (is_later d.round) (sym has.waits) ∙ is in
          let after : h ≡ b.requester =
          k.6 ∙ ap (λ (m : Sent). with_next (Some m) (without_owed d)) it ∙ ap (with_next (Some mine)) bare ∙ next_twice d.requester (Some mine) None ∙ sym has_now in
          let sends : Sends b body h None =
          inr (inl (mine, (waits, later), ap (λ (m : Sent). begins_large m.aim) (sym kept) ∙ k.4, ap (λ (m : Sent). body_of m.content) (sym it) ∙ k.5, judged b mine none, after, still b mine none)) in
          begun tag body g next b h (λ x. asks x b) (padding_is_free w q older d pad walk is k.3) refl refl refl refl c.0 c.1 sends (not_later tag body h mine (ap outstanding after ∙ waits) (has.tag ∙ sym c.1)) c.2.2

      by_owes : (o : Bool) → owes d ≡ o → GoesOnKept (kept_of d) body h → Led g next
      by_owes true is k = owing k is
      by_owes false is k = absurd (none-some k.0 (sym (none_owed d is) ∙ k.2))

      by_kind : SendsKept (kept_of d) body h → Led g next
      by_kind (inl k) = connects k
      by_kind (inr (inl k)) = commands k
      by_kind (inr (inr k)) = by_owes (owes d) refl k

  asked : (g : Gathered) (next : Kept) → AsksKept (kept_of d) g next → Led g next
  asked (Whole route body) next c = by_kind c.2
    where
      by_kind : CopiesKept (kept_of d) route.tag body next ⊎ BeginsKept (kept_of d) route.tag body next → Led (Whole route body) next
      by_kind (inl k) = copied route.tag body (Whole route body) next (λ x copies. (c.0, c.1, inl copies)) k
      by_kind (inr k) = sent route.tag body (Whole route body) next (λ x b begins. (c.0, c.1, inr begins)) k
  asked More next c = record { before = d; walks = walk; after = d; asks = refl; unsent = none; unfetched = small; kept = c }
  asked (Dropped cause) next c = absurd c

  -- The walk with the packet.
  pub asked_keeps : (packet : List ℕ) (p : PacketFields) (next : Kept) → parsed packet ≡ Ok p → is_request w.responder.eid q.eid p ≡ true → AsksKept (kept_of d) (gathered_from w.responder.eid q.eid older p) next → Keeps w q (packet ∷ older) next
  unfolding StepsTo
  asked_keeps packet p next parses is c =
      let led = asked (gathered_from w.responder.eid q.eid older p) next c in
      let step = of_it w older q.eid p led.before led.after true (comes_from w q.eid p is) led.asks in
      let P : Result PacketFields PacketFault → Type 0 = λ r. StepsBy w q.eid older led.before led.after r in
      (led.after, (led.before, led.walks, subst P (sym parses) step), led.unsent, led.unfetched, led.kept)

pub kept_asks : KeptAsks
kept_asks w q older packet p k next parses is keeps c =
    let P : Kept → Type 0 = λ x. AsksKept x (gathered_from w.responder.eid q.eid older p) next in
    asked_keeps w q older keeps.0 keeps.1 keeps.2 keeps.3 packet p next parses is (subst P keeps.4 c)
