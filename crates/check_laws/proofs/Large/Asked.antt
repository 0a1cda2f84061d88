-- What a request makes of each walk while a large request is in progress.
use Rattle.std.proofs.Common.{◌≡◌, ◌+◌, ◌⊎◌, ℕ, List, ◌∷◌, refl, sym, ap, ◌∙◌, subst, Bool, true, false, Option, Some, None, Ok, is_some, cond, inl, inr}
use Rattle.std.specs.Bool.{OnTrue}
use Rattle.mctp_framing.specs.Gathering.{Gathered}
use Rattle.mctp_framing.specs.Gathering.Gathered.{Whole, More, Dropped}
use Rattle.mctp_framing.specs.Packet.{PacketFields, parsed}
use Rattle.requester_machine.specs.History.{History, outstanding}
use Rattle.requester_machine.specs.Message.Command.{Connect}
use Rattle.requester_machine.specs.Setup.{ReqSetup}
use Rattle.spdm_grammar.specs.Requests.{canonical_request}
use Rattle.spdm_machine.specs.Packets.{gathered_from}
use Rattle.check_laws.proofs.KeptParts.{kept_is}
use Rattle.check_laws.proofs.OneWalk.{begun_later, walks_alike}
use Rattle.check_laws.specs.Keeping.{Keeps, Kept}
use Rattle.check_laws.specs.Order.{is_request}
use Rattle.check_laws.specs.Walks.{Walks}
use Rattle.capture_machine.proofs.AskersHear.{later_round}
use Rattle.capture_machine.proofs.AskersStep.{owed, unowed}
use Rattle.capture_machine.specs.Capture.{AsksBy, Begins, Copies, may_begin}
use Rattle.capture_machine.specs.CapturedRequests.{Sends, Tells, owes, without_owed}
use Rattle.capture_machine.specs.LargeRequests.{AreAsked, MayHaveBegun, is_last_piece}
use Rattle.capture_machine.specs.Rounds.{Dialogue, following_tag, new_round}
use Rattle.world_machine.specs.Setup.{Configuration}
use Rattle.check_laws.specs.Large.Sending.{Ack, Beginning, IsSendingOf, MayBegin, MaySend, MayStand, Sending, SendsAs, asked_of, chunk_body, dialogue_of, is_last, number_of, requester_of}
use Rattle.check_laws.specs.Large.SendingLaws.{AsksEnding, ConnectsSending, LastSending, SendingEnds, whole_kept, without_due}
use Rattle.check_laws.proofs.Large.Histories.{requester_begun}
use Rattle.check_laws.proofs.Large.NextPiece.{last_same, owing, piece, piece_begins}
use Rattle.check_laws.proofs.Large.Onward.{Onward, asks, goes}

-- ---- It stays.

module _ (w : Configuration) (q : ReqSetup) (older : List (List ℕ)) (s : Sending) (own : IsSendingOf w q older s) where
  pub same_onward : (Step : Dialogue → Dialogue → Type 0) → ((x : Dialogue) → Step x x) → ((x y : Dialogue) → Step x y → y ≡ x) → Onward w q older Step s
  same_onward Step into back = record {
    held = own.held;
    more = own.more;
    begins = own.begins;
    stands = own.stands;
    all = λ b whole may stand. let one = own.all b whole may stand in (dialogue_of s b whole, one.0, into (dialogue_of s b whole), one.1);
    each = λ x y walk step alike.
        let P : Dialogue → Type 0 = λ z. (b : Beginning) × (whole : List ℕ) × MayBegin s.before b × MayStand s whole × SendsAs s.before b whole z (dialogue_of s b whole) in
        subst P (sym (back x y step)) (own.each x walk);
  }

  -- The round of each walk.
  pub own_round : (x : Dialogue) → Walks w q older x → x.round ≡ Some s.round
  own_round x walk =
      let mine = (own.all own.begins.0 own.stands.0 own.begins.1 own.stands.1).0 in
      (walks_alike w q older x _ walk mine).alike.round

  abbrev copied : Sending
  copied = record s { round = record s.round { waiting = s.round.waiting + 1 } }

  pub copied_onward : (Step : Dialogue → Dialogue → Type 0) (tag : ℕ) (body : List ℕ) → s.round.tag ≡ tag → s.round.body ≡ body → ((x y : Dialogue) → Copies x tag body y → Step x y)
      → ((x y : Dialogue) → Step x y → Copies x tag body y ⊎ Begins x tag body y) → ((x y : Dialogue) → Walks w q older x → Begins x tag body y → ⊥) → Onward w q older Step copied
  copied_onward Step tag body tagged bytes into back not = record {
    held = own.held;
    more = own.more;
    begins = own.begins;
    stands = own.stands;
    all = λ b whole may stand.
        let one = own.all b whole may stand in (
          dialogue_of s b whole,
          one.0,
          into (dialogue_of s b whole) (dialogue_of copied b whole) (s.round, refl, tagged, bytes, refl),
          later_round copied.round s.round (outstanding (requester_of s b whole)) refl ∙ one.1,
        );
    each = λ x y walk step alike. by_kind x y walk (back x y step);
  }
    where
      by_kind : (x y : Dialogue) → Walks w q older x → Copies x tag body y ⊎ Begins x tag body y
          → (b : Beginning) × (whole : List ℕ) × MayBegin s.before b × MayStand s whole × SendsAs s.before b whole y (dialogue_of copied b whole)
      by_kind x y walk (inl c) =
          let one = own.each x walk in (
            one.0,
            one.1,
            one.2,
            one.3,
            record {
              sending = ap (λ (d : Dialogue). d.sending) c.4 ∙ one.4.sending;
              waits = ap (λ (d : Dialogue). outstanding d.requester) c.4 ∙ one.4.waits;
              begun = λ may. one.4.begun (subst (λ (d : Dialogue). MayHaveBegun d.setup d.requester) c.4 may);
            },
          )
      by_kind x y walk (inr c) = absurd (not x y walk c)

-- ---- It ends.

on_any : (b : Bool) (P : Type 0) → P → OnTrue b P
on_any true P p = p
on_any false P p = tt

-- Where a chunk is owed, and where none is.
bare_by : (s : Sending) (o : Option Ack) (b : Beginning) (whole : List ℕ) → owes (dialogue_of (record s { due = o }) b whole) ≡ is_some o
    → without_owed (dialogue_of (record s { due = o }) b whole) ≡ without_due (record s { due = o }) b whole
bare_by s None b whole not = unowed (dialogue_of (record s { due = None }) b whole) not
bare_by s (Some ack) b whole is = owed (dialogue_of (record s { due = Some ack }) b whole) is

pub bare_is : (s : Sending) (b : Beginning) (whole : List ℕ) → owes (dialogue_of s b whole) ≡ is_some s.due → without_owed (dialogue_of s b whole) ≡ without_due s b whole
bare_is s b whole is = bare_by s s.due b whole is

module _ (w : Configuration) (q : ReqSetup) (older : List (List ℕ)) (packet : List ℕ) (p : PacketFields) (parses : parsed packet ≡ Ok p) (is : is_request w.responder.eid q.eid p ≡ true) where
  -- A walk goes on with a request after which nothing large is in progress.
  pub ended : (s : Sending) (b : Beginning) (whole : List ℕ) (tag : ℕ) (body : List ℕ) (h : History) (next : Kept) → Walks w q older (dialogue_of s b whole) → may_begin (Some s.round) body ≡ true → tag ≡ following_tag (Some s.round)
      → Sends (dialogue_of s b whole) body h None → next ≡ whole_kept s h tag body → ((x y : Dialogue) → Begins x tag body y → AsksBy x (gathered_from w.responder.eid q.eid older p) y)
      → Keeps w q (packet ∷ older) next
  ended s b whole tag body h next walk begin at sends is_next into =
      let d : Dialogue = dialogue_of s b whole in
      let y : Dialogue = record d { requester = h; sending = None; round = Some (new_round tag body) } in
      let alike = (walks_alike w q older d d walk walk).alike.askers in
      let not : owes y ≡ false = begun_later d.setup d.requester d.requester d.sending d.sending d.responder d.round d.fetching tag body h None alike at refl sends in (
        y,
        goes w q older packet p parses d y walk (asks w q older packet p parses is d y (into d y (begin, at, (h, None, sends, refl)))),
        refl,
        refl,
        is_next ∙ sym (kept_is false y not),
      )

  last_sends : (s : Sending) (ack : Ack) (b : Beginning) (whole : List ℕ) (tag : ℕ) (body : List ℕ) → IsSendingOf w q older (owing s ack) → may_begin (Some s.round) body ≡ true → tag ≡ following_tag (Some s.round) → MayBegin s.before b → MayStand s whole
      → chunk_body s whole (number_of s + 1) ≡ body → is_last s (number_of s + 1) ≡ true → whole ≡ canonical_request (asked_of b) → MaySend s.before b whole
      → Begins (dialogue_of (owing s ack) b whole) tag body (record (dialogue_of (owing s ack) b whole) { sending = None; round = Some (new_round tag body) })
  last_sends s ack b whole tag body own begin at may stand bytes last asks_it sends =
      let ends = last_same s ack b whole may stand.0 ∙ last in
      piece_begins w q older s ack own b whole tag body None may stand begin at bytes
      (on_any (is_last_piece (requester_of (owing s ack) b whole) whole (piece s b whole).aim) (AreAsked whole (piece s b whole).aim × MayHaveBegun s.before.setup (requester_of (owing s ack) b whole))
      (asks_it, requester_begun (owing s ack) b whole may sends))
      (sym (ap (λ (x : Bool). cond x None (Some whole)) ends))

  ends_by_last : (s : Sending) (tag : ℕ) (body : List ℕ) (next : Kept) → IsSendingOf w q older s → LastSending s tag body next → ((x y : Dialogue) → Begins x tag body y → AsksBy x (gathered_from w.responder.eid q.eid older p) y) → Keeps w q (packet ∷ older) next
  ends_by_last s tag body next own c into =
      let ack : Ack = c.2.0 in
      let b : Beginning = c.2.1 in
      let whole : List ℕ = c.2.2 in
      let due : s.due ≡ Some ack = c.2.3 in
      let mine : IsSendingOf w q older (owing s ack) = subst (λ (o : Option Ack). IsSendingOf w q older (record s { due = o })) due own in
      let made = last_sends s ack b whole tag body mine c.0 c.1 c.2.4 c.2.5 c.2.6 c.2.7 c.2.8 c.2.9 in
      let same : requester_of s b whole ≡ requester_of (owing s ack) b whole = ap (λ (o : Option Ack). requester_of (record s { due = o }) b whole) due in
      let y : Dialogue = record (dialogue_of (owing s ack) b whole) { sending = None; round = Some (new_round tag body) } in
      let walk = (mine.all b whole c.2.4 c.2.5).0 in
      let sends : Sends (dialogue_of (owing s ack) b whole) body (requester_of (owing s ack) b whole) None = sent_by (dialogue_of (owing s ack) b whole) body tag made.2 in
      ended (owing s ack) b whole tag body (requester_of (owing s ack) b whole) next walk c.0 c.1 sends (c.2.10 ∙ ap (λ (h : History). whole_kept s h tag body) same) into
    where
      sent_by : (d : Dialogue) (body : List ℕ) (tag : ℕ)
          → ((h : History) × (o : Option (List ℕ)) × Sends d body h o × (record d { sending = None; round = Some (new_round tag body) } ≡ record d { requester = h; sending = o; round = Some (new_round tag body) }))
          → Sends d body d.requester None
      sent_by d body tag m =
          subst (λ (x : Dialogue). Sends d body x.requester x.sending) (sym m.3) m.2

  ends_by_connect : (s : Sending) (tag : ℕ) (body : List ℕ) (next : Kept) → IsSendingOf w q older s → ConnectsSending s tag body next → ((x y : Dialogue) → Begins x tag body y → AsksBy x (gathered_from w.responder.eid q.eid older p) y) → Keeps w q (packet ∷ older) next
  unfolding Sends
  ends_by_connect s tag body next own c into =
      let b : Beginning = c.2.0 in
      let whole : List ℕ = c.2.1 in
      let after : History = c.2.2 in
      let one = own.all b whole c.2.3 c.2.4 in
      let tells : Tells s.before.setup (without_owed (dialogue_of s b whole)) Connect body after = subst (λ (h : History). Tells s.before.setup h Connect body after) (sym (bare_is s b whole one.1)) c.2.5 in
      ended s b whole tag body after next one.0 c.0 c.1 (inl (inl tells, refl)) c.2.6 into

pub sending_ends : SendingEnds
sending_ends w q older packet p s next parses is own c = by_gathered (gathered_from w.responder.eid q.eid older p) refl c
  where
    by_gathered : (g : Gathered) → gathered_from w.responder.eid q.eid older p ≡ g → AsksEnding s g next → Keeps w q (packet ∷ older) next
    by_gathered (Whole route body) same k = by_kind k.2
      where
        into : (x y : Dialogue) → Begins x route.tag body y → AsksBy x (gathered_from w.responder.eid q.eid older p) y
        into x y begins = subst (λ (g : Gathered). AsksBy x g y) (sym same) (k.0, k.1, inr begins)

        by_kind : LastSending s route.tag body next ⊎ ConnectsSending s route.tag body next → Keeps w q (packet ∷ older) next
        by_kind (inl last) = ends_by_last w q older packet p parses is s route.tag body next own last into
        by_kind (inr connect) = ends_by_connect w q older packet p parses is s route.tag body next own connect into
    by_gathered More same k = absurd k
    by_gathered (Dropped cause) same k = absurd k
