-- Which requests go on while a large request is in progress.
use Rattle.std.proofs.Common.{◌≡◌, ◌+◌, ◌==◌, ◌⊎◌, ℕ, List, ◌∷◌, refl, sym, ap, ◌∙◌, subst, length, Bool, true, false, Option, Some, None, Ok, is_some, inl, inr}
use Rattle.std.specs.Bool.{OnTrue}
use Rattle.std.proofs.lemmas.Bool.{false≢true}
use Rattle.std.proofs.lemmas.Option.{none-some, same_Some}
use Rattle.mctp_framing.specs.Gathering.{Gathered}
use Rattle.mctp_framing.specs.Gathering.Gathered.{Whole, More, Dropped}
use Rattle.mctp_framing.specs.Packet.{PacketFields}
use Rattle.requester_machine.specs.History.{History, outstanding}
use Rattle.requester_machine.specs.History.Entry.{Told}
use Rattle.requester_machine.specs.May.{IsSetUp}
use Rattle.requester_machine.specs.Message.{Sent}
use Rattle.requester_machine.specs.Message.Command.{Connect}
use Rattle.requester_machine.specs.Sending.{plain_sent}
use Rattle.requester_machine.specs.Setup.{ReqSetup}
use Rattle.spdm_grammar.specs.Message.RequestMessage.{GetVersion}
use Rattle.spdm_machine.specs.Packets.{gathered_from}
use Rattle.spdm_machine.specs.Terms.{Terms}
use Rattle.check_laws.proofs.Connecting.{version_told}
use Rattle.check_laws.proofs.GoingOn.{owes_same}
use Rattle.check_laws.proofs.OneWalk.{walks_alike}
use Rattle.check_laws.proofs.PairWalks.{walks_setup}
use Rattle.check_laws.specs.Keeping.{Kept}
use Rattle.check_laws.specs.Walks.{StepsBy, Walks}
use Rattle.capture_machine.proofs.Alike.{Alike}
use Rattle.capture_machine.proofs.AskersStep.{connect_body}
use Rattle.capture_machine.proofs.SentFacts.{large_free}
use Rattle.capture_machine.specs.Capture.{AsksBy, Begins, Copies, may_begin}
use Rattle.capture_machine.specs.CapturedRequests.{Connects, GoesOn, Sends, Tells, is_later, owes, without_owed}
use Rattle.capture_machine.specs.LargeRequests.{AreAsked, MayHaveBegun, is_last_piece}
use Rattle.capture_machine.specs.Rounds.{Dialogue, Round, following_tag, no_draw}
use Rattle.world_machine.specs.Setup.{Configuration}
use Rattle.check_laws.specs.Large.Sending.{Ack, Beginning, IsSendingOf, MayBegin, MayStand, Sending, SendsAs, count_of, dialogue_of, is_last, number_of, requester_of, transfer_of}
use Rattle.check_laws.specs.Large.SendingLaws.{AsksEnding, AsksSending, ConnectsSending, CopiesSending, LastSending, NextSending, SendingAsks, SendingIsAsked, whole_kept, without_due}
use Rattle.check_laws.proofs.Large.Asked.{copied_onward, own_round, same_onward}
use Rattle.check_laws.proofs.Large.Histories.{later, requester_terms, shown_waits}
use Rattle.check_laws.proofs.Large.NextPiece.{after_piece, next_onward, no_copies, none_begun, owing, piece, went_on}
use Rattle.check_laws.proofs.Large.Onward.{asked, asks, came, keeps_on}
use Rattle.check_laws.proofs.Large.Ways.{way}

-- ---- From what is kept.

abbrev Asking : Configuration → ReqSetup → List (List ℕ) → PacketFields → Dialogue → Dialogue → Type 0
Asking w q older p x y = AsksBy x (gathered_from w.responder.eid q.eid older p) y

pub sending_asks : SendingAsks
sending_asks w q older packet p s next parses is own c = by_gathered (gathered_from w.responder.eid q.eid older p) refl c
  where
    by_gathered : (g : Gathered) → gathered_from w.responder.eid q.eid older p ≡ g → AsksSending s g next → IsSendingOf w q (packet ∷ older) next
    by_gathered (Whole route body) same k = by_kind k.2
      where
        into : (x y : Dialogue) → Copies x route.tag body y ⊎ Begins x route.tag body y → Asking w q older p x y
        into x y one = subst (λ (g : Gathered). AsksBy x g y) (sym same) (k.0, k.1, one)

        back : (x y : Dialogue) → Asking w q older p x y → Copies x route.tag body y ⊎ Begins x route.tag body y
        back x y one = (subst (λ (g : Gathered). AsksBy x g y) same one).2

        by_kind : CopiesSending s route.tag body next ⊎ NextSending s route.tag body next → IsSendingOf w q (packet ∷ older) next
        by_kind (inl copies) =
            subst (IsSendingOf w q (packet ∷ older)) (sym copies.2)
            (keeps_on w q older packet p (Asking w q older p) _ parses (asks w q older packet p parses is) (asked w q older packet p parses is)
            (copied_onward w q older s own (Asking w q older p) route.tag body copies.0 copies.1 (λ x y one. into x y (inl one)) back
            (λ x y walk begins. no_copies x route.tag body _ begins.1 (s.round, own_round w q older s own x walk, copies.0, copies.1, refl))))
        by_kind (inr goes) =
            let ack : Ack = goes.2.0 in
            let mine : IsSendingOf w q older (owing s ack) = subst (λ (o : Option Ack). IsSendingOf w q older (record s { due = o })) goes.2.2 own in
            subst (IsSendingOf w q (packet ∷ older)) (sym goes.2.6)
            (keeps_on w q older packet p (Asking w q older p) (after_piece s ack goes.2.1 route.tag body) parses (asks w q older packet p parses is) (asked w q older packet p parses is)
            (next_onward w q older s ack mine route.tag body goes.2.1 goes.0 goes.1 goes.2.3 goes.2.4 goes.2.5 (Asking w q older p) (λ x y one. into x y (inr one)) back))
    by_gathered More same k =
        subst (IsSendingOf w q (packet ∷ older)) (sym k)
        (keeps_on w q older packet p (Asking w q older p) s parses (asks w q older packet p parses is) (asked w q older packet p parses is)
        (same_onward w q older s own (Asking w q older p) (λ x. subst (λ (g : Gathered). AsksBy x g x) (sym same) refl) (λ x y one. subst (λ (g : Gathered). AsksBy x g y) same one)))
    by_gathered (Dropped cause) same k = absurd k

-- ---- From any walk.

at_true : (x : Bool) (P : Type 0) → x ≡ true → OnTrue x P → P
at_true true P is on = on
at_true false P is on = absurd (false≢true is)

-- A message is outstanding.
waits_by : (s : Sending) (o : Option Ack) (b : Beginning) (whole : List ℕ) → MayBegin s.before b → (p : Sent) × (outstanding (requester_of (record s { due = o }) b whole) ≡ Some p)
waits_by s None b whole may = let one = shown_waits s b whole may in (one.sent, one.waits)
waits_by s (Some ack) b whole may = (piece s b whole, refl)

pub requester_waits : (s : Sending) (b : Beginning) (whole : List ℕ) → MayBegin s.before b → (p : Sent) × (outstanding (requester_of s b whole) ≡ Some p)
requester_waits s b whole may = waits_by s s.due b whole may

module _ (w : Configuration) (q : ReqSetup) (older : List (List ℕ)) (s : Sending) (own : IsSendingOf w q older s) (set_up : IsSetUp q) (x : Dialogue) (walk : Walks w q older x) (tag : ℕ) (body : List ℕ) where
  abbrev one : (b : Beginning) × (v : List ℕ) × MayBegin s.before b × MayStand s v × SendsAs s.before b v x (dialogue_of s b v)
  one = own.each x walk

  abbrev b : Beginning
  b = one.0

  abbrev v : List ℕ
  v = one.1

  abbrev shape : Dialogue
  shape = dialogue_of s b v

  alike : Alike x shape
  alike = (walks_alike w q older x shape walk (own.all b v one.2 one.3).0).alike

  owes_is : owes x ≡ is_some s.due
  owes_is = owes_same x.round x.requester shape.requester x.sending shape.sending alike.askers ∙ ap (λ (o : Option Round). is_later o (outstanding shape.requester)) alike.round ∙ (own.all b v one.2 one.3).1

  never_none : outstanding x.requester ≡ None → ⊥
  never_none none =
      let has = requester_waits s b v one.2 in
      none-some has.0 (sym none ∙ one.4.waits ∙ has.1)

  terms_are : is_last_piece x.requester v (piece s b v).aim ≡ is_last s (number_of s + 1)
  terms_are =
      let a = way x.round x.requester shape.requester x.sending shape.sending v alike.askers one.4.sending in
      ap (λ (t : Terms). number_of s + 1 + 1 == count_of t.common.to_responder.transfer (length v)) (a.terms ∙ requester_terms s b v one.2)
      ∙ ap (λ (n : ℕ). number_of s + 1 + 1 == count_of (transfer_of s) n) one.3.0

  abbrev Result : Type 0
  Result = (((next : Sending) × NextSending s tag body next)) ⊎ ((next : Kept) × (LastSending s tag body next ⊎ ConnectsSending s tag body next))

  module _ (begin : may_begin (Some s.round) body ≡ true) (at : tag ≡ following_tag (Some s.round)) where
    by_connect : (h : History) → Connects x body h → Result
    by_connect h connects =
        let bare : History = without_due s b v in
        let q_is : q ≡ s.before.setup = sym (walks_setup w q older shape (own.all b v one.2 one.3).0) in
        let is = connect_body x.setup (without_owed x) body h connects in
        let after : History = Told Connect (plain_sent bare GetVersion) no_draw ∷ bare in
        let tells : Tells s.before.setup bare Connect body after = subst (λ (l : List ℕ). Tells s.before.setup bare Connect l after) (sym is) (version_told s.before.setup bare (subst IsSetUp q_is set_up)) in
        inr (whole_kept s after tag body, inr (begin, at, (b, v, after, one.2, one.3, tells, refl)))

    by_piece : (ack : Ack) (h : History) (sending : Option (List ℕ)) → s.due ≡ Some ack → GoesOn x body h sending → Result
    by_piece ack h sending due goes = by_last (is_last s (number_of s + 1)) refl
      where
        mine : IsSendingOf w q older (owing s ack)
        mine = subst (λ (o : Option Ack). IsSendingOf w q older (record s { due = o })) due own

        like : SendsAs s.before b v x (dialogue_of (owing s ack) b v)
        like = subst (λ (o : Option Ack). SendsAs s.before b v x (dialogue_of (record s { due = o }) b v)) due one.4

        by_last : (l : Bool) → is_last s (number_of s + 1) ≡ l → Result
        by_last true is =
            let on = went_on w q older s ack mine b v x body h sending one.2 like goes in
            let judged = at_true (is_last_piece x.requester v (piece s b v).aim) (AreAsked v (piece s b v).aim × MayHaveBegun x.setup x.requester) (terms_are ∙ is) on.judged in
            inr (whole_kept s (requester_of s b v) tag body, inl (begin, at, (ack, b, v, due, one.2, one.3, on.bytes, is, judged.0, one.4.begun judged.1, refl)))
        by_last false is =
            let on = went_on w q older s ack mine b v x body h sending one.2 like goes in
            inl (after_piece s ack v tag body, (begin, at, (ack, v, due, one.3, on.bytes, is, refl)))

    by_due : (o : Option Ack) → s.due ≡ o → owes x ≡ true → ((ack : Ack) → s.due ≡ Some ack → Result) → Result
    by_due None due is next = absurd (false≢true (sym (owes_is ∙ ap is_some due) ∙ is))
    by_due (Some ack) due is next = next ack due

    pub by_sends : (h : History) (sending : Option (List ℕ)) → Sends x body h sending → Result
    unfolding Sends
    by_sends h sending (inl (inl connects, none)) = by_connect h connects
    by_sends h sending (inl (inr commands, none)) = absurd (never_none commands.1)
    by_sends h sending (inr (inl goes)) = by_due s.due refl goes.1.1 (λ ack due. by_piece ack h sending due goes)
    by_sends h sending (inr (inr (whole, inl large, so))) = absurd (never_none (large_free x.setup x.requester large.3.0 large.0 large.1 no_draw large.3.2 large.4))
    by_sends h sending (inr (inr (whole, inr owed, so))) =
        by_due s.due refl owed.2.1 (λ ack due.
        let like = subst (λ (o : Option Ack). SendsAs s.before b v x (dialogue_of (record s { due = o }) b v)) due one.4 in
        absurd (none_begun x body h whole (piece s b v) like.waits (later (number_of s)) (inr owed)))

pub sending_is_asked : SendingIsAsked
sending_is_asked w q older packet p s d set_up parses is own over = by_gathered (gathered_from w.responder.eid q.eid older p) (asked w q older packet p parses is from.0 d from.2)
  where
    from : (b : Dialogue) × Walks w q older b × StepsBy w q.eid older b d (Ok p)
    from = came w q older packet p parses d over

    x : Dialogue
    x = from.0

    round : x.round ≡ Some s.round
    round = own_round w q older s own x from.1

    by_gathered : (g : Gathered) → AsksBy x g d → ((next : Sending) × AsksSending s g next) ⊎ ((next : Kept) × AsksEnding s g next)
    by_gathered (Whole route body) k = by_kind k.2
      where
        by_kind : Copies x route.tag body d ⊎ Begins x route.tag body d → ((next : Sending) × AsksSending s (Whole route body) next) ⊎ ((next : Kept) × AsksEnding s (Whole route body) next)
        by_kind (inl c) =
            let same : c.0 ≡ s.round = same_Some c.0 s.round (sym c.1 ∙ round) in
            inl (
              record s { round = record s.round { waiting = s.round.waiting + 1 } },
              (k.0, k.1, inl (ap (λ (r : Round). r.tag) (sym same) ∙ c.2, ap (λ (r : Round). r.body) (sym same) ∙ c.3, refl)),
            )
        by_kind (inr c) = by_result (by_sends w q older s own set_up x from.1 route.tag body (ap (λ (o : Option Round). may_begin o body) (sym round) ∙ c.0) (c.1 ∙ ap following_tag round) c.2.0 c.2.1 c.2.2)
          where
            by_result : ((next : Sending) × NextSending s route.tag body next) ⊎ ((next : Kept) × (LastSending s route.tag body next ⊎ ConnectsSending s route.tag body next))
                → ((next : Sending) × AsksSending s (Whole route body) next) ⊎ ((next : Kept) × AsksEnding s (Whole route body) next)
            by_result (inl on) = inl (on.0, (k.0, k.1, inr on.1))
            by_result (inr on) = inr (on.0, (k.0, k.1, on.1))
    by_gathered More k = inl (s, refl)
    by_gathered (Dropped cause) k = absurd k
