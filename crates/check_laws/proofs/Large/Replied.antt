-- Which answers go on while a large request is in progress.
use Rattle.std.proofs.Common.{◌≡◌, ◌<◌, ◌+◌, ◌-◌, ◌==◌, ℕ, List, ◌∷◌, refl, sym, ap, ◌∙◌, subst, drop, Bool, true, false, Option, Some, None, Ok, is_some, cond, not}
use Rattle.std.proofs.lemmas.Bool.{not-false, not-true}
use Rattle.std.proofs.lemmas.Option.{same_Some}
use Rattle.mctp_framing.specs.Gathering.{Gathered}
use Rattle.mctp_framing.specs.Gathering.Gathered.{Whole, More, Dropped}
use Rattle.mctp_framing.specs.Packet.{PacketFields}
use Rattle.requester_machine.specs.Answers.{goes_on}
use Rattle.requester_machine.specs.Bodies.{has_tag}
use Rattle.requester_machine.specs.History.{History, next_tag, outstanding}
use Rattle.requester_machine.specs.History.Effect.{Nothing}
use Rattle.requester_machine.specs.History.Entry.{TookClear}
use Rattle.requester_machine.specs.Message.{Sent}
use Rattle.requester_machine.specs.Message.Aim.{ByChunks}
use Rattle.requester_machine.specs.Setup.{ReqSetup}
use Rattle.responder_machine.specs.History as responder_history
use Rattle.responder_machine.specs.Setup.{towards}
use Rattle.spdm_grammar.specs.Message.{RequestMessage}
use Rattle.spdm_machine.specs.Packets.{gathered_from}
use Rattle.check_laws.proofs.AnsweredOn.{answers_on}
use Rattle.check_laws.proofs.GoingOn.{none_fetched}
use Rattle.check_laws.proofs.OneWalk.{walks_alike}
use Rattle.check_laws.specs.Walks.{StepsBy, Walks}
use Rattle.capture_machine.proofs.Alike.{Alike}
use Rattle.capture_machine.proofs.AskersAlike.{piece_same}
use Rattle.capture_machine.proofs.AskersHear.{later_round, next_later}
use Rattle.capture_machine.specs.Capture.{Replies, RepliesBy}
use Rattle.capture_machine.specs.CapturedAnswers.{Answers, Hears, HearsWhile}
use Rattle.capture_machine.specs.CapturedRequests.{is_later, owes}
use Rattle.capture_machine.specs.LargeAnswers.{asks_known, while_fetched}
use Rattle.capture_machine.specs.LargeRequests.{MayHaveBegun, piece_with, with_ack, with_ack_to, with_next_piece}
use Rattle.capture_machine.specs.Rounds.{Dialogue, Round, following_tag, no_draw}
use Rattle.world_machine.specs.Setup.{Configuration, known_of}
use Rattle.check_laws.specs.Large.Sending.{Ack, Beginning, IsSendingOf, MayBegin, MayStand, Sending, SendsAs, asked_of, dialogue_of, handle_of, number_of, requester_of, shown_by}
use Rattle.check_laws.specs.Large.SendingLaws.{RepliesSending, SendingIsReplied, SendingReplies, SendingStays, aside, with_ack_due}
use Rattle.check_laws.proofs.Large.Asked.{same_onward}
use Rattle.check_laws.proofs.Large.Histories.{acked_begun, shown_waits}
use Rattle.check_laws.proofs.Large.NextPiece.{piece}
use Rattle.check_laws.proofs.Large.Onward.{Onward, came, keeps_on, replied, replies, stayed, stays}
use Rattle.check_laws.proofs.Large.Ways.{shown_way, way}

-- ---- What the requester makes of an answer.

-- Another message is outstanding, and the answer leads to nothing.
ack_none : (w : List ℕ) (tag : ℕ) (m : List ℕ) (h : History) (s : Sent) → outstanding h ≡ Some s → has_tag (Some s) tag ≡ false → with_ack w tag m h ≡ h
ack_none w tag m h s waits not = ap (λ (o : Option Sent). cond (has_tag o tag) (with_ack_to w tag m h o) h) waits ∙ ap (λ (b : Bool). cond b (with_ack_to w tag m h (Some s)) h) not

-- It is taken for the acknowledgement of the chunk that is outstanding.
ack_some : (w : List ℕ) (tag : ℕ) (m : List ℕ) (h : History) (s : Sent) (a : RequestMessage) (handle number : ℕ) → outstanding h ≡ Some s → has_tag (Some s) tag ≡ true → s.aim ≡ ByChunks a handle number
    → with_ack w tag m h ≡ TookClear tag m (goes_on Nothing (piece_with h a w handle (number + 1))) no_draw ∷ h
ack_some w tag m h s a handle number waits is aims =
    ap (λ (o : Option Sent). cond (has_tag o tag) (with_ack_to w tag m h o) h) waits ∙ ap (λ (b : Bool). cond b (with_ack_to w tag m h (Some s)) h) is
    ∙ ap (with_next_piece w tag m h) aims

-- ---- By whether a chunk is owed.

module _ (w : Configuration) (q : ReqSetup) (older : List (List ℕ)) (s : Sending) (h : responder_history.History) (tag : ℕ) (answer : List ℕ) (tagged : s.round.tag ≡ tag) where
  abbrev round : Round
  round = record s.round { waiting = s.round.waiting - 1; answered = true }

  abbrev at : Option Ack → Sending
  at o = record s { due = o }

  abbrev after : Option Ack → Sending
  after o = record s { due = with_ack_due o tag answer; responder = h; round = round }

  abbrev Own : Option Ack → Type 0
  Own o = IsSendingOf w q older (at o)

  module _ (o : Option Ack) (own : Own o) (b : Beginning) (v : List ℕ) (may : MayBegin s.before b) (stand : MayStand s v) where
    abbrev shape : Dialogue
    shape = dialogue_of (at o) b v

    walk : Walks w q older shape
    walk = (own.all b v may stand).0

    owes_is : owes shape ≡ is_some o
    owes_is = (own.all b v may stand).1

    -- What the requester then is, and whether it owes a chunk.
    pub record Heard : Type 0 where
      pub is : with_ack v tag (drop 1 answer) shape.requester ≡ requester_of (after o) b v
      pub none : (fetching : Option (List ℕ)) → while_fetched (requester_of (after o) b v) fetching ≡ None
      pub known : (fetching : Option (List ℕ)) → asks_known (requester_of (after o) b v) fetching ≡ true
      pub owes_now : owes (dialogue_of (after o) b v) ≡ is_some (with_ack_due o tag answer)

    -- The same of any walk that sends these bytes so.
    pub record HeardBy (x : Dialogue) : Type 0 where
      pub waits : outstanding (with_ack v tag (drop 1 answer) x.requester) ≡ outstanding (requester_of (after o) b v)
      pub begun : (d : ReqSetup) → MayHaveBegun d (with_ack v tag (drop 1 answer) x.requester) → MayHaveBegun d x.requester

  -- No chunk is owed.
  module _ (own : Own None) (b : Beginning) (v : List ℕ) (may : MayBegin s.before b) (stand : MayStand s v) where
    abbrev mine : History
    mine = shown_by s b v

    abbrev sent : Sent
    sent = (shown_waits s b v may).sent

    waits : outstanding mine ≡ Some sent
    waits = (shown_waits s b v may).waits

    aim : sent.aim ≡ ByChunks (asked_of b) (handle_of s) (number_of s)
    aim = (shown_waits s b v may).aim

    same_tag : has_tag (Some sent) tag ≡ true
    same_tag = ap (λ (n : ℕ). sent.tag == n) (sym tagged) ∙ not-false (sent.tag == s.round.tag) (ap (is_later (Some s.round)) (sym waits) ∙ owes_is None own b v may stand)

    next_at : next_tag mine ≡ following_tag (Some s.round)
    next_at =
        let alike = (walks_alike w q older (shape None own b v may stand) (shape None own b v may stand) (walk None own b v may stand) (walk None own b v may stand)).alike.askers in
        (shown_way (Some s.round) mine mine (Some v) (Some v) v alike refl (owes_is None own b v may stand)).at

    pub heard_shown : Heard None own b v may stand
    heard_shown = record {
      is = ack_some v tag (drop 1 answer) mine sent (asked_of b) (handle_of s) (number_of s) waits same_tag aim;
      none = λ fetching. refl;
      known = λ fetching. refl;
      owes_now = next_later round (piece_with mine (asked_of b) v (handle_of s) (number_of s + 1)) next_at;
    }

    pub heard_by_shown : (x : Dialogue) → Walks w q older x → SendsAs s.before b v x (shape None own b v may stand) → HeardBy None own b v may stand x
    heard_by_shown x over like =
        let a = (walks_alike w q older x (shape None own b v may stand) over (walk None own b v may stand)).alike in
        let both = way x.round x.requester mine x.sending (Some v) v a.askers like.sending in
        let same = ack_some v tag (drop 1 answer) x.requester sent (asked_of b) (handle_of s) (number_of s) (like.waits ∙ waits) same_tag aim in record {
          waits = ap outstanding same ∙ ap Some (piece_same x.requester mine v v (asked_of b) (asked_of b) (handle_of s) (number_of s + 1) both.sent both.terms refl refl);
          begun = λ d may_have. subst (λ (P : Type 0). P)
              (acked_begun d (asked_of b) v (handle_of s) (record { tag = tag; message = drop 1 answer }) (number_of s) x.requester) (subst (MayHaveBegun d) same may_have);
        }

  -- One is owed.
  module _ (ack : Ack) (own : Own (Some ack)) (b : Beginning) (v : List ℕ) (may : MayBegin s.before b) (stand : MayStand s v) where
    other_tag : has_tag (Some (piece s b v)) tag ≡ false
    other_tag = ap (λ (n : ℕ). (piece s b v).tag == n) (sym tagged) ∙ not-true ((piece s b v).tag == s.round.tag) (owes_is (Some ack) own b v may stand)

    pub heard_due : Heard (Some ack) own b v may stand
    heard_due = record {
      is = ack_none v tag (drop 1 answer) (requester_of (at (Some ack)) b v) (piece s b v) refl other_tag;
      none = λ fetching. refl;
      known = λ fetching. refl;
      owes_now = later_round round s.round (Some (piece s b v)) refl ∙ owes_is (Some ack) own b v may stand;
    }

    pub heard_by_due : (x : Dialogue) → SendsAs s.before b v x (shape (Some ack) own b v may stand) → HeardBy (Some ack) own b v may stand x
    heard_by_due x like =
        let same = ack_none v tag (drop 1 answer) x.requester (piece s b v) like.waits other_tag in record {
          waits = ap outstanding same ∙ like.waits;
          begun = λ d may_have. subst (MayHaveBegun d) same may_have;
        }

  pub heard : (o : Option Ack) (own : Own o) (b : Beginning) (v : List ℕ) (may : MayBegin s.before b) (stand : MayStand s v) → Heard o own b v may stand
  heard None own b v may stand = heard_shown own b v may stand
  heard (Some ack) own b v may stand = heard_due ack own b v may stand

  pub heard_by : (o : Option Ack) (own : Own o) (b : Beginning) (v : List ℕ) (may : MayBegin s.before b) (stand : MayStand s v) (x : Dialogue) → Walks w q older x → SendsAs s.before b v x (dialogue_of (at o) b v) → HeardBy o own b v may stand x
  heard_by None own b v may stand x over like = heard_by_shown own b v may stand x over like
  heard_by (Some ack) own b v may stand x over like = heard_by_due ack own b v may stand x like

-- ---- An answer.

abbrev pub behind_next : Sending → responder_history.History → ℕ → List ℕ → Sending
behind_next s h tag answer = record s { due = with_ack_due s.due tag answer; responder = h; round = record s.round { waiting = s.round.waiting - 1; answered = true } }

module _ (w : Configuration) (q : ReqSetup) (older : List (List ℕ)) (s : Sending) (own : IsSendingOf w q older s) (tag : ℕ) (answer : List ℕ) where
  -- The answer goes on from each form of what is kept.
  pub replies_all : (h : responder_history.History) (fetching : Option (List ℕ)) → s.round.tag ≡ tag → 0 < s.round.waiting → Answers (towards w.responder (known_of s.before.setup)) (aside s) s.round answer h fetching
      → (b : Beginning) (v : List ℕ) → MayBegin s.before b → MayStand s v → Replies w (dialogue_of s b v) tag answer (dialogue_of (behind_next s h tag answer) b v) × (owes (dialogue_of (behind_next s h tag answer) b v) ≡ is_some (behind_next s h tag answer).due)
  unfolding Hears
  replies_all h fetching tagged waiting answers b v may stand =
      let one = heard w q older s h tag answer tagged s.due own b v may stand in
      let d : Dialogue = dialogue_of s b v in
      let r : Round = record s.round { waiting = s.round.waiting - 1; answered = true } in
      let made : dialogue_of (behind_next s h tag answer) b v ≡ record d { requester = with_ack v tag (drop 1 answer) d.requester; responder = h; fetching = while_fetched (with_ack v tag (drop 1 answer) d.requester) fetching; round = Some r } =
      ap (λ (o : Option (List ℕ)). record d { requester = requester_of (behind_next s h tag answer) b v; responder = h; fetching = o; round = Some r }) (sym (one.none fetching))
      ∙ ap (λ (g : History). record d { requester = g; responder = h; fetching = while_fetched g fetching; round = Some r }) (sym one.is) in (
        (
          s.round,
          refl,
          tagged,
          waiting,
          (
            h,
            fetching,
            answers_on (towards w.responder (known_of s.before.setup)) (aside s) d s.round answer h fetching refl refl answers,
            (with_ack v tag (drop 1 answer) d.requester, refl, made, ap (λ (g : History). asks_known g fetching) one.is ∙ one.known fetching),
          ),
        ),
        one.owes_now,
      )

  -- Any walk that goes on with it is like one of these.
  replies_each : (h : responder_history.History) → s.round.tag ≡ tag → (x y : Dialogue) → Walks w q older x → Replies w x tag answer y
      → (b : Beginning) × (v : List ℕ) × MayBegin s.before b × MayStand s v × SendsAs s.before b v y (dialogue_of (behind_next s h tag answer) b v)
  unfolding Hears
  replies_each h tagged x y walk c =
      let one = own.each x walk in
      let b : Beginning = one.0 in
      let v : List ℕ = one.1 in
      let g : History = c.4.3.0 in
      let by = heard_by w q older s h tag answer tagged s.due own b v one.2 one.3 x walk one.4 in
      let is : g ≡ with_ack v tag (drop 1 answer) x.requester = subst (λ (o : Option (List ℕ)). HearsWhile o x tag answer g) one.4.sending c.4.3.1 in
      let made : y.requester ≡ with_ack v tag (drop 1 answer) x.requester = ap (λ (d : Dialogue). d.requester) c.4.3.2 ∙ is in (
        b,
        v,
        one.2,
        one.3,
        record {
          sending = ap (λ (d : Dialogue). d.sending) c.4.3.2 ∙ one.4.sending;
          waits = ap outstanding made ∙ by.waits;
          begun = λ may. one.4.begun (by.begun x.setup (subst (λ (d : ReqSetup). MayHaveBegun d (with_ack v tag (drop 1 answer) x.requester)) (ap (λ (d : Dialogue). d.setup) c.4.3.2) (subst (MayHaveBegun y.setup) made may)));
        },
      )

  pub replied_onward : (Step : Dialogue → Dialogue → Type 0) (h : responder_history.History) (fetching : Option (List ℕ)) → s.round.tag ≡ tag → 0 < s.round.waiting
      → Answers (towards w.responder (known_of s.before.setup)) (aside s) s.round answer h fetching → ((x y : Dialogue) → Replies w x tag answer y → Step x y) → ((x y : Dialogue) → Step x y → Replies w x tag answer y)
      → Onward w q older Step (behind_next s h tag answer)
  replied_onward Step h fetching tagged waiting answers into back = record {
    held = own.held;
    more = own.more;
    begins = own.begins;
    stands = own.stands;
    all = λ b v may stand.
        let one = replies_all h fetching tagged waiting answers b v may stand in
        (dialogue_of s b v, (own.all b v may stand).0, into (dialogue_of s b v) (dialogue_of (behind_next s h tag answer) b v) one.0, one.1);
    each = λ x y walk step alike. replies_each h tagged x y walk (back x y step);
  }

abbrev Replying : Configuration → ReqSetup → List (List ℕ) → PacketFields → Dialogue → Dialogue → Type 0
Replying w q older p x y = RepliesBy w x (gathered_from q.eid w.responder.eid older p) y

pub sending_replies : SendingReplies
sending_replies w q older packet p s next parses not is own c = by_gathered (gathered_from q.eid w.responder.eid older p) refl c
  where
    by_gathered : (g : Gathered) → gathered_from q.eid w.responder.eid older p ≡ g → RepliesSending w s g next → IsSendingOf w q (packet ∷ older) next
    by_gathered (Whole route body) same k =
        subst (IsSendingOf w q (packet ∷ older)) (sym k.4.3)
        (keeps_on w q older packet p (Replying w q older p) (behind_next s k.4.0 route.tag body) parses (replies w q older packet p parses not is) (replied w q older packet p parses not is)
        (replied_onward w q older s own route.tag body (Replying w q older p) k.4.0 k.4.1 k.2 k.3 k.4.2 (λ x y one. subst (λ (g : Gathered). RepliesBy w x g y) (sym same) (k.0, k.1, one))
        (λ x y one. (subst (λ (g : Gathered). RepliesBy w x g y) same one).2)))
    by_gathered More same k =
        subst (IsSendingOf w q (packet ∷ older)) (sym k)
        (keeps_on w q older packet p (Replying w q older p) s parses (replies w q older packet p parses not is) (replied w q older packet p parses not is)
        (same_onward w q older s own (Replying w q older p) (λ x. subst (λ (g : Gathered). RepliesBy w x g x) (sym same) refl) (λ x y one. subst (λ (g : Gathered). RepliesBy w x g y) same one)))
    by_gathered (Dropped cause) same k = absurd k

pub sending_is_replied : SendingIsReplied
sending_is_replied w q older packet p s d parses not is own over = by_gathered (gathered_from q.eid w.responder.eid older p) (replied w q older packet p parses not is from.0 d from.2)
  where
    from : (b : Dialogue) × Walks w q older b × StepsBy w q.eid older b d (Ok p)
    from = came w q older packet p parses d over

    x : Dialogue
    x = from.0

    form : Dialogue
    form = dialogue_of s own.begins.0 own.stands.0

    alike : Alike x form
    alike = (walks_alike w q older x form from.1 (own.all own.begins.0 own.stands.0 own.begins.1 own.stands.1).0).alike

    by_gathered : (g : Gathered) → RepliesBy w x g d → (next : Sending) × RepliesSending w s g next
    by_gathered (Whole route body) k =
        let c = k.2 in
        let same : c.0 ≡ s.round = same_Some c.0 s.round (sym c.1 ∙ alike.round) in
        let R : ReqSetup → Type 0 = λ a. Answers (towards w.responder (known_of a)) x c.0 body c.4.0 c.4.1 in
        let answers = subst R alike.setup c.4.2 in
        let P : Round → Type 0 = λ r. Answers (towards w.responder (known_of s.before.setup)) (aside s) r body c.4.0 c.4.1 in
        let there : Answers (towards w.responder (known_of s.before.setup)) (aside s) s.round body c.4.0 c.4.1 =
        subst P same (answers_on (towards w.responder (known_of s.before.setup)) x (aside s) c.0 body c.4.0 c.4.1 alike.responder (none_fetched x.fetching None alike.fetches refl) answers) in (
          behind_next s c.4.0 route.tag body,
          (k.0, k.1, ap (λ (r : Round). r.tag) (sym same) ∙ c.2, subst (λ (r : Round). 0 < r.waiting) same c.3, (c.4.0, c.4.1, there, refl)),
        )
    by_gathered More k = (s, refl)
    by_gathered (Dropped cause) k = absurd k

-- A packet of others.
pub sending_stays : SendingStays
sending_stays w q older packet p s parses not nor own =
    keeps_on w q older packet p (λ x y. y ≡ x) s parses (stays w q older packet p parses not nor) (stayed w q older packet p parses not nor)
    (same_onward w q older s own (λ x y. y ≡ x) (λ x. refl) (λ x y one. one))
