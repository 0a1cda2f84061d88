-- Over the same packets there are walks with each padding of the record that is owed.
use Rattle.std.proofs.Common.{◌≡◌, ◌≤◌, ◌-◌, ◌+◌, ◌==◌, ◌||◌, ◌⊎◌, ℕ, List, [], ◌∷◌, refl, sym, ap, ◌∙◌, subst, length, Bool, true, false, Option, Some, None, is_some, Result, Ok, Err, cond, inl, inr, arith}
use Rattle.std.specs.Prelude.{MatchBool, not}
use Rattle.std.proofs.lemmas.Bool.{false≢true, not-true}
use Rattle.std.proofs.lemmas.Option.{none-some}
use Rattle.mctp_framing.specs.Gathering.{Gathered}
use Rattle.mctp_framing.specs.Gathering.Gathered.{Whole, More, Dropped}
use Rattle.mctp_framing.specs.Packet.{PacketFields, parsed}
use Rattle.requester_machine.specs.Bodies.{has_tag}
use Rattle.requester_machine.specs.History.{History, outstanding}
use Rattle.requester_machine.specs.Setup.{ReqSetup}
use Rattle.responder_machine.specs.History as responder_history
use Rattle.responder_machine.specs.Setup.{towards}
use Rattle.spdm_basis.specs.declared.PacketFault.{PacketFault}
use Rattle.spdm_machine.specs.Packets.{gathered_from}
use Rattle.check_laws.proofs.AnsweredOn.{answers_on}
use Rattle.check_laws.proofs.OneWalk.{begun_later, walks_alike}
use Rattle.capture_machine.proofs.AskersHear.{later_round}
use Rattle.check_laws.proofs.Repadding.{Paddable, clear_same, fetch_same, owing_hears, repadded, settled_pads}
use Rattle.check_laws.specs.Order.{is_answer, is_request}
use Rattle.check_laws.specs.Padding.{OwedIsPadded, PaddingIsFree, with_padding}
use Rattle.check_laws.specs.Walks.{StepsTo, StepsBy, Walks}
use Rattle.capture_machine.proofs.AskersAlike.{AskersAlike}
use Rattle.capture_machine.proofs.AskersAlike.AskersAlike.{Settled, Owing, Shown, Due}
use Rattle.capture_machine.proofs.AskersBegin.{dial}
use Rattle.capture_machine.proofs.WalksAlike.{BothAlike}
use Rattle.capture_machine.specs.Capture.{AsksBy, Begins, Copies, Replies, RepliesBy}
use Rattle.capture_machine.specs.CapturedAnswers.{Hears}
use Rattle.capture_machine.specs.CapturedRequests.{is_later, owes}
use Rattle.capture_machine.specs.LargeAnswers.{asks_known, while_fetched}
use Rattle.capture_machine.specs.LargeRequests.{piece_with}
use Rattle.capture_machine.specs.Rounds.{Dialogue, Round}
use Rattle.world_machine.specs.Setup.{Configuration, known_of}

-- The message that is owed is what it would be with some padding.
abbrev IsOwn : Dialogue → Type 0
IsOwn d = (pad : List ℕ) × (length pad ≤ 16) × (with_padding pad d ≡ d)

-- And walks lead to it with any.
record Freed (w : Configuration) (q : ReqSetup) (older : List (List ℕ)) (d : Dialogue) : Type 0 where
  own : IsOwn d
  free : (pad : List ℕ) → length pad ≤ 16 → Walks w q older (with_padding pad d)

-- ---- An answer.

-- A message is sent on the answer, or was owed before it.
abbrev OwedBefore : ReqSetup → History → responder_history.History → Round → Option (List ℕ) → ℕ → List ℕ → History → Type 0
OwedBefore q h r rd fd tag body next =
    (is_later (Some rd) (outstanding h) ≡ true) × (next ≡ h) × ((pad : List ℕ) → Hears (dial q (repadded q.psk pad h) r (Some rd) None fd) tag body (repadded q.psk pad h))

heard_by : (q : ReqSetup) (h g : History) (sd se : Option (List ℕ)) (r : responder_history.History) (rd : Round) (fd : Option (List ℕ)) (tag : ℕ) (body : List ℕ) (next : History) → AskersAlike (Some rd) h g sd se → sd ≡ None → rd.tag ≡ tag
    → Hears (dial q h r (Some rd) None fd) tag body next → is_later (Some rd) (outstanding next) ≡ true → Paddable q h r rd fd tag body next ⊎ OwedBefore q h r rd fd tag body next
heard_by q _ _ _ _ r rd fd tag body next (Settled h g agree not at) none is one later = inl (settled_pads q h r rd fd tag body next agree.ids not one later)
heard_by q _ _ _ _ r rd fd tag body next (Owing e f h g s t agree alike out sent like tagged else still at) none is one later =
    let apart : has_tag (Some s) tag ≡ false = ap (λ (n : ℕ). s.tag == n) (sym is) ∙ not-true (s.tag == rd.tag) still in
    inr (ap (is_later (Some rd)) out ∙ still, (owing_hears q e h s r rd fd tag body [] next out apart one).0, λ pad. (owing_hears q e h s r rd fd tag body pad next out apart one).1)
heard_by q _ _ _ _ r rd fd tag body next (Shown h g w v a b handle number s t u waits wait aims aim tags not at) none is one later = absurd (none-some w (sym none))
heard_by q _ _ _ _ r rd fd tag body next (Due old m h g w v a b handle number u still at) none is one later = absurd (none-some w (sym none))

-- ---- One packet.

module _ (w : Configuration) (q : ReqSetup) (older : List (List ℕ)) (b : Dialogue) (walk : Walks w q older b) (before : owes b ≡ true → Freed w q older b) (both : BothAlike b b) where
  -- What a step leads to may have any padding.
  abbrev Pads : (Step : Dialogue → Dialogue → Type 0) → Dialogue → Type 0
  Pads Step d = IsOwn d × ((pad : List ℕ) → length pad ≤ 16 → (x : Dialogue) × Walks w q older x × Step x (with_padding pad d))

  stays_pads : (Step : Dialogue → Dialogue → Type 0) (d : Dialogue) → ((x : Dialogue) → Step x x) → owes d ≡ true → d ≡ b → Pads Step d
  stays_pads Step d same owed is =
      let f = before (ap owes (sym is) ∙ owed) in
      (subst IsOwn (sym is) f.own, λ pad few. (with_padding pad b, f.free pad few, subst (λ (y : Dialogue). Step (with_padding pad b) (with_padding pad y)) (sym is) (same (with_padding pad b))))

  copied_pads : (d : Dialogue) (tag : ℕ) (body : List ℕ) → owes d ≡ true → Copies b tag body d → Pads (λ x y. Copies x tag body y) d
  copied_pads d tag body owed c =
      let r : Round = c.0 in
      let next : Round = record r { waiting = r.waiting + 1 } in
      let still : owes b ≡ true = ap (λ (o : Option Round). is_later o (outstanding b.requester)) c.1 ∙ later_round r next (outstanding b.requester) refl ∙ ap owes (sym c.4) ∙ owed in
      let f = before still in (
        (f.own.0, f.own.1, ap (with_padding f.own.0) c.4 ∙ ap (λ (x : Dialogue). record x { round = Some next }) f.own.2 ∙ sym c.4),
        λ pad few. (with_padding pad b, f.free pad few, (r, c.1, c.2, c.3, ap (with_padding pad) c.4)),
      )

  begun_owes : (d : Dialogue) (tag : ℕ) (body : List ℕ) → owes d ≡ true → d.sending ≡ None → Begins b tag body d → ⊥
  begun_owes d tag body owed none c =
      let not = begun_later b.setup b.requester b.requester b.sending b.sending b.responder b.round b.fetching tag body c.2.0 c.2.1 both.alike.askers c.1 (ap (λ (x : Dialogue). x.sending) (sym c.2.3) ∙ none) c.2.2 in
      false≢true (sym not ∙ ap owes (sym c.2.3) ∙ owed)

  asked_pads : (d : Dialogue) (g : Gathered) → owes d ≡ true → d.sending ≡ None → AsksBy b g d → Pads (λ x y. AsksBy x g y) d
  asked_pads d (Whole route body) owed none c = by_kind c.2
    where
      by_kind : Copies b route.tag body d ⊎ Begins b route.tag body d → Pads (λ x y. AsksBy x (Whole route body) y) d
      by_kind (inl k) =
          let pads = copied_pads d route.tag body owed k in
          (pads.0, λ pad few. let one = pads.1 pad few in (one.0, one.1, (c.0, c.1, inl one.2)))
      by_kind (inr k) = absurd (begun_owes d route.tag body owed none k)
  asked_pads d More owed none c = stays_pads (λ x y. AsksBy x More y) d (λ x. refl) owed c
  asked_pads d (Dropped cause) owed none c = absurd c

  replied_pads : (d : Dialogue) (tag : ℕ) (answer : List ℕ) → owes d ≡ true → d.sending ≡ None → Replies w b tag answer d → Pads (λ x y. Replies w x tag answer y) d
  replied_pads d tag answer owed none c = by_heard (heard_by b.setup b.requester b.requester b.sending b.sending b.responder r b.fetching tag answer g alike sends c.2 heard later)
    where
      r : Round
      r = c.0

      next : Round
      next = record r { waiting = r.waiting - 1; answered = true }

      g : History
      g = c.4.3.0

      psk : List ℕ
      psk = b.setup.psk

      sends : b.sending ≡ None
      sends = ap (λ (x : Dialogue). x.sending) (sym c.4.3.2) ∙ none

      alike : AskersAlike (Some r) b.requester b.requester b.sending b.sending
      alike = subst (λ (o : Option Round). AskersAlike o b.requester b.requester b.sending b.sending) c.1 both.alike.askers

      later : is_later (Some r) (outstanding g) ≡ true
      later = later_round r next (outstanding g) refl ∙ ap owes (sym c.4.3.2) ∙ owed

      Heard : History → Option Round → Option (List ℕ) → History → Type 0
      Heard h o s l = Hears (dial b.setup h b.responder o s b.fetching) tag answer l

      heard : Heard b.requester (Some r) None g
      heard = subst (λ (s : Option (List ℕ)). Heard b.requester (Some r) s g) sends (subst (λ (o : Option Round). Heard b.requester o b.sending g) c.1 c.4.3.1)

      back : (h l : History) → Heard h (Some r) None l → Heard h b.round b.sending l
      back h l one = subst (λ (o : Option Round). Heard h o b.sending l) (sym c.1) (subst (λ (s : Option (List ℕ)). Heard h (Some r) s l) (sym sends) one)

      -- What the answer leads to, with another history of the requester.
      ended : History → Dialogue
      ended l = record b { requester = l; responder = c.4.0; fetching = while_fetched l c.4.1; round = Some next }

      padded_is : (pad : List ℕ) → with_padding pad d ≡ ended (repadded psk pad g)
      padded_is pad =
          ap (with_padding pad) c.4.3.2
          ∙ ap (λ (x : Bool). record b { requester = repadded psk pad g; responder = c.4.0; fetching = cond x c.4.1 None; round = Some next }) (sym (fetch_same psk pad g))

      -- It asks for a chunk under any padding, or under none.
      known : (pad : List ℕ) → asks_known (repadded psk pad g) c.4.1 ≡ true
      known pad = ap (λ (x : Bool). not x || is_some c.4.1) (fetch_same psk pad g) ∙ c.4.3.3

      own_from : (pad : List ℕ) → repadded psk pad g ≡ g → with_padding pad d ≡ d
      own_from pad same = padded_is pad ∙ ap ended same ∙ sym c.4.3.2

      by_heard : Paddable b.setup b.requester b.responder r b.fetching tag answer g ⊎ OwedBefore b.setup b.requester b.responder r b.fetching tag answer g → Pads (λ x y. Replies w x tag answer y) d
      by_heard (inl pads) = (
        (pads.own.0, pads.own.1, own_from pads.own.0 pads.own.2),
        λ pad few. (b, walk, (r, c.1, c.2, c.3, (c.4.0, c.4.1, c.4.2, (repadded psk pad g, back b.requester (repadded psk pad g) (pads.free pad few), padded_is pad, known pad)))),
      )
      by_heard (inr was) =
          let still : owes b ≡ true = ap (λ (o : Option Round). is_later o (outstanding b.requester)) c.1 ∙ was.0 in
          let f = before still in (
            (f.own.0, f.own.1, own_from f.own.0 (ap (repadded psk f.own.0) was.1 ∙ ap (λ (x : Dialogue). x.requester) f.own.2 ∙ sym was.1)),
            λ pad few. (
              with_padding pad b,
              f.free pad few,
              (
                r,
                c.1,
                c.2,
                c.3,
                (
                  c.4.0,
                  c.4.1,
                  answers_on (towards w.responder (known_of b.setup)) b (with_padding pad b) r answer c.4.0 c.4.1 refl refl c.4.2,
                  (
                    repadded psk pad b.requester,
                    back (repadded psk pad b.requester) (repadded psk pad b.requester) (was.2 pad),
                    padded_is pad ∙ ap (λ (l : History). ended (repadded psk pad l)) was.1,
                    ap (λ (l : History). asks_known (repadded psk pad l) c.4.1) (sym was.1) ∙ known pad,
                  ),
                ),
              ),
            ),
          )

  answered_pads : (d : Dialogue) (g : Gathered) → owes d ≡ true → d.sending ≡ None → RepliesBy w b g d → Pads (λ x y. RepliesBy w x g y) d
  answered_pads d (Whole route body) owed none c =
      let pads = replied_pads d route.tag body owed none c.2 in
      (pads.0, λ pad few. let one = pads.1 pad few in (one.0, one.1, (c.0, c.1, one.2)))
  answered_pads d More owed none c = stays_pads (λ x y. RepliesBy w x More y) d (λ x. refl) owed c
  answered_pads d (Dropped cause) owed none c = absurd c

  step_pads : (d : Dialogue) (r : Result PacketFields PacketFault) → owes d ≡ true → d.sending ≡ None → StepsBy w q.eid older b d r → Pads (λ x y. StepsBy w q.eid older x y r) d
  step_pads d (Err fault) owed none c = stays_pads (λ x y. StepsBy w q.eid older x y (Err fault)) d (λ x. refl) owed c
  step_pads d (Ok p) owed none c = by_ends (is_request w.responder.eid q.eid p) (is_answer w.responder.eid q.eid p) c
    where
      Ends : Bool → Bool → Dialogue → Dialogue → Type 0
      Ends to from x y = MatchBool to (AsksBy x (gathered_from w.responder.eid q.eid older p) y) (MatchBool from (RepliesBy w x (gathered_from q.eid w.responder.eid older p) y) (y ≡ x))

      by_ends : (to from : Bool) → Ends to from b d → Pads (Ends to from) d
      by_ends true from asks = asked_pads d (gathered_from w.responder.eid q.eid older p) owed none asks
      by_ends false true replies = answered_pads d (gathered_from q.eid w.responder.eid older p) owed none replies
      by_ends false false same = stays_pads (λ x y. y ≡ x) d (λ x. refl) owed same

-- ---- All packets.

-- A chunk that is owed is in the clear; where none is, no large request is in progress.
owed_kind : (round : Option Round) (h g : History) (sd se : Option (List ℕ)) (psk : List ℕ) → AskersAlike round h g sd se → is_later round (outstanding h) ≡ true → ((pad : List ℕ) → repadded psk pad h ≡ h) ⊎ (sd ≡ None)
owed_kind round _ _ _ _ psk (Settled h g agree not at) later = absurd (false≢true (sym not ∙ later))
owed_kind round _ _ _ _ psk (Owing e f h g s t agree alike out sent like tagged else still at) later = inr refl
owed_kind round _ _ _ _ psk (Shown h g w v a b handle number s t u waits wait aims aim tags not at) later = absurd (false≢true (sym not ∙ ap (is_later round) (sym waits) ∙ later))
owed_kind round _ _ _ _ psk (Due old m h g w v a b handle number u still at) later = inl (λ pad. clear_same psk pad _ h (piece_with h a w handle (number + 1)) _ refl refl)

freed : (w : Configuration) (q : ReqSetup) (older : List (List ℕ)) (d : Dialogue) → Walks w q older d → owes d ≡ true → Freed w q older d
unfolding StepsTo
freed w q [] d walk owed = absurd (false≢true (ap owes (sym walk) ∙ owed))
freed w q (packet ∷ older) d walk owed = by_kind (owed_kind d.round d.requester d.requester d.sending d.sending d.setup.psk (walks_alike w q (packet ∷ older) d d walk walk).alike.askers owed)
    (λ none. step_pads w q older walk.0 walk.1 (freed w q older walk.0 walk.1) (walks_alike w q older walk.0 walk.0 walk.1 walk.1) d (parsed packet) owed none walk.2)
  where
    by_kind : ((pad : List ℕ) → repadded d.setup.psk pad d.requester ≡ d.requester) ⊎ (d.sending ≡ None)
        → (d.sending ≡ None → IsOwn d × ((pad : List ℕ) → length pad ≤ 16 → (x : Dialogue) × Walks w q older x × StepsBy w q.eid older x (with_padding pad d) (parsed packet))) → Freed w q (packet ∷ older) d
    by_kind (inl clear) step = record {
      own = ([], omega arith, ap (λ (l : History). record d { requester = l }) (clear []));
      free = λ pad few. subst (Walks w q (packet ∷ older)) (sym (ap (λ (l : History). record d { requester = l }) (clear pad))) walk;
    }
    by_kind (inr none) step = let pads = step none in record { own = pads.0; free = pads.1 }

pub padding_is_free : PaddingIsFree
padding_is_free w q older d pad walk owed few = (freed w q older d walk owed).free pad few

pub owed_is_padded : OwedIsPadded
owed_is_padded w q older d walk owed = (freed w q older d walk owed).own
