-- The next chunk of a large request, but for the last one.
use Rattle.std.proofs.Common.{◌≡◌, ◌<◌, ◌≤◌, ◌*◌, ◌+◌, ◌==◌, ◌⊎◌, ℕ, List, ◌∷◌, refl, sym, ap, ◌∙◌, subst, length, take, arith, add-one, Bool, true, false, Option, Some, None, cond, inl, inr, eq-eqb}
use Rattle.std.specs.Bool.{OnTrue}
use Rattle.std.proofs.lemmas.Bool.{false≢true, cases_order}
use Rattle.std.proofs.lemmas.Option.{none-some, same_Some}
use Rattle.chunking.specs.Cutting.{chunk_end, unit_of}
use Rattle.requester_machine.specs.History.{History, begins_large, outstanding}
use Rattle.requester_machine.specs.Message.{Sent, body_of}
use Rattle.requester_machine.specs.Setup.{ReqSetup}
use Rattle.spdm_basis.proofs.Bools.{suc_units}
use Rattle.spdm_grammar.specs.Message.{ChunkMessage}
use Rattle.spdm_grammar.specs.Message.RequestMessage.{ChunkSend}
use Rattle.spdm_grammar.specs.Requests.{canonical_request}
use Rattle.spdm_machine.specs.Bodies.{clear_body}
use Rattle.spdm_machine.specs.Terms.{Terms}
use Rattle.check_laws.proofs.OneWalk.{not_later, walks_alike}
use Rattle.check_laws.proofs.Rounded.{copy_is, no_copy}
use Rattle.check_laws.specs.Walks.{Walks}
use Rattle.capture_machine.proofs.Alike.{Alike}
use Rattle.capture_machine.proofs.SentFacts.{large_free}
use Rattle.capture_machine.specs.Capture.{Begins, Copies, may_begin}
use Rattle.capture_machine.specs.CapturedRequests.{BeginsLarge, BeginsOwed, GoesOn, Sends, is_later, owes}
use Rattle.capture_machine.specs.LargeRequests.{AreAsked, IsJudged, MayHaveBegun, is_last_piece, piece_with, still_sending}
use Rattle.capture_machine.specs.Rounds.{Dialogue, following_tag, new_round, no_draw}
use Rattle.world_machine.specs.Setup.{Configuration}
use Rattle.check_laws.specs.Large.Sending.{Ack, Beginning, IsSendingOf, MayBegin, MayStand, Sending, SendsAs, asked_of, chunk_body, count_of, dialogue_of, handle_of, is_last, number_of, requester_of, shown_by, transfer_of}
use Rattle.check_laws.proofs.Large.Cuts.{ends_within, same_chunk, take_less}
use Rattle.check_laws.proofs.Large.Histories.{later, piece_body, requester_terms, shown_terms}
use Rattle.check_laws.proofs.Large.Onward.{Onward, some_size, stands_by}
use Rattle.check_laws.proofs.Large.Ways.{due_way}

-- ---- Where a chunk is owed.

abbrev pub owing : Sending → Ack → Sending
owing s ack = record s { due = Some ack }

-- The chunk that is owed.
abbrev pub piece : Sending → Beginning → List ℕ → Sent
piece s b whole = piece_with (shown_by s b whole) (asked_of b) whole (handle_of s) (number_of s + 1)

-- It is the last one exactly when it is so by the announced length.
pub last_same : (s : Sending) (ack : Ack) (b : Beginning) (whole : List ℕ) → MayBegin s.before b → length whole ≡ s.size
    → is_last_piece (requester_of (owing s ack) b whole) whole (piece s b whole).aim ≡ is_last s (number_of s + 1)
last_same s ack b whole may size =
    ap (λ (t : Terms). number_of s + 1 + 1 == count_of t.common.to_responder.transfer (length whole)) (requester_terms (owing s ack) b whole may)
    ∙ ap (λ (n : ℕ). number_of s + 1 + 1 == count_of (transfer_of s) n) size

pub no_copies : (d : Dialogue) (tag : ℕ) (body : List ℕ) (n : Dialogue) → tag ≡ following_tag d.round → Copies d tag body n → ⊥
no_copies d tag body n next c = false≢true (sym (no_copy d.round tag body next) ∙ copy_is d.round c.0 tag body c.1 c.2 c.3)

-- A walk that owes a chunk begins no other large request.
pub none_begun : (d : Dialogue) (body : List ℕ) (after : History) (whole : List ℕ) (p : Sent) → outstanding d.requester ≡ Some p → begins_large p.aim ≡ false → BeginsLarge d body after whole ⊎ BeginsOwed d body after whole → ⊥
none_begun d body after whole p waits not (inl large) =
    none-some p (sym (large_free d.setup d.requester large.3.0 large.0 large.1 no_draw large.3.2 large.4) ∙ waits)
none_begun d body after whole p waits not (inr owed) =
    let same : owed.0 ≡ p = same_Some owed.0 p (sym owed.2.0 ∙ waits) in
    false≢true (sym not ∙ ap (λ (m : Sent). begins_large m.aim) (sym same) ∙ owed.3)

module _ (w : Configuration) (q : ReqSetup) (older : List (List ℕ)) (s : Sending) (ack : Ack) (own : IsSendingOf w q older (owing s ack)) where
  abbrev shape : Beginning → List ℕ → Dialogue
  shape b whole = dialogue_of (owing s ack) b whole

  pub chunks_size : 12 < transfer_of s
  chunks_size = some_size (transfer_of s) (number_of s) own.stands.0 (subst (λ (n : ℕ). number_of s + 1 < count_of (transfer_of s) n) (sym own.stands.1.0) own.more)

  pub own_owes : (b : Beginning) (whole : List ℕ) → MayBegin s.before b → MayStand s whole → owes (shape b whole) ≡ true
  own_owes b whole may stand = (own.all b whole may stand).1

  pub own_tag : (b : Beginning) (whole : List ℕ) → MayBegin s.before b → MayStand s whole → (piece s b whole).tag ≡ following_tag (Some s.round)
  own_tag b whole may stand =
      let walk = (own.all b whole may stand).0 in
      let d : Dialogue = shape b whole in
      let alike = (walks_alike w q older d d walk walk).alike.askers in
      let x = due_way (Some s.round) d.requester d.requester (Some whole) (Some whole) whole alike refl (own_owes b whole may stand) in
      ap (λ (m : Sent). m.tag) (same_Some (piece s b whole) x.sent x.waits) ∙ x.tag

  -- ---- From bytes that may stand.

  -- The chunk is sent, and the round begins.
  pub piece_begins : (b : Beginning) (whole : List ℕ) (tag : ℕ) (body : List ℕ) (sending : Option (List ℕ)) → MayBegin s.before b → MayStand s whole → may_begin (Some s.round) body ≡ true → tag ≡ following_tag (Some s.round)
      → chunk_body s whole (number_of s + 1) ≡ body → IsJudged s.before.setup (requester_of (owing s ack) b whole) (Some whole) (piece s b whole).aim
      → sending ≡ still_sending (requester_of (owing s ack) b whole) (Some whole) (piece s b whole).aim
      → Begins (shape b whole) tag body (record (shape b whole) { sending = sending; round = Some (new_round tag body) })
  unfolding Sends
  piece_begins b whole tag body sending may stand begin at bytes judged still =
      let h : History = requester_of (owing s ack) b whole in
      let goes : GoesOn (shape b whole) body h sending = (
        piece s b whole,
        (refl, own_owes b whole may stand),
        later (number_of s),
        piece_body s (shown_by s b whole) (asked_of b) whole (number_of s + 1) (shown_terms s b whole may) ∙ bytes,
        judged,
        refl,
        still,
      ) in
      (begin, at, (h, sending, inr (inl goes), refl))

  -- It is owed no longer.
  pub piece_shown : (b : Beginning) (whole : List ℕ) (tag : ℕ) (body : List ℕ) → MayBegin s.before b → MayStand s whole → tag ≡ following_tag (Some s.round)
      → is_later (Some (new_round tag body)) (outstanding (requester_of (owing s ack) b whole)) ≡ false
  piece_shown b whole tag body may stand at = not_later tag body (requester_of (owing s ack) b whole) (piece s b whole) refl (own_tag b whole may stand ∙ sym at)

  -- ---- From any walk.

  -- What a walk that goes on with a chunk sends.
  pub record WentOn (b : Beginning) (v : List ℕ) (body : List ℕ) (d : Dialogue) (h : History) (sending : Option (List ℕ)) : Type 0 where
    pub same : h ≡ d.requester
    pub bytes : chunk_body s v (number_of s + 1) ≡ body
    pub judged : IsJudged d.setup d.requester (Some v) (piece s b v).aim
    pub still : sending ≡ still_sending d.requester (Some v) (piece s b v).aim

  pub went_on : (b : Beginning) (v : List ℕ) (d : Dialogue) (body : List ℕ) (h : History) (sending : Option (List ℕ)) → MayBegin s.before b → SendsAs s.before b v d (shape b v) → GoesOn d body h sending → WentOn b v body d h sending
  went_on b v d body h sending may like goes =
      let p : Sent = piece s b v in
      let one : goes.0 ≡ p = same_Some goes.0 p (sym goes.1.0 ∙ like.waits) in record {
        same = goes.5;
        bytes = sym (piece_body s (shown_by s b v) (asked_of b) v (number_of s + 1) (shown_terms s b v may)) ∙ ap (λ (m : Sent). body_of m.content) (sym one) ∙ goes.3;
        judged = subst (λ (o : Option (List ℕ)). IsJudged d.setup d.requester o p.aim) like.sending (subst (λ (m : Sent). IsJudged d.setup d.requester d.sending m.aim) one goes.4);
        still = goes.6 ∙ ap (λ (m : Sent). still_sending d.requester d.sending m.aim) one ∙ ap (λ (o : Option (List ℕ)). still_sending d.requester o p.aim) like.sending;
      }

-- ---- Between the first and the last.

not_judged : (x : Bool) (P : Type 0) → x ≡ false → OnTrue x P
not_judged x P is = subst (λ (b : Bool). OnTrue b P) (sym is) tt

abbrev pub after_piece : Sending → Ack → List ℕ → ℕ → List ℕ → Sending
after_piece s ack whole tag body = record s {
  bytes = take (chunk_end (transfer_of s) (number_of s + 1)) whole;
  acks = ack ∷ s.acks;
  due = None;
  round = new_round tag body;
}

module _ (w : Configuration) (q : ReqSetup) (older : List (List ℕ)) (s : Sending) (ack : Ack) (own : IsSendingOf w q older (owing s ack))
    (tag : ℕ) (body whole : List ℕ) (begin : may_begin (Some s.round) body ≡ true) (at : tag ≡ following_tag (Some s.round)) (stand : MayStand s whole)
    (bytes : chunk_body s whole (number_of s + 1) ≡ body) (between : is_last s (number_of s + 1) ≡ false) where
  abbrev next : Sending
  next = after_piece s ack whole tag body

  abbrev end : ℕ
  end = chunk_end (transfer_of s) (number_of s + 1)

  some : 12 < transfer_of s
  some = chunks_size w q older s ack own

  more : number_of s + 1 + 1 < count_of (transfer_of s) s.size
  more = elim (cases_order (number_of s + 1 + 1) (count_of (transfer_of s) s.size)) [
    | inl same ↦ absurd (false≢true (sym between ∙ eq-eqb _ _ same))
    | inr apart ↦ elim apart [
      | inl below ↦ below
      | inr above ↦ absurd (let m = own.more in omega (arith, m))
    ]
  ]

  held : length next.bytes ≡ end
  held = ends_within (transfer_of s) (number_of s + 1) (number_of s + 1) whole some (subst (λ (n : ℕ). number_of s + 1 + 1 < count_of (transfer_of s) n) (sym stand.0) more)

  ends_less : chunk_end (transfer_of s) (number_of s) ≤ end
  ends_less = let e = suc_units (number_of s) (unit_of (transfer_of s)) in let f = ap (λ (n : ℕ). n * unit_of (transfer_of s)) (add-one (number_of s)) in omega (arith, e, f)

  -- Bytes that may follow it may stand before, and have this chunk.
  same_end : (v : List ℕ) → MayStand next v → take end v ≡ take end whole
  same_end v there = ap (λ (n : ℕ). take n v) (sym held) ∙ there.1

  before : (v : List ℕ) → MayStand next v → MayStand s v
  before v there = (
    there.0,
    ap (λ (n : ℕ). take n v) own.held ∙ take_less end (chunk_end (transfer_of s) (number_of s)) v whole ends_less (same_end v there) ∙ ap (λ (n : ℕ). take n whole) (sym own.held) ∙ stand.1,
  )

  has_chunk : (v : List ℕ) → MayStand next v → chunk_body s v (number_of s + 1) ≡ body
  has_chunk v there =
      ap (λ (c : ChunkMessage). clear_body (canonical_request (ChunkSend c))) (same_chunk (transfer_of s) (handle_of s) (number_of s + 1) v whole (there.0 ∙ sym stand.0) (same_end v there)) ∙ bytes

  not_last : (b : Beginning) (v : List ℕ) → MayBegin s.before b → length v ≡ s.size → is_last_piece (requester_of (owing s ack) b v) v (piece s b v).aim ≡ false
  not_last b v may size = last_same s ack b v may size ∙ between

  all_on : (b : Beginning) (v : List ℕ) → MayBegin s.before b → MayStand next v → Begins (dialogue_of (owing s ack) b v) tag body (dialogue_of next b v)
  all_on b v may there =
      let not = not_last b v may there.0 in
      piece_begins w q older s ack own b v tag body (Some v) may (before v there) begin at (has_chunk v there)
      (not_judged _ (AreAsked v (piece s b v).aim × MayHaveBegun s.before.setup (requester_of (owing s ack) b v)) not)
      (sym (ap (λ (x : Bool). cond x None (Some v)) not))

  -- ---- Any walk.

  abbrev Alikes : Dialogue → Type 0
  Alikes y = (b : Beginning) (v : List ℕ) → MayBegin s.before b → MayStand next v → Alike (dialogue_of next b v) y

  module _ (x y : Dialogue) (walk : Walks w q older x) (alike : Alikes y) where
    there : (v : List ℕ) × (y.sending ≡ Some v) × MayStand next v
    there =
        let b : Beginning = own.begins.0 in
        let may = own.begins.1 in
        let mine : MayStand next whole = (stand.0, ap (λ (n : ℕ). take n whole) held) in
        stands_by next b whole y.requester y.sending may (alike b whole may mine).askers (piece_shown w q older s ack own b whole tag body may stand at) some held mine

    still_sends : (b : Bool) (v : List ℕ) (o : Option (List ℕ)) → o ≡ cond b None (Some v) → o ≡ Some there.0 → v ≡ there.0
    still_sends true v o is same = absurd (none-some there.0 (sym is ∙ same))
    still_sends false v o is same = same_Some v there.0 (sym is ∙ same)

    went : (h : History) (sending : Option (List ℕ)) → sending ≡ Some there.0 → Sends x body h sending → y ≡ record x { requester = h; sending = sending; round = Some (new_round tag body) }
        → (b : Beginning) × (v : List ℕ) × MayBegin s.before b × MayStand next v × SendsAs s.before b v y (dialogue_of next b v)
    unfolding Sends
    went h sending is (inl (small, none)) made = absurd (none-some there.0 (sym none ∙ is))
    went h sending is (inr (inr large)) made =
        let one = own.each x walk in
        absurd (none_begun x body h large.0 (piece s one.0 one.1) one.4.waits (later (number_of s)) large.1)
    went h sending is (inr (inl goes)) made =
        let one = own.each x walk in
        let b : Beginning = one.0 in
        let v : List ℕ = one.1 in
        let on = went_on w q older s ack own b v x body h sending one.2 one.4 goes in
        let same : v ≡ there.0 = still_sends (is_last_piece x.requester v (piece s b v).aim) v sending on.still is in
        let made_is : y.requester ≡ x.requester = ap (λ (d : Dialogue). d.requester) made ∙ on.same in (
          b,
          v,
          one.2,
          subst (MayStand next) (sym same) there.2,
          record {
            sending = there.1 ∙ ap Some (sym same);
            waits = ap outstanding made_is ∙ one.4.waits;
            begun = λ may. one.4.begun (subst (λ (d : ReqSetup). MayHaveBegun d x.requester) (ap (λ (d : Dialogue). d.setup) made) (subst (MayHaveBegun y.setup) made_is may));
          },
        )

    each_on : Copies x tag body y ⊎ Begins x tag body y → (b : Beginning) × (v : List ℕ) × MayBegin s.before b × MayStand next v × SendsAs s.before b v y (dialogue_of next b v)
    each_on (inl c) =
        let mine = (own.all own.begins.0 own.stands.0 own.begins.1 own.stands.1).0 in
        let round : x.round ≡ Some s.round = (walks_alike w q older x _ walk mine).alike.round in
        absurd (no_copies x tag body y (at ∙ ap following_tag (sym round)) c)
    each_on (inr c) = went c.2.0 c.2.1 (ap (λ (d : Dialogue). d.sending) (sym c.2.3) ∙ there.1) c.2.2 c.2.3

  -- Both together.
  pub next_onward : (Step : Dialogue → Dialogue → Type 0) → ((x y : Dialogue) → Begins x tag body y → Step x y) → ((x y : Dialogue) → Step x y → Copies x tag body y ⊎ Begins x tag body y) → Onward w q older Step next
  next_onward Step into back = record {
    held = held;
    more = more;
    begins = own.begins;
    stands = (whole, (stand.0, ap (λ (n : ℕ). take n whole) held));
    all = λ b v may there. (
      dialogue_of (owing s ack) b v,
      (own.all b v may (before v there)).0,
      into (dialogue_of (owing s ack) b v) (dialogue_of next b v) (all_on b v may there),
      piece_shown w q older s ack own b v tag body may (before v there) at,
    );
    each = λ x y walk step alike. each_on x y walk alike (back x y step);
  }
