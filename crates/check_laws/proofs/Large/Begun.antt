-- The first chunk of a large request.
use Rattle.std.proofs.Common.{◌≡◌, ◌<◌, ◌+◌, ◌⊎◌, ℕ, List, [], ◌∷◌, refl, sym, ap, ◌∙◌, subst, length, take, Bool, true, false, Option, Some, None, Ok, inl, inr}
use Rattle.std.proofs.lemmas.Option.{none-some, same_Some}
use Rattle.chunking.specs.Cutting.{chunk_end}
use Rattle.mctp_framing.specs.Gathering.{Gathered}
use Rattle.mctp_framing.specs.Gathering.Gathered.{Whole, More, Dropped}
use Rattle.requester_machine.specs.Asking.Outcome.{Adds}
use Rattle.requester_machine.specs.History.{History, begins_large, connection_terms, next_handle, next_tag, outstanding}
use Rattle.requester_machine.specs.History.Entry.{Told}
use Rattle.requester_machine.specs.May.{MayAsk}
use Rattle.requester_machine.specs.Message.{Sent, asked_in, body_of}
use Rattle.requester_machine.specs.Owed.{with_next}
use Rattle.requester_machine.specs.Setup.{ReqSetup}
use Rattle.spdm_grammar.specs.Message.{ChunkMessage}
use Rattle.spdm_grammar.specs.Message.RequestMessage.{ChunkSend}
use Rattle.spdm_grammar.specs.Requests.{canonical_request}
use Rattle.spdm_machine.specs.Bodies.{clear_body}
use Rattle.spdm_machine.specs.Packets.{gathered_from}
use Rattle.spdm_machine.specs.Terms.{Terms}
use Rattle.check_laws.proofs.GoingOn.{none_sent, owes_same}
use Rattle.check_laws.proofs.KeptAnswers.{kept_is_restored}
use Rattle.check_laws.proofs.KeptParts.{bare, bare_agree, both_owe, it_owes, next_twice, none_later, none_owed, owed_is}
use Rattle.check_laws.proofs.OneWalk.{not_later, walks_alike}
use Rattle.check_laws.specs.Keeping.{Keeps, Kept, kept_of, owing, restored}
use Rattle.check_laws.specs.Walks.{StepsBy, Walks}
use Rattle.capture_machine.proofs.Agrees.{Agree}
use Rattle.capture_machine.proofs.Alike.{Alike}
use Rattle.capture_machine.proofs.AskersAlike.{AskersAlike, alike_aim}
use Rattle.capture_machine.proofs.AskersStep.{owed, unowed}
use Rattle.capture_machine.proofs.AsksAlike.{terms_same}
use Rattle.capture_machine.proofs.SentFacts.{large_free}
use Rattle.capture_machine.specs.Capture.{AsksBy, Begins, Copies, may_begin}
use Rattle.capture_machine.specs.CapturedRequests.{BeginsLarge, BeginsOwed, Sends, is_later, owes, without_owed}
use Rattle.capture_machine.specs.LargeRequests.{IsLargeRequest, MayHaveBegun, common_of, first_piece, still_sending}
use Rattle.capture_machine.specs.Rounds.{Dialogue, Round, following_tag, no_draw}
use Rattle.world_machine.specs.Setup.{Configuration}
use Rattle.check_laws.specs.Large.Sending.{Beginning, IsSendingOf, MayBegin, MaySend, MayStand, Sending, SendsAs, asked_of, begun_with, count_of, dialogue_of, is_upon_clear}
use Rattle.check_laws.specs.Large.Sending.Beginning.{ByCommand, ByItself}
use Rattle.check_laws.specs.Large.SendingLaws.{BeginsSending, BegunIsSending, SendingBegins, begun_sending, first_body}
use Rattle.check_laws.proofs.Large.BegunParts.{ask_moved, piece_on, tag_by}
use Rattle.check_laws.proofs.Large.Cuts.{ends_within, same_chunk, two_chunks}
use Rattle.check_laws.proofs.Large.Histories.{begun_waits, next_terms, upon_waits}
use Rattle.check_laws.proofs.Large.LargeSizes.{above, chunk_size, large_at}
use Rattle.check_laws.proofs.Large.NextPiece.{no_copies}
use Rattle.check_laws.proofs.Large.Onward.{Onward, asked, asks, came, keeps_on, stands_by}
use Rattle.check_laws.proofs.Large.UponClear.{owed_upon}

-- ---- What is kept before it.

module _ (w : Configuration) (q : ReqSetup) (older : List (List ℕ)) (k : Kept) (keeps : Keeps w q older k) where
  abbrev pub e : Dialogue
  e = restored k

  pub walk_e : Walks w q older e
  walk_e = (kept_is_restored w q older k keeps).0

  pub back : kept_of e ≡ k
  back = (kept_is_restored w q older k keeps).1

  pub bare_e : without_owed e ≡ k.requester
  bare_e = ap (λ (x : Kept). x.requester) back

  pub alike_e : AskersAlike k.round e.requester e.requester None None
  alike_e = (walks_alike w q older e e walk_e walk_e).alike.askers

  next_at : next_tag k.requester ≡ following_tag k.round
  next_at = ap next_tag (sym bare_e) ∙ tag_by k.round e.requester e.requester None None alike_e refl (owes e) refl

  pub owes_e : (s : Sent) → k.owed ≡ Some s → owes e ≡ true
  owes_e s is = by_owes (owes e) refl
    where
      by_owes : (b : Bool) → owes e ≡ b → owes e ≡ true
      by_owes true has = has
      by_owes false not = absurd (none-some s (sym (none_owed e not) ∙ ap (λ (x : Kept). x.owed) back ∙ is))

  -- ---- Any walk that goes on with one.

  module _ (x : Dialogue) (walk : Walks w q older x) (body : List ℕ) where
    alike : Alike x e
    alike = (walks_alike w q older x e walk walk_e).alike

    unsent : x.sending ≡ None
    unsent = none_sent x.round x.requester e.requester x.sending None alike.askers refl

    owe_same : owes x ≡ owes e
    owe_same = owes_same x.round x.requester e.requester x.sending None alike.askers ∙ ap (λ (o : Option Round). is_later o (outstanding e.requester)) alike.round

    agree : Agree (without_owed x) k.requester
    agree =
        let P : Option Round → Type 0 = λ o. Agree (without_owed x) (bare o e.requester) in
        let there : Agree (without_owed x) (without_owed e) = subst P alike.round (bare_agree x.round x.requester e.requester x.sending None alike.askers unsent (owes_same x.round x.requester e.requester x.sending None alike.askers)) in
        subst (Agree (without_owed x)) bare_e there

    -- What it begins.
    pub record BeginsAs (h : History) (u : List ℕ) (b : Beginning) : Type 0 where
      pub may : MayBegin k b
      pub large : IsLargeRequest (common_of k.requester) u
      pub bytes : first_body k u ≡ body
      pub waits : outstanding h ≡ Some (first_piece k.requester (asked_of b) u)
      pub begun : MayHaveBegun x.setup h → MaySend k b u

    by_large : (h : History) (u : List ℕ) (c : BeginsLarge x body h u) → BeginsAs h u (ByCommand c.0 c.2)
    by_large h u c =
        let none : outstanding x.requester ≡ None = large_free x.setup x.requester c.3.0 c.0 c.1 no_draw c.3.2 c.4 in
        let not : owes x ≡ false = ap (is_later x.round) none ∙ none_later x.round in
        let a : Agree x.requester k.requester = subst (λ (l : History). Agree l k.requester) (unowed x not) agree in
        let piece = piece_on x.requester k.requester c.2 u a in record {
          may = (
            ap (λ (y : Kept). y.owed) (sym back) ∙ none_owed e (sym owe_same ∙ not),
            (c.1, ask_moved x.setup k.setup x.requester k.requester c.0 (Adds (Told c.0 c.1 no_draw)) alike.setup a c.3, c.4, c.5),
          );
          large = subst (λ (t : Terms). IsLargeRequest t.common u) (terms_same x.requester k.requester a) c.6;
          bytes = ap (λ (m : Sent). body_of m.content) (sym piece) ∙ c.7;
          waits = ap outstanding c.8 ∙ ap Some piece;
          begun = λ has.
              let mine : MayAsk false x.setup x.requester c.0 no_draw (Adds (Told c.0 (first_piece x.requester c.2 u) no_draw)) = subst (MayHaveBegun x.setup) c.8 has in
              subst (λ (m : Sent). MayAsk false k.setup k.requester c.0 no_draw (Adds (Told c.0 m no_draw))) piece
              (ask_moved x.setup k.setup x.requester k.requester c.0 (Adds (Told c.0 (first_piece x.requester c.2 u) no_draw)) alike.setup a mine);
        }

    by_owed : (h : History) (u : List ℕ) (c : BeginsOwed x body h u) → BeginsAs h u (ByItself c.1)
    by_owed h u c =
        let is : owes x ≡ true = c.2.1 in
        let are : owes e ≡ true = sym owe_same ∙ is in
        let both = both_owe x.round x.requester e.requester x.sending None alike.askers unsent is in
        let t : Sent = both.1 in
        let one : c.0 ≡ both.0 = same_Some c.0 both.0 (sym c.2.0 ∙ both.2) in
        let aims : t.aim ≡ c.0.aim = sym (alike_aim both.0 t both.4) ∙ ap (λ (m : Sent). m.aim) (sym one) in
        let large : begins_large t.aim ≡ true = ap begins_large aims ∙ c.3 in
        let upon = owed_upon w q older e t walk_e alike_e refl are both.3 large in
        let bare_is : with_next None e.requester ≡ k.requester = sym (owed e are) ∙ bare_e in
        let piece = piece_on (without_owed x) k.requester c.1 u agree in
        let has = it_owes x.round x.requester e.requester x.sending None alike.askers unsent is in
        let terms : connection_terms x.requester ≡ connection_terms k.requester = sym (next_terms None x.requester) ∙ ap connection_terms (sym (owed x is)) ∙ terms_same (without_owed x) k.requester agree in record {
          may = (
            _,
            ap (λ (y : Kept). y.owed) (sym back) ∙ owed_is e t are both.3,
            subst (λ (l : History). is_upon_clear l ≡ true) bare_is upon.0,
            subst (λ (l : History). outstanding l ≡ None) bare_is upon.1,
            large,
            ap asked_in aims ∙ c.4,
          );
          large = subst (λ (z : Terms). IsLargeRequest z.common u) terms c.5;
          bytes = ap (λ (m : Sent). body_of m.content) (sym piece) ∙ c.6;
          waits = ap outstanding c.7 ∙ has.other (first_piece (without_owed x) c.1 u) ∙ ap Some piece;
          begun = λ may. tt;
        }

    pub begins_as : (h : History) (sending : Option (List ℕ)) (u : List ℕ) → Sends x body h sending → sending ≡ Some u → (b : Beginning) × BeginsAs h u b
    unfolding Sends
    begins_as h sending u (inl (small, none)) is = absurd (none-some u (sym none ∙ is))
    begins_as h sending u (inr (inl goes)) is = absurd (none-some u (sym (goes.6 ∙ ap (λ (o : Option (List ℕ)). still_sending x.requester o goes.0.aim) unsent) ∙ is))
    begins_as h sending u (inr (inr (v, inl c, so))) is =
        let same : v ≡ u = same_Some v u (sym so ∙ is) in
        let P : List ℕ → Type 0 = λ l. (b : Beginning) × BeginsAs h l b in
        subst P same (ByCommand c.0 c.2, by_large h v c)
    begins_as h sending u (inr (inr (v, inr c, so))) is =
        let same : v ≡ u = same_Some v u (sym so ∙ is) in
        let P : List ℕ → Type 0 = λ l. (b : Beginning) × BeginsAs h l b in
        subst P same (ByItself c.1, by_owed h v c)

  -- ---- From what is kept.

  module _ (tag : ℕ) (body whole : List ℕ) (begin : may_begin k.round body ≡ true) (at : tag ≡ following_tag k.round) (b0 : Beginning) (may0 : MayBegin k b0) (large : IsLargeRequest (common_of k.requester) whole)
      (bytes : first_body k whole ≡ body) where
    abbrev next : Sending
    next = begun_sending k tag body whole

    abbrev transfer : ℕ
    transfer = (common_of k.requester).to_responder.transfer

    some : 12 < transfer
    some = chunk_size k.requester whole large

    more : 0 + 1 < count_of transfer (length whole)
    more = two_chunks transfer (length whole) some (above transfer (length whole) large.0)

    held : length next.bytes ≡ chunk_end transfer 0
    held = ends_within transfer 0 0 whole some more

    mine : MayStand next whole
    mine = (refl, ap (λ (n : ℕ). take n whole) held)

    has_first : (v : List ℕ) → MayStand next v → first_body k v ≡ body
    has_first v stand =
        ap (λ (c : ChunkMessage). clear_body (canonical_request (ChunkSend c))) (same_chunk transfer (next_handle k.requester) 0 v whole stand.0 (ap (λ (n : ℕ). take n v) (sym held) ∙ stand.1)) ∙ bytes

    sends : (b : Beginning) (v : List ℕ) → MayBegin k b → MayStand next v → BeginsLarge e body (begun_with k b v) v ⊎ BeginsOwed e body (begun_with k b v) v
    sends (ByCommand c a) v may stand =
        let E : Option Sent → Dialogue = λ o. record e { requester = owing o k.requester } in
        let P : Option Sent → Type 0 = λ o. BeginsLarge (E o) body (begun_with k (ByCommand c a) v) v in
        let there : P None = (c, may.1.0, a, may.1.1, may.1.2, may.1.3, large_at (common_of k.requester) whole v stand.0 large, has_first v stand, refl) in
        inl (subst P (sym may.0) there)
    sends (ByItself a) v may stand =
        let s : Sent = may.0 in
        let is : owes e ≡ true = owes_e s may.1 in
        let own : e.requester ≡ with_next (Some s) k.requester = ap (λ (o : Option Sent). owing o k.requester) may.1 in
        let first : first_piece (without_owed e) a v ≡ first_piece k.requester a v = ap (λ (l : History). first_piece l a v) bare_e in
        let terms : connection_terms k.requester ≡ connection_terms e.requester = sym (next_terms (Some s) k.requester) ∙ ap connection_terms (sym own) in
        inr (
          s,
          a,
          (ap outstanding own ∙ upon_waits k.requester s may.2, is),
          may.4,
          may.5,
          subst (λ (t : Terms). IsLargeRequest t.common v) terms (large_at (common_of k.requester) whole v stand.0 large),
          ap (λ (m : Sent). body_of m.content) first ∙ has_first v stand,
          sym (ap (with_next (Some (first_piece (without_owed e) a v))) own ∙ next_twice k.requester (Some (first_piece (without_owed e) a v)) (Some s) ∙ ap (λ (m : Sent). with_next (Some m) k.requester) first),
        )

    all_on : (b : Beginning) (v : List ℕ) → MayBegin k b → MayStand next v → Begins e tag body (dialogue_of next b v)
    unfolding Sends
    all_on b v may stand = (begin, at, (begun_with k b v, Some v, inr (inr (v, sends b v may stand, refl)), refl))

    shown : (b : Beginning) (v : List ℕ) → MayBegin k b → owes (dialogue_of next b v) ≡ false
    shown b v may = not_later tag body (begun_with k b v) (first_piece k.requester (asked_of b) v) (begun_waits k b v may) (next_at ∙ sym at)

    each_on : (x y : Dialogue) → Walks w q older x → Copies x tag body y ⊎ Begins x tag body y → ((b : Beginning) (v : List ℕ) → MayBegin k b → MayStand next v → Alike (dialogue_of next b v) y)
        → (b : Beginning) × (v : List ℕ) × MayBegin k b × MayStand next v × SendsAs k b v y (dialogue_of next b v)
    each_on x y walk (inl c) alikes = absurd (no_copies x tag body y (at ∙ ap following_tag (sym (alike x walk body).round)) c)
    each_on x y walk (inr c) alikes =
        let there = stands_by next b0 whole y.requester y.sending may0 (alikes b0 whole may0 mine).askers (shown b0 whole may0) some held mine in
        let as_is = begins_as x walk body c.2.0 c.2.1 there.0 c.2.2 (ap (λ (d : Dialogue). d.sending) (sym c.2.3) ∙ there.1) in
        let b : Beginning = as_is.0 in
        let made : y.requester ≡ c.2.0 = ap (λ (d : Dialogue). d.requester) c.2.3 in (
          b,
          there.0,
          as_is.1.may,
          there.2,
          record {
            sending = there.1;
            waits = ap outstanding made ∙ as_is.1.waits ∙ sym (begun_waits k b there.0 as_is.1.may);
            begun = λ may. as_is.1.begun (subst (λ (d : ReqSetup). MayHaveBegun d c.2.0) (ap (λ (d : Dialogue). d.setup) c.2.3) (subst (MayHaveBegun y.setup) made may));
          },
        )

    pub begun_onward : (Step : Dialogue → Dialogue → Type 0) → ((x y : Dialogue) → Begins x tag body y → Step x y) → ((x y : Dialogue) → Step x y → Copies x tag body y ⊎ Begins x tag body y) → Onward w q older Step next
    begun_onward Step into back_to = record {
      held = held;
      more = more;
      begins = (b0, may0);
      stands = (whole, mine);
      all = λ b v may stand. (e, walk_e, into e (dialogue_of next b v) (all_on b v may stand), shown b v may);
      each = λ x y walk step alikes. each_on x y walk (back_to x y step) alikes;
    }

pub sending_begins : SendingBegins
sending_begins w q older packet p k next parses is keeps c = by_gathered (gathered_from w.responder.eid q.eid older p) refl c
  where
    by_gathered : (g : Gathered) → gathered_from w.responder.eid q.eid older p ≡ g → BeginsSending k g next → IsSendingOf w q (packet ∷ older) next
    by_gathered (Whole route body) same c =
        subst (IsSendingOf w q (packet ∷ older)) (sym c.4.5)
        (keeps_on w q older packet p (λ x y. AsksBy x (gathered_from w.responder.eid q.eid older p) y) (begun_sending k route.tag body c.4.1) parses (asks w q older packet p parses is) (asked w q older packet p parses is)
        (begun_onward w q older k keeps route.tag body c.4.1 c.2 c.3 c.4.0 c.4.2 c.4.3 c.4.4 (λ x y. AsksBy x (gathered_from w.responder.eid q.eid older p) y)
        (λ x y one. subst (λ (g : Gathered). AsksBy x g y) (sym same) (c.0, c.1, inr one))
        (λ x y one. (subst (λ (g : Gathered). AsksBy x g y) same one).2)))
    by_gathered More same c = absurd c
    by_gathered (Dropped cause) same c = absurd c

pub begun_is_sending : BegunIsSending
begun_is_sending w q older packet p k d whole parses is keeps over sending = by_gathered (gathered_from w.responder.eid q.eid older p) (asked w q older packet p parses is from.0 d from.2)
  where
    from : (b : Dialogue) × Walks w q older b × StepsBy w q.eid older b d (Ok p)
    from = came w q older packet p parses d over

    none : from.0.sending ≡ None
    none = unsent w q older k keeps from.0 from.1 []

    by_gathered : (g : Gathered) → AsksBy from.0 g d → (next : Sending) × BeginsSending k g next
    by_gathered (Whole route body) c = by_kind c.2
      where
        by_kind : Copies from.0 route.tag body d ⊎ Begins from.0 route.tag body d → (next : Sending) × BeginsSending k (Whole route body) next
        by_kind (inl copies) = absurd (none-some whole (sym (ap (λ (x : Dialogue). x.sending) copies.4 ∙ none) ∙ sending))
        by_kind (inr begins) =
            let round = (alike w q older k keeps from.0 from.1 body).round in
            let as_is = begins_as w q older k keeps from.0 from.1 body begins.2.0 begins.2.1 whole begins.2.2 (ap (λ (x : Dialogue). x.sending) (sym begins.2.3) ∙ sending) in (
              begun_sending k route.tag body whole,
              (
                c.0,
                c.1,
                ap (λ (o : Option Round). may_begin o body) (sym round) ∙ begins.0,
                begins.1 ∙ ap following_tag round,
                (as_is.0, whole, as_is.1.may, as_is.1.large, as_is.1.bytes, refl),
              ),
            )
    by_gathered More c = absurd (none-some whole (sym (ap (λ (x : Dialogue). x.sending) c ∙ none) ∙ sending))
    by_gathered (Dropped cause) c = absurd c
