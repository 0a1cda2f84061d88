-- The rows that packets show, by what is kept of the requester of the last one.
use Rattle.std.proofs.Common.{◌≡◌, ◌≢◌, ◌≤◌, ◌∙◌, ◌==◌, ◌+◌, ◌++◌, ℕ, List, [], ◌∷◌, Bool, true, false, cond, Some, Result, Ok, length, refl, ap, sym, subst, arith, eq-eqb, ne_eqb}
use Rattle.std.specs.Prelude.{MatchBool, find}
use Rattle.std.specs.List.{AllByRecursion}
use Rattle.mctp_framing.specs.Packet.{PacketFields, parsed}
use Rattle.requester_machine.specs.Setup.{ReqSetup}
use Rattle.spdm_basis.specs.declared.PacketFault.{PacketFault}
use Rattle.spdm_machine.specs.Packets.{gathered_from}
use Rattle.check_laws.proofs.AllRows.{one_changes_rows, rows_are_of_all, table_is_shown}
use Rattle.check_laws.proofs.EachWalks.{leads_is_each}
use Rattle.check_laws.proofs.KeptAnswers.{goes_to, kept_is_restored, kept_replies}
use Rattle.check_laws.proofs.KeptSteps.{comes_from, kept_asks}
use Rattle.check_laws.proofs.OneWalk.{walks_alike}
use Rattle.check_laws.proofs.PairWalks.{IsFor, Made, it_made, to_each, walks_setup}
use Rattle.check_laws.proofs.PlacesShown.{distinct, shown_have_places}
use Rattle.check_laws.proofs.ReasonsEach.{put_at}
use Rattle.check_laws.specs.Judged.{AreApart}
use Rattle.check_laws.specs.KeptRows.{AsksShow, MorePackets, NumbersAreOrder, RepliesShow, Show, ShowBegins, ShownIsTable}
use Rattle.check_laws.specs.Keeping.{Keeps, Kept, restored}
use Rattle.check_laws.specs.ReasonsEach.{IsOneOf}
use Rattle.check_laws.specs.Walks.{StepsBy, StepsTo, Walks}
use Rattle.capture_machine.proofs.Alike.{rows_alike}
use Rattle.capture_machine.proofs.Captures.{leads_too}
use Rattle.capture_machine.specs.Capture.{AsksBy, ComesFrom, Follows, FollowsBy, GoesTo, RepliesBy}
use Rattle.capture_machine.specs.Rounds.{Dialogue, dialogue_at, with_dialogue}
use Rattle.capture_machine.specs.SessionTable.{Row, number_from, rows_between}
use Rattle.world_machine.specs.Setup.{Configuration}

pub show_begins : ShowBegins
show_begins w = (_, (refl, refl))

-- ---- A packet.

module _ (w : Configuration) (q : ReqSetup) (older : List (List ℕ)) (packet : List ℕ) (p : PacketFields) (k next : Kept) (rows : List Row)
    (apart : AreApart w.responder.eid w.requesters) (one : IsOneOf w q) (parses : parsed packet ≡ Ok p) (to : Bool) (is : IsFor w to q.eid p)
    (keeps : Keeps w q older k) (behind : Keeps w q (packet ∷ older) next) where
  abbrev n : Dialogue
  n = restored next

  -- It follows in each walk in which the requester has this one.
  follows : (before : Dialogue) (es : List Dialogue) → before.setup.eid ≡ q.eid → dialogue_at q.eid es ≡ Some before → Made w to q.eid older p before n → FollowsBy w older es (with_dialogue n es) (Ok p)
  follows before es own found made = by_end to is made
    where
      there : (m : ℕ) → m ≡ q.eid → dialogue_at m es ≡ Some before
      there m same = ap (λ (x : ℕ). dialogue_at x es) same ∙ found

      by_end : (b : Bool) → IsFor w b q.eid p → Made w b q.eid older p before n → FollowsBy w older es (with_dialogue n es) (Ok p)
      by_end true for asks =
          let F : Bool → Type 0 = λ b. MatchBool b (ComesFrom w older p es (with_dialogue n es) (dialogue_at p.from es))
          (MatchBool (p.from == w.responder.eid) (GoesTo w older p es (with_dialogue n es) (dialogue_at p.to es)) ⊥) in
          subst F (sym for.to_is) (subst (ComesFrom w older p es (with_dialogue n es)) (sym (there p.from for.end))
          (n, subst (λ (m : ℕ). AsksBy before (gathered_from w.responder.eid m older p) n) (sym own) asks, refl))
      by_end false for replies =
          let F : Bool → Bool → Type 0 = λ b c. MatchBool b (ComesFrom w older p es (with_dialogue n es) (dialogue_at p.from es))
          (MatchBool c (GoesTo w older p es (with_dialogue n es) (dialogue_at p.to es)) ⊥) in
          subst (λ (b : Bool). F b (p.from == w.responder.eid)) (sym for.to_is) (subst (F false) (sym (for.from_is refl)) (subst (GoesTo w older p es (with_dialogue n es)) (sym (there p.to for.end))
          (n, subst (λ (m : ℕ). RepliesBy w before (gathered_from m w.responder.eid older p) n) (sym own) replies, refl)))

  pub packet_shows : Show w older rows → Show w (packet ∷ older) (rows_between (restored k) n rows)
  unfolding StepsTo Follows
  packet_shows (ds, shown) =
      let walk : Walks w q (packet ∷ older) n = (kept_is_restored w q (packet ∷ older) next behind).0 in
      let before : Dialogue = walk.0 in
      let from : Walks w q older before = walk.1 in
      let made : Made w to q.eid older p before n = it_made w older q.eid p before n to is (subst (λ (r : Result PacketFields PacketFault). StepsBy w q.eid older before n r) parses walk.2) in
      let each = to_each w older ds apart (leads_too w older ds rows shown) in
      let put = put_at w older q w.requesters before ds each.0 from one in
      let es : List Dialogue = put.dialogues in
      let there = rows_are_of_all w older ds es rows shown ((leads_is_each w older es apart).1 (put.each, each.1)) in
      let own : before.setup.eid ≡ q.eid = ap (λ (s : ReqSetup). s.eid) (walks_setup w q older before from) in
      let at : dialogue_at n.setup.eid es ≡ Some before = ap (λ (s : ReqSetup). dialogue_at s.eid es) (walks_setup w q (packet ∷ older) n walk) ∙ put.found in
      let one_row = one_changes_rows es before n rows (distinct w older w.responder.eid w.requesters es apart put.each) at (shown_have_places w older es rows apart there) in
      let alike = (walks_alike w q older before (restored k) from (kept_is_restored w q older k keeps).0).alike in
      let same = rows_alike before (restored k) n n rows alike (walks_alike w q (packet ∷ older) n n walk walk).alike in (
        with_dialogue n es,
        (es, rows, there, subst (FollowsBy w older es (with_dialogue n es)) (sym parses) (follows before es own put.found made), sym (one_row ∙ same)),
      )

pub asks_show : AsksShow
asks_show w q older packet p k next rows apart one parses is keeps asks =
    packet_shows w q older packet p k next rows apart one parses true (comes_from w q.eid p is) keeps (kept_asks w q older packet p k next parses is keeps asks)

pub replies_show : RepliesShow
replies_show w q older packet p k next rows apart one parses none is keeps replies =
    packet_shows w q older packet p k next rows apart one parses false (goes_to w q.eid p is) keeps (kept_replies w q older packet p k next parses none is keeps replies)

-- ---- The table.

more_counts : (n m : ℕ) (rows : List Row) → n ≤ m → AllByRecursion (λ (row : Row). (row.sent ≤ n) × (row.answered ≤ n)) rows → AllByRecursion (λ (row : Row). (row.sent ≤ m) × (row.answered ≤ m)) rows
more_counts n m [] more all = tt
more_counts n m (row ∷ rows) more all = ((let low = all.0.0 in omega (arith, low, more), let low = all.0.1 in omega (arith, low, more)), more_counts n m rows more all.1)

pub more_packets : MorePackets
more_packets table w n m rows more stands = record { entries = stands.entries; counts = more_counts n m _ more stands.counts }

pub shown_is_table : ShownIsTable
shown_is_table w packets rows n table shows stands = table_is_shown w packets shows.0 rows n table shows.1 stands

-- ---- Numbers.

in_middle : (P : ReqSetup → Type 0) (earlier later : List ReqSetup) (q : ReqSetup) → AllByRecursion P (earlier ++ q ∷ later) → P q
in_middle P [] later q all = all.0
in_middle P (e ∷ earlier) later q all = in_middle P earlier later q all.1

number_is : (own n : ℕ) (earlier later : List ReqSetup) (q : ReqSetup) → AreApart own (earlier ++ q ∷ later)
    → (find (λ (o : ReqSetup). o.eid == q.eid) (earlier ++ q ∷ later) ≡ Some q) × (number_from n q.eid (earlier ++ q ∷ later) ≡ n + length earlier)
number_is own n [] later q apart =
    let here : (q.eid == q.eid) ≡ true = eq-eqb q.eid q.eid refl in (
      ap (λ (b : Bool). cond b (Some q) (find (λ (o : ReqSetup). o.eid == q.eid) later)) here,
      ap (λ (b : Bool). cond b n (number_from (n + 1) q.eid later)) here ∙ omega arith,
    )
number_is own n (e ∷ earlier) later q apart =
    let other : (e.eid == q.eid) ≡ false = ne_eqb e.eid q.eid (λ same. in_middle (λ (o : ReqSetup). o.eid ≢ e.eid) earlier later q apart.1 (sym same)) in
    let rest = number_is own (n + 1) earlier later q apart.2 in (
      ap (λ (b : Bool). cond b (Some e) (find (λ (o : ReqSetup). o.eid == q.eid) (earlier ++ q ∷ later))) other ∙ rest.0,
      ap (λ (b : Bool). cond b n (number_from (n + 1) q.eid (earlier ++ q ∷ later))) other ∙ rest.1 ∙ omega arith,
    )

pub numbers_are_order : NumbersAreOrder
numbers_are_order w q earlier later apart are =
    let is = number_is w.responder.eid 1 earlier later q (subst (AreApart w.responder.eid) are apart) in (
      subst (λ (qs : List ReqSetup). find (λ (o : ReqSetup). o.eid == q.eid) qs ≡ Some q) (sym are) is.0,
      subst (λ (qs : List ReqSetup). number_from 1 q.eid qs ≡ length earlier + 1) (sym are) (is.1 ∙ omega arith),
    )
