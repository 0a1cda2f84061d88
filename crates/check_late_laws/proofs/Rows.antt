-- The rows that packets show, by what is kept while a large response is fetched.
use Rattle.std.proofs.Common.{◌≡◌, ◌⊎◌, ◌==◌, ◌∙◌, ℕ, List, ◌∷◌, Bool, true, false, Option, Some, None, Result, Ok, refl, ap, sym, subst, inl, inr}
use Rattle.std.specs.Prelude.{MatchBool}
use Rattle.mctp_framing.specs.Packet.{PacketFields, parsed}
use Rattle.requester_machine.specs.Setup.{ReqSetup}
use Rattle.spdm_basis.specs.declared.PacketFault.{PacketFault}
use Rattle.spdm_machine.specs.Packets.{gathered_from}
use Rattle.check_laws.proofs.EachWalks.{leads_is_each}
use Rattle.check_laws.proofs.KeptAnswers.{goes_to, kept_is_restored}
use Rattle.check_laws.proofs.KeptSteps.{comes_from}
use Rattle.check_laws.proofs.OneWalk.{walks_alike}
use Rattle.check_laws.proofs.PairWalks.{IsFor, Made, it_made, to_each, walks_setup}
use Rattle.check_laws.proofs.PlacesShown.{distinct, shown_have_places}
use Rattle.check_laws.proofs.ReasonsEach.{put_at}
use Rattle.check_laws.specs.Judged.{AreApart}
use Rattle.check_laws.specs.KeptRows.{Show}
use Rattle.check_laws.specs.Keeping.{Kept, restored}
use Rattle.check_laws.specs.Order.{is_answer, is_request}
use Rattle.check_laws.specs.ReasonsEach.{IsOneOf}
use Rattle.check_laws.specs.Rows.{OneChangesRows, RowsAreOfAll}
use Rattle.check_laws.specs.Walks.{StepsBy, StepsTo, Walks}
use Rattle.capture_machine.proofs.Alike.{rows_alike}
use Rattle.capture_machine.proofs.Captures.{leads_too}
use Rattle.capture_machine.specs.Capture.{AsksBy, ComesFrom, Follows, FollowsBy, GoesTo, RepliesBy}
use Rattle.capture_machine.specs.Rounds.{Dialogue, dialogue_at, with_dialogue}
use Rattle.capture_machine.specs.SessionTable.{Row, rows_between}
use Rattle.world_machine.specs.Setup.{Configuration}
use Rattle.check_late_laws.specs.FetchingRows.{FetchingShows, IsKeptOf}

-- ---- Two walks, of which one has a packet more.

module _ (one_changes_rows : OneChangesRows) (rows_are_of_all : RowsAreOfAll) (w : Configuration) (q : ReqSetup) (older : List (List ℕ)) (packet : List ℕ) (p : PacketFields) (d n : Dialogue) (rows : List Row) (apart : AreApart w.responder.eid w.requesters) (one : IsOneOf w q) (parses : parsed packet ≡ Ok p) (to : Bool) (is : IsFor w to q.eid p) (here : Walks w q older d) (walk : Walks w q (packet ∷ older) n) where
  -- It follows in each walk in which the requester has this one.
  follows : (before : Dialogue) (es : List Dialogue) → before.setup.eid ≡ q.eid → dialogue_at q.eid es ≡ Some before → Made w to q.eid older p before n → FollowsBy w older es (with_dialogue n es) (Ok p)
  follows before es own found made = by_end to is made
    where
      there : (m : ℕ) → m ≡ q.eid → dialogue_at m es ≡ Some before
      there m same = ap (λ (x : ℕ). dialogue_at x es) same ∙ found

      by_end : (b : Bool) → IsFor w b q.eid p → Made w b q.eid older p before n → FollowsBy w older es (with_dialogue n es) (Ok p)
      by_end true for asks =
          let F : Bool → Type 0 = λ b. MatchBool b (ComesFrom w older p es (with_dialogue n es) (dialogue_at p.from es))
          (MatchBool (p.from == w.responder.eid) (GoesTo w older p es (with_dialogue n es) (dialogue_at p.to es)) ⊥) in
          subst F (sym for.to_is) (subst (ComesFrom w older p es (with_dialogue n es)) (sym (there p.from for.end))
          (n, subst (λ (m : ℕ). AsksBy before (gathered_from w.responder.eid m older p) n) (sym own) asks, refl))
      by_end false for replies =
          let F : Bool → Bool → Type 0 = λ b c. MatchBool b (ComesFrom w older p es (with_dialogue n es) (dialogue_at p.from es))
          (MatchBool c (GoesTo w older p es (with_dialogue n es) (dialogue_at p.to es)) ⊥) in
          subst (λ (b : Bool). F b (p.from == w.responder.eid)) (sym for.to_is) (subst (F false) (sym (for.from_is refl)) (subst (GoesTo w older p es (with_dialogue n es)) (sym (there p.to for.end))
          (n, subst (λ (m : ℕ). RepliesBy w before (gathered_from m w.responder.eid older p) n) (sym own) replies, refl)))

  pub packet_shows : Show w older rows → Show w (packet ∷ older) (rows_between d n rows)
  unfolding StepsTo Follows
  packet_shows (ds, shown) =
      let before : Dialogue = walk.0 in
      let from : Walks w q older before = walk.1 in
      let made : Made w to q.eid older p before n = it_made w older q.eid p before n to is (subst (λ (r : Result PacketFields PacketFault). StepsBy w q.eid older before n r) parses walk.2) in
      let each = to_each w older ds apart (leads_too w older ds rows shown) in
      let put = put_at w older q w.requesters before ds each.0 from one in
      let es : List Dialogue = put.dialogues in
      let there = rows_are_of_all w older ds es rows shown ((leads_is_each w older es apart).1 (put.each, each.1)) in
      let own : before.setup.eid ≡ q.eid = ap (λ (s : ReqSetup). s.eid) (walks_setup w q older before from) in
      let at : dialogue_at n.setup.eid es ≡ Some before = ap (λ (s : ReqSetup). dialogue_at s.eid es) (walks_setup w q (packet ∷ older) n walk) ∙ put.found in
      let one_row = one_changes_rows es before n rows (distinct w older w.responder.eid w.requesters es apart put.each) at (shown_have_places w older es rows apart there) in
      let same = rows_alike before d n n rows (walks_alike w q older before d from here).alike (walks_alike w q (packet ∷ older) n n walk walk).alike in (
        with_dialogue n es,
        (es, rows, there, subst (FollowsBy w older es (with_dialogue n es)) (sym parses) (follows before es own put.found made), sym (one_row ∙ same)),
      )

-- ---- What is kept.

-- A walk leads to it, but for the bytes that stand.
record IsOf (w : Configuration) (q : ReqSetup) (older : List (List ℕ)) (k : Kept) : Type 0 where
  bytes : Option (List ℕ)
  walk : Walks w q older (record (restored k) { fetching = bytes })

walk_of : (w : Configuration) (q : ReqSetup) (older : List (List ℕ)) (k : Kept) → IsKeptOf w q older k → IsOf w q older k
walk_of w q older k (inl keeps) = record { bytes = None; walk = (kept_is_restored w q older k keeps).0 }
walk_of w q older k (inr (f, own, same)) =
    subst (IsOf w q older) same (record { bytes = Some own.stands.0; walk = own.all own.stands.0 own.stands.1 })

pub fetching_shows : OneChangesRows → RowsAreOfAll → FetchingShows
fetching_shows changes all w q older packet p k next rows apart one parses kind before after shown = by_kind kind
  where
    a : IsOf w q older k
    a = walk_of w q older k before

    b : IsOf w q (packet ∷ older) next
    b = walk_of w q (packet ∷ older) next after

    shows : (to : Bool) → IsFor w to q.eid p → Show w (packet ∷ older) (rows_between (restored k) (restored next) rows)
    shows to is = packet_shows changes all w q older packet p (record (restored k) { fetching = a.bytes }) (record (restored next) { fetching = b.bytes }) rows apart one parses to is a.walk b.walk shown

    by_kind : (is_request w.responder.eid q.eid p ≡ true) ⊎ ((is_request w.responder.eid q.eid p ≡ false) × (is_answer w.responder.eid q.eid p ≡ true)) → Show w (packet ∷ older) (rows_between (restored k) (restored next) rows)
    by_kind (inl is) = shows true (comes_from w q.eid p is)
    by_kind (inr (not_request, is)) = shows false (goes_to w q.eid p is)
