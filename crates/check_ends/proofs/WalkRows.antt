-- The rows that packets show, by any walk of the requester of the last one.
use Rattle.std.proofs.Common.{◌≡◌, ◌∙◌, ◌==◌, ℕ, List, [], ◌∷◌, Bool, true, false, Option, Some, None, Result, Ok, Err, refl, ap, sym, subst, inl, inr}
use Rattle.std.specs.Prelude.{MatchBool, if◌then◌else◌, reverse, slice_index_or, ◌+◌}
use Rattle.std.specs.List.{AllByRecursion}
use Rattle.mctp_framing.specs.Packet.{PacketFields, parsed}
use Rattle.requester_machine.specs.Setup.{ReqSetup}
use Rattle.responder_machine.specs.History.{History}
use Rattle.responder_machine.specs.Session.{session_of}
use Rattle.spdm_basis.specs.declared.PacketFault.{PacketFault}
use Rattle.spdm_machine.specs.Packets.{gathered_from}
use Rattle.check_laws.proofs.EachWalks.{leads_is_each}
use Rattle.check_laws.proofs.KeptAnswers.{goes_to}
use Rattle.check_laws.proofs.KeptSteps.{comes_from}
use Rattle.check_laws.proofs.OneWalk.{walks_alike}
use Rattle.check_laws.proofs.PairWalks.{IsFor, Made, it_made, to_each, walks_setup}
use Rattle.check_laws.proofs.PlacesShown.{distinct, shown_have_places}
use Rattle.check_laws.proofs.ReasonsEach.{put_at}
use Rattle.check_laws.proofs.Rounded.{answer_turned, request_turned}
use Rattle.check_laws.specs.Judged.{AreApart}
use Rattle.check_laws.specs.KeptRows.{Show}
use Rattle.check_laws.specs.Order.{is_answer, is_request, round_after, round_by_answer, round_by_request, round_of}
use Rattle.check_laws.specs.ReasonsEach.{IsOneOf}
use Rattle.check_laws.specs.Rows.{IsOfDialogue, OneChangesRows, PassesOnlyAt, RowsAreOfAll, StandFor, does_ask_as, is_live_as}
use Rattle.check_laws.specs.Walks.{StepsBy, StepsTo, Walks}
use Rattle.check_laws.specs.declared.places.Places.{Places}
use Rattle.check_ends.specs.Conversation.{WalksShow}
use Rattle.capture_machine.proofs.Alike.{rows_alike}
use Rattle.capture_machine.proofs.Captures.{leads_too}
use Rattle.capture_machine.specs.Capture.{AsksBy, ComesFrom, Follows, FollowsBy, GoesTo, RepliesBy}
use Rattle.capture_machine.specs.Rounds.{Dialogue, Round, dialogue_at, with_dialogue}
use Rattle.capture_machine.specs.SessionTable.{Row, responder_id, rows_between}
use Rattle.world_machine.specs.Setup.{Configuration}

-- ---- A packet.

module _ (changes : OneChangesRows) (of_all : RowsAreOfAll) (w : Configuration) (q : ReqSetup) (older : List (List ℕ)) (packet : List ℕ) (p : PacketFields) (n : Dialogue) (rows : List Row)
    (apart : AreApart w.responder.eid w.requesters) (one : IsOneOf w q) (parses : parsed packet ≡ Ok p) (to : Bool) (is : IsFor w to q.eid p)
    (walk : Walks w q (packet ∷ older) n) where
  -- It follows in each walk in which the requester has this one.
  follows : (before : Dialogue) (es : List Dialogue) → before.setup.eid ≡ q.eid → dialogue_at q.eid es ≡ Some before → Made w to q.eid older p before n → FollowsBy w older es (with_dialogue n es) (Ok p)
  follows before es own found made = by_end to is made
    where
      there : (m : ℕ) → m ≡ q.eid → dialogue_at m es ≡ Some before
      there m same = ap (λ (x : ℕ). dialogue_at x es) same ∙ found

      by_end : (b : Bool) → IsFor w b q.eid p → Made w b q.eid older p before n → FollowsBy w older es (with_dialogue n es) (Ok p)
      by_end true for asks =
          let F : Bool → Type 0 = λ b. MatchBool b (ComesFrom w older p es (with_dialogue n es) (dialogue_at p.from es))
          (MatchBool (p.from == w.responder.eid) (GoesTo w older p es (with_dialogue n es) (dialogue_at p.to es)) ⊥) in
          subst F (sym for.to_is) (subst (ComesFrom w older p es (with_dialogue n es)) (sym (there p.from for.end))
          (n, subst (λ (m : ℕ). AsksBy before (gathered_from w.responder.eid m older p) n) (sym own) asks, refl))
      by_end false for replies =
          let F : Bool → Bool → Type 0 = λ b c. MatchBool b (ComesFrom w older p es (with_dialogue n es) (dialogue_at p.from es))
          (MatchBool c (GoesTo w older p es (with_dialogue n es) (dialogue_at p.to es)) ⊥) in
          subst (λ (b : Bool). F b (p.from == w.responder.eid)) (sym for.to_is) (subst (F false) (sym (for.from_is refl)) (subst (GoesTo w older p es (with_dialogue n es)) (sym (there p.to for.end))
          (n, subst (λ (m : ℕ). RepliesBy w before (gathered_from m w.responder.eid older p) n) (sym own) replies, refl)))

  pub walk_shows : (other : Dialogue) → Walks w q older other → Show w older rows → Show w (packet ∷ older) (rows_between other n rows)
  unfolding StepsTo Follows
  walk_shows other came (ds, shown) =
      let before : Dialogue = walk.0 in
      let from : Walks w q older before = walk.1 in
      let made : Made w to q.eid older p before n = it_made w older q.eid p before n to is (subst (λ (r : Result PacketFields PacketFault). StepsBy w q.eid older before n r) parses walk.2) in
      let each = to_each w older ds apart (leads_too w older ds rows shown) in
      let put = put_at w older q w.requesters before ds each.0 from one in
      let es : List Dialogue = put.dialogues in
      let there = of_all w older ds es rows shown ((leads_is_each w older es apart).1 (put.each, each.1)) in
      let own : before.setup.eid ≡ q.eid = ap (λ (s : ReqSetup). s.eid) (walks_setup w q older before from) in
      let at : dialogue_at n.setup.eid es ≡ Some before = ap (λ (s : ReqSetup). dialogue_at s.eid es) (walks_setup w q (packet ∷ older) n walk) ∙ put.found in
      let one_row = changes es before n rows (distinct w older w.responder.eid w.requesters es apart put.each) at (shown_have_places w older es rows apart there) in
      let same = rows_alike before other n n rows (walks_alike w q older before other from came).alike (walks_alike w q (packet ∷ older) n n walk walk).alike in (
        with_dialogue n es,
        (es, rows, there, subst (FollowsBy w older es (with_dialogue n es)) (sym parses) (follows before es own put.found made), sym (one_row ∙ same)),
      )

-- A packet from it or for it.
pub walks_show : OneChangesRows → RowsAreOfAll → WalksShow
walks_show changes of_all w q older packet p before after rows apart one parses (inl is) came walk shown = walk_shows changes of_all w q older packet p after rows apart one parses true (comes_from w q.eid p is) walk before came shown
walks_show changes of_all w q older packet p before after rows apart one parses (inr is) came walk shown = walk_shows changes of_all w q older packet p after rows apart one parses false (goes_to w q.eid p is) walk before came shown

-- ---- The round.

round_behind : (w : Configuration) (q : ReqSetup) (older : List (List ℕ)) (b d : Dialogue) (r : Result PacketFields PacketFault) → b.round ≡ round_of w.responder.eid q.eid older → StepsBy w q.eid older b d r
    → d.round ≡ round_after w.responder.eid q.eid older (round_of w.responder.eid q.eid older) r
round_behind w q older b d (Err fault) own step = ap (λ (x : Dialogue). x.round) step ∙ own
round_behind w q older b d (Ok p) own step = by_ends (is_request w.responder.eid q.eid p) (is_answer w.responder.eid q.eid p) step
  where
    by_ends : (x y : Bool) → MatchBool x (AsksBy b (gathered_from w.responder.eid q.eid older p) d) (MatchBool y (RepliesBy w b (gathered_from q.eid w.responder.eid older p) d) (d ≡ b))
        → d.round ≡ (if x then round_by_request (round_of w.responder.eid q.eid older) (gathered_from w.responder.eid q.eid older p)
        else (if y then round_by_answer (round_of w.responder.eid q.eid older) (gathered_from q.eid w.responder.eid older p) else round_of w.responder.eid q.eid older))
    by_ends true y asks = (request_turned b (gathered_from w.responder.eid q.eid older p) d asks).round ∙ ap (λ (o : Option Round). round_by_request o (gathered_from w.responder.eid q.eid older p)) own
    by_ends false true replies = (answer_turned w b (gathered_from q.eid w.responder.eid older p) d replies).round ∙ ap (λ (o : Option Round). round_by_answer o (gathered_from q.eid w.responder.eid older p)) own
    by_ends false false same = ap (λ (x : Dialogue). x.round) same ∙ own

-- Each walk has the round of the packets.
pub walk_round : (w : Configuration) (q : ReqSetup) (older : List (List ℕ)) (d : Dialogue) → Walks w q older d → d.round ≡ round_of w.responder.eid q.eid older
unfolding StepsTo
walk_round w q [] d walk = ap (λ (x : Dialogue). x.round) walk
walk_round w q (packet ∷ older) d walk = round_behind w q older walk.0 d (parsed packet) (walk_round w q older walk.0 walk.1) walk.2

-- ---- Places.

same_all : (d e : Dialogue) (rows : List Row) → ((row : Row) → IsOfDialogue d row → IsOfDialogue e row) → d.setup.eid ≡ e.setup.eid → AllByRecursion (λ (row : Row). row.eid ≡ d.setup.eid → IsOfDialogue d row) rows → AllByRecursion (λ (row : Row). row.eid ≡ e.setup.eid → IsOfDialogue e row) rows
same_all d e [] each own all = tt
same_all d e (row ∷ rows) each own all = (λ is. each row (all.0 (is ∙ sym own)), same_all d e rows each own all.1)

-- The places of a requester depend on the responder's history alone.
pub places_for : (places : Places) (d e : Dialogue) (rows : List Row) → d.setup ≡ e.setup → d.responder ≡ e.responder → StandFor places d rows → StandFor places e rows
places_for places d e rows setup responder are =
    let own : d.setup.eid ≡ e.setup.eid = ap (λ (s : ReqSetup). s.eid) setup in record {
      live_at = λ slot few. subst (λ (n : ℕ). PassesOnlyAt (is_live_as n (slot + 1)) (reverse rows) (slice_index_or places.live slot None)) own (are.live_at slot few);
      asks_at = λ slot few. subst (λ (n : ℕ). PassesOnlyAt (does_ask_as n (slot + 1)) (reverse rows) (slice_index_or places.asks slot None)) own (are.asks_at slot few);
      rest = same_all d e (reverse rows) (λ row of. record {
        now = λ live. of.now live ∙ ap (λ (h : History). session_of (responder_id row) h) responder;
        begun = of.begun;
        few = of.few;
        asks = of.asks;
      }) own are.rest;
    }
