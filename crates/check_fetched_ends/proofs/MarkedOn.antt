-- The marks stand on after what goes on.
use Rattle.std.proofs.Common.{◌≡◌, ◌==◌, ◌&&◌, ◌||◌, ◌∙◌, ℕ, List, ◌∷◌, refl, sym, ap, subst, drop, Bool, true, false, Option, Some, None, Result, Ok, Err, cond}
use Rattle.std.specs.Prelude.{slice_index}
use Rattle.std.proofs.lemmas.Bool.{false≢true}
use Rattle.check_ends.proofs.WalkRows.{walk_round}
use Rattle.check_ends.specs.Conversation.{IsAnswer, IsRequest}
use Rattle.check_laws.specs.KeptChanges.{is_kept_record}
use Rattle.check_laws.specs.Order.{body_in, round_of, tag_in}
use Rattle.check_laws.specs.Walks.{Walks}
use Rattle.check_laws.specs.declared.verdict.Seen.{Seen}
use Rattle.check_fetched_ends.proofs.EndsSeen.{clear_held}
use Rattle.check_late_laws.proofs.Late.MarksCases.{moved_by}
use Rattle.check_fetched_ends.proofs.MarksWalk.{answer_moves_marks, answered_step, asked_marks, one_walk_marks}
use Rattle.check_fetched_ends.specs.JudgedEnds as judged
use Rattle.check_fetched_ends.specs.Marked.{MarksStand, is_taken_by, is_touched_by, touched_behind}
use Rattle.check_fetched_ends.specs.MarkedEnds.{IsAskedOf}
use Rattle.check_fetched_ends.specs.declared.fetch.Fetch.{Fetch}
use Rattle.check_fetched_ends.specs.declared.fetch.Fetch.TheVariants as fetch
use Rattle.check_fetched_ends.specs.declared.clear_fetch.held.Held.{Held}
use Rattle.check_fetched_ends.specs.declared.judged_ends.JudgedEnds.{JudgedEnds}
use Rattle.check_late_laws.specs.Late.Marking as marking
use Rattle.check_late_laws.specs.Late.Passed.{touched}
use Rattle.check_late_laws.specs.declared.late_fetch.marks.Marks.{Marks}
use Rattle.mctp_framing.specs.Cutting.{RouteFields}
use Rattle.mctp_framing.specs.Gathering.Gathered.{Whole}
use Rattle.requester_machine.specs.Setup.{ReqSetup}
use Rattle.responder_machine.specs.History.{History, kept_of}
use Rattle.responder_machine.specs.Responder.{is_repeat}
use Rattle.responder_machine.specs.Session.{id_in_record, is_live, session_of}
use Rattle.spdm_grammar.specs.declared.told.why.Why as declared
use Rattle.capture_machine.specs.Rounds.{Dialogue, Round}
use Rattle.capture_machine.specs.SessionTable.{Row, rows_between}
use Rattle.world_machine.specs.Setup.{Configuration}

-- ---- A request.

pub asked_marked : (w : Configuration) (q : ReqSetup) (older : List (List ℕ)) (rows : List Row) (packet : List ℕ) (route : RouteFields) (body : List ℕ) (result : Result Unit declared.Why) (new : JudgedEnds) (marks : Marks) (table : List Seen)
    → IsRequest w q older packet route body → MarksStand marks w q older → judged.IsAskedOf w q older rows packet (Whole route body) result new table → IsAskedOf w q older rows packet (Whole route body) result (record { ends = new; marks = marks }) table
asked_marked w q older rows packet route body (Ok u) new marks table at stands told = (told, asked_marks marks w q older packet route body at stands)
asked_marked w q older rows packet route body (Err why) new marks table at stands told = told

-- ---- An answer.

one_test : (clear taken touches_it moves : Bool) (n i : ℕ) (was : Bool) → moves ≡ cond clear taken touches_it → cond clear (cond taken false was) ((n == i && touches_it) || was) ≡ moved_by clear moves n i was
one_test true taken touches_it moves n i was is = ap (λ (b : Bool). cond b false was) (sym is)
one_test false taken touches_it moves n i was is = ap (λ (b : Bool). (n == i && b) || was) (sym is)

-- What is reported of a request before its answer, of each walk.
pub record AreTold (ends : JudgedEnds) (w : Configuration) (q : ReqSetup) (older : List (List ℕ)) (tag : ℕ) (m : List ℕ) (repeats kept live : Bool) : Type 0 where
  pub clear : (d : Dialogue) → Walks w q older d → repeats ≡ is_repeat (kept_of d.responder) tag m
  pub sealed : (d : Dialogue) → Walks w q older d → ((held : Held) → ends.fetched ≡ Some (fetch.InClear held) → ⊥) → kept ≡ is_kept_record d.responder m
  pub lives : (d : Dialogue) → Walks w q older d → ((held : Held) → ends.fetched ≡ Some (fetch.InClear held) → ⊥) → live ≡ is_live (session_of (id_in_record m) d.responder)

-- And after it.
abbrev pub IsToldBehind : JudgedEnds → Configuration → ReqSetup → (older : List (List ℕ)) → (tag : ℕ) → (body answer : List ℕ) → (repeats kept live moves : Bool) → Type 0
IsToldBehind ends w q older tag body answer repeats kept live moves =
    (rows : List Row) (d : Dialogue) (h : History) → judged.StandsFor ends w q older rows → Walks w q older d
    → ((slice_index body 0 == 5) ≡ true → repeats ≡ is_repeat (kept_of h) tag (drop 1 body))
    → ((slice_index body 0 == 5) ≡ false
    → (kept ≡ is_kept_record h (drop 1 body))
    × (live ≡ is_live (session_of (id_in_record (drop 1 body)) h))
    × ((held : Held) → ends.fetched ≡ Some (fetch.InClear held) → ⊥))
    → moves ≡ cond (slice_index body 0 == 5) (is_taken_by h d.responder tag (drop 1 body)) (is_touched_by h d.responder (drop 1 body) answer)

module _ (w : Configuration) (q : ReqSetup) (older : List (List ℕ)) (rows : List Row) (packet : List ℕ) (route : RouteFields) (answer : List ℕ) (at : IsAnswer w q older packet route answer) (round : Option Round) (is_round : round ≡ round_of w.responder.eid q.eid older) (before : JudgedEnds) (stands : judged.StandsFor before w q older rows)
    (new : JudgedEnds) (table : List Seen) (behind : judged.StandsBehind new table w q older rows packet) where
  pub answered_marked : (old_marks new_marks : Marks) (tag : ℕ) (body m : List ℕ) (repeats kept live moves clear : Bool) (id : ℕ) → tag ≡ tag_in round → body ≡ body_in round → m ≡ drop 1 body → clear ≡ (slice_index body 0 == 5) → id ≡ id_in_record m
      → AreTold before w q older tag m repeats kept live → IsToldBehind new w q (packet ∷ older) tag body answer repeats kept live moves
      → ((h g : History) → ((i : ℕ) → touched i g ≡ moved_by clear moves id i (touched i h)) → marking.StandsFor old_marks h → marking.StandsFor new_marks g) → MarksStand old_marks w q older → MarksStand new_marks w q (packet ∷ older)
  answered_marked old_marks new_marks tag body m repeats kept live moves clear id tag_is body_is m_is clear_is id_is told behind_told moved marks =
      let d : Dialogue = behind.goes.0 in
      let walk = behind.goes.1 in
      let after : Dialogue = behind.after in
      let replies = (answered_step w q older packet route answer at d after behind.goes.2).2 in
      let of : Round = replies.0 in
      let here : round ≡ Some of = is_round ∙ sym (walk_round w q older d walk) ∙ replies.1 in
      let own : body ≡ of.body = body_is ∙ ap body_in here in
      let its : tag ≡ of.tag = tag_is ∙ ap tag_in here in
      let sealed_before : (slice_index body 0 == 5) ≡ false → (held : Held) → before.fetched ≡ Some (fetch.InClear held) → ⊥ =
      λ type held is.
      false≢true (sym type ∙ ap (λ (l : List ℕ). slice_index l 0 == 5) own ∙ clear_held w q older d walk before.talk held rows of (subst (λ (o : Option Fetch). judged.StandsAs before.talk o w q older rows) is stands) replies.1) in
      let sealed_behind : (slice_index body 0 == 5) ≡ false → (held : Held) → new.fetched ≡ Some (fetch.InClear held) → ⊥ =
      λ type held is.
      let round_after = ap (λ (x : Dialogue). x.round) replies.4.3.2 in
      false≢true (sym type ∙ ap (λ (l : List ℕ). slice_index l 0 == 5) own
      ∙ clear_held w q (packet ∷ older) after behind.goes new.talk held (rows_between behind.before after rows) _ (subst (λ (o : Option Fetch). judged.StandsAs new.talk o w q (packet ∷ older) (rows_between behind.before after rows)) is behind.stands) round_after) in
      let moves_are : moves ≡ cond (slice_index body 0 == 5) (is_taken_by d.responder after.responder tag (drop 1 body)) (is_touched_by d.responder after.responder (drop 1 body) answer) =
      behind_told (rows_between behind.before after rows) after d.responder behind.stands behind.goes
      (λ type. told.clear d walk ∙ ap (λ (l : List ℕ). is_repeat (kept_of d.responder) tag l) m_is)
      (λ type. (
        told.sealed d walk (sealed_before type) ∙ ap (λ (l : List ℕ). is_kept_record d.responder l) m_is,
        told.lives d walk (sealed_before type) ∙ ap (λ (l : List ℕ). is_live (session_of (id_in_record l) d.responder)) m_is,
        sealed_behind type,
      )) in
      let law : (i : ℕ) → touched i after.responder ≡ touched_behind d.responder after.responder tag body answer i =
      λ i. subst (λ (n : ℕ). touched i after.responder ≡ touched_behind d.responder after.responder n body answer i) (sym its)
      (subst (λ (l : List ℕ). touched i after.responder ≡ touched_behind d.responder after.responder of.tag l answer i) (sym own) (answer_moves_marks w q older packet route answer d after of at walk behind.goes.2 replies.1 i)) in
      let are : (i : ℕ) → touched i after.responder ≡ moved_by clear moves id i (touched i d.responder) =
      λ i. law i
      ∙ one_test (slice_index body 0 == 5) (is_taken_by d.responder after.responder tag (drop 1 body)) (is_touched_by d.responder after.responder (drop 1 body) answer) moves (id_in_record (drop 1 body)) i (touched i d.responder) moves_are
      ∙ ap (λ (b : Bool). moved_by b moves (id_in_record (drop 1 body)) i (touched i d.responder)) (sym clear_is)
      ∙ ap (λ (n : ℕ). moved_by clear moves n i (touched i d.responder)) (sym (id_is ∙ ap id_in_record m_is)) in
      one_walk_marks new_marks w q (packet ∷ older) after behind.goes (moved d.responder after.responder are (marks d walk))
