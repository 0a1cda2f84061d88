-- What stood for the answer before an answer that goes whole, stands for it after that.
use Rattle.std.proofs.Common.{◌≡◌, ◌==◌, ◌&&◌, ℕ, List, [], ◌∷◌, refl, sym, ap, ◌∙◌, subst, drop, take, length, Bool, true, false, Option}
use Rattle.std.specs.Prelude.{slice_index}
use Rattle.std.proofs.Math.Bool.{and-false}
use Rattle.responder_machine.specs.History.{Entry, History}
use Rattle.responder_machine.specs.History.Entry.{Dropped}
use Rattle.responder_machine.specs.Place.{Place}
use Rattle.responder_machine.specs.Responder.{Outcome, after}
use Rattle.responder_machine.specs.Responder.Outcome.{Same, Unopened, Adds}
use Rattle.responder_machine.specs.Setup.{RspSetup}
use Rattle.responder_machine.specs.May.{place_for, with_dropped}
use Rattle.spdm_grammar.specs.Message.RequestMessage.{ChunkGet}
use Rattle.spdm_grammar.specs.Requests.{canonical_request}
use Rattle.spdm_machine.specs.Bodies.{clear_body}
use Rattle.capture_machine.proofs.DropsTell.{record_shown}
use Rattle.capture_machine.proofs.FetchStates.{Fetch, Getting, asks_type}
use Rattle.capture_machine.proofs.FetchStates.Getting.{Asks, Repeats, Seals}
use Rattle.capture_machine.proofs.FetchedAnswers.{always_none, again_none}
use Rattle.capture_machine.proofs.FetchedTells.{ReadsAlways, get_reads}
use Rattle.capture_machine.proofs.PlainTells.{form_of, led_record}
use Rattle.capture_machine.proofs.SeenAnswers.{led_seen}
use Rattle.capture_machine.proofs.UnseenStands.{old_in}
use Rattle.capture_machine.specs.CapturedAnswers.{AreShown, MayLeadAfter, MayLeadTo}
use Rattle.capture_machine.specs.LargeAnswers.{IsLargeAnswer, is_kept_in, place_named, takes_get, with_large}
use Rattle.check_late_laws.specs.Fetching.{HasSize, bytes_given, number_given, size_told}
use Rattle.check_late_laws.proofs.Fresh.{StaysBy, bytes_stay, number_stays, size_stays}
use Rattle.check_late_laws.proofs.Gave.{Gave, begins, gave, sized}

-- ---- Bytes that stand.

abbrev pub StandsAt : Place → Option ℕ → History → (whole : List ℕ) → Type 0
StandsAt place at h whole = IsLargeAnswer place whole × HasSize (size_told at h) whole × (take (length (bytes_given at h)) whole ≡ bytes_given at h)

pub record IsSame (at : Option ℕ) (h k : History) : Type 0 where
  pub number : number_given at h ≡ number_given at k
  pub bytes : bytes_given at h ≡ bytes_given at k
  pub size : size_told at h ≡ size_told at k

pub same_stands : (place : Place) (at : Option ℕ) (h k : History) (v : List ℕ) → IsSame at h k → StandsAt place at h v → StandsAt place at k v
same_stands place at h k v same stands =
    (stands.0, subst (λ (o : Option ℕ). HasSize o v) same.size stands.1, subst (λ (l : List ℕ). take (length l) v ≡ l) same.bytes stands.2)

pub back_same : (at : Option ℕ) (h k : History) → IsSame at h k → IsSame at k h
back_same at h k same = record { number = sym same.number; bytes = sym same.bytes; size = sym same.size }

pub entry_same : (at : Option ℕ) (e : Entry) (h : History) → StaysBy at e → IsSame at (e ∷ h) h
entry_same at e h stays = record { number = number_stays at e h stays; bytes = bytes_stay at e h stays; size = size_stays at e h stays }

drop_stays : (at : Option ℕ) (id : ℕ) → StaysBy at (Dropped id)
drop_stays at id = record { seen = old_in at (Dropped id) refl; none = and-false (is_kept_in at (Dropped id)) }

pub dropped_same : (at : Option ℕ) (ids : List ℕ) (h : History) → IsSame at (with_dropped h ids) h
dropped_same at [] h = record { number = refl; bytes = refl; size = refl }
dropped_same at (id ∷ ids) h =
    let rest = dropped_same at ids (Dropped id ∷ h) in
    let one = entry_same at (Dropped id) h (drop_stays at id) in
    record { number = rest.number ∙ one.number; bytes = rest.bytes ∙ one.bytes; size = rest.size ∙ one.size }

-- ---- An answer that goes whole.

pub asks_reads : (handle number : ℕ) (body : List ℕ) → body ≡ clear_body (canonical_request (ChunkGet handle number)) → ReadsAlways (drop 1 body)
asks_reads handle number body is = subst (λ (l : List ℕ). ReadsAlways (drop 1 l)) (sym is) (get_reads handle number)

module _ (r : RspSetup) (h : History) (v : List ℕ) (tag : ℕ) (body : List ℕ) where
  abbrev at : Option ℕ
  at = place_named body

  abbrev judged : History
  judged = with_large (place_named body) v h

  -- Nothing was dropped before an entry that is added.
  pub adds_none : (ids : List ℕ) (e : Entry) → Fetch h v tag body → MayLeadAfter r judged ids tag body (Adds e) → AreShown r judged body (Adds e) ids → ids ≡ []
  adds_none ids e fetch may shown = by_how fetch.how
    where
      in_session : (l : List ℕ) → (slice_index body 0 == 5) ≡ false → MayLeadAfter r judged l tag body (Adds e) → AreShown r judged body (Adds e) l → l ≡ []
      in_session [] type may shown = refl
      in_session (id ∷ []) type may shown =
          let known = record_shown r judged (Dropped id ∷ judged) tag body id (Adds e) (form_of r (Dropped id ∷ judged) tag body (Adds e) (led_record r (Dropped id ∷ judged) tag body (Adds e) type may.1)) shown in
          absurd (let x = known.0.1 in cc)
      in_session (id ∷ other ∷ others) type may shown = absurd shown

      by_how : Getting h tag body → ids ≡ []
      by_how (Asks handle number is since) = always_none r judged ids tag body (Adds e) (asks_type handle number body is) (asks_reads handle number body is) may shown
      by_how (Repeats type again since) = again_none r h (place_named body) v ids tag body (Adds e) type again may shown
      by_how (Seals type stand) = in_session ids type may shown

  -- The entry gives no chunk, or it gives one.
  pub data Came (e : Entry) : Type 0 where
    Other : takes_get e ≡ false → StaysBy at e → Came e
    Chunk : takes_get e ≡ true → Gave at h v (place_for judged body) e → Came e

  pub came : (e : Entry) → Fetch h v tag body → MayLeadTo r judged tag body (Adds e) → Came e
  came e fetch may = by_gets (takes_get e) refl
    where
      by_gets : (b : Bool) → takes_get e ≡ b → Came e
      by_gets false none = Other none (record { seen = old_in at e (led_seen r judged tag body e may); none = ap (λ (b : Bool). is_kept_in at e && b) none ∙ and-false (is_kept_in at e) })
      by_gets true gets = Chunk gets (gave r h v tag body e fetch.chunked may gets)

  entry_stands : (place : Place) (e : Entry) → Came e → StandsAt place at h v → StandsAt place at (e ∷ h) v
  entry_stands place e (Other none stays) stands = same_stands place at h (e ∷ h) v (back_same at (e ∷ h) h (entry_same at e h stays)) stands
  entry_stands place e (Chunk gets g) stands =
      (stands.0, sized at h v (place_for judged body) e g stands.0.2 stands.1, begins at h v (place_for judged body) e g)

  pub plain_stands : (place : Place) (ids : List ℕ) (o : Outcome) → Fetch h v tag body → MayLeadAfter r judged ids tag body o → AreShown r judged body o ids → StandsAt place at h v → StandsAt place at (after (with_dropped h ids) o) v
  plain_stands place ids (Same b) fetch may shown stands = same_stands place at h (with_dropped h ids) v (back_same at (with_dropped h ids) h (dropped_same at ids h)) stands
  plain_stands place ids (Unopened b) fetch may shown stands = same_stands place at h (with_dropped h ids) v (back_same at (with_dropped h ids) h (dropped_same at ids h)) stands
  plain_stands place ids (Adds e) fetch may shown stands =
      let none = adds_none ids e fetch may shown in
      let leads = subst (λ (l : List ℕ). MayLeadTo r (with_dropped judged l) tag body (Adds e)) none may.1 in
      subst (λ (l : List ℕ). StandsAt place at (e ∷ with_dropped h l) v) (sym none) (entry_stands place e (came e fetch leads) stands)
