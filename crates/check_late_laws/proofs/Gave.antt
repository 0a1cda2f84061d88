-- A chunk that was given of a large response: which bytes it holds, and what the chunks then tell together.
use Rattle.std.proofs.Common.{◌≡◌, ◌+◌, ◌-◌, ◌*◌, ◌<◌, ◌≤◌, ◌==◌, ◌&&◌, ◌++◌, ℕ, zero, suc, List, [], ◌∷◌, refl, sym, ap, ◌∙◌, subst, drop, take, length, arith, Bool, true, false, Option, Some, None, cond, inl, inr}
use Rattle.std.specs.Prelude.{slice_index, nat_lt}
use Rattle.std.proofs.lemmas.Bool.{eq-eqb}
use Rattle.std.proofs.lemmas.Option.{none-some, same_Some}
use Rattle.chunking.proofs.ChunkSteps.{joined-before}
use Rattle.chunking.specs.Collecting.{joined}
use Rattle.chunking.specs.Cutting.{chunk_count, chunks_before, nth_chunk, unit_of}
use Rattle.responder_machine.specs.Handling.{turn_of}
use Rattle.responder_machine.specs.History.{Entry, History}
use Rattle.responder_machine.specs.History.Entry.{Clear}
use Rattle.responder_machine.specs.LargeMessages.{given_of}
use Rattle.responder_machine.specs.May.{place_for}
use Rattle.responder_machine.specs.Place.{Place, clear_place, session_place}
use Rattle.responder_machine.specs.Records.{opened}
use Rattle.responder_machine.specs.Responder.{session_turn}
use Rattle.responder_machine.specs.Responder.Outcome.{Adds}
use Rattle.responder_machine.specs.Session.{Events, id_in_record, session_of}
use Rattle.responder_machine.specs.Setup.{RspSetup}
use Rattle.responder_machine.specs.Turn.{Turn, answer_in}
use Rattle.spdm_grammar.specs.Message.ResponseMessage.{ChunkResponse}
use Rattle.spdm_grammar.specs.Responses.{canonical_response}
use Rattle.spdm_grammar.specs.declared.names.TheConstants.{MAX_MESSAGE_SIZE}
use Rattle.capture_machine.proofs.ChunksGiven.{Chunked, gets_of, parts_of}
use Rattle.capture_machine.proofs.ChunksGiven.Chunked.{Gone, Given}
use Rattle.capture_machine.proofs.DropsTell.{clear_form}
use Rattle.capture_machine.proofs.GetTells.{IsGet, session_get, transfer_of, turn_get}
use Rattle.capture_machine.proofs.PlacesServed.{named_clear, named_session, place_type}
use Rattle.capture_machine.proofs.PlainTells.{led_clear, led_record}
use Rattle.capture_machine.proofs.RecordAdds.{record_added}
use Rattle.capture_machine.proofs.SeenAnswers.{led_seen}
use Rattle.capture_machine.proofs.UnseenStands.{old_in}
use Rattle.capture_machine.specs.CapturedAnswers.{MayLeadTo}
use Rattle.capture_machine.specs.LargeAnswers.{is_kept_in, is_unseen_in, place_named, takes_get, with_large}
use Rattle.capture_machine.specs.Rounds.{no_draw}
use Rattle.check_late_laws.specs.Fetching.{HasSize, answer_by, bytes_given, bytes_in, gives_in, number_given, size_in, size_told}

-- ---- The same counts.

pub number_same : (at : Option ℕ) (h : History) → gets_of at h ≡ number_given at h
number_same at [] = refl
number_same at (e ∷ h) = ap (λ (n : ℕ). cond (is_unseen_in at e) 0 (cond (gives_in at e) (n + 1) n)) (number_same at h)

pub bytes_same : (at : Option ℕ) (h : History) → parts_of at h ≡ bytes_given at h
bytes_same at [] = refl
bytes_same at (e ∷ h) =
    ap (λ (n : ℕ). cond (is_unseen_in at e) [] (cond (gives_in at e) (parts_of at h ++ bytes_in n (answer_by e)) (parts_of at h))) (number_same at h)
    ∙ ap (λ (l : List ℕ). cond (is_unseen_in at e) [] (cond (gives_in at e) (l ++ bytes_in (number_given at h) (answer_by e)) l)) (bytes_same at h)

-- ---- What it holds.

-- The entry gives the next chunk of these bytes, and the chunks before it hold their beginning.
pub record Gave (at : Option ℕ) (h : History) (v : List ℕ) (p : Place) (e : Entry) : Type 0 where
  pub handle : ℕ
  pub gives : answer_by e ≡ canonical_response (ChunkResponse (nth_chunk (transfer_of p) handle v (number_given at h)))
  pub bytes : bytes_given at h ≡ joined (chunks_before (transfer_of p) 0 v (number_given at h))
  pub more : nat_lt (number_given at h) (chunk_count (transfer_of p) v) ≡ true
  pub wide : 12 < transfer_of p
  pub here : gives_in at e ≡ true
  pub seen : is_unseen_in at e ≡ false

gave_by : (at : Option ℕ) (h : History) (v : List ℕ) (p : Place) (e : Entry) (t : Turn) (m : List ℕ) → IsGet p m t → answer_by e ≡ answer_in t.effect → gives_in at e ≡ true → is_unseen_in at e ≡ false → Chunked p at v h → Gave at h v p e
gave_by at h v p e t m get answer here seen (Gone none) = absurd (none-some get.whole (sym none ∙ get.large))
gave_by at h v p e t m get answer here seen (Given large given parts) =
    let same : get.whole ≡ v = same_Some get.whole v (sym get.large ∙ large) in
    let number : given_of p.turns ≡ number_given at h = given ∙ number_same at h in record {
      handle = get.handle;
      gives = answer ∙ get.gives ∙ ap (λ (l : List ℕ). canonical_response (ChunkResponse (nth_chunk (transfer_of p) get.handle l (given_of p.turns)))) same
          ∙ ap (λ (n : ℕ). canonical_response (ChunkResponse (nth_chunk (transfer_of p) get.handle v n))) number;
      bytes = sym (bytes_same at h) ∙ parts ∙ ap (λ (n : ℕ). joined (chunks_before (transfer_of p) 0 v n)) (number_same at h);
      more = ap (λ (n : ℕ). nat_lt n (chunk_count (transfer_of p) v)) (sym number) ∙ ap (λ (l : List ℕ). nat_lt (given_of p.turns) (chunk_count (transfer_of p) l)) (sym same) ∙ get.more;
      wide = get.wide;
      here = here;
      seen = seen;
    }

module _ (r : RspSetup) (h : History) (v : List ℕ) (tag : ℕ) (body : List ℕ) (e : Entry) (chunked : Chunked (place_for (with_large (place_named body) v h) body) (place_named body) v h) (may : MayLeadTo r (with_large (place_named body) v h) tag body (Adds e)) (gets : takes_get e ≡ true) where
  abbrev judged : History
  judged = with_large (place_named body) v h

  abbrev at : Option ℕ
  at = place_named body

  unseen_not : is_unseen_in at e ≡ false
  unseen_not = old_in at e (led_seen r judged tag body e may)

  in_clear : (slice_index body 0 == 5) ≡ true → Gave at h v (place_for judged body) e
  in_clear type =
      let led = led_clear r judged tag body (Adds e) type may in
      elim (clear_form r judged tag (drop 1 body) led.free (Adds e) led.leads) [
        | inl same ↦ absurd (let x = same.1 in cc)
        | inr adds ↦
            let t : Turn = turn_of r (clear_place judged) (drop 1 body) led.free in
            let is : Clear tag t no_draw ≡ e = cc (sym adds) in
            let place : place_for judged body ≡ clear_place judged = place_type judged body true type in
            let get : IsGet (clear_place judged) (drop 1 body) t = turn_get r (clear_place judged) (drop 1 body) led.free (ap takes_get is ∙ gets) in
            let kept : is_kept_in at e ≡ true = ap (λ (o : Option ℕ). is_kept_in o e) (named_clear body type) ∙ ap (is_kept_in None) (sym is) ∙ get.taken in
            gave_by at h v (place_for judged body) e t (drop 1 body) (subst (λ (p : Place). IsGet p (drop 1 body) t) (sym place) get) (ap answer_by (sym is)) (ap (λ (b : Bool). b && takes_get e) kept ∙ gets) unseen_not chunked
      ]

  in_session : (slice_index body 0 == 5) ≡ false → Gave at h v (place_for judged body) e
  in_session type =
      let led = led_record r judged tag body (Adds e) type may in
      let sealed : List ℕ = drop 1 body in
      let s : Events = session_of (id_in_record sealed) judged in
      let inner : List ℕ = opened r.psk s sealed in
      let t : Turn = session_turn r s inner led.free in
      let is = record_added r led.free tag sealed e judged led.leads in
      let place : place_for judged body ≡ session_place s = place_type judged body false type in
      let get : IsGet (session_place s) (drop 1 inner) t = session_get r s inner led.free (ap takes_get is ∙ gets) in
      let kept : is_kept_in at e ≡ true = ap (λ (o : Option ℕ). is_kept_in o e) (named_session body type) ∙ ap (is_kept_in (Some (id_in_record sealed))) (sym is) ∙ eq-eqb (id_in_record sealed) (id_in_record sealed) refl in
      gave_by at h v (place_for judged body) e t (drop 1 inner) (subst (λ (p : Place). IsGet p (drop 1 inner) t) (sym place) get) (ap answer_by (sym is)) (ap (λ (b : Bool). b && takes_get e) kept ∙ gets) unseen_not chunked

  pub gave : Gave at h v (place_for judged body) e
  gave = by_type (slice_index body 0 == 5) refl
    where
      by_type : (b : Bool) → (slice_index body 0 == 5) ≡ b → Gave at h v (place_for judged body) e
      by_type true type = in_clear type
      by_type false type = in_session type

-- ---- What the chunks tell with it.

chunk_by : (b last : Bool) (handle number told : ℕ) (x : List ℕ)
    → drop (cond b 16 12) (canonical_response (ChunkResponse (record { last = last; handle = handle; number = number; large = cond b (Some told) None; chunk = x }))) ≡ x
chunk_by true last handle number told x = refl
chunk_by false last handle number told x = refl

size_by : (last : Bool) (handle number told : ℕ) (x : List ℕ) → told ≤ MAX_MESSAGE_SIZE → size_in (canonical_response (ChunkResponse (record { last = last; handle = handle; number = number; large = Some told; chunk = x }))) ≡ told
size_by last handle number told x few = omega (arith, few)

take_own : (n : ℕ) (v : List ℕ) → take (length (take n v)) v ≡ take n v
take_own zero v = refl
take_own (suc n) [] = refl
take_own (suc n) (x ∷ v) = ap (λ (l : List ℕ). x ∷ l) (take_own n v)

module _ (at : Option ℕ) (h : History) (v : List ℕ) (p : Place) (e : Entry) (g : Gave at h v p e) where
  abbrev pub number : ℕ
  number = number_given at h

  abbrev pub transfer : ℕ
  transfer = transfer_of p

  pub bytes_are : bytes_in (number_given at h) (answer_by e) ≡ (nth_chunk (transfer_of p) g.handle v (number_given at h)).chunk
  bytes_are = ap (bytes_in (number_given at h)) g.gives ∙ chunk_by (number_given at h == 0) _ g.handle (number_given at h) (length v) _

  pub bytes_next : bytes_given at (e ∷ h) ≡ bytes_given at h ++ bytes_in (number_given at h) (answer_by e)
  bytes_next =
      ap (λ (b : Bool). cond b [] (cond (gives_in at e) (bytes_given at h ++ bytes_in (number_given at h) (answer_by e)) (bytes_given at h))) g.seen
      ∙ ap (λ (b : Bool). cond b (bytes_given at h ++ bytes_in (number_given at h) (answer_by e)) (bytes_given at h)) g.here

  pub number_next : number_given at (e ∷ h) ≡ number_given at h + 1
  number_next =
      ap (λ (b : Bool). cond b 0 (cond (gives_in at e) (number_given at h + 1) (number_given at h))) g.seen ∙ ap (λ (b : Bool). cond b (number_given at h + 1) (number_given at h)) g.here

  -- The chunks so far hold the beginning.
  pub bytes_begin : bytes_given at (e ∷ h) ≡ take (suc (number_given at h) * unit_of (transfer_of p) - 4) v
  bytes_begin =
      bytes_next ∙ ap (λ (l : List ℕ). l ++ bytes_in (number_given at h) (answer_by e)) g.bytes ∙ ap (λ (l : List ℕ). joined (chunks_before (transfer_of p) 0 v (number_given at h)) ++ l) bytes_are
      ∙ joined-before (transfer_of p) 0 v g.wide (suc (number_given at h))

  pub begins : take (length (bytes_given at (e ∷ h))) v ≡ bytes_given at (e ∷ h)
  begins = ap (λ (l : List ℕ). take (length l) v) bytes_begin ∙ take_own (suc (number_given at h) * unit_of (transfer_of p) - 4) v ∙ sym bytes_begin

  pub size_first : length v ≤ MAX_MESSAGE_SIZE → (number_given at h == 0) ≡ true → size_in (answer_by e) ≡ length v
  size_first few first =
      ap size_in g.gives
      ∙ ap (λ (b : Bool). size_in (canonical_response (ChunkResponse (record (nth_chunk (transfer_of p) g.handle v (number_given at h)) { large = cond b (Some (length v)) None })))) first
      ∙ size_by (nth_chunk (transfer_of p) g.handle v (number_given at h)).last g.handle (number_given at h) (length v) (nth_chunk (transfer_of p) g.handle v (number_given at h)).chunk few

  pub size_next : size_told at (e ∷ h) ≡ cond (number_given at h == 0) (Some (size_in (answer_by e))) (size_told at h)
  size_next =
      ap (λ (b : Bool). cond b None (cond (gives_in at e && number_given at h == 0) (Some (size_in (answer_by e))) (size_told at h))) g.seen
      ∙ ap (λ (b : Bool). cond (b && number_given at h == 0) (Some (size_in (answer_by e))) (size_told at h)) g.here

  -- The length is determined by the first, and stays.
  pub sized : length v ≤ MAX_MESSAGE_SIZE → HasSize (size_told at h) v → HasSize (size_told at (e ∷ h)) v
  sized few has = by_first (number_given at h == 0) refl
    where
      by_first : (b : Bool) → (number_given at h == 0) ≡ b → HasSize (size_told at (e ∷ h)) v
      by_first true first =
          subst (λ (o : Option ℕ). HasSize o v) (sym (size_next ∙ ap (λ (b : Bool). cond b (Some (size_in (answer_by e))) (size_told at h)) first ∙ ap Some (size_first few first))) refl
      by_first false later =
          subst (λ (o : Option ℕ). HasSize o v) (sym (size_next ∙ ap (λ (b : Bool). cond b (Some (size_in (answer_by e))) (size_told at h)) later)) has
