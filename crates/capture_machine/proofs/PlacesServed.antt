-- What an entry at the place of a large response in progress leaves of it.
use Rattle.std.proofs.Common.{◌≡◌, ◌==◌, ◌&&◌, ℕ, List, [], ◌∷◌, refl, sym, ap, ◌∙◌, subst, drop, Bool, true, false, Option, Some, None, is_some, cond, inl, inr, eq-eqb, eqb-true}
use Rattle.std.specs.Prelude.{not, slice_index}
use Rattle.std.proofs.lemmas.Option.{none-some}
use Rattle.spdm_basis.proofs.Bools.{and_first}
use Rattle.spdm_grammar.specs.declared.names.request_code.TheConstants.{GET_VERSION, GET_CAPABILITIES, NEGOTIATE_ALGORITHMS, CHUNK_GET, END_SESSION}
use Rattle.spdm_machine.specs.Terms.{terms_of, no_negotiation}
use Rattle.transcript.specs.Transcripts.{Negotiation}
use Rattle.responder_machine.specs.Answer.{Free}
use Rattle.responder_machine.specs.Handling.{turn_of}
use Rattle.responder_machine.specs.History.{History, Entry, clear_turns, negotiation_of}
use Rattle.responder_machine.specs.History.Entry.{Clear, Sealed}
use Rattle.responder_machine.specs.LargeMessages.{large_of}
use Rattle.responder_machine.specs.May.{place_for}
use Rattle.responder_machine.specs.Place.{Place, clear_place, session_place, inside}
use Rattle.responder_machine.specs.Records.{opened, reply_record}
use Rattle.responder_machine.specs.Refusal.{has_pending}
use Rattle.responder_machine.specs.Responder.{session_turn, inner_reply}
use Rattle.responder_machine.specs.Responder.Outcome.{Adds}
use Rattle.responder_machine.specs.Session.{Events, session_of, id_in_record, after_record, when_live}
use Rattle.responder_machine.specs.Session.Event.{Heard}
use Rattle.responder_machine.specs.Setup.{RspSetup}
use Rattle.responder_machine.specs.Turn.{Turn, Effect, is_taken, takes, code_in, request_in, answer_in}
use Rattle.capture_machine.specs.LargeAnswers.{is_large, is_unseen, place_named, takes_get, gives_last}
use Rattle.capture_machine.specs.Rounds.{no_draw}
use Rattle.capture_machine.proofs.ChunksGiven.{Chunked, IsTurnOf, answer_by, parts_of, chunked_next, last_joins}
use Rattle.capture_machine.proofs.ChunksGiven.Chunked.{Gone}
use Rattle.capture_machine.proofs.DropsTell.{clear_form}
use Rattle.capture_machine.proofs.GetTells.{IsGet, IsIdle, IsBehind, turn_get, turn_idle, session_get, session_idle, get_last}
use Rattle.capture_machine.proofs.PlainTells.{ClearLed, RecordLed}
use Rattle.capture_machine.proofs.RecordAdds.{record_added}
use Rattle.capture_machine.proofs.SeenAnswers.{turn_of_seen, session_seen}
use Rattle.capture_machine.proofs.SmallGets.{turn_of_whole, session_whole}

-- What is left where the entry is the newest: what is pending at the place of the body. An answer to CHUNK_GET tells by
-- its mark whether it is the last one, and with that one the chunks are the whole answer.
pub record Served (h k : History) (place : Option ℕ) (w body : List ℕ) (e : Entry) : Type 0 where
  pub chunked : is_large e ≡ false → Chunked (place_for (e ∷ h) body) place w (e ∷ k)
  pub last : takes_get e ≡ true → gives_last h e ≡ (slice_index (answer_by e) 2 == 1)
  pub whole : gives_last h e ≡ true → parts_of place (e ∷ k) ≡ w

-- ---- In the clear.

-- Neither CHUNK_GET nor what is refused changes the negotiation.
abbrev negotiation_at : Turn → List Turn → ℕ → Negotiation
negotiation_at t ts code =
    cond (code == GET_VERSION) (record no_negotiation { get_version = request_in t.effect; version = answer_in t.effect })
    (cond (code == GET_CAPABILITIES) (record (negotiation_of ts) { get_capabilities = request_in t.effect; capabilities = answer_in t.effect })
    (cond (code == NEGOTIATE_ALGORITHMS) (record (negotiation_of ts) { negotiate_algorithms = request_in t.effect; algorithms = answer_in t.effect })
    (negotiation_of ts)))

pub get_settles : (t : Turn) (ts : List Turn) → takes CHUNK_GET t ≡ true → negotiation_of (t ∷ ts) ≡ negotiation_of ts
get_settles t ts gets = ap (negotiation_at t ts) (eqb-true (code_in t.effect) CHUNK_GET gets)

pub idle_settles : (t : Turn) (ts : List Turn) → IsIdle t → is_taken t ≡ false → negotiation_of (t ∷ ts) ≡ negotiation_of ts
idle_settles t ts idle refused = ap (λ (x : Effect). negotiation_at t ts (code_in x)) (idle refused)

pub inside_pending : (b : Bool) (p : Place) → has_pending (cond b (inside p) p) ≡ has_pending p
inside_pending true p = refl
inside_pending false p = refl

module _ (r : RspSetup) (h k : History) (w : List ℕ) (tag : ℕ) (m : List ℕ) (f : Free) (chunked : Chunked (clear_place h) None w k) where
  abbrev turn : Turn
  turn = turn_of r (clear_place h) m f

  abbrev entry : Entry
  entry = Clear tag (turn_of r (clear_place h) m f) no_draw

  -- A turn that was not taken is no CHUNK_GET.
  clear_gets : (is_taken turn && takes CHUNK_GET turn) ≡ takes CHUNK_GET turn
  clear_gets = by_taken (is_taken turn) refl
    where
      by_taken : (b : Bool) → is_taken turn ≡ b → (is_taken turn && takes CHUNK_GET turn) ≡ takes CHUNK_GET turn
      by_taken true is = ap (λ (b : Bool). b && takes CHUNK_GET turn) is
      by_taken false is = ap (λ (b : Bool). b && takes CHUNK_GET turn) is ∙ sym (ap (λ (x : Effect). code_in x == CHUNK_GET) (turn_idle r (clear_place h) m f is))

  clear_behind : takes CHUNK_GET turn ≡ true → IsBehind (clear_place h) (clear_place (entry ∷ h)) turn
  clear_behind gets = record { turns = refl; transfer = ap (λ (n : Negotiation). (terms_of n).common.to_requester.transfer) (get_settles turn (clear_turns h) gets) }

  clear_chunked : is_large entry ≡ false → Chunked (clear_place (entry ∷ h)) None w (entry ∷ k)
  clear_chunked small =
      chunked_next (clear_place h) (clear_place (entry ∷ h)) None w k entry turn m (record { large = refl; old = turn_of_seen r f (clear_place h) m; gets = clear_gets; answer = refl }) small refl (turn_idle r (clear_place h) m f) (turn_get r (clear_place h) m f)
      (λ refused. ap (λ (n : Negotiation). (terms_of n).common.to_requester.transfer) (idle_settles turn (clear_turns h) (turn_idle r (clear_place h) m f) refused))
      (λ gets. (clear_behind gets).transfer) chunked

  clear_last : takes_get entry ≡ true → gives_last h entry ≡ (slice_index (answer_by entry) 2 == 1)
  clear_last gets =
      ap (λ (b : Bool). b && not (has_pending (cond (is_some turn.chunk) (inside (clear_place (entry ∷ h))) (clear_place (entry ∷ h))))) gets
      ∙ ap not (inside_pending (is_some turn.chunk) (clear_place (entry ∷ h)))
      ∙ get_last (clear_place h) (clear_place (entry ∷ h)) m turn (turn_get r (clear_place h) m f gets) gets (clear_behind gets)

  clear_whole : gives_last h entry ≡ true → parts_of None (entry ∷ k) ≡ w
  clear_whole is =
      let gets : takes CHUNK_GET turn ≡ true = and_first _ _ is in
      last_joins (clear_place h) (clear_place (entry ∷ h)) None w k entry turn m (turn_get r (clear_place h) m f gets) gets (clear_behind gets) (sym (clear_last gets) ∙ is) chunked
      (clear_chunked (turn_of_whole r (clear_place h) m f refl gets))

-- ---- In a session.

module _ (r : RspSetup) (h k : History) (w : List ℕ) (tag : ℕ) (sealed reply : List ℕ) (f : Free) (inner : List ℕ) (chunked : Chunked (session_place (session_of (id_in_record sealed) h)) (Some (id_in_record sealed)) w k) where
  abbrev before : Events
  before = session_of (id_in_record sealed) h

  abbrev turned : Turn
  turned = session_turn r (session_of (id_in_record sealed) h) inner f

  abbrev added : Entry
  added = Sealed tag sealed (session_turn r (session_of (id_in_record sealed) h) inner f) reply no_draw

  abbrev place : Option ℕ
  place = Some (id_in_record sealed)

  of_turn : IsTurnOf place added turned
  of_turn =
      let here : (id_in_record sealed == id_in_record sealed) ≡ true = eq-eqb (id_in_record sealed) (id_in_record sealed) refl in
      record {
        large = refl;
        old = ap (λ (b : Bool). b && is_unseen added) here ∙ session_seen r f before inner;
        gets = ap (λ (b : Bool). b && takes_get added) here;
        answer = refl;
      }

  steps : session_of (id_in_record sealed) (added ∷ h) ≡ after_record before sealed turned reply
  unfolding session_of
  steps = ap (λ (b : Bool). cond b (after_record before sealed turned reply) before) (eq-eqb (id_in_record sealed) (id_in_record sealed) refl)

  heard_chunked : (s : Events) → before ≡ s → is_large added ≡ false → Chunked (session_place s) place w k → Chunked (session_place (when_live s (Heard sealed turned reply))) place w (added ∷ k)
  heard_chunked [] is small c = Gone refl
  heard_chunked (x ∷ s) is small c =
      let I : Events → Type 0 = λ y. takes CHUNK_GET turned ≡ true → IsGet (session_place y) (drop 1 inner) turned in
      chunked_next (session_place (x ∷ s)) (session_place (Heard sealed turned reply ∷ x ∷ s)) place w k added turned (drop 1 inner) of_turn small refl
      (session_idle r before inner f) (subst I is (session_get r before inner f)) (λ refused. refl) (λ gets. refl) c

  record_chunked_by : (b : Bool) → is_large added ≡ false → Chunked (session_place (cond b [] (when_live before (Heard sealed turned reply)))) place w (added ∷ k)
  record_chunked_by true small = Gone refl
  record_chunked_by false small = heard_chunked before refl small chunked

  record_chunked : is_large added ≡ false → Chunked (session_place (session_of (id_in_record sealed) (added ∷ h))) place w (added ∷ k)
  record_chunked small = let P : Events → Type 0 = λ s. Chunked (session_place s) place w (added ∷ k) in subst P (sym steps) (record_chunked_by (takes END_SESSION turned) small)

  -- CHUNK_GET does not end the session, which is live.
  not_ended : takes CHUNK_GET turned ≡ true → takes END_SESSION turned ≡ false
  not_ended gets = ap (λ (n : ℕ). n == END_SESSION) (eqb-true (code_in turned.effect) CHUNK_GET gets)

  live_by : (s : Events) → before ≡ s → takes CHUNK_GET turned ≡ true → when_live s (Heard sealed turned reply) ≡ Heard sealed turned reply ∷ s
  live_by [] is gets =
      let none : large_of (session_place before).turns ≡ None = ap (λ s. large_of (session_place s).turns) is in
      absurd (none-some _ (sym none ∙ (session_get r before inner f gets).large))
  live_by (x ∷ s) is gets = refl

  goes_on : takes CHUNK_GET turned ≡ true → session_of (id_in_record sealed) (added ∷ h) ≡ Heard sealed turned reply ∷ before
  goes_on gets = steps ∙ ap (λ (b : Bool). cond b [] (when_live before (Heard sealed turned reply))) (not_ended gets) ∙ live_by before refl gets

  record_behind : takes CHUNK_GET turned ≡ true → IsBehind (session_place before) (session_place (session_of (id_in_record sealed) (added ∷ h))) turned
  record_behind gets = let P : Events → Type 0 = λ s. IsBehind (session_place before) (session_place s) turned in subst P (sym (goes_on gets)) (record { turns = refl; transfer = refl })

  record_last : takes_get added ≡ true → gives_last h added ≡ (slice_index (answer_by added) 2 == 1)
  record_last gets =
      ap (λ (b : Bool). b && not (has_pending (session_place (session_of (id_in_record sealed) (added ∷ h))))) gets
      ∙ get_last (session_place before) (session_place (session_of (id_in_record sealed) (added ∷ h))) (drop 1 inner) turned (session_get r before inner f gets) gets (record_behind gets)

  record_whole : gives_last h added ≡ true → parts_of place (added ∷ k) ≡ w
  record_whole is =
      let gets : takes CHUNK_GET turned ≡ true = and_first _ _ is in
      last_joins (session_place before) (session_place (session_of (id_in_record sealed) (added ∷ h))) place w k added turned (drop 1 inner) (session_get r before inner f gets) gets (record_behind gets) (sym (record_last gets) ∙ is) chunked
      (record_chunked (session_whole r before inner f gets))

-- ---- By the type of the body.

pub place_type : (h : History) (body : List ℕ) (b : Bool) → (slice_index body 0 == 5) ≡ b → place_for h body ≡ cond b (clear_place h) (session_place (session_of (id_in_record (drop 1 body)) h))
place_type h body b is = ap (λ (x : Bool). cond x (clear_place h) (session_place (session_of (id_in_record (drop 1 body)) h))) is

-- The place of a body, by its type.
pub named_clear : (body : List ℕ) → (slice_index body 0 == 5) ≡ true → place_named body ≡ None
named_clear body type = ap (λ (b : Bool). cond b None (Some (id_in_record (drop 1 body)))) type

pub named_session : (body : List ℕ) → (slice_index body 0 == 5) ≡ false → place_named body ≡ Some (id_in_record (drop 1 body))
named_session body type = ap (λ (b : Bool). cond b None (Some (id_in_record (drop 1 body)))) type

clear_parts : (r : RspSetup) (h k : History) (w : List ℕ) (tag : ℕ) (body : List ℕ) (e : Entry) → (slice_index body 0 == 5) ≡ true → ClearLed r h tag body (Adds e) → Chunked (place_for h body) None w k → Served h k None w body e
clear_parts r h k w tag body e type led chunked = elim (clear_form r h tag (drop 1 body) led.free (Adds e) led.leads) [
  | inl same ↦ absurd (let x = same.1 in cc)
  | inr adds ↦
      let c : Chunked (clear_place h) None w k = subst (λ (p : Place). Chunked p None w k) (place_type h body true type) chunked in
      let is : Clear tag (turn_of r (clear_place h) (drop 1 body) led.free) no_draw ≡ e = cc (sym adds) in
      subst (Served h k None w body) is (record {
        chunked = λ small. subst (λ (p : Place). Chunked p None w (entry r h k w tag (drop 1 body) led.free c ∷ k)) (sym (place_type (entry r h k w tag (drop 1 body) led.free c ∷ h) body true type)) (clear_chunked r h k w tag (drop 1 body) led.free c small);
        last = clear_last r h k w tag (drop 1 body) led.free c;
        whole = clear_whole r h k w tag (drop 1 body) led.free c;
      })
]

record_parts : (r : RspSetup) (h k : History) (w : List ℕ) (tag : ℕ) (body : List ℕ) (e : Entry) → (slice_index body 0 == 5) ≡ false → RecordLed r h tag body (Adds e) → Chunked (place_for h body) (Some (id_in_record (drop 1 body))) w k
    → Served h k (Some (id_in_record (drop 1 body))) w body e
record_parts r h k w tag body e type led chunked =
    let sealed : List ℕ = drop 1 body in
    let s : Events = session_of (id_in_record sealed) h in
    let c : Chunked (session_place s) (Some (id_in_record sealed)) w k = subst (λ (p : Place). Chunked p (Some (id_in_record sealed)) w k) (place_type h body false type) chunked in
    let inner : List ℕ = opened r.psk s sealed in
    let reply : List ℕ = reply_record r.psk s (session_turn r s inner led.free) (inner_reply (session_turn r s inner led.free)) led.free.pad in
    let is = record_added r led.free tag sealed e h led.leads in
    subst (Served h k (Some (id_in_record sealed)) w body) is (record {
      chunked = λ small. subst (λ (p : Place). Chunked p (Some (id_in_record sealed)) w (added r h k w tag sealed reply led.free inner c ∷ k)) (sym (place_type (added r h k w tag sealed reply led.free inner c ∷ h) body false type)) (record_chunked r h k w tag sealed reply led.free inner c small);
      last = record_last r h k w tag sealed reply led.free inner c;
      whole = record_whole r h k w tag sealed reply led.free inner c;
    })

pub clear_served : (r : RspSetup) (h k : History) (w : List ℕ) (tag : ℕ) (body : List ℕ) (e : Entry) → (slice_index body 0 == 5) ≡ true → ClearLed r h tag body (Adds e) → Chunked (place_for h body) (place_named body) w k → Served h k (place_named body) w body e
clear_served r h k w tag body e type led chunked =
    subst (λ (o : Option ℕ). Served h k o w body e) (sym (named_clear body type))
    (clear_parts r h k w tag body e type led (subst (λ (o : Option ℕ). Chunked (place_for h body) o w k) (named_clear body type) chunked))

pub record_served : (r : RspSetup) (h k : History) (w : List ℕ) (tag : ℕ) (body : List ℕ) (e : Entry) → (slice_index body 0 == 5) ≡ false → RecordLed r h tag body (Adds e) → Chunked (place_for h body) (place_named body) w k → Served h k (place_named body) w body e
record_served r h k w tag body e type led chunked =
    subst (λ (o : Option ℕ). Served h k o w body e) (sym (named_session body type))
    (record_parts r h k w tag body e type led (subst (λ (o : Option ℕ). Chunked (place_for h body) o w k) (named_session body type) chunked))
