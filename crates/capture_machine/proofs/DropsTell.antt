-- An answer tells whether a session was dropped before it, and what it led to.
use Rattle.std.proofs.Common.{◌≡◌, ◌&&◌, ◌||◌, ◌⊎◌, ℕ, List, [], ◌∷◌, refl, sym, ap, ◌∙◌, subst, drop, Bool, true, false, Option, Some, None, is_some, is_none, cond, inl, inr, arith, eq-eqb, eqb-true}
use Rattle.std.specs.Prelude.{slice_index, not}
use Rattle.std.proofs.lemmas.Bool.{false≢true, not-true}
use Rattle.spdm_basis.specs.declared.causes.record_fault.RecordFault.{RecordFault}
use Rattle.spdm_grammar.specs.declared.told.phase.Phase.{Phase}
use Rattle.spdm_grammar.specs.declared.names.request_code.TheConstants.{PSK_EXCHANGE}
use Rattle.spdm_machine.specs.Bodies.{clear_body, record_body}
use Rattle.spdm_machine.specs.Sessions.{id_in_exchange, is_past_handshake}
use Rattle.spdm_machine.specs.Terms.{terms_of, hash_len}
use Rattle.spdm_grammar.specs.Requests.{request_in}
use Rattle.responder_machine.specs.Answer.{Free}
use Rattle.responder_machine.specs.Handling.{turn_of}
use Rattle.responder_machine.specs.History.{History, kept_of, ended_of, clear_turns, phase_of, negotiation_of}
use Rattle.responder_machine.specs.History.Entry.{Clear, Sealed, Queued, Ticked, Dropped}
use Rattle.responder_machine.specs.LargeMessages.{chunks_of}
use Rattle.responder_machine.specs.May.{IsAllowed, MayDrop, with_dropped}
use Rattle.responder_machine.specs.Place.{Place, clear_place, is_held, held_of}
use Rattle.responder_machine.specs.Records.{opening_fault}
use Rattle.responder_machine.specs.Responder.{Outcome, on_clear, on_record, to_session, in_session, in_session_by, is_repeat, kept_reply, repeats, body_of}
use Rattle.responder_machine.specs.Responder.Outcome.{Same, Unopened, Adds}
use Rattle.responder_machine.specs.Session.{Events, session_of, id_in_record, is_live, last_of, stage_of}
use Rattle.responder_machine.specs.Setup.{RspSetup}
use Rattle.responder_machine.specs.Turn.{Turn, takes, answer_in, handle_in}
use Rattle.responder_machine.proofs.Fresh.{turn_of-fresh, exchange-fresh}
use Rattle.capture_machine.specs.CapturedAnswers.{shows, belongs_to, is_plain}
use Rattle.capture_machine.specs.Rounds.{no_draw}
use Rattle.capture_machine.proofs.TurnsAlike.{ReadAlike, turns_same, turns_large}
use Rattle.capture_machine.proofs.RepliesTell.{OutcomesAlike, clear_told}
use Rattle.spdm_basis.proofs.Bools.{and_first, and_second}

-- ---- What a drop leaves as it was.

pub kept_same : (ids : List ℕ) (h : History) → kept_of (with_dropped h ids) ≡ kept_of h
kept_same [] h = refl
kept_same (id ∷ ids) h = kept_same ids (Dropped id ∷ h)

pub turns_stay : (ids : List ℕ) (h : History) → clear_turns (with_dropped h ids) ≡ clear_turns h
turns_stay [] h = refl
turns_stay (id ∷ ids) h = turns_stay ids (Dropped id ∷ h)

read_by : (h g : History) (m : List ℕ) → clear_turns h ≡ clear_turns g → ReadAlike (clear_place h) (clear_place g) m
read_by h g m same = record {
  asked = ap (λ (l : List Turn). request_in (hash_len (terms_of (negotiation_of l))) m) same;
  chunks = λ c is. ap chunks_of same;
  whole = λ c text is. ap (λ (l : List Turn). request_in (hash_len (terms_of (negotiation_of l))) text) same;
}

-- A clear message tells what it led to, whatever was dropped before it.
pub clear_drops : (r : RspSetup) (h : History) (ids others : List ℕ) (tag : ℕ) (m : List ℕ) (f k : Free)
    → body_of (on_clear r (with_dropped h ids) tag m f no_draw) ≡ body_of (on_clear r (with_dropped h others) tag m k no_draw)
    → OutcomesAlike (on_clear r (with_dropped h ids) tag m f no_draw) (on_clear r (with_dropped h others) tag m k no_draw)
clear_drops r h ids others tag m f k same =
    clear_told r (with_dropped h ids) (with_dropped h others) tag m f k no_draw (kept_same ids h ∙ sym (kept_same others h))
    (read_by (with_dropped h ids) (with_dropped h others) m (turns_stay ids h ∙ sym (turns_stay others h))) same

-- ---- What shows a drop.

-- A dropped session was held.
pub held_before : (h : History) (id : ℕ) → MayDrop h (id ∷ []) → is_held h id ≡ true
held_before h id may =
    ap (λ (b : Bool). b && is_past_handshake (stage_of (session_of id h))) may.0 ∙ and_first _ _ may.1

-- PSK_EXCHANGE is answered with an id that no established session has.
pub fresh_id : (r : RspSetup) (h : History) (m : List ℕ) (f : Free) (p : Place) → IsAllowed h p f → takes PSK_EXCHANGE (turn_of r (clear_place h) m f) ≡ true
    → is_held h (id_in_exchange (answer_in (turn_of r (clear_place h) m f).effect)) ≡ false
fresh_id r h m f p fits takes_it =
    let fresh = exchange-fresh (held_of h) f.id (turn_of r (clear_place h) m f).effect takes_it (turn_of-fresh r (clear_place h) m f fits.most) in
    ap (is_held h) fresh.0 ∙ fits.unused (λ four. absurd (false≢true (sym fresh.1 ∙ eq-eqb (held_of h) 4 four)))

-- A repeat, or a turn.
pub clear_form : (r : RspSetup) (h : History) (tag : ℕ) (m : List ℕ) (f : Free) (o : Outcome) → on_clear r h tag m f no_draw ≡ o → ((b : List ℕ) × (o ≡ Same b)) ⊎ (o ≡ Adds (Clear tag (turn_of r (clear_place h) m f) no_draw))
unfolding on_clear
clear_form r h tag m f o is = by_repeat (is_repeat (kept_of h) tag m) is
  where
    by_repeat : (b : Bool) → cond b (Same (clear_body (kept_reply (kept_of h)))) (Adds (Clear tag (turn_of r (clear_place h) m f) no_draw)) ≡ o → ((b : List ℕ) × (o ≡ Same b)) ⊎ (o ≡ Adds (Clear tag (turn_of r (clear_place h) m f) no_draw))
    by_repeat true e = inl (clear_body (kept_reply (kept_of h)), sym e)
    by_repeat false e = inr (sym e)

same_not_shown : (r : RspSetup) (h : History) (body b : List ℕ) (id : ℕ) (q : Outcome) → OutcomesAlike (Same b) q → shows r h body id q ≡ true → ⊥
same_not_shown r h body b id (Same c) alike shown = false≢true shown
same_not_shown r h body b id (Unopened c) alike shown = alike
same_not_shown r h body b id (Adds e) alike shown = alike

-- A turn that is no repeat, where nothing was dropped before it, shows no drop.
turn_not_shown : (r : RspSetup) (h : History) (tag : ℕ) (m body : List ℕ) (f : Free) (p : Place) (id : ℕ) (q : Outcome) → IsAllowed h p f → MayDrop h (id ∷ [])
    → OutcomesAlike (Adds (Clear tag (turn_of r (clear_place h) m f) no_draw)) q → is_plain h q ≡ true → shows r h body id q ≡ true → ⊥
turn_not_shown r h tag m body f p id (Same c) fits may alike plain shown = alike
turn_not_shown r h tag m body f p id (Unopened c) fits may alike plain shown = alike
turn_not_shown r h tag m body f p id (Adds (Clear tag' u d)) fits may alike plain shown =
    let t = turn_of r (clear_place h) m f in
    let small : is_some (handle_in u.effect) ≡ false = not-true _ (and_first _ _ plain) in
    let same : t ≡ u = turns_same t u alike.1 (turns_large t u alike.1 ∙ small) in
    let takes_it : takes PSK_EXCHANGE t ≡ true = ap (takes PSK_EXCHANGE) same ∙ and_first _ _ shown in
    let at : id_in_exchange (answer_in t.effect) ≡ id = ap (λ (x : Turn). id_in_exchange (answer_in x.effect)) same ∙ eqb-true (id_in_exchange (answer_in u.effect)) id (and_second (takes PSK_EXCHANGE u) _ shown) in
    false≢true (sym (fresh_id r h m f p fits takes_it) ∙ ap (is_held h) at ∙ held_before h id may)
turn_not_shown r h tag m body f p id (Adds (Sealed tag' n u reply d)) fits may alike plain shown = alike
turn_not_shown r h tag m body f p id (Adds (Queued bytes)) fits may alike plain shown = alike
turn_not_shown r h tag m body f p id (Adds (Ticked seconds)) fits may alike plain shown = alike
turn_not_shown r h tag m body f p id (Adds (Dropped other)) fits may alike plain shown = alike

pub no_clear_drop : (r : RspSetup) (h : History) (tag : ℕ) (m body : List ℕ) (f : Free) (p : Place) (id : ℕ) (o q : Outcome) → IsAllowed h p f → MayDrop h (id ∷ []) → on_clear r h tag m f no_draw ≡ o
    → OutcomesAlike o q → is_plain h q ≡ true → shows r h body id q ≡ true → ⊥
no_clear_drop r h tag m body f p id o q fits may is alike plain shown = elim (clear_form r h tag m f o is) [
  | inl same ↦ same_not_shown r h body same.0 id q (subst (λ x. OutcomesAlike x q) same.1 alike) shown
  | inr added ↦ turn_not_shown r h tag m body f p id q fits may (subst (λ x. OutcomesAlike x q) added alike) plain shown
]

-- Two outcomes that are alike show one drop.
pub one_drop : (r : RspSetup) (h : History) (body : List ℕ) (id other : ℕ) (o q : Outcome) → OutcomesAlike o q → is_plain h o ≡ true → shows r h body id o ≡ true → shows r h body other q ≡ true → id ≡ other
one_drop r h body id other (Same b) q alike plain one two = absurd (false≢true one)
one_drop r h body id other (Unopened b) (Unopened c) alike plain one two = sym (eqb-true (id_in_record (drop 1 body)) id (and_first _ _ one)) ∙ eqb-true (id_in_record (drop 1 body)) other (and_first _ _ two)
one_drop r h body id other (Unopened b) (Same c) alike plain one two = absurd alike
one_drop r h body id other (Unopened b) (Adds e) alike plain one two = absurd alike
one_drop r h body id other (Adds (Clear tag t d)) (Adds (Clear tag' u d')) alike plain one two =
    let same : t ≡ u = turns_same t u alike.1 (not-true _ (and_first _ _ plain)) in
    sym (eqb-true (id_in_exchange (answer_in t.effect)) id (and_second (takes PSK_EXCHANGE t) _ one)) ∙ ap (λ (x : Turn). id_in_exchange (answer_in x.effect)) same
    ∙ eqb-true (id_in_exchange (answer_in u.effect)) other (and_second (takes PSK_EXCHANGE u) _ two)
one_drop r h body id other (Adds (Clear tag t d)) (Same c) alike plain one two = absurd alike
one_drop r h body id other (Adds (Clear tag t d)) (Unopened c) alike plain one two = absurd alike
one_drop r h body id other (Adds (Clear tag t d)) (Adds (Sealed tag' n u reply d')) alike plain one two = absurd alike
one_drop r h body id other (Adds (Clear tag t d)) (Adds (Queued bytes)) alike plain one two = absurd alike
one_drop r h body id other (Adds (Clear tag t d)) (Adds (Ticked seconds)) alike plain one two = absurd alike
one_drop r h body id other (Adds (Clear tag t d)) (Adds (Dropped which)) alike plain one two = absurd alike
one_drop r h body id other (Adds (Sealed tag m t reply d)) q alike plain one two = absurd (false≢true one)
one_drop r h body id other (Adds (Queued bytes)) q alike plain one two = absurd (false≢true one)
one_drop r h body id other (Adds (Ticked seconds)) q alike plain one two = absurd (false≢true one)
one_drop r h body id other (Adds (Dropped which)) q alike plain one two = absurd (false≢true one)

-- ---- Records.

-- A kept record; no record of the session, with DecryptError; or an entry.
abbrev pub RecordForm : RspSetup → History → ℕ → List ℕ → Outcome → Type 0
RecordForm r h tag sealed o =
    ((b : List ℕ) × (o ≡ Same (record_body b)))
    ⊎ (((b : List ℕ) × (o ≡ Unopened (clear_body b)) × (is_live (session_of (id_in_record sealed) h) ≡ true → belongs_to r (session_of (id_in_record sealed) h) sealed ≡ false))
    ⊎ ((t : Turn) × (reply : List ℕ) × (o ≡ Adds (Sealed tag sealed t reply no_draw))))

or_false : (a b : Bool) → a ≡ false → b ≡ false → (a || b) ≡ false
or_false true b is are = is
or_false false b is are = are

module _ (r : RspSetup) (tag : ℕ) (sealed : List ℕ) (f : Free) (o : Outcome) where
  in_form : (phase : Phase) (s : Events) (x : Option RecordFault) → opening_fault r.psk s sealed ≡ x → repeats (last_of s) sealed ≡ false → in_session_by r phase s f tag sealed no_draw x ≡ o
      → ((b : List ℕ) × (o ≡ Same (record_body b))) ⊎ (((b : List ℕ) × (o ≡ Unopened (clear_body b)) × (is_live s ≡ true → belongs_to r s sealed ≡ false)) ⊎ ((t : Turn) × (reply : List ℕ) × (o ≡ Adds (Sealed tag sealed t reply no_draw))))
  in_form phase s (Some fault) is not e = inr (inl (_, sym e, λ live. or_false _ _ not (ap is_none is)))
  in_form phase s None is not e = inr (inr (_, _, sym e))

  repeat_form : (phase : Phase) (s : Events) (b : Bool) (kept : List ℕ) → repeats (last_of s) sealed ≡ b → cond b (Same (record_body kept)) (in_session r phase s f tag sealed no_draw) ≡ o
      → ((b : List ℕ) × (o ≡ Same (record_body b))) ⊎ (((b : List ℕ) × (o ≡ Unopened (clear_body b)) × (is_live s ≡ true → belongs_to r s sealed ≡ false)) ⊎ ((t : Turn) × (reply : List ℕ) × (o ≡ Adds (Sealed tag sealed t reply no_draw))))
  unfolding in_session
  repeat_form phase s true kept is e = inl (kept, sym e)
  repeat_form phase s false kept is e = in_form phase s (opening_fault r.psk s sealed) refl is e

  to_form : (phase : Phase) (s : Events) → to_session r phase s f tag sealed no_draw ≡ o
      → ((b : List ℕ) × (o ≡ Same (record_body b))) ⊎ (((b : List ℕ) × (o ≡ Unopened (clear_body b)) × (is_live s ≡ true → belongs_to r s sealed ≡ false)) ⊎ ((t : Turn) × (reply : List ℕ) × (o ≡ Adds (Sealed tag sealed t reply no_draw))))
  to_form phase [] e = inr (inl (_, sym e, λ live. absurd (false≢true live)))
  to_form phase (x ∷ s) e = repeat_form phase (x ∷ s) (repeats (last_of (x ∷ s)) sealed) _ refl e

  ended_form : (b : Bool) (kept : List ℕ) (phase : Phase) (s : Events) → cond b (Same (record_body kept)) (to_session r phase s f tag sealed no_draw) ≡ o
      → ((b : List ℕ) × (o ≡ Same (record_body b))) ⊎ (((b : List ℕ) × (o ≡ Unopened (clear_body b)) × (is_live s ≡ true → belongs_to r s sealed ≡ false)) ⊎ ((t : Turn) × (reply : List ℕ) × (o ≡ Adds (Sealed tag sealed t reply no_draw))))
  ended_form true kept phase s e = inl (kept, sym e)
  ended_form false kept phase s e = to_form phase s e

  pub record_form : (h : History) → on_record r h tag sealed f no_draw ≡ o → RecordForm r h tag sealed o
  unfolding on_record
  record_form h e = ended_form (repeats (ended_of h) sealed) _ (phase_of (clear_turns h)) (session_of (id_in_record sealed) h) e

-- What shows a drop in answer to a record is DecryptError, and the record belongs to the session.
pub record_shown : (r : RspSetup) (h g : History) (tag : ℕ) (body : List ℕ) (id : ℕ) (q : Outcome) → RecordForm r g tag (drop 1 body) q → shows r h body id q ≡ true
    → ((b : List ℕ) × (q ≡ Unopened (clear_body b))) × (id_in_record (drop 1 body) ≡ id) × (belongs_to r (session_of id h) (drop 1 body) ≡ true)
record_shown r h g tag body id q (inl same) shown = absurd (false≢true (ap (shows r h body id) (sym same.1) ∙ shown))
record_shown r h g tag body id q (inr (inl none)) shown =
    let at = ap (shows r h body id) (sym none.1) ∙ shown in
    ((none.0, none.1), eqb-true (id_in_record (drop 1 body)) id (and_first _ _ at), and_second _ _ at)
record_shown r h g tag body id q (inr (inr added)) shown = absurd (false≢true (ap (shows r h body id) (sym added.2) ∙ shown))

-- Where nothing was dropped, a record is not answered by such a DecryptError.
not_decrypted : (r : RspSetup) (h : History) (tag : ℕ) (body b : List ℕ) (id : ℕ) (o : Outcome) → MayDrop h (id ∷ []) → RecordForm r h tag (drop 1 body) o → body_of o ≡ clear_body b
    → id_in_record (drop 1 body) ≡ id → belongs_to r (session_of id h) (drop 1 body) ≡ true → ⊥
not_decrypted r h tag body b id o may (inl kept) same at belongs =
    absurd (let t = ap (λ (l : List ℕ). slice_index l 0) (ap body_of (sym kept.1) ∙ same) in omega (arith, t))
not_decrypted r h tag body b id o may (inr (inl none)) same at belongs =
    let P : ℕ → Type 0 = λ n. is_live (session_of n h) ≡ true → belongs_to r (session_of n h) (drop 1 body) ≡ false in
    false≢true (sym (subst P at none.2 may.0) ∙ belongs)
not_decrypted r h tag body b id o may (inr (inr added)) same at belongs =
    absurd (let t = ap (λ (l : List ℕ). slice_index l 0) (ap body_of (sym added.2) ∙ same) in omega (arith, t))

pub no_record_drop : (r : RspSetup) (h g : History) (tag : ℕ) (body : List ℕ) (id : ℕ) (o q : Outcome) → MayDrop h (id ∷ []) → RecordForm r h tag (drop 1 body) o → RecordForm r g tag (drop 1 body) q
    → shows r h body id q ≡ true → body_of o ≡ body_of q → ⊥
no_record_drop r h g tag body id o q may form other shown same =
    let known = record_shown r h g tag body id q other shown in
    not_decrypted r h tag body known.0.0 id o may form (same ∙ ap body_of known.0.1) known.1 known.2
