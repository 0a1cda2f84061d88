-- The application data that a body brings are those that its session keeps.
use Rattle.std.proofs.Common.{refl, ◌∙◌, ◌≡◌, ◌≤◌, ℕ, List, [], ◌∷◌, length, true, false, Bool, Option, Some, None, ap, sym, subst, arith, eq-eqb, drop}
use Rattle.std.proofs.lemmas.Bool.{false≢true, ltb-false}
use Rattle.std.proofs.lemmas.List.{length-drop}
use Rattle.std.specs.Prelude.{◌==◌, ◌&&◌, ◌||◌, nat_lt, not, if◌then◌else◌, slice_index}
use Rattle.responder_core.proofs.Outcomes.{by_clear, by_record}
use Rattle.responder_core.proofs.Whole.{no_data}
use Rattle.responder.specs.Came.{IsShort, data_or, last_for}
use Rattle.responder_machine.proofs.Entries.{session_of-Sealed}
use Rattle.responder_machine.proofs.Opened.{taken_record_opened}
use Rattle.responder_machine.proofs.Tests.{tests_are_false}
use Rattle.responder_machine.proofs.Turns.{session_turn-effect}
use Rattle.responder_machine.specs.Answer.{Free}
use Rattle.responder_machine.specs.Does.{clear_chosen, clear_does, record_chosen, record_does, responder_does}
use Rattle.responder_machine.specs.Handling.{turn_of}
use Rattle.responder_machine.specs.Heard.{heard_of, no_id}
use Rattle.responder_machine.specs.History.{History}
use Rattle.responder_machine.specs.History.Entry.{Clear, Sealed}
use Rattle.responder_machine.specs.Place.{clear_place, session_place}
use Rattle.responder_machine.specs.Responder.{Outcome, after, data_turn, inner_refusal, is_open, on_clear, on_record, session_turn, session_turn_by}
use Rattle.responder_machine.specs.Responder.Outcome.{Adds}
use Rattle.responder_machine.specs.Responding.{data_in, data_of}
use Rattle.responder_machine.specs.Session.{Events, after_record, id_in_record, is_live, session_of, stage_of}
use Rattle.responder_machine.specs.Setup.{RspSetup}
use Rattle.responder_machine.specs.Session.Event.{Heard}
use Rattle.responder_machine.specs.Turn.{Effect, Turn, code_in, is_data}
use Rattle.responder_machine.specs.Turn.Effect.{NoEffect, Took, TookData}
use Rattle.responder_session.specs.Data as sessions
use Rattle.spdm_basis.specs.declared.values.session_id.SessionId.{SessionId}
use Rattle.spdm_grammar.specs.Message.{ChunkMessage}
use Rattle.spdm_grammar.specs.declared.messages.error_code.ErrorCode.{ErrorCode}
use Rattle.spdm_grammar.specs.declared.messages.error_code.ErrorCode.TheVariants.{InvalidRequest, RequestTooLarge, UnexpectedRequest}
use Rattle.spdm_grammar.specs.declared.told.heard.Heard.TheVariants as heard
use Rattle.spdm_grammar.specs.declared.names.request_code.TheConstants.{END_SESSION}
use Rattle.spdm_grammar.specs.declared.told.phase.Stage.{Stage}
use Rattle.spdm_machine.specs.Keys.{Draw}
use Rattle.spdm_basis.proofs.Bools.{and_rest}

-- What is reported of an outcome tells the data that it brought, as they are kept after it.
pub record TellsData (h : History) (before : List ℕ) (o : Outcome) : Type 0 where
  pub short : IsShort (heard_of o) (after h o)
  pub same : last_for (heard_of o) (after h o) before ≡ data_or before (data_of o)

-- ---- Clear messages bring none.

untaken : (b : Bool) (id : SessionId) (code : ℕ) (h : History) (before : List ℕ) → b ≡ false
    → IsShort (if b then heard.Taken id else heard.Answered code) h × (last_for (if b then heard.Taken id else heard.Answered code) h before ≡ before)
untaken true id code h before none = absurd (false≢true (sym none))
untaken false id code h before none = (tt, refl)

clear_entry : (tag : ℕ) (m : List ℕ) (x : Option ErrorCode) (chunk : Option ChunkMessage) (g : Effect) (reply : List ℕ) (d : Draw) (h : History) (before : List ℕ) → is_data g ≡ false
    → TellsData h before (Adds (Clear tag (record { message = m; refused = x; chunk = chunk; effect = g; reply = reply }) d))
clear_entry tag m (Some e) chunk g reply d h before none = record { short = tt; same = refl }
clear_entry tag m None chunk g reply d h before none =
    let t = untaken (is_data g) no_id _ (Clear tag (record { message = m; refused = None; chunk = chunk; effect = g; reply = reply }) d ∷ h) before none in
    record { short = t.0; same = t.1 }

pub clear_data : (r : RspSetup) (h : History) (tag : ℕ) (m : List ℕ) (f : Free) (d : Draw) (before : List ℕ) → TellsData h before (on_clear r h tag m f d)
clear_data r h tag m f d before =
    let t : Turn = turn_of r (clear_place h) m f in
    by_clear r h tag m f d (TellsData h before) (λ body. record { short = tt; same = refl })
    (clear_entry tag t.message t.refused t.chunk t.effect t.reply d h before (no_data r (clear_place h) m f))

-- ---- Data in a record.

-- Data that are taken have at most 1,024 bytes.
either_off : (a b : Bool) → not (a || b) ≡ false → a ≡ false → b ≡ true
either_off a true h n = refl
either_off true false h n = absurd (false≢true (sym n))
either_off false false h n = absurd (false≢true (sym h))

short_by : (stage : Stage) (inner : List ℕ) → inner_refusal stage inner ≡ None → (slice_index inner 0 == 5) ≡ false → length (drop 1 inner) ≤ 1024
short_by stage inner none other =
    let tests : List (Bool × ErrorCode) =
    (length inner == 0, InvalidRequest)
    ∷ (not (slice_index inner 0 == 5 || slice_index inner 0 == 1), InvalidRequest)
    ∷ (slice_index inner 0 == 1 && not (is_open stage), UnexpectedRequest)
    ∷ (slice_index inner 0 == 1 && nat_lt 1025 (length inner), RequestTooLarge)
    ∷ [] in
    let one = either_off (slice_index inner 0 == 5) (slice_index inner 0 == 1) (tests_are_false tests none 1) other in
    let fits = ltb-false 1025 (length inner) (and_rest (slice_index inner 0 == 1) (nat_lt 1025 (length inner)) (tests_are_false tests none 3) one) in
    subst (λ (n : ℕ). n ≤ 1024) (sym (length-drop 1 inner)) (omega (arith, fits))

by_type : (r : RspSetup) (s : Events) (inner : List ℕ) (f : Free) (b : Bool) (bytes answer : List ℕ) → (slice_index inner 0 == 5) ≡ b → inner_refusal (stage_of s) inner ≡ None
    → (if b then turn_of r (session_place s) (drop 1 inner) f else data_turn f (drop 1 inner)).effect ≡ TookData bytes answer → length bytes ≤ 1024
by_type r s inner f true bytes answer type none is = absurd (false≢true (sym (no_data r (session_place s) (drop 1 inner) f) ∙ ap is_data is))
by_type r s inner f false bytes answer type none is =
    subst (λ (xs : List ℕ). length xs ≤ 1024) (ap data_at is) (short_by (stage_of s) inner none type)
  where
    data_at : Effect → List ℕ
    data_at (TookData xs answer) = xs
    data_at _ = []

short_turn_by : (r : RspSetup) (s : Events) (inner : List ℕ) (f : Free) (x : Option ErrorCode) (bytes answer : List ℕ) → inner_refusal (stage_of s) inner ≡ x → (session_turn_by r s inner f x).effect ≡ TookData bytes answer → length bytes ≤ 1024
short_turn_by r s inner f (Some e) bytes answer refused is = absurd (false≢true (ap is_data is))
short_turn_by r s inner f None bytes answer none is = by_type r s inner f (slice_index inner 0 == 5) bytes answer refl none is

short_turn : (r : RspSetup) (s : Events) (inner : List ℕ) (f : Free) (bytes answer : List ℕ) → (session_turn r s inner f).effect ≡ TookData bytes answer → length bytes ≤ 1024
unfolding session_turn
short_turn r s inner f bytes answer is = short_turn_by r s inner f (inner_refusal (stage_of s) inner) bytes answer refl is

-- A live session keeps them.
kept_in : (s : Events) (sealed : List ℕ) (t : Turn) (reply bytes answer : List ℕ) → is_live s ≡ true → t.effect ≡ TookData bytes answer → sessions.data_of (after_record s sealed t reply) ≡ bytes
kept_in [] sealed t reply bytes answer live is = absurd (false≢true live)
kept_in (v ∷ s) sealed t reply bytes answer live is =
    ap (λ (g : Effect). sessions.data_of (if code_in g == END_SESSION then [] else Heard sealed t reply ∷ v ∷ s)) is ∙ ap (λ (g : Effect). sessions.data_in g (sessions.data_of (v ∷ s))) is

-- ---- Entries.

record_entry : (tag : ℕ) (sealed m : List ℕ) (x : Option ErrorCode) (chunk : Option ChunkMessage) (g : Effect) (answer reply : List ℕ) (d : Draw) (h : History) (before : List ℕ)
    → ((e : ErrorCode) → x ≡ Some e → g ≡ NoEffect)
    → ((bytes sent : List ℕ) → g ≡ TookData bytes sent → (length bytes ≤ 1024)
    × (sessions.data_of (session_of (id_in_record sealed) (Sealed tag sealed (record { message = m; refused = x; chunk = chunk; effect = g; reply = answer }) reply d ∷ h)) ≡ bytes))
    → TellsData h before (Adds (Sealed tag sealed (record { message = m; refused = x; chunk = chunk; effect = g; reply = answer }) reply d))
record_entry tag sealed m (Some e) chunk g answer reply d h before none taken =
    record { short = tt; same = ap (λ (y : Effect). data_or before (data_in sealed y)) (sym (none e refl)) }
record_entry tag sealed m None chunk NoEffect answer reply d h before none taken = record { short = tt; same = refl }
record_entry tag sealed m None chunk (Took asked request whole large) answer reply d h before none taken = record { short = tt; same = refl }
record_entry tag sealed m None chunk (TookData bytes sent) answer reply d h before none taken =
    let t = taken bytes sent refl in
    record { short = subst (λ (xs : List ℕ). length xs ≤ 1024) (sym t.1) t.0; same = t.1 }

pub record_data : (r : RspSetup) (h : History) (tag : ℕ) (sealed : List ℕ) (f : Free) (d : Draw) (before : List ℕ) → TellsData h before (on_record r h tag sealed f d)
record_data r h tag sealed f d before =
    by_record r h tag sealed f d (λ (o : Outcome). on_record r h tag sealed f d ≡ o → TellsData h before o) (λ body is. record { short = tt; same = refl }) (λ body is. record { short = tt; same = refl })
    (λ s inner reply is.
    (let t : Turn = session_turn r s inner f in
    let opened = taken_record_opened r h tag sealed f d t reply is in
    record_entry tag sealed t.message t.refused t.chunk t.effect t.reply reply d h before (λ e refused. session_turn-effect r s inner f e refused)
    (λ bytes sent took. (
      short_turn r s inner f bytes sent took,
      ap sessions.data_of (session_of-Sealed (id_in_record sealed) tag sealed t reply d h ∙ ap (λ (b : Bool). if b then after_record (session_of (id_in_record sealed) h) sealed t reply else session_of (id_in_record sealed) h) (eq-eqb (id_in_record sealed) (id_in_record sealed) refl))
          ∙ kept_in (session_of (id_in_record sealed) h) sealed t reply bytes sent opened.1 took,
    )))) refl

either_data : (h : History) (before : List ℕ) (b : Bool) (x y : Outcome) → TellsData h before x → TellsData h before y → TellsData h before (if b then x else y)
either_data h before true x y a b = a
either_data h before false x y a b = b

pub body_data : (r : RspSetup) (h : History) (tag : ℕ) (body : List ℕ) (d : Draw) (before : List ℕ) → TellsData h before (responder_does r h tag body d)
body_data r h tag body d before =
    either_data h before (slice_index body 0 == 5) (clear_does r h tag (drop 1 body) d) (record_does r h tag (drop 1 body) d)
    (clear_data r h tag (drop 1 body) (clear_chosen r h d) d before) (record_data r h tag (drop 1 body) (record_chosen r h (drop 1 body) d) d before)
