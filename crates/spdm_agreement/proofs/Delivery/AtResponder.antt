-- The application data that a responder took and sealed are those in the texts of its marks.
use Rattle.std.proofs.Common.{◌≡◌, ◌⊎◌, ℕ, ◌≤◌, ◌==◌, ◌&&◌, ◌||◌, not, List, [], ◌∷◌, ◌++◌, length, drop, nat_lt, slice_index, Bool, true, false, cond, Option, Some, None, refl, sym, ap, ap₂, ◌∙◌, subst, inl, inr, arith, eqb-true, ne_eqb, true≢false}
use Rattle.spdm_grammar.specs.Message.{RequestMessage, ChunkMessage}
use Rattle.spdm_grammar.specs.declared.messages.error_code.ErrorCode.{ErrorCode}
use Rattle.spdm_grammar.specs.declared.messages.error_code.ErrorCode.TheVariants.{InvalidRequest, UnexpectedRequest, RequestTooLarge}
use Rattle.spdm_grammar.specs.declared.told.phase.Stage.{Stage}
use Rattle.spdm_grammar.specs.declared.told.phase.Stage.TheVariants as stage
use Rattle.responder_machine.specs.Answer.{Free, request_at, answer_bytes}
use Rattle.responder_machine.specs.Does.{IsMade, chosen, record_chosen, first_queued}
use Rattle.responder_machine.specs.Handling.{turn_of, turn_by, chunk_in, carried_turn, taken_chunk, last_chunk_turn, effect_of, handle_for}
use Rattle.responder_machine.specs.History.{History, queue_of}
use Rattle.responder_machine.specs.History.Entry.{Clear, Sealed, Queued, Ticked, Dropped}
use Rattle.spdm_machine.specs.Keys.{Draw}
use Rattle.responder_machine.specs.Place.{Place, inside, session_place}
use Rattle.responder_machine.specs.Records.{opened, request_purpose}
use Rattle.responder_machine.specs.Refusal.{refusal}
use Rattle.spdm_basis.specs.Tests.{first_of_tests}
use Rattle.responder_machine.specs.Responder.{session_turn, session_turn_by, data_turn, inner_refusal, is_open}
use Rattle.responder_machine.specs.Session.{Events, Event, session_of, stage_of, id_in_record, t2_of, session_terms, request_next}
use Rattle.responder_machine.specs.Setup.{RspSetup}
use Rattle.responder_machine.specs.Turn.{Turn, Effect, takes, is_data}
use Rattle.responder_machine.specs.Turn.Effect.{NoEffect, TookData}
use Rattle.world_machine.specs.Agreement.{data_taken, data_answered, some_under, requests_taken, responses_sealed}
use Rattle.spdm_agreement.specs.Claims.{in_order}
use Rattle.spdm_agreement.specs.Marks.{Served, Text, Exchange, taken}
use Rattle.spdm_agreement.specs.Marks as marks
use Rattle.secured_record.specs.Format.{plain_text}
use Rattle.spdm_agreement.specs.Reading.{First}
use Rattle.spdm_agreement.specs.Story.{served_marks, served_turn, record_marks, taken_text, reply_text, served_first}
use Rattle.spdm_agreement.proofs.Delivery.Data.{inner_in, is_data_inner, is_data_text, data_in, taken_data, answered_data}
use Rattle.spdm_agreement.proofs.Delivery.InnerText.{data_text, message_no_data, as_list, one_more, no_more}
use Rattle.spdm_agreement.proofs.Responder.FinishPlace.{record_entry}
use Rattle.spdm_agreement.proofs.Messages.RecordTexts.{inner_text}
use Rattle.spdm_grammar.specs.declared.names.request_code.TheConstants.{PSK_EXCHANGE, PSK_FINISH}

-- ---- Effects without application data.

pub record NoData (e : Effect) : Type 0 where
  pub taken : data_taken e ≡ None
  pub answered : data_answered e ≡ None
  pub none : is_data e ≡ false

nothing : NoData NoEffect
nothing = record { taken = refl; answered = refl; none = refl }

effect_none : (o : Option RequestMessage) (request answer : List ℕ) (large : Option ℕ) → NoData (effect_of o request answer large)
effect_none None request answer large = nothing
effect_none (Some v) request answer large = record { taken = refl; answered = refl; none = refl }

carried_none : (r : RspSetup) (p : Place) (m : List ℕ) (f : Free) (c : ChunkMessage) (whole : List ℕ) (o : Option ErrorCode) → NoData (carried_turn r p m f c whole o).effect
carried_none r p m f c whole (Some e) = nothing
carried_none r p m f c whole None = effect_none (request_at p whole) whole (answer_bytes r p whole f) (handle_for p f (answer_bytes r p whole f))

chunk_none : (r : RspSetup) (p : Place) (m : List ℕ) (f : Free) (c : ChunkMessage) (whole : List ℕ) (b : Bool) → NoData (cond b (last_chunk_turn r (inside p) m f c whole) (taken_chunk m c NoEffect [])).effect
chunk_none r p m f c whole true = carried_none r (inside p) m f c whole (refusal r (inside p) whole f)
chunk_none r p m f c whole false = nothing

turn_none : (r : RspSetup) (p : Place) (m : List ℕ) (f : Free) (o : Option ErrorCode) (c : Option ChunkMessage) → NoData (turn_by r p m f o c).effect
turn_none r p m f (Some e) c = nothing
turn_none r p m f None None = effect_none (request_at p m) m (answer_bytes r p m f) (handle_for p f (answer_bytes r p m f))
turn_none r p m f None (Some c) = chunk_none r p m f c _ c.last

message_none : (r : RspSetup) (p : Place) (m : List ℕ) (f : Free) → NoData (turn_of r p m f).effect
unfolding turn_of
message_none r p m f = turn_none r p m f (refusal r p m f) (chunk_in (request_at p m))

-- ---- The turn of an inner message.

-- Application data are taken where the session is open; else no data are taken, and an open session refuses none.
abbrev pub DataTurn : Stage → List ℕ → Free → Turn → Type 0
DataTurn g inner f t =
    ((t ≡ data_turn f (drop 1 inner)) × (is_data_inner inner ≡ true) × (is_open g ≡ true))
    ⊎ (NoData t.effect × (is_open g ≡ true → is_data_inner inner ≡ false))

-- What the tests of an inner message say: with a fault, an open session was given no application data; without one,
-- and without an SPDM message, it was.
abbrev first_fault : (none five one g long : Bool) → Option ErrorCode
first_fault none five one g long = first_of_tests ((none, InvalidRequest) ∷ (not (five || one), InvalidRequest) ∷ (one && not g, UnexpectedRequest) ∷ (one && long, RequestTooLarge) ∷ [])

refused_data : (none five one g long : Bool) (e : ErrorCode) → (one ≡ true → none ≡ false) → first_fault none five one g long ≡ Some e → g ≡ true → (one && not long) ≡ false
refused_data none five false g long e some refused held = refl
refused_data none five true g true e some refused held = refl
refused_data true five true g false e some refused held = absurd (true≢false (some refl))
refused_data false true true true false e some refused held = absurd (cc)
refused_data false false true true false e some refused held = absurd (cc)
refused_data false five true false false e some refused held = absurd (true≢false (sym held))

not_empty : (inner : List ℕ) → (slice_index inner 0 == 1) ≡ true → (length inner == 0) ≡ false
not_empty [] e = absurd (cc)
not_empty (x ∷ inner) e = ne_eqb (length (x ∷ inner)) 0 (λ is. omega arith)

sound_data : (none one g long : Bool) → first_fault none false one g long ≡ None → ((one && not long) ≡ true) × (g ≡ true)
sound_data true one g long e = absurd (cc)
sound_data false false g long e = absurd (cc)
sound_data false true false long e = absurd (cc)
sound_data false true true true e = absurd (cc)
sound_data false true true false e = (refl, refl)

by_type : (r : RspSetup) (s : Events) (inner : List ℕ) (f : Free) (five : Bool) → (slice_index inner 0 == 5) ≡ five → inner_refusal (stage_of s) inner ≡ None
    → DataTurn (stage_of s) inner f (cond five (turn_of r (session_place s) (drop 1 inner) f) (data_turn f (drop 1 inner)))
by_type r s inner f true is sound = inr (message_none r (session_place s) (drop 1 inner) f, λ held. spdm inner is)
  where
    spdm : (inner : List ℕ) → (slice_index inner 0 == 5) ≡ true → is_data_inner inner ≡ false
    spdm inner is = ap (λ (n : ℕ). (n == 1) && not (nat_lt 1025 (length inner))) (eqb-true (slice_index inner 0) 5 is)
by_type r s inner f false is sound =
    let t = sound_data (length inner == 0) (slice_index inner 0 == 1) (is_open (stage_of s)) (nat_lt 1025 (length inner))
    (ap (λ (b : Bool). first_fault (length inner == 0) b (slice_index inner 0 == 1) (is_open (stage_of s)) (nat_lt 1025 (length inner))) (sym is) ∙ sound) in
    inl (refl, t.0, t.1)

by_fault : (r : RspSetup) (s : Events) (inner : List ℕ) (f : Free) (o : Option ErrorCode) → inner_refusal (stage_of s) inner ≡ o → DataTurn (stage_of s) inner f (session_turn_by r s inner f o)
by_fault r s inner f (Some e) is = inr (nothing, λ held. refused_data (length inner == 0) (slice_index inner 0 == 5) (slice_index inner 0 == 1) (is_open (stage_of s)) (nat_lt 1025 (length inner)) e (not_empty inner) is held)
by_fault r s inner f None is = by_type r s inner f (slice_index inner 0 == 5) refl is

pub data_turn_is : (r : RspSetup) (s : Events) (inner : List ℕ) (f : Free) → DataTurn (stage_of s) inner f (session_turn r s inner f)
unfolding session_turn
data_turn_is r s inner f = by_fault r s inner f (inner_refusal (stage_of s) inner) refl

-- ---- Queued data are short.

abbrev AllShort : List (List ℕ) → Type 0
AllShort [] = Unit {0}
AllShort (x ∷ others) = (length x ≤ 1024) × AllShort others

short_more : (xs : List (List ℕ)) (x : List ℕ) → AllShort xs → length x ≤ 1024 → AllShort (xs ++ x ∷ [])
short_more [] x all short = (short, tt)
short_more (y ∷ others) x all short = (all.0, short_more others x all.1 short)

short_fewer : (b : Bool) (xs : List (List ℕ)) → AllShort xs → AllShort (cond b (drop 1 xs) xs)
short_fewer true [] all = tt
short_fewer true (x ∷ others) all = all.1
short_fewer false xs all = all

queue_short : (r : RspSetup) (h : History) → IsMade r h → AllShort (queue_of h)
queue_short r [] made = tt
queue_short r (Clear tag t d ∷ older) made = queue_short r older made.1
queue_short r (Sealed tag m t reply d ∷ older) made = short_fewer (is_data t.effect) (queue_of older) (queue_short r older made.1)
queue_short r (Queued bytes ∷ older) made = short_more (queue_of older) bytes (queue_short r older made.2) made.0
queue_short r (Ticked seconds ∷ older) made = queue_short r older made
queue_short r (Dropped id ∷ older) made = absurd made

first_short : (xs : List (List ℕ)) → AllShort xs → length (first_queued xs) ≤ 1024
first_short [] all = omega arith
first_short (x ∷ others) all = all.0

pub chosen_short : (r : RspSetup) (h : History) (sealed : List ℕ) (d : Draw) → IsMade r h → length (record_chosen r h sealed d).reply ≤ 1024
unfolding chosen
chosen_short r h sealed d made = first_short (queue_of h) (queue_short r h made)

-- ---- Texts of a turn.

-- What its marks hold, and what its effect tells.
pub record Told (text reply : Text) (e : Effect) : Type 0 where
  pub taken : taken_data (text, reply) ≡ as_list (data_taken e)
  pub answered : answered_data (text, reply) ≡ as_list (data_answered e)

pub opened_in : (psk : List ℕ) (s : Events) (sealed : List ℕ) → opened psk s sealed ≡ inner_in (taken_text psk s sealed)
unfolding opened
opened_in psk s sealed = inner_text (session_terms s).choice (request_purpose psk s) (request_next s) sealed

told_data : (text reply : Text) (bytes answer : List ℕ) → is_data_text text ≡ true → data_in text ≡ bytes → is_data_text reply ≡ true → data_in reply ≡ answer → Told text reply (TookData bytes answer)
told_data text reply bytes answer one is two its = record {
  taken = ap₂ (λ (a b : Bool). cond (a && b) (data_in text ∷ []) []) one two ∙ ap (λ (l : List ℕ). l ∷ []) is;
  answered = ap₂ (λ (a b : Bool). cond (a && b) (data_in reply ∷ []) []) one two ∙ ap (λ (l : List ℕ). l ∷ []) its;
}

and_no : (a : Bool) → (a && false) ≡ false
and_no true = refl
and_no false = refl

told_none : (text reply : Text) (e : Effect) → NoData e → is_data_text reply ≡ false → Told text reply e
told_none text reply e none quiet =
    let both : (is_data_text text && is_data_text reply) ≡ false = ap (λ (b : Bool). is_data_text text && b) quiet ∙ and_no (is_data_text text) in record {
      taken = ap (λ (b : Bool). cond b (data_in text ∷ []) []) both ∙ sym (ap as_list none.taken);
      answered = ap (λ (b : Bool). cond b (data_in reply ∷ []) []) both ∙ sym (ap as_list none.answered);
    }

reply_none : (t : Turn) → is_data t.effect ≡ false → is_data_text (reply_text t) ≡ false
reply_none t e = ap (λ (b : Bool). is_data_text (plain_text (cond b 1 5 ∷ t.reply) [])) e ∙ message_no_data t.reply []

turn_told : (r : RspSetup) (s : Events) (f : Free) (sealed : List ℕ) (t : Turn) → length f.reply ≤ 1024 → DataTurn (stage_of s) (opened r.psk s sealed) f t → Told (taken_text r.psk s sealed) (reply_text t) t.effect
turn_told r s f sealed t short x = elim x [
  | inl d ↦ (let reply = data_text f.reply [] short in
      subst (λ (t : Turn). Told (taken_text r.psk s sealed) (reply_text t) t.effect) (sym d.0)
      (told_data (taken_text r.psk s sealed) (reply_text (data_turn f (drop 1 (opened r.psk s sealed)))) (drop 1 (opened r.psk s sealed)) f.reply
      (ap is_data_inner (sym (opened_in r.psk s sealed)) ∙ d.1) (ap (λ (l : List ℕ). drop 1 l) (sym (opened_in r.psk s sealed))) reply.0 reply.1))
  | inr n ↦ told_none (taken_text r.psk s sealed) (reply_text t) t.effect n.0 (reply_none t n.0.none)
]

-- ---- All that was taken.

-- What the marks of a record add to what is chosen of the exchanges under a T2.
abbrev AddsData : (Exchange → List (List ℕ)) → (Effect → Option (List ℕ)) → (t2 transcript : List ℕ) → (new old : List Served) → Effect → Type 0
AddsData choose tells t2 transcript new old e = in_order choose (taken t2 (new ++ old)) ≡ in_order choose (taken t2 old) ++ some_under t2 transcript (tells e)

no_effect : (g : Stage) (inner : List ℕ) (f : Free) (t : Turn) → is_open g ≡ false → DataTurn g inner f t → NoData t.effect
no_effect g inner f t shut x = elim x [ inl d ↦ absurd (true≢false (sym d.2 ∙ shut)) | inr n ↦ n.0 ]

module _ (choose : Exchange → List (List ℕ)) (data_of : Effect → Option (List ℕ)) (is : (text reply : Text) (e : Effect) → Told text reply e → choose (text, reply) ≡ as_list (data_of e)) (none : (e : Effect) → NoData e → data_of e ≡ None) where
  shaken : (r : RspSetup) (s : Events) (sealed : List ℕ) (t : Turn) (reply t2 : List ℕ) (older : List Served) (b : Bool) → NoData t.effect
      → AddsData choose data_of t2 (t2_of s) (cond b (marks.Served.Finished (served_first s) (t2_of (Event.Heard sealed t reply ∷ s)) ∷ []) (marks.Served.Refused (served_first s) (reply_text t) ∷ [])) older t.effect
  shaken r s sealed t reply t2 older true quiet = no_more (in_order choose (taken t2 older)) t2 (t2_of s) (data_of t.effect) (none t.effect quiet)
  shaken r s sealed t reply t2 older false quiet = no_more (in_order choose (taken t2 older)) t2 (t2_of s) (data_of t.effect) (none t.effect quiet)

  staged : (g : Stage) (r : RspSetup) (s : Events) (f : Free) (sealed : List ℕ) (t : Turn) (reply t2 : List ℕ) (older : List Served) → length f.reply ≤ 1024 → stage_of s ≡ g → DataTurn (stage_of s) (opened r.psk s sealed) f t
      → AddsData choose data_of t2 (t2_of s) (served_turn g r s sealed t reply) older t.effect
  staged stage.Handshake r s f sealed t reply t2 older short at x = shaken r s sealed t reply t2 older (takes PSK_FINISH t) (no_effect (stage_of s) (opened r.psk s sealed) f t (ap is_open at) x)
  staged stage.Open r s f sealed t reply t2 older short at x = one_more choose (taken_text r.psk s sealed, reply_text t) (taken t2 older) t2 (t2_of s) (data_of t.effect) (is (taken_text r.psk s sealed) (reply_text t) t.effect (turn_told r s f sealed t short x))
  staged stage.Verifying r s f sealed t reply t2 older short at x = one_more choose (taken_text r.psk s sealed, reply_text t) (taken t2 older) t2 (t2_of s) (data_of t.effect) (is (taken_text r.psk s sealed) (reply_text t) t.effect (turn_told r s f sealed t short x))

  recorded : (r : RspSetup) (s : Events) (f : Free) (sealed : List ℕ) (t : Turn) (reply t2 : List ℕ) (older : List Served) → length f.reply ≤ 1024 → DataTurn (stage_of s) (opened r.psk s sealed) f t
      → AddsData choose data_of t2 (t2_of s) (record_marks r s sealed t reply) older t.effect
  recorded r [] f sealed t reply t2 older short x = no_more (in_order choose (taken t2 older)) t2 (t2_of []) (data_of t.effect) (none t.effect (no_effect stage.Handshake (opened r.psk [] sealed) f t refl x))
  recorded r (e ∷ s) f sealed t reply t2 older short x = staged (stage_of (e ∷ s)) r (e ∷ s) f sealed t reply t2 older short refl x

  cleared : (b : Bool) (x : First) (t2 : List ℕ) (older : List Served) → taken t2 (cond b (marks.Served.Began x ∷ []) [] ++ older) ≡ taken t2 older
  cleared true x t2 older = refl
  cleared false x t2 older = refl

  -- One more record.
  one_record : (r : RspSetup) (older : History) (tag : ℕ) (sealed : List ℕ) (t : Turn) (reply : List ℕ) (d : Draw) (t2 : List ℕ) → IsMade r (Sealed tag sealed t reply d ∷ older)
      → in_order choose (taken t2 (served_marks r (Sealed tag sealed t reply d ∷ older))) ≡ in_order choose (taken t2 (served_marks r older)) ++ some_under t2 (t2_of (session_of (id_in_record sealed) older)) (data_of t.effect)
  one_record r older tag sealed t reply d t2 made =
      let s = session_of (id_in_record sealed) older in
      let f = record_chosen r older sealed d in
      recorded r s f sealed t reply t2 (served_marks r older) (chosen_short r older sealed d made.1)
      (subst (DataTurn (stage_of s) (opened r.psk s sealed) f) (sym (record_entry r older f tag tag sealed sealed t reply d d made.0)) (data_turn_is r s (opened r.psk s sealed) f))

pub requests_are : (r : RspSetup) (h : History) → IsMade r h → (t2 : List ℕ) → requests_taken t2 h ≡ in_order taken_data (taken t2 (served_marks r h))
requests_are r [] made t2 = refl
requests_are r (Clear tag t d ∷ older) made t2 = requests_are r older made.1 t2 ∙ ap (in_order taken_data) (sym (cleared taken_data data_taken (λ text reply e told. told.taken) (λ e none. none.taken) (takes PSK_EXCHANGE t) _ t2 (served_marks r older)))
requests_are r (Sealed tag sealed t reply d ∷ older) made t2 =
    ap (λ (l : List (List ℕ)). l ++ some_under t2 (t2_of (session_of (id_in_record sealed) older)) (data_taken t.effect)) (requests_are r older made.1 t2)
    ∙ sym (one_record taken_data data_taken (λ text reply e told. told.taken) (λ e none. none.taken) r older tag sealed t reply d t2 made)
requests_are r (Queued bytes ∷ older) made t2 = requests_are r older made.2 t2
requests_are r (Ticked seconds ∷ older) made t2 = requests_are r older made t2
requests_are r (Dropped id ∷ older) made t2 = absurd made

pub responses_are : (r : RspSetup) (h : History) → IsMade r h → (t2 : List ℕ) → responses_sealed t2 h ≡ in_order answered_data (taken t2 (served_marks r h))
responses_are r [] made t2 = refl
responses_are r (Clear tag t d ∷ older) made t2 = responses_are r older made.1 t2 ∙ ap (in_order answered_data) (sym (cleared answered_data data_answered (λ text reply e told. told.answered) (λ e none. none.answered) (takes PSK_EXCHANGE t) _ t2 (served_marks r older)))
responses_are r (Sealed tag sealed t reply d ∷ older) made t2 =
    ap (λ (l : List (List ℕ)). l ++ some_under t2 (t2_of (session_of (id_in_record sealed) older)) (data_answered t.effect)) (responses_are r older made.1 t2)
    ∙ sym (one_record answered_data data_answered (λ text reply e told. told.answered) (λ e none. none.answered) r older tag sealed t reply d t2 made)
responses_are r (Queued bytes ∷ older) made t2 = responses_are r older made.2 t2
responses_are r (Ticked seconds ∷ older) made t2 = responses_are r older made t2
responses_are r (Dropped id ∷ older) made t2 = absurd made
