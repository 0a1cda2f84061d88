-- In a walk a request in the clear that was taken has four bytes, which the responder takes, and GET_VERSION takes effect as such.
use Rattle.std.proofs.Common.{◌≡◌, ◌≤◌, ◌==◌, ◌&&◌, ℕ, List, [], ◌∷◌, ◌++◌, refl, sym, ap, ◌∙◌, subst, drop, length, Bool, true, false, Option, Some, None, Result, Ok, Err, cond, inl, inr, arith, eq-eqb}
use Rattle.std.specs.Prelude.{MatchBool, bytes_eq, nat_lt, slice_index}
use Rattle.std.proofs.Math.Bool.{and-false}
use Rattle.std.proofs.lemmas.Bool.{false≢true, false_from_ne_true}
use Rattle.std.proofs.lemmas.Bool.Decides.{nat_tests}
use Rattle.std.proofs.lemmas.Slice.Eq.{bytes_eq-Decides}
use Rattle.mctp_framing.specs.Gathering.{Gathered}
use Rattle.mctp_framing.specs.Gathering.Gathered.{Whole, More, Dropped as Lost}
use Rattle.mctp_framing.specs.Packet.{PacketFields, parsed}
use Rattle.spdm_basis.proofs.Bools.{and_first}
use Rattle.spdm_basis.specs.declared.PacketFault.{PacketFault}
use Rattle.spdm_grammar.specs.Codes.{code_for}
use Rattle.spdm_grammar.specs.Message.{ChunkMessage, RequestMessage}
use Rattle.spdm_grammar.specs.Message.RequestMessage.{ChunkSend, GetVersion}
use Rattle.spdm_grammar.specs.Requests.{canonical_request}
use Rattle.spdm_grammar.specs.declared.messages.error_code.ErrorCode.{ErrorCode}
use Rattle.spdm_grammar.specs.declared.names.request_code.TheConstants.{CHUNK_GET, CHUNK_SEND, GET_CAPABILITIES, GET_VERSION, NEGOTIATE_ALGORITHMS, PSK_EXCHANGE}
use Rattle.spdm_grammar.specs.declared.told.phase.Phase.{Phase}
use Rattle.spdm_grammar.specs.declared.told.phase.Phase.TheVariants.{Versioned, Capable, Negotiated}
use Rattle.spdm_machine.specs.Packets.{gathered_from}
use Rattle.requester_machine.specs.Setup.{ReqSetup}
use Rattle.responder_machine.specs.Answer.{Free, answer_bytes, request_at}
use Rattle.responder_machine.specs.Handling.{chunk_in, effect_of, handle_for, turn_by, turn_of}
use Rattle.responder_machine.specs.History.{Entry, History, clear_turns, kept_of, phase_of}
use Rattle.responder_machine.specs.History.Entry.{Clear, Sealed, Queued, Ticked, Dropped}
use Rattle.responder_machine.specs.May.{with_dropped}
use Rattle.responder_machine.specs.Place.{Place, clear_place}
use Rattle.responder_machine.specs.Refusal.{code_of, refusal, sizes_are_known}
use Rattle.responder_machine.specs.Responder.{Outcome, after, is_repeat}
use Rattle.responder_machine.specs.Responder.Outcome.{Same, Unopened, Adds}
use Rattle.responder_machine.specs.Setup.{RspSetup, towards}
use Rattle.responder_machine.specs.Turn.{Effect, Turn, code_in, is_taken, takes}
use Rattle.responder_machine.proofs.Codes.{asked-code}
use Rattle.responder_machine.proofs.Making.{turn_message}
use Rattle.responder_machine.proofs.Tests.{form_shown}
use Rattle.check_laws.specs.Order.{is_answer, is_request}
use Rattle.check_laws.specs.Walks.{StepsBy, StepsTo, Walks}
use Rattle.check_fetched_laws.proofs.ClearLeft.{get_others}
use Rattle.check_fetched_laws.proofs.WalksSound.{walks_sound}
use Rattle.check_fetched_laws.specs.ClearSessions.{AreGets, IsWithoutHandshake}
use Rattle.check_fetched_laws.specs.StandsAlike.{VersionIsAnew}
use Rattle.capture_machine.proofs.DropsTell.{clear_form}
use Rattle.capture_machine.proofs.FetchedSessions.{takes_with}
use Rattle.capture_machine.proofs.PlainTells.{led_clear, led_record}
use Rattle.capture_machine.proofs.RecordAdds.{record_added}
use Rattle.capture_machine.proofs.TurnsAlike.{chunk_is, is_request as reads_request}
use Rattle.capture_machine.proofs.UnseenStands.{UnseenStand}
use Rattle.capture_machine.specs.Capture.{AsksBy, RepliesBy}
use Rattle.capture_machine.specs.CapturedAnswers.{Answers, MayLeadTo}
use Rattle.capture_machine.specs.LargeAnswers.{dropped_before_large, handle_shown, is_unseen_in, judging, place_named, seen, unseen, with_large}
use Rattle.capture_machine.specs.Rounds.{Dialogue, Round, no_draw}
use Rattle.world_machine.specs.Setup.{Configuration, known_of}

-- ---- An entry.

-- So is a turn.
pub record IsForm (n : ℕ) (t : Turn) : Type 0 where
  pub room : 4 ≤ n
  pub version : code_of t.message ≡ GET_VERSION → takes GET_VERSION t ≡ true

abbrev pub FormBy : (transfer : ℕ) → Turn → Type 0
FormBy n t = is_taken t ≡ true → IsForm n t

abbrev pub FormStandsIn : ℕ → Entry → Type 0
FormStandsIn n (Clear tag t d) = FormBy n t
FormStandsIn n _ = Unit {0}

abbrev pub FormStand : ℕ → History → Type 0
FormStand n [] = Unit {0}
FormStand n (e ∷ h) = FormStandsIn n e × FormStand n h

module _ (r : RspSetup) (f : Free) (h : History) (m : List ℕ) where
  abbrev p : Place
  p = clear_place h

  room_is : refusal r p m f ≡ None → 4 ≤ r.transfer
  room_is none =
      let low : nat_lt (length m) 4 ≡ false = form_shown r p m f none 0 in
      let fits : nat_lt r.transfer (length m) ≡ false = form_shown r p m f none 1 in
      grind (arith, nat_tests)

  version_is : (x : Option ErrorCode) (c : Option ChunkMessage) → refusal r p m f ≡ x → chunk_in (request_at p m) ≡ c → is_taken (turn_by r p m f x c) ≡ true → code_of m ≡ GET_VERSION → takes GET_VERSION (turn_by r p m f x c) ≡ true
  version_is (Some e) c none asks taken code = absurd (false≢true taken)
  version_is None (Some c) none asks taken code =
      let chunk : CHUNK_SEND ≡ code_of m = asked-code p m (ChunkSend c) (chunk_is (request_at p m) c asks) in (let no_code = chunk ∙ code in absurd (omega (arith, no_code)))
  version_is None None none asks taken code =
      let one = reads_request r p m f none in
      ap (λ (o : Option RequestMessage). code_in (effect_of o m (answer_bytes r p m f) (handle_for p f (answer_bytes r p m f))) == GET_VERSION) one.1
      ∙ eq-eqb (code_for one.0) GET_VERSION (asked-code p m one.0 one.1 ∙ code)

  none_by : (x : Option ErrorCode) (c : Option ChunkMessage) → is_taken (turn_by r p m f x c) ≡ true → x ≡ None
  none_by None c taken = refl
  none_by (Some e) c taken = absurd (false≢true taken)

  turn_form : FormBy r.transfer (turn_of r p m f)
  unfolding turn_of
  turn_form taken = record {
    room = room_is (none_by (refusal r p m f) (chunk_in (request_at p m)) taken);
    version = λ code. version_is (refusal r p m f) (chunk_in (request_at p m)) refl refl taken (sym (ap code_of (turn_message r p m f)) ∙ code);
  }

form_led : (n : ℕ) (r : RspSetup) → r.transfer ≡ n → (h : History) (tag : ℕ) (body : List ℕ) (e : Entry) → MayLeadTo r h tag body (Adds e) → FormStandsIn n e
form_led n r same h tag body e may = by_type (slice_index body 0 == 5) refl
  where
    by_type : (b : Bool) → (slice_index body 0 == 5) ≡ b → FormStandsIn n e
    by_type true is =
        let led = led_clear r h tag body (Adds e) is may in
        elim (clear_form r h tag (drop 1 body) led.free (Adds e) led.leads) [
          | inl again ↦ absurd (let x = again.1 in cc)
          | inr adds ↦
              let here : Clear tag (turn_of r (clear_place h) (drop 1 body) led.free) no_draw ≡ e = cc (sym adds) in
              subst (FormStandsIn n) here (subst (λ (k : ℕ). FormBy k (turn_of r (clear_place h) (drop 1 body) led.free)) same (turn_form r led.free h (drop 1 body)))
        ]
    by_type false is =
        let led = led_record r h tag body (Adds e) is may in
        subst (FormStandsIn n) (record_added r led.free tag (drop 1 body) e h led.leads) tt

form_seen : (n : ℕ) (w : List ℕ) (e : Entry) → FormStandsIn n e → FormStandsIn n (seen w e)
form_seen n w (Clear tag t d) stands = λ taken. let is = stands taken in record { room = is.room; version = λ code. takes_with w (Some (handle_shown t)) GET_VERSION t ∙ is.version code }
form_seen n w (Sealed tag m t reply d) stands = tt
form_seen n w (Queued bytes) stands = tt
form_seen n w (Ticked seconds) stands = tt
form_seen n w (Dropped id) stands = tt

form_unseen : (n : ℕ) (e : Entry) → FormStandsIn n e → FormStandsIn n (unseen e)
form_unseen n (Clear tag t d) stands = λ taken. let is = stands taken in record { room = is.room; version = λ code. takes_with [] None GET_VERSION t ∙ is.version code }
form_unseen n (Sealed tag m t reply d) stands = tt
form_unseen n (Queued bytes) stands = tt
form_unseen n (Ticked seconds) stands = tt
form_unseen n (Dropped id) stands = tt

-- ---- A history.

dropped_stands : (n : ℕ) (ids : List ℕ) (h : History) → FormStand n h → FormStand n (with_dropped h ids)
dropped_stands n [] h stands = stands
dropped_stands n (id ∷ ids) h stands = dropped_stands n ids (Dropped id ∷ h) (tt, stands)

given_stands : (n : ℕ) (place : Option ℕ) (w : List ℕ) (h : History) → FormStand n h → FormStand n (with_large place w h)
given_stands n place w [] stands = tt
given_stands n place w (e ∷ h) stands = by_is (is_unseen_in place e) (given_stands n place w h stands.1)
  where
    by_is : (b : Bool) → FormStand n (with_large place w h) → FormStand n (cond b (seen w e ∷ h) (e ∷ with_large place w h))
    by_is true rest = (form_seen n w e stands.0, stands.1)
    by_is false rest = (stands.0, rest)

before_stands : (n : ℕ) (place : Option ℕ) (ids : List ℕ) (h : History) → FormStand n h → FormStand n (dropped_before_large place ids h)
before_stands n place ids [] stands = tt
before_stands n place ids (e ∷ h) stands = by_is (is_unseen_in place e) (before_stands n place ids h stands.1)
  where
    by_is : (b : Bool) → FormStand n (dropped_before_large place ids h) → FormStand n (cond b (e ∷ with_dropped h ids) (e ∷ dropped_before_large place ids h))
    by_is true rest = (stands.0, dropped_stands n ids h stands.1)
    by_is false rest = (stands.0, rest)

after_stands : (n : ℕ) (r : RspSetup) (same : r.transfer ≡ n) (k h : History) (tag : ℕ) (body : List ℕ) (o : Outcome) → MayLeadTo r k tag body o → FormStand n h → FormStand n (after h o)
after_stands n r same k h tag body (Same b) may stands = stands
after_stands n r same k h tag body (Unopened b) may stands = stands
after_stands n r same k h tag body (Adds e) may stands = (form_led n r same k tag body e may, stands)

-- ---- An answer.

answers_stand : (n : ℕ) (r : RspSetup) (same : r.transfer ≡ n) (d : Dialogue) (round : Round) (answer : List ℕ) (next : History) (fetching : Option (List ℕ)) → Answers r d round answer next fetching → FormStand n d.responder → FormStand n next
unfolding Answers
answers_stand n r same d round answer next fetching (inl a) stands =
    subst (FormStand n) (sym a.0.6) (after_stands n r same (with_dropped (judging d.fetching round.body d.responder) a.0.0) (with_dropped d.responder a.0.0) round.tag round.body a.0.1 a.0.2.1 (dropped_stands n a.0.0 d.responder stands))
answers_stand n r same d round answer next fetching (inr (inl a)) stands =
    subst (FormStand n) (sym a.1.6) (form_unseen n a.1.1 (form_led n r same (with_dropped (judging d.fetching round.body d.responder) a.1.0) round.tag round.body a.1.1 a.1.2.1), stands)
answers_stand n r same d round answer next fetching (inr (inr (inl a))) stands = subst (FormStand n) (sym a.1.4) stands
answers_stand n r same d round answer next fetching (inr (inr (inr a))) stands =
    let place : Option ℕ = place_named round.body in
    subst (FormStand n) (sym a.0.8) (form_led n r same (judging d.fetching round.body d.responder) round.tag round.body a.0.2 a.0.4, given_stands n place a.0.0 (dropped_before_large place a.0.1 d.responder) (before_stands n place a.0.1 d.responder stands))

-- ---- A walk.

asks_stand : (n : ℕ) (d : Dialogue) (g : Gathered) (next : Dialogue) → FormStand n d.responder → AsksBy d g next → FormStand n next.responder
asks_stand n d (Whole route body) next stands asks = elim asks.2 [
  | inl copies ↦ subst (FormStand n) (sym (ap (λ (x : Dialogue). x.responder) copies.4)) stands
  | inr begins ↦ subst (FormStand n) (sym (ap (λ (x : Dialogue). x.responder) begins.2.3)) stands
]
asks_stand n d More next stands asks = subst (λ (x : Dialogue). FormStand n x.responder) (sym asks) stands
asks_stand n d (Lost cause) next stands asks = absurd asks

replies_stand : (n : ℕ) (w : Configuration) (same : w.responder.transfer ≡ n) (d : Dialogue) (g : Gathered) (next : Dialogue) → FormStand n d.responder → RepliesBy w d g next → FormStand n next.responder
replies_stand n w same d (Whole route body) next stands replies =
    let c = replies.2 in
    subst (FormStand n) (sym (ap (λ (x : Dialogue). x.responder) c.4.3.2)) (answers_stand n (towards w.responder (known_of d.setup)) same d c.0 body c.4.0 c.4.1 c.4.2 stands)
replies_stand n w same d More next stands replies = subst (λ (x : Dialogue). FormStand n x.responder) (sym replies) stands
replies_stand n w same d (Lost cause) next stands replies = absurd replies

step_stands : (n : ℕ) (w : Configuration) (same : w.responder.transfer ≡ n) (eid : ℕ) (older : List (List ℕ)) (d next : Dialogue) (r : Result PacketFields PacketFault) → FormStand n d.responder → StepsBy w eid older d next r → FormStand n next.responder
step_stands n w same eid older d next (Err fault) stands step = subst (λ (x : Dialogue). FormStand n x.responder) (sym step) stands
step_stands n w same eid older d next (Ok p) stands step = by_ends (is_request w.responder.eid eid p) (is_answer w.responder.eid eid p) step
  where
    by_ends : (b c : Bool) → MatchBool b (AsksBy d (gathered_from w.responder.eid eid older p) next) (MatchBool c (RepliesBy w d (gathered_from eid w.responder.eid older p) next) (next ≡ d)) → FormStand n next.responder
    by_ends true c asks = asks_stand n d (gathered_from w.responder.eid eid older p) next stands asks
    by_ends false true replies = replies_stand n w same d (gathered_from eid w.responder.eid older p) next stands replies
    by_ends false false stays = subst (λ (x : Dialogue). FormStand n x.responder) (sym stays) stands

pub walks_form : (n : ℕ) (w : Configuration) (same : w.responder.transfer ≡ n) (q : ReqSetup) (older : List (List ℕ)) (d : Dialogue) → Walks w q older d → FormStand n d.responder
unfolding StepsTo
walks_form n w same q [] d walk = subst (λ (x : Dialogue). FormStand n x.responder) (sym walk) tt
walks_form n w same q (packet ∷ older) d walk = step_stands n w same q.eid older walk.0 d (parsed packet) (walks_form n w same q older walk.0 walk.1) walk.2

-- ---- The law.

phase_by : (version caps offer : Bool) (rest : Phase) → version ≡ true → sizes_are_known (cond version Versioned (cond caps Capable (cond offer Negotiated rest))) ≡ false
phase_by true caps offer rest is = refl
phase_by false caps offer rest is = absurd (false≢true is)

not_same : (m : List ℕ) → (code_of m ≡ GET_VERSION → ⊥) → bytes_eq m (canonical_request GetVersion) ≡ false
not_same m other = false_from_ne_true (bytes_eq m (canonical_request GetVersion)) (λ same. other (ap code_of ((bytes_eq-Decides m (canonical_request GetVersion)).0 same)))

-- The last request that was taken is not GET_VERSION.
taken_not : (tag other : ℕ) (t : Turn) (d : _) (h : History) → is_taken t ≡ true → (code_of t.message ≡ GET_VERSION → ⊥) → is_repeat (kept_of (Clear other t d ∷ h)) tag (canonical_request GetVersion) ≡ false
taken_not tag other t d h taken not_it =
    ap (λ (b : Bool). is_repeat (cond b (Some (record { tag = other; message = t.message; reply = t.reply })) (kept_of h)) tag (canonical_request GetVersion)) taken
    ∙ ap (λ (b : Bool). (other == tag) && b) (not_same t.message not_it) ∙ and-false (other == tag)

idle_not : (tag other : ℕ) (t : Turn) (d : _) (h : History) → is_taken t ≡ false → is_repeat (kept_of h) tag (canonical_request GetVersion) ≡ false → is_repeat (kept_of (Clear other t d ∷ h)) tag (canonical_request GetVersion) ≡ false
idle_not tag other t d h taken rest = ap (λ (b : Bool). is_repeat (cond b (Some (record { tag = other; message = t.message; reply = t.reply })) (kept_of h)) tag (canonical_request GetVersion)) taken ∙ rest

abbrev phase_at : ℕ → Phase → Phase
phase_at code rest = cond (code == GET_VERSION) Versioned (cond (code == GET_CAPABILITIES) Capable (cond (code == NEGOTIATE_ALGORITHMS) Negotiated rest))

sized_not : (n tag : ℕ) (h : History) → FormStand n h → UnseenStand h → sizes_are_known (phase_of (clear_turns h)) ≡ true → is_repeat (kept_of h) tag (canonical_request GetVersion) ≡ false
sized_not n tag [] stands stand known = refl
sized_not n tag (Clear other t d ∷ h) stands stand known = by_taken (is_taken t) refl (λ rest. sized_not n tag h stands.1 stand.1 rest)
  where
    by_taken : (b : Bool) → is_taken t ≡ b → (sizes_are_known (phase_of (clear_turns h)) ≡ true → is_repeat (kept_of h) tag (canonical_request GetVersion) ≡ false) → is_repeat (kept_of (Clear other t d ∷ h)) tag (canonical_request GetVersion) ≡ false
    by_taken true taken rest =
        taken_not tag other t d h taken
        (λ code. false≢true (sym (phase_by (takes GET_VERSION t) (takes GET_CAPABILITIES t) (takes NEGOTIATE_ALGORITHMS t) (phase_of (clear_turns h)) ((stands.0 taken).version code)) ∙ known))
    by_taken false taken rest =
        idle_not tag other t d h taken (rest (sym (ap (λ (x : Effect). sizes_are_known (phase_at (code_in x) (phase_of (clear_turns h)))) (stand.0.0 taken)) ∙ known))
sized_not n tag (Sealed other m t reply d ∷ h) stands stand known = sized_not n tag h stands.1 stand.1 known
sized_not n tag (Queued bytes ∷ h) stands stand known = absurd stand.0
sized_not n tag (Ticked seconds ∷ h) stands stand known = absurd stand.0
sized_not n tag (Dropped id ∷ h) stands stand known = sized_not n tag h stands.1 stand.1 known

-- Nor is it while a large response is fetched.
gets_not : (n tag : ℕ) (gets : List Entry) (h : History) → AreGets gets → FormStand n (gets ++ h) → UnseenStand (gets ++ h) → is_repeat (kept_of h) tag (canonical_request GetVersion) ≡ false → is_repeat (kept_of (gets ++ h)) tag (canonical_request GetVersion) ≡ false
gets_not n tag [] h are stands stand rest = rest
gets_not n tag (Clear other t d ∷ gets) h are stands stand rest = by_taken (is_taken t) refl (gets_not n tag gets h are.1 stands.1 stand.1 rest)
  where
    by_taken : (b : Bool) → is_taken t ≡ b → is_repeat (kept_of (gets ++ h)) tag (canonical_request GetVersion) ≡ false → is_repeat (kept_of (Clear other t d ∷ (gets ++ h))) tag (canonical_request GetVersion) ≡ false
    by_taken true taken before = taken_not tag other t d (gets ++ h) taken (λ code. false≢true (sym (get_others t (and_first (takes CHUNK_GET t) _ are.0)).0 ∙ (stands.0 taken).version code))
    by_taken false taken before = idle_not tag other t d (gets ++ h) taken before
gets_not n tag (Sealed other m t reply d ∷ gets) h are stands stand rest = absurd (false≢true are.0)
gets_not n tag (Queued bytes ∷ gets) h are stands stand rest = absurd (false≢true are.0)
gets_not n tag (Ticked seconds ∷ gets) h are stands stand rest = absurd (false≢true are.0)
gets_not n tag (Dropped id ∷ gets) h are stands stand rest = absurd (false≢true are.0)

behind : (n : ℕ) (gets : List Entry) (h : History) → FormStand n (gets ++ h) → UnseenStand (gets ++ h) → FormStand n h × UnseenStand h
behind n [] h stands stand = (stands, stand)
behind n (e ∷ gets) h stands stand = behind n gets h stands.1 stand.1

without_not : (tag : ℕ) (before left : History) → IsWithoutHandshake before left → is_repeat (kept_of before) tag (canonical_request GetVersion) ≡ false → is_repeat (kept_of left) tag (canonical_request GetVersion) ≡ false
without_not tag before left (inl none) is = ap (λ (h : History). is_repeat (kept_of h) tag (canonical_request GetVersion)) none.1 ∙ is
without_not tag before left (inr one) is = ap (λ (h : History). is_repeat (kept_of h) tag (canonical_request GetVersion)) one.2 ∙ is

left_not : (tag other : ℕ) (t : Turn) (before left : History) → MatchBool (takes PSK_EXCHANGE t) (IsWithoutHandshake before left) (left ≡ before) → is_repeat (kept_of before) tag (canonical_request GetVersion) ≡ false → is_repeat (kept_of left) tag (canonical_request GetVersion) ≡ false
left_not tag other t before left leaves is = by_code (takes PSK_EXCHANGE t) leaves
  where
    by_code : (b : Bool) → MatchBool b (IsWithoutHandshake before left) (left ≡ before) → is_repeat (kept_of left) tag (canonical_request GetVersion) ≡ false
    by_code true without = without_not tag before left without is
    by_code false same = ap (λ (h : History). is_repeat (kept_of h) tag (canonical_request GetVersion)) same ∙ is

pub version_is_anew : VersionIsAnew
version_is_anew w q older d gets (Clear other t dr) before left tag walk same are is leaves known =
    let n : ℕ = w.responder.transfer in
    let h : History = gets ++ Clear other t dr ∷ before in
    let stands : FormStand n (gets ++ Clear other t dr ∷ before) = subst (FormStand n) same (walks_form n w refl q older d walk) in
    let stand : UnseenStand (gets ++ Clear other t dr ∷ before) = subst UnseenStand same (walks_sound w q older d walk).unseen in
    let both = behind n gets (Clear other t dr ∷ before) stands stand in
    let taken = (both.1.0.1 is.0).taken in
    let form = both.0.0 taken in
    let here = taken_not tag other t dr before taken (λ code. false≢true (sym is.1 ∙ form.version code)) in (
      form.room,
      ap (λ (l : History). is_repeat (kept_of l) tag (canonical_request GetVersion)) same ∙ gets_not n tag gets (Clear other t dr ∷ before) are stands stand here,
      left_not tag other t before left leaves (sized_not n tag before both.0.1 both.1.1 known),
    )
version_is_anew w q older d gets (Sealed other m t reply dr) before left tag walk same are is leaves known = absurd is
version_is_anew w q older d gets (Queued bytes) before left tag walk same are is leaves known = absurd is
version_is_anew w q older d gets (Ticked seconds) before left tag walk same are is leaves known = absurd is
version_is_anew w q older d gets (Dropped id) before left tag walk same are is leaves known = absurd is
