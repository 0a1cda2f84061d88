-- Why a packet is refused while a large request is in progress.
use Rattle.std.proofs.Common.{◌≡◌, ◌≢◌, ◌==◌, ◌&&◌, ◌||◌, ℕ, List, [], ◌∷◌, refl, sym, ap, ◌∙◌, subst, drop, Bool, true, false, Option, Some, None, cond, eqb-true, inl, inr, is_some}
use Rattle.std.proofs.lemmas.Bool.{false≢true}
use Rattle.std.proofs.lemmas.Option.{none-some}
use Rattle.mctp_framing.specs.Gathering.{Gathered}
use Rattle.mctp_framing.specs.Gathering.Gathered.{Whole, More, Dropped}
use Rattle.requester_machine.proofs.Entries.{asked, test_is_false}
use Rattle.requester_machine.specs.Asking.{asks}
use Rattle.requester_machine.specs.Asking.Outcome.{Adds}
use Rattle.requester_machine.specs.Commands.{Free, exchange_for, live_count}
use Rattle.requester_machine.specs.History.{History, is_connect, negotiation_of, next_handle, outstanding}
use Rattle.requester_machine.specs.History.Entry.{Told, TookClear, TookRecord}
use Rattle.requester_machine.specs.May.{IsAllowed}
use Rattle.requester_machine.specs.Message.{Aim, Command, Sent}
use Rattle.requester_machine.specs.Message.Aim.{ByChunks}
use Rattle.requester_machine.specs.Message.Command.{Connect, Open, Send, Beat, Update, Measure, End, Retry}
use Rattle.requester_machine.specs.Named.{session_named}
use Rattle.requester_machine.specs.Owed.{with_next}
use Rattle.requester_machine.specs.Session.{Steps, after_clear, begun, is_accepted, is_live, session_of, with_aim, with_sent}
use Rattle.requester_machine.specs.Session.Step.{Started}
use Rattle.requester_machine.specs.Setup.{ReqSetup}
use Rattle.responder_machine.specs.History as responder_history
use Rattle.responder_machine.specs.Setup.{RspSetup, towards}
use Rattle.spdm_basis.proofs.Bools.{and_second}
use Rattle.spdm_grammar.specs.Message.{ExchangeMessage, RequestMessage}
use Rattle.spdm_grammar.specs.Message.RequestMessage.{PskExchange}
use Rattle.spdm_grammar.specs.Requests.{canonical_request}
use Rattle.spdm_machine.specs.Packets.{body_type}
use Rattle.transcript.specs.Transcripts.{Negotiation}
use Rattle.check_laws.proofs.AnsweredOn.{answers_on}
use Rattle.check_laws.proofs.GoingOn.{none_fetched}
use Rattle.check_laws.proofs.KeptParts.{none_later}
use Rattle.check_laws.proofs.OneWalk.{walks_alike}
use Rattle.check_laws.specs.Keeping.{Kept}
use Rattle.capture_machine.proofs.Alike.{comes_alike, goes_alike}
use Rattle.capture_machine.proofs.AskersAlike.{StepsAlike}
use Rattle.capture_machine.proofs.AskTells.{kind_of}
use Rattle.capture_machine.proofs.AskTells.Kind.{InClear}
use Rattle.capture_machine.proofs.AskersBegin.{large_command, not_four}
use Rattle.capture_machine.proofs.AskersStep.{unowed}
use Rattle.capture_machine.proofs.SentFacts.{large_free, large_kind}
use Rattle.capture_machine.proofs.ShownAlike.{opens_alike}
use Rattle.capture_machine.specs.CapturedRequests.{is_later, owes, without_owed}
use Rattle.capture_machine.specs.Difference.{AreRepliesApart, ComesApart, GoesApart, RepliesApart, Why, asks_out_of_turn, comes_why, finish_in, goes_why, is_apart, is_finish_apart, is_other_type, replies_out_of_turn, request_why, verify_size}
use Rattle.capture_machine.specs.Difference.Why.{BadPacket, WrongTurn, BadRequest, BadRecord}
use Rattle.capture_machine.specs.LargeRequests.{first_piece}
use Rattle.capture_machine.specs.Opening.{opens_asking}
use Rattle.capture_machine.specs.Rounds.{Dialogue, Round, no_draw}
use Rattle.world_machine.specs.Setup.{known_of}
use Rattle.check_laws.specs.Large.Sending.{Ack, Beginning, MayBegin, Sending, asked_of, begun_with, behind, dialogue_of, handle_of, is_upon_clear, number_of, requester_of, shown_by}
use Rattle.check_laws.specs.Large.Sending.Beginning.{ByCommand, ByItself}
use Rattle.check_laws.specs.Large.SendingLaws.{SendingTellsApart, SendingTellsWhy, aside, without_due}
use Rattle.check_laws.proofs.Large.Asked.{bare_is}
use Rattle.check_laws.proofs.Large.Histories.{shown_waits}

-- ---- Sessions.

dead : (s : Steps) → is_live s ≡ false → is_accepted s ≡ false
dead [] e = refl
dead (x ∷ s) e = absurd (false≢true (sym e))

started : (id : ℕ) (n : Negotiation) (x : ExchangeMessage) (s : Steps) (b : Bool) → (b ≡ true → is_live s ≡ false) → StepsAlike (cond b (Started n (canonical_request (PskExchange x)) ∷ []) s) s
started id n x s true free = inr (refl, dead s (free refl))
started id n x s false free = inl refl

open_stays : (q : ReqSetup) (h : History) (f : Free) (summary id : ℕ) (a : RequestMessage) (s : Sent) → IsAllowed q h f → asks false q h (Open summary) f no_draw ≡ Adds (Told (Open summary) s no_draw) → exchange_for q f summary ≡ a
    → StepsAlike (begun id (negotiation_of h) (Some a) (session_of id h)) (session_of id h)
open_stays q h f summary id a s fits adds is =
    let room : live_count h ≢ 4 = not_four (live_count h) (test_is_false false q h (Open summary) f (asked false q h (Open summary) f no_draw (Told (Open summary) s no_draw) adds).0 4) in
    let free : (f.id == id) ≡ true → is_live (session_of id h) ≡ false = λ same. subst (λ (n : ℕ). is_live (session_of n h) ≡ false) (eqb-true f.id id same) (fits.unused room) in
    let P : RequestMessage → Type 0 = λ x. StepsAlike (begun id (negotiation_of h) (Some x) (session_of id h)) (session_of id h) in
    subst P is (started id (negotiation_of h) _ (session_of id h) (f.id == id) free)

-- The command that begins a large request changes no session that has an answer.
command_stays : (q : ReqSetup) (h : History) (f : Free) (c : Command) (id : ℕ) (a : RequestMessage) (s : Sent) → IsAllowed q h f → asks false q h c f no_draw ≡ Adds (Told c s no_draw) → kind_of q h f c ≡ InClear a
    → (whole : List ℕ) → is_connect c ≡ false → StepsAlike (session_of id (Told c (first_piece h a whole) no_draw ∷ h)) (session_of id h)
unfolding session_of
command_stays q h f Connect id a s fits adds is whole not = absurd (false≢true (sym not))
command_stays q h f (Open summary) id a s fits adds is whole not = open_stays q h f summary id a s fits adds (cc)
command_stays q h f (Send of bytes) id a s fits adds is whole not = inl refl
command_stays q h f (Beat of) id a s fits adds is whole not = inl refl
command_stays q h f (Update of all) id a s fits adds is whole not = inl refl
command_stays q h f (Measure o op) id a s fits adds is whole not = inl refl
command_stays q h f (End of) id a s fits adds is whole not = inl refl
command_stays q h f Retry id a s fits adds is whole not = inl refl

-- A first chunk that was owed changes none.
upon_steps : (id : ℕ) (h : History) (x : Sent) (a : RequestMessage) (handle number : ℕ) → is_upon_clear h ≡ true → outstanding h ≡ None → x.aim ≡ ByChunks a handle number → session_of id (with_next (Some x) h) ≡ session_of id h
unfolding session_of
upon_steps id (TookClear tag m led d ∷ h) x a handle number is none aim =
    let after : Steps = after_clear id led.effect (session_of id h) in
    ap (λ (y : Aim). with_aim id y x.content after) aim ∙ sym (ap (λ (o : Option Sent). with_sent id o after) none)
upon_steps id [] x a handle number is none aim = absurd (false≢true is)
upon_steps id (Told c s d ∷ h) x a handle number is none aim = absurd (false≢true is)
upon_steps id (TookRecord tag of sealed inner led d ∷ h) x a handle number is none aim = absurd (false≢true is)

begun_steps : (k : Kept) (b : Beginning) (whole : List ℕ) (id : ℕ) → MayBegin k b → StepsAlike (session_of id (begun_with k b whole)) (session_of id k.requester)
begun_steps k (ByCommand c a) whole id may =
    let some = may.1 in
    let f : Free = some.1.0 in
    command_stays k.setup k.requester f c id a some.0 some.1.1 some.1.2 (large_kind k.setup k.requester f c some.0 a some.1.2 some.3) whole (large_command k.setup k.requester f c some.0 some.1.2 some.2)
begun_steps k (ByItself a) whole id may =
    inl (upon_steps id k.requester (first_piece k.requester a whole) a (next_handle k.requester) 0 may.2 may.3 refl)

behind_steps : (id : ℕ) (a : RequestMessage) (whole : List ℕ) (handle : ℕ) (acks : List Ack) (h : History) → session_of id (behind a whole handle acks h) ≡ session_of id h
unfolding session_of
behind_steps id a whole handle [] h = refl
behind_steps id a whole handle (ack ∷ acks) h = behind_steps id a whole handle acks h

due_steps : (id : ℕ) (s : Sending) (o : Option Ack) (b : Beginning) (whole : List ℕ) → session_of id (without_due (record s { due = o }) b whole) ≡ session_of id (shown_by s b whole)
unfolding session_of
due_steps id s None b whole = refl
due_steps id s (Some ack) b whole = refl

-- Nor does anything of a large request.
pub steps_stay : (s : Sending) (b : Beginning) (whole : List ℕ) (id : ℕ) → MayBegin s.before b → StepsAlike (session_of id (without_due s b whole)) (session_of id s.before.requester)
steps_stay s b whole id may =
    let same : session_of id (without_due s b whole) ≡ session_of id (begun_with s.before b whole) =
    due_steps id s s.due b whole ∙ behind_steps id (asked_of b) whole (handle_of s) s.acks (begun_with s.before b whole) in
    subst (λ (x : Steps). StepsAlike x (session_of id s.before.requester)) (sym same) (begun_steps s.before b whole id may)

-- ---- Reasons.

-- Nothing was outstanding before it.
pub none_before : (k : Kept) (b : Beginning) → MayBegin k b → outstanding k.requester ≡ None
none_before k (ByCommand c a) may = let some = may.1 in large_free k.setup k.requester some.1.0 c some.0 no_draw some.1.2 some.2
none_before k (ByItself a) may = may.3

module _ (s : Sending) (b : Beginning) (whole : List ℕ) (may : MayBegin s.before b) (owes_is : owes (dialogue_of s b whole) ≡ is_some s.due) where
  abbrev shape : Dialogue
  shape = dialogue_of s b whole

  opens_same : (sealed : List ℕ) → opens_asking s.before.setup (session_named (without_owed shape) sealed) sealed ≡ opens_asking s.before.setup (session_named (without_owed (aside s)) sealed) sealed
  opens_same sealed =
      let not : owes (aside s) ≡ false = ap (is_later (Some s.round)) (none_before s.before b may) ∙ none_later (Some s.round) in
      ap (λ (h : History). opens_asking s.before.setup (session_named h sealed) sealed) (bare_is s b whole owes_is)
      ∙ opens_alike s.before.setup (without_due s b whole) s.before.requester sealed (λ id. steps_stay s b whole id may)
      ∙ sym (ap (λ (h : History). opens_asking s.before.setup (session_named h sealed) sealed) (unowed (aside s) not))

  comes_aside : (g : Gathered) → comes_why shape g ≡ comes_why (aside s) g
  comes_aside (Whole route body) =
      let why : request_why shape body ≡ request_why (aside s) body = ap (λ (x : Bool). cond (body_type body == 5 || x) BadRequest BadRecord) (opens_same (drop 1 body)) in
      ap (λ (y : Why). Some (cond (is_other_type body) BadPacket (cond (asks_out_of_turn (aside s) route.owner route.tag body) WrongTurn y))) why
  comes_aside More = refl
  comes_aside (Dropped cause) = refl

  goes_aside : (r : RspSetup) (g : Gathered) → goes_why r shape g ≡ goes_why r (aside s) g
  goes_aside r (Whole route body) = refl
  goes_aside r More = refl
  goes_aside r (Dropped cause) = refl

pub sending_tells_why : SendingTellsWhy
sending_tells_why w q older s d g own walk =
    let b : Beginning = own.begins.0 in
    let v : List ℕ = own.stands.0 in
    let one = own.all b v own.begins.1 own.stands.1 in
    let form : Dialogue = dialogue_of s b v in
    let a = (walks_alike w q older d form walk one.0).alike in
    let r : RspSetup = towards w.responder (known_of q) in
    (comes_alike d form g a ∙ comes_aside s b v own.begins.1 one.1 g, goes_alike r d form g a ∙ goes_aside s b v own.begins.1 one.1 r g)

-- ---- Verify data.

finish_chunk : (x : Sent) (a : RequestMessage) (handle number : ℕ) → x.aim ≡ ByChunks a handle number → finish_in (Some x) ≡ None
finish_chunk x a handle number aim =
    let P : Aim → Type 0 = λ y. finish_in (Some (record x { aim = y })) ≡ None in
    subst P (sym aim) refl

finish_by : (s : Sending) (o : Option Ack) (b : Beginning) (whole : List ℕ) → MayBegin s.before b → finish_in (outstanding (requester_of (record s { due = o }) b whole)) ≡ None
finish_by s None b whole may =
    let one = shown_waits s b whole may in
    ap finish_in one.waits ∙ finish_chunk one.sent (asked_of b) (handle_of s) (number_of s) one.aim
finish_by s (Some ack) b whole may = refl

none_apart : (d : Dialogue) (g : Gathered) → finish_in (outstanding d.requester) ≡ None → ComesApart d g → ⊥
none_apart d (Whole route body) none c =
    let apart = and_second (body_type body == 6 && owes d) (is_finish_apart d (drop 1 body) (finish_in (outstanding d.requester))) c.1 in
    false≢true (ap (is_finish_apart d (drop 1 body)) (sym none) ∙ apart)
none_apart d More none c = c
none_apart d (Dropped cause) none c = c

module _ (r : RspSetup) (d e : Dialogue) (same : d.round ≡ e.round) (responder : d.responder ≡ e.responder) (none : d.fetching ≡ None) (less : e.fetching ≡ None) where
  replies_moved : (round : Round) (answer : List ℕ) → RepliesApart r d round answer → RepliesApart r e round answer
  replies_moved round answer c = (
    c.0,
    c.1,
    c.2,
    answers_on r d e round c.0 c.1 c.2 responder (none ∙ sym less) c.3,
    c.4,
    ap (λ (h : responder_history.History). is_apart (verify_size (record d { responder = h })) c.0 answer) (sym responder) ∙ c.5,
  )

  either_moved : (o : Option Round) (answer : List ℕ) → AreRepliesApart r d o answer → AreRepliesApart r e o answer
  either_moved None answer c = absurd c
  either_moved (Some round) answer (inl c) = inl (replies_moved round answer c)
  either_moved (Some round) answer (inr c) = absurd (none-some c.0 (sym none ∙ c.4))

  goes_moved : (g : Gathered) → GoesApart r d g → GoesApart r e g
  goes_moved (Whole route body) c = (
    ap (λ (o : Option Round). replies_out_of_turn (record d { round = o }) route.owner route.tag) (sym same) ∙ c.0,
    subst (λ (o : Option Round). AreRepliesApart r e o body) same (either_moved d.round body c.1),
  )
  goes_moved More c = absurd c
  goes_moved (Dropped cause) c = absurd c

pub sending_tells_apart : SendingTellsApart
sending_tells_apart w q older s d g own walk =
    let one = own.each d walk in
    let b : Beginning = own.begins.0 in
    let v : List ℕ = own.stands.0 in
    let form : Dialogue = dialogue_of s b v in
    let a = (walks_alike w q older d form walk (own.all b v own.begins.1 own.stands.1).0).alike in
    let r : RspSetup = towards w.responder (known_of q) in
    let unfetched : d.fetching ≡ None = none_fetched d.fetching None a.fetches refl in (
      none_apart d g (ap finish_in one.4.waits ∙ finish_by s s.due one.0 one.1 one.2),
      (goes_moved r d (aside s) a.round a.responder unfetched refl g, goes_moved r (aside s) d (sym a.round) (sym a.responder) refl unfetched g),
    )
