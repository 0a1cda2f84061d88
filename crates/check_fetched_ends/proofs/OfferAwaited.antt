-- While a requester awaits the answer to NEGOTIATE_ALGORITHMS, whole in one message, no answer that was given before makes it ask for
-- a chunk: the request is new at the responder, or its answers were heard and left the requester as it was.
use Rattle.std.proofs.Common.{◌≡◌, ◌==◌, ◌&&◌, ◌+◌, ◌-◌, ◌≤◌, ◌∙◌, ◌⊎◌, ◌++◌, ℕ, List, [], ◌∷◌, refl, sym, ap, subst, drop, length, arith, Bool, true, false, Option, Some, None, Result, Ok, Err, is_some, cond, inl, inr, eq-eqb, eqb-true}
use Rattle.std.specs.Prelude.{MatchBool, bytes_eq, not, slice_index}
use Rattle.std.proofs.lemmas.Bool.{false≢true, not-false}
use Rattle.std.proofs.lemmas.Option.{none-some, same_Some}
use Rattle.check_laws.proofs.OneWalk.{walks_alike}
use Rattle.check_laws.specs.Order.{is_answer, is_request}
use Rattle.check_laws.specs.RepliesShown.{no_values}
use Rattle.check_laws.specs.Walks.{StepsBy, StepsTo, Walks}
use Rattle.check_fetched_laws.proofs.GetAnswers.{heard_so}
use Rattle.check_fetched_laws.proofs.GetSteps.{tag_next}
use Rattle.check_fetched_laws.proofs.WalksSound.{walks_sound}
use Rattle.check_late_laws.proofs.Late.CapsAsked.{AllAsk, AsksSo, IsFor, whole_caps}
use Rattle.check_late_laws.proofs.Late.CapsTurns.{Settling, turn_settles}
use Rattle.check_late_laws.proofs.Late.CapsTurns.Settling.{Renews, Tells, Stays}
use Rattle.check_fetched_ends.proofs.LateShown.{same_form}
use Rattle.check_fetched_ends.proofs.LeftSame.{outcome_fetching}
use Rattle.check_fetched_ends.proofs.OfferKept.{IsSameKept, NoneUnder, answers_none, kept_at, plain_same}
use Rattle.check_fetched_ends.proofs.SameChunks.{Agrees, walks_agree}
use Rattle.mctp_framing.specs.Gathering.{Gathered}
use Rattle.mctp_framing.specs.Gathering.Gathered.{Whole, More, Dropped}
use Rattle.mctp_framing.specs.Packet.{PacketFields, parsed}
use Rattle.requester_machine.proofs.ClearLeads.{ClearLeads, clear_leads}
use Rattle.requester_machine.proofs.ClearLeads.ClearLeads.{ByRefusal, ByLarge, BySend, ByGet, ByStop, ByVersion, ByCaps, ByChoice, ByMeasured, ByExchange}
use Rattle.requester_machine.proofs.Entries.{asked}
use Rattle.requester_machine.proofs.Heard.{heard}
use Rattle.requester_machine.proofs.RecordLeads.{RecordLeads, record_leads}
use Rattle.requester_machine.proofs.RecordLeads.RecordLeads.{ByEnd, ByAnswer, ByUpdate, ByFirst, ByChunk}
use Rattle.requester_machine.proofs.ResponseLengths.{capabilities_long}
use Rattle.requester_machine.specs.Asking.Outcome.{Adds}
use Rattle.requester_machine.specs.InnerMessages.{Came}
use Rattle.requester_machine.specs.Commands.{Free}
use Rattle.requester_machine.specs.Hearing.{came_to, hears}
use Rattle.requester_machine.specs.History.{Entry, History, Led, begins_large, connection_terms, outstanding, phase_of, sent_in}
use Rattle.requester_machine.specs.History.Entry.{Told, TookClear, TookRecord}
use Rattle.requester_machine.specs.Message.{Aim, Ask, Command, Content, Sent, asked_in, body_of}
use Rattle.requester_machine.specs.Message.Aim.{Plain, ByChunks, ForChunk, InSession}
use Rattle.requester_machine.specs.Message.Command.{Connect, Open, Send, Beat, Update, Measure, End, Retry}
use Rattle.requester_machine.specs.Owed.{with_next}
use Rattle.requester_machine.specs.Setup.{ReqSetup}
use Rattle.requester_machine.specs.Shown.{after}
use Rattle.requester_machine.specs.UnderWay.{is_capable}
use Rattle.responder_machine.specs.History as responder_history
use Rattle.responder_machine.specs.History.{kept_of}
use Rattle.responder_machine.specs.Responder.{is_repeat, kept_reply}
use Rattle.spdm_basis.specs.declared.PacketFault.{PacketFault}
use Rattle.spdm_grammar.specs.Message.{RequestMessage}
use Rattle.spdm_grammar.specs.Message.RequestMessage.{GetCapabilities, NegotiateAlgorithms}
use Rattle.spdm_grammar.specs.declared.messages.capabilities.Caps.{Caps}
use Rattle.spdm_machine.specs.Bodies.{clear_body}
use Rattle.spdm_machine.specs.Packets.{gathered_from}
use Rattle.spdm_machine.specs.Terms.{hash_len}
use Rattle.capture_machine.proofs.AskTells.{IsSent, kind_of, sent_by_kind}
use Rattle.capture_machine.proofs.AskersAlike.{AskersAlike}
use Rattle.capture_machine.proofs.AskersAlike.AskersAlike.{Settled, Owing, Shown, Due}
use Rattle.capture_machine.proofs.HeardNext.{heard_next, other_tag}
use Rattle.check_late_laws.proofs.Late.WalksAnew.{kept_large}
use Rattle.requester_machine.specs.Bodies.{has_tag}
use Rattle.responder_machine.proofs.Making.{turn_message}
use Rattle.responder_machine.specs.Handling.{turn_of}
use Rattle.responder_machine.specs.History.{clear_turns}
use Rattle.responder_machine.specs.History.Entry.{Clear}
use Rattle.responder_machine.specs.May.{with_dropped}
use Rattle.responder_machine.specs.Place.{clear_place}
use Rattle.responder_machine.specs.Refusal.{code_of}
use Rattle.responder_machine.specs.Responder as responder
use Rattle.responder_machine.specs.Responder.Outcome.{Adds as RespAdds, Same as RespSame}
use Rattle.responder_machine.specs.Setup.{RspSetup, towards}
use Rattle.responder_machine.specs.Turn.{Effect, Turn, handle_in, is_taken}
use Rattle.spdm_grammar.specs.Message.RequestMessage.{GetVersion}
use Rattle.spdm_grammar.specs.Requests.{canonical_request}
use Rattle.spdm_grammar.specs.declared.names.request_code.TheConstants.{GET_CAPABILITIES}
use Rattle.spdm_grammar.specs.declared.told.phase.Phase.{Phase}
use Rattle.std.proofs.lemmas.Slice.Eq.{bytes_eq-Decides}
use Rattle.capture_machine.proofs.Agrees.{Agree}
use Rattle.capture_machine.proofs.AskersHear.{next_later}
use Rattle.capture_machine.proofs.DropsTell.{clear_form, kept_same}
use Rattle.capture_machine.proofs.FetchBegins.{large_leaves}
use Rattle.capture_machine.proofs.Fetching.{IsSound}
use Rattle.capture_machine.proofs.GetTells.{IsIdle, turn_idle}
use Rattle.capture_machine.proofs.HearsAlike.{hears_alike}
use Rattle.capture_machine.proofs.PlainTells.{led_clear}
use Rattle.capture_machine.specs.CapturedAnswers.{Answers, Hears, HearsWhile, MayLeadTo}
use Rattle.capture_machine.specs.Capture.{AsksBy, Begins, Copies, Replies, RepliesBy}
use Rattle.capture_machine.specs.CapturedRequests.{Sends, owes, is_later, without_owed}
use Rattle.capture_machine.specs.LargeAnswers.{is_fetching, is_for_chunk, is_large, judging, place_named, repeats_large, unseen}
use Rattle.capture_machine.specs.LargeRequests.{first_piece, piece_with, with_ack, with_ack_to, with_next_piece}
use Rattle.capture_machine.specs.Rounds.{Dialogue, Round, following_tag, new_dialogue, new_round, no_draw}
use Rattle.world_machine.specs.Setup.{Configuration, known_of}

-- NEGOTIATE_ALGORITHMS, whole in one message.
abbrev pub IsOffer : Aim → Type 0
IsOffer (Plain (NegotiateAlgorithms offer)) = Unit {0}
IsOffer _ = ⊥

-- The requester asks for a chunk in response to this reply, under this tag.
abbrev pub Asks : ReqSetup → History → ℕ → List ℕ → Type 0
Asks q h tag reply = is_fetching (outstanding (after h (hears q h false tag (clear_body reply) no_values no_draw))) ≡ true

-- While it is owed, nothing under its tag is a repeat at the responder; and once it was sent, where a repeat of it gets
-- LargeResponse for an answer that was not seen, the requester asks for no chunk in response to that.
pub record OfferStands (d : Dialogue) : Type 0 where
  pub later : (s : Sent) → outstanding d.requester ≡ Some s → IsOffer s.aim → (rd : Round) → d.round ≡ Some rd → (s.tag == rd.tag) ≡ false → NoneUnder d.responder s.tag
  pub sent : (s : Sent) → outstanding d.requester ≡ Some s → IsOffer s.aim → (rd : Round) → d.round ≡ Some rd → (s.tag == rd.tag) ≡ true
      → is_repeat (kept_of d.responder) rd.tag (drop 1 rd.body) ≡ true → repeats_large None d.responder ≡ true → Asks d.setup d.requester rd.tag (kept_reply (kept_of d.responder)) → ⊥

-- ---- A request.

-- No command sends it.
told_none : (q : ReqSetup) (h : History) (f : Free) (c : Command) (s : Sent) → IsSent q h f (kind_of q h f c) s → begins_large s.aim ≡ false → IsOffer s.aim → ⊥
told_none q h f Connect s kind small is = subst (λ (x : Sent). IsOffer x.aim) (kind.0 small) is
told_none q h f (Open summary) s kind small is = subst (λ (x : Sent). IsOffer x.aim) (kind.0 small) is
told_none q h f (Send id bytes) s kind small is = subst (λ (x : Sent). IsOffer x.aim) kind is
told_none q h f (Beat id) s kind small is = subst (λ (x : Sent). IsOffer x.aim) kind is
told_none q h f (Update id all) s kind small is = subst (λ (x : Sent). IsOffer x.aim) kind is
told_none q h f (Measure None op) s kind small is = subst (λ (x : Sent). IsOffer x.aim) (kind.0 small) is
told_none q h f (Measure (Some id) op) s kind small is = subst (λ (x : Sent). IsOffer x.aim) kind is
told_none q h f (End id) s kind small is = subst (λ (x : Sent). IsOffer x.aim) kind is
told_none q h f Retry s kind small is = absurd kind

large_not : (aim : Aim) → begins_large aim ≡ true → IsOffer aim → ⊥
large_not (Plain a) large is = false≢true large
large_not (ByChunks a handle number) large is = is
large_not (ForChunk a handle number before) large is = is
large_not (InSession id ask) large is = is

pub next_is : (h : History) (x s : Sent) → outstanding (with_next (Some x) h) ≡ Some s → (x ≡ s) ⊎ (outstanding h ≡ Some s)
next_is [] x s is = inr is
next_is (Told c y d ∷ h) x s is = inr is
next_is (TookClear tag m led d ∷ h) x s is = inl (same_Some x s is)
next_is (TookRecord tag id sealed inner led d ∷ h) x s is = inl (same_Some x s is)

-- So it was owed.
begun_owed : (d : Dialogue) (body : List ℕ) (next : History) (sending : Option (List ℕ)) → Sends d body next sending → (s : Sent) → outstanding next ≡ Some s → IsOffer s.aim → (outstanding d.requester ≡ Some s) × (owes d ≡ true)
unfolding Sends
begun_owed d body next sending (inl (inl connects, none)) s waits is =
    let same : connects.0 ≡ s = same_Some connects.0 s (sym (ap outstanding connects.4) ∙ waits) in
    let kind = sent_by_kind d.setup (without_owed d) connects.1.0 Connect connects.0 no_draw (asked false d.setup (without_owed d) Connect connects.1.0 no_draw (Told Connect connects.0 no_draw) connects.1.2).1 in
    absurd (told_none d.setup (without_owed d) connects.1.0 Connect connects.0 kind connects.2 (subst (λ (x : Sent). IsOffer x.aim) (sym same) is))
begun_owed d body next sending (inl (inr commands, none)) s waits is =
    let t = commands.2 in
    let same : t.0 ≡ s = same_Some t.0 s (sym (ap outstanding t.4) ∙ waits) in
    let kind = sent_by_kind d.setup d.requester t.1.0 commands.0 t.0 no_draw (asked false d.setup d.requester commands.0 t.1.0 no_draw (Told commands.0 t.0 no_draw) t.1.2).1 in
    absurd (told_none d.setup d.requester t.1.0 commands.0 t.0 kind t.2 (subst (λ (x : Sent). IsOffer x.aim) (sym same) is))
begun_owed d body next sending (inr (inl goes)) s waits is = (ap outstanding (sym goes.5) ∙ waits, goes.1.1)
begun_owed d body next sending (inr (inr (whole, inl large, at))) s waits is =
    let same : first_piece d.requester large.2 whole ≡ s = same_Some (first_piece d.requester large.2 whole) s (sym (ap outstanding large.8) ∙ waits) in
    absurd (subst (λ (x : Sent). IsOffer x.aim) (sym same) is)
begun_owed d body next sending (inr (inr (whole, inr owed, at))) s waits is =
    elim (next_is d.requester (first_piece (without_owed d) owed.1 whole) s (sym (ap outstanding owed.7) ∙ waits)) [
      | inl same ↦ absurd (subst (λ (x : Sent). IsOffer x.aim) (sym same) is)
      | inr old ↦ let same : owed.0 ≡ s = same_Some owed.0 s (sym owed.2.0 ∙ old) in absurd (large_not s.aim (ap (λ (x : Sent). begins_large x.aim) (sym same) ∙ owed.3) is)
    ]

pub not_later : (o : Option Round) (s : Sent) → is_later o (Some s) ≡ true → (rd : Round) × (o ≡ Some rd) × ((s.tag == rd.tag) ≡ false)
not_later None s is = absurd (false≢true is)
not_later (Some rd) s is = (rd, refl, by_tag (s.tag == rd.tag) is)
  where
    by_tag : (b : Bool) → not b ≡ true → b ≡ false
    by_tag true bad = absurd (false≢true bad)
    by_tag false bad = refl

copies_stand : (d : Dialogue) (tag : ℕ) (body : List ℕ) (next : Dialogue) → OfferStands d → Copies d tag body next → OfferStands next
copies_stand d tag body next all c =
    let again : Round = record c.0 { waiting = c.0.waiting + 1 } in
    subst OfferStands (sym c.4) (record {
      later = λ s waits is rd at other. all.later s waits is c.0 c.1 (ap (λ (x : Round). s.tag == x.tag) (same_Some again rd at) ∙ other);
      sent = λ s waits is rd at tagged repeats large asks.
          let same = same_Some again rd at in
          all.sent s waits is c.0 c.1 (ap (λ (x : Round). s.tag == x.tag) same ∙ tagged) (ap (λ (x : Round). is_repeat (kept_of d.responder) x.tag (drop 1 x.body)) same ∙ repeats) large
          (ap (λ (x : Round). is_fetching (outstanding (after d.requester (hears d.setup d.requester false x.tag (clear_body (kept_reply (kept_of d.responder))) no_values no_draw)))) same ∙ asks);
    })

begun_stand : (d : Dialogue) (tag : ℕ) (body : List ℕ) (next : Dialogue) → OfferStands d → Begins d tag body next → OfferStands next
begun_stand d tag body next all b =
    subst OfferStands (sym b.2.3) (record {
      later = λ s waits is rd at other. under s waits is;
      sent = λ s waits is rd at tagged repeats large asks.
          let same : s.tag ≡ rd.tag = eqb-true s.tag rd.tag tagged in
          false≢true (sym (under s waits is (drop 1 rd.body)) ∙ ap (λ (n : ℕ). is_repeat (kept_of d.responder) n (drop 1 rd.body)) same ∙ repeats);
    })
  where
    under : (s : Sent) → outstanding b.2.0 ≡ Some s → IsOffer s.aim → NoneUnder d.responder s.tag
    under s waits is =
        let owed = begun_owed d body b.2.0 b.2.1 b.2.2 s waits is in
        let there = not_later d.round s (ap (is_later d.round) (sym owed.0) ∙ owed.1) in
        all.later s owed.0 is there.0 there.1 there.2

pub asks_stand : (d : Dialogue) (g : Gathered) (next : Dialogue) → OfferStands d → AsksBy d g next → OfferStands next
asks_stand d (Whole route body) next all asks = elim asks.2 [ inl copies ↦ copies_stand d route.tag body next all copies | inr begins ↦ begun_stand d route.tag body next all begins ]
asks_stand d More next all asks = subst OfferStands (sym asks) all
asks_stand d (Dropped cause) next all asks = absurd asks

-- ---- What is heard.

-- While it is awaited no large request is sent.
offer_alone : (round : Option Round) (h g : History) (sd se : Option (List ℕ)) → AskersAlike round h g sd se → (s : Sent) → outstanding h ≡ Some s → IsOffer s.aim → sd ≡ None
offer_alone round _ _ _ _ (Settled h g agree not at) s waits is = refl
offer_alone round _ _ _ _ (Owing e f h g x t agree alike out sent like tagged else later at) s waits is = refl
offer_alone round _ _ _ _ (Shown h g w v a b handle number x t u own wait aims aim tags not at) s waits is =
    absurd (subst IsOffer (ap (λ (y : Sent). y.aim) (same_Some s x (sym waits ∙ own)) ∙ aims) is)
offer_alone round _ _ _ _ (Due tag m h g w v a b handle number u still at) s waits is =
    absurd (subst (λ (y : Sent). IsOffer y.aim) (same_Some s (piece_with h a w handle (number + 1)) (sym waits)) is)

-- It agrees with itself where nothing is owed.
pub own_agree : (round : Option Round) (h g : History) (sd se : Option (List ℕ)) → AskersAlike round h g sd se → is_later round (outstanding h) ≡ false → sd ≡ None → Agree h g
own_agree round _ _ _ _ (Settled h g agree not at) rests none = agree
own_agree round _ _ _ _ (Owing e f h g s t agree alike out sent like tagged else later at) rests none = absurd (false≢true (sym rests ∙ ap (is_later round) out ∙ later))
own_agree round _ _ _ _ (Shown h g w v a b handle number s t u waits wait aims aim tags not at) rests none = absurd (none-some w (sym none))
own_agree round _ _ _ _ (Due tag m h g w v a b handle number u still at) rests none = absurd (none-some w (sym none))

-- What is sent on an acknowledgement is another chunk.
acked_by : (whole : List ℕ) (tag : ℕ) (m : List ℕ) (h : History) (aim : Aim) (s : Sent) → outstanding (with_next_piece whole tag m h aim) ≡ Some s → IsOffer s.aim → outstanding h ≡ Some s
acked_by whole tag m h (ByChunks a handle number) s waits is = absurd (subst (λ (y : Sent). IsOffer y.aim) (same_Some s (piece_with h a whole handle (number + 1)) (sym waits)) is)
acked_by whole tag m h (Plain a) s waits is = waits
acked_by whole tag m h (ForChunk a handle number before) s waits is = waits
acked_by whole tag m h (InSession id ask) s waits is = waits

acked_to : (whole : List ℕ) (tag : ℕ) (m : List ℕ) (h : History) (o : Option Sent) (s : Sent) → outstanding (with_ack_to whole tag m h o) ≡ Some s → IsOffer s.aim → outstanding h ≡ Some s
acked_to whole tag m h None s waits is = waits
acked_to whole tag m h (Some x) s waits is = acked_by whole tag m h x.aim s waits is

acked_if : (whole : List ℕ) (tag : ℕ) (m : List ℕ) (h : History) (b : Bool) (s : Sent) → outstanding (cond b (with_ack_to whole tag m h (outstanding h)) h) ≡ Some s → IsOffer s.aim → outstanding h ≡ Some s
acked_if whole tag m h true s waits is = acked_to whole tag m h (outstanding h) s waits is
acked_if whole tag m h false s waits is = waits

-- It is sent on CAPABILITIES.
pub record IsTold (h : History) (tag : ℕ) (answer : List ℕ) : Type 0 where
  pub sent : Sent
  pub waits : outstanding h ≡ Some sent
  pub tagged : (sent.tag == tag) ≡ true
  pub caps : Caps
  pub aims : sent.aim ≡ Plain (GetCapabilities caps)
  pub long : length (drop 1 answer) ≡ 20

no_offer : (P : Type 0) (o : Option Sent) (x : Sent) → o ≡ Some x → (IsOffer x.aim → ⊥) → (s : Sent) → o ≡ Some s → IsOffer s.aim → P
no_offer P o x here none s waits is = absurd (none (subst (λ (y : Sent). IsOffer y.aim) (same_Some s x (sym waits ∙ here)) is))

no_sent : (P : Type 0) (o : Option Sent) → o ≡ None → (s : Sent) → o ≡ Some s → P
no_sent P o none s waits = absurd (none-some s (sym none ∙ waits))

module _ (q : ReqSetup) (h : History) (f : Free) (tag : ℕ) (answer : List ℕ) (x : Sent) (waits : outstanding h ≡ Some x) (tagged : (x.tag == tag) ≡ true) (own : AllAsk h) where
  abbrev next_by : (led : Led) → Option Sent
  next_by led = led.next

  clear_told : (a : RequestMessage) (led : Led) → asked_in x.aim ≡ Some a → ClearLeads q h f x.aim (drop 1 answer) a led → (s : Sent) → led.next ≡ Some s → IsOffer s.aim → IsTold h tag answer
  clear_told a led asks (ByRefusal code is) s here offer = no_sent (IsTold h tag answer) led.next (ap (λ (l : Led). l.next) is) s here
  clear_told a led asks (ByLarge handle may is) s here offer = no_offer (IsTold h tag answer) led.next _ (ap (λ (l : Led). l.next) is) (λ bad. bad) s here offer
  clear_told a led asks (BySend handle number aims more is) s here offer = no_offer (IsTold h tag answer) led.next _ (ap (λ (l : Led). l.next) is) (λ bad. bad) s here offer
  clear_told a led asks (ByGet handle number before c aims none more is) s here offer = no_offer (IsTold h tag answer) led.next _ (ap (λ (l : Led). l.next) is) (λ bad. bad) s here offer
  clear_told a led asks (ByStop why may is) s here offer = no_sent (IsTold h tag answer) led.next (ap (λ (l : Led). l.next) is) s here
  clear_told a led asks (ByVersion whole was is) s here offer = no_offer (IsTold h tag answer) led.next _ (ap (λ (l : Led). l.next) is) (λ bad. bad) s here offer
  clear_told a led asks (ByCaps caps theirs whole common offered was read settled offers short is) s here offer =
      let parts = whole_caps q h (is_capable (phase_of h)) x.aim (drop 1 answer) caps whole read.place (asks ∙ ap (λ (y : RequestMessage). Some y) was) (own x waits).asks read.whole in
      record { sent = x; waits = waits; tagged = tagged; caps = caps; aims = parts.0; long = ap (λ (l : List ℕ). length l) (sym parts.1) ∙ capabilities_long (hash_len (connection_terms h)) whole theirs read.reads }
  clear_told a led asks (ByChoice offered whole was is) s here offer = no_sent (IsTold h tag answer) led.next (ap (λ (l : Led). l.next) is) s here
  clear_told a led asks (ByMeasured op whole finish was is) s here offer = no_sent (IsTold h tag answer) led.next (ap (λ (l : Led). l.next) is) s here
  clear_told a led asks (ByExchange exchange whole rsp was read right is) s here offer = no_offer (IsTold h tag answer) led.next _ (ap (λ (l : Led). l.next) is) (λ bad. bad) s here offer

record_none : (q : ReqSetup) (h : History) (f : Free) (came : Came) (ask : Ask) (led : Led) → RecordLeads q h f came ask led → (s : Sent) → led.next ≡ Some s → IsOffer s.aim → ⊥
record_none q h f came ask led (ByEnd ends none) s here offer = no_sent ⊥ led.next none s here
record_none q h f came ask led (ByAnswer ends updates brings none) s here offer = no_sent ⊥ led.next none s here
record_none q h f came ask led (ByUpdate all asks is) s here offer = no_offer ⊥ led.next _ (ap (λ (l : Led). l.next) is) (λ bad. bad) s here offer
record_none q h f came ask led (ByFirst op handle follows is) s here offer = no_offer ⊥ led.next _ (ap (λ (l : Led). l.next) is) (λ bad. bad) s here offer
record_none q h f came ask led (ByChunk op handle number before c asks none last is) s here offer = no_offer ⊥ led.next _ (ap (λ (l : Led). l.next) is) (λ bad. bad) s here offer

longer : (h : History) (e : Entry) → e ∷ h ≡ h → ⊥
longer h e is = absurd (let n = ap (λ (l : History). length l) is in omega (arith, n))

-- What is heard has the tag of what was sent.
pub heard_tag : (q : ReqSetup) (h : History) (f : Free) (tag : ℕ) (answer : List ℕ) (entry : Entry) (x : Sent) → hears q h false tag answer f no_draw ≡ Adds entry → outstanding h ≡ Some x → (b : Bool) → (x.tag == tag) ≡ b → b ≡ true
heard_tag q h f tag answer entry x adds waits true is = refl
heard_tag q h f tag answer entry x adds waits false is = absurd (longer h entry (ap (after h) (sym adds) ∙ other_tag q h x f tag answer no_draw waits is))

heard_offer : (q : ReqSetup) (h : History) (f : Free) (tag : ℕ) (answer : List ℕ) (entry : Entry) → AllAsk h → hears q h false tag answer f no_draw ≡ Adds entry → (s : Sent) → sent_in entry ≡ Some s → IsOffer s.aim → IsTold h tag answer
heard_offer q h f tag answer entry own adds s here offer = elim (heard q h false tag answer f no_draw entry adds) [
  | inl t ↦ clear_told q h f tag answer t.sent t.waits (heard_tag q h f tag answer entry t.sent adds t.waits (t.sent.tag == tag) refl) own t.asked t.led t.asks
      (clear_leads q h f t.sent.aim (drop 1 answer) t.asked t.led t.asks t.leads) s (sym (ap sent_in t.is) ∙ here) offer
  | inr o ↦ absurd (record_none q h f (came_to q h o.1.id o.1.ask (drop 1 answer)) o.1.ask _ (record_leads q h f (came_to q h o.1.id o.1.ask (drop 1 answer)) o.1.ask) s (sym (ap sent_in o.1.is) ∙ here) offer)
]

-- ---- An answer.

-- CAPABILITIES were taken, or their request was a repeat: it is the one that a repeat is compared with.
caps_taken : (r : RspSetup) (k h : responder_history.History) (ids : List ℕ) (tag : ℕ) (body : List ℕ) (o : responder.Outcome) → kept_of k ≡ kept_of h → (slice_index body 0 == 5) ≡ true → (code_of (drop 1 body) == GET_CAPABILITIES) ≡ true
    → length (drop 1 (responder.body_of o)) ≡ 20 → MayLeadTo r k tag body o → is_repeat (kept_of (responder.after (with_dropped h ids) o)) tag (drop 1 body) ≡ true
caps_taken r k h ids tag body o keeps type code long may =
    let led = led_clear r k tag body o type may in
    elim (clear_form r k tag (drop 1 body) led.free o led.leads) [
      | inl same ↦
          let form = same_form r k tag (drop 1 body) led.free same.0 (led.leads ∙ same.1) in
          subst (λ (x : responder.Outcome). is_repeat (kept_of (responder.after (with_dropped h ids) x)) tag (drop 1 body) ≡ true) (sym same.1)
          (ap (λ (x : Option responder_history.Kept). is_repeat x tag (drop 1 body)) (kept_same ids h ∙ sym keeps) ∙ form.0)
      | inr adds ↦
          let t : Turn = turn_of r (clear_place k) (drop 1 body) led.free in
          let twenty : length t.reply ≡ 20 = ap (λ (x : responder.Outcome). length (drop 1 (responder.body_of x))) (sym adds) ∙ long in
          subst (λ (x : responder.Outcome). is_repeat (kept_of (responder.after (with_dropped h ids) x)) tag (drop 1 body) ≡ true) (sym adds)
          (taken_repeats tag t (with_dropped h ids) (drop 1 body) (settled (responder_history.phase_of (clear_turns k)) t (turn_settles r k (drop 1 body) led.free) twenty) (turn_message r (clear_place k) (drop 1 body) led.free))
    ]
  where
    settled : (p : Phase) (t : Turn) → Settling p (drop 1 body) t → length t.reply ≡ 20 → is_taken t ≡ true
    settled p t (Renews version taken) twenty = taken
    settled p t (Tells early taken version caps asked answered whole) twenty = taken
    settled p t (Stays version caps short) twenty = absurd (let few = (short code).short in omega (arith, few, twenty))

    taken_repeats : (n : ℕ) (t : Turn) (g : responder_history.History) (m : List ℕ) → is_taken t ≡ true → t.message ≡ m → is_repeat (kept_of (Clear n t no_draw ∷ g)) n m ≡ true
    taken_repeats n t g m taken spells =
        ap (λ (b : Bool). is_repeat (cond b (Some (record { tag = n; message = t.message; reply = t.reply })) (kept_of g)) n m) taken
        ∙ ap (λ (b : Bool). b && bytes_eq t.message m) (eq-eqb n n refl) ∙ (bytes_eq-Decides t.message m).1 spells

pub kept_judging : (o : Option (List ℕ)) (body : List ℕ) (h : responder_history.History) → kept_of (judging o body h) ≡ kept_of h
kept_judging None body h = refl
kept_judging (Some whole) body h = kept_large (place_named body) whole h

-- LargeResponse is the reply of the request that it was given to.
pub large_reply : (r : RspSetup) (k h : responder_history.History) (tag : ℕ) (body : List ℕ) (e : responder_history.Entry) → (slice_index body 0 == 5) ≡ true → MayLeadTo r k tag body (RespAdds e) → is_large e ≡ true
    → clear_body (kept_reply (kept_of (unseen e ∷ h))) ≡ responder.sent_by e
large_reply r k h tag body e type may large =
    let led = led_clear r k tag body (RespAdds e) type may in
    elim (clear_form r k tag (drop 1 body) led.free (RespAdds e) led.leads) [
      | inl same ↦ absurd (let x = same.1 in cc)
      | inr adds ↦
          let t : Turn = turn_of r (clear_place k) (drop 1 body) led.free in
          let is : Clear tag t no_draw ≡ e = cc (sym adds) in
          subst (λ (x : responder_history.Entry). clear_body (kept_reply (kept_of (unseen x ∷ h))) ≡ responder.sent_by x) is (replied t (taken_by t (ap is_large is ∙ large) (turn_idle r (clear_place k) (drop 1 body) led.free) (is_taken t) refl))
    ]
  where
    taken_by : (t : Turn) → is_some (handle_in t.effect) ≡ true → IsIdle t → (b : Bool) → is_taken t ≡ b → b ≡ true
    taken_by t big idle true is = refl
    taken_by t big idle false is = absurd (false≢true (sym (ap (λ (x : Effect). is_some (handle_in x)) (idle is)) ∙ big))

    replied : (t : Turn) → is_taken t ≡ true → clear_body (kept_reply (kept_of (unseen (Clear tag t no_draw) ∷ h))) ≡ clear_body t.reply
    replied t taken = ap (λ (b : Bool). clear_body (kept_reply (cond b (Some (record { tag = tag; message = t.message; reply = t.reply })) (kept_of h)))) taken

-- The body of what is awaited.
offer_type : (aim : Aim) (c : Content) → IsOffer aim → IsFor aim c → (slice_index (body_of c) 0 == 5) ≡ true
offer_type (Plain a) c offer is = ap (λ (x : Content). slice_index (body_of x) 0 == 5) is
offer_type (ByChunks a handle number) c offer is = absurd offer
offer_type (ForChunk a handle number before) c offer is = absurd offer
offer_type (InSession id ask) c offer is = absurd offer

offer_no_fetch : (aim : Aim) → IsOffer aim → is_for_chunk aim ≡ true → ⊥
offer_no_fetch (Plain a) offer gets = false≢true gets
offer_no_fetch (ByChunks a handle number) offer gets = offer
offer_no_fetch (ForChunk a handle number before) offer gets = offer
offer_no_fetch (InSession id ask) offer gets = offer

module _ (r : RspSetup) (d : Dialogue) (round : Round) (at : d.round ≡ Some round) (askers : AskersAlike d.round d.requester d.requester d.sending d.sending) (agrees : Agrees d) (sound : IsSound d) (all : OfferStands d) (answer : List ℕ)
    (next : responder_history.History) (fetching : Option (List ℕ)) (answers : Answers r d round answer next fetching) (g : History) (hear : Hears d round.tag answer g) where
  -- Nothing is fetched meanwhile.
  none_fetched : (s : Sent) → outstanding d.requester ≡ Some s → (s.aim ≡ Plain GetVersion → ⊥) → (is_for_chunk s.aim ≡ true → ⊥) → (whole : List ℕ) → d.fetching ≡ Some whole → ⊥
  none_fetched s waits version gets whole is =
      let f = (sound.fetched whole is).2 in
      let same : f.sent ≡ s = same_Some f.sent s (sym f.waits ∙ waits) in
      elim f.stands [
        | inl one ↦ version (ap (λ (x : Sent). x.aim) (sym same) ∙ one.0)
        | inr one ↦ gets (ap (λ (x : Sent). is_for_chunk x.aim) (sym same) ∙ one.0)
      ]

  told_body : (t : IsTold d.requester round.tag answer) → round.body ≡ clear_body (canonical_request (GetCapabilities t.caps))
  told_body t = sym (agrees.body t.sent round t.waits at t.tagged) ∙ ap body_of (subst (λ (a : Aim). IsFor a t.sent.content) t.aims (agrees.asks t.sent t.waits).is)

  told_repeats : IsTold d.requester round.tag answer → is_repeat (kept_of next) round.tag (drop 1 round.body) ≡ true
  unfolding Answers
  told_repeats t = by_answer answers
    where
      type : (slice_index round.body 0 == 5) ≡ true
      type = ap (λ (l : List ℕ). slice_index l 0 == 5) (told_body t)

      code : (code_of (drop 1 round.body) == GET_CAPABILITIES) ≡ true
      code = ap (λ (l : List ℕ). code_of (drop 1 l) == GET_CAPABILITIES) (told_body t)

      by_answer : Answers r d round answer next fetching → is_repeat (kept_of next) round.tag (drop 1 round.body) ≡ true
      by_answer (inl (a, x)) =
          let k = judging d.fetching round.body d.responder in
          subst (λ (l : responder_history.History). is_repeat (kept_of l) round.tag (drop 1 round.body) ≡ true) (sym a.6)
          (caps_taken r (with_dropped k a.0) d.responder a.0 round.tag round.body a.1 (kept_same a.0 k ∙ kept_judging d.fetching round.body d.responder) type code (ap (λ (l : List ℕ). length (drop 1 l)) a.5 ∙ t.long) a.2.1)
      by_answer (inr (inl (whole, a, x))) =
          subst (λ (l : responder_history.History). is_repeat (kept_of l) round.tag (drop 1 round.body) ≡ true) (sym a.6)
          ((large_leaves r (with_dropped (judging d.fetching round.body d.responder) a.0) round.tag round.body a.1 a.2.1 a.3).again d.responder type)
      by_answer (inr (inr (inl (whole, a, x)))) =
          let led = led_clear r d.responder round.tag round.body (RespSame answer) type a.1 in
          subst (λ (l : responder_history.History). is_repeat (kept_of l) round.tag (drop 1 round.body) ≡ true) (sym a.4) (same_form r d.responder round.tag (drop 1 round.body) led.free answer led.leads).0
      by_answer (inr (inr (inr (a, x)))) =
          absurd (none_fetched t.sent t.waits (λ version. let bad = sym t.aims ∙ version in absurd (cc bad)) (λ gets. false≢true (ap is_for_chunk (sym t.aims) ∙ gets)) a.0 a.3)

  -- Where the requester is as before.
  unchanged : (s : Sent) → outstanding d.requester ≡ Some s → IsOffer s.aim → (s.tag == round.tag) ≡ true → d.sending ≡ None → g ≡ d.requester → is_repeat (kept_of next) round.tag (drop 1 round.body) ≡ true → repeats_large None next ≡ true
      → Asks d.setup d.requester round.tag (kept_reply (kept_of next)) → ⊥
  unfolding Answers Hears
  unchanged s waits offer tagged alone stays repeats large asks = by_answer answers
    where
      before : kept_of next ≡ kept_of d.responder → repeats_large None d.responder ≡ true → ⊥
      before same old =
          all.sent s waits offer round at tagged (ap (λ (x : Option responder_history.Kept). is_repeat x round.tag (drop 1 round.body)) (sym same) ∙ repeats) old
          (subst (λ (x : Option responder_history.Kept). Asks d.setup d.requester round.tag (kept_reply x)) same asks)

      type : (slice_index round.body 0 == 5) ≡ true
      type = ap (λ (l : List ℕ). slice_index l 0 == 5) (sym (agrees.body s round waits at tagged)) ∙ offer_type s.aim s.content offer (agrees.asks s waits).is

      rests : is_later d.round (outstanding d.requester) ≡ false
      rests = ap (λ (o : Option Round). is_later o (outstanding d.requester)) at ∙ ap (is_later (Some round)) waits ∙ ap not tagged

      idle : is_fetching (outstanding d.requester) ≡ false
      idle = by_fetch (is_fetching (outstanding d.requester)) refl
        where
          by_fetch : (b : Bool) → is_fetching (outstanding d.requester) ≡ b → b ≡ false
          by_fetch false is = refl
          by_fetch true is = absurd (offer_no_fetch s.aim offer (ap is_fetching (sym waits) ∙ is))

      heard_it : clear_body (kept_reply (kept_of next)) ≡ answer → ⊥
      heard_it is =
          let x = subst (λ (o : Option (List ℕ)). HearsWhile o d round.tag answer g) alone hear in
          let agree = own_agree d.round d.requester d.requester d.sending d.sending askers rests alone in
          let gets = subst (λ (l : List ℕ). is_fetching (outstanding (after d.requester (hears d.setup d.requester false round.tag l no_values no_draw))) ≡ true) is asks in
          let same = hears_alike d.setup d.requester d.requester agree no_values x.1.0 false round.tag answer no_draw in
          let got = outcome_fetching d.requester d.requester (hears d.setup d.requester false round.tag answer no_values no_draw) (hears d.setup d.requester false round.tag answer x.1.0 no_draw) idle same gets in
          false≢true (sym idle ∙ ap (λ (l : History). is_fetching (outstanding l)) (sym stays ∙ x.2 ∙ ap (after d.requester) (sym x.1.2)) ∙ got)

      by_answer : Answers r d round answer next fetching → ⊥
      by_answer (inl (a, x)) =
          let k = with_dropped (judging d.fetching round.body d.responder) a.0 in
          let same = plain_same r k d.responder a.0 round.tag round.body a.1 a.2.1 (ap (repeats_large None) (sym a.6) ∙ large) in before (ap kept_of a.6 ∙ same.kept) same.large
      by_answer (inr (inl (whole, a, x))) =
          heard_it (ap (λ (l : responder_history.History). clear_body (kept_reply (kept_of l))) a.6 ∙ large_reply r (with_dropped (judging d.fetching round.body d.responder) a.0) d.responder round.tag round.body a.1 type a.2.1 a.3 ∙ a.5)
      by_answer (inr (inr (inl (whole, a, x)))) = before (ap kept_of a.4) (ap (repeats_large None) (sym a.4) ∙ large)
      by_answer (inr (inr (inr (a, x)))) = none_fetched s waits (λ version. subst IsOffer version offer) (offer_no_fetch s.aim offer) a.0 a.3

  -- ---- What it awaits behind the answer.

  acked_old : (whole : List ℕ) (s : Sent) → d.sending ≡ Some whole → outstanding g ≡ Some s → IsOffer s.aim → ⊥
  unfolding Hears
  acked_old whole s sending waits offer =
      let is : g ≡ with_ack whole round.tag (drop 1 answer) d.requester = subst (λ (o : Option (List ℕ)). HearsWhile o d round.tag answer g) sending hear in
      let old = acked_if whole round.tag (drop 1 answer) d.requester (has_tag (outstanding d.requester) round.tag) s (ap outstanding (sym is) ∙ waits) offer in
      absurd (none-some whole (sym (offer_alone d.round d.requester d.requester d.sending d.sending askers s old offer) ∙ sending))

  later_at : (s : Sent) → outstanding g ≡ Some s → IsOffer s.aim → (s.tag == round.tag) ≡ false → NoneUnder next s.tag
  later_at s waits offer other = by_sending d.sending refl
    where
      by_sending : (o : Option (List ℕ)) → d.sending ≡ o → NoneUnder next s.tag
      by_sending (Some whole) is = absurd (acked_old whole s is waits offer)
      by_sending None is = elim (heard_so d round.tag answer g is hear) [
        | inl takes ↦
            let told = heard_offer d.setup d.requester takes.1 round.tag answer takes.0 agrees.asks takes.2 s (ap outstanding (sym takes.3) ∙ waits) offer in
            kept_at (kept_of next) round.tag (drop 1 round.body) (told_repeats told) s.tag other
        | inr same ↦ answers_none r d round answer s.tag other (all.later s (ap outstanding (sym same) ∙ waits) offer round at other) next fetching answers
      ]

  sent_at : (s : Sent) → outstanding g ≡ Some s → IsOffer s.aim → (s.tag == round.tag) ≡ true → is_repeat (kept_of next) round.tag (drop 1 round.body) ≡ true → repeats_large None next ≡ true → Asks d.setup g round.tag (kept_reply (kept_of next)) → ⊥
  sent_at s waits offer tagged repeats large asks = by_sending d.sending refl
    where
      by_sending : (o : Option (List ℕ)) → d.sending ≡ o → ⊥
      by_sending (Some whole) is = acked_old whole s is waits offer
      by_sending None is = elim (heard_so d round.tag answer g is hear) [
        | inl takes ↦
            let here = ap outstanding (sym takes.3) ∙ waits in
            let told = heard_offer d.setup d.requester takes.1 round.tag answer takes.0 agrees.asks takes.2 s here offer in
            let rests : is_later d.round (outstanding d.requester) ≡ false = ap (λ (o : Option Round). is_later o (outstanding d.requester)) at ∙ ap (is_later (Some round)) told.waits ∙ ap not told.tagged in
            let follows = (heard_next d.setup d.requester false round.tag answer takes.1 no_draw takes.0 takes.2 s here).0 ∙ tag_next d.round d.requester d.requester d.sending d.sending askers is rests ∙ ap following_tag at in
            absurd (false≢true (sym (ap not tagged) ∙ next_later round s follows))
        | inr same ↦ unchanged s (ap outstanding (sym same) ∙ waits) offer tagged is same repeats large (subst (λ (l : History). Asks d.setup l round.tag (kept_reply (kept_of next))) same asks)
      ]

replied_stand : (w : Configuration) (d : Dialogue) (tag : ℕ) (answer : List ℕ) (next : Dialogue) → AskersAlike d.round d.requester d.requester d.sending d.sending → Agrees d → IsSound d → OfferStands d → Replies w d tag answer next → OfferStands next
replied_stand w d tag answer next askers agrees sound all c =
    let round : Round = c.0 in
    let r : RspSetup = towards w.responder (known_of d.setup) in
    let again : Round = record round { waiting = round.waiting - 1; answered = true } in
    let hear = subst (λ (n : ℕ). Hears d n answer c.4.3.0) (sym c.2) c.4.3.1 in
    subst OfferStands (sym c.4.3.2) (record {
      later = λ s waits is rd at other. later_at r d round c.1 askers agrees sound all answer c.4.0 c.4.1 c.4.2 c.4.3.0 hear s waits is (ap (λ (x : Round). s.tag == x.tag) (same_Some again rd at) ∙ other);
      sent = λ s waits is rd at tagged repeats large asks.
          let same = same_Some again rd at in
          sent_at r d round c.1 askers agrees sound all answer c.4.0 c.4.1 c.4.2 c.4.3.0 hear s waits is (ap (λ (x : Round). s.tag == x.tag) same ∙ tagged)
          (ap (λ (x : Round). is_repeat (kept_of c.4.0) x.tag (drop 1 x.body)) same ∙ repeats) large
          (ap (λ (x : Round). is_fetching (outstanding (after c.4.3.0 (hears d.setup c.4.3.0 false x.tag (clear_body (kept_reply (kept_of c.4.0))) no_values no_draw)))) same ∙ asks);
    })

replies_stand : (w : Configuration) (d : Dialogue) (g : Gathered) (next : Dialogue) → AskersAlike d.round d.requester d.requester d.sending d.sending → Agrees d → IsSound d → OfferStands d → RepliesBy w d g next → OfferStands next
replies_stand w d (Whole route body) next askers agrees sound all replies = replied_stand w d route.tag body next askers agrees sound all replies.2
replies_stand w d More next askers agrees sound all replies = subst OfferStands (sym replies) all
replies_stand w d (Dropped cause) next askers agrees sound all replies = absurd replies

-- ---- A walk.

step_stands : (w : Configuration) (eid : ℕ) (older : List (List ℕ)) (d next : Dialogue) (x : Result PacketFields PacketFault) → AskersAlike d.round d.requester d.requester d.sending d.sending → Agrees d → IsSound d → OfferStands d → StepsBy w eid older d next x → OfferStands next
step_stands w eid older d next (Err fault) askers agrees sound all step = subst OfferStands (sym step) all
step_stands w eid older d next (Ok p) askers agrees sound all step = by_ends (is_request w.responder.eid eid p) (is_answer w.responder.eid eid p) step
  where
    by_ends : (b c : Bool) → MatchBool b (AsksBy d (gathered_from w.responder.eid eid older p) next) (MatchBool c (RepliesBy w d (gathered_from eid w.responder.eid older p) next) (next ≡ d)) → OfferStands next
    by_ends true c asks = asks_stand d (gathered_from w.responder.eid eid older p) next all asks
    by_ends false true replies = replies_stand w d (gathered_from eid w.responder.eid older p) next askers agrees sound all replies
    by_ends false false same = subst OfferStands (sym same) all

begins_stand : (q : ReqSetup) → OfferStands (new_dialogue q)
begins_stand q = record { later = λ s waits is rd at other. absurd (none-some rd at); sent = λ s waits is rd at tagged repeats large asks. none-some rd at }

pub walks_stand : (w : Configuration) (q : ReqSetup) (older : List (List ℕ)) (d : Dialogue) → Walks w q older d → OfferStands d
unfolding StepsTo
walks_stand w q [] d walk = subst OfferStands (sym walk) (begins_stand q)
walks_stand w q (packet ∷ older) d walk =
    step_stands w q.eid older walk.0 d (parsed packet) (walks_alike w q older walk.0 walk.0 walk.1 walk.1).alike.askers (walks_agree w q older walk.0 walk.1) (walks_sound w q older walk.0 walk.1) (walks_stand w q older walk.0 walk.1) walk.2
