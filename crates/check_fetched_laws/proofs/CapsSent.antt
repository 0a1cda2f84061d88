-- What begins a round, and what is heard in it: what the requester has outstanding, and its phase and capabilities then.
use Rattle.std.proofs.Common.{◌≡◌, ◌==◌, ◌+◌, ◌∙◌, ◌⊎◌, ℕ, List, [], ◌∷◌, refl, sym, ap, subst, drop, length, Bool, true, false, Option, Some, None, cond, inl, inr, arith}
use Rattle.std.specs.Prelude.{slice_index, not}
use Rattle.std.proofs.lemmas.Bool.{false≢true, not-true}
use Rattle.std.proofs.lemmas.Option.{none-some, same_Some}
use Rattle.check_fetched_laws.proofs.GetAnswers.{HeardSo, heard_so}
use Rattle.check_late_laws.proofs.Late.CapsAsked.{AllAsk, AsksIn, AsksOf, AsksSo, IsCaps, IsHeard, IsSame, Leads, adds_heard}
use Rattle.check_late_laws.proofs.Late.CapsAsked.Leads.{Keeps, Takes}
use Rattle.check_late_laws.proofs.TurnsBeside.{SameCaps}
use Rattle.requester_machine.proofs.Entries.{asked}
use Rattle.requester_machine.proofs.Heard.{heard}
use Rattle.requester_machine.specs.Asking.{done}
use Rattle.requester_machine.specs.Asking.Outcome.{Adds}
use Rattle.requester_machine.specs.Bodies.{has_tag}
use Rattle.requester_machine.specs.Commands.{Free, exchange_for}
use Rattle.requester_machine.specs.Hearing.{hears}
use Rattle.requester_machine.specs.History.{Entry, History, begins_large, is_connect, negotiation_of, next_tag, outstanding, phase_of}
use Rattle.requester_machine.specs.History.Entry.{Told, TookClear, TookRecord}
use Rattle.requester_machine.specs.Message.{Aim, Command, Sent, asked_in, body_of}
use Rattle.requester_machine.specs.Message.Aim.{Plain, ByChunks, ForChunk, InSession}
use Rattle.requester_machine.specs.Message.Command.{Connect, Open, Send, Beat, Update, Measure, End, Retry}
use Rattle.requester_machine.specs.Owed.{with_next}
use Rattle.requester_machine.specs.Sending.{plain_sent}
use Rattle.requester_machine.specs.Setup.{ReqSetup}
use Rattle.requester_machine.specs.Shown.{after}
use Rattle.requester_machine.specs.UnderWay.{is_capable}
use Rattle.spdm_grammar.specs.Message.{RequestMessage}
use Rattle.spdm_grammar.specs.Message.RequestMessage.{GetVersion, GetMeasurements}
use Rattle.spdm_grammar.specs.declared.told.phase.Phase.TheVariants.{Fresh}
use Rattle.spdm_machine.specs.Terms.{no_negotiation}
use Rattle.capture_machine.proofs.AskTells.{IsSent, kind_of, same_sent, sent_by_kind}
use Rattle.capture_machine.proofs.AskersAlike.{AskersAlike}
use Rattle.capture_machine.proofs.AskersAlike.AskersAlike.{Settled, Owing, Shown, Due}
use Rattle.capture_machine.proofs.AskersHear.{next_later}
use Rattle.capture_machine.proofs.HearsAlike.{EntryAlike}
use Rattle.capture_machine.proofs.HeardNext.{heard_next, other_tag}
use Rattle.capture_machine.specs.CapturedAnswers.{Hears, HearsWhile}
use Rattle.capture_machine.specs.CapturedRequests.{Sends, Tells, is_later, without_owed}
use Rattle.capture_machine.specs.LargeRequests.{common_of, first_piece, piece_with, with_ack_to, with_next_piece}
use Rattle.capture_machine.specs.Rounds.{Dialogue, Round, following_tag, no_draw}

-- ---- A command.

told_so : (q : ReqSetup) (h : History) (f : Free) (c : Command) (s : Sent) → IsSent q h f (kind_of q h f c) s → begins_large s.aim ≡ false → AsksSo (is_capable (phase_of (Told c s no_draw ∷ h))) s
told_so q h f Connect s kind small = subst (AsksSo false) (sym (kind.0 small)) (record { asks = (refl, refl); is = refl })
told_so q h f (Open summary) s kind small = subst (AsksSo (is_capable (phase_of h))) (sym (kind.0 small)) (record { asks = tt; is = refl })
told_so q h f (Send id bytes) s kind small = subst (AsksSo (is_capable (phase_of h))) (sym kind) (record { asks = tt; is = refl })
told_so q h f (Beat id) s kind small = subst (AsksSo (is_capable (phase_of h))) (sym kind) (record { asks = tt; is = refl })
told_so q h f (Update id all) s kind small = subst (AsksSo (is_capable (phase_of h))) (sym kind) (record { asks = tt; is = refl })
told_so q h f (Measure None op) s kind small = subst (AsksSo (is_capable (phase_of h))) (sym (kind.0 small)) (record { asks = tt; is = refl })
told_so q h f (Measure (Some id) op) s kind small = subst (AsksSo (is_capable (phase_of h))) (sym kind) (record { asks = tt; is = refl })
told_so q h f (End id) s kind small = subst (AsksSo (is_capable (phase_of h))) (sym kind) (record { asks = tt; is = refl })
told_so q h f Retry s kind small = absurd kind

-- No large request is GET_VERSION, GET_CAPABILITIES or NEGOTIATE_ALGORITHMS, where a command sends it.
large_so : (known : Bool) (q : ReqSetup) (h : History) (f : Free) (c : Command) (s : Sent) (a : RequestMessage) → done q h c f no_draw ≡ Adds (Told c s no_draw) → begins_large s.aim ≡ true → asked_in s.aim ≡ Some a → AsksOf known false a
large_so known q h f c s a adds large asks = by_command c refl
  where
    at : (e : Command) → c ≡ e → done q h e f no_draw ≡ Adds (Told e s no_draw)
    at e is = subst (λ (x : Command). done q h x f no_draw ≡ Adds (Told x s no_draw)) is adds

    in_session : (e : Command) → asked_in s.aim ≡ None → AsksOf known false a
    in_session e none = absurd (none-some a (sym none ∙ asks))

    by_command : (e : Command) → c ≡ e → AsksOf known false a
    by_command Connect is = let same : plain_sent h GetVersion ≡ s = same_sent Connect _ s no_draw (at Connect is) in absurd (false≢true (ap (λ (x : Sent). begins_large x.aim) same ∙ large))
    by_command (Open summary) is =
        let kind = sent_by_kind q h f (Open summary) s no_draw (at (Open summary) is) in subst (AsksOf known false) (same_Some (exchange_for q f summary) a (sym kind.1 ∙ asks)) tt
    by_command (Measure None op) is =
        let kind = sent_by_kind q h f (Measure None op) s no_draw (at (Measure None op) is) in subst (AsksOf known false) (same_Some (GetMeasurements op) a (sym kind.1 ∙ asks)) tt
    by_command (Send id bytes) is = in_session (Send id bytes) (ap (λ (x : Sent). asked_in x.aim) (sent_by_kind q h f (Send id bytes) s no_draw (at (Send id bytes) is)))
    by_command (Beat id) is = in_session (Beat id) (ap (λ (x : Sent). asked_in x.aim) (sent_by_kind q h f (Beat id) s no_draw (at (Beat id) is)))
    by_command (Update id all) is = in_session (Update id all) (ap (λ (x : Sent). asked_in x.aim) (sent_by_kind q h f (Update id all) s no_draw (at (Update id all) is)))
    by_command (Measure (Some id) op) is = in_session (Measure (Some id) op) (ap (λ (x : Sent). asked_in x.aim) (sent_by_kind q h f (Measure (Some id) op) s no_draw (at (Measure (Some id) op) is)))
    by_command (End id) is = in_session (End id) (ap (λ (x : Sent). asked_in x.aim) (sent_by_kind q h f (End id) s no_draw (at (End id) is)))
    by_command Retry is = absurd (sent_by_kind q h f Retry s no_draw (at Retry is))

-- ---- What begins a round.

-- The capabilities count after it as before, if any count.
abbrev pub Counts : (h next : History) → Type 0
Counts h next = is_capable (phase_of next) ≡ true → (is_capable (phase_of h) ≡ true) × SameCaps (negotiation_of next) (negotiation_of h)

itself : (h : History) → Counts h h
itself h = λ known. (known, record { asked = refl; told = refl })

pub record IsBegun (h next : History) (body : List ℕ) : Type 0 where
  pub sent : Sent
  pub waits : outstanding next ≡ Some sent
  pub is : body_of sent.content ≡ body
  pub so : AsksSo (is_capable (phase_of next)) sent
  pub counts : Counts h next

connected : (h g : History) (c : Command) (s : Sent) → c ≡ Connect → Counts g (Told c s no_draw ∷ h)
connected h g c s is = λ known. absurd (false≢true (ap (λ (x : Command). is_capable (phase_of (Told x s no_draw ∷ h))) (sym is) ∙ known))

commanded : (h : History) (c : Command) (s : Sent) → Counts h (Told c s no_draw ∷ h)
commanded h c s = by_connect (is_connect c)
  where
    by_connect : (b : Bool) → is_capable (cond b Fresh (phase_of h)) ≡ true → (is_capable (phase_of h) ≡ true) × SameCaps (cond b no_negotiation (negotiation_of h)) (negotiation_of h)
    by_connect true = λ known. absurd (false≢true known)
    by_connect false = λ known. (known, record { asked = refl; told = refl })

tells_begun : (q : ReqSetup) (h g : History) (c : Command) (body : List ℕ) (next : History) → Tells q h c body next → ((s : Sent) → Counts g (Told c s no_draw ∷ h)) → IsBegun g next body
tells_begun q h g c body next tells counts =
    let kind = sent_by_kind q h tells.1.0 c tells.0 no_draw (asked false q h c tells.1.0 no_draw (Told c tells.0 no_draw) tells.1.2).1 in
    subst (λ (l : History). IsBegun g l body) (sym tells.4) (record { sent = tells.0; waits = refl; is = tells.3; so = told_so q h tells.1.0 c tells.0 kind tells.2; counts = counts tells.0 })

-- What is owed was sent by itself.
abbrev pub IsTook : History → Type 0
IsTook [] = ⊥
IsTook (Told c s d ∷ h) = ⊥
IsTook (TookClear tag m led d ∷ h) = Unit {0}
IsTook (TookRecord tag id sealed inner led d ∷ h) = Unit {0}

alike_took : (e f : Entry) (h : History) → EntryAlike e f → IsTook (e ∷ h)
alike_took (TookClear tag m led d) f h alike = tt
alike_took (TookRecord tag id sealed inner led d) f h alike = tt
alike_took (Told c s d) f h alike = absurd alike

pub owed_took : (round : Option Round) (h g : History) (sd se : Option (List ℕ)) → AskersAlike round h g sd se → is_later round (outstanding h) ≡ true → IsTook h
owed_took round _ _ _ _ (Settled h g agree not at) later = absurd (false≢true (sym not ∙ later))
owed_took round _ _ _ _ (Owing e f h g s t agree alike out sent like tagged else still at) later = alike_took e f h alike
owed_took round _ _ _ _ (Shown h g w v a b handle number s t u waits wait aims aim tags not at) later = absurd (false≢true (sym not ∙ ap (is_later round) (sym waits) ∙ later))
owed_took round _ _ _ _ (Due tag m h g w v a b handle number u still at) later = tt

chunk_so : (known : Bool) (a : RequestMessage) (aim : Aim) → begins_large aim ≡ true → asked_in aim ≡ Some a → AsksIn known aim → AsksOf known false a
chunk_so known a (ByChunks x handle number) large is asks = subst (AsksOf known false) (same_Some x a is) asks
chunk_so known a (Plain x) large is asks = absurd (false≢true large)
chunk_so known a (ForChunk x handle number before) large is asks = absurd (false≢true large)
chunk_so known a (InSession id ask) large is asks = absurd (false≢true large)

owed_begun : (h g : History) (whole : List ℕ) (a : RequestMessage) (body : List ℕ) → IsTook h → AsksOf (is_capable (phase_of h)) false a → body_of (first_piece g a whole).content ≡ body → IsBegun h (with_next (Some (first_piece g a whole)) h) body
owed_begun [] g whole a body took asks is = absurd took
owed_begun (Told c s d ∷ h) g whole a body took asks is = absurd took
owed_begun (TookClear tag m led d ∷ h) g whole a body took asks is =
    record { sent = first_piece g a whole; waits = refl; is = is; so = record { asks = asks; is = ((common_of g).to_responder.transfer, whole, refl) }; counts = λ known. (known, record { asked = refl; told = refl }) }
owed_begun (TookRecord tag id sealed inner led d ∷ h) g whole a body took asks is =
    record { sent = first_piece g a whole; waits = refl; is = is; so = record { asks = asks; is = ((common_of g).to_responder.transfer, whole, refl) }; counts = λ known. (known, record { asked = refl; told = refl }) }

pub sends_begun : (d : Dialogue) (body : List ℕ) (next : History) (sending : Option (List ℕ)) → AskersAlike d.round d.requester d.requester d.sending d.sending → AllAsk d.requester → Sends d body next sending → IsBegun d.requester next body
unfolding Sends
sends_begun d body next sending askers all (inl (inl connects, none)) = tells_begun d.setup (without_owed d) d.requester Connect body next connects (λ s. connected (without_owed d) d.requester Connect s refl)
sends_begun d body next sending askers all (inl (inr commands, none)) = tells_begun d.setup d.requester d.requester commands.0 body next commands.2 (λ s. commanded d.requester commands.0 s)
sends_begun d body next sending askers all (inr (inl goes)) =
    subst (λ (l : History). IsBegun d.requester l body) (sym goes.5) (record { sent = goes.0; waits = goes.1.0; is = goes.3; so = all goes.0 goes.1.0; counts = itself d.requester })
sends_begun d body next sending askers all (inr (inr (whole, inl large, is))) =
    let piece : Sent = first_piece d.requester large.2 whole in
    let adds = (asked false d.setup d.requester large.0 large.3.0 no_draw (Told large.0 large.1 no_draw) large.3.2).1 in
    subst (λ (l : History). IsBegun d.requester l body) (sym large.8) (record {
      sent = piece;
      waits = refl;
      is = large.7;
      so = record { asks = large_so (is_capable (phase_of (Told large.0 piece no_draw ∷ d.requester))) d.setup d.requester large.3.0 large.0 large.1 large.2 adds large.4 large.5; is = ((common_of d.requester).to_responder.transfer, whole, refl) };
      counts = commanded d.requester large.0 piece;
    })
sends_begun d body next sending askers all (inr (inr (whole, inr owed, is))) =
    let took = owed_took d.round d.requester d.requester d.sending d.sending askers owed.2.1 in
    subst (λ (l : History). IsBegun d.requester l body) (sym owed.7)
    (owed_begun d.requester (without_owed d) whole owed.1 body took (chunk_so (is_capable (phase_of d.requester)) owed.1 owed.0.aim owed.3 owed.4 (all owed.0 owed.2.0).asks) owed.6)

-- ---- What is heard.

-- What is sent next has the tag of the next round, where nothing is owed.
next_follows : (round : Option Round) (h g : History) (sd se : Option (List ℕ)) → AskersAlike round h g sd se → is_later round (outstanding h) ≡ false → next_tag h ≡ following_tag round
next_follows round _ _ _ _ (Settled h g agree not at) rests = at
next_follows round _ _ _ _ (Owing e f h g s t agree alike out sent like tagged else later at) rests = absurd (false≢true (sym rests ∙ ap (is_later round) out ∙ later))
next_follows round _ _ _ _ (Shown h g w v a b handle number s t u waits wait aims aim tags not at) rests = at
next_follows round _ _ _ _ (Due tag m h g w v a b handle number u still at) rests = absurd (false≢true (sym rests ∙ still))

-- What was taken has the tag of what is outstanding.
pub record IsTagged (h : History) (tag : ℕ) : Type 0 where
  pub sent : Sent
  pub waits : outstanding h ≡ Some sent
  pub tagged : (sent.tag == tag) ≡ true

longer : (h : History) (e : Entry) → e ∷ h ≡ h → ⊥
longer h e is = absurd (let n = ap (λ (l : History). length l) is in omega (arith, n))

tag_by : (q : ReqSetup) (h : History) (f : Free) (tag : ℕ) (answer : List ℕ) (entry : Entry) (s : Sent) → hears q h false tag answer f no_draw ≡ Adds entry → outstanding h ≡ Some s → IsTagged h tag
tag_by q h f tag answer entry s adds waits = by_tag (s.tag == tag) refl
  where
    by_tag : (b : Bool) → (s.tag == tag) ≡ b → IsTagged h tag
    by_tag true is = record { sent = s; waits = waits; tagged = is }
    by_tag false is = absurd (longer h entry (ap (after h) (sym adds) ∙ other_tag q h s f tag answer no_draw waits is))

heard_tagged : (q : ReqSetup) (h : History) (f : Free) (tag : ℕ) (answer : List ℕ) (entry : Entry) → hears q h false tag answer f no_draw ≡ Adds entry → IsTagged h tag
heard_tagged q h f tag answer entry adds = elim (heard q h false tag answer f no_draw entry adds) [
  | inl t ↦ tag_by q h f tag answer entry t.sent adds t.waits
  | inr o ↦ tag_by q h f tag answer entry o.1.sent adds o.1.waits
]

-- After an answer in a round.
pub record IsTaken (h next : History) (round : Round) (answer : List ℕ) : Type 0 where
  pub all : AllAsk next
  pub new : (s : Sent) → outstanding next ≡ Some s → (s.tag == round.tag) ≡ true → outstanding h ≡ Some s
  pub counts : Counts h next ⊎ ((entry : Entry) × (next ≡ entry ∷ h) × IsCaps h answer entry × IsTagged h round.tag)

stays_taken : (h next : History) (round : Round) (answer : List ℕ) → next ≡ h → AllAsk h → IsTaken h next round answer
stays_taken h next round answer same all = subst (λ (l : History). IsTaken h l round answer) (sym same) (record { all = all; new = λ s waits tagged. waits; counts = inl (itself h) })

module _ (d : Dialogue) (round : Round) (at : d.round ≡ Some round) (askers : AskersAlike d.round d.requester d.requester d.sending d.sending) (all : AllAsk d.requester) (answer : List ℕ) where
  abbrev h : History
  h = d.requester

  -- It has not the tag of this round.
  not_now : IsTagged h round.tag → (s : Sent) → s.tag ≡ next_tag h → (s.tag == round.tag) ≡ true → ⊥
  not_now tagged s tag now =
      let rests : is_later d.round (outstanding h) ≡ false = ap (λ (o : Option Round). is_later o (outstanding h)) at ∙ ap (is_later (Some round)) tagged.waits ∙ ap not tagged.tagged in
      let follows : s.tag ≡ following_tag (Some round) = tag ∙ next_follows d.round h h d.sending d.sending askers rests ∙ ap following_tag at in
      false≢true (sym (ap not now) ∙ next_later round s follows)

  entry_taken : (f : Free) (entry : Entry) → hears d.setup h false round.tag answer f no_draw ≡ Adds entry → IsTaken h (entry ∷ h) round answer
  entry_taken f entry adds =
      let is = adds_heard d.setup h f round.tag answer entry all adds in
      let tagged = heard_tagged d.setup h f round.tag answer entry adds in
      record {
        all = is.next;
        new = λ s waits now. absurd (not_now tagged s (heard_next d.setup h false round.tag answer f no_draw entry adds s waits).0 now);
        counts = by_leads tagged is.leads;
      }
    where
      by_leads : IsTagged h round.tag → Leads h answer entry → Counts h (entry ∷ h) ⊎ ((x : Entry) × (entry ∷ h ≡ x ∷ h) × IsCaps h answer x × IsTagged h round.tag)
      by_leads tagged (Keeps same) = inl (λ known. (same.known known, same.caps))
      by_leads tagged (Takes caps) = inr (entry, refl, caps, tagged)

  -- A chunk of a large request was acknowledged.
  piece_taken : (whole : List ℕ) (m : List ℕ) (s : Sent) → outstanding h ≡ Some s → (s.tag == round.tag) ≡ true → (aim : Aim) → AsksIn (is_capable (phase_of h)) aim → IsTaken h (with_next_piece whole round.tag m h aim) round answer
  piece_taken whole m s waits now (ByChunks a handle number) asks = record {
    all = λ x is.
        let piece : Sent = piece_with h a whole handle (number + 1) in
        let so : AsksSo (is_capable (phase_of h)) piece = record { asks = asks; is = ((common_of h).to_responder.transfer, whole, refl) } in
        subst (AsksSo (is_capable (phase_of h))) (same_Some piece x is) so;
    new = λ x is tagged.
        let same = same_Some (piece_with h a whole handle (number + 1)) x is in
        absurd (not_now (record { sent = s; waits = waits; tagged = now }) x (ap (λ (y : Sent). y.tag) (sym same)) tagged);
    counts = inl (λ known. (known, record { asked = refl; told = refl }));
  }
  piece_taken whole m s waits now (Plain a) asks = stays_taken h h round answer refl all
  piece_taken whole m s waits now (ForChunk a handle number before) asks = stays_taken h h round answer refl all
  piece_taken whole m s waits now (InSession id ask) asks = stays_taken h h round answer refl all

  to_taken : (whole : List ℕ) (m : List ℕ) (o : Option Sent) → outstanding h ≡ o → has_tag o round.tag ≡ true → IsTaken h (with_ack_to whole round.tag m h o) round answer
  to_taken whole m None waits now = stays_taken h h round answer refl all
  to_taken whole m (Some s) waits now = piece_taken whole m s waits now s.aim (all s waits).asks

  ack_taken : (whole : List ℕ) (m : List ℕ) (b : Bool) → has_tag (outstanding h) round.tag ≡ b → IsTaken h (cond b (with_ack_to whole round.tag m h (outstanding h)) h) round answer
  ack_taken whole m true now = to_taken whole m (outstanding h) refl now
  ack_taken whole m false now = stays_taken h h round answer refl all

  so_taken : (next : History) → HeardSo d round.tag answer next → IsTaken h next round answer
  so_taken next (inl takes) = subst (λ (l : History). IsTaken h l round answer) (sym takes.3) (entry_taken takes.1 takes.0 takes.2)
  so_taken next (inr same) = stays_taken h next round answer same all

  by_sending : (o : Option (List ℕ)) (next : History) → d.sending ≡ o → HearsWhile o d round.tag answer next → Hears d round.tag answer next → IsTaken h next round answer
  by_sending None next is while hear = so_taken next (heard_so d round.tag answer next is hear)
  by_sending (Some whole) next is while hear = subst (λ (l : History). IsTaken h l round answer) (sym while) (ack_taken whole (drop 1 answer) (has_tag (outstanding h) round.tag) refl)

  pub hears_taken : (next : History) → Hears d round.tag answer next → IsTaken h next round answer
  unfolding Hears
  hears_taken next hear = by_sending d.sending next refl hear hear
