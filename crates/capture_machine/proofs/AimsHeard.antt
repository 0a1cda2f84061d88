-- An answer leaves what the outstanding message asks for as the capture shows it, and no chunk is asked for after
-- GET_VERSION.
use Rattle.std.proofs.Common.{◌≡◌, ◌+◌, ◌==◌, ℕ, List, [], ◌∷◌, refl, sym, ap, ◌∙◌, subst, drop, Bool, true, false, Option, Some, None, cond, inl, inr}
use Rattle.std.specs.Prelude.{slice_index}
use Rattle.std.proofs.lemmas.Bool.{false≢true}
use Rattle.std.proofs.lemmas.Option.{none-some, same_Some}
use Rattle.spdm_grammar.specs.Message.{RequestMessage, ChunkMessage}
use Rattle.spdm_grammar.specs.Message.RequestMessage.{GetVersion, NegotiateAlgorithms}
use Rattle.requester_machine.specs.Answers.{may_be_large}
use Rattle.requester_machine.specs.Asking.{Outcome}
use Rattle.requester_machine.specs.Asking.Outcome.{Fails, Ignores, Warns, Resends, Adds}
use Rattle.requester_machine.specs.Bodies.{has_tag}
use Rattle.requester_machine.specs.Commands.{Free}
use Rattle.requester_machine.specs.Hearing.{hears, came_to}
use Rattle.requester_machine.specs.History.{History, Entry, Effect, Led, sent_in, outstanding, next_handle}
use Rattle.requester_machine.specs.History.Effect.{Nothing}
use Rattle.requester_machine.specs.History.Entry.{TookClear, TookRecord}
use Rattle.requester_machine.specs.InnerMessages.{Came}
use Rattle.requester_machine.specs.Message.{Ask, Aim, Sent, asked_in}
use Rattle.requester_machine.specs.Message.Aim.{Plain, ByChunks, ForChunk, InSession}
use Rattle.requester_machine.specs.Message.Ask.{AskChunk}
use Rattle.requester_machine.specs.Sending.{plain_sent, piece_sent, record_sent}
use Rattle.requester_machine.specs.Session.{Steps, session_of, when_live, with_sent, after_record}
use Rattle.requester_machine.specs.Session.Step.{Took}
use Rattle.requester_machine.specs.Setup.{ReqSetup}
use Rattle.requester_machine.specs.Shown.{after}
use Rattle.requester_machine.proofs.ClearLeads.{ClearLeads, clear_leads}
use Rattle.requester_machine.proofs.ClearLeads.ClearLeads.{ByRefusal, ByLarge, BySend, ByGet, ByStop, ByVersion, ByCaps, ByChoice, ByMeasured, ByExchange}
use Rattle.requester_machine.proofs.Heard.{heard}
use Rattle.requester_machine.proofs.RecordLeads.{RecordLeads, record_leads}
use Rattle.requester_machine.proofs.RecordLeads.Follows.{ToAsk, ToWhole}
use Rattle.requester_machine.proofs.RecordLeads.RecordLeads.{ByEnd, ByAnswer, ByUpdate, ByFirst, ByChunk}
use Rattle.capture_machine.specs.CapturedAnswers.{Hears, HearsWhile}
use Rattle.capture_machine.specs.LargeAnswers.{is_for_chunk, is_fetching}
use Rattle.capture_machine.specs.LargeRequests.{with_ack_to, with_next_piece}
use Rattle.capture_machine.specs.Rounds.{Dialogue, no_draw}
use Rattle.capture_machine.proofs.HeardNext.{none_next, some_next, either_next}
use Rattle.capture_machine.proofs.AskersAim.{IsAt, IsOf, IsWhere, IsAsked, Asker, named_by, sealed_named, live_named, sent_named, same_id}

-- ---- What follows a message.

clear_type : (h : History) (body : List ℕ) (aim : Aim) (a : RequestMessage) → asked_in aim ≡ Some a → IsAt h body aim → (slice_index body 0 == 5) ≡ true
clear_type h body (Plain asked) a asks at = at
clear_type h body (ByChunks asked handle number) a asks at = at
clear_type h body (ForChunk asked handle number before) a asks at = at
clear_type h body (InSession id ask) a asks at = absurd (none-some a asks)

-- What follows a message: it is asked for, and a chunk is not asked for after GET_VERSION.
pub record IsLedTo (h : History) (body : List ℕ) (aim : Aim) (s : Sent) : Type 0 where
  pub asked : IsAsked h body s
  pub fetches : is_for_chunk s.aim ≡ true → aim ≡ Plain GetVersion → ⊥

abbrev AreLedTo : History → List ℕ → Aim → Option Sent → Type 0
AreLedTo h body aim o = (s : Sent) → o ≡ Some s → IsLedTo h body aim s

version_small : (aim : Aim) (a : RequestMessage) → asked_in aim ≡ Some a → may_be_large a ≡ true → aim ≡ Plain GetVersion → ⊥
version_small aim a asks large is =
    let same : GetVersion ≡ a = same_Some GetVersion a (sym (ap asked_in is) ∙ asks) in
    false≢true (ap may_be_large same ∙ large)

chunk_apart : (aim : Aim) (a : RequestMessage) (handle number : ℕ) (before : List ChunkMessage) → aim ≡ ForChunk a handle number before → aim ≡ Plain GetVersion → ⊥
chunk_apart aim a handle number before is version = absurd (let x = sym is ∙ version in cc)

clear_next : (q : ReqSetup) (h g : History) (f : Free) (body : List ℕ) (aim : Aim) (m : List ℕ) (a : RequestMessage) (led : Led) → asked_in aim ≡ Some a → (slice_index body 0 == 5) ≡ true → ClearLeads q h f aim m a led → AreLedTo g body aim led.next
clear_next q h g f body aim m a led asks type (ByRefusal code is) = none_next (IsLedTo g body aim) led.next (ap (λ (l : Led). l.next) is)
clear_next q h g f body aim m a led asks type (ByLarge handle may is) =
    some_next (IsLedTo g body aim) led.next _ (ap (λ (l : Led). l.next) is) (record { asked = record { own = refl; here = type; spelled = refl }; fetches = λ gets. version_small aim a asks may })
clear_next q h g f body aim m a led asks type (BySend handle number aims last is) =
    some_next (IsLedTo g body aim) led.next _ (ap (λ (l : Led). l.next) is) (record { asked = record { own = refl; here = type; spelled = tt }; fetches = λ gets. absurd (false≢true gets) })
clear_next q h g f body aim m a led asks type (ByGet handle number before c aims none last is) =
    some_next (IsLedTo g body aim) led.next _ (ap (λ (l : Led). l.next) is) (record { asked = record { own = refl; here = type; spelled = refl }; fetches = λ gets. chunk_apart aim a handle number before aims })
clear_next q h g f body aim m a led asks type (ByStop why may is) = none_next (IsLedTo g body aim) led.next (ap (λ (l : Led). l.next) is)
clear_next q h g f body aim m a led asks type (ByVersion answer was is) =
    some_next (IsLedTo g body aim) led.next _ (ap (λ (l : Led). l.next) is) (record { asked = record { own = refl; here = type; spelled = tt }; fetches = λ gets. absurd (false≢true gets) })
clear_next q h g f body aim m a led asks type (ByCaps caps theirs answer common offer was read settled offers short is) =
    some_next (IsLedTo g body aim) led.next _ (ap (λ (l : Led). l.next) is)
    (either_next (IsLedTo g body aim) _ (piece_sent common h (NegotiateAlgorithms offer) (next_handle h) 0) (plain_sent h (NegotiateAlgorithms offer))
    (record { asked = record { own = refl; here = type; spelled = tt }; fetches = λ gets. absurd (false≢true gets) })
    (record { asked = record { own = refl; here = type; spelled = tt }; fetches = λ gets. absurd (false≢true gets) }))
clear_next q h g f body aim m a led asks type (ByChoice offer answer was is) = none_next (IsLedTo g body aim) led.next (ap (λ (l : Led). l.next) is)
clear_next q h g f body aim m a led asks type (ByMeasured op answer finish was is) = none_next (IsLedTo g body aim) led.next (ap (λ (l : Led). l.next) is)
clear_next q h g f body aim m a led asks type (ByExchange exchange answer rsp was read right is) =
    some_next (IsLedTo g body aim) led.next _ (ap (λ (l : Led). l.next) is) (record { asked = record { own = tt; here = tt; spelled = tt }; fetches = λ gets. absurd (false≢true gets) })

session_apart : (aim : Aim) (id : ℕ) (ask : Ask) → aim ≡ InSession id ask → aim ≡ Plain GetVersion → ⊥
session_apart aim id ask is version = absurd (let x = sym is ∙ version in cc)

-- CHUNK_GET is sealed in the session whose record was taken.
module _ (q : ReqSetup) (h : History) (f : Free) (body : List ℕ) (tag id : ℕ) (sealed inner : List ℕ) (ask : Ask) (led : Led) (of : IsOf h body id) where
  abbrev took : Entry
  took = TookRecord tag id sealed inner led no_draw

  abbrev steps : Steps
  steps = when_live (session_of id h) (Took sealed inner Nothing)

  steps_named : named_by steps ≡ named_by (session_of id h)
  steps_named = live_named (session_of id h) (Took sealed inner Nothing) refl

  took_named : (x : Sent) → led.effect ≡ Nothing → led.next ≡ Some x → ((u : Steps) → named_by (with_sent id (Some x) u) ≡ named_by u) → named_by (session_of id (took ∷ h)) ≡ named_by steps
  unfolding session_of
  took_named x effect next keeps =
      ap named_by (same_id id (with_sent id led.next (after_record sealed inner led.effect (session_of id h))) (session_of id h))
      ∙ ap (λ (o : Option Sent). named_by (with_sent id o (after_record sealed inner led.effect (session_of id h)))) next
      ∙ ap (λ (e : Effect). named_by (with_sent id (Some x) (after_record sealed inner e (session_of id h)))) effect
      ∙ keeps steps

  chunk_next : (op handle number : ℕ) (before : List ChunkMessage) (text : List ℕ) (aim : Aim) → aim ≡ InSession id ask → led.effect ≡ Nothing → led.next ≡ Some (record_sent q h id steps (AskChunk op handle number before) text f.pad)
      → AreLedTo (took ∷ h) body aim led.next
  chunk_next op handle number before text aim aims effect next =
      let x : Sent = record_sent q h id steps (AskChunk op handle number before) text f.pad in
      let named : named_by (session_of id (took ∷ h)) ≡ named_by steps = took_named x effect next (λ u. sent_named q h id steps u (AskChunk op handle number before) text f.pad) in
      some_next (IsLedTo (took ∷ h) body aim) led.next x next (record {
        asked = record {
          own = record { sealed = refl; named = sealed_named q.psk steps text f.pad ∙ sym named };
          here = record { sealed = of.sealed; named = of.named ∙ sym steps_named ∙ sym named };
          spelled = tt;
        };
        fetches = λ gets. session_apart aim id ask aims;
      })

record_next : (q : ReqSetup) (h : History) (f : Free) (body : List ℕ) (tag id : ℕ) (sealed inner : List ℕ) (ask : Ask) (led : Led) (aim : Aim) → aim ≡ InSession id ask → IsWhere h body id ask
    → RecordLeads q h f (record { id = id; steps = session_of id h; sealed = sealed; inner = inner }) ask led → AreLedTo (TookRecord tag id sealed inner led no_draw ∷ h) body aim led.next
record_next q h f body tag id sealed inner ask led aim aims at (ByEnd ends none) = none_next (IsLedTo (TookRecord tag id sealed inner led no_draw ∷ h) body aim) led.next none
record_next q h f body tag id sealed inner ask led aim aims at (ByAnswer ends updates brings none) = none_next (IsLedTo (TookRecord tag id sealed inner led no_draw ∷ h) body aim) led.next none
record_next q h f body tag id sealed inner ask led aim aims at (ByUpdate all was is) =
    some_next (IsLedTo (TookRecord tag id sealed inner led no_draw ∷ h) body aim) led.next _ (ap (λ (l : Led). l.next) is) (record { asked = record { own = tt; here = tt; spelled = tt }; fetches = λ gets. absurd (false≢true gets) })
record_next q h f body tag id sealed inner ask led aim aims at (ByFirst op handle (ToAsk was) is) =
    chunk_next q h f body tag id sealed inner ask led (subst (IsWhere h body id) was at) op handle 0 [] _ aim aims (ap (λ (l : Led). l.effect) is) (ap (λ (l : Led). l.next) is)
record_next q h f body tag id sealed inner ask led aim aims at (ByFirst op handle (ToWhole old number before was below) is) =
    chunk_next q h f body tag id sealed inner ask led (subst (IsWhere h body id) was at) op handle 0 [] _ aim aims (ap (λ (l : Led). l.effect) is) (ap (λ (l : Led). l.next) is)
record_next q h f body tag id sealed inner ask led aim aims at (ByChunk op handle number before c was none last is) =
    chunk_next q h f body tag id sealed inner ask led (subst (IsWhere h body id) was at) op c.handle (c.number + 1) (c ∷ before) _ aim aims (ap (λ (l : Led). l.effect) is) (ap (λ (l : Led). l.next) is)

-- An entry of what was heard.
pub heard_asked : (q : ReqSetup) (h : History) (f : Free) (tag : ℕ) (answer body : List ℕ) (entry : Entry) → Asker h body → hears q h false tag answer f no_draw ≡ Adds entry
    → (s : Sent) × (outstanding h ≡ Some s) × AreLedTo (entry ∷ h) body s.aim (sent_in entry)
heard_asked q h f tag answer body entry asker adds = elim (heard q h false tag answer f no_draw entry adds) [
  | inl taken ↦
      let type = clear_type h body taken.sent.aim taken.asked taken.asks (asker taken.sent taken.waits).here in (
        taken.sent,
        taken.waits,
        subst (λ (e : Entry). AreLedTo (e ∷ h) body taken.sent.aim (sent_in e)) (sym taken.is)
            (clear_next q h (TookClear tag (drop 1 answer) taken.led no_draw ∷ h) f body taken.sent.aim (drop 1 answer) taken.asked taken.led taken.asks type (clear_leads q h f taken.sent.aim (drop 1 answer) taken.asked taken.led taken.asks taken.leads)),
      )
  | inr opened ↦
      let o = opened.1 in
      let came : Came = came_to q h o.id o.ask (drop 1 answer) in (
        o.sent,
        o.waits,
        subst (λ (e : Entry). AreLedTo (e ∷ h) body o.sent.aim (sent_in e)) (sym o.is)
            (record_next q h f body tag o.id (drop 1 answer) came.inner o.ask _ o.sent.aim o.aims (subst (IsAt h body) o.aims (asker o.sent o.waits).here) (record_leads q h f came o.ask)),
      )
]

-- ---- All that an answer leads to.

outcome_asker : (q : ReqSetup) (h : History) (f : Free) (tag : ℕ) (answer body : List ℕ) (o : Outcome) → Asker h body → hears q h false tag answer f no_draw ≡ o → Asker (after h o) body
outcome_asker q h f tag answer body (Adds entry) asker is = λ s waits. ((heard_asked q h f tag answer body entry asker is).2 s waits).asked
outcome_asker q h f tag answer body (Fails fault) asker is = asker
outcome_asker q h f tag answer body (Ignores cause) asker is = asker
outcome_asker q h f tag answer body (Warns code) asker is = asker
outcome_asker q h f tag answer body (Resends sent) asker is = asker

piece_asker : (whole : List ℕ) (tag : ℕ) (m : List ℕ) (h : History) (body : List ℕ) (aim : Aim) → Asker h body → IsAt h body aim → Asker (with_next_piece whole tag m h aim) body
piece_asker whole tag m h body (ByChunks a handle number) asker at = λ s waits. subst (IsAsked _ body) (same_Some _ s waits) (record { own = refl; here = at; spelled = tt })
piece_asker whole tag m h body (Plain a) asker at = asker
piece_asker whole tag m h body (ForChunk a handle number before) asker at = asker
piece_asker whole tag m h body (InSession id ask) asker at = asker

to_asker : (whole : List ℕ) (tag : ℕ) (m : List ℕ) (h : History) (body : List ℕ) (o : Option Sent) → outstanding h ≡ o → Asker h body → Asker (with_ack_to whole tag m h o) body
to_asker whole tag m h body None waits asker = asker
to_asker whole tag m h body (Some s) waits asker = piece_asker whole tag m h body s.aim asker (asker s waits).here

ack_asker : (whole : List ℕ) (tag : ℕ) (m : List ℕ) (h : History) (body : List ℕ) (b : Bool) → Asker h body → Asker (cond b (with_ack_to whole tag m h (outstanding h)) h) body
ack_asker whole tag m h body true asker = to_asker whole tag m h body (outstanding h) refl asker
ack_asker whole tag m h body false asker = asker

while_asker : (d : Dialogue) (o : Option (List ℕ)) (tag : ℕ) (answer body : List ℕ) (next : History) → Asker d.requester body → HearsWhile o d tag answer next → Asker next body
while_asker d None tag answer body next asker heard = subst (λ (l : History). Asker l body) (sym heard.2) (outcome_asker d.setup d.requester heard.1.0 tag answer body heard.0 asker heard.1.2)
while_asker d (Some whole) tag answer body next asker heard =
    subst (λ (l : History). Asker l body) (sym heard) (ack_asker whole tag (drop 1 answer) d.requester body (has_tag (outstanding d.requester) tag) asker)

pub hears_asker : (d : Dialogue) (tag : ℕ) (answer body : List ℕ) (next : History) → Asker d.requester body → Hears d tag answer next → Asker next body
unfolding Hears
hears_asker d tag answer body next asker heard = while_asker d d.sending tag answer body next asker heard

-- ---- No chunk is asked for behind GET_VERSION.

abbrev NoneFetched : History → Type 0
NoneFetched h = is_fetching (outstanding h) ≡ true → ⊥

version_waits : (h : History) (s : Sent) → outstanding h ≡ Some s → s.aim ≡ Plain GetVersion → NoneFetched h
version_waits h s waits is gets = false≢true (sym (ap is_fetching waits ∙ ap is_for_chunk is) ∙ gets)

pub some_fetched : (o : Option Sent) → is_fetching o ≡ true → (s : Sent) × (o ≡ Some s) × (is_for_chunk s.aim ≡ true)
some_fetched None gets = absurd (false≢true gets)
some_fetched (Some s) gets = (s, refl, gets)

outcome_version : (q : ReqSetup) (h : History) (f : Free) (tag : ℕ) (answer body : List ℕ) (s : Sent) (o : Outcome) → Asker h body → outstanding h ≡ Some s → s.aim ≡ Plain GetVersion → hears q h false tag answer f no_draw ≡ o → NoneFetched (after h o)
outcome_version q h f tag answer body s (Adds entry) asker waits version is = λ gets.
    let next = heard_asked q h f tag answer body entry asker is in
    let some = some_fetched (sent_in entry) gets in
    let same : s ≡ next.0 = same_Some s next.0 (sym waits ∙ next.1) in
    (next.2 some.0 some.1).fetches some.2 (ap (λ (x : Sent). x.aim) (sym same) ∙ version)
outcome_version q h f tag answer body s (Fails fault) asker waits version is = version_waits h s waits version
outcome_version q h f tag answer body s (Ignores cause) asker waits version is = version_waits h s waits version
outcome_version q h f tag answer body s (Warns code) asker waits version is = version_waits h s waits version
outcome_version q h f tag answer body s (Resends sent) asker waits version is = version_waits h s waits version

ack_version : (whole : List ℕ) (tag : ℕ) (m : List ℕ) (h : History) (s : Sent) (b : Bool) → outstanding h ≡ Some s → s.aim ≡ Plain GetVersion → NoneFetched (cond b (with_ack_to whole tag m h (outstanding h)) h)
ack_version whole tag m h s false waits version = version_waits h s waits version
ack_version whole tag m h s true waits version =
    subst NoneFetched (sym (ap (with_ack_to whole tag m h) waits ∙ ap (with_next_piece whole tag m h) version)) (version_waits h s waits version)

while_version : (d : Dialogue) (o : Option (List ℕ)) (tag : ℕ) (answer body : List ℕ) (next : History) (s : Sent) → Asker d.requester body → outstanding d.requester ≡ Some s → s.aim ≡ Plain GetVersion → HearsWhile o d tag answer next → NoneFetched next
while_version d None tag answer body next s asker waits version heard =
    subst NoneFetched (sym heard.2) (outcome_version d.setup d.requester heard.1.0 tag answer body s heard.0 asker waits version heard.1.2)
while_version d (Some whole) tag answer body next s asker waits version heard =
    subst NoneFetched (sym heard) (ack_version whole tag (drop 1 answer) d.requester s (has_tag (outstanding d.requester) tag) waits version)

pub hears_version : (d : Dialogue) (tag : ℕ) (answer body : List ℕ) (next : History) (s : Sent) → Asker d.requester body → outstanding d.requester ≡ Some s → s.aim ≡ Plain GetVersion → Hears d tag answer next
    → is_fetching (outstanding next) ≡ true → ⊥
unfolding Hears
hears_version d tag answer body next s asker waits version heard = while_version d d.sending tag answer body next s asker waits version heard
