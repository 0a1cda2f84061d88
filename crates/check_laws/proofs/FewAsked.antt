-- The ReqSessionID of a PSK_EXCHANGE that is outstanding, or whose answer was taken, is from 1 to 4.
use Rattle.std.proofs.Common.{◌≡◌, ◌∙◌, ◌+◌, ◌⊎◌, ℕ, List, [], ◌∷◌, Bool, true, false, cond, Option, Some, None, drop, refl, sym, ap, subst, inl, inr}
use Rattle.std.proofs.lemmas.Option.{none-some, same_Some}
use Rattle.requester_machine.proofs.ClearLeads.{ClearLeads, clear_leads, exchanged}
use Rattle.requester_machine.proofs.ClearLeads.ClearLeads.{ByRefusal, ByLarge, BySend, ByGet, ByStop, ByVersion, ByCaps, ByChoice, ByMeasured, ByExchange}
use Rattle.requester_machine.proofs.Entries.{asked}
use Rattle.requester_machine.proofs.Heard.{heard}
use Rattle.requester_machine.proofs.RecordLeads.{RecordLeads, record_leads}
use Rattle.requester_machine.proofs.RecordLeads.RecordLeads.{ByEnd, ByAnswer, ByUpdate, ByFirst, ByChunk}
use Rattle.requester_machine.specs.Asking as asking
use Rattle.requester_machine.specs.Asking.{asks}
use Rattle.requester_machine.specs.Asking.Outcome.{Fails, Ignores, Warns, Resends, Adds}
use Rattle.requester_machine.specs.Bodies.{has_tag}
use Rattle.requester_machine.specs.Commands.{Free, exchange_for}
use Rattle.requester_machine.specs.Hearing.{came_to, hears}
use Rattle.requester_machine.specs.History.{Effect, Entry, History, Led, next_handle, outstanding}
use Rattle.requester_machine.specs.History.Effect.{Answers}
use Rattle.requester_machine.specs.History.Entry.{Told, TookClear, TookRecord}
use Rattle.requester_machine.specs.InnerMessages.{Came}
use Rattle.requester_machine.specs.May.{IsAllowed}
use Rattle.requester_machine.specs.Message.{Aim, Ask, Command, Sent, asked_in}
use Rattle.requester_machine.specs.Message.Aim.{Plain, ByChunks, ForChunk, InSession}
use Rattle.requester_machine.specs.Message.Command.{Connect, Open, Send, Beat, Update, Measure, End, Retry}
use Rattle.requester_machine.specs.Sending.{piece_sent, plain_sent}
use Rattle.requester_machine.specs.Setup.{ReqSetup}
use Rattle.requester_machine.specs.Shown.{after}
use Rattle.spdm_grammar.specs.Message.{ExchangeMessage, RequestMessage}
use Rattle.spdm_grammar.specs.Message.RequestMessage.{NegotiateAlgorithms, PskExchange}
use Rattle.check_laws.specs.Changes.{IsFew}
use Rattle.capture_machine.proofs.AskTells.{Kind, IsSent, kind_of, sent_by_kind}
use Rattle.capture_machine.proofs.AskTells.Kind.{InClear, OfSession, Again}
use Rattle.capture_machine.proofs.HeardNext.{either_next, none_next, some_next}
use Rattle.capture_machine.specs.CapturedAnswers.{Hears, HearsWhile}
use Rattle.capture_machine.specs.CapturedRequests.{Sends, Tells, without_owed}
use Rattle.requester_machine.specs.Owed.{with_next}
use Rattle.capture_machine.specs.LargeRequests.{first_piece, piece_with, with_ack_to, with_next_piece}
use Rattle.capture_machine.specs.Rounds.{Dialogue, no_draw}
use Rattle.capture_machine.specs.SessionTable.{accepted_in}

-- PSK_EXCHANGE has such an id.
abbrev pub FewAsked : RequestMessage → Type 0
FewAsked asked = (x : ExchangeMessage) → asked ≡ PskExchange x → IsFew x.req_id

-- So has one that a message asks for.
abbrev pub FewSent : Sent → Type 0
FewSent sent = (x : ExchangeMessage) → asked_in sent.aim ≡ Some (PskExchange x) → IsFew x.req_id

-- So has one that is outstanding.
abbrev pub FewWaiting : History → Type 0
FewWaiting h = (sent : Sent) → outstanding h ≡ Some sent → FewSent sent

pub few_sent : (asked : RequestMessage) (sent : Sent) → asked_in sent.aim ≡ Some asked → FewAsked asked → FewSent sent
few_sent asked sent is few = λ x asks. few x (same_Some asked (PskExchange x) (sym is ∙ asks))

pub none_sent : (sent : Sent) → asked_in sent.aim ≡ None → FewSent sent
none_sent sent none = λ x asks. absurd (none-some (PskExchange x) (sym none ∙ asks))

pub asked_few : (asked : RequestMessage) (sent : Sent) → asked_in sent.aim ≡ Some asked → FewSent sent → FewAsked asked
asked_few asked sent is few = λ x same. few x (is ∙ ap (λ (r : RequestMessage). Some r) same)

-- ---- A command.

pub id_in : RequestMessage → ℕ
id_in (PskExchange exchange) = exchange.req_id
id_in _ = 0

pub kind_few : (q : ReqSetup) (h : History) (f : Free) (c : Command) (a : RequestMessage) → IsAllowed q h f → kind_of q h f c ≡ InClear a → FewAsked a
unfolding id_in
kind_few q h f Connect a fits is x e = absurd (cc)
kind_few q h f (Open summary) a fits is x e =
    let same : exchange_for q f summary ≡ PskExchange x = cc in
    let id : f.id ≡ x.req_id = ap id_in same in
    subst IsFew id (fits.least, fits.most)
kind_few q h f (Send of bytes) a fits is x e = absurd (cc)
kind_few q h f (Beat of) a fits is x e = absurd (cc)
kind_few q h f (Update of all) a fits is x e = absurd (cc)
kind_few q h f (Measure None op) a fits is x e = absurd (cc)
kind_few q h f (Measure (Some of) op) a fits is x e = absurd (cc)
kind_few q h f (End of) a fits is x e = absurd (cc)
kind_few q h f Retry a fits is x e = absurd (cc)

pub by_kind : (q : ReqSetup) (h : History) (f : Free) (c : Command) (s : Sent) (kind : Kind) → IsAllowed q h f → kind_of q h f c ≡ kind → IsSent q h f kind s → FewSent s
by_kind q h f c s (InClear a) fits is sent = few_sent a s sent.1 (kind_few q h f c a fits is)
by_kind q h f c s (OfSession id ask inner) fits is sent = none_sent s (ap (λ (m : Sent). asked_in m.aim) sent)
by_kind q h f c s Again fits is sent = absurd sent

pub told_few : (q : ReqSetup) (h : History) (f : Free) (c : Command) (s : Sent) → IsAllowed q h f → asks false q h c f no_draw ≡ Adds (Told c s no_draw) → FewSent s
told_few q h f c s fits adds =
    by_kind q h f c s (kind_of q h f c) fits refl (sent_by_kind q h f c s no_draw (asked false q h c f no_draw (Told c s no_draw) adds).1)

pub tells_few : (q : ReqSetup) (h : History) (c : Command) (body : List ℕ) (next : History) → Tells q h c body next → FewWaiting next
tells_few q h c body next tells = some_next FewSent (outstanding next) tells.0 (ap outstanding tells.4) (told_few q h tells.1.0 c tells.0 tells.1.1 tells.1.2)

pub with_next_few : (h : History) (p : Sent) → FewSent p → FewWaiting h → FewWaiting (with_next (Some p) h)
with_next_few [] p few old = old
with_next_few (Told c s d ∷ older) p few old = old
with_next_few (TookClear tag m led d ∷ older) p few old = some_next FewSent (Some p) p refl few
with_next_few (TookRecord tag id sealed inner led d ∷ older) p few old = some_next FewSent (Some p) p refl few

pub piece_few : (h : History) (asked : RequestMessage) (whole : List ℕ) (handle number : ℕ) → FewAsked asked → FewSent (piece_with h asked whole handle number)
piece_few h asked whole handle number few = few_sent asked (piece_with h asked whole handle number) refl few

pub sends_few : (d : Dialogue) (body : List ℕ) (next : History) (sending : Option (List ℕ)) → FewWaiting d.requester → Sends d body next sending → FewWaiting next
unfolding Sends
sends_few d body next sending old (inl (inl connects, none)) = tells_few d.setup _ Connect body next connects
sends_few d body next sending old (inl (inr commands, none)) = tells_few d.setup d.requester commands.0 body next commands.2
sends_few d body next sending old (inr (inl goes)) = subst FewWaiting (sym goes.5) old
sends_few d body next sending old (inr (inr (whole, inl large, is))) =
    let few = asked_few large.2 large.1 large.5 (told_few d.setup d.requester large.3.0 large.0 large.1 large.3.1 large.3.2) in
    some_next FewSent (outstanding next) (first_piece d.requester large.2 whole) (ap outstanding large.8) (λ x e. few x (same_Some large.2 (PskExchange x) e))
sends_few d body next sending old (inr (inr (whole, inr owed, is))) =
    let few = asked_few owed.1 owed.0 owed.4 (old owed.0 owed.2.0) in
    subst FewWaiting (sym owed.7) (with_next_few d.requester (first_piece (without_owed d) owed.1 whole) (λ x e. few x (same_Some owed.1 (PskExchange x) e)) old)

-- ---- An answer.

pub clear_few : (q : ReqSetup) (h : History) (f : Free) (aim : Aim) (m : List ℕ) (asked : RequestMessage) (led : Led) → FewAsked asked → ClearLeads q h f aim m asked led → (s : Sent) → led.next ≡ Some s → FewSent s
clear_few q h f aim m asked led few (ByRefusal code is) = none_next FewSent led.next (ap (λ (l : Led). l.next) is)
clear_few q h f aim m asked led few (ByLarge handle may is) = some_next FewSent led.next _ (ap (λ (l : Led). l.next) is) (λ x e. few x (same_Some asked (PskExchange x) e))
clear_few q h f aim m asked led few (BySend handle number aims last is) = some_next FewSent led.next _ (ap (λ (l : Led). l.next) is) (λ x e. few x (same_Some asked (PskExchange x) e))
clear_few q h f aim m asked led few (ByGet handle number before c aims none last is) = some_next FewSent led.next _ (ap (λ (l : Led). l.next) is) (λ x e. few x (same_Some asked (PskExchange x) e))
clear_few q h f aim m asked led few (ByStop why may is) = none_next FewSent led.next (ap (λ (l : Led). l.next) is)
clear_few q h f aim m asked led few (ByVersion answer asks is) = some_next FewSent led.next _ (ap (λ (l : Led). l.next) is) (λ x e. absurd (cc))
clear_few q h f aim m asked led few (ByCaps caps theirs answer common offer asks read settled offers short is) =
    some_next FewSent led.next _ (ap (λ (l : Led). l.next) is)
    (either_next FewSent _ (piece_sent common h (NegotiateAlgorithms offer) (next_handle h) 0) (plain_sent h (NegotiateAlgorithms offer)) (λ x e. absurd (cc)) (λ x e. absurd (cc)))
clear_few q h f aim m asked led few (ByChoice offer answer asks is) = none_next FewSent led.next (ap (λ (l : Led). l.next) is)
clear_few q h f aim m asked led few (ByMeasured op answer finish asks is) = none_next FewSent led.next (ap (λ (l : Led). l.next) is)
clear_few q h f aim m asked led few (ByExchange exchange answer rsp asks read right is) = some_next FewSent led.next _ (ap (λ (l : Led). l.next) is) (λ x e. absurd (none-some (PskExchange x) e))

pub record_few : (q : ReqSetup) (h : History) (f : Free) (came : Came) (ask : Ask) (led : Led) → RecordLeads q h f came ask led → (s : Sent) → led.next ≡ Some s → FewSent s
record_few q h f came ask led (ByEnd ends none) = none_next FewSent led.next none
record_few q h f came ask led (ByAnswer ends updates brings none) = none_next FewSent led.next none
record_few q h f came ask led (ByUpdate all asks is) = some_next FewSent led.next _ (ap (λ (l : Led). l.next) is) (λ x e. absurd (none-some (PskExchange x) e))
record_few q h f came ask led (ByFirst op handle follows is) = some_next FewSent led.next _ (ap (λ (l : Led). l.next) is) (λ x e. absurd (none-some (PskExchange x) e))
record_few q h f came ask led (ByChunk op handle number before c asks none last is) = some_next FewSent led.next _ (ap (λ (l : Led). l.next) is) (λ x e. absurd (none-some (PskExchange x) e))

-- What an answer was taken to.
abbrev pub FewAccepted : History → Type 0
FewAccepted h = (id : ℕ) → accepted_in h ≡ Some id → IsFew id

pub effect_few : (tag : ℕ) (m : List ℕ) (led : Led) (h : History) (e : Effect) → ((x : ExchangeMessage) (a : List ℕ) → e ≡ Answers (PskExchange x) a → IsFew x.req_id) → FewAccepted (TookClear tag m (record led { effect = e }) no_draw ∷ h)
effect_few tag m led h (Answers (PskExchange x) a) few id is = subst IsFew (same_Some x.req_id id is) (few x a refl)
effect_few tag m led h _ few id is = absurd (none-some id is)

-- Nothing was taken, or what was taken is so.
pub record Heard (h next : History) : Type 0 where
  pub waits : FewWaiting next
  pub takes : (next ≡ h) ⊎ FewAccepted next

pub added_few : (q : ReqSetup) (h : History) (tag : ℕ) (body : List ℕ) (f : Free) (entry : Entry) → FewWaiting h → hears q h false tag body f no_draw ≡ Adds entry → Heard h (entry ∷ h)
added_few q h tag body f entry old adds = elim (heard q h false tag body f no_draw entry adds) [
  | inl taken ↦
      let few : FewAsked taken.asked = asked_few taken.asked taken.sent taken.asks (old taken.sent taken.waits) in
      let leads = clear_leads q h f taken.sent.aim (drop 1 body) taken.asked taken.led taken.asks taken.leads in
      subst (λ (e : Entry). Heard h (e ∷ h)) (sym taken.is) (record {
        waits = clear_few q h f taken.sent.aim (drop 1 body) taken.asked taken.led few leads;
        takes = inr (effect_few tag (drop 1 body) taken.led h taken.led.effect
            (λ x a brings. few x (exchanged q h f taken.sent.aim (drop 1 body) taken.asked taken.led x a leads brings).asks));
      })
  | inr opened ↦
      let o = opened.1 in
      let came = came_to q h o.id o.ask (drop 1 body) in
      subst (λ (e : Entry). Heard h (e ∷ h)) (sym o.is) (record {
        waits = record_few q h f came o.ask _ (record_leads q h f came o.ask);
        takes = inr (λ id is. absurd (none-some id is));
      })
]

pub outcome_few : (q : ReqSetup) (h : History) (tag : ℕ) (body : List ℕ) (f : Free) (outcome : asking.Outcome) → FewWaiting h → hears q h false tag body f no_draw ≡ outcome → Heard h (after h outcome)
outcome_few q h tag body f (Fails fault) old is = record { waits = old; takes = inl refl }
outcome_few q h tag body f (Ignores cause) old is = record { waits = old; takes = inl refl }
outcome_few q h tag body f (Warns code) old is = record { waits = old; takes = inl refl }
outcome_few q h tag body f (Resends sent) old is = record { waits = old; takes = inl refl }
outcome_few q h tag body f (Adds entry) old is = added_few q h tag body f entry old is

pub piece_heard : (whole : List ℕ) (tag : ℕ) (m : List ℕ) (h : History) (aim : Aim) (sent : Sent) → FewWaiting h → outstanding h ≡ Some sent → sent.aim ≡ aim → Heard h (with_next_piece whole tag m h aim)
piece_heard whole tag m h (ByChunks asked handle number) sent old waits aims = record {
  waits = some_next FewSent _ (piece_with h asked whole handle (number + 1)) refl (piece_few h asked whole handle (number + 1) (asked_few asked sent (ap asked_in aims) (old sent waits)));
  takes = inr (λ id is. absurd (none-some id is));
}
piece_heard whole tag m h (Plain asked) sent old waits aims = record { waits = old; takes = inl refl }
piece_heard whole tag m h (ForChunk asked handle number before) sent old waits aims = record { waits = old; takes = inl refl }
piece_heard whole tag m h (InSession id ask) sent old waits aims = record { waits = old; takes = inl refl }

pub ack_heard : (whole : List ℕ) (tag : ℕ) (m : List ℕ) (h : History) (o : Option Sent) → FewWaiting h → outstanding h ≡ o → Heard h (with_ack_to whole tag m h o)
ack_heard whole tag m h None old waits = record { waits = old; takes = inl refl }
ack_heard whole tag m h (Some sent) old waits = piece_heard whole tag m h sent.aim sent old waits refl

pub tagged_heard : (whole : List ℕ) (tag : ℕ) (m : List ℕ) (h : History) (b : Bool) → FewWaiting h → Heard h (cond b (with_ack_to whole tag m h (outstanding h)) h)
tagged_heard whole tag m h true old = ack_heard whole tag m h (outstanding h) old refl
tagged_heard whole tag m h false old = record { waits = old; takes = inl refl }

pub heard_while : (d : Dialogue) (o : Option (List ℕ)) (tag : ℕ) (answer : List ℕ) (next : History) → FewWaiting d.requester → HearsWhile o d tag answer next → Heard d.requester next
heard_while d None tag answer next old hears = subst (Heard d.requester) (sym hears.2) (outcome_few d.setup d.requester tag answer hears.1.0 hears.0 old hears.1.2)
heard_while d (Some whole) tag answer next old hears =
    subst (Heard d.requester) (sym hears) (tagged_heard whole tag (drop 1 answer) d.requester (has_tag (outstanding d.requester) tag) old)

pub hears_few : (d : Dialogue) (tag : ℕ) (answer : List ℕ) (next : History) → FewWaiting d.requester → Hears d tag answer next → Heard d.requester next
unfolding Hears
hears_few d tag answer next old hears = heard_while d d.sending tag answer next old hears
