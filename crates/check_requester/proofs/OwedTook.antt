-- A message that a requester owes was sent on a message that it took, and a history has no more entries than there are
-- packets.
use Rattle.std.proofs.Common.{◌≡◌, ◌≤◌, ◌<◌, ◌+◌, ◌-◌, ◌^◌, ◌⊎◌, ℕ, List, [], ◌∷◌, refl, sym, ap, ◌∙◌, subst, length, drop, Bool, true, false, Option, Some, None, Result, Ok, Err, cond, inl, inr, arith}
use Rattle.std.specs.Prelude.{MatchBool}
use Rattle.std.proofs.lemmas.Bool.{false≢true}
use Rattle.std.proofs.lemmas.Option.{none-some, same_Some}
use Rattle.requester_core.specs.Owed.{TookFor}
use Rattle.mctp_framing.specs.Gathering.{Gathered}
use Rattle.mctp_framing.specs.Gathering.Gathered.{Whole, More, Dropped}
use Rattle.mctp_framing.specs.Packet.{PacketFields, parsed}
use Rattle.requester_machine.proofs.Heard.{heard}
use Rattle.requester_machine.proofs.RecordLeads.{RecordLeads, record_leads}
use Rattle.requester_machine.proofs.RecordLeads.RecordLeads.{ByEnd, ByAnswer, ByUpdate, ByFirst, ByChunk}
use Rattle.requester_machine.specs.Asking.{Outcome}
use Rattle.requester_machine.specs.Asking.Outcome.{Adds, Fails, Ignores, Resends, Warns}
use Rattle.requester_machine.specs.Bodies.{has_tag}
use Rattle.requester_machine.specs.Commands.{Free}
use Rattle.requester_machine.specs.Hearing.{came_to, hears}
use Rattle.requester_machine.specs.History.{Entry, History, Led, outstanding, sent_in}
use Rattle.requester_machine.specs.History.Entry.{Told, TookClear, TookRecord}
use Rattle.requester_machine.specs.InnerMessages.{Came}
use Rattle.requester_machine.specs.Message.{Aim, Ask, Sent}
use Rattle.requester_machine.specs.Message.Aim.{ByChunks, ForChunk, InSession, Plain}
use Rattle.requester_machine.specs.Session.{session_of}
use Rattle.requester_machine.specs.Setup.{ReqSetup}
use Rattle.requester_machine.specs.Shown.{after}
use Rattle.spdm_basis.specs.declared.PacketFault.{PacketFault}
use Rattle.spdm_machine.specs.Keys.{Draw}
use Rattle.spdm_machine.specs.Packets.{gathered_from}
use Rattle.check_laws.proofs.KeptParts.{none_later, none_owed, owed_is}
use Rattle.check_laws.proofs.OneWalk.{walks_alike}
use Rattle.check_laws.specs.Keeping.{Kept, kept_of, restored}
use Rattle.check_requester.specs.JudgedRequester.{Carries}
use Rattle.check_laws.specs.Order.{is_answer, is_request}
use Rattle.check_laws.specs.Padding.{session_asked}
use Rattle.requester_machine.specs.Owed.{sent_with}
use Rattle.check_laws.specs.Walks.{StepsBy, StepsTo, Walks}
use Rattle.capture_machine.proofs.AskersAlike.{AskersAlike}
use Rattle.capture_machine.proofs.AskersAlike.AskersAlike.{Settled, Owing, Shown, Due}
use Rattle.capture_machine.proofs.AskersStep.{owed}
use Rattle.capture_machine.proofs.HearsAlike.{EntryAlike}
use Rattle.capture_machine.specs.Capture.{AsksBy, Begins, Copies, RepliesBy}
use Rattle.capture_machine.specs.CapturedAnswers.{Hears, HearsWhile}
use Rattle.capture_machine.specs.CapturedRequests.{BeginsLarge, BeginsOwed, Sends, is_later, owes, without_owed}
use Rattle.requester_machine.specs.Owed.{with_next}
use Rattle.capture_machine.specs.LargeRequests.{first_piece, with_ack_to, with_next_piece}
use Rattle.capture_machine.specs.Rounds.{Dialogue, Round}
use Rattle.world_machine.specs.Setup.{Configuration}

-- ---- Upon a record a record of the same session is sent, if one is.

abbrev pub IsAimed : (of : ℕ) → Aim → Type 0
IsAimed of (InSession id ask) = of ≡ id
IsAimed of _ = Unit {0}

abbrev pub IsSentUpon : (of : ℕ) → Option Sent → Type 0
IsSentUpon of None = Unit {0}
IsSentUpon of (Some sent) = IsAimed of sent.aim

-- So it is of the newest entry.
abbrev pub IsNewest : History → Type 0
IsNewest [] = Unit {0}
IsNewest (Told command sent d ∷ older) = Unit {0}
IsNewest (TookClear tag m led d ∷ older) = Unit {0}
IsNewest (TookRecord tag of sealed inner led d ∷ older) = IsSentUpon of led.next

upon_record : (q : ReqSetup) (h : History) (f : Free) (came : Came) (ask : Ask) (led : Led) → RecordLeads q h f came ask led → IsSentUpon came.id led.next
upon_record q h f came ask led (ByEnd over none) = subst (IsSentUpon came.id) (sym none) tt
upon_record q h f came ask led (ByAnswer over updates brings none) = subst (IsSentUpon came.id) (sym none) tt
upon_record q h f came ask led (ByUpdate all asks is) = subst (λ (l : Led). IsSentUpon came.id l.next) (sym is) refl
upon_record q h f came ask led (ByFirst op handle follows is) = subst (λ (l : Led). IsSentUpon came.id l.next) (sym is) refl
upon_record q h f came ask led (ByChunk op handle number before c asks none last is) = subst (λ (l : Led). IsSentUpon came.id l.next) (sym is) refl

pub heard_newest : (q : ReqSetup) (h : History) (owner : Bool) (tag : ℕ) (body : List ℕ) (f : Free) (d : Draw) (e : Entry) → hears q h owner tag body f d ≡ Adds e → IsNewest (e ∷ h)
heard_newest q h owner tag body f d e adds = elim (heard q h owner tag body f d e adds) [
  | inl taken ↦ subst (λ (x : Entry). IsNewest (x ∷ h)) (sym taken.is) tt
  | inr opened ↦ subst (λ (x : Entry). IsNewest (x ∷ h)) (sym opened.1.is)
      (upon_record q h f (came_to q h opened.1.id opened.1.ask (drop 1 body)) opened.1.ask _ (record_leads q h f (came_to q h opened.1.id opened.1.ask (drop 1 body)) opened.1.ask))
]

-- ---- A step of a walk.

-- It is so of a history of at most so many entries.
record IsGrown (n : ℕ) (h : History) : Type 0 where
  newest : IsNewest h
  short : length h ≤ n

same_grown : (n : ℕ) (h : History) → IsGrown n h → IsGrown (n + 1) h
same_grown n h g = record { newest = g.newest; short = (let s = g.short in omega (arith, s)) }

pub same_long : (next : Option Sent) (h : History) → length (with_next next h) ≡ length h
same_long next [] = refl
same_long next (Told command sent d ∷ h) = refl
same_long next (TookClear tag m led d ∷ h) = refl
same_long next (TookRecord tag of sealed inner led d ∷ h) = refl

pub bare_long : (d : Dialogue) → length (without_owed d) ≡ length d.requester
bare_long d = by_owes (owes d)
  where
    by_owes : (b : Bool) → length (cond b (with_next None d.requester) d.requester) ≡ length d.requester
    by_owes true = same_long None d.requester
    by_owes false = refl

told_grown : (q : ReqSetup) (n : ℕ) (h next : History) (e : Entry) → next ≡ e ∷ h → IsNewest (e ∷ h) → length h ≤ n → IsGrown (n + 1) next
told_grown q n h next e is newest few = subst (IsGrown (n + 1)) (sym is) (record { newest = newest; short = omega (arith, few) })

chunk_newest : (x : Sent) (h : History) → ((of : ℕ) → IsAimed of x.aim) → IsNewest (with_next (Some x) h)
chunk_newest x [] is = tt
chunk_newest x (Told command sent d ∷ h) is = tt
chunk_newest x (TookClear tag m led d ∷ h) is = tt
chunk_newest x (TookRecord tag of sealed inner led d ∷ h) is = is of

sends_grown : (d : Dialogue) (body : List ℕ) (next : History) (sending : Option (List ℕ)) (n : ℕ) → Sends d body next sending → IsGrown n d.requester → IsGrown (n + 1) next
unfolding Sends
sends_grown d body next sending n (inl (inl c, none)) g = told_grown d.setup n (without_owed d) next _ c.4 tt (let s = g.short in let l = bare_long d in omega (arith, s, l))
sends_grown d body next sending n (inl (inr c, none)) g = told_grown d.setup n d.requester next _ c.2.4 tt g.short
sends_grown d body next sending n (inr (inl c)) g = subst (IsGrown (n + 1)) (sym c.5) (same_grown n d.requester g)
sends_grown d body next sending n (inr (inr c)) g = by_kind c.1
  where
    by_kind : BeginsLarge d body next c.0 ⊎ BeginsOwed d body next c.0 → IsGrown (n + 1) next
    by_kind (inl l) = told_grown d.setup n d.requester next _ l.8 tt g.short
    by_kind (inr l) = subst (IsGrown (n + 1)) (sym l.7) ((let x : Sent = first_piece (without_owed d) l.1 c.0 in record {
      newest = chunk_newest x d.requester (λ of. tt);
      short = (let s = g.short in let e = same_long (Some x) d.requester in omega (arith, s, e));
    }))

outcome_grown : (n : ℕ) (q : ReqSetup) (h : History) (tag : ℕ) (body : List ℕ) (f : Free) (d : Draw) (o : Outcome) → hears q h false tag body f d ≡ o → IsGrown n h → IsGrown (n + 1) (after h o)
outcome_grown n q h tag body f d (Fails fault) is g = same_grown n h g
outcome_grown n q h tag body f d (Ignores cause) is g = same_grown n h g
outcome_grown n q h tag body f d (Warns code) is g = same_grown n h g
outcome_grown n q h tag body f d (Resends sent) is g = same_grown n h g
outcome_grown n q h tag body f d (Adds e) is g = record { newest = heard_newest q h false tag body f d e is; short = (let s = g.short in omega (arith, s)) }

piece_grown : (n : ℕ) (whole : List ℕ) (tag : ℕ) (m : List ℕ) (h : History) (aim : Aim) → IsGrown n h → IsGrown (n + 1) (with_next_piece whole tag m h aim)
piece_grown n whole tag m h (Plain asked) g = same_grown n h g
piece_grown n whole tag m h (ByChunks asked handle number) g = record { newest = tt; short = (let s = g.short in omega (arith, s)) }
piece_grown n whole tag m h (ForChunk asked handle number before) g = same_grown n h g
piece_grown n whole tag m h (InSession id ask) g = same_grown n h g

ack_grown : (n : ℕ) (whole : List ℕ) (tag : ℕ) (m : List ℕ) (h : History) (b : Bool) (o : Option Sent) → IsGrown n h → IsGrown (n + 1) (cond b (with_ack_to whole tag m h o) h)
ack_grown n whole tag m h true None g = same_grown n h g
ack_grown n whole tag m h true (Some sent) g = piece_grown n whole tag m h sent.aim g
ack_grown n whole tag m h false o g = same_grown n h g

hears_grown : (d : Dialogue) (tag : ℕ) (answer : List ℕ) (next : History) (n : ℕ) → Hears d tag answer next → IsGrown n d.requester → IsGrown (n + 1) next
unfolding Hears
hears_grown d tag answer next n one g = by_sending d.sending one
  where
    by_sending : (o : Option (List ℕ)) → HearsWhile o d tag answer next → IsGrown (n + 1) next
    by_sending None c = subst (IsGrown (n + 1)) (sym c.2) (outcome_grown n d.setup d.requester tag answer c.1.0 _ c.0 c.1.2 g)
    by_sending (Some whole) c = subst (IsGrown (n + 1)) (sym c) (ack_grown n whole tag (drop 1 answer) d.requester (has_tag (outstanding d.requester) tag) (outstanding d.requester) g)

asks_grown : (d next : Dialogue) (g : Gathered) (n : ℕ) → AsksBy d g next → IsGrown n d.requester → IsGrown (n + 1) next.requester
asks_grown d next (Whole route body) n c grown = by_kind c.2
  where
    by_kind : Copies d route.tag body next ⊎ Begins d route.tag body next → IsGrown (n + 1) next.requester
    by_kind (inl k) = subst (λ (x : Dialogue). IsGrown (n + 1) x.requester) (sym k.4) (same_grown n d.requester grown)
    by_kind (inr k) = subst (λ (x : Dialogue). IsGrown (n + 1) x.requester) (sym k.2.3) (sends_grown d body k.2.0 k.2.1 n k.2.2 grown)
asks_grown d next More n c grown = subst (λ (x : Dialogue). IsGrown (n + 1) x.requester) (sym c) (same_grown n d.requester grown)
asks_grown d next (Dropped cause) n c grown = absurd c

replies_grown : (w : Configuration) (d next : Dialogue) (g : Gathered) (n : ℕ) → RepliesBy w d g next → IsGrown n d.requester → IsGrown (n + 1) next.requester
replies_grown w d next (Whole route body) n c grown =
    let k = c.2 in subst (λ (x : Dialogue). IsGrown (n + 1) x.requester) (sym k.4.3.2) (hears_grown d route.tag body k.4.3.0 n k.4.3.1 grown)
replies_grown w d next More n c grown = subst (λ (x : Dialogue). IsGrown (n + 1) x.requester) (sym c) (same_grown n d.requester grown)
replies_grown w d next (Dropped cause) n c grown = absurd c

steps_grown : (w : Configuration) (eid : ℕ) (older : List (List ℕ)) (d next : Dialogue) (r : Result PacketFields PacketFault) (n : ℕ) → StepsBy w eid older d next r → IsGrown n d.requester → IsGrown (n + 1) next.requester
steps_grown w eid older d next (Err fault) n step grown = subst (λ (x : Dialogue). IsGrown (n + 1) x.requester) (sym step) (same_grown n d.requester grown)
steps_grown w eid older d next (Ok p) n step grown = by_ends (is_request w.responder.eid eid p) (is_answer w.responder.eid eid p) step
  where
    by_ends : (b c : Bool) → MatchBool b (AsksBy d (gathered_from w.responder.eid eid older p) next) (MatchBool c (RepliesBy w d (gathered_from eid w.responder.eid older p) next) (next ≡ d)) → IsGrown (n + 1) next.requester
    by_ends true c asks = asks_grown d next (gathered_from w.responder.eid eid older p) n asks grown
    by_ends false true replies = replies_grown w d next (gathered_from eid w.responder.eid older p) n replies grown
    by_ends false false same = subst (λ (x : Dialogue). IsGrown (n + 1) x.requester) (sym same) (same_grown n d.requester grown)

walks_grown : (w : Configuration) (q : ReqSetup) (older : List (List ℕ)) (d : Dialogue) → Walks w q older d → IsGrown (length older) d.requester
unfolding StepsTo
walks_grown w q [] d walk = subst (λ (x : Dialogue). IsGrown 0 x.requester) (sym walk) (record { newest = tt; short = omega arith })
walks_grown w q (packet ∷ older) d walk =
    let more : length older + 1 ≡ length (packet ∷ older) = omega arith in
    subst (λ (n : ℕ). IsGrown n d.requester) more (steps_grown w q.eid older walk.0 d (parsed packet) (length older) walk.2 (walks_grown w q older walk.0 walk.1))

-- ---- What is kept.

-- The history has no more entries than there are packets.
pub kept_short : (w : Configuration) (q : ReqSetup) (older : List (List ℕ)) (k : Kept) → Carries w q older k → length k.requester ≤ length older
kept_short w q older k carries =
    let s = (walks_grown w q older (record (restored k) { fetching = carries.0 }) carries.1).short in
    let l = bare_long (restored k) in
    subst (λ (x : Kept). length x.requester ≤ length older) carries.2 (omega (arith, s, l))

pub kept_few : (w : Configuration) (q : ReqSetup) (older : List (List ℕ)) (k : Kept) → Carries w q older k → length older < 2 ^ 64 - 1 → length k.requester < 2 ^ 64 - 1
kept_few w q older k carries few = (let s = kept_short w q older k carries in omega (arith, s, few))

entry_took : (e f : Entry) (h : History) → EntryAlike e f → IsNewest (e ∷ h) → (s : Sent) → sent_in e ≡ Some s → TookFor (with_next None (e ∷ h)) s.aim
entry_took (TookClear tag m led d) f h alike newest s is = by_aim s.aim
  where
    by_aim : (aim : Aim) → TookFor (TookClear tag m (record led { next = None }) d ∷ h) aim
    by_aim (Plain asked) = refl
    by_aim (ByChunks asked handle number) = refl
    by_aim (ForChunk asked handle number before) = refl
    by_aim (InSession id ask) = refl
entry_took (TookRecord tag of sealed inner led d) f h alike newest s is = by_aim s.aim (subst (IsSentUpon of) is newest)
  where
    by_aim : (aim : Aim) → IsAimed of aim → TookFor (TookRecord tag of sealed inner (record led { next = None }) d ∷ h) aim
    by_aim (Plain asked) same = refl
    by_aim (ByChunks asked handle number) same = refl
    by_aim (ForChunk asked handle number before) same = refl
    by_aim (InSession id ask) same = (refl, same)
entry_took (Told c x d) f h alike newest s is = absurd alike

took_by : (round : Option Round) (h g : History) (sd se : Option (List ℕ)) → AskersAlike round h g sd se → sd ≡ None → is_later round (outstanding h) ≡ true → IsNewest h → (s : Sent) → outstanding h ≡ Some s → TookFor (with_next None h) s.aim
took_by round _ _ _ _ (Settled h g agree not at) none later newest s is = absurd (false≢true (sym not ∙ later))
took_by round _ _ _ _ (Owing e f h g x t agree alike out sent like tagged else still at) none later newest s is = entry_took e f h alike newest s is
took_by round _ _ _ _ (Shown h g w v a b handle number x t u waits wait aims aim tags not at) none later newest s is = absurd (none-some w (sym none))
took_by round _ _ _ _ (Due tag m h g w v a b handle number u still at) none later newest s is = absurd (none-some w (sym none))

took_of : (d : Dialogue) → AskersAlike d.round d.requester d.requester d.sending d.sending → d.sending ≡ None → IsNewest d.requester → (sent : Sent) → (kept_of d).owed ≡ Some sent → (b : Bool) → owes d ≡ b → (o : Option Sent) → outstanding d.requester ≡ o
    → TookFor (without_owed d) sent.aim
took_of d alike none newest sent has false not o waits = absurd (none-some sent (sym (none_owed d not) ∙ has))
took_of d alike none newest sent has true is None waits = absurd (false≢true (sym (ap (is_later d.round) waits ∙ none_later d.round) ∙ is))
took_of d alike none newest sent has true is (Some s) waits =
    let mine : Sent = sent_with d.setup.psk (session_of (session_asked s.aim) (with_next None d.requester)) [] s in
    let same : mine ≡ sent = same_Some mine sent (sym (owed_is d s is waits) ∙ has) in
    let took : TookFor (with_next None d.requester) s.aim = took_by d.round d.requester d.requester d.sending d.sending alike none is newest s waits in
    subst (λ (x : Sent). TookFor (without_owed d) x.aim) same (subst (λ (l : History). TookFor l s.aim) (sym (owed d is)) took)

-- The message that is owed was sent on one that was taken.
pub owed_took : (w : Configuration) (q : ReqSetup) (older : List (List ℕ)) (k : Kept) (sent : Sent) → Carries w q older k → k.owed ≡ Some sent → TookFor k.requester sent.aim
owed_took w q older k sent carries is =
    let d : Dialogue = record (restored k) { fetching = carries.0 } in
    let alike = (walks_alike w q older d d carries.1 carries.1).alike.askers in
    let took = took_of d alike refl (walks_grown w q older d carries.1).newest sent (ap (λ (x : Kept). x.owed) carries.2 ∙ is) (owes d) refl (outstanding d.requester) refl in
    subst (λ (x : Kept). TookFor x.requester sent.aim) carries.2 took
