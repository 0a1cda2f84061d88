-- A chunk of a large response in the clear, and what is gathered.
use Rattle.std.proofs.Common.{refl, ◌≡◌, ◌∙◌, ◌+◌, ℕ, List, [], Bool, true, false, Option, Some, None, ap, sym, subst, eq-eqb, eqb-true}
use Rattle.std.specs.Prelude.{◌==◌, if◌then◌else◌, not, unwrap_or, Result, Ok, Err}
use Rattle.std.proofs.lemmas.Bool.{false≢true}
use Rattle.chunking.specs.Collecting as chunks
use Rattle.chunking.specs.Collecting.{answer_from, broken_rule, joined_with}
use Rattle.chunking.specs.Keeping as keeping
use Rattle.requester_machine.specs.Answers.{goes_on}
use Rattle.negotiate.specs.declared.shared.Common.{Common}
use Rattle.requester_machine.specs.Bodies.{error_in, first_cause}
use Rattle.requester_machine.specs.ClearAnswers.{Carried, ack_carries, ack_tests, acknowledged, carried_by, carried_led, chunk_carries, get_fault}
use Rattle.requester_machine.specs.ClearAnswers.Carried.{Further, Refused, Whole}
use Rattle.requester_machine.specs.History.{History, Led, outstanding}
use Rattle.requester_machine.specs.History.Effect.{Nothing}
use Rattle.requester_machine.specs.Holds.{Holds, Waits}
use Rattle.requester_machine.specs.Sending.{piece_sent}
use Rattle.requester_machine.specs.Message.{Aim, Sent}
use Rattle.requester_machine.specs.Message.Aim.{ForChunk}
use Rattle.requester_machine.specs.Setup.{ReqSetup}
use Rattle.requester_machine.specs.UnderWay.{AreUnderWay, IsOutstanding}
use Rattle.spdm_grammar.specs.Message.{ChunkMessage, RequestMessage, ResponseMessage, response_message}
use Rattle.spdm_grammar.specs.declared.messages.part_faults.ChunkFault.{ChunkFault}
use Rattle.spdm_grammar.specs.declared.messages.part_faults.ChunkFault.TheVariants.{WrongHandle, WrongNumber}
use Rattle.spdm_grammar.specs.declared.messages.response.Response.{Response}
use Rattle.spdm_grammar.specs.declared.messages.response.Response.TheVariants as responses
use Rattle.spdm_grammar.specs.Message.ResponseMessage.{ChunkSendAck, Error}
use Rattle.spdm_grammar.specs.declared.told.event.ReqIgnored.{ReqIgnored}
use Rattle.spdm_grammar.specs.declared.told.event.ReqIgnored.TheVariants as ignored
use Rattle.spdm_grammar.specs.declared.messages.malformed.Malformed.{Malformed}
use Rattle.requester_core.specs.Gathering.{Gathered, Gathers, IsGathered, IsGatheredFor, Leaves, is_other}
use Rattle.requester_core.specs.ReplyOutcome.{IsAnswered, IsCarried, IsLed, IsTaken, changes_nothing, is_large, is_no_get}
use Rattle.requester_core.specs.ClearState.{Seen}
use Rattle.requester_core.specs.declared.clear.reply_outcome.ReplyOutcome as seen_led
use Rattle.requester_core.specs.declared.clear.reply_outcome.ReplyOutcome.TheVariants as seen
use Rattle.requester_core.proofs.Answered.{any_free}
use Rattle.requester_core.proofs.NoGets.{no_get_gathers}
use Rattle.requester_core.proofs.Taken.{carried_leads}

-- ---- Which chunk it is.

other_by : (a b : Bool) (rule : Option ChunkFault) (fault : ChunkFault) → Some fault ≡ (if not a then Some WrongHandle else (if not b then Some WrongNumber else None))
    → (if not a then Some WrongHandle else (if not b then Some WrongNumber else rule)) ≡ Some fault
other_by true true rule fault e = absurd (cc e)
other_by true false rule fault e = sym e
other_by false b rule fault e = sym e

pub other_fault : (max handle number : ℕ) (before : List ChunkMessage) (c : ChunkMessage) (fault : ChunkFault) → Some fault ≡ is_other handle number c → get_fault max handle number before c ≡ Some fault
other_fault max handle number before c fault e = other_by (c.handle == handle) (c.number == number) (broken_rule max before c) fault e

same_by : (a b : Bool) → None ≡ (if not a then Some WrongHandle else (if not b then Some WrongNumber else None)) → (a ≡ true) × (b ≡ true)
same_by true true e = (refl, refl)
same_by true false e = absurd (cc e)
same_by false b e = absurd (cc e)

pub same_chunk : (handle number : ℕ) (c : ChunkMessage) → None ≡ is_other handle number c → (c.handle ≡ handle) × (c.number ≡ number)
same_chunk handle number c e = (let is = same_by (c.handle == handle) (c.number == number) e in (eqb-true c.handle handle is.0, eqb-true c.number number is.1))

-- The rule that it breaks as the one that was asked for.
pub own_rule : (max : ℕ) (before : List ChunkMessage) (c : ChunkMessage) → get_fault max c.handle c.number before c ≡ broken_rule max before c
own_rule max before c =
    ap (λ (b : Bool). if not b then Some WrongHandle else (if not (c.number == c.number) then Some WrongNumber else broken_rule max before c)) (eq-eqb c.handle c.handle refl)
    ∙ ap (λ (b : Bool). if not b then Some WrongNumber else broken_rule max before c) (eq-eqb c.number c.number refl)

-- What the collector answers, by the chunks in progress.
pub collected_here : (max most handle number : ℕ) (before : List ChunkMessage) (c : ChunkMessage) → max ≡ most → AreUnderWay most handle number before
    → chunks.collected max before c ≡ answer_from (broken_rule most before c) c (joined_with before c)
collected_here max most handle number before c same under =
    ap (λ (n : ℕ). chunks.collected n before c) same ∙ ap (λ (x : List ChunkMessage). answer_from (broken_rule most x c) c (joined_with x c)) under.whole

-- A response that is neither ERROR nor CHUNK_RESPONSE.
pub other_get : (q : ReqSetup) (h : History) (request : RequestMessage) (handle number : ℕ) (before : List ChunkMessage) (r : Response)
    → ((version code detail : ℕ) (extended : _) → r ≡ responses.Error version code detail extended → ⊥) → ((chunk : _) → r ≡ responses.ChunkResponse chunk → ⊥)
    → chunk_carries q h request handle number before (Ok (response_message r)) ≡ Carried.Ignored (ignored.Malformed 1)
other_get q h request handle number before (responses.Error version code detail extended) no_error no_chunk = absurd (no_error version code detail extended refl)
other_get q h request handle number before (responses.ChunkResponse chunk) no_error no_chunk = absurd (no_chunk chunk refl)
other_get q h request handle number before _ no_error no_chunk = refl

-- ---- What is gathered.

pub gathered_as : (q : ReqSetup) (h : History) (sent : Sent) (request : RequestMessage) (m : List ℕ) (led : seen_led.ReplyOutcome) (old new : Seen) (out : List ℕ) (before after : keeping.Kept)
    → IsTaken q h sent request m led old new out → Leaves q (carried_by q h m sent.aim) led before after → is_large led ≡ false → Gathered q h sent request m led before after
gathered_as q h sent request m (seen.Ignored cause) old new out before after taken leaves other = leaves
gathered_as q h sent request m (seen.Rests told) old new out before after taken leaves other = λ f led ok.
    let is = (taken f).0 in
    let same : is.0 ≡ led = (let e : Ok is.0 ≡ Ok led = sym is.1 ∙ ok in cc e) in
    let none = ap (λ (l : Led). l.next) (sym same) ∙ is.2.next in
    record { max = leaves; chunks = subst (λ (o : Option Sent). IsGatheredFor o after) (sym none) tt }
gathered_as q h sent request m (seen.Sends tag) old new out before after taken leaves other = λ f led ok.
    let is = (taken f).0 in
    let same : is.0 ≡ led = (let e : Ok is.0 ≡ Ok led = sym is.1 ∙ ok in cc e) in
    let some = ap (λ (l : Led). l.next) (sym same) ∙ is.4.next in
    record { max = leaves; chunks = subst (λ (o : Option Sent). IsGatheredFor o after) (sym some) (no_get_gathers is.2.aim after is.3) }
gathered_as q h sent request m (seen.Large tag) old new out before after taken leaves other = absurd (false≢true (sym other))
gathered_as q h sent request m (seen.More tag) old new out before after taken leaves other = λ f led ok.
    let leads = carried_leads q h f sent request m (carried_by q h m sent.aim) refl ∙ ap (carried_led q h f request) leaves.1 in
    let same : goes_on Nothing leaves.0 ≡ led = (let e : Ok (goes_on Nothing leaves.0) ≡ Ok led = sym leads ∙ ok in cc e) in
    subst (λ (l : Led). Gathers q l.next after) same leaves.2
gathered_as q h sent request m seen.Exchange old new out before after taken leaves other = leaves

-- The collector was cleared for a large response.
pub large_gathered : (q : ReqSetup) (h : History) (sent : Sent) (request : RequestMessage) (m : List ℕ) (led : seen_led.ReplyOutcome) (old new : Seen) (out : List ℕ) (before after cleared : keeping.Kept)
    → IsTaken q h sent request m led old new out → Leaves q (carried_by q h m sent.aim) led before after → is_large led ≡ true → cleared.max ≡ after.max → keeping.StandsFor cleared [] → Gathered q h sent request m led before cleared
large_gathered q h sent request m (seen.Ignored cause) old new out before after cleared taken leaves large max clear = absurd (false≢true large)
large_gathered q h sent request m (seen.Rests told) old new out before after cleared taken leaves large max clear = absurd (false≢true large)
large_gathered q h sent request m (seen.Sends tag) old new out before after cleared taken leaves large max clear = absurd (false≢true large)
large_gathered q h sent request m (seen.More tag) old new out before after cleared taken leaves large max clear = absurd (false≢true large)
large_gathered q h sent request m seen.Exchange old new out before after cleared taken leaves large max clear = absurd (false≢true large)
large_gathered q h sent request m (seen.Large tag) old new out before after cleared taken leaves large max clear = λ f led ok.
    let is = (taken f).0 in
    let same : is.0 ≡ led = (let e : Ok is.0 ≡ Ok led = sym is.1 ∙ ok in cc e) in
    let some = ap (λ (l : Led). l.next) (sym same) ∙ is.4.next in
    record { max = max ∙ leaves; chunks = subst (λ (o : Option Sent). IsGatheredFor o cleared) (sym some) (subst (λ (a : Aim). IsGathered a cleared) (sym is.3.2) clear) }

-- ---- What is left of it.

-- All of it, where nothing changed.
pub kept_leaves : (q : ReqSetup) (carried : Carried) (led : seen_led.ReplyOutcome) (before after : keeping.Kept) → changes_nothing led ≡ true → after ≡ before → Leaves q carried led before after
kept_leaves q carried (seen.Ignored cause) before after none same = same
kept_leaves q carried (seen.Rests told) before after none same = absurd (false≢true none)
kept_leaves q carried (seen.Sends tag) before after none same = absurd (false≢true none)
kept_leaves q carried (seen.Large tag) before after none same = absurd (false≢true none)
kept_leaves q carried (seen.More tag) before after none same = absurd (false≢true none)
kept_leaves q carried seen.Exchange before after none same = same

-- A whole answer changed something.
pub other_leaves : (q : ReqSetup) (h : History) (place : ℕ) (request : RequestMessage) (answer : List ℕ) (carried : Carried) (led : seen_led.ReplyOutcome) (old new : Seen) (out : List ℕ) (before after : keeping.Kept)
    → IsAnswered q h place request answer led old new out → changes_nothing led ≡ false → after.max ≡ q.max → Leaves q carried led before after
other_leaves q h place request answer carried (seen.Ignored cause) old new out before after is some max = absurd (false≢true (sym some))
other_leaves q h place request answer carried (seen.Rests told) old new out before after is some max = max
other_leaves q h place request answer carried (seen.Sends tag) old new out before after is some max = max
other_leaves q h place request answer carried (seen.Large tag) old new out before after is some max = max
other_leaves q h place request answer carried (seen.More tag) old new out before after is some max = absurd (is any_free)
other_leaves q h place request answer carried seen.Exchange old new out before after is some max = absurd (false≢true (sym some))

-- The collector was not touched,
pub answered_leaves : (q : ReqSetup) (h : History) (place : ℕ) (request : RequestMessage) (answer : List ℕ) (carried : Carried) (led : seen_led.ReplyOutcome) (old new : Seen) (out : List ℕ) (g : keeping.Kept)
    → IsAnswered q h place request answer led old new out → g.max ≡ q.max → Leaves q carried led g g
answered_leaves q h place request answer carried (seen.Ignored cause) old new out g is max = refl
answered_leaves q h place request answer carried (seen.Rests told) old new out g is max = max
answered_leaves q h place request answer carried (seen.Sends tag) old new out g is max = max
answered_leaves q h place request answer carried (seen.Large tag) old new out g is max = max
answered_leaves q h place request answer carried (seen.More tag) old new out g is max = absurd (is any_free)
answered_leaves q h place request answer carried seen.Exchange old new out g is max = refl

-- where the message leads to this,
pub led_leaves : (q : ReqSetup) (h : History) (leads : Result Led ReqIgnored) (carried : Carried) (led : seen_led.ReplyOutcome) (old new : Seen) (out : List ℕ) (g : keeping.Kept) → IsLed h leads led old new out → g.max ≡ q.max → Leaves q carried led g g
led_leaves q h leads carried (seen.Ignored cause) old new out g is max = refl
led_leaves q h leads carried (seen.Rests told) old new out g is max = max
led_leaves q h leads carried (seen.Sends tag) old new out g is max = max
led_leaves q h leads carried (seen.Large tag) old new out g is max = max
led_leaves q h leads carried (seen.More tag) old new out g is max = absurd is
led_leaves q h leads carried seen.Exchange old new out g is max = absurd is

-- and where a message that calls for a further one asks for no chunk.
pub carried_leaves : (q : ReqSetup) (h : History) (request : RequestMessage) (carried : Carried) (led : seen_led.ReplyOutcome) (old new : Seen) (out : List ℕ) (g : keeping.Kept)
    → IsCarried q h request carried led old new out → ((next : Sent) → carried ≡ Further next → is_no_get next.aim ≡ true) → g.max ≡ q.max → Leaves q carried led g g
carried_leaves q h request carried (seen.Ignored cause) old new out g is asks max = refl
carried_leaves q h request carried (seen.Rests told) old new out g is asks max = max
carried_leaves q h request carried (seen.Sends tag) old new out g is asks max = max
carried_leaves q h request carried (seen.Large tag) old new out g is asks max = max
carried_leaves q h request carried (seen.More tag) old new out g is asks max = (is.0, is.1, record { max = max; chunks = no_get_gathers is.0.aim g (asks is.0 is.1) })
carried_leaves q h request carried seen.Exchange old new out g is asks max = refl

-- An acknowledgement calls for no chunk.
sends_on : (a b : Bool) (code : ℕ) (answer : List ℕ) (x next : Sent) → is_no_get x.aim ≡ true → (if a then Refused code else (if b then Whole answer 6 else Further x)) ≡ Further next → is_no_get next.aim ≡ true
sends_on true b code answer x next is e = absurd (cc e)
sends_on false true code answer x next is e = absurd (cc e)
sends_on false false code answer x next is e = (let same : x ≡ next = cc e in subst (λ (s : Sent). is_no_get s.aim ≡ true) same is)

acknowledged_on : (h : History) (common : Common) (request : RequestMessage) (piece : ChunkMessage) (early : Bool) (response : List ℕ) (o : Option ReqIgnored) (next : Sent)
    → acknowledged h common request piece early response o ≡ Further next → is_no_get next.aim ≡ true
acknowledged_on h common request piece early response (Some cause) next e = absurd (cc e)
acknowledged_on h common request piece early response None next e = sends_on early piece.last (unwrap_or (error_in response) 0) response (piece_sent common h request piece.handle (piece.number + 1)) next refl e

pub ack_sends_on : (h : History) (common : Common) (request : RequestMessage) (piece : ChunkMessage) (r : Result ResponseMessage Malformed) (next : Sent) → ack_carries h common request piece r ≡ Further next → is_no_get next.aim ≡ true
ack_sends_on h common request piece (Err fault) next e = absurd (cc e)
ack_sends_on h common request piece (Ok (Error version code detail extended)) next e = absurd (cc e)
ack_sends_on h common request piece (Ok (ChunkSendAck early handle number response)) next e = acknowledged_on h common request piece early response (first_cause (ack_tests piece early handle number response)) next e
ack_sends_on h common request piece (Ok _) next e = absurd (cc e)

-- ---- The outstanding message.

-- The chunks in progress, where a chunk is awaited.
pub under_here : (q : ReqSetup) (h : History) (sent : Sent) (request : RequestMessage) (handle number : ℕ) (before : List ChunkMessage) → Holds q h → outstanding h ≡ Some sent → sent.aim ≡ ForChunk request handle number before → AreUnderWay q.max handle number before
under_here q h sent request handle number before holds waits aim = (subst (IsOutstanding q h sent.content) aim (subst (Waits q h) waits holds.waits)).3

pub gathered_here : (q : ReqSetup) (h : History) (sent : Sent) (request : RequestMessage) (handle number : ℕ) (before : List ChunkMessage) (g : keeping.Kept) → outstanding h ≡ Some sent → sent.aim ≡ ForChunk request handle number before → Gathers q (outstanding h) g
    → keeping.StandsFor g before
gathered_here q h sent request handle number before g waits aim gathers = subst (λ (a : Aim). IsGathered a g) aim (subst (λ (o : Option Sent). IsGatheredFor o g) waits gathers.chunks)
