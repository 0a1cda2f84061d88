-- A message in the clear, as an entry of the history.
use Rattle.std.proofs.Common.{◌≡◌, ◌∙◌, ◌∷◌, ap, sym, subst, ℕ, List, Option, Some}
use Rattle.std.specs.Prelude.{Result, Ok, Err}
use Rattle.requester_core.specs.ReplyOutcome.{Follows, IsCarried, IsLed, IsTaken, SendsNext, Stands}
use Rattle.requester_core.specs.ClearState.{Seen, Shows}
use Rattle.requester_core.specs.declared.clear.reply_outcome.ReplyOutcome as seen_led
use Rattle.requester_core.specs.declared.clear.reply_outcome.ReplyOutcome.TheVariants as seen
use Rattle.requester_core.specs.declared.clear.outstanding.TransferMode.TheVariants as modes
use Rattle.requester_machine.proofs.ClearLeads.{clear_leads}
use Rattle.requester_machine.proofs.Holds.{awaited}
use Rattle.requester_machine.specs.Holds.{Holds, Waits}
use Rattle.requester_machine.proofs.HoldsClear.{clear_holds}
use Rattle.requester_machine.specs.ClearAnswers.{Carried, ack_carries, carried_by, carried_led, chunk_carries, clear_led, reading_of}
use Rattle.requester_machine.specs.Answers.{goes_on}
use Rattle.requester_machine.specs.Commands.{Free}
use Rattle.requester_machine.specs.History.Effect.{Nothing}
use Rattle.requester_machine.specs.History.Entry.{TookClear}
use Rattle.requester_machine.specs.History.{History, Led, connection_terms, negotiation_of, outstanding}
use Rattle.requester_machine.specs.Message.{Aim, Sent, asked_in}
use Rattle.requester_machine.specs.Message.Aim.{ByChunks, ForChunk, InSession, Plain}
use Rattle.requester_machine.specs.Setup.{ReqSetup}
use Rattle.spdm_grammar.specs.Message.{ChunkMessage, RequestMessage}
use Rattle.spdm_grammar.specs.declared.told.event.ReqIgnored.{ReqIgnored}
use Rattle.requester_core.specs.Outstanding.{kind_of, waiting_for, waiting_of, mode_of}
use Rattle.requester_core.specs.Negotiating.{IsUpTo, IsUpToAsked, IsUpToSent}
use Rattle.requester_core.specs.Outgoing.{IsCut, IsKept, IsKeptOf}
use Rattle.requester_core.specs.declared.clear.outstanding.PendingRequest.{PendingRequest}
use Rattle.requester_core.specs.declared.clear.outstanding.Outstanding.TheVariants as waits
use Rattle.requester_core.specs.declared.clear.outstanding.TransferMode.{TransferMode}
use Rattle.requester_core.proofs.Awaited.{chunks_room}
use Rattle.requester_machine.specs.Sending.{piece_of}
use Rattle.requester_machine.specs.UnderWay.{HasSizes, IsAwaited, IsOutstanding}
use Rattle.spdm_grammar.specs.Requests.{canonical_request}

-- ---- What the outstanding message asks.

pub plain_aim : (aim : Aim) (request : RequestMessage) → asked_in aim ≡ Some request → mode_of aim ≡ modes.Whole → aim ≡ Plain request
plain_aim (Plain r) request asks mode = (let same : r ≡ request = cc asks in ap (λ (x : RequestMessage). Plain x) same)
plain_aim (ByChunks r handle number) request asks mode = absurd (cc mode)
plain_aim (ForChunk r handle number before) request asks mode = absurd (cc mode)
plain_aim (InSession id ask) request asks mode = absurd (cc asks)

pub pieces_aim : (aim : Aim) (request : RequestMessage) (handle number : ℕ) → asked_in aim ≡ Some request → mode_of aim ≡ modes.ByChunks handle number → aim ≡ ByChunks request handle number
pieces_aim (Plain r) request handle number asks mode = absurd (cc mode)
pieces_aim (ByChunks r of at) request handle number asks mode =
    (let same : r ≡ request = cc asks in
    let a : of ≡ handle = cc mode in
    let b : at ≡ number = cc mode in
    ap (λ (x : RequestMessage). ByChunks x of at) same ∙ ap (λ (n : ℕ). ByChunks request n at) a ∙ ap (λ (n : ℕ). ByChunks request handle n) b)
pieces_aim (ForChunk r of at before) request handle number asks mode = absurd (cc mode)
pieces_aim (InSession id ask) request handle number asks mode = absurd (cc asks)

-- It asks for a chunk after these.
pub record AsksChunk (aim : Aim) (request : RequestMessage) (handle number : ℕ) : Type 0 where
  pub before : List ChunkMessage
  pub is : aim ≡ ForChunk request handle number before

pub get_aim : (aim : Aim) (request : RequestMessage) (handle number : ℕ) → asked_in aim ≡ Some request → mode_of aim ≡ modes.ForChunk handle number → AsksChunk aim request handle number
get_aim (Plain r) request handle number asks mode = absurd (cc mode)
get_aim (ByChunks r of at) request handle number asks mode = absurd (cc mode)
get_aim (ForChunk r of at before) request handle number asks mode =
    (let same : r ≡ request = cc asks in
    let a : of ≡ handle = cc mode in
    let b : at ≡ number = cc mode in
    record { before = before; is = ap (λ (x : RequestMessage). ForChunk x of at before) same ∙ ap (λ (n : ℕ). ForChunk request n at before) a ∙ ap (λ (n : ℕ). ForChunk request handle n before) b })
get_aim (InSession id ask) request handle number asks mode = absurd (cc asks)

-- ---- What comes of the message.

-- What is kept follows where the message led to something.
follows_led : (h : History) (leads : Result Led ReqIgnored) (told : seen_led.ReplyOutcome) (old new : Seen) (out : List ℕ) (led : Led) → IsLed h leads told old new out → leads ≡ Ok led → Follows h led new
follows_led h leads (seen.Ignored cause) old new out led is ok = absurd (let no : Err cause ≡ Ok led = sym is.0 ∙ ok in cc no)
follows_led h leads (seen.Rests event) old new out led is ok = (let same : is.0 ≡ led = (let e : Ok is.0 ≡ Ok led = sym is.1 ∙ ok in cc e) in subst (λ (l : Led). Follows h l new) same is.2.follows)
follows_led h leads (seen.Sends tag) old new out led is ok = (let same : is.0 ≡ led = (let e : Ok is.0 ≡ Ok led = sym is.1 ∙ ok in cc e) in subst (λ (l : Led). Follows h l new) same is.4.follows)
follows_led h leads (seen.Large tag) old new out led is ok = (let same : is.0 ≡ led = (let e : Ok is.0 ≡ Ok led = sym is.1 ∙ ok in cc e) in subst (λ (l : Led). Follows h l new) same is.4.follows)
follows_led h leads (seen.More tag) old new out led is ok = absurd is
follows_led h leads seen.Exchange old new out led is ok = absurd is

pub stands_led : (q : ReqSetup) (h : History) (f : Free) (sent : Sent) (request : RequestMessage) (m : List ℕ) (told : seen_led.ReplyOutcome) (old new : Seen) (out : List ℕ) → Holds q h → outstanding h ≡ Some sent → asked_in sent.aim ≡ Some request
    → IsLed h (clear_led q h f sent.aim request m) told old new out → Stands q h m (clear_led q h f sent.aim request m) new
stands_led q h f sent request m told old new out holds waits asks is = λ led tag d ok. record {
  holds = clear_holds q h f tag m led d sent request waits asks (clear_leads q h f sent.aim m request led asks ok) holds;
  shows = follows_led h (clear_led q h f sent.aim request m) told old new out led is ok tag m d;
}

pub carried_leads : (q : ReqSetup) (h : History) (f : Free) (sent : Sent) (request : RequestMessage) (m : List ℕ) (carried : Carried) → carried_by q h m sent.aim ≡ carried → clear_led q h f sent.aim request m ≡ carried_led q h f request carried
unfolding clear_led
carried_leads q h f sent request m carried is = ap (carried_led q h f request) is

led_taken : (q : ReqSetup) (h : History) (sent : Sent) (request : RequestMessage) (m : List ℕ) (carried : Carried) (told : seen_led.ReplyOutcome) (old new : Seen) (out : List ℕ) → Holds q h → outstanding h ≡ Some sent → asked_in sent.aim ≡ Some request
    → carried_by q h m sent.aim ≡ carried → ((f : Free) → IsLed h (carried_led q h f request carried) told old new out)
    → (f : Free) → IsLed h (clear_led q h f sent.aim request m) told old new out × Stands q h m (clear_led q h f sent.aim request m) new
led_taken q h sent request m carried told old new out holds waits asks is leads = λ f.
    let here = subst (λ (r : Result Led ReqIgnored). IsLed h r told old new out) (sym (carried_leads q h f sent request m carried is)) (leads f) in
    (here, stands_led q h f sent request m told old new out holds waits asks here)

more_stands : (q : ReqSetup) (h : History) (f : Free) (sent : Sent) (request : RequestMessage) (m : List ℕ) (next : Sent) (its_tag : ℕ) (new : Seen) (out : List ℕ) → Holds q h → outstanding h ≡ Some sent → asked_in sent.aim ≡ Some request
    → clear_led q h f sent.aim request m ≡ Ok (goes_on Nothing next) → SendsNext h (goes_on Nothing next) next its_tag new out → Stands q h m (clear_led q h f sent.aim request m) new
more_stands q h f sent request m next its_tag new out holds waits asks is sends = λ led tag d ok. record {
  holds = clear_holds q h f tag m led d sent request waits asks (clear_leads q h f sent.aim m request led asks ok) holds;
  shows = (let same : goes_on Nothing next ≡ led = (let e : Ok (goes_on Nothing next) ≡ Ok led = sym is ∙ ok in cc e) in subst (λ (l : Led). Shows new (TookClear tag m l d ∷ h)) same (sends.follows tag m d));
}

pub taken : (q : ReqSetup) (h : History) (sent : Sent) (request : RequestMessage) (m : List ℕ) (carried : Carried) (told : seen_led.ReplyOutcome) (old new : Seen) (out : List ℕ) → Holds q h → outstanding h ≡ Some sent → asked_in sent.aim ≡ Some request
    → carried_by q h m sent.aim ≡ carried → IsCarried q h request carried told old new out → IsTaken q h sent request m told old new out
taken q h sent request m carried (seen.Ignored cause) old new out holds waits asks is leads = led_taken q h sent request m carried (seen.Ignored cause) old new out holds waits asks is leads
taken q h sent request m carried (seen.Rests event) old new out holds waits asks is leads = led_taken q h sent request m carried (seen.Rests event) old new out holds waits asks is leads
taken q h sent request m carried (seen.Sends tag) old new out holds waits asks is leads = led_taken q h sent request m carried (seen.Sends tag) old new out holds waits asks is leads
taken q h sent request m carried (seen.Large tag) old new out holds waits asks is leads = led_taken q h sent request m carried (seen.Large tag) old new out holds waits asks is leads
taken q h sent request m carried (seen.More tag) old new out holds waits asks is leads =
    let by : (f : Free) → clear_led q h f sent.aim request m ≡ Ok (goes_on Nothing leads.0) = λ f. carried_leads q h f sent request m carried is ∙ ap (carried_led q h f request) leads.1 in
    (leads.0, by, leads.2, λ f. more_stands q h f sent request m leads.0 tag new out holds waits asks (by f) leads.2)
taken q h sent request m carried seen.Exchange old new out holds waits asks is leads = (leads.0, leads.1, is ∙ leads.2, leads.3)

-- ---- What is known of the outstanding message.

pub awaited_here : (q : ReqSetup) (h : History) (sent : Sent) (request : RequestMessage) → Holds q h → outstanding h ≡ Some sent → asked_in sent.aim ≡ Some request → IsAwaited q h request
awaited_here q h sent request holds waits asks = awaited q h sent.content sent.aim request asks (subst (Waits q h) waits holds.waits)

pub kept_here : (seen : Seen) (h : History) (sent : Sent) (request : RequestMessage) → Shows seen h → outstanding h ≡ Some sent → asked_in sent.aim ≡ Some request → seen.outgoing.request ≡ canonical_request request
kept_here seen h sent request shows waits asks =
    subst (λ (a : Option RequestMessage). IsKept a seen.outgoing.request) asks (subst (λ (w : Option Sent). IsKeptOf w seen.outgoing.request) waits shows.outgoing.request)

pub up_here : (seen : Seen) (h : History) (sent : Sent) (request : RequestMessage) → Shows seen h → outstanding h ≡ Some sent → asked_in sent.aim ≡ Some request → IsUpTo request (negotiation_of h)
up_here seen h sent request shows waits asks =
    subst (λ (a : Option RequestMessage). IsUpToAsked a (negotiation_of h)) asks (subst (λ (w : Option Sent). IsUpToSent w (negotiation_of h)) waits shows.up_to)

pub pieces_cut : (q : ReqSetup) (h : History) (sent : Sent) (request : RequestMessage) (handle number : ℕ) → HasSizes q → Holds q h → outstanding h ≡ Some sent → sent.aim ≡ ByChunks request handle number → IsAwaited q h request → IsUpTo request (negotiation_of h)
    → IsCut (modes.ByChunks handle number) (connection_terms h).common.to_responder.transfer (canonical_request request)
pieces_cut q h sent request handle number sizes holds waits aim awaits up =
    let out = subst (IsOutstanding q h sent.content) aim (subst (Waits q h) waits holds.waits) in
    let piece = out.1 sizes in
    let room = chunks_room q h request sizes holds awaits up piece.chunks in
    (room.least, room.most, piece.within)

pub whole_carries : (q : ReqSetup) (h : History) (m : List ℕ) (aim : Aim) (request : RequestMessage) → aim ≡ Plain request → carried_by q h m aim ≡ Carried.Whole m 0
unfolding carried_by
whole_carries q h m aim request is = ap (carried_by q h m) is

pub get_carried : (q : ReqSetup) (h : History) (m : List ℕ) (aim : Aim) (request : RequestMessage) (handle number : ℕ) (before : List ChunkMessage) → aim ≡ ForChunk request handle number before
    → carried_by q h m aim ≡ chunk_carries q h request handle number before (reading_of h request m)
unfolding carried_by
get_carried q h m aim request handle number before is = ap (carried_by q h m) is

pub ack_carried : (q : ReqSetup) (h : History) (m : List ℕ) (aim : Aim) (request : RequestMessage) (handle number : ℕ) → aim ≡ ByChunks request handle number
    → carried_by q h m aim ≡ ack_carries h (connection_terms h).common request (piece_of (connection_terms h).common request handle number) (reading_of h request m)
unfolding carried_by
ack_carried q h m aim request handle number is = ap (carried_by q h m) is

pub clear_way : (sent : Sent) (request : RequestMessage) (tag : ℕ) (asked : PendingRequest) (mode : TransferMode) → asked_in sent.aim ≡ Some request → waits.InClear tag asked mode ≡ waiting_of (Some sent) → (kind_of request ≡ asked) × (mode_of sent.aim ≡ mode)
clear_way sent request tag asked mode asks e = clear_aim sent.tag sent.aim request tag asked mode asks e
  where
    clear_aim : (of : ℕ) (aim : Aim) (request : RequestMessage) (tag : ℕ) (asked : PendingRequest) (mode : TransferMode) → asked_in aim ≡ Some request → waits.InClear tag asked mode ≡ waiting_for of aim → (kind_of request ≡ asked) × (mode_of aim ≡ mode)
    clear_aim of (Plain r) request tag asked mode asks e = (let same : r ≡ request = cc asks in let k : asked ≡ kind_of r = cc e in (ap kind_of (sym same) ∙ sym k, cc e))
    clear_aim of (ByChunks r handle number) request tag asked mode asks e = (let same : r ≡ request = cc asks in let k : asked ≡ kind_of r = cc e in (ap kind_of (sym same) ∙ sym k, cc e))
    clear_aim of (ForChunk r handle number before) request tag asked mode asks e = (let same : r ≡ request = cc asks in let k : asked ≡ kind_of r = cc e in (ap kind_of (sym same) ∙ sym k, cc e))
    clear_aim of (InSession id ask) request tag asked mode asks e = absurd (cc e)
