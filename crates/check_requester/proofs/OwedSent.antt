-- Whether a body is the message that a requester owes.
use Rattle.std.proofs.Common.{◌≡◌, ◌≢◌, ◌≤◌, ◌<◌, ◌-◌, ◌*◌, ◌/◌, ◌%◌, ◌∙◌, ℕ, List, [], refl, sym, ap, subst, length, Bool, true, false, Option, Some, None, Ok, Err, cond, arith}
use Rattle.std.specs.Prelude.{◌==◌, ◌&&◌, is_none, is_some, slice_index, Result}
use Rattle.std.specs.Bool.{Decides}
use Rattle.std.specs.Result.{is_ok}
use Rattle.std.proofs.lemmas.Bool.{false≢true}
use Rattle.std.proofs.lemmas.Grind.{common_steps}
use Rattle.std.proofs.lemmas.Nat.{mul-le}
use Rattle.std.proofs.lemmas.Option.{none-some, same_Some}
use Rattle.requester_core.proofs.Awaited.{chunks_room}
use Rattle.requester_core.proofs.OwedClear.{out_last}
use Rattle.requester_core.specs.Joined.{IsCommanded, StandsFor}
use Rattle.requester_core.specs.Negotiating.{IsUpToAsked, IsUpToSent}
use Rattle.requester_core.specs.Owed.{IsRepadded, TookFor, TookLast, owed_with}
use Rattle.requester_core.specs.declared.joined.RequesterCore.{RequesterCore}
use Rattle.chunking.proofs.ChunkSteps.{reaches}
use Rattle.chunking.specs.Cutting.{chunk_count}
use Rattle.requester_machine.proofs.Choosing.{free_id-free, free_id-in_range}
use Rattle.requester_machine.specs.Asking.{asks, asks_by, resent}
use Rattle.requester_machine.specs.Asking.Outcome.{Fails, Resends}
use Rattle.requester_machine.specs.Commands.{Free, command_fault}
use Rattle.requester_machine.specs.Does.{free_id}
use Rattle.requester_machine.specs.History.{History, begins_large, connection_terms, negotiation_of, outstanding}
use Rattle.requester_machine.specs.Holds.{Holds, Waits}
use Rattle.requester_machine.specs.May.{IsAllowed, IsSetUp}
use Rattle.requester_machine.specs.Message.{Aim, Ask, Content, Sent, asked_in, body_of}
use Rattle.requester_machine.specs.Message.Aim.{ByChunks, ForChunk, InSession, Plain}
use Rattle.requester_machine.specs.Message.Command.{Retry}
use Rattle.requester_machine.specs.Message.Content.{Clear, Sealed}
use Rattle.requester_machine.specs.Session.{Steps, is_live, session_of}
use Rattle.requester_machine.specs.Setup.{ReqSetup}
use Rattle.requester_machine.specs.Shown.{after, sent_by}
use Rattle.requester_machine.specs.UnderWay.{HasSizes, IsAwaited, IsOutstanding, IsPiece, IsSealed, is_capable}
use Rattle.spdm_basis.specs.Sizes.{hash_size}
use Rattle.spdm_basis.specs.declared.values.hash_alg.HashAlg.{HashAlg}
use Rattle.spdm_basis.specs.declared.values.hash_alg.HashAlg.TheVariants.{Sha256, Sha384}
use Rattle.spdm_grammar.specs.Message.{RequestMessage}
use Rattle.spdm_grammar.specs.Message.RequestMessage.{GetVersion, GetCapabilities, NegotiateAlgorithms, GetMeasurements, PskExchange, PskFinish, Heartbeat, KeyUpdate, EndSession, ChunkSend, ChunkGet}
use Rattle.spdm_grammar.specs.Requests.{canonical_request}
use Rattle.spdm_grammar.specs.declared.told.command_fault.CommandFault.{CommandFault}
use Rattle.spdm_grammar.specs.declared.told.command_fault.CommandFault.TheVariants as fault
use Rattle.spdm_machine.specs.Bodies.{clear_body, record_body}
use Rattle.spdm_machine.specs.Keys.{Draw}
use Rattle.check_requester.specs.JudgedRequester.{IsSentOwed, is_first_chunk}
use Rattle.check_laws.specs.Padding.{session_asked}
use Rattle.requester_machine.specs.Owed.{content_with, sent_with}
use Rattle.requester_machine.specs.Owed.{with_next}

pub out_owed : (bare : History) (sent : Sent) → TookFor bare sent.aim → outstanding (with_next (Some sent) bare) ≡ Some sent
out_owed bare sent took = out_last bare sent.aim sent took

-- ---- The outstanding message goes out again.

retry_by : (q : ReqSetup) (h : History) (f : Free) (d : Draw) (o : Option Sent) → outstanding h ≡ o → asks_by q h Retry f d (cond (is_none o) (Some fault.NothingToRetry) None) ≡ resent o
retry_by q h f d None is = refl
retry_by q h f d (Some sent) is = ap resent is

pub retry_is : (q : ReqSetup) (h : History) (f : Free) (d : Draw) → asks false q h Retry f d ≡ resent (outstanding h)
unfolding asks command_fault
retry_is q h f d = retry_by q h f d (outstanding h) refl

after_resent : (h : History) (o : Option Sent) → after h (resent o) ≡ h
after_resent h None = refl
after_resent h (Some sent) = refl

pub retry_stands : (q : ReqSetup) (h : History) (f : Free) (d : Draw) (r : Result ℕ CommandFault) (out : List ℕ) (new : RequesterCore) → IsCommanded q h (asks false q h Retry f d) r out new → StandsFor new q h
retry_stands q h f d (Ok tag) out new did = subst (StandsFor new q) (ap (after h) (retry_is q h f d) ∙ after_resent h (outstanding h)) did.stands
retry_stands q h f d (Err why) out new did = did.1

pub retry_out : (q : ReqSetup) (h : History) (f : Free) (d : Draw) (sent : Sent) (r : Result ℕ CommandFault) (out : List ℕ) (new : RequesterCore) → outstanding h ≡ Some sent → IsCommanded q h (asks false q h Retry f d) r out new → out ≡ body_of sent.content
retry_out q h f d sent (Ok tag) out new waits did =
    let it : did.sent ≡ sent = same_Some did.sent sent (sym did.sends ∙ ap sent_by (retry_is q h f d ∙ ap resent waits)) in
    did.body_is ∙ ap (λ (x : Sent). body_of x.content) it
retry_out q h f d sent (Err why) out new waits did = absurd (let e : Fails why ≡ Resends sent = sym did.0 ∙ retry_is q h f d ∙ ap resent waits in cc)

sent_waits : (o : Option Sent) (s : Sent) → sent_by (resent o) ≡ Some s → true ≡ is_some o
sent_waits None s is = absurd (none-some s is)
sent_waits (Some x) s is = refl

fails_rests : (o : Option Sent) (why : CommandFault) → resent o ≡ Fails why → false ≡ is_some o
fails_rests None why is = refl
fails_rests (Some x) why is = absurd (cc)

pub retry_waits : (q : ReqSetup) (h : History) (f : Free) (d : Draw) (r : Result ℕ CommandFault) (out : List ℕ) (new : RequesterCore) → IsCommanded q h (asks false q h Retry f d) r out new → is_ok r ≡ is_some (outstanding h)
retry_waits q h f d (Ok tag) out new did = sent_waits (outstanding h) did.sent (ap sent_by (sym (retry_is q h f d)) ∙ did.sends)
retry_waits q h f d (Err why) out new did = fails_rests (outstanding h) why (sym (retry_is q h f d) ∙ did.0)

least_hash : (hash : HashAlg) → hash_size hash ≤ 48
least_hash Sha256 = omega arith
least_hash Sha384 = omega arith

-- Values that are allowed.
pub long_allowed : (q : ReqSetup) (h : History) (id : ℕ) (context : List ℕ) → IsSetUp q → id ≡ free_id h → length context ≡ 48 → IsAllowed q h (record { id = id; context = context; opaque = []; pad = [] })
long_allowed q h id context set_up is long = record {
  least = subst (λ (n : ℕ). 1 ≤ n) (sym is) (free_id-in_range h).0;
  most = subst (λ (n : ℕ). n ≤ 4) (sym is) (free_id-in_range h).1;
  unused = λ room. ap (λ (n : ℕ). is_live (session_of n h)) is ∙ free_id-free h room;
  context = (let l = least_hash (connection_terms h).choice.hash in omega (arith, l, long));
  opaque = omega arith;
  exchange = (let l = set_up.hint in omega (arith, l, long));
  pad = omega arith;
}

-- ---- What is owed.

-- A record of the session of the record before it; or a message in the clear, which shows whether it begins a large request.
pub data Goes (bare : History) (sent : Sent) : Type 0 where
  AsRecord : (id : ℕ) (ask : Ask) (sealed inner pad : List ℕ) → sent.aim ≡ InSession id ask → TookLast bare id → sent.content ≡ Sealed sealed inner pad → Goes bare sent
  InClear : (m : List ℕ) → sent.content ≡ Clear m → is_first_chunk (clear_body m) ≡ begins_large sent.aim → Goes bare sent

few_chunks : (transfer : ℕ) (message : List ℕ) (number : ℕ) → 42 ≤ transfer → length message ≤ 4096 → number < chunk_count transfer message → number < 65536
few_chunks transfer message number least short within =
    let some : 12 < transfer = omega (arith, least) in
    let begins = reaches transfer 0 message some number within in
    let units : number * 1 ≤ number * (transfer - 12) = mul-le number 1 number (transfer - 12) (omega arith) (omega (arith, least)) in
    omega (arith, begins, units, short)

first_number : (n : ℕ) → n < 65536 → ((n % 256 == 0) && (n / 256 % 256 == 0)) ≡ (n == 0)
first_number n few = grind (arith, common_steps, few)

plain_shows : (q : ReqSetup) (h : History) (asked : RequestMessage) → IsAwaited q h asked → is_first_chunk (clear_body (canonical_request asked)) ≡ false
plain_shows q h GetVersion is = refl
plain_shows q h (GetCapabilities caps) is = refl
plain_shows q h (NegotiateAlgorithms offer) is = refl
plain_shows q h (GetMeasurements op) is = refl
plain_shows q h (PskExchange exchange) is = refl
plain_shows q h (PskFinish verify) is = absurd is
plain_shows q h Heartbeat is = absurd is
plain_shows q h (KeyUpdate op tag) is = absurd is
plain_shows q h EndSession is = absurd is
plain_shows q h (ChunkSend chunk) is = absurd is
plain_shows q h (ChunkGet handle number) is = absurd is

-- A request that is sent in chunks is within the responder's greatest length.
pub chunks_short : (q : ReqSetup) (h : History) (asked : RequestMessage) (handle number : ℕ) (content : Content) → HasSizes q → Holds q h → IsAwaited q h asked → IsPiece (connection_terms h).common asked handle number content → length (canonical_request asked) ≤ 4096
chunks_short q h GetVersion handle number content sizes holds is piece = omega arith
chunks_short q h (GetCapabilities caps) handle number content sizes holds is piece = omega arith
chunks_short q h (NegotiateAlgorithms offer) handle number content sizes holds is piece =
    let most = (holds.known sizes (ap is_capable is.0)).their_most in let short = piece.short in omega (arith, most, short)
chunks_short q h (GetMeasurements op) handle number content sizes holds is piece = omega arith
chunks_short q h (PskExchange exchange) handle number content sizes holds is piece =
    let most = (holds.known sizes (ap is_capable is.0)).their_most in let short = piece.short in omega (arith, most, short)
chunks_short q h (PskFinish verify) handle number content sizes holds is piece = absurd is
chunks_short q h Heartbeat handle number content sizes holds is piece = absurd is
chunks_short q h (KeyUpdate op tag) handle number content sizes holds is piece = absurd is
chunks_short q h EndSession handle number content sizes holds is piece = absurd is
chunks_short q h (ChunkSend chunk) handle number content sizes holds is piece = absurd is
chunks_short q h (ChunkGet handle number) other more content sizes holds is piece = absurd is

goes_by : (q : ReqSetup) (h : History) (bare : History) (sent : Sent) (aim : Aim) → HasSizes q → Holds q h → IsUpToSent (Some sent) (negotiation_of h) → sent.aim ≡ aim → TookFor bare aim → IsOutstanding q h sent.content aim → Goes bare sent
goes_by q h bare sent (Plain asked) sizes holds up aims took out = InClear (canonical_request asked) out.1 (plain_shows q h asked out.0 ∙ ap begins_large (sym aims))
goes_by q h bare sent (ByChunks asked handle number) sizes holds up aims took out =
    let piece = out.1 sizes in
    let room = chunks_room q h asked sizes holds out.0 (subst (λ (a : Aim). IsUpToAsked (asked_in a) (negotiation_of h)) aims up) piece.chunks in
    let few : number < 65536 = few_chunks (connection_terms h).common.to_responder.transfer (canonical_request asked) number room.least (chunks_short q h asked handle number sent.content sizes holds out.0 piece) piece.within in
    InClear _ piece.is (first_number number few ∙ ap begins_large (sym aims))
goes_by q h bare sent (ForChunk asked handle number before) sizes holds up aims took out = InClear (canonical_request (ChunkGet handle number)) out.2 (ap begins_large (sym aims))
goes_by q h bare sent (InSession id ask) sizes holds up aims took out =
    let s = out.0 in AsRecord id ask s.sealed s.inner s.pad aims took s.content_is

pub goes : (q : ReqSetup) (bare : History) (sent : Sent) (seen : RequesterCore) → HasSizes q → TookFor bare sent.aim → StandsFor seen q (with_next (Some sent) bare) → Goes bare sent
goes q bare sent seen sizes took stands =
    let h : History = with_next (Some sent) bare in
    let waits = out_owed bare sent took in
    goes_by q h bare sent sent.aim sizes stands.clear_state.holds (subst (λ (o : Option Sent). IsUpToSent o (negotiation_of h)) waits stands.clear_state.shows.up_to) refl took
    (subst (Waits q h) waits stands.clear_state.holds.waits)

-- ---- In the clear.

clear_with : (psk : List ℕ) (s : Steps) (pad : List ℕ) (sent : Sent) (m : List ℕ) → sent.content ≡ Clear m → sent_with psk s pad sent ≡ sent
clear_with psk s pad sent m is = ap (λ (c : Content). record sent { content = content_with psk s pad c }) is ∙ ap (λ (c : Content). record sent { content = c }) (sym is)

module _ (q : ReqSetup) (bare : History) (sent : Sent) (body m : List ℕ) (new : RequesterCore) (is : sent.content ≡ Clear m) (shows : is_first_chunk (clear_body m) ≡ begins_large sent.aim) (stands : StandsFor new q (with_next (Some sent) bare)) where
  clear_is : (pad : List ℕ) → sent_with q.psk (session_of (session_asked sent.aim) bare) pad sent ≡ sent
  clear_is pad = clear_with q.psk (session_of (session_asked sent.aim) bare) pad sent m is

  first_sent : is_first_chunk (clear_body m) ≡ true → IsSentOwed q bare sent body false new
  first_sent first = (λ after s. absurd (false≢true (sym s.2 ∙ sym shows ∙ first)), stands)

  clear_sent : (b : Bool) → is_first_chunk (clear_body m) ≡ false → Decides b (clear_body m ≡ body) → IsSentOwed q bare sent body b new
  clear_sent true first same = (
    with_next (Some sent) bare,
    ([], omega arith, sym shows ∙ first, ap (λ (x : Sent). body_of x.content) (clear_is []) ∙ ap body_of is ∙ same.0 refl, ap (λ (x : Sent). with_next (Some x) bare) (sym (clear_is []))),
    stands,
  )
  clear_sent false first same = (
    λ after s. absurd (false≢true (same.1 (sym (ap body_of is) ∙ ap (λ (x : Sent). body_of x.content) (sym (clear_is s.0)) ∙ s.3))),
    stands,
  )

-- By the body of the message, which is no record.
pub clear_told : (q : ReqSetup) (bare : History) (sent : Sent) (body room : List ℕ) (new : RequesterCore) → Goes bare sent → room ≡ body_of sent.content → slice_index room 0 ≢ 6 → StandsFor new q (with_next (Some sent) bare)
    → ((b : Bool) → is_first_chunk room ≡ false → Decides b (room ≡ body) → IsSentOwed q bare sent body b new) × (is_first_chunk room ≡ true → IsSentOwed q bare sent body false new)
clear_told q bare sent body room new (AsRecord id ask sealed inner pad aims last content) is other stands =
    absurd (other (ap (λ (l : List ℕ). slice_index l 0) is ∙ ap (λ (c : Content). slice_index (body_of c) 0) content))
clear_told q bare sent body room new (InClear m content shows) is other stands =
    let same : room ≡ clear_body m = is ∙ ap body_of content in (
      λ b none told.
          clear_sent q bare sent body m new content shows stands b (ap is_first_chunk (sym same) ∙ none) (subst (λ (l : List ℕ). Decides b (l ≡ body)) same told),
      λ first. first_sent q bare sent body m new content shows stands (ap is_first_chunk (sym same) ∙ first),
    )

-- ---- In a record.

module _ (q : ReqSetup) (bare : History) (sent : Sent) (id : ℕ) (ask : Ask) (took : TookLast bare id) (aims : sent.aim ≡ InSession id ask) where
  same_owed : (pad : List ℕ) → owed_with q bare id pad sent ≡ sent_with q.psk (session_of (session_asked sent.aim) bare) pad sent
  same_owed pad = ap (λ (n : ℕ). sent_with q.psk (session_of n bare) pad sent) (sym (ap session_asked aims))

  pub record_sent : (body sealed : List ℕ) (old new : RequesterCore) (b : Bool) → body ≡ record_body sealed → length body ≤ 4161 → StandsFor old q (with_next (Some sent) bare) → IsRepadded q bare id sent sealed new b → (b ≡ false → new ≡ old) → IsSentOwed q bare sent body b new
  record_sent body sealed old new true is short stands r same = (
    with_next (Some (sent_with q.psk (session_of (session_asked sent.aim) bare) r.0 sent)) bare,
    (r.0, r.1, ap begins_large aims, ap (λ (x : Sent). body_of x.content) (sym (same_owed r.0)) ∙ r.2 ∙ sym is, refl),
    subst (StandsFor new q) (ap (λ (x : Sent). with_next (Some x) bare) (same_owed r.0)) r.3,
  )
  record_sent body sealed old new false is short stands r same = (
    λ after s.
        let e = ap length is in
        r (omega (arith, short, e)) s.0 s.1 (ap (λ (x : Sent). body_of x.content) (same_owed s.0) ∙ s.3 ∙ is),
    subst (λ (x : RequesterCore). StandsFor x q (with_next (Some sent) bare)) (sym (same refl)) stands,
  )

  sealed_out : (seen : RequesterCore) → StandsFor seen q (with_next (Some sent) bare) → IsSealed q (with_next (Some sent) bare) id ask sent.content
  sealed_out seen stands =
      let h : History = with_next (Some sent) bare in
      let waits = out_owed bare sent (subst (TookFor bare) (sym aims) took) in
      (subst (IsOutstanding q h sent.content) aims (subst (Waits q h) waits stands.clear_state.holds.waits)).0

  -- No other body is a record.
  pub no_record : (body : List ℕ) (seen : RequesterCore) → slice_index body 0 ≢ 6 → StandsFor seen q (with_next (Some sent) bare) → IsSentOwed q bare sent body false seen
  no_record body seen other stands = (
    λ after s.
        let content = (sealed_out seen stands).content_is in
        other (ap (λ (l : List ℕ). slice_index l 0) (sym s.3) ∙ ap (λ (c : Content). slice_index (body_of (content_with q.psk (session_of (session_asked sent.aim) bare) s.0 c)) 0) content),
    stands,
  )
