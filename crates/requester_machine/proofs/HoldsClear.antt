-- What a clear message leaves of what a made history holds.
use Rattle.std.proofs.Common.{refl, ◌≡◌, ◌∙◌, ℕ, ◌+◌, List, [], ◌∷◌, true, false, Bool, Some, None, ap, sym, subst, eq-eqb}
use Rattle.std.specs.Prelude.{◌==◌, if◌then◌else◌, Ok}
use Rattle.std.proofs.lemmas.Bool.{false≢true}
use Rattle.negotiate.specs.Capabilities.{common_of}
use Rattle.negotiate.specs.Offer.{offer_of}
use Rattle.negotiate.specs.declared.shared.Common.{Common}
use Rattle.spdm_grammar.specs.Message.{RequestMessage, ChunkMessage, OfferMessage, ExchangeMessage}
use Rattle.spdm_grammar.specs.Message.RequestMessage.{GetVersion, GetCapabilities, NegotiateAlgorithms, GetMeasurements, PskExchange, PskFinish}
use Rattle.spdm_grammar.specs.Message.ResponseMessage.{Capabilities}
use Rattle.spdm_grammar.specs.Requests.{canonical_request}
use Rattle.spdm_grammar.specs.declared.messages.capabilities.Caps.{Caps}
use Rattle.spdm_grammar.specs.declared.told.event.Finished.{Finished}
use Rattle.spdm_grammar.specs.declared.told.event.Finished.TheVariants as finished
use Rattle.spdm_grammar.specs.declared.told.event.Stop.{Stop}
use Rattle.spdm_machine.specs.Keys.{Draw}
use Rattle.spdm_machine.specs.Terms.{hash_len}
use Rattle.requester_machine.specs.Setup.{ReqSetup, requester_caps}
use Rattle.requester_machine.specs.Answers.{goes_on, is_done, is_refused, stopped, with_answer, may_be_large}
use Rattle.requester_machine.specs.ClearAnswers.{get_fault, reading_of}
use Rattle.requester_machine.specs.Commands.{Free}
use Rattle.requester_machine.specs.History.{History, Led, outstanding, negotiation_of, negotiates, connection_terms}
use Rattle.requester_machine.specs.History.Effect.{Nothing, Answers, Refuses}
use Rattle.requester_machine.specs.History.Entry.{TookClear}
use Rattle.requester_machine.specs.Message.{Sent, asked_in}
use Rattle.requester_machine.specs.Message.Aim.{ByChunks, ForChunk}
use Rattle.requester_machine.specs.Message.Ask.{AskFinish}
use Rattle.requester_machine.specs.Records.{sealed_next}
use Rattle.requester_machine.specs.Sending.{plain_sent, request_sent, piece_sent, piece_of, get_sent, finish_sent, finish_verify, inner_request, is_too_long}
use Rattle.requester_machine.specs.Session.{Steps, Step, session_of, is_live, when_live}
use Rattle.requester_machine.specs.Session.Step.{Accepted, Asked}
use Rattle.requester_machine.specs.UnderWay.{HasSizes, IsCommon, is_capable, IsAwaited, IsOutstanding}
use Rattle.requester_machine.proofs.CapsRead.{common_read, common_is}
use Rattle.requester_machine.proofs.ClearLeads.{ClearLeads}
use Rattle.requester_machine.proofs.ClearLeads.ClearLeads.{ByRefusal, ByLarge, BySend, ByGet, ByStop, ByVersion, ByCaps, ByChoice, ByMeasured, ByExchange}
use Rattle.requester_machine.proofs.Collected.{none_yet, one_more}
use Rattle.requester_machine.proofs.Holds.{live_stays, none_live, negotiating, awaited, awaited_stays, request_waits}
use Rattle.requester_machine.specs.Holds.{Holds, Waits}
use Rattle.requester_machine.proofs.Keeps.{Keeps, behind_clear}
use Rattle.requester_machine.proofs.Pieces.{next_piece}
use Rattle.requester_machine.proofs.Few.{live_first}
use Rattle.spdm_machine.proofs.Settling.{algorithms_keep}

module _ (q : ReqSetup) (h : History) (tag : ℕ) (m : List ℕ) (d : Draw) where
  keeps : (led : Led) (id : ℕ) → Keeps (session_of id h) (session_of id (TookClear tag m led d ∷ h))
  unfolding session_of
  keeps led id = behind_clear id led.effect led.next (session_of id h)

  -- ---- Refusals and stops.

  refused_holds : (code : ℕ) (asked : RequestMessage) → IsAwaited q h asked → Holds q h → Holds q (TookClear tag m (is_refused code (Refuses asked)) d ∷ h)
  refused_holds code GetVersion a k = record {
    live = λ id. none_live h (TookClear tag m (is_refused code (Refuses GetVersion)) d ∷ h) id (keeps (is_refused code (Refuses GetVersion)) id) (negotiating q h GetVersion refl a) (k.live id);
    known = λ s capable. absurd (false≢true capable);
    waits = tt;
  }
  refused_holds code (GetCapabilities caps) a k = record {
    live = λ id. none_live h (TookClear tag m (is_refused code (Refuses (GetCapabilities caps))) d ∷ h) id (keeps (is_refused code (Refuses (GetCapabilities caps))) id) (negotiating q h (GetCapabilities caps) refl a) (k.live id);
    known = λ s capable. absurd (false≢true capable);
    waits = tt;
  }
  refused_holds code (NegotiateAlgorithms offer) a k = record {
    live = λ id. none_live h (TookClear tag m (is_refused code (Refuses (NegotiateAlgorithms offer))) d ∷ h) id (keeps (is_refused code (Refuses (NegotiateAlgorithms offer))) id) (negotiating q h (NegotiateAlgorithms offer) refl a) (k.live id);
    known = λ s capable. absurd (false≢true capable);
    waits = tt;
  }
  refused_holds code (GetMeasurements op) a k = record {
    live = λ id. live_stays h (TookClear tag m (is_refused code (Refuses (GetMeasurements op))) d ∷ h) id (keeps (is_refused code (Refuses (GetMeasurements op))) id) refl refl (k.live id);
    known = k.known;
    waits = tt;
  }
  refused_holds code (PskExchange exchange) a k = record {
    live = λ id. live_stays h (TookClear tag m (is_refused code (Refuses (PskExchange exchange))) d ∷ h) id (keeps (is_refused code (Refuses (PskExchange exchange))) id) refl refl (k.live id);
    known = k.known;
    waits = tt;
  }
  refused_holds code _ a k = absurd a

  stopped_holds : (why : Stop) (asked : RequestMessage) → negotiates asked ≡ true → IsAwaited q h asked → Holds q h → Holds q (TookClear tag m (stopped why) d ∷ h)
  stopped_holds why asked negotiation a k = record {
    live = λ id. none_live h (TookClear tag m (stopped why) d ∷ h) id (keeps (stopped why) id) (negotiating q h asked negotiation a) (k.live id);
    known = λ s capable. absurd (false≢true capable);
    waits = tt;
  }

  -- ---- Chunks.

  large_holds : (asked : RequestMessage) (handle : ℕ) → may_be_large asked ≡ true → IsAwaited q h asked → Holds q h → Holds q (TookClear tag m (goes_on Nothing (get_sent h asked handle 0 [])) d ∷ h)
  unfolding session_of
  large_holds asked handle may a k = record {
    live = λ id. live_stays h (TookClear tag m (goes_on Nothing (get_sent h asked handle 0 [])) d ∷ h) id (keeps (goes_on Nothing (get_sent h asked handle 0 [])) id) refl refl (k.live id);
    known = k.known;
    waits = (awaited_stays q h (TookClear tag m (goes_on Nothing (get_sent h asked handle 0 [])) d ∷ h) asked refl refl (λ id. refl) a, may, refl, none_yet q.max handle);
  }

  send_holds : (asked : RequestMessage) (handle number : ℕ) (before : Sent) → before.aim ≡ ByChunks asked handle number → (piece_of (connection_terms h).common asked handle number).last ≡ false
      → IsOutstanding q h before.content before.aim → Holds q h → Holds q (TookClear tag m (goes_on Nothing (piece_sent (connection_terms h).common h asked handle (number + 1))) d ∷ h)
  unfolding session_of
  send_holds asked handle number before aims more out k =
      let o = subst (IsOutstanding q h before.content) aims out in
      let led : Led = goes_on Nothing (piece_sent (connection_terms h).common h asked handle (number + 1)) in
      record {
        live = λ id. live_stays h (TookClear tag m led d ∷ h) id (keeps led id) refl refl (k.live id);
        known = k.known;
        waits = (awaited_stays q h (TookClear tag m led d ∷ h) asked refl refl (λ id. refl) o.0, λ s. next_piece (connection_terms h).common asked handle number before.content more (o.1 s));
      }

  get_holds : (asked : RequestMessage) (handle number : ℕ) (before : List ChunkMessage) (c : ChunkMessage) (sent : Sent) → sent.aim ≡ ForChunk asked handle number before → get_fault q.max handle number before c ≡ None → c.last ≡ false
      → IsOutstanding q h sent.content sent.aim → Holds q h → Holds q (TookClear tag m (goes_on Nothing (get_sent h asked c.handle (c.number + 1) (c ∷ before))) d ∷ h)
  unfolding session_of
  get_holds asked handle number before c sent aims none more out k =
      let o = subst (IsOutstanding q h sent.content) aims out in
      let led : Led = goes_on Nothing (get_sent h asked c.handle (c.number + 1) (c ∷ before)) in
      record {
        live = λ id. live_stays h (TookClear tag m led d ∷ h) id (keeps led id) refl refl (k.live id);
        known = k.known;
        waits = (awaited_stays q h (TookClear tag m led d ∷ h) asked refl refl (λ id. refl) o.0, o.1, refl, one_more q.max handle number before c none more o.3);
      }

  -- ---- The negotiation.

  version_holds : (answer : List ℕ) → IsAwaited q h GetVersion → Holds q h → Holds q (TookClear tag m (goes_on (Answers GetVersion answer) (plain_sent h (GetCapabilities (requester_caps q)))) d ∷ h)
  version_holds answer a k = record {
    live = λ id. none_live h (TookClear tag m (goes_on (Answers GetVersion answer) (plain_sent h (GetCapabilities (requester_caps q)))) d ∷ h) id (keeps (goes_on (Answers GetVersion answer) (plain_sent h (GetCapabilities (requester_caps q)))) id) (negotiating q h GetVersion refl a) (k.live id);
    known = λ s capable. absurd (false≢true capable);
    waits = ((refl, refl), refl);
  }

  caps_holds : (caps theirs : Caps) (answer : List ℕ) (common : Common) (offer : OfferMessage) → IsAwaited q h (GetCapabilities caps) → reading_of h (GetCapabilities caps) answer ≡ Ok (Capabilities theirs) → common_of caps theirs ≡ Ok common
      → offer_of q.suites common.to_responder.transfer ≡ Some offer → is_too_long common (canonical_request (NegotiateAlgorithms offer)) ≡ false → Holds q h
      → Holds q (TookClear tag m (goes_on (Answers (GetCapabilities caps) answer) (request_sent common h (NegotiateAlgorithms offer))) d ∷ h)
  caps_holds caps theirs answer common offer a reads shared offered short k = record {
    live = λ id. none_live h (TookClear tag m (goes_on (Answers (GetCapabilities caps) answer) (request_sent common h (NegotiateAlgorithms offer))) d ∷ h) id (keeps (goes_on (Answers (GetCapabilities caps) answer) (request_sent common h (NegotiateAlgorithms offer))) id)
        (negotiating q h (GetCapabilities caps) refl a) (k.live id);
    known = λ s capable. subst (IsCommon q) (sym (terms (request_sent common h (NegotiateAlgorithms offer)) s)) (is_common s);
    waits = request_waits q h common (NegotiateAlgorithms offer) (λ x. TookClear tag m (goes_on (Answers (GetCapabilities caps) answer) x) d ∷ h)
        (λ x asks. (refl, λ s. subst (λ (c : Common). offer_of q.suites c.to_responder.transfer ≡ Some offer) (sym (terms x s)) offered))
        terms (λ s. (is_common s).their_least) (λ s. short);
  }
    where
      own : common_of (requester_caps q) theirs ≡ Ok common
      own = ap (λ (c : Caps). common_of c theirs) (sym a.1) ∙ shared

      is_common : HasSizes q → IsCommon q common
      is_common s = common_is q theirs common s own

      terms : (x : Sent) → HasSizes q → (connection_terms (TookClear tag m (goes_on (Answers (GetCapabilities caps) answer) x) d ∷ h)).common ≡ common
      terms x s = common_read q (negotiation_of (TookClear tag m (goes_on (Answers (GetCapabilities caps) answer) x) d ∷ h)) (hash_len (connection_terms h)) theirs common s (ap (λ (c : Caps). canonical_request (GetCapabilities c)) a.1) reads own

  choice_holds : (offer : OfferMessage) (answer : List ℕ) → IsAwaited q h (NegotiateAlgorithms offer) → Holds q h → Holds q (TookClear tag m (is_done finished.Connected (Answers (NegotiateAlgorithms offer) answer)) d ∷ h)
  choice_holds offer answer a k = record {
    live = λ id. none_live h (TookClear tag m (is_done finished.Connected (Answers (NegotiateAlgorithms offer) answer)) d ∷ h) id (keeps (is_done finished.Connected (Answers (NegotiateAlgorithms offer) answer)) id)
        (negotiating q h (NegotiateAlgorithms offer) refl a) (k.live id);
    known = λ s capable. subst (IsCommon q) (sym (algorithms_keep (negotiation_of h) (canonical_request (NegotiateAlgorithms offer)) answer)) (k.known s (ap is_capable a.0));
    waits = tt;
  }

  -- ---- Other answers.

  measured_holds : (op : ℕ) (answer : List ℕ) (finish : Finished) → Holds q h → Holds q (TookClear tag m (is_done finish (Answers (GetMeasurements op) answer)) d ∷ h)
  measured_holds op answer finish k = record {
    live = λ id. live_stays h (TookClear tag m (is_done finish (Answers (GetMeasurements op) answer)) d ∷ h) id (keeps (is_done finish (Answers (GetMeasurements op) answer)) id) refl refl (k.live id);
    known = k.known;
    waits = tt;
  }

  accepted_live : (s : Steps) (answer : List ℕ) → is_live s ≡ true → is_live (when_live s (Accepted answer)) ≡ true
  accepted_live [] answer live = live
  accepted_live (x ∷ s) answer live = refl

  finish_steps : (s : Steps) (answer : List ℕ) (step : Step) (b : Bool) → b ≡ true → is_live s ≡ true
      → (if b then when_live (if b then when_live s (Accepted answer) else s) step else (if b then when_live s (Accepted answer) else s)) ≡ step ∷ when_live s (Accepted answer)
  finish_steps s answer step true is live = live_first (when_live s (Accepted answer)) step (accepted_live s answer live)
  finish_steps s answer step false is live = absurd (false≢true is)

  exchange_holds : (f : Free) (exchange : ExchangeMessage) (answer : List ℕ) → IsAwaited q h (PskExchange exchange) → Holds q h
      → Holds q (TookClear tag m (goes_on (Answers (PskExchange exchange) answer) (finish_sent q h exchange.req_id (with_answer h exchange answer) f.pad)) d ∷ h)
  unfolding session_of
  exchange_holds f exchange answer a k = record {
    live = λ id. live_stays h (TookClear tag m led d ∷ h) id (keeps led id) refl refl (k.live id);
    known = k.known;
    waits = (
      record {
        older = with_answer h exchange answer;
        inner = inner;
        sealed = sealed_next q.psk (with_answer h exchange answer) inner f.pad;
        pad = f.pad;
        live = accepted_live (session_of exchange.req_id h) answer (ap is_live a.1);
        steps = finish_steps (session_of exchange.req_id h) answer (Asked AskFinish inner (sealed_next q.psk (with_answer h exchange answer) inner f.pad)) (exchange.req_id == exchange.req_id) (eq-eqb exchange.req_id exchange.req_id refl) (ap is_live a.1);
        content_is = refl;
        sealed_is = refl;
      },
      tt,
    );
  }
    where
      inner : List ℕ
      inner = inner_request (PskFinish (finish_verify q.psk (with_answer h exchange answer)))

      led : Led
      led = goes_on (Answers (PskExchange exchange) answer) (finish_sent q h exchange.req_id (with_answer h exchange answer) f.pad)

  -- ---- All kinds.

  as_led : (x led : Led) → led ≡ x → Holds q (TookClear tag m x d ∷ h) → Holds q (TookClear tag m led d ∷ h)
  as_led x led is k = subst (λ (l : Led). Holds q (TookClear tag m l d ∷ h)) (sym is) k

  clear_led_holds : (f : Free) (sent : Sent) (asked : RequestMessage) (led : Led) → IsOutstanding q h sent.content sent.aim → IsAwaited q h asked → ClearLeads q h f sent.aim m asked led → Holds q h → Holds q (TookClear tag m led d ∷ h)
  clear_led_holds f sent asked led o a (ByRefusal code is) k = as_led _ led is (refused_holds code asked a k)
  clear_led_holds f sent asked led o a (ByLarge handle may is) k = as_led _ led is (large_holds asked handle may a k)
  clear_led_holds f sent asked led o a (BySend handle number aims more is) k = as_led _ led is (send_holds asked handle number sent aims more o k)
  clear_led_holds f sent asked led o a (ByGet handle number before c aims none more is) k = as_led _ led is (get_holds asked handle number before c sent aims none more o k)
  clear_led_holds f sent asked led o a (ByStop why negotiation is) k = as_led _ led is (stopped_holds why asked negotiation a k)
  clear_led_holds f sent asked led o a (ByVersion answer was is) k = as_led _ led is (version_holds answer (subst (IsAwaited q h) was a) k)
  clear_led_holds f sent asked led o a (ByCaps caps theirs answer common offer was read shared offered short is) k =
      as_led _ led is (caps_holds caps theirs answer common offer (subst (IsAwaited q h) was a) read.reads shared offered short k)
  clear_led_holds f sent asked led o a (ByChoice offer answer was is) k = as_led _ led is (choice_holds offer answer (subst (IsAwaited q h) was a) k)
  clear_led_holds f sent asked led o a (ByMeasured op answer finish was is) k = as_led _ led is (measured_holds op answer finish k)
  clear_led_holds f sent asked led o a (ByExchange exchange answer rsp was read right is) k = as_led _ led is (exchange_holds f exchange answer (subst (IsAwaited q h) was a) k)

pub clear_holds : (q : ReqSetup) (h : History) (f : Free) (tag : ℕ) (m : List ℕ) (led : Led) (d : Draw) (sent : Sent) (asked : RequestMessage)
    → outstanding h ≡ Some sent → asked_in sent.aim ≡ Some asked → ClearLeads q h f sent.aim m asked led → Holds q h → Holds q (TookClear tag m led d ∷ h)
clear_holds q h f tag m led d sent asked waits asks leads k =
    let o = subst (Waits q h) waits k.waits in
    clear_led_holds q h tag m d f sent asked led o (awaited q h sent.content sent.aim asked asks o) leads k
