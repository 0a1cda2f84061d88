-- The length of a history bounds its counts.
use Rattle.std.proofs.Common.{◌≤◌, ◌+◌, ◌*◌, ℕ, List, [], ◌∷◌, true, false, Bool, Option, Some, None, length, arith}
use Rattle.std.specs.Prelude.{◌==◌, if◌then◌else◌, is_some}
use Rattle.spdm_grammar.specs.Message.{RequestMessage}
use Rattle.spdm_grammar.specs.Message.RequestMessage.{PskExchange}
use Rattle.spdm_grammar.specs.Requests.{canonical_request}
use Rattle.requester_machine.specs.Setup.{ReqSetup}
use Rattle.transcript.specs.Transcripts.{Negotiation}
use Rattle.requester_machine.specs.Bounds.{CountsAreBounded, SessionsAreBounded}
use Rattle.requester_machine.specs.History.{History, Entry, Effect, sent_in, sent_count, is_first_chunk, larges_of, takes_draw, draws_of, negotiation_of}
use Rattle.requester_machine.specs.History.Effect.{Answers, Refuses}
use Rattle.requester_machine.specs.History.Entry.{Told, TookClear, TookRecord}
use Rattle.requester_machine.specs.Message.{Command, Ask, Aim, Content, Sent, asked_in}
use Rattle.requester_machine.specs.Message.Aim.{InSession}
use Rattle.requester_machine.specs.Message.Command.{Connect, Open}
use Rattle.requester_machine.specs.Message.Content.{Clear, Sealed}
use Rattle.requester_machine.specs.Session.{Steps, Step, session_of, when_live, with_content, with_aim, with_sent, begun, after_command, after_clear, after_record, ends, updates, updates_all, is_data, taken_of, request_epoch, response_epoch}
use Rattle.requester_machine.specs.Session.Step.{Started, Accepted, Asked, Took}

-- ---- The counts of the connection.

one_more : (b : Bool) (n m : ℕ) → n ≤ m → (if b then n + 1 else n) ≤ m + 1
one_more true n m is = omega arith
one_more false n m is = omega arith

length-more : (e : Entry) (h : History) → length h + 1 ≤ length (e ∷ h)
length-more e h = omega arith

counted : (b : Bool) (n : ℕ) (e : Entry) (h : History) → n ≤ length h → (if b then n + 1 else n) ≤ length (e ∷ h)
counted b n e h is = (let more = one_more b n (length h) is in omega (arith, more))

drawn : (q : ReqSetup) (h : History) → draws_of q h ≤ length h
drawn q [] = omega arith
drawn q (Told command sent d ∷ older) = counted (takes_draw q command) (draws_of q older) (Told command sent d) older (drawn q older)
drawn q (TookClear tag m led d ∷ older) = (let is = drawn q older in omega (arith, is))
drawn q (TookRecord tag id sealed inner led d ∷ older) = (let is = drawn q older in omega (arith, is))

sent : (h : History) → sent_count h ≤ length h
sent [] = omega arith
sent (e ∷ older) = counted (is_some (sent_in e)) (sent_count older) e older (sent older)

large : (h : History) → larges_of h ≤ length h
large [] = omega arith
large (e ∷ older) = counted (is_first_chunk (sent_in e)) (larges_of older) e older (large older)

pub counts : CountsAreBounded
counts q h = (drawn q h, sent h, large h)

-- ---- The counts of a session: what a step adds at most, and so an entry.

-- A count of steps grows by a at most where a record is sealed, and by b where a message is taken.
record Grows (f : Steps → ℕ) (a b : ℕ) : Type 0 where
  none : f [] ≤ 0
  started : (n : Negotiation) (exchange : List ℕ) → f (Started n exchange ∷ []) ≤ a
  accepted : (answer : List ℕ) (s : Steps) → f (Accepted answer ∷ s) ≤ f s + b
  asked : (ask : Ask) (inner sealed : List ℕ) (s : Steps) → f (Asked ask inner sealed ∷ s) ≤ f s + a
  took : (sealed inner : List ℕ) (effect : Effect) (s : Steps) → f (Took sealed inner effect ∷ s) ≤ f s + b

under : (n m k : ℕ) → n ≤ 0 → n ≤ m + k
under n m k is = omega arith

stays : (n m : ℕ) → n ≤ n + m
stays n m = omega arith

either_grows : (f : Steps → ℕ) (n : ℕ) (b : Bool) (x y : Steps) → f x ≤ n → f y ≤ n → f (if b then x else y) ≤ n
either_grows f n true x y p r = p
either_grows f n false x y p r = r

module _ (f : Steps → ℕ) (a b : ℕ) (g : Grows f a b) where
  live_grows : (s : Steps) (step : Step) (k : ℕ) → ((x : Step) (xs : Steps) → f (step ∷ x ∷ xs) ≤ f (x ∷ xs) + k) → f (when_live s step) ≤ f s + k
  live_grows [] step k more = under (f []) (f []) k g.none
  live_grows (x ∷ xs) step k more = more x xs

  content_grows : (ask : Ask) (content : Content) (s : Steps) → f (with_content ask content s) ≤ f s + a
  content_grows ask (Clear message) s = stays (f s) a
  content_grows ask (Sealed sealed inner pad) s = live_grows s (Asked ask inner sealed) a (λ x xs. g.asked ask inner sealed (x ∷ xs))

  aim_grows : (id : ℕ) (aim : Aim) (content : Content) (s : Steps) → f (with_aim id aim content s) ≤ f s + a
  aim_grows id (InSession of ask) content s = either_grows f (f s + a) (of == id) (with_content ask content s) s (content_grows ask content s) (stays (f s) a)
  aim_grows id _ content s = stays (f s) a

  sent_grows : (id : ℕ) (next : Option Sent) (s : Steps) → f (with_sent id next s) ≤ f s + a
  sent_grows id None s = stays (f s) a
  sent_grows id (Some sent) s = aim_grows id sent.aim sent.content s

  new_grows : (n : Negotiation) (exchange : List ℕ) (s : Steps) → f (Started n exchange ∷ []) ≤ f s + a
  new_grows n exchange s = (let is = g.started n exchange in omega (arith, is))

  begun_grows : (id : ℕ) (n : Negotiation) (asked : Option RequestMessage) (s : Steps) → f (begun id n asked s) ≤ f s + a
  begun_grows id n (Some (PskExchange exchange)) s =
      either_grows f (f s + a) (exchange.req_id == id) (Started n (canonical_request (PskExchange exchange)) ∷ []) s (new_grows n (canonical_request (PskExchange exchange)) s) (stays (f s) a)
  begun_grows id n _ s = stays (f s) a

  command_grows : (id : ℕ) (n : Negotiation) (command : Command) (sent : Sent) (s : Steps) → f (after_command id n command sent s) ≤ f s + a
  command_grows id n Connect sent s = under (f []) (f s) a g.none
  command_grows id n (Open summary) sent s = begun_grows id n (asked_in sent.aim) s
  command_grows id n _ sent s = sent_grows id (Some sent) s

  clear_grows : (id : ℕ) (effect : Effect) (s : Steps) → f (after_clear id effect s) ≤ f s + b
  clear_grows id (Answers (PskExchange exchange) answer) s =
      either_grows f (f s + b) (exchange.req_id == id) (when_live s (Accepted answer)) s (live_grows s (Accepted answer) b (λ x xs. g.accepted answer (x ∷ xs))) (stays (f s) b)
  clear_grows id (Refuses (PskExchange exchange)) s = either_grows f (f s + b) (exchange.req_id == id) [] s (under (f []) (f s) b g.none) (stays (f s) b)
  clear_grows id _ s = stays (f s) b

  record_grows : (sealed inner : List ℕ) (effect : Effect) (s : Steps) → f (after_record sealed inner effect s) ≤ f s + b
  record_grows sealed inner effect s =
      either_grows f (f s + b) (ends effect) [] (when_live s (Took sealed inner effect)) (under (f []) (f s) b g.none) (live_grows s (Took sealed inner effect) b (λ x xs. g.took sealed inner effect (x ∷ xs)))

  both : (n m k : ℕ) → n ≤ m + a → m ≤ k + b → n ≤ k + (a + b)
  both n m k p r = omega arith

  first : (n m : ℕ) → n ≤ m + a → n ≤ m + (a + b)
  first n m p = omega arith

  entry_grows : (id : ℕ) (e : Entry) (h : History) → f (session_of id (e ∷ h)) ≤ f (session_of id h) + (a + b)
  unfolding session_of
  entry_grows id (Told command sent d) h = first _ (f (session_of id h)) (command_grows id (negotiation_of h) command sent (session_of id h))
  entry_grows id (TookClear tag m led d) h =
      both _ (f (after_clear id led.effect (session_of id h))) _ (sent_grows id led.next (after_clear id led.effect (session_of id h))) (clear_grows id led.effect (session_of id h))
  entry_grows id (TookRecord tag of sealed inner led d) h =
      either_grows f (f (session_of id h) + (a + b)) (of == id) (with_sent id led.next (after_record sealed inner led.effect (session_of id h))) (session_of id h)
      (both _ (f (after_record sealed inner led.effect (session_of id h))) _ (sent_grows id led.next (after_record sealed inner led.effect (session_of id h))) (record_grows sealed inner led.effect (session_of id h)))
      (stays (f (session_of id h)) (a + b))

-- ---- Epochs and application messages.

taken_grows : (b : Bool) (n : ℕ) → (if b then n + 1 else n) ≤ n + 1
taken_grows true n = omega arith
taken_grows false n = omega arith

same : (n m : ℕ) → n ≤ n + m
same n m = omega arith

request_grows : Grows request_epoch 0 1
request_grows = record {
  none = omega arith;
  started = λ n exchange. omega arith;
  accepted = λ answer s. same (request_epoch s) 1;
  asked = λ ask inner sealed s. same (request_epoch s) 0;
  took = λ sealed inner effect s. taken_grows (updates effect) (request_epoch s);
}

response_grows : Grows response_epoch 0 1
response_grows = record {
  none = omega arith;
  started = λ n exchange. omega arith;
  accepted = λ answer s. same (response_epoch s) 1;
  asked = λ ask inner sealed s. same (response_epoch s) 0;
  took = λ sealed inner effect s. taken_grows (updates_all effect) (response_epoch s);
}

data_grows : Grows taken_of 0 1
data_grows = record {
  none = omega arith;
  started = λ n exchange. omega arith;
  accepted = λ answer s. same (taken_of s) 1;
  asked = λ ask inner sealed s. same (taken_of s) 0;
  took = λ sealed inner effect s. taken_grows (is_data effect) (taken_of s);
}

steps_grow : Grows (λ s. length s) 1 1
steps_grow = record {
  none = omega arith;
  started = λ n exchange. omega arith;
  accepted = λ answer s. omega arith;
  asked = λ ask inner sealed s. omega arith;
  took = λ sealed inner effect s. omega arith;
}

onward : (f : Steps → ℕ) → Grows f 0 1 → (id : ℕ) (h : History) → f (session_of id h) ≤ length h
unfolding session_of
onward f g id [] = g.none
onward f g id (e ∷ older) = (let is = onward f g id older in let more = entry_grows f 0 1 g id e older in omega (arith, is, more))

two_each : (id : ℕ) (h : History) → length (session_of id h) ≤ 2 * length h
unfolding session_of
two_each id [] = omega arith
two_each id (e ∷ older) = (let is = two_each id older in let more = entry_grows (λ s. length s) 1 1 steps_grow id e older in omega (arith, is, more))

pub sessions : SessionsAreBounded
sessions h id = (onward request_epoch request_grows id h, onward response_epoch response_grows id h, onward taken_of data_grows id h, two_each id h)
