-- What is reported of a record tells whether it brought data, and where these stand in its session.
use Rattle.std.proofs.Common.{refl, ◌≡◌, ◌∙◌, ◌∷◌, ◌+◌, ℕ, List, [], Bool, true, false, Option, Some, None, ap, sym, subst, eq-eqb}
use Rattle.std.specs.Prelude.{⊤, ◌==◌, ◌&&◌, not, drop, if◌then◌else◌, is_some, slice_index, unwrap_or, Result, Ok, Err}
use Rattle.std.proofs.lemmas.Bool.{false≢true}
use Rattle.std.proofs.lemmas.Option.{none-some, same_Some}
use Rattle.chunking.specs.Collecting.{joined_with}
use Rattle.spdm_grammar.specs.Message.{ResponseMessage, ChunkMessage, MeasuredMessage}
use Rattle.spdm_grammar.specs.Message.ResponseMessage.{Measurements, PskFinishRsp, HeartbeatAck, KeyUpdateAck, EndSessionAck, ChunkResponse, Error}
use Rattle.spdm_grammar.specs.declared.told.event.BadReply.{BadReply}
use Rattle.spdm_grammar.specs.declared.told.event.Event.{Event}
use Rattle.spdm_grammar.specs.declared.messages.malformed.Malformed.{Malformed}
use Rattle.spdm_grammar.specs.declared.names.error_number.TheConstants.{LARGE_RESPONSE}
use Rattle.spdm_grammar.specs.declared.messages.part_faults.ChunkFault.{ChunkFault}
use Rattle.spdm_machine.specs.Keys.{Draw}
use Rattle.spdm_machine.specs.Terms.{hash_len}
use Rattle.psk_session.specs.Data.{data_of}
use Rattle.requester_machine.proofs.ClearLeads.{either}
use Rattle.requester_machine.proofs.Heard.{taken_opened}
use Rattle.requester_machine.proofs.RecordLeads.{RecordLeads, record_leads}
use Rattle.requester_machine.proofs.RecordLeads.RecordLeads.{ByAnswer, ByChunk, ByEnd, ByFirst, ByUpdate}
use Rattle.requester_machine.proofs.ResponseLengths.{measured_value}
use Rattle.requester_machine.specs.AcceptedLaws.{IsOpened}
use Rattle.requester_machine.specs.Answers.{goes_on, is_refused, measured_led}
use Rattle.requester_machine.specs.Asking.Outcome.{Adds}
use Rattle.requester_machine.specs.Bodies.{is_clear}
use Rattle.requester_machine.specs.ClearAnswers.{get_fault}
use Rattle.requester_machine.specs.Commands.{Free, has_reached}
use Rattle.requester_machine.specs.Hearing.{came_to, hears}
use Rattle.requester_machine.specs.History.{Effect, Entry, History, Led, outstanding, sent_in}
use Rattle.requester_machine.specs.History.Effect.{Answers, Grants, Loses, Nothing, Refuses, Stops}
use Rattle.requester_machine.specs.History.Entry.{TookRecord}
use Rattle.requester_machine.specs.Holds.{Holds}
use Rattle.requester_machine.specs.InnerMessages.{Came, chunk_led, data_led, echoes, error_led, first_get, follows, inner_fault, inner_led, inner_led_by, message_in, message_led, op_in, or_lost, outlives_error, read_led, reading_of, update_led, verified_led, whole_led}
use Rattle.requester_machine.specs.Message.{Ask, Sent}
use Rattle.requester_machine.specs.Message.Aim.{InSession}
use Rattle.requester_machine.specs.Message.Ask.{AskBeat, AskChunk, AskData, AskEnd, AskFinish, AskMeasure, AskUpdate, AskVerify}
use Rattle.requester_machine.specs.Order.{waiting_ask}
use Rattle.requester_machine.specs.Records.{answer_inner}
use Rattle.requester_machine.specs.Sending.{operation_of}
use Rattle.requester_machine.specs.Session.{Steps, after_record, ends, session_of, session_terms}
use Rattle.requester_machine.specs.Session.Step.{Asked, Took}
use Rattle.requester_machine.specs.Setup.{ReqSetup}
use Rattle.requester_machine.specs.Shown.{blocks_of, event_in}
use Rattle.requester_core.specs.InSession.{Settles, brought_by}
use Rattle.requester_core.specs.Joined.{IsAsked, is_bringing}
use Rattle.requester_core.proofs.Brought.{brings}
use Rattle.requester_core.proofs.SessionsRecorded.{is_sealed}

-- ---- What is told.

abbrev Tells : Led → Type 0
Tells led = is_some (brings led.effect) ≡ is_bringing led.event

abbrev TellsIn : Result Led BadReply → Type 0
TellsIn (Ok led) = Tells led
TellsIn (Err fault) = ⊤

module _ (q : ReqSetup) (h : History) (f : Free) (came : Came) where
  measured_tells : (op : ℕ) (answer : List ℕ) (measured : MeasuredMessage) → reading_of came answer ≡ Ok (Measurements measured) → Tells (measured_led op measured (Grants (AskMeasure op) answer))
  measured_tells op answer measured reads = ap (λ (v : Option ResponseMessage). is_some (blocks_of v)) (measured_value (hash_len (session_terms came.steps)) answer measured reads)

  error_tells : (ask : Ask) (code : ℕ) (extended : List ℕ) → TellsIn (error_led q h f came ask code extended)
  error_tells ask code extended =
      either TellsIn (follows came ask code) (Ok (first_get q h f came (op_in ask) extended)) (if outlives_error ask then Ok (is_refused code Nothing) else Err _) refl
      (either TellsIn (outlives_error ask) (Ok (is_refused code Nothing)) (Err _) refl tt)

  update_tells : (all echo : Bool) → TellsIn (update_led q h f came all echo)
  update_tells all true = refl
  update_tells all false = tt

  verified_tells : (echo : Bool) → TellsIn (verified_led came echo)
  verified_tells true = refl
  verified_tells false = tt

  whole_tells : (op : ℕ) (whole : List ℕ) (reading : Result ResponseMessage Malformed) → reading_of came whole ≡ reading → TellsIn (whole_led q h f came op whole reading)
  whole_tells op whole (Err fault) reads = tt
  whole_tells op whole (Ok (Error version code detail extended)) reads =
      either Tells (code == LARGE_RESPONSE && not (has_reached 65300 came.steps)) (first_get q h f came op extended) (is_refused code Nothing) refl refl
  whole_tells op whole (Ok (Measurements measured)) reads = measured_tells op whole measured reads
  whole_tells op whole (Ok _) reads = tt

  chunk_tells : (op : ℕ) (before : List ChunkMessage) (c : ChunkMessage) (fault : Option ChunkFault) → TellsIn (chunk_led q h f came op before c fault)
  chunk_tells op before c (Some fault) = tt
  chunk_tells op before c None =
      either TellsIn c.last (whole_led q h f came op (joined_with before c) (reading_of came (joined_with before c))) (Ok _)
      (whole_tells op (joined_with before c) (reading_of came (joined_with before c)) refl) refl

  message_tells : (ask : Ask) (value : ResponseMessage) → reading_of came (message_in came) ≡ Ok value → TellsIn (message_led q h f came ask value)
  message_tells ask (Error version code detail extended) reads = error_tells ask code extended
  message_tells AskFinish PskFinishRsp reads = refl
  message_tells AskBeat HeartbeatAck reads = refl
  message_tells (AskUpdate all) (KeyUpdateAck op tag) reads = update_tells all (echoes came (operation_of all) op tag)
  message_tells AskVerify (KeyUpdateAck op tag) reads = verified_tells (echoes came 3 op tag)
  message_tells (AskMeasure op) (Measurements measured) reads = measured_tells op (message_in came) measured reads
  message_tells AskEnd EndSessionAck reads = refl
  message_tells (AskChunk op handle number before) (ChunkResponse c) reads = chunk_tells op before c (get_fault q.max handle number before c)
  message_tells ask value reads = tt

  read_tells : (ask : Ask) (reading : Result ResponseMessage Malformed) → reading_of came (message_in came) ≡ reading → TellsIn (read_led q h f came ask reading)
  read_tells ask (Err fault) reads = tt
  read_tells ask (Ok value) reads = message_tells ask value reads

  own_tells : (ask : Ask) → TellsIn (data_led came ask)
  own_tells AskData = refl
  own_tells _ = tt

  inner_tells : (ask : Ask) (fault : Option BadReply) → TellsIn (inner_led_by q h f came ask fault)
  inner_tells ask (Some fault) = tt
  inner_tells ask None = either TellsIn (slice_index came.inner 0 == 5) (read_led q h f came ask (reading_of came (message_in came))) (data_led came ask) (read_tells ask (reading_of came (message_in came)) refl) (own_tells ask)

  lost_tells : (result : Result Led BadReply) → TellsIn result → Tells (or_lost came result)
  lost_tells (Ok led) tells = tells
  lost_tells (Err fault) tells = refl

  pub record_tells : (ask : Ask) → Tells (or_lost came (inner_led q h f came ask))
  unfolding inner_led
  record_tells ask = lost_tells (inner_led_by q h f came ask (inner_fault q came.inner)) (inner_tells ask (inner_fault q came.inner))

-- ---- Where the data stand.

-- An effect that brings data ends no session.
brings_stays : (effect : Effect) → is_some (brings effect) ≡ true → ends effect ≡ false
brings_stays Nothing is = refl
brings_stays (Answers asked answer) is = refl
brings_stays (Refuses asked) is = refl
brings_stays Stops is = refl
brings_stays (Grants AskFinish answer) is = refl
brings_stays (Grants AskData answer) is = refl
brings_stays (Grants AskBeat answer) is = refl
brings_stays (Grants (AskUpdate all) answer) is = refl
brings_stays (Grants AskVerify answer) is = refl
brings_stays (Grants (AskMeasure op) answer) is = refl
brings_stays (Grants (AskChunk op handle number before) answer) is = refl
brings_stays (Grants AskEnd answer) is = absurd (false≢true is)
brings_stays Loses is = absurd (false≢true is)

pub record HasData (s : Steps) (brought : Option (List ℕ)) : Type 0 where
  pub data_is : brought ≡ Some (data_of s)
  pub rests : waiting_ask s ≡ None

some_is : (o : Option (List ℕ)) → is_some o ≡ true → o ≡ Some (unwrap_or o [])
some_is None is = absurd (false≢true is)
some_is (Some x) is = refl

stepped : (s older : Steps) (ask : Ask) (inner sent sealed answer : List ℕ) (effect : Effect) → s ≡ Asked ask inner sent ∷ older → is_some (brings effect) ≡ true → HasData (after_record sealed answer effect s) (brings effect)
stepped s older ask inner sent sealed answer effect is has =
    subst (λ (x : Steps). HasData (after_record sealed answer effect x) (brings effect)) (sym is)
    (by_end (ends effect) (brings_stays effect has))
  where
    by_end : (b : Bool) → b ≡ false → HasData (if b then [] else Took sealed answer effect ∷ Asked ask inner sent ∷ older) (brings effect)
    by_end true stays = absurd (false≢true (sym stays))
    by_end false stays = record { data_is = some_is (brings effect) has; rests = refl }

-- The session after a record to which nothing is sent.
own_after : (h : History) (tag id : ℕ) (sealed inner : List ℕ) (led : Led) (d : Draw) → led.next ≡ None → session_of id (TookRecord tag id sealed inner led d ∷ h) ≡ after_record sealed inner led.effect (session_of id h)
unfolding session_of
own_after h tag id sealed inner led d none = rw (eq-eqb id id refl, none) refl

same_aim : (id of : ℕ) (ask a : Ask) → InSession id ask ≡ InSession of a → of ≡ id
same_aim id of ask a is = cc is

same_id : (h : History) (waits sent : Sent) (id of : ℕ) (ask a : Ask) → outstanding h ≡ Some waits → waits.aim ≡ InSession id ask → outstanding h ≡ Some sent → sent.aim ≡ InSession of a → of ≡ id
same_id h waits sent id of ask a is aims other its = same_aim id of ask a (sym aims ∙ ap (λ (s : Sent). s.aim) (same_Some waits sent (sym is ∙ other)) ∙ its)

module _ (q : ReqSetup) (h : History) (owner : Bool) (tag : ℕ) (body : List ℕ) (f : Free) (d : Draw) (entry : Entry) (told : Event) (settles : Settles q h owner tag body f d entry) (event : event_in entry ≡ Some told) where
  opened : IsOpened q h tag (drop 1 body) f d entry
  opened = taken_opened q h owner tag body f d entry settles.outcome settles.sealed

  abbrev its_led : Led
  its_led = or_lost (came_to q h opened.id opened.ask (drop 1 body)) (inner_led q h f (came_to q h opened.id opened.ask (drop 1 body)) opened.ask)

  its_brought : brought_by entry ≡ brings its_led.effect
  its_brought = ap brought_by opened.is

  its_event : its_led.event ≡ told
  its_event = same_Some its_led.event told (ap event_in (sym opened.is) ∙ event)

  pub brought_tells : is_some (brought_by entry) ≡ is_bringing told
  brought_tells = ap is_some its_brought ∙ record_tells q h f (came_to q h opened.id opened.ask (drop 1 body)) opened.ask ∙ ap is_bringing its_event

  pub brought_none : is_bringing told ≡ false → brought_by entry ≡ None
  brought_none is = none_is (brought_by entry) (brought_tells ∙ is)
    where
      none_is : (o : Option (List ℕ)) → is_some o ≡ false → o ≡ None
      none_is None is = refl
      none_is (Some x) is = absurd (false≢true (sym is))

  -- The session has the data.
  pub brought_data : (waits : Sent) (id : ℕ) (ask : Ask) → Holds q h → IsAsked h waits id ask → is_bringing told ≡ true → HasData (session_of id (entry ∷ h)) (brought_by entry)
  brought_data waits id ask holds asked is =
      let of : opened.id ≡ id = same_id h waits opened.sent id opened.id ask opened.ask asked.outstanding asked.aims opened.waits opened.aims in
      let sealed = is_sealed q h opened.sent opened.id opened.ask holds opened.waits opened.aims in
      let inner = answer_inner q.psk (session_of opened.id h) opened.ask (drop 1 body) in
      let next : its_led.next ≡ None = ap sent_in (sym opened.is) ∙ settles.next in
      let own = stepped (session_of opened.id h) sealed.older opened.ask sealed.inner sealed.sealed (drop 1 body) inner its_led.effect sealed.steps (ap is_some (sym its_brought) ∙ brought_tells ∙ is) in
      let at_own = subst (λ (s : Steps). HasData s (brings its_led.effect)) (sym (own_after h tag opened.id (drop 1 body) inner its_led d next)) own in
      subst (λ (i : ℕ). HasData (session_of i (entry ∷ h)) (brought_by entry)) of
      (subst (λ (e : Entry). HasData (session_of opened.id (e ∷ h)) (brought_by e)) (sym opened.is) at_own)

-- ---- What is sent upon a record.

pub next_is : (led x : Led) (sent : Sent) → led ≡ x → led.next ≡ Some sent → x.next ≡ Some sent
next_is led x sent is next = ap (λ (l : Led). l.next) (sym is) ∙ next

aim_is : (led : Led) (effect : Effect) (y sent : Sent) (id : ℕ) (a : Ask) → led ≡ goes_on effect y → led.next ≡ Some sent → y.aim ≡ InSession id a → sent.aim ≡ InSession id a
aim_is led effect y sent id a is next aims = sym (ap (λ (s : Sent). s.aim) (same_Some y sent (next_is led (goes_on effect y) sent is next))) ∙ aims

next_aims : (q : ReqSetup) (h : History) (f : Free) (came : Came) (ask : Ask) (led : Led) (sent : Sent) → RecordLeads q h f came ask led → led.next ≡ Some sent → (a : Ask) × (sent.aim ≡ InSession came.id a)
next_aims q h f came ask led sent (ByEnd ends none) next = absurd (none-some sent (sym none ∙ next))
next_aims q h f came ask led sent (ByAnswer stays other brings none) next = absurd (none-some sent (sym none ∙ next))
next_aims q h f came ask led sent (ByUpdate all asks is) next = (AskVerify, aim_is led _ _ sent came.id AskVerify is next refl)
next_aims q h f came ask led sent (ByFirst op handle follows is) next = (AskChunk op handle 0 [], aim_is led _ _ sent came.id (AskChunk op handle 0 []) is next refl)
next_aims q h f came ask led sent (ByChunk op handle number before c asks none more is) next = (AskChunk op c.handle (c.number + 1) (c ∷ before), aim_is led _ _ sent came.id (AskChunk op c.handle (c.number + 1) (c ∷ before)) is next refl)

-- It is a record of the same session.
pub record_aims : (q : ReqSetup) (h : History) (owner : Bool) (tag : ℕ) (body : List ℕ) (f : Free) (d : Draw) (entry : Entry) (waits next : Sent) (id : ℕ) (ask : Ask) → hears q h owner tag body f d ≡ Adds entry → is_clear body ≡ false → IsAsked h waits id ask
    → sent_in entry ≡ Some next → (a : Ask) × (next.aim ≡ InSession id a)
record_aims q h owner tag body f d entry waits next id ask adds sealed asked sends =
    let o = taken_opened q h owner tag body f d entry adds sealed in
    let came = came_to q h o.id o.ask (drop 1 body) in
    let of : o.id ≡ id = same_id h waits o.sent id o.id ask o.ask asked.outstanding asked.aims o.waits o.aims in
    let n = next_aims q h f came o.ask (or_lost came (inner_led q h f came o.ask)) next (record_leads q h f came o.ask) (ap sent_in (sym o.is) ∙ sends) in
    subst (λ (i : ℕ). (a : Ask) × (next.aim ≡ InSession i a)) of n
