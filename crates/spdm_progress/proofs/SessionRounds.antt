-- A round in a session: a record that asks something of it is on its way to the responder, and then the record that
-- answers it is on its way back.
use Rattle.std.proofs.Common.{◌≡◌, ◌==◌, ◌≢◌, ◌∙◌, ℕ, ◌<◌, ◌≤◌, ◌+◌, List, [], ◌∷◌, ◌++◌, length, Bool, true, false, Option, Some, None, Result, Ok, Contains, refl, sym, ap, subst, inl, inr, arith, eq-eqb}
use Rattle.std.specs.Prelude.{if◌then◌else◌}
use Rattle.std.proofs.lemmas.Bool.{false≢true, ne_eqb}
use Rattle.std.proofs.lemmas.List.Elements.{Contains-append_left, Contains-append_right, Contains-push}
use Rattle.std.proofs.lemmas.Slice.Eq.{bytes_eq-Decides}
use Rattle.key_schedule.specs.Purpose.{Purpose}
use Rattle.secured_record.specs.Faults.{tag_part}
use Rattle.spdm_grammar.specs.declared.told.event.BadReply.{BadReply}
use Rattle.spdm_grammar.specs.declared.told.event.Event.{Event}
use Rattle.spdm_grammar.specs.declared.told.phase.Stage.TheVariants as stage
use Rattle.spdm_machine.specs.Bodies.{record_body}
use Rattle.spdm_machine.specs.Keys.{Draw, inner_message, record_fault, sealed_of}
use Rattle.spdm_machine.specs.Sessions.{id_in_exchange}
use Rattle.spdm_machine.specs.TagLog.{Log, made_record, record_input, record_tag}
use Rattle.spdm_machine.specs.TagLog.Act.{Made}
use Rattle.spdm_machine.proofs.Members.{some_same}
use Rattle.requester_machine.specs.Does.{body_chosen, requester_hears}
use Rattle.requester_machine.specs.Asking.Outcome.{Adds}
use Rattle.requester_machine.specs.History as asked
use Rattle.requester_machine.specs.History.{Led, outstanding}
use Rattle.requester_machine.specs.History.Effect.{Grants}
use Rattle.requester_machine.specs.History.Entry.{TookRecord}
use Rattle.requester_machine.specs.InnerMessages.{inner_led, or_lost}
use Rattle.requester_machine.specs.Message.{Ask, Sent}
use Rattle.requester_machine.specs.Message.Ask.{AskBeat, AskChunk, AskData, AskEnd, AskFinish, AskMeasure, AskUpdate, AskVerify}
use Rattle.requester_machine.specs.Message.Content.{Sealed}
use Rattle.requester_machine.specs.Order.{stage_for}
use Rattle.requester_machine.specs.Records.{answer_fault, answer_inner, asks_all, request_purpose, sealed_next}
use Rattle.requester_machine.specs.Session as steps
use Rattle.requester_machine.specs.Session.{Steps}
use Rattle.requester_machine.specs.Session.Step.{Asked, Took as TookAnswer}
use Rattle.requester_machine.specs.Setup.{ReqSetup}
use Rattle.requester_machine.specs.SpentLaws.{AreNumbersFew}
use Rattle.requester_machine.proofs.FewMade.{numbers_few}
use Rattle.responder_machine.specs.Answer.{Free}
use Rattle.responder_machine.specs.Does as serving_does
use Rattle.responder_machine.specs.Does.{chosen, record_chosen, record_does, responder_does}
use Rattle.responder_machine.specs.History as served
use Rattle.responder_machine.specs.History.{KeptRecord}
use Rattle.responder_machine.specs.History.Entry.{Sealed as WasSealedThere}
use Rattle.responder_machine.specs.Records.{opened, opening_fault, reply_record}
use Rattle.responder_machine.specs.Responder as answering
use Rattle.responder_machine.specs.Responder.Outcome.{Adds as AddsThere}
use Rattle.responder_machine.specs.Responder.{inner_reply, repeats, session_turn}
use Rattle.responder_machine.specs.ResponderLog as served_log
use Rattle.responder_machine.specs.Session as events
use Rattle.responder_machine.specs.Session.{Events, after_record, id_in_record, when_live}
use Rattle.responder_machine.specs.Session.Event.{Heard}
use Rattle.responder_machine.specs.Setup.{RspSetup}
use Rattle.responder_machine.specs.Turn.{Effect as TurnEffect, Turn, code_in, takes}
use Rattle.spdm_grammar.specs.declared.names.request_code.TheConstants.{END_SESSION}
use Rattle.world_machine.specs.Chance.{NoChance}
use Rattle.spdm_progress.specs.InStep.{AreInStep, AreQuiet, AreResting, WasSealed, rsp_id}
use Rattle.spdm_progress.specs.SessionCommands.{OnlyWaited}
use Rattle.spdm_progress.proofs.AlikeSessions.{IsAnswerTo, IsFetched, MayBring, behind, is_kept, still_in_step}
use Rattle.spdm_progress.proofs.ManyPackets.{IsBody}
use Rattle.spdm_progress.proofs.RecordHeard.{asking_in, came_as, heard}
use Rattle.spdm_progress.proofs.RecordRounds.{Beside, KeepsBeside, beside_on, earlier_on, last_waited, live_waited, moves_so, quiet_from, turns_waited}
use Rattle.spdm_progress.proofs.RecordServed.{served as taken}
use Rattle.spdm_progress.proofs.RecordsBetween.{names_session, no_copy, opens, record_length, tag_is}
use Rattle.spdm_progress.proofs.StillKept.{AreAlike, only_further}
use Rattle.spdm_progress.proofs.Talk.{IsSendable}
use Rattle.spdm_progress.proofs.RecordStages.{answer_count, answer_under, awaited_under, live_heard, no_pad, not_end, opens_there, replies_so, sealed_elsewhere, sealed_here, updates_all}

-- What is asked of a session: the ask and its inner message, by the session as it stands; what its answer brings about at
-- the requester, by the turn that answered; what is known of the turns before it at the responder, and of its
-- connection.
pub record Asking : Type 1 where
  pub ask : Ask
  pub inner : Steps → List ℕ
  pub brings : Turn → asked.Effect
  pub may : (t : Turn) → MayBring ask t.reply (brings t)
  pub before : List Turn → Type 0
  pub there : served.History → Type 0
  pub there_on : (r : RspSetup) (g later : served.History) → AreAlike r g later → there g → there later
  pub knows : served.History → Turn → Type 0

module _ (q : ReqSetup) (r : RspSetup) (first id : ℕ) (x : Asking) where
  abbrev pub sealed_for : Steps → List ℕ → List ℕ
  sealed_for s pad = sealed_next q.psk s (x.inner s) pad

  -- The session as it stands with the record.
  abbrev pub asked_steps : Steps → List ℕ → Steps
  asked_steps s pad = Asked x.ask (x.inner s) (sealed_for s pad) ∷ s

  -- The record that answers a turn, and the session as it stands with it.
  abbrev pub answer_for : Steps → Turn → List ℕ
  answer_for s t = sealed_of (steps.session_terms s).choice (answer_under q.psk s (asks_all x.ask)) (answer_count s (asks_all x.ask)) (steps.id_bytes s) (inner_reply t) []

  abbrev pub took_steps : Steps → List ℕ → Turn → Steps
  took_steps s pad t = TookAnswer (answer_for s t) (inner_reply t) (x.brings t) ∷ asked_steps s pad

  -- What was sealed with the record.
  abbrev pub made_for : Steps → List ℕ → Log → Log
  made_for s pad older = made_record (steps.session_terms s).choice (request_purpose q.psk s) (steps.request_next s) (sealed_for s pad) ∷ older

  -- The record is on its way, where Fit holds of the session as it stood before.
  pub record IsAsked (Fit : Steps → Type 0) (tag : ℕ) (body : List ℕ) (log : Log) (h : asked.History) (g : served.History) : Type 0 where
    pub s : Steps
    pub pad : List ℕ
    pub fit : Fit s
    pub short : length (x.inner s) + length pad ≤ 4134
    pub small : tag < 8
    pub body_is : body ≡ record_body (sealed_for s pad)
    pub waits : outstanding h ≡ Some (asking_in tag (Sealed (sealed_for s pad) (x.inner s) pad) id x.ask)
    pub steps_are : steps.session_of id h ≡ asked_steps s pad
    pub at : steps.stage_of s ≡ stage_for x.ask
    pub in_step : AreInStep s (events.session_of (rsp_id s) g)
    pub two_bytes : rsp_id s < 65536
    pub older : Log
    pub log_is : log ≡ made_for s pad older
    pub last : (k : KeptRecord) → events.last_of (events.session_of (rsp_id s) g) ≡ Some k → WasSealed q.psk older s k.sealed
    pub known : x.before (events.turns_of (events.session_of (rsp_id s) g))
    pub queued : x.there g
    pub beside : Beside q r first id (rsp_id s) log h g

  -- The turn is the newest of these, after some of which this was known.
  pub record IsNewest (t : Turn) (turns : List Turn) : Type 0 where
    pub earlier : List Turn
    pub is : turns ≡ t ∷ earlier
    pub known : x.before earlier

  -- The record of this turn was the last that came to the connection, after this history.
  pub record CameThere (t : Turn) (g : served.History) : Type 0 where
    pub until : served.History
    pub between : x.there until
    pub knows : x.knows until t
    pub tag : ℕ
    pub sealed : List ℕ
    pub reply : List ℕ
    pub draw : Draw
    pub since : OnlyWaited (WasSealedThere tag sealed t reply draw ∷ until) g

  pub came_still : (t : Turn) (g later : served.History) → AreAlike r g later → CameThere t g → CameThere t later
  came_still t g later alike y = record { until = y.until; between = y.between; knows = y.knows; tag = y.tag; sealed = y.sealed; reply = y.reply; draw = y.draw; since = only_further (WasSealedThere y.tag y.sealed t y.reply y.draw ∷ y.until) g later alike.between y.since }

  -- Its answer is on its way: a turn of which this is known.
  pub record IsAnswered (Fit : Steps → Type 0) (Good : Steps → Turn → Type 0) (tag : ℕ) (body : List ℕ) (log : Log) (h : asked.History) (g : served.History) : Type 0 where
    pub s : Steps
    pub pad : List ℕ
    pub t : Turn
    pub fit : Fit s
    pub answer : IsAnswerTo x.ask (x.inner s) t
    pub good : Good s t
    pub reply_short : length t.reply ≤ 4133
    pub small : tag < 8
    pub body_is : body ≡ record_body (answer_for s t)
    pub waits : outstanding h ≡ Some (asking_in tag (Sealed (sealed_for s pad) (x.inner s) pad) id x.ask)
    pub steps_are : steps.session_of id h ≡ asked_steps s pad
    pub at : steps.stage_of s ≡ stage_for x.ask
    pub accepted : steps.is_accepted s ≡ true
    pub two_bytes : rsp_id s < 65536
    pub kept : is_kept x.ask ≡ true → AreInStep (took_steps s pad t) (events.session_of (rsp_id s) g)
    pub last : is_kept x.ask ≡ true → (k : KeptRecord) → events.last_of (events.session_of (rsp_id s) g) ≡ Some k → k.sealed ≡ sealed_for s pad
    pub newest : is_kept x.ask ≡ true → IsNewest t (events.turns_of (events.session_of (rsp_id s) g))
    pub gone : is_kept x.ask ≡ false → events.is_live (events.session_of (rsp_id s) g) ≡ false
    pub came : CameThere t g
    pub made : Contains log (Made (request_purpose q.psk s) (record_input (steps.request_next s) (sealed_for s pad)) (tag_part (sealed_for s pad)))
    pub beside : Beside q r first id (rsp_id s) log h g

  -- ---- Both can be sent.

  pub sealed_length : (s : Steps) (pad : List ℕ) → length (sealed_for s pad) ≡ length (x.inner s) + length pad + 26
  unfolding sealed_next
  sealed_length s pad = record_length (steps.session_terms s).choice (request_purpose q.psk s) (steps.request_next s) (id_in_exchange (steps.exchange_of s)) (rsp_id s) (x.inner s) pad

  pub answer_length : (s : Steps) (t : Turn) → length (answer_for s t) ≡ length (inner_reply t) + 0 + 26
  answer_length s t = record_length (steps.session_terms s).choice (answer_under q.psk s (asks_all x.ask)) (answer_count s (asks_all x.ask)) (id_in_exchange (steps.exchange_of s)) (rsp_id s) (inner_reply t) []

  record_is_body : (sealed : List ℕ) → length sealed ≤ 4160 → IsBody (record_body sealed)
  record_is_body sealed short = record { filled = omega arith; plain = omega arith; fits = omega arith }

  pub asked_sent : (Fit : Steps → Type 0) (tag : ℕ) (body : List ℕ) (log : Log) (h : asked.History) (g : served.History) → IsAsked Fit tag body log h g → IsSendable tag body
  asked_sent Fit tag body log h g y =
      let short = y.short in
      subst (IsSendable tag) (sym y.body_is) (record { small = y.small; whole = record_is_body (sealed_for y.s y.pad) (omega (arith, sealed_length y.s y.pad)); typed = refl })

  pub answered_sent : (Fit : Steps → Type 0) (Good : Steps → Turn → Type 0) (tag : ℕ) (body : List ℕ) (log : Log) (h : asked.History) (g : served.History) → IsAnswered Fit Good tag body log h g → IsSendable tag body
  answered_sent Fit Good tag body log h g y =
      let short = y.reply_short in
      subst (IsSendable tag) (sym y.body_is) (record { small = y.small; whole = record_is_body (answer_for y.s y.t) (omega (arith, answer_length y.s y.t)); typed = refl })

  -- ---- Queued data and time leave both.

  pub still_beside : (log : Log) (h : asked.History) (g later : served.History) (rid : ℕ) → AreAlike r g later → Beside q r first id rid log h g → Beside q r first id rid log h later
  still_beside log h g later rid alike k = beside_on q r first id rid [] log h h g later (record {
    made = k.made;
    made_there = alike.made k.made_there;
    phase = refl;
    phase_there = alike.clear.phase;
    negotiation = refl;
    negotiation_there = alike.clear.negotiation;
    earlier = earlier_on q first h h g later alike.clear.kept refl (omega arith);
    same = λ j other. refl;
    same_there = λ j other past. alike.sessions j;
  }) k

  pub asked_still : (Fit : Steps → Type 0) (tag : ℕ) (body : List ℕ) (log : Log) (h : asked.History) (g later : served.History) → AreAlike r g later → IsAsked Fit tag body log h g → IsAsked Fit tag body log h later
  asked_still Fit tag body log h g later alike y = record {
    s = y.s;
    pad = y.pad;
    fit = y.fit;
    short = y.short;
    small = y.small;
    body_is = y.body_is;
    waits = y.waits;
    steps_are = y.steps_are;
    at = y.at;
    in_step = still_in_step y.s _ _ (alike.sessions (rsp_id y.s)) y.in_step;
    two_bytes = y.two_bytes;
    older = y.older;
    log_is = y.log_is;
    last = λ k is. y.last k (sym (last_waited _ _ (alike.sessions (rsp_id y.s))) ∙ is);
    known = subst x.before (sym (turns_waited _ _ (alike.sessions (rsp_id y.s)))) y.known;
    queued = x.there_on r g later alike y.queued;
    beside = still_beside log h g later (rsp_id y.s) alike y.beside;
  }

  pub answered_still : (Fit : Steps → Type 0) (Good : Steps → Turn → Type 0) (tag : ℕ) (body : List ℕ) (log : Log) (h : asked.History) (g later : served.History) → AreAlike r g later → IsAnswered Fit Good tag body log h g → IsAnswered Fit Good tag body log h later
  answered_still Fit Good tag body log h g later alike y = record {
    s = y.s;
    pad = y.pad;
    t = y.t;
    fit = y.fit;
    answer = y.answer;
    good = y.good;
    reply_short = y.reply_short;
    small = y.small;
    body_is = y.body_is;
    waits = y.waits;
    steps_are = y.steps_are;
    at = y.at;
    accepted = y.accepted;
    two_bytes = y.two_bytes;
    kept = λ kept. still_in_step _ _ _ (alike.sessions (rsp_id y.s)) (y.kept kept);
    last = λ kept k is. y.last kept k (sym (last_waited _ _ (alike.sessions (rsp_id y.s))) ∙ is);
    newest = λ kept. subst (IsNewest y.t) (sym (turns_waited _ _ (alike.sessions (rsp_id y.s)))) (y.newest kept);
    gone = λ ends. live_waited _ _ (alike.sessions (rsp_id y.s)) ∙ y.gone ends;
    came = came_still y.t g later alike y.came;
    made = y.made;
    beside = still_beside log h g later (rsp_id y.s) alike y.beside;
  }

  -- ---- The responder takes the record.

  -- What the responder makes of the record: a turn that answers it, of which this is known.
  pub record AreAnswered (Fit : Steps → Type 0) (Good : Steps → Turn → Type 0) : Type 0 where
    pub turns : (g : served.History) (s : Steps) (e : Events) (f : Free) (sealed : List ℕ) (d : Draw) → Fit s → steps.stage_of s ≡ stage_for x.ask → AreInStep s e → serving_does.IsMade r g → length d.bytes ≡ 32 → events.session_of (id_in_record sealed) g ≡ e → f ≡ record_chosen r g sealed d → x.before (events.turns_of e) → x.there g
        → IsAnswerTo x.ask (x.inner s) (session_turn r e (x.inner s) f) × Good s (session_turn r e (x.inner s) f) × (length (session_turn r e (x.inner s) f).reply ≤ 4133)
    pub there : (g : served.History) (s : Steps) (e : Events) (f : Free) (sealed : List ℕ) (d : Draw) → Fit s → steps.stage_of s ≡ stage_for x.ask → AreInStep s e → f ≡ record_chosen r g sealed d → x.knows g (session_turn r e (x.inner s) f)

  names : (s : Steps) (pad : List ℕ) → rsp_id s < 65536 → id_in_record (sealed_for s pad) ≡ rsp_id s
  unfolding sealed_next
  names s pad two = names_session (steps.session_terms s).choice (request_purpose q.psk s) (steps.request_next s) (id_in_exchange (steps.exchange_of s)) (rsp_id s) (x.inner s) pad two

  own_tag : (s : Steps) (pad : List ℕ) → length (x.inner s) + length pad ≤ 4134 → record_tag (steps.session_terms s).choice (request_purpose q.psk s) (steps.request_next s) (sealed_for s pad) ≡ tag_part (sealed_for s pad)
  unfolding sealed_next
  own_tag s pad short = tag_is (steps.session_terms s).choice (request_purpose q.psk s) (steps.request_next s) (id_in_exchange (steps.exchange_of s)) (rsp_id s) (x.inner s) pad short

  -- It is no repeat.
  is_new : (log : Log) (s : Steps) (pad : List ℕ) (o : Option KeptRecord) (b : Bool) → NoChance (made_for s pad log) → length (x.inner s) + length pad ≤ 4134 → ((k : KeptRecord) → o ≡ Some k → WasSealed q.psk log s k.sealed) → repeats o (sealed_for s pad) ≡ b → b ≡ false
  is_new log s pad None b chance short was is = sym is
  is_new log s pad (Some k) true chance short was is =
      absurd (no_copy q.psk log s (steps.session_terms s).choice (sealed_for s pad) k.sealed chance (own_tag s pad short) (was k refl) ((bytes_eq-Decides k.sealed (sealed_for s pad)).0 is))
  is_new log s pad (Some k) false chance short was is = refl

  -- END_SESSION ends the session.
  is_end : (ask : Ask) (inner : List ℕ) (t : Turn) → is_kept ask ≡ false → IsAnswerTo ask inner t → takes END_SESSION t ≡ true
  is_end AskEnd inner t ends is = ap (λ (e : TurnEffect). code_in e == END_SESSION) is
  is_end AskFinish inner t ends is = absurd (false≢true (sym ends))
  is_end AskData inner t ends is = absurd (false≢true (sym ends))
  is_end AskBeat inner t ends is = absurd (false≢true (sym ends))
  is_end (AskUpdate all) inner t ends is = absurd (false≢true (sym ends))
  is_end AskVerify inner t ends is = absurd (false≢true (sym ends))
  is_end (AskMeasure op) inner t ends is = absurd (false≢true (sym ends))
  is_end (AskChunk op handle number before) inner t ends is = absurd (false≢true (sym ends))

  -- The responder holds the session after it, unless it is ended.
  pub held_then : (Fit : Steps → Type 0) (Good : Steps → Turn → Type 0) (tag : ℕ) (body : List ℕ) (log : Log) (h : asked.History) (g : served.History) (y : IsAnswered Fit Good tag body log h g) → (k : Bool) → is_kept x.ask ≡ k → events.is_live (events.session_of (rsp_id y.s) g) ≡ k
  held_then Fit Good tag body log h g y true kept = (y.kept kept).live
  held_then Fit Good tag body log h g y false ends = y.gone ends

  module _ (same_key : q.psk ≡ r.psk) (Fit : Steps → Type 0) (Good : Steps → Turn → Type 0) (answers : AreAnswered Fit Good) where
    -- What was just answered.
    abbrev After : ℕ → asked.History → served.History → Log → (sealed : List ℕ) → answering.Outcome → Type 0
    After tag h g log sealed o = IsAnswered Fit Good tag (answering.body_of o) (served_log.acts_of r g (record_body sealed) o ++ log) h (answering.after g o)

    module _ (tag : ℕ) (log : Log) (h : asked.History) (g : served.History) (d : Draw) (drawn : length d.bytes ≡ 32) (body : List ℕ) (y : IsAsked Fit tag body log h g) (chance : NoChance log) where
      abbrev s : Steps
      s = y.s

      abbrev e : Events
      e = events.session_of (rsp_id y.s) g

      abbrev sealed : List ℕ
      sealed = sealed_for y.s y.pad

      abbrev f : Free
      f = record_chosen r g sealed d

      abbrev t : Turn
      t = session_turn r e (x.inner s) f

      named : id_in_record sealed ≡ rsp_id s
      named = names s y.pad y.two_bytes

      here : events.session_of (id_in_record sealed) g ≡ e
      here = ap (λ (n : ℕ). events.session_of n g) named

      few : (steps.request_next s ≤ 65535) × (steps.response_next s ≤ 65535)
      few = (
        (subst AreNumbersFew y.steps_are (numbers_few q h id y.beside.made).numbers).0,
        subst (λ (z : Steps). steps.response_next z ≤ 65535) y.steps_are (numbers_few q h id y.beside.made).response,
      )

      opens_here : (opening_fault r.psk e sealed ≡ None) × (opened r.psk e sealed ≡ x.inner s)
      opens_here = subst (λ (psk : List ℕ). (opening_fault psk e sealed ≡ None) × (opened psk e sealed ≡ x.inner s)) same_key (opens_there q.psk s e y.in_step (x.inner s) y.pad y.short few.0 few.1)

      reply_is : reply_record r.psk e t (inner_reply t) f.pad ≡ answer_for s t
      reply_is =
          let a = answers.turns g s e f sealed d y.fit y.at y.in_step y.beside.made_there drawn here refl y.known y.queued in
          ap (reply_record r.psk e t (inner_reply t)) (no_pad r g sealed d)
          ∙ ap (λ (psk : List ℕ). reply_record psk e t (inner_reply t) []) (sym same_key)
          ∙ replies_so q.psk s e y.in_step t (asks_all x.ask) (inner_reply t) [] (updates_all x.ask (x.inner s) t a.0)

      does : record_does r g tag sealed d ≡ AddsThere (WasSealedThere tag sealed t (answer_for s t) d)
      does =
          taken r g e tag sealed d here y.in_step.live
          (is_new y.older s y.pad (events.last_of e) (repeats (events.last_of e) sealed) (subst NoChance y.log_is chance) y.short y.last refl) opens_here.0
          ∙ ap (λ (inner : List ℕ). AddsThere (answering.sealed_entry r e f tag sealed d (session_turn r e inner f))) opens_here.1
          ∙ ap (λ (reply : List ℕ). AddsThere (WasSealedThere tag sealed t reply d)) reply_is

      abbrev new : served.History
      new = WasSealedThere tag sealed t (answer_for s t) d ∷ g

      abbrev acts : Log
      acts = served_log.acts_of r g (record_body sealed) (AddsThere (WasSealedThere tag sealed t (answer_for s t) d))

      session_new : events.session_of (rsp_id s) new ≡ after_record e sealed t (answer_for s t)
      session_new = sealed_here (rsp_id s) tag sealed t (answer_for s t) d g named

      keeps_beside : KeepsBeside q r first id (rsp_id s) h h g new
      keeps_beside = record {
        made = y.beside.made;
        made_there = (does, y.beside.made_there);
        phase = refl;
        phase_there = refl;
        negotiation = refl;
        negotiation_there = refl;
        earlier = earlier_on q first h h g new refl refl (omega arith);
        same = λ j other. refl;
        same_there = λ j other past. inl (sealed_elsewhere j tag sealed t (answer_for s t) d g (λ same. other (sym same ∙ named)));
      }

      heard_is : is_kept x.ask ≡ true → events.session_of (rsp_id s) new ≡ Heard sealed t (answer_for s t) ∷ e
      heard_is kept =
          let a = answers.turns g s e f sealed d y.fit y.at y.in_step y.beside.made_there drawn here refl y.known y.queued in
          session_new ∙ live_heard e sealed (answer_for s t) t y.in_step.live (not_end x.ask (x.inner s) t kept a.0)

      own_made : (acts : Log) → Contains (acts ++ log) (Made (request_purpose q.psk s) (record_input (steps.request_next s) sealed) (tag_part sealed))
      own_made acts =
          Contains-append_right acts log _
          (subst (λ (l : Log). Contains l (Made (request_purpose q.psk s) (record_input (steps.request_next s) sealed) (tag_part sealed))) (sym y.log_is)
          (subst (λ (v : List ℕ). Contains (made_for s y.pad y.older) (Made (request_purpose q.psk s) (record_input (steps.request_next s) sealed) v)) (own_tag s y.pad y.short)
          (Contains-append_left (_ ∷ []) y.older _ (Contains-push [] _))))

      after_here : After tag h g log sealed (AddsThere (WasSealedThere tag sealed t (answer_for s t) d))
      after_here =
          let a = answers.turns g s e f sealed d y.fit y.at y.in_step y.beside.made_there drawn here refl y.known y.queued in record {
            s = s;
            pad = y.pad;
            t = t;
            fit = y.fit;
            answer = a.0;
            good = a.1;
            reply_short = a.2;
            small = y.small;
            body_is = refl;
            waits = y.waits;
            steps_are = y.steps_are;
            at = y.at;
            accepted = y.in_step.accepted;
            two_bytes = y.two_bytes;
            kept = λ kept. subst (AreInStep (took_steps s y.pad t)) (sym (heard_is kept)) (behind (x.inner s) sealed (answer_for s t) t s e y.in_step x.ask (x.brings t) (x.may t) kept a.0);
            last = λ kept k is. sym (ap (λ (z : KeptRecord). z.sealed) (some_same _ k (sym (ap events.last_of (heard_is kept)) ∙ is)));
            newest = λ kept. record { earlier = events.turns_of e; is = ap events.turns_of (heard_is kept); known = y.known };
            gone = λ ends. ap events.is_live (session_new ∙ ap (λ (b : Bool). if b then [] else events.when_live e (Heard sealed t (answer_for s t))) (is_end x.ask (x.inner s) t ends a.0));
            came = record { until = g; between = y.queued; knows = answers.there g s e f sealed d y.fit y.at y.in_step refl; tag = tag; sealed = sealed; reply = answer_for s t; draw = d; since = ([], refl, tt) };
            made = own_made acts;
            beside = beside_on q r first id (rsp_id s) acts log h h g new keeps_beside y.beside;
          }

      pub serves_so : IsAnswered Fit Good tag (answering.body_of (responder_does r g tag body d)) (served_log.acts_of r g body (responder_does r g tag body d) ++ log) h (answering.after g (responder_does r g tag body d))
      serves_so =
          subst (λ (b : List ℕ). IsAnswered Fit Good tag (answering.body_of (responder_does r g tag b d)) (served_log.acts_of r g b (responder_does r g tag b d) ++ log) h (answering.after g (responder_does r g tag b d))) (sym y.body_is)
          (subst (After tag h g log sealed) (sym does) after_here)

  -- ---- The requester takes the answer.

  fetched_ends : (brought : asked.Effect) → IsFetched brought → steps.ends brought ≡ false
  fetched_ends brought (inl is) = ap steps.ends is
  fetched_ends brought (inr is) = ap steps.ends is.2

  not_ends : (ask : Ask) (answer : List ℕ) (brought : asked.Effect) → MayBring ask answer brought → is_kept ask ≡ true → steps.ends brought ≡ false
  not_ends AskFinish answer brought may kept = ap steps.ends may
  not_ends AskData answer brought may kept = ap steps.ends may
  not_ends AskBeat answer brought may kept = ap steps.ends may
  not_ends (AskUpdate all) answer brought may kept = ap steps.ends may
  not_ends AskVerify answer brought may kept = ap steps.ends may
  not_ends (AskMeasure op) answer brought may kept = fetched_ends brought may
  not_ends (AskChunk op handle number before) answer brought may kept = fetched_ends brought may
  not_ends AskEnd answer brought may kept = absurd (false≢true kept)

  ends_so : (ask : Ask) (answer : List ℕ) (brought : asked.Effect) → MayBring ask answer brought → is_kept ask ≡ false → steps.ends brought ≡ true
  ends_so AskEnd answer brought may ends = ap steps.ends may
  ends_so AskFinish answer brought may ends = absurd (false≢true (sym ends))
  ends_so AskData answer brought may ends = absurd (false≢true (sym ends))
  ends_so AskBeat answer brought may ends = absurd (false≢true (sym ends))
  ends_so (AskUpdate all) answer brought may ends = absurd (false≢true (sym ends))
  ends_so AskVerify answer brought may ends = absurd (false≢true (sym ends))
  ends_so (AskMeasure op) answer brought may ends = absurd (false≢true (sym ends))
  ends_so (AskChunk op handle number before) answer brought may ends = absurd (false≢true (sym ends))

  module _ (Fit : Steps → Type 0) (Good : Steps → Turn → Type 0) (tag : ℕ) (log : Log) (h : asked.History) (g : served.History) (d : Draw) (body : List ℕ) (y : IsAnswered Fit Good tag body log h g) (event : Event) (next : Option Sent) where
    abbrev reply : List ℕ
    reply = answer_for y.s y.t

    abbrev pub led : Led
    led = record { event = event; effect = x.brings y.t; next = next }

    abbrev pub entry : asked.Entry
    entry = TookRecord tag id reply (inner_reply y.t) led d

    abbrev OpensAs : Steps → Type 0
    OpensAs z = (answer_fault q.psk z x.ask reply ≡ None) × (answer_inner q.psk z x.ask reply ≡ inner_reply y.t)

    opens_back : OpensAs (asked_steps y.s y.pad)
    unfolding answer_fault answer_inner
    opens_back =
        let all = asks_all x.ask in
        let short = y.reply_short in
        subst (λ (p : Purpose). (record_fault (steps.session_terms y.s).choice p (answer_count y.s all) (steps.id_bytes y.s) reply ≡ None) × (inner_message (steps.session_terms y.s).choice p (answer_count y.s all) reply ≡ inner_reply y.t))
        (sym (ap (λ (p : Purpose). if all then record p { epoch = steps.response_epoch y.s + 1 } else p) (awaited_under q.psk x.ask (x.inner y.s) (sealed_for y.s y.pad) y.s y.at)))
        (opens (steps.session_terms y.s).choice (answer_under q.psk y.s all) (answer_count y.s all) (id_in_exchange (steps.exchange_of y.s)) (rsp_id y.s) (inner_reply y.t) [] (omega arith))

    module _ (leads : inner_led q h (body_chosen q h d) (came_as h id reply (inner_reply y.t)) x.ask ≡ Ok led) where
      hears : requester_hears q h false tag (record_body reply) d ≡ Adds entry
      hears =
          let z = subst OpensAs (sym y.steps_are) opens_back in
          heard q h tag (Sealed (sealed_for y.s y.pad) (x.inner y.s) y.pad) id x.ask reply (inner_reply y.t) d y.waits z.0 z.1
          ∙ ap (λ (l : Result Led BadReply). Adds (TookRecord tag id reply (inner_reply y.t) (or_lost (came_as h id reply (inner_reply y.t)) l) d)) leads

      pub hears_so : requester_hears q h false tag body d ≡ Adds entry
      hears_so = ap (λ (b : List ℕ). requester_hears q h false tag b d) y.body_is ∙ hears

      -- The history after it.
      abbrev pub behind_it : asked.History
      behind_it = entry ∷ h

      session_then : steps.session_of id behind_it ≡ steps.with_sent id next (steps.after_record reply (inner_reply y.t) (x.brings y.t) (steps.session_of id h))
      unfolding steps.session_of
      session_then = ap (λ (b : Bool). if b then steps.with_sent id next (steps.after_record reply (inner_reply y.t) (x.brings y.t) (steps.session_of id h)) else steps.session_of id h) (eq-eqb id id refl)

      pub took_is : is_kept x.ask ≡ true → steps.session_of id behind_it ≡ steps.with_sent id next (took_steps y.s y.pad y.t)
      took_is kept =
          session_then
          ∙ ap (λ (z : Steps). steps.with_sent id next (steps.after_record reply (inner_reply y.t) (x.brings y.t) z)) y.steps_are
          ∙ ap (λ (b : Bool). steps.with_sent id next (if b then [] else took_steps y.s y.pad y.t)) (not_ends x.ask y.t.reply (x.brings y.t) (x.may y.t) kept)

      elsewhere : (j : ℕ) → j ≢ id → steps.session_of j behind_it ≡ steps.session_of j h
      unfolding steps.session_of
      elsewhere j other = ap (λ (b : Bool). if b then steps.with_sent j next (steps.after_record reply (inner_reply y.t) (x.brings y.t) (steps.session_of j h)) else steps.session_of j h) (ne_eqb id j (λ same. other (sym same)))

      pub beside_then : (acts : Log) → Beside q r first id (rsp_id y.s) (acts ++ log) behind_it g
      beside_then acts = beside_on q r first id (rsp_id y.s) acts log h behind_it g g (record {
        made = (hears, y.beside.made);
        made_there = y.beside.made_there;
        phase = refl;
        phase_there = refl;
        negotiation = refl;
        negotiation_there = refl;
        earlier = earlier_on q first h behind_it g g refl refl (omega arith);
        same = elsewhere;
        same_there = λ j other past. inl refl;
      }) y.beside

      -- What the responder took last is not the next record.
      pub last_then : (acts : Log) → is_kept x.ask ≡ true → (k : KeptRecord) → events.last_of (events.session_of (rsp_id y.s) g) ≡ Some k → WasSealed q.psk (acts ++ log) (took_steps y.s y.pad y.t) k.sealed
      last_then acts kept k is = subst (WasSealed q.psk (acts ++ log) (took_steps y.s y.pad y.t)) (sym (y.last kept k is)) (record {
        purpose = request_purpose q.psk y.s;
        number = steps.request_next y.s;
        made = Contains-append_right acts log _ y.made;
        other = moves_so x.ask q.psk (x.inner y.s) (sealed_for y.s y.pad) reply (inner_reply y.t) y.t.reply y.s (x.brings y.t) (x.may y.t) kept y.at;
      })

      -- ---- Nothing follows.

      pub quiet_then : (acts : Log) → next ≡ None → is_kept x.ask ≡ true → steps.stage_of (took_steps y.s y.pad y.t) ≡ stage.Open → AreQuiet q r first (acts ++ log) behind_it g
      quiet_then acts last kept at_end =
          let is : steps.session_of id behind_it ≡ took_steps y.s y.pad y.t = took_is kept ∙ ap (λ (o : Option Sent). steps.with_sent id o (took_steps y.s y.pad y.t)) last in
          quiet_from q r first id (rsp_id y.s) (acts ++ log) behind_it g (beside_then acts) last
          (λ live. (
            ap rsp_id is,
            subst (λ (z : Steps). AreResting q.psk (acts ++ log) z (events.session_of (rsp_id z) g)) (sym is)
                (record { in_step = y.kept kept; stage = at_end; two_bytes = y.two_bytes; last = last_then acts kept }),
          ))

      gone_is : is_kept x.ask ≡ false → next ≡ None → steps.session_of id behind_it ≡ []
      gone_is ends last =
          session_then
          ∙ ap (λ (o : Option Sent). steps.with_sent id o (steps.after_record reply (inner_reply y.t) (x.brings y.t) (steps.session_of id h))) last
          ∙ ap (λ (b : Bool). if b then [] else steps.when_live (steps.session_of id h) (TookAnswer reply (inner_reply y.t) (x.brings y.t))) (ends_so x.ask y.t.reply (x.brings y.t) (x.may y.t) ends)

      pub quiet_gone : (acts : Log) → next ≡ None → is_kept x.ask ≡ false → AreQuiet q r first (acts ++ log) behind_it g
      quiet_gone acts last ends =
          quiet_from q r first id (rsp_id y.s) (acts ++ log) behind_it g (beside_then acts) last (λ live. absurd (false≢true (sym (ap steps.is_live (gone_is ends last)) ∙ live)))

      -- The session goes on unless it is ended.
      pub live_then : (k : Bool) → is_kept x.ask ≡ k → next ≡ None → steps.is_live (steps.session_of id behind_it) ≡ is_kept x.ask
      live_then true kept last = ap steps.is_live (took_is kept ∙ ap (λ (o : Option Sent). steps.with_sent id o (took_steps y.s y.pad y.t)) last) ∙ sym kept
      live_then false ends last = ap steps.is_live (gone_is ends last) ∙ sym ends
