-- A measure in a session whose answer is sent in chunks: one round for each chunk after the first, and it leaves quiet
-- ends quiet.
use Rattle.std.proofs.Common.{◌≡◌, ◌⊎◌, ◌∙◌, ℕ, suc, ◌<◌, ◌≤◌, ◌+◌, ◌*◌, ◌-◌, ◌==◌, List, [], ◌∷◌, ◌++◌, length, Bool, true, false, Some, None, Ok, refl, sym, ap, subst, inl, inr, arith, add-one}
use Rattle.std.specs.Int.{div_ceil}
use Rattle.std.proofs.lemmas.Bool.{eqb-false}
use Rattle.chunking.specs.Cutting.{chunk_count, chunks_before, nth_chunk}
use Rattle.requester_machine.specs.Asking.{Outcome}
use Rattle.requester_machine.specs.Asking.Outcome.{Adds}
use Rattle.requester_machine.specs.Does.{body_chosen, requester_hears}
use Rattle.requester_machine.specs.History as asked
use Rattle.requester_machine.specs.History.Effect.{Grants, Nothing}
use Rattle.requester_machine.specs.InnerMessages.{inner_led}
use Rattle.requester_machine.specs.Message.{Sent}
use Rattle.requester_machine.specs.Message.Ask.{AskChunk}
use Rattle.requester_machine.specs.RequesterLog as asked_log
use Rattle.requester_machine.specs.Sending.{inner_request, record_sent}
use Rattle.requester_machine.specs.Session as steps
use Rattle.requester_machine.specs.Session.{Steps}
use Rattle.requester_machine.specs.Session.Step.{Took as TookAnswer}
use Rattle.requester_machine.specs.Setup.{ReqSetup}
use Rattle.responder_machine.specs.Does.{responder_does}
use Rattle.responder_machine.specs.History as served
use Rattle.responder_machine.specs.Responder as answering
use Rattle.responder_machine.specs.Responder.{inner_reply}
use Rattle.responder_machine.specs.ResponderLog as served_log
use Rattle.responder_machine.specs.Setup.{RspSetup}
use Rattle.responder_machine.specs.Turn.{Turn}
use Rattle.spdm_grammar.specs.Message.{ChunkMessage}
use Rattle.spdm_grammar.specs.Message.RequestMessage.{ChunkGet}
use Rattle.spdm_grammar.specs.declared.told.event.Event.{Event}
use Rattle.spdm_grammar.specs.declared.told.event.Event.TheVariants as event
use Rattle.spdm_grammar.specs.declared.told.event.Finished.TheVariants as finished
use Rattle.spdm_grammar.specs.declared.told.phase.Stage.TheVariants as stage
use Rattle.spdm_machine.specs.Keys.{Draw}
use Rattle.spdm_machine.specs.TagLog.{Log}
use Rattle.transcript.specs.Transcripts.{Negotiation}
use Rattle.world_machine.specs.Chance.{NoChance}
use Rattle.requester_machine.specs.Shown.{last_data}
use Rattle.spdm_progress.specs.InStep.{AreQuiet}
use Rattle.spdm_progress.specs.Measuring.{measurements_size, number_for, record_for}
use Rattle.spdm_progress.proofs.ChunkCounts.{not_zero, some_of}
use Rattle.spdm_progress.proofs.FurtherRound as further
use Rattle.spdm_progress.proofs.ClearFetch.{IsPending, chunk_is_few, transfer_in}
use Rattle.spdm_progress.proofs.LargeAnswers.{GoesLarge}
use Rattle.spdm_progress.proofs.ManyPackets.{before_it}
use Rattle.spdm_progress.proofs.MeasureStages.{granted_record, measurements, measurements_are}
use Rattle.spdm_progress.proofs.PacketSteps.{Pair}
use Rattle.spdm_progress.proofs.RecordHeard.{came_as}
use Rattle.spdm_progress.proofs.RecordRounds.{quiet_still}
use Rattle.spdm_progress.proofs.SessionLarge.{IsChunk, IsLarge, IsUnder, chunk_answered, chunk_asking, fetched, large_answered, large_asking, large_leads, last_leads, may_fetch, more_leads, stage_fetched}
use Rattle.spdm_progress.proofs.SessionRounds.{Asking, IsAnswered, IsAsked, answer_for, answer_length, answered_sent, answered_still, asked_sent, asked_steps, asked_still, entry, hears_so, led, live_then, quiet_then, sealed_length, serves_so, took_steps}
use Rattle.spdm_progress.proofs.StillKept.{AreAlike}
use Rattle.spdm_progress.proofs.Talk.{AreShort, Further, IsSendable, IsTalk, Leads, Over}

module _ (p : Pair) (same_key : p.requester.psk ≡ p.responder.psk) (id op : ℕ) (n : Negotiation) (can : GoesLarge p.requester p.responder op n) where
  abbrev q : ReqSetup
  q = p.requester

  abbrev r : RspSetup
  r = p.responder

  abbrev transfer : ℕ
  transfer = transfer_in n

  abbrev told : Event
  told = event.Done (finished.Measured (number_for r op))

  -- How many chunks there are, whatever the nonce.
  abbrev pub count : ℕ
  count = div_ceil (measurements_size r op + 4) (transfer - 12)

  count_is : (nonce : List ℕ) → length nonce ≡ 32 → chunk_count transfer (measurements r op nonce) ≡ count
  count_is nonce whole = ap (λ (size : ℕ). div_ceil (size + 4) (transfer - 12)) (measurements_are r op nonce whole)

  some_chunks : 0 < count
  some_chunks = (let least = can.fetch.least in let is = can.fetch.transfer in some_of (measurements_size r op + 4) (transfer - 12) (omega arith) (omega (arith, least, is)))

  pub within : (more k : ℕ) (nonce : List ℕ) → length nonce ≡ 32 → more + suc k ≡ count → k < chunk_count transfer (measurements r op nonce)
  within more k nonce whole left = subst (λ (z : ℕ). k < z) (sym (count_is nonce whole)) (omega (arith, left))

  -- Which chunk is asked for.
  pub record Fetching (more : ℕ) : Type 0 where
    pub k : ℕ
    pub left : more + suc k ≡ count
    pub nonce : List ℕ
    pub whole : length nonce ≡ 32
    pub handle : ℕ
    pub small : handle < 256

  abbrev asking : (more : ℕ) → Fetching more → Asking
  asking more z = chunk_asking p id op n can z.nonce z.whole z.handle z.k z.small (within more z.k z.nonce z.whole z.left)

  abbrev Chunk : (more : ℕ) → Fetching more → Steps → Turn → Type 0
  Chunk more z = IsChunk p id op n can z.nonce z.whole z.handle z.k z.small (within more z.k z.nonce z.whole z.left)

  abbrev Under : Steps → Type 0
  Under = IsUnder p id op n can

  abbrev Large : Steps → Turn → Type 0
  Large = IsLarge p id op n can

  abbrev first_asking : Asking
  first_asking = large_asking p id op n can

  -- GET_MEASUREMENTS is on its way, and LargeResponse on its way back; CHUNK_GET is on its way, and its chunk on its way back.
  pub record FirstAsked (more tag : ℕ) (body : List ℕ) (log : Log) (h : asked.History) (g : served.History) : Type 0 where
    pub more_is : more ≡ count
    pub few : length body ≤ 64
    pub is : IsAsked q r p.first id first_asking Under tag body log h g

  pub record FirstAnswered (more tag : ℕ) (body : List ℕ) (log : Log) (h : asked.History) (g : served.History) : Type 0 where
    pub more_is : more ≡ count
    pub is : IsAnswered q r p.first id first_asking Under Large tag body log h g

  pub record ChunkAsked (more tag : ℕ) (body : List ℕ) (log : Log) (h : asked.History) (g : served.History) : Type 0 where
    pub which : Fetching more
    pub few : length body ≤ 64
    pub is : IsAsked q r p.first id (asking more which) Under tag body log h g

  pub record ChunkAnswered (more tag : ℕ) (body : List ℕ) (log : Log) (h : asked.History) (g : served.History) : Type 0 where
    pub which : Fetching more
    pub is : IsAnswered q r p.first id (asking more which) Under (Chunk more which) tag body log h g

  abbrev pub MeasureAsked : ℕ → ℕ → List ℕ → Log → asked.History → served.History → Type 0
  MeasureAsked more tag body log h g = FirstAsked more tag body log h g ⊎ ChunkAsked more tag body log h g

  abbrev pub MeasureAnswered : ℕ → ℕ → List ℕ → Log → asked.History → served.History → Type 0
  MeasureAnswered more tag body log h g = FirstAnswered more tag body log h g ⊎ ChunkAnswered more tag body log h g

  -- All is quiet again, the session goes on, and the record was taken.
  pub record Quiet (log : Log) (h : asked.History) (g : served.History) : Type 0 where
    pub quiet : AreQuiet q r p.first log h g
    pub session : steps.is_live (steps.session_of id h) ≡ true
    pub taken : last_data h ≡ record_for r op

  -- ---- The bodies.

  asked_so : (more tag : ℕ) (body : List ℕ) (log : Log) (h : asked.History) (g : served.History) → MeasureAsked more tag body log h g → IsSendable tag body
  asked_so more tag body log h g (inl y) = asked_sent q r p.first id first_asking Under tag body log h g y.is
  asked_so more tag body log h g (inr y) = asked_sent q r p.first id (asking more y.which) Under tag body log h g y.is

  answered_so : (more tag : ℕ) (body : List ℕ) (log : Log) (h : asked.History) (g : served.History) → MeasureAnswered more tag body log h g → IsSendable tag body
  answered_so more tag body log h g (inl y) = answered_sent q r p.first id first_asking Under Large tag body log h g y.is
  answered_so more tag body log h g (inr y) = answered_sent q r p.first id (asking more y.which) Under (Chunk more y.which) tag body log h g y.is

  pub are_short : (each : ℕ) → transfer + 28 ≤ 64 * each → AreShort (λ more. 1) (λ more. each) MeasureAsked MeasureAnswered
  are_short each fits = record { asks = asks_short; answers = answers_short }
    where
      asks_short : (more tag : ℕ) (body : List ℕ) (log : Log) (h : asked.History) (g : served.History) → MeasureAsked more tag body log h g → length body ≤ 64 * 1
      asks_short more tag body log h g (inl y) = (let few = y.few in omega (arith, few))
      asks_short more tag body log h g (inr y) = (let few = y.few in omega (arith, few))

      answers_short : (more tag : ℕ) (body : List ℕ) (log : Log) (h : asked.History) (g : served.History) → MeasureAnswered more tag body log h g → length body ≤ 64 * each
      answers_short more tag body log h g (inl y) =
          let long = answer_length q r p.first id first_asking y.is.s y.is.t in
          let inner = ap length y.is.good.inner in
          let is = can.fetch.transfer in
          let least = can.fetch.least in
          subst (λ (b : List ℕ). length b ≤ 64 * each) (sym y.is.body_is) (omega (arith, long, inner, is, least, fits))
      answers_short more tag body log h g (inr y) =
          let z = y.which in
          let long = answer_length q r p.first id (asking more z) y.is.s y.is.t in
          let inner = ap length y.is.good.inner in
          let few = chunk_is_few q r (measurements_size r op) n can.fetch (measurements r op z.nonce) (measurements_are r op z.nonce z.whole) z.handle z.k z.small (within more z.k z.nonce z.whole z.left) in
          subst (λ (b : List ℕ). length b ≤ 64 * each) (sym y.is.body_is) (omega (arith, long, inner, few, fits))

  -- ---- The responder.

  serves : (more tag : ℕ) (body : List ℕ) (log : Log) (h : asked.History) (g : served.History) (d : Draw) → length d.bytes ≡ 32 → NoChance log → MeasureAsked more tag body log h g
      → MeasureAnswered more tag (answering.body_of (responder_does r g tag body d)) (served_log.acts_of r g body (responder_does r g tag body d) ++ log) h (answering.after g (responder_does r g tag body d))
  serves more tag body log h g d drawn chance (inl y) = inl (record { more_is = y.more_is; is = serves_so q r p.first id first_asking same_key Under Large (large_answered p id op n can) tag log h g d drawn body y.is chance })
  serves more tag body log h g d drawn chance (inr y) =
      let z = y.which in
      inr (record { which = z; is = serves_so q r p.first id (asking more z) same_key Under (Chunk more z) (chunk_answered p id op n can z.nonce z.whole z.handle z.k z.small (within more z.k z.nonce z.whole z.left)) tag log h g d drawn body y.is chance })

  -- ---- The requester.

  module _ (more tag : ℕ) (log : Log) (h : asked.History) (g : served.History) (d : Draw) (body : List ℕ) where
    abbrev LeadsTo : Outcome → Type 0
    LeadsTo o = Leads p MeasureAsked Quiet told more o (asked_log.acts_of q h body o ++ log) h g

    module _ (y : FirstAnswered more tag body log h g) where
      first_which : (fewer : ℕ) → suc fewer ≡ more → Fetching fewer
      first_which fewer one = (let so = y.more_is in record { k = 0; left = omega (arith, one, so); nonce = y.is.good.nonce; whole = y.is.good.whole; handle = y.is.good.handle; small = y.is.good.small })

      first_heard : LeadsTo (requester_hears q h false tag body d)
      unfolding first_which
      first_heard =
          let z = y.is in
          let fewer = before_it more (subst (λ (m : ℕ). 0 < m) (sym y.more_is) some_chunks) in
          let which = first_which fewer.0 fewer.1 in
          let x = asking fewer.0 which in
          let new = took_steps q r p.first id first_asking z.s z.pad z.t in
          let next = further.next q r p.first id first_asking x Under Under Large tag log h g d body z event.Progress in
          let leads = large_leads p id op n can h d z.s z.pad z.t z.good z.fit z.steps_are in
          let newest = z.newest refl in
          let known = subst (IsPending (measurements r op z.good.nonce) z.good.handle 0) (sym newest.is) (z.good.pending newest.earlier) in
          let long = sealed_length q r p.first id x new [] in
          subst LeadsTo (sym (hears_so q r p.first id first_asking Under Large tag log h g d body z event.Progress (Some next) leads))
          (Further next fewer.0 (sym fewer.1) refl (inr (record {
            which = which;
            few = omega (arith, long);
            is = further.asked_then q r p.first id first_asking x Under Under Large tag log h g d body z event.Progress leads refl z.fit z.at (omega arith) known tt;
          })))

    module _ (y : ChunkAnswered more tag body log h g) where
      abbrev z : IsAnswered q r p.first id (asking more y.which) Under (Chunk more y.which) tag body log h g
      z = y.is

      abbrev w : List ℕ
      w = measurements r op y.which.nonce

      abbrev ends : Bool
      ends = y.which.k + 1 == chunk_count transfer w

      abbrev x : Asking
      x = asking more y.which

      abbrev reply : List ℕ
      reply = answer_for q r p.first id x z.s z.t

      abbrev brought_steps : asked.Effect → Steps
      brought_steps effect = TookAnswer reply (inner_reply z.t) effect ∷ asked_steps q r p.first id x z.s z.pad

      at_end : steps.stage_of (took_steps q r p.first id x z.s z.pad z.t) ≡ stage.Open
      at_end = stage_fetched reply (inner_reply z.t) (fetched op w ends) (asked_steps q r p.first id x z.s z.pad) (may_fetch op w ends) ∙ z.at

      abbrev IsLed : asked.Led → Type 0
      IsLed l = inner_led q h (body_chosen q h d) (came_as h id reply (inner_reply z.t)) x.ask ≡ Ok l

      last_so : ends ≡ true → IsLed (led q r p.first id x Under (Chunk more y.which) tag log h g d body z told None)
      last_so last =
          let v = y.which in
          subst (λ (e : asked.Effect). IsLed (record { event = told; effect = e; next = None })) (sym (ap (fetched op w) last))
          (last_leads p id op n can v.nonce v.whole v.handle v.k v.small (within more v.k v.nonce v.whole v.left) h d z.s z.pad z.t z.good z.fit z.steps_are last)

      last_heard : ends ≡ true → LeadsTo (requester_hears q h false tag body d)
      last_heard last =
          let acts = asked_log.acts_of q h body (Adds (entry q r p.first id x Under (Chunk more y.which) tag log h g d body z told None)) in
          subst LeadsTo (sym (hears_so q r p.first id x Under (Chunk more y.which) tag log h g d body z told None (last_so last)))
          (Over refl refl (record {
            quiet = quiet_then q r p.first id x Under (Chunk more y.which) tag log h g d body z told None (last_so last) acts refl refl at_end;
            session = live_then q r p.first id x Under (Chunk more y.which) tag log h g d body z told None (last_so last) true refl refl;
            taken = granted_record r op y.which.nonce (entry q r p.first id x Under (Chunk more y.which) tag log h g d body z told None ∷ h) (ap (fetched op w) last) y.which.whole (let fits = can.fetch.fits_max in let max = can.fetch.max in let most = can.fetch.most in omega (arith, fits, max, most));
          }))

      next_which : (fewer : ℕ) → suc fewer ≡ more → Fetching fewer
      next_which fewer one = (let v = y.which in let left = v.left in record { k = v.k + 1; left = omega (arith, one, left); nonce = v.nonce; whole = v.whole; handle = v.handle; small = v.small })

      module _ (again : ends ≡ false) (fewer : ℕ) (one : suc fewer ≡ more) where
        abbrev x' : Asking
        x' = asking fewer (next_which fewer one)

        abbrev next : Sent
        next = further.next q r p.first id x x' Under Under (Chunk more y.which) tag log h g d body z event.Progress

        abbrev sent_with : asked.Effect → List ChunkMessage → Sent
        sent_with effect before = record_sent q h id (brought_steps effect) (AskChunk op y.which.handle (y.which.k + 1) before) (inner_request (ChunkGet y.which.handle (y.which.k + 1))) []

        next_so : IsLed (led q r p.first id x Under (Chunk more y.which) tag log h g d body z event.Progress (Some next))
        unfolding next_which
        next_so =
            let v = y.which in
            let before : nth_chunk transfer v.handle w v.k ∷ chunks_before transfer v.handle w v.k ≡ chunks_before transfer v.handle w (v.k + 1) = ap (chunks_before transfer v.handle w) (sym (add-one v.k)) in
            subst (λ (e : asked.Effect). IsLed (record { event = event.Progress; effect = e; next = Some (sent_with e (chunks_before transfer v.handle w (v.k + 1))) })) (sym (ap (fetched op w) again))
            (subst (λ (l : List ChunkMessage). IsLed (record { event = event.Progress; effect = Nothing; next = Some (sent_with Nothing l) })) before
            (more_leads p id op n can v.nonce v.whole v.handle v.k v.small (within more v.k v.nonce v.whole v.left) h d z.s z.pad z.t z.good z.fit z.steps_are again))

        next_heard : LeadsTo (requester_hears q h false tag body d)
        unfolding next_which
        next_heard =
            let newest = z.newest refl in
            let known = subst (IsPending w y.which.handle (y.which.k + 1)) (sym newest.is) (z.good.next newest.earlier newest.known) in
            let long = sealed_length q r p.first id x' (took_steps q r p.first id x z.s z.pad z.t) [] in
            subst LeadsTo (sym (hears_so q r p.first id x Under (Chunk more y.which) tag log h g d body z event.Progress (Some next) next_so))
            (Further next fewer (sym one) refl (inr (record {
              which = next_which fewer one;
              few = omega (arith, long);
              is = further.asked_then q r p.first id x x' Under Under (Chunk more y.which) tag log h g d body z event.Progress next_so refl z.fit at_end (omega arith) known tt;
            })))

      chunk_heard : (b : Bool) → ends ≡ b → LeadsTo (requester_hears q h false tag body d)
      chunk_heard true is = last_heard is
      chunk_heard false is =
          let v = y.which in
          let left = v.left in
          let other = eqb-false (v.k + 1) (chunk_count transfer w) is in
          let fewer = before_it more (not_zero more (λ none. other (omega (arith, none, left) ∙ sym (count_is v.nonce v.whole)))) in
          next_heard is fewer.0 fewer.1

  hears : (more tag : ℕ) (body : List ℕ) (log : Log) (h : asked.History) (g : served.History) (d : Draw) → NoChance log → MeasureAnswered more tag body log h g
      → Leads p MeasureAsked Quiet told more (requester_hears q h false tag body d) (asked_log.acts_of q h body (requester_hears q h false tag body d) ++ log) h g
  hears more tag body log h g d chance (inl y) = first_heard more tag log h g d body y
  hears more tag body log h g d chance (inr y) = chunk_heard more tag log h g d body y (y.which.k + 1 == chunk_count transfer (measurements r op y.which.nonce)) refl

  pub session_talk : IsTalk p MeasureAsked MeasureAnswered Quiet told
  session_talk = record {
    asks_sent = asked_so;
    answers_sent = answered_so;
    serves = serves;
    hears = hears;
    asks_still = asks_on;
    answers_still = answers_on;
    done_still = λ log h g later alike y. record { quiet = quiet_still q r p.first log h g later alike y.quiet; session = y.session; taken = y.taken };
  }
    where
      asks_on : (more tag : ℕ) (body : List ℕ) (log : Log) (h : asked.History) (g later : served.History) → AreAlike r g later → MeasureAsked more tag body log h g → MeasureAsked more tag body log h later
      asks_on more tag body log h g later alike (inl y) = inl (record { more_is = y.more_is; few = y.few; is = asked_still q r p.first id first_asking Under tag body log h g later alike y.is })
      asks_on more tag body log h g later alike (inr y) = inr (record { which = y.which; few = y.few; is = asked_still q r p.first id (asking more y.which) Under tag body log h g later alike y.is })

      answers_on : (more tag : ℕ) (body : List ℕ) (log : Log) (h : asked.History) (g later : served.History) → AreAlike r g later → MeasureAnswered more tag body log h g → MeasureAnswered more tag body log h later
      answers_on more tag body log h g later alike (inl y) = inl (record { more_is = y.more_is; is = answered_still q r p.first id first_asking Under Large tag body log h g later alike y.is })
      answers_on more tag body log h g later alike (inr y) = inr (record { which = y.which; is = answered_still q r p.first id (asking more y.which) Under (Chunk more y.which) tag body log h g later alike y.is })
