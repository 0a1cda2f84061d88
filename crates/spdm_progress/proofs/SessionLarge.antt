-- MEASUREMENTS is sent in chunks in a session: what the responder makes of GET_MEASUREMENTS and of each CHUNK_GET, and
-- the requester of what answers them.
use Rattle.std.proofs.Common.{◌≡◌, ◌∙◌, ℕ, ◌<◌, ◌≤◌, ◌+◌, ◌==◌, List, [], ◌∷◌, length, Bool, true, false, Option, Some, None, is_some, Result, Ok, refl, sym, ap, subst, inl, inr, arith}
use Rattle.std.specs.Prelude.{if◌then◌else◌}
use Rattle.std.proofs.lemmas.Bool.{false≢true}
use Rattle.spdm_basis.proofs.Bools.{lt_false}
use Rattle.chunking.specs.Collecting.{joined_with}
use Rattle.chunking.specs.Cutting.{chunk_count, chunks_before, nth_chunk}
use Rattle.measurements.specs.Records.{asked as blocks_asked}
use Rattle.requester_machine.specs.Answers.{goes_on, is_done, is_refused}
use Rattle.requester_machine.specs.Does.{body_chosen, chosen as chosen_here}
use Rattle.requester_machine.specs.History as asked
use Rattle.requester_machine.specs.History.{Led}
use Rattle.requester_machine.specs.History.Effect.{Grants, Nothing}
use Rattle.requester_machine.specs.InnerMessages.{Came, chunk_led, inner_led, reading_of, whole_led, with_record}
use Rattle.requester_machine.specs.Message.Ask.{AskChunk, AskMeasure}
use Rattle.requester_machine.specs.Sending.{chunk_sent, inner_request}
use Rattle.requester_machine.specs.Session as steps
use Rattle.requester_machine.specs.Session.{Steps}
use Rattle.requester_machine.specs.Session.Step.{Took as TookAnswer}
use Rattle.requester_machine.specs.Setup.{ReqSetup}
use Rattle.responder_machine.specs.Answer.{Free, answer_of}
use Rattle.responder_machine.specs.Does.{chosen, record_chosen}
use Rattle.responder_machine.specs.Handling.{large_response}
use Rattle.responder_machine.specs.History as served
use Rattle.responder_machine.specs.Place.{Place, session_place}
use Rattle.responder_machine.specs.Refusal.{has_pending, stage_allows}
use Rattle.responder_machine.specs.Responder.{inner_reply, session_turn}
use Rattle.responder_machine.specs.Session as events
use Rattle.responder_machine.specs.Session.{Events, id_in_record}
use Rattle.responder_machine.specs.Setup.{RspSetup, inventory_of}
use Rattle.responder_machine.specs.Turn.{Turn}
use Rattle.spdm_grammar.specs.ErrorNumber.{error_number}
use Rattle.spdm_grammar.specs.Message.{ChunkMessage, ResponseMessage}
use Rattle.spdm_grammar.specs.Message.RequestMessage.{ChunkGet, GetMeasurements}
use Rattle.spdm_grammar.specs.Message.ResponseMessage.{ChunkResponse, Error}
use Rattle.spdm_grammar.specs.Responses.{canonical_response}
use Rattle.spdm_grammar.specs.declared.ChunkFault.{ChunkFault}
use Rattle.spdm_grammar.specs.declared.messages.error_code.ErrorCode.TheVariants.{LargeResponse}
use Rattle.spdm_grammar.specs.declared.told.event.BadReply.{BadReply}
use Rattle.spdm_grammar.specs.declared.told.event.Finished.TheVariants as finished
use Rattle.spdm_grammar.specs.declared.messages.malformed.Malformed.{Malformed}
use Rattle.spdm_grammar.specs.declared.names.request_code.TheConstants.{CHUNK_GET, GET_MEASUREMENTS}
use Rattle.spdm_grammar.specs.declared.names.spdm_version.TheConstants.{V1_2}
use Rattle.spdm_grammar.specs.declared.told.phase.Stage.{Stage}
use Rattle.spdm_grammar.specs.declared.told.phase.Stage.TheVariants as stage
use Rattle.spdm_machine.specs.Keys.{Draw}
use Rattle.spdm_machine.specs.Terms.{hash_len, terms_of}
use Rattle.transcript.specs.Transcripts.{Negotiation}
use Rattle.spdm_progress.specs.Measuring.{measurements_size, number_for}
use Rattle.spdm_progress.proofs.AlikeSessions.{IsAnswerTo, IsFetched}
use Rattle.spdm_progress.proofs.ClearFetch.{IsPending, chunk_is_few, chunk_response, get_chunk, given_answer, given_chunks, given_fits, gives_chunk, is_pending, is_right, joins_whole, large_fits, large_goes, no_fault, number_small, reads_chunk, reads_large, transfer_in}
use Rattle.spdm_progress.proofs.LargeAnswers.{GoesLarge, reads_measured}
use Rattle.spdm_progress.proofs.MeasureStages.{get_measurements, measurements, measurements_are, measures_flag, told_number}
use Rattle.spdm_progress.proofs.PacketSteps.{Pair}
use Rattle.spdm_progress.proofs.RecordHeard.{came_as}
use Rattle.spdm_progress.proofs.ResponderTurns.{contents_passed, form_passed, not_refused, read_at, taken_at, taken_somehow, taken_turn, turn_with}
use Rattle.spdm_progress.proofs.SessionRounds.{AreAnswered, Asking, answer_for, asked_steps, took_steps}
use Rattle.spdm_progress.proofs.SessionTurns.{TakesInSession, answer_read, measured_in, not_large_in, not_too_long_in, read_inside}

-- What a chunk brings about: the last one the measurements, any other nothing.
abbrev pub fetched : (op : ℕ) → (whole : List ℕ) → (last : Bool) → asked.Effect
fetched op whole last = if last then Grants (AskMeasure op) whole else Nothing

pub may_fetch : (op : ℕ) (whole : List ℕ) (last : Bool) → IsFetched (fetched op whole last)
may_fetch op whole true = inr (op, whole, refl)
may_fetch op whole false = inl refl

handle_small : (r : RspSetup) (g : served.History) (sealed : List ℕ) (d : Draw) → (record_chosen r g sealed d).handle < 256
unfolding chosen
handle_small r g sealed d = omega arith

no_pad : (q : ReqSetup) (h : asked.History) (d : Draw) → (body_chosen q h d).pad ≡ []
unfolding chosen_here
no_pad q h d = refl

-- The stage after a record that brought no more than this about.
pub stage_fetched : (sealed inner : List ℕ) (brought : asked.Effect) (s : Steps) → IsFetched brought → steps.stage_of (TookAnswer sealed inner brought ∷ s) ≡ steps.stage_of s
stage_fetched sealed inner brought s (inl is) = ap (λ (e : asked.Effect). steps.stage_of (TookAnswer sealed inner e ∷ s)) is
stage_fetched sealed inner brought s (inr is) = ap (λ (e : asked.Effect). steps.stage_of (TookAnswer sealed inner e ∷ s)) is.2

abbrev is_led : Led → Result Led BadReply
is_led x = Ok x

follows_if : (b : Bool) (x : Led) (other : Result Led BadReply) → b ≡ true → (if b then is_led x else other) ≡ is_led x
follows_if true x other is = refl
follows_if false x other is = absurd (false≢true is)

led_if_last : (b : Bool) (x y : Result Led BadReply) → b ≡ true → (if b then x else y) ≡ x
led_if_last true x y is = refl
led_if_last false x y is = absurd (false≢true is)

led_if_more : (b : Bool) (x y : Result Led BadReply) → b ≡ false → (if b then x else y) ≡ y
led_if_more true x y is = absurd (false≢true (sym is))
led_if_more false x y is = refl

module _ (p : Pair) (id op : ℕ) (n : Negotiation) (can : GoesLarge p.requester p.responder op n) where
  abbrev q : ReqSetup
  q = p.requester

  abbrev r : RspSetup
  r = p.responder

  abbrev pub transfer : ℕ
  transfer = transfer_in n

  -- The session is under this negotiation.
  abbrev pub IsUnder : Steps → Type 0
  IsUnder s = steps.session_negotiation s ≡ n

  -- ---- GET_MEASUREMENTS.

  abbrev pub large_asking : Asking
  large_asking = record {
    ask = AskMeasure op;
    inner = λ s. inner_request (GetMeasurements op);
    brings = λ t. Nothing;
    may = λ t. inl refl;
    before = λ turns. Unit {0};
    there = λ g. Unit {0};
    there_on = λ r g later alike z. tt;
    knows = λ g t. Unit {0};
  }

  pub record IsLarge (s : Steps) (t : Turn) : Type 0 where
    pub nonce : List ℕ
    pub whole : length nonce ≡ 32
    pub handle : ℕ
    pub small : handle < 256
    pub inner : inner_reply t ≡ 5 ∷ large_response handle
    pub pending : (earlier : List Turn) → IsPending (measurements r op nonce) handle 0 (t ∷ earlier)

  module _ (e : Events) (f : Free) (under : events.session_negotiation e ≡ n) (at : events.stage_of e ≡ stage.Open) where
    abbrev place : Place
    place = session_place e

    abbrev m : List ℕ
    m = get_measurements op

    abbrev answer : List ℕ
    answer = canonical_response (answer_of r place m f (GetMeasurements op))

    large_turn : length answer ≡ measurements_size r op → session_turn r e (inner_request (GetMeasurements op)) f ≡ turn_with m f (Some (GetMeasurements op)) answer true
    large_turn size =
        let room = can.fetch.room in
        let is = read_at place (GetMeasurements op) can.byte tt in
        read_inside r e m f refl
        ∙ taken_somehow r place m f (GetMeasurements op) is refl
        (not_refused r place m f
        (form_passed r place m (GetMeasurements op) is (record {
          long = refl;
          short = lt_false r.transfer 4 (omega (arith, room));
          known = refl;
          outside = refl;
          whole = refl;
          placed = refl;
          allowed = ap (λ (g : Stage). stage_allows g (has_pending place) GET_MEASUREMENTS) at;
          version = refl;
        }))
        (contents_passed r place m f (GetMeasurements op) is (record {
          flags = measures_flag (events.session_terms e) (ap (λ (x : Negotiation). (terms_of x).choice.measure) under ∙ can.chosen);
          caps = refl;
          offer = refl;
          block = can.block;
          exchange = refl;
          verify = refl;
          update = refl;
          chunk = refl;
          get = refl;
          fits = large_fits q r (measurements_size r op) n can.fetch place answer size under;
          limit = refl;
        })))
        ∙ ap (λ (large : Bool). turn_with m f (Some (GetMeasurements op)) answer large) (large_goes q r (measurements_size r op) n can.fetch place answer size under refl refl)

  abbrev IsGood : Asking → (Steps → Turn → Type 0) → Steps → Turn → Type 0
  IsGood x Good s t = IsAnswerTo x.ask (x.inner s) t × Good s t × (length t.reply ≤ 4133)

  large_is_good : (g : served.History) (s : Steps) (e : Events) (f : Free) (sealed : List ℕ) (d : Draw) → length d.bytes ≡ 32 → f ≡ record_chosen r g sealed d
      → IsGood large_asking IsLarge s (turn_with (get_measurements op) f (Some (GetMeasurements op)) (canonical_response (answer_of r (session_place e) (get_measurements op) f (GetMeasurements op))) true)
  large_is_good g s e f sealed d drawn is =
      let answer_is = ap (λ (z : Free). canonical_response (answer_of r (session_place e) (get_measurements op) z (GetMeasurements op))) is ∙ measured_in r g e sealed d op in (
        (_, _, refl),
        record {
          nonce = d.bytes;
          whole = drawn;
          handle = f.handle;
          small = subst (λ (z : Free). z.handle < 256) (sym is) (handle_small r g sealed d);
          inner = refl;
          pending = λ earlier. record { large = ap (λ (w : List ℕ). let o : Option (List ℕ) = Some w in o) answer_is; given = refl; handle_is = refl };
        },
        (omega arith),
      )

  pub large_answered : AreAnswered q r p.first id large_asking IsUnder IsLarge
  large_answered = record {
    there = λ g s e f sealed d fit at k is. tt;
    turns = λ g s e f sealed d fit at k made drawn here is known queued.
        let answer_is = ap (λ (z : Free). canonical_response (answer_of r (session_place e) (get_measurements op) z (GetMeasurements op))) is ∙ measured_in r g e sealed d op in
        subst (IsGood large_asking IsLarge s) (sym (large_turn e f (sym k.negotiation ∙ fit) (sym k.stage ∙ at) (ap length answer_is ∙ measurements_are r op d.bytes drawn))) (large_is_good g s e f sealed d drawn is);
  }

  -- It is followed by the first CHUNK_GET.
  abbrev first_led : asked.History → Steps → (handle : ℕ) → List ℕ → Result Led BadReply
  first_led h s handle pad = Ok (goes_on Nothing (chunk_sent q h id s op handle 0 [] pad))

  pub large_leads : (h : asked.History) (d : Draw) (s : Steps) (pad : List ℕ) (t : Turn) (good : IsLarge s t) → IsUnder s → steps.session_of id h ≡ asked_steps q r p.first id large_asking s pad
      → inner_led q h (body_chosen q h d) (came_as h id (answer_for q r p.first id large_asking s t) (inner_reply t)) (AskMeasure op) ≡ first_led h (took_steps q r p.first id large_asking s pad t) good.handle []
  large_leads h d s pad t good under is =
      let f = body_chosen q h d in
      let reply = answer_for q r p.first id large_asking s t in
      let came = came_as h id reply (inner_reply t) in
      let transfer_is = can.fetch.transfer in
      let least = can.fetch.least in
      answer_read q h f came (AskMeasure op) (large_response good.handle) (Error V1_2 (error_number LargeResponse) 0 (good.handle ∷ [])) good.inner (omega (arith, least)) (reads_large (hash_len (steps.session_terms (steps.session_of id h))) good.handle false)
      ∙ follows_if (steps.session_terms (steps.session_of id h)).common.chunk (goes_on Nothing (chunk_sent q h id (with_record came Nothing) op good.handle 0 [] f.pad)) (Ok (is_refused (error_number LargeResponse) Nothing))
      (ap (λ (z : Steps). (steps.session_terms z).common.chunk) is ∙ ap (λ (x : Negotiation). (terms_of x).common.chunk) under ∙ can.fetch.chunk)
      ∙ ap (λ (z : Steps). first_led h (steps.when_live z (TookAnswer reply (inner_reply t) Nothing)) good.handle f.pad) is
      ∙ ap (first_led h (took_steps q r p.first id large_asking s pad t) good.handle) (no_pad q h d)

  -- ---- CHUNK_GET.

  module _ (nonce : List ℕ) (whole : length nonce ≡ 32) (handle k : ℕ) (small : handle < 256) (within : k < chunk_count transfer (measurements r op nonce)) where
    abbrev pub w : List ℕ
    w = measurements r op nonce

    abbrev pub is_last : Bool
    is_last = k + 1 == chunk_count transfer w

    abbrev pub chunk_asking : Asking
    chunk_asking = record {
      ask = AskChunk op handle k (chunks_before transfer handle w k);
      inner = λ s. inner_request (ChunkGet handle k);
      brings = λ t. fetched op w is_last;
      may = λ t. may_fetch op w is_last;
      before = IsPending w handle k;
      there = λ g. Unit {0};
      there_on = λ r g later alike z. tt;
      knows = λ g t. Unit {0};
    }

    pub record IsChunk (s : Steps) (t : Turn) : Type 0 where
      pub inner : inner_reply t ≡ 5 ∷ chunk_response transfer handle w k
      pub next : (earlier : List Turn) → IsPending w handle k earlier → IsPending w handle (k + 1) (t ∷ earlier)

    long : length w ≡ measurements_size r op
    long = measurements_are r op nonce whole

    module _ (e : Events) (f : Free) (under : events.session_negotiation e ≡ n) (at : events.stage_of e ≡ stage.Open) (pending : IsPending w handle k (events.turns_of e)) where
      abbrev there : Place
      there = session_place e

      abbrev chunk_answer : List ℕ
      chunk_answer = given_answer q r (measurements_size r op) n can.fetch w long handle k small within there f under pending

      fits_it : TakesInSession e (length chunk_answer)
      fits_it = (let fits = given_fits q r (measurements_size r op) n can.fetch w long handle k small within there f under pending in record { max = fits.0; transfer = fits.1 })

      chunk_turn : session_turn r e (inner_request (ChunkGet handle k)) f ≡ taken_turn r there (get_chunk handle k) f (ChunkGet handle k)
      chunk_turn =
          let room = can.fetch.room in
          read_inside r e (get_chunk handle k) f refl
          ∙ taken_at r there (get_chunk handle k) f (ChunkGet handle k) (read_at there (ChunkGet handle k) (small, number_small q r (measurements_size r op) n can.fetch w long handle k small within) tt) refl
          (record {
            long = refl;
            short = lt_false r.transfer 6 (omega (arith, room));
            known = refl;
            outside = refl;
            whole = refl;
            placed = refl;
            allowed = ap (λ (g : Stage). stage_allows g (has_pending there) CHUNK_GET) at ∙ ap is_some (is_pending q r (measurements_size r op) n can.fetch w long handle k small within there f under pending);
            version = refl;
          })
          (record {
            flags = given_chunks q r (measurements_size r op) n can.fetch w long handle k small within there f under pending;
            caps = refl;
            offer = refl;
            block = refl;
            exchange = refl;
            verify = refl;
            update = refl;
            chunk = refl;
            get = is_right q r (measurements_size r op) n can.fetch w long handle k small within there f under pending;
            fits = not_too_long_in e chunk_answer fits_it;
            limit = refl;
          })
          (not_large_in e chunk_answer fits_it)

      chunk_is_good : (s : Steps) → IsGood chunk_asking IsChunk s (taken_turn r there (get_chunk handle k) f (ChunkGet handle k))
      chunk_is_good s =
          let gives = gives_chunk q r (measurements_size r op) n can.fetch w long handle k small within there f under pending in
          let few = chunk_is_few q r (measurements_size r op) n can.fetch w long handle k small within in
          let reply_few : length chunk_answer ≤ transfer = subst (λ (l : List ℕ). length l ≤ transfer) (sym gives) few in
          let large = can.fetch.large in
          let fits = can.fetch.fits_max in
          let max = can.fetch.max in
          let most = can.fetch.most in (
            (_, refl),
            record {
              inner = ap (λ (l : List ℕ). 5 ∷ l) gives;
              next = λ earlier x. record { large = x.large; given = ap (λ (z : ℕ). z + 1) x.given; handle_is = x.handle_is };
            },
            (omega (arith, reply_few, large, fits, max, most)),
          )

    pub chunk_answered : AreAnswered q r p.first id chunk_asking IsUnder IsChunk
    chunk_answered = record {
      there = λ g s e f sealed d fit at k is. tt;
      turns = λ g s e f sealed d fit at k_in made drawn here is known queued.
          subst (IsGood chunk_asking IsChunk s) (sym (chunk_turn e f (sym k_in.negotiation ∙ fit) (sym k_in.stage ∙ at) known)) (chunk_is_good e f (sym k_in.negotiation ∙ fit) (sym k_in.stage ∙ at) known s);
    }

    -- ---- What the requester makes of a chunk.

    module _ (h : asked.History) (d : Draw) (s : Steps) (pad : List ℕ) (t : Turn) (good : IsChunk s t) (under : IsUnder s) (is : steps.session_of id h ≡ asked_steps q r p.first id chunk_asking s pad) where
      abbrev reply : List ℕ
      reply = answer_for q r p.first id chunk_asking s t

      abbrev came : Came
      came = came_as h id reply (inner_reply t)

      abbrev before : List ChunkMessage
      before = chunks_before transfer handle w k

      abbrev c : ChunkMessage
      c = nth_chunk transfer handle w k

      abbrev leads_to : Result Led BadReply
      leads_to = inner_led q h (body_chosen q h d) came (AskChunk op handle k before)

      chunk_read : leads_to ≡ chunk_led q h (body_chosen q h d) came op before c None
      chunk_read =
          let few = chunk_is_few q r (measurements_size r op) n can.fetch w long handle k small within in
          let transfer_is = can.fetch.transfer in
          answer_read q h (body_chosen q h d) came (AskChunk op handle k before) (chunk_response transfer handle w k) (ChunkResponse c) good.inner (omega (arith, few, transfer_is)) (reads_chunk q r (measurements_size r op) n can.fetch w long handle k small within h (hash_len (steps.session_terms (steps.session_of id h))) false)
          ∙ ap (λ (o : Option ChunkFault). chunk_led q h (body_chosen q h d) came op before c o) (no_fault q r (measurements_size r op) n can.fetch w long handle k small within)

      abbrev more_led : Steps → List ℕ → Result Led BadReply
      more_led z pads = Ok (goes_on Nothing (chunk_sent q h id z op handle (k + 1) (c ∷ before) pads))

      -- One that is not the last.
      pub more_leads : is_last ≡ false → leads_to ≡ more_led (TookAnswer reply (inner_reply t) Nothing ∷ asked_steps q r p.first id chunk_asking s pad) []
      more_leads more =
          chunk_read
          ∙ led_if_more is_last _ (more_led (with_record came Nothing) (body_chosen q h d).pad) more
          ∙ ap (λ (z : Steps). more_led (steps.when_live z (TookAnswer reply (inner_reply t) Nothing)) (body_chosen q h d).pad) is
          ∙ ap (more_led (TookAnswer reply (inner_reply t) Nothing ∷ asked_steps q r p.first id chunk_asking s pad)) (no_pad q h d)

      -- The last one.
      pub last_leads : is_last ≡ true → leads_to ≡ is_led (is_done (finished.Measured (number_for r op)) (Grants (AskMeasure op) w))
      last_leads last =
          chunk_read
          ∙ led_if_last is_last (whole_led q h (body_chosen q h d) came op (joined_with before c) (reading_of came (joined_with before c))) _ last
          ∙ ap (λ (l : List ℕ). whole_led q h (body_chosen q h d) came op l (reading_of came l)) (joins_whole q r (measurements_size r op) n can.fetch w long handle k small within last)
          ∙ ap (λ (x : Result ResponseMessage Malformed). whole_led q h (body_chosen q h d) came op w x) (reads_measured q r op n can h (hash_len (steps.session_terms (steps.session_of id h))) nonce whole)
          ∙ ap (λ (z : ℕ). is_led (is_done (finished.Measured z) (Grants (AskMeasure op) w))) (told_number (op == 0) (length (inventory_of r)) (length (blocks_asked op (inventory_of r))))
