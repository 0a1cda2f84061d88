-- In the clear: what an answer leads to with some bytes as the large response that is fetched, it leads to with any
-- others that give the same chunk.
use Rattle.std.proofs.Common.{◌≡◌, ◌<◌, ◌≤◌, ◌==◌, ◌&&◌, ◌⊎◌, ℕ, List, [], ◌∷◌, refl, sym, ap, ◌∙◌, subst, drop, length, Bool, true, false, Option, Some, None, is_some, cond, inl, inr, arith}
use Rattle.std.specs.Prelude.{not, slice_index}
use Rattle.std.proofs.lemmas.Bool.{false≢true}
use Rattle.chunking.specs.Cutting.{nth_chunk}
use Rattle.chunking.specs.Collecting.{joined_with, under_way}
use Rattle.spdm_grammar.specs.Message.{ChunkMessage}
use Rattle.spdm_grammar.specs.Message.RequestMessage.{ChunkGet, GetVersion}
use Rattle.spdm_grammar.specs.Requests.{canonical_request}
use Rattle.spdm_grammar.specs.declared.names.TheConstants.{MAX_MESSAGE_SIZE}
use Rattle.spdm_grammar.specs.declared.names.request_code.TheConstants.{CHUNK_GET, GET_VERSION}
use Rattle.spdm_machine.specs.Bodies.{clear_body}
use Rattle.spdm_machine.specs.Terms.{hash_len, terms_of}
use Rattle.responder_machine.specs.Answer.{Free, answer_bytes, request_at}
use Rattle.responder_machine.specs.Handling.{chunk_in, turn_of}
use Rattle.responder_machine.specs.History.{Entry, History, kept_of, negotiation_of, phase_of}
use Rattle.responder_machine.specs.History.Entry.{Clear}
use Rattle.responder_machine.specs.LargeMessages.{chunks_of, given_of, handle_of, pending_of}
use Rattle.responder_machine.specs.May.{IsAllowed, place_for, with_dropped}
use Rattle.responder_machine.specs.Place.{Place, clear_place, inside, place_terms}
use Rattle.responder_machine.specs.Refusal.{code_of, has_pending}
use Rattle.responder_machine.specs.Responder.{Outcome, is_repeat, kept_reply, on_clear, on_record}
use Rattle.responder_machine.specs.Responder.Outcome.{Same, Unopened, Adds}
use Rattle.responder_machine.specs.Session.{id_in_record, session_of}
use Rattle.responder_machine.specs.Setup.{RspSetup}
use Rattle.responder_machine.specs.Turn.{Turn, takes}
use Rattle.check_laws.proofs.LeastValues.{handle_free, least_allowed}
use Rattle.check_laws.specs.AnswersShown.{least_values}
use Rattle.check_fetched_laws.proofs.ClearTurns.{chunk_bytes, clear_places, turn_same}
use Rattle.check_fetched_laws.proofs.GetAlike.{PlacesAlike, large_same, long_same}
use Rattle.check_fetched_laws.proofs.TurnsBoth.{Settles}
use Rattle.check_fetched_laws.specs.AlikeAnswers.{gives_chunk}
use Rattle.capture_machine.proofs.ChunksGiven.{Chunked}
use Rattle.capture_machine.proofs.DropsTell.{clear_form, kept_same, turns_stay}
use Rattle.capture_machine.proofs.FetchStates.{Fetch, Getting, served}
use Rattle.capture_machine.proofs.FetchStates.Getting.{Asks, Repeats, Seals}
use Rattle.capture_machine.proofs.FetchedAnswers.{again_none, always_none, turn_code}
use Rattle.capture_machine.proofs.FetchedTells.{ReadsAlways, get_reads, kept_large, version_reads}
use Rattle.capture_machine.proofs.FetchedTold.{Stands, version_apart}
use Rattle.capture_machine.proofs.PlacesServed.{named_clear, place_type}
use Rattle.capture_machine.proofs.PlainTells.{led_clear}
use Rattle.capture_machine.proofs.SmallGets.{gets_are_small}
use Rattle.capture_machine.specs.CapturedAnswers.{AreShown, MayLeadAfter, MayLeadTo, answer_at, clear_answer, is_plain, record_answer}
use Rattle.capture_machine.specs.LargeAnswers.{IsLargeAnswer, gives_last, is_large, place_named, place_of, takes_get, with_large}
use Rattle.capture_machine.specs.Rounds.{no_draw}

-- What is no CHUNK_GET gives no last chunk.
pub no_get : (g : History) (e : Entry) → takes_get e ≡ false → gives_last g e ≡ false
no_get g e gets = ap (λ (b : Bool). b && not (has_pending (place_of (e ∷ g) e))) gets

-- What the last request is in the clear: a repeat, or one that is read in the same way under any hash.
pub data Reading (h : History) (tag : ℕ) (m : List ℕ) : Type 0 where
  Again : is_repeat (kept_of h) tag m ≡ true → Reading h tag m
  Anew : ReadsAlways m → (code_of m ≡ CHUNK_GET) ⊎ (code_of m ≡ GET_VERSION) → Reading h tag m

version_code : code_of (canonical_request GetVersion) ≡ GET_VERSION
version_code = refl

get_code : (handle number : ℕ) → code_of (canonical_request (ChunkGet handle number)) ≡ CHUNK_GET
get_code handle number = refl

pub reading : (h : History) (w : List ℕ) (tag : ℕ) (body : List ℕ) → (slice_index body 0 == 5) ≡ true → Stands h w tag body → Reading h tag (drop 1 body)
reading h w tag body type (inl is) =
    subst (λ (l : List ℕ). Reading h tag (drop 1 l)) (sym is) (Anew version_reads (inr version_code))
reading h w tag body type (inr fetch) = by_how fetch.how
  where
    by_how : Getting h tag body → Reading h tag (drop 1 body)
    by_how (Asks handle number is since) = subst (λ (l : List ℕ). Reading h tag (drop 1 l)) (sym is) (Anew (get_reads handle number) (inl (get_code handle number)))
    by_how (Repeats clear again since) = Again again
    by_how (Seals sealed stand) = absurd (false≢true (sym sealed ∙ type))

module _ (r : RspSetup) (few : (h : History) (p : Place) (m : List ℕ) → length (answer_bytes r p m (least_values h p)) ≤ MAX_MESSAGE_SIZE) where
  -- The least values, with this handle.
  abbrev value : History → ℕ → Free
  value g handle = record (least_values g (clear_place g)) { handle = handle }

  value_allowed : (g : History) (handle : ℕ) → handle < 256 → IsAllowed g (clear_place g) (value g handle)
  value_allowed g handle byte = (let a = least_allowed g (clear_place g) [] (omega arith) in record {
    least = a.least;
    most = a.most;
    unused = a.unused;
    context = a.context;
    exchange_opaque = a.exchange_opaque;
    nonce = a.nonce;
    measured_opaque = a.measured_opaque;
    handle = byte;
    reply = a.reply;
    pad = a.pad;
  })

  bytes_few : (g : History) (p : Place) (m : List ℕ) (handle : ℕ) → length (answer_bytes r p m (record (least_values g p) { handle = handle })) ≤ MAX_MESSAGE_SIZE
  unfolding answer_bytes
  bytes_few g p m handle = subst (λ (n : ℕ). n ≤ MAX_MESSAGE_SIZE) (sym (handle_free r p m (least_values g p) handle (request_at p m))) (few g p m)

  value_few : (g : History) (m : List ℕ) (handle : ℕ) (c : Option ChunkMessage) → length (answer_at r (clear_place g) m (value g handle) c) ≤ MAX_MESSAGE_SIZE
  value_few g m handle None = bytes_few g (clear_place g) m handle
  value_few g m handle (Some c) = bytes_few g (inside (clear_place g)) (joined_with (under_way (chunks_of (clear_place g).turns)) c) handle

  module _ (h : History) (w v : List ℕ) (tag : ℕ) (body : List ℕ) (type : (slice_index body 0 == 5) ≡ true) (settles : Settles h) (one : Stands h w tag body) (other : Stands h v tag body) where
    abbrev m : List ℕ
    m = drop 1 body

    abbrev g : History
    g = with_large None w h

    abbrev k : History
    k = with_large None v h

    abbrev p : Place
    p = clear_place (with_large None w h)

    abbrev o : Place
    o = clear_place (with_large None v h)

    -- Both give the same chunk, if any.
    abbrev SameChunk : Type 0
    SameChunk =
        (length w ≡ length v) × ((nth_chunk (place_terms (clear_place (with_large None w h))).common.to_requester.transfer 0 w (given_of (clear_place (with_large None w h)).turns)).chunk
        ≡ (nth_chunk (place_terms (clear_place (with_large None v h))).common.to_requester.transfer 0 v (given_of (clear_place (with_large None v h)).turns)).chunk)

    here : (x : List ℕ) → place_for (with_large (place_named body) x h) body ≡ clear_place (with_large None x h)
    here x = ap (λ (n : Option ℕ). place_for (with_large n x h) body) (named_clear body type) ∙ place_type (with_large None x h) body true type

    chunked : (x : List ℕ) → Fetch h x tag body → Chunked (clear_place (with_large None x h)) None x h
    chunked x fetch =
        subst (λ (n : Option ℕ). Chunked (clear_place (with_large None x h)) n x h) (named_clear body type) (subst (λ (q : Place). Chunked q (place_named body) x h) (here x) fetch.chunked)

    module _ (pending : has_pending p ≡ has_pending o) (f : Free) where
      read_alike : ReadsAlways m → request_at p m ≡ request_at o m
      read_alike reads = reads.reads (hash_len (place_terms p)) (hash_len (place_terms o))

      version_anew : ReadsAlways m → body ≡ clear_body (canonical_request GetVersion) → turn_of r p m f ≡ turn_of r o m (value k f.handle)
      version_anew reads is =
          let version : code_of m ≡ GET_VERSION = ap (λ (l : List ℕ). code_of (drop 1 l)) is in
          turn_same r m p o f (value k f.handle) (clear_places w v h settles pending) (read_alike reads) (inr version)
          (λ gets. absurd (let get : code_of m ≡ CHUNK_GET = turn_code r p m f CHUNK_GET refl reads.no_chunk gets in omega (arith, get, version))) refl

      -- The turn, where it is no repeat.
      anew : ReadsAlways m → (code_of m ≡ CHUNK_GET) ⊎ (code_of m ≡ GET_VERSION) → (takes CHUNK_GET (turn_of r p m f) ≡ true → SameChunk) → Stands h w tag body → Stands h v tag body
          → turn_of r p m f ≡ turn_of r o m (value k f.handle)
      anew reads code same (inr fetch) (inr fetches) =
          let a : PlacesAlike p o = clear_places w v h settles pending in
          turn_same r m p o f (value k f.handle) a (read_alike reads) code
          (λ gets. chunk_bytes r m p o f (value k f.handle) None w v h a (read_alike reads) (chunked w fetch) (chunked v fetches) (same gets).0 (same gets).1 gets) refl
      anew reads code same (inl is) two = version_anew reads is
      anew reads code same two (inl is) = version_anew reads is

      -- What is led to, by whether it is a repeat.
      on_is : (x : List ℕ) (u : Free) → on_clear r (with_large None x h) tag m u no_draw
          ≡ cond (is_repeat (kept_of h) tag m) (Same (clear_body (kept_reply (kept_of h)))) (Adds (Clear tag (turn_of r (clear_place (with_large None x h)) m u) no_draw))
      unfolding on_clear
      on_is x u = ap (λ y. cond (is_repeat y tag m) (Same (clear_body (kept_reply y))) (Adds (Clear tag (turn_of r (clear_place (with_large None x h)) m u) no_draw))) (kept_large None x h)

      by_reading : is_repeat (kept_of h) tag m ≡ false → Reading h tag m → (takes CHUNK_GET (turn_of r p m f) ≡ true → SameChunk) → turn_of r p m f ≡ turn_of r o m (value k f.handle)
      by_reading not (Again is) same = absurd (false≢true (sym not ∙ is))
      by_reading not (Anew reads code) same = anew reads code same one other

      alike : (x : Outcome) → on_clear r g tag m f no_draw ≡ x → (gives_chunk x ≡ true → SameChunk) → on_clear r k tag m (value k f.handle) no_draw ≡ x
      alike x is same = by_again (is_repeat (kept_of h) tag m) refl
        where
          by_again : (b : Bool) → is_repeat (kept_of h) tag m ≡ b → on_clear r k tag m (value k f.handle) no_draw ≡ x
          by_again true again =
              let at : Turn → Outcome = λ t. cond (is_repeat (kept_of h) tag m) (Same (clear_body (kept_reply (kept_of h)))) (Adds (Clear tag t no_draw)) in
              let to : (t : Turn) → cond (is_repeat (kept_of h) tag m) (Same (clear_body (kept_reply (kept_of h)))) (Adds (Clear tag t no_draw)) ≡ Same (clear_body (kept_reply (kept_of h))) =
              λ t. ap (λ (b : Bool). cond b (Same (clear_body (kept_reply (kept_of h)))) (Adds (Clear tag t no_draw))) again in
              on_is v (value k f.handle) ∙ to (turn_of r o m (value k f.handle)) ∙ sym (to (turn_of r p m f)) ∙ sym (on_is w f) ∙ is
          by_again false again =
              let to : (t : Turn) → cond (is_repeat (kept_of h) tag m) (Same (clear_body (kept_reply (kept_of h)))) (Adds (Clear tag t no_draw)) ≡ Adds (Clear tag t no_draw) =
              λ t. ap (λ (b : Bool). cond b (Same (clear_body (kept_reply (kept_of h)))) (Adds (Clear tag t no_draw))) again in
              let adds : Adds (Clear tag (turn_of r p m f) no_draw) ≡ x = sym (on_is w f ∙ to (turn_of r p m f)) ∙ is in
              let turns = by_reading again (reading h w tag body type one) (λ takes_it. same (ap gives_chunk (sym adds) ∙ takes_it)) in
              on_is v (value k f.handle) ∙ to (turn_of r o m (value k f.handle)) ∙ ap (λ (t : Turn). Adds (Clear tag t no_draw)) (sym turns) ∙ adds

    -- ---- What may be led to.

    leads_too : (x : Outcome) → has_pending p ≡ has_pending o → (gives_chunk x ≡ true → SameChunk) → MayLeadTo r g tag body x → MayLeadTo r k tag body x
    unfolding MayLeadTo
    leads_too x pending same may =
        let led = led_clear r g tag body x type may in
        let u : Free = value k led.free.handle in
        let there = alike pending led.free x led.leads same in (
          u,
          subst (λ (q : Place). IsAllowed k q u) (sym (place_type k body true type)) (value_allowed k led.free.handle led.allowed.handle),
          subst (λ (b : Bool). length (cond b (clear_answer r (clear_place k) m u) (record_answer r (session_of (id_in_record m) k) m u)) ≤ MAX_MESSAGE_SIZE) (sym type) (value_few k m led.free.handle (chunk_in (request_at (clear_place k) m))),
          ap (λ (b : Bool). cond b (on_clear r k tag m u no_draw) (on_record r k tag m u no_draw)) type ∙ there,
        )

    -- The history with these bytes.
    abbrev large : List ℕ → History
    large x = with_large (place_named body) x h

    large_is : (x : List ℕ) → large x ≡ with_large None x h
    large_is x = ap (λ (n : Option ℕ). with_large n x h) (named_clear body type)

    fetched : (x : List ℕ) (e : Entry) → Stands h x tag body → MayLeadTo r (large x) tag body (Adds e) → takes_get e ≡ true → Fetch h x tag body
    fetched x e (inl is) may gets = absurd (version_apart r (large x) tag body e is may gets)
    fetched x e (inr fetch) may gets = fetch

    -- Both tell alike whether it is the last chunk.
    lasts : (e : Entry) → MayLeadTo r (large w) tag body (Adds e) → MayLeadTo r (large v) tag body (Adds e) → gives_last (large w) e ≡ gives_last (large v) e
    lasts e may might = by_get (takes_get e) refl
      where
        by_get : (b : Bool) → takes_get e ≡ b → gives_last (large w) e ≡ gives_last (large v) e
        by_get true gets = (served r h w tag body e (fetched w e one may gets) may).last gets ∙ sym ((served r h v tag body e (fetched v e other might gets) might).last gets)
        by_get false gets = no_get (large w) e gets ∙ sym (no_get (large v) e gets)

    plain_too : (x : Outcome) → MayLeadTo r (large w) tag body x → MayLeadTo r (large v) tag body x → is_plain (large w) x ≡ true → is_plain (large v) x ≡ true
    plain_too (Same b) may might plain = plain
    plain_too (Unopened b) may might plain = plain
    plain_too (Adds e) may might plain = ap (λ (b : Bool). not (is_large e) && not b) (sym (lasts e may might)) ∙ plain

    none_dropped : (ids : List ℕ) (x : Outcome) → MayLeadAfter r (large w) ids tag body x → AreShown r (large w) body x ids → ids ≡ []
    none_dropped ids x may shown = by_read (reading h w tag body type one)
      where
        by_read : Reading h tag m → ids ≡ []
        by_read (Again again) = again_none r h (place_named body) w ids tag body x type again may shown
        by_read (Anew reads code) = always_none r (large w) ids tag body x type reads may shown

    -- Nothing was dropped, and the same is led to.
    pub clear_alike : (ids : List ℕ) (x : Outcome) → has_pending p ≡ has_pending o → (gives_chunk x ≡ true → SameChunk) → MayLeadAfter r (large w) ids tag body x → AreShown r (large w) body x ids → is_plain (large w) x ≡ true
        → (ids ≡ []) × MayLeadTo r (large v) tag body x × (is_plain (large v) x ≡ true)
    clear_alike ids x pending same may shown plain =
        let none = none_dropped ids x may shown in
        let here : MayLeadTo r (large w) tag body x = subst (λ (l : List ℕ). MayLeadTo r (with_dropped (large w) l) tag body x) none may.1 in
        let there : MayLeadTo r (large v) tag body x =
        subst (λ (l : History). MayLeadTo r l tag body x) (sym (large_is v)) (leads_too x pending same (subst (λ (l : History). MayLeadTo r l tag body x) (large_is w) here)) in
        (none, there, plain_too x here there plain)

    -- ---- LargeResponse.

    -- What was dropped before it does not count.
    drop_places : (ids : List ℕ) → PlacesAlike (clear_place (with_dropped g ids)) (clear_place g)
    drop_places ids = (let same = turns_stay ids g in record {
      at = refl;
      phase = ap phase_of same;
      stage = refl;
      common = ap (λ (l : List Turn). (terms_of (negotiation_of l)).common) same;
      pending = ap (λ (l : List Turn). is_some (pending_of (terms_of (negotiation_of l)).common.to_requester.transfer l)) same;
      handle = ap handle_of same;
      given = ap given_of same;
    })

    large_here : (ids : List ℕ) (e : Entry) → MayLeadTo r (with_dropped g ids) tag body (Adds e) → is_large e ≡ true → MayLeadTo r g tag body (Adds e)
    unfolding MayLeadTo on_clear
    large_here ids e may goes = by_reading (reading h w tag body type one)
      where
        kept_is : kept_of (with_dropped g ids) ≡ kept_of h
        kept_is = kept_same ids g ∙ kept_large None w h

        not_again : (b : Bool) (f : Free) → cond b (Same (clear_body (kept_reply (kept_of (with_dropped g ids))))) (Adds (Clear tag (turn_of r (clear_place (with_dropped g ids)) m f) no_draw)) ≡ Adds e → is_repeat (kept_of g) tag m ≡ b → is_repeat (kept_of g) tag m ≡ false
        not_again true f leads is = absurd (cc)
        not_again false f leads is = is

        by_reading : Reading h tag m → MayLeadTo r g tag body (Adds e)
        by_reading (Again again) =
            let led = led_clear r (with_dropped g ids) tag body (Adds e) type may in
            absurd (let x = sym (ap (λ (b : Bool). cond b (Same (clear_body (kept_reply (kept_of (with_dropped g ids))))) (Adds (Clear tag (turn_of r (clear_place (with_dropped g ids)) m led.free) no_draw))) (ap (λ y. is_repeat y tag m) kept_is ∙ again)) ∙ led.leads in cc)
        by_reading (Anew reads code) =
            let led = led_clear r (with_dropped g ids) tag body (Adds e) type may in
            let q : Place = clear_place (with_dropped g ids) in
            let u : Free = value g led.free.handle in
            elim (clear_form r (with_dropped g ids) tag m led.free (Adds e) led.leads) [
              | inl same ↦ absurd (let x = same.1 in cc)
              | inr adds ↦
                  let same : Clear tag (turn_of r q m led.free) no_draw ≡ e = cc (sym adds) in
                  let turns : turn_of r q m led.free ≡ turn_of r p m u = turn_same r m q p led.free u (drop_places ids) (reads.reads (hash_len (place_terms q)) (hash_len (place_terms p))) code
                  (λ gets. absurd (false≢true (sym (gets_are_small r (with_dropped g ids) tag body e may (ap takes_get (sym same) ∙ gets)) ∙ goes))) refl in
                  let entry : Clear tag (turn_of r p m u) no_draw ≡ e = ap (λ (t : Turn). Clear tag t no_draw) (sym turns) ∙ same in
                  let anew : is_repeat (kept_of g) tag m ≡ false = not_again (is_repeat (kept_of (with_dropped g ids)) tag m) led.free led.leads (ap (λ y. is_repeat y tag m) (kept_large None w h ∙ sym kept_is)) in (
                    u,
                    subst (λ (x : Place). IsAllowed g x u) (sym (place_type g body true type)) (value_allowed g led.free.handle led.allowed.handle),
                    subst (λ (b : Bool). length (cond b (clear_answer r (clear_place g) m u) (record_answer r (session_of (id_in_record m) g) m u)) ≤ MAX_MESSAGE_SIZE) (sym type) (value_few g m led.free.handle (chunk_in (request_at (clear_place g) m))),
                    ap (λ (b : Bool). cond b (on_clear r g tag m u no_draw) (on_record r g tag m u no_draw)) type
                        ∙ ap (λ (b : Bool). cond b (Same (clear_body (kept_reply (kept_of g)))) (Adds (Clear tag (turn_of r p m u) no_draw))) anew ∙ ap Adds entry,
                  )
            ]

    -- It may be given with the other bytes too, to the place of the same sizes.
    pub large_clear : (ids : List ℕ) (e : Entry) → has_pending p ≡ has_pending o → MayLeadTo r (with_dropped (large w) ids) tag body (Adds e) → is_large e ≡ true → MayLeadTo r (large v) tag body (Adds e)
    large_clear ids e pending may goes =
        let here = large_here ids e (subst (λ (l : History). MayLeadTo r (with_dropped l ids) tag body (Adds e)) (large_is w) may) goes in
        subst (λ (l : History). MayLeadTo r l tag body (Adds e)) (sym (large_is v))
        (leads_too (Adds e) pending (λ gives. absurd (false≢true (sym (gets_are_small r g tag body e here gives) ∙ goes))) here)

    sizes_same : (whole : List ℕ) (q x : Place) → PlacesAlike q x → IsLargeAnswer q whole → IsLargeAnswer x whole
    sizes_same whole q x a fits = (sym (large_same r m q x (value g 0) (value g 0) a whole) ∙ fits.0, sym (long_same r m q x (value g 0) (value g 0) a whole) ∙ fits.1, fits.2)

    inside_alike : (q x : Place) → PlacesAlike q x → PlacesAlike (inside q) (inside x)
    inside_alike q x a = record {
      at = refl;
      phase = a.phase;
      stage = a.stage;
      common = a.common;
      pending = a.pending;
      handle = a.handle;
      given = a.given;
    }

    pub clear_fits : (e : Entry) (whole : List ℕ) → has_pending p ≡ has_pending o → MayLeadTo r (large v) tag body (Adds e) → IsLargeAnswer (place_of (large w) e) whole → IsLargeAnswer (place_of (large v) e) whole
    clear_fits e whole pending may fits =
        let a : PlacesAlike p o = clear_places w v h settles pending in
        let led = led_clear r (large v) tag body (Adds e) type may in
        elim (clear_form r (large v) tag m led.free (Adds e) led.leads) [
          | inl same ↦ absurd (let x = same.1 in cc)
          | inr adds ↦
              let t : Turn = turn_of r (clear_place (large v)) m led.free in
              let same : e ≡ Clear tag t no_draw = cc adds in
              let to : (x : List ℕ) → place_of (large x) e ≡ cond (is_some t.chunk) (inside (clear_place (with_large None x h))) (clear_place (with_large None x h)) =
              λ x. ap (place_of (large x)) same ∙ ap (λ (l : History). cond (is_some t.chunk) (inside (clear_place l)) (clear_place l)) (large_is x) in
              subst (λ (q : Place). IsLargeAnswer q whole) (sym (to v)) (by_chunk (is_some t.chunk) a (subst (λ (q : Place). IsLargeAnswer q whole) (to w) fits))
        ]
      where
        by_chunk : (b : Bool) → PlacesAlike p o → IsLargeAnswer (cond b (inside p) p) whole → IsLargeAnswer (cond b (inside o) o) whole
        by_chunk true a fits = sizes_same whole (inside p) (inside o) (inside_alike p o a) fits
        by_chunk false a fits = sizes_same whole p o a fits
