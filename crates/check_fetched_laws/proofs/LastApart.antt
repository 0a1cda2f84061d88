-- Whether the verify data of the last chunk of a large response are alone wrong is determined by what is shown.
use Rattle.std.proofs.Common.{◌≡◌, ◌<◌, ◌≤◌, ◌==◌, ◌&&◌, ◌||◌, ℕ, List, [], ◌∷◌, ◌++◌, refl, sym, ap, ◌∙◌, subst, length, Bool, true, false, Option, Some, None, is_some, cond, inl, inr, eq-eqb, eqb-true}
use Rattle.std.specs.Prelude.{MatchBool, not, slice_index}
use Rattle.std.proofs.lemmas.Bool.{false≢true}
use Rattle.std.proofs.lemmas.Option.{same_Some}
use Rattle.spdm_basis.proofs.Bools.{and_first}
use Rattle.chunking.specs.Collecting.{joined_with, under_way}
use Rattle.spdm_grammar.specs.Message.{ChunkMessage}
use Rattle.spdm_grammar.specs.declared.names.TheConstants.{MAX_MESSAGE_SIZE}
use Rattle.spdm_grammar.specs.declared.names.request_code.TheConstants.{CHUNK_GET, GET_CAPABILITIES, GET_VERSION, NEGOTIATE_ALGORITHMS, PSK_EXCHANGE}
use Rattle.spdm_grammar.specs.declared.names.response_code.TheConstants.{PSK_EXCHANGE_RSP}
use Rattle.spdm_machine.specs.Bodies.{clear_body}
use Rattle.spdm_machine.specs.Keys.{Draw}
use Rattle.spdm_machine.specs.Sessions.{id_in_exchange}
use Rattle.spdm_machine.specs.Terms.{hash_len, no_negotiation, terms_of}
use Rattle.transcript.specs.Transcripts.{Negotiation}
use Rattle.responder_machine.specs.Answer.{Free, answer_bytes, answer_to, request_at}
use Rattle.responder_machine.specs.Handling.{chunk_in, turn_of}
use Rattle.responder_machine.specs.History.{Entry, History, clear_turns, negotiation_of}
use Rattle.responder_machine.specs.History.Entry.{Clear, Sealed, Queued, Ticked, Dropped}
use Rattle.responder_machine.specs.LargeMessages.{chunks_of}
use Rattle.responder_machine.specs.May.{with_dropped}
use Rattle.responder_machine.specs.Place.{Place, clear_place, inside, place_terms}
use Rattle.responder_machine.specs.Responder.{Outcome, body_of}
use Rattle.responder_machine.specs.Responder.Outcome.{Adds}
use Rattle.responder_machine.specs.Setup.{RspSetup}
use Rattle.responder_machine.specs.Turn.{Effect, Turn, answer_in, code_in, handle_in, request_in, takes}
use Rattle.responder_machine.specs.Turn.Effect.{NoEffect, Took, TookData}
use Rattle.check_laws.proofs.TurnShown.{inside_allowed}
use Rattle.check_laws.specs.AnswersShown.{LeadsAt, values_shown_by}
use Rattle.check_laws.specs.DropsShown.{dropped_for}
use Rattle.check_laws.specs.LargeShown.{ends_large, last_shown}
use Rattle.check_fetched_laws.proofs.ExchangeWhole.{Exchanges, ExchangesBy, IsExchangeOf, apart_shows, turn_exchange}
use Rattle.check_fetched_laws.proofs.ExchangeWhole.ExchangesBy.{Plainly, ByChunks}
use Rattle.check_fetched_laws.proofs.LastShown.{last_back, last_is}
use Rattle.check_fetched_laws.proofs.WholeDrops.{entry_led, entry_shown}
use Rattle.check_fetched_laws.specs.ClearApart.{IsLastApart, LastApartIsShown}
use Rattle.check_fetched_laws.specs.ClearSessions.{AreGets}
use Rattle.check_fetched_laws.specs.LastShown.{drops_with}
use Rattle.check_responder.specs.WholeAnswers.{clear_whole}
use Rattle.check_fetched_laws.specs.WholeValues.{values_with_whole}
use Rattle.capture_machine.proofs.DropsTell.{clear_form, turns_stay}
use Rattle.capture_machine.proofs.FetchedSessions.{takes_with}
use Rattle.capture_machine.proofs.PlacesServed.{named_clear}
use Rattle.capture_machine.specs.CapturedAnswers.{MayHaveLed, MayLeadTo, MayLeadToEntry, answer_at}
use Rattle.capture_machine.specs.Difference.{CompletesApart, is_apart, verify_size}
use Rattle.capture_machine.specs.LargeAnswers.{begun_with, effect_with, gives_last, handle_shown, is_unseen_effect, is_untouched, judging, place_named, seen, seen_turn, touches, with_large}

-- ---- The request.

unseen_not : (a b c : Bool) → (a && not (b || c)) ≡ true → b ≡ false
unseen_not true true c is = absurd (false≢true is)
unseen_not true false c is = refl
unseen_not false b c is = absurd (false≢true is)

get_seen : (t : Turn) → (takes CHUNK_GET t && not (is_unseen_effect t.effect || is_some (handle_in t.effect))) ≡ true → is_unseen_effect t.effect ≡ false
get_seen t is = unseen_not (takes CHUNK_GET t) (is_unseen_effect t.effect) (is_some (handle_in t.effect)) is

module _ (r : RspSetup) (other dropped : List ℕ) where
  led_in : (gets : List Entry) (h : History) → AreGets gets → MayHaveLed r None other dropped (gets ++ h) → MayHaveLed r None other dropped h
  led_in [] h are led = led
  led_in (Clear tag t d ∷ gets) h are led = led_in gets h are.1 (subst (λ (b : Bool). MatchBool b (MayLeadToEntry r dropped (gets ++ h) (seen other (Clear tag t d))) (MayHaveLed r None other dropped (gets ++ h))) (get_seen t are.0) led)
  led_in (Sealed tag m t reply d ∷ gets) h are led = absurd (false≢true are.0)
  led_in (Queued bytes ∷ gets) h are led = absurd (false≢true are.0)
  led_in (Ticked seconds ∷ gets) h are led = absurd (false≢true are.0)
  led_in (Dropped id ∷ gets) h are led = absurd (false≢true are.0)

  led_out : (gets : List Entry) (h : History) → AreGets gets → MayHaveLed r None other dropped h → MayHaveLed r None other dropped (gets ++ h)
  led_out [] h are led = led
  led_out (Clear tag t d ∷ gets) h are led =
      subst (λ (b : Bool). MatchBool b (MayLeadToEntry r dropped (gets ++ h) (seen other (Clear tag t d))) (MayHaveLed r None other dropped (gets ++ h))) (sym (get_seen t are.0)) (led_out gets h are.1 led)
  led_out (Sealed tag m t reply d ∷ gets) h are led = absurd (false≢true are.0)
  led_out (Queued bytes ∷ gets) h are led = absurd (false≢true are.0)
  led_out (Ticked seconds ∷ gets) h are led = absurd (false≢true are.0)
  led_out (Dropped id ∷ gets) h are led = absurd (false≢true are.0)

untouched : (gets : List Entry) (tag : ℕ) (t : Turn) (d : Draw) (before : History) (id : Option ℕ) → AreGets gets → is_unseen_effect t.effect ≡ true → is_untouched None id (gets ++ Clear tag t d ∷ before) ≡ true
untouched [] tag t d before id are un = ap (λ (b : Bool). cond b true (not (touches id (Clear tag t d)) && is_untouched None id before)) un
untouched (Clear tag' t' d' ∷ gets) tag t d before None are un =
    ap (λ (b : Bool). cond b true (is_untouched None None (gets ++ Clear tag t d ∷ before))) (get_seen t' are.0) ∙ untouched gets tag t d before None are.1 un
untouched (Clear tag' t' d' ∷ gets) tag t d before (Some id) are un =
    ap (λ (b : Bool). cond b true (is_untouched None (Some id) (gets ++ Clear tag t d ∷ before))) (get_seen t' are.0) ∙ untouched gets tag t d before (Some id) are.1 un
untouched (Sealed tag' m t' reply d' ∷ gets) tag t d before id are un = absurd (false≢true are.0)
untouched (Queued bytes ∷ gets) tag t d before id are un = absurd (false≢true are.0)
untouched (Ticked seconds ∷ gets) tag t d before id are un = absurd (false≢true are.0)
untouched (Dropped which ∷ gets) tag t d before id are un = absurd (false≢true are.0)

-- ---- The negotiation.

abbrev settled_at : Turn → Negotiation → ℕ → Negotiation
settled_at t n code =
    cond (code == GET_VERSION) (record no_negotiation { get_version = request_in t.effect; version = answer_in t.effect })
    (cond (code == GET_CAPABILITIES) (record n { get_capabilities = request_in t.effect; capabilities = answer_in t.effect })
    (cond (code == NEGOTIATE_ALGORITHMS) (record n { negotiate_algorithms = request_in t.effect; algorithms = answer_in t.effect }) n))

pub code_settles : (t : Turn) (ts : List Turn) (code : ℕ) → code_in t.effect ≡ code → settled_at t (negotiation_of ts) code ≡ negotiation_of ts → negotiation_of (t ∷ ts) ≡ negotiation_of ts
code_settles t ts code is stays = ap (settled_at t (negotiation_of ts)) is ∙ stays

pub gets_settle : (gets : List Entry) (h : History) → AreGets gets → negotiation_of (clear_turns (gets ++ h)) ≡ negotiation_of (clear_turns h)
gets_settle [] h are = refl
gets_settle (Clear tag t d ∷ gets) h are =
    code_settles t (clear_turns (gets ++ h)) CHUNK_GET (eqb-true (code_in t.effect) CHUNK_GET (and_first (takes CHUNK_GET t) _ are.0)) refl ∙ gets_settle gets h are.1
gets_settle (Sealed tag m t reply d ∷ gets) h are = absurd (false≢true are.0)
gets_settle (Queued bytes ∷ gets) h are = absurd (false≢true are.0)
gets_settle (Ticked seconds ∷ gets) h are = absurd (false≢true are.0)
gets_settle (Dropped id ∷ gets) h are = absurd (false≢true are.0)

-- ---- What other bytes show.

answer_seen : (w : List ℕ) (k : ℕ) (e : Effect) → is_unseen_effect e ≡ true → answer_in (effect_with w (Some k) e) ≡ w
answer_seen w k NoEffect is = absurd (false≢true is)
answer_seen w k (Took a m old large) is = refl
answer_seen w k (TookData bytes old) is = absurd (false≢true is)

large_seen : (w : List ℕ) (k : ℕ) (e : Effect) → is_unseen_effect e ≡ true → is_some (handle_in (effect_with w (Some k) e)) ≡ true
large_seen w k NoEffect is = absurd (false≢true is)
large_seen w k (Took a m old large) is = refl
large_seen w k (TookData bytes old) is = absurd (false≢true is)

bytes_are : (r : RspSetup) (p : Place) (m : List ℕ) (f : Free) (whole : List ℕ) → IsExchangeOf r p m f whole → answer_bytes r p m f ≡ whole
unfolding answer_bytes
bytes_are r p m f whole of = ap (answer_to r p m f) of.asks ∙ sym of.answers

module _ (r : RspSetup) (byte : r.beat < 256) (before : History) (tag : ℕ) (t : Turn) (dr : Draw) (un : is_unseen_effect t.effect ≡ true) (whole other : List ℕ) (code : slice_index other 1 ≡ PSK_EXCHANGE_RSP) (size : ℕ) (apart : is_apart size other whole ≡ true) where
  -- The entry with these bytes.
  abbrev with_bytes : List ℕ → Entry
  with_bytes w = Clear tag (seen_turn w t) dr

  -- The request leads to the other bytes, after some drops and at some values.
  module _ (ids : List ℕ) (v : Free) (leads : LeadsAt r (with_dropped before ids) tag (clear_body t.message) (Adds (with_bytes other)) v) where
    abbrev g : History
    g = with_dropped before ids

    abbrev p : Place
    p = clear_place g

    turn_is : turn_of r p t.message v ≡ seen_turn other t
    turn_is = elim (clear_form r g tag t.message v (Adds (with_bytes other)) leads.2) [
      | inl same ↦ absurd (let x = same.1 in cc)
      | inr adds ↦ cc adds
    ]

    answered : answer_in (turn_of r p t.message v).effect ≡ other
    answered = ap (λ (x : Turn). answer_in x.effect) turn_is ∙ answer_seen other (handle_shown t) t.effect un

    exchanges : Exchanges r p t.message v (turn_of r p t.message v) (chunk_in (request_at p t.message))
    exchanges = turn_exchange r v p t.message (ap (λ (l : List ℕ). slice_index l 1 == PSK_EXCHANGE_RSP) answered ∙ eq-eqb (slice_index other 1) PSK_EXCHANGE_RSP code)

    -- It is PSK_EXCHANGE.
    pub code_is : code_in t.effect ≡ PSK_EXCHANGE
    code_is = eqb-true (code_in t.effect) PSK_EXCHANGE (sym (takes_with other (Some (handle_shown t)) PSK_EXCHANGE t) ∙ eq-eqb (code_in (seen_turn other t).effect) PSK_EXCHANGE (ap (λ (x : Turn). code_in x.effect) (sym turn_is) ∙ exchanges.code))

    module _ (sized : hash_len (place_terms p) ≡ size) where
      here : is_apart (hash_len (place_terms p)) other whole ≡ true
      here = ap (λ (n : ℕ). is_apart n other whole) sized ∙ apart

      alike_by : (c : Option ChunkMessage) → length (answer_at r p t.message v c) ≤ MAX_MESSAGE_SIZE → ExchangesBy r p t.message v (answer_in (turn_of r p t.message v).effect) c
          → ((k : Free) → clear_whole p t.message k whole c ≡ clear_whole p t.message k other c) × (id_in_exchange whole ≡ id_in_exchange other)
      alike_by c short (Plainly none of) =
          let exchange = subst (IsExchangeOf r p t.message v) answered of in
          let brief = subst (λ (o : Option ChunkMessage). length (answer_at r p t.message v o) ≤ MAX_MESSAGE_SIZE) none short in
          let few : length other ≤ MAX_MESSAGE_SIZE = subst (λ (l : List ℕ). length l ≤ MAX_MESSAGE_SIZE) (bytes_are r p t.message v other exchange) brief in
          let alike = apart_shows r g p t.message v byte leads.0 whole other exchange few here in
          (λ k. subst (λ (o : Option ChunkMessage). clear_whole p t.message k whole o ≡ clear_whole p t.message k other o) (sym none) (alike.values k), alike.id)
      alike_by c short (ByChunks chunk some of) =
          let text : List ℕ = joined_with (under_way (chunks_of p.turns)) chunk in
          let exchange = subst (IsExchangeOf r (inside p) text v) answered of in
          let brief = subst (λ (o : Option ChunkMessage). length (answer_at r p t.message v o) ≤ MAX_MESSAGE_SIZE) some short in
          let few : length other ≤ MAX_MESSAGE_SIZE = subst (λ (l : List ℕ). length l ≤ MAX_MESSAGE_SIZE) (bytes_are r (inside p) text v other exchange) brief in
          let alike = apart_shows r g (inside p) text v byte (inside_allowed g p v leads.0) whole other exchange few here in
          (λ k. subst (λ (o : Option ChunkMessage). clear_whole p t.message k whole o ≡ clear_whole p t.message k other o) (sym some) (alike.values k), alike.id)

      alike : ((k : Free) → clear_whole p t.message k whole (chunk_in (request_at p t.message)) ≡ clear_whole p t.message k other (chunk_in (request_at p t.message))) × (id_in_exchange whole ≡ id_in_exchange other)
      alike = alike_by (chunk_in (request_at p t.message)) leads.1 exchanges.by

      -- Both show the same values and the same drops.
      same_values : (sent : List ℕ) → values_with_whole r g tag (clear_body t.message) sent whole ≡ values_with_whole r g tag (clear_body t.message) sent other
      unfolding values_with_whole
      same_values sent = alike.0 (values_shown_by r g tag (clear_body t.message) sent)

      same_drops : drops_with before (with_bytes whole) ≡ drops_with before (with_bytes other)
      same_drops =
          let at : Bool → ℕ → List ℕ = λ b id. cond b (dropped_for before (Some id)) [] in
          ap (λ (b : Bool). at b (id_in_exchange (answer_in (seen_turn whole t).effect))) (takes_with whole (Some (handle_shown t)) PSK_EXCHANGE t ∙ sym (takes_with other (Some (handle_shown t)) PSK_EXCHANGE t))
          ∙ ap (at (takes PSK_EXCHANGE (seen_turn other t)))
          (ap id_in_exchange (answer_seen whole (handle_shown t) t.effect un) ∙ alike.1 ∙ ap id_in_exchange (sym (answer_seen other (handle_shown t) t.effect un)))

  -- By what the other bytes show, and by what these show.
  abbrev sent : List ℕ
  sent = clear_body t.reply

  abbrev LeadsBy : (by drops : List ℕ) → Type 0
  LeadsBy by drops = let h = with_dropped before drops in LeadsAt r h tag (clear_body t.message) (Adds (with_bytes other)) (values_with_whole r h tag (clear_body t.message) sent by)

  module _ (sized : code_in t.effect ≡ PSK_EXCHANGE → hash_len (terms_of (negotiation_of (clear_turns before))) ≡ size) where
    sized_at : (ids : List ℕ) (v : Free) → LeadsAt r (with_dropped before ids) tag (clear_body t.message) (Adds (with_bytes other)) v → hash_len (place_terms (clear_place (with_dropped before ids))) ≡ size
    sized_at ids v leads = ap (λ (l : List Turn). hash_len (terms_of (negotiation_of l))) (turns_stay ids before) ∙ sized (code_is ids v leads)

    pub to_whole : LeadsBy other (drops_with before (with_bytes other)) → LeadsBy whole (drops_with before (with_bytes whole))
    to_whole leads =
        let ids : List ℕ = drops_with before (with_bytes other) in
        let v : Free = values_with_whole r (with_dropped before ids) tag (clear_body t.message) sent other in
        let is = sized_at ids v leads in
        subst (LeadsBy whole) (sym (same_drops ids v leads is)) (subst (LeadsAt r (with_dropped before ids) tag (clear_body t.message) (Adds (with_bytes other))) (sym (same_values ids v leads is sent)) leads)

    pub to_other : LeadsBy whole (drops_with before (with_bytes whole)) → LeadsBy other (drops_with before (with_bytes other))
    to_other leads =
        let ids : List ℕ = drops_with before (with_bytes whole) in
        let v : Free = values_with_whole r (with_dropped before ids) tag (clear_body t.message) sent whole in
        let is = sized_at ids v leads in
        subst (LeadsBy other) (same_drops ids v leads is) (subst (LeadsAt r (with_dropped before ids) tag (clear_body t.message) (Adds (with_bytes other))) (same_values ids v leads is sent) leads)

-- ---- The law.

pub last_apart_is_shown : LastApartIsShown
last_apart_is_shown r d round answer whole gets (Clear tag t dr) before byte fetching type are is same = (to_shown, from_shown)
  where
    place : place_named round.body ≡ None
    place = named_clear round.body type

    g : History
    g = with_large (place_named round.body) whole d.responder

    judged : judging d.fetching round.body d.responder ≡ with_large (place_named round.body) whole d.responder
    judged = ap (λ (o : Option (List ℕ)). judging o round.body d.responder) fetching

    sized : code_in t.effect ≡ PSK_EXCHANGE → hash_len (terms_of (negotiation_of (clear_turns before))) ≡ verify_size d
    sized code =
        ap (λ (n : Negotiation). hash_len (terms_of n)) (sym (code_settles t (clear_turns before) PSK_EXCHANGE code refl) ∙ sym (gets_settle gets (Clear tag t dr ∷ before) are))
        ∙ ap (λ (l : History). hash_len (terms_of (negotiation_of (clear_turns l)))) (sym same)

    -- By what the entry with these bytes has as its whole answer, and by these bytes.
    shown_at : (other drops : List ℕ) → let h = with_dropped before drops in LeadsAt r h tag (clear_body t.message) (Adds (Clear tag (seen_turn other t) dr)) (values_with_whole r h tag (clear_body t.message) (clear_body t.reply) (answer_in (seen_turn other t).effect))
        → LeadsAt r h tag (clear_body t.message) (Adds (Clear tag (seen_turn other t) dr)) (values_with_whole r h tag (clear_body t.message) (clear_body t.reply) other)
    shown_at other drops leads =
        let h : History = with_dropped before drops in
        subst (λ (l : List ℕ). LeadsAt r h tag (clear_body t.message) (Adds (Clear tag (seen_turn other t) dr)) (values_with_whole r h tag (clear_body t.message) (clear_body t.reply) l)) (answer_seen other (handle_shown t) t.effect is.0) leads

    shown_back : (other drops : List ℕ) → let h = with_dropped before drops in LeadsAt r h tag (clear_body t.message) (Adds (Clear tag (seen_turn other t) dr)) (values_with_whole r h tag (clear_body t.message) (clear_body t.reply) other)
        → LeadsAt r h tag (clear_body t.message) (Adds (Clear tag (seen_turn other t) dr)) (values_with_whole r h tag (clear_body t.message) (clear_body t.reply) (answer_in (seen_turn other t).effect))
    shown_back other drops leads =
        let h : History = with_dropped before drops in
        subst (λ (l : List ℕ). LeadsAt r h tag (clear_body t.message) (Adds (Clear tag (seen_turn other t) dr)) (values_with_whole r h tag (clear_body t.message) (clear_body t.reply) l)) (sym (answer_seen other (handle_shown t) t.effect is.0)) leads

    to_shown : CompletesApart r d round answer → IsLastApart r d.responder round answer whole (Clear tag t dr) before (verify_size d)
    to_shown c =
        let all : c.0 ≡ whole = same_Some c.0 whole (sym c.4 ∙ fetching) in
        let other : List ℕ = c.1 in
        let may = subst (λ (l : History). MayLeadTo r l round.tag round.body (Adds c.3)) judged c.5 in
        let gives = subst (λ (l : History). gives_last l c.3 ≡ true) judged c.6 in
        let it = last_is r (with_large (place_named round.body) whole d.responder) round.tag round.body byte c.3 answer may gives c.7 in
        let apart = subst (λ (l : List ℕ). is_apart (verify_size d) other l ≡ true) all c.10 in
        let led = led_in r other c.2 gets (Clear tag t dr ∷ before) are (subst (MayHaveLed r None other c.2) same (subst (λ (o : Option ℕ). MayHaveLed r o other c.2 d.responder) place c.8)) in
        let entry = subst (λ (b : Bool). MatchBool b (MayLeadToEntry r c.2 before (seen other (Clear tag t dr))) (MayHaveLed r None other c.2 before)) is.0 led in
        let shown = (entry_shown r before byte (Clear tag (seen_turn other t) dr) (large_seen other (handle_shown t) t.effect is.0) c.2 entry).1 in
        record {
          leads = subst (λ (o : Outcome). LeadsAt r (with_large (place_named round.body) whole d.responder) round.tag round.body o (values_shown_by r (with_large (place_named round.body) whole d.responder) round.tag round.body answer)) (sym it.1) it.0;
          last = subst (λ (o : Outcome). ends_large (with_large (place_named round.body) whole d.responder) o ≡ true) (sym it.1) gives;
          body = ap body_of it.1 ∙ c.7;
          other = other;
          led = to_whole r byte before tag t dr is.0 whole other c.9 (verify_size d) apart sized (shown_at other (drops_with before (Clear tag (seen_turn other t) dr)) shown);
          code = c.9;
          apart = apart;
        }

    from_shown : IsLastApart r d.responder round answer whole (Clear tag t dr) before (verify_size d) → CompletesApart r d round answer
    from_shown s =
        let other : List ℕ = s.other in
        let e : Entry = Clear tag (seen_turn other t) dr in
        let drops : List ℕ = drops_with before e in
        let last : Outcome = last_shown r (with_large (place_named round.body) whole d.responder) round.tag round.body answer in
        let back = last_back r (with_large (place_named round.body) whole d.responder) round.tag round.body byte last answer s.leads s.last s.body in
        let leads = to_other r byte before tag t dr is.0 whole other s.code (verify_size d) s.apart sized s.led in
        let entry = entry_led r before byte e (large_seen other (handle_shown t) t.effect is.0) drops refl (shown_back other drops leads) in
        let here = subst (λ (b : Bool). MatchBool b (MayLeadToEntry r drops before (seen other (Clear tag t dr))) (MayHaveLed r None other drops before)) (sym is.0) entry in
        let led = led_out r other drops gets (Clear tag t dr ∷ before) are here in (
          whole,
          other,
          drops,
          back.0,
          fetching,
          subst (λ (l : History). MayLeadTo r l round.tag round.body (Adds back.0)) (sym judged) back.2,
          subst (λ (l : History). gives_last l back.0 ≡ true) (sym judged) back.3,
          back.4,
          subst (λ (o : Option ℕ). MayHaveLed r o other drops d.responder) (sym place) (subst (MayHaveLed r None other drops) (sym same) led),
          s.code,
          s.apart,
          subst (λ (o : Option ℕ). is_untouched o (begun_with o other d.responder) d.responder ≡ true) (sym place)
              (subst (λ (l : History). is_untouched None (begun_with None other l) l ≡ true) (sym same) (untouched gets tag t dr before (begun_with None other (gets ++ Clear tag t dr ∷ before)) are is.0)),
        )
last_apart_is_shown r d round answer whole gets (Sealed tag m t reply dr) before byte fetching type are is same = absurd is
last_apart_is_shown r d round answer whole gets (Queued bytes) before byte fetching type are is same = absurd is
last_apart_is_shown r d round answer whole gets (Ticked seconds) before byte fetching type are is same = absurd is
last_apart_is_shown r d round answer whole gets (Dropped id) before byte fetching type are is same = absurd is
