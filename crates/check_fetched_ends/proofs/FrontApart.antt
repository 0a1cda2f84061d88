-- The verify data of the last chunk of a large response whose fetch began late, told of its request as the newest one.
use Rattle.std.proofs.Common.{◌≡◌, ◌≤◌, ◌<◌, ◌==◌, ◌∙◌, ℕ, List, refl, sym, ap, subst, length, Bool, true, false, Option, Some, None, cond, inl, inr, eq-eqb}
use Rattle.std.specs.Prelude.{slice_index}
use Rattle.check_laws.proofs.TurnShown.{inside_allowed}
use Rattle.check_laws.specs.AnswersShown.{LeadsAt}
use Rattle.check_laws.specs.Changes.{IsFew}
use Rattle.chunking.specs.Collecting.{joined_with, under_way}
use Rattle.check_fetched_laws.proofs.ExchangeWhole.{Exchanges, ExchangesBy, IsExchangeOf, apart_shows, turn_exchange}
use Rattle.check_fetched_laws.proofs.ExchangeWhole.ExchangesBy.{Plainly, ByChunks}
use Rattle.check_fetched_laws.proofs.LastApart.{gets_settle, to_other, to_whole}
use Rattle.check_fetched_laws.proofs.WholeDrops.{entry_led, entry_shown}
use Rattle.check_fetched_laws.specs.ClearSessions.{AreGets, IsUnseenRequest}
use Rattle.check_fetched_laws.specs.LastShown.{drops_with}
use Rattle.check_fetched_laws.specs.WholeValues.{values_with_whole}
use Rattle.check_fetched_ends.proofs.FrontLed.{front_is}
use Rattle.check_fetched_ends.proofs.FrontMarked.{begun_is, few_led, large_seen, unmarked_by}
use Rattle.check_fetched_ends.proofs.LastWhole.{answer_seen}
use Rattle.check_fetched_ends.proofs.LateLast.{late_apart}
use Rattle.check_fetched_ends.proofs.LateLed.{gets_since}
use Rattle.check_late_laws.proofs.Late.WalksUndrawn.{AreUndrawn}
use Rattle.check_fetched_ends.specs.Held.{HasGets}
use Rattle.check_fetched_ends.specs.LastHeld.{IsLedApart, hash_at}
use Rattle.check_fetched_ends.specs.LastMarked.{IsUnmarked, begins_touched}
use Rattle.check_fetched_ends.specs.LateApart.{IsLateApart}
use Rattle.check_late_laws.specs.Late.Passed.{StandsBack}
use Rattle.check_late_laws.specs.Late.PassedLast.{touched_by}
use Rattle.check_late_laws.specs.declared.late_fetch.marks.Marks.{Marks}
use Rattle.responder_machine.specs.Answer.{Free, answer_bytes, answer_to, request_at}
use Rattle.responder_machine.specs.Handling.{chunk_in, turn_of}
use Rattle.responder_machine.specs.History.{Entry, History, clear_turns, negotiation_of}
use Rattle.responder_machine.specs.History.Entry.{Clear}
use Rattle.responder_machine.specs.LargeMessages.{chunks_of}
use Rattle.responder_machine.specs.May.{with_dropped}
use Rattle.responder_machine.specs.Place.{Place, clear_place, inside, place_terms}
use Rattle.responder_machine.specs.Responder.{sent_by}
use Rattle.responder_machine.specs.Responder.Outcome.{Adds}
use Rattle.responder_machine.specs.Setup.{RspSetup}
use Rattle.responder_machine.specs.Turn.{Turn, answer_in, takes}
use Rattle.spdm_grammar.specs.Message.{ChunkMessage}
use Rattle.spdm_grammar.specs.declared.names.TheConstants.{MAX_MESSAGE_SIZE}
use Rattle.spdm_grammar.specs.declared.names.request_code.TheConstants.{PSK_EXCHANGE}
use Rattle.spdm_grammar.specs.declared.names.response_code.TheConstants.{PSK_EXCHANGE_RSP}
use Rattle.spdm_machine.specs.Bodies.{clear_body}
use Rattle.spdm_machine.specs.Sessions.{id_in_exchange}
use Rattle.spdm_machine.specs.Terms.{hash_len, terms_of}
use Rattle.transcript.specs.Transcripts.{Negotiation}
use Rattle.capture_machine.proofs.DropsTell.{clear_form, turns_stay}
use Rattle.capture_machine.specs.CapturedAnswers.{MayLeadTo, MayLeadToEntry, answer_at}
use Rattle.capture_machine.specs.Difference.{CompletesApart, is_apart, verify_size}
use Rattle.capture_machine.specs.LargeAnswers.{gives_last, handle_shown, id_begun, is_unseen_effect, judging, place_named, seen, seen_turn}
use Rattle.capture_machine.specs.Rounds.{Dialogue, Round, no_draw}

bytes_are : (r : RspSetup) (p : Place) (m : List ℕ) (f : Free) (whole : List ℕ) → IsExchangeOf r p m f whole → answer_bytes r p m f ≡ whole
unfolding answer_bytes
bytes_are r p m f whole of = ap (answer_to r p m f) of.asks ∙ sym of.answers

-- Bytes that differ in their verify data alone show the same id.
module _ (r : RspSetup) (byte : r.beat < 256) (g : History) (tag : ℕ) (t : Turn) (un : is_unseen_effect t.effect ≡ true) (whole other : List ℕ) (code : slice_index other 1 ≡ PSK_EXCHANGE_RSP)
    (here : is_apart (hash_len (place_terms (clear_place g))) other whole ≡ true) (f : Free) (leads : LeadsAt r g tag (clear_body t.message) (Adds (Clear tag (seen_turn other t) no_draw)) f) where
  abbrev p : Place
  p = clear_place g

  turn_is : turn_of r p t.message f ≡ seen_turn other t
  turn_is = elim (clear_form r g tag t.message f (Adds (Clear tag (seen_turn other t) no_draw)) leads.2) [
    | inl same ↦ absurd (let x = same.1 in cc)
    | inr adds ↦ cc adds
  ]

  answered : answer_in (turn_of r p t.message f).effect ≡ other
  answered = ap (λ (x : Turn). answer_in x.effect) turn_is ∙ answer_seen other (handle_shown t) t.effect un

  exchanges : Exchanges r p t.message f (turn_of r p t.message f) (chunk_in (request_at p t.message))
  exchanges = turn_exchange r f p t.message (ap (λ (l : List ℕ). slice_index l 1 == PSK_EXCHANGE_RSP) answered ∙ eq-eqb (slice_index other 1) PSK_EXCHANGE_RSP code)

  ids_by : (c : Option ChunkMessage) → length (answer_at r p t.message f c) ≤ MAX_MESSAGE_SIZE → ExchangesBy r p t.message f (answer_in (turn_of r p t.message f).effect) c → id_in_exchange whole ≡ id_in_exchange other
  ids_by c short (Plainly none of) =
      let exchange = subst (IsExchangeOf r p t.message f) answered of in
      let brief = subst (λ (o : Option ChunkMessage). length (answer_at r p t.message f o) ≤ MAX_MESSAGE_SIZE) none short in
      let few : length other ≤ MAX_MESSAGE_SIZE = subst (λ (l : List ℕ). length l ≤ MAX_MESSAGE_SIZE) (bytes_are r p t.message f other exchange) brief in
      (apart_shows r g p t.message f byte leads.0 whole other exchange few here).id
  ids_by c short (ByChunks chunk some of) =
      let text : List ℕ = joined_with (under_way (chunks_of p.turns)) chunk in
      let exchange = subst (IsExchangeOf r (inside p) text f) answered of in
      let brief = subst (λ (o : Option ChunkMessage). length (answer_at r p t.message f o) ≤ MAX_MESSAGE_SIZE) some short in
      let few : length other ≤ MAX_MESSAGE_SIZE = subst (λ (l : List ℕ). length l ≤ MAX_MESSAGE_SIZE) (bytes_are r (inside p) text f other exchange) brief in
      (apart_shows r g (inside p) text f byte (inside_allowed g p f leads.0) whole other exchange few here).id

  pub ids_alike : id_in_exchange whole ≡ id_in_exchange other
  ids_alike = ids_by (chunk_in (request_at p t.message)) leads.1 exchanges.by

module _ (r : RspSetup) (byte : r.beat < 256) (tag : ℕ) (t : Turn) (before : History) (unseen : IsUnseenRequest (Clear tag t no_draw)) (v : List ℕ) where
  abbrev asked : Entry
  asked = Clear tag t no_draw

  -- The bytes to which the request leads, and those from which they are apart.
  pub id_apart : (a : IsLedApart r before (Clear tag t no_draw) v (hash_at before)) → id_in_exchange v ≡ id_in_exchange a.other
  id_apart a =
      let ids : List ℕ = drops_with before (seen v asked) in
      let sized : hash_at before ≡ hash_len (place_terms (clear_place (with_dropped before ids))) = sym (ap (λ (l : List Turn). hash_len (terms_of (negotiation_of l))) (turns_stay ids before)) in
      ids_alike r byte (with_dropped before ids) tag t unseen.0 v a.other a.code (subst (λ (n : ℕ). is_apart n a.other v ≡ true) sized a.apart)
      (values_with_whole r (with_dropped before ids) tag (clear_body t.message) (clear_body t.reply) v) a.led

  begun_alike : (a : IsLedApart r before (Clear tag t no_draw) v (hash_at before)) → id_begun (seen v (Clear tag t no_draw)) ≡ id_begun (seen a.other (Clear tag t no_draw))
  begun_alike a = begun_is tag t v unseen ∙ ap (λ (n : ℕ). cond (takes PSK_EXCHANGE t) (Some n) None) (id_apart a) ∙ sym (begun_is tag t a.other unseen)

  pub unmarked_apart : (late : Option Marks) (exchange : Bool) → takes PSK_EXCHANGE t ≡ exchange → begins_touched late exchange v before ≡ false → IsLedApart r before (Clear tag t no_draw) v (hash_at before)
      → IsUnmarked late before (seen v (Clear tag t no_draw))
  unmarked_apart late exchange is none a =
      let g : History = with_dropped before (drops_with before (seen v asked)) in
      unmarked_by late exchange tag t before v unseen is
      (λ psk. subst IsFew (sym (id_apart a)) (few_led r g tag t a.other (values_with_whole r g tag (clear_body t.message) (clear_body t.reply) v) unseen psk a.led)) none

  -- By what the entry has as its whole answer, and by these bytes.
  abbrev LeadsBy : (other drops by : List ℕ) → Type 0
  LeadsBy other drops by = let k = with_dropped before drops in LeadsAt r k tag (clear_body t.message) (Adds (seen other asked)) (values_with_whole r k tag (clear_body t.message) (clear_body t.reply) by)

  shown_at : (other drops : List ℕ) → LeadsBy other drops (answer_in (seen_turn other t).effect) → LeadsBy other drops other
  shown_at other drops leads = subst (LeadsBy other drops) (answer_seen other (handle_shown t) t.effect unseen.0) leads

  shown_back : (other drops : List ℕ) → LeadsBy other drops other → LeadsBy other drops (answer_in (seen_turn other t).effect)
  shown_back other drops leads = subst (LeadsBy other drops) (sym (answer_seen other (handle_shown t) t.effect unseen.0)) leads

  module _ (marks : Marks) (gets : List Entry) (h : History) (has : HasGets (Some marks) tag t gets before h) (undrawn : AreUndrawn h) (are : AreGets gets) (d : Dialogue) (at : d.responder ≡ h) (fetching : d.fetching ≡ Some v) (round : Round) (named : place_named round.body ≡ None) (answer : List ℕ) where
    abbrev s : StandsBack before
    s = has.0.back

    abbrev law : (CompletesApart r d round answer → IsLateApart r d round answer before s v tag) × (IsLateApart r d round answer before s v tag → CompletesApart r d round answer)
    law = late_apart r d round answer gets before s v tag (at ∙ has.1) fetching named (gets_since gets are) has.0.free has.0.anew has.0.other

    entry_is : Clear tag s.turn s.draw ≡ asked
    entry_is = front_is marks tag t gets before h has.0 has.1 undrawn

    size_is : verify_size d ≡ hash_at before
    size_is = ap (λ (l : History). hash_len (terms_of (negotiation_of (clear_turns l)))) (at ∙ has.1) ∙ ap (λ (n : Negotiation). hash_len (terms_of n)) (gets_settle gets before are)

    pub to_apart : CompletesApart r d round answer → IsLedApart r before (Clear tag t no_draw) v (hash_at before) × (touched_by (id_begun (seen v (Clear tag t no_draw))) before ≡ false)
    to_apart c =
        let l = law.0 c in
        let other : List ℕ = l.bytes in
        let led : MayLeadToEntry r l.dropped before (seen other asked) = subst (λ (e : Entry). MayLeadToEntry r l.dropped before (seen other e)) entry_is l.led in
        let shown = (entry_shown r before byte (seen other asked) (large_seen other (handle_shown t) t.effect unseen.0) l.dropped led).1 in
        let apart = subst (λ (n : ℕ). is_apart n other v ≡ true) size_is l.apart in
        let a : IsLedApart r before asked v (hash_at before) = record {
          other = other;
          led = to_whole r byte before tag t no_draw unseen.0 v other l.code (hash_at before) apart (λ code. refl) (shown_at other (drops_with before (seen other asked)) shown);
          code = l.code;
          apart = apart;
        } in
        let none : touched_by (id_begun (seen other asked)) before ≡ false = subst (λ (e : Entry). touched_by (id_begun (seen other e)) before ≡ false) entry_is l.untouched in
        (a, ap (λ (o : Option ℕ). touched_by o before) (begun_alike a) ∙ none)

    pub from_apart : IsLedApart r before (Clear tag t no_draw) v (hash_at before) → touched_by (id_begun (seen v (Clear tag t no_draw))) before ≡ false → (entry : Entry)
        → MayLeadTo r (judging d.fetching round.body d.responder) round.tag round.body (Adds entry) → gives_last (judging d.fetching round.body d.responder) entry ≡ true → sent_by entry ≡ answer → CompletesApart r d round answer
    from_apart a none entry chunk last sent =
        let other : List ℕ = a.other in
        let drops : List ℕ = drops_with before (seen other asked) in
        let leads = to_other r byte before tag t no_draw unseen.0 v other a.code (hash_at before) a.apart (λ code. refl) a.led in
        let led : MayLeadToEntry r drops before (seen other asked) = entry_led r before byte (seen other asked) (large_seen other (handle_shown t) t.effect unseen.0) drops refl (shown_back other drops leads) in
        let free : touched_by (id_begun (seen other asked)) before ≡ false = ap (λ (o : Option ℕ). touched_by o before) (sym (begun_alike a)) ∙ none in
        law.1 (record {
          bytes = other;
          dropped = drops;
          entry = entry;
          chunk = chunk;
          last = last;
          sent = sent;
          led = subst (λ (e : Entry). MayLeadToEntry r drops before (seen other e)) (sym entry_is) led;
          code = a.code;
          apart = subst (λ (n : ℕ). is_apart n other v ≡ true) (sym size_is) a.apart;
          untouched = subst (λ (e : Entry). touched_by (id_begun (seen other e)) before ≡ false) (sym entry_is) free;
        })
