-- What is reported of all bytes of a large response that is held, by the bytes that its request leads to.
use Rattle.std.proofs.Common.{◌≡◌, ◌≤◌, ◌<◌, ◌+◌, ◌==◌, ◌&&◌, ◌∙◌, ℕ, List, [], ◌∷◌, refl, sym, ap, subst, length, arith, Bool, true, false, Option, Some, None, cond, eq-eqb, eqb-true}
use Rattle.std.specs.Prelude.{bytes_eq, not, slice_index}
use Rattle.std.specs.Int.{div_ceil}
use Rattle.std.proofs.lemmas.Bool.{false≢true}
use Rattle.std.proofs.lemmas.Slice.Eq.{bytes_eq-Decides}
use Rattle.check_responder.specs.WholeAnswers.{IsLargeAt, clear_shown}
use Rattle.check_responder.specs.declared.answer_keys.AnswerKeys.{AnswerKeys}
use Rattle.check_responder.specs.declared.judged_responder.JudgedResponder.{JudgedResponder}
use Rattle.chunking.specs.Cutting.{chunk_count, unit_of}
use Rattle.responder_core.specs.Connected as connected
use Rattle.responder_core.specs.declared.connected.Connection.{Connection}
use Rattle.check_fetched_laws.specs.LastShown.{IsShownEntry, drops_with}
use Rattle.check_fetched_laws.proofs.LastBefore.{left_like}
use Rattle.check_fetched_ends.proofs.LastGiven.{joined_all}
use Rattle.check_fetched_ends.proofs.LastWhole as whole_of
use Rattle.check_fetched_ends.proofs.LastWhole.{LeadsTo}
use Rattle.check_fetched_ends.specs.Held.{StandsBefore}
use Rattle.check_fetched_ends.specs.LastHeld.{AreAsked, IsLastOf, IsLedApart, IsLedSo, all_given, count_at, drops_if, hash_at, led_by, left_by, transfer_at}
use Rattle.check_fetched_ends.specs.declared.clear_fetch.held.Held.{Held}
use Rattle.check_fetched_ends.specs.declared.clear_fetch.led.Led.{Led}
use Rattle.check_fetched_ends.specs.declared.clear_fetch.led.Led.TheVariants as led
use Rattle.responder_machine.specs.Answer.{Free}
use Rattle.responder_machine.specs.BoundLaws.{messages_of}
use Rattle.responder_machine.specs.History.{Entry, History, clear_turns, kept_of, negotiation_of}
use Rattle.responder_machine.specs.History.Entry.{Clear, Dropped}
use Rattle.responder_machine.specs.May.{with_dropped}
use Rattle.responder_machine.specs.Responder.{Outcome, after, is_repeat, on_clear}
use Rattle.responder_machine.specs.Setup.{RspSetup}
use Rattle.responder_machine.specs.Turn.{Turn, takes}
use Rattle.spdm_basis.proofs.Bools.{and_first, and_second}
use Rattle.spdm_grammar.specs.declared.names.TheConstants.{MAX_MESSAGE_SIZE}
use Rattle.spdm_grammar.specs.declared.names.request_code.TheConstants.{PSK_EXCHANGE}
use Rattle.spdm_grammar.specs.declared.names.response_code.TheConstants.{PSK_EXCHANGE_RSP}
use Rattle.spdm_machine.specs.Terms.{hash_len, terms_of}
use Rattle.capture_machine.specs.Difference.{is_apart}
use Rattle.capture_machine.specs.LargeAnswers.{is_unseen_effect, seen, with_large}
use Rattle.capture_machine.specs.Rounds.{no_draw}

dropped_few : (ids : List ℕ) (h : History) → messages_of (with_dropped h ids) ≡ messages_of h
dropped_few [] h = refl
dropped_few (id ∷ ids) h = dropped_few ids (Dropped id ∷ h)

bytes_same : (xs ys : List ℕ) → bytes_eq xs ys ≡ true → xs ≡ ys
bytes_same xs ys is = (bytes_eq-Decides xs ys).0 is

same_bytes : (xs ys : List ℕ) → xs ≡ ys → bytes_eq xs ys ≡ true
same_bytes xs ys is = (bytes_eq-Decides xs ys).1 is

apart_long : (size : ℕ) (one other : List ℕ) → is_apart size one other ≡ true → length one ≡ length other
apart_long size one other is = eqb-true (length one) (length other) (and_first (length one == length other) (not (bytes_eq one other)) (and_first (length one == length other && not (bytes_eq one other)) _ is))

module _ (seen_as : JudgedResponder) (keys : AnswerKeys) (held : Held) (r : RspSetup) (h : History) (b : StandsBefore seen_as keys held r h) (byte : r.beat < 256) (tag handle : ℕ) (whole : List ℕ)
    (at : IsLastOf held r b.before b.left (Clear held.tag b.turn no_draw) tag handle whole) where
  abbrev asked : Entry
  asked = Clear held.tag b.turn no_draw

  abbrev gl : History
  gl = left_by b.before b.left asked whole

  abbrev pub values : Free
  values = clear_shown r (left_by b.before b.left (Clear held.tag b.turn no_draw) whole) b.turn.message b.turn.reply whole

  abbrev pub Large : Type 0
  Large = IsLargeAt r (left_by b.before b.left (Clear held.tag b.turn no_draw) whole) held.tag b.turn.message values b.turn.reply

  abbrev To : List ℕ → Type 0
  To other = LeadsTo r byte b.before b.left held.tag b.turn b.unseen b.left_is b.led whole other

  pub anew : is_repeat (kept_of (left_by b.before b.left (Clear held.tag b.turn no_draw) whole)) held.tag b.turn.message ≡ false
  anew = whole_of.anew r byte b.before b.left held.tag b.turn b.unseen b.left_is b.led whole

  pub dropped : (exchange : Bool) (seen : Connection) → takes PSK_EXCHANGE b.turn ≡ exchange → connected.StandsFor seen r (with_dropped b.left (drops_if exchange b.left whole))
      → connected.StandsFor seen r (left_by b.before b.left (Clear held.tag b.turn no_draw) whole)
  dropped exchange seen is stands =
      subst (λ (l : List ℕ). connected.StandsFor seen r (with_dropped b.left l)) (whole_of.drops_are r byte b.before b.left held.tag b.turn b.unseen b.left_is b.led whole exchange is) stands

  pub few : messages_of b.left ≡ messages_of (left_by b.before b.left (Clear held.tag b.turn no_draw) whole)
  few = sym (dropped_few (drops_with b.before (seen whole asked)) b.left)

  to_shown : IsShownEntry r b.before (seen whole asked) → To whole
  to_shown = whole_of.shown_to r byte b.before b.left held.tag b.turn b.unseen b.left_is b.led whole

  to_other : (apart : IsLedApart r b.before asked whole (hash_at b.before)) → To apart.other
  to_other apart = whole_of.other_to r byte b.before b.left held.tag b.turn b.unseen b.left_is b.led whole apart.other apart.led

  -- It is no LargeResponse at these values.
  pub never : (Large → ⊥) → IsLedSo r b.before (Clear held.tag b.turn no_draw) whole led.Other
  never none = (λ shown. none (to_shown shown).large, λ apart. none (to_other apart).large)

  -- It is.
  module _ (large : Large) where
    abbrev pub bytes : List ℕ
    bytes = whole_of.bytes r byte b.before b.left held.tag b.turn b.unseen b.left_is b.led whole large

    leads : To bytes
    leads = whole_of.leads_bytes r byte b.before b.left held.tag b.turn b.unseen b.left_is b.led whole large

    pub short : length bytes ≤ MAX_MESSAGE_SIZE
    short = whole_of.few r byte b.before b.left held.tag b.turn b.unseen b.left_is b.led whole large

    same : (other : List ℕ) → To other → bytes ≡ other
    same other to = whole_of.same_bytes r byte b.before b.left held.tag b.turn b.unseen b.left_is b.led whole bytes other leads to

    -- The connection stands for the request with these bytes.
    pub begun : (seen : Connection) → connected.StandsFor seen r (after (left_by b.before b.left (Clear held.tag b.turn no_draw) whole) (on_clear r (left_by b.before b.left (Clear held.tag b.turn no_draw) whole) held.tag b.turn.message values no_draw))
        → AreAsked seen [] r (Clear held.tag b.turn no_draw ∷ left_by b.before b.left (Clear held.tag b.turn no_draw) whole) bytes tag handle 0
    begun conn stands = record {
      stands =
          subst (connected.StandsFor conn r) (sym (ap (λ (x : Bool). cond x (seen bytes asked ∷ gl) (asked ∷ with_large None bytes gl)) b.unseen.0))
          (subst (λ (o : Outcome). connected.StandsFor conn r (after gl o)) leads.adds stands);
      bytes_are = refl;
    }

    count_is : (other : List ℕ) → count_at (asked ∷ gl) other ≡ chunk_count held.transfer other
    count_is other = ap (λ (t : ℕ). chunk_count t other) (at.transfer other)

    -- There are more chunks of them.
    more_not : (other : List ℕ) → length other ≡ length whole → held.answer.number + 1 < count_at (asked ∷ gl) other → ⊥
    more_not other long more =
        let one = count_is other in
        let two : chunk_count held.transfer other ≡ chunk_count held.transfer whole = ap (λ (n : ℕ). div_ceil (n + 4) (unit_of held.transfer)) long in
        let three = at.last in
        omega (arith, more, one, two, three)

    pub more_other : held.answer.number + 1 < count_at (Clear held.tag b.turn no_draw ∷ left_by b.before b.left (Clear held.tag b.turn no_draw) whole) bytes → IsLedSo r b.before (Clear held.tag b.turn no_draw) whole led.Other
    more_other more = (
      λ shown. more_not bytes (ap length (same whole (to_shown shown))) more,
      λ apart. more_not bytes (ap length (same apart.other (to_other apart)) ∙ apart_long (hash_at b.before) apart.other whole apart.apart) more,
    )

    -- All of them are there.
    module _ (conn : Connection) (given : List ℕ) (asks : AreAsked conn given r (Clear held.tag b.turn no_draw ∷ left_by b.before b.left (Clear held.tag b.turn no_draw) whole) bytes tag handle (count_at (Clear held.tag b.turn no_draw ∷ left_by b.before b.left (Clear held.tag b.turn no_draw) whole) bytes)) where
      given_is : given ≡ bytes
      given_is = asks.bytes_are ∙ joined_all (transfer_at (asked ∷ gl) bytes) bytes (at.give bytes short).wide

      so_by : (equal apart : Bool) → bytes_eq bytes whole ≡ equal → (slice_index bytes 1 == PSK_EXCHANGE_RSP && is_apart (hash_at b.before) bytes whole) ≡ apart
          → IsLedSo r b.before asked whole (cond equal led.Whole (cond apart led.Apart led.Other))
      so_by true apart equal is = whole_of.shown_from r byte b.before b.left held.tag b.turn b.unseen b.left_is b.led whole (subst To (bytes_same bytes whole equal) leads)
      so_by false true other is = (
        λ shown. false≢true (sym other ∙ same_bytes bytes whole (same whole (to_shown shown))),
        record {
          other = bytes;
          led = whole_of.other_from r byte b.before b.left held.tag b.turn b.unseen b.left_is b.led whole bytes leads;
          code = eqb-true (slice_index bytes 1) PSK_EXCHANGE_RSP (and_first _ _ is);
          apart = and_second _ _ is;
        },
      )
      so_by false false other is = (
        λ shown. false≢true (sym other ∙ same_bytes bytes whole (same whole (to_shown shown))),
        λ apart.
            let here : bytes ≡ apart.other = same apart.other (to_other apart) in
            false≢true (
            sym is
            ∙ ap (λ (l : List ℕ). slice_index l 1 == PSK_EXCHANGE_RSP && is_apart (hash_at b.before) l whole) here
            ∙ ap (λ (x : Bool). x && is_apart (hash_at b.before) apart.other whole) (eq-eqb (slice_index apart.other 1) PSK_EXCHANGE_RSP apart.code) ∙ apart.apart),
      )

      hash_is : hash_at b.left ≡ hash_at b.before
      hash_is = ap (λ (l : List Turn). hash_len (terms_of (negotiation_of l))) (left_like asked b.before b.left b.left_is).turns

      pub told : (size : ℕ) (result : Led) → size ≡ hash_at b.left → result ≡ led_by size given whole → IsLedSo r b.before (Clear held.tag b.turn no_draw) whole result
      told size result sized is =
          subst (IsLedSo r b.before asked whole) (sym (is ∙ ap (λ (n : ℕ). led_by n given whole) (sized ∙ hash_is) ∙ ap (λ (l : List ℕ). led_by (hash_at b.before) l whole) given_is))
          (so_by (bytes_eq bytes whole) (slice_index bytes 1 == PSK_EXCHANGE_RSP && is_apart (hash_at b.before) bytes whole) refl refl)

      whole_only : (equal apart : Bool) → cond equal led.Whole (cond apart led.Apart led.Other) ≡ led.Whole → equal ≡ true
      whole_only true apart is = refl
      whole_only false true is = absurd (cc)
      whole_only false false is = absurd (cc)

      pub stands_all : (size : ℕ) (result : Led) → result ≡ led_by size given whole → result ≡ led.Whole → connected.StandsFor conn r (all_given tag handle whole (Clear held.tag b.turn no_draw ∷ left_by b.before b.left (Clear held.tag b.turn no_draw) whole))
      stands_all size result is so =
          let equal = whole_only (bytes_eq given whole) _ (sym is ∙ so) in
          let all : bytes ≡ whole = sym given_is ∙ bytes_same given whole equal in
          subst (λ (l : List ℕ). connected.StandsFor conn r (all_given tag handle l (asked ∷ gl))) all asks.stands
