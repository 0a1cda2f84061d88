-- What the request of a large response leads to in the clear at the values that all bytes show, by what is reported of
-- it.
use Rattle.std.proofs.Common.{◌≡◌, ◌≤◌, ◌<◌, ◌==◌, ◌↔◌, ◌∙◌, ℕ, List, [], ◌∷◌, refl, sym, ap, subst, length, Bool, true, false, Option, Some, None, cond, is_some}
use Rattle.std.proofs.lemmas.Bool.{false≢true}
use Rattle.std.specs.Prelude.{slice_index}
use Rattle.check_responder.proofs.ClearJudged.{adds_at, parts_large, repeats_at, shown_anew}
use Rattle.check_responder.specs.ClearAnswers.{given_of}
use Rattle.check_responder.specs.WholeAnswers.{IsLargeAt, clear_shown, clear_whole}
use Rattle.check_responder.specs.declared.given.Given.TheVariants as kinds
use Rattle.check_laws.proofs.LargeFits.{large_fits}
use Rattle.check_laws.specs.AnswersShown.{LeadsAt, clear_values, values_shown_by}
use Rattle.check_laws.specs.DropsShown.{dropped_for}
use Rattle.check_laws.specs.LargeShown.{whole_of}
use Rattle.check_fetched_laws.proofs.BegunJudged.{begins_judging}
use Rattle.check_fetched_laws.specs.ClearApart.{LeadsToOther}
use Rattle.check_fetched_laws.specs.ClearSessions.{IsLeftBy, IsUnseenRequest}
use Rattle.check_fetched_laws.specs.LastShown.{IsShownEntry, drops_with}
use Rattle.check_fetched_laws.specs.WholeValues.{values_with_whole}
use Rattle.check_fetched_laws.proofs.LastBefore.{IsLike, all_like, leads_like, left_like, left_may, like_back, shown_like}
use Rattle.check_fetched_ends.specs.Held.{IsLedTo}
use Rattle.check_fetched_ends.specs.LastHeld.{left_by}
use Rattle.responder_machine.specs.Answer.{Free, request_at}
use Rattle.responder_machine.specs.Handling.{chunk_in, turn_of}
use Rattle.responder_machine.specs.History.{Entry, History, kept_of}
use Rattle.responder_machine.specs.History.Entry.{Clear, Sealed, Queued, Ticked, Dropped}
use Rattle.responder_machine.specs.May.{with_dropped}
use Rattle.responder_machine.specs.Place.{clear_place}
use Rattle.responder_machine.specs.Responder.{Outcome, body_of, is_repeat, on_clear, sent_by}
use Rattle.responder_machine.specs.Responder.Outcome.{Adds}
use Rattle.responder_machine.specs.Setup.{RspSetup}
use Rattle.responder_machine.specs.Turn.{Effect, Turn, answer_in, handle_in, takes}
use Rattle.responder_machine.specs.Turn.Effect.{NoEffect, Took, TookData}
use Rattle.spdm_grammar.specs.declared.names.TheConstants.{MAX_MESSAGE_SIZE}
use Rattle.spdm_grammar.specs.declared.names.request_code.TheConstants.{PSK_EXCHANGE}
use Rattle.spdm_machine.specs.Bodies.{clear_body}
use Rattle.spdm_machine.specs.Sessions.{id_in_exchange}
use Rattle.capture_machine.proofs.DropsTell.{kept_same}
use Rattle.capture_machine.proofs.FetchedSessions.{takes_with}
use Rattle.capture_machine.proofs.PlainTells.{clear_alike, entries_erased, led_clear}
use Rattle.capture_machine.specs.CapturedAnswers.{MayLeadTo}
use Rattle.capture_machine.specs.LargeAnswers.{effect_with, handle_shown, gives_last, is_large, is_unseen_effect, seen, seen_turn, unseen, with_large}
use Rattle.capture_machine.specs.Rounds.{no_draw}

pub answer_seen : (w : List ℕ) (k : ℕ) (e : Effect) → is_unseen_effect e ≡ true → answer_in (effect_with w (Some k) e) ≡ w
answer_seen w k NoEffect is = absurd (false≢true is)
answer_seen w k (Took a m old large) is = refl
answer_seen w k (TookData bytes old) is = absurd (false≢true is)

large_seen : (w : List ℕ) (k : ℕ) (e : Effect) → is_unseen_effect e ≡ true → is_some (handle_in (effect_with w (Some k) e)) ≡ true
large_seen w k NoEffect is = absurd (false≢true is)
large_seen w k (Took a m old large) is = refl
large_seen w k (TookData bytes old) is = absurd (false≢true is)

sent_unseen : (e : Entry) → sent_by (unseen e) ≡ sent_by e
sent_unseen (Clear tag t d) = refl
sent_unseen (Sealed tag m t reply d) = refl
sent_unseen (Queued bytes) = refl
sent_unseen (Ticked seconds) = refl
sent_unseen (Dropped id) = refl

large_only : (g : History) (e : Entry) → given_of g (Adds e) ≡ kinds.Large → is_large e ≡ true
large_only g e is = parts_large (is_large e) (gives_last g e) is

large_given : (g : History) (e : Entry) → is_large e ≡ true → given_of g (Adds e) ≡ kinds.Large
large_given g e is = ap (λ (b : Bool). cond b kinds.Large (cond (gives_last g e) kinds.Last kinds.Whole)) is

-- It is no repeat that adds an entry.
pub adds_anew : (r : RspSetup) (g : History) (tag : ℕ) (m : List ℕ) (f : Free) (e : Entry) → on_clear r g tag m f no_draw ≡ Adds e → is_repeat (kept_of g) tag m ≡ false
adds_anew r g tag m f e adds = by_again (is_repeat (kept_of g) tag m) refl
  where
    by_again : (b : Bool) → is_repeat (kept_of g) tag m ≡ b → b ≡ false
    by_again false is = refl
    by_again true is = absurd (let x = sym (repeats_at r tag m m g f is) ∙ adds in cc)

module _ (r : RspSetup) (byte : r.beat < 256) (before left : History) (tag : ℕ) (t : Turn) (asks : IsUnseenRequest (Clear tag t no_draw)) (leaves : IsLeftBy (Clear tag t no_draw) before left) (led : IsLedTo r before (Clear tag t no_draw)) (whole : List ℕ) where
  abbrev asked : Entry
  asked = Clear tag t no_draw

  abbrev m : List ℕ
  m = t.message

  abbrev ids : List ℕ
  ids = drops_with before (seen whole asked)

  abbrev g : History
  g = with_dropped before ids

  abbrev gl : History
  gl = left_by before left asked whole

  abbrev pub f : Free
  f = clear_shown r (left_by before left (Clear tag t no_draw) whole) t.message t.reply whole

  like : IsLike gl g
  like = all_like ids left before (left_like asked before left leaves)

  -- ---- It is no repeat.

  anew_before : is_repeat (kept_of before) tag m ≡ false
  anew_before =
      let there = led_clear r (with_dropped before led.0) tag (clear_body m) (Adds led.1) refl led.2 in
      sym (ap (λ o. is_repeat o tag m) (kept_same led.0 before)) ∙ adds_anew r (with_dropped before led.0) tag m there.free led.1 there.leads

  pub anew : is_repeat (kept_of (left_by before left (Clear tag t no_draw) whole)) tag t.message ≡ false
  anew = ap (λ o. is_repeat o tag m) (like.kept ∙ kept_same ids before) ∙ anew_before

  anew_here : is_repeat (kept_of g) tag m ≡ false
  anew_here = ap (λ o. is_repeat o tag m) (kept_same ids before) ∙ anew_before

  -- ---- What it leads to.

  abbrev Leads : List ℕ → Type 0
  Leads other = LeadsAt r g tag (clear_body m) (Adds (seen other asked)) (values_with_whole r g tag (clear_body m) (clear_body t.reply) whole)

  values_are : values_with_whole r g tag (clear_body m) (clear_body t.reply) whole ≡ f
  unfolding values_with_whole
  values_are =
      ap (λ (k : Free). clear_whole (clear_place g) m k whole (chunk_in (request_at (clear_place g) m))) (shown_anew r tag m t.reply g anew_here)
      ∙ sym (shown_like gl g like r m t.reply whole)

  -- It is reported so.
  pub record LeadsTo (other : List ℕ) : Type 0 where
    pub large : IsLargeAt r (left_by before left (Clear tag t no_draw) whole) tag t.message f t.reply
    pub adds : on_clear r (left_by before left (Clear tag t no_draw) whole) tag t.message f no_draw ≡ Adds (seen other (Clear tag t no_draw))

  to_told : (other : List ℕ) → Leads other → LeadsTo other
  to_told other leads =
      let there = leads_like g gl (like_back gl g like) r m tag (Adds (seen other asked)) f (subst (LeadsAt r g tag (clear_body m) (Adds (seen other asked))) values_are leads) in
      record {
        large = record {
          answered = record { allowed = there.0; short = there.1; body = ap body_of there.2 };
          large = ap (given_of gl) there.2 ∙ large_given gl (seen other asked) (large_seen other (handle_shown t) t.effect asks.0);
        };
        adds = there.2;
      }

  from_told : (other : List ℕ) → LeadsTo other → Leads other
  from_told other told =
      let at : LeadsAt r gl tag (clear_body m) (Adds (seen other asked)) f = (told.large.answered.allowed, told.large.answered.short, told.adds) in
      subst (LeadsAt r g tag (clear_body m) (Adds (seen other asked))) (sym values_are) (leads_like gl g like r m tag (Adds (seen other asked)) f at)

  -- LargeResponse leads to the request with some bytes.
  module _ (large : IsLargeAt r (left_by before left (Clear tag t no_draw) whole) tag t.message f t.reply) where
    abbrev e : Entry
    e = Clear tag (turn_of r (clear_place gl) m f) no_draw

    added : on_clear r gl tag m f no_draw ≡ Adds e
    added = adds_at r tag m t.reply gl f anew

    big : is_large e ≡ true
    big = large_only gl e (ap (given_of gl) (sym added) ∙ large.large)

    abbrev pub bytes : List ℕ
    bytes = answer_in (turn_of r (clear_place (left_by before left (Clear tag t no_draw) whole)) t.message f).effect

    leads : LeadsAt r g tag (clear_body m) (Adds e) f
    leads = leads_like gl g like r m tag (Adds e) f (large.answered.allowed, large.answered.short, added)

    may : MayLeadTo r g tag (clear_body m) (Adds e)
    unfolding MayLeadTo
    may = (f, leads.0, leads.1, leads.2)

    unseen_is : unseen e ≡ asked
    unseen_is =
        let other = led_clear r (with_dropped before led.0) tag (clear_body m) (Adds led.1) refl led.2 in
        let sent : sent_by e ≡ sent_by led.1 = ap body_of (sym added) ∙ large.answered.body ∙ ap sent_by (sym led.4) ∙ sent_unseen led.1 in
        (entries_erased e led.1 (clear_alike r before ids led.0 tag (clear_body m) (Adds e) (Adds led.1) (led_clear r g tag (clear_body m) (Adds e) refl may) other sent)).0 ∙ led.4

    seen_is : seen bytes asked ≡ e
    seen_is =
        let back : with_large None bytes (unseen e ∷ []) ≡ e ∷ [] = begins_judging r g [] tag (clear_body m) e may big in
        let here : with_large None bytes (asked ∷ []) ≡ e ∷ [] = subst (λ (x : Entry). with_large None bytes (x ∷ []) ≡ e ∷ []) unseen_is back in
        first_is (ap (λ (b : Bool). cond b (seen bytes asked ∷ []) (asked ∷ [])) (sym asks.0) ∙ here)
      where
        first_is : seen bytes asked ∷ [] ≡ e ∷ [] → seen bytes asked ≡ e
        first_is same = cc

    pub leads_bytes : LeadsTo bytes
    leads_bytes = record { large = large; adds = added ∙ ap Adds (sym seen_is) }

    pub few : length bytes ≤ MAX_MESSAGE_SIZE
    few = (large_fits r g tag (clear_body m) e big [] may).2

  -- To one bytes.
  pub same_bytes : (first other : List ℕ) → LeadsTo first → LeadsTo other → first ≡ other
  same_bytes first other a b =
      let same : Adds (seen first asked) ≡ Adds (seen other asked) = sym a.adds ∙ b.adds in
      let entries : seen first asked ≡ seen other asked = cc in
      sym (answer_seen first (handle_shown t) t.effect asks.0) ∙ ap whole_of entries ∙ answer_seen other (handle_shown t) t.effect asks.0

  -- ---- The entry with the bytes.

  pub shown_from : LeadsTo whole → IsShownEntry r before (seen whole (Clear tag t no_draw))
  shown_from told = subst (λ (l : List ℕ). LeadsAt r g tag (clear_body m) (Adds (seen whole asked)) (values_with_whole r g tag (clear_body m) (clear_body t.reply) l)) (sym (answer_seen whole (handle_shown t) t.effect asks.0)) (from_told whole told)

  pub shown_to : IsShownEntry r before (seen whole (Clear tag t no_draw)) → LeadsTo whole
  shown_to shown = to_told whole (subst (λ (l : List ℕ). LeadsAt r g tag (clear_body m) (Adds (seen whole asked)) (values_with_whole r g tag (clear_body m) (clear_body t.reply) l)) (answer_seen whole (handle_shown t) t.effect asks.0) shown)

  pub other_from : (other : List ℕ) → LeadsTo other → LeadsToOther r before (Clear tag t no_draw) whole other
  other_from other told = from_told other told

  pub other_to : (other : List ℕ) → LeadsToOther r before (Clear tag t no_draw) whole other → LeadsTo other
  other_to other leads = to_told other leads

  -- ---- The session that the whole shows as dropped.

  pub drops_are : (exchange : Bool) → takes PSK_EXCHANGE t ≡ exchange → cond exchange (dropped_for left (Some (id_in_exchange whole))) [] ≡ drops_with before (seen whole (Clear tag t no_draw))
  drops_are exchange is =
      ap (λ (b : Bool). cond b (dropped_for left (Some (id_in_exchange whole))) []) (sym is ∙ sym (takes_with whole (Some (handle_shown t)) PSK_EXCHANGE t))
      ∙ by_may
    where
      by_may : cond (takes PSK_EXCHANGE (seen_turn whole t)) (dropped_for left (Some (id_in_exchange whole))) [] ≡ drops_with before (seen whole asked)
      by_may =
          ap (λ (b : Bool). cond (takes PSK_EXCHANGE (seen_turn whole t)) (cond b (id_in_exchange whole ∷ []) []) []) (left_may asked before left leaves (id_in_exchange whole))
          ∙ ap (λ (l : List ℕ). cond (takes PSK_EXCHANGE (seen_turn whole t)) (dropped_for before (Some (id_in_exchange l))) []) (sym (answer_seen whole (handle_shown t) t.effect asks.0))
