-- Which session was dropped before the request of a large response, the whole answer shows.
use Rattle.std.proofs.Common.{◌≡◌, ◌<◌, ◌==◌, ◌&&◌, ℕ, List, [], ◌∷◌, refl, sym, ap, ◌∙◌, subst, Bool, true, false, Option, Some, None, cond, inl, inr, eqb-true, eq-eqb}
use Rattle.std.specs.Prelude.{MatchBool}
use Rattle.std.proofs.lemmas.Bool.{false≢true}
use Rattle.responder_machine.specs.Handling.{turn_of}
use Rattle.responder_machine.specs.History.{Entry, History}
use Rattle.responder_machine.specs.History.Entry.{Clear, Sealed, Queued, Ticked, Dropped}
use Rattle.responder_machine.specs.May.{MayDrop, with_dropped}
use Rattle.responder_machine.specs.Place.{clear_place, is_held}
use Rattle.responder_machine.specs.Responder.Outcome.{Adds}
use Rattle.responder_machine.specs.Setup.{RspSetup}
use Rattle.responder_machine.specs.Turn.{Effect, Turn, answer_in, takes}
use Rattle.responder_machine.specs.Turn.Effect.{NoEffect, Took, TookData}
use Rattle.spdm_basis.proofs.Bools.{and_first, and_second}
use Rattle.spdm_grammar.specs.declared.names.request_code.TheConstants.{PSK_EXCHANGE}
use Rattle.spdm_machine.specs.Sessions.{id_in_exchange}
use Rattle.check_laws.proofs.DropsShown.{dropped_may, may_drop}
use Rattle.check_laws.specs.DropsShown.{may_be_dropped}
use Rattle.check_fetched_laws.proofs.WholeLed.{whole_is_shown}
use Rattle.check_fetched_laws.specs.LastShown.{IsShownEntry, IsShownWhole, WholeHasLed, drops_of_whole, drops_with}
use Rattle.capture_machine.proofs.DropsTell.{clear_form, fresh_id, held_before}
use Rattle.capture_machine.proofs.PlainTells.{led_clear}
use Rattle.capture_machine.specs.CapturedAnswers.{AreShown, MayHaveLed, MayLeadTo, MayLeadToEntry, request_in, tag_in}
use Rattle.capture_machine.specs.LargeAnswers.{effect_with, handle_shown, is_in, is_large, is_unseen_effect, is_unseen_in, seen}
use Rattle.capture_machine.specs.Rounds.{no_draw}

-- ---- In the clear.

-- Where nothing was dropped, PSK_EXCHANGE_RSP has the id of no session that may be.
none_for : (r : RspSetup) (h : History) (tag : ℕ) (t : Turn) (d : _) → MayLeadTo r h tag (request_in (Clear tag t d)) (Adds (Clear tag t d)) → takes PSK_EXCHANGE t ≡ true → may_be_dropped h (id_in_exchange (answer_in t.effect)) ≡ false
none_for r h tag t d may takes_it = by_drop (may_be_dropped h (id_in_exchange (answer_in t.effect))) refl
  where
    by_drop : (b : Bool) → may_be_dropped h (id_in_exchange (answer_in t.effect)) ≡ b → b ≡ false
    by_drop false is = refl
    by_drop true is =
        let id : ℕ = id_in_exchange (answer_in t.effect) in
        let led = led_clear r h tag (request_in (Clear tag t d)) (Adds (Clear tag t d)) refl may in
        elim (clear_form r h tag t.message led.free (Adds (Clear tag t d)) led.leads) [
          | inl same ↦ absurd (let x = same.1 in cc)
          | inr adds ↦
              let same : turn_of r (clear_place h) t.message led.free ≡ t = cc (sym adds) in
              let u : Turn = turn_of r (clear_place h) t.message led.free in
              let free : is_held h (id_in_exchange (answer_in u.effect)) ≡ false = fresh_id r h t.message led.free _ led.allowed (ap (takes PSK_EXCHANGE) same ∙ takes_it) in
              absurd (false≢true (sym (sym (ap (λ (x : Turn). is_held h (id_in_exchange (answer_in x.effect))) same) ∙ free) ∙ held_before h id (may_drop h id is)))
        ]

module _ (r : RspSetup) (older : History) where
  -- What the entry shows.
  clear_drops : (dropped : List ℕ) (tag : ℕ) (t : Turn) (d : _) → MayLeadToEntry r dropped older (Clear tag t d) → dropped ≡ drops_with older (Clear tag t d)
  clear_drops [] tag t d may = by_code (takes PSK_EXCHANGE t) refl
    where
      by_code : (b : Bool) → takes PSK_EXCHANGE t ≡ b → [] ≡ cond b (cond (may_be_dropped older (id_in_exchange (answer_in t.effect))) (id_in_exchange (answer_in t.effect) ∷ []) []) []
      by_code false is = refl
      by_code true is = sym (ap (λ (b : Bool). cond b (id_in_exchange (answer_in t.effect) ∷ []) []) (none_for r older tag t d may.0.1 is))
  clear_drops (id ∷ []) tag t d may =
      let takes_it : takes PSK_EXCHANGE t ≡ true = and_first _ _ may.1 in
      let same : id_in_exchange (answer_in t.effect) ≡ id = eqb-true _ id (and_second (takes PSK_EXCHANGE t) _ may.1) in
      sym (ap (λ (b : Bool). cond b (cond (may_be_dropped older (id_in_exchange (answer_in t.effect))) (id_in_exchange (answer_in t.effect) ∷ []) []) []) takes_it
      ∙ ap (λ (n : ℕ). cond (may_be_dropped older n) (n ∷ []) []) same ∙ ap (λ (b : Bool). cond b (id ∷ []) []) (dropped_may older id (may.0.0.0, may.0.0.1, tt)))
  clear_drops (id ∷ other ∷ others) tag t d may = absurd may.1

  -- And back.
  clear_back : (tag : ℕ) (t : Turn) (d : _) → let e = Clear tag t d in MayDrop older (drops_with older e) × AreShown r older (request_in e) (Adds e) (drops_with older e)
  clear_back tag t d = by_code (takes PSK_EXCHANGE t) refl
    where
      id : ℕ
      id = id_in_exchange (answer_in t.effect)

      Both : List ℕ → Type 0
      Both l = MayDrop older l × AreShown r older (request_in (Clear tag t d)) (Adds (Clear tag t d)) l

      by_may : (b : Bool) → may_be_dropped older (id_in_exchange (answer_in t.effect)) ≡ b → takes PSK_EXCHANGE t ≡ true
          → MayDrop older (cond b (id_in_exchange (answer_in t.effect) ∷ []) []) × AreShown r older (request_in (Clear tag t d)) (Adds (Clear tag t d)) (cond b (id_in_exchange (answer_in t.effect) ∷ []) [])
      by_may false is takes_it = (tt, tt)
      by_may true is takes_it =
          (may_drop older (id_in_exchange (answer_in t.effect)) is, ap (λ (b : Bool). b && (id_in_exchange (answer_in t.effect) == id_in_exchange (answer_in t.effect))) takes_it ∙ eq-eqb _ _ refl)

      by_code : (b : Bool) → takes PSK_EXCHANGE t ≡ b → let l = cond b (cond (may_be_dropped older (id_in_exchange (answer_in t.effect))) (id_in_exchange (answer_in t.effect) ∷ []) []) [] in
          MayDrop older l × AreShown r older (request_in (Clear tag t d)) (Adds (Clear tag t d)) l
      by_code false is = (tt, tt)
      by_code true is = by_may (may_be_dropped older (id_in_exchange (answer_in t.effect))) refl is

  -- ---- Any entry.

  no_drops : (dropped : List ℕ) (e : Entry) → ((id : ℕ) → AreShown r older (request_in e) (Adds e) (id ∷ []) → ⊥) → AreShown r older (request_in e) (Adds e) dropped → dropped ≡ []
  no_drops [] e none shown = refl
  no_drops (id ∷ []) e none shown = absurd (none id shown)
  no_drops (id ∷ other ∷ others) e none shown = absurd shown

  entry_drops : (dropped : List ℕ) (e : Entry) → MayLeadToEntry r dropped older e → dropped ≡ drops_with older e
  entry_drops dropped (Clear tag t d) may = clear_drops dropped tag t d may
  entry_drops dropped (Sealed tag m t reply d) may = no_drops dropped (Sealed tag m t reply d) (λ id shown. false≢true shown) may.1
  entry_drops dropped (Queued bytes) may = no_drops dropped (Queued bytes) (λ id shown. false≢true shown) may.1
  entry_drops dropped (Ticked seconds) may = no_drops dropped (Ticked seconds) (λ id shown. false≢true shown) may.1
  entry_drops dropped (Dropped which) may = no_drops dropped (Dropped which) (λ id shown. false≢true shown) may.1

  entry_back : (e : Entry) → MayDrop older (drops_with older e) × AreShown r older (request_in e) (Adds e) (drops_with older e)
  entry_back (Clear tag t d) = clear_back tag t d
  entry_back (Sealed tag m t reply d) = (tt, tt)
  entry_back (Queued bytes) = (tt, tt)
  entry_back (Ticked seconds) = (tt, tt)
  entry_back (Dropped which) = (tt, tt)

  module _ (byte : r.beat < 256) (e : Entry) (large : is_large e ≡ true) where
    pub entry_shown : (dropped : List ℕ) → MayLeadToEntry r dropped older e → (dropped ≡ drops_with older e) × IsShownEntry r older e
    entry_shown dropped may =
        let is : dropped ≡ drops_with older e = entry_drops dropped e may in
        let leads : MayLeadTo r (with_dropped older (drops_with older e)) (tag_in e) (request_in e) (Adds e) =
        subst (λ (l : List ℕ). MayLeadTo r (with_dropped older l) (tag_in e) (request_in e) (Adds e)) is may.0.1 in
        (is, (whole_is_shown r (with_dropped older (drops_with older e)) (tag_in e) (request_in e) e byte large).0 leads)

    pub entry_led : (dropped : List ℕ) → dropped ≡ drops_with older e → IsShownEntry r older e → MayLeadToEntry r dropped older e
    entry_led dropped is shown =
        let back = entry_back e in
        let leads = (whole_is_shown r (with_dropped older (drops_with older e)) (tag_in e) (request_in e) e byte large).1 shown in
        subst (λ (l : List ℕ). MayLeadToEntry r l older e) (sym is) ((back.0, leads), back.1)

-- ---- The newest one that was not seen.

effect_large : (whole : List ℕ) (n : ℕ) (x : Effect) → is_unseen_effect x ≡ true → is_large (Clear 0 (record { message = []; refused = None; chunk = None; effect = effect_with whole (Some n) x; reply = [] }) no_draw) ≡ true
effect_large whole n NoEffect is = absurd (false≢true is)
effect_large whole n (Took a m answer large) is = refl
effect_large whole n (TookData bytes answer) is = absurd (false≢true is)

seen_large : (place : Option ℕ) (whole : List ℕ) (e : Entry) → is_unseen_in place e ≡ true → is_large (seen whole e) ≡ true
seen_large place whole (Clear tag t d) is = effect_large whole (handle_shown t) t.effect (and_second (is_in place (Clear tag t d)) _ is)
seen_large place whole (Sealed tag m t reply d) is = effect_large whole (handle_shown t) t.effect (and_second (is_in place (Sealed tag m t reply d)) _ is)
seen_large place whole (Queued bytes) is = absurd (false≢true (and_second (is_in place (Queued bytes)) _ is))
seen_large place whole (Ticked seconds) is = absurd (false≢true (and_second (is_in place (Ticked seconds)) _ is))
seen_large place whole (Dropped which) is = absurd (false≢true (and_second (is_in place (Dropped which)) _ is))

module _ (r : RspSetup) (place : Option ℕ) (whole dropped : List ℕ) (byte : r.beat < 256) where
  shown_by : (e : Entry) (h : History) (b : Bool) → is_unseen_in place e ≡ b → (MayHaveLed r place whole dropped h → (dropped ≡ drops_of_whole place whole h) × IsShownWhole r place whole h)
      → MatchBool b (MayLeadToEntry r dropped h (seen whole e)) (MayHaveLed r place whole dropped h)
      → (dropped ≡ cond b (drops_with h (seen whole e)) (drops_of_whole place whole h)) × MatchBool b (IsShownEntry r h (seen whole e)) (IsShownWhole r place whole h)
  shown_by e h true is rest led = entry_shown r h byte (seen whole e) (seen_large place whole e is) dropped led
  shown_by e h false is rest led = rest led

  led_by : (e : Entry) (h : History) (b : Bool) → is_unseen_in place e ≡ b → ((dropped ≡ drops_of_whole place whole h) × IsShownWhole r place whole h → MayHaveLed r place whole dropped h)
      → (dropped ≡ cond b (drops_with h (seen whole e)) (drops_of_whole place whole h)) × MatchBool b (IsShownEntry r h (seen whole e)) (IsShownWhole r place whole h)
      → MatchBool b (MayLeadToEntry r dropped h (seen whole e)) (MayHaveLed r place whole dropped h)
  led_by e h true is rest shown = entry_led r h byte (seen whole e) (seen_large place whole e is) dropped shown.0 shown.1
  led_by e h false is rest shown = rest shown

  pub shown_from : (h : History) → MayHaveLed r place whole dropped h → (dropped ≡ drops_of_whole place whole h) × IsShownWhole r place whole h
  shown_from [] led = absurd led
  shown_from (e ∷ h) led = shown_by e h (is_unseen_in place e) refl (shown_from h) led

  pub led_from : (h : History) → (dropped ≡ drops_of_whole place whole h) × IsShownWhole r place whole h → MayHaveLed r place whole dropped h
  led_from [] shown = absurd shown.1
  led_from (e ∷ h) shown = led_by e h (is_unseen_in place e) refl (led_from h) shown

pub whole_has_led : WholeHasLed
whole_has_led r place whole dropped h byte = (shown_from r place whole dropped byte h, led_from r place whole dropped byte h)
