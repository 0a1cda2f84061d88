-- What an answer leaves of the capabilities that a responder told, and what a repeat of GET_CAPABILITIES gets.
use Rattle.std.proofs.Common.{◌≡◌, ◌≤◌, ◌==◌, ◌&&◌, ◌∙◌, ℕ, List, [], ◌∷◌, refl, sym, ap, subst, drop, length, Bool, true, false, Option, Some, None, is_some, cond, inl, inr, arith, eqb-true}
use Rattle.std.specs.Prelude.{bytes_eq, slice_index}
use Rattle.std.proofs.lemmas.Bool.{false≢true}
use Rattle.std.proofs.lemmas.Option.{none-some, same_Some}
use Rattle.std.proofs.lemmas.Slice.Eq.{bytes_eq-Decides}
use Rattle.spdm_basis.proofs.Bools.{and_second}
use Rattle.check_late_laws.proofs.Late.CapsAsked.{IsLater}
use Rattle.check_late_laws.proofs.Late.CapsTurns.{IsRefusedShortly, Settling, turn_settles}
use Rattle.check_late_laws.proofs.Late.CapsTurns.Settling.{Renews, Tells, Stays}
use Rattle.check_fetched_laws.proofs.SizesSeen.{SameSizes, session_turns, settled, sizes_seen}
use Rattle.check_fetched_ends.specs.SameChunks.{IsTold}
use Rattle.check_late_laws.proofs.NoCaps.{NoCaps}
use Rattle.check_late_laws.proofs.TurnsBeside.{SameCaps}
use Rattle.responder_machine.proofs.Making.{turn_message}
use Rattle.responder_machine.specs.Answer.{Free}
use Rattle.responder_machine.specs.Handling.{turn_of}
use Rattle.responder_machine.specs.History.{Entry, History, Kept, clear_turns, kept_of, negotiation_of, phase_of}
use Rattle.responder_machine.specs.History.Entry.{Clear, Sealed, Queued, Ticked, Dropped}
use Rattle.responder_machine.specs.May.{with_dropped}
use Rattle.responder_machine.specs.Place.{clear_place}
use Rattle.responder_machine.specs.Refusal.{code_of, sizes_are_known}
use Rattle.responder_machine.specs.Responder.{Outcome, after, body_of, is_repeat, kept_reply, on_clear, sent_by}
use Rattle.responder_machine.specs.Responder.Outcome.{Same, Unopened, Adds}
use Rattle.responder_machine.specs.Setup.{RspSetup}
use Rattle.responder_machine.specs.Turn.{Turn, answer_in, handle_in, is_taken, request_in, takes}
use Rattle.spdm_grammar.specs.declared.names.request_code.TheConstants.{GET_CAPABILITIES, GET_VERSION, NEGOTIATE_ALGORITHMS}
use Rattle.spdm_grammar.specs.declared.told.phase.Phase.{Phase}
use Rattle.spdm_grammar.specs.declared.told.phase.Phase.TheVariants.{Versioned, Capable, Negotiated}
use Rattle.spdm_machine.specs.Bodies.{clear_body}
use Rattle.spdm_machine.specs.Keys.{Draw}
use Rattle.transcript.specs.Transcripts.{Negotiation}
use Rattle.capture_machine.proofs.DropsTell.{clear_form, kept_same, turns_stay}
use Rattle.capture_machine.proofs.FetchedSessions.{takes_with}
use Rattle.capture_machine.proofs.FetchedTells.{kept_large}
use Rattle.capture_machine.proofs.PlainTells.{led_clear, led_record}
use Rattle.capture_machine.proofs.RecordAdds.{record_added}
use Rattle.capture_machine.specs.CapturedAnswers.{MayLeadTo}
use Rattle.capture_machine.specs.LargeAnswers.{is_large, judging, place_named, turn_with, unseen, with_large}
use Rattle.capture_machine.specs.Rounds.{no_draw}

-- ---- Histories with the same turns in the clear.

pub same_by : (l k : List Turn) → l ≡ k → SameSizes l k
same_by l k is = record { phase = ap phase_of is; caps = record { asked = ap (λ (x : List Turn). (negotiation_of x).get_capabilities) is; told = ap (λ (x : List Turn). (negotiation_of x).capabilities) is } }

pub both : (l k j : List Turn) → SameSizes l k → SameSizes k j → SameSizes l j
both l k j one two = record { phase = one.phase ∙ two.phase; caps = record { asked = one.caps.asked ∙ two.caps.asked; told = one.caps.told ∙ two.caps.told } }

-- With some bytes as a large response.
pub large_sizes : (place : Option ℕ) (w : List ℕ) (h : History) → NoCaps h → SameSizes (clear_turns (with_large place w h)) (clear_turns h)
large_sizes None w h caps = sizes_seen w h caps
large_sizes (Some id) w h caps = same_by _ _ (session_turns id w h)

pub told_same : (h g : History) (a b : List ℕ) → SameSizes (clear_turns g) (clear_turns h) → IsTold h a b → IsTold g a b
told_same h g a b same told = record { known = ap sizes_are_known same.phase ∙ told.known; asked = same.caps.asked ∙ told.asked; told = same.caps.told ∙ told.told }

-- ---- What a repeat gets.

-- Where the request that a repeat is compared with is GET_CAPABILITIES, its reply was told last.
abbrev pub KeptCaps : History → Type 0
KeptCaps h = (kept : Kept) → kept_of h ≡ Some kept → (code_of kept.message == GET_CAPABILITIES) ≡ true → IsTold h kept.message kept.reply

pub kept_caps_same : (h g : History) → kept_of g ≡ kept_of h → SameSizes (clear_turns g) (clear_turns h) → KeptCaps h → KeptCaps g
kept_caps_same h g is same all kept at code = told_same h g kept.message kept.reply same (all kept (sym is ∙ at) code)

-- ---- One turn in the clear.

phase_behind : (a b c : Bool) (z : Phase) → a ≡ false → sizes_are_known z ≡ true → sizes_are_known (cond a Versioned (cond b Capable (cond c Negotiated z))) ≡ true
phase_behind true b c z is known = absurd (false≢true (sym is))
phase_behind false true c z is known = refl
phase_behind false false true z is known = refl
phase_behind false false false z is known = known

phase_told : (a b c : Bool) (z : Phase) → a ≡ false → b ≡ true → sizes_are_known (cond a Versioned (cond b Capable (cond c Negotiated z))) ≡ true
phase_told true b c z is told = absurd (false≢true (sym is))
phase_told false true c z is told = refl
phase_told false false c z is told = absurd (false≢true told)

caps_behind : (a b c : Bool) (t : Turn) (n : Negotiation) → a ≡ false → b ≡ false → SameCaps (settled a b c t n) n
caps_behind true b c t n is apart = absurd (false≢true (sym is))
caps_behind false true c t n is apart = absurd (false≢true (sym apart))
caps_behind false false true t n is apart = record { asked = refl; told = refl }
caps_behind false false false t n is apart = record { asked = refl; told = refl }

caps_told : (a b c : Bool) (t : Turn) (n : Negotiation) → a ≡ false → b ≡ true → ((settled a b c t n).get_capabilities ≡ request_in t.effect) × ((settled a b c t n).capabilities ≡ answer_in t.effect)
caps_told true b c t n is told = absurd (false≢true (sym is))
caps_told false true c t n is told = (refl, refl)
caps_told false false c t n is told = absurd (false≢true told)

module _ (tag : ℕ) (t : Turn) (d : Draw) (g : History) where
  abbrev next : History
  next = Clear tag t d ∷ g

  abbrev newest : Kept
  newest = record { tag = tag; message = t.message; reply = t.reply }

  told_behind : (a b : List ℕ) → takes GET_VERSION t ≡ false → takes GET_CAPABILITIES t ≡ false → IsTold g a b → IsTold next a b
  told_behind a b version caps told =
      let same = caps_behind (takes GET_VERSION t) (takes GET_CAPABILITIES t) (takes NEGOTIATE_ALGORITHMS t) t (negotiation_of (clear_turns g)) version caps in
      record {
        known = phase_behind (takes GET_VERSION t) (takes GET_CAPABILITIES t) (takes NEGOTIATE_ALGORITHMS t) (phase_of (clear_turns g)) version told.known;
        asked = same.asked ∙ told.asked;
        told = same.told ∙ told.told;
      }

  told_now : (m : List ℕ) → takes GET_VERSION t ≡ false → takes GET_CAPABILITIES t ≡ true → request_in t.effect ≡ m → answer_in t.effect ≡ t.reply → IsTold next m t.reply
  told_now m version caps asked answered =
      let now = caps_told (takes GET_VERSION t) (takes GET_CAPABILITIES t) (takes NEGOTIATE_ALGORITHMS t) t (negotiation_of (clear_turns g)) version caps in
      record {
        known = phase_told (takes GET_VERSION t) (takes GET_CAPABILITIES t) (takes NEGOTIATE_ALGORITHMS t) (phase_of (clear_turns g)) version caps;
        asked = now.0 ∙ asked;
        told = now.1 ∙ answered;
      }

  module _ (m : List ℕ) (message : t.message ≡ m) where
    not_version : code_of m ≡ GET_VERSION → (code_of m == GET_CAPABILITIES) ≡ true → ⊥
    not_version version caps = false≢true (ap (λ (n : ℕ). n == GET_CAPABILITIES) (sym version) ∙ caps)

    told_newest : Settling (phase_of (clear_turns g)) m t → (code_of m == GET_CAPABILITIES) ≡ true → is_taken t ≡ true → IsTold next m t.reply
    told_newest (Renews version taken) code is = absurd (not_version version code)
    told_newest (Tells early taken version caps asked answered whole) code is = told_now m version caps asked answered
    told_newest (Stays version caps short) code is = absurd (false≢true (sym (short code).refused ∙ is))

    told_older : Settling (phase_of (clear_turns g)) m t → (a b : List ℕ) → is_taken t ≡ false → IsTold g a b → IsTold next a b
    told_older (Renews version taken) a b not told = absurd (false≢true (sym not ∙ taken))
    told_older (Tells early taken version caps asked answered whole) a b not told = absurd (false≢true (sym not ∙ taken))
    told_older (Stays version caps short) a b not told = told_behind a b version caps told

    kept_turn : Settling (phase_of (clear_turns g)) m t → KeptCaps g → KeptCaps next
    kept_turn settles all kept at code = by_taken (is_taken t) refl at
      where
        by_taken : (b : Bool) → is_taken t ≡ b → cond b (Some newest) (kept_of g) ≡ Some kept → IsTold next kept.message kept.reply
        by_taken true taken is =
            let own : newest ≡ kept = same_Some newest kept is in
            let words : m ≡ kept.message = sym message ∙ ap (λ (k : Kept). k.message) own in
            let reply : t.reply ≡ kept.reply = ap (λ (k : Kept). k.reply) own in
            subst (λ (l : List ℕ). IsTold next kept.message l) reply (subst (λ (l : List ℕ). IsTold next l t.reply) words (told_newest settles (ap (λ (l : List ℕ). code_of l == GET_CAPABILITIES) words ∙ code) taken))
        by_taken false not is = told_older settles kept.message kept.reply not (all kept is code)

    -- Where it is no GET_VERSION, what was told stays.
    stays_turn : Settling (phase_of (clear_turns g)) m t → (a b : List ℕ) → (code_of m == GET_VERSION) ≡ false → IsTold g a b → IsTold next a b
    stays_turn (Renews version taken) a b later told = absurd (false≢true (sym later ∙ ap (λ (n : ℕ). n == GET_VERSION) version))
    stays_turn (Tells early taken version caps asked answered whole) a b later told = absurd (false≢true (ap sizes_are_known (sym early) ∙ told.known))
    stays_turn (Stays version caps short) a b later told = told_behind a b version caps told

    -- CAPABILITIES in answer to GET_CAPABILITIES are told from then on.
    tells_turn : Settling (phase_of (clear_turns g)) m t → (code_of m == GET_CAPABILITIES) ≡ true → length t.reply ≡ 20 → IsTold next m t.reply
    tells_turn (Renews version taken) code long = absurd (not_version version code)
    tells_turn (Tells early taken version caps asked answered whole) code long = told_now m version caps asked answered
    tells_turn (Stays version caps short) code long = absurd (let few = (short code).short in omega (arith, few, long))

-- A turn whose large response was not seen.
unseen_settles : (phase : Phase) (m : List ℕ) (t : Turn) → is_some (handle_in t.effect) ≡ true → Settling phase m t → Settling phase m (turn_with [] None t)
unseen_settles phase m t large (Renews version taken) = Renews version taken
unseen_settles phase m t large (Tells early taken version caps asked answered whole) = absurd (false≢true (sym whole ∙ large))
unseen_settles phase m t large (Stays version caps short) =
    Stays (takes_with [] None GET_VERSION t ∙ version) (takes_with [] None GET_CAPABILITIES t ∙ caps) (λ same. record { refused = (short same).refused; short = (short same).short })

-- ---- An answer.

-- What is reported after it.
pub record Behind (h next : History) (body answer : List ℕ) : Type 0 where
  pub kept : KeptCaps next
  pub stays : IsLater body → (a b : List ℕ) → IsTold h a b → IsTold next a b
  pub tells : (slice_index body 0 == 5) ≡ true → (code_of (drop 1 body) == GET_CAPABILITIES) ≡ true → length (drop 1 answer) ≡ 20 → IsTold next (drop 1 body) (drop 1 answer)

module _ (r : RspSetup) (k g h : History) (tag : ℕ) (body : List ℕ) (judged : SameSizes (clear_turns k) (clear_turns g)) (under : SameSizes (clear_turns g) (clear_turns h)) (keeps : kept_of g ≡ kept_of h) (all : KeptCaps h) where
  abbrev m : List ℕ
  m = drop 1 body

  here : KeptCaps g
  here = kept_caps_same h g keeps under all

  turn_behind : (t : Turn) → t.message ≡ m → (slice_index body 0 == 5) ≡ true → Settling (phase_of (clear_turns g)) m t → Behind h (Clear tag t no_draw ∷ g) body (clear_body t.reply)
  turn_behind t message type settles = record {
    kept = kept_turn tag t no_draw g m message settles here;
    stays = λ later a b told. stays_turn tag t no_draw g m message settles a b (later type) (told_same h g a b under told);
    tells = λ clear code long. tells_turn tag t no_draw g m message settles code long;
  }

  settles_here : (f : Free) → Settling (phase_of (clear_turns g)) m (turn_of r (clear_place k) m f)
  settles_here f = subst (λ (x : Phase). Settling x m (turn_of r (clear_place k) m f)) judged.phase (turn_settles r k m f)

  record_behind : (n : ℕ) (sealed : List ℕ) (t : Turn) (reply : List ℕ) (answer : List ℕ) → (slice_index body 0 == 5) ≡ false → Behind h (Sealed n sealed t reply no_draw ∷ g) body answer
  record_behind n sealed t reply answer type = record {
    kept = kept_caps_same h (Sealed n sealed t reply no_draw ∷ g) keeps under all;
    stays = λ later a b told. told_same h (Sealed n sealed t reply no_draw ∷ g) a b under told;
    tells = λ clear code long. absurd (false≢true (sym type ∙ clear));
  }

  sealed_behind : (n : ℕ) (sealed : List ℕ) (t : Turn) (reply : List ℕ) (e : Entry) → Sealed n sealed t reply no_draw ≡ e → (slice_index body 0 == 5) ≡ false → Behind h (e ∷ g) body (sent_by e)
  sealed_behind n sealed t reply e is type = subst (λ (x : Entry). Behind h (x ∷ g) body (sent_by x)) is (record_behind n sealed t reply (sent_by (Sealed n sealed t reply no_draw)) type)

  sealed_unseen : (n : ℕ) (sealed : List ℕ) (t : Turn) (reply : List ℕ) (e : Entry) → Sealed n sealed t reply no_draw ≡ e → (slice_index body 0 == 5) ≡ false → Behind h (unseen e ∷ g) body (sent_by e)
  sealed_unseen n sealed t reply e is type =
      subst (λ (x : Entry). Behind h (unseen x ∷ g) body (sent_by x)) is (record_behind n sealed (turn_with [] None t) reply (sent_by (Sealed n sealed t reply no_draw)) type)

  -- An entry.
  pub entry_behind : (e : Entry) → MayLeadTo r k tag body (Adds e) → Behind h (e ∷ g) body (sent_by e)
  entry_behind e may = by_type (slice_index body 0 == 5) refl
    where
      by_type : (b : Bool) → (slice_index body 0 == 5) ≡ b → Behind h (e ∷ g) body (sent_by e)
      by_type true type =
          let led = led_clear r k tag body (Adds e) type may in
          elim (clear_form r k tag m led.free (Adds e) led.leads) [
            | inl same ↦ absurd (let x = same.1 in cc)
            | inr adds ↦
                let is : Clear tag (turn_of r (clear_place k) m led.free) no_draw ≡ e = cc (sym adds) in
                subst (λ (x : Entry). Behind h (x ∷ g) body (sent_by x)) is (turn_behind (turn_of r (clear_place k) m led.free) (turn_message r (clear_place k) m led.free) type (settles_here led.free))
          ]
      by_type false type =
          let led = led_record r k tag body (Adds e) type may in
          sealed_behind tag m _ _ e (record_added r led.free tag m e k led.leads) type

  -- One whose large response was not seen.
  pub unseen_behind : (e : Entry) → MayLeadTo r k tag body (Adds e) → is_large e ≡ true → Behind h (unseen e ∷ g) body (sent_by e)
  unseen_behind e may large = by_type (slice_index body 0 == 5) refl
    where
      by_type : (b : Bool) → (slice_index body 0 == 5) ≡ b → Behind h (unseen e ∷ g) body (sent_by e)
      by_type true type =
          let led = led_clear r k tag body (Adds e) type may in
          elim (clear_form r k tag m led.free (Adds e) led.leads) [
            | inl same ↦ absurd (let x = same.1 in cc)
            | inr adds ↦
                let t : Turn = turn_of r (clear_place k) m led.free in
                let is : Clear tag t no_draw ≡ e = cc (sym adds) in
                subst (λ (x : Entry). Behind h (unseen x ∷ g) body (sent_by x)) is
                (turn_behind (turn_with [] None t) (turn_message r (clear_place k) m led.free) type (unseen_settles (phase_of (clear_turns g)) m t (ap is_large is ∙ large) (settles_here led.free)))
          ]
      by_type false type =
          let led = led_record r k tag body (Adds e) type may in
          sealed_unseen tag m _ _ e (record_added r led.free tag m e k led.leads) type

-- A repeat in the clear.
repeat_told : (h : History) (o : Option Kept) (tag : ℕ) (m : List ℕ) → kept_of h ≡ o → is_repeat o tag m ≡ true → KeptCaps h → (code_of m == GET_CAPABILITIES) ≡ true → IsTold h m (kept_reply o)
repeat_told h None tag m at again all code = absurd (false≢true again)
repeat_told h (Some kept) tag m at again all code =
    let same : kept.message ≡ m = (bytes_eq-Decides kept.message m).0 (and_second (kept.tag == tag) (bytes_eq kept.message m) again) in
    subst (λ (l : List ℕ). IsTold h l kept.reply) same (all kept at (ap (λ (l : List ℕ). code_of l == GET_CAPABILITIES) same ∙ code))

same_form : (r : RspSetup) (k : History) (tag : ℕ) (m : List ℕ) (f : Free) (b : List ℕ) → on_clear r k tag m f no_draw ≡ Same b → (is_repeat (kept_of k) tag m ≡ true) × (b ≡ clear_body (kept_reply (kept_of k)))
unfolding on_clear
same_form r k tag m f b is = by_repeat (is_repeat (kept_of k) tag m) is
  where
    by_repeat : (x : Bool) → cond x (Same (clear_body (kept_reply (kept_of k)))) (Adds (Clear tag (turn_of r (clear_place k) m f) no_draw)) ≡ Same b → (x ≡ true) × (b ≡ clear_body (kept_reply (kept_of k)))
    by_repeat true same = (refl, cc same)
    by_repeat false same = absurd (cc same)

-- Whatever a body leads to, but for an entry.
module _ (r : RspSetup) (k g h : History) (tag : ℕ) (body : List ℕ) (judges : kept_of k ≡ kept_of h) (under : SameSizes (clear_turns g) (clear_turns h)) (keeps : kept_of g ≡ kept_of h) (all : KeptCaps h) where
  pub same_behind : (b : List ℕ) → MayLeadTo r k tag body (Same b) → Behind h g body b
  same_behind b may = record {
    kept = kept_caps_same h g keeps under all;
    stays = λ later x y told. told_same h g x y under told;
    tells = λ clear code long.
        let led = led_clear r k tag body (Same b) clear may in
        let form = same_form r k tag (drop 1 body) led.free b led.leads in
        let told = repeat_told h (kept_of h) tag (drop 1 body) refl (ap (λ (o : Option Kept). is_repeat o tag (drop 1 body)) (sym judges) ∙ form.0) all code in
        let reply : kept_reply (kept_of h) ≡ drop 1 b = ap kept_reply (sym judges) ∙ ap (drop 1) (sym form.1) in
        subst (λ (l : List ℕ). IsTold g (drop 1 body) l) reply (told_same h g (drop 1 body) (kept_reply (kept_of h)) under told);
  }

  pub unopened_behind : (b : List ℕ) → MayLeadTo r k tag body (Unopened b) → Behind h g body b
  unopened_behind b may = record {
    kept = kept_caps_same h g keeps under all;
    stays = λ later x y told. told_same h g x y under told;
    tells = λ clear code long.
        let led = led_clear r k tag body (Unopened b) clear may in
        elim (clear_form r k tag (drop 1 body) led.free (Unopened b) led.leads) [
          | inl same ↦ absurd (let x = same.1 in cc)
          | inr adds ↦ absurd (cc adds)
        ];
  }
