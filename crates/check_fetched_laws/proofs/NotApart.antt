-- While a large response is fetched no answer in the clear carries PSK_EXCHANGE_RSP.
use Rattle.std.proofs.Common.{◌≡◌, ◌==◌, ℕ, List, [], ◌∷◌, refl, sym, ap, ◌∙◌, subst, drop, Bool, true, false, Option, Some, None, cond, inl, inr}
use Rattle.std.specs.Prelude.{MatchBool, slice_index}
use Rattle.std.proofs.lemmas.Bool.{false≢true}
use Rattle.std.proofs.lemmas.Option.{none-some}
use Rattle.std.proofs.lemmas.Slice.Eq.{bytes_eq-Decides}
use Rattle.spdm_basis.proofs.Bools.{and_second}
use Rattle.spdm_grammar.specs.Message.{ChunkMessage}
use Rattle.spdm_grammar.specs.Message.RequestMessage.{GetVersion}
use Rattle.spdm_grammar.specs.Requests.{canonical_request}
use Rattle.spdm_grammar.specs.declared.names.request_code.TheConstants.{GET_VERSION, PSK_EXCHANGE}
use Rattle.spdm_machine.specs.Bodies.{clear_body}
use Rattle.responder_machine.specs.Answer.{Free, request_at}
use Rattle.responder_machine.specs.Handling.{chunk_in, turn_of}
use Rattle.responder_machine.specs.History.{History, Kept, kept_of}
use Rattle.responder_machine.specs.History.Entry.{Clear, Sealed, Queued, Ticked, Dropped}
use Rattle.responder_machine.specs.May.{with_dropped}
use Rattle.responder_machine.specs.Place.{clear_place}
use Rattle.responder_machine.specs.Refusal.{code_of}
use Rattle.responder_machine.specs.Responder.{Outcome, body_of, is_repeat, kept_reply, on_clear}
use Rattle.responder_machine.specs.Responder.Outcome.{Same, Adds}
use Rattle.responder_machine.specs.Setup.{RspSetup, towards}
use Rattle.responder_machine.specs.Turn.{Turn, is_taken, takes}
use Rattle.check_laws.proofs.CarriedExchange.{turn_carries}
use Rattle.check_fetched_laws.proofs.CarryWalks.{CarriesBy, CarryStand, carried_code, walks_carry}
use Rattle.check_fetched_laws.proofs.LargeHeard.{large_reply}
use Rattle.check_fetched_laws.proofs.LargeWalks.{walks_large}
use Rattle.check_fetched_laws.proofs.ReadyGets.{LargeStand}
use Rattle.check_fetched_laws.proofs.WalksSound.{walk_stands, walks_sound}
use Rattle.check_fetched_laws.specs.ClearApart.{RepliesAreNotApart}
use Rattle.capture_machine.proofs.DropsTell.{kept_same}
use Rattle.capture_machine.proofs.FetchStates.{Getting}
use Rattle.capture_machine.proofs.FetchStates.Getting.{Asks, Repeats, Seals}
use Rattle.capture_machine.proofs.FetchedTells.{ReadsAlways, get_reads, kept_large, version_reads}
use Rattle.capture_machine.proofs.FetchedTold.{Stands}
use Rattle.capture_machine.proofs.PlainTells.{led_clear}
use Rattle.capture_machine.proofs.UnseenStands.{IsClearSince, UnseenStand}
use Rattle.capture_machine.specs.CapturedAnswers.{Answers, MayLeadTo}
use Rattle.capture_machine.specs.Difference.{carries_exchange}
use Rattle.capture_machine.specs.LargeAnswers.{is_unseen_effect, judging, place_named, with_large}
use Rattle.capture_machine.specs.Rounds.{Dialogue, Round, no_draw}
use Rattle.world_machine.specs.Setup.{known_of}

-- ---- The reply of the last request that was taken.

abbrev QuietReply : History → Type 0
QuietReply h = carries_exchange (clear_body (kept_reply (kept_of h))) ≡ false

not_carried : (t : Turn) → CarriesBy t → ((takes PSK_EXCHANGE t ≡ true) × (code_of t.message ≡ GET_VERSION → ⊥) → ⊥) → carries_exchange (clear_body t.reply) ≡ false
not_carried t by never = by_carries (carries_exchange (clear_body t.reply)) refl
  where
    by_carries : (b : Bool) → carries_exchange (clear_body t.reply) ≡ b → b ≡ false
    by_carries false is = refl
    by_carries true is = absurd (never (by is))

taken_quiet : (tag : ℕ) (t : Turn) (d : _) (h : History) → is_taken t ≡ true → carries_exchange (clear_body t.reply) ≡ false → QuietReply (Clear tag t d ∷ h)
taken_quiet tag t d h taken quiet = ap (λ (b : Bool). carries_exchange (clear_body (kept_reply (cond b (Some (record { tag = tag; message = t.message; reply = t.reply })) (kept_of h))))) taken ∙ quiet

idle_quiet : (tag : ℕ) (t : Turn) (d : _) (h : History) → is_taken t ≡ false → QuietReply h → QuietReply (Clear tag t d ∷ h)
idle_quiet tag t d h taken quiet = ap (λ (b : Bool). carries_exchange (clear_body (kept_reply (cond b (Some (record { tag = tag; message = t.message; reply = t.reply })) (kept_of h))))) taken ∙ quiet

large_quiet : (c : Option ChunkMessage) (handle : ℕ) → carries_exchange (clear_body (large_reply c handle)) ≡ false
large_quiet None handle = refl
large_quiet (Some c) handle = refl

-- Since LargeResponse no PSK_EXCHANGE took effect.
since_quiet : (h : History) → UnseenStand h → LargeStand h → CarryStand h → IsClearSince h → QuietReply h
since_quiet [] stand large carry since = absurd since
since_quiet (Clear tag t d ∷ h) stand large carry since = by_unseen (is_unseen_effect t.effect) refl since (λ rest. since_quiet h stand.1 large.1 carry.1 rest)
  where
    by_taken : (b : Bool) → is_taken t ≡ b → takes PSK_EXCHANGE t ≡ false → QuietReply h → QuietReply (Clear tag t d ∷ h)
    by_taken true taken other rest = taken_quiet tag t d h taken (not_carried t carry.0 (λ known. false≢true (sym other ∙ known.0)))
    by_taken false taken other rest = idle_quiet tag t d h taken rest

    by_unseen : (b : Bool) → is_unseen_effect t.effect ≡ b → MatchBool b (Unit {0}) (((takes GET_VERSION t ≡ false) × (takes PSK_EXCHANGE t ≡ false)) × IsClearSince h) → (IsClearSince h → QuietReply h) → QuietReply (Clear tag t d ∷ h)
    by_unseen true un here rest =
        let sent = large.0 un in taken_quiet tag t d h (stand.0.1 un).taken (ap (λ (l : List ℕ). carries_exchange (clear_body l)) sent.sends.reply ∙ large_quiet t.chunk sent.handle)
    by_unseen false un here rest = by_taken (is_taken t) refl here.0.1 (rest here.1)
since_quiet (Sealed tag m t reply d ∷ h) stand large carry since = since_quiet h stand.1 large.1 carry.1 since.1
since_quiet (Queued bytes ∷ h) stand large carry since = absurd stand.0
since_quiet (Ticked seconds ∷ h) stand large carry since = absurd stand.0
since_quiet (Dropped id ∷ h) stand large carry since = since_quiet h stand.1 large.1 carry.1 since.1

-- GET_VERSION again gets what it got.
version_quiet : (h : History) (tag : ℕ) (m : List ℕ) → CarryStand h → is_repeat (kept_of h) tag m ≡ true → code_of m ≡ GET_VERSION → QuietReply h
version_quiet [] tag m carry again code = absurd (false≢true again)
version_quiet (Clear tag' t d ∷ h) tag m carry again code = by_taken (is_taken t) refl (λ rest. version_quiet h tag m carry.1 rest code)
  where
    at : Bool → Option Kept
    at b = cond b (Some (record { tag = tag'; message = t.message; reply = t.reply })) (kept_of h)

    by_taken : (b : Bool) → is_taken t ≡ b → (is_repeat (kept_of h) tag m ≡ true → QuietReply h) → QuietReply (Clear tag' t d ∷ h)
    by_taken true taken rest =
        let here = sym (ap (λ (b : Bool). is_repeat (at b) tag m) taken) ∙ again in
        let same : t.message ≡ m = (bytes_eq-Decides t.message m).0 (and_second (tag' == tag) _ here) in
        taken_quiet tag' t d h taken (not_carried t carry.0 (λ known. known.1 (ap code_of same ∙ code)))
    by_taken false taken rest = idle_quiet tag' t d h taken (rest (sym (ap (λ (b : Bool). is_repeat (at b) tag m) taken) ∙ again))
version_quiet (Sealed tag' m' t reply d ∷ h) tag m carry again code = version_quiet h tag m carry.1 again code
version_quiet (Queued bytes ∷ h) tag m carry again code = version_quiet h tag m carry.1 again code
version_quiet (Ticked seconds ∷ h) tag m carry again code = version_quiet h tag m carry.1 again code
version_quiet (Dropped id ∷ h) tag m carry again code = version_quiet h tag m carry.1 again code

-- ---- An answer.

-- The message is a repeat that is quiet, or neither PSK_EXCHANGE nor CHUNK_SEND.
pub record IsQuietRequest (h : History) (tag : ℕ) (m : List ℕ) : Type 0 where
  pub again : is_repeat (kept_of h) tag m ≡ true → QuietReply h
  pub anew : is_repeat (kept_of h) tag m ≡ false → ReadsAlways m

clear_quiet : (r : RspSetup) (g : History) (tag : ℕ) (m : List ℕ) (f : Free) → IsQuietRequest g tag m → carries_exchange (body_of (on_clear r g tag m f no_draw)) ≡ false
unfolding on_clear
clear_quiet r g tag m f quiet = by_again (is_repeat (kept_of g) tag m) refl
  where
    t : Turn
    t = turn_of r (clear_place g) m f

    turn_quiet : ReadsAlways m → (b : Bool) → carries_exchange (clear_body t.reply) ≡ b → b ≡ false
    turn_quiet reads false is = refl
    turn_quiet reads true is = elim (carried_code r (clear_place g) m f t.reply (chunk_in (request_at (clear_place g) m)) refl (turn_carries r (clear_place g) m f is).0) [
      | inl exchange ↦ absurd (reads.no_exchange exchange)
      | inr chunk ↦ absurd (reads.no_chunk chunk)
    ]

    by_again : (b : Bool) → is_repeat (kept_of g) tag m ≡ b → carries_exchange (body_of (cond b (Same (clear_body (kept_reply (kept_of g)))) (Adds (Clear tag t no_draw)))) ≡ false
    by_again true is = quiet.again is
    by_again false is = turn_quiet (quiet.anew is) (carries_exchange (clear_body t.reply)) refl

version_code : code_of (canonical_request GetVersion) ≡ GET_VERSION
version_code = refl

-- Of a walk.
quiet_stands : (h : History) (whole : List ℕ) (tag : ℕ) (body : List ℕ) → (slice_index body 0 == 5) ≡ true → UnseenStand h → LargeStand h → CarryStand h → Stands h whole tag body → IsQuietRequest h tag (drop 1 body)
quiet_stands h whole tag body type stand large carry (inl is) =
    let reads : ReadsAlways (drop 1 body) = subst (λ (l : List ℕ). ReadsAlways (drop 1 l)) (sym is) version_reads in
    record { again = λ again. version_quiet h tag (drop 1 body) carry again (ap (λ (l : List ℕ). code_of (drop 1 l)) is ∙ version_code); anew = λ other. reads }
quiet_stands h whole tag body type stand large carry (inr fetch) = by_how fetch.how
  where
    by_how : Getting h tag body → IsQuietRequest h tag (drop 1 body)
    by_how (Asks handle number is since) = record { again = λ again. since_quiet h stand large carry since; anew = λ other. subst (λ (l : List ℕ). ReadsAlways (drop 1 l)) (sym is) (get_reads handle number) }
    by_how (Repeats clear again since) = record { again = λ x. since_quiet h stand large carry since; anew = λ other. absurd (false≢true (sym other ∙ again)) }
    by_how (Seals sealed within) = absurd (false≢true (sym sealed ∙ type))

module _ (r : RspSetup) (k : History) (whole : List ℕ) (tag : ℕ) (body : List ℕ) (type : (slice_index body 0 == 5) ≡ true) (quiet : IsQuietRequest k tag (drop 1 body)) where
  -- Neither drops nor the bytes of the large response change what is kept.
  kept_is : (ids : List ℕ) → kept_of (with_dropped (with_large (place_named body) whole k) ids) ≡ kept_of k
  kept_is ids = kept_same ids (with_large (place_named body) whole k) ∙ kept_large (place_named body) whole k

  pub led_quiet : (ids : List ℕ) (o : Outcome) → MayLeadTo r (with_dropped (with_large (place_named body) whole k) ids) tag body o → carries_exchange (body_of o) ≡ false
  led_quiet ids o may =
      let g : History = with_dropped (with_large (place_named body) whole k) ids in
      let led = led_clear r g tag body o type may in
      let same = kept_is ids in
      let here : IsQuietRequest g tag (drop 1 body) = record {
        again = λ again. ap (λ (x : Option Kept). carries_exchange (clear_body (kept_reply x))) same ∙ quiet.again (ap (λ (x : Option Kept). is_repeat x tag (drop 1 body)) (sym same) ∙ again);
        anew = λ other. quiet.anew (ap (λ (x : Option Kept). is_repeat x tag (drop 1 body)) (sym same) ∙ other);
      } in
      ap (λ (x : Outcome). carries_exchange (body_of x)) (sym led.leads) ∙ clear_quiet r g tag (drop 1 body) led.free here

answers_quiet : (r : RspSetup) (d : Dialogue) (whole : List ℕ) (round : Round) (answer : List ℕ) (next : History) (fetching : Option (List ℕ)) → d.fetching ≡ Some whole → (slice_index round.body 0 == 5) ≡ true → IsQuietRequest d.responder round.tag (drop 1 round.body)
    → Answers r d round answer next fetching → carries_exchange answer ≡ false
unfolding Answers
answers_quiet r d whole round answer next fetching is type quiet answers = by_kind answers
  where
    judged : judging d.fetching round.body d.responder ≡ with_large (place_named round.body) whole d.responder
    judged = ap (λ (o : Option (List ℕ)). judging o round.body d.responder) is

    quiet_by : (ids : List ℕ) (o : Outcome) → MayLeadTo r (with_dropped (judging d.fetching round.body d.responder) ids) round.tag round.body o → body_of o ≡ answer → carries_exchange answer ≡ false
    quiet_by ids o may sent =
        ap carries_exchange (sym sent) ∙ led_quiet r d.responder whole round.tag round.body type quiet ids o (subst (λ (l : History). MayLeadTo r (with_dropped l ids) round.tag round.body o) judged may)

    by_kind : Answers r d round answer next fetching → carries_exchange answer ≡ false
    by_kind (inl a) = quiet_by a.0.0 a.0.1 a.0.2.1 a.0.5
    by_kind (inr (inl a)) = quiet_by a.1.0 (Adds a.1.1) a.1.2.1 a.1.5
    by_kind (inr (inr (inl a))) = absurd (none-some whole (sym a.1.0 ∙ is))
    by_kind (inr (inr (inr a))) = quiet_by [] (Adds a.0.2) a.0.4 a.0.7

pub replies_are_not_apart : RepliesAreNotApart
replies_are_not_apart c q older d whole round answer walk fetching at type apart =
    let r : RspSetup = towards c.responder (known_of d.setup) in
    let stands = walk_stands c q older d whole round walk fetching at in
    let quiet = quiet_stands d.responder whole round.tag round.body type (walks_sound c q older d walk).unseen (walks_large c q older d walk) (walks_carry c q older d walk) stands in
    false≢true (sym (answers_quiet r d whole round apart.0 apart.1 apart.2 fetching type quiet apart.3) ∙ apart.4)
