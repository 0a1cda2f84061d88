-- Alike dialogues refuse a packet for one reason.
use Rattle.std.proofs.Common.{◌≡◌, ◌==◌, ◌&&◌, ℕ, List, refl, sym, ap, ◌∙◌, subst, drop, Bool, true, Option, Some, None, inl, inr}
use Rattle.std.proofs.lemmas.Option.{none-some}
use Rattle.mctp_framing.specs.Gathering.{Gathered}
use Rattle.mctp_framing.specs.Gathering.Gathered.{Whole, More, Dropped}
use Rattle.requester_machine.specs.History.{outstanding}
use Rattle.requester_machine.specs.Message.{Ask, Sent}
use Rattle.requester_machine.specs.Message.Ask.{AskFinish, AskData, AskBeat, AskUpdate, AskVerify, AskMeasure, AskChunk, AskEnd}
use Rattle.requester_machine.specs.Session.{Steps, session_of, session_terms}
use Rattle.requester_machine.specs.Setup.{ReqSetup}
use Rattle.responder_machine.specs.History as responder_history
use Rattle.responder_machine.specs.Setup.{RspSetup, towards}
use Rattle.spdm_basis.proofs.Bools.{and_first, and_second}
use Rattle.spdm_machine.specs.Packets.{body_type}
use Rattle.spdm_machine.specs.Terms.{hash_len}
use Rattle.check_laws.proofs.AnsweredOn.{answers_on}
use Rattle.check_laws.proofs.GoingOn.{none_fetched, none_sent, owes_same}
use Rattle.check_laws.proofs.KeptAnswers.{kept_is_restored}
use Rattle.check_laws.proofs.KeptParts.{bare, bare_agree, both_owe}
use Rattle.check_laws.proofs.OneWalk.{walks_alike}
use Rattle.check_laws.specs.Keeping.{restored}
use Rattle.check_laws.specs.Refusing.{KeptTellsApart, KeptTellsWhy}
use Rattle.capture_machine.proofs.Agrees.{Agree}
use Rattle.capture_machine.proofs.Alike.{Alike, comes_alike, goes_alike}
use Rattle.capture_machine.proofs.HearsAlike.{SentAlike, padded}
use Rattle.capture_machine.proofs.HearsAlike.SentAlike.{Equal, Padded}
use Rattle.capture_machine.specs.CapturedRequests.{is_later, owes, without_owed}
use Rattle.capture_machine.specs.Difference.{AreRepliesApart, ComesApart, GoesApart, RepliesApart, asks_apart, asks_out_of_turn, finish_in, is_apart, is_finish_apart, is_padded, replies_out_of_turn, verify_size}
use Rattle.capture_machine.specs.Opening.{inner_asking, opens_asking}
use Rattle.requester_machine.specs.Named.{names}
use Rattle.capture_machine.specs.Rounds.{Dialogue, Round}
use Rattle.world_machine.specs.Setup.{known_of}

-- ---- A request.

-- The inner message of PSK_FINISH depends on no padding.
finish_same : (s t : Sent) → SentAlike s t → finish_in (Some s) ≡ finish_in (Some t)
finish_same _ _ (Equal s) = refl
finish_same _ _ (Padded tag psk s id ask inner pad padding) = by_ask ask
  where
    by_ask : (a : Ask) → finish_in (Some (padded tag psk s id a inner pad)) ≡ finish_in (Some (padded tag psk s id a inner padding))
    by_ask AskFinish = refl
    by_ask AskData = refl
    by_ask AskBeat = refl
    by_ask (AskUpdate all) = refl
    by_ask AskVerify = refl
    by_ask (AskMeasure op) = refl
    by_ask (AskChunk op handle number before) = refl
    by_ask AskEnd = refl

-- By the set-up and the session.
abbrev apart_in : ReqSetup → Steps → (sealed finish : List ℕ) → Bool
apart_in q s sealed finish =
    names sealed s && opens_asking q s sealed && is_padded sealed (inner_asking q s sealed) && is_apart (hash_len (session_terms s)) finish (inner_asking q s sealed)

apart_same : (d e : Dialogue) (sealed : List ℕ) (o : Option (ℕ × List ℕ)) → d.setup ≡ e.setup → Agree (without_owed d) (without_owed e) → is_finish_apart d sealed o ≡ is_finish_apart e sealed o
apart_same d e sealed None setup agree = refl
apart_same d e sealed (Some finish) setup agree =
    ap (λ (q : ReqSetup). apart_in q (session_of finish.0 (without_owed d)) sealed finish.1) setup ∙ ap (λ (s : Steps). apart_in e.setup s sealed finish.1) (agree.sessions finish.0)

module _ (d e : Dialogue) (a : Alike d e) (none : d.sending ≡ None) where
  owe_same : is_later d.round (outstanding d.requester) ≡ is_later d.round (outstanding e.requester)
  owe_same = owes_same d.round d.requester e.requester d.sending e.sending a.askers

  agrees : Agree (without_owed d) (without_owed e)
  agrees =
      let P : Option Round → Type 0 = λ o. Agree (without_owed d) (bare o e.requester) in
      subst P a.round (bare_agree d.round d.requester e.requester d.sending e.sending a.askers none owe_same)

  asks_one : (body : List ℕ) → asks_apart d body ≡ true → asks_apart e body ≡ true
  asks_one body apart =
      let first : (body_type body == 6 && owes d) ≡ true = and_first (body_type body == 6 && owes d) _ apart in
      let is : owes d ≡ true = and_second (body_type body == 6) (owes d) first in
      let both = both_owe d.round d.requester e.requester d.sending e.sending a.askers none is in
      let finish : finish_in (outstanding d.requester) ≡ finish_in (outstanding e.requester) = ap finish_in both.2 ∙ finish_same both.0 both.1 both.4 ∙ ap finish_in (sym both.3) in
      let they : owes d ≡ owes e = owe_same ∙ ap (λ (o : Option Round). is_later o (outstanding e.requester)) a.round in
      let same : asks_apart d body ≡ asks_apart e body =
      ap (λ (b : Bool). body_type body == 6 && b && is_finish_apart d (drop 1 body) (finish_in (outstanding d.requester))) they
      ∙ ap (λ (o : Option (ℕ × List ℕ)). body_type body == 6 && owes e && is_finish_apart d (drop 1 body) o) finish
      ∙ ap (λ (b : Bool). body_type body == 6 && owes e && b) (apart_same d e (drop 1 body) (finish_in (outstanding e.requester)) a.setup agrees) in
      sym same ∙ apart

  pub comes_one : (g : Gathered) → ComesApart d g → ComesApart e g
  comes_one (Whole route body) c =
      (ap (λ (o : Option Round). asks_out_of_turn (record d { round = o }) route.owner route.tag body) (sym a.round) ∙ c.0, asks_one body c.1)
  comes_one More c = absurd c
  comes_one (Dropped cause) c = absurd c

-- ---- An answer.

module _ (r : RspSetup) (d e : Dialogue) (a : Alike d e) (none : d.fetching ≡ None) (less : e.fetching ≡ None) where
  replies_one : (round : Round) (answer : List ℕ) → RepliesApart r d round answer → RepliesApart r e round answer
  replies_one round answer c = (
    c.0,
    c.1,
    c.2,
    answers_on r d e round c.0 c.1 c.2 a.responder (none ∙ sym less) c.3,
    c.4,
    ap (λ (h : responder_history.History). is_apart (verify_size (record d { responder = h })) c.0 answer) (sym a.responder) ∙ c.5,
  )

  either_one : (o : Option Round) (answer : List ℕ) → AreRepliesApart r d o answer → AreRepliesApart r e o answer
  either_one None answer c = absurd c
  either_one (Some round) answer (inl c) = inl (replies_one round answer c)
  either_one (Some round) answer (inr c) = absurd (none-some c.0 (sym none ∙ c.4))

  pub goes_one : (g : Gathered) → GoesApart r d g → GoesApart r e g
  goes_one (Whole route body) c = (
    ap (λ (o : Option Round). replies_out_of_turn (record d { round = o }) route.owner route.tag) (sym a.round) ∙ c.0,
    subst (λ (o : Option Round). AreRepliesApart r e o body) a.round (either_one d.round body c.1),
  )
  goes_one More c = absurd c
  goes_one (Dropped cause) c = absurd c

-- ---- From what is kept.

pub kept_tells_why : KeptTellsWhy
kept_tells_why w q older k d g keeps walk =
    let a = (walks_alike w q older d (restored k) walk (kept_is_restored w q older k keeps).0).alike in
    (comes_alike d (restored k) g a, goes_alike (towards w.responder (known_of q)) d (restored k) g a)

pub kept_tells_apart : KeptTellsApart
kept_tells_apart w q older k d g keeps walk =
    let r : RspSetup = towards w.responder (known_of q) in
    let e : Dialogue = restored k in
    let mine = (kept_is_restored w q older k keeps).0 in
    let a = (walks_alike w q older d e walk mine).alike in
    let b = (walks_alike w q older e d mine walk).alike in
    let unsent : d.sending ≡ None = none_sent d.round d.requester e.requester d.sending e.sending a.askers refl in
    let unfetched : d.fetching ≡ None = none_fetched d.fetching e.fetching a.fetches refl in (
      (comes_one d e a unsent g, comes_one e d b refl g),
      (goes_one r d e a unfetched refl g, goes_one r e d b refl unfetched g),
    )
