-- Whether a record is apart from the PSK_FINISH that is owed.
use Rattle.std.proofs.Common.{◌≡◌, ◌≢◌, ◌≤◌, ◌<◌, ◌-◌, ◌^◌, ◌∙◌, ℕ, List, [], ◌∷◌, Bool, true, false, Option, Some, None, refl, sym, ap, subst, length, drop, arith}
use Rattle.std.specs.Prelude.{◌&&◌, is_none}
use Rattle.std.proofs.lemmas.Bool.{and_parts, false≢true}
use Rattle.std.proofs.lemmas.Option.{none-some, same_Some}
use Rattle.requester_core.proofs.OwedClear.{out_last}
use Rattle.requester_core.proofs.OwedSessions.{IsOwed, as_long, is_owed, upon, upon_last}
use Rattle.requester_core.specs.Joined.{StandsFor}
use Rattle.requester_core.specs.Owed.{TookFor, TookLast}
use Rattle.requester_core.specs.OwnRecords.{OpensNamed, opens_own, session_aimed, session_awaited}
use Rattle.requester_core.specs.Slot.{shown_of}
use Rattle.requester_core.specs.declared.joined.RequesterCore.{RequesterCore}
use Rattle.psk_session.specs.Course.{with_asked}
use Rattle.psk_session.specs.OwnRecords.{own_fault, own_inner}
use Rattle.requester_machine.specs.History.{History, outstanding}
use Rattle.requester_machine.specs.Message.{Aim, Ask, Content, Sent, body_of}
use Rattle.requester_machine.specs.Message.Aim.{ByChunks, ForChunk, InSession, Plain}
use Rattle.requester_machine.specs.Message.Ask.{AskFinish, AskData, AskBeat, AskUpdate, AskVerify, AskMeasure, AskChunk, AskEnd}
use Rattle.requester_machine.specs.Message.Content.{Clear, Sealed}
use Rattle.requester_machine.specs.Named.{names}
use Rattle.requester_machine.specs.Order.{IsOrdered, stage_for}
use Rattle.requester_machine.specs.Owed.{with_next}
use Rattle.requester_machine.specs.Records.{sealed_next}
use Rattle.requester_machine.specs.Session.{Steps, is_accepted, request_next, session_of, session_terms, stage_of}
use Rattle.requester_machine.specs.Setup.{ReqSetup}
use Rattle.requester_machine.specs.Shown.{view_of}
use Rattle.spdm_basis.specs.Sizes.{hash_size}
use Rattle.spdm_grammar.specs.declared.messages.choice.Choice.{Choice}
use Rattle.spdm_grammar.specs.declared.told.phase.Stage.{Stage}
use Rattle.spdm_grammar.specs.declared.told.phase.Stage.TheVariants as stage
use Rattle.spdm_grammar.specs.declared.told.session_view.SessionView.{SessionView}
use Rattle.spdm_machine.specs.Bodies.{record_body}
use Rattle.spdm_machine.specs.Terms.{hash_len}
use Rattle.check_requester.proofs.OpensAsking.{few_at, few_test, inner_same, opens_same, unshown, view_is}
use Rattle.check_requester.proofs.SealedRead.{sealed_names, sealed_opens}
use Rattle.check_laws.specs.Keeping.{owing}
use Rattle.check_requester.specs.RefusedRequest.{IsFinishShown, finish_apart, is_handshake}
use Rattle.capture_machine.specs.Difference.{finish_in, is_apart, is_padded}
use Rattle.capture_machine.specs.Opening.{inner_asking, opens_asking}

-- ---- What is owed.

abbrev is_finish : Ask → Bool
is_finish AskFinish = true
is_finish _ = false

finish_none : (tag id : ℕ) (content : Content) (ask : Ask) → is_finish ask ≡ false → finish_in (Some (record { tag = tag; content = content; aim = InSession id ask })) ≡ None
finish_none tag id content AskFinish is = absurd (false≢true (sym is))
finish_none tag id content AskData is = refl
finish_none tag id content AskBeat is = refl
finish_none tag id content (AskUpdate all) is = refl
finish_none tag id content AskVerify is = refl
finish_none tag id content (AskMeasure op) is = refl
finish_none tag id content (AskChunk op handle number before) is = refl
finish_none tag id content AskEnd is = refl

clear_none : (sent : Sent) (aim : Aim) → sent.aim ≡ aim → session_aimed aim ≡ None → finish_in (Some sent) ≡ None
clear_none sent (Plain asked) is none = ap (λ (a : Aim). finish_in (Some (record sent { aim = a }))) is
clear_none sent (ByChunks asked handle number) is none = ap (λ (a : Aim). finish_in (Some (record sent { aim = a }))) is
clear_none sent (ForChunk asked handle number before) is none = ap (λ (a : Aim). finish_in (Some (record sent { aim = a }))) is
clear_none sent (InSession id ask) is none = absurd (none-some id (sym none))

aimed : (aim : Aim) (id : ℕ) → Some id ≡ session_aimed aim → (ask : Ask) × (aim ≡ InSession id ask)
aimed (Plain asked) id is = absurd (none-some id (sym is))
aimed (ByChunks asked handle number) id is = absurd (none-some id (sym is))
aimed (ForChunk asked handle number before) id is = absurd (none-some id (sym is))
aimed (InSession of ask) id is = (ask, ap (λ (n : ℕ). InSession n ask) (sym (same_Some id of is)))

took_last : (bare : History) (aim : Aim) (id : ℕ) (ask : Ask) → aim ≡ InSession id ask → TookFor bare aim → TookLast bare id
took_last bare aim id ask is took = subst (TookFor bare) is took

by_stage : (ask : Ask) → stage_for ask ≡ stage.Handshake → ask ≡ AskFinish
by_stage AskFinish is = refl
by_stage AskData is = absurd (cc)
by_stage AskBeat is = absurd (cc)
by_stage (AskUpdate all) is = absurd (cc)
by_stage AskVerify is = absurd (cc)
by_stage (AskMeasure op) is = absurd (cc)
by_stage (AskChunk op handle number before) is = absurd (cc)
by_stage AskEnd is = absurd (cc)

other_ask : (ask : Ask) → stage_for ask ≢ stage.Handshake → is_finish ask ≡ false
other_ask AskFinish not = absurd (not refl)
other_ask AskData not = refl
other_ask AskBeat not = refl
other_ask (AskUpdate all) not = refl
other_ask AskVerify not = refl
other_ask (AskMeasure op) not = refl
other_ask (AskChunk op handle number before) not = refl
other_ask AskEnd not = refl

stage_shown : (s : Steps) (view : SessionView) → view ≡ view_of s → view.stage ≡ stage_of s
unfolding view_of
stage_shown s view is = ap (λ (v : SessionView). v.stage) is

choice_shown : (s : Steps) (view : SessionView) → view ≡ view_of s → view.choice ≡ (session_terms s).choice
unfolding view_of
choice_shown s view is = ap (λ (v : SessionView). v.choice) is

finish_inv : (tag : ℕ) (aim : Aim) (content : Content) (finish : ℕ × List ℕ) → finish_in (Some (record { tag = tag; content = content; aim = aim })) ≡ Some finish → aim ≡ InSession finish.0 AskFinish
finish_inv tag (InSession id AskFinish) (Sealed sealed inner pad) finish is = ap (λ (p : ℕ × List ℕ). InSession p.0 AskFinish) (same_Some (id, inner) finish is)
finish_inv tag (InSession id AskFinish) (Clear m) finish is = absurd (none-some finish is)
finish_inv tag (InSession id AskData) content finish is = absurd (none-some finish is)
finish_inv tag (InSession id AskBeat) content finish is = absurd (none-some finish is)
finish_inv tag (InSession id (AskUpdate all)) content finish is = absurd (none-some finish is)
finish_inv tag (InSession id AskVerify) content finish is = absurd (none-some finish is)
finish_inv tag (InSession id (AskMeasure op)) content finish is = absurd (none-some finish is)
finish_inv tag (InSession id (AskChunk op handle number before)) content finish is = absurd (none-some finish is)
finish_inv tag (InSession id AskEnd) content finish is = absurd (none-some finish is)
finish_inv tag (Plain asked) content finish is = absurd (none-some finish is)
finish_inv tag (ByChunks asked handle number) content finish is = absurd (none-some finish is)
finish_inv tag (ForChunk asked handle number before) content finish is = absurd (none-some finish is)

pub in_handshake : (s : Stage) → is_handshake s ≡ true → s ≡ stage.Handshake
in_handshake stage.Handshake is = refl
in_handshake stage.Open is = absurd (false≢true is)
in_handshake stage.Verifying is = absurd (false≢true is)

pub not_handshake : (s : Stage) → is_handshake s ≡ false → s ≢ stage.Handshake
not_handshake s is here = false≢true (sym is ∙ ap is_handshake here)

pub long_with : (bare : History) (sent : Sent) → length bare < 2 ^ 64 - 1 → length (with_next (Some sent) bare) < 2 ^ 64 - 1
long_with bare sent short = subst (λ (n : ℕ). n < 2 ^ 64 - 1) (sym (as_long (Some sent) bare)) short

pub owing_long : (o : Option Sent) (h : History) → length h < 2 ^ 64 - 1 → length (owing o h) < 2 ^ 64 - 1
owing_long None h short = short
owing_long (Some sent) h short = long_with h sent short

pub drop_short : (l : List ℕ) → length l ≤ 4161 → length (drop 1 l) ≤ 4160
drop_short [] fits = omega arith
drop_short (x ∷ l) fits = omega (arith, fits)

-- ---- All of four.

first_two : (a b c d : Bool) → a ≡ true → b ≡ true → (a && b && c && d) ≡ (c && d)
first_two true true c d p q = refl
first_two false b c d p q = absurd (false≢true p)
first_two true false c d p q = absurd (false≢true q)

not_two : (a b c d : Bool) → (a && b) ≡ false → (a && b && c && d) ≡ false
not_two true true c d is = absurd (false≢true (sym is))
not_two false b c d is = refl
not_two true false c d is = refl

-- ---- The session of what is owed.

module _ (x : RequesterCore) (q : ReqSetup) (bare : History) (sent : Sent) (took : TookFor bare sent.aim) (stands : StandsFor x q (with_next (Some sent) bare)) where
  awaited : session_awaited (outstanding (with_next (Some sent) bare)) ≡ session_aimed sent.aim
  awaited = ap session_awaited (out_last bare sent.aim sent took)

  pub none_awaited : None ≡ session_awaited (outstanding (with_next (Some sent) bare)) → IsFinishShown (with_next (Some sent) bare) (finish_in (Some sent)) None
  none_awaited is = subst (λ (o : Option (ℕ × List ℕ)). IsFinishShown (with_next (Some sent) bare) o None) (sym (clear_none sent sent.aim refl (sym (is ∙ awaited)))) refl

  pub aimed_at : (id : ℕ) → Some id ≡ session_awaited (outstanding (with_next (Some sent) bare)) → (ask : Ask) × (sent.aim ≡ InSession id ask)
  aimed_at id is = aimed sent.aim id (is ∙ awaited)

  module _ (id : ℕ) (ask : Ask) (aims : sent.aim ≡ InSession id ask) where
    pub its_last : TookLast bare id
    its_last = took_last bare sent.aim id ask aims took

    pub owed : IsOwed q bare (upon bare) id ask sent
    owed = is_owed q bare (upon bare) id ask sent (upon_last bare id ask its_last) aims stands.clear_state.holds

    ordered : IsOrdered (with_asked q.psk (session_of id bare) ask owed.inner owed.pad)
    ordered = subst IsOrdered owed.steps (stands.sessions.orders id).ordered

    pub its_stage : (view : SessionView) → Some view ≡ shown_of (session_of id (with_next (Some sent) bare)) → view.stage ≡ stage_for ask
    its_stage view is =
        let h : History = with_next (Some sent) bare in
        stage_shown (session_of id h) view (view_is (session_of id h) view is) ∙ ap stage_of owed.steps ∙ ordered.0

    as_finish : ask ≡ AskFinish → finish_in (Some sent) ≡ Some (id, owed.inner)
    as_finish is =
        ap (λ (a : Aim). finish_in (Some (record sent { aim = a }))) (aims ∙ ap (InSession id) is) ∙ ap (λ (c : Content). finish_in (Some (record sent { content = c; aim = InSession id AskFinish }))) owed.content_is

    as_other : is_finish ask ≡ false → finish_in (Some sent) ≡ None
    as_other is = ap (λ (a : Aim). finish_in (Some (record sent { aim = a }))) aims ∙ finish_none sent.tag id sent.content ask is

    pub shown_finish : (view : SessionView) → Some view ≡ shown_of (session_of id (with_next (Some sent) bare)) → view.stage ≡ stage.Handshake → IsFinishShown (with_next (Some sent) bare) (finish_in (Some sent)) (Some view)
    shown_finish view is here =
        let finish = as_finish (by_stage ask (sym (its_stage view is) ∙ here)) in
        subst (λ (o : Option (ℕ × List ℕ)). IsFinishShown (with_next (Some sent) bare) o (Some view)) (sym finish) (view, refl, is)

    pub shown_other : (view : SessionView) → Some view ≡ shown_of (session_of id (with_next (Some sent) bare)) → view.stage ≢ stage.Handshake → IsFinishShown (with_next (Some sent) bare) (finish_in (Some sent)) None
    shown_other view is not =
        subst (λ (o : Option (ℕ × List ℕ)). IsFinishShown (with_next (Some sent) bare) o None) (sym (as_other (other_ask ask (λ here. not (its_stage view is ∙ here))))) refl

    pub shown_none : None ≡ shown_of (session_of id (with_next (Some sent) bare)) → ⊥
    shown_none is = false≢true (sym (unshown (session_of id (with_next (Some sent) bare)) is) ∙ ap is_accepted owed.steps ∙ ordered.1)

    pub shown_some : None ≡ shown_of (session_of id (with_next (Some sent) bare)) → IsFinishShown (with_next (Some sent) bare) (finish_in (Some sent)) None
    shown_some is = absurd (shown_none is)

    -- ---- Its record and another.

    pub its_accepted : is_accepted (session_of id bare) ≡ true
    its_accepted = ordered.1

    pub its_body : body_of sent.content ≡ record_body (sealed_next q.psk (session_of id bare) owed.inner owed.pad)
    its_body = ap body_of owed.content_is

    pub own_opens : (rest out : List ℕ) (b : Bool) → rest ≡ drop 1 (body_of sent.content) → length rest ≤ 4160 → OpensNamed q.psk (session_of id bare) rest b out → (b ≡ true) × (out ≡ owed.inner)
    own_opens rest out b is short opens = by_test b opens
      where
        sealed_is : rest ≡ sealed_next q.psk (session_of id bare) owed.inner owed.pad
        sealed_is = is ∙ ap (drop 1) its_body

        opened : (own_fault q.psk (session_of id bare) rest ≡ None) × (own_inner q.psk (session_of id bare) rest ≡ owed.inner)
        opened = sealed_opens q.psk (session_of id bare) owed.inner owed.pad rest short sealed_is

        named : names rest (session_of id bare) ≡ true
        named = sealed_names q.psk (session_of id bare) owed.inner owed.pad rest its_accepted sealed_is

        both : (names rest (session_of id bare) && opens_own q.psk (session_of id bare) rest) ≡ true
        both = ap (λ (c : Bool). c && opens_own q.psk (session_of id bare) rest) named ∙ ap (λ (c : Bool). c && is_none (own_fault q.psk (session_of id bare) rest)) its_accepted ∙ ap is_none opened.0

        by_test : (c : Bool) → OpensNamed q.psk (session_of id bare) rest c out → (c ≡ true) × (out ≡ owed.inner)
        by_test true o = (refl, o.1 ∙ opened.1)
        by_test false o = absurd (false≢true (sym o ∙ both))

    module _ (is_finish_owed : ask ≡ AskFinish) (sealed : List ℕ) where
      its_opens : opens_asking q (session_of id bare) sealed ≡ opens_own q.psk (session_of id bare) sealed
      its_opens = opens_same q (session_of id bare) sealed (few_test (request_next (session_of id bare)) (let few = few_at x.sessions q bare sent took stands.sessions id in omega (arith, few)))

      pub shut_apart : (out : List ℕ) → OpensNamed q.psk (session_of id bare) sealed false out → false ≡ finish_apart q bare sealed (finish_in (Some sent))
      shut_apart out shut =
          let s = session_of id bare in
          let both : (names sealed s && opens_asking q s sealed) ≡ false = ap (λ (b : Bool). names sealed s && b) its_opens ∙ shut in
          sym (ap (finish_apart q bare sealed) (as_finish is_finish_owed) ∙ not_two (names sealed s) (opens_asking q s sealed) _ _ both)

      pub open_apart : (out own : List ℕ) (view : SessionView) → OpensNamed q.psk (session_of id bare) sealed true out → own ≡ owed.inner → Some view ≡ shown_of (session_of id (with_next (Some sent) bare))
          → (is_padded sealed out && is_apart (hash_size view.choice.hash) own out) ≡ finish_apart q bare sealed (finish_in (Some sent))
      open_apart out own view opened own_is is =
          let h : History = with_next (Some sent) bare in
          let s = session_of id bare in
          let two = and_parts (names sealed s) (opens_own q.psk s sealed) opened.0 in
          let inner : out ≡ inner_asking q s sealed = opened.1 ∙ sym (inner_same q s sealed) in
          let choice : view.choice ≡ (session_terms s).choice = choice_shown (session_of id h) view (view_is (session_of id h) view is) ∙ ap (λ (t : Steps). (session_terms t).choice) owed.steps in
          ap (λ (c : Choice). is_padded sealed out && is_apart (hash_size c.hash) own out) choice ∙ ap (λ (l : List ℕ). is_padded sealed out && is_apart (hash_len (session_terms s)) l out) own_is
          ∙ ap (λ (l : List ℕ). is_padded sealed l && is_apart (hash_len (session_terms s)) owed.inner l) inner
          ∙ sym (ap (finish_apart q bare sealed) (as_finish is_finish_owed) ∙ first_two (names sealed s) (opens_asking q s sealed) _ _ two.0 (its_opens ∙ two.1))

  -- What is shown of it.
  pub record IsFinish (view : SessionView) : Type 0 where
    pub id : ℕ
    pub aims : sent.aim ≡ InSession id AskFinish
    pub shown : Some view ≡ shown_of (session_of id (with_next (Some sent) bare))

  pub is_finish_of : (view : SessionView) → IsFinishShown (with_next (Some sent) bare) (finish_in (Some sent)) (Some view) → IsFinish view
  is_finish_of view shown = by_finish (finish_in (Some sent)) refl shown
    where
      by_finish : (o : Option (ℕ × List ℕ)) → finish_in (Some sent) ≡ o → IsFinishShown (with_next (Some sent) bare) o (Some view) → IsFinish view
      by_finish None is none = absurd (none-some view (sym none))
      by_finish (Some finish) is its = record { id = finish.0; aims = finish_inv sent.tag sent.aim sent.content finish is; shown = its.1 ∙ its.2 }

  pub no_finish : (sealed : List ℕ) → IsFinishShown (with_next (Some sent) bare) (finish_in (Some sent)) None → false ≡ finish_apart q bare sealed (finish_in (Some sent))
  no_finish sealed shown = by_finish (finish_in (Some sent)) shown
    where
      by_finish : (o : Option (ℕ × List ℕ)) → IsFinishShown (with_next (Some sent) bare) o None → false ≡ finish_apart q bare sealed o
      by_finish None none = refl
      by_finish (Some finish) its = absurd (none-some its.0 its.1)
