-- What the program's tests of the keys of answers tell.
use Rattle.std.proofs.Common.{◌≡◌, ◌<◌, ◌≤◌, ◌==◌, ◌&&◌, ◌||◌, ◌-◌, ◌^◌, ◌∙◌, ℕ, List, [], refl, sym, ap, subst, drop, Bool, true, false, Option, Some, None, is_none, cond, arith}
use Rattle.std.proofs.lemmas.Bool.{false≢true}
use Rattle.std.proofs.lemmas.Bool.Decides.{nat_tests}
use Rattle.std.specs.Prelude.{nat_lt, not, slice_index}
use Rattle.responder_core.specs.OwnAnswers.{IsNextKey, IsReplyKey, opens_in}
use Rattle.key_schedule.specs.Purpose.{Purpose}
use Rattle.responder_machine.specs.Answer.{Free}
use Rattle.responder_machine.specs.Heard.{view_of}
use Rattle.responder_machine.specs.History.{History, ended_of}
use Rattle.responder_machine.specs.Records.{reply_number, reply_purpose, response_purpose}
use Rattle.responder_machine.specs.Responder.{repeats}
use Rattle.responder_machine.specs.Session.{Events, id_bytes, is_live, last_of, response_next, session_terms}
use Rattle.responder_machine.specs.Setup.{RspSetup}
use Rattle.responder_machine.specs.Turn.{Turn}
use Rattle.responder_session.specs.OwnAnswers.{IsAnswerKey, IsKeyOfNext, IsKeyOfReply}
use Rattle.responder_session.specs.declared.answer_key.AnswerKey.{AnswerKey}
use Rattle.spdm_grammar.specs.declared.messages.choice.Choice.{Choice}
use Rattle.spdm_grammar.specs.declared.told.session_view.SessionView.{SessionView}
use Rattle.spdm_machine.specs.Keys.{record_fault}
use Rattle.check_responder.specs.AnswerKeys.{IsComingKey, IsKeyOfTurn, is_taken_in, session_named, will_take}
use Rattle.check_responder.specs.Opening.{IsByKey}
use Rattle.capture_machine.specs.Opening.{any_free, opens_again, opens_ended, opens_in_session, opens_next, opens_to, turn_in}

-- Whether bytes open under a key is reported so.
abbrev pub OpensBy : AnswerKey → (sealed : List ℕ) → Bool → Type 0
OpensBy key sealed b = (choice : Choice) (p : Purpose) (number : ℕ) (id : List ℕ) → IsAnswerKey key choice p number id → b ≡ is_none (record_fault choice p number id sealed)

-- ---- The answer to a turn.

pub reply_opens : (r : RspSetup) (s : Events) (t : Turn) (sealed : List ℕ) (key : AnswerKey) (b : Bool) → IsKeyOfReply key r.psk s t → OpensBy key sealed b → b ≡ opens_to r s t sealed
unfolding opens_to
reply_opens r s t sealed key b its opens = opens (session_terms s).choice (reply_purpose r.psk s t) (reply_number s t) (id_bytes s) its

-- What is reported of the key of such an answer, where it opens so.
pub reply_key : (r : RspSetup) (s : Events) (t : Turn) (sealed : List ℕ) (key : AnswerKey) (is : Bool) → IsKeyOfReply key r.psk s t → opens_to r s t sealed ≡ is → IsByKey (Some key) sealed is
unfolding opens_to
reply_key r s t sealed key is its same = ((session_terms s).choice, reply_purpose r.psk s t, reply_number s t, id_bytes s, its, sym same)

pub kept_opens : (r : RspSetup) (s : Events) (t : Turn) (sealed : List ℕ) (kept : Option AnswerKey) (key : AnswerKey) (b : Bool) → kept ≡ Some key → IsKeyOfTurn r s t kept → OpensBy key sealed b → b ≡ opens_to r s t sealed
kept_opens r s t sealed kept key b is its opens = reply_opens r s t sealed key b (subst (IsKeyOfTurn r s t) is its) opens

pub no_key : {A : Type 0} (r : RspSetup) (s : Events) (t : Turn) (kept : Option AnswerKey) → kept ≡ None → IsKeyOfTurn r s t kept → A
no_key r s t kept none its = absurd (subst (IsKeyOfTurn r s t) none its)

-- ---- The next answer of a session.

pub none_next : (r : RspSetup) (s : Events) (sealed : List ℕ) → s ≡ [] → false ≡ opens_next r s sealed
unfolding opens_next
none_next r s sealed none = sym (ap (λ (e : Events). opens_next r e sealed) none)

over : (live x : Bool) (n : ℕ) → 65536 ≤ n → false ≡ (live && nat_lt n 65536 && x)
over true x n most = sym (ap (λ (b : Bool). b && x) (high n most))
  where
    high : (n : ℕ) → 65536 ≤ n → nat_lt n 65536 ≡ false
    high n most = grind (arith, nat_tests)
over false x n most = refl

pub spent_next : (r : RspSetup) (s : Events) (sealed : List ℕ) (view : SessionView) → view ≡ view_of s → 65536 ≤ view.response_next → false ≡ opens_next r s sealed
unfolding opens_next view_of
spent_next r s sealed view is most =
    over (is_live s) (is_none (record_fault (session_terms s).choice (response_purpose r.psk s) (response_next s) (id_bytes s) sealed)) (response_next s) (subst (λ (v : SessionView). 65536 ≤ v.response_next) is most)

under : (live b x : Bool) (n : ℕ) → live ≡ true → n < 65536 → b ≡ x → b ≡ (live && nat_lt n 65536 && x)
under true b x n is less same = same ∙ sym (ap (λ (c : Bool). c && x) (low n less))
  where
    low : (n : ℕ) → n < 65536 → nat_lt n 65536 ≡ true
    low n less = grind (arith, nat_tests)
under false b x n is less same = absurd (false≢true is)

next_few : (s : Events) (view : SessionView) → view ≡ view_of s → view.response_next < 65536 → response_next s < 65536
unfolding view_of
next_few s view is less = subst (λ (v : SessionView). v.response_next < 65536) is less

pub fresh_next : (r : RspSetup) (s : Events) (sealed : List ℕ) (view : SessionView) (key : AnswerKey) (b : Bool) → is_live s ≡ true → view ≡ view_of s → view.response_next < 65536 → IsKeyOfNext key r.psk s → OpensBy key sealed b
    → b ≡ opens_next r s sealed
unfolding opens_next
fresh_next r s sealed view key b live is less its opens =
    under (is_live s) b (is_none (record_fault (session_terms s).choice (response_purpose r.psk s) (response_next s) (id_bytes s) sealed)) (response_next s) live (next_few s view is less) (opens (session_terms s).choice (response_purpose r.psk s) (response_next s) (id_bytes s) its)

one_left : (live : Bool) (n : ℕ) → live ≡ true → n < 65536 → (live && not (n == 65536)) ≡ true
one_left true n is less = grind (arith, nat_tests)
one_left false n is less = absurd (false≢true is)

-- There is one where a number is left.
pub some_next : {A : Type 0} (r : RspSetup) (s : Events) (view : SessionView) → is_live s ≡ true → view ≡ view_of s → view.response_next < 65536 → IsNextKey r s None → A
some_next r s view live is less none = absurd (false≢true (sym none ∙ one_left (is_live s) (response_next s) live (next_few s view is less)))

-- ---- An answer in a session, by the request.

module _ (r : RspSetup) (h : History) (s : Events) (request sealed : List ℕ) (b : Bool) where
  abbrev opens_by : Bool → Bool → Bool → Bool
  opens_by ended again opens =
      cond ended (opens_ended r h sealed) (cond again (opens_again r s sealed || opens_next r s sealed) (cond opens (opens_to r s (turn_in r s request) sealed) (opens_next r s sealed)))

  pub by_ended : repeats (ended_of h) request ≡ true → b ≡ opens_ended r h sealed → b ≡ opens_in_session r h s request sealed
  by_ended is told = told ∙ sym (ap (λ (x : Bool). opens_by x (repeats (last_of s) request) (opens_in r s request)) is)

  pub by_again : repeats (ended_of h) request ≡ false → repeats (last_of s) request ≡ true → b ≡ (opens_again r s sealed || opens_next r s sealed) → b ≡ opens_in_session r h s request sealed
  by_again other is told =
      told ∙ sym (ap (λ (x : Bool). opens_by false x (opens_in r s request)) is) ∙ sym (ap (λ (x : Bool). opens_by x (repeats (last_of s) request) (opens_in r s request)) other)

  apart : repeats (ended_of h) request ≡ false → repeats (last_of s) request ≡ false → (x : Bool) → opens_in r s request ≡ x → opens_by false false x ≡ opens_in_session r h s request sealed
  apart other anew x is =
      sym (ap (opens_by false false) is) ∙ sym (ap (λ (y : Bool). opens_by false y (opens_in r s request)) anew) ∙ sym (ap (λ (y : Bool). opens_by y (repeats (last_of s) request) (opens_in r s request)) other)

  pub by_reply : repeats (ended_of h) request ≡ false → repeats (last_of s) request ≡ false → opens_in r s request ≡ true → b ≡ opens_to r s (turn_in r s request) sealed → b ≡ opens_in_session r h s request sealed
  by_reply other anew is told = told ∙ apart other anew true is

  pub by_next : repeats (ended_of h) request ≡ false → repeats (last_of s) request ≡ false → opens_in r s request ≡ false → b ≡ opens_next r s sealed → b ≡ opens_in_session r h s request sealed
  by_next other anew is told = told ∙ apart other anew false is

-- ---- The key of an answer that comes.

pub coming_clear : (r : RspSetup) (h : History) (body : List ℕ) → (slice_index body 0 == 5) ≡ true → will_take r h body ≡ false
coming_clear r h body is = ap (λ (b : Bool). not b && is_taken_in r (session_named h body) (repeats (ended_of h) (drop 1 body)) (drop 1 body)) is

none_behind : (x : Bool) → (x && false) ≡ false
none_behind true = refl
none_behind false = refl

pub coming_ended : (r : RspSetup) (h : History) (body : List ℕ) → repeats (ended_of h) (drop 1 body) ≡ true → will_take r h body ≡ false
coming_ended r h body is =
    ap (λ (b : Bool). not (slice_index body 0 == 5) && is_taken_in r (session_named h body) b (drop 1 body)) is ∙ none_behind (not (slice_index body 0 == 5))

pub coming_again : (r : RspSetup) (h : History) (body : List ℕ) → repeats (last_of (session_named h body)) (drop 1 body) ≡ true → will_take r h body ≡ false
coming_again r h body is =
    ap (λ (b : Bool). not (slice_index body 0 == 5) && (not (repeats (ended_of h) (drop 1 body)) && (not b && opens_in r (session_named h body) (drop 1 body)))) is
    ∙ ap (λ (b : Bool). not (slice_index body 0 == 5) && b) (none_behind (not (repeats (ended_of h) (drop 1 body)))) ∙ none_behind (not (slice_index body 0 == 5))

pub coming_by : (r : RspSetup) (h : History) (body inner : List ℕ) (o : Option AnswerKey) → (slice_index body 0 == 5) ≡ false → repeats (ended_of h) (drop 1 body) ≡ false → repeats (last_of (session_named h body)) (drop 1 body) ≡ false
    → ((f : Free) → IsReplyKey r (session_named h body) f (drop 1 body) inner o) → IsComingKey r h body o
coming_by r h body inner o type other anew its = by_key o its
  where
    taken_is : (x : Bool) → opens_in r (session_named h body) (drop 1 body) ≡ x → will_take r h body ≡ x
    taken_is x is =
        ap (λ (b : Bool). not b && (not (repeats (ended_of h) (drop 1 body)) && (not (repeats (last_of (session_named h body)) (drop 1 body)) && opens_in r (session_named h body) (drop 1 body)))) type
        ∙ ap (λ (b : Bool). not b && (not (repeats (last_of (session_named h body)) (drop 1 body)) && opens_in r (session_named h body) (drop 1 body))) other
        ∙ ap (λ (b : Bool). not b && opens_in r (session_named h body) (drop 1 body)) anew ∙ is

    by_key : (x : Option AnswerKey) → ((f : Free) → IsReplyKey r (session_named h body) f (drop 1 body) inner x) → IsComingKey r h body x
    by_key None keys = taken_is false (keys any_free)
    by_key (Some key) keys = (taken_is true (keys any_free).0, λ f. (keys f).2)

-- A bound that is one less.
pub either_is : {n : ℕ} → n < 2 ^ 64 - 1 → n < 2 ^ 64
either_is few = omega (arith, few)
