-- What the program compares of an answer to a clear message tells whether it is that answer, and what it brings.
use Rattle.std.proofs.Common.{◌≡◌, ◌≤◌, ◌-◌, ◌==◌, ◌&&◌, ◌∙◌, ℕ, List, [], ◌∷◌, refl, sym, ap, subst, length, take, drop, Bool, true, false, Option, Some, None, is_some, cond, arith}
use Rattle.std.proofs.lemmas.Bool.{false≢true}
use Rattle.std.proofs.lemmas.Bool.Decides.{nat_tests}
use Rattle.std.proofs.lemmas.Slice.Eq.{bytes_eq-Decides}
use Rattle.std.specs.Prelude.{bytes_eq, nat_lt, not}
use Rattle.chunking.specs.Collecting.{joined_with, under_way}
use Rattle.responder_machine.proofs.Codes.{asked-code}
use Rattle.responder_machine.specs.Answer.{Free, answer_bytes, request_at}
use Rattle.responder_machine.specs.Handling.{carried_turn, chunk_in, effect_of, handle_for, last_chunk_turn, plain_turn, taken_chunk, turn_by, turn_of}
use Rattle.responder_machine.specs.Heard.{heard_in, heard_of, no_id}
use Rattle.responder_machine.specs.History.{History, kept_of}
use Rattle.responder_machine.specs.History.Entry.{Clear}
use Rattle.responder_machine.specs.LargeMessages.{chunks_of}
use Rattle.responder_machine.specs.May.{IsAllowed}
use Rattle.responder_machine.specs.Place.{Place, clear_place, inside, place_terms}
use Rattle.responder_machine.specs.Refusal.{code_of, has_pending, refusal}
use Rattle.responder_machine.specs.Responder.{Outcome, after, body_of, is_repeat, kept_reply, on_clear}
use Rattle.responder_machine.specs.Responder.Outcome.{Same, Adds}
use Rattle.responder_machine.specs.Setup.{RspSetup}
use Rattle.responder_machine.specs.Turn.{Turn, code_in, handle_in, is_data, takes}
use Rattle.responder_machine.specs.Turn.Effect.{NoEffect}
use Rattle.spdm_grammar.specs.Codes.{code_for}
use Rattle.spdm_grammar.specs.Message.{ChunkMessage, RequestMessage}
use Rattle.spdm_grammar.specs.Message.RequestMessage.{ChunkSend}
use Rattle.spdm_grammar.specs.declared.messages.error_code.ErrorCode.{ErrorCode}
use Rattle.spdm_grammar.specs.declared.told.heard.Heard.{Heard}
use Rattle.spdm_grammar.specs.declared.told.heard.Heard.TheVariants as heard
use Rattle.spdm_grammar.specs.declared.names.TheConstants.{MAX_MESSAGE_SIZE}
use Rattle.spdm_grammar.specs.declared.names.request_code.TheConstants.{CHUNK_GET}
use Rattle.spdm_basis.proofs.Bools.{and_first, and_second}
use Rattle.spdm_machine.specs.Bodies.{clear_body}
use Rattle.spdm_machine.specs.Terms.{hash_len}
use Rattle.check_responder.proofs.LargeReplies.{turn_tells}
use Rattle.check_responder.specs.JudgedResponder.{shows_large}
use Rattle.check_responder.specs.ClearAnswers.{IsAnsweredAt, IsApartAt, IsJudgedAt, given_by, given_of, is_same, is_whole_given, judged_by, tells_get}
use Rattle.check_laws.specs.DropsShown.{response_of}
use Rattle.check_responder.specs.declared.given.Given.{Given}
use Rattle.check_responder.specs.declared.given.Given.TheVariants as given
use Rattle.check_responder.specs.declared.given.Judged.TheVariants as judged
use Rattle.capture_machine.proofs.SmallGets.{not_carried}
use Rattle.capture_machine.proofs.TurnsAlike.{chunk_is, is_request}
use Rattle.capture_machine.specs.CapturedAnswers.{clear_answer}
use Rattle.capture_machine.specs.Difference.{carries_exchange, is_apart}
use Rattle.capture_machine.specs.Rounds.{no_draw}

-- ---- CHUNK_GET is told where it takes effect.

abbrev GetTold : Turn → Type 0
GetTold t = takes CHUNK_GET t ≡ tells_get (heard_in t no_id t.refused)

module _ (r : RspSetup) (p : Place) (m : List ℕ) (f : Free) where
  plain_told : refusal r p m f ≡ None → GetTold (plain_turn r p m f)
  plain_told none =
      let one = is_request r p m f none in
      let answer : List ℕ = answer_bytes r p m f in
      let large : Option ℕ = handle_for p f answer in
      let P : Option RequestMessage → Type 0 = λ o. (code_in (effect_of o m answer large) == CHUNK_GET) ≡ tells_get (cond (is_data (effect_of o m answer large)) (heard.Taken no_id) (heard.Answered (code_of m))) in
      subst P (sym one.1) (ap (λ (n : ℕ). n == CHUNK_GET) (asked-code p m one.0 one.1))

  carried_told : (c : ChunkMessage) (whole : List ℕ) (o : Option ErrorCode) → (code_of m == CHUNK_GET) ≡ false → refusal r (inside p) whole f ≡ o → GetTold (carried_turn r (inside p) m f c whole o)
  carried_told c whole (Some e) other is = sym other
  carried_told c whole None other is =
      let one = is_request r (inside p) whole f is in
      let answer : List ℕ = answer_bytes r (inside p) whole f in
      let large : Option ℕ = handle_for (inside p) f answer in
      let P : Option RequestMessage → Type 0 = λ o. (code_in (effect_of o whole answer large) == CHUNK_GET) ≡ tells_get (cond (is_data (effect_of o whole answer large)) (heard.Taken no_id) (heard.Answered (code_of m))) in
      subst P (sym one.1) (by_code one.0 one.1 (code_for one.0 == CHUNK_GET) refl)
    where
      by_code : (asked : RequestMessage) → request_at (inside p) whole ≡ Some asked → (b : Bool) → (code_for asked == CHUNK_GET) ≡ b → (code_for asked == CHUNK_GET) ≡ (code_of m == CHUNK_GET)
      by_code asked at true gets = absurd (not_carried r p whole f asked is at gets)
      by_code asked at false gets = gets ∙ sym other

  chunk_told : (c : ChunkMessage) (whole : List ℕ) (b : Bool) → (code_of m == CHUNK_GET) ≡ false → GetTold (cond b (last_chunk_turn r (inside p) m f c whole) (taken_chunk m c NoEffect []))
  chunk_told c whole true other = carried_told c whole (refusal r (inside p) whole f) other refl
  chunk_told c whole false other = sym other

  by_told : (o : Option ErrorCode) (c : Option ChunkMessage) → refusal r p m f ≡ o → chunk_in (request_at p m) ≡ c → GetTold (turn_by r p m f o c)
  by_told (Some e) c is chunk = refl
  by_told None None is chunk = plain_told is
  by_told None (Some c) is chunk =
      let code = asked-code p m (ChunkSend c) (chunk_is (request_at p m) c chunk) in
      chunk_told c (joined_with (under_way (chunks_of p.turns)) c) c.last (ap (λ (n : ℕ). n == CHUNK_GET) (sym code))

  pub get_told : GetTold (turn_of r p m f)
  unfolding turn_of
  get_told = by_told (refusal r p m f) (chunk_in (request_at p m)) refl refl

-- ---- What is told of an answer tells what it brings.

told_data : (b : Bool) (x taken : Heard) → is_same x ≡ false → is_same taken ≡ false → is_same (cond b x taken) ≡ false
told_data true x taken one two = one
told_data false x taken one two = two

told_anew : (t : Turn) (o : Option ErrorCode) → is_same (heard_in t no_id o) ≡ false
told_anew t (Some e) = refl
told_anew t None = told_data (is_data t.effect) _ _ refl refl

given_from : (same shown large told get at pending : Bool) → same ≡ false → shown ≡ large → get ≡ told → at ≡ pending
    → cond same given.Whole (cond shown given.Large (cond (told && not pending) given.Last given.Whole)) ≡ cond large given.Large (cond (get && not at) given.Last given.Whole)
given_from same shown large told get at pending a b c d = rw (a, b, c, d) refl

-- Whether an answer is pending depends on no chunk.
chunk_pending : (b : Bool) (q : Place) → has_pending (cond b (inside q) q) ≡ has_pending q
chunk_pending true q = refl
chunk_pending false q = refl

module _ (r : RspSetup) (h : History) (tag : ℕ) (m : List ℕ) (f : Free) where
  abbrev o : Outcome
  o = on_clear r h tag m f no_draw

  abbrev t : Turn
  t = turn_of r (clear_place h) m f

  given_is : given_by (heard_of o) (drop 1 (body_of o)) (has_pending (clear_place (after h o))) ≡ given_of h o
  unfolding on_clear
  given_is = by_again (is_repeat (kept_of h) tag m)
    where
      by_again : (b : Bool) → let x : Outcome = cond b (Same (clear_body (kept_reply (kept_of h)))) (Adds (Clear tag t no_draw)) in
          given_by (heard_of x) (drop 1 (body_of x)) (has_pending (clear_place (after h x))) ≡ given_of h x
      by_again true = refl
      by_again false =
          given_from (is_same (heard_in t no_id t.refused)) (shows_large (response_of t.reply)) (is_some (handle_in t.effect)) (tells_get (heard_in t no_id t.refused)) (takes CHUNK_GET t) _ _ (told_anew t t.refused) (turn_tells r (clear_place h) m f)
          (get_told r (clear_place h) m f) (chunk_pending (is_some t.chunk) (clear_place (Clear tag t no_draw ∷ h)))

  -- What the program says of an answer that it gave.
  pub given_told : (told : Heard) (out : List ℕ) (pending : Bool) → told ≡ heard_of o → clear_body out ≡ body_of o → pending ≡ has_pending (clear_place (after h o)) → given_by told out pending ≡ given_of h o
  given_told told out pending is body at =
      ap (λ (x : Heard). given_by x out pending) is ∙ ap (λ (l : List ℕ). given_by (heard_of o) (drop 1 l) pending) body ∙ ap (given_by (heard_of o) (drop 1 (body_of o))) at ∙ given_is

  -- ---- The answer at some values.

  few : (n : ℕ) → n ≤ 4096 → nat_lt 4096 n ≡ false
  few n less = grind (arith, nat_tests)

  less : (n : ℕ) → nat_lt 4096 n ≡ false → n ≤ 4096
  less n is = grind (arith, nat_tests)

  pub too_long : (reply : List ℕ) → nat_lt MAX_MESSAGE_SIZE (length (clear_answer r (clear_place h) m f)) ≡ true → IsAnsweredAt r h tag m f reply → ⊥
  too_long reply long a = false≢true (sym (few (length (clear_answer r (clear_place h) m f)) a.short) ∙ long)

  pub other_body : (out reply : List ℕ) → clear_body out ≡ body_of o → bytes_eq out reply ≡ false → IsAnsweredAt r h tag m f reply → ⊥
  other_body out reply body differs a = false≢true (sym differs ∙ (bytes_eq-Decides out reply).1 (ap (drop 1) (body ∙ a.body)))

  pub answered_from : (out reply : List ℕ) → clear_body out ≡ body_of o → IsAllowed h (clear_place h) f → nat_lt MAX_MESSAGE_SIZE (length (clear_answer r (clear_place h) m f)) ≡ false → bytes_eq out reply ≡ true → IsAnsweredAt r h tag m f reply
  answered_from out reply body fits short same = record {
    allowed = fits;
    short = less (length (clear_answer r (clear_place h) m f)) short;
    body = sym body ∙ ap clear_body ((bytes_eq-Decides out reply).0 same);
  }

  -- ---- What is said of it.

  abbrev size : ℕ
  size = hash_len (place_terms (clear_place h))

  -- Of values that are not allowed, or too long.
  pub refused_at : (reply : List ℕ) → (IsAllowed h (clear_place h) f → length (clear_answer r (clear_place h) m f) ≤ MAX_MESSAGE_SIZE → ⊥) → IsJudgedAt r h tag m f reply judged.Refused
  refused_at reply never = (λ a. never a.allowed a.short, (λ is. absurd (let e = is in cc), λ a. absurd (never a.allowed a.short)))

  pub long_at : nat_lt MAX_MESSAGE_SIZE (length (clear_answer r (clear_place h) m f)) ≡ true → length (clear_answer r (clear_place h) m f) ≤ MAX_MESSAGE_SIZE → ⊥
  long_at long short = false≢true (sym (few (length (clear_answer r (clear_place h) m f)) short) ∙ long)

  module _ (told : Heard) (out reply : List ℕ) (pending : Bool) (is : told ≡ heard_of o) (body : clear_body out ≡ body_of o) (at : pending ≡ has_pending (clear_place (after h o)))
      (fits : IsAllowed h (clear_place h) f) (short : nat_lt MAX_MESSAGE_SIZE (length (clear_answer r (clear_place h) m f)) ≡ false) where
    abbrev tests : Bool
    tests = is_apart size (clear_body out) (clear_body reply) && (carries_exchange (clear_body out) && is_whole_given (given_by told out pending))

    brought : given_by told out pending ≡ given_of h o
    brought = given_told told out pending is body at

    apart_of : tests ≡ true → IsApartAt r h tag m f reply
    apart_of all =
        let rest = and_second (is_apart size (clear_body out) (clear_body reply)) _ all in record {
          allowed = fits;
          short = less (length (clear_answer r (clear_place h) m f)) short;
          whole = sym brought ∙ is_whole_from (given_by told out pending) (and_second (carries_exchange (clear_body out)) _ rest);
          carries = sym (ap carries_exchange body) ∙ and_first _ _ rest;
          apart = sym (ap (λ (l : List ℕ). is_apart size l (clear_body reply)) body) ∙ and_first _ _ all;
        }
      where
        is_whole_from : (x : Given) → is_whole_given x ≡ true → x ≡ given.Whole
        is_whole_from given.Whole e = refl
        is_whole_from given.Large e = absurd (false≢true e)
        is_whole_from given.Last e = absurd (false≢true e)

    tests_of : IsApartAt r h tag m f reply → tests ≡ true
    tests_of a =
        all (is_apart size (clear_body out) (clear_body reply)) (carries_exchange (clear_body out)) (is_whole_given (given_by told out pending)) (ap (λ (l : List ℕ). is_apart size l (clear_body reply)) body ∙ a.apart) (ap carries_exchange body ∙ a.carries)
        (ap is_whole_given (brought ∙ a.whole))
      where
        all : (x y z : Bool) → x ≡ true → y ≡ true → z ≡ true → (x && (y && z)) ≡ true
        all x y z one two three = rw (one, two, three) refl

    same_apart : bytes_eq out reply ≡ true → IsApartAt r h tag m f reply → ⊥
    same_apart same a =
        let e : clear_body out ≡ clear_body reply = ap clear_body ((bytes_eq-Decides out reply).0 same) in
        let eq : bytes_eq (clear_body out) (clear_body reply) ≡ true = (bytes_eq-Decides (clear_body out) (clear_body reply)).1 e in
        let apart : is_apart size (clear_body out) (clear_body reply) ≡ true = and_first _ _ (tests_of a) in
        let here = and_first _ (bytes_eq (take (length (clear_body out) - size) (clear_body out)) (take (length (clear_body reply) - size) (clear_body reply))) apart in
        false≢true (sym (ap not eq) ∙ and_second (length (clear_body out) == length (clear_body reply)) (not (bytes_eq (clear_body out) (clear_body reply))) here)

    pub judged_told : IsJudgedAt r h tag m f reply (judged_by told out reply pending size)
    judged_told = by_same (bytes_eq out reply) refl
      where
        by_tests : (b : Bool) → tests ≡ b → bytes_eq out reply ≡ false → IsJudgedAt r h tag m f reply (cond b judged.Apart judged.Refused)
        by_tests true all differs = (λ a. other_body out reply body differs a, (λ e. apart_of all, λ a. refl))
        by_tests false none differs = (λ a. other_body out reply body differs a, (λ e. absurd (let h = e in cc), λ a. absurd (false≢true (sym none ∙ tests_of a))))

        by_same : (b : Bool) → bytes_eq out reply ≡ b → IsJudgedAt r h tag m f reply (cond b (judged.Given (given_by told reply pending)) (cond tests judged.Apart judged.Refused))
        by_same true same =
            let right = answered_from out reply body fits short same in
            let equal : clear_body reply ≡ body_of o = sym right.body in
            ((right, given_told told reply pending is equal at), (λ e. absurd (let h = e in cc), λ a. absurd (same_apart same a)))
        by_same false differs = by_tests tests refl differs
