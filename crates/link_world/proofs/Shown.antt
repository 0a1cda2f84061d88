-- The lines by which ends are shown, one after the other.
use Rattle.std.proofs.Common.{refl, ◌≡◌, ◌∙◌, ◌+◌, ◌%◌, ◌<◌, ◌≤◌, ◌++◌, ◌∷◌, [], ℕ, zero, suc, List, length, take, get_or, arith, false, Option, Some, None, ap, sym, subst, append_assoc}
use Rattle.std.proofs.lemmas.List.{append-nil}
use Rattle.std.proofs.lemmas.Option.{none-some, same_Some}
use Rattle.std.specs.Option.{option_map}
use Rattle.link_world.proofs.Texts.{has_behind}
use Rattle.link_world.specs.Showing.{asker_lines}
use Rattle.link_world.specs.Standing.{AreAskers, IsAsker}
use Rattle.link_world.specs.declared.ends.AddressedRequester.{AddressedRequester}
use Rattle.link_world.specs.Written.{has_full}
use Rattle.requester_machine.specs.Shown as shown
use Rattle.responder.specs.Standing.{views_at}
use Rattle.responder_machine.specs.Heard as heard
use Rattle.responder_machine.specs.History.{clear_turns, phase_of}
use Rattle.spdm_grammar.specs.Lines.{Line, Whose}
use Rattle.spdm_grammar.specs.Lines.Line.{Session, State}
use Rattle.spdm_grammar.specs.declared.told.phase.Phase.{Phase}
use Rattle.spdm_grammar.specs.declared.told.session_view.SessionView.{SessionView}
use Rattle.requester_machine.specs.Requesting.{Requesting}
use Rattle.responder_machine.specs.Responding.{Connection, Responding, connection_of}
use Rattle.world_machine.specs.World.{World, all_end_lines, connection_lines, end_lines, requester_at, session_lines, shown_lines}

pub sessions_more : (who : Whose) (i : ℕ) (views : List SessionView) (view : SessionView) → i < length views → get_or views i view ≡ view → session_lines who (take (i + 1) views) ≡ session_lines who (take i views) ++ Session who view ∷ []
sessions_more who i [] view inside is = absurd (omega (arith, inside))
sessions_more who zero (v ∷ views) view inside is = ap (λ (x : SessionView). Session who x ∷ []) is
sessions_more who (suc i) (v ∷ views) view inside is =
    let next : suc i + 1 ≡ suc (i + 1) = omega arith in
    ap (λ (n : ℕ). session_lines who (take n (v ∷ views))) next ∙ ap (λ (l : List Line). Session who v ∷ l) (sessions_more who i views view (omega (arith, inside)) is)

pub sessions_begin : (who : Whose) (i : ℕ) (views : List SessionView) → (rest : List Line) × (session_lines who views ≡ session_lines who (take i views) ++ rest)
sessions_begin who zero views = (session_lines who views, refl)
sessions_begin who (suc i) [] = ([], refl)
sessions_begin who (suc i) (v ∷ views) = (let t = sessions_begin who i views in (t.0, ap (λ (l : List Line). Session who v ∷ l) t.1))

-- ---- No line of these is that of a packet.

pub plain_behind : (xs ys : List Line) → has_full xs ≡ false → has_full ys ≡ false → has_full (xs ++ ys) ≡ false
plain_behind xs ys a b = has_behind xs ys a ∙ b

pub sessions_plain : (who : Whose) (views : List SessionView) → has_full (session_lines who views) ≡ false
sessions_plain who [] = refl
sessions_plain who (v ∷ views) = sessions_plain who views

pub connection_plain : (n : ℕ) (c : Option Connection) → has_full (connection_lines n c) ≡ false
connection_plain n None = refl
connection_plain n (Some c) = sessions_plain (Whose.Responder n) (heard.views_of c.history)

end_plain : (r : Responding) (n : ℕ) (a : Requesting) → has_full (end_lines r n a) ≡ false
end_plain r n a = plain_behind (session_lines (Whose.Requester n) (shown.views_of a.history)) _ (sessions_plain (Whose.Requester n) (shown.views_of a.history)) (connection_plain n (connection_of a.setup.eid r.connections))

all_plain : (r : Responding) (n : ℕ) (all : List Requesting) → has_full (all_end_lines r n all) ≡ false
all_plain r n [] = refl
all_plain r n (a ∷ all) = plain_behind (end_lines r n a) (all_end_lines r (n + 1) all) (end_plain r n a) (all_plain r (n + 1) all)

pub shown_plain : (w : World) → has_full (shown_lines w) ≡ false
shown_plain w = all_plain w.responder 1 w.requesters

-- ---- The lines of one requester more.

pub lines_more : (r : Responding) (n i : ℕ) (all : List Requesting) (a : Requesting) → requester_at i all ≡ Some a → all_end_lines r n (take (i + 1) all) ≡ all_end_lines r n (take i all) ++ end_lines r (n + i) a
lines_more r n i [] a is = absurd (none-some a is)
lines_more r n zero (b ∷ all) a is = append-nil (end_lines r n b) ∙ ap (λ (c : Requesting). end_lines r n c) (same_Some b a is) ∙ ap (λ (m : ℕ). end_lines r m a) (omega arith)
lines_more r n (suc i) (b ∷ all) a is =
    let next : suc i + 1 ≡ suc (i + 1) = omega arith in
    ap (λ (k : ℕ). all_end_lines r n (take k (b ∷ all))) next
    ∙ ap (λ (l : List Line). end_lines r n b ++ l) (lines_more r (n + 1) i all a is ∙ ap (λ (m : ℕ). all_end_lines r (n + 1) (take i all) ++ end_lines r m a) (omega arith))
    ∙ sym (append_assoc (end_lines r n b) (all_end_lines r (n + 1) (take i all)) (end_lines r (n + suc i) a))

pub lines_begin : (r : Responding) (n i : ℕ) (all : List Requesting) → (rest : List Line) × (all_end_lines r n all ≡ all_end_lines r n (take i all) ++ rest)
lines_begin r n zero all = (all_end_lines r n all, refl)
lines_begin r n (suc i) [] = ([], refl)
lines_begin r n (suc i) (b ∷ all) = (let t = lines_begin r (n + 1) i all in (t.0, ap (λ (l : List Line). end_lines r n b ++ l) t.1 ∙ sym (append_assoc (end_lines r n b) (all_end_lines r (n + 1) (take i all)) t.0)))

-- ---- As the program meets them.

-- The phase and the sessions of the responder towards a requester.
pub towards_lines : (n : ℕ) (c : Option Connection) (phase : Phase) (views : List SessionView) → option_map (λ (d : Connection). phase_of (clear_turns d.history)) c ≡ Some phase → views ≡ views_at c
    → State (Whose.Responder n) phase ∷ session_lines (Whose.Responder n) views ≡ connection_lines n c
towards_lines n None phase views shown are = absurd (none-some phase shown)
towards_lines n (Some d) phase views shown are =
    ap (λ (p : Phase). State (Whose.Responder n) p ∷ session_lines (Whose.Responder n) views) (sym (same_Some (phase_of (clear_turns d.history)) phase shown))
    ∙ ap (λ (l : List SessionView). State (Whose.Responder n) (phase_of (clear_turns d.history)) ∷ session_lines (Whose.Responder n) l) are

-- The requester at a place.
pub record IsThere (i : ℕ) (x : AddressedRequester) (all : List Requesting) : Type 0 where
  pub a : Requesting
  pub at : requester_at i all ≡ Some a
  pub stands : IsAsker x a
  pub inside : i < length all

pub is_there : (i : ℕ) (xs : List AddressedRequester) (all : List Requesting) (x : AddressedRequester) → i < length xs → x ≡ get_or xs i x → AreAskers xs all → IsThere i x all
is_there i [] all x inside is are = absurd (omega (arith, inside))
is_there i (y ∷ xs) [] x inside is are = absurd are
is_there zero (y ∷ xs) (a ∷ all) x inside is are = record { a = a; at = refl; stands = subst (λ (e : AddressedRequester). IsAsker e a) (sym is) are.0; inside = omega arith }
is_there (suc i) (y ∷ xs) (a ∷ all) x inside is are =
    let t = is_there i xs all x (omega (arith, inside)) is are.1 in
    let more = t.inside in
    record { a = t.a; at = t.at; stands = t.stands; inside = omega (arith, more) }

module _ (r : Responding) (i q eid : ℕ) (all : List Requesting) (a : Requesting) (at : requester_at i all ≡ Some a) (number : q ≡ i + 1) (same : a.setup.eid ≡ eid) where
  pub turn_lines : (all_end_lines r 1 (take i all) ++ asker_lines q a) ++ connection_lines q (connection_of eid r.connections) ≡ all_end_lines r 1 (take (i + 1) all)
  turn_lines =
      let n : q ≡ 1 + i = omega (arith, number) in
      append_assoc (all_end_lines r 1 (take i all)) (asker_lines q a) (connection_lines q (connection_of eid r.connections))
      ∙ ap (λ (e : ℕ). all_end_lines r 1 (take i all) ++ (asker_lines q a ++ connection_lines q (connection_of e r.connections))) (sym same)
      ∙ ap (λ (m : ℕ). all_end_lines r 1 (take i all) ++ end_lines r m a) n
      ∙ sym (lines_more r 1 i all a at)

  pub turn_begins : (rest : List Line) × (all_end_lines r 1 all ≡ ((all_end_lines r 1 (take i all) ++ asker_lines q a) ++ connection_lines q (connection_of eid r.connections)) ++ rest)
  turn_begins = (let t = lines_begin r 1 (i + 1) all in (t.0, t.1 ∙ ap (λ (l : List Line). l ++ t.0) (sym turn_lines)))

pub next_number : (q i n : ℕ) → q ≡ i → i < n → n ≤ 8 → (q + 1) % 256 ≡ i + 1
next_number q i n is inside few = omega (arith, is, inside, few)

pub all_there : (i : ℕ) (xs : List AddressedRequester) (all : List Requesting) → AreAskers xs all → length xs ≤ i → take i all ≡ all
all_there zero [] [] are end = refl
all_there (suc i) [] [] are end = refl
all_there i [] (a ∷ all) are end = absurd are
all_there i (x ∷ xs) [] are end = absurd are
all_there zero (x ∷ xs) (a ∷ all) are end = absurd (omega (arith, end))
all_there (suc i) (x ∷ xs) (a ∷ all) are end = ap (λ (l : List Requesting). a ∷ l) (all_there i xs all are.1 (omega (arith, end)))
