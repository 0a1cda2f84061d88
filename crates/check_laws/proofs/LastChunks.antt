-- What the last chunk of a large response changes.
use Rattle.std.proofs.Common.{◌≡◌, ◌≤◌, ◌∙◌, ℕ, suc, List, [], ◌∷◌, Bool, true, false, cond, Option, Some, None, length, refl, sym, ap, arith}
use Rattle.std.specs.Prelude.{MatchBool, nat_lt}
use Rattle.std.proofs.lemmas.Bool.{and_left, false≢true}
use Rattle.responder_machine.specs.History.{Entry, History}
use Rattle.responder_machine.specs.History.Entry.{Clear, Sealed, Queued, Ticked, Dropped}
use Rattle.responder_machine.specs.May.{with_dropped}
use Rattle.responder_machine.specs.Responder.Outcome.{Adds}
use Rattle.responder_machine.specs.Setup.{RspSetup, towards}
use Rattle.responder_machine.specs.Turn.{answer_in, takes}
use Rattle.spdm_basis.proofs.Bools.{and_first}
use Rattle.spdm_grammar.specs.declared.names.request_code.TheConstants.{PSK_EXCHANGE}
use Rattle.spdm_machine.specs.Sessions.{id_in_exchange}
use Rattle.check_laws.proofs.BegunAtLast.{count_within, get_quiet, quiet_count, settled, settled_behind, settled_here, unseen_count}
use Rattle.check_laws.proofs.ChangesMade.{begun_in, entry_replied, none_begun, outcome_begun, replied_in}
use Rattle.check_laws.proofs.StepsOfWalks.{completes_since, walks_held}
use Rattle.check_laws.specs.ChangeLaws.{LastChunkChanges, begun_by, begun_by_large}
use Rattle.capture_machine.proofs.UnseenStands.{IsClearSince, IsQuiet}
use Rattle.capture_machine.specs.LargeAnswers.{is_unseen_in, place_named, seen, takes_get}
use Rattle.capture_machine.specs.SessionTable.{begun_count, last_begun}
use Rattle.world_machine.specs.Setup.{known_of}

-- ---- Entries that begin none.

quiet_last : (e : Entry) (h : History) → IsQuiet e → last_begun (e ∷ h) ≡ last_begun h
quiet_last (Clear tag t d) h quiet = ap (λ x. cond x (id_in_exchange (answer_in t.effect)) (last_begun h)) (and_left (takes PSK_EXCHANGE t) _ quiet.1)
quiet_last (Sealed tag sealed t reply d) h quiet = refl
quiet_last (Dropped id) h quiet = refl
quiet_last (Queued bytes) h quiet = absurd quiet
quiet_last (Ticked seconds) h quiet = absurd quiet

-- As many were begun, and the same one last.
same_begun : (h g next other : History) → begun_count h ≡ begun_count g → begun_count next ≡ begun_count other → last_begun next ≡ last_begun other → begun_in h next ≡ begun_in g other
same_begun h g next other one two last =
    ap (λ n. cond (nat_lt n (begun_count next)) (Some (last_begun next)) None) one
    ∙ ap (λ n. cond (nat_lt (begun_count g) n) (Some (last_begun next)) None) two
    ∙ ap (λ n. cond (nat_lt (begun_count g) (begun_count other)) (Some n) None) last

get_begun : (h : History) (e : Entry) (next : History) → takes_get e ≡ true → begun_in h (e ∷ next) ≡ begun_in h next
get_begun h (Clear tag t d) next gets = same_begun h h (Clear tag t d ∷ next) next refl (quiet_count (Clear tag t d) next (get_quiet t gets)) (quiet_last (Clear tag t d) next (get_quiet t gets))
get_begun h (Sealed tag sealed t reply d) next gets = refl
get_begun h (Queued bytes) next gets = absurd (false≢true gets)
get_begun h (Ticked seconds) next gets = absurd (false≢true gets)
get_begun h (Dropped id) next gets = absurd (false≢true gets)

-- ---- The large answer with its bytes.

module _ (w ids : List ℕ) where
  seen_begun : (e : Entry) (h : History) → is_unseen_in None e ≡ true → begun_in (e ∷ h) (seen w e ∷ with_dropped h ids) ≡ begun_by (Adds (seen w e))
  seen_begun e h is =
      same_begun (e ∷ h) h (seen w e ∷ with_dropped h ids) (seen w e ∷ with_dropped h ids) (unseen_count e h is) refl refl ∙ outcome_begun h ids (Adds (seen w e))

  by_unseen : (e : Entry) (h : History) (b : Bool) → is_unseen_in None e ≡ b → MatchBool b (Unit {0}) (IsQuiet e × IsClearSince h) → (IsClearSince h → begun_in h (settled None w ids h) ≡ begun_by_large None w h)
      → begun_in (e ∷ h) (settled None w ids (e ∷ h)) ≡ cond b (begun_by (Adds (seen w e))) (begun_by_large None w h)
  by_unseen e h true is since rest = ap (begun_in (e ∷ h)) (settled_here None w ids e h is) ∙ seen_begun e h is
  by_unseen e h false is since rest =
      let g : History = settled None w ids h in
      ap (begun_in (e ∷ h)) (settled_behind None w ids e h is)
      ∙ same_begun (e ∷ h) h (e ∷ g) g (quiet_count e h since.0) (quiet_count e g since.0) (quiet_last e g since.0)
      ∙ rest since.1

  clear_begun : (h : History) → IsClearSince h → begun_in h (settled None w ids h) ≡ begun_by_large None w h
  clear_begun [] since = absurd since
  clear_begun (e ∷ h) since = by_unseen e h (is_unseen_in None e) refl since (clear_begun h)

  none_sealed : (id : ℕ) (e : Entry) → is_unseen_in (Some id) e ≡ true → begun_by (Adds (seen w e)) ≡ None
  none_sealed id (Sealed tag sealed t reply d) is = refl
  none_sealed id (Clear tag t d) is = absurd (false≢true is)
  none_sealed id (Queued bytes) is = absurd (false≢true is)
  none_sealed id (Ticked seconds) is = absurd (false≢true is)
  none_sealed id (Dropped which) is = absurd (false≢true is)

  none_within : (id : ℕ) (h : History) → begun_by_large (Some id) w h ≡ None
  none_within id [] = refl
  none_within id (e ∷ h) = by_is (is_unseen_in (Some id) e) refl (none_within id h)
    where
      by_is : (b : Bool) → is_unseen_in (Some id) e ≡ b → begun_by_large (Some id) w h ≡ None → cond b (begun_by (Adds (seen w e))) (begun_by_large (Some id) w h) ≡ None
      by_is true is rest = none_sealed id e is
      by_is false is rest = rest

  settled_begun : (place : Option ℕ) (h : History) → (place ≡ None → IsClearSince h) → begun_in h (settled place w ids h) ≡ begun_by_large place w h
  settled_begun None h since = clear_begun h (since refl)
  settled_begun (Some id) h since = none_begun h (settled (Some id) w ids h) (count_within w ids id h) ∙ sym (none_within id h)

  -- ---- Nothing is taken away.

  longer_dropped : (others : List ℕ) (h : History) → length h ≤ length (with_dropped h others)
  longer_dropped [] h = omega arith
  longer_dropped (id ∷ others) h = let more = longer_dropped others (Dropped id ∷ h) in omega (arith, more)

  longer_settled : (place : Option ℕ) (h : History) → length h ≤ length (settled place w ids h)
  longer_settled place [] = omega arith
  longer_settled place (e ∷ h) = by_is (is_unseen_in place e) refl (longer_settled place h)
    where
      by_is : (b : Bool) → is_unseen_in place e ≡ b → length h ≤ length (settled place w ids h) → suc (length h) ≤ length (settled place w ids (e ∷ h))
      by_is true is rest = let more = longer_dropped ids h in let long = ap length (settled_here place w ids e h is) in omega (arith, more, long)
      by_is false is rest = let long = ap length (settled_behind place w ids e h is) in omega (arith, rest, long)

pub last_chunk_changes : LastChunkChanges
last_chunk_changes w q older d next round answer walk at c =
    let h : History = d.responder in
    let r : RspSetup = towards w.responder (known_of d.setup) in
    let place : Option ℕ = place_named round.body in
    let all : History = settled place c.0 c.1 h in
    let gets : takes_get c.2 ≡ true = and_first _ _ c.5 in (
      ap (begun_in h) c.8 ∙ get_begun h c.2 all gets ∙ settled_begun c.0 c.1 place h (completes_since r d round answer next.responder (walks_held w q older d walk).sound at c),
      ap (replied_in h) c.8 ∙ entry_replied h all c.2 (longer_settled c.0 c.1 place h),
    )
