-- What both ends can do stays after a message in the clear that is neither GET_VERSION nor GET_CAPABILITIES.
use Rattle.std.proofs.Common.{◌≡◌, ◌++◌, ◌∷◌, ℕ, List, [], refl, sym, ap, ◌∙◌, subst, Bool, true, false, cond, eqb-true, inl, inr}
use Rattle.std.specs.Prelude.{◌==◌, MatchBool}
use Rattle.std.proofs.lemmas.Bool.{false≢true}
use Rattle.spdm_basis.proofs.Bools.{and_first}
use Rattle.check_fetched_laws.proofs.ClearLeft.{get_others}
use Rattle.check_fetched_laws.proofs.ReadyGets.{common_at, common_next}
use Rattle.check_fetched_laws.proofs.TurnsBoth.{Settles, SettlesEntry}
use Rattle.check_fetched_laws.specs.ClearSessions.{AreGets, IsLeftBy, IsWithoutHandshake}
use Rattle.responder_machine.specs.History.{Entry, History, clear_turns}
use Rattle.responder_machine.specs.History.Entry.{Clear, Sealed, Queued, Ticked, Dropped}
use Rattle.responder_machine.specs.Place.{clear_place, place_terms}
use Rattle.responder_machine.specs.Turn.{Turn, code_in, takes}
use Rattle.spdm_grammar.specs.declared.names.request_code.TheConstants.{CHUNK_GET, GET_CAPABILITIES, GET_VERSION, PSK_EXCHANGE}
use Rattle.spdm_machine.specs.Keys.{Draw}
use Rattle.spdm_machine.specs.Terms.{no_negotiation, terms_of}

pub common_stays : (tag : ℕ) (t : Turn) (d : Draw) (h : History) → takes GET_VERSION t ≡ false → takes GET_CAPABILITIES t ≡ false
    → (place_terms (clear_place (Clear tag t d ∷ h))).common ≡ (place_terms (clear_place h)).common
common_stays tag t d h version caps =
    common_next t (clear_turns h) caps ∙ ap (λ (b : Bool). cond b (terms_of no_negotiation).common (common_at (clear_turns h))) version

get_no_caps : (t : Turn) → takes CHUNK_GET t ≡ true → takes GET_CAPABILITIES t ≡ false
get_no_caps t gets = ap (λ (n : ℕ). n == GET_CAPABILITIES) (eqb-true (code_in t.effect) CHUNK_GET gets)

-- So it does after CHUNK_GETs.
pub gets_common : (gets : List Entry) (h : History) → AreGets gets → (place_terms (clear_place (gets ++ h))).common ≡ (place_terms (clear_place h)).common
gets_common [] h are = refl
gets_common (Clear tag t d ∷ gets) h are =
    let get : takes CHUNK_GET t ≡ true = and_first (takes CHUNK_GET t) _ are.0 in
    common_stays tag t d (gets ++ h) (get_others t get).0 (get_no_caps t get) ∙ gets_common gets h are.1
gets_common (Sealed tag m t reply d ∷ gets) h are = absurd (false≢true are.0)
gets_common (Queued bytes ∷ gets) h are = absurd (false≢true are.0)
gets_common (Ticked seconds ∷ gets) h are = absurd (false≢true are.0)
gets_common (Dropped id ∷ gets) h are = absurd (false≢true are.0)

-- The entry after them was not GET_CAPABILITIES, where its answer was not seen.
pub settles_at : (gets : List Entry) (e : Entry) (h : History) → Settles (gets ++ e ∷ h) → SettlesEntry e
settles_at [] e h settles = settles.0
settles_at (x ∷ gets) e h settles = settles_at gets e h settles.1

-- Dropped sessions leave the turns in the clear.
pub left_turns : (e : Entry) (before left : History) → IsLeftBy e before left → clear_turns left ≡ clear_turns before
left_turns (Clear tag t d) before left is = by_code (takes PSK_EXCHANGE t) is
  where
    by_code : (b : Bool) → MatchBool b (IsWithoutHandshake before left) (left ≡ before) → clear_turns left ≡ clear_turns before
    by_code true (inl none) = ap clear_turns none.1
    by_code true (inr one) = ap clear_turns one.2
    by_code false same = ap clear_turns same
left_turns (Sealed tag m t reply d) before left is = absurd is
left_turns (Queued bytes) before left is = absurd is
left_turns (Ticked seconds) before left is = absurd is
left_turns (Dropped id) before left is = absurd is
