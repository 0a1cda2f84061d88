-- What an answer shows of the large one that is fetched.
use Rattle.std.proofs.Common.{◌≡◌, ◌-◌, ◌*◌, ◌⊎◌, ℕ, suc, List, ◌∷◌, refl, sym, ap, ◌∙◌, subst, take, arith, true, Option, Some, inl, inr}
use Rattle.std.proofs.lemmas.Option.{same_Some}
use Rattle.chunking.specs.Cutting.{chunk_end, unit_of}
use Rattle.responder_machine.specs.History.{Entry, History}
use Rattle.responder_machine.specs.May.{place_for, with_dropped}
use Rattle.responder_machine.specs.Place.{Place}
use Rattle.responder_machine.specs.Responder.{Outcome, after, body_of, sent_by}
use Rattle.responder_machine.specs.Responder.Outcome.{Same, Unopened, Adds}
use Rattle.responder_machine.specs.Setup.{RspSetup, towards}
use Rattle.spdm_basis.proofs.Bools.{and_first, suc_units}
use Rattle.check_laws.proofs.OneWalk.{walks_alike}
use Rattle.check_laws.specs.Keeping.{Kept}
use Rattle.check_laws.specs.Order.{body_in}
use Rattle.capture_machine.proofs.FetchStates.{Fetch, served}
use Rattle.capture_machine.proofs.FetchedTold.{version_apart}
use Rattle.capture_machine.proofs.Fetching.{IsSound}
use Rattle.capture_machine.proofs.GetTells.{transfer_of}
use Rattle.capture_machine.specs.CapturedAnswers.{AreShown, MayLeadAfter, MayLeadTo}
use Rattle.capture_machine.specs.LargeAnswers.{is_fetching, judging, place_named, takes_get, with_large}
use Rattle.capture_machine.specs.Rounds.{Dialogue, Round}
use Rattle.world_machine.specs.Setup.{known_of}
use Rattle.check_late_laws.specs.Fetching.{Fetching, MayStand, bytes_given, dialogue_of, number_given, size_told}
use Rattle.check_late_laws.specs.FetchingLaws.{kept_behind}
use Rattle.check_late_laws.specs.FetchingShown.{ChunkIsShown, LastIsWhole, ShowsChunk, ShowsNone}
use Rattle.check_late_laws.proofs.Gave.{Gave, bytes_begin, bytes_next, bytes_same, number_next, size_next}
use Rattle.check_late_laws.proofs.GoesLaws.{fetches_on}
use Rattle.check_late_laws.proofs.GoesWith.{told_whole}
use Rattle.check_late_laws.proofs.Stood.{Came, IsSame, adds_none, came, dropped_same, entry_same}
use Rattle.check_late_laws.proofs.Stood.Came.{Other, Chunk}

-- ---- With an answer that goes whole.

-- What the history shows after it.
data Shows (at : Option ℕ) (h : History) (v : List ℕ) (answer : List ℕ) (next : History) : Type 0 where
  Nothing : IsSame at next h → Shows at h v answer next
  Next : (e : Entry) → (p : Place) → next ≡ e ∷ h → sent_by e ≡ answer → Gave at h v p e → Shows at h v answer next

shows : (r : RspSetup) (h : History) (v : List ℕ) (tag : ℕ) (body answer : List ℕ) (ids : List ℕ) (o : Outcome) → Fetch h v tag body → MayLeadAfter r (with_large (place_named body) v h) ids tag body o → AreShown r (with_large (place_named body) v h) body o ids → body_of o ≡ answer
    → Shows (place_named body) h v answer (after (with_dropped h ids) o)
shows r h v tag body answer ids (Same b) fetch may shown is = Nothing (dropped_same (place_named body) ids h)
shows r h v tag body answer ids (Unopened b) fetch may shown is = Nothing (dropped_same (place_named body) ids h)
shows r h v tag body answer ids (Adds e) fetch may shown is =
    let none = adds_none r h v tag body ids e fetch may shown in
    let leads = subst (λ (l : List ℕ). MayLeadTo r (with_dropped (with_large (place_named body) v h) l) tag body (Adds e)) none may.1 in
    subst (λ (l : List ℕ). Shows (place_named body) h v answer (e ∷ with_dropped h l)) (sym none) (by_came (came r h v tag body e fetch leads))
  where
    by_came : Came r h v tag body e → Shows (place_named body) h v answer (e ∷ h)
    by_came (Other no_chunk stays) = Nothing (entry_same (place_named body) e h stays)
    by_came (Chunk gets g) = Next e (place_for (with_large (place_named body) v h) body) refl is g

pub chunk_is_shown : ChunkIsShown
chunk_is_shown w q older f next route answer own (body_is, owner, (round, (at, tagged, waits), (v, h, stand, plain, (l, hears, gets, made)))) =
    let r : RspSetup = towards w.responder (known_of f.kept.setup) in
    let d : Dialogue = dialogue_of f v in
    let sound : IsSound d = (walks_alike w q older d d (own.all v stand) (own.all v stand)).one in
    let on = fetches_on d v round route.tag answer l sound refl at hears gets in
    let place : place_named round.body ≡ f.at = ap (λ (o : Option Round). place_named (body_in o)) (sym at) ∙ own.there on.gets in
    let all = shows r f.kept.responder v round.tag round.body answer plain.0 plain.1 on.fetch plain.2 plain.3 plain.5 in
    let here : Shows f.at f.kept.responder v answer h = subst (λ (o : Option ℕ). Shows o f.kept.responder v answer h) place (subst (Shows (place_named round.body) f.kept.responder v answer) (sym plain.6) all) in
    subst (λ (x : Fetching). ShowsNone f x ⊎ ShowsChunk f x answer) (sym made) (by_shown (kept_behind f.kept round l h) h v stand refl here)
  where
    by_shown : (k : Kept) (h : History) (v : List ℕ) → MayStand f v → k.responder ≡ h → Shows f.at f.kept.responder v answer h → ShowsNone f (record f { kept = k }) ⊎ ShowsChunk f (record f { kept = k }) answer
    by_shown k h v stand is (Nothing same) =
        inl (record { number = ap (number_given f.at) is ∙ same.number; bytes = ap (bytes_given f.at) is ∙ same.bytes; size = ap (size_told f.at) is ∙ same.size })
    by_shown k h v stand is (Next e p behind sent g) =
        let n : ℕ = number_given f.at f.kept.responder in
        let to : k.responder ≡ e ∷ f.kept.responder = is ∙ behind in
        let ends : suc n * unit_of (transfer_of p) - 4 ≡ chunk_end (transfer_of p) n = let x = suc_units n (unit_of (transfer_of p)) in omega (arith, x) in
        inr (record {
          entry = e;
          behind = to;
          sent = sent;
          gives = g.here;
          whole = v;
          stands = stand;
          transfer = transfer_of p;
          handle = g.handle;
          chunk = g.gives;
          more = g.more;
          wide = g.wide;
          number = ap (number_given f.at) to ∙ number_next f.at f.kept.responder v p e g;
          bytes = ap (bytes_given f.at) to ∙ bytes_next f.at f.kept.responder v p e g;
          begins = ap (bytes_given f.at) to ∙ bytes_begin f.at f.kept.responder v p e g ∙ ap (λ (k : ℕ). take k v) ends;
          size = ap (size_told f.at) to ∙ told_whole f.at f.kept.responder v p e g f.place stand;
          told = ap (size_told f.at) to ∙ size_next f.at f.kept.responder v p e g;
        })

-- ---- With the last chunk.

pub last_is_whole : LastIsWhole
last_is_whole w q older f round answer whole h own stand at c =
    let r : RspSetup = towards w.responder (known_of f.kept.setup) in
    let d : Dialogue = dialogue_of f whole in
    let sound : IsSound d = (walks_alike w q older d d (own.all whole stand) (own.all whole stand)).one in
    let old = sound.fetched whole refl in
    let same : old.0 ≡ round = same_Some old.0 round (sym old.1 ∙ at) in
    let gets : takes_get c.2 ≡ true = and_first _ _ c.5 in
    elim old.2.stands [
      | inl version ↦ absurd (version_apart r (judging (Some whole) round.body f.kept.responder) round.tag round.body c.2 (ap (λ (x : Round). x.body) (sym same) ∙ version.1) c.4 gets)
      | inr fetch ↦
          let on : Fetch f.kept.responder whole round.tag round.body = subst (λ (x : Round). Fetch f.kept.responder whole x.tag x.body) same fetch.1 in
          let place : place_named round.body ≡ f.at = ap (λ (o : Option Round). place_named (body_in o)) (sym at) ∙ own.there (ap is_fetching old.2.waits ∙ fetch.0) in
          let all = (served r f.kept.responder whole round.tag round.body c.2 on c.4).whole c.5 in
          ap (λ (o : Option ℕ). bytes_given o (c.2 ∷ f.kept.responder)) (sym place) ∙ sym (bytes_same (place_named round.body) (c.2 ∷ f.kept.responder)) ∙ all
    ]
