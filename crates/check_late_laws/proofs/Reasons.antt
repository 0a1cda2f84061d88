-- Why a packet is refused while a large response is fetched.
use Rattle.std.proofs.Common.{◌≡◌, ℕ, List, refl, sym, ◌∙◌, subst, Option}
use Rattle.std.proofs.lemmas.Option.{same_Some}
use Rattle.mctp_framing.specs.Gathering.{Gathered}
use Rattle.mctp_framing.specs.Gathering.Gathered.{Whole, More, Dropped}
use Rattle.responder_machine.specs.History.{History}
use Rattle.responder_machine.specs.Setup.{RspSetup, towards}
use Rattle.check_laws.proofs.OneWalk.{walks_alike}
use Rattle.check_laws.proofs.Refused.{comes_one}
use Rattle.check_laws.specs.Keeping.{restored}
use Rattle.capture_machine.proofs.Alike.{Alike, comes_alike, goes_alike}
use Rattle.capture_machine.proofs.AskersBegin.{dial}
use Rattle.capture_machine.specs.CapturedAnswers.{Answers}
use Rattle.capture_machine.specs.Difference.{ComesApart, GoesApart, comes_why, goes_why}
use Rattle.capture_machine.specs.Rounds.{Dialogue, Round}
use Rattle.world_machine.specs.Setup.{known_of}
use Rattle.check_late_laws.specs.Fetching.{Fetching, dialogue_of}
use Rattle.check_late_laws.specs.FetchingLaws.{FetchingTellsApart, FetchingTellsWhy}
use Rattle.check_late_laws.proofs.Asked.{fetched_walk}

comes_bare : (f : Fetching) (whole : List ℕ) (g : Gathered) → comes_why (dialogue_of f whole) g ≡ comes_why (restored f.kept) g
comes_bare f whole (Whole route body) = refl
comes_bare f whole More = refl
comes_bare f whole (Dropped cause) = refl

goes_bare : (r : RspSetup) (f : Fetching) (whole : List ℕ) (g : Gathered) → goes_why r (dialogue_of f whole) g ≡ goes_why r (restored f.kept) g
goes_bare r f whole (Whole route body) = refl
goes_bare r f whole More = refl
goes_bare r f whole (Dropped cause) = refl

pub fetching_tells_why : FetchingTellsWhy
fetching_tells_why w q older f d g own walk =
    let x = fetched_walk w q older f d own walk in
    let e : Dialogue = dialogue_of f x.whole in
    let a = (walks_alike w q older d e walk x.own).alike in
    (comes_alike d e g a ∙ comes_bare f x.whole g, goes_alike (towards w.responder (known_of q)) d e g a ∙ goes_bare (towards w.responder (known_of q)) f x.whole g)

-- ---- Verify data.

bare_apart : (f : Fetching) (whole : List ℕ) (g : Gathered) → ComesApart (dialogue_of f whole) g → ComesApart (restored f.kept) g
bare_apart f whole (Whole route body) c = c
bare_apart f whole More c = c
bare_apart f whole (Dropped cause) c = c

apart_bare : (f : Fetching) (whole : List ℕ) (g : Gathered) → ComesApart (restored f.kept) g → ComesApart (dialogue_of f whole) g
apart_bare f whole (Whole route body) c = c
apart_bare f whole More c = c
apart_bare f whole (Dropped cause) c = c

-- Those of an answer depend on the round, the responder's history and the bytes.
goes_moved : (r : RspSetup) (d e : Dialogue) (g : Gathered) → Alike d e → d.fetching ≡ e.fetching → GoesApart r d g → GoesApart r e g
unfolding Answers
goes_moved r d e (Whole route body) a fetch c =
    let H : History → Type 0 = λ h. GoesApart r (dial d.setup d.requester h d.round d.sending d.fetching) (Whole route body) in
    let R : Option Round → Type 0 = λ o. GoesApart r (dial d.setup d.requester e.responder o d.sending d.fetching) (Whole route body) in
    let F : Option (List ℕ) → Type 0 = λ o. GoesApart r (dial d.setup d.requester e.responder e.round d.sending o) (Whole route body) in
    subst F fetch (subst R a.round (subst H a.responder c))
goes_moved r d e More a fetch c = c
goes_moved r d e (Dropped cause) a fetch c = c

pub fetching_tells_apart : FetchingTellsApart
fetching_tells_apart w q older f d g own walk =
    let r : RspSetup = towards w.responder (known_of q) in
    let x = fetched_walk w q older f d own walk in
    let e : Dialogue = dialogue_of f x.whole in
    let to : Alike d e = (walks_alike w q older d e walk x.own).alike in (
      (λ c. bare_apart f x.whole g (comes_one d e to x.unsent g c), λ c. comes_one e d x.alike refl g (apart_bare f x.whole g c)),
      λ whole fetches.
          let same : whole ≡ x.whole = same_Some whole x.whole (sym fetches ∙ x.fetches) in
          let F : Option (List ℕ) → Type 0 = λ o. Alike d (record (restored f.kept) { fetching = o }) in
          let goes : Alike d (dialogue_of f whole) = subst (λ (l : List ℕ). Alike d (dialogue_of f l)) (sym same) to in
          let back : Alike (dialogue_of f whole) d = subst (λ (l : List ℕ). Alike (dialogue_of f l) d) (sym same) x.alike in
          (goes_moved r d (dialogue_of f whole) g goes fetches, goes_moved r (dialogue_of f whole) d g back (sym fetches)),
    )
