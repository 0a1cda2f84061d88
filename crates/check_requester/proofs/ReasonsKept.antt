-- Why a request is refused, by what is kept.
use Rattle.std.proofs.Common.{◌≡◌, ◌∙◌, ℕ, List, [], Bool, true, false, Option, Some, None, refl, sym, ap, drop, subst}
use Rattle.std.specs.Prelude.{◌==◌, ◌&&◌, ◌||◌, if◌then◌else◌, is_some, slice_index}
use Rattle.std.proofs.lemmas.Bool.{false≢true}
use Rattle.requester_machine.specs.History.{History, outstanding}
use Rattle.requester_machine.specs.Message.{Sent}
use Rattle.requester_machine.specs.Named.{session_named}
use Rattle.requester_machine.specs.Setup.{ReqSetup}
use Rattle.check_requester.specs.JudgedRequester.{Carries}
use Rattle.check_laws.proofs.KeptParts.{none_later}
use Rattle.check_requester.proofs.OwedSent.{out_owed}
use Rattle.check_requester.proofs.OwedTook.{owed_took}
use Rattle.check_requester.specs.Asked.{IsRefusedFor}
use Rattle.check_laws.specs.Keeping.{Kept, kept_of, owing, restored}
use Rattle.check_laws.specs.Padding.{next_with}
use Rattle.check_requester.specs.RefusedRequest.{finish_apart}
use Rattle.capture_machine.specs.CapturedRequests.{is_later, owes, without_owed}
use Rattle.check_requester.specs.LargeAsked.{refused_why}
use Rattle.capture_machine.specs.Difference.{Why, asks_apart, finish_in, is_finish_apart, request_why}
use Rattle.capture_machine.specs.Difference.Why.{BadRecord, BadRequest}
use Rattle.capture_machine.specs.Opening.{opens_asking}
use Rattle.capture_machine.specs.Rounds.{Dialogue}
use Rattle.world_machine.specs.Setup.{Configuration}

-- ---- What is restored.

module _ (w : Configuration) (q : ReqSetup) (older : List (List ℕ)) (k : Kept) (keeps : Carries w q older k) where
  same_kept : kept_of (restored k) ≡ k
  same_kept = keeps.2

  pub bare_is : without_owed (restored k) ≡ k.requester
  bare_is = ap (λ (x : Kept). x.requester) same_kept

  owed_by : (b : Bool) (o : Option Sent) → owes (restored k) ≡ b → outstanding (restored k).requester ≡ o → (if b then next_with (restored k).setup.psk (restored k).requester [] o else None) ≡ k.owed → owes (restored k) ≡ is_some k.owed
  owed_by false o is waits same = is ∙ ap is_some same
  owed_by true None is waits same = absurd (false≢true (sym (ap (is_later (restored k).round) waits ∙ none_later (restored k).round) ∙ is))
  owed_by true (Some sent) is waits same = is ∙ ap is_some same

  pub owes_is : owes (restored k) ≡ is_some k.owed
  owes_is =
      owed_by (owes (restored k)) (outstanding (restored k).requester) refl refl (ap (λ (x : Kept). x.owed) same_kept)

  -- ---- Verify data.

  pub other_body : (body : List ℕ) → (slice_index body 0 == 6) ≡ false → false ≡ asks_apart (restored k) body
  other_body body is = sym (ap (λ (b : Bool). b && owes (restored k) && is_finish_apart (restored k) (drop 1 body) (finish_in (outstanding (restored k).requester))) is)

  and_none : (a b c : Bool) → b ≡ false → (a && b && c) ≡ false
  and_none true b c is = ap (λ (x : Bool). true && x && c) is
  and_none false b c is = ap (λ (x : Bool). false && x && c) is

  pub none_apart : (body : List ℕ) → is_some k.owed ≡ false → false ≡ asks_apart (restored k) body
  none_apart body is = sym (and_none (slice_index body 0 == 6) (owes (restored k)) (is_finish_apart (restored k) (drop 1 body) (finish_in (outstanding (restored k).requester))) (owes_is ∙ is))

  both_first : (a b c : Bool) → a ≡ true → b ≡ true → (a && b && c) ≡ c
  both_first true true c p r = refl
  both_first false b c p r = absurd (false≢true p)
  both_first true false c p r = absurd (false≢true r)

  finish_as : (d : Dialogue) (sealed : List ℕ) (o : Option (ℕ × List ℕ)) → is_finish_apart d sealed o ≡ finish_apart d.setup (without_owed d) sealed o
  finish_as d sealed None = refl
  finish_as d sealed (Some finish) = refl

  pub owed_apart : (body : List ℕ) (sent : Sent) → k.setup ≡ q → (slice_index body 0 == 6) ≡ true → k.owed ≡ Some sent → finish_apart q k.requester (drop 1 body) (finish_in (Some sent)) ≡ asks_apart (restored k) body
  owed_apart body sent setup secured owed =
      let d : Dialogue = restored k in
      let took = owed_took w q older k sent keeps owed in
      let waits : outstanding d.requester ≡ Some sent = ap (λ (o : Option Sent). outstanding (owing o k.requester)) owed ∙ out_owed k.requester sent took in
      let first = both_first (slice_index body 0 == 6) (owes d) (is_finish_apart d (drop 1 body) (finish_in (outstanding d.requester))) secured (owes_is ∙ ap is_some owed) in
      ap (λ (p : ReqSetup). finish_apart p k.requester (drop 1 body) (finish_in (Some sent))) (sym setup) ∙ ap (λ (h : History). finish_apart k.setup h (drop 1 body) (finish_in (Some sent))) (sym bare_is)
      ∙ ap (λ (o : Option Sent). finish_apart k.setup (without_owed d) (drop 1 body) (finish_in o)) (sym waits) ∙ sym (finish_as d (drop 1 body) (finish_in (outstanding d.requester))) ∙ sym first

  -- ---- The other reasons.

  same_opens : (body : List ℕ) → k.setup ≡ q → request_why (restored k) body ≡ refused_why q k.requester body
  same_opens body setup =
      ap (λ (h : History). refused_why k.setup h body) bare_is ∙ ap (λ (p : ReqSetup). refused_why p k.requester body) setup

  refused_by : (body : List ℕ) (b : Bool) (why : Why) → false ≡ asks_apart (restored k) body → request_why (restored k) body ≡ why → why ≡ (if b then BadRequest else BadRecord) → IsRefusedFor (restored k) body why
  refused_by body true why not told is = subst (IsRefusedFor (restored k) body) (sym is) (sym not, told ∙ is)
  refused_by body false why not told is = subst (IsRefusedFor (restored k) body) (sym is) (sym not, told ∙ is)

  -- The reason that the program tells of a request whose verify data are not alone wrong.
  pub other_why : (body : List ℕ) → k.setup ≡ q → false ≡ asks_apart (restored k) body → (why : Why) → why ≡ refused_why q k.requester body → IsRefusedFor (restored k) body why
  other_why body setup not why is =
      refused_by body (slice_index body 0 == 5 || opens_asking q (session_named k.requester (drop 1 body)) (drop 1 body)) why not (same_opens body setup ∙ sym is) is

-- ---- By what the body is.

or_first : (b c : Bool) → b ≡ true → (b || c) ≡ true
or_first true c is = refl
or_first false c is = absurd (false≢true is)

or_second : (b c : Bool) → b ≡ false → (b || c) ≡ c
or_second false c is = refl
or_second true c is = absurd (false≢true (sym is))

pub clear_other : (q : ReqSetup) (h : History) (body : List ℕ) → (slice_index body 0 == 5) ≡ true → BadRequest ≡ refused_why q h body
clear_other q h body clear = sym (ap (λ (x : Bool). if x then BadRequest else BadRecord) (or_first (slice_index body 0 == 5) _ clear))

pub sealed_other : (q : ReqSetup) (h : History) (body : List ℕ) (b : Bool) → (slice_index body 0 == 5) ≡ false → b ≡ opens_asking q (session_named h (drop 1 body)) (drop 1 body) → (if b then BadRequest else BadRecord) ≡ refused_why q h body
sealed_other q h body b other is = ap (λ (x : Bool). if x then BadRequest else BadRecord) (is ∙ sym (or_second (slice_index body 0 == 5) _ other))
