-- What is kept after the message that a requester owes.
use Rattle.std.proofs.Common.{◌≡◌, ◌≤◌, ◌<◌, ◌-◌, ◌^◌, ◌∙◌, ℕ, List, refl, sym, ap, subst, length, Bool, true, false, Option, Some, None, arith}
use Rattle.std.specs.Prelude.{is_some, not}
use Rattle.std.proofs.lemmas.Bool.{false≢true}
use Rattle.std.proofs.lemmas.Option.{same_Some}
use Rattle.requester_core.specs.Joined.{StandsFor}
use Rattle.requester_core.specs.Owed.{TookFor}
use Rattle.requester_machine.specs.History.{History}
use Rattle.requester_machine.specs.Message.{Sent}
use Rattle.requester_machine.specs.Setup.{ReqSetup}
use Rattle.check_requester.proofs.OwedTook.{kept_short, owed_took}
use Rattle.check_requester.specs.JudgedRequester.{Carries, IsAsker, IsGoneOn, IsKeptSetup, IsSentOwed, SendsOwed}
use Rattle.check_laws.specs.Keeping.{GoesOnKept, Kept, owing}
use Rattle.check_requester.specs.declared.judged_requester.JudgedRequester.{JudgedRequester}
use Rattle.check_requester.specs.declared.judged_setup.JudgedSetup.{JudgedSetup}
use Rattle.requester_machine.specs.Owed.{with_next}
use Rattle.world_machine.specs.Setup.{Configuration}

pub some_of : (o : Option Sent) → is_some o ≡ true → (sent : Sent) × (o ≡ Some sent)
some_of None is = absurd (false≢true is)
some_of (Some sent) is = (sent, refl)

module _ (q : ReqSetup) (k : Kept) (sent : Sent) (body : List ℕ) (setup : k.setup ≡ q) (owed : k.owed ≡ Some sent) where
  as_kept : (after : History) → SendsOwed q k.requester sent body after → GoesOnKept k body after
  as_kept after s =
      let own = subst (λ (x : ReqSetup). SendsOwed x k.requester sent body after) (sym setup) s in
      (sent, own.0, owed, own.1, own.2, own.3, own.4)

  from_kept : (after : History) → GoesOnKept k body after → SendsOwed q k.requester sent body after
  from_kept after g =
      let same : g.0 ≡ sent = same_Some g.0 sent (sym g.2 ∙ owed) in
      subst (λ (x : ReqSetup). SendsOwed x k.requester sent body after) setup
      (subst (λ (x : Sent). SendsOwed k.setup k.requester x body after) same (g.1, g.3, g.4, g.5, g.6))

  gone_by : (old new : JudgedRequester) (b : Bool) → IsAsker old q k → new.setup ≡ old.setup → new.owes ≡ not b → IsSentOwed q k.requester sent body b new.asking → IsGoneOn q k body b new
  gone_by old new true asker same owes s = (
    s.0,
    as_kept s.0 s.1,
    record {
      kept = subst (λ (x : JudgedSetup). IsKeptSetup x q) (sym same) asker.kept;
      setup = asker.setup;
      stands = s.2;
      owes = owes;
    },
  )
  gone_by old new false asker same owes s = (
    λ after g. s.0 after (from_kept after g),
    record {
      kept = subst (λ (x : JudgedSetup). IsKeptSetup x q) (sym same) asker.kept;
      setup = asker.setup;
      stands = subst (λ (o : Option Sent). StandsFor new.asking q (owing o k.requester)) (sym owed) s.1;
      owes = owes ∙ ap is_some (sym owed);
    },
  )

-- Whether a body is the message that is owed, as its sending tells.
pub gone_on_by : (w : Configuration) (q : ReqSetup) (older : List (List ℕ)) (k : Kept) (body : List ℕ) (old new : JudgedRequester) (b : Bool) → Carries w q older k → length older < 2 ^ 64 - 1 → length body ≤ 4161 → IsAsker old q k → old.owes ≡ true
    → new.setup ≡ old.setup → new.owes ≡ not b
    → ((p : ReqSetup) (bare : History) (sent : Sent) → IsKeptSetup old.setup p → TookFor bare sent.aim → length bare < 2 ^ 64 - 1 → length body ≤ 4161 → StandsFor old.asking p (with_next (Some sent) bare) → IsSentOwed p bare sent body b new.asking)
    → IsGoneOn q k body b new
gone_on_by w q older k body old new b keeps few fits asker is same owes told =
    let some = some_of k.owed (sym asker.owes ∙ is) in
    let sent : Sent = some.0 in
    let short : length k.requester < 2 ^ 64 - 1 = (let s = kept_short w q older k keeps in omega (arith, s, few)) in
    let stands = subst (λ (o : Option Sent). StandsFor old.asking q (owing o k.requester)) some.1 asker.stands in
    gone_by q k sent body asker.setup some.1 old new b asker same owes
    (told q k.requester sent asker.kept (owed_took w q older k sent keeps some.1) short fits stands)
