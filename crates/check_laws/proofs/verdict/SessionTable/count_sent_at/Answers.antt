use Rattle.std.proofs.Common.{◌≡◌, ◌≤◌, ◌<◌, ◌∙◌, ap, sym, refl, inl, inr, length, ℕ, List, Option, Some, arith}
use Rattle.std.proofs.lemmas.Bool.{cases_lt, false≢true}
use Rattle.check_laws.specs.Rows.{with_sent, changed_where}
use Rattle.check_laws.specs.declared.verdict.Seen.{Seen}
use Rattle.check_laws.specs.declared.verdict.SessionTable.TheInside.{Inside}
use Rattle.check_laws.proofs.ChangedPlaces.{changed_past, written}
use Rattle.check_laws.proofs.verdict.SessionTable.count_sent_at.Goals as goal
use Rattle.check_laws.proofs.verdict.SessionTable.count_sent_at.Goals.{in-Some-get_mut, in_default-get_mut}

pub returns : goal.returns
returns c =
    let items : List Seen = c.self.inside.items.items in
    let place : ℕ = c.in-Some.place in
    let there : changed_where (Some place) with_sent items ≡ changed_where c.args.place with_sent c.args.self.now =
    ap (λ (o : Option ℕ). changed_where o with_sent items) (sym c.in-Some.is) ∙ ap (λ (xs : List Seen). changed_where c.args.place with_sent xs) c.self.view_is in
    elim c.match-get_mut.branch [
      | in-Some-get_mut w ↦
          let seen : Seen = w.in-Some-get_mut.entry.now in
          let low : place < length items = omega (arith, w.in-Some-get_mut.ensures.variant.0 refl, c.self.inside.items.ok.0) in
          ap (λ (x : Inside). x.items.items) w.self-inside-is
          ∙ written with_sent place items seen w.count_sent.new.self low (w.in-Some-get_mut.ensures.item.3.1 seen) w.count_sent.ensures
          ∙ there
      | in_default-get_mut w ↦
          let past : length items ≤ place = elim (cases_lt place (length items)) [
            | inl low ↦ absurd (false≢true (w.in_default-get_mut.ensures.variant.1 (omega (arith, low, c.self.inside.items.ok.0))))
            | inr high ↦ high
          ] in
          ap (λ (x : Inside). x.items.items) w.self-inside-is ∙ sym (changed_past with_sent place items past) ∙ there
    ]
