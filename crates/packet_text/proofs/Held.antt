-- The contents of a packet, part by part.
use Rattle.std.proofs.Common.{◌≡◌, ◌∙◌, Ok, Err, ap}
use Rattle.std.specs.Prelude.{OnOk, Result}
use Rattle.capture_bodies.specs.Collecting.{Large}
use Rattle.capture_bodies.specs.Completing.{Completed}
use Rattle.capture_records.specs.Showing.{Seen}
use Rattle.packet_text.specs.Shown.{Contents}

abbrev pub held : Completed → Large → Seen → Large → Contents
held done large seen inside = record { done = done; large = large; seen = seen; inside = inside }

pub same_held : {d e : Completed} {l m : Large} {s t : Seen} {i j : Large} → d ≡ e → l ≡ m → s ≡ t → i ≡ j
    → held d l s i ≡ held e m t j
same_held {d = d} {e = e} {l = l} {m = m} {s = s} {t = t} {i = i} {j = j} done large seen inside =
    ap (λ (x : Completed). held x l s i) done
    ∙ ap (λ (x : Large). held e x s i) large
    ∙ ap (λ (x : Seen). held e m x i) seen
    ∙ ap (λ (x : Large). held e m t x) inside

-- what holds whatever came of it
pub always : {A E P : Type 0} (r : Result A E) → P → OnOk r P
always (Ok a) p = p
always (Err e) p = tt
