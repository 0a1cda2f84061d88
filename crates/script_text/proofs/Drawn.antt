-- One more event of a generated script.
use Rattle.std.proofs.Common.{◌≡◌, ℕ, suc, ◌+◌, ◌++◌, List, [], ◌∷◌, add-one, ap, ◌∙◌}
use Rattle.script_text.specs.Generator.{drawn, next_drawn, events_up_to, generated_event, entry_at}
use Rattle.script_text.specs.declared.events.event.Entry.{Entry}
use Rattle.script_text.specs.declared.events.event.LinkEvent.{LinkEvent}

pub drawn-more : (seed i x y : ℕ) → x ≡ drawn seed i → y ≡ next_drawn x → y ≡ drawn seed (i + 1)
unfolding drawn
drawn-more seed i x y at next = rw add-one (next ∙ ap next_drawn at)

pub events-more : (seed i x : ℕ) (event : LinkEvent) (events more : List Entry) → events ≡ events_up_to seed i → x ≡ drawn seed (i + 1) →
    event ≡ generated_event (i + 1) x → more ≡ events ++ entry_at (16 + i) event ∷ [] → more ≡ events_up_to seed (i + 1)
unfolding events_up_to
events-more seed i x event events more so_far at is pushed =
    let plus : i + 1 ≡ suc i = add-one i in
    let event_is : event ≡ generated_event (suc i) (drawn seed (suc i)) = is ∙ ap (generated_event (i + 1)) at ∙ ap (λ n. generated_event n (drawn seed n)) plus in
    rw plus (pushed ∙ ap (λ es. es ++ entry_at (16 + i) event ∷ []) so_far ∙ ap (λ (e : LinkEvent). events_up_to seed i ++ entry_at (16 + i) e ∷ []) event_is)
