use Rattle.std.proofs.Common.{◌∙◌, ℕ, List, ap, length}
use Rattle.capture_records.specs.Heard.{place_in}
use Rattle.capture_records.specs.Showing.{after_record, seen_as, seen_of, shown_told}
use Rattle.capture_records.specs.declared.showing.RecordShown.{RecordShown}
use Rattle.capture_records.proofs.Shown.{kept_told_of, shown_told_of}
use Rattle.capture_records.proofs.dialogue.Dialogue.show.Goals as goal

pub returns-clause-shown : goal.returns-clause-shown
unfolding seen_of
returns-clause-shown c =
    let sealed = c.args.sealed.now in
    let out = c.open.new.inner in
    ap (λ (shown : RecordShown). seen_as shown out) c.shown_by.ensures
    ∙ ap (λ (bytes : List ℕ). seen_as (shown_told sealed c.in_ok-told.told (length bytes)) out) c.as_slice.ensures.value
    ∙ shown_told_of sealed out c.args.direction c.args.self.now (place_in c.args.self.now sealed) c.in_ok-told.told c.open.new.self c.in_ok-told.ensures

pub returns-clause-after : goal.returns-clause-after
unfolding after_record
returns-clause-after c =
    let sealed = c.args.sealed.now in
    kept_told_of sealed c.open.new.inner c.args.direction c.args.self.now (place_in c.args.self.now sealed) c.in_ok-told.told c.open.new.self c.in_ok-told.ensures
